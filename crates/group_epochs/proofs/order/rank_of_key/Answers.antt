use Rattle.std.proofs.Common.{rules, subst}
use Rattle.std.specs.List.Sorted.{IsSearchInRange}
use Rattle.std.specs.Option.{option_copied}
use Rattle.std.proofs.lemmas.Fn.{always_returns_same}
use Rattle.group_types.specs.Places.{key_at}
use Rattle.group_epochs.specs.Table.{key_cmp, keys_in, no_key}
use Rattle.group_epochs.proofs.Keys.{key_cmp_total, key_cmp-IsAntisymmetric}
use Rattle.group_types.proofs.Ordered.{rank_searched}
use Rattle.group_epochs.proofs.order.rank_of_key.Goals as goal

pub returns : goal.returns
returns c =
    rank_searched key_cmp key_cmp_total key_cmp-IsAntisymmetric no_key (keys_in c.args.members.now.entries) c.args.places.now.items _ _ c.requires
    (subst (IsSearchInRange c.binary_search_by.result) c.args.places.now.ok.0 c.binary_search_by.ensures.bound)
    (c.binary_search_by.ensures.position (λ k. key_cmp (key_at no_key (keys_in c.args.members.now.entries) k) (option_copied c.args.instance, c.args.id.now)) (always_returns_same _ _ _ (λ a r g h. search rules)))
