use Rattle.std.proofs.Common.{[], rules, subst}
use Rattle.std.specs.List.Sorted.{IsSearchInRange}
use Rattle.std.proofs.lemmas.Fn.{always_returns_same}
use Rattle.group_types.specs.Text.{text_cmp}
use Rattle.group_types.proofs.Orders.{text_cmp_total, text_cmp-IsAntisymmetric}
use Rattle.group_epochs.specs.Table.{text_at, texts_in}
use Rattle.group_types.proofs.Ordered.{rank_searched}
use Rattle.group_epochs.proofs.table.rank_of.Goals as goal

pub returns : goal.returns
returns c =
    rank_searched text_cmp text_cmp_total text_cmp-IsAntisymmetric [] (texts_in c.args.members.now.entries) c.args.by_id.now.items c.args.id.now _ c.requires.rise (subst (IsSearchInRange c.binary_search_by.result) c.args.by_id.now.ok.0 c.binary_search_by.ensures.bound)
    (c.binary_search_by.ensures.position (λ k. text_cmp (text_at (texts_in c.args.members.now.entries) k) c.args.id.now) (always_returns_same _ _ _ (λ a r g h. search rules)))
