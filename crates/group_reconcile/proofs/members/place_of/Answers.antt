use Rattle.std.proofs.Common.{rules, subst}
use Rattle.std.specs.List.Sorted.{IsSearchInRange}
use Rattle.std.proofs.lemmas.Fn.{always_returns_same}
use Rattle.group_types.specs.Text.{text_cmp}
use Rattle.group_reconcile.specs.Members.{id_of}
use Rattle.group_reconcile.proofs.Numbers.{IsPlace-searched}
use Rattle.group_reconcile.proofs.members.place_of.Goals as goal

pub returns : goal.returns
returns c =
    IsPlace-searched c.args.members.now c.args.id.now c.args.numbers.now.items _ c.requires (subst (IsSearchInRange c.binary_search_by.result) c.args.numbers.now.ok.0 c.binary_search_by.ensures.bound)
    (c.binary_search_by.ensures.position (λ k. text_cmp (id_of c.args.members.now k) c.args.id.now) (always_returns_same _ _ _ (λ a r g h. search rules)))
