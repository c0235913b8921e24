use Rattle.std.proofs.Common.{rules}
use Rattle.std.proofs.lemmas.Fn.{always_returns_same}
use Rattle.group_types.specs.Text.{text_cmp}
use Rattle.range_assign.proofs.IdOrder.{IsPlace-searched}
use Rattle.range_assign.proofs.spread.place_of.Goals as goal

pub returns : goal.returns
returns c =
    IsPlace-searched c.args.shares.now c.args.id.now _ c.requires c.binary_search_by.ensures.bound
    (c.binary_search_by.ensures.position (λ s. text_cmp s.id c.args.id.now) (always_returns_same _ _ _ (λ a r g h. search rules)))
