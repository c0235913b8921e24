use Rattle.std.proofs.Common.{◌≡◌, sym, ap, ◌∙◌}
use Rattle.std.specs.Ordering.{int_cmp, is_lt, ordering_then}
use Rattle.std.proofs.lemmas.Slice.Eq.{bytes_eq-Decides}
use Rattle.group_types.specs.Text.{text_cmp}
use Rattle.group_types.proofs.Orders.{text_cmp-itself}
use Rattle.group_types.proofs.part_set.comes_before.Goals as goal

pub returns-then-eq : goal.returns-then-eq
returns-then-eq c =
    let one = c.args.one.now in
    let other = c.args.other.now in
    let same : one.topic ≡ other.topic = (bytes_eq-Decides one.topic other.topic).0 (sym c.eq.ensures ∙ c.if-eq.true) in
    let tie = ap (text_cmp one.topic) (sym same) ∙ text_cmp-itself one.topic in
    c.is_lt.ensures ∙ ap is_lt (c.cmp.ensures ∙ sym (ap (λ o. ordering_then o (int_cmp one.index other.index)) tie))
