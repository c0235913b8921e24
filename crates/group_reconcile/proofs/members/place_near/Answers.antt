use Rattle.std.proofs.Common.{◌≡◌, ◌<◌, length, true, ap, arith, sym, ◌∙◌}
use Rattle.std.specs.Cmp.{Equal-is}
use Rattle.std.specs.Ordering.{is_eq}
use Rattle.std.proofs.lemmas.List.{get_or_default}
use Rattle.group_types.specs.Text.{text_cmp}
use Rattle.group_types.proofs.Orders.{text_cmp-IsAntisymmetric}
use Rattle.group_reconcile.specs.Members.{id_of}
use Rattle.group_reconcile.proofs.members.place_near.Goals as goal

pub returns-then-is_eq : goal.returns-then-is_eq
returns-then-is_eq c =
    let ms = c.args.members.now in
    let ns = c.args.numbers.now.items in
    let n = c.index.result.now in
    let id = c.args.id.now in
    let within : c.args.near < length ns = omega (arith, c.if-near-len.true, c.len.ensures) in
    let tie : is_eq (text_cmp (id_of ms n) id) ≡ true = ap is_eq (sym c.compare.ensures) ∙ sym c.is_eq.ensures ∙ c.if-is_eq.true in
    let same : id_of ms n ≡ id = text_cmp-IsAntisymmetric (id_of ms n) id ((Equal-is (text_cmp (id_of ms n) id)).0 tie) in
    (within, λ d. ap (id_of ms) (get_or_default ns c.args.near d n within ∙ sym c.index.ensures) ∙ same)
