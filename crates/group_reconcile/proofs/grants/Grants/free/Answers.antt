use Rattle.std.proofs.Common.{◌≡◌, Bool, true, false, not, refl, sym, ap, ◌∙◌, Option, Some, None, is_none, is_some, true≢false}
use Rattle.std.specs.Option.{option_map}
use Rattle.std.specs.FinMap as finite
use Rattle.group_reconcile.specs.declared.cell.Cell.{Cell}
use Rattle.group_reconcile.specs.Granted.{held_by}
use Rattle.group_reconcile.specs.Members.{MemberTable}
use Rattle.group_reconcile.proofs.Granted.{get-holders_of}
use Rattle.group_reconcile.proofs.grants.Grants.free.Goals as goal

not_some : (ms : MemberTable) (o : Option Cell) (b : Bool) → is_some o ≡ not b → b ≡ is_none (option_map (held_by ms) o)
not_some ms None true is = refl
not_some ms None false is = absurd (true≢false (sym is))
not_some ms (Some c) true is = absurd (true≢false is)
not_some ms (Some c) false is = refl

pub returns : goal.returns
returns c =
    let ms = c.self.inside.members in
    let cells = c.self.inside.table.cells in
    let p = c.args.p.now in
    not_some ms (finite.get cells p) c.is_none.result (ap is_some (sym c.get.ensures) ∙ c.is_none.ensures)
    ∙ ap is_none (sym (get-holders_of ms cells p)) ∙ ap (λ h. is_none (finite.get h p)) c.self.view_is
