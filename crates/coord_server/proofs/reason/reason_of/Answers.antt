use Rattle.std.proofs.Common.{Option, IfSome, subst, sym}
use Rattle.coord_server.specs.declared.reason.Reason.{Reason}
use Rattle.coord_server.specs.Reasons.{IsReason}
use Rattle.coord_server.proofs.reason.reason_of.Goals.{in-Ok, in-Err}
use Rattle.coord_server.proofs.reason.reason_of.Goals as goal

pub returns : goal.returns
returns c =
    let P : Option Reason → Type 0 = λ reason. IfSome reason (IsReason c.args.body.now) in
    elim c.match-read_request.branch [
      | in-Ok w ↦ subst P (sym w.result-is) (_, w.in-Ok.ensures.found)
      | in-Err w ↦ subst P (sym w.result-is) w.reason_of_fault.ensures
    ]
