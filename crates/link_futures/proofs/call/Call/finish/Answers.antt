use Rattle.std.proofs.Common.{◌≡◌, ◌-◌, length, take, drop, length-drop, arith, rules}
use Rattle.std.proofs.lemmas.List.{take_all}
use Rattle.link_futures.proofs.call.Call.finish.Goals.{in-Ok, in-Err}
use Rattle.link_futures.proofs.call.Call.finish.Goals as goal

pub returns-clause-member : goal.returns-clause-member
returns-clause-member g c =
    let reply = c.args.self.reply.items in
    let behind : take (length reply - 4) (drop 4 reply) ≡ drop 4 reply = take_all (length reply - 4) (drop 4 reply) (omega (arith, length-drop 4 reply)) in
    elim c.match-end.branch [
      | in-Ok w ↦ rw (w.member-is, w.in-Ok.is) (rw (w.as_slice.ensures, behind) at w.take.ensures)
      | in-Err w ↦ rw (w.member-is, w.in-Err.is) (search rules)
    ]
