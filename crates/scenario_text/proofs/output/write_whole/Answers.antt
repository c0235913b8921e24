use Rattle.std.proofs.Common.{ℕ, ◌≤◌, ◌-◌, List, length, drop, Bor, ap, ◌∙◌, length-drop, take_all, arith}
use Rattle.scenario_text.proofs.Written.{more_written, none_written}
use Rattle.scenario_text.proofs.output.write_whole.Goals as goal
use Rattle.scenario_text.proofs.output.write_whole.Goals.{in-Ok, in-Err+else-ne}

pub loop-preserved : goal.loop-preserved
loop-preserved g c =
    let before = c.loop.invariant in
    elim c.match-write.branch [
      | in-Ok w ↦
          let rest = c.loop.rest.now in
          let whole : length (drop w.in-Ok.n rest) ≤ length rest - w.in-Ok.n = rw length-drop (omega arith) in
          let left = ap (λ (r : Bor (List ℕ)). r.now) w.rest-is ∙ take_all _ (drop w.in-Ok.n rest) whole in
          more_written _ _ _ _ _ _ _ w.in-Ok.n c.min.result before.1 before.2 w.in-Ok.ensures.bound w.in-Ok.ensures.bytes left
      | in-Err+else-ne w ↦
          let left = ap (λ (r : Bor (List ℕ)). r.now) w.rest-is in
          none_written _ _ _ _ _ _ _ before.1 before.2 w.in-Err.ensures.bytes left
    ]
