use Rattle.std.proofs.Common.{◌≡◌, ◌<◌, ◌^◌, decimal}
use Rattle.scenario_text.proofs.TopicWords.{found_is, word_at}
use Rattle.scenario_lines.proofs.Commanded.{now_done}
use Rattle.scenario_lines.proofs.interpreter.Interpreter.now.Goals as goal

pub returns-clause-done : goal.returns-clause-done
returns-clause-done c =
    let old = c.args.self.now in
    let spelled = found_is c.number_of.result _ c.in_ok-millis.millis (λ n. (n < 2 ^ 64) × (word_at c.args.arguments.now 0 ≡ decimal n)) c.in_ok-millis.ensures.value c.number_of.ensures.some in
    let done = now_done old c.in_ok-millis.millis c.args.arguments.now c.in-len1.len_at_least c.in-len1.len_below spelled in
    rw c.of_millis-self.ensures done
