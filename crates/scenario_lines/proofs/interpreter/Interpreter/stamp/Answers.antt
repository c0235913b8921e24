use Rattle.std.proofs.Common.{◌≡◌, ◌<◌, ◌^◌, decimal}
use Rattle.scenario_text.proofs.TopicWords.{found_is, word_at}
use Rattle.scenario_lines.proofs.Commanded.{stamp_done}
use Rattle.scenario_lines.proofs.interpreter.Interpreter.stamp.Goals as goal

pub returns-clause-done : goal.returns-clause-done
returns-clause-done c =
    let words = c.args.arguments.now in
    let first = found_is c.number_of.result _ c.in_ok-connection.connection (λ n. (n < 2 ^ 64) × (word_at words 0 ≡ decimal n)) c.in_ok-connection.ensures.value c.number_of.ensures.some in
    let second = found_is c.number_of-2.result _ c.in_ok-frame.frame (λ n. (n < 2 ^ 64) × (word_at words 1 ≡ decimal n)) c.in_ok-frame.ensures.value c.number_of-2.ensures.some in
    rw c.give.ensures
    (stamp_done c.args.self.now (record { connection = c.in_ok-connection.connection; frame = c.in_ok-frame.frame }) words c.in-len2.len_at_least c.in-len2.len_below first second)
