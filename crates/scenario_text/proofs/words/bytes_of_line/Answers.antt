use Rattle.std.proofs.Common.{◌≢◌, []}
use Rattle.scenario_text.proofs.Digits.{if_ok_by, digits_are_a_line, no_frame_line, is_not_empty}
use Rattle.scenario_text.proofs.words.bytes_of_line.Goals as goal

pub returns-clause-bytes : goal.returns-clause-bytes
returns-clause-bytes c =
    let line = c.args.line.now in
    let some : line ≢ [] = is_not_empty line c.is_empty.result c.is_empty.ensures c.if-is_empty.false in
    if_ok_by c.decoded.result _ _ c.decoded.ensures.bytes (λ bytes spelled. digits_are_a_line line bytes.items some spelled)

pub returns-clause-refused : goal.returns-clause-refused
returns-clause-refused c = λ bad. no_frame_line c.args.line.now (c.decoded.ensures.refused bad)
