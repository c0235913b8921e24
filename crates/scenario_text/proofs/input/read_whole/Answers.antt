use Rattle.std.proofs.Common.{◌<◌, length, arith}
use Rattle.scenario_text.specs.Inputs.{LONGEST_INPUT}
use Rattle.scenario_text.proofs.Inputs.{whole_below_limit, long_at_limit}
use Rattle.scenario_text.proofs.input.read_whole.Goals as goal

pub returns-then-len-gt-LONGEST_INPUT-clause-too_long : goal.returns-then-len-gt-LONGEST_INPUT-clause-too_long
returns-then-len-gt-LONGEST_INPUT-clause-too_long g c =
    let same = c.read_to_end.new.buf.ok.0 in
    let above : LONGEST_INPUT < length c.read_to_end.new.buf.items = omega arith in
    λ _. rw c.take.ensures.inner at (long_at_limit _ c.take.result.limit LONGEST_INPUT _ _ c.in_default.ensures.bytes c.new-input.ensures.items above)

pub returns-clause-whole : goal.returns-clause-whole
returns-clause-whole g c =
    let same = c.read_to_end.new.buf.ok.0 in
    let below : length c.read_to_end.new.buf.items < c.take.result.limit = omega arith in
    rw c.take.ensures.inner at (whole_below_limit _ c.take.result.limit _ _ c.in_default.ensures.bytes c.new-input.ensures.items below)
