use Rattle.scenario_text.specs.Lines.{is_line_feed}
use Rattle.scenario_text.proofs.FirstBytes.{position-from_first}
use Rattle.scenario_text.proofs.lines.line_feed_in.Goals as goal

pub returns : goal.returns
returns c = position-from_first is_line_feed c.args.input.now c.memchr.result c.memchr.ensures
