use Rattle.scenario_text.specs.Lines.{lines_of}
use Rattle.scenario_text.proofs.Running.{HasDone}
use Rattle.scenario_text.proofs.driver.do_input.Given as goal

abbrev pub invariant-loop-index : goal.invariant-loop-index
invariant-loop-index g l =
    HasDone g.L.LineWorker.does (lines_of l.input) (lines_of l.index-iterator.iter.rest.now) l.index-iterator.count
    l.initial.worker l.worker l.output (g.W.Write.contents l.initial.writer) (g.W.Write.contents l.writer)
