use Rattle.std.proofs.Common.{◌≡◌, ◌+◌, Some, inl, ap, ◌∙◌, arith, sym, subst}
use Rattle.std.specs.declared.iter.Enumerate.{Enumerate}
use Rattle.std.specs.Result.{result_err}
use Rattle.scenario_text.specs.declared.lines.Lines.{Lines}
use Rattle.scenario_text.specs.Lines.{lines_of}
use Rattle.scenario_text.specs.Runs.{LineEnds}
use Rattle.scenario_text.proofs.CutLines.{length-lines_of-le}
use Rattle.scenario_text.proofs.Running.{HasDone, HasDone-more, Ends-at_line, Ends-behind_lines}
use Rattle.scenario_text.proofs.driver.do_input.Goals as goal

pub loop-index-init-derived : goal.loop-index-init-derived
loop-index-init-derived g c =
    let lines = c.into_iter-index-iterator.result in
    let same = c.into_iter-index-iterator.ensures.into_iter_gives in
    let none_yet : lines.count ≡ 0 = ap (λ (l : Enumerate Lines). l.count) same ∙ c.enumerate-index-items.ensures.count in
    let source = ap (λ (l : Enumerate Lines). l.iter) same ∙ c.enumerate-index-items.ensures.source in
    let bytes = ap (λ (l : Lines). l.rest.now) source ∙ c.of.ensures in
    let few = length-lines_of-le lines.iter.rest.now in
    ((tt, tt, inl (omega arith)), tt)

pub loop-index-preserved : goal.loop-index-preserved
loop-index-preserved g c =
    let does = g.L.LineWorker.does in
    let lines = lines_of c.args.input.now in
    let step = c.in-Some.ensures.steps in
    let h = subst (λ l. HasDone does lines l c.loop-index.index-iterator.count c.args.worker.now c.loop-index.worker c.loop-index.output
    (g.W.Write.contents c.args.writer.now) (g.W.Write.contents c.loop-index.writer)) step.0 c.loop-index.invariant in
    subst (λ n. HasDone does lines (lines_of c.next.new.self.iter.rest.now) n c.args.worker.now c.do_line.new.worker c.do_line.new.output
    (g.W.Write.contents c.args.writer.now) (g.W.Write.contents c.do_line.new.writer)) (sym step.2)
    (HasDone-more does g.L.LineWorker.takes lines (lines_of c.next.new.self.iter.rest.now) c.in-Some.line.now (c.in-Some.index + 1) c.loop-index.index-iterator.count
    c.args.worker.now c.loop-index.worker c.do_line.new.worker c.loop-index.output c.do_line.new.output
    (g.W.Write.contents c.args.writer.now) (g.W.Write.contents c.loop-index.writer) (g.W.Write.contents c.do_line.new.writer) h c.in_default.ensures)

pub returns-in-Err : goal.returns-in-Err
returns-in-Err g c =
    let does = g.L.LineWorker.does in
    let takes = g.L.LineWorker.takes in
    let lines = lines_of c.args.input.now in
    let step = c.in-Some.ensures.steps in
    let h = subst (λ l. HasDone does lines l c.loop-index.index-iterator.count c.args.worker.now c.loop-index.worker c.loop-index.output
    (g.W.Write.contents c.args.writer.now) (g.W.Write.contents c.loop-index.writer)) step.0 c.loop-index.invariant in
    let ends = subst (λ n. LineEnds does takes c.loop-index.worker c.in-Some.line.now (n + 1) c.do_line.new.worker c.loop-index.output c.do_line.new.output
    (g.W.Write.contents c.loop-index.writer) (g.W.Write.contents c.do_line.new.writer) (Some c.in-Err.fault)) step.1 c.in-Err.ensures in
    Ends-at_line does takes g.L.LineWorker.closes lines (lines_of c.next.new.self.iter.rest.now) c.in-Some.line.now c.loop-index.index-iterator.count
    c.args.worker.now c.loop-index.worker c.do_line.new.worker c.loop-index.output c.do_line.new.output
    (g.W.Write.contents c.args.writer.now) (g.W.Write.contents c.loop-index.writer) (g.W.Write.contents c.do_line.new.writer) c.in-Err.fault h ends

pub returns : goal.returns
returns g c =
    let does = g.L.LineWorker.does in
    let takes = g.L.LineWorker.takes in
    let lines = lines_of c.args.input.now in
    let before = g.W.Write.contents c.args.writer.now in
    let between = g.W.Write.contents c.loop-index.writer in
    let after = g.W.Write.contents c.finish.new.writer in
    Ends-behind_lines does takes g.L.LineWorker.closes lines (lines_of c.loop-index.index-iterator.iter.rest.now) c.loop-index.index-iterator.count c.args.worker.now c.loop-index.worker
    c.loop-index.output before between after (result_err c.finish.result) c.loop-index.invariant c.in-None.ensures.steps.0.0 c.finish.ensures
