use Rattle.std.proofs.Common.{◌∙◌, sym, ap}
use Rattle.scenario_lines.specs.Stamps.{stamp_of}
use Rattle.scenario_lines.specs.declared.interpreter.Interpreter.{Interpreter}
use Rattle.scenario_lines.proofs.Prints.{answer_is_printed, OnOk-by}
use Rattle.scenario_lines.proofs.interpreter.Interpreter.request.Goals as goal

pub returns-clause-printed : goal.returns-clause-printed
returns-clause-printed c =
    let requests = ap (λ (i : Interpreter). i.stamps.requests) c.answer.ensures.kept in
    let asked = c.next_stamp-stamp.ensures.value ∙ ap (λ n. stamp_of c.args.self.now.stamps.given n) (sym requests) in
    OnOk-by c.print.result _ _
    (answer_is_printed _ _ _ _ _ _ _ _ _ _ _ _ _ _ c.in_ok-decode_into.ensures.bytes c.as_slice.ensures.value asked c.in_ok-answered.ensures.answered
    c.clear.ensures.items c.as_slice-2.ensures.value)
    c.print.ensures.ok
