use Rattle.std.proofs.Common.{◌≢◌, []}
use Rattle.scenario_text.proofs.Digits.{is_not_empty}
use Rattle.scenario_text.proofs.Reported.{on_ok_both}
use Rattle.scenario_lines.proofs.Requested.{is_begun, no_digits, no_empty_request, no_request, request_done}
use Rattle.scenario_lines.proofs.replier.ReplierLineWorker.line.Goals as goal

pub returns-clause-printed : goal.returns-clause-printed
returns-clause-printed c =
    let line = c.args.line.now in
    let digits = c.in-Some.digits.now in
    let begun = is_begun line digits c.in-Some.ensures.cases.0 c.in-Some.ensures.cases.1 in
    let some : digits ≢ [] = is_not_empty digits c.is_empty.result c.is_empty.ensures c.if-is_empty.false in
    rw (← c.self.view_is)
    (on_ok_both c.request.result _ _ _
    (λ prints counted. request_done c.self.inside.interpreter c.request.new.self line digits c.args.output.now c.request.new.output begun some prints counted
    c.request.ensures.kept)
    c.request.ensures.printed c.request.ensures.counted)

pub returns-clause-refused : goal.returns-clause-refused
returns-clause-refused c = λ bad is.
    let begun = is_begun c.args.line.now c.in-Some.digits.now c.in-Some.ensures.cases.0 c.in-Some.ensures.cases.1 in
    no_request c.args.line.now c.in-Some.digits.now begun (c.request.ensures.refused bad) is

pub returns-then-is_empty-clause-refused : goal.returns-then-is_empty-clause-refused
returns-then-is_empty-clause-refused c = λ bad is.
    let digits = c.in-Some.digits.now in
    let begun = is_begun c.args.line.now digits c.in-Some.ensures.cases.0 c.in-Some.ensures.cases.1 in
    no_empty_request c.args.line.now digits begun (no_digits digits c.is_empty.result c.is_empty.ensures c.if-is_empty.true) is
