use Rattle.std.proofs.Common.{◌≢◌, ℕ, length, ap, ◌∙◌}
use Rattle.group_types.specs.Group.{Group}
use Rattle.group_types.specs.Leave.{risen}
use Rattle.group_types.specs.Tick.{due, expired}
use Rattle.group_core.specs.GroupView.{group_of}
use Rattle.group_core.proofs.Marking.{marked_at}
use Rattle.group_core.proofs.Ticking.{expired_some}
use Rattle.group_core.proofs.tick.tick.Goals as goal

pub remove_due-removed-requires-clause-marks : goal.remove_due-removed-requires-clause-marks
remove_due-removed-requires-clause-marks c =
    let s = c.args.state.now in
    marked_at (group_of s) s.records.marks c.requires.marks s.epoch c.later-state.result s.offsets

pub returns-then-removed-ne0-clause-ticked : goal.returns-then-removed-ne0-clause-ticked
returns-then-removed-ne0-clause-ticked c =
    let s = c.args.state.now in
    let clocked : Group = record (group_of s) { clock = c.later-state.result } in
    let some : length (due clocked) ≢ 0 = λ none. c.if-removed-ne0.true (c.remove_due-removed.ensures.removed ∙ none) in
    (λ i. record (c.remove_due-removed.ensures.group i) { epoch = (c.risen-state.ensures ∙ ap (λ (g : Group). risen g.epoch) c.remove_due-removed.ensures.group) i })
    ∙ expired_some clocked (due clocked) some
    ∙ ap (λ (clock : ℕ). let g : Group = record (group_of s) { clock = clock } in expired g (due g)) c.later-state.ensures

pub returns-then-removed-ne0-clause-marks : goal.returns-then-removed-ne0-clause-marks
returns-then-removed-ne0-clause-marks c =
    let s = c.remove_due-removed.new.state in
    marked_at (group_of s) s.records.marks c.remove_due-removed.ensures.marks c.risen-state.result s.clock s.offsets
