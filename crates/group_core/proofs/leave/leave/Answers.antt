use Rattle.std.proofs.Common.{rules, ◌≡◌, sym, subst}
use Rattle.std.specs.FinMap as finite
use Rattle.group_reconcile.specs.Holders.{pairs}
use Rattle.group_types.specs.Group.{Group}
use Rattle.group_types.specs.Leave.{left}
use Rattle.group_epochs.specs.Records.{Marks}
use Rattle.group_core.specs.GroupView.{group_of}
use Rattle.group_core.specs.Steady.{AreMarked}
use Rattle.group_core.proofs.Responses.{of_farewell}
use Rattle.group_core.proofs.Marking.{marked_left}
use Rattle.group_core.proofs.Sinces.{let_go_since}
use Rattle.group_core.proofs.leave.leave.Goals as goal

pub returns-clause-keeps : goal.returns-clause-keeps
returns-clause-keeps c =
    let s = c.args.state.now in
    let gone : Group = left (group_of s) c.args.member.now c.args.stamp c.args.moment in
    let new : Group = record (group_of s) {
      epoch = c.risen-state.result;
      target_epoch = c.drop_member.new.self.epoch;
      records = c.leave.new.self.records;
      past = c.leave.new.self.past;
      target = c.drop_member.new.self.owners;
      grants = pairs c.drop_member-2.new.self;
      clock = c.later-state.result;
    } in
    let same : new ≡ gone =
    λ i. record (group_of s) {
      epoch = c.risen-state.ensures i;
      target_epoch = c.drop_member.ensures.epoch i;
      records = (c.leave.ensures.members i).records;
      past = (c.leave.ensures.members i).past;
      target = c.drop_member.ensures.owners i;
      grants = c.drop_member-2.ensures.grants i;
      clock = c.later-state.ensures i;
    } in
    let marks = subst (λ (ms : Marks). AreMarked new ms) (sym c.leave.ensures.marks)
    (subst (λ (g : Group). AreMarked g (finite.remove s.records.marks c.args.member.now)) (sym same) (marked_left (group_of s) s.records.marks c.requires.marks c.args.member.now c.args.stamp c.args.moment)) in
    record { out = search rules; marks = marks; err = tt }

pub returns-clause-response : goal.returns-clause-response
returns-clause-response c = λ image. of_farewell _ _ image _ (search rules) c.args.member.now 0 (search rules)

pub returns-clause-holders : goal.returns-clause-holders
returns-clause-holders c =
    record { since = let_go_since c.args.state.now.grants c.drop_member-2.new.self _ c.drop_member-2.ensures.since; err = tt }
