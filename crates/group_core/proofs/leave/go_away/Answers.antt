use Rattle.std.proofs.Common.{rules, ◌≡◌, ◌∙◌, ap, sym, subst}
use Rattle.std.specs.FinMap as finite
use Rattle.group_types.specs.Group.{Group}
use Rattle.group_types.specs.Leave.{away, gone_away}
use Rattle.group_epochs.specs.Records.{Marks}
use Rattle.group_core.specs.GroupView.{group_of}
use Rattle.group_core.specs.Steady.{AreMarked}
use Rattle.group_core.proofs.Responses.{of_farewell}
use Rattle.group_core.proofs.Marking.{marked_away}
use Rattle.group_epochs.proofs.Senders.{there_is}
use Rattle.group_core.proofs.leave.go_away.Goals as goal

pub returns-clause-group : goal.returns-clause-group
returns-clause-group c =
    let s = c.args.state.now in
    let m = c.args.member.now in
    let (r, is) = there_is (finite.get s.records.records m) c.requires.there in (
      r,
      is,
      λ i. record (group_of s) {
        records = (c.away.ensures.records r is ∙ ap (λ now. finite.insert s.records.records m (away r c.args.stamp now)) c.later-now.ensures) i;
        past = c.away.ensures.past i;
        clock = c.later-now.ensures i;
      },
    )

pub returns-clause-keeps : goal.returns-clause-keeps
returns-clause-keeps c =
    let s = c.args.state.now in
    let m = c.args.member.now in
    let (r, is) = there_is (finite.get s.records.records m) c.requires.there in
    let new : Group = record (group_of s) { records = c.away.new.self.records; past = c.away.new.self.past; clock = c.later-now.result } in
    let same : new ≡ gone_away (group_of s) m r c.args.stamp c.args.moment =
    λ i. record (group_of s) {
      records = (c.away.ensures.records r is ∙ ap (λ now. finite.insert s.records.records m (away r c.args.stamp now)) c.later-now.ensures) i;
      past = c.away.ensures.past i;
      clock = c.later-now.ensures i;
    } in
    let marks = subst (λ (ms : Marks). AreMarked new ms) (sym c.away.ensures.marks)
    (subst (λ (g : Group). AreMarked g (finite.remove s.records.marks m)) (sym same) (marked_away (group_of s) s.records.marks c.requires.marks m r c.args.stamp c.args.moment)) in
    record { out = search rules; marks = marks; err = tt }

pub returns-clause-response : goal.returns-clause-response
returns-clause-response c = λ image. of_farewell _ _ image _ (search rules) c.args.member.now 1 (search rules)
