use Rattle.std.proofs.Common.{◌≡◌, Option, Some, None, IsSome, refl, sym, ap, subst, ◌∙◌, true≢false}
use Rattle.std.specs.Option.{option_map}
use Rattle.std.specs.FinMap as finite
use Rattle.group_types.specs.Text.{Text}
use Rattle.group_types.specs.Owners.{without_owner}
use Rattle.group_types.specs.Group.{Group, Record}
use Rattle.group_types.specs.Settle.{grants_of_others}
use Rattle.group_types.specs.Leave.{without_member}
use Rattle.group_types.proofs.Lookups.{some_is}
use Rattle.group_reconcile.specs.Holders.{pairs}
use Rattle.group_epochs.specs.Records.{Marks}
use Rattle.group_epochs.specs.Table.{member_at}
use Rattle.group_core.specs.GroupView.{group_of}
use Rattle.group_core.specs.Steady.{AreMarked}
use Rattle.group_core.proofs.Marking.{marked_without}
use Rattle.group_core.proofs.tick.remove_at.Goals as goal

pub returns-clause-marks : goal.returns-clause-marks
returns-clause-marks c = by (member_at c.args.state.now.records.records c.args.rank) refl c.requires.there c.in-Some.ensures
  where
    by : (o : Option (Text × Record)) → member_at c.args.state.now.records.records c.args.rank ≡ o → IsSome o → Some c.in-Some.id.now ≡ option_map (λ (e : Text × Record). e.0) o
        → AreMarked (record (group_of c.args.state.now) {
          target_epoch = c.drop_member.new.self.epoch;
          records = c.leave_at.new.self.records;
          past = c.leave_at.new.self.past;
          target = c.drop_member.new.self.owners;
          grants = pairs c.drop_member-2.new.self;
        }) c.leave_at.new.self.marks
    by None at there is = absurd (true≢false (sym there))
    by (Some e) at there is =
        let s = c.args.state.now in
        let id : c.in-Some.id.now ≡ e.0 = some_is c.in-Some.id.now e.0 is in
        let members = c.leave_at.ensures.members e.0 e.1 at in
        let new : Group = record (group_of s) {
          target_epoch = c.drop_member.new.self.epoch;
          records = c.leave_at.new.self.records;
          past = c.leave_at.new.self.past;
          target = c.drop_member.new.self.owners;
          grants = pairs c.drop_member-2.new.self;
        } in
        let same : new ≡ without_member (group_of s) e.0 e.1.stamp =
        λ i. record (group_of s) {
          target_epoch = c.drop_member.ensures.epoch i;
          records = (members i).records;
          past = (members i).past;
          target = (c.drop_member.ensures.owners ∙ ap (without_owner s.target.owners) (c.as_str-id.ensures.value ∙ id)) i;
          grants = (c.drop_member-2.ensures.grants ∙ ap (grants_of_others (pairs s.grants)) (c.as_str-id.ensures.value ∙ id)) i;
        } in
        subst (λ (ms : Marks). AreMarked new ms) (sym (c.leave_at.ensures.marks e.0 e.1 at))
        (subst (λ (g : Group). AreMarked g (finite.remove s.records.marks e.0)) (sym same) (marked_without (group_of s) s.records.marks c.requires.marks e.0 e.1.stamp))
