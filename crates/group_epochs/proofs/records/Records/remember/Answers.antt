use Rattle.std.proofs.Common.{◌<◌, length, sym, ap, subst, ◌∙◌, arith}
use Rattle.std.specs.FinMap as finite
use Rattle.group_types.specs.Limits.{MOST_PAST_MEMBERS}
use Rattle.group_types.specs.Members.{past_stamp}
use Rattle.group_epochs.specs.Records.{RecordsState, members_in}
use Rattle.group_epochs.proofs.Restoring.{table_behind, unknown_absent}
use Rattle.group_epochs.proofs.Tabled.{entry_absent}
use Rattle.group_epochs.proofs.records.Records.remember.Goals as goal

pub remember-requires-clause-new : goal.remember-requires-clause-new
remember-requires-clause-new c =
    ap (λ p. past_stamp p c.args.id) (c.make_room.ensures.past ∙ ap (λ (s : RecordsState). s.past) c.self.view_is)
    ∙ (unknown_absent (members_in c.args.self.now) c.args.id c.requires.new).1

pub invariant_of-self-2 : goal.invariant_of-self-2
invariant_of-self-2 c =
    let whole = c.self.invariant in
    let absent = entry_absent c.self.inside.members c.args.id
    (ap (λ (s : RecordsState). finite.get s.records c.args.id) c.self.view_is ∙ (unknown_absent (members_in c.args.self.now) c.args.id c.requires.new).0) in
    let few = subst (λ (s : RecordsState). length s.past < MOST_PAST_MEMBERS) (sym c.self.view_is) c.requires.few in
    record {
      table =
          table_behind c.self.inside.members c.self.inside.past c.make_room.new.self c.remember.new.self c.args.id c.args.stamp whole.table few
          c.make_room.ensures.past c.remember.ensures.past absent
          (omega (arith, c.in_ok-make_room.ensures.room, c.len.ensures.len, c.len-2.ensures.len)) c.remember.ensures.places;
      member_order = whole.member_order;
      counted = whole.counted;
      some = whole.some;
      deadlines = whole.deadlines;
      none_before = whole.none_before;
    }
