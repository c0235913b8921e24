-- Steps of the two newcomers' group: the first one is asked to give up its partition, and does so.
use Rattle.std.proofs.Common.{◌≡◌, ◌<◌, ◌==◌, ◌||◌, pos, Bool, true, false, List, [], ◌∷◌, refl, sym, ap, arith}
use Rattle.std.proofs.lemmas.Bool.{and_right}
use Rattle.std.specs.Prelude.{int_le}
use Rattle.std.specs.FinMap as finite
use Rattle.group_types.specs.Limits.{GREATEST_EPOCH}
use Rattle.group_types.specs.Group.{Group, starting_group}
use Rattle.group_types.specs.Request.{Heartbeat, is_invalid, is_unsupported}
use Rattle.group_types.specs.HeartbeatStep.{Replied}
use Rattle.group_types.specs.Laws.{EveryGroupIsSound, GroupEvent, OfHeartbeat, IsGroupRun}
use Rattle.group_types.proofs.MadeIds.{length-made_id}
use Rattle.world_sim.specs.GroupExamples.{Beats, SomeMemberGivesUp}
use Rattle.world_sim.proofs.MovingRounds.{Grants2, Grants3, OneArrived, OneAsked, OneFirst, OneSecond, Records1, Records2, Records3, TwoAt, arriving, stands1, stands2, stands3, step1, step2, step3}
use Rattle.world_sim.proofs.Newcomers.{arrival_of, heartbeat_at, id_of, kept_of, partition_of, reply_to}
use Rattle.world_sim.proofs.NewcomerMessages.{reply_in}
use Rattle.world_sim.proofs.QuietBeats.{in_rounds}
use Rattle.world_sim.proofs.RoundStates.{FIRST_GRANTS, FIRST_RECORDS, one_holds_first, stands_first}
use Rattle.world_sim.proofs.TwoNewcomers.{AfterOne, AfterTwo, One, OneTopic, Two, TwoTopics, ids_differ, lone_owner, one_is_images, one_joins, two_are_images, two_joins_later}

-- ---- the groups, and what led to them

abbrev Start : Group
Start = in_rounds FIRST_RECORDS FIRST_GRANTS

abbrev Asked : Group
Asked = in_rounds Records1 FIRST_GRANTS

abbrev Next : Group
Next = in_rounds Records2 Grants2

abbrev Last : Group
Last = in_rounds Records3 Grants3

abbrev joins : List GroupEvent
joins = OfHeartbeat (arrival_of One TwoTopics) (Replied (reply_to One)) ∷ OfHeartbeat (arrival_of Two OneTopic) (Replied (reply_to Two)) ∷ []

abbrev beats : List GroupEvent
beats =
    OfHeartbeat (arrival_of One TwoTopics) (Replied (reply_to One))
    ∷ OfHeartbeat (arrival_of Two OneTopic) (Replied (reply_to Two))
    ∷ OfHeartbeat (arriving One OneFirst) (Replied (reply_in One OneFirst))
    ∷ OfHeartbeat (arriving Two (TwoAt 2)) (Replied (reply_in Two (TwoAt 2)))
    ∷ []

both_join : IsGroupRun (starting_group 0 0) joins Start
both_join = (AfterOne, (two_are_images, one_joins), (AfterTwo finite.empty finite.empty, (one_is_images, two_joins_later), refl))

both_beat : IsGroupRun (starting_group 0 0) beats Next
both_beat = (
  AfterOne,
  (two_are_images, one_joins),
  (AfterTwo finite.empty finite.empty, (one_is_images, two_joins_later), (Asked, (one_is_images, step1), (Next, (one_is_images, step2), refl))),
)

-- ---- the first one's beats

abbrev said : Bool → Heartbeat
said owns = heartbeat_at One (id_of One) 1 owns

valid : (owns : Bool) → is_invalid (said owns) ≡ false
valid owns = ap (λ n. (n == 0) || false) (length-made_id 0 1)

supported : (owns : Bool) → is_unsupported (said owns) ≡ false
supported owns = and_right (int_le (pos 0) (pos 1)) false refl

below_greatest : 2 < GREATEST_EPOCH
below_greatest = omega arith

one_below_two : 1 < 2
one_below_two = omega arith

module _ (every : EveryGroupIsSound) where
  asks : Beats Start (id_of One) (kept_of One) OneAsked Asked
  asks =
      record {
        events = joins;
        run = both_join;
        sound = every 0 0 (omega arith) joins Start both_join;
        arrival = arriving One OneFirst;
        topics = one_is_images;
        answer = Replied (reply_in One OneFirst);
        step = step1;
        accepted = record { reply = reply_in One OneFirst; is_reply = refl; code = refl; member = refl };
        sender = refl;
        epoch = 0;
        is_epoch = refl;
        valid = valid true;
        supported = supported true;
        was = stands_first.one;
        is = stands1.one;
        later = refl;
        below = below_greatest;
      }

  gives_up : Beats Next (id_of One) OneAsked OneArrived Last
  gives_up =
      record {
        events = beats;
        run = both_beat;
        sound = every 0 0 (omega arith) beats Next both_beat;
        arrival = arriving One OneSecond;
        topics = one_is_images;
        answer = Replied (reply_in One OneSecond);
        step = step3;
        accepted = record { reply = reply_in One OneSecond; is_reply = refl; code = refl; member = refl };
        sender = refl;
        epoch = 0;
        is_epoch = refl;
        valid = valid false;
        supported = supported false;
        was = stands2.one;
        is = stands3.one;
        later = refl;
        below = below_greatest;
      }

  pub some_member_gives_up : SomeMemberGivesUp
  some_member_gives_up =
      record {
        member = id_of One;
        start = Start;
        holder = kept_of One;
        asked = Asked;
        owing = OneAsked;
        asks = asks;
        unasked = refl;
        owes = (partition_of One, one_holds_first, lone_owner Two One (λ same. ids_differ (sym same)) (partition_of One));
        deadline = 60000;
        is_deadline = refl;
        next = Next;
        released = OneArrived;
        last = Last;
        gives_up = gives_up;
        rises = one_below_two;
        over = refl;
      }
