-- Every group is sound: a new one is, and each event keeps it so.
use Rattle.std.proofs.Common.{◌≡◌, ℕ, ◌≤◌, List, [], ◌∷◌, Some, sym, ap, subst, ◌∙◌, arith, true≢false}
use Rattle.std.specs.FinMap as finite
use Rattle.group_types.specs.declared.stamp.Stamp.{Stamp}
use Rattle.group_types.specs.Limits.{GREATEST_EPOCH}
use Rattle.group_types.specs.Text.{Text, text_cmp}
use Rattle.group_types.specs.Partition.{partition_cmp}
use Rattle.group_types.specs.Topics.{Topics}
use Rattle.group_types.specs.Images.{AreImageTopics}
use Rattle.group_types.specs.Group.{Record, Group, grant_cmp, starting_group}
use Rattle.group_types.specs.Leave.{gone_away, left}
use Rattle.group_types.specs.Tick.{ticked}
use Rattle.group_types.specs.Commit.{Commit, CommitReply, CommitStep}
use Rattle.group_types.specs.Sound.{IsSound}
use Rattle.group_types.specs.Laws.{EveryGroupIsSound, GroupEvent, HeartbeatsAreSound, IsGroupRun, IsGroupStep, OfCommit, OfHeartbeat, OfTick}
use Rattle.group_types.proofs.SetLemmas.{has-nothing}
use Rattle.group_types.proofs.Lookups.{not_none}
use Rattle.group_types.proofs.Images.{empty-AreImageTopics}
use Rattle.group_types.proofs.Consistent.{consistent, sound_over}
use Rattle.group_types.proofs.Soundness.{committed_is_consistent, gone_away_is_consistent, left_is_consistent, ticked_is_consistent}
use Rattle.group_types.proofs.Heartbeats.{heartbeats_are_consistent}
use Rattle.group_types.proofs.KeptViews.{heartbeat_view, ticked_view}

-- ---- each event

pub heartbeats_are_sound : HeartbeatsAreSound
heartbeats_are_sound g a answer new image step sound =
    sound_over new (heartbeats_are_consistent g a answer new step (consistent g sound)) (heartbeat_view g a answer new sound.view image step)

pub left_is_sound : (g : Group) → IsSound g → (m : Text) (r : Record) → finite.get g.records m ≡ Some r → (stamp : Stamp) (moment : ℕ) → IsSound (left g m stamp moment)
left_is_sound g sound m r kept stamp moment =
    sound_over (left g m stamp moment) (left_is_consistent g (consistent g sound) m r kept stamp moment) sound.view

pub gone_away_is_sound : (g : Group) → IsSound g → (m : Text) (r : Record) → finite.get g.records m ≡ Some r → (stamp : Stamp) (moment : ℕ) → IsSound (gone_away g m r stamp moment)
gone_away_is_sound g sound m r kept stamp moment =
    sound_over (gone_away g m r stamp moment) (gone_away_is_consistent g (consistent g sound) m r kept stamp moment) sound.view

pub ticked_is_sound : (g : Group) → IsSound g → (moment : ℕ) → IsSound (ticked g moment)
ticked_is_sound g sound moment =
    sound_over (ticked g moment) (ticked_is_consistent g (consistent g sound) moment) (subst AreImageTopics (sym (ticked_view g moment)) sound.view)

pub committed_is_sound : (g : Group) (c : Commit) (image : Topics) (reply : CommitReply) (new : Group) → CommitStep g c image reply new → IsSound g → IsSound new
committed_is_sound g c image reply new step sound =
    sound_over new (committed_is_consistent g c image reply new step (consistent g sound)) (subst AreImageTopics (sym (ap (λ (x : Group). x.view) step.stores)) sound.view)

-- ---- one event after the other

pub starting_is_sound : (salt epoch : ℕ) → epoch ≤ GREATEST_EPOCH → IsSound (starting_group salt epoch)
starting_is_sound salt epoch most =
    record {
      one_holder = λ m n p one other. absurd (true≢false (sym one ∙ has-nothing grant_cmp (m, p)));
      holders = λ m p holds. absurd (true≢false (sym holds ∙ has-nothing grant_cmp (m, p)));
      owners = λ m p owns. absurd (not_none m (sym (finite.get-empty partition_cmp p) ∙ owns));
      view = empty-AreImageTopics;
      owned = λ m p owns. absurd (not_none m (sym (finite.get-empty partition_cmp p) ∙ owns));
      epochs = λ m r there. absurd (not_none r (sym (finite.get-empty text_cmp m) ∙ there));
      settled = λ m r p there same holds. absurd (not_none r (sym (finite.get-empty text_cmp m) ∙ there));
      target_epoch = omega arith;
      epoch = most;
      instances = λ m n r s i one other is also. absurd (not_none r (sym (finite.get-empty text_cmp m) ∙ one));
      named = finite.get-empty text_cmp [];
      past = tt;
      few_members = let none = finite.len-empty text_cmp Record in omega (arith, none);
      few_past = omega arith;
    }

pub step_is_sound : (event : GroupEvent) (g new : Group) → IsGroupStep g event new → IsSound g → IsSound new
step_is_sound (OfHeartbeat a answer) g new step sound = heartbeats_are_sound g a answer new step.0 step.1 sound
step_is_sound (OfTick moment) g new step sound = subst IsSound (sym step) (ticked_is_sound g sound moment)
step_is_sound (OfCommit c image reply) g new step sound = committed_is_sound g c image reply new step sound

run_is_sound : (events : List GroupEvent) (g new : Group) → IsGroupRun g events new → IsSound g → IsSound new
run_is_sound [] g new run sound = subst IsSound (sym run) sound
run_is_sound (event ∷ events) g new (next, step, run) sound = run_is_sound events next new run (step_is_sound event g next step sound)

pub every_group_is_sound : EveryGroupIsSound
every_group_is_sound salt epoch most events g run =
    run_is_sound events (starting_group salt epoch) g run (starting_is_sound salt epoch most)
