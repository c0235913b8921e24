-- A coordinator serves from its opening on: then it has no group and no topics, and each event keeps its groups sound.
use Rattle.std.proofs.Common.{◌≡◌, ℕ, Bool, true, false, List, [], ◌∷◌, map, Option, Some, None, inl, inr, cond, refl, sym, subst, ◌∙◌, arith}
use Rattle.std.specs.FinMap as finite
use Rattle.std.specs.FinMap.{find}
use Rattle.std.specs.Ordering.{eq_by_cmp}
use Rattle.kip_msgs.specs.Values.{RequestValue, heartbeat_request, commit_request}
use Rattle.group_types.specs.declared.stamp.Stamp.{Stamp}
use Rattle.group_types.specs.Text.{Text, text_cmp}
use Rattle.group_types.specs.Images.{AreImageTopics}
use Rattle.group_types.specs.Group.{Group, new_group}
use Rattle.group_types.specs.Tick.{ticked}
use Rattle.group_types.specs.Commit.{Commit, CommitReply}
use Rattle.group_types.specs.HeartbeatStep.{Arrival}
use Rattle.group_types.specs.HeartbeatStep as group
use Rattle.group_types.specs.Sound.{IsSound}
use Rattle.group_types.specs.Laws.{CommitsAreSound, EveryGroupIsSound, HeartbeatsAreSound, TicksAreSound}
use Rattle.group_types.proofs.Images.{empty-AreImageTopics}
use Rattle.group_types.proofs.Orders.{text_cmp_total}
use Rattle.group_types.proofs.Lookups.{Found, this, another, found, not_none, some_is}
use Rattle.group_epochs.specs.Request.{arrival_of, commit_of}
use Rattle.coord_node.specs.Coordinator.{Coordinator, Event, Frame, Tick, Image, Answer, opening}
use Rattle.coord_node.specs.Steps.{is_success, has_room, all_ticked, Makes, MakesBy, HeartbeatAt, CommitAt, with_group, RequestRelation, RequestStep, FrameStepBy, EventRelation, RunBy, Step}
use Rattle.coord_node.specs.Laws.{GroupsAreSound, HasSoundGroups, IsServing, StepsAreSound}
use Rattle.coord_node.proofs.KeptImages.{image_kept}

-- a sound group, put in among sound ones
put_soundly : (c : Coordinator) → HasSoundGroups c → (name : Text) (g : Group) → IsSound g → HasSoundGroups (with_group c name g)
put_soundly c sound name g is_sound q x there = by (found c.groups name g q x there)
  where
    by : Found c.groups name g q x → IsSound x
    by (this same is) = subst IsSound (sym is) is_sound
    by (another other apart before) = sound q x before

-- ---- a group that a heartbeat makes

makes_soundly : (success room : Bool) (c : Coordinator) → HasSoundGroups c → (name : Text) (g : Group) → IsSound g
    → (reply : group.Reply) (answer : group.Answer) (new : Coordinator) → Makes success room c (record { name = name; left = g; reply = reply }) answer new → HasSoundGroups new
makes_soundly true true c sound name g is_sound reply answer new is = subst HasSoundGroups (sym is.1) (put_soundly c sound name g is_sound)
makes_soundly true false c sound name g is_sound reply answer new is = subst HasSoundGroups (sym is.1) sound
makes_soundly false room c sound name g is_sound reply answer new is = subst HasSoundGroups (sym is.1) sound

made_soundly : (given : group.Answer) (c : Coordinator) → HasSoundGroups c → (name : Text) (g : Group) → IsSound g
    → (answer : group.Answer) (new : Coordinator) → MakesBy given c name g answer new → HasSoundGroups new
made_soundly (group.Replied reply) c sound name g is_sound answer new is =
    makes_soundly (is_success reply.code) (has_room c) c sound name g is_sound reply answer new is
made_soundly group.Closes c sound name g is_sound answer new is = subst HasSoundGroups (sym is.1) sound

-- ---- a frame, by what a request does

framed_soundly : (Requests : RequestRelation) (c : Coordinator) → HasSoundGroups c → (body : List ℕ) (stamp : Stamp) (moment : ℕ) (answer : Answer) (new : Coordinator)
    → ((v : RequestValue) → Requests c v stamp moment answer new → HasSoundGroups new)
    → FrameStepBy Requests c body stamp moment answer new → HasSoundGroups new
framed_soundly Requests c sound body stamp moment answer new keeps (inl is) = keeps is.0 is.2
framed_soundly Requests c sound body stamp moment answer new keeps (inr is) = subst HasSoundGroups (sym is.2) sound

module _ (every : EveryGroupIsSound) (heartbeats : HeartbeatsAreSound) (ticks : TicksAreSound) (commits : CommitsAreSound) where
  new_is_sound : (salt : ℕ) → IsSound (new_group salt)
  new_is_sound salt = every salt 0 (omega arith) [] (new_group salt) refl

  -- ---- heartbeats and commits

  beaten_soundly : (c : Coordinator) → HasSoundGroups c → (a : Arrival) → AreImageTopics a.image → (there : Option Group) → finite.get c.groups a.heartbeat.group ≡ there
      → (answer : group.Answer) (new : Coordinator) → HeartbeatAt there c a answer new → HasSoundGroups new
  beaten_soundly c sound a image None absent answer new is =
      let is_sound : IsSound is.1 = heartbeats (new_group c.salt) a is.0 is.1 image is.2 (new_is_sound c.salt) in
      made_soundly is.0 c sound a.heartbeat.group is.1 is_sound answer new is.3
  beaten_soundly c sound a image (Some g) present answer new is =
      let is_sound : IsSound is.0 = heartbeats g a answer is.0 image is.1 (sound a.heartbeat.group g present) in
      subst HasSoundGroups (sym is.2) (put_soundly c sound a.heartbeat.group is.0 is_sound)

  committed_soundly : (c : Coordinator) → HasSoundGroups c → (r : Commit) (there : Option Group) → finite.get c.groups r.group ≡ there
      → (reply : CommitReply) (new : Coordinator) → CommitAt there c r reply new → HasSoundGroups new
  committed_soundly c sound r None absent reply new is = subst HasSoundGroups (sym is.1) sound
  committed_soundly c sound r (Some g) present reply new is =
      let is_sound : IsSound is.0 = (commits g r c.image reply is.0 is.1 (sound r.group g present)).0 in
      subst HasSoundGroups (sym is.2) (put_soundly c sound r.group is.0 is_sound)

  requested_soundly : (c : Coordinator) → IsServing c → (v : RequestValue) (stamp : Stamp) (moment : ℕ) (answer : Answer) (new : Coordinator)
      → RequestStep c v stamp moment answer new → HasSoundGroups new
  requested_soundly c serving (heartbeat_request header v) stamp moment answer new is =
      beaten_soundly c serving.groups (arrival_of v stamp moment c.image) serving.image (finite.get c.groups v.group_id) refl is.0 new is.1
  requested_soundly c serving (commit_request header v) stamp moment answer new is =
      committed_soundly c serving.groups (commit_of v) (finite.get c.groups v.group_id) refl is.0 new is.1

  -- ---- ticks

  found_ticked : (moment : ℕ) (es : List (Text × Group)) (name : Text) (g : Group) → ((x : Group) → find text_cmp name es ≡ Some x → IsSound x)
      → find text_cmp name (map (λ e. (e.0, ticked e.1 moment)) es) ≡ Some g → IsSound g
  found_ticked moment [] name g sound is = absurd (not_none g is)
  found_ticked moment (e ∷ es) name g sound is = by (eq_by_cmp text_cmp name e.0) (found_ticked moment es name g) sound is
    where
      by : (b : Bool) → (((x : Group) → find text_cmp name es ≡ Some x → IsSound x) → find text_cmp name (map (λ e. (e.0, ticked e.1 moment)) es) ≡ Some g → IsSound g)
          → ((x : Group) → cond b (Some e.1) (find text_cmp name es) ≡ Some x → IsSound x)
          → cond b (Some (ticked e.1 moment)) (find text_cmp name (map (λ e. (e.0, ticked e.1 moment)) es)) ≡ Some g → IsSound g
      by true behind before is = subst IsSound (some_is (ticked e.1 moment) g is) (ticks e.1 moment (before e.1 refl))
      by false behind before is = behind before is

  ticked_soundly : (c : Coordinator) → HasSoundGroups c → (moment : ℕ) → HasSoundGroups (record c { groups = all_ticked c.groups moment })
  ticked_soundly c sound moment name g there =
      found_ticked moment (finite.entries c.groups) name g (λ x is. sound name x (finite.get-entries c.groups name ∙ is))
      (sym (finite.get-from_entries text_cmp_total (map (λ e. (e.0, ticked e.1 moment)) (finite.entries c.groups)) name) ∙ there)

  -- ---- the whole step

  groups_kept : (c : Coordinator) (event : Event) (answer : Answer) (new : Coordinator) → Step c event answer new → IsServing c → HasSoundGroups new
  groups_kept c (Frame body stamp moment) answer new step serving =
      framed_soundly RequestStep c serving.groups body stamp moment answer new (λ v is. requested_soundly c serving v stamp moment answer new is) step
  groups_kept c (Tick moment) answer new step serving = subst HasSoundGroups (sym step.1) (ticked_soundly c serving.groups moment)
  groups_kept c (Image topics) answer new step serving = subst HasSoundGroups (sym step.1) serving.groups

  pub steps_are_sound : StepsAreSound Step
  steps_are_sound c event answer new step serving =
      record {
        groups = groups_kept c event answer new step serving;
        image = image_kept c event answer new serving.image step;
      }

-- ---- one event after the other

pub opening_serves : (salt : ℕ) → IsServing (opening salt)
opening_serves salt = record {
  groups = λ name g there. absurd (not_none g (sym (finite.get-empty text_cmp name) ∙ there));
  image = empty-AreImageTopics;
}

module _ (Steps : EventRelation) (keeps : StepsAreSound Steps) where
  pub serves_on : (events : List Event) (answers : List Answer) (c new : Coordinator) → RunBy Steps c events answers new → IsServing c → IsServing new
  serves_on [] [] c new run serving = subst IsServing (sym run) serving
  serves_on [] (answer ∷ answers) c new run serving = absurd run
  serves_on (event ∷ events) [] c new run serving = absurd run
  serves_on (event ∷ events) (answer ∷ answers) c new run serving =
      serves_on events answers run.0 new run.2 (keeps c event answer run.0 run.1 serving)

  pub groups_are_sound : GroupsAreSound Steps
  groups_are_sound salt events answers c run = (serves_on events answers (opening salt) c run (opening_serves salt)).groups
