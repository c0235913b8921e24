-- Members that have nothing to be told (ours): a beat that gives nothing finds them as they are.
use Rattle.std.specs.Prelude.{◌≡◌, ◌≤◌, ℕ, ◌≤ℤ◌, pos, Some, None}
use Rattle.std.specs.FinMap as finite
use Rattle.group_types.specs.declared.epoch.Epoch.TheVariants.{At}
use Rattle.group_types.specs.declared.stamp.Stamp.{Stamp}
use Rattle.group_types.specs.Text.{Text}
use Rattle.group_types.specs.Request.{Heartbeat}
use Rattle.group_types.specs.Group.{Record, Group, held, wanted}
use Rattle.group_types.specs.Checks.{Accepted}
use Rattle.group_epochs.specs.Records.{GivesNothing, Marks, beaten}
use Rattle.group_core.specs.Checks.{verdict_on_request}
use Rattle.group_core.specs.declared.state.State.{State}

-- the member is at the target's epoch, holds all of its part and nothing else, was sent it, and isn't asked to give up anything
pub record IsSteady (g : Group) (m : Text) : Type 0 where
  pub kept : Record
  pub is_kept : finite.get g.records m ≡ Some kept
  pub arrived : kept.epoch ≡ At g.target_epoch
  pub unasked : kept.release_deadline ≡ None
  pub holds : held g.grants m ≡ wanted g.target m
  pub sent : kept.sent ≡ Some (wanted g.target m)

-- no mark is above the target's epoch, and who is marked at that epoch is steady
abbrev pub AreMarked : Group → Marks → Type 0
AreMarked g marks = (m : Text) (e : ℕ) → finite.get marks m ≡ Some e → (e ≤ g.target_epoch) × (e ≡ g.target_epoch → IsSteady g m)

-- a beat at the target's epoch that gives nothing, in a group whose target is of its epoch: what is known of a steady beat
-- without its member's record
pub record IsSteadyBeat (s : State) (q : Heartbeat) : Type 0 where
  pub gives : GivesNothing q
  pub beats : pos 1 ≤ℤ q.epoch
  pub valid : verdict_on_request q ≡ Accepted
  pub renewed : s.epoch ≡ s.target.epoch
  pub number : q.epoch ≡ pos s.target.epoch

-- the group after such a beat
abbrev pub beaten_by : Group → Text → Record → Stamp → ℕ → Group
beaten_by g m r stamp now = record g { clock = now; records = finite.insert g.records m (beaten r stamp now) }

-- the member is at the epoch, and isn't asked to give up anything
pub record IsSettledAt (r : Record) (epoch : ℕ) : Type 0 where
  pub arrived : r.epoch ≡ At epoch
  pub unasked : r.release_deadline ≡ None
