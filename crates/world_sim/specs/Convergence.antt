-- Convergence: three rounds in which no message is lost settle everything.
use Rattle.std.specs.Prelude.{◌≡◌, ◌⊎◌, ℕ, ◌+◌, ◌≤◌, false, Some}
use Rattle.std.specs.FinMap as finite
use Rattle.group_types.specs.declared.epoch.Epoch.TheVariants.{At}
use Rattle.group_types.specs.Limits.{GREATEST_EPOCH}
use Rattle.group_types.specs.Text.{Text}
use Rattle.group_types.specs.Group.{Group, Record, wanted}
use Rattle.member_core.specs.Limits.{GREATEST_NUMBER}
use Rattle.member_core.specs.Client.{Client, Inside}
use Rattle.world_sim.specs.World.{World, numbered}
use Rattle.world_sim.specs.Exclusivity.{Always}
use Rattle.world_sim.specs.Rounds.{Settles}

-- The client is a member at an epoch that its record has or had last; it doesn't wait, and three numbers are left to it.
pub record IsReady (w : World) (n : ℕ) (c : Client) : Type 0 where
  pub place : c.place ≡ Inside
  pub still : c.waits ≡ false
  pub id : Text
  pub is_id : c.id ≡ Some id
  pub group : Group
  pub of_group : finite.get w.coordinator.groups c.settings.group ≡ Some group
  pub kept : Record
  pub is_kept : finite.get group.records id ≡ Some kept
  pub epoch : (kept.epoch ≡ At c.epoch) ⊎ (kept.previous_epoch ≡ c.epoch)
  pub numbers : c.number + 3 ≤ GREATEST_NUMBER

-- every client is ready, every record is a client's and isn't away, and no group is at its greatest epoch
pub record CanSettle (w : World) : Type 0 where
  pub ready : (n : ℕ) (c : Client) → numbered w.clients n ≡ Some c → IsReady w n c
  pub has_client : (name : Text) (g : Group) (m : Text) (r : Record) → finite.get w.coordinator.groups name ≡ Some g
      → finite.get g.records m ≡ Some r
      → (n : ℕ) × (c : Client) × (numbered w.clients n ≡ Some c) × (c.settings.group ≡ name) × (c.id ≡ Some m)
  pub present : (name : Text) (g : Group) (m : Text) (r : Record) → finite.get w.coordinator.groups name ≡ Some g
      → finite.get g.records m ≡ Some r → (epoch : ℕ) × (r.epoch ≡ At epoch)
  pub below : (name : Text) (g : Group) → finite.get w.coordinator.groups name ≡ Some g → g.epoch + 1 ≤ GREATEST_EPOCH

-- the client owns its id's target, at the target's epoch
pub record OwnsTarget (w : World) (c : Client) : Type 0 where
  pub id : Text
  pub is_id : c.id ≡ Some id
  pub group : Group
  pub of_group : finite.get w.coordinator.groups c.settings.group ≡ Some group
  pub own : c.own ≡ wanted group.target id
  pub epoch : c.epoch ≡ group.target_epoch

abbrev pub IsSettled : World → Type 0
IsSettled w = (n : ℕ) (c : Client) → numbered w.clients n ≡ Some c → OwnsTarget w c

-- where three rounds can be made, what they leave is settled
abbrev pub SettlingSettles : World → Type 0
SettlingSettles w = (new : World) → CanSettle w → Settles w new → IsSettled new

-- of every world that acts lead to
abbrev pub Convergence : Type 0
Convergence = Always SettlingSettles
