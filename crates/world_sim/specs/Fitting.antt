-- What each client of a world shows where three rounds can be made.
use Rattle.std.specs.Prelude.{◌≡◌, ◌⊎◌, ℕ, ◌+◌, ◌≤◌, ◌<◌, false, List, length, filter, Some}
use Rattle.std.specs.Str.{bytes_eq}
use Rattle.std.specs.FinMap as finite
use Rattle.group_types.specs.declared.epoch.Epoch.{Epoch}
use Rattle.group_types.specs.declared.epoch.Epoch.TheVariants.{At, Away}
use Rattle.group_types.specs.Limits.{GREATEST_EPOCH}
use Rattle.group_types.specs.Text.{Text}
use Rattle.group_types.specs.Group.{Group, Record}
use Rattle.coord_node.specs.Coordinator.{Coordinator}
use Rattle.member_core.specs.Limits.{GREATEST_NUMBER}
use Rattle.member_core.specs.Client.{Client, Inside}

-- the client is inside its group, and doesn't wait
abbrev pub IsIdle : Client → Type 0
IsIdle c = (c.place ≡ Inside) × (c.waits ≡ false)

-- the clients of a group
abbrev pub in_group : Text → List Client → List Client
in_group name all = filter (λ c. bytes_eq name c.settings.group) all

-- the epoch is known that a record has, or had last; none is where the record is away
abbrev pub IsKnown : Epoch → ℕ → ℕ → Type 0
IsKnown (At at) before known = (at ≡ known) ⊎ (before ≡ known)
IsKnown Away before known = ⊥

-- The group isn't at its greatest epoch, and has as many records as clients. The id has a record, which isn't away, and whose
-- epoch or last one the client knows.
pub record IsFitIn (c : Client) (id : Text) (group : Group) (all : List Client) : Type 0 where
  pub kept : Record
  pub is_kept : finite.get group.records id ≡ Some kept
  pub epoch : IsKnown kept.epoch kept.previous_epoch c.epoch
  pub below : group.epoch < GREATEST_EPOCH
  pub count : length (in_group c.settings.group all) ≡ finite.len group.records

-- the client is idle, with three numbers left, and its group fits
pub record IsFit (coordinator : Coordinator) (all : List Client) (c : Client) : Type 0 where
  pub idle : IsIdle c
  pub numbers : c.number + 3 ≤ GREATEST_NUMBER
  pub id : Text
  pub is_id : c.id ≡ Some id
  pub group : Group
  pub of_group : finite.get coordinator.groups c.settings.group ≡ Some group
  pub fits : IsFitIn c id group all
