-- A member's record as a join or a beat makes it, and what storing it needs of memory.
use Rattle.std.specs.Prelude.{◌≡◌, ◌≢◌, ℕ, [], Option, Some, None, IsTrue}
use Rattle.std.specs.FinMap as finite
use Rattle.group_types.specs.declared.stamp.Stamp.{Stamp}
use Rattle.group_types.specs.Text.{Text}
use Rattle.group_types.specs.Group.{Record, Records}
use Rattle.group_types.specs.Request.{Heartbeat, Kind, Joins, Beats, Leaves, GoesAway, MeansNothing}
use Rattle.group_types.specs.Checks.{Member}
use Rattle.group_types.specs.Join.{record_of_beat, record_of_join}
use Rattle.group_epochs.specs.Records.{CanJoin, CanReplace, IsMember, RecordsState}
use Rattle.group_epochs.specs.declared.draft.Draft.{Draft}
use Rattle.group_epochs.specs.declared.draft.Place.{Place}
use Rattle.group_epochs.specs.declared.draft.Place.TheVariants.{New, Kept, Handed}

-- the id under which the sender of a heartbeat stands or is to stand: the one that it names where that has a record
pub record IsIdOf (records : Records) (named m : Text) : Type 0 where
  pub own : IsTrue (finite.contains_key records named) → m ≡ named
  pub new : finite.get records named ≡ None → finite.get records m ≡ None
  pub some : m ≢ []

-- who takes over a member's record has none, and its id isn't empty
pub record IsHeirOf (records : Records) (old heir : Text) : Type 0 where
  pub there : IsTrue (finite.contains_key records old)
  pub absent : finite.get records heir ≡ None
  pub named : heir ≢ []

-- the id of the member that takes over a record, if any
abbrev pub placed_heir : Place → Option Text
placed_heir (New n) = None
placed_heir (Kept names) = None
placed_heir (Handed n) = Some n.id

-- a member's record can be stored without memory: as a new one, in place of the former one, or handed over
abbrev pub CanStore : RecordsState → Text → Record → Place → Type 0
CanStore s m r (New n) = (n.id ≡ m) × (m ≢ []) × (finite.get s.records m ≡ None) × CanJoin s n r
CanStore s m r (Kept names) = IsMember s m × CanReplace s m r names
CanStore s m r (Handed n) = IsHeirOf s.records m n.id × CanJoin s n r

-- ---- the draft of a join or a beat

-- the record, under which id it stands until it is stored, and who takes it over, if anybody does
pub record Drafted : Type 0 where
  pub id : Text
  pub kept : Record
  pub heir : Option Text

abbrev pub drafted_in : Draft → Drafted
drafted_in d = record { id = d.id; kept = d.record; heir = placed_heir d.place }

-- the record of a member that has one
abbrev pub record_after : Kind → Record → Heartbeat → Stamp → ℕ → Record
record_after Joins r q stamp now = record_of_join (Some r) q stamp now
record_after (Beats n) r q stamp now = record_of_beat r q stamp now
record_after Leaves r q stamp now = record_of_join (Some r) q stamp now
record_after GoesAway r q stamp now = record_of_join (Some r) q stamp now
record_after MeansNothing r q stamp now = record_of_join (Some r) q stamp now

-- By the record of the sender, which has this id, and another member that has its instance: its own record, a new one, or the
-- other's.
abbrev pub drafted : Kind → Option Record → Option Member → Text → Heartbeat → Stamp → ℕ → Drafted
drafted kind (Some r) other m q stamp now = record { id = m; kept = record_after kind r q stamp now; heir = None }
drafted kind None None m q stamp now = record { id = m; kept = record_of_join None q stamp now; heir = None }
drafted kind None (Some old) m q stamp now = record { id = old.id; kept = record_of_join (Some old.kept) q stamp now; heir = Some m }
