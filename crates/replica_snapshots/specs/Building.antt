-- A group that is built of fields, one behind the other: what can be added is added (ours).
use Rattle.std.specs.Prelude.{◌≡◌, ℕ, ℤ, List, [], ◌∷◌, ◌++◌, length, None, Result, MatchResult, if◌then◌else◌}
use Rattle.std.specs.List.{flat_map, AllByRecursion}
use Rattle.std.specs.FinMap as finite
use Rattle.flex_wire.specs.Composed.{array, FitsArray}
use Rattle.group_types.specs.declared.partition.Partition.{Partition}
use Rattle.group_types.specs.declared.stamp.Stamp.{Stamp}
use Rattle.group_types.specs.Group.{Committed}
use Rattle.group_types.specs.Members.{members_of}
use Rattle.group_types.specs.Partition.{Partitions}
use Rattle.group_types.specs.Sets.{is_nothing}
use Rattle.group_types.specs.Text.{Text}
use Rattle.group_types.specs.Topics.{Topics}
use Rattle.group_epochs.specs.Restored.{CanBePast}
use Rattle.group_core.specs.Group.{GroupValue}
use Rattle.group_core.specs.declared.restoring.GroupNumbers.{GroupNumbers}
use Rattle.group_core.specs.Restoring.{CanBeFinished, CanBeGranted, CanBeMember, finished, with_granted, with_member, with_offset, with_past}
use Rattle.replica_snapshots.specs.declared.numbers.Numbers.{Numbers}
use Rattle.replica_snapshots.specs.Parts.{GroupParts, MemberPart}
use Rattle.replica_snapshots.specs.Spelling.{former_fields, FitsFormer, member_fields, FitsMember, offset_fields, FitsOffset}
use Rattle.replica_snapshots.specs.declared.fault.SnapshotFault.{SnapshotFault}
use Rattle.replica_snapshots.specs.declared.fault.SnapshotFault.TheVariants.{NoMemory}

-- What the bytes begin with is added, where it fits and can be, and the bytes behind it are left: but for want of memory.
abbrev pub Adds : {S E : Type 0} → (E → Type 0) → (E → List ℕ) → (S → E → Type 0) → (S → E → S) → Result (Unit {0}) SnapshotFault → S → S → List ℕ → List ℕ → Type 0
Adds {S} {E} Fits spelling Can with_one result old new bytes left =
    (e : E) (rest : List ℕ) → Fits e → Can old e → bytes ≡ spelling e ++ rest
    → MatchResult result (λ _. (new ≡ with_one old e) × (left ≡ rest)) (λ fault. fault ≡ NoMemory)

-- each can be added once those before it are
abbrev pub CanEach : {S E : Type 0} → (S → E → Type 0) → (S → E → S) → S → List E → Type 0
CanEach Can with_one s [] = Unit {0}
CanEach Can with_one s (e ∷ es) = Can s e × CanEach Can with_one (with_one s e) es

abbrev pub with_each : {S E : Type 0} → (S → E → S) → S → List E → S
with_each with_one s [] = s
with_each with_one s (e ∷ es) = with_each with_one (with_one s e) es

-- so many, one behind the other
abbrev pub AddsEach : {S E : Type 0} → ℕ → (E → Type 0) → (E → List ℕ) → (S → E → Type 0) → (S → E → S) → Result (Unit {0}) SnapshotFault → S → S → List ℕ → List ℕ → Type 0
AddsEach count Fits spelling Can with_one =
    Adds (λ es. (length es ≡ count) × AllByRecursion Fits es) (flat_map spelling) (CanEach Can with_one) (with_each with_one)

-- an array
abbrev pub AddsArray : {S E : Type 0} → (E → Type 0) → (E → List ℕ) → (S → E → Type 0) → (S → E → S) → Result (Unit {0}) SnapshotFault → S → S → List ℕ → List ℕ → Type 0
AddsArray Fits spelling Can with_one = Adds (FitsArray Fits) (array spelling) (CanEach Can with_one) (with_each with_one)

-- ---- former members, grants and offsets

abbrev pub CanAddFormer : GroupValue → Text × Stamp → Type 0
CanAddFormer v former = CanBePast (members_of v.state) former.0

abbrev pub with_former : GroupValue → Text × Stamp → GroupValue
with_former v former = with_past v former.0 former.1

abbrev pub CanAddGrant : Text → GroupValue → Partition × ℕ → Type 0
CanAddGrant m v grant = CanBeGranted v m grant.0

abbrev pub with_grant : Text → GroupValue → Partition × ℕ → GroupValue
with_grant m v grant = with_granted v m grant.0 grant.1

abbrev pub CanAddOffset : GroupValue → (Text × ℤ) × Committed → Type 0
CanAddOffset v e = finite.get v.state.offsets e.0 ≡ None

abbrev pub with_committed : GroupValue → (Text × ℤ) × Committed → GroupValue
with_committed v e = with_offset v e.0 e.1

-- ---- members

-- a group, and what its members are to own: the shares that aren't empty
abbrev pub Built : Type 0
Built = GroupValue × List (Text × Partitions)

abbrev pub CanAddMember : Built → MemberPart → Type 0
CanAddMember b m =
    CanBeMember b.0.state m.id m.kept × CanEach (CanAddGrant m.id) (with_grant m.id) (with_member b.0 m.id m.kept) m.grants

abbrev pub with_share : List (Text × Partitions) → Text × Partitions → List (Text × Partitions)
with_share shares s = if is_nothing s.1 then shares else shares ++ s ∷ []

abbrev pub with_part : Built → MemberPart → Built
with_part b m = (with_each (with_grant m.id) (with_member b.0 m.id m.kept) m.grants, with_share b.1 (m.id, m.target))

-- ---- the lists of a group behind its view

abbrev pub last_fields : GroupParts → List ℕ
last_fields g = array former_fields g.past ++ (array member_fields g.members ++ array offset_fields g.offsets)

pub record FitLast (g : GroupParts) : Type 0 where
  pub past : FitsArray FitsFormer g.past
  pub members : FitsArray FitsMember g.members
  pub offsets : FitsArray FitsOffset g.offsets

-- with the former members
abbrev pub with_formers : Built → GroupParts → Built
with_formers b g = (with_each with_former b.0 g.past, b.1)

-- and with the members
abbrev pub with_members : Built → GroupParts → Built
with_members b g = with_each with_part (with_formers b g) g.members

-- and with the offsets
abbrev pub with_last : Built → GroupParts → Built
with_last b g = (with_each with_committed (with_members b g).0 g.offsets, (with_members b g).1)

pub record CanAddLast (b : Built) (g : GroupParts) : Type 0 where
  pub past : CanEach CanAddFormer with_former b.0 g.past
  pub members : CanEach CanAddMember with_part (with_formers b g) g.members
  pub offsets : CanEach CanAddOffset with_committed (with_members b g).0 g.offsets

-- ---- the end

abbrev pub numbers_in : Numbers → GroupNumbers
numbers_in n = record { epoch = n.epoch; target_epoch = n.target_epoch; clock = n.clock; ids_made = n.ids_made }

-- The group is finished, where it can be: but for want of memory.
abbrev pub Finishes : Result GroupValue SnapshotFault → GroupValue → Numbers → List (Text × Partitions) → Topics → Type 0
Finishes result v n shares view =
    MatchResult result
    (λ g. (g.state ≡ finished v.state (numbers_in n) shares view) × (g.holders ≡ v.holders))
    (λ fault. CanBeFinished v.state (numbers_in n) shares view → fault ≡ NoMemory)
