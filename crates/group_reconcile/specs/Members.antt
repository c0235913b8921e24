-- The member table: members and what each holds, by numbers that stay while a member stays (ours).
use Rattle.std.specs.Prelude.{◌≡◌, ◌<◌, ◌≤◌, ℕ, Bool, false, not, ◌==◌, ◌&&◌, if◌then◌else◌, List, [], length, Option, Some, None, is_some, Result, MatchResult, refl}
use Rattle.std.specs.Coded.{Coded, code_by, coded×, coded_ℕ, coded_list}
use Rattle.std.specs.declared.cmp.Ordering.TheVariants.{Less, Greater}
use Rattle.std.specs.declared.cmp.Ordering.{Ordering}
use Rattle.std.specs.List.{HoldsAt, list_any}
use Rattle.std.specs.List.Sorted.{IsPartitionPoint, IsStrictlySortedBy}
use Rattle.std.specs.Option.{option_map, option_map_or}
use Rattle.std.specs.Ordering.{eq_by_cmp, on}
use Rattle.std.specs.FinSet as set
use Rattle.slab.specs.Slab.{Slab, get, slab_code}
use Rattle.group_types.specs.Text.{Text, text_cmp}
use Rattle.group_types.specs.Sets.{nothing}
use Rattle.group_types.specs.Partition.{Partitions, partition_code}
use Rattle.group_reconcile.specs.declared.members.Member.{Member}

abbrev pub MemberTable : Type 0
MemberTable = Slab Member

abbrev member_code : Coded Member
member_code =
    code_by (Text × Partitions) (coded× (coded_list coded_ℕ) (set.code partition_code)) (λ m. (m.id, m.parts)) (λ p. record { id = p.0; parts = p.1 }) (λ _. refl)

abbrev pub member_table_code : Coded MemberTable
member_table_code = slab_code member_code

-- ---- what the table has

abbrev pub id_of : MemberTable → ℕ → Text
id_of ms k = option_map_or (λ m. m.id) (get ms k) []

abbrev pub parts_of : MemberTable → ℕ → Partitions
parts_of ms k = option_map_or (λ m. m.parts) (get ms k) nothing

-- whether the member with the number has the id
abbrev pub has_id : MemberTable → Text → ℕ → Bool
has_id ms id k = option_map_or (λ m. eq_by_cmp text_cmp id m.id) (get ms k) false

abbrev pub is_number : Option ℕ → ℕ → Bool
is_number None k = false
is_number (Some n) k = k == n

-- the number of the one member with the id, or none where no member has it
abbrev pub IsNumberOf : MemberTable → Text → Option ℕ → Type 0
IsNumberOf ms id number = (k : ℕ) → has_id ms id k ≡ is_number number k

-- ---- the numbers in the order of their members' ids

-- the order of numbers by their members' ids
abbrev pub by_id : MemberTable → ℕ → ℕ → Ordering
by_id ms = on (id_of ms) text_cmp

-- the numbers of all members, in the order of the ids
pub record IsIdOrder (ms : MemberTable) (ns : List ℕ) : Type 0 where
  pub rise : IsStrictlySortedBy (by_id ms) ns
  pub all : (k : ℕ) → list_any (λ n. k == n) ns ≡ is_some (get ms k)

-- the numbers of all members but one, in the order of the ids
pub record IsIdOrderBut (ms : MemberTable) (one : ℕ) (ns : List ℕ) : Type 0 where
  pub rise : IsStrictlySortedBy (by_id ms) ns
  pub others : (k : ℕ) → list_any (λ n. k == n) ns ≡ (not (k == one) && is_some (get ms k))

-- where among the numbers a new one goes, whose member has the id
abbrev pub IsGap : MemberTable → Text → List ℕ → ℕ → Type 0
IsGap ms id ns = IsPartitionPoint (λ k. text_cmp (id_of ms k) id ≡ Less) (λ k. text_cmp (id_of ms k) id ≡ Greater) ns

-- the place of the number whose member has the id, or else where it would go
abbrev pub IsPlace : MemberTable → Text → List ℕ → Result ℕ ℕ → Type 0
IsPlace ms id ns place =
    MatchResult place (λ i. (i < length ns) × HoldsAt (λ k. id_of ms k ≡ id) ns i) (λ i. (i ≤ length ns) × IsGap ms id ns i)

-- ---- changes

-- the member with the number is this one now, and the others are as they were
abbrev pub Changes : MemberTable → MemberTable → ℕ → Option Member → Type 0
Changes old new n member = (k : ℕ) → get new k ≡ (if k == n then member else get old k)

-- no member has another number, another id or other partitions, and none is gone
abbrev pub KeepsMembers : MemberTable → MemberTable → Type 0
KeepsMembers old new = (k : ℕ) (m : Member) → get old k ≡ Some m → get new k ≡ Some m

-- every number has the partitions that it had
abbrev pub KeepsParts : MemberTable → MemberTable → Type 0
KeepsParts old new = (k : ℕ) → parts_of new k ≡ parts_of old k

-- the member with the id was taken out, and these were its partitions
pub record TakesMember (old new : MemberTable) (id : Text) (parts : Option Partitions) : Type 0 where
  pub number : Option ℕ
  pub of_id : IsNumberOf old id number
  pub of_number : parts ≡ option_map (parts_of old) number
  pub others : (k : ℕ) → get new k ≡ (if is_number number k then None else get old k)

abbrev pub with_id : Text → Member → Member
with_id id m = record m { id = id }

abbrev pub with_parts : Partitions → Member → Member
with_parts parts m = record m { parts = parts }

-- the member with the old id has the new one now, and the others have theirs
abbrev pub RenamesMember : MemberTable → MemberTable → Text → Text → Type 0
RenamesMember before after old new =
    (k : ℕ) → get after k ≡ (if has_id before old k then option_map (with_id new) (get before k) else get before k)

-- the member with the number has these partitions now, and the others have theirs
abbrev pub SetsParts : MemberTable → MemberTable → ℕ → Partitions → Type 0
SetsParts old new n parts =
    (k : ℕ) → get new k ≡ (if k == n then option_map (with_parts parts) (get old k) else get old k)
