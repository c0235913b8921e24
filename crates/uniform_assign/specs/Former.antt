-- Who owned a partition before.
use Rattle.std.specs.Prelude.{◌≡◌, ◌↔◌, ◌≤◌, ℕ, false, pos, List, Option, Some, None, if◌then◌else◌, slice_get, slice_index_or, MatchOption}
use Rattle.std.specs.BTreeMap.{BTreeMap, get}
use Rattle.std.specs.FinMap as finite
use Rattle.std.specs.Ordering.{is_lt}
use Rattle.group_types.specs.declared.partition.Partition.{Partition}
use Rattle.group_types.specs.Assignors.{Subscriber}
use Rattle.group_types.specs.Owners.{Spread}
use Rattle.group_types.specs.Partition.{Partitions}
use Rattle.group_types.specs.Sets.{has}
use Rattle.group_types.specs.Text.{Text, text_cmp}
use Rattle.uniform_assign.specs.declared.board.Place.{Place}

-- the member at a place owned the partition
pub record IsFormerOwner (former : Spread) (subs : List Subscriber) (m : ℕ) (p : Partition) : Type 0 where
  pub member : Subscriber
  pub is_member : slice_get subs m ≡ Some member
  pub owned : finite.get former p ≡ Some member.id

-- for each place the former owner of its partition
abbrev pub AreFormerOwners : Spread → List Subscriber → List Place → List (Option ℕ) → Type 0
AreFormerOwners former subs places owners =
    (k m : ℕ) (place : Place) → slice_get places k ≡ Some place → (slice_index_or owners k None ≡ Some m) ↔ IsFormerOwner former subs m place.partition

-- from a place on no member owned a partition
abbrev pub OwnNothingFrom : Spread → List Subscriber → ℕ → Type 0
OwnNothingFrom former subs n =
    (m : ℕ) (member : Subscriber) (p : Partition) → n ≤ m → slice_get subs m ≡ Some member → ¬ (finite.get former p ≡ Some member.id)

-- the member isn't static, and whose id is its own or behind it owned nothing
pub record EndsOwners (former : Spread) (member : Subscriber) : Type 0 where
  pub dynamic : member.instance ≡ None
  pub none : (id : Text) (p : Partition) → is_lt (text_cmp id member.id) ≡ false → ¬ (finite.get former p ≡ Some id)

-- the places of the partitions with the index 0 are behind their topics' ids
abbrev pub AreFirsts : List Place → BTreeMap (List ℕ) ℕ → Type 0
AreFirsts places firsts = (k : ℕ) (place : Place) → slice_get places k ≡ Some place → place.partition.index ≡ pos 0 → get text_cmp firsts place.partition.topic ≡ Some k

-- the partitions of the set belong to the member
abbrev pub IsShared : List Place → Partitions → ℕ → List (Option ℕ) → List (Option ℕ) → Type 0
IsShared places set member old new =
    (k : ℕ) (place : Place) → slice_get places k ≡ Some place
    → slice_index_or new k None ≡ (if has set place.partition then Some member else slice_index_or old k None)

-- the partition is at the place, or at none
abbrev pub IsPlaceOf : List Place → Partition → Option ℕ → Type 0
IsPlaceOf places p o =
    MatchOption o ((k : ℕ) (place : Place) → slice_get places k ≡ Some place → place.partition ≡ p → ⊥)
    (λ k. (place : Place) × (slice_get places k ≡ Some place) × (place.partition ≡ p))
