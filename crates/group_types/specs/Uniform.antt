-- The assignor uniform of KIP-848, "Server Side Assignors", by a rule of this project's own: of the former owners,
-- those that may stay are kept, then the gaps are filled, and then the members are levelled.
use Rattle.std.specs.Prelude.{◌≡◌, ◌↔◌, ℕ, ◌+◌, ◌<◌, ◌≤◌, pos, List, [], ◌∷◌, length, map, filter, Some, slice_get, MatchOption}
use Rattle.std.specs.List.{Contains, flat_map, range_with_len}
use Rattle.std.specs.Ordering.{eq_by_cmp}
use Rattle.std.specs.FinMap as finite
use Rattle.group_types.specs.declared.partition.Partition.{Partition}
use Rattle.group_types.specs.Text.{Text, text_cmp}
use Rattle.group_types.specs.Topics.{Topic, Topics}
use Rattle.group_types.specs.Assignors.{Subscriber, subscribers_of}
use Rattle.group_types.specs.Owners.{Spread, IsSubscriber}

-- how many partitions the member with the id owns
abbrev pub count : Spread → Text → ℕ
count spread id = length (filter (λ e. eq_by_cmp text_cmp id e.1) (finite.entries spread))

-- ---- keep

-- a partition stays with its former owner, where that one still subscribes it
abbrev pub IsKept : Topics → List Subscriber → Spread → Spread → Type 0
IsKept view subs former spread =
    (p : Partition) (id : Text) → (finite.get spread p ≡ Some id) ↔ ((finite.get former p ≡ Some id) × IsSubscriber view subs p id)

-- ---- fill

-- a topic's partitions by their indexes, each with the topic's name
abbrev pub partitions_of : Text × Topic → List (Text × Partition)
partitions_of t = map (λ i. (t.0, record { topic = t.1.id; index = pos i })) (range_with_len 0 t.1.count)

-- Partition order: by the topics' names, then by the index.
abbrev pub in_partition_order : Topics → List (Text × Partition)
in_partition_order view = flat_map partitions_of (finite.entries view)

-- of the members of a list, the one that owns the fewest partitions, and of several such the first
pub record IsFewest (spread : Spread) (members : List Subscriber) (n : Subscriber) : Type 0 where
  pub place : ℕ
  pub is_there : slice_get members place ≡ Some n
  pub fewest : (k : ℕ) (m : Subscriber) → slice_get members k ≡ Some m → count spread n.id ≤ count spread m.id
  pub first : (k : ℕ) (m : Subscriber) → k < place → slice_get members k ≡ Some m → count spread n.id < count spread m.id

-- the partition goes to the one of its subscribers that owns the fewest, if anybody subscribes it
abbrev pub GoesTo : Spread → List Subscriber → Partition → Spread → Type 0
GoesTo spread [] p new = new ≡ spread
GoesTo spread (m ∷ ms) p new = (n : Subscriber) × IsFewest spread (m ∷ ms) n × (new ≡ finite.insert spread p n.id)

-- a partition that has an owner stays, and any other is given one
abbrev pub Fills : List Subscriber → Spread → Text × Partition → Spread → Type 0
Fills subs spread x new = MatchOption (finite.get spread x.1) (GoesTo spread (subscribers_of subs x.0) x.1 new) (λ _. new ≡ spread)

-- one after the other
abbrev pub AreFilled : List Subscriber → Spread → List (Text × Partition) → Spread → Type 0
AreFilled subs spread [] new = new ≡ spread
AreFilled subs spread (x ∷ xs) new = (next : Spread) × Fills subs spread x next × AreFilled subs next xs new

-- ---- level

-- The member at a place among the members owns the partition at a place in partition order, and a subscriber of the
-- topic owns at least two fewer.
pub record CanMove (view : Topics) (subs : List Subscriber) (spread : Spread) (from place : ℕ) : Type 0 where
  pub owner : Subscriber
  pub is_member : slice_get subs from ≡ Some owner
  pub moved : Text × Partition
  pub is_partition : slice_get (in_partition_order view) place ≡ Some moved
  pub owns : finite.get spread moved.1 ≡ Some owner.id
  pub other : Subscriber
  pub subscribes : Contains (subscribers_of subs moved.0) other
  pub fewer : count spread other.id + 1 < count spread owner.id

-- The one move that follows: of the members that can give a partition away, the one that owns the most (of several
-- such the first) gives the first that it can, to the subscriber that owns the fewest (of several such the first).
pub record IsNextMove (view : Topics) (subs : List Subscriber) (spread new : Spread) : Type 0 where
  pub from : ℕ
  pub place : ℕ
  pub move : CanMove view subs spread from place
  pub most : (i k : ℕ) (other : CanMove view subs spread i k) → count spread other.owner.id ≤ count spread move.owner.id
  pub first_member : (i k : ℕ) (other : CanMove view subs spread i k) → i < from → count spread other.owner.id < count spread move.owner.id
  pub first_partition : (k : ℕ) → CanMove view subs spread from k → place ≤ k
  pub to : Subscriber
  pub is_fewest : IsFewest spread (subscribers_of subs move.moved.0) to
  pub is_new : new ≡ finite.insert spread move.moved.1 to.id

-- each spread of the list is the next move from the one before
abbrev pub AreMoves : Topics → List Subscriber → Spread → List Spread → Spread → Type 0
AreMoves view subs spread [] new = new ≡ spread
AreMoves view subs spread (next ∷ later) new = IsNextMove view subs spread next × AreMoves view subs next later new

-- no partition can move
abbrev pub IsLevel : Topics → List Subscriber → Spread → Type 0
IsLevel view subs spread = (from place : ℕ) → ¬ CanMove view subs spread from place

-- ---- the owners under uniform

pub record IsUniform (view : Topics) (subs : List Subscriber) (former spread : Spread) : Type 0 where
  pub kept : Spread
  pub is_kept : IsKept view subs former kept
  pub filled : Spread
  pub are_filled : AreFilled subs kept (in_partition_order view) filled
  pub steps : List Spread
  pub are_moves : AreMoves view subs filled steps spread
  pub is_level : IsLevel view subs spread

-- no owner of a partition owns more than one partition more than a subscriber of its topic
abbrev pub IsEven : Topics → List Subscriber → Spread → Type 0
IsEven view subs spread =
    (p : Partition) (m n : Text) → finite.get spread p ≡ Some m → IsSubscriber view subs p n → count spread m ≤ count spread n + 1
