-- KIP-848, "Server Side Assignors": who owns which partition of a view.
use Rattle.std.specs.Prelude.{◌≡◌, ◌↔◌, ℕ, ◌+◌, ◌-◌, ◌*◌, ◌/◌, ◌%◌, ◌<◌, ℤ, pos, negsuc, List, length, map, Bool, false, not, Some, IsTrue, if◌then◌else◌, nat_lt, slice_get, MatchOption}
use Rattle.std.specs.List.{Contains}
use Rattle.std.specs.Option.{option_map_or}
use Rattle.std.specs.Str.{bytes_eq}
use Rattle.std.specs.FinMap as finite
use Rattle.group_types.specs.declared.partition.Partition.{Partition}
use Rattle.group_types.specs.Text.{Text}
use Rattle.group_types.specs.Sets.{has, of_list}
use Rattle.group_types.specs.Partition.{partition_cmp, Partitions}
use Rattle.group_types.specs.Topics.{Topic, Topics, Names}
use Rattle.group_types.specs.Assignors.{Subscriber, subscribers_of}

-- the owner of each partition that has one, by the owner's id
abbrev pub Spread : Type 0
Spread = finite.FinMap partition_cmp Text

-- the set has just the partitions that the member owns
abbrev pub IsShare : Spread → Text → Partitions → Type 0
IsShare spread id set = (p : Partition) → IsTrue (has set p) ↔ (finite.get spread p ≡ Some id)

-- whether the member with the id owns the partition
abbrev pub owns : Spread → Text → Partition → Bool
owns spread id p = option_map_or (λ owner. bytes_eq owner id) (finite.get spread p) false

-- the partitions that the member owns
abbrev pub share_of : Spread → Text → Partitions
share_of spread id = of_list (finite.keys (finite.retain_keys spread (owns spread id)))

-- the number is an index of a topic with `count` partitions
abbrev pub is_index : ℤ → ℕ → Bool
is_index (pos i) count = nat_lt i count
is_index (negsuc i) count = false

abbrev pub IsIndex : ℤ → ℕ → Type 0
IsIndex index count = IsTrue (is_index index count)

-- the partition is one of a topic of the view that is among the names
abbrev pub IsSubscribed : Topics → Names → Partition → Type 0
IsSubscribed view names p =
    (name : Text) × (topic : Topic) × (finite.get view name ≡ Some topic) × IsTrue (has names name)
    × (p.topic ≡ topic.id) × IsIndex p.index topic.count

-- the set of all partitions that the names subscribe
abbrev pub IsAllSubscribed : Topics → Names → Partitions → Type 0
IsAllSubscribed view names set = (p : Partition) → IsTrue (has set p) ↔ IsSubscribed view names p

-- some member with this id subscribes the partition
abbrev pub IsSubscriber : Topics → List Subscriber → Partition → Text → Type 0
IsSubscriber view subs p id =
    (m : Subscriber) × Contains subs m × (m.id ≡ id) × IsSubscribed view m.names p

-- Each partition that some member subscribes has exactly one owner, who subscribes it; nothing else is owned.
abbrev pub IsLawful : Topics → List Subscriber → Spread → Type 0
IsLawful view subs spread =
    (p : Partition) → MatchOption (finite.get spread p) ((id : Text) → ¬ IsSubscriber view subs p id) (IsSubscriber view subs p)

-- The place among k subscribers of the one who owns index i of n partitions, under range (the formula is ours): the
-- partitions go in rising runs to the subscribers in member order, and the first n mod k of these get one more than the
-- rest.
abbrev pub range_place : ℕ → ℕ → ℕ → ℕ
range_place n k i =
    let q = n / k in let r = n % k in
    if nat_lt i (r * (q + 1)) then i / (q + 1) else r + (i - r * (q + 1)) / q

-- the partition has an index of a topic of the view, and this is its owner under range
pub record IsRangeOwner (view : Topics) (subs : List Subscriber) (p : Partition) (id : Text) : Type 0 where
  pub name : Text
  pub topic : Topic
  pub of_view : finite.get view name ≡ Some topic
  pub same_id : p.topic ≡ topic.id
  pub index : ℕ
  pub is_index : p.index ≡ pos index
  pub below : index < topic.count
  pub owner : Subscriber
  pub place : slice_get (subscribers_of subs name) (range_place topic.count (length (subscribers_of subs name)) index) ≡ Some owner
  pub same_owner : owner.id ≡ id

-- every partition has its owner under range, and no other has one
abbrev pub IsRange : Topics → List Subscriber → Spread → Type 0
IsRange view subs spread = (p : Partition) (id : Text) → (finite.get spread p ≡ Some id) ↔ IsRangeOwner view subs p id

-- ---- changes

-- the member's partitions have no owner any more, and the others have theirs
abbrev pub without_owner : Spread → Text → Spread
without_owner spread id = finite.retain_keys spread (λ p. not (owns spread id p))

-- the id, with a new one in place of an old one
abbrev pub renamed_id : Text → Text → Text → Text
renamed_id old new id = if bytes_eq id old then new else id

-- the old id's partitions are the new one's, and the others have their owners
abbrev pub renamed : Spread → Text → Text → Spread
renamed spread old new = finite.from_entries (map (λ e. (e.0, renamed_id old new e.1)) (finite.entries spread))
