-- How the partitions of a view and their takers are held.
use Rattle.std.specs.Prelude.{◌≡◌, ℕ, ◌<◌, pos, Bool, true, false, if◌then◌else◌, List, [], ◌∷◌, ◌++◌, length, map, slice_index_or, Option, Some, IsSorted}
use Rattle.std.specs.Global.{Vec}
use Rattle.std.specs.List.{flat_map, slice_get}
use Rattle.std.specs.Option.{option_map}
use Rattle.std.specs.FinMap as finite
use Rattle.group_types.specs.declared.partition.Partition.{Partition}
use Rattle.group_types.specs.Text.{Text}
use Rattle.group_types.specs.Sets.{has}
use Rattle.group_types.specs.Topics.{Topic}
use Rattle.group_types.specs.Assignors.{IdsAreApart, Subscriber, member_cmp, subscribers_of}
use Rattle.group_types.specs.Uniform.{partitions_of}
use Rattle.range_assign.specs.Members.{subscribers_in}
use Rattle.group_types.specs.Images.{AreImageTopics}
use Rattle.uniform_assign.specs.declared.board.Place.{Place}
use Rattle.uniform_assign.specs.declared.board.Board.{Board}

-- the partition with an index of a topic, which has a place among the topics
abbrev pub place_at : ℕ → List ℕ → ℕ → Place
place_at at topic index = record { topic = at; partition = record { topic = topic; index = pos index } }

-- the partition with the name of its topic, which is at a place among the topics
abbrev pub shown_place : List (Text × Topic) → Place → Option (Text × Partition)
shown_place topics place = option_map (λ t. (t.0, place.partition)) (slice_get topics place.topic)

-- the places show the topics' partitions in partition order
abbrev pub ArePlaces : List (Text × Topic) → List Place → Type 0
ArePlaces topics places = map (shown_place topics) places ≡ map Some (flat_map partitions_of topics)

-- the places of the members that subscribe the topic with a name, in their order
abbrev pub AreTakersOf : List Subscriber → Text → List ℕ → Type 0
AreTakersOf subs name takers = map (slice_get subs) takers ≡ map Some (subscribers_of subs name)

-- the takers of the topics, listed topic by topic
pub record AreTakers (topics : List (Text × Topic)) (subs : List Subscriber) (takers : List (Vec ℕ)) : Type 0 where
  pub as_many : length takers ≡ length topics
  pub there : (t : ℕ) (topic : Text × Topic) → slice_get topics t ≡ Some topic
      → (v : Vec ℕ) × (slice_get takers t ≡ Some v) × AreTakersOf subs topic.0 v.items

-- each number is greater than those before it
abbrev pub Rises : List ℕ → Type 0
Rises xs = (i j x y : ℕ) → i < j → slice_get xs i ≡ Some x → slice_get xs j ≡ Some y → x < y

-- each topic's takers are in member order
abbrev pub AllRise : List (Vec ℕ) → Type 0
AllRise takers = (t : ℕ) (v : Vec ℕ) → slice_get takers t ≡ Some v → Rises v.items

-- the member at a place is added to the takers of each marked topic
pub record AddsTaker (marks : List Bool) (member : ℕ) (old new : List (Vec ℕ)) : Type 0 where
  pub as_many : length new ≡ length old
  pub added : (t : ℕ) (v : Vec ℕ) → slice_get old t ≡ Some v
      → (w : Vec ℕ) × (slice_get new t ≡ Some w) × (w.items ≡ v.items ++ (if slice_index_or marks t false then member ∷ [] else []))

-- the members, as an assignor sees them
abbrev pub members_on : Board → List Subscriber
members_on board = subscribers_in board.members.now

-- what is true of a board whose takers may not be found yet
pub record IsBare (board : Board) : Type 0 where
  pub sound : AreImageTopics board.view.now
  pub apart : IdsAreApart (members_on board)
  pub sorted : IsSorted member_cmp (members_on board)
  pub places : ArePlaces (finite.entries board.view.now) board.places.items

-- the list stands at a place
abbrev pub IsListAt : List (Vec ℕ) → List ℕ → ℕ → Type 0
IsListAt lists list at = (v : Vec ℕ) × (slice_get lists at ≡ Some v) × (v.items ≡ list)

-- each list stands at the place of its class, and each class has one of them
pub record AreClasses (lists : List (Vec ℕ)) (classes : List ℕ) (takers : List (Vec ℕ)) : Type 0 where
  pub as_many : length classes ≡ length lists
  pub there : (t : ℕ) (list : Vec ℕ) → slice_get lists t ≡ Some list → (c : ℕ) × (slice_get classes t ≡ Some c) × IsListAt takers list.items c
  pub each : (c : ℕ) (v : Vec ℕ) → slice_get takers c ≡ Some v → (t : ℕ) × IsListAt lists v.items t

-- the takers of each topic's class are those of the topic, and each class has the takers of a topic
pub record AreClassTakers (topics : List (Text × Topic)) (subs : List Subscriber) (classes : List ℕ) (takers : List (Vec ℕ)) : Type 0 where
  pub as_many : length classes ≡ length topics
  pub there : (t : ℕ) (topic : Text × Topic) → slice_get topics t ≡ Some topic
      → (c : ℕ) × (v : Vec ℕ) × (slice_get classes t ≡ Some c) × (slice_get takers c ≡ Some v) × AreTakersOf subs topic.0 v.items
  pub each : (c : ℕ) (v : Vec ℕ) → slice_get takers c ≡ Some v → (topic : Text × Topic) × AreTakersOf subs topic.0 v.items

-- what is true of a board
pub record IsBoard (board : Board) : Type 0 where
  pub bare : IsBare board
  pub takers : AreClassTakers (finite.entries board.view.now) (members_on board) board.classes.items board.takers.items
  pub rise : AllRise board.takers.items

-- the partition at a place is of the class
abbrev pub IsOfClass : Board → ℕ → ℕ → Type 0
IsOfClass board at class = (place : Place) × (slice_get board.places.items at ≡ Some place) × (slice_get board.classes.items place.topic ≡ Some class)

-- each topic whose place is told of a member is one that the member subscribes
pub record AreKnown (board : Board) (known : List (Option ℕ)) : Type 0 where
  pub as_many : length known ≡ length (members_on board)
  pub subscribe : (m t : ℕ) (member : Subscriber) (topic : Text × Topic) → slice_get known m ≡ Some (Some t) → slice_get (members_on board) m ≡ Some member
      → slice_get (finite.entries board.view.now) t ≡ Some topic → has member.names topic.0 ≡ true
