-- The places and the takers of a board.
use Rattle.std.proofs.Common.{◌≡◌, ℕ, ◌<◌, List, [], ◌∷◌, length, get_or, map, refl, sym, ap, ◌∙◌, Some}
use Rattle.std.specs.FinMap as finite
use Rattle.std.specs.Global.{Vec}
use Rattle.std.specs.List.{All, slice_get}
use Rattle.std.proofs.lemmas.List.{length-map}
use Rattle.std.proofs.lemmas.Option.{same_Some, slice_get-get_or, slice_get_read, slice_get_within}
use Rattle.group_types.specs.Text.{Text}
use Rattle.group_types.specs.Topics.{Topic}
use Rattle.group_types.specs.Assignors.{Subscriber, subscribers_of}
use Rattle.group_types.specs.Uniform.{in_partition_order}
use Rattle.uniform_assign.specs.declared.board.Place.{Place}
use Rattle.uniform_assign.specs.declared.board.Board.{Board}
use Rattle.uniform_assign.specs.Boards.{AreTakersOf, IsBare, IsBoard, members_on, shown_place}
use Rattle.uniform_assign.specs.Drafts.{IsLeast}
use Rattle.uniform_assign.proofs.Drawn.{AreApart}
use Rattle.uniform_assign.proofs.Lists.{option_map-from, slice_get-map_at, slice_get-map_from}
use Rattle.uniform_assign.proofs.Apart.{AreApart-view}

-- what a board has at a place in partition order
pub record IsPart (board : Board) (k : ℕ) (place : Place) : Type 0 where
  pub topic : Text × Topic
  pub is_topic : slice_get (finite.entries board.view.now) place.topic ≡ Some topic
  pub is_part : slice_get (in_partition_order board.view.now) k ≡ Some (topic.0, place.partition)

-- and who may take it
pub record IsAt (board : Board) (k : ℕ) (place : Place) : Type 0 where
  pub topic : Text × Topic
  pub is_topic : slice_get (finite.entries board.view.now) place.topic ≡ Some topic
  pub is_part : slice_get (in_partition_order board.view.now) k ≡ Some (topic.0, place.partition)
  pub class : ℕ
  pub is_class : slice_get board.classes.items place.topic ≡ Some class
  pub takers : Vec ℕ
  pub are_there : slice_get board.takers.items class ≡ Some takers
  pub are_takers : AreTakersOf (members_on board) topic.0 takers.items

module _ (board : Board) (is : IsBare board) where
  pub part_at : (k : ℕ) (place : Place) → slice_get board.places.items k ≡ Some place → IsPart board k place
  part_at k place here =
      let topics = finite.entries board.view.now in
      let shown = slice_get-map_at (shown_place topics) board.places.items k place here in
      let (x, is_x, same) = slice_get-map_from Some (in_partition_order board.view.now) k (shown_place topics place) (ap (λ xs. slice_get xs k) (sym is.places) ∙ shown) in
      let (t, is_t, same_t) = option_map-from (λ (t : Text × Topic). (t.0, place.partition)) (slice_get topics place.topic) x (sym same) in
      record { topic = t; is_topic = is_t; is_part = is_x ∙ ap Some (sym same_t) }

  pub as_many_places : length board.places.items ≡ length (in_partition_order board.view.now)
  as_many_places =
      sym (length-map board.places.items (shown_place (finite.entries board.view.now)))
      ∙ ap length is.places ∙ length-map (in_partition_order board.view.now) Some

  pub parts_are_apart : AreApart (in_partition_order board.view.now)
  parts_are_apart = AreApart-view board.view.now is.sound

pub at_place : (board : Board) → IsBoard board → (k : ℕ) (place : Place) → slice_get board.places.items k ≡ Some place → IsAt board k place
at_place board is k place here =
    let part = part_at board is.bare k place here in
    let (class, v, is_class, is_v, takers) = is.takers.there place.topic part.topic part.is_topic in
    record { topic = part.topic; is_topic = part.is_topic; is_part = part.is_part; class = class; is_class = is_class; takers = v; are_there = is_v; are_takers = takers }

-- the takers of its class
pub same_takers : (board : Board) (k : ℕ) (place : Place) (at : IsAt board k place) (class : ℕ) (takers : Vec ℕ) → slice_get board.classes.items place.topic ≡ Some class
    → slice_get board.takers.items class ≡ Some takers → at.takers ≡ takers
same_takers board k place at class takers is_class is_takers =
    let same : at.class ≡ class = same_Some at.class class (sym at.is_class ∙ is_class) in
    same_Some at.takers takers (sym at.are_there ∙ ap (slice_get board.takers.items) same ∙ is_takers)

-- ---- takers

-- a taker's place and the subscriber at it
pub taker_here : (subs : List Subscriber) (name : Text) (takers : List ℕ) (k t : ℕ) → AreTakersOf subs name takers → slice_get takers k ≡ Some t
    → (m : Subscriber) × (slice_get subs t ≡ Some m) × (slice_get (subscribers_of subs name) k ≡ Some m)
taker_here subs name takers k t are is =
    let (m, is_m, same) = slice_get-map_from Some (subscribers_of subs name) k (slice_get subs t) (ap (λ xs. slice_get xs k) (sym are) ∙ slice_get-map_at (slice_get subs) takers k t is) in
    (m, sym same, is_m)

-- a subscriber, and the taker at its place
pub here_taker : (subs : List Subscriber) (name : Text) (takers : List ℕ) (k : ℕ) (m : Subscriber) → AreTakersOf subs name takers → slice_get (subscribers_of subs name) k ≡ Some m
    → (t : ℕ) × (slice_get takers k ≡ Some t) × (slice_get subs t ≡ Some m)
here_taker subs name takers k m are is =
    let (t, is_t, same) = slice_get-map_from (slice_get subs) takers k (Some m) (ap (λ xs. slice_get xs k) are ∙ slice_get-map_at Some (subscribers_of subs name) k m is) in
    (t, is_t, same)

pub no_takers : (subs : List Subscriber) (name : Text) (takers : List ℕ) → AreTakersOf subs name takers → takers ≡ [] → subscribers_of subs name ≡ []
no_takers subs name takers are none = empty (subscribers_of subs name) (sym are ∙ ap (map (slice_get subs)) none)
  where
    empty : (xs : List Subscriber) → map Some xs ≡ [] → xs ≡ []
    empty [] same = refl
    empty (x ∷ xs) same = cc

-- every taker has a place among the members
pub all_takers : (subs : List Subscriber) (name : Text) (takers : List ℕ) → AreTakersOf subs name takers → All (λ t. t < length subs) takers
all_takers subs name takers are k d within =
    let (m, is_m, there) = taker_here subs name takers k (get_or takers k d) are (slice_get-get_or takers k d within) in
    slice_get_within subs (get_or takers k d) m is_m

-- the least taker is a member
pub least-within : (subs : List Subscriber) (name : Text) (counts takers : List ℕ) (m : ℕ) → AreTakersOf subs name takers → IsLeast counts takers m → (s : Subscriber) × (slice_get subs m ≡ Some s)
least-within subs name counts takers m are least =
    let (s, is_s, there) = taker_here subs name takers least.place m are least.is_there in (s, is_s)

-- the place that a loop is at
pub place_here : (items places : List Place) (k : ℕ) (place : Place) → items ≡ places → k < length items → place ≡ get_or items k place → slice_get places k ≡ Some place
place_here items places k place same within read = ap (λ xs. slice_get xs k) (sym same) ∙ slice_get_read items (length items) k place refl within read

-- each of a board's takers has a place among the members
pub takers_within : (board : Board) → IsBoard board → (k : ℕ) (v : Vec ℕ) → slice_get board.takers.items k ≡ Some v → All (λ t. t < length (members_on board)) v.items
takers_within board is k v here = let (topic, of) = is.takers.each k v here in all_takers (members_on board) topic.0 v.items of

pub taker_within : (board : Board) → IsBoard board → (c k m : ℕ) (v : Vec ℕ) → slice_get board.takers.items c ≡ Some v → slice_get v.items k ≡ Some m → m < length (members_on board)
taker_within board is c k m v is_v is_m =
    let (topic, of) = is.takers.each c v is_v in
    let (s, is_s, there) = taker_here (members_on board) topic.0 v.items k m of is_m in
    slice_get_within (members_on board) m s is_s
