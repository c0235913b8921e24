use Rattle.std.proofs.Common.{◌≡◌, ◌<◌, ℕ, Bool, true, false, not, List, Some, get_or, length, map, refl, sym, ap, ◌∙◌, arith, rules, to_z, of_z, pos}
use Rattle.std.specs.FinMap as finite
use Rattle.std.specs.Int.{w32}
use Rattle.std.specs.List.{slice_get}
use Rattle.std.proofs.lemmas.List.{length-map}
use Rattle.std.proofs.lemmas.Option.{slice_get_read, slice_get_within}
use Rattle.std.proofs.lemmas.Slice.Eq.{bytes_eq-Decides}
use Rattle.topic_meta.specs.Views.{named}
use Rattle.topic_meta.specs.declared.view_topic.ViewTopic.{ViewTopic}
use Rattle.uniform_assign.specs.Boards.{IsBare}
use Rattle.uniform_assign.specs.declared.board.Board.{Board}
use Rattle.uniform_assign.specs.declared.board.Place.{Place}
use Rattle.uniform_assign.proofs.Boards.{part_at}
use Rattle.uniform_assign.proofs.Lists.{slice_get-map_at}
use Rattle.uniform_assign.proofs.Located.{place-ahead}
use Rattle.uniform_assign.proofs.Staying.{index_shown}
use Rattle.uniform_assign.proofs.board.Board.index_behind.Goals as goal

not_false : (b : Bool) → false ≡ not b → b ≡ true
not_false true is = refl
not_false false is = cc

-- the topic of a place is one of the view's
in_view : (board : Board) → IsBare board → (topics : List ViewTopic) → map named topics ≡ finite.entries board.view.now → (first : ℕ) (place : Place) → slice_get board.places.items first ≡ Some place → place.topic < length topics
in_view board is topics all first place here =
    let part = part_at board is first place here in
    let low = slice_get_within (finite.entries board.view.now) place.topic part.topic part.is_topic in
    let many = ap length all in
    let as_many = length-map topics named in
    omega arith

-- the place that is looked at
first_place : (places : List Place) (first : ℕ) (place : Place) → first < length places → place ≡ get_or places first place → slice_get places first ≡ Some place
first_place places first place low read = slice_get_read places (length places) first place refl low read

pub offset_bounds-topics-place : goal.offset_bounds-topics-place
offset_bounds-topics-place c =
    let board = c.args.self.now in
    let below = c.if-len-first.false in
    let long = c.len.ensures in
    let ok = board.places.ok in
    let low = in_view board c.requires c.topics.result.now c.topics.ensures.all c.args.first c.index.result.now (first_place board.places.items c.args.first c.index.result.now (omega arith) c.index.ensures) in
    let small = c.topics.type_inv in
    omega arith

pub bounds-topics-place : goal.bounds-topics-place
bounds-topics-place c =
    let board = c.args.self.now in
    let below = c.if-len-first.false in
    let long = c.len.ensures in
    let ok = board.places.ok in
    in_view board c.requires c.topics.result.now c.topics.ensures.all c.args.first c.index.result.now (first_place board.places.items c.args.first c.index.result.now (omega arith) c.index.ensures)

pub bounds-topics-place-in_ok-index : goal.bounds-topics-place-in_ok-index
bounds-topics-place-in_ok-index c = bounds-topics-place c

pub returns-then-index-topics : goal.returns-then-index-topics
returns-then-index-topics c =
    let board = c.args.self.now in
    let place = c.index.result.now in
    let topic = c.index-topics-place.result in
    let below = c.if-len-first.false in
    let long = c.len.ensures in
    let ok = board.places.ok in
    let there = first_place board.places.items c.args.first place (omega arith) c.index.ensures in
    let index = c.in_ok-index.index in
    let key = c.args.partition.now in
    let read : slice_get c.topics.result.now place.topic ≡ Some topic = slice_get_read c.topics.result.now (length c.topics.result.now) place.topic topic refl (in_view board c.requires c.topics.result.now c.topics.ensures.all c.args.first place there) c.index-topics-place.is in
    let is_topic = ap (λ xs. slice_get xs place.topic) (sym c.topics.ensures.all) ∙ slice_get-map_at named c.topics.result.now place.topic topic read in
    let zero : place.partition.index ≡ pos 0 = sym (let shown : to_z w32 (of_z w32 place.partition.index) ≡ place.partition.index = search rules in shown) ∙ ap (to_z w32) c.if-place-ne0.false in
    let here : key.index ≡ pos index =
    sym (let shown : to_z w32 (of_z w32 key.index) ≡ key.index = search rules in shown) ∙ index_shown c.try_from.result (to_z w32 (of_z w32 key.index)) index c.in_ok-index.ensures.value c.try_from.ensures in
    let same : place.partition.topic ≡ key.topic = (bytes_eq-Decides place.partition.topic key.topic).0 (not_false _ c.if-ne.ensures) in
    let counts = ap (λ (t : ViewTopic). t.count) c.index-topics-place.is in
    let low = c.if-index-topics.true in
    let (other, is_other, is_partition) = place-ahead board c.requires c.args.first index place (named topic) there zero is_topic (omega arith) in
    (other, is_other, is_partition ∙ (λ i. record { topic = same i; index = sym here i }))
