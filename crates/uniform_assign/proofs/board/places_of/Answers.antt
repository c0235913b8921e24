use Rattle.std.proofs.Common.{◌≡◌, map, arith, ap, ◌∙◌, refl, Some, length}
use Rattle.std.specs.List.{slice_get, flat_map}
use Rattle.std.specs.Option.{option_map}
use Rattle.std.proofs.lemmas.List.{length-map, take_all}
use Rattle.std.proofs.lemmas.Option.{slice_get-map, slice_get_read}
use Rattle.group_types.specs.Uniform.{partitions_of}
use Rattle.topic_meta.specs.Views.{all_named, named}
use Rattle.uniform_assign.proofs.Made.{ArePlacesTo-more}
use Rattle.uniform_assign.proofs.board.places_of.Goals as goal

pub loop-at-preserved : goal.loop-at-preserved
loop-at-preserved c =
    let topics = c.args.topics.now in
    let topic = c.index-topics-at.result in
    let is : slice_get (all_named topics) c.loop-at.at ≡ Some (named topic) =
    slice_get-map named topics c.loop-at.at ∙ ap (option_map named) (slice_get_read topics (length topics) c.loop-at.at topic refl c.loop-at-test.true c.index-topics-at.is) in
    ArePlacesTo-more (all_named topics) c.loop-at.at (named topic) c.loop-at.places.items c.add_places.new.places.items is c.loop-at.invariant c.in_ok-add_places.ensures

pub returns : goal.returns
returns c =
    let long = length-map c.args.topics.now named in
    c.loop-at.invariant ∙ ap (λ xs. map Some (flat_map partitions_of xs)) (take_all c.loop-at.at (all_named c.args.topics.now) (omega arith))
