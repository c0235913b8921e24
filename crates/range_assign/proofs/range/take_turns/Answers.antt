use Rattle.std.proofs.Common.{◌≡◌, ◌+◌, ◌<◌, ℕ, ◌≤◌, ◌↔◌, length, take, true, refl, sym, ap, ◌∙◌, subst, arith, Some, string_bytes, get_or}
use Rattle.std.specs.List.{slice_get}
use Rattle.std.specs.Option.{option_map}
use Rattle.std.proofs.lemmas.List.{length-map}
use Rattle.std.proofs.lemmas.Option.{same_Some, slice_get-map, slice_get_read}
use Rattle.std.specs.Global.{Vec}
use Rattle.group_types.specs.declared.partition.Partition.{Partition}
use Rattle.group_types.specs.Sets.{has, of_list}
use Rattle.group_types.specs.Assignors.{Subscriber, subscribers_of}
use Rattle.group_types.specs.Owners.{range_place}
use Rattle.range_assign.specs.Members.{subscriber_of, subscribers_in}
use Rattle.range_assign.specs.Turns.{IsRangeShare, counts_of}
use Rattle.range_assign.proofs.Marked.{marked-read}
use Rattle.range_assign.proofs.Turns.{IsTurning, IsTurning-none, IsTurning-skip, IsTurning-take, IsTurning-moved, IsTurning-share, place-below}
use Rattle.range_assign.proofs.range.take_turns.Goals as goal
use Rattle.range_assign.proofs.range.take_turns.Goals.{then-index+in_ok-add_run, else-index}

pub loop-t-init : goal.loop-t-init
loop-t-init c = λ m here. IsTurning-none c.args.topics.now (subscribers_in c.args.members.now) c.args.at m c.args.places.now (of_list c.new-parts.result.items) c.requires.placed (ap of_list c.new-parts.ensures.items)

pub run_of-first-requires : goal.run_of-first-requires
run_of-first-requires c =
    let subs = subscribers_in c.args.members.now in
    let m = subscriber_of c.index-members-at.result in
    let topic = c.index-topics-t.result in
    let here : slice_get subs c.args.at ≡ Some m =
    slice_get-map subscriber_of c.args.members.now c.args.at ∙ ap (option_map subscriber_of) (slice_get_read c.args.members.now _ c.args.at c.index-members-at.result refl c.requires.within c.index-members-at.is) in
    let is : slice_get c.args.topics.now c.loop-t.t ≡ Some topic = slice_get_read c.args.topics.now _ c.loop-t.t topic refl c.loop-t-test.true c.index-topics-t.is in
    let there : has m.names (string_bytes topic.name) ≡ true =
    sym (marked-read c.args.topics.now c.index-members-at.result.names.now c.in_ok-marks.marks.items c.in_ok-marks.ensures c.loop-t.t topic is c.index.result.now c.index.ensures) ∙ c.if-index.true in
    let counted = ap (λ list. get_or list c.loop-t.t 0) c.requires.counted in
    let below = place-below c.args.topics.now subs c.args.at m c.loop-t.t c.loop-t.places (of_list c.loop-t.parts.items) topic here is (c.loop-t.invariant m here) there in
    omega arith

pub overflow_add-places : goal.overflow_add-places
overflow_add-places c =
    let subs = subscribers_in c.args.members.now in
    let m = subscriber_of c.index-members-at.result in
    let topic = c.index-topics-t.result in
    let here : slice_get subs c.args.at ≡ Some m =
    slice_get-map subscriber_of c.args.members.now c.args.at ∙ ap (option_map subscriber_of) (slice_get_read c.args.members.now _ c.args.at c.index-members-at.result refl c.requires.within c.index-members-at.is) in
    let is : slice_get c.args.topics.now c.loop-t.t ≡ Some topic = slice_get_read c.args.topics.now _ c.loop-t.t topic refl c.loop-t-test.true c.index-topics-t.is in
    let there : has m.names (string_bytes topic.name) ≡ true =
    sym (marked-read c.args.topics.now c.index-members-at.result.names.now c.in_ok-marks.marks.items c.in_ok-marks.ensures c.loop-t.t topic is c.index.result.now c.index.ensures) ∙ c.if-index.true in
    let counted = ap (λ list. get_or list c.loop-t.t 0) c.requires.counted in
    let below = place-below c.args.topics.now subs c.args.at m c.loop-t.t c.loop-t.places (of_list c.loop-t.parts.items) topic here is (c.loop-t.invariant m here) there in
    let fits = c.type_inv.counts c.loop-t.t in
    omega arith

pub loop-t-preserved : goal.loop-t-preserved
loop-t-preserved c = λ m here.
    let subs = subscribers_in c.args.members.now in
    let mine = subscriber_of c.index-members-at.result in
    let topic = c.index-topics-t.result in
    let known : slice_get subs c.args.at ≡ Some mine =
    slice_get-map subscriber_of c.args.members.now c.args.at ∙ ap (option_map subscriber_of) (slice_get_read c.args.members.now _ c.args.at c.index-members-at.result refl c.requires.within c.index-members-at.is) in
    let is : slice_get c.args.topics.now c.loop-t.t ≡ Some topic = slice_get_read c.args.topics.now _ c.loop-t.t topic refl c.loop-t-test.true c.index-topics-t.is in
    let asked : has m.names (string_bytes topic.name) ≡ c.index.result.now =
    ap (λ (s : Subscriber). has s.names (string_bytes topic.name)) (same_Some m mine (sym here ∙ known))
    ∙ sym (marked-read c.args.topics.now c.index-members-at.result.names.now c.in_ok-marks.marks.items c.in_ok-marks.ensures c.loop-t.t topic is c.index.result.now c.index.ensures) in
    let counted : get_or c.args.counts.now c.loop-t.t 0 ≡ get_or (counts_of c.args.topics.now subs) c.loop-t.t 0 = ap (λ list. get_or list c.loop-t.t 0) c.requires.counted in
    elim c.if-index.branch [
      | then-index+in_ok-add_run w ↦
          let long : c.loop-t.t < length c.loop-t.places =
          let all = ap length c.requires.placed ∙ length-map c.args.topics.now (λ t. length (subscribers_of (take c.args.at subs) (string_bytes t.name))) in omega arith in
          let taken = IsTurning-take c.args.topics.now subs c.args.at m c.loop-t.t c.loop-t.places (of_list c.loop-t.parts.items) topic here is (c.loop-t.invariant m here)
          (of_list w.add_run.new.parts.items) w.run_of-first.result.0 w.run_of-first.result.1 long (asked ∙ w.if-index.true) w.run_of-first.ensures.within.1
          (subst (λ k. (i : ℕ) → i < topic.count → ((w.run_of-first.result.0 ≤ i) × (i < w.run_of-first.result.1)) ↔ (range_place topic.count k i ≡ get_or c.loop-t.places c.loop-t.t 0)) counted w.run_of-first.ensures.run)
          w.in_ok-add_run.ensures in
          subst (λ set. IsTurning c.args.topics.now subs c.args.at m (c.loop-t.t + 1) c.if-index.places set) (ap (λ (v : Vec Partition). of_list v.items) (sym w.parts-is))
          (subst (λ places. IsTurning c.args.topics.now subs c.args.at m (c.loop-t.t + 1) places (of_list w.add_run.new.parts.items)) (sym w.places-is) taken)
      | else-index w ↦
          let skipped = IsTurning-skip c.args.topics.now subs c.args.at m c.loop-t.t c.loop-t.places (of_list c.loop-t.parts.items) topic here is (c.loop-t.invariant m here) (asked ∙ w.if-index.false) in
          subst (λ set. IsTurning c.args.topics.now subs c.args.at m (c.loop-t.t + 1) c.if-index.places set) (ap (λ (v : Vec Partition). of_list v.items) (sym w.parts-is))
          (subst (λ places. IsTurning c.args.topics.now subs c.args.at m (c.loop-t.t + 1) places (of_list c.loop-t.parts.items)) (sym w.places-is) skipped)
    ]

pub returns-clause-moved : goal.returns-clause-moved
returns-clause-moved c =
    let subs = subscribers_in c.args.members.now in
    let m = subscriber_of c.index-members-at.result in
    let here : slice_get subs c.args.at ≡ Some m =
    slice_get-map subscriber_of c.args.members.now c.args.at ∙ ap (option_map subscriber_of) (slice_get_read c.args.members.now _ c.args.at c.index-members-at.result refl c.requires.within c.index-members-at.is) in
    let all = ap length c.requires.placed ∙ length-map c.args.topics.now (λ t. length (subscribers_of (take c.args.at subs) (string_bytes t.name))) in
    IsTurning-moved c.args.topics.now subs c.args.at m c.loop-t.t c.loop-t.places (of_list c.loop-t.parts.items) (omega arith) (omega arith) (c.loop-t.invariant m here)

pub returns-clause-share : goal.returns-clause-share
returns-clause-share c =
    let subs = subscribers_in c.args.members.now in
    let m = subscriber_of c.index-members-at.result in
    let here : slice_get subs c.args.at ≡ Some m =
    slice_get-map subscriber_of c.args.members.now c.args.at ∙ ap (option_map subscriber_of) (slice_get_read c.args.members.now _ c.args.at c.index-members-at.result refl c.requires.within c.index-members-at.is) in
    subst (IsRangeShare c.args.topics.now subs c.args.at) (sym c.of_vec.ensures)
    (IsTurning-share c.args.topics.now subs c.args.at m c.loop-t.t c.loop-t.places (of_list c.loop-t.parts.items) here (omega arith) (c.loop-t.invariant m here))
