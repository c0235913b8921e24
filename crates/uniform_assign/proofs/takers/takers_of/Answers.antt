use Rattle.std.proofs.Common.{◌≡◌, false, get_or, length, refl, sym, ap, ◌∙◌, arith, Some, string_bytes}
use Rattle.std.specs.List.{slice_get}
use Rattle.std.specs.Option.{option_map}
use Rattle.std.proofs.lemmas.List.{length-map}
use Rattle.std.proofs.lemmas.Option.{slice_get-map, slice_get_read}
use Rattle.group_types.specs.Sets.{has}
use Rattle.group_types.specs.Text.{Text}
use Rattle.group_types.specs.Topics.{Topic}
use Rattle.topic_meta.specs.declared.view_topic.ViewTopic.{ViewTopic}
use Rattle.topic_meta.specs.Views.{all_named, named}
use Rattle.range_assign.specs.Members.{subscriber_of, subscribers_in}
use Rattle.range_assign.proofs.Marked.{marked-at}
use Rattle.uniform_assign.proofs.Lists.{slice_get-map_from}
use Rattle.uniform_assign.proofs.Taken.{AllRise-all, AreTakers-all, AreTakersTo-more, AreTakersTo-none}
use Rattle.uniform_assign.proofs.takers.takers_of.Goals as goal

pub loop-at-init : goal.loop-at-init
loop-at-init c =
    let long = length-map c.args.topics.now named in
    let many = c.in_ok-all.ensures.as_many in
    AreTakersTo-none (all_named c.args.topics.now) (subscribers_in c.args.members.now) c.in_ok-all.all.items (omega arith) c.in_ok-all.ensures.empty

pub add_taker-requires : goal.add_taker-requires
add_taker-requires c =
    let topics = c.args.topics.now in
    ap length (c.deref.ensures.value ∙ c.in_ok-marks.ensures) ∙ length-map topics (λ (t : ViewTopic). has c.index-members-at.result.names.now (string_bytes t.name))
    ∙ sym (c.loop-at.invariant.as_many ∙ length-map topics named)

pub loop-at-preserved : goal.loop-at-preserved
loop-at-preserved c =
    let topics = c.args.topics.now in
    let members = c.args.members.now in
    let subs = subscribers_in members in
    let n = c.loop-at.at in
    let member = c.index-members-at.result in
    let here : slice_get subs n ≡ Some (subscriber_of member) =
    slice_get-map subscriber_of members n ∙ ap (option_map subscriber_of) (slice_get_read members (length members) n member refl c.loop-at-test.true c.index-members-at.is) in
    AreTakersTo-more (all_named topics) subs n (subscriber_of member) c.deref.result.now c.loop-at.all.items c.add_taker.new.all.items here
    (λ t topic is.
    let (x, is_x, same) = slice_get-map_from named topics t topic is in
    ap (λ xs. get_or xs t false) c.deref.ensures.value ∙ marked-at topics member.names.now c.in_ok-marks.marks.items c.in_ok-marks.ensures t x is_x
    ∙ ap (λ (y : Text × Topic). has member.names.now y.0) same)
    c.in_ok-add_taker.ensures c.loop-at.invariant

pub returns-clause-takers : goal.returns-clause-takers
returns-clause-takers c =
    let long = length-map c.args.members.now subscriber_of in
    let last = c.loop-at-test.false in
    AreTakers-all (all_named c.args.topics.now) (subscribers_in c.args.members.now) c.loop-at.at c.loop-at.all.items (omega arith) c.loop-at.invariant

pub returns-clause-rise : goal.returns-clause-rise
returns-clause-rise c =
    let long = length-map c.args.members.now subscriber_of in
    let last = c.loop-at-test.false in
    AllRise-all (all_named c.args.topics.now) (subscribers_in c.args.members.now) c.loop-at.at c.loop-at.all.items (omega arith) c.loop-at.invariant
