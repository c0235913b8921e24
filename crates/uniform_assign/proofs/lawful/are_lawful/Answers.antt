use Rattle.std.proofs.Common.{◌≡◌, length, refl, sym, ap, subst, ◌∙◌, arith, Some}
use Rattle.std.specs.List.{slice_get}
use Rattle.std.proofs.lemmas.List.{length-map}
use Rattle.std.proofs.lemmas.Option.{same_Some, slice_get_read, slice_get_within}
use Rattle.group_types.specs.Assignors.{Subscriber}
use Rattle.range_assign.specs.declared.subs.Subscriber.{Subscriber as Given}
use Rattle.range_assign.specs.Marks.{marks_in}
use Rattle.range_assign.specs.Members.{subscriber_of, subscribers_in}
use Rattle.range_assign.specs.Shares.{share_in, shares_in}
use Rattle.range_assign.proofs.Marked.{NamesRise-view}
use Rattle.uniform_assign.specs.Marks.{AreAllMarked}
use Rattle.uniform_assign.proofs.Lists.{slice_get-map_at}
use Rattle.uniform_assign.proofs.Staying.{AreSeen-lawful, AreSeen-more, on_true_also}
use Rattle.uniform_assign.proofs.lawful.are_lawful.Goals as goal

pub marks_of-requires : goal.marks_of-requires
marks_of-requires c = NamesRise-view c.args.view.now c.topics-topics.result.now c.topics-topics.ensures.all

pub loop-share-preserved : goal.loop-share-preserved
loop-share-preserved c =
    let members = c.args.members.now in
    let subs = subscribers_in members in
    let topics = c.topics-topics.result.now in
    let items = c.shares-share-items.result.now in
    let n = c.loop-share.share-index in
    let at = c.in-Some.at in
    let x = c.share-item.result in
    let m = c.index-members-at.result in
    let (found, is_found, same_id) = c.in-Some.ensures in
    let within = slice_get_within subs at found is_found in
    let long = length-map members subscriber_of in
    let here : slice_get (shares_in items) n ≡ Some (share_in x) = slice_get-map_at share_in items n x (slice_get_read items (length items) n x refl c.loop-share-test.true c.share-item.is) in
    let there : slice_get subs at ≡ Some (subscriber_of m) =
    slice_get-map_at subscriber_of members at m (slice_get_read members (length members) at m refl (omega arith) c.index-members-at.is) in
    let one : subscriber_of m ≡ found = same_Some (subscriber_of m) found (sym there ∙ is_found) in
    AreSeen-more c.args.view.now subs topics (shares_in items) c.topics-topics.ensures.all n at (share_in x) (subscriber_of m) c.deref.result.now c.loop-share.marks.items c.mark_share.new.marks.items here there
    (ap (λ (s : Subscriber). s.id) one ∙ same_id ∙ c.as_str.ensures.value) (c.deref.ensures.value ∙ c.in_ok-named.ensures ∙ ap (λ (g : Given). marks_in topics g.names.now) (sym c.index-members-at.is)) c.if-not-mark_share.ensures.named c.if-not-mark_share.ensures.marked
    c.loop-share.invariant

pub returns : goal.returns
returns c =
    let items = c.shares-share-items.result.now in
    let topics = c.topics-topics.result.now in
    let long = length-map items share_in in
    let last = c.loop-share-test.false in
    on_true_also c.are_all_marked.result
    (λ full. AreSeen-lawful c.args.view.now (subscribers_in c.args.members.now) topics (shares_in items) c.topics-topics.ensures.all c.args.former.now c.loop-share.share-index c.loop-share.marks.items
    c.shares-share-items.ensures.spread c.shares-share-items.ensures.apart (omega arith) (subst (AreAllMarked topics) c.deref-2.ensures.value full) c.loop-share.invariant)
    c.are_all_marked.ensures
