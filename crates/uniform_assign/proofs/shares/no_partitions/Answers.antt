use Rattle.std.proofs.Common.{◌++◌, ◌∷◌, [], ◌≡◌, map, take, arith, sym, ap, ◌∙◌, refl, Some, length}
use Rattle.group_types.specs.Assignors.{Subscriber}
use Rattle.group_types.specs.Sets.{nothing, of_list}
use Rattle.range_assign.specs.Members.{subscriber_of, subscribers_in}
use Rattle.std.proofs.lemmas.List.{length-map, map-append, take_all}
use Rattle.std.specs.List.{slice_get}
use Rattle.std.specs.Option.{option_map}
use Rattle.std.proofs.lemmas.Option.{slice_get-map, slice_get_read}
use Rattle.uniform_assign.specs.Hands.{hand_in, hands_in}
use Rattle.uniform_assign.proofs.Made.{take-next}
use Rattle.uniform_assign.proofs.shares.no_partitions.Goals as goal

pub loop-at-init : goal.loop-at-init
loop-at-init c = ap hands_in c.in_ok-hands.ensures.items

pub loop-at-preserved : goal.loop-at-preserved
loop-at-preserved c =
    let members = c.args.members.now in
    let n = c.loop-at.at in
    let m = c.index-members-at.result in
    let here : slice_get (subscribers_in members) n ≡ Some (subscriber_of m) =
    slice_get-map subscriber_of members n ∙ ap (option_map subscriber_of) (slice_get_read members (length members) n m refl c.loop-at-test.true c.index-members-at.is) in
    let pushed : hands_in c.push.new.self.items ≡ hands_in c.loop-at.hands.items ++ ((c.index-members-at.result).id.now, of_list c.in_ok-parts.parts.items) ∷ [] =
    ap hands_in c.in_ok-push.ensures.items ∙ map-append hand_in c.loop-at.hands.items _ in
    pushed
    ∙ (λ i. c.loop-at.invariant i ++ ((c.index-members-at.result).id.now, of_list (c.in_ok-parts.ensures.items i)) ∷ [])
    ∙ sym (ap (map (λ (s : Subscriber). (s.id, nothing))) (take-next (subscribers_in members) n (subscriber_of m) here) ∙ map-append (λ (s : Subscriber). (s.id, nothing)) (take n (subscribers_in members)) (subscriber_of m ∷ []))

pub returns : goal.returns
returns c =
    let long = length-map c.args.members.now subscriber_of in
    c.loop-at.invariant ∙ ap (map (λ (m : Subscriber). (m.id, nothing))) (take_all c.loop-at.at (subscribers_in c.args.members.now) (omega arith))
