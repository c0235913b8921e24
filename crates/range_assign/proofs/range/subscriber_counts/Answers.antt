use Rattle.std.proofs.Common.{◌≡◌, ℕ, zero, suc, ◌+◌, ◌<◌, ◌≤◌, true, false, cond, List, [], ◌∷◌, length, get_or, map, replicate, take, refl, sym, ap, ◌∙◌, arith, Some, string_bytes}
use Rattle.std.specs.List.{slice_get}
use Rattle.std.specs.Option.{option_map}
use Rattle.std.proofs.lemmas.List.{ext_get_or, get_or_default, length-map, length-take, take_all}
use Rattle.std.proofs.lemmas.List.Sums.{count_by-le-length, length-filter}
use Rattle.std.proofs.lemmas.Option.{slice_get-map, slice_get_read, slice_get_within}
use Rattle.group_types.specs.Assignors.{Subscriber, subscribers_of}
use Rattle.group_types.specs.Sets.{has}
use Rattle.topic_meta.specs.declared.view_topic.ViewTopic.{ViewTopic}
use Rattle.range_assign.specs.Members.{subscriber_of, subscribers_in}
use Rattle.range_assign.specs.Turns.{counts_of}
use Rattle.range_assign.proofs.Marked.{marked-at}
use Rattle.range_assign.proofs.Turns.{counts_of-at, one_later, passed_over}
use Rattle.range_assign.proofs.range.subscriber_counts.Goals as goal

nobody : (topics : List ViewTopic) → replicate {A = ℕ} (length topics) 0 ≡ map (λ (t : ViewTopic). 0) topics
nobody [] = refl
nobody (t ∷ ts) = ap (λ rest. 0 ∷ rest) (nobody ts)

as_many : (topics : List ViewTopic) (subs : List Subscriber) → length (counts_of topics subs) ≡ length topics
as_many topics subs = length-map topics (λ (t : ViewTopic). length (subscribers_of subs (string_bytes t.name)))

some_at : (xs : List ViewTopic) (k : ℕ) → k < length xs → (x : ViewTopic) × (slice_get xs k ≡ Some x)
some_at [] k low = absurd (omega (arith, low))
some_at (x ∷ xs) zero low = (x, refl)
some_at (x ∷ xs) (suc k) low = some_at xs k (omega (arith, low))

-- no count is more than the members
few : (topics : List ViewTopic) (subs : List Subscriber) (n t : ℕ) → t < length topics → get_or (counts_of topics (take n subs)) t 0 ≤ length (take n subs)
few topics subs n t low =
    let (topic, is) = some_at topics t low in
    let at = counts_of-at topics (take n subs) t topic is in
    let filtered = length-filter (λ (m : Subscriber). has m.names (string_bytes topic.name)) (take n subs) in
    let below = count_by-le-length (λ (m : Subscriber). has m.names (string_bytes topic.name)) (take n subs) in
    omega (arith, at, filtered, below)

-- a member more
more : (topics : List ViewTopic) (subs : List Subscriber) (n : ℕ) (m : Subscriber) (old new : List ℕ) → slice_get subs n ≡ Some m → old ≡ counts_of topics (take n subs)
    → length new ≡ length old
    → ((t : ℕ) (topic : ViewTopic) → slice_get topics t ≡ Some topic → get_or new t 0 ≡ get_or old t 0 + cond (has m.names (string_bytes topic.name)) 1 0)
    → new ≡ counts_of topics (take (n + 1) subs)
more topics subs n m old new here before many counted =
    let long = as_many topics (take (n + 1) subs) in
    let short = ap length before ∙ as_many topics (take n subs) in
    ext_get_or 0 new (counts_of topics (take (n + 1) subs)) (omega (arith, long, short, many)) (λ t low.
    let (topic, is) = some_at topics t (omega (arith, low, short, many)) in
    let name = string_bytes topic.name in
    counted t topic is ∙ ap (λ k. k + cond (has m.names name) 1 0) (ap (λ xs. get_or xs t 0) before ∙ counts_of-at topics (take n subs) t topic is)
    ∙ elim (has m.names name) as (λ b. has m.names name ≡ b → length (subscribers_of (take n subs) name) + cond b 1 0 ≡ length (subscribers_of (take (n + 1) subs) name)) [
      | true ↦ λ there. sym (one_later subs n m here name there)
      | false ↦ λ away. let same = passed_over subs n m here name away in omega (arith, same)
    ] refl
    ∙ sym (counts_of-at topics (take (n + 1) subs) t topic is))

pub loop-member-init : goal.loop-member-init
loop-member-init c = c.in_ok-counts.ensures.items_if_clones_equal (λ y same. same) ∙ nobody c.args.topics.now

pub count_marks-requires-clause-as_many : goal.count_marks-requires-clause-as_many
count_marks-requires-clause-as_many c =
    let topics = c.args.topics.now in
    ap length (c.deref.ensures.value ∙ c.in_ok-mark.ensures) ∙ length-map topics (λ (t : ViewTopic). has c.member-item.result.names.now (string_bytes t.name))
    ∙ sym (ap length c.loop-member.invariant ∙ as_many topics (take c.loop-member.member-index (subscribers_in c.args.members.now)))

pub count_marks-requires-clause-fewer : goal.count_marks-requires-clause-fewer
count_marks-requires-clause-fewer c = λ k d low.
    let topics = c.args.topics.now in
    let subs = subscribers_in c.args.members.now in
    let n = c.loop-member.member-index in
    let long = ap length c.loop-member.invariant ∙ as_many topics (take n subs) in
    let same : get_or c.loop-member.counts.items k d ≡ get_or (counts_of topics (take n subs)) k 0 = get_or_default c.loop-member.counts.items k d 0 low ∙ ap (λ xs. get_or xs k 0) c.loop-member.invariant in
    let below = few topics subs n k (omega (arith, low, long)) in
    let taken = length-take n subs in
    let all = length-map c.args.members.now subscriber_of in
    let within = c.loop-member-test.true in
    omega (arith, same, below, taken, all, within)

pub loop-member-preserved : goal.loop-member-preserved
loop-member-preserved c =
    let topics = c.args.topics.now in
    let members = c.args.members.now in
    let subs = subscribers_in members in
    let n = c.loop-member.member-index in
    let member = c.member-item.result in
    let old = c.loop-member.counts.items in
    let here : slice_get subs n ≡ Some (subscriber_of member) =
    slice_get-map subscriber_of members n ∙ ap (option_map subscriber_of) (slice_get_read members (length members) n member refl c.loop-member-test.true c.member-item.is) in
    let long = ap length c.loop-member.invariant ∙ as_many topics (take n subs) in
    more topics subs n (subscriber_of member) old c.count_marks.new.counts.items here c.loop-member.invariant c.count_marks.ensures.as_many
    (λ t topic is. let low = slice_get_within topics t topic is in
    c.count_marks.ensures.counted t (omega (arith, low, long))
    ∙ ap (λ b. get_or old t 0 + cond b 1 0) (ap (λ xs. get_or xs t false) c.deref.ensures.value ∙ marked-at topics member.names.now c.mark.new.marks.items c.in_ok-mark.ensures t topic is))

pub returns : goal.returns
returns c =
    let long = length-map c.args.members.now subscriber_of in
    c.loop-member.invariant ∙ ap (counts_of c.args.topics.now) (take_all c.loop-member.member-index (subscribers_in c.args.members.now) (omega arith))
