use Rattle.std.proofs.Common.{◌≡◌, Bool, true, false, ◌+◌, ◌-◌, ◌<◌, ◌≤◌, ℕ, List, inl, inr, ◌++◌, length, take, drop, sym, ap, ◌∙◌, subst, arith, string_bytes}
use Rattle.std.specs.Bool.{OnTrue}
use Rattle.std.proofs.lemmas.Bool.{cases_lt}
use Rattle.std.proofs.lemmas.List.{length-map}
use Rattle.std.proofs.lemmas.Option.{slice_get_within}
use Rattle.group_types.specs.Text.{Text}
use Rattle.group_types.specs.Partition.{Partitions}
use Rattle.group_types.specs.Assignors.{IdsAreApart, Subscriber, subscribers_of}
use Rattle.group_types.specs.Owners.{IsRange}
use Rattle.topic_meta.proofs.Places.{topic_at-count}
use Rattle.range_assign.specs.Members.{subscriber_of, subscribers_in}
use Rattle.range_assign.specs.Shares.{AreShares, shares_in, spread_of}
use Rattle.topic_meta.specs.declared.view_topic.ViewTopic.{ViewTopic}
use Rattle.range_assign.specs.Turns.{AreDealt, counts_of}
use Rattle.range_assign.proofs.Dealt.{AreShares-full, IsDealingFull, IsDealingFull-more, IsDealingFull-none, IsDealingFull-rest, IsRangeShare-nothing, dealt-AreShares, dealt-IsRange, spread_of-full, written_over}
use Rattle.range_assign.proofs.Marked.{NamesRise-view}
use Rattle.range_assign.proofs.Lawful.{range_is_lawful}
use Rattle.range_assign.proofs.range.RangeAssignor.assign.Goals as goal
use Rattle.range_assign.proofs.range.RangeAssignor.assign.Goals.{then-loop-at-test+else-not-are_dealt, else-loop-at-test}

where_true : {P : Type 0} (b : Bool) → OnTrue b P → b ≡ true → P
where_true true p is = p
where_true false p is = cc

-- once nobody gets a partition any more, each member has its share
all_dealt : (topics : List ViewTopic) (subs : List Subscriber) (at : ℕ) (counts places : List ℕ) (shares : List (Text × Partitions)) → counts ≡ counts_of topics subs → at ≤ length subs
    → (at < length subs → AreDealt topics counts places) → IsDealingFull topics subs at places shares → IsDealingFull topics subs (length subs) (counts_of topics (take (length subs) subs)) shares
all_dealt topics subs at counts places shares counted within over so_far =
    IsDealingFull-rest topics subs at (length subs - at) places shares (omega arith) so_far
    (λ k low m here p. elim (cases_lt at (length subs)) [
      | inl more ↦ IsRangeShare-nothing topics subs counts places at k counted so_far.dealing.placed (over more) low m here p
      | inr none ↦ let in_subs = slice_get_within subs k m here in absurd (omega arith)
    ])

pub loop-at-init : goal.loop-at-init
loop-at-init c = (
  omega arith,
  IsDealingFull-none c.topics-topics.result.now (subscribers_in c.members-members.result.now) c.in_ok-places.places.items (shares_in c.new-shares.result.items)
      (c.in_ok-places.ensures.items_if_clones_equal (λ y same. same)) (ap shares_in c.new-shares.ensures.items),
)

pub deal-requires-clause-few : goal.deal-requires-clause-few
deal-requires-clause-few c = λ k d within.
    let count = (topic_at-count c.args.view.now c.topics-topics.result.now c.topics-topics.ensures.all c.topics-topics.ensures.sound k d within).1 in
    omega arith

pub subscriber_counts-requires : goal.subscriber_counts-requires
subscriber_counts-requires c = NamesRise-view c.args.view.now c.topics-topics.result.now c.topics-topics.ensures.all

pub deal-requires-clause-rise : goal.deal-requires-clause-rise
deal-requires-clause-rise c = NamesRise-view c.args.view.now c.topics-topics.result.now c.topics-topics.ensures.all

pub loop-at-preserved : goal.loop-at-preserved
loop-at-preserved c =
    let topics = c.topics-topics.result.now in
    let subs = subscribers_in c.members-members.result.now in
    let moved : c.deal.new.places ≡ counts_of topics (take (c.loop-at.at + 1) subs) = c.in_ok-deal.ensures.moved in
    let written : take c.loop-at.places.len (c.deal.new.places ++ drop (length c.deal.new.places) c.loop-at.places.items) ≡ c.deal.new.places =
    written_over c.loop-at.places.len c.deal.new.places c.loop-at.places.items c.loop-at.places.ok.0
    (ap length moved ∙ length-map topics (λ t. length (subscribers_of (take (c.loop-at.at + 1) subs) (string_bytes t.name)))
    ∙ sym (ap length c.loop-at.invariant.1.dealing.placed ∙ length-map topics (λ t. length (subscribers_of (take c.loop-at.at subs) (string_bytes t.name))))) in
    (omega arith, IsDealingFull-more topics subs c.loop-at.at c.loop-at.places.items _ (shares_in c.loop-at.shares.items) (shares_in c.deal.new.shares.items) c.loop-at.invariant.1 (written ∙ moved) c.in_ok-deal.ensures.share)

pub of-requires : goal.of-requires
of-requires c =
    let long = length-map c.members-members.result.now subscriber_of in
    let topics = c.topics-topics.result.now in
    let subs = subscribers_in c.members-members.result.now in
    let end = all_dealt topics subs c.loop-at.at c.in_ok-counts.counts.items c.loop-at.places.items (shares_in c.loop-at.shares.items) c.in_ok-counts.ensures (omega arith) (λ more. elim c.loop-at-test.branch [
      | then-loop-at-test+else-not-are_dealt w ↦
          subst (λ list. AreDealt topics list c.loop-at.places.items) w.deref.ensures.value
          (subst (AreDealt topics w.deref.result.now) w.deref-in-loop-at.ensures.value (where_true w.are_dealt.result w.are_dealt.ensures w.if-not-are_dealt.false))
      | else-loop-at-test w ↦ absurd (omega arith)
    ]) c.loop-at.invariant.1 in
    subst AreShares (sym end.are_full) (AreShares-full end.all
    (dealt-AreShares c.args.view.now topics c.topics-topics.ensures.all subs c.topics-topics.ensures.sound
    (subst IdsAreApart (sym c.members-members.ensures.all) c.members-members.ensures.apart) end.all end.dealing.as_many end.dealing.dealt))

pub returns-clause-range : goal.returns-clause-range
returns-clause-range c =
    let long = length-map c.members-members.result.now subscriber_of in
    let topics = c.topics-topics.result.now in
    let subs = subscribers_in c.members-members.result.now in
    let end = all_dealt topics subs c.loop-at.at c.in_ok-counts.counts.items c.loop-at.places.items (shares_in c.loop-at.shares.items) c.in_ok-counts.ensures (omega arith) (λ more. elim c.loop-at-test.branch [
      | then-loop-at-test+else-not-are_dealt w ↦
          subst (λ list. AreDealt topics list c.loop-at.places.items) w.deref.ensures.value
          (subst (AreDealt topics w.deref.result.now) w.deref-in-loop-at.ensures.value (where_true w.are_dealt.result w.are_dealt.ensures w.if-not-are_dealt.false))
      | else-loop-at-test w ↦ absurd (omega arith)
    ]) c.loop-at.invariant.1 in
    let is : c.of.result ≡ spread_of end.all = c.of.ensures ∙ ap (λ list. spread_of list) end.are_full ∙ spread_of-full end.all in
    subst (IsRange c.args.view.now c.args.subs.now) (sym is)
    (subst (λ subs. IsRange c.args.view.now subs (spread_of end.all)) c.members-members.ensures.all
    (dealt-IsRange c.args.view.now topics c.topics-topics.ensures.all subs c.topics-topics.ensures.sound
    (subst IdsAreApart (sym c.members-members.ensures.all) c.members-members.ensures.apart) end.all end.dealing.as_many end.dealing.dealt))

pub returns-clause-lawful : goal.returns-clause-lawful
returns-clause-lawful c = range_is_lawful c.args.view.now c.args.subs.now c.of.result (returns-clause-range c)
