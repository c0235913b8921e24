-- The offsets of a group are the last ones that were committed.
use Rattle.std.proofs.Common.{◌≡◌, ℕ, ◌==◌, ℤ, pos, int_lt, Bool, true, false, cond, not, ◌&&◌, List, [], ◌∷◌, ◌++◌, map, Option, Some, None, MatchOption, max, refl, sym, ap, subst, ◌∙◌}
use Rattle.std.specs.Cmp.{IsTotalOrder, eq_by_cmp_equiv, int_cmp_total, on_total, then_total}
use Rattle.std.specs.FinMap as finite
use Rattle.std.specs.FinMap.{IsAntisymmetric, int_cmp-IsAntisymmetric}
use Rattle.std.specs.List.{flat_map}
use Rattle.std.specs.Option.{option_or}
use Rattle.std.specs.Ordering.{eq_by_cmp, int_cmp, int_eq}
use Rattle.std.specs.Str.{bytes_eq}
use Rattle.std.proofs.lemmas.Map.Lookups.{exact_pairs}
use Rattle.std.proofs.lemmas.Map.Text.{is_eq-slice_cmp}
use Rattle.group_types.specs.declared.code.Code.{Code}
use Rattle.group_types.specs.declared.code.Code.TheVariants as codes
use Rattle.group_types.specs.Text.{Text, text_cmp}
use Rattle.group_types.specs.Topics.{Topics}
use Rattle.group_types.specs.Epoch.{is_at}
use Rattle.group_types.specs.Group.{Committed, Group, Offsets, Record, Records, place_cmp}
use Rattle.group_types.specs.Commit.{Commit, CommitReply, CommitStep, Commitment, TopicCommitments, code_of_taken, commit_reply, is_stored, is_there, is_too_long, named_commitments, offsets_after, refusal_of_commit, refusal_of_member, with_offset, with_offsets}
use Rattle.group_types.specs.Request.{Kind, Joins, Beats, Leaves, GoesAway, MeansNothing, Heartbeat, kind_of}
use Rattle.group_types.specs.Renewal.{RenewsWhere, changed_if, view_for}
use Rattle.group_types.specs.Settle.{settled_by}
use Rattle.group_types.specs.Join.{Name}
use Rattle.group_types.specs.Leave.{risen, without_member}
use Rattle.group_types.specs.Tick.{at_moment, due, expired, without_members}
use Rattle.group_types.specs.Checks.{Verdict, Accepted, Refused, Overtaken, Member, Sender, sender_of, verdict_on}
use Rattle.group_types.specs.HeartbeatStep.{Answer, Arrival, BeatsWith, ByVerdict, Draft, GoesAwayWith, HeartbeatStep, Stages, StepOf, TakesIn, draft_of_join, draft_under, verdict_on_change}
use Rattle.group_types.specs.Laws.{OfHeartbeat, OfTick, OfCommit}
use Rattle.group_types.specs.StoredOffsets.{CommitsLookAtTheImage, OffsetsAreTheLast, if_no_error, last_committed, last_of_topic, last_of_topics}
use Rattle.group_types.proofs.GrantLemmas.{both_equal}
use Rattle.group_types.proofs.Orders.{text_cmp_total, text_cmp-IsAntisymmetric}
use Rattle.group_types.proofs.Lookups.{not_none, some_is}

-- ---- places

pub place_cmp_total : IsTotalOrder place_cmp
place_cmp_total = then_total (on_total (λ p. p.0) text_cmp_total) (on_total (λ p. p.1) int_cmp_total)

pub place_cmp-IsAntisymmetric : IsAntisymmetric place_cmp
place_cmp-IsAntisymmetric p q tie = exact_pairs text_cmp int_cmp text_cmp-IsAntisymmetric int_cmp-IsAntisymmetric p q tie

-- two places are the same where the names and the indexes are
pub eq-place : (p q : Text × ℤ) → eq_by_cmp place_cmp p q ≡ (eq_by_cmp text_cmp p.0 q.0 && eq_by_cmp int_cmp p.1 q.1)
eq-place p q = both_equal (text_cmp p.0 q.0) (int_cmp p.1 q.1)

pub eq-name : (name other : Text) → eq_by_cmp text_cmp other name ≡ bytes_eq name other
eq-name name other = (eq_by_cmp_equiv text_cmp_total).symm other name ∙ is_eq-slice_cmp name other

-- ---- one commitment after the other

abbrev nothing_stored : Option Committed
nothing_stored = None

pub with_offsets-append : (image : Topics) (offsets : Offsets) (xs ys : List (Text × Commitment)) → with_offsets image offsets (xs ++ ys) ≡ with_offsets image (with_offsets image offsets xs) ys
with_offsets-append image offsets [] ys = refl
with_offsets-append image offsets (x ∷ xs) ys = with_offsets-append image (with_offset (is_stored image x.0 x.1) offsets x.0 x.1) xs ys

pub or_assoc : {A : Type 0} (a b c : Option A) → option_or a (option_or b c) ≡ option_or (option_or a b) c
or_assoc None b c = refl
or_assoc (Some x) b c = refl

module _ (image : Topics) (name : Text) (index : ℤ) where
  -- what a commitment stores for the place
  abbrev One : Text → Commitment → Option Committed
  One topic x = cond (bytes_eq topic name) (cond (int_eq x.index index) (if_no_error (code_of_taken image topic x) x.committed) None) None

  one_stored : (offsets : Offsets) (topic : Text) (x : Commitment)
      → finite.get (with_offset (is_stored image topic x) offsets topic x) (name, index) ≡ option_or (One topic x) (finite.get offsets (name, index))
  one_stored offsets topic x = by (is_there image topic x.index) refl (is_too_long x.committed.metadata) refl
    where
      none : (a b : Bool) → option_or (cond a (cond b nothing_stored None) None) (finite.get offsets (name, index)) ≡ finite.get offsets (name, index)
      none true true = refl
      none true false = refl
      none false b = refl

      code_is : (there long : Bool) → is_there image topic x.index ≡ there → is_too_long x.committed.metadata ≡ long
          → code_of_taken image topic x ≡ cond there (cond long codes.OffsetMetadataTooLarge codes.NoError) codes.UnknownTopicOrPartition
      code_is there long is_so long_so = λ i. cond (is_so i) (cond (long_so i) codes.OffsetMetadataTooLarge codes.NoError) codes.UnknownTopicOrPartition

      picks : (a b : Bool) → cond (a && b) (Some x.committed) (finite.get offsets (name, index)) ≡ option_or (cond a (cond b (Some x.committed) None) None) (finite.get offsets (name, index))
      picks true true = refl
      picks true false = refl
      picks false b = refl

      same_place : eq_by_cmp place_cmp (name, index) (topic, x.index) ≡ (bytes_eq topic name && int_eq x.index index)
      same_place = eq-place (name, index) (topic, x.index) ∙ (λ i. eq-name topic name i && eq-index i)
        where
          eq-index : eq_by_cmp int_cmp index x.index ≡ int_eq x.index index
          eq-index = (eq_by_cmp_equiv int_cmp_total).symm index x.index

      unstored : (there long : Bool) → is_there image topic x.index ≡ there → is_too_long x.committed.metadata ≡ long
          → is_stored image topic x ≡ false → if_no_error (cond there (cond long codes.OffsetMetadataTooLarge codes.NoError) codes.UnknownTopicOrPartition) x.committed ≡ None
          → finite.get (with_offset (is_stored image topic x) offsets topic x) (name, index) ≡ option_or (One topic x) (finite.get offsets (name, index))
      unstored there long is_so long_so not_stored nothing =
          ap (λ b. finite.get (with_offset b offsets topic x) (name, index)) not_stored
          ∙ sym (none (bytes_eq topic name) (int_eq x.index index))
          ∙ ap (λ o. option_or (cond (bytes_eq topic name) (cond (int_eq x.index index) o None) None) (finite.get offsets (name, index)))
          (sym (ap (λ c. if_no_error c x.committed) (code_is there long is_so long_so) ∙ nothing))

      by : (there : Bool) → is_there image topic x.index ≡ there → (long : Bool) → is_too_long x.committed.metadata ≡ long
          → finite.get (with_offset (is_stored image topic x) offsets topic x) (name, index) ≡ option_or (One topic x) (finite.get offsets (name, index))
      by true is_so false long_so =
          (λ i. finite.get (with_offset (is_so i && not (long_so i)) offsets topic x) (name, index))
          ∙ finite.get-insert place_cmp_total offsets (topic, x.index) x.committed (name, index)
          ∙ ap (λ b. cond b (Some x.committed) (finite.get offsets (name, index))) same_place
          ∙ picks (bytes_eq topic name) (int_eq x.index index)
          ∙ ap (λ o. option_or (cond (bytes_eq topic name) (cond (int_eq x.index index) o None) None) (finite.get offsets (name, index)))
          (sym (ap (λ c. if_no_error c x.committed) (code_is true false is_so long_so)))
      by true is_so true long_so = unstored true true is_so long_so (λ i. is_so i && not (long_so i)) refl
      by false is_so long long_so = unstored false long is_so long_so (ap (λ b. b && not (is_too_long x.committed.metadata)) is_so) refl

  -- of a topic
  abbrev Codes : Text → List Commitment → List (ℤ × Code)
  Codes topic xs = map (λ x. (x.index, code_of_taken image topic x)) xs

  apart : (b : Bool) (o p : Option Committed) → option_or (cond b o None) (cond b p None) ≡ cond b (option_or o p) None
  apart true o p = refl
  apart false o p = refl

  topic_stored : (topic : Text) (xs : List Commitment) (offsets : Offsets)
      → finite.get (with_offsets image offsets (map (λ x. (topic, x)) xs)) (name, index)
      ≡ option_or (cond (bytes_eq topic name) (last_of_topic index xs (Codes topic xs)) None) (finite.get offsets (name, index))
  topic_stored topic [] offsets = by (bytes_eq topic name)
    where
      by : (b : Bool) → finite.get offsets (name, index) ≡ option_or (cond b nothing_stored None) (finite.get offsets (name, index))
      by true = refl
      by false = refl
  topic_stored topic (x ∷ xs) offsets =
      topic_stored topic xs (with_offset (is_stored image topic x) offsets topic x)
      ∙ ap (option_or (cond (bytes_eq topic name) (last_of_topic index xs (Codes topic xs)) None)) (one_stored offsets topic x)
      ∙ or_assoc (cond (bytes_eq topic name) (last_of_topic index xs (Codes topic xs)) None) (One topic x) (finite.get offsets (name, index))
      ∙ ap (λ o. option_or o (finite.get offsets (name, index)))
      (apart (bytes_eq topic name) (last_of_topic index xs (Codes topic xs)) (cond (int_eq x.index index) (if_no_error (code_of_taken image topic x) x.committed) None))

  -- of all topics
  abbrev Answers : List TopicCommitments → CommitReply
  Answers ts = map (λ t. (t.name, Codes t.name t.partitions)) ts

  all_stored : (ts : List TopicCommitments) (offsets : Offsets)
      → finite.get (with_offsets image offsets (flat_map named_commitments ts)) (name, index)
      ≡ option_or (last_of_topics name index ts (Answers ts)) (finite.get offsets (name, index))
  all_stored [] offsets = refl
  all_stored (t ∷ ts) offsets =
      ap (λ os. finite.get os (name, index)) (with_offsets-append image offsets (named_commitments t) (flat_map named_commitments ts))
      ∙ all_stored ts (with_offsets image offsets (named_commitments t))
      ∙ ap (option_or (last_of_topics name index ts (Answers ts))) (topic_stored t.name t.partitions offsets)
      ∙ or_assoc (last_of_topics name index ts (Answers ts)) (cond (bytes_eq t.name name) (last_of_topic index t.partitions (Codes t.name t.partitions)) None) (finite.get offsets (name, index))

-- ---- a refusal stores nothing

module _ (name : Text) (index : ℤ) (code : Code) (fails : (committed : Committed) → if_no_error code committed ≡ None) where
  none_of_topic : (xs : List Commitment) → last_of_topic index xs (map (λ x. (x.index, code)) xs) ≡ None
  none_of_topic [] = refl
  none_of_topic (x ∷ xs) = (λ i. option_or (none_of_topic xs i) (cond (int_eq x.index index) (fails x.committed i) None)) ∙ by (int_eq x.index index)
    where
      by : (b : Bool) → cond b nothing_stored None ≡ nothing_stored
      by true = refl
      by false = refl

  none_of_topics : (ts : List TopicCommitments) → last_of_topics name index ts (map (λ t. (t.name, map (λ x. (x.index, code)) t.partitions)) ts) ≡ None
  none_of_topics [] = refl
  none_of_topics (t ∷ ts) = (λ i. option_or (none_of_topics ts i) (cond (bytes_eq t.name name) (none_of_topic t.partitions i) None)) ∙ by (bytes_eq t.name name)
    where
      by : (b : Bool) → cond b nothing_stored None ≡ nothing_stored
      by true = refl
      by false = refl

-- a commit is refused with one of two codes
refusal_fails : (records : Records) (m : Text) (epoch : ℤ) (code : Code) → refusal_of_commit records m epoch ≡ Some code → (committed : Committed) → if_no_error code committed ≡ None
refusal_fails records m epoch code is committed = by (int_lt epoch (pos 0) && finite.len records == 0) is
  where
    of_code : (other : Code) → Some other ≡ Some code → if_no_error other committed ≡ None → if_no_error code committed ≡ None
    of_code other same nothing = ap (λ c. if_no_error c committed) (sym (some_is other code same)) ∙ nothing

    at : (r : Record) (b : Bool) → cond b None (Some codes.StaleMemberEpoch) ≡ Some code → if_no_error code committed ≡ None
    at r true never = absurd (not_none code never)
    at r false same = of_code codes.StaleMemberEpoch same refl

    of_member : (own : Option Record) → refusal_of_member own epoch ≡ Some code → if_no_error code committed ≡ None
    of_member None same = of_code codes.UnknownMemberId same refl
    of_member (Some r) same = at r (is_at r.epoch epoch) same

    by : (b : Bool) → cond b None (refusal_of_member (finite.get records m) epoch) ≡ Some code → if_no_error code committed ≡ None
    by true never = absurd (not_none code never)
    by false same = of_member (finite.get records m) same

commit_stored : (g : Group) (c : Commit) (image : Topics) (reply : CommitReply) (new : Group) (name : Text) (index : ℤ) → CommitStep g c image reply new
    → finite.get new.offsets (name, index) ≡ option_or (last_of_topics name index c.topics reply) (finite.get g.offsets (name, index))
commit_stored g c image reply new name index step = by (refusal_of_commit g.records c.member c.epoch) refl
  where
    Wanted : CommitReply → Offsets → Type 0
    Wanted reply offsets = finite.get offsets (name, index) ≡ option_or (last_of_topics name index c.topics reply) (finite.get g.offsets (name, index))

    from : (o : Option Code) → refusal_of_commit g.records c.member c.epoch ≡ o → Wanted (commit_reply o c image) (offsets_after o g.offsets c image) → Wanted reply new.offsets
    from o is holds =
        subst (λ r. Wanted r new.offsets) (sym (step.answers ∙ ap (λ o. commit_reply o c image) is))
        (subst (Wanted (commit_reply o c image)) (sym (ap (λ (x : Group). x.offsets) step.stores ∙ ap (λ o. offsets_after o g.offsets c image) is)) holds)

    by : (o : Option Code) → refusal_of_commit g.records c.member c.epoch ≡ o → Wanted reply new.offsets
    by None taken = from None taken (all_stored image name index c.topics g.offsets)
    by (Some code) refused =
        from (Some code) refused
        (ap (λ o. option_or o (finite.get g.offsets (name, index)))
        (sym (none_of_topics name index code (refusal_fails g.records c.member c.epoch code refused) c.topics)))

pub commits_look_at_the_image : CommitsLookAtTheImage
commits_look_at_the_image g c image view reply new step =
    record { answers = step.answers; stores = ap (λ (x : Group). record x { view = view }) step.stores }

-- ---- a heartbeat commits nothing

settled_offsets : (may : Bool) (g : Group) (m : Text) (o : Option Record) (now : ℕ) → (settled_by may g m o now).offsets ≡ g.offsets
settled_offsets may g m None now = refl
settled_offsets may g m (Some r) now = refl

renewed_offsets : (b : Bool) (g new : Group) → RenewsWhere b g new → new.offsets ≡ g.offsets
renewed_offsets true g new is = ap (λ (x : Group). x.offsets) is
renewed_offsets false g new (target, is_target, is) = ap (λ (x : Group). x.offsets) is

changed_offsets : (b : Bool) (g : Group) (view : Topics) → (changed_if b g view).offsets ≡ g.offsets
changed_offsets true g view = refl
changed_offsets false g view = refl

staged_offsets : (changed : Group) (d : Draft) (q : Heartbeat) (answer : Answer) (new : Group) → Stages changed d q answer new → new.offsets ≡ changed.offsets
staged_offsets changed d q answer new stages =
    let renewed : Group = stages.renewed in
    ap (λ (x : Group). x.offsets) stages.leaves ∙ ap (λ (x : Group). x.offsets) stages.settles
    ∙ settled_offsets _ renewed d.id (finite.get renewed.records d.id) renewed.clock
    ∙ renewed_offsets (changed.epoch == changed.target_epoch) changed renewed stages.renews

by_verdict : (v : Verdict) (Accepts : Answer → Group → Type 0) (g : Group) (answer : Answer) (new : Group)
    → (Accepts answer new → new.offsets ≡ g.offsets) → ByVerdict v Accepts g answer new → new.offsets ≡ g.offsets
by_verdict Accepted Accepts g answer new accepted is = accepted is
by_verdict (Refused code) Accepts g answer new accepted is = ap (λ (x : Group). x.offsets) is.1
by_verdict Overtaken Accepts g answer new accepted is = ap (λ (x : Group). x.offsets) is.1

taken_in_offsets : (g : Group) (d : Draft) (q : Heartbeat) (image : Topics) (answer : Answer) (new : Group) → d.group.offsets ≡ g.offsets
    → TakesIn g d q image answer new → new.offsets ≡ g.offsets
taken_in_offsets g d q image answer new same takes =
    let view = view_for image d.group.records in
    by_verdict (verdict_on_change takes.change g.epoch) (Stages (changed_if takes.change d.group view) d q) g answer new
    (λ stages. staged_offsets (changed_if takes.change d.group view) d q answer new stages ∙ changed_offsets takes.change d.group view ∙ same) takes.step

drafted_offsets : (g : Group) (now : ℕ) (m : Text) (own : Option Record) (other : Option Member) (q : Heartbeat) (stamp : _)
    → (draft_of_join g now m own other q stamp).group.offsets ≡ g.offsets
drafted_offsets g now m (Some r) other q stamp = refl
drafted_offsets g now m None None q stamp = refl
drafted_offsets g now m None (Some old) q stamp = refl

module _ (g : Group) (a : Arrival) (answer : Answer) (new : Group) (sender : Sender) where
  beat_offsets : (own : Option Record) → BeatsWith own g a answer new → new.offsets ≡ g.offsets
  beat_offsets None is = absurd is
  beat_offsets (Some r) is = taken_in_offsets g _ a.heartbeat a.image answer new refl is

  gone_offsets : (own : Option Record) → GoesAwayWith own g a answer new → new.offsets ≡ g.offsets
  gone_offsets None is = absurd is
  gone_offsets (Some r) is = ap (λ (x : Group). x.offsets) is.1

  step_offsets : (kind : Kind) → StepOf kind sender g a answer new → new.offsets ≡ g.offsets
  step_offsets Joins joins = by joins.name joins.joins
    where
      by : (o : Option Name) → MatchOption o (Rattle.group_types.specs.HeartbeatStep.IsRefused codes.CoordinatorNotAvailable g answer new)
          (λ n. TakesIn g (draft_under n sender g a) a.heartbeat a.image answer new) → new.offsets ≡ g.offsets
      by None is = ap (λ (x : Group). x.offsets) is.1
      by (Some name) is =
          taken_in_offsets g (draft_under name sender g a) a.heartbeat a.image answer new
          (drafted_offsets (record g { serial = name.next_serial }) (max g.clock a.moment) name.id sender.own sender.other a.heartbeat a.stamp) is
  step_offsets (Beats n) is = beat_offsets sender.own is
  step_offsets Leaves is = ap (λ (x : Group). x.offsets) is.1
  step_offsets GoesAway is = gone_offsets sender.own is
  step_offsets MeansNothing is = absurd is

heartbeat_offsets : (g : Group) (a : Arrival) (answer : Answer) (new : Group) → HeartbeatStep g a answer new → new.offsets ≡ g.offsets
heartbeat_offsets g a answer new step =
    let sender = sender_of g.records a.heartbeat in
    by_verdict (verdict_on (kind_of a.heartbeat.epoch) sender g a.heartbeat a.stamp) (StepOf (kind_of a.heartbeat.epoch) sender g a) g answer new
    (step_offsets g a answer new sender (kind_of a.heartbeat.epoch)) step

-- ---- nor does a tick, and the clock goes on

left_offsets : (ms : List (Text × Record)) (g : Group) → (without_members g ms).offsets ≡ g.offsets
left_offsets [] g = refl
left_offsets (m ∷ ms) g = left_offsets ms (without_member g m.0 m.1.stamp)

expired_offsets : (ms : List (Text × Record)) (g : Group) → (expired g ms).offsets ≡ g.offsets
expired_offsets [] g = refl
expired_offsets (m ∷ ms) g = left_offsets (m ∷ ms) (record g { epoch = risen g.epoch })

left_clock : (ms : List (Text × Record)) (g : Group) → (without_members g ms).clock ≡ g.clock
left_clock [] g = refl
left_clock (m ∷ ms) g = left_clock ms (without_member g m.0 m.1.stamp)

pub expired_clock : (ms : List (Text × Record)) (g : Group) → (expired g ms).clock ≡ g.clock
expired_clock [] g = refl
expired_clock (m ∷ ms) g = left_clock (m ∷ ms) (record g { epoch = risen g.epoch })

-- ---- over all events

pub offsets_are_the_last : OffsetsAreTheLast
offsets_are_the_last [] g new name index is = ap (λ (x : Group). finite.get x.offsets (name, index)) is
offsets_are_the_last (OfHeartbeat a answer ∷ events) g new name index (next, step, rest) =
    offsets_are_the_last events next new name index rest
    ∙ ap (λ os. option_or (last_committed name index events) (finite.get os (name, index))) (heartbeat_offsets g a answer next step.1)
offsets_are_the_last (OfTick moment ∷ events) g new name index (next, step, rest) =
    offsets_are_the_last events next new name index rest
    ∙ ap (λ os. option_or (last_committed name index events) (finite.get os (name, index)))
    (ap (λ (x : Group). x.offsets) step ∙ expired_offsets (due (at_moment g moment)) (at_moment g moment))
offsets_are_the_last (OfCommit c image reply ∷ events) g new name index (next, step, rest) =
    offsets_are_the_last events next new name index rest
    ∙ ap (option_or (last_committed name index events)) (commit_stored g c image reply next name index step)
    ∙ or_assoc (last_committed name index events) (last_of_topics name index c.topics reply) (finite.get g.offsets (name, index))
