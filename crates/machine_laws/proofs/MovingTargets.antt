-- Two renewals that move a partition.
use Rattle.std.proofs.Common.{◌≡◌, ◌≢◌, ◌<◌, ℕ, zero, suc, Bool, true, false, cond, List, [], ◌∷◌, map, length, Option, Some, None, refl, sym, ap, subst, ◌∙◌, arith, bytes_eq, codes, slice_get, true≢false, IsPermutation, IsSorted}
use Rattle.std.specs.Ordering.{eq_by_cmp}
use Rattle.std.specs.FinMap as finite
use Rattle.std.specs.FinMap.{find, put}
use Rattle.std.proofs.lemmas.List.Sorted.{IsPermutation-refl}
use Rattle.group_types.specs.declared.assignor_name.AssignorName.{AssignorName}
use Rattle.group_types.specs.declared.assignor_name.AssignorName.TheVariants.{Range, Uniform}
use Rattle.group_types.specs.declared.partition.Partition.{Partition}
use Rattle.group_types.specs.Text.{Text, text_cmp}
use Rattle.group_types.specs.Sets.{nothing, with_one}
use Rattle.group_types.specs.Partition.{partition_cmp}
use Rattle.group_types.specs.Topics.{Topic}
use Rattle.group_types.specs.Assignors.{Subscriber, member_cmp, subscribers_of}
use Rattle.group_types.specs.Owners.{IsRange, IsRangeOwner, range_place}
use Rattle.group_types.specs.Group.{Record, Group, starting_group}
use Rattle.group_types.specs.Join.{blank_record}
use Rattle.group_types.specs.Renewal.{AreMembers, subscriber_of}
use Rattle.group_types.proofs.Lookups.{get-inserted, not_none, same_text, some_is}
use Rattle.group_types.proofs.Orders.{text_cmp_total}
use Rattle.group_types.proofs.SetLemmas.{has-with_one}
use Rattle.machine_laws.specs.Examples.{TargetMoves}
use Rattle.machine_laws.specs.Uniform.{lettered, members, one_topic, partition}
use Rattle.machine_laws.proofs.UniformSteps.{Owned, each_owner, no_entries, owner_of, spread, topic}
use Rattle.machine_laws.proofs.UniformByHand.{aaaa, baaa, to_the_first}

-- ---- a member for each letter

-- that subscribes the topic, and asks for an assignor
abbrev asking : Option AssignorName → Record
asking assignor = record blank_record { names = with_one nothing (codes "t"); assignor = assignor }

abbrev kept : Option AssignorName → Text → List (Text × Record)
kept assignor [] = []
kept assignor (letter ∷ letters) = (letter ∷ [], asking assignor) ∷ kept assignor letters

abbrev in_order : List (Text × Record) → List (Text × Record)
in_order [] = []
in_order (e ∷ es) = put text_cmp e.0 e.1 (in_order es)

records_of : (es : List (Text × Record)) → finite.entries (finite.from_entries {R = text_cmp} es) ≡ in_order es
records_of [] = no_entries text_cmp
records_of (e ∷ es) = finite.entries-insert text_cmp_total (finite.from_entries es) e.0 e.1 ∙ ap (put text_cmp e.0 e.1) (records_of es)

-- whose entries are these
are_members : (es : List (Text × Record)) (subs : List Subscriber) → map subscriber_of (in_order es) ≡ subs → IsSorted member_cmp subs → AreMembers (finite.from_entries es) subs
are_members es subs same sorted =
    record { same = subst (λ (xs : List Subscriber). IsPermutation xs subs) (sym (ap (map subscriber_of) (records_of es) ∙ same)) (IsPermutation-refl subs); sorted = sorted }

-- whose target has an epoch below the group's
abbrev group_of : Option AssignorName → Text → ℕ → Owned → Group
group_of assignor letters count es =
    record (starting_group 0 2) {
      target_epoch = 1;
      records = finite.from_entries (kept assignor letters);
      view = one_topic count;
      target = spread es;
    }

b_is_not_a : codes "b" ≢ codes "a"
b_is_not_a same = true≢false (ap (λ (t : Text). bytes_eq (codes "b") t) same)

-- ---- uniform

three_sorted : IsSorted member_cmp (members (codes "abc"))
three_sorted zero d low within = refl
three_sorted (suc zero) d low within = refl
three_sorted (suc (suc k)) d low within = absurd (omega (arith, within))

pub moves_under_uniform : TargetMoves Uniform
moves_under_uniform =
    let moved : Owned = (partition 1, codes "c") ∷ baaa in
    let all : AreMembers (finite.from_entries (kept None (codes "abc"))) (members (codes "abc")) = are_members (kept None (codes "abc")) (members (codes "abc")) refl three_sorted in
    record {
      group = group_of None (codes "abc") 4 aaaa;
      subs = members (codes "abc");
      members = all;
      asked = refl;
      new = record (group_of None (codes "abc") 4 aaaa) { target = spread moved; target_epoch = 2 };
      renews = (spread moved, (members (codes "abc"), all, to_the_first), refl);
      partition = partition 0;
      before = codes "a";
      was = owner_of aaaa (partition 0) (Some (codes "a")) refl;
      after = codes "b";
      is = owner_of moved (partition 0) (Some (codes "b")) refl;
      moved = λ same. b_is_not_a (sym same);
    }

-- ---- range

abbrev ranged : ℕ → Subscriber
ranged letter = record (lettered letter) { assignor = Some Range }

abbrev Two : List Subscriber
Two = map ranged (codes "ab")

abbrev A : ℕ
A = 97

abbrev B : ℕ
B = 98

two_sorted : IsSorted member_cmp Two
two_sorted zero d low within = refl
two_sorted (suc k) d low within = absurd (omega (arith, within))

two_subscribe : subscribers_of Two (codes "t") ≡ Two
two_subscribe =
    ap (λ b. cond b (ranged A ∷ cond b (ranged B ∷ []) []) (cond b (ranged B ∷ []) [])) (has-with_one text_cmp_total nothing (codes "t") (codes "t"))

abbrev ab : Owned
ab = (partition 0, codes "a") ∷ (partition 1, codes "b") ∷ []

-- the member at a place owns the partition of that place
owns_at : (place letter : ℕ) → place < 2 → range_place 2 2 place ≡ place → slice_get Two place ≡ Some (ranged letter) → IsRangeOwner (one_topic 2) Two (partition place) (letter ∷ [])
owns_at place letter below same there =
    record {
      name = codes "t";
      topic = topic 2;
      of_view = get-inserted finite.empty (codes "t") (topic 2);
      same_id = refl;
      index = place;
      is_index = refl;
      below = below;
      owner = ranged letter;
      place = subst (λ (ms : List Subscriber). slice_get ms (range_place 2 (length ms) place) ≡ Some (ranged letter)) (sym two_subscribe) (ap (slice_get Two) same ∙ there);
      same_owner = refl;
    }

module _ (p : Partition) (id : Text) (it : IsRangeOwner (one_topic 2) Two p id) where
  the_topic : (it.name ≡ codes "t") × (it.topic ≡ topic 2)
  the_topic = by (eq_by_cmp text_cmp it.name (codes "t")) refl (sym (finite.get-insert text_cmp_total finite.empty (codes "t") (topic 2) it.name) ∙ it.of_view)
    where
      by : (b : Bool) → eq_by_cmp text_cmp it.name (codes "t") ≡ b → cond b (Some (topic 2)) (finite.get (finite.empty {X = Topic} {R = text_cmp}) it.name) ≡ Some it.topic → (it.name ≡ codes "t") × (it.topic ≡ topic 2)
      by true same is = (same_text it.name (codes "t") same, sym (some_is (topic 2) it.topic is))
      by false apart is = absurd (not_none it.topic (sym (finite.get-empty text_cmp it.name) ∙ is))

  is_partition : p ≡ partition it.index
  is_partition = λ i. record { topic = (it.same_id ∙ ap (λ (t : Topic). t.id) the_topic.1) i; index = it.is_index i }

  place_of : slice_get Two (range_place 2 2 it.index) ≡ Some it.owner
  place_of =
      subst (λ (ms : List Subscriber). slice_get ms (range_place 2 (length ms) it.index) ≡ Some it.owner) two_subscribe
      (subst (λ (n : Text). slice_get (subscribers_of Two n) (range_place 2 (length (subscribers_of Two n)) it.index) ≡ Some it.owner) the_topic.0
      (subst (λ (t : Topic). slice_get (subscribers_of Two it.name) (range_place t.count (length (subscribers_of Two it.name)) it.index) ≡ Some it.owner) the_topic.1 it.place))

  below : it.index < 2
  below = subst (λ (t : Topic). it.index < t.count) the_topic.1 it.below

  at : (index : ℕ) → index < 2 → slice_get Two (range_place 2 2 index) ≡ Some it.owner → finite.get (spread ab) (partition index) ≡ Some id
  at zero below is = owner_of ab (partition 0) (Some (codes "a")) refl ∙ ap Some (ap (λ (m : Subscriber). m.id) (some_is (ranged A) it.owner is) ∙ it.same_owner)
  at (suc zero) below is = owner_of ab (partition 1) (Some (codes "b")) refl ∙ ap Some (ap (λ (m : Subscriber). m.id) (some_is (ranged B) it.owner is) ∙ it.same_owner)
  at (suc (suc n)) below is = absurd (omega (arith, below))

  owned : finite.get (spread ab) p ≡ Some id
  owned = ap (finite.get (spread ab)) is_partition ∙ at it.index below place_of

ranges : IsRange (one_topic 2) Two (spread ab)
ranges p id = (
  λ is. each_owner (IsRangeOwner (one_topic 2) Two) ab (owns_at 0 A (omega arith) refl refl, (owns_at 1 B (omega arith) refl refl, tt)) p id
      (sym (owner_of ab p (find partition_cmp p ab) refl) ∙ is),
  λ it. owned p id it,
)

pub moves_under_range : TargetMoves Range
moves_under_range =
    let aa : Owned = (partition 0, codes "a") ∷ (partition 1, codes "a") ∷ [] in
    let all : AreMembers (finite.from_entries (kept (Some Range) (codes "ab"))) Two = are_members (kept (Some Range) (codes "ab")) Two refl two_sorted in
    record {
      group = group_of (Some Range) (codes "ab") 2 aa;
      subs = Two;
      members = all;
      asked = refl;
      new = record (group_of (Some Range) (codes "ab") 2 aa) { target = spread ab; target_epoch = 2 };
      renews = (spread ab, (Two, all, ranges), refl);
      partition = partition 1;
      before = codes "a";
      was = owner_of aa (partition 1) (Some (codes "a")) refl;
      after = codes "b";
      is = owner_of ab (partition 1) (Some (codes "b")) refl;
      moved = λ same. b_is_not_a (sym same);
    }
