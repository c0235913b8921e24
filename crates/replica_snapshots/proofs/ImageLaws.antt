-- The topics of a sound image, as they are spelled, make the image again.
use Rattle.std.proofs.Common.{◌≡◌, ◌≢◌, ℕ, suc, pos, ◌+◌, ◌≤◌, Bool, true, false, ◌||◌, List, [], ◌∷◌, ◌++◌, map, length, None, Some, refl, sym, ap, subst, ◌∙◌, bytes_eq, sum_by, nat_lt, arith}
use Rattle.std.specs.List.{AllByRecursion}
use Rattle.std.specs.Option.{option_or}
use Rattle.std.specs.Set.{is_member}
use Rattle.std.specs.FinMap as finite
use Rattle.std.specs.FinMap.Entries.{below_all, is_sorted}
use Rattle.std.proofs.lemmas.Bool.{le-ltb}
use Rattle.std.proofs.lemmas.Bool.Decides.{nat_tests}
use Rattle.std.proofs.lemmas.List.{map-append}
use Rattle.std.proofs.lemmas.List.Sums.{sum_by-cons}
use Rattle.std.proofs.lemmas.Slice.Eq.{bytes_eq-Decides}
use lib.Dec.{T}
use Rattle.group_types.specs.Limits.{MOST_TOPICS, MOST_PARTITIONS, MOST_TOPIC_PARTITIONS}
use Rattle.group_types.specs.Images.{AreImageTopics}
use Rattle.group_types.specs.Text.{Text, text_cmp}
use Rattle.group_types.specs.Topics.{Topic, Topics}
use Rattle.group_types.proofs.Entries.{first_part, second_part, below_differs, entries_found}
use Rattle.group_types.proofs.Orders.{text_cmp_total, text_cmp-IsAntisymmetric}
use Rattle.topic_meta.specs.Images.{Entry, partitions, topic_of, topics_of, is_count, fault_of, first_fault_after, first_fault, is_too_many, partitions_in}

-- a topic of an image, as it comes in
abbrev pub entry_for : Text × Topic → Entry
entry_for t = record { name = t.0; id = t.1.id; count = pos t.1.count }

untrue : (b : Bool) → (b ≡ true → ⊥) → b ≡ false
untrue true never = absurd (never refl)
untrue false never = refl

either_false : (a b : Bool) → (a || b) ≡ false → (a ≡ false) × (b ≡ false)
either_false true b none = absurd cc
either_false false b none = (refl, none)

-- what is none of them, and another than one more, is none of those with it
none_of_more : (ids : List (List ℕ)) (x q : List ℕ) → bytes_eq q x ≡ false → is_member bytes_eq ids q ≡ false → is_member bytes_eq (ids ++ x ∷ []) q ≡ false
none_of_more [] x q other none = rw other refl
none_of_more (y ∷ ids) x q other none =
    let parts = either_false (bytes_eq q y) (is_member bytes_eq ids q) none in rw (parts.0, none_of_more ids x q other parts.1) refl

neither : (a b : Bool) → a ≡ false → b ≡ false → (a || b) ≡ false
neither a b p q = rw (p, q) refl

bytes_differ : (x y : List ℕ) → x ≢ y → bytes_eq x y ≡ false
bytes_differ x y other = untrue (bytes_eq x y) (λ so. other ((bytes_eq-Decides x y).0 so))

counted : (n : ℕ) → 1 ≤ n → n ≤ MOST_TOPIC_PARTITIONS → is_count n ≡ true
counted n some few = grind (arith, nat_tests)

-- those that aren't there yet are none of those with one more, from which they differ
still_new : {E : Type 0} (key : E → List ℕ) (earlier : List (List ℕ)) (x : List ℕ) (left : List E) → AllByRecursion (λ e. key e ≢ x) left
    → AllByRecursion (λ e. is_member bytes_eq earlier (key e) ≡ false) left → AllByRecursion (λ e. is_member bytes_eq (earlier ++ x ∷ []) (key e) ≡ false) left
still_new key earlier x [] other new = tt
still_new key earlier x (e ∷ left) other new =
    (none_of_more earlier x (key e) (bytes_differ (key e) x other.0) new.0, still_new key earlier x left other.1 new.1)

other_names : (x : Text) (left : List (Text × Topic)) → T (below_all text_cmp x left) → AllByRecursion (λ (e : Text × Topic). e.0 ≢ x) left
other_names x [] below = tt
other_names x (e ∷ left) below = (below_differs x e.0 (first_part _ _ below), other_names x left (second_part _ _ below))

module _ (image : Topics) (sound : AreImageTopics image) where
  abbrev IsThere : Text × Topic → Type 0
  IsThere e = finite.get image e.0 ≡ Some e.1

  other_ids : (x : Text × Topic) (left : List (Text × Topic)) → IsThere x → AllByRecursion IsThere left → AllByRecursion (λ (e : Text × Topic). e.0 ≢ x.0) left → AllByRecursion (λ (e : Text × Topic). e.1.id ≢ x.1.id) left
  other_ids x [] here there other = tt
  other_ids x (e ∷ left) here there other =
      (λ same. other.0 (sound.ids_apart e.0 x.0 e.1 x.1 there.0 here same), other_ids x left here there.1 other.1)

  no_fault : (earlier : List Entry) (left : List (Text × Topic)) → T (is_sorted text_cmp left) → AllByRecursion IsThere left
      → AllByRecursion (λ (e : Text × Topic). is_member bytes_eq (map (λ d. d.name) earlier) e.0 ≡ false) left
      → AllByRecursion (λ (e : Text × Topic). is_member bytes_eq (map (λ d. d.id) earlier) e.1.id ≡ false) left
      → first_fault_after earlier (map entry_for left) ≡ None
  no_fault earlier [] sorted there names ids = refl
  no_fault earlier (e ∷ left) sorted there names ids =
      let range = sound.counts e.0 e.1 there.0 in
      let count : is_count e.1.count ≡ true = counted e.1.count range.0 range.1 in
      let one : fault_of earlier (entry_for e) ≡ None = rw (count, names.0, ids.0) refl in
      let other = other_names e.0 left (first_part _ _ sorted) in
      let more_names = still_new (λ (d : Text × Topic). d.0) (map (λ d. d.name) earlier) e.0 left other names.1 in
      let more_ids = still_new (λ (d : Text × Topic). d.1.id) (map (λ d. d.id) earlier) e.1.id left (other_ids e left there.0 there.1 other) ids.1 in
      ap (λ f. option_or f (first_fault_after (earlier ++ entry_for e ∷ []) (map entry_for left))) one
      ∙ no_fault (earlier ++ entry_for e ∷ []) left (second_part _ _ sorted) there.1
      (subst (λ (l : List Text). AllByRecursion (λ (d : Text × Topic). is_member bytes_eq l d.0 ≡ false) left) (sym (map-append (λ (d : Entry). d.name) earlier (entry_for e ∷ []))) more_names)
      (subst (λ (l : List (List ℕ)). AllByRecursion (λ (d : Text × Topic). is_member bytes_eq l d.1.id ≡ false) left) (sym (map-append (λ (d : Entry). d.id) earlier (entry_for e ∷ []))) more_ids)

none_yet : {E : Type 0} (key : E → List ℕ) (left : List E) → AllByRecursion (λ e. is_member bytes_eq [] (key e) ≡ false) left
none_yet key [] = tt
none_yet key (e ∷ left) = (refl, none_yet key left)

same_length : (es : List (Text × Topic)) → length (map entry_for es) ≡ length es
same_length [] = refl
same_length (e ∷ es) = ap suc (same_length es)

same_partitions : (es : List (Text × Topic)) → partitions_in (map entry_for es) ≡ sum_by (λ (e : Text × Topic). e.1.count) es
same_partitions [] = refl
same_partitions (e ∷ es) =
    sum_by-cons (λ (d : Entry). partitions d.count) (entry_for e) (map entry_for es)
    ∙ ap (λ (n : ℕ). e.1.count + n) (same_partitions es)
    ∙ sym (sum_by-cons (λ (d : Text × Topic). d.1.count) e es)

few_enough : (image : Topics) → AreImageTopics image → is_too_many (map entry_for (finite.entries image)) ≡ false
few_enough image sound =
    let es = finite.entries image in
    let topics : length (map entry_for es) ≤ MOST_TOPICS = omega (arith, same_length es, finite.len-entries image, sound.few) in
    let parts : partitions_in (map entry_for es) ≤ MOST_PARTITIONS = omega (arith, same_partitions es, sound.few_partitions) in
    neither (nat_lt MOST_TOPICS (length (map entry_for es))) (nat_lt MOST_PARTITIONS (partitions_in (map entry_for es))) (le-ltb _ _ topics) (le-ltb _ _ parts)

pub image_without_fault : (image : Topics) → AreImageTopics image → first_fault (map entry_for (finite.entries image)) ≡ None
image_without_fault image sound =
    let es = finite.entries image in
    rw (few_enough image sound) (no_fault image sound [] es (finite.entries_sorted image) (entries_found image) (none_yet (λ (d : Text × Topic). d.0) es) (none_yet (λ (d : Text × Topic). d.1.id) es))

topics_again : (es : List (Text × Topic)) → map (λ (e : Entry). (e.name, topic_of e)) (map entry_for es) ≡ es
topics_again [] = refl
topics_again (e ∷ es) = ap (λ (l : List (Text × Topic)). e ∷ l) (topics_again es)

pub image_of_topics : (image : Topics) → topics_of (map entry_for (finite.entries image)) ≡ image
image_of_topics image =
    ap finite.from_entries (topics_again (finite.entries image))
    ∙ finite.same_map text_cmp_total text_cmp-IsAntisymmetric _ image (λ q. finite.get-from_entries text_cmp_total (finite.entries image) q ∙ sym (finite.get-entries image q))
