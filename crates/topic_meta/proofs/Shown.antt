-- The topics of a tree and of a slice are as many as the entries, and in their order.
use Rattle.std.proofs.Common.{◌≡◌, ℕ, Bool, true, false, ◌&&◌, List, [], ◌∷◌, map, length, refl, sym, ap, subst, ◌∙◌, string_bytes, String, IsTrue, ◌==◌}
use Rattle.std.specs.declared.alloc.Global.{Global}
use Rattle.std.specs.declared.cmp.Ordering.TheVariants.{Less}
use Rattle.std.specs.Ordering.{is_lt}
use Rattle.std.specs.List.Sorted.{IsStrictlySortedBy}
use Rattle.std.specs.Bool.{Decides}
use Rattle.std.specs.String.{string_cmp}
use Rattle.std.specs.FinMap as finite
use Rattle.std.specs.FinMap.{entries, is_sorted}
use Rattle.std.specs.FinMap.Entries.{below_all}
use Rattle.std.specs.List.{AllByRecursion, AllZip}
use Rattle.std.specs.Map.{keys_of}
use Rattle.std.proofs.Math.ListN.{length-map}
use Rattle.std.proofs.lemmas.Bool.Decides.{Decides-eqb}
use Rattle.std.proofs.lemmas.Map.Keys.{sorted_head, sorted_tail}
use Rattle.std.proofs.lemmas.Float.{T_from_true}
use Rattle.group_types.specs.Text.{Text, text_cmp}
use Rattle.group_types.specs.Topics.{Topic, Topics}
use Rattle.group_types.specs.Images.{AreImageTopics}
use Rattle.group_types.proofs.Images.{empty-AreImageTopics}
use Rattle.group_types.proofs.Orders.{text_cmp_total, text_cmp-IsAntisymmetric}
use Rattle.topic_meta.specs.Stored.{shown_topic, topics_in}
use Rattle.topic_meta.specs.Views.{shown, IsView}
use Rattle.topic_meta.specs.declared.topic.StoredTopic.{StoredTopic}

-- ---- no topics

pub shown-nil : shown [] ≡ finite.empty
shown-nil = finite.same_map text_cmp_total text_cmp-IsAntisymmetric _ _ (λ q. finite.get-from_sorted text_cmp [] q tt ∙ sym (finite.get-empty text_cmp q))

-- ---- in order

pub entries-shown : (es : List (Text × Topic)) → IsTrue (is_sorted text_cmp es) → entries (shown es) ≡ es
entries-shown es rising = finite.entries-from_sorted text_cmp es (T_from_true _ rising)

pub len-shown : (es : List (Text × Topic)) → IsTrue (is_sorted text_cmp es) → finite.len (shown es) ≡ length es
len-shown es rising = finite.len-entries (shown es) ∙ ap length (entries-shown es rising)

abbrev pairs_in : List (String Global × StoredTopic) → List (Text × Topic)
pairs_in es = map (λ e. (string_bytes e.0, shown_topic e.1)) es

both : (a b : Bool) → IsTrue a → IsTrue b → IsTrue (a && b)
both true b p q = q
both false b p q = p

below : (k : String Global) (es : List (String Global × StoredTopic)) → AllByRecursion (λ y. string_cmp k y ≡ Less) (keys_of es) → IsTrue (below_all text_cmp (string_bytes k) (pairs_in es))
below k [] h = refl
below k (e ∷ es) h = both _ _ (ap is_lt h.0) (below k es h.1)

rising_of_ordered : (es : List (String Global × StoredTopic)) → IsStrictlySortedBy string_cmp (keys_of es) → IsTrue (is_sorted text_cmp (pairs_in es))
rising_of_ordered [] ordered = refl
rising_of_ordered (e ∷ es) ordered =
    both _ _ (below e.0 es (sorted_head string_cmp e.0 (keys_of es) ordered)) (rising_of_ordered es (sorted_tail string_cmp e.0 (keys_of es) ordered))

topics_in-shown : (es : List (String Global × StoredTopic)) → IsStrictlySortedBy string_cmp (keys_of es) → topics_in es ≡ shown (pairs_in es)
topics_in-shown es ordered =
    finite.same_map text_cmp_total text_cmp-IsAntisymmetric _ _
    (λ q. finite.get-from_entries text_cmp_total (pairs_in es) q ∙ sym (finite.get-from_sorted text_cmp (pairs_in es) q (T_from_true _ (rising_of_ordered es ordered))))

-- the topics of a tree stand in its order
pub entries-topics_in : (es : List (String Global × StoredTopic)) → IsStrictlySortedBy string_cmp (keys_of es)
    → entries (topics_in es) ≡ map (λ e. (string_bytes e.0, shown_topic e.1)) es
entries-topics_in es ordered =
    ap entries (topics_in-shown es ordered) ∙ entries-shown (pairs_in es) (rising_of_ordered es ordered)

pub keys-pairs_in : (es : List (String Global × StoredTopic)) → map (λ (e : Text × Topic). e.0) (pairs_in es) ≡ map string_bytes (keys_of es)
keys-pairs_in [] = refl
keys-pairs_in (e ∷ es) = ap (λ ks. string_bytes e.0 ∷ ks) (keys-pairs_in es)

-- a map with no entry is the empty one
pub is_empty-says : (topics : Topics) (n : ℕ) → n ≡ finite.len topics → Decides (n == 0) (topics ≡ finite.empty)
is_empty-says topics n is =
    let test = Decides-eqb n 0 in (
      λ so. finite.empty_of_len topics (sym is ∙ test.0 so),
      λ none. test.1 (is ∙ ap finite.len none ∙ finite.len-empty text_cmp Topic),
    )

pub len-topics_in : (es : List (String Global × StoredTopic)) → IsStrictlySortedBy string_cmp (keys_of es) → finite.len (topics_in es) ≡ length es
len-topics_in es ordered =
    ap finite.len (topics_in-shown es ordered) ∙ len-shown (pairs_in es) (rising_of_ordered es ordered) ∙ length-map es (λ e. (string_bytes e.0, shown_topic e.1))

pub empty-IsView : IsView []
empty-IsView = record { rising = refl; sound = subst AreImageTopics (sym shown-nil) empty-AreImageTopics }

-- two lists in order show the same topics exactly if they are equal
pub shown-same : (es fs : List (Text × Topic)) → IsView es → IsView fs → shown es ≡ shown fs → es ≡ fs
shown-same es fs is_e is_f same = sym (entries-shown es is_e.rising) ∙ ap entries same ∙ entries-shown fs is_f.rising

-- ---- a copy of a tree

module _ (C : String Global → String Global → Type 0) (D : StoredTopic → StoredTopic → Type 0)
    (same_text : (x y : String Global) → C x y → string_bytes y ≡ string_bytes x) (same_topic : (v w : StoredTopic) → D v w → w ≡ v) where
  same_pairs : (es fs : List (String Global × StoredTopic)) → AllZip (λ p q. C p.0 q.0 × D p.1 q.1) es fs → pairs_in fs ≡ pairs_in es
  same_pairs [] [] alike = refl
  same_pairs [] (f ∷ fs) alike = absurd alike
  same_pairs (e ∷ es) [] alike = absurd alike
  same_pairs (e ∷ es) (f ∷ fs) alike =
      let rest = same_pairs es fs alike.1 in
      λ i. (same_text e.0 f.0 alike.0.0 i, shown_topic (same_topic e.1 f.1 alike.0.1 i)) ∷ rest i

  pub topics_in-clone : (es fs : List (String Global × StoredTopic)) → AllZip (λ p q. C p.0 q.0 × D p.1 q.1) es fs → topics_in fs ≡ topics_in es
  topics_in-clone es fs alike = ap finite.from_entries (same_pairs es fs alike)
