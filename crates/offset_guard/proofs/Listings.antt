-- All that is committed, topic by topic in the order of the names.
use Rattle.std.proofs.Common.{◌≡◌, ℤ, false, cond, T, List, [], ◌∷◌, map, Option, Some, None, refl, sym, ap, subst, ◌∙◌, String, Global}
use Rattle.std.specs.FinMap as finite
use Rattle.std.specs.FinMap.{is_sorted}
use Rattle.std.specs.FinMap.Entries.{same_entries}
use Rattle.std.specs.List.{AllByRecursion, IsDistinct, flat_map}
use Rattle.std.specs.Map.{keys_of, lookup}
use Rattle.std.specs.Ordering.{eq_by_cmp, int_cmp, int_eq}
use Rattle.std.specs.Str.{bytes_eq}
use Rattle.std.specs.String.{string_bytes, string_eq}
use Rattle.std.proofs.lemmas.Map.Text.{is_eq-slice_cmp}
use Rattle.group_types.specs.Text.{Text, text_cmp}
use Rattle.group_types.specs.Group.{Committed, place_cmp}
use Rattle.group_types.proofs.OffsetLemmas.{place_cmp_total, place_cmp-IsAntisymmetric, eq-place}
use Rattle.group_types.proofs.Orders.{text_cmp_total, text_cmp-IsAntisymmetric}
use Rattle.offset_guard.specs.Topics.{TopicState, offset_in, offsets_in}
use Rattle.offset_guard.specs.Listing.{entries_of_topic, topics_by_name}
use Rattle.offset_guard.proofs.Indexes.{int_eq-ties}
use Rattle.offset_guard.proofs.InOrder.{find-all_rows, found_in, sorted-all_rows}
use Rattle.offset_guard.proofs.Places.{get-offsets_in}

-- ---- the offsets of one topic

pub distinct_indexes : {X : Type 0} (es : List (ℤ × X)) → IsDistinct int_eq (keys_of es) → IsDistinct (eq_by_cmp int_cmp) (keys_of es)
distinct_indexes es apart = subst (λ e. IsDistinct e (keys_of es)) (λ j x y. sym (int_eq-ties x y) j) apart

-- ---- the topics

abbrev pub by_text : String Global × TopicState → Text × TopicState
by_text row = (string_bytes row.0, row.1)

apart_texts : (k : String Global) (rows : List (String Global × TopicState)) → AllByRecursion (λ y. string_eq k y ≡ false) (keys_of rows)
    → AllByRecursion (λ y. eq_by_cmp text_cmp (string_bytes k) y ≡ false) (keys_of (map by_text rows))
apart_texts k [] all = tt
apart_texts k (row ∷ rows) all = (is_eq-slice_cmp (string_bytes k) (string_bytes row.0) ∙ all.0, apart_texts k rows all.1)

pub distinct_names : (rows : List (String Global × TopicState)) → IsDistinct string_eq (keys_of rows) → IsDistinct (eq_by_cmp text_cmp) (keys_of (map by_text rows))
unfolding IsDistinct
distinct_names [] apart = tt
distinct_names (row ∷ rows) apart = (apart_texts row.0 rows apart.0, distinct_names rows apart.1)

find-by_text : (rows : List (String Global × TopicState)) (name : Text) → finite.find text_cmp name (map by_text rows) ≡ lookup (λ k. bytes_eq name (string_bytes k)) rows
find-by_text [] name = refl
find-by_text (row ∷ rows) name = λ j. cond (is_eq-slice_cmp name (string_bytes row.0) j) (Some row.1) (find-by_text rows name j)

topic_found : (rows : List (String Global × TopicState)) (name : Text)
    → finite.find text_cmp name (finite.entries (topics_by_name rows)) ≡ lookup (λ k. bytes_eq name (string_bytes k)) rows
topic_found rows name =
    sym (finite.get-entries (topics_by_name rows) name) ∙ finite.get-from_entries text_cmp_total (map by_text rows) name ∙ find-by_text rows name

-- ---- all

abbrev offsets_of : TopicState → List (ℤ × Committed)
offsets_of t = finite.entries t.offsets

rising_offsets : (t : TopicState) → T (is_sorted int_cmp (offsets_of t))
rising_offsets t = finite.entries_sorted t.offsets

found-offset_in : (o : Option TopicState) (i : ℤ) → found_in text_cmp int_cmp text_cmp_total text_cmp-IsAntisymmetric eq-place offsets_of rising_offsets o i ≡ offset_in o i
found-offset_in None i = refl
found-offset_in (Some t) i = sym (finite.get-entries t.offsets i)

pub entries-offsets_in : (rows : List (String Global × TopicState)) → flat_map entries_of_topic (finite.entries (topics_by_name rows)) ≡ finite.entries (offsets_in rows)
entries-offsets_in rows =
    same_entries place_cmp place_cmp_total place_cmp-IsAntisymmetric (flat_map entries_of_topic topics) (finite.entries (offsets_in rows))
    (sorted-all_rows text_cmp int_cmp text_cmp_total text_cmp-IsAntisymmetric eq-place offsets_of rising_offsets topics rising)
    (finite.entries_sorted (offsets_in rows))
    (λ q. find-all_rows text_cmp int_cmp text_cmp_total text_cmp-IsAntisymmetric eq-place offsets_of rising_offsets topics rising q
    ∙ found-offset_in (finite.find text_cmp q.0 topics) q.1
    ∙ ap (λ o. offset_in o q.1) (topic_found rows q.0)
    ∙ sym (get-offsets_in rows q)
    ∙ finite.get-entries (offsets_in rows) q)
  where
    topics : List (Text × TopicState)
    topics = finite.entries (topics_by_name rows)

    rising : T (is_sorted text_cmp topics)
    rising = finite.entries_sorted (topics_by_name rows)
