-- The entries of the topics by their places, as a caller that goes over the slice of a view has them.
use Rattle.std.proofs.Common.{◌≡◌, ℕ, zero, suc, ◌<◌, ◌≤◌, cond, T, List, [], ◌∷◌, length, get_or, refl, sym, ap, ◌∙◌, inl, inr, arith, Some, string_bytes}
use Rattle.std.specs.declared.cmp.Ordering.{Ordering}
use Rattle.std.specs.declared.cmp.Ordering.TheVariants.{Less, Equal, Greater}
use Rattle.std.specs.Ordering.{is_lt, is_eq, ordering_reverse}
use Rattle.std.specs.Cmp.{tied_itself}
use Rattle.std.proofs.lemmas.Bool.{cases_order}
use Rattle.std.proofs.lemmas.List.{get_or-map}
use Rattle.std.proofs.Math.ListN.{length-map}
use Rattle.std.specs.FinMap as finite
use Rattle.std.specs.FinMap.{entries, get, find, is_sorted}
use Rattle.std.specs.FinMap.Entries.{below_all}
use Rattle.group_types.specs.Limits.{MOST_TOPIC_PARTITIONS}
use Rattle.group_types.specs.Text.{Text, text_cmp}
use Rattle.group_types.specs.Topics.{Topic, Topics}
use Rattle.group_types.specs.Images.{AreImageTopics}
use Rattle.group_types.proofs.Orders.{text_cmp_total}
use Rattle.topic_meta.proofs.Truths.{first, second}
use Rattle.topic_meta.specs.Views.{named, all_named}
use Rattle.topic_meta.specs.declared.view_topic.ViewTopic.{ViewTopic}

less_of_is_lt : (o : Ordering) → T (is_lt o) → o ≡ Less
less_of_is_lt Less p = refl
less_of_is_lt Equal p = absurd p
less_of_is_lt Greater p = absurd p

below-at : (x : Text) (es : List (Text × Topic)) → T (below_all text_cmp x es) → (k : ℕ) (d : Text × Topic) → k < length es
    → text_cmp x (get_or es k d).0 ≡ Less
below-at x [] h k d in_es = absurd (omega arith)
below-at x (e ∷ es) h zero d in_es = less_of_is_lt _ (first _ _ h)
below-at x (e ∷ es) h (suc k) d in_es = below-at x es (second _ _ h) k d (omega arith)

find-at : (es : List (Text × Topic)) → T (is_sorted text_cmp es) → (k : ℕ) (d : Text × Topic) → k < length es
    → find text_cmp (get_or es k d).0 es ≡ Some (get_or es k d).1
find-at [] h k d in_es = absurd (omega arith)
find-at (e ∷ es) h zero d in_es = ap (λ o. cond (is_eq o) (Some e.1) (find text_cmp e.0 es)) (tied_itself text_cmp_total e.0)
find-at (e ∷ es) h (suc k) d in_es =
    let above : text_cmp (get_or es k d).0 e.0 ≡ Greater =
    text_cmp_total.antisymm (get_or es k d).0 e.0 ∙ ap ordering_reverse (below-at e.0 es (first _ _ h) k d (omega arith)) in
    ap (λ o. cond (is_eq o) (Some e.1) (find text_cmp (get_or es k d).0 es)) above ∙ find-at es (second _ _ h) k d (omega arith)

names_rise-at : (es : List (Text × Topic)) → T (is_sorted text_cmp es) → (i j : ℕ) (d : Text × Topic) → i < j → j < length es
    → text_cmp (get_or es i d).0 (get_or es j d).0 ≡ Less
names_rise-at [] h i j d rise in_es = absurd (omega arith)
names_rise-at (e ∷ es) h zero zero d rise in_es = absurd (omega arith)
names_rise-at (e ∷ es) h zero (suc j) d rise in_es = below-at e.0 es (first _ _ h) j d (omega arith)
names_rise-at (e ∷ es) h (suc i) zero d rise in_es = absurd (omega arith)
names_rise-at (e ∷ es) h (suc i) (suc j) d rise in_es = names_rise-at es (second _ _ h) i j d (omega arith) (omega arith)

-- the topic at a place is the one that its name has
pub get-at : (topics : Topics) (k : ℕ) (d : Text × Topic) → k < length (entries topics)
    → get topics (get_or (entries topics) k d).0 ≡ Some (get_or (entries topics) k d).1
get-at topics k d in_topics =
    finite.get-entries topics (get_or (entries topics) k d).0 ∙ find-at (entries topics) (finite.entries_sorted topics) k d in_topics

pub count-at : (topics : Topics) → AreImageTopics topics → (k : ℕ) (d : Text × Topic) → k < length (entries topics)
    → (1 ≤ (get_or (entries topics) k d).1.count) × ((get_or (entries topics) k d).1.count ≤ MOST_TOPIC_PARTITIONS)
count-at topics are k d in_topics = are.counts _ _ (get-at topics k d in_topics)

apart-below : (topics : Topics) → AreImageTopics topics → (i j : ℕ) (d : Text × Topic) → i < j → j < length (entries topics)
    → (get_or (entries topics) i d).1.id ≡ (get_or (entries topics) j d).1.id → ⊥
apart-below topics are i j d rise in_topics same =
    let names : (get_or (entries topics) i d).0 ≡ (get_or (entries topics) j d).0 =
    are.ids_apart _ _ _ _ (get-at topics i d (omega arith)) (get-at topics j d in_topics) same in
    let less = names_rise-at (entries topics) (finite.entries_sorted topics) i j d rise in_topics in
    let tie = ap (text_cmp (get_or (entries topics) i d).0) (sym names) ∙ tied_itself text_cmp_total (get_or (entries topics) i d).0 in
    cc

-- no two places have one id
pub ids_apart-at : (topics : Topics) → AreImageTopics topics → (i j : ℕ) (d : Text × Topic) → i < length (entries topics) → j < length (entries topics)
    → (get_or (entries topics) i d).1.id ≡ (get_or (entries topics) j d).1.id → i ≡ j
ids_apart-at topics are i j d in_i in_j same =
    elim (cases_order i j) [
      | inl is ↦ is
      | inr apart ↦ elim apart [
        | inl below ↦ absurd (apart-below topics are i j d below in_j same)
        | inr above ↦ absurd (apart-below topics are j i d above in_i (sym same))
      ]
    ]

-- ---- in the slice that a view lends

module _ (topics : Topics) (ts : List ViewTopic) (all : all_named ts ≡ entries topics) where
  named-at : (k : ℕ) (d : ViewTopic) → k < length ts → get_or (entries topics) k (named d) ≡ named (get_or ts k d)
  named-at k d in_ts = ap (λ es. get_or es k (named d)) (sym all) ∙ get_or-map named ts k d (named d) in_ts

  as_many : length ts ≡ length (entries topics)
  as_many = sym (length-map ts named) ∙ ap length all

  -- the view has each topic of the slice under its name
  pub get-topic_at : (k : ℕ) (d : ViewTopic) → k < length ts
      → get topics (string_bytes (get_or ts k d).name) ≡ Some (record { id = (get_or ts k d).id; count = (get_or ts k d).count })
  get-topic_at k d in_ts =
      let here = get-at topics k (named d) (let same = as_many in omega arith) in
      ap (λ e. get topics e.0) (sym (named-at k d in_ts)) ∙ here ∙ ap (λ e. Some e.1) (named-at k d in_ts)

  -- each topic of the slice has at least one partition, and no more than the limit
  pub topic_at-count : AreImageTopics topics → (k : ℕ) (d : ViewTopic) → k < length ts
      → (1 ≤ (get_or ts k d).count) × ((get_or ts k d).count ≤ MOST_TOPIC_PARTITIONS)
  topic_at-count are k d in_ts = are.counts _ _ (get-topic_at k d in_ts)

  -- no two places of the slice have one id
  pub topic_at-ids_apart : AreImageTopics topics → (i j : ℕ) (d : ViewTopic) → i < length ts → j < length ts
      → (get_or ts i d).id ≡ (get_or ts j d).id → i ≡ j
  topic_at-ids_apart are i j d in_i in_j same =
      let lengths = as_many in
      ids_apart-at topics are i j (named d) (omega arith) (omega arith)
      (ap (λ e. e.1.id) (named-at i d in_i) ∙ same ∙ ap (λ e. e.1.id) (sym (named-at j d in_j)))
