-- Topics in name order, and which of them are among names.
use Rattle.std.proofs.Common.{◌≡◌, ℕ, zero, suc, ◌<◌, ◌+◌, ◌-◌, take, Bool, true, false, T, ◌&&◌, ◌||◌, List, [], ◌∷◌, ◌++◌, length, get_or, replicate, set as set_at, refl, sym, ap, ◌∙◌, arith, inl, inr, Some, Result, Ok, Err, string_bytes, get_or-set_other, get_or-set_same}
use Rattle.std.specs.declared.cmp.Ordering.{Ordering}
use Rattle.std.specs.declared.cmp.Ordering.TheVariants.{Less, Equal, Greater}
use Rattle.std.specs.Cmp.{tied_itself}
use Rattle.std.specs.FinMap as finite
use Rattle.std.specs.FinMap.{is_sorted}
use Rattle.std.specs.FinMap.Entries.{below_all}
use Rattle.std.specs.List.{list_any, slice_get}
use Rattle.std.specs.List.Sorted.{IsBinarySearchResult, IsSearchInRange, IsSortedBy}
use Rattle.std.specs.Ordering.{eq_by_cmp, is_eq, is_lt, ordering_reverse}
use Rattle.std.specs.Result.{result_ok}
use Rattle.std.proofs.lemmas.Bool.{cases_lt, cases_order}
use Rattle.std.proofs.lemmas.List.{ext_get_or, get_or_default, get_or-map, length-map, length-set, length-replicate}
use Rattle.std.proofs.lemmas.List.Sorted.{searchable_from_sorted}
use Rattle.std.proofs.lemmas.Option.{get_or_from_slice_get, same_Some, slice_get_within}
use Rattle.group_types.specs.Sets.{has, in_order}
use Rattle.group_types.specs.Text.{Text, text_cmp}
use Rattle.group_types.specs.Topics.{Names, Topic, Topics}
use Rattle.group_types.proofs.Orders.{text_cmp_total, text_cmp-IsAntisymmetric}
use Rattle.group_types.proofs.SetLemmas.{has-in_order}
use Rattle.topic_meta.specs.Views.{all_named, named}
use Rattle.topic_meta.specs.declared.view_topic.ViewTopic.{ViewTopic}
use Rattle.range_assign.specs.Marks.{IsNamedAt, IsPlaceNamed, NamesRise, marks_in}

-- ---- the place of a name

module _ (topics : List ViewTopic) (rise : NamesRise topics) where
  never_below : (i j : ℕ) (s t : ViewTopic) → slice_get topics i ≡ Some s → slice_get topics j ≡ Some t → i < j → string_bytes s.name ≡ string_bytes t.name → ⊥
  never_below i j s t at_i at_j below same =
      let less : text_cmp (string_bytes s.name) (string_bytes t.name) ≡ Less =
      ap (λ x. text_cmp (string_bytes x.name) (string_bytes t.name)) (sym (get_or_from_slice_get topics i s s at_i))
      ∙ ap (λ x. text_cmp (string_bytes (get_or topics i s).name) (string_bytes x.name)) (sym (get_or_from_slice_get topics j t s at_j))
      ∙ rise i j s below (slice_get_within topics j t at_j) in
      let tie = ap (text_cmp (string_bytes s.name)) (sym same) ∙ tied_itself text_cmp_total (string_bytes s.name) in
      cc

  -- two places with one name are one
  pub named_once : (i j : ℕ) (s t : ViewTopic) → slice_get topics i ≡ Some s → slice_get topics j ≡ Some t → string_bytes s.name ≡ string_bytes t.name → i ≡ j
  named_once i j s t at_i at_j same =
      elim (cases_order i j) [
        | inl is ↦ is
        | inr apart ↦ elim apart [
          | inl below ↦ absurd (never_below i j s t at_i at_j below same)
          | inr above ↦ absurd (never_below j i t s at_j at_i above (sym same))
        ]
      ]

  sorted : IsSortedBy (λ (s : ViewTopic) (t : ViewTopic). is_lt (text_cmp (string_bytes s.name) (string_bytes t.name))) topics
  sorted = λ k d low high.
      ap is_lt (text_cmp_total.antisymm (string_bytes (get_or topics (k + 1) d).name) (string_bytes (get_or topics k d).name) ∙ ap ordering_reverse (rise k (k + 1) d (omega arith) (omega arith)))

  pub IsPlaceNamed-searched : (name : Text) (r : Result ℕ ℕ) → IsSearchInRange r (length topics) → IsBinarySearchResult (λ (t : ViewTopic). text_cmp (string_bytes t.name) name) topics r
      → IsPlaceNamed topics name (result_ok r)
  IsPlaceNamed-searched name (Ok i) bound found =
      let (topic, is) = some_at topics i bound in
      (topic, is, text_cmp-IsAntisymmetric _ _ (ap (λ t. text_cmp (string_bytes t.name) name) (sym (get_or_from_slice_get topics i topic topic is)) ∙ found topic))
    where
      some_at : (xs : List ViewTopic) (k : ℕ) → k < length xs → (x : ViewTopic) × (slice_get xs k ≡ Some x)
      some_at [] k low = absurd (omega (arith, low))
      some_at (x ∷ xs) zero low = (x, refl)
      some_at (x ∷ xs) (suc k) low = some_at xs k (omega (arith, low))
  IsPlaceNamed-searched name (Err i) bound found = λ k (topic, is, same).
      let parts = found (searchable_from_sorted text_cmp_total (λ (t : ViewTopic). string_bytes t.name) topics name sorted) in
      let here = get_or_from_slice_get topics k topic topic is in
      let tie = ap (λ t. text_cmp (string_bytes t.name) name) here ∙ ap (λ n. text_cmp n name) same ∙ tied_itself text_cmp_total name in
      elim (cases_lt k i) [
        | inl before ↦ let less = parts.0 k topic (omega arith) before in cc
        | inr after ↦ let greater = parts.1 k topic after (slice_get_within topics k topic is) in cc
      ]

-- ---- the topics that a view lends

first : (a b : Bool) → T (a && b) → T a
first true b p = tt
first false b p = absurd p

second : (a b : Bool) → T (a && b) → T b
second true b p = p
second false b p = absurd p

less_of_is_lt : (o : Ordering) → T (is_lt o) → o ≡ Less
less_of_is_lt Less p = refl
less_of_is_lt Equal p = absurd p
less_of_is_lt Greater p = absurd p

below-at : (x : Text) (es : List (Text × Topic)) → T (below_all text_cmp x es) → (k : ℕ) (d : Text × Topic) → k < length es → text_cmp x (get_or es k d).0 ≡ Less
below-at x [] h k d in_es = absurd (omega arith)
below-at x (e ∷ es) h zero d in_es = less_of_is_lt _ (first _ _ h)
below-at x (e ∷ es) h (suc k) d in_es = below-at x es (second _ _ h) k d (omega arith)

rise-at : (es : List (Text × Topic)) → T (is_sorted text_cmp es) → (i j : ℕ) (d : Text × Topic) → i < j → j < length es → text_cmp (get_or es i d).0 (get_or es j d).0 ≡ Less
rise-at [] h i j d below in_es = absurd (omega arith)
rise-at (e ∷ es) h zero zero d below in_es = absurd (omega arith)
rise-at (e ∷ es) h zero (suc j) d below in_es = below-at e.0 es (first _ _ h) j d (omega arith)
rise-at (e ∷ es) h (suc i) zero d below in_es = absurd (omega arith)
rise-at (e ∷ es) h (suc i) (suc j) d below in_es = rise-at es (second _ _ h) i j d (omega arith) (omega arith)

-- the topics of a view are in name order
pub NamesRise-view : (view : Topics) (topics : List ViewTopic) → all_named topics ≡ finite.entries view → NamesRise topics
NamesRise-view view topics all = λ i j d below within.
    let es = finite.entries view in
    let long = length-map topics named in
    let many = ap length all in
    let at_i : get_or es i (named d) ≡ named (get_or topics i d) = ap (λ xs. get_or xs i (named d)) (sym all) ∙ get_or-map named topics i d (named d) (omega arith) in
    let at_j : get_or es j (named d) ≡ named (get_or topics j d) = ap (λ xs. get_or xs j (named d)) (sym all) ∙ get_or-map named topics j d (named d) within in
    ap (λ e. text_cmp e.0 (string_bytes (get_or topics j d).name)) (sym at_i) ∙ ap (λ e. text_cmp (get_or es i (named d)).0 e.0) (sym at_j)
    ∙ rise-at es (finite.entries_sorted view) i j (named d) below (omega arith)

-- ---- the marks

-- the marks are those of the names that are not left
pub record AreMarked (topics : List ViewTopic) (names : Names) (marks : List Bool) (left : List Text) : Type 0 where
  pub as_many : length marks ≡ length topics
  pub each : (t : ℕ) (topic : ViewTopic) → slice_get topics t ≡ Some topic
      → (get_or marks t false || list_any (eq_by_cmp text_cmp (string_bytes topic.name)) left) ≡ has names (string_bytes topic.name)

never_tied : (a b : Text) → (a ≡ b → ⊥) → eq_by_cmp text_cmp a b ≡ false
never_tied a b apart =
    elim (text_cmp a b) as (λ o. text_cmp a b ≡ o → is_eq o ≡ false) [
      | Less ↦ λ is. refl
      | Equal ↦ λ tie. absurd (apart (text_cmp-IsAntisymmetric a b tie))
      | Greater ↦ λ is. refl
    ] refl

tied_same : (a b : Text) → a ≡ b → eq_by_cmp text_cmp a b ≡ true
tied_same a b same = ap (λ x. eq_by_cmp text_cmp a x) (sym same) ∙ ap is_eq (tied_itself text_cmp_total a)

or_true : (b : Bool) → (b || true) ≡ true
or_true true = refl
or_true false = refl

or_false : (b : Bool) → (b || false) ≡ b
or_false true = refl
or_false false = refl

-- an empty list that is made longer
pub made_longer : (n k : ℕ) (old : List Bool) → old ≡ [] → k ≡ length old → take n old ++ replicate (n - k) false ≡ replicate n false
made_longer n k old none is =
    let whole : n - k ≡ n = let long = ap length none in omega arith in
    (λ i. (ap (take n) none ∙ nothing_taken n) i ++ replicate (whole i) false)
  where
    nothing_taken : (n : ℕ) → take {A = Bool} n [] ≡ []
    nothing_taken zero = refl
    nothing_taken (suc n) = refl

module _ (topics : List ViewTopic) (names : Names) where
  pub AreMarked-none : (marks : List Bool) → marks ≡ replicate (length topics) false → AreMarked topics names marks (in_order names)
  AreMarked-none marks none = record {
    as_many = ap length none ∙ length-replicate (length topics) false;
    each = λ t topic is.
        ap (λ b. b || list_any (eq_by_cmp text_cmp (string_bytes topic.name)) (in_order names)) (ap (λ xs. get_or xs t false) none ∙ blank (length topics) t)
        ∙ sym (has-in_order names (string_bytes topic.name));
  }
    where
      blank : (n t : ℕ) → get_or (replicate n false) t false ≡ false
      blank zero t = refl
      blank (suc n) zero = refl
      blank (suc n) (suc t) = blank n t

  module _ (marks : List Bool) (name : Text) (left : List Text) (marked : AreMarked topics names marks (name ∷ left)) where
    other : (t : ℕ) (topic : ViewTopic) → slice_get topics t ≡ Some topic → (string_bytes topic.name ≡ name → ⊥)
        → (get_or marks t false || list_any (eq_by_cmp text_cmp (string_bytes topic.name)) left) ≡ has names (string_bytes topic.name)
    other t topic is apart =
        ap (λ b. get_or marks t false || (b || list_any (eq_by_cmp text_cmp (string_bytes topic.name)) left)) (sym (never_tied (string_bytes topic.name) name apart))
        ∙ marked.each t topic is

    pub AreMarked-skip : ((k : ℕ) → ¬ IsNamedAt topics name k) → AreMarked topics names marks left
    AreMarked-skip none = record {
      as_many = marked.as_many;
      each = λ t topic is. other t topic is (λ same. none t (topic, is, same));
    }

    pub AreMarked-at : NamesRise topics → (place : ℕ) → IsNamedAt topics name place → AreMarked topics names (set_at marks place true) left
    AreMarked-at rise place (found, there, named) = record {
      as_many = length-set marks place true ∙ marked.as_many;
      each = λ t topic is. elim (cases_order t place) [
        | inl at ↦
            let within : place < length marks = let many = marked.as_many in let low = slice_get_within topics place found there in omega arith in
            let same_topic : topic ≡ found = same_Some topic found (sym is ∙ ap (slice_get topics) at ∙ there) in
            let same : string_bytes topic.name ≡ name = ap (λ x. string_bytes x.name) same_topic ∙ named in
            ap (λ b. b || list_any (eq_by_cmp text_cmp (string_bytes topic.name)) left) (ap (λ k. get_or (set_at marks place true) k false) at ∙ get_or-set_same marks place true false within)
            ∙ sym (or_true (get_or marks t false))
            ∙ ap (λ b. get_or marks t false || (b || list_any (eq_by_cmp text_cmp (string_bytes topic.name)) left)) (sym (tied_same (string_bytes topic.name) name same))
            ∙ marked.each t topic is
        | inr apart ↦
            let away : t ≡ place → ⊥ = λ at. elim apart [ inl below ↦ omega arith | inr above ↦ omega arith ] in
            ap (λ b. b || list_any (eq_by_cmp text_cmp (string_bytes topic.name)) left) (get_or-set_other marks place t true false away)
            ∙ other t topic is (λ same. away (named_once topics rise t place topic found is there (same ∙ sym named)))
      ];
    }

  pub AreMarked-all : (marks : List Bool) → AreMarked topics names marks [] → marks ≡ marks_in topics names
  AreMarked-all marks marked =
      let long = length-map topics (λ (t : ViewTopic). has names (string_bytes t.name)) in
      let many = marked.as_many in
      ext_get_or false marks (marks_in topics names) (omega arith) (λ t low.
      let (topic, is) = some_at topics t (omega arith) in
      sym (or_false (get_or marks t false)) ∙ marked.each t topic is
      ∙ ap (λ x. has names (string_bytes x.name)) (sym (get_or_from_slice_get topics t topic topic is))
      ∙ sym (get_or-map (λ x. has names (string_bytes x.name)) topics t topic false (omega arith)))
    where
      some_at : (xs : List ViewTopic) (k : ℕ) → k < length xs → (x : ViewTopic) × (slice_get xs k ≡ Some x)
      some_at [] k low = absurd (omega (arith, low))
      some_at (x ∷ xs) zero low = (x, refl)
      some_at (x ∷ xs) (suc k) low = some_at xs k (omega (arith, low))

-- the mark of a topic
pub marked-at : (topics : List ViewTopic) (names : Names) (marks : List Bool) → marks ≡ marks_in topics names → (t : ℕ) (topic : ViewTopic) → slice_get topics t ≡ Some topic
    → get_or marks t false ≡ has names (string_bytes topic.name)
marked-at topics names marks all t topic is =
    ap (λ xs. get_or xs t false) all
    ∙ get_or-map (λ (x : ViewTopic). has names (string_bytes x.name)) topics t topic false (slice_get_within topics t topic is)
    ∙ ap (λ x. has names (string_bytes x.name)) (get_or_from_slice_get topics t topic topic is)

pub marked-read : (topics : List ViewTopic) (names : Names) (marks : List Bool) → marks ≡ marks_in topics names → (t : ℕ) (topic : ViewTopic) → slice_get topics t ≡ Some topic
    → (b : Bool) → b ≡ get_or marks t b → b ≡ has names (string_bytes topic.name)
marked-read topics names marks all t topic is b read =
    let within : t < length marks = let low = slice_get_within topics t topic is in let long = ap length all ∙ length-map topics (λ (x : ViewTopic). has names (string_bytes x.name)) in omega arith in
    read ∙ get_or_default marks t b false within ∙ marked-at topics names marks all t topic is
