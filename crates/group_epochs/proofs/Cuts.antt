-- The members without the one at a rank, in the order of ids.
use Rattle.std.proofs.Common.{◌≡◌, ◌≢◌, ℕ, zero, suc, ◌<◌, ◌≤◌, Bool, true, false, cond, not, List, [], ◌∷◌, Some, None, slice_get, filter, T, refl, sym, ap, ◌∙◌, arith}
use Rattle.std.specs.Ordering.{eq_by_cmp, is_eq}
use Rattle.std.specs.FinMap as finite
use Rattle.std.specs.FinMap.Entries.{below_all, find, find-where_key, is_sorted, is_sorted-where_key, where_key}
use Rattle.std.specs.Cmp.{alike_right, eq_by_cmp_equiv}
use Rattle.group_types.specs.Text.{Text, text_cmp}
use Rattle.group_types.specs.Group.{Record, Records}
use Rattle.group_types.proofs.Entries.{below_differs, first_part, second_part}
use Rattle.group_types.proofs.Lookups.{no_tie, not_none, some_is, text_ties}
use Rattle.group_types.proofs.Orders.{text_cmp_total, text_cmp-IsAntisymmetric}
use Rattle.group_epochs.specs.Table.{NoneIsDueBefore, member_at}

-- ---- a list without one place

module _ {X : Type 0} where
  abbrev pub cut : List X → ℕ → List X
  cut [] k = []
  cut (x ∷ xs) zero = xs
  cut (x ∷ xs) (suc k) = x ∷ cut xs k

  before_cut : (xs : List X) (k j : ℕ) → j < k → slice_get (cut xs k) j ≡ slice_get xs j
  before_cut [] k j below = refl
  before_cut (x ∷ xs) zero j below = absurd (omega (arith, below))
  before_cut (x ∷ xs) (suc k) zero below = refl
  before_cut (x ∷ xs) (suc k) (suc j) below = before_cut xs k j (omega (arith, below))

-- ---- the entries without one member

turned : {A : Type 0} (b : Bool) (x y : A) → cond (not b) x y ≡ cond b y x
turned true x y = refl
turned false x y = refl

module _ {X : Type 0} where
  abbrev is_other : Text → Text × X → Bool
  is_other m e = not (eq_by_cmp text_cmp m e.0)

  below_at : (m : Text) (es : List (Text × X)) (k : ℕ) (e : Text × X) → T (below_all text_cmp m es) → slice_get es k ≡ Some e → e.0 ≢ m
  below_at m [] k e below there = absurd (not_none e there)
  below_at m (d ∷ es) zero e below there = λ is. below_differs m d.0 (first_part _ _ below) (ap (λ (x : Text × X). x.0) (some_is d e there) ∙ is)
  below_at m (d ∷ es) (suc k) e below there = below_at m es k e (second_part _ _ below) there

  all_others : (m : Text) (es : List (Text × X)) → T (below_all text_cmp m es) → filter (is_other m) es ≡ es
  all_others m [] below = refl
  all_others m (e ∷ es) below =
      ap (λ b. cond (not b) (e ∷ filter (is_other m) es) (filter (is_other m) es)) (no_tie m e.0 (λ is. below_differs m e.0 (first_part _ _ below) (sym is)))
      ∙ ap (λ rest. e ∷ rest) (all_others m es (second_part _ _ below))

  others_cut : (es : List (Text × X)) (k : ℕ) (e : Text × X) → T (is_sorted text_cmp es) → slice_get es k ≡ Some e → filter (is_other e.0) es ≡ cut es k
  others_cut [] k e sorted there = refl
  others_cut (d ∷ es) zero e sorted there =
      let same : e.0 ≡ d.0 = ap (λ (x : Text × X). x.0) (sym (some_is d e there)) in
      ap (λ m. filter (is_other m) (d ∷ es)) same
      ∙ ap (λ b. cond (not b) (d ∷ filter (is_other d.0) es) (filter (is_other d.0) es)) (text_ties d.0)
      ∙ all_others d.0 es (first_part _ _ sorted)
  others_cut (d ∷ es) (suc k) e sorted there =
      ap (λ b. cond (not b) (d ∷ filter (is_other e.0) es) (filter (is_other e.0) es)) (no_tie e.0 d.0 (below_at d.0 es k e (first_part _ _ sorted) there))
      ∙ ap (λ rest. d ∷ rest) (others_cut es k e (second_part _ _ sorted) there)

  entries_without : (s : finite.FinMap text_cmp X) (m : Text) → finite.entries (finite.remove s m) ≡ filter (is_other m) (finite.entries s)
  entries_without s m =
      let p : Text → Bool = λ n. not (eq_by_cmp text_cmp m n) in
      let es = where_key text_cmp p (finite.entries s) in
      let sorted : T (is_sorted text_cmp es) = is_sorted-where_key text_cmp p (finite.entries s) (finite.entries_sorted s) in
      let same : finite.remove s m ≡ finite.from_sorted es =
      finite.same_map text_cmp_total text_cmp-IsAntisymmetric (finite.remove s m) (finite.from_sorted es)
      (λ q. finite.get-remove text_cmp_total s m q ∙ sym (finite.get-from_sorted text_cmp es q sorted ∙ found q)) in
      ap finite.entries same ∙ finite.entries-from_sorted text_cmp es sorted
    where
      found : (q : Text) → find text_cmp q (where_key text_cmp (λ n. not (eq_by_cmp text_cmp m n)) (finite.entries s)) ≡ cond (eq_by_cmp text_cmp q m) None (finite.get s q)
      found q =
          find-where_key text_cmp (λ n. not (eq_by_cmp text_cmp m n)) q (λ n t. ap (λ o. not (is_eq o)) (sym (alike_right text_cmp_total q n m t))) (finite.entries s)
          ∙ turned (eq_by_cmp text_cmp m q) (find text_cmp q (finite.entries s)) None
          ∙ (λ i. cond ((eq_by_cmp_equiv text_cmp_total).symm m q i) None (sym (finite.get-entries s q) i))

-- ---- the member at a rank goes

module _ (records : Records) (rank : ℕ) (m : Text) (r : Record) (there : member_at records rank ≡ Some (m, r)) where
  pub entries_left : finite.entries (finite.remove records m) ≡ cut (finite.entries records) rank
  entries_left = entries_without records m ∙ others_cut (finite.entries records) rank (m, r) (finite.entries_sorted records) there

  -- nobody before a rank that is no later is due without it
  pub none_before_left : (clock start : ℕ) → start ≤ rank → NoneIsDueBefore records clock start → NoneIsDueBefore (finite.remove records m) clock start
  none_before_left clock start no_later before = λ k e below at.
      before k e below (sym (before_cut (finite.entries records) rank k (omega (arith, below, no_later))) ∙ ap (λ es. slice_get es k) (sym entries_left) ∙ at)
