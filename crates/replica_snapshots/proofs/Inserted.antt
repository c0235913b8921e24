-- What is done with each of a list, and maps that are built entry by entry.
use Rattle.std.proofs.Common.{◌≡◌, Bool, true, false, cond, List, [], ◌∷◌, ◌++◌, Option, Some, None, refl, sym, ap, subst, ◌∙◌, append_assoc, append-nil}
use lib.Dec.{T}
use Rattle.std.specs.List.{AllByRecursion}
use Rattle.std.specs.Option.{option_or}
use Rattle.std.specs.Ordering.{eq_by_cmp, is_eq, is_lt}
use Rattle.std.specs.declared.cmp.Ordering.{Ordering}
use Rattle.std.specs.declared.cmp.Ordering.TheVariants.{Less, Equal, Greater}
use Rattle.std.specs.Cmp.{IsTotalOrder, Equal-is, eq_by_cmp_equiv}
use Rattle.std.specs.FinMap as finite
use Rattle.std.specs.FinMap.Entries.{below_all, find, is_sorted}
use Rattle.group_types.proofs.Entries.{first_part, second_part}
use Rattle.replica_snapshots.specs.Building.{CanEach, with_each}

-- ---- what is done with each

-- what is seen of it changes as another thing does
pub seen_by : {S E V : Type 0} (with_one : S → E → S) (other : V → E → V) (f : S → V) → ((s : S) (e : E) → f (with_one s e) ≡ other (f s) e) → (s : S) (es : List E)
    → f (with_each with_one s es) ≡ with_each other (f s) es
seen_by with_one other f same s [] = refl
seen_by {S} {E} {V} with_one other f same s (e ∷ es) = seen_by with_one other f same (with_one s e) es ∙ ap (λ (v : V). with_each other v es) (same s e)

-- what each leaves is left
pub kept_by : {S E V : Type 0} (with_one : S → E → S) (f : S → V) → ((s : S) (e : E) → f (with_one s e) ≡ f s) → (s : S) (es : List E) → f (with_each with_one s es) ≡ f s
kept_by with_one f same s [] = refl
kept_by with_one f same s (e ∷ es) = kept_by with_one f same (with_one s e) es ∙ same s e

pub holds_on : {S E : Type 0} (with_one : S → E → S) (P : S → Type 0) → ((s : S) (e : E) → P s → P (with_one s e)) → (s : S) (es : List E) → P s → P (with_each with_one s es)
holds_on with_one P on s [] is = is
holds_on with_one P on s (e ∷ es) is = holds_on with_one P on (with_one s e) es (on s e is)

-- each can be added where what is seen of it says so
pub can_seen : {S E V : Type 0} (with_one : S → E → S) (other : V → E → V) (f : S → V) (Can : V → E → Type 0) → ((s : S) (e : E) → f (with_one s e) ≡ other (f s) e) → (s : S) (es : List E)
    → CanEach Can other (f s) es → CanEach (λ (x : S) (e : E). Can (f x) e) with_one s es
can_seen with_one other f Can same s [] can = tt
can_seen {S} {E} {V} with_one other f Can same s (e ∷ es) can =
    (can.0, can_seen with_one other f Can same (with_one s e) es (subst (λ (v : V). CanEach Can other v es) (sym (same s e)) can.1))

pub pushed : {E : Type 0} (front es : List E) → with_each (λ (l : List E) (e : E). l ++ e ∷ []) front es ≡ front ++ es
pushed front [] = sym (append-nil front)
pushed front (e ∷ es) = pushed (front ++ e ∷ []) es ∙ append_assoc front (e ∷ []) es

-- ---- maps

-- no two have one key
abbrev pub KeysApart : {K X : Type 0} → (K → K → Ordering) → List (K × X) → Type 0
KeysApart R [] = Unit {0}
KeysApart R (e ∷ es) = AllByRecursion (λ f. eq_by_cmp R f.0 e.0 ≡ false) es × KeysApart R es

abbrev pub inserting : {K X : Type 0} {R : K → K → Ordering} → finite.FinMap R X → K × X → finite.FinMap R X
inserting m e = finite.insert m e.0 e.1

less_differs : (r : Ordering) → T (is_lt r) → is_eq r ≡ false
less_differs Less lt = refl
less_differs Equal lt = absurd lt
less_differs Greater lt = absurd lt

or_none : {X : Type 0} (o : Option X) → option_or o None ≡ o
or_none None = refl
or_none (Some x) = refl

module _ {K X : Type 0} {R : K → K → Ordering} (total : IsTotalOrder R) where
  above : (k : K) (es : List (K × X)) → T (below_all R k es) → AllByRecursion (λ (f : K × X). eq_by_cmp R f.0 k ≡ false) es
  above k [] below = tt
  above k (e ∷ es) below =
      ((eq_by_cmp_equiv total).symm e.0 k ∙ less_differs (R k e.0) (first_part _ _ below), above k es (second_part _ _ below))

  pub apart_sorted : (es : List (K × X)) → T (is_sorted R es) → KeysApart R es
  apart_sorted [] sorted = tt
  apart_sorted (e ∷ es) sorted = (above e.0 es (first_part _ _ sorted), apart_sorted es (second_part _ _ sorted))

  pub none_found : (k : K) (es : List (K × X)) → AllByRecursion (λ (f : K × X). eq_by_cmp R f.0 k ≡ false) es → find R k es ≡ None
  none_found k [] apart = refl
  none_found k (e ∷ es) apart = ap (λ (b : Bool). cond b (Some e.1) (find R k es)) ((eq_by_cmp_equiv total).symm k e.0 ∙ apart.0) ∙ none_found k es apart.1

  -- what is not there isn't once another one is
  pub still_none : (m : finite.FinMap R X) (k : K) (x : X) (es : List (K × X)) → AllByRecursion (λ (f : K × X). eq_by_cmp R f.0 k ≡ false) es
      → AllByRecursion (λ (f : K × X). finite.get m f.0 ≡ None) es → AllByRecursion (λ (f : K × X). finite.get (finite.insert m k x) f.0 ≡ None) es
  still_none m k x [] apart none = tt
  still_none m k x (e ∷ es) apart none =
      (finite.get-insert total m k x e.0 ∙ (ap (λ (b : Bool). cond b (Some x) (finite.get m e.0)) apart.0 ∙ none.0), still_none m k x es apart.1 none.1)

  pub can_insert : (es : List (K × X)) (m : finite.FinMap R X) → KeysApart R es → AllByRecursion (λ (e : K × X). finite.get m e.0 ≡ None) es
      → CanEach (λ (n : finite.FinMap R X) (e : K × X). finite.get n e.0 ≡ None) inserting m es
  can_insert [] m apart none = tt
  can_insert (e ∷ es) m apart none = (none.0, can_insert es (finite.insert m e.0 e.1) apart.1 (still_none m e.0 e.1 es apart.0 none.1))

  pub none_in_empty : (es : List (K × X)) → AllByRecursion (λ (e : K × X). finite.get (finite.empty {X = X} {R = R}) e.0 ≡ None) es
  none_in_empty [] = tt
  none_in_empty (e ∷ es) = (finite.get-empty R e.0, none_in_empty es)

  module _ (exact : finite.IsAntisymmetric R) where
    get_inserted : (es : List (K × X)) (m : finite.FinMap R X) (q : K) → KeysApart R es → finite.get (with_each inserting m es) q ≡ option_or (find R q es) (finite.get m q)
    get_inserted [] m q apart = refl
    get_inserted (e ∷ es) m q apart =
        get_inserted es (finite.insert m e.0 e.1) q apart.1
        ∙ (ap (λ (o : Option X). option_or (find R q es) o) (finite.get-insert total m e.0 e.1 q)
        ∙ elim (eq_by_cmp R q e.0) as (λ b. eq_by_cmp R q e.0 ≡ b → option_or (find R q es) (cond b (Some e.1) (finite.get m q)) ≡ option_or (cond b (Some e.1) (find R q es)) (finite.get m q)) [
          | true ↦ λ so.
              let same = exact q e.0 ((Equal-is (R q e.0)).0 so) in
              ap (λ (o : Option X). option_or o (Some e.1)) (ap (λ (k : K). find R k es) same ∙ none_found e.0 es apart.0)
          | false ↦ λ so. refl
        ] refl)

    -- a map is built again of its entries
    pub each_again : (n : finite.FinMap R X) → with_each inserting finite.empty (finite.entries n) ≡ n
    each_again n =
        finite.same_map total exact (with_each inserting finite.empty (finite.entries n)) n (λ q.
        get_inserted (finite.entries n) finite.empty q (apart_sorted (finite.entries n) (finite.entries_sorted n))
        ∙ (ap (λ (o : Option X). option_or (find R q (finite.entries n)) o) (finite.get-empty R q)
        ∙ (or_none (find R q (finite.entries n)) ∙ sym (finite.get-entries n q))))
