-- The sets of lists.
use Rattle.std.proofs.Common.{◌≡◌, Bool, true, false, cond, not, ◌&&◌, ◌||◌, List, [], ◌∷◌, map, length, refl, sym, ap, ◌∙◌, true≢false}
use Rattle.std.specs.declared.cmp.Ordering.{Ordering}
use Rattle.std.specs.Bool.{Decides}
use Rattle.std.specs.List.{list_any, filter}
use Rattle.std.specs.List.Sorted.{IsStrictlySortedBy}
use Rattle.std.specs.Ordering.{eq_by_cmp, is_eq}
use Rattle.std.specs.Cmp.{Equal-is, IsTotalOrder, eq_by_cmp_equiv, tied_itself}
use Rattle.std.specs.FinMap as finite
use Rattle.std.specs.FinMap.{IsAntisymmetric, entries, put}
use Rattle.std.proofs.lemmas.Map.Keys.{sorted_head, sorted_tail}
use Rattle.std.proofs.lemmas.Map.Views.{any-filter_same}
use Rattle.group_types.specs.Sets.{FinSet, nothing, has, with_one, without, common, in_order, of_list, size, union}
use Rattle.group_types.proofs.BoolLemmas.{either_way, or_group, or_none, or_swap, or_turn, put_in, taken_out}
use Rattle.std.proofs.lemmas.List.{nil_from_length}
use Rattle.group_types.proofs.SetLemmas.{apart_of_common, common-nothing, entries-nothing, has-common, has-in_order, has-nothing, has-of_list, has-union, has-with_one, has-without, has_tied, same_set}

module _ {K : Type 0} {R : K → K → Ordering} (total : IsTotalOrder R) (exact : IsAntisymmetric R) where
  pub of_list-in_order : (s : FinSet R) → of_list (in_order s) ≡ s
  of_list-in_order s = same_set total exact _ s (λ q. has-of_list total (in_order s) q ∙ sym (has-in_order s q))

  -- a list of keys after one is put in, or taken out
  pub with_one-of_list : (ks ns : List K) (x : K) → ((q : K) → list_any (eq_by_cmp R q) ns ≡ cond (eq_by_cmp R x q) true (list_any (eq_by_cmp R q) ks)) → of_list {R = R} ns ≡ with_one (of_list ks) x
  with_one-of_list ks ns x answers =
      same_set total exact _ _ (λ q. has-of_list total ns q ∙ answers q ∙ put_in (eq_by_cmp R x q) _
      ∙ (λ i. (eq_by_cmp_equiv total).symm x q i || sym (has-of_list total ks q) i)
      ∙ sym (has-with_one total (of_list ks) x q))

  pub without-of_list : (ks ns : List K) (x : K) → ((q : K) → list_any (eq_by_cmp R q) ns ≡ cond (eq_by_cmp R x q) false (list_any (eq_by_cmp R q) ks)) → of_list {R = R} ns ≡ without (of_list ks) x
  without-of_list ks ns x answers =
      same_set total exact _ _ (λ q. has-of_list total ns q ∙ answers q ∙ taken_out (eq_by_cmp R x q) _
      ∙ (λ i. not ((eq_by_cmp_equiv total).symm x q i) && sym (has-of_list total ks q) i)
      ∙ sym (has-without total (of_list ks) x q))

  -- the keys that another set has too
  pub common-of_list : (ks : List K) (t : FinSet R) → of_list {R = R} (filter (has t) ks) ≡ common (of_list ks) t
  common-of_list ks t = same_set total exact _ _ (λ q. has-of_list total _ q
      ∙ any-filter_same (eq_by_cmp R q) (has t) (has t q) (λ k tie. has_tied total t q k ((Equal-is (R q k)).0 tie)) ks
      ∙ either_way (has t q) _ ∙ ap (λ b. b && has t q) (sym (has-of_list total ks q)) ∙ sym (has-common total (of_list ks) t q))

-- ---- the keys in order

module _ {K : Type 0} {R : K → K → Ordering} (total : IsTotalOrder R) where
  abbrev bare : List K → List (K × Unit {0})
  bare ks = map (λ k. (k, tt)) ks

  put_first : (k : K) (ks : List K) → IsStrictlySortedBy R (k ∷ ks) → put R k tt (bare ks) ≡ bare (k ∷ ks)
  put_first k [] sorted = refl
  put_first k (y ∷ ys) sorted = rw ((sorted_head R k (y ∷ ys) sorted).0) refl

  entries-of_list : (ks : List K) → IsStrictlySortedBy R ks → entries (of_list {R = R} ks) ≡ bare ks
  entries-of_list [] sorted = entries-nothing R
  entries-of_list (k ∷ ks) sorted =
      finite.entries-insert total (of_list ks) k tt
      ∙ ap (put R k tt) (entries-of_list ks (sorted_tail R k ks sorted))
      ∙ put_first k ks sorted

  keys-bare : (ks : List K) → map (λ e. e.0) (bare ks) ≡ ks
  keys-bare [] = refl
  keys-bare (k ∷ ks) = ap (λ rest. k ∷ rest) (keys-bare ks)

  -- a list that rises is the list of its keys
  pub in_order-of_list : (ks : List K) → IsStrictlySortedBy R ks → in_order (of_list {R = R} ks) ≡ ks
  in_order-of_list ks sorted = ap (map (λ e. e.0)) (entries-of_list ks sorted) ∙ keys-bare ks

  pub size-of_list : (ks : List K) → IsStrictlySortedBy R ks → size (of_list {R = R} ks) ≡ length ks
  size-of_list ks sorted = ap length (in_order-of_list ks sorted)

  -- two lists that rise are the same where their sets are
  pub same_lists : (ks ls : List K) → IsStrictlySortedBy R ks → IsStrictlySortedBy R ls → (r : Bool) → Decides r (ks ≡ ls) → Decides r (of_list {R = R} ks ≡ of_list ls)
  same_lists ks ls a b r says =
      (λ so. ap of_list (says.0 so), λ is. says.1 (sym (in_order-of_list ks a) ∙ ap in_order is ∙ in_order-of_list ls b))

-- two lists share no key where their sets share none
pub disjoint_lists : {K : Type 0} {R : K → K → Ordering} → IsTotalOrder R → IsAntisymmetric R → (ks ls : List K) (r : Bool)
    → Decides r ((q : K) → list_any (eq_by_cmp R q) ks ≡ true → list_any (eq_by_cmp R q) ls ≡ false)
    → Decides r (common (of_list {R = R} ks) (of_list ls) ≡ nothing)
disjoint_lists total exact ks ls r says = (
  λ so. common-nothing total exact (of_list ks) (of_list ls) (λ q there.
      has-of_list total ls q ∙ says.0 so q (sym (has-of_list total ks q) ∙ there)),
  λ is. says.1 (λ q there.
      sym (has-of_list total ls q) ∙ apart_of_common total exact (of_list ks) (of_list ls) is q (has-of_list total ks q ∙ there)),
)

-- a set of no keys is one of an empty list
length-nothing : {K : Type 0} {R : K → K → Ordering} → IsTotalOrder R → (ks : List K) → of_list {R = R} ks ≡ nothing → length ks ≡ 0
length-nothing total [] is = refl
length-nothing {R = R} total (k ∷ ks) is =
    let itself : (eq_by_cmp R k k || has (of_list {R = R} ks) k) ≡ true = ap (λ o. is_eq o || has (of_list {R = R} ks) k) (tied_itself total k) in
    absurd (true≢false (sym itself ∙ sym (has-with_one total (of_list ks) k k) ∙ ap (λ s. has s k) is ∙ has-nothing R k))

pub of_list-nothing : {K : Type 0} {R : K → K → Ordering} → IsTotalOrder R → (ks : List K) (r : Bool) → Decides r (length ks ≡ 0) → Decides r (of_list {R = R} ks ≡ nothing)
of_list-nothing total ks r says = (λ so. ap of_list (nil_from_length ks (says.0 so)), λ is. says.1 (length-nothing total ks is))

-- ---- keys put in one after another

abbrev pub with_all : {K : Type 0} {R : K → K → Ordering} → FinSet R → List K → FinSet R
with_all s [] = s
with_all s (x ∷ xs) = with_all (with_one s x) xs

has-with_all : {K : Type 0} {R : K → K → Ordering} → IsTotalOrder R → (s : FinSet R) (xs : List K) (q : K) → has (with_all s xs) q ≡ (list_any (eq_by_cmp R q) xs || has s q)
has-with_all total s [] q = refl
has-with_all {R = R} total s (x ∷ xs) q =
    has-with_all total (with_one s x) xs q ∙ ap (λ b. list_any (eq_by_cmp R q) xs || b) (has-with_one total s x q)
    ∙ or_swap (list_any (eq_by_cmp R q) xs) (eq_by_cmp R q x) (has s q) ∙ or_group (eq_by_cmp R q x) (list_any (eq_by_cmp R q) xs) (has s q)

-- the keys of a set put into another
pub with_all-union : {K : Type 0} {R : K → K → Ordering} → IsTotalOrder R → IsAntisymmetric R → (s t : FinSet R) → with_all s (in_order t) ≡ union s t
with_all-union total exact s t = same_set total exact _ _ (λ q.
    has-with_all total s (in_order t) q ∙ ap (λ b. b || has s q) (sym (has-in_order t q)) ∙ or_turn (has t q) (has s q) ∙ sym (has-union total s t q))

-- the keys of a list put into an empty set
pub with_all-nothing : {K : Type 0} {R : K → K → Ordering} → IsTotalOrder R → IsAntisymmetric R → (xs : List K) → with_all {R = R} nothing xs ≡ of_list xs
with_all-nothing {R = R} total exact xs = same_set total exact _ _ (λ q.
    has-with_all total nothing xs q ∙ ap (λ b. list_any (eq_by_cmp R q) xs || b) (has-nothing R q)
    ∙ or_none (list_any (eq_by_cmp R q) xs) ∙ sym (has-of_list total xs q))
