-- What the words of sets answer, in an order R that is total and in which only equal keys tie.
use Rattle.std.proofs.Common.{◌≡◌, ◌+◌, ◌-◌, Bool, true, false, cond, not, ◌&&◌, ◌||◌, List, [], ◌∷◌, ◌++◌, is_some, refl, sym, ap, ◌∙◌, Option, Some, None}
use Rattle.std.specs.declared.cmp.Ordering.{Ordering}
use Rattle.std.specs.declared.cmp.Ordering.TheVariants.{Equal}
use Rattle.std.specs.Bool.{Decides}
use Rattle.std.specs.List.{list_any}
use Rattle.std.specs.Ordering.{eq_by_cmp}
use Rattle.std.specs.Cmp.{IsTotalOrder}
use Rattle.std.specs.FinMap as finite
use Rattle.std.specs.FinMap.{IsAntisymmetric, entries}
use Rattle.std.proofs.lemmas.Bool.Decides.{Decides-eqb}
use Rattle.std.proofs.Math.ListN.{length-map}
use Rattle.std.specs.Cmp.{first_so, second_so}
use Rattle.group_types.proofs.BoolLemmas.{never_both, same_answer}
use Rattle.std.proofs.lemmas.List.{nil_from_length}
use Rattle.group_types.proofs.ListLemmas.{any_append}
use Rattle.group_types.specs.Sets.{FinSet, nothing, has, with_one, without, common, minus, in_order, of_list, size, is_nothing, are_disjoint, are_same, union}

-- ---- the answers of an `Option` with nothing in it

some_or : (b : Bool) (x : Option (Unit {0})) → is_some (cond b (Some tt) x) ≡ (b || is_some x)
some_or true x = refl
some_or false x = refl

none_or : (b : Bool) (x : Option (Unit {0})) → is_some (cond b None x) ≡ (not b && is_some x)
none_or true x = refl
none_or false x = refl

kept : (b : Bool) (x : Option (Unit {0})) → is_some (cond b x None) ≡ (is_some x && b)
kept true None = refl
kept true (Some u) = refl
kept false None = refl
kept false (Some u) = refl

abbrev mark : Bool → Option (Unit {0})
mark b = cond b (Some tt) None

mark_of : (x : Option (Unit {0})) → x ≡ mark (is_some x)
mark_of None = refl
mark_of (Some u) = refl

-- ---- what each word answers

pub has-nothing : {K : Type 0} (R : K → K → Ordering) (q : K) → has (nothing {R = R}) q ≡ false
has-nothing R q = ap is_some (finite.get-empty R q)

module _ {K : Type 0} {R : K → K → Ordering} (total : IsTotalOrder R) where
  pub has-with_one : (s : FinSet R) (x q : K) → has (with_one s x) q ≡ (eq_by_cmp R q x || has s q)
  has-with_one s x q = ap is_some (finite.get-insert total s x tt q) ∙ some_or _ _

  pub has-without : (s : FinSet R) (x q : K) → has (without s x) q ≡ (not (eq_by_cmp R q x) && has s q)
  has-without s x q = ap is_some (finite.get-remove total s x q) ∙ none_or _ _

  -- keys that tie are both in a set, or neither is
  pub has_tied : (s : FinSet R) (q x : K) → R q x ≡ Equal → has s x ≡ has s q
  has_tied s q x tie = ap is_some (finite.get_tied total s q x tie)

  pub has-common : (s t : FinSet R) (q : K) → has (common s t) q ≡ (has s q && has t q)
  has-common s t q = ap is_some (finite.get-retain_keys s (has t) q (has_tied t q)) ∙ kept (has t q) (finite.get s q)

  pub has-minus : (s t : FinSet R) (q : K) → has (minus s t) q ≡ (has s q && not (has t q))
  has-minus s t q = ap is_some (finite.get-retain_keys s (λ x. not (has t x)) q (λ x tie. ap not (has_tied t q x tie))) ∙ kept (not (has t q)) (finite.get s q)

  pub has-of_list : (xs : List K) (q : K) → has (of_list {R = R} xs) q ≡ list_any (eq_by_cmp R q) xs
  has-of_list [] q = has-nothing R q
  has-of_list (x ∷ xs) q = has-with_one (of_list xs) x q ∙ ap (λ b. eq_by_cmp R q x || b) (has-of_list xs q)

pub has-union : {K : Type 0} {R : K → K → Ordering} → IsTotalOrder R → (s t : FinSet R) (q : K) → has (union s t) q ≡ (has s q || has t q)
has-union {R = R} total s t q =
    has-of_list total (in_order s ++ in_order t) q ∙ any_append (eq_by_cmp R q) (in_order s) (in_order t)
    ∙ (λ i. sym (finite.contains_key-keys s q) i || sym (finite.contains_key-keys t q) i)

-- a set has what is among its keys
pub has-in_order : {K : Type 0} {R : K → K → Ordering} (s : FinSet R) (q : K) → has s q ≡ list_any (eq_by_cmp R q) (in_order s)
has-in_order s q = finite.contains_key-keys s q

-- ---- sets that answer alike

module _ {K : Type 0} {R : K → K → Ordering} (total : IsTotalOrder R) (exact : IsAntisymmetric R) where
  pub same_set : (s t : FinSet R) → ((q : K) → has s q ≡ has t q) → s ≡ t
  same_set s t alike = finite.same_map total exact s t (λ q. mark_of _ ∙ ap mark (alike q) ∙ sym (mark_of _))

-- ---- how many keys

pub size-len : {K : Type 0} {R : K → K → Ordering} (s : FinSet R) → size s ≡ finite.len s
size-len s = length-map (entries s) (λ e. e.0) ∙ sym (finite.len-entries s)

pub size-nothing : {K : Type 0} (R : K → K → Ordering) → size (nothing {R = R}) ≡ 0
size-nothing R = size-len nothing ∙ finite.len-empty R (Unit {0})

pub entries-nothing : {K : Type 0} (R : K → K → Ordering) → entries (nothing {R = R}) ≡ []
entries-nothing R = nil_from_length _ (sym (finite.len-entries nothing) ∙ finite.len-empty R (Unit {0}))

module _ {K : Type 0} {R : K → K → Ordering} (total : IsTotalOrder R) where
  pub size-with_one : (s : FinSet R) (x : K) → size (with_one s x) ≡ cond (has s x) (size s) (size s + 1)
  size-with_one s x =
      size-len (with_one s x) ∙ finite.len-insert total s x tt ∙ ap (λ n. cond (has s x) n (n + 1)) (sym (size-len s))

  pub size-without : (s : FinSet R) (x : K) → size (without s x) ≡ cond (has s x) (size s - 1) (size s)
  size-without s x =
      size-len (without s x) ∙ finite.len-remove total s x ∙ ap (λ n. cond (has s x) (n - 1) n) (sym (size-len s))

-- ---- what the tests say

pub is_nothing-Decides : {K : Type 0} {R : K → K → Ordering} (s : FinSet R) → Decides (is_nothing s) (s ≡ nothing)
is_nothing-Decides {R = R} s =
    let counts = Decides-eqb (size s) 0 in
    (λ so. finite.empty_of_len s (sym (size-len s) ∙ counts.0 so), λ is. counts.1 (ap size is ∙ size-nothing R))

pub are_disjoint-Decides : {K : Type 0} {R : K → K → Ordering} (s t : FinSet R) → Decides (are_disjoint s t) (common s t ≡ nothing)
are_disjoint-Decides s t = is_nothing-Decides (common s t)

module _ {K : Type 0} {R : K → K → Ordering} (total : IsTotalOrder R) (exact : IsAntisymmetric R) where
  pub minus-itself : (s : FinSet R) → minus s s ≡ nothing
  minus-itself s = same_set total exact _ _ (λ q. has-minus total s s q ∙ never_both (has s q) ∙ sym (has-nothing R q))

  pub nothing_left : (s t : FinSet R) → minus s t ≡ nothing → (q : K) → (has s q && not (has t q)) ≡ false
  nothing_left s t none q = sym (has-minus total s t q) ∙ ap (λ rest. has rest q) none ∙ has-nothing R q

  same_of_minus : (s t : FinSet R) → minus s t ≡ nothing → minus t s ≡ nothing → s ≡ t
  same_of_minus s t there back =
      same_set total exact s t (λ q. same_answer (has s q) (has t q) (nothing_left s t there q) (nothing_left t s back q))

  minus-same : (s t : FinSet R) → s ≡ t → is_nothing (minus s t) ≡ true
  minus-same s t is = (is_nothing-Decides (minus s t)).1 (ap (minus s) (sym is) ∙ minus-itself s)

  pub are_same-Decides : (s t : FinSet R) → Decides (are_same s t) (s ≡ t)
  are_same-Decides s t = (
    λ so. same_of_minus s t
        ((is_nothing-Decides (minus s t)).0 (first_so _ _ so))
        ((is_nothing-Decides (minus t s)).0 (second_so _ _ so)),
    λ is. ap (λ b. b && is_nothing (minus t s)) (minus-same s t is) ∙ minus-same t s (sym is),
  )

  -- two sets share nothing exactly where no key is in both
  pub common-nothing : (s t : FinSet R) → ((q : K) → has s q ≡ true → has t q ≡ false) → common s t ≡ nothing
  common-nothing s t apart =
      same_set total exact _ _ (λ q. has-common total s t q ∙ at_most_one (has s q) (has t q) (apart q) ∙ sym (has-nothing R q))
    where
      at_most_one : (a b : Bool) → (a ≡ true → b ≡ false) → (a && b) ≡ false
      at_most_one true b f = f refl
      at_most_one false b f = refl

  pub apart_of_common : (s t : FinSet R) → common s t ≡ nothing → (q : K) → has s q ≡ true → has t q ≡ false
  apart_of_common s t none q there =
      ap (λ b. b && has t q) (sym there) ∙ sym (has-common total s t q) ∙ ap (λ both. has both q) none ∙ has-nothing R q
