-- The numbers of members, in the order of the ids.
use Rattle.std.proofs.Common.{◌≡◌, ℕ, suc, ◌+◌, ◌<◌, ◌≤◌, Bool, true, false, cond, not, ◌&&◌, ◌||◌, ◌==◌, List, [], ◌∷◌, length, get_or, slice_index_or, refl, sym, ap, ◌∙◌, arith, Option, Some, None, is_some, Result, Ok, Err, true≢false, inl, inr}
use Rattle.std.specs.declared.cmp.Ordering.TheVariants.{Less, Equal}
use Rattle.std.specs.List.{AllByRecursion, insert, list_any, remove}
use Rattle.std.specs.List.Sorted.{IsBinarySearchResult, IsSearchInRange, IsStrictlySortedBy}
use Rattle.std.specs.Option.{option_map, option_map_or}
use Rattle.std.specs.Ordering.{eq_by_cmp, is_eq, is_lt, on, ordering_reverse}
use Rattle.std.specs.Cmp.{Equal-is, eq_by_cmp_equiv, on_total, tied_itself}
use Rattle.std.proofs.lemmas.Bool.{cases_lt}
use Rattle.std.proofs.lemmas.Bool.Decides.{Decides-eqb}
use Rattle.std.proofs.lemmas.List.Folds.{list_any_at}
use Rattle.std.proofs.lemmas.List.Sorted.{list_any-IsPermutation, IsPermutation-insert, IsPermutation-remove, searchable_from_sorted}
use Rattle.std.proofs.lemmas.Map.Keys.{IsDistinct-from_sorted, IsDistinct-head, IsDistinct-IsPermutation, Less-from_sorted}
use Rattle.slab.specs.Slab.{Updates, get}
use Rattle.group_types.specs.Text.{Text, text_cmp}
use Rattle.group_types.specs.Partition.{Partitions}
use Rattle.group_types.proofs.BoolLemmas.{taken_away}
use Rattle.group_types.proofs.Orders.{text_cmp_total, text_cmp-IsAntisymmetric, text_cmp-itself}
use Rattle.group_types.proofs.RisingLists.{sorted-insert, sorted-remove}
use Rattle.group_reconcile.specs.declared.members.Member.{Member}
use Rattle.group_reconcile.specs.Members.{Changes, IsGap, IsIdOrder, IsIdOrderBut, IsNumberOf, IsPlace, MemberTable, RenamesMember, by_id, has_id, id_of, with_id, with_parts}
use Rattle.group_reconcile.proofs.Bools.{or_second}

-- ---- numbers of a list

abbrev among : ℕ → List ℕ → Bool
among k ns = list_any (λ n. k == n) ns

itself : (k : ℕ) → (k == k) ≡ true
itself k = (Decides-eqb k k).1 refl

-- a number that is among others has a place
place_in : (k : ℕ) (ns : List ℕ) → among k ns ≡ true → (i : ℕ) × (i < length ns) × ((d : ℕ) → get_or ns i d ≡ k)
place_in k [] there = absurd (true≢false (sym there))
place_in k (n ∷ ns) there =
    elim (k == n) as (λ b. (k == n) ≡ b → (b || among k ns) ≡ true → (i : ℕ) × (i < length (n ∷ ns)) × ((d : ℕ) → get_or (n ∷ ns) i d ≡ k)) [
      | true ↦ λ is there. (0, omega arith, λ d. sym ((Decides-eqb k n).0 is))
      | false ↦ λ is there. let later = place_in k ns there in (suc later.0, omega (arith, later.1), later.2)
    ] refl there

at_place : (ns : List ℕ) (i n : ℕ) → i < length ns → n ≡ get_or ns i n → among n ns ≡ true
at_place ns i n within is = list_any_at (λ k. n == k) ns i n within (ap (λ k. n == k) (sym is) ∙ itself n)

-- ---- numbers that rise by their members' ids

less_differs : (a b : Text) → text_cmp a b ≡ Less → a ≡ b → ⊥
less_differs a b less same = let tie = ap (text_cmp a) (sym same) ∙ tied_itself text_cmp_total a in cc

module _ (f : ℕ → Text) (ns : List ℕ) (rise : IsStrictlySortedBy (on f text_cmp) ns) where
  before : (i j k l : ℕ) → i < j → j < length ns → get_or ns i 0 ≡ k → get_or ns j 0 ≡ l → f k ≡ f l → ⊥
  before i j k l less within is_k is_l same =
      less_differs (f (get_or ns i 0)) (f (get_or ns j 0)) (Less-from_sorted (on f text_cmp) ns i j 0 rise less within) (ap f is_k ∙ same ∙ ap f (sym is_l))

  -- two of them with one id are one
  same_number : (k l : ℕ) → among k ns ≡ true → among l ns ≡ true → f k ≡ f l → k ≡ l
  same_number k l in_k in_l same =
      let a = place_in k ns in_k in
      let b = place_in l ns in_l in
      elim (cases_lt a.0 b.0) [
        | inl less ↦ absurd (before a.0 b.0 k l less b.1 (a.2 0) (b.2 0) same)
        | inr more ↦ elim (cases_lt b.0 a.0) [
          | inl less ↦ absurd (before b.0 a.0 l k less a.1 (b.2 0) (a.2 0) (sym same))
          | inr other ↦ let one : a.0 ≡ b.0 = omega arith in sym (a.2 0) ∙ ap (λ i. get_or ns i 0) one ∙ b.2 0
        ]
      ]

  none_same : (n : ℕ) (ks : List ℕ) → AllByRecursion (λ k. eq_by_cmp (on f text_cmp) n k ≡ false) ks → among n ks ≡ false
  none_same n [] apart = refl
  none_same n (k ∷ ks) apart =
      elim (n == k) as (λ b. (n == k) ≡ b → (b || among n ks) ≡ false) [
        | true ↦ λ same.
            let tie : eq_by_cmp (on f text_cmp) n k ≡ true = ap (λ l. eq_by_cmp text_cmp (f n) (f l)) (sym ((Decides-eqb n k).0 same)) ∙ ap is_eq (text_cmp-itself (f n)) in
            absurd (true≢false (sym tie ∙ apart.0))
        | false ↦ λ same. none_same n ks apart.1
      ] refl

  -- one that was taken out isn't among the others any more
  once : (n i : ℕ) → i < length ns → n ≡ get_or ns i n → among n (remove ns i) ≡ false
  once n i within is =
      none_same n (remove ns i)
      (IsDistinct-head (eq_by_cmp (on f text_cmp)) n (remove ns i)
      (IsDistinct-IsPermutation (eq_by_cmp (on f text_cmp)) (eq_by_cmp_equiv (on_total f text_cmp_total)).symm ns (n ∷ remove ns i)
      (IsPermutation-remove ns i n within is) (IsDistinct-from_sorted (on f text_cmp) ns rise)))

  among-remove : (n i : ℕ) → i < length ns → n ≡ get_or ns i n → (k : ℕ) → among k (remove ns i) ≡ (not (k == n) && among k ns)
  among-remove n i within is k =
      taken_away (k == n) (among k (remove ns i)) (λ so. ap (λ l. among l (remove ns i)) ((Decides-eqb k n).0 so) ∙ once n i within is)
      ∙ ap (λ b. not (k == n) && b) (sym (list_any-IsPermutation (λ l. k == l) ns (n ∷ remove ns i) (IsPermutation-remove ns i n within is)))

-- the same ids rise alike
module _ (f g : ℕ → Text) where
  less-same : (n : ℕ) (ns : List ℕ) → f n ≡ g n → ((k : ℕ) → among k ns ≡ true → f k ≡ g k) → AllByRecursion (λ k. on f text_cmp n k ≡ Less) ns → AllByRecursion (λ k. on g text_cmp n k ≡ Less) ns
  less-same n [] here same all = tt
  less-same n (k ∷ ks) here same all = (
    (λ i. text_cmp (sym here i) (sym (same k (ap (λ b. b || among k ks) (itself k))) i)) ∙ all.0,
    less-same n ks here (λ l there. same l (or_second (l == k) (among l ks) there)) all.1,
  )

  rise-same : (ns : List ℕ) → ((k : ℕ) → among k ns ≡ true → f k ≡ g k) → IsStrictlySortedBy (on f text_cmp) ns → IsStrictlySortedBy (on g text_cmp) ns
  unfolding IsStrictlySortedBy
  rise-same [] same rise = tt
  rise-same (n ∷ ns) same rise = (
    less-same n ns (same n (ap (λ b. b || among n ns) (itself n))) (λ k there. same k (or_second (k == n) (among k ns) there)) rise.0,
    rise-same ns (λ k there. same k (or_second (k == n) (among k ns) there)) rise.1,
  )

-- ---- a search by halves

pub IsPlace-searched : (ms : MemberTable) (id : Text) (ns : List ℕ) (r : Result ℕ ℕ) → IsStrictlySortedBy (by_id ms) ns → IsSearchInRange r (length ns)
    → IsBinarySearchResult (λ k. text_cmp (id_of ms k) id) ns r → IsPlace ms id ns r
IsPlace-searched ms id ns (Ok i) rise bound found = (bound, λ d. text_cmp-IsAntisymmetric _ _ (found d))
IsPlace-searched ms id ns (Err i) rise bound found = (
  bound,
  found (searchable_from_sorted text_cmp_total (id_of ms) ns id (λ k d from below.
      ap is_lt (text_cmp_total.antisymm (id_of ms (get_or ns (k + 1) d)) (id_of ms (get_or ns k d)) ∙ ap ordering_reverse (Less-from_sorted (by_id ms) ns k (k + 1) d rise (omega arith) below)))),
)

-- ---- the number of a member

same_answers : (a b : Bool) → (a ≡ true → b ≡ true) → (b ≡ true → a ≡ true) → a ≡ b
same_answers true b there back = sym (there refl)
same_answers false true there back = back refl
same_answers false false there back = refl

pub has_id-is : (ms : MemberTable) (id : Text) (k : ℕ) → has_id ms id k ≡ true → (is_some (get ms k) ≡ true) × (id_of ms k ≡ id)
has_id-is ms id k has = at (get ms k) has
  where
    at : (o : Option Member) → option_map_or (λ m. eq_by_cmp text_cmp id m.id) o false ≡ true → (is_some o ≡ true) × (option_map_or (λ m. m.id) o [] ≡ id)
    at None has = absurd (true≢false (sym has))
    at (Some m) has = (refl, sym (text_cmp-IsAntisymmetric id m.id ((Equal-is (text_cmp id m.id)).0 has)))

pub has_id-of : (ms : MemberTable) (id : Text) (k : ℕ) → is_some (get ms k) ≡ true → id_of ms k ≡ id → has_id ms id k ≡ true
has_id-of ms id k there is = at (get ms k) there is
  where
    at : (o : Option Member) → is_some o ≡ true → option_map_or (λ m. m.id) o [] ≡ id → option_map_or (λ m. eq_by_cmp text_cmp id m.id) o false ≡ true
    at None there is = absurd (true≢false (sym there))
    at (Some m) there is = ap (eq_by_cmp text_cmp id) is ∙ ap is_eq (text_cmp-itself id)

module _ (ms : MemberTable) (ns : List ℕ) (order : IsIdOrder ms ns) where
  pub IsNumberOf-found : (id : Text) (i n : ℕ) → IsPlace ms id ns (Ok i) → n ≡ get_or ns i n → IsNumberOf ms id (Some n)
  IsNumberOf-found id i n place is k =
      let within = place.0 in
      let among_n = at_place ns i n within is in
      let named : id_of ms n ≡ id = ap (id_of ms) is ∙ place.1 n in
      same_answers (has_id ms id k) (k == n)
      (λ has. let known = has_id-is ms id k has in (Decides-eqb k n).1 (same_number (id_of ms) ns order.rise k n (order.all k ∙ known.0) among_n (known.1 ∙ sym named)))
      (λ same. ap (has_id ms id) ((Decides-eqb k n).0 same) ∙ has_id-of ms id n (sym (order.all n) ∙ among_n) named)

  -- no number before the gap or after it has a member with the id
  absent : (id : Text) (i : ℕ) → IsPlace ms id ns (Err i) → (k : ℕ) → among k ns ≡ true → id_of ms k ≡ id → ⊥
  absent id i place k there is =
      let a = place_in k ns there in
      let tie : text_cmp (id_of ms (get_or ns a.0 0)) id ≡ Equal = ap (λ l. text_cmp (id_of ms l) id) (a.2 0) ∙ ap (λ x. text_cmp x id) is ∙ text_cmp-itself id in
      elim (cases_lt a.0 i) [
        | inl below ↦ let less = place.1.0 a.0 0 (omega arith) below in cc
        | inr above ↦ let greater = place.1.1 a.0 0 above a.1 in cc
      ]

  pub IsNumberOf-absent : (id : Text) (i : ℕ) → IsPlace ms id ns (Err i) → IsNumberOf ms id None
  IsNumberOf-absent id i place k =
      same_answers (has_id ms id k) false
      (λ has. let known = has_id-is ms id k has in absurd (absent id i place k (order.all k ∙ known.0) known.1))
      (λ never. absurd (true≢false (sym never)))

-- ---- the order after a change

-- what a slab says of a write is what `Changes` says
pub Changes-of : (ms us : MemberTable) (n : ℕ) (member : Option Member) → Updates ms us n member → Changes ms us n member
Changes-of ms us n member updates k = at (k == n) refl
  where
    at : (b : Bool) → (k == n) ≡ b → get us k ≡ cond b member (get ms k)
    at true same = ap (get us) ((Decides-eqb k n).0 same) ∙ updates.changed
    at false other = updates.others k (λ is. true≢false (sym ((Decides-eqb k n).1 is) ∙ other))

-- where each number has the id that it had
pub IsIdOrder-same : (ms us : MemberTable) (ns : List ℕ) → ((k : ℕ) → (id_of ms k ≡ id_of us k) × (is_some (get ms k) ≡ is_some (get us k))) → IsIdOrder ms ns → IsIdOrder us ns
IsIdOrder-same ms us ns same order = record {
  rise = rise-same (id_of ms) (id_of us) ns (λ k there. (same k).0) order.rise;
  all = λ k. order.all k ∙ (same k).1;
}

pub IsIdOrder-empty : (ms : MemberTable) → ms.slots ≡ [] → IsIdOrder ms []
unfolding IsStrictlySortedBy
IsIdOrder-empty ms none = record { rise = tt; all = λ k. sym (ap (λ slots. is_some (slice_index_or slots k None)) none) }

module _ (ms : MemberTable) where
  pub IsIdOrderBut-remove : (ns : List ℕ) (i n : ℕ) → IsIdOrder ms ns → i < length ns → n ≡ get_or ns i n → IsIdOrderBut ms n (remove ns i)
  IsIdOrderBut-remove ns i n order within is = record {
    rise = sorted-remove (by_id ms) ns i order.rise;
    others = λ k. among-remove (id_of ms) ns order.rise n i within is k ∙ ap (λ b. not (k == n) && b) (order.all k);
  }

  pub IsIdOrderBut-vacant : (ns : List ℕ) (n : ℕ) → IsIdOrder ms ns → get ms n ≡ None → IsIdOrderBut ms n ns
  IsIdOrderBut-vacant ns n order vacant = record {
    rise = order.rise;
    others = λ k. order.all k ∙ at k (k == n) refl;
  }
    where
      at : (k : ℕ) (b : Bool) → (k == n) ≡ b → is_some (get ms k) ≡ (not b && is_some (get ms k))
      at k true same = ap is_some (ap (get ms) ((Decides-eqb k n).0 same) ∙ vacant)
      at k false same = refl

module _ (ms us : MemberTable) (n : ℕ) (ns : List ℕ) (order : IsIdOrderBut ms n ns) where
  -- the others keep their ids
  kept_id : (member : Option Member) → Changes ms us n member → (k : ℕ) → among k ns ≡ true → id_of ms k ≡ id_of us k
  kept_id member changes k there = at (k == n) refl
    where
      at : (b : Bool) → (k == n) ≡ b → id_of ms k ≡ id_of us k
      at true same = absurd (true≢false (sym there ∙ order.others k ∙ ap (λ b. not b && is_some (get ms k)) same))
      at false same = ap (λ o. option_map_or (λ m. m.id) o []) (sym (changes k ∙ ap (λ b. cond b member (get ms k)) same))

  pub IsIdOrder-without : Changes ms us n None → IsIdOrder us ns
  IsIdOrder-without changes = record {
    rise = rise-same (id_of ms) (id_of us) ns (kept_id None changes) order.rise;
    all = λ k. order.others k ∙ at (k == n) (get ms k) ∙ ap is_some (sym (changes k));
  }
    where
      at : (b : Bool) (o : Option Member) → (not b && is_some o) ≡ is_some (cond b None o)
      at true o = refl
      at false o = refl

  -- a member is put in where its id goes
  pub IsIdOrder-insert : (m : Member) (i : ℕ) → Changes ms us n (Some m) → i ≤ length ns → IsGap ms m.id ns i → IsIdOrder us (insert ns i n)
  IsIdOrder-insert m i changes within gap = record {
    rise = sorted-insert (on_total (id_of us) text_cmp_total) n ns i (
      λ k d low high. same_order k d (omega arith) ∙ gap.0 k d low high,
      λ k d low high. same_order k d high ∙ gap.1 k d low high,
    ) (rise-same (id_of ms) (id_of us) ns (kept_id (Some m) changes) order.rise);
    all = λ k. sym (list_any-IsPermutation (λ l. k == l) (n ∷ ns) (insert ns i n) (IsPermutation-insert ns i n)) ∙ ap (λ b. (k == n) || b) (order.others k) ∙ at (k == n) (get ms k) ∙ ap is_some (sym (changes k));
  }
    where
      at : (b : Bool) (o : Option Member) → (b || (not b && is_some o)) ≡ is_some (cond b (Some m) o)
      at true o = refl
      at false o = refl

      named : id_of us n ≡ m.id
      named = ap (λ o. option_map_or (λ m. m.id) o []) (changes n ∙ ap (λ b. cond b (Some m) (get ms n)) (itself n))

      same_order : (k d : ℕ) → k < length ns → text_cmp (id_of us (get_or ns k d)) (id_of us n) ≡ text_cmp (id_of ms (get_or ns k d)) m.id
      same_order k d below i =
          text_cmp (sym (kept_id (Some m) changes (get_or ns k d) (list_any_at (λ l. get_or ns k d == l) ns k d below (itself (get_or ns k d)))) i) (named i)

-- ---- numbers after a change

-- no member of the list has an id that no member has
pub no_place : (ms : MemberTable) (n : ℕ) (ns : List ℕ) (id : Text) (i : ℕ) → IsIdOrderBut ms n ns → IsNumberOf ms id None → IsPlace ms id ns (Ok i) → ⊥
no_place ms n ns id i order none place =
    let k = get_or ns i 0 in
    let there : among k ns ≡ true = list_any_at (λ l. k == l) ns i 0 place.0 (itself k) in
    true≢false (sym (has_id-of ms id k (second (k == n) (is_some (get ms k)) (sym (order.others k) ∙ there)) (place.1 0)) ∙ none k)
  where
    second : (a b : Bool) → (not a && b) ≡ true → b ≡ true
    second true b so = absurd (true≢false (sym so))
    second false b so = so

pub IsNumberOf-added : (ms us : MemberTable) (n : ℕ) (m : Member) (id : Text) → Changes ms us n (Some m) → m.id ≡ id → IsNumberOf ms id None → IsNumberOf us id (Some n)
IsNumberOf-added ms us n m id changes named none k = ap (λ o. option_map_or (λ m. eq_by_cmp text_cmp id m.id) o false) (changes k) ∙ at (k == n)
  where
    at : (b : Bool) → option_map_or (λ m. eq_by_cmp text_cmp id m.id) (cond b (Some m) (get ms k)) false ≡ b
    at true = ap (eq_by_cmp text_cmp id) named ∙ ap is_eq (text_cmp-itself id)
    at false = none k

pub RenamesMember-of : (ms us : MemberTable) (n : ℕ) (old new : Text) → IsNumberOf ms old (Some n) → Changes ms us n (option_map (with_id new) (get ms n)) → RenamesMember ms us old new
RenamesMember-of ms us n old new of_old changes k =
    changes k ∙ at (k == n) refl ∙ ap (λ b. cond b (option_map (with_id new) (get ms k)) (get ms k)) (sym (of_old k))
  where
    at : (b : Bool) → (k == n) ≡ b → cond b (option_map (with_id new) (get ms n)) (get ms k) ≡ cond b (option_map (with_id new) (get ms k)) (get ms k)
    at true same = ap (λ l. option_map (with_id new) (get ms l)) (sym ((Decides-eqb k n).0 same))
    at false other = refl

pub RenamesMember-absent : (ms : MemberTable) (old new : Text) → IsNumberOf ms old None → RenamesMember ms ms old new
RenamesMember-absent ms old new none k = ap (λ b. cond b (option_map (with_id new) (get ms k)) (get ms k)) (sym (none k))

-- other partitions leave the order
pub IsIdOrder-parts : (ms us : MemberTable) (n : ℕ) (m : Member) (parts : Partitions) (ns : List ℕ) → get ms n ≡ Some m → Changes ms us n (Some (with_parts parts m)) → IsIdOrder ms ns → IsIdOrder us ns
IsIdOrder-parts ms us n m parts ns was changes order = IsIdOrder-same ms us ns (λ k. at k (k == n) refl) order
  where
    at : (k : ℕ) (b : Bool) → (k == n) ≡ b → (id_of ms k ≡ id_of us k) × (is_some (get ms k) ≡ is_some (get us k))
    at k true same =
        let before : get ms k ≡ Some m = ap (get ms) ((Decides-eqb k n).0 same) ∙ was in
        let after : get us k ≡ Some (with_parts parts m) = changes k ∙ ap (λ b. cond b (Some (with_parts parts m)) (get ms k)) same in
        (ap (λ o. option_map_or (λ m. m.id) o []) before ∙ sym (ap (λ o. option_map_or (λ m. m.id) o []) after), ap is_some before ∙ sym (ap is_some after))
    at k false other =
        let as_before : get us k ≡ get ms k = changes k ∙ ap (λ b. cond b (Some (with_parts parts m)) (get ms k)) other in
        (ap (λ o. option_map_or (λ m. m.id) o []) (sym as_before), ap is_some (sym as_before))
