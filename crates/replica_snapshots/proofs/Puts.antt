-- Puts one behind the other.
use Rattle.std.proofs.Common.{◌≡◌, ℕ, suc, ◌+◌, ◌<◌, ◌≤◌, List, [], ◌∷◌, ◌++◌, length, take, drop, get_or, Some, None, Result, Ok, Err, All, refl, sym, ap, subst, ◌∙◌, append_assoc, length-append, add-one, arith, inl, inr}
use Rattle.std.specs.List.{flat_map, slice_get, AllByRecursion}
use Rattle.std.proofs.Math.Seq.{drop-cons}
use Rattle.std.proofs.lemmas.Bool.{cases_lt}
use Rattle.std.proofs.lemmas.Option.{slice_get_within, get_or_from_slice_get, slice_get-get_or}
use Rattle.std.proofs.lemmas.List.{take-take, take_at, append-nil, drop_all}
use Rattle.std.proofs.lemmas.List.Concat.{flat_map-cons}
use Rattle.std.proofs.lemmas.List.Elements.{All-from_recursion, recursion_from_All}
use Rattle.flex_wire.specs.Spelling.{array_count, FitsCount}
use Rattle.flex_wire.specs.Composed.{array, FitsArray}
use Rattle.replica_snapshots.specs.declared.fault.SnapshotFault.{SnapshotFault}
use Rattle.replica_snapshots.specs.Writing.{PutsUpToWhere}

-- the old bytes are still the first ones where those in between are
front_kept : (old bytes mid new : List ℕ) → mid ≡ old ++ bytes → take (length mid) new ≡ mid → take (length old) new ≡ old
front_kept old bytes mid new parts kept =
    let longer : length old ≤ length mid = omega (arith, ap length parts, length-append old bytes) in
    sym (take-take (length old) (length mid) new longer) ∙ (ap (take (length old)) (kept ∙ parts) ∙ take_at old bytes (length old) refl)

-- a put, and another behind it
pub both : {M N F G : Type 0} {s t old mid new : List ℕ} (r : Result (Unit {0}) SnapshotFault) → PutsUpToWhere (Ok tt) old mid M F s → PutsUpToWhere r mid new N G t
    → PutsUpToWhere r old new (M × N) (F × G) (s ++ t)
both {M} {N} {F} {G} {s} {t} {old} {mid} {new} (Ok u) one two = record {
  ok = two.ok ∙ (ap (λ (l : List ℕ). l ++ t) one.ok ∙ append_assoc old s t);
  fits = (one.fits, two.fits);
  err = tt;
  fitting = λ f. tt;
}
both {M} {N} {F} {G} {s} {t} {old} {mid} {new} (Err e) one two = record {
  ok = tt;
  fits = tt;
  err = front_kept old s mid new one.ok two.err;
  fitting = λ f. two.fitting f.1;
}

-- a put that stopped, and what was to come behind it
pub stopped : {M F : Type 0} {s old new : List ℕ} {e d : SnapshotFault} (N G : Type 0) (t : List ℕ) (r : Result (Unit {0}) SnapshotFault) → PutsUpToWhere (Err e) old new M F s → r ≡ Err d → d ≡ e
    → PutsUpToWhere r old new (M × N) (F × G) (s ++ t)
stopped {M} {F} {s} {old} {new} {e} {d} N G t r one is same =
    subst (λ (x : Result (Unit {0}) SnapshotFault). PutsUpToWhere x old new (M × N) (F × G) (s ++ t)) (sym (is ∙ ap Err same))
    (record { ok = tt; fits = tt; err = one.err; fitting = λ f. one.fitting f.0 })

-- the same put under another account of what fits
pub refitted : {M N F G : Type 0} {s old new : List ℕ} (r : Result (Unit {0}) SnapshotFault) → PutsUpToWhere r old new M F s → (F → G) → (N → M) → PutsUpToWhere r old new N G s
refitted (Ok u) put there back = record { ok = put.ok; fits = there put.fits; err = tt; fitting = λ g. tt }
refitted (Err e) put there back = record { ok = tt; fits = tt; err = put.err; fitting = λ g. put.fitting (back g) }

-- a put behind which nothing comes
pub last : {M F : Type 0} {s old new : List ℕ} (r : Result (Unit {0}) SnapshotFault) → PutsUpToWhere r old new M F s → PutsUpToWhere r old new M F (s ++ [])
last {M} {F} {s} {old} {new} r put = subst (PutsUpToWhere r old new M F) (sym (append-nil s)) put

-- ---- elements one behind the other

-- of all elements these are left, and those before them are put behind the old bytes
pub record AreLeft {V : Type 0} (M F : V → Type 0) (s : V → List ℕ) (old now : List ℕ) (all left : List V) : Type 0 where
  pub put : List ℕ
  pub items : now ≡ old ++ put
  pub parts : flat_map s all ≡ put ++ flat_map s left
  pub fits : AllByRecursion F left → AllByRecursion F all
  pub fitting : AllByRecursion M all → AllByRecursion M left

pub all_left : {V : Type 0} {M F : V → Type 0} {s : V → List ℕ} {old : List ℕ} {all left : List V} → left ≡ all → AreLeft M F s old old all left
all_left {V} {M} {F} {s} {old} {all} {left} same =
    subst (AreLeft M F s old old all) (sym same) (record { put = []; items = sym (append-nil old); parts = refl; fits = λ f. f; fitting = λ f. f })

-- an element was put
pub one_less : {V : Type 0} {M F : V → Type 0} {s : V → List ℕ} {old now new : List ℕ} {all left rest : List V} {v : V} → AreLeft M F s old now all left → left ≡ v ∷ rest → PutsUpToWhere (Ok tt) now new (M v) (F v) (s v) → AreLeft M F s old new all rest
one_less {V} {M} {F} {s} {old} {now} {new} {all} {left} {rest} {v} before next one =
    let so_far = subst (AreLeft M F s old now all) next before in
    record {
      put = so_far.put ++ s v;
      items = one.ok ∙ (ap (λ (l : List ℕ). l ++ s v) so_far.items ∙ append_assoc old so_far.put (s v));
      parts = so_far.parts ∙ (ap (λ (l : List ℕ). so_far.put ++ l) (flat_map-cons s v rest) ∙ sym (append_assoc so_far.put (s v) (flat_map s rest)));
      fits = λ f. so_far.fits (one.fits, f);
      fitting = λ f. (so_far.fitting f).1;
    }

-- an element could not be put
pub one_stopped : {V : Type 0} {M F : V → Type 0} {s : V → List ℕ} {old now new : List ℕ} {all left rest : List V} {v : V} {e d : SnapshotFault} (r : Result (Unit {0}) SnapshotFault) → AreLeft M F s old now all left → left ≡ v ∷ rest → PutsUpToWhere (Err e) now new (M v) (F v) (s v) → r ≡ Err d → d ≡ e → PutsUpToWhere r old new (All M all) (All F all) (flat_map s all)
one_stopped {V} {M} {F} {s} {old} {now} {new} {all} {left} {rest} {v} {e} {d} r before next one is same =
    let so_far = subst (AreLeft M F s old now all) next before in
    subst (λ (x : Result (Unit {0}) SnapshotFault). PutsUpToWhere x old new (All M all) (All F all) (flat_map s all)) (sym (is ∙ ap Err same))
    (record {
      ok = tt;
      fits = tt;
      err = front_kept old so_far.put now new so_far.items one.err;
      fitting = λ f. one.fitting (so_far.fitting (recursion_from_All M all f)).0;
    })

-- all elements were put
pub none_left : {V : Type 0} {M F : V → Type 0} {s : V → List ℕ} {old now : List ℕ} {all left : List V} → AreLeft M F s old now all left → left ≡ [] → PutsUpToWhere (Ok tt) old now (All M all) (All F all) (flat_map s all)
none_left {V} {M} {F} {s} {old} {now} {all} {left} before none =
    let so_far = subst (AreLeft M F s old now all) none before in
    record {
      ok = so_far.items ∙ ap (λ (l : List ℕ). old ++ l) (sym (so_far.parts ∙ append-nil so_far.put));
      fits = All-from_recursion F all (so_far.fits tt);
      err = tt;
      fitting = λ f. tt;
    }

-- ---- arrays

module _ {V : Type 0} (M F : V → Type 0) (s : V → List ℕ) (vs : List V) where
  -- the number of elements, and the elements behind it
  pub array_put : {old mid new : List ℕ} {n : ℕ} (r : Result (Unit {0}) SnapshotFault) → n ≡ length vs → PutsUpToWhere (Ok tt) old mid (FitsCount n) (FitsCount n) (array_count n) → PutsUpToWhere r mid new (All M vs) (All F vs) (flat_map s vs) → PutsUpToWhere r old new (FitsArray M vs) (FitsArray F vs) (array s vs)
  array_put {old} {mid} r count one two =
      both r (subst (λ (k : ℕ). PutsUpToWhere (Ok tt) old mid (FitsCount k) (FitsCount k) (array_count k)) count one) two

  pub array_stopped : {old new : List ℕ} {n : ℕ} {e d : SnapshotFault} (r : Result (Unit {0}) SnapshotFault) → n ≡ length vs → PutsUpToWhere (Err e) old new (FitsCount n) (FitsCount n) (array_count n) → r ≡ Err d → d ≡ e → PutsUpToWhere r old new (FitsArray M vs) (FitsArray F vs) (array s vs)
  array_stopped {old} {new} {n} {e} r count one is same =
      stopped (All M vs) (All F vs) (flat_map s vs) r (subst (λ (k : ℕ). PutsUpToWhere (Err e) old new (FitsCount k) (FitsCount k) (array_count k)) count one) is same

none_follow : {V : Type 0} (M F : V → Type 0) (s : V → List ℕ) {old new : List ℕ} (r : Result (Unit {0}) SnapshotFault) → PutsUpToWhere r old new (FitsCount 0) (FitsCount 0) (array_count 0) → PutsUpToWhere r old new (FitsArray M []) (FitsArray F []) (array s [])
none_follow M F s {old} {new} (Ok u) one = record {
  ok = one.ok ∙ ap (λ (l : List ℕ). old ++ l) (sym (append-nil (array_count 0)));
  fits = (one.fits, All-from_recursion F [] tt);
  err = tt;
  fitting = λ f. tt;
}
none_follow M F s (Err e) one = record { ok = tt; fits = tt; err = one.err; fitting = λ f. one.fitting f.0 }

-- no elements
pub array_of_none : {V : Type 0} (M F : V → Type 0) (s : V → List ℕ) (vs : List V) {old new : List ℕ} (r : Result (Unit {0}) SnapshotFault) → vs ≡ [] → PutsUpToWhere r old new (FitsCount 0) (FitsCount 0) (array_count 0) → PutsUpToWhere r old new (FitsArray M vs) (FitsArray F vs) (array s vs)
array_of_none {V} M F s vs {old} {new} r none one =
    subst (λ (l : List V). PutsUpToWhere r old new (FitsArray M l) (FitsArray F l) (array s l)) (sym none) (none_follow M F s r one)

-- ---- what is left of a list

pub next_of_slice : {X : Type 0} (xs : List X) (i : ℕ) (d x : X) → i < length xs → x ≡ get_or xs i d → drop i xs ≡ x ∷ drop (i + 1) xs
next_of_slice {X} xs i d x lt is = rw add-one (drop-cons xs i d lt ∙ ap (λ (y : X). y ∷ drop (suc i) xs) (sym is))

pub next_found : {X : Type 0} (xs : List X) (i : ℕ) (x : X) → Some x ≡ slice_get xs i → drop i xs ≡ x ∷ drop (i + 1) xs
next_found xs i x is = next_of_slice xs i x x (slice_get_within xs i x (sym is)) (sym (get_or_from_slice_get xs i x x (sym is)))

pub none_found : {X : Type 0} (xs : List X) (i : ℕ) → None ≡ slice_get xs i → drop i xs ≡ []
none_found [] i is = drop_all i [] (omega arith)
none_found (x ∷ xs) i is =
    elim (cases_lt i (length (x ∷ xs))) [
      | inl lt ↦ let there = slice_get-get_or (x ∷ xs) i x lt in absurd cc
      | inr le ↦ drop_all i (x ∷ xs) le
    ]
