-- Lemmas on what puts do to the bytes written so far.
use Rattle.std.proofs.Common.{◌≡◌, ℕ, ◌+◌, ◌<◌, ◌≤◌, List, [], ◌∷◌, ◌++◌, length, map, take, get_or, Result, Err, refl, sym, ap, subst, ◌∙◌, append_assoc, length-append, arith}
use Rattle.std.specs.Prelude.{OnErr, is_ok, vec_len, vec_capacity, if◌then◌else◌}
use Rattle.std.specs.Global.{Vec}
use Rattle.std.specs.List.{flat_map}
use Rattle.std.proofs.lemmas.List.{take-take, take_at, map_push, append-nil}
use Rattle.std.proofs.lemmas.List.Folds.{length-flat_map-take, flat_map-map}
use Rattle.std.proofs.lemmas.Grind.{take_at_read, flat_map-append}
use Rattle.std.proofs.lemmas.List.Concat.{flat_map-cons}
use Rattle.flex_wire.specs.Writing.{Appends, AppendsUpTo}

-- bytes that were appended are the spelling
pub appends_by : {X E : Type 0} (result : Result X E) (old new : Vec ℕ) (bytes spelling : List ℕ) → bytes ≡ spelling → new.items ≡ (if is_ok result then old.items ++ bytes else old.items) → OnErr result (vec_capacity old < vec_len old + length bytes) → vec_capacity old ≤ vec_capacity new → Appends result old new spelling
appends_by result old new bytes spelling same items room capacity =
    subst (Appends result old new) same (record { items = items; room = room; capacity = capacity })

-- what has been put so far
pub record HasPut (old new : Vec ℕ) (bytes : List ℕ) : Type 0 where
  pub items : new.items ≡ old.items ++ bytes
  pub capacity : vec_capacity old ≤ vec_capacity new

-- the spellings of the elements up to one more
spelled_more : {A V : Type 0} (spelling : V → List ℕ) (view : A → V) (xs : List A) (i : ℕ) (d : A) → i < length xs → flat_map spelling (map view (take (i + 1) xs)) ≡ flat_map spelling (map view (take i xs)) ++ spelling (view (get_or xs i d))
spelled_more {A} spelling view xs i d lt =
    let last = view (get_or xs i d) in
    ap (λ (l : List A). flat_map spelling (map view l)) (take_at_read xs i d lt).1
    ∙ (ap (flat_map spelling) (map_push view (take i xs) (get_or xs i d))
    ∙ (flat_map-append spelling (map view (take i xs)) (last ∷ [])
    ∙ ap (λ (l : List ℕ). flat_map spelling (map view (take i xs)) ++ l) (flat_map-cons spelling last [] ∙ append-nil (spelling last))))

-- the spellings so far and the next are no longer than the whole
spelled_within : {A V : Type 0} (spelling : V → List ℕ) (view : A → V) (xs : List A) (i : ℕ) (d : A) → i < length xs → length (flat_map spelling (map view (take i xs))) + length (spelling (view (get_or xs i d))) ≤ length (flat_map spelling (map view xs))
spelled_within {A} spelling view xs i d lt =
    rw (flat_map-map spelling view (take i xs), flat_map-map spelling view xs) (length-flat_map-take (λ (x : A). spelling (view x)) xs i d lt)

pub put_more : {A V : Type 0} (spelling : V → List ℕ) (view : A → V) (xs : List A) (i : ℕ) (d : A) (old mid new : Vec ℕ) → i < length xs → HasPut old mid (flat_map spelling (map view (take i xs))) → new.items ≡ mid.items ++ spelling (view (get_or xs i d)) → vec_capacity mid ≤ vec_capacity new → HasPut old new (flat_map spelling (map view (take (i + 1) xs)))
put_more spelling view xs i d old mid new lt so_far items capacity = record {
  items = items ∙ (ap (λ (l : List ℕ). l ++ spelling (view (get_or xs i d))) so_far.items ∙ (append_assoc old.items (flat_map spelling (map view (take i xs))) (spelling (view (get_or xs i d))) ∙ ap (λ (l : List ℕ). old.items ++ l) (sym (spelled_more spelling view xs i d lt))));
  capacity = omega (arith, so_far.capacity, capacity);
}

front_kept : (old bytes mid new : List ℕ) → mid ≡ old ++ bytes → take (length mid) new ≡ mid → take (length old) new ≡ old
front_kept old bytes mid new parts kept =
    let longer : length old ≤ length mid = omega (arith, ap length parts, length-append old bytes) in
    sym (take-take (length old) (length mid) new longer) ∙ (ap (take (length old)) (kept ∙ parts) ∙ take_at old bytes (length old) refl)

pub put_stopped : {A V E : Type 0} (spelling : V → List ℕ) (view : A → V) (xs : List A) (i : ℕ) (d : A) (old mid new : Vec ℕ) (e : E) → i < length xs → HasPut old mid (flat_map spelling (map view (take i xs))) → take (length mid.items) new.items ≡ mid.items → vec_capacity mid < vec_len mid + length (spelling (view (get_or xs i d))) → vec_capacity mid ≤ vec_capacity new → AppendsUpTo {X = Unit {0}} (Err e) old new (flat_map spelling (map view xs))
put_stopped spelling view xs i d old mid new e lt so_far kept room capacity = record {
  ok = tt;
  err = front_kept old.items (flat_map spelling (map view (take i xs))) mid.items new.items so_far.items kept;
  room =
      let len : length mid.items ≡ length old.items + length (flat_map spelling (map view (take i xs))) = ap length so_far.items ∙ length-append old.items (flat_map spelling (map view (take i xs))) in
      omega (arith, so_far.capacity, room, len, spelled_within spelling view xs i d lt);
  capacity = omega (arith, so_far.capacity, capacity);
}
