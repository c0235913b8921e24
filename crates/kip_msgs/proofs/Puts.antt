-- Puts one after the other, each of which appends a part of the whole spelling.
use Rattle.std.proofs.Common.{◌≡◌, ℕ, suc, add-one, ◌+◌, ◌<◌, ◌≤◌, List, [], ◌∷◌, ◌++◌, length, take, drop, get_or, Result, Ok, Err, refl, sym, ap, ◌∙◌, append_assoc, length-append, map, All, vec_len, vec_capacity, arith}
use Rattle.std.specs.Global.{Vec}
use Rattle.std.specs.List.{flat_map}
use Rattle.std.proofs.lemmas.List.{append-nil, take_at, drop_all}
use Rattle.std.proofs.lemmas.List.Concat.{flat_map-cons}
use Rattle.std.proofs.lemmas.List.Elements.{All-nil, All-cons, All-head, All-tail}
use Rattle.std.proofs.Math.Seq.{drop-cons}
use Rattle.flex_wire.specs.Writing.{Appends, AppendsUpTo}

-- now holds old and the whole but for the rest
pub record HasPut (old now : Vec ℕ) (whole rest : List ℕ) : Type 0 where
  pub put : List ℕ
  pub items : now.items ≡ old.items ++ put
  pub parts : whole ≡ put ++ rest
  pub capacity : vec_capacity old ≤ vec_capacity now

pub start : (old : Vec ℕ) (whole : List ℕ) → HasPut old old whole whole
start old whole = record { put = []; items = sym (append-nil old.items); parts = refl; capacity = omega arith }

-- a part was put
pub step : {X E : Type 0} {x : X} {old now new : Vec ℕ} {whole part rest : List ℕ} → HasPut old now whole (part ++ rest) → Appends {X = X} {E = E} (Ok x) now new part → HasPut old new whole rest
step {old = old} {now} {new} {whole} {part} {rest} so_far a = record {
  put = so_far.put ++ part;
  items = a.items ∙ (ap (λ (l : List ℕ). l ++ part) so_far.items ∙ append_assoc old.items so_far.put part);
  parts = so_far.parts ∙ sym (append_assoc so_far.put part rest);
  capacity = omega (arith, so_far.capacity, a.capacity);
}

pub step_up_to : {X E : Type 0} {x : X} {old now new : Vec ℕ} {whole part rest : List ℕ} → HasPut old now whole (part ++ rest) → AppendsUpTo {X = X} {E = E} (Ok x) now new part → HasPut old new whole rest
step_up_to {old = old} {now} {new} {whole} {part} {rest} so_far a = record {
  put = so_far.put ++ part;
  items = a.ok ∙ (ap (λ (l : List ℕ). l ++ part) so_far.items ∙ append_assoc old.items so_far.put part);
  parts = so_far.parts ∙ sym (append_assoc so_far.put part rest);
  capacity = omega (arith, so_far.capacity, a.capacity);
}

-- there was no room for a part, so there was none for the whole
no_room : (old now : Vec ℕ) (whole part rest : List ℕ) → HasPut old now whole (part ++ rest) → vec_capacity now < vec_len now + length part → vec_capacity old < vec_len old + length whole
no_room old now whole part rest so_far full =
    let a = ap length so_far.items ∙ length-append old.items so_far.put in
    let b = ap length so_far.parts ∙ (length-append so_far.put (part ++ rest) ∙ ap (λ (n : ℕ). length so_far.put + n) (length-append part rest)) in
    omega (arith, a, b, so_far.capacity, old.ok.0, now.ok.0)

-- a part was not put
pub stop : {X Y E F : Type 0} {e : E} {f : F} {old now new : Vec ℕ} {whole part : List ℕ} (rest : List ℕ) → HasPut old now whole (part ++ rest) → Appends {X = X} {E = E} (Err e) now new part → AppendsUpTo {X = Y} {E = F} (Err f) old new whole
stop {old = old} {now} {new} {whole} {part} rest so_far a = record {
  ok = tt;
  err = ap (take (length old.items)) (a.items ∙ so_far.items) ∙ take_at old.items so_far.put (length old.items) refl;
  room = no_room old now whole part rest so_far a.room;
  capacity = omega (arith, so_far.capacity, a.capacity);
}

-- the first bytes of the first bytes
take_first : (old put now : List ℕ) → take (length (old ++ put)) now ≡ old ++ put → take (length old) now ≡ old
take_first [] put now e = refl
take_first (x ∷ old) put [] e = absurd cc
take_first (x ∷ old) put (y ∷ now) e =
    let others : take (length old) now ≡ old = take_first old put now cc in
    let first : y ≡ x = cc in
    cc

pub stop_up_to : {X Y E F : Type 0} {e : E} {f : F} {old now new : Vec ℕ} {whole part : List ℕ} (rest : List ℕ) → HasPut old now whole (part ++ rest) → AppendsUpTo {X = X} {E = E} (Err e) now new part → AppendsUpTo {X = Y} {E = F} (Err f) old new whole
stop_up_to {old = old} {now} {new} {whole} {part} rest so_far a = record {
  ok = tt;
  err = take_first old.items so_far.put new.items (let same : now.items ≡ old.items ++ so_far.put = so_far.items in rw same at a.err);
  room = no_room old now whole part rest so_far a.room;
  capacity = omega (arith, so_far.capacity, a.capacity);
}

-- all was put
pub finish : {X E : Type 0} {x : X} {old new : Vec ℕ} {whole : List ℕ} → HasPut old new whole [] → AppendsUpTo {X = X} {E = E} (Ok x) old new whole
finish {old = old} {new} {whole} so_far = record {
  ok = so_far.items ∙ ap (λ (l : List ℕ). old.items ++ l) (sym (so_far.parts ∙ append-nil so_far.put));
  err = tt;
  room = tt;
  capacity = so_far.capacity;
}

-- the last part, whether it was put or not
pub last : {X E : Type 0} (r : Result X E) {old now new : Vec ℕ} {whole part : List ℕ} → HasPut old now whole (part ++ []) → Appends r now new part → AppendsUpTo r old new whole
last (Ok x) so_far a = finish (step so_far a)
last (Err e) so_far a = stop [] so_far a

pub last_up_to : {X E : Type 0} (r : Result X E) {old now new : Vec ℕ} {whole part : List ℕ} → HasPut old now whole (part ++ []) → AppendsUpTo r now new part → AppendsUpTo r old new whole
last_up_to (Ok x) so_far a = finish (step_up_to so_far a)
last_up_to (Err e) so_far a = stop_up_to [] so_far a

-- the last part, where nothing is written behind it
pub at_end : {old now : Vec ℕ} {whole part : List ℕ} → HasPut old now whole part → HasPut old now whole (part ++ [])
at_end {part = part} so_far = rw (append-nil part) so_far

-- the elements from a place on, when one is there
pub flat_map-drop : {A : Type 0} (f : A → List ℕ) (xs : List A) (i : ℕ) (x d : A) → i < length xs → x ≡ get_or xs i d → flat_map f (drop i xs) ≡ f x ++ flat_map f (drop (i + 1) xs)
flat_map-drop f xs i x d lt is = rw add-one (ap (flat_map f) (drop-cons xs i d lt ∙ ap (λ y. y ∷ drop (suc i) xs) (sym is)) ∙ flat_map-cons f x (drop (suc i) xs))

-- and when none is
pub flat_map-drop_all : {A : Type 0} (f : A → List ℕ) (xs : List A) (i : ℕ) → length xs ≤ i → flat_map f (drop i xs) ≡ []
flat_map-drop_all f xs i le = ap (flat_map f) (drop_all i xs le)

-- what holds of each element's image holds of each element
pub All-of_map : {A B : Type 0} (P : B → Type 0) (f : A → B) (xs : List A) → All P (map f xs) → All (λ x. P (f x)) xs
All-of_map P f [] h = All-nil (λ x. P (f x))
All-of_map P f (x ∷ xs) h = All-cons (λ y. P (f y)) x xs (All-head P (f x) (map f xs) h) (All-of_map P f xs (All-tail P (f x) (map f xs) h))
