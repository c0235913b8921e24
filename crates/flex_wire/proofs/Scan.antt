-- Reading a count of values one after the other, as a loop does: what was read before, and what is
-- still read, are the whole.
use Rattle.std.proofs.Common.{◌≡◌, ◌≢◌, ℕ, suc, ◌-◌, ◌+◌, ◌≤◌, ◌<◌, List, [], ◌∷◌, ◌++◌, Ok, Err, refl, sym, ap, ◌∙◌, append_assoc, arith}
use Rattle.std.proofs.lemmas.List.{append-nil}
use Rattle.flex_wire.specs.declared.fault.WireFault.{WireFault}
use Rattle.flex_wire.specs.declared.fault.WireFault.TheVariants.{NoMemory}
use Rattle.flex_wire.specs.Reading.{Read, ◌>>=◌, tagged_field_at, tagged_fields_behind}
use Rattle.flex_wire.specs.Composed.{elements_at}
use Rattle.flex_wire.specs.Spelling.{Tagged}
use Rattle.std.specs.Prelude.{Option, Some}

-- a count of values is read step by step, from a state that each value changes
pub record IsScan {S V : Type 0} (step : S → List ℕ → Read V) (next : S → V → S) (scan : S → ℕ → List ℕ → Read (List V)) : Type 0 where
  pub none : (s : S) (bytes : List ℕ) → scan s 0 bytes ≡ Ok ([], bytes)
  pub more : (s : S) (count : ℕ) (bytes : List ℕ) → scan s (suc count) bytes ≡ (step s bytes >>= λ first. scan (next s first.0) count first.1 >>= λ others. Ok (first.0 ∷ others.0, others.1))

pub elements_are_scanned : {V : Type 0} (read : List ℕ → Read V) → IsScan (λ (_ : Unit {0}). read) (λ _ _. tt) (λ _. elements_at read)
unfolding elements_at
elements_are_scanned read = record { none = λ s bytes. refl; more = λ s count bytes. refl }

pub tagged_fields_are_scanned : IsScan tagged_field_at (λ (_ : Option ℕ) (field : Tagged). Some field.tag) tagged_fields_behind
unfolding tagged_fields_behind
tagged_fields_are_scanned = record { none = λ s bytes. refl; more = λ s count bytes. refl }

-- what was read before, and what is still read
abbrev pub with_front : {V : Type 0} → List V → Read (List V) → Read (List V)
with_front front read = read >>= λ x. Ok (front ++ x.0, x.1)

regroup : {V : Type 0} (front : List V) (x : V) (read : Read (List V)) → with_front front (read >>= λ others. Ok (x ∷ others.0, others.1)) ≡ with_front (front ++ x ∷ []) read
regroup {V} front x (Ok others) = ap (λ (l : List V). Ok (l, others.1)) (simp append_assoc)
regroup front x (Err e) = refl

pub goes_on : {S V : Type 0} {step : S → List ℕ → Read V} {next : S → V → S} {scan : S → ℕ → List ℕ → Read (List V)} → IsScan step next scan → (s : S) (front : List V) (count i : ℕ) (bytes : List ℕ) (x : V) (after : List ℕ) (total : Read (List V)) → i < count → step s bytes ≡ Ok (x, after) → with_front front (scan s (count - i) bytes) ≡ total → with_front (front ++ x ∷ []) (scan (next s x) (count - (i + 1)) after) ≡ total
goes_on {next = next} {scan = scan} law s front count i bytes x after total lt taken so_far =
    let k : count - i ≡ suc (count - (i + 1)) = omega arith in
    let one : with_front front (scan s (count - i) bytes) ≡ with_front (front ++ x ∷ []) (scan (next s x) (count - (i + 1)) after) = rw (k, law.more s (count - (i + 1)) bytes, taken) (regroup front x (scan (next s x) (count - (i + 1)) after)) in
    sym one ∙ so_far

pub fails : {S V : Type 0} {step : S → List ℕ → Read V} {next : S → V → S} {scan : S → ℕ → List ℕ → Read (List V)} → IsScan step next scan → (s : S) (front : List V) (count i : ℕ) (bytes : List ℕ) (e : WireFault) (total : Read (List V)) → i < count → step s bytes ≡ Err e → with_front front (scan s (count - i) bytes) ≡ total → total ≡ Err e
fails {scan = scan} law s front count i bytes e total lt fault so_far =
    let k : count - i ≡ suc (count - (i + 1)) = omega arith in
    let one : with_front front (scan s (count - i) bytes) ≡ Err e = rw (k, law.more s (count - (i + 1)) bytes, fault) refl in
    sym so_far ∙ one

-- the same for a step that may run out of memory
pub fails_in_memory : {S V : Type 0} {step : S → List ℕ → Read V} {next : S → V → S} {scan : S → ℕ → List ℕ → Read (List V)} → IsScan step next scan → (s : S) (front : List V) (count i : ℕ) (bytes : List ℕ) (e : WireFault) (total : Read (List V)) → i < count → (e ≢ NoMemory → step s bytes ≡ Err e) → with_front front (scan s (count - i) bytes) ≡ total → e ≢ NoMemory → total ≡ Err e
fails_in_memory law s front count i bytes e total lt fault so_far other = fails law s front count i bytes e total lt (fault other) so_far

pub is_done : {S V : Type 0} {step : S → List ℕ → Read V} {next : S → V → S} {scan : S → ℕ → List ℕ → Read (List V)} → IsScan step next scan → (s : S) (front : List V) (count i : ℕ) (bytes : List ℕ) (total : Read (List V)) → count ≤ i → with_front front (scan s (count - i) bytes) ≡ total → total ≡ Ok (front, bytes)
is_done {V} {scan = scan} law s front count i bytes total le so_far =
    let k : count - i ≡ 0 = omega arith in
    let one : with_front front (scan s (count - i) bytes) ≡ Ok (front, bytes) = rw (k, law.none s bytes) (ap (λ (l : List V). Ok (l, bytes)) (append-nil front)) in
    sym so_far ∙ one
