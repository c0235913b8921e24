-- Spellings made of spellings: none begins another where no part of it does.
use Rattle.std.proofs.Common.{◌≡◌, ℕ, List, [], ◌∷◌, ◌++◌, length, Option, Some, None, Bool, true, false, Result, Ok, Err, refl, sym, ap, ◌∙◌, append_assoc, arith}
use Rattle.std.specs.Prelude.{IfOk, IfSome, ⊤}
use Rattle.std.specs.List.{flat_map, AllByRecursion}
use Rattle.std.proofs.lemmas.List.Concat.{flat_map-cons}
use Rattle.std.proofs.lemmas.List.Elements.{recursion_from_All}
use Rattle.flex_wire.specs.Spelling.{array_count, FitsCount, mark}
use Rattle.flex_wire.specs.Composed.{array, FitsArray}
use Rattle.flex_wire.specs.Reading.{Read}
use Rattle.flex_wire.specs.Laws.{IsField, BeginsNoOther}
use Rattle.flex_wire.proofs.Fields.{begins_no_other}
use Rattle.flex_wire.proofs.CountLaws.{array_count_is_field}
use Rattle.flex_wire.proofs.MarkLaws.{mark_is_field}
use Rattle.replica_snapshots.specs.Spelling.{optional}

-- no spelling begins another, and one spelling means one value
pub record Begins {V : Type 0} (F : V → Type 0) (s : V → List ℕ) : Type 0 where
  pub holds : BeginsNoOther F s

pub of_field : {V : Type 0} {F : V → Type 0} {s : V → List ℕ} {read : List ℕ → Read V} → IsField F s read → Begins F s
of_field field = record { holds = begins_no_other field }

pub nothing_begins : Begins (λ (_ : Unit {0}). Unit {0}) (λ _. [])
nothing_begins = record { holds = λ v w x y f g e. (refl, e) }

pub pair_begins : {V W : Type 0} {F : V → Type 0} {G : W → Type 0} {s : V → List ℕ} {t : W → List ℕ} → Begins F s → Begins G t → Begins (λ (p : V × W). F p.0 × G p.1) (λ p. s p.0 ++ t p.1)
pair_begins {V} {W} {s = s} {t} first second = record {
  holds = λ v w x y f g e.
      let one = first.holds v.0 w.0 (t v.1 ++ x) (t w.1 ++ y) f.0 g.0 (sym (append_assoc (s v.0) (t v.1) x) ∙ (e ∙ append_assoc (s w.0) (t w.1) y)) in
      let two = second.holds v.1 w.1 x y f.1 g.1 one.1 in
      (λ i. (one.0 i, two.0 i), two.1);
}

-- what is spelled as its parts are, where the parts tell it
pub made_begins : {V W : Type 0} {F : V → Type 0} {G : W → Type 0} {s : V → List ℕ} {t : W → List ℕ} (parts : W → V) → ((v w : W) → parts v ≡ parts w → v ≡ w) → ((w : W) → G w → F (parts w)) → ((w : W) → t w ≡ s (parts w)) → Begins F s → Begins G t
made_begins {s = s} parts apart fits spelled begins = record {
  holds = λ v w x y f g e.
      let both = begins.holds (parts v) (parts w) x y (fits v f) (fits w g) (ap (λ (l : List ℕ). l ++ x) (sym (spelled v)) ∙ (e ∙ ap (λ (l : List ℕ). l ++ y) (spelled w))) in
      (apart v w both.0, both.1);
}

marks : Begins (λ (_ : Bool). ⊤) mark
marks = of_field mark_is_field

optional_holds : {V : Type 0} (F : V → Type 0) (s : V → List ℕ) → Begins F s → (v w : Option V) (x y : List ℕ) → IfSome v F → IfSome w F → optional s v ++ x ≡ optional s w ++ y → (v ≡ w) × (x ≡ y)
optional_holds F s begins None None x y f g e = (refl, (marks.holds false false x y tt tt e).1)
optional_holds F s begins None (Some w) x y f g e =
    let no = (marks.holds false true x (s w ++ y) tt tt (e ∙ append_assoc (mark true) (s w) y)).0 in absurd cc
optional_holds F s begins (Some v) None x y f g e =
    let no = (marks.holds true false (s v ++ x) y tt tt (sym (append_assoc (mark true) (s v) x) ∙ e)).0 in absurd cc
optional_holds F s begins (Some v) (Some w) x y f g e =
    let inner = (marks.holds true true (s v ++ x) (s w ++ y) tt tt (sym (append_assoc (mark true) (s v) x) ∙ (e ∙ append_assoc (mark true) (s w) y))).1 in
    let both = begins.holds v w x y f g inner in
    (ap Some both.0, both.1)

-- a value that may be missing
pub optional_begins : {V : Type 0} {F : V → Type 0} {s : V → List ℕ} → Begins F s → Begins (λ v. IfSome v F) (optional s)
optional_begins {F = F} {s} begins = record { holds = optional_holds F s begins }

counts : Begins FitsCount array_count
counts = of_field array_count_is_field

regrouped : {V : Type 0} (s : V → List ℕ) (v : V) (vs : List V) (x : List ℕ) → flat_map s (v ∷ vs) ++ x ≡ s v ++ (flat_map s vs ++ x)
regrouped s v vs x = ap (λ (l : List ℕ). l ++ x) (flat_map-cons s v vs) ∙ append_assoc (s v) (flat_map s vs) x

pub elements_hold : {V : Type 0} (F : V → Type 0) (s : V → List ℕ) → Begins F s → (vs ws : List V) (x y : List ℕ) → length vs ≡ length ws → AllByRecursion F vs → AllByRecursion F ws → flat_map s vs ++ x ≡ flat_map s ws ++ y → (vs ≡ ws) × (x ≡ y)
elements_hold F s begins [] [] x y len f g e = (refl, e)
elements_hold F s begins [] (w ∷ ws) x y len f g e = absurd (omega arith)
elements_hold F s begins (v ∷ vs) [] x y len f g e = absurd (omega arith)
elements_hold F s begins (v ∷ vs) (w ∷ ws) x y len f g e =
    let first = begins.holds v w (flat_map s vs ++ x) (flat_map s ws ++ y) f.0 g.0 (sym (regrouped s v vs x) ∙ (e ∙ regrouped s w ws y)) in
    let others = elements_hold F s begins vs ws x y (omega arith) f.1 g.1 first.1 in
    (λ i. first.0 i ∷ others.0 i, others.1)

-- an array of what begins no other
pub array_begins : {V : Type 0} {F : V → Type 0} {s : V → List ℕ} → Begins F s → Begins (FitsArray F) (array s)
array_begins {F = F} {s} begins = record {
  holds = λ vs ws x y f g e.
      let size = counts.holds (length vs) (length ws) (flat_map s vs ++ x) (flat_map s ws ++ y) f.0 g.0 (sym (append_assoc (array_count (length vs)) (flat_map s vs) x) ∙ (e ∙ append_assoc (array_count (length ws)) (flat_map s ws) y)) in
      elements_hold F s begins vs ws x y size.0 (recursion_from_All F vs f.1) (recursion_from_All F ws g.1) size.1;
}

-- what was read of bytes that are spelled so is what they spell
pub only_by : {V X E : Type 0} {F : V → Type 0} {s : V → List ℕ} → Begins F s → (view : X → V × List ℕ) (bytes : List ℕ) (r : Result X E) → IfOk r (λ x. F (view x).0 × (bytes ≡ s (view x).0 ++ (view x).1)) → (v : V) (rest : List ℕ) → F v → bytes ≡ s v ++ rest → IfOk r (λ x. ((view x).0 ≡ v) × ((view x).1 ≡ rest))
only_by begins view bytes (Ok x) found v rest fits is = begins.holds (view x).0 v (view x).1 rest found.0 fits (sym found.1 ∙ is)
only_by begins view bytes (Err e) found v rest fits is = tt
