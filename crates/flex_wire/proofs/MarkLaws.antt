-- The law of the mark of a nullable struct.
use Rattle.std.proofs.Common.{◌≡◌, ℕ, Bool, true, false, cond, List, [], ◌∷◌, ◌++◌, Ok, Err, refl, ap, subst, inl, inr}
use Rattle.std.specs.Prelude.{◌==◌, ⊤}
use Rattle.std.proofs.lemmas.Bool.{cases_eq, eq-eqb, ne_eqb}
use Rattle.flex_wire.specs.declared.fault.WireFault.TheVariants.{BadMark}
use Rattle.flex_wire.specs.Spelling.{mark}
use Rattle.flex_wire.specs.Reading.{mark_at}
use Rattle.flex_wire.specs.Laws.{IsField}
use Rattle.flex_wire.proofs.Fields.{chosen, ok_is}

mark_taken : (bytes : List ℕ) (p : Bool × List ℕ) → mark_at bytes ≡ Ok p → bytes ≡ mark p.0 ++ p.1
unfolding mark_at
mark_taken [] p e = absurd cc
mark_taken (byte ∷ rest) p e =
    let P : Bool × List ℕ → Type 0 = λ q. byte ∷ rest ≡ mark q.0 ++ q.1 in
    let a = chosen (byte == 0xff) (Ok (false, rest)) (cond (byte == 0x01) (Ok (true, rest)) (Err BadMark)) (Ok p) e in
    elim (cases_eq byte 0xff) [
      | inl null ↦ subst P (ok_is (false, rest) p (a.0 (eq-eqb byte 0xff null))) (ap (λ (b : ℕ). b ∷ rest) null)
      | inr other ↦
          let b = chosen (byte == 0x01) (Ok (true, rest)) (Err BadMark) (Ok p) (a.1 (ne_eqb byte 0xff other)) in
          elim (cases_eq byte 0x01) [
            | inl there ↦ subst P (ok_is (true, rest) p (b.0 (eq-eqb byte 0x01 there))) (ap (λ (x : ℕ). x ∷ rest) there)
            | inr none ↦ let wrong = b.1 (ne_eqb byte 0x01 none) in absurd cc
          ]
    ]

mark_again : (present : Bool) (rest : List ℕ) → mark_at (mark present ++ rest) ≡ Ok (present, rest)
unfolding mark_at
mark_again true rest = refl
mark_again false rest = refl

pub mark_is_field : IsField (λ _. ⊤) mark mark_at
mark_is_field = record {
  taken = λ bytes present rest are e. (tt, mark_taken bytes (present, rest) e);
  again = λ present rest fits. mark_again present rest;
}
