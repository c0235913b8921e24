-- No place of a log begins another.
use Rattle.std.proofs.Common.{◌≡◌, ℕ, ℤ, pos, refl, arith}
use Rattle.std.specs.Prelude.{FitsSigned}
use Rattle.std.specs.Int.{w16, w32, w64}
use Rattle.flex_wire.specs.Spelling.{int32, int64}
use Rattle.flex_wire.proofs.IntLaws.{signed_is_field, wide16}
use Rattle.replica_snapshots.specs.Places.{PLACE_VERSION, PlaceValue, place_fields, FitsPlace}
use Rattle.replica_snapshots.proofs.Begins.{Begins, of_field, nothing_begins, pair_begins, made_begins}
use Rattle.replica_snapshots.proofs.FieldLaws.{number_begins, int32_begins, int64_begins, same_pos}

leadership_begins : Begins (λ (n : ℕ). FitsSigned w32 (pos n)) (λ n. int32 (pos n))
leadership_begins = made_begins pos same_pos (λ w f. f) (λ w. refl) int32_begins

moment_begins : Begins (λ (n : ℕ). FitsSigned w64 (pos n)) (λ n. int64 (pos n))
moment_begins = made_begins pos same_pos (λ w f. f) (λ w. refl) int64_begins

version_fits : FitsSigned w16 PLACE_VERSION
version_fits = record { sfits = omega arith }

same_place : (v w : PlaceValue) (e : ◌≡◌ {A = ℤ × (ℕ × (ℕ × (ℕ × Unit {0})))} (PLACE_VERSION, (v.applied, (v.leadership, (v.moment, tt)))) (PLACE_VERSION, (w.applied, (w.leadership, (w.moment, tt))))) → v ≡ w
same_place v w e = λ i. record { applied = (e i).1.0; leadership = (e i).1.1.0; moment = (e i).1.1.1.0 }

pub place_begins : Begins FitsPlace place_fields
unfolding place_fields
place_begins =
    made_begins (λ (p : PlaceValue). (PLACE_VERSION, (p.applied, (p.leadership, (p.moment, tt))))) same_place (λ p f. (version_fits, (f.applied, (f.leadership, (f.moment, tt))))) (λ p. refl)
    (pair_begins (of_field (signed_is_field w16 wide16)) (pair_begins number_begins (pair_begins leadership_begins (pair_begins moment_begins nothing_begins))))
