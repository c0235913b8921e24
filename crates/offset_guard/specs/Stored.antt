-- What was committed, as data: nested pairs of its fields.
use Rattle.std.specs.Prelude.{ℤ, Option, refl}
use Rattle.std.specs.Coded.{Coded, code_by, coded×, coded_ℤ, coded_option}
use Rattle.std.specs.FinMap as finite
use Rattle.group_types.specs.Text.{Text}
use Rattle.group_types.specs.Group.{Committed, Offsets}
use Rattle.group_epochs.specs.Stored.{text_code}

abbrev pub committed_code : Coded Committed
committed_code =
    code_by (ℤ × (ℤ × Option Text)) (coded× coded_ℤ (coded× coded_ℤ (coded_option text_code)))
    (λ c. (c.offset, (c.leader_epoch, c.metadata))) (λ p. record { offset = p.0; leader_epoch = p.1.0; metadata = p.1.1 }) (λ _. refl)

abbrev pub offsets_code : Coded Offsets
offsets_code = finite.code (coded× text_code coded_ℤ) committed_code
