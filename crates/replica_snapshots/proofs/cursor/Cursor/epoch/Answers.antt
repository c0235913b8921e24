use Rattle.std.proofs.Common.{◌≡◌, ℤ, pos, to_z, of_z, rules, subst, ◌∙◌}
use Rattle.std.specs.Int.{w32}
use Rattle.std.specs.Prelude.{◌<ℤ◌}
use Rattle.replica_snapshots.specs.Reading.{epoch_at}
use Rattle.replica_snapshots.proofs.ReadingLaws.{is_natural, not_natural}
use Rattle.replica_snapshots.proofs.cursor.Cursor.epoch.Goals as goal

pub returns-in-Some : goal.returns-in-Some
unfolding epoch_at
returns-in-Some c =
    let number = c.in_ok-number.number in
    let shown : to_z w32 (of_z w32 number) ≡ number = search rules in
    rw c.in_ok-number.ensures (is_natural number c.in-Some.epoch _ (c.in-Some.ensures ∙ shown))

pub returns-in-None : goal.returns-in-None
unfolding epoch_at
returns-in-None c = λ other.
    let number = c.in_ok-number.number in
    let shown : to_z w32 (of_z w32 number) ≡ number = search rules in
    rw c.in_ok-number.ensures (not_natural number _ (subst (λ (z : ℤ). z <ℤ pos 0) shown c.in-None.ensures))
