use Rattle.std.proofs.Common.{rules, ◌≡◌, to_z, of_z, w32}
use Rattle.coord_c.proofs.replica.migwelun_apply.Goals as goal

pub returns-clause-applied : goal.returns-clause-applied
returns-clause-applied c =
    let passed : to_z w32 (of_z w32 c.apply-code.result) ≡ c.apply-code.result = search rules in
    rw passed
    (λ x y was is.
    let old : c.deref_mut.result.now ≡ x = search rules in
    let new : c.apply-code.new.self ≡ y = search rules in
    rw (← old, ← new) c.apply-code.ensures.applied)

pub returns-clause-refused : goal.returns-clause-refused
returns-clause-refused c =
    let passed : to_z w32 (of_z w32 c.apply-code.result) ≡ c.apply-code.result = search rules in
    rw passed
    (λ x y was is.
    let old : c.deref_mut.result.now ≡ x = search rules in
    let new : c.apply-code.new.self ≡ y = search rules in
    rw (← old, ← new) c.apply-code.ensures.refused)
