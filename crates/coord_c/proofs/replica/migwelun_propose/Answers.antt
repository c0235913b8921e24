use Rattle.std.proofs.Common.{rules, ◌≡◌, to_z, of_z, w32}
use Rattle.coord_c.proofs.replica.migwelun_propose.Goals as goal

pub returns-clause-proposed : goal.returns-clause-proposed
returns-clause-proposed c =
    let passed : to_z w32 (of_z w32 c.propose-code.result) ≡ c.propose-code.result = search rules in
    rw passed
    (λ x y was is.
    let old : c.deref_mut.result.now ≡ x = search rules in
    let new : c.propose-code.new.self ≡ y = search rules in
    rw (← old, ← new) c.propose-code.ensures.proposed)

pub returns-clause-refused : goal.returns-clause-refused
returns-clause-refused c =
    let passed : to_z w32 (of_z w32 c.propose-code.result) ≡ c.propose-code.result = search rules in
    rw passed
    (λ x y was is.
    let old : c.deref_mut.result.now ≡ x = search rules in
    let new : c.propose-code.new.self ≡ y = search rules in
    rw (← old, ← new) c.propose-code.ensures.refused)
