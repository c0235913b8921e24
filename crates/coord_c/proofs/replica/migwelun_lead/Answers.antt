use Rattle.std.proofs.Common.{rules, ◌≡◌, to_z, of_z, w32}
use Rattle.coord_c.proofs.replica.migwelun_lead.Goals as goal

pub returns-clause-proposed : goal.returns-clause-proposed
returns-clause-proposed c =
    let passed : to_z w32 (of_z w32 c.lead-code.result) ≡ c.lead-code.result = search rules in
    rw passed
    (λ x y was is.
    let old : c.deref_mut.result.now ≡ x = search rules in
    let new : c.lead-code.new.self ≡ y = search rules in
    rw (← old, ← new) c.lead-code.ensures.proposed)

pub returns-clause-refused : goal.returns-clause-refused
returns-clause-refused c =
    let passed : to_z w32 (of_z w32 c.lead-code.result) ≡ c.lead-code.result = search rules in
    rw passed
    (λ x y was is.
    let old : c.deref_mut.result.now ≡ x = search rules in
    let new : c.lead-code.new.self ≡ y = search rules in
    rw (← old, ← new) c.lead-code.ensures.refused)
