use Rattle.std.proofs.Common.{rules, ◌≡◌, to_z, of_z, w32}
use Rattle.coord_c.proofs.replica.migwelun_snapshot.Goals as goal

pub returns-clause-out_of_place : goal.returns-clause-out_of_place
returns-clause-out_of_place c =
    let passed : to_z w32 (of_z w32 c.snapshot-code.result) ≡ c.snapshot-code.result = search rules in
    rw passed
    (λ x y was is.
    let old : c.deref_mut.result.now ≡ x = search rules in
    let new : c.snapshot-code.new.self ≡ y = search rules in
    rw (← old, ← new) c.snapshot-code.ensures.out_of_place)

pub returns-clause-written : goal.returns-clause-written
returns-clause-written c =
    let passed : to_z w32 (of_z w32 c.snapshot-code.result) ≡ c.snapshot-code.result = search rules in
    rw passed
    (λ x y was is.
    let old : c.deref_mut.result.now ≡ x = search rules in
    let new : c.snapshot-code.new.self ≡ y = search rules in
    rw (← old, ← new) c.snapshot-code.ensures.written)

pub returns-clause-refused : goal.returns-clause-refused
returns-clause-refused c =
    let passed : to_z w32 (of_z w32 c.snapshot-code.result) ≡ c.snapshot-code.result = search rules in
    rw passed
    (λ x y was is.
    let old : c.deref_mut.result.now ≡ x = search rules in
    let new : c.snapshot-code.new.self ≡ y = search rules in
    rw (← old, ← new) c.snapshot-code.ensures.refused)
