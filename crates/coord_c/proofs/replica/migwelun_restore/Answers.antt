use Rattle.std.proofs.Common.{rules, ◌≡◌, to_z, of_z, w32, sym, ap, ◌∙◌, inl, inr}
use Rattle.coord_replica.specs.Replicas.{ReplicaValue}
use Rattle.coord_c.specs.Reads.{snapshot_fault_shown}
use Rattle.coord_c.specs.declared.machine.Machine.TheVariants as machines
use Rattle.coord_c.proofs.replica.migwelun_restore.Goals as goal

pub returns-in-Ok-restore-clause-found : goal.returns-in-Ok-restore-clause-found
returns-in-Ok-restore-clause-found c = λ done x at.
    let passed : to_z w32 (of_z w32 c.fill.result) ≡ c.fill.result = search rules in
    let filled = c.fill.ensures.content (sym passed ∙ done) x at in
    let found = c.in-Ok-restore.ensures.found in
    (found.0, found.1, found.2, filled.0 ∙ ap (λ (r : ReplicaValue). machines.Replica r) found.3)

pub returns-in-Ok-restore-clause-only : goal.returns-in-Ok-restore-clause-only
returns-in-Ok-restore-clause-only c = λ v fits is done x at.
    let passed : to_z w32 (of_z w32 c.fill.result) ≡ c.fill.result = search rules in
    let filled = c.fill.ensures.content (sym passed ∙ done) x at in
    filled.0 ∙ ap (λ (r : ReplicaValue). machines.Replica r) (c.in-Ok-restore.ensures.only v fits is)

pub returns-in-Ok-restore-clause-whole : goal.returns-in-Ok-restore-clause-whole
returns-in-Ok-restore-clause-whole c = λ v fits can is empty undone.
    let passed : to_z w32 (of_z w32 c.fill.result) ≡ c.fill.result = search rules in
    elim c.fill.ensures.known [
      | inl done ↦ absurd (undone (passed ∙ done))
      | inr short ↦ passed ∙ short
    ]

pub returns-in-Err-clause-whole : goal.returns-in-Err-clause-whole
returns-in-Err-clause-whole c = λ v fits can is empty undone.
    let passed : to_z w32 (of_z w32 c.snapshot_code.result) ≡ c.snapshot_code.result = search rules in
    passed ∙ (c.snapshot_code.ensures ∙ ap snapshot_fault_shown (c.in-Err.ensures.whole v fits can is))
