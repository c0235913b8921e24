use Rattle.std.proofs.Common.{◌≡◌, ℕ, sym, ap, subst, ◌∙◌}
use Rattle.std.proofs.lemmas.Result.{err_from_is_err_and}
use Rattle.group_types.specs.declared.partition.Partition.{Partition}
use Rattle.group_core.specs.Restoring.{changed_if, with_granted}
use Rattle.replica_snapshots.specs.Building.{CanAddGrant, with_grant}
use Rattle.replica_snapshots.specs.Views.{unread}
use Rattle.replica_snapshots.specs.declared.fault.SnapshotFault.TheVariants.{NoMemory}
use Rattle.replica_snapshots.proofs.Adding.{of_success}
use Rattle.replica_snapshots.proofs.ReadingLaws.{stopped, taken}
use Rattle.replica_snapshots.proofs.RecordReads.{grant_is_read}
use Rattle.replica_snapshots.proofs.reading.add_grant.Goals as goal

pub returns-in_err-p : goal.returns-in_err-p
returns-in_err-p c =
    let p = err_from_is_err_and c.from_residual.result c.from_residual.ensures.1 in
    rw (p.1, p.2) (λ e rest fits can is. stopped grant_is_read (unread c.args.cursor.now) _ c.in_err-p.ensures e rest fits is)

pub returns : goal.returns
returns c = λ e rest fits can is.
    let old = c.args.group.now in
    let m = c.args.id.now in
    let read = taken grant_is_read (unread c.args.cursor.now) (c.in_ok-p.p, c.in_ok-p.since) _ c.in_ok-p.ensures e rest fits is in
    let so = c.in_ok-is_taken.ensures.can.1 (subst (CanAddGrant m old) (sym read.0) can) in
    let added =
    c.in_ok-is_taken.ensures.added
    ∙ (ap (λ b. changed_if b (with_granted old m c.in_ok-p.p c.in_ok-p.since) old) so ∙ ap (λ (g : Partition × ℕ). with_grant m old g) read.0) in
    of_success (λ fault. fault ≡ NoMemory) c.sound.result (c.sound.ensures so) (added, read.1)
