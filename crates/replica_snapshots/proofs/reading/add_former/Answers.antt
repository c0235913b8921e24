use Rattle.std.proofs.Common.{◌≡◌, sym, ap, subst, ◌∙◌}
use Rattle.std.proofs.lemmas.Result.{err_from_is_err_and}
use Rattle.group_types.specs.declared.stamp.Stamp.{Stamp}
use Rattle.group_types.specs.Text.{Text}
use Rattle.group_core.specs.Restoring.{changed_if, with_past}
use Rattle.replica_snapshots.specs.Building.{CanAddFormer, with_former}
use Rattle.replica_snapshots.specs.Views.{unread}
use Rattle.replica_snapshots.specs.declared.fault.SnapshotFault.TheVariants.{NoMemory}
use Rattle.replica_snapshots.proofs.Adding.{of_success}
use Rattle.replica_snapshots.proofs.ReadingLaws.{stopped, taken}
use Rattle.replica_snapshots.proofs.RecordReads.{former_is_read}
use Rattle.replica_snapshots.proofs.reading.add_former.Goals as goal

pub returns-in_err-id : goal.returns-in_err-id
returns-in_err-id c =
    let p = err_from_is_err_and c.from_residual.result c.from_residual.ensures.1 in
    rw (p.1, p.2) (λ e rest fits can is. stopped former_is_read (unread c.args.cursor.now) _ c.in_err-id.ensures e rest fits is)

pub returns : goal.returns
returns c = λ e rest fits can is.
    let old = c.args.group.now in
    let read = taken former_is_read (unread c.args.cursor.now) (c.in_ok-id.id, c.in_ok-id.stamp) _ c.in_ok-id.ensures e rest fits is in
    let so = c.in_ok-is_taken.ensures.can.1 (subst (CanAddFormer old) (sym read.0) can) in
    let added =
    c.in_ok-is_taken.ensures.added
    ∙ (ap (λ b. changed_if b (with_past old c.in_ok-id.id c.in_ok-id.stamp) old) so ∙ ap (λ (f : Text × Stamp). with_former old f) read.0) in
    of_success (λ fault. fault ≡ NoMemory) c.sound.result (c.sound.ensures so) (added, read.1)
