use Rattle.std.proofs.Common.{◌≡◌, ℕ, ℤ, List, ◌++◌, to_z, of_z, rules, sym, ap, subst, ◌∙◌}
use Rattle.std.specs.Int.{w32}
use Rattle.std.proofs.lemmas.Result.{err_from_is_err_and}
use Rattle.flex_wire.specs.Spelling.{int32}
use Rattle.group_types.specs.Group.{Committed}
use Rattle.group_types.specs.Text.{Text}
use Rattle.group_core.specs.Restoring.{changed_if, with_offset}
use Rattle.replica_snapshots.specs.Building.{CanAddOffset, with_committed}
use Rattle.replica_snapshots.specs.Spelling.{committed_fields}
use Rattle.replica_snapshots.specs.Views.{unread}
use Rattle.replica_snapshots.specs.declared.fault.SnapshotFault.TheVariants.{NoMemory}
use Rattle.replica_snapshots.proofs.Adding.{of_success}
use Rattle.replica_snapshots.proofs.ReadingLaws.{stopped, taken, text_is_read}
use Rattle.replica_snapshots.proofs.RecordReads.{committed_is_read, index_is_read, offset_parts}
use Rattle.replica_snapshots.proofs.reading.add_offset.Goals as goal

abbrev Place : Type 0
Place = (Text × ℤ) × Committed

-- the bytes behind the index, and behind the name
abbrev last : Place → List ℕ → List ℕ
last e rest = committed_fields e.1 ++ rest

abbrev later : Place → List ℕ → List ℕ
later e rest = int32 e.0.1 ++ last e rest

pub returns-in_err-name : goal.returns-in_err-name
returns-in_err-name c =
    let p = err_from_is_err_and c.from_residual.result c.from_residual.ensures.1 in
    rw (p.1, p.2) (λ e rest fits can is.
    stopped text_is_read (unread c.args.cursor.now) _ c.in_err-name.ensures.exact e.0.0 (later e rest) fits.name (is ∙ offset_parts e rest))

pub returns-in_err-index : goal.returns-in_err-index
returns-in_err-index c =
    let p = err_from_is_err_and c.from_residual-in_err-index.result c.from_residual-in_err-index.ensures.1 in
    rw (p.1, p.2) (λ e rest fits can is.
    let name =
    taken text_is_read (unread c.args.cursor.now) c.in_ok-name.name.now _ c.in_ok-name.ensures.exact e.0.0 (later e rest) fits.name (is ∙ offset_parts e rest) in
    stopped index_is_read _ _ c.in_err-index.ensures e.0.1 (last e rest) fits.index name.1)

pub returns-in_err-committed : goal.returns-in_err-committed
returns-in_err-committed c =
    let p = err_from_is_err_and c.from_residual-in_err-committed.result c.from_residual-in_err-committed.ensures.1 in
    rw (p.1, p.2) (λ e rest fits can is.
    let name =
    taken text_is_read (unread c.args.cursor.now) c.in_ok-name.name.now _ c.in_ok-name.ensures.exact e.0.0 (later e rest) fits.name (is ∙ offset_parts e rest) in
    let index = taken index_is_read _ c.in_ok-index.index _ c.in_ok-index.ensures e.0.1 (last e rest) fits.index name.1 in
    stopped committed_is_read _ _ c.in_err-committed.ensures e.1 rest fits.committed index.1)

pub returns : goal.returns
returns c = λ e rest fits can is.
    let old = c.args.group.now in
    let number = c.in_ok-index.index in
    let back : to_z w32 (of_z w32 number) ≡ number = search rules in
    let name =
    taken text_is_read (unread c.args.cursor.now) c.in_ok-name.name.now _ c.in_ok-name.ensures.exact e.0.0 (later e rest) fits.name (is ∙ offset_parts e rest) in
    let index = taken index_is_read _ number _ c.in_ok-index.ensures e.0.1 (last e rest) fits.index name.1 in
    let committed = taken committed_is_read _ c.in_ok-committed.committed _ c.in_ok-committed.ensures e.1 rest fits.committed index.1 in
    let read : ((c.in_ok-name.name.now, number), c.in_ok-committed.committed) ≡ e = λ i. ((name.0 i, index.0 i), committed.0 i) in
    let can_be = rw back at c.in_ok-is_taken.ensures.can in
    let changed = rw back at c.in_ok-is_taken.ensures.added in
    let so = can_be.1 (subst (CanAddOffset old) (sym read) can) in
    let added =
    changed
    ∙ (ap (λ b. changed_if b (with_offset old (c.in_ok-name.name.now, number) c.in_ok-committed.committed) old) so
    ∙ ap (λ (x : Place). with_committed old x) read) in
    of_success (λ fault. fault ≡ NoMemory) c.sound.result (c.sound.ensures so) (added, committed.1)
