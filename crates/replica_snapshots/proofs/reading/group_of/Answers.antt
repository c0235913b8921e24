use Rattle.std.proofs.Common.{◌≡◌, ℕ, List, [], ◌++◌, ap, sym, subst, ◌∙◌}
use Rattle.std.proofs.lemmas.Result.{err_from_is_err_and}
use Rattle.std.specs.FinMap as finite
use Rattle.flex_wire.specs.Composed.{array}
use Rattle.range_assign.specs.Shares.{shares_in}
use Rattle.group_core.specs.Restoring.{nothing_restored}
use Rattle.coord_node.specs.Nodes.{HeldGroup, held_of}
use Rattle.replica_snapshots.specs.declared.numbers.Numbers.{Numbers}
use Rattle.replica_snapshots.specs.Building.{Built, CanAddLast, last_fields, with_last}
use Rattle.replica_snapshots.specs.Groups.{numbers_of, parts_of}
use Rattle.replica_snapshots.specs.Spelling.{topic_fields}
use Rattle.replica_snapshots.specs.Views.{unread}
use Rattle.replica_snapshots.specs.declared.fault.SnapshotFault.TheVariants.{NoMemory}
use Rattle.replica_snapshots.proofs.PartReads.{view_is_read}
use Rattle.replica_snapshots.proofs.ReadingLaws.{stopped, taken}
use Rattle.replica_snapshots.proofs.RecordReads.{numbers_are_read}
use Rattle.replica_snapshots.proofs.Whole.{group_again, last_can, last_fit, spelled_parts, with_left}
use Rattle.replica_snapshots.proofs.reading.group_of.Goals as goal

-- the bytes behind the view
abbrev last : HeldGroup → List ℕ → List ℕ
last g rest = last_fields (parts_of g) ++ rest

-- and behind the numbers
abbrev later : HeldGroup → List ℕ → List ℕ
later g rest = array topic_fields (finite.entries g.0.view) ++ last g rest

pub returns-in_err-numbers : goal.returns-in_err-numbers
returns-in_err-numbers c =
    let p = err_from_is_err_and c.from_residual.result c.from_residual.ensures.1 in
    rw (p.1, p.2) (λ (g : HeldGroup) (rest : List ℕ) fits is.
    stopped numbers_are_read (unread c.args.cursor.now) _ c.in_err-numbers.ensures (numbers_of g.0) (later g rest) fits.parts.numbers (is ∙ spelled_parts g rest))

pub returns-in_err-view : goal.returns-in_err-view
returns-in_err-view c =
    let p = err_from_is_err_and c.from_residual-in_err-view.result c.from_residual-in_err-view.ensures.1 in
    rw (p.1, p.2) (λ (g : HeldGroup) (rest : List ℕ) fits is.
    let numbers =
    taken numbers_are_read (unread c.args.cursor.now) c.in_ok-numbers.numbers _ c.in_ok-numbers.ensures (numbers_of g.0) (later g rest) fits.parts.numbers (is ∙ spelled_parts g rest) in
    stopped view_is_read _ _ c.in_err-view.ensures g.0.view (last g rest) (fits.parts.lists.view, fits.sound.view) numbers.1)

pub returns-in-Err : goal.returns-in-Err
returns-in-Err c = λ g rest fits is.
    let numbers =
    taken numbers_are_read (unread c.args.cursor.now) c.in_ok-numbers.numbers _ c.in_ok-numbers.ensures (numbers_of g.0) (later g rest) fits.parts.numbers (is ∙ spelled_parts g rest) in
    let view = taken view_is_read _ _ _ c.in_ok-view.ensures g.0.view (last g rest) (fits.parts.lists.view, fits.sound.view) numbers.1 in
    let start : (c.new-group.result, shares_in c.new-shares.result.items) ≡ (nothing_restored g.0.salt, []) =
    λ i. ((c.new-group.ensures ∙ ap (λ (n : Numbers). nothing_restored n.salt) numbers.0) i, ap shares_in c.new-shares.ensures.items i) in
    c.in-Err.ensures (parts_of g) rest (last_fit g fits) (subst (λ (b : Built). CanAddLast b (parts_of g)) (sym start) (last_can g fits)) view.1

pub returns-in-Ok : goal.returns-in-Ok
returns-in-Ok c = λ g rest fits is.
    let n = c.in_ok-numbers.numbers in
    let numbers =
    taken numbers_are_read (unread c.args.cursor.now) n _ c.in_ok-numbers.ensures (numbers_of g.0) (later g rest) fits.parts.numbers (is ∙ spelled_parts g rest) in
    let view = taken view_is_read _ _ _ c.in_ok-view.ensures g.0.view (last g rest) (fits.parts.lists.view, fits.sound.view) numbers.1 in
    let begun : (c.new-group.result, shares_in c.new-shares.result.items) ≡ (nothing_restored n.salt, []) =
    λ i. (c.new-group.ensures i, ap shares_in c.new-shares.ensures.items i) in
    let start = begun ∙ ap (λ (m : Numbers). (nothing_restored m.salt, [])) numbers.0 in
    let all = c.in-Ok.ensures (parts_of g) rest (last_fit g fits) (subst (λ (b : Built). CanAddLast b (parts_of g)) (sym start) (last_can g fits)) view.1 in
    with_left (λ b. held_of b ≡ g) (λ fault. fault ≡ NoMemory) c.finished.result all.1
    (group_again g fits _ n _ _ (all.0 ∙ ap (λ (b : Built). with_last b (parts_of g)) begun) numbers.0 view.0 c.finished.result c.finished.ensures)
