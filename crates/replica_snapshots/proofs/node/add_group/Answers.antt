use Rattle.std.proofs.Common.{ap, sym, subst, ◌∙◌, true≢false}
use Rattle.std.proofs.lemmas.Result.{err_from_is_err_and}
use Rattle.coord_node.specs.Nodes.{with_named}
use Rattle.coord_node.specs.Restored.{with_named_if}
use Rattle.replica_snapshots.specs.Restoring.{CanKeep}
use Rattle.replica_snapshots.specs.Views.{named_of}
use Rattle.replica_snapshots.proofs.NodeLaws.{group_read}
use Rattle.replica_snapshots.proofs.node.add_group.Goals as goal

pub returns-clause-found : goal.returns-clause-found
returns-clause-found c =
    group_read c.args.bytes.now c.in_ok-read.rest.now c.args.node.now c.restore_group.new.self (named_of c.in_ok-read.read)
    c.in_ok-restore_group.field-0 c.if-not-branch.false c.in_ok-read.ensures.found c.in_ok-restore_group.ensures.kept

pub returns-in_err-read-clause-whole : goal.returns-in_err-read-clause-whole
returns-in_err-read-clause-whole c =
    let p = err_from_is_err_and c.from_residual.result c.from_residual.ensures.1 in
    rw (p.1, p.2) (λ g rest fits can is. c.in_err-read.ensures.whole g rest fits is)

pub returns-then-not-branch-clause-whole : goal.returns-then-not-branch-clause-whole
returns-then-not-branch-clause-whole c = λ g rest fits can is.
    let same = c.in_ok-read.ensures.only g rest fits is in
    let kept = c.in_ok-restore_group.ensures.can.1 (subst (CanKeep c.args.node.now) (sym same.0) can) in
    absurd (true≢false (sym kept ∙ c.if-not-branch.true))

pub returns-clause-whole : goal.returns-clause-whole
returns-clause-whole c = λ g rest fits can is.
    let old = c.args.node.now in
    let same = c.in_ok-read.ensures.only g rest fits is in (
      c.in_ok-restore_group.ensures.kept ∙ (ap (λ b. with_named_if b old (named_of c.in_ok-read.read)) c.if-not-branch.false ∙ ap (with_named old) same.0),
      same.1,
    )
