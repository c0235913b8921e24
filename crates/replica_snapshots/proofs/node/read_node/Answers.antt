use Rattle.std.proofs.Common.{◌≡◌, ◌++◌, length, ap, sym, subst, ◌∙◌, append_assoc}
use Rattle.std.specs.List.{flat_map}
use Rattle.std.proofs.lemmas.List.Elements.{recursion_from_All}
use Rattle.std.proofs.lemmas.Result.{err_from_is_err_and}
use Rattle.coord_node.specs.Nodes.{NodeValue, with_named}
use Rattle.replica_snapshots.specs.Building.{CanEach}
use Rattle.replica_snapshots.specs.Groups.{FitsNamed, named_fields}
use Rattle.replica_snapshots.specs.Nodes.{HeadValue, head_fields, head_of}
use Rattle.replica_snapshots.specs.Restoring.{CanKeep, ReadsGroups}
use Rattle.replica_snapshots.specs.Views.{head_value}
use Rattle.replica_snapshots.proofs.GroupLaws.{node_begins}
use Rattle.replica_snapshots.proofs.NodeLaws.{bare, node_read}
use Rattle.replica_snapshots.proofs.NodeWhole.{groups_can}
use Rattle.replica_snapshots.proofs.node.read_node.Goals as goal

pub returns-clause-found : goal.returns-clause-found
returns-clause-found c =
    let h = head_value c.in_ok-head.head in
    let start : c.set_image.new.self ≡ bare h.salt h.image =
    c.set_image.ensures.value ∙ ap (λ (n : NodeValue). record n { image = h.image }) c.new-node.ensures in
    let groups =
    subst (λ (n : NodeValue). ReadsGroups h.groups c.in_ok-head.rest.now c.in_ok-rest.rest.now n c.read_groups.new.node) start c.in_ok-rest.ensures.found in
    let read =
    node_read h c.args.bytes.now c.in_ok-head.rest.now c.in_ok-rest.rest.now c.read_groups.new.node c.in_ok-head.ensures.found.0
    c.in_ok-head.ensures.found.1 groups in
    (read.0, c.group_count.ensures.once, read.1)

pub returns-clause-only : goal.returns-clause-only
returns-clause-only c = λ n rest fits is.
    let found = returns-clause-found c in
    node_begins.holds c.read_groups.new.node n c.in_ok-rest.rest.now rest found.0 fits (sym found.2 ∙ is)

pub returns-in_err-head-clause-whole : goal.returns-in_err-head-clause-whole
returns-in_err-head-clause-whole c =
    let p = err_from_is_err_and c.from_residual.result c.from_residual.ensures.1 in
    rw (p.1, p.2) (λ n rest can is.
    let behind = flat_map named_fields n.groups in
    c.in_err-head.ensures.whole (head_of n) (behind ++ rest) can.fits.head can.can.image (is ∙ append_assoc (head_fields (head_of n)) behind rest))

pub returns-in_err-rest-clause-whole : goal.returns-in_err-rest-clause-whole
returns-in_err-rest-clause-whole c =
    let p = err_from_is_err_and c.from_residual-in_err-rest.result c.from_residual-in_err-rest.ensures.1 in
    let h = head_value c.in_ok-head.head in
    rw (p.1, p.2) (λ n rest can is.
    let behind = flat_map named_fields n.groups in
    let head = c.in_ok-head.ensures.only (head_of n) (behind ++ rest) can.fits.head (is ∙ append_assoc (head_fields (head_of n)) behind rest) in
    let start : c.set_image.new.self ≡ bare n.salt n.image =
    c.set_image.ensures.value
    ∙ (ap (λ (m : NodeValue). record m { image = h.image }) c.new-node.ensures ∙ ap (λ (v : HeadValue). bare v.salt v.image) head.0) in
    let number : length n.groups ≡ h.groups = sym (ap (λ (v : HeadValue). v.groups) head.0) in
    c.in_err-rest.ensures.whole n.groups rest (number, recursion_from_All FitsNamed n.groups can.fits.groups)
    (subst (λ (m : NodeValue). CanEach CanKeep with_named m n.groups) (sym start) (groups_can n can)) head.1)
