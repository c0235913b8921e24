use Rattle.std.proofs.Common.{◌≡◌, ℕ, List, [], append-nil, true, eqb, length, None, sym, ap, ◌∙◌, eqb-true, true≢false}
use Rattle.std.proofs.lemmas.List.{nil_from_length}
use Rattle.std.proofs.lemmas.Result.{err_from_is_err_and}
use Rattle.coord_node.specs.Nodes.{NodeValue}
use Rattle.replica_snapshots.specs.Nodes.{node_fields}
use Rattle.coord_replica.proofs.Restored.{all_of}
use Rattle.coord_replica.proofs.replica.Replica.at_place.Goals as goal

pub returns-clause-found : goal.returns-clause-found
returns-clause-found c =
    let n : NodeValue = c.in_ok-node.node in
    let found = c.in_ok-node.ensures.found in
    let none : length c.in_ok-node.rest.now ≡ 0 = eqb-true (length c.in_ok-node.rest.now) 0 (sym c.is_empty.ensures ∙ c.if-not-is_empty.false) in (
      n,
      found.0,
      found.1,
      all_of n c.args.written.now c.in_ok-node.rest.now found.2 (nil_from_length c.in_ok-node.rest.now none),
      λ i. record {
        node = n;
        applied = c.args.place.applied;
        leadership = c.args.place.leadership;
        moment = c.args.place.moment;
        leading = None;
        proposed = c.of_millis.ensures i;
      },
    )

pub returns-in_err-node-clause-whole : goal.returns-in_err-node-clause-whole
returns-in_err-node-clause-whole c =
    let p = err_from_is_err_and c.from_residual.result c.from_residual.ensures.1 in
    rw (p.1, p.2) (λ n can is. c.in_err-node.ensures.whole n [] can (is ∙ sym (append-nil (node_fields n))))

pub returns-then-not-is_empty-clause-whole : goal.returns-then-not-is_empty-clause-whole
returns-then-not-is_empty-clause-whole c = λ n can is.
    let none = (c.in_ok-node.ensures.only n [] can.fits (is ∙ sym (append-nil (node_fields n)))).1 in
    let empty : eqb (length c.in_ok-node.rest.now) 0 ≡ true = ap (λ (l : List ℕ). eqb (length l) 0) none in
    absurd (true≢false (sym empty ∙ (sym c.is_empty.ensures ∙ c.if-not-is_empty.true)))
