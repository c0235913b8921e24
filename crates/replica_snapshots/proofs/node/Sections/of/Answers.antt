use Rattle.replica_snapshots.proofs.node.Sections.of.Goals as goal

pub returns-clause-node : goal.returns-clause-node
returns-clause-node c = λ i. record { salt = c.salt.ensures i; image = c.image.ensures i; groups = c.in_ok-groups.ensures.groups i }
