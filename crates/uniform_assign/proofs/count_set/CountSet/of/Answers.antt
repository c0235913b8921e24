use Rattle.std.proofs.Common.{List, ℕ, sym, subst}
use Rattle.uniform_assign.specs.CountSets.{IsTree, counts_of}
use Rattle.uniform_assign.proofs.Ranked.{counts_in-tree}
use Rattle.uniform_assign.proofs.count_set.CountSet.of.Goals as goal

pub invariant_of-result : goal.invariant_of-result
invariant_of-result c =
    let nodes = c.in_ok-nodes.nodes.items in
    subst (λ (xs : List ℕ). IsTree xs nodes) (sym (counts_in-tree (counts_of c.args.counts.now c.args.takers.now) nodes c.in_ok-nodes.ensures)) c.in_ok-nodes.ensures

pub returns : goal.returns
returns c = counts_in-tree (counts_of c.args.counts.now c.args.takers.now) c.in_ok-nodes.nodes.items c.in_ok-nodes.ensures
