use Rattle.std.proofs.Common.{◌≡◌, ◌≤◌, ◌-◌, ◌+◌, length, get_or, subst, arith}
use Rattle.std.proofs.lemmas.List.{length-map}
use Rattle.uniform_assign.specs.CountSets.{counts_of}
use Rattle.uniform_assign.proofs.Ranked.{AreMatchesFrom, AreMatchesFrom-played, AreRanks-played}
use Rattle.uniform_assign.proofs.count_set.tree_of.Goals as goal

pub loop-node-init : goal.loop-node-init
loop-node-init c =
    let long = length-map c.args.takers.now (λ t. get_or c.args.counts.now t 0) in
    (let low : length c.args.takers.now ≤ length c.args.takers.now = omega arith in low, c.in_ok-nodes.ensures, λ i above positive within. absurd (omega arith))

pub loop-node-preserved : goal.loop-node-preserved
loop-node-preserved c =
    let counts = counts_of c.args.counts.now c.args.takers.now in
    let old = c.loop-node.nodes.items in
    let new = c.play.new.nodes.items in
    let p = c.loop-node.node - 1 in
    let (low, are, matches) = c.loop-node.invariant in
    let more = c.loop-node-test.true in
    let long = length-map c.args.takers.now (λ t. get_or c.args.counts.now t 0) in
    let same : c.loop-node.node ≡ p + 1 = omega arith in (
      omega arith,
      AreRanks-played old new p c.play.ensures counts (omega arith) are,
      AreMatchesFrom-played counts old new p are (omega arith) (omega arith) (subst (λ n. AreMatchesFrom n (length counts) old) same matches) c.play.ensures,
    )

pub returns : goal.returns
returns c =
    let (low, are, matches) = c.loop-node.invariant in
    let last = c.loop-node-test.false in
    record { are_ranks = are; matches = λ i positive within. matches i (omega arith) positive within }
