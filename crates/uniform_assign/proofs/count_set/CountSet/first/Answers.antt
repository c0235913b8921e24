use Rattle.std.proofs.Common.{List, ℕ, subst}
use Rattle.uniform_assign.specs.CountSets.{IsFirstRankOf, counts_in}
use Rattle.uniform_assign.proofs.count_set.CountSet.first.Goals as goal

pub returns : goal.returns
returns c = subst (λ (xs : List ℕ). IsFirstRankOf xs c.first_of_all.result) c.self.view_is (c.first_of_all.ensures (counts_in c.self.inside.nodes.items) c.self.invariant)
