use Rattle.uniform_assign.specs.Drafts.{IsSingleTo}
use Rattle.uniform_assign.proofs.draft.Draft.is_single.Given as goal

abbrev pub invariant-loop-owner : goal.invariant-loop-owner
invariant-loop-owner l = IsSingleTo l.self l.owner-index
