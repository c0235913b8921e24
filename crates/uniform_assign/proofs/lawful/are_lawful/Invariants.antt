use Rattle.range_assign.specs.Members.{subscribers_in}
use Rattle.range_assign.specs.Shares.{shares_in}
use Rattle.uniform_assign.proofs.Staying.{AreSeen}
use Rattle.uniform_assign.proofs.lawful.are_lawful.Given as goal

abbrev pub invariant-loop-share : goal.invariant-loop-share
invariant-loop-share l = AreSeen l.view (subscribers_in l.members) l.topics (shares_in l.share-items) l.share-index l.marks.items
