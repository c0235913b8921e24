use Rattle.std.proofs.Common.{◌≡◌, ◌+◌, ◌≤◌, drop}
use Rattle.group_types.specs.declared.assignor_name.AssignorName.TheVariants.{Range, Uniform}
use Rattle.group_types.specs.Assignors.{votes}
use Rattle.range_assign.specs.Members.{subscribers_in}
use Rattle.range_assign.proofs.subs.votes_of.Given as goal

-- what was counted, and what is left to count
abbrev pub invariant-loop-member : goal.invariant-loop-member
invariant-loop-member l = record {
  range_few : l.range ≤ l.member-index;
  uniform_few : l.uniform ≤ l.member-index;
  range : l.range + votes (subscribers_in (drop l.member-index l.members)) Range ≡ votes (subscribers_in l.members) Range;
  uniform : l.uniform + votes (subscribers_in (drop l.member-index l.members)) Uniform ≡ votes (subscribers_in l.members) Uniform;
}
