use Rattle.range_assign.specs.Shares.{shares_in}
use Rattle.replica_snapshots.specs.Building.{CanAddMember, with_part}
use Rattle.replica_snapshots.specs.Spelling.{FitsMember, member_fields}
use Rattle.replica_snapshots.specs.Views.{unread}
use Rattle.replica_snapshots.proofs.Adding.{IsAdding}
use Rattle.replica_snapshots.proofs.reading.add_each_member.Given as goal

abbrev pub invariant-loop : goal.invariant-loop
invariant-loop l = IsAdding FitsMember member_fields CanAddMember with_part l.count l.counter (l.fn.group, shares_in l.fn.shares.items) (l.group, shares_in l.shares.items) (unread l.fn.cursor) (unread l.cursor)
