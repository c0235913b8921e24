use Rattle.std.proofs.Common.{◌≡◌, ◌-◌}
use Rattle.group_types.specs.Sets.{nothing}
use Rattle.replica_snapshots.specs.Reading.{names_into}
use Rattle.replica_snapshots.specs.Views.{unread}
use Rattle.replica_snapshots.proofs.cursor.Cursor.each_name.Given as goal

abbrev pub invariant-loop : goal.invariant-loop
invariant-loop l = names_into (l.count - l.counter) l.names (unread l.self) ≡ names_into l.count nothing (unread l.fn.self)
