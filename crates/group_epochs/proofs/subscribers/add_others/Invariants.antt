use Rattle.std.proofs.Common.{◌≡◌, ◌++◌, map}
use Rattle.std.specs.VecDeque.Iter.{deque_iter_rest}
use Rattle.range_assign.specs.Members.{subscribers_in}
use Rattle.group_epochs.specs.Table.{other_places, rows_at, seen_of}
use Rattle.group_epochs.proofs.subscribers.add_others.Given as goal

-- with those that are left they are all
abbrev pub invariant-loop-place : goal.invariant-loop-place
invariant-loop-place l =
    subscribers_in l.subscribers.items ++ map seen_of (rows_at l.members.entries (other_places l.own (deque_iter_rest l.place-iterator)))
    ≡ subscribers_in l.initial.subscribers.items ++ map seen_of (rows_at l.members.entries (other_places l.own (deque_iter_rest l.places)))
