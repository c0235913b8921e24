use Rattle.std.proofs.Common.{◌≡◌, ◌++◌, map}
use Rattle.std.specs.List.{range_with_len}
use Rattle.uniform_assign.specs.Boards.{place_at}
use Rattle.uniform_assign.proofs.board.add_places.Given as goal

-- the partitions up to this index are added
abbrev pub invariant-loop-index : goal.invariant-loop-index
invariant-loop-index l = l.places.items ≡ l.initial.places.items ++ map (place_at l.at l.topic.id) (range_with_len 0 l.index)
