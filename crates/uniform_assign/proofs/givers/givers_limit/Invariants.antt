use Rattle.std.proofs.Common.{◌≡◌, ◌<◌, ◌≤◌, ◌+◌, ℕ, List, Some}
use Rattle.std.specs.Global.{Vec}
use Rattle.std.specs.List.{slice_get, slice_index}
use Rattle.uniform_assign.specs.declared.board.Board.{Board}
use Rattle.uniform_assign.specs.CountSets.{AreCountSets}
use Rattle.uniform_assign.proofs.givers.givers_limit.Given as goal

-- the limit is at most one more than what the takers of the classes own that were looked at
abbrev pub invariant-loop-set : goal.invariant-loop-set
invariant-loop-set l =
    (board : Board) (counts : List ℕ) → AreCountSets board counts l.sets → (c k m : ℕ) (takers : Vec ℕ) → c < l.set-index → slice_get board.takers.items c ≡ Some takers → slice_get takers.items k ≡ Some m
    → l.limit ≤ slice_index counts m + 1
