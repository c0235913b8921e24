-- What a node knows of a group that it keeps.
use Rattle.std.specs.Prelude.{◌≡◌, ℕ, ◌≤◌, ◌==◌, pos, int_lt, Bool, false, if◌then◌else◌, Option, Some, None}
use Rattle.group_types.specs.Topics.{Topics}
use Rattle.group_types.specs.Group.{Group}
use Rattle.group_types.specs.HeartbeatStep as group
use Rattle.group_core.specs.Outcome.{IsCurrent}
use Rattle.coord_node.specs.declared.kept.Kept.{Kept}
use Rattle.coord_node.specs.Steps.{is_success}

-- the group's state
abbrev pub group_in : Kept → Group
group_in k = k.group.state

-- Images are numbered in the order of their coming, as long as there are numbers. Where the number that a group has is the
-- present image's, its view is that image's; and no group has the number of an image that hasn't come.
pub record HasRightNumber (generation : Option ℕ) (image : Topics) (k : Kept) : Type 0 where
  pub current : (n : ℕ) → generation ≡ Some n → k.known ≡ Some n → IsCurrent (group_in k) image
  pub come : (n m : ℕ) → generation ≡ Some n → k.known ≡ Some m → m ≤ n

-- the numbers are there, and are one
abbrev pub is_same : Option ℕ → Option ℕ → Bool
is_same None b = false
is_same (Some n) None = false
is_same (Some n) (Some m) = n == m

-- An accepted heartbeat of epoch 0 or more met the image. A member that left may have been the last one that subscribed a topic. What
-- is refused or closes changes nothing.
abbrev pub known_after : group.Answer → Option ℕ → Option ℕ → Option ℕ
known_after (group.Replied r) before generation =
    if is_success r.code then (if int_lt r.epoch (pos 0) then None else generation) else before
known_after group.Closes before generation = before
