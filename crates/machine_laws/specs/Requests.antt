-- KIP-848, "ConsumerGroupHeartbeat API": what is wrong with a request, which assignor is none, and when a heartbeat says all.
use Rattle.std.specs.Prelude.{◌≡◌, ◌≢◌, ◌↔◌, ℕ, suc, pos, negsuc, true, List, [], ◌∷◌, Some, None, codes}
use Rattle.group_types.specs.declared.partition.Partition.{Partition}
use Rattle.group_types.specs.Text.{Text}
use Rattle.group_types.specs.Request.{Heartbeat, is_full, is_invalid, is_unsupported}

-- The reasons of INVALID_REQUEST. Member epoch 0 joins, 1 and more beat, -1 leaves, and -2 goes away for a while.
pub data IsWrong (q : Heartbeat) : Type 0 where
  no_group : q.group ≡ [] → IsWrong q
  epoch_below_minus_2 : (n : ℕ) → q.epoch ≡ negsuc (suc (suc n)) → IsWrong q
  no_member : q.epoch ≢ pos 0 → q.member ≡ [] → IsWrong q
  no_instance_to_go_away : q.epoch ≡ negsuc 1 → q.instance ≡ None → IsWrong q
  timeout_below_minus_1 : (epoch n : ℕ) → q.epoch ≡ pos epoch → q.rebalance_timeout ≡ negsuc (suc n) → IsWrong q
  join_without_timeout : q.epoch ≡ pos 0 → q.rebalance_timeout ≡ negsuc 0 → IsWrong q
  join_without_names : q.epoch ≡ pos 0 → q.names ≡ None → IsWrong q
  join_under_empty_instance : q.epoch ≡ pos 0 → q.instance ≡ Some [] → IsWrong q
  join_that_owns : (p : Partition) (others : List Partition) → q.epoch ≡ pos 0 → q.owned ≡ Some (p ∷ others) → IsWrong q

-- the reason of UNSUPPORTED_ASSIGNOR: a join or a beat names one that is neither of the two
pub record AsksForAnother (q : Heartbeat) : Type 0 where
  pub epoch : ℕ
  pub is_epoch : q.epoch ≡ pos epoch
  pub name : Text
  pub is_name : q.assignor ≡ Some name
  pub not_range : name ≢ codes "range"
  pub not_uniform : name ≢ codes "uniform"

-- a heartbeat that says all that a member may say: it joins, or gives its timeout, its names and what it owns
pub data SaysAll (q : Heartbeat) : Type 0 where
  joins : q.epoch ≡ pos 0 → SaysAll q
  gives : (names : List Text) (owned : List Partition) → q.rebalance_timeout ≢ negsuc 0 → q.names ≡ Some names → q.owned ≡ Some owned → SaysAll q

-- `HeartbeatsAreCheckedInOrder` and `AssignmentsAreNews` speak of these
pub record RequestsByReason : Type 0 where
  pub invalid : (q : Heartbeat) → (is_invalid q ≡ true) ↔ IsWrong q
  pub unsupported : (q : Heartbeat) → (is_unsupported q ≡ true) ↔ AsksForAnother q
  pub full : (q : Heartbeat) → (is_full q ≡ true) ↔ SaysAll q
