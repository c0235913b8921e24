-- A heartbeat, without its bytes (KIP-848, "ConsumerGroupHeartbeat API").
use Rattle.std.specs.Prelude.{ℕ, zero, suc, ℤ, pos, negsuc, Bool, true, false, ◌||◌, ◌&&◌, not, int_lt, int_le, is_none, is_some, length, ◌==◌, List, Option, Some, None}
use Rattle.std.specs.Option.{option_map}
use Rattle.std.specs.Ordering.{int_eq}
use Rattle.group_types.specs.declared.partition.Partition.{Partition}
use Rattle.group_types.specs.Text.{Text}
use Rattle.group_types.specs.Sets.{nothing, of_list}
use Rattle.group_types.specs.Partition.{Partitions}
use Rattle.group_types.specs.AssignorName.{assignor_named}

pub record Heartbeat : Type 0 where
  pub group : Text
  pub member : Text  -- the member id, empty where it has none yet
  pub epoch : ℤ  -- 0 joins, -1 leaves, -2 goes away for a while
  pub instance : Option Text
  pub rack : Option Text
  pub rebalance_timeout : ℤ  -- in milliseconds, -1 where it is as before
  pub names : Option (List Text)
  pub assignor : Option Text
  pub owned : Option (List Partition)  -- the partitions that TopicPartitions names

-- what a heartbeat is, by its member epoch
pub data Kind : Type 0 where
  Joins : Kind
  Beats : ℕ → Kind  -- at this member epoch, 1 or more
  Leaves : Kind
  GoesAway : Kind
  MeansNothing : Kind  -- a member epoch below -2

abbrev pub kind_of : ℤ → Kind
kind_of (pos zero) = Joins
kind_of (pos (suc n)) = Beats (suc n)
kind_of (negsuc zero) = Leaves
kind_of (negsuc (suc zero)) = GoesAway
kind_of (negsuc (suc (suc n))) = MeansNothing

-- the member epoch of a heartbeat by which a member leaves for good
abbrev pub LEAVES_AT : ℤ
LEAVES_AT = negsuc 0

-- the member epoch of a heartbeat by which a static member goes away for a while
abbrev pub GOES_AWAY_AT : ℤ
GOES_AWAY_AT = negsuc 1

-- the rebalance timeout that leaves the stored one as it is
abbrev pub SAME_TIMEOUT : ℤ
SAME_TIMEOUT = negsuc 0

abbrev pub is_empty : {X : Type 0} → List X → Bool
is_empty xs = length xs == 0

abbrev pub is_given_empty : {X : Type 0} → Option (List X) → Bool
is_given_empty None = false
is_given_empty (Some xs) = is_empty xs

abbrev pub is_given_some : {X : Type 0} → Option (List X) → Bool
is_given_some None = false
is_given_some (Some xs) = not (is_empty xs)

-- A join is invalid without a rebalance timeout, without names, under an empty instance id, or where it
-- says to own a partition.
abbrev pub is_invalid_join : Heartbeat → Bool
is_invalid_join q =
    int_eq q.rebalance_timeout SAME_TIMEOUT || is_none q.names || is_given_empty q.instance || is_given_some q.owned

-- What is invalid beside an empty group id, by the kind of heartbeat: a member epoch that means nothing, no
-- member id where one is wanted, no instance id to go away under, a rebalance timeout below -1.
abbrev pub is_invalid_as : Heartbeat → Kind → Bool
is_invalid_as q Joins = int_lt q.rebalance_timeout SAME_TIMEOUT || is_invalid_join q
is_invalid_as q (Beats epoch) = is_empty q.member || int_lt q.rebalance_timeout SAME_TIMEOUT
is_invalid_as q Leaves = is_empty q.member
is_invalid_as q GoesAway = is_empty q.member || is_none q.instance
is_invalid_as q MeansNothing = true

-- INVALID_REQUEST
abbrev pub is_invalid : Heartbeat → Bool
is_invalid q = is_empty q.group || is_invalid_as q (kind_of q.epoch)

abbrev pub is_unknown : Option Text → Bool
is_unknown None = false
is_unknown (Some name) = is_none (assignor_named name)

-- UNSUPPORTED_ASSIGNOR, where the member epoch is 0 or more
abbrev pub is_unsupported : Heartbeat → Bool
is_unsupported q = int_le (pos 0) q.epoch && is_unknown q.assignor

-- All that a member may say is said: it joins, or timeout, names and partitions are given.
abbrev pub is_full : Heartbeat → Bool
is_full q =
    int_eq q.epoch (pos 0) || (not (int_eq q.rebalance_timeout SAME_TIMEOUT) && is_some q.names && is_some q.owned)

-- ---- what a member reports that it owns: a join that it owns nothing, and nothing at all where the field is null

abbrev pub reported_at : Kind → Option (List Partition) → Option Partitions
reported_at Joins owned = Some nothing
reported_at (Beats epoch) owned = option_map of_list owned
reported_at Leaves owned = None
reported_at GoesAway owned = None
reported_at MeansNothing owned = None

abbrev pub reported : Heartbeat → Option Partitions
reported q = reported_at (kind_of q.epoch) q.owned
