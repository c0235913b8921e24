-- What a step of a shard does, and what a shard's entries come to: run through the machine from the opening state, they give the shard.
use Rattle.std.specs.Prelude.{◌≡◌, ℕ, ◌+◌, ◌<◌, ◌≤◌, ◌==◌, List, [], All, if◌then◌else◌, map, length, count_by, slice_index, sum}
use Rattle.coord_node.specs.Coordinator.{Coordinator, Answer, opening}
use Rattle.coord_node.specs.Nodes.{coordinator_of}
use Rattle.coord_node.specs.Steps.{Run, Step}
use Rattle.coord_shards.specs.declared.shard.JournalEntry.{JournalEntry}
use Rattle.coord_shards.specs.declared.shard.Shard.TheInside.{Inside}
use Rattle.coord_shards.specs.Limits.{MOST_SEATS}
use Rattle.coord_shards.specs.Events.{node_event}
use Rattle.coord_shards.specs.Home.{IsHome}
use Rattle.coord_shards.specs.Shard.{ShardState, kept_with, one_more}

-- The node goes on by one step of the machine, which gives the answer; the entry is the last; and the count of its seat
-- rises by one, and so does that of all entries.
pub record GoesOn (old : ShardState) (entry : JournalEntry) (given : Answer) (new : ShardState) : Type 0 where
  pub step : Step old.present (node_event entry.event) given new.present
  pub leaves : new ≡ record old { present = new.present; kept = kept_with old.cap old.kept entry; counts = one_more old.counts entry.seat }
  pub total : sum new.counts ≡ sum old.counts + 1

-- a journal with as many entries as it may keep; at cap 0 it never is
abbrev pub IsFull : ShardState → Type 0
IsFull s = (0 < s.cap) × (s.cap ≤ length s.kept)

-- From the opening state the events of these entries, all of one home, lead to a state, one after the other.
pub record RunsTo (shards salt home : ℕ) (entries : List JournalEntry) (state : Coordinator) : Type 0 where
  pub at_home : All (λ e. IsHome shards e.event home) entries
  pub run : (answers : List Answer) × Run (opening salt) (map (λ e. node_event e.event) entries) answers state

-- Some run from the opening state, over entries of one home, reaches this state.
pub record IsReached (state : Coordinator) : Type 0 where
  pub shards : ℕ
  pub salt : ℕ
  pub home : ℕ
  pub entries : List JournalEntry
  pub run : RunsTo shards salt home entries state

-- All entries that were made in a shard: they lead to its present state, its counts are theirs, and above cap 0 it keeps them.
pub record Replay (s : ShardState) : Type 0 where
  pub entries : List JournalEntry
  pub run : RunsTo s.shards s.salt s.number entries s.present
  pub counted : (seat : ℕ) → slice_index s.counts seat ≡ count_by (λ e. e.seat == seat) entries
  pub kept : s.kept ≡ (if s.cap == 0 then [] else entries)

-- what is so of every shard
pub record IsShard (s : ShardState) : Type 0 where
  pub number : s.number < s.shards
  pub seats : length s.counts ≡ MOST_SEATS
  pub few : length s.kept ≤ s.cap
  pub replay : Replay s

-- a shard's fields as what contracts see of it
abbrev pub shard_view : Inside → ShardState
shard_view s =
    record { number = s.number; shards = s.shards; salt = s.settings.salt; cap = s.settings.cap; present = coordinator_of s.node; kept = s.journal.items; counts = s.counts }
