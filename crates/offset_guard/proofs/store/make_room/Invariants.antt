use Rattle.std.proofs.Common.{ℕ, ◌<◌, ◌≤◌}
use Rattle.indexmap.specs.IndexMap.{index_map_len, spare}
use Rattle.offset_guard.specs.Topics.{KeepsOffsets}
use Rattle.offset_guard.proofs.Rooms.{HasEntryRoom}
use Rattle.offset_guard.proofs.store.make_room.Given as goal

abbrev pub invariant-loop-at : goal.invariant-loop-at
invariant-loop-at l =
    record {
      offsets : KeepsOffsets l.fn.topics l.topics;
      entries : index_map_len l.news ≤ spare l.topics;
      each : (k : ℕ) → k < l.at → HasEntryRoom l.topics l.news.entries k;
    }
