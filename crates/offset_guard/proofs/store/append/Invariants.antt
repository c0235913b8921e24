use Rattle.std.proofs.Common.{ℤ, ◌≡◌}
use Rattle.std.specs.Option.{option_or}
use Rattle.indexmap.specs.IndexMap.{index_map_len}
use Rattle.group_types.specs.Text.{Text}
use Rattle.offset_guard.specs.Topics.{HasRoomFor, offset_at}
use Rattle.offset_guard.proofs.store.append.Given as goal

abbrev pub invariant-loop-name : goal.invariant-loop-name
invariant-loop-name l =
    record {
      room : HasRoomFor l.topics l.news;
      merged : (place : Text × ℤ) → option_or (offset_at l.news place) (offset_at l.topics place) ≡ option_or (offset_at l.initial.news place) (offset_at l.initial.topics place);
    }

abbrev pub decreases-loop-name : goal.decreases-loop-name
decreases-loop-name l = index_map_len l.news
