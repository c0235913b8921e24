use Rattle.std.proofs.Common.{◌≡◌, ◌+◌, ◌≤◌, map, length}
use Rattle.std.specs.Prelude.{string_bytes}
use Rattle.std.specs.Vec.Iter.{into_iter_items}
use Rattle.indexmap.specs.IndexMap.{spare}
use Rattle.group_types.specs.Text.{Text}
use Rattle.group_epochs.specs.Counts.{AreSome, count_of, times}
use Rattle.group_epochs.proofs.counts.count_up.Given as goal

-- with those that are left all are counted
abbrev pub invariant-loop-name : goal.invariant-loop-name
invariant-loop-name l =
    record {
      counted : (name : Text) → count_of l.counts name + times name (map string_bytes (into_iter_items l.name-iterator)) ≡ count_of l.initial.counts name + times name (map string_bytes l.fn.names.items);
      some : AreSome l.initial.counts → AreSome l.counts;
      room : length (into_iter_items l.name-iterator) ≤ spare l.counts;
    }
