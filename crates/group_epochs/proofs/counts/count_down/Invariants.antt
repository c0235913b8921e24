use Rattle.std.proofs.Common.{◌≡◌, ◌-◌, ◌≤◌}
use Rattle.indexmap.specs.IndexMap.{spare}
use Rattle.group_types.specs.Sets.{in_order}
use Rattle.group_types.specs.Text.{Text}
use Rattle.group_types.proofs.NameLemmas.{texts_of}
use Rattle.group_epochs.specs.Counts.{AreSome, count_of, times}
use Rattle.group_epochs.proofs.counts.count_down.Given as goal

-- with those that are left all are taken
abbrev pub invariant-loop-name : goal.invariant-loop-name
invariant-loop-name l =
    record {
      counted : (name : Text) → count_of l.counts name - times name (texts_of l.name-iterator) ≡ count_of l.initial.counts name - times name (in_order l.names);
      some : AreSome l.initial.counts → AreSome l.counts;
      room : spare l.initial.counts ≤ spare l.counts;
    }
