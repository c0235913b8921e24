use Rattle.std.proofs.Common.{◌≡◌, ℕ, List, drop, None}
use Rattle.std.specs.BTreeMap.{get}
use Rattle.group_types.specs.Text.{text_cmp}
use Rattle.topic_meta.specs.Views.{all_named}
use Rattle.group_core.specs.Restoring.{count_behind}
use Rattle.group_core.proofs.owners.counts_of.Given as goal

-- the counts, once those of the topics that are left are taken in, are those of all
abbrev pub invariant-loop-topic : goal.invariant-loop-topic
invariant-loop-topic l =
    (id : List ℕ) → count_behind id (get text_cmp l.counts id) (all_named (drop l.topic-index l.topics)) ≡ count_behind id None (all_named l.topics)
