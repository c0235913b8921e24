use Rattle.std.proofs.Common.{◌≡◌, ◌++◌, map, take}
use Rattle.kip_msgs.specs.Views.{commit_reply_partition_value}
use Rattle.scenario_text.specs.Reports.{spaced}
use Rattle.scenario_lines.specs.Shows.{code_word}
use Rattle.scenario_lines.proofs.answers.put_code_words.Given as goal

abbrev pub invariant-loop-partition : goal.invariant-loop-partition
invariant-loop-partition l =
    l.page ≡ l.initial.page ++ spaced (map code_word (map commit_reply_partition_value (take l.partition-index l.partitions)))
