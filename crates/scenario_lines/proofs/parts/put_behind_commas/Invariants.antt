use Rattle.std.proofs.Common.{◌≡◌, ◌++◌, take}
use Rattle.std.specs.List.{flat_map}
use Rattle.scenario_lines.specs.Shows.{partition_behind_comma}
use Rattle.scenario_lines.proofs.parts.put_behind_commas.Given as goal

abbrev pub invariant-loop-partition : goal.invariant-loop-partition
invariant-loop-partition l =
    l.page ≡ l.initial.page ++ flat_map partition_behind_comma (take l.partition-index l.partitions)
