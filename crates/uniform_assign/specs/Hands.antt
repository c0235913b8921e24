-- What the members' hands show while the partitions are dealt.
use Rattle.std.specs.Prelude.{◌==◌, Bool, List, map, not, vec_len}
use Rattle.group_types.specs.Partition.{Partitions}
use Rattle.group_types.specs.Sets.{of_list}
use Rattle.group_types.specs.Text.{Text}
use Rattle.uniform_assign.specs.declared.shares.Hand.{Hand}

-- a hand as the member's id and its partitions
abbrev pub hand_in : Hand → Text × Partitions
hand_in h = (h.id.now, of_list h.parts.items)

abbrev pub hands_in : List Hand → List (Text × Partitions)
hands_in hs = map hand_in hs

-- whether a hand has a partition
abbrev pub has_parts : Hand → Bool
has_parts h = not (vec_len h.parts == 0)
