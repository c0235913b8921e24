use Rattle.std.proofs.Common.{◌≡◌, map, string_bytes}
use Rattle.std.specs.FinMap as finite
use Rattle.std.specs.Option.{option_copied}
use Rattle.group_types.specs.Sets.{nothing}
use Rattle.group_epochs.specs.Counts.{with_asked}
use Rattle.group_epochs.proofs.counts.found_of.Given as goal

-- with the topics that are left they are all
abbrev pub invariant-loop-name : goal.invariant-loop-name
invariant-loop-name l =
    with_asked (option_copied l.former) l.names l.counts l.found (map string_bytes l.name-iterator)
    ≡ with_asked (option_copied l.former) l.names l.counts nothing (finite.keys l.image)
