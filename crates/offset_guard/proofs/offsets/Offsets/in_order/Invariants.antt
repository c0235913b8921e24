use Rattle.std.proofs.Common.{◌≡◌, ◌++◌, map}
use Rattle.std.specs.List.{flat_map}
use Rattle.offset_guard.specs.Listing.{entries_of_topic, entry_of, named}
use Rattle.offset_guard.proofs.offsets.Offsets.in_order.Given as goal

-- with those that are left they are all
abbrev pub invariant-loop-name : goal.invariant-loop-name
invariant-loop-name l =
    map entry_of l.list.items ++ flat_map entries_of_topic (map named l.name-iterator.rest.items)
    ≡ flat_map entries_of_topic (map named l.initial.name-iterator.rest.items)
