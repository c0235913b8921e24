use Rattle.std.proofs.Common.{◌≡◌, ◌++◌, map}
use Rattle.offset_guard.specs.Listing.{entry_of, indexed}
use Rattle.offset_guard.proofs.listing.add_topic.Given as goal

-- with those that are left they are all
abbrev pub invariant-loop-index : goal.invariant-loop-index
invariant-loop-index l =
    map entry_of l.list.items ++ map (λ e. ((l.name, e.0), e.1)) (map indexed l.index-iterator.rest.items)
    ≡ map entry_of l.initial.list.items ++ map (λ e. ((l.name, e.0), e.1)) (map indexed l.initial.index-iterator.rest.items)
