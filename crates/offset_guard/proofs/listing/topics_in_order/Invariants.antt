use Rattle.std.proofs.Common.{◌≡◌, ◌++◌, map}
use Rattle.offset_guard.specs.Listing.{named}
use Rattle.offset_guard.proofs.Listings.{by_text}
use Rattle.offset_guard.proofs.listing.topics_in_order.Given as goal

-- with those that are left they are all
abbrev pub invariant-loop-name : goal.invariant-loop-name
invariant-loop-name l = map named l.list.items ++ map by_text l.name-iterator ≡ map by_text l.initial.name-iterator
