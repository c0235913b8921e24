use Rattle.std.proofs.Common.{◌≡◌, map, take}
use Rattle.group_types.specs.Sets.{of_list}
use Rattle.group_epochs.proofs.given.set_of.Given as goal

abbrev pub invariant-loop-name : goal.invariant-loop-name
invariant-loop-name l = l.set ≡ of_list (map (λ name. name.now) (take l.name-index l.names))
