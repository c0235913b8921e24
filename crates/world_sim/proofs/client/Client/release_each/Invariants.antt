use Rattle.std.proofs.Common.{◌≡◌}
use Rattle.std.specs.Slice.Iter.{iter_rest}
use Rattle.group_types.specs.Sets.{in_order}
use Rattle.world_sim.specs.Places.{releasing_all}
use Rattle.world_sim.proofs.client.Client.release_each.Given as goal

-- the client, once it releases what is left too, is the one that released all
abbrev pub invariant-loop-p : goal.invariant-loop-p
invariant-loop-p l = releasing_all l.self (iter_rest l.p-iterator) ≡ releasing_all l.fn.self (in_order l.parts)
