use Rattle.std.proofs.Common.{◌≡◌, map, take, string_bytes}
use Rattle.member_core.proofs.machine.asking.names_of.Given as goal

abbrev pub invariant-loop-name : goal.invariant-loop-name
invariant-loop-name l = map (λ name. name.now) l.all ≡ map string_bytes (take l.name-index l.names)
