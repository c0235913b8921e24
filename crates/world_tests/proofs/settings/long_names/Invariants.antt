use Rattle.std.proofs.Common.{map, All, string_bytes}
use Rattle.kip_msgs.specs.Writable.{IsShort}
use Rattle.world_tests.proofs.settings.long_names.Given as goal

-- the names so far can be written
abbrev pub invariant-loop : goal.invariant-loop
invariant-loop l = All IsShort (map string_bytes l.names.items)
