use Rattle.std.proofs.Common.{map, All, string_bytes}
use Rattle.kip_msgs.specs.Writable.{IsShort}
use Rattle.world_tests.proofs.settings.names_of.Given as goal

-- the names so far can be written
abbrev pub invariant-loop-name : goal.invariant-loop-name
invariant-loop-name l = All IsShort (map string_bytes l.names.items)
