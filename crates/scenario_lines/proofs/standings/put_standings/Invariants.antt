use Rattle.std.proofs.Common.{◌≡◌, ◌++◌, map, take, string_bytes}
use Rattle.scenario_lines.specs.Shows.{standings_text}
use Rattle.scenario_lines.proofs.standings.put_standings.Given as goal

abbrev pub invariant-loop-place : goal.invariant-loop-place
invariant-loop-place l = l.page ≡ l.initial.page ++ standings_text (take l.place (map string_bytes l.names)) l.world.clients
