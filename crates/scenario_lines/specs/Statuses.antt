-- How a run of the program ends. The statuses are this program's own.
use Rattle.std.specs.Prelude.{◌≤◌}
use Rattle.scenario_lines.specs.declared.program.Ran.{Ran}
use Rattle.scenario_lines.specs.declared.program.Ran.TheVariants.{Ended, Serves}

-- a run that has ended did so with 0, 1 or 2
abbrev pub HasStatus : Ran → Type 0
HasStatus (Ended status) = status ≤ 2
HasStatus (Serves service) = Unit {0}
