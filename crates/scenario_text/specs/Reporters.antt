-- What prints the reports of `coord frame`.
use Rattle.std.specs.Prelude.{[]}
use Rattle.std.specs.declared.alloc.Global.{Global}
use Rattle.scenario_text.specs.declared.frames.Reporter.{Reporter}

-- before the first line its page is empty
abbrev pub new_reporter : Global → Reporter
new_reporter alloc = record { alloc = alloc; page = [] }
