use Rattle.std.proofs.Common.{◌≡◌, ◌++◌, take}
use Rattle.std.specs.List.{flat_map}
use Rattle.scenario_text.specs.Reports.{behind_comma}
use Rattle.scenario_text.proofs.page.Page.behind_commas.Given as goal

abbrev pub invariant-loop-index : goal.invariant-loop-index
invariant-loop-index l = l.self ≡ l.initial.self ++ flat_map behind_comma (take l.index-index l.indexes)
