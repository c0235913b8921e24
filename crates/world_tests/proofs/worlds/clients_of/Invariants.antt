use Rattle.std.proofs.Common.{All}
use Rattle.member_core.specs.Views.{settings_value, HasShortTexts}
use Rattle.world_tests.proofs.worlds.clients_of.Given as goal

-- the texts so far can be written
abbrev pub invariant-loop-words : goal.invariant-loop-words
invariant-loop-words l = All (λ settings. HasShortTexts (settings_value settings)) l.each.items
