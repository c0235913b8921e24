use Rattle.std.proofs.Common.{All}
use Rattle.world_sim.specs.Acting.{act_value, HasShortTopics}
use Rattle.world_tests.proofs.worlds.acts.acts_of.Given as goal

-- the texts so far can be written
abbrev pub invariant-loop-words : goal.invariant-loop-words
invariant-loop-words l = All (λ act. HasShortTopics (act_value act)) l.acts.items
