use Rattle.std.proofs.Common.{rules}
use Rattle.scenario_text.proofs.Numbers.{no_other_count}
use Rattle.scenario_text.proofs.words.count_of.Goals as goal

pub returns-clause-none : goal.returns-clause-none
returns-clause-none c = no_other_count _ c.in_ok-number_of.field-0 _ _ (search rules) c.in_ok-number_of.ensures.some.1 c.try_from.ensures c.ok.ensures.value
