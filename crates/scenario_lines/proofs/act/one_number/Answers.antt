use Rattle.std.proofs.Common.{arith}
use Rattle.scenario_lines.proofs.Asked.{one_numbered, none_numbered, length-are}
use Rattle.scenario_lines.proofs.act.one_number.Goals as goal

pub returns-in_default-clause-refused : goal.returns-in_default-clause-refused
returns-in_default-clause-refused c = λ number n.
    let size = length-are c.args.arguments.now _ n.are in
    omega arith

pub returns-clause-number : goal.returns-clause-number
returns-clause-number c = one_numbered c.args.arguments.now c.number_of.result c.ok_or.result _ c.in-len1.len_at_least c.in-len1.len_below c.ok_or.ensures.value c.number_of.ensures.some

pub returns-clause-refused : goal.returns-clause-refused
returns-clause-refused c = none_numbered c.args.arguments.now c.number_of.result c.ok_or.result _ c.in-len1.len_at_least c.in-len1.len_below c.ok_or.ensures.value c.number_of.ensures.none
