use Rattle.std.proofs.Common.{arith}
use Rattle.scenario_lines.proofs.Asked.{one_named, none_named, length-are}
use Rattle.scenario_lines.proofs.act.one_client.Goals as goal

pub returns-in_default-clause-refused : goal.returns-in_default-clause-refused
returns-in_default-clause-refused c = λ client n.
    let size = length-are c.args.arguments.now _ n.are in
    omega arith

pub returns-clause-client : goal.returns-clause-client
returns-clause-client c = one_named c.args.cast.now c.args.arguments.now c.client.result c.in-len1.len_at_least c.in-len1.len_below c.client.ensures.client

pub returns-clause-refused : goal.returns-clause-refused
returns-clause-refused c = none_named c.args.cast.now c.args.arguments.now c.client.result c.in-len1.len_at_least c.in-len1.len_below c.client.ensures.refused
