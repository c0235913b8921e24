use Rattle.std.proofs.Common.{Some, None, add-one, ◌∙◌}
use Rattle.scenario_lines.proofs.Casting.{numbered_at}
use Rattle.scenario_lines.proofs.cast.Cast.number_of.Goals as goal

pub returns-in-Some : goal.returns-in-Some
returns-in-Some c =
    add-one c.in-Some.place ∙ numbered_at c.self.inside.names.keys c.args.self.now c.args.name.now (Some c.in-Some.place) c.self.view_is c.in-Some.ensures.index

pub returns-in-None : goal.returns-in-None
returns-in-None c = numbered_at c.self.inside.names.keys c.args.self.now c.args.name.now None c.self.view_is c.in-None.ensures.index
