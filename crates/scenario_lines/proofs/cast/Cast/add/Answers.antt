use Rattle.std.proofs.Common.{◌∙◌, ap}
use Rattle.std.specs.Prelude.{map, string_bytes}
use Rattle.scenario_lines.proofs.Casting.{one_name_more}
use Rattle.scenario_lines.proofs.cast.Cast.add.Goals as goal

pub returns : goal.returns
returns c =
    ap (map string_bytes) c.in_ok-insert.ensures.keys
    ∙ one_name_more c.self.inside.names.keys c.args.self.now c.in_ok-from_str.field-0 c.args.name.now c.self.view_is c.in_ok-from_str.ensures.ok c.requires
