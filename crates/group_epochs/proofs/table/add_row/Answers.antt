use Rattle.std.proofs.Common.{◌∙◌}
use Rattle.std.specs.String.{string_eq}
use Rattle.indexmap.proofs.CallerLemmas.{insert_entry-new}
use Rattle.group_epochs.proofs.table.add_row.Goals as goal

pub returns-clause-rows : goal.returns-clause-rows
returns-clause-rows c = c.in-Ok.ensures.entries ∙ insert_entry-new string_eq c.args.members.now c.args.text c.args.entry c.requires.absent
