use Rattle.std.proofs.Common.{sym, ◌∙◌}
use Rattle.uniform_assign.proofs.Owned.{count-none, count-share}
use Rattle.uniform_assign.proofs.stay.owned_near.Goals as goal

pub returns-in-Some : goal.returns-in-Some
returns-in-Some c = c.len.ensures ∙ count-share c.args.former.now c.args.id.now c.in-Some.set.now c.in-Some.ensures

pub returns-in-None : goal.returns-in-None
returns-in-None c = sym (count-none c.args.former.now c.args.id.now c.in-None.ensures)
