use Rattle.std.proofs.Common.{sym, subst}
use Rattle.group_types.specs.Sound.{IsSound}
use Rattle.group_types.proofs.Runs.{ticked_is_sound}
use Rattle.group_core.specs.GroupView.{group_of}
use Rattle.group_core.proofs.group.Group.tick.Goals as goal

pub invariant_of-self : goal.invariant_of-self
invariant_of-self c =
    record {
      sound = subst IsSound (sym c.tick.ensures.ticked) (ticked_is_sound (group_of c.self.inside.state) c.self.invariant.sound c.args.now);
      marked = c.tick.ensures.marks;
    }
