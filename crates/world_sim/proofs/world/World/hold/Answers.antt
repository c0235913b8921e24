use Rattle.std.proofs.Common.{subst}
use Rattle.world_sim.specs.World.{World}
use Rattle.world_sim.specs.Exclusivity.{ActsLawfully, BringsHeld, CommitHeld, HoldApart, HoldGranted, ShowGranted, SinceGranted}
use Rattle.world_sim.specs.Invariant.{Keeps}
use Rattle.world_sim.proofs.Reaching.{always}
use Rattle.world_sim.proofs.world.World.hold.Goals as goal

pub returns-clause-keeps : goal.returns-clause-keeps
returns-clause-keeps c = subst (λ (w : World). Keeps w) c.self.view_is (always Keeps c.every_act_keeps_the_invariant.ensures _ c.self.invariant)

pub returns-clause-apart : goal.returns-clause-apart
returns-clause-apart c = subst (λ (w : World). HoldApart w) c.self.view_is (always HoldApart c.members_hold_apart.ensures.apart _ c.self.invariant)

pub returns-clause-granted : goal.returns-clause-granted
returns-clause-granted c = subst (λ (w : World). HoldGranted w) c.self.view_is (always HoldGranted c.members_hold_apart.ensures.granted _ c.self.invariant)

pub returns-clause-shown : goal.returns-clause-shown
returns-clause-shown c = subst (λ (w : World). ShowGranted w) c.self.view_is (always ShowGranted c.replies_show_what_is_granted.ensures _ c.self.invariant)

pub returns-clause-commits : goal.returns-clause-commits
returns-clause-commits c = subst (λ (w : World). CommitHeld w) c.self.view_is (always CommitHeld c.commits_are_taken_while_held.ensures.taken _ c.self.invariant)

pub returns-clause-since : goal.returns-clause-since
returns-clause-since c = subst (λ (w : World). SinceGranted w) c.self.view_is (always SinceGranted c.commits_are_taken_while_held.ensures.since _ c.self.invariant)

pub returns-clause-brought : goal.returns-clause-brought
returns-clause-brought c = subst (λ (w : World). BringsHeld w) c.self.view_is (always BringsHeld c.commits_are_taken_while_held.ensures.brought _ c.self.invariant)

pub returns-clause-lawful : goal.returns-clause-lawful
returns-clause-lawful c = subst (λ (w : World). ActsLawfully w) c.self.view_is (always ActsLawfully c.targets_are_renewed_lawfully.ensures _ c.self.invariant)
