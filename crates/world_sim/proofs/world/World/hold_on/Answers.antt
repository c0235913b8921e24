use Rattle.std.proofs.Common.{subst}
use Rattle.world_sim.specs.World.{World}
use Rattle.world_sim.specs.Exclusivity.{BringsHeld, CommitHeld, HoldApart, HoldGranted, HoldsOn, IsExclusive, ShowGranted, SinceGranted}
use Rattle.world_sim.specs.Running.{StaysLawful, StaysSo}
use Rattle.world_sim.proofs.Reaching.{holds_on, stays_lawful, stays_so}
use Rattle.world_sim.proofs.world.World.hold_on.Goals as goal

pub returns-clause-apart : goal.returns-clause-apart
returns-clause-apart c = subst (λ (w : World). StaysSo HoldApart w) c.self.view_is (stays_so HoldApart c.members_hold_apart.ensures.apart _ c.self.invariant)

pub returns-clause-granted : goal.returns-clause-granted
returns-clause-granted c = subst (λ (w : World). StaysSo HoldGranted w) c.self.view_is (stays_so HoldGranted c.members_hold_apart.ensures.granted _ c.self.invariant)

pub returns-clause-shown : goal.returns-clause-shown
returns-clause-shown c = subst (λ (w : World). StaysSo ShowGranted w) c.self.view_is (stays_so ShowGranted c.replies_show_what_is_granted.ensures _ c.self.invariant)

pub returns-clause-commits : goal.returns-clause-commits
returns-clause-commits c = subst (λ (w : World). StaysSo CommitHeld w) c.self.view_is (stays_so CommitHeld c.commits_are_taken_while_held.ensures.taken _ c.self.invariant)

pub returns-clause-since : goal.returns-clause-since
returns-clause-since c = subst (λ (w : World). StaysSo SinceGranted w) c.self.view_is (stays_so SinceGranted c.commits_are_taken_while_held.ensures.since _ c.self.invariant)

pub returns-clause-brought : goal.returns-clause-brought
returns-clause-brought c = subst (λ (w : World). StaysSo BringsHeld w) c.self.view_is (stays_so BringsHeld c.commits_are_taken_while_held.ensures.brought _ c.self.invariant)

pub returns-clause-lawful : goal.returns-clause-lawful
returns-clause-lawful c = subst (λ (w : World). StaysLawful w) c.self.view_is (stays_lawful c.targets_are_renewed_lawfully.ensures _ c.self.invariant)

pub returns-clause-all : goal.returns-clause-all
returns-clause-all c =
    subst (λ (w : World). HoldsOn IsExclusive w) c.self.view_is
    (holds_on IsExclusive
    (λ salt clients acts outcomes w run.
    record {
      apart = c.members_hold_apart.ensures.apart salt clients acts outcomes w run;
      granted = c.members_hold_apart.ensures.granted salt clients acts outcomes w run;
      shown = c.replies_show_what_is_granted.ensures salt clients acts outcomes w run;
      commits = c.commits_are_taken_while_held.ensures.taken salt clients acts outcomes w run;
      since = c.commits_are_taken_while_held.ensures.since salt clients acts outcomes w run;
      brought = c.commits_are_taken_while_held.ensures.brought salt clients acts outcomes w run;
      lawful = c.targets_are_renewed_lawfully.ensures salt clients acts outcomes w run;
    })
    _ c.self.invariant)
