use Rattle.group_reconcile.specs.Holders.{pairs}
use Rattle.group_core.proofs.Granted.{all_granted}
use Rattle.group_core.proofs.judge.are_granted.Goals as goal

pub returns-in-Some : goal.returns-in-Some
returns-in-Some c =
    rw (c.are_among.ensures, c.held.ensures, c.as_slice.ensures, c.in-Some.is)
    (all_granted (pairs c.args.grants.now) c.args.member.now c.in-Some.list)
