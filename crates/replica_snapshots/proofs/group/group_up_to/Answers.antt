use Rattle.std.proofs.Common.{◌≡◌, ◌<◌, sym, ap, ◌∙◌, arith}
use Rattle.group_reconcile.specs.Holders.{pairs}
use Rattle.replica_snapshots.proofs.Puts.{refitted}
use Rattle.replica_snapshots.proofs.group.group_up_to.Goals as goal

pub returns : goal.returns
returns c =
    let g = c.args.group.now in
    let grants : g.state.grants ≡ pairs g.holders = sym c.grants.ensures.pairs ∙ ap pairs c.grants.ensures.holders in
    let serial : 0 < g.state.serial = omega (arith, c.ids_made.ensures) in
    refitted c.parts_up_to.result c.parts_up_to.ensures (λ f. record { sound = c.epoch.ensures.sound; grants = grants; serial = serial; parts = f }) (λ can. can grants)
