-- A renewal under uniform leaves a target that fits.
use Rattle.std.proofs.Common.{◌≡◌, ◌==◌, Bool, true, false, ap, subst, ◌∙◌}
use Rattle.group_types.specs.Group.{Group}
use Rattle.group_types.specs.Renewal.{AreOwners, RenewsWhere}
use Rattle.uniform_assign.specs.Laws.{LawfulAndEvenOwnersStay}
use Rattle.machine_laws.specs.Renewals.{RenewalsKeepOwners}

pub renewals_keep_owners : LawfulAndEvenOwnersStay → RenewalsKeepOwners
renewals_keep_owners stay g new renews fits = by (g.epoch == g.target_epoch) renews
  where
    by : (same : Bool) → RenewsWhere same g new → new.target ≡ g.target
    by true is = ap (λ (x : Group). x.target) is
    by false (target, (subs, members, owners), is) =
        let fit = fits subs members in
        ap (λ (x : Group). x.target) is
        ∙ stay g.view subs g.target target fit.lawful fit.even (subst (λ name. AreOwners name g.view subs g.target target) fit.uniform owners)
