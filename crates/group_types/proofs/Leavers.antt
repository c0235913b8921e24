-- Who left is remembered.
use Rattle.std.proofs.Common.{◌≡◌, refl, sym, subst, ◌∙◌}
use Rattle.group_types.specs.Text.{Text}
use Rattle.group_types.specs.Request.{GOES_AWAY_AT, LEAVES_AT}
use Rattle.group_types.specs.Group.{Group}
use Rattle.group_types.specs.HeartbeatStep.{farewell}
use Rattle.group_types.specs.FormerMembers.{IsFormer, LeaversAreRemembered}
use Rattle.group_types.proofs.Consistent.{consistent}
use Rattle.group_types.proofs.Lookups.{removed_is_none}
use Rattle.group_types.proofs.PastLemmas.{few_remembered, not_past}
use Rattle.group_types.proofs.Remembered.{remembered_now}
use Rattle.group_types.proofs.Accepted.{Came, unchanged, has_left, went_away, taken_in, came, nobody}
use Rattle.group_types.proofs.Afterwards.{same_id}
use Rattle.group_types.proofs.Shown.{never_negative}

pub leavers_are_remembered : LeaversAreRemembered
leavers_are_remembered g a m answer new sound step leaves accepted = by (came g (consistent g sound) a answer new step)
  where
    by : Came g a answer new → IsFormer new m a.stamp
    by (unchanged same fails) = absurd (nobody answer fails m accepted)
    by (has_left r epoch there later answers is) =
        let id = a.heartbeat.member in
        let same = same_id m id answer (farewell id LEAVES_AT) answers refl accepted in
        subst (λ (k : Text). IsFormer new k a.stamp) (sym same)
        (subst (λ (x : Group). IsFormer x id a.stamp) (sym is)
        (record {
          left = removed_is_none g.records id;
          remembered = remembered_now g.past id a.stamp (not_past g.records g.past id r sound.past there);
          few = few_remembered g.past id a.stamp;
        }))
    by (went_away r goes there later answers is) = let never : GOES_AWAY_AT ≡ LEAVES_AT = sym goes ∙ leaves in cc
    by (taken_in d drafting stages takes) = absurd (never_negative a.heartbeat.epoch drafting.epoch.0 0 drafting.epoch.1 leaves)
