-- The order of a heartbeat's checks, as far as an answer shows it (ours): a heartbeat that is wrong in itself is answered so,
-- whatever the group knows of its member.
use Rattle.std.specs.Prelude.{◌≡◌, ℕ, suc, pos, true, false, None}
use Rattle.std.specs.FinMap as finite
use Rattle.group_types.specs.declared.code.Code.{Code}
use Rattle.group_types.specs.declared.code.Code.TheVariants.{InvalidRequest, UnknownMemberId, UnsupportedAssignor}
use Rattle.group_types.specs.Request.{is_invalid, is_unsupported}
use Rattle.group_types.specs.Group.{Group}
use Rattle.group_types.specs.HeartbeatStep.{Answer, Replied, Arrival, HeartbeatStep, refusal}
use Rattle.group_types.specs.Sound.{IsSound}

abbrev pub IsRefusedWith : Code → Answer → Type 0
IsRefusedWith code answer = answer ≡ Replied (refusal code)

-- INVALID_REQUEST first, then UNSUPPORTED_ASSIGNOR of joins and beats, then UNKNOWN_MEMBER_ID of beats
pub record ChecksInOrder (g : Group) (a : Arrival) (answer : Answer) : Type 0 where
  pub invalid : is_invalid a.heartbeat ≡ true → IsRefusedWith InvalidRequest answer
  pub unsupported : (n : ℕ) → a.heartbeat.epoch ≡ pos n → is_invalid a.heartbeat ≡ false → is_unsupported a.heartbeat ≡ true
      → IsRefusedWith UnsupportedAssignor answer
  pub unknown : (n : ℕ) → a.heartbeat.epoch ≡ pos (suc n) → is_invalid a.heartbeat ≡ false → is_unsupported a.heartbeat ≡ false
      → finite.get g.records a.heartbeat.member ≡ None → IsRefusedWith UnknownMemberId answer

abbrev pub HeartbeatsAreCheckedInOrder : Type 0
HeartbeatsAreCheckedInOrder =
    (g : Group) (a : Arrival) (answer : Answer) (new : Group) → IsSound g → HeartbeatStep g a answer new → ChecksInOrder g a answer
