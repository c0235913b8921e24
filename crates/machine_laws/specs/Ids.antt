-- KIP-848, "ConsumerGroupHeartbeat API": which id the coordinator makes for a member that comes without one (ours).
use Rattle.std.specs.Prelude.{◌≡◌, ℕ, suc, ◌<◌, ◌≤◌, pos, true, false, [], ◌∷◌}
use Rattle.group_types.specs.Text.{Text}
use Rattle.group_types.specs.MemberId.{made_id}
use Rattle.group_types.specs.Members.{is_remembered, members_of}
use Rattle.group_types.specs.Group.{Group}
use Rattle.group_types.specs.Tick.{ticked}
use Rattle.group_types.specs.HeartbeatStep.{Answer, Arrival, HeartbeatStep}
use Rattle.group_types.specs.Fencing.{IsAcceptedAs}

-- that of the first serial, from the group's next one on, whose id is neither a member's nor a former one's; the serial after it is the next one then
pub record IsMadeOf (g : Group) (m : Text) (serial : ℕ) (new : Group) : Type 0 where
  pub id : m ≡ made_id g.salt serial
  pub from : g.serial ≤ serial
  pub below : serial < 18446744073709551616
  pub fresh : is_remembered (members_of g) m ≡ false
  pub first : (k : ℕ) → g.serial ≤ k → k < serial → is_remembered (members_of g) (made_id g.salt k) ≡ true
  pub next : new.serial ≡ suc serial

-- No other join uses a serial up, and no beat, leave or tick.
pub record IdsAreMadeInOrder : Type 0 where
  pub made : (g : Group) (a : Arrival) (m : Text) (answer : Answer) (new : Group)
      → HeartbeatStep g a answer new → IsAcceptedAs m answer → a.heartbeat.epoch ≡ pos 0 → a.heartbeat.member ≡ []
      → (serial : ℕ) × IsMadeOf g m serial new
  pub named : (g : Group) (a : Arrival) (m : Text) (answer : Answer) (new : Group) (c : ℕ) (rest : Text)
      → HeartbeatStep g a answer new → IsAcceptedAs m answer → a.heartbeat.member ≡ c ∷ rest → new.serial ≡ g.serial
  pub ticks : (g : Group) (moment : ℕ) → (ticked g moment).serial ≡ g.serial
