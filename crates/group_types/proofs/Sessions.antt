-- How long a session lasts.
use Rattle.std.proofs.Common.{◌≡◌, max, Some, refl, sym, ap, ◌∙◌}
use Rattle.std.specs.FinMap as finite
use Rattle.group_types.specs.Limits.{SESSION_TIMEOUT}
use Rattle.group_types.specs.Moment.{saturated_sum}
use Rattle.group_types.specs.Text.{Text}
use Rattle.group_types.specs.Request.{GOES_AWAY_AT, LEAVES_AT}
use Rattle.group_types.specs.Group.{Record, Group}
use Rattle.group_types.specs.Leave.{away}
use Rattle.group_types.specs.HeartbeatStep.{Answer, Arrival, farewell}
use Rattle.group_types.specs.Deadlines.{SessionsLast}
use Rattle.group_types.specs.Fencing.{IsAcceptedAs}
use Rattle.group_types.proofs.Lookups.{not_none, some_is, get-inserted, removed_is_none}
use Rattle.group_types.proofs.Consistent.{consistent}
use Rattle.group_types.proofs.Accepted.{Came, unchanged, has_left, went_away, taken_in, came, nobody}
use Rattle.group_types.proofs.Afterwards.{Last, accepted_is, has_record, last_same, same_id}

module _ (g : Group) (a : Arrival) (m : Text) (answer : Answer) (new : Group) (r : Record) (accepted : IsAcceptedAs m answer) (kept : finite.get new.records m ≡ Some r) where
  by : Came g a answer new → r.session_deadline ≡ saturated_sum (max g.clock a.moment) SESSION_TIMEOUT
  by (unchanged same fails) = absurd (nobody answer fails m accepted)
  by (has_left s epoch there later answers is) =
      let same = same_id m a.heartbeat.member answer (farewell a.heartbeat.member LEAVES_AT) answers refl accepted in
      absurd (not_none r (sym (ap (finite.get new.records) same ∙ ap (λ (x : Group). finite.get x.records a.heartbeat.member) is ∙ removed_is_none g.records a.heartbeat.member) ∙ kept))
  by (went_away s epoch there later answers is) =
      let same = same_id m a.heartbeat.member answer (farewell a.heartbeat.member GOES_AWAY_AT) answers refl accepted in
      let gone : Record = away s a.stamp (max g.clock a.moment) in
      let found = ap (finite.get new.records) same ∙ ap (λ (x : Group). finite.get x.records a.heartbeat.member) is ∙ get-inserted g.records a.heartbeat.member gone in
      ap (λ (x : Record). x.session_deadline) (some_is r gone (sym kept ∙ found))
  by (taken_in d drafting stages takes) =
      let found = ap (finite.get new.records) (accepted_is g a answer new d drafting stages m accepted) ∙ has_record g a answer new d drafting stages in
      ap (λ (x : Record). x.session_deadline) (some_is r (Last g a answer new d drafting stages) (sym kept ∙ found))
      ∙ (last_same g a answer new d drafting stages).deadline ∙ drafting.deadline

pub sessions_last : SessionsLast
sessions_last g a m answer new r sound step accepted kept = by g a m answer new r accepted kept (came g (consistent g sound) a answer new step)
