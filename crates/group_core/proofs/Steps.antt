-- One heartbeat at a group that nobody has joined, by what the checks say; and what isn't built yet.
use Rattle.std.proofs.Common.{◌≡◌, ◌<◌, ℕ, ◌||◌, pos, Bool, true, false, nat_le, is_some, [], ◌∷◌, refl, sym, ap, subst, ◌∙◌, arith, lit<, Option, Some, None, cond}
use Rattle.std.specs.List.{list_any}
use Rattle.std.specs.Ordering.{eq_by_cmp}
use Rattle.std.specs.FinMap as finite
use Rattle.group_types.specs.declared.code.Code.{Code}
use Rattle.group_types.specs.declared.code.Code.TheVariants as codes
use Rattle.group_types.specs.Limits.{GREATEST_EPOCH, MOST_MEMBERS}
use Rattle.group_types.specs.declared.stamp.Stamp.{Stamp}
use Rattle.group_types.specs.Text.{Text, text_cmp}
use Rattle.group_types.specs.MemberId.{made_id}
use Rattle.group_types.specs.Request.{Heartbeat, Kind, Joins, kind_of, is_invalid, is_unsupported}
use Rattle.group_types.specs.Group.{Group, Record, starting_group}
use Rattle.group_types.specs.Members.{members_of, is_remembered}
use Rattle.group_types.specs.Renewal.{changed_if, view_for}
use Rattle.group_types.specs.Join.{Name, IsNamed, IsNextSerial, name_of_serial}
use Rattle.group_types.specs.Checks.{Verdict, Accepted, Refused, Overtaken, Member as Another, Sender, first_of, other_with, record_under, request_checks, sender_of, verdict_on}
use Rattle.group_types.specs.HeartbeatStep.{Answer, Replied, Arrival, refusal, ByVerdict, Stages, TakesIn, JoinsAs, StepOf, StepBy, HeartbeatStep}
use Rattle.std.proofs.lemmas.Bool.{lt-leb}
use Rattle.group_core.specs.Checks.{MakesMember, verdict_on_request}
use Rattle.group_core.specs.FirstMember.{JoinsFirst, first_draft, nobody}

none_remembered : (salt epoch : ℕ) (m : Text) → is_remembered (members_of (starting_group salt epoch)) m ≡ false
none_remembered salt epoch m = ap (λ o. is_some o || list_any (λ (e : Text × Stamp). eq_by_cmp text_cmp m e.0) []) (finite.get-empty text_cmp m)

-- the first serial is 1
pub first_serial : (salt epoch : ℕ) → IsNextSerial (starting_group salt epoch) 1
first_serial salt epoch =
    record { from = omega arith; below = lit< tt; fresh = none_remembered salt epoch (made_id salt 1); first = λ k from below. absurd (omega arith) }

-- the first id, and the serial after it
abbrev pub first_name : ℕ → ℕ → Name
first_name salt epoch = name_of_serial (starting_group salt epoch) 1

pub is_first_name : (salt epoch : ℕ) (m : Text) → m ≡ [] → IsNamed (starting_group salt epoch) m (Some (first_name salt epoch))
is_first_name salt epoch m none =
    let here : IsNamed (starting_group salt epoch) [] (Some (first_name salt epoch)) = (Some 1, first_serial salt epoch, refl) in
    subst (λ x. IsNamed (starting_group salt epoch) x (Some (first_name salt epoch))) (sym none) here

-- ---- the checks

-- nobody's record is the sender's own, and no other has its instance
pub sender_is_nobody : (salt epoch : ℕ) (q : Heartbeat) → MakesMember q → sender_of (starting_group salt epoch).records q ≡ nobody
sender_is_nobody salt epoch q makes =
    let own : record_under finite.empty q.member ≡ None = ap (record_under finite.empty) makes.has_no_id in
    let other : other_with finite.empty q.member q.instance ≡ None = ap (other_with finite.empty q.member) makes.has_no_instance in
    let senders : Option Record → Option Another → Sender = λ r m. record { own = r; other = m } in
    λ i. senders (own i) (other i)

pub is_joining : (q : Heartbeat) → q.epoch ≡ pos 0 → kind_of q.epoch ≡ Joins
is_joining q joins = ap kind_of joins

-- a group without members has room
not_too_many : nat_le MOST_MEMBERS (finite.len (finite.empty {X = Record} {R = text_cmp})) ≡ false
not_too_many = ap (nat_le MOST_MEMBERS) (finite.len-empty text_cmp Record)

pub verdict_is : (salt epoch : ℕ) (q : Heartbeat) (stamp : Stamp) → verdict_on Joins nobody (starting_group salt epoch) q stamp ≡ first_of (request_checks Joins q)
verdict_is salt epoch q stamp =
    ap (λ (full : Bool). first_of
    ((is_invalid q, Refused codes.InvalidRequest)
    ∷ (is_unsupported q, Refused codes.UnsupportedAssignor)
    ∷ (false, Overtaken)
    ∷ (false, Refused codes.UnreleasedInstanceId)
    ∷ (full, Refused codes.GroupMaxSizeReached)
    ∷ [])) not_too_many

pub request_of_join : (q : Heartbeat) → q.epoch ≡ pos 0 → first_of (request_checks Joins q) ≡ verdict_on_request q
request_of_join q joins = ap (λ e. first_of (request_checks (kind_of e) q)) (sym joins)

pub cannot_rise : (epoch : ℕ) → epoch ≡ GREATEST_EPOCH → nat_le GREATEST_EPOCH epoch ≡ true
cannot_rise epoch is = ap (nat_le GREATEST_EPOCH) is

-- an epoch below the greatest can rise
pub can_rise : (epoch : ℕ) → epoch < GREATEST_EPOCH → nat_le GREATEST_EPOCH epoch ≡ false
can_rise epoch below = lt-leb GREATEST_EPOCH epoch below

-- ---- the step

module _ (salt epoch : ℕ) (h : Arrival) where
  abbrev pub TheStart : Group
  TheStart = starting_group salt epoch

  -- where the request is accepted: the last check, and then the join
  abbrev pub JoinsIfItRises : Bool → Answer → Group → Type 0
  JoinsIfItRises greatest answer new =
      ByVerdict (cond greatest (Refused codes.CoordinatorNotAvailable) Accepted)
      (Stages (changed_if true (first_draft TheStart h).group (view_for h.image (first_draft TheStart h).group.records)) (first_draft TheStart h) h.heartbeat) TheStart answer new

  pub step_joins : MakesMember h.heartbeat → (verdict : Verdict) → verdict_on_request h.heartbeat ≡ verdict → (answer : Answer) (new : Group)
      → ByVerdict verdict (StepOf Joins nobody TheStart h) TheStart answer new → HeartbeatStep TheStart h answer new
  step_joins makes verdict is answer new by =
      let so : ByVerdict (verdict_on Joins nobody TheStart h.heartbeat h.stamp) (StepOf Joins nobody TheStart h) TheStart answer new =
      subst (λ v. ByVerdict v (StepOf Joins nobody TheStart h) TheStart answer new) (sym (verdict_is salt epoch h.heartbeat h.stamp ∙ (request_of_join h.heartbeat makes.joins ∙ is))) by in
      let by_sender : StepBy Joins (sender_of TheStart.records h.heartbeat) TheStart h answer new =
      subst (λ (s : Sender). StepBy Joins s TheStart h answer new) (sym (sender_is_nobody salt epoch h.heartbeat makes)) so in
      subst (λ (k : Kind). StepBy k (sender_of TheStart.records h.heartbeat) TheStart h answer new) (sym (is_joining h.heartbeat makes.joins)) by_sender

  -- the request is refused
  pub refuses : MakesMember h.heartbeat → (code : Code) → verdict_on_request h.heartbeat ≡ Refused code → HeartbeatStep TheStart h (Replied (refusal code)) TheStart
  refuses makes code verdict = step_joins makes (Refused code) verdict (Replied (refusal code)) TheStart (refl, refl)

  pub accepts_by : MakesMember h.heartbeat → verdict_on_request h.heartbeat ≡ Accepted → (greatest : Bool) → nat_le GREATEST_EPOCH epoch ≡ greatest → (answer : Answer) (new : Group)
      → JoinsIfItRises greatest answer new → HeartbeatStep TheStart h answer new
  accepts_by makes verdict greatest is answer new goes =
      let step : JoinsIfItRises (nat_le GREATEST_EPOCH epoch) answer new = subst (λ b. JoinsIfItRises b answer new) (sym is) goes in
      let taken : TakesIn TheStart (first_draft TheStart h) h.heartbeat h.image answer new = record { change = true; is_change = refl; step = step } in
      let joins : JoinsAs nobody TheStart h answer new =
      record { name = Some (first_name salt epoch); is_named = is_first_name salt epoch h.heartbeat.member makes.has_no_id; joins = taken } in
      step_joins makes Accepted verdict answer new joins

  -- the epoch can't rise
  pub refuses_at_last : MakesMember h.heartbeat → verdict_on_request h.heartbeat ≡ Accepted → epoch ≡ GREATEST_EPOCH → HeartbeatStep TheStart h (Replied (refusal codes.CoordinatorNotAvailable)) TheStart
  refuses_at_last makes verdict is =
      accepts_by makes verdict true (cannot_rise epoch is) (Replied (refusal codes.CoordinatorNotAvailable)) TheStart (refl, refl)

  -- the member joins
  pub accepts_below : MakesMember h.heartbeat → verdict_on_request h.heartbeat ≡ Accepted → epoch < GREATEST_EPOCH → (answer : Answer) (new : Group)
      → JoinsFirst TheStart h answer new → HeartbeatStep TheStart h answer new
  accepts_below makes verdict below answer new joins = accepts_by makes verdict false (can_rise epoch below) answer new joins
