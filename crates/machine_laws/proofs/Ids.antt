-- Which ids are made.
use Rattle.std.proofs.Common.{◌≡◌, ℕ, zero, suc, ◌==◌, ℤ, pos, negsuc, Bool, true, false, cond, ◌&&◌, max, nat_le, List, [], ◌∷◌, Option, Some, None, MatchOption, refl, sym, ap, subst, ◌∙◌}
use Rattle.std.specs.Option.{option_map}
use Rattle.std.specs.FinMap as finite
use Rattle.group_types.specs.declared.code.Code.TheVariants as codes
use Rattle.group_types.specs.Limits.{GREATEST_EPOCH}
use Rattle.group_types.specs.Text.{Text}
use Rattle.group_types.specs.Topics.{Topics}
use Rattle.group_types.specs.Members.{is_remembered, members_of}
use Rattle.group_types.specs.Request.{Joins, Kind, kind_of, reported}
use Rattle.group_types.specs.Group.{Group, Record, wanted}
use Rattle.group_types.specs.Join.{IsNamed, IsSerial, Name, name_of_serial}
use Rattle.group_types.specs.Leave.{without_member, risen}
use Rattle.group_types.specs.Renewal.{RenewsWhere, changed_if, view_for}
use Rattle.group_types.specs.Settle.{may_settle, settled_by}
use Rattle.group_types.specs.Tick.{at_moment, due, expired, without_members}
use Rattle.group_types.specs.Checks.{Verdict, Accepted, Refused, Overtaken, Member, Sender, sender_of}
use Rattle.group_types.specs.HeartbeatStep as machine
use Rattle.group_types.specs.HeartbeatStep.{Answer, Arrival, BeatsWith, ByVerdict, Draft, GoesAwayWith, HeartbeatStep, IsRefused, Replied, Reply, StepOf, TakesIn, acceptance, draft_of_beat, draft_under}
use Rattle.group_types.specs.Fencing.{IsAcceptedAs}
use Rattle.group_types.proofs.Accepted.{nobody, closing_fails, refusal_fails}
use Rattle.group_types.proofs.Checked.{IsRefusal, refusals_differ, unavailable_is}
use Rattle.group_types.proofs.Lookups.{not_none, some_is}
use Rattle.machine_laws.specs.Ids.{IdsAreMadeInOrder, IsMadeOf}
use Rattle.machine_laws.proofs.ExactCodes.{reply_of}

module _ (g : Group) (a : Arrival) (m : Text) (answer : Answer) (new : Group) (accepted : IsAcceptedAs m answer) where
  -- ---- what the stages leave of the serial

  changed_serial : (change : Bool) (h : Group) (view : Topics) → (changed_if change h view).serial ≡ h.serial
  changed_serial true h view = refl
  changed_serial false h view = refl

  renewed_serial : (b : Bool) (h renewed : Group) → RenewsWhere b h renewed → renewed.serial ≡ h.serial
  renewed_serial true h renewed is = ap (λ (x : Group). x.serial) is
  renewed_serial false h renewed (target, is_target, is) = ap (λ (x : Group). x.serial) is

  settled_serial : (may : Bool) (h : Group) (id : Text) (o : Option Record) (now : ℕ) → (settled_by may h id o now).serial ≡ h.serial
  settled_serial may h id None now = refl
  settled_serial may h id (Some r) now = refl

  some_text : (x y : Text) → Some x ≡ Some y → x ≡ y
  some_text x y is = cc

  -- the serial is the draft's, and the id, too
  taken : (d : Draft) → TakesIn g d a.heartbeat a.image answer new → (new.serial ≡ d.group.serial) × (m ≡ d.id)
  taken d takes = by (takes.change && nat_le GREATEST_EPOCH g.epoch) takes.step
    where
      after : (c : Group) → c.serial ≡ d.group.serial → machine.Stages c d a.heartbeat answer new → (new.serial ≡ d.group.serial) × (m ≡ d.id)
      after c same stages = (
        ap (λ (x : Group). x.serial) stages.leaves ∙ ap (λ (x : Group). x.serial) stages.settles
            ∙ settled_serial (may_settle stages.renewed.grants d.id (wanted stages.renewed.target d.id) (reported a.heartbeat)) stages.renewed d.id (finite.get stages.renewed.records d.id) stages.renewed.clock
            ∙ renewed_serial (c.epoch == c.target_epoch) c stages.renewed stages.renews ∙ same,
        some_text m d.id (sym accepted.member ∙ ap (λ (r : Reply). r.member) (reply_of accepted.reply (acceptance d.id stages.kept stages.told) (sym accepted.is_reply ∙ stages.answers))),
      )

      by : (b : Bool)
          → ByVerdict (cond b (Refused codes.CoordinatorNotAvailable) Accepted) (machine.Stages (changed_if takes.change d.group (view_for a.image d.group.records)) d a.heartbeat) g answer new
          → (new.serial ≡ d.group.serial) × (m ≡ d.id)
      by true is = absurd (nobody answer (refusal_fails answer codes.CoordinatorNotAvailable unavailable_is is.0) m accepted)
      by false stages = after (changed_if takes.change d.group (view_for a.image d.group.records)) (changed_serial takes.change d.group (view_for a.image d.group.records)) stages

  -- ---- joins

  next_of : (name : Name) (own : Option Record) (other : Option Member)
      → ((draft_under name (record { own = own; other = other }) g a).group.serial ≡ name.next_serial) × ((draft_under name (record { own = own; other = other }) g a).id ≡ name.id)
  next_of name (Some r) other = (refl, refl)
  next_of name None None = (refl, refl)
  next_of name None (Some old) = (refl, refl)

  joined : (sender : Sender) → StepOf Joins sender g a answer new → (name : Name) × IsNamed g a.heartbeat.member (Some name) × (new.serial ≡ name.next_serial) × (m ≡ name.id)
  joined sender step = by step.name step.is_named step.joins
    where
      by : (o : Option Name) → IsNamed g a.heartbeat.member o
          → MatchOption o (IsRefused codes.CoordinatorNotAvailable g answer new) (λ n. TakesIn g (draft_under n sender g a) a.heartbeat a.image answer new)
          → (name : Name) × IsNamed g a.heartbeat.member (Some name) × (new.serial ≡ name.next_serial) × (m ≡ name.id)
      by None named refused = absurd (nobody answer (refusal_fails answer codes.CoordinatorNotAvailable unavailable_is refused.0) m accepted)
      by (Some name) named takes =
          let left = taken (draft_under name sender g a) takes in
          let it = next_of name sender.own sender.other in
          (name, named, left.0 ∙ it.0, left.1 ∙ it.1)

  -- an id that is made
  made_of : (serial : Option ℕ) (name : Name) → IsSerial g serial → Some name ≡ option_map (name_of_serial g) serial → new.serial ≡ name.next_serial → m ≡ name.id
      → (n : ℕ) × IsMadeOf g m n new
  made_of None name is_serial is serial id = absurd (not_none name (sym is))
  made_of (Some n) name is_serial is serial id =
      let same : name ≡ name_of_serial g n = some_is name (name_of_serial g n) is in
      let made = id ∙ ap (λ (x : Name). x.id) same in (
        n,
        record {
          id = made;
          from = is_serial.from;
          below = is_serial.below;
          fresh = ap (is_remembered (members_of g)) made ∙ is_serial.fresh;
          first = is_serial.first;
          next = serial ∙ ap (λ (x : Name). x.next_serial) same;
        },
      )

  made_as : (q : Text) (name : Name) → q ≡ [] → IsNamed g q (Some name) → new.serial ≡ name.next_serial → m ≡ name.id → (n : ℕ) × IsMadeOf g m n new
  made_as [] name none (serial, is_serial, is) next id = made_of serial name is_serial is next id
  made_as (c ∷ q) name never named next id = absurd cc

  kept_as : (q : Text) (name : Name) (c : ℕ) (rest : Text) → q ≡ c ∷ rest → IsNamed g q (Some name) → name.next_serial ≡ g.serial
  kept_as [] name c rest never named = absurd cc
  kept_as (d ∷ q) name c rest is named = ap (λ (n : Name). n.next_serial) (some_is name (record { id = d ∷ q; next_serial = g.serial }) named)

  -- ---- by the kind of heartbeat

  serial_at : (e : ℤ) (sender : Sender) (c : ℕ) (rest : Text) → a.heartbeat.member ≡ c ∷ rest → StepOf (kind_of e) sender g a answer new → new.serial ≡ g.serial
  serial_at (pos zero) sender c rest is step = let it = joined sender step in it.2 ∙ kept_as a.heartbeat.member it.0 c rest is it.1
  serial_at (pos (suc n)) sender c rest is step = by sender.own step
    where
      by : (own : Option Record) → BeatsWith own g a answer new → new.serial ≡ g.serial
      by None never = absurd never
      by (Some r) takes = (taken (draft_of_beat g (max g.clock a.moment) r a.heartbeat a.stamp) takes).0
  serial_at (negsuc zero) sender c rest is (told, leaves) = ap (λ (x : Group). x.serial) leaves
  serial_at (negsuc (suc zero)) sender c rest is step = by sender.own step
    where
      by : (own : Option Record) → GoesAwayWith own g a answer new → new.serial ≡ g.serial
      by None never = absurd never
      by (Some r) (told, leaves) = ap (λ (x : Group). x.serial) leaves
  serial_at (negsuc (suc (suc n))) sender c rest is never = absurd never

  -- the checks let it pass
  passed : (kind : Kind) (sender : Sender) (v : Verdict) → IsRefusal v → ByVerdict v (StepOf kind sender g a) g answer new → StepOf kind sender g a answer new
  passed kind sender Accepted other step = step
  passed kind sender (Refused code) other (is, same) = absurd (nobody answer (refusal_fails answer code other is) m accepted)
  passed kind sender Overtaken other (closes, same) = absurd (nobody answer (closing_fails answer closes) m accepted)

  step_of : HeartbeatStep g a answer new → StepOf (kind_of a.heartbeat.epoch) (sender_of g.records a.heartbeat) g a answer new
  step_of step =
      passed (kind_of a.heartbeat.epoch) (sender_of g.records a.heartbeat) _
      (refusals_differ (kind_of a.heartbeat.epoch) (sender_of g.records a.heartbeat) g a.heartbeat a.stamp) step

  made : HeartbeatStep g a answer new → a.heartbeat.epoch ≡ pos 0 → a.heartbeat.member ≡ [] → (n : ℕ) × IsMadeOf g m n new
  made step at none =
      let it = joined (sender_of g.records a.heartbeat) (subst (λ (e : ℤ). StepOf (kind_of e) (sender_of g.records a.heartbeat) g a answer new) at (step_of step)) in
      made_as a.heartbeat.member it.0 none it.1 it.2 it.3

-- ---- ticks

left_serial : (ms : List (Text × Record)) (g : Group) → (without_members g ms).serial ≡ g.serial
left_serial [] g = refl
left_serial (m ∷ ms) g = left_serial ms (without_member g m.0 m.1.stamp)

expired_serial : (ms : List (Text × Record)) (g : Group) → (expired g ms).serial ≡ g.serial
expired_serial [] g = refl
expired_serial (m ∷ ms) g = left_serial (m ∷ ms) (record g { epoch = risen g.epoch })

pub ids_are_made_in_order : IdsAreMadeInOrder
ids_are_made_in_order =
    record {
      made = λ g a m answer new step accepted at none. made g a m answer new accepted step at none;
      named = λ g a m answer new c rest step accepted is.
          serial_at g a m answer new accepted a.heartbeat.epoch (sender_of g.records a.heartbeat) c rest is (step_of g a m answer new accepted step);
      ticks = λ g moment. expired_serial (due (at_moment g moment)) (at_moment g moment);
    }
