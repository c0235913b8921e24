-- A heartbeat that comes again, and others of its member.
use Rattle.std.proofs.Common.{◌≡◌, ◌≤◌, ℕ, ◌==◌, pos, Bool, true, false, cond, not, ◌||◌, max, [], Option, Some, None, is_gt, is_some, le_of_eq, ◌+◌, refl, sym, ap, subst, ◌∙◌, arith, codes, true≢false}
use Rattle.std.specs.FinMap as finite
use Rattle.std.specs.declared.cmp.Ordering.TheVariants.{Greater}
use Rattle.std.proofs.lemmas.Bool.Decides.{Decides-eqb}
use Rattle.group_types.specs.declared.code.Code.TheVariants as kinds
use Rattle.group_types.specs.declared.epoch.Epoch.{Epoch}
use Rattle.group_types.specs.declared.epoch.Epoch.TheVariants.{At, Away}
use Rattle.group_types.specs.declared.stamp.Stamp.{Stamp}
use Rattle.group_types.specs.Text.{Text, text_cmp}
use Rattle.group_types.specs.Partition.{Partitions, partition_cmp}
use Rattle.group_types.specs.Topics.{Topic}
use Rattle.group_types.specs.Stamp.{stamp_cmp}
use Rattle.group_types.specs.Request.{Heartbeat, Beats, SAME_TIMEOUT, is_full, reported}
use Rattle.group_types.specs.Group.{Record, Records, Group, grant_cmp, starting_group, wanted}
use Rattle.group_types.specs.Join.{blank_record}
use Rattle.group_types.specs.Leave.{last_epoch}
use Rattle.group_types.specs.Renewal.{Renews, RenewsWhere, is_subscribed, view_for}
use Rattle.group_types.specs.Settle.{arrived, asked, may_settle, settled, settled_by, settled_record}
use Rattle.group_types.specs.Checks.{Accepted, Refused, Overtaken, Sender, are_granted, is_current, is_fenced, is_late, is_overtaken}
use Rattle.group_types.specs.HeartbeatStep.{Answer, ByVerdict, Closes, Replied, Arrival, Draft, HeartbeatStep, Stages, StepBy, StepOf, TakesIn, acceptance, assignment_of, draft_of_beat, is_news, refusal, sent_after, shown}
use Rattle.group_types.specs.Sound.{IsSound}
use Rattle.group_types.proofs.Lookups.{Found, this, another, found, get-inserted, get-insert_other, not_none}
use Rattle.group_types.proofs.Orders.{text_cmp-IsAntisymmetric, text_cmp_total}
use Rattle.group_types.proofs.Runs.{starting_is_sound}
use Rattle.group_types.proofs.SetLemmas.{has-nothing}
use Rattle.machine_laws.specs.Examples.{IsTaken, SomeHeartbeatComesAgain}

abbrev m : Text
m = codes "m"

-- a heartbeat at member epoch 1 that gives nothing
abbrev beat : Text → Heartbeat
beat group =
    record {
      group = group;
      member = m;
      epoch = pos 1;
      instance = None;
      rack = None;
      rebalance_timeout = SAME_TIMEOUT;
      names = None;
      assignor = None;
      owned = None;
    }

abbrev at_frame : ℕ → Stamp
at_frame frame = record { connection = 1; frame = frame }

abbrev comes : Text → ℕ → Arrival
comes group frame = record { heartbeat = beat group; stamp = at_frame frame; moment = 0; image = finite.empty }

-- no topics are in the view of an image without topics
no_view : (records : Records) → view_for finite.empty records ≡ finite.empty
no_view records =
    finite.same_map text_cmp_total text_cmp-IsAntisymmetric _ _
    (λ q. finite.get-retain_keys finite.empty (is_subscribed records) q (λ x ties. ap (is_subscribed records) (sym (text_cmp-IsAntisymmetric q x ties)))
    ∙ by (is_subscribed records q) q)
  where
    by : (b : Bool) (q : Text) → cond b (finite.get (finite.empty {X = Topic} {R = text_cmp}) q) None ≡ finite.get (finite.empty {X = Topic} {R = text_cmp}) q
    by true q = refl
    by false q = sym (finite.get-empty text_cmp q)

-- a group at epoch 1 with a member at that epoch, whose last heartbeat came at a frame
pub record HasMember (g : Group) (frame : ℕ) : Type 0 where
  pub kept : Record
  pub is_kept : finite.get g.records m ≡ Some kept
  pub at : kept.epoch ≡ At 1
  pub stamp : kept.stamp ≡ at_frame frame
  pub epoch : g.epoch ≡ 1
  pub target_epoch : g.target_epoch ≡ 1
  pub view : g.view ≡ finite.empty

-- ---- what the stages leave of a record

sent_epoch : (r : Record) (o : Option Partitions) → (sent_after r o).epoch ≡ r.epoch
sent_epoch r None = refl
sent_epoch r (Some set) = refl

sent_stamp : (r : Record) (o : Option Partitions) → (sent_after r o).stamp ≡ r.stamp
sent_stamp r None = refl
sent_stamp r (Some set) = refl

asked_stamp : (r : Record) (o : Option ℕ) (now : ℕ) → (asked r o now).stamp ≡ r.stamp
asked_stamp r None now = refl
asked_stamp r (Some deadline) now = refl

asked_epoch : (r : Record) (o : Option ℕ) (now : ℕ) → (asked r o now).epoch ≡ r.epoch
asked_epoch r None now = refl
asked_epoch r (Some deadline) now = refl

arrived_stamp : (r : Record) (e : Epoch) (t : ℕ) → (arrived r e t).stamp ≡ r.stamp
arrived_stamp r Away t = refl
arrived_stamp r (At e) t =
    elim (e == t) as (λ b. (cond b (record r { release_deadline = None }) (record r { previous_epoch = e; epoch = At t; release_deadline = None })).stamp ≡ r.stamp) [ true ↦ refl | false ↦ refl ]

arrived_epoch : (r : Record) (e : Epoch) (t : ℕ) → r.epoch ≡ At 1 → t ≡ 1 → (arrived r e t).epoch ≡ At 1
arrived_epoch r Away t at one = ap At one
arrived_epoch r (At e) t at one =
    elim (e == t) as (λ b. (cond b (record r { release_deadline = None }) (record r { previous_epoch = e; epoch = At t; release_deadline = None })).epoch ≡ At 1) [ true ↦ at | false ↦ ap At one ]

settled_stamp : (may : Bool) (r : Record) (t now : ℕ) → (settled_record may r t now).stamp ≡ r.stamp
settled_stamp true r t now = arrived_stamp r r.epoch t
settled_stamp false r t now = asked_stamp r r.release_deadline now

settled_epoch : (may : Bool) (r : Record) (t now : ℕ) → r.epoch ≡ At 1 → t ≡ 1 → (settled_record may r t now).epoch ≡ At 1
settled_epoch true r t now at one = arrived_epoch r r.epoch t at one
settled_epoch false r t now at one = asked_epoch r r.release_deadline now ∙ at

-- ---- a beat is accepted

module _ (g : Group) (frame next : ℕ) (has : HasMember g frame) (later : stamp_cmp (at_frame next) (at_frame frame) ≡ Greater) where
  abbrev now : ℕ
  now = max g.clock 0

  abbrev Drafted : Draft
  Drafted = draft_of_beat g now has.kept (beat m) (at_frame next)

  abbrev Settled : Group
  Settled = settled Drafted.group m (reported (beat m)) now

  abbrev may : Bool
  may = may_settle g.grants m (wanted g.target m) None

  abbrev Kept : Record
  Kept = settled_record may Drafted.after g.target_epoch now

  abbrev Told : Option Partitions
  Told = assignment_of (is_full (beat m) || is_news Kept.sent (shown Settled m)) (shown Settled m)

  abbrev Last : Record
  Last = sent_after Kept Told

  abbrev New : Group
  New = record Settled { records = finite.insert Settled.records m Last }

  stored : finite.get Drafted.group.records m ≡ Some Drafted.after
  stored = get-inserted g.records m Drafted.after

  settled_so : Settled ≡ settled_by may Drafted.group m (Some Drafted.after) now
  settled_so = ap (λ o. settled_by may Drafted.group m o now) stored

  is_kept : finite.get Settled.records m ≡ Some Kept
  is_kept = ap (λ (x : Group). finite.get x.records m) settled_so ∙ get-inserted Drafted.group.records m Kept

  renews : Renews Drafted.group Drafted.group
  renews = subst (λ b. RenewsWhere b Drafted.group Drafted.group) (sym ((Decides-eqb g.epoch g.target_epoch).1 (has.epoch ∙ sym has.target_epoch))) refl

  stages : Stages Drafted.group Drafted (beat m) (Replied (acceptance m Kept Told)) New
  stages =
      record {
        renewed = Drafted.group;
        renews = renews;
        settled = Settled;
        settles = refl;
        kept = Kept;
        is_kept = is_kept;
        told = Told;
        tells = refl;
        answers = refl;
        leaves = refl;
      }

  takes : TakesIn g Drafted (beat m) finite.empty (Replied (acceptance m Kept Told)) New
  takes =
      record {
        change = false;
        is_change = record { names = refl; assignor = refl; view = has.view ∙ sym (no_view Drafted.group.records) };
        step = stages;
      }

  -- ---- all checks pass

  abbrev TheSender : Sender
  TheSender = record { own = Some has.kept; other = None }

  fenced : is_fenced 1 (Some has.kept) (are_granted g.grants m None) ≡ false
  fenced = ap (λ e. not (is_current 1 e has.kept.previous_epoch false)) has.at

  in_time : is_overtaken (at_frame next) (Some has.kept) ≡ false
  in_time = ap (is_late (at_frame next)) has.stamp ∙ ap (λ o. not (is_gt o)) later

  abbrev TheAnswer : Answer
  TheAnswer = Replied (acceptance m Kept Told)

  step : HeartbeatStep g (comes m next) TheAnswer New
  step =
      subst (λ (own : Option Record). StepBy (Beats 1) (record { own = own; other = None }) g (comes m next) TheAnswer New) (sym has.is_kept)
      (subst (λ v. ByVerdict v (StepOf (Beats 1) TheSender g (comes m next)) g TheAnswer New)
      (λ i. cond (sym in_time i) Overtaken (cond (sym fenced i) (Refused kinds.FencedMemberEpoch) Accepted)) takes)

  pub is_taken : IsTaken g (comes m next) New
  is_taken = record { answer = TheAnswer; step = step; accepted = record { reply = acceptance m Kept Told; is_reply = refl; code = refl; member = refl } }

  pub has_member : HasMember New next
  has_member =
      record {
        kept = Last;
        is_kept = get-inserted Settled.records m Last;
        at = sent_epoch Kept Told ∙ settled_epoch may Drafted.after g.target_epoch now has.at has.target_epoch;
        stamp = sent_stamp Kept Told ∙ settled_stamp may Drafted.after g.target_epoch now;
        epoch = ap (λ (x : Group). x.epoch) settled_so ∙ has.epoch;
        target_epoch = ap (λ (x : Group). x.target_epoch) settled_so ∙ has.target_epoch;
        view = ap (λ (x : Group). x.view) settled_so ∙ has.view;
      }

-- ---- one that isn't later than the last closes

module _ (g : Group) (frame : ℕ) (has : HasMember g frame) (late : is_late (at_frame frame) (at_frame frame) ≡ true) where
  overtaken : is_overtaken (at_frame frame) (Some has.kept) ≡ true
  overtaken = ap (is_late (at_frame frame)) has.stamp ∙ late

  pub closes : HeartbeatStep g (comes m frame) Closes g
  closes =
      subst (λ (own : Option Record). StepBy (Beats 1) (record { own = own; other = None }) g (comes m frame) Closes g) (sym has.is_kept)
      (subst (λ v. ByVerdict v (StepOf (Beats 1) (record { own = Some has.kept; other = None }) g (comes m frame)) g Closes g)
      (λ i. cond (sym overtaken i) Overtaken (cond (is_fenced 1 (Some has.kept) (are_granted g.grants m None)) (Refused kinds.FencedMemberEpoch) Accepted)) (refl, refl))

-- ---- the group that it begins with

abbrev first_record : Record
first_record = record blank_record { epoch = At 1; stamp = at_frame 1 }

abbrev start : Group
start = record (starting_group 0 1) { records = finite.insert finite.empty m first_record }

start_has : HasMember start 1
start_has = record { kept = first_record; is_kept = get-inserted finite.empty m first_record; at = refl; stamp = refl; epoch = refl; target_epoch = refl; view = refl }

only : (k : Text) (r : Record) → finite.get start.records k ≡ Some r → r ≡ first_record
only k r is = by (found finite.empty m first_record k r is)
  where
    by : Found finite.empty m first_record k r → r ≡ first_record
    by (this same is_it) = is_it
    by (another other apart never) = absurd (not_none r (sym (finite.get-empty text_cmp k) ∙ never))

start_is_sound : IsSound start
start_is_sound =
    record {
      one_holder = λ k n p one other. absurd (true≢false (sym one ∙ has-nothing grant_cmp (k, p)));
      holders = λ k p holds. absurd (true≢false (sym holds ∙ has-nothing grant_cmp (k, p)));
      owners = λ k p owns. absurd (not_none k (sym (finite.get-empty partition_cmp p) ∙ owns));
      view = (starting_is_sound 0 1 (omega arith)).view;
      owned = λ k p owns. absurd (not_none k (sym (finite.get-empty partition_cmp p) ∙ owns));
      epochs = λ k r there. le_of_eq (ap last_epoch (only k r there));
      settled = λ k r p there at holds. absurd (true≢false (sym holds ∙ has-nothing grant_cmp (k, p)));
      target_epoch = omega arith;
      epoch = omega arith;
      instances = λ k n r s i there other has same. absurd (not_none i (sym (ap (λ (x : Record). x.instance) (only k r there)) ∙ has));
      named = get-insert_other finite.empty m first_record [] refl ∙ finite.get-empty text_cmp [];
      past = tt;
      few_members = subst (λ n. n ≤ 10000) (sym one_member) (omega arith);
      few_past = omega arith;
    }
  where
    one_member : finite.len start.records ≡ 1
    one_member =
        finite.len-insert text_cmp_total finite.empty m first_record
        ∙ (λ i. cond (is_some (finite.get-empty {X = Record} text_cmp m i)) (finite.len-empty text_cmp Record i) (finite.len-empty text_cmp Record i + 1))

pub comes_again : SomeHeartbeatComesAgain
comes_again =
    let next : Group = New start 1 2 start_has refl in
    let has : HasMember next 2 = has_member start 1 2 start_has refl in
    record {
      start = start;
      sound = start_is_sound;
      first = comes m 2;
      next = next;
      taken = is_taken start 1 2 start_has refl;
      closes = closes next 2 has refl;
      second = comes m 3;
      same_member = refl;
      later = refl;
      last = New next 2 3 has refl;
      taken_again = is_taken next 2 3 has refl;
      wrong = comes [] 1;
      its_member = refl;
      late = λ is. cc;
      reply = refusal kinds.InvalidRequest;
      answered = (refl, refl);
      fails = λ is. cc;
    }
