-- What comes of a heartbeat at a consistent group. The stages of HeartbeatStep are taken apart here for all laws that look at what an accepted
-- heartbeat leaves.
use Rattle.std.proofs.Common.{◌≡◌, ◌≢◌, ℕ, zero, suc, ◌==◌, ℤ, pos, negsuc, Bool, true, false, cond, not, ◌&&◌, ◌||◌, max, nat_le, [], ◌∷◌, Option, Some, None, MatchOption, is_some, refl, sym, ap, subst, ◌∙◌, arith, true≢false}
use Rattle.std.specs.List.{list_any}
use Rattle.std.specs.Option.{option_map}
use Rattle.std.specs.Ordering.{eq_by_cmp, int_eq}
use Rattle.std.specs.FinMap as finite
use Rattle.std.proofs.lemmas.Bool.{leb-false}
use Rattle.std.proofs.lemmas.Bool.Decides.{Decides-eqb}
use Rattle.group_types.specs.declared.code.Code.{Code}
use Rattle.group_types.specs.declared.code.Code.TheVariants as codes
use Rattle.group_types.specs.declared.epoch.Epoch.{Epoch}
use Rattle.group_types.specs.declared.epoch.Epoch.TheVariants.{At, Away}
use Rattle.group_types.specs.declared.stamp.Stamp.{Stamp}
use Rattle.group_types.specs.Limits.{GREATEST_EPOCH, SESSION_TIMEOUT}
use Rattle.group_types.specs.Moment.{saturated_sum}
use Rattle.group_types.specs.MemberId.{made_id}
use Rattle.group_types.specs.Text.{Text, text_cmp}
use Rattle.group_types.specs.Sets.{nothing}
use Rattle.group_types.specs.Partition.{Partitions}
use Rattle.group_types.specs.Topics.{Topics}
use Rattle.group_types.specs.Request.{Heartbeat, Joins, Beats, Leaves, GoesAway, LEAVES_AT, GOES_AWAY_AT, is_full, is_unsupported, kind_of, reported, reported_at}
use Rattle.group_types.specs.Group.{Record, Records, Past, Group, wanted}
use Rattle.group_types.specs.Members.{past_stamp, without_past}
use Rattle.group_types.specs.Settle.{may_settle, settled_by, settled_record}
use Rattle.group_types.specs.Renewal.{Renews, RenewsWhere, changed_if, view_for}
use Rattle.group_types.specs.Join.{IsNamed, IsSerial, Name, name_of_serial, record_of_beat, record_of_join}
use Rattle.group_types.specs.Leave.{gone_away, last_epoch, left}
use Rattle.group_types.specs.Checks.{Verdict, Accepted, Refused, Overtaken, Member, Sender, is_away, is_unreleased, other_with, record_under, sender_of, verdict_on}
use Rattle.group_types.specs.HeartbeatStep as machine
use Rattle.group_types.specs.HeartbeatStep.{Answer, Replied, Closes, Reply, Arrival, Draft, BeatsWith, ByVerdict, GoesAwayWith, IsRefused, StepOf, TakesIn, HeartbeatStep, acceptance, assignment_of, draft_of_beat, draft_of_join, draft_under, farewell, handed_over, is_news, refusal, sent_after, shown}
use Rattle.group_types.proofs.Consistent.{IsConsistent}
use Rattle.group_types.specs.Fencing.{IsAcceptedAs, last_stamp, stamp_kept}
use Rattle.group_types.proofs.Lookups.{not_none, some_is, get-inserted}
use Rattle.group_types.proofs.Renewals.{changed_is_consistent, renewed_is_consistent}
use Rattle.group_types.proofs.Senders.{named_fresh, named_own, other_is, own_is}
use Rattle.group_types.proofs.Drafts.{IsReady, beat_epoch, beat_is_ready, join_epoch, join_is_ready}
use Rattle.group_types.proofs.Checked.{IsLater, IsRefusal, beating, in_time, joining, leaver, refusals_differ, unavailable_is}

-- ---- the draft of an accepted join or beat

-- whose it is: a member's own, a new member's, or of one that takes over; and the group into which its record is put
pub data Whose (g base : Group) (q : Heartbeat) (d : Draft) : Type 0 where
  its_own : (r : Record) → base ≡ g → d.id ≡ q.member → finite.get g.records d.id ≡ Some r → last_epoch d.after ≡ last_epoch r
      → (is_full q ≡ false → d.after.sent ≡ r.sent) → d.after.release_deadline ≡ r.release_deadline → Whose g base q d
  newcomer : base ≡ g → finite.get g.records d.id ≡ None → reported q ≡ Some nothing → is_full q ≡ true → Whose g base q d
  takes_over : (old : Member) → base ≡ handed_over g old d.id → finite.get g.records old.id ≡ Some old.kept → finite.get g.records d.id ≡ None
      → is_away old.kept.epoch ≡ true → d.after.instance ≡ old.kept.instance → reported q ≡ Some nothing → is_full q ≡ true → Whose g base q d

-- how its record is made, and the group into which it is put
pub data Made (g base : Group) (a : Arrival) (now : ℕ) (d : Draft) : Type 0 where
  of_beat : (n : ℕ) (r : Record) → a.heartbeat.epoch ≡ pos (suc n) → finite.get g.records d.id ≡ Some r
      → d.after ≡ record_of_beat r a.heartbeat a.stamp now → base ≡ g → d.before ≡ Some r → Made g base a now d
  of_rejoin : (r : Record) → a.heartbeat.epoch ≡ pos 0 → finite.get g.records d.id ≡ Some r
      → d.after ≡ record_of_join (Some r) a.heartbeat a.stamp now → base ≡ g → d.before ≡ Some r → Made g base a now d
  of_newcomer : a.heartbeat.epoch ≡ pos 0 → finite.get g.records d.id ≡ None
      → d.after ≡ record_of_join None a.heartbeat a.stamp now → base ≡ g → d.before ≡ None → Made g base a now d
  of_heir : (old : Member) (i : Text) → a.heartbeat.epoch ≡ pos 0 → finite.get g.records d.id ≡ None → finite.get g.records old.id ≡ Some old.kept
      → a.heartbeat.instance ≡ Some i → old.kept.instance ≡ Some i
      → d.after ≡ record_of_join (Some old.kept) a.heartbeat a.stamp now → base ≡ handed_over g old d.id → d.before ≡ Some old.kept
      → Made g base a now d

pub record Drafting (g : Group) (a : Arrival) (d : Draft) : Type 0 where
  pub base : Group
  pub ready : IsReady g d
  pub records : d.group.records ≡ finite.insert base.records d.id d.after
  pub grants : d.group.grants ≡ base.grants
  pub target : d.group.target ≡ base.target
  pub target_epoch : d.group.target_epoch ≡ g.target_epoch
  pub view : d.group.view ≡ g.view
  pub past : d.group.past ≡ without_past base.past d.id
  pub clock : d.group.clock ≡ max g.clock a.moment
  pub stamp : d.after.stamp ≡ a.stamp
  pub deadline : d.after.session_deadline ≡ saturated_sum (max g.clock a.moment) SESSION_TIMEOUT
  pub epoch : (n : ℕ) × (a.heartbeat.epoch ≡ pos n)
  pub in_time : (last : Stamp) → last_stamp g d.id ≡ Some last → IsLater a.stamp last
  pub named_in_time : (last : Stamp) → last_stamp g a.heartbeat.member ≡ Some last → IsLater a.stamp last
  pub whose : Whose g base a.heartbeat d
  pub made : Made g base a (max g.clock a.moment) d
  pub supported : is_unsupported a.heartbeat ≡ false

-- ---- what it goes through from there

module _ (renewed : Group) (d : Draft) (q : Heartbeat) where
  -- whether the member has given up what it lost
  abbrev pub may : Bool
  may = may_settle renewed.grants d.id (wanted renewed.target d.id) (reported q)

  abbrev pub after : Record
  after = settled_record may d.after renewed.target_epoch renewed.clock

  abbrev pub offered : Group
  offered = settled_by may renewed d.id (Some d.after) renewed.clock

  abbrev pub news : Option Partitions
  news = assignment_of (is_full q || is_news after.sent (shown offered d.id)) (shown offered d.id)

-- the group with a record under an id
abbrev pub stored : Group → Text → Record → Group
stored g m r = record g { records = finite.insert g.records m r }

pub record Stages (d : Draft) (q : Heartbeat) (answer : Answer) (new : Group) : Type 0 where
  pub renewed : Group
  pub sound : IsConsistent renewed
  pub records : renewed.records ≡ d.group.records
  pub grants : renewed.grants ≡ d.group.grants
  pub past : renewed.past ≡ d.group.past
  pub clock : renewed.clock ≡ d.group.clock
  pub target : renewed.target_epoch ≡ d.group.target_epoch → renewed.target ≡ d.group.target
  pub answers : answer ≡ Replied (acceptance d.id (after renewed d q) (news renewed d q))
  pub is_new : new ≡ stored (offered renewed d q) d.id (sent_after (after renewed d q) (news renewed d q))

-- ---- nobody is accepted by a refusal, or where the connection closes

-- the answer isn't one with code 0
abbrev pub Fails : Answer → Type 0
Fails answer = (reply : Reply) → answer ≡ Replied reply → reply.code ≢ codes.NoError

pub closing_fails : (answer : Answer) → answer ≡ Closes → Fails answer
closing_fails answer closes reply said = λ code. cc

pub refusal_fails : (answer : Answer) (code : Code) → IsRefusal (Refused code) → answer ≡ Replied (refusal code) → Fails answer
refusal_fails answer code other refused reply said =
    let same : refusal code ≡ reply = cc in
    λ is. other (ap (λ (r : Reply). r.code) same ∙ is)

pub nobody : (answer : Answer) → Fails answer → (m : Text) → IsAcceptedAs m answer → ⊥
nobody answer fails m accepted = fails accepted.reply accepted.is_reply accepted.code

-- ---- what comes of it

pub data Came (g : Group) (a : Arrival) (answer : Answer) (new : Group) : Type 0 where
  unchanged : new ≡ g → Fails answer → Came g a answer new
  has_left : (r : Record) → a.heartbeat.epoch ≡ LEAVES_AT → finite.get g.records a.heartbeat.member ≡ Some r → IsLater a.stamp r.stamp
      → answer ≡ Replied (farewell a.heartbeat.member LEAVES_AT) → new ≡ left g a.heartbeat.member a.stamp a.moment → Came g a answer new
  went_away : (r : Record) → a.heartbeat.epoch ≡ GOES_AWAY_AT → finite.get g.records a.heartbeat.member ≡ Some r → IsLater a.stamp r.stamp
      → answer ≡ Replied (farewell a.heartbeat.member GOES_AWAY_AT) → new ≡ gone_away g a.heartbeat.member r a.stamp a.moment → Came g a answer new
  taken_in : (d : Draft) → Drafting g a d → Stages d a.heartbeat answer new → TakesIn g d a.heartbeat a.image answer new → Came g a answer new

-- ---- the renewal

module _ (d renewed : Group) (sound : IsConsistent d) where
  abbrev Renewed : Type 0
  Renewed =
      (renewed.records ≡ d.records) × (renewed.grants ≡ d.grants) × (renewed.past ≡ d.past) × (renewed.clock ≡ d.clock)
      × (renewed.target_epoch ≡ d.target_epoch → renewed.target ≡ d.target)

  -- c is the group with a change on, or without one
  renewed_as : (c : Group) → c.records ≡ d.records → c.grants ≡ d.grants → c.past ≡ d.past → c.clock ≡ d.clock → c.target ≡ d.target → c.target_epoch ≡ d.target_epoch
      → (b : Bool) → (c.epoch == c.target_epoch) ≡ b → RenewsWhere b c renewed → Renewed
  renewed_as c records grants past clock target target_epoch true same is = (
    ap (λ (x : Group). x.records) is ∙ records,
    ap (λ (x : Group). x.grants) is ∙ grants,
    ap (λ (x : Group). x.past) is ∙ past,
    ap (λ (x : Group). x.clock) is ∙ clock,
    λ never. ap (λ (x : Group). x.target) is ∙ target,
  )
  renewed_as c records grants past clock target target_epoch false apart (owners, is_target, is) = (
    ap (λ (x : Group). x.records) is ∙ records,
    ap (λ (x : Group). x.grants) is ∙ grants,
    ap (λ (x : Group). x.past) is ∙ past,
    ap (λ (x : Group). x.clock) is ∙ clock,
    λ same. absurd (true≢false (sym ((Decides-eqb c.epoch c.target_epoch).1 (sym (ap (λ (x : Group). x.target_epoch) is) ∙ same ∙ sym target_epoch)) ∙ apart)),
  )

  renewed_if : (change : Bool) (view : Topics) → Renews (changed_if change d view) renewed → Renewed
  renewed_if true view renews = renewed_as (changed_if true d view) refl refl refl refl refl refl (suc d.epoch == d.target_epoch) refl renews
  renewed_if false view renews = renewed_as d refl refl refl refl refl refl (d.epoch == d.target_epoch) refl renews

  renewed_consistently : (change : Bool) (view : Topics) → (change && nat_le GREATEST_EPOCH d.epoch) ≡ false → Renews (changed_if change d view) renewed → IsConsistent renewed
  renewed_consistently false view room renews = renewed_is_consistent d sound renewed renews
  renewed_consistently true view room renews =
      let below = leb-false GREATEST_EPOCH d.epoch room in
      let target = sound.target_epoch in
      changed_is_consistent d sound (suc d.epoch) view renewed (omega (arith, target)) (omega (arith, below)) renews

-- ---- the stages

module _ (g : Group) (a : Arrival) (answer : Answer) (new : Group) (d : Draft) (drafting : Drafting g a d) where
  abbrev q : Heartbeat
  q = a.heartbeat

  is_stored : finite.get d.group.records d.id ≡ Some d.after
  is_stored = ap (λ (rs : Records). finite.get rs d.id) drafting.records ∙ get-inserted drafting.base.records d.id d.after

  goes_on : (change : Bool) (view : Topics) → (change && nat_le GREATEST_EPOCH d.group.epoch) ≡ false
      → machine.Stages (changed_if change d.group view) d q answer new → Stages d q answer new
  goes_on change view room goes =
      let renewed : Group = goes.renewed in
      let same = renewed_if d.group renewed drafting.ready.sound change view goes.renews in
      let there : finite.get renewed.records d.id ≡ Some d.after = ap (λ (rs : Records). finite.get rs d.id) same.0 ∙ is_stored in
      let is_settled : goes.settled ≡ offered renewed d q =
      goes.settles ∙ ap (λ (o : Option Record). settled_by (may renewed d q) renewed d.id o renewed.clock) there in
      let is_kept : goes.kept ≡ after renewed d q =
      some_is goes.kept (after renewed d q) (sym goes.is_kept ∙ ap (λ (x : Group). finite.get x.records d.id) is_settled ∙ get-inserted renewed.records d.id (after renewed d q)) in
      let is_told : goes.told ≡ news renewed d q =
      goes.tells ∙ ap (λ (x : Group). assignment_of (is_full q || is_news goes.kept.sent (shown x d.id)) (shown x d.id)) is_settled
      ∙ ap (λ (r : Record). assignment_of (is_full q || is_news r.sent (shown (offered renewed d q) d.id)) (shown (offered renewed d q) d.id)) is_kept in
      record {
        renewed = renewed;
        sound = renewed_consistently d.group renewed drafting.ready.sound change view room goes.renews;
        records = same.0;
        grants = same.1;
        past = same.2;
        clock = same.3;
        target = same.4;
        answers = goes.answers ∙ (λ i. Replied (acceptance d.id (is_kept i) (is_told i)));
        is_new = goes.leaves ∙ (λ i. stored (is_settled i) d.id (sent_after (is_kept i) (is_told i)));
      }

  pub takes_in : TakesIn g d q a.image answer new → Came g a answer new
  takes_in takes = by (takes.change && nat_le GREATEST_EPOCH g.epoch) refl takes.step
    where
      by : (b : Bool) → (takes.change && nat_le GREATEST_EPOCH g.epoch) ≡ b
          → ByVerdict (cond b (Refused codes.CoordinatorNotAvailable) Accepted) (machine.Stages (changed_if takes.change d.group (view_for a.image d.group.records)) d q) g answer new → Came g a answer new
      by true stuck is = unchanged is.1 (refusal_fails answer codes.CoordinatorNotAvailable unavailable_is is.0)
      by false room is =
          taken_in d drafting
          (goes_on takes.change (view_for a.image d.group.records) (ap (λ e. takes.change && nat_le GREATEST_EPOCH e) drafting.ready.epoch ∙ room) is)
          takes

-- ---- the drafts

not_in_past : (past : Past) (m : Text) → list_any (λ (e : Text × Stamp). eq_by_cmp text_cmp m e.0) past ≡ false → past_stamp past m ≡ None
not_in_past [] m none = refl
not_in_past (e ∷ past) m none = by (not_in_past past m) (eq_by_cmp text_cmp m e.0) none
  where
    by : (list_any (λ (e : Text × Stamp). eq_by_cmp text_cmp m e.0) past ≡ false → past_stamp past m ≡ None) → (b : Bool)
        → (b || list_any (λ (e : Text × Stamp). eq_by_cmp text_cmp m e.0) past) ≡ false → cond b (Some e.1) (past_stamp past m) ≡ None
    by rest true never = absurd (true≢false never)
    by rest false none = rest none

unremembered : (o : Option Record) (b : Bool) → (is_some o || b) ≡ false → (o ≡ None) × (b ≡ false)
unremembered None b none = (refl, none)
unremembered (Some r) b never = absurd (true≢false never)

-- a stamp that is known under the id of a member without a record is that of the id that it names
named_stamp : (g : Group) (m : Text) (name : Name) → IsNamed g m (Some name) → record_under g.records m ≡ None
    → (last : Stamp) → last_stamp g name.id ≡ Some last → last_stamp g m ≡ Some last
named_stamp g (c ∷ m) name named none last is =
    ap (last_stamp g) (sym (ap (λ (n : Name). n.id) (some_is name (record { id = c ∷ m; next_serial = g.serial }) named))) ∙ is
named_stamp g [] name (serial, is_serial, named) none last is = absurd (by serial is_serial named)
  where
    by : (o : Option ℕ) → IsSerial g o → Some name ≡ option_map (name_of_serial g) o → ⊥
    by None serials never = not_none name (sym never)
    by (Some n) serials same_some =
        let same : name ≡ name_of_serial g n = some_is name (name_of_serial g n) same_some in
        let fresh = unremembered (finite.get g.records (made_id g.salt n)) _ serials.fresh in
        not_none last
        (sym ((λ i. stamp_kept (fresh.0 i) (not_in_past g.past (made_id g.salt n) fresh.1 i))) ∙ ap (last_stamp g) (sym (ap (λ (x : Name). x.id) same)) ∙ is)

named_instance : (records : Records) (m : Text) (instance : Option Text) (old : Member) → other_with records m instance ≡ Some old
    → (i : Text) × (instance ≡ Some i)
named_instance records m None old is = absurd (not_none old is)
named_instance records m (Some i) old is = (i, refl)

either_true : (a b : Bool) → a ≡ true → (a || b) ≡ true
either_true true b so = refl
either_true false b never = absurd (true≢false (sym never))

away_of : (e : Epoch) → not (is_away e) ≡ false → is_away e ≡ true
away_of (At n) never = absurd (true≢false never)
away_of Away so = refl

module _ (g : Group) (sound : IsConsistent g) (a : Arrival) where
  abbrev TheHeartbeat : Heartbeat
  TheHeartbeat = a.heartbeat

  abbrev TheSender : Sender
  TheSender = sender_of g.records TheHeartbeat

  abbrev Now : ℕ
  Now = max g.clock a.moment

  beat_drafting : (n : ℕ) → TheHeartbeat.epoch ≡ pos (suc n) → is_unsupported TheHeartbeat ≡ false → (r : Record) → finite.get g.records TheHeartbeat.member ≡ Some r
      → ((last : Stamp) → stamp_kept (finite.get g.records TheHeartbeat.member) None ≡ Some last → IsLater a.stamp last)
      → Drafting g a (draft_of_beat g Now r TheHeartbeat a.stamp)
  beat_drafting n epoch supported r there later =
      record {
        base = g;
        ready = beat_is_ready g sound Now r TheHeartbeat a.stamp there;
        records = refl;
        grants = refl;
        target = refl;
        target_epoch = refl;
        view = refl;
        past = refl;
        clock = refl;
        stamp = refl;
        deadline = refl;
        epoch = (suc n, epoch);
        in_time = λ last is. later last (ap (λ o. stamp_kept o None) there ∙ sym (ap (λ o. stamp_kept o (past_stamp g.past TheHeartbeat.member)) there) ∙ is);
        named_in_time = λ last is. later last (ap (λ o. stamp_kept o None) there ∙ sym (ap (λ o. stamp_kept o (past_stamp g.past TheHeartbeat.member)) there) ∙ is);
        whose = its_own r refl refl there (beat_epoch r TheHeartbeat a.stamp Now) (λ partial. refl) refl;
        made = of_beat n r epoch there refl refl refl;
        supported = supported;
      }

  module _ (joins : TheHeartbeat.epoch ≡ pos 0) (supported : is_unsupported TheHeartbeat ≡ false) (name : Name) (named : IsNamed g TheHeartbeat.member (Some name))
      (later : (last : Stamp) → last_stamp g TheHeartbeat.member ≡ Some last → IsLater a.stamp last) where
    abbrev Joined : Option Record → Option Member → Draft
    Joined own other = draft_of_join (record g { serial = name.next_serial }) Now name.id own other TheHeartbeat a.stamp

    join_is_full : is_full TheHeartbeat ≡ true
    join_is_full = either_true (int_eq TheHeartbeat.epoch (pos 0)) _ (ap (λ z. int_eq z (pos 0)) joins)

    join_reports : reported TheHeartbeat ≡ Some nothing
    join_reports = ap (λ z. reported_at (kind_of z) TheHeartbeat.owned) joins

    join_drafting : (one : Option Record) → TheSender.own ≡ one → (other : Option Member) → TheSender.other ≡ other
        → is_unreleased one other ≡ false → IsReady g (Joined one other) → Drafting g a (Joined one other)
    join_drafting None none None alone released ready =
        let fresh = named_fresh g TheHeartbeat.member name named none in
        record {
          base = g;
          ready = ready;
          records = refl;
          grants = refl;
          target = refl;
          target_epoch = refl;
          view = refl;
          past = refl;
          clock = refl;
          stamp = refl;
          deadline = refl;
          epoch = (0, joins);
          named_in_time = later;
          in_time = λ last is. later last (named_stamp g TheHeartbeat.member name named none last is);
          whose = newcomer refl fresh.0 join_reports join_is_full;
          made = of_newcomer joins fresh.0 refl refl refl;
          supported = supported;
        }
    join_drafting None none (Some old) is released ready =
        let fresh = named_fresh g TheHeartbeat.member name named none in
        let there = other_is g.records TheHeartbeat.member TheHeartbeat.instance old is in
        let i = named_instance g.records TheHeartbeat.member TheHeartbeat.instance old is in
        record {
          base = handed_over g old name.id;
          ready = ready;
          records = refl;
          grants = refl;
          target = refl;
          target_epoch = refl;
          view = refl;
          past = refl;
          clock = refl;
          stamp = refl;
          deadline = refl;
          epoch = (0, joins);
          named_in_time = later;
          in_time = λ last is. later last (named_stamp g TheHeartbeat.member name named none last is);
          whose = takes_over old refl there.0 fresh.0 (away_of old.kept.epoch released) (sym there.1) join_reports join_is_full;
          made = of_heir old i.0 joins fresh.0 there.0 i.1 (there.1 ∙ i.1) refl refl refl;
          supported = supported;
        }
    join_drafting (Some r) is_own other is released ready =
        let same = named_own g TheHeartbeat.member name r named is_own in
        let there = own_is g.records TheHeartbeat.member r is_own in
        record {
          base = g;
          ready = ready;
          records = refl;
          grants = refl;
          target = refl;
          target_epoch = refl;
          view = refl;
          past = refl;
          clock = refl;
          stamp = refl;
          deadline = refl;
          epoch = (0, joins);
          named_in_time = later;
          in_time = λ last is. later last (ap (last_stamp g) (sym same) ∙ is);
          whose = its_own r refl same (ap (finite.get g.records) same ∙ there) (join_epoch r TheHeartbeat a.stamp Now) (λ partial. absurd (true≢false (sym join_is_full ∙ partial))) refl;
          made = of_rejoin r joins (ap (finite.get g.records) same ∙ there) refl refl refl;
          supported = supported;
        }

  -- ---- by the kind of heartbeat

  module _ (answer : Answer) (new : Group) where
    came_joins : TheHeartbeat.epoch ≡ pos 0 → verdict_on Joins TheSender g TheHeartbeat a.stamp ≡ Accepted → (o : Option Name) → IsNamed g TheHeartbeat.member o
        → MatchOption o (IsRefused codes.CoordinatorNotAvailable g answer new) (λ n. TakesIn g (draft_under n TheSender g a) TheHeartbeat a.image answer new)
        → Came g a answer new
    came_joins joins accepted None named is = unchanged is.1 (refusal_fails answer codes.CoordinatorNotAvailable unavailable_is is.0)
    came_joins joins accepted (Some name) named is =
        let passes = joining g sound TheHeartbeat a.stamp accepted in
        takes_in g a answer new _
        (join_drafting joins passes.supported name named passes.in_time TheSender.own refl TheSender.other refl passes.released
        (join_is_ready g sound Now TheHeartbeat a.stamp name named TheSender.own refl TheSender.other refl passes.released passes.room))
        is

    came_beats : (n : ℕ) → TheHeartbeat.epoch ≡ pos (suc n) → verdict_on (Beats (suc n)) TheSender g TheHeartbeat a.stamp ≡ Accepted
        → (one : Option Record) → TheSender.own ≡ one → BeatsWith one g a answer new → Came g a answer new
    came_beats n epoch accepted None none is = absurd is
    came_beats n epoch accepted (Some r) is_own is =
        takes_in g a answer new _
        (beat_drafting n epoch (beating g sound TheHeartbeat a.stamp (suc n) accepted) r (own_is g.records TheHeartbeat.member r is_own) (in_time g sound TheHeartbeat a.stamp (Beats (suc n)) accepted)) is

    came_leaves : TheHeartbeat.epoch ≡ LEAVES_AT → verdict_on Leaves TheSender g TheHeartbeat a.stamp ≡ Accepted → StepOf Leaves TheSender g a answer new → Came g a answer new
    came_leaves epoch accepted is =
        let who = leaver g sound TheHeartbeat a.stamp accepted TheSender.own refl in
        has_left who.0 epoch who.1 (in_time g sound TheHeartbeat a.stamp Leaves accepted who.0.stamp (ap (λ o. stamp_kept o None) who.1)) is.0 is.1

    came_goes : TheHeartbeat.epoch ≡ GOES_AWAY_AT → verdict_on GoesAway TheSender g TheHeartbeat a.stamp ≡ Accepted
        → (one : Option Record) → TheSender.own ≡ one → GoesAwayWith one g a answer new → Came g a answer new
    came_goes epoch accepted None none is = absurd is
    came_goes epoch accepted (Some r) is_own is =
        let there = own_is g.records TheHeartbeat.member r is_own in
        went_away r epoch there (in_time g sound TheHeartbeat a.stamp GoesAway accepted r.stamp (ap (λ o. stamp_kept o None) there)) is.0 is.1

    came_at : (z : ℤ) → TheHeartbeat.epoch ≡ z → verdict_on (kind_of z) TheSender g TheHeartbeat a.stamp ≡ Accepted → StepOf (kind_of z) TheSender g a answer new → Came g a answer new
    came_at (pos zero) epoch accepted is = came_joins epoch accepted is.name is.is_named is.joins
    came_at (pos (suc n)) epoch accepted is = came_beats n epoch accepted TheSender.own refl is
    came_at (negsuc zero) epoch accepted is = came_leaves epoch accepted is
    came_at (negsuc (suc zero)) epoch accepted is = came_goes epoch accepted TheSender.own refl is
    came_at (negsuc (suc (suc n))) epoch accepted is = absurd is

    by_verdict : (v : Verdict) → verdict_on (kind_of TheHeartbeat.epoch) TheSender g TheHeartbeat a.stamp ≡ v
        → ByVerdict v (StepOf (kind_of TheHeartbeat.epoch) TheSender g a) g answer new → Came g a answer new
    by_verdict Accepted accepted is = came_at TheHeartbeat.epoch refl accepted is
    by_verdict (Refused code) refused is =
        unchanged is.1
        (refusal_fails answer code (subst IsRefusal refused (refusals_differ (kind_of TheHeartbeat.epoch) TheSender g TheHeartbeat a.stamp)) is.0)
    by_verdict Overtaken late is = unchanged is.1 (closing_fails answer is.0)

pub came : (g : Group) → IsConsistent g → (a : Arrival) (answer : Answer) (new : Group) → HeartbeatStep g a answer new → Came g a answer new
came g sound a answer new step =
    by_verdict g sound a answer new (verdict_on (kind_of a.heartbeat.epoch) (sender_of g.records a.heartbeat) g a.heartbeat a.stamp) refl step
