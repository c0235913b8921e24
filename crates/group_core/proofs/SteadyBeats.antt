-- A steady beat changes nothing but its member's stamp and session, and the clock.
use Rattle.std.proofs.Common.{◌≡◌, ℕ, suc, max, ◌==◌, Bool, true, false, cond, not, ◌&&◌, ◌||◌, [], ◌∷◌, pos, refl, sym, ap, subst, ◌∙◌, Option, Some, None, is_none, is_some, ℤ, ◌≤ℤ◌, zero, arith}
use Rattle.std.proofs.lemmas.Int.{ints}
use Rattle.group_core.specs.declared.state.State.{State}
use Rattle.group_core.specs.GroupView.{group_of}
use Rattle.std.specs.Ordering.{eq_by_cmp, int_eq}
use Rattle.std.specs.FinMap as finite
use Rattle.std.specs.Option.{option_or, option_and_then}
use Rattle.std.proofs.lemmas.Bool.Decides.{Decides-eqb, Decides-int_eq}
use Rattle.group_types.specs.declared.epoch.Epoch.{Epoch}
use Rattle.group_types.specs.declared.epoch.Epoch.TheVariants.{At}
use Rattle.group_types.specs.declared.stamp.Stamp.{Stamp}
use Rattle.group_types.specs.Text.{Text, text_cmp}
use Rattle.group_types.specs.Sets.{common, is_nothing, minus}
use Rattle.group_types.specs.Partition.{Partitions}
use Rattle.group_types.specs.Topics.{Topics}
use Rattle.group_types.specs.AssignorName.{assignor_named}
use Rattle.group_types.specs.Request.{Heartbeat, Beats, SAME_TIMEOUT, is_full, is_invalid, is_unsupported, kind_of, reported}
use Rattle.group_types.specs.Group.{Record, Grants, Past, Group, held, wanted}
use Rattle.group_types.specs.Members.{past_stamp, without_past}
use Rattle.group_types.specs.Join.{names_after, record_of_beat, timeout_after}
use Rattle.group_types.specs.Settle.{arrived, may_move, moved, settled, settled_by, is_free_for}
use Rattle.group_types.specs.Sets.{has}
use Rattle.group_types.specs.Renewal.{RenewsWhere}
use Rattle.group_types.specs.Checks.{Accepted, Overtaken, Refused, Sender, Verdict, are_granted, first_of, is_current, is_fenced, is_late, is_overtaken, request_checks, sender_of, verdict_on}
use Rattle.group_types.specs.declared.code.Code.TheVariants as codes
use Rattle.group_types.specs.HeartbeatStep.{Answer, Arrival, BeatsWith, ByVerdict, Draft, HeartbeatStep, Replied, Stages, StepBy, StepOf, TakesIn, acceptance, assignment_of, draft_of, draft_of_beat, is_news, shown}
use Rattle.group_types.specs.Sound.{IsSound}
use Rattle.group_types.proofs.GrantLemmas.{grant_cmp_total, grant_cmp-IsAntisymmetric, has-held, has-moved}
use Rattle.group_types.proofs.Lookups.{Tie, ties, differs, tie, get-inserted, get-insert_other, not_none, same_text, some_is}
use Rattle.group_types.proofs.Orders.{text_cmp_total, text_cmp-IsAntisymmetric, partition_cmp_total, partition_cmp-IsAntisymmetric}
use Rattle.group_types.proofs.PastLemmas.{not_past}
use Rattle.group_types.proofs.SetLemmas.{are_same-Decides, is_nothing-Decides, minus-itself, same_set}
use Rattle.group_epochs.specs.Records.{GivesNothing, IsMarkedBeat, beaten}
use Rattle.group_core.specs.Checks.{verdict_on_request}
use Rattle.group_core.specs.Outcome.{IsCurrent}
use Rattle.group_core.specs.Steady.{AreMarked, IsSteady, IsSteadyBeat, beaten_by}
use Rattle.group_core.proofs.GrantLemmas.{common-itself}
use Rattle.group_epochs.proofs.Senders.{record_under-get}
use Rattle.group_core.proofs.Single.{insert-insert}
use Rattle.group_types.proofs.ViewsFor.{view_for-insert}

-- ---- who holds its target keeps it

settled_here : (same mine free theirs : Bool) → (same ≡ true → theirs ≡ mine) → cond same (mine && (mine || free)) theirs ≡ theirs
settled_here true true free theirs is = sym (is refl)
settled_here true false free theirs is = sym (is refl)
settled_here false mine free theirs is = refl

moved_stays : (g : Grants) (m : Text) (target : Partitions) → held g m ≡ target → moved g m target ≡ g
moved_stays g m target is =
    same_set grant_cmp_total grant_cmp-IsAntisymmetric _ _
    (λ k. has-moved g m target k.0 k.1
    ∙ ap (λ b. cond (eq_by_cmp text_cmp k.0 m) (b && (has g (m, k.1) || is_free_for g m k.1)) (has g k)) (ap (λ s. has s k.1) (sym is) ∙ has-held g m k.1)
    ∙ settled_here (eq_by_cmp text_cmp k.0 m) (has g (m, k.1)) (is_free_for g m k.1) (has g k)
    (λ same. ap (λ x. has g (x, k.1)) (same_text k.0 m same)))

nothing_more : (set target : Partitions) → set ≡ target → is_nothing (minus set target) ≡ true
nothing_more set target is =
    (is_nothing-Decides (minus set target)).1 (ap (minus set) (sym is) ∙ minus-itself partition_cmp_total partition_cmp-IsAntisymmetric set)

may_go : (set target : Partitions) (owned : Option Partitions) → set ≡ target → may_move (minus set target) owned ≡ true
may_go set target None is = nothing_more set target is
may_go set target (Some o) is =
    ap (λ b. b || is_nothing (common o (minus set target))) (nothing_more set target is)

stays : (r : Record) (epoch : Epoch) (t : ℕ) → epoch ≡ At t → r.release_deadline ≡ None → arrived r epoch t ≡ r
stays r epoch t at none =
    ap (λ e. arrived r e t) at
    ∙ ap (λ b. cond b (record r { release_deadline = None }) (record r { previous_epoch = t; epoch = At t; release_deadline = None })) ((Decides-eqb t t).1 refl)
    ∙ ap (λ d. record r { release_deadline = d }) (sym none)

no_news : (r : Record) (set : Partitions) → r.sent ≡ Some set → is_news r.sent set ≡ false
no_news r set sent =
    ap (λ o. is_news o set) sent ∙ ap not ((are_same-Decides partition_cmp_total partition_cmp-IsAntisymmetric set set).1 refl)

-- ---- a member that has a record isn't of the past

pub kept_past : (past : Past) (m : Text) → past_stamp past m ≡ None → without_past past m ≡ past
kept_past [] m none = refl
kept_past (e ∷ past) m none =
    elim (eq_by_cmp text_cmp m e.0) as (λ b. cond b (Some e.1) (past_stamp past m) ≡ None → cond (not b) (e ∷ without_past past m) (without_past past m) ≡ e ∷ past) [
      | true ↦ λ is. absurd (not_none e.1 (sym is))
      | false ↦ λ is. ap (λ rest. e ∷ rest) (kept_past past m is)
    ] none

-- ---- the beat

module _ (g : Group) (m : Text) (steady : IsSteady g m) (after : Record) (now : ℕ)
    (names : after.names ≡ steady.kept.names) (assignor : after.assignor ≡ steady.kept.assignor)
    (epoch : after.epoch ≡ steady.kept.epoch) (release : after.release_deadline ≡ steady.kept.release_deadline) (sent : after.sent ≡ steady.kept.sent)
    (renewed : g.epoch ≡ g.target_epoch) where
  abbrev Drafted : Draft
  Drafted = draft_of g now m (Some steady.kept) after

  abbrev Here : Group
  Here = Drafted.group

  found : finite.get Here.records m ≡ Some after
  found = get-inserted g.records m after

  settles : (owned : Option Partitions) → settled Here m owned now ≡ Here
  settles owned =
      (λ i. settled_by (may_go (held g.grants m) (wanted g.target m) owned steady.holds i) Here m (found i) now)
      ∙ (λ i. record Here {
        grants = moved_stays g.grants m (wanted g.target m) steady.holds i;
        records = (ap (finite.insert Here.records m) (stays after after.epoch g.target_epoch (epoch ∙ steady.arrived) (release ∙ steady.unasked)) ∙ insert-insert text_cmp_total text_cmp-IsAntisymmetric g.records m after after) i;
      })

  sees : shown Here m ≡ wanted g.target m
  sees = ap (λ s. common s (wanted g.target m)) steady.holds ∙ common-itself (wanted g.target m)

  quiet : (q : Heartbeat) → is_full q ≡ false → assignment_of (is_full q || is_news after.sent (shown Here m)) (shown Here m) ≡ None
  quiet q short =
      ap (λ b. assignment_of (b || is_news after.sent (shown Here m)) (shown Here m)) short
      ∙ ap (λ s. assignment_of (is_news after.sent s) (shown Here m)) sees
      ∙ ap (λ b. assignment_of b (shown Here m)) (no_news after (wanted g.target m) (sent ∙ steady.sent))

  pub taken_in : (q : Heartbeat) (image : Topics) → is_full q ≡ false → IsCurrent g image → TakesIn g Drafted q image (Replied (acceptance m after None)) Here
  taken_in q image short current =
      let answer : Answer = Replied (acceptance m after None) in
      let stages : Stages Here Drafted q answer Here =
      record {
        renewed = Here;
        renews = subst (λ b. RenewsWhere b Here Here) (sym ((Decides-eqb g.epoch g.target_epoch).1 renewed)) refl;
        settled = Here;
        settles = sym (settles (reported q));
        kept = after;
        is_kept = found;
        told = None;
        tells = sym (quiet q short);
        answers = refl;
        leaves = λ i. record Here { records = sym (insert-insert text_cmp_total text_cmp-IsAntisymmetric g.records m after after) i };
      } in
      record {
        change = false;
        is_change = record {
          names = sym names;
          assignor = sym assignor;
          view = current ∙ sym (view_for-insert image g.records m steady.kept after steady.is_kept names);
        };
        step = stages;
      }

-- a beat that gives nothing leaves the record but for its stamp and its session
only_beaten : (r : Record) (q : Heartbeat) (stamp : Stamp) (now : ℕ) → GivesNothing q → record_of_beat r q stamp now ≡ beaten r stamp now
only_beaten r q stamp now gives =
    λ i. record (beaten r stamp now) {
      rack = option_or (gives.rack i) r.rack;
      names = names_after r.names (gives.names i);
      assignor = option_or (option_and_then assignor_named (gives.assignor i)) r.assignor;
      rebalance_timeout = timeout_after r.rebalance_timeout (gives.rebalance_timeout i);
    }

-- ---- the whole step

passed_both : (a b : Bool) (v w : Verdict) → (v ≡ Accepted → ⊥) → (w ≡ Accepted → ⊥) → cond a v (cond b w Accepted) ≡ Accepted → (a ≡ false) × (b ≡ false)
passed_both true b v w fails failing is = absurd (fails is)
passed_both false true v w fails failing is = absurd (failing is)
passed_both false false v w fails failing is = (refl, refl)

not_so : (b : Bool) → (b ≡ true → ⊥) → b ≡ false
not_so true never = absurd (never refl)
not_so false never = refl

module _ (g : Group) (sound : IsSound g) (a : Arrival) (steady : IsSteady g a.heartbeat.member) (gives : GivesNothing a.heartbeat)
    (n : ℕ) (at : a.heartbeat.epoch ≡ pos (suc n)) (number : g.target_epoch ≡ suc n) (valid : verdict_on_request a.heartbeat ≡ Accepted)
    (renewed : g.epoch ≡ g.target_epoch) (later : is_late a.stamp steady.kept.stamp ≡ false) (current : IsCurrent g a.image) where
  abbrev Q : Heartbeat
  Q = a.heartbeat

  abbrev Now : ℕ
  Now = max g.clock a.moment

  abbrev Whose : Sender
  Whose = sender_of g.records Q

  own : Whose.own ≡ Some steady.kept
  own = record_under-get g.records Q.member sound.named ∙ steady.is_kept

  abbrev Granted : Bool
  Granted = are_granted g.grants Q.member Q.owned

  is_current_so : is_current (suc n) steady.kept.epoch steady.kept.previous_epoch Granted ≡ true
  is_current_so =
      ap (λ e. is_current (suc n) e steady.kept.previous_epoch Granted) steady.arrived
      ∙ ap (λ b. b || (steady.kept.previous_epoch == suc n && Granted)) ((Decides-eqb g.target_epoch (suc n)).1 number)

  accepted : verdict_on (Beats (suc n)) Whose g Q a.stamp ≡ Accepted
  accepted =
      let both = passed_both (is_invalid Q) (is_unsupported Q) (Refused codes.InvalidRequest) (Refused codes.UnsupportedAssignor) (λ is. cc) (λ is. cc)
      (sym (ap (λ e. first_of (request_checks (kind_of e) Q)) at) ∙ valid) in
      (λ i. cond (both.0 i) (Refused codes.InvalidRequest) (cond (both.1 i) (Refused codes.UnsupportedAssignor)
      (cond (is_none (own i)) (Refused codes.UnknownMemberId) (cond (is_overtaken a.stamp (own i)) Overtaken (cond (is_fenced (suc n) (own i) Granted) (Refused codes.FencedMemberEpoch) Accepted)))))
      ∙ (λ i. cond (later i) Overtaken (cond (not (is_current_so i)) (Refused codes.FencedMemberEpoch) Accepted))

  short : is_full Q ≡ false
  short =
      ap (λ t. int_eq Q.epoch (pos 0) || (not (int_eq t SAME_TIMEOUT) && is_some Q.names && is_some Q.owned)) gives.rebalance_timeout
      ∙ ap (λ b. b || false) (not_so (int_eq Q.epoch (pos 0)) (λ so. let never : pos (suc n) ≡ pos 0 = sym at ∙ (Decides-int_eq Q.epoch (pos 0)).0 so in cc))

  abbrev After : Record
  After = beaten steady.kept a.stamp Now

  abbrev pub TheAnswer : Answer
  TheAnswer = Replied (acceptance Q.member After None)

  abbrev New : Group
  New = beaten_by g Q.member steady.kept a.stamp Now

  beats : BeatsWith (Some steady.kept) g a TheAnswer New
  beats =
      let taken = taken_in g Q.member steady After Now refl refl refl refl refl renewed Q a.image short current in
      let drafted : draft_of_beat g Now steady.kept Q a.stamp ≡ draft_of g Now Q.member (Some steady.kept) After = ap (λ r. draft_of g Now Q.member (Some steady.kept) r) (only_beaten steady.kept Q a.stamp Now gives) in
      let same : (draft_of g Now Q.member (Some steady.kept) After).group ≡ New =
      λ i. record New { past = kept_past g.past Q.member (not_past g.records g.past Q.member steady.kept sound.past steady.is_kept) i } in
      subst (λ (d : Draft). TakesIn g d Q a.image TheAnswer New) (sym drafted)
      (subst (λ (x : Group). TakesIn g (draft_of g Now Q.member (Some steady.kept) After) Q a.image TheAnswer x) same taken)

  pub steady_step : HeartbeatStep g a TheAnswer New
  steady_step =
      let by_own : StepOf (Beats (suc n)) Whose g a TheAnswer New = subst (λ (o : Option Record). BeatsWith o g a TheAnswer New) (sym own) beats in
      let by_verdict : StepBy (Beats (suc n)) Whose g a TheAnswer New = subst (λ v. ByVerdict v (StepOf (Beats (suc n)) Whose g a) g TheAnswer New) (sym accepted) by_own in
      subst (λ z. StepBy (kind_of z) Whose g a TheAnswer New) (sym at) by_verdict

-- ---- who is steady, afterwards

-- the member of the beat is as steady as it was, and so are the others
pub steady_then : (g : Group) (m : Text) (r : Record) (stamp : Stamp) (now : ℕ) → finite.get g.records m ≡ Some r → (n : Text) → IsSteady g n → IsSteady (beaten_by g m r stamp now) n
steady_then g m r stamp now there n steady = by (tie n m)
  where
    by : Tie n m → IsSteady (beaten_by g m r stamp now) n
    by (ties same) =
        let kept_is : steady.kept ≡ r = some_is steady.kept r (sym steady.is_kept ∙ ap (finite.get g.records) same ∙ there) in
        record {
          kept = beaten r stamp now;
          is_kept = ap (finite.get (finite.insert g.records m (beaten r stamp now))) same ∙ get-inserted g.records m (beaten r stamp now);
          arrived = ap (λ (x : Record). x.epoch) (sym kept_is) ∙ steady.arrived;
          unasked = ap (λ (x : Record). x.release_deadline) (sym kept_is) ∙ steady.unasked;
          holds = steady.holds;
          sent = ap (λ (x : Record). x.sent) (sym kept_is) ∙ steady.sent;
        }
    by (differs other apart) =
        record {
          kept = steady.kept;
          is_kept = get-insert_other g.records m (beaten r stamp now) n apart ∙ steady.is_kept;
          arrived = steady.arrived;
          unasked = steady.unasked;
          holds = steady.holds;
          sent = steady.sent;
        }

-- ---- the state

no_beat : (z : ℤ) → z ≡ pos 0 → pos 1 ≤ℤ z → ⊥
no_beat z none low = omega (arith, ints)

module _ (s : State) (sound : IsSound (group_of s)) (marks : AreMarked (group_of s) s.records.marks) (a : Arrival) (is : IsSteadyBeat s a.heartbeat)
    (beat : IsMarkedBeat s.records a.heartbeat.member s.target.epoch a.stamp) where
  abbrev G : Group
  G = group_of s

  steady_is : IsSteady G a.heartbeat.member
  steady_is = (marks a.heartbeat.member s.target.epoch beat.marked).1 refl

  same_record : steady_is.kept ≡ beat.kept
  same_record = some_is steady_is.kept beat.kept (sym steady_is.is_kept ∙ beat.is_kept)

  -- a steady beat is answered as the machine has it
  pub steady_answers : IsCurrent G a.image
      → HeartbeatStep G a (Replied (acceptance a.heartbeat.member (record (beaten beat.kept a.stamp (max G.clock a.moment)) { epoch = At s.target.epoch }) None)) (beaten_by G a.heartbeat.member beat.kept a.stamp (max G.clock a.moment))
  steady_answers current = by s.target.epoch refl
    where
      now : ℕ
      now = max G.clock a.moment

      by : (t : ℕ) → s.target.epoch ≡ t
          → HeartbeatStep G a (Replied (acceptance a.heartbeat.member (record (beaten beat.kept a.stamp now) { epoch = At s.target.epoch }) None)) (beaten_by G a.heartbeat.member beat.kept a.stamp now)
      by zero none = absurd (let low = is.beats in let at : a.heartbeat.epoch ≡ pos 0 = is.number ∙ ap pos none in no_beat a.heartbeat.epoch at low)
      by (suc n) same =
          let step = steady_step G sound a steady_is is.gives n (is.number ∙ ap pos same) same is.valid is.renewed
          (ap (λ (r : Record). is_late a.stamp r.stamp) same_record ∙ beat.later) current in
          let step_kept : HeartbeatStep G a (Replied (acceptance a.heartbeat.member (beaten beat.kept a.stamp now) None)) (beaten_by G a.heartbeat.member beat.kept a.stamp now) =
          subst (λ (r : Record). HeartbeatStep G a (Replied (acceptance a.heartbeat.member (beaten r a.stamp now) None)) (beaten_by G a.heartbeat.member r a.stamp now)) same_record step in
          subst (λ (e : Epoch). HeartbeatStep G a (Replied (acceptance a.heartbeat.member (record (beaten beat.kept a.stamp now) { epoch = e }) None)) (beaten_by G a.heartbeat.member beat.kept a.stamp now))
          (ap (λ (r : Record). r.epoch) (sym same_record) ∙ steady_is.arrived) step_kept
