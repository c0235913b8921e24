-- A full beat of a member, in its own group: it is accepted, and what it leaves.
use Rattle.std.proofs.Common.{◌≡◌, ◌≢◌, ◌⊎◌, ℕ, suc, ◌<◌, ◌≤◌, ◌==◌, pos, Bool, true, false, not, ◌&&◌, ◌||◌, if◌then◌else◌, List, [], ◌∷◌, int_le, nat_le, max, Option, Some, None, is_none, IsTrue, refl, sym, ap, subst, ◌∙◌, inl, inr, true≢false, arith}
use Rattle.std.specs.List.{list_all, list_any}
use Rattle.std.specs.Ordering.{eq_by_cmp, int_eq}
use Rattle.std.specs.Cmp.{eq_by_cmp_equiv}
use Rattle.std.specs.FinMap as finite
use Rattle.std.proofs.lemmas.Bool.{and_right, leb-true, or_right}
use Rattle.std.proofs.lemmas.Bool.Decides.{Decides-eqb}
use Rattle.group_types.specs.declared.code.Code.TheVariants as codes
use Rattle.group_types.specs.declared.epoch.Epoch.TheVariants.{At}
use Rattle.group_types.specs.declared.partition.Partition.{Partition}
use Rattle.group_types.specs.declared.stamp.Stamp.{Stamp}
use Rattle.group_types.specs.Limits.{GREATEST_EPOCH}
use Rattle.group_types.specs.Text.{Text, text_cmp}
use Rattle.group_types.specs.Sets.{has, in_order}
use Rattle.group_types.specs.Partition.{partition_cmp, Partitions}
use Rattle.group_types.specs.Topics.{Topics}
use Rattle.group_types.specs.Request.{Heartbeat, Beats, is_empty, is_full, is_invalid, is_unsupported, reported}
use Rattle.group_types.specs.Group.{Record, Records, Group, wanted}
use Rattle.group_types.specs.Join.{record_of_beat}
use Rattle.group_types.specs.Settle.{is_free_for, may_settle, moved, arrived, asked, settled, settled_by}
use Rattle.group_types.specs.Renewal.{IsChange, RenewsWhere, changed_if, view_for}
use Rattle.group_types.specs.Checks.{Verdict, Accepted, Refused, Sender, sender_of, record_under, checks_of, first_of, verdict_on, is_current, is_fenced, is_overtaken, are_granted}
use Rattle.group_types.specs.HeartbeatStep.{Answer, Replied, Reply, Arrival, Draft, shown, is_news, assignment_of, epoch_number, acceptance, draft_of_beat, HeartbeatStep, StepOf, BeatsWith, ByVerdict, TakesIn, verdict_on_change, Stages, sent_after}
use Rattle.group_types.specs.Sound.{IsSound}
use Rattle.group_types.proofs.Lookups.{get-inserted, get-insert_other}
use Rattle.group_types.proofs.Orders.{partition_cmp_total}
use Rattle.group_types.proofs.SetLemmas.{has-in_order}
use Rattle.group_types.proofs.Checked.{own_so}
use Rattle.group_types.proofs.ViewsFor.{view_for-insert}
use Rattle.member_core.specs.Settings.{Settings}
use Rattle.world_sim.specs.Turn.{Holds, IsLater}
use Rattle.world_sim.specs.Invariant.{IsOfSettings}
use Rattle.world_sim.proofs.Messages.{of_list-in_order}
use Rattle.world_sim.proofs.Groups.{given_some}
use Rattle.world_sim.proofs.Settling.{moved_other, moved_own}
use Rattle.world_sim.proofs.Stages.{HasSettled, has_settled, settled_same, arrives, asked_at, told_by}
use Rattle.world_sim.proofs.Verdicts.{NoneApplies}

-- ---- the words

-- a full beat of a client with these settings, at a member epoch above 0
abbrev pub full_beat : Settings → Text → ℕ → Partitions → Heartbeat
full_beat s m below own =
    record {
      group = s.group;
      member = m;
      epoch = pos (suc below);
      instance = s.instance;
      rack = s.rack;
      rebalance_timeout = pos s.rebalance_timeout;
      names = Some s.names;
      assignor = s.assignor;
      owned = Some (in_order own);
    }

-- the target is of the group's epoch, and the stored view is the image's
pub record IsSteady (image : Topics) (g : Group) : Type 0 where
  pub epoch : g.epoch ≡ g.target_epoch
  pub view : g.view ≡ view_for image g.records

-- what a member needs for its full beat to be accepted
pub record CanBeat (g : Group) (image : Topics) (s : Settings) (m : Text) (below : ℕ) (own : Partitions) (stamp : Stamp) (r : Record) (e : ℕ) : Type 0 where
  pub given : m ≢ []
  pub was : finite.get g.records m ≡ Some r
  pub at : r.epoch ≡ At e
  pub current : (e ≡ suc below) ⊎ (r.previous_epoch ≡ suc below)
  pub later : IsLater stamp r.stamp
  pub holds : (p : Partition) → IsTrue (has own p) → Holds g.grants m p
  pub settings : IsOfSettings s r
  pub room : (g.epoch < GREATEST_EPOCH) ⊎ (g.view ≡ view_for image g.records)

-- what the beat leaves
pub record HasBeat (g : Group) (image : Topics) (m : Text) (own : Partitions) (answer : Answer) (new : Group) : Type 0 where
  pub reply : Reply
  pub answers : answer ≡ Replied reply
  pub success : reply.code ≡ codes.NoError
  pub is_id : reply.member ≡ Some m
  pub epoch : ℕ
  pub is_epoch : reply.epoch ≡ pos epoch
  pub is_shown : reply.assignment ≡ Some (shown new m)
  pub after : Record
  pub has_record : finite.get new.records m ≡ Some after
  pub at : after.epoch ≡ At epoch
  pub other_records : (k : Text) → eq_by_cmp text_cmp k m ≡ false → finite.get new.records k ≡ finite.get g.records k
  pub other_grants : (k : Text) (p : Partition) → eq_by_cmp text_cmp k m ≡ false → has new.grants (k, p) ≡ has g.grants (k, p)
  pub steady : IsSteady image new
  pub stays : IsSteady image g → (new.target ≡ g.target) × (new.target_epoch ≡ g.target_epoch)
  pub moves : may_settle g.grants m (wanted new.target m) (Some own) ≡ true
      → (epoch ≡ new.target_epoch)
      × ((p : Partition) → has new.grants (m, p) ≡ (has (wanted new.target m) p && (has g.grants (m, p) || is_free_for g.grants m p)))

-- ---- the checks

-- what holds of all that is among the elements
all_of : (f : Partition → Bool) (xs : List Partition) → ((p : Partition) → list_any (eq_by_cmp partition_cmp p) xs ≡ true → f p ≡ true) → list_all f xs ≡ true
all_of f [] each = refl
all_of f (x ∷ xs) each =
    let first : f x ≡ true = each x (ap (λ b. b || list_any (eq_by_cmp partition_cmp x) xs) ((eq_by_cmp_equiv partition_cmp_total).refl x)) in
    let rest : list_all f xs ≡ true = all_of f xs (λ p there. each p (ap (λ b. eq_by_cmp partition_cmp p x || b) there ∙ or_right (eq_by_cmp partition_cmp p x) true refl)) in
    ap (λ b. b && list_all f xs) first ∙ rest

is_given : (m : Text) → m ≢ [] → is_empty m ≡ false
is_given m given = sym (not-not (is_empty m)) ∙ ap not (given_some m given)
  where
    not-not : (b : Bool) → not (not b) ≡ b
    not-not true = refl
    not-not false = refl

-- where no check applies the heartbeat is accepted
pub first_none : (checks : List (Bool × Verdict)) → NoneApplies checks → first_of checks ≡ Accepted
first_none [] none = refl
first_none (check ∷ checks) none = ap (λ b. if b then check.1 else first_of checks) none.0 ∙ first_none checks none.1

-- ---- what a settling leaves as it was

pub settled_target : (b : Bool) (g : Group) (m : Text) (o : Option Record) (now : ℕ) → (settled_by b g m o now).target ≡ g.target
settled_target b g m None now = refl
settled_target b g m (Some r) now = refl

settled_view : (b : Bool) (g : Group) (m : Text) (o : Option Record) (now : ℕ) → (settled_by b g m o now).view ≡ g.view
settled_view b g m None now = refl
settled_view b g m (Some r) now = refl

pub settled_epoch : (b : Bool) (g : Group) (m : Text) (o : Option Record) (now : ℕ) → (settled_by b g m o now).epoch ≡ g.epoch
settled_epoch b g m None now = refl
settled_epoch b g m (Some r) now = refl

-- ---- the renewal

pub record HasTarget (c n : Group) : Type 0 where
  pub records : n.records ≡ c.records
  pub grants : n.grants ≡ c.grants
  pub view : n.view ≡ c.view
  pub epoch : n.epoch ≡ n.target_epoch
  pub stays : c.epoch ≡ c.target_epoch → (n.target ≡ c.target) × (n.target_epoch ≡ c.target_epoch)

has_target : (b : Bool) (c n : Group) → (c.epoch == c.target_epoch) ≡ b → RenewsWhere b c n → HasTarget c n
has_target true c n so renews =
    record {
      records = ap (λ (g : Group). g.records) renews;
      grants = ap (λ (g : Group). g.grants) renews;
      view = ap (λ (g : Group). g.view) renews;
      epoch = ap (λ (g : Group). g.epoch) renews ∙ (Decides-eqb c.epoch c.target_epoch).0 so ∙ sym (ap (λ (g : Group). g.target_epoch) renews);
      stays = λ same. (ap (λ (g : Group). g.target) renews, ap (λ (g : Group). g.target_epoch) renews);
    }
has_target false c n so renews =
    record {
      records = ap (λ (g : Group). g.records) renews.2;
      grants = ap (λ (g : Group). g.grants) renews.2;
      view = ap (λ (g : Group). g.view) renews.2;
      epoch = ap (λ (g : Group). g.epoch) renews.2 ∙ sym (ap (λ (g : Group). g.target_epoch) renews.2);
      stays = λ same. absurd (true≢false (sym ((Decides-eqb c.epoch c.target_epoch).1 same) ∙ so));
    }

module _ (g : Group) (sound : IsSound g) (image : Topics) (s : Settings) (m : Text) (below : ℕ) (own : Partitions) (stamp : Stamp) (moment : ℕ) (r : Record) (e : ℕ)
    (can : CanBeat g image s m below own stamp r e) (answer : Answer) (new : Group) where
  abbrev q : Heartbeat
  q = full_beat s m below own

  abbrev now : ℕ
  now = max g.clock moment

  abbrev TheArrival : Arrival
  TheArrival = record { heartbeat = q; stamp = stamp; moment = moment; image = image }

  abbrev TheSender : Sender
  TheSender = sender_of g.records q

  -- ---- it is accepted

  whose : record_under g.records m ≡ Some r
  whose = own_so g.records m sound.named ∙ can.was

  granted : are_granted g.grants m (Some (in_order own)) ≡ true
  granted = all_of (λ p. has g.grants (m, p)) (in_order own) (λ p there. can.holds p (has-in_order own p ∙ there))

  unfenced : is_fenced (suc below) (Some r) (are_granted g.grants m (Some (in_order own))) ≡ false
  unfenced = ap (λ x. not (is_current (suc below) x r.previous_epoch (are_granted g.grants m (Some (in_order own))))) can.at ∙ by can.current
    where
      by : (e ≡ suc below) ⊎ (r.previous_epoch ≡ suc below) → not (e == suc below || (r.previous_epoch == suc below && are_granted g.grants m (Some (in_order own)))) ≡ false
      by (inl same) = ap (λ b. not (b || (r.previous_epoch == suc below && are_granted g.grants m (Some (in_order own))))) ((Decides-eqb e (suc below)).1 same)
      by (inr previous) =
          ap (λ b. not (e == suc below || (b && are_granted g.grants m (Some (in_order own))))) ((Decides-eqb r.previous_epoch (suc below)).1 previous)
          ∙ ap (λ b. not (e == suc below || b)) granted
          ∙ ap not (or_right (e == suc below) true refl)

  valid : is_invalid q ≡ false
  valid =
      ap (λ b. b || (is_empty m || false)) (is_given s.group can.settings.group)
      ∙ ap (λ b. b || false) (is_given m can.given)

  supported : is_unsupported q ≡ false
  supported = ap (λ b. int_le (pos 0) (pos (suc below)) && b) can.settings.supported ∙ and_right (int_le (pos 0) (pos (suc below))) false refl

  accepted : verdict_on (Beats (suc below)) TheSender g q stamp ≡ Accepted
  accepted =
      first_none (checks_of (Beats (suc below)) TheSender g q stamp)
      (valid, (supported, (ap is_none whose, (ap (is_overtaken stamp) whose ∙ can.later, (ap (λ o. is_fenced (suc below) o (are_granted g.grants m (Some (in_order own)))) whose ∙ unfenced, tt)))))

  taken : HeartbeatStep g TheArrival answer new → TakesIn g (draft_of_beat g now r q stamp) q image answer new
  taken step =
      subst (λ (o : Option Record). BeatsWith o g TheArrival answer new) whose
      (subst (λ (v : Verdict). ByVerdict v (StepOf (Beats (suc below)) TheSender g TheArrival) g answer new) accepted step)

  -- ---- the record, and the view with it

  abbrev after : Record
  after = record_of_beat r q stamp now

  abbrev TheDraft : Draft
  TheDraft = draft_of_beat g now r q stamp

  abbrev view : Topics
  view = view_for image TheDraft.group.records

  same_names : after.names ≡ r.names
  same_names = sym can.settings.names

  same_view : view ≡ view_for image g.records
  same_view = view_for-insert image g.records m r after can.was same_names

  -- the draft, with its change if it is one
  record IsChanged (c : Group) : Type 0 where
    records : c.records ≡ finite.insert g.records m after
    grants : c.grants ≡ g.grants
    stored : c.view ≡ view
    stays : IsSteady image g → (c.epoch ≡ c.target_epoch) × (c.target ≡ g.target) × (c.target_epoch ≡ g.target_epoch)

  -- ---- what it leaves

  module _ (c : Group) (changed : IsChanged c) (on : Stages c TheDraft q answer new) where
    abbrev n : Group
    n = on.renewed

    abbrev x : Group
    x = settled n m (reported q) n.clock

    renewed : HasTarget c n
    renewed = has_target (c.epoch == c.target_epoch) c n refl on.renews

    there : finite.get n.records m ≡ Some after
    there = ap (λ (t : Records). finite.get t m) (renewed.records ∙ changed.records) ∙ get-inserted g.records m after

    settles : HasSettled n m after (reported q) x
    settles = has_settled n m after (reported q) n.clock there

    abbrev z : Record
    z = record settles.after { sent = Some (shown x m) }

    kept : finite.get x.records m ≡ Some settles.after
    kept = ap (λ (t : Records). finite.get t m) settles.records ∙ get-inserted n.records m settles.after

    abbrev Sent : Group
    Sent = record x { records = finite.insert x.records m z }

    replied : (answer ≡ Replied (acceptance m settles.after (Some (shown x m)))) × (new ≡ Sent)
    replied =
        let told = told_by c TheDraft q answer new on settles.after kept in
        let full : is_full q ≡ true = or_right (int_eq (pos (suc below)) (pos 0)) true refl in (
          told.answers ∙ ap (λ b. Replied (acceptance m settles.after (assignment_of (b || is_news settles.after.sent (shown x m)) (shown x m)))) full,
          told.leaves ∙ ap (λ b. record x { records = finite.insert x.records m (sent_after settles.after (assignment_of (b || is_news settles.after.sent (shown x m)) (shown x m))) }) full,
        )

    same_target : x.target ≡ n.target
    same_target = settled_target _ n m (finite.get n.records m) n.clock

    same_epoch : x.epoch ≡ n.epoch
    same_epoch = settled_epoch _ n m (finite.get n.records m) n.clock

    steady_view : view_for image Sent.records ≡ view
    steady_view =
        view_for-insert image x.records m settles.after z kept refl
        ∙ ap (view_for image) settles.records
        ∙ view_for-insert image n.records m after settles.after there (settled_same n m after (reported q) x settles None).names
        ∙ ap (view_for image) (renewed.records ∙ changed.records)

    steady : IsSteady image new
    steady =
        subst (λ (t : Group). IsSteady image t) (sym replied.1)
        (record {
          epoch = same_epoch ∙ renewed.epoch ∙ sym settles.target_epoch;
          view = settled_view _ n m (finite.get n.records m) n.clock ∙ renewed.view ∙ changed.stored ∙ sym steady_view;
        })

    same_grants : n.grants ≡ g.grants
    same_grants = renewed.grants ∙ changed.grants

    new_target : n.target ≡ new.target
    new_target = sym same_target ∙ ap (λ (t : Group). t.target) (sym replied.1)

    same_may : may_settle g.grants m (wanted new.target m) (Some own) ≡ may_settle n.grants m (wanted n.target m) (reported q)
    same_may = λ i. may_settle (sym same_grants i) m (wanted (sym new_target i) m) (Some (sym (of_list-in_order own) i))

    -- the member's epoch, and what the others hold
    record Ends : Type 0 where
      epoch : ℕ
      at : settles.after.epoch ≡ At epoch
      others : (k : Text) (p : Partition) → eq_by_cmp text_cmp k m ≡ false → has x.grants (k, p) ≡ has g.grants (k, p)
      moves : may_settle g.grants m (wanted new.target m) (Some own) ≡ true
          → (epoch ≡ n.target_epoch)
          × ((p : Partition) → has x.grants (m, p) ≡ (has (wanted new.target m) p && (has g.grants (m, p) || is_free_for g.grants m p)))

    ends : Ends
    ends = by settles.moves
      where
        by : ((may_settle n.grants m (wanted n.target m) (reported q) ≡ true) × (x.grants ≡ moved n.grants m (wanted n.target m)) × (settles.after ≡ arrived after after.epoch n.target_epoch))
            ⊎ ((may_settle n.grants m (wanted n.target m) (reported q) ≡ false) × (x.grants ≡ n.grants) × ((now : ℕ) × (settles.after ≡ asked after after.release_deadline now)))
            → Ends
        by (inl goes) =
            let same : x.grants ≡ moved g.grants m (wanted new.target m) = goes.1 ∙ (λ i. moved (same_grants i) m (wanted (new_target i) m)) in
            record {
              epoch = n.target_epoch;
              at = ap (λ (y : Record). y.epoch) goes.2 ∙ (arrives after e n.target_epoch can.at).at;
              others = λ k p apart. ap (λ t. has t (k, p)) same ∙ moved_other g.grants m (wanted new.target m) k p apart;
              moves = λ may. (refl, λ p. ap (λ t. has t (m, p)) same ∙ moved_own g.grants m (wanted new.target m) p);
            }
        by (inr stays) =
            record {
              epoch = e;
              at = ap (λ (y : Record). y.epoch) stays.2.1 ∙ (asked_at after after.release_deadline stays.2.0 e can.at).at;
              others = λ k p apart. ap (λ t. has t (k, p)) (stays.1 ∙ same_grants);
              moves = λ may. absurd (true≢false (sym may ∙ same_may ∙ stays.0));
            }

    left : HasBeat g image m own answer new
    left =
        let of_new : (k : Text) (p : Partition) → has new.grants (k, p) ≡ has x.grants (k, p) = λ k p. ap (λ (t : Group). has t.grants (k, p)) replied.1 in
        record {
          reply = acceptance m settles.after (Some (shown x m));
          answers = replied.0;
          success = refl;
          is_id = refl;
          epoch = ends.epoch;
          is_epoch = ap epoch_number ends.at;
          is_shown = ap (λ (t : Group). Some (shown t m)) (sym replied.1);
          after = z;
          has_record = ap (λ (t : Group). finite.get t.records m) replied.1 ∙ get-inserted x.records m z;
          at = ends.at;
          other_records = λ k apart.
              ap (λ (t : Group). finite.get t.records k) replied.1
              ∙ get-insert_other x.records m z k apart
              ∙ ap (λ (t : Records). finite.get t k) settles.records
              ∙ get-insert_other n.records m settles.after k apart
              ∙ ap (λ (t : Records). finite.get t k) (renewed.records ∙ changed.records)
              ∙ get-insert_other g.records m after k apart;
          other_grants = λ k p apart. of_new k p ∙ ends.others k p apart;
          steady = steady;
          stays = λ before.
              let was = changed.stays before in
              let same = renewed.stays was.0 in
              (sym new_target ∙ same.0 ∙ was.1, ap (λ (t : Group). t.target_epoch) replied.1 ∙ settles.target_epoch ∙ same.1 ∙ was.2);
          moves = λ may.
              let goes = ends.moves may in
              (goes.0 ∙ sym settles.target_epoch ∙ ap (λ (t : Group). t.target_epoch) (sym replied.1), λ p. of_new m p ∙ goes.1 p);
        }

  by_change : (change : Bool) → IsChange change (Some r) after g.view view → ByVerdict (verdict_on_change change g.epoch) (Stages (changed_if change TheDraft.group view) TheDraft q) g answer new → HasBeat g image m own answer new
  by_change false is step =
      left TheDraft.group (record { records = refl; grants = refl; stored = is.view; stays = λ before. (before.epoch, refl, refl) }) step
  by_change true is step =
      left (record TheDraft.group { epoch = suc g.epoch; view = view })
      (record { records = refl; grants = refl; stored = refl; stays = λ before. absurd (never before.view) }) (by_room can.room step)
    where
      never : g.view ≡ view_for image g.records → ⊥
      never same = is (record { names = sym same_names; assignor = sym can.settings.assignor; view = same ∙ sym same_view })

      full : (b : Bool) → nat_le GREATEST_EPOCH g.epoch ≡ b → g.epoch < GREATEST_EPOCH → b ≡ false
      full true so below = let least : GREATEST_EPOCH ≤ g.epoch = leb-true GREATEST_EPOCH g.epoch so in absurd (omega (arith, least, below))
      full false so below = refl

      by_room : (g.epoch < GREATEST_EPOCH) ⊎ (g.view ≡ view_for image g.records)
          → ByVerdict (verdict_on_change true g.epoch) (Stages (record TheDraft.group { epoch = suc g.epoch; view = view }) TheDraft q) g answer new
          → Stages (record TheDraft.group { epoch = suc g.epoch; view = view }) TheDraft q answer new
      by_room (inl below) step =
          subst (λ (b : Bool). ByVerdict (if true && b then Refused codes.CoordinatorNotAvailable else Accepted) (Stages (record TheDraft.group { epoch = suc g.epoch; view = view }) TheDraft q) g answer new)
          (full (nat_le GREATEST_EPOCH g.epoch) refl below) step
      by_room (inr same) step = absurd (never same)

  pub has_beat : HeartbeatStep g TheArrival answer new → HasBeat g image m own answer new
  has_beat step = let takes = taken step in by_change takes.change takes.is_change takes.step
