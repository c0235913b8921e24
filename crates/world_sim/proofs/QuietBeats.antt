-- Full heartbeats of the two newcomers in a group whose target and view stay as they are: each is answered, and settles.
use Rattle.std.proofs.Common.{◌≡◌, ℕ, suc, ◌==◌, pos, Bool, true, false, not, ◌&&◌, ◌||◌, [], is_none, Option, Some, None, refl, sym, ap, subst, ◌∙◌}
use Rattle.std.specs.Ordering.{int_eq}
use Rattle.std.specs.Prelude.{int_le}
use Rattle.std.specs.FinMap as finite
use Rattle.std.proofs.lemmas.Bool.{and_right, or_right}
use Rattle.std.proofs.lemmas.Bool.Decides.{Decides-eqb}
use Rattle.group_types.specs.declared.epoch.Epoch.TheVariants.{At}
use Rattle.group_types.specs.Sets.{common}
use Rattle.group_types.specs.Partition.{Partitions}
use Rattle.group_types.specs.Request.{Beats, Heartbeat, is_full, is_invalid, is_unsupported, reported}
use Rattle.group_types.specs.Group.{Grants, Group, Record, Records, Target, held, wanted}
use Rattle.group_types.specs.Renewal.{view_for}
use Rattle.group_types.specs.Settle.{grants_after, may_settle, settled, settled_by, settled_record}
use Rattle.group_types.specs.Checks.{Verdict, Accepted, are_granted, checks_of, is_fenced, is_late, is_overtaken, record_under, sender_of, verdict_on}
use Rattle.group_types.specs.HeartbeatStep.{Arrival, Replied, Reply, BeatsWith, ByVerdict, Draft, HeartbeatStep, StepOf, TakesIn, assignment_of, draft_of_beat, epoch_number, is_news, sent_after, shown, Stages}
use Rattle.group_types.proofs.MadeIds.{length-made_id}
use Rattle.group_types.proofs.Orders.{text_cmp_total, text_cmp-IsAntisymmetric}
use Rattle.group_types.proofs.Checked.{own_so}
use Rattle.group_core.proofs.Single.{get-inserted, insert-insert}
use Rattle.group_types.proofs.ViewsFor.{view_for-insert}
use Rattle.world_sim.proofs.FullBeats.{first_none}
use Rattle.world_sim.proofs.Newcomers.{Newcomer, heartbeat_at, id_of, number_of, record_of, reply_at, set_of, stamp_at}
use Rattle.world_sim.proofs.TwoNewcomers.{AfterTwo, OneTopic}

-- ---- what is kept of a newcomer inside

abbrev pub told : Newcomer → ℕ → ℕ → ℕ → Option ℕ → Partitions → Record
told x frame epoch previous deadline sent =
    record (record_of x) { stamp = stamp_at x frame; epoch = At epoch; previous_epoch = previous; release_deadline = deadline; sent = Some sent }

abbrev pub TARGET : Target
TARGET = (AfterTwo finite.empty finite.empty).target

-- the group of both, of which the rounds change only this
abbrev pub in_rounds : Records → Grants → Group
in_rounds records grants = record (AfterTwo finite.empty finite.empty) { records = records; grants = grants }

-- ---- a beat

-- what a full beat at an epoch comes upon, and what it is shown
pub record CanBeat (x : Newcomer) (records : Records) (grants : Grants) (frame below previous : ℕ) (deadline : Option ℕ) (sent : Partitions) (owns may shows : Bool) : Type 0 where
  pub named : finite.get records [] ≡ None
  pub kept : finite.get records (id_of x) ≡ Some (told x frame (suc below) previous deadline sent)
  pub later : is_late (stamp_at x (suc frame)) (stamp_at x frame) ≡ false
  pub view : view_for OneTopic records ≡ OneTopic
  pub settles : may_settle grants (id_of x) (wanted TARGET (id_of x)) (Some (set_of x owns)) ≡ may
  pub is_shown : common (held (grants_after may grants (id_of x) (wanted TARGET (id_of x))) (id_of x)) (wanted TARGET (id_of x)) ≡ set_of x shows

-- the record that it leaves
abbrev pub beaten : Newcomer → ℕ → ℕ → ℕ → Option ℕ → Partitions → Bool → Bool → Record
beaten x frame below previous deadline sent may shows =
    sent_after (settled_record may (told x (suc frame) (suc below) previous deadline sent) 2 0) (Some (set_of x shows))

module _ (x : Newcomer) (records : Records) (grants : Grants) (frame below previous : ℕ) (deadline : Option ℕ) (sent : Partitions) (owns may shows : Bool)
    (can : CanBeat x records grants frame below previous deadline sent owns may shows) where
  abbrev Before : Group
  Before = in_rounds records grants

  abbrev Q : Heartbeat
  Q = heartbeat_at x (id_of x) (suc below) owns

  abbrev Was : Record
  Was = told x frame (suc below) previous deadline sent

  abbrev Came : Record
  Came = told x (suc frame) (suc below) previous deadline sent

  abbrev pub TheArrival : Arrival
  TheArrival = record { heartbeat = Q; stamp = stamp_at x (suc frame); moment = 0; image = OneTopic }

  abbrev TheDraft : Draft
  TheDraft = draft_of_beat Before 0 Was Q (stamp_at x (suc frame))

  whose : record_under records (id_of x) ≡ Some Was
  whose = own_so records (id_of x) can.named ∙ can.kept

  valid : is_invalid Q ≡ false
  valid = ap (λ n. (n == 0) || false) (length-made_id 0 (number_of x))

  supported : is_unsupported Q ≡ false
  supported = and_right (int_le (pos 0) (pos (suc below))) false refl

  unfenced : is_fenced (suc below) (Some Was) (are_granted grants (id_of x) Q.owned) ≡ false
  unfenced = ap (λ b. not (b || ((previous == suc below) && are_granted grants (id_of x) Q.owned))) ((Decides-eqb (suc below) (suc below)).1 refl)

  accepted : verdict_on (Beats (suc below)) (sender_of records Q) Before Q (stamp_at x (suc frame)) ≡ Accepted
  accepted =
      first_none (checks_of (Beats (suc below)) (sender_of records Q) Before Q (stamp_at x (suc frame)))
      (valid, (supported, (ap is_none whose, (ap (is_overtaken (stamp_at x (suc frame))) whose ∙ can.later, (ap (λ o. is_fenced (suc below) o (are_granted grants (id_of x) Q.owned)) whose ∙ unfenced, tt)))))

  abbrev Rested : Record
  Rested = settled_record may Came 2 0

  abbrev Settled : Group
  Settled = record TheDraft.group { grants = grants_after may grants (id_of x) (wanted TARGET (id_of x)); records = finite.insert TheDraft.group.records (id_of x) Rested }

  settles : settled TheDraft.group (id_of x) (reported Q) 0 ≡ Settled
  settles = λ i. settled_by (can.settles i) TheDraft.group (id_of x) (get-inserted text_cmp_total records (id_of x) Came i) 0

  full : is_full Q ≡ true
  full = or_right (int_eq (pos (suc below)) (pos 0)) true refl

  abbrev Shown : Partitions
  Shown = shown Settled (id_of x)

  abbrev After : Group
  After = record Settled { records = finite.insert Settled.records (id_of x) (sent_after Rested (Some Shown)) }

  abbrev Said : Reply
  Said = record (reply_at x (epoch_number Rested.epoch) shows) { assignment = Some Shown }

  goes_on : Stages TheDraft.group TheDraft Q (Replied Said) After
  goes_on =
      record {
        renewed = TheDraft.group;
        renews = refl;
        settled = Settled;
        settles = sym settles;
        kept = Rested;
        is_kept = get-inserted text_cmp_total TheDraft.group.records (id_of x) Rested;
        told = Some Shown;
        tells = ap (λ b. assignment_of (b || is_news Rested.sent Shown) Shown) (sym full);
        answers = refl;
        leaves = refl;
      }

  taken_in : TakesIn Before TheDraft Q OneTopic (Replied Said) After
  taken_in =
      record {
        change = false;
        is_change = record { names = refl; assignor = refl; view = sym (view_for-insert OneTopic records (id_of x) Was Came can.kept refl ∙ can.view) };
        step = goes_on;
      }

  new_records : After.records ≡ finite.insert records (id_of x) (beaten x frame below previous deadline sent may shows)
  new_records =
      insert-insert text_cmp_total text_cmp-IsAntisymmetric TheDraft.group.records (id_of x) Rested _
      ∙ insert-insert text_cmp_total text_cmp-IsAntisymmetric records (id_of x) Came _
      ∙ (λ i. finite.insert records (id_of x) (sent_after Rested (Some (can.is_shown i))))

  pub beats : HeartbeatStep (in_rounds records grants) TheArrival (Replied (reply_at x (epoch_number (beaten x frame below previous deadline sent may shows).epoch) shows))
      (in_rounds (finite.insert records (id_of x) (beaten x frame below previous deadline sent may shows)) (grants_after may grants (id_of x) (wanted TARGET (id_of x))))
  beats =
      let by_own : StepOf (Beats (suc below)) (sender_of records Q) Before TheArrival (Replied Said) After = subst (λ (o : Option Record). BeatsWith o Before TheArrival (Replied Said) After) (sym whose) taken_in in
      let step : HeartbeatStep Before TheArrival (Replied Said) After = subst (λ (v : Verdict). ByVerdict v (StepOf (Beats (suc below)) (sender_of records Q) Before TheArrival) Before (Replied Said) After) (sym accepted) by_own in
      subst (λ (g : Group). HeartbeatStep Before TheArrival (Replied (reply_at x (epoch_number (beaten x frame below previous deadline sent may shows).epoch) shows)) g) (λ i. record Settled { records = new_records i })
      (subst (λ (s : Partitions). HeartbeatStep Before TheArrival (Replied (record (reply_at x (epoch_number Rested.epoch) shows) { assignment = Some s })) After) can.is_shown step)
