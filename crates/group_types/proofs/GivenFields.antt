-- What a request gives is stored.
use Rattle.std.proofs.Common.{◌≡◌, ℕ, zero, suc, ◌<◌, ℤ, pos, negsuc, Bool, true, false, cond, ◌&&◌, ◌==◌, int_le, le-leb, is_none, max, List, Option, Some, None, refl, sym, ap, subst, ◌∙◌, arith, true≢false}
use Rattle.std.specs.Option.{option_and_then, option_or}
use Rattle.std.specs.FinMap as finite
use Rattle.group_types.specs.declared.assignor_name.AssignorName.{AssignorName}
use Rattle.group_types.specs.declared.epoch.Epoch.{Epoch}
use Rattle.group_types.specs.declared.epoch.Epoch.TheVariants.{At, Away}
use Rattle.group_types.specs.declared.stamp.Stamp.{Stamp}
use Rattle.group_types.specs.Text.{Text}
use Rattle.group_types.specs.Partition.{Partitions}
use Rattle.group_types.specs.Topics.{Names}
use Rattle.group_types.specs.AssignorName.{assignor_named}
use Rattle.group_types.specs.Request.{Heartbeat, is_unknown, is_unsupported}
use Rattle.group_types.specs.Group.{Record, Group}
use Rattle.group_types.specs.Join.{blank_record, names_after, record_of_beat, record_of_join, returned, timeout_after, updated}
use Rattle.group_types.specs.Settle.{arrived, asked, settled_record}
use Rattle.group_types.specs.HeartbeatStep.{Answer, Arrival, Draft, sent_after}
use Rattle.group_types.specs.Given.{AreNamesGiven, IsAssignorGiven, IsGiven, IsInstanceGiven, IsRecordBefore, IsTimeoutGiven, RequestsAreStored, StoresGiven, none, other, own}
use Rattle.group_types.proofs.Lookups.{some_is}
use Rattle.group_types.proofs.Consistent.{consistent}
use Rattle.group_types.proofs.Shown.{never_negative}
use Rattle.group_types.proofs.Accepted.{Came, unchanged, has_left, went_away, taken_in, came, nobody, Drafting, Stages, Made, of_beat, of_rejoin, of_newcomer, of_heir, may}
use Rattle.group_types.proofs.Afterwards.{Last, Renewed, Settled, accepted_is, has_record}

-- ---- what a settling and a reply leave as it is

-- what a member says of itself
pub record SaysTheSame (s r : Record) : Type 0 where
  pub timeout : s.rebalance_timeout ≡ r.rebalance_timeout
  pub names : s.names ≡ r.names
  pub assignor : s.assignor ≡ r.assignor
  pub rack : s.rack ≡ r.rack
  pub instance : s.instance ≡ r.instance

arrived_says : (r : Record) (e : Epoch) (t : ℕ) → SaysTheSame (arrived r e t) r
arrived_says r Away t = record { timeout = refl; names = refl; assignor = refl; rack = refl; instance = refl }
arrived_says r (At e) t =
    elim (e == t) as (λ b. SaysTheSame (cond b (record r { release_deadline = None }) (record r { previous_epoch = e; epoch = At t; release_deadline = None })) r) [
      | true ↦ record { timeout = refl; names = refl; assignor = refl; rack = refl; instance = refl }
      | false ↦ record { timeout = refl; names = refl; assignor = refl; rack = refl; instance = refl }
    ]

asked_says : (r : Record) (o : Option ℕ) (now : ℕ) → SaysTheSame (asked r o now) r
asked_says r None now = record { timeout = refl; names = refl; assignor = refl; rack = refl; instance = refl }
asked_says r (Some deadline) now = record { timeout = refl; names = refl; assignor = refl; rack = refl; instance = refl }

settled_says : (b : Bool) (r : Record) (t now : ℕ) → SaysTheSame (settled_record b r t now) r
settled_says true r t now = arrived_says r r.epoch t
settled_says false r t now = asked_says r r.release_deadline now

sent_says : (r s : Record) (o : Option Partitions) → SaysTheSame r s → SaysTheSame (sent_after r o) s
sent_says r s None is = is
sent_says r s (Some set) is = record { timeout = is.timeout; names = is.names; assignor = is.assignor; rack = is.rack; instance = is.instance }

-- ---- what a draft stores

timeout_given : (z : ℤ) (before : ℕ) → IsTimeoutGiven z before (timeout_after before z)
timeout_given (pos given) before = refl
timeout_given (negsuc n) before = refl

names_given : (o : Option (List Text)) (before : Names) → AreNamesGiven o before (names_after before o)
names_given None before = refl
names_given (Some given) before = refl

given : {X : Type 0} (o before : Option X) → IsGiven o before (option_or o before)
given None before = refl
given (Some x) before = refl

assignor_given : (o : Option Text) (before : Option AssignorName) → is_unknown o ≡ false → IsAssignorGiven o before (option_or (option_and_then assignor_named o) before)
assignor_given None before known = refl
assignor_given (Some name) before known = by (assignor_named name) refl
  where
    by : (found : Option AssignorName) → assignor_named name ≡ found → IsAssignorGiven (Some name) before (option_or found before)
    by None absent = absurd (true≢false (sym (ap is_none absent) ∙ known))
    by (Some it) is = (it, is, refl)

known_of : (q : Heartbeat) (n : ℕ) → q.epoch ≡ pos n → is_unsupported q ≡ false → is_unknown q.assignor ≡ false
known_of q n epoch supported =
    sym (ap (λ z. int_le (pos 0) z && is_unknown q.assignor) epoch ∙ ap (λ b. b && is_unknown q.assignor) (le-leb 0 n (omega arith))) ∙ supported

stores : (q : Heartbeat) (before r : Record) (stamp : Stamp) (now : ℕ) (after : Record)
    → before.rebalance_timeout ≡ r.rebalance_timeout → before.names ≡ r.names → before.assignor ≡ r.assignor → before.rack ≡ r.rack
    → is_unknown q.assignor ≡ false → SaysTheSame after (record (updated r q stamp now) { instance = after.instance })
    → IsInstanceGiven q.epoch q.instance before.instance after.instance → StoresGiven q before after
stores q before r stamp now after timeout names assignor rack known is instance =
    record {
      timeout = subst (IsTimeoutGiven q.rebalance_timeout before.rebalance_timeout) (ap (λ t. timeout_after t q.rebalance_timeout) timeout ∙ sym is.timeout) (timeout_given q.rebalance_timeout before.rebalance_timeout);
      names = subst (AreNamesGiven q.names before.names) (ap (λ n. names_after n q.names) names ∙ sym is.names) (names_given q.names before.names);
      assignor = subst (IsAssignorGiven q.assignor before.assignor) (ap (option_or (option_and_then assignor_named q.assignor)) assignor ∙ sym is.assignor) (assignor_given q.assignor before.assignor known);
      rack = subst (IsGiven q.rack before.rack) (ap (option_or q.rack) rack ∙ sym is.rack) (given q.rack before.rack);
      instance = instance;
    }

zero_is_no_suc : (z : ℤ) (n : ℕ) → z ≡ pos 0 → z ≡ pos (suc n) → ⊥
zero_is_no_suc z n is more = cc

-- ---- the member's

module _ (g : Group) (a : Arrival) (answer : Answer) (new : Group) (d : Draft) (drafting : Drafting g a d) (stages : Stages d a.heartbeat answer new) where
  abbrev Now : ℕ
  Now = max g.clock a.moment

  pub says : SaysTheSame (Last g a answer new d drafting stages) d.after
  says =
      sent_says (Settled g a answer new d drafting stages) d.after _
      (settled_says (may (Renewed g a answer new d drafting stages) d a.heartbeat) d.after _ _)

  abbrev After : Record
  After = Last g a answer new d drafting stages

  abbrev Stored : Type 0
  Stored = (before : Record) × IsRecordBefore g a.heartbeat d.id before × StoresGiven a.heartbeat before After

  at_join : a.heartbeat.epoch ≡ pos 0 → (before : Record) → After.instance ≡ a.heartbeat.instance
      → IsInstanceGiven a.heartbeat.epoch a.heartbeat.instance before.instance After.instance
  at_join joins before is = (λ _. is, λ n epoch positive. absurd (later n epoch positive))
    where
      later : (n : ℕ) → a.heartbeat.epoch ≡ pos n → 0 < n → ⊥
      later zero epoch positive = omega (arith, positive)
      later (suc n) epoch positive = zero_is_no_suc a.heartbeat.epoch n joins epoch

  stored : Made g drafting.base a Now d → Stored
  stored (of_beat n r epoch there is base_is before) =
      let says_so : SaysTheSame After (record_of_beat r a.heartbeat a.stamp Now) = subst (SaysTheSame After) is says in (
        r,
        own r there,
        stores a.heartbeat r r a.stamp Now After refl refl refl refl (known_of a.heartbeat (suc n) epoch drafting.supported)
            (record { timeout = says_so.timeout; names = says_so.names; assignor = says_so.assignor; rack = says_so.rack; instance = refl })
            (λ never. absurd (zero_is_no_suc a.heartbeat.epoch n never epoch), λ k _ _. says_so.instance),
      )
  stored (of_rejoin r joins there is base_is before) =
      let says_so : SaysTheSame After (record_of_join (Some r) a.heartbeat a.stamp Now) = subst (SaysTheSame After) is says in (
        r,
        own r there,
        stores a.heartbeat r (returned r) a.stamp Now After refl refl refl refl (known_of a.heartbeat 0 joins drafting.supported)
            (record { timeout = says_so.timeout; names = says_so.names; assignor = says_so.assignor; rack = says_so.rack; instance = refl })
            (at_join joins r says_so.instance),
      )
  stored (of_newcomer joins absent is base_is before) =
      let says_so : SaysTheSame After (record_of_join None a.heartbeat a.stamp Now) = subst (SaysTheSame After) is says in (
        blank_record,
        none absent,
        stores a.heartbeat blank_record blank_record a.stamp Now After refl refl refl refl (known_of a.heartbeat 0 joins drafting.supported)
            (record { timeout = says_so.timeout; names = says_so.names; assignor = says_so.assignor; rack = says_so.rack; instance = refl })
            (at_join joins blank_record says_so.instance),
      )
  stored (of_heir old i joins absent there asks has is base_is before) =
      let says_so : SaysTheSame After (record_of_join (Some old.kept) a.heartbeat a.stamp Now) = subst (SaysTheSame After) is says in (
        old.kept,
        other old.id i old.kept absent asks (record { kept = old.kept; is_kept = there; same = has }) there,
        stores a.heartbeat old.kept (returned old.kept) a.stamp Now After refl refl refl refl (known_of a.heartbeat 0 joins drafting.supported)
            (record { timeout = says_so.timeout; names = says_so.names; assignor = says_so.assignor; rack = says_so.rack; instance = refl })
            (at_join joins old.kept says_so.instance),
      )

pub requests_are_stored : RequestsAreStored
requests_are_stored g a m answer new epoch after sound step is_epoch accepted is_now = by (came g (consistent g sound) a answer new step)
  where
    by : Came g a answer new → (before : Record) × IsRecordBefore g a.heartbeat m before × StoresGiven a.heartbeat before after
    by (unchanged same fails) = absurd (nobody answer fails m accepted)
    by (has_left r leaves there later answers is) = absurd (never_negative a.heartbeat.epoch epoch 0 is_epoch leaves)
    by (went_away r goes there later answers is) = absurd (never_negative a.heartbeat.epoch epoch 1 is_epoch goes)
    by (taken_in d drafting stages takes) =
        let same = accepted_is g a answer new d drafting stages m accepted in
        let is_last : after ≡ Last g a answer new d drafting stages =
        some_is after (Last g a answer new d drafting stages) (sym is_now ∙ ap (finite.get new.records) same ∙ has_record g a answer new d drafting stages) in
        let it = stored g a answer new d drafting stages drafting.made in
        (it.0, subst (λ (k : Text). IsRecordBefore g a.heartbeat k it.0) (sym same) it.1, subst (StoresGiven a.heartbeat it.0) (sym is_last) it.2)
