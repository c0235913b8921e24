-- What an offer and a reply leave of a record.
use Rattle.std.proofs.Common.{◌≡◌, ◌≤◌, ◌∙◌, ℕ, ◌==◌, Bool, true, false, cond, Option, Some, None, refl, sym, subst}
use Rattle.group_types.specs.declared.epoch.Epoch.{Epoch}
use Rattle.group_types.specs.declared.epoch.Epoch.TheVariants.{At, Away}
use Rattle.group_types.specs.Partition.{Partitions}
use Rattle.group_types.specs.Text.{Text}
use Rattle.group_types.specs.Sets.{size}
use Rattle.group_types.specs.Topics.{Names}
use Rattle.group_types.specs.Group.{Record, Records}
use Rattle.group_types.specs.Settle.{arrived, asked, settled_record}
use Rattle.group_types.specs.HeartbeatStep.{sent_after}
use Rattle.group_epochs.specs.declared.draft.Place.{Place}
use Rattle.group_epochs.specs.declared.draft.Place.TheVariants.{New, Kept, Handed}
use Rattle.group_epochs.specs.Drafts.{CanStore}
use Rattle.group_epochs.specs.Records.{IsInstanceFreeFor, RecordsState}

-- a field that has nothing to do with epochs and the release deadline
module _ {X : Type 0} (field : Record → X)
    (apart : (r : Record) (p : ℕ) (e : Epoch) (d : Option ℕ) → field (record r { previous_epoch = p; epoch = e; release_deadline = d }) ≡ field r) where
  arrived_keeps : (r : Record) (e : Epoch) (t : ℕ) → field (arrived r e t) ≡ field r
  arrived_keeps r Away t = apart r r.previous_epoch (At t) None
  arrived_keeps r (At e) t =
      elim (e == t) as (λ b. field (cond b (record r { release_deadline = None }) (record r { previous_epoch = e; epoch = At t; release_deadline = None })) ≡ field r) [
        | true ↦ apart r r.previous_epoch r.epoch None
        | false ↦ apart r e (At t) None
      ]

  asked_keeps : (r : Record) (d : Option ℕ) (now : ℕ) → field (asked r d now) ≡ field r
  asked_keeps r (Some deadline) now = refl
  asked_keeps r None now = apart r r.previous_epoch r.epoch (asked r None now).release_deadline

  settled_keeps : (moves : Bool) (r : Record) (t now : ℕ) → field (settled_record moves r t now) ≡ field r
  settled_keeps true r t now = arrived_keeps r r.epoch t
  settled_keeps false r t now = asked_keeps r r.release_deadline now

pub settled_instance : (moves : Bool) (r : Record) (t now : ℕ) → (settled_record moves r t now).instance ≡ r.instance
settled_instance moves r t now = settled_keeps (λ r. r.instance) (λ r p e d. refl) moves r t now

pub settled_names : (moves : Bool) (r : Record) (t now : ℕ) → (settled_record moves r t now).names ≡ r.names
settled_names moves r t now = settled_keeps (λ r. r.names) (λ r p e d. refl) moves r t now

pub settled_sent : (moves : Bool) (r : Record) (t now : ℕ) → (settled_record moves r t now).sent ≡ r.sent
settled_sent moves r t now = settled_keeps (λ r. r.sent) (λ r p e d. refl) moves r t now

pub sent_instance : (r : Record) (sent : Option Partitions) → (sent_after r sent).instance ≡ r.instance
sent_instance r None = refl
sent_instance r (Some set) = refl

pub sent_names : (r : Record) (sent : Option Partitions) → (sent_after r sent).names ≡ r.names
sent_names r None = refl
sent_names r (Some set) = refl

-- ---- a record that is settled and sent is stored as it would have been before

same_names : (s : RecordsState) (m : Text) (r after : Record) (p : Place) → after.names ≡ r.names → CanStore s m r p → CanStore s m after p
same_names s m r after (New n) same can = (can.0, can.1, can.2, record { room = can.3.room; names = (can.3.names.0 ∙ sym same, subst (λ (ns : Names). size ns ≤ s.names_room) (sym same) can.3.names.1) })
same_names s m r after (Kept None) same can = (can.0, λ t is. can.1 t is ∙ sym same)
same_names s m r after (Kept (Some names)) same can = (can.0, (can.1.0 ∙ sym same, subst (λ (ns : Names). size ns ≤ s.names_room) (sym same) can.1.1))
same_names s m r after (Handed n) same can = (can.0, record { room = can.1.room; names = (can.1.names.0 ∙ sym same, subst (λ (ns : Names). size ns ≤ s.names_room) (sym same) can.1.names.1) })

module _ (moves : Bool) (r : Record) (t now : ℕ) (sent : Option Partitions) where
  abbrev After : Record
  After = sent_after (settled_record moves r t now) sent

  pub can_store_after : (s : RecordsState) (m : Text) (p : Place) → CanStore s m r p → CanStore s m After p
  can_store_after s m p can = same_names s m r After p (sent_names (settled_record moves r t now) sent ∙ settled_names moves r t now) can

  pub free_after : (records : Records) (m : Text) → IsInstanceFreeFor records m r → IsInstanceFreeFor records m After
  free_after records m free = λ n i is there.
      free n i (sym (sent_instance (settled_record moves r t now) sent ∙ settled_instance moves r t now) ∙ is) there
