-- What a take-over hands on, and what an accepted join or beat leaves.
use Rattle.std.proofs.Common.{◌≡◌, ◌≢◌, ◌↔◌, ℕ, ◌==◌, Bool, true, false, cond, ◌&&◌, ◌||◌, Option, Some, None, is_some, refl, sym, ap, subst, ◌∙◌, true≢false}
use Rattle.std.specs.List.{list_any}
use Rattle.std.specs.Option.{option_map}
use Rattle.std.specs.Ordering.{eq_by_cmp}
use Rattle.std.specs.Str.{bytes_eq}
use Rattle.std.specs.FinMap as finite
use Rattle.std.proofs.lemmas.Slice.Eq.{bytes_eq-Decides}
use Rattle.group_types.specs.declared.epoch.Epoch.{Epoch}
use Rattle.group_types.specs.declared.epoch.Epoch.TheVariants.{At, Away}
use Rattle.group_types.specs.declared.partition.Partition.{Partition}
use Rattle.group_types.specs.Text.{Text}
use Rattle.group_types.specs.Sets.{has, in_order}
use Rattle.group_types.specs.Partition.{Partitions, partition_cmp}
use Rattle.group_types.specs.Owners.{renamed_id}
use Rattle.group_types.specs.Group.{Record, Records, Group, held}
use Rattle.group_types.specs.Members.{without_past}
use Rattle.group_types.specs.Leave.{last_epoch}
use Rattle.group_types.specs.Settle.{arrived, asked, grants_of_others, settled_record}
use Rattle.group_types.specs.Request.{Heartbeat}
use Rattle.group_types.specs.Checks.{Member}
use Rattle.group_types.specs.HeartbeatStep.{Answer, Replied, Reply, Arrival, Draft, acceptance, handed_over, sent_after}
use Rattle.group_types.proofs.Consistent.{IsConsistent}
use Rattle.group_types.specs.Fencing.{IsAcceptedAs}
use Rattle.group_types.proofs.Orders.{text_cmp_total}
use Rattle.group_types.proofs.SetLemmas.{has-in_order}
use Rattle.group_types.proofs.SpreadLemmas.{get-renamed}
use Rattle.group_types.proofs.GrantLemmas.{has-granting, has-held}
use Rattle.group_types.proofs.Lookups.{no_tie, text_ties, not_none, some_is, get-inserted, get-insert_other, removed_is_none}
use Rattle.group_types.proofs.Soundness.{still_holds}
use Rattle.group_types.proofs.TakeOvers.{renamed_itself}
use Rattle.group_types.proofs.Drafts.{same_last_epoch}
use Rattle.group_types.proofs.Accepted.{Drafting, Stages, after, may, news, offered, stored}

-- ---- who was answered

pub answered_as : (m : Text) (answer : Answer) (reply : Reply) → answer ≡ Replied reply → (accepted : IsAcceptedAs m answer) → reply ≡ accepted.reply
answered_as m answer reply is accepted = let said = accepted.is_reply in cc

pub same_id : (m id : Text) (answer : Answer) (reply : Reply) → answer ≡ Replied reply → reply.member ≡ Some id → IsAcceptedAs m answer → m ≡ id
same_id m id answer reply is member accepted =
    let same = answered_as m answer reply is accepted in
    some_is m id (sym accepted.member ∙ sym (ap (λ (r : Reply). r.member) same) ∙ member)

-- ---- what a settling and a reply leave of a record

pub record IsSameMember (s r : Record) : Type 0 where
  pub stamp : s.stamp ≡ r.stamp
  pub deadline : s.session_deadline ≡ r.session_deadline
  pub sent : s.sent ≡ r.sent
  pub instance : s.instance ≡ r.instance

arrived_same : (r : Record) (e : Epoch) (t : ℕ) → IsSameMember (arrived r e t) r
arrived_same r Away t = record { stamp = refl; deadline = refl; sent = refl; instance = refl }
arrived_same r (At e) t =
    elim (e == t) as (λ b. IsSameMember (cond b (record r { release_deadline = None }) (record r { previous_epoch = e; epoch = At t; release_deadline = None })) r) [
      | true ↦ record { stamp = refl; deadline = refl; sent = refl; instance = refl }
      | false ↦ record { stamp = refl; deadline = refl; sent = refl; instance = refl }
    ]

asked_same : (r : Record) (o : Option ℕ) (now : ℕ) → IsSameMember (asked r o now) r
asked_same r None now = record { stamp = refl; deadline = refl; sent = refl; instance = refl }
asked_same r (Some deadline) now = record { stamp = refl; deadline = refl; sent = refl; instance = refl }

pub settled_same : (b : Bool) (r : Record) (t now : ℕ) → IsSameMember (settled_record b r t now) r
settled_same true r t now = arrived_same r r.epoch t
settled_same false r t now = asked_same r r.release_deadline now

pub record IsSameButSent (s r : Record) : Type 0 where
  pub stamp : s.stamp ≡ r.stamp
  pub deadline : s.session_deadline ≡ r.session_deadline
  pub instance : s.instance ≡ r.instance

sent_same : (r : Record) (o : Option Partitions) → IsSameButSent (sent_after r o) r
sent_same r None = record { stamp = refl; deadline = refl; instance = refl }
sent_same r (Some set) = record { stamp = refl; deadline = refl; instance = refl }

pub sent_epoch : (r : Record) (o : Option Partitions) → last_epoch (sent_after r o) ≡ last_epoch r
sent_epoch r None = refl
sent_epoch r (Some set) = same_last_epoch r.epoch (record r { sent = Some set }) r refl

-- ---- a take-over

-- The heir has the old id's record, grants and target, and the old id has none of them any more.
pub record IsHanded (g : Group) (old : Member) (heir : Text) (new : Group) : Type 0 where
  pub has_record : finite.get new.records heir ≡ Some old.kept
  pub gone : finite.get new.records old.id ≡ None
  pub others : (k : Text) → k ≢ heir → k ≢ old.id → finite.get new.records k ≡ finite.get g.records k
  pub grants : (p : Partition) → has new.grants (heir, p) ≡ has g.grants (old.id, p)
  pub other_grants : (k : Text) → k ≢ heir → (p : Partition) → has new.grants (k, p) ≡ has (grants_of_others g.grants old.id) (k, p)
  pub target : (p : Partition) → (finite.get new.target p ≡ Some heir) ↔ (finite.get g.target p ≡ Some old.id)
  pub owns_nothing : (p : Partition) → ¬ (finite.get new.target p ≡ Some old.id)

false_of : (b : Bool) → (b ≡ true → ⊥) → b ≡ false
false_of true never = absurd (never refl)
false_of false never = refl

or_false : (b : Bool) → (b || false) ≡ b
or_false true = refl
or_false false = refl

module _ (g : Group) (sound : IsConsistent g) (old : Member) (heir : Text) (absent : finite.get g.records heir ≡ None) (other : heir ≢ old.id) where
  abbrev New : Group
  New = handed_over g old heir

  holds_nothing : (p : Partition) → has g.grants (heir, p) ≡ false
  holds_nothing p = false_of _ (λ holds. true≢false (sym (sound.holders heir p holds) ∙ ap is_some absent))

  owns_nothing : (p : Partition) → finite.get g.target p ≡ Some heir → ⊥
  owns_nothing p owns = true≢false (sym (sound.owners heir p owns) ∙ ap is_some absent)

  none_of_heir : (p : Partition) → has (grants_of_others g.grants old.id) (heir, p) ≡ false
  none_of_heir p = false_of _ (λ holds. true≢false (sym (still_holds g.grants old.id heir p holds).0 ∙ holds_nothing p))

  heir_grants : (p : Partition) → has New.grants (heir, p) ≡ has g.grants (old.id, p)
  heir_grants p =
      has-granting (grants_of_others g.grants old.id) heir (in_order (held g.grants old.id)) heir p
      ∙ (λ i. (text_ties heir i && list_any (eq_by_cmp partition_cmp p) (in_order (held g.grants old.id))) || none_of_heir p i)
      ∙ or_false _ ∙ sym (has-in_order (held g.grants old.id) p) ∙ has-held g.grants old.id p

  others_grants : (k : Text) → k ≢ heir → (p : Partition) → has New.grants (k, p) ≡ has (grants_of_others g.grants old.id) (k, p)
  others_grants k apart p =
      has-granting (grants_of_others g.grants old.id) heir (in_order (held g.grants old.id)) k p
      ∙ ap (λ b. (b && list_any (eq_by_cmp partition_cmp p) (in_order (held g.grants old.id))) || has (grants_of_others g.grants old.id) (k, p)) (no_tie k heir apart)

  owner_was : (p : Partition) → finite.get New.target p ≡ Some heir → finite.get g.target p ≡ Some old.id
  owner_was p owns = by (finite.get g.target p) refl (sym (get-renamed g.target old.id heir p) ∙ owns)
    where
      by_id : (b : Text) → finite.get g.target p ≡ Some b → (t : Bool) → bytes_eq b old.id ≡ t → cond t heir b ≡ heir → finite.get g.target p ≡ Some old.id
      by_id b there true same is = there ∙ ap Some ((bytes_eq-Decides b old.id).0 same)
      by_id b there false apart is = absurd (owns_nothing p (there ∙ ap Some is))

      by : (o : Option Text) → finite.get g.target p ≡ o → option_map (renamed_id old.id heir) o ≡ Some heir → finite.get g.target p ≡ Some old.id
      by None there is = absurd (not_none heir is)
      by (Some b) there is = by_id b there (bytes_eq b old.id) refl (some_is (renamed_id old.id heir b) heir is)

  owner_is : (p : Partition) → finite.get g.target p ≡ Some old.id → finite.get New.target p ≡ Some heir
  owner_is p there = get-renamed g.target old.id heir p ∙ ap (option_map (renamed_id old.id heir)) there ∙ ap Some (renamed_itself old.id heir)

  old_owns_nothing : (p : Partition) → ¬ (finite.get New.target p ≡ Some old.id)
  old_owns_nothing p owns = by (finite.get g.target p) (sym (get-renamed g.target old.id heir p) ∙ owns)
    where
      by_id : (b : Text) → (t : Bool) → bytes_eq b old.id ≡ t → cond t heir b ≡ old.id → ⊥
      by_id b true same is = other is
      by_id b false apart is = true≢false (sym ((bytes_eq-Decides b old.id).1 is) ∙ apart)

      by : (o : Option Text) → option_map (renamed_id old.id heir) o ≡ Some old.id → ⊥
      by None is = not_none old.id is
      by (Some b) is = by_id b (bytes_eq b old.id) refl (some_is (renamed_id old.id heir b) old.id is)

  pub handed_to_heir : IsHanded g old heir New
  handed_to_heir =
      record {
        has_record = get-inserted (finite.remove g.records old.id) heir old.kept;
        gone =
            get-insert_other (finite.remove g.records old.id) heir old.kept old.id (no_tie old.id heir (λ same. other (sym same))) ∙ removed_is_none g.records old.id;
        others = λ k not_heir not_old.
            get-insert_other (finite.remove g.records old.id) heir old.kept k (no_tie k heir not_heir)
            ∙ finite.get-remove text_cmp_total g.records old.id k ∙ ap (λ b. cond b None (finite.get g.records k)) (no_tie k old.id not_old);
        grants = heir_grants;
        other_grants = others_grants;
        target = λ p. (owner_was p, owner_is p);
        owns_nothing = old_owns_nothing;
      }

-- ---- the group afterwards

module _ (g : Group) (a : Arrival) (answer : Answer) (new : Group) (d : Draft) (drafting : Drafting g a d) (stages : Stages d a.heartbeat answer new) where
  abbrev q : Heartbeat
  q = a.heartbeat

  abbrev pub Renewed : Group
  Renewed = stages.renewed

  abbrev pub Offered : Group
  Offered = offered stages.renewed d q

  abbrev pub Settled : Record
  Settled = after stages.renewed d q

  abbrev pub Last : Record
  Last = sent_after Settled (news stages.renewed d q)

  pub there : finite.get Renewed.records d.id ≡ Some d.after
  there = ap (λ (rs : Records). finite.get rs d.id) (stages.records ∙ drafting.records) ∙ get-inserted drafting.base.records d.id d.after

  -- what is stored is what the settling left, with the member's record
  pub is_stored : new ≡ stored Offered d.id Last
  is_stored = stages.is_new

  pub has_record : finite.get new.records d.id ≡ Some Last
  has_record = ap (λ (x : Group). finite.get x.records d.id) is_stored ∙ get-inserted Offered.records d.id Last

  pub grants_are : new.grants ≡ Offered.grants
  grants_are = ap (λ (x : Group). x.grants) is_stored

  pub target_is : new.target ≡ Renewed.target
  target_is = ap (λ (x : Group). x.target) is_stored

  pub target_epoch_is : new.target_epoch ≡ Renewed.target_epoch
  target_epoch_is = ap (λ (x : Group). x.target_epoch) is_stored

  pub past_is : new.past ≡ without_past drafting.base.past d.id
  past_is = ap (λ (x : Group). x.past) is_stored ∙ stages.past ∙ drafting.past

  -- another member's record is the one that it had
  pub other_record : (k : Text) → k ≢ d.id → finite.get new.records k ≡ finite.get drafting.base.records k
  other_record k other =
      let apart = no_tie k d.id other in
      ap (λ (x : Group). finite.get x.records k) is_stored
      ∙ get-insert_other Offered.records d.id Last k apart
      ∙ get-insert_other Renewed.records d.id Settled k apart
      ∙ ap (λ (rs : Records). finite.get rs k) (stages.records ∙ drafting.records)
      ∙ get-insert_other drafting.base.records d.id d.after k apart

  pub last_same : IsSameButSent Last d.after
  last_same =
      let sent = sent_same Settled (news Renewed d q) in
      let settled = settled_same (may Renewed d q) d.after Renewed.target_epoch Renewed.clock in
      record { stamp = sent.stamp ∙ settled.stamp; deadline = sent.deadline ∙ settled.deadline; instance = sent.instance ∙ settled.instance }

  pub accepted_is : (m : Text) → IsAcceptedAs m answer → m ≡ d.id
  accepted_is m accepted = same_id m d.id answer (acceptance d.id Settled (news Renewed d q)) stages.answers refl accepted

  -- at a take-over
  module _ (sound : IsConsistent g) (old : Member) (base_is : drafting.base ≡ handed_over g old d.id) (was : finite.get g.records old.id ≡ Some old.kept)
      (absent : finite.get g.records d.id ≡ None) where
    pub heir_differs : d.id ≢ old.id
    heir_differs same = not_none old.kept (sym absent ∙ ap (finite.get g.records) same ∙ was)

    pub handed : IsHanded g old d.id drafting.base
    handed = subst (IsHanded g old d.id) (sym base_is) (handed_to_heir g sound old d.id absent heir_differs)

    pub taken_from : finite.get new.records old.id ≡ None
    taken_from = other_record old.id (λ same. heir_differs (sym same)) ∙ handed.gone
