-- The stages of an accepted heartbeat: what the renewal, the settling and the reply leave of a group and of a record.
use Rattle.std.proofs.Common.{◌≡◌, ◌⊎◌, ℕ, ◌<◌, ◌≤◌, ◌==◌, Bool, true, false, ◌||◌, cond, Option, Some, None, refl, sym, ap, subst, ◌∙◌, inl, inr, true≢false, arith}
use Rattle.std.specs.Cmp.{first_so}
use Rattle.std.specs.FinMap as finite
use Rattle.std.proofs.lemmas.Bool.Decides.{Decides-eqb}
use Rattle.group_types.specs.declared.epoch.Epoch.{Epoch}
use Rattle.group_types.specs.declared.epoch.Epoch.TheVariants.{At, Away}
use Rattle.group_types.specs.declared.stamp.Stamp.{Stamp}
use Rattle.group_types.specs.declared.assignor_name.AssignorName.{AssignorName}
use Rattle.group_types.specs.Text.{Text}
use Rattle.group_types.specs.Topics.{Names}
use Rattle.group_types.specs.Request.{Heartbeat, is_full, reported}
use Rattle.group_types.specs.Partition.{Partitions}
use Rattle.group_types.specs.Sets.{has}
use Rattle.group_types.specs.declared.partition.Partition.{Partition}
use Rattle.group_types.specs.Group.{Record, Group, held, wanted}
use Rattle.group_types.specs.Renewal.{RenewsWhere}
use Rattle.group_types.specs.Settle.{moved, may_settle, arrived, asked, settled_by, settled}
use Rattle.group_types.specs.HeartbeatStep.{Answer, Draft, Replied, Stages, acceptance, assignment_of, is_news, sent_after, shown}
use Rattle.group_core.specs.CodeOrder.{LateDraft, LateStages, heir_or, renamed_last}
use Rattle.group_types.proofs.Orders.{partition_cmp_total}
use Rattle.group_types.proofs.SetLemmas.{has-common}
use Rattle.group_types.proofs.GrantLemmas.{has-held}
use Rattle.group_types.proofs.Lookups.{not_none, some_is}
use Rattle.world_sim.specs.Turn.{GivesFirst, Holds, IsGiven}

-- ---- the record after a settling

-- the same stamp and instance, and a member epoch
pub record IsAtEpoch (r : Record) (stamp : Stamp) (instance : Option Text) (epoch : ℕ) : Type 0 where
  pub stamped : r.stamp ≡ stamp
  pub instanced : r.instance ≡ instance
  pub at : r.epoch ≡ At epoch

pub arrived_at : (r : Record) (e t : ℕ) → r.epoch ≡ At e → IsAtEpoch (arrived r (At e) t) r.stamp r.instance t
arrived_at r e t at =
    elim (e == t) as (λ b. (e == t) ≡ b → IsAtEpoch (cond b (record r { release_deadline = None }) (record r { previous_epoch = e; epoch = At t; release_deadline = None })) r.stamp r.instance t) [
      | true ↦ λ so. record { stamped = refl; instanced = refl; at = at ∙ ap At ((Decides-eqb e t).0 so) }
      | false ↦ λ so. record { stamped = refl; instanced = refl; at = refl }
    ] refl

pub arrives : (r : Record) (e t : ℕ) → r.epoch ≡ At e → IsAtEpoch (arrived r r.epoch t) r.stamp r.instance t
arrives r e t at = subst (λ (x : Epoch). IsAtEpoch (arrived r x t) r.stamp r.instance t) (sym at) (arrived_at r e t at)

pub asked_at : (r : Record) (deadline : Option ℕ) (now e : ℕ) → r.epoch ≡ At e → IsAtEpoch (asked r deadline now) r.stamp r.instance e
asked_at r (Some deadline) now e at = record { stamped = refl; instanced = refl; at = at }
asked_at r None now e at = record { stamped = refl; instanced = refl; at = at }

pub sent_at : (r : Record) (assignment : Option Partitions) (stamp : Stamp) (instance : Option Text) (epoch : ℕ) → IsAtEpoch r stamp instance epoch → IsAtEpoch (sent_after r assignment) stamp instance epoch
sent_at r None stamp instance epoch is = is
sent_at r (Some set) stamp instance epoch is = record { stamped = is.stamped; instanced = is.instanced; at = is.at }

-- the same names and assignor
pub record HasSame (a b : Record) : Type 0 where
  pub names : a.names ≡ b.names
  pub assignor : a.assignor ≡ b.assignor

arrived_same : (r : Record) (e : Epoch) (t : ℕ) → HasSame (arrived r e t) r
arrived_same r Away t = record { names = refl; assignor = refl }
arrived_same r (At e) t =
    elim (e == t) as (λ b. HasSame (cond b (record r { release_deadline = None }) (record r { previous_epoch = e; epoch = At t; release_deadline = None })) r) [
      | true ↦ record { names = refl; assignor = refl }
      | false ↦ record { names = refl; assignor = refl }
    ]

asked_same : (r : Record) (deadline : Option ℕ) (now : ℕ) → HasSame (asked r deadline now) r
asked_same r (Some deadline) now = record { names = refl; assignor = refl }
asked_same r None now = record { names = refl; assignor = refl }

sent_same : (r : Record) (assignment : Option Partitions) → HasSame (sent_after r assignment) r
sent_same r None = record { names = refl; assignor = refl }
sent_same r (Some set) = record { names = refl; assignor = refl }

-- ---- the target's renewal touches nothing else

-- The group n is the group c with a renewed target, whose epoch has risen, or it has the target of c.
pub record IsRenewed (c n : Group) : Type 0 where
  pub records : n.records ≡ c.records
  pub grants : n.grants ≡ c.grants
  pub past : n.past ≡ c.past
  pub salt : n.salt ≡ c.salt
  pub serial : n.serial ≡ c.serial
  pub target : (c.target_epoch < n.target_epoch) ⊎ ((n.target_epoch ≡ c.target_epoch) × (n.target ≡ c.target))

pub renewed_by : (b : Bool) (c n : Group) → c.target_epoch ≤ c.epoch → (c.epoch == c.target_epoch) ≡ b → RenewsWhere b c n → IsRenewed c n
renewed_by true c n below is renews =
    record {
      records = ap (λ g. g.records) renews;
      grants = ap (λ g. g.grants) renews;
      past = ap (λ g. g.past) renews;
      salt = ap (λ g. g.salt) renews;
      serial = ap (λ g. g.serial) renews;
      target = inr (ap (λ g. g.target_epoch) renews, ap (λ g. g.target) renews);
    }
renewed_by false c n below is renews =
    let rises : c.target_epoch < c.epoch = omega (arith, below, λ (same : c.epoch ≡ c.target_epoch). true≢false (sym ((Decides-eqb c.epoch c.target_epoch).1 same) ∙ is)) in
    record {
      records = ap (λ g. g.records) renews.2;
      grants = ap (λ g. g.grants) renews.2;
      past = ap (λ g. g.past) renews.2;
      salt = ap (λ g. g.salt) renews.2;
      serial = ap (λ g. g.serial) renews.2;
      target = inl (subst (λ t. c.target_epoch < t) (sym (ap (λ (g : Group). g.target_epoch) renews.2)) rises);
    }

-- ---- the settling

-- what it leaves of the group n, with the record r under m: by whether the member may move
pub record HasSettled (n : Group) (m : Text) (r : Record) (owned : Option Partitions) (s : Group) : Type 0 where
  pub after : Record
  pub records : s.records ≡ finite.insert n.records m after
  pub past : s.past ≡ n.past
  pub salt : s.salt ≡ n.salt
  pub serial : s.serial ≡ n.serial
  pub target_epoch : s.target_epoch ≡ n.target_epoch
  pub moves :
      ((may_settle n.grants m (wanted n.target m) owned ≡ true) × (s.grants ≡ moved n.grants m (wanted n.target m)) × (after ≡ arrived r r.epoch n.target_epoch))
      ⊎ ((may_settle n.grants m (wanted n.target m) owned ≡ false) × (s.grants ≡ n.grants) × ((now : ℕ) × (after ≡ asked r r.release_deadline now)))

settled_as : (n : Group) (m : Text) (r : Record) (owned : Option Partitions) (now : ℕ) (b : Bool) (o : Option Record)
    → may_settle n.grants m (wanted n.target m) owned ≡ b → o ≡ Some r → HasSettled n m r owned (settled_by b n m o now)
settled_as n m r owned now b None may is = absurd (none_some is)
  where
    none_some : None ≡ Some r → ⊥
    none_some is = true≢false (sym (ap (λ (o : Option Record). elim o [ None ↦ false | Some x ↦ true ]) is))
settled_as n m r owned now true (Some x) may is =
    record {
      after = arrived x x.epoch n.target_epoch;
      records = refl;
      past = refl;
      salt = refl;
      serial = refl;
      target_epoch = refl;
      moves = inl (may, refl, ap (λ (y : Record). arrived y y.epoch n.target_epoch) (some_is x r is));
    }
settled_as n m r owned now false (Some x) may is =
    record {
      after = asked x x.release_deadline now;
      records = refl;
      past = refl;
      salt = refl;
      serial = refl;
      target_epoch = refl;
      moves = inr (may, refl, (now, ap (λ (y : Record). asked y y.release_deadline now) (some_is x r is)));
    }

pub has_settled : (n : Group) (m : Text) (r : Record) (owned : Option Partitions) (now : ℕ) → finite.get n.records m ≡ Some r → HasSettled n m r owned (settled n m owned now)
has_settled n m r owned now is = settled_as n m r owned now (may_settle n.grants m (wanted n.target m) owned) (finite.get n.records m) refl is

-- a settling and a reply leave the names and the assignor
pub settled_same : (n : Group) (m : Text) (r : Record) (owned : Option Partitions) (s : Group) (settles : HasSettled n m r owned s) (assignment : Option Partitions)
    → HasSame (sent_after settles.after assignment) r
settled_same n m r owned s settles assignment = by settles.moves
  where
    sent : HasSame (sent_after settles.after assignment) settles.after
    sent = sent_same settles.after assignment

    after : (x : Record) → HasSame x r → settles.after ≡ x → HasSame (sent_after settles.after assignment) r
    after x same is =
        record {
          names = sent.names ∙ ap (λ (y : Record). y.names) is ∙ same.names;
          assignor = sent.assignor ∙ ap (λ (y : Record). y.assignor) is ∙ same.assignor;
        }

    by : ((may_settle n.grants m (wanted n.target m) owned ≡ true) × (s.grants ≡ moved n.grants m (wanted n.target m)) × (settles.after ≡ arrived r r.epoch n.target_epoch))
        ⊎ ((may_settle n.grants m (wanted n.target m) owned ≡ false) × (s.grants ≡ n.grants) × ((now : ℕ) × (settles.after ≡ asked r r.release_deadline now)))
        → HasSame (sent_after settles.after assignment) r
    by (inl moves) = after (arrived r r.epoch n.target_epoch) (arrived_same r r.epoch n.target_epoch) moves.2
    by (inr stays) = after (asked r r.release_deadline stays.2.0) (asked_same r r.release_deadline stays.2.0) stays.2.1

-- what a heartbeat gave is given still
pub given_same : (q : Heartbeat) (names : Names) (assignor : Option AssignorName) (x y : Record) → IsGiven q names assignor x → HasSame y x → IsGiven q names assignor y
given_same q names assignor x y given same = record { names = same.names ∙ given.names; assignor = same.assignor ∙ given.assignor }

pub first_same : (q : Heartbeat) (x y : Record) → GivesFirst q x → HasSame y x → GivesFirst q y
first_same q x y first same =
    record {
      valid = first.valid;
      supported = first.supported;
      stored_names = first.stored_names;
      stored_assignor = first.stored_assignor;
      given = given_same q first.stored_names first.stored_assignor x y first.given same;
    }

pub renewed_rises : (b : Bool) (c n : Group) → c.target_epoch < c.epoch → (c.epoch == c.target_epoch) ≡ b → RenewsWhere b c n → c.target_epoch < n.target_epoch
renewed_rises true c n below is renews = absurd (omega (arith, below, (Decides-eqb c.epoch c.target_epoch).0 is))
renewed_rises false c n below is renews = subst (λ t. c.target_epoch < t) (sym (ap (λ (g : Group). g.target_epoch) renews.2)) below

-- ---- the reply

-- what a member is shown it holds
pub shows_held : (s : Group) (m : Text) (b : Bool) (set : Partitions) (p : Partition) → assignment_of b (shown s m) ≡ Some set → has set p ≡ true → Holds s.grants m p
shows_held s m true set p is there =
    sym (has-held s.grants m p)
    ∙ first_so (has (held s.grants m) p) (has (wanted s.target m) p) (sym (has-common partition_cmp_total (held s.grants m) (wanted s.target m) p) ∙ ap (λ t. has t p) (some_is (shown s m) set is) ∙ there)
shows_held s m false set p is there = absurd (not_none set is)

-- what the stages come to for a member that is known to be settled
pub record IsTold (id : Text) (q : Heartbeat) (s : Group) (x : Record) (answer : Answer) (new : Group) : Type 0 where
  pub answers : answer ≡ Replied (acceptance id x (assignment_of (is_full q || is_news x.sent (shown s id)) (shown s id)))
  pub leaves : new ≡ record s { records = finite.insert s.records id (sent_after x (assignment_of (is_full q || is_news x.sent (shown s id)) (shown s id))) }

module _ (q : Heartbeat) (id : Text) (s t : Group) (done : s ≡ t) (kept x : Record) (is_kept : finite.get s.records id ≡ Some kept) (is : finite.get t.records id ≡ Some x) where
  pub kept_is : kept ≡ x
  kept_is = some_is kept x (sym is_kept ∙ ap (λ (g : Group). finite.get g.records id) done ∙ is)

  pub told_is : (told : Option Partitions) → told ≡ assignment_of (is_full q || is_news kept.sent (shown s id)) (shown s id)
      → told ≡ assignment_of (is_full q || is_news x.sent (shown t id)) (shown t id)
  told_is told tells = tells ∙ (λ i. assignment_of (is_full q || is_news (kept_is i).sent (shown (done i) id)) (shown (done i) id))

pub told_by : (c : Group) (d : Draft) (q : Heartbeat) (answer : Answer) (new : Group) (st : Stages c d q answer new) (x : Record)
    → finite.get (settled st.renewed d.id (reported q) st.renewed.clock).records d.id ≡ Some x → IsTold d.id q (settled st.renewed d.id (reported q) st.renewed.clock) x answer new
told_by c d q answer new st x is =
    let s : Group = settled st.renewed d.id (reported q) st.renewed.clock in
    let kept : st.kept ≡ x = kept_is q d.id st.settled s st.settles st.kept x st.is_kept is in
    let told = told_is q d.id st.settled s st.settles st.kept x st.is_kept is st.told st.tells in
    record {
      answers = st.answers ∙ (λ i. Replied (acceptance d.id (kept i) (told i)));
      leaves = st.leaves ∙ (λ i. record (st.settles i) { records = finite.insert (st.settles i).records d.id (sent_after (kept i) (told i)) });
    }

-- the same of one that takes over, and is renamed last
pub record IsToldLate (d : LateDraft) (q : Heartbeat) (s : Group) (x : Record) (answer : Answer) (new : Group) : Type 0 where
  pub answers : answer ≡ Replied (acceptance (heir_or d.id d.heir) x (assignment_of (is_full q || is_news x.sent (shown s d.id)) (shown s d.id)))
  pub leaves : new ≡ renamed_last s d.id (sent_after x (assignment_of (is_full q || is_news x.sent (shown s d.id)) (shown s d.id))) d.heir

pub told_late : (c : Group) (d : LateDraft) (q : Heartbeat) (answer : Answer) (new : Group) (st : LateStages c d q answer new) (x : Record)
    → finite.get (settled st.renewed d.id (reported q) st.renewed.clock).records d.id ≡ Some x → IsToldLate d q (settled st.renewed d.id (reported q) st.renewed.clock) x answer new
told_late c d q answer new st x is =
    let s : Group = settled st.renewed d.id (reported q) st.renewed.clock in
    let kept : st.kept ≡ x = kept_is q d.id st.settled s st.settles st.kept x st.is_kept is in
    let told = told_is q d.id st.settled s st.settles st.kept x st.is_kept is st.told st.tells in
    record {
      answers = st.answers ∙ (λ i. Replied (acceptance (heir_or d.id d.heir) (kept i) (told i)));
      leaves = st.leaves ∙ (λ i. renamed_last (st.settles i) d.id (sent_after (kept i) (told i)) d.heir);
    }
