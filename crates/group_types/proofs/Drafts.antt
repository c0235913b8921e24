-- A draft of a consistent group is consistent: the record of a member that joins, rejoins, takes over or beats is put in.
use Rattle.std.proofs.Common.{◌≡◌, ◌≢◌, ℕ, ◌≤◌, ◌+◌, false, cond, [], nat_le, Option, Some, None, is_some, IsTrue, refl, sym, ap, subst, ◌∙◌, arith, true≢false}
use Rattle.std.specs.FinMap as finite
use Rattle.std.proofs.lemmas.Bool.{leb-false}
use Rattle.group_types.specs.Limits.{MOST_MEMBERS}
use Rattle.group_types.specs.declared.epoch.Epoch.{Epoch}
use Rattle.group_types.specs.declared.epoch.Epoch.TheVariants.{At, Away}
use Rattle.group_types.specs.declared.partition.Partition.{Partition}
use Rattle.group_types.specs.declared.stamp.Stamp.{Stamp}
use Rattle.group_types.specs.Text.{Text}
use Rattle.group_types.specs.Sets.{has}
use Rattle.group_types.specs.Request.{Heartbeat}
use Rattle.group_types.specs.Group.{Record, Group}
use Rattle.group_types.specs.Members.{without_past}
use Rattle.group_types.specs.Leave.{last_epoch, last_epoch_at}
use Rattle.group_types.specs.Join.{Name, IsNamed, record_of_beat, record_of_join, returned_epoch}
use Rattle.group_types.specs.Checks.{Member, is_too_many, is_unreleased, other_with, record_under}
use Rattle.group_types.specs.HeartbeatStep.{Draft, draft_of_beat, draft_of_join, handed_over}
use Rattle.group_types.proofs.Consistent.{IsConsistent}
use Rattle.group_types.proofs.Orders.{text_cmp_total}
use Rattle.group_types.proofs.Lookups.{get-inserted, not_none}
use Rattle.group_types.proofs.PastLemmas.{few_without, past_without}
use Rattle.group_types.proofs.Stored.{IsFit, few_kept, fit_as_before, put_is_consistent, put_none}
use Rattle.group_types.proofs.TakeOvers.{taken_over_is_consistent}
use Rattle.group_types.proofs.Senders.{named_fresh, named_own, no_other, other_is, own_is, own_none}

-- ---- the epoch of a record

pub same_last_epoch : (e : Epoch) (r s : Record) → r.previous_epoch ≡ s.previous_epoch → last_epoch_at e r ≡ last_epoch_at e s
same_last_epoch (At e) r s same = refl
same_last_epoch Away r s same = same

last_returned : (r s : Record) (e : Epoch) → last_epoch_at (returned_epoch e r.previous_epoch) s ≡ last_epoch_at e r
last_returned r s (At e) = refl
last_returned r s Away = refl

module _ (r : Record) (q : Heartbeat) (stamp : Stamp) (now : ℕ) where
  pub beat_epoch : last_epoch (record_of_beat r q stamp now) ≡ last_epoch r
  beat_epoch = same_last_epoch r.epoch (record_of_beat r q stamp now) r refl

  pub join_epoch : last_epoch (record_of_join (Some r) q stamp now) ≡ last_epoch r
  join_epoch = last_returned r (record_of_join (Some r) q stamp now) r.epoch

-- ---- a record is put in

module _ (g : Group) (sound : IsConsistent g) (m : Text) (after : Record) (fit : IsFit g m after) (few : finite.len (finite.insert g.records m after) ≤ MOST_MEMBERS) where
  pub drafted_is_consistent : (clock serial : ℕ) → IsConsistent (record g { records = finite.insert g.records m after; past = without_past g.past m; clock = clock; serial = serial })
  drafted_is_consistent =
      put_is_consistent g sound m after fit few (without_past g.past m)
      (past_without g.records (finite.insert g.records m after) g.past m (put_none g sound m after fit) sound.past)
      (let fewer = few_without g.past m in let most = sound.few_past in omega (arith, fewer, most))

-- a draft on which the change, the renewal and the settling can go on
pub record IsReady (g : Group) (d : Draft) : Type 0 where
  pub sound : IsConsistent d.group
  pub epoch : d.group.epoch ≡ g.epoch

pub beat_is_ready : (g : Group) → IsConsistent g → (now : ℕ) (r : Record) (q : Heartbeat) (stamp : Stamp) → finite.get g.records q.member ≡ Some r
    → IsReady g (draft_of_beat g now r q stamp)
beat_is_ready g sound now r q stamp kept =
    let after = record_of_beat r q stamp now in
    let fit = fit_as_before g sound q.member r after kept (beat_epoch r q stamp now) refl in
    record {
      sound = drafted_is_consistent g sound q.member after fit (few_kept g sound q.member after fit r kept) now g.serial;
      epoch = refl;
    }

-- ---- a join

module _ (g : Group) (sound : IsConsistent g) (now : ℕ) (q : Heartbeat) (stamp : Stamp) (name : Name) where
  -- a new member
  module _ (is_new : finite.get g.records name.id ≡ None) (has_id : name.id ≢ []) where
    holds_nothing : (p : Partition) → IsTrue (has g.grants (name.id, p)) → ⊥
    holds_nothing p holds = true≢false (sym (sound.holders name.id p holds) ∙ ap is_some is_new)

    new_is_fit : (own_none : finite.get g.records q.member ≡ None) → other_with g.records q.member q.instance ≡ None → IsFit g name.id (record_of_join None q stamp now)
    new_is_fit own_none none =
        record {
          id = has_id;
          epoch = omega arith;
          settled = λ p same holds. absurd (holds_nothing p holds);
          instance = λ n s i other there is also.
              no_other g.records q.member q.instance none n s i (λ same. not_none s (sym own_none ∙ ap (finite.get g.records) (sym same) ∙ there)) there is also;
        }

    few_with_new : nat_le MOST_MEMBERS (finite.len g.records) ≡ false → finite.len (finite.insert g.records name.id (record_of_join None q stamp now)) ≤ MOST_MEMBERS
    few_with_new room =
        let below = leb-false MOST_MEMBERS (finite.len g.records) room in
        let more : finite.len (finite.insert g.records name.id (record_of_join None q stamp now)) ≡ finite.len g.records + 1 =
        finite.len-insert text_cmp_total g.records name.id (record_of_join None q stamp now)
        ∙ ap (λ o. cond (is_some o) (finite.len g.records) (finite.len g.records + 1)) is_new in
        omega (arith, below, more)

  -- the member has a record already
  rejoin_is_fit : (r : Record) → finite.get g.records q.member ≡ Some r → other_with g.records q.member q.instance ≡ None → IsFit g q.member (record_of_join (Some r) q stamp now)
  rejoin_is_fit r kept none =
      record {
        id = λ is. not_none r (sym sound.named ∙ ap (finite.get g.records) (sym is) ∙ kept);
        epoch = subst (λ e. e ≤ g.target_epoch) (sym (join_epoch r q stamp now)) (sound.epochs q.member r kept);
        settled = λ p same holds. sound.settled q.member r p kept (sym (join_epoch r q stamp now) ∙ same) holds;
        instance = no_other g.records q.member q.instance none;
      }

  abbrev Drafted : Option Record → Option Member → Draft
  Drafted own other = draft_of_join (record g { serial = name.next_serial }) now name.id own other q stamp

  new_is_ready : finite.get g.records name.id ≡ None → name.id ≢ [] → finite.get g.records q.member ≡ None → other_with g.records q.member q.instance ≡ None
      → nat_le MOST_MEMBERS (finite.len g.records) ≡ false → IsReady g (Drafted None None)
  new_is_ready is_new has_id own_none none room =
      record {
        sound = drafted_is_consistent g sound name.id (record_of_join None q stamp now) (new_is_fit is_new has_id own_none none) (few_with_new is_new has_id room) now name.next_serial;
        epoch = refl;
      }

  rejoin_is_ready : (r : Record) → finite.get g.records q.member ≡ Some r → name.id ≡ q.member → other_with g.records q.member q.instance ≡ None → (other : Option Member) → IsReady g (Drafted (Some r) other)
  rejoin_is_ready r kept same none other =
      let after = record_of_join (Some r) q stamp now in
      let kept_so : finite.get g.records name.id ≡ Some r = ap (finite.get g.records) same ∙ kept in
      let fit : IsFit g name.id after = subst (λ m. IsFit g m after) (sym same) (rejoin_is_fit r kept none) in
      record {
        sound = drafted_is_consistent g sound name.id after fit (few_kept g sound name.id after fit r kept_so) now name.next_serial;
        epoch = refl;
      }

  take_over_is_ready : (old : Member) → finite.get g.records name.id ≡ None → name.id ≢ [] → other_with g.records q.member q.instance ≡ Some old → IsReady g (Drafted None (Some old))
  take_over_is_ready old is_new has_id is =
      let there = other_is g.records q.member q.instance old is in
      let over : Group = handed_over g old name.id in
      let sound_over : IsConsistent over = taken_over_is_consistent g sound old.id name.id old.kept old.kept old.kept.stamp there.0 is_new has_id refl refl in
      let after = record_of_join (Some old.kept) q stamp now in
      let kept : finite.get over.records name.id ≡ Some old.kept = get-inserted (finite.remove g.records old.id) name.id old.kept in
      let fit = fit_as_before over sound_over name.id old.kept after kept (join_epoch old.kept q stamp now) (sym there.1) in
      record {
        sound = drafted_is_consistent over sound_over name.id after fit (few_kept over sound_over name.id after fit old.kept kept) now name.next_serial;
        epoch = refl;
      }

  -- by the sender
  pub join_is_ready : IsNamed g q.member (Some name) → (own : Option Record) → record_under g.records q.member ≡ own
      → (other : Option Member) → other_with g.records q.member q.instance ≡ other
      → is_unreleased own other ≡ false → is_too_many own other (finite.len g.records) ≡ false → IsReady g (Drafted own other)
  join_is_ready named None none None alone released room =
      let fresh = named_fresh g q.member name named none in
      new_is_ready fresh.0 fresh.1 (own_none g.records q.member sound.named none) alone room
  join_is_ready named None none (Some old) is released room =
      let fresh = named_fresh g q.member name named none in
      take_over_is_ready old fresh.0 fresh.1 is
  join_is_ready named (Some r) own None alone released room =
      rejoin_is_ready r (own_is g.records q.member r own) (named_own g q.member name r named own) alone None
  join_is_ready named (Some r) own (Some other) is unreleased room = absurd (true≢false unreleased)
