-- What keeps a group consistent: a member's record is put in, whether the member is new or has one already.
use Rattle.std.proofs.Common.{◌≡◌, ◌≢◌, ℕ, ◌≤◌, ◌+◌, cond, [], Some, None, is_some, IsTrue, sym, ap, subst, ◌∙◌, length}
use Rattle.std.specs.FinMap as finite
use Rattle.group_types.specs.Limits.{MOST_MEMBERS, MOST_PAST_MEMBERS}
use Rattle.group_types.specs.declared.partition.Partition.{Partition}
use Rattle.group_types.specs.Text.{Text}
use Rattle.group_types.specs.Sets.{has}
use Rattle.group_types.specs.Group.{Record, Records, Past, Group}
use Rattle.group_types.specs.Leave.{last_epoch}
use Rattle.group_types.specs.Sound.{IsPast}
use Rattle.group_types.proofs.Consistent.{IsConsistent}
use Rattle.group_types.proofs.Orders.{text_cmp_total}
use Rattle.group_types.proofs.Lookups.{Tie, ties, differs, tie, not_none, Found, this, another, found, get-inserted, get-insert_other}
use Rattle.group_types.proofs.PastLemmas.{past_of_fewer}

-- what a record has to be for its member
pub record IsFit (g : Group) (m : Text) (after : Record) : Type 0 where
  pub id : m ≢ []
  pub epoch : last_epoch after ≤ g.target_epoch
  pub settled : (p : Partition) → last_epoch after ≡ g.target_epoch → IsTrue (has g.grants (m, p)) → finite.get g.target p ≡ Some m
  pub instance : (n : Text) (s : Record) (i : Text) → n ≢ m → finite.get g.records n ≡ Some s → after.instance ≡ Some i → s.instance ≡ Some i → ⊥

-- a record with the epoch and the instance of the one that was there
pub fit_as_before : (g : Group) → IsConsistent g → (m : Text) (r after : Record) → finite.get g.records m ≡ Some r
    → last_epoch after ≡ last_epoch r → after.instance ≡ r.instance → IsFit g m after
fit_as_before g sound m r after kept same_epoch same_instance =
    record {
      id = λ is. not_none r (sym sound.named ∙ ap (finite.get g.records) (sym is) ∙ kept);
      epoch = subst (λ e. e ≤ g.target_epoch) (sym same_epoch) (sound.epochs m r kept);
      settled = λ p same holds. sound.settled m r p kept (sym same_epoch ∙ same) holds;
      instance = λ n s i other there is also. other (sound.instances n m s r i there kept also (sym same_instance ∙ is));
    }

module _ (g : Group) (sound : IsConsistent g) (m : Text) (after : Record) (fit : IsFit g m after) where
  abbrev pub Put : Records
  Put = finite.insert g.records m after

  put_has : (a : Text) → IsTrue (finite.contains_key g.records a) → IsTrue (finite.contains_key Put a)
  put_has a there = by (tie a m)
    where
      by : Tie a m → IsTrue (finite.contains_key Put a)
      by (ties same) = ap (λ t. is_some (finite.get Put t)) same ∙ ap is_some (get-inserted g.records m after)
      by (differs other apart) = ap is_some (get-insert_other g.records m after a apart) ∙ there

  pub put_none : (a : Text) → a ≢ m → finite.get g.records a ≡ None → finite.get Put a ≡ None
  put_none a other none = by (tie a m)
    where
      by : Tie a m → finite.get Put a ≡ None
      by (ties same) = absurd (other same)
      by (differs _ apart) = get-insert_other g.records m after a apart ∙ none

  one_instance : (a b : Text) (s t : Record) (i : Text) → finite.get Put a ≡ Some s → finite.get Put b ≡ Some t
      → s.instance ≡ Some i → t.instance ≡ Some i → a ≡ b
  one_instance a b s t i one other is also = by (found g.records m after a s one) (found g.records m after b t other)
    where
      by : Found g.records m after a s → Found g.records m after b t → a ≡ b
      by (this a_is s_is) (this b_is t_is) = a_is ∙ sym b_is
      by (this a_is s_is) (another b_not b_apart was) = absurd (fit.instance b t i b_not was (sym (ap (λ (x : Record). x.instance) s_is) ∙ is) also)
      by (another a_not a_apart was) (this b_is t_is) = absurd (fit.instance a s i a_not was (sym (ap (λ (x : Record). x.instance) t_is) ∙ also) is)
      by (another a_not a_apart was) (another b_not b_apart before) = sound.instances a b s t i was before is also

  stored_epoch : (a : Text) (s : Record) → finite.get Put a ≡ Some s → last_epoch s ≤ g.target_epoch
  stored_epoch a s there = by (found g.records m after a s there)
    where
      by : Found g.records m after a s → last_epoch s ≤ g.target_epoch
      by (this same is) = subst (λ (x : Record). last_epoch x ≤ g.target_epoch) (sym is) fit.epoch
      by (another other apart was) = sound.epochs a s was

  stored_settled : (a : Text) (s : Record) (p : Partition) → finite.get Put a ≡ Some s → last_epoch s ≡ g.target_epoch → IsTrue (has g.grants (a, p)) → finite.get g.target p ≡ Some a
  stored_settled a s p there same holds = by (found g.records m after a s there)
    where
      by : Found g.records m after a s → finite.get g.target p ≡ Some a
      by (this a_is is) =
          fit.settled p (sym (ap last_epoch is) ∙ same) (sym (ap (λ t. has g.grants (t, p)) a_is) ∙ holds) ∙ ap Some (sym a_is)
      by (another other apart was) = sound.settled a s p was same holds

  pub put_is_consistent : finite.len Put ≤ MOST_MEMBERS → (past : Past) → IsPast Put past → length past ≤ MOST_PAST_MEMBERS → (clock serial : ℕ)
      → IsConsistent (record g { records = Put; past = past; clock = clock; serial = serial })
  put_is_consistent few past is_past few_past clock serial =
      record {
        one_holder = sound.one_holder;
        holders = λ a p holds. put_has a (sound.holders a p holds);
        owners = λ a p owns. put_has a (sound.owners a p owns);
        owned = sound.owned;
        epochs = stored_epoch;
        settled = stored_settled;
        target_epoch = sound.target_epoch;
        epoch = sound.epoch;
        instances = one_instance;
        named = put_none [] (λ is. fit.id (sym is)) sound.named;
        past = is_past;
        few_members = few;
        few_past = few_past;
      }

  -- the member has a record
  module _ (r : Record) (kept : finite.get g.records m ≡ Some r) where
    as_many : finite.len Put ≡ finite.len g.records
    as_many =
        finite.len-insert text_cmp_total g.records m after
        ∙ ap (λ o. cond (is_some o) (finite.len g.records) (finite.len g.records + 1)) kept

    pub few_kept : finite.len Put ≤ MOST_MEMBERS
    few_kept = subst (λ n. n ≤ MOST_MEMBERS) (sym as_many) sound.few_members

    kept_none : (a : Text) → finite.get g.records a ≡ None → finite.get Put a ≡ None
    kept_none a none = put_none a (λ same. not_none r (sym none ∙ ap (finite.get g.records) same ∙ kept)) none

    pub kept_is_consistent : IsConsistent (record g { records = Put })
    kept_is_consistent = put_is_consistent few_kept g.past (past_of_fewer g.records Put g.past kept_none sound.past) sound.few_past g.clock g.serial
