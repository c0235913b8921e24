-- A member that is offered its target leaves a consistent group.
use Rattle.std.proofs.Common.{◌≡◌, ℕ, ◌==◌, Bool, true, false, cond, ◌&&◌, ◌||◌, Option, Some, None, is_some, IsTrue, refl, sym, ap, subst, ◌∙◌, arith}
use Rattle.std.specs.Ordering.{eq_by_cmp}
use Rattle.std.specs.Cmp.{first_so, second_so}
use Rattle.std.specs.FinMap as finite
use Rattle.std.proofs.lemmas.Bool.Decides.{Decides-eqb}
use Rattle.group_types.specs.declared.epoch.Epoch.{Epoch}
use Rattle.group_types.specs.declared.epoch.Epoch.TheVariants.{At, Away}
use Rattle.group_types.specs.declared.partition.Partition.{Partition}
use Rattle.group_types.specs.Text.{Text, text_cmp}
use Rattle.group_types.specs.Sets.{has}
use Rattle.group_types.specs.Partition.{Partitions}
use Rattle.group_types.specs.Group.{Record, Grants, Group, wanted}
use Rattle.group_types.specs.Leave.{last_epoch, last_epoch_at}
use Rattle.group_types.specs.Settle.{is_free_for, moved, arrived, asked, may_settle, settled_by, settled}
use Rattle.group_types.proofs.Consistent.{IsConsistent}
use Rattle.group_types.proofs.SpreadLemmas.{has-share_of, owns-get}
use Rattle.group_types.proofs.GrantLemmas.{free_is, has-moved}
use Rattle.group_types.proofs.Lookups.{Tie, ties, differs, tie, text_ties, not_none}
use Rattle.group_types.proofs.Stored.{fit_as_before, kept_is_consistent}

-- ---- the grants of a member that moved

module _ (g : Group) (sound : IsConsistent g) (m : Text) (r : Record) (kept : finite.get g.records m ≡ Some r) where
  abbrev Part : Partitions
  Part = wanted g.target m

  abbrev Moved : Grants
  Moved = moved g.grants m Part

  pub moved_other : (n : Text) (p : Partition) → eq_by_cmp text_cmp n m ≡ false → has Moved (n, p) ≡ has g.grants (n, p)
  moved_other n p apart =
      has-moved g.grants m Part n p
      ∙ ap (λ b. cond b (has Part p && (has g.grants (m, p) || is_free_for g.grants m p)) (has g.grants (n, p))) apart

  pub moved_own : (p : Partition) → has Moved (m, p) ≡ (has Part p && (has g.grants (m, p) || is_free_for g.grants m p))
  moved_own p =
      has-moved g.grants m Part m p
      ∙ ap (λ b. cond b (has Part p && (has g.grants (m, p) || is_free_for g.grants m p)) (has g.grants (m, p))) (text_ties m)

  -- what it holds is of its target
  pub moved_within : (p : Partition) → IsTrue (has Moved (m, p)) → finite.get g.target p ≡ Some m
  moved_within p holds =
      (owns-get g.target m p).0 (sym (has-share_of g.target m p) ∙ first_so (has Part p) _ (sym (moved_own p) ∙ holds))

  -- nobody else held it
  pub moved_gets : (p : Partition) → IsTrue (has Moved (m, p)) → (n : Text) → IsTrue (has g.grants (n, p)) → n ≡ m
  moved_gets p there n holds = by (has g.grants (m, p)) refl (second_so (has Part p) _ (sym (moved_own p) ∙ there))
    where
      by : (b : Bool) → has g.grants (m, p) ≡ b → (b || is_free_for g.grants m p) ≡ true → n ≡ m
      by true own so = sound.one_holder n m p holds own
      by false own so = free_is g.grants m p so n holds

  one_holder : (a b : Text) (p : Partition) → IsTrue (has Moved (a, p)) → IsTrue (has Moved (b, p)) → a ≡ b
  one_holder a b p one other = by (tie a m) (tie b m)
    where
      before : (k : Text) → eq_by_cmp text_cmp k m ≡ false → IsTrue (has Moved (k, p)) → IsTrue (has g.grants (k, p))
      before k apart holds = sym (moved_other k p apart) ∙ holds

      by : Tie a m → Tie b m → a ≡ b
      by (ties a_is) (ties b_is) = a_is ∙ sym b_is
      by (ties a_is) (differs b_not b_apart) = a_is ∙ sym (moved_gets p (subst (λ k. IsTrue (has Moved (k, p))) a_is one) b (before b b_apart other))
      by (differs a_not a_apart) (ties b_is) = moved_gets p (subst (λ k. IsTrue (has Moved (k, p))) b_is other) a (before a a_apart one) ∙ sym b_is
      by (differs a_not a_apart) (differs b_not b_apart) = sound.one_holder a b p (before a a_apart one) (before b b_apart other)

  moved_is_consistent : IsConsistent (record g { grants = Moved })
  moved_is_consistent =
      record {
        one_holder = one_holder;
        holders = λ a p holds. holder a p holds (tie a m);
        owners = sound.owners;
        owned = sound.owned;
        epochs = sound.epochs;
        settled = λ a s p there same holds. within a s p there same holds (tie a m);
        target_epoch = sound.target_epoch;
        epoch = sound.epoch;
        instances = sound.instances;
        named = sound.named;
        past = sound.past;
        few_members = sound.few_members;
        few_past = sound.few_past;
      }
    where
      holder : (a : Text) (p : Partition) → IsTrue (has Moved (a, p)) → Tie a m → IsTrue (finite.contains_key g.records a)
      holder a p holds (ties same) = ap (λ k. is_some (finite.get g.records k)) same ∙ ap is_some kept
      holder a p holds (differs other apart) = sound.holders a p (sym (moved_other a p apart) ∙ holds)

      within : (a : Text) (s : Record) (p : Partition) → finite.get g.records a ≡ Some s → last_epoch s ≡ g.target_epoch → IsTrue (has Moved (a, p)) → Tie a m → finite.get g.target p ≡ Some a
      within a s p there same holds (ties a_is) = moved_within p (subst (λ k. IsTrue (has Moved (k, p))) a_is holds) ∙ ap Some (sym a_is)
      within a s p there same holds (differs other apart) = sound.settled a s p there same (sym (moved_other a p apart) ∙ holds)

-- ---- the member's record

pub arrived_epoch : (r : Record) (e : Epoch) (t : ℕ) → r.epoch ≡ e → last_epoch (arrived r e t) ≡ t
arrived_epoch r Away t is = refl
arrived_epoch r (At e) t is =
    elim (e == t) as (λ b. (e == t) ≡ b → last_epoch (cond b (record r { release_deadline = None }) (record r { previous_epoch = e; epoch = At t; release_deadline = None })) ≡ t) [
      | true ↦ λ so. ap (λ x. last_epoch_at x (record r { release_deadline = None })) is ∙ (Decides-eqb e t).0 so
      | false ↦ λ other. refl
    ] refl

arrived_instance : (r : Record) (e : Epoch) (t : ℕ) → (arrived r e t).instance ≡ r.instance
arrived_instance r Away t = refl
arrived_instance r (At e) t =
    elim (e == t) as (λ b. (cond b (record r { release_deadline = None }) (record r { previous_epoch = e; epoch = At t; release_deadline = None })).instance ≡ r.instance) [
      | true ↦ refl
      | false ↦ refl
    ]

pub asked_epoch : (r : Record) (o : Option ℕ) (now : ℕ) → last_epoch (asked r o now) ≡ last_epoch r
asked_epoch r None now = by r.epoch
  where
    by : (e : Epoch) → last_epoch_at e (asked r None now) ≡ last_epoch_at e r
    by (At e) = refl
    by Away = refl
asked_epoch r (Some deadline) now = refl

asked_instance : (r : Record) (o : Option ℕ) (now : ℕ) → (asked r o now).instance ≡ r.instance
asked_instance r None now = refl
asked_instance r (Some deadline) now = refl

-- ---- the settling

settled_by_is_consistent : (may : Bool) (g : Group) → IsConsistent g → (m : Text) (o : Option Record) → finite.get g.records m ≡ o → (now : ℕ) → IsConsistent (settled_by may g m o now)
settled_by_is_consistent may g sound m None none now = sound
settled_by_is_consistent false g sound m (Some r) kept now =
    kept_is_consistent g sound m (asked r r.release_deadline now)
    (fit_as_before g sound m r (asked r r.release_deadline now) kept (asked_epoch r r.release_deadline now) (asked_instance r r.release_deadline now)) r kept
settled_by_is_consistent true g sound m (Some r) kept now =
    kept_is_consistent after (moved_is_consistent g sound m r kept) m arrives
    (record {
      id = λ is. not_none r (sym sound.named ∙ ap (finite.get g.records) (sym is) ∙ kept);
      epoch = let same = arrived_epoch r r.epoch g.target_epoch refl in omega (arith, same);
      settled = λ p same holds. moved_within g sound m r kept p holds;
      instance = λ n s i other there is also. other (sound.instances n m s r i there kept also (sym (arrived_instance r r.epoch g.target_epoch) ∙ is));
    }) r kept
  where
    arrives : Record
    arrives = arrived r r.epoch g.target_epoch

    after : Group
    after = record g { grants = moved g.grants m (wanted g.target m) }

pub settled_is_consistent : (g : Group) → IsConsistent g → (m : Text) (owned : Option Partitions) (now : ℕ) → IsConsistent (settled g m owned now)
settled_is_consistent g sound m owned now =
    settled_by_is_consistent (may_settle g.grants m (wanted g.target m) owned) g sound m (finite.get g.records m) refl now
