-- A renewed target leaves a consistent group.
use Rattle.std.proofs.Common.{◌≡◌, ℕ, ◌<◌, ◌≤◌, ◌==◌, Bool, true, false, refl, sym, subst, ◌∙◌, arith, true≢false}
use Rattle.std.proofs.lemmas.Bool.Decides.{Decides-eqb}
use Rattle.group_types.specs.Limits.{GREATEST_EPOCH}
use Rattle.group_types.specs.Topics.{Topics}
use Rattle.group_types.specs.Group.{Target, Group}
use Rattle.group_types.specs.Renewal.{IsTarget, Renews, RenewsWhere}
use Rattle.group_types.proofs.Consistent.{IsConsistent}
use Rattle.group_types.proofs.TargetOwners.{OwnersAre, target_owners}

-- a group with a target of a later epoch
module _ (g : Group) (sound : IsConsistent g) (epoch : ℕ) (view : Topics) (target : Target) (is_target : IsTarget g.records view g.target target)
    (later : g.target_epoch < epoch) (most : epoch ≤ GREATEST_EPOCH) where
  owner : OwnersAre g.records view target
  owner = target_owners g.records view g.target target is_target

  pub with_target_is_consistent : IsConsistent (record g { epoch = epoch; view = view; target = target; target_epoch = epoch })
  with_target_is_consistent =
      record {
        one_holder = sound.one_holder;
        holders = sound.holders;
        owners = λ m p owns. (owner p m owns).0;
        owned = λ m p owns. (owner p m owns).1;
        epochs = λ m r there. let before = sound.epochs m r there in omega (arith, before, later);
        settled = λ m r p there same holds. let before = sound.epochs m r there in absurd (omega (arith, before, later, same));
        target_epoch = omega arith;
        epoch = most;
        instances = sound.instances;
        named = sound.named;
        past = sound.past;
        few_members = sound.few_members;
        few_past = sound.few_past;
      }

-- a change that is renewed
pub changed_is_consistent : (g : Group) → IsConsistent g → (epoch : ℕ) (view : Topics) (renewed : Group) → g.target_epoch < epoch → epoch ≤ GREATEST_EPOCH
    → Renews (record g { epoch = epoch; view = view }) renewed → IsConsistent renewed
changed_is_consistent g sound epoch view renewed later most renews =
    by (epoch == g.target_epoch) refl renews
  where
    by : (b : Bool) → (epoch == g.target_epoch) ≡ b → RenewsWhere b (record g { epoch = epoch; view = view }) renewed → IsConsistent renewed
    by true so is = let same = (Decides-eqb epoch g.target_epoch).0 so in absurd (omega (arith, same, later))
    by false apart (target, is_target, is) = subst IsConsistent (sym is) (with_target_is_consistent g sound epoch view target is_target later most)

-- no change, and the target is renewed where its epoch is an earlier one
pub renewed_is_consistent : (g : Group) → IsConsistent g → (renewed : Group) → Renews g renewed → IsConsistent renewed
renewed_is_consistent g sound renewed renews = by (g.epoch == g.target_epoch) refl renews
  where
    by : (b : Bool) → (g.epoch == g.target_epoch) ≡ b → RenewsWhere b g renewed → IsConsistent renewed
    by true so is = subst IsConsistent (sym is) sound
    by false apart (target, is_target, is) =
        subst IsConsistent (sym is) (with_target_is_consistent g sound g.epoch g.view target is_target (below apart) sound.epoch)
      where
        below : (g.epoch == g.target_epoch) ≡ false → g.target_epoch < g.epoch
        below apart =
            let most = sound.target_epoch in
            let other : g.epoch ≡ g.target_epoch → ⊥ = λ same. true≢false (sym ((Decides-eqb g.epoch g.target_epoch).1 same) ∙ apart) in
            omega (arith, most, other)
