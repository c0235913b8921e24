-- Since when partitions are granted, before and after.
use Rattle.std.proofs.Common.{◌≡◌, ◌⊎◌, inl, inr, ℕ, Option, Some, None, IfSome, unwrap_or, Result, Ok, Err, refl, sym, ap, subst, ◌∙◌}
use Rattle.std.specs.Option.{option_map}
use Rattle.std.specs.Result.{OnErr}
use Rattle.std.specs.FinMap as finite
use Rattle.group_types.specs.Text.{Text}
use Rattle.group_types.specs.Group.{Group, Record}
use Rattle.group_reconcile.specs.Holders.{Held, Holders, granted_at}
use Rattle.group_reconcile.specs.Offers.{IsSince, KeepsSince, handed, handed_over}
use Rattle.group_reconcile.proofs.Granted.{get-mapped}
use Rattle.group_core.specs.CodeOrder.{Heir}
use Rattle.group_core.specs.Group.{GroupValue}
use Rattle.group_core.specs.Since.{HasSameSince, KeepsSinceOr}
use Rattle.group_core.specs.GroupView.{KeepsHolders}
use Rattle.group_core.specs.Stages.{stored_in}
use Rattle.group_core.specs.declared.state.State.{State}
use Rattle.group_core.proofs.Results.{on_err}

-- where nothing has changed
pub same_since : (h : Holders) (epoch : ℕ) → KeepsSinceOr h h epoch
same_since h epoch p = by (granted_at h p)
  where
    by : (o : Option ℕ) → IfSome o (λ since. since ≡ unwrap_or o epoch)
    by None = tt
    by (Some since) = refl

pub unchanged_since : (old new : Holders) (epoch : ℕ) → new ≡ old → KeepsSinceOr old new epoch
unchanged_since old new epoch is = subst (λ (h : Holders). KeepsSinceOr old h epoch) (sym is) (same_since old epoch)

-- where a member let go of what it held
pub let_go_since : (old new : Holders) (epoch : ℕ) → KeepsSince old new → KeepsSinceOr old new epoch
let_go_since old new epoch keeps p = by (finite.get new p) refl
  where
    by : (o : Option Held) → finite.get new p ≡ o → IfSome (option_map (λ d. d.since) o) (λ since. since ≡ unwrap_or (granted_at old p) epoch)
    by None is = tt
    by (Some d) is = ap (λ (o : Option Held). unwrap_or (option_map (λ d. d.since) o) epoch) (sym (keeps p d is))

-- where a member was offered its target
pub offered_since : (old new : Holders) (m : Text) (epoch : ℕ) → IsSince old new m epoch → KeepsSinceOr old new epoch
offered_since old new m epoch since p = by (finite.get new p) refl
  where
    at : (d : Held) → (finite.get old p ≡ Some d) ⊎ ((d ≡ record { member = m; since = epoch }) × (finite.get old p ≡ None))
        → d.since ≡ unwrap_or (granted_at old p) epoch
    at d (inl kept) = ap (λ (o : Option Held). unwrap_or (option_map (λ d. d.since) o) epoch) (sym kept)
    at d (inr granted) = ap (λ (d : Held). d.since) granted.0 ∙ ap (λ (o : Option Held). unwrap_or (option_map (λ d. d.since) o) epoch) (sym granted.1)

    by : (o : Option Held) → finite.get new p ≡ o → IfSome (option_map (λ d. d.since) o) (λ since. since ≡ unwrap_or (granted_at old p) epoch)
    by None is = tt
    by (Some d) is = at d (since p d is)

-- an heir holds it as long as the old id did
pub handed_since : (h : Holders) (old new : Text) → HasSameSince h (handed_over h old new)
handed_since h old new p = ap (option_map (λ d. d.since)) (get-mapped (handed old new) h p) ∙ twice (finite.get h p)
  where
    twice : (o : Option Held) → option_map (λ d. d.since) (option_map (handed old new) o) ≡ option_map (λ d. d.since) o
    twice None = refl
    twice (Some d) = refl

-- what is done afterwards changes nothing of it
pub then_same_since : (old between new : Holders) (epoch now : ℕ) → KeepsSinceOr old between epoch → HasSameSince between new → now ≡ epoch
    → KeepsSinceOr old new now
then_same_since old between new epoch now keeps same is p =
    subst (λ e. IfSome (granted_at new p) (λ since. since ≡ unwrap_or (granted_at old p) e)) (sym is)
    (subst (λ o. IfSome o (λ since. since ≡ unwrap_or (granted_at old p) epoch)) (sym (same p)) (keeps p))

-- the target epoch isn't the end's matter
pub stored_epoch : (g : Group) (m : Text) (r : Record) (heir : Option Heir) → (stored_in g m r heir).target_epoch ≡ g.target_epoch
stored_epoch g m r None = refl
stored_epoch g m r (Some heir) = refl

-- one after the other
pub KeepsSince-trans : (a b c : Holders) → KeepsSince a b → KeepsSince b c → KeepsSince a c
KeepsSince-trans a b c first second p d is = first p d (second p d is)

-- what holds of the holders where they are the same
pub unchanged_holders : {X E : Type 0} (r : Result X E) (old new : State) → new.grants ≡ old.grants → KeepsHolders r old new
unchanged_holders r old new is = record { since = unchanged_since old.grants new.grants new.target.epoch is; err = on_err r _ is }

-- and what holds of them after another step that changed none
pub holders_from : {X E : Type 0} (r : Result X E) (old between new : State) → between.grants ≡ old.grants → KeepsHolders r between new → KeepsHolders r old new
holders_from r old between new is keeps =
    record {
      since = subst (λ (h : Holders). KeepsSinceOr h new.grants new.target.epoch) is keeps.since;
      err = subst (λ (h : Holders). OnErr r (new.grants ≡ h)) is keeps.err;
    }

abbrev value_of : Group → Holders → GroupValue
value_of g h = record { state = g; holders = h }

-- the state and the holders where memory is short
pub value_on_err : {X E : Type 0} (r : Result X E) (g before : Group) (h were : Holders) → OnErr r (g ≡ before) → OnErr r (h ≡ were)
    → OnErr r (value_of g h ≡ value_of before were)
value_on_err (Ok x) g before h were same held = tt
value_on_err (Err e) g before h were same held = λ i. value_of (same i) (held i)
