-- Who has no record owns nothing and holds nothing.
use Rattle.std.proofs.Common.{◌≡◌, Bool, true, false, Option, Some, None, is_some, IsTrue, refl, sym, ap, ◌∙◌, true≢false}
use Rattle.std.specs.FinMap as finite
use Rattle.std.specs.Option.{IfSome}
use Rattle.group_types.specs.declared.partition.Partition.{Partition}
use Rattle.group_types.specs.Text.{Text}
use Rattle.group_types.specs.Sets.{nothing}
use Rattle.group_types.specs.Partition.{partition_cmp, Partitions}
use Rattle.group_types.specs.Owners.{Spread}
use Rattle.group_types.specs.Group.{Grants, Group, Record, Records, held}
use Rattle.group_types.specs.Settle.{grants_after}
use Rattle.group_types.specs.Sound.{IsSound}
use Rattle.group_types.proofs.GrantLemmas.{has-held}
use Rattle.group_types.proofs.Lookups.{Tie, ties, differs, tie, get-insert_other}
use Rattle.group_types.proofs.Orders.{partition_cmp_total, partition_cmp-IsAntisymmetric}
use Rattle.group_types.proofs.SetLemmas.{has-nothing, same_set}
use Rattle.group_epochs.specs.Drafts.{IsHeirOf}
use Rattle.group_core.specs.Stages.{HasNothing}
use Rattle.group_core.proofs.HandOvers.{heir_differs}
use Rattle.group_core.proofs.Marking.{held_others}

not_so : (b : Bool) → (b ≡ true → ⊥) → b ≡ false
not_so true never = absurd (never refl)
not_so false never = refl

module _ (g : Group) (sound : IsSound g) (old : Text) (r : Record) (heir : Text) (is : IsHeirOf g.records old heir) where
  holds_nothing : held g.grants heir ≡ nothing
  holds_nothing =
      same_set partition_cmp_total partition_cmp-IsAntisymmetric _ _ (λ q. has-held g.grants heir q
      ∙ not_so _ (λ holds. true≢false (sym (sound.holders heir q holds) ∙ ap is_some is.absent))
      ∙ sym (has-nothing partition_cmp q))

  not_drafted : IsTrue (finite.contains_key (finite.insert g.records old r) heir) → ⊥
  not_drafted there = by (tie heir old)
    where
      by : Tie heir old → ⊥
      by (ties same) = heir_differs g.records old heir is same
      by (differs _ apart) = true≢false (sym there ∙ ap is_some (get-insert_other g.records old r heir apart ∙ is.absent))

  pub has_nothing : (owners : Spread) → ((p : Partition) (m : Text) → finite.get owners p ≡ Some m → IsTrue (finite.contains_key (finite.insert g.records old r) m))
      → HasNothing owners g.grants heir
  has_nothing owners members = record { owns = λ p own. not_drafted (members p heir own); holds = holds_nothing }

-- and it has nothing once another member was offered its part of the target
pub nothing_after : (records : Records) (m : Text) (heir : Option Text) → IfSome heir (IsHeirOf records m) → (owners : Spread) (grants : Grants) (moves : Bool) (part : Partitions)
    → IfSome heir (HasNothing owners grants) → IfSome heir (HasNothing owners (grants_after moves grants m part))
nothing_after records m None is owners grants moves part none = tt
nothing_after records m (Some h) is owners grants moves part none =
    record { owns = none.owns; holds = held_others moves grants m h part (heir_differs records m h is) ∙ none.holds }
