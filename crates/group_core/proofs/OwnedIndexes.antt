-- What a target has of a view has no index below 0.
use Rattle.std.proofs.Common.{◌≡◌, ℕ, ℤ, pos, negsuc, true, false, refl, sym, ap, ◌∙◌, true≢false}
use Rattle.group_types.specs.declared.partition.Partition.{Partition}
use Rattle.group_types.specs.Text.{Text}
use Rattle.group_types.specs.Sets.{has}
use Rattle.group_types.specs.Partition.{Partitions}
use Rattle.group_types.specs.Topics.{Topics}
use Rattle.group_types.specs.Owners.{IsIndex, Spread, share_of}
use Rattle.group_types.proofs.SpreadLemmas.{has-share_of, owns-get}
use Rattle.group_reconcile.specs.Holders.{AreFromZero, is_from_zero}
use Rattle.group_reconcile.proofs.AllOfSets.{all_of_set}
use Rattle.group_core.specs.Stages.{AreOfView}

index_from_zero : (k : ℤ) (n : ℕ) → IsIndex k n → is_from_zero k ≡ true
index_from_zero (pos i) n is = refl
index_from_zero (negsuc i) n is = absurd (true≢false (sym is))

-- a member's part of it
pub part_from_zero : (owners : Spread) (view : Topics) (m : Text) (part : Partitions) → AreOfView owners view → part ≡ share_of owners m → AreFromZero part
part_from_zero owners view m part of_view is =
    (all_of_set (λ p. is_from_zero p.index) part).1
    (λ p inside.
    let there = of_view p m ((owns-get owners m p).0 (sym (has-share_of owners m p) ∙ ap (λ (s : Partitions). has s p) (sym is) ∙ inside)) in
    index_from_zero p.index there.topic.count there.index)
