-- A member table whose members stay, and one that has none.
use Rattle.std.proofs.Common.{◌≡◌, ℕ, List, [], Option, Some, None, is_some, refl, sym, ap, subst, ◌∙◌, true≢false}
use Rattle.std.specs.Option.{option_map_or}
use Rattle.std.specs.Ordering.{on}
use Rattle.std.specs.List.Sorted.{IsStrictlySortedBy}
use Rattle.std.specs.FinMap as finite
use Rattle.slab.specs.Slab.{get}
use Rattle.group_types.specs.declared.partition.Partition.{Partition}
use Rattle.group_types.specs.Text.{text_cmp}
use Rattle.group_types.specs.Partition.{partition_cmp}
use Rattle.group_types.proofs.Orders.{partition_cmp_total, partition_cmp-IsAntisymmetric}
use Rattle.group_reconcile.specs.declared.cell.Cell.{Cell}
use Rattle.group_reconcile.specs.declared.members.Member.{Member}
use Rattle.group_reconcile.specs.Members.{MemberTable, IsIdOrder}
use Rattle.group_reconcile.specs.Tables.{Cells}
use Rattle.group_reconcile.specs.Granted.{AreConsistent, holders_of}
use Rattle.group_reconcile.proofs.Granted.{holders_of-empty, known}

module _ (old new : MemberTable) (same : (k : ℕ) → get new k ≡ get old k) where
  pub IsIdOrder-kept : (ns : List ℕ) → IsIdOrder old ns → IsIdOrder new ns
  IsIdOrder-kept ns order = record {
    rise = subst (λ (at : ℕ → Option Member). IsStrictlySortedBy (on (λ k. option_map_or (λ m. m.id) (at k) []) text_cmp) ns) (λ i k. sym (same k) i) order.rise;
    all = λ k. order.all k ∙ sym (ap is_some (same k));
  }

-- where nobody is left, nobody holds a partition
module _ (ms : MemberTable) (none : (k : ℕ) → get ms k ≡ None) (cells : Cells) (consistent : AreConsistent ms cells) where
  free : (p : Partition) (cell : Option Cell) → finite.get cells p ≡ cell → cell ≡ None
  free p None is = refl
  free p (Some c) is = absurd (true≢false (sym (known ms cells consistent p c is) ∙ ap is_some (none c.holder)))

  pub holders_of-nobody : holders_of ms cells ≡ finite.empty
  holders_of-nobody =
      ap (holders_of ms)
      (finite.same_map partition_cmp_total partition_cmp-IsAntisymmetric cells finite.empty
      (λ p. free p (finite.get cells p) refl ∙ sym (finite.get-empty partition_cmp p)))
      ∙ holders_of-empty ms
