-- Room for the cells of all partitions of a set.
use Rattle.std.proofs.Common.{◌≡◌, ◌⊎◌, inl, inr, ℕ, ◌≤◌, ℤ, pos, negsuc, Bool, true, false, ◌||◌, List, [], ◌∷◌, refl, sym, ap, subst, arith, ltb-true, lt-ltb}
use Rattle.std.specs.List.{AllByRecursion, list_any}
use Rattle.std.specs.Ordering.{eq_by_cmp}
use Rattle.std.specs.Cmp.{Equal-is, eq_by_cmp_equiv}
use Rattle.group_types.specs.declared.partition.Partition.{Partition}
use Rattle.group_types.specs.Partition.{partition_cmp}
use Rattle.group_types.proofs.Orders.{partition_cmp_total, partition_cmp-IsAntisymmetric}
use Rattle.group_types.specs.Owners.{IsIndex}
use Rattle.group_reconcile.specs.Tables.{Sizes, HasRoom, KeepsRoom}

within_more : (k : ℤ) (m n : ℕ) → m ≤ n → IsIndex k m → IsIndex k n
within_more (pos i) m n more within = let below = ltb-true i m within in lt-ltb i n (omega arith)
within_more (negsuc i) m n more within = within

pub room_kept : (old new : Sizes) (p : Partition) → KeepsRoom old new → HasRoom old p → HasRoom new p
room_kept old new p kept room = within_more p.index _ _ (kept p.topic) room

-- each partition of a list has room, or is among those that are left
abbrev pub HaveRoomOrAreLeft : Sizes → List Partition → List Partition → Type 0
HaveRoomOrAreLeft sizes all left = AllByRecursion (λ q. (list_any (eq_by_cmp partition_cmp q) left ≡ true) ⊎ HasRoom sizes q) all

one_left : (old new : Sizes) (p : Partition) (left : List Partition) → KeepsRoom old new → HasRoom new p → (q : Partition) (b : Bool) → eq_by_cmp partition_cmp q p ≡ b
    → ((b || list_any (eq_by_cmp partition_cmp q) left) ≡ true) ⊎ HasRoom old q → (list_any (eq_by_cmp partition_cmp q) left ≡ true) ⊎ HasRoom new q
one_left old new p left kept room q true same either = inr (subst (HasRoom new) (sym (partition_cmp-IsAntisymmetric q p ((Equal-is (partition_cmp q p)).0 same))) room)
one_left old new p left kept room q false same (inl there) = inl there
one_left old new p left kept room q false same (inr had) = inr (room_kept old new q kept had)

-- the next one has got its room
pub left-next : (old new : Sizes) (p : Partition) (left all : List Partition) → KeepsRoom old new → HasRoom new p → HaveRoomOrAreLeft old all (p ∷ left) → HaveRoomOrAreLeft new all left
left-next old new p left [] kept room each = tt
left-next old new p left (q ∷ all) kept room each =
    (one_left old new p left kept room q (eq_by_cmp partition_cmp q p) refl each.0, left-next old new p left all kept room each.1)

-- before the first all are left
pub left-all : (sizes : Sizes) (all left : List Partition) → ((q : Partition) → list_any (eq_by_cmp partition_cmp q) all ≡ true → list_any (eq_by_cmp partition_cmp q) left ≡ true) → HaveRoomOrAreLeft sizes all left
left-all sizes [] left there = tt
left-all sizes (q ∷ all) left there = (
  inl (there q (ap (λ b. b || list_any (eq_by_cmp partition_cmp q) all) ((eq_by_cmp_equiv partition_cmp_total).refl q))),
  left-all sizes all left (λ x among. there x (either (eq_by_cmp partition_cmp x q) (list_any (eq_by_cmp partition_cmp x) all) among)),
)
  where
    either : (a b : Bool) → b ≡ true → (a || b) ≡ true
    either true b so = refl
    either false b so = so

-- at the end none is left
pub left-none : (sizes : Sizes) (all : List Partition) → HaveRoomOrAreLeft sizes all [] → AllByRecursion (HasRoom sizes) all
left-none sizes [] each = tt
left-none sizes (q ∷ all) each = (
  elim each.0 [
    | inl there ↦ absurd (cc)
    | inr room ↦ room
  ],
  left-none sizes all each.1,
)
