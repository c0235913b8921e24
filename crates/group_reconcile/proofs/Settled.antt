-- The cells at a partition, once some were freed and others were granted.
use Rattle.std.proofs.Common.{◌≡◌, Bool, true, false, cond, not, ◌&&◌, ◌||◌, List, [], ◌∷◌, refl, sym, ap, ◌∙◌, Option, Some, None, is_some}
use Rattle.std.specs.List.{list_any}
use Rattle.std.specs.Ordering.{eq_by_cmp}
use Rattle.std.specs.Cmp.{Equal-is}
use Rattle.std.specs.FinMap as finite
use Rattle.group_types.specs.declared.partition.Partition.{Partition}
use Rattle.group_types.specs.Sets.{has, in_order}
use Rattle.group_types.specs.Partition.{partition_cmp, Partitions}
use Rattle.group_types.proofs.Orders.{partition_cmp_total, partition_cmp-IsAntisymmetric}
use Rattle.group_types.proofs.SetLemmas.{has-in_order}
use Rattle.group_reconcile.specs.declared.cell.Cell.{Cell}
use Rattle.group_reconcile.specs.Tables.{Cells}
use Rattle.group_reconcile.specs.Settling.{cells_cleared, cells_put, cells_without, put_where_free}
use Rattle.group_reconcile.proofs.Bools.{or_true, same_both}

same : (p q : Partition) → eq_by_cmp partition_cmp q p ≡ true → q ≡ p
same p q so = partition_cmp-IsAntisymmetric q p ((Equal-is (partition_cmp q p)).0 so)

pub get-cells_without : (m : Cells) (ps : List Partition) (q : Partition)
    → finite.get (cells_without m ps) q ≡ cond (list_any (eq_by_cmp partition_cmp q) ps) None (finite.get m q)
get-cells_without m [] q = refl
get-cells_without m (p ∷ ps) q =
    get-cells_without (finite.remove m p) ps q
    ∙ ap (cond (list_any (eq_by_cmp partition_cmp q) ps) None) (finite.get-remove partition_cmp_total m p q)
    ∙ either (list_any (eq_by_cmp partition_cmp q) ps) (eq_by_cmp partition_cmp q p)
  where
    either : (a b : Bool) → cond a None (cond b None (finite.get m q)) ≡ cond (b || a) None (finite.get m q)
    either true b = sym (ap (λ c. cond c None (finite.get m q)) (or_true b))
    either false true = refl
    either false false = refl

pub get-cells_cleared : (m : Cells) (next : Partitions) (ps : List Partition) (q : Partition)
    → finite.get (cells_cleared m next ps) q ≡ cond (list_any (eq_by_cmp partition_cmp q) ps && not (has next q)) None (finite.get m q)
get-cells_cleared m next [] q = refl
get-cells_cleared m next (p ∷ ps) q =
    get-cells_cleared (cond (has next p) m (finite.remove m p)) next ps q
    ∙ ap (cond (list_any (eq_by_cmp partition_cmp q) ps && not (has next q)) None) (one (has next p))
    ∙ join (eq_by_cmp partition_cmp q p) (has next p) (has next q) (list_any (eq_by_cmp partition_cmp q) ps) (finite.get m q) (λ so. ap (has next) (sym (same p q so)))
  where
    one : (b : Bool) → finite.get (cond b m (finite.remove m p)) q ≡ cond b (finite.get m q) (cond (eq_by_cmp partition_cmp q p) None (finite.get m q))
    one true = refl
    one false = finite.get-remove partition_cmp_total m p q

    join : (t a b rest : Bool) (o : Option Cell) → (t ≡ true → a ≡ b) → cond (rest && not b) None (cond a o (cond t None o)) ≡ cond ((t || rest) && not b) None o
    join true true b rest o is = ap (λ x. cond (rest && not x) None o) (sym (is refl)) ∙ ends rest ∙ ap (λ x. cond (not x) None o) (is refl)
      where
        ends : (rest : Bool) → cond (rest && false) None o ≡ o
        ends true = refl
        ends false = refl
    join true false b rest o is = ap (λ x. cond (rest && not x) None None) (sym (is refl)) ∙ same_both (rest && true) None ∙ ap (λ x. cond (not x) None o) (is refl)
    join false true b rest o is = refl
    join false false b rest o is = refl

pub get-cells_put : (m : Cells) (c : Cell) (ps : List Partition) (q : Partition)
    → finite.get (cells_put m c ps) q ≡ cond (list_any (eq_by_cmp partition_cmp q) ps && not (is_some (finite.get m q))) (Some c) (finite.get m q)
get-cells_put m c [] q = refl
get-cells_put m c (p ∷ ps) q =
    get-cells_put (put_where_free m c p) c ps q
    ∙ step (eq_by_cmp partition_cmp q p) refl
  where
    other : (b : Bool) → eq_by_cmp partition_cmp q p ≡ false → finite.get (cond b m (finite.insert m p c)) q ≡ finite.get m q
    other true apart = refl
    other false apart = finite.get-insert partition_cmp_total m p c q ∙ ap (λ b. cond b (Some c) (finite.get m q)) apart

    here : (o : Option Cell) → eq_by_cmp partition_cmp q p ≡ true → finite.get m p ≡ o → finite.get (cond (is_some o) m (finite.insert m p c)) q ≡ cond (is_some o) o (Some c)
    here (Some d) so is = ap (finite.get m) (same p q so) ∙ is
    here None so is = finite.get-insert partition_cmp_total m p c q ∙ ap (λ b. cond b (Some c) (finite.get m q)) so

    full : (b : Bool) (o : Option Cell) → cond (b && not (is_some (cond (is_some o) o (Some c)))) (Some c) (cond (is_some o) o (Some c)) ≡ cond (not (is_some o)) (Some c) o
    full true (Some d) = refl
    full true None = refl
    full false (Some d) = refl
    full false None = refl

    step : (t : Bool) → eq_by_cmp partition_cmp q p ≡ t
        → cond (list_any (eq_by_cmp partition_cmp q) ps && not (is_some (finite.get (put_where_free m c p) q))) (Some c) (finite.get (put_where_free m c p) q)
        ≡ cond ((t || list_any (eq_by_cmp partition_cmp q) ps) && not (is_some (finite.get m q))) (Some c) (finite.get m q)
    step true so =
        ap (λ o. cond (list_any (eq_by_cmp partition_cmp q) ps && not (is_some o)) (Some c) o) (here (finite.get m p) so refl)
        ∙ full (list_any (eq_by_cmp partition_cmp q) ps) (finite.get m p)
        ∙ ap (λ o. cond (not (is_some o)) (Some c) o) (ap (finite.get m) (sym (same p q so)))
    step false so = ap (λ o. cond (list_any (eq_by_cmp partition_cmp q) ps && not (is_some o)) (Some c) o) (other (is_some (finite.get m p)) so)

-- Freeing what a member holds and isn't to hold next, and then granting it the next ones that are free: a next one has its
-- cell or the new one, another that the member held is free, and all else is as it was.
pub settling_is : (m : Cells) (parts next : Partitions) (c : Cell) (q : Partition)
    → finite.get (cells_put (cells_cleared m next (in_order parts)) c (in_order next)) q
    ≡ cond (has next q) (cond (is_some (finite.get m q)) (finite.get m q) (Some c)) (cond (has parts q) None (finite.get m q))
settling_is m parts next c q =
    get-cells_put (cells_cleared m next (in_order parts)) c (in_order next) q
    ∙ (λ i. cond (sym (has-in_order next q) i && not (is_some (get-cells_cleared m next (in_order parts) q i))) (Some c) (get-cells_cleared m next (in_order parts) q i))
    ∙ ap (λ b. cond (has next q && not (is_some (cond (b && not (has next q)) None (finite.get m q)))) (Some c) (cond (b && not (has next q)) None (finite.get m q))) (sym (has-in_order parts q))
    ∙ last (has next q) (has parts q) (finite.get m q)
  where
    last : (n h : Bool) (o : Option Cell) → cond (n && not (is_some (cond (h && not n) None o))) (Some c) (cond (h && not n) None o) ≡ cond n (cond (is_some o) o (Some c)) (cond h None o)
    last true true None = refl
    last true true (Some d) = refl
    last true false None = refl
    last true false (Some d) = refl
    last false true o = refl
    last false false o = refl
