-- What members hold, by the pairs of the grants.
use Rattle.std.proofs.Common.{◌≡◌, Bool, true, false, cond, not, ◌&&◌, ◌||◌, List, [], ◌∷◌, map, refl, sym, ap, ◌∙◌}
use Rattle.std.specs.declared.cmp.Ordering.{Ordering}
use Rattle.std.specs.List.{list_any, filter}
use Rattle.std.specs.Ordering.{eq_by_cmp}
use Rattle.group_types.specs.declared.partition.Partition.{Partition}
use Rattle.group_types.specs.Text.{Text, text_cmp}
use Rattle.group_types.specs.Sets.{nothing, has, common, in_order, of_list}
use Rattle.group_types.specs.Partition.{partition_cmp, Partitions}
use Rattle.group_types.specs.Group.{Grants, grant_cmp, held}
use Rattle.group_types.specs.Settle.{granting, moved, is_free_for}
use Rattle.group_types.proofs.Orders.{partition_cmp_total, partition_cmp-IsAntisymmetric}
use Rattle.group_types.proofs.SetLemmas.{has-nothing, has-common, has-in_order, same_set}
use Rattle.group_types.proofs.BoolLemmas.{or_none}
use Rattle.group_types.proofs.GrantLemmas.{grant_cmp_total, grant_cmp-IsAntisymmetric, has-granting, has-held}
use Rattle.group_types.proofs.Lookups.{text_ties}
use Rattle.group_core.proofs.Single.{entries-empty, retain_keys-empty}

-- a member that held nothing holds what it is granted now
has-granted : (m : Text) (ps : List Partition) (q : Partition) → has (granting nothing m ps) (m, q) ≡ list_any (eq_by_cmp partition_cmp q) ps
has-granted m ps q =
    has-granting nothing m ps m q
    ∙ (λ i. (text_ties m i && list_any (eq_by_cmp partition_cmp q) ps) || has-nothing grant_cmp (m, q) i)
    ∙ or_none (list_any (eq_by_cmp partition_cmp q) ps)

pub held-granting : (m : Text) (set : Partitions) → held (granting nothing m (in_order set)) m ≡ set
held-granting m set =
    same_set partition_cmp_total partition_cmp-IsAntisymmetric _ _ (λ q. has-held (granting nothing m (in_order set)) m q
    ∙ has-granted m (in_order set) q ∙ sym (has-in_order set q))

in_order-nothing : {K : Type 0} (R : K → K → Ordering) → in_order (nothing {R = R}) ≡ []
in_order-nothing R = ap (map (λ e. e.0)) (entries-empty R (Unit {0}))

-- of no grants nobody holds anything
pub held-nothing : (m : Text) → held nothing m ≡ nothing
held-nothing m = ap (λ gs. of_list (map (λ g. g.1) (filter (λ g. eq_by_cmp text_cmp m g.0) gs))) (in_order-nothing grant_cmp)

either : (a b : Bool) → b ≡ true → (a || b) ≡ true
either true b is = refl
either false b is = is

free : (m : Text) (p : Partition) → is_free_for nothing m p ≡ true
free m p = ap (λ gs. not (list_any (λ g. eq_by_cmp partition_cmp p g.1 && not (eq_by_cmp text_cmp m g.0)) gs)) (in_order-nothing grant_cmp)

filter_all : {A : Type 0} (test : A → Bool) → ((x : A) → test x ≡ true) → (xs : List A) → filter test xs ≡ xs
filter_all test all [] = refl
filter_all test all (x ∷ xs) =
    ap (λ b. cond b (x ∷ filter test xs) (filter test xs)) (all x) ∙ ap (λ rest. x ∷ rest) (filter_all test all xs)

abbrev no_grants : Grants
no_grants = nothing

-- of no grants all of the target is free
pub moved-nothing : (m : Text) (set : Partitions) → moved nothing m set ≡ granting nothing m (in_order set)
unfolding moved
moved-nothing m set =
    (λ i. granting (retain_keys-empty grant_cmp_total grant_cmp-IsAntisymmetric (λ g. not (eq_by_cmp text_cmp m g.0)) i) m
    (filter_all (λ p. has no_grants (m, p) || is_free_for no_grants m p) (λ p. either _ _ (free m p)) (in_order set) i))

itself : (b : Bool) → (b && b) ≡ b
itself true = refl
itself false = refl

pub common-itself : (set : Partitions) → common set set ≡ set
common-itself set =
    same_set partition_cmp_total partition_cmp-IsAntisymmetric _ _ (λ q. has-common partition_cmp_total set set q ∙ itself (has set q))
