-- What members hold, by the pairs of the grants.
use Rattle.std.proofs.Common.{◌≡◌, Bool, true, false, cond, not, ◌&&◌, ◌||◌, List, [], ◌∷◌, map, refl, sym, ap, ◌∙◌, Option, None, is_some, IsTrue, true≢false}
use Rattle.std.specs.declared.cmp.Ordering.{Ordering}
use Rattle.std.specs.declared.cmp.Ordering.TheVariants.{Less, Equal, Greater}
use Rattle.std.specs.List.{list_any, filter}
use Rattle.std.specs.Ordering.{eq_by_cmp, is_eq, ordering_then}
use Rattle.std.specs.Cmp.{IsTotalOrder, Equal-is, eq_by_cmp_equiv, on_total, then_total}
use Rattle.std.specs.FinMap.{IsAntisymmetric}
use Rattle.std.specs.FinMap as finite
use Rattle.std.proofs.lemmas.Map.Lookups.{exact_pairs}
use Rattle.std.proofs.lemmas.Map.Made.{is_member-filter}
use Rattle.group_types.specs.declared.partition.Partition.{Partition}
use Rattle.group_types.specs.Text.{Text, text_cmp}
use Rattle.group_types.specs.Sets.{has, in_order}
use Rattle.group_types.specs.Partition.{partition_cmp, Partitions}
use Rattle.group_types.specs.Group.{Grant, Grants, grant_cmp, held}
use Rattle.group_types.specs.Settle.{granting, grants_of_others, moved, is_free_for}
use Rattle.group_types.proofs.Orders.{text_cmp_total, text_cmp-IsAntisymmetric, partition_cmp_total, partition_cmp-IsAntisymmetric}
use Rattle.group_types.proofs.SetLemmas.{has-with_one, has-of_list, has-in_order}
use Rattle.group_types.proofs.Lookups.{Tie, ties, differs, tie}

pub grant_cmp_total : IsTotalOrder grant_cmp
grant_cmp_total = then_total (on_total (λ g. g.0) text_cmp_total) (on_total (λ g. g.1) partition_cmp_total)

pub grant_cmp-IsAntisymmetric : IsAntisymmetric grant_cmp
grant_cmp-IsAntisymmetric g h tie = exact_pairs text_cmp partition_cmp text_cmp-IsAntisymmetric partition_cmp-IsAntisymmetric g h tie

pub both_equal : (a b : Ordering) → is_eq (ordering_then a b) ≡ (is_eq a && is_eq b)
both_equal Less b = refl
both_equal Equal b = refl
both_equal Greater b = refl

pub eq-grant : (m n : Text) (p q : Partition) → eq_by_cmp grant_cmp (m, p) (n, q) ≡ (eq_by_cmp text_cmp m n && eq_by_cmp partition_cmp p q)
eq-grant m n p q = both_equal (text_cmp m n) (partition_cmp p q)

picked : (b c d : Bool) → (b && c) || d ≡ cond b (c || d) d
picked true c d = refl
picked false c d = refl

any-held : (m : Text) (q : Partition) (gs : List Grant) → list_any (eq_by_cmp partition_cmp q) (map (λ g. g.1) (filter (λ g. eq_by_cmp text_cmp m g.0) gs)) ≡ list_any (eq_by_cmp grant_cmp (m, q)) gs
any-held m q [] = refl
any-held m q (g ∷ gs) =
    any_cons (eq_by_cmp text_cmp m g.0) g.1 _
    ∙ ap (λ rest. cond (eq_by_cmp text_cmp m g.0) (eq_by_cmp partition_cmp q g.1 || rest) rest) (any-held m q gs)
    ∙ sym (picked (eq_by_cmp text_cmp m g.0) (eq_by_cmp partition_cmp q g.1) _)
    ∙ ap (λ b. b || list_any (eq_by_cmp grant_cmp (m, q)) gs) (sym (eq-grant m g.0 q g.1))
  where
    any_cons : (b : Bool) (p : Partition) (rest : List Grant) → list_any (eq_by_cmp partition_cmp q) (map (λ g. g.1) (cond b (g ∷ rest) rest)) ≡ cond b (eq_by_cmp partition_cmp q g.1 || list_any (eq_by_cmp partition_cmp q) (map (λ g. g.1) rest)) (list_any (eq_by_cmp partition_cmp q) (map (λ g. g.1) rest))
    any_cons true p rest = refl
    any_cons false p rest = refl

-- a member holds what it is granted
pub has-held : (grants : Grants) (m : Text) (q : Partition) → has (held grants m) q ≡ has grants (m, q)
has-held grants m q =
    has-of_list partition_cmp_total (map (λ g. g.1) (filter (λ g. eq_by_cmp text_cmp m g.0) (in_order grants))) q
    ∙ any-held m q (in_order grants)
    ∙ sym (has-in_order grants (m, q))

regroup : (a b c d : Bool) → ((a && b) || ((a && c) || d)) ≡ ((a && (b || c)) || d)
regroup true true c d = refl
regroup true false c d = refl
regroup false b c d = refl

-- a member has what it is granted beside what it had
pub has-granting : (grants : Grants) (m : Text) (ps : List Partition) (x : Text) (q : Partition)
    → has (granting grants m ps) (x, q) ≡ ((eq_by_cmp text_cmp x m && list_any (eq_by_cmp partition_cmp q) ps) || has grants (x, q))
has-granting grants m [] x q = sym (ap (λ b. b || has grants (x, q)) (neither (eq_by_cmp text_cmp x m)))
  where
    neither : (b : Bool) → (b && false) ≡ false
    neither true = refl
    neither false = refl
has-granting grants m (p ∷ ps) x q =
    has-with_one grant_cmp_total (granting grants m ps) (m, p) (x, q)
    ∙ (λ i. eq-grant x m q p i || has-granting grants m ps x q i)
    ∙ regroup (eq_by_cmp text_cmp x m) (eq_by_cmp partition_cmp q p) (list_any (eq_by_cmp partition_cmp q) ps) (has grants (x, q))

kept : (b : Bool) (o : Option (Unit {0})) → is_some (cond b o None) ≡ (b && is_some o)
kept true o = refl
kept false o = refl

-- the others hold what they held
pub has-others : (grants : Grants) (m x : Text) (q : Partition)
    → has (grants_of_others grants m) (x, q) ≡ (not (eq_by_cmp text_cmp m x) && has grants (x, q))
has-others grants m x q =
    ap is_some (finite.get-retain_keys grants (λ g. not (eq_by_cmp text_cmp m g.0)) (x, q) (λ y tie. ap (λ (g : Grant). not (eq_by_cmp text_cmp m g.0)) (sym (grant_cmp-IsAntisymmetric (x, q) y tie))))
    ∙ kept (not (eq_by_cmp text_cmp m x)) (finite.get grants (x, q))

settled_bool : (same mine wanted may theirs : Bool) → ((same && (wanted && may)) || (not same && theirs)) ≡ cond same (wanted && may) theirs
settled_bool true mine true true theirs = refl
settled_bool true mine true false theirs = refl
settled_bool true mine false may theirs = refl
settled_bool false mine wanted may theirs = refl

-- what is granted once a member is settled
pub has-moved : (grants : Grants) (m : Text) (target : Partitions) (x : Text) (q : Partition)
    → has (moved grants m target) (x, q)
    ≡ cond (eq_by_cmp text_cmp x m) (has target q && (has grants (m, q) || is_free_for grants m q)) (has grants (x, q))
unfolding moved
has-moved grants m target x q =
    let test = λ (p : Partition). has grants (m, p) || is_free_for grants m p in
    let listed : list_any (eq_by_cmp partition_cmp q) (filter test (in_order target)) ≡ (has target q && test q) =
    is_member-filter (eq_by_cmp_equiv partition_cmp_total) test q (λ y tie. ap test (partition_cmp-IsAntisymmetric q y ((Equal-is (partition_cmp q y)).0 tie))) (in_order target)
    ∙ ap (λ b. b && test q) (sym (has-in_order target q)) in
    has-granting (grants_of_others grants m) m (filter test (in_order target)) x q
    ∙ (λ i. (eq_by_cmp text_cmp x m && listed i) || has-others grants m x q i)
    ∙ ap (λ b. (eq_by_cmp text_cmp x m && (has target q && test q)) || (not b && has grants (x, q))) ((eq_by_cmp_equiv text_cmp_total).symm m x)
    ∙ settled_bool (eq_by_cmp text_cmp x m) (has grants (m, q)) (has target q) (test q) (has grants (x, q))

-- ---- a partition that is free

-- a test of pairs is met by some where a pair meets it
met : (f : Grant → Bool) (k : Grant) (ks : List Grant) → f k ≡ true → list_any (eq_by_cmp grant_cmp k) ks ≡ true → list_any f ks ≡ true
met f k [] so there = there
met f k (g ∷ ks) so there = at (met f k ks so) (eq_by_cmp grant_cmp k g) refl there
  where
    either : (b : Bool) → (b || true) ≡ true
    either true = refl
    either false = refl

    at : (list_any (eq_by_cmp grant_cmp k) ks ≡ true → list_any f ks ≡ true) → (t : Bool) → eq_by_cmp grant_cmp k g ≡ t → (t || list_any (eq_by_cmp grant_cmp k) ks) ≡ true → (f g || list_any f ks) ≡ true
    at rest true same there = ap (λ b. b || list_any f ks) (ap f (sym (grant_cmp-IsAntisymmetric k g ((Equal-is (grant_cmp k g)).0 same))) ∙ so)
    at rest false same there = ap (λ b. f g || b) (rest there) ∙ either (f g)

-- who holds a free partition is the member itself
pub free_is : (grants : Grants) (m : Text) (p : Partition) → is_free_for grants m p ≡ true → (n : Text) → IsTrue (has grants (n, p)) → n ≡ m
free_is grants m p free n holds = by (tie m n)
  where
    by : Tie m n → n ≡ m
    by (ties same) = sym same
    by (differs other apart) =
        let meets : (eq_by_cmp partition_cmp p p && not (eq_by_cmp text_cmp m n)) ≡ true = (λ i. (eq_by_cmp_equiv partition_cmp_total).refl p i && not (apart i)) in
        let taken : list_any (λ (g : Grant). eq_by_cmp partition_cmp p g.1 && not (eq_by_cmp text_cmp m g.0)) (in_order grants) ≡ true =
        met (λ (g : Grant). eq_by_cmp partition_cmp p g.1 && not (eq_by_cmp text_cmp m g.0)) (n, p) (in_order grants) meets (sym (has-in_order grants (n, p)) ∙ holds) in
        absurd (true≢false (sym free ∙ ap not taken))
