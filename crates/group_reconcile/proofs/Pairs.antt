-- The pairs of holders, before and after a settling.
use Rattle.std.proofs.Common.{ℕ, ◌≡◌, Bool, true, false, cond, not, ◌&&◌, ◌||◌, List, [], ◌∷◌, map, refl, sym, ap, ◌∙◌, Option, Some, None, is_some}
use Rattle.std.specs.List.{list_any}
use Rattle.std.specs.Option.{option_map_or}
use Rattle.std.specs.Ordering.{eq_by_cmp}
use Rattle.std.specs.Cmp.{Equal-is, eq_by_cmp_equiv}
use Rattle.std.specs.FinMap as finite
use Rattle.group_types.specs.declared.partition.Partition.{Partition}
use Rattle.group_types.specs.Text.{Text, text_cmp}
use Rattle.group_types.specs.Sets.{has, in_order}
use Rattle.group_types.specs.Partition.{partition_cmp, Partitions}
use Rattle.group_types.specs.Group.{Grant, grant_cmp, held}
use Rattle.group_types.specs.Settle.{grants_of_others, moved, is_free_for}
use Rattle.group_types.proofs.Orders.{text_cmp_total, text_cmp-IsAntisymmetric, partition_cmp_total, partition_cmp-IsAntisymmetric}
use Rattle.group_types.proofs.GrantLemmas.{grant_cmp_total, grant_cmp-IsAntisymmetric, eq-grant, has-held, has-moved, has-others}
use Rattle.group_types.proofs.SetLemmas.{has-of_list, has-in_order, same_set}
use Rattle.group_reconcile.proofs.Tests.{met, unmet}
use Rattle.group_reconcile.specs.Holders.{Held, Holders, holds, may_hold, holder_at, pairs, settled_holder, Settles, other_holder, LetsGo}
use Rattle.group_reconcile.proofs.Bools.{and_false, and_true}

same_id : (x y : Text) → eq_by_cmp text_cmp x y ≡ true → x ≡ y
same_id x y so = text_cmp-IsAntisymmetric x y ((Equal-is (text_cmp x y)).0 so)

same_partition : (p q : Partition) → eq_by_cmp partition_cmp p q ≡ true → p ≡ q
same_partition p q so = partition_cmp-IsAntisymmetric p q ((Equal-is (partition_cmp p q)).0 so)

-- among keys, one that ties with q passes a test of which q is sure
any-keyed : (f : Partition → Bool) (q : Partition) (ks : List Partition)
    → list_any (λ p. f p && eq_by_cmp partition_cmp q p) ks ≡ (f q && list_any (eq_by_cmp partition_cmp q) ks)
any-keyed f q [] = sym (and_false (f q))
any-keyed f q (p ∷ ks) =
    ap (λ b. (f p && eq_by_cmp partition_cmp q p) || b) (any-keyed f q ks)
    ∙ join (f p) (f q) (eq_by_cmp partition_cmp q p) (list_any (eq_by_cmp partition_cmp q) ks) (λ so. ap f (sym (same_partition q p so)))
  where
    join : (a b t rest : Bool) → (t ≡ true → a ≡ b) → ((a && t) || (b && rest)) ≡ (b && (t || rest))
    join true true t rest is = refl
    join false false t rest is = refl
    join true false true rest is = is refl
    join true false false rest is = refl
    join false true true rest is = absurd_bool (is refl)
      where
        absurd_bool : false ≡ true → rest ≡ true
        absurd_bool e = cc
    join false true false rest is = refl

any-map : (x : Text) (q : Partition) (h : Holders) (ks : List Partition)
    → list_any (eq_by_cmp grant_cmp (x, q)) (map (λ p. (holder_at h p, p)) ks)
    ≡ list_any (λ p. eq_by_cmp text_cmp x (holder_at h p) && eq_by_cmp partition_cmp q p) ks
any-map x q h [] = refl
any-map x q h (p ∷ ks) = λ i. eq-grant x (holder_at h p) q p i || any-map x q h ks i

by_holder : (x : Text) (o : Option Held) → (eq_by_cmp text_cmp x (option_map_or (λ d. d.member) o []) && is_some o) ≡ option_map_or (λ d. eq_by_cmp text_cmp x d.member) o false
by_holder x None = and_false _
by_holder x (Some d) = and_true (eq_by_cmp text_cmp x d.member)

pub has-pairs : (h : Holders) (x : Text) (q : Partition) → has (pairs h) (x, q) ≡ holds h x q
has-pairs h x q =
    has-of_list grant_cmp_total (map (λ p. (holder_at h p, p)) (finite.keys h)) (x, q)
    ∙ any-map x q h (finite.keys h)
    ∙ any-keyed (λ p. eq_by_cmp text_cmp x (holder_at h p)) q (finite.keys h)
    ∙ ap (λ b. eq_by_cmp text_cmp x (holder_at h q) && b) (sym (finite.contains_key-keys h q))
    ∙ by_holder x (finite.get h q)

-- the member's set in the pairs is what it holds
pub has-held_pairs : (h : Holders) (x : Text) (q : Partition) → has (held (pairs h) x) q ≡ holds h x q
has-held_pairs h x q = has-held (pairs h) x q ∙ has-pairs h x q

-- ---- whether a partition is free for a member

module _ (h : Holders) (m : Text) (p : Partition) where
  abbrev held_by_another : Grant → Bool
  held_by_another g = eq_by_cmp partition_cmp p g.1 && not (eq_by_cmp text_cmp m g.0)

  listed : (k : Grant) → list_any (eq_by_cmp grant_cmp k) (in_order (pairs h)) ≡ holds h k.0 k.1
  listed k = sym (has-in_order (pairs h) k) ∙ has-pairs h k.0 k.1

  other : (o : Option Held) → finite.get h p ≡ o → list_any held_by_another (in_order (pairs h)) ≡ not (option_map_or (λ d. eq_by_cmp text_cmp m d.member) o true)
  other None is = unmet grant_cmp_total grant_cmp-IsAntisymmetric held_by_another (in_order (pairs h)) (λ k there. at k (eq_by_cmp partition_cmp p k.1) refl (sym (listed k) ∙ there))
    where
      at : (k : Grant) (t : Bool) → eq_by_cmp partition_cmp p k.1 ≡ t → holds h k.0 k.1 ≡ true → (t && not (eq_by_cmp text_cmp m k.0)) ≡ false
      at k true same so =
          let held : option_map_or (λ (d : Held). eq_by_cmp text_cmp k.0 d.member) None false ≡ true = ap (λ o. option_map_or (λ d. eq_by_cmp text_cmp k.0 d.member) o false) (sym is) ∙ ap (holds h k.0) (same_partition p k.1 same) ∙ so in
          cc
      at k false same so = refl
  other (Some d) is = at (eq_by_cmp text_cmp m d.member) refl
    where
      mine : (k : Grant) → eq_by_cmp partition_cmp p k.1 ≡ true → holds h k.0 k.1 ≡ true → k.0 ≡ d.member
      mine k same so = same_id k.0 d.member (ap (λ o. option_map_or (λ d. eq_by_cmp text_cmp k.0 d.member) o false) (sym is) ∙ ap (holds h k.0) (same_partition p k.1 same) ∙ so)

      blocked : (k : Grant) (t : Bool) → eq_by_cmp partition_cmp p k.1 ≡ t → holds h k.0 k.1 ≡ true → eq_by_cmp text_cmp m d.member ≡ true → (t && not (eq_by_cmp text_cmp m k.0)) ≡ false
      blocked k true same so is_m = ap (λ x. not (eq_by_cmp text_cmp m x)) (mine k same so) ∙ ap not is_m
      blocked k false same so is_m = refl

      at : (b : Bool) → eq_by_cmp text_cmp m d.member ≡ b → list_any held_by_another (in_order (pairs h)) ≡ not b
      at true is_m = unmet grant_cmp_total grant_cmp-IsAntisymmetric held_by_another (in_order (pairs h)) (λ k there. blocked k (eq_by_cmp partition_cmp p k.1) refl (sym (listed k) ∙ there) is_m)
      at false is_m =
          met grant_cmp_total grant_cmp-IsAntisymmetric held_by_another (d.member, p) (in_order (pairs h))
          ((λ i. (eq_by_cmp_equiv partition_cmp_total).refl p i && not (is_m i)))
          (listed (d.member, p) ∙ ap (λ o. option_map_or (λ e. eq_by_cmp text_cmp d.member e.member) o false) is ∙ (eq_by_cmp_equiv text_cmp_total).refl d.member)

  twice : (b : Bool) → not (not b) ≡ b
  twice true = refl
  twice false = refl

  pub free-pairs : is_free_for (pairs h) m p ≡ may_hold h m p
  free-pairs = ap not (other (finite.get h p) refl) ∙ twice (may_hold h m p)

-- ---- a settling

module _ (m x : Text) (epoch : ℕ) where
  -- whether the member x holds a partition that a settling of m was about
  after : (wanted : Bool) (o : Option Held)
      → option_map_or (λ d. eq_by_cmp text_cmp x d.member) (settled_holder m epoch wanted o) false
      ≡ cond (eq_by_cmp text_cmp x m) (wanted && (option_map_or (λ d. eq_by_cmp text_cmp m d.member) o false || option_map_or (λ d. eq_by_cmp text_cmp m d.member) o true)) (option_map_or (λ d. eq_by_cmp text_cmp x d.member) o false)
  after true None = itself_or (eq_by_cmp text_cmp x m)
    where
      itself_or : (b : Bool) → b ≡ cond b true false
      itself_or true = refl
      itself_or false = refl
  after true (Some d) = at (eq_by_cmp text_cmp x m) (eq_by_cmp text_cmp m d.member) (eq_by_cmp text_cmp x d.member) (λ so. ap (λ y. eq_by_cmp text_cmp y d.member) (same_id x m so))
    where
      at : (a b c : Bool) → (a ≡ true → c ≡ b) → c ≡ cond a (true && (b || b)) c
      at true true c is = is refl
      at true false c is = is refl
      at false b c is = refl
  after false None = neither (eq_by_cmp text_cmp x m)
    where
      neither : (b : Bool) → false ≡ cond b false false
      neither true = refl
      neither false = refl
  after false (Some d) =
      elim (eq_by_cmp text_cmp m d.member) as (λ b. eq_by_cmp text_cmp m d.member ≡ b → option_map_or (λ d. eq_by_cmp text_cmp x d.member) (cond b None (Some d)) false ≡ cond (eq_by_cmp text_cmp x m) false (eq_by_cmp text_cmp x d.member)) [
        | true ↦ λ mine. gone (eq_by_cmp text_cmp x m) (eq_by_cmp text_cmp x d.member) (λ so. ap (λ y. eq_by_cmp text_cmp y m) (same_id x d.member so ∙ sym (same_id m d.member mine)) ∙ (eq_by_cmp_equiv text_cmp_total).refl m)
        | false ↦ λ theirs. stays (eq_by_cmp text_cmp x m) (eq_by_cmp text_cmp x d.member) (λ so. ap (λ y. eq_by_cmp text_cmp y d.member) (same_id x m so) ∙ theirs)
      ] refl
    where
      gone : (a c : Bool) → (c ≡ true → a ≡ true) → false ≡ cond a false c
      gone true c is = refl
      gone false true is = is refl
      gone false false is = refl

      stays : (a c : Bool) → (a ≡ true → c ≡ false) → c ≡ cond a false c
      stays true c is = is refl
      stays false c is = refl

pub pairs_move : (h n : Holders) (m : Text) (target : Partitions) (epoch : ℕ) → Settles h m target epoch n → pairs n ≡ moved (pairs h) m target
pairs_move h n m target epoch settles =
    same_set grant_cmp_total grant_cmp-IsAntisymmetric _ _
    (λ k. has-pairs n k.0 k.1
    ∙ ap (λ o. option_map_or (λ d. eq_by_cmp text_cmp k.0 d.member) o false) (settles k.1)
    ∙ after m k.0 epoch (has target k.1) (finite.get h k.1)
    ∙ (λ i. cond (eq_by_cmp text_cmp k.0 m) (has target k.1 && (sym (has-pairs h m k.1) i || sym (free-pairs h m k.1) i)) (sym (has-pairs h k.0 k.1) i))
    ∙ sym (has-moved (pairs h) m target k.0 k.1))

-- ---- a member that holds nothing any more

gone_or_kept : (m x : Text) (o : Option Held)
    → option_map_or (λ d. eq_by_cmp text_cmp x d.member) (other_holder m o) false ≡ (not (eq_by_cmp text_cmp m x) && option_map_or (λ d. eq_by_cmp text_cmp x d.member) o false)
gone_or_kept m x None = sym (and_false (not (eq_by_cmp text_cmp m x)))
gone_or_kept m x (Some d) =
    elim (eq_by_cmp text_cmp m d.member) as (λ b. eq_by_cmp text_cmp m d.member ≡ b → option_map_or (λ d. eq_by_cmp text_cmp x d.member) (cond b None (Some d)) false ≡ (not (eq_by_cmp text_cmp m x) && eq_by_cmp text_cmp x d.member)) [
      | true ↦ λ mine. gone (eq_by_cmp text_cmp m x) (eq_by_cmp text_cmp x d.member) (λ so. ap (eq_by_cmp text_cmp m) (same_id x d.member so) ∙ mine)
      | false ↦ λ theirs. kept (eq_by_cmp text_cmp m x) (eq_by_cmp text_cmp x d.member) (λ so. ap (eq_by_cmp text_cmp m) (same_id x d.member so) ∙ theirs)
    ] refl
  where
    gone : (e c : Bool) → (c ≡ true → e ≡ true) → false ≡ (not e && c)
    gone true c is = refl
    gone false true is = is refl
    gone false false is = refl

    kept : (e c : Bool) → (c ≡ true → e ≡ false) → c ≡ (not e && c)
    kept true true is = is refl
    kept true false is = refl
    kept false c is = refl

pub pairs_let_go : (h n : Holders) (m : Text) → LetsGo h m n → pairs n ≡ grants_of_others (pairs h) m
pairs_let_go h n m lets =
    same_set grant_cmp_total grant_cmp-IsAntisymmetric _ _
    (λ k. has-pairs n k.0 k.1
    ∙ ap (λ o. option_map_or (λ d. eq_by_cmp text_cmp k.0 d.member) o false) (lets k.1)
    ∙ gone_or_kept m k.0 (finite.get h k.1)
    ∙ ap (λ b. not (eq_by_cmp text_cmp m k.0) && b) (sym (has-pairs h k.0 k.1))
    ∙ sym (has-others (pairs h) m k.0 k.1))
