-- Member order is a total order.
use Rattle.std.proofs.Common.{◌≡◌, ◌+◌, ◌<◌, ℕ, List, [], ◌∷◌, map, length, get_or, refl, ap, subst, ◌∙◌, arith, Option, Some, None}
use Rattle.std.specs.declared.cmp.Ordering.{Ordering}
use Rattle.std.specs.declared.cmp.Ordering.TheVariants.{Less, Equal, Greater}
use Rattle.std.specs.Ordering.{is_lt, ordering_then, ordering_reverse}
use Rattle.std.specs.List.Sorted.{IsSorted, IsSortedBy}
use Rattle.std.proofs.lemmas.List.{get_or_default, get_or-map}
use Rattle.std.proofs.Math.ListN.{length-map}
use Rattle.std.specs.Cmp.{IsTotalOrder, on_total, then_total}
use Rattle.group_types.specs.Text.{Text, text_cmp}
use Rattle.group_types.specs.Assignors.{Subscriber, instance_cmp, member_cmp}
use Rattle.group_types.proofs.Orders.{text_cmp_total}

-- by the instances alone
abbrev static_cmp : Option Text → Option Text → Ordering
static_cmp (Some a) (Some b) = text_cmp a b
static_cmp (Some a) None = Less
static_cmp None (Some b) = Greater
static_cmp None None = Equal

static_cmp_total : IsTotalOrder static_cmp
static_cmp_total = record { antisymm = antisymm; trans = trans; congr = congr }
  where
    antisymm : (x y : Option Text) → static_cmp x y ≡ ordering_reverse (static_cmp y x)
    antisymm (Some a) (Some b) = text_cmp_total.antisymm a b
    antisymm (Some a) None = refl
    antisymm None (Some b) = refl
    antisymm None None = refl

    trans : (x y z : Option Text) → static_cmp x y ≡ Less → static_cmp y z ≡ Less → static_cmp x z ≡ Less
    trans (Some a) (Some b) (Some c) p q = text_cmp_total.trans a b c p q
    trans (Some a) (Some b) None p q = refl
    trans (Some a) None (Some c) p q = cc
    trans (Some a) None None p q = refl
    trans None (Some b) z p q = cc
    trans None None z p q = cc

    congr : (x y z : Option Text) → static_cmp x y ≡ Equal → static_cmp x z ≡ static_cmp y z
    congr (Some a) (Some b) (Some c) p = text_cmp_total.congr a b c p
    congr (Some a) (Some b) None p = refl
    congr (Some a) None z p = cc
    congr None (Some b) z p = cc
    congr None None z p = refl

instance_cmp-is : (a b : Option Text) (rest : Ordering) → ordering_then (static_cmp a b) rest ≡ instance_cmp a b rest
instance_cmp-is (Some a) (Some b) rest = refl
instance_cmp-is (Some a) None rest = refl
instance_cmp-is None (Some b) rest = refl
instance_cmp-is None None rest = refl

pub member_cmp_total : IsTotalOrder member_cmp
member_cmp_total =
    subst IsTotalOrder
    (λ i m n. instance_cmp-is m.instance n.instance (text_cmp m.id n.id) i)
    (then_total (on_total (λ (m : Subscriber). m.instance) static_cmp_total) (on_total (λ (m : Subscriber). m.id) text_cmp_total))

-- a list that is in order by what f shows of its elements shows a list in order
pub IsSorted-map : {A B : Type 0} (f : A → B) (R : B → B → Ordering) (xs : List A) → IsSortedBy (λ x y. is_lt (R (f x) (f y))) xs → IsSorted R (map f xs)
IsSorted-map f R [] sorted = λ k d low high. absurd (omega arith)
IsSorted-map f R (x ∷ xs) sorted = λ k d low high.
    let long = length-map (x ∷ xs) f in
    let here : (n : ℕ) → n < length (x ∷ xs) → get_or (map f (x ∷ xs)) n d ≡ f (get_or (x ∷ xs) n x) =
    λ n within. get_or_default (map f (x ∷ xs)) n d (f x) (omega arith) ∙ get_or-map f (x ∷ xs) n x (f x) within in
    ap is_lt (λ i. R (here (k + 1) (omega arith) i) (here k (omega arith) i)) ∙ sorted k x low (omega arith)
