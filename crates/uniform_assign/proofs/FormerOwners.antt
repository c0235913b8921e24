-- The former owners, member by member.
use Rattle.std.proofs.Common.{◌≡◌, ◌↔◌, ℕ, ◌<◌, ◌+◌, Bool, true, false, cond, ◌||◌, List, ◌∷◌, refl, sym, ap, ◌∙◌, arith, inl, inr, Option, Some, None}
use Rattle.std.specs.FinMap as finite
use Rattle.std.specs.List.{list_any, slice_get}
use Rattle.std.specs.Ordering.{eq_by_cmp}
use Rattle.std.specs.Cmp.{Equal-is}
use Rattle.std.proofs.lemmas.Bool.{cases_lt}
use Rattle.std.proofs.lemmas.Option.{same_Some}
use Rattle.group_types.specs.declared.partition.Partition.{Partition}
use Rattle.group_types.specs.Sets.{has, in_order}
use Rattle.group_types.specs.Partition.{Partitions, partition_cmp}
use Rattle.group_types.specs.Assignors.{IdsAreApart, Subscriber}
use Rattle.group_types.specs.Owners.{IsShare, Spread}
use Rattle.group_types.proofs.Orders.{partition_cmp-IsAntisymmetric, partition_cmp-itself}
use Rattle.group_types.proofs.SetLemmas.{has-in_order}
use Rattle.uniform_assign.specs.Former.{IsFormerOwner}

-- ---- one share

-- an owner, and the keys that are still to be given to the member
abbrev pub with_keys : Option ℕ → List Partition → ℕ → Partition → Option ℕ
with_keys o keys m p = cond (list_any (eq_by_cmp partition_cmp p) keys) (Some m) o

pub with_keys-all : (o : Option ℕ) (set : Partitions) (m : ℕ) (p : Partition) → with_keys o (in_order set) m p ≡ cond (has set p) (Some m) o
with_keys-all o set m p = ap (λ b. cond b (Some m) o) (sym (has-in_order set p))

turned : (a b : Bool) (x y : Option ℕ) → cond b x (cond a x y) ≡ cond (a || b) x y
turned true true x y = refl
turned true false x y = refl
turned false b x y = refl

pub with_keys-next : (o new : Option ℕ) (k : Partition) (keys : List Partition) (m : ℕ) (p : Partition) → new ≡ cond (eq_by_cmp partition_cmp p k) (Some m) o → with_keys new keys m p ≡ with_keys o (k ∷ keys) m p
with_keys-next o new k keys m p is =
    ap (λ x. cond (list_any (eq_by_cmp partition_cmp p) keys) (Some m) x) is ∙ turned (eq_by_cmp partition_cmp p k) (list_any (eq_by_cmp partition_cmp p) keys) (Some m) o

-- whether two partitions are one
pub one_partition : (p q : Partition) → p ≡ q → eq_by_cmp partition_cmp p q ≡ true
one_partition p q same = (Equal-is (partition_cmp p q)).1 (ap (partition_cmp p) (sym same) ∙ partition_cmp-itself p)

pub two_partitions : (p q : Partition) → (p ≡ q → ⊥) → eq_by_cmp partition_cmp p q ≡ false
two_partitions p q apart = elim (eq_by_cmp partition_cmp p q) as (λ b. eq_by_cmp partition_cmp p q ≡ b → b ≡ false) [
  | true ↦ λ tie. absurd (apart (partition_cmp-IsAntisymmetric p q ((Equal-is (partition_cmp p q)).0 tie)))
  | false ↦ λ away. refl
] refl

-- ---- member by member

-- the former owner of the partition, if it is among the first n members
abbrev pub IsFormerTo : Spread → List Subscriber → ℕ → Partition → Option ℕ → Type 0
IsFormerTo former subs n p o = (m : ℕ) → (o ≡ Some m) ↔ ((m < n) × IsFormerOwner former subs m p)

pub IsFormerTo-none : (former : Spread) (subs : List Subscriber) (p : Partition) → IsFormerTo former subs 0 p None
IsFormerTo-none former subs p m = (λ is. cc, λ before. absurd (let low = before.0 in omega arith))

module _ (former : Spread) (subs : List Subscriber) (n : ℕ) (s : Subscriber) (here : slice_get subs n ≡ Some s) (p : Partition) (o : Option ℕ) (are : IsFormerTo former subs n p o) where
  owner-is : (m : ℕ) → m ≡ n → IsFormerOwner former subs m p → finite.get former p ≡ Some s.id
  owner-is m same owner = owner.owned ∙ ap (λ (t : Subscriber). Some t.id) (same_Some owner.member s (sym owner.is_member ∙ ap (slice_get subs) same ∙ here))

  pub IsFormerTo-skip : ¬ (finite.get former p ≡ Some s.id) → IsFormerTo former subs (n + 1) p o
  IsFormerTo-skip none m = (
    λ is. let before = (are m).0 is in (let low = before.0 in omega arith, before.1),
    λ (low, owner). elim (cases_lt m n) [
      | inl below ↦ (are m).1 (below, owner)
      | inr above ↦ absurd (none (owner-is m (omega arith) owner))
    ],
  )

  pub IsFormerTo-share : IdsAreApart subs → (set : Partitions) (new : Option ℕ) → IsShare former s.id set → new ≡ cond (has set p) (Some n) o → IsFormerTo former subs (n + 1) p new
  IsFormerTo-share apart set new share is m = (
    λ has_new. elim (has set p) as (λ b. has set p ≡ b → cond b (Some n) o ≡ Some m → (m < n + 1) × IsFormerOwner former subs m p) [
      | true ↦ λ there same.
          let equal : n ≡ m = same_Some n m same in
          (omega arith, record { member = s; is_member = ap (slice_get subs) (sym equal) ∙ here; owned = (share p).0 there })
      | false ↦ λ away same. let before = (are m).0 same in (let low = before.0 in omega arith, before.1)
    ] refl (sym is ∙ has_new),
    λ (low, owner). is ∙ (elim (has set p) as (λ b. has set p ≡ b → cond b (Some n) o ≡ Some m) [
      | true ↦ λ there.
          let ids : s.id ≡ owner.member.id = same_Some s.id owner.member.id (sym ((share p).0 there) ∙ owner.owned) in
          ap Some (apart n m s owner.member here owner.is_member ids)
      | false ↦ λ away. elim (cases_lt m n) [
        | inl below ↦ (are m).1 (below, owner)
        | inr above ↦ let there = (share p).1 (owner-is m (omega arith) owner) in cc
      ]
    ] refl),
  )
