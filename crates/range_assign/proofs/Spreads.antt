-- Who owns a partition in the spread of a list of shares.
use Rattle.std.proofs.Common.{◌≡◌, ◌≢◌, zero, suc, ◌<◌, Bool, true, false, cond, ◌||◌, List, [], ◌∷◌, ◌++◌, map, length, get_or, refl, sym, ap, subst, ◌∙◌, arith, inl, inr, Option, Some, None, true≢false}
use Rattle.std.specs.List.{AllPairs, Contains, list_any}
use Rattle.std.specs.List.Sorted.{IsPermutation}
use Rattle.std.specs.Ordering.{eq_by_cmp}
use Rattle.std.specs.FinMap as finite
use Rattle.std.specs.FinMap.{find}
use Rattle.std.proofs.lemmas.Bool.{cases_order}
use Rattle.std.proofs.lemmas.List.{get_or_default}
use Rattle.std.proofs.lemmas.List.Sorted.{Contains-permutation, IsPermutation-sym}
use Rattle.std.proofs.lemmas.Option.{same_Some}
use Rattle.group_types.specs.declared.partition.Partition.{Partition}
use Rattle.group_types.specs.Text.{Text}
use Rattle.group_types.specs.Sets.{nothing, has, common, in_order}
use Rattle.group_types.specs.Partition.{partition_cmp, Partitions}
use Rattle.group_types.specs.Owners.{IsShare}
use Rattle.group_types.proofs.Orders.{partition_cmp_total, partition_cmp-IsAntisymmetric}
use Rattle.group_types.proofs.SetLemmas.{apart_of_common, common-nothing, has-in_order}
use Rattle.range_assign.specs.Shares.{AreShares, owned_in, spread_of}
use Rattle.range_assign.proofs.Apart.{AllPairs-permutation, at_two}

-- the id of the first share that has the partition
abbrev pub owner_in : List (Text × Partitions) → Partition → Option Text
owner_in [] p = None
owner_in (s ∷ ss) p = cond (has s.1 p) (Some s.0) (owner_in ss p)

find-owned : (id : Text) (ks : List Partition) (rest : List (Partition × Text)) (q : Partition)
    → find partition_cmp q (map (λ k. (k, id)) ks ++ rest) ≡ cond (list_any (eq_by_cmp partition_cmp q) ks) (Some id) (find partition_cmp q rest)
find-owned id [] rest q = refl
find-owned id (k ∷ ks) rest q =
    elim (eq_by_cmp partition_cmp q k) as (λ b. cond b (Some id) (find partition_cmp q (map (λ k. (k, id)) ks ++ rest)) ≡ cond (b || list_any (eq_by_cmp partition_cmp q) ks) (Some id) (find partition_cmp q rest)) [
      | true ↦ refl
      | false ↦ find-owned id ks rest q
    ]

find-owned_in : (shares : List (Text × Partitions)) (q : Partition) → find partition_cmp q (owned_in shares) ≡ owner_in shares q
find-owned_in [] q = refl
find-owned_in (s ∷ ss) q =
    find-owned s.0 (in_order s.1) (owned_in ss) q
    ∙ (λ i. cond (sym (has-in_order s.1 q) i) (Some s.0) (find-owned_in ss q i))

pub get-spread_of : (shares : List (Text × Partitions)) (q : Partition) → finite.get (spread_of shares) q ≡ owner_in shares q
get-spread_of shares q = finite.get-from_entries partition_cmp_total (owned_in shares) q ∙ find-owned_in shares q

-- ---- the owner's share

pub Contains-cons : {X : Type 0} (x : X) (xs : List X) (y : X) → Contains xs y → Contains (x ∷ xs) y
Contains-cons x xs y there = (suc there.0, let within = there.1 in omega arith, there.2)

pub Contains-head : {X : Type 0} (x : X) (xs : List X) → Contains (x ∷ xs) x
Contains-head x xs = (0, omega arith, refl)

pub Contains-cases : {X P : Type 0} (x : X) (xs : List X) (y : X) → (x ≡ y → P) → (Contains xs y → P) → Contains (x ∷ xs) y → P
Contains-cases {X} {P} x xs y first later (k, within, is) =
    elim k as (λ k. k < length (x ∷ xs) → get_or (x ∷ xs) k y ≡ y → P) [
      | zero ↦ λ within is. first is
      | suc k ↦ λ within is. later (k, omega arith, is)
    ] within is

pub owner_in-has : (shares : List (Text × Partitions)) (p : Partition) (id : Text) → owner_in shares p ≡ Some id
    → (s : Text × Partitions) × Contains shares s × (s.0 ≡ id) × (has s.1 p ≡ true)
owner_in-has [] p id is = cc
owner_in-has (s ∷ ss) p id is =
    elim (has s.1 p) as (λ b. has s.1 p ≡ b → cond b (Some s.0) (owner_in ss p) ≡ Some id → (t : Text × Partitions) × Contains (s ∷ ss) t × (t.0 ≡ id) × (has t.1 p ≡ true)) [
      | true ↦ λ there same. (s, Contains-head s ss, same_Some _ _ same, there)
      | false ↦ λ away same.
          let later = owner_in-has ss p id same in
          (later.0, Contains-cons s ss later.0 later.1, later.2, later.3)
    ] refl is

-- shares that have the partition are of one member
abbrev OneOwner : List (Text × Partitions) → Partition → Type 0
OneOwner shares p = (s t : Text × Partitions) → Contains shares s → Contains shares t → has s.1 p ≡ true → has t.1 p ≡ true → s.0 ≡ t.0

owner_in-of : (shares : List (Text × Partitions)) (p : Partition) → OneOwner shares p → (s : Text × Partitions) → Contains shares s → has s.1 p ≡ true → owner_in shares p ≡ Some s.0
owner_in-of [] p one s (k, within, is) there = absurd (omega arith)
owner_in-of (x ∷ xs) p one s among there =
    elim (has x.1 p) as (λ b. has x.1 p ≡ b → cond b (Some x.0) (owner_in xs p) ≡ Some s.0) [
      | true ↦ λ here. ap Some (one x s (Contains-head x xs) among here there)
      | false ↦ λ away.
          Contains-cases x xs s
          (λ same. absurd (true≢false (sym there ∙ ap (λ t. has t.1 p) (sym same) ∙ away)))
          (λ later. owner_in-of xs p (λ t u in_t in_u. one t u (Contains-cons x xs t in_t) (Contains-cons x xs u in_u)) s later there)
          among
    ] refl

abbrev pub ShareNothing : Text × Partitions → Text × Partitions → Type 0
ShareNothing s t = common s.1 t.1 ≡ nothing

abbrev pub HaveTwoIds : Text × Partitions → Text × Partitions → Type 0
HaveTwoIds s t = s.0 ≢ t.0

common-turned : (s t : Partitions) → common s t ≡ nothing → common t s ≡ nothing
common-turned s t none =
    common-nothing partition_cmp_total partition_cmp-IsAntisymmetric t s (λ q there. other_away (has s q) (has t q) (λ here. apart_of_common partition_cmp_total partition_cmp-IsAntisymmetric s t none q here) there)
  where
    other_away : (a b : Bool) → (a ≡ true → b ≡ false) → b ≡ true → a ≡ false
    other_away true b away there = absurd (true≢false (sym there ∙ away refl))
    other_away false b away there = refl

pub ShareNothing-turned : (s t : Text × Partitions) → ShareNothing s t → ShareNothing t s
ShareNothing-turned s t none = common-turned s.1 t.1 none

pub HaveTwoIds-turned : (s t : Text × Partitions) → HaveTwoIds s t → HaveTwoIds t s
HaveTwoIds-turned s t apart = λ same. apart (sym same)

pub AreShares-permutation : (shares others : List (Text × Partitions)) → IsPermutation shares others → AreShares shares → AreShares others
AreShares-permutation shares others moves are = record {
  ids_apart = AllPairs-permutation HaveTwoIds HaveTwoIds-turned shares others moves are.ids_apart;
  sets_apart = AllPairs-permutation ShareNothing ShareNothing-turned shares others moves are.sets_apart;
}

-- what is true of two shares at two places, whose ids are equal or not
at_places : (shares : List (Text × Partitions)) {P : Type 0} (R : Text × Partitions → Text × Partitions → Type 0) → ((x y : Text × Partitions) → R x y → R y x) → AllPairs R shares
    → (s t : Text × Partitions) → Contains shares s → Contains shares t → (s ≡ t → P) → (R s t → P) → P
at_places shares {P} R turned apart s t (i, in_i, is_s) (j, in_j, is_t) one two =
    let at_j : get_or shares j s ≡ t = get_or_default shares j s t in_j ∙ is_t in
    elim (cases_order i j) [
      | inl same ↦ one (sym is_s ∙ ap (λ n. get_or shares n s) same ∙ at_j)
      | inr other ↦
          let differ : i ≡ j → ⊥ = λ same. elim other [ inl below ↦ omega arith | inr above ↦ omega arith ] in
          let here = at_two R turned shares apart i j s in_i in_j differ in
          two (subst (λ y. R s y) at_j (subst (λ x. R x (get_or shares j s)) is_s here))
    ]

OneOwner-of : (shares : List (Text × Partitions)) (p : Partition) → AllPairs ShareNothing shares → OneOwner shares p
OneOwner-of shares p apart s t in_s in_t there_s there_t =
    at_places shares ShareNothing ShareNothing-turned apart s t in_s in_t (λ same. ap (λ x. x.0) same)
    (λ none. absurd (true≢false (sym there_t ∙ apart_of_common partition_cmp_total partition_cmp-IsAntisymmetric s.1 t.1 none p there_s)))

-- ---- the order of the shares is of no account

owner_in-permutation : (shares others : List (Text × Partitions)) (p : Partition) → IsPermutation shares others → AllPairs ShareNothing shares → AllPairs ShareNothing others → owner_in shares p ≡ owner_in others p
owner_in-permutation shares others p moves apart others_apart =
    elim (owner_in shares p) as (λ o. owner_in shares p ≡ o → o ≡ owner_in others p) [
      | Some id ↦ λ is.
          let owner = owner_in-has shares p id is in
          sym (owner_in-of others p (OneOwner-of others p others_apart) owner.0 (Contains-permutation shares others owner.0 moves owner.1) owner.3 ∙ ap Some owner.2)
      | None ↦ λ none.
          elim (owner_in others p) as (λ o. owner_in others p ≡ o → None ≡ o) [
            | Some id ↦ λ is.
                let owner = owner_in-has others p id is in
                let there = owner_in-of shares p (OneOwner-of shares p apart) owner.0 (Contains-permutation others shares owner.0 (IsPermutation-sym shares others moves) owner.1) owner.3 in
                cc
            | None ↦ λ same. refl
          ] refl
    ] refl

pub spread_of-permutation : (shares others : List (Text × Partitions)) → IsPermutation shares others → AllPairs ShareNothing shares → spread_of shares ≡ spread_of others
spread_of-permutation shares others moves apart =
    finite.same_map partition_cmp_total partition_cmp-IsAntisymmetric _ _ (λ q.
    get-spread_of shares q
    ∙ owner_in-permutation shares others q moves apart (AllPairs-permutation ShareNothing ShareNothing-turned shares others moves apart)
    ∙ sym (get-spread_of others q))

-- ---- a member's share

pub IsShare-of : (shares : List (Text × Partitions)) → AreShares shares → (s : Text × Partitions) → Contains shares s → IsShare (spread_of shares) s.0 s.1
IsShare-of shares are s in_s p = (
  λ there. get-spread_of shares p ∙ owner_in-of shares p (OneOwner-of shares p are.sets_apart) s in_s there,
  λ is.
      let owner = owner_in-has shares p s.0 (sym (get-spread_of shares p) ∙ is) in
      at_places shares HaveTwoIds HaveTwoIds-turned are.ids_apart owner.0 s owner.1 in_s
      (λ same. ap (λ t. has t.1 p) (sym same) ∙ owner.3)
      (λ apart. absurd (apart owner.2)),
)

pub owns_nothing : (shares : List (Text × Partitions)) (id : Text) → ((s : Text × Partitions) → Contains shares s → s.0 ≡ id → ⊥) → (p : Partition) → finite.get (spread_of shares) p ≡ Some id → ⊥
owns_nothing shares id none p is =
    let owner = owner_in-has shares p id (sym (get-spread_of shares p) ∙ is) in
    none owner.0 owner.1 owner.2
