-- Shares that are taken out, put in and given another id.
use Rattle.std.proofs.Common.{◌≡◌, ℕ, zero, suc, ◌<◌, ◌≤◌, ◌+◌, Bool, true, false, cond, not, List, [], ◌∷◌, ◌++◌, map, length, take, drop, get_or, refl, sym, ap, subst, ◌∙◌, arith, inl, inr, Option, Some, None, Ok, Err, true≢false}
use Rattle.std.specs.declared.cmp.Ordering.TheVariants.{Less}
use Rattle.std.specs.List.{AllPairs, Contains, insert, remove}
use Rattle.std.specs.List.Sorted.{IsPermutation}
use Rattle.std.specs.Option.{option_map, option_map_or}
use Rattle.std.specs.Ordering.{eq_by_cmp, ordering_reverse}
use Rattle.std.specs.Str.{bytes_eq}
use Rattle.std.specs.FinMap as finite
use Rattle.std.specs.FinMap.{find}
use Rattle.std.proofs.lemmas.Bool.{cases_order}
use Rattle.std.proofs.lemmas.List.{drop-map, map-append, take-map}
use Rattle.std.proofs.lemmas.List.Edits.{get_or-insert_above, get_or-insert_at, get_or-insert_below, length-insert}
use Rattle.std.proofs.lemmas.List.Elements.{Contains-get_or}
use Rattle.std.proofs.lemmas.List.Kept.{AllPairs-cons}
use Rattle.std.proofs.lemmas.List.Quantifiers.{all_pairs_remove}
use Rattle.std.proofs.lemmas.List.Sorted.{Contains-permutation, IsPermutation-insert, IsPermutation-map, IsPermutation-remove, IsPermutation-sym}
use Rattle.std.proofs.lemmas.Slice.Eq.{bytes_eq-Decides}
use Rattle.std.proofs.Math.ListN.{length-map}
use Rattle.group_types.specs.declared.partition.Partition.{Partition}
use Rattle.group_types.specs.Text.{Text, text_cmp}
use Rattle.group_types.specs.Sets.{has}
use Rattle.group_types.specs.Partition.{partition_cmp, Partitions}
use Rattle.group_types.specs.Owners.{Spread, owns, renamed, renamed_id, without_owner}
use Rattle.group_types.proofs.Orders.{partition_cmp-IsAntisymmetric, partition_cmp_total, text_cmp_total}
use Rattle.group_types.proofs.SetLemmas.{apart_of_common}
use Rattle.range_assign.specs.declared.spread.Share.{Share}
use Rattle.range_assign.specs.Shares.{AreInIdOrder, AreShares, HasNoShare, IdsRise, IsPlace, TakesShare, share_in, shares_in, spread_of}
use Rattle.range_assign.proofs.IdOrder.{AreShares-of_order}
use Rattle.range_assign.proofs.Spreads.{AreShares-permutation, HaveTwoIds, ShareNothing, get-spread_of, owner_in, owner_in-has, spread_of-permutation}

-- ---- the first share and the others

at_head : {X : Type 0} (R : X → X → Type 0) (x : X) (xs : List X) → AllPairs R (x ∷ xs) → (y : X) → Contains xs y → R x y
at_head R x xs all y (k, within, is) = subst (R x) is (all 0 (suc k) y (omega arith) (omega arith))

in_tail : {X : Type 0} (R : X → X → Type 0) (x : X) (xs : List X) → AllPairs R (x ∷ xs) → AllPairs R xs
in_tail R x xs all i j d rise within = all (suc i) (suc j) d (omega arith) (omega arith)

pub AreShares-tail : (x : Text × Partitions) (xs : List (Text × Partitions)) → AreShares (x ∷ xs) → AreShares xs
AreShares-tail x xs are = record { ids_apart = in_tail HaveTwoIds x xs are.ids_apart; sets_apart = in_tail ShareNothing x xs are.sets_apart }

pub HasNoShare-tail : (x : Text × Partitions) (xs : List (Text × Partitions)) → AreShares (x ∷ xs) → HasNoShare xs x.0
HasNoShare-tail x xs are s in_xs same = at_head HaveTwoIds x xs are.ids_apart s in_xs (sym same)

-- the others own none of the first one's partitions
not_of_others : (x : Text × Partitions) (xs : List (Text × Partitions)) → AreShares (x ∷ xs) → (p : Partition) → has x.1 p ≡ true → owner_in xs p ≡ None
not_of_others x xs are p there =
    elim (owner_in xs p) as (λ o. owner_in xs p ≡ o → o ≡ None) [
      | None ↦ λ is. refl
      | Some id ↦ λ is.
          let owner = owner_in-has xs p id is in
          let away = apart_of_common partition_cmp_total partition_cmp-IsAntisymmetric x.1 owner.0.1 (at_head ShareNothing x xs are.sets_apart owner.0 owner.1) p there in
          absurd (true≢false (sym owner.3 ∙ away))
    ] refl

-- an id that has no share owns nothing
none_of : (xs : List (Text × Partitions)) (id : Text) → HasNoShare xs id → (p : Partition) (other : Text) → owner_in xs p ≡ Some other → bytes_eq other id ≡ false
none_of xs id none p other is =
    elim (bytes_eq other id) as (λ b. bytes_eq other id ≡ b → b ≡ false) [
      | true ↦ λ same. let owner = owner_in-has xs p other is in absurd (none owner.0 owner.1 (owner.2 ∙ (bytes_eq-Decides other id).0 same))
      | false ↦ λ apart. refl
    ] refl

bytes_eq-itself : (id : Text) → bytes_eq id id ≡ true
bytes_eq-itself id = (bytes_eq-Decides id id).1 refl

-- ---- a member that is taken out

pub get-without_owner : (spread : Spread) (id : Text) (p : Partition) → finite.get (without_owner spread id) p ≡ cond (owns spread id p) None (finite.get spread p)
get-without_owner spread id p =
    finite.get-retain_keys spread (λ q. not (owns spread id q)) p (λ q tie. ap (λ o. not (option_map_or (λ owner. bytes_eq owner id) o false)) (finite.get_tied partition_cmp_total spread p q tie))
    ∙ turned (owns spread id p) (finite.get spread p)
  where
    turned : (b : Bool) (o : Option Text) → cond (not b) o None ≡ cond b None o
    turned true o = refl
    turned false o = refl

-- where the id owns nothing, nothing changes
pub without_owner-none : (spread : Spread) (id : Text) → ((p : Partition) → finite.get spread p ≡ Some id → ⊥) → without_owner spread id ≡ spread
without_owner-none spread id none =
    finite.same_map partition_cmp_total partition_cmp-IsAntisymmetric _ _ (λ p. get-without_owner spread id p ∙ kept p (finite.get spread p) refl)
  where
    kept : (p : Partition) (o : Option Text) → finite.get spread p ≡ o → cond (option_map_or (λ owner. bytes_eq owner id) o false) None o ≡ o
    kept p None is = refl
    kept p (Some other) is =
        elim (bytes_eq other id) as (λ b. bytes_eq other id ≡ b → cond b None (Some other) ≡ Some other) [
          | true ↦ λ same. absurd (none p (is ∙ ap Some ((bytes_eq-Decides other id).0 same)))
          | false ↦ λ apart. refl
        ] refl

owns_nothing-of_none : (xs : List (Text × Partitions)) (id : Text) → HasNoShare xs id → (p : Partition) → finite.get (spread_of xs) p ≡ Some id → ⊥
owns_nothing-of_none xs id none p is =
    let owner = owner_in-has xs p id (sym (get-spread_of xs p) ∙ is) in
    none owner.0 owner.1 owner.2

pub without_owner-spread_of : (x : Text × Partitions) (xs : List (Text × Partitions)) → AreShares (x ∷ xs) → without_owner (spread_of (x ∷ xs)) x.0 ≡ spread_of xs
without_owner-spread_of x xs are =
    finite.same_map partition_cmp_total partition_cmp-IsAntisymmetric _ _ (λ p.
    get-without_owner (spread_of (x ∷ xs)) x.0 p
    ∙ ap (λ o. cond (option_map_or (λ owner. bytes_eq owner x.0) o false) None o) (get-spread_of (x ∷ xs) p)
    ∙ elim (has x.1 p) as (λ b. has x.1 p ≡ b → cond (option_map_or (λ owner. bytes_eq owner x.0) (cond b (Some x.0) (owner_in xs p)) false) None (cond b (Some x.0) (owner_in xs p)) ≡ owner_in xs p) [
      | true ↦ λ there. ap (λ b. cond b None (Some x.0)) (bytes_eq-itself x.0) ∙ sym (not_of_others x xs are p there)
      | false ↦ λ away. other p (owner_in xs p) refl
    ] refl
    ∙ sym (get-spread_of xs p))
  where
    other : (p : Partition) (o : Option Text) → owner_in xs p ≡ o → cond (option_map_or (λ owner. bytes_eq owner x.0) o false) None o ≡ o
    other p None is = refl
    other p (Some id) is = ap (λ b. cond b None (Some id)) (none_of xs x.0 (HasNoShare-tail x xs are) p id is)

pub without_owner-taken : (old new : List (Text × Partitions)) (id : Text) (taken : Option Partitions) → AreShares old → HasNoShare new id → TakesShare old new id taken
    → spread_of new ≡ without_owner (spread_of old) id
without_owner-taken old new id None are gone same =
    ap spread_of same ∙ sym (without_owner-none (spread_of old) id (λ p is. owns_nothing-of_none new id gone p (ap (λ xs. finite.get (spread_of xs) p) same ∙ is)))
without_owner-taken old new id (Some set) are gone moves =
    sym (without_owner-spread_of (id, set) new (AreShares-permutation old ((id, set) ∷ new) moves are))
    ∙ ap (λ spread. without_owner spread id) (sym (spread_of-permutation old ((id, set) ∷ new) moves are.sets_apart))

-- ---- a member that gets another id

find-renamed : (f : Text → Text) (es : List (Partition × Text)) (p : Partition) → find partition_cmp p (map (λ e. (e.0, f e.1)) es) ≡ option_map f (find partition_cmp p es)
find-renamed f [] p = refl
find-renamed f (e ∷ es) p =
    elim (eq_by_cmp partition_cmp p e.0) as (λ b. cond b (Some (f e.1)) (find partition_cmp p (map (λ e. (e.0, f e.1)) es)) ≡ option_map f (cond b (Some e.1) (find partition_cmp p es))) [
      | true ↦ refl
      | false ↦ find-renamed f es p
    ]

pub get-renamed : (spread : Spread) (old new : Text) (p : Partition) → finite.get (renamed spread old new) p ≡ option_map (renamed_id old new) (finite.get spread p)
get-renamed spread old new p =
    finite.get-from_entries partition_cmp_total _ p
    ∙ find-renamed (renamed_id old new) (finite.entries spread) p
    ∙ ap (option_map (renamed_id old new)) (sym (finite.get-entries spread p))

other_id : (xs : List (Text × Partitions)) (old new : Text) → HasNoShare xs old → (p : Partition) (o : Option Text) → owner_in xs p ≡ o → option_map (renamed_id old new) o ≡ o
other_id xs old new none p None is = refl
other_id xs old new none p (Some id) is = ap (λ b. Some (cond b new id)) (none_of xs old none p id is)

pub renamed-none : (xs : List (Text × Partitions)) (old new : Text) → HasNoShare xs old → renamed (spread_of xs) old new ≡ spread_of xs
renamed-none xs old new none =
    finite.same_map partition_cmp_total partition_cmp-IsAntisymmetric _ _ (λ p.
    get-renamed (spread_of xs) old new p ∙ ap (option_map (renamed_id old new)) (get-spread_of xs p) ∙ other_id xs old new none p (owner_in xs p) refl ∙ sym (get-spread_of xs p))

pub renamed-spread_of : (old new : Text) (set : Partitions) (xs : List (Text × Partitions)) → AreShares ((old, set) ∷ xs) → renamed (spread_of ((old, set) ∷ xs)) old new ≡ spread_of ((new, set) ∷ xs)
renamed-spread_of old new set xs are =
    finite.same_map partition_cmp_total partition_cmp-IsAntisymmetric _ _ (λ p.
    get-renamed (spread_of ((old, set) ∷ xs)) old new p
    ∙ ap (option_map (renamed_id old new)) (get-spread_of ((old, set) ∷ xs) p)
    ∙ elim (has set p) as (λ b. has set p ≡ b → option_map (renamed_id old new) (cond b (Some old) (owner_in xs p)) ≡ cond b (Some new) (owner_in xs p)) [
      | true ↦ λ there. ap (λ b. Some (cond b new old)) (bytes_eq-itself old)
      | false ↦ λ away. other_id xs old new (HasNoShare-tail (old, set) xs are) p (owner_in xs p) refl
    ] refl
    ∙ sym (get-spread_of ((new, set) ∷ xs) p))

-- a share's id may become one that no share has
pub AreShares-renamed : (old new : Text) (set : Partitions) (xs : List (Text × Partitions)) → AreShares ((old, set) ∷ xs) → HasNoShare xs new → AreShares ((new, set) ∷ xs)
AreShares-renamed old new set xs are free = record {
  ids_apart = AllPairs-cons HaveTwoIds (new, set) xs (λ k d within same. free (get_or xs k d) (Contains-get_or xs k d within) (sym same)) (in_tail HaveTwoIds (old, set) xs are.ids_apart);
  sets_apart = AllPairs-cons ShareNothing (new, set) xs (λ k d within. at_head ShareNothing (old, set) xs are.sets_apart (get_or xs k d) (Contains-get_or xs k d within)) (in_tail ShareNothing (old, set) xs are.sets_apart);
}

-- what has no share among some has none after one was taken out
pub HasNoShare-taken : (old new : List (Text × Partitions)) (x : Text × Partitions) (id : Text) → IsPermutation old (x ∷ new) → HasNoShare old id → HasNoShare new id
HasNoShare-taken old new x id moves none s (k, within, is) =
    none s (Contains-permutation (x ∷ new) old s (IsPermutation-sym old (x ∷ new) moves) (suc k, omega arith, is))

-- ---- in id order

pub remove-shares_in : (xs : List Share) (i : ℕ) → shares_in (remove xs i) ≡ remove (shares_in xs) i
remove-shares_in xs i =
    map-append share_in (take i xs) (drop (suc i) xs) ∙ (λ k. sym (take-map share_in i xs) k ++ sym (drop-map share_in (suc i) xs) k)

pub insert-shares_in : (xs : List Share) (i : ℕ) (x : Share) → shares_in (insert xs i x) ≡ insert (shares_in xs) i (share_in x)
insert-shares_in xs i x =
    map-append share_in (take i xs) (x ∷ drop i xs) ∙ (λ k. sym (take-map share_in i xs) k ++ share_in x ∷ sym (drop-map share_in i xs) k)

pub shares_in-remove : (xs : List Share) (i : ℕ) (x : Share) → i < length xs → x ≡ get_or xs i x → IsPermutation (shares_in xs) (share_in x ∷ shares_in (remove xs i))
shares_in-remove xs i x within is = IsPermutation-map share_in xs (x ∷ remove xs i) (IsPermutation-remove xs i x within is)

pub shares_in-insert : (xs : List Share) (i : ℕ) (x : Share) → IsPermutation (share_in x ∷ shares_in xs) (shares_in (insert xs i x))
shares_in-insert xs i x = IsPermutation-map share_in (x ∷ xs) (insert xs i x) (IsPermutation-insert xs i x)

pub AreInIdOrder-remove : (xs : List Share) (i : ℕ) (x : Share) → i < length xs → x ≡ get_or xs i x → AreInIdOrder (shares_in xs) → AreInIdOrder (shares_in (remove xs i))
AreInIdOrder-remove xs i x within is order =
    let long = length-map xs share_in in
    record {
      rise = subst IdsRise (sym (remove-shares_in xs i)) (all_pairs_remove (λ s t. text_cmp s.0 t.0 ≡ Less) (shares_in xs) i (omega arith) order.rise);
      sets_apart = in_tail ShareNothing (share_in x) (shares_in (remove xs i)) (AreShares-permutation (shares_in xs) (share_in x ∷ shares_in (remove xs i)) (shares_in-remove xs i x within is) (AreShares-of_order (shares_in xs) order)).sets_apart;
    }

AllPairs-insert : {X : Type 0} (R : X → X → Type 0) (xs : List X) (i : ℕ) (y : X) → i ≤ length xs → AllPairs R xs → ((k : ℕ) (d : X) → k < i → R (get_or xs k d) y) → ((k : ℕ) (d : X) → i ≤ k → k < length xs → R y (get_or xs k d)) → AllPairs R (insert xs i y)
AllPairs-insert {X = X} R xs i y within all before after = λ a b d rise in_b.
    let long = length-insert xs i y within in
    elim (cases_order b i) [
      | inl here ↦ place_b a b d rise here
      | inr other ↦ elim other [
        | inl below ↦
            subst (λ u. R u (get_or (insert xs i y) b d)) (sym (get_or-insert_below xs i y d a (omega arith) within))
            (subst (R (get_or xs a d)) (sym (get_or-insert_below xs i y d b below within)) (all a b d rise (omega arith)))
        | inr above ↦ later a b d rise above (omega arith)
      ]
    ]
  where
    place_b : (a b : ℕ) (d : X) → a < b → b ≡ i → R (get_or (insert xs i y) a d) (get_or (insert xs i y) b d)
    place_b a b d rise here =
        subst (λ u. R u (get_or (insert xs i y) b d)) (sym (get_or-insert_below xs i y d a (omega arith) within))
        (subst (R (get_or xs a d)) (sym (ap (λ n. get_or (insert xs i y) n d) here ∙ get_or-insert_at xs i y d within)) (before a d (omega arith)))

    shown : (n : ℕ) (d : X) → i ≤ n → get_or (insert xs i y) (suc n) d ≡ get_or xs n d
    shown n d low = ap (λ k. get_or (insert xs i y) k d) (let next : suc n ≡ n + 1 = omega arith in next) ∙ get_or-insert_above xs i y d n low within

    later : (a b : ℕ) (d : X) → a < b → i < b → b ≤ length xs → R (get_or (insert xs i y) a d) (get_or (insert xs i y) b d)
    later a zero d rise above in_b = absurd (omega arith)
    later a (suc b) d rise above in_b =
        subst (R (get_or (insert xs i y) a d)) (sym (shown b d (omega arith)))
        (elim (cases_order a i) [
          | inl here ↦ subst (λ u. R u (get_or xs b d)) (sym (ap (λ n. get_or (insert xs i y) n d) here ∙ get_or-insert_at xs i y d within)) (after b d (omega arith) (omega arith))
          | inr other ↦ elim other [
            | inl below ↦ subst (λ u. R u (get_or xs b d)) (sym (get_or-insert_below xs i y d a below within)) (all a b d (omega arith) (omega arith))
            | inr past ↦ past_it a b d rise past in_b
          ]
        ])
      where
        past_it : (a b : ℕ) (d : X) → a < suc b → i < a → suc b ≤ length xs → R (get_or (insert xs i y) a d) (get_or xs b d)
        past_it zero b d rise past in_b = absurd (omega arith)
        past_it (suc a) b d rise past in_b = subst (λ u. R u (get_or xs b d)) (sym (shown a d (omega arith))) (all a b d (omega arith) (omega arith))

pub AreInIdOrder-insert : (xs : List Share) (i : ℕ) (x : Share) → AreInIdOrder (shares_in xs) → IsPlace (shares_in xs) x.id (Err i) → AreShares (share_in x ∷ shares_in xs) → AreInIdOrder (shares_in (insert xs i x))
AreInIdOrder-insert xs i x order place are = record {
  rise = subst IdsRise (sym (insert-shares_in xs i x))
      (AllPairs-insert (λ s t. text_cmp s.0 t.0 ≡ Less) (shares_in xs) i (share_in x) place.0 order.rise
      (λ k d low. place.1 k d (omega arith) low)
      (λ k d low within. text_cmp_total.antisymm x.id (get_or (shares_in xs) k d).0 ∙ ap ordering_reverse (place.2 k d low within)));
  sets_apart = (AreShares-permutation (share_in x ∷ shares_in xs) (shares_in (insert xs i x)) (shares_in-insert xs i x) are).sets_apart;
}

-- the id of a new share has no place among the others
pub no_place : (x : Text × Partitions) (xs : List (Text × Partitions)) (i : ℕ) → AreShares (x ∷ xs) → IsPlace xs x.0 (Ok i) → ⊥
no_place x xs i are place =
    HasNoShare-tail x xs are (get_or xs i x) (Contains-get_or xs i x place.0) (place.1 x)

-- where an id that owns nothing is taken out, nothing changes
pub spread_of-taken : (old new : List (Text × Partitions)) (id : Text) (taken : Option Partitions) → AreShares old → HasNoShare new id → TakesShare old new id taken
    → ((p : Partition) → finite.get (spread_of old) p ≡ Some id → ⊥) → spread_of new ≡ spread_of old
spread_of-taken old new id taken are gone takes none = without_owner-taken old new id taken are gone takes ∙ without_owner-none (spread_of old) id none

-- the share of an old id was taken out, and was put in again under a new one
pub renamed-put : (before between after : List (Text × Partitions)) (old new : Text) (set : Partitions) → AreShares before → IsPermutation before ((old, set) ∷ between)
    → HasNoShare before new → IsPermutation ((new, set) ∷ between) after → spread_of after ≡ renamed (spread_of before) old new
renamed-put before between after old new set are taken free put =
    let parts = AreShares-permutation before ((old, set) ∷ between) taken are in
    let others = AreShares-renamed old new set between parts (HasNoShare-taken before between (old, set) new taken free) in
    sym (spread_of-permutation ((new, set) ∷ between) after put others.sets_apart)
    ∙ sym (renamed-spread_of old new set between parts)
    ∙ ap (λ spread. renamed spread old new) (sym (spread_of-permutation before ((old, set) ∷ between) taken are.sets_apart))
