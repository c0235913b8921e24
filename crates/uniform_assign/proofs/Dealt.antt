-- The shares of a draft, place by place.
use Rattle.std.proofs.Common.{◌≡◌, ◌↔◌, ◌⊎◌, ℕ, ◌<◌, ◌≤◌, ◌+◌, Bool, true, false, ◌||◌, List, length, get_or, map, set as set_at, refl, sym, ap, subst, ◌∙◌, arith, inl, inr, Option, Some, None, length-set, true≢false}
use Rattle.std.specs.FinMap as finite
use Rattle.std.specs.List.{slice_get}
use Rattle.std.specs.Ordering.{eq_by_cmp}
use Rattle.std.proofs.lemmas.Bool.{cases_lt, cases_order}
use Rattle.std.proofs.lemmas.List.{length-map}
use Rattle.std.proofs.lemmas.Option.{same_Some, slice_get-get_or, slice_get_within}
use Rattle.group_types.specs.declared.partition.Partition.{Partition}
use Rattle.group_types.specs.Text.{Text}
use Rattle.group_types.specs.Sets.{has, nothing, with_one}
use Rattle.group_types.specs.Partition.{partition_cmp, Partitions}
use Rattle.group_types.specs.Assignors.{IdsAreApart, Subscriber}
use Rattle.group_types.proofs.Orders.{partition_cmp-IsAntisymmetric, partition_cmp_total}
use Rattle.group_types.proofs.SetLemmas.{common-nothing, has-nothing, has-with_one}
use Rattle.range_assign.specs.Shares.{AreShares, spread_of}
use Rattle.range_assign.proofs.Spreads.{IsShare-of, get-spread_of, owner_in-has}
use Rattle.uniform_assign.specs.Drafts.{drawn}
use Rattle.uniform_assign.proofs.Drawn.{AreApart, drawn-from, drawn-owner}
use Rattle.uniform_assign.proofs.Kept.{slice_get-set_other, slice_get-set_same}
use Rattle.uniform_assign.proofs.Lists.{Contains-at, at_Contains, slice_get-map_from, some_at}
use Rattle.uniform_assign.proofs.Owners.{same_spread, same_tied, tied_is}

-- the partition is at one of the first n places, and the member at a place owns it
pub record IsOwnedTo (parts : List (Text × Partition)) (owners : List (Option ℕ)) (n m : ℕ) (p : Partition) : Type 0 where
  pub place : ℕ
  pub part : Text × Partition
  pub below : place < n
  pub is_part : slice_get parts place ≡ Some part
  pub same : part.1 ≡ p
  pub owner : slice_get owners place ≡ Some (Some m)

-- the share is the member's, with its partitions of the first n places
pub record IsShareTo (parts : List (Text × Partition)) (owners : List (Option ℕ)) (n m : ℕ) (s : Subscriber) (share : Text × Partitions) : Type 0 where
  pub same_id : share.0 ≡ s.id
  pub set : (p : Partition) → (has share.1 p ≡ true) ↔ IsOwnedTo parts owners n m p

pub record AreDealtTo (parts : List (Text × Partition)) (subs : List Subscriber) (owners : List (Option ℕ)) (n : ℕ) (shares : List (Text × Partitions)) : Type 0 where
  pub as_many : length shares ≡ length subs
  pub dealt : (m : ℕ) (s : Subscriber) (share : Text × Partitions) → slice_get subs m ≡ Some s → slice_get shares m ≡ Some share → IsShareTo parts owners n m s share

module _ (parts : List (Text × Partition)) (subs : List Subscriber) (owners : List (Option ℕ)) where
  pub AreDealtTo-none : (shares : List (Text × Partitions)) → shares ≡ map (λ m. (m.id, nothing)) subs → AreDealtTo parts subs owners 0 shares
  AreDealtTo-none shares same = record {
    as_many = ap length same ∙ length-map subs (λ m. (m.id, nothing));
    dealt = λ m s share is_s is.
        let (t, is_t, made) = slice_get-map_from (λ (m : Subscriber). (m.id, nothing)) subs m share (ap (λ xs. slice_get xs m) (sym same) ∙ is) in
        let member : t ≡ s = same_Some t s (sym is_t ∙ is_s) in
        record {
          same_id = ap (λ (x : Text × Partitions). x.0) (sym made) ∙ ap (λ (x : Subscriber). x.id) member;
          set = λ p. (
            λ there.
                let away = ap (λ (x : Text × Partitions). has x.1 p) (sym made) ∙ has-nothing partition_cmp p in
                absurd (true≢false (sym there ∙ away)),
            λ owned. let low = owned.below in absurd (omega arith),
          );
        };
  }

  -- what was owned before is owned later
  IsOwnedTo-later : (n m : ℕ) (p : Partition) → IsOwnedTo parts owners n m p → IsOwnedTo parts owners (n + 1) m p
  IsOwnedTo-later n m p owned = record { place = owned.place; part = owned.part; below = let low = owned.below in omega arith; is_part = owned.is_part; same = owned.same; owner = owned.owner }

  IsOwnedTo-cases : (n m : ℕ) (x : Text × Partition) (o : Option ℕ) (p : Partition) → slice_get parts n ≡ Some x → slice_get owners n ≡ Some o → IsOwnedTo parts owners (n + 1) m p
      → IsOwnedTo parts owners n m p ⊎ ((o ≡ Some m) × (x.1 ≡ p))
  IsOwnedTo-cases n m x o p is_x is_o owned = elim (cases_lt owned.place n) [
    | inl below ↦ inl (record { place = owned.place; part = owned.part; below = below; is_part = owned.is_part; same = owned.same; owner = owned.owner })
    | inr above ↦
        let low = owned.below in
        let at : owned.place ≡ n = omega arith in
        inr (
          same_Some o (Some m) (sym is_o ∙ ap (slice_get owners) (sym at) ∙ owned.owner),
          ap (λ (y : Text × Partition). y.1) (same_Some x owned.part (sym is_x ∙ ap (slice_get parts) (sym at) ∙ owned.is_part)) ∙ owned.same,
        )
  ]

  -- a share that gets nothing
  IsShareTo-skip : (n m : ℕ) (x : Text × Partition) (o : Option ℕ) (s : Subscriber) (share : Text × Partitions) → slice_get parts n ≡ Some x → slice_get owners n ≡ Some o → (o ≡ Some m → ⊥)
      → IsShareTo parts owners n m s share → IsShareTo parts owners (n + 1) m s share
  IsShareTo-skip n m x o s share is_x is_o other before = record {
    same_id = before.same_id;
    set = λ p. (
      λ there. IsOwnedTo-later n m p ((before.set p).0 there),
      λ owned. elim (IsOwnedTo-cases n m x o p is_x is_o owned) [ inl earlier ↦ (before.set p).1 earlier | inr (same, at) ↦ absurd (other same) ],
    );
  }

  or_cases : (a b : Bool) → (a || b) ≡ true → (a ≡ true) ⊎ (b ≡ true)
  or_cases true b there = inl refl
  or_cases false b there = inr there

  or_first : (a b : Bool) → a ≡ true → (a || b) ≡ true
  or_first true b there = refl
  or_first false b there = cc

  or_second : (a b : Bool) → b ≡ true → (a || b) ≡ true
  or_second true b there = refl
  or_second false b there = there

  -- a share that gets the partition
  IsShareTo-take : (n m : ℕ) (x : Text × Partition) (s : Subscriber) (id : Text) (set : Partitions) → slice_get parts n ≡ Some x → slice_get owners n ≡ Some (Some m)
      → IsShareTo parts owners n m s (id, set) → IsShareTo parts owners (n + 1) m s (id, with_one set x.1)
  IsShareTo-take n m x s id set is_x is_o before = record {
    same_id = before.same_id;
    set = λ p.
        let answer = has-with_one partition_cmp_total set x.1 p in (
          λ there. elim (or_cases (eq_by_cmp partition_cmp p x.1) (has set p) (sym answer ∙ there)) [
            | inl tie ↦ record { place = n; part = x; below = omega arith; is_part = is_x; same = sym (tied_is p x.1 tie); owner = is_o }
            | inr old ↦ IsOwnedTo-later n m p ((before.set p).0 old)
          ],
          λ owned. answer ∙ elim (IsOwnedTo-cases n m x (Some m) p is_x is_o owned) [
            | inl earlier ↦ or_second (eq_by_cmp partition_cmp p x.1) (has set p) ((before.set p).1 earlier)
            | inr (same, at) ↦ or_first (eq_by_cmp partition_cmp p x.1) (has set p) (same_tied p x.1 (sym at))
          ],
        );
  }

  pub AreDealtTo-skip : (n : ℕ) (x : Text × Partition) (shares : List (Text × Partitions)) → slice_get parts n ≡ Some x → slice_get owners n ≡ Some None → AreDealtTo parts subs owners n shares
      → AreDealtTo parts subs owners (n + 1) shares
  AreDealtTo-skip n x shares is_x is_o before = record {
    as_many = before.as_many;
    dealt = λ m s share is_s is. IsShareTo-skip n m x None s share is_x is_o (λ same. cc) (before.dealt m s share is_s is);
  }

  pub AreDealtTo-take : (n m : ℕ) (x : Text × Partition) (shares : List (Text × Partitions)) (id : Text) (set : Partitions) → slice_get parts n ≡ Some x → slice_get owners n ≡ Some (Some m)
      → slice_get shares m ≡ Some (id, set) → AreDealtTo parts subs owners n shares → AreDealtTo parts subs owners (n + 1) (set_at shares m (id, with_one set x.1))
  AreDealtTo-take n m x shares id set is_x is_o old before = record {
    as_many = length-set shares m (id, with_one set x.1) ∙ before.as_many;
    dealt = λ j s share is_s is.
        let new = set_at shares m (id, with_one set x.1) in
        elim (cases_order j m) [
          | inl same ↦
              let here : slice_get new j ≡ Some (id, with_one set x.1) = ap (slice_get new) same ∙ slice_get-set_same shares m (id, with_one set x.1) (slice_get_within shares m (id, set) old) in
              let made : (id, with_one set x.1) ≡ share = same_Some (id, with_one set x.1) share (sym here ∙ is) in
              let owner = is_o ∙ ap (λ k. Some (Some k)) (sym same) in
              subst (IsShareTo parts owners (n + 1) j s) made
              (IsShareTo-take n j x s id set is_x owner (before.dealt j s (id, set) is_s (ap (slice_get shares) same ∙ old)))
          | inr other ↦
              let apart : j ≡ m → ⊥ = λ same. elim other [ inl below ↦ omega arith | inr above ↦ omega arith ] in
              IsShareTo-skip n j x (Some m) s share is_x is_o (λ same. apart (sym (same_Some m j same)))
              (before.dealt j s share is_s (sym (slice_get-set_other shares m j (id, with_one set x.1) apart) ∙ is))
        ];
  }

  -- ---- once every place was gone over

  module _ (apart : AreApart parts) (ids : IdsAreApart subs) (n : ℕ) (shares : List (Text × Partitions)) (are : AreDealtTo parts subs owners n shares) where
    member-of : (m : ℕ) (share : Text × Partitions) → slice_get shares m ≡ Some share → (s : Subscriber) × (slice_get subs m ≡ Some s) × IsShareTo parts owners n m s share
    member-of m share is =
        let low = slice_get_within shares m share is in
        let many = are.as_many in
        let (s, is_s) = some_at subs m (omega arith) in
        (s, is_s, are.dealt m s share is_s is)

    pub AreShares-dealt : AreShares shares
    AreShares-dealt = record {
      ids_apart = λ i j d rise in_j same.
          let (s, is_s, one) = member-of i (get_or shares i d) (slice_get-get_or shares i d (omega arith)) in
          let (t, is_t, other) = member-of j (get_or shares j d) (slice_get-get_or shares j d in_j) in
          let equal : i ≡ j = ids i j s t is_s is_t (sym one.same_id ∙ same ∙ other.same_id) in
          omega arith;
      sets_apart = λ i j d rise in_j.
          let (s, is_s, one) = member-of i (get_or shares i d) (slice_get-get_or shares i d (omega arith)) in
          let (t, is_t, other) = member-of j (get_or shares j d) (slice_get-get_or shares j d in_j) in
          common-nothing partition_cmp_total partition_cmp-IsAntisymmetric (get_or shares i d).1 (get_or shares j d).1 (λ p there.
          elim (has (get_or shares j d).1 p) as (λ b. has (get_or shares j d).1 p ≡ b → b ≡ false) [
            | true ↦ λ there_too.
                let mine = (one.set p).0 there in
                let his = (other.set p).0 there_too in
                let place : mine.place ≡ his.place = apart mine.place his.place mine.part his.part mine.is_part his.is_part (mine.same ∙ sym his.same) in
                let equal : i ≡ j = same_Some i j (same_Some (Some i) (Some j) (sym mine.owner ∙ ap (slice_get owners) place ∙ his.owner)) in
                absurd (omega arith)
            | false ↦ λ away. refl
          ] refl);
    }

    pub spread_of-dealt : length parts ≤ n → spread_of shares ≡ drawn parts subs owners
    spread_of-dealt all = same_spread (spread_of shares) (drawn parts subs owners) (λ p id. (
      λ is.
          let (share, among, same_id, there) = owner_in-has shares p id (sym (get-spread_of shares p) ∙ is) in
          let (m, at) = at_Contains shares share among in
          let (s, is_s, dealt) = member-of m share at in
          let owned = (dealt.set p).0 there in
          ap (finite.get (drawn parts subs owners)) (sym owned.same)
          ∙ drawn-owner subs parts owners owned.place owned.part m s apart owned.is_part owned.owner is_s
          ∙ ap Some (sym dealt.same_id ∙ same_id),
      λ is.
          let shown = drawn-from subs parts owners p id is in
          let in_subs = slice_get_within subs shown.owner shown.member shown.is_member in
          let many = are.as_many in
          let (share, at) = some_at shares shown.owner (omega arith) in
          let dealt = are.dealt shown.owner shown.member share shown.is_member at in
          let low = slice_get_within parts shown.place shown.part shown.is_part in
          let there = (dealt.set p).1 record { place = shown.place; part = shown.part; below = omega arith; is_part = shown.is_part; same = shown.same; owner = shown.is_owner } in
          (IsShare-of shares AreShares-dealt share (Contains-at shares shown.owner share at) p).0 there ∙ ap Some (dealt.same_id ∙ shown.same_id),
    ))
