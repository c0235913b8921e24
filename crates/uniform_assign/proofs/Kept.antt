-- The owners that stay, place by place.
use Rattle.std.proofs.Common.{◌≡◌, ◌↔◌, ℕ, zero, suc, ◌<◌, ◌≤◌, ◌+◌, true, List, [], ◌∷◌, length, get_or, replicate, set as set_at, refl, sym, ap, subst, ◌∙◌, arith, inl, inr, Option, Some, None, length-set}
use Rattle.std.specs.FinMap as finite
use Rattle.std.specs.List.{count_by, slice_get}
use Rattle.std.proofs.lemmas.Bool.{cases_lt}
use Rattle.std.proofs.lemmas.List.{get_or-replicate, length-replicate, set-get_or}
use Rattle.std.proofs.lemmas.Option.{get_or_from_slice_get, same_Some, slice_get-get_or, slice_get_within}
use Rattle.group_types.specs.declared.partition.Partition.{Partition}
use Rattle.group_types.specs.Text.{Text}
use Rattle.group_types.specs.Topics.{Topics}
use Rattle.group_types.specs.Sets.{has}
use Rattle.group_types.specs.Assignors.{IdsAreApart, Subscriber}
use Rattle.group_types.specs.Owners.{IsSubscriber, Spread}
use Rattle.group_types.specs.Uniform.{IsKept, in_partition_order}
use Rattle.uniform_assign.specs.declared.board.Board.{Board}
use Rattle.uniform_assign.specs.declared.draft.Draft.{Draft}
use Rattle.uniform_assign.specs.Boards.{members_on}
use Rattle.uniform_assign.specs.Drafts.{AreCounts, IsDraft, drawn, is_owner}
use Rattle.uniform_assign.specs.Former.{IsFormerOwner, OwnNothingFrom}
use Rattle.uniform_assign.proofs.Drawn.{AreApart, drawn-from, drawn-owner}
use Rattle.uniform_assign.proofs.PartitionOrder.{part_from, taken_from, taker_subscribes}

pub slice_get-set_same : {X : Type 0} (xs : List X) (k : ℕ) (x : X) → k < length xs → slice_get (set_at xs k x) k ≡ Some x
slice_get-set_same [] k x within = absurd (omega arith)
slice_get-set_same (y ∷ xs) zero x within = refl
slice_get-set_same (y ∷ xs) (suc k) x within = slice_get-set_same xs k x (omega arith)

pub slice_get-set_other : {X : Type 0} (xs : List X) (k j : ℕ) (x : X) → (j ≡ k → ⊥) → slice_get (set_at xs k x) j ≡ slice_get xs j
slice_get-set_other [] k j x apart = refl
slice_get-set_other (y ∷ xs) zero zero x apart = absurd (apart refl)
slice_get-set_other (y ∷ xs) zero (suc j) x apart = refl
slice_get-set_other (y ∷ xs) (suc k) zero x apart = refl
slice_get-set_other (y ∷ xs) (suc k) (suc j) x apart = slice_get-set_other xs k j x (λ same. apart (ap suc same))

-- in a list without owners nobody is one
pub no_owner_at : (n k m : ℕ) → slice_get (replicate {A = Option ℕ} n None) k ≡ Some (Some m) → ⊥
no_owner_at zero k m is = cc
no_owner_at (suc n) zero m is = let none = same_Some None (Some m) is in cc
no_owner_at (suc n) (suc k) m is = no_owner_at n k m is

-- the member at a place owned the partition at a place before, and subscribes it
pub record Keeps (former : Spread) (subs : List Subscriber) (parts : List (Text × Partition)) (k m : ℕ) : Type 0 where
  pub member : Subscriber
  pub is_member : slice_get subs m ≡ Some member
  pub part : Text × Partition
  pub is_part : slice_get parts k ≡ Some part
  pub owned : finite.get former part.1 ≡ Some member.id
  pub subscribes : has member.names part.0 ≡ true

-- the first n places have the owners that stay, and the later ones none
pub record AreKeptTo (former : Spread) (subs : List Subscriber) (parts : List (Text × Partition)) (n : ℕ) (owners : List (Option ℕ)) : Type 0 where
  pub kept : (k m : ℕ) → k < n → (slice_get owners k ≡ Some (Some m)) ↔ Keeps former subs parts k m
  pub free : (k : ℕ) → n ≤ k → k < length owners → slice_get owners k ≡ Some None

module _ (former : Spread) (subs : List Subscriber) (parts : List (Text × Partition)) where
  pub AreKeptTo-none : (owners : List (Option ℕ)) (many : ℕ) → owners ≡ replicate many None → AreKeptTo former subs parts 0 owners
  AreKeptTo-none owners many same = record {
    kept = λ k m low. absurd (omega arith);
    free = λ k low within. slice_get-get_or owners k None within ∙ ap Some (
        let long = ap length same ∙ length-replicate many None in
        ap (λ xs. get_or xs k None) same ∙ get_or-replicate many k None None (omega arith)
        );
  }

  -- where no member owned a partition, no owner stays
  pub AreKeptTo-nobody : (owners : List (Option ℕ)) (many n : ℕ) → owners ≡ replicate many None → OwnNothingFrom former subs 0 → AreKeptTo former subs parts n owners
  AreKeptTo-nobody owners many n same nobody = record {
    kept = λ k m low. (
      λ there. absurd (no_owner_at many k m (ap (λ xs. slice_get xs k) (sym same) ∙ there)),
      λ keeps. absurd (nobody m keeps.member keeps.part.1 (omega arith) keeps.is_member keeps.owned),
    );
    free = λ k low. (AreKeptTo-none owners many same).free k (omega arith);
  }

  AreKeptTo-set : (n : ℕ) (owners : List (Option ℕ)) (o : Option ℕ) → AreKeptTo former subs parts n owners → n < length owners → ((m : ℕ) → (o ≡ Some m) ↔ Keeps former subs parts n m)
      → AreKeptTo former subs parts (n + 1) (set_at owners n o)
  AreKeptTo-set n owners o are within is = record {
    kept = λ k m low. elim (cases_lt k n) [
      | inl below ↦
          let other = slice_get-set_other owners n k o (λ same. omega arith) in
          (λ there. (are.kept k m below).0 (sym other ∙ there), λ keeps. other ∙ (are.kept k m below).1 keeps)
      | inr above ↦
          let same : n ≡ k = omega arith in
          let here : slice_get (set_at owners n o) k ≡ Some o = ap (slice_get (set_at owners n o)) (sym same) ∙ slice_get-set_same owners n o within in (
            λ there. subst (λ j. Keeps former subs parts j m) same ((is m).0 (same_Some o (Some m) (sym here ∙ there))),
            λ keeps. here ∙ ap Some ((is m).1 (subst (λ j. Keeps former subs parts j m) (sym same) keeps)),
          )
    ];
    free = λ k low in_new.
        let long = length-set owners n o in
        slice_get-set_other owners n k o (λ same. omega arith) ∙ are.free k (omega arith) (omega arith);
  }

  pub AreKeptTo-give : (n m : ℕ) (owners : List (Option ℕ)) → AreKeptTo former subs parts n owners → n < length owners → IdsAreApart subs → Keeps former subs parts n m
      → AreKeptTo former subs parts (n + 1) (set_at owners n (Some m))
  AreKeptTo-give n m owners are within apart keeps = AreKeptTo-set n owners (Some m) are within (λ j. (
    λ same. subst (Keeps former subs parts n) (same_Some m j same) keeps,
    λ other.
        let part : keeps.part ≡ other.part = same_Some keeps.part other.part (sym keeps.is_part ∙ other.is_part) in
        let ids : keeps.member.id ≡ other.member.id = same_Some keeps.member.id other.member.id (sym keeps.owned ∙ ap (λ x. finite.get former x.1) part ∙ other.owned) in
        ap Some (apart m j keeps.member other.member keeps.is_member other.is_member ids),
  ))

  pub AreKeptTo-skip : (n : ℕ) (owners : List (Option ℕ)) → AreKeptTo former subs parts n owners → n < length owners → ((m : ℕ) → ¬ Keeps former subs parts n m) → AreKeptTo former subs parts (n + 1) owners
  AreKeptTo-skip n owners are within nobody =
      let none : get_or owners n None ≡ None = get_or_from_slice_get owners n None None (are.free n (omega arith) within) in
      let same : set_at owners n None ≡ owners = ap (set_at owners n) (sym none) ∙ set-get_or owners n None in
      subst (AreKeptTo former subs parts (n + 1)) same (AreKeptTo-set n owners None are within (λ m. (λ is. cc, λ keeps. absurd (nobody m keeps))))

  -- who keeps a partition owned it, and subscribes it
  pub Keeps-of : (n m : ℕ) (x : Text × Partition) (s : Subscriber) → slice_get parts n ≡ Some x → slice_get subs m ≡ Some s → IsFormerOwner former subs m x.1 → has s.names x.0 ≡ true → Keeps former subs parts n m
  Keeps-of n m x s is_x is_s owner subscribes = record {
    member = s;
    is_member = is_s;
    part = x;
    is_part = is_x;
    owned = owner.owned ∙ ap (λ (t : Subscriber). Some t.id) (same_Some owner.member s (sym owner.is_member ∙ is_s));
    subscribes = subscribes;
  }

  pub Keeps-owner : (n m : ℕ) (x : Text × Partition) → slice_get parts n ≡ Some x → Keeps former subs parts n m → IsFormerOwner former subs m x.1
  Keeps-owner n m x is_x keeps = record {
    member = keeps.member;
    is_member = keeps.is_member;
    owned = ap (λ y. finite.get former y.1) (same_Some x keeps.part (sym is_x ∙ keeps.is_part)) ∙ keeps.owned;
  }

  pub Keeps-subscribes : (n m : ℕ) (x : Text × Partition) (s : Subscriber) → slice_get parts n ≡ Some x → slice_get subs m ≡ Some s → Keeps former subs parts n m → has s.names x.0 ≡ true
  Keeps-subscribes n m x s is_x is_s keeps =
      (λ i. has (same_Some s keeps.member (sym is_s ∙ keeps.is_member) i).names (same_Some x keeps.part (sym is_x ∙ keeps.is_part) i).0) ∙ keeps.subscribes

pub IsKept-of : (view : Topics) (subs : List Subscriber) (former : Spread) (n : ℕ) (owners : List (Option ℕ)) → AreApart (in_partition_order view) → length (in_partition_order view) ≤ n
    → AreKeptTo former subs (in_partition_order view) n owners → IsKept view subs former (drawn (in_partition_order view) subs owners)
IsKept-of view subs former n owners apart all are p id = (
  λ is.
      let parts = in_partition_order view in
      let shown = drawn-from subs parts owners p id is in
      let low = slice_get_within parts shown.place shown.part shown.is_part in
      let keeps = (are.kept shown.place shown.owner (omega arith)).0 shown.is_owner in
      let owner = Keeps-owner former subs parts shown.place shown.owner shown.part shown.is_part keeps in
      let member : owner.member ≡ shown.member = same_Some owner.member shown.member (sym owner.is_member ∙ shown.is_member) in
      let ids : owner.member.id ≡ id = ap (λ (s : Subscriber). s.id) member ∙ shown.same_id in (
        ap (finite.get former) (sym shown.same) ∙ owner.owned ∙ ap Some ids,
        subst (λ q. IsSubscriber view subs q id) shown.same (subst (IsSubscriber view subs shown.part.1) shown.same_id
            (taker_subscribes view subs shown.part shown.member (part_from view shown.place shown.part shown.is_part) record {
              place = shown.owner;
              is_there = shown.is_member;
              subscribes = Keeps-subscribes former subs parts shown.place shown.owner shown.part shown.member shown.is_part shown.is_member keeps;
            })),
      ),
  λ (owned, subscribes).
      let parts = in_partition_order view in
      let taken = taken_from view subs p id subscribes in
      let low = slice_get_within parts taken.place (taken.name, p) taken.is_there in
      let there = (are.kept taken.place taken.taker.place (omega arith)).1 record {
        member = taken.member;
        is_member = taken.taker.is_there;
        part = (taken.name, p);
        is_part = taken.is_there;
        owned = owned ∙ ap Some (sym taken.same_id);
        subscribes = taken.taker.subscribes;
      } in
      drawn-owner subs parts owners taken.place (taken.name, p) taken.taker.place taken.member apart taken.is_there there taken.taker.is_there ∙ ap Some taken.same_id,
)

-- ---- no owners

pub AreCounts-none : (owners : List (Option ℕ)) (counts : List ℕ) (n m : ℕ) → owners ≡ replicate n None → counts ≡ replicate m 0 → AreCounts owners counts
AreCounts-none owners counts n m same zeros = record {
  within = λ k j is. absurd (no_owner_at n k j (ap (λ xs. slice_get xs k) (sym same) ∙ is));
  counted = λ j low.
      let long = ap length zeros ∙ length-replicate m 0 in
      ap (λ xs. get_or xs j 0) zeros ∙ get_or-replicate m j 0 0 (omega arith) ∙ sym (ap (count_by (is_owner j)) same ∙ nothing n j);
}
  where
    nothing : (n j : ℕ) → count_by (is_owner j) (replicate n None) ≡ 0
    nothing zero j = refl
    nothing (suc n) j = nothing n j

pub IsDraft-none : (board : Board) (draft : Draft) (n m : ℕ) → draft.owners.items ≡ replicate n None → draft.counts.items ≡ replicate m 0 → n ≡ length board.places.items → m ≡ length (members_on board) → IsDraft board draft
IsDraft-none board draft n m owners counts places members = record {
  as_many_owners = ap length owners ∙ length-replicate n None ∙ places;
  as_many_counts = ap length counts ∙ length-replicate m 0 ∙ members;
  counts = AreCounts-none draft.owners.items draft.counts.items n m owners counts;
}
