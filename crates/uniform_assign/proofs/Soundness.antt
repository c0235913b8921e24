-- The owners under uniform are lawful and even.
use Rattle.std.proofs.Common.{◌≡◌, ◌⊎◌, ℕ, zero, suc, ◌<◌, ◌≤◌, ◌+◌, List, [], ◌∷◌, refl, sym, ap, subst, ◌∙◌, arith, inl, inr, Some, None}
use Rattle.std.specs.FinMap as finite
use Rattle.std.specs.List.{slice_get}
use Rattle.std.specs.Option.{MatchOption}
use Rattle.std.proofs.lemmas.Bool.{cases_lt}
use Rattle.std.proofs.lemmas.Option.{same_Some}
use Rattle.group_types.specs.declared.partition.Partition.{Partition}
use Rattle.group_types.specs.Text.{Text}
use Rattle.group_types.specs.Topics.{Topics}
use Rattle.group_types.specs.Assignors.{Subscriber, subscribers_of}
use Rattle.group_types.specs.Owners.{IsLawful, IsSubscriber, Spread}
use Rattle.group_types.specs.Uniform.{AreFilled, AreMoves, Fills, GoesTo, IsEven, IsKept, IsLevel, IsUniform, count, in_partition_order}
use Rattle.uniform_assign.specs.Laws.{LawfulAndEvenOwnersStay, UniformIsEven, UniformIsLawful}
use Rattle.uniform_assign.proofs.Lists.{Contains-at, at_Contains}
use Rattle.uniform_assign.proofs.Owners.{cases_partition, get-insert_other, get-insert_same, same_spread}
use Rattle.uniform_assign.proofs.PartitionOrder.{IsOfTopic, IsTaker, part_from, taken_from, taker_at, taker_from, taker_subscribes}

-- whoever owns a partition subscribes it
abbrev pub OwnersSubscribe : Topics → List Subscriber → Spread → Type 0
OwnersSubscribe view subs spread = (p : Partition) (id : Text) → finite.get spread p ≡ Some id → IsSubscriber view subs p id

-- the partition has an owner
abbrev pub IsOwned : Spread → Partition → Type 0
IsOwned spread p = (id : Text) × (finite.get spread p ≡ Some id)

module _ (view : Topics) (subs : List Subscriber) where
  -- ---- a partition is given to a taker

  OwnersSubscribe-insert : (spread : Spread) (x : Text × Partition) (m : Subscriber) → OwnersSubscribe view subs spread → IsOfTopic view x → IsTaker subs x.0 m
      → OwnersSubscribe view subs (finite.insert spread x.1 m.id)
  OwnersSubscribe-insert spread x m all of_x taker p id is =
      elim (cases_partition p x.1) [
        | inl same ↦
            let ids : m.id ≡ id = same_Some m.id id (sym (get-insert_same spread x.1 p m.id same) ∙ is) in
            subst (λ q. IsSubscriber view subs q id) (sym same) (subst (IsSubscriber view subs x.1) ids (taker_subscribes view subs x m of_x taker))
        | inr apart ↦ all p id (sym (get-insert_other spread x.1 p m.id apart) ∙ is)
      ]

  IsOwned-insert : (spread : Spread) (q p : Partition) (id : Text) → IsOwned spread p → IsOwned (finite.insert spread q id) p
  IsOwned-insert spread q p id (owner, is) =
      elim (cases_partition p q) [
        | inl same ↦ (id, get-insert_same spread q p id same)
        | inr apart ↦ (owner, get-insert_other spread q p id apart ∙ is)
      ]

  -- ---- fill

  GoesTo-keeps : (spread new : Spread) (takers : List Subscriber) (p q : Partition) → GoesTo spread takers p new → IsOwned spread q → IsOwned new q
  GoesTo-keeps spread new [] p q same owned = subst (λ s. IsOwned s q) (sym same) owned
  GoesTo-keeps spread new (m ∷ ms) p q (n, fewest, is) owned = subst (λ s. IsOwned s q) (sym is) (IsOwned-insert spread p q n.id owned)

  GoesTo-owned : (spread new : Spread) (takers : List Subscriber) (p : Partition) (k : ℕ) (m : Subscriber) → GoesTo spread takers p new → slice_get takers k ≡ Some m → IsOwned new p
  GoesTo-owned spread new [] p k m same there = cc
  GoesTo-owned spread new (_ ∷ _) p k m (n, fewest, is) there = subst (λ s. IsOwned s p) (sym is) (n.id, get-insert_same spread p p n.id refl)

  GoesTo-subscribe : (spread new : Spread) (name : Text) (takers : List Subscriber) (p : Partition) → takers ≡ subscribers_of subs name → OwnersSubscribe view subs spread → IsOfTopic view (name, p)
      → GoesTo spread takers p new → OwnersSubscribe view subs new
  GoesTo-subscribe spread new name [] p are all of_p same = subst (OwnersSubscribe view subs) (sym same) all
  GoesTo-subscribe spread new name (m ∷ ms) p are all of_p (n, fewest, is) =
      let taker = taker_from subs name fewest.place n (ap (λ list. slice_get list fewest.place) (sym are) ∙ fewest.is_there) in
      subst (OwnersSubscribe view subs) (sym is) (OwnersSubscribe-insert spread (name, p) n all of_p taker)

  Fills-keeps : (spread new : Spread) (x : Text × Partition) (q : Partition) → Fills subs spread x new → IsOwned spread q → IsOwned new q
  Fills-keeps spread new x q fills owned =
      elim (finite.get spread x.1) as (λ o. MatchOption o (GoesTo spread (subscribers_of subs x.0) x.1 new) (λ _. new ≡ spread) → IsOwned new q) [
        | None ↦ λ goes. GoesTo-keeps spread new (subscribers_of subs x.0) x.1 q goes owned
        | Some id ↦ λ same. subst (λ s. IsOwned s q) (sym same) owned
      ] fills

  Fills-owned : (spread new : Spread) (x : Text × Partition) (k : ℕ) (m : Subscriber) → Fills subs spread x new → slice_get (subscribers_of subs x.0) k ≡ Some m → IsOwned new x.1
  Fills-owned spread new x k m fills there =
      elim (finite.get spread x.1) as (λ o. finite.get spread x.1 ≡ o → MatchOption o (GoesTo spread (subscribers_of subs x.0) x.1 new) (λ _. new ≡ spread) → IsOwned new x.1) [
        | None ↦ λ none goes. GoesTo-owned spread new (subscribers_of subs x.0) x.1 k m goes there
        | Some id ↦ λ is same. subst (λ s. IsOwned s x.1) (sym same) (id, is)
      ] refl fills

  Fills-subscribe : (spread new : Spread) (x : Text × Partition) → OwnersSubscribe view subs spread → IsOfTopic view x → Fills subs spread x new → OwnersSubscribe view subs new
  Fills-subscribe spread new x all of_x fills =
      elim (finite.get spread x.1) as (λ o. MatchOption o (GoesTo spread (subscribers_of subs x.0) x.1 new) (λ _. new ≡ spread) → OwnersSubscribe view subs new) [
        | None ↦ λ goes. GoesTo-subscribe spread new x.0 (subscribers_of subs x.0) x.1 refl all of_x goes
        | Some id ↦ λ same. subst (OwnersSubscribe view subs) (sym same) all
      ] fills

  AreFilled-keeps : (spread new : Spread) (xs : List (Text × Partition)) (q : Partition) → AreFilled subs spread xs new → IsOwned spread q → IsOwned new q
  AreFilled-keeps spread new [] q same owned = subst (λ s. IsOwned s q) (sym same) owned
  AreFilled-keeps spread new (x ∷ xs) q (next, fills, filled) owned = AreFilled-keeps next new xs q filled (Fills-keeps spread next x q fills owned)

  AreFilled-owned : (spread new : Spread) (xs : List (Text × Partition)) (k j : ℕ) (x : Text × Partition) (m : Subscriber) → AreFilled subs spread xs new → slice_get xs k ≡ Some x
      → slice_get (subscribers_of subs x.0) j ≡ Some m → IsOwned new x.1
  AreFilled-owned spread new [] k j x m same there takes = cc
  AreFilled-owned spread new (y ∷ xs) zero j x m (next, fills, filled) there takes =
      AreFilled-keeps next new xs x.1 filled (Fills-owned spread next x j m (subst (λ z. Fills subs spread z next) (same_Some y x there) fills) takes)
  AreFilled-owned spread new (y ∷ xs) (suc k) j x m (next, fills, filled) there takes = AreFilled-owned next new xs k j x m filled there takes

  AreFilled-subscribe : (spread new : Spread) (xs : List (Text × Partition)) → OwnersSubscribe view subs spread → ((k : ℕ) (x : Text × Partition) → slice_get xs k ≡ Some x → IsOfTopic view x)
      → AreFilled subs spread xs new → OwnersSubscribe view subs new
  AreFilled-subscribe spread new [] all of_view same = subst (OwnersSubscribe view subs) (sym same) all
  AreFilled-subscribe spread new (x ∷ xs) all of_view (next, fills, filled) =
      AreFilled-subscribe next new xs (Fills-subscribe spread next x all (of_view 0 x refl) fills) (λ k. of_view (suc k)) filled

  -- ---- level

  AreMoves-keeps : (spread new : Spread) (steps : List Spread) (q : Partition) → AreMoves view subs spread steps new → IsOwned spread q → IsOwned new q
  AreMoves-keeps spread new [] q same owned = subst (λ s. IsOwned s q) (sym same) owned
  AreMoves-keeps spread new (next ∷ later) q (move, moves) owned =
      AreMoves-keeps next new later q moves (subst (λ s. IsOwned s q) (sym move.is_new) (IsOwned-insert spread move.move.moved.1 q move.to.id owned))

  AreMoves-subscribe : (spread new : Spread) (steps : List Spread) → OwnersSubscribe view subs spread → AreMoves view subs spread steps new → OwnersSubscribe view subs new
  AreMoves-subscribe spread new [] all same = subst (OwnersSubscribe view subs) (sym same) all
  AreMoves-subscribe spread new (next ∷ later) all (move, moves) =
      let moved = move.move.moved in
      let taker = taker_from subs moved.0 move.is_fewest.place move.to move.is_fewest.is_there in
      AreMoves-subscribe next new later (subst (OwnersSubscribe view subs) (sym move.is_new)
      (OwnersSubscribe-insert spread moved move.to all (part_from view move.place moved move.move.is_partition) taker)) moves

  -- ---- uniform

  pub owners_subscribe : (former spread : Spread) → IsUniform view subs former spread → OwnersSubscribe view subs spread
  owners_subscribe former spread uniform =
      AreMoves-subscribe uniform.filled spread uniform.steps
      (AreFilled-subscribe uniform.kept uniform.filled (in_partition_order view) (λ p id is. ((uniform.is_kept p id).0 is).1) (part_from view) uniform.are_filled)
      uniform.are_moves

  pub all_owned : (former spread : Spread) → IsUniform view subs former spread → (p : Partition) (id : Text) → IsSubscriber view subs p id → IsOwned spread p
  all_owned former spread uniform p id subscribes =
      let taken = taken_from view subs p id subscribes in
      let (j, takes) = taker_at subs taken.name taken.member taken.taker in
      AreMoves-keeps uniform.filled spread uniform.steps p uniform.are_moves
      (AreFilled-owned uniform.kept uniform.filled (in_partition_order view) taken.place j (taken.name, p) taken.member uniform.are_filled taken.is_there takes)

  pub lawful_of : (spread : Spread) → OwnersSubscribe view subs spread → ((p : Partition) (id : Text) → IsSubscriber view subs p id → IsOwned spread p) → IsLawful view subs spread
  lawful_of spread all owned p =
      elim (finite.get spread p) as (λ o. finite.get spread p ≡ o → MatchOption o ((id : Text) → ¬ IsSubscriber view subs p id) (IsSubscriber view subs p)) [
        | None ↦ λ none id subscribes. let owner = owned p id subscribes in let is = owner.1 in cc
        | Some id ↦ λ is. all p id is
      ] refl

  pub lawful_subscribe : (spread : Spread) → IsLawful view subs spread → OwnersSubscribe view subs spread
  lawful_subscribe spread lawful p id is = subst (λ o. MatchOption o ((id : Text) → ¬ IsSubscriber view subs p id) (IsSubscriber view subs p)) is (lawful p)

  pub lawful_none : (spread : Spread) (p : Partition) (id : Text) → IsLawful view subs spread → finite.get spread p ≡ None → IsSubscriber view subs p id → ⊥
  lawful_none spread p id lawful none = subst (λ o. MatchOption o ((id : Text) → ¬ IsSubscriber view subs p id) (IsSubscriber view subs p)) none (lawful p) id

  -- where the owners subscribe, a subscriber with two fewer could take the partition
  pub even_of_level : (spread : Spread) → OwnersSubscribe view subs spread → IsLevel view subs spread → IsEven view subs spread
  even_of_level spread all level p m n is subscribes =
      elim (cases_order_of (count spread m) (count spread n + 1)) [
        | inl low ↦ low
        | inr high ↦
            let one = taken_from view subs p m (all p m is) in
            let two = taken_from view subs p n subscribes in
            let (j, takes) = taker_at subs two.name two.member two.taker in
            absurd (level one.taker.place two.place record {
              owner = one.member;
              is_member = one.taker.is_there;
              moved = (two.name, p);
              is_partition = two.is_there;
              owns = is ∙ ap Some (sym one.same_id);
              other = two.member;
              subscribes = Contains-at (subscribers_of subs two.name) j two.member takes;
              fewer = subst (λ a. count spread two.member.id + 1 < count spread a) (sym one.same_id) (subst (λ a. count spread a + 1 < count spread m) (sym two.same_id) high);
            })
      ]
    where
      cases_order_of : (a b : ℕ) → (a ≤ b) ⊎ (b < a)
      cases_order_of a b = elim (cases_lt b a) [ inl low ↦ inr low | inr high ↦ inl high ]

  -- ---- lawful and even owners stay

  kept_stay : (former kept : Spread) → IsLawful view subs former → IsKept view subs former kept → kept ≡ former
  kept_stay former kept lawful is_kept =
      same_spread kept former (λ p id. (λ is. ((is_kept p id).0 is).0, λ is. (is_kept p id).1 (is, lawful_subscribe former lawful p id is)))

  none_taken : (former new : Spread) (takers : List Subscriber) (p : Partition) → GoesTo former takers p new → ((m : Subscriber) → slice_get takers 0 ≡ Some m → ⊥) → new ≡ former
  none_taken former new [] p same none = same
  none_taken former new (m ∷ ms) p goes none = absurd (none m refl)

  filled_stay : (former new : Spread) (xs : List (Text × Partition)) → IsLawful view subs former → ((k : ℕ) (x : Text × Partition) → slice_get xs k ≡ Some x → IsOfTopic view x)
      → AreFilled subs former xs new → new ≡ former
  filled_stay former new [] lawful of_view same = same
  filled_stay former new (x ∷ xs) lawful of_view (next, fills, filled) =
      let stays : next ≡ former =
      elim (finite.get former x.1) as (λ o. finite.get former x.1 ≡ o → MatchOption o (GoesTo former (subscribers_of subs x.0) x.1 next) (λ _. next ≡ former) → next ≡ former) [
        | None ↦ λ none goes.
            none_taken former next (subscribers_of subs x.0) x.1 goes
            (λ m first. lawful_none former x.1 m.id lawful none (taker_subscribes view subs x m (of_view 0 x refl) (taker_from subs x.0 0 m first)))
        | Some id ↦ λ is same. same
      ] refl fills in
      filled_stay former new xs lawful (λ k. of_view (suc k)) (subst (λ s. AreFilled subs s xs new) stays filled)

  pub even_is_level : (spread : Spread) → IsEven view subs spread → IsLevel view subs spread
  even_is_level spread even from place move =
      let (k, there) = at_Contains (subscribers_of subs move.moved.0) move.other move.subscribes in
      let taker = taker_from subs move.moved.0 k move.other there in
      let low = even move.moved.1 move.owner.id move.other.id move.owns (taker_subscribes view subs move.moved move.other (part_from view place move.moved move.is_partition) taker) in
      let high = move.fewer in
      omega arith

  pub moves_none : (spread new : Spread) (steps : List Spread) → IsLevel view subs spread → AreMoves view subs spread steps new → new ≡ spread
  moves_none spread new [] level same = same
  moves_none spread new (next ∷ later) level (move, moves) = absurd (level move.from move.place move.move)

pub uniform_is_lawful : UniformIsLawful
uniform_is_lawful view subs former spread uniform =
    lawful_of view subs spread (owners_subscribe view subs former spread uniform) (all_owned view subs former spread uniform)

pub uniform_is_even : UniformIsEven
uniform_is_even view subs former spread uniform =
    even_of_level view subs spread (owners_subscribe view subs former spread uniform) uniform.is_level

pub lawful_and_even_owners_stay : LawfulAndEvenOwnersStay
lawful_and_even_owners_stay view subs former spread lawful even uniform =
    let kept = kept_stay view subs former uniform.kept lawful uniform.is_kept in
    let filled = filled_stay view subs former uniform.filled (in_partition_order view) lawful (part_from view) (subst (λ s. AreFilled subs s (in_partition_order view) uniform.filled) kept uniform.are_filled) in
    moves_none view subs former spread uniform.steps (even_is_level view subs former even) (subst (λ s. AreMoves view subs s uniform.steps spread) filled uniform.are_moves)
