-- A target under other ids: where each id has another one, and that one this, owners are owners under them.
use Rattle.std.proofs.Common.{◌≡◌, ℕ, Bool, true, false, cond, List, [], ◌∷◌, map, length, filter, Option, Some, None, refl, sym, ap, subst, ◌∙◌, arith, nat_lt}
use Rattle.std.specs.List.{Contains, slice_get}
use Rattle.std.specs.Option.{MatchOption, option_map}
use Rattle.std.specs.Ordering.{eq_by_cmp}
use Rattle.std.specs.FinMap as finite
use Rattle.std.specs.FinMap.Entries.{find}
use Rattle.std.proofs.lemmas.List.{length-map}
use Rattle.group_types.specs.declared.assignor_name.AssignorName.{AssignorName}
use Rattle.group_types.specs.declared.assignor_name.AssignorName.TheVariants.{Range, Uniform}
use Rattle.group_types.specs.declared.partition.Partition.{Partition}
use Rattle.group_types.specs.Text.{Text, text_cmp}
use Rattle.group_types.specs.Sets.{has}
use Rattle.group_types.specs.Partition.{partition_cmp}
use Rattle.group_types.specs.Topics.{Topics}
use Rattle.group_types.specs.Assignors.{Subscriber, asks_for, assignor_of, subscribers_of, votes}
use Rattle.group_types.specs.Owners.{IsRange, IsRangeOwner, IsShare, IsSubscriber, Spread, range_place, share_of}
use Rattle.group_types.specs.Uniform.{AreFilled, AreMoves, CanMove, Fills, GoesTo, IsFewest, IsKept, IsLevel, IsNextMove, IsUniform, count, in_partition_order}
use Rattle.group_types.specs.Renewal.{AreOwners}
use Rattle.group_types.proofs.Lookups.{Tie, ties, differs, tie, text_ties}
use Rattle.group_types.proofs.Orders.{partition_cmp_total}
use Rattle.group_types.proofs.SpreadLemmas.{has-share_of, owns-get}
use Rattle.uniform_assign.proofs.Lists.{Contains-at, at_Contains, slice_get-map_at, slice_get-map_from}
use Rattle.uniform_assign.proofs.Owned.{count-share}
use Rattle.uniform_assign.proofs.Owners.{same_owners}

filter-map : {X Y : Type 0} (f : X → Y) (p : Y → Bool) (xs : List X) → filter p (map f xs) ≡ map f (filter (λ x. p (f x)) xs)
filter-map f p [] = refl
filter-map f p (x ∷ xs) =
    elim (p (f x)) as (λ b. cond b (f x ∷ filter p (map f xs)) (filter p (map f xs)) ≡ map f (cond b (x ∷ filter (λ x. p (f x)) xs) (filter (λ x. p (f x)) xs))) [
      | true ↦ ap (λ ys. f x ∷ ys) (filter-map f p xs)
      | false ↦ filter-map f p xs
    ]

module _ (f : Text → Text) (back : (x : Text) → f (f x) ≡ x) where
  apart_still : (a b : Text) → f a ≡ f b → a ≡ b
  apart_still a b same = sym (back a) ∙ ap f same ∙ back b

  same_tie : (a b : Text) → eq_by_cmp text_cmp (f a) (f b) ≡ eq_by_cmp text_cmp a b
  same_tie a b = by (tie a b) (tie (f a) (f b))
    where
      by : Tie a b → Tie (f a) (f b) → eq_by_cmp text_cmp (f a) (f b) ≡ eq_by_cmp text_cmp a b
      by (ties same) other =
          ap (λ x. eq_by_cmp text_cmp (f a) (f x)) (sym same) ∙ text_ties (f a) ∙ sym (text_ties a) ∙ ap (eq_by_cmp text_cmp a) same
      by (differs apart never) (ties same) = absurd (apart (apart_still a b same))
      by (differs apart never) (differs _ nor) = nor ∙ sym never

  -- ---- owners under the other ids

  -- the member under its other id
  abbrev pub mirrored : Subscriber → Subscriber
  mirrored m = record m { id = f m.id }

  abbrev pub AreMirrored : Spread → Spread → Type 0
  AreMirrored s t = (p : Partition) → finite.get t p ≡ option_map f (finite.get s p)

  twice : (o : Option Text) → option_map f (option_map f o) ≡ o
  twice None = refl
  twice (Some x) = ap Some (back x)

  pub mirror_back : (s t : Spread) → AreMirrored s t → AreMirrored t s
  mirror_back s t is p = sym (ap (option_map f) (is p) ∙ twice (finite.get s p))

  -- who owns a partition here, owns it there under the other id
  owner_there : (s t : Spread) → AreMirrored s t → (p : Partition) (id : Text) → finite.get s p ≡ Some id → finite.get t p ≡ Some (f id)
  owner_there s t is p id owns = is p ∙ ap (option_map f) owns

  owner_back : (s t : Spread) → AreMirrored s t → (p : Partition) (id : Text) → finite.get t p ≡ Some id → finite.get s p ≡ Some (f id)
  owner_back s t is p id owns = owner_there t s (mirror_back s t is) p id owns

  mirrored_insert : (s t : Spread) → AreMirrored s t → (p : Partition) (id : Text) → AreMirrored (finite.insert s p id) (finite.insert t p (f id))
  mirrored_insert s t is p id q =
      finite.get-insert partition_cmp_total t p (f id) q
      ∙ ap (cond (eq_by_cmp partition_cmp q p) (Some (f id))) (is q)
      ∙ through (eq_by_cmp partition_cmp q p)
      ∙ ap (option_map f) (sym (finite.get-insert partition_cmp_total s p id q))
    where
      through : (b : Bool) → cond b (Some (f id)) (option_map f (finite.get s q)) ≡ option_map f (cond b (Some id) (finite.get s q))
      through true = refl
      through false = refl

  -- ---- how many they own

  shares : (s : Spread) (id : Text) → IsShare s id (share_of s id)
  shares s id p = (
    λ there. (owns-get s id p).0 (sym (has-share_of s id p) ∙ there),
    λ owns. has-share_of s id p ∙ (owns-get s id p).1 owns,
  )

  shares_there : (s t : Spread) → AreMirrored s t → (id : Text) → IsShare t (f id) (share_of s id)
  shares_there s t is id p = (
    λ there. owner_there s t is p id ((shares s id p).0 there),
    λ owns. (shares s id p).1 (owner_back s t is p (f id) owns ∙ ap Some (back id)),
  )

  counts : (s t : Spread) → AreMirrored s t → (id : Text) → count t (f id) ≡ count s id
  counts s t is id =
      sym (count-share t (f id) (share_of s id) (shares_there s t is id)) ∙ count-share s id (share_of s id) (shares s id)

  -- ---- the members under the other ids

  -- each member of the first list stands in the second at its place, under its other id
  abbrev Shows : List Subscriber → List Subscriber → Type 0
  Shows ms ns = (k : ℕ) (m : Subscriber) → slice_get ms k ≡ Some m → slice_get ns k ≡ Some (mirrored m)

  record Mirror (subs others : List Subscriber) : Type 0 where
    to : Shows subs others
    from : Shows others subs
    named_to : (name : Text) → Shows (subscribers_of subs name) (subscribers_of others name)
    named_from : (name : Text) → Shows (subscribers_of others name) (subscribers_of subs name)
    lengths : (name : Text) → length (subscribers_of others name) ≡ length (subscribers_of subs name)

  mirror_swapped : (subs others : List Subscriber) → Mirror subs others → Mirror others subs
  mirror_swapped subs others is =
      record { to = is.from; from = is.to; named_to = is.named_from; named_from = is.named_to; lengths = λ name. sym (is.lengths name) }

  map_to : (ms : List Subscriber) → Shows ms (map mirrored ms)
  map_to ms k m is = slice_get-map_at mirrored ms k m is

  map_from : (ms : List Subscriber) → Shows (map mirrored ms) ms
  map_from ms k m is =
      let (x, there, same) = slice_get-map_from mirrored ms k m is in
      there ∙ ap Some (sym (ap mirrored (sym same) ∙ ap (λ id. record x { id = id }) (back x.id)))

  named : (subs : List Subscriber) (name : Text) → subscribers_of (map mirrored subs) name ≡ map mirrored (subscribers_of subs name)
  named subs name = filter-map mirrored (λ m. has m.names name) subs

  mirror_of : (subs : List Subscriber) → Mirror subs (map mirrored subs)
  mirror_of subs =
      record {
        to = map_to subs;
        from = map_from subs;
        named_to = λ name. subst (Shows (subscribers_of subs name)) (sym (named subs name)) (map_to (subscribers_of subs name));
        named_from = λ name. subst (λ ns. Shows ns (subscribers_of subs name)) (sym (named subs name)) (map_from (subscribers_of subs name));
        lengths = λ name. ap length (named subs name) ∙ length-map (subscribers_of subs name) mirrored;
      }

  contains_there : (ms ns : List Subscriber) → Shows ms ns → (m : Subscriber) → Contains ms m → Contains ns (mirrored m)
  contains_there ms ns shows m there =
      let (k, is) = at_Contains ms m there in
      Contains-at ns k (mirrored m) (shows k m is)

  subscriber_there : (view : Topics) (subs others : List Subscriber) → Mirror subs others → (p : Partition) (id : Text) → IsSubscriber view subs p id → IsSubscriber view others p (f id)
  subscriber_there view subs others mirror p id (m, there, same, of) =
      (mirrored m, contains_there subs others mirror.to m there, ap f same, of)

  subscriber_back : (view : Topics) (subs others : List Subscriber) → Mirror subs others → (p : Partition) (id : Text) → IsSubscriber view others p id → IsSubscriber view subs p (f id)
  subscriber_back view subs others mirror p id is = subscriber_there view others subs (mirror_swapped subs others mirror) p id is

  -- ---- range

  range_there : (view : Topics) (subs others : List Subscriber) → Mirror subs others → (p : Partition) (id : Text) → IsRangeOwner view subs p id → IsRangeOwner view others p (f id)
  range_there view subs others mirror p id is =
      record {
        name = is.name;
        topic = is.topic;
        of_view = is.of_view;
        same_id = is.same_id;
        index = is.index;
        is_index = is.is_index;
        below = is.below;
        owner = mirrored is.owner;
        place =
            ap (λ n. slice_get (subscribers_of others is.name) (range_place is.topic.count n is.index)) (mirror.lengths is.name)
            ∙ mirror.named_to is.name (range_place is.topic.count (length (subscribers_of subs is.name)) is.index) is.owner is.place;
        same_owner = ap f is.same_owner;
      }

  range_mirrored : (view : Topics) (subs others : List Subscriber) → Mirror subs others → (s t : Spread) → AreMirrored s t → IsRange view subs s → IsRange view others t
  range_mirrored view subs others mirror s t is range p id = (
    λ owns. subst (IsRangeOwner view others p) (back id) (range_there view subs others mirror p (f id) ((range p (f id)).0 (owner_back s t is p id owns))),
    λ owner. owner_there s t is p (f id) ((range p (f id)).1 (range_there view others subs (mirror_swapped subs others mirror) p id owner)) ∙ ap Some (back id),
  )

  -- ---- uniform

  kept_mirrored : (view : Topics) (subs others : List Subscriber) → Mirror subs others → (former former_there s t : Spread) → AreMirrored former former_there → AreMirrored s t
      → IsKept view subs former s → IsKept view others former_there t
  kept_mirrored view subs others mirror former former_there s t was is kept p id = (
    λ owns.
        let here = (kept p (f id)).0 (owner_back s t is p id owns) in
        (owner_there former former_there was p (f id) here.0 ∙ ap Some (back id), subst (IsSubscriber view others p) (back id) (subscriber_there view subs others mirror p (f id) here.1)),
    λ both.
        owner_there s t is p (f id) ((kept p (f id)).1 (owner_back former former_there was p id both.0, subscriber_back view subs others mirror p id both.1)) ∙ ap Some (back id),
  )

  fewest_there : (s t : Spread) → AreMirrored s t → (ms ns : List Subscriber) → Shows ms ns → Shows ns ms → (n : Subscriber) → IsFewest s ms n → IsFewest t ns (mirrored n)
  fewest_there s t is ms ns to from n fewest =
      record {
        place = fewest.place;
        is_there = to fewest.place n fewest.is_there;
        fewest = λ k m there. omega (arith, counts s t is n.id, counted m, fewest.fewest k (mirrored m) (from k m there));
        first = λ k m before there. omega (arith, counts s t is n.id, counted m, fewest.first k (mirrored m) before (from k m there));
      }
    where
      counted : (m : Subscriber) → count s (f m.id) ≡ count t m.id
      counted m = counts t s (mirror_back s t is) m.id

  -- one that is made of the spread there, so that the spreads go on side by side
  abbrev Beside : Spread → (Spread → Type 0) → Type 0
  Beside s P = (t : Spread) × AreMirrored s t × P t

  goes_there : (s t : Spread) → AreMirrored s t → (ms : List Subscriber) (p : Partition) (new : Spread) → GoesTo s ms p new → Beside new (GoesTo t (map mirrored ms) p)
  goes_there s t is [] p new same = (t, subst (λ x. AreMirrored x t) (sym same) is, refl)
  goes_there s t is (m ∷ ms) p new (n, fewest, same) = (
    finite.insert t p (f n.id),
    subst (λ x. AreMirrored x (finite.insert t p (f n.id))) (sym same) (mirrored_insert s t is p n.id),
    (mirrored n, fewest_there s t is (m ∷ ms) (map mirrored (m ∷ ms)) (map_to (m ∷ ms)) (map_from (m ∷ ms)) n fewest, refl),
  )

  fills_there : (subs : List Subscriber) (s t : Spread) → AreMirrored s t → (x : Text × Partition) (new : Spread) → Fills subs s x new → Beside new (Fills (map mirrored subs) t x)
  fills_there subs s t is x new fills = by (finite.get s x.1) (is x.1) fills
    where
      by : (o : Option Text) → finite.get t x.1 ≡ option_map f o → MatchOption o (GoesTo s (subscribers_of subs x.0) x.1 new) (λ _. new ≡ s) → Beside new (Fills (map mirrored subs) t x)
      by None there goes =
          let (after, beside, then) = goes_there s t is (subscribers_of subs x.0) x.1 new goes in (
            after,
            beside,
            subst (λ o. MatchOption o (GoesTo t (subscribers_of (map mirrored subs) x.0) x.1 after) (λ _. after ≡ t)) (sym there)
                (subst (λ ms. GoesTo t ms x.1 after) (sym (named subs x.0)) then),
          )
      by (Some id) there same =
          (t, subst (λ y. AreMirrored y t) (sym same) is, subst (λ o. MatchOption o (GoesTo t (subscribers_of (map mirrored subs) x.0) x.1 t) (λ _. t ≡ t)) (sym there) refl)

  filled_there : (subs : List Subscriber) (s t : Spread) → AreMirrored s t → (xs : List (Text × Partition)) (new : Spread) → AreFilled subs s xs new → Beside new (AreFilled (map mirrored subs) t xs)
  filled_there subs s t is [] new same = (t, subst (λ y. AreMirrored y t) (sym same) is, refl)
  filled_there subs s t is (x ∷ xs) new (next, fills, later) =
      let (after, beside, then) = fills_there subs s t is x next fills in
      let (last, at_last, rest) = filled_there subs next after beside xs new later in
      (last, at_last, (after, then, rest))

  -- a move here is one there
  abbrev move_there : (view : Topics) (subs others : List Subscriber) → Mirror subs others → (s t : Spread) → AreMirrored s t → (from place : ℕ) → CanMove view subs s from place → CanMove view others t from place
  move_there view subs others mirror s t is from place move =
      record {
        owner = mirrored move.owner;
        is_member = mirror.to from move.owner move.is_member;
        moved = move.moved;
        is_partition = move.is_partition;
        owns = owner_there s t is move.moved.1 move.owner.id move.owns;
        other = mirrored move.other;
        subscribes = contains_there (subscribers_of subs move.moved.0) (subscribers_of others move.moved.0) (mirror.named_to move.moved.0) move.other move.subscribes;
        fewer = omega (arith, counts s t is move.other.id, counts s t is move.owner.id, move.fewer);
      }

  next_there : (view : Topics) (subs : List Subscriber) (s t : Spread) → AreMirrored s t → (new : Spread) → IsNextMove view subs s new → Beside new (IsNextMove view (map mirrored subs) t)
  next_there view subs s t is new next =
      let others : List Subscriber = map mirrored subs in
      let mirror : Mirror subs others = mirror_of subs in
      let turned : Mirror others subs = mirror_swapped subs others mirror in
      let back_is : AreMirrored t s = mirror_back s t is in (
        finite.insert t next.move.moved.1 (f next.to.id),
        subst (λ x. AreMirrored x (finite.insert t next.move.moved.1 (f next.to.id))) (sym next.is_new) (mirrored_insert s t is next.move.moved.1 next.to.id),
        record {
          from = next.from;
          place = next.place;
          move = move_there view subs others mirror s t is next.from next.place next.move;
          most = λ i k move.
              let here = move_there view others subs turned t s back_is i k move in
              omega (arith, counts s t is next.move.owner.id, counts t s back_is move.owner.id, next.most i k here);
          first_member = λ i k move before.
              let here = move_there view others subs turned t s back_is i k move in
              omega (arith, counts s t is next.move.owner.id, counts t s back_is move.owner.id, next.first_member i k here before);
          first_partition = λ k move. next.first_partition k (move_there view others subs turned t s back_is next.from k move);
          to = mirrored next.to;
          is_fewest =
              fewest_there s t is (subscribers_of subs next.move.moved.0) (subscribers_of others next.move.moved.0) (mirror.named_to next.move.moved.0) (mirror.named_from next.move.moved.0) next.to next.is_fewest;
          is_new = refl;
        },
      )

  moves_there : (view : Topics) (subs : List Subscriber) (s t : Spread) → AreMirrored s t → (steps : List Spread) (new : Spread) → AreMoves view subs s steps new
      → Beside new (λ last. (later : List Spread) × AreMoves view (map mirrored subs) t later last)
  moves_there view subs s t is [] new same = (t, subst (λ y. AreMirrored y t) (sym same) is, ([], refl))
  moves_there view subs s t is (next ∷ later) new (move, moves) =
      let (after, beside, then) = next_there view subs s t is next move in
      let (last, at_last, (steps, rest)) = moves_there view subs next after beside later new moves in
      (last, at_last, (after ∷ steps, (then, rest)))

  level_there : (view : Topics) (subs : List Subscriber) (s t : Spread) → AreMirrored s t → IsLevel view subs s → IsLevel view (map mirrored subs) t
  level_there view subs s t is level from place move =
      level from place (move_there view (map mirrored subs) subs (mirror_swapped subs (map mirrored subs) (mirror_of subs)) t s (mirror_back s t is) from place move)

  -- two that mirror one are one
  same_mirror : (s t u : Spread) → AreMirrored s t → AreMirrored s u → t ≡ u
  same_mirror s t u one another = same_owners t u (λ p. one p ∙ sym (another p))

  uniform_mirrored : (view : Topics) (subs : List Subscriber) (former former_there s t : Spread) → AreMirrored former former_there → AreMirrored s t → (kept_there : Spread)
      → (uniform : IsUniform view subs former s) → AreMirrored uniform.kept kept_there → IsUniform view (map mirrored subs) former_there t
  uniform_mirrored view subs former former_there s t was is kept_there uniform of_kept =
      let (filled, of_filled, fills) = filled_there subs uniform.kept kept_there of_kept (in_partition_order view) uniform.filled uniform.are_filled in
      let (last, of_last, (steps, moves)) = moves_there view subs uniform.filled filled of_filled uniform.steps s uniform.are_moves in
      record {
        kept = kept_there;
        is_kept = kept_mirrored view subs (map mirrored subs) (mirror_of subs) former former_there uniform.kept kept_there was of_kept uniform.is_kept;
        filled = filled;
        are_filled = fills;
        steps = steps;
        are_moves = subst (AreMoves view (map mirrored subs) filled steps) (same_mirror s last t of_last is) moves;
        is_level = level_there view subs s t is uniform.is_level;
      }

  -- ---- the assignor

  votes_mirrored : (subs : List Subscriber) (a : AssignorName) → votes (map mirrored subs) a ≡ votes subs a
  votes_mirrored subs a = ap length (filter-map mirrored (λ m. asks_for a m.assignor) subs) ∙ length-map (filter (λ m. asks_for a m.assignor) subs) mirrored

  assignor_mirrored : (subs : List Subscriber) → assignor_of (map mirrored subs) ≡ assignor_of subs
  assignor_mirrored subs = λ i. cond (nat_lt (votes_mirrored subs Uniform i) (votes_mirrored subs Range i)) Range Uniform

  -- the owners under the other ids
  abbrev pub mirror_image : Spread → Spread
  mirror_image s = finite.from_entries (map (λ e. (e.0, f e.1)) (finite.entries s))

  pub is_image : (s : Spread) → AreMirrored s (mirror_image s)
  is_image s p =
      finite.get-from_entries partition_cmp_total (map (λ e. (e.0, f e.1)) (finite.entries s)) p ∙ found_image (finite.entries s) ∙ ap (option_map f) (sym (finite.get-entries s p))
    where
      found_image : (es : List (Partition × Text)) → find partition_cmp p (map (λ e. (e.0, f e.1)) es) ≡ option_map f (find partition_cmp p es)
      found_image [] = refl
      found_image (e ∷ es) =
          elim (eq_by_cmp partition_cmp p e.0) as (λ b. cond b (Some (f e.1)) (find partition_cmp p (map (λ e. (e.0, f e.1)) es)) ≡ option_map f (cond b (Some e.1) (find partition_cmp p es))) [
            | true ↦ refl
            | false ↦ found_image es
          ]

  owners_mirrored : (name : AssignorName) (view : Topics) (subs : List Subscriber) (former former_there s t : Spread) → AreMirrored former former_there → AreMirrored s t
      → AreOwners name view subs former s → AreOwners name view (map mirrored subs) former_there t
  owners_mirrored Range view subs former former_there s t was is range = range_mirrored view subs (map mirrored subs) (mirror_of subs) s t is range
  owners_mirrored Uniform view subs former former_there s t was is uniform =
      uniform_mirrored view subs former former_there s t was is (mirror_image uniform.kept) uniform (is_image uniform.kept)

  pub assigned_mirrored : (view : Topics) (subs : List Subscriber) (former former_there s t : Spread) → AreMirrored former former_there → AreMirrored s t
      → AreOwners (assignor_of subs) view subs former s → AreOwners (assignor_of (map mirrored subs)) view (map mirrored subs) former_there t
  assigned_mirrored view subs former former_there s t was is owners =
      subst (λ name. AreOwners name view (map mirrored subs) former_there t) (sym (assignor_mirrored subs))
      (owners_mirrored (assignor_of subs) view subs former former_there s t was is owners)
