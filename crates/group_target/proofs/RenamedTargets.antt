-- A target that is renewed once a member has another id is the target that is renewed before, renamed: the member order is
-- by the instance, which stays.
use Rattle.std.proofs.Common.{◌≡◌, ◌≢◌, ◌+◌, Bool, true, false, cond, List, [], ◌∷◌, map, length, Option, Some, None, is_some, IsTrue, refl, sym, ap, subst, ◌∙◌, arith, true≢false}
use Rattle.std.specs.declared.cmp.Ordering.{Ordering}
use Rattle.std.specs.declared.cmp.Ordering.TheVariants.{Less, Equal, Greater}
use Rattle.std.specs.Ordering.{eq_by_cmp, is_eq, is_lt, ordering_then}
use Rattle.std.specs.List.{All, AllByRecursion}
use Rattle.std.specs.List.Sorted.{IsPermutation, IsSorted}
use Rattle.std.specs.Option.{option_map}
use Rattle.std.specs.Str.{bytes_eq}
use Rattle.std.specs.FinMap as finite
use Rattle.std.specs.FinMap.{find, put}
use Rattle.std.proofs.lemmas.List.{length-map}
use Rattle.std.proofs.lemmas.List.Elements.{All-contains, All-from_recursion, All-map}
use Rattle.std.proofs.lemmas.List.Sorted.{All-permutation, IsPermutation-cons, IsPermutation-map, IsPermutation-middle, IsPermutation-refl, IsPermutation-sym, IsPermutation-trans}
use Rattle.std.proofs.lemmas.Option.{get_or_from_slice_get}
use Rattle.std.proofs.lemmas.Slice.Eq.{bytes_eq-Decides}
use Rattle.group_types.specs.declared.partition.Partition.{Partition}
use Rattle.group_types.specs.Text.{Text, text_cmp}
use Rattle.group_types.specs.Topics.{Topics}
use Rattle.group_types.specs.Assignors.{Subscriber, instance_cmp, member_cmp}
use Rattle.group_types.specs.Owners.{Spread, renamed, renamed_id}
use Rattle.group_types.specs.Group.{Record, Records, Target}
use Rattle.group_types.specs.Renewal.{AreMembers, IsTarget, subscriber_of}
use Rattle.group_types.proofs.Entries.{entries_found}
use Rattle.group_types.proofs.Lookups.{Tie, ties, differs, tie, no_tie, Found, this, another, found, not_none, some_is, text_ties}
use Rattle.group_types.proofs.Orders.{text_cmp_total, text_cmp-IsAntisymmetric, text_cmp-itself}
use Rattle.group_types.proofs.SpreadLemmas.{get-renamed}
use Rattle.group_types.proofs.TargetOwners.{target_owners}
use Rattle.uniform_assign.proofs.Lists.{Contains-at, slice_get-map_at, some_at}
use Rattle.uniform_assign.proofs.Owners.{same_owners}
use Rattle.group_target.proofs.Mirrored.{AreMirrored, assigned_mirrored, mirrored}

-- ---- lists of entries

-- a new entry stands in front, but for the order
put_front : (k : Text) (v : Record) (es : List (Text × Record)) → find text_cmp k es ≡ None → IsPermutation (put text_cmp k v es) ((k, v) ∷ es)
put_front k v [] none = IsPermutation-refl ((k, v) ∷ [])
put_front k v (e ∷ es) none =
    elim (text_cmp k e.0) as (λ r. text_cmp k e.0 ≡ r → IsPermutation (finite.Entries.by_order r ((k, v) ∷ e ∷ es) ((e.0, v) ∷ es) (e ∷ put text_cmp k v es)) ((k, v) ∷ e ∷ es)) [
      | Less ↦ λ r. IsPermutation-refl ((k, v) ∷ e ∷ es)
      | Equal ↦ λ r. absurd (not_none e.1 (sym none ∙ ap (λ o. cond (is_eq o) (Some e.1) (find text_cmp k es)) r))
      | Greater ↦ λ r.
          IsPermutation-trans (e ∷ put text_cmp k v es) (e ∷ (k, v) ∷ es) ((k, v) ∷ e ∷ es)
          (IsPermutation-cons e (put text_cmp k v es) ((k, v) ∷ es) (put_front k v es (sym (ap (λ o. cond (is_eq o) (Some e.1) (find text_cmp k es)) r) ∙ none)))
          (IsPermutation-middle (e ∷ []) (k, v) es)
    ] refl

-- ---- comparisons of members

module _ (c d : Ordering) where
  tied_so : (r : Ordering) → (r ≡ Equal → c ≡ d) → ordering_then r c ≡ ordering_then r d
  tied_so Less so = refl
  tied_so Equal so = so refl
  tied_so Greater so = refl

  same_instance_cmp : (x y : Option Text) → ((s : Text) → x ≡ Some s → y ≡ Some s → c ≡ d) → (x ≡ None → y ≡ None → c ≡ d) → instance_cmp x y c ≡ instance_cmp x y d
  same_instance_cmp (Some a) (Some b) both none =
      tied_so (text_cmp a b) (λ tied. both a refl (ap Some (sym (text_cmp-IsAntisymmetric a b tied))))
  same_instance_cmp (Some a) None both none = refl
  same_instance_cmp None (Some b) both none = refl
  same_instance_cmp None None both none = none refl refl

-- ---- two ids, each the other's

module _ (old heir : Text) (apart : old ≢ heir) where
  swapped : Text → Text
  swapped x = cond (eq_by_cmp text_cmp x old) heir (cond (eq_by_cmp text_cmp x heir) old x)

  swapped_old : swapped old ≡ heir
  unfolding swapped
  swapped_old = ap (λ b. cond b heir (cond (eq_by_cmp text_cmp old heir) old old)) (text_ties old)

  swapped_heir : swapped heir ≡ old
  unfolding swapped
  swapped_heir = (λ i. cond (no_tie heir old (λ same. apart (sym same)) i) heir (cond (text_ties heir i) old heir))

  swapped_other : (x : Text) → x ≢ old → x ≢ heir → swapped x ≡ x
  unfolding swapped
  swapped_other x not_old not_heir = (λ i. cond (no_tie x old not_old i) heir (cond (no_tie x heir not_heir i) old x))

  swapped_back : (x : Text) → swapped (swapped x) ≡ x
  swapped_back x = by (tie x old) (tie x heir)
    where
      by : Tie x old → Tie x heir → swapped (swapped x) ≡ x
      by (ties same) other = ap (λ y. swapped (swapped y)) same ∙ ap swapped swapped_old ∙ swapped_heir ∙ sym same
      by (differs _ _) (ties same) = ap (λ y. swapped (swapped y)) same ∙ ap swapped swapped_heir ∙ swapped_old ∙ sym same
      by (differs not_old _) (differs not_heir _) = ap swapped (swapped_other x not_old not_heir) ∙ swapped_other x not_old not_heir

  -- ---- owners

  -- nobody owns under the id
  abbrev pub Lacks : Text → Spread → Type 0
  Lacks id s = (p : Partition) → finite.get s p ≡ Some id → ⊥

  bytes_apart : (x : Text) → x ≢ old → bytes_eq x old ≡ false
  bytes_apart x other = by (bytes_eq x old) refl
    where
      by : (b : Bool) → bytes_eq x old ≡ b → b ≡ false
      by true so = absurd (other ((bytes_eq-Decides x old).0 so))
      by false so = refl

  pub renamed_old : renamed_id old heir old ≡ heir
  renamed_old = ap (λ b. cond b heir old) ((bytes_eq-Decides old old).1 refl)

  pub renamed_other : (x : Text) → x ≢ old → renamed_id old heir x ≡ x
  renamed_other x other = ap (λ b. cond b heir x) (bytes_apart x other)

  renamed_is_swapped : (x : Text) → x ≢ heir → renamed_id old heir x ≡ swapped x
  renamed_is_swapped x not_heir = by (tie x old)
    where
      by : Tie x old → renamed_id old heir x ≡ swapped x
      by (ties same) = ap (renamed_id old heir) same ∙ renamed_old ∙ sym (ap swapped same ∙ swapped_old)
      by (differs other _) = renamed_other x other ∙ sym (swapped_other x other not_heir)

  of_owner : (o : Option Text) → (o ≡ Some heir → ⊥) → option_map (renamed_id old heir) o ≡ option_map swapped o
  of_owner None lacks = refl
  of_owner (Some x) lacks = ap Some (renamed_is_swapped x (λ same. lacks (ap Some same)))

  renamed_mirrors : (s : Spread) → Lacks heir s → AreMirrored swapped swapped_back s (renamed s old heir)
  renamed_mirrors s lacks p = get-renamed s old heir p ∙ of_owner (finite.get s p) (lacks p)

  -- ---- the members

  abbrev Turned : Subscriber → Subscriber
  Turned m = mirrored swapped swapped_back m

  module _ (rest : Records) (a : Record) (no_old : finite.get rest old ≡ None) (no_heir : finite.get rest heir ≡ None) (given : Text) (has_given : a.instance ≡ Some given)
      (alone : (m n : Text) (r s : Record) (i : Text) → finite.get (finite.insert rest old a) m ≡ Some r → finite.get (finite.insert rest old a) n ≡ Some s
      → r.instance ≡ Some i → s.instance ≡ Some i → m ≡ n) where
    abbrev Here : Records
    Here = finite.insert rest old a

    abbrev There : Records
    There = finite.insert rest heir a

    fronted : (k : Text) → finite.get rest k ≡ None → IsPermutation (map subscriber_of (finite.entries (finite.insert rest k a))) (subscriber_of (k, a) ∷ map subscriber_of (finite.entries rest))
    fronted k none =
        IsPermutation-map subscriber_of (finite.entries (finite.insert rest k a)) ((k, a) ∷ finite.entries rest)
        (subst (λ es. IsPermutation es ((k, a) ∷ finite.entries rest)) (sym (finite.entries-insert text_cmp_total rest k a))
        (put_front k a (finite.entries rest) (sym (finite.get-entries rest k) ∙ none)))

    unturned : (es : List (Text × Record)) → find text_cmp old es ≡ None → find text_cmp heir es ≡ None → map Turned (map subscriber_of es) ≡ map subscriber_of es
    unturned [] none_old none_heir = refl
    unturned (e ∷ es) none_old none_heir =
        let first = past old none_old in
        let second = past heir none_heir in
        λ i. record (subscriber_of e) { id = swapped_other e.0 first.0 second.0 i } ∷ unturned es first.1 second.1 i
      where
        past : (k : Text) → find text_cmp k (e ∷ es) ≡ None → (e.0 ≢ k) × (find text_cmp k es ≡ None)
        past k none = by (tie k e.0)
          where
            by : Tie k e.0 → (e.0 ≢ k) × (find text_cmp k es ≡ None)
            by (ties same) = absurd (not_none e.1 (sym none ∙ ap (λ b. cond b (Some e.1) (find text_cmp k es)) (ap (eq_by_cmp text_cmp k) (sym same) ∙ text_ties k)))
            by (differs other so) = (λ same. other (sym same), sym (ap (λ b. cond b (Some e.1) (find text_cmp k es)) so) ∙ none)

    turned_entries : IsPermutation (map subscriber_of (finite.entries There)) (map Turned (map subscriber_of (finite.entries Here)))
    turned_entries =
        let base : List Subscriber = map subscriber_of (finite.entries rest) in
        let turned : map Turned (subscriber_of (old, a) ∷ base) ≡ subscriber_of (heir, a) ∷ base =
        (λ i. record (subscriber_of (old, a)) { id = swapped_old i } ∷ unturned (finite.entries rest) (sym (finite.get-entries rest old) ∙ no_old) (sym (finite.get-entries rest heir) ∙ no_heir) i) in
        IsPermutation-trans (map subscriber_of (finite.entries There)) (subscriber_of (heir, a) ∷ base) (map Turned (map subscriber_of (finite.entries Here))) (fronted heir no_heir)
        (subst (λ xs. IsPermutation xs (map Turned (map subscriber_of (finite.entries Here)))) turned
        (IsPermutation-sym (map Turned (map subscriber_of (finite.entries Here))) (map Turned (subscriber_of (old, a) ∷ base))
        (IsPermutation-map Turned (map subscriber_of (finite.entries Here)) (subscriber_of (old, a) ∷ base) (fronted old no_old))))

    -- whose record a member is
    record Known (m : Subscriber) : Type 0 where
      kept : Record
      is_kept : finite.get Here m.id ≡ Some kept
      instance : m.instance ≡ kept.instance

    known_entries : (es : List (Text × Record)) → AllByRecursion (λ e. finite.get Here e.0 ≡ Some e.1) es → AllByRecursion (λ e. Known (subscriber_of e)) es
    known_entries [] there = tt
    known_entries (e ∷ es) there = (record { kept = e.1; is_kept = there.0; instance = refl }, known_entries es there.1)

    all_known : (subs : List Subscriber) → AreMembers Here subs → All Known subs
    all_known subs members =
        All-permutation Known (map subscriber_of (finite.entries Here)) subs members.same
        (All-map Known subscriber_of (finite.entries Here) (All-from_recursion _ (finite.entries Here) (known_entries (finite.entries Here) (entries_found Here))))

    -- who has no instance is neither of the two
    not_turned : (m : Subscriber) → Known m → m.instance ≡ None → swapped m.id ≡ m.id
    not_turned m known none = by (found rest old a m.id known.kept known.is_kept)
      where
        by : Found rest old a m.id known.kept → swapped m.id ≡ m.id
        by (this is_old is_a) = absurd (not_none given (sym none ∙ known.instance ∙ ap (λ (r : Record). r.instance) is_a ∙ has_given))
        by (another other _ there) = swapped_other m.id other (λ same. not_none known.kept (sym no_heir ∙ ap (finite.get rest) (sym same) ∙ there))

    same_cmp : (m n : Subscriber) → Known m → Known n → member_cmp (Turned m) (Turned n) ≡ member_cmp m n
    same_cmp m n one two =
        same_instance_cmp (text_cmp (swapped m.id) (swapped n.id)) (text_cmp m.id n.id) m.instance n.instance
        (λ i is_m is_n.
        let same : m.id ≡ n.id = alone m.id n.id one.kept two.kept i one.is_kept two.is_kept (sym one.instance ∙ is_m) (sym two.instance ∙ is_n) in
        ap (λ x. text_cmp (swapped m.id) (swapped x)) (sym same) ∙ text_cmp-itself (swapped m.id) ∙ sym (ap (text_cmp m.id) (sym same) ∙ text_cmp-itself m.id))
        (λ is_m is_n. λ i. text_cmp (not_turned m one is_m i) (not_turned n two is_n i))

    turned_sorted : (subs : List Subscriber) → All Known subs → IsSorted member_cmp subs → IsSorted member_cmp (map Turned subs)
    turned_sorted subs known sorted k d low below =
        let long : length (map Turned subs) ≡ length subs = length-map subs Turned in
        let (m, is_m) = some_at subs k (omega (arith, long, below)) in
        let (n, is_n) = some_at subs (k + 1) (omega (arith, long, below)) in
        let one : Known m = All-contains Known subs m known (Contains-at subs k m is_m) in
        let two : Known n = All-contains Known subs n known (Contains-at subs (k + 1) n is_n) in
        (λ i. is_lt (member_cmp (get_or_from_slice_get (map Turned subs) (k + 1) (Turned n) d (slice_get-map_at Turned subs (k + 1) n is_n) i)
        (get_or_from_slice_get (map Turned subs) k (Turned m) d (slice_get-map_at Turned subs k m is_m) i)))
        ∙ ap is_lt (same_cmp n m two one)
        ∙ sym (λ i. is_lt (member_cmp (get_or_from_slice_get subs (k + 1) n d is_n i) (get_or_from_slice_get subs k m d is_m i)))
        ∙ sorted k d low (omega (arith, long, below))

    -- the target under the other id
    target_renamed : (view : Topics) (former target : Target) → Lacks heir former → Lacks heir target → IsTarget Here view former target → IsTarget There view (renamed former old heir) (renamed target old heir)
    target_renamed view former target no_former no_target (subs, members, owners) = (
      map Turned subs,
      record {
        same =
            IsPermutation-trans (map subscriber_of (finite.entries There)) (map Turned (map subscriber_of (finite.entries Here))) (map Turned subs) turned_entries
            (IsPermutation-map Turned (map subscriber_of (finite.entries Here)) subs members.same);
        sorted = turned_sorted subs (all_known subs members) members.sorted;
      },
      assigned_mirrored swapped swapped_back view subs former (renamed former old heir) target (renamed target old heir)
          (renamed_mirrors former no_former) (renamed_mirrors target no_target) owners,
    )

    -- nobody of the target is the heir
    target_lacks : (view : Topics) (former target : Target) → IsTarget Here view former target → Lacks heir target
    target_lacks view former target is p owns =
        by (tie heir old) ((target_owners Here view former target is p heir owns).0)
      where
        by : Tie heir old → IsTrue (finite.contains_key Here heir) → ⊥
        by (ties same) there = apart (sym same)
        by (differs _ so) there =
            true≢false (sym there ∙ ap is_some (finite.get-insert text_cmp_total rest old a heir ∙ ap (λ b. cond b (Some a) (finite.get rest heir)) so ∙ no_heir))

    -- the target is renewed, and then renamed
    pub renewed_there : (view : Topics) (former target : Target) → Lacks heir former → IsTarget Here view former target → IsTarget There view (renamed former old heir) (renamed target old heir) × Lacks heir target
    renewed_there view former target no_former is =
        let none = target_lacks view former target is in
        (target_renamed view former target no_former none is, none)

-- ---- and back

module _ (old heir : Text) (apart : old ≢ heir) where
  back_id : (x : Text) → x ≢ heir → renamed_id heir old (renamed_id old heir x) ≡ x
  back_id x not_heir = by (tie x old)
    where
      by : Tie x old → renamed_id heir old (renamed_id old heir x) ≡ x
      by (ties same) =
          ap (λ y. renamed_id heir old (renamed_id old heir y)) same
          ∙ ap (renamed_id heir old) (renamed_old old heir apart) ∙ renamed_old heir old (λ is. apart (sym is)) ∙ sym same
      by (differs other _) =
          ap (renamed_id heir old) (renamed_other old heir apart x other) ∙ renamed_other heir old (λ is. apart (sym is)) x not_heir

  back_owner : (o : Option Text) → (o ≡ Some heir → ⊥) → option_map (renamed_id heir old) (option_map (renamed_id old heir) o) ≡ o
  back_owner None lacks = refl
  back_owner (Some x) lacks = ap Some (back_id x (λ same. lacks (ap Some same)))

  pub renamed_back : (s : Spread) → ((p : Partition) → finite.get s p ≡ Some heir → ⊥) → renamed (renamed s old heir) heir old ≡ s
  renamed_back s lacks =
      same_owners (renamed (renamed s old heir) heir old) s (λ p.
      get-renamed (renamed s old heir) heir old p ∙ ap (option_map (renamed_id heir old)) (get-renamed s old heir p) ∙ back_owner (finite.get s p) (lacks p))

  gone_id : (o : Option Text) → (o ≡ Some heir → ⊥) → option_map (renamed_id old heir) o ≡ Some old → ⊥
  gone_id None lacks is = absurd (not_none old is)
  gone_id (Some x) lacks is = by (tie x old)
    where
      by : Tie x old → ⊥
      by (ties same) = apart (sym (some_is (renamed_id old heir x) old is) ∙ ap (renamed_id old heir) same ∙ renamed_old old heir apart)
      by (differs other _) = other (sym (renamed_other old heir apart x other) ∙ some_is (renamed_id old heir x) old is)

  -- nobody owns under the old id any more
  pub renamed_lacks : (s : Spread) → ((p : Partition) → finite.get s p ≡ Some heir → ⊥) → (p : Partition) → finite.get (renamed s old heir) p ≡ Some old → ⊥
  renamed_lacks s lacks p owns = gone_id (finite.get s p) (lacks p) (sym (get-renamed s old heir p) ∙ owns)
