-- The steps of uniform over one topic, which all members subscribe.
use Rattle.std.proofs.Common.{◌≡◌, ℕ, zero, suc, ◌+◌, ◌<◌, ◌≤◌, Bool, true, false, cond, ◌&&◌, nat_le, nat_lt, List, [], ◌∷◌, length, filter, Option, Some, None, refl, sym, ap, subst, ◌∙◌, arith, codes, slice_get, MatchOption, ltb-true}
use Rattle.std.specs.List.{AllByRecursion, Contains, flat_map, list_all}
use Rattle.std.specs.Ordering.{eq_by_cmp}
use Rattle.std.specs.declared.cmp.Ordering.{Ordering}
use Rattle.std.specs.Cmp.{Equal-is}
use Rattle.std.specs.FinMap as finite
use Rattle.std.specs.FinMap.{find, put}
use Rattle.std.proofs.lemmas.Bool.{and_parts, leb-true}
use Rattle.std.proofs.lemmas.List.{nil_from_length}
use Rattle.group_types.specs.declared.partition.Partition.{Partition}
use Rattle.group_types.specs.Text.{Text, text_cmp}
use Rattle.group_types.specs.Sets.{has, nothing}
use Rattle.group_types.specs.Partition.{partition_cmp}
use Rattle.group_types.specs.Topics.{Topic}
use Rattle.group_types.specs.Assignors.{Subscriber, subscribers_of}
use Rattle.group_types.specs.Owners.{IsIndex, IsSubscriber, Spread}
use Rattle.group_types.specs.Uniform.{CanMove, Fills, GoesTo, IsFewest, IsKept, IsLevel, IsNextMove, count, in_partition_order, partitions_of}
use Rattle.group_types.proofs.Lookups.{get-inserted, not_none, some_is}
use Rattle.group_types.proofs.Orders.{partition_cmp-IsAntisymmetric, partition_cmp_total, text_cmp_total}
use Rattle.group_types.proofs.SetLemmas.{has-with_one}
use Rattle.machine_laws.specs.Uniform.{lettered, members, one_topic, partition}

-- ---- members that all pass a test

contains_at : {X : Type 0} (xs : List X) (k : ℕ) (x : X) → slice_get xs k ≡ Some x → Contains xs x
contains_at [] k x is = absurd (not_none x is)
contains_at (y ∷ xs) zero x is = (0, omega arith, some_is y x is)
contains_at (y ∷ xs) (suc k) x is = let later = contains_at xs k x is in let below = later.1 in (suc later.0, omega (arith, below), later.2)

module _ (test : Subscriber → Bool) where
  passes_at : (ms : List Subscriber) → list_all test ms ≡ true → (k : ℕ) (m : Subscriber) → slice_get ms k ≡ Some m → test m ≡ true
  passes_at [] all k m is = absurd (not_none m is)
  passes_at (x ∷ ms) all zero m is = ap test (sym (some_is x m is)) ∙ (and_parts (test x) (list_all test ms) all).0
  passes_at (x ∷ ms) all (suc k) m is = passes_at ms (and_parts (test x) (list_all test ms) all).1 k m is

  passes : (ms : List Subscriber) → list_all test ms ≡ true → (m : Subscriber) → Contains ms m → test m ≡ true
  passes [] all m (k, below, is) = absurd (omega (arith, below))
  passes (x ∷ ms) all m (zero, below, is) = ap test (sym is) ∙ (and_parts (test x) (list_all test ms) all).0
  passes (x ∷ ms) all m (suc k, below, is) = passes ms (and_parts (test x) (list_all test ms) all).1 m (k, omega (arith, below), is)

  some_pass : (taken : Subscriber → Bool) (ms : List Subscriber) → list_all test ms ≡ true → list_all test (filter taken ms) ≡ true
  some_pass taken [] all = refl
  some_pass taken (x ∷ ms) all = by (some_pass taken ms (and_parts (test x) (list_all test ms) all).1) (taken x)
    where
      by : list_all test (filter taken ms) ≡ true → (b : Bool) → list_all test (cond b (x ∷ filter taken ms) (filter taken ms)) ≡ true
      by rest true = ap (λ p. p && list_all test (filter taken ms)) (and_parts (test x) (list_all test ms) all).0 ∙ rest
      by rest false = rest

-- by a count: no member has fewer, and those before a place have more
abbrev pub has_fewest : (Text → ℕ) → ℕ → ℕ → List Subscriber → Bool
has_fewest f fewest place [] = true
has_fewest f fewest zero (m ∷ ms) = nat_le fewest (f m.id) && has_fewest f fewest zero ms
has_fewest f fewest (suc place) (m ∷ ms) = nat_lt fewest (f m.id) && has_fewest f fewest place ms

fewest_at : (f : Text → ℕ) (fewest place : ℕ) (ms : List Subscriber) → has_fewest f fewest place ms ≡ true → (k : ℕ) (m : Subscriber) → slice_get ms k ≡ Some m
    → (fewest ≤ f m.id) × (k < place → fewest < f m.id)
fewest_at f fewest place [] all k m is = absurd (not_none m is)
fewest_at f fewest zero (x ∷ ms) all zero m is = (
  subst (λ (y : Subscriber). fewest ≤ f y.id) (some_is x m is) (leb-true fewest (f x.id) (and_parts _ _ all).0),
  λ before. absurd (omega (arith, before)),
)
fewest_at f fewest zero (x ∷ ms) all (suc k) m is = ((fewest_at f fewest zero ms (and_parts _ _ all).1 k m is).0, λ before. absurd (omega (arith, before)))
fewest_at f fewest (suc place) (x ∷ ms) all zero m is =
    let less : fewest < f m.id = subst (λ (y : Subscriber). fewest < f y.id) (some_is x m is) (ltb-true fewest (f x.id) (and_parts _ _ all).0) in
    (omega (arith, less), λ before. less)
fewest_at f fewest (suc place) (x ∷ ms) all (suc k) m is =
    let later = fewest_at f fewest place ms (and_parts (nat_lt fewest (f x.id)) (has_fewest f fewest place ms) all).1 k m is in
    (later.0, λ before. later.1 (omega (arith, before)))

-- ---- the topic

asks : (letter : ℕ) → has (lettered letter).names (codes "t") ≡ true
asks letter = has-with_one text_cmp_total nothing (codes "t") (codes "t")

-- all subscribe it
all_subscribe : (letters : Text) → subscribers_of (members letters) (codes "t") ≡ members letters
all_subscribe [] = refl
all_subscribe (letter ∷ letters) =
    ap (λ b. cond b (lettered letter ∷ subscribers_of (members letters) (codes "t")) (subscribers_of (members letters) (codes "t"))) (asks letter)
    ∙ ap (λ ms. lettered letter ∷ ms) (all_subscribe letters)

abbrev pub topic : ℕ → Topic
topic n = record { id = codes "0123456789abcdef"; count = n }

abbrev pub parts : ℕ → List (Text × Partition)
parts n = flat_map partitions_of ((codes "t", topic n) ∷ [])

pub no_entries : {K X : Type 0} (R : K → K → Ordering) → finite.entries (finite.empty {X = X} {R = R}) ≡ []
no_entries {X = X} R = nil_from_length (finite.entries (finite.empty {X = X} {R = R})) (sym (finite.len-entries {R = R} finite.empty) ∙ finite.len-empty R X)

pub parts_of : (n : ℕ) → in_partition_order (one_topic n) ≡ parts n
parts_of n =
    ap (flat_map partitions_of)
    (finite.entries-insert text_cmp_total finite.empty (codes "t") (topic n) ∙ ap (put text_cmp (codes "t") (topic n)) (no_entries text_cmp))

-- the member at a place subscribes each partition
pub subscribes : (letters : Text) (n place letter index : ℕ) → slice_get (members letters) place ≡ Some (lettered letter) → IsIndex (partition index).index n
    → IsSubscriber (one_topic n) (members letters) (partition index) (letter ∷ [])
subscribes letters n place letter index there within = (
  lettered letter,
  contains_at (members letters) place (lettered letter) there,
  refl,
  (codes "t", topic n, get-inserted finite.empty (codes "t") (topic n), asks letter, refl, within),
)

-- ---- owners

abbrev pub Owned : Type 0
Owned = List (Partition × Text)

abbrev pub spread : Owned → Spread
spread es = finite.from_entries es

abbrev pub in_key_order : Owned → Owned
in_key_order [] = []
in_key_order (e ∷ es) = put partition_cmp e.0 e.1 (in_key_order es)

entries_of : (es : Owned) → finite.entries (spread es) ≡ in_key_order es
entries_of [] = no_entries partition_cmp
entries_of (e ∷ es) = finite.entries-insert partition_cmp_total (spread es) e.0 e.1 ∙ ap (put partition_cmp e.0 e.1) (entries_of es)

pub same_spreads : (es fs : Owned) → in_key_order es ≡ in_key_order fs → spread es ≡ spread fs
same_spreads es fs same = finite.same_entries_map (spread es) (spread fs) (entries_of es ∙ same ∙ sym (entries_of fs))

-- how many partitions the member with an id owns
abbrev pub counted : Owned → Text → ℕ
counted es id = length (filter (λ e. eq_by_cmp text_cmp id e.1) (in_key_order es))

counts : (es : Owned) → counted es ≡ count (spread es)
counts es = λ i id. length (filter (λ e. eq_by_cmp text_cmp id e.1) (sym (entries_of es) i))

pub owner_of : (es : Owned) (p : Partition) (o : Option Text) → find partition_cmp p es ≡ o → finite.get (spread es) p ≡ o
owner_of es p o is = finite.get-from_entries partition_cmp_total es p ∙ is

pub each_owner : (P : Partition → Text → Type 0) (es : Owned) → AllByRecursion (λ e. P e.0 e.1) es → (p : Partition) (id : Text) → find partition_cmp p es ≡ Some id → P p id
each_owner P [] all p id is = absurd (not_none id is)
each_owner P (e ∷ es) all p id is = by (each_owner P es all.1 p id) (eq_by_cmp partition_cmp p e.0) refl is
  where
    by : (find partition_cmp p es ≡ Some id → P p id) → (b : Bool) → eq_by_cmp partition_cmp p e.0 ≡ b → cond b (Some e.1) (find partition_cmp p es) ≡ Some id → P p id
    by rest true same is =
        subst (λ q. P q id) (sym (partition_cmp-IsAntisymmetric p e.0 ((Equal-is (partition_cmp p e.0)).0 same))) (subst (P e.0) (some_is e.1 id is) all.0)
    by rest false apart is = rest is

-- former owners that all subscribe what they own are kept
pub all_kept : (letters : Text) (n : ℕ) (former : Owned) → AllByRecursion (λ e. IsSubscriber (one_topic n) (members letters) e.0 e.1) former
    → IsKept (one_topic n) (members letters) (spread former) (spread former)
all_kept letters n former all p id = (
  λ is. (is, each_owner (IsSubscriber (one_topic n) (members letters)) former all p id (sym (finite.get-from_entries partition_cmp_total former p) ∙ is)),
  λ both. both.0,
)

fewest : (letters : Text) (es : Owned) (place : ℕ) (n : Subscriber) → slice_get (members letters) place ≡ Some n
    → has_fewest (counted es) (counted es n.id) place (members letters) ≡ true → IsFewest (spread es) (members letters) n
fewest letters es place n there all =
    record {
      place = place;
      is_there = there;
      fewest = λ k m is. subst (λ (f : Text → ℕ). f n.id ≤ f m.id) (counts es) (fewest_at (counted es) (counted es n.id) place (members letters) all k m is).0;
      first = λ k m before is.
          subst (λ (f : Text → ℕ). f n.id < f m.id) (counts es) ((fewest_at (counted es) (counted es n.id) place (members letters) all k m is).1 before);
    }

-- ---- fill

-- a partition without an owner goes to the member at a place
pub filled : (letter : ℕ) (letters : Text) (es : Owned) (p : Partition) (place : ℕ) (n : Subscriber) → find partition_cmp p es ≡ None
    → slice_get (members (letter ∷ letters)) place ≡ Some n → has_fewest (counted es) (counted es n.id) place (members (letter ∷ letters)) ≡ true
    → Fills (members (letter ∷ letters)) (spread es) (codes "t", p) (spread ((p, n.id) ∷ es))
filled letter letters es p place n free there all =
    subst (λ o. MatchOption o (GoesTo (spread es) (subscribers_of (members (letter ∷ letters)) (codes "t")) p (spread ((p, n.id) ∷ es))) (λ _. spread ((p, n.id) ∷ es) ≡ spread es))
    (sym (owner_of es p None free))
    (subst (λ ms. GoesTo (spread es) ms p (spread ((p, n.id) ∷ es))) (sym (all_subscribe (letter ∷ letters)))
    (n, fewest (letter ∷ letters) es place n there all, refl))

-- a partition with an owner stays
pub stays : (letters : Text) (es : Owned) (p : Partition) (id : Text) → find partition_cmp p es ≡ Some id → Fills (members letters) (spread es) (codes "t", p) (spread es)
stays letters es p id is =
    subst (λ o. MatchOption o (GoesTo (spread es) (subscribers_of (members letters) (codes "t")) p (spread es)) (λ _. spread es ≡ spread es)) (sym (owner_of es p (Some id) is)) refl

-- ---- level

module _ (letters : Text) (n : ℕ) (es : Owned) where
  abbrev pub Moves : ℕ → ℕ → Type 0
  Moves from place = CanMove (one_topic n) (members letters) (spread es) from place

  -- who has one or two
  abbrev pub has_one_or_two : Subscriber → Bool
  has_one_or_two m = nat_le 1 (counted es m.id) && nat_le (counted es m.id) 2

  pub level : list_all has_one_or_two (members letters) ≡ true → IsLevel (one_topic n) (members letters) (spread es)
  level all from place move =
      let few = leb-true (counted es move.owner.id) 2 (and_parts (nat_le 1 (counted es move.owner.id)) (nat_le (counted es move.owner.id) 2) (passes_at has_one_or_two (members letters) all from move.owner move.is_member)).1 in
      let taken = passes has_one_or_two (subscribers_of (members letters) move.moved.0) (some_pass has_one_or_two (λ m. has m.names move.moved.0) (members letters) all) move.other move.subscribes in
      let some = leb-true 1 (counted es move.other.id) (and_parts (nat_le 1 (counted es move.other.id)) (nat_le (counted es move.other.id) 2) taken).0 in
      let fewer : counted es move.other.id + 1 < counted es move.owner.id = subst (λ (f : Text → ℕ). f move.other.id + 1 < f move.owner.id) (sym (counts es)) move.fewer in
      omega (arith, few, some, fewer)

  -- from the first member, whose first partition to give away has this place, to the member at a place
  pub next : (place : ℕ) (p : Partition) (owner : Subscriber) (to : ℕ) (other : Subscriber)
      → slice_get (members letters) 0 ≡ Some owner → slice_get (parts n) place ≡ Some (codes "t", p) → find partition_cmp p es ≡ Some owner.id
      → slice_get (members letters) to ≡ Some other → nat_lt (counted es other.id + 1) (counted es owner.id) ≡ true
      → list_all (λ m. nat_le (counted es m.id) (counted es owner.id)) (members letters) ≡ true
      → has_fewest (counted es) (counted es other.id) to (members letters) ≡ true
      → ((k : ℕ) → Moves 0 k → place ≤ k)
      → IsNextMove (one_topic n) (members letters) (spread es) (spread ((p, other.id) ∷ es))
  next place p owner to other is_owner is_part owns is_other fewer most none first =
      record {
        from = 0;
        place = place;
        move = record {
          owner = owner;
          is_member = is_owner;
          moved = (codes "t", p);
          is_partition = ap (λ xs. slice_get xs place) (parts_of n) ∙ is_part;
          owns = owner_of es p (Some owner.id) owns;
          other = other;
          subscribes = subst (λ ms. Contains ms other) (sym (all_subscribe letters)) (contains_at (members letters) to other is_other);
          fewer = subst (λ (f : Text → ℕ). f other.id + 1 < f owner.id) (counts es) (ltb-true (counted es other.id + 1) (counted es owner.id) fewer);
        };
        most = λ i k it.
            subst (λ (f : Text → ℕ). f it.owner.id ≤ f owner.id) (counts es)
            (leb-true (counted es it.owner.id) (counted es owner.id)
            (passes_at (λ m. nat_le (counted es m.id) (counted es owner.id)) (members letters) most i it.owner it.is_member));
        first_member = λ i k it before. absurd (omega (arith, before));
        first_partition = first;
        to = other;
        is_fewest = subst (λ ms. IsFewest (spread es) ms other) (sym (all_subscribe letters)) (fewest letters es to other is_other none);
        is_new = refl;
      }
