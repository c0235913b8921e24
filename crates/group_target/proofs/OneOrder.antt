-- The members have one order: two sorted lists of the same members are one list.
use Rattle.std.proofs.Common.{◌≡◌, ◌<◌, ℕ, zero, suc, Bool, true, false, List, [], ◌∷◌, map, length, get_or, refl, sym, ap, subst, ◌∙◌, ◌&&◌, arith, inl, inr, true≢false, Option, Some, None}
use Rattle.std.specs.declared.cmp.Ordering.{Ordering}
use Rattle.std.specs.declared.cmp.Ordering.TheVariants.{Less, Equal, Greater}
use Rattle.std.specs.Ordering.{is_lt, ordering_reverse, ordering_then}
use Rattle.std.specs.List.{AllPairs, Contains, slice_get}
use Rattle.std.specs.List.Sorted.{IsSorted}
use Rattle.std.specs.FinMap as finite
use Rattle.std.specs.FinMap.Entries.{below_all}
use Rattle.std.proofs.lemmas.List.Sorted.{Contains-permutation, IsPermutation-sym, ranks_by, sorted_far}
use Rattle.std.proofs.lemmas.Bool.{cases_order}
use Rattle.std.proofs.lemmas.Option.{get_or_from_slice_get, slice_get-get_or, slice_get_within}
use lib.Dec.{T}
use Rattle.group_types.specs.Text.{Text, text_cmp}
use Rattle.group_types.specs.Assignors.{Subscriber, IdsAreApart, instance_cmp, member_cmp}
use Rattle.group_types.specs.Group.{Record, Records}
use Rattle.group_types.specs.Renewal.{AreMembers, subscriber_of}
use Rattle.group_types.proofs.Orders.{text_cmp-IsAntisymmetric, text_cmp-itself}
use Rattle.range_assign.proofs.Apart.{IdsAreApart-permutation}
use Rattle.range_assign.proofs.MemberOrder.{member_cmp_total}
use Rattle.uniform_assign.proofs.Lists.{slice_get-map_from}
use Rattle.range_assign.proofs.Spreads.{Contains-cons, Contains-head, Contains-cases}

-- ---- members whose ids are apart

-- the first comes before all the others, and so on
abbrev pub Rise : List Subscriber → Type 0
Rise [] = Unit {0}
Rise (m ∷ ms) = ((n : Subscriber) → Contains ms n → member_cmp m n ≡ Less) × Rise ms

not_itself : (m n : Subscriber) → member_cmp m n ≡ Less → m ≡ n → ⊥
not_itself m n less same =
    let is : member_cmp m m ≡ Less = subst (λ x. member_cmp m x ≡ Less) (sym same) less in
    let never : Less ≡ Greater = sym is ∙ member_cmp_total.antisymm m m ∙ ap ordering_reverse is in
    absurd (cc)

not_both : (m n : Subscriber) → member_cmp m n ≡ Less → member_cmp n m ≡ Less → ⊥
not_both m n one other =
    let never : Less ≡ Greater = sym one ∙ member_cmp_total.antisymm m n ∙ ap ordering_reverse other in
    absurd (cc)

pub no_member : (m : Subscriber) → Contains [] m → ⊥
no_member m there = let within = there.1 in omega arith

-- two rising lists of the same members are one
same_rising : (ms ns : List Subscriber) → Rise ms → Rise ns → ((m : Subscriber) → Contains ms m → Contains ns m) → ((m : Subscriber) → Contains ns m → Contains ms m) → ms ≡ ns
same_rising [] [] rise_ms rise_ns to from = refl
same_rising [] (n ∷ ns) rise_ms rise_ns to from = absurd (no_member n (from n (Contains-head n ns)))
same_rising (m ∷ ms) [] rise_ms rise_ns to from = absurd (no_member m (to m (Contains-head m ms)))
same_rising (m ∷ ms) (n ∷ ns) rise_ms rise_ns to from =
    let same : m ≡ n =
    Contains-cases n ns m (λ is. sym is) (λ in_ns. Contains-cases m ms n (λ is. is) (λ in_ms. absurd (not_both m n (rise_ms.0 n in_ms) (rise_ns.0 m in_ns))) (from n (Contains-head n ns))) (to m (Contains-head m ms)) in
    let to_later : (x : Subscriber) → Contains ms x → Contains ns x = λ x there.
    Contains-cases n ns x (λ is. absurd (not_itself m x (rise_ms.0 x there) (same ∙ is))) (λ in_ns. in_ns) (to x (Contains-cons m ms x there)) in
    let from_later : (x : Subscriber) → Contains ns x → Contains ms x = λ x there.
    Contains-cases m ms x (λ is. absurd (not_itself n x (rise_ns.0 x there) (sym same ∙ is))) (λ in_ms. in_ms) (from x (Contains-cons n ns x there)) in
    (λ i. same i ∷ same_rising ms ns rise_ms.1 rise_ns.1 to_later from_later i)

-- ---- sorted members with ids that are apart rise

then_equal : (first rest : Ordering) → ordering_then first rest ≡ Equal → rest ≡ Equal
then_equal Less rest is = absurd (cc)
then_equal Equal rest is = is
then_equal Greater rest is = absurd (cc)

tied_ids : (a b : Option Text) (m n : Text) → instance_cmp a b (text_cmp m n) ≡ Equal → m ≡ n
tied_ids (Some a) (Some b) m n tie = text_cmp-IsAntisymmetric m n (then_equal (text_cmp a b) (text_cmp m n) tie)
tied_ids (Some a) None m n tie = absurd (cc)
tied_ids None (Some b) m n tie = absurd (cc)
tied_ids None None m n tie = text_cmp-IsAntisymmetric m n tie

abbrev Before : Subscriber → Subscriber → Type 0
Before m n = member_cmp m n ≡ Less

before_of : (m n : Subscriber) (r : Ordering) → member_cmp m n ≡ r → (member_cmp m n ≡ Equal → ⊥) → is_lt (member_cmp n m) ≡ false → Before m n
before_of m n Less is apart far = is
before_of m n Equal is apart far = absurd (apart is)
before_of m n Greater is apart far =
    let never : true ≡ false = sym (ap is_lt (member_cmp_total.antisymm n m ∙ ap ordering_reverse is)) ∙ far in
    absurd (true≢false never)

all_before : (ms : List Subscriber) → IsSorted member_cmp ms → IdsAreApart ms → AllPairs Before ms
all_before ms sorted apart = λ i j d rise in_j.
    let m : Subscriber = get_or ms i d in
    let n : Subscriber = get_or ms j d in
    let in_i : i < length ms = omega arith in
    let never : member_cmp m n ≡ Equal → ⊥ = λ tie.
    let equal = apart i j m n (slice_get-get_or ms i d in_i) (slice_get-get_or ms j d in_j) (tied_ids m.instance n.instance m.id n.id tie) in omega arith in
    before_of m n (member_cmp m n) refl never (sorted_far (λ x y. is_lt (member_cmp x y)) (ranks_by member_cmp_total (λ (x : Subscriber). x)) ms sorted i j d (omega arith) in_j)

rises_of : (ms : List Subscriber) → AllPairs Before ms → Rise ms
rises_of [] all = tt
rises_of (m ∷ ms) all = (
  λ n there. subst (λ x. member_cmp m x ≡ Less) there.2 (all 0 (suc there.0) n (omega arith) (let within = there.1 in omega arith)),
  rises_of ms (λ i j d rise in_j. all (suc i) (suc j) d (omega arith) (omega arith)),
)

rises : (ms : List Subscriber) → IsSorted member_cmp ms → IdsAreApart ms → Rise ms
rises ms sorted apart = rises_of ms (all_before ms sorted apart)

-- ---- the members of records

both_first : (a b : Bool) → T (a && b) → T a
both_first true b h = tt
both_first false b h = absurd h

both_second : (a b : Bool) → T (a && b) → T b
both_second true b h = h
both_second false b h = absurd h

below_at : (k : Text) (es : List (Text × Record)) → T (below_all text_cmp k es) → (j : ℕ) (d : Text × Record) → j < length es → T (is_lt (text_cmp k (get_or es j d).0))
below_at k [] below j d within = absurd (omega arith)
below_at k (e ∷ es) below zero d within = both_first _ _ below
below_at k (e ∷ es) below (suc j) d within = below_at k es (both_second _ _ below) j d (omega arith)

not_below_itself : (k n : Text) → k ≡ n → T (is_lt (text_cmp k n)) → ⊥
not_below_itself k n same below =
    let is : text_cmp k n ≡ Equal = ap (text_cmp k) (sym same) ∙ text_cmp-itself k in
    subst (λ r. T (is_lt r)) is below

keys_apart : (es : List (Text × Record)) → T (finite.is_sorted text_cmp es) → (i j : ℕ) (d : Text × Record) → i < j → j < length es → (get_or es i d).0 ≡ (get_or es j d).0 → ⊥
keys_apart [] sorted i j d rise within same = omega arith
keys_apart (e ∷ es) sorted zero zero d rise within same = omega arith
keys_apart (e ∷ es) sorted zero (suc j) d rise within same = not_below_itself e.0 (get_or es j d).0 same (below_at e.0 es (both_first _ _ sorted) j d (omega arith))
keys_apart (e ∷ es) sorted (suc i) zero d rise within same = omega arith
keys_apart (e ∷ es) sorted (suc i) (suc j) d rise within same = keys_apart es (both_second _ _ sorted) i j d (omega arith) (omega arith) same

not_before : (es : List (Text × Record)) → T (finite.is_sorted text_cmp es) → (i j : ℕ) (m n : Subscriber)
    → slice_get (map subscriber_of es) i ≡ Some m → slice_get (map subscriber_of es) j ≡ Some n → m.id ≡ n.id → i < j → ⊥
not_before es sorted i j m n is_m is_n same rise =
    let (x, is_x, shown_x) = slice_get-map_from subscriber_of es i m is_m in
    let (y, is_y, shown_y) = slice_get-map_from subscriber_of es j n is_n in
    let keys : (get_or es i x).0 ≡ (get_or es j x).0 =
    ap (λ (e : Text × Record). e.0) (get_or_from_slice_get es i x x is_x) ∙ ap (λ (s : Subscriber). s.id) shown_x ∙ same ∙ sym (ap (λ (s : Subscriber). s.id) shown_y)
    ∙ sym (ap (λ (e : Text × Record). e.0) (get_or_from_slice_get es j y x is_y)) in
    keys_apart es sorted i j x rise (slice_get_within es j y is_y) keys

pub entries_apart : (records : Records) → IdsAreApart (map subscriber_of (finite.entries records))
entries_apart records = λ i j m n is_m is_n same.
    let es : List (Text × Record) = finite.entries records in
    elim (cases_order i j) [
      | inl equal ↦ equal
      | inr other ↦ elim other [
        | inl below ↦ absurd (not_before es (finite.entries_sorted records) i j m n is_m is_n same below)
        | inr above ↦ absurd (not_before es (finite.entries_sorted records) j i n m is_n is_m (sym same) above)
      ]
    ]

pub one_order : (records : Records) (ms ns : List Subscriber) → AreMembers records ms → AreMembers records ns → ms ≡ ns
one_order records ms ns one other =
    let base : List Subscriber = map subscriber_of (finite.entries records) in
    let ids = entries_apart records in
    same_rising ms ns
    (rises ms one.sorted (IdsAreApart-permutation base ms one.same ids))
    (rises ns other.sorted (IdsAreApart-permutation base ns other.same ids))
    (λ m there. Contains-permutation base ns m other.same (Contains-permutation ms base m (IsPermutation-sym base ms one.same) there))
    (λ m there. Contains-permutation base ms m one.same (Contains-permutation ns base m (IsPermutation-sym base ns other.same) there))
