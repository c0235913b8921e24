-- The queue of a class's takers, and what a partition that is given changes in it.
use Rattle.std.proofs.Common.{◌≡◌, ◌⊎◌, ℕ, zero, suc, ◌<◌, ◌≤◌, ◌+◌, List, [], ◌∷◌, ◌++◌, length, get_or, set as set_at, slice_get, refl, sym, ap, ◌∙◌, arith, inl, inr, Option, Some, None, length-set, get_or-set_other, get_or-set_same}
use Rattle.std.specs.Global.{Vec}
use Rattle.std.proofs.lemmas.List.{length-map, length_push, set-set}
use Rattle.std.proofs.lemmas.Bool.{cases_lt, cases_order}
use Rattle.std.proofs.lemmas.Option.{get_or_from_slice_get, same_Some, slice_get_within}
use Rattle.group_types.specs.Text.{Text}
use Rattle.group_types.specs.Assignors.{IdsAreApart, Subscriber}
use Rattle.group_types.specs.Sets.{has}
use Rattle.uniform_assign.specs.declared.board.Board.{Board}
use Rattle.uniform_assign.specs.declared.board.Place.{Place}
use Rattle.uniform_assign.specs.declared.draft.Draft.{Draft}
use Rattle.uniform_assign.specs.declared.count_set.Rank.{Rank}
use Rattle.uniform_assign.specs.Boards.{AreTakersOf, IsBoard, IsOfClass, Rises, members_on}
use Rattle.uniform_assign.specs.Drafts.{AreCounts, IsDraft, IsLeast}
use Rattle.uniform_assign.specs.declared.seats.Seat.{Seat}
use Rattle.uniform_assign.specs.CountSets.{AreCountSets, IsFirstRank, IsSetOf, IsLeastAt, counts_of}
use Rattle.uniform_assign.specs.Seats.{AreSeatsOf}
use Rattle.uniform_assign.proofs.Boards.{IsAt, at_place, least-within, taker_here, taker_within}
use Rattle.uniform_assign.proofs.Counts.{AreCounts-given, cases_equal}
use Rattle.uniform_assign.proofs.Kept.{slice_get-set_other, slice_get-set_same}
use Rattle.uniform_assign.proofs.Lists.{AreOnce, AreOnce-filter, slice_get-append_cases, slice_get-map_at, slice_get-map_from, some_at}

-- no member takes a topic twice
pub AreOnce-takers : (subs : List Subscriber) (name : Text) (takers : List ℕ) → IdsAreApart subs → AreTakersOf subs name takers → AreOnce takers
AreOnce-takers subs name takers apart are i j t is_i is_j =
    let (m, is_m, here) = taker_here subs name takers i t are is_i in
    let (n, is_n, there) = taker_here subs name takers j t are is_j in
    let same : m ≡ n = same_Some m n (sym is_m ∙ is_n) in
    AreOnce-filter (λ s. has s.names name) subs (λ k l s one other. apart k l s s one other refl) i j m here (there ∙ ap Some (sym same))

-- the first of the set is the taker that owns the fewest
pub IsLeast-ranked : (counts takers : List ℕ) (k m : ℕ) → IsLeastAt (counts_of counts takers) k → slice_get takers k ≡ Some m → IsLeast counts takers m
IsLeast-ranked counts takers k m least is_m =
    let value = λ (j t : ℕ) (is_t : slice_get takers j ≡ Some t). get_or_from_slice_get (counts_of counts takers) j (get_or counts t 0) 0 (slice_get-map_at (λ u. get_or counts u 0) takers j t is_t) in
    let mine = value k m is_m in
    let long = length-map takers (λ u. get_or counts u 0) in
    record {
      place = k;
      is_there = is_m;
      least = λ j t is_t. let his = value j t is_t in let low = slice_get_within takers j t is_t in let few = least.least j (omega arith) in omega arith;
      first = λ j t early is_t. let his = value j t is_t in let few = least.first j early in omega arith;
    }

-- two lists that have the same are one
same_lists : (old new : List ℕ) → length new ≡ length old → ((k n : ℕ) → slice_get new k ≡ Some n → slice_get old k ≡ Some n) → old ≡ new
same_lists [] [] long same = refl
same_lists [] (y ∷ ys) long same = absurd (omega arith)
same_lists (x ∷ xs) [] long same = absurd (omega arith)
same_lists (x ∷ xs) (y ∷ ys) long same =
    let head : x ≡ y = same_Some x y (same 0 y refl) in
    let tail = same_lists xs ys (omega arith) (λ k. same (suc k)) in
    λ i. head i ∷ tail i

-- the count of the taker at a place is written, and the others' stay
counts_of-written : (counts new takers : List ℕ) (k m : ℕ) → AreOnce takers → slice_get takers k ≡ Some m → ((j t : ℕ) → slice_get takers j ≡ Some t → (t ≡ m → ⊥) → get_or new t 0 ≡ get_or counts t 0)
    → set_at (counts_of counts takers) k (get_or new m 0) ≡ counts_of new takers
counts_of-written counts new takers k m once is_m stay =
    let long = length-map takers (λ t. get_or new t 0) in
    let old_long = length-map takers (λ t. get_or counts t 0) in
    let set_long = length-set (counts_of counts takers) k (get_or new m 0) in
    let here = slice_get_within takers k m is_m in
    same_lists (set_at (counts_of counts takers) k (get_or new m 0)) (counts_of new takers) (omega arith) (λ j n is_n.
    let (t, is_t, same) = slice_get-map_from (λ t. get_or new t 0) takers j n is_n in
    elim (cases_equal j k) [
      | inl equal ↦
          let taker : t ≡ m = same_Some t m (sym is_t ∙ ap (slice_get takers) equal ∙ is_m) in
          ap (slice_get (set_at (counts_of counts takers) k (get_or new m 0))) equal
          ∙ slice_get-set_same (counts_of counts takers) k (get_or new m 0) (omega arith)
          ∙ ap Some (ap (λ u. get_or new u 0) (sym taker) ∙ same)
      | inr apart ↦
          slice_get-set_other (counts_of counts takers) k j (get_or new m 0) apart
          ∙ slice_get-map_at (λ u. get_or counts u 0) takers j t is_t
          ∙ ap Some (sym (stay j t is_t (λ taker. apart (once j k m (is_t ∙ ap Some taker) is_m))) ∙ same)
    ])

-- the counts of the same owners are the same
same_counts : (owners : List (Option ℕ)) (one other : List ℕ) (m : ℕ) → AreCounts owners one → AreCounts owners other → m < length one → m < length other → get_or one m 0 ≡ get_or other m 0
same_counts owners one other m a b low high = a.counted m low ∙ sym (b.counted m high)

-- a free partition is given to the taker at a place
module _ (owners : List (Option ℕ)) (counts new takers : List ℕ) (at k m : ℕ) (are : AreCounts owners counts) (free : slice_get owners at ≡ Some None) (low : m < length counts)
    (after : AreCounts (set_at owners at (Some m)) new) (many : length new ≡ length counts) where
  others_stay : (t : ℕ) → (t ≡ m → ⊥) → t < length counts → get_or new t 0 ≡ get_or counts t 0
  others_stay t apart within =
      let long = length-set counts m (get_or counts m 0 + 1) in
      same_counts (set_at owners at (Some m)) new (set_at counts m (get_or counts m 0 + 1)) t after (AreCounts-given owners counts at m are free low) (omega arith) (omega arith)
      ∙ get_or-set_other counts m t (get_or counts m 0 + 1) 0 apart

  pub counts_of-given : AreOnce takers → ((j t : ℕ) → slice_get takers j ≡ Some t → t < length counts) → slice_get takers k ≡ Some m
      → set_at (counts_of counts takers) k (get_or new m 0) ≡ counts_of new takers
  counts_of-given once within is_m = counts_of-written counts new takers k m once is_m (λ j t is_t other. others_stay t other (within j t is_t))

-- ---- the queue of a partition's class

-- the takers of the partition's class, whose set it is
pub record IsQueued (board : Board) (draft : Draft) (at class : ℕ) (set : List ℕ) : Type 0 where
  pub place : Place
  pub is_at : IsAt board at place
  pub are_takers : slice_get board.takers.items class ≡ Some is_at.takers
  pub set_of : set ≡ counts_of draft.counts.items is_at.takers.items

pub IsQueued-of : (board : Board) (draft : Draft) (at class : ℕ) (set : List ℕ) → IsBoard board → IsOfClass board at class → IsSetOf board draft class set → IsQueued board draft at class set
IsQueued-of board draft at class set is (place, is_place, is_class) of =
    let here = at_place board is at place is_place in
    let are = ap (slice_get board.takers.items) (same_Some class here.class (sym is_class ∙ here.is_class)) ∙ here.are_there in
    record { place = place; is_at = here; are_takers = are; set_of = of here.takers are }

-- the first in the queue
pub record IsFirstIn (board : Board) (draft : Draft) (at class : ℕ) (set : List ℕ) (k m : ℕ) : Type 0 where
  pub queued : IsQueued board draft at class set
  pub is_taker : slice_get queued.is_at.takers.items k ≡ Some m
  pub least : IsLeast draft.counts.items queued.is_at.takers.items m
  pub member : Subscriber
  pub is_member : slice_get (members_on board) m ≡ Some member
  pub within : m < length draft.counts.items
  pub room : k < length set

pub first-within : (board : Board) (draft : Draft) (at class k : ℕ) (set : List ℕ) → (queued : IsQueued board draft at class set) → IsLeastAt (counts_of draft.counts.items queued.is_at.takers.items) k → k < length queued.is_at.takers.items
first-within board draft at class k set queued least =
    let long = length-map queued.is_at.takers.items (λ u. get_or draft.counts.items u 0) in let low = least.within in omega arith

pub IsFirstIn-of : (board : Board) (draft : Draft) (at class k m : ℕ) (set : List ℕ) → IsDraft board draft → (queued : IsQueued board draft at class set) → IsLeastAt (counts_of draft.counts.items queued.is_at.takers.items) k
    → slice_get queued.is_at.takers.items k ≡ Some m → IsFirstIn board draft at class set k m
IsFirstIn-of board draft at class k m set are queued least is_m =
    let takers = queued.is_at.takers.items in
    let is_least = IsLeast-ranked draft.counts.items takers k m least is_m in
    let (s, is_s) = least-within (members_on board) queued.is_at.topic.0 draft.counts.items takers m queued.is_at.are_takers is_least in
    let low = slice_get_within (members_on board) m s is_s in
    let many = are.as_many_counts in
    let shown = ap length queued.set_of in
    let inside = least.within in
    record { queued = queued; is_taker = is_m; least = is_least; member = s; is_member = is_s; within = omega arith; room = omega arith }

-- ---- all classes

pub AreOnce-rises : (xs : List ℕ) → Rises xs → AreOnce xs
AreOnce-rises xs rise i j x is_i is_j = elim (cases_order i j) [
  | inl same ↦ same
  | inr other ↦ elim other [
    | inl before ↦ let less = rise i j x x before is_i is_j in absurd (omega arith)
    | inr after ↦ let less = rise j i x x after is_j is_i in absurd (omega arith)
  ]
]

-- the count of a member was written that is at a place among the takers
counts_of-set : (counts takers : List ℕ) (member count k : ℕ) → AreOnce takers → slice_get takers k ≡ Some member → member < length counts
    → set_at (counts_of counts takers) k count ≡ counts_of (set_at counts member count) takers
counts_of-set counts takers member count k once is_member low =
    let new = set_at counts member count in
    ap (set_at (counts_of counts takers) k) (sym (get_or-set_same counts member count 0 low))
    ∙ counts_of-written counts new takers k member once is_member (λ j t is_t other. get_or-set_other counts member t count 0 other)

-- or isn't there
counts_of-unset : (counts takers : List ℕ) (member count : ℕ) → ((k : ℕ) → slice_get takers k ≡ Some member → ⊥) → counts_of counts takers ≡ counts_of (set_at counts member count) takers
counts_of-unset counts takers member count away =
    let new = set_at counts member count in
    let long = length-map takers (λ t. get_or new t 0) in
    let old_long = length-map takers (λ t. get_or counts t 0) in
    same_lists (counts_of counts takers) (counts_of new takers) (omega arith) (λ j n is_n.
    let (t, is_t, same) = slice_get-map_from (λ t. get_or new t 0) takers j n is_n in
    slice_get-map_at (λ u. get_or counts u 0) takers j t is_t
    ∙ ap Some (sym (get_or-set_other counts member t count 0 (λ taker. away j (is_t ∙ ap Some taker))) ∙ same))

-- the set has the new count of the member
abbrev IsRenewed : Board → List (List ℕ) → List (List ℕ) → ℕ → ℕ → ℕ → Type 0
IsRenewed board old new member count class =
    (counts : List ℕ) (takers : Vec ℕ) (set : List ℕ) → member < length counts → AreCountSets board counts old → slice_get board.takers.items class ≡ Some takers → slice_get new class ≡ Some set
    → set ≡ counts_of (set_at counts member count) takers.items

-- the classes of the first n places have the new count of the member, and each other class has it or is as it was
pub record AreRenewed (board : Board) (old new : List (List ℕ)) (seats : List Seat) (member count n : ℕ) : Type 0 where
  pub as_many : length new ≡ length old
  pub either : (c : ℕ) → (slice_get new c ≡ slice_get old c) ⊎ IsRenewed board old new member count c
  pub renewed : (i : ℕ) (seat : Seat) → i < n → slice_get seats i ≡ Some seat → IsRenewed board old new member count seat.class

pub AreRenewed-none : (board : Board) (old : List (List ℕ)) (seats : List Seat) (member count : ℕ) → AreRenewed board old old seats member count 0
AreRenewed-none board old seats member count = record { as_many = refl; either = λ c. inl refl; renewed = λ i seat early. absurd (omega arith) }

-- how many places the set of a class has while counts are written
pub length-renewed : (board : Board) (old new : List (List ℕ)) (seats : List Seat) (member count n : ℕ) → AreRenewed board old new seats member count n → (counts : List ℕ) → member < length counts → AreCountSets board counts old
    → (class : ℕ) (takers : Vec ℕ) (set : List ℕ) → slice_get board.takers.items class ≡ Some takers → slice_get new class ≡ Some set → length set ≡ length takers.items
length-renewed board old new seats member count n done counts within are class takers set is_takers is_set = elim (done.either class) [
  | inl same ↦ ap length (are.each class takers set is_takers (sym same ∙ is_set)) ∙ length-map takers.items (λ t. get_or counts t 0)
  | inr renewed ↦ ap length (renewed counts takers set within are is_takers is_set) ∙ length-map takers.items (λ t. get_or (set_at counts member count) t 0)
]

-- the count is written in one class more
module _ (board : Board) (old new : List (List ℕ)) (seats : List Seat) (member count n : ℕ) (before : AreRenewed board old new seats member count n) (is_board : IsBoard board)
    (seat : Seat) (is_seat : slice_get seats n ≡ Some seat) (takers : Vec ℕ) (is_takers : slice_get board.takers.items seat.class ≡ Some takers) (is_member : slice_get takers.items seat.place ≡ Some member)
    (was now : List ℕ) (is_was : slice_get new seat.class ≡ Some was) (writes : now ≡ set_at was seat.place count) where
  abbrev after : List (List ℕ)
  after = set_at new seat.class now

  once : AreOnce takers.items
  once = AreOnce-rises takers.items (is_board.rise seat.class takers is_takers)

  -- the set that was written
  written : (counts : List ℕ) → member < length counts → AreCountSets board counts old → now ≡ counts_of (set_at counts member count) takers.items
  written counts within are = elim (before.either seat.class) [
    | inl same ↦
        writes ∙ ap (λ xs. set_at xs seat.place count) (are.each seat.class takers was is_takers (sym same ∙ is_was))
        ∙ counts_of-set counts takers.items member count seat.place once is_member within
    | inr renewed ↦
        let twice = set_at counts member count in
        let long = length-set counts member count in
        writes ∙ ap (λ xs. set_at xs seat.place count) (renewed counts takers was within are is_takers is_was)
        ∙ counts_of-set twice takers.items member count seat.place once is_member (omega arith)
        ∙ ap (λ xs. counts_of xs takers.items) (set-set counts member count count)
  ]

  here : (class : ℕ) → class ≡ seat.class → IsRenewed board old after member count class
  here class same counts others set within are is_others is_set =
      let taken : takers ≡ others = same_Some takers others (sym is_takers ∙ ap (slice_get board.takers.items) (sym same) ∙ is_others) in
      let put : now ≡ set = same_Some now set (sym (slice_get-set_same new seat.class now (slice_get_within new seat.class was is_was)) ∙ ap (slice_get after) (sym same) ∙ is_set) in
      sym put ∙ written counts within are ∙ ap (λ (v : Vec ℕ). counts_of (set_at counts member count) v.items) taken

  there : (class : ℕ) → (class ≡ seat.class → ⊥) → IsRenewed board old new member count class → IsRenewed board old after member count class
  there class apart renewed counts others set within are is_others is_set =
      renewed counts others set within are is_others (sym (slice_get-set_other new seat.class class now apart) ∙ is_set)

  pub AreRenewed-more : AreRenewed board old (set_at new seat.class now) seats member count (n + 1)
  AreRenewed-more = record {
    as_many = length-set new seat.class now ∙ before.as_many;
    either = λ c. elim (cases_equal c seat.class) [
      | inl same ↦ inr (here c same)
      | inr apart ↦ elim (before.either c) [
        | inl same ↦ inl (slice_get-set_other new seat.class c now apart ∙ same)
        | inr renewed ↦ inr (there c apart renewed)
      ]
    ];
    renewed = λ i other low is_other. elim (cases_equal other.class seat.class) [
      | inl same ↦ here other.class same
      | inr apart ↦ elim (cases_lt i n) [
        | inl below ↦ there other.class apart (before.renewed i other below is_other)
        | inr above ↦
            let last : n ≡ i = omega arith in
            let one : seat ≡ other = same_Some seat other (sym is_seat ∙ ap (slice_get seats) last ∙ is_other) in
            absurd (apart (ap (λ (s : Seat). s.class) (sym one)))
      ]
    ];
  }

-- a number is in a list, or it isn't
is_among : (xs : List ℕ) (m : ℕ) → ((k : ℕ) × (slice_get xs k ≡ Some m)) ⊎ ((k : ℕ) → slice_get xs k ≡ Some m → ⊥)
is_among [] m = inr (nowhere m)
  where
    nowhere : (m k : ℕ) → slice_get [] k ≡ Some m → ⊥
    nowhere m k is = cc
is_among (x ∷ xs) m = elim (cases_equal x m) [
  | inl same ↦ inl (0, ap Some same)
  | inr apart ↦ elim (is_among xs m) [
    | inl (k, is) ↦ inl (suc k, is)
    | inr away ↦ inr (neither apart away)
  ]
]
  where
    neither : (x ≡ m → ⊥) → ((k : ℕ) → slice_get xs k ≡ Some m → ⊥) → (k : ℕ) → slice_get (x ∷ xs) k ≡ Some m → ⊥
    neither apart away zero is = apart (same_Some x m is)
    neither apart away (suc k) is = away k is

pub AreRenewed-all : (board : Board) (old new : List (List ℕ)) (seats : List Seat) (member count n : ℕ) → AreRenewed board old new seats member count n → AreSeatsOf board member seats → length seats ≤ n
    → (counts : List ℕ) → member < length counts → AreCountSets board counts old → AreCountSets board (set_at counts member count) new
AreRenewed-all board old new seats member count n done seated all counts within are = record {
  as_many = done.as_many ∙ are.as_many;
  each = λ c takers set is_takers is_set. elim (is_among takers.items member) [
    | inl (k, is) ↦
        let (i, is_seat) = seated.all (record { class = c; place = k }) (takers, is_takers, is) in
        let low = slice_get_within seats i (record { class = c; place = k }) is_seat in
        done.renewed i (record { class = c; place = k }) (omega arith) is_seat counts takers set within are is_takers is_set
    | inr away ↦ elim (done.either c) [
      | inl same ↦ are.each c takers set is_takers (sym same ∙ is_set) ∙ counts_of-unset counts takers.items member count away
      | inr renewed ↦ renewed counts takers set within are is_takers is_set
    ]
  ];
}

-- the first n classes have their sets
pub record AreCountSetsTo (board : Board) (counts : List ℕ) (n : ℕ) (sets : List (List ℕ)) : Type 0 where
  pub as_many : length sets ≡ n
  pub each : (t : ℕ) (takers : Vec ℕ) (set : List ℕ) → slice_get board.takers.items t ≡ Some takers → slice_get sets t ≡ Some set → set ≡ counts_of counts takers.items

pub AreCountSetsTo-none : (board : Board) (counts : List ℕ) (sets : List (List ℕ)) → sets ≡ [] → AreCountSetsTo board counts 0 sets
AreCountSetsTo-none board counts sets none = record {
  as_many = ap length none;
  each = λ t takers set is_takers is_set. let there : slice_get [] t ≡ Some set = ap (λ xs. slice_get xs t) (sym none) ∙ is_set in nobody t set there;
}
  where
    nobody : (t : ℕ) (set : List ℕ) → slice_get [] t ≡ Some set → {P : Type 0} → P
    nobody t set is = cc

pub AreCountSetsTo-more : (board : Board) (counts : List ℕ) (n : ℕ) (sets : List (List ℕ)) (takers : Vec ℕ) (set : List ℕ) → AreCountSetsTo board counts n sets → slice_get board.takers.items n ≡ Some takers
    → set ≡ counts_of counts takers.items → AreCountSetsTo board counts (n + 1) (sets ++ set ∷ [])
AreCountSetsTo-more board counts n sets takers set before is_takers is = record {
  as_many = length_push sets set ∙ ap (λ k. k + 1) before.as_many;
  each = λ t others other is_others is_other. elim (slice_get-append_cases sets (set ∷ []) t other is_other) [
    | inl there ↦ before.each t others other is_others there
    | inr (j, at, end) ↦
        let here = last j other end in
        let long = before.as_many in
        let place : t ≡ n = let zeroth = here.0 in omega arith in
        let same : takers ≡ others = same_Some takers others (sym is_takers ∙ ap (slice_get board.takers.items) (sym place) ∙ is_others) in
        sym here.1 ∙ is ∙ ap (λ (v : Vec ℕ). counts_of counts v.items) same
  ];
}
  where
    last : (j : ℕ) (other : List ℕ) → slice_get (set ∷ []) j ≡ Some other → (j ≡ 0) × (set ≡ other)
    last zero other end = (refl, same_Some set other end)
    last (suc j) other end = cc

-- ---- the first of a class

-- the first of a class's set is the taker that owns the fewest
pub record IsFirstTaker (draft : Draft) (takers : List ℕ) (rank : Rank) : Type 0 where
  pub member : ℕ
  pub is_member : slice_get takers rank.place ≡ Some member
  pub least : IsLeast draft.counts.items takers member
  pub count : rank.count ≡ get_or draft.counts.items member 0
  pub within : member < length draft.counts.items

pub IsFirstTaker-of : (board : Board) (draft : Draft) → IsBoard board → IsDraft board draft → (class : ℕ) (takers : Vec ℕ) (rank : Rank) → slice_get board.takers.items class ≡ Some takers
    → IsFirstRank (counts_of draft.counts.items takers.items) rank → IsFirstTaker draft takers.items rank
IsFirstTaker-of board draft is are class takers rank is_takers first =
    let counts = draft.counts.items in
    let long = length-map takers.items (λ u. get_or counts u 0) in
    let inside = first.least.within in
    let (m, is_m) = some_at takers.items rank.place (omega arith) in
    let low = taker_within board is class rank.place m takers is_takers is_m in
    let many = are.as_many_counts in
    let value = get_or_from_slice_get (counts_of counts takers.items) rank.place (get_or counts m 0) 0 (slice_get-map_at (λ u. get_or counts u 0) takers.items rank.place m is_m) in
    record {
      member = m;
      is_member = is_m;
      least = IsLeast-ranked counts takers.items rank.place m first.least is_m;
      count = sym first.count ∙ value;
      within = omega arith;
    }
