-- The counts of owners, where one of them is written.
use Rattle.std.proofs.Common.{◌≡◌, ◌==◌, ◌⊎◌, ℕ, zero, suc, ◌<◌, ◌≤◌, ◌+◌, ◌-◌, ◌*◌, true, false, cond, List, [], ◌∷◌, length, get_or, set as set_at, refl, sym, ap, subst, ◌∙◌, arith, inl, inr, Option, Some, None, length-set, get_or-set_other, get_or-set_same, sum_by}
use Rattle.std.specs.List.{count_by, slice_get}
use Rattle.std.proofs.lemmas.Bool.{cases_order}
use Rattle.std.proofs.lemmas.Bool.Decides.{Decides-eqb}
use Rattle.std.proofs.lemmas.List.Sums.{count_by-le-length, get_or-le-sum_by, sum_by-set}
use Rattle.std.proofs.lemmas.List.{get_or_read}
use Rattle.std.proofs.lemmas.Option.{get_or_from_slice_get, same_Some, slice_get_within}
use Rattle.uniform_assign.specs.Drafts.{AreCounts, is_owner}
use Rattle.uniform_assign.specs.Moves.{one_moved}

pub cases_equal : (m n : ℕ) → (m ≡ n) ⊎ (m ≡ n → ⊥)
cases_equal m n = elim (cases_order m n) [
  | inl same ↦ inl same
  | inr other ↦ inr (λ same. elim other [ inl below ↦ omega arith | inr above ↦ omega arith ])
]

eqb_same : (m n : ℕ) → m ≡ n → (m == n) ≡ true
eqb_same m n same = (Decides-eqb m n).1 same

eqb_apart : (m n : ℕ) → (m ≡ n → ⊥) → (m == n) ≡ false
eqb_apart m n apart = elim (m == n) as (λ b. (m == n) ≡ b → b ≡ false) [ true ↦ λ tie. absurd (apart ((Decides-eqb m n).0 tie)) | false ↦ λ other. refl ] refl

one_if_same : (m n : ℕ) → m ≡ n → cond {A = ℕ} (m == n) 1 0 ≡ 1
one_if_same m n same = ap (λ b. cond b 1 0) (eqb_same m n same)

none_if_apart : (m n : ℕ) → (m ≡ n → ⊥) → cond {A = ℕ} (m == n) 1 0 ≡ 0
none_if_apart m n apart = ap (λ b. cond b 1 0) (eqb_apart m n apart)

pub slice_get-set_cases : {X : Type 0} (xs : List X) (k j : ℕ) (x y : X) → slice_get (set_at xs k x) j ≡ Some y → (x ≡ y) ⊎ (slice_get xs j ≡ Some y)
slice_get-set_cases [] k j x y is = cc
slice_get-set_cases (z ∷ xs) zero zero x y is = inl (same_Some x y is)
slice_get-set_cases (z ∷ xs) zero (suc j) x y is = inr is
slice_get-set_cases (z ∷ xs) (suc k) zero x y is = inr is
slice_get-set_cases (z ∷ xs) (suc k) (suc j) x y is = slice_get-set_cases xs k j x y is

-- a member has no more partitions than there are
pub count-le : (owners : List (Option ℕ)) (counts : List ℕ) (m : ℕ) → AreCounts owners counts → m < length counts → get_or counts m 0 ≤ length owners
count-le owners counts m are within = let short = count_by-le-length (is_owner m) owners in let same = are.counted m within in omega arith

count-set : (owners : List (Option ℕ)) (k m : ℕ) (old new : Option ℕ) → slice_get owners k ≡ Some old
    → count_by (is_owner m) (set_at owners k new) + cond (is_owner m old) 1 0 ≡ count_by (is_owner m) owners + cond (is_owner m new) 1 0
count-set owners k m old new is =
    ap (λ o. count_by (is_owner m) (set_at owners k new) + cond (is_owner m o) 1 0) (sym (get_or_from_slice_get owners k old old is))
    ∙ sum_by-set (λ o. cond (is_owner m o) 1 0) owners k new old (slice_get_within owners k old is)

-- an owner has a partition
pub owner-counted : (owners : List (Option ℕ)) (counts : List ℕ) (k m : ℕ) → AreCounts owners counts → slice_get owners k ≡ Some (Some m) → 0 < get_or counts m 0
owner-counted owners counts k m are is =
    let some = get_or-le-sum_by (λ o. cond (is_owner m o) 1 0) owners k (Some m) (slice_get_within owners k (Some m) is) in
    let one : cond {A = ℕ} (is_owner m (get_or owners k (Some m))) 1 0 ≡ 1 =
    ap (λ o. cond (is_owner m o) 1 0) (get_or_from_slice_get owners k (Some m) (Some m) is) ∙ one_if_same m m refl in
    let counted = are.counted m (are.within k m is) in
    omega arith

within-set : (owners : List (Option ℕ)) (counts : List ℕ) (k to : ℕ) (others : List ℕ) → AreCounts owners counts → to < length counts → length others ≡ length counts
    → (j m : ℕ) → slice_get (set_at owners k (Some to)) j ≡ Some (Some m) → m < length others
within-set owners counts k to others are low long j m is = elim (slice_get-set_cases owners k j (Some to) (Some m) is) [
  | inl same ↦ let equal = same_Some to m same in omega arith
  | inr there ↦ let before = are.within j m there in omega arith
]

pub AreCounts-given : (owners : List (Option ℕ)) (counts : List ℕ) (k to : ℕ) → AreCounts owners counts → slice_get owners k ≡ Some None → to < length counts
    → AreCounts (set_at owners k (Some to)) (set_at counts to (get_or counts to 0 + 1))
AreCounts-given owners counts k to are free low =
    let long = length-set counts to (get_or counts to 0 + 1) in
    record {
      within = within-set owners counts k to (set_at counts to (get_or counts to 0 + 1)) are low long;
      counted = λ m in_counts.
          let change = count-set owners k m None (Some to) free in
          let before = are.counted m (omega arith) in
          elim (cases_equal m to) [
            | inl same ↦
                let here = ap (λ n. get_or (set_at counts to (get_or counts to 0 + 1)) n 0) same ∙ get_or-set_same counts to (get_or counts to 0 + 1) 0 low in
                let test = one_if_same to m (sym same) in
                let at = ap (λ n. get_or counts n 0) same in
                omega arith
            | inr apart ↦
                let here = get_or-set_other counts to m (get_or counts to 0 + 1) 0 apart in
                let test = none_if_apart to m (λ same. apart (sym same)) in
                omega arith
          ];
    }

pub length-one_moved : (counts : List ℕ) (from to : ℕ) → length (one_moved counts from to) ≡ length counts
length-one_moved counts from to =
    let less = set_at counts from (get_or counts from 0 - 1) in
    length-set less to (get_or less to 0 + 1) ∙ length-set counts from (get_or counts from 0 - 1)

pub one_moved-at : (counts : List ℕ) (from to m : ℕ) → from < length counts → to < length counts → 0 < get_or counts from 0
    → get_or (one_moved counts from to) m 0 + cond (from == m) 1 0 ≡ get_or counts m 0 + cond (to == m) 1 0
one_moved-at counts from to m from_in to_in some =
    let less = set_at counts from (get_or counts from 0 - 1) in
    let long = length-set counts from (get_or counts from 0 - 1) in
    let first : get_or less m 0 + cond (from == m) 1 0 ≡ get_or counts m 0 = elim (cases_equal m from) [
      | inl same ↦
          let here = ap (λ n. get_or less n 0) same ∙ get_or-set_same counts from (get_or counts from 0 - 1) 0 from_in in
          let test = one_if_same from m (sym same) in
          let at = ap (λ n. get_or counts n 0) same in
          omega arith
      | inr apart ↦
          let here = get_or-set_other counts from m (get_or counts from 0 - 1) 0 apart in
          let test = none_if_apart from m (λ same. apart (sym same)) in
          omega arith
    ] in
    let second : get_or (one_moved counts from to) m 0 ≡ get_or less m 0 + cond (to == m) 1 0 = elim (cases_equal m to) [
      | inl same ↦
          let here = ap (λ n. get_or (one_moved counts from to) n 0) same ∙ get_or-set_same less to (get_or less to 0 + 1) 0 (omega arith) in
          let test = one_if_same to m (sym same) in
          let at = ap (λ n. get_or less n 0) same in
          omega arith
      | inr apart ↦
          let here = get_or-set_other less to m (get_or less to 0 + 1) 0 apart in
          let test = none_if_apart to m (λ same. apart (sym same)) in
          omega arith
    ] in
    omega arith

pub AreCounts-moved : (owners : List (Option ℕ)) (counts : List ℕ) (k from to : ℕ) → AreCounts owners counts → slice_get owners k ≡ Some (Some from) → to < length counts
    → AreCounts (set_at owners k (Some to)) (one_moved counts from to)
AreCounts-moved owners counts k from to are owns low =
    let long = length-one_moved counts from to in
    let from_in = are.within k from owns in
    let some = owner-counted owners counts k from are owns in
    record {
      within = within-set owners counts k to (one_moved counts from to) are low long;
      counted = λ m in_counts.
          let change = count-set owners k m (Some from) (Some to) owns in
          let before = are.counted m (omega arith) in
          let moved = one_moved-at counts from to m from_in low some in
          omega arith;
    }

-- the two counts that changed are written once more
pub moved-again : (counts new : List ℕ) (from to one two : ℕ) → from < length counts → to < length counts → (to ≡ from → ⊥) → new ≡ one_moved counts from to → one ≡ get_or new from 0 → two ≡ get_or new to 0
    → set_at (set_at counts from one) to two ≡ new
moved-again counts new from to one two from_in to_in apart same is_one is_two =
    let less = set_at counts from (get_or counts from 0 - 1) in
    let long = length-set counts from (get_or counts from 0 - 1) in
    let first : one ≡ get_or counts from 0 - 1 =
    is_one ∙ ap (λ xs. get_or xs from 0) same ∙ get_or-set_other less to from (get_or less to 0 + 1) 0 (λ equal. apart (sym equal)) ∙ get_or-set_same counts from (get_or counts from 0 - 1) 0 from_in in
    let second : two ≡ get_or less to 0 + 1 = is_two ∙ ap (λ xs. get_or xs to 0) same ∙ get_or-set_same less to (get_or less to 0 + 1) 0 (omega arith) in
    ap (λ n. set_at (set_at counts from n) to two) first ∙ ap (set_at less to) second ∙ sym same

-- ---- the squares of the counts

abbrev pub squares : List ℕ → ℕ
squares counts = sum_by (λ c. c * c) counts

-- they fall where a partition moves to a member with two fewer
pub squares_fall : (counts : List ℕ) (from to : ℕ) → from < length counts → to < length counts → get_or counts to 0 + 1 < get_or counts from 0
    → squares (one_moved counts from to) < squares counts
squares_fall counts from to from_in to_in fewer =
    let less = set_at counts from (get_or counts from 0 - 1) in
    let long = length-set counts from (get_or counts from 0 - 1) in
    let apart : to ≡ from → ⊥ = λ same. let equal = ap (λ n. get_or counts n 0) same in omega arith in
    let other = get_or-set_other counts from to (get_or counts from 0 - 1) 0 apart in
    let first = sum_by-set (λ c. c * c) counts from (get_or counts from 0 - 1) 0 from_in in
    let second = sum_by-set (λ c. c * c) less to (get_or less to 0 + 1) 0 (omega arith) in
    arithmetic (get_or counts from 0) (get_or counts to 0) (get_or less to 0) (squares counts) (squares less) (squares (one_moved counts from to)) fewer other first second
  where
    multiplied : (b e s t u : ℕ) → t + (b + 2 + e) * (b + 2 + e) ≡ s + (b + 1 + e) * (b + 1 + e) → u + b * b ≡ t + (b + 1) * (b + 1) → u < s
    multiplied b e s t u first second = omega arith

    arithmetic : (a b d s t u : ℕ) → b + 1 < a → d ≡ b → t + a * a ≡ s + (a - 1) * (a - 1) → u + d * d ≡ t + (d + 1) * (d + 1) → u < s
    arithmetic a b d s t u low same first second =
        let e = a - (b + 2) in
        let is : a ≡ b + 2 + e = omega arith in
        let less : a - 1 ≡ b + 1 + e = omega arith in
        multiplied b e s t u (sym (ap (λ n. t + n * n) is) ∙ first ∙ ap (λ n. s + n * n) less) (subst (λ n. u + n * n ≡ t + (n + 1) * (n + 1)) same second)

-- ---- a partition is taken from its owner, if it has one, and given

-- the counts without the owner's partition
abbrev pub Less : List ℕ → Option ℕ → List ℕ → Type 0
Less counts None less = less ≡ counts
Less counts (Some from) less = less ≡ set_at counts from (get_or counts from 0 - 1)

module _ (owners : List (Option ℕ)) (counts less : List ℕ) (k to x : ℕ) (are : AreCounts owners counts) (to_in : to < length counts) where
  long : (old : Option ℕ) → Less counts old less → length less ≡ length counts
  long None same = ap length same
  long (Some from) same = ap length same ∙ length-set counts from (get_or counts from 0 - 1)

  read : (old : Option ℕ) → Less counts old less → x ≡ get_or less to x → x ≡ get_or less to 0
  read old is_less read_x = let same = long old is_less in get_or_read less to x (omega arith) read_x 0

  pub less-le : (old : Option ℕ) → Less counts old less → x ≡ get_or less to x → x ≤ length owners
  less-le None same read_x =
      let value = read None same read_x ∙ ap (λ xs. get_or xs to 0) same in
      let few = count-le owners counts to are to_in in
      omega arith
  less-le (Some from) same read_x =
      let value = read (Some from) same read_x ∙ ap (λ xs. get_or xs to 0) same in
      let few = count-le owners counts to are to_in in
      let low : get_or (set_at counts from (get_or counts from 0 - 1)) to 0 ≤ get_or counts to 0 = elim (cases_equal to from) [
        | inl equal ↦
            let here = ap (λ n. get_or (set_at counts from (get_or counts from 0 - 1)) n 0) equal in
            let there = get_or-set_same counts from (get_or counts from 0 - 1) 0 (omega arith) in
            let at = ap (λ n. get_or counts n 0) equal in
            omega arith
        | inr apart ↦ let other = get_or-set_other counts from to (get_or counts from 0 - 1) 0 apart in omega arith
      ] in
      omega arith

  pub give-moved : (old : Option ℕ) → Less counts old less → x ≡ get_or less to x → slice_get owners k ≡ Some old → (owner : ℕ) → slice_get owners k ≡ Some (Some owner)
      → set_at less to (x + 1) ≡ one_moved counts owner to
  give-moved None same read_x is owner owns = cc
  give-moved (Some from) same read_x is owner owns =
      let equal : from ≡ owner = same_Some from owner (same_Some (Some from) (Some owner) (sym is ∙ owns)) in
      ap (λ n. set_at less to (n + 1)) (read (Some from) same read_x) ∙ ap (λ xs. set_at xs to (get_or xs to 0 + 1)) same ∙ ap (λ n. one_moved counts n to) equal

  pub give-counts : (old : Option ℕ) → Less counts old less → x ≡ get_or less to x → slice_get owners k ≡ Some old → AreCounts (set_at owners k (Some to)) (set_at less to (x + 1))
  give-counts None same read_x is =
      subst (AreCounts (set_at owners k (Some to))) (sym (ap (λ n. set_at less to (n + 1)) (read None same read_x) ∙ ap (λ xs. set_at xs to (get_or xs to 0 + 1)) same))
      (AreCounts-given owners counts k to are is to_in)
  give-counts (Some from) same read_x is =
      subst (AreCounts (set_at owners k (Some to))) (sym (give-moved (Some from) same read_x is from is))
      (AreCounts-moved owners counts k from to are is to_in)
