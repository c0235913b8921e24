-- The members in the order of what they own, where some of them are set aside.
use Rattle.std.proofs.Common.{◌≡◌, ℕ, zero, suc, ◌<◌, ◌≤◌, ◌+◌, ◌-◌, List, [], ◌∷◌, ◌++◌, length, get_or, set as set_at, slice_get, refl, sym, ap, ◌∙◌, arith, inl, inr, Some, length-set, get_or-set_other, get_or-set_same, sum_by}
use Rattle.std.specs.List.{All}
use Rattle.std.proofs.lemmas.Bool.{cases_lt}
use Rattle.std.proofs.lemmas.List.{length_push, length-map}
use Rattle.std.proofs.lemmas.List.Sums.{sum_by-set}
use Rattle.std.proofs.lemmas.Option.{get_or_from_slice_get, same_Some, slice_get_within}
use Rattle.uniform_assign.specs.declared.order.Order.{Order}
use Rattle.uniform_assign.specs.declared.count_set.Rank.{Rank}
use Rattle.uniform_assign.specs.Orders.{AreLacks, AreShown, IsGreatestAt, IsOrder}
use Rattle.uniform_assign.specs.CountSets.{IsFirstRank, counts_of}
use Rattle.uniform_assign.proofs.Counts.{cases_equal}
use Rattle.uniform_assign.proofs.Lists.{pushed_at, slice_get-append_cases, slice_get-append_left, slice_get-map_at}

-- ---- the members are listed

-- what the first n counts lack is listed, and so are their members
pub record AreListedTo (most : ℕ) (counts lacks members : List ℕ) (n : ℕ) : Type 0 where
  pub as_many : length lacks ≡ n
  pub all : length members ≡ n
  pub lack : (k : ℕ) → k < n → (l : ℕ) × (slice_get lacks k ≡ Some l) × (l + get_or counts k 0 ≡ most)
  pub same : (k : ℕ) → k < n → slice_get members k ≡ Some k

module _ (most : ℕ) (counts : List ℕ) where
  pub AreListedTo-none : (lacks members : List ℕ) → lacks ≡ [] → members ≡ [] → AreListedTo most counts lacks members 0
  AreListedTo-none lacks members one other = record {
    as_many = ap length one;
    all = ap length other;
    lack = λ k low. absurd (omega arith);
    same = λ k low. absurd (omega arith);
  }

  pub AreListedTo-more : (lacks members : List ℕ) (n l : ℕ) → AreListedTo most counts lacks members n → l + get_or counts n 0 ≡ most
      → AreListedTo most counts (lacks ++ l ∷ []) (members ++ n ∷ []) (n + 1)
  AreListedTo-more lacks members n l before total = record {
    as_many = length_push lacks l ∙ ap (λ k. k + 1) before.as_many;
    all = length_push members n ∙ ap (λ k. k + 1) before.all;
    lack = λ k low. elim (cases_lt k n) [
      | inl below ↦ let (x, is_x, sum) = before.lack k below in (x, slice_get-append_left lacks (l ∷ []) k x is_x, sum)
      | inr above ↦
          let last : n ≡ k = omega arith in
          (l, ap (slice_get (lacks ++ l ∷ [])) (sym (before.as_many ∙ last)) ∙ pushed_at lacks l, ap (λ j. l + get_or counts j 0) (sym last) ∙ total)
    ];
    same = λ k low. elim (cases_lt k n) [
      | inl below ↦ slice_get-append_left members (n ∷ []) k k (before.same k below)
      | inr above ↦
          let last : n ≡ k = omega arith in
          ap (slice_get (members ++ n ∷ [])) (sym (before.all ∙ last)) ∙ pushed_at members n ∙ ap Some last
    ];
  }

  module _ (lacks members : List ℕ) (n : ℕ) (are : AreListedTo most counts lacks members n) where
    pub listed-within : All (λ m. m < length lacks) members
    listed-within = λ k d low.
        let many = are.all in
        let as_many = are.as_many in
        let value = get_or_from_slice_get members k k d (are.same k (omega arith)) in
        omega arith

    pub AreLacks-listed : n ≡ length counts → AreLacks most counts (counts_of lacks members)
    AreLacks-listed all = record {
      as_many = length-map members (λ t. get_or lacks t 0) ∙ are.all ∙ all;
      each = λ m low.
          let (l, is_l, total) = are.lack m (omega arith) in
          let here = slice_get-map_at (λ t. get_or lacks t 0) members m m (are.same m (omega arith)) in
          let value = get_or_from_slice_get (counts_of lacks members) m (get_or lacks m 0) 0 here in
          let lack = get_or_from_slice_get lacks m l 0 is_l in
          omega arith;
    }

-- ---- a count is written

-- the order has room for each member
pub order-room : (counts : List ℕ) (order : Order) (m : ℕ) → IsOrder counts order → m < length counts → m < length order.lacks
order-room counts order m are within = let many = are.as_many in omega arith

pub AreLacks-set : (most : ℕ) (counts lacks : List ℕ) (m count : ℕ) → AreLacks most counts lacks → m < length counts → count ≤ most → AreLacks most (set_at counts m count) (set_at lacks m (most - count))
AreLacks-set most counts lacks m count are within few =
    let many = are.as_many in
    let long = length-set counts m count in
    record {
      as_many = length-set lacks m (most - count) ∙ are.as_many ∙ sym long;
      each = λ k low. elim (cases_equal k m) [
        | inl same ↦
            let one = ap (λ j. get_or (set_at lacks m (most - count)) j 0) same ∙ get_or-set_same lacks m (most - count) 0 (omega arith) in
            let other = ap (λ j. get_or (set_at counts m count) j 0) same ∙ get_or-set_same counts m count 0 within in
            omega arith
        | inr apart ↦
            let one = get_or-set_other lacks m k (most - count) 0 apart in
            let other = get_or-set_other counts m k count 0 apart in
            let total = are.each k (omega arith) in
            omega arith
      ];
    }

-- ---- the first member

module _ (most limit : ℕ) (counts lacks : List ℕ) (are : AreLacks most counts lacks) where
  pub nobody-above : lacks ≡ [] → (m : ℕ) → m < length counts → get_or counts m 0 ≤ limit
  nobody-above none m low = let many = are.as_many in let zero_long = ap length none in absurd (omega arith)

  module _ (rank : Rank) (is : IsFirstRank lacks rank) where
    pub first-above : limit < most - rank.count → IsGreatestAt counts limit rank.place
    first-above more =
        let many = are.as_many in
        let inside = is.least.within in
        let mine = are.each rank.place (omega arith) in
        let lack = is.count in
        record {
          within = omega arith;
          above = omega arith;
          greatest = λ j low. let his = are.each j low in let few = is.least.least j (omega arith) in omega arith;
          first = λ j early. let his = are.each j (omega arith) in let few = is.least.first j early in omega arith;
        }

    pub first-within : most - rank.count ≤ limit → (m : ℕ) → m < length counts → get_or counts m 0 ≤ limit
    first-within few m low =
        let many = are.as_many in
        let his = are.each m low in
        let least = is.least.least m (omega arith) in
        let lack = is.count in
        omega arith

-- ---- members are set aside, and put back

pub AreShown-none : (counts aside : List ℕ) → aside ≡ [] → AreShown counts aside 0 counts
AreShown-none counts aside none = record {
  as_many = refl;
  within = λ j m is. absurd (nobody j m (ap (λ xs. slice_get xs j) (sym none) ∙ is));
  each = λ m low. inl refl;
}
  where
    nobody : (j m : ℕ) → slice_get [] j ≡ Some m → ⊥
    nobody j m is = cc

module _ (counts aside shown : List ℕ) where
  pub AreShown-aside : (m : ℕ) → AreShown counts aside 0 shown → m < length counts → AreShown counts (aside ++ m ∷ []) 0 (set_at shown m 0)
  AreShown-aside m are within =
      let many = are.as_many in
      record {
        as_many = length-set shown m 0 ∙ are.as_many;
        within = λ j k is. elim (slice_get-append_cases aside (m ∷ []) j k is) [
          | inl before ↦ are.within j k before
          | inr (i, at, end) ↦ last k i end
        ];
        each = λ k low. elim (cases_equal k m) [
          | inl same ↦
              inr (ap (λ j. get_or (set_at shown m 0) j 0) same ∙ get_or-set_same shown m 0 0 (omega arith), (length aside, omega arith, pushed_at aside m ∙ ap Some (sym same)))
          | inr apart ↦
              let other = get_or-set_other shown m k 0 0 apart in
              elim (are.each k low) [
                | inl equal ↦ inl (other ∙ equal)
                | inr (none, (j, above, is)) ↦ inr (other ∙ none, (j, above, slice_get-append_left aside (m ∷ []) j k is))
              ]
        ];
      }
    where
      last : (k i : ℕ) → slice_get (m ∷ []) i ≡ Some k → k < length counts
      last k zero end = let same = same_Some m k end in omega arith
      last k (suc i) end = cc

  pub AreShown-back : (i m : ℕ) → AreShown counts aside i shown → slice_get aside i ≡ Some m → AreShown counts aside (i + 1) (set_at shown m (get_or counts m 0))
  AreShown-back i m are is_m =
      let many = are.as_many in
      let within = are.within i m is_m in
      record {
        as_many = length-set shown m (get_or counts m 0) ∙ are.as_many;
        within = are.within;
        each = λ k low. elim (cases_equal k m) [
          | inl same ↦
              inl (ap (λ j. get_or (set_at shown m (get_or counts m 0)) j 0) same ∙ get_or-set_same shown m (get_or counts m 0) 0 (omega arith) ∙ ap (λ j. get_or counts j 0) (sym same))
          | inr apart ↦
              let other = get_or-set_other shown m k (get_or counts m 0) 0 apart in
              elim (are.each k low) [
                | inl equal ↦ inl (other ∙ equal)
                | inr (none, (j, above, is)) ↦ inr (other ∙ none, (j, later k j apart above is, is))
              ]
        ];
      }
    where
      later : (k j : ℕ) → (k ≡ m → ⊥) → i ≤ j → slice_get aside j ≡ Some k → i + 1 ≤ j
      later k j apart above is = elim (cases_lt i j) as (λ _. i + 1 ≤ j) [
        | inl more ↦ omega arith
        | inr low ↦ absurd (apart (same_Some k m (sym is ∙ ap (slice_get aside) (let same : j ≡ i = omega arith in same) ∙ is_m)))
      ]

  -- all of them are put back
  pub AreLacks-shown : (most n : ℕ) (lacks : List ℕ) → AreShown counts aside n shown → length aside ≤ n → AreLacks most shown lacks → AreLacks most counts lacks
  AreLacks-shown most n lacks are last left = record {
    as_many = left.as_many ∙ are.as_many;
    each = λ m low.
        let many = are.as_many in
        let total = left.each m (omega arith) in
        elim (are.each m low) [
          | inl equal ↦ omega arith
          | inr (none, (j, above, is)) ↦ let early = slice_get_within aside j m is in absurd (omega arith)
        ];
  }

  -- a member that owned something is set aside: what is shown is less by as much at least as there are more of them
  pub fewer_shown : (m : ℕ) → m < length shown → 0 < get_or shown m 0 → sum_by (λ n. n) shown + length aside ≤ sum_by (λ n. n) counts
      → sum_by (λ n. n) (set_at shown m 0) + length (aside ++ m ∷ []) ≤ sum_by (λ n. n) counts
  fewer_shown m within some few =
      let less = sum_by-set (λ n. n) shown m 0 0 within in
      let long = length_push aside m in
      omega arith
