-- The tree of a set, where a node is written anew, and the first of it.
use Rattle.std.proofs.Common.{◌≡◌, ◌⊎◌, ℕ, zero, suc, ◌<◌, ◌≤◌, ◌+◌, ◌-◌, ◌/◌, List, [], ◌∷◌, ◌++◌, length, map, drop, get_or, set as set_at, slice_get, refl, sym, ap, subst, ◌∙◌, arith, inl, inr, Some, length-set}
use Rattle.std.proofs.lemmas.Bool.{cases_lt}
use Rattle.std.proofs.lemmas.List.{ext_get_or, get_or-drop, get_or-map, length_push, length-drop, length-map}
use Rattle.std.proofs.lemmas.Option.{get_or_from_slice_get, same_Some, slice_get-get_or, slice_get_within}
use Rattle.uniform_assign.specs.declared.count_set.Rank.{Rank}
use Rattle.uniform_assign.specs.CountSets.{AreRanks, IsBefore, IsFirstRank, IsLeastAt, IsMatch, IsPlayed, IsTree, counts_in, counts_of}
use Rattle.uniform_assign.proofs.Counts.{cases_equal}
use Rattle.uniform_assign.proofs.Kept.{slice_get-set_other, slice_get-set_same}
use Rattle.uniform_assign.proofs.Lists.{pushed_at, slice_get-append_left, slice_get-map_from, some_at}

IsBefore-itself : (a : Rank) → IsBefore a a
IsBefore-itself a = inr (refl, omega arith)

IsBefore-trans : (a b c : Rank) → IsBefore a b → IsBefore b c → IsBefore a c
IsBefore-trans a b c one other = elim one [
  | inl less ↦ elim other [ inl more ↦ inl (omega arith) | inr tie ↦ let same = tie.0 in inl (omega arith) ]
  | inr tie ↦
      let same = tie.0 in
      let low = tie.1 in
      elim other [ inl more ↦ inl (omega arith) | inr again ↦ let equal = again.0 in let above = again.1 in inr (omega arith, omega arith) ]
]

-- ---- a node is written

module _ (old new : List Rank) (p : ℕ) (is : IsPlayed old p new) where
  length-played : length new ≡ length old
  length-played = ap length is.is_new ∙ length-set old p is.first

  other-played : (i : ℕ) → (i ≡ p → ⊥) → slice_get new i ≡ slice_get old i
  other-played i apart = ap (λ xs. slice_get xs i) is.is_new ∙ slice_get-set_other old p i is.first apart

  -- the node has the first of the two below it
  IsMatch-played : 0 < p → p < length old → IsMatch new p
  IsMatch-played some low = record {
    left = is.left;
    is_left = other-played (p + p) (λ same. omega arith) ∙ is.is_left;
    right = is.right;
    is_right = other-played (p + p + 1) (λ same. omega arith) ∙ is.is_right;
    first = is.first;
    is_first = ap (λ xs. slice_get xs p) is.is_new ∙ slice_get-set_same old p is.first low;
    comes_first = is.comes_first;
  }

  -- what neither is the node nor above it stays
  IsMatch-other : (i : ℕ) → (i ≡ p → ⊥) → (i + i ≡ p → ⊥) → (i + i + 1 ≡ p → ⊥) → IsMatch old i → IsMatch new i
  IsMatch-other i apart left right match = record {
    left = match.left;
    is_left = other-played (i + i) left ∙ match.is_left;
    right = match.right;
    is_right = other-played (i + i + 1) right ∙ match.is_right;
    first = match.first;
    is_first = other-played i apart ∙ match.is_first;
    comes_first = match.comes_first;
  }

  pub AreRanks-played : (counts : List ℕ) → p < length counts → AreRanks counts old → AreRanks counts new
  AreRanks-played counts low are = record {
    as_many = length-played ∙ are.as_many;
    ranks = λ k n is_n. other-played (length counts + k) (λ same. omega arith) ∙ are.ranks k n is_n;
  }

-- from a node on each has the first of the two below it
abbrev pub AreMatchesFrom : ℕ → ℕ → List Rank → Type 0
AreMatchesFrom low n nodes = (i : ℕ) → low ≤ i → 0 < i → i < n → IsMatch nodes i

pub AreMatchesFrom-played : (counts : List ℕ) (old new : List Rank) (p : ℕ) → AreRanks counts old → 0 < p → p < length counts → AreMatchesFrom (p + 1) (length counts) old → IsPlayed old p new → AreMatchesFrom p (length counts) new
AreMatchesFrom-played counts old new p are some low before is i above positive within = elim (cases_equal i p) [
  | inl same ↦ let many = are.as_many in subst (IsMatch new) (sym same) (IsMatch-played old new p is some (omega arith))
  | inr apart ↦
      let more : p + 1 ≤ i = elim (cases_lt p i) [ inl less ↦ omega arith | inr low_ ↦ absurd (apart (omega arith)) ] in
      IsMatch-other old new p is i apart (λ same. omega arith) (λ same. omega arith) (before i more positive within)
]

-- all but the node above this one have the first of the two below them
abbrev pub AreMatchesBut : ℕ → ℕ → List Rank → Type 0
AreMatchesBut node n nodes = (i : ℕ) → 0 < i → i < n → (i + i ≡ node → ⊥) → (i + i + 1 ≡ node → ⊥) → IsMatch nodes i

pub AreMatchesBut-played : (counts : List ℕ) (old new : List Rank) (node p : ℕ) → AreRanks counts old → 0 < p → p < length counts → (p + p ≡ node) ⊎ (p + p + 1 ≡ node) → AreMatchesBut node (length counts) old → IsPlayed old p new
    → AreMatchesBut p (length counts) new
AreMatchesBut-played counts old new node p are some low above before is i positive within left right = elim (cases_equal i p) [
  | inl same ↦ let many = are.as_many in subst (IsMatch new) (sym same) (IsMatch-played old new p is some (omega arith))
  | inr apart ↦
      IsMatch-other old new p is i apart left right
      (before i positive within (λ same. elim above [ inl one ↦ apart (omega arith) | inr other ↦ omega arith ]) (λ same. elim above [ inl one ↦ omega arith | inr other ↦ apart (omega arith) ]))
]

-- a count was written
pub AreRanks-set : (counts : List ℕ) (nodes : List Rank) (place count : ℕ) → place < length counts → AreRanks counts nodes → AreRanks (set_at counts place count) (set_at nodes (length counts + place) (record { count = count; place = place }))
AreRanks-set counts nodes place count low are =
    let long = length-set counts place count in
    let rank : Rank = record { count = count; place = place } in
    let many = are.as_many in
    record {
      as_many = length-set nodes (length counts + place) rank ∙ many ∙ (let same : length counts + length counts ≡ length (set_at counts place count) + length (set_at counts place count) = omega arith in same);
      ranks = λ k n is_n. elim (cases_equal k place) [
        | inl same ↦
            let here : n ≡ count = same_Some n count (sym is_n ∙ ap (slice_get (set_at counts place count)) same ∙ slice_get-set_same counts place count low) in
            ap (slice_get (set_at nodes (length counts + place) rank)) (let at : length (set_at counts place count) + k ≡ length counts + place = omega arith in at)
            ∙ slice_get-set_same nodes (length counts + place) rank (omega arith)
            ∙ ap Some (λ i. record { count = sym here i; place = sym same i })
        | inr apart ↦
            ap (slice_get (set_at nodes (length counts + place) rank)) (let at : length (set_at counts place count) + k ≡ length counts + k = omega arith in at)
            ∙ slice_get-set_other nodes (length counts + place) (length counts + k) rank (λ same. apart (omega arith))
            ∙ are.ranks k n (sym (slice_get-set_other counts place k count apart) ∙ is_n)
      ];
    }

pub AreMatchesBut-set : (counts : List ℕ) (nodes : List Rank) (place : ℕ) (rank : Rank) → IsTree counts nodes → AreMatchesBut (length counts + place) (length counts) (set_at nodes (length counts + place) rank)
AreMatchesBut-set counts nodes place rank is i positive within left right =
    let match = is.matches i positive within in
    record {
      left = match.left;
      is_left = slice_get-set_other nodes (length counts + place) (i + i) rank left ∙ match.is_left;
      right = match.right;
      is_right = slice_get-set_other nodes (length counts + place) (i + i + 1) rank right ∙ match.is_right;
      first = match.first;
      is_first = slice_get-set_other nodes (length counts + place) i rank (λ same. omega arith) ∙ match.is_first;
      comes_first = match.comes_first;
    }

-- ---- the first of all

module _ (counts : List ℕ) (nodes : List Rank) (is : IsTree counts nodes) where
  -- the first rank is before each
  root-before : (root : Rank) → slice_get nodes 1 ≡ Some root → (fuel i : ℕ) → i ≤ fuel → 0 < i → i < length counts + length counts → (x : Rank) → slice_get nodes i ≡ Some x → IsBefore root x
  root-before root is_root zero i few positive within x is_x = absurd (omega arith)
  root-before root is_root (suc fuel) i few positive within x is_x = elim (cases_equal i 1) [
    | inl one ↦ subst (IsBefore root) (same_Some root x (sym is_root ∙ ap (slice_get nodes) (sym one) ∙ is_x)) (IsBefore-itself root)
    | inr more ↦
        let p = i / 2 in
        let big : 1 < i = elim (cases_lt 1 i) as (λ _. 1 < i) [ inl large ↦ large | inr low_ ↦ absurd (more (omega arith)) ] in
        let match = is.matches p (omega arith) (omega arith) in
        let above = root-before root is_root fuel p (omega arith) (omega arith) (omega arith) match.first match.is_first in
        elim (cases_equal (p + p) i) [
          | inl even ↦
              let left : match.left ≡ x = same_Some match.left x (sym match.is_left ∙ ap (slice_get nodes) even ∙ is_x) in
              subst (IsBefore root) left (elim match.comes_first [
                | inl (same, before) ↦ subst (IsBefore root) same above
                | inr (same, before) ↦ IsBefore-trans root match.right match.left (subst (IsBefore root) same above) before
              ])
          | inr odd ↦
              let other : p + p + 1 ≡ i = elim (cases_lt (p + p) i) as (λ _. p + p + 1 ≡ i) [ inl less ↦ omega arith | inr low_ ↦ absurd (odd (omega arith)) ] in
              let right : match.right ≡ x = same_Some match.right x (sym match.is_right ∙ ap (slice_get nodes) other ∙ is_x) in
              subst (IsBefore root) right (elim match.comes_first [
                | inl (same, before) ↦ IsBefore-trans root match.left match.right (subst (IsBefore root) same above) before
                | inr (same, before) ↦ subst (IsBefore root) same above
              ])
        ]
  ]

  -- each node has one of the ranks
  node-rank : (fuel i : ℕ) → length counts + length counts ≤ fuel + i → 0 < i → i < length counts + length counts → (x : Rank) → slice_get nodes i ≡ Some x → slice_get counts x.place ≡ Some x.count
  node-rank zero i many positive within x is_x = absurd (omega arith)
  node-rank (suc fuel) i many positive within x is_x = elim (cases_lt i (length counts)) [
    | inl inner ↦
        let match = is.matches i positive inner in
        let same : match.first ≡ x = same_Some match.first x (sym match.is_first ∙ is_x) in
        elim match.comes_first [
          | inl (first, before) ↦
              node-rank fuel (i + i) (omega arith) (omega arith) (omega arith) x (match.is_left ∙ ap Some (sym first ∙ same))
          | inr (first, before) ↦
              node-rank fuel (i + i + 1) (omega arith) (omega arith) (omega arith) x (match.is_right ∙ ap Some (sym first ∙ same))
        ]
    | inr leaf ↦
        let k = i - length counts in
        let at : length counts + k ≡ i = omega arith in
        let (n, is_n) = some_at counts k (omega arith) in
        let rank = is.are_ranks.ranks k n is_n in
        let same = same_Some _ x (sym rank ∙ ap (slice_get nodes) at ∙ is_x) in
        ap (λ (r : Rank). slice_get counts r.place) (sym same) ∙ is_n ∙ ap (λ (r : Rank). Some r.count) same
  ]

  root-rank : (root : Rank) → slice_get nodes 1 ≡ Some root → slice_get counts root.place ≡ Some root.count
  root-rank root is_root =
      let many = is.are_ranks.as_many in
      let long = slice_get_within nodes 1 root is_root in
      node-rank (length counts + length counts) 1 (omega arith) (omega arith) (omega arith) root is_root

  root-least : (root : Rank) → slice_get nodes 1 ≡ Some root → IsLeastAt counts root.place
  root-least root is_root =
      let many = is.are_ranks.as_many in
      let long = slice_get_within nodes 1 root is_root in
      let mine = root-rank root is_root in
      let value = get_or_from_slice_get counts root.place root.count 0 mine in
      let before = λ (j : ℕ) (low : j < length counts). root-before root is_root (length counts + j) (length counts + j) (omega arith) (omega arith) (omega arith) (record { count = get_or counts j 0; place = j }) (is.are_ranks.ranks j (get_or counts j 0) (slice_get-get_or counts j 0 low)) in
      record {
        within = slice_get_within counts root.place root.count mine;
        least = λ j low. elim (before j low) [ inl less ↦ omega arith | inr tie ↦ let same = tie.0 in omega arith ];
        first = λ j early.
            let inside = slice_get_within counts root.place root.count mine in
            elim (before j (omega arith)) [ inl less ↦ omega arith | inr tie ↦ let later = tie.1 in absurd (omega arith) ];
      }

  pub root-first : (root : Rank) → slice_get nodes 1 ≡ Some root → IsFirstRank counts root
  root-first root is_root = record {
    least = root-least root is_root;
    count = get_or_from_slice_get counts root.place root.count 0 (root-rank root is_root);
  }

-- ---- the counts that are shown

pub counts_in-tree : (counts : List ℕ) (nodes : List Rank) → IsTree counts nodes → counts_in nodes ≡ counts
counts_in-tree counts nodes is =
    let many = is.are_ranks.as_many in
    let half : length nodes / 2 ≡ length counts = omega arith in
    let rest = drop (length counts) nodes in
    let long = length-drop (length counts) nodes in
    let shown = length-map rest (λ (r : Rank). r.count) in
    ap (λ n. map (λ (r : Rank). r.count) (drop n nodes)) half
    ∙ ext_get_or 0 (map (λ (r : Rank). r.count) rest) counts (omega arith) (λ k low.
    let (n, is_n) = some_at counts k (omega arith) in
    let rank : Rank = record { count = n; place = k } in
    get_or-map (λ (r : Rank). r.count) rest k rank 0 (omega arith)
    ∙ ap (λ (r : Rank). r.count) (get_or-drop (length counts) nodes k rank ∙ get_or_from_slice_get nodes (length counts + k) rank rank (is.are_ranks.ranks k n is_n))
    ∙ sym (get_or_from_slice_get counts k n 0 is_n))

-- ---- the ranks are listed

-- the first n takers' ranks are behind as many others
pub record AreRanksTo (counts takers : List ℕ) (n : ℕ) (nodes : List Rank) : Type 0 where
  pub as_many : length nodes ≡ length takers + n
  pub ranks : (k t : ℕ) → k < n → slice_get takers k ≡ Some t → slice_get nodes (length takers + k) ≡ Some (record { count = get_or counts t 0; place = k })

pub AreRanksTo-more : (counts takers : List ℕ) (n t : ℕ) (nodes : List Rank) (rank : Rank) → AreRanksTo counts takers n nodes → slice_get takers n ≡ Some t → rank.count ≡ get_or counts t 0 → rank.place ≡ n → AreRanksTo counts takers (n + 1) (nodes ++ rank ∷ [])
AreRanksTo-more counts takers n t nodes rank before is_t count place = record {
  as_many = length_push nodes rank ∙ (let long = before.as_many in omega arith);
  ranks = λ k u low is_u. elim (cases_lt k n) [
    | inl below ↦ slice_get-append_left nodes (rank ∷ []) (length takers + k) _ (before.ranks k u below is_u)
    | inr above ↦
        let last : n ≡ k = omega arith in
        let same : t ≡ u = same_Some t u (sym is_t ∙ ap (slice_get takers) last ∙ is_u) in
        ap (slice_get (nodes ++ rank ∷ [])) (let long = before.as_many in let at : length takers + k ≡ length nodes = omega arith in at)
        ∙ pushed_at nodes rank
        ∙ ap Some (λ i. record { count = (count ∙ ap (λ v. get_or counts v 0) same) i; place = (place ∙ last) i })
  ];
}

pub AreRanksTo-all : (counts takers : List ℕ) (n : ℕ) (nodes : List Rank) → AreRanksTo counts takers n nodes → n ≡ length takers → AreRanks (counts_of counts takers) nodes
AreRanksTo-all counts takers n nodes are all =
    let long = length-map takers (λ t. get_or counts t 0) in
    record {
      as_many = are.as_many ∙ (let same : length takers + n ≡ length (counts_of counts takers) + length (counts_of counts takers) = omega arith in same);
      ranks = λ k c is_c.
          let (t, is_t, same) = slice_get-map_from (λ t. get_or counts t 0) takers k c is_c in
          let low = slice_get_within takers k t is_t in
          ap (slice_get nodes) (let at : length (counts_of counts takers) + k ≡ length takers + k = omega arith in at)
          ∙ are.ranks k t (omega arith) is_t
          ∙ ap Some (λ i. record { count = same i; place = k });
    }
