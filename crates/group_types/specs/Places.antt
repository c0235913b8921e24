-- Keys in an order, by their places in a list (ours).
use Rattle.std.specs.Prelude.{◌≡◌, ℕ, if◌then◌else◌, List, length, map, Some, ◌<◌, ◌≤◌, ◌==◌, Result, MatchResult, slice_get, slice_index_or}
use Rattle.std.specs.Ordering.{eq_by_cmp}
use Rattle.std.specs.declared.cmp.Ordering.{Ordering}
use Rattle.std.specs.declared.cmp.Ordering.TheVariants.{Less, Greater}
use Rattle.std.specs.List.{AllByRecursion, list_any}
use Rattle.std.specs.List.Sorted.{IsPartitionPoint, IsStrictlySortedBy}

module _ {K : Type 0} (default : K) where
  -- the key at a place
  abbrev pub key_at : List K → ℕ → K
  key_at keys place = slice_index_or keys place default

  -- the keys at places
  abbrev pub keys_at : List K → List ℕ → List K
  keys_at keys places = map (key_at keys) places

module _ {K : Type 0} (R : K → K → Ordering) (default : K) where
  -- the places of all keys, in their order
  pub record IsOrder (keys : List K) (places : List ℕ) : Type 0 where
    pub rise : IsStrictlySortedBy R (keys_at default keys places)
    pub all : (k : K) → list_any (eq_by_cmp R k) (keys_at default keys places) ≡ list_any (eq_by_cmp R k) keys
    pub within : AllByRecursion (λ place. place < length keys) places

  -- the rank of a key among places in that order, or else where its place would go
  abbrev pub IsRankIn : List K → List ℕ → K → Result ℕ ℕ → Type 0
  IsRankIn keys places k rank =
      MatchResult rank (λ r. (r < length places) × (slice_get (keys_at default keys places) r ≡ Some k))
      (λ r. (r ≤ length places) × IsPartitionPoint (λ l. R l k ≡ Less) (λ l. R l k ≡ Greater) (keys_at default keys places) r)

-- the place of the last key is another one from now on
abbrev pub renumbered : ℕ → ℕ → ℕ → ℕ
renumbered last to place = if place == last then to else place
