-- The members in the order of what they own.
use Rattle.std.specs.Prelude.{◌≡◌, ◌⊎◌, ℕ, ◌+◌, ◌<◌, ◌≤◌, List, length, Option, Some, slice_get, slice_index, MatchOption}
use Rattle.uniform_assign.specs.declared.order.Order.{Order}
use Rattle.uniform_assign.specs.declared.order.TheConstants.{MOST}

-- what each count lacks of the most
pub record AreLacks (most : ℕ) (counts lacks : List ℕ) : Type 0 where
  pub as_many : length lacks ≡ length counts
  pub each : (m : ℕ) → m < length counts → slice_index lacks m + slice_index counts m ≡ most

-- the order is that of the counts
abbrev pub IsOrder : List ℕ → Order → Type 0
IsOrder counts order = AreLacks MOST counts order.lacks

-- the greatest count is at a place and is above the limit, and those before it are less
pub record IsGreatestAt (counts : List ℕ) (limit k : ℕ) : Type 0 where
  pub within : k < length counts
  pub above : limit < slice_index counts k
  pub greatest : (j : ℕ) → j < length counts → slice_index counts j ≤ slice_index counts k
  pub first : (j : ℕ) → j < k → slice_index counts j < slice_index counts k

-- at some place, if any count is above the limit
abbrev pub IsFirstAbove : List ℕ → ℕ → Option ℕ → Type 0
IsFirstAbove counts limit o = MatchOption o ((m : ℕ) → m < length counts → slice_index counts m ≤ limit) (IsGreatestAt counts limit)

-- the member is in the list, at a place or behind it
abbrev pub IsListedFrom : List ℕ → ℕ → ℕ → Type 0
IsListedFrom aside from m = (j : ℕ) × (from ≤ j) × (slice_get aside j ≡ Some m)

-- the counts as they are shown: a member that is set aside, and not yet put back, is shown with none
pub record AreShown (counts aside : List ℕ) (from : ℕ) (shown : List ℕ) : Type 0 where
  pub as_many : length shown ≡ length counts
  pub within : (j m : ℕ) → slice_get aside j ≡ Some m → m < length counts
  pub each : (m : ℕ) → m < length counts → (slice_index shown m ≡ slice_index counts m) ⊎ ((slice_index shown m ≡ 0) × IsListedFrom aside from m)

-- the order is that of the counts, but for the members that are set aside
abbrev pub IsOrderBut : List ℕ → List ℕ → Order → Type 0
IsOrderBut counts aside order = (shown : List ℕ) × AreShown counts aside 0 shown × IsOrder shown order
