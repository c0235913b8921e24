-- The shares of members, and the spread that they make.
use Rattle.std.specs.Prelude.{Option, MatchOption, IsPermutation, ◌≡◌, ◌≢◌, ◌<◌, ◌≤◌, ℕ, List, [], ◌∷◌, ◌++◌, map, length, AllPairs, Result, MatchResult}
use Rattle.std.specs.List.{AllWithin, Contains, HoldsAt}
use Rattle.std.specs.declared.cmp.Ordering.TheVariants.{Less, Greater}
use Rattle.std.specs.Coded.{Coded, coded_list, coded_ℕ}
use Rattle.std.specs.FinMap as finite
use Rattle.group_types.specs.declared.partition.Partition.{Partition}
use Rattle.group_types.specs.Text.{Text, text_cmp}
use Rattle.group_types.specs.Sets.{nothing, common, in_order}
use Rattle.group_types.specs.Partition.{Partitions, partition_code}
use Rattle.group_types.specs.Owners.{Spread}
use Rattle.range_assign.specs.declared.spread.Share.{Share}

-- a spread is stored as its entries
abbrev pub owners_code : Coded Spread
owners_code = finite.code partition_code (coded_list coded_ℕ)

-- a share as the member's id and its partitions
abbrev pub share_in : Share → Text × Partitions
share_in s = (s.id, s.set)

abbrev pub shares_in : List Share → List (Text × Partitions)
shares_in ss = map share_in ss

-- the partitions of a list of shares, each with its owner
abbrev pub owned_in : List (Text × Partitions) → List (Partition × Text)
owned_in [] = []
owned_in (s ∷ ss) = map (λ p. (p, s.0)) (in_order s.1) ++ owned_in ss

-- the partitions of a list of shares, share by share
abbrev pub partitions_in : List (Text × Partitions) → List Partition
partitions_in [] = []
partitions_in (s ∷ ss) = in_order s.1 ++ partitions_in ss

-- KIP-848, "Target Assignment": the members own the partitions of their shares, and nobody owns any other
abbrev pub spread_of : List (Text × Partitions) → Spread
spread_of shares = finite.from_entries (owned_in shares)

-- no two shares have one id, and no two have one partition
pub record AreShares (shares : List (Text × Partitions)) : Type 0 where
  pub ids_apart : AllPairs (λ s t. s.0 ≢ t.0) shares
  pub sets_apart : AllPairs (λ s t. common s.1 t.1 ≡ nothing) shares

-- no two shares have one partition
abbrev pub SetsAreApart : List (Text × Partitions) → Type 0
SetsAreApart = AllPairs (λ s t. common s.1 t.1 ≡ nothing)

-- each share's id is before those of the shares after it
abbrev pub IdsRise : List (Text × Partitions) → Type 0
IdsRise shares = AllPairs (λ s t. text_cmp s.0 t.0 ≡ Less) shares

-- what is true of the shares of a spread
pub record AreInIdOrder (shares : List (Text × Partitions)) : Type 0 where
  pub rise : IdsRise shares
  pub sets_apart : AllPairs (λ s t. common s.1 t.1 ≡ nothing) shares

-- the place of the share with the id, or else the place between the shares before it and those after it
abbrev pub IsPlace : List (Text × Partitions) → Text → Result ℕ ℕ → Type 0
IsPlace shares id r =
    MatchResult r
    (λ i. (i < length shares) × HoldsAt (λ s. s.0 ≡ id) shares i)
    (λ i. (i ≤ length shares) × AllWithin (λ s. text_cmp s.0 id ≡ Less) shares 0 i × AllWithin (λ s. text_cmp s.0 id ≡ Greater) shares i (length shares))

-- ---- changes

-- no share has the id
abbrev pub HasNoShare : List (Text × Partitions) → Text → Type 0
HasNoShare shares id = (s : Text × Partitions) → Contains shares s → s.0 ≢ id

-- the share with the id was taken out of the shares, or there was none
abbrev pub TakesShare : List (Text × Partitions) → List (Text × Partitions) → Text → Option Partitions → Type 0
TakesShare old new id taken = MatchOption taken (new ≡ old) (λ set. IsPermutation old ((id, set) ∷ new))
