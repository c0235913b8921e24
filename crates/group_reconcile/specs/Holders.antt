-- KIP-848, "Current Assignment": who holds which partition, as a map from partitions to their holders and as pairs.
use Rattle.std.specs.Prelude.{◌≡◌, ℕ, ℤ, pos, negsuc, Bool, true, false, ◌&&◌, [], map, Option, Some, None, is_none, IsTrue, if◌then◌else◌, refl}
use Rattle.std.specs.Coded.{Coded, code_by, coded×, coded_ℕ, coded_list}
use Rattle.std.specs.List.{list_all}
use Rattle.std.specs.Option.{option_map, option_map_or}
use Rattle.std.specs.Ordering.{eq_by_cmp}
use Rattle.std.specs.FinMap as finite
use Rattle.group_types.specs.declared.partition.Partition.{Partition}
use Rattle.group_types.specs.Text.{Text, text_cmp}
use Rattle.group_types.specs.Sets.{has, in_order, of_list}
use Rattle.group_types.specs.Partition.{partition_cmp, partition_code, Partitions}
use Rattle.group_types.specs.Group.{Grants}

-- who holds a partition, and the epoch of the target under which it was granted
pub record Held : Type 0 where
  pub member : Text
  pub since : ℕ

abbrev pub Holders : Type 0
Holders = finite.FinMap partition_cmp Held

-- a holder is stored as the pair of its fields
abbrev held_code : Coded Held
held_code = code_by (Text × ℕ) (coded× (coded_list coded_ℕ) coded_ℕ) (λ d. (d.member, d.since)) (λ p. record { member = p.0; since = p.1 }) (λ _. refl)

abbrev pub holders_code : Coded Holders
holders_code = finite.code partition_code held_code

-- whether the member holds the partition
abbrev pub holds : Holders → Text → Partition → Bool
holds h m p = option_map_or (λ d. eq_by_cmp text_cmp m d.member) (finite.get h p) false

-- whether nobody holds the partition, or the member does
abbrev pub may_hold : Holders → Text → Partition → Bool
may_hold h m p = option_map_or (λ d. eq_by_cmp text_cmp m d.member) (finite.get h p) true

-- the id of the holder of a partition that somebody holds
abbrev pub holder_at : Holders → Partition → Text
holder_at h p = option_map_or (λ d. d.member) (finite.get h p) []

-- the pairs of member and partition
abbrev pub pairs : Holders → Grants
pairs h = of_list (map (λ p. (holder_at h p, p)) (finite.keys h))

-- the epoch of the target under which a partition was granted, where somebody holds it
abbrev pub granted_at : Holders → Partition → Option ℕ
granted_at h p = option_map (λ d. d.since) (finite.get h p)

-- ---- what a call does to the holders

-- the holder of a partition once the member is settled on a set at an epoch: the set has the partition or it hasn't
abbrev pub settled_holder : Text → ℕ → Bool → Option Held → Option Held
settled_holder m epoch true None = Some (record { member = m; since = epoch })
settled_holder m epoch true (Some d) = Some d
settled_holder m epoch false None = None
settled_holder m epoch false (Some d) = if eq_by_cmp text_cmp m d.member then None else Some d

-- the new holders are the old ones once the member is settled on the set
abbrev pub Settles : Holders → Text → Partitions → ℕ → Holders → Type 0
Settles h m target epoch n = (p : Partition) → finite.get n p ≡ settled_holder m epoch (has target p) (finite.get h p)

-- the holder of a partition once the member holds nothing
abbrev pub other_holder : Text → Option Held → Option Held
other_holder m None = None
other_holder m (Some d) = if eq_by_cmp text_cmp m d.member then None else Some d

-- the new holders are the old ones but for the member, which holds nothing
abbrev pub LetsGo : Holders → Text → Holders → Type 0
LetsGo h m n = (p : Partition) → finite.get n p ≡ other_holder m (finite.get h p)

-- whether an index isn't below 0
abbrev pub is_from_zero : ℤ → Bool
is_from_zero (pos n) = true
is_from_zero (negsuc n) = false

-- no partition of the set has an index below 0
abbrev pub AreFromZero : Partitions → Type 0
AreFromZero set = IsTrue (list_all (λ p. is_from_zero p.index) (in_order set))

-- whether the partition is free and may be held: no topic has an index below 0
abbrev pub is_grantable : Holders → Partition → Bool
is_grantable h p = is_from_zero p.index && is_none (finite.get h p)

-- the holders with one more grant, where the partition may be granted
abbrev pub with_grant : Holders → Partition → Held → Holders
with_grant h p d = if is_grantable h p then finite.insert h p d else h
