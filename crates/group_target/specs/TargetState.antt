-- KIP-848, "Target Assignment": the state of a target.
use Rattle.std.specs.Prelude.{ℕ, refl}
use Rattle.std.specs.Coded.{Coded, code_by, coded×, coded_ℕ}
use Rattle.group_types.specs.Owners.{Spread}
use Rattle.range_assign.specs.Shares.{owners_code}

-- who is to own which partition, and the epoch of the group for which that was worked out
pub record TargetState : Type 0 where
  pub owners : Spread
  pub epoch : ℕ

-- a target is stored as the pair of its fields
abbrev pub target_code : Coded TargetState
target_code = code_by (Spread × ℕ) (coded× owners_code coded_ℕ) (λ t. (t.owners, t.epoch)) (λ p. record { owners = p.0; epoch = p.1 }) (λ _. refl)
