-- What a put does to the bytes written so far.
use Rattle.std.specs.Prelude.{◌≡◌, ℕ, suc, ◌-◌, ◌<◌, ◌≤◌, List, ◌++◌, length, take, All, Result, OnOk, OnErr, IfOk, IfErr, is_ok, if◌then◌else◌}
use Rattle.std.specs.List.{flat_map}
use Rattle.replica_snapshots.specs.Nodes.{Section, section_fields, FitsSection, between}
use Rattle.replica_snapshots.specs.Puttable.{CanPutSection}
use Rattle.replica_snapshots.specs.declared.fault.SnapshotFault.{SnapshotFault}
use Rattle.replica_snapshots.specs.declared.fault.SnapshotFault.TheVariants.{NoMemory}

-- The spelling of what fits is appended. A put may stop inside of it: the old bytes are then still the first ones. Where what is needed
-- holds, only the want of memory stops one.
pub record PutsUpToWhere (result : Result (Unit {0}) SnapshotFault) (old new : List ℕ) (Needed Fits : Type 0) (spelling : List ℕ) : Type 0 where
  pub ok : OnOk result (new ≡ old ++ spelling)
  pub fits : OnOk result Fits
  pub err : OnErr result (take (length old) new ≡ old)
  pub fitting : Needed → IfErr result (λ fault. fault ≡ NoMemory)

-- All that is needed is that it fits.
abbrev pub PutsUpTo : Result (Unit {0}) SnapshotFault → List ℕ → List ℕ → Type 0 → List ℕ → Type 0
PutsUpTo result old new Fits spelling = PutsUpToWhere result old new Fits Fits spelling

-- The spelling of what fits is appended, or no byte changes. Where what is needed holds, only the want of memory is in the way.
pub record PutsWhere (result : Result (Unit {0}) SnapshotFault) (old new : List ℕ) (Needed Fits : Type 0) (spelling : List ℕ) : Type 0 where
  pub items : new ≡ (if is_ok result then old ++ spelling else old)
  pub fits : OnOk result Fits
  pub fitting : Needed → IfErr result (λ fault. fault ≡ NoMemory)

-- All that is needed is that it fits.
abbrev pub Puts : Result (Unit {0}) SnapshotFault → List ℕ → List ℕ → Type 0 → List ℕ → Type 0
Puts result old new Fits spelling = PutsWhere result old new Fits Fits spelling

-- Sections are appended, from one number up to the next that is to be written: until there are so many bytes of them, and no further, or
-- none is left; at least one, where one is left. Or no byte changes. Of sections that fit, or that can be written, only the want of memory
-- is in the way.
pub record PutsSections (result : Result ℕ SnapshotFault) (old new : List ℕ) (sections : List Section) (from size : ℕ) : Type 0 where
  pub put : IfOk result (λ next. new ≡ old ++ flat_map section_fields (between from next sections))
  pub fits : IfOk result (λ next. All FitsSection (between from next sections))
  pub next : IfOk result (λ next. from < length sections → (from < next) × (next ≤ length sections))
  pub all : IfOk result (λ next. next < length sections → size ≤ length new - length old)
  pub short : IfOk result (λ next. suc from < next → length (flat_map section_fields (between from (next - 1) sections)) < size)
  pub none : IfOk result (λ next. length sections ≤ from → next ≡ from)
  pub err : OnErr result (new ≡ old)
  pub fitting : All FitsSection sections → IfErr result (λ fault. fault ≡ NoMemory)
  pub can : All CanPutSection sections → IfErr result (λ fault. fault ≡ NoMemory)
