-- KIP-848, "Reconciliation of the group" and "Static Membership": what comes of an offer, of a leave and of a take-over.
use Rattle.std.specs.Prelude.{◌≡◌, ◌⊎◌, map, ℕ, Bool, true, false, Some, None}
use Rattle.std.specs.FinMap as finite
use Rattle.group_types.specs.declared.partition.Partition.{Partition}
use Rattle.group_types.specs.Text.{Text}
use Rattle.group_types.specs.Owners.{renamed_id}
use Rattle.group_reconcile.specs.Holders.{Held, Holders}
use Rattle.group_reconcile.specs.declared.verdict.Verdict.{Verdict}
use Rattle.group_reconcile.specs.declared.verdict.Verdict.TheVariants.{Moves, StillHolds}

-- what is told to a member that may move, and to one that may not
abbrev pub verdict_of : Bool → Verdict
verdict_of true = Moves
verdict_of false = StillHolds

-- what is kept keeps its epoch, and what the member is granted anew has the target's
abbrev pub IsSince : Holders → Holders → Text → ℕ → Type 0
IsSince old new m epoch =
    (p : Partition) (d : Held) → finite.get new p ≡ Some d
    → (finite.get old p ≡ Some d) ⊎ ((d ≡ record { member = m; since = epoch }) × (finite.get old p ≡ None))

-- what is held in the new holders is held there as in the old
abbrev pub KeepsSince : Holders → Holders → Type 0
KeepsSince old new = (p : Partition) (d : Held) → finite.get new p ≡ Some d → finite.get old p ≡ Some d

-- a holder, with the new id in place of the old one
abbrev pub handed : Text → Text → Held → Held
handed old new d = record d { member = renamed_id old new d.member }

-- the old id's partitions are the new one's, since when they were the old one's
abbrev pub handed_over : Holders → Text → Text → Holders
handed_over h old new = finite.from_entries (map (λ e. (e.0, handed old new e.1)) (finite.entries h))
