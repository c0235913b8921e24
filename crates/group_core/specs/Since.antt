-- KIP-848, "Current Assignment": under which target epoch a partition is granted (that this is kept: ours).
use Rattle.std.specs.Prelude.{◌≡◌, ℕ, IfSome, unwrap_or}
use Rattle.group_types.specs.declared.partition.Partition.{Partition}
use Rattle.group_reconcile.specs.Holders.{Holders, granted_at}

-- What somebody holds stays granted under the target epoch under which it was, also where an heir holds it now; and what nobody
-- held is granted under the target epoch by now.
abbrev pub KeepsSinceOr : Holders → Holders → ℕ → Type 0
KeepsSinceOr old new target_epoch =
    (p : Partition) → IfSome (granted_at new p) (λ since. since ≡ unwrap_or (granted_at old p) target_epoch)

-- each partition is granted under the target epoch under which it was
abbrev pub HasSameSince : Holders → Holders → Type 0
HasSameSince old new = (p : Partition) → granted_at new p ≡ granted_at old p
