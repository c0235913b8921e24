-- KIP-848, "Reconciliation of the group": a member gives up what isn't its target any more, then it goes
-- on to the target's epoch, and then it is granted what nobody else holds.
use Rattle.std.specs.Prelude.{◌≡◌, ℕ, Bool, true, false, not, ◌==◌, ◌&&◌, ◌||◌, if◌then◌else◌, List, [], ◌∷◌, filter, Option, Some, None}
use Rattle.std.specs.List.{list_any}
use Rattle.std.specs.Ordering.{eq_by_cmp}
use Rattle.std.specs.FinMap as finite
use Rattle.group_types.specs.declared.epoch.Epoch.{Epoch}
use Rattle.group_types.specs.declared.epoch.Epoch.TheVariants.{At, Away}
use Rattle.group_types.specs.declared.partition.Partition.{Partition}
use Rattle.group_types.specs.Text.{Text, text_cmp}
use Rattle.group_types.specs.Sets.{is_nothing, has, with_one, common, minus, in_order}
use Rattle.group_types.specs.Partition.{partition_cmp, Partitions}
use Rattle.group_types.specs.Moment.{saturated_sum}
use Rattle.group_types.specs.Group.{Record, Grants, Group, wanted, held}

-- A member may move where it holds nothing more than its target, or has reported what it owns and that
-- shares nothing with the rest. Null reports nothing.
abbrev pub may_move : Partitions → Option Partitions → Bool
may_move rest None = is_nothing rest
may_move rest (Some owned) = is_nothing rest || is_nothing (common owned rest)

-- no other member holds the partition
abbrev pub is_free_for : Grants → Text → Partition → Bool
is_free_for grants m p = not (list_any (λ g. eq_by_cmp partition_cmp p g.1 && not (eq_by_cmp text_cmp m g.0)) (in_order grants))

-- the grants without a member's
abbrev pub grants_of_others : Grants → Text → Grants
grants_of_others grants m = finite.retain_keys grants (λ g. not (eq_by_cmp text_cmp m g.0))

-- the grants with these partitions for the member
abbrev pub granting : Grants → Text → List Partition → Grants
granting grants m [] = grants
granting grants m (p ∷ ps) = with_one (granting grants m ps) (m, p)

-- The member holds its part in the target, and all of the target that no other member holds.
-- Others hold what they held.
unfoldable pub moved : Grants → Text → Partitions → Grants
moved grants m target = granting (grants_of_others grants m) m (filter (λ p. has grants (m, p) || is_free_for grants m p) (in_order target))

-- the member's epoch becomes the target's
abbrev pub arrived : Record → Epoch → ℕ → Record
arrived r Away t = record r { epoch = At t; release_deadline = None }
arrived r (At e) t =
    if e == t
    then record r { release_deadline = None }
    else record r { previous_epoch = e; epoch = At t; release_deadline = None }

-- the member is to give up the rest within its rebalance timeout, counted from when it was first asked
abbrev pub asked : Record → Option ℕ → ℕ → Record
asked r (Some deadline) now = r
asked r None now = record r { release_deadline = Some (saturated_sum now r.rebalance_timeout) }

-- ---- an offer of its target to a member that reports what it owns

-- of the grants alone: whether the member may move
abbrev pub may_settle : Grants → Text → Partitions → Option Partitions → Bool
may_settle grants m target owned = may_move (minus (held grants m) target) owned

-- the grants afterwards
abbrev pub grants_after : Bool → Grants → Text → Partitions → Grants
grants_after true grants m target = moved grants m target
grants_after false grants m target = grants

-- the member's record afterwards
abbrev pub settled_record : Bool → Record → ℕ → ℕ → Record
settled_record true r target_epoch now = arrived r r.epoch target_epoch
settled_record false r target_epoch now = asked r r.release_deadline now

abbrev pub settled_by : Bool → Group → Text → Option Record → ℕ → Group
settled_by may g m None now = g
settled_by may g m (Some r) now =
    record g {
      grants = grants_after may g.grants m (wanted g.target m);
      records = finite.insert g.records m (settled_record may r g.target_epoch now);
    }

-- The group once the member was offered its target: it has moved, or is to give up what isn't its target any more.
abbrev pub settled : Group → Text → Option Partitions → ℕ → Group
settled g m owned now =
    settled_by (may_settle g.grants m (wanted g.target m) owned) g m (finite.get g.records m) now

-- it was, at the group's clock
abbrev pub Settles : Group → Text → Option Partitions → Group → Type 0
Settles g m owned new = new ≡ settled g m owned g.clock
