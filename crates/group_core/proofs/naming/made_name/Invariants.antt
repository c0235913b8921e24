use Rattle.std.proofs.Common.{◌≡◌, ℕ, suc, ◌-◌, ◌<◌, ◌≤◌, true}
use Rattle.group_types.specs.MemberId.{made_id}
use Rattle.group_types.specs.Members.{is_remembered, members_of}
use Rattle.group_core.specs.GroupView.{group_of}
use Rattle.group_core.proofs.naming.made_name.Given as goal

abbrev pub invariant-loop-ids_made : goal.invariant-loop-ids_made
invariant-loop-ids_made l =
    (l.state.ids_made ≤ l.ids_made)
    × ((k : ℕ) → suc l.state.ids_made ≤ k → k < suc l.ids_made → is_remembered (members_of (group_of l.state)) (made_id l.state.salt k) ≡ true)

abbrev pub decreases-loop-ids_made : goal.decreases-loop-ids_made
decreases-loop-ids_made l = 18446744073709551615 - l.ids_made
