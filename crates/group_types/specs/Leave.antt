-- KIP-848, "Consumer Group Heartbeat", member epochs -1 and -2: a member leaves, for good or for a while.
use Rattle.std.specs.Prelude.{ℕ, ◌+◌, if◌then◌else◌, nat_lt, max, None}
use Rattle.std.specs.FinMap as finite
use Rattle.group_types.specs.declared.epoch.Epoch.{Epoch}
use Rattle.group_types.specs.declared.epoch.Epoch.TheVariants.{At, Away}
use Rattle.group_types.specs.declared.stamp.Stamp.{Stamp}
use Rattle.group_types.specs.Text.{Text}
use Rattle.group_types.specs.Limits.{GREATEST_EPOCH, SESSION_TIMEOUT}
use Rattle.group_types.specs.Moment.{saturated_sum}
use Rattle.group_types.specs.Owners.{without_owner}
use Rattle.group_types.specs.Group.{Record, Group}
use Rattle.group_types.specs.Members.{members_of, with_members, without_record}
use Rattle.group_types.specs.Settle.{grants_of_others}

-- the group epoch rises by one, below its greatest value
abbrev pub risen : ℕ → ℕ
risen epoch = if nat_lt epoch GREATEST_EPOCH then epoch + 1 else epoch

-- records, target and grants lose the member, and its id is remembered with the stamp
abbrev pub without_member : Group → Text → Stamp → Group
without_member g m stamp =
    record (with_members g (without_record (members_of g) m stamp)) {
      target = without_owner g.target m;
      grants = grants_of_others g.grants m;
    }

-- at member epoch -1
abbrev pub left : Group → Text → Stamp → ℕ → Group
left g m stamp moment =
    without_member (record g { clock = max g.clock moment; epoch = risen g.epoch }) m stamp

-- the last member epoch that was a number: the previous one while a static member is away
abbrev pub last_epoch_at : Epoch → Record → ℕ
last_epoch_at (At e) r = e
last_epoch_at Away r = r.previous_epoch

abbrev pub last_epoch : Record → ℕ
last_epoch r = last_epoch_at r.epoch r

-- a static member goes away for a while
abbrev pub away : Record → Stamp → ℕ → Record
away r stamp now =
    record r {
      previous_epoch = last_epoch r;
      epoch = Away;
      stamp = stamp;
      session_deadline = saturated_sum now SESSION_TIMEOUT;
      release_deadline = None;
    }

-- at member epoch -2: target, grants and the group epoch stay
abbrev pub gone_away : Group → Text → Record → Stamp → ℕ → Group
gone_away g m r stamp moment =
    let now = max g.clock moment in
    record g { clock = now; records = finite.insert g.records m (away r stamp now) }
