-- A group that nobody had joined, once its first member has.
use Rattle.std.specs.Prelude.{ℕ, true, max, [], Some, None}
use Rattle.std.specs.FinMap as finite
use Rattle.group_types.specs.declared.epoch.Epoch.TheVariants.{At}
use Rattle.group_types.specs.Text.{Text}
use Rattle.group_types.specs.Sets.{nothing, in_order}
use Rattle.group_types.specs.Partition.{Partitions}
use Rattle.group_types.specs.Topics.{Topics}
use Rattle.group_types.specs.Group.{Record, Records, Group, wanted}
use Rattle.group_types.specs.MemberId.{made_id}
use Rattle.group_types.specs.Settle.{granting}
use Rattle.group_types.specs.Renewal.{changed_if, view_for}
use Rattle.group_types.specs.Checks.{Sender}
use Rattle.group_types.specs.HeartbeatStep.{Answer, Arrival, Draft, Stages, draft_of_join}
use Rattle.group_target.specs.TargetState.{TargetState}

-- KIP-848, "Reconciliation of the group": a new record at the member's first epoch, once it was sent its set
abbrev pub at_epoch : Record → ℕ → Partitions → Record
at_epoch r epoch set = record r { epoch = At epoch; sent = Some set }

-- the records of one member
abbrev pub one_record : Text → Record → Records
one_record m r = finite.insert finite.empty m r

-- the heartbeat of a member of which nothing is known: no record is its own, and no other's has its instance
abbrev pub nobody : Sender
nobody = record { own = None; other = None }

-- the draft of the first join of a group, which gets the first id
abbrev pub first_draft : Group → Arrival → Draft
first_draft g a =
    draft_of_join (record g { serial = 2 }) (max g.clock a.moment) (made_id g.salt 1) None None a.heartbeat a.stamp

-- it is a change, and the group goes on from there
abbrev pub JoinsFirst : Group → Arrival → Answer → Group → Type 0
JoinsFirst g a answer new =
    let d = first_draft g a in
    Stages (changed_if true d.group (view_for a.image d.group.records)) d a.heartbeat answer new

-- the group of one member, which may read its whole target, at a moment
abbrev pub group_of_one : ℕ → Text → Record → TargetState → Topics → ℕ → Group
group_of_one salt m r target view now =
    record {
      salt = salt;
      epoch = target.epoch;
      target_epoch = target.epoch;
      records = one_record m r;
      target = target.owners;
      grants = granting nothing m (in_order (wanted target.owners m));
      offsets = finite.empty;
      view = view;
      clock = now;
      serial = 2;
      past = [];
    }
