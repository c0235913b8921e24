-- What a group's records are built from, where they are known.
use Rattle.std.specs.Prelude.{◌≡◌, ◌≢◌, ◌<◌, [], false, length, Option, Some}
use Rattle.std.specs.Option.{option_map}
use Rattle.std.specs.String.{string_bytes}
use Rattle.group_types.specs.Group as machine
use Rattle.group_types.specs.Limits.{MOST_PAST_MEMBERS}
use Rattle.group_types.specs.Members.{HasInstance, Members, is_remembered}
use Rattle.group_types.specs.Text.{Text}
use Rattle.group_epochs.specs.declared.record.RecordFields.{RecordFields}

-- the record with these fields, with texts as their bytes
abbrev pub record_with : RecordFields → machine.Record
record_with r =
    record {
      instance = option_map string_bytes r.instance;
      rack = option_map string_bytes r.rack;
      names = r.names;
      assignor = r.assignor;
      rebalance_timeout = r.rebalance_timeout;
      epoch = r.epoch;
      previous_epoch = r.previous_epoch;
      stamp = r.stamp;
      sent = r.sent;
      session_deadline = r.session_deadline;
      release_deadline = r.release_deadline;
    }

-- the id isn't empty, has no record, and isn't a former member's
pub record IsNewId (s : Members) (m : Text) : Type 0 where
  pub named : m ≢ []
  pub unknown : is_remembered s m ≡ false

-- nobody has the instance, if there is one
abbrev pub IsFreeInstance : machine.Records → Option Text → Type 0
IsFreeInstance records instance = (n i : Text) → instance ≡ Some i → ¬ HasInstance records n i

-- a member with this id and this record can be added
pub record CanBeRestored (s : Members) (m : Text) (r : machine.Record) : Type 0 where
  pub new : IsNewId s m
  pub instance : IsFreeInstance s.records r.instance

-- one former member more with this id can be remembered, without another being forgotten
pub record CanBePast (s : Members) (m : Text) : Type 0 where
  pub new : IsNewId s m
  pub few : length s.past < MOST_PAST_MEMBERS
