-- A record's fields as the machine's record, with texts as their bytes.
use Rattle.std.specs.Option.{option_map}
use Rattle.std.specs.String.{string_bytes}
use Rattle.group_types.specs.Group as machine
use Rattle.group_epochs.specs.declared.record.Record.TheInside.{Inside}

abbrev pub kept_of : Inside → machine.Record
kept_of r =
    record {
      instance = option_map string_bytes r.instance;
      rack = option_map string_bytes r.rack;
      names = r.names;
      assignor = r.assignor;
      rebalance_timeout = r.rebalance_timeout;
      epoch = r.epoch;
      previous_epoch = r.previous_epoch;
      stamp = r.stamp;
      sent = r.sent;
      session_deadline = r.session_deadline;
      release_deadline = r.release_deadline;
    }
