-- The settings of the code as a member's.
use Rattle.std.specs.Prelude.{◌≤◌, map, All, string_bytes}
use Rattle.std.specs.Option.{option_map}
use Rattle.kip_msgs.specs.Writable.{IsShort, IsShortIfAny}
use Rattle.member_core.specs.Settings as client
use Rattle.member_core.specs.declared.settings.Settings.{Settings}

abbrev pub settings_value : Settings → client.Settings
settings_value s =
    record {
      group = string_bytes s.group;
      instance = option_map string_bytes s.instance;
      rack = option_map string_bytes s.rack;
      rebalance_timeout = s.rebalance_timeout;
      names = map string_bytes s.names.items;
      assignor = option_map string_bytes s.assignor;
    }

-- settings whose texts can be written, and whose timeout is an INT32
pub record HasShortTexts (s : client.Settings) : Type 0 where
  pub group : IsShort s.group
  pub instance : IsShortIfAny s.instance
  pub rack : IsShortIfAny s.rack
  pub rebalance_timeout : s.rebalance_timeout ≤ 2147483647
  pub names : All IsShort s.names
  pub assignor : IsShortIfAny s.assignor
