-- What a member knows as a client's state.
use Rattle.std.specs.Prelude.{◌≡◌, ◌≤◌}
use Rattle.kip_msgs.specs.Writable.{IsShortIfAny}
use Rattle.group_types.specs.Sets.{size}
use Rattle.member_core.specs.Limits.{GREATEST_NUMBER}
use Rattle.member_core.specs.Client as client
use Rattle.member_core.specs.Client.{Client, to_release}
use Rattle.member_core.specs.Views.{settings_value, HasShortTexts}
use Rattle.member_core.specs.declared.machine.Place.{Place}
use Rattle.member_core.specs.declared.machine.Place.TheVariants.{Outside, Inside, Gone}
use Rattle.member_core.specs.declared.machine.Machine.TheInside.{Inside as Fields}

abbrev pub place_value : Place → client.Place
place_value Outside = client.Outside
place_value Inside = client.Inside
place_value Gone = client.Gone

abbrev pub machine_view : Fields → Client
machine_view a =
    record {
      settings = settings_value a.settings;
      place = place_value a.place;
      id = a.id;
      epoch = a.epoch;
      own = a.own;
      shown = a.shown;
      number = a.number;
      waits = a.waits;
      says_all = a.says_all;
    }

-- what its texts and numbers keep to, and the count of what it has to release
pub record IsMachine (a : Fields) : Type 0 where
  pub settings : HasShortTexts (settings_value a.settings)
  pub id : IsShortIfAny a.id
  pub number : a.number ≤ GREATEST_NUMBER
  pub to_release : a.to_release ≡ size (to_release (machine_view a))
