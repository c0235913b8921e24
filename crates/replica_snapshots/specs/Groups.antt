-- A group as its parts, and its one spelling (ours).
use Rattle.std.specs.Prelude.{◌≡◌, ℕ, ◌-◌, ◌<◌, List, ◌++◌, map}
use Rattle.std.specs.FinMap as finite
use Rattle.flex_wire.specs.Spelling.{compact_string, FitsText}
use Rattle.group_types.specs.Group.{Group}
use Rattle.group_types.specs.Sound.{IsSound}
use Rattle.group_reconcile.specs.Holders.{pairs}
use Rattle.coord_node.specs.Nodes.{HeldGroup, Named}
use Rattle.replica_snapshots.specs.declared.numbers.Numbers.{Numbers}
use Rattle.replica_snapshots.specs.Parts.{GroupParts, member_part}
use Rattle.replica_snapshots.specs.Spelling.{parts_fields, FitsParts}

-- the numbers of a group: of the ids, how many were made
abbrev pub numbers_of : Group → Numbers
numbers_of g =
    record {
      salt = g.salt;
      epoch = g.epoch;
      target_epoch = g.target_epoch;
      clock = g.clock;
      ids_made = g.serial - 1;
    }

-- the parts of a group
abbrev pub parts_of : HeldGroup → GroupParts
parts_of g =
    record {
      numbers = numbers_of g.0;
      view = finite.entries g.0.view;
      past = g.0.past;
      members = map (member_part g.1 g.0.target) (finite.entries g.0.records);
      offsets = finite.entries g.0.offsets;
    }

-- A group: its parts.
abbrev pub group_fields : HeldGroup → List ℕ
group_fields g = parts_fields (parts_of g)

-- A group that has a spelling: it is sound, its grants are those of the holders, serials begin with 1, and its parts have one.
pub record FitsGroup (g : HeldGroup) : Type 0 where
  pub sound : IsSound g.0
  pub grants : g.0.grants ≡ pairs g.1
  pub serial : 0 < g.0.serial
  pub parts : FitsParts (parts_of g)

-- A group under its name.
abbrev pub named_fields : Named → List ℕ
named_fields g = compact_string g.0 ++ group_fields g.1

pub record FitsNamed (g : Named) : Type 0 where
  pub name : FitsText g.0
  pub group : FitsGroup g.1
