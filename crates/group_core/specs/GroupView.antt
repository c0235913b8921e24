-- A group's fields as its state.
use Rattle.std.specs.Prelude.{◌≡◌, ℕ, suc, List, Result, OnErr}
use Rattle.group_types.specs.Group.{Group}
use Rattle.group_types.specs.Sound.{IsSound}
use Rattle.group_reconcile.specs.Holders.{pairs}
use Rattle.group_core.specs.declared.state.State.{State}
use Rattle.group_core.specs.declared.group.Group.TheInside.{Inside}
use Rattle.group_core.specs.Group.{GroupValue}
use Rattle.group_core.specs.Since.{KeepsSinceOr}
use Rattle.group_core.specs.Steady.{AreMarked}

abbrev pub group_of : State → Group
group_of s =
    record {
      salt = s.salt;
      epoch = s.epoch;
      target_epoch = s.target.epoch;
      records = s.records.records;
      target = s.target.owners;
      grants = pairs s.grants;
      offsets = s.offsets;
      view = s.view;
      clock = s.clock;
      serial = suc s.ids_made;
      past = s.records.past;
    }

abbrev pub group_view : Inside → GroupValue
group_view a = record { state = group_of a.state; holders = a.state.grants }

-- what holds of every group
pub record IsGroup (s : State) : Type 0 where
  pub sound : IsSound (group_of s)
  pub marked : AreMarked (group_of s) s.records.marks

-- what each stage of a heartbeat keeps: the bytes that are there, that marked members are steady, and the group where memory is short
pub record Keeps {X E : Type 0} (result : Result X E) (old new : State) (before after : List ℕ) : Type 0 where
  pub out : after ≡ before
  pub marks : AreMarked (group_of new) new.records.marks
  pub err : OnErr result (group_of new ≡ group_of old)

-- and of the holders: since when each partition is held, and all of it where memory is short
pub record KeepsHolders {X E : Type 0} (result : Result X E) (old new : State) : Type 0 where
  pub since : KeepsSinceOr old.grants new.grants new.target.epoch
  pub err : OnErr result (new.grants ≡ old.grants)
