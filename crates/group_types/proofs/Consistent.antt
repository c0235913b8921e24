-- What holds of a group after whatever came to it, also where the node's topics weren't an image's: it is sound, but that its
-- stored view may be of anything.
use Rattle.std.proofs.Common.{◌≡◌, ◌≤◌, [], length, Some, None, IsTrue}
use Rattle.std.specs.FinMap as finite
use Rattle.group_types.specs.declared.partition.Partition.{Partition}
use Rattle.group_types.specs.Limits.{GREATEST_EPOCH, MOST_MEMBERS, MOST_PAST_MEMBERS}
use Rattle.group_types.specs.Text.{Text}
use Rattle.group_types.specs.Sets.{has}
use Rattle.group_types.specs.Images.{AreImageTopics}
use Rattle.group_types.specs.Group.{Record, Group}
use Rattle.group_types.specs.Leave.{last_epoch}
use Rattle.group_types.specs.Sound.{IsOfView, IsPast, IsSound}

pub record IsConsistent (g : Group) : Type 0 where
  pub one_holder : (m n : Text) (p : Partition) → IsTrue (has g.grants (m, p)) → IsTrue (has g.grants (n, p)) → m ≡ n
  pub holders : (m : Text) (p : Partition) → IsTrue (has g.grants (m, p)) → IsTrue (finite.contains_key g.records m)
  pub owners : (m : Text) (p : Partition) → finite.get g.target p ≡ Some m → IsTrue (finite.contains_key g.records m)
  pub owned : (m : Text) (p : Partition) → finite.get g.target p ≡ Some m → IsOfView g.view p
  pub epochs : (m : Text) (r : Record) → finite.get g.records m ≡ Some r → last_epoch r ≤ g.target_epoch
  pub settled : (m : Text) (r : Record) (p : Partition) → finite.get g.records m ≡ Some r → last_epoch r ≡ g.target_epoch
      → IsTrue (has g.grants (m, p)) → finite.get g.target p ≡ Some m
  pub target_epoch : g.target_epoch ≤ g.epoch
  pub epoch : g.epoch ≤ GREATEST_EPOCH
  pub instances : (m n : Text) (r s : Record) (i : Text) → finite.get g.records m ≡ Some r → finite.get g.records n ≡ Some s
      → r.instance ≡ Some i → s.instance ≡ Some i → m ≡ n
  pub named : finite.get g.records [] ≡ None
  pub past : IsPast g.records g.past
  pub few_members : finite.len g.records ≤ MOST_MEMBERS
  pub few_past : length g.past ≤ MOST_PAST_MEMBERS

pub consistent : (g : Group) → IsSound g → IsConsistent g
consistent g sound =
    record {
      one_holder = sound.one_holder;
      holders = sound.holders;
      owners = sound.owners;
      owned = sound.owned;
      epochs = sound.epochs;
      settled = sound.settled;
      target_epoch = sound.target_epoch;
      epoch = sound.epoch;
      instances = sound.instances;
      named = sound.named;
      past = sound.past;
      few_members = sound.few_members;
      few_past = sound.few_past;
    }

pub sound_over : (g : Group) → IsConsistent g → AreImageTopics g.view → IsSound g
sound_over g is view =
    record {
      one_holder = is.one_holder;
      holders = is.holders;
      owners = is.owners;
      view = view;
      owned = is.owned;
      epochs = is.epochs;
      settled = is.settled;
      target_epoch = is.target_epoch;
      epoch = is.epoch;
      instances = is.instances;
      named = is.named;
      past = is.past;
      few_members = is.few_members;
      few_past = is.few_past;
    }
