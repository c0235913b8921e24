-- What holds of every group, after whatever came to it.
use Rattle.std.specs.Prelude.{◌≡◌, ◌≢◌, ◌≤◌, [], ◌∷◌, length, Some, None, IsTrue}
use Rattle.std.specs.FinMap as finite
use Rattle.group_types.specs.declared.partition.Partition.{Partition}
use Rattle.group_types.specs.Limits.{GREATEST_EPOCH, MOST_MEMBERS, MOST_PAST_MEMBERS}
use Rattle.group_types.specs.Text.{Text}
use Rattle.group_types.specs.Sets.{has}
use Rattle.group_types.specs.Topics.{Topic, Topics}
use Rattle.group_types.specs.Images.{AreImageTopics}
use Rattle.group_types.specs.Owners.{IsIndex}
use Rattle.group_types.specs.Group.{Record, Records, Past, Group}
use Rattle.group_types.specs.Members.{past_stamp}
use Rattle.group_types.specs.Leave.{last_epoch}

-- an id of the past has no record and isn't empty, and it stands there once
abbrev pub IsPast : Records → Past → Type 0
IsPast records [] = Unit {0}
IsPast records (e ∷ past) =
    (finite.get records e.0 ≡ None) × (e.0 ≢ []) × (past_stamp past e.0 ≡ None) × IsPast records past

-- the partition is one of a topic of the view
pub record IsOfView (view : Topics) (p : Partition) : Type 0 where
  pub name : Text
  pub topic : Topic
  pub is_topic : finite.get view name ≡ Some topic
  pub same_id : p.topic ≡ topic.id
  pub index : IsIndex p.index topic.count

-- KIP-848, "Reconciliation of the group": two members never may read one partition, and a member goes on to an epoch
-- only once it has given up what it lost by then.
pub record IsSound (g : Group) : Type 0 where
  -- a partition has one holder, and who holds or is to own one has a record
  pub one_holder : (m n : Text) (p : Partition) → IsTrue (has g.grants (m, p)) → IsTrue (has g.grants (n, p)) → m ≡ n
  pub holders : (m : Text) (p : Partition) → IsTrue (has g.grants (m, p)) → IsTrue (finite.contains_key g.records m)
  pub owners : (m : Text) (p : Partition) → finite.get g.target p ≡ Some m → IsTrue (finite.contains_key g.records m)
  -- the stored view is of an image, and what is owned is of the view
  pub view : AreImageTopics g.view
  pub owned : (m : Text) (p : Partition) → finite.get g.target p ≡ Some m → IsOfView g.view p
  -- a member's epoch is at most the target's, and at the target's it holds no more than its target
  pub epochs : (m : Text) (r : Record) → finite.get g.records m ≡ Some r → last_epoch r ≤ g.target_epoch
  pub settled : (m : Text) (r : Record) (p : Partition) → finite.get g.records m ≡ Some r → last_epoch r ≡ g.target_epoch
      → IsTrue (has g.grants (m, p)) → finite.get g.target p ≡ Some m
  pub target_epoch : g.target_epoch ≤ g.epoch
  pub epoch : g.epoch ≤ GREATEST_EPOCH
  -- an instance is one member's, and nobody has the empty id
  pub instances : (m n : Text) (r s : Record) (i : Text) → finite.get g.records m ≡ Some r → finite.get g.records n ≡ Some s
      → r.instance ≡ Some i → s.instance ≡ Some i → m ≡ n
  pub named : finite.get g.records [] ≡ None
  pub past : IsPast g.records g.past
  -- the limits, by which a tick's number fits
  pub few_members : finite.len g.records ≤ MOST_MEMBERS
  pub few_past : length g.past ≤ MOST_PAST_MEMBERS
