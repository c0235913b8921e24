-- A group that is built from what was read of one (ours).
use Rattle.std.specs.Prelude.{◌≡◌, ◌≤◌, ◌<◌, ◌++◌, ◌∷◌, ◌||◌, ◌&&◌, ℕ, suc, ℤ, Bool, false, IsTrue, List, [], length, Option, Some, None, if◌then◌else◌}
use Rattle.std.specs.List.{Contains, list_all}
use Rattle.std.specs.Option.{option_map_or}
use Rattle.std.specs.Ordering.{eq_by_cmp}
use Rattle.std.specs.BTreeMap.{BTreeMap, get}
use Rattle.std.specs.FinMap as finite
use Rattle.group_types.specs.declared.partition.Partition.{Partition}
use Rattle.group_types.specs.declared.stamp.Stamp.{Stamp}
use Rattle.group_types.specs.Limits.{MOST_MEMBERS, MOST_PAST_MEMBERS}
use Rattle.group_types.specs.Text.{Text, text_cmp}
use Rattle.group_types.specs.Sets.{has, in_order, is_nothing}
use Rattle.group_types.specs.Partition.{Partitions}
use Rattle.group_types.specs.Topics.{Topic, Topics}
use Rattle.group_types.specs.Owners.{is_index}
use Rattle.group_types.specs.Group.{Committed, Group, Record, Records, new_group}
use Rattle.group_types.specs.Leave.{last_epoch}
use Rattle.group_types.specs.Members.{members_of}
use Rattle.group_types.specs.Sound.{IsOfView, IsPast, IsSound}
use Rattle.group_reconcile.specs.Holders.{is_grantable, pairs}
use Rattle.group_epochs.specs.Restored.{CanBeRestored}
use Rattle.range_assign.specs.Shares.{AreShares, spread_of}
use Rattle.group_core.specs.declared.restoring.GroupNumbers.{GroupNumbers}
use Rattle.group_core.specs.declared.state.State.{State}
use Rattle.group_core.specs.Group.{GroupValue}
use Rattle.group_core.specs.GroupView.{group_of}

-- ---- step by step

-- what is begun with
abbrev pub nothing_restored : ℕ → GroupValue
nothing_restored salt = record { state = new_group salt; holders = finite.empty }

-- one former member more, behind the others
abbrev pub with_past : GroupValue → Text → Stamp → GroupValue
with_past v m stamp = record v { state = record v.state { past = v.state.past ++ (m, stamp) ∷ [] } }

-- one member more
abbrev pub with_member : GroupValue → Text → Record → GroupValue
with_member v m r = record v { state = record v.state { records = finite.insert v.state.records m r } }

-- one grant more
abbrev pub with_granted : GroupValue → Text → Partition → ℕ → GroupValue
with_granted v m p since =
    let holders = finite.insert v.holders p (record { member = m; since = since }) in
    record v { state = record v.state { grants = pairs holders }; holders = holders }

-- one committed offset more
abbrev pub with_offset : GroupValue → Text × ℤ → Committed → GroupValue
with_offset v place c = record v { state = record v.state { offsets = finite.insert v.state.offsets place c } }

-- the value, with another one in its place where there is one
abbrev pub changed_if : Bool → GroupValue → GroupValue → GroupValue
changed_if is_changed new old = if is_changed then new else old

-- a member can be added: there is room for one more
pub record CanBeMember (g : Group) (m : Text) (r : Record) : Type 0 where
  pub restored : CanBeRestored (members_of g) m r
  pub few : finite.len g.records < MOST_MEMBERS

-- a partition can be granted: the member has a record, and nobody holds the partition
pub record CanBeGranted (v : GroupValue) (m : Text) (p : Partition) : Type 0 where
  pub member : IsTrue (finite.contains_key v.state.records m)
  pub grantable : IsTrue (is_grantable v.holders p)

-- what holds of a group of which more is to come
pub record IsRestoring (g : Group) : Type 0 where
  pub holders : (m : Text) (p : Partition) → IsTrue (has g.grants (m, p)) → IsTrue (finite.contains_key g.records m)
  pub instances : (m n : Text) (r s : Record) (i : Text) → finite.get g.records m ≡ Some r → finite.get g.records n ≡ Some s
      → r.instance ≡ Some i → s.instance ≡ Some i → m ≡ n
  pub named : finite.get g.records [] ≡ None
  pub past : IsPast g.records g.past
  pub few_members : finite.len g.records ≤ MOST_MEMBERS
  pub few_past : length g.past ≤ MOST_PAST_MEMBERS

-- and of what it is stored as
pub record IsBegun (s : State) : Type 0 where
  pub restoring : IsRestoring (group_of s)
  pub unmarked : s.records.marks ≡ finite.empty

-- ---- the end

-- the group with its numbers, its target and its view
abbrev pub finished : Group → GroupNumbers → List (Text × Partitions) → Topics → Group
finished g n shares view =
    record g {
      epoch = n.epoch;
      target_epoch = n.target_epoch;
      target = spread_of shares;
      view = view;
      clock = n.clock;
      serial = suc n.ids_made;
    }

-- the shares make a target, and the group with it is sound
pub record CanBeFinished (g : Group) (n : GroupNumbers) (shares : List (Text × Partitions)) (view : Topics) : Type 0 where
  pub target : AreShares shares
  pub sound : IsSound (finished g n shares view)

-- ---- what is looked at there

-- each owner has a record, and what it owns is of the view
pub record OwnersFit (records : Records) (view : Topics) (shares : List (Text × Partitions)) : Type 0 where
  pub owners : (s : Text × Partitions) (p : Partition) → Contains shares s → IsTrue (has s.1 p) → IsTrue (finite.contains_key records s.0)
  pub owned : (s : Text × Partitions) (p : Partition) → Contains shares s → IsTrue (has s.1 p) → IsOfView view p

-- the member's epoch is at most the target's, and at the target's it holds no more than its target
pub record MemberFits (g : Group) (m : Text) (r : Record) : Type 0 where
  pub epoch : last_epoch r ≤ g.target_epoch
  pub settled : last_epoch r ≡ g.target_epoch → (p : Partition) → IsTrue (has g.grants (m, p)) → finite.get g.target p ≡ Some m

abbrev pub MembersFit : Group → Type 0
MembersFit g = (m : Text) (r : Record) → finite.get g.records m ≡ Some r → MemberFits g m r

-- by the ids of topics, how many partitions each has
abbrev pub Counts : Type 0
Counts = BTreeMap (List ℕ) ℕ

-- the count of the last of the topics with an id; where there is none, what was there before
abbrev pub count_behind : List ℕ → Option ℕ → List (Text × Topic) → Option ℕ
count_behind id before [] = before
count_behind id before (t ∷ ts) = count_behind id (if eq_by_cmp text_cmp t.1.id id then Some t.1.count else before) ts

abbrev pub AreCountsOf : Topics → Counts → Type 0
AreCountsOf view counts = (id : List ℕ) → get text_cmp counts id ≡ count_behind id None (finite.entries view)

-- whether the partition is one of a topic that is counted
abbrev pub is_counted : Counts → Partition → Bool
is_counted counts p = option_map_or (is_index p.index) (get text_cmp counts p.topic) false

-- whether the share is empty, or is a member's and of topics that are counted
abbrev pub share_fits : Records → Counts → Text × Partitions → Bool
share_fits records counts s = is_nothing s.1 || (finite.contains_key records s.0 && list_all (is_counted counts) (in_order s.1))
