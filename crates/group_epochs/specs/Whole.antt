-- What the parts of a group's records have to do with one another.
use Rattle.std.specs.Prelude.{ℕ, List, String}
use Rattle.indexmap.specs.IndexMap.{IndexMap}
use Rattle.group_epochs.specs.Past.{PastState}
use Rattle.group_epochs.specs.Counts.{AreCounts, AreSome}
use Rattle.group_epochs.specs.Deadlines.{IsNoLater, IsSearched}
use Rattle.group_epochs.specs.Table.{IsMemberOrder, IsTable, records_in}
use Rattle.group_epochs.specs.declared.deadlines.Searched.{Searched}
use Rattle.group_epochs.specs.declared.entry.Entry.{Entry}

-- the members stand in a table, their places are in member order, too, the counts are those of their names, no deadline comes
-- before the earliest, and nobody is due before where a search came to
pub record AreWhole {Y S : Type 0} (members : IndexMap (String Y) Entry S) (by_id in_member_order : List ℕ) (past : PastState) (counts : IndexMap (String Y) ℕ S) (earliest : ℕ) (searched : Searched) : Type 0 where
  pub table : IsTable members by_id past
  pub member_order : IsMemberOrder members.entries in_member_order
  pub counted : AreCounts (records_in members.entries) counts
  pub some : AreSome counts
  pub deadlines : IsNoLater earliest (records_in members.entries)
  pub none_before : IsSearched searched (records_in members.entries)
