-- All that is committed, as it is given out in order.
use Rattle.std.specs.Prelude.{ℤ, List, map, String}
use Rattle.std.specs.Borrow.{Bor}
use Rattle.std.specs.declared.alloc.Global.{Global}
use Rattle.std.specs.FinMap as finite
use Rattle.std.specs.String.{string_bytes}
use Rattle.group_types.specs.Text.{Text, text_cmp}
use Rattle.group_types.specs.Group.{Committed}
use Rattle.offset_guard.specs.Topics.{TopicState}
use Rattle.offset_guard.specs.declared.listing.CommittedAt.{CommittedAt}

-- a topic's name and an index, and what is committed there
abbrev pub entry_of : CommittedAt → (Text × ℤ) × Committed
entry_of e = ((e.name.now, e.index), e.committed.now)

-- what is committed for an index of a topic, and the topic of a name, as they are lent
abbrev pub indexed : ℤ × Bor Committed → ℤ × Committed
indexed e = (e.0, e.1.now)

abbrev pub named : Bor Text × Bor TopicState → Text × TopicState
named t = (t.0.now, t.1.now)

-- the topics that have an entry, by their names
abbrev pub topics_by_name : List (String Global × TopicState) → finite.FinMap text_cmp TopicState
topics_by_name rows = finite.from_entries (map (λ row. (string_bytes row.0, row.1)) rows)

-- what is committed for a topic, in the order of the indexes
abbrev pub entries_of_topic : Text × TopicState → List ((Text × ℤ) × Committed)
entries_of_topic t = map (λ e. ((t.0, e.0), e.1)) (finite.entries t.1.offsets)
