-- What is written and read, as values.
use Rattle.std.specs.Prelude.{ℕ, List, map}
use Rattle.coord_node.specs.Nodes.{Named, NodeValue, held_of}
use Rattle.coord_node.specs.Restored.{listed_named}
use Rattle.replica_snapshots.specs.declared.cursor.Cursor.{Cursor}
use Rattle.replica_snapshots.specs.declared.group.ReadGroup.{ReadGroup}
use Rattle.replica_snapshots.specs.declared.head.Head.{Head}
use Rattle.replica_snapshots.specs.declared.node.Sections.{Sections}
use Rattle.replica_snapshots.specs.declared.place.Place.{Place}
use Rattle.replica_snapshots.specs.Nodes.{HeadValue}
use Rattle.replica_snapshots.specs.Places.{PlaceValue}

-- the bytes that a cursor hasn't read
abbrev pub unread : Cursor → List ℕ
unread c = c.rest.now

-- the head of a node
abbrev pub head_value : Head → HeadValue
head_value h = record { salt = h.salt; image = h.image; groups = h.groups }

-- a group that was read, under its name
abbrev pub named_of : ReadGroup → Named
named_of r = (r.name.now, held_of r.group)

-- a place in a log
abbrev pub place_value : Place → PlaceValue
place_value p = record { applied = p.applied; leadership = p.leadership; moment = p.moment }

-- a node whose groups are listed
abbrev pub listed_node : Sections → NodeValue
listed_node s = record { salt = s.salt; image = s.image.now; groups = map listed_named s.groups.items }
