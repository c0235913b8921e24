-- The coordinator of a node: its groups by their ids, and the image of the topics.
use Rattle.std.specs.Prelude.{ℕ, ℤ, Bool, false, List, [], Option, Some, None}
use Rattle.std.specs.FinMap as finite
use Rattle.group_types.specs.declared.stamp.Stamp.{Stamp}
use Rattle.group_types.specs.Text.{Text, text_cmp}
use Rattle.group_types.specs.Topics.{Topics}
use Rattle.group_types.specs.Group.{Committed, Group}
use Rattle.group_types.specs.Members.{is_remembered, members_of}

abbrev pub Groups : Type 0
Groups = finite.FinMap text_cmp Group

pub record Coordinator : Type 0 where
  pub salt : ℕ
  pub groups : Groups
  pub image : Topics

abbrev pub opening : ℕ → Coordinator
opening salt = record { salt = salt; groups = finite.empty; image = finite.empty }

-- what comes to a node: the body of a frame with its stamp and moment, a tick at a moment, or a new image
pub data Event : Type 0 where
  Frame : List ℕ → Stamp → ℕ → Event
  Tick : ℕ → Event
  Image : Topics → Event

-- what comes of an event: the bytes of one frame, the end of the connection, or how many members it removed
pub data Answer : Type 0 where
  Replied : List ℕ → Answer
  Closes : Answer
  Done : ℕ → Answer

-- the bytes that are sent
abbrev pub bytes_of : Answer → List ℕ
bytes_of (Replied bytes) = bytes
bytes_of Closes = []
bytes_of (Done removed) = []

-- a group, where there is one, has the member or remembers it as a former one (ours)
abbrev pub is_remembered_at : Option Group → Text → Bool
is_remembered_at None m = false
is_remembered_at (Some g) m = is_remembered (members_of g) m

-- what was last committed for a topic's name and an index in a group, where there is one (ours)
abbrev pub committed_at : Option Group → Text × ℤ → Option Committed
committed_at None place = None
committed_at (Some g) place = finite.get g.offsets place
