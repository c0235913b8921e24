-- Entries of a replicated log as plain values (ours).
use Rattle.std.specs.Prelude.{ℕ, List}
use Rattle.topic_meta.specs.Images.{Entry}
use Rattle.replica_entries.specs.declared.kind.Kind.{Kind}
use Rattle.replica_entries.specs.declared.kind.Kind.TheVariants.{Frame, Tick, Image, Leads}

-- a frame that came in: the number of its connection, its number there, its moment and its body
pub record FrameValue : Type 0 where
  pub connection : ℕ
  pub number : ℕ
  pub moment : ℕ
  pub body : List ℕ

-- what an entry brings: a frame, a tick with its moment, the topics of an image, or a leadership that begins
pub data ContentValue : Type 0 where
  frame : FrameValue → ContentValue
  tick : ℕ → ContentValue
  image : List Entry → ContentValue
  leads : ContentValue

-- an entry: the number of its leadership, and what it brings
pub record EntryValue : Type 0 where
  pub leadership : ℕ
  pub content : ContentValue

-- the kind of what an entry brings
abbrev pub kind_of : ContentValue → Kind
kind_of (frame f) = Frame
kind_of (tick moment) = Tick
kind_of (image topics) = Image
kind_of leads = Leads
