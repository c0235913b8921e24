-- The entries as their values.
use Rattle.topic_meta.specs.Images.{entries_of}
use Rattle.replica_entries.specs.Values.{FrameValue, ContentValue, frame, tick, image, leads, EntryValue}
use Rattle.replica_entries.specs.declared.entry.LoggedFrame.{LoggedFrame}
use Rattle.replica_entries.specs.declared.entry.Content.{Content}
use Rattle.replica_entries.specs.declared.entry.Content.TheVariants as contents
use Rattle.replica_entries.specs.declared.entry.Entry.{Entry}

-- a frame without where its body lies in memory
abbrev pub frame_value : LoggedFrame → FrameValue
frame_value f = record { connection = f.connection; number = f.number; moment = f.moment; body = f.body.now }

-- what an entry brings
abbrev pub content_value : Content → ContentValue
content_value (contents.Frame f) = frame (frame_value f)
content_value (contents.Tick moment) = tick moment
content_value (contents.Image topics) = image (entries_of topics.items)
content_value contents.Leads = leads

-- an entry
abbrev pub entry_value : Entry → EntryValue
entry_value entry = record { leadership = entry.leadership; content = content_value entry.content }
