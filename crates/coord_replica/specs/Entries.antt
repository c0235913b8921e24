-- What the entries of the log are to the coordinator.
use Rattle.std.specs.Prelude.{ℕ, ◌+◌, ◌*◌, ◌^◌, List, map, Option, Some, None}
use Rattle.std.specs.List.{filter_map}
use Rattle.group_types.specs.declared.stamp.Stamp.{Stamp}
use Rattle.topic_meta.specs.Images.{topics_of}
use Rattle.coord_node.specs.Coordinator.{Event, Frame, Tick, Image}
use Rattle.replica_entries.specs.Values.{ContentValue, EntryValue, frame, tick, image, leads}

-- A frame's stamp: the number of its leadership stands before that of its connection (ours).
abbrev pub stamp_under : ℕ → ℕ → ℕ → Stamp
stamp_under leadership connection number = record { connection = leadership * 2 ^ 32 + connection; frame = number }

-- the event that comes to the coordinator under a leadership: none where a leadership begins
abbrev pub event_under : ℕ → ContentValue → Option Event
event_under leadership (frame f) = Some (Frame f.body (stamp_under leadership f.connection f.number) f.moment)
event_under leadership (tick moment) = Some (Tick moment)
event_under leadership (image topics) = Some (Image (topics_of topics))
event_under leadership leads = None

abbrev pub event_of : EntryValue → Option Event
event_of e = event_under e.leadership e.content

abbrev pub events_of : List EntryValue → List Event
events_of entries = filter_map event_of entries

-- the moment at which it came; images and leaderships have none
abbrev pub moment_in : ContentValue → Option ℕ
moment_in (frame f) = Some f.moment
moment_in (tick moment) = Some moment
moment_in (image topics) = None
moment_in leads = None

abbrev pub moments_of : List EntryValue → List ℕ
moments_of entries = filter_map (λ e. moment_in e.content) entries

abbrev pub leaderships_of : List EntryValue → List ℕ
leaderships_of entries = map (λ e. e.leadership) entries
