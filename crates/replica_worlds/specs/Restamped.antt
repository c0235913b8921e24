-- Other stamps in the place of a group's: a group stores and compares stamps, and looks at them in no other way (ours).
use Rattle.std.specs.Prelude.{map}
use Rattle.std.specs.FinMap as finite
use Rattle.group_types.specs.declared.stamp.Stamp.{Stamp}
use Rattle.group_types.specs.Text.{text_cmp}
use Rattle.group_types.specs.Group.{Group, Past, Record}

-- the map with each value changed
abbrev pub with_values : {X : Type 0} → (X → X) → finite.FinMap text_cmp X → finite.FinMap text_cmp X
with_values change m = finite.from_entries (map (λ e. (e.0, change e.1)) (finite.entries m))

abbrev pub restamped_record : (Stamp → Stamp) → Record → Record
restamped_record other r = record r { stamp = other r.stamp }

abbrev pub restamped_past : (Stamp → Stamp) → Past → Past
restamped_past other past = map (λ e. (e.0, other e.1)) past

abbrev pub restamped_group : (Stamp → Stamp) → Group → Group
restamped_group other g =
    record g { records = with_values (restamped_record other) g.records; past = restamped_past other g.past }
