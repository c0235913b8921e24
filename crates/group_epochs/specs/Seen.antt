-- What is seen of a record.
use Rattle.std.specs.Prelude.{Bool, false, Option, Some, None}
use Rattle.std.specs.Str.{bytes_eq}
use Rattle.group_types.specs.Text.{Text}

-- whether the instance id is this one
abbrev pub is_instance : Text → Option Text → Bool
is_instance i None = false
is_instance i (Some own) = bytes_eq own i
