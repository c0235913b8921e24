-- The names of the server-side assignors.
use Rattle.std.specs.Prelude.{Option, Some, None, if◌then◌else◌, codes}
use Rattle.std.specs.Str.{bytes_eq}
use Rattle.group_types.specs.Text.{Text}
use Rattle.group_types.specs.declared.assignor_name.AssignorName.{AssignorName}
use Rattle.group_types.specs.declared.assignor_name.AssignorName.TheVariants.{Range, Uniform}

-- KIP-848, "Server Side Assignors": how a request spells an assignor
abbrev pub assignor_text : AssignorName → Text
assignor_text Range = codes "range"
assignor_text Uniform = codes "uniform"

-- the assignor that a text names, if it names one
abbrev pub assignor_named : Text → Option AssignorName
assignor_named text =
    if bytes_eq text (assignor_text Range) then Some Range
    else if bytes_eq text (assignor_text Uniform) then Some Uniform
    else None
