-- The kinds of entries, and how an entry names its own (ours).
use Rattle.std.specs.Prelude.{ℤ, pos, negsuc, Option, Some, None, ◌==◌, if◌then◌else◌}
use Rattle.replica_entries.specs.declared.kind.Kind.{Kind}
use Rattle.replica_entries.specs.declared.kind.Kind.TheVariants.{Frame, Tick, Image, Leads}

-- the version in which entries are spelled
abbrev pub VERSION : ℤ
VERSION = pos 0

-- the number of a kind
abbrev pub kind_number : Kind → ℤ
kind_number Frame = pos 0
kind_number Tick = pos 1
kind_number Image = pos 2
kind_number Leads = pos 3

-- the kind of a number, where there is one
abbrev pub kind_with : ℤ → Option Kind
kind_with (pos n) =
    if n == 0 then Some Frame
    else (if n == 1 then Some Tick else (if n == 2 then Some Image else (if n == 3 then Some Leads else None)))
kind_with (negsuc _) = None
