-- Tagged fields (KIP-482) as their values.
use Rattle.std.specs.Prelude.{List, map}
use Rattle.flex_wire.specs.Spelling.{Tagged}
use Rattle.flex_wire.specs.declared.tagged.TaggedField.{TaggedField}

-- a tagged field without where its bytes lie in memory
abbrev pub tagged : TaggedField → Tagged
tagged field = record { tag = field.tag; value = field.value.now }

-- the same of each of a list
abbrev pub all_tagged : List TaggedField → List Tagged
all_tagged fields = map tagged fields
