-- What a handle owns.
use Rattle.std.specs.Prelude.{◌≡◌, is_some, true, Option, Some, None}
use Rattle.std.specs.Global.{Box}
use Rattle.std.specs.Coded.{Coded, coded_option}
use mir.Syntax.{Ty}
use base.Fml.{Fml, ftrue}
use denote.RawPtr.{Ptr}
use Rattle.std_heap.specs.contracts.GlobalAllocator.TheImpl.{ghosts}
use Rattle.std_alloc.specs.Box.Ownership.{box_owns}
use Rattle.coord_c.specs.declared.embedded.Embedded.{Embedded}
use Rattle.coord_c.specs.contracts.embedded.Embedded.{the_row}

-- the right to free a block of the C library's heap
abbrev pub freed : Ty → Ptr → Fml
freed = ghosts.dealloc_token (record { memory = record { seal = tt } })

-- the box at the pointer, or nothing
abbrev pub held : Ptr → Option Embedded → Fml
held p None = ftrue
held p (Some x) = box_owns freed the_row p x

-- how what a handle has is stored
abbrev pub kept_code : Coded (Option Embedded)
kept_code = coded_option the_row.coded

-- there is a coordinator or a replica
abbrev pub HasEmbedded : Option Embedded → Type 0
HasEmbedded kept = is_some kept ≡ true

-- what the box has, where there is one
abbrev pub unboxed : Option (Box Embedded) → Option Embedded
unboxed None = None
unboxed (Some b) = Some b.value
