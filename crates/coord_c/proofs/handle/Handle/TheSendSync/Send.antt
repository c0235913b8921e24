-- A `Handle` may go to another thread: its box is the heap's, and what is in the box may go.
use mir.Raw.{raw}
use base.Shift.{Keyless}
use denote.Memory.{lone}
use denote.RawPtr.{Ptr}
use denote.Struct.Struct.{exits_of}
use denote.Struct.Owning.{shape, fields, to}
use denote.Param.Send.{IsSend, AllSend, owning_send, struct_send, sendable}
use Rattle.std.proofs.Common.{Option, None, Some}
use Rattle.std.proofs.Crossing as heap
use Rattle.std_alloc.proofs.SendSync.{quiet, lies}
use Rattle.coord_c.specs.declared.embedded.Embedded.{Embedded}
use Rattle.coord_c.specs.contracts.embedded.Embedded as embedded
use Rattle.coord_c.proofs.embedded.Embedded.TheSendSync.{the_send as embedded_send}
use Rattle.coord_c.specs.Held.{held}
use Rattle.coord_c.specs.contracts.handle.Handle.{the_row, the_type}

held_keyless : (p : Ptr) (kept : Option Embedded) → Keyless (held p kept)
held_keyless p None = tt
held_keyless p (Some x) = (lies embedded.the_row embedded_send p x, heap.frees.frees (record { memory = record { seal = tt } }) (raw (lone embedded.the_row.mir)) p)

pub send : IsSend the_row
send =
    let all : AllSend (fields the_type) = (search sendable, tt) in
    owning_send the_type all (λ d. held_keyless d.at d.kept)
    (λ k. quiet (to the_type) (exits_of k (fields the_type)) ((struct_send (shape the_type) all).leaving k))
