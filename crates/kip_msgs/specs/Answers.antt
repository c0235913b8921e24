-- What a call that may run out of memory answers.
use Rattle.std.specs.Prelude.{◌≡◌, ◌⊎◌, Result, Ok, Err}
use Rattle.kip_msgs.specs.declared.fault.MsgFault.{MsgFault}
use Rattle.kip_msgs.specs.declared.fault.MsgFault.TheVariants.{NoMemory}

-- It is this value, seen by view, unless memory was wanting.
abbrev pub AnswersInMemory : {X Y : Type 0} → (X → Y) → Result X MsgFault → Y → Type 0
AnswersInMemory view (Ok x) y = view x ≡ y
AnswersInMemory view (Err e) y = e ≡ NoMemory

-- It is this fault, unless memory was wanting.
abbrev pub FailsInMemory : {X : Type 0} → MsgFault → Result X MsgFault → Type 0
FailsInMemory fault r = (r ≡ Err fault) ⊎ (r ≡ Err NoMemory)
