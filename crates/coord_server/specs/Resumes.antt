-- What a future may give, whatever its state.
use Rattle.std.specs.Prelude.{Result, Ok, Err, IfOk}

-- what follows of each value follows of the one that is there
pub on_each : {T E : Type 0} (P Q : T → Type 0) (r : Result T E) → ((x : T) → P x → Q x) → IfOk r P → IfOk r Q
on_each P Q (Ok x) follows holds = follows x holds
on_each P Q (Err e) follows holds = holds
