-- Two facts of a call that returned.
use Rattle.std.proofs.Common.{Result, Ok, Err}
use Rattle.std.specs.Result.{IfOk, OnErr}

-- what follows from two facts of what a call gave
pub IfOk-both : {X E : Type 0} (r : Result X E) (P Q S : X → Type 0) → ((x : X) → P x → Q x → S x) → IfOk r P → IfOk r Q → IfOk r S
IfOk-both (Ok x) P Q S so p q = so x p q
IfOk-both (Err e) P Q S so p q = p

-- what holds in any case
pub on_err : {X E : Type 0} (r : Result X E) (P : Type 0) → P → OnErr r P
on_err (Ok x) P p = tt
on_err (Err e) P p = p
