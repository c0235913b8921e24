-- What holds of each element of a list holds of each of the reversed list.
use Rattle.std.proofs.Common.{List, [], ◌∷◌, reverse}
use Rattle.std.specs.List.{All}
use Rattle.std.proofs.lemmas.List.Elements.{All-nil, All-cons, All-head, All-tail}
use mathlib.Core.List.{reverse_aux}

All-reverse_aux : {X : Type 0} (P : X → Type 0) (xs ys : List X) → All P xs → All P ys → All P (reverse_aux xs ys)
All-reverse_aux P [] ys all done = done
All-reverse_aux P (x ∷ xs) ys all done =
    All-reverse_aux P xs (x ∷ ys) (All-tail P x xs all) (All-cons P x ys (All-head P x xs all) done)

pub All-reverse : {X : Type 0} (P : X → Type 0) (xs : List X) → All P xs → All P (reverse xs)
All-reverse P xs all = All-reverse_aux P xs [] all (All-nil P)
