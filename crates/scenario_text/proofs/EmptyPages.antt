-- What is put on an empty page.
use Rattle.std.proofs.Common.{◌≡◌, ℕ, List, [], ◌++◌, Result, Ok, Err, OnOk, ap, ◌∙◌}

pub onto_nothing : {T E : Type 0} (r : Result T E) (old new text : List ℕ) → old ≡ [] → OnOk r (new ≡ old ++ text) → OnOk r (new ≡ text)
onto_nothing (Ok done) old new text none put = put ∙ ap (λ o. o ++ text) none
onto_nothing (Err fault) old new text none put = tt
