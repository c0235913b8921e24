use Rattle.std.proofs.Common.{◌≡◌, ℕ, List, ◌++◌, length, take, drop, refl, sym, ap, ◌∙◌}
use Rattle.std.proofs.lemmas.Bool.Decides.{Decides-eqb}
use Rattle.std.proofs.lemmas.List.{take_at, take-append-drop}
use Rattle.std.proofs.lemmas.Slice.Eq.{slice_eq-Decides}
use Rattle.replica_snapshots.proofs.rewriting.behind.Goals as goal

pub returns-in-Some-clause-found : goal.returns-in-Some-clause-found
returns-in-Some-clause-found c =
    let bytes = c.args.bytes.now in
    let front = c.args.front.now in
    let size = length front in
    let same : take size bytes ≡ front = (slice_eq-Decides Decides-eqb (take size bytes) front _ (sym c.in-Some.ensures.cases.0)).0 refl in
    sym (take-append-drop size bytes) ∙ (ap (λ (l : List ℕ). l ++ drop size bytes) same ∙ ap (λ (l : List ℕ). front ++ l) (sym c.in-Some.ensures.cases.1))

pub returns-in-None-clause-whole : goal.returns-in-None-clause-whole
returns-in-None-clause-whole c = λ rest is.
    let bytes = c.args.bytes.now in
    let front = c.args.front.now in
    let size = length front in
    let same : take size bytes ≡ front = ap (take size) is ∙ take_at front rest size refl in
    (slice_eq-Decides Decides-eqb (take size bytes) front _ (sym c.in-None.ensures.cases)).1 same
