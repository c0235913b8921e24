use Rattle.std.proofs.Common.{◌≡◌, ℕ, ◌++◌, length, List, [], ◌∷◌, true, Result, Ok, Err, OnErr, ap, subst, ◌∙◌, sym, refl, arith, length-append}
use Rattle.std.proofs.lemmas.Bool.Decides.{nat_tests}
use Rattle.std.proofs.lemmas.List.{append-nil}
use Rattle.topic_logs.specs.Append.{HasSequence}
use Rattle.topic_logs.proofs.produce.producible.Goals as goal

on_err : {T E : Type 0} (r : Result T E) (P : Type 0) → P → OnErr r P
on_err (Ok x) P holds = tt
on_err (Err e) P holds = holds

whole : (front rest all : List ℕ) → all ≡ front ++ rest → length rest ≡ 0 → front ≡ all
whole front [] all is none = sym (append-nil front) ∙ sym is
whole front (x ∷ rest) all is none = absurd (omega arith)

pub returns-in_err-batch-clause-err : goal.returns-in_err-batch-clause-err
returns-in_err-batch-clause-err c =
    on_err c.from_residual.result _ (λ p. c.in_err-batch.ensures.only c.args.records.now [] p.batch (sym (append-nil c.args.records.now)))

pub returns-then-not-is_empty-clause-err : goal.returns-then-not-is_empty-clause-err
returns-then-not-is_empty-clause-err c = λ p.
    let same : c.in_ok-batch.batch.bytes.now ≡ c.args.records.now =
    c.in_ok-batch.ensures.only c.args.records.now [] p.batch (sym (append-nil c.args.records.now)) in
    let none : length c.in_ok-batch.rest.now ≡ 0 =
    omega (arith, ap length c.in_ok-batch.ensures.found, length-append c.in_ok-batch.batch.bytes.now c.in_ok-batch.rest.now, ap length same) in
    grind (arith, nat_tests)

pub returns-then-not-has_sequence-clause-err : goal.returns-then-not-has_sequence-clause-err
returns-then-not-has_sequence-clause-err c = λ p.
    let same : c.in_ok-batch.batch.bytes.now ≡ c.args.records.now =
    c.in_ok-batch.ensures.only c.args.records.now [] p.batch (sym (append-nil c.args.records.now)) in
    let P : List ℕ → Type 0 = λ b. HasSequence b in
    let numbered : HasSequence c.in_ok-batch.batch.bytes.now = subst P (sym same) p.sequence in
    let yes : c.has_sequence.result ≡ true = c.has_sequence.ensures.1 numbered in
    cc

pub returns-clause-bytes : goal.returns-clause-bytes
returns-clause-bytes c =
    let none : length c.in_ok-batch.rest.now ≡ 0 = grind (arith, nat_tests) in
    whole c.in_ok-batch.batch.bytes.now c.in_ok-batch.rest.now c.args.records.now c.in_ok-batch.ensures.found none
