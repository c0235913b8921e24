use Rattle.std.proofs.Common.{◌≡◌, ◌-◌, List, ℕ, ◌++◌, length, take, sym, ap, ◌∙◌, arith}
use Rattle.std.proofs.lemmas.Result.{err_from_is_err_and}
use Rattle.std.specs.Option.{option_copied}
use Rattle.broker_messages.specs.Front.{front_fields}
use Rattle.broker_messages.proofs.FrontLaws.{cut_taken, cut_fails, cut_regex, front_is, rest_fits}
use Rattle.broker_messages.proofs.heartbeat.reading.take_cut.Goals as goal

pub returns-in_err-rest-clause-only : goal.returns-in_err-rest-clause-only
returns-in_err-rest-clause-only c = λ f regex back fits some is.
    let p = err_from_is_err_and c.from_residual.result c.from_residual.ensures.1 in
    rw (p.1, p.2) (cut_fails c.args.bytes.now c.in_err-rest.field-0.0 c.in_err-rest.ensures f regex back fits some is)

pub overflow_sub-size : goal.overflow_sub-size
overflow_sub-size c =
    let t = cut_taken c.args.bytes.now c.in_ok-rest.rest.now (option_copied c.in_ok-rest.regex) c.in_ok-rest.back.now (λ i. omega (arith, c.type_inv.bytes i)) c.in_ok-rest.ensures in
    rest_fits c.args.bytes.now (front_fields t.value) c.in_ok-rest.rest.now t.bytes_are

pub returns-clause-found : goal.returns-clause-found
returns-clause-found c =
    let bytes = c.args.bytes.now in
    let rest = c.in_ok-rest.rest.now in
    let t = cut_taken bytes rest (option_copied c.in_ok-rest.regex) c.in_ok-rest.back.now (λ i. omega (arith, c.type_inv.bytes i)) c.in_ok-rest.ensures in
    let front : take (length bytes - length rest) bytes ≡ front_fields t.value = front_is bytes (front_fields t.value) rest t.bytes_are in (
      record { value = t.value; fits = t.front; encoded = front },
      t.fits,
      t.bytes_are ∙ (ap (λ (l : List ℕ). l ++ rest) (sym front) ∙ ap (λ (l : List ℕ). take (length bytes - length rest) bytes ++ l) t.rest_is),
    )

pub returns-clause-only : goal.returns-clause-only
returns-clause-only c = λ f regex back fits some is.
    cut_regex c.args.bytes.now c.in_ok-rest.rest.now (option_copied c.in_ok-rest.regex) c.in_ok-rest.back.now c.in_ok-rest.ensures f regex back fits some is
