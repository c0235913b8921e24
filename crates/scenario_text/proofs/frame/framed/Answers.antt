use Rattle.std.proofs.Common.{◌≡◌, length, ap, ◌∙◌, sym, arith}
use Rattle.std.specs.Int.{w32, from_be_bytes}
use Rattle.scenario_text.proofs.FrameParts.{frame_holds_size, frame_parts, frame_of_parts}
use Rattle.scenario_text.proofs.frame.framed.Goals as goal
use Rattle.scenario_text.proofs.frame.framed.Goals.{then-size-body-via-then-size-body, then-size-body-via-else-size-body+then-size}

pub returns-in_err-size-clause-none : goal.returns-in_err-size-clause-none
returns-in_err-size-clause-none c =
    rw c.from_residual.ensures (λ body framed.
    absurd (omega (arith, frame_holds_size body c.args.frame.now framed, c.in_err-size.ensures.cases)))

pub returns-then-size-body-clause-none : goal.returns-then-size-body-clause-none
returns-then-size-body-clause-none c = λ body framed.
    let short = framed.size.sfits in
    let parts = frame_parts body c.args.frame.now framed (omega arith) in
    let cases = c.in_ok-size.ensures.cases in
    let head : from_be_bytes w32 c.in_ok-size.size.now ≡ length body = ap (from_be_bytes w32) cases.0 ∙ parts.0 in
    let rest : length c.in_ok-size.body.now ≡ length body = ap length cases.1 ∙ ap length parts.1 in
    let size = c.from_be_bytes-size.ensures ∙ head in
    elim c.then-size-body.branch [
      | then-size-body-via-then-size-body w ↦ w.if-size-body.true (size ∙ sym rest)
      | then-size-body-via-else-size-body+then-size w ↦ omega arith
    ]

pub returns-clause-some : goal.returns-clause-some
returns-clause-some c =
    let cases = c.in_ok-size.ensures.cases in
    frame_of_parts c.args.frame.now _ _ _ (λ i. omega (arith, c.type_inv.frame i)) cases.0 cases.1 cases.2
    c.from_be_bytes-size.ensures c.if-size-body.false (omega arith)
