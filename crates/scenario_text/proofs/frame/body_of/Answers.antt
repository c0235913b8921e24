use Rattle.std.proofs.Common.{◌≡◌, ap, length, arith, inl, inr}
use Rattle.group_types.proofs.FrameLemmas.{same_body}
use Rattle.scenario_text.proofs.frame.body_of.Goals as goal

pub returns-then-body-lt-SMALLEST_BODY-clause-none : goal.returns-then-body-lt-SMALLEST_BODY-clause-none
returns-then-body-lt-SMALLEST_BODY-clause-none c = λ body asked.
    let same : length body ≡ length c.in_ok-body.body.now = ap length (same_body body c.in_ok-body.body.now c.args.frame.now asked.framed c.in_ok-body.ensures.some) in
    let least = asked.is_body.0 in
    let most = asked.is_body.1 in
    elim c.then-body-lt-SMALLEST_BODY.either [ inl below ↦ omega arith | inr above ↦ omega arith ]
