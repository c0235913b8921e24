use Rattle.std.proofs.Common.{◌≡◌, ℕ, suc, ◌+◌, ◌≤◌, true, false, Some, None, refl, sym, ap, ◌∙◌, arith, below_more}
use Rattle.group_types.specs.MemberId.{made_id}
use Rattle.group_types.specs.Members.{is_remembered, members_of}
use Rattle.group_types.specs.Join.{IsNextSerial}
use Rattle.group_core.specs.GroupView.{group_of}
use Rattle.group_core.proofs.naming.made_name.Goals as goal

pub returns-then-not-remembers : goal.returns-then-not-remembers
returns-then-not-remembers c =
    let g = group_of c.args.state.now in
    let n = c.loop-ids_made.ids_made + 1 in
    let named : c.as_str.result.now ≡ made_id g.salt n = c.as_str.ensures.value ∙ c.in_ok-id.ensures in
    let fresh : is_remembered (members_of g) (made_id g.salt n) ≡ false = ap (is_remembered (members_of g)) (sym named) ∙ sym c.if-not-remembers.ensures in
    let next : IsNextSerial g n =
    record {
      from = let most = c.loop-ids_made.invariant.0 in omega (arith, most);
      below = omega (arith, c.loop-ids_made-test.true);
      fresh = fresh;
      first = λ k from below. c.loop-ids_made.invariant.1 k from (omega (arith, below));
    } in
    (Some n, next, ap (λ id. Some (record { id = id; next_serial = suc n })) c.in_ok-id.ensures)

pub loop-ids_made-preserved : goal.loop-ids_made-preserved
loop-ids_made-preserved c =
    let g = group_of c.args.state.now in
    let n = c.loop-ids_made.ids_made + 1 in
    let named : c.as_str.result.now ≡ made_id g.salt n = c.as_str.ensures.value ∙ c.in_ok-id.ensures in
    let there : is_remembered (members_of g) (made_id g.salt n) ≡ true = ap (is_remembered (members_of g)) (sym named) ∙ sym c.if-not-remembers.ensures in
    let Taken : ℕ → Type 0 = λ k. suc c.args.state.now.ids_made ≤ k → is_remembered (members_of g) (made_id g.salt k) ≡ true in
    (omega (arith, c.loop-ids_made.invariant.0), λ k from below. below_more Taken n (λ k below from. c.loop-ids_made.invariant.1 k from (omega (arith, below))) (λ from. there) k (omega (arith, below)) from)

pub returns : goal.returns
returns c =
    let g = group_of c.args.state.now in
    (None, λ k from below. c.loop-ids_made.invariant.1 k from (omega (arith, below, c.loop-ids_made-test.false)), refl)
