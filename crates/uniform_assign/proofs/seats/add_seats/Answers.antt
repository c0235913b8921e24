use Rattle.std.proofs.Common.{length, get_or, refl, subst, arith}
use Rattle.std.proofs.lemmas.Option.{slice_get-get_or, slice_get_read}
use Rattle.uniform_assign.specs.Seats.{AddsSeats}
use Rattle.uniform_assign.proofs.Seated.{AddsSeats-more, AddsSeats-none}
use Rattle.uniform_assign.proofs.seats.add_seats.Goals as goal

pub loop-place-init : goal.loop-place-init
loop-place-init c = AddsSeats-none c.args.takers.now c.args.class c.args.seats.now.items

pub index_mut-requires : goal.index_mut-requires
index_mut-requires c =
    let takers = c.args.takers.now in
    let n = c.loop-place.place in
    let all = c.requires n 0 c.loop-place-test.true in
    let many = c.loop-place.invariant.as_many in
    let ok = c.loop-place.seats.ok in
    omega arith

pub loop-place-preserved : goal.loop-place-preserved
loop-place-preserved c =
    let takers = c.args.takers.now in
    let old = c.args.seats.now.items in
    let new = c.loop-place.seats.items in
    let n = c.loop-place.place in
    let m = get_or takers n 0 in
    let is_m = slice_get-get_or takers n 0 c.loop-place-test.true in
    let all = c.requires n 0 c.loop-place-test.true in
    let many = c.loop-place.invariant.as_many in
    let v = c.index_mut.result.now in
    let is_v = slice_get_read new (length new) m v refl (omega arith) c.index_mut.ensures.value in
    AddsSeats-more takers c.args.class old n m new v c.push.new.self c.loop-place.invariant is_m is_v c.in_ok-push.ensures.items

pub returns : goal.returns
returns c =
    let last = c.loop-place-test.false in
    subst (λ n. AddsSeats c.args.takers.now c.args.class n c.args.seats.now.items c.loop-place.seats.items) (omega arith) c.loop-place.invariant
