use Rattle.std.proofs.Common.{◌≡◌, ◌<◌, ℕ, List, length, refl, sym, subst, arith}
use Rattle.std.specs.List.{All}
use Rattle.std.proofs.lemmas.Option.{slice_get_read}
use Rattle.uniform_assign.specs.Seats.{AddsSeats, AreSeats}
use Rattle.uniform_assign.proofs.Boards.{takers_within}
use Rattle.uniform_assign.proofs.Seated.{AreSeats-more}
use Rattle.uniform_assign.proofs.board.Board.seats.Goals as goal

pub add_seats-requires : goal.add_seats-requires
add_seats-requires c =
    let board = c.args.self.now in
    let low = c.loop-class-test.true in
    let shown = c.len-class-end.ensures in
    let ok = board.takers.ok in
    let takers = c.index.result.now in
    let here = slice_get_read board.takers.items (length board.takers.items) c.loop-class.class takers refl (omega arith) c.index.ensures in
    subst (λ (xs : List ℕ). All (λ t. t < length c.loop-class.seats.items) xs) (sym c.deref.ensures.value)
    (subst (λ n. All (λ t. t < n) takers.items) (sym c.loop-class.invariant.as_many) (takers_within board c.requires c.loop-class.class takers here))

pub loop-class-preserved : goal.loop-class-preserved
loop-class-preserved c =
    let board = c.args.self.now in
    let n = c.loop-class.class in
    let low = c.loop-class-test.true in
    let shown = c.len-class-end.ensures in
    let ok = board.takers.ok in
    let takers = c.index.result.now in
    let old = c.loop-class.seats.items in
    let new = c.add_seats.new.seats.items in
    let here = slice_get_read board.takers.items (length board.takers.items) n takers refl (omega arith) c.index.ensures in
    AreSeats-more board n takers old new c.loop-class.invariant here (subst (λ (xs : List ℕ). AddsSeats xs n (length xs) old new) c.deref.ensures.value c.in_ok-add_seats.ensures)

pub returns : goal.returns
returns c =
    let last = c.loop-class-test.false in
    let end = c.loop-class.auto.class-end in
    let shown = c.len-class-end.ensures in
    let ok = c.args.self.now.takers.ok in
    let same : c.loop-class.class ≡ length c.args.self.now.takers.items = omega arith in
    subst (λ n. AreSeats c.args.self.now n c.loop-class.seats.items) same c.loop-class.invariant
