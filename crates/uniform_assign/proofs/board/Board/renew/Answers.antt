use Rattle.std.proofs.Common.{length, get_or, refl, arith}
use Rattle.std.proofs.lemmas.Option.{slice_get-get_or, slice_get_read, slice_get_within}
use Rattle.uniform_assign.proofs.Queued.{AreRenewed-all, AreRenewed-more, AreRenewed-none, length-renewed}
use Rattle.uniform_assign.proofs.board.Board.renew.Goals as goal

pub loop-seat-init : goal.loop-seat-init
loop-seat-init c = AreRenewed-none c.args.self.now c.args.sets.now.items c.args.seats.now c.args.member c.args.count

pub index_mut-requires : goal.index_mut-requires
index_mut-requires c =
    let board = c.args.self.now in
    let seats = c.args.seats.now in
    let n = c.loop-seat.seat-index in
    let seat = get_or seats n (record { class = 0; place = 0 }) in
    let is_seat = slice_get-get_or seats n (record { class = 0; place = 0 }) c.loop-seat-test.true in
    let (takers, is_takers, is_member) = c.requires.seats.sound n seat is_seat in
    let low = slice_get_within board.takers.items seat.class takers is_takers in
    let many = c.loop-seat.invariant.as_many in
    let (counts, within, are) = c.requires.known in
    let as_many = are.as_many in
    let ok = c.loop-seat.sets.ok in
    omega arith

pub set-requires : goal.set-requires
set-requires c =
    let board = c.args.self.now in
    let seats = c.args.seats.now in
    let n = c.loop-seat.seat-index in
    let new = c.loop-seat.sets.items in
    let seat = get_or seats n (record { class = 0; place = 0 }) in
    let is_seat = slice_get-get_or seats n (record { class = 0; place = 0 }) c.loop-seat-test.true in
    let (takers, is_takers, is_member) = c.requires.seats.sound n seat is_seat in
    let low = slice_get_within board.takers.items seat.class takers is_takers in
    let many = c.loop-seat.invariant.as_many in
    let (counts, within, are) = c.requires.known in
    let as_many = are.as_many in
    let was = c.index_mut.result.now in
    let is_was = slice_get_read new (length new) seat.class was refl (omega arith) c.index_mut.ensures.value in
    let long = length-renewed board c.args.sets.now.items new seats c.args.member c.args.count n c.loop-seat.invariant counts within are seat.class takers was is_takers is_was in
    let inside = slice_get_within takers.items seat.place c.args.member is_member in
    omega arith

pub loop-seat-preserved : goal.loop-seat-preserved
loop-seat-preserved c =
    let board = c.args.self.now in
    let seats = c.args.seats.now in
    let n = c.loop-seat.seat-index in
    let new = c.loop-seat.sets.items in
    let seat = get_or seats n (record { class = 0; place = 0 }) in
    let is_seat = slice_get-get_or seats n (record { class = 0; place = 0 }) c.loop-seat-test.true in
    let (takers, is_takers, is_member) = c.requires.seats.sound n seat is_seat in
    let low = slice_get_within board.takers.items seat.class takers is_takers in
    let many = c.loop-seat.invariant.as_many in
    let (counts, within, are) = c.requires.known in
    let as_many = are.as_many in
    let was = c.index_mut.result.now in
    let is_was = slice_get_read new (length new) seat.class was refl (omega arith) c.index_mut.ensures.value in
    AreRenewed-more board c.args.sets.now.items new seats c.args.member c.args.count n c.loop-seat.invariant c.requires.board seat is_seat takers is_takers is_member was c.set.new.self is_was c.set.ensures

pub returns : goal.returns
returns c = λ counts within are.
    let last = c.loop-seat-test.false in
    AreRenewed-all c.args.self.now c.args.sets.now.items c.loop-seat.sets.items c.args.seats.now c.args.member c.args.count c.loop-seat.seat-index c.loop-seat.invariant c.requires.seats (omega arith) counts within are
