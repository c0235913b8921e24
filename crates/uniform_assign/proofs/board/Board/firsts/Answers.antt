use Rattle.std.proofs.Common.{◌≡◌, ◌+◌, length, sym, ap, subst, ◌∙◌, arith, rules, to_z, of_z}
use Rattle.std.specs.Int.{w32}
use Rattle.std.proofs.lemmas.Option.{slice_get_within}
use Rattle.uniform_assign.proofs.Boards.{place_here}
use Rattle.uniform_assign.proofs.Located.{AreFirstsTo, AreFirstsTo-next, AreFirstsTo-skip}
use Rattle.uniform_assign.proofs.board.Board.firsts.Goals as goal
use Rattle.uniform_assign.proofs.board.Board.firsts.Goals.{then-place-eq0+in_ok-insert, else-place-eq0}

pub loop-at-preserved : goal.loop-at-preserved
loop-at-preserved c =
    let board = c.args.self.now in
    let n = c.loop-at.at in
    let place = c.place-item.result in
    let here = place_here c.deref-place-items.result.now board.places.items n place c.deref-place-items.ensures.value c.loop-at-test.true c.place-item.is in
    elim c.if-place-eq0.branch [
      | then-place-eq0+in_ok-insert w ↦
          subst (AreFirstsTo board.places.items (n + 1)) (sym w.firsts-is)
          (AreFirstsTo-next board c.requires n place here c.loop-at.firsts w.insert.new.self c.loop-at.invariant (sym (let shown : to_z w32 (of_z w32 place.partition.index) ≡ place.partition.index = search rules in shown) ∙ ap (to_z w32) w.if-place-eq0.true) w.in_ok-insert.ensures.updates)
      | else-place-eq0 w ↦
          subst (AreFirstsTo board.places.items (n + 1)) (sym w.firsts-is) (AreFirstsTo-skip board c.requires n place here c.loop-at.firsts c.loop-at.firsts c.loop-at.invariant (λ zero. w.if-place-eq0.false (ap (of_z w32) zero)))
    ]

pub returns : goal.returns
returns c = λ k place is_place index.
    let low = slice_get_within c.args.self.now.places.items k place is_place in
    let last = c.loop-at-test.false in
    let shown = ap length c.deref-place-items.ensures.value in
    c.loop-at.invariant k place (omega arith) is_place index
