use Rattle.std.proofs.Common.{◌≡◌, length, refl, sym, subst, arith, inl, inr}
use Rattle.std.proofs.lemmas.Option.{slice_get_read}
use Rattle.uniform_assign.specs.Piles.{IsListedIn}
use Rattle.uniform_assign.proofs.Kept.{slice_get-set_same}
use Rattle.uniform_assign.proofs.Piled.{AreHeld-drawn}
use Rattle.uniform_assign.proofs.board.Board.make_piles.Goals as goal

pub returns-clause-made : goal.returns-clause-made
returns-clause-made c =
    let piles = c.args.piles.now in
    let (draft, are) = c.requires.piles in
    let many = are.as_many in
    let as_many = are.as_many_lists in
    let low = c.requires.member in
    let ok = piles.hands.ok in
    (c.new.result, slice_get-set_same piles.listed.items c.args.member c.new.result (omega arith), c.new.ensures.items)

pub returns-clause-piles : goal.returns-clause-piles
returns-clause-piles c = λ draft are.
    let piles = c.args.piles.now in
    let m = c.args.member in
    let many = are.as_many in
    let as_many = are.as_many_lists in
    let low = c.requires.member in
    let ok = piles.hands.ok in
    let list = c.index.result.now in
    let is_hand = slice_get_read piles.hands.items (length piles.hands.items) m c.index_mut.result.now refl (omega arith) c.index_mut.ensures.value in
    let is_list = slice_get_read piles.listed.items (length piles.listed.items) m list refl (omega arith) c.index.ensures in
    let shown : c.deref.result.now ≡ list.items = c.deref.ensures.value in
    AreHeld-drawn c.args.self.now draft piles.hands.items piles.listed.items are m c.index_mut.result.now is_hand c.draw.new.hand list c.new.result is_list c.new.ensures.items
    (λ t k inside. c.in_ok-draw.ensures.drawn t k (subst (λ xs. IsListedIn xs t k) (sym shown) inside)) c.in_ok-draw.ensures.kept
    (λ t k there. elim (c.in_ok-draw.ensures.classes t k there) [ inl was ↦ inl was | inr inside ↦ inr (subst (λ xs. IsListedIn xs t k) shown inside) ])
