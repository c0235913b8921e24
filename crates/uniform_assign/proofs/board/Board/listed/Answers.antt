use Rattle.std.proofs.Common.{◌≡◌, ◌+◌, Some, length, refl, sym, ap, subst, ◌∙◌, arith}
use Rattle.std.specs.Global.{Vec}
use Rattle.std.proofs.lemmas.Option.{same_Some, slice_get_read}
use Rattle.uniform_assign.specs.Piles.{AreListed, Listed}
use Rattle.uniform_assign.proofs.Piled.{AreListed-added, AreListed-none, AreListed-skip}
use Rattle.uniform_assign.proofs.board.Board.listed.Goals as goal
use Rattle.uniform_assign.proofs.board.Board.listed.Goals.{in-Some+in_ok-push, in_default}

pub loop-at-init : goal.loop-at-init
loop-at-init c =
    let shown = ap length c.deref.ensures.value in
    let many = c.in_ok-listed.ensures.as_many in
    AreListed-none c.args.self.now c.args.draft.now c.in_ok-listed.listed.items (many ∙ shown) c.in_ok-listed.ensures.empty

pub index_mut-requires : goal.index_mut-requires
index_mut-requires c =
    let owners = c.args.draft.now.owners.items in
    let shown = c.len-at-end.ensures in
    let ok = c.args.self.now.places.ok in
    let many = c.requires.draft.as_many_owners in
    let low = c.loop-at-test.true in
    let here = slice_get_read owners (length owners) c.loop-at.at c.index.result.now refl (omega arith) c.index.ensures in
    let within = c.requires.draft.counts.within c.loop-at.at c.in-Some.owner (here ∙ ap Some c.in-Some.is) in
    let lists = c.loop-at.invariant.as_many in
    let ok_lists = c.loop-at.listed.ok in
    omega arith

pub loop-at-preserved : goal.loop-at-preserved
loop-at-preserved c =
    let board = c.args.self.now in
    let draft = c.args.draft.now in
    let owners = draft.owners.items in
    let lists = c.loop-at.listed.items in
    let n = c.loop-at.at in
    let are = c.loop-at.invariant in
    let low = c.loop-at-test.true in
    let shown = c.len-at-end.ensures in
    let ok = board.places.ok in
    let many = c.requires.draft.as_many_owners in
    let here = slice_get_read owners (length owners) n c.index.result.now refl (omega arith) c.index.ensures in
    elim c.match-index.branch [
      | in-Some+in_ok-push w ↦
          let m = w.in-Some.owner in
          let old = w.index_mut.result.now in
          let within = c.requires.draft.counts.within n m (here ∙ ap Some w.in-Some.is) in
          let count = are.as_many in
          let is_old = slice_get_read lists (length lists) m old refl (omega arith) w.index_mut.ensures.value in
          let pushed = w.in_ok-push.ensures.items in
          subst (λ (v : Vec Listed). AreListed board draft (n + 1) v.items) (sym w.listed-is)
          (AreListed-added board draft n lists are m old w.push.new.self (record { class = w.class_at.result; place = n }) (here ∙ ap Some w.in-Some.is) is_old pushed w.class_at.ensures.class refl)
      | in_default w ↦
          subst (λ (v : Vec Listed). AreListed board draft (n + 1) v.items) (sym w.listed-is)
          (AreListed-skip board draft n lists are (λ m owns.
          let none = same_Some c.index.result.now (Some m) (sym here ∙ owns) in
          let away = w.in_default.is in
          cc))
    ]

pub returns : goal.returns
returns c =
    let last = c.loop-at-test.false in
    let shown = c.len-at-end.ensures in
    let end = c.loop-at.auto.at-end in
    let ok = c.args.self.now.places.ok in
    let same : c.loop-at.at ≡ length c.args.self.now.places.items = omega arith in
    subst (λ n. AreListed c.args.self.now c.args.draft.now n c.loop-at.listed.items) same c.loop-at.invariant
