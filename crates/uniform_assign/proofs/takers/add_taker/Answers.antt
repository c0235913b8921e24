use Rattle.std.proofs.Common.{◌+◌, ℕ, length, refl, sym, ap, subst, arith}
use Rattle.std.specs.Global.{Vec}
use Rattle.std.proofs.lemmas.Option.{slice_get_read}
use Rattle.uniform_assign.proofs.Taken.{AddsTakerTo, AddsTakerTo-none, AddsTakerTo-push, AddsTakerTo-skip, AddsTaker-all}
use Rattle.uniform_assign.proofs.takers.add_taker.Goals as goal
use Rattle.uniform_assign.proofs.takers.add_taker.Goals.{then-marked+in_ok-push, else-marked}

pub loop-t-init : goal.loop-t-init
loop-t-init c = AddsTakerTo-none c.args.marks.now c.args.member c.args.all.now.items

pub index_mut-requires : goal.index_mut-requires
index_mut-requires c =
    let many = c.loop-t.invariant.as_many in
    let low = c.loop-t-test.true in
    let marks = c.requires in
    let ok = c.loop-t.all.ok.0 in
    omega arith

pub loop-t-preserved : goal.loop-t-preserved
loop-t-preserved c =
    let marks = c.args.marks.now in
    let m = c.args.member in
    let old = c.args.all.now.items in
    let all = c.loop-t.all.items in
    let n = c.loop-t.t in
    elim c.if-marked.branch [
      | then-marked+in_ok-push w ↦
          let v = w.index_mut.result.now in
          let many = c.loop-t.invariant.as_many in
          let low = c.loop-t-test.true in
          let long = c.requires in
          let here = slice_get_read all (length all) n v refl (omega arith) w.index_mut.ensures.value in
          subst (AddsTakerTo marks m (n + 1) old) (sym (ap (λ (x : Vec (Vec ℕ)). x.items) w.all-is))
          (AddsTakerTo-push marks m old n all c.loop-t.invariant v w.push.new.self here w.in_ok-push.ensures.items w.if-marked.true)
      | else-marked w ↦
          subst (AddsTakerTo marks m (n + 1) old) (sym (ap (λ (x : Vec (Vec ℕ)). x.items) w.all-is)) (AddsTakerTo-skip marks m old n all c.loop-t.invariant w.if-marked.false)
    ]

pub returns : goal.returns
returns c =
    let low = c.loop-t-test.false in
    let marks = c.requires in
    AddsTaker-all c.args.marks.now c.args.member c.args.all.now.items c.loop-t.t c.loop-t.all.items (omega arith) c.loop-t.invariant
