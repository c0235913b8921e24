use Rattle.std.proofs.Common.{get_or, set as set_at, arith}
use Rattle.std.proofs.lemmas.Option.{slice_get-get_or}
use Rattle.uniform_assign.specs.declared.order.TheConstants.{MOST}
use Rattle.uniform_assign.proofs.Ordered.{AreLacks-shown, AreShown-back, order-room}
use Rattle.uniform_assign.proofs.order.Order.put_back.Goals as goal

pub loop-member-init : goal.loop-member-init
loop-member-init c = c.requires

pub bounds-counts-member : goal.bounds-counts-member
bounds-counts-member c =
    let aside = c.args.aside.now in
    let n = c.loop-member.member-index in
    let (shown, are, is) = c.loop-member.invariant in
    are.within n (get_or aside n 0) (slice_get-get_or aside n 0 c.loop-member-test.true)

pub set-requires : goal.set-requires
set-requires c =
    let aside = c.args.aside.now in
    let n = c.loop-member.member-index in
    let m = get_or aside n 0 in
    let (shown, are, is) = c.loop-member.invariant in
    let within = are.within n m (slice_get-get_or aside n 0 c.loop-member-test.true) in
    let as_many = are.as_many in
    order-room shown c.loop-member.self m is (omega arith)

pub loop-member-preserved : goal.loop-member-preserved
loop-member-preserved c =
    let counts = c.args.counts.now in
    let aside = c.args.aside.now in
    let n = c.loop-member.member-index in
    let m = get_or aside n 0 in
    let (shown, are, is) = c.loop-member.invariant in
    (set_at shown m (get_or counts m 0), AreShown-back counts aside shown n m are (slice_get-get_or aside n 0 c.loop-member-test.true), c.set.ensures shown is)

pub returns : goal.returns
returns c =
    let (shown, are, left) = c.loop-member.invariant in
    AreLacks-shown c.args.counts.now c.args.aside.now shown MOST c.loop-member.member-index c.loop-member.self.lacks are c.loop-member-test.false left
