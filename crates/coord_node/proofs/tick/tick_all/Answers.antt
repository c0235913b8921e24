use Rattle.std.proofs.Common.{sym, ap, ◌∙◌, arith}
use Rattle.std.proofs.lemmas.List.{take_all}
use Rattle.std.specs.List.{sum_by}
use Rattle.coord_node.specs.NodeView.{Entries}
use Rattle.coord_node.proofs.TickLemmas.{AreTicked-kept, AreTicked-length, AreTicked-next, groups-ticked, lost, lost-next, sum-groups}
use Rattle.coord_node.proofs.tick.tick_all.Goals as goal

pub index_mut-requires : goal.index_mut-requires
index_mut-requires c =
    omega (arith, c.loop-place-test.true, AreTicked-length c.args.now c.loop-place.place c.args.groups.now.entries c.loop-place.groups.entries c.loop-place.invariant.0, c.len-place-end.ensures.len)

pub loop-place-preserved : goal.loop-place-preserved
loop-place-preserved c =
    let now = c.args.now in
    let place = c.loop-place.place in
    let old = c.args.groups.now.entries in
    let so_far = c.loop-place.groups.entries in
    let done = c.loop-place.invariant in (
      AreTicked-next now place old so_far c.index_mut.result.now c.tick-removed.new.self done.0 c.index_mut.ensures.value
          (record { group = c.tick-removed.ensures.group; kept = c.tick-removed.ensures.kept }),
      omega (arith, done.1, c.tick-removed.ensures.removed, lost-next now place old so_far c.index_mut.result.now done.0 c.index_mut.ensures.value),
      omega (arith, done.2, c.tick-removed.ensures.few),
    )

pub returns-clause-groups : goal.returns-clause-groups
returns-clause-groups c =
    groups-ticked c.args.now c.loop-place.place c.args.groups.now.entries c.loop-place.groups.entries (omega (arith, c.loop-place-test.false, c.len-place-end.ensures.len)) c.loop-place.invariant.0

pub returns-clause-removed : goal.returns-clause-removed
returns-clause-removed c =
    let old = c.args.groups.now.entries in
    c.loop-place.invariant.1
    ∙ ap (λ (es : Entries). sum_by (lost c.args.now) es) (take_all c.loop-place.place old (omega (arith, c.loop-place-test.false, c.len-place-end.ensures.len)))
    ∙ sym (sum-groups c.args.now old c.len-place-end.ensures.unique)

pub returns-clause-kept : goal.returns-clause-kept
returns-clause-kept c = λ generation image each.
    AreTicked-kept c.args.now c.loop-place.place c.args.groups.now.entries c.loop-place.groups.entries generation image c.loop-place.invariant.0 each

pub returns-clause-few : goal.returns-clause-few
returns-clause-few c =
    omega (arith, c.requires.few, AreTicked-length c.args.now c.loop-place.place c.args.groups.now.entries c.loop-place.groups.entries c.loop-place.invariant.0)
