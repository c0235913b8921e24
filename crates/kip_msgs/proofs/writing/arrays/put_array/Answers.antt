use Rattle.std.proofs.Common.{map}
use Rattle.std.proofs.lemmas.List.{length-map}
use Rattle.flex_wire.specs.Composed.{array}
use Rattle.kip_msgs.proofs.Puts.{start, step, last_up_to, at_end}
use Rattle.kip_msgs.proofs.writing.arrays.put_array.Goals as goal

pub returns-clause-appends : goal.returns-clause-appends
returns-clause-appends g c =
    let view = g.T.PutElement.value_of in
    let xs = c.args.elements.now in
    let counted = rw (c.len.ensures, ← length-map xs view) at c.in_ok-put_count.ensures in
    let listed = rw c.as_slice.ensures at c.put_each.ensures.appends in
    last_up_to c.put_each.result (at_end (step (start c.args.out.now (array g.T.PutElement.spelling (map view xs))) counted)) listed
