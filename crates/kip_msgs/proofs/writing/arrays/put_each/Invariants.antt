use Rattle.std.proofs.Common.{All, take, drop}
use Rattle.std.specs.List.{flat_map}
use Rattle.kip_msgs.proofs.Puts.{HasPut}
use Rattle.kip_msgs.proofs.writing.arrays.put_each.Given as goal

abbrev pub invariant-loop-element : goal.invariant-loop-element
invariant-loop-element g l =
    let element = g.T.PutElement in
    HasPut l.initial.out l.out (flat_map (λ x. element.spelling (element.value_of x)) l.elements) (flat_map (λ x. element.spelling (element.value_of x)) (drop l.element-index l.elements))
    × All (λ x. element.Fits (element.value_of x)) (take l.element-index l.elements)
