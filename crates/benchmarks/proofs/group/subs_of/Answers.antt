use Rattle.std.proofs.Common.{◌≡◌, length, take, arith, ◌∙◌}
use Rattle.std.proofs.lemmas.List.{length-take-le}
use Rattle.std.proofs.lemmas.List.Sorted.{length_permutation}
use Rattle.std.proofs.Math.ListN.{length-map}
use Rattle.range_assign.specs.Members.{subscriber_of, subscribers_in}
use Rattle.benchmarks.proofs.group.subs_of.Goals as goal

pub returns : goal.returns
returns c =
    let list = c.loop-seat.list.items in
    let long : length (take c.from.result c.args.seats.now) ≡ c.from.result = length-take-le c.from.result c.args.seats.now (omega (arith, c.from.ensures, c.requires)) in
    let all : length list ≡ c.args.members = omega (arith, long, c.from.ensures) in
    length_permutation (subscribers_in list) c.of.result c.of.ensures.same ∙ length-map list subscriber_of ∙ all
