use Rattle.std.proofs.Common.{◌≡◌, ◌+◌, ◌≤◌, [], map, length, Some, ap, arith, refl, sym, ◌∙◌}
use Rattle.std.specs.Prelude.{string_bytes}
use Rattle.std.specs.Ordering.{eq_by_cmp}
use Rattle.std.specs.Vec.Iter.{into_iter_items}
use Rattle.std.proofs.Math.ListN.{length-map}
use Rattle.std.proofs.lemmas.List.{nil_from_length}
use Rattle.std.proofs.lemmas.List.Sums.{count_by-le-length}
use Rattle.group_types.specs.Text.{text_cmp}
use Rattle.group_types.proofs.Lookups.{some_is}
use Rattle.group_epochs.specs.Counts.{count_of, times}
use Rattle.group_epochs.proofs.Counted.{raised, some_after, times_behind}
use Rattle.group_epochs.proofs.counts.count_up.Goals as goal

pub add_one-requires-clause-fits : goal.add_one-requires-clause-fits
add_one-requires-clause-fits c =
    let q = string_bytes c.in-Some.name in
    let texts = map string_bytes c.args.names.items in
    let was = c.loop-name.invariant.counted q in
    let few : times q texts ≤ length texts = count_by-le-length (eq_by_cmp text_cmp q) texts in
    let long = length-map c.args.names.items string_bytes in
    let start = c.requires.fits q in
    let small = c.args.names.small in
    let ok = c.args.names.ok in
    omega (arith, was, few, long, start, small, ok)

pub loop-name-preserved : goal.loop-name-preserved
loop-name-preserved c =
    let steps = c.in-Some.ensures.steps in
    record {
      counted = λ q.
          let now = raised c.loop-name.counts c.add_one.new.counts (string_bytes c.in-Some.name) (Some (count_of c.loop-name.counts (string_bytes c.in-Some.name) + 1)) c.add_one.ensures.counted refl q in
          let left = ap (λ l. times q (map string_bytes l)) steps.0 ∙ times_behind q (string_bytes c.in-Some.name) (map string_bytes (into_iter_items c.next.new.self)) in
          let was = c.loop-name.invariant.counted q in
          omega (arith, now, left, was);
      some = λ before.
          some_after c.loop-name.counts c.add_one.new.counts (string_bytes c.in-Some.name) (Some (count_of c.loop-name.counts (string_bytes c.in-Some.name) + 1)) c.add_one.ensures.counted
          (λ k is. let same = some_is (count_of c.loop-name.counts (string_bytes c.in-Some.name) + 1) k is in omega (arith, same)) (c.loop-name.invariant.some before);
      room = let shorter = ap length steps.0 in omega (arith, shorter, c.loop-name.invariant.room, c.add_one.ensures.room);
    }

pub returns-clause-counted : goal.returns-clause-counted
returns-clause-counted c = λ q.
    let gone : into_iter_items c.loop-name.name-iterator ≡ [] = nil_from_length c.loop-name.name-iterator.rest.items (sym c.loop-name.name-iterator.rest.ok.0 ∙ c.in-None.ensures.steps.0) in
    let none : times q (map string_bytes (into_iter_items c.loop-name.name-iterator)) ≡ 0 = ap (λ l. times q (map string_bytes l)) gone in
    let was = c.loop-name.invariant.counted q in
    omega (arith, none, was)
