use Rattle.std.proofs.Common.{◌≡◌, ◌-◌, ◌∷◌, [], ap, arith, ◌∙◌}
use Rattle.std.specs.Prelude.{string_bytes}
use Rattle.group_types.specs.Text.{Text}
use Rattle.group_types.proofs.NameLemmas.{texts_of}
use Rattle.group_epochs.specs.Counts.{count_of, times}
use Rattle.group_epochs.proofs.Counted.{times_behind, times-in_order}
use Rattle.group_epochs.proofs.counts.count_down.Goals as goal

pub loop-name-init : goal.loop-name-init
loop-name-init c =
    record {
      counted = λ q. ap (λ ts. count_of c.args.counts.now q - times q ts) (ap texts_of c.into_iter-name-iterator.ensures.into_iter_gives ∙ c.iter-name-items.ensures.rest);
      some = λ before. before;
      room = omega arith;
    }

pub loop-name-preserved : goal.loop-name-preserved
loop-name-preserved c =
    record {
      counted = λ q.
          let now = c.take_one.ensures.counted q ∙ ap (λ (t : Text). count_of c.loop-name.counts q - times q (t ∷ [])) c.as_str.ensures.value in
          let left = ap (λ l. times q (texts_of l)) c.in-Some.ensures.steps ∙ times_behind q (string_bytes c.in-Some.name.now) (texts_of c.next.new.self) in
          let was = c.loop-name.invariant.counted q in
          omega (arith, now, left, was);
      some = λ before. c.take_one.ensures.some (c.loop-name.invariant.some before);
      room = omega (arith, c.loop-name.invariant.room, c.take_one.ensures.room);
    }

pub returns-clause-counted : goal.returns-clause-counted
returns-clause-counted c = λ q.
    let none : times q (texts_of c.loop-name.name-iterator) ≡ 0 = ap (λ l. times q (texts_of l)) c.in-None.ensures.steps.0 in
    let was = c.loop-name.invariant.counted q in
    let all = times-in_order c.args.names.now q in
    omega (arith, none, was, all)
