use Rattle.std.proofs.Common.{rules, sym}
use Rattle.std.proofs.lemmas.Fn.{always_returns_same}
use Rattle.group_epochs.proofs.Halves.{found_there, nobody_there, order_at, searched_rises}
use Rattle.group_epochs.proofs.order.with_instance.Goals as goal

pub returns-in_default : goal.returns-in_default
returns-in_default c =
    nobody_there c.args.instance.now c.args.members.now c.args.places.now.items c.requires.order c.requires.distinct c.in_default.field-0
    (c.in_default.ensures.position (order_at c.args.instance.now c.args.members.now c.args.places.now.items c.requires.order c.requires.distinct) (always_returns_same _ _ _ (λ a r g h. search rules))
    (searched_rises c.args.instance.now c.args.members.now c.args.places.now.items c.requires.order c.requires.distinct))

pub returns : goal.returns
returns c =
    found_there c.args.instance.now c.args.members.now c.args.places.now.items c.requires.order c.requires.distinct c.index.result.now c.in-Some.field-0-0.now c.in-Some.entry.now (sym c.in-Some.ensures.entry)
    (rw c.index.ensures (c.in-Ok.ensures.position (order_at c.args.instance.now c.args.members.now c.args.places.now.items c.requires.order c.requires.distinct) (always_returns_same _ _ _ (λ a r g h. search rules)) c.index.result.now))
