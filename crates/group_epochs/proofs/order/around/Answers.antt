use Rattle.std.proofs.Common.{rules}
use Rattle.std.specs.Option.{option_copied}
use Rattle.std.specs.VecDeque.Iter.{deque_iter_rest}
use Rattle.std.proofs.lemmas.List.{take_rest}
use Rattle.std.proofs.lemmas.Fn.{always_returns_same}
use Rattle.group_epochs.proofs.Halves.{comes_before, places_parted, split_there}
use Rattle.group_epochs.proofs.order.around.Goals as goal

pub returns : goal.returns
returns c =
    split_there c.args.members.now.entries c.args.places.now.items c.requires _ c.partition_point-rank.result
    (c.partition_point-rank.ensures.partitioned (comes_before c.args.members.now.entries c.args.places.now.items c.requires (option_copied c.args.instance, c.args.id.now)) (always_returns_same _ _ _ (λ a r g h. search rules))
    (places_parted c.args.members.now.entries c.args.places.now.items c.requires _))
    (deque_iter_rest c.range.result) (deque_iter_rest c.range-2.result) (search rules)
    (rw (c.range-2.ensures.rest, c.args.places.now.ok.0) (take_rest c.args.places.now.items c.partition_point-rank.result))
