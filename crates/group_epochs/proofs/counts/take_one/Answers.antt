use Rattle.std.proofs.Common.{◌-◌, ◌<◌, ℕ, Option, Some, None, ap, arith, refl}
use Rattle.std.specs.Prelude.{IsSome, unwrap_or}
use Rattle.indexmap.specs.IndexMap.{get_by_text}
use Rattle.group_types.proofs.Lookups.{not_none, some_is}
use Rattle.group_epochs.proofs.Counted.{lowered, some_after}
use Rattle.group_epochs.proofs.counts.take_one.Goals as goal

some_counted : (o : Option ℕ) → 1 < unwrap_or o 0 → IsSome o
some_counted None more = absurd (omega (arith, more))
some_counted (Some n) _ = refl

pub set_count-requires : goal.set_count-requires
set_count-requires c = some_counted (get_by_text c.args.counts.now c.args.name.now) (omega (arith, c.count_of-count.ensures, c.if-count-gt1.true))

pub returns-then-count-gt1-clause-counted : goal.returns-then-count-gt1-clause-counted
returns-then-count-gt1-clause-counted c =
    lowered c.args.counts.now c.set_count.new.counts c.args.name.now (Some (c.count_of-count.result - 1)) c.set_count.ensures.counted (ap (λ (k : ℕ). k - 1) c.count_of-count.ensures)

pub returns-else-count-gt1-clause-counted : goal.returns-else-count-gt1-clause-counted
returns-else-count-gt1-clause-counted c =
    lowered c.args.counts.now c.swap_remove.new.self c.args.name.now None c.swap_remove.ensures.updates (omega (arith, c.count_of-count.ensures, c.if-count-gt1.false))

pub returns-then-count-gt1-clause-some : goal.returns-then-count-gt1-clause-some
returns-then-count-gt1-clause-some c =
    some_after c.args.counts.now c.set_count.new.counts c.args.name.now (Some (c.count_of-count.result - 1)) c.set_count.ensures.counted
    (λ k is. let same = some_is (c.count_of-count.result - 1) k is in omega (arith, same, c.if-count-gt1.true))

pub returns-else-count-gt1-clause-some : goal.returns-else-count-gt1-clause-some
returns-else-count-gt1-clause-some c =
    some_after c.args.counts.now c.swap_remove.new.self c.args.name.now None c.swap_remove.ensures.updates (λ k is. absurd (not_none k is))
