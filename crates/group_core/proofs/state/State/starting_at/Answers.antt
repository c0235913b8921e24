use Rattle.std.proofs.Common.{◌≡◌, map, ap, ◌∙◌}
use Rattle.std.specs.FinMap as finite
use Rattle.group_types.specs.Sets.{nothing, of_list}
use Rattle.group_types.specs.Partition.{partition_cmp}
use Rattle.group_reconcile.specs.Holders.{Held, holder_at, pairs}
use Rattle.group_core.proofs.Single.{entries-empty}
use Rattle.group_core.proofs.state.State.starting_at.Goals as goal

-- where nobody holds a partition there is no pair
pairs-empty : pairs (finite.empty) ≡ nothing
pairs-empty = ap (λ es. of_list (map (λ p. (holder_at finite.empty p, p)) (map (λ e. e.0) es))) (entries-empty partition_cmp Held)

pub returns-clause-group : goal.returns-clause-group
returns-clause-group c =
    λ i. record {
      salt = c.args.salt;
      epoch = c.args.epoch;
      target_epoch = c.new.ensures.epoch i;
      records = c.new-2.ensures.records i;
      target = c.new.ensures.owners i;
      grants = (ap pairs c.new-3.ensures ∙ pairs-empty) i;
      offsets = c.new-4.ensures i;
      view = c.empty.ensures i;
      clock = c.of_millis.ensures i;
      serial = 1;
      past = c.new-2.ensures.past i;
    }
