use Rattle.std.proofs.Common.{arith, Global, List, String}
use Rattle.group_epochs.specs.Counts.{AreCounts}
use Rattle.group_epochs.specs.declared.entry.Entry.{Entry}
use Rattle.group_epochs.proofs.Counted.{nobody_counted, none_some}
use Rattle.std.proofs.Common.{subst, sym, ◌∙◌}
use Rattle.std.specs.FinMap as finite
use Rattle.group_types.specs.Text.{text_cmp}
use Rattle.group_types.proofs.Lookups.{not_none}
use Rattle.group_epochs.specs.Deadlines.{IsNoLater}
use Rattle.group_epochs.specs.Table.{records_in}
use Rattle.group_epochs.proofs.Tabled.{empty_table, nobody_in_order}
use Rattle.group_epochs.proofs.records.Records.new.Goals as goal

pub invariant_of-result : goal.invariant_of-result
invariant_of-result c =
    record {
      table = empty_table c.with_hasher.result c.new.result.items c.new-3.result c.with_hasher.ensures.empty c.new.ensures.items c.with_hasher.ensures.unique c.new-3.ensures;
      member_order = nobody_in_order c.with_hasher.result c.new-2.result.items c.with_hasher.ensures.empty c.new-2.ensures.items;
      counted = subst (λ (rows : List (String Global × Entry)). AreCounts (records_in rows) c.with_hasher-2.result) (sym c.with_hasher.ensures.empty) (nobody_counted c.with_hasher-2.result c.with_hasher-2.ensures.empty);
      some = none_some c.with_hasher-2.result c.with_hasher-2.ensures.empty;
      deadlines = subst (λ rows. IsNoLater c.of_millis.result (records_in rows)) (sym c.with_hasher.ensures.empty) (λ m r is. absurd (not_none r (sym (finite.get-empty text_cmp m) ∙ is)));
      none_before = λ k m below. absurd (omega (arith, below));
    }
