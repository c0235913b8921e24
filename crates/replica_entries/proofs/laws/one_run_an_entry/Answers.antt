use Rattle.std.proofs.Common.{sym, ◌∙◌}
use Rattle.replica_entries.proofs.laws.one_run_an_entry.Goals as goal

pub returns : goal.returns
returns c = λ v one other a b. a.bytes ∙ sym b.bytes
