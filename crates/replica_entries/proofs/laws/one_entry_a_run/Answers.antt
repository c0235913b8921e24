use Rattle.replica_entries.proofs.SpellingLaws.{spells_read}
use Rattle.replica_entries.proofs.laws.one_entry_a_run.Goals as goal

pub returns : goal.returns
returns c = λ v w bytes one other.
    let a = spells_read v bytes one in
    let b = spells_read w bytes other in
    cc
