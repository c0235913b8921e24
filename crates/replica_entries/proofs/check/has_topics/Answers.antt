use Rattle.replica_entries.proofs.check.has_topics.Goals as goal

pub returns-in-Image : goal.returns-in-Image
returns-in-Image c = rw c.in-Image.is (rw c.deref.ensures.value at c.are_spelled.ensures)
