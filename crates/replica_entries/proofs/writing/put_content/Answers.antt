use Rattle.replica_entries.proofs.writing.put_content.Goals as goal

pub put_topics-requires : goal.put_topics-requires
put_topics-requires c = rw c.deref.ensures.value (rw c.in-Image.is at c.requires.topics)
