use Rattle.shard_tests.proofs.shards.answer.Given as goal

abbrev pub ghosts-told-A-Ledger : goal.ghosts-told-A-Ledger
ghosts-told-A-Ledger g a = record { name = a.entries.name; parts = a.entries.parts }

abbrev pub ghosts-told-C-Ledger : goal.ghosts-told-C-Ledger
ghosts-told-C-Ledger g a = record { name = a.calls.name; parts = a.calls.parts }
