use Rattle.server_tests.proofs.memory.over_memory.Given as goal

abbrev pub ghosts-memory_over-A-Ledger : goal.ghosts-memory_over-A-Ledger
ghosts-memory_over-A-Ledger g a = record { name = a.entries.name; parts = a.entries.parts }

abbrev pub ghosts-memory_over-C-Ledger : goal.ghosts-memory_over-C-Ledger
ghosts-memory_over-C-Ledger g a = record { name = a.calls.name; parts = a.calls.parts }
