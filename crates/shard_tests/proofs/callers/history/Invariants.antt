use Rattle.shard_tests.proofs.callers.history.Given as goal

abbrev pub ghosts-two_callers-A-Ledger : goal.ghosts-two_callers-A-Ledger
ghosts-two_callers-A-Ledger g a = record { name = a.entries.name; parts = a.entries.parts }

abbrev pub ghosts-two_callers-C-Ledger : goal.ghosts-two_callers-C-Ledger
ghosts-two_callers-C-Ledger g a = record { name = a.calls.name; parts = a.calls.parts }
