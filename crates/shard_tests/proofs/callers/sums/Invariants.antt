use Rattle.shard_tests.proofs.callers.sums.Given as goal

abbrev pub ghosts-four_callers-A-Ledger : goal.ghosts-four_callers-A-Ledger
ghosts-four_callers-A-Ledger g a = record { name = a.entries.name; parts = a.entries.parts }

abbrev pub ghosts-four_callers-C-Ledger : goal.ghosts-four_callers-C-Ledger
ghosts-four_callers-C-Ledger g a = record { name = a.calls.name; parts = a.calls.parts }
