use Rattle.server_tests.proofs.server.over_sockets.Given as goal

abbrev pub ghosts-sockets_over-A-Ledger : goal.ghosts-sockets_over-A-Ledger
ghosts-sockets_over-A-Ledger g a = record { name = a.entries.name; parts = a.entries.parts }

abbrev pub ghosts-sockets_over-C-Ledger : goal.ghosts-sockets_over-C-Ledger
ghosts-sockets_over-C-Ledger g a = record { name = a.calls.name; parts = a.calls.parts }
