use Rattle.scenario_cli.proofs.serve.serve_socket.Given as goal

abbrev pub ghosts-serve_over-A-Ledger : goal.ghosts-serve_over-A-Ledger
ghosts-serve_over-A-Ledger g a = record { name = a.new_shards.entries.name; parts = a.new_shards.entries.parts }

abbrev pub ghosts-serve_over-C-Ledger : goal.ghosts-serve_over-C-Ledger
ghosts-serve_over-C-Ledger g a = record { name = a.new_shards.calls.name; parts = a.new_shards.calls.parts }
