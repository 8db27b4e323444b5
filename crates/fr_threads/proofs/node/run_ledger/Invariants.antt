use Rattle.fr_threads.proofs.node.run_ledger.Given as goal

abbrev pub ghosts-run_desk : goal.ghosts-run_desk
ghosts-run_desk g a = record { name = a.blank.name; parts = a.blank.parts }
