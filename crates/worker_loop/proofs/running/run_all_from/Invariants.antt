use Rattle.worker_loop.proofs.running.run_all_from.Given as goal

abbrev pub ghosts-searched : goal.ghosts-searched
ghosts-searched g a = record { instance = a.crew.now.whole.now.instance; branch = a.branch.now; start = a.first }
