use Rattle.checks_workers.proofs.worker_loop_tests.alone.brought_alone.Given as goal

abbrev pub ghosts-run_alone : goal.ghosts-run_alone
ghosts-run_alone g a = record { instance = a.whole.now.instance; branch = a.branch.now; start = a.first }
