use Rattle.checks_packings.proofs.cut_packing_tests.judge.+leads.Given as goal

abbrev pub decreases-leads : goal.decreases-leads
decreases-leads l = l.steps
