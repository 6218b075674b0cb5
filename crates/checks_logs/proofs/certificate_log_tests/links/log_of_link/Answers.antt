use Rattle.checks_logs.proofs.Closing.{is_complete}
use Rattle.checks_logs.proofs.certificate_log_tests.links.log_of_link.Goals as goal

pub assembled-requires-clause-complete : goal.assembled-requires-clause-complete
assembled-requires-clause-complete c = (6, 5, rw (c.in_ok-gathered.ensures, c.requires) is_complete)
