use Rattle.checks_logs.specs.Halved.{halved, two}
use Rattle.checks_logs.proofs.Proving.{proves_so, writable_so}
use Rattle.checks_logs.proofs.log_resume_tests.light_closes.Goals as goal
