use Rattle.log_format.proofs.Migrating.{migrated_is_the_same_lem}
use Rattle.log_format.proofs.law.migrated_is_the_same.Goals as goal

pub returns : goal.returns
returns c = migrated_is_the_same_lem
