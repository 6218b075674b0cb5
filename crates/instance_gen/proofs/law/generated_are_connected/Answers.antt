use Rattle.instance_gen.proofs.Connected.{connected}
use Rattle.instance_gen.proofs.law.generated_are_connected.Goals as goal

pub returns : goal.returns
returns c = connected
