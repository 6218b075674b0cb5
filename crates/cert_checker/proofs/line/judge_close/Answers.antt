use Rattle.std.proofs.Common.{◌≡◌, ◌<◌, subst, arith}
use Rattle.cut_packing.specs.Packing.{weight_in}
use Rattle.cert_checker.specs.Path.{branch_of}
use Rattle.cert_checker.specs.Posed.{ground_on}
use Rattle.cert_checker.proofs.Judged.{too_light}
use Rattle.cert_checker.proofs.Paths.{tell_ends}
use Rattle.cert_checker.proofs.line.judge_close.Goals as goal

pub close-requires : goal.close-requires
close-requires c = tell_ends (ground_on c.args.posed.now) c.args.path c.requires
