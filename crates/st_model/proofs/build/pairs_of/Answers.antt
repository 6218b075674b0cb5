use Rattle.std.proofs.Common.{◌∙◌}
use Rattle.st_model.specs.declared.link.Link.{Link}
use Rattle.st_model.proofs.Once.{pairs_more}
use Rattle.st_model.proofs.build.pairs_of.Goals as goal

pub loop-link-preserved : goal.loop-link-preserved
loop-link-preserved c =
    let nothing : Link = record { a = 0; b = 0; cost = 0 } in
    c.in_ok-insert.ensures.keys ∙ pairs_more c.args.links.now c.loop-link.link-index nothing c.loop-link.pairs.keys c.min.result c.max.result c.requires c.loop-link-test.true c.loop-link.invariant c.min.ensures c.max.ensures
