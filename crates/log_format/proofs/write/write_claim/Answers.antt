use Rattle.log_format.proofs.Texts.{found_written, wall_written}
use Rattle.log_format.proofs.write.write_claim.Goals as goal

pub returns-in_ok-write_steps-in-Found : goal.returns-in_ok-write_steps-in-Found
returns-in_ok-write_steps-in-Found g c =
    let f = c.in-Found in
    found_written c.write_proof.result c.args.claim.now f.primal f.dual f.tree f.steps c.as_slice.result.now f.proof c.lines.result.now
    c.args.text.now.items c.write_pair.new.text.items c.write_tree.new.text.items c.write_steps.new.text.items c.write_proof.new.text.items
    f.is c.as_slice.ensures c.lines.ensures.all c.in_ok-write_pair-in-Found.ensures c.in_ok-write_tree-in-Found.ensures c.in_ok-write_steps-in-Found.ensures c.write_proof.ensures

pub returns-in_ok-write_bytes-in-NoTree : goal.returns-in_ok-write_bytes-in-NoTree
returns-in_ok-write_bytes-in-NoTree g c =
    wall_written c.write_counted.result c.args.claim.now c.in-NoTree.wall c.as_slice-in-NoTree.result.now
    c.args.text.now.items c.write_bytes.new.text.items c.write_counted.new.text.items c.in-NoTree.is c.as_slice-in-NoTree.ensures c.in_ok-write_bytes-in-NoTree.ensures c.write_counted.ensures
