use Rattle.std.proofs.Common.{refl, sym, ap}
use Rattle.std.specs.Option.{option_map}
use Rattle.cert_checker.specs.Path.{branch_of}
use Rattle.certificate_log.proofs.Certifying.{tree_of}
use Rattle.log_resume.proofs.Certifying.{sides_apart}
use Rattle.log_resume.proofs.Weighing.{first_branch}
use Rattle.log_resume.proofs.growing.lines_of.Goals as goal

pub proof_lines-requires-clause-tree : goal.proof_lines-requires-clause-tree
proof_lines-requires-clause-tree c =
    let I = c.args.walk.now.instance in
    let E = c.args.search.now in
    let (path, was, complete) = c.requires in
    let branch = first_branch I I c.args.walk.now.path (branch_of path) c.first.ensures.is_opened (sym (ap (option_map branch_of) was)) refl in
    tree_of c.complete_is_proof.ensures c.complete_counts.ensures E.gathered I (branch_of path) E.start E.budget (sides_apart I (branch_of path) branch) complete

pub returns : goal.returns
returns c =
    let E = c.args.search.now in
    let (path, was, complete) = c.requires in
    let (p, proves) = c.complete_is_proof.ensures E.gathered c.args.walk.now.instance (branch_of path) E.start E.budget complete in
    record { branch_path = path; tree = p; was = was; proves = proves; lines = λ q reads. c.in_ok-proof.ensures q reads }
