use Rattle.std.proofs.Common.{false, true, ◌≡◌, arith}
use Rattle.log_format.specs.Accepts.{left_over}
use Rattle.log_format.proofs.AllTrees.{left_over-branch}
use Rattle.search_core.specs.Complete.{waiting}
use Rattle.certificate_log.proofs.Certifying.{IsReady, assembled, left_over-apart, small_sum, tree_of}
use Rattle.certificate_log.proofs.Lowest.{lowest-top, lowest_is, splits_fit, waiting_branches}
use Rattle.certificate_log.proofs.assembling.assemble.Goals as goal

pub proof_lines-requires-clause-tree : goal.proof_lines-requires-clause-tree
proof_lines-requires-clause-tree c =
    let s = c.args.reduced.now.state in
    let (start, budget, complete) = c.requires.complete in
    tree_of c.complete_is_proof.ensures c.complete_counts.ensures c.args.gathered.now s.instance (left_over s) start budget (left_over-apart s) complete

pub unreachable-requires : goal.unreachable-requires
unreachable-requires c =
    let s = c.args.reduced.now.state in
    let (start, budget, complete) = c.requires.complete in
    let (p, proves) = c.complete_is_proof.ensures c.args.gathered.now s.instance (left_over s) start budget complete in
    let some : false ≡ true = c.in_default.ensures.one.1 (p, c.in_ok-lines.ensures p proves.read) in
    cc

pub overflow_add-primal : goal.overflow_add-primal
overflow_add-primal c =
    let o = c.offset-offset.ensures in
    omega (arith, o.offset, small_sum c.args.reduced.now.state c.args.tree.now c.args.gathered.now.least o.state c.requires.tree c.requires.cost)

pub bound_of-requires : goal.bound_of-requires
bound_of-requires c =
    let s = c.args.reduced.now.state in
    let (start, budget, complete) = c.requires.complete in
    rw c.in_ok-rest.ensures.instance (waiting_branches c.args.gathered.now s.instance (left_over s) start budget complete c.offset-offset.ensures.state.instance (left_over-branch s c.offset-offset.ensures.state.gone))

pub overflow_add-dual : goal.overflow_add-dual
overflow_add-dual c =
    let o = c.offset-offset.ensures in
    let small = small_sum c.args.reduced.now.state c.args.tree.now c.args.gathered.now.least o.state c.requires.tree c.requires.cost in
    let low = lowest-top c.in_ok-rest.rest c.args.gathered.now.least (waiting c.args.gathered.now) in
    omega (arith, o.offset, c.bound_of.ensures, small, low)

pub returns : goal.returns
returns c =
    let steps = c.args.steps.items in
    let first = c.args.reduced.now.first in
    let s = c.args.reduced.now.state in
    let G = c.args.gathered.now in
    let o = c.offset-offset.ensures in
    let (start, budget, complete) = c.requires.complete in
    let (p, proves) = c.complete_is_proof.ensures G s.instance (left_over s) start budget complete in
    let h : IsReady steps first s G c.args.tree.now c.in_ok-tree.tree c.in_ok-lines.lines.items p = record {
      instance = c.requires.instance;
      applies = c.requires.applies;
      steps_fit = c.requires.steps;
      few_steps = omega (arith, c.len.ensures, c.len.type_inv);
      is_state = o.state;
      is_left = c.requires.tree;
      is_least = c.requires.cost;
      is_tree = c.in_ok-tree.ensures.tree;
      is_cost = c.in_ok-tree.ensures.cost;
      writable = c.requires.writable;
      splits = splits_fit G s.instance (left_over s) start budget complete o.state.instance;
      lines_are = c.in_ok-lines.ensures p proves.read;
      proves = proves;
      is_lowest = lowest_is G s.instance (left_over s) start budget complete p proves.read;
      counts = c.complete_counts.ensures;
      few = c.complete_is_few.ensures;
      few_with_links = c.complete_is_few_with_links.ensures;
    } in
    rw (c.of-2.ensures, o.offset, c.bound_of.ensures, c.in_ok-rest.ensures.instance, c.in-Some.ensures.lines) (assembled steps first s G c.args.tree.now c.in_ok-tree.tree c.in_ok-lines.lines.items p h)
