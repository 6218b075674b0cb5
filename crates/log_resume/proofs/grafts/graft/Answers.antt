use Rattle.std.proofs.Common.{◌≡◌, sym, ◌∙◌, subst, arith}
use Rattle.cut_packing.specs.ProofTree.{ProofTree}
use Rattle.log_format.specs.Accepts.{left_over}
use Rattle.search_core.specs.ReadOff.{least_weight}
use Rattle.certificate_log.proofs.Proved.{one_proof}
use Rattle.log_resume.specs.Closes.{closes_of}
use Rattle.log_resume.specs.Grafted.{AreSearchesOf}
use Rattle.log_resume.specs.Lines.{standing}
use Rattle.log_resume.proofs.Certifying.{IsGrownOver, assembled, same_found, small_dual}
use Rattle.log_resume.proofs.grafts.graft.Goals as goal

pub grown-requires-clause-searches : goal.grown-requires-clause-searches
grown-requires-clause-searches c = λ p written.
    let s = c.args.reduced.now.state in
    let (steps, q, is, applies) = c.requires.proof in
    let parts = same_found _ _ _ _ _ _ _ _ _ _ (sym c.in-Found.is ∙ is.claims) in
    let same : q ≡ p = one_proof q p (sym is.lines ∙ (sym parts.1 ∙ written)) in
    subst (λ (r : ProofTree). AreSearchesOf s.instance (closes_of (left_over s) r) c.args.searches.now) same (c.requires.searches steps q is)

pub overflow_add-written : goal.overflow_add-written
overflow_add-written c =
    let s = c.args.reduced.now.state in
    let (steps, q, is, applies) = c.requires.proof in
    let parts = same_found _ _ _ _ _ _ _ _ _ _ (sym c.in-Found.is ∙ is.claims) in
    let grown = c.in_ok-written.ensures q (parts.1 ∙ is.lines) in
    let o = c.offset-offset.ensures in
    let small = small_dual c.args.reduced.now.first s c.args.tree c.args.primal c.in_ok-written.written.least (least_weight s.instance (left_over s) grown.after) c.requires.instance o.state c.requires.tree c.requires.cost grown.is_least in
    omega (arith, small, o.offset)

pub standing-proof-requires : goal.standing-proof-requires
standing-proof-requires c =
    let (steps, q, is, applies) = c.requires.proof in
    let parts = same_found _ _ _ _ _ _ _ _ _ _ (sym c.in-Found.is ∙ is.claims) in
    let grown = c.in_ok-written.ensures q (parts.1 ∙ is.lines) in
    (grown.after, grown.lines)

pub returns : goal.returns
returns c =
    let s = c.args.reduced.now.state in
    let first = c.args.reduced.now.first in
    let w = c.in_ok-written.written in
    let (steps, q, is, applies) = c.requires.proof in
    let parts = same_found _ _ _ _ _ _ _ _ _ _ (sym c.in-Found.is ∙ is.claims) in
    let o = c.offset-offset.ensures in
    let lines = standing c.in-Found.proof w.lines in
    let h : IsGrownOver first s c.args.log c.args.tree c.args.primal c.args.searches.now steps q lines w.least = record {
      instance = c.requires.instance;
      is_log = c.requires.log;
      old_proof = is;
      applies = applies;
      is_state = o.state;
      is_tree = c.requires.tree;
      is_cost = c.requires.cost;
      are = c.requires.searches steps q is;
      sites = c.requires.sites;
      has_grown = c.in_ok-written.ensures q (parts.1 ∙ is.lines);
      law = c.grafted_proves.ensures;
    } in
    rw (c.min-dual.ensures, o.offset, c.standing-proof.ensures, parts.0) (assembled first s c.args.log c.args.tree c.args.primal c.args.searches.now steps q lines w.least h)
