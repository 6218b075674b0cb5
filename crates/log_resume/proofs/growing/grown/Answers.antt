use Rattle.std.proofs.Common.{◌≡◌, ◌<◌, ◌^◌, ◌+◌, ◌++◌, List, [], ◌∷◌, Some, drop, take, length, sym, ap, ◌∙◌, subst, arith}
use Rattle.std.proofs.lemmas.List.{drop_all, take_all, take_more}
use Rattle.st_model.specs.Network.{Network}
use Rattle.cut_packing.specs.ProofTree.{ProofTree, Proves}
use Rattle.log_format.specs.declared.proof_line.ProofLine.{ProofLine}
use Rattle.log_format.specs.Accepts.{left_over}
use Rattle.log_format.specs.Preorder.{preorder}
use Rattle.cert_checker.specs.Path.{leaving_out}
use Rattle.certificate_log.proofs.Proved.{one_proof}
use Rattle.log_resume.specs.Growing.{Growth, growth}
use Rattle.log_resume.specs.Lines.{standing}
use Rattle.log_resume.specs.Open.{Opened}
use Rattle.log_resume.proofs.Grown.{IsGrowingOf, after_line, begins, ends, ready}
use Rattle.log_resume.proofs.Weighing.{next_line}
use Rattle.log_resume.proofs.growing.grown.Goals as goal

pub loop-place-init : goal.loop-place-init
loop-place-init c = record {
  front = c.of-growing.ensures.front;
  grows = λ p is.
      let s = c.args.reduced.now.state in
      let lines = c.lines-lines.result.now in
      let searches = c.args.searches.now in
      let top = c.args.top in
      let all = c.lines-lines.ensures.all in
      let (q, x, written, proves) = c.requires.proves in
      let proves_p = subst (λ (r : ProofTree). Proves s.instance (left_over s) x r) (one_proof q p (sym written ∙ (sym all ∙ is))) proves in
      let few : length (preorder p) < 2 ^ 64 = let same = ap length is in let fits = c.if-prove.false in omega arith in
      let start = c.in_ok-walk.ensures.start ∙ ap (λ (I : Network). (let o : Opened = record { instance = I; path = Some (leaving_out s.gone) } in o)) c.in_ok-rest.ensures.instance in
      let first = c.of-growing.ensures.growth ∙ ap (λ (o : Opened). (let g : Growth = record { instance = o.instance; path = o.path; searches = searches; number = 0; lines = []; least = top } in g)) start in
      subst (IsGrowingOf s.instance searches (leaving_out s.gone) top (preorder p) (growth c.of-growing.result)) (sym is)
      (begins s c.in_ok-walk.ensures.state searches top p x (growth c.of-growing.result) proves_p (c.requires.searches p (sym all ∙ is)) few first);
}

pub after-requires-clause-front : goal.after-requires-clause-front
after-requires-clause-front c =
    let lines = c.lines-lines.result.now in
    let i = c.loop-place.place in
    let l = c.index-lines-place.result in
    let next : take (i + 1) lines ≡ take i lines ++ l ∷ [] = take_more lines i l c.loop-place-test.true ∙ ap (λ (m : ProofLine). take i lines ++ m ∷ []) (sym c.index-lines-place.is) in
    next ∙ ap (λ (ls : List ProofLine). ls ++ l ∷ []) (sym c.loop-place.invariant.front)

pub after-requires-clause-ready : goal.after-requires-clause-ready
after-requires-clause-ready c =
    let s = c.args.reduced.now.state in
    let lines = c.lines-lines.result.now in
    let i = c.loop-place.place in
    let l = c.index-lines-place.result in
    let g = growth c.loop-place.growing in
    let (q, x, written, proves) = c.requires.proves in
    let growing = subst (IsGrowingOf s.instance c.args.searches.now (leaving_out s.gone) c.args.top (preorder q) g) (next_line lines i l c.loop-place-test.true c.index-lines-place.is) (c.loop-place.invariant.grows q (c.lines-lines.ensures.all ∙ written)) in
    ready s.instance c.args.searches.now (leaving_out s.gone) c.args.top (preorder q) g l (drop (i + 1) lines) growing

pub after-requires-clause-room : goal.after-requires-clause-room
after-requires-clause-room c =
    let s = c.args.reduced.now.state in
    let lines = c.lines-lines.result.now in
    let i = c.loop-place.place in
    let l = c.index-lines-place.result in
    let g = growth c.loop-place.growing in
    let (q, x, written, proves) = c.requires.proves in
    let growing = subst (IsGrowingOf s.instance c.args.searches.now (leaving_out s.gone) c.args.top (preorder q) g) (next_line lines i l c.loop-place-test.true c.index-lines-place.is) (c.loop-place.invariant.grows q (c.lines-lines.ensures.all ∙ written)) in
    let room : g.number + length (l ∷ drop (i + 1) lines) < 2 ^ 64 = growing.growing.room in
    omega (arith, room)

pub loop-place-preserved : goal.loop-place-preserved
loop-place-preserved c = record {
  front = c.in_ok-growing.ensures.front;
  grows = λ p is.
      let s = c.args.reduced.now.state in
      let lines = c.lines-lines.result.now in
      let i = c.loop-place.place in
      let l = c.index-lines-place.result in
      let g = growth c.loop-place.growing in
      let growing = subst (IsGrowingOf s.instance c.args.searches.now (leaving_out s.gone) c.args.top (preorder p) g) (next_line lines i l c.loop-place-test.true c.index-lines-place.is) (c.loop-place.invariant.grows p is) in
      after_line s.instance c.args.searches.now (leaving_out s.gone) c.args.top (preorder p) g l (drop (i + 1) lines) (growth c.in_ok-growing.growing) growing c.in_ok-growing.ensures.goes;
}

pub returns : goal.returns
returns c = λ p is.
    let s = c.args.reduced.now.state in
    let lines = c.lines-lines.result.now in
    let i = c.loop-place.place in
    let g = growth c.loop-place.growing in
    let all = c.lines-lines.ensures.all in
    let growing = subst (IsGrowingOf s.instance c.args.searches.now (leaving_out s.gone) c.args.top (preorder p) g) (drop_all i lines c.loop-place-test.false) (c.loop-place.invariant.grows p (all ∙ is)) in
    let front : c.loop-place.growing.written.front ≡ c.args.proof.now = c.loop-place.invariant.front ∙ (take_all i lines c.loop-place-test.false ∙ all) in
    let same : standing c.args.proof.now c.grown.result.lines ≡ g.lines = ap (λ (ls : List ProofLine). standing ls c.grown.result.lines) (sym front) ∙ c.grown.ensures.lines in
    ends s c.in_ok-walk.ensures.state c.args.searches.now c.args.top p g (standing c.args.proof.now c.grown.result.lines) c.grown.result.least growing same c.grown.ensures.least
