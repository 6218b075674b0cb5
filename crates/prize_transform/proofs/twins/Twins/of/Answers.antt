use Rattle.std.proofs.Common.{◌≡◌, ℕ, ◌+◌, ◌∙◌, [], ◌∷◌, length, get_or, sym, ap, refl, subst, arith}
use Rattle.std.proofs.lemmas.List.{length_push}
use Rattle.prize_transform.specs.Twins.{prize_in, numbered_from}
use Rattle.prize_transform.proofs.Prized.{ends_next, left_next, left_all, few_prized, length-numbered, prized_to, prize_at_none, made_twins}
use Rattle.prize_transform.proofs.twins.Twins.of.Goals as goal

pub loop-before-init : goal.loop-before-init
loop-before-init c =
    rw c.in_ok-left.ensures.items (record {
      ends = c.new-ends.ensures.items;
      count = refl;
      left = λ v low. let e : 0 ≡ v = omega (arith, low) in subst (λ (w : ℕ). get_or (0 ∷ []) w 0 ≡ prize_in c.args.arcs.now w) e (sym (prize_at_none c.args.arcs.now c.vertices-vertices.ensures.digraph));
    })

pub push_end-requires : goal.push_end-requires
push_end-requires c =
    let D = c.args.arcs.now in
    let few = few_prized D c.loop-before.before in
    let long : length c.loop-before.ends.items ≡ length (prized_to D c.loop-before.before) = ap length c.loop-before.invariant.ends ∙ length-numbered (D.n + 1) (prized_to D c.loop-before.before) in
    omega (arith, few, long, c.loop-before-test.true, c.vertices-vertices.ensures.count, c.vertices-vertices.ensures.digraph.few_vertices)

pub loop-before-preserved : goal.loop-before-preserved
loop-before-preserved c =
    let D = c.args.arcs.now in
    let next = ends_next D (D.n + 1) c.loop-before.before c.prize_of-prize.result c.loop-before.ends.items c.prize_of-prize.ensures c.loop-before.invariant.ends in
    record {
      ends = c.in_ok-push_end.ensures ∙ rw c.vertices-vertices.ensures.count next;
      count = rw c.in_ok-push.ensures.items (length_push c.loop-before.left.items c.prize_of-prize.result ∙ ap (λ (k : ℕ). k + 1) c.loop-before.invariant.count);
      left = rw c.in_ok-push.ensures.items (left_next D c.loop-before.left.items c.loop-before.before c.prize_of-prize.result c.loop-before.invariant.count c.prize_of-prize.ensures c.loop-before.invariant.left);
    }

pub invariant_of-result : goal.invariant_of-result
invariant_of-result c =
    let D = c.args.arcs.now in
    let h = c.vertices-vertices.ensures.digraph in
    let end : c.loop-before.before ≡ D.n = omega (arith, c.loop-before.auto.before-end, c.loop-before-test.false, c.vertices-vertices.ensures.count) in
    let ends : c.loop-before.ends.items ≡ numbered_from (D.n + 1) (prized_to D D.n) = c.loop-before.invariant.ends ∙ ap (λ (k : ℕ). numbered_from (D.n + 1) (prized_to D k)) end in
    let long : length c.loop-before.left.items ≡ D.n + 1 = c.loop-before.invariant.count ∙ ap (λ (k : ℕ). k + 1) end in
    rw c.vertices-vertices.ensures.count (made_twins D c.loop-before.ends.items c.loop-before.left.items h ends long (left_all D c.loop-before.left.items c.loop-before.before h c.loop-before.invariant.count end c.loop-before.invariant.left))
