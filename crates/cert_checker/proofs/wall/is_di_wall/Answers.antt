use Rattle.std.proofs.Common.{◌≡◌, ℕ, ◌≤◌, refl, sym, ap, subst, ◌∙◌, arith}
use Rattle.std.specs.Prelude.{All}
use Rattle.std.proofs.lemmas.Bool.{both_ways, false≢true}
use Rattle.st_model.specs.Lists.{has}
use Rattle.st_model.specs.Network.{IsVertex}
use Rattle.cert_checker.proofs.DiWalls.{di_wall_from, misses_some, root_inside, unleft_set}
use Rattle.cert_checker.proofs.wall.is_di_wall.Goals as goal

pub returns-then-not-contains : goal.returns-then-not-contains
returns-then-not-contains c =
    let D = c.args.instance.now in
    let wall = c.args.wall.now in
    let set = c.in_ok-set.set.members in
    let same : (v : ℕ) → v ≤ D.n → has set v ≡ has wall v = λ v low. c.in_ok-set.ensures.members v (omega (arith, c.vertices-2.ensures.count)) in
    let told : c.contains.result ≡ has set D.root = c.contains.ensures ∙ ap (has set) c.root.ensures.root in
    (λ no. absurd (false≢true no), λ is_wall. absurd (both_ways (has set D.root) (sym told ∙ c.if-not-contains.true) (root_inside D wall set c.vertices.ensures.instance same is_wall)))

pub returns-then-holds_all : goal.returns-then-holds_all
returns-then-holds_all c =
    let D = c.args.instance.now in
    let wall = c.args.wall.now in
    let set = c.in_ok-set.set.members in
    let same : (v : ℕ) → v ≤ D.n → has set v ≡ has wall v = λ v low. c.in_ok-set.ensures.members v (omega (arith, c.vertices-2.ensures.count)) in
    (λ no. absurd (false≢true no), λ is_wall. absurd (misses_some D wall set c.vertices.ensures.instance same is_wall (rw c.terminals.ensures.all at (c.holds_all.ensures.0 c.if-holds_all.true))))

pub returns : goal.returns
returns c =
    let D = c.args.instance.now in
    let wall = c.args.wall.now in
    let set = c.in_ok-set.set.members in
    let same : (v : ℕ) → v ≤ D.n → has set v ≡ has wall v = λ v low. c.in_ok-set.ensures.members v (omega (arith, c.vertices-2.ensures.count)) in
    let told : c.contains.result ≡ has set D.root = c.contains.ensures ∙ ap (has set) c.root.ensures.root in
    (λ yes. di_wall_from D wall set c.vertices.ensures.instance same (subst (λ (n : ℕ). All (IsVertex n) wall) c.vertices.ensures.count (c.if-not-are_vertices.ensures.0 refl)) (sym told ∙ c.if-not-contains.false) (λ all. both_ways c.holds_all.result c.if-holds_all.false (c.holds_all.ensures.1 (rw c.terminals.ensures.all all))) (c.is_unleft.ensures.0 yes), λ is_wall. c.is_unleft.ensures.1 (unleft_set D wall set c.vertices.ensures.instance same is_wall))
