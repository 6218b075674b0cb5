use Rattle.std.proofs.Common.{◌≡◌, ℕ, ◌≤◌, refl, subst, arith}
use Rattle.std.specs.Prelude.{All}
use Rattle.st_model.specs.Lists.{has}
use Rattle.st_model.specs.Network.{IsVertex}
use Rattle.cert_checker.proofs.Walls.{is_wall_from, uncrossed_wall}
use Rattle.cert_checker.proofs.wall.is_wall.Goals as goal

pub returns : goal.returns
returns c =
    let I = c.args.instance.now in
    let wall = c.args.wall.now in
    let set = c.in_ok-set.set.members in
    let same : (v : ℕ) → v ≤ I.n → has set v ≡ has wall v = λ v low. c.in_ok-set.ensures.members v (omega (arith, c.vertices-2.ensures.count)) in
    (λ yes. is_wall_from I wall set c.vertices.ensures.instance same (subst (λ (n : ℕ). All (IsVertex n) wall) c.vertices.ensures.count (c.if-not-are_vertices.ensures.0 refl)) c.if-not-has_required.ensures.some c.if-not-has_required-2.ensures.some (c.is_uncrossed.ensures.0 yes), λ is_wall. c.is_uncrossed.ensures.1 (uncrossed_wall I wall set c.vertices.ensures.instance same is_wall))
