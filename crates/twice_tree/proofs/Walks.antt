-- Walks there and back.
use Rattle.std.proofs.Common.{◌≡◌, ℕ, ◌+◌, List, Some, subst, ◌∙◌, arith}
use Rattle.st_model.specs.declared.link.Link.{Link}
use Rattle.st_model.specs.Network.{link}
use Rattle.st_model.proofs.Distinct.{link-comm}
use Rattle.short_paths.specs.Walk.{IsWalk, stay, on}

-- one walk after another
pub walks_on : (links : List Link) (u x y a b : ℕ) → IsWalk links u x a → IsWalk links x y b → IsWalk links u y (a + b)
walks_on links u x y a b first stay = subst (IsWalk links u x) (omega arith) first
walks_on links u x y a b first (on {v} {w} {c} {d} rest step) = subst (IsWalk links u w) (omega arith) (on (walks_on links u x v a c first rest) step)

-- a walk back
pub walks_back : (links : List Link) (u x a : ℕ) → IsWalk links u x a → IsWalk links x u a
walks_back links u x a stay = stay
walks_back links u x a (on {v} {w} {c} {d} rest step) =
    let turned : link links w v ≡ Some d = link-comm links w v ∙ step in
    let back : IsWalk links w v d = subst (IsWalk links w v) (omega arith) (on stay turned) in
    subst (IsWalk links w u) (omega arith) (walks_on links w v u d c back (walks_back links u v c rest))
