-- The arcs that trees of a branch may use, listed, and what grows along listed arcs. Helpers' clauses cite this, and no public one.
use Rattle.std.specs.Prelude.{◌≡◌, ℕ, ◌+◌, ◌<◌, ◌↔◌, IsTrue, IsFalse, IsSome, List, [], ◌∷◌, length, All, ⊤}
use Rattle.st_model.specs.declared.branch.Branch.{Branch}
use Rattle.st_model.specs.Arborescence.{reached_from}
use Rattle.st_model.specs.Branch.{is_present, open_price}
use Rattle.st_model.specs.Ground.{Ground}
use Rattle.st_model.specs.Led.{heads_at}
use Rattle.st_model.specs.Lists.{has}
use Rattle.arborescence.specs.declared.spreading.Spread.{Spread}

-- an arc between present vertices that isn't barred
pub record IsOpenIn (G : Ground) (B : Branch) (u v : ℕ) : Type 0 where
  pub tail : IsTrue (is_present B u)
  pub head : IsTrue (is_present B v)
  pub price : IsSome (open_price G B u v)

-- at each vertex the heads of the open arcs from it, and no others
pub record AreOpenIn (G : Ground) (B : Branch) (heads : List (List ℕ)) : Type 0 where
  pub count : length heads ≡ G.n + 1
  pub in_range : (u : ℕ) → All (λ v. v < length heads) (heads_at heads u)
  pub exact : (u v : ℕ) → IsTrue (has (heads_at heads u) v) ↔ IsOpenIn G B u v

-- each arc in turn leads from a vertex that is reached to a head that is listed there and isn't reached
abbrev pub GrowsAlong : List (List ℕ) → List ℕ → List (ℕ × ℕ) → Type 0
GrowsAlong heads r [] = ⊤
GrowsAlong heads r ((u, v) ∷ arcs) = IsTrue (has (heads_at heads u) v) × IsTrue (has r u) × IsFalse (has r v) × GrowsAlong heads (v ∷ r) arcs

-- arcs along listed heads, and all that they reach from a root
pub record IsSpread (heads : List (List ℕ)) (root : ℕ) (s : Spread) : Type 0 where
  pub grows : GrowsAlong heads (root ∷ []) s.arcs.items
  pub same : (v : ℕ) → has s.reached.members v ≡ has (reached_from (root ∷ []) s.arcs.items) v
  pub count : s.reached.count ≡ length heads
