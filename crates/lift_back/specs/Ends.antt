-- Where the links of a vertex lead.
use Rattle.std.specs.Prelude.{◌≢◌, ℕ, IsTrue, IsSome, List, [], ◌∷◌}
use Rattle.st_model.specs.declared.link.Link.{Link}
use Rattle.st_model.specs.Lists.{has}
use Rattle.st_model.specs.Network.{link}
use Rattle.lift_back.specs.declared.ends.Ends.{Ends}
use Rattle.lift_back.specs.declared.ends.Ends.TheVariants.{Nobody, One, Two, More}

-- whoever is linked with v is listed
abbrev pub AreCovered : List Link → ℕ → List ℕ → Type 0
AreCovered links v row = (w : ℕ) → IsSome (link links v w) → IsTrue (has row w)

-- v is linked with three different vertices
pub record HasThree (links : List Link) (v a b c : ℕ) : Type 0 where
  pub first : IsSome (link links v a)
  pub second : IsSome (link links v b)
  pub third : IsSome (link links v c)
  pub apart : (a ≢ b) × (a ≢ c) × (b ≢ c)

-- these are the ends of the links of v, each once
abbrev pub HasEnds : List Link → ℕ → Ends → Type 0
HasEnds links v Nobody = AreCovered links v []
HasEnds links v (One u) = IsSome (link links v u) × AreCovered links v (u ∷ [])
HasEnds links v (Two a b) = (a ≢ b) × IsSome (link links v a) × IsSome (link links v b) × AreCovered links v (a ∷ b ∷ [])
HasEnds links v More = (a : ℕ) × (b : ℕ) × (c : ℕ) × HasThree links v a b c
