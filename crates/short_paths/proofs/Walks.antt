-- Paths that grow at their ends.
use Rattle.std.proofs.Common.{◌≡◌, ℕ, ◌+◌, List, [], ◌∷◌, ◌++◌, Contains, Option, Some, None, option_map, refl, sym, ap, ◌∙◌, arith}
use Rattle.std.specs.Option.{option_and_then}
use Rattle.st_model.specs.declared.link.Link.{Link}
use Rattle.std.specs.Prelude.{IsFalse}
use Rattle.st_model.specs.Lists.{has}
use Rattle.st_model.specs.Network.{link}
use Rattle.st_model.proofs.Marked.{AllApart-push}
use Rattle.short_paths.specs.Walk.{cost_along, path_cost, IsPath}

-- the last of some vertices
abbrev pub last_of : ℕ → List ℕ → ℕ
last_of u [] = u
last_of u (v ∷ rest) = last_of v rest

-- what is said of the end says which one it is
last_is : (front rest : List ℕ) (s v : ℕ) → s ∷ rest ≡ front ++ v ∷ [] → last_of s rest ≡ v
last_is [] [] s v e = cc
last_is [] (x ∷ rest) s v e = absurd (let clash : ⊥ = cc in clash)
last_is (f ∷ []) [] s v e = absurd (let tails : [] ≡ v ∷ [] = cc in let clash : ⊥ = cc in clash)
last_is (f ∷ g ∷ front) [] s v e = absurd (let clash : ⊥ = cc in clash)
last_is (f ∷ front) (x ∷ rest) s v e = last_is front rest x v (let tails : x ∷ rest ≡ front ++ v ∷ [] = cc in tails)

-- what one more vertex costs
pub along_more : (links : List Link) (u : ℕ) (rest : List ℕ) (c d w : ℕ) → cost_along links u rest ≡ Some c → link links (last_of u rest) w ≡ Some d → cost_along links u (rest ++ w ∷ []) ≡ Some (c + d)
along_more links u [] c d w at next =
    let zero_is : 0 ≡ c = cc in
    let sum : d + 0 ≡ c + d = omega arith in
    ap (option_and_then (λ c. option_map (λ d. c + d) (Some 0))) next ∙ ap Some sum
along_more links u (v ∷ rest) c d w at next = by_first (link links u v) (cost_along links v rest) refl (λ y is. along_more links v rest y d w is next) refl at
  where
    by_first : (o p : Option ℕ) → link links u v ≡ o → ((y : ℕ) → cost_along links v rest ≡ Some y → cost_along links v (rest ++ w ∷ []) ≡ Some (y + d)) → cost_along links v rest ≡ p → option_and_then (λ c. option_map (λ d. c + d) (cost_along links v rest)) (link links u v) ≡ Some c → option_and_then (λ c. option_map (λ d. c + d) (cost_along links v (rest ++ w ∷ []))) (link links u v) ≡ Some (c + d)
    by_first None p first more along h = absurd (let none : option_and_then (λ c. option_map (λ d. c + d) (cost_along links v rest)) (link links u v) ≡ None = ap (option_and_then (λ c. option_map (λ d. c + d) (cost_along links v rest))) first in let clash : ⊥ = cc in clash)
    by_first (Some x) None first more along h = absurd (let none : option_and_then (λ c. option_map (λ d. c + d) (cost_along links v rest)) (link links u v) ≡ None = rw (first, along) refl in let clash : ⊥ = cc in clash)
    by_first (Some x) (Some y) first more along h =
        let old : option_and_then (λ c. option_map (λ d. c + d) (cost_along links v rest)) (link links u v) ≡ Some (x + y) = rw (first, along) refl in
        let cost : x + y ≡ c = cc in
        let sum : x + (y + d) ≡ c + d = omega arith in
        rw (first, more y along) (ap Some sum)

-- a source is a path to itself
pub IsPath-one : (links : List Link) (sources : List ℕ) (v : ℕ) → Contains sources v → IsPath links sources (v ∷ []) v 0
IsPath-one links sources v at = record { begins = (v, [], at, refl); ends = ([], refl); once = (refl, tt); cost = refl }

-- a path goes on by a link from its end
pub IsPath-push : (links : List Link) (sources path : List ℕ) (v w c d : ℕ) → IsPath links sources path v c → link links v w ≡ Some d → IsFalse (has path w) → IsPath links sources (path ++ w ∷ []) w (c + d)
IsPath-push links sources path v w c d is next apart =
    let s = is.begins.0 in
    let rest = is.begins.1 in
    let path_is : path ≡ s ∷ rest = is.begins.3 in
    let last = last_is is.ends.0 rest s v (sym path_is ∙ is.ends.1) in
    let along : cost_along links s rest ≡ Some c = ap (path_cost links) (sym path_is) ∙ is.cost in
    record {
      begins = (s, rest ++ w ∷ [], is.begins.2, ap (λ p. p ++ w ∷ []) path_is);
      ends = (path, refl);
      once = AllApart-push path w is.once apart;
      cost = ap (λ p. path_cost links (p ++ w ∷ [])) path_is ∙ along_more links s rest c d w along (ap (λ x. link links x w) last ∙ next);
    }
