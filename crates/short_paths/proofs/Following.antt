-- What routes give to who follows their paths.
use Rattle.std.proofs.Common.{◌≡◌, ℕ, zero, suc, ◌-◌, List, ◌∷◌, length, map, get_or, Contains, Option, Some, None, IsSome, is_some, option_map, refl, sym, ap, subst, arith}
use Rattle.std.proofs.lemmas.List.{get_or-map}
use Rattle.st_model.specs.declared.link.Link.{Link}
use Rattle.st_model.specs.Network.{IsVertex}
use Rattle.short_paths.specs.Routes.{Route, route_of, source_of, AreRoutes}
use Rattle.short_paths.specs.Walk.{path_cost, first_of, IsDistance, IsPath}

-- what is read of a vertex is a path of its distance
pub path_read : (links : List Link) (n : ℕ) (sources : List ℕ) (limit : ℕ) (routes : List (Option Route)) (v : ℕ) (path : List ℕ) → AreRoutes links n sources limit routes → IsVertex n v → Some path ≡ option_map (λ (r : Route). r.path) (route_of routes v) → (c : ℕ) × IsPath links sources path v c × IsDistance links sources v c
path_read links n sources limit routes v path are range read = by_case (route_of routes v) refl read
  where
    by_case : (o : Option Route) → route_of routes v ≡ o → Some path ≡ option_map (λ (r : Route). r.path) o → (c : ℕ) × IsPath links sources path v c × IsDistance links sources v c
    by_case None is told = absurd (let clash : ⊥ = cc in clash)
    by_case (Some route) is told =
        let same : path ≡ route.path = cc in
        let found = are.reached v route range is in
        (route.cost, subst (λ (p : List ℕ). IsPath links sources p v route.cost) (sym same) found.path, found.distance)

-- all of a path is linked
pub path_linked : (links : List Link) (sources path : List ℕ) (v c : ℕ) → IsPath links sources path v c → IsSome (path_cost links path)
path_linked links sources path v c is = ap is_some is.cost

-- and it begins with a source
pub path_from : (links : List Link) (sources path : List ℕ) (v c : ℕ) → IsPath links sources path v c → Contains sources (first_of path)
path_from links sources path v c is = subst (λ (p : List ℕ). Contains sources (first_of p)) (sym is.begins.3) is.begins.2

-- what stands at a vertex among the sources of all routes is what its route begins with
pub source_at : (routes : List (Option Route)) (found : List ℕ) (v : ℕ) → found ≡ 0 ∷ map source_of routes → IsVertex (length routes) v → get_or found v 0 ≡ source_of (route_of routes v)
source_at routes found zero is range = absurd (omega (arith, range.0))
source_at routes found (suc k) is range =
    let place : suc k - 1 ≡ k = omega arith in
    rw (is, place) (get_or-map source_of routes k None 0 (omega (arith, range.1)))
