-- How far vertices are from the nearest terminals, and which these are.
use Rattle.std.proofs.Common.{◌≡◌, ℕ, zero, suc, ◌-◌, ◌^◌, ◌<◌, ◌≤◌, Bool, true, false, cond, List, ◌∷◌, length, map, get_or, Contains, Option, Some, None, option_map, refl, sym, ap, subst, ◌∙◌, is_some, arith}
use Rattle.std.specs.Prelude.{unwrap_or}
use Rattle.std.proofs.lemmas.List.{get_or-map}
use Rattle.st_model.specs.Branch.{AreThose}
use Rattle.st_model.specs.Network.{Network, IsInstance, IsVertex, is_required}
use Rattle.st_model.specs.Terminals.{IsTerminal}
use Rattle.st_model.proofs.Branches.{IsVertexSet-member}
use Rattle.st_model.proofs.Members.{Contains-from_has, has-from_Contains}
use Rattle.st_model.proofs.ThinGrowth.{linked-vertices}
use Rattle.short_paths.specs.Routes.{Route, AreRoutes, IsRoute, route_of, source_of}
use Rattle.short_paths.specs.Walk.{IsWalk, stay, on, first_of}
use Rattle.twice_tree.specs.declared.cells.Cells.{Cells}
use Rattle.twice_tree.specs.Cells.{AreCells, far_in, terminal_of}

-- a walk from a vertex ends at a vertex
pub walk_vertex : (I : Network) (p y c : ℕ) → IsInstance I → IsVertex I.n p → IsWalk I.links p y c → IsVertex I.n y
walk_vertex I p y c instance vertex stay = vertex
walk_vertex I p y c instance vertex (on {v} {w} {c = b} {d} way step) = (linked-vertices I v w instance (ap is_some step)).1

-- by vertex the source of its route
pub source_told : (sources : List ℕ) (routes : List (Option Route)) (n v : ℕ) → sources ≡ 0 ∷ map source_of routes → length routes ≡ n → IsVertex n v → get_or sources v 0 ≡ source_of (route_of routes v)
source_told sources routes n zero is long vertex = absurd (let low = vertex.0 in omega arith)
source_told sources routes n (suc k) is long vertex =
    let high = vertex.1 in
    let same : suc k - 1 ≡ k = omega arith in
    ap (λ (xs : List ℕ). get_or xs (suc k) 0) is ∙ (get_or-map source_of routes k None 0 (omega (arith, high, long)) ∙ ap (λ (j : ℕ). source_of (get_or routes j None)) (sym same))

module _ (I : Network) (terminals : List ℕ) (those : AreThose (is_required I) I.n terminals) where
  pub terminal_listed : (v : ℕ) → IsTerminal I v → Contains terminals v
  terminal_listed v t = Contains-from_has terminals v (those.same v t.vertex ∙ t.required)

  pub listed_terminal : (v : ℕ) → Contains terminals v → IsTerminal I v
  listed_terminal v there =
      let member = has-from_Contains terminals v there in
      let vertex = IsVertexSet-member I.n terminals v those.set member in
      record { vertex = vertex; required = sym (those.same v vertex) ∙ member }

-- a route begins with a terminal
pub source_terminal : (I : Network) (terminals : List ℕ) (limit v : ℕ) (route : Route) → AreThose (is_required I) I.n terminals → IsRoute I.links terminals limit v route → IsTerminal I (first_of route.path)
source_terminal I terminals limit v route those is =
    let begins = is.path.begins in
    subst (IsTerminal I) (sym (ap first_of begins.3)) (listed_terminal I terminals those begins.0 begins.2)

-- what a vertex is far is at most what a walk from a terminal costs
pub far_near : (I : Network) (c : Cells) (p y cost : ℕ) → AreCells I c → IsInstance I → IsTerminal I p → IsWalk I.links p y cost → far_in c.distances y ≤ cost
far_near I c p y cost cells instance terminal walk = at (route_of c.distances y) refl
  where
    vertex : IsVertex I.n y
    vertex = walk_vertex I p y cost instance terminal.vertex walk

    listed : Contains cells.terminals p
    listed = terminal_listed I cells.terminals cells.those p terminal

    at : (o : Option Route) → route_of c.distances y ≡ o → unwrap_or (option_map (λ (r : Route). r.cost) o) (2 ^ 64 - 1) ≤ cost
    at None is = let past = cells.routes.beyond y vertex is p cost listed walk in omega (arith, past)
    at (Some r) is = (cells.routes.reached y r vertex is).distance.least p cost listed walk

-- a terminal is in a cell of its own
pub terminal_own : (I : Network) (routes : List (Option Route)) (v : ℕ) → IsTerminal I v → terminal_of I routes v ≡ v
terminal_own I routes v terminal = rw (terminal.required) refl

-- the terminal of a cell is one, wherever a route leads there
pub cell_terminal : (I : Network) (c : Cells) (v : ℕ) → AreCells I c → IsVertex I.n v → far_in c.distances v < 2 ^ 64 - 1 → IsTerminal I (terminal_of I c.distances v)
cell_terminal I c v cells vertex near = at (is_required I v) refl
  where
    by_route : (o : Option Route) → route_of c.distances v ≡ o → unwrap_or (option_map (λ (r : Route). r.cost) o) (2 ^ 64 - 1) < 2 ^ 64 - 1 → IsTerminal I (source_of o)
    by_route None is low = absurd (omega (arith, low))
    by_route (Some r) is low = source_terminal I cells.terminals (2 ^ 64 - 1) v r cells.those (cells.routes.reached v r vertex is)

    at : (b : Bool) → is_required I v ≡ b → IsTerminal I (cond b v (source_of (route_of c.distances v)))
    at true is = record { vertex = vertex; required = is }
    at false is = by_route (route_of c.distances v) refl near

-- it is at most the last vertex in any case
pub cell_range : (I : Network) (terminals : List ℕ) (routes : List (Option Route)) (limit v : ℕ) → AreThose (is_required I) I.n terminals → AreRoutes I.links I.n terminals limit routes → IsVertex I.n v → terminal_of I routes v ≤ I.n
cell_range I terminals routes limit v those are vertex = at (is_required I v) refl
  where
    by_route : (o : Option Route) → route_of routes v ≡ o → source_of o ≤ I.n
    by_route None none = omega arith
    by_route (Some r) some = (source_terminal I terminals limit v r those (are.reached v r vertex some)).vertex.1

    at : (b : Bool) → is_required I v ≡ b → cond b v (source_of (route_of routes v)) ≤ I.n
    at true required = vertex.1
    at false required = by_route (route_of routes v) refl
