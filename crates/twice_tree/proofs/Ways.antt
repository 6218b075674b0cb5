-- Paths from terminals to the vertices of their cells, and trees that are laid out along them.
use Rattle.std.proofs.Common.{◌≡◌, ℕ, ◌+◌, ◌-◌, ◌^◌, ◌<◌, ◌≤◌, Bool, true, false, cond, ◌||◌, List, [], reverse, Option, Some, None, option_map, refl, sym, ap, subst, ◌∙◌, arith}
use Rattle.std.specs.Prelude.{◌==◌, IsTrue, unwrap_or}
use Rattle.st_model.specs.declared.link.Link.{Link}
use Rattle.st_model.specs.Lists.{has}
use Rattle.st_model.specs.Arborescence.{arc_cost}
use Rattle.st_model.specs.Network.{Network, IsVertex, is_required, link}
use Rattle.st_model.proofs.Distinct.{has-cons_head}
use Rattle.st_model.proofs.Marked.{has-push}
use Rattle.short_paths.specs.declared.laid.Laid.{Laid}
use Rattle.short_paths.specs.Laid.{IsLaid, spent}
use Rattle.short_paths.specs.Routes.{Route, IsRoute, route_of, source_of}
use Rattle.short_paths.specs.Walk.{first_of, path_cost}
use Rattle.short_paths.proofs.Turned.{path_cost-reverse, first_of-reverse, has-reverse}
use Rattle.twice_tree.specs.declared.cells.Cells.{Cells}
use Rattle.twice_tree.specs.Cells.{AreCells, far_in, terminal_of}
use Rattle.twice_tree.specs.Laying.{GoesTo}

-- a path from the terminal of a cell to a vertex, and back
pub record IsWay (links : List Link) (k v far : ℕ) (path : List ℕ) : Type 0 where
  pub begins : first_of path ≡ k
  pub turned : first_of (reverse path) ≡ v
  pub cost : path_cost links path ≡ Some far
  pub back : path_cost links (reverse path) ≡ Some far
  pub there : IsTrue (has path v)
  pub home : IsTrue (has (reverse path) k)

route_way : (links : List Link) (terminals : List ℕ) (limit v k : ℕ) (route : Route) → IsRoute links terminals limit v route → k ≡ first_of route.path → IsWay links k v route.cost route.path
route_way links terminals limit v k route is first =
    let begins = is.path.begins in
    let ends = is.path.ends in
    let source : k ≡ begins.0 = first ∙ ap first_of begins.3 in
    record {
      begins = sym first;
      turned = first_of-reverse route.path ends.0 v ends.1;
      cost = is.path.cost;
      back = path_cost-reverse links route.path route.cost is.path.cost;
      there = ap (λ (p : List ℕ). has p v) ends.1 ∙ (has-push ends.0 v v ∙ own (has ends.0 v) (v == v) (has-cons_head [] v v refl));
      home = has-reverse route.path k ∙ (ap (λ (p : List ℕ). has p k) begins.3 ∙ has-cons_head begins.1 begins.0 k source);
    }
  where
    own : (a b : Bool) → (b || false) ≡ true → (a || b) ≡ true
    own true b h = refl
    own false true h = refl
    own false false h = h

-- the path to a vertex that isn't its cell's terminal
pub way_to : (I : Network) (c : Cells) (v : ℕ) (path : List ℕ) → AreCells I c → IsVertex I.n v → (terminal_of I c.distances v ≡ v → ⊥) → Some path ≡ option_map (λ (r : Route). r.path) (route_of c.distances v)
    → IsWay I.links (terminal_of I c.distances v) v (far_in c.distances v) path
way_to I c v path cells vertex apart told = at (is_required I v) refl apart
  where
    by_route : (o : Option Route) → route_of c.distances v ≡ o → Some path ≡ option_map (λ (r : Route). r.path) o → IsWay I.links (source_of o) v (unwrap_or (option_map (λ (r : Route). r.cost) o) (2 ^ 64 - 1)) path
    by_route None is same = absurd (let clash : ⊥ = cc in clash)
    by_route (Some r) is same =
        let path_is : path ≡ r.path = cc in
        subst (λ (p : List ℕ). IsWay I.links (first_of r.path) v r.cost p) (sym path_is) (route_way I.links cells.terminals (2 ^ 64 - 1) v (first_of r.path) r (cells.routes.reached v r vertex is) refl)

    at : (b : Bool) → is_required I v ≡ b → (cond b v (source_of (route_of c.distances v)) ≡ v → ⊥) → IsWay I.links (cond b v (source_of (route_of c.distances v))) v (far_in c.distances v) path
    at true is differs = absurd (differs refl)
    at false is differs = by_route (route_of c.distances v) refl told

-- where there is no path, the vertex is further than any number of 64 bits
pub none_is_far : (routes : List (Option Route)) (v : ℕ) → ◌≡◌ {A = Option (List ℕ)} None (option_map (λ (r : Route). r.path) (route_of routes v)) → far_in routes v < 2 ^ 64 - 1 → ⊥
none_is_far routes v told near = at (route_of routes v) told near
  where
    at : (o : Option Route) → ◌≡◌ {A = Option (List ℕ)} None (option_map (λ (r : Route). r.path) o) → unwrap_or (option_map (λ (r : Route). r.cost) o) (2 ^ 64 - 1) < 2 ^ 64 - 1 → ⊥
    at None same low = omega (arith, low)
    at (Some r) same low = let clash : ⊥ = cc in clash

-- ---- trees that are laid out

-- along a path
pub goes_along : (I : Network) (old new : Laid) (path : List ℕ) (v cost : ℕ) → IsLaid I new → ((u : ℕ) → has new.reached.members u ≡ (has old.reached.members u || has path u)) → ((c : ℕ) → path_cost I.links path ≡ Some c → spent I new ≤ spent I old + c)
    → path_cost I.links path ≡ Some cost → IsTrue (has path v) → GoesTo I old new v cost
goes_along I old new path v cost laid reached cheap is there = record {
  laid = laid;
  keeps = λ u was. reached u ∙ rw was refl;
  there = reached v ∙ either (has old.reached.members v) (has path v) there;
  cheap = cheap cost is;
}
  where
    either : (a b : Bool) → b ≡ true → (a || b) ≡ true
    either true b h = refl
    either false b h = h

-- nowhere
pub goes_nowhere : (I : Network) (laid : Laid) (k v cost : ℕ) → IsLaid I laid → IsTrue (has laid.reached.members k) → k ≡ v → GoesTo I laid laid v cost
goes_nowhere I laid k v cost is there same = record {
  laid = is;
  keeps = λ u was. was;
  there = subst (λ (w : ℕ). IsTrue (has laid.reached.members w)) same there;
  cheap = omega arith;
}

-- by a link
pub goes_by : (I : Network) (old new : Laid) (u v cost : ℕ) → IsLaid I new → ((w : ℕ) → has new.reached.members w ≡ (has old.reached.members w || (v == w))) → spent I new ≤ spent I old + arc_cost I (u, v) → link I.links u v ≡ Some cost → GoesTo I old new v cost
goes_by I old new u v cost laid reached cheap linked = record {
  laid = laid;
  keeps = λ w was. reached w ∙ rw was refl;
  there = reached v ∙ own (has old.reached.members v) (v == v) (has-cons_head [] v v refl);
  cheap = (let arc : arc_cost I (u, v) ≡ cost = ap (λ (o : Option ℕ). unwrap_or o 0) linked in omega (arith, cheap, arc));
}
  where
    own : (a b : Bool) → (b || false) ≡ true → (a || b) ≡ true
    own true b h = refl
    own false true h = refl
    own false false h = h

-- and on
pub goes_on : (I : Network) (old mid new : Laid) (u v a b : ℕ) → GoesTo I old mid u a → GoesTo I mid new v b → GoesTo I old new v (a + b)
goes_on I old mid new u v a b first second = record {
  laid = second.laid;
  keeps = λ w was. second.keeps w (first.keeps w was);
  there = second.there;
  cheap = (let low = first.cheap in let high = second.cheap in omega (arith, low, high));
}
