-- A tree that is laid out along a path, vertex by vertex.
use Rattle.std.proofs.Common.{◌≡◌, ℕ, ◌+◌, ◌-◌, ◌<◌, ◌≤◌, Bool, true, false, ◌||◌, List, [], ◌∷◌, length, take, drop, get_or, Option, Some, None, IsSome, option_map, refl, sym, ap, subst, ◌∙◌, arith}
use Rattle.std.specs.Prelude.{◌==◌, IsTrue, unwrap_or}
use Rattle.std.specs.Option.{option_and_then}
use Rattle.std.proofs.Math.Bool.{or_assoc}
use Rattle.std.proofs.lemmas.Bool.{eqb-true, or_left, or_right}
use Rattle.std.proofs.lemmas.List.{take_all, drop_more, get_or-take, length-take}
use Rattle.st_model.specs.declared.link.Link.{Link}
use Rattle.st_model.specs.Arborescence.{arc_cost}
use Rattle.st_model.specs.Lists.{has}
use Rattle.st_model.specs.Network.{Network, link}
use Rattle.st_model.proofs.Marked.{has_at, has_more}
use Rattle.short_paths.specs.declared.laid.Laid.{Laid}
use Rattle.short_paths.specs.Laid.{IsLaid, spent}
use Rattle.short_paths.specs.Walk.{cost_along, path_cost, first_of}

-- what the path costs from the vertex before a place on
abbrev pub rest_cost : List Link → List ℕ → ℕ → Option ℕ
rest_cost links path place = cost_along links (get_or path (place - 1) 0) (drop place path)

-- a tree has gone along the vertices of a path that come before a place
pub record HasGone (I : Network) (path : List ℕ) (place : ℕ) (old new : Laid) : Type 0 where
  pub laid : IsLaid I new
  pub start : new.start ≡ old.start
  pub some : 1 ≤ place
  pub reached : (v : ℕ) → has new.reached.members v ≡ (has old.reached.members v || has (take place path) v)
  pub linked : IsSome (rest_cost I.links path place)
  pub cost : spent I new + unwrap_or (rest_cost I.links path place) 0 ≤ spent I old + unwrap_or (path_cost I.links path) 0

-- the first vertex is reached before anything is gone along
pub HasGone-start : (I : Network) (path : List ℕ) (l : Laid) → IsLaid I l → IsTrue (has l.reached.members (first_of path)) → IsSome (path_cost I.links path) → HasGone I path 1 l l
HasGone-start I [] l laid from linked = cc
HasGone-start I (u ∷ rest) l laid from linked = record { laid = laid; start = refl; some = omega arith; reached = λ v. by_case v (u == v) refl; linked = linked; cost = omega arith }
  where
    nothing_more : (b : Bool) → b ≡ (b || false)
    nothing_more true = refl
    nothing_more false = refl

    by_case : (v : ℕ) (b : Bool) → (u == v) ≡ b → has l.reached.members v ≡ (has l.reached.members v || (b || false))
    by_case v true is =
        let there : has l.reached.members v ≡ true = subst (λ (w : ℕ). IsTrue (has l.reached.members w)) (eqb-true u v is) from in
        there ∙ sym (or_left (has l.reached.members v) (true || false) there)
    by_case v false is = nothing_more (has l.reached.members v)

-- where what is to come is linked, so is the next one, and it costs its link and what comes then
along_one : (links : List Link) (u v : ℕ) (rest : List ℕ) → IsSome (cost_along links u (v ∷ rest)) → IsSome (link links u v) × IsSome (cost_along links v rest) × (unwrap_or (cost_along links u (v ∷ rest)) 0 ≡ unwrap_or (link links u v) 0 + unwrap_or (cost_along links v rest) 0)
along_one links u v rest some = by_case (link links u v) (cost_along links v rest) some
  where
    by_case : (o p : Option ℕ) → IsSome (option_and_then (λ c. option_map (λ d. c + d) p) o) → IsSome o × IsSome p × (unwrap_or (option_and_then (λ c. option_map (λ d. c + d) p) o) 0 ≡ unwrap_or o 0 + unwrap_or p 0)
    by_case None p some = cc
    by_case (Some c) None some = cc
    by_case (Some c) (Some d) some = (refl, refl, refl)

module _ (I : Network) (path : List ℕ) (place : ℕ) (old new : Laid) (within : place < length path) (gone : HasGone I path place old new) where
  abbrev before : ℕ
  before = get_or path (place - 1) 0

  abbrev here : ℕ
  here = get_or path place 0

  next : IsSome (link I.links before here) × IsSome (cost_along I.links here (drop (place + 1) path)) × (unwrap_or (rest_cost I.links path place) 0 ≡ arc_cost I (before, here) + unwrap_or (cost_along I.links here (drop (place + 1) path)) 0)
  next = rw (drop_more path place 0 within) (along_one I.links before here (drop (place + 1) path) (rw (drop_more path place 0 within) at gone.linked))

  -- the next two vertices are linked
  pub next_linked : IsSome (link I.links before here)
  next_linked = next.0

  -- and the first of them is reached
  pub before_reached : IsTrue (has new.reached.members before)
  before_reached =
      let some = gone.some in
      let inside : place - 1 < length (take place path) = let long = length-take place path in omega arith in
      let at = has_at (take place path) (place - 1) 0 inside in
      let same = get_or-take place path (place - 1) 0 (omega arith) in
      gone.reached before ∙ or_right (has old.reached.members before) (has (take place path) before) (subst (λ (w : ℕ). IsTrue (has (take place path) w)) same at)

  -- one vertex further
  pub HasGone-next : (after : Laid) → IsLaid I after → after.start ≡ new.start → ((v : ℕ) → has after.reached.members v ≡ (has new.reached.members v || (here == v))) → spent I after ≤ spent I new + arc_cost I (before, here) → HasGone I path (place + 1) old after
  HasGone-next after laid start more spends =
      let same : place + 1 - 1 ≡ place = omega arith in
      let cost = gone.cost in
      let sum = next.2 in
      record {
        laid = laid;
        start = start ∙ gone.start;
        some = omega arith;
        reached = λ v. more v ∙ (ap (λ b. b || (here == v)) (gone.reached v) ∙ (or_assoc (has old.reached.members v) (has (take place path) v) (here == v) ∙ ap (λ b. has old.reached.members v || b) (sym (has_more path place v within))));
        linked = rw same next.1;
        cost = rw same (omega (arith, cost, sum, spends));
      }

-- at its end all of the path is reached, at no more than its cost
pub HasGone-end : (I : Network) (path : List ℕ) (place : ℕ) (old new : Laid) → length path ≤ place → HasGone I path place old new → (v : ℕ) → has new.reached.members v ≡ (has old.reached.members v || has path v)
HasGone-end I path place old new past gone v = gone.reached v ∙ ap (λ xs. has old.reached.members v || has xs v) (take_all place path past)

pub HasGone-cost : (I : Network) (path : List ℕ) (place : ℕ) (old new : Laid) → HasGone I path place old new → (c : ℕ) → path_cost I.links path ≡ Some c → spent I new ≤ spent I old + c
HasGone-cost I path place old new gone c is =
    let cost = gone.cost in
    let whole : unwrap_or (path_cost I.links path) 0 ≡ c = ap (λ (o : Option ℕ). unwrap_or o 0) is in
    omega (arith, cost, whole)
