-- What a set tells of walls of a directed network.
use Rattle.std.proofs.Common.{◌≡◌, ℕ, ◌≤◌, Bool, true, false, cond, List, [], ◌∷◌, Option, Some, refl, sym, subst, ◌∙◌, arith, eq-eqb}
use Rattle.std.specs.Prelude.{◌==◌, IsTrue, IsFalse, IsSome, All}
use Rattle.std.specs.List.{AllByRecursion}
use Rattle.std.proofs.lemmas.Bool.{both_ways, or_left, or_right}
use Rattle.std.proofs.lemmas.Bool.Decides.{nat_tests}
use Rattle.std.proofs.lemmas.List.Elements.{recursion_from_All, All-from_recursion}
use Rattle.st_model.specs.declared.link.Link.{Link}
use Rattle.st_model.specs.Lists.{has}
use Rattle.st_model.specs.Network.{IsVertex}
use Rattle.st_model.proofs.Branches.{IsVertexSet-member}
use Rattle.st_model.proofs.Marked.{at_member}
use Rattle.arborescence.specs.DiNetwork.{DiNetwork, IsArcBetween, IsDiNetwork, arc_from, leads}
use Rattle.arborescence.specs.DiWall.{IsDiWall}
use Rattle.arborescence.proofs.Putting.{arc_ends}

-- the arc leads between its own ends
leads_itself : (l : Link) → leads l l.a l.b ≡ true
leads_itself l = grind (arith, nat_tests)

-- what holds of the ends of each pair from one of which an arc leads to the other holds of each arc
of_arcs : (Q : ℕ → ℕ → Type 0) (ls : List Link) → ((u v : ℕ) → IsSome (arc_from ls u v) → Q u v) → AllByRecursion (λ l. Q l.a l.b) ls
of_arcs Q [] of_pairs = tt
of_arcs Q (l ∷ ls) of_pairs = (of_pairs l.a l.b (here (leads l l.a l.b) (leads_itself l)), of_arcs Q ls (λ u v led. of_pairs u v (more (leads l u v) (arc_from ls u v) led)))
  where
    here : (b : Bool) → b ≡ true → IsSome (cond b (Some l.cost) (arc_from ls l.a l.b))
    here true e = refl
    here false e = absurd cc

    more : (b : Bool) (o : Option ℕ) → IsSome o → IsSome (cond b (Some l.cost) o)
    more true o some = refl
    more false o some = some

-- of vertices of which not all are in a set one isn't
one_missing : (f : ℕ → Bool) (xs : List ℕ) → (AllByRecursion (λ v. IsTrue (f v)) xs → ⊥) → (v : ℕ) × IsTrue (has xs v) × IsFalse (f v)
one_missing f [] not_all = absurd (not_all tt)
one_missing f (x ∷ xs) not_all = by_first (f x) refl (λ e. one_missing f xs (λ all. not_all (e, all)))
  where
    by_first : (b : Bool) → f x ≡ b → (IsTrue (f x) → (v : ℕ) × IsTrue (has xs v) × IsFalse (f v)) → (v : ℕ) × IsTrue (has (x ∷ xs) v) × IsFalse (f v)
    by_first false e others = (x, or_left (x == x) (has xs x) (eq-eqb x x refl), e)
    by_first true e others = let (v, there, out) = others e in (v, or_right (x == v) (has xs v) there, out)

module _ (D : DiNetwork) (wall set : List ℕ) (network : IsDiNetwork D) (same : (v : ℕ) → v ≤ D.n → has set v ≡ has wall v) where
  terminal_vertex : (v : ℕ) → IsTrue (has D.terminals v) → IsVertex D.n v
  terminal_vertex v there = IsVertexSet-member D.n D.terminals v network.terminals there

  -- an arc that doesn't leave the set doesn't leave the wall, and the other way round
  of_set : (ls : List Link) → AllByRecursion (IsArcBetween D.n) ls → AllByRecursion (λ l. IsTrue (has set l.a) → IsTrue (has set l.b)) ls → AllByRecursion (λ l. IsTrue (has wall l.a) → IsTrue (has wall l.b)) ls
  of_set [] ends h = tt
  of_set (l ∷ ls) ends h = (λ inside. sym (same l.b ends.0.head.1) ∙ h.0 (same l.a ends.0.tail.1 ∙ inside), of_set ls ends.1 h.1)

  to_set : (ls : List Link) → AllByRecursion (IsArcBetween D.n) ls → AllByRecursion (λ l. IsTrue (has wall l.a) → IsTrue (has wall l.b)) ls → AllByRecursion (λ l. IsTrue (has set l.a) → IsTrue (has set l.b)) ls
  to_set [] ends h = tt
  to_set (l ∷ ls) ends h = (λ inside. same l.b ends.0.head.1 ∙ h.0 (sym (same l.a ends.0.tail.1) ∙ inside), to_set ls ends.1 h.1)

  ends : AllByRecursion (IsArcBetween D.n) D.arcs
  ends = recursion_from_All (IsArcBetween D.n) D.arcs network.ends

  -- a wall holds the root
  pub root_inside : IsDiWall D wall → IsTrue (has set D.root)
  root_inside is_wall = same D.root network.root.1 ∙ is_wall.root

  -- and not all terminals
  pub misses_some : IsDiWall D wall → All (λ v. IsTrue (has set v)) D.terminals → ⊥
  misses_some is_wall all =
      let (v, there, out) = is_wall.outside in
      let inside : IsTrue (has set v) = at_member (λ w. IsTrue (has set w)) D.terminals v (recursion_from_All (λ w. IsTrue (has set w)) D.terminals all) there in
      both_ways (has wall v) out (sym (same v (terminal_vertex v there).1) ∙ inside)

  -- and no arc leaves it
  pub unleft_set : IsDiWall D wall → All (λ l. IsTrue (has set l.a) → IsTrue (has set l.b)) D.arcs
  unleft_set is_wall = All-from_recursion (λ l. IsTrue (has set l.a) → IsTrue (has set l.b)) D.arcs (to_set D.arcs ends (of_arcs (λ u v. IsTrue (has wall u) → IsTrue (has wall v)) D.arcs is_wall.unleft))

  -- these make a wall
  pub di_wall_from : All (IsVertex D.n) wall → IsTrue (has set D.root) → (All (λ v. IsTrue (has set v)) D.terminals → ⊥) → All (λ l. IsTrue (has set l.a) → IsTrue (has set l.b)) D.arcs → IsDiWall D wall
  di_wall_from in_range root not_all unleft =
      let (v, there, out) = one_missing (has set) D.terminals (λ all. not_all (All-from_recursion (λ w. IsTrue (has set w)) D.terminals all)) in
      record {
        in_range = in_range;
        root = sym (same D.root network.root.1) ∙ root;
        outside = (v, there, sym (same v (terminal_vertex v there).1) ∙ out);
        unleft = λ u w. arc_ends (λ a b. IsTrue (has wall a) → IsTrue (has wall b)) D.arcs u w (of_set D.arcs ends (recursion_from_All (λ l. IsTrue (has set l.a) → IsTrue (has set l.b)) D.arcs unleft));
      }
