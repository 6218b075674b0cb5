-- The network that stated arcs and terminals make is a directed network.
use Rattle.std.proofs.Common.{◌≡◌, ℕ, zero, suc, ◌+◌, ◌^◌, ◌<◌, ◌≤◌, min, Bool, true, false, not, cond, eqb, List, [], ◌∷◌, ◌++◌, unwrap_or, refl, sym, subst, ◌∙◌, arith, add-one}
use Rattle.std.specs.Prelude.{filter, All, AllPairs, IsFalse}
use Rattle.std.specs.List.{AllByRecursion}
use Rattle.std.proofs.lemmas.List.{append-nil}
use Rattle.std.proofs.lemmas.List.Elements.{All-filter, All-cons, All-nil, recursion_from_All, filter-append}
use Rattle.std.proofs.lemmas.List.Kept.{AllPairs-filter, AllPairs-cons}
use Rattle.st_model.specs.declared.link.Link.{Link}
use Rattle.st_model.specs.Branch.{AreThose}
use Rattle.st_model.specs.Lists.{has, total, up_to}
use Rattle.st_model.specs.Network.{IsVertex}
use Rattle.st_model.proofs.Booleans.{same_test}
use Rattle.st_model.proofs.Branches.{IsVertexSet-member}
use Rattle.st_model.proofs.Marked.{at_member}
use Rattle.st_model.proofs.Sums.{total_filter_le}
use Rattle.st_model.proofs.Those.{AreThose-none, AreThose-push, AreThose-skip}
use Rattle.arborescence.specs.DiNetwork.{IsDiNetwork, IsArcBetween, leads, arc_from}
use Rattle.arborescence.specs.Stated.{merged_arcs, stated_terminals, di_network_of}
use Rattle.arborescence.specs.Steps.{at_cost}
use Rattle.arborescence.proofs.Merging.{other_pair, merged_loop, merged_next}

-- whatever holds of the first arc of each pair holds of all that are merged
merged_ends : (n : ℕ) (ls : List Link) → AllByRecursion (λ l. IsVertex n l.a × IsVertex n l.b) ls → All (IsArcBetween n) (merged_arcs ls)
merged_ends n [] h = All-nil _
merged_ends n (x ∷ ls) h = by_case (eqb x.a x.b) refl (merged_ends n ls h.1)
  where
    by_case : (b : Bool) → eqb x.a x.b ≡ b → All (IsArcBetween n) (merged_arcs ls) → All (IsArcBetween n) (merged_arcs (x ∷ ls))
    by_case true loop rest = rw (merged_loop x ls loop) rest
    by_case false different rest =
        let front : IsArcBetween n (at_cost x (min x.cost (unwrap_or (arc_from (merged_arcs ls) x.a x.b) x.cost))) = record { tail = h.0.0; head = h.0.1; apart = different } in
        rw (merged_next x ls different) (All-cons (IsArcBetween n) _ _ front (All-filter (other_pair x) (IsArcBetween n) (merged_arcs ls) rest))

-- what is left beside the first arc is of other pairs
apart : (x : Link) (ms : List Link) (c : ℕ) → All (λ m. IsFalse (leads m (at_cost x c).a (at_cost x c).b)) (filter (other_pair x) ms)
apart x [] c = All-nil _
apart x (m ∷ ms) c = by_case (leads m x.a x.b) refl (apart x ms c)
  where
    by_case : (b : Bool) → leads m x.a x.b ≡ b → All (λ m. IsFalse (leads m (at_cost x c).a (at_cost x c).b)) (filter (other_pair x) ms) → All (λ m. IsFalse (leads m (at_cost x c).a (at_cost x c).b)) (cond (not b) (m ∷ filter (other_pair x) ms) (filter (other_pair x) ms))
    by_case true is rest = rest
    by_case false is rest = All-cons (λ m. IsFalse (leads m (at_cost x c).a (at_cost x c).b)) _ _ is rest

merged_once : (ls : List Link) → AllPairs (λ l m. IsFalse (leads m l.a l.b)) (merged_arcs ls)
merged_once [] = λ i j d before within. absurd (omega arith)
merged_once (x ∷ ls) = by_case (eqb x.a x.b) refl (merged_once ls)
  where
    by_case : (b : Bool) → eqb x.a x.b ≡ b → AllPairs (λ l m. IsFalse (leads m l.a l.b)) (merged_arcs ls) → AllPairs (λ l m. IsFalse (leads m l.a l.b)) (merged_arcs (x ∷ ls))
    by_case true loop rest = rw (merged_loop x ls loop) rest
    by_case false different rest = rw (merged_next x ls different) (AllPairs-cons (λ l m. IsFalse (leads m l.a l.b)) _ _ (apart x (merged_arcs ls) (min x.cost (unwrap_or (arc_from (merged_arcs ls) x.a x.b) x.cost))) (AllPairs-filter (λ l m. IsFalse (leads m l.a l.b)) (other_pair x) (merged_arcs ls) rest))

merged_costs : (ls : List Link) → total (λ l. l.cost) (merged_arcs ls) ≤ total (λ l. l.cost) ls
merged_costs [] = omega arith
merged_costs (x ∷ ls) = by_case (eqb x.a x.b) refl (merged_costs ls)
  where
    by_case : (b : Bool) → eqb x.a x.b ≡ b → total (λ l. l.cost) (merged_arcs ls) ≤ total (λ l. l.cost) ls → total (λ l. l.cost) (merged_arcs (x ∷ ls)) ≤ x.cost + total (λ l. l.cost) ls
    by_case true loop rest = rw (merged_loop x ls loop) (omega arith)
    by_case false different rest = rw (merged_next x ls different) (grind (arith, total_filter_le (λ (l : Link). l.cost) (other_pair x) (merged_arcs ls)))

-- one vertex more, last
pub those_more : (test : ℕ → Bool) (n : ℕ) → filter test (up_to (n + 1)) ≡ cond (test (n + 1)) (filter test (up_to n) ++ (n + 1) ∷ []) (filter test (up_to n))
those_more test n = rw (add-one n, filter-append test (up_to n) (suc n ∷ [])) (by_case (test (suc n)))
  where
    by_case : (b : Bool) → filter test (up_to n) ++ cond b (suc n ∷ []) [] ≡ cond b (filter test (up_to n) ++ suc n ∷ []) (filter test (up_to n))
    by_case true = refl
    by_case false = append-nil (filter test (up_to n))

-- those that pass a test are those
pub those_up_to : (test : ℕ → Bool) (n : ℕ) → AreThose test n (filter test (up_to n))
those_up_to test zero = AreThose-none test
those_up_to test (suc n) = subst (λ m. AreThose test m (filter test (up_to m))) (add-one n) (rw (those_more test n) (by_case (test (n + 1)) refl (those_up_to test n)))
  where
    by_case : (b : Bool) → test (n + 1) ≡ b → AreThose test n (filter test (up_to n)) → AreThose test (n + 1) (cond b (filter test (up_to n) ++ (n + 1) ∷ []) (filter test (up_to n)))
    by_case true passes are = AreThose-push test n (filter test (up_to n)) are passes
    by_case false fails are = AreThose-skip test n (filter test (up_to n)) are fails

-- the same pass two tests that agree on the vertices
pub those_same : (test other : ℕ → Bool) (n : ℕ) → ((v : ℕ) → v < n + 1 → test v ≡ other v) → filter test (up_to n) ≡ filter other (up_to n)
those_same test other zero same = refl
those_same test other (suc n) same = subst (λ m. filter test (up_to m) ≡ filter other (up_to m)) (add-one n) (those_more test n ∙ rw (those_same test other n (λ v below. same v (omega arith)), same (n + 1) (omega arith)) (sym (those_more other n)))

-- what is stated and is a vertex is a terminal, and nothing else
pub stated_member : (stated : List ℕ) (n v : ℕ) → AllByRecursion (IsVertex n) stated → has (stated_terminals stated n) v ≡ has stated v
stated_member stated n v all =
    let are = those_up_to (λ w. has stated w) n in
    same_test (has (stated_terminals stated n) v) (has stated v) (λ there. sym (are.same v (IsVertexSet-member n (stated_terminals stated n) v are.set there)) ∙ there) (λ there. are.same v (at_member (IsVertex n) stated v all there) ∙ there)

pub is_di_network : (n root : ℕ) (arcs : List Link) (terminals : List ℕ) → n ≤ 1000000 → IsVertex n root → All (λ l. IsVertex n l.a × IsVertex n l.b) arcs → total (λ l. l.cost) arcs < 2 ^ 63 → IsDiNetwork (di_network_of n root arcs terminals)
is_di_network n root arcs terminals few vertex ends fits = record {
  few_vertices = few;
  root = vertex;
  ends = merged_ends n arcs (recursion_from_All _ arcs ends);
  one_each = merged_once arcs;
  terminals = (those_up_to (λ v. has terminals v) n).set;
  amount = omega (arith, merged_costs arcs);
}
