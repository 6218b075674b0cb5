-- A test whether two nodes are the same.
use Rattle.std.proofs.Common.{◌≡◌, ℕ, Bool, true, false, eqb, ◌&&◌, List, [], ◌∷◌, Option, Some, None, refl, ap}
use Rattle.std.proofs.lemmas.Bool.{and_from, and_parts, eq-eqb, eqb-true, false≢true}
use Rattle.st_model.specs.declared.branch.Branch.{Branch}
use Rattle.cut_packing.specs.declared.cut.Cut.{Cut}
use Rattle.cut_packing.specs.declared.packing.Packing.{Packing}
use Rattle.branching.specs.declared.node.Node.{Node}

module _ {X : Type 0} (test : X → X → Bool) where
  -- whether two lists are the same, where this tells of two elements
  abbrev pub same_list : List X → List X → Bool
  same_list [] [] = true
  same_list [] (y ∷ ys) = false
  same_list (x ∷ xs) [] = false
  same_list (x ∷ xs) (y ∷ ys) = test x y && same_list xs ys

  list_itself : ((x : X) → test x x ≡ true) → (xs : List X) → same_list xs xs ≡ true
  list_itself itself [] = refl
  list_itself itself (x ∷ xs) = and_from (test x x) (same_list xs xs) (itself x) (list_itself itself xs)

  list_is : ((x y : X) → test x y ≡ true → x ≡ y) → (xs ys : List X) → same_list xs ys ≡ true → xs ≡ ys
  list_is is [] [] h = refl
  list_is is [] (y ∷ ys) h = absurd (false≢true h)
  list_is is (x ∷ xs) [] h = absurd (false≢true h)
  list_is is (x ∷ xs) (y ∷ ys) h =
      let parts = and_parts (test x y) (same_list xs ys) h in
      rw (is x y parts.0, list_is is xs ys parts.1) refl

abbrev same_root : Option ℕ → Option ℕ → Bool
same_root None None = true
same_root None (Some b) = false
same_root (Some a) None = false
same_root (Some a) (Some b) = eqb a b

root_itself : (a : Option ℕ) → same_root a a ≡ true
root_itself None = refl
root_itself (Some a) = eq-eqb a a refl

root_is : (a b : Option ℕ) → same_root a b ≡ true → a ≡ b
root_is None None h = refl
root_is None (Some b) h = absurd (false≢true h)
root_is (Some a) None h = absurd (false≢true h)
root_is (Some a) (Some b) h = ap (λ c. Some c) (eqb-true a b h)

abbrev same_cut : Cut → Cut → Bool
same_cut c d = same_list eqb c.set d.set && (eqb c.q d.q && eqb c.y d.y)

set_itself : (xs : List ℕ) → same_list eqb xs xs ≡ true
set_itself xs = list_itself eqb (λ a. eq-eqb a a refl) xs

set_is : (xs ys : List ℕ) → same_list eqb xs ys ≡ true → xs ≡ ys
set_is xs ys h = list_is eqb eqb-true xs ys h

cut_itself : (c : Cut) → same_cut c c ≡ true
cut_itself c = and_from (same_list eqb c.set c.set) _ (set_itself c.set) (and_from (eqb c.q c.q) (eqb c.y c.y) (eq-eqb c.q c.q refl) (eq-eqb c.y c.y refl))

cut_is : (c d : Cut) → same_cut c d ≡ true → c ≡ d
cut_is c d h =
    let parts = and_parts (same_list eqb c.set d.set) (eqb c.q d.q && eqb c.y d.y) h in
    let numbers = and_parts (eqb c.q d.q) (eqb c.y d.y) parts.1 in
    made c.set d.set c.q d.q c.y d.y (set_is c.set d.set parts.0) (eqb-true c.q d.q numbers.0) (eqb-true c.y d.y numbers.1)
  where
    made : (s t : List ℕ) (q r y z : ℕ) → s ≡ t → q ≡ r → y ≡ z → ◌≡◌ {A = Cut} (record { set = s; q = q; y = y }) (record { set = t; q = r; y = z })
    made s t q r y z a b e = rw (a, b, e) refl

abbrev same_packing : Packing → Packing → Bool
same_packing P Q = same_root P.root Q.root && same_list same_cut P.cuts Q.cuts

packing_itself : (P : Packing) → same_packing P P ≡ true
packing_itself P = and_from (same_root P.root P.root) (same_list same_cut P.cuts P.cuts) (root_itself P.root) (list_itself same_cut cut_itself P.cuts)

packing_is : (P Q : Packing) → same_packing P Q ≡ true → P ≡ Q
packing_is P Q h =
    let parts = and_parts (same_root P.root Q.root) (same_list same_cut P.cuts Q.cuts) h in
    made P.root Q.root P.cuts Q.cuts (root_is P.root Q.root parts.0) (list_is same_cut cut_is P.cuts Q.cuts parts.1)
  where
    made : (a b : Option ℕ) (cs ds : List Cut) → a ≡ b → cs ≡ ds → ◌≡◌ {A = Packing} (record { root = a; cuts = cs }) (record { root = b; cuts = ds })
    made a b cs ds e f = rw (e, f) refl

abbrev same_pair : ℕ × ℕ → ℕ × ℕ → Bool
same_pair p q = eqb p.0 q.0 && eqb p.1 q.1

pairs_itself : (ps : List (ℕ × ℕ)) → same_list same_pair ps ps ≡ true
pairs_itself ps = list_itself same_pair (λ p. and_from (eqb p.0 p.0) (eqb p.1 p.1) (eq-eqb p.0 p.0 refl) (eq-eqb p.1 p.1 refl)) ps

pairs_is : (ps qs : List (ℕ × ℕ)) → same_list same_pair ps qs ≡ true → ps ≡ qs
pairs_is ps qs h = list_is same_pair pair_is ps qs h
  where
    pair_is : (p q : ℕ × ℕ) → same_pair p q ≡ true → p ≡ q
    pair_is p q e = let parts = and_parts (eqb p.0 q.0) (eqb p.1 q.1) e in made p.0 q.0 p.1 q.1 (eqb-true p.0 q.0 parts.0) (eqb-true p.1 q.1 parts.1)
      where
        made : (a b c d : ℕ) → a ≡ b → c ≡ d → ◌≡◌ {A = ℕ × ℕ} (a, c) (b, d)
        made a b c d e f = rw (e, f) refl

abbrev same_sides : Branch → Branch → Bool
same_sides B C = same_list eqb B.inside C.inside && same_list eqb B.outside C.outside

abbrev same_links : Branch → Branch → Bool
same_links B C = same_list same_pair B.must C.must && same_list same_pair B.barred C.barred

abbrev same_branch : Branch → Branch → Bool
same_branch B C = same_sides B C && same_links B C

branch_itself : (B : Branch) → same_branch B B ≡ true
branch_itself B =
    let sides = and_from (same_list eqb B.inside B.inside) (same_list eqb B.outside B.outside) (set_itself B.inside) (set_itself B.outside) in
    let links = and_from (same_list same_pair B.must B.must) (same_list same_pair B.barred B.barred) (pairs_itself B.must) (pairs_itself B.barred) in
    and_from (same_sides B B) (same_links B B) sides links

branch_is : (B C : Branch) → same_branch B C ≡ true → B ≡ C
branch_is B C h =
    let both = and_parts (same_sides B C) (same_links B C) h in
    let sides = and_parts (same_list eqb B.inside C.inside) (same_list eqb B.outside C.outside) both.0 in
    let links = and_parts (same_list same_pair B.must C.must) (same_list same_pair B.barred C.barred) both.1 in
    made B.inside C.inside B.outside C.outside B.must C.must B.barred C.barred
    (set_is B.inside C.inside sides.0) (set_is B.outside C.outside sides.1) (pairs_is B.must C.must links.0) (pairs_is B.barred C.barred links.1)
  where
    made : (a b c d : List ℕ) (p q r s : List (ℕ × ℕ)) → a ≡ b → c ≡ d → p ≡ q → r ≡ s
        → ◌≡◌ {A = Branch} (record { inside = a; outside = c; must = p; barred = r }) (record { inside = b; outside = d; must = q; barred = s })
    made a b c d p q r s e f g h = rw (e, f, g, h) refl

-- whether two nodes are the same
abbrev pub same_node : Node → Node → Bool
same_node N M = eqb N.id M.id && (same_branch N.branch M.branch && same_packing N.packing M.packing)

pub node_itself : (N : Node) → same_node N N ≡ true
node_itself N =
    and_from (eqb N.id N.id) (same_branch N.branch N.branch && same_packing N.packing N.packing) (eq-eqb N.id N.id refl)
    (and_from (same_branch N.branch N.branch) (same_packing N.packing N.packing) (branch_itself N.branch) (packing_itself N.packing))

pub node_is : (N M : Node) → same_node N M ≡ true → N ≡ M
node_is N M h =
    let parts = and_parts (eqb N.id M.id) (same_branch N.branch M.branch && same_packing N.packing M.packing) h in
    let both = and_parts (same_branch N.branch M.branch) (same_packing N.packing M.packing) parts.1 in
    made N.id M.id N.branch M.branch N.packing M.packing (eqb-true N.id M.id parts.0) (branch_is N.branch M.branch both.0) (packing_is N.packing M.packing both.1)
  where
    made : (a b : ℕ) (B C : Branch) (P Q : Packing) → a ≡ b → B ≡ C → P ≡ Q → ◌≡◌ {A = Node} (record { id = a; branch = B; packing = P }) (record { id = b; branch = C; packing = Q })
    made a b B C P Q e f g = rw (e, f, g) refl
