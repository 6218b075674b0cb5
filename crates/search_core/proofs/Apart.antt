-- No node stands twice in a tree that is read off: the halves of a split have branches that no node has both of.
use Rattle.std.proofs.Common.{◌≡◌, ℕ, ◌≤◌, true, ◌||◌, List, [], ◌∷◌, ◌++◌, map, refl, sym, ◌∙◌, subst, arith, inl, inr}
use Rattle.std.specs.Prelude.{◌==◌, Contains, All, ◌⊎◌}
use Rattle.std.proofs.lemmas.Bool.{or_left, or_right, or_cases, eqb-true, eq-eqb, both_ways, not-true}
use Rattle.std.proofs.lemmas.List.Elements.{All-contains, All-weaker}
use Rattle.st_model.specs.declared.split_at.SplitAt.{SplitAt}
use Rattle.st_model.specs.declared.split_at.SplitAt.TheVariants.{Vertex, Link}
use Rattle.st_model.specs.declared.branch.Branch.{Branch}
use Rattle.st_model.specs.Branch.{is_present, is_undecided, joined, with_vertex, yes_half, no_half}
use Rattle.st_model.specs.Lists.{has}
use Rattle.st_model.specs.Made.{is_between, has_pair}
use Rattle.st_model.specs.Network.{Network}
use Rattle.st_model.proofs.Branches.{undecided_parts}
use Rattle.st_model.proofs.Halves.{has-both, has-with_vertex}
use Rattle.st_model.proofs.Pairs.{apart_from, has_pair-push, own}
use Rattle.cut_packing.specs.declared.packing.Packing.{Packing}
use Rattle.cut_packing.specs.Packing.{weight}
use Rattle.cut_packing.specs.ProofTree.{ProofTree, IsSplitAt}
use Rattle.branching.specs.declared.node.Node.{Node}
use Rattle.search_core.specs.declared.done.Done.{Done}
use Rattle.search_core.specs.declared.done.Done.TheVariants.{Split, Close}
use Rattle.search_core.specs.declared.gathered.Gathered.{Gathered}
use Rattle.search_core.specs.Complete.{IsComplete, IsMade, root, inside_of, outside_of, IsRightRecord, IsRightNode, IsRightSegment, records, waiting, done_id, standing_ids, times}
use Rattle.search_core.specs.ReadOff.{SidesAreApart, IsReadOff, closed, waits, was_split}
use Rattle.search_core.proofs.Ids.{one_branch}
use Rattle.search_core.proofs.Times.{times-cases, times-either, times-single, times-single_le, times-node_le, at_id, All-flat_map}
use Rattle.search_core.proofs.TreeIds.{ids_of}

-- a record is right, beside what its worker saw
abbrev pub IsRight : Network → Branch → ℕ → Gathered → Done → Type 0
IsRight I R start G d = (seen : ℕ) × (G.least ≤ seen) × IsRightRecord I R start (records G) seen d

pub right_records : (G : Gathered) (I : Network) (R : Branch) (start budget : ℕ) → IsComplete G I R start budget → All (IsRight I R start G) (records G)
right_records G I R start budget complete =
    All-flat_map (IsRight I R start G) (λ s. s.done) G.segments
    (All-weaker (IsRightSegment I R start G.least (records G)) (λ s. All (IsRight I R start G) s.done)
    (λ s right. All-weaker (IsRightRecord I R start (records G) s.seen) (IsRight I R start G) (λ d is. (s.seen, right.seen, is)) s.done right.records)
    G.segments complete.segments)

-- a node was made under the id
abbrev pub WasMade : Branch → Gathered → ℕ → Type 0
WasMade R G id = (B : Branch) × IsMade R (records G) id B

right_made : (I : Network) (R : Branch) (start : ℕ) (G : Gathered) (d : Done) → IsRight I R start G d → WasMade R G (done_id d)
right_made I R start G (Split id at i o P) (seen, low, (B, right)) = (B, right.made)
right_made I R start G (Close id P) (seen, low, (B, right)) = (B, right.made)

-- who was split or closed or waits was made
pub standing_made : (G : Gathered) (I : Network) (R : Branch) (start budget : ℕ) → IsComplete G I R start budget → (x : ℕ) → 1 ≤ times x (standing_ids G) → WasMade R G x
standing_made G I R start budget complete x h =
    elim (times-either x (map done_id (records G)) (map (λ (N : Node). N.id) (waiting G)) h) [
      | inl d ↦ at_id done_id (WasMade R G) (records G) x (All-weaker (IsRight I R start G) (λ d. WasMade R G (done_id d)) (right_made I R start G) (records G) (right_records G I R start budget complete)) d
      | inr N ↦ at_id (λ (N : Node). N.id) (WasMade R G) (waiting G) x (All-weaker (IsRightNode I R (records G)) (λ N. WasMade R G N.id) (λ N right. (N.branch, right.made)) (waiting G) complete.waiting) N
    ]

-- a node that was made was split where its branch can be
pub split_right : (G : Gathered) (I : Network) (R : Branch) (start budget : ℕ) → IsComplete G I R start budget → (id : ℕ) (at : SplitAt) (i o : ℕ) (P : Packing) (B : Branch) → Contains (records G) (Split id at i o P) → IsMade R (records G) id B → IsSplitAt I B at
split_right G I R start budget complete id at i o P B there made =
    let right : IsRight I R start G (Split id at i o P) = All-contains (IsRight I R start G) (records G) (Split id at i o P) (right_records G I R start budget complete) there in
    subst (λ (C : Branch). IsSplitAt I C at) (one_branch R (records G) complete.apart id id right.2.0 B right.2.1.made made refl) right.2.1.vertex

-- and closed by a packing that weighs the least value at least
pub close_right : (G : Gathered) (I : Network) (R : Branch) (start budget : ℕ) → IsComplete G I R start budget → (id : ℕ) (P : Packing) (B : Branch) → Contains (records G) (Close id P) → IsMade R (records G) id B → G.least ≤ weight I B P
close_right G I R start budget complete id P B there made =
    let right : IsRight I R start G (Close id P) = All-contains (IsRight I R start G) (records G) (Close id P) (right_records G I R start budget complete) there in
    subst (λ (C : Branch). G.least ≤ weight I C P) (one_branch R (records G) complete.apart id id right.2.0 B right.2.1.made made refl) (at_least _ _ _ right.1 right.2.1.packing.weighs)
  where
    at_least : (a b c : ℕ) → a ≤ b → b ≤ c → a ≤ c
    at_least a b c h k = omega arith

not_inside : (B : Branch) (v : ℕ) → is_undecided B v ≡ true → has B.inside v ≡ true → ⊥
not_inside B v h k = both_ways (has B.inside v) (undecided_parts B v h).0 k

not_outside : (B : Branch) (v : ℕ) → is_undecided B v ≡ true → has B.outside v ≡ true → ⊥
not_outside B v h k = both_ways (has B.outside v) (undecided_parts B v h).1 k

-- who is in a set with a vertex is that vertex, or was in the set
with_cases : (xs : List ℕ) (v w : ℕ) → has (with_vertex xs v) w ≡ true → (v ≡ w) ⊎ (has xs w ≡ true)
with_cases xs v w h =
    elim (or_cases (v == w) (has xs w) (sym (has-with_vertex xs v w) ∙ h)) [
      | inl is ↦ inl (eqb-true v w is)
      | inr old ↦ inr old
    ]

-- the same of a set with the ends of a link that are present
with_ends : (B : Branch) (a b w : ℕ) → is_present B a ≡ true → is_present B b ≡ true → has (joined (joined B.inside a) b) w ≡ true → has B.outside w ≡ true → has B.inside w ≡ true
with_ends B a b w low high h k =
    elim (or_cases (b == w) ((a == w) || has B.inside w) (sym (has-both B.inside a b w) ∙ h)) [
      | inl is ↦ absurd (absent b high is)
      | inr rest ↦ elim (or_cases (a == w) (has B.inside w) rest) [
        | inl is ↦ absurd (absent a low is)
        | inr old ↦ old
      ]
    ]
  where
    absent : (v : ℕ) → is_present B v ≡ true → (v == w) ≡ true → ⊥
    absent v there is = both_ways (has B.outside w) (not-true (has B.outside w) (subst (λ (x : ℕ). is_present B x ≡ true) (eqb-true v w is) there)) k

-- no vertex is inside and outside of the branch of a node that was made
pub made_apart : (G : Gathered) (I : Network) (R : Branch) (start budget : ℕ) → SidesAreApart R → IsComplete G I R start budget → (id : ℕ) (B : Branch) → IsMade R (records G) id B → (w : ℕ) → has B.inside w ≡ true → has B.outside w ≡ true → ⊥
made_apart G I R start budget sides complete id B root w h k = both_ways (has R.outside w) (sides.vertices w h) k
made_apart G I R start budget sides complete id B (inside_of {id = a} {at = Vertex v} {i} {o} {P} {B = C} c m) w h k =
    elim (with_cases C.inside v w h) [
      | inl is ↦ not_outside C v (split_right G I R start budget complete a (Vertex v) i o P C c m).undecided (subst (λ (x : ℕ). has C.outside x ≡ true) (sym is) k)
      | inr old ↦ made_apart G I R start budget sides complete a C m w old k
    ]
made_apart G I R start budget sides complete id B (outside_of {id = a} {at = Vertex v} {i} {o} {P} {B = C} c m) w h k =
    elim (with_cases C.outside v w k) [
      | inl is ↦ not_inside C v (split_right G I R start budget complete a (Vertex v) i o P C c m).undecided (subst (λ (x : ℕ). has C.inside x ≡ true) (sym is) h)
      | inr old ↦ made_apart G I R start budget sides complete a C m w h old
    ]
made_apart G I R start budget sides complete id B (inside_of {id = a} {at = Link x y} {i} {o} {P} {B = C} c m) w h k =
    let may = split_right G I R start budget complete a (Link x y) i o P C c m in
    made_apart G I R start budget sides complete a C m w (with_ends C x y w may.low may.high h k) k
made_apart G I R start budget sides complete id B (outside_of {id = a} {at = Link x y} {i} {o} {P} {B = C} c m) w h k = made_apart G I R start budget sides complete a C m w h k

-- which is among pairs with one more is that one, or was among them
pair_cases : (ps : List (ℕ × ℕ)) (a b u v : ℕ) → has_pair (ps ++ (a, b) ∷ []) u v ≡ true → (has_pair ps u v ≡ true) ⊎ (is_between (a, b) u v ≡ true)
pair_cases ps a b u v h = or_cases (has_pair ps u v) (is_between (a, b) u v) (sym (has_pair-push ps (a, b) u v) ∙ h)

-- and no link is both a must and barred
made_links_apart : (G : Gathered) (I : Network) (R : Branch) (start budget : ℕ) → SidesAreApart R → IsComplete G I R start budget → (id : ℕ) (B : Branch) → IsMade R (records G) id B → (u v : ℕ) → has_pair B.must u v ≡ true → has_pair B.barred u v ≡ true → ⊥
made_links_apart G I R start budget sides complete id B root u v h k = both_ways (has_pair R.barred u v) (sides.links u v h) k
made_links_apart G I R start budget sides complete id B (inside_of {id = a} {at = Vertex w} {i} {o} {P} {B = C} c m) u v h k = made_links_apart G I R start budget sides complete a C m u v h k
made_links_apart G I R start budget sides complete id B (outside_of {id = a} {at = Vertex w} {i} {o} {P} {B = C} c m) u v h k = made_links_apart G I R start budget sides complete a C m u v h k
made_links_apart G I R start budget sides complete id B (inside_of {id = a} {at = Link x y} {i} {o} {P} {B = C} c m) u v h k =
    let may = split_right G I R start budget complete a (Link x y) i o P C c m in
    elim (pair_cases C.must x y u v h) [
      | inl old ↦ made_links_apart G I R start budget sides complete a C m u v old k
      | inr is ↦ both_ways (has_pair C.barred u v) (apart_from (x, y) (u, v) C.barred may.unbarred is) k
    ]
made_links_apart G I R start budget sides complete id B (outside_of {id = a} {at = Link x y} {i} {o} {P} {B = C} c m) u v h k =
    let may = split_right G I R start budget complete a (Link x y) i o P C c m in
    elim (pair_cases C.barred x y u v k) [
      | inl old ↦ made_links_apart G I R start budget sides complete a C m u v h old
      | inr is ↦ both_ways (has_pair C.must u v) (apart_from (x, y) (u, v) C.must may.no_must is) h
    ]

-- what one branch decides another decides so too
pub record Extends (B C : Branch) : Type 0 where
  pub inside : (v : ℕ) → has B.inside v ≡ true → has C.inside v ≡ true
  pub outside : (v : ℕ) → has B.outside v ≡ true → has C.outside v ≡ true
  pub must : (u v : ℕ) → has_pair B.must u v ≡ true → has_pair C.must u v ≡ true
  pub barred : (u v : ℕ) → has_pair B.barred u v ≡ true → has_pair C.barred u v ≡ true

with_itself : (xs : List ℕ) (v : ℕ) → has (with_vertex xs v) v ≡ true
with_itself xs v = has-with_vertex xs v v ∙ or_left (v == v) (has xs v) (eq-eqb v v refl)

with_old : (xs : List ℕ) (v w : ℕ) → has xs w ≡ true → has (with_vertex xs v) w ≡ true
with_old xs v w h = has-with_vertex xs v w ∙ or_right (v == w) (has xs w) h

pair_itself : (ps : List (ℕ × ℕ)) (a b : ℕ) → has_pair (ps ++ (a, b) ∷ []) a b ≡ true
pair_itself ps a b = has_pair-push ps (a, b) a b ∙ or_right (has_pair ps a b) (is_between (a, b) a b) (own (a, b))

pair_old : (ps : List (ℕ × ℕ)) (a b u v : ℕ) → has_pair ps u v ≡ true → has_pair (ps ++ (a, b) ∷ []) u v ≡ true
pair_old ps a b u v h = has_pair-push ps (a, b) u v ∙ or_left (has_pair ps u v) (is_between (a, b) u v) h

extends_yes : (B C : Branch) (at : SplitAt) → Extends (yes_half B at) C → Extends B C
extends_yes B C (Vertex v) e = record { inside = λ w h. e.inside w (with_old B.inside v w h); outside = e.outside; must = e.must; barred = e.barred }
extends_yes B C (Link a b) e = record {
  inside = λ w h. e.inside w (has-both B.inside a b w ∙ or_right (b == w) _ (or_right (a == w) _ h));
  outside = e.outside;
  must = λ u v h. e.must u v (pair_old B.must a b u v h);
  barred = e.barred;
}

extends_no : (B C : Branch) (at : SplitAt) → Extends (no_half B at) C → Extends B C
extends_no B C (Vertex v) e = record { inside = e.inside; outside = λ w h. e.outside w (with_old B.outside v w h); must = e.must; barred = e.barred }
extends_no B C (Link a b) e = record { inside = e.inside; outside = e.outside; must = e.must; barred = λ u v h. e.barred u v (pair_old B.barred a b u v h) }

-- a node of a tree was made with a branch that extends that of the tree's root
abbrev pub IsUnder : Branch → Gathered → Branch → ℕ → Type 0
IsUnder R G B x = (C : Branch) × IsMade R (records G) x C × Extends B C

under_root : (G : Gathered) (R : Branch) (id x : ℕ) (B : Branch) → IsMade R (records G) id B → id ≡ x → IsUnder R G B x
under_root G R id x B made is = (B, subst (λ (n : ℕ). IsMade R (records G) n B) is made, record { inside = λ v h. h; outside = λ v h. h; must = λ u v h. h; barred = λ u v h. h })

pub under : (G : Gathered) (R : Branch) (id : ℕ) (p : ProofTree) (read : IsReadOff G id p) (B : Branch) → IsMade R (records G) id B → (x : ℕ) → 1 ≤ times x (ids_of G id p read) → IsUnder R G B x
under G R id p (closed {id = a} c) B made x h = under_root G R a x B made (times-single x a h)
under G R id p (waits {N} c) B made x h = under_root G R N.id x B made (times-single x N.id h)
under G R id p (was_split {id = a} {at} {i} {o} {P} {inside} {outside} c l r) B made x h =
    elim (times-cases x a (ids_of G i inside l ++ ids_of G o outside r) h) [
      | inl is ↦ under_root G R a x B made is
      | inr rest ↦ elim (times-either x (ids_of G i inside l) (ids_of G o outside r) rest) [
        | inl m ↦ in_yes B at (under G R i inside l (yes_half B at) (inside_of c made) x m)
        | inr m ↦ in_no B at (under G R o outside r (no_half B at) (outside_of c made) x m)
      ]
    ]
  where
    in_yes : (B : Branch) (at : SplitAt) → IsUnder R G (yes_half B at) x → IsUnder R G B x
    in_yes B at (C, m, e) = (C, m, extends_yes B C at e)

    in_no : (B : Branch) (at : SplitAt) → IsUnder R G (no_half B at) x → IsUnder R G B x
    in_no B at (C, m, e) = (C, m, extends_no B C at e)

-- no id is under both halves of a split
halves_apart : (G : Gathered) (I : Network) (R : Branch) (start budget : ℕ) → SidesAreApart R → IsComplete G I R start budget → (B : Branch) (at : SplitAt) (x : ℕ) → IsSplitAt I B at → IsUnder R G (yes_half B at) x → IsUnder R G (no_half B at) x → ⊥
halves_apart G I R start budget sides complete B (Vertex v) x may (C, m, e) (D, n, f) =
    let same = one_branch R (records G) complete.apart x x C D m n refl in
    made_apart G I R start budget sides complete x D n v (subst (λ (E : Branch). has E.inside v ≡ true) same (e.inside v (with_itself B.inside v))) (f.outside v (with_itself B.outside v))
halves_apart G I R start budget sides complete B (Link a b) x may (C, m, e) (D, n, f) =
    let same = one_branch R (records G) complete.apart x x C D m n refl in
    made_links_apart G I R start budget sides complete x D n a b (subst (λ (E : Branch). has_pair E.must a b ≡ true) same (e.must a b (pair_itself B.must a b))) (f.barred a b (pair_itself B.barred a b))

-- and the node that was split is under neither
root_not_inside : (G : Gathered) (I : Network) (R : Branch) (start budget : ℕ) → IsComplete G I R start budget → (B : Branch) (at : SplitAt) (a x : ℕ) → IsSplitAt I B at → IsMade R (records G) a B → a ≡ x → IsUnder R G (yes_half B at) x → ⊥
root_not_inside G I R start budget complete B (Vertex v) a x may made is (C, m, e) =
    let same = one_branch R (records G) complete.apart x a C B m made (sym is) in
    not_inside B v may.undecided (subst (λ (E : Branch). has E.inside v ≡ true) same (e.inside v (with_itself B.inside v)))
root_not_inside G I R start budget complete B (Link c d) a x may made is (C, m, e) =
    let same = one_branch R (records G) complete.apart x a C B m made (sym is) in
    both_ways (has_pair B.must c d) may.no_must (subst (λ (E : Branch). has_pair E.must c d ≡ true) same (e.must c d (pair_itself B.must c d)))

root_not_outside : (G : Gathered) (I : Network) (R : Branch) (start budget : ℕ) → IsComplete G I R start budget → (B : Branch) (at : SplitAt) (a x : ℕ) → IsSplitAt I B at → IsMade R (records G) a B → a ≡ x → IsUnder R G (no_half B at) x → ⊥
root_not_outside G I R start budget complete B (Vertex v) a x may made is (C, m, e) =
    let same = one_branch R (records G) complete.apart x a C B m made (sym is) in
    not_outside B v may.undecided (subst (λ (E : Branch). has E.outside v ≡ true) same (e.outside v (with_itself B.outside v)))
root_not_outside G I R start budget complete B (Link c d) a x may made is (C, m, e) =
    let same = one_branch R (records G) complete.apart x a C B m made (sym is) in
    both_ways (has_pair B.barred c d) may.unbarred (subst (λ (E : Branch). has_pair E.barred c d ≡ true) same (e.barred c d (pair_itself B.barred c d)))

-- no node stands twice in a tree
pub tree_once : (G : Gathered) (I : Network) (R : Branch) (start budget : ℕ) → SidesAreApart R → IsComplete G I R start budget → (id : ℕ) (p : ProofTree) (read : IsReadOff G id p) (B : Branch) → IsMade R (records G) id B → (x : ℕ) → times x (ids_of G id p read) ≤ 1
tree_once G I R start budget sides complete id p (closed {id = a} c) B made x = times-single_le x a
tree_once G I R start budget sides complete id p (waits {N} c) B made x = times-single_le x N.id
tree_once G I R start budget sides complete id p (was_split {id = a} {at} {i} {o} {P} {inside} {outside} c l r) B made x =
    let may = split_right G I R start budget complete a at i o P B c made in
    times-node_le x a (ids_of G i inside l) (ids_of G o outside r)
    (tree_once G I R start budget sides complete i inside l (yes_half B at) (inside_of c made) x)
    (tree_once G I R start budget sides complete o outside r (no_half B at) (outside_of c made) x)
    (λ is h. root_not_inside G I R start budget complete B at a x may made is (under G R i inside l (yes_half B at) (inside_of c made) x h))
    (λ is h. root_not_outside G I R start budget complete B at a x may made is (under G R o outside r (no_half B at) (outside_of c made) x h))
    (λ h k. halves_apart G I R start budget sides complete B at x may (under G R i inside l (yes_half B at) (inside_of c made) x h) (under G R o outside r (no_half B at) (outside_of c made) x k))
