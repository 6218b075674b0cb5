-- Each node that was worked on, or that waits, was made, where the root and all halves are the nodes that were worked on and those that wait.
use Rattle.std.proofs.Common.{◌≡◌, ℕ, zero, suc, ◌+◌, ◌≤◌, Bool, true, false, cond, List, [], ◌∷◌, length, map, refl, sym, ap, subst, ◌∙◌, ◌⊎◌, inl, inr, arith}
use Rattle.std.specs.Prelude.{nat_lt, Contains}
use Rattle.std.specs.List.{flat_map, sum_by}
use Rattle.std.proofs.lemmas.List.{length-append}
use Rattle.st_model.specs.declared.split_at.SplitAt.{SplitAt}
use Rattle.st_model.specs.declared.split_at.SplitAt.TheVariants.{Vertex, Link}
use Rattle.st_model.specs.declared.branch.Branch.{Branch}
use Rattle.st_model.specs.Lists.{has}
use Rattle.st_model.specs.Branch.{joined, with_vertex, yes_half, no_half}
use Rattle.st_model.specs.Network.{Network}
use Rattle.cut_packing.specs.declared.packing.Packing.{Packing}
use Rattle.cut_packing.specs.Packing.{weight}
use Rattle.branching.specs.declared.node.Node.{Node}
use Rattle.branching.specs.Node.{yes_node, no_node}
use Rattle.branching.proofs.NoLighter.{halves_weigh}
use Rattle.search_core.specs.declared.done.Done.{Done}
use Rattle.search_core.specs.declared.done.Done.TheVariants.{Split, Close}
use Rattle.search_core.specs.Complete.{IsHalf, IsMade, KeepsWeight, done_id, inside, outside, inside_of, outside_of, root}
use Rattle.search_core.specs.State.{root_of}
use Rattle.search_core.proofs.Ids.{Among}
use Rattle.worker_loop.specs.Run.{IsDoneWith, IsSplitTask, IsTask, Task, done_of, halves_by, halves_of, node_of, packed}
use Rattle.worker_loop.proofs.SameNodes.{node_is, node_itself, same_node}
use Rattle.worker_loop.proofs.Weights.{among_map, among_one_of, contains, heavy_one, weight_le}

-- the root and all halves are the nodes of the tasks and those that wait, however nodes are weighed
abbrev pub IsAccounted : Branch → Packing → List Task → List Node → Type 0
IsAccounted R P tasks waiting = (h : Node → ℕ) → h (root_of R P) + sum_by h (flat_map halves_of tasks) ≡ sum_by h (map node_of tasks) + sum_by h waiting

-- each is a right task at some value that was seen
abbrev pub AreTasks : Network → Branch → ℕ → List Task → Type 0
AreTasks I R start tasks = (T : Task) → Among tasks T → (seen : ℕ) × IsTask I R start seen T

-- the node is a half of this task's, which split its node there on P
pub record IsHalfOf (T : Task) (N : Node) : Type 0 where
  pub id : ℕ
  pub at : SplitAt
  pub i : ℕ
  pub o : ℕ
  pub P : Packing
  pub is_split : T.done ≡ Split id at i o P
  pub is_half : (N ≡ yes_node (packed id T.node.branch P) at i) ⊎ (N ≡ no_node (packed id T.node.branch P) at o)

-- what is among the halves of a task is a half of it
half_of : (T : Task) (N : Node) → Among (halves_of T) N → IsHalfOf T N
half_of T N there = by_done T.done refl there
  where
    by_done : (d : Done) → T.done ≡ d → Among (halves_by T.node.branch d) N → IsHalfOf T N
    by_done (Close id P) is h = absurd h
    by_done (Split id at i o P) is (inl e) = record { id = id; at = at; i = i; o = o; P = P; is_split = is; is_half = inl (sym e) }
    by_done (Split id at i o P) is (inr (inl e)) = record { id = id; at = at; i = i; o = o; P = P; is_split = is; is_half = inr (sym e) }
    by_done (Split id at i o P) is (inr (inr h)) = absurd h

-- where a node comes from: it is the root, or a half of a task's
abbrev pub Comes : Branch → Packing → List Task → Node → Type 0
Comes R P tasks N = (N ≡ root_of R P) ⊎ ((T : Task) × Among tasks T × IsHalfOf T N)

-- 1 where it is this node
abbrev is_it : Node → Node → ℕ
is_it N M = cond (same_node N M) 1 0

it_is : (N M : Node) → 1 ≤ is_it N M → N ≡ M
it_is N M h = by_case (same_node N M) refl h
  where
    by_case : (b : Bool) → same_node N M ≡ b → 1 ≤ cond b 1 0 → N ≡ M
    by_case true e k = node_is N M e
    by_case false e k = absurd (omega arith)

-- what is the root or weighs something among the halves comes from there
among_halves : (R : Branch) (P : Packing) (tasks : List Task) (N : Node) → 1 ≤ is_it N (root_of R P) + sum_by (is_it N) (flat_map halves_of tasks) → Comes R P tasks N
among_halves R P tasks N h = by_case (is_it N (root_of R P)) refl
  where
    by_case : (n : ℕ) → is_it N (root_of R P) ≡ n → Comes R P tasks N
    by_case (suc n) e = inl (it_is N (root_of R P) (omega (arith, e)))
    by_case zero e =
        let heavy = heavy_one (is_it N) (flat_map halves_of tasks) (omega (arith, e, h)) in
        let of_task = among_one_of halves_of tasks heavy.0 heavy.1 in
        inr (of_task.0, of_task.1, half_of of_task.0 N (subst (Among (halves_of of_task.0)) (sym (it_is N heavy.0 heavy.2)) of_task.2))

-- each node that was worked on, or that waits, comes from there
pub comes : (R : Branch) (P : Packing) (tasks : List Task) (waiting : List Node) (N : Node) → IsAccounted R P tasks waiting → Among (map node_of tasks) N ⊎ Among waiting N → Comes R P tasks N
comes R P tasks waiting N accounted there = among_halves R P tasks N (some there)
  where
    here : 1 ≤ is_it N N
    here = rw (node_itself N) (omega arith)

    some : Among (map node_of tasks) N ⊎ Among waiting N → 1 ≤ is_it N (root_of R P) + sum_by (is_it N) (flat_map halves_of tasks)
    some (inl h) = omega (arith, here, accounted (is_it N), weight_le (is_it N) (map node_of tasks) N h)
    some (inr h) = omega (arith, here, accounted (is_it N), weight_le (is_it N) waiting N h)

-- how many vertices and links a branch decides
abbrev decided : Branch → ℕ
decided B = (length B.inside + length B.outside) + (length B.must + length B.barred)

one_longer : (xs : List ℕ) (v : ℕ) → length (with_vertex xs v) ≡ length xs + 1
one_longer [] v = refl
one_longer (x ∷ xs) v = by_case (nat_lt x v) (one_longer xs v)
  where
    by_case : (b : Bool) → length (with_vertex xs v) ≡ length xs + 1 → length (cond b (x ∷ with_vertex xs v) (v ∷ x ∷ xs)) ≡ suc (length xs) + 1
    by_case true e = omega (arith, e)
    by_case false e = omega arith

no_shorter : (xs : List ℕ) (v : ℕ) → length xs ≤ length (joined xs v)
no_shorter xs v = by_case (has xs v)
  where
    by_case : (b : Bool) → length xs ≤ length (cond b xs (with_vertex xs v))
    by_case true = omega arith
    by_case false = omega (arith, one_longer xs v)

-- a half decides more
one_more : (B : Branch) (at : SplitAt) → (decided B + 1 ≤ decided (yes_half B at)) × (decided B + 1 ≤ decided (no_half B at))
one_more B (Vertex v) = (omega (arith, one_longer B.inside v), omega (arith, one_longer B.outside v))
one_more B (Link a b) = (
  omega (arith, no_shorter B.inside a, no_shorter (joined B.inside a) b, length-append B.must ((a, b) ∷ [])),
  omega (arith, length-append B.barred ((a, b) ∷ [])),
)

half_more : (T : Task) (N : Node) → IsHalfOf T N → decided T.node.branch + 1 ≤ decided N.branch
half_more T N h = elim h.is_half [
  | inl is ↦ let e = ap (λ (M : Node). decided M.branch) is in let more = (one_more T.node.branch h.at).0 in omega (arith, e, more)
  | inr is ↦ let e = ap (λ (M : Node). decided M.branch) is in let more = (one_more T.node.branch h.at).1 in omega (arith, e, more)
]

-- the record of the split
recorded : (tasks : List Task) (T : Task) (N : Node) (h : IsHalfOf T N) → Among tasks T → Contains (map done_of tasks) (Split h.id h.at h.i h.o h.P)
recorded tasks T N h there = contains (map done_of tasks) _ (subst (Among (map done_of tasks)) h.is_split (among_map done_of tasks T there))

-- a half of what was made was made
half_made : (R : Branch) (tasks : List Task) (T : Task) (N : Node) (h : IsHalfOf T N) → Among tasks T → IsMade R (map done_of tasks) h.id T.node.branch
    → IsMade R (map done_of tasks) N.id N.branch
half_made R tasks T N h there made = elim h.is_half [
  | inl is ↦ subst (λ (M : Node). IsMade R (map done_of tasks) M.id M.branch) (sym is) (inside_of (recorded tasks T N h there) made)
  | inr is ↦ subst (λ (M : Node). IsMade R (map done_of tasks) M.id M.branch) (sym is) (outside_of (recorded tasks T N h there) made)
]

-- the id in the record of a split is its node's
same_id : (I : Network) (R : Branch) (start seen : ℕ) (T : Task) (N : Node) (h : IsHalfOf T N) → IsTask I R start seen T → T.node.id ≡ h.id
same_id I R start seen T N h task = sym task.same ∙ ap done_id h.is_split

-- a task that split its node
split_so : (I : Network) (start seen : ℕ) (N : Node) (d : Done) (id : ℕ) (at : SplitAt) (i o : ℕ) (P : Packing) → d ≡ Split id at i o P → IsDoneWith I start seen N d → IsSplitTask I start N at P
split_so I start seen N d id at i o P is h = subst (IsDoneWith I start seen N) is h

-- by induction on how much the branch decides
made_below : (I : Network) (R : Branch) (P : Packing) (start : ℕ) (tasks : List Task) (waiting : List Node) → AreTasks I R start tasks → IsAccounted R P tasks waiting
    → (k : ℕ) (N : Node) → decided N.branch ≤ k → Among (map node_of tasks) N ⊎ Among waiting N → IsMade R (map done_of tasks) N.id N.branch
made_below I R P start tasks waiting right accounted zero N few there = elim (comes R P tasks waiting N accounted there) [
  | inl is ↦ subst (λ (M : Node). IsMade R (map done_of tasks) M.id M.branch) (sym is) root
  | inr half ↦ absurd (omega (arith, few, half_more half.0 N half.2))
]
made_below I R P start tasks waiting right accounted (suc k) N few there = elim (comes R P tasks waiting N accounted there) [
  | inl is ↦ subst (λ (M : Node). IsMade R (map done_of tasks) M.id M.branch) (sym is) root
  | inr half ↦
      let T = half.0 in
      let task = right T half.1 in
      let parent = made_below I R P start tasks waiting right accounted k T.node (omega (arith, few, half_more T N half.2)) (inl (among_map node_of tasks T half.1)) in
      half_made R tasks T N half.2 half.1 (subst (λ (id : ℕ). IsMade R (map done_of tasks) id T.node.branch) (same_id I R start task.0 T N half.2 task.1) parent)
]

-- each node that was worked on, or that waits, was made
pub was_made : (I : Network) (R : Branch) (P : Packing) (start : ℕ) (tasks : List Task) (waiting : List Node) (N : Node) → AreTasks I R start tasks → IsAccounted R P tasks waiting
    → Among (map node_of tasks) N ⊎ Among waiting N → IsMade R (map done_of tasks) N.id N.branch
was_made I R P start tasks waiting N right accounted there = made_below I R P start tasks waiting right accounted (decided N.branch) N (omega arith) there

-- and a node that waits weighs no less than the split that made it
pub keeps_weight : (I : Network) (R : Branch) (P : Packing) (start : ℕ) (tasks : List Task) (waiting : List Node) (N : Node) → AreTasks I R start tasks → IsAccounted R P tasks waiting
    → Among waiting N → KeepsWeight I R (map done_of tasks) N
keeps_weight I R P start tasks waiting N right accounted there = elim (comes R P tasks waiting N accounted (inr there)) [
  | inl is ↦ inl (ap (λ (M : Node). M.id) is)
  | inr half ↦ by_half half.0 half.1 half.2
]
  where
    by_half : (T : Task) → Among tasks T → IsHalfOf T N → KeepsWeight I R (map done_of tasks) N
    by_half T among h =
        let task = right T among in
        let made = subst (λ (id : ℕ). IsMade R (map done_of tasks) id T.node.branch) (same_id I R start task.0 T N h task.1)
        (was_made I R P start tasks waiting T.node right accounted (inl (among_map node_of tasks T among))) in
        let of_split = split_so I start task.0 T.node T.done h.id h.at h.i h.o h.P h.is_split task.1.done_right in
        let weighs = halves_weigh I (packed T.node.id T.node.branch h.P) h.at h.i h.o of_split.packed.node of_split.place in
        let done = recorded tasks T N h among in
        inr (
          h.id,
          h.P,
          T.node.branch,
          elim h.is_half [
            | inl is ↦ record {
              half = subst (λ (M : Node). IsHalf (map done_of tasks) h.id h.P M.id) (sym is) (inside done);
              made = made;
              weight = subst (λ (M : Node). weight I T.node.branch h.P ≤ weight I M.branch M.packing) (sym is) weighs.0;
            }
            | inr is ↦ record {
              half = subst (λ (M : Node). IsHalf (map done_of tasks) h.id h.P M.id) (sym is) (outside done);
              made = made;
              weight = subst (λ (M : Node). weight I T.node.branch h.P ≤ weight I M.branch M.packing) (sym is) weighs.1;
            }
          ],
        )
