-- A text tells all that stands in it.
use Rattle.std.proofs.Common.{◌≡◌, ℕ, ◌^◌, ◌<◌, ◌==◌, Bool, true, false, cond, eqb, List, [], ◌∷◌, ◌++◌, length, map, get_or, drop, All, Contains, codes, refl, sym, ap, subst, ◌∙◌, append_assoc, arith}
use Rattle.std.specs.List.{flat_map, AllByRecursion}
use Rattle.std.specs.Fmt.{decimal}
use Rattle.std.proofs.lemmas.Bool.Decides.{nat_tests}
use Rattle.std.proofs.lemmas.Fmt.{decimal_injective}
use Rattle.std.proofs.lemmas.List.{append_cancel_right}
use Rattle.std.proofs.lemmas.List.Elements.{All-contains, All-contains_itself, All-map, All-weaker, recursion_from_All}
use Rattle.amounts.specs.declared.scale.Scale.{Scale}
use Rattle.amounts.specs.Text.{amount_text}
use Rattle.amounts.proofs.Reread.{texts_differ, lacks-amount_text}
use Rattle.st_model.specs.declared.tree.Tree.{Tree}
use Rattle.st_model.specs.Lists.{has}
use Rattle.st_model.proofs.Members.{has-one, has-from_Contains}
use Rattle.st_model.proofs.Reaching.{reached_in}
use Rattle.dimacs_writer.specs.Laws.{Solution, IsSmallTree, TextTellsSolution, TextTellsTree, text_of}
use Rattle.plain_text.specs.Lines.{ended}
use Rattle.dimacs_writer.specs.Solution.{ends_written, AreEdgesIn, AreVertices, IsSolutionTextIn, name_byte, number_line, vertex_line, edge_line, header, comment_lines, solutions_lines, run_lines, solution_text_of}
use Rattle.plain_text.proofs.Lacking.{lacks, lacks-append, lacks-decimal, cut_same, are_whole, lines_same}

abbrev IsSmall : ℕ → Type 0
IsSmall n = n < 2 ^ 64

abbrev HasSmallEnds : ℕ × ℕ → Type 0
HasSmallEnds edge = (edge.0 < 2 ^ 64) × (edge.1 < 2 ^ 64)

-- ---- whole lines

name_lacks : (name : List ℕ) → lacks 10 (map name_byte name) ≡ true
name_lacks [] = refl
name_lacks (b ∷ bs) = let other : eqb (name_byte b) 10 ≡ false = grind (arith, nat_tests) in rw (other, name_lacks bs) refl

remark_lacks : (b : Bool) → lacks 10 (cond b (codes "optimal") (codes "budget") ++ 34 ∷ []) ≡ true
remark_lacks true = refl
remark_lacks false = refl

vertices_whole : (vs : List ℕ) (rest : List (List ℕ)) → are_whole rest ≡ true → are_whole (map vertex_line vs ++ rest) ≡ true
vertices_whole [] rest h = h
vertices_whole (v ∷ vs) rest h = rw (lacks-decimal 10 v (omega arith), vertices_whole vs rest h) refl

edges_whole : (es : List (ℕ × ℕ)) (rest : List (List ℕ)) → are_whole rest ≡ true → are_whole (map edge_line es ++ rest) ≡ true
edges_whole [] rest h = h
edges_whole (e ∷ es) rest h =
    let ends = lacks-append 10 (decimal e.0) (32 ∷ decimal e.1) (lacks-decimal 10 e.0 (omega arith)) (lacks-decimal 10 e.1 (omega arith)) in
    rw (ends, edges_whole es rest h) refl

-- ---- the lines of the tree

differ : (a b : ℕ) → a < b → a ≡ b → ⊥
differ a b lt e = omega arith

vertices_same : (vs ws : List ℕ) (m n : ℕ) (rest others : List (List ℕ)) → AllByRecursion IsSmall vs → AllByRecursion IsSmall ws
    → map vertex_line vs ++ number_line (codes "Edges") m ∷ rest ≡ map vertex_line ws ++ number_line (codes "Edges") n ∷ others → (vs ≡ ws) × (rest ≡ others)
vertices_same [] [] m n rest others h k e = (refl, cc)
vertices_same [] (w ∷ ws) m n rest others h k e = absurd (differ 69 86 (omega arith) cc)
vertices_same (v ∷ vs) [] m n rest others h k e = absurd (differ 69 86 (omega arith) cc)
vertices_same (v ∷ vs) (w ∷ ws) m n rest others h k e =
    let spelled : decimal v ≡ decimal w = cc in
    let after : map vertex_line vs ++ number_line (codes "Edges") m ∷ rest ≡ map vertex_line ws ++ number_line (codes "Edges") n ∷ others = cc in
    let first = decimal_injective v w h.0 k.0 spelled in
    let later = vertices_same vs ws m n rest others h.1 k.1 after in
    (cc (first, later.0), later.1)

both_ends : (d f : ℕ × ℕ) → d.0 ≡ f.0 → d.1 ≡ f.1 → d ≡ f
both_ends d f low high = ap (λ (a : ℕ). let pair : ℕ × ℕ = (a, d.1) in pair) low ∙ ap (λ (b : ℕ). let pair : ℕ × ℕ = (f.0, b) in pair) high

edges_same : (es fs : List (ℕ × ℕ)) (rest others : List (List ℕ)) → AllByRecursion HasSmallEnds es → AllByRecursion HasSmallEnds fs
    → map edge_line es ++ codes "END" ∷ rest ≡ map edge_line fs ++ codes "END" ∷ others → es ≡ fs
edges_same [] [] rest others h k e = refl
edges_same [] (f ∷ fs) rest others h k e = absurd (differ 32 78 (omega arith) cc)
edges_same (d ∷ es) [] rest others h k e = absurd (differ 32 78 (omega arith) cc)
edges_same (d ∷ es) (f ∷ fs) rest others h k e =
    let spelled : decimal d.0 ++ 32 ∷ decimal d.1 ≡ decimal f.0 ++ 32 ∷ decimal f.1 = cc in
    let after : map edge_line es ++ codes "END" ∷ rest ≡ map edge_line fs ++ codes "END" ∷ others = cc in
    let parts = cut_same 32 (decimal d.0) (decimal f.0) (decimal d.1) (decimal f.1) (lacks-decimal 32 d.0 (omega arith)) (lacks-decimal 32 f.0 (omega arith)) spelled in
    let low = decimal_injective d.0 f.0 h.0.0 k.0.0 parts.0 in
    let high = decimal_injective d.1 f.1 h.0.1 k.0.1 parts.1 in
    let later = edges_same es fs rest others h.1 k.1 after in
    let first = both_ends d f low high in
    cc (first, later)

-- ---- all of the text

abbrev front : Solution → List (List ℕ)
front s = header ∷ comment_lines s.name s.dual s.primal ++ solutions_lines s.primal s.scale ++ run_lines s.workers s.dual s.primal s.scale ++ codes "SECTION Finalsolution" ∷ number_line (codes "Vertices") (length s.vertices) ∷ []

abbrev back : Solution → List (List ℕ)
back s = map vertex_line s.vertices ++ number_line (codes "Edges") (length s.edges) ∷ (map edge_line s.edges ++ codes "END" ∷ codes "EOF" ∷ [])

nested : (a b c d : List (List ℕ)) → ((a ++ b) ++ c) ++ d ≡ a ++ (b ++ (c ++ d))
nested a b c d = simp append_assoc

text_lines : (s : Solution) → solution_text_of s.name s.workers s.vertices s.edges s.dual s.primal s.scale ≡ flat_map ended (front s ++ back s)
unfolding solution_text_of
text_lines s = ap (λ (tail : List (List ℕ)). flat_map ended (front s ++ tail)) (nested (map vertex_line s.vertices) (number_line (codes "Edges") (length s.edges) ∷ map edge_line s.edges) (codes "END" ∷ []) (codes "EOF" ∷ []))

back_whole : (s : Solution) → are_whole (back s) ≡ true
back_whole s =
    let edges = edges_whole s.edges (codes "END" ∷ codes "EOF" ∷ []) refl in
    vertices_whole s.vertices _ (rw (lacks-decimal 10 (length s.edges) (omega arith), edges) refl)

all_whole : (s : Solution) → are_whole (front s ++ back s) ≡ true
all_whole s =
    let name = lacks-append 10 (map name_byte s.name) (34 ∷ []) (name_lacks s.name) refl in
    let primal = lacks-amount_text 10 s.primal s.scale (omega arith) in
    let workers = lacks-decimal 10 s.workers (omega arith) in
    let dual = lacks-amount_text 10 s.dual s.scale (omega arith) in
    let count = lacks-decimal 10 (length s.vertices) (omega arith) in
    rw (name, remark_lacks (s.dual == s.primal), primal, workers, dual, count, back_whole s) refl

same_lines : (s t : Solution) → text_of s ≡ text_of t → front s ++ back s ≡ front t ++ back t
same_lines s t e = lines_same (front s ++ back s) (front t ++ back t) (all_whole s) (all_whole t) (sym (text_lines s) ∙ e ∙ text_lines t)

same_tree : (s t : Solution) → All IsSmall s.vertices → All IsSmall t.vertices → All HasSmallEnds s.edges → All HasSmallEnds t.edges → text_of s ≡ text_of t → (s.vertices ≡ t.vertices) × (s.edges ≡ t.edges)
same_tree s t vs ws es fs e =
    let tail : back s ≡ back t = ap (drop 17) (same_lines s t e) in
    let tree = vertices_same s.vertices t.vertices (length s.edges) (length t.edges) _ _ (recursion_from_All IsSmall s.vertices vs) (recursion_from_All IsSmall t.vertices ws) tail in
    (tree.0, edges_same s.edges t.edges _ _ (recursion_from_All HasSmallEnds s.edges es) (recursion_from_All HasSmallEnds t.edges fs) tree.1)

-- what stands from the n-th byte of the k-th line on
abbrev after : ℕ → ℕ → List (List ℕ) → List ℕ
after n k lines = drop n (get_or lines k [])

pub tells : TextTellsSolution
tells s t h k same_scale e =
    let lines = same_lines s t e in
    let name : map name_byte s.name ++ 34 ∷ [] ≡ map name_byte t.name ++ 34 ∷ [] = ap (after 6 2) lines in
    let primal : amount_text s.primal s.scale ≡ amount_text t.primal t.scale = ap (after 11 7) lines in
    let workers : decimal s.workers ≡ decimal t.workers = ap (after 8 10) lines in
    let dual : amount_text s.dual s.scale ≡ amount_text t.dual t.scale = ap (after 5 12) lines in
    let tree = same_tree s t h.vertices k.vertices h.edges k.edges e in
    record {
      name = append_cancel_right _ _ (34 ∷ []) name;
      workers = decimal_injective s.workers t.workers h.workers k.workers workers;
      vertices = tree.0;
      edges = tree.1;
      dual = same_amount s.dual t.dual h.dual k.dual dual;
      primal = same_amount s.primal t.primal h.primal k.primal primal;
    }
  where
    same_amount : (x y : ℕ) → x < 2 ^ 64 → y < 2 ^ 64 → amount_text x s.scale ≡ amount_text y t.scale → x ≡ y
    same_amount x y small other_small texts = texts_differ x y s.scale small other_small (texts ∙ ap (amount_text y) (sym same_scale))

-- ---- trees

small_vertices : (t : Tree) (vertices : List ℕ) → IsSmallTree t → AreVertices t vertices → All IsSmall vertices
small_vertices t vertices small are = All-weaker (Contains vertices) IsSmall (λ v there. reached_in IsSmall (t.start ∷ []) t.arcs (λ w h. subst IsSmall (has-one t.start w h) small.start) (recursion_from_All _ t.arcs (All-weaker HasSmallEnds (λ arc. IsSmall arc.1) (λ arc ends. ends.1) t.arcs small.arcs)) v (sym (are.same v) ∙ has-from_Contains vertices v there)) vertices (All-contains_itself vertices)

small_ends : (directed : Bool) (arc : ℕ × ℕ) → HasSmallEnds arc → HasSmallEnds (ends_written directed arc)
small_ends true arc h = h
small_ends false arc h = (omega (arith, h.0, h.1), omega (arith, h.0, h.1))

small_edges : (directed : Bool) (t : Tree) (edges : List (ℕ × ℕ)) → IsSmallTree t → AreEdgesIn directed t edges → All HasSmallEnds edges
small_edges directed t edges small are = All-weaker (Contains edges) HasSmallEnds (λ edge there. All-contains HasSmallEnds (map (ends_written directed) t.arcs) edge ends ((are.same edge).0 there)) edges (All-contains_itself edges)
  where
    ends : All HasSmallEnds (map (ends_written directed) t.arcs)
    ends = All-map HasSmallEnds (ends_written directed) t.arcs (All-weaker HasSmallEnds (λ arc. HasSmallEnds (ends_written directed arc)) (small_ends directed) t.arcs small.arcs)

abbrev said : {directed : Bool} {name : List ℕ} {workers : ℕ} {t : Tree} {dual primal : ℕ} {scale : Scale} {bytes : List ℕ} → IsSolutionTextIn directed name workers t dual primal scale bytes → Solution
said {directed} {name} {workers} {t} {dual} {primal} {scale} text = record { name = name; workers = workers; vertices = text.vertices; edges = text.edges; dual = dual; primal = primal; scale = scale }

pub tells_tree : TextTellsTree
tells_tree directed name other_name workers other_workers s t dual other_dual primal other_primal scale other_scale bytes small_s small_t first second =
    let v = first.vertices_of_tree in
    let w = second.vertices_of_tree in
    let d = first.edges_of_tree in
    let f = second.edges_of_tree in
    let same = same_tree (said first) (said second) (small_vertices s first.vertices small_s v) (small_vertices t second.vertices small_t w) (small_edges directed s first.edges small_s d) (small_edges directed t second.edges small_t f) (sym first.text ∙ second.text) in
    record {
      vertices = λ x. sym (v.same x) ∙ ap (λ (list : List ℕ). has list x) same.0 ∙ w.same x;
      edges = λ edge. (λ h. (f.same edge).0 (rw same.1 at ((d.same edge).1 h)), λ h. (d.same edge).0 (rw (← same.1) at ((f.same edge).1 h)));
    }
