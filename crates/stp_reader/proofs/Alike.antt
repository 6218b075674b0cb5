-- A file that isn't directed is read, or refused, alike in both modes.
use Rattle.std.proofs.Common.{◌≡◌, ◌⊎◌, inl, inr, ℕ, suc, Bool, true, false, cond, not, ◌&&◌, List, [], ◌∷◌, Option, Some, None, Result, Ok, Err, refl, sym, ap, ◌∙◌}
use Rattle.std.specs.List.{list_any}
use Rattle.std.proofs.lemmas.Bool.{and_parts}
use Rattle.stp_reader.specs.declared.mode.Mode.{Mode}
use Rattle.stp_reader.specs.declared.mode.Mode.TheVariants.{Plain, Any}
use Rattle.stp_reader.specs.declared.keyword.SectionName.{SectionName}
use Rattle.stp_reader.specs.declared.keyword.SectionName.TheVariants as name
use Rattle.stp_reader.specs.declared.reason.Reason.{Reason}
use Rattle.stp_reader.specs.Reason.{least}
use Rattle.stp_reader.specs.Lines.{is_skipped, is_remark}
use Rattle.stp_reader.specs.Words.{is_magic, section_of}
use Rattle.stp_reader.specs.Forms.{Form, section_line, end_line, nodes_line, edges_line, edge_line, bad_edges_line, arcs_line, arc_line, bad_arcs_line, bad_arc_line, form}
use Rattle.stp_reader.specs.Place.{Contents, undirected, directed, nothing, graph, digraph, whole, Place, at_header, outside, passed_over, at_nodes, at_edges, at_links, after_end, after_opening, after_outside, after_no_header, after_passed, after_nodes, after_edges, after_said, after}
use Rattle.stp_reader.specs.Reasons.{reasons}
use Rattle.stp_reader.specs.Directed.{tells_kind, tells_arcs, is_in_graph, decides_kind, begins_directed}
use Rattle.stp_reader.specs.Judging.{judge_nodes, judge_edges, judge_line, judge, at_line, then_on, stated_from}
use Rattle.stp_reader.proofs.Least.{answer}
use Rattle.stp_reader.proofs.Agreeing.{judge_answer}
use Rattle.stp_reader.proofs.Whole.{refuse}
use Rattle.stp_reader.proofs.FileKinds.{kind_of_contents, kind_at, either, kept, kind_stays}

-- ---- one line

-- a line that begins with Arcs tells of which kind the file is
arcs_told : (f : Form) → (tells_kind f ≡ true → tells_arcs f ≡ false) → tells_arcs f ≡ false
arcs_told (arcs_line m) h = h refl
arcs_told bad_arcs_line h = h refl
arcs_told f h = refl

nodes_alike : (f : Form) → tells_arcs f ≡ false → judge_nodes Plain f ≡ judge_nodes Any f
nodes_alike (arcs_line m) h = absurd cc
nodes_alike bad_arcs_line h = absurd cc
nodes_alike f h = refl

edges_alike : (n : ℕ) (f : Form) → tells_arcs f ≡ false → judge_edges Plain n f ≡ judge_edges Any n f
edges_alike n (arcs_line m) h = absurd cc
edges_alike n bad_arcs_line h = absurd cc
edges_alike n f h = refl

said_alike : (p : Place) (line : List (List ℕ)) (word : List ℕ) (args : List (List ℕ)) → line ≡ word ∷ args → is_remark word ≡ false → (decides_kind p line ≡ true → tells_arcs (form line) ≡ false) → judge_line Plain p line ≡ judge_line Any p line
unfolding judge_line
said_alike at_nodes line word args e said h = nodes_alike (form line) (arcs_told (form line) (λ k. h (rw (e, said) (ap tells_kind (ap form (sym e)) ∙ k))))
said_alike (at_edges n) line word args e said h = edges_alike n (form line) (arcs_told (form line) (λ k. h (rw (e, said) (ap tells_kind (ap form (sym e)) ∙ k))))
said_alike p line word args e said h = refl

-- where it doesn't say that the file is directed, a line is judged alike
pub line_alike : (p : Place) (line : List (List ℕ)) → (decides_kind p line ≡ true → tells_arcs (form line) ≡ false) → judge Plain p line ≡ judge Any p line
unfolding judge
line_alike p [] h = refl
line_alike p (word ∷ args) h = by_case (is_remark word) refl
  where
    by_case : (b : Bool) → is_remark word ≡ b → cond b (Ok p) (judge_line Plain p (word ∷ args)) ≡ cond b (Ok p) (judge_line Any p (word ∷ args))
    by_case true is = refl
    by_case false is = said_alike p (word ∷ args) word args refl is h

-- ---- a line that tells of which kind the file is

nodes_refuse : (mode : Mode) (f : Form) → tells_kind f ≡ true → (r : Reason) × (judge_nodes mode f ≡ Err r)
nodes_refuse Plain (edges_line m) h = (_, refl)
nodes_refuse Plain (edge_line u v c) h = (_, refl)
nodes_refuse Plain bad_edges_line h = (_, refl)
nodes_refuse Plain (arcs_line m) h = (_, refl)
nodes_refuse Plain (arc_line u v c) h = (_, refl)
nodes_refuse Plain bad_arcs_line h = (_, refl)
nodes_refuse Plain bad_arc_line h = (_, refl)
nodes_refuse Any (edges_line m) h = (_, refl)
nodes_refuse Any (edge_line u v c) h = (_, refl)
nodes_refuse Any bad_edges_line h = (_, refl)
nodes_refuse Any (arcs_line m) h = (_, refl)
nodes_refuse Any (arc_line u v c) h = (_, refl)
nodes_refuse Any bad_arcs_line h = (_, refl)
nodes_refuse Any bad_arc_line h = (_, refl)
nodes_refuse mode f h = absurd cc

-- after `Nodes n` it is refused, or the kind that it tells is known next
edges_decide : (mode : Mode) (n : ℕ) (f : Form) → tells_kind f ≡ true → (kind_at (after_edges mode n f) ≡ Some (tells_arcs f)) ⊎ ((r : Reason) × (judge_edges mode n f ≡ Err r))
edges_decide mode n (edges_line m) h = inl refl
edges_decide Plain n (edge_line u v c) h = inr (_, refl)
edges_decide Plain n bad_edges_line h = inr (_, refl)
edges_decide Plain n (arcs_line m) h = inr (_, refl)
edges_decide Plain n (arc_line u v c) h = inr (_, refl)
edges_decide Plain n bad_arcs_line h = inr (_, refl)
edges_decide Plain n bad_arc_line h = inr (_, refl)
edges_decide Any n (edge_line u v c) h = inr (_, refl)
edges_decide Any n bad_edges_line h = inr (_, refl)
edges_decide Any n (arcs_line m) h = inl refl
edges_decide Any n (arc_line u v c) h = inr (_, refl)
edges_decide Any n bad_arcs_line h = inr (_, refl)
edges_decide Any n bad_arc_line h = inr (_, refl)
edges_decide mode n f h = absurd cc

-- the parts of the test
decides_parts : (skipped tells : Bool) → not skipped && tells ≡ true → (skipped ≡ false) × (tells ≡ true)
decides_parts false true h = (refl, refl)
decides_parts false false h = absurd cc
decides_parts true tells h = absurd cc

said_decides : (mode : Mode) (p : Place) (word : List ℕ) (args : List (List ℕ)) → kind_at p ≡ None → is_in_graph p ≡ true → tells_kind (form (word ∷ args)) ≡ true
    → (kind_at (after_said mode p (word ∷ args)) ≡ Some (tells_arcs (form (word ∷ args)))) ⊎ ((r : Reason) × (judge_line mode p (word ∷ args) ≡ Err r))
unfolding judge_line
said_decides mode at_nodes word args k g h = inr (nodes_refuse mode (form (word ∷ args)) h)
said_decides mode (at_edges n) word args k g h = edges_decide mode n (form (word ∷ args)) h
said_decides mode (at_links n m links) word args k g h = absurd cc
said_decides mode p word args k g h = absurd cc

pub line_decides : (mode : Mode) (p : Place) (line : List (List ℕ)) → kind_at p ≡ None → decides_kind p line ≡ true
    → (kind_at (after mode p line) ≡ Some (tells_arcs (form line))) ⊎ ((r : Reason) × (judge mode p line ≡ Err r))
unfolding judge
line_decides mode p [] k h = let parts = and_parts (is_in_graph p) false h in absurd cc
line_decides mode p (word ∷ args) k h =
    let parts = and_parts (is_in_graph p) (not (is_remark word) && tells_kind (form (word ∷ args))) h in
    let tells = decides_parts (is_remark word) (tells_kind (form (word ∷ args))) parts.1 in
    rw tells.0 (said_decides mode p word args k parts.0 tells.1)

-- ---- where no line has told it yet

not_telling : (skipped tells : Bool) → not skipped && tells ≡ false → skipped ≡ false → tells ≡ false
not_telling false false h e = refl
not_telling false true h e = absurd cc
not_telling true tells h e = absurd cc

nodes_open : (f : Form) → kind_at (after_nodes f) ≡ None
nodes_open (nodes_line n) = refl
nodes_open f = refl

edges_open : (n : ℕ) (f : Form) → tells_kind f ≡ false → kind_at (after_edges Plain n f) ≡ None
edges_open n (edges_line m) h = absurd cc
edges_open n (arcs_line m) h = absurd cc
edges_open n f h = refl

opening_open : (k : SectionName) → kind_at (after_opening nothing k) ≡ None
opening_open name.Passed = refl
opening_open name.Unknown = refl
opening_open name.Graph = refl
opening_open name.Terminals = refl

outside_open : (f : Form) → kind_at (after_outside nothing f) ≡ None
outside_open (section_line word) = opening_open (section_of word)
outside_open f = refl

no_header_open : (f : Form) → kind_at (after_no_header f) ≡ None
no_header_open (section_line word) = opening_open (section_of word)
no_header_open f = refl

passed_open : (f : Form) → kind_at (after_passed nothing f) ≡ None
passed_open end_line = refl
passed_open f = refl

said_open : (p : Place) (line : List (List ℕ)) → kind_at p ≡ None → (is_in_graph p ≡ true → tells_kind (form line) ≡ false) → kind_at (after_said Plain p line) ≡ None
said_open at_header line k h = either (list_any is_magic line) (outside nothing) (after_no_header (form line)) None refl (no_header_open (form line))
said_open (outside nothing) line k h = outside_open (form line)
said_open (passed_over nothing) line k h = passed_open (form line)
said_open at_nodes line k h = nodes_open (form line)
said_open (at_edges n) line k h = edges_open n (form line) (h refl)
said_open (outside (graph g)) line k h = absurd cc
said_open (outside (digraph g)) line k h = absurd cc
said_open (outside (whole (undirected f))) line k h = absurd cc
said_open (outside (whole (directed f))) line k h = absurd cc
said_open (passed_over (graph g)) line k h = absurd cc
said_open (passed_over (digraph g)) line k h = absurd cc
said_open (passed_over (whole (undirected f))) line k h = absurd cc
said_open (passed_over (whole (directed f))) line k h = absurd cc
said_open (after_end (undirected f)) line k h = absurd cc
said_open (after_end (directed f)) line k h = absurd cc
said_open p line k h = absurd cc

pub line_open : (p : Place) (line : List (List ℕ)) → kind_at p ≡ None → decides_kind p line ≡ false → kind_at (after Plain p line) ≡ None
line_open p line k h = by_case (is_skipped line) refl
  where
    by_case : (b : Bool) → is_skipped line ≡ b → kind_at (cond b p (after_said Plain p line)) ≡ None
    by_case true e = k
    by_case false e = said_open p line k (λ g. not_telling (is_skipped line) (tells_kind (form line)) (ap (λ (b : Bool). b && (not (is_skipped line) && tells_kind (form line))) (sym g) ∙ h) e)

-- ---- where it is known

said_settled : (p : Place) (line : List (List ℕ)) (b : Bool) → kind_at p ≡ Some b → judge_line Plain p line ≡ judge_line Any p line
unfolding judge_line
said_settled at_nodes line b k = absurd cc
said_settled (at_edges n) line b k = absurd cc
said_settled p line b k = refl

line_settled : (p : Place) (line : List (List ℕ)) (b : Bool) → kind_at p ≡ Some b → judge Plain p line ≡ judge Any p line
unfolding judge
line_settled p [] b k = refl
line_settled p (word ∷ args) b k = ap (cond (is_remark word) (Ok p)) (said_settled p (word ∷ args) b k)

-- ---- all lines

-- what all lines state, the first of them by its least reason and the place after it
first_by : (mode : Mode) (number : ℕ) (p : Place) (line : List (List ℕ)) (lines : List (List (List ℕ)))
    → stated_from mode number p (line ∷ lines) ≡ then_on (at_line number (answer (least (reasons mode p line)) (after mode p line))) (λ q. stated_from mode (suc number) q lines)
first_by mode number p line lines = ap (λ (r : Result Place Reason). then_on (at_line number r) (λ q. stated_from mode (suc number) q lines)) (judge_answer mode p line)

-- where the first line is judged alike, what comes after it decides
pub first_alike : (number : ℕ) (p : Place) (line : List (List ℕ)) (lines : List (List (List ℕ))) → judge Plain p line ≡ judge Any p line
    → ((r : Reason) × (judge Plain p line ≡ Err r)) ⊎ (stated_from Plain (suc number) (after Plain p line) lines ≡ stated_from Any (suc number) (after Plain p line) lines)
    → stated_from Plain number p (line ∷ lines) ≡ stated_from Any number p (line ∷ lines)
first_alike number p line lines alike (inl r) =
    let other : judge Any p line ≡ Err r.0 = sym alike ∙ r.1 in
    rw (r.1, other) refl
first_alike number p line lines alike (inr next) = rw (← alike, judge_answer Plain p line) (by_case (least (reasons Plain p line)))
  where
    by_case : (o : Option Reason) → then_on (at_line number (answer o (after Plain p line))) (λ q. stated_from Plain (suc number) q lines) ≡ then_on (at_line number (answer o (after Plain p line))) (λ q. stated_from Any (suc number) q lines)
    by_case None = next
    by_case (Some r) = refl

all_settled : (number : ℕ) (p : Place) (lines : List (List (List ℕ))) (b : Bool) → kind_at p ≡ Some b → stated_from Plain number p lines ≡ stated_from Any number p lines
all_settled number p [] b k = refl
all_settled number p (line ∷ lines) b k = first_alike number p line lines (line_settled p line b k) (inr (all_settled (suc number) (after Plain p line) lines b (kept Plain p line b k)))

pub all_alike : (number : ℕ) (p : Place) (lines : List (List (List ℕ))) → kind_at p ≡ None → begins_directed p lines ≡ false → stated_from Plain number p lines ≡ stated_from Any number p lines
all_alike number p [] k h = refl
all_alike number p (line ∷ lines) k h = by_case (decides_kind p line) refl h (all_alike (suc number) (after Plain p line) lines)
  where
    by_case : (b : Bool) → decides_kind p line ≡ b → cond b (tells_arcs (form line)) (begins_directed (after Plain p line) lines) ≡ false
        → (kind_at (after Plain p line) ≡ None → begins_directed (after Plain p line) lines ≡ false → stated_from Plain (suc number) (after Plain p line) lines ≡ stated_from Any (suc number) (after Plain p line) lines)
        → stated_from Plain number p (line ∷ lines) ≡ stated_from Any number p (line ∷ lines)
    by_case false d h again = first_alike number p line lines (line_alike p line (λ e. absurd cc)) (inr (again (line_open p line k d) h))
    by_case true d h again = first_alike number p line lines (line_alike p line (λ e. h)) (told (line_decides Plain p line k d))
      where
        told : (kind_at (after Plain p line) ≡ Some (tells_arcs (form line))) ⊎ ((r : Reason) × (judge Plain p line ≡ Err r))
            → ((r : Reason) × (judge Plain p line ≡ Err r)) ⊎ (stated_from Plain (suc number) (after Plain p line) lines ≡ stated_from Any (suc number) (after Plain p line) lines)
        told (inl e) = inr (all_settled (suc number) (after Plain p line) lines (tells_arcs (form line)) e)
        told (inr r) = inl r

-- ---- a directed file states arcs, or nothing

-- where it doesn't say that the file is directed, a line is judged as where directed files aren't read
as_plain : (mode : Mode) (p : Place) (line : List (List ℕ)) → (decides_kind p line ≡ true → tells_arcs (form line) ≡ false) → judge mode p line ≡ judge Plain p line
as_plain Plain p line h = refl
as_plain Any p line h = sym (line_alike p line h)

pub all_directed : (mode : Mode) (number : ℕ) (p : Place) (lines : List (List (List ℕ))) (c : Contents) → kind_at p ≡ None → begins_directed p lines ≡ true → stated_from mode number p lines ≡ Ok c → kind_of_contents c ≡ Some true
all_directed mode number p [] c k h e = absurd cc
all_directed mode number p (line ∷ lines) c k h e = by_case (decides_kind p line) refl h (all_directed mode (suc number) (after Plain p line) lines c)
  where
    stops : (r : Reason) → judge mode p line ≡ Err r → kind_of_contents c ≡ Some true
    stops r refused =
        let at_once : refuse number r ≡ Ok c = rw refused at e in
        absurd cc

    by_case : (b : Bool) → decides_kind p line ≡ b → cond b (tells_arcs (form line)) (begins_directed (after Plain p line) lines) ≡ true
        → (kind_at (after Plain p line) ≡ None → begins_directed (after Plain p line) lines ≡ true → stated_from mode (suc number) (after Plain p line) lines ≡ Ok c → kind_of_contents c ≡ Some true)
        → kind_of_contents c ≡ Some true
    by_case false d h again = on (least (reasons Plain p line)) (as_plain mode p line (λ e. absurd cc) ∙ judge_answer Plain p line)
      where
        on : (o : Option Reason) → judge mode p line ≡ answer o (after Plain p line) → kind_of_contents c ≡ Some true
        on None is = again (line_open p line k d) h (rw is at e)
        on (Some r) is = stops r is
    by_case true d h again = on (least (reasons mode p line)) (judge_answer mode p line) (line_decides mode p line k d)
      where
        on : (o : Option Reason) → judge mode p line ≡ answer o (after mode p line) → (kind_at (after mode p line) ≡ Some (tells_arcs (form line))) ⊎ ((r : Reason) × (judge mode p line ≡ Err r)) → kind_of_contents c ≡ Some true
        on (Some r) is told = stops r is
        on None is (inr r) = stops r.0 r.1
        on None is (inl known) = kind_stays mode (suc number) (after mode p line) lines true c (known ∙ ap (λ (b : Bool). Some b) h) (rw is at e)
