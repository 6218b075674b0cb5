-- What is left of a packing where some of its cuts are freed.
use Rattle.std.proofs.Common.{◌≡◌, ◌≢◌, ℕ, zero, suc, ◌+◌, ◌-◌, ◌^◌, ◌<◌, ◌≤◌, Bool, true, false, List, [], ◌∷◌, ◌++◌, length, get_or, drop, Option, Some, None, ◌⊎◌, inl, inr, refl, sym, ap, ◌∙◌, subst, arith}
use Rattle.std.specs.Prelude.{All, IsTrue, IfSome, MatchOption, nat_lt, ◌==◌, if◌then◌else◌}
use Rattle.std.specs.Option.{is_some, option_map}
use Rattle.std.specs.List.{AllByRecursion}
use Rattle.std.proofs.lemmas.Bool.{cases_eq, cases_lt, eq-eqb, ne_eqb}
use Rattle.std.proofs.lemmas.Bool.Decides.{nat_tests}
use Rattle.std.proofs.lemmas.List.{append-nil, append_assoc, drop_all, drop_more, get_or_past}
use Rattle.std.proofs.lemmas.List.Elements.{All-from_recursion, recursion_from_All}
use Rattle.st_model.specs.declared.branch.Branch.{Branch}
use Rattle.st_model.specs.declared.link.Link.{Link}
use Rattle.st_model.specs.Branch.{open_link}
use Rattle.st_model.specs.Ground.{ground}
use Rattle.st_model.specs.Lists.{has, total, sum_to}
use Rattle.st_model.specs.Network.{Network, IsVertex, joins, link, pays}
use Rattle.st_model.proofs.Costs.{sum_to_part}
use Rattle.st_model.proofs.Pairs.{open_parts, open_unbarred}
use Rattle.st_model.proofs.Sums.{total-append}
use Rattle.graph_store.specs.Graph.{Graph, IsGraph}
use Rattle.bidirected_form.specs.Bidirected.{arc_cost}
use Rattle.bidirected_form.specs.Digraph.{Digraph, remaining}
use Rattle.bidirected_form.specs.Entering.{enters, HasRoom, Returns}
use Rattle.prize_transform.specs.Twins.{Ends, left_of, prize_for, prize_in, has_end, Alters}
use Rattle.prize_transform.proofs.Numbered.{has-filter}
use Rattle.prize_transform.proofs.Prized.{has_end-numbered, has_up_to, prized_to}
use Rattle.cut_packing.specs.declared.cut.Cut.{Cut}
use Rattle.cut_packing.specs.declared.packing.Packing.{Packing}
use Rattle.cut_packing.specs.Packing.{load, named, IsRoot, CutFits, Fits}
use Rattle.cut_packing.proofs.Duality.{named_vertex}
use Rattle.dual_ascent.specs.Freed.{kept}
use Rattle.dual_ascent.specs.Laws.{IsCharged}
use Rattle.dual_ascent.specs.Left.{AreEndsOf}
use Rattle.dual_ascent.proofs.ChargedCuts.{before_taking}
use Rattle.dual_ascent.proofs.Joined.{named_within}
use Rattle.dual_ascent.proofs.OpenVertices.{cost_linked, prize_most}
use Rattle.dual_ascent.proofs.Raised.{nil_apart}

-- the sum over a list with one more in its middle
around : (f : Cut → ℕ) (before : List Cut) (c : Cut) (after : List Cut) → total f (before ++ c ∷ after) ≡ f c + total f (before ++ after)
around f before c after = omega (arith, total-append f before (c ∷ after), total-append f before after)

-- what holds of all holds of one, and of the others
at_middle : {X : Type 0} (Q : X → Type 0) (before : List X) (c : X) (after : List X) → AllByRecursion Q (before ++ c ∷ after) → Q c × AllByRecursion Q (before ++ after)
at_middle Q [] c after h = (h.0, h.1)
at_middle Q (b ∷ before) c after h = let rest = at_middle Q before c after h.1 in (rest.0, (h.0, rest.1))

all_around : {X : Type 0} (Q : X → Type 0) (before : List X) (c : X) (after : List X) → All Q (before ++ c ∷ after) → Q c × All Q (before ++ after)
all_around Q before c after h = let parts = at_middle Q before c after (recursion_from_All Q (before ++ c ∷ after) h) in (parts.0, All-from_recursion Q (before ++ after) parts.1)

-- a link costs no more than all links, and a vertex no more than all prizes
link_within : (links : List Link) (u v price : ℕ) → link links u v ≡ Some price → price ≤ total (λ l. l.cost) links
link_within [] u v price is = absurd (let clash : ⊥ = cc in clash)
link_within (l ∷ links) u v price is = by_case (joins l u v) refl (link_within links u v price)
  where
    by_case : (b : Bool) → joins l u v ≡ b → (link links u v ≡ Some price → price ≤ total (λ l. l.cost) links) → price ≤ l.cost + total (λ l. l.cost) links
    by_case true e rest = let same : l.cost ≡ price = (let is_here : Some l.cost ≡ Some price = rw e at is in cc) in omega (arith, same)
    by_case false e rest = omega (arith, rest (rw e at is))

pays_within : (I : Network) (v : ℕ) → IsVertex I.n v → pays I v ≤ sum_to (pays I) I.n
pays_within I zero range = absurd (omega (arith, range.0))
pays_within I (suc v) range = omega (arith, sum_to_part (pays I) (suc v) I.n range.1)

-- the packing of these cuts
abbrev pub packed : Option ℕ → List Cut → Packing
packed root cuts = record { root = root; cuts = cuts }

-- a packing that fits does so without one of its cuts
fewer_fit : (I : Network) (B : Branch) (root : Option ℕ) (before : List Cut) (c : Cut) (after : List Cut) → Fits I B (packed root (before ++ c ∷ after)) → Fits I B (packed root (before ++ after))
fewer_fit I B root before c after h = record {
  root = by_root root h.root;
  cuts = (all_around (CutFits I B) before c after h.cuts).1;
  arcs = λ u v tail head. by_price u v (open_link I B u v) (h.arcs u v tail head);
  prizes = λ q vertex free. omega (arith, around (λ d. if d.q == q then d.y else 0) before c after, h.prizes q vertex free);
}
  where
    by_root : (r : Option ℕ) → MatchOption r (before ++ c ∷ after ≡ []) (IsRoot I B (before ++ c ∷ after)) → MatchOption r (before ++ after ≡ []) (IsRoot I B (before ++ after))
    by_root None none = absurd (nil_apart before c after (sym none))
    by_root (Some r) is = record { vertex = is.vertex; certain = is.certain; same = is.same; apart = (all_around (λ d. has d.set r ≡ false) before c after is.apart).1 }

    by_price : (u v : ℕ) (price : Option ℕ) → IfSome price (λ p. load (before ++ c ∷ after) (u, v) ≤ p) → IfSome price (λ p. load (before ++ after) (u, v) ≤ p)
    by_price u v None fits = tt
    by_price u v (Some p) fits = omega (arith, fits, around (λ d. if enters d.set u v then d.y else 0) before c after)

-- a vertex with a prize has an end
pub prized_end : (D : Digraph) (E : Ends) (q : ℕ) → AreEndsOf D E → IsVertex D.n q → nat_lt 0 (prize_in D q) ≡ true → IsTrue (has_end E.ends q)
prized_end D E q ends range some = rw ends.ends (has_end-numbered (D.n + 1) (prized_to D D.n) q ∙ has-filter (λ v. nat_lt 0 (prize_in D v)) _ q (has_up_to D.n q range) some)

-- a packing that was charged, and one of its cuts
module _ (g : Graph) (B : Branch) (root : Option ℕ) (before : List Cut) (c : Cut) (after : List Cut) (D : Digraph) (E : Ends)
    (graph : IsGraph g) (h : IsCharged g B (packed root (before ++ c ∷ after)) D E) where
  load_is : (u v : ℕ) → load (before ++ c ∷ after) (u, v) ≡ (if enters c.set u v then c.y else 0) + load (before ++ after) (u, v)
  load_is u v = around (λ d. if enters d.set u v then d.y else 0) before c after

  named_is : (v : ℕ) → named (before ++ c ∷ after) v ≡ (if c.q == v then c.y else 0) + named (before ++ after) v
  named_is v = around (λ d. if d.q == v then d.y else 0) before c after

  -- no arc bears more than it costs
  arc_bears : (u v price : ℕ) → arc_cost g B u v ≡ Some price → load (before ++ c ∷ after) (u, v) ≤ price
  arc_bears u v price is = let linked = cost_linked g B u v price is in rw linked.2 at (h.fits.arcs u v linked.0 linked.1)

  -- no vertex with a prize is named beyond that
  prize_bears : (v : ℕ) → 0 < prize_in D v → named (before ++ c ∷ after) v ≤ prize_in D v
  prize_bears v some = rw (h.left.kinds v) (named_within g B (packed root (before ++ c ∷ after)) v graph h.whole h.fits (λ must. absurd (omega (arith, some, ap prize_for (h.left.kinds v ∙ must)))))

  fits_alone : CutFits g.network B c
  fits_alone = (all_around (CutFits g.network B) before c after h.fits.cuts).0

  pub names_vertex : IsVertex D.n c.q
  names_vertex = rw h.left.count (named_vertex (ground g.network) B c fits_alone)

  -- what the cut took can be given back
  pub arcs_room : HasRoom D c.set c.y
  arcs_room u v r entering left =
      let cost = before_taking (arc_cost g B u v) (load (before ++ c ∷ after) (u, v)) r (sym (h.left.remaining u v) ∙ left) in
      let open_cost = (cost_linked g B u v cost.0 cost.1).2 in
      let linked : link g.network.links u v ≡ Some cost.0 = sym (open_unbarred (ground g.network) B u v (open_parts (ground g.network) B u v (ap is_some open_cost)).0) ∙ open_cost in
      let one : (if enters c.set u v then c.y else 0) ≡ c.y = rw entering refl in
      let all : total (λ l. l.cost) g.network.links + sum_to (pays g.network) g.network.n < 2 ^ 63 = graph.instance.amount in
      omega (arith, cost.2, arc_bears u v cost.0 cost.1, load_is u v, one, link_within g.network.links u v cost.0 linked, all)

  pub prize_room : 0 < prize_in D c.q → left_of E c.q + c.y < 2 ^ 64
  prize_room some =
      let one : (if c.q == c.q then c.y else 0) ≡ c.y = rw (eq-eqb c.q c.q refl) refl in
      let most : prize_in D c.q ≤ pays g.network c.q = rw (h.left.kinds c.q) (prize_most g B c.q) in
      let all : total (λ l. l.cost) g.network.links + sum_to (pays g.network) g.network.n < 2 ^ 63 = graph.instance.amount in
      omega (arith, h.left.prizes c.q, prize_bears c.q some, named_is c.q, one, most, pays_within g.network c.q (named_vertex (ground g.network) B c fits_alone), all)

  -- once it is given back, what is left is what the other cuts leave
  module _ (D' : Digraph) (E' : Ends) (back : Returns D D' c.set c.y) (paid : Alters E E' c.q (λ left. if nat_lt 0 (prize_in D c.q) then left + c.y else left)) where
    arcs_left : (u v : ℕ) → remaining D' u v ≡ option_map (λ cost. cost - load (before ++ after) (u, v)) (arc_cost g B u v)
    arcs_left u v = rw (back.remaining u v, h.left.remaining u v) (by_case (enters c.set u v) (load_is u v) (arc_cost g B u v) (arc_bears u v))
      where
        by_case : (b : Bool) → load (before ++ c ∷ after) (u, v) ≡ (if b then c.y else 0) + load (before ++ after) (u, v) → (o : Option ℕ)
            → ((price : ℕ) → o ≡ Some price → load (before ++ c ∷ after) (u, v) ≤ price)
            → (if b then option_map (λ r. r + c.y) (option_map (λ cost. cost - load (before ++ c ∷ after) (u, v)) o)
            else option_map (λ cost. cost - load (before ++ c ∷ after) (u, v)) o) ≡ option_map (λ cost. cost - load (before ++ after) (u, v)) o
        by_case true e None bears = refl
        by_case true e (Some price) bears = ap Some (omega (arith, e, bears price refl))
        by_case false e None bears = refl
        by_case false e (Some price) bears = ap Some (omega (arith, e))

    prize_same : (v : ℕ) → prize_in D' v ≡ prize_in D v
    prize_same v = rw back.kinds refl

    prizes_left : (v : ℕ) → left_of E' v ≡ prize_in D' v - named (before ++ after) v
    prizes_left v = by_case (cases_eq c.q v)
      where
        -- where there is a prize, it is named within it
        given : (b : Bool) → nat_lt 0 (prize_in D c.q) ≡ b → left_of E' c.q ≡ (if b then left_of E c.q + c.y else left_of E c.q) → left_of E' c.q ≡ prize_in D' c.q - named (before ++ after) c.q
        given true some is =
            let one : (if c.q == c.q then c.y else 0) ≡ c.y = rw (eq-eqb c.q c.q refl) refl in
            let above : 0 < prize_in D c.q = grind (arith, nat_tests) in
            omega (arith, is, prize_same c.q, h.left.prizes c.q, prize_bears c.q above, named_is c.q, one)
        given false none is =
            let nothing : prize_in D c.q ≡ 0 = grind (arith, nat_tests) in
            omega (arith, is, prize_same c.q, h.left.prizes c.q, nothing)

        by_case : (c.q ≡ v) ⊎ (c.q ≢ v) → left_of E' v ≡ prize_in D' v - named (before ++ after) v
        by_case (inl same) = subst (λ w. left_of E' w ≡ prize_in D' w - named (before ++ after) w) same (given (nat_lt 0 (prize_in D c.q)) refl (rw (eq-eqb c.q c.q refl) at (paid.left c.q)))
        by_case (inr differ) =
            let other : left_of E' v ≡ left_of E v = rw (ne_eqb v c.q (λ e. differ (sym e))) at (paid.left v) in
            let none : (if c.q == v then c.y else 0) ≡ 0 = rw (ne_eqb c.q v differ) refl in
            omega (arith, other, prize_same v, h.left.prizes v, named_is v, none)

    pub freed_charged : IsCharged g B (packed root (before ++ after)) D' E'
    freed_charged = record {
      whole = h.whole;
      branch = h.branch;
      required = h.required;
      fits = fewer_fit g.network B root before c after h.fits;
      left = record { count = back.count ∙ h.left.count; kinds = λ v. rw back.kinds (h.left.kinds v); remaining = arcs_left; prizes = prizes_left };
      certain = rw back.root h.certain;
      root = by_root h.root;
    }
      where
        by_root : (before ++ c ∷ after ≡ []) ⊎ (root ≡ Some D.root) → (before ++ after ≡ []) ⊎ (root ≡ Some D'.root)
        by_root (inl none) = absurd (nil_apart before c after (sym none))
        by_root (inr same) = inr (same ∙ ap Some (sym back.root))

    pub freed_ends : AreEndsOf D E → AreEndsOf D' E'
    freed_ends ends = record {
      count = paid.count ∙ ends.count ∙ sym back.count;
      ends = rw (back.count, back.kinds) (paid.ends ∙ ends.ends);
      within = λ v. omega (arith, prizes_left v);
    }

-- the cuts that are kept are no more than all
pub kept_total : (f : Cut → ℕ) (freed : List Bool) (cuts : List Cut) → total f (kept freed cuts) ≤ total f cuts
kept_total f freed [] = omega arith
kept_total f [] (c ∷ cuts) = omega arith
kept_total f (b ∷ freed) (c ∷ cuts) = by_case b (kept_total f freed cuts)
  where
    by_case : (b : Bool) → total f (kept freed cuts) ≤ total f cuts → total f (if b then kept freed cuts else c ∷ kept freed cuts) ≤ f c + total f cuts
    by_case true rest = omega (arith, rest)
    by_case false rest = omega (arith, rest)

kept_each : (Q : Cut → Type 0) (freed : List Bool) (cuts : List Cut) → AllByRecursion Q cuts → AllByRecursion Q (kept freed cuts)
kept_each Q freed [] h = tt
kept_each Q [] (c ∷ cuts) h = h
kept_each Q (b ∷ freed) (c ∷ cuts) h = by_case b (kept_each Q freed cuts h.1)
  where
    by_case : (b : Bool) → AllByRecursion Q (kept freed cuts) → AllByRecursion Q (if b then kept freed cuts else c ∷ kept freed cuts)
    by_case true rest = rest
    by_case false rest = (h.0, rest)

pub kept_all : (Q : Cut → Type 0) (freed : List Bool) (cuts : List Cut) → All Q cuts → All Q (kept freed cuts)
kept_all Q freed cuts h = All-from_recursion Q (kept freed cuts) (kept_each Q freed cuts (recursion_from_All Q cuts h))

no_marks : (cuts : List Cut) → kept [] cuts ≡ cuts
no_marks [] = refl
no_marks (c ∷ cuts) = refl

-- one cut is looked at: it is freed, or is the next one that is kept
next_kept : (freed : List Bool) (cuts : List Cut) (i : ℕ) (d : Cut) → i < length cuts
    → kept (drop i freed) (drop i cuts) ≡ (if get_or freed i false then kept (drop (i + 1) freed) (drop (i + 1) cuts) else get_or cuts i d ∷ kept (drop (i + 1) freed) (drop (i + 1) cuts))
next_kept freed cuts i d below = rw (drop_more cuts i d below) (by_case (cases_lt i (length freed)))
  where
    by_case : (i < length freed) ⊎ (length freed ≤ i)
        → kept (drop i freed) (get_or cuts i d ∷ drop (i + 1) cuts)
        ≡ (if get_or freed i false then kept (drop (i + 1) freed) (drop (i + 1) cuts) else get_or cuts i d ∷ kept (drop (i + 1) freed) (drop (i + 1) cuts))
    by_case (inl marked) = rw (drop_more freed i false marked) refl
    by_case (inr past) = rw (drop_all i freed past, drop_all (i + 1) freed (omega (arith, past)), get_or_past freed i false past, no_marks (drop (i + 1) cuts)) refl

pub next_freed : (freed : List Bool) (cuts all seen : List Cut) (i : ℕ) (d : Cut) → i < length cuts → get_or freed i false ≡ true → all ≡ seen ++ kept (drop i freed) (drop i cuts)
    → all ≡ seen ++ kept (drop (i + 1) freed) (drop (i + 1) cuts)
next_freed freed cuts all seen i d below marked is = is ∙ ap (λ (cs : List Cut). seen ++ cs) (next_kept freed cuts i d below ∙ rw marked refl)

pub next_held : (freed : List Bool) (cuts all seen : List Cut) (i : ℕ) (c : Cut) → i < length cuts → c ≡ get_or cuts i c → get_or freed i false ≡ false
    → all ≡ seen ++ kept (drop i freed) (drop i cuts) → all ≡ (seen ++ c ∷ []) ++ kept (drop (i + 1) freed) (drop (i + 1) cuts)
next_held freed cuts all seen i c below item free is =
    let later = kept (drop (i + 1) freed) (drop (i + 1) cuts) in
    let here = next_kept freed cuts i c below ∙ rw free (ap (λ (x : Cut). x ∷ later) (sym item)) in
    is ∙ ap (λ (cs : List Cut). seen ++ cs) here ∙ sym (append_assoc seen (c ∷ []) later)

-- all are looked at
pub all_kept : (freed : List Bool) (cuts seen : List Cut) (i : ℕ) → length cuts ≤ i → kept freed cuts ≡ seen ++ kept (drop i freed) (drop i cuts) → seen ≡ kept freed cuts
all_kept freed cuts seen i past is = sym (is ∙ ap (λ (cs : List Cut). seen ++ kept (drop i freed) cs) (drop_all i cuts past) ∙ append-nil seen)

-- of what was charged, the next one
pub next_cut : (g : Graph) (B : Branch) (root : Option ℕ) (seen cuts : List Cut) (i : ℕ) (c : Cut) (D : Digraph) (E : Ends) → i < length cuts → c ≡ get_or cuts i c
    → IsCharged g B (packed root (seen ++ drop i cuts)) D E → IsCharged g B (packed root (seen ++ c ∷ drop (i + 1) cuts)) D E
next_cut g B root seen cuts i c D E below is h =
    subst (λ (rest : List Cut). IsCharged g B (packed root (seen ++ rest)) D E) (drop_more cuts i c below ∙ ap (λ (x : Cut). x ∷ drop (i + 1) cuts) (sym is)) h

pub held_cut : (g : Graph) (B : Branch) (root : Option ℕ) (seen cuts : List Cut) (i : ℕ) (c : Cut) (D : Digraph) (E : Ends) → i < length cuts → c ≡ get_or cuts i c
    → IsCharged g B (packed root (seen ++ drop i cuts)) D E → IsCharged g B (packed root ((seen ++ c ∷ []) ++ drop (i + 1) cuts)) D E
held_cut g B root seen cuts i c D E below is h =
    subst (λ (cs : List Cut). IsCharged g B (packed root cs) D E) (sym (append_assoc seen (c ∷ []) (drop (i + 1) cuts))) (next_cut g B root seen cuts i c D E below is h)
