-- What the tests of a packing find out.
use Rattle.std.proofs.Common.{◌≡◌, ◌≢◌, ℕ, ◌+◌, ◌*◌, ◌^◌, ◌<◌, ◌≤◌, Bool, true, false, ◌||◌, List, [], ◌∷◌, length, get_or, set, take, Option, Some, None, ◌⊎◌, inl, inr, refl, sym, ap, subst, ◌∙◌, get_or-set_same, get_or-set_other, arith}
use Rattle.std.specs.Prelude.{◌==◌, if◌then◌else◌, ◌↔◌, IsTrue, IfSome, All}
use Rattle.std.specs.List.{list_any}
use Rattle.std.proofs.lemmas.Bool.{cases_eq, cases_lt, eqb-true, eq-eqb, ne_eqb, false≢true}
use Rattle.std.proofs.lemmas.List.{get_or_past, get_or_default, length-set}
use Rattle.std.proofs.lemmas.List.Elements.{All-head, All-tail}
use Rattle.st_model.specs.declared.branch.Branch.{Branch}
use Rattle.st_model.specs.Ground.{Ground}
use Rattle.st_model.specs.Branch.{is_present, open_price}
use Rattle.cut_packing.specs.declared.arcs.LoadedArc.{LoadedArc}
use Rattle.cut_packing.specs.declared.cut.Cut.{Cut}
use Rattle.cut_packing.specs.Packing.{load, named, ArcsFitIn}
use Rattle.cut_packing.specs.Loads.{arcs_into, IsLoadedIn, AreLoadedIn}
use Rattle.st_model.proofs.Costs.{total_more}
use Rattle.st_model.proofs.Pairs.{open_parts}

-- an arc from u has its load below its cost where each has
bears_from : (G : Ground) (B : Branch) (cuts : List Cut) (u v : ℕ) (price : ℕ) (arcs : List LoadedArc) → All (IsLoadedIn G B cuts v) arcs → All (λ arc. arc.load ≤ arc.cost) arcs → IsTrue (list_any (λ arc. arc.tail == u) arcs) → open_price G B u v ≡ Some price → load cuts (u, v) ≤ price
bears_from G B cuts u v price [] loaded bears there cost = absurd (false≢true there)
bears_from G B cuts u v price (arc ∷ arcs) loaded bears there cost = step (arc.tail == u) refl there (bears_from G B cuts u v price arcs (All-tail (IsLoadedIn G B cuts v) arc arcs loaded) (All-tail (λ a. a.load ≤ a.cost) arc arcs bears))
  where
    here : arc.tail ≡ u → load cuts (u, v) ≤ price
    here same =
        let one = All-head (IsLoadedIn G B cuts v) arc arcs loaded in
        let price_is : Some price ≡ Some arc.cost = sym cost ∙ ap (λ w. open_price G B w v) (sym same) ∙ one.cost in
        let paid : price ≡ arc.cost = cc in
        omega (arith, paid, one.load, ap (λ w. load cuts (w, v)) same, All-head (λ a. a.load ≤ a.cost) arc arcs bears)

    step : (b : Bool) → (arc.tail == u) ≡ b → IsTrue (b || list_any (λ a. a.tail == u) arcs) → (IsTrue (list_any (λ a. a.tail == u) arcs) → open_price G B u v ≡ Some price → load cuts (u, v) ≤ price) → load cuts (u, v) ≤ price
    step true same h later = here (eqb-true arc.tail u same)
    step false other h later = later h cost

-- the arcs fit where each bears at most its cost
pub arcs_fit_iff : (G : Ground) (B : Branch) (cuts : List Cut) (arcs : List (List LoadedArc)) → AreLoadedIn G B G.price cuts arcs → All (All (λ arc. arc.load ≤ arc.cost)) arcs ↔ ArcsFitIn G B cuts
arcs_fit_iff G B cuts arcs h = (λ bears u v tail head. by_price u v tail head bears (open_price G B u v) refl, λ fits k d below j e within. each k d below j e within fits)
  where
    below_at : (v k : ℕ) → k < length (arcs_into arcs v) → v < length arcs
    below_at v k within = elim (cases_lt v (length arcs)) [ inl below ↦ below | inr past ↦ absurd (omega (arith, ap length (get_or_past arcs v [] past))) ]

    by_price : (u v : ℕ) → IsTrue (is_present B u) → IsTrue (is_present B v) → All (All (λ arc. arc.load ≤ arc.cost)) arcs → (price : Option ℕ) → open_price G B u v ≡ price → IfSome price (λ p. load cuts (u, v) ≤ p)
    by_price u v tail head bears None e = tt
    by_price u v tail head bears (Some p) e = bears_from G B cuts u v p (arcs_into arcs v) (h.sound v) (λ k d within. bears v [] (below_at v k within) k d within) (let parts = open_parts G B u v (rw e refl) in h.complete u v tail head parts.0 parts.1) e

    each : (k : ℕ) (d : List LoadedArc) → k < length arcs → (j : ℕ) (e : LoadedArc) → j < length (get_or arcs k d) → ArcsFitIn G B cuts → (get_or (get_or arcs k d) j e).load ≤ (get_or (get_or arcs k d) j e).cost
    each k d below j e within fits =
        let loaded = (subst (All (IsLoadedIn G B cuts k)) (get_or_default arcs k [] d below) (h.sound k)) j e within in
        let fit = rw loaded.cost at (fits _ k loaded.tail loaded.head) in
        omega (arith, loaded.load, fit)

-- the sums of the cuts that name each number below the count
pub record AreNamed (count : ℕ) (cuts : List Cut) (i : ℕ) (sums : List ℕ) : Type 0 where
  pub len : length sums ≡ count
  pub values : (v : ℕ) → v < count → get_or sums v 0 ≡ named (take i cuts) v
  pub bound : (v : ℕ) → v < count → named (take i cuts) v ≤ i * 2 ^ 64

module _ (count : ℕ) (cuts : List Cut) (i : ℕ) (sums : List ℕ) (c : Cut) (below : i < length cuts) (is : c ≡ get_or cuts i c) (h : AreNamed count cuts i sums) where
  -- one cut more names its vertex
  named_more : (v : ℕ) → named (take (i + 1) cuts) v ≡ named (take i cuts) v + (if c.q == v then c.y else 0)
  named_more v = rw (total_more (λ d. if d.q == v then d.y else 0) cuts i c below, ← is) refl

  -- and no other
  unnamed : (v : ℕ) → v ≢ c.q → named (take (i + 1) cuts) v ≡ named (take i cuts) v
  unnamed v other = rw (named_more v, ne_eqb c.q v (λ same. other (sym same))) (omega arith)

  -- it names a number below the count
  pub AreNamed-add : (sum : ℕ) → c.y < 2 ^ 64 → c.q < count → sum ≡ get_or sums c.q 0 + c.y → AreNamed count cuts (i + 1) (set sums c.q sum)
  AreNamed-add sum small in_range e = record {
    len = length-set sums c.q sum ∙ h.len;
    values = λ v below_count. at_vertex v below_count (cases_eq v c.q);
    bound = λ v below_count. rw (named_more v) (bounded (c.q == v) _ (h.bound v below_count));
  }
    where
      at_vertex : (v : ℕ) → v < count → (v ≡ c.q) ⊎ (v ≡ c.q → ⊥) → get_or (set sums c.q sum) v 0 ≡ named (take (i + 1) cuts) v
      at_vertex v below_count (inl same) =
          let room : c.q < length sums = omega (arith, h.len) in
          rw (same, get_or-set_same, named_more c.q, eq-eqb c.q c.q refl) (omega (arith, h.values c.q in_range))
      at_vertex v below_count (inr other) =
          let apart : v ≢ c.q = other in
          rw (get_or-set_other, unnamed v other) (h.values v below_count)

      bounded : (b : Bool) (x : ℕ) → x ≤ i * 2 ^ 64 → x + (if b then c.y else 0) ≤ (i + 1) * 2 ^ 64
      bounded true x e' = omega arith
      bounded false x e' = omega arith

  -- it names another number
  pub AreNamed-past : count ≤ c.q → AreNamed count cuts (i + 1) sums
  AreNamed-past past = record {
    len = h.len;
    values = λ v below_count. rw (unnamed v (λ same. absurd (omega arith))) (h.values v below_count);
    bound = λ v below_count. rw (unnamed v (λ same. absurd (omega arith))) (omega (arith, h.bound v below_count));
  }
