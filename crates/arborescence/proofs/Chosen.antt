-- A set is raised by what is left of an arc into it, and the arc is chosen.
use Rattle.std.proofs.Common.{◌≡◌, ℕ, suc, ◌+◌, ◌<◌, ◌≤◌, Bool, true, false, cond, not, ◌&&◌, List, [], ◌∷◌, ◌++◌, length, get_or, map, set, take, Some, inl, inr, refl, sym, ap, subst, ◌∙◌, arith}
use Rattle.std.specs.Prelude.{◌==◌, IsTrue, IsFalse, if◌then◌else◌}
use Rattle.std.specs.List.Sorted.{IsStrictlyIncreasing}
use Rattle.std.proofs.lemmas.Bool.{and_from, and_parts, both_ways, eqb-true, eq-eqb, false_from_ne_true, or_cases, or_left, or_right}
use Rattle.std.proofs.lemmas.List.{length-append, take_all, take-append-le}
use Rattle.std.proofs.lemmas.List.Elements.{All-push, All-weaker}
use Rattle.st_model.specs.declared.branch.Branch.{Branch}
use Rattle.st_model.specs.Branch.{is_present}
use Rattle.st_model.specs.Led.{heads_at}
use Rattle.st_model.specs.Lists.{has, sum_to}
use Rattle.st_model.specs.Network.{IsVertex}
use Rattle.st_model.specs.VertexSet.{VertexSet}
use Rattle.st_model.proofs.Sums.{sum_to_le}
use Rattle.cut_packing.specs.declared.cut.Cut.{Cut}
use Rattle.cut_packing.specs.Full.{IsSaturatedIn}
use Rattle.cut_packing.specs.Loads.{arcs_into, laid}
use Rattle.cut_packing.specs.Packing.{load}
use Rattle.arborescence.specs.Ascending.{rooted_packing}
use Rattle.arborescence.specs.Choosing.{AllCertain, IsClosing, IsEntering, IsRoundStrong, IsSource, IsUnentered, back, leads_by, pairs_apart}
use Rattle.arborescence.specs.Closing.{IsStrong}
use Rattle.arborescence.specs.DiNetwork.{DiNetwork, di_ground}
use Rattle.arborescence.specs.declared.closing.Closing.{Closing}
use Rattle.arborescence.specs.declared.entering.Entering.{Entering}
use Rattle.arborescence.proofs.Listing.{AreHeadsOf-push}
use Rattle.arborescence.proofs.OneCut.{cut_laid, fits_more, load-push, saturated_kept, set_vertices, within_set}
use Rattle.arborescence.proofs.Sources.{saturated_ends, sum_to_less}

module _ (D : DiNetwork) (B : Branch) (s : Closing) (is : IsClosing D B s) (set : VertexSet) (e : Entering) (source : IsSource D B s.chosen.items set) (enters : IsEntering D B s.cuts.items s.arcs set.members e) where
  -- an arc of which nothing is left is saturated
  pub used_already : e.left ≡ 0 → IsSaturatedIn (di_ground D) B (rooted_packing D s.cuts.items) e.tail e.head
  used_already none = record { tail = enters.tail; head = (source.here e.head enters.inside).1; used = enters.price ∙ ap Some (rw none (omega arith)) }

  module _ (t : Closing) (certain : AllCertain D B) (c : Cut) (names : c.q ≡ e.head) (worth : c.y ≡ e.left) (same : (v : ℕ) → has c.set v ≡ has set.members v) (ascending : IsStrictlyIncreasing c.set)
      (pushed : t.cuts.items ≡ s.cuts.items ++ c ∷ []) (long : length t.arcs ≡ length s.arcs)
      (lays : (v : ℕ) → arcs_into t.arcs v ≡ (if has set.members v then map (laid set.members e.left) (arcs_into s.arcs v) else arcs_into s.arcs v))
      (chosen : t.chosen.items ≡ s.chosen.items) (heads : t.heads ≡ s.heads) (tails : t.tails ≡ s.tails) where
    at_head : IsVertex D.n e.head × IsTrue (is_present B e.head)
    at_head = source.here e.head enters.inside

    vertices : (v : ℕ) → IsTrue (has set.members v) → IsVertex D.n v
    vertices v held = (source.here v held).0

    -- chosen arcs don't enter the set
    unentered : (u v : ℕ) → (IsTrue (has set.members v) → IsTrue (has set.members u)) → IsFalse (has c.set v && not (has c.set u))
    unentered u v within = rw (same v, same u) (within_set (has set.members v) (has set.members u) within)

    new : IsRoundStrong D.n s.chosen.items c
    new = record {
      ascending = record { ascending = ascending; in_range = set_vertices D B s.cuts.items s.arcs is.loaded is.fits t.arcs set.members c vertices source.root (rw names enters.inside) (rw names at_head.1) (rw names (certain e.head at_head.0 at_head.1)) (rw worth enters.least) same long (rw worth lays) };
      place = length s.chosen.items;
      few = omega arith;
      strong = rw (take_all (length s.chosen.items) s.chosen.items (omega arith)) (λ S closed u v in_u in_v at. source.strong S closed u v (sym (same u) ∙ in_u) (sym (same v) ∙ in_v) at);
      unentered = rw (take_all (length s.chosen.items) s.chosen.items (omega arith)) (λ k d below. λ held. same (get_or s.chosen.items k d).0 ∙ source.unentered k d below (sym (same (get_or s.chosen.items k d).1) ∙ held));
    }

    pub raised_closing : IsClosing D B t
    raised_closing = record {
      loaded = rw pushed (cut_laid D B s.cuts.items s.arcs is.loaded is.fits t.arcs set.members c vertices source.root (rw names enters.inside) (rw names at_head.1) (rw names (certain e.head at_head.0 at_head.1)) (rw worth enters.least) same long (rw worth lays));
      fits = rw pushed (fits_more D B s.cuts.items s.arcs is.loaded is.fits t.arcs set.members c vertices source.root (rw names enters.inside) (rw names at_head.1) (rw names (certain e.head at_head.0 at_head.1)) (rw worth enters.least) same long (rw worth lays));
      net = is.net;
      heads = rw (chosen, heads) is.heads;
      tails = rw (chosen, tails) is.tails;
      chosen = rw (pushed, chosen) (λ k d below. saturated_kept D B s.cuts.items c (get_or s.chosen.items k d).0 (get_or s.chosen.items k d).1 (unentered (get_or s.chosen.items k d).0 (get_or s.chosen.items k d).1 (source.unentered k d below)) (is.chosen k d below));
      cuts = rw (pushed, chosen) (All-push (IsRoundStrong D.n s.chosen.items) s.cuts.items c is.cuts new);
    }

    -- and now the arc bears just what it costs
    pub raised_used : IsSaturatedIn (di_ground D) B (rooted_packing D t.cuts.items) e.tail e.head
    raised_used = rw pushed (record { tail = enters.tail; head = at_head.1; used = enters.price ∙ ap Some (sym more) })
      where
        more : load (s.cuts.items ++ c ∷ []) (e.tail, e.head) ≡ load s.cuts.items (e.tail, e.head) + e.left
        more = rw (load-push s.cuts.items c e.tail e.head, same e.head, same e.tail, enters.inside, enters.outside, worth) refl

-- the same set, by as many arcs of more
round_kept : (n : ℕ) (chosen more : List (ℕ × ℕ)) (c : Cut) → IsRoundStrong n chosen c → IsRoundStrong n (chosen ++ more) c
round_kept n chosen more c h =
    let same : take h.place (chosen ++ more) ≡ take h.place chosen = take-append-le h.place chosen more h.few in
    record {
      ascending = h.ascending;
      place = h.place;
      few = let few = h.few in let long = length-append chosen more in omega arith;
      strong = subst (λ arcs. IsStrong arcs c.set) (sym same) h.strong;
      unentered = subst (λ arcs. IsUnentered arcs c.set) (sym same) h.unentered;
    }

map-push : (arcs : List (ℕ × ℕ)) (u v : ℕ) → map back (arcs ++ (u, v) ∷ []) ≡ map back arcs ++ (v, u) ∷ []
map-push [] u v = refl
map-push (arc ∷ arcs) u v = ap (λ l. back arc ∷ l) (map-push arcs u v)

-- one arc more is chosen
pub chosen_closing : (D : DiNetwork) (B : Branch) (s t : Closing) (u v : ℕ) → IsClosing D B s → IsSaturatedIn (di_ground D) B (rooted_packing D s.cuts.items) u v → t.cuts.items ≡ s.cuts.items → t.arcs ≡ s.arcs → t.chosen.items ≡ s.chosen.items ++ (u, v) ∷ [] → t.heads ≡ set s.heads u (heads_at s.heads u ++ v ∷ []) → t.tails ≡ set s.tails v (heads_at s.tails v ++ u ∷ []) → IsClosing D B t
chosen_closing D B s t u v is used cuts arcs chosen heads tails =
    let ends = saturated_ends D B (rooted_packing D s.cuts.items) u v is.net used in
    record {
      net = is.net;
      loaded = rw (cuts, arcs) is.loaded;
      fits = rw cuts is.fits;
      heads = rw (chosen, heads) (AreHeadsOf-push D.n s.chosen.items s.heads u v is.heads ends.0.0.1 ends.1.0.1);
      tails = rw (chosen, tails, map-push s.chosen.items u v) (AreHeadsOf-push D.n (map back s.chosen.items) s.tails v u is.tails ends.1.0.1 ends.0.0.1);
      chosen = rw (cuts, chosen) (All-push (λ arc. IsSaturatedIn (di_ground D) B (rooted_packing D s.cuts.items) arc.0 arc.1) s.chosen.items (u, v) is.chosen used);
      cuts = rw (cuts, chosen) (All-weaker (IsRoundStrong D.n s.chosen.items) (IsRoundStrong D.n (s.chosen.items ++ (u, v) ∷ [])) (λ c h. round_kept D.n s.chosen.items ((u, v) ∷ []) c h) s.cuts.items is.cuts);
    }

-- into a set that isn't entered none lead but its members
leads_within : (arcs : List (ℕ × ℕ)) (set : List ℕ) (u v : ℕ) → ((k : ℕ) (d : ℕ × ℕ) → k < length arcs → IsTrue (has set (get_or arcs k d).1) → IsTrue (has set (get_or arcs k d).0)) → IsTrue (leads_by arcs u v) → IsTrue (has set v) → IsTrue (has set u)
leads_within [] set u v within leads held = rw (eqb-true u v leads) held
leads_within (arc ∷ arcs) set u v within leads held =
    let rest : (k : ℕ) (d : ℕ × ℕ) → k < length arcs → IsTrue (has set (get_or arcs k d).1) → IsTrue (has set (get_or arcs k d).0) = λ k d below. within (suc k) d (omega arith) in
    elim (or_cases (leads_by arcs u v) (leads_by arcs u arc.0 && leads_by arcs arc.1 v) leads) [
      | inl before ↦ leads_within arcs set u v rest before held
      | inr over ↦
          let both = and_parts (leads_by arcs u arc.0) (leads_by arcs arc.1 v) over in
          leads_within arcs set u arc.0 rest both.0 (within 0 arc (omega arith) (leads_within arcs set arc.1 v rest both.1 held))
    ]

-- who leads to another still does with one arc more
leads_kept : (arcs : List (ℕ × ℕ)) (extra : ℕ × ℕ) (u v : ℕ) → IsTrue (leads_by arcs u v) → IsTrue (leads_by (arcs ++ extra ∷ []) u v)
leads_kept [] extra u v leads = or_left (u == v) _ leads
leads_kept (arc ∷ arcs) extra u v leads = elim (or_cases (leads_by arcs u v) (leads_by arcs u arc.0 && leads_by arcs arc.1 v) leads) [
  | inl before ↦ or_left (leads_by (arcs ++ extra ∷ []) u v) _ (leads_kept arcs extra u v before)
  | inr over ↦
      let both = and_parts (leads_by arcs u arc.0) (leads_by arcs arc.1 v) over in
      or_right (leads_by (arcs ++ extra ∷ []) u v) _ (and_from (leads_by (arcs ++ extra ∷ []) u arc.0) (leads_by (arcs ++ extra ∷ []) arc.1 v) (leads_kept arcs extra u arc.0 both.0) (leads_kept arcs extra arc.1 v both.1))
]

-- and its tail leads to its head
leads_new : (arcs : List (ℕ × ℕ)) (extra : ℕ × ℕ) → IsTrue (leads_by (arcs ++ extra ∷ []) extra.0 extra.1)
leads_new [] extra = or_right (extra.0 == extra.1) _ (and_from (extra.0 == extra.0) (extra.1 == extra.1) (eq-eqb extra.0 extra.0 refl) (eq-eqb extra.1 extra.1 refl))
leads_new (arc ∷ arcs) extra = or_left (leads_by (arcs ++ extra ∷ []) extra.0 extra.1) _ (leads_new arcs extra)

-- how many vertices one doesn't lead to
abbrev apart_of : ℕ → List (ℕ × ℕ) → ℕ → ℕ
apart_of n arcs x = sum_to (λ y. cond (leads_by arcs x y) 0 1) n

-- so an arc into a set that wasn't entered leaves fewer pairs apart
pub fewer_apart : (n : ℕ) (chosen : List (ℕ × ℕ)) (set : List ℕ) (u v : ℕ) → IsUnentered chosen set → IsTrue (has set v) → IsFalse (has set u) → IsVertex n u → IsVertex n v → pairs_apart n (chosen ++ (u, v) ∷ []) < pairs_apart n chosen
fewer_apart n chosen set u v within inside outside tail head = sum_to_less (apart_of n (chosen ++ (u, v) ∷ [])) (apart_of n chosen) n u (λ x low high. row x) tail.0 tail.1 own
  where
    at_most : (a b : Bool) → (IsTrue a → IsTrue b) → cond b 0 1 ≤ cond a 0 1
    at_most true b h = rw (h refl) (omega arith)
    at_most false true h = omega arith
    at_most false false h = omega arith

    one : (x y : ℕ) → cond (leads_by (chosen ++ (u, v) ∷ []) x y) 0 1 ≤ cond (leads_by chosen x y) 0 1
    one x y = at_most (leads_by chosen x y) (leads_by (chosen ++ (u, v) ∷ []) x y) (leads_kept chosen (u, v) x y)

    row : (x : ℕ) → apart_of n (chosen ++ (u, v) ∷ []) x ≤ apart_of n chosen x
    row x = sum_to_le (λ y. cond (leads_by (chosen ++ (u, v) ∷ []) x y) 0 1) (λ y. cond (leads_by chosen x y) 0 1) n (λ y low high. one x y)

    apart : IsFalse (leads_by chosen u v)
    apart = false_from_ne_true (leads_by chosen u v) (λ leads. both_ways (has set u) outside (leads_within chosen set u v within leads inside))

    own : apart_of n (chosen ++ (u, v) ∷ []) u < apart_of n chosen u
    own = sum_to_less (λ y. cond (leads_by (chosen ++ (u, v) ∷ []) u y) 0 1) (λ y. cond (leads_by chosen u y) 0 1) n v (λ y low high. one u y) head.0 head.1 (rw (leads_new chosen (u, v), apart) (omega arith))
