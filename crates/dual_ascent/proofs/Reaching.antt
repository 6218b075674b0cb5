-- What reaches a vertex over arcs with nothing left.
use Rattle.std.proofs.Common.{◌≡◌, ◌≢◌, ℕ, zero, suc, ◌+◌, ◌<◌, ◌≤◌, Bool, true, false, ◌&&◌, not, cond, eqb, List, [], ◌∷◌, ◌++◌, length, get_or, set, take, map, Some, None, inl, inr, refl, sym, ap, ◌∙◌, subst, arith, get_or-set_same, get_or-set_other, length-set}
use Rattle.std.specs.Prelude.{IsTrue, IsFalse, if◌then◌else◌, ◌==◌, All, slice_get}
use Rattle.std.proofs.lemmas.Bool.{cases_lt, false_from_ne_true, false≢true, eqb-true, eq-eqb, ne_eqb, or_left, or_right, or_cases, and_parts, not-true, both_ways}
use Rattle.std.proofs.lemmas.List.{take_at, take_all, get_or_past, get_or_push, length_push, append-nil, get_or_append_left}
use Rattle.std.proofs.lemmas.Option.{get_or_from_slice_get, slice_get_within}
use Rattle.std.proofs.lemmas.List.Elements.{All-nil, All-cons, All-append, All-push, All-weaker, recursion_from_All}
use Rattle.st_model.specs.Lists.{has}
use Rattle.st_model.specs.Network.{IsVertex}
use Rattle.st_model.specs.VertexSet.{Extends}
use Rattle.st_model.proofs.Extending.{Extends-insert}
use Rattle.st_model.proofs.Marked.{at_member, has-push, place_of}
use Rattle.st_model.specs.Led.{IsLed, AreLed, start, along}
use Rattle.st_model.proofs.Walked.{IsWalked, IsWalked-step, AreLed-done}
use Rattle.bidirected_form.specs.declared.arc.Arc.{Arc}
use Rattle.bidirected_form.specs.declared.kind.VertexKind.TheVariants.{Must}
use Rattle.bidirected_form.specs.Digraph.{Digraph, IsDigraph, arcs_into, kind_of, left_from, remaining}
use Rattle.bidirected_form.proofs.Lookups.{Rise, Rise-rest, left_from-found}
use Rattle.cut_packing.specs.declared.cut.Cut.{Cut}
use Rattle.dual_ascent.specs.declared.growing.Growth.{Growth}
use Rattle.dual_ascent.specs.Raises.{IsSaturated, Reaches, here, there}
use Rattle.dual_ascent.specs.Turns.{free_tails, AreSeeds, IsGathered, IsGrowth, IsLedTo, IsSet, leads, stops}

-- what arcs with nothing left allow, more such arcs do
pub reaches_over : (D D' : Digraph) (C C' : List Cut) → ((u v : ℕ) → IsSaturated D C u v → IsSaturated D' C' u v) → (q v : ℕ) → Reaches D C q v → Reaches D' C' q v
reaches_over D D' C C' more q v here = here
reaches_over D D' C C' more q v (there {u = u} {v = w} used rest) = there (more u w used) (reaches_over D D' C C' more q w rest)

-- the head of an arc that is there is in range, and so is its tail
pub arc_in_range : (D : Digraph) → IsDigraph D → (u v r : ℕ) → remaining D u v ≡ Some r → IsVertex D.n u
arc_in_range D h u v r is =
    let found = left_from-found (arcs_into D v) u r is in
    let a : Arc = record { tail = u; remaining = r } in
    subst (λ (b : Arc). IsVertex D.n b.tail) (found.2 a) ((h.arcs v).tails found.0 a found.1).0

pub reaches_in_range : (D : Digraph) (C : List Cut) → IsDigraph D → (q v : ℕ) → IsVertex D.n q → Reaches D C q v → IsVertex D.n v
reaches_in_range D C h q v range here = range
reaches_in_range D C h q v range (there {u = u} {v = w} used rest) = arc_in_range D h u w _ used

-- the tails of arcs with nothing left
pub free_tail : (arcs : List Arc) (u : ℕ) → Rise arcs → IsTrue (has (free_tails arcs) u) → left_from arcs u ≡ Some 0
free_tail [] u h held = absurd (false≢true held)
free_tail (a ∷ arcs) u h held = by_case (eqb a.remaining 0) (eqb a.tail u) refl refl (free_tail arcs u (Rise-rest a arcs h)) held
  where
    later : left_from arcs u ≡ Some 0 → eqb a.tail u ≡ true → ⊥
    later is same =
        let found = left_from-found arcs u 0 is in
        let rise : a.tail < (get_or arcs found.0 a).tail = h 0 (suc found.0) a (omega arith) (omega (arith, found.1)) in
        let tail : (get_or arcs found.0 a).tail ≡ u = ap (λ (b : Arc). b.tail) (found.2 a) in
        omega (arith, rise, tail, eqb-true a.tail u same)

    by_case : (free same : Bool) → eqb a.remaining 0 ≡ free → eqb a.tail u ≡ same → (IsTrue (has (free_tails arcs) u) → left_from arcs u ≡ Some 0) → IsTrue (has (cond free (a.tail ∷ free_tails arcs) (free_tails arcs)) u) → cond same (Some a.remaining) (left_from arcs u) ≡ Some 0
    by_case true true e f rest held = ap Some (eqb-true a.remaining 0 e)
    by_case true false e f rest held = rest (rw f at held)
    by_case false true e f rest held = absurd (later (rest held) f)
    by_case false false e f rest held = rest held

pub tail_free : (arcs : List Arc) (u : ℕ) → left_from arcs u ≡ Some 0 → IsTrue (has (free_tails arcs) u)
tail_free [] u is = absurd (let clash : ⊥ = cc in clash)
tail_free (a ∷ arcs) u is = by_case (eqb a.remaining 0) (eqb a.tail u) refl refl (tail_free arcs u) is
  where
    by_case : (free same : Bool) → eqb a.remaining 0 ≡ free → eqb a.tail u ≡ same → (left_from arcs u ≡ Some 0 → IsTrue (has (free_tails arcs) u)) → cond same (Some a.remaining) (left_from arcs u) ≡ Some 0 → IsTrue (has (cond free (a.tail ∷ free_tails arcs) (free_tails arcs)) u)
    by_case true true e f rest is = or_left (eqb a.tail u) _ f
    by_case true false e f rest is = or_right (eqb a.tail u) _ (rest is)
    by_case false true e f rest is = let zero_is : a.remaining ≡ 0 = cc in absurd (false≢true (sym e ∙ eq-eqb a.remaining 0 zero_is))
    by_case false false e f rest is = rest is

-- the tails of the arcs with nothing left into each vertex
abbrev pub free_into : Digraph → List (List ℕ)
free_into D = map free_tails D.arcs

into-map : (rows : List (List Arc)) (v : ℕ) → get_or (map free_tails rows) v [] ≡ free_tails (get_or rows v [])
into-map [] v = refl
into-map (row ∷ rows) zero = refl
into-map (row ∷ rows) (suc v) = into-map rows v

-- whoever is led to by these tails reaches the vertex
pub led_reaches : (D : Digraph) → IsDigraph D → (q v : ℕ) → IsLed (free_into D) q v → Reaches D [] q v
led_reaches D h q v start = here
led_reaches D h q v (along {u = u} {v = w} led listed) = there (free_tail (arcs_into D u) w (h.arcs u).ascending (rw (into-map D.arcs u) at listed)) (led_reaches D h q u led)

pub reaches_led : (D : Digraph) (q v : ℕ) → Reaches D [] q v → IsLed (free_into D) q v
reaches_led D q v here = start
reaches_led D q v (there {u = u} {v = w} used rest) = along (reaches_led D q w rest) (rw (into-map D.arcs w) (tail_free (arcs_into D w) u used))

-- what is led to is in the set that has all of it
pub reached_is_in : (D : Digraph) (q v : ℕ) (members : List ℕ) → AreLed (free_into D) q members → Reaches D [] q v → IsTrue (has members v)
reached_is_in D q v members h here = h.root
reached_is_in D q v members h (there {u = u} {v = w} used rest) = h.closed w u (reached_is_in D q w members h rest) (rw (into-map D.arcs w) (tail_free (arcs_into D w) u used))

-- one vertex more
pub Extends-push : (old now new vertices : List ℕ) (t : ℕ) → Extends old now vertices → new ≡ (if has now t then now else now ++ t ∷ []) → Extends old new (vertices ++ t ∷ [])
Extends-push old now new vertices t h is =
    let k = length vertices in
    let long = length_push vertices t in
    let front : take k (vertices ++ t ∷ []) ≡ vertices = take_at vertices (t ∷ []) k refl in
    let last : get_or (vertices ++ t ∷ []) k 0 ≡ t = get_or_push vertices t 0 k refl in
    let before : Extends old now (take k (vertices ++ t ∷ [])) = subst (Extends old now) (sym front) h in
    let pushed : new ≡ (if has now (get_or (vertices ++ t ∷ []) k 0) then now else now ++ get_or (vertices ++ t ∷ []) k 0 ∷ []) = subst (λ (x : ℕ). new ≡ (if has now x then now else now ++ x ∷ [])) (sym last) is in
    subst (Extends old new) (take_all (k + 1) (vertices ++ t ∷ []) (omega (arith, long))) (Extends-insert old now new (vertices ++ t ∷ []) k (omega (arith, long)) before pushed)

free_tails-append : (arcs more : List Arc) → free_tails (arcs ++ more) ≡ free_tails arcs ++ free_tails more
free_tails-append [] more = refl
free_tails-append (a ∷ arcs) more = rw (free_tails-append arcs more) (by_case (eqb a.remaining 0))
  where
    by_case : (b : Bool) → (if b then a.tail ∷ (free_tails arcs ++ free_tails more) else free_tails arcs ++ free_tails more) ≡ (if b then a.tail ∷ free_tails arcs else free_tails arcs) ++ free_tails more
    by_case true = refl
    by_case false = refl

-- an arc with nothing left is looked at
pub tails_with : (old now new : List ℕ) (arcs : List Arc) (a : Arc) → a.remaining ≡ 0 → new ≡ (if has now a.tail then now else now ++ a.tail ∷ []) → Extends old now (free_tails arcs) → Extends old new (free_tails (arcs ++ a ∷ []))
tails_with old now new arcs a free is h = subst (Extends old new) (sym (free_tails-append arcs (a ∷ []) ∙ rw (eq-eqb a.remaining 0 free) refl)) (Extends-push old now new (free_tails arcs) a.tail h is)

-- and one of which something is left
pub tails_past : (old now : List ℕ) (arcs : List Arc) (a : Arc) → (a.remaining ≡ 0 → ⊥) → Extends old now (free_tails arcs) → Extends old now (free_tails (arcs ++ a ∷ []))
tails_past old now arcs a some h = subst (Extends old now) (sym (free_tails-append arcs (a ∷ []) ∙ rw (ne_eqb a.remaining 0 some) (append-nil (free_tails arcs)))) h

-- the first members have been asked who reaches them
pub record IsGrowing (D : Digraph) (q next : ℕ) (members : List ℕ) : Type 0 where
  pub walked : IsWalked (free_into D) q next members
  pub seeds : AreSeeds D q members

pub growing_from : (D : Digraph) (q : ℕ) (members : List ℕ) → AreSeeds D q members → IsGrowing D q 0 members
growing_from D q members s = record {
  walked = record { root = s.held; sound = All-weaker (Reaches D [] q) (IsLed (free_into D) q) (reaches_led D q) members s.reaching; closed = λ k before within v listed. absurd (omega arith) };
  seeds = s;
}

-- more members are in range
pub in_range_more : (D : Digraph) (v : ℕ) (members new : List ℕ) → IsDigraph D → Extends members new (free_tails (arcs_into D v)) → All (IsVertex D.n) members → All (IsVertex D.n) new
in_range_more D v members new h e all = rw e.appended (All-append (IsVertex D.n) members e.more all (All-weaker (λ u. IsTrue (has (free_tails (arcs_into D v)) u)) (IsVertex D.n) (λ u held. arc_in_range D h u v 0 (free_tail (arcs_into D v) u (h.arcs v).ascending held)) e.more e.only))

-- one member more has been asked
pub growing_more : (D : Digraph) (q next v : ℕ) (members new : List ℕ) → IsDigraph D → slice_get members next ≡ Some v → Extends members new (free_tails (arcs_into D v)) → IsGrowing D q next members → IsGrowing D q (next + 1) new
growing_more D q next v members new h at e g = record {
  walked = walked;
  seeds = record { held = walked.root; in_range = in_range_more D v members new h e g.seeds.in_range; reaching = All-weaker (IsLed (free_into D) q) (Reaches D [] q) (led_reaches D h q) new walked.sound };
}
  where
    walked : IsWalked (free_into D) q (next + 1) new
    walked = IsWalked-step (free_into D) q next v members new at (subst (Extends members new) (sym (into-map D.arcs v)) e) g.walked

-- the search stops at none of the first members
abbrev pub AreApart : (ℕ → Bool) → ℕ → List ℕ → Type 0
AreApart stops_at next members = (k : ℕ) → k < next → k < length members → IsFalse (stops_at (get_or members k 0))

pub apart_more : (stops_at : ℕ → Bool) (next v : ℕ) (members new vertices : List ℕ) → slice_get members next ≡ Some v → IsFalse (stops_at v) → Extends members new vertices → AreApart stops_at next members → AreApart stops_at (next + 1) new
apart_more stops_at next v members new vertices at out e h k before within = elim (cases_lt k next) [
  | inl earlier ↦ rw (front k (omega (arith, earlier, below))) (h k earlier (omega (arith, earlier, below)))
  | inr later ↦ let same : k ≡ next = omega (arith, before, later) in rw (same, front next below, get_or_from_slice_get members next v 0 at) out
]
  where
    below : next < length members
    below = slice_get_within members next v at

    front : (j : ℕ) → j < length members → get_or new j 0 ≡ get_or members j 0
    front j inside = rw e.appended (get_or_append_left members e.more 0 j inside)

-- it stops at a member
pub growing_met : (D : Digraph) (q next v : ℕ) (stops_at : ℕ → Bool) (members : List ℕ) → slice_get members next ≡ Some v → IsTrue (stops_at v) → IsGrowing D q next members → IsGathered D q stops_at members (Some v)
growing_met D q next v stops_at members at met g = (met, subst (Reaches D [] q) (get_or_from_slice_get members next v 0 at) (g.seeds.reaching next 0 (slice_get_within members next v at)))

-- all have been asked
pub growing_done : (D : Digraph) (q next : ℕ) (stops_at : ℕ → Bool) (members : List ℕ) → length members ≤ next → AreApart stops_at next members → IsGrowing D q next members → IsGathered D q stops_at members None
growing_done D q next stops_at members all apart g = (λ v. (λ held. at_member (Reaches D [] q) members v (recursion_from_All (Reaches D [] q) members g.seeds.reaching) held, λ reaching. reached_is_in D q v members (AreLed-done (free_into D) q next members all g.walked) reaching), λ v held. out v (place_of members v held))
  where
    out : (v : ℕ) → (k : ℕ) × (k < length members) × (get_or members k 0 ≡ v) → IsFalse (stops_at v)
    out v p = subst (λ (w : ℕ). IsFalse (stops_at w)) p.2 (apart p.0 (omega (arith, p.1, all)) p.1)

-- whom one reaches that the root reaches, the root reaches
pub reaches_through : (D : Digraph) (C : List Cut) (q v w : ℕ) → Reaches D C q v → Reaches D C v w → Reaches D C q w
reaches_through D C q v w near here = near
reaches_through D C q v w near (there {u = u} {v = x} used rest) = there used (reaches_through D C q v x near rest)

-- one vertex alone
pub alone_is_seed : (D : Digraph) (q : ℕ) → IsVertex D.n q → AreSeeds D q (q ∷ [])
alone_is_seed D q range = record {
  held = or_left (q == q) _ (eq-eqb q q refl);
  in_range = All-cons (IsVertex D.n) q [] range (All-nil (IsVertex D.n));
  reaching = All-cons (Reaches D [] q) q [] here (All-nil (Reaches D [] q));
}

-- a vertex alone in a set that was empty
pub alone : (D : Digraph) (q : ℕ) (members : List ℕ) → IsVertex D.n q → members ≡ q ∷ [] → AreSeeds D q members
alone D q members range is = rw is (alone_is_seed D q range)

-- the root reaches itself
pub growth_start : (D : Digraph) (g : Growth) → g.set.count ≡ D.n + 1 → g.set.members ≡ [] → g.known.reached.count ≡ D.n + 1 → length g.known.leads.items ≡ D.n + 1 → g.known.reached.members ≡ D.root ∷ [] → IsGrowth D g
growth_start D g set empty reached leads is = record {
  set_count = set;
  in_range = rw empty (All-nil (IsVertex D.n));
  reached_count = reached;
  leads_count = leads;
  root = rw is (or_left (D.root == D.root) _ (eq-eqb D.root D.root refl));
  reached = rw is (All-cons (λ v. Reaches D [] v D.root) D.root [] here (All-nil (λ v. Reaches D [] v D.root)));
}

-- and one vertex more
pub reached_more : (D : Digraph) (old new : List ℕ) (q : ℕ) → new ≡ (if has old q then old else old ++ q ∷ []) → Reaches D [] q D.root → IsTrue (has old D.root) → All (λ v. Reaches D [] v D.root) old
    → IsTrue (has new D.root) × All (λ v. Reaches D [] v D.root) new
reached_more D old new q is reaching root all = by_case (has old q) is
  where
    by_case : (b : Bool) → new ≡ (if b then old else old ++ q ∷ []) → IsTrue (has new D.root) × All (λ v. Reaches D [] v D.root) new
    by_case true e = rw e (root, all)
    by_case false e = rw (e, has-push old q D.root) (or_left _ _ root, All-push (λ v. Reaches D [] v D.root) old q all reaching)

-- the root reaches whom one reaches that it is known to reach
pub root_reaches : (D : Digraph) (g : Growth) (q v : ℕ) → IsGrowth D g → IsTrue (has g.known.reached.members v) → Reaches D [] q v → Reaches D [] q D.root
root_reaches D g q v h known reaching = reaches_through D [] q v D.root reaching (at_member (λ w. Reaches D [] w D.root) g.known.reached.members v (recursion_from_All (λ w. Reaches D [] w D.root) g.known.reached.members h.reached) known)

-- where the search stops at v, q is led to
pub led_to : (D : Digraph) (g : Growth) (q v : ℕ) → IsGrowth D g → IsTrue (stops g.known q v) → Reaches D [] q v → IsLedTo D g.known.leads.items q
led_to D g q v h stopped reaching = elim (or_cases (has g.known.reached.members v) (leads g.known.leads.items v && not (v == q)) stopped) [
  | inl known ↦ inl (root_reaches D g q v h known reaching)
  | inr leading ↦ let parts = and_parts (leads g.known.leads.items v) (not (v == q)) leading in inr (v, parts.0, (λ same. both_ways (v == q) (not-true (v == q) parts.1) (eq-eqb v q same)), reaching)
]

-- a set at none of whose members it stops doesn't have the root
pub root_apart : (D : Digraph) (g : Growth) (q : ℕ) (set : List ℕ) → IsGrowth D g → IsGathered D q (stops g.known q) set None → IsSet D q set
root_apart D g q set h gathered = (gathered.0, false_from_ne_true (has set D.root) (λ held. false≢true (sym (gathered.1 D.root held) ∙ or_left (has g.known.reached.members D.root) _ h.root)))

-- q leads no more
pub leads_no_more : (marks : List Bool) (q v : ℕ) → q < length marks → IsTrue (leads (set marks q false) v) → IsTrue (leads marks v) × (v ≢ q)
leads_no_more marks q v below led = by_case (v == q) refl
  where
    by_case : (b : Bool) → (v == q) ≡ b → IsTrue (leads marks v) × (v ≢ q)
    by_case true same = let is = eqb-true v q same in absurd (false≢true (sym (get_or-set_same marks q false false below) ∙ subst (λ (w : ℕ). IsTrue (leads (set marks q false) w)) is led))
    by_case false other = let apart : v ≢ q = λ is. false≢true (sym other ∙ eq-eqb v q is) in (sym (get_or-set_other marks q v false false apart) ∙ led, apart)

-- one mark more
pub certain_more : (D : Digraph) (marks : List Bool) (b : Bool) → (IsTrue b → kind_of D (length marks) ≡ Must) → ((v : ℕ) → IsTrue (leads marks v) → kind_of D v ≡ Must) → (v : ℕ) → IsTrue (leads (marks ++ b ∷ []) v) → kind_of D v ≡ Must
certain_more D marks b must h v led = elim (cases_lt v (length marks)) [
  | inl below ↦ h v (sym (get_or_append_left marks (b ∷ []) false v below) ∙ led)
  | inr past ↦ elim (cases_lt (length marks) v) [
    | inl beyond ↦ absurd (false≢true (sym (get_or_past (marks ++ b ∷ []) v false (omega (arith, beyond, length_push marks b))) ∙ led))
    | inr within ↦ let is : v ≡ length marks = omega (arith, past, within) in ap (kind_of D) is ∙ must (sym (get_or_push marks b false v (sym is)) ∙ led)
  ]
]

-- a vertex that the search led to, with what is known of the others
pub growth_covered : (D : Digraph) (old new : Growth) (q : ℕ) → new.set.count ≡ old.set.count → All (IsVertex D.n) new.set.members → new.known.reached.count ≡ old.known.reached.count → new.known.leads.items ≡ set old.known.leads.items q false
    → IsTrue (has new.known.reached.members D.root) × All (λ w. Reaches D [] w D.root) new.known.reached.members → IsGrowth D old → IsGrowth D new
growth_covered D old new q set_same in_range reached_same leads_are reached h = record {
  set_count = set_same ∙ h.set_count;
  in_range = in_range;
  reached_count = reached_same ∙ h.reached_count;
  leads_count = ap length leads_are ∙ length-set old.known.leads.items q false ∙ h.leads_count;
  root = reached.0;
  reached = reached.1;
}
