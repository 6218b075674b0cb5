-- The arcs of a directed network one after another, and those that are open in a branch.
use Rattle.std.proofs.Common.{◌≡◌, ℕ, zero, suc, ◌+◌, ◌<◌, Bool, true, false, not, cond, ◌&&◌, List, [], ◌∷◌, ◌++◌, length, get_or, take, Option, Some, None, is_some, ◌⊎◌, inl, inr, refl, sym, ap, ◌∙◌, arith}
use Rattle.std.specs.Prelude.{◌==◌, IsTrue, IsFalse, IsSome, All, AllPairs}
use Rattle.std.specs.List.{list_any}
use Rattle.std.proofs.lemmas.Bool.{eqb-true, eq-eqb, or_cases, and_parts, not-true, both_ways, false≢true}
use Rattle.std.proofs.lemmas.Bool.{cases_lt}
use Rattle.std.proofs.lemmas.Bool.Decides.{nat_tests}
use Rattle.std.proofs.lemmas.List.{get_or_past, length-set, take_more}
use Rattle.std.proofs.lemmas.List.Elements.{All-head, All-tail}
use Rattle.st_model.specs.declared.branch.Branch.{Branch}
use Rattle.st_model.specs.declared.link.Link.{Link}
use Rattle.st_model.specs.Branch.{is_present, open_price}
use Rattle.st_model.specs.Ground.{Ground}
use Rattle.st_model.specs.Led.{heads_at}
use Rattle.st_model.specs.Lists.{has}
use Rattle.st_model.specs.Made.{has_pair}
use Rattle.st_model.proofs.Marked.{has_at}
use Rattle.st_model.proofs.Pairs.{open_unbarred, open_parts}
use Rattle.cut_packing.specs.declared.arcs.LoadedArc.{LoadedArc}
use Rattle.cut_packing.specs.Loads.{arcs_into, has_arc, with_arc, IsLoadedIn, AreLoadedIn}
use Rattle.cut_packing.proofs.Loaded.{free_arc, sound-with_arc, has_arc-kept, has_arc-new}
use Rattle.arborescence.specs.DiNetwork.{DiNetwork, IsDiNetwork, IsArcBetween, leads, arc_from, di_ground}
use Rattle.arborescence.specs.Open.{IsOpenIn, AreOpenIn}
use Rattle.arborescence.proofs.Putting.{leads_ends}

-- an arc more leads where the arcs did, or from its tail to its head
arc-push : (ls : List Link) (l : Link) (u v : ℕ) → IsSome (arc_from (ls ++ l ∷ []) u v) → IsSome (arc_from ls u v) ⊎ IsTrue (leads l u v)
arc-push [] l u v h = alone (leads l u v) h
  where
    alone : (b : Bool) → IsSome (cond b (Some l.cost) None) → IsSome {T = ℕ} None ⊎ IsTrue b
    alone true h' = inr refl
    alone false h' = absurd (false≢true h')
arc-push (m ∷ ms) l u v h = step (leads m u v) h (arc-push ms l u v)
  where
    step : (b : Bool) → IsSome (cond b (Some m.cost) (arc_from (ms ++ l ∷ []) u v)) → (IsSome (arc_from (ms ++ l ∷ []) u v) → IsSome (arc_from ms u v) ⊎ IsTrue (leads l u v)) → IsSome (cond b (Some m.cost) (arc_from ms u v)) ⊎ IsTrue (leads l u v)
    step true found rest = inl refl
    step false found rest = rest found

-- where no pair stands twice, the arc from the tail to the head of an arc is that arc
pub arc_at : (ls : List Link) (i : ℕ) (d : Link) → AllPairs (λ l m. IsFalse (leads m l.a l.b)) ls → i < length ls → arc_from ls (get_or ls i d).a (get_or ls i d).b ≡ Some (get_or ls i d).cost
arc_at [] i d apart below = absurd (omega arith)
arc_at (l ∷ ls) zero d apart below = rw (eq-eqb l.a l.a refl, eq-eqb l.b l.b refl) refl
arc_at (l ∷ ls) (suc i) d apart below =
    rw (turned l (get_or ls i d) (apart 0 (suc i) d (omega arith) below)) (arc_at ls i d (λ j k e before last. apart (suc j) (suc k) e (omega arith) (omega arith)) (omega arith))
  where
    turned : (l m : Link) → leads m l.a l.b ≡ false → leads l m.a m.b ≡ false
    turned l m h = grind (arith, nat_tests)

-- the price by the first arcs alone
abbrev pub first_price : DiNetwork → ℕ → ℕ → ℕ → Option ℕ
first_price D i u v = cond (v == D.root) None (arc_from (take i D.arcs) u v)

-- whether neither end of an arc is outside, it isn't barred, and it doesn't lead to the root
abbrev pub is_open : DiNetwork → Branch → Link → Bool
is_open D B l = (is_present B l.a && is_present B l.b) && (not (has_pair B.barred l.a l.b) && not (l.b == D.root))

module _ (D : DiNetwork) (B : Branch) (net : IsDiNetwork D) (i : ℕ) (d : Link) (below : i < length D.arcs) (arcs : List (List LoadedArc)) (h : AreLoadedIn (di_ground D) B (first_price D i) [] arcs) where
  own : Link
  own = get_or D.arcs i d

  -- what the first arcs and the next one give
  priced : (u v : ℕ) → IsSome (first_price D (i + 1) u v) → IsSome (first_price D i u v) ⊎ ((own.a ≡ u) × (own.b ≡ v) × IsFalse (v == D.root))
  unfolding own
  priced u v some = step (v == D.root) refl (rw (take_more D.arcs i d below) at some)
    where
      step : (b : Bool) → (v == D.root) ≡ b → IsSome (cond b None (arc_from (take i D.arcs ++ get_or D.arcs i d ∷ []) u v)) → IsSome (cond b None (arc_from (take i D.arcs) u v)) ⊎ (((get_or D.arcs i d).a ≡ u) × ((get_or D.arcs i d).b ≡ v) × IsFalse b)
      step true e f = absurd (false≢true f)
      step false e f = elim (arc-push (take i D.arcs) (get_or D.arcs i d) u v f) [
        | inl before ↦ inl before
        | inr new ↦ let ends = leads_ends (get_or D.arcs i d) u v new in inr (ends.0, ends.1, refl)
      ]

  -- an arc that isn't open
  pub arc_skipped : IsFalse (is_open D B (get_or D.arcs i d)) → AreLoadedIn (di_ground D) B (first_price D (i + 1)) [] arcs
  unfolding own
  arc_skipped closed = record {
    count = h.count;
    sound = h.sound;
    complete = λ u v tail head free some. elim (priced u v some) [
      | inl before ↦ h.complete u v tail head free before
      | inr new ↦ absurd (both_ways (is_open D B (get_or D.arcs i d)) closed (rw (new.0, new.1, tail, head, free, new.2) refl))
    ];
  }

  -- one that is
  pub arc_added : IsTrue (is_open D B (get_or D.arcs i d)) → AreLoadedIn (di_ground D) B (first_price D (i + 1)) [] (with_arc arcs (get_or D.arcs i d).b (free_arc (get_or D.arcs i d).a (get_or D.arcs i d).cost))
  unfolding own
  arc_added opened = record {
    count = length-set arcs own.b _ ∙ h.count;
    sound = sound-with_arc (di_ground D) B [] arcs own.b (free_arc own.a own.cost) high loaded h.sound;
    complete = λ u v tail head free some. elim (priced u v some) [
      | inl before ↦ has_arc-kept arcs own.b (free_arc own.a own.cost) u v high (h.complete u v tail head free before)
      | inr new ↦ rw (← new.0, ← new.1) (has_arc-new arcs own.b (free_arc own.a own.cost) high)
    ];
  }
    where
      ends : IsArcBetween D.n own
      ends = net.ends i d below

      high : own.b < length arcs
      high = omega (arith, h.count, ends.head.1)

      parts : IsTrue (is_present B own.a && is_present B own.b) × IsTrue (not (has_pair B.barred own.a own.b) && not (own.b == D.root))
      parts = and_parts (is_present B own.a && is_present B own.b) (not (has_pair B.barred own.a own.b) && not (own.b == D.root)) opened

      both : IsTrue (is_present B own.a) × IsTrue (is_present B own.b)
      both = and_parts (is_present B own.a) (is_present B own.b) parts.0

      free : IsTrue (not (has_pair B.barred own.a own.b)) × IsTrue (not (own.b == D.root))
      free = and_parts (not (has_pair B.barred own.a own.b)) (not (own.b == D.root)) parts.1

      price : open_price (di_ground D) B own.a own.b ≡ Some own.cost
      price = open_unbarred (di_ground D) B own.a own.b (not-true (has_pair B.barred own.a own.b) free.0) ∙ rw (not-true (own.b == D.root) free.1) (arc_at D.arcs i d net.one_each below)

      loaded : IsLoadedIn (di_ground D) B [] own.b (free_arc own.a own.cost)
      loaded = record { in_range = ends.tail.1; tail = both.0; head = both.1; cost = price; load = refl }

-- an arc that is there is open
arc_open : (G : Ground) (B : Branch) (u v : ℕ) (arcs : List LoadedArc) → All (IsLoadedIn G B [] v) arcs → IsTrue (list_any (λ arc. arc.tail == u) arcs) → IsOpenIn G B u v
arc_open G B u v [] loaded there = absurd (false≢true there)
arc_open G B u v (arc ∷ arcs) loaded there = elim (or_cases (arc.tail == u) (list_any (λ a. a.tail == u) arcs) there) [
  | inl now ↦
      let one = All-head (IsLoadedIn G B [] v) arc arcs loaded in
      rw (← eqb-true arc.tail u now) (record { tail = one.tail; head = one.head; price = ap is_some one.cost })
  | inr later ↦ arc_open G B u v arcs (All-tail (IsLoadedIn G B [] v) arc arcs loaded) later
]

-- the heads of the arcs are those of the open ones
pub AreOpen-from : (G : Ground) (B : Branch) (arcs : List (List LoadedArc)) (heads : List (List ℕ)) → AreLoadedIn G B G.price [] arcs → length heads ≡ G.n + 1 → ((u v : ℕ) → has (heads_at heads u) v ≡ has_arc arcs u v) → AreOpenIn G B heads
AreOpen-from G B arcs heads h count listed = record {
  count = count;
  in_range = λ u k d below. head_below u _ (has_at (heads_at heads u) k d below);
  exact = λ u v. (
    λ held. arc_open G B u v (arcs_into arcs v) (h.sound v) (sym (listed u v) ∙ held),
    λ opened. let parts = open_parts G B u v opened.price in listed u v ∙ h.complete u v opened.tail opened.head parts.0 parts.1,
  );
}
  where
    head_below : (u v : ℕ) → IsTrue (has (heads_at heads u) v) → v < length heads
    head_below u v held =
        elim (cases_lt v (length heads)) [
          | inl below ↦ below
          | inr past ↦
              let none : arcs_into arcs v ≡ [] = get_or_past arcs v [] (omega (arith, h.count)) in
              absurd (false≢true (sym (listed u v ∙ ap (λ list. list_any (λ arc. arc.tail == u) list) none) ∙ held))
        ]
