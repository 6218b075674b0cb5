-- Arcs between present vertices: a link more, and a cut more.
use Rattle.std.proofs.Common.{◌≡◌, ◌≢◌, ℕ, zero, suc, ◌+◌, ◌*◌, ◌^◌, ◌<◌, ◌≤◌, Bool, true, false, not, ◌&&◌, List, [], ◌∷◌, ◌++◌, length, map, get_or, set, take, Option, Some, None, ◌⊎◌, inl, inr, refl, sym, ◌∙◌, get_or-set_same, get_or-set_other, arith}
use Rattle.std.specs.Prelude.{◌==◌, if◌then◌else◌, IsTrue, IsFalse, IsSome, All, AllPairs}
use Rattle.std.specs.List.{list_any, AllByRecursion}
use Rattle.std.proofs.Math.Bool.{or-true, or-false}
use Rattle.std.proofs.lemmas.Bool.{cases_eq, cases_lt, eqb-true, eq-eqb, ne_eqb, or_cases, or_left, or_right, and_parts, not-true, both_ways, false≢true}
use Rattle.std.proofs.lemmas.Bool.Decides.{nat_tests}
use Rattle.std.proofs.lemmas.List.{get_or_past, length-set, take_more}
use Rattle.std.proofs.lemmas.List.Elements.{All-push, All-map, All-weaker, All-nil}
use Rattle.std.proofs.lemmas.List.Folds.{list_any-append}
use Rattle.st_model.specs.declared.branch.Branch.{Branch}
use Rattle.st_model.specs.declared.link.Link.{Link}
use Rattle.st_model.specs.Lists.{has}
use Rattle.st_model.specs.Network.{Network, IsVertex, IsLinkBetween, IsInstance, joins, link}
use Rattle.st_model.specs.Ground.{Ground, ground}
use Rattle.st_model.specs.Made.{has_pair}
use Rattle.st_model.specs.Branch.{is_present, open_link}
use Rattle.cut_packing.specs.declared.arcs.LoadedArc.{LoadedArc}
use Rattle.cut_packing.specs.declared.cut.Cut.{Cut}
use Rattle.cut_packing.specs.Packing.{load}
use Rattle.cut_packing.specs.Loads.{arcs_into, has_arc, with_arc, laid, IsLoadedIn, AreLoadedIn, IsLoaded, AreLoaded}
use Rattle.st_model.proofs.Sums.{total-append}
use Rattle.st_model.specs.VertexSet.{AllApart}
use Rattle.st_model.proofs.Distinct.{link-comm}
use Rattle.st_model.proofs.Marked.{AllApart-at, has_more}
use Rattle.st_model.proofs.Pairs.{has_pair-comm, open_unbarred, open-comm}

-- a link more joins what the links joined, and its ends
link-push : (ls : List Link) (l : Link) (u v : ℕ) → IsSome (link (ls ++ l ∷ []) u v) → IsSome (link ls u v) ⊎ IsTrue (joins l u v)
link-push [] l u v h = alone (joins l u v) h
  where
    alone : (b : Bool) → IsSome (if b then Some l.cost else None) → IsSome {T = ℕ} None ⊎ IsTrue b
    alone true h' = inr refl
    alone false h' = absurd (false≢true h')
link-push (m ∷ ls) l u v h = step (joins m u v) h (link-push ls l u v)
  where
    step : (b : Bool) → IsSome (if b then Some m.cost else link (ls ++ l ∷ []) u v) → (IsSome (link (ls ++ l ∷ []) u v) → IsSome (link ls u v) ⊎ IsTrue (joins l u v)) → IsSome (if b then Some m.cost else link ls u v) ⊎ IsTrue (joins l u v)
    step true found rest = inl refl
    step false found rest = rest found

-- where no pair stands twice, the link between the ends of a link is that link
pub link_at : (ls : List Link) (i : ℕ) (d : Link) → AllPairs (λ l m. IsFalse (joins m l.a l.b)) ls → i < length ls → link ls (get_or ls i d).a (get_or ls i d).b ≡ Some (get_or ls i d).cost
link_at [] i d apart below = absurd (omega arith)
link_at (l ∷ ls) zero d apart below = rw (own l) refl
  where
    own : (m : Link) → joins m m.a m.b ≡ true
    own m = or_left ((m.a == m.a) && (m.b == m.b)) _ (rw (eq-eqb m.a m.a refl, eq-eqb m.b m.b refl) refl)
link_at (l ∷ ls) (suc i) d apart below =
    rw (turned l (get_or ls i d) ∙ apart 0 (suc i) d (omega arith) below) (link_at ls i d (λ j k e before last. apart (suc j) (suc k) e (omega arith) (omega arith)) (omega arith))
  where
    turned : (l m : Link) → joins l m.a m.b ≡ joins m l.a l.b
    turned l m = grind (arith, nat_tests)

-- the arcs into the vertices after those into one are replaced
into-set : (arcs : List (List LoadedArc)) (i v : ℕ) (new : List LoadedArc) (P : List LoadedArc → Type 0) → i < length arcs → (v ≡ i → P new) → (v ≢ i → P (arcs_into arcs v)) → P (arcs_into (set arcs i new) v)
into-set arcs i v new P below same other =
    elim (cases_eq v i) [
      | inl e ↦ rw (e, get_or-set_same) (same e)
      | inr e ↦ let apart : v ≢ i = e in rw get_or-set_other (other e)
    ]

-- an arc more that is loaded
pub sound-with_arc : (G : Ground) (B : Branch) (cuts : List Cut) (arcs : List (List LoadedArc)) (head : ℕ) (arc : LoadedArc) → head < length arcs → IsLoadedIn G B cuts head arc → ((v : ℕ) → All (IsLoadedIn G B cuts v) (arcs_into arcs v)) → (v : ℕ) → All (IsLoadedIn G B cuts v) (arcs_into (with_arc arcs head arc) v)
sound-with_arc G B cuts arcs head arc below loaded sound v =
    into-set arcs head v _ (All (IsLoadedIn G B cuts v)) below (λ same. rw same (All-push (IsLoadedIn G B cuts head) (arcs_into arcs head) arc (sound head) loaded)) (λ other. sound v)

-- the arcs that were there stay
pub has_arc-kept : (arcs : List (List LoadedArc)) (head : ℕ) (arc : LoadedArc) (u v : ℕ) → head < length arcs → IsTrue (has_arc arcs u v) → IsTrue (has_arc (with_arc arcs head arc) u v)
has_arc-kept arcs head arc u v below h =
    into-set arcs head v _ (λ list. IsTrue (list_any (λ a. a.tail == u) list)) below (λ same. rw (list_any-append (λ a. a.tail == u) (arcs_into arcs head) (arc ∷ [])) (or_left _ _ (rw same at h))) (λ other. h)

-- and the new one is there
pub has_arc-new : (arcs : List (List LoadedArc)) (head : ℕ) (arc : LoadedArc) → head < length arcs → IsTrue (has_arc (with_arc arcs head arc) arc.tail head)
has_arc-new arcs head arc below =
    rw (get_or-set_same, list_any-append (λ a. a.tail == arc.tail) (arcs_into arcs head) (arc ∷ [])) (or_right _ _ (or_left _ _ (eq-eqb arc.tail arc.tail refl)))

-- what a link joins are its ends, in either order
pub joined_ends : (l : Link) (u v : ℕ) → IsTrue (joins l u v) → ((l.a ≡ u) × (l.b ≡ v)) ⊎ ((l.a ≡ v) × (l.b ≡ u))
joined_ends l u v h =
    elim (or_cases ((l.a == u) && (l.b == v)) ((l.a == v) && (l.b == u)) h) [
      | inl e ↦ let p = and_parts (l.a == u) (l.b == v) e in inl (eqb-true l.a u p.0, eqb-true l.b v p.1)
      | inr e ↦ let p = and_parts (l.a == v) (l.b == u) e in inr (eqb-true l.a v p.0, eqb-true l.b u p.1)
    ]

-- what is linked is a vertex
pub linked_vertex : (n : ℕ) (ls : List Link) (u v : ℕ) → AllByRecursion (IsLinkBetween n) ls → IsSome (link ls u v) → IsVertex n u
linked_vertex n [] u v ends some = absurd (false≢true some)
linked_vertex n (l ∷ ls) u v ends some = step (joins l u v) refl some (linked_vertex n ls u v ends.1)
  where
    step : (b : Bool) → joins l u v ≡ b → IsSome (if b then Some l.cost else link ls u v) → (IsSome (link ls u v) → IsVertex n u) → IsVertex n u
    step true joined found rest =
        elim (joined_ends l u v joined) [
          | inl e ↦ rw (← e.0) (ends.0.low, omega (arith, ends.0.ordered, ends.0.high))
          | inr e ↦ rw (← e.1) (omega (arith, ends.0.low, ends.0.ordered), ends.0.high)
        ]
    step false joined found rest = rest found

-- whether neither end of a link is outside, and it isn't barred
abbrev pub is_open : Branch → Link → Bool
is_open B l = (is_present B l.a && is_present B l.b) && not (has_pair B.barred l.a l.b)

-- a link that isn't open gives no arc
pub AreLoaded-skip : (I : Network) (B : Branch) (ls : List Link) (cuts : List Cut) (arcs : List (List LoadedArc)) (l : Link) → IsFalse (is_open B l) → AreLoaded I B ls cuts arcs → AreLoaded I B (ls ++ l ∷ []) cuts arcs
AreLoaded-skip I B ls cuts arcs l closed h = record {
  count = h.count;
  sound = h.sound;
  complete = λ u v tail head free some. by_link u v tail head free (link-push ls l u v some);
}
  where
    opened : IsTrue (is_present B l.a) → IsTrue (is_present B l.b) → IsFalse (has_pair B.barred l.a l.b) → ⊥
    opened low high free = both_ways (is_open B l) closed (rw (low, high, free) refl)

    by_link : (u v : ℕ) → IsTrue (is_present B u) → IsTrue (is_present B v) → IsFalse (has_pair B.barred u v) → IsSome (link ls u v) ⊎ IsTrue (joins l u v) → IsTrue (has_arc arcs u v)
    by_link u v tail head free (inl before) = h.complete u v tail head free before
    by_link u v tail head free (inr joined) =
        elim (joined_ends l u v joined) [
          | inl e ↦ absurd (opened (rw e.0 tail) (rw e.1 head) (rw (e.0, e.1) free))
          | inr e ↦ absurd (opened (rw e.0 head) (rw e.1 tail) (rw (e.0, e.1) (has_pair-comm B.barred v u ∙ free)))
        ]

-- the arc from one end of a link with nothing on it
abbrev pub free_arc : ℕ → ℕ → LoadedArc
free_arc tail cost = record { tail = tail; cost = cost; load = 0 }

-- a link that is open gives two arcs
pub AreLoaded-link : (I : Network) (B : Branch) (ls : List Link) (arcs : List (List LoadedArc)) (l : Link) → IsTrue (is_open B l) → IsLinkBetween I.n l → link I.links l.a l.b ≡ Some l.cost → AreLoaded I B ls [] arcs → AreLoaded I B (ls ++ l ∷ []) [] (with_arc (with_arc arcs l.b (free_arc l.a l.cost)) l.a (free_arc l.b l.cost))
AreLoaded-link I B ls arcs l opened ends cost h = record {
  count = length-set first l.a _ ∙ first_count;
  sound = sound-with_arc (ground I) B [] first l.a (free_arc l.b l.cost) low back (sound-with_arc (ground I) B [] arcs l.b (free_arc l.a l.cost) high forth h.sound);
  complete = λ u v tail head free some. by_link u v tail head free (link-push ls l u v some);
}
  where
    first : List (List LoadedArc)
    first = with_arc arcs l.b (free_arc l.a l.cost)

    first_count : length first ≡ I.n + 1
    first_count = length-set arcs l.b _ ∙ h.count

    high : l.b < length arcs
    high = omega (arith, h.count, ends.high)

    low : l.a < length first
    low = omega (arith, first_count, ends.ordered, ends.high)

    parts : IsTrue (is_present B l.a && is_present B l.b) × IsTrue (not (has_pair B.barred l.a l.b))
    parts = and_parts (is_present B l.a && is_present B l.b) (not (has_pair B.barred l.a l.b)) opened

    both : IsTrue (is_present B l.a) × IsTrue (is_present B l.b)
    both = and_parts (is_present B l.a) (is_present B l.b) parts.0

    priced : open_link I B l.a l.b ≡ Some l.cost
    priced = open_unbarred (ground I) B l.a l.b (not-true (has_pair B.barred l.a l.b) parts.1) ∙ cost

    forth : IsLoaded I B [] l.b (free_arc l.a l.cost)
    forth = record { in_range = omega (arith, ends.ordered, ends.high); tail = both.0; head = both.1; cost = priced; load = refl }

    back : IsLoaded I B [] l.a (free_arc l.b l.cost)
    back = record { in_range = ends.high; tail = both.1; head = both.0; cost = open-comm (ground I) B (link-comm I.links) l.b l.a ∙ priced; load = refl }

    by_link : (u v : ℕ) → IsTrue (is_present B u) → IsTrue (is_present B v) → IsFalse (has_pair B.barred u v) → IsSome (link ls u v) ⊎ IsTrue (joins l u v) → IsTrue (has_arc (with_arc first l.a (free_arc l.b l.cost)) u v)
    by_link u v tail head free (inl before) =
        has_arc-kept first l.a (free_arc l.b l.cost) u v low (has_arc-kept arcs l.b (free_arc l.a l.cost) u v high (h.complete u v tail head free before))
    by_link u v tail head free (inr joined) =
        elim (joined_ends l u v joined) [
          | inl e ↦ rw (← e.0, ← e.1) (has_arc-kept first l.a (free_arc l.b l.cost) l.a l.b low (has_arc-new arcs l.b (free_arc l.a l.cost) high))
          | inr e ↦ rw (← e.0, ← e.1) (has_arc-new first l.a (free_arc l.b l.cost) low)
        ]

-- what one cut more lays on an arc
load-push : (cuts : List Cut) (c : Cut) (arc : ℕ × ℕ) → load (cuts ++ c ∷ []) arc ≡ load cuts arc + (if has c.set arc.1 && not (has c.set arc.0) then c.y else 0)
load-push cuts c arc = rw (total-append (λ d. if has d.set arc.1 && not (has d.set arc.0) then d.y else 0) cuts (c ∷ [])) (omega arith)

-- a cut is laid on the arcs that enter it
pub AreLoaded-lay : (G : Ground) (B : Branch) (price : ℕ → ℕ → Option ℕ) (cuts : List Cut) (c : Cut) (members : List ℕ) (arcs arcs' : List (List LoadedArc)) → ((v : ℕ) → v < G.n + 1 → has members v ≡ has c.set v) → length arcs' ≡ length arcs → ((v : ℕ) → arcs_into arcs' v ≡ (if has members v then map (laid members c.y) (arcs_into arcs v) else arcs_into arcs v)) → AreLoadedIn G B price cuts arcs → AreLoadedIn G B price (cuts ++ c ∷ []) arcs'
AreLoaded-lay G B price cuts c members arcs arcs' same count is h = record {
  count = count ∙ h.count;
  sound = λ v. elim (cases_lt v (G.n + 1)) [ inl below ↦ in_range v below (has members v) refl (is v) | inr past ↦ out_of_range v (has members v) past (is v) ];
  complete = λ u v tail head free some. has_arc-laid u v (has members v) (is v) (h.complete u v tail head free some);
}
  where
    Loaded : ℕ → LoadedArc → Type 0
    Loaded = IsLoadedIn G B (cuts ++ c ∷ [])

    kept : (v : ℕ) → v < G.n + 1 → IsFalse (has members v) → (a : LoadedArc) → IsLoadedIn G B cuts v a → Loaded v a
    kept v below out a loaded = record {
      in_range = loaded.in_range;
      tail = loaded.tail;
      head = loaded.head;
      cost = loaded.cost;
      load = rw (load-push cuts c (a.tail, v), sym (same v below) ∙ out) (omega (arith, loaded.load));
    }

    laid_one : (v : ℕ) → v < G.n + 1 → IsTrue (has members v) → (a : LoadedArc) → IsLoadedIn G B cuts v a → Loaded v (laid members c.y a)
    laid_one v below member a loaded = record {
      in_range = loaded.in_range;
      tail = loaded.tail;
      head = loaded.head;
      cost = loaded.cost;
      load = rw (load-push cuts c (a.tail, v), sym (same v below) ∙ member, sym (same a.tail (omega (arith, loaded.in_range)))) (added (has members a.tail) loaded.load);
    }
      where
        added : (b : Bool) → a.load ≡ load cuts (a.tail, v) → (if b then a.load else a.load + c.y) ≡ load cuts (a.tail, v) + (if true && not b then c.y else 0)
        added true e = omega arith
        added false e = omega arith

    in_range : (v : ℕ) → v < G.n + 1 → (b : Bool) → has members v ≡ b → arcs_into arcs' v ≡ (if b then map (laid members c.y) (arcs_into arcs v) else arcs_into arcs v) → All (Loaded v) (arcs_into arcs' v)
    in_range v below true member e = rw e (All-map (Loaded v) (laid members c.y) (arcs_into arcs v) (All-weaker (IsLoadedIn G B cuts v) (λ a. Loaded v (laid members c.y a)) (laid_one v below member) (arcs_into arcs v) (h.sound v)))
    in_range v below false out e = rw e (All-weaker (IsLoadedIn G B cuts v) (Loaded v) (kept v below out) (arcs_into arcs v) (h.sound v))

    out_of_range : (v : ℕ) (b : Bool) → G.n + 1 ≤ v → arcs_into arcs' v ≡ (if b then map (laid members c.y) (arcs_into arcs v) else arcs_into arcs v) → All (Loaded v) (arcs_into arcs' v)
    out_of_range v b past e =
        let none : arcs_into arcs v ≡ [] = get_or_past arcs v [] (omega (arith, h.count)) in
        rw (e, none) (nothing b)
      where
        nothing : (b' : Bool) → All (Loaded v) (if b' then map (laid members c.y) [] else [])
        nothing true = All-nil (Loaded v)
        nothing false = All-nil (Loaded v)

    tails : (u : ℕ) (list : List LoadedArc) → list_any (λ a. a.tail == u) (map (laid members c.y) list) ≡ list_any (λ a. a.tail == u) list
    tails u [] = refl
    tails u (a ∷ list) = rw (tails u list) refl

    has_arc-laid : (u v : ℕ) (b : Bool) → arcs_into arcs' v ≡ (if b then map (laid members c.y) (arcs_into arcs v) else arcs_into arcs v) → IsTrue (has_arc arcs u v) → IsTrue (has_arc arcs' u v)
    has_arc-laid u v true e there = rw (e, tails u (arcs_into arcs v)) there
    has_arc-laid u v false e there = rw e there

-- each cut lays less than 2^64 on an arc
pub load_bound : (cuts : List Cut) (i : ℕ) (c : Cut) (arc : ℕ × ℕ) → i < length cuts → c ≡ get_or cuts i c → c.y < 2 ^ 64 → load (take i cuts) arc ≤ i * 2 ^ 64 → load (take (i + 1) cuts) arc ≤ (i + 1) * 2 ^ 64
load_bound cuts i c arc below is small before =
    rw (take_more cuts i c below, ← is, load-push (take i cuts) c arc) (step (has c.set arc.1 && not (has c.set arc.0)) before)
  where
    step : (b : Bool) → load (take i cuts) arc ≤ i * 2 ^ 64 → load (take i cuts) arc + (if b then c.y else 0) ≤ (i + 1) * 2 ^ 64
    step true h = omega arith
    step false h = omega arith

-- the links of an instance, one after another
module _ (I : Network) (B : Branch) (instance : IsInstance I) (i : ℕ) (d : Link) (below : i < length I.links) where
  own : Link
  own = get_or I.links i d

  ends : IsLinkBetween I.n own
  unfolding own
  ends = instance.ends i d below

  -- a link that isn't open
  pub link_skipped : (arcs : List (List LoadedArc)) → IsFalse (is_open B (get_or I.links i d)) → AreLoaded I B (take i I.links) [] arcs → AreLoaded I B (take (i + 1) I.links) [] arcs
  unfolding own
  link_skipped arcs gone h = rw (take_more I.links i d below) (AreLoaded-skip I B (take i I.links) [] arcs (get_or I.links i d) gone h)

  -- one that is
  pub link_added : (arcs : List (List LoadedArc)) → IsTrue (is_open B (get_or I.links i d)) → AreLoaded I B (take i I.links) [] arcs → AreLoaded I B (take (i + 1) I.links) [] (with_arc (with_arc arcs (get_or I.links i d).b (free_arc (get_or I.links i d).a (get_or I.links i d).cost)) (get_or I.links i d).a (free_arc (get_or I.links i d).b (get_or I.links i d).cost))
  unfolding own
  link_added arcs here h = rw (take_more I.links i d below) (AreLoaded-link I B (take i I.links) arcs (get_or I.links i d) here ends (link_at I.links i d instance.one_each below) h)

-- the members of a set, one after another
module _ (members : List ℕ) (apart : AllApart members) (y : ℕ) (before now : List (List LoadedArc)) (i : ℕ) (below : i < length members) (is : (v : ℕ) → arcs_into now v ≡ (if has (take i members) v then map (laid members y) (arcs_into before v) else arcs_into before v)) where
  -- nothing is laid yet on the arcs into the next member
  pub next_arcs : arcs_into now (get_or members i 0) ≡ arcs_into before (get_or members i 0)
  next_arcs = rw (is (get_or members i 0), AllApart-at members i apart below) refl

  -- after it is laid there
  pub laid_next : (v : ℕ) → get_or members i 0 < length now → arcs_into (set now (get_or members i 0) (map (laid members y) (arcs_into now (get_or members i 0)))) v ≡ (if has (take (i + 1) members) v then map (laid members y) (arcs_into before v) else arcs_into before v)
  laid_next v room = into-set now (get_or members i 0) v (map (laid members y) (arcs_into now (get_or members i 0))) (λ list. list ≡ (if has (take (i + 1) members) v then map (laid members y) (arcs_into before v) else arcs_into before v)) room at_head elsewhere
    where
      at_head : v ≡ get_or members i 0 → map (laid members y) (arcs_into now (get_or members i 0)) ≡ (if has (take (i + 1) members) v then map (laid members y) (arcs_into before v) else arcs_into before v)
      at_head e = rw (next_arcs, has_more members i v below, e, eq-eqb (get_or members i 0) (get_or members i 0) refl, or-true (has (take i members) (get_or members i 0))) refl

      elsewhere : v ≢ get_or members i 0 → arcs_into now v ≡ (if has (take (i + 1) members) v then map (laid members y) (arcs_into before v) else arcs_into before v)
      elsewhere e = rw (is v, has_more members i v below, ne_eqb (get_or members i 0) v (λ same. e (sym same)), or-false (has (take i members) v)) refl
