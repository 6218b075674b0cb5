-- The turns of an ascent. Helpers' clauses cite this, and no public one.
use Rattle.std.specs.Prelude.{◌≡◌, ◌≢◌, ℕ, ◌+◌, ◌≤◌, ◌⊎◌, ◌↔◌, ◌==◌, ◌&&◌, ◌||◌, not, min, Bool, false, IsTrue, IsFalse, if◌then◌else◌, List, [], ◌∷◌, length, All, Contains, MatchBool, Option, Some, None, slice_index_or}
use Rattle.std.specs.List.{list_any}
use Rattle.std.specs.BinaryHeap.{heap_items, heap_len}
use Rattle.std.specs.declared.alloc.Global.{Global}
use Rattle.std.specs.declared.cmp.Reverse.{Reverse}
use Rattle.std.specs.declared.collections.binary_heap.BinaryHeap.{BinaryHeap}
use Rattle.st_model.specs.Lists.{has}
use Rattle.st_model.specs.Network.{IsVertex}
use Rattle.bidirected_form.specs.declared.arc.Arc.{Arc}
use Rattle.bidirected_form.specs.declared.kind.VertexKind.TheVariants.{Must}
use Rattle.bidirected_form.specs.Digraph.{Digraph, kind_of, remaining}
use Rattle.bidirected_form.specs.Entering.{enters}
use Rattle.prize_transform.specs.Twins.{Ends, left_of}
use Rattle.dual_ascent.specs.declared.growing.Growth.{Growth}
use Rattle.dual_ascent.specs.declared.growing.Known.{Known}
use Rattle.dual_ascent.specs.declared.turning.Turn.{Turn}
use Rattle.dual_ascent.specs.declared.waiting.Waiting.{Waiting}
use Rattle.dual_ascent.specs.Raises.{IsRaisable, Reaches}

-- the tails of the arcs with nothing left
abbrev pub free_tails : List Arc → List ℕ
free_tails [] = []
free_tails (a ∷ arcs) = if a.remaining == 0 then a.tail ∷ free_tails arcs else free_tails arcs

-- q, and others that reach it over arcs with nothing left
pub record AreSeeds (D : Digraph) (q : ℕ) (set : List ℕ) : Type 0 where
  pub held : IsTrue (has set q)
  pub in_range : All (IsVertex D.n) set
  pub reaching : All (Reaches D [] q) set

-- the vertices are those that reach q over arcs with nothing left
abbrev pub IsGrown : Digraph → ℕ → List ℕ → Type 0
IsGrown D q set = (v : ℕ) → IsTrue (has set v) ↔ Reaches D [] q v

-- one that reaches q was met at which the search stops; or the set is all that reaches q, and it stops at none of them
abbrev pub IsGathered : Digraph → ℕ → (ℕ → Bool) → List ℕ → Option ℕ → Type 0
IsGathered D q stops set (Some v) = IsTrue (stops v) × Reaches D [] q v
IsGathered D q stops set None = IsGrown D q set × ((v : ℕ) → IsTrue (has set v) → IsFalse (stops v))

-- whether v leads
abbrev pub leads : List Bool → ℕ → Bool
leads marks v = slice_index_or marks v false

-- whether a search for what reaches q stops at v: the root is known to reach v, or v is another one, and leads
abbrev pub stops : Known → ℕ → ℕ → Bool
stops k q v = has k.reached.members v || (leads k.leads.items v && not (v == q))

-- those that lead have to be reached, and there is a mark for each vertex
abbrev pub AreCertain : Digraph → List Bool → Type 0
AreCertain D marks = (length marks ≡ D.n + 1) × ((v : ℕ) → IsTrue (leads marks v) → kind_of D v ≡ Must)

-- the root reaches itself and others over arcs with nothing left
pub record IsGrowth (D : Digraph) (g : Growth) : Type 0 where
  pub set_count : g.set.count ≡ D.n + 1
  pub in_range : All (IsVertex D.n) g.set.members
  pub reached_count : g.known.reached.count ≡ D.n + 1
  pub leads_count : length g.known.leads.items ≡ D.n + 1
  pub root : IsTrue (has g.known.reached.members D.root)
  pub reached : All (λ v. Reaches D [] v D.root) g.known.reached.members

-- a vertex that waits
abbrev pub IsWaiting : Digraph → Waiting → Type 0
IsWaiting D w = IsVertex D.n w.vertex

-- an entry of the queue
abbrev pub Entry : Type 0
Entry = Reverse Waiting

-- whether v waits
abbrev pub waits : List Entry → ℕ → Bool
waits queue v = list_any (λ e. e.0.vertex == v) queue

-- each raisable vertex waits
pub record AllWait (D : Digraph) (E : Ends) (queue : List Entry) : Type 0 where
  pub each : All (λ e. IsWaiting D e.0) queue
  pub listed : (v : ℕ) → IsRaisable D E [] v → IsTrue (waits queue v)

-- the root reaches v, or one does that waits and has to be reached
abbrev pub IsCovered : Digraph → List Entry → ℕ → Type 0
IsCovered D queue v = Reaches D [] v D.root ⊎ ((w : ℕ) × IsTrue (waits queue w) × (kind_of D w ≡ Must) × Reaches D [] v w)

-- each raisable vertex waits, or is covered
pub record AreWaiting (D : Digraph) (E : Ends) (queue : List Entry) : Type 0 where
  pub each : All (λ e. IsWaiting D e.0) queue
  pub others : (v : ℕ) → IsRaisable D E [] v → IsTrue (waits queue v) ⊎ IsCovered D queue v

-- who leads waits, and has to be reached
abbrev pub AreLeading : Digraph → List Bool → List Entry → Type 0
AreLeading D marks queue = (v : ℕ) → IsTrue (leads marks v) → IsTrue (waits queue v) × (kind_of D v ≡ Must)

-- whoever waits in the one queue, or is covered, does so in the other
abbrev pub KeepsWaiting : Digraph → List Entry → List Entry → Type 0
KeepsWaiting D old new = (E : Ends) → AreWaiting D E old → AreWaiting D E new

-- the root reaches q, or another one does that leads
abbrev pub IsLedTo : Digraph → List Bool → ℕ → Type 0
IsLedTo D marks q = Reaches D [] q D.root ⊎ ((w : ℕ) × IsTrue (leads marks w) × (w ≢ q) × Reaches D [] q w)

-- the set is all that reaches q, and the root doesn't
abbrev pub IsSet : Digraph → ℕ → List ℕ → Type 0
IsSet D q members = IsGrown D q members × IsFalse (has members D.root)

-- q was led to, and leads no more; or the set in hand is all that reaches it, and the same lead
abbrev pub IsLooked : Digraph → List Bool → List Bool → List ℕ → ℕ → Bool → Type 0
IsLooked D old new members q covered =
    MatchBool covered
    (IsLedTo D old q × ((v : ℕ) → IsTrue (leads new v) → IsTrue (leads old v) × (v ≢ q)))
    (IsSet D q members × (new ≡ old))

-- the one whose turn it is, who waited, before those who wait on, has been looked at
pub record IsTurn (D : Digraph) (g : Growth) (old new : List Entry) (t : Turn) : Type 0 where
  pub waiting : IsWaiting D t.waiting
  pub waited : KeepsWaiting D old (record { 0 = t.waiting } ∷ new)
  pub rest : All (λ e. IsWaiting D e.0) new
  pub looked : MatchBool t.is_covered (IsCovered D new t.waiting.vertex) (IsSet D t.waiting.vertex g.set.members)
  pub leading : MatchBool t.is_covered (AreLeading D g.known.leads.items new)
      (AreLeading D g.known.leads.items (record { 0 = t.waiting } ∷ new))

-- nobody waited; or one of those who waited has its turn, and the others wait on
abbrev pub TakesTurn : Digraph → Growth → BinaryHeap Entry Global → BinaryHeap Entry Global → Option Turn → Type 0
TakesTurn D g old new None = heap_items old ≡ []
TakesTurn D g old new (Some t) = IsTurn D g (heap_items old) (heap_items new) t × (heap_len new + 1 ≡ heap_len old)

-- some arc that enters the set has so much left
pub record HasAnArcLeft (D : Digraph) (set : List ℕ) (y : ℕ) : Type 0 where
  pub tail : ℕ
  pub head : ℕ
  pub entering : IsTrue (enters set tail head)
  pub left : remaining D tail head ≡ Some y

-- the least of a limit and of what remains of those of the arcs that come from outside the set
pub record IsLeastOf (set : List ℕ) (arcs : List Arc) (limit least : ℕ) : Type 0 where
  pub bound : least ≤ limit
  pub below : All (λ a. IsFalse (has set a.tail) → least ≤ a.remaining) arcs
  pub attained : (least ≡ limit) ⊎ ((a : Arc) × Contains arcs a × IsFalse (has set a.tail) × (a.remaining ≡ least))

-- the least of a room and of what is left of the prize of q, where that may be left out
pub record IsLimit (D : Digraph) (E : Ends) (q room limit : ℕ) : Type 0 where
  pub must : kind_of D q ≡ Must → limit ≡ room
  pub may : kind_of D q ≢ Must → limit ≡ min room (left_of E q)
