-- A row while it is filled. Helpers' clauses cite this, and no public one.
use Rattle.std.specs.Prelude.{◌≡◌, ℕ, ◌+◌, ◌^◌, ◌<◌, ◌≤◌, ◌⊎◌, bit_and, nat_lt, if◌then◌else◌, IsTrue, List, [], ◌∷◌, length, All, Contains, IsPermutation, slice_index_or, slice_set, sum_by, Some}
use Rattle.std.specs.BinaryHeap.{heap_items, heap_len}
use Rattle.std.specs.declared.cmp.Reverse.{Reverse}
use Rattle.st_model.specs.Lists.{has}
use Rattle.st_model.specs.Network.{Network, IsVertex, link}
use Rattle.few_terminals.specs.declared.entry.Entry.{Entry}
use Rattle.few_terminals.specs.declared.entry.Way.{Way}
use Rattle.few_terminals.specs.declared.entry.Way.TheVariants.{Alone, Joined}
use Rattle.few_terminals.specs.declared.filling.Filling.{Filling}
use Rattle.few_terminals.specs.declared.mark.Mark.{Mark}
use Rattle.few_terminals.specs.declared.row.Row.{Row}
use Rattle.few_terminals.specs.Entries.{meanings, Meaning, HasParts, HaveParts, IsEntryAt, GoesOn}
use Rattle.few_terminals.specs.Reach.{slot_of}
use Rattle.few_terminals.specs.Rows.{cost_at, cost_in, place_at}
use Rattle.few_terminals.specs.Under.{mask}

-- nothing is known
abbrev pub unknown : Mark
unknown = record { cost = 2 ^ 63; way = Alone; place = 0 }

-- what is known of a vertex
abbrev pub mark_at : List Mark → ℕ → Mark
mark_at marks v = slice_index_or marks v unknown

-- what is known of a vertex leads back to entries
pub record IsSound (I : Network) (ks : List ℕ) (es : List Meaning) (bits v : ℕ) (mark : Mark) : Type 0 where
  pub most : mark.cost ≤ 2 ^ 63
  pub parts : mark.cost < 2 ^ 63 → HasParts I ks es (length es) (record { vertex = v; bits = bits; cost = mark.cost; way = mark.way }) mark.way

-- before anything is joined: a terminal alone costs nothing
pub record IsBegun (I : Network) (ks : List ℕ) (es : List Meaning) (bits : ℕ) (marks : List Mark) : Type 0 where
  pub long : length marks ≡ I.n + 1
  pub sound : (v : ℕ) → IsSound I ks es bits v (mark_at marks v)
  pub alone : (k : ℕ) → IsTrue (has ks k) → mask ks (k ∷ []) ≡ bits → (mark_at marks k).cost ≡ 0

-- and no more than two disjoint sets, of which the lesser is below a number
pub record IsJoinedBelow (I : Network) (ks : List ℕ) (es : List Meaning) (vs : List ℕ) (rows : List Row) (bits part : ℕ) (marks : List Mark) : Type 0 where
  pub begun : IsBegun I ks es bits marks
  pub joined : (v a b : ℕ) → 1 ≤ a → a < part → a < b → bit_and a b ≡ 0 → a + b ≡ bits → (mark_at marks v).cost ≤ cost_in vs rows a v + cost_in vs rows b v

-- what two rows make of a mark
abbrev pub joined_mark : Mark → ℕ → ℕ → ℕ → ℕ → Mark
joined_mark mark c d p q = if nat_lt (c + d) mark.cost then record { cost = c + d; way = Joined p q; place = 0 } else mark

-- two rows are joined at the vertices of the first slots, and the others are as they were
pub record Joins (vs : List ℕ) (slot : ℕ) (old : List Mark) (first second : Row) (new : List Mark) : Type 0 where
  pub long : length new ≡ length old
  pub at : (v : ℕ) → slot_of vs v < slot → mark_at new v ≡ joined_mark (mark_at old v) (cost_at vs first.costs.items v) (cost_at vs second.costs.items v) (place_at vs first.places.items v) (place_at vs second.places.items v)
  pub others : (v : ℕ) → slot ≤ slot_of vs v → mark_at new v ≡ mark_at old v

-- what waits: a cost, and the vertex that is offered it
abbrev pub offer_of : ℕ → ℕ → Reverse (ℕ × ℕ)
offer_of cost v = record { 0 = (cost, v) }

-- what is known of v has an entry, and each link from it was offered
pub record IsSettled (I : Network) (es : List Meaning) (bits : ℕ) (marks : List Mark) (v : ℕ) : Type 0 where
  pub entered : IsEntryAt es (mark_at marks v).place v bits (mark_at marks v).cost
  pub closed : (w c : ℕ) → link I.links v w ≡ Some c → (mark_at marks w).cost ≤ (mark_at marks v).cost + c

-- each vertex has nothing, or an offer that waits, or an entry from which all its links were offered
pub record IsFilling (I : Network) (ks : List ℕ) (es : List Meaning) (bits : ℕ) (marks : List Mark) (waiting : List (Reverse (ℕ × ℕ))) : Type 0 where
  pub long : length marks ≡ I.n + 1
  pub sound : (v : ℕ) → IsSound I ks es bits v (mark_at marks v)
  pub states : (v : ℕ) → IsVertex I.n v → (2 ^ 63 ≤ (mark_at marks v).cost) ⊎ (Contains waiting (offer_of (mark_at marks v).cost v) ⊎ IsSettled I es bits marks v)
  pub queued : All (λ offer. IsVertex I.n offer.0.1 × (offer.0.0 < 2 ^ 63)) waiting

-- no vertex costs more than before
abbrev pub Falls : List Mark → List Mark → Type 0
Falls old new = (v : ℕ) → (mark_at new v).cost ≤ (mark_at old v).cost

-- what falls with each offer that is taken: all that is known, and what waits
abbrev pub weight : Filling → ℕ
weight f = sum_by (λ mark. mark.cost) f.marks.items + heap_len f.queue

-- a vertex is offered something, unless what is known of it costs no more
pub record Offers (old new : Filling) (cost to : ℕ) (way : Way) : Type 0 where
  pub either : (((mark_at old.marks.items to).cost ≤ cost) × (new.marks.items ≡ old.marks.items) × (heap_items new.queue ≡ heap_items old.queue))
      ⊎ ((cost < (mark_at old.marks.items to).cost) × (new.marks.items ≡ slice_set old.marks.items to (record { cost = cost; way = way; place = (mark_at old.marks.items to).place })) × IsPermutation (offer_of cost to ∷ heap_items old.queue) (heap_items new.queue))

-- a row stays as it should be, where an entry of a vertex stands and a first offer still waits
abbrev pub StaysFilling : Network → ℕ → Filling → Filling → Type 0
StaysFilling I v old new = (ks : List ℕ) (es : List Meaning) (bits : ℕ) (first : Reverse (ℕ × ℕ)) → IsEntryAt es (mark_at old.marks.items v).place v bits (mark_at old.marks.items v).cost
    → IsFilling I ks es bits old.marks.items (first ∷ heap_items old.queue) → IsFilling I ks es bits new.marks.items (first ∷ heap_items new.queue)

-- all links from a vertex were offered
pub record Relaxes (I : Network) (v : ℕ) (old new : Filling) : Type 0 where
  pub places : (w : ℕ) → (mark_at new.marks.items w).place ≡ (mark_at old.marks.items w).place
  pub falls : Falls old.marks.items new.marks.items
  pub offered : (w c : ℕ) → link I.links v w ≡ Some c → (mark_at new.marks.items w).cost ≤ (mark_at old.marks.items v).cost + c
  pub keeps : StaysFilling I v old new

-- what holds of a set's row once more is entered
pub record Keeps (I : Network) (ks : List ℕ) (old_es new_es : List Meaning) (bits : ℕ) (new : Filling) : Type 0 where
  pub goes_on : GoesOn old_es new_es
  pub parts : HaveParts I ks new_es
  pub filling : IsFilling I ks new_es bits new.marks.items (heap_items new.queue)

-- an offer is taken
pub record Takes (I : Network) (old_es new_es : List Entry) (old new : Filling) (offer : Reverse (ℕ × ℕ)) : Type 0 where
  pub falls : Falls old.marks.items new.marks.items
  pub keeps : (ks : List ℕ) (bits : ℕ) → HaveParts I ks (meanings I ks old_es) → IsFilling I ks (meanings I ks old_es) bits old.marks.items (offer ∷ heap_items old.queue)
      → Keeps I ks (meanings I ks old_es) (meanings I ks new_es) bits new
