-- What entries mean when one more is entered, and what is read of one.
use Rattle.std.proofs.Common.{◌≡◌, ℕ, ◌<◌, List, [], ◌∷◌, ◌++◌, length, get_or, map, Option, refl, sym, ap, subst, ◌∙◌, append-nil, append_assoc, arith}
use Rattle.std.specs.Prelude.{unwrap_or}
use Rattle.std.proofs.Math.ListN.{get_or-map}
use Rattle.std.proofs.lemmas.List.{get_or_read, length-map, map-append}
use Rattle.st_model.specs.Network.{Network}
use Rattle.st_model.specs.Arborescence.{arc_cost}
use Rattle.few_terminals.specs.declared.entry.Entry.{Entry}
use Rattle.few_terminals.specs.declared.entry.Way.{Way}
use Rattle.few_terminals.specs.declared.entry.Way.TheVariants.{Alone, Along, Joined}
use Rattle.few_terminals.specs.Entries.{at, bits_by, cost_by, meaning, meanings, meanings_after, HasParts, HaveParts, Meaning}

-- the entry of a meaning
abbrev pub entry_of : Meaning → Entry
entry_of m = record { vertex = m.vertex; way = m.way }

module _ (I : Network) (ks : List ℕ) where
  -- one entry more
  after_push : (es : List Meaning) (entries : List Entry) (e : Entry) → let all = meanings_after I ks es entries in meanings_after I ks es (entries ++ e ∷ []) ≡ all ++ meaning I ks all e ∷ []
  after_push es [] e = refl
  after_push es (first ∷ later) e = after_push (es ++ meaning I ks es first ∷ []) later e

  -- each meaning has the vertex and the way of its entry
  after_entries : (es : List Meaning) (entries : List Entry) → map entry_of (meanings_after I ks es entries) ≡ map entry_of es ++ entries
  after_entries es [] = sym (append-nil (map entry_of es))
  after_entries es (e ∷ later) =
      let first = map-append entry_of es (meaning I ks es e ∷ []) in
      after_entries (es ++ meaning I ks es e ∷ []) later ∙ (ap (λ (xs : List Entry). xs ++ later) first ∙ append_assoc (map entry_of es) (e ∷ []) later)

  bits_are : (es : List Meaning) (place : ℕ) (e : Meaning) (way : Way) → HasParts I ks es place e way → bits_by ks es e.vertex way ≡ e.bits
  bits_are es place e Alone parts = sym parts.0
  bits_are es place e (Along before) parts = sym parts.1.1.bits
  bits_are es place e (Joined first second) parts = sym parts.2.bits

  costs_are : (es : List Meaning) (place : ℕ) (e : Meaning) (way : Way) → HasParts I ks es place e way → cost_by I es e.vertex way ≡ e.cost
  costs_are es place e Alone parts = sym parts.1
  costs_are es place e (Along before) parts =
      let price : arc_cost I (e.vertex, (at es before).vertex) ≡ parts.1.0 = ap (λ (o : Option ℕ). unwrap_or o 0) parts.1.1.linked in
      let same = parts.1.1.cost in
      omega (arith, price, same)
  costs_are es place e (Joined first second) parts = sym parts.2.cost

  -- so an entry that has its parts means what they tell of it
  means : (es : List Meaning) (place : ℕ) (e : Meaning) → HasParts I ks es place e e.way → meaning I ks es (entry_of e) ≡ e
  means es place e parts = rw (bits_are es place e e.way parts, costs_are es place e e.way parts) refl

  module _ (entries : List Entry) where
    abbrev es : List Meaning
    es = meanings I ks entries

    entries_of : map entry_of es ≡ entries
    entries_of = after_entries [] entries

    pub length-meanings : length es ≡ length entries
    length-meanings = sym (length-map es entry_of) ∙ ap length entries_of

    -- the meanings of entries and of one more, which has its parts, are theirs and its own
    pub meanings_push : (place : ℕ) (e : Meaning) → HasParts I ks es place e e.way → meanings I ks (entries ++ entry_of e ∷ []) ≡ es ++ e ∷ []
    meanings_push place e parts = after_push [] entries (entry_of e) ∙ ap (λ (m : Meaning). es ++ m ∷ []) (means es place e parts)

    -- an entry that was read is that of its meaning
    module _ (place : ℕ) (e : Entry) (within : place < length entries) (read : e ≡ get_or entries place e) where
      pub entry_read : e ≡ entry_of (at es place)
      entry_read =
          let nothing : Meaning = record { vertex = 0; bits = 0; cost = 0; way = Alone } in
          let same = ap (λ (xs : List Entry). get_or xs place (entry_of nothing)) (sym entries_of) in
          get_or_read entries place e within read (entry_of nothing) ∙ (same ∙ get_or-map entry_of es place nothing)

      -- whose parts stand before it
      pub parts_read : (way : Way) → e.way ≡ way → HaveParts I ks es → HasParts I ks es place (at es place) way
      parts_read way is have =
          let long = length-meanings in
          let way_is : (at es place).way ≡ way = ap (λ (x : Entry). x.way) (sym entry_read) ∙ is in
          subst (HasParts I ks es place (at es place)) way_is (have place (omega (arith, within, long))).1
