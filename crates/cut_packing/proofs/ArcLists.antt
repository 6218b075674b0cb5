-- A value that is laid on arcs.
use Rattle.std.proofs.Common.{◌≡◌, ℕ, zero, suc, ◌+◌, ◌<◌, ◌≤◌, List, [], ◌∷◌, ◌++◌, length, map, get_or, set, take, drop, arith, refl, sym, ap, ◌∙◌}
use Rattle.std.specs.Prelude.{IsTrue, IsFalse}
use Rattle.std.proofs.lemmas.List.{append-nil, drop_all, get_or_default, get_or-set_same, length-append, length-map, set-get_or, set-set, take_all, take-append-drop}
use Rattle.std.proofs.lemmas.List.Edits.{map_over_more}
use Rattle.st_model.specs.Lists.{has}
use Rattle.cut_packing.specs.declared.arcs.LoadedArc.{LoadedArc}
use Rattle.cut_packing.specs.Loads.{arcs_into, laid}

-- a value is laid on an arc from outside the set
pub laid_outside : (members : List ℕ) (y z : ℕ) (a : LoadedArc) → z ≡ y → IsFalse (has members a.tail) → laid members y a ≡ record { tail = a.tail; cost = a.cost; load = a.load + z }
laid_outside members y z a same out = rw (out, same) refl

-- and not on one from inside
pub laid_inside : (members : List ℕ) (y : ℕ) (a : LoadedArc) → IsTrue (has members a.tail) → laid members y a ≡ a
laid_inside members y a inside = rw inside refl

-- the value is laid on the first arcs
abbrev pub laid_first : List ℕ → ℕ → ℕ → List LoadedArc → List LoadedArc
laid_first members y i arcs = map (laid members y) (take i arcs) ++ drop i arcs

-- no arc goes
pub length-laid_first : (members : List ℕ) (y i : ℕ) (arcs : List LoadedArc) → length (laid_first members y i arcs) ≡ length arcs
length-laid_first members y i arcs =
    length-append (map (laid members y) (take i arcs)) (drop i arcs) ∙ ap (λ n. n + length (drop i arcs)) (length-map (take i arcs) (laid members y)) ∙ sym (length-append (take i arcs) (drop i arcs)) ∙ ap length (take-append-drop i arcs)

-- the next arc is as it was
pub next_unlaid : (members : List ℕ) (y i : ℕ) (arcs : List LoadedArc) (d : LoadedArc) → get_or (laid_first members y i arcs) i d ≡ get_or arcs i d
next_unlaid members y zero [] d = refl
next_unlaid members y (suc i) [] d = refl
next_unlaid members y zero (arc ∷ arcs) d = refl
next_unlaid members y (suc i) (arc ∷ arcs) d = next_unlaid members y i arcs d

module _ (members : List ℕ) (y : ℕ) (old now : List (List LoadedArc)) (head i : ℕ) (below : head < length old) (is : now ≡ set old head (laid_first members y i (arcs_into old head))) where
  -- the arcs into the vertex
  pub into_laid : arcs_into now head ≡ laid_first members y i (arcs_into old head)
  into_laid = rw is (get_or-set_same old head (laid_first members y i (arcs_into old head)) [] below)

  pub length-into_laid : length (arcs_into now head) ≡ length (arcs_into old head)
  length-into_laid = ap length into_laid ∙ length-laid_first members y i (arcs_into old head)

  -- the value is laid on one arc more
  pub laid_more : (d new : LoadedArc) → i < length (arcs_into old head) → laid members y (get_or (arcs_into now head) i d) ≡ new → set now head (set (arcs_into now head) i new) ≡ set old head (laid_first members y (i + 1) (arcs_into old head))
  laid_more d new within e =
      let room : i < length (arcs_into now head) = omega (arith, length-into_laid) in
      let more : set (arcs_into now head) i new ≡ laid_first members y (i + 1) (arcs_into old head) = rw (← e) (map_over_more (laid members y) (arcs_into old head) (arcs_into now head) i (get_or (arcs_into now head) i d) within into_laid (get_or_default (arcs_into now head) i d (get_or (arcs_into now head) i d) room)) in
      ap (set now head) more ∙ ap (λ (list : List (List LoadedArc)). set list head (laid_first members y (i + 1) (arcs_into old head))) is ∙ set-set old head (laid_first members y i (arcs_into old head)) (laid_first members y (i + 1) (arcs_into old head))

  -- the next arc comes from inside
  pub laid_past : (d : LoadedArc) → i < length (arcs_into old head) → laid members y (get_or (arcs_into now head) i d) ≡ get_or (arcs_into now head) i d → now ≡ set old head (laid_first members y (i + 1) (arcs_into old head))
  laid_past d within e =
      sym (ap (set now head) (set-get_or (arcs_into now head) i d) ∙ set-get_or now head []) ∙ laid_more d (get_or (arcs_into now head) i d) within e

-- the value is laid on none
pub laid_none : (members : List ℕ) (y : ℕ) (old : List (List LoadedArc)) (head : ℕ) → old ≡ set old head (laid_first members y 0 (arcs_into old head))
laid_none members y old head = sym (set-get_or old head [])

-- the value is laid on all
pub laid_all : (members : List ℕ) (y i : ℕ) (arcs : List LoadedArc) → length arcs ≤ i → laid_first members y i arcs ≡ map (laid members y) arcs
laid_all members y i arcs past =
    rw (drop_all i arcs past, take_all i arcs past) (append-nil (map (laid members y) arcs))
