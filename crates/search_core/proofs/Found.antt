-- Nodes that are found by the position of their ids.
use Rattle.std.proofs.Common.{◌≡◌, ℕ, suc, Bool, true, false, cond, List, [], ◌∷◌, ◌++◌, get_or, set, map, Option, Some, None, option_map, refl, sym, ap, ◌∙◌, arith}
use Rattle.std.specs.Prelude.{◌==◌, ◌||◌, position, find}
use Rattle.std.specs.List.{list_any}
use Rattle.std.specs.Option.{option_map_or}
use Rattle.std.proofs.lemmas.List.{map-set, set-get_or, map-append}
use Rattle.std.proofs.lemmas.List.Folds.{find-append}
use Rattle.std.proofs.lemmas.Bool.Decides.{nat_tests}
use Rattle.st_model.proofs.Links.{position-cons}
use Rattle.search_core.specs.declared.made.Made.{Made}
use Rattle.search_core.specs.State.{has_id, with_made}

-- the ids of nodes
abbrev pub ids_of : List Made → List ℕ
ids_of nodes = map (λ m. m.node.id) nodes

-- what is found is at the position of its id
pub find-position : (nodes : List Made) (id : ℕ) (d : Made) → find (has_id id) nodes ≡ option_map (λ i. get_or nodes i d) (position (λ y. id == y) (ids_of nodes))
find-position [] id d = refl
find-position (m ∷ ms) id d = rw position-cons (one_more (has_id id m) _ (find-position ms id d))
  where
    one_more : (b : Bool) (o : Option ℕ) {rest : Option Made} → rest ≡ option_map (λ i. get_or ms i d) o → cond b (Some m) rest ≡ option_map (λ i. get_or (m ∷ ms) i d) (cond b (Some 0) (option_map suc o))
    one_more true o h = refl
    one_more false None h = h
    one_more false (Some i) h = h

-- the change of a node is a write at the position of its id
pub with_made-position : (nodes : List Made) (id : ℕ) (f : Made → Made) (d : Made) → with_made nodes id f ≡ option_map_or (λ i. set nodes i (f (get_or nodes i d))) (position (λ y. id == y) (ids_of nodes)) nodes
with_made-position [] id f d = refl
with_made-position (m ∷ ms) id f d = rw position-cons (one_more (has_id id m) _ (with_made-position ms id f d))
  where
    one_more : (b : Bool) (o : Option ℕ) {rest : List Made} → rest ≡ option_map_or (λ i. set ms i (f (get_or ms i d))) o ms → cond b (f m ∷ ms) (m ∷ rest) ≡ option_map_or (λ i. set (m ∷ ms) i (f (get_or (m ∷ ms) i d))) (cond b (Some 0) (option_map suc o)) (m ∷ ms)
    one_more true o h = refl
    one_more false None h = ap (λ xs. m ∷ xs) h
    one_more false (Some i) h = ap (λ xs. m ∷ xs) h

-- what is found where the ids are kept apart
pub found_at : (keys : List ℕ) (nodes : List Made) (id i : ℕ) (m : Made) → keys ≡ ids_of nodes → Some i ≡ position (λ y. id == y) keys → m ≡ get_or nodes i m → Some m ≡ find (has_id id) nodes
found_at keys nodes id i m keys_are found read =
    rw (find-position nodes id m, ← keys_are, ← found) (ap Some read)

-- and that nothing is
pub none_found : (keys : List ℕ) (nodes : List Made) (id : ℕ) → keys ≡ ids_of nodes → None ≡ position (λ y. id == y) keys → None ≡ find (has_id id) nodes
none_found keys [] id keys_are found = refl
none_found keys (m ∷ ms) id keys_are found =
    sym (find-position (m ∷ ms) id m ∙ ap (λ (o : Option ℕ). option_map (λ i. get_or (m ∷ ms) i m) o) (ap (position (λ y. id == y)) (sym keys_are) ∙ sym found))

-- a change where the ids are kept apart
pub changed_node : (keys : List ℕ) (nodes : List Made) (id i : ℕ) (f : Made → Made) (m : Made) → keys ≡ ids_of nodes → Some i ≡ position (λ y. id == y) keys → m ≡ get_or nodes i m → set nodes i (f m) ≡ with_made nodes id f
changed_node keys nodes id i f m keys_are found read =
    rw (with_made-position nodes id f m, ← keys_are, ← found, ← read) refl

-- a change of nothing
pub unchanged_nodes : (keys : List ℕ) (nodes : List Made) (id : ℕ) (f : Made → Made) → keys ≡ ids_of nodes → None ≡ position (λ y. id == y) keys → nodes ≡ with_made nodes id f
unchanged_nodes keys [] id f keys_are found = refl
unchanged_nodes keys (m ∷ ms) id f keys_are found =
    sym (with_made-position (m ∷ ms) id f m ∙ ap (λ (o : Option ℕ). option_map_or (λ i. set (m ∷ ms) i (f (get_or (m ∷ ms) i m))) o (m ∷ ms)) (ap (position (λ y. id == y)) (sym keys_are) ∙ sym found))

-- the ids stay where a node is written that has the same id
pub ids-set : (keys : List ℕ) (nodes : List Made) (i : ℕ) (m : Made) (f : Made → Made) → keys ≡ ids_of nodes → m ≡ get_or nodes i m → (f m).node.id ≡ m.node.id → keys ≡ ids_of (set nodes i (f m))
ids-set keys nodes i m f keys_are read same =
    rw (map-set (λ (m : Made). m.node.id) nodes i (f m), same, keys_are) (sym (ap (λ (a : Made). set (ids_of nodes) i a.node.id) read ∙ (sym (map-set (λ (m : Made). m.node.id) nodes i (get_or nodes i m)) ∙ ap ids_of (set-get_or nodes i m))))

-- the ids where a node joins
pub ids-push : (keys keys' : List ℕ) (nodes : List Made) (m : Made) → keys ≡ ids_of nodes → keys' ≡ cond (list_any (λ y. m.node.id == y) keys) keys (keys ++ m.node.id ∷ []) → find (has_id m.node.id) nodes ≡ None → keys' ≡ ids_of (nodes ++ m ∷ [])
ids-push keys keys' nodes m keys_are pushed absent =
    rw (pushed, keys_are, none_held nodes absent, map-append (λ (m : Made). m.node.id) nodes (m ∷ [])) refl
  where
    none_held : (ms : List Made) → find (has_id m.node.id) ms ≡ None → list_any (λ y. m.node.id == y) (ids_of ms) ≡ false
    none_held [] h = refl
    none_held (x ∷ xs) h = by_case (has_id m.node.id x) refl h (none_held xs)
      where
        by_case : (b : Bool) → has_id m.node.id x ≡ b → cond b (Some x) (find (has_id m.node.id) xs) ≡ None → (find (has_id m.node.id) xs ≡ None → list_any (λ y. m.node.id == y) (ids_of xs) ≡ false) → b || list_any (λ y. m.node.id == y) (ids_of xs) ≡ false
        by_case true is h rest = cc
        by_case false is h rest = rest h

-- nothing else is found where a node joins
pub none_found-push : (nodes : List Made) (m : Made) (id : ℕ) → find (has_id id) nodes ≡ None → (m.node.id == id) ≡ false → find (has_id id) (nodes ++ m ∷ []) ≡ None
none_found-push nodes m id absent apart =
    rw (find-append (has_id id) nodes (m ∷ []), absent, other m.node.id id apart) refl
  where
    other : (a b : ℕ) → (a == b) ≡ false → (b == a) ≡ false
    other a b h = grind (arith, nat_tests)
