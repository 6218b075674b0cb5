-- Lists of nodes in which one is changed.
use Rattle.std.proofs.Common.{◌≡◌, ℕ, suc, ◌+◌, length, map, arith, Bool, true, false, cond, List, [], ◌∷◌, ◌++◌, Option, Some, None, refl, sym, ap, subst}
use Rattle.std.specs.Prelude.{◌==◌, find, All, Contains, IfSome}
use Rattle.std.proofs.lemmas.Bool.Decides.{nat_tests}
use Rattle.st_model.specs.Lists.{total}
use Rattle.std.specs.Option.{option_copied}
use Rattle.std.specs.List.{AllByRecursion}
use Rattle.std.proofs.lemmas.List.Elements.{All-from_recursion, recursion_from_All}
use denote.Bor.{Bor}
use Rattle.search_core.specs.declared.made.Made.{Made}
use Rattle.search_core.specs.State.{has_id, with_made}

-- what holds of each node, and of each changed one, holds after the change
pub all-with_made : (P : Made → Type 0) (nodes : List Made) (id : ℕ) (f : Made → Made) → ((m : Made) → P m → P (f m)) → All P nodes → All P (with_made nodes id f)
all-with_made P nodes id f kept all = All-from_recursion P _ (by_list nodes (recursion_from_All P nodes all))
  where
    by_list : (ms : List Made) → AllByRecursion P ms → AllByRecursion P (with_made ms id f)
    by_list [] h = h
    by_list (m ∷ ms) h = by_case (has_id id m) (by_list ms h.1)
      where
        by_case : (b : Bool) → AllByRecursion P (with_made ms id f) → AllByRecursion P (cond b (f m ∷ ms) (m ∷ with_made ms id f))
        by_case true rest = (kept m h.0, h.1)
        by_case false rest = (h.0, rest)

-- what holds of each node holds of the one that is found
pub all-found : (P : Made → Type 0) (nodes : List Made) (id : ℕ) (m : Made) → All P nodes → find (has_id id) nodes ≡ Some m → P m
all-found P nodes id m all found = by_list nodes (recursion_from_All P nodes all) found
  where
    by_list : (ms : List Made) → AllByRecursion P ms → find (has_id id) ms ≡ Some m → P m
    by_list [] h e = absurd cc
    by_list (x ∷ xs) h e = by_case (has_id id x) (by_list xs h.1) e
      where
        same : (a : Made) → Some a ≡ Some m → P a → P m
        same a e p = let k : a ≡ m = cc in subst P k p

        by_case : (b : Bool) → (find (has_id id) xs ≡ Some m → P m) → cond b (Some x) (find (has_id id) xs) ≡ Some m → P m
        by_case true rest e = same x e h.0
        by_case false rest e = rest e

-- the same where it is found by a reference
pub found_node : (P : Made → Type 0) (nodes : List Made) (id : ℕ) (found : Option (Bor Made)) → All P nodes → option_copied found ≡ find (has_id id) nodes → IfSome found (λ made. P made.now)
found_node P nodes id None all e = tt
found_node P nodes id (Some made) all e = all-found P nodes id made.now all (sym e)

-- a node among the first ones is changed there
pub with_made-append : (xs ys : List Made) (id : ℕ) (f : Made → Made) (m : Made) → find (has_id id) xs ≡ Some m → with_made (xs ++ ys) id f ≡ with_made xs id f ++ ys
with_made-append [] ys id f m e = absurd cc
with_made-append (x ∷ xs) ys id f m e = by_case (has_id id x) e (with_made-append xs ys id f m)
  where
    by_case : (b : Bool) → cond b (Some x) (find (has_id id) xs) ≡ Some m → (find (has_id id) xs ≡ Some m → with_made (xs ++ ys) id f ≡ with_made xs id f ++ ys) → cond b (f x ∷ (xs ++ ys)) (x ∷ with_made (xs ++ ys) id f) ≡ cond b (f x ∷ xs) (x ∷ with_made xs id f) ++ ys
    by_case true e rest = refl
    by_case false e rest = ap (λ zs. x ∷ zs) (rest e)

-- a sum over the nodes in which one is changed
pub total-with_made : (h : Made → ℕ) (nodes : List Made) (id : ℕ) (f : Made → Made) (m : Made) → find (has_id id) nodes ≡ Some m → total h (with_made nodes id f) + h m ≡ total h nodes + h (f m)
total-with_made h [] id f m e = absurd cc
total-with_made h (x ∷ xs) id f m e = by_case (has_id id x) e (total-with_made h xs id f m)
  where
    swap : (a b c : ℕ) → a + c + b ≡ b + c + a
    swap a b c = omega arith

    moved : (a b c d g : ℕ) → b + c ≡ d + g → a + b + c ≡ a + d + g
    moved a b c d g e = omega arith

    here : x ≡ m → total h (f x ∷ xs) + h m ≡ total h (x ∷ xs) + h (f m)
    here same = rw same (swap (h (f m)) (h m) (total h xs))

    by_case : (b : Bool) → cond b (Some x) (find (has_id id) xs) ≡ Some m → (find (has_id id) xs ≡ Some m → total h (with_made xs id f) + h m ≡ total h xs + h (f m)) → total h (cond b (f x ∷ xs) (x ∷ with_made xs id f)) + h m ≡ total h (x ∷ xs) + h (f m)
    by_case true e rest = here cc
    by_case false e rest = moved (h x) _ _ _ _ (rest e)

-- and in which none is
pub total-with_made_same : (h : Made → ℕ) (nodes : List Made) (id : ℕ) (f : Made → Made) → ((m : Made) → h (f m) ≡ h m) → total h (with_made nodes id f) ≡ total h nodes
total-with_made_same h [] id f same = refl
total-with_made_same h (x ∷ xs) id f same = by_case (has_id id x) (total-with_made_same h xs id f same)
  where
    by_case : (b : Bool) → total h (with_made xs id f) ≡ total h xs → total h (cond b (f x ∷ xs) (x ∷ with_made xs id f)) ≡ total h (x ∷ xs)
    by_case true rest = ap (λ n. n + total h xs) (same x)
    by_case false rest = ap (λ n. h x + n) rest

-- a change of a node's place or claim leaves the node
pub nodes-with_made : (nodes : List Made) (id : ℕ) (f : Made → Made) → ((m : Made) → (f m).node ≡ m.node) → map (λ m. m.node) (with_made nodes id f) ≡ map (λ m. m.node) nodes
nodes-with_made [] id f same = refl
nodes-with_made (x ∷ xs) id f same = by_case (has_id id x) (nodes-with_made xs id f same)
  where
    by_case : (b : Bool) → map (λ m. m.node) (with_made xs id f) ≡ map (λ m. m.node) xs → map (λ m. m.node) (cond b (f x ∷ xs) (x ∷ with_made xs id f)) ≡ map (λ m. m.node) (x ∷ xs)
    by_case true rest = ap (λ n. n ∷ map (λ m. m.node) xs) (same x)
    by_case false rest = ap (λ ns. x.node ∷ ns) rest

-- the node that is found has the id
pub found-id : (nodes : List Made) (id : ℕ) (m : Made) → find (has_id id) nodes ≡ Some m → m.node.id ≡ id
found-id [] id m e = absurd cc
found-id (x ∷ xs) id m e = by_case (has_id id x) refl e (found-id xs id m)
  where
    same_number : (a b : ℕ) → (a == b) ≡ true → b ≡ a
    same_number a b h = grind (arith, nat_tests)

    by_case : (b : Bool) → has_id id x ≡ b → cond b (Some x) (find (has_id id) xs) ≡ Some m → (find (has_id id) xs ≡ Some m → m.node.id ≡ id) → m.node.id ≡ id
    by_case true is e rest = let same : x ≡ m = cc in rw (← same) (same_number id x.node.id is)
    by_case false is e rest = rest e

-- and is one of the nodes
pub found-among : (nodes : List Made) (id : ℕ) (m : Made) → find (has_id id) nodes ≡ Some m → Contains (map (λ m. m.node) nodes) m.node
found-among [] id m e = absurd cc
found-among (x ∷ xs) id m e = by_case (has_id id x) e (found-among xs id m)
  where
    later : Contains (map (λ m. m.node) xs) m.node → Contains (map (λ m. m.node) (x ∷ xs)) m.node
    later h = (suc h.0, omega (arith, h.1), h.2)

    by_case : (b : Bool) → cond b (Some x) (find (has_id id) xs) ≡ Some m → (find (has_id id) xs ≡ Some m → Contains (map (λ m. m.node) xs) m.node) → Contains (map (λ m. m.node) (x ∷ xs)) m.node
    by_case true e rest = let same : x ≡ m = cc in (0, omega arith, ap (λ (a : Made). a.node) same)
    by_case false e rest = later (rest e)

-- no node joins or goes
pub length-with_made : (nodes : List Made) (id : ℕ) (f : Made → Made) → length (with_made nodes id f) ≡ length nodes
length-with_made [] id f = refl
length-with_made (x ∷ xs) id f = by_case (has_id id x) (length-with_made xs id f)
  where
    by_case : (b : Bool) → length (with_made xs id f) ≡ length xs → length (cond b (f x ∷ xs) (x ∷ with_made xs id f)) ≡ length (x ∷ xs)
    by_case true rest = refl
    by_case false rest = ap (λ n. suc n) rest
