-- Each vertex but the first is linked to one before it, so all hang together.
use Rattle.std.proofs.Common.{◌≡◌, ℕ, zero, suc, ◌+◌, ◌-◌, ◌%◌, ◌<◌, ◌≤◌, Bool, true, false, cond, eqb, List, [], ◌∷◌, ◌++◌, refl, sym, subst, arith, Some}
use Rattle.std.specs.Prelude.{IsTrue, IsSome}
use Rattle.std.proofs.lemmas.Nat.{mod_below}
use Rattle.std.proofs.lemmas.Bool.Decides.{nat_tests}
use Rattle.st_model.specs.declared.link.Link.{Link}
use Rattle.st_model.specs.Network.{joins, link}
use Rattle.st_model.specs.Stated.{least_cost, merged}
use Rattle.st_model.proofs.Merging.{link-merged}
use Rattle.instance_gen.specs.Generated.{next, Drawn, tree_links, further_links, all_links, generated}
use Rattle.instance_gen.specs.Laws.{GeneratedAreConnected}

-- some link joins the two
abbrev Joined : List Link → ℕ → ℕ → Type 0
Joined ls u v = IsSome (least_cost ls u v)

joined_more : (ls more : List Link) (u v : ℕ) → Joined ls u v → Joined (ls ++ more) u v
joined_more [] more u v h = absurd cc
joined_more (l ∷ ls) more u v h = by_case (joins l u v) _ _ (joined_more ls more u v) h
  where
    by_case : (b : Bool) (x y : ℕ) → (Joined ls u v → Joined (ls ++ more) u v) → IsSome (cond b (Some x) (least_cost ls u v)) → IsSome (cond b (Some y) (least_cost (ls ++ more) u v))
    by_case true x y rest h = refl
    by_case false x y rest h = rest h

joined_last : (ls : List Link) (l : Link) → Joined (ls ++ l ∷ []) l.a l.b
joined_last [] l = let here : joins l l.a l.b ≡ true = grind (arith, nat_tests) in rw here refl
joined_last (m ∷ ls) l = by_case (joins m l.a l.b) _ (joined_last ls l)
  where
    by_case : (b : Bool) (x : ℕ) → Joined (ls ++ l ∷ []) l.a l.b → IsSome (cond b (Some x) (least_cost (ls ++ l ∷ []) l.a l.b))
    by_case true x rest = refl
    by_case false x rest = rest

-- a vertex before v that is joined to it
record Earlier (ls : List Link) (v : ℕ) : Type 0 where
  other : ℕ
  low : 1 ≤ other
  before : other < v
  joined : Joined ls other v

earlier_more : (ls more : List Link) (v : ℕ) → Earlier ls v → Earlier (ls ++ more) v
earlier_more ls more v e = record { other = e.other; low = e.low; before = e.before; joined = joined_more ls more e.other v e.joined }

earlier_last : (ls : List Link) (l : Link) → 1 ≤ l.a → l.a < l.b → Earlier (ls ++ l ∷ []) l.b
earlier_last ls l low before = record { other = l.a; low = low; before = before; joined = joined_last ls l }

-- the link of the tree to the vertex k + 2, when x was drawn last
abbrev new_link : ℕ → ℕ → Link
new_link x k = record { a = 1 + next x % ((k + 2) - 1); b = k + 2; cost = 1 + next (next x) % 100 }

tree_earlier : (seed k v : ℕ) → 2 ≤ v → v ≤ k + 1 → Earlier (tree_links seed k).links v
tree_earlier seed zero v low high = absurd (omega arith)
tree_earlier seed (suc k) v low high = by_case (eqb v (k + 2)) refl (tree_earlier seed k v low)
  where
    last : Earlier (tree_links seed (suc k)).links (k + 2)
    last = let below = mod_below (next (tree_links seed k).last) ((k + 2) - 1) (omega arith) in earlier_last (tree_links seed k).links
        (new_link (tree_links seed k).last k) (omega arith) (omega (arith, below))

    by_case : (b : Bool) → eqb v (k + 2) ≡ b → (v ≤ k + 1 → Earlier (tree_links seed k).links v) → Earlier (tree_links seed (suc k)).links v
    by_case true is rest = let same : k + 2 ≡ v = grind (arith, nat_tests) in subst (λ w. Earlier (tree_links seed (suc k)).links w) same last
    by_case false is rest =
        let lower : v ≤ k + 1 = grind (arith, nat_tests) in
        earlier_more (tree_links seed k).links (new_link (tree_links seed k).last k ∷ []) v (rest lower)

further_earlier : (n : ℕ) (d : Drawn) (k v : ℕ) → Earlier d.links v → Earlier (further_links n d k).links v
further_earlier n d zero v e = e
further_earlier n d (suc k) v e = earlier_more (further_links n d k).links _ v (further_earlier n d k v e)

-- a set that no link leaves holds the vertices up to k, if each is joined to an earlier one
all_held : (ls : List Link) (n : ℕ) (S : ℕ → Bool) → IsTrue (S 1) → ((u v : ℕ) → IsSome (link (merged ls) u v) → S u ≡ S v) → ((v : ℕ) → 2 ≤ v → v ≤ n → Earlier ls v)
    → (k v : ℕ) → 1 ≤ v → v ≤ k → k ≤ n → IsTrue (S v)
all_held ls n S first closed earlier zero v low high within = absurd (omega arith)
all_held ls n S first closed earlier (suc k) v low high within = by_case (eqb v 1) (eqb v (suc k)) refl refl (λ w up down. all_held ls n S first closed earlier k w up down (omega arith))
  where
    linked : Earlier ls v → ((w : ℕ) → 1 ≤ w → w ≤ k → IsTrue (S w)) → IsTrue (S v)
    linked e lower =
        let lt = e.before in
        let apart : eqb e.other v ≡ false = grind (arith, nat_tests) in
        let found : IsSome (link (merged ls) e.other v) = subst (λ o. IsSome o) (sym (link-merged ls e.other v apart)) e.joined in
        let held : IsTrue (S e.other) = lower e.other e.low (omega (arith, lt)) in
        subst (λ b. IsTrue b) (closed e.other v found) held

    by_case : (b d : Bool) → eqb v 1 ≡ b → eqb v (suc k) ≡ d → ((w : ℕ) → 1 ≤ w → w ≤ k → IsTrue (S w)) → IsTrue (S v)
    by_case true d is at lower = let same : 1 ≡ v = grind (arith, nat_tests) in subst (λ w. IsTrue (S w)) same first
    by_case false true is at lower = let above : 2 ≤ v = grind (arith, nat_tests) in linked (earlier v above (omega arith)) lower
    by_case false false is at lower = let below : v ≤ k = grind (arith, nat_tests) in lower v low below

pub connected : GeneratedAreConnected
unfolding generated
connected seed n m t prizes r S first closed v at =
    all_held (all_links seed n m).links n S first closed
    (λ w low high. further_earlier n (tree_links seed (n - 1)) (m - (n - 1)) w (tree_earlier seed (n - 1) w low (omega (arith, r.some_vertex))))
    n v at.0 at.1 (omega arith)
