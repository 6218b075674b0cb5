-- What a walk costs that leaves the cells of the terminals which are joined.
use Rattle.std.proofs.Common.{◌≡◌, ℕ, ◌+◌, ◌≤◌, Bool, true, false, List, Some, refl, sym, ◌∙◌, ◌⊎◌, inl, inr, arith}
use Rattle.std.proofs.lemmas.Bool.{false≢true}
use Rattle.st_model.specs.declared.link.Link.{Link}
use Rattle.st_model.specs.Network.{link}
use Rattle.short_paths.specs.Walk.{IsWalk, stay, on}
use Rattle.twice_tree.proofs.Walks.{walks_back}

-- a walk stays in joined cells, or passed a link out of them whose offer is at most what lies before it and what its head is far
abbrev Passed : List Link → (ℕ → ℕ) → (ℕ → Bool) → ℕ → ℕ → ℕ → Type 0
Passed links far joined d x a = (joined x ≡ true) ⊎ ((b w r : ℕ) × IsWalk links w x r × (b + r ≡ a) × (d ≤ b + far w))

passes : (links : List Link) (far : ℕ → ℕ) (joined : ℕ → Bool) (d p x a : ℕ) → ((y c : ℕ) → IsWalk links p y c → far y ≤ c) → ((u w c : ℕ) → link links u w ≡ Some c → joined u ≡ true → joined w ≡ false → d ≤ far u + c + far w)
    → joined p ≡ true → IsWalk links p x a → Passed links far joined d x a
passes links far joined d p x a near offers root stay = inl root
passes links far joined d p x a near offers root (on {v} {w} {c} {d = e} way step) = elim (passes links far joined d p v c near offers root way) [
  | inl within ↦ at (joined w) refl within
  | inr (b, y, r, rest, sum, low) ↦ inr (b, y, r + e, on rest step, omega (arith, sum), low)
]
  where
    at : (j : Bool) → joined w ≡ j → joined v ≡ true → Passed links far joined d w (c + e)
    at true is within = inl is
    at false is within =
        let offer = offers v w e step within is in
        let before = near v c way in
        inr (c + e, w, 0, stay, omega arith, omega (arith, offer, before))

-- so the cheapest offer is no more than a walk from a joined terminal to another costs
pub crossing : (links : List Link) (far : ℕ → ℕ) (joined : ℕ → Bool) (d p q a : ℕ) → ((y c : ℕ) → IsWalk links p y c → far y ≤ c) → ((y c : ℕ) → IsWalk links q y c → far y ≤ c)
    → ((u w c : ℕ) → link links u w ≡ Some c → joined u ≡ true → joined w ≡ false → d ≤ far u + c + far w) → joined p ≡ true → joined q ≡ false → IsWalk links p q a → d ≤ a
crossing links far joined d p q a near back offers root out way = elim (passes links far joined d p q a near offers root way) [
  | inl within ↦ absurd (false≢true (sym out ∙ within))
  | inr (b, w, r, rest, sum, low) ↦ (let after = back w r (walks_back links w q r rest) in omega (arith, sum, low, after))
]
