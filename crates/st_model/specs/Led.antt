-- What is reached by heads that are listed at their tails.
use Rattle.std.specs.Prelude.{ℕ, IsTrue, List, [], All, slice_index_or}
use Rattle.st_model.specs.Lists.{has}

-- the heads that are listed at a tail
abbrev pub heads_at : List (List ℕ) → ℕ → List ℕ
heads_at heads u = slice_index_or heads u []

-- what listed heads lead to from r
pub data IsLed (heads : List (List ℕ)) (r : ℕ) : ℕ → Type 0 where
  start : IsLed heads r r
  along : {u v : ℕ} → IsLed heads r u → IsTrue (has (heads_at heads u) v) → IsLed heads r v

-- all that is led to from r, and nothing else
pub record AreLed (heads : List (List ℕ)) (r : ℕ) (members : List ℕ) : Type 0 where
  pub root : IsTrue (has members r)
  pub sound : All (IsLed heads r) members
  pub closed : (u v : ℕ) → IsTrue (has members u) → IsTrue (has (heads_at heads u) v) → IsTrue (has members v)
