-- Ends of vertices that may be left out, and what is left of their prizes.
use Rattle.std.specs.Prelude.{◌≡◌, ℕ, ◌+◌, ◌-◌, ◌≤◌, ◌==◌, Bool, false, nat_lt, if◌then◌else◌, List, [], ◌∷◌, length, map, filter, All, slice_index_or}
use Rattle.std.specs.List.{list_any}
use Rattle.st_model.specs.Lists.{up_to}
use Rattle.st_model.specs.Network.{IsVertex}
use Rattle.bidirected_form.specs.declared.kind.VertexKind.{VertexKind}
use Rattle.bidirected_form.specs.declared.kind.VertexKind.TheVariants.{Outside, Must, May}
use Rattle.bidirected_form.specs.Digraph.{Digraph, kind_of}

pub record Ends : Type 0 where
  pub n : ℕ
  -- each end with its vertex
  pub ends : List (ℕ × ℕ)
  -- what is left for vertex 0, 1, .. n; 0 stands for none
  pub left : List ℕ

-- what is left of the prize of v, which is 0 where v has no end
abbrev pub left_of : Ends → ℕ → ℕ
left_of E v = slice_index_or E.left v 0

-- what a vertex of this kind may be left out for
abbrev pub prize_for : VertexKind → ℕ
prize_for Outside = 0
prize_for Must = 0
prize_for (May p) = p

-- what v may be left out for, which is 0 where it may not
abbrev pub prize_in : Digraph → ℕ → ℕ
prize_in D v = prize_for (kind_of D v)

-- the vertices that may be left out for more than 0
abbrev pub prized : Digraph → List ℕ
prized D = filter (λ v. nat_lt 0 (prize_in D v)) (up_to D.n)

-- the vertices, each after a number, from this one on
abbrev pub numbered_from : ℕ → List ℕ → List (ℕ × ℕ)
numbered_from end [] = []
numbered_from end (v ∷ vs) = (end, v) ∷ numbered_from (end + 1) vs

-- whether v has an end
abbrev pub has_end : List (ℕ × ℕ) → ℕ → Bool
has_end ends v = list_any (λ e. e.1 == v) ends

-- whether this is an end
abbrev pub is_end : List (ℕ × ℕ) → ℕ → Bool
is_end ends end = list_any (λ e. e.0 == end) ends

-- the vertex of an end
abbrev pub vertex_of : List (ℕ × ℕ) → ℕ → ℕ
vertex_of [] end = 0
vertex_of (e ∷ ends) end = if e.0 == end then e.1 else vertex_of ends end

-- what holds of all ends and what is left
pub record AreTwins (E : Ends) : Type 0 where
  pub few_vertices : E.n ≤ 1000000
  -- the ends are numbered from the last vertex on
  pub numbered : E.ends ≡ numbered_from (E.n + 1) (map (λ e. e.1) E.ends)
  pub vertices : All (λ e. IsVertex E.n e.1) E.ends
  pub left : length E.left ≡ E.n + 1
  -- no end, nothing left
  pub none : (v : ℕ) → has_end E.ends v ≡ false → left_of E v ≡ 0

-- what is left for one vertex becomes this of what it was, and all else is as before
pub record Alters (old new : Ends) (q : ℕ) (f : ℕ → ℕ) : Type 0 where
  pub count : new.n ≡ old.n
  pub ends : new.ends ≡ old.ends
  pub left : (v : ℕ) → left_of new v ≡ (if v == q then f (left_of old q) else left_of old v)

-- so much less is left for one vertex, and all else is as before
abbrev pub Charges : Ends → Ends → ℕ → ℕ → Type 0
Charges old new q y = Alters old new q (λ left. left - y)

-- so much more is left for one vertex, and all else is as before
abbrev pub Returns : Ends → Ends → ℕ → ℕ → Type 0
Returns old new q y = Alters old new q (λ left. left + y)
