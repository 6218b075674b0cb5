-- A network: vertices 1 to n, links between pairs of them, and what each vertex needs.
use Rattle.std.specs.Prelude.{◌≡◌, ℕ, ◌+◌, ◌-◌, ◌^◌, ◌<◌, ◌≤◌, Bool, true, false, ◌&&◌, ◌||◌, ◌==◌, IsFalse, if◌then◌else◌, List, [], ◌∷◌, length, All, AllPairs, slice_index_or, Option, Some, None}
use Rattle.st_model.specs.declared.link.Link.{Link}
use Rattle.st_model.specs.declared.need.Need.{Need}
use Rattle.st_model.specs.declared.need.Need.TheVariants.{Required, Pays}
use Rattle.st_model.specs.Lists.{total, sum_to}

pub record Network : Type 0 where
  pub n : ℕ
  -- unordered pairs of different vertices, each with its cost, in a free order
  pub links : List Link
  -- what vertex 1, 2, .. n needs
  pub needs : List Need

-- u and v are the ends of the link, in either order
abbrev pub joins : Link → ℕ → ℕ → Bool
joins l u v = ((l.a == u) && (l.b == v)) || ((l.a == v) && (l.b == u))

-- the cost of the link between u and v, if there is one
abbrev pub link : List Link → ℕ → ℕ → Option ℕ
link [] u v = None
link (l ∷ ls) u v = if joins l u v then Some l.cost else link ls u v

-- v is one of the vertices 1 to n
abbrev pub IsVertex : ℕ → ℕ → Type 0
IsVertex n v = (1 ≤ v) × (v ≤ n)

-- what vertex v needs
abbrev pub need_of : Network → ℕ → Need
need_of I v = slice_index_or I.needs (v - 1) Required

abbrev pub is_needed : Need → Bool
is_needed Required = true
is_needed (Pays p) = false

abbrev pub prize : Need → ℕ
prize Required = 0
prize (Pays p) = p

-- whether v has to be reached
abbrev pub is_required : Network → ℕ → Bool
is_required I v = is_needed (need_of I v)

-- what it costs to leave v out, where it isn't required
abbrev pub pays : Network → ℕ → ℕ
pays I v = prize (need_of I v)

-- all that could ever be paid
abbrev pub amount : Network → ℕ
amount I = total (λ l. l.cost) I.links + sum_to (pays I) I.n

-- the ends are different vertices, the lower first
pub record IsLinkBetween (n : ℕ) (l : Link) : Type 0 where
  pub low : 1 ≤ l.a
  pub ordered : l.a < l.b
  pub high : l.b ≤ n

-- what holds of every instance
pub record IsInstance (I : Network) : Type 0 where
  pub some_vertex : 1 ≤ I.n
  pub few_vertices : I.n ≤ 1000000
  pub ends : All (IsLinkBetween I.n) I.links
  pub one_each : AllPairs (λ l m. IsFalse (joins m l.a l.b)) I.links
  pub needs : length I.needs ≡ I.n
  pub amount : amount I < 2 ^ 63
