-- Instances that are drawn: five numbers say which.
use Rattle.std.specs.Prelude.{ℕ, zero, suc, ◌+◌, ◌-◌, ◌*◌, ◌%◌, ◌≤◌, Bool, if◌then◌else◌, List, [], ◌∷◌, ◌++◌, map, take}
use Rattle.std.specs.List.{swap}
use Rattle.st_model.specs.declared.link.Link.{Link}
use Rattle.st_model.specs.declared.need.Need.{Need}
use Rattle.st_model.specs.declared.need.Need.TheVariants.{Required, Pays}
use Rattle.st_model.specs.Lists.{up_to}
use Rattle.st_model.specs.Network.{Network}
use Rattle.st_model.specs.Stated.{network_of}

-- the number that is drawn after x; a draw below k takes its remainder by k
unfoldable pub next : ℕ → ℕ
next x = (x * 48271) % 2147483647

-- links that are drawn, and the number that was drawn last
pub record Drawn : Type 0 where
  pub last : ℕ
  pub links : List Link

abbrev pub drawn : ℕ → List Link → Drawn
drawn last links = record { last = last; links = links }

-- two draws more: a link from one of the vertices below v to v
abbrev pub with_tree_link : ℕ → Drawn → Drawn
with_tree_link v d = let x = next d.last in let y = next x in drawn y (d.links ++ record { a = 1 + x % (v - 1); b = v; cost = 1 + y % 100 } ∷ [])

-- three draws more: a link between two of n vertices, also where both are the same
abbrev pub with_further_link : ℕ → Drawn → Drawn
with_further_link n d = let x = next d.last in let y = next x in let z = next y in drawn z (d.links ++ record { a = 1 + x % n; b = 1 + y % n; cost = 1 + z % 100 } ∷ [])

-- a link to each of the k vertices from 2 on
abbrev pub tree_links : ℕ → ℕ → Drawn
tree_links seed zero = drawn seed []
tree_links seed (suc k) = with_tree_link (k + 2) (tree_links seed k)

-- k links more
abbrev pub further_links : ℕ → Drawn → ℕ → Drawn
further_links n d zero = d
further_links n d (suc k) = with_further_link n (further_links n d k)

-- a list of vertices whose items change places, and the number that was drawn last
pub record Shuffled : Type 0 where
  pub last : ℕ
  pub list : List ℕ

abbrev pub shuffled : ℕ → List ℕ → Shuffled
shuffled last list = record { last = last; list = list }

-- one draw more: item i of n changes places with itself or a later one
abbrev pub with_exchange : ℕ → Shuffled → ℕ → Shuffled
with_exchange n s i = let x = next s.last in shuffled x (swap s.list i (i + x % (n - i)))

-- the first k items change places, one after the other
abbrev pub exchanges : ℕ → Shuffled → ℕ → Shuffled
exchanges n s zero = s
exchanges n s (suc k) = with_exchange n (exchanges n s k) k

-- every chosen vertex is required
abbrev pub all_required : List ℕ → List (ℕ × Need)
all_required chosen = map (λ v. (v, Required)) chosen

-- every chosen vertex pays from 1 to 100, a draw for each
abbrev pub all_paying : ℕ → List ℕ → List (ℕ × Need)
all_paying last [] = []
all_paying last (v ∷ vs) = (v, Pays (1 + next last % 100)) ∷ all_paying (next last) vs

-- all links: those of a tree, and then further ones up to m
abbrev pub all_links : ℕ → ℕ → ℕ → Drawn
all_links seed n m = further_links n (tree_links seed (n - 1)) (m - (n - 1))

-- the list after the first t items have changed places
abbrev pub all_exchanges : ℕ → ℕ → ℕ → Shuffled
all_exchanges last n t = exchanges n (shuffled last (up_to n)) t

-- what the chosen vertices need: all are required, or all pay
abbrev pub all_needs : ℕ → List ℕ → Bool → List (ℕ × Need)
all_needs last chosen prizes = if prizes then all_paying last chosen else all_required chosen

-- n vertices, m links, of which those that join no new pair count as stated, and what the first t items of the list need
unfoldable pub generated : ℕ → ℕ → ℕ → ℕ → Bool → Network
generated seed n m t prizes =
    let links = all_links seed n m in
    let vertices = all_exchanges links.last n t in
    network_of n links.links (all_needs vertices.last (take t vertices.list) prizes)

-- the five numbers in their ranges
pub record AreInRange (seed n m t : ℕ) : Type 0 where
  pub seed_low : 1 ≤ seed
  pub seed_high : seed ≤ 2147483646
  pub some_vertex : 1 ≤ n
  pub few_vertices : n ≤ 1000000
  pub enough_links : n ≤ m + 1
  pub few_links : m ≤ 4000000
  pub some_chosen : 1 ≤ t
  pub chosen_are_vertices : t ≤ n
