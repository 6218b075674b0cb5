-- A network in which what a branch says of links is settled: barred ones are gone, and those that are a must cost nothing.
use Rattle.std.specs.Prelude.{◌≡◌, ℕ, Bool, if◌then◌else◌, not, List, map, filter, Option}
use Rattle.std.specs.Option.{option_map}
use Rattle.st_model.specs.declared.branch.Branch.{Branch}
use Rattle.st_model.specs.declared.link.Link.{Link}
use Rattle.st_model.specs.Network.{Network, link}
use Rattle.st_model.specs.Made.{has_pair}
use Rattle.st_model.specs.Branch.{open_link}

-- whether the branch doesn't bar the link
abbrev pub is_left : Branch → Link → Bool
is_left B l = not (has_pair B.barred l.a l.b)

-- the link, at no cost where it is a must
abbrev pub settled : Branch → Link → Link
settled B l = record l { cost = if has_pair B.must l.a l.b then 0 else l.cost }

-- the links that aren't barred, those that are a must at no cost
abbrev pub settled_links : Branch → List Link → List Link
settled_links B links = map (settled B) (filter (is_left B) links)

-- what the link between u and v costs there
abbrev pub settled_price : Network → Branch → ℕ → ℕ → Option ℕ
settled_price I B u v = option_map (λ price. if has_pair B.must u v then 0 else price) (open_link I B u v)

-- the network is the other one, settled
pub record IsSettled (I : Network) (B : Branch) (S : Network) : Type 0 where
  pub n : S.n ≡ I.n
  pub needs : S.needs ≡ I.needs
  pub link : (u v : ℕ) → link S.links u v ≡ settled_price I B u v
