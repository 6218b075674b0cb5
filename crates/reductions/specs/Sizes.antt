-- How much of an instance is left: each step makes it less.
use Rattle.std.specs.Prelude.{ℕ, ◌+◌, ◌*◌, is_some, if◌then◌else◌}
use Rattle.st_model.specs.Lists.{has, sum_to}
use Rattle.st_model.specs.Network.{Network, link}
use Rattle.lift_back.specs.State.{State}

-- how many vertices aren't gone
abbrev pub left : State → ℕ
left s = sum_to (λ v. if has s.gone v then 0 else 1) s.instance.n

-- how many vertices u is linked with
abbrev pub degree : Network → ℕ → ℕ
degree I u = sum_to (λ w. if is_some (link I.links u w) then 1 else 0) I.n

-- the same of all vertices together
abbrev pub degrees : Network → ℕ
degrees I = sum_to (degree I) I.n

-- a vertex counts for more than all links can
abbrev pub size : State → ℕ
size s = left s * (s.instance.n * s.instance.n + 1) + degrees s.instance
