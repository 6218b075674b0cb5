-- The order in which offers come. Helpers' clauses cite this, and no public one.
use Rattle.std.specs.declared.cmp.Ordering.{Ordering}
use Rattle.std.specs.declared.cmp.Reverse.{Reverse}
use Rattle.std.specs.Ordering.{nat_cmp, ordering_then}
use Rattle.twice_tree.specs.declared.offers.Offer.{Offer}

-- the cheapest first
abbrev pub offer_cmp : Reverse Offer → Reverse Offer → Ordering
offer_cmp x y = ordering_then (nat_cmp y.0.cost x.0.cost) (ordering_then (nat_cmp y.0.from x.0.from) (nat_cmp y.0.to x.0.to))
