-- Links, a list and needs that are drawn one after the other make the instance.
use Rattle.std.proofs.Common.{◌≡◌, ℕ, ◌+◌, ◌-◌, ◌*◌, ◌^◌, ◌<◌, ◌≤◌, Bool, List, take, sym, ap, ◌∙◌, subst, arith}
use Rattle.std.specs.Prelude.{All}
use Rattle.st_model.specs.declared.link.Link.{Link}
use Rattle.st_model.specs.declared.need.Need.{Need}
use Rattle.st_model.specs.Lists.{total}
use Rattle.st_model.specs.Network.{IsVertex, prize}
use Rattle.st_model.specs.Stated.{network_of}
use Rattle.instance_gen.specs.Generated.{Drawn, drawn, Shuffled, shuffled, all_links, all_exchanges, all_needs, generated, AreInRange}
use Rattle.instance_gen.proofs.Ranges.{links_in_range, chosen_in_range, needs_in_range, needs_few}

-- the needs that five numbers say
abbrev pub needs_drawn : ℕ → ℕ → ℕ → ℕ → Bool → List (ℕ × Need)
needs_drawn seed n m t prizes = let s = all_exchanges (all_links seed n m).last n t in all_needs s.last (take t s.list) prizes

-- links and needs that are the drawn ones
pub record AreDrawn (seed n m t : ℕ) (prizes : Bool) (links : List Link) (needs : List (ℕ × Need)) : Type 0 where
  pub all_of_them : links ≡ (all_links seed n m).links
  pub needed : needs ≡ needs_drawn seed n m t prizes

-- each is seen by the next as it was made
pub are_drawn : (seed n m t : ℕ) (prizes : Bool) (first last later : ℕ) (links seen_links : List Link) (list seen : List ℕ) (needs seen_needs : List (ℕ × Need))
    → first ≡ seed → drawn last links ≡ all_links first n m → shuffled later list ≡ all_exchanges last n t → seen ≡ list
    → needs ≡ all_needs later (take t seen) prizes → seen_links ≡ links → seen_needs ≡ needs → AreDrawn seed n m t prizes seen_links seen_needs
are_drawn seed n m t prizes first last later links seen_links list seen needs seen_needs start drew moved see need see_links see_needs =
    let all : drawn last links ≡ all_links seed n m = drew ∙ ap (λ x. all_links x n m) start in
    let same : shuffled later list ≡ all_exchanges (all_links seed n m).last n t = moved ∙ ap (λ (d : Drawn). all_exchanges d.last n t) all in
    record {
      all_of_them = see_links ∙ ap (λ (d : Drawn). d.links) all;
      needed = see_needs ∙ need ∙ ap (λ (l : List ℕ). all_needs later (take t l) prizes) see ∙ ap (λ (s : Shuffled). all_needs s.last (take t s.list) prizes) same;
    }

pub ends_in_range : (seed n m t : ℕ) (prizes : Bool) (links : List Link) (needs : List (ℕ × Need)) → AreInRange seed n m t → AreDrawn seed n m t prizes links needs
    → All (λ l. IsVertex n l.a × IsVertex n l.b) links
ends_in_range seed n m t prizes links needs r d = subst (All (λ l. IsVertex n l.a × IsVertex n l.b)) (sym d.all_of_them) (links_in_range seed n m t r).ends

pub vertices_in_range : (seed n m t : ℕ) (prizes : Bool) (links : List Link) (needs : List (ℕ × Need)) → AreDrawn seed n m t prizes links needs → All (λ e. IsVertex n e.0) needs
vertices_in_range seed n m t prizes links needs d = subst (All (λ (e : ℕ × Need). IsVertex n e.0)) (sym d.needed)
    (needs_in_range (IsVertex n) _ _ prizes (chosen_in_range (all_links seed n m).last n t))

pub small_amount : (seed n m t : ℕ) (prizes : Bool) (links : List Link) (needs : List (ℕ × Need)) → AreInRange seed n m t → AreDrawn seed n m t prizes links needs
    → total (λ l. l.cost) links + total (λ e. prize e.1) needs < 2 ^ 63
small_amount seed n m t prizes links needs r d =
    let costs : total (λ l. l.cost) links ≤ 100 * ((m - (n - 1)) + (n - 1)) = subst (λ (ls : List Link). total (λ l. l.cost) ls ≤ 100 * ((m - (n - 1)) + (n - 1)))
    (sym d.all_of_them) (links_in_range seed n m t r).costs in
    let s = all_exchanges (all_links seed n m).last n t in
    let prizes : total (λ e. prize e.1) needs ≤ 100 * t = subst (λ (es : List (ℕ × Need)). total (λ e. prize e.1) es ≤ 100 * t) (sym d.needed) (needs_few s.last t s.list prizes) in
    fits _ _ n m t r costs prizes
  where
    fits : (costs paid n m t : ℕ) → AreInRange seed n m t → costs ≤ 100 * ((m - (n - 1)) + (n - 1)) → paid ≤ 100 * t → costs + paid < 2 ^ 63
    fits costs paid n m t r c p = omega (arith, c, p, r.enough_links, r.few_links, r.few_vertices, r.some_vertex, r.chosen_are_vertices)

pub is_generated : (seed n m t : ℕ) (prizes : Bool) (links : List Link) (needs : List (ℕ × Need)) → AreDrawn seed n m t prizes links needs → network_of n links needs ≡ generated seed n m t prizes
unfolding generated
is_generated seed n m t prizes links needs d = ap (λ ls. network_of n ls needs) d.all_of_them ∙ ap (network_of n (all_links seed n m).links) d.needed
