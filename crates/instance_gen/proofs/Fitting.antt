-- What is drawn fits into a file.
use Rattle.std.proofs.Common.{◌≡◌, ℕ, zero, suc, ◌+◌, ◌-◌, ◌^◌, ◌≤◌, min, Bool, true, false, not, cond, eqb, List, [], ◌∷◌, length, get_or, take, Some, unwrap_or, refl, ap, ◌∙◌, length-append, arith}
use Rattle.std.specs.Prelude.{filter}
use Rattle.std.proofs.lemmas.List.{length-map}
use Rattle.std.proofs.lemmas.List.Elements.{All-map}
use Rattle.st_model.specs.declared.link.Link.{Link}
use Rattle.st_model.specs.declared.need.Need.{Need}
use Rattle.st_model.specs.declared.need.Need.TheVariants.{Required, Pays}
use Rattle.st_model.specs.Lists.{total, up_to}
use Rattle.st_model.specs.Network.{joins, prize}
use Rattle.st_model.specs.Stated.{both, ends, least_cost, merged, pairs, stated_need}
use Rattle.instance_gen.specs.Generated.{Drawn, tree_links, further_links, all_links, all_exchanges, all_needs, generated}
use Rattle.instance_gen.specs.Laws.{GeneratedFitFile}
use Rattle.instance_gen.proofs.Ranges.{links_in_range, needs_few}

-- no link costs more than all that are stated
least_within : (ls : List Link) (u v : ℕ) → unwrap_or (least_cost ls u v) 0 ≤ total (λ l. l.cost) ls
least_within [] u v = omega arith
least_within (l ∷ ls) u v = by_case (joins l u v) (least_within ls u v)
  where
    by_case : (b : Bool) → unwrap_or (least_cost ls u v) 0 ≤ total (λ l. l.cost) ls
        → unwrap_or (cond b (Some (min l.cost (unwrap_or (least_cost ls u v) l.cost))) (least_cost ls u v)) 0 ≤ l.cost + total (λ l. l.cost) ls
    by_case true rest = omega arith
    by_case false rest = omega (arith, rest)

filter_no_longer : {X : Type 0} (p : X → Bool) (xs : List X) → length (filter p xs) ≤ length xs
filter_no_longer p [] = omega arith
filter_no_longer {X} p (x ∷ xs) = by_case (p x) (filter_no_longer p xs)
  where
    by_case : (b : Bool) → length (filter p xs) ≤ length xs → length (cond b (x ∷ filter p xs) (filter p xs)) ≤ length (x ∷ xs)
    by_case true rest = omega (arith, rest)
    by_case false rest = omega (arith, rest)

pairs_no_more : (ls : List Link) → length (pairs ls) ≤ length ls
pairs_no_more [] = omega arith
pairs_no_more (l ∷ ls) = by_case (eqb l.a l.b) (pairs_no_more ls) (filter_no_longer (λ (p : ℕ × ℕ). not (joins l p.0 p.1)) (pairs ls))
  where
    by_case : (b : Bool) → length (pairs ls) ≤ length ls → length (filter (λ (p : ℕ × ℕ). not (joins l p.0 p.1)) (pairs ls)) ≤ length (pairs ls)
        → length (cond b (pairs ls) (ends l ∷ filter (λ p. not (joins l p.0 p.1)) (pairs ls))) ≤ length (l ∷ ls)
    by_case true rest less = omega (arith, rest)
    by_case false rest less = omega (arith, rest, less)

length-tree : (seed k : ℕ) → length (tree_links seed k).links ≡ k
length-tree seed zero = refl
length-tree seed (suc k) = let rest = length-tree seed k in let long = length-append (tree_links seed k).links _ in long ∙ omega (arith, rest)

length-further : (n : ℕ) (d : Drawn) (k : ℕ) → length (further_links n d k).links ≡ k + length d.links
length-further n d zero = omega arith
length-further n d (suc k) = let rest = length-further n d k in let long = length-append (further_links n d k).links _ in long ∙ omega (arith, rest)

both_within : (a b : Need) → prize (both a b) ≤ prize a + prize b
both_within Required b = omega arith
both_within (Pays p) Required = omega arith
both_within (Pays p) (Pays q) = omega arith

stated_within : (es : List (ℕ × Need)) (v : ℕ) → prize (stated_need es v) ≤ total (λ e. prize e.1) es
stated_within [] v = omega arith
stated_within (e ∷ es) v = by_case (eqb e.0 v) (stated_within es v) (both_within e.1 (stated_need es v))
  where
    by_case : (b : Bool) → prize (stated_need es v) ≤ total (λ e. prize e.1) es → prize (both e.1 (stated_need es v)) ≤ prize e.1 + prize (stated_need es v)
        → prize (cond b (both e.1 (stated_need es v)) (stated_need es v)) ≤ prize e.1 + total (λ e. prize e.1) es
    by_case true rest sum = omega (arith, rest, sum)
    by_case false rest sum = omega (arith, rest)

pub generated_fit : GeneratedFitFile
unfolding generated
generated_fit seed n m t prizes r =
    let links = (all_links seed n m).links in
    let s = all_exchanges (all_links seed n m).last n t in
    let needs = all_needs s.last (take t s.list) prizes in
    let long : length links ≡ (m - (n - 1)) + (n - 1) = length-further n (tree_links seed (n - 1)) (m - (n - 1)) ∙ ap (λ k. (m - (n - 1)) + k) (length-tree seed (n - 1)) in
    let made : ℕ × ℕ → Link = λ p. record { a = p.0; b = p.1; cost = unwrap_or (least_cost links p.0 p.1) 0 } in
    let merged_long : length (merged links) ≡ length (pairs links) = length-map (pairs links) made in
    let fewer = pairs_no_more links in
    let costs = (links_in_range seed n m t r).costs in
    let paid = needs_few s.last t s.list prizes in
    let some = r.some_vertex in
    let enough = r.enough_links in
    let few = r.few_links in
    let vertices = r.few_vertices in
    let chosen = r.chosen_are_vertices in
    record {
      few_links = omega (arith, long, merged_long, fewer, some, enough, few);
      low_costs = All-map (λ l. l.cost ≤ 10 ^ 12) made (pairs links) (λ k d within. let low = least_within links (get_or (pairs links) k d).0 (get_or (pairs links) k d).1 in omega (arith, low, costs, some, enough, few));
      told = tt;
      low_prizes = All-map (λ need. prize need ≤ 10 ^ 12) (stated_need needs) (up_to n) (λ k d within. let low = stated_within needs (get_or (up_to n) k d) in omega (arith, low, paid, chosen, vertices));
    }
