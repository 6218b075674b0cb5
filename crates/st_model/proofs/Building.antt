-- The network that stated links and needs make is an instance.
use Rattle.std.proofs.Common.{◌≡◌, ℕ, ◌+◌, ◌-◌, ◌^◌, ◌<◌, ◌≤◌, min, Bool, true, false, not, cond, eqb, List, [], ◌∷◌, unwrap_or, refl, ap, ◌∙◌, arith}
use Rattle.std.specs.Prelude.{filter, All, AllPairs, IsFalse}
use Rattle.std.specs.List.{AllByRecursion}
use Rattle.std.proofs.lemmas.Bool.Decides.{nat_tests}
use Rattle.std.proofs.lemmas.List.{length-map}
use Rattle.std.proofs.lemmas.List.Elements.{All-filter, All-cons, All-nil, recursion_from_All}
use Rattle.std.proofs.lemmas.List.Kept.{AllPairs-filter, AllPairs-cons}
use Rattle.st_model.specs.declared.link.Link.{Link}
use Rattle.st_model.specs.declared.need.Need.{Need}
use Rattle.st_model.specs.declared.need.Need.TheVariants.{Required}
use Rattle.st_model.specs.Lists.{total, sum_to, up_to}
use Rattle.st_model.specs.Network.{IsVertex, IsInstance, IsLinkBetween, joins, link, pays, prize}
use Rattle.st_model.specs.Stated.{merged, network_of, stated_need}
use Rattle.st_model.specs.Steps.{ordered}
use Rattle.st_model.proofs.Sums.{total_filter_le, sum_to_same, length-up_to, get_or-up_to}
use Rattle.st_model.proofs.Merging.{other_pair, merged_loop, merged_next, joins_ordered}
use Rattle.st_model.proofs.Needs.{sum_of_prizes_le}

-- whatever holds of the first link of each pair holds of all that are merged
merged_ends : (n : ℕ) (ls : List Link) → AllByRecursion (λ l. IsVertex n l.a × IsVertex n l.b) ls → All (IsLinkBetween n) (merged ls)
merged_ends n [] h = All-nil _
merged_ends n (x ∷ ls) h = by_case (eqb x.a x.b) refl (merged_ends n ls h.1)
  where
    by_case : (b : Bool) → eqb x.a x.b ≡ b → All (IsLinkBetween n) (merged ls) → All (IsLinkBetween n) (merged (x ∷ ls))
    by_case true loop rest = rw (merged_loop x ls loop) rest
    by_case false different rest =
        let here : IsVertex n x.a × IsVertex n x.b = h.0 in
        let front : IsLinkBetween n (ordered x (min x.cost (unwrap_or (link (merged ls) x.a x.b) x.cost))) = record { low = omega (arith, here.0.0, here.1.0); ordered = grind (arith, nat_tests); high = omega (arith, here.0.1, here.1.1) } in
        rw (merged_next x ls different) (All-cons (IsLinkBetween n) _ _ front (All-filter (other_pair x) (IsLinkBetween n) (merged ls) rest))

-- what is left beside the first link is of other pairs
apart : (x : Link) (ms : List Link) (c : ℕ) → All (λ m. IsFalse (joins m (ordered x c).a (ordered x c).b)) (filter (other_pair x) ms)
apart x [] c = All-nil _
apart x (m ∷ ms) c = by_case (joins m x.a x.b) refl (apart x ms c)
  where
    by_case : (b : Bool) → joins m x.a x.b ≡ b → All (λ m. IsFalse (joins m (ordered x c).a (ordered x c).b)) (filter (other_pair x) ms) → All (λ m. IsFalse (joins m (ordered x c).a (ordered x c).b)) (cond (not b) (m ∷ filter (other_pair x) ms) (filter (other_pair x) ms))
    by_case true is rest = rest
    by_case false is rest = All-cons (λ m. IsFalse (joins m (ordered x c).a (ordered x c).b)) _ _ (joins_ordered m x ∙ is) rest

merged_once : (ls : List Link) → AllPairs (λ l m. IsFalse (joins m l.a l.b)) (merged ls)
merged_once [] = λ i j d before within. absurd (omega arith)
merged_once (x ∷ ls) = by_case (eqb x.a x.b) refl (merged_once ls)
  where
    by_case : (b : Bool) → eqb x.a x.b ≡ b → AllPairs (λ l m. IsFalse (joins m l.a l.b)) (merged ls) → AllPairs (λ l m. IsFalse (joins m l.a l.b)) (merged (x ∷ ls))
    by_case true loop rest = rw (merged_loop x ls loop) rest
    by_case false different rest = rw (merged_next x ls different) (AllPairs-cons (λ l m. IsFalse (joins m l.a l.b)) _ _ (apart x (merged ls) (min x.cost (unwrap_or (link (merged ls) x.a x.b) x.cost))) (AllPairs-filter (λ l m. IsFalse (joins m l.a l.b)) (other_pair x) (merged ls) rest))

merged_costs : (ls : List Link) → total (λ l. l.cost) (merged ls) ≤ total (λ l. l.cost) ls
merged_costs [] = omega arith
merged_costs (x ∷ ls) = by_case (eqb x.a x.b) refl (merged_costs ls)
  where
    by_case : (b : Bool) → eqb x.a x.b ≡ b → total (λ l. l.cost) (merged ls) ≤ total (λ l. l.cost) ls → total (λ l. l.cost) (merged (x ∷ ls)) ≤ x.cost + total (λ l. l.cost) ls
    by_case true loop rest = rw (merged_loop x ls loop) (omega arith)
    by_case false different rest = rw (merged_next x ls different) (grind (arith, total_filter_le (λ (l : Link). l.cost) (other_pair x) (merged ls)))

pub is_instance : (n : ℕ) (links : List Link) (needs : List (ℕ × Need)) → 1 ≤ n → n ≤ 1000000 → All (λ l. IsVertex n l.a × IsVertex n l.b) links → total (λ l. l.cost) links + total (λ e. prize e.1) needs < 2 ^ 63 → IsInstance (network_of n links needs)
is_instance n links needs some few ends fits = record {
  some_vertex = some;
  few_vertices = few;
  ends = merged_ends n links (recursion_from_All _ links ends);
  one_each = merged_once links;
  needs = length-map (up_to n) (stated_need needs) ∙ length-up_to n;
  amount =
      let paid : sum_to (pays (network_of n links needs)) n ≡ sum_to (λ v. prize (stated_need needs v)) n = sum_to_same _ _ n (λ v low high. let place : (v - 1) + 1 ≡ v = omega arith in ap prize (get_or-up_to (stated_need needs) n (v - 1) Required (omega arith) ∙ ap (stated_need needs) place)) in
      omega (arith, paid, merged_costs links, sum_of_prizes_le needs n);
}
