-- All that a whole file states stays below what an instance may cost, in its unit.
use Rattle.std.proofs.Common.{◌≡◌, ℕ, ◌+◌, ◌*◌, ◌/◌, ◌^◌, ◌<◌, ◌≤◌, Bool, true, false, cond, ◌&&◌, ◌||◌, List, [], ◌∷◌, length, map, refl, sym, ap, ◌∙◌, arith}
use Rattle.std.specs.Prelude.{All}
use Rattle.std.specs.List.{AllByRecursion, list_any}
use Rattle.std.proofs.lemmas.Bool.Decides.{nat_tests}
use Rattle.std.proofs.lemmas.List.{append-nil}
use Rattle.std.proofs.lemmas.List.Elements.{All-map, All-weaker, recursion_from_All}
use Rattle.std.proofs.lemmas.List.Folds.{list_any-append}
use Rattle.std.proofs.Math.Nat.{div-lt_iff_lt-mul}
use Rattle.amounts.specs.declared.scale.Scale.{Scale}
use Rattle.amounts.specs.declared.scale.Scale.TheVariants.{Whole, Millionths}
use Rattle.st_model.specs.declared.link.Link.{Link}
use Rattle.st_model.specs.declared.need.Need.{Need}
use Rattle.st_model.specs.declared.need.Need.TheVariants.{Required, Pays}
use Rattle.st_model.specs.Lists.{total}
use Rattle.st_model.specs.Network.{IsVertex, prize}
use Rattle.stp_reader.specs.declared.seen.Seen.{Seen}
use Rattle.stp_reader.specs.declared.stage.FilePart.{FilePart}
use Rattle.stp_reader.specs.declared.stage.DiFilePart.{DiFilePart}
use Rattle.stp_reader.specs.Reached.{IsStatedLink, IsStatedNeed, IsSeen, IsFile, IsDiFile}
use Rattle.stp_reader.specs.Unit.{is_fractional, is_large, amounts_of, scale_of, in_unit, link_in, need_in, stated_in}

-- an amount that a word may say, and which isn't large where the unit is a millionth
abbrev IsSmall : Scale → ℕ → Type 0
IsSmall scale x = (x ≤ 1000000000000999999) × (scale ≡ Millionths → is_large x ≡ false)

in_unit_small : (scale : Scale) (x : ℕ) → IsSmall scale x → in_unit scale x ≤ 1000000000000
in_unit_small Whole x small =
    let below : x / 1000000 < 1000000000001 = (div-lt_iff_lt-mul {k = 1000000} {x = x} {y = 1000000000001} (omega arith)).1 (omega (arith, small.0)) in
    omega (arith, below)
in_unit_small Millionths x small = let low = small.1 refl in grind (arith, nat_tests, low)

-- each cost is at most 10^12 units
costs_bound : (scale : Scale) (links : List Link) → AllByRecursion (λ l. IsSmall scale l.cost) links → total (λ l. l.cost) (map (link_in scale) links) ≤ length links * 1000000000000
costs_bound scale [] fits = omega arith
costs_bound scale (l ∷ ls) fits = let others = costs_bound scale ls fits.1 in let first = in_unit_small scale l.cost fits.0 in omega (arith, others, first)

-- so is each prize
prize_bound : (scale : Scale) (need : Need) → IsSmall scale (prize need) → prize (need_in scale need) ≤ 1000000000000
prize_bound scale Required small = omega arith
prize_bound scale (Pays p) small = in_unit_small scale p small

prizes_bound : (scale : Scale) (needs : List (ℕ × Need)) → AllByRecursion (λ e. IsSmall scale (prize e.1)) needs → total (λ e. prize e.1) (map (stated_in scale) needs) ≤ length needs * 1000000000000
prizes_bound scale [] fits = omega arith
prizes_bound scale (e ∷ es) fits = let others = prizes_bound scale es fits.1 in let first = prize_bound scale e.1 fits.0 in omega (arith, others, first)

-- ---- none is large where one has decimals

or_none : (a b : Bool) → a || b ≡ false → (a ≡ false) × (b ≡ false)
or_none false b h = (refl, h)
or_none true b h = absurd cc

-- the unit is a millionth only where none of the amounts is large
none_large : (s : Seen) (amounts : List ℕ) → IsSeen s amounts → scale_of amounts ≡ Millionths → list_any is_large amounts ≡ false
none_large s amounts seen unit = by_case (list_any is_fractional amounts) (list_any is_large amounts) refl (ap (λ b. b && list_any is_large amounts) (sym seen.fraction) ∙ ap (λ b. s.fraction && b) (sym seen.large) ∙ seen.apart) unit
  where
    by_case : (f l : Bool) → list_any is_large amounts ≡ l → f && list_any is_large amounts ≡ false → cond f Millionths Whole ≡ Millionths → list_any is_large amounts ≡ false
    by_case true l is apart e = apart
    by_case false l is apart e = absurd cc

small_costs : (n : ℕ) (scale : Scale) (links : List Link) → AllByRecursion (IsStatedLink n) links → (scale ≡ Millionths → list_any is_large (map (λ l. l.cost) links) ≡ false) → AllByRecursion (λ l. IsSmall scale l.cost) links
small_costs n scale [] fits low = tt
small_costs n scale (l ∷ ls) fits low = (
  (fits.0.cheap, λ e. (or_none (is_large l.cost) (list_any is_large (map (λ m. m.cost) ls)) (low e)).0),
  small_costs n scale ls fits.1 (λ e. (or_none (is_large l.cost) (list_any is_large (map (λ m. m.cost) ls)) (low e)).1),
)

small_prizes : (n : ℕ) (scale : Scale) (needs : List (ℕ × Need)) → AllByRecursion (IsStatedNeed n) needs → (scale ≡ Millionths → list_any is_large (map (λ e. prize e.1) needs) ≡ false) → AllByRecursion (λ e. IsSmall scale (prize e.1)) needs
small_prizes n scale [] fits low = tt
small_prizes n scale (d ∷ ds) fits low = (
  (fits.0.cheap, λ e. (or_none (is_large (prize d.1)) (list_any is_large (map (λ m. prize m.1) ds)) (low e)).0),
  small_prizes n scale ds fits.1 (λ e. (or_none (is_large (prize d.1)) (list_any is_large (map (λ m. prize m.1) ds)) (low e)).1),
)

pub is_payable : (f : FilePart) (scale : Scale) → IsFile f → scale ≡ scale_of (amounts_of f.links.items f.needs.items)
    → total (λ l. l.cost) (map (link_in scale) f.links.items) + total (λ e. prize e.1) (map (stated_in scale) f.needs.items) < 2 ^ 63
is_payable f scale fits unit =
    let all : List ℕ = amounts_of f.links.items f.needs.items in
    let parts : list_any is_large (amounts_of f.links.items f.needs.items) ≡ (list_any is_large (map (λ l. l.cost) f.links.items) || list_any is_large (map (λ e. prize e.1) f.needs.items)) = list_any-append is_large (map (λ l. l.cost) f.links.items) (map (λ e. prize e.1) f.needs.items) in
    let low : scale ≡ Millionths → (list_any is_large (map (λ l. l.cost) f.links.items) ≡ false) × (list_any is_large (map (λ e. prize e.1) f.needs.items) ≡ false) = λ e. or_none _ _ (sym parts ∙ none_large f.seen all fits.seen (sym unit ∙ e)) in
    let costs = costs_bound scale f.links.items (small_costs f.vertices scale f.links.items (recursion_from_All (IsStatedLink f.vertices) f.links.items fits.graph.are_links.fit) (λ e. (low e).0)) in
    let prizes = prizes_bound scale f.needs.items (small_prizes f.vertices scale f.needs.items (recursion_from_All (IsStatedNeed f.vertices) f.needs.items fits.needs) (λ e. (low e).1)) in
    let few_links = fits.graph.few in
    let few_needs = fits.few in
    omega (arith, costs, prizes, few_links, few_needs)

pub are_payable : (f : DiFilePart) (scale : Scale) → IsDiFile f → scale ≡ scale_of (amounts_of f.arcs.items []) → total (λ l. l.cost) (map (link_in scale) f.arcs.items) < 2 ^ 63
are_payable f scale fits unit =
    let all : List ℕ = amounts_of f.arcs.items [] in
    let alone : list_any is_large (amounts_of f.arcs.items []) ≡ list_any is_large (map (λ l. l.cost) f.arcs.items) = ap (list_any is_large) (append-nil (map (λ l. l.cost) f.arcs.items)) in
    let low : scale ≡ Millionths → list_any is_large (map (λ l. l.cost) f.arcs.items) ≡ false = λ e. sym alone ∙ none_large f.seen all fits.seen (sym unit ∙ e) in
    let costs = costs_bound scale f.arcs.items (small_costs f.vertices scale f.arcs.items (recursion_from_All (IsStatedLink f.vertices) f.arcs.items fits.graph.are_links.fit) low) in
    let few = fits.graph.few in
    omega (arith, costs, few)

-- ---- all ends and needs are of vertices

pub ends_in : (n : ℕ) (scale : Scale) (links : List Link) → All (IsStatedLink n) links → All (λ l. IsVertex n l.a × IsVertex n l.b) (map (link_in scale) links)
ends_in n scale links all = All-map (λ l. IsVertex n l.a × IsVertex n l.b) (link_in scale) links (All-weaker (IsStatedLink n) (λ l. IsVertex n l.a × IsVertex n l.b) (λ l stated. (stated.first, stated.second)) links all)

pub needs_in : (n : ℕ) (scale : Scale) (needs : List (ℕ × Need)) → All (IsStatedNeed n) needs → All (λ e. IsVertex n e.0) (map (stated_in scale) needs)
needs_in n scale needs all = All-map (λ e. IsVertex n e.0) (stated_in scale) needs (All-weaker (IsStatedNeed n) (λ e. IsVertex n e.0) (λ e stated. stated.vertex) needs all)
