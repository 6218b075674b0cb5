-- Costs and prizes as a text says them, in millionths: none of them is refused, they tell the unit, and in it they are again what they were.
use Rattle.std.proofs.Common.{◌≡◌, ℕ, ◌*◌, ◌^◌, ◌≤◌, Bool, true, false, ◌&&◌, List, [], ◌∷◌, map, All, refl, ap, arith}
use Rattle.std.specs.List.{list_any, AllByRecursion}
use Rattle.std.proofs.Math.Nat.{mul-mod_left}
use Rattle.std.proofs.lemmas.Bool.Decides.{nat_tests}
use Rattle.std.proofs.lemmas.List.Elements.{All-append, All-map, recursion_from_All}
use Rattle.amounts.specs.declared.scale.Scale.{Scale}
use Rattle.amounts.specs.declared.scale.Scale.TheVariants.{Whole, Millionths}
use Rattle.amounts.specs.Laws.{unit}
use Rattle.st_model.specs.declared.link.Link.{Link}
use Rattle.st_model.specs.declared.need.Need.{Need}
use Rattle.st_model.specs.declared.need.Need.TheVariants.{Required, Pays}
use Rattle.st_model.specs.Network.{prize}
use Rattle.stp_reader.specs.Place.{Graph}
use Rattle.stp_reader.specs.Unit.{is_fractional, is_large, amounts_of, scale_reasons, scale_of, in_unit, link_in, stated_in}

-- ---- what a text says

abbrev pub said_link : Scale → Link → Link
said_link scale l = record l { cost = l.cost * unit scale }

abbrev pub said_need : Scale → Need → Need
said_need scale Required = Required
said_need scale (Pays p) = Pays (p * unit scale)

abbrev pub said_links : Scale → List Link → List Link
said_links scale links = map (said_link scale) links

abbrev pub said_needs : Scale → List (ℕ × Need) → List (ℕ × Need)
said_needs scale needs = map (λ e. (e.0, said_need scale e.1)) needs

abbrev pub said_graph : Scale → Graph → Graph
said_graph scale g = record { n = g.n; links = said_links scale g.links }

abbrev pub said_amounts : Scale → List ℕ → List ℕ
said_amounts scale xs = map (λ x. x * unit scale) xs

prize_said : (scale : Scale) (d : Need) → prize (said_need scale d) ≡ prize d * unit scale
prize_said Whole Required = omega arith
prize_said Millionths Required = omega arith
prize_said scale (Pays p) = refl

prizes_said : (scale : Scale) (es : List (ℕ × Need)) → map (λ e. prize e.1) (said_needs scale es) ≡ said_amounts scale (map (λ e. prize e.1) es)
prizes_said scale [] = refl
prizes_said scale (e ∷ es) = rw (prize_said scale e.1, prizes_said scale es) refl

-- the amounts of what is said are those of what is meant, each so many times
pub amounts_said : (scale : Scale) (links : List Link) (needs : List (ℕ × Need)) → amounts_of (said_links scale links) (said_needs scale needs) ≡ said_amounts scale (amounts_of links needs)
amounts_said scale [] needs = prizes_said scale needs
amounts_said scale (l ∷ links) needs = ap (λ xs. l.cost * unit scale ∷ xs) (amounts_said scale links needs)

-- ---- no amount is refused for its unit

abbrev pub IsLow : ℕ → Type 0
IsLow x = x ≤ 10 ^ 12

pub low_amounts : (links : List Link) (needs : List (ℕ × Need)) → All (λ l. IsLow l.cost) links → All (λ e. IsLow (prize e.1)) needs → AllByRecursion IsLow (amounts_of links needs)
low_amounts links needs cheap low = recursion_from_All IsLow (amounts_of links needs)
    (All-append IsLow (map (λ l. l.cost) links) (map (λ e. prize e.1) needs) (All-map IsLow (λ l. l.cost) links cheap) (All-map IsLow (λ e. prize e.1) needs low))

none_fractional : (xs : List ℕ) → list_any is_fractional (said_amounts Whole xs) ≡ false
none_fractional [] = refl
none_fractional (x ∷ xs) = rw (mul-mod_left x 1000000, none_fractional xs) refl

none_large : (xs : List ℕ) → AllByRecursion IsLow xs → list_any is_large (said_amounts Millionths xs) ≡ false
none_large [] all_low = refl
none_large (x ∷ xs) all_low =
    let low = all_low.0 in
    let here : is_large (x * 1) ≡ false = grind (arith, nat_tests, low) in
    rw (here, none_large xs all_low.1) refl

not_both : (scale : Scale) (xs : List ℕ) → AllByRecursion IsLow xs → list_any is_fractional (said_amounts scale xs) && list_any is_large (said_amounts scale xs) ≡ false
not_both Whole xs all_low = rw (none_fractional xs) refl
not_both Millionths xs all_low = rw (none_large xs all_low) (by_case (list_any is_fractional (said_amounts Millionths xs)))
  where
    by_case : (b : Bool) → b && false ≡ false
    by_case true = refl
    by_case false = refl

-- an amount that is said after others has no reason
pub scale_right : (scale : Scale) (before : List ℕ) (x : ℕ) → AllByRecursion IsLow before → IsLow x → scale_reasons (said_amounts scale before) (x * unit scale) ≡ []
scale_right scale before x all_low low = rw (not_both scale (x ∷ before) (low, all_low)) refl

-- ---- they tell the unit

pub scale_said : (scale : Scale) (xs : List ℕ) → (scale ≡ Millionths → list_any is_fractional xs ≡ true) → scale_of (said_amounts scale xs) ≡ scale
scale_said Whole xs told = rw (none_fractional xs) refl
scale_said Millionths xs told =
    let same : said_amounts Millionths xs ≡ xs = once xs in
    rw (same, told refl) refl
  where
    once : (ys : List ℕ) → map (λ y. y * 1) ys ≡ ys
    once [] = refl
    once (y ∷ ys) = let one : y * 1 ≡ y = omega arith in rw (one, once ys) refl

-- ---- and in it they are what they were

in_unit_again : (scale : Scale) (x : ℕ) → in_unit scale (x * unit scale) ≡ x
in_unit_again Whole x = omega arith
in_unit_again Millionths x = omega arith

pub links_again : (scale : Scale) (links : List Link) → map (link_in scale) (said_links scale links) ≡ links
links_again scale [] = refl
links_again scale (l ∷ links) = rw (in_unit_again scale l.cost, links_again scale links) refl

need_again : (scale : Scale) (v : ℕ) (d : Need) → stated_in scale (v, said_need scale d) ≡ (v, d)
need_again scale v Required = refl
need_again scale v (Pays p) = rw (in_unit_again scale p) refl

pub needs_again : (scale : Scale) (needs : List (ℕ × Need)) → map (stated_in scale) (said_needs scale needs) ≡ needs
needs_again scale [] = refl
needs_again scale (e ∷ needs) = rw (need_again scale e.0 e.1, needs_again scale needs) refl
