-- What is written of an instance that fits into a file tells the unit of its costs and prizes.
use Rattle.std.proofs.Common.{◌≡◌, ℕ, max, Bool, true, false, cond, eqb, leb, ◌||◌, List, [], ◌∷◌, map, refl, sym, ap, ◌∙◌, arith}
use Rattle.std.specs.List.{list_any}
use Rattle.std.proofs.lemmas.Bool.{or_parts}
use Rattle.std.proofs.lemmas.Bool.Decides.{nat_tests}
use Rattle.std.proofs.lemmas.List.Folds.{list_any-append}
use Rattle.amounts.specs.declared.scale.Scale.{Scale}
use Rattle.amounts.specs.declared.scale.Scale.TheVariants.{Whole, Millionths}
use Rattle.st_model.specs.declared.need.Need.{Need}
use Rattle.st_model.specs.declared.need.Need.TheVariants.{Required, Pays}
use Rattle.st_model.specs.Lists.{up_to}
use Rattle.st_model.specs.Network.{Network, IsInstance, prize}
use Rattle.st_model.specs.Stated.{both, stated_need}
use Rattle.stp_reader.specs.Unit.{is_fractional, amounts_of, scale_of}
use Rattle.instance_gen.specs.Text.{FitsFile, IsTold, costs_and_prizes, written_needs}
use Rattle.instance_gen.proofs.Restated.{needs_again}
use Rattle.instance_gen.proofs.Scaled.{said_links, said_needs, amounts_said, scale_said}

-- no prize that is stated has decimals
abbrev NoneIn : List (ℕ × Need) → Type 0
NoneIn es = list_any is_fractional (map (λ e. prize e.1) es) ≡ false

both_whole : (a b : Need) → is_fractional (prize a) ≡ false → is_fractional (prize b) ≡ false → is_fractional (prize (both a b)) ≡ false
both_whole Required b p q = refl
both_whole (Pays x) Required p q = refl
both_whole (Pays x) (Pays y) p q = by_case (leb x y) refl
  where
    by_case : (b : Bool) → leb x y ≡ b → is_fractional (max x y) ≡ false
    by_case true is = let most : max x y ≡ y = grind (arith, nat_tests) in ap is_fractional most ∙ q
    by_case false is = let most : max x y ≡ x = grind (arith, nat_tests) in ap is_fractional most ∙ p

-- then no need that they make has any
whole_stated : (es : List (ℕ × Need)) (v : ℕ) → NoneIn es → is_fractional (prize (stated_need es v)) ≡ false
whole_stated [] v none = refl
whole_stated (e ∷ es) v none =
    let p = or_parts (is_fractional (prize e.1)) (list_any is_fractional (map (λ e. prize e.1) es)) none in
    let rest = whole_stated es v p.1 in
    by_case (eqb e.0 v) (both_whole e.1 (stated_need es v) p.0 rest) rest
  where
    by_case : (b : Bool) → is_fractional (prize (both e.1 (stated_need es v))) ≡ false → is_fractional (prize (stated_need es v)) ≡ false
        → is_fractional (prize (cond b (both e.1 (stated_need es v)) (stated_need es v))) ≡ false
    by_case true joined rest = joined
    by_case false joined rest = rest

all_whole : (es : List (ℕ × Need)) (vs : List ℕ) → NoneIn es → list_any is_fractional (map prize (map (stated_need es) vs)) ≡ false
all_whole es [] none = refl
all_whole es (v ∷ vs) none = rw (whole_stated es v none, all_whole es vs none) refl

-- so decimals of an instance stand in what is written of it
decimals_written : (I : Network) → IsInstance I → list_any is_fractional (costs_and_prizes I) ≡ true → list_any is_fractional (amounts_of I.links (written_needs I)) ≡ true
decimals_written I i some = by_case (list_any is_fractional (amounts_of I.links (written_needs I))) refl
  where
    by_case : (b : Bool) → list_any is_fractional (amounts_of I.links (written_needs I)) ≡ b → b ≡ true
    by_case true is = refl
    by_case false is =
        let p = or_parts _ _ (sym (list_any-append is_fractional (map (λ l. l.cost) I.links) (map (λ e. prize e.1) (written_needs I))) ∙ is) in
        let prizes : list_any is_fractional (map prize I.needs) ≡ false = ap (λ (ns : List Need). list_any is_fractional (map prize ns)) (sym (needs_again I i)) ∙ all_whole (written_needs I) (up_to I.n) p.1 in
        let none : list_any is_fractional (costs_and_prizes I) ≡ false = list_any-append is_fractional (map (λ l. l.cost) I.links) (map prize I.needs) ∙ ap (λ b. b || list_any is_fractional (map prize I.needs)) p.0 ∙ prizes in
        cc (some, none)

pub unit_told : (I : Network) (scale : Scale) → IsInstance I → FitsFile I scale → scale_of (amounts_of (said_links scale I.links) (said_needs scale (written_needs I))) ≡ scale
unit_told I scale i fits = ap scale_of (amounts_said scale I.links (written_needs I)) ∙ scale_said scale (amounts_of I.links (written_needs I)) (λ is. told scale is fits.told)
  where
    told : (kind : Scale) → kind ≡ Millionths → IsTold I kind → list_any is_fractional (amounts_of I.links (written_needs I)) ≡ true
    told Whole is h = absurd cc
    told Millionths is h = decimals_written I i h
