-- Amounts in the unit of their file.
use Rattle.std.proofs.Common.{◌≡◌, ℕ, zero, suc, ◌+◌, ◌<◌, ◌≤◌, List, [], ◌∷◌, ◌++◌, length, map, take, drop, set, get_or, refl, sym, ap, ◌∙◌, arith}
use Rattle.std.proofs.lemmas.List.{append-nil, take_all, drop_all}
use Rattle.std.proofs.Math.Seq.{take-append_seam}
use Rattle.st_model.specs.declared.link.Link.{Link}
use Rattle.st_model.specs.declared.need.Need.{Need}
use Rattle.st_model.specs.declared.need.Need.TheVariants.{Required, Pays}
use Rattle.amounts.specs.declared.scale.Scale.TheVariants.{Millionths}
use Rattle.stp_reader.specs.Unit.{link_in, need_in, stated_in}

at_it : {X : Type 0} (f : X → X) (xs : List X) (i : ℕ) (d : X) → i < length xs → set (map f (take i xs) ++ drop i xs) i (f (get_or (map f (take i xs) ++ drop i xs) i d)) ≡ map f (take (suc i) xs) ++ drop (suc i) xs
at_it f [] i d low = absurd (omega (arith, low))
at_it f (x ∷ xs) zero d low = refl
at_it f (x ∷ xs) (suc i) d low = ap (λ zs. f x ∷ zs) (at_it f xs i d (omega (arith, low)))

-- a list of which the first items were changed, with one more of them
pub one_changed : {X : Type 0} (f : X → X) (xs ys : List X) (i : ℕ) (d : X) → ys ≡ map f (take i xs) ++ drop i xs → i < length xs → set ys i (f (get_or ys i d)) ≡ map f (take (i + 1) xs) ++ drop (i + 1) xs
one_changed f xs ys i d is low =
    let next : suc i ≡ i + 1 = omega arith in
    ap (λ zs. set zs i (f (get_or zs i d))) is ∙ at_it f xs i d low ∙ ap (λ k. map f (take k xs) ++ drop k xs) next

-- once all were changed, and written back
pub all_changed : {X : Type 0} (f : X → X) (xs ys rest : List X) (i n : ℕ) → ys ≡ map f (take i xs) ++ drop i xs → length xs ≤ i → length ys ≡ length xs → n ≡ length xs → take n (ys ++ rest) ≡ map f xs
all_changed f xs ys rest i n is all long same =
    let whole : ys ≡ map f xs = is ∙ ap (λ zs. map f zs ++ drop i xs) (take_all i xs all) ∙ ap (λ zs. map f xs ++ zs) (drop_all i xs all) ∙ append-nil (map f xs) in
    ap (λ k. take k (ys ++ rest)) (same ∙ sym long) ∙ take-append_seam ys rest ∙ whole

-- in millionths all is as it was
pub same_links : (links : List Link) → map (link_in Millionths) links ≡ links
same_links [] = refl
same_links (l ∷ ls) = ap (λ ms. l ∷ ms) (same_links ls)

same_need : (need : Need) → need_in Millionths need ≡ need
same_need Required = refl
same_need (Pays p) = refl

pub same_needs : (needs : List (ℕ × Need)) → map (stated_in Millionths) needs ≡ needs
same_needs [] = refl
same_needs ((v, need) ∷ es) = ap (λ (d : Need). (v, d) ∷ map (stated_in Millionths) es) (same_need need) ∙ ap (λ ds. (v, need) ∷ ds) (same_needs es)
