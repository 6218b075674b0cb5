-- Paths that are gone along from their ends.
use Rattle.std.proofs.Common.{◌≡◌, ℕ, ◌+◌, ◌||◌, List, [], ◌∷◌, ◌++◌, reverse, Option, Some, None, option_map, refl, ap, ◌∙◌, arith}
use Rattle.std.specs.Prelude.{◌==◌}
use Rattle.std.specs.Option.{option_and_then}
use Rattle.std.proofs.Math.Bool.{or_comm}
use Rattle.std.proofs.lemmas.List.{reverse-append}
use Rattle.st_model.specs.declared.link.Link.{Link}
use Rattle.st_model.specs.Lists.{has}
use Rattle.st_model.specs.Network.{link}
use Rattle.st_model.proofs.Distinct.{link-comm}
use Rattle.st_model.proofs.Marked.{has-push}
use Rattle.short_paths.specs.Walk.{cost_along, path_cost, first_of}
use Rattle.short_paths.proofs.Walks.{last_of, along_more}

-- a path backwards, of which this is the cost and this the end
record IsBack (links : List Link) (u : ℕ) (rest : List ℕ) (c : ℕ) : Type 0 where
  from : ℕ
  more : List ℕ
  turned : reverse (u ∷ rest) ≡ from ∷ more
  ends : last_of from more ≡ u
  cost : cost_along links from more ≡ Some c

last_push : (u v : ℕ) (rest : List ℕ) → last_of u (rest ++ v ∷ []) ≡ v
last_push u v [] = refl
last_push u v (w ∷ rest) = last_push w v rest

-- backwards it costs the same
back : (links : List Link) (u : ℕ) (rest : List ℕ) (c : ℕ) → cost_along links u rest ≡ Some c → IsBack links u rest c
back links u [] c is = record { from = u; more = []; turned = refl; ends = refl; cost = is }
back links u (v ∷ rest) c is = by_case (link links u v) (cost_along links v rest) refl refl is (λ d. back links v rest d)
  where
    by_case : (o p : Option ℕ) → link links u v ≡ o → cost_along links v rest ≡ p → option_and_then (λ c. option_map (λ d. c + d) p) o ≡ Some c → ((d : ℕ) → cost_along links v rest ≡ Some d → IsBack links v rest d) → IsBack links u (v ∷ rest) c
    by_case None p linked along sum more = absurd (let clash : ⊥ = cc in clash)
    by_case (Some d) None linked along sum more = absurd (let clash : ⊥ = cc in clash)
    by_case (Some d) (Some y) linked along sum more =
        let b = more y along in
        let all : d + y ≡ c = cc in
        let cost : y + d ≡ c = omega arith in
        record {
          from = b.from;
          more = b.more ++ u ∷ [];
          turned = reverse-append (u ∷ []) (v ∷ rest) ∙ ap (λ xs. xs ++ u ∷ []) b.turned;
          ends = last_push b.from u b.more;
          cost = along_more links b.from b.more y d u b.cost (ap (λ x. link links x u) b.ends ∙ (link-comm links v u ∙ linked)) ∙ ap Some cost;
        }

pub path_cost-reverse : (links : List Link) (path : List ℕ) (c : ℕ) → path_cost links path ≡ Some c → path_cost links (reverse path) ≡ Some c
path_cost-reverse links [] c is = absurd (let clash : ⊥ = cc in clash)
path_cost-reverse links (u ∷ rest) c is = let b = back links u rest c is in ap (path_cost links) b.turned ∙ b.cost

-- it begins where the path ends
pub first_of-reverse : (path front : List ℕ) (v : ℕ) → path ≡ front ++ v ∷ [] → first_of (reverse path) ≡ v
first_of-reverse path front v is = ap (λ p. first_of (reverse p)) is ∙ ap first_of (reverse-append front (v ∷ []))

-- and passes the same vertices
pub has-reverse : (xs : List ℕ) (v : ℕ) → has (reverse xs) v ≡ has xs v
has-reverse [] v = refl
has-reverse (x ∷ xs) v = ap (λ ys. has ys v) (reverse-append (x ∷ []) xs) ∙ (has-push (reverse xs) x v ∙ (ap (λ b. b || (x == v)) (has-reverse xs v) ∙ or_comm (has xs v) (x == v)))
