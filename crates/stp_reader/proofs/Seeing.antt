-- What was read of links and needs, with one more of them.
use Rattle.std.proofs.Common.{◌≡◌, ◌==◌, ℕ, ◌≤◌, false, not, cond, ◌&&◌, ◌||◌, List, [], ◌∷◌, ◌++◌, map, sym, ap, subst, ◌∙◌, append_assoc}
use Rattle.std.specs.Prelude.{All}
use Rattle.std.proofs.lemmas.List.{append-nil, map-append}
use Rattle.std.proofs.lemmas.List.Elements.{All-from_recursion}
use Rattle.std.proofs.lemmas.List.Folds.{list_any-append}
use Rattle.st_model.specs.declared.link.Link.{Link}
use Rattle.st_model.specs.declared.need.Need.{Need}
use Rattle.st_model.specs.declared.need.Need.TheVariants.{Pays}
use Rattle.st_model.specs.Lists.{has}
use Rattle.st_model.specs.Network.{IsVertex, is_needed, prize}
use Rattle.stp_reader.specs.declared.seen.Seen.{Seen}
use Rattle.stp_reader.specs.Reached.{IsSeen, IsStatedNeed}
use Rattle.stp_reader.specs.Reasons.{has_prize}
use Rattle.stp_reader.specs.Unit.{amounts_of}

abbrev costs : List Link → List ℕ
costs links = map (λ l. l.cost) links

abbrev prizes : List (ℕ × Need) → List ℕ
prizes needs = map (λ e. prize e.1) needs

one_cost : (links : List Link) (l : Link) → amounts_of links [] ++ l.cost ∷ [] ≡ amounts_of (links ++ l ∷ []) []
one_cost links l = ap (λ (xs : List ℕ). xs ++ l.cost ∷ []) (append-nil (costs links)) ∙ sym (append-nil (costs (links ++ l ∷ [])) ∙ map-append (λ m. m.cost) links (l ∷ []))

one_prize : (links : List Link) (needs : List (ℕ × Need)) (e : ℕ × Need) → amounts_of links needs ++ prize e.1 ∷ [] ≡ amounts_of links (needs ++ e ∷ [])
one_prize links needs e = append_assoc (costs links) (prizes needs) (prize e.1 ∷ []) ∙ ap (λ (xs : List ℕ). costs links ++ xs) (sym (map-append (λ d. prize d.1) needs (e ∷ [])))

pub seen_link : (s : Seen) (links : List Link) (l : Link) → IsSeen s (amounts_of links [] ++ l.cost ∷ []) → IsSeen s (amounts_of (links ++ l ∷ []) [])
seen_link s links l seen = subst (IsSeen s) (one_cost links l) seen

pub seen_need : (s : Seen) (links : List Link) (needs : List (ℕ × Need)) (e : ℕ × Need) → IsSeen s (amounts_of links needs ++ prize e.1 ∷ []) → IsSeen s (amounts_of links (needs ++ e ∷ []))
seen_need s links needs e seen = subst (IsSeen s) (one_prize links needs e) seen

pub one_stated : (n v p : ℕ) → IsVertex n v → p ≤ 1000000000000999999 → All (IsStatedNeed n) ((v, Pays p) ∷ [])
one_stated n v p vertex cheap = All-from_recursion (IsStatedNeed n) ((v, Pays p) ∷ []) (record { vertex = vertex; cheap = cheap }, tt)

-- the vertices that have a prize, with one that had none
pub more_paid : (needs : List (ℕ × Need)) (members new : List ℕ) (v p : ℕ) → ((w : ℕ) → has members w ≡ has_prize needs w) → has members v ≡ false → new ≡ cond (has members v) members (members ++ v ∷ [])
    → (w : ℕ) → has new w ≡ has_prize (needs ++ (v, Pays p) ∷ []) w
more_paid needs members new v p same fresh is w =
    ap (λ ms. has ms w) (is ∙ ap (λ b. cond b members (members ++ v ∷ [])) fresh) ∙ list_any-append (λ x. x == w) members (v ∷ []) ∙ ap (λ b. b || ((v == w) || false)) (same w)
    ∙ sym (list_any-append (λ (e : ℕ × Need). not (is_needed e.1) && (e.0 == w)) needs ((v, Pays p) ∷ []))
