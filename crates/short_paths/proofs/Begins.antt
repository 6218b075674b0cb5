-- The vertices that the paths to settled vertices begin with.
use Rattle.std.proofs.Common.{◌≡◌, ℕ, ◌<◌, ◌≤◌, cond, nat_lt, List, [], ◌∷◌, ◌++◌, length, map, drop, set, get_or, Option, Some, None, option_map, refl, sym, ap, ◌∙◌, ◌⊎◌, inl, inr, arith}
use Rattle.std.specs.Prelude.{unwrap_or}
use Rattle.std.proofs.lemmas.Bool.{cases_lt}
use Rattle.std.proofs.lemmas.List.{get_or_past, get_or-map, length-map, map-append}
use Rattle.std.proofs.lemmas.Option.{slice_get-get_or}
use Rattle.short_paths.specs.declared.mark.Mark.{Mark}
use Rattle.short_paths.specs.declared.settled.Settled.{Settled}
use Rattle.short_paths.specs.Marks.{place_in, places_of}
use Rattle.short_paths.specs.Routes.{source_of}
use Rattle.short_paths.specs.Searching.{paths_of, route_at, routes_of}
use Rattle.short_paths.specs.Walk.{first_of}
use Rattle.short_paths.proofs.Paths.{path_at, paths_of-push, length-paths_of}

-- by place the first vertices of the paths
abbrev pub firsts : List Settled → List ℕ
firsts settled = map first_of (paths_of settled)

-- at a place stands the first vertex of the path there, and past all places nothing
first_there : (settled : List Settled) (k d : ℕ) → k < length settled → get_or (firsts settled) k d ≡ first_of (get_or (paths_of settled) k [])
first_there settled k d within = get_or-map first_of (paths_of settled) k [] d (let long = length-paths_of settled in omega arith)

first_past : (settled : List Settled) (k d : ℕ) → length settled ≤ k → get_or (firsts settled) k d ≡ d
first_past settled k d past = get_or_past (firsts settled) k d (let long = length-paths_of settled in let same = length-map (paths_of settled) first_of in omega arith)

path_past : (settled : List Settled) (k : ℕ) → length settled ≤ k → get_or (paths_of settled) k [] ≡ []
path_past settled k past = get_or_past (paths_of settled) k [] (let long = length-paths_of settled in omega arith)

-- a path that goes on begins as before
goes_on : (front : List ℕ) (w v : ℕ) → first_of (front ++ w ∷ [] ++ v ∷ []) ≡ first_of (front ++ w ∷ [])
goes_on [] w v = refl
goes_on (u ∷ front) w v = refl

-- what a vertex's path begins with, by the place that it comes from
first_on : (settled : List Settled) (k v : ℕ) → first_of (get_or (paths_of settled) k [] ++ v ∷ []) ≡ get_or (firsts settled) k v
first_on settled k v = by_case (cases_lt k (length settled))
  where
    none : Settled
    none = record { vertex = 0; cost = 0; before = 0 }

    by_case : (k < length settled) ⊎ (length settled ≤ k) → first_of (get_or (paths_of settled) k [] ++ v ∷ []) ≡ get_or (firsts settled) k v
    by_case (inl within) =
        let s = get_or settled k none in
        let path = path_at settled k s (slice_get-get_or settled k none within) in
        ap (λ p. first_of (p ++ v ∷ [])) path ∙ (goes_on (cond (nat_lt s.before k) (get_or (paths_of settled) s.before []) []) s.vertex v ∙ (sym (ap first_of path) ∙ sym (first_there settled k v within)))
    by_case (inr past) = ap (λ p. first_of (p ++ v ∷ [])) (path_past settled k past) ∙ sym (first_past settled k v past)

-- one more path
pub firsts-push : (settled : List Settled) (s : Settled) → firsts (settled ++ s ∷ []) ≡ firsts settled ++ get_or (firsts settled) s.before s.vertex ∷ []
firsts-push settled s = ap (map first_of) (paths_of-push settled s) ∙ (map-append first_of (paths_of settled) ((get_or (paths_of settled) s.before [] ++ s.vertex ∷ []) ∷ []) ∙ ap (λ v. firsts settled ++ v ∷ []) (first_on settled s.before s.vertex))

-- what the first vertices tell of a place is the source there
pub source_told : (settled : List Settled) (place : Option ℕ) → unwrap_or (option_map (λ k. get_or (firsts settled) k 0) place) 0 ≡ source_of (option_map (route_at settled) place)
source_told settled None = refl
source_told settled (Some k) = by_case (cases_lt k (length settled))
  where
    by_case : (k < length settled) ⊎ (length settled ≤ k) → get_or (firsts settled) k 0 ≡ first_of (get_or (paths_of settled) k [])
    by_case (inl within) = first_there settled k 0 within
    by_case (inr past) = first_past settled k 0 past ∙ sym (ap first_of (path_past settled k past))

-- the source that a mark leads to
abbrev pub source_by : List Settled → Mark → ℕ
source_by settled mark = source_of (option_map (route_at settled) (place_in mark))

-- those of all marks but the first are the sources of the routes
pub sources_by : (settled : List Settled) (marks : List Mark) → map (source_by settled) (drop 1 marks) ≡ map source_of (routes_of settled (places_of marks))
sources_by settled [] = refl
sources_by settled (mark ∷ marks) = all marks
  where
    all : (marks : List Mark) → map (source_by settled) marks ≡ map source_of (map (option_map (route_at settled)) (places_of marks))
    all [] = refl
    all (mark ∷ marks) = ap (λ sources. source_by settled mark ∷ sources) (all marks)

-- the first mark is of no vertex
pub first_cleared : (settled : List Settled) (marks : List Mark) → 1 ≤ length marks → set (map (source_by settled) marks) 0 0 ≡ 0 ∷ map (source_by settled) (drop 1 marks)
first_cleared settled [] some = absurd (omega (arith, some))
first_cleared settled (mark ∷ marks) some = refl
