-- Lists of vertices that are moved, and read.
use Rattle.std.proofs.Common.{◌≡◌, ◌≢◌, ℕ, ◌<◌, List, [], ◌++◌, length, get_or, set, refl, sym, ap, ◌∙◌, Vec, Global}
use Rattle.std.proofs.lemmas.List.{map-set, get_or-map, get_or-set_other}
use Rattle.level_packing.specs.Forest.{lists}

-- a list that was read is the one at its place
pub list_at : (ms : List (Vec ℕ Global)) (i : ℕ) (v : Vec ℕ Global) → i < length ms → v ≡ get_or ms i v → v.items ≡ get_or (lists ms) i []
list_at ms i v within read = ap (λ (w : Vec ℕ Global). w.items) read ∙ sym (get_or-map (λ (w : Vec ℕ Global). w.items) ms i v [] within)

pub poured : (ms : List (Vec ℕ Global)) (from to : ℕ) (a b target moved : Vec ℕ Global) → from < length ms → to < length ms → to ≢ from → a.items ≡ [] → b.items ≡ target.items ++ moved.items → moved ≡ get_or ms from moved → target ≡ get_or (set ms from a) to target
    → lists (set (set ms from a) to b) ≡ set (set (lists ms) from []) to (get_or (lists ms) to [] ++ get_or (lists ms) from [])
poured ms from to a b target moved from_in to_in two a_is b_is moved_is target_is =
    let source = list_at ms from moved from_in moved_is in
    let goal_list = list_at ms to target to_in (target_is ∙ get_or-set_other ms from to a target two) in
    map-set (λ (v : Vec ℕ Global). v.items) (set ms from a) to b ∙ rw (map-set (λ (v : Vec ℕ Global). v.items) ms from a, a_is, b_is, source, goal_list) refl
