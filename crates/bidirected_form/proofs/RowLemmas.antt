-- The rows that ends cut out of one list of arcs.
use Rattle.std.proofs.Common.{◌≡◌, ℕ, zero, suc, Bool, true, false, ◌+◌, ◌-◌, ◌<◌, ◌≤◌, List, [], ◌∷◌, ◌++◌, length, take, drop, map, get_or, set, refl, sym, ap, ◌∙◌, subst, arith}
use Rattle.std.specs.Prelude.{slice_range, IsTrue, IsFalse}
use Rattle.std.proofs.lemmas.List.{length-append, length-take, length-drop, map-append, take-append-le, drop_at, take_all, drop-drop, take-map, drop-map, get_or_default}
use Rattle.std.proofs.lemmas.List.Edits.{split_between, map_over_more}
use Rattle.std.proofs.lemmas.Slice.{between_is, take-put_mid_below, drop-put_mid, between-put_mid}
use borrow.Rule.Slice.PartMut.{put_mid}
use Rattle.bidirected_form.specs.declared.arc.Arc.{Arc}
use Rattle.bidirected_form.specs.declared.change.Change.{Change}
use Rattle.bidirected_form.specs.Rows.{rows_from, row_of, after, altered, IsLaidOut}

-- each row ends where it begins or later, and not past the end
pub row_within : (b : ℕ) (es : List ℕ) (last v : ℕ) → v < length es → IsLaidOut b es last → (get_or (b ∷ es) v 0 ≤ get_or es v 0) × (get_or es v 0 ≤ last)
row_within b [] last v below h = absurd (omega arith)
row_within b (e ∷ es) last zero below h = (h.0, h.1)
row_within b (e ∷ es) last (suc v) below h = row_within e es last v (omega arith) h.2

-- a row begins where the one before ends
pub begin_is : (b : ℕ) (es : List ℕ) (v : ℕ) → 1 ≤ v → get_or (b ∷ es) v 0 ≡ get_or es (v - 1) 0
begin_is b es zero some = absurd (omega arith)
begin_is b es (suc v) some = let e : suc v - 1 ≡ v = omega arith in rw e

pub length-rows_from : (b : ℕ) (es : List ℕ) (arcs : List Arc) → length (rows_from b es arcs) ≡ length es
length-rows_from b [] arcs = refl
length-rows_from b (e ∷ es) arcs = ap suc (length-rows_from e es arcs)

pub row_at : (b : ℕ) (es : List ℕ) (arcs : List Arc) (v : ℕ) → v < length es → row_of (rows_from b es arcs) v ≡ slice_range arcs (get_or (b ∷ es) v 0) (get_or es v 0)
row_at b [] arcs v below = absurd (omega arith)
row_at b (e ∷ es) arcs zero below = refl
row_at b (e ∷ es) arcs (suc v) below = row_at e es arcs v (omega arith)

-- the tails of a row
pub range-map : {X Y : Type 0} (f : X → Y) (xs : List X) (i j : ℕ) → slice_range (map f xs) i j ≡ map f (slice_range xs i j)
range-map f xs i j = rw (drop-map f i xs) (take-map f (j - i) (drop i xs))

-- one more row comes last
pub laid_push : (b : ℕ) (es : List ℕ) (last next : ℕ) → IsLaidOut b es last → last ≤ next → IsLaidOut b (es ++ next ∷ []) next
laid_push b [] last next h more = (omega arith, omega arith, refl)
laid_push b (e ∷ es) last next h more = (h.0, omega arith, laid_push e es last next h.2 more)

range_kept : (arcs new : List Arc) (b e : ℕ) → b ≤ e → e ≤ length arcs → slice_range (arcs ++ new) b e ≡ slice_range arcs b e
range_kept arcs new b e rise within =
    between_is (arcs ++ new) b e ∙ ap (drop b) (take-append-le e arcs new within) ∙ sym (between_is arcs b e)

range_new : (arcs new : List Arc) → slice_range (arcs ++ new) (length arcs) (length (arcs ++ new)) ≡ new
range_new arcs new =
    let few : length new ≤ length (arcs ++ new) - length arcs = omega (arith, length-append arcs new) in
    rw (drop_at arcs new (length arcs) refl) (take_all (length (arcs ++ new) - length arcs) new few)

pub rows_push : (b : ℕ) (es : List ℕ) (arcs new : List Arc) → IsLaidOut b es (length arcs) → rows_from b (es ++ length (arcs ++ new) ∷ []) (arcs ++ new) ≡ rows_from b es arcs ++ new ∷ []
rows_push b [] arcs new h = subst (λ (k : ℕ). slice_range (arcs ++ new) k (length (arcs ++ new)) ∷ [] ≡ new ∷ []) (sym h) (ap (λ (row : List Arc). row ∷ []) (range_new arcs new))
rows_push b (e ∷ es) arcs new h = rw (range_kept arcs new b e h.0 h.1, rows_push e es arcs new h.2)

-- rows past a place are the same where all from there on is
rows_after : (b : ℕ) (es : List ℕ) (last : ℕ) (old new : List Arc) → IsLaidOut b es last → drop b new ≡ drop b old → rows_from b es new ≡ rows_from b es old
rows_after b [] last old new h same = refl
rows_after b (e ∷ es) last old new h same =
    let sum : b + (e - b) ≡ e = omega (arith, h.0) in
    let later : drop e new ≡ drop e old = subst (λ (k : ℕ). drop k new ≡ drop k old) sum (sym (drop-drop (e - b) b new) ∙ ap (drop (e - b)) same ∙ drop-drop (e - b) b old) in
    rw (same, rows_after e es last old new h.2 later)

-- a row begins no earlier than the first
begins_later : (b : ℕ) (es : List ℕ) (last v : ℕ) → v < length es → IsLaidOut b es last → b ≤ get_or (b ∷ es) v 0
begins_later b [] last v below h = absurd (omega arith)
begins_later b (e ∷ es) last zero below h = omega arith
begins_later b (e ∷ es) last (suc v) below h = let later = begins_later e es last v (omega arith) h.2 in omega (arith, h.0)

abbrev pub tail_of : Arc → ℕ
tail_of a = a.tail

pub tails_kept : (f : Arc → Arc) → ((a : Arc) → (f a).tail ≡ a.tail) → (arcs : List Arc) → map tail_of (map f arcs) ≡ map tail_of arcs
tails_kept f keeps [] = refl
tails_kept f keeps (a ∷ arcs) = rw (keeps a, tails_kept f keeps arcs)

pub altered_tail : (marks : List Bool) (change : Change) (a : Arc) → (altered marks change a).tail ≡ a.tail
altered_tail marks change a = by_case (get_or marks a.tail false) refl
  where
    by_case : (b : Bool) → get_or marks a.tail false ≡ b → (altered marks change a).tail ≡ a.tail
    by_case true e = rw e refl
    by_case false e = rw e refl

-- a row is written
pub rows_set : (b : ℕ) (es : List ℕ) (arcs : List Arc) (v : ℕ) (new : List Arc) → v < length es → IsLaidOut b es (length arcs) → length new ≡ get_or es v 0 - get_or (b ∷ es) v 0 → rows_from b es (put_mid (get_or (b ∷ es) v 0) (get_or es v 0 - get_or (b ∷ es) v 0) arcs new) ≡ set (rows_from b es arcs) v new
rows_set b [] arcs v new below h same = absurd (omega arith)
rows_set b (e ∷ es) arcs zero new below h same =
    let begins : b ≤ length arcs = omega (arith, h.0, h.1) in
    rw (between-put_mid b (e - b) arcs new e begins same, rows_after e es (length arcs) arcs (put_mid b (e - b) arcs new) h.2 (drop-put_mid b (e - b) arcs new e (omega (arith, h.0)) begins same))
rows_set b (e ∷ es) arcs (suc v) new below h same =
    let p = get_or (e ∷ es) v 0 in
    let k = get_or es v 0 - p in
    let room : v < length es = omega arith in
    let later = begins_later e es (length arcs) v room h.2 in
    let within = row_within e es (length arcs) v room h.2 in
    let first : slice_range (put_mid p k arcs new) b e ≡ slice_range arcs b e = between_is (put_mid p k arcs new) b e ∙ ap (drop b) (take-put_mid_below p k arcs new e later (omega (arith, within.0, within.1))) ∙ sym (between_is arcs b e) in
    rw (first, rows_set e es arcs v new room h.2 same)

-- what is known of the bounds of a row
pub record AreBounds (es : List ℕ) (arcs : List Arc) (rows : List (List Arc)) (v begin end : ℕ) : Type 0 where
  pub few : v < length es
  pub rise : begin ≤ end
  pub within : end ≤ length arcs
  pub row : slice_range arcs begin end ≡ row_of rows v

pub in_ends : (es : List ℕ) (arcs : List Arc) (rows : List (List Arc)) (v : ℕ) → rows_from 0 es arcs ≡ rows → v < length rows → v < length es
in_ends es arcs rows v view few = omega (arith, ap length view, length-rows_from 0 es arcs)

pub bounds_are : (es : List ℕ) (arcs : List Arc) (rows : List (List Arc)) (v begin end : ℕ) → rows_from 0 es arcs ≡ rows → IsLaidOut 0 es (length arcs) → 1 ≤ v → v < length rows → begin ≡ get_or es (v - 1) 0 → end ≡ get_or es v 0 → AreBounds es arcs rows v begin end
bounds_are es arcs rows v begin end view laid some few begins ends =
    let room = in_ends es arcs rows v view few in
    let within = row_within 0 es (length arcs) v room laid in
    let first = begins ∙ sym (begin_is 0 es v some) in
    record {
      few = room;
      rise = omega (arith, within.0, first, ends);
      within = omega (arith, within.1, ends);
      row = rw (first, ends) (sym (row_at 0 es arcs v room) ∙ ap (λ (rs : List (List Arc)). row_of rs v) view);
    }

-- the row is written at those bounds
pub row_written : (es : List ℕ) (arcs : List Arc) (rows : List (List Arc)) (v begin end : ℕ) (new : List Arc) → rows_from 0 es arcs ≡ rows → IsLaidOut 0 es (length arcs) → 1 ≤ v → v < length rows → begin ≡ get_or es (v - 1) 0 → end ≡ get_or es v 0 → length new ≡ end - begin → rows_from 0 es (take begin arcs ++ (new ++ drop end arcs)) ≡ set rows v new
row_written es arcs rows v begin end new view laid some few begins ends same =
    let first = begins ∙ sym (begin_is 0 es v some) in
    let bounds = bounds_are es arcs rows v begin end view laid some few begins ends in
    let sum : begin + (end - begin) ≡ end = omega (arith, bounds.rise) in
    let after : drop (end - begin) (drop begin arcs) ≡ drop end arcs = drop-drop (end - begin) begin arcs ∙ ap (λ (k : ℕ). drop k arcs) sum in
    let long : length new ≡ get_or es v 0 - get_or (0 ∷ es) v 0 = same ∙ ap (λ (k : ℕ). k - begin) ends ∙ ap (λ (k : ℕ). get_or es v 0 - k) first in
    let written = rows_set 0 es arcs v new (in_ends es arcs rows v view few) laid long in
    let moved : rows_from 0 es (put_mid begin (end - begin) arcs new) ≡ set (rows_from 0 es arcs) v new =
    ap (λ (k : ℕ). rows_from 0 es (put_mid k (end - k) arcs new)) first ∙ ap (λ (k : ℕ). rows_from 0 es (put_mid (get_or (0 ∷ es) v 0) (k - get_or (0 ∷ es) v 0) arcs new)) ends ∙ written in
    ap (λ (rest : List Arc). rows_from 0 es (take begin arcs ++ (new ++ rest))) (sym after) ∙ moved ∙ ap (λ (rs : List (List Arc)). set rs v new) view

-- nothing but what remains of arcs changed
pub written_length : (arcs : List Arc) (begin end : ℕ) (new : List Arc) → begin ≤ end → end ≤ length arcs → length new ≡ end - begin → length (take begin arcs ++ (new ++ drop end arcs)) ≡ length arcs
written_length arcs begin end new rise within same = simp (length-append, length-take, length-drop) (omega (arith, rise, within, same))

pub written_tails : (arcs : List Arc) (begin end : ℕ) (f : Arc → Arc) → ((a : Arc) → (f a).tail ≡ a.tail) → begin ≤ end → map (λ (a : Arc). a.tail) (take begin arcs ++ (map f (slice_range arcs begin end) ++ drop end arcs)) ≡ map (λ (a : Arc). a.tail) arcs
written_tails arcs begin end f keeps rise =
    map-append tail_of (take begin arcs) (map f (slice_range arcs begin end) ++ drop end arcs) ∙ ap (λ (l : List ℕ). map tail_of (take begin arcs) ++ l) (map-append tail_of (map f (slice_range arcs begin end)) (drop end arcs) ∙ ap (λ (l : List ℕ). l ++ map tail_of (drop end arcs)) (tails_kept f keeps (slice_range arcs begin end)))
    ∙ ap (λ (l : List ℕ). map tail_of (take begin arcs) ++ l) (sym (map-append tail_of (slice_range arcs begin end) (drop end arcs))) ∙ sym (map-append tail_of (take begin arcs) (slice_range arcs begin end ++ drop end arcs)) ∙ ap (map tail_of) (sym (split_between arcs begin end rise))

-- an arc from a vertex without a mark is altered
pub altered_free : (marks : List Bool) (change : Change) (a : Arc) (left : ℕ) → IsFalse (get_or marks a.tail false) → left ≡ after change a.remaining → altered marks change a ≡ record { tail = a.tail; remaining = left }
altered_free marks change a left free is = rw (free, is) refl

-- and one from a vertex with a mark isn't
pub altered_marked : (marks : List Bool) (change : Change) (a : Arc) → IsTrue (get_or marks a.tail false) → altered marks change a ≡ a
altered_marked marks change a marked = rw marked refl

-- one arc more is altered
pub altered_more : (marks : List Bool) (change : Change) (before now : List Arc) (i : ℕ) (d new : Arc) → i < length before → length now ≡ length before → now ≡ map (altered marks change) (take i before) ++ drop i before → altered marks change (get_or now i d) ≡ new → set now i new ≡ map (altered marks change) (take (i + 1) before) ++ drop (i + 1) before
altered_more marks change before now i d new below same h e =
    let within : i < length now = omega arith in
    rw (← e) (map_over_more (altered marks change) before now i (get_or now i d) below h (get_or_default now i d (get_or now i d) within))
