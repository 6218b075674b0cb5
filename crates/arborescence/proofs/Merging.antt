-- One arc for each ordered pair: what one more arc, first or last, makes of it.
use Rattle.std.proofs.Common.{◌≡◌, ℕ, ◌+◌, ◌<◌, min, Bool, true, false, not, cond, eqb, List, [], ◌∷◌, ◌++◌, length, get_or, take, map, Some, refl, ap, ◌∙◌, arith}
use Rattle.std.specs.Prelude.{◌==◌, filter, unwrap_or, if◌then◌else◌}
use Rattle.std.specs.List.{AllByRecursion}
use Rattle.std.proofs.lemmas.Bool.Decides.{nat_tests}
use Rattle.std.proofs.lemmas.List.{take_more}
use Rattle.st_model.specs.declared.link.Link.{Link}
use Rattle.arborescence.specs.DiNetwork.{leads, arc_from}
use Rattle.arborescence.specs.Stated.{tail_head, arc_pairs, least_arc, merged_arcs}
use Rattle.arborescence.specs.Steps.{at_cost, cheaper_arc, put_arc}

abbrev pub other_pair : Link → Link → Bool
other_pair x m = not (leads m x.a x.b)

-- one more arc, first: its pair comes first, and no second time
abbrev pub first_arc : Link → List Link → List Link
first_arc x ms = at_cost x (min x.cost (unwrap_or (arc_from ms x.a x.b) x.cost)) ∷ filter (other_pair x) ms

-- arcs of one pair lead alike
leads_alike : (x m : Link) (u v : ℕ) → leads x u v ≡ true → leads m u v ≡ leads m x.a x.b
leads_alike x m u v h = grind (arith, nat_tests)

pub leads_ordered : (m x : Link) → leads m x.a x.b ≡ leads m x.a x.b
leads_ordered m x = grind (arith, nat_tests)

leads_self : (x : Link) → leads x x.a x.b ≡ true
leads_self x = grind (arith, nat_tests)

least_arc_ordered : (ls : List Link) (x : Link) → least_arc ls x.a x.b ≡ least_arc ls x.a x.b
least_arc_ordered [] x = refl
least_arc_ordered (l ∷ ls) x = rw (leads_ordered l x, least_arc_ordered ls x) refl

-- the least cost of the pair of x
least_arc_alike : (ls : List Link) (x : Link) (u v : ℕ) → leads x u v ≡ true → least_arc ls u v ≡ least_arc ls x.a x.b
least_arc_alike [] x u v h = refl
least_arc_alike (l ∷ ls) x u v h = rw (leads_alike x l u v h, least_arc_alike ls x u v h) refl

-- arcs of other pairs don't matter
arc_filter : (ms : List Link) (x : Link) (u v : ℕ) → leads x u v ≡ false → arc_from (filter (other_pair x) ms) u v ≡ arc_from ms u v
arc_filter [] x u v h = refl
arc_filter (m ∷ ms) x u v h = kept (leads m x.a x.b) refl (arc_filter ms x u v h)
  where
    kept : (b : Bool) → leads m x.a x.b ≡ b → arc_from (filter (other_pair x) ms) u v ≡ arc_from ms u v → arc_from (cond (not b) (m ∷ filter (other_pair x) ms) (filter (other_pair x) ms)) u v ≡ arc_from (m ∷ ms) u v
    kept true is rest = let apart : leads m u v ≡ false = grind (arith, nat_tests) in rw (rest, apart) refl
    kept false is rest = rw rest refl

arc_alike : (ms : List Link) (x : Link) (u v : ℕ) → leads x u v ≡ true → arc_from ms u v ≡ arc_from ms x.a x.b
arc_alike [] x u v h = refl
arc_alike (m ∷ ms) x u v h = rw (leads_alike x m u v h, arc_alike ms x u v h) refl

-- an arc that is put in makes its own pair cheaper
arc_put_same : (ms : List Link) (l : Link) (u v : ℕ) → leads l u v ≡ true → arc_from (put_arc ms l) u v ≡ Some (min (unwrap_or (arc_from ms u v) l.cost) l.cost)
arc_put_same [] l u v h = grind (arith, nat_tests)
arc_put_same (m ∷ ms) l u v h = put (leads m l.a l.b) refl (arc_put_same ms l u v h)
  where
    put : (b : Bool) → leads m l.a l.b ≡ b → arc_from (put_arc ms l) u v ≡ Some (min (unwrap_or (arc_from ms u v) l.cost) l.cost) → arc_from (cond b (cheaper_arc m l ∷ ms) (m ∷ put_arc ms l)) u v ≡ Some (min (unwrap_or (arc_from (m ∷ ms) u v) l.cost) l.cost)
    put true is rest = let same : leads m u v ≡ true = leads_alike l m u v h ∙ is in rw same refl
    put false is rest = let other : leads m u v ≡ false = leads_alike l m u v h ∙ is in rw (other, rest) refl

-- and no other
arc_put_other : (ms : List Link) (l : Link) (u v : ℕ) → leads l u v ≡ false → arc_from (put_arc ms l) u v ≡ arc_from ms u v
arc_put_other [] l u v h = grind (arith, nat_tests)
arc_put_other (m ∷ ms) l u v h = put (leads m l.a l.b) refl (arc_put_other ms l u v h)
  where
    put : (b : Bool) → leads m l.a l.b ≡ b → arc_from (put_arc ms l) u v ≡ arc_from ms u v → arc_from (cond b (cheaper_arc m l ∷ ms) (m ∷ put_arc ms l)) u v ≡ arc_from (m ∷ ms) u v
    put true is rest = let other : leads m u v ≡ false = grind (arith, nat_tests) in rw other refl
    put false is rest = rw rest refl

-- one of the pair of x is left out again
filter_put_same : (ms : List Link) (x l : Link) → leads l x.a x.b ≡ true → filter (other_pair x) (put_arc ms l) ≡ filter (other_pair x) ms
filter_put_same [] x l h = let same : leads (at_cost l l.cost) x.a x.b ≡ true = grind (arith, nat_tests) in rw same refl
filter_put_same (m ∷ ms) x l h = put (leads m l.a l.b) refl (filter_put_same ms x l h)
  where
    put : (b : Bool) → leads m l.a l.b ≡ b → filter (other_pair x) (put_arc ms l) ≡ filter (other_pair x) ms → filter (other_pair x) (cond b (cheaper_arc m l ∷ ms) (m ∷ put_arc ms l)) ≡ filter (other_pair x) (m ∷ ms)
    put true is rest = let same : leads m x.a x.b ≡ true = grind (arith, nat_tests) in rw same refl
    put false is rest = rw rest refl

filter_put_other : (ms : List Link) (x l : Link) → leads l x.a x.b ≡ false → filter (other_pair x) (put_arc ms l) ≡ put_arc (filter (other_pair x) ms) l
filter_put_other [] x l h = let other : leads (at_cost l l.cost) x.a x.b ≡ false = grind (arith, nat_tests) in rw other refl
filter_put_other (m ∷ ms) x l h = put (leads m l.a l.b) (leads m x.a x.b) refl refl (filter_put_other ms x l h)
  where
    put : (b d : Bool) → leads m l.a l.b ≡ b → leads m x.a x.b ≡ d → filter (other_pair x) (put_arc ms l) ≡ put_arc (filter (other_pair x) ms) l
        → filter (other_pair x) (cond b (cheaper_arc m l ∷ ms) (m ∷ put_arc ms l)) ≡ put_arc (cond (not d) (m ∷ filter (other_pair x) ms) (filter (other_pair x) ms)) l
    put true true is at rest = let both : ⊥ = grind (arith, nat_tests) in absurd both
    put true false is at rest = rw (is, at) refl
    put false true is at rest = rw (at, rest) refl
    put false false is at rest = rw (is, at, rest) refl

-- first and last don't get in each other's way
first_put : (x : Link) (ms : List Link) (l : Link) → first_arc x (put_arc ms l) ≡ put_arc (first_arc x ms) l
first_put x ms l = by_case (leads l x.a x.b) refl
  where
    front : ℕ → Link
    front c = at_cost x (min x.cost c)

    by_case : (b : Bool) → leads l x.a x.b ≡ b → first_arc x (put_arc ms l) ≡ put_arc (first_arc x ms) l
    by_case true h =
        let same : leads (front (unwrap_or (arc_from ms x.a x.b) x.cost)) l.a l.b ≡ true = grind (arith, nat_tests) in
        let costs : min x.cost (min (unwrap_or (arc_from ms x.a x.b) l.cost) l.cost) ≡ min (min x.cost (unwrap_or (arc_from ms x.a x.b) x.cost)) l.cost = grind (arith, nat_tests) in
        rw (same, filter_put_same ms x l h, arc_put_same ms l x.a x.b h) (ap (λ c. at_cost x c ∷ filter (other_pair x) ms) costs)
    by_case false h =
        let other : leads (front (unwrap_or (arc_from ms x.a x.b) x.cost)) l.a l.b ≡ false = grind (arith, nat_tests) in
        rw (other, filter_put_other ms x l h, arc_put_other ms l x.a x.b h) refl

-- the one arc of each pair, when the arcs say these costs
abbrev pub entry : List Link → ℕ × ℕ → Link
entry ls p = record { a = p.0; b = p.1; cost = unwrap_or (least_arc ls p.0 p.1) 0 }

-- other pairs cost what they did
entries_filter : (x : Link) (ls : List Link) (ps : List (ℕ × ℕ)) → map (entry (x ∷ ls)) (filter (λ p. not (leads x p.0 p.1)) ps) ≡ filter (other_pair x) (map (entry ls) ps)
entries_filter x ls [] = refl
entries_filter x ls (p ∷ ps) = kept (leads x p.0 p.1) refl (entries_filter x ls ps)
  where
    kept : (b : Bool) → leads x p.0 p.1 ≡ b → map (entry (x ∷ ls)) (filter (λ p. not (leads x p.0 p.1)) ps) ≡ filter (other_pair x) (map (entry ls) ps)
        → map (entry (x ∷ ls)) (cond (not b) (p ∷ filter (λ p. not (leads x p.0 p.1)) ps) (filter (λ p. not (leads x p.0 p.1)) ps)) ≡ filter (other_pair x) (entry ls p ∷ map (entry ls) ps)
    kept true is rest = let same : leads (entry ls p) x.a x.b ≡ true = grind (arith, nat_tests) in rw (same, rest) refl
    kept false is rest = let other : leads (entry ls p) x.a x.b ≡ false = grind (arith, nat_tests) in rw (other, is, rest) refl

-- the arcs that are merged, with one more before them
merged_first : (x : Link) (ls : List Link) → arc_from (merged_arcs ls) x.a x.b ≡ least_arc ls x.a x.b → eqb x.a x.b ≡ false → merged_arcs (x ∷ ls) ≡ first_arc x (merged_arcs ls)
merged_first x ls known different =
    rw (different, leads_self x, entries_filter x ls (arc_pairs ls), least_arc_ordered ls x, ← known) refl

-- the ends of each pair are different
abbrev pub AreLoopless : List (ℕ × ℕ) → Type 0
AreLoopless ps = AllByRecursion (λ p. eqb p.0 p.1 ≡ false) ps

loopless_filter : (p : ℕ × ℕ → Bool) (ps : List (ℕ × ℕ)) → AreLoopless ps → AreLoopless (filter p ps)
loopless_filter p [] h = tt
loopless_filter p (x ∷ ps) h = kept (p x) (loopless_filter p ps h.1)
  where
    kept : (b : Bool) → AreLoopless (filter p ps) → AreLoopless (cond b (x ∷ filter p ps) (filter p ps))
    kept true rest = (h.0, rest)
    kept false rest = rest

pairs_loopless : (ls : List Link) → AreLoopless (arc_pairs ls)
pairs_loopless [] = tt
pairs_loopless (l ∷ ls) = by_case (eqb l.a l.b) refl (pairs_loopless ls)
  where
    by_case : (b : Bool) → eqb l.a l.b ≡ b → AreLoopless (arc_pairs ls) → AreLoopless (cond b (arc_pairs ls) (tail_head l ∷ filter (λ p. not (leads l p.0 p.1)) (arc_pairs ls)))
    by_case true is rest = rest
    by_case false is rest = (is, loopless_filter _ _ rest)

-- one with equal ends is of no pair
entries_loop : (x : Link) (ls : List Link) (ps : List (ℕ × ℕ)) → eqb x.a x.b ≡ true → AreLoopless ps → map (entry (x ∷ ls)) ps ≡ map (entry ls) ps
entries_loop x ls [] loop h = refl
entries_loop x ls (p ∷ ps) loop h =
    let different : eqb p.0 p.1 ≡ false = h.0 in
    let other : leads x p.0 p.1 ≡ false = grind (arith, nat_tests) in
    rw (other, entries_loop x ls ps loop h.1) refl

pub merged_loop : (x : Link) (ls : List Link) → eqb x.a x.b ≡ true → merged_arcs (x ∷ ls) ≡ merged_arcs ls
merged_loop x ls loop = rw loop (entries_loop x ls (arc_pairs ls) loop (pairs_loopless ls))

-- each pair has its least cost
pub arc-merged : (ls : List Link) (u v : ℕ) → eqb u v ≡ false → arc_from (merged_arcs ls) u v ≡ least_arc ls u v
arc-merged [] u v different = refl
arc-merged (x ∷ ls) u v different = by_case (eqb x.a x.b) (leads x u v) refl refl (arc-merged ls u v different) (arc-merged ls x.a x.b)
  where
    front : ℕ
    front = min x.cost (unwrap_or (arc_from (merged_arcs ls) x.a x.b) x.cost)

    by_case : (loop same : Bool) → eqb x.a x.b ≡ loop → leads x u v ≡ same → arc_from (merged_arcs ls) u v ≡ least_arc ls u v → (eqb x.a x.b ≡ false → arc_from (merged_arcs ls) x.a x.b ≡ least_arc ls x.a x.b)
        → arc_from (merged_arcs (x ∷ ls)) u v ≡ cond same (Some (min x.cost (unwrap_or (least_arc ls u v) x.cost))) (least_arc ls u v)
    by_case true true loop same rest known = let never : ⊥ = grind (arith, nat_tests) in absurd never
    by_case true false loop same rest known = rw (merged_loop x ls loop) rest
    by_case false true loop same rest known =
        let here : leads (at_cost x front) u v ≡ true = grind (arith, nat_tests) in
        rw (merged_first x ls (known loop) loop, here, known loop, least_arc_alike ls x u v same) refl
    by_case false false loop same rest known =
        let other : leads (at_cost x front) u v ≡ false = grind (arith, nat_tests) in
        rw (merged_first x ls (known loop) loop, other, arc_filter (merged_arcs ls) x u v same) rest

pub merged_next : (x : Link) (ls : List Link) → eqb x.a x.b ≡ false → merged_arcs (x ∷ ls) ≡ first_arc x (merged_arcs ls)
merged_next x ls different = merged_first x ls (arc-merged ls x.a x.b different) different

-- first and last, also where the last has equal ends
first_put_unless : (b : Bool) (x : Link) (ms : List Link) (l : Link) → first_arc x (cond b ms (put_arc ms l)) ≡ cond b (first_arc x ms) (put_arc (first_arc x ms) l)
first_put_unless true x ms l = refl
first_put_unless false x ms l = first_put x ms l

-- one more arc, last
pub merged-push : (ls : List Link) (l : Link) → merged_arcs (ls ++ l ∷ []) ≡ (if l.a == l.b then merged_arcs ls else put_arc (merged_arcs ls) l)
merged-push [] l = by_case (eqb l.a l.b) refl
  where
    by_case : (b : Bool) → eqb l.a l.b ≡ b → merged_arcs (l ∷ []) ≡ cond b [] (at_cost l l.cost ∷ [])
    by_case true loop = merged_loop l [] loop
    by_case false different = merged_next l [] different ∙ ap (λ c. at_cost l c ∷ []) (grind arith)
merged-push (x ∷ ls) l = by_case (eqb x.a x.b) refl (merged-push ls l)
  where
    by_case : (loop : Bool) → eqb x.a x.b ≡ loop → merged_arcs (ls ++ l ∷ []) ≡ cond (eqb l.a l.b) (merged_arcs ls) (put_arc (merged_arcs ls) l) → merged_arcs (x ∷ (ls ++ l ∷ [])) ≡ cond (eqb l.a l.b) (merged_arcs (x ∷ ls)) (put_arc (merged_arcs (x ∷ ls)) l)
    by_case true loop rest = rw (merged_loop x (ls ++ l ∷ []) loop, merged_loop x ls loop) rest
    by_case false different rest = rw (merged_next x (ls ++ l ∷ []) different, merged_next x ls different, rest) (first_put_unless (eqb l.a l.b) x (merged_arcs ls) l)

-- the step of a loop over the arcs
pub merged_more : (ls : List Link) (i : ℕ) (d : Link) → i < length ls → ((get_or ls i d).a ≡ (get_or ls i d).b → ⊥) → merged_arcs (take (i + 1) ls) ≡ put_arc (merged_arcs (take i ls)) (get_or ls i d)
merged_more ls i d within different =
    let apart : eqb (get_or ls i d).a (get_or ls i d).b ≡ false = grind (arith, nat_tests) in
    rw (take_more ls i d within) (merged-push (take i ls) (get_or ls i d) ∙ rw apart refl)

pub merged_more_loop : (ls : List Link) (i : ℕ) (d : Link) → i < length ls → (get_or ls i d).a ≡ (get_or ls i d).b → merged_arcs (take (i + 1) ls) ≡ merged_arcs (take i ls)
merged_more_loop ls i d within same =
    let equal : eqb (get_or ls i d).a (get_or ls i d).b ≡ true = grind (arith, nat_tests) in
    rw (take_more ls i d within) (merged-push (take i ls) (get_or ls i d) ∙ rw equal refl)
