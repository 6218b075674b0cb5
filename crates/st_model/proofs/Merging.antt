-- One link for each pair: what one more link, first or last, makes of it.
use Rattle.std.proofs.Common.{◌≡◌, ℕ, ◌+◌, ◌<◌, min, max, Bool, true, false, not, cond, eqb, List, [], ◌∷◌, ◌++◌, length, get_or, take, map, Some, refl, ap, ◌∙◌, arith}
use Rattle.std.specs.Prelude.{◌==◌, filter, unwrap_or, if◌then◌else◌}
use Rattle.std.specs.List.{AllByRecursion}
use Rattle.std.proofs.lemmas.Bool.Decides.{nat_tests}
use Rattle.std.proofs.lemmas.List.{take_more}
use Rattle.st_model.specs.declared.link.Link.{Link}
use Rattle.st_model.specs.Network.{joins, link}
use Rattle.st_model.specs.Stated.{ends, pairs, least_cost, merged}
use Rattle.st_model.specs.Steps.{ordered, cheaper, put_link}

abbrev pub other_pair : Link → Link → Bool
other_pair x m = not (joins m x.a x.b)

-- one more link, first: its pair comes first, and no second time
abbrev pub first_link : Link → List Link → List Link
first_link x ms = ordered x (min x.cost (unwrap_or (link ms x.a x.b) x.cost)) ∷ filter (other_pair x) ms

-- links between the same two vertices join the same
joins_alike : (x m : Link) (u v : ℕ) → joins x u v ≡ true → joins m u v ≡ joins m x.a x.b
joins_alike x m u v h = grind (arith, nat_tests)

pub joins_ordered : (m x : Link) → joins m (min x.a x.b) (max x.a x.b) ≡ joins m x.a x.b
joins_ordered m x = grind (arith, nat_tests)

joins_self : (x : Link) → joins x (min x.a x.b) (max x.a x.b) ≡ true
joins_self x = grind (arith, nat_tests)

least_cost_ordered : (ls : List Link) (x : Link) → least_cost ls (min x.a x.b) (max x.a x.b) ≡ least_cost ls x.a x.b
least_cost_ordered [] x = refl
least_cost_ordered (l ∷ ls) x = rw (joins_ordered l x, least_cost_ordered ls x) refl

-- the least cost between the ends of x, however they are named
least_cost_alike : (ls : List Link) (x : Link) (u v : ℕ) → joins x u v ≡ true → least_cost ls u v ≡ least_cost ls x.a x.b
least_cost_alike [] x u v h = refl
least_cost_alike (l ∷ ls) x u v h = rw (joins_alike x l u v h, least_cost_alike ls x u v h) refl

-- links of other pairs don't matter
link_filter : (ms : List Link) (x : Link) (u v : ℕ) → joins x u v ≡ false → link (filter (other_pair x) ms) u v ≡ link ms u v
link_filter [] x u v h = refl
link_filter (m ∷ ms) x u v h = kept (joins m x.a x.b) refl (link_filter ms x u v h)
  where
    kept : (b : Bool) → joins m x.a x.b ≡ b → link (filter (other_pair x) ms) u v ≡ link ms u v → link (cond (not b) (m ∷ filter (other_pair x) ms) (filter (other_pair x) ms)) u v ≡ link (m ∷ ms) u v
    kept true is rest = let apart : joins m u v ≡ false = grind (arith, nat_tests) in rw (rest, apart) refl
    kept false is rest = rw rest refl

link_alike : (ms : List Link) (x : Link) (u v : ℕ) → joins x u v ≡ true → link ms u v ≡ link ms x.a x.b
link_alike [] x u v h = refl
link_alike (m ∷ ms) x u v h = rw (joins_alike x m u v h, link_alike ms x u v h) refl

-- a link that is put in makes its own pair cheaper
link_put_same : (ms : List Link) (l : Link) (u v : ℕ) → joins l u v ≡ true → link (put_link ms l) u v ≡ Some (min (unwrap_or (link ms u v) l.cost) l.cost)
link_put_same [] l u v h = grind (arith, nat_tests)
link_put_same (m ∷ ms) l u v h = put (joins m l.a l.b) refl (link_put_same ms l u v h)
  where
    put : (b : Bool) → joins m l.a l.b ≡ b → link (put_link ms l) u v ≡ Some (min (unwrap_or (link ms u v) l.cost) l.cost) → link (cond b (cheaper m l ∷ ms) (m ∷ put_link ms l)) u v ≡ Some (min (unwrap_or (link (m ∷ ms) u v) l.cost) l.cost)
    put true is rest = let same : joins m u v ≡ true = joins_alike l m u v h ∙ is in rw same refl
    put false is rest = let other : joins m u v ≡ false = joins_alike l m u v h ∙ is in rw (other, rest) refl

-- and no other
link_put_other : (ms : List Link) (l : Link) (u v : ℕ) → joins l u v ≡ false → link (put_link ms l) u v ≡ link ms u v
link_put_other [] l u v h = grind (arith, nat_tests)
link_put_other (m ∷ ms) l u v h = put (joins m l.a l.b) refl (link_put_other ms l u v h)
  where
    put : (b : Bool) → joins m l.a l.b ≡ b → link (put_link ms l) u v ≡ link ms u v → link (cond b (cheaper m l ∷ ms) (m ∷ put_link ms l)) u v ≡ link (m ∷ ms) u v
    put true is rest = let other : joins m u v ≡ false = grind (arith, nat_tests) in rw other refl
    put false is rest = rw rest refl

-- a link that joins the pair of x is left out again
filter_put_same : (ms : List Link) (x l : Link) → joins l x.a x.b ≡ true → filter (other_pair x) (put_link ms l) ≡ filter (other_pair x) ms
filter_put_same [] x l h = let same : joins (ordered l l.cost) x.a x.b ≡ true = grind (arith, nat_tests) in rw same refl
filter_put_same (m ∷ ms) x l h = put (joins m l.a l.b) refl (filter_put_same ms x l h)
  where
    put : (b : Bool) → joins m l.a l.b ≡ b → filter (other_pair x) (put_link ms l) ≡ filter (other_pair x) ms → filter (other_pair x) (cond b (cheaper m l ∷ ms) (m ∷ put_link ms l)) ≡ filter (other_pair x) (m ∷ ms)
    put true is rest = let same : joins m x.a x.b ≡ true = grind (arith, nat_tests) in rw same refl
    put false is rest = rw rest refl

filter_put_other : (ms : List Link) (x l : Link) → joins l x.a x.b ≡ false → filter (other_pair x) (put_link ms l) ≡ put_link (filter (other_pair x) ms) l
filter_put_other [] x l h = let other : joins (ordered l l.cost) x.a x.b ≡ false = grind (arith, nat_tests) in rw other refl
filter_put_other (m ∷ ms) x l h = put (joins m l.a l.b) (joins m x.a x.b) refl refl (filter_put_other ms x l h)
  where
    put : (b d : Bool) → joins m l.a l.b ≡ b → joins m x.a x.b ≡ d → filter (other_pair x) (put_link ms l) ≡ put_link (filter (other_pair x) ms) l
        → filter (other_pair x) (cond b (cheaper m l ∷ ms) (m ∷ put_link ms l)) ≡ put_link (cond (not d) (m ∷ filter (other_pair x) ms) (filter (other_pair x) ms)) l
    put true true is at rest = let both : ⊥ = grind (arith, nat_tests) in absurd both
    put true false is at rest = rw (is, at) refl
    put false true is at rest = rw (at, rest) refl
    put false false is at rest = rw (is, at, rest) refl

-- first and last don't get in each other's way
first_put : (x : Link) (ms : List Link) (l : Link) → first_link x (put_link ms l) ≡ put_link (first_link x ms) l
first_put x ms l = by_case (joins l x.a x.b) refl
  where
    front : ℕ → Link
    front c = ordered x (min x.cost c)

    by_case : (b : Bool) → joins l x.a x.b ≡ b → first_link x (put_link ms l) ≡ put_link (first_link x ms) l
    by_case true h =
        let same : joins (front (unwrap_or (link ms x.a x.b) x.cost)) l.a l.b ≡ true = grind (arith, nat_tests) in
        let costs : min x.cost (min (unwrap_or (link ms x.a x.b) l.cost) l.cost) ≡ min (min x.cost (unwrap_or (link ms x.a x.b) x.cost)) l.cost = grind (arith, nat_tests) in
        rw (same, filter_put_same ms x l h, link_put_same ms l x.a x.b h) (ap (λ c. ordered x c ∷ filter (other_pair x) ms) costs)
    by_case false h =
        let other : joins (front (unwrap_or (link ms x.a x.b) x.cost)) l.a l.b ≡ false = grind (arith, nat_tests) in
        rw (other, filter_put_other ms x l h, link_put_other ms l x.a x.b h) refl

-- the one link between each pair, when the links say these costs
abbrev pub entry : List Link → ℕ × ℕ → Link
entry ls p = record { a = p.0; b = p.1; cost = unwrap_or (least_cost ls p.0 p.1) 0 }

-- other pairs cost what they did
entries_filter : (x : Link) (ls : List Link) (ps : List (ℕ × ℕ)) → map (entry (x ∷ ls)) (filter (λ p. not (joins x p.0 p.1)) ps) ≡ filter (other_pair x) (map (entry ls) ps)
entries_filter x ls [] = refl
entries_filter x ls (p ∷ ps) = kept (joins x p.0 p.1) refl (entries_filter x ls ps)
  where
    kept : (b : Bool) → joins x p.0 p.1 ≡ b → map (entry (x ∷ ls)) (filter (λ p. not (joins x p.0 p.1)) ps) ≡ filter (other_pair x) (map (entry ls) ps)
        → map (entry (x ∷ ls)) (cond (not b) (p ∷ filter (λ p. not (joins x p.0 p.1)) ps) (filter (λ p. not (joins x p.0 p.1)) ps)) ≡ filter (other_pair x) (entry ls p ∷ map (entry ls) ps)
    kept true is rest = let same : joins (entry ls p) x.a x.b ≡ true = grind (arith, nat_tests) in rw (same, rest) refl
    kept false is rest = let other : joins (entry ls p) x.a x.b ≡ false = grind (arith, nat_tests) in rw (other, is, rest) refl

-- the links that are merged, with one more before them
merged_first : (x : Link) (ls : List Link) → link (merged ls) x.a x.b ≡ least_cost ls x.a x.b → eqb x.a x.b ≡ false → merged (x ∷ ls) ≡ first_link x (merged ls)
merged_first x ls known different =
    rw (different, joins_self x, entries_filter x ls (pairs ls), least_cost_ordered ls x, ← known) refl

-- the lower end of a pair comes first
abbrev pub AreOrdered : List (ℕ × ℕ) → Type 0
AreOrdered ps = AllByRecursion (λ p. p.0 < p.1) ps

ordered_filter : (p : ℕ × ℕ → Bool) (ps : List (ℕ × ℕ)) → AreOrdered ps → AreOrdered (filter p ps)
ordered_filter p [] h = tt
ordered_filter p (x ∷ ps) h = kept (p x) (ordered_filter p ps h.1)
  where
    kept : (b : Bool) → AreOrdered (filter p ps) → AreOrdered (cond b (x ∷ filter p ps) (filter p ps))
    kept true rest = (h.0, rest)
    kept false rest = rest

pub pairs_ordered : (ls : List Link) → AreOrdered (pairs ls)
pairs_ordered [] = tt
pairs_ordered (l ∷ ls) = by_case (eqb l.a l.b) refl (pairs_ordered ls)
  where
    by_case : (b : Bool) → eqb l.a l.b ≡ b → AreOrdered (pairs ls) → AreOrdered (cond b (pairs ls) (ends l ∷ filter (λ p. not (joins l p.0 p.1)) (pairs ls)))
    by_case true is rest = rest
    by_case false is rest = (grind (arith, nat_tests), ordered_filter _ _ rest)

-- a link with equal ends joins no pair
entries_loop : (x : Link) (ls : List Link) (ps : List (ℕ × ℕ)) → eqb x.a x.b ≡ true → AreOrdered ps → map (entry (x ∷ ls)) ps ≡ map (entry ls) ps
entries_loop x ls [] loop h = refl
entries_loop x ls (p ∷ ps) loop h =
    let low : p.0 < p.1 = h.0 in
    let other : joins x p.0 p.1 ≡ false = grind (arith, nat_tests) in
    rw (other, entries_loop x ls ps loop h.1) refl

pub merged_loop : (x : Link) (ls : List Link) → eqb x.a x.b ≡ true → merged (x ∷ ls) ≡ merged ls
merged_loop x ls loop = rw loop (entries_loop x ls (pairs ls) loop (pairs_ordered ls))

-- each pair has its least cost
pub link-merged : (ls : List Link) (u v : ℕ) → eqb u v ≡ false → link (merged ls) u v ≡ least_cost ls u v
link-merged [] u v different = refl
link-merged (x ∷ ls) u v different = by_case (eqb x.a x.b) (joins x u v) refl refl (link-merged ls u v different) (link-merged ls x.a x.b)
  where
    front : ℕ
    front = min x.cost (unwrap_or (link (merged ls) x.a x.b) x.cost)

    by_case : (loop same : Bool) → eqb x.a x.b ≡ loop → joins x u v ≡ same → link (merged ls) u v ≡ least_cost ls u v → (eqb x.a x.b ≡ false → link (merged ls) x.a x.b ≡ least_cost ls x.a x.b)
        → link (merged (x ∷ ls)) u v ≡ cond same (Some (min x.cost (unwrap_or (least_cost ls u v) x.cost))) (least_cost ls u v)
    by_case true true loop same rest known = let never : ⊥ = grind (arith, nat_tests) in absurd never
    by_case true false loop same rest known = rw (merged_loop x ls loop) rest
    by_case false true loop same rest known =
        let here : joins (ordered x front) u v ≡ true = grind (arith, nat_tests) in
        rw (merged_first x ls (known loop) loop, here, known loop, least_cost_alike ls x u v same) refl
    by_case false false loop same rest known =
        let other : joins (ordered x front) u v ≡ false = grind (arith, nat_tests) in
        rw (merged_first x ls (known loop) loop, other, link_filter (merged ls) x u v same) rest

pub merged_next : (x : Link) (ls : List Link) → eqb x.a x.b ≡ false → merged (x ∷ ls) ≡ first_link x (merged ls)
merged_next x ls different = merged_first x ls (link-merged ls x.a x.b different) different

-- first and last, also where the last has equal ends
first_put_unless : (b : Bool) (x : Link) (ms : List Link) (l : Link) → first_link x (cond b ms (put_link ms l)) ≡ cond b (first_link x ms) (put_link (first_link x ms) l)
first_put_unless true x ms l = refl
first_put_unless false x ms l = first_put x ms l

-- one more link, last
pub merged-push : (ls : List Link) (l : Link) → merged (ls ++ l ∷ []) ≡ (if l.a == l.b then merged ls else put_link (merged ls) l)
merged-push [] l = by_case (eqb l.a l.b) refl
  where
    by_case : (b : Bool) → eqb l.a l.b ≡ b → merged (l ∷ []) ≡ cond b [] (ordered l l.cost ∷ [])
    by_case true loop = merged_loop l [] loop
    by_case false different = merged_next l [] different ∙ ap (λ c. ordered l c ∷ []) (grind arith)
merged-push (x ∷ ls) l = by_case (eqb x.a x.b) refl (merged-push ls l)
  where
    by_case : (loop : Bool) → eqb x.a x.b ≡ loop → merged (ls ++ l ∷ []) ≡ cond (eqb l.a l.b) (merged ls) (put_link (merged ls) l) → merged (x ∷ (ls ++ l ∷ [])) ≡ cond (eqb l.a l.b) (merged (x ∷ ls)) (put_link (merged (x ∷ ls)) l)
    by_case true loop rest = rw (merged_loop x (ls ++ l ∷ []) loop, merged_loop x ls loop) rest
    by_case false different rest = rw (merged_next x (ls ++ l ∷ []) different, merged_next x ls different, rest) (first_put_unless (eqb l.a l.b) x (merged ls) l)

-- the step of a loop over the links
pub merged_more : (ls : List Link) (i : ℕ) (d : Link) → i < length ls → ((get_or ls i d).a ≡ (get_or ls i d).b → ⊥) → merged (take (i + 1) ls) ≡ put_link (merged (take i ls)) (get_or ls i d)
merged_more ls i d within different =
    let apart : eqb (get_or ls i d).a (get_or ls i d).b ≡ false = grind (arith, nat_tests) in
    rw (take_more ls i d within) (merged-push (take i ls) (get_or ls i d) ∙ rw apart refl)

pub merged_more_loop : (ls : List Link) (i : ℕ) (d : Link) → i < length ls → (get_or ls i d).a ≡ (get_or ls i d).b → merged (take (i + 1) ls) ≡ merged (take i ls)
merged_more_loop ls i d within same =
    let equal : eqb (get_or ls i d).a (get_or ls i d).b ≡ true = grind (arith, nat_tests) in
    rw (take_more ls i d within) (merged-push (take i ls) (get_or ls i d) ∙ rw equal refl)
