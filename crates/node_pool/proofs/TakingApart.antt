-- Passes taken apart, the first one first.
use Rattle.std.proofs.Common.{◌≡◌, ℕ, zero, suc, ◌+◌, ◌<◌, ◌≤◌, List, [], ◌∷◌, ◌++◌, map, take, drop, get_or, length, sym, refl, ap, ◌∙◌, subst, append_assoc, arith}
use Rattle.std.specs.List.{sum_by}
use Rattle.std.proofs.lemmas.List.Sums.{sum_by-cons, sum_by-append}
use Rattle.std.specs.declared.alloc.Global.{Global}
use Rattle.std.proofs.lemmas.List.{length-map}
use Rattle.atomic_blocks.specs.Lent.{RowsId}
use Rattle.branching.specs.declared.node.Node.{Node}
use Rattle.node_pool.specs.Ends.{End, queue_of}
use Rattle.node_pool.specs.Pool.{Station, own_queue, queues_at, puts, takes, gave, took, all_gave, all_took}
use Rattle.node_pool.specs.Sides.{all_puts, all_takes}
use Rattle.node_pool.proofs.Lists.{map_snoc}

queues_long : (k : ℕ) (s : Station) → length (queues_at k s) ≡ suc (length s.others)
queues_long k s = with_one k (map queue_of s.others) ∙ ap suc (length-map s.others queue_of) where
  with_one : (k : ℕ) (qs : List (RowsId × Global)) → length (take k qs ++ own_queue s ∷ drop k qs) ≡ suc (length qs)
  with_one zero [] = refl
  with_one zero (q ∷ qs) = refl
  with_one (suc k) [] = refl
  with_one (suc k) (q ∷ qs) = ap suc (with_one k qs)

-- Of the passes that are left, each at its place, the first:
pub record First (Q : List (RowsId × Global)) (made : ℕ) (p : Station) (now : List Station) : Type 0 where
  pub known : queues_at made p ≡ Q
  pub within : made ≤ length p.others
  pub many : suc (length p.others) ≡ length Q
  pub later : (k : ℕ) (d : Station) → k < length now → queues_at (made + 1 + k) (get_or now k d) ≡ Q

pub first_is : (Q : List (RowsId × Global)) (owners : List End) (rest now : List Station) (p : Station) → rest ≡ p ∷ now → map queue_of owners ++ map own_queue rest ≡ Q
    → ((k : ℕ) (d : Station) → k < length rest → queues_at (length owners + k) (get_or rest k d) ≡ Q) → First Q (length owners) p now
first_is Q owners rest now p is sum placed =
    let made = length owners in
    let placed' : (k : ℕ) (d : Station) → k < length (p ∷ now) → queues_at (made + k) (get_or (p ∷ now) k d) ≡ Q = subst (λ l. (k : ℕ) (d : Station) → k < length l → queues_at (made + k) (get_or l k d) ≡ Q) is placed in
    let known : queues_at made p ≡ Q = subst (λ m. queues_at m p ≡ Q) (let e : made + 0 ≡ made = omega arith in e) (placed' 0 p (omega arith)) in
    let long = queues_long made p in let same : length (queues_at made p) ≡ length Q = ap (λ (l : List (RowsId × Global)). length l) known in
    let total : length (map queue_of owners ++ p.own.queue ∷ map own_queue now) ≡ length Q = ap (λ (l : List (RowsId × Global)). length l) (ap (λ (l : List Station). map queue_of owners ++ map own_queue l) (sym is) ∙ sum) in
    let more = longer (map queue_of owners) p.own.queue (map own_queue now) in let count = length-map owners queue_of in
    record {
      known = known;
      within = omega arith;
      many = omega arith;
      later = λ k d lt. subst (λ m. queues_at m (get_or now k d) ≡ Q) (let e : made + suc k ≡ made + 1 + k = omega arith in e) (placed' (suc k) d (omega arith));
    }
  where
    longer : (A : List (RowsId × Global)) (q : RowsId × Global) (B : List (RowsId × Global)) → length A < length (A ++ q ∷ B)
    longer [] q B = omega arith
    longer (x ∷ A) q B = let h = longer A q B in omega arith

pub queues_on : (Q : List (RowsId × Global)) (owners after : List End) (rest now : List Station) (p : Station) (o : End) → rest ≡ p ∷ now → after ≡ owners ++ o ∷ [] → o.queue ≡ p.own.queue
    → map queue_of owners ++ map own_queue rest ≡ Q → map queue_of after ++ map own_queue now ≡ Q
queues_on Q owners after rest now p o is grown same sum =
    ap (λ (l : List End). map queue_of l ++ map own_queue now) grown ∙ ap (λ l. l ++ map own_queue now) (map_snoc queue_of owners o) ∙ append_assoc (map queue_of owners) (o.queue ∷ []) (map own_queue now)
    ∙ (λ i. map queue_of owners ++ same i ∷ map own_queue now) ∙ ap (λ (l : List Station). map queue_of owners ++ map own_queue l) (sym is) ∙ sum

snoc : {A : Type 0} (f : A → ℕ) (xs : List A) (x : A) → sum_by f (xs ++ x ∷ []) ≡ sum_by f xs + f x
snoc f xs x = let a = sum_by-append f xs (x ∷ []) in let b = sum_by-cons f x [] in let z : sum_by f [] ≡ 0 = refl in omega arith

pub gave_on : (h : Node → ℕ) (all : ℕ) (owners owners' : List End) (sides sides' : List (List End)) (left left' more : List Node) (rest now : List Station) (p : Station) (o : End) (side : List End)
    → rest ≡ p ∷ now → owners' ≡ owners ++ o ∷ [] → sides' ≡ sides ++ side ∷ [] → left' ≡ left ++ more
    → sum_by h o.hand.put + puts h side + sum_by h more ≡ gave h p
    → puts h owners + all_puts h sides + sum_by h left + all_gave h rest ≡ all → puts h owners' + all_puts h sides' + sum_by h left' + all_gave h now ≡ all
gave_on h all owners owners' sides sides' left left' more rest now p o side is io si le here sum =
    let a : puts h owners' ≡ puts h (owners ++ o ∷ []) = ap (puts h) io in let b = snoc (λ (e : End). sum_by h e.hand.put) owners o in
    let c : all_puts h sides' ≡ all_puts h (sides ++ side ∷ []) = ap (all_puts h) si in let d = snoc (puts h) sides side in
    let e : sum_by h left' ≡ sum_by h (left ++ more) = ap (sum_by h) le in let f = sum_by-append h left more in
    let g : all_gave h rest ≡ all_gave h (p ∷ now) = ap (all_gave h) is in let i = sum_by-cons (gave h) p now in omega arith

pub took_on : (h : Node → ℕ) (all : ℕ) (owners owners' : List End) (sides sides' : List (List End)) (rest now : List Station) (p : Station) (o : End) (side : List End)
    → rest ≡ p ∷ now → owners' ≡ owners ++ o ∷ [] → sides' ≡ sides ++ side ∷ []
    → sum_by h o.hand.taken + takes h side ≡ took h p
    → takes h owners + all_takes h sides + all_took h rest ≡ all → takes h owners' + all_takes h sides' + all_took h now ≡ all
took_on h all owners owners' sides sides' rest now p o side is io si here sum =
    let a : takes h owners' ≡ takes h (owners ++ o ∷ []) = ap (takes h) io in let b = snoc (λ (e : End). sum_by h e.hand.taken) owners o in
    let c : all_takes h sides' ≡ all_takes h (sides ++ side ∷ []) = ap (all_takes h) si in let d = snoc (takes h) sides side in
    let g : all_took h rest ≡ all_took h (p ∷ now) = ap (all_took h) is in let i = sum_by-cons (took h) p now in omega arith

-- An end that is put at its place among the others.
pub put_at : (k : ℕ) (es : List End) (e : End) (q : RowsId × Global) → e.queue ≡ q → map queue_of (take k es ++ e ∷ drop k es) ≡ take k (map queue_of es) ++ q ∷ drop k (map queue_of es)
put_at zero [] e q is = λ i. is i ∷ []
put_at zero (x ∷ xs) e q is = λ i. is i ∷ x.queue ∷ map queue_of xs
put_at (suc k) [] e q is = λ i. is i ∷ []
put_at (suc k) (x ∷ xs) e q is = λ i. x.queue ∷ put_at k xs e q is i
