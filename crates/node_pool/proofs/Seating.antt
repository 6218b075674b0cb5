-- A side without the end of its owner.
use Rattle.std.proofs.Common.{◌≡◌, ℕ, zero, suc, ◌+◌, ◌-◌, ◌<◌, List, [], ◌∷◌, ◌++◌, map, take, drop, get_or, length, sym, refl, ap, ◌∙◌, subst, arith}
use Rattle.std.specs.Prelude.{All}
use Rattle.std.specs.declared.alloc.Global.{Global}
use Rattle.std.proofs.lemmas.List.{length-map}
use Rattle.atomic_blocks.specs.Lent.{RowsId}
use Rattle.node_pool.specs.declared.rule.Hand.{Hand}
use Rattle.node_pool.specs.Lane.{hand}
use Rattle.node_pool.specs.Ends.{End, queue_of}
use Rattle.node_pool.specs.Pool.{Station, own_queue, queues_at}
use Rattle.node_pool.specs.Sides.{IsNewPass, AreSides}
use Rattle.node_pool.proofs.Lists.{all_cons, all_head, all_tail}

pub all_but : (F : End → Type 0) (k : ℕ) (es : List End) → All F es → All F (take k es ++ drop (suc k) es)
all_but F zero [] all = all
all_but F zero (e ∷ es) all = all_tail F e es all
all_but F (suc k) [] all = all
all_but F (suc k) (e ∷ es) all = all_cons F e (take k es ++ drop (suc k) es) (all_head F e es all) (all_but F k es (all_tail F e es all))

-- the queues of a side, from which one end is taken out and put back
pub put_back : (k : ℕ) (es : List End) (q : RowsId × Global) (d : End) → k < length es → q ≡ (get_or es k d).queue
    → take k (map queue_of (take k es ++ drop (suc k) es)) ++ q ∷ drop k (map queue_of (take k es ++ drop (suc k) es)) ≡ map queue_of es
put_back k [] q d lt at = absurd (omega arith)
put_back zero (e ∷ es) q d lt at = λ i. at i ∷ map queue_of es
put_back (suc k) (e ∷ es) q d lt at = λ i. e.queue ∷ put_back k es q d (omega arith) at i

-- what stands at a place of a side
pub at_place : (A : List (RowsId × Global)) (q : RowsId × Global) (B : List (RowsId × Global)) (es : List End) (d : End) → map queue_of es ≡ A ++ q ∷ B → (get_or es (length A) d).queue ≡ q
at_place A q B es d is = sym (mapped es (length A) d (short es A q B is)) ∙ ap (λ l. get_or l (length A) d.queue) is ∙ middle A q B d.queue where
  mapped : (es : List End) (k : ℕ) (d : End) → k < length es → get_or (map queue_of es) k d.queue ≡ (get_or es k d).queue
  mapped [] k d lt = absurd (omega arith)
  mapped (e ∷ es) zero d lt = refl
  mapped (e ∷ es) (suc k) d lt = mapped es k d (omega arith)

  middle : (A : List (RowsId × Global)) (q : RowsId × Global) (B : List (RowsId × Global)) (d : RowsId × Global) → get_or (A ++ q ∷ B) (length A) d ≡ q
  middle [] q B d = refl
  middle (x ∷ A) q B d = middle A q B d

  longer : (A : List (RowsId × Global)) (q : RowsId × Global) (B : List (RowsId × Global)) → length A < length (A ++ q ∷ B)
  longer [] q B = omega arith
  longer (x ∷ A) q B = let h = longer A q B in omega arith

  short : (es : List End) (A : List (RowsId × Global)) (q : RowsId × Global) (B : List (RowsId × Global)) → map queue_of es ≡ A ++ q ∷ B → length A < length es
  short es A q B is = let a = longer A q B in let b : length (map queue_of es) ≡ length (A ++ q ∷ B) = ap (λ (l : List (RowsId × Global)). length l) is in let c = length-map es queue_of in omega arith

-- an end on which nothing was done
abbrev pub IsUnused : End → Type 0
IsUnused t = t.hand ≡ hand 1 [] []

-- The next queue and its side, where these passes were made of those before them.
pub record Next (Q : List (RowsId × Global)) (n : ℕ) (o : End) (side : List End) (ps : List Station) : Type 0 where
  pub within : length ps < length side
  pub long : length side ≡ n
  pub here : (d : End) → (get_or side (length ps) d).queue ≡ o.queue
  pub own_fresh : o.hand ≡ hand (65 - length side) [] []
  pub ends_unused : All IsUnused side
  pub same_queues : map queue_of side ≡ Q

pub next_is : (Q : List (RowsId × Global)) (n : ℕ) (os now : List End) (o : End) (ss later : List (List End)) (side : List End) (ps : List Station) → length Q ≡ n → os ≡ o ∷ now → ss ≡ side ∷ later
    → map own_queue ps ++ map queue_of os ≡ Q → AreSides Q ss → All (λ (w : End). w.hand ≡ hand (65 - n) [] []) os → All (All IsUnused) ss → Next Q n o side ps
next_is Q n os now o ss later side ps count is it sum sides fresh unused =
    let sides' = subst (AreSides Q) it sides in
    let same : map queue_of side ≡ Q = all_head (λ s. map queue_of s ≡ Q) side later sides' in
    let sum' : map own_queue ps ++ o.queue ∷ map queue_of now ≡ Q = ap (λ (l : List End). map own_queue ps ++ map queue_of l) (sym is) ∙ sum in
    let long : length side ≡ n = sym (length-map side queue_of) ∙ ap (λ (l : List (RowsId × Global)). length l) same ∙ count in
    let fresh' = subst (All (λ (w : End). w.hand ≡ hand (65 - n) [] [])) is fresh in
    let at : (d : End) → (get_or side (length (map own_queue ps)) d).queue ≡ o.queue = λ d. at_place (map own_queue ps) o.queue (map queue_of now) side d (same ∙ sym sum') in
    let total : length (map own_queue ps ++ o.queue ∷ map queue_of now) ≡ n = ap (λ (l : List (RowsId × Global)). length l) sum' ∙ count in
    record {
      within = (let a = length_join (map own_queue ps) o.queue (map queue_of now) in let b = length-map ps own_queue in omega arith);
      long = long;
      here = λ d. subst (λ k. (get_or side k d).queue ≡ o.queue) (length-map ps own_queue) (at d);
      own_fresh = all_head (λ (w : End). w.hand ≡ hand (65 - n) [] []) o now fresh' ∙ ap (λ k. hand (65 - k) [] []) (sym long);
      ends_unused = all_head (All IsUnused) side later (subst (All (All IsUnused)) it unused);
      same_queues = same;
    }
  where
    length_join : (A : List (RowsId × Global)) (q : RowsId × Global) (B : List (RowsId × Global)) → length A < length (A ++ q ∷ B)
    length_join [] q B = omega arith
    length_join (x ∷ A) q B = let h = length_join A q B in omega arith

-- The pass that is made of them.
pub seat_known : (Q : List (RowsId × Global)) (n m : ℕ) (o : End) (side : List End) (ps : List Station) (p : Station) → Next Q n o side ps → p.own.queue ≡ o.queue → p.own.hand ≡ hand m [] []
    → p.others ≡ take (length ps) side ++ drop (length ps + 1) side → p.list ≡ [] → (queues_at (length ps) p ≡ Q) × IsNewPass p
seat_known Q n m o side ps p next queue own others list =
    let k = length ps in
    let others' : p.others ≡ take k side ++ drop (suc k) side = others ∙ ap (λ j. take k side ++ drop j side) (let e : k + 1 ≡ suc k = omega arith in e) in
    let back = put_back k side p.own.queue o next.within (queue ∙ sym (next.here o)) in
    let F : End → Type 0 = λ e. (e.hand.put ≡ []) × (e.hand.taken ≡ []) in
    let none : All F side = λ j d lt. (ap (λ (v : Hand). v.put) (next.ends_unused j d lt), ap (λ (v : Hand). v.taken) (next.ends_unused j d lt)) in (
      ap (λ (es : List End). take k (map queue_of es) ++ p.own.queue ∷ drop k (map queue_of es)) others' ∙ back ∙ next.same_queues,
      record {
        put_none = ap (λ (v : Hand). v.put) own;
        taken_none = ap (λ (v : Hand). v.taken) own;
        others_none = subst (All F) (sym others') (all_but F k side none);
        list_none = list;
      },
    )

-- What is known of each at its place, and of one more.
pub places_push : {A : Type 0} (F : ℕ → A → Type 0) (n : ℕ) (xs : List A) (x : A) → ((j : ℕ) (d : A) → j < length xs → F (n + j) (get_or xs j d)) → F (n + length xs) x
    → (j : ℕ) (d : A) → j < length (xs ++ x ∷ []) → F (n + j) (get_or (xs ++ x ∷ []) j d)
places_push F n [] x all here zero d lt = here
places_push F n [] x all here (suc j) d lt = absurd (omega arith)
places_push F n (y ∷ ys) x all here zero d lt = all 0 d (omega arith)
places_push F n (y ∷ ys) x all here (suc j) d lt =
    subst (λ m. F m (get_or (ys ++ x ∷ []) j d)) (let e : (n + 1) + j ≡ n + suc j = omega arith in e)
    (places_push F (n + 1) ys x (λ i e less. subst (λ m. F m (get_or ys i e)) (let q : n + suc i ≡ (n + 1) + i = omega arith in q) (all (suc i) e (omega arith)))
    (subst (λ m. F m x) (let q : n + suc (length ys) ≡ (n + 1) + length ys = omega arith in q) here) j d (omega arith))

pub places_push_all : {A : Type 0} (F : ℕ → A → Type 0) (xs : List A) (x : A) → ((j : ℕ) (d : A) → j < length xs → F j (get_or xs j d)) → F (length xs) x
    → (j : ℕ) (d : A) → j < length (xs ++ x ∷ []) → F j (get_or (xs ++ x ∷ []) j d)
places_push_all F xs x all here j d lt =
    subst (λ m. F m (get_or (xs ++ x ∷ []) j d)) (let e : 0 + j ≡ j = omega arith in e)
    (places_push F 0 xs x (λ i e less. subst (λ m. F m (get_or xs i e)) (let q : i ≡ 0 + i = omega arith in q) (all i e less))
    (subst (λ m. F m x) (let q : length xs ≡ 0 + length xs = omega arith in q) here) j d lt)
