-- All ends of all queues come back.
use Rattle.std.proofs.Common.{◌≡◌, ℕ, zero, suc, ◌+◌, ◌-◌, ◌<◌, ◌≤◌, List, [], ◌∷◌, ◌++◌, map, length, get_or, sym, refl, ap, ◌∙◌, subst, append-nil, arith}
use Rattle.std.specs.Prelude.{All, flat_map}
use Rattle.std.specs.List.{sum_by}
use Rattle.std.proofs.lemmas.List.Sums.{sum_by-cons, sum_by-append}
use Rattle.std.specs.declared.alloc.Global.{Global}
use Rattle.std.proofs.lemmas.List.{length-map}
use Rattle.atomic_blocks.specs.Lent.{RowsId}
use Rattle.branching.specs.declared.node.Node.{Node}
use Rattle.node_pool.specs.Lane.{both}
use Rattle.node_pool.specs.Ends.{End, end, put_by, queue_of, rest_of}
use Rattle.node_pool.specs.Pool.{Station, own_put, list_of, puts, takes, tails, IsLeftOf}
use Rattle.node_pool.specs.Sides.{rejoined, AreSides}
use Rattle.node_pool.proofs.Lists.{all_head, all_tail}

pub lengths : (os ts : List End) → map queue_of ts ≡ map queue_of os → length ts ≡ length os
lengths os ts e = sym (length-map ts queue_of) ∙ ap (λ (l : List (RowsId × Global)). length l) e ∙ length-map os queue_of

pub rejoined_queues : (os ts : List End) → map queue_of (rejoined os ts) ≡ map queue_of os
rejoined_queues [] ts = refl
rejoined_queues (o ∷ os) [] = refl
rejoined_queues (o ∷ os) (t ∷ ts) = λ i. o.queue ∷ rejoined_queues os ts i

pub rejoined_puts : (h : Node → ℕ) (os ts : List End) → length ts ≡ length os → puts h (rejoined os ts) ≡ puts h os + puts h ts
rejoined_puts h [] [] e = refl
rejoined_puts h [] (t ∷ ts) e = absurd (omega arith)
rejoined_puts h (o ∷ os) [] e = absurd (omega arith)
rejoined_puts h (o ∷ os) (t ∷ ts) e =
    let i = rejoined_puts h os ts (omega arith) in let a = sum_by-append h o.hand.put t.hand.put in
    let b = sum_by-cons (λ (k : End). sum_by h k.hand.put) o os in let c = sum_by-cons (λ (k : End). sum_by h k.hand.put) t ts in
    let d = sum_by-cons (λ (k : End). sum_by h k.hand.put) (end o.queue (both o.hand t.hand) o.looks) (rejoined os ts) in omega arith

pub rejoined_takes : (h : Node → ℕ) (os ts : List End) → length ts ≡ length os → takes h (rejoined os ts) ≡ takes h os + takes h ts
rejoined_takes h [] [] e = refl
rejoined_takes h [] (t ∷ ts) e = absurd (omega arith)
rejoined_takes h (o ∷ os) [] e = absurd (omega arith)
rejoined_takes h (o ∷ os) (t ∷ ts) e =
    let i = rejoined_takes h os ts (omega arith) in let a = sum_by-append h o.hand.taken t.hand.taken in
    let b = sum_by-cons (λ (k : End). sum_by h k.hand.taken) o os in let c = sum_by-cons (λ (k : End). sum_by h k.hand.taken) t ts in
    let d = sum_by-cons (λ (k : End). sum_by h k.hand.taken) (end o.queue (both o.hand t.hand) o.looks) (rejoined os ts) in omega arith

pub rejoined_parts : (n m : ℕ) (os ts : List End) → m + 1 ≡ n → length ts ≡ length os → All (λ (t : End). t.hand.parts ≡ 1) ts → All (λ (o : End). o.hand.parts + n ≡ 65) os → All (λ (o : End). o.hand.parts + m ≡ 65) (rejoined os ts)
rejoined_parts n m [] ts one e ones all k d lt = absurd (omega arith)
rejoined_parts n m (o ∷ os) [] one e ones all k d lt = absurd (omega arith)
rejoined_parts n m (o ∷ os) (t ∷ ts) one e ones all zero d lt = let a = all_head (λ (o : End). o.hand.parts + n ≡ 65) o os all in let b = all_head (λ (t : End). t.hand.parts ≡ 1) t ts ones in omega arith
rejoined_parts n m (o ∷ os) (t ∷ ts) one e ones all (suc k) d lt =
    rejoined_parts n m os ts one (omega arith) (all_tail (λ (t : End). t.hand.parts ≡ 1) t ts ones) (all_tail (λ (o : End). o.hand.parts + n ≡ 65) o os all) k d (omega arith)

-- a thief's end put nothing
pub rejoined_put_by : (os ts : List End) → length ts ≡ length os → All (λ (t : End). t.hand.put ≡ []) ts → map put_by (rejoined os ts) ≡ map put_by os
rejoined_put_by [] ts e none = refl
rejoined_put_by (o ∷ os) [] e none = absurd (omega arith)
rejoined_put_by (o ∷ os) (t ∷ ts) e none =
    let here : o.hand.put ++ t.hand.put ≡ o.hand.put = ap (λ l. o.hand.put ++ l) (all_head (λ (t : End). t.hand.put ≡ []) t ts none) ∙ append-nil o.hand.put in
    let rest = rejoined_put_by os ts (omega arith) (all_tail (λ (t : End). t.hand.put ≡ []) t ts none) in (λ i. here i ∷ rest i)

-- one side more
pub record Joined (os : List End) (all : List End) (side : List End) (now : List (List End)) : Type 0 where
  pub sides : AreSides (map queue_of all) now
  pub parts : All (λ (o : End). o.hand.parts + length now ≡ 65) all
  pub put : (h : Node → ℕ) → puts h all ≡ puts h os + puts h side
  pub taken : (h : Node → ℕ) → takes h all ≡ takes h os + takes h side
  pub same_put : map put_by all ≡ map put_by os

pub joins : (os all side : List End) (now : List (List End)) → all ≡ rejoined os side → All (λ (t : End). (t.hand.parts ≡ 1) × (t.hand.put ≡ [])) side → AreSides (map queue_of os) (side ∷ now) → All (λ (o : End). o.hand.parts + length (side ∷ now) ≡ 65) os → Joined os all side now
joins os all side now is ones sides parts =
    let same = all_head (λ s. map queue_of s ≡ map queue_of os) side now sides in
    let long = lengths os side same in
    subst (λ l. Joined os l side now) (sym is) (record {
      sides = subst (λ q. AreSides q now) (sym (rejoined_queues os side)) (all_tail (λ s. map queue_of s ≡ map queue_of os) side now sides);
      parts = rejoined_parts (length (side ∷ now)) (length now) os side (omega arith) long (λ k d lt. (ones k d lt).0) parts;
      put = λ h. rejoined_puts h os side long;
      taken = λ h. rejoined_takes h os side long;
      same_put = rejoined_put_by os side long (λ k d lt. (ones k d lt).1);
    })

-- a queue is drained
pub drains : (os now : List End) (o : End) (first : List End) (left more after : List Node) → os ≡ o ∷ now → after ≡ left ++ more → ((h : Node → ℕ) → sum_by h o.hand.put ≡ sum_by h o.hand.taken + sum_by h more)
    → ((h : Node → ℕ) → sum_by h left + puts h os + takes h first ≡ takes h os + puts h first) → (h : Node → ℕ) → sum_by h after + puts h now + takes h first ≡ takes h now + puts h first
drains os now o first left more after is grown gone was h =
    let a : puts h os ≡ puts h (o ∷ now) = ap (puts h) is in let b : takes h os ≡ takes h (o ∷ now) = ap (takes h) is in
    let c = sum_by-cons (λ (k : End). sum_by h k.hand.put) o now in let d = sum_by-cons (λ (k : End). sum_by h k.hand.taken) o now in
    let e : sum_by h after ≡ sum_by h (left ++ more) = ap (sum_by h) grown in let f = sum_by-append h left more in
    let g = gone h in let w = was h in omega arith

-- a worker takes in the end of its queue
pub extends : (all after os now ts later : List End) (o t e : End) (J : List End) → os ≡ o ∷ now → ts ≡ t ∷ later → after ≡ all ++ e ∷ [] → e.queue ≡ o.queue → e.hand ≡ both o.hand t.hand → e.looks ≡ o.looks → all ++ rejoined os ts ≡ J → after ++ rejoined now later ≡ J
extends all after os now ts later o t e J is it grown q h l was =
    ap (λ xs. xs ++ rejoined now later) grown ∙ Rattle.std.proofs.Common.append_assoc all (e ∷ []) (rejoined now later)
    ∙ (λ i. all ++ end (q i) (h i) (l i) ∷ rejoined now later) ∙ sym (λ i. all ++ rejoined (is i) (it i)) ∙ was

-- What is left of the queues are tails of what was put there.
abbrev gone_of : End → ℕ
gone_of o = length o.hand.taken

rests_are_tails : (os : List End) → flat_map rest_of os ≡ tails (map gone_of os) (map put_by os)
rests_are_tails [] = refl
rests_are_tails (o ∷ os) = ap (λ l. rest_of o ++ l) (rests_are_tails os)

pub left_in_order : (passes : List Station) (os : List End) (left lists more : List Node) → left ≡ lists ++ more → lists ≡ flat_map list_of passes → more ≡ flat_map rest_of os → map put_by os ≡ map own_put passes → IsLeftOf passes left
left_in_order passes os left lists more is held drained same = (
  map gone_of os,
  length-map os gone_of ∙ sym (length-map os put_by) ∙ ap (λ (l : List (List Node)). length l) same ∙ length-map passes own_put,
  is ∙ ap (λ l. l ++ more) held ∙ ap (λ l. flat_map list_of passes ++ l) (drained ∙ rests_are_tails os ∙ ap (tails (map gone_of os)) same),
)
