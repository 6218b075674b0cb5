-- Lists of ends that are made, one by one, of others.
use Rattle.std.proofs.Common.{◌≡◌, ℕ, zero, suc, ◌+◌, ◌-◌, List, [], ◌∷◌, ◌++◌, map, length, sym, refl, ap, ◌∙◌, append_assoc, append-nil, arith}
use Rattle.std.specs.Prelude.{All, flat_map}
use Rattle.std.specs.declared.alloc.Global.{Global}
use Rattle.atomic_blocks.specs.Lent.{RowsId}
use Rattle.node_pool.specs.declared.rule.Hand.{Hand}
use Rattle.node_pool.specs.Lane.{hand}
use Rattle.node_pool.specs.Ends.{End, queue_of}

pub all_cons : {A : Type 0} (F : A → Type 0) (x : A) (xs : List A) → F x → All F xs → All F (x ∷ xs)
all_cons F x xs f all zero d lt = f
all_cons F x xs f all (suc k) d lt = all k d (omega arith)

pub all_head : {A : Type 0} (F : A → Type 0) (x : A) (xs : List A) → All F (x ∷ xs) → F x
all_head F x xs all = all 0 x (omega arith)

pub all_tail : {A : Type 0} (F : A → Type 0) (x : A) (xs : List A) → All F (x ∷ xs) → All F xs
all_tail F x xs all k d lt = all (suc k) d (omega arith)

pub all_push : {A : Type 0} (F : A → Type 0) (xs : List A) (x : A) → All F xs → F x → All F (xs ++ x ∷ [])
all_push F [] x all last zero d lt = last
all_push F [] x all last (suc k) d lt = absurd (omega arith)
all_push F (y ∷ ys) x all last zero d lt = all 0 d (omega arith)
all_push F (y ∷ ys) x all last (suc k) d lt = all_push F ys x (λ j e l. all (suc j) e (omega arith)) last k d (omega arith)

pub map_snoc : {A B : Type 0} (f : A → B) (xs : List A) (x : A) → map f (xs ++ x ∷ []) ≡ map f xs ++ f x ∷ []
map_snoc f [] x = refl
map_snoc f (y ∷ ys) x = λ i. f y ∷ map_snoc f ys x i

-- what was made, and what is to come
pub moves_on : (made after os now : List End) (o e : End) (Q : List (RowsId × Global)) → os ≡ o ∷ now → after ≡ made ++ e ∷ [] → e.queue ≡ o.queue → map queue_of made ++ map queue_of os ≡ Q → map queue_of after ++ map queue_of now ≡ Q
moves_on made after os now o e Q is grown same was =
    ap (λ l. map queue_of l ++ map queue_of now) grown ∙ ap (λ l. l ++ map queue_of now) (map_snoc queue_of made e) ∙ append_assoc (map queue_of made) (e.queue ∷ []) (map queue_of now)
    ∙ (λ i. map queue_of made ++ same i ∷ map queue_of now) ∙ sym (ap (λ l. map queue_of made ++ map queue_of l) is) ∙ was

pub one_less : (n : ℕ) (v w : Hand) → v ≡ hand (n + 1) [] [] → w ≡ hand (v.parts - 1) v.put v.taken → w ≡ hand n [] []
one_less n v w was is = is ∙ (λ i. hand ((was i).parts - 1) (was i).put (was i).taken) ∙ ap (λ k. hand k [] []) (let e : (n + 1) - 1 ≡ n = omega arith in e)

pub all_join : {A : Type 0} (F : A → Type 0) (xs ys : List A) → All F xs → All F ys → All F (xs ++ ys)
all_join F [] ys left right = right
all_join F (x ∷ xs) ys left right = all_cons F x (xs ++ ys) (all_head F x xs left) (all_join F xs ys (all_tail F x xs left) right)

pub empty : {A : Type 0} (xs : List A) → length xs ≡ 0 → xs ≡ []
empty [] none = refl
empty (x ∷ xs) none = absurd (omega arith)

-- what was made of lists' members, and what is to come
pub map_on : {A B C : Type 0} (f : A → C) (g : B → C) (Q : List C) (made after : List A) (rest now : List B) (p : B) (o : A) → rest ≡ p ∷ now → after ≡ made ++ o ∷ [] → f o ≡ g p
    → map f made ++ map g rest ≡ Q → map f after ++ map g now ≡ Q
map_on f g Q made after rest now p o is grown same was =
    ap (λ l. map f l ++ map g now) grown ∙ ap (λ l. l ++ map g now) (map_snoc f made o) ∙ append_assoc (map f made) (f o ∷ []) (map g now)
    ∙ (λ i. map f made ++ same i ∷ map g now) ∙ ap (λ l. map f made ++ map g l) (sym is) ∙ was

pub flat_on : {A B : Type 0} (g : B → List A) (Q left after more : List A) (rest now : List B) (p : B) → rest ≡ p ∷ now → after ≡ left ++ more → more ≡ g p → left ++ flat_map g rest ≡ Q → after ++ flat_map g now ≡ Q
flat_on g Q left after more rest now p is grown same was =
    ap (λ l. l ++ flat_map g now) grown ∙ append_assoc left more (flat_map g now) ∙ ap (λ l. left ++ (l ++ flat_map g now)) same ∙ ap (λ l. left ++ flat_map g l) (sym is) ∙ was

pub map_whole : {A B C : Type 0} (f : A → C) (g : B → C) (Q : List C) (made : List A) (rest : List B) → length rest ≡ 0 → map f made ++ map g rest ≡ Q → map f made ≡ Q
map_whole f g Q made rest none was = sym (append-nil (map f made)) ∙ ap (λ l. map f made ++ map g l) (sym (empty rest none)) ∙ was

pub flat_whole : {A B : Type 0} (g : B → List A) (Q left : List A) (rest : List B) → length rest ≡ 0 → left ++ flat_map g rest ≡ Q → left ≡ Q
flat_whole g Q left rest none was = sym (append-nil left) ∙ ap (λ l. left ++ flat_map g l) (sym (empty rest none)) ∙ was
