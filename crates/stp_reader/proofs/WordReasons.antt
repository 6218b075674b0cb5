-- What a word says, by the least of its reasons.
use Rattle.std.proofs.Common.{◌≡◌, ℕ, leb, ◌&&◌, Bool, true, false, cond, not, List, [], ◌∷◌, ◌++◌, Option, Some, None, Ok, Err, refl, sym, ap, ◌∙◌, append_assoc}
use Rattle.std.specs.Prelude.{◌==◌}
use Rattle.st_model.specs.declared.link.Link.{Link}
use Rattle.st_model.specs.declared.need.Need.{Need}
use Rattle.st_model.specs.declared.need.Need.TheVariants.{Pays}
use Rattle.stp_reader.specs.declared.reason.Reason.{Reason}
use Rattle.stp_reader.specs.declared.reason.Reason.TheVariants.{BadNumber, Fraction, OutOfRange, VertexRange, NoVertices, RepeatedPrize}
use Rattle.stp_reader.specs.Reason.{lesser_of, least, when}
use Rattle.plain_text.specs.Numbers.{is_number, value}
use Rattle.amounts.specs.Amounts.{is_amount, ends_in_time, whole_part, millionths}
use Rattle.stp_reader.specs.Amounts.{count_reasons, nodes_reasons, vertex_reasons, amount_reasons}
use Rattle.stp_reader.specs.Judged.{◌>>=◌, both, count, nodes, vertex, amount}
use Rattle.stp_reader.specs.Judging.{link_of, prize_of}
use Rattle.stp_reader.specs.Place.{link_said}
use Rattle.stp_reader.specs.Reasons.{has_prize}
use Rattle.stp_reader.proofs.Least.{answer, least-append, both_answer, then_answer, IsLow, IsLow-lesser}

pub count_answer : (limit : ℕ) (word : List ℕ) → count limit word ≡ answer (least (count_reasons limit word)) (value word)
unfolding count
count_answer limit word = by_case (is_number word) (leb (value word) limit)
  where
    by_case : (b c : Bool) → cond b (cond c (Ok (value word)) (Err OutOfRange)) (Err BadNumber) ≡ answer (least (cond b (when (not c) OutOfRange) (BadNumber ∷ []))) (value word)
    by_case true true = refl
    by_case true false = refl
    by_case false c = refl

pub nodes_answer : (word : List ℕ) → nodes word ≡ answer (least (nodes_reasons word)) (value word)
unfolding nodes count
nodes_answer word = by_case (value word) (is_number word) (leb (value word) 1000000) (value word == 0) refl
  where
    by_case : (v : ℕ) (b c z : Bool) → (v == 0) ≡ z → (cond b (cond c (Ok v) (Err OutOfRange)) (Err BadNumber) >>= λ n. cond (n == 0) (Err NoVertices) (Ok n)) ≡ answer (least (cond b (when (not c) OutOfRange) (BadNumber ∷ []) ++ when (b && z) NoVertices)) v
    by_case v true true true e = rw e refl
    by_case v true true false e = rw e refl
    by_case v true false true e = refl
    by_case v true false false e = refl
    by_case v false c z e = refl

pub vertex_answer : (n : ℕ) (word : List ℕ) → vertex n word ≡ answer (least (vertex_reasons n word)) (value word)
unfolding vertex
vertex_answer n word = by_case (is_number word) (leb 1 (value word) && leb (value word) n)
  where
    by_case : (b c : Bool) → cond b (cond c (Ok (value word)) (Err VertexRange)) (Err BadNumber) ≡ answer (least (cond b (when (not c) VertexRange) (BadNumber ∷ []))) (value word)
    by_case true true = refl
    by_case true false = refl
    by_case false c = refl

pub amount_answer : (word : List ℕ) → amount word ≡ answer (least (amount_reasons word)) (millionths word)
unfolding amount
amount_answer word = by_case (is_amount word) (ends_in_time word) (leb (whole_part word) 1000000000000)
  where
    by_case : (b z c : Bool) → cond b (cond z (cond c (Ok (millionths word)) (Err OutOfRange)) (Err Fraction)) (Err BadNumber) ≡ answer (least (cond b (when (not z) Fraction ++ when (not c) OutOfRange) (BadNumber ∷ []))) (millionths word)
    by_case true true true = refl
    by_case true true false = refl
    by_case true false true = refl
    by_case true false false = refl
    by_case false z c = refl

-- the link of what three words say
abbrev link_from : ℕ × (ℕ × ℕ) → Link
link_from l = record { a = l.0; b = l.1.0; cost = l.1.1 }

pub link_answer : (n : ℕ) (u v c : List ℕ) → link_of n u v c ≡ answer (least (vertex_reasons n u ++ vertex_reasons n v ++ amount_reasons c)) (link_said u v c)
link_answer n u v c =
    let two : ℕ × ℕ = (value v, millionths c) in
    let three : ℕ × (ℕ × ℕ) = (value u, two) in
    let judged : link_of n u v c ≡ answer (least (vertex_reasons n u ++ (vertex_reasons n v ++ amount_reasons c))) (link_from three) =
    rw (vertex_answer n u, vertex_answer n v, amount_answer c, both_answer (vertex_reasons n v) (amount_reasons c) (value v) (millionths c), both_answer (vertex_reasons n u) (vertex_reasons n v ++ amount_reasons c) (value u) two)
    (then_answer (least (vertex_reasons n u ++ (vertex_reasons n v ++ amount_reasons c))) three link_from) in
    judged ∙ ap (λ (rs : List Reason). answer (least rs) (link_from three)) (sym (append_assoc (vertex_reasons n u) (vertex_reasons n v) (amount_reasons c)))

-- ---- the reasons of a line of links or prizes are low, and a second prize is the greatest of them

vertex_low : (n : ℕ) (word : List ℕ) → IsLow (least (vertex_reasons n word))
vertex_low n word = by_case (is_number word) (leb 1 (value word) && leb (value word) n)
  where
    by_case : (b c : Bool) → IsLow (least (cond b (when (not c) VertexRange) (BadNumber ∷ [])))
    by_case true true = tt
    by_case true false = refl
    by_case false c = refl

amount_low : (word : List ℕ) → IsLow (least (amount_reasons word))
amount_low word = by_case (is_amount word) (ends_in_time word) (leb (whole_part word) 1000000000000)
  where
    by_case : (b z c : Bool) → IsLow (least (cond b (when (not z) Fraction ++ when (not c) OutOfRange) (BadNumber ∷ [])))
    by_case true true true = tt
    by_case true true false = refl
    by_case true false true = refl
    by_case true false false = refl
    by_case false z c = refl

-- the need of what two words say
abbrev prize_from : ℕ × ℕ → ℕ × Need
prize_from e = (e.0, Pays e.1)

-- after what a vertex and an amount say
second_prize : (o : Option Reason) (e : ℕ × ℕ) (test : ℕ → Bool) (h : Bool) → IsLow o → test e.0 ≡ h → (answer o e >>= λ d. cond (test d.0) (Err RepeatedPrize) (Ok (prize_from d))) ≡ answer (lesser_of o (least (when (test e.0) RepeatedPrize))) (prize_from e)
second_prize None e test true low is = rw is refl
second_prize None e test false low is = rw is refl
second_prize (Some r) e test true low is = rw (is, low) refl
second_prize (Some r) e test false low is = rw is refl

pub prize_answer : (n : ℕ) (needs : List (ℕ × Need)) (v p : List ℕ) → prize_of n needs v p ≡ answer (least (vertex_reasons n v ++ amount_reasons p ++ when (has_prize needs (value v)) RepeatedPrize)) (value v, Pays (millionths p))
prize_answer n needs v p =
    let own = vertex_reasons n v ++ amount_reasons p in
    let third = when (has_prize needs (value v)) RepeatedPrize in
    let said : ℕ × ℕ = (value v, millionths p) in
    let low : IsLow (least own) = rw (least-append (vertex_reasons n v) (amount_reasons p)) (IsLow-lesser (least (vertex_reasons n v)) (least (amount_reasons p)) (vertex_low n v) (amount_low p)) in
    let all : least (own ++ third) ≡ lesser_of (least own) (least third) = least-append own third in
    let both_say : both (vertex n v) (amount p) ≡ answer (least own) said = rw (vertex_answer n v, amount_answer p) (both_answer (vertex_reasons n v) (amount_reasons p) (value v) (millionths p)) in
    let judged : prize_of n needs v p ≡ answer (lesser_of (least own) (least third)) (prize_from said) = rw both_say (second_prize (least own) said (has_prize needs) (has_prize needs (value v)) low refl) in
    judged ∙ ap (λ (o : Option Reason). answer o (prize_from said)) (sym all)

pub link_low : (n : ℕ) (u v c : List ℕ) → IsLow (least (vertex_reasons n u ++ vertex_reasons n v ++ amount_reasons c))
link_low n u v c =
    let ends : IsLow (least (vertex_reasons n u ++ vertex_reasons n v)) = rw (least-append (vertex_reasons n u) (vertex_reasons n v)) (IsLow-lesser (least (vertex_reasons n u)) (least (vertex_reasons n v)) (vertex_low n u) (vertex_low n v)) in
    rw (least-append (vertex_reasons n u ++ vertex_reasons n v) (amount_reasons c)) (IsLow-lesser (least (vertex_reasons n u ++ vertex_reasons n v)) (least (amount_reasons c)) ends (amount_low c))

second_low : (test : Bool) → IsLow (least (when test RepeatedPrize))
second_low true = refl
second_low false = tt

pub prize_low : (n : ℕ) (needs : List (ℕ × Need)) (v p : List ℕ) → IsLow (least (vertex_reasons n v ++ amount_reasons p ++ when (has_prize needs (value v)) RepeatedPrize))
prize_low n needs v p =
    let own : IsLow (least (vertex_reasons n v ++ amount_reasons p)) = rw (least-append (vertex_reasons n v) (amount_reasons p)) (IsLow-lesser (least (vertex_reasons n v)) (least (amount_reasons p)) (vertex_low n v) (amount_low p)) in
    let third = when (has_prize needs (value v)) RepeatedPrize in
    rw (least-append (vertex_reasons n v ++ amount_reasons p) third) (IsLow-lesser (least (vertex_reasons n v ++ amount_reasons p)) (least third) own (second_low (has_prize needs (value v))))
