use Rattle.std.proofs.Common.{◌≡◌, ℕ, ◌<◌, List, [], ◌∷◌, ◌++◌, length, set, replicate, inl, inr, ap, ◌∙◌, length-set, arith}
use Rattle.std.specs.Prelude.{All}
use Rattle.std.proofs.lemmas.Bool.{cases_lt, cases_eq}
use Rattle.std.proofs.lemmas.List.{get_or_past, get_or-replicate, length-replicate, get_or-set_same, get_or-set_other}
use Rattle.std.proofs.lemmas.List.Elements.{All-nil, All-push}
use Rattle.st_model.specs.Led.{heads_at}
use Rattle.checks_model.proofs.st_model_tests.vertex_lists_tests.heads_of.Goals.{then-tail-lt5+then-head-lt5+in_ok-add, else-tail-lt5}
use Rattle.checks_model.proofs.st_model_tests.vertex_lists_tests.heads_of.Goals as goal

-- none is listed
none_listed : (u : ℕ) → heads_at (replicate 5 []) u ≡ []
none_listed u =
    elim (cases_lt u 5) [
      | inl below ↦ get_or-replicate 5 u [] [] below
      | inr past ↦ get_or_past (replicate 5 []) u [] (omega (arith, past, length-replicate {A = List ℕ} 5 []))
    ]

-- one head more at a tail
one_listed : (heads : List (List ℕ)) (tail head : ℕ) → tail < length heads → head < 5 → ((u : ℕ) → All (λ v. v < 5) (heads_at heads u)) → (u : ℕ) → All (λ v. v < 5) (heads_at (set heads tail (heads_at heads tail ++ head ∷ [])) u)
one_listed heads tail head low below h u =
    elim (cases_eq u tail) [
      | inl same ↦ rw (same, get_or-set_same heads tail (heads_at heads tail ++ head ∷ []) [] low) (All-push (λ v. v < 5) (heads_at heads tail) head (h tail) below)
      | inr other ↦ rw (get_or-set_other heads tail u (heads_at heads tail ++ head ∷ []) [] other) (h u)
    ]

pub loop-tail-init : goal.loop-tail-init
loop-tail-init c = record {
  count = ap length c.in_ok-heads.ensures;
  in_range = λ u. rw (c.in_ok-heads.ensures, none_listed u) (All-nil (λ v. v < 5));
}

pub loop-tail-preserved : goal.loop-tail-preserved
loop-tail-preserved c =
    let heads = c.loop-tail.heads in
    let is = c.loop-tail.invariant in
    elim c.if-tail-lt5.branch [
      | then-tail-lt5+then-head-lt5+in_ok-add w ↦ record {
        count = ap length (w.heads-is ∙ w.in_ok-add.ensures.ok) ∙ length-set heads _ _ ∙ is.count;
        in_range = λ u. rw (w.heads-is, w.in_ok-add.ensures.ok) (one_listed heads _ _ (omega (arith, w.if-tail-lt5.true, is.count)) w.if-head-lt5.true is.in_range u);
      }
      | else-tail-lt5 w ↦ rw w.heads-is is
    ]
