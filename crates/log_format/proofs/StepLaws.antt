-- Each kind of step is read just where it is spelled so.
use Rattle.std.proofs.Common.{◌≡◌, ℕ, false, eqb, List, [], ◌∷◌, ◌++◌, Option, Some, None, refl, ap, subst, ◌∙◌, arith}
use Rattle.std.specs.Prelude.{codes}
use Rattle.std.proofs.lemmas.List.Elements.{recursion_from_All, All-from_recursion}
use Rattle.lift_back.specs.declared.step.Step.{Step}
use Rattle.lift_back.specs.declared.step.Step.TheVariants.{Pendant, Through, Forced, Detour}
use Rattle.plain_text.proofs.Steps.{step_some}
use Rattle.log_format.specs.Text.{spaced, words, step_line, IsAnyVertex, IsWritableInner, IsWritableStep}
use Rattle.log_format.specs.Reading.{after, number_at, number_of, counted_at, detour_head_of, detour_of, of_vertex, step_of}
use Rattle.log_format.proofs.Cut.{after_takes}
use Rattle.log_format.proofs.LineLaws.{Judges, number_at_takes, number_at_again, number_of_judges, AreCounted, counted, counted_judges}

-- the line is the spelling of the step, and that can be written
abbrev Reads : List ℕ → Step → Type 0
Reads line s = IsWritableStep s × (line ≡ step_line s)

-- ---- detours

inner_from : (inner : List ℕ) → AreCounted inner → IsWritableInner inner
inner_from inner h = record { some = h.some; few = omega (arith, h.few); vertices = All-from_recursion IsAnyVertex inner h.vertices }

inner_to : (inner : List ℕ) → IsWritableInner inner → AreCounted inner
inner_to inner h = record { some = h.some; few = omega (arith, h.few); vertices = recursion_from_All IsAnyVertex inner h.vertices }

-- the ends of a detour that were read, and what follows them
detour_head_takes : (line : List ℕ) (head : ℕ × ℕ × List ℕ) → detour_head_of line ≡ Some head
    → IsAnyVertex head.0 × IsAnyVertex head.1 × (line ≡ codes "D" ++ (spaced head.0 ++ (spaced head.1 ++ head.2)))
unfolding detour_head_of
detour_head_takes line head e =
    let rest = step_some (after (codes "D") line) _ head e in
    let a = step_some (number_at 1 1000000 rest.0) _ head rest.2 in
    let b = step_some (number_at 1 1000000 a.0.1) _ head a.2 in
    let made : ℕ × ℕ × List ℕ = (a.0.0, b.0.0, b.0.1) in
    let same : made ≡ head = cc in
    let t = number_at_takes 1 1000000 rest.0 a.0 (omega arith) a.1 in
    let u = number_at_takes 1 1000000 a.0.1 b.0 (omega arith) b.1 in
    let spelled = after_takes (codes "D") line rest.0 rest.1 ∙ ap (λ (r : List ℕ). codes "D" ++ r) (t.1 ∙ ap (λ (r : List ℕ). spaced a.0.0 ++ r) u.1) in
    subst (λ (h : ℕ × ℕ × List ℕ). IsAnyVertex h.0 × IsAnyVertex h.1 × (line ≡ codes "D" ++ (spaced h.0 ++ (spaced h.1 ++ h.2)))) same (t.0, u.0, spelled)

-- a line that was read is the spelling of the detour
detour_takes : (line : List ℕ) (s : Step) → detour_of line ≡ Some s → Reads line s
unfolding detour_of
detour_takes line s e =
    let head = step_some (detour_head_of line) _ s e in
    let inner = step_some (counted_at head.0.2) _ s head.2 in
    let same : Detour head.0.0 head.0.1 inner.0 ≡ s = cc in
    let t = detour_head_takes line head.0 head.1 in
    let u = counted_judges.takes head.0.2 inner.0 inner.1 in
    subst (λ (x : Step). Reads line x) same ((t.0, t.1, inner_from inner.0 u.0), t.2 ∙ ap (λ (r : List ℕ). codes "D" ++ (spaced head.0.0 ++ (spaced head.0.1 ++ r))) u.1)

-- the spelling of a detour is read
detour_again : (a b : ℕ) (inner : List ℕ) → IsWritableStep (Detour a b inner) → detour_of (step_line (Detour a b inner)) ≡ Some (Detour a b inner)
unfolding detour_of detour_head_of
detour_again a b inner fits =
    let first = number_at_again 1 1000000 a (spaced b ++ counted inner) (omega arith) fits.0 refl in
    let second = number_at_again 1 1000000 b (counted inner) (omega arith) fits.1 refl in
    rw (first, second, counted_judges.again inner (inner_to inner fits.2)) refl

-- ---- steps of one vertex

-- a line of this letter and a vertex, or else another
by_letter : (kind : ℕ → Step) (letter line : List ℕ) (found : Option ℕ) (other : Option Step) (s : Step) → number_of letter 1 1000000 line ≡ found
    → ((v : ℕ) → IsAnyVertex v → line ≡ words letter (v ∷ []) → Reads line (kind v)) → (other ≡ Some s → Reads line s) → of_vertex kind found other ≡ Some s → Reads line s
by_letter kind letter line (Some v) other s is this others e =
    let same : kind v ≡ s = cc in
    let j = (number_of_judges letter 1 1000000 (omega arith)).takes line v is in
    subst (λ (x : Step). Reads line x) same (this v j.0 j.1)
by_letter kind letter line None other s is this others e = others e

-- a line that was read is the spelling of the step
step_of_takes : (line : List ℕ) (s : Step) → step_of line ≡ Some s → Reads line s
unfolding step_of
step_of_takes line s e =
    by_letter (λ v. Pendant v) (codes "P") line (number_of (codes "P") 1 1000000 line) _ s refl (λ v fits spelled. (fits, spelled)) (λ e'.
    by_letter (λ v. Through v) (codes "H") line (number_of (codes "H") 1 1000000 line) _ s refl (λ v fits spelled. (fits, spelled)) (λ e''.
    by_letter (λ v. Forced v) (codes "F") line (number_of (codes "F") 1 1000000 line) _ s refl (λ v fits spelled. (fits, spelled)) (detour_takes line s) e''
    ) e'
    ) e

-- a line that begins with another letter
pub other_letter : (letter byte : ℕ) (rest : List ℕ) → eqb byte letter ≡ false → number_of (letter ∷ []) 1 1000000 (byte ∷ rest) ≡ None
unfolding number_of
other_letter letter byte rest other = rw other refl

-- the spelling of a step is read
step_of_again : (s : Step) → IsWritableStep s → step_of (step_line s) ≡ Some s
unfolding step_of
step_of_again (Pendant v) fits = rw ((number_of_judges (codes "P") 1 1000000 (omega arith)).again v fits) refl
step_of_again (Through v) fits = rw (other_letter 80 72 (spaced v ++ []) refl, (number_of_judges (codes "H") 1 1000000 (omega arith)).again v fits) refl
step_of_again (Forced v) fits = rw (other_letter 80 70 (spaced v ++ []) refl, other_letter 72 70 (spaced v ++ []) refl, (number_of_judges (codes "F") 1 1000000 (omega arith)).again v fits) refl
step_of_again (Detour a b inner) fits =
    let rest : List ℕ = spaced a ++ (spaced b ++ counted inner) in
    rw (other_letter 80 68 rest refl, other_letter 72 68 rest refl, other_letter 70 68 rest refl, detour_again a b inner fits) refl

pub step_judges : Judges step_of step_line IsWritableStep
step_judges = record { takes = step_of_takes; again = step_of_again }
