-- Each split is read just where it is spelled so, in a version that has such lines.
use Rattle.std.proofs.Common.{◌≡◌, ℕ, ◌<◌, true, List, [], ◌∷◌, ◌++◌, Option, Some, None, refl, subst, arith}
use Rattle.std.specs.Prelude.{codes, nat_lt}
use Rattle.std.proofs.lemmas.Bool.Decides.{nat_tests}
use Rattle.std.proofs.lemmas.Option.{cond_some}
use Rattle.plain_text.proofs.Steps.{step_some}
use Rattle.st_model.specs.declared.split_at.SplitAt.{SplitAt}
use Rattle.st_model.specs.declared.split_at.SplitAt.TheVariants.{Vertex, Link}
use Rattle.log_format.specs.declared.log.Version.{Version}
use Rattle.log_format.specs.declared.log.Version.TheVariants.{One, Two}
use Rattle.log_format.specs.Text.{spaced, split_line, IsAnyLink, IsAnySplit, IsWritableSplit}
use Rattle.log_format.specs.Reading.{number_of, pair_of, link_of, link_in, at_vertex, split_of}
use Rattle.log_format.proofs.LineLaws.{Judges, number_of_judges, pair_judges}
use Rattle.log_format.proofs.StepLaws.{other_letter}

-- the line is the spelling of the split, and that can be written
abbrev Reads : Version → List ℕ → SplitAt → Type 0
Reads version line at = IsWritableSplit version at × (line ≡ split_line at)

-- a line that was read is the spelling of the link
link_takes : (line : List ℕ) (at : SplitAt) → link_of line ≡ Some at → Reads Two line at
unfolding link_of
link_takes line at e =
    let ends = step_some (pair_of (codes "L") 1 1000000 1 1000000 line) _ at e in
    let g = cond_some (nat_lt ends.0.0 ends.0.1) (Link ends.0.0 ends.0.1) at ends.2 in
    let j = (pair_judges (codes "L") 1 1000000 1 1000000 (omega arith) (omega arith)).takes line ends.0 ends.1 in
    let ordered : ends.0.0 < ends.0.1 = grind (arith, nat_tests, g.0) in
    subst (Reads Two line) g.1 ((refl, record { low = j.0.0; high = j.0.1; ordered = ordered }), j.1)

-- the spelling of a link is read
pub link_again : (a b : ℕ) → IsAnyLink a b → link_of (split_line (Link a b)) ≡ Some (Link a b)
unfolding link_of
link_again a b fits =
    let ordered : nat_lt a b ≡ true = grind (arith, nat_tests, fits.ordered) in
    rw ((pair_judges (codes "L") 1 1000000 1 1000000 (omega arith) (omega arith)).again (a, b) (fits.low, fits.high), ordered) refl

by_vertex : (version : Version) (line : List ℕ) (found : Option ℕ) (at : SplitAt) → number_of (codes "S") 1 1000000 line ≡ found → at_vertex found (link_in version line) ≡ Some at → Reads version line at
by_vertex version line (Some v) at is e =
    let same : Vertex v ≡ at = cc in
    subst (Reads version line) same ((number_of_judges (codes "S") 1 1000000 (omega arith)).takes line v is)
by_vertex One line None at is e = absurd cc
by_vertex Two line None at is e = link_takes line at e

-- a line that was read is the spelling of the split
split_takes : (version : Version) (line : List ℕ) (at : SplitAt) → split_of version line ≡ Some at → Reads version line at
unfolding split_of
split_takes version line at e = by_vertex version line (number_of (codes "S") 1 1000000 line) at refl e

-- the spelling of a split is read
split_again : (version : Version) (at : SplitAt) → IsWritableSplit version at → split_of version (split_line at) ≡ Some at
unfolding split_of
split_again version (Vertex v) fits = rw ((number_of_judges (codes "S") 1 1000000 (omega arith)).again v fits) refl
split_again One (Link a b) fits = absurd (let none : One ≡ Two = fits.0 in cc)
split_again Two (Link a b) fits = rw (other_letter 83 76 (spaced a ++ (spaced b ++ [])) refl, link_again a b fits.1) refl

pub split_judges : (version : Version) → Judges (split_of version) split_line (IsWritableSplit version)
split_judges version = record { takes = split_takes version; again = split_again version }

-- the head of a close is no split
pub no_split : (version : Version) (rest : List ℕ) → split_of version (67 ∷ rest) ≡ None
unfolding split_of number_of link_of pair_of
no_split One rest = refl
no_split Two rest = refl

-- a split that can be written in a version is one of some instance
pub any_split : (version : Version) (at : SplitAt) → IsWritableSplit version at → IsAnySplit at
any_split version (Vertex v) fits = fits
any_split version (Link a b) fits = fits.1

-- and can be written in version 2
pub in_two : (at : SplitAt) → IsAnySplit at → IsWritableSplit Two at
in_two (Vertex v) fits = fits
in_two (Link a b) fits = (refl, fits)
