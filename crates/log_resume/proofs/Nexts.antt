-- The first light close along the lines of a walk: what is found among those to come is found among all.
use Rattle.std.proofs.Common.{◌≡◌, ℕ, ◌+◌, ◌^◌, ◌<◌, ◌≤◌, List, [], ◌∷◌, ◌++◌, Option, Some, None, length, sym, ap, subst, ◌∙◌, arith}
use Rattle.std.specs.Option.{option_and_then, option_to_list}
use Rattle.st_model.specs.Network.{Network}
use Rattle.branching.specs.declared.node.Node.{Node}
use Rattle.branching.specs.Node.{IsNode}
use Rattle.log_format.specs.declared.proof_line.ProofLine.{ProofLine}
use Rattle.log_format.specs.declared.proof_line.ProofLine.TheVariants.{Split, Close}
use Rattle.log_format.specs.Text.{IsWritablePacking}
use Rattle.cert_checker.specs.Path.{path_after}
use Rattle.log_resume.specs.Closes.{IsNextBelow}
use Rattle.log_resume.specs.Open.{Opened, IsOpened, AreRightFrom, IsLightOf, closed_by, closes_along, closes_in}
use Rattle.log_resume.proofs.Walks.{closed_node, closes-cons, right_after}
use Rattle.log_resume.proofs.Lights.{next-after, next-found, next-none}

-- the walk after a line
abbrev pub walk_after : Opened → ProofLine → Opened
walk_after o line = record { instance = o.instance; path = option_and_then (λ p. path_after p line) o.path }

-- a walk over the lines of some nodes, of which those before aren't light
pub record IsWalked (I : Network) (least : ℕ) (all : List Node) (o : Opened) (number : ℕ) (lines : List ProofLine) : Type 0 where
  pub same : o.instance ≡ I
  pub right : AreRightFrom o.instance o.path lines
  pub few : number + length lines < 2 ^ 64
  pub goes_on : (found : Option (Node × List Node)) → IsNextBelow I least (closes_along o.path number lines) found → IsNextBelow I least all found

at_most_one : (line : ProofLine) → closes_in line ≤ 1
at_most_one (Split at) = omega arith
at_most_one (Close P) = omega arith

-- the lines after one are right, and few enough
pub rest_right : (I : Network) (least : ℕ) (all : List Node) (o next : Opened) (number : ℕ) (lines : List ProofLine) (l : ProofLine) (rest : List ProofLine) → IsWalked I least all o number lines → lines ≡ l ∷ rest → next ≡ walk_after o l
    → AreRightFrom next.instance next.path rest × (number + closes_in l + length rest < 2 ^ 64)
rest_right I least all o next number lines l rest walked parts is =
    let right : AreRightFrom o.instance o.path (l ∷ rest) = subst (AreRightFrom o.instance o.path) parts walked.right in
    let count : length lines ≡ length rest + 1 = ap length parts ∙ omega arith in
    let one = at_most_one l in
    let few = walked.few in
    (subst (λ (n : Opened). AreRightFrom n.instance n.path rest) (sym is) (right_after o.instance o.path l rest right), below number (closes_in l) (length rest) (length lines) (2 ^ 64) one count few)
  where
    below : (a b c d e : ℕ) → b ≤ 1 → d ≡ c + 1 → a + d < e → a + b + c < e
    below a b c d e one count few = omega arith

-- the closes along the lines, by the walk after the first of them
closes_on : (o next : Opened) (number : ℕ) (lines : List ProofLine) (l : ProofLine) (rest : List ProofLine) → AreRightFrom o.instance o.path lines → lines ≡ l ∷ rest → next ≡ walk_after o l
    → closes_along o.path number lines ≡ option_to_list (closed_by o.path number l) ++ closes_along next.path (number + closes_in l) rest
closes_on o next number lines l rest right parts is =
    ap (closes_along o.path number) parts
    ∙ (closes-cons o.instance o.path number l rest (subst (AreRightFrom o.instance o.path) parts right)
    ∙ ap (λ (n : Opened). option_to_list (closed_by o.path number l) ++ closes_along n.path (number + closes_in l) rest) (sym is))

-- after a line that closes no light node
pub walked_on : (I : Network) (least : ℕ) (all : List Node) (o next : Opened) (number : ℕ) (lines : List ProofLine) (l : ProofLine) (rest : List ProofLine) → IsWalked I least all o number lines → lines ≡ l ∷ rest → next ≡ walk_after o l
    → IsLightOf o.instance least (closed_by o.path number l) None → IsWalked I least all next (number + closes_in l) rest
walked_on I least all o next number lines l rest walked parts is heavy =
    let after = rest_right I least all o next number lines l rest walked parts is in
    let mine : IsLightOf I least (closed_by o.path number l) None = subst (λ (J : Network). IsLightOf J least (closed_by o.path number l) None) walked.same heavy in
    record {
      same = ap (λ (n : Opened). n.instance) is ∙ walked.same;
      right = after.0;
      few = after.1;
      goes_on = λ found is_next. walked.goes_on found (subst (λ (ns : List Node). IsNextBelow I least ns found) (sym (closes_on o next number lines l rest walked.right parts is)) (next-after I least (closed_by o.path number l) (closes_along next.path (number + closes_in l) rest) found mine is_next));
    }

-- a line that closes a light node
pub walked_to : (I : Network) (least : ℕ) (all : List Node) (o next : Opened) (number : ℕ) (lines : List ProofLine) (l : ProofLine) (rest : List ProofLine) (N : Node) → IsWalked I least all o number lines → lines ≡ l ∷ rest → next ≡ walk_after o l
    → IsLightOf o.instance least (closed_by o.path number l) (Some N) → IsNextBelow I least all (Some (N, closes_along next.path (number + closes_in l) rest))
walked_to I least all o next number lines l rest N walked parts is light =
    let mine : IsLightOf I least (closed_by o.path number l) (Some N) = subst (λ (J : Network). IsLightOf J least (closed_by o.path number l) (Some N)) walked.same light in
    walked.goes_on (Some (N, closes_along next.path (number + closes_in l) rest)) (subst (λ (ns : List Node). IsNextBelow I least ns (Some (N, closes_along next.path (number + closes_in l) rest))) (sym (closes_on o next number lines l rest walked.right parts is)) (next-found I least (closed_by o.path number l) N (closes_along next.path (number + closes_in l) rest) mine))

-- it is a node that can be written
pub walked_node : (I : Network) (least : ℕ) (all : List Node) (o : Opened) (number : ℕ) (lines : List ProofLine) (l : ProofLine) (rest : List ProofLine) (N : Node) → IsWalked I least all o number lines → lines ≡ l ∷ rest → IsOpened o
    → IsLightOf o.instance least (closed_by o.path number l) (Some N) → IsNode I N × IsWritablePacking N.packing
walked_node I least all o number lines l rest N walked parts is_open light =
    let right : AreRightFrom o.instance o.path (l ∷ rest) = subst (AreRightFrom o.instance o.path) parts walked.right in
    subst (λ (J : Network). IsNode J N × IsWritablePacking N.packing) walked.same (closed_node o.instance o.path number l rest N is_open right light.0)

-- where no line is left, no close is light
pub walked_out : (I : Network) (least : ℕ) (all : List Node) (o : Opened) (number : ℕ) (lines : List ProofLine) → IsWalked I least all o number lines → length lines ≡ 0 → IsNextBelow I least all None
walked_out I least all o number lines walked none = by_lines lines none walked.goes_on
  where
    by_lines : (ls : List ProofLine) → length ls ≡ 0 → ((found : Option (Node × List Node)) → IsNextBelow I least (closes_along o.path number ls) found → IsNextBelow I least all found) → IsNextBelow I least all None
    by_lines [] empty goes_on = goes_on None (next-none I least)
    by_lines (l ∷ ls) empty goes_on = absurd (not_empty l ls empty)
      where
        not_empty : (l : ProofLine) (ls : List ProofLine) → length (l ∷ ls) ≡ 0 → ⊥
        not_empty l ls e = omega arith
