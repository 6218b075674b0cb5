use Rattle.std.proofs.Common.{◌≡◌, ℕ, ◌<◌, List, [], ◌∷◌, ◌++◌, length, map, set, take, get_or, Option, option_map, sym, ap, ◌∙◌, length-set, arith}
use Rattle.std.specs.Prelude.{unwrap_or}
use Rattle.std.proofs.lemmas.List.{map-append, take_all, take_more, take_more_set}
use Rattle.short_paths.specs.declared.mark.Mark.{Mark}
use Rattle.short_paths.specs.declared.mark.Stage.TheVariants.{Unseen}
use Rattle.short_paths.specs.Marks.{place_in}
use Rattle.short_paths.proofs.Begins.{firsts, source_by, source_told, sources_by, first_cleared}
use Rattle.short_paths.proofs.sources.sources_of.Goals as goal

pub loop-vertex-preserved : goal.loop-vertex-preserved
loop-vertex-preserved c =
    let i = c.loop-vertex.vertex in
    let settled = c.args.settled.now in
    let marks = c.args.marks.now in
    let old = c.loop-vertex.sources.items in
    let source = c.first_at.result in
    let before = c.loop-vertex.invariant in
    let none : Mark = record { least = 0; stage = Unseen } in
    let mark = get_or marks i none in
    let within : i < length old = let low = c.loop-vertex-test.true in let long = before.long in omega (arith, low, long) in
    let known = ap (λ (fs : List ℕ). unwrap_or (option_map (λ k. get_or fs k 0) c.place.result) 0) (c.deref.ensures.value ∙ c.in_ok-firsts.ensures) in
    let value : source ≡ source_by settled mark = c.first_at.ensures ∙ (known ∙ (ap (λ (o : Option ℕ). unwrap_or (option_map (λ k. get_or (firsts settled) k 0) o) 0) c.place.ensures ∙ source_told settled (place_in mark))) in
    let step = ap (map (source_by settled)) (take_more marks i none c.loop-vertex-test.true) ∙ map-append (source_by settled) (take i marks) (mark ∷ []) in
    record {
      long = length-set old i source ∙ before.long;
      known = take_more_set old i source within ∙ (ap (λ (vs : List ℕ). vs ++ source ∷ []) before.known ∙ (ap (λ (v : ℕ). map (source_by settled) (take i marks) ++ v ∷ []) value ∙ sym step));
    }

pub returns : goal.returns
returns c =
    let settled = c.args.settled.now in
    let marks = c.args.marks.now in
    let before = c.loop-vertex.invariant in
    let past = c.loop-vertex-test.false in
    let all = sym (take_all c.loop-vertex.vertex c.loop-vertex.sources.items (let long = before.long in omega (arith, past, long))) ∙ (before.known ∙ ap (map (source_by settled)) (take_all c.loop-vertex.vertex marks past)) in
    ap (λ (vs : List ℕ). set vs 0 0) all ∙ (first_cleared settled marks c.requires ∙ ap (λ (sources : List ℕ). 0 ∷ sources) (sources_by settled marks))
