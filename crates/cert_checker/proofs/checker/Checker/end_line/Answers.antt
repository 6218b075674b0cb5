use Rattle.std.proofs.Common.{◌≡◌, ℕ, ◌+◌, ◌<◌, ◌^◌, List, [], ◌∷◌, ◌++◌, length, sym, ap, subst, ◌∙◌, append_assoc, length-append, arith}
use Rattle.cert_checker.specs.declared.hearing.Heard.{Heard}
use Rattle.cert_checker.specs.Heard.{IsHeard}
use Rattle.cert_checker.specs.Hearing.{AreStopped}
use Rattle.cert_checker.specs.Pieces.{Pieces}
use Rattle.cert_checker.proofs.Pieces.{fed_few, fed_taken, fed_stopped, stopped_more, line_taken, line_bad}
use Rattle.cert_checker.proofs.checker.Checker.end_line.Goals as goal

pub line-requires : goal.line-requires
line-requires c = let v = c.self.inside in fed_few v.hearing.lines v.is_bad v.part.items v.fed c.self.invariant

pub invariant_of-result : goal.invariant_of-result
invariant_of-result c =
    let v = c.self.inside in
    let line = c.args.line.now in
    let all : c.note-2.new.self ≡ v.fed ++ (line ++ 10 ∷ []) = c.note-2.ensures ∙ (ap (λ (r : List ℕ). r ++ 10 ∷ []) c.note.ensures ∙ append_assoc v.fed line (10 ∷ [])) in
    let few : length v.fed + length line + 1 < 2 ^ 63 = omega (arith, c.requires.few, ap (λ (p : Pieces). length p.text) c.self.view_is) in
    subst (λ (t : List ℕ). AreStopped v.hearing.lines t) (sym all) (stopped_more v.hearing.lines v.fed (line ++ 10 ∷ []) (fed_stopped v.hearing.lines v.is_bad v.part.items v.fed c.self.invariant c.if-self.true) (omega (arith, few, length-append line (10 ∷ []))))

pub invariant_of-result-in-Taken : goal.invariant_of-result-in-Taken
invariant_of-result-in-Taken c =
    let v = c.self.inside in
    let line = c.args.line.now in
    let all : c.note-2.new.self ≡ v.fed ++ (line ++ 10 ∷ []) = c.note-2.ensures ∙ (ap (λ (r : List ℕ). r ++ 10 ∷ []) c.note.ensures ∙ append_assoc v.fed line (10 ∷ [])) in
    let few : length v.fed + length line + 1 < 2 ^ 63 = omega (arith, c.requires.few, ap (λ (p : Pieces). length p.text) c.self.view_is) in
    let bytes = c.deref.ensures.value ∙ c.in_ok-extend_from_slice.ensures.items in
    let heard = subst (λ (h : Heard). IsHeard v.hearing c.deref.result.now h) c.in-Taken.is c.in_ok-heard.ensures in
    line_taken v.hearing c.in-Taken.hearing v.part.items v.fed line c.deref.result.now c.clear.new.self.items c.note-2.new.self (fed_taken v.hearing.lines v.is_bad v.part.items v.fed c.self.invariant c.if-self.false) c.requires.one bytes heard few c.clear.ensures.items all

pub invariant_of-result-in-Bad : goal.invariant_of-result-in-Bad
invariant_of-result-in-Bad c =
    let v = c.self.inside in
    let line = c.args.line.now in
    let all : c.note-2.new.self ≡ v.fed ++ (line ++ 10 ∷ []) = c.note-2.ensures ∙ (ap (λ (r : List ℕ). r ++ 10 ∷ []) c.note.ensures ∙ append_assoc v.fed line (10 ∷ [])) in
    let few : length v.fed + length line + 1 < 2 ^ 63 = omega (arith, c.requires.few, ap (λ (p : Pieces). length p.text) c.self.view_is) in
    let bytes = c.deref.ensures.value ∙ c.in_ok-extend_from_slice.ensures.items in
    let heard = subst (λ (h : Heard). IsHeard v.hearing c.deref.result.now h) c.in-Bad.is c.in_ok-heard.ensures in
    line_bad v.hearing c.in-Bad.hearing v.part.items v.fed line c.deref.result.now c.note-2.new.self (fed_taken v.hearing.lines v.is_bad v.part.items v.fed c.self.invariant c.if-self.false) c.requires.one bytes heard few all
