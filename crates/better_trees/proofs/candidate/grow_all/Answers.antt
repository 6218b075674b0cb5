use Rattle.std.proofs.Common.{◌≡◌, ◌++◌, drop, length, rules, subst, sym, take, ◌∙◌}
use Rattle.std.specs.Prelude.{All}
use Rattle.better_trees.specs.Grown.{IsGrown}
use Rattle.better_trees.proofs.Written.{written}
use Rattle.better_trees.proofs.candidate.grow_all.Goals as goal

pub returns : goal.returns
returns g c =
    let all = c.args.candidates in
    let after = c.grow_each.new.candidates in
    let long : length after ≡ length c.as_mut_slice.result.now = search rules in
    let whole : take all.len (after ++ drop (length after) all.items) ≡ after = written after (drop (length after) all.items) all.len (sym (long ∙ c.as_mut_slice.ensures.len)) in
    subst (All (IsGrown c.args.place.now)) (sym whole) c.grow_each.ensures
