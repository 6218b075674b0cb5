use Rattle.std.proofs.Common.{◌∙◌, sym}
use Rattle.std.proofs.lemmas.Bool.{false≢true}
use Rattle.search_core.proofs.Serving.{allows_by_full}
use Rattle.search_core.proofs.judging.allows_split_of.Goals as goal

pub returns : goal.returns
returns c =
    allows_by_full c.args.instance.now c.args.branch.now c.args.packing.now c.args.value c.is_full_below.result
    (c.in_ok-fits.ensures.0 c.if-not-branch.false)
    (λ none. false≢true (sym c.if-none_is_certain.false ∙ c.none_is_certain.ensures.1 none)) c.is_full_below.ensures
