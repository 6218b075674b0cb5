use Rattle.std.proofs.Common.{rules}
use Rattle.std.proofs.lemmas.List.Sorted.{All-permutation, IsNonDecreasingBy-from_sort, answers_always}
use Rattle.st_model.specs.declared.link.Link.{Link}
use Rattle.level_packing.proofs.Linked.{kept_links, kept_present, to_come_permutation}
use Rattle.level_packing.specs.Forest.{IsPresentLink}
use Rattle.level_packing.proofs.present.present_links.Goals as goal

pub returns-clause-links : goal.returns-clause-links
returns-clause-links c =
    let kept = kept_present c.args.instance.now c.args.branch.now c.links.ensures.instance in
    All-permutation (IsPresentLink c.args.instance.now c.args.branch.now) _ _ c.in_ok-sort_by_key.ensures.permutation (rw (c.in_ok-links.ensures, c.links.ensures.all) kept)

pub returns-clause-ascending : goal.returns-clause-ascending
returns-clause-ascending c = IsNonDecreasingBy-from_sort (λ (l : Link). l.cost) _ (c.in_ok-sort_by_key.ensures.sorted (λ (l : Link). l.cost) (answers_always _ _ _ (λ f a r g h. search rules)))

pub returns-clause-complete : goal.returns-clause-complete
returns-clause-complete c u v pu pv =
    let kept = kept_links c.args.branch.now c.args.instance.now.links u v pu.present pv.present in
    to_come_permutation _ _ u v _ c.in_ok-sort_by_key.ensures.permutation (rw (c.in_ok-links.ensures, c.links.ensures.all) kept)
