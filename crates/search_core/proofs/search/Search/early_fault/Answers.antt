use Rattle.search_core.proofs.search.Search.early_fault.Goals as goal

pub returns-in-Split : goal.returns-in-Split
returns-in-Split c = rw c.in-Split.is (c.split_fault.ensures c.in-Split.packing)
