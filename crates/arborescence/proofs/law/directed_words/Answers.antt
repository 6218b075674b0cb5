use Rattle.arborescence.proofs.InWords.{trees_in_words, costs_in_words, fits_in_words, weights_in_words, full_in_words, splits_in_words, links_in_words}
use Rattle.arborescence.proofs.law.directed_words.Goals as goal

pub returns-clause-trees : goal.returns-clause-trees
returns-clause-trees c = trees_in_words

pub returns-clause-costs : goal.returns-clause-costs
returns-clause-costs c = costs_in_words

pub returns-clause-fits : goal.returns-clause-fits
returns-clause-fits c = fits_in_words

pub returns-clause-weights : goal.returns-clause-weights
returns-clause-weights c = weights_in_words

pub returns-clause-full : goal.returns-clause-full
returns-clause-full c = full_in_words

pub returns-clause-splits : goal.returns-clause-splits
returns-clause-splits c = splits_in_words

pub returns-clause-no_links : goal.returns-clause-no_links
returns-clause-no_links c = links_in_words
