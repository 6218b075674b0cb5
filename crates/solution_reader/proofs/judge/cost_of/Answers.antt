use Rattle.solution_reader.proofs.MadeTree.{are_links, connected, is_vertex, is_claimed_tree, start_there}
use Rattle.solution_reader.proofs.judge.cost_of.Goals as goal

pub thin-requires-clause-start : goal.thin-requires-clause-start
thin-requires-clause-start c = is_vertex c.args.instance.now c.args.claimed.now c.args.start c.requires.fitting.in_range c.requires.start

pub thin-requires-clause-links : goal.thin-requires-clause-links
thin-requires-clause-links c = rw c.edges.ensures.all (are_links c.args.instance.now c.args.claimed.now c.requires.fitting)

pub thin-requires-clause-connected : goal.thin-requires-clause-connected
thin-requires-clause-connected c = rw c.edges.ensures.all (connected c.args.instance.now c.args.claimed.now c.args.start c.edges.ensures.claim c.requires.fitting c.requires.start)

pub returns : goal.returns
returns c =
    let tree = c.in_ok-tree.tree in
    record {
      tree = tree;
      claimed = is_claimed_tree c.args.instance.now c.args.claimed.now c.args.start tree c.edges.ensures.claim c.requires.fitting c.requires.start c.in_ok-tree.ensures.start c.in_ok-tree.ensures.arborescence
          (rw c.edges.ensures.all at c.in_ok-tree.ensures.made) (rw c.edges.ensures.all at c.in_ok-tree.ensures.reached) (start_there tree);
      is = c.tree_cost.ensures;
    }
