-- An end of a queue: which queue it is, what the end knows, and how often it found nothing.
use Rattle.std.specs.Prelude.{ℕ, ◌+◌, List, length, drop}
use Rattle.std.specs.declared.alloc.Global.{Global}
use Rattle.atomic_blocks.specs.Lent.{RowsId}
use Rattle.branching.specs.declared.node.Node.{Node}
use Rattle.node_pool.specs.declared.rule.Hand.{Hand}

-- what tells one queue from another
abbrev pub QueueId : Type 0
QueueId = RowsId × Global

pub record End : Type 0 where
  pub queue : RowsId × Global
  pub hand : Hand
  -- how often the queue answered this end that it held nothing
  pub looks : ℕ

abbrev pub end : RowsId × Global → Hand → ℕ → End
end queue hand looks = record { queue = queue; hand = hand; looks = looks }

abbrev pub queue_of : End → RowsId × Global
queue_of e = e.queue

-- what the end put
abbrev pub put_by : End → List Node
put_by e = e.hand.put

-- all but so many nodes of what the end put as it took
abbrev pub rest_of : End → List Node
rest_of e = drop (length e.hand.taken) e.hand.put

-- the end after the queue answered it once more that it held nothing
abbrev pub look : End → End
look e = end e.queue e.hand (e.looks + 1)
