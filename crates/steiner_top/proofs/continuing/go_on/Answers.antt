use Rattle.std.proofs.Common.{◌^◌, ◌<◌, List, sym, subst, arith}
use Rattle.log_format.specs.Accepts.{left_over}
use Rattle.search_core.specs.declared.gathered.Searched.{Searched}
use Rattle.log_resume.specs.Closes.{closes_of}
use Rattle.resuming.specs.Resumed.{expanded_by}
use Rattle.resuming.proofs.Falling.{within_budget}
use Rattle.steiner_top.proofs.continuing.go_on.Goals as goal

pub expanded_by-expanded-requires : goal.expanded_by-expanded-requires
expanded_by-expanded-requires g c =
    let h = c.in_ok-resumed.ensures in
    let found = c.in_ok-resumed.resumed.searches.items in
    let few = within_budget h.left.instance (closes_of (left_over h.left) h.proof) h.start c.args.limits.budget found h.last h.searched in
    subst (λ (Es : List Searched). expanded_by Es < 2 ^ 64) (sym c.deref.ensures.value) (omega (arith, few))
