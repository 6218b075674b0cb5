use Rattle.std.proofs.Common.{◌≡◌, ◌≤◌, length, List, ℕ, subst, arith}
use Rattle.cert_checker.specs.Path.{place_of}
use Rattle.cert_checker.proofs.Places.{without-remove, remove_past}
use Rattle.cert_checker.proofs.lists.without.Goals as goal
use Rattle.cert_checker.proofs.lists.without.Goals.{then-place-len, else-place-len}

pub returns : goal.returns
returns c = rw (without-remove c.args.list c.args.vertex) elim c.if-place-len.branch [
  | then-place-len w ↦ cc (w.remove.ensures.items, w.vertices-is)
  | else-place-len w ↦
      let vertices : c.deref.result.now ≡ c.args.list = cc in
      let past : length c.deref.result.now ≤ place_of c.deref.result.now c.args.vertex = omega (arith, c.place_of-place.ensures.value, c.deref.ensures.len) in
      cc (remove_past c.args.list (place_of c.args.list c.args.vertex) (subst (λ (xs : List ℕ). length xs ≤ place_of xs c.args.vertex) vertices past), w.vertices-is)
]
