use Rattle.std.proofs.Common.{rules, ◌≡◌, Bool, ◌≤◌, ◌∷◌, [], List, length, refl, sym, ap, subst, arith}
use Rattle.std.specs.Prelude.{All}
use Rattle.std.specs.Option.{option_to_list}
use Rattle.std.proofs.lemmas.List.Elements.{All-nil}
use Rattle.branching.specs.declared.node.Node.{Node}
use Rattle.incumbent.specs.Seat.{Known as Sight}
use Rattle.open_ledger.specs.Seat.{Known as Account}
use Rattle.worker_loop.specs.Progress.{HasTurned, HasWorked, moment}
use Rattle.worker_loop.specs.Run.{IsAllowed}
use Rattle.worker_loop.proofs.Progressing.{begun, in_hand, ran_so, reseated, same_worker, seated_back}
use Rattle.worker_loop.proofs.worker.Worker.search.Goals as goal

pub loop-init : goal.loop-init
loop-init g c =
    let w = c.args.self.now in
    let new = c.requires.ready.unused in
    let k = c.begin-work in (
      tt,
      tt,
      record { seat = refl; workers = refl; links = refl; pass = (refl, refl); ledger = refl; best = ap (λ (m : Sight). m.incumbent) c.see.ensures.seen },
      ap (λ (u : Account). u.tally.refused) new.account,
      begun g.Q.Aim.instance g.Q.Aim.branch g.Q.Aim.start w.seat w.workers w.next c.see.result w.pass w.ledger w.best c.see.new.self k.result new.some new.next new.account new.sight
          c.see.ensures.at_most c.see.ensures.seen k.ensures.done k.ensures.best
          k.ensures.seen,
      subst (All (IsAllowed w.links)) (sym k.ensures.done) (All-nil (IsAllowed w.links)),
    )

pub turn-requires-clause-node : goal.turn-requires-clause-node
turn-requires-clause-node g c κs within =
    let i = c.loop.invariant in
    let w = c.args.self.now in
    let had = reseated g.Q.Aim.instance g.Q.Aim.branch g.Q.Aim.start w c.loop.self w.pass (moment c.loop.self c.loop.work) (option_to_list c.loop.hand) i.2 i.4 in
    (in_hand g.Q.Aim.instance g.Q.Aim.branch g.Q.Aim.start c.loop.self.seat c.loop.self.workers w.pass (moment c.next_node.new.self c.loop.work) c.in-Ok.node
    (c.in-Ok.ensures.next w.pass c.loop.work had)).0

pub turn-requires-clause-low : goal.turn-requires-clause-low
turn-requires-clause-low g c κs within =
    let i = c.loop.invariant in
    let w = c.args.self.now in
    let had = reseated g.Q.Aim.instance g.Q.Aim.branch g.Q.Aim.start w c.loop.self w.pass (moment c.loop.self c.loop.work) (option_to_list c.loop.hand) i.2 i.4 in
    (in_hand g.Q.Aim.instance g.Q.Aim.branch g.Q.Aim.start c.loop.self.seat c.loop.self.workers w.pass (moment c.next_node.new.self c.loop.work) c.in-Ok.node
    (c.in-Ok.ensures.next w.pass c.loop.work had)).1

pub loop-preserved : goal.loop-preserved
loop-preserved g c =
    let I = g.Q.Aim.instance in
    let R = g.Q.Aim.branch in
    let start = g.Q.Aim.start in
    let i = c.loop.invariant in
    let w = c.args.self.now in
    let taken = c.next_node.new.self in
    let m = moment c.turn.new.self c.turn.new.work in
    let had = reseated I R start w c.loop.self w.pass (moment c.loop.self c.loop.work) (option_to_list c.loop.hand) i.2 i.4 in
    let up = reseated I R start c.loop.self taken w.pass (moment taken c.loop.work) (c.in-Ok.node ∷ []) c.next_node.ensures.same (c.in-Ok.ensures.next w.pass c.loop.work had) in
    let turned = subst (HasTurned I R start taken.seat taken.workers w.pass m) c.in-Next.is (c.in_ok-half-in-Ok.ensures.turned w.pass up) in
    let same = same_worker w c.loop.self taken i.2 c.next_node.ensures.same in (
      tt,
      tt,
      same_worker w taken c.turn.new.self same c.turn.ensures.same,
      turned.1,
      seated_back I R start w taken w.pass m (option_to_list c.in-Next.half) same turned.0,
      subst (λ (l : Bool). All (IsAllowed l) c.turn.new.work.done.items) same.links (c.in_ok-half-in-Ok.ensures.sites (subst (λ (l : Bool). All (IsAllowed l) c.loop.work.done.items) (sym same.links) i.5)),
    )

pub returns-in-Left-clause-run : goal.returns-in-Left-clause-run
returns-in-Left-clause-run g c =
    let I = g.Q.Aim.instance in
    let R = g.Q.Aim.branch in
    let start = g.Q.Aim.start in
    let i = c.loop.invariant in
    let w = c.args.self.now in
    let taken = c.next_node.new.self in
    let last = c.turn.new.self in
    let m = moment last c.turn.new.work in
    let N = c.in-Left.node in
    let left = c.in_ok-vec-in-Left.field-0.items in
    let one : left ≡ N ∷ [] = search rules in
    let had = reseated I R start w c.loop.self w.pass (moment c.loop.self c.loop.work) (option_to_list c.loop.hand) i.2 i.4 in
    let up = reseated I R start c.loop.self taken w.pass (moment taken c.loop.work) (c.in-Ok.node ∷ []) c.next_node.ensures.same (c.in-Ok.ensures.next w.pass c.loop.work had) in
    let turned = subst (HasTurned I R start taken.seat taken.workers w.pass m) c.in-Left.is (c.in_ok-half-in-Ok.ensures.turned w.pass up) in
    let same = same_worker w c.loop.self taken i.2 c.next_node.ensures.same in
    let done = subst (HasWorked I R start w.seat w.workers w.pass m) (sym one) (seated_back I R start w taken w.pass m (N ∷ []) same turned.0) in
    let few : length left ≤ 1 = subst (λ (Ns : List Node). length Ns ≤ 1) (sym one) (omega arith) in
    ran_so I R start w.seat w.workers w.pass last.pass last.ledger last.best last.next c.turn.new.work left c.in-Left.end c.ended.result c.ended.ensures few turned.1 done

pub returns-in-Err-clause-run : goal.returns-in-Err-clause-run
returns-in-Err-clause-run g c =
    let I = g.Q.Aim.instance in
    let R = g.Q.Aim.branch in
    let start = g.Q.Aim.start in
    let i = c.loop.invariant in
    let w = c.args.self.now in
    let taken = c.next_node.new.self in
    let m = moment taken c.loop.work in
    let left = c.new.result.items in
    let none : left ≡ [] = search rules in
    let had = reseated I R start w c.loop.self w.pass (moment c.loop.self c.loop.work) (option_to_list c.loop.hand) i.2 i.4 in
    let up = seated_back I R start w c.loop.self w.pass m [] i.2 (c.in-Err.ensures.next.1 w.pass c.loop.work had) in
    let done = subst (HasWorked I R start w.seat w.workers w.pass m) (sym none) up in
    let few : length left ≤ 1 = subst (λ (Ns : List Node). length Ns ≤ 1) (sym none) (omega arith) in
    ran_so I R start w.seat w.workers w.pass taken.pass taken.ledger taken.best taken.next c.loop.work left c.in-Err.end c.ended-in-Err.result c.ended-in-Err.ensures few c.in-Err.ensures.next.0
    done

pub returns-in-Left-clause-sites : goal.returns-in-Left-clause-sites
returns-in-Left-clause-sites g c =
    let i = c.loop.invariant in
    let w = c.args.self.now in
    let same = same_worker w c.loop.self c.next_node.new.self i.2 c.next_node.ensures.same in
    let sites = subst (λ (l : Bool). All (IsAllowed l) c.turn.new.work.done.items) same.links (c.in_ok-half-in-Ok.ensures.sites (subst (λ (l : Bool). All (IsAllowed l) c.loop.work.done.items) (sym same.links) i.5)) in
    rw c.ended.ensures sites

pub returns-in-Err-clause-sites : goal.returns-in-Err-clause-sites
returns-in-Err-clause-sites g c = rw c.ended-in-Err.ensures c.loop.invariant.5
