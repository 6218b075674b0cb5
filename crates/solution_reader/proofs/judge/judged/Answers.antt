use Rattle.std.proofs.Common.{◌≡◌, true, false, length, refl, sym, ap, ◌∙◌, arith}
use Rattle.solution_reader.specs.declared.verify_fault.VerifyFault.TheVariants.{OutOfRange, NoLink, Repeated, NotConnected, Cycle, Missing, CostDiffers}
use Rattle.solution_reader.specs.Stated.{repeats}
use Rattle.solution_reader.specs.Fitting.{has_stranger, lacks_link, differs_from}
use Rattle.solution_reader.proofs.Testing.{IsClean, told, stranger_found, lack_found, other_cost, its_cost, fitting, first_of, clean_2, clean_3, clean_4, clean_5, clean_6, clean_7, clean_8}
use Rattle.solution_reader.proofs.judge.judged.Goals as goal

pub returns-then-has_stranger-clause-fault : goal.returns-then-has_stranger-clause-fault
returns-then-has_stranger-clause-fault c =
    let clean : IsClean c.args.instance.now c.args.scale c.args.claimed.now 2 = clean_2 c.args.instance.now c.args.scale c.args.claimed.now c.in-Some.start (rw c.vertices-vertices.ensures.all at c.in-Some.ensures) in
    let strange : has_stranger c.args.instance.now.n c.args.claimed.now.vertices ≡ true =
    told has_stranger c.args.instance.now.n _ c.args.claimed.now.vertices _ c.has_stranger.result _ c.has_stranger.ensures c.vertices-last.ensures.count c.vertices-vertices.ensures.all c.if-has_stranger.true in
    first_of c.args.instance.now c.args.scale c.args.claimed.now OutOfRange clean (stranger_found c.args.instance.now.n c.args.claimed.now.vertices strange)

pub returns-then-lacks_link-clause-fault : goal.returns-then-lacks_link-clause-fault
returns-then-lacks_link-clause-fault c =
    let clean : IsClean c.args.instance.now c.args.scale c.args.claimed.now 2 = clean_2 c.args.instance.now c.args.scale c.args.claimed.now c.in-Some.start (rw c.vertices-vertices.ensures.all at c.in-Some.ensures) in
    let strange : has_stranger c.args.instance.now.n c.args.claimed.now.vertices ≡ false =
    told has_stranger c.args.instance.now.n _ c.args.claimed.now.vertices _ c.has_stranger.result _ c.has_stranger.ensures c.vertices-last.ensures.count c.vertices-vertices.ensures.all c.if-has_stranger.false in
    let clean3 = clean_3 c.args.instance.now c.args.scale c.args.claimed.now clean strange in
    let lacking : lacks_link c.args.instance.now c.args.claimed.now.edges ≡ true = told lacks_link c.args.instance.now _ c.args.claimed.now.edges _ c.lacks_link.result _ c.lacks_link.ensures refl c.edges-edges.ensures.all c.if-lacks_link.true in
    first_of c.args.instance.now c.args.scale c.args.claimed.now NoLink clean3 (lack_found c.args.instance.now c.args.claimed.now.edges lacking)

pub returns-then-repeated-clause-fault : goal.returns-then-repeated-clause-fault
returns-then-repeated-clause-fault c =
    let clean : IsClean c.args.instance.now c.args.scale c.args.claimed.now 2 = clean_2 c.args.instance.now c.args.scale c.args.claimed.now c.in-Some.start (rw c.vertices-vertices.ensures.all at c.in-Some.ensures) in
    let strange : has_stranger c.args.instance.now.n c.args.claimed.now.vertices ≡ false =
    told has_stranger c.args.instance.now.n _ c.args.claimed.now.vertices _ c.has_stranger.result _ c.has_stranger.ensures c.vertices-last.ensures.count c.vertices-vertices.ensures.all c.if-has_stranger.false in
    let clean3 = clean_3 c.args.instance.now c.args.scale c.args.claimed.now clean strange in
    let lacking : lacks_link c.args.instance.now c.args.claimed.now.edges ≡ false = told lacks_link c.args.instance.now _ c.args.claimed.now.edges _ c.lacks_link.result _ c.lacks_link.ensures refl c.edges-edges.ensures.all c.if-lacks_link.false in
    let clean4 = clean_4 c.args.instance.now c.args.scale c.args.claimed.now clean3 lacking in
    let twice : repeats c.args.claimed.now.edges ≡ true = ap repeats (sym c.edges-edges.ensures.all) ∙ (sym c.in_ok-repeated.ensures ∙ c.if-repeated.true) in
    first_of c.args.instance.now c.args.scale c.args.claimed.now Repeated clean4 twice

pub returns-then-not-joined-clause-fault : goal.returns-then-not-joined-clause-fault
returns-then-not-joined-clause-fault c =
    let clean : IsClean c.args.instance.now c.args.scale c.args.claimed.now 2 = clean_2 c.args.instance.now c.args.scale c.args.claimed.now c.in-Some.start (rw c.vertices-vertices.ensures.all at c.in-Some.ensures) in
    let strange : has_stranger c.args.instance.now.n c.args.claimed.now.vertices ≡ false =
    told has_stranger c.args.instance.now.n _ c.args.claimed.now.vertices _ c.has_stranger.result _ c.has_stranger.ensures c.vertices-last.ensures.count c.vertices-vertices.ensures.all c.if-has_stranger.false in
    let clean3 = clean_3 c.args.instance.now c.args.scale c.args.claimed.now clean strange in
    let lacking : lacks_link c.args.instance.now c.args.claimed.now.edges ≡ false = told lacks_link c.args.instance.now _ c.args.claimed.now.edges _ c.lacks_link.result _ c.lacks_link.ensures refl c.edges-edges.ensures.all c.if-lacks_link.false in
    let clean4 = clean_4 c.args.instance.now c.args.scale c.args.claimed.now clean3 lacking in
    let twice : repeats c.args.claimed.now.edges ≡ false = ap repeats (sym c.edges-edges.ensures.all) ∙ (sym c.in_ok-repeated.ensures ∙ c.if-repeated.false) in
    let clean5 = clean_5 c.args.instance.now c.args.scale c.args.claimed.now clean4 twice in
    first_of c.args.instance.now c.args.scale c.args.claimed.now NotConnected clean5 (c.in_ok-joined.ensures.no c.if-not-joined.true)

pub returns-then-edges-vertices-clause-fault : goal.returns-then-edges-vertices-clause-fault
returns-then-edges-vertices-clause-fault c =
    let clean : IsClean c.args.instance.now c.args.scale c.args.claimed.now 2 = clean_2 c.args.instance.now c.args.scale c.args.claimed.now c.in-Some.start (rw c.vertices-vertices.ensures.all at c.in-Some.ensures) in
    let strange : has_stranger c.args.instance.now.n c.args.claimed.now.vertices ≡ false =
    told has_stranger c.args.instance.now.n _ c.args.claimed.now.vertices _ c.has_stranger.result _ c.has_stranger.ensures c.vertices-last.ensures.count c.vertices-vertices.ensures.all c.if-has_stranger.false in
    let clean3 = clean_3 c.args.instance.now c.args.scale c.args.claimed.now clean strange in
    let lacking : lacks_link c.args.instance.now c.args.claimed.now.edges ≡ false = told lacks_link c.args.instance.now _ c.args.claimed.now.edges _ c.lacks_link.result _ c.lacks_link.ensures refl c.edges-edges.ensures.all c.if-lacks_link.false in
    let clean4 = clean_4 c.args.instance.now c.args.scale c.args.claimed.now clean3 lacking in
    let twice : repeats c.args.claimed.now.edges ≡ false = ap repeats (sym c.edges-edges.ensures.all) ∙ (sym c.in_ok-repeated.ensures ∙ c.if-repeated.false) in
    let clean5 = clean_5 c.args.instance.now c.args.scale c.args.claimed.now clean4 twice in
    let clean6 = clean_6 c.args.instance.now c.args.scale c.args.claimed.now clean5 (c.in_ok-joined.ensures.yes c.if-not-joined.false) in
    first_of c.args.instance.now c.args.scale c.args.claimed.now Cycle clean6 (omega (arith, c.if-edges-vertices.true, ap length c.edges-edges.ensures.all, ap length c.vertices-vertices.ensures.all))

pub returns-then-lacking-clause-fault : goal.returns-then-lacking-clause-fault
returns-then-lacking-clause-fault c =
    let clean : IsClean c.args.instance.now c.args.scale c.args.claimed.now 2 = clean_2 c.args.instance.now c.args.scale c.args.claimed.now c.in-Some.start (rw c.vertices-vertices.ensures.all at c.in-Some.ensures) in
    let strange : has_stranger c.args.instance.now.n c.args.claimed.now.vertices ≡ false =
    told has_stranger c.args.instance.now.n _ c.args.claimed.now.vertices _ c.has_stranger.result _ c.has_stranger.ensures c.vertices-last.ensures.count c.vertices-vertices.ensures.all c.if-has_stranger.false in
    let clean3 = clean_3 c.args.instance.now c.args.scale c.args.claimed.now clean strange in
    let lacking : lacks_link c.args.instance.now c.args.claimed.now.edges ≡ false = told lacks_link c.args.instance.now _ c.args.claimed.now.edges _ c.lacks_link.result _ c.lacks_link.ensures refl c.edges-edges.ensures.all c.if-lacks_link.false in
    let clean4 = clean_4 c.args.instance.now c.args.scale c.args.claimed.now clean3 lacking in
    let twice : repeats c.args.claimed.now.edges ≡ false = ap repeats (sym c.edges-edges.ensures.all) ∙ (sym c.in_ok-repeated.ensures ∙ c.if-repeated.false) in
    let clean5 = clean_5 c.args.instance.now c.args.scale c.args.claimed.now clean4 twice in
    let clean6 = clean_6 c.args.instance.now c.args.scale c.args.claimed.now clean5 (c.in_ok-joined.ensures.yes c.if-not-joined.false) in
    let clean7 = clean_7 c.args.instance.now c.args.scale c.args.claimed.now clean6 (omega (arith, c.if-edges-vertices.false, ap length c.edges-edges.ensures.all, ap length c.vertices-vertices.ensures.all)) in
    first_of c.args.instance.now c.args.scale c.args.claimed.now Missing clean7 (c.in_ok-lacking.ensures.yes c.if-lacking.true)

pub cost_of-requires-clause-fitting : goal.cost_of-requires-clause-fitting
cost_of-requires-clause-fitting c =
    let clean : IsClean c.args.instance.now c.args.scale c.args.claimed.now 2 = clean_2 c.args.instance.now c.args.scale c.args.claimed.now c.in-Some.start (rw c.vertices-vertices.ensures.all at c.in-Some.ensures) in
    let strange : has_stranger c.args.instance.now.n c.args.claimed.now.vertices ≡ false =
    told has_stranger c.args.instance.now.n _ c.args.claimed.now.vertices _ c.has_stranger.result _ c.has_stranger.ensures c.vertices-last.ensures.count c.vertices-vertices.ensures.all c.if-has_stranger.false in
    let clean3 = clean_3 c.args.instance.now c.args.scale c.args.claimed.now clean strange in
    let lacking : lacks_link c.args.instance.now c.args.claimed.now.edges ≡ false = told lacks_link c.args.instance.now _ c.args.claimed.now.edges _ c.lacks_link.result _ c.lacks_link.ensures refl c.edges-edges.ensures.all c.if-lacks_link.false in
    let clean4 = clean_4 c.args.instance.now c.args.scale c.args.claimed.now clean3 lacking in
    let twice : repeats c.args.claimed.now.edges ≡ false = ap repeats (sym c.edges-edges.ensures.all) ∙ (sym c.in_ok-repeated.ensures ∙ c.if-repeated.false) in
    let clean5 = clean_5 c.args.instance.now c.args.scale c.args.claimed.now clean4 twice in
    let clean6 = clean_6 c.args.instance.now c.args.scale c.args.claimed.now clean5 (c.in_ok-joined.ensures.yes c.if-not-joined.false) in
    let clean7 = clean_7 c.args.instance.now c.args.scale c.args.claimed.now clean6 (omega (arith, c.if-edges-vertices.false, ap length c.edges-edges.ensures.all, ap length c.vertices-vertices.ensures.all)) in
    let clean8 = clean_8 c.args.instance.now c.args.scale c.args.claimed.now clean7 (c.in_ok-lacking.ensures.no c.if-lacking.false) in
    fitting c.args.instance.now c.args.scale c.args.claimed.now clean8

pub returns-then-differs_from-clause-fault : goal.returns-then-differs_from-clause-fault
returns-then-differs_from-clause-fault c =
    let clean : IsClean c.args.instance.now c.args.scale c.args.claimed.now 2 = clean_2 c.args.instance.now c.args.scale c.args.claimed.now c.in-Some.start (rw c.vertices-vertices.ensures.all at c.in-Some.ensures) in
    let strange : has_stranger c.args.instance.now.n c.args.claimed.now.vertices ≡ false =
    told has_stranger c.args.instance.now.n _ c.args.claimed.now.vertices _ c.has_stranger.result _ c.has_stranger.ensures c.vertices-last.ensures.count c.vertices-vertices.ensures.all c.if-has_stranger.false in
    let clean3 = clean_3 c.args.instance.now c.args.scale c.args.claimed.now clean strange in
    let lacking : lacks_link c.args.instance.now c.args.claimed.now.edges ≡ false = told lacks_link c.args.instance.now _ c.args.claimed.now.edges _ c.lacks_link.result _ c.lacks_link.ensures refl c.edges-edges.ensures.all c.if-lacks_link.false in
    let clean4 = clean_4 c.args.instance.now c.args.scale c.args.claimed.now clean3 lacking in
    let twice : repeats c.args.claimed.now.edges ≡ false = ap repeats (sym c.edges-edges.ensures.all) ∙ (sym c.in_ok-repeated.ensures ∙ c.if-repeated.false) in
    let clean5 = clean_5 c.args.instance.now c.args.scale c.args.claimed.now clean4 twice in
    let clean6 = clean_6 c.args.instance.now c.args.scale c.args.claimed.now clean5 (c.in_ok-joined.ensures.yes c.if-not-joined.false) in
    let clean7 = clean_7 c.args.instance.now c.args.scale c.args.claimed.now clean6 (omega (arith, c.if-edges-vertices.false, ap length c.edges-edges.ensures.all, ap length c.vertices-vertices.ensures.all)) in
    let clean8 = clean_8 c.args.instance.now c.args.scale c.args.claimed.now clean7 (c.in_ok-lacking.ensures.no c.if-lacking.false) in
    first_of c.args.instance.now c.args.scale c.args.claimed.now CostDiffers clean8 (other_cost c.args.instance.now c.args.scale c.args.claimed.now c.in_ok-cost.cost c.in_ok-cost.ensures (ap (differs_from c.args.scale c.in_ok-cost.cost) (sym c.primal.ensures) ∙ (sym c.differs_from.ensures ∙ c.if-differs_from.true)))

pub returns-clause-tree : goal.returns-clause-tree
returns-clause-tree c =
    its_cost c.args.instance.now c.args.scale c.args.claimed.now c.in_ok-cost.cost c.in_ok-cost.ensures (ap (differs_from c.args.scale c.in_ok-cost.cost) (sym c.primal.ensures) ∙ (sym c.differs_from.ensures ∙ c.if-differs_from.false))
