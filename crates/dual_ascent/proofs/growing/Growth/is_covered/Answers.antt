use Rattle.std.proofs.Common.{◌∙◌, sym, refl, arith}
use Rattle.dual_ascent.proofs.Reaching.{growth_covered, leads_no_more, led_to, reached_more, root_reaches}
use Rattle.dual_ascent.proofs.growing.Growth.is_covered.Goals as goal

pub returns-then-not-contains-clause-growth : goal.returns-then-not-contains-clause-growth
returns-then-not-contains-clause-growth c = growth_covered c.args.arcs.now c.args.self.now _ c.args.vertex c.grow.ensures.count c.in_ok-met.ensures.in_range refl refl (c.requires.growth.root, c.requires.growth.reached) c.requires.growth

pub returns-then-not-contains-clause-looked : goal.returns-then-not-contains-clause-looked
returns-then-not-contains-clause-looked c =
    let q = c.args.vertex in
    let old = c.args.self.now in
    let met = rw c.in-Some.is at c.in_ok-met.ensures.gathered in
    (led_to c.args.arcs.now old q c.in-Some.met c.requires.growth met.0 met.1, λ v led. leads_no_more old.known.leads.items q v (omega (arith, c.requires.vertex.1, c.requires.growth.leads_count)) led)

pub returns-clause-growth : goal.returns-clause-growth
returns-clause-growth c =
    let D = c.args.arcs.now in
    let q = c.args.vertex in
    let old = c.args.self.now in
    let met = rw c.in-Some.is at c.in_ok-met.ensures.gathered in
    let reaching = root_reaches D old q c.in-Some.met c.requires.growth (sym c.contains.ensures ∙ c.if-not-contains.false) met.1 in
    growth_covered D old _ q c.grow.ensures.count c.in_ok-met.ensures.in_range c.in_ok-insert.ensures.count refl (reached_more D old.known.reached.members c.insert.new.self.members q c.in_ok-insert.ensures.members reaching c.requires.growth.root c.requires.growth.reached) c.requires.growth

pub returns-clause-looked : goal.returns-clause-looked
returns-clause-looked c =
    let q = c.args.vertex in
    let old = c.args.self.now in
    let met = rw c.in-Some.is at c.in_ok-met.ensures.gathered in
    (led_to c.args.arcs.now old q c.in-Some.met c.requires.growth met.0 met.1, λ v led. leads_no_more old.known.leads.items q v (omega (arith, c.requires.vertex.1, c.requires.growth.leads_count)) led)
