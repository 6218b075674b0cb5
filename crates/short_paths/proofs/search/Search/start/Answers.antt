use Rattle.std.proofs.Common.{arith, ap, sym, subst, ◌∙◌, [], length, take, get_or}
use Rattle.std.proofs.lemmas.List.{take_more, take_all}
use Rattle.std.proofs.lemmas.List.Elements.{Contains-get_or, All-contains}
use Rattle.std.specs.Prelude.{All}
use Rattle.short_paths.specs.Searching.{IsOffered}
use Rattle.short_paths.specs.Marks.{bests_of}
use Rattle.short_paths.proofs.MarkLists.{length-bests_of}
use Rattle.short_paths.proofs.Relaxing.{start_step, start_offered}
use Rattle.short_paths.proofs.search.Search.start.Goals as goal

pub offer-requires : goal.offer-requires
offer-requires c =
    let long = (c.loop-source.invariant.kept [] 0).best_long in
    let same = length-bests_of c.loop-source.search.marks.items in
    let high = (c.requires c.loop-source.source-index 0 c.loop-source-test.true).1 in
    omega arith

pub loop-source-preserved : goal.loop-source-preserved
loop-source-preserved c =
    let i = c.loop-source.source-index in
    let sources = c.args.sources.now in
    let range = c.requires i 0 c.loop-source-test.true in
    let high = range.1 in
    let long = (c.loop-source.invariant.kept [] 0).best_long in
    let held = Contains-get_or sources i 0 c.loop-source-test.true in
    record {
      settled = c.in_ok-offer.ensures.ok.settled ∙ c.loop-source.invariant.settled;
      places = c.in_ok-offer.ensures.ok.places ∙ c.loop-source.invariant.places;
      kept = λ links limit. start_step links c.args.vertices limit sources (take i sources) (get_or sources i 0) c.loop-source.search c.offer.new.self (omega arith) range held c.in_ok-offer.ensures.ok (c.loop-source.invariant.kept links limit);
      started = subst (All (λ s. IsOffered (bests_of c.offer.new.self.marks.items) s 0)) (sym (take_more sources i 0 c.loop-source-test.true)) (start_offered (take i sources) (get_or sources i 0) c.args.vertices c.loop-source.search c.offer.new.self (omega arith) c.in_ok-offer.ensures.ok c.loop-source.invariant.started);
    }

pub returns-clause-going : goal.returns-clause-going
returns-clause-going c links limit =
    let all = take_all c.loop-source.source-index c.args.sources.now c.loop-source-test.false in
    let empty = ap length c.loop-source.invariant.settled in
    record {
      kept = c.loop-source.invariant.kept links limit;
      spread = record {
        started = λ s held. All-contains (λ s. IsOffered (bests_of c.loop-source.search.marks.items) s 0) c.args.sources.now s (subst (All (λ s. IsOffered (bests_of c.loop-source.search.marks.items) s 0)) all c.loop-source.invariant.started) held;
        relaxed = λ place s inside at. absurd (omega arith);
      };
    }
