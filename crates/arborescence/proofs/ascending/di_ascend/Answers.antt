use Rattle.std.proofs.Common.{◌≡◌, ◌+◌, Some, arith}
use Rattle.arborescence.proofs.Ascended.{extended, unextended, raised_weight, raised_full}
use Rattle.arborescence.proofs.DiWeights.{weighs_cuts}
use Rattle.arborescence.proofs.ascending.di_ascend.Goals as goal

pub returns-then-weight-from : goal.returns-then-weight-from
returns-then-weight-from c =
    let D = c.args.instance.now in
    let whole = weighs_cuts D c.args.branch.now (record { root = Some D.root; cuts = c.args.packing.cuts }) c.requires.no_must in
    let sum = rw c.as_slice.ensures at c.values-weight.ensures.sum in
    rw (c.rooted-packing.ensures, c.root.ensures.root) (unextended D c.args.branch.now c.args.packing c.root.ensures.instance c.requires.fits, omega (arith, c.if-weight-from.true, c.from.ensures))

pub returns-then-is_full : goal.returns-then-is_full
returns-then-is_full c =
    let D = c.args.instance.now in
    let B = c.args.branch.now in
    let P = c.args.packing in
    let s = c.in_ok-raising.raising in
    let t = c.reach_certain.new.raising in
    let raised = c.in_ok-reach_certain.ensures.raised in
    let sum = rw c.as_slice.ensures at c.values-weight.ensures.sum in
    let room : c.values-weight.result + s.room ≡ c.args.target = omega (arith, c.in_ok-raising.ensures.room, c.if-weight-from.false, c.from.ensures) in
    let weight = raised_weight D B P s t c.values-weight.result c.args.target c.requires.no_must c.in_ok-raising.ensures.cuts sum room raised in
    rw (c.into_packing-packing.ensures, c.root-2.ensures.root) (extended D B P s t c.in_ok-raising.ensures.cuts raised, omega (arith, c.if-is_full.true), raised_full D B t c.if-is_full.true c.in_ok-reach_certain.ensures.reached)

pub returns-else-is_full : goal.returns-else-is_full
returns-else-is_full c =
    let D = c.args.instance.now in
    let B = c.args.branch.now in
    let P = c.args.packing in
    let s = c.in_ok-raising.raising in
    let t = c.reach_certain.new.raising in
    let raised = c.in_ok-reach_certain.ensures.raised in
    let sum = rw c.as_slice.ensures at c.values-weight.ensures.sum in
    let room : c.values-weight.result + s.room ≡ c.args.target = omega (arith, c.in_ok-raising.ensures.room, c.if-weight-from.false, c.from.ensures) in
    let weight = raised_weight D B P s t c.values-weight.result c.args.target c.requires.no_must c.in_ok-raising.ensures.cuts sum room raised in
    rw (c.into_packing-packing.ensures, c.root-2.ensures.root) (extended D B P s t c.in_ok-raising.ensures.cuts raised, omega (arith, c.if-is_full.false))
