-- Seats come and go.
use Rattle.std.proofs.Common.{◌≡◌, ◌≢◌, ℕ, ◌-◌, ◌<◌, ◌≤◌, List, [], ◌∷◌, ◌++◌, set, sym, refl, ap, ◌∙◌, subst, ⊎_elim, arith}
use Rattle.std.proofs.lemmas.Bool.Decides.{nat_tests}
use mathlib.Core.Option.{some-injective}
use native.Mathlib.Decide.{ℕ_discrete}
use Rattle.atomic_table.specs.Table.{State, Splits, Joins}
use Rattle.atomic_table.proofs.Lists.{at_set, set_here, set_else, at_longer, at_snoc}
use Rattle.incumbent.specs.declared.rule.Hand.{Hand}
use Rattle.incumbent.specs.Least.{least_of}
use Rattle.incumbent.specs.Rule.{hand, both, Fits, IsKept}
use Rattle.incumbent.proofs.Least.{least_append}
use Rattle.seat_views.proofs.Places.{At, in_range, only_one}
use Rattle.seat_views.proofs.Sums.{sum_set, sum_snoc}

pub begins : (start : ℕ) → IsKept start (start ∷ []) (hand 65 start [] start ∷ [])
begins start = let first = hand 65 start [] start in record {
  word = start;
  one = refl;
  least = record {
    at_start = omega arith;
    at_offers = only_one (λ u. start ≤ least_of start u.offers) first (omega arith);
    greatest = λ y low all. low;
  };
  fits = only_one (λ u. Fits start start u) first (record { start_is = λ p. refl; above = λ p. omega arith; idle = λ p. refl });
  parts = let s = Rattle.std.proofs.lemmas.List.Sums.sum_by-cons (λ (u : Hand). u.parts) first [] in s;
}

pub forks : (start id : ℕ) (v : Hand) → 1 < v.parts
    → Splits (λ (s : State (Unit {0}) Hand). IsKept start s.words s.views) id v (hand (v.parts - 1) v.start v.offers v.lowest) (hand 1 v.start [] v.start)
forks start id v many s kept here =
    let views = s.views in
    let left = hand (v.parts - 1) v.start v.offers v.lowest in
    let right = hand 1 v.start [] v.start in
    let mine = kept.fits id v here in
    let is_start : v.start ≡ start = mine.start_is (omega arith) in record {
      word = kept.word;
      one = kept.one;
      least = record {
        at_start = kept.least.at_start;
        at_offers = λ seat u e. ⊎_elim (λ (x : At (set views id left) seat u). ⊎_elim (λ (y : (seat ≡ id) × (left ≡ u)). subst (λ (k : Hand). kept.word ≤ least_of start k.offers) y.1 (kept.least.at_offers id v here))
            (λ (y : (seat ≢ id) × At views seat u). kept.least.at_offers seat u y.1) (at_set views id seat left u x))
            (λ (x : right ≡ u). subst (λ (k : Hand). kept.word ≤ least_of start k.offers) x kept.least.at_start) (at_snoc (set views id left) right u seat e);
        greatest = λ y low all. kept.least.greatest y low (λ seat u e. by_case s.views left right here refl y all seat u e (ℕ_discrete seat id));
      };
      fits = λ seat u e. ⊎_elim (λ (x : At (set views id left) seat u). ⊎_elim (λ (y : (seat ≡ id) × (left ≡ u)). subst (λ (k : Hand). Fits start kept.word k) y.1 (record { start_is = λ p. is_start; above = λ p. mine.above (omega arith); idle = λ p. absurd (omega arith) }))
          (λ (y : (seat ≢ id) × At views seat u). kept.fits seat u y.1) (at_set views id seat left u x))
          (λ (x : right ≡ u). subst (λ (k : Hand). Fits start kept.word k) x (record { start_is = λ p. is_start; above = λ p. (let low = kept.least.at_start in omega arith); idle = λ p. absurd (omega arith) })) (at_snoc (set views id left) right u seat e);
      parts = let a = sum_set (λ (u : Hand). u.parts) views id v left here in let b = sum_snoc (λ (u : Hand). u.parts) (set views id left) right in let c = kept.parts in omega arith;
    } where
      by_case : (views : List Hand) (left right : Hand) → At views id v → left.offers ≡ v.offers → (y : ℕ) → ((seat : ℕ) (u : Hand) → At (set views id left ++ right ∷ []) seat u → y ≤ least_of start u.offers)
          → (seat : ℕ) (u : Hand) → At views seat u → Dec (seat ≡ id) → y ≤ least_of start u.offers
      by_case views left right at same y all seat u e (yes is) = let p : At views id u = subst (λ k. At views k u) is e in
          let q : v ≡ u = some-injective v u (sym at ∙ p) in
          let r : least_of start left.offers ≡ least_of start u.offers = ap (least_of start) (same ∙ ap (λ (k : Hand). k.offers) q) in
          let a = all id left (at_longer (set views id left) (right ∷ []) id left (set_here views id left (in_range views id v at))) in omega arith
      by_case views left right at same y all seat u e (no other) = all seat u (at_longer (set views id left) (right ∷ []) seat u (set_else views id seat left other ∙ e))

pub merges : (start id : ℕ) (v : Hand) (other : ℕ) (w : Hand) → 0 < v.parts → 0 < w.parts
    → Joins (λ (s : State (Unit {0}) Hand). IsKept start s.words s.views) id v other w (both v w) (hand 0 0 [] 0)
merges start id v other w part part' s kept here apart there' =
    let views = s.views in
    let two = both v w in
    let spent = hand 0 0 [] 0 in
    let once = set views id two in
    let there : At views other w = sym (set_else views id other two apart) ∙ there' in
    let mine = kept.fits id v here in let theirs = kept.fits other w there in
    let joint = least_append start v.offers w.offers in
    let a = kept.least.at_offers id v here in let b = kept.least.at_offers other w there in
    record {
      word = kept.word;
      one = kept.one;
      least = record {
        at_start = kept.least.at_start;
        at_offers = λ seat u e. ⊎_elim (λ (x : (seat ≡ other) × (spent ≡ u)). subst (λ (k : Hand). kept.word ≤ least_of start k.offers) x.1 kept.least.at_start)
            (λ (x : (seat ≢ other) × At once seat u). ⊎_elim (λ (y : (seat ≡ id) × (two ≡ u)). subst (λ (k : Hand). kept.word ≤ least_of start k.offers) y.1 (grind (arith, nat_tests)))
            (λ (y : (seat ≢ id) × At views seat u). kept.least.at_offers seat u y.1) (at_set views id seat two u x.1)) (at_set once other seat spent u e);
        greatest = λ y low all.
            let mine : y ≤ least_of start two.offers = all id two (set_else once other id spent (λ e. apart (sym e)) ∙ set_here views id two (in_range views id v here)) in
            kept.least.greatest y low (λ seat u e. by_case views two spent here there y (grind (arith, nat_tests)) (grind (arith, nat_tests)) all seat u e (ℕ_discrete seat id) (ℕ_discrete seat other));
      };
      fits = λ seat u e. ⊎_elim (λ (x : (seat ≡ other) × (spent ≡ u)). subst (λ (k : Hand). Fits start kept.word k) x.1 (record { start_is = λ p. absurd (omega arith); above = λ p. absurd (omega arith); idle = λ p. refl }))
          (λ (x : (seat ≢ other) × At once seat u). ⊎_elim (λ (y : (seat ≡ id) × (two ≡ u)). subst (λ (k : Hand). Fits start kept.word k) y.1
          (record { start_is = λ p. mine.start_is part; above = λ p. (let l = mine.above part in let r = theirs.above part' in grind (arith, nat_tests)); idle = λ p. absurd (omega arith) }))
          (λ (y : (seat ≢ id) × At views seat u). kept.fits seat u y.1) (at_set views id seat two u x.1)) (at_set once other seat spent u e);
      parts = let c = sum_set (λ (u : Hand). u.parts) views id v two here in let d = sum_set (λ (u : Hand). u.parts) once other w spent there' in let k = kept.parts in omega arith;
    } where
      by_case : (views : List Hand) (two spent : Hand) → At views id v → At views other w → (y : ℕ) → y ≤ least_of start v.offers → y ≤ least_of start w.offers
          → ((seat : ℕ) (u : Hand) → At (set (set views id two) other spent) seat u → y ≤ least_of start u.offers)
          → (seat : ℕ) (u : Hand) → At views seat u → Dec (seat ≡ id) → Dec (seat ≡ other) → y ≤ least_of start u.offers
      by_case views two spent here there y l r all seat u e (yes is) d = let p : At views id u = subst (λ k. At views k u) is e in
          let q : least_of start v.offers ≡ least_of start u.offers = ap (λ (k : Hand). least_of start k.offers) (some-injective v u (sym here ∙ p)) in omega arith
      by_case views two spent here there y l r all seat u e (no n) (yes is) = let p : At views other u = subst (λ k. At views k u) is e in
          let q : least_of start w.offers ≡ least_of start u.offers = ap (λ (k : Hand). least_of start k.offers) (some-injective w u (sym there ∙ p)) in omega arith
      by_case views two spent here there y l r all seat u e (no n) (no m) = all seat u (set_else (set views id two) other seat spent m ∙ set_else views id seat two n ∙ e)
