-- The lines of all links and needs, one after the other.
use Rattle.std.proofs.Common.{◌≡◌, ℕ, zero, suc, ◌-◌, ◌*◌, ◌≤◌, Bool, true, false, not, cond, eqb, ◌&&◌, ◌||◌, List, [], ◌∷◌, ◌++◌, map, All, refl, sym, ap, ◌∙◌, append_assoc, arith}
use Rattle.std.specs.Fmt.{decimal}
use Rattle.std.specs.List.{AllByRecursion}
use Rattle.std.proofs.lemmas.Bool.{and_from}
use Rattle.std.proofs.lemmas.Bool.Decides.{nat_tests}
use Rattle.std.proofs.lemmas.List.{append-nil, map-append}
use Rattle.std.proofs.lemmas.List.Elements.{All-append, All-cons, All-map, All-nil, recursion_from_All}
use Rattle.std.proofs.lemmas.List.Folds.{list_any-append}
use Rattle.amounts.specs.declared.scale.Scale.{Scale}
use Rattle.amounts.specs.Amounts.{millionths}
use Rattle.amounts.specs.Laws.{unit}
use Rattle.amounts.specs.Text.{amount_text}
use Rattle.amounts.proofs.Decimals.{value_decimal}
use Rattle.amounts.proofs.Reread.{texts_are_read}
use Rattle.st_model.specs.declared.link.Link.{Link}
use Rattle.st_model.specs.declared.need.Need.{Need}
use Rattle.st_model.specs.declared.need.Need.TheVariants.{Required, Pays}
use Rattle.st_model.specs.Network.{Network, IsInstance, IsLinkBetween, is_needed, need_of, prize}
use Rattle.stp_reader.specs.Words.{keyword_of}
use Rattle.stp_reader.specs.Forms.{form_of}
use Rattle.stp_reader.specs.Place.{Graph, Place, no_roots, at_links, at_needs}
use Rattle.stp_reader.specs.Reasons.{has_prize}
use Rattle.stp_reader.specs.Unit.{amounts_of, scale_reasons}
use Rattle.instance_gen.specs.Text.{link_line, need_line_of, need_line, at_least_one, those_of, FitsFile}
use Rattle.stp_reader.proofs.WrittenWords.{is_plain, plain_amount, plain_decimal}
use Rattle.instance_gen.proofs.Said.{vertex_right, amount_right}
use Rattle.instance_gen.proofs.Scaled.{said_link, said_need, said_links, said_needs, said_graph, IsLow, low_amounts, amounts_said, scale_right}
use Rattle.instance_gen.proofs.Going.{Goes, one_line, no_line, goes_to, ◌onto◌, no_reasons, same_link}
use Rattle.instance_gen.proofs.Ranges.{item_in_range}
use Rattle.instance_gen.proofs.Restated.{asked, those_next}

-- the place after so many links or needs that are said
abbrev pub after_links : Scale → ℕ → ℕ → List Link → Place
after_links scale n m links = at_links n m (said_links scale links)

abbrev pub after_needs : Scale → Graph → ℕ → List (ℕ × Need) → Place
after_needs scale g t needs = at_needs (said_graph scale g) t (said_needs scale needs) no_roots

abbrev AreCheap : List Link → Type 0
AreCheap links = All (λ l. IsLow l.cost) links

abbrev pub AreLow : List (ℕ × Need) → Type 0
AreLow needs = All (λ e. IsLow (prize e.1)) needs

-- an amount that is written after others is read with no reason, as so many millionths
record IsSaid (scale : Scale) (before : List ℕ) (x : ℕ) : Type 0 where
  same : millionths (amount_text x scale) ≡ x * unit scale
  right : scale_reasons before (millionths (amount_text x scale)) ≡ []

amount_said : (scale : Scale) (links : List Link) (needs : List (ℕ × Need)) (x : ℕ) → AreCheap links → AreLow needs → IsLow x
    → IsSaid scale (amounts_of (said_links scale links) (said_needs scale needs)) x
amount_said scale links needs x cheap paid low =
    let said = (texts_are_read x scale (omega arith)).same in
    record {
      same = said;
      right = ap (scale_reasons (amounts_of (said_links scale links) (said_needs scale needs))) said ∙ ap (λ (before : List ℕ). scale_reasons before (x * unit scale)) (amounts_said scale links needs)
          ∙ scale_right scale (amounts_of links needs) x (low_amounts links needs cheap paid) low;
    }

-- ---- links

link_goes : (scale : Scale) (n m : ℕ) (before : List Link) (l : Link) → n ≤ 1000000 → IsLinkBetween n l → AreCheap before → IsLow l.cost
    → Goes (after_links scale n m before) (link_line l scale ∷ []) (after_links scale n m (before ++ l ∷ []))
unfolding keyword_of form_of
link_goes scale n m before l few between cheap low =
    let a = between.low in
    let b = between.ordered in
    let c = between.high in
    let first = plain_decimal l.a (omega (arith, b, c)) in
    let second = plain_decimal l.b (omega (arith, c)) in
    let third = plain_amount l.cost scale (omega arith) in
    let said = amount_said scale before [] l.cost cheap (All-nil _) low in
    one_line (after_links scale n m before) (after_links scale n m (before ++ l ∷ [])) (link_line l scale)
    (no_reasons _ _ _ _ (vertex_right n l.a a (omega (arith, b, c)) few) (vertex_right n l.b (omega (arith, a, b)) c few) (amount_right l.cost scale low) said.right)
    (ap (λ x. at_links n m (said_links scale before ++ x ∷ [])) (same_link (said_link scale l) _ _ _ (value_decimal l.a (omega (arith, b, c))) (value_decimal l.b (omega (arith, c))) said.same)
    ∙ ap (at_links n m) (sym (map-append (said_link scale) before (l ∷ []))))
    (and_from true _ refl (and_from (is_plain (decimal l.a)) _ first (and_from (is_plain (decimal l.b)) (is_plain (amount_text l.cost scale)) second third)))

pub links_go : (scale : Scale) (n m : ℕ) (before ls : List Link) → n ≤ 1000000 → AllByRecursion (IsLinkBetween n) ls → AreCheap before → AllByRecursion (λ l. IsLow l.cost) ls
    → Goes (after_links scale n m before) (map (λ l. link_line l scale) ls) (after_links scale n m (before ++ ls))
links_go scale n m before [] few ends cheap low = goes_to (no_line (after_links scale n m before)) (ap (after_links scale n m) (sym (append-nil before)))
links_go scale n m before (l ∷ ls) few ends cheap low =
    let more = All-append (λ (l : Link). IsLow l.cost) before (l ∷ []) cheap (All-cons (λ l. IsLow l.cost) l [] low.0 (All-nil _)) in
    goes_to (link_goes scale n m before l few ends.0 cheap low.0 onto links_go scale n m (before ++ l ∷ []) ls few ends.1 more low.1)
    (ap (after_links scale n m) (append_assoc before (l ∷ []) ls))

-- ---- needs

-- a prize is said of whom it was meant for
unpaid_said : (scale : Scale) (es : List (ℕ × Need)) (v : ℕ) → has_prize (said_needs scale es) v ≡ has_prize es v
unpaid_said scale [] v = refl
unpaid_said scale (e ∷ es) v = rw (needed_said e.1, unpaid_said scale es v) refl
  where
    needed_said : (d : Need) → is_needed (said_need scale d) ≡ is_needed d
    needed_said Required = refl
    needed_said (Pays p) = refl

more_said : (scale : Scale) (g : Graph) (t : ℕ) (before : List (ℕ × Need)) (v : ℕ) (d : Need)
    → at_needs (said_graph scale g) t (said_needs scale before ++ (v, said_need scale d) ∷ []) no_roots ≡ after_needs scale g t (before ++ (v, d) ∷ [])
more_said scale g t before v d = ap (λ es. at_needs (said_graph scale g) t es no_roots) (sym (map-append {B = ℕ × Need} (λ e. (e.0, said_need scale e.1)) before ((v, d) ∷ [])))

need_goes : (scale : Scale) (g : Graph) (t : ℕ) (before : List (ℕ × Need)) (v : ℕ) (d : Need) → g.n ≤ 1000000 → AreCheap g.links → AreLow before → 1 ≤ v → v ≤ g.n → IsLow (prize d)
    → has_prize before v ≡ false → Goes (after_needs scale g t before) (need_line_of v d scale ∷ []) (after_needs scale g t (before ++ (v, d) ∷ []))
unfolding keyword_of form_of
need_goes scale g t before v Required few cheap paid low high prize_low fresh =
    one_line (after_needs scale g t before) (after_needs scale g t (before ++ (v, Required) ∷ [])) (need_line_of v Required scale)
    (vertex_right g.n v low high few)
    (ap (λ w. at_needs (said_graph scale g) t (said_needs scale before ++ (w, Required) ∷ []) no_roots) (value_decimal v (omega arith)) ∙ more_said scale g t before v Required)
    (plain_decimal v (omega arith))
need_goes scale g t before v (Pays p) few cheap paid low high prize_low fresh =
    let unpaid = ap (has_prize (said_needs scale before)) (value_decimal v (omega arith)) ∙ unpaid_said scale before v ∙ fresh in
    let said = amount_said scale g.links before p cheap paid prize_low in
    one_line (after_needs scale g t before) (after_needs scale g t (before ++ (v, Pays p) ∷ [])) (need_line_of v (Pays p) scale)
    (no_reasons _ _ _ _ (vertex_right g.n v low high few) (amount_right p scale prize_low) (rw unpaid refl) said.right)
    (ap (λ w. at_needs (said_graph scale g) t (said_needs scale before ++ (w, Pays (millionths (amount_text p scale))) ∷ []) no_roots) (value_decimal v (omega arith))
    ∙ ap (λ q. at_needs (said_graph scale g) t (said_needs scale before ++ (v, Pays q) ∷ []) no_roots) said.same
    ∙ more_said scale g t before v (Pays p))
    (and_from (is_plain (decimal v)) (is_plain (amount_text p scale)) (plain_decimal v (omega arith)) (plain_amount p scale (omega arith)))

has_prize-append : (xs ys : List (ℕ × Need)) (v : ℕ) → has_prize xs v ≡ false → has_prize ys v ≡ false → has_prize (xs ++ ys) v ≡ false
has_prize-append xs ys v p q = list_any-append (λ (e : ℕ × Need). not (is_needed e.1) && (eqb e.0 v)) xs ys ∙ ap (λ b. b || has_prize ys v) p ∙ q

-- no prize of v is among those, if each of them is another's or none
those_unpaid : (I : Network) (test : Need → Bool) (k v : ℕ) → ((w : ℕ) → w ≤ k → has_prize (asked I test w) v ≡ false) → has_prize (those_of I test k) v ≡ false
those_unpaid I test zero v each = refl
those_unpaid I test (suc k) v each = ap (λ es. has_prize es v) (those_next I test k)
    ∙ has_prize-append (those_of I test k) (asked I test (suc k)) v (those_unpaid I test k v (λ w low. each w (omega arith))) (each (suc k) (omega arith))

other_unpaid : (I : Network) (test : Need → Bool) (w v : ℕ) → eqb w v ≡ false → has_prize (asked I test w) v ≡ false
other_unpaid I test w v other = by_case (test (need_of I w))
  where
    none : (b : Bool) → (b && eqb w v) || false ≡ false
    none true = rw other refl
    none false = refl

    by_case : (b : Bool) → has_prize (cond b ((w, need_of I w) ∷ []) []) v ≡ false
    by_case true = none (not (is_needed (need_of I w)))
    by_case false = refl

-- a vertex that is required has no prize
needed_unpaid : (I : Network) (w v : ℕ) → has_prize (asked I is_needed w) v ≡ false
needed_unpaid I w v = by_case (need_of I w)
  where
    by_case : (d : Need) → has_prize (cond (is_needed d) ((w, d) ∷ []) []) v ≡ false
    by_case Required = refl
    by_case (Pays p) = refl

pub required_unpaid : (I : Network) (k v : ℕ) → has_prize (those_of I is_needed k) v ≡ false
required_unpaid I k v = those_unpaid I is_needed k v (λ w low. needed_unpaid I w v)

-- no need of an instance that fits has a high prize, and none past its vertices
low_prize : (I : Network) (scale : Scale) (v : ℕ) → FitsFile I scale → IsLow (prize (need_of I v))
low_prize I scale v fits = item_in_range (λ need. IsLow (prize need)) I.needs (v - 1) Required (recursion_from_All (λ need. IsLow (prize need)) I.needs fits.low_prizes) (omega arith)

pub those_low : (I : Network) (scale : Scale) (test : Need → Bool) (k : ℕ) → FitsFile I scale → AreLow (those_of I test k)
those_low I scale test k fits = All-map (λ e. IsLow (prize e.1)) (λ v. (v, need_of I v)) _ (λ j d within. low_prize I scale _ fits)

abbrev pub graph_of : Network → Graph
graph_of I = record { n = I.n; links = I.links }

pub those_go : (I : Network) (scale : Scale) (t : ℕ) (before : List (ℕ × Need)) (test : Need → Bool) (k : ℕ) → IsInstance I → FitsFile I scale → AreLow before → ((v : ℕ) → has_prize before v ≡ false) → k ≤ I.n
    → Goes (after_needs scale (graph_of I) t before) (map (λ e. need_line e scale) (those_of I test k)) (after_needs scale (graph_of I) t (before ++ those_of I test k))
those_go I scale t before test zero i fits low unpaid few = goes_to (no_line (after_needs scale (graph_of I) t before)) (ap (after_needs scale (graph_of I) t) (sym (append-nil before)))
those_go I scale t before test (suc k) i fits low unpaid few = whole (those_go I scale t before test k i fits low unpaid (omega arith)) (by_case (test (need_of I (suc k))))
  where
    fresh : has_prize (before ++ those_of I test k) (suc k) ≡ false
    fresh = has_prize-append before (those_of I test k) (suc k) (unpaid (suc k)) (those_unpaid I test k (suc k) (λ w low. other_unpaid I test w (suc k) (grind (arith, nat_tests))))

    paid : AreLow (before ++ those_of I test k)
    paid = All-append (λ (e : ℕ × Need). IsLow (prize e.1)) before (those_of I test k) low (those_low I scale test k fits)

    by_case : (b : Bool)
        → Goes (after_needs scale (graph_of I) t (before ++ those_of I test k)) (map (λ e. need_line e scale) (cond b ((suc k, need_of I (suc k)) ∷ []) []))
        (after_needs scale (graph_of I) t ((before ++ those_of I test k) ++ cond b ((suc k, need_of I (suc k)) ∷ []) []))
    by_case true = need_goes scale (graph_of I) t (before ++ those_of I test k) (suc k) (need_of I (suc k)) i.few_vertices fits.low_costs paid (omega arith) few (low_prize I scale (suc k) fits) fresh
    by_case false = goes_to (no_line (after_needs scale (graph_of I) t (before ++ those_of I test k)))
        (ap (after_needs scale (graph_of I) t) (sym (append-nil (before ++ those_of I test k))))

    whole : Goes (after_needs scale (graph_of I) t before) (map (λ e. need_line e scale) (those_of I test k)) (after_needs scale (graph_of I) t (before ++ those_of I test k))
        → Goes (after_needs scale (graph_of I) t (before ++ those_of I test k)) (map (λ e. need_line e scale) (asked I test (suc k)))
        (after_needs scale (graph_of I) t ((before ++ those_of I test k) ++ asked I test (suc k)))
        → Goes (after_needs scale (graph_of I) t before) (map (λ e. need_line e scale) (those_of I test (suc k))) (after_needs scale (graph_of I) t (before ++ those_of I test (suc k)))
    whole first second =
        let both = goes_to (first onto second) (ap (after_needs scale (graph_of I) t) (append_assoc before (those_of I test k) (asked I test (suc k)))) in
        let lines : map (λ e. need_line e scale) (those_of I test (suc k)) ≡ map (λ e. need_line e scale) (those_of I test k) ++ map (λ e. need_line e scale) (asked I test (suc k)) = ap (map (λ e. need_line e scale))
        (those_next I test k) ∙ map-append (λ e. need_line e scale) (those_of I test k) (asked I test (suc k)) in
        rw (lines, those_next I test k) both

-- where there is nothing to say, the first vertex has no prize
pub some_need_goes : (scale : Scale) (g : Graph) (t : ℕ) (es : List (ℕ × Need)) → 1 ≤ g.n → g.n ≤ 1000000 → AreCheap g.links → Goes (after_needs scale g t []) (map (λ e. need_line e scale) es) (after_needs scale g t es)
    → Goes (after_needs scale g t []) (map (λ e. need_line e scale) (at_least_one es)) (after_needs scale g t (at_least_one es))
some_need_goes scale g t [] some few cheap goes = need_goes scale g t [] 1 (Pays 0) few cheap (All-nil _) (omega arith) some (omega arith) refl
some_need_goes scale g t (e ∷ es) some few cheap goes = goes
