-- The reduction steps: when each may be taken, and what it makes of a state.
use Rattle.std.specs.Prelude.{◌≡◌, ◌≢◌, ℕ, ◌+◌, min, Bool, ◌||◌, ◌==◌, IsTrue, IsFalse, IsSome, if◌then◌else◌, List, [], ◌∷◌, Option, Some, None, unwrap_or}
use Rattle.st_model.specs.declared.need.Need.{Need}
use Rattle.st_model.specs.declared.need.Need.TheVariants.{Required, Pays}
use Rattle.st_model.specs.Lists.{has}
use Rattle.st_model.specs.Network.{Network, IsVertex, link, need_of, is_required}
use Rattle.st_model.specs.Made.{is_between}
use Rattle.lift_back.specs.declared.step.Step.{Step}
use Rattle.lift_back.specs.declared.step.Step.TheVariants.{Pendant, Through, Forced, Detour}
use Rattle.lift_back.specs.State.{State, IsState}
use Rattle.lift_back.specs.Detours.{IsDetour}

-- each link of v leads to one of these
abbrev pub LeadsOnlyTo : Network → ℕ → List ℕ → Type 0
LeadsOnlyTo I v others = (w : ℕ) → IsSome (link I.links v w) → IsTrue (has others w)

-- v isn't gone, isn't required and pays nothing
pub record IsIdle (s : State) (v : ℕ) : Type 0 where
  pub vertex : IsVertex s.instance.n v
  pub present : IsFalse (has s.gone v)
  pub need : need_of s.instance v ≡ Pays 0

-- v is idle and has at most one link, and another vertex isn't gone
pub record IsPendant (s : State) (v : ℕ) : Type 0 where
  pub idle : IsIdle s v
  pub leaf : (u : ℕ) × LeadsOnlyTo s.instance v (u ∷ [])
  pub other : (w : ℕ) × IsVertex s.instance.n w × IsFalse (has s.gone w) × (w ≢ v)

-- v is idle and has exactly two links: to a at cost x and to b at cost y
pub record IsThrough (s : State) (v a b x y : ℕ) : Type 0 where
  pub idle : IsIdle s v
  pub different : a ≢ b
  pub first : link s.instance.links v a ≡ Some x
  pub second : link s.instance.links v b ≡ Some y
  pub only : LeadsOnlyTo s.instance v (a ∷ b ∷ [])

-- v is required and has exactly one link, to u at cost c, and another vertex is required
pub record IsForced (s : State) (v u c : ℕ) : Type 0 where
  pub vertex : IsVertex s.instance.n v
  pub required : IsTrue (is_required s.instance v)
  pub linked : link s.instance.links v u ≡ Some c
  pub only : LeadsOnlyTo s.instance v (u ∷ [])
  pub other : (w : ℕ) × IsVertex s.instance.n w × IsTrue (is_required s.instance w) × (w ≢ v)

-- the state after has these links, needs, gone vertices and this offset, and as many vertices as before
pub record Becomes (before after : State) (links : ℕ → ℕ → Option ℕ) (need : ℕ → Need) (gone : ℕ → Bool) (offset : ℕ) : Type 0 where
  pub count : after.instance.n ≡ before.instance.n
  pub linked : (u w : ℕ) → link after.instance.links u w ≡ links u w
  pub needed : (w : ℕ) → IsVertex before.instance.n w → need_of after.instance w ≡ need w
  pub left_out : (w : ℕ) → has after.gone w ≡ gone w
  pub paid : after.offset ≡ offset

-- all links but those of v
abbrev pub links_without : State → ℕ → ℕ → ℕ → Option ℕ
links_without s v u w = if (u == v) || (w == v) then None else link s.instance.links u w

-- those who are gone, and v
abbrev pub gone_with : State → ℕ → ℕ → Bool
gone_with s v w = (v == w) || has s.gone w

-- the cost of the link between a and b, if there is one, or this cost where it is less
abbrev pub least : State → ℕ → ℕ → ℕ → ℕ
least s a b cost = min cost (unwrap_or (link s.instance.links a b) cost)

-- the links without v, and a-b costs no more than the two links of v together
abbrev pub links_past : State → ℕ → ℕ → ℕ → ℕ → ℕ → ℕ → Option ℕ
links_past s v a b sum u w = if is_between (a, b) u w then Some (least s a b sum) else links_without s v u w

-- all links but a-b
abbrev pub links_but : State → ℕ → ℕ → ℕ → ℕ → Option ℕ
links_but s a b u w = if is_between (a, b) u w then None else link s.instance.links u w

-- v needs nothing any more, and u has to be reached
abbrev pub needs_forced : State → ℕ → ℕ → ℕ → Need
needs_forced s v u w = if w == v then Pays 0 else if w == u then Required else need_of s.instance w

-- v goes
pub record TakesPendant (before after : State) (v : ℕ) : Type 0 where
  pub allowed : IsPendant before v
  pub becomes : Becomes before after (links_without before v) (need_of before.instance) (gone_with before v) before.offset

-- v goes, and a-b costs the less of its cost so far and the sum
pub record TakesThrough (before after : State) (v a b x y : ℕ) : Type 0 where
  pub allowed : IsThrough before v a b x y
  pub becomes : Becomes before after (links_past before v a b (x + y)) (need_of before.instance) (gone_with before v) before.offset

-- v goes, its neighbour has to be reached, and the link is paid
pub record TakesForced (before after : State) (v u c : ℕ) : Type 0 where
  pub allowed : IsForced before v u c
  pub becomes : Becomes before after (links_without before v) (needs_forced before v u) (gone_with before v) (before.offset + c)

-- the link a-b goes
pub record TakesDetour (before after : State) (a b : ℕ) (inner : List ℕ) : Type 0 where
  pub allowed : IsDetour before.instance a b inner
  pub becomes : Becomes before after (links_but before a b) (need_of before.instance) (has before.gone) before.offset

-- the step may be taken in the state before, and makes it the state after
abbrev pub Takes : Step → State → State → Type 0
Takes (Pendant v) before after = TakesPendant before after v
Takes (Through v) before after = (a : ℕ) × (b : ℕ) × (x : ℕ) × (y : ℕ) × TakesThrough before after v a b x y
Takes (Forced v) before after = (u : ℕ) × (c : ℕ) × TakesForced before after v u c
Takes (Detour a b inner) before after = TakesDetour before after a b inner

-- the steps lead one after another from the first state to the last
abbrev pub Applies : List Step → State → State → Type 0
Applies [] first last = first ≡ last
Applies (step ∷ steps) first last = (next : State) × IsState next × Takes step first next × Applies steps next last

-- whether the step may be taken at all
abbrev pub MayTake : Step → State → Type 0
MayTake (Pendant v) s = IsPendant s v
MayTake (Through v) s = (a : ℕ) × (b : ℕ) × (x : ℕ) × (y : ℕ) × IsThrough s v a b x y
MayTake (Forced v) s = (u : ℕ) × (c : ℕ) × IsForced s v u c
MayTake (Detour a b inner) s = IsDetour s.instance a b inner
