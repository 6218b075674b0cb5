-- A list that takes in the vertices of another.
use Rattle.std.proofs.Common.{◌≡◌, ℕ, ◌+◌, ◌<◌, Bool, true, false, List, [], ◌∷◌, ◌++◌, length, take, get_or, ◌⊎◌, inl, inr, refl, sym, ap, subst, ◌∙◌, append_assoc}
use Rattle.std.specs.Prelude.{◌==◌, if◌then◌else◌, IsTrue}
use Rattle.std.proofs.lemmas.Bool.{false≢true, eqb-true, eq-eqb, or_cases, or_left, or_right}
use Rattle.std.proofs.lemmas.List.{append-nil}
use Rattle.std.proofs.lemmas.List.Elements.{All-nil, All-push, All-weaker, recursion_from_All}
use Rattle.st_model.specs.Lists.{has}
use Rattle.st_model.specs.VertexSet.{Extends}
use Rattle.st_model.proofs.Booleans.{same_test}
use Rattle.st_model.proofs.Marked.{has-push, has_more, at_member}

-- nothing more
pub Extends-none : (old : List ℕ) → Extends old old []
Extends-none old = record {
  more = [];
  appended = sym (append-nil old);
  only = All-nil (λ v. IsTrue (has [] v));
  covers = λ v h. absurd (false≢true h);
}

-- of a list that was empty the members are those vertices
pub Extends-all : (new vertices : List ℕ) → Extends [] new vertices → (v : ℕ) → has new v ≡ has vertices v
Extends-all new vertices h v = same_test (has new v) (has vertices v) (λ held. at_member (λ w. IsTrue (has vertices w)) h.more v (recursion_from_All _ h.more h.only) (subst (λ (xs : List ℕ). IsTrue (has xs v)) h.appended held)) (h.covers v)

-- one vertex more, unless it is there
module _ (old now new xs : List ℕ) (i : ℕ) (below : i < length xs) (h : Extends old now (take i xs)) where
  -- what was among the vertices still is
  kept : (w : ℕ) → IsTrue (has (take i xs) w) → IsTrue (has (take (i + 1) xs) w)
  kept w e = rw (has_more xs i w below) (or_left _ _ e)

  -- the new one is among them
  last : IsTrue (has (take (i + 1) xs) (get_or xs i 0))
  last = rw (has_more xs i (get_or xs i 0) below) (or_right (has (take i xs) (get_or xs i 0)) _ (eq-eqb (get_or xs i 0) (get_or xs i 0) refl))

  -- a vertex among them was before, or is the new one
  either : (w : ℕ) → IsTrue (has (take (i + 1) xs) w) → IsTrue (has (take i xs) w) ⊎ (get_or xs i 0 ≡ w)
  either w e =
      elim (or_cases (has (take i xs) w) (get_or xs i 0 == w) (rw (has_more xs i w below) at e)) [
        | inl before ↦ inl before
        | inr same ↦ inr (eqb-true (get_or xs i 0) w same)
      ]

  by_test : (b : Bool) → has now (get_or xs i 0) ≡ b → new ≡ (if b then now else now ++ get_or xs i 0 ∷ []) → Extends old new (take (i + 1) xs)
  by_test true held e = record {
    more = h.more;
    appended = e ∙ h.appended;
    only = All-weaker _ (λ w. IsTrue (has (take (i + 1) xs) w)) kept h.more h.only;
    covers = λ w c. rw e (elim (either w c) [ inl before ↦ h.covers w before | inr same ↦ rw same at held ]);
  }
  by_test false absent e = record {
    more = h.more ++ get_or xs i 0 ∷ [];
    appended = e ∙ ap (λ list. list ++ get_or xs i 0 ∷ []) h.appended ∙ append_assoc old h.more (get_or xs i 0 ∷ []);
    only = All-push (λ w. IsTrue (has (take (i + 1) xs) w)) h.more (get_or xs i 0) (All-weaker _ (λ w. IsTrue (has (take (i + 1) xs) w)) kept h.more h.only) last;
    covers = λ w c. rw (e, has-push now (get_or xs i 0) w) (elim (either w c) [ inl before ↦ or_left (has now w) _ (h.covers w before) | inr same ↦ or_right (has now w) _ (eq-eqb (get_or xs i 0) w same) ]);
  }

  pub Extends-insert : new ≡ (if has now (get_or xs i 0) then now else now ++ get_or xs i 0 ∷ []) → Extends old new (take (i + 1) xs)
  Extends-insert is = by_test (has now (get_or xs i 0)) refl is
