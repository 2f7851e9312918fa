-- A table that is laid over others and taken away again.
use Rattle.std.proofs.Common.{◌≡◌, inl, inr, ◌≤◌, ℕ, List, [], ◌∷◌, ◌++◌, Option, refl, sym, ap, ◌∙◌, subst, arith}
use Rattle.jz_layers.specs.Spots.{Spot, over, seen_in, nowhere}
use Rattle.jz_layers.specs.Layered.{seen, IsOver, ClosesTo}
use Rattle.jz_layers.specs.declared.layers.Layers.{Layers}
use Rattle.jz_layers.proofs.TableLemmas.{seen_more}
use Rattle.jz_drawing.specs.Drawings.{View, next, IsBounded}
use Rattle.jz_drawn_labels.specs.declared.drawing.Drawing.{Drawing}
use Rattle.jz_drawn_labels.specs.Kept.{view_of}
use Rattle.jz_drawn_labels.specs.Drew.{IsDrawn, HasRisen}

abbrev but_last : {A : Type 0} → List A → List A
but_last [] = []
but_last (x ∷ []) = []
but_last (x ∷ y ∷ xs) = x ∷ but_last (y ∷ xs)

but_last_is : {A : Type 0} (xs : List A) (x : A) → but_last (xs ++ x ∷ []) ≡ xs
but_last_is [] x = refl
but_last_is (y ∷ []) x = refl
but_last_is (y ∷ z ∷ xs) x = ap (λ l. y ∷ l) (but_last_is (z ∷ xs) x)

abbrev last_or : {A : Type 0} → A → List A → A
last_or d [] = d
last_or d (x ∷ xs) = last_or x xs

last_is : {A : Type 0} (d : A) (xs : List A) (x : A) → last_or d (xs ++ x ∷ []) ≡ x
last_is d [] x = refl
last_is d (y ∷ xs) x = last_is y xs x

same_front : {A : Type 0} (xs ys : List A) (x y : A) → xs ++ x ∷ [] ≡ ys ++ y ∷ [] → xs ≡ ys
same_front xs ys x y e = sym (but_last_is xs x) ∙ ap but_last e ∙ but_last_is ys y

same_last : {A : Type 0} (xs ys : List A) (x y : A) → xs ++ x ∷ [] ≡ ys ++ y ∷ [] → x ≡ y
same_last xs ys x y e = sym (last_is x xs x) ∙ ap (last_or x) e ∙ last_is x ys y

not_none : {A : Type 0} (xs : List A) (x : A) → xs ++ x ∷ [] ≡ [] → ⊥
not_none [] x e = cc e
not_none (y ∷ xs) x e = cc e

-- ---- layers: before a table is laid over them, with it, and with it taken away

module _ (before with_it behind : Layers ℕ) (opened : with_it.below.items ≡ before.below.items ++ before.top ∷ []) where
  pub is_over : IsOver with_it
  is_over e = not_none before.below.items before.top (sym opened ∙ e)

  -- what stands below it
  pub below_it : seen_in with_it.below.items ≡ seen before
  below_it = ap {B = Spot → Option ℕ} (λ ms. seen_in ms) opened ∙ seen_more nowhere before.below.items before.top

  module _ (closed : ClosesTo with_it behind) where
    same_lists : behind.below.items ++ behind.top ∷ [] ≡ before.below.items ++ before.top ∷ []
    same_lists = sym closed ∙ opened

    pub below_again : behind.below.items ≡ before.below.items
    below_again = same_front behind.below.items before.below.items behind.top before.top same_lists

    pub seen_again : seen behind ≡ seen before
    seen_again =
        ap {B = Spot → Option ℕ} (λ m. over m (seen_in behind.below.items)) (same_last behind.below.items before.below.items behind.top before.top same_lists)
        ∙ ap {B = Spot → Option ℕ} (λ ms. over before.top (seen_in ms)) below_again

-- ---- drawings of the same labels

pub same_drawn : (old new : Drawing) → view_of new ≡ view_of old → new.table.floor ≡ old.table.floor → IsDrawn old → IsDrawn new
same_drawn old new e f d = record {
  low = subst (λ (v : View). new.table.floor ≤ next v) (sym e) (subst (λ (n : ℕ). n ≤ next (view_of old)) (sym f) d.low);
  bounded = subst (λ (v : View). IsBounded v) (sym e) d.bounded;
}

pub risen_from : (old new : Drawing) (floor : ℕ) → next (view_of old) ≤ next (view_of new) → new.table.floor ≡ old.table.floor → HasRisen new floor → HasRisen old floor
risen_from old new floor l f (inl e) = inl (e ∙ f)
risen_from old new floor l f (inr m) = inr (omega (arith, l, m))

-- one after another
pub risen_then : (old middle : Drawing) (floor : ℕ) → next (view_of old) ≤ next (view_of middle) → HasRisen old middle.table.floor → HasRisen middle floor → HasRisen old floor
risen_then old middle floor l (inl e) (inl f) = inl (f ∙ e)
risen_then old middle floor l (inr m) (inl f) = inr (omega (arith, m, f))
risen_then old middle floor l h (inr m) = inr (omega (arith, l, m))
