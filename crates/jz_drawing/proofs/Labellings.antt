-- Labels that agree below a number; lists of arrows and of what is asked.
use Rattle.std.proofs.Common.{◌≡◌, ◌<◌, ◌≤◌, ℕ, Bool, true, false, List, [], ◌∷◌, ◌++◌, Option, Some, None, if◌then◌else◌, refl, sym, ap, ◌∙◌, subst, arith}
use Rattle.std.specs.Prelude.{nat_lt}
use Rattle.std.proofs.lemmas.Bool.Decides.{nat_tests}
use Rattle.jz_meaning.specs.States.{Key}
use Rattle.jz_flow.specs.Alarms.{FirstOf}
use Rattle.jz_labels.specs.Labels.{Publics, first}
use Rattle.jz_required.specs.Readings.{Origin, memory, of_scalar, of_array, Demand, is_public, demand_breach, first_breach}
use Rattle.jz_secrets.specs.Graphs.{Vertex, hidden, drawn, array, Arrow, label, Keeps, IsBelow, IsEnd, AreBelow}
use Rattle.jz_drawing.specs.Drawings.{Asked, vertex_in, asks_in, labels_of, ask_breach, first_asked, AreAskedBelow}
use Rattle.jz_drawing.specs.Draws.{Agrees, from_on}

-- ---- the first of two

pub first_apart : {A : Type 0} (x y z : Option A) → first (first x y) z ≡ first x (first y z)
first_apart None y z = refl
first_apart (Some a) y z = refl

pub first_then : {W : Type 0} (x y w : Option W) (P : Type 0) → FirstOf x w (FirstOf y w P) → FirstOf (first x y) w P
first_then None y w P f = f.later refl
first_then {W} (Some a) y w P f = record { now = λ b e. f.now b e; later = λ e. absurd (some_none e) }
  where
    some_none : {A : Type 0} {v : A} → Some v ≡ None → ⊥
    some_none e = cc e

pub first_as : {W P R : Type 0} (x w : Option W) → (P → R) → FirstOf x w P → FirstOf x w R
first_as x w g f = record { now = f.now; later = λ e. g (f.later e) }

-- with nothing behind it
pub first_is : {W : Type 0} (x w : Option W) → FirstOf x w (w ≡ None) → w ≡ x
first_is None w f = f.later refl
first_is (Some a) w f = f.now a refl

pub first_same : {W : Type 0} (x y w : Option W) (P : Type 0) → x ≡ y → FirstOf x w P → FirstOf y w P
first_same {W} x y w P e f = subst (λ (z : Option W). FirstOf z w P) e f

-- ---- labels

pub label_agrees : (n : ℕ) (a : Publics) (t u : ℕ → Bool) (v : Vertex) → Agrees n t u → IsBelow n v → label a u v ≡ label a t v
label_agrees n a t u hidden g b = refl
label_agrees n a t u (drawn i) g b = g i b
label_agrees n a t u (array k) g b = refl

end_below : (n : ℕ) (v : Vertex) → IsEnd n v → IsBelow n v
end_below n hidden e = absurd e
end_below n (drawn i) e = e.1
end_below n (array k) e = tt

pub keeps_agreed : (n : ℕ) (a : Publics) (t u : ℕ → Bool) (xs : List Arrow) → Agrees n t u → AreBelow n xs → Keeps a t xs → Keeps a u xs
keeps_agreed n a t u [] g b k = tt
keeps_agreed n a t u (x ∷ xs) g b k = (
  λ e. label_agrees n a t u x.from g b.0.0 ∙ k.0 (sym (label_agrees n a t u x.to g (end_below n x.to b.0.1)) ∙ e),
  keeps_agreed n a t u xs g b.1 k.1,
)

pub keeps_both : (a : Publics) (t : ℕ → Bool) (xs ys : List Arrow) → Keeps a t xs → Keeps a t ys → Keeps a t (xs ++ ys)
keeps_both a t [] ys k l = l
keeps_both a t (x ∷ xs) ys k l = (k.0, keeps_both a t xs ys k.1 l)

pub keeps_left : (a : Publics) (t : ℕ → Bool) (xs ys : List Arrow) → Keeps a t (xs ++ ys) → Keeps a t xs
keeps_left a t [] ys k = tt
keeps_left a t (x ∷ xs) ys k = (k.0, keeps_left a t xs ys k.1)

pub keeps_right : (a : Publics) (t : ℕ → Bool) (xs ys : List Arrow) → Keeps a t (xs ++ ys) → Keeps a t ys
keeps_right a t [] ys k = k
keeps_right a t (x ∷ xs) ys k = keeps_right a t xs ys k.1

below_more : (m n : ℕ) (v : Vertex) → m ≤ n → IsBelow m v → IsBelow n v
below_more m n hidden l b = tt
below_more m n (drawn i) l b = omega (arith, l, b)
below_more m n (array k) l b = tt

end_more : (m n : ℕ) (v : Vertex) → m ≤ n → IsEnd m v → IsEnd n v
end_more m n hidden l b = absurd b
end_more m n (drawn i) l b = (b.0, omega (arith, l, b.1))
end_more m n (array k) l b = tt

pub vertex_more : (m n : ℕ) (v : Vertex) → m ≤ n → IsBelow m v → IsBelow n v
vertex_more = below_more

pub arrows_more : (m n : ℕ) (xs : List Arrow) → m ≤ n → AreBelow m xs → AreBelow n xs
arrows_more m n [] l b = tt
arrows_more m n (x ∷ xs) l b = ((below_more m n x.from l b.0.0, end_more m n x.to l b.0.1), arrows_more m n xs l b.1)

pub arrows_both : (n : ℕ) (xs ys : List Arrow) → AreBelow n xs → AreBelow n ys → AreBelow n (xs ++ ys)
arrows_both n [] ys b c = c
arrows_both n (x ∷ xs) ys b c = (b.0, arrows_both n xs ys b.1 c)

-- ---- what is asked

pub asked_more : (m n : ℕ) (xs : List Asked) → m ≤ n → AreAskedBelow m xs → AreAskedBelow n xs
asked_more m n [] l b = tt
asked_more m n (x ∷ xs) l b = (below_more m n x.at l b.0, asked_more m n xs l b.1)

pub asked_below_both : (n : ℕ) (xs ys : List Asked) → AreAskedBelow n xs → AreAskedBelow n ys → AreAskedBelow n (xs ++ ys)
asked_below_both n [] ys b c = c
asked_below_both n (x ∷ xs) ys b c = (b.0, asked_below_both n xs ys b.1 c)

pub asked_below_right : (n : ℕ) (xs ys : List Asked) → AreAskedBelow n (xs ++ ys) → AreAskedBelow n ys
asked_below_right n [] ys b = b
asked_below_right n (x ∷ xs) ys b = asked_below_right n xs ys b.1

pub asked_agrees : (n : ℕ) (a : Publics) (t u : ℕ → Bool) (xs : List Asked) → Agrees n t u → AreAskedBelow n xs → first_asked a u xs ≡ first_asked a t xs
asked_agrees n a t u [] g b = refl
asked_agrees n a t u (x ∷ xs) g b =
    ap (λ z. first (demand_breach z x.demand) (first_asked a u xs)) (label_agrees n a t u x.at g b.0) ∙ ap (first (ask_breach a t x)) (asked_agrees n a t u xs g b.1)

pub asked_both : (a : Publics) (t : ℕ → Bool) (xs ys : List Asked) → first_asked a t (xs ++ ys) ≡ first (first_asked a t xs) (first_asked a t ys)
asked_both a t [] ys = refl
asked_both a t (x ∷ xs) ys = ap (first (ask_breach a t x)) (asked_both a t xs ys) ∙ sym (first_apart (ask_breach a t x) (first_asked a t xs) (first_asked a t ys))

pub origin_label : (a : Publics) (t : ℕ → Bool) (e : Key → ℕ) (o : Origin) → label a t (vertex_in e o) ≡ is_public a (labels_of t e) o
origin_label a t e memory = refl
origin_label a t e (of_scalar k) = refl
origin_label a t e (of_array k) = refl

-- what is asked of the labels of scalars
pub asks_are : (a : Publics) (t : ℕ → Bool) (e : Key → ℕ) (ds : List Demand) → first_asked a t (asks_in e ds) ≡ first_breach a (labels_of t e) ds
asks_are a t e [] = refl
asks_are a t e (d ∷ ds) =
    ap (λ z. first (demand_breach z d) (first_asked a t (asks_in e ds))) (origin_label a t e d.origin) ∙ ap (first (demand_breach (is_public a (labels_of t e) d.origin) d)) (asks_are a t e ds)

pub origin_below : (n : ℕ) (e : Key → ℕ) → ((k : Key) → e k < n) → (o : Origin) → IsBelow n (vertex_in e o)
origin_below n e b memory = tt
origin_below n e b (of_scalar k) = b k
origin_below n e b (of_array k) = tt

pub asks_below : (n : ℕ) (e : Key → ℕ) → ((k : Key) → e k < n) → (ds : List Demand) → AreAskedBelow n (asks_in e ds)
asks_below n e b [] = tt
asks_below n e b (d ∷ ds) = (origin_below n e b d.origin, asks_below n e b ds)

-- ---- labels from a number on

pub below_on : (n : ℕ) (t u : ℕ → Bool) → Agrees n t (from_on n t u)
below_on n t u i l = by (nat_lt i n) refl
  where
    by : (c : Bool) → nat_lt i n ≡ c → (if c then t i else u i) ≡ t i
    by true e = refl
    by false e = absurd (grind (arith, nat_tests, e, l))

pub behind_on : (n : ℕ) (t u : ℕ → Bool) (i : ℕ) → n ≤ i → from_on n t u i ≡ u i
behind_on n t u i l = by (nat_lt i n) refl
  where
    by : (c : Bool) → nat_lt i n ≡ c → (if c then t i else u i) ≡ u i
    by true e = absurd (grind (arith, nat_tests, e, l))
    by false e = refl

pub same_labels : (n : ℕ) (t u : ℕ → Bool) (e : Key → ℕ) → Agrees n t u → ((k : Key) → e k < n) → (k : Key) → labels_of u e k ≡ labels_of t e k
same_labels n t u e g b k = g (e k) (b k)
