-- What two parts do together, by what each does.
use Rattle.std.proofs.Common.{◌≡◌, ℕ, ℤ, Bool, true, false, ◌&&◌, if◌then◌else◌, List, [], ◌∷◌, refl, sym, ap, ◌∙◌, true≢false}
use Rattle.std.specs.Prelude.{⊤}
use Rattle.std.specs.Ordering.{int_eq}
use Rattle.std.specs.Str.{bytes_eq}
use Rattle.std.proofs.lemmas.Bool.{and_parts}
use Rattle.std.proofs.lemmas.Bool.Decides.{Decides-int_eq}
use Rattle.std.proofs.lemmas.Slice.Eq.{bytes_eq-Decides}
use Rattle.jz_runs.specs.Rules.{Attempt, stuck, went}
use Rattle.jz_two_runs.specs.Two.{together, alike, same_answer, same_values}

pub not_apart : {W A : Type 0} {w : W} {ns : List ℕ} {a : A} (x : Attempt W A) → x ≡ went ns a → x ≡ stuck w → ⊥
not_apart {w} {ns} {a} x p q = let e : went ns a ≡ stuck w = sym p ∙ q in absurd cc

-- ---- numbers

numbers_same : (ns : List ℕ) → bytes_eq ns ns ≡ true
numbers_same ns = (bytes_eq-Decides ns ns).1 refl

-- both leak the same, one of them is stuck, or they leak differently
pub data Compared {W A B : Type 0} (x : Attempt W A) (y : Attempt W B) : Type 0 where
  agree : {ns : List ℕ} {a : A} {b : B} → x ≡ went ns a → y ≡ went ns b → Compared x y
  first_not : {w : W} → x ≡ stuck w → Compared x y
  second_not : {w : W} → y ≡ stuck w → Compared x y
  differ : {ns ms : List ℕ} {a : A} {b : B} → x ≡ went ns a → y ≡ went ms b → (ns ≡ ms → ⊥) → Compared x y

pub compared : {W A B : Type 0} (x : Attempt W A) (y : Attempt W B) → Compared x y
compared (stuck w) y = first_not refl
compared (went ns a) (stuck w) = second_not refl
compared {W} {A} {B} (went ns a) (went ms b) = by_test (bytes_eq ns ms) refl
  where
    by_test : (z : Bool) → bytes_eq ns ms ≡ z → Compared {W = W} {A = A} {B = B} (went ns a) (went ms b)
    by_test true e = agree refl (ap (λ l. went l b) (sym ((bytes_eq-Decides ns ms).0 e)))
    by_test false e = differ refl refl (λ same. true≢false (sym ((bytes_eq-Decides ns ms).1 same) ∙ e))

pub agreed : {W A B : Type 0} {x : Attempt W A} {y : Attempt W B} {ns : List ℕ} {a : A} {b : B} → x ≡ went ns a → y ≡ went ns b → together x y ≡ went ns (a, b)
agreed {x} {y} {ns} {a} {b} p q = ap (λ u. together u y) p ∙ ap (together (went ns a)) q ∙ ap (λ z. if z then went ns (a, b) else stuck tt) (numbers_same ns)

pub first_stuck : {W A B : Type 0} {x : Attempt W A} {w : W} (y : Attempt W B) → x ≡ stuck w → together x y ≡ stuck tt
first_stuck y p = ap (λ u. together u y) p

pub second_stuck : {W A B : Type 0} (x : Attempt W A) {y : Attempt W B} {w : W} → y ≡ stuck w → together x y ≡ stuck tt
second_stuck (stuck v) q = refl
second_stuck (went ns a) q = ap (together (went ns a)) q

pub differing : {W A B : Type 0} {x : Attempt W A} {y : Attempt W B} {ns ms : List ℕ} {a : A} {b : B} → x ≡ went ns a → y ≡ went ms b → (ns ≡ ms → ⊥) → together x y ≡ stuck tt
differing {A} {B} {x} {y} {ns} {ms} {a} {b} p q n = ap (λ u. together u y) p ∙ ap (together (went ns a)) q ∙ by_test (bytes_eq ns ms) refl
  where
    by_test : (z : Bool) → bytes_eq ns ms ≡ z → ◌≡◌ {A = Attempt ⊤ (A × B)} (if z then went ns (a, b) else stuck tt) (stuck tt)
    by_test true e = absurd (n ((bytes_eq-Decides ns ms).0 e))
    by_test false e = refl

-- what both did
pub both_went : {W A B : Type 0} (x : Attempt W A) (y : Attempt W B) (ns : List ℕ) (p : A × B) → together x y ≡ went ns p → (x ≡ went ns p.0) × (y ≡ went ns p.1)
both_went {A} {B} x y ns p e = by_parts (compared x y)
  where
    by_parts : Compared x y → (x ≡ went ns p.0) × (y ≡ went ns p.1)
    by_parts (agree {ns = ms} {a} {b} q r) =
        let s : went ms (a, b) ≡ went ns p = sym (agreed q r) ∙ e in
        let n : ms ≡ ns = cc in let m : (a, b) ≡ p = cc in
        (q ∙ ap (λ l. went l a) n ∙ ap (λ (k : A × B). went ns k.0) m, r ∙ ap (λ l. went l b) n ∙ ap (λ (k : A × B). went ns k.1) m)
    by_parts (first_not q) = absurd (not_apart (together x y) e (first_stuck y q))
    by_parts (second_not q) = absurd (not_apart (together x y) e (second_stuck x q))
    by_parts (differ q r n) = absurd (not_apart (together x y) e (differing q r n))

-- ---- answers

pub answers_same : (y z : Bool) → same_answer y z ≡ true → y ≡ z
answers_same true true e = refl
answers_same true false e = absurd (true≢false (sym e))
answers_same false true e = absurd (true≢false (sym e))
answers_same false false e = refl

pub answer_itself : (z : Bool) → same_answer z z ≡ true
answer_itself true = refl
answer_itself false = refl

pub values_same : (is js : List ℤ) → same_values is js ≡ true → is ≡ js
values_same [] [] e = refl
values_same [] (j ∷ js) e = absurd (true≢false (sym e))
values_same (i ∷ is) [] e = absurd (true≢false (sym e))
values_same (i ∷ is) (j ∷ js) e = let p = and_parts (int_eq i j) (same_values is js) e in ap (λ k. k ∷ is) ((Decides-int_eq i j).0 p.0) ∙ ap (λ l. j ∷ l) (values_same is js p.1)

pub values_itself : (is : List ℤ) → same_values is is ≡ true
values_itself [] = refl
values_itself (i ∷ is) = ap (λ b. b && same_values is is) ((Decides-int_eq i i).1 refl) ∙ values_itself is

-- both did so, with this answer
pub both_alike : {W A : Type 0} (same : A → A → Bool) → ((a b : A) → same a b ≡ true → a ≡ b) → (x y : Attempt W A) (ns : List ℕ) (a : A) → alike same (together x y) ≡ went ns a → (x ≡ went ns a) × (y ≡ went ns a)
both_alike {W} {A} same sound x y ns a e = by_pair (together x y) refl
  where
    by_pair : (z : Attempt ⊤ (A × A)) → together x y ≡ z → (x ≡ went ns a) × (y ≡ went ns a)
    by_pair (stuck w) q = absurd (not_apart (alike same (together x y)) e (ap (alike same) q))
    by_pair (went ms p) q = by_test (same p.0 p.1) refl
      where
        by_test : (z : Bool) → same p.0 p.1 ≡ z → (x ≡ went ns a) × (y ≡ went ns a)
        by_test false t = absurd (not_apart (alike same (together x y)) e (ap (alike same) q ∙ ap (λ b. if b then went ms p.0 else stuck tt) t))
        by_test true t =
            let s : went ms p.0 ≡ went ns a = sym (ap (alike same) q ∙ ap (λ b. if b then went ms p.0 else stuck tt) t) ∙ e in
            let n : ms ≡ ns = cc in let m : p.0 ≡ a = cc in
            let r = both_went x y ms p q in
            (r.0 ∙ ap (λ l. went l p.0) n ∙ ap (went ns) m, r.1 ∙ ap (λ l. went l p.1) n ∙ ap (went ns) (sym (sound p.0 p.1 t) ∙ m))

pub alike_went : {W A : Type 0} (same : A → A → Bool) → ((a : A) → same a a ≡ true) → {x y : Attempt W A} {ns : List ℕ} {a : A} → x ≡ went ns a → y ≡ went ns a → alike same (together x y) ≡ went ns a
alike_went same itself {ns} {a} p q = ap (alike same) (agreed p q) ∙ ap (λ b. if b then went ns a else stuck tt) (itself a)

-- one of them is stuck, or they leak differently or answer differently
pub data Parted {W A : Type 0} (x y : Attempt W A) : Type 0 where
  one_stuck : {w : W} → x ≡ stuck w → Parted x y
  other_stuck : {w : W} → y ≡ stuck w → Parted x y
  numbers_differ : {ns ms : List ℕ} {a b : A} → x ≡ went ns a → y ≡ went ms b → (ns ≡ ms → ⊥) → Parted x y
  answers_differ : {ns : List ℕ} {a b : A} → x ≡ went ns a → y ≡ went ns b → (a ≡ b → ⊥) → Parted x y

pub parted : {W A : Type 0} (same : A → A → Bool) → ((a : A) → same a a ≡ true) → (x y : Attempt W A) (w : ⊤) → alike same (together x y) ≡ stuck w → Parted x y
parted {W} {A} same itself x y w e = by_parts (compared x y)
  where
    by_parts : Compared x y → Parted x y
    by_parts (agree {ns} {a} {b} p q) = answers_differ p q (λ r. not_apart (alike same (together x y)) (alike_went same itself p (q ∙ ap (went ns) (sym r))) e)
    by_parts (first_not p) = one_stuck p
    by_parts (second_not q) = other_stuck q
    by_parts (differ p q n) = numbers_differ p q n

pub answers_apart : {W A : Type 0} (same : A → A → Bool) → ((a b : A) → same a b ≡ true → a ≡ b) → {x y : Attempt W A} {ns : List ℕ} {a b : A} → x ≡ went ns a → y ≡ went ns b → (a ≡ b → ⊥) → alike same (together x y) ≡ stuck tt
answers_apart {W} {A} same sound {ns} {a} {b} p q n = ap (alike same) (agreed p q) ∙ by_test (same a b) refl
  where
    by_test : (z : Bool) → same a b ≡ z → ◌≡◌ {A = Attempt ⊤ A} (if z then went ns a else stuck tt) (stuck tt)
    by_test true t = absurd (n (sound a b t))
    by_test false t = refl
