-- Tokens that open something nested, and forms that begin alike.
use Rattle.std.proofs.Common.{◌≡◌, ◌-◌, Ok, Err, ℕ, zero, suc, List, [], ◌∷◌, true, false, refl, ap, ◌∙◌, arith}
use Rattle.jz_lex.specs.Span.{Span}
use Rattle.jz_lex.specs.declared.token.Token.{Token}
use Rattle.jz_grammar.specs.Causes.{Cause, Unexpected, TooDeep}
use Rattle.jz_grammar.specs.Kinds.{Kind, is_in, has, span_of}
use Rattle.jz_grammar.specs.Readers.{Answer, Reader, ◌>>=◌, through, one, leaf, follow, opening, inside, pick_both}
use Rattle.jz_grammar.specs.Grammar.{Marked, Lang, opens}
use Rattle.jz_grammar.proofs.Laws.{HasPhrase}
use Rattle.jz_grammar.proofs.Combine.{one_is, one_not}

-- ---- what opens something nested
pub opening_deep : (ks : List Kind) (d : ℕ) (ts : List Token) → d ≡ 0 → has ks ts ≡ true → opening ks d ts ≡ Err (TooDeep, ts)
unfolding opening
opening_deep ks zero [] e h = cc
opening_deep ks zero (t ∷ ts) e h = ap (λ z. ◌>>=◌ {B = Span × ℕ} z (λ x. Err (TooDeep, t ∷ ts))) (one_is ks t ts h)
opening_deep ks (suc d) ts e h = cc

pub opening_none : (ks : List Kind) (d : ℕ) (ts : List Token) → has ks ts ≡ false → opening ks d ts ≡ Err (Unexpected, ts)
unfolding opening
opening_none ks zero ts h = ap (λ z. ◌>>=◌ {B = Span × ℕ} z (λ x. Err (TooDeep, ts))) (one_not ks ts h)
opening_none ks (suc d) ts h = ap (λ z. ◌>>=◌ {B = Span × ℕ} z (λ x. Ok ((x.0.span, d), x.1))) (one_not ks ts h)

opening_by : (ks : List Kind) (d : ℕ) (ts : List Token) → (d ≡ 0 → ⊥) → opening ks d ts ≡ (leaf ks span_of ts >>= λ x. Ok ((x.0, d - 1), x.1))
unfolding opening
opening_by ks zero ts n = absurd (n refl)
opening_by ks (suc d) ts n = step (one ks ts) ∙ ap (λ m. leaf ks span_of ts >>= λ x. Ok ((x.0, m), x.1)) less
  where
    less : d ≡ suc d - 1
    less = omega arith

    step : (q : Answer Token) → ◌≡◌ {A = Answer (Span × ℕ)} (q >>= λ x. Ok ((x.0.span, d), x.1)) (through span_of q >>= λ x. Ok ((x.0, d), x.1))
    step (Ok x) = refl
    step (Err e) = refl

pub opening_ok : (ks : List Kind) (d : ℕ) (ts rest : List Token) (s : Span) → (d ≡ 0 → ⊥) → leaf ks span_of ts ≡ Ok (s, rest) → opening ks d ts ≡ Ok ((s, d - 1), rest)
opening_ok ks d ts rest s n h = opening_by ks d ts n ∙ ap (λ z. z >>= λ x. Ok ((x.0, d - 1), x.1)) h

pub opening_err : (ks : List Kind) (d : ℕ) (ts rest : List Token) (k : Cause) → (d ≡ 0 → ⊥) → leaf ks span_of ts ≡ Err (k, rest) → opening ks d ts ≡ Err (k, rest)
opening_err ks d ts rest k n h = opening_by ks d ts n ∙ ap (λ z. z >>= λ x. Ok ((x.0, d - 1), x.1)) h

-- only what may stand nested matters
pub inside_same : {A : Type 0} (ks : List Kind) (f h : ℕ → Reader A) (d : ℕ) → ((b : ℕ) → d ≡ suc b → f b ≡ h b) → inside ks f d ≡ inside ks h d
unfolding opening
inside_same {A} ks f h zero same = λ i. λ ts. step (one ks ts) ts i
  where
    step : (q : Answer Token) (ts : List Token) → ◌≡◌ {A = Answer (Span × A)} ((◌>>=◌ {B = Span × ℕ} q (λ x. Err (TooDeep, ts))) >>= λ x. f x.0.1 x.1 >>= λ y. Ok ((x.0.0, y.0), y.1)) ((◌>>=◌ {B = Span × ℕ} q (λ x. Err (TooDeep, ts))) >>= λ x. h x.0.1 x.1 >>= λ y. Ok ((x.0.0, y.0), y.1))
    step (Ok x) ts = refl
    step (Err x) ts = refl
inside_same {A} ks f h (suc d) same = λ i. λ ts. step (one ks ts) i
  where
    step : (q : Answer Token) → ◌≡◌ {A = Answer (Span × A)} ((◌>>=◌ {B = Span × ℕ} q (λ x. Ok ((x.0.span, d), x.1))) >>= λ x. f x.0.1 x.1 >>= λ y. Ok ((x.0.0, y.0), y.1)) ((◌>>=◌ {B = Span × ℕ} q (λ x. Ok ((x.0.span, d), x.1))) >>= λ x. h x.0.1 x.1 >>= λ y. Ok ((x.0.0, y.0), y.1))
    step (Ok x) = ap (λ g. g x.1 >>= λ y. Ok ((x.0.span, y.0), y.1)) (same d refl)
    step (Err x) = refl

-- a leaf seen before or after
pub leaf_first : {A B C : Type 0} (ks : List Kind) (h : Token → C) (f : Reader A) (to : C × A → B) (ts : List Token) → through {A = Token × A} (λ p. to (h p.0, p.1)) (follow (one ks) f ts) ≡ through to (follow (leaf ks h) f ts)
leaf_first {A} {B} {C} ks h f to ts = step (one ks ts)
  where
    last : (x : Token) (r : Answer A) → through {A = Token × A} {B = B} (λ p. to (h p.0, p.1)) (r >>= λ y. Ok ((x, y.0), y.1)) ≡ through {A = C × A} {B = B} to (r >>= λ y. Ok ((h x, y.0), y.1))
    last x (Ok y) = refl
    last x (Err e) = refl

    step : (r : Answer Token) → through {A = Token × A} {B = B} (λ p. to (h p.0, p.1)) (r >>= λ x. f x.1 >>= λ y. Ok ((x.0, y.0), y.1)) ≡ through {A = C × A} {B = B} to (through h r >>= λ x. f x.1 >>= λ y. Ok ((x.0, y.0), y.1))
    step (Ok x) = last x.0 (f x.1)
    step (Err e) = refl

pub pick_both_same : {A : Type 0} (ks ls : List Kind) (f h g' : Reader A) (ts : List Token) → f ts ≡ h ts → pick_both ks ls f g' ts ≡ pick_both ks ls h g' ts
pick_both_same ks ls f h g' ts e = ap (λ z. pick_both ks ls (λ _. z) g' ts) e

-- there is a phrase also where no more may be nested
abbrev pub HasPhraseAnyway : {A : Type 0} → (ℕ → Lang A) → Type 0
HasPhraseAnyway {A} l = (d : ℕ) → (xs : List Marked) × (a : A) × l d xs a

pub some_opens : {A : Type 0} (k : Kind) (x : Token) → is_in (k ∷ []) x ≡ true → (l : ℕ → Lang A) → HasPhraseAnyway l → HasPhrase (opens (k ∷ []) l)
some_opens k x i l any zero h = absurd (omega (arith, h))
some_opens k x i l any (suc d) h = let w = any d in ((x, d) ∷ w.0, (x.span, w.1), ((x, w.1), ((x, d) ∷ [], w.0, (refl, i), w.2, refl), refl))
