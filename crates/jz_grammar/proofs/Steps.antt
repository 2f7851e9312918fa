-- Lists that are read item by item: what is left of one, behind what is out already.
use Rattle.std.proofs.Common.{◌≡◌, ℕ, zero, suc, ◌-◌, List, [], ◌∷◌, ◌++◌, true, false, Ok, Err, refl, sym, ap, ◌∙◌, arith, append-nil, append_assoc}
use Rattle.jz_lex.specs.declared.token.Token.{Token}
use Rattle.jz_grammar.specs.Causes.{Cause}
use Rattle.jz_grammar.specs.Kinds.{Kind, disjoint, has}
use Rattle.jz_grammar.specs.Readers.{Answer, Reader, ◌>>=◌, through, follow, many, many_at, more_of, few_of}
use Rattle.jz_grammar.specs.Grammar.{Lang, ◌▸◌, ◌⇒◌, each}
use Rattle.jz_grammar.proofs.Laws.{IsReader, full, both, many_shape}
use Rattle.jz_grammar.proofs.Combine.{at_most, many_next, many_done, many_reads, at_most_reads, some_at_most, follow_reads, map_reads, reads_as}

module _ {A : Type 0} {f : Reader A} {l : ℕ → Lang A} (ks go : List Kind) (F : IsReader f l (full ks go)) where
  pub more_done : (out : List A) (ts : List Token) → has ks ts ≡ false → more_of ks f out ts ≡ Ok (out, ts)
  more_done out ts h = ap (through (λ ps. out ++ ps)) (many_done f ks ts h) ∙ ap (λ z. Ok (z, ts)) (append-nil out)

  pub more_next : (out : List A) (a : A) (ts us : List Token) → has ks ts ≡ true → f ts ≡ Ok (a, us) → more_of ks f out ts ≡ more_of ks f (out ++ a ∷ []) us
  more_next out a ts us h e =
      ap (through (λ ps. out ++ ps)) (many_next ks go F ts h)
      ∙ ap (λ z. through {A = List A} (λ ps. out ++ ps) (through {A = A × List A} (λ w. w.0 ∷ w.1) (z >>= λ x. many ks f x.1 >>= λ y. Ok ((x.0, y.0), y.1)))) e
      ∙ last (many ks f us)
    where
      last : (w : Answer (List A)) → through {A = List A} (λ ps. out ++ ps) (through {A = A × List A} (λ w. w.0 ∷ w.1) (w >>= λ y. Ok ((a, y.0), y.1))) ≡ through (λ ps. (out ++ a ∷ []) ++ ps) w
      last (Ok y) = ap (λ z. Ok (z, y.1)) (sym (append_assoc out (a ∷ []) y.0))
      last (Err e) = refl

  pub more_wrong : (out : List A) (ts us : List Token) (k : Cause) → has ks ts ≡ true → f ts ≡ Err (k, us) → more_of ks f out ts ≡ Err (k, us)
  more_wrong out ts us k h e =
      ap (through (λ ps. out ++ ps)) (many_next ks go F ts h)
      ∙ ap (λ z. through {A = List A} (λ ps. out ++ ps) (through {A = A × List A} (λ w. w.0 ∷ w.1) (z >>= λ x. many ks f x.1 >>= λ y. Ok ((x.0, y.0), y.1)))) e

-- at most n of them
module _ {A : Type 0} (f : Reader A) (ks : List Kind) where
  pub few_done : (n : ℕ) (out : List A) (ts : List Token) → has ks ts ≡ false → few_of n ks f out ts ≡ Ok (out, ts)
  few_done zero out ts h = ap (λ z. Ok (z, ts)) (append-nil out)
  few_done (suc n) out ts h = rw h (ap (λ z. Ok (z, ts)) (append-nil out))

  pub few_full : (n : ℕ) (out : List A) (ts : List Token) → n ≡ 0 → few_of n ks f out ts ≡ Ok (out, ts)
  few_full zero out ts h = ap (λ z. Ok (z, ts)) (append-nil out)
  few_full (suc n) out ts h = absurd (omega (arith, h))

  pub few_next : (n : ℕ) (out : List A) (a : A) (ts us : List Token) → (n ≡ 0 → ⊥) → has ks ts ≡ true → f ts ≡ Ok (a, us) → few_of n ks f out ts ≡ few_of (n - 1) ks f (out ++ a ∷ []) us
  few_next zero out a ts us n h e = absurd (n refl)
  few_next (suc n) out a ts us m h e = rw h
      (ap (λ z. through {A = List A} (λ ps. out ++ ps) (through {A = A × List A} (λ w. w.0 ∷ w.1) (z >>= λ x. many_at n ks f x.1 >>= λ y. Ok ((x.0, y.0), y.1)))) e
      ∙ last (many_at n ks f us)
      ∙ ap (λ z. through (λ ps. (out ++ a ∷ []) ++ ps) (many_at z ks f us)) less)
    where
      less : n ≡ suc n - 1
      less = omega arith

      last : (w : Answer (List A)) → through {A = List A} (λ ps. out ++ ps) (through {A = A × List A} (λ w. w.0 ∷ w.1) (w >>= λ y. Ok ((a, y.0), y.1))) ≡ through (λ ps. (out ++ a ∷ []) ++ ps) w
      last (Ok y) = ap (λ z. Ok (z, y.1)) (sym (append_assoc out (a ∷ []) y.0))
      last (Err e) = refl

  pub few_wrong : (n : ℕ) (out : List A) (ts us : List Token) (k : Cause) → (n ≡ 0 → ⊥) → has ks ts ≡ true → f ts ≡ Err (k, us) → few_of n ks f out ts ≡ Err (k, us)
  few_wrong zero out ts us k n h e = absurd (n refl)
  few_wrong (suc n) out ts us k m h e = rw h (ap (λ z. through {A = List A} (λ ps. out ++ ps) (through {A = A × List A} (λ w. w.0 ∷ w.1) (z >>= λ x. many_at n ks f x.1 >>= λ y. Ok ((x.0, y.0), y.1)))) e)

-- ---- whole lists
-- one and any number more, or one and at most n more
abbrev pub listed_items : {A : Type 0} → List Kind → Reader A → Reader A → Reader (List A)
listed_items ks first f ts = first ts >>= λ x. more_of ks f (x.0 ∷ []) x.1

abbrev pub listed_few : {A : Type 0} → ℕ → List Kind → Reader A → Reader A → Reader (List A)
listed_few n ks first f ts = first ts >>= λ x. few_of n ks f (x.0 ∷ []) x.1

put_first : {A : Type 0} (a : A) (w : Answer (List A)) → through {A = A × List A} (λ p. p.0 ∷ p.1) (w >>= λ y. Ok ((a, y.0), y.1)) ≡ through (λ ps. (a ∷ []) ++ ps) w
put_first a (Ok y) = refl
put_first a (Err e) = refl

listed_is : {A : Type 0} (first : Reader A) (rest : Reader (List A)) (ts : List Token) → through (λ p. p.0 ∷ p.1) (follow first rest ts) ≡ (first ts >>= λ x. through (λ ps. (x.0 ∷ []) ++ ps) (rest x.1))
listed_is {A} first rest ts = step (first ts)
  where
    step : (w : Answer A) → through {A = A × List A} (λ p. p.0 ∷ p.1) (w >>= λ x. rest x.1 >>= λ y. Ok ((x.0, y.0), y.1)) ≡ (w >>= λ x. through (λ ps. (x.0 ∷ []) ++ ps) (rest x.1))
    step (Ok x) = put_first x.0 (rest x.1)
    step (Err e) = refl

pub listed_reads : {A : Type 0} {f g : Reader A} {l m : ℕ → Lang A} (st go ks go' : List Kind) → IsReader f l (full st go) → IsReader g m (full ks go') → disjoint ks go' ≡ true → disjoint ks go ≡ true → IsReader (listed_items ks f g) (λ e. (l e ▸ each (m e)) ⇒ (λ p. p.0 ∷ p.1)) (both (full st go) (many_shape ks go'))
listed_reads {f = f} {g = g} st go ks go' F G apart clear = reads_as (listed_items ks f g)
    (map_reads (λ p. p.0 ∷ p.1) (follow_reads F (many_reads ks go' G apart) (λ e h. ([], [], refl)) clear))
    (λ ts. listed_is f (many ks g) ts)

pub listed_few_reads : {A : Type 0} {f g : Reader A} {l m : ℕ → Lang A} (n : ℕ) (st go ks go' : List Kind) → IsReader f l (full st go) → IsReader g m (full ks go') → disjoint ks go' ≡ true → disjoint ks go ≡ true → IsReader (listed_few n ks f g) (λ e. (l e ▸ at_most n (m e)) ⇒ (λ p. p.0 ∷ p.1)) (both (full st go) (many_shape ks go'))
listed_few_reads {f = f} {g = g} {m = m} n st go ks go' F G apart clear = reads_as (listed_few n ks f g)
    (map_reads (λ p. p.0 ∷ p.1) (follow_reads F (at_most_reads ks go' G apart n) (some_at_most n m) clear))
    (λ ts. listed_is f (many_at n ks g) ts)
