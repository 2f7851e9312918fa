-- As often as there is one, where what is left from the ones before decides what each may be.
use Rattle.std.proofs.Common.{◌≡◌, ◌⊎◌, inl, inr, ⊎_elim, if◌then◌else◌, ℕ, zero, suc, ◌+◌, ◌<◌, ◌≤◌, List, [], ◌∷◌, ◌++◌, length, true, false, Ok, Err, refl, sym, ap, ◌∙◌, subst, arith, append-nil, length-append}
use Rattle.jz_lex.proofs.LexingWords.{by_cases, true_false}
use Rattle.jz_lex.specs.declared.token.Token.{Token}
use Rattle.jz_grammar.specs.Causes.{Cause}
use Rattle.jz_grammar.specs.Kinds.{Kind, disjoint, is_in, has}
use Rattle.jz_grammar.specs.Readers.{Answer, Reader, ◌>>=◌, through, depend, many_by_at, many_by}
use Rattle.jz_grammar.specs.Grammar.{Marked, Lang, plain, empty, ◌⊕◌, ◌⇒◌, then_by}
use Rattle.jz_grammar.proofs.Laws.{First, outcome, Found, Stopped, IsReader, HasPhrase, empty_shape, both, either, full, many_shape}
use Rattle.jz_grammar.proofs.Basics.{all_in, in_more, has_fewer, has_append, has_join, cancel, plain_length}
use Rattle.jz_grammar.proofs.Combine.{each_by, has_nil, no_kind, nothing_reads, map_reads, pick_reads, reshape, same_reads, reads_as, not_empty, shorter}
use Rattle.jz_grammar.proofs.Depend.{depend_reads}

abbrev pub at_most_by : {S A : Type 0} → ℕ → (S → Lang A) → (S → A → S) → S → Lang (List A)
at_most_by zero l after s = empty []
at_most_by (suc n) l after s = (then_by (l s) (λ a. at_most_by n l after (after s a)) ⇒ (λ p. p.0 ∷ p.1)) ⊕ empty []

some_at_most_by : {S A : Type 0} (n : ℕ) (l : S → ℕ → Lang A) (after : S → A → S) (s : S) → HasPhrase (λ e. at_most_by n (λ s. l s e) after s)
some_at_most_by zero l after s e h = ([], [], (refl, refl))
some_at_most_by (suc n) l after s e h = ([], [], inr (refl, refl))

-- what one of them is: read, or none where nothing begins one
abbrev pub IsItem : {A : Type 0} → List Kind → List Kind → Reader A → (ℕ → Lang A) → Type 0
IsItem {A} ks go f l = IsReader f l (full ks go) ⊎ ((ks ≡ []) × ((e : ℕ) (xs : List Marked) (a : A) → l e xs a → ⊥))

module _ {S A : Type 0} {f : S → Reader A} {l : S → ℕ → Lang A} (ks : S → List Kind) (st go : List Kind) (after : S → A → S) (F : (s : S) → IsItem (ks s) go (f s) (l s)) (within : (s : S) → all_in (ks s) st ≡ true) (apart : disjoint st go ≡ true) where
  none_at : (ls : List Kind) (n : ℕ) (s : S) (ts : List Token) → ls ≡ [] → ◌≡◌ {A = Answer (List A)} (Ok ([], ts)) (if has ls ts then through (λ p. p.0 ∷ p.1) (depend (f s) (λ a. many_by_at n ks f after (after s a)) ts) else Ok ([], ts))
  none_at ls n s ts e = subst (λ z. ◌≡◌ {A = Answer (List A)} (Ok ([], ts)) (if has z ts then through (λ p. p.0 ∷ p.1) (depend (f s) (λ a. many_by_at n ks f after (after s a)) ts) else Ok ([], ts))) (sym e) (rw (has_nil ts) refl)

  starts_none : (xs : List Marked) → First empty_shape xs → First (many_shape st go) xs
  starts_none [] h = refl
  starts_none (x ∷ xs) h = no_kind x.0 _ h

  pub at_most_by_reads : (n : ℕ) (s : S) → IsReader (many_by_at n ks f after s) (λ e. at_most_by n (λ s. l s e) after s) (many_shape st go)
  at_most_by_reads zero s = reshape (many_shape st go) (nothing_reads []) starts_none (λ ts h. has_nil ts)
  at_most_by_reads (suc n) s = ⊎_elim
      (λ G. reshape (many_shape st go)
      (pick_reads (map_reads (λ p. p.0 ∷ p.1) (depend_reads G (λ a. at_most_by_reads n (after s a)) (λ a. some_at_most_by n l after (after s a)) apart)) (nothing_reads []) refl refl)
      starts goes)
      (λ G. same_reads (λ e. at_most_by (suc n) (λ s. l s e) after s)
      (reads_as (many_by_at (suc n) ks f after s) (reshape (many_shape st go) (nothing_reads []) starts_none (λ ts h. has_nil ts)) (λ ts. none_at (ks s) n s ts G.0))
      (λ e xs a h. inr h)
      (λ e xs a h. ⊎_elim (λ i. absurd (G.1 e i.1.0 i.0.0 i.1.2)) (λ i. i) h))
      (F s)
    where
      starts : (xs : List Marked) → First (either (both (full (ks s) go) (many_shape st go)) empty_shape) xs → First (many_shape st go) xs
      starts [] h = refl
      starts (x ∷ xs) h = in_more (ks s) st x.0 (within s) (subst (λ z. is_in z x.0 ≡ true) (append-nil (ks s)) h)

      goes : (ts : List Token) → has (many_shape st go).goes ts ≡ false → has (either (both (full (ks s) go) (many_shape st go)) empty_shape).goes ts ≡ false
      goes ts h = let p = has_append st go ts h in has_join (go ++ (st ++ go)) ([] ++ ks s) ts (has_join go (st ++ go) ts p.1 h) (has_fewer (ks s) st ts (within s) p.0)

  each_at_most_by : (e n : ℕ) (s : S) (xs : List Marked) (vs : List A) → length vs ≤ n → each_by (λ s. l s e) after s xs vs → at_most_by n (λ s. l s e) after s xs vs
  each_at_most_by e zero s xs [] h i = (i, refl)
  each_at_most_by e zero s xs (v ∷ vs) h i = absurd (omega (arith, h))
  each_at_most_by e (suc n) s xs [] h i = inr (i, refl)
  each_at_most_by e (suc n) s xs (v ∷ vs) h i = inl ((v, vs), (i.0, i.1, i.2, each_at_most_by e n (after s v) i.1 vs (omega (arith, h)) i.3, i.4), refl)

  at_most_by_each : (e n : ℕ) (s : S) (xs : List Marked) (vs : List A) → at_most_by n (λ s. l s e) after s xs vs → each_by (λ s. l s e) after s xs vs
  at_most_by_each e zero s xs vs h = subst (λ z. each_by (λ s. l s e) after s xs z) h.1 h.0
  at_most_by_each e (suc n) s xs vs h = ⊎_elim
      (λ i. subst (λ z. each_by (λ s. l s e) after s xs z) i.2 (i.1.0, i.1.1, i.1.2, at_most_by_each e n (after s i.0.0) i.1.1 i.0.1 i.1.3, i.1.4))
      (λ i. subst (λ z. each_by (λ s. l s e) after s xs z) i.1 i.0)
      h

  item_length : (e : ℕ) (s : S) (xs : List Marked) (a : A) → l s e xs a → 0 < length xs
  item_length e s xs a h = ⊎_elim (λ G. not_empty (ks s) go xs (G.first e xs a h)) (λ G. absurd (G.1 e xs a h)) (F s)

  each_by_length : (e : ℕ) (s : S) (xs : List Marked) (vs : List A) → each_by (λ s. l s e) after s xs vs → length vs ≤ length xs
  each_by_length e s xs [] h = omega arith
  each_by_length e s xs (v ∷ vs) h =
      let i = each_by_length e (after s v) h.1 vs h.3 in
      let j = item_length e s h.0 v h.2 in
      omega (arith, ap length h.4, length-append h.0 h.1, i, j)

  depend_same : {B : Type 0} (g : Reader A) (m n : A → Reader B) (ts : List Token) → ((a : A) (rest : List Token) → g ts ≡ Ok (a, rest) → m a rest ≡ n a rest) → depend g m ts ≡ depend g n ts
  depend_same {B} g m n ts same = step (g ts) refl
    where
      step : (r : Answer A) → g ts ≡ r → ◌≡◌ {A = Answer (A × B)} (r >>= λ x. m x.0 x.1 >>= λ y. Ok ((x.0, y.0), y.1)) (r >>= λ x. n x.0 x.1 >>= λ y. Ok ((x.0, y.0), y.1))
      step (Ok x) e = ap (λ z. z >>= λ y. Ok ((x.0, y.0), y.1)) (same x.0 x.1 e)
      step (Err e) i = refl

  -- what is read of an item is shorter
  pub item_shorter : (s : S) (ts rest : List Token) (a : A) → has (ks s) ts ≡ true → f s ts ≡ Ok (a, rest) → length rest < length ts
  item_shorter s ts rest a c h = ⊎_elim (λ G. shorter (ks s) go G ts rest a h) (λ G. true_false (has [] ts) _ (subst (λ z. has z ts ≡ true) G.0 c) (has_nil ts)) (F s)

  many_by_same : (n m : ℕ) (s : S) (ts : List Token) → length ts ≤ n → length ts ≤ m → many_by_at n ks f after s ts ≡ many_by_at m ks f after s ts
  many_by_same zero zero s ts h i = refl
  many_by_same zero (suc m) s [] h i = refl
  many_by_same (suc n) zero s [] h i = refl
  many_by_same zero (suc m) s (t ∷ ts) h i = absurd (omega (arith, h))
  many_by_same (suc n) zero s (t ∷ ts) h i = absurd (omega (arith, i))
  many_by_same (suc n) (suc m) s ts h i = by_cases _ (has (ks s) ts)
      (λ c. rw c (ap (through (λ p. p.0 ∷ p.1)) (depend_same (f s) (λ a. many_by_at n ks f after (after s a)) (λ a. many_by_at m ks f after (after s a)) ts
      (λ a rest e. let q = item_shorter s ts rest a c e in many_by_same n m (after s a) rest (omega arith) (omega arith)))))
      (λ c. rw c refl)

  pub many_by_reads : (s : S) → IsReader (many_by ks f after s) (λ e. each_by (λ s. l s e) after s) (many_shape st go)
  unfolding many_by
  many_by_reads s = record { first = first; again = again; found = found; stop = stop }
    where
      R : (n : ℕ) → IsReader (many_by_at n ks f after s) (λ e. at_most_by n (λ s. l s e) after s) (many_shape st go)
      R n = at_most_by_reads n s

      first : (e : ℕ) (xs : List Marked) (vs : List A) → each_by (λ s. l s e) after s xs vs → First (many_shape st go) xs
      first e xs vs h = (R (length vs)).first e xs vs (each_at_most_by e (length vs) s xs vs (omega arith) h)

      again : (e : ℕ) (xs : List Marked) (vs : List A) (rest : List Token) → each_by (λ s. l s e) after s xs vs → has (many_shape st go).goes rest ≡ false → many_by ks f after s (plain xs ++ rest) ≡ outcome e xs vs rest
      again e xs vs rest h free =
          let i = each_by_length e s xs vs h in
          let j : length vs ≤ length (plain xs ++ rest) = omega (arith, i, plain_length xs, length-append (plain xs) rest) in
          (R (length (plain xs ++ rest))).again e xs vs rest (each_at_most_by e (length (plain xs ++ rest)) s xs vs j h) free

      more : (ts us : List Token) → many_by ks f after s ts ≡ many_by_at (length ts + length us) ks f after s ts
      more ts us = many_by_same (length ts) (length ts + length us) s ts (omega arith) (omega arith)

      less : (ts us : List Token) → many_by_at (length ts + length us) ks f after s us ≡ many_by ks f after s us
      less ts us = many_by_same (length ts + length us) (length us) s us (omega arith) (omega arith)

      found : (ts rest : List Token) (vs : List A) → many_by ks f after s ts ≡ Ok (vs, rest) → Found (many_by ks f after s) (λ e. each_by (λ s. l s e) after s) ts vs rest
      found ts rest vs h =
          let q = (R (length ts)).found ts rest vs h in
          record {
            pre = q.pre;
            splits = q.splits;
            stays = λ other n.
                let p = (R (length ts + length (q.pre ++ other))).found ts rest vs (sym (more ts (q.pre ++ other)) ∙ h) in
                let same : p.pre ≡ q.pre = cancel p.pre q.pre rest (sym p.splits ∙ q.splits) in
                sym (less ts (q.pre ++ other)) ∙ subst (λ z. many_by_at (length ts + length (q.pre ++ other)) ks f after s (z ++ other) ≡ Ok (vs, other)) same (p.stays other n);
            whole = λ e. let w = q.whole e in (w.0, at_most_by_each e (length ts) s w.0 vs w.1, w.2, w.3);
          }

      stop : (ts rest : List Token) (k : Cause) → many_by ks f after s ts ≡ Err (k, rest) → Stopped (many_by ks f after s) (λ e. each_by (λ s. l s e) after s) ts k rest
      stop ts rest k h =
          let q = (R (length ts)).stop ts rest k h in
          record {
            pre = q.pre;
            splits = q.splits;
            stays = λ other n.
                let p = (R (length ts + length (q.pre ++ other))).stop ts rest k (sym (more ts (q.pre ++ other)) ∙ h) in
                let same : p.pre ≡ q.pre = cancel p.pre q.pre rest (sym p.splits ∙ q.splits) in
                sym (less ts (q.pre ++ other)) ∙ subst (λ z. many_by_at (length ts + length (q.pre ++ other)) ks f after s (z ++ other) ≡ Err (k, other)) same (p.stays other n);
            begins = λ e i. let b = q.begins e i in (b.0, b.1, b.2, at_most_by_each e (length ts) s (b.0 ++ b.1) b.2 b.3, b.4, b.5, b.6);
          }

  -- one after another
  pub many_by_next : (s : S) (ts us : List Token) (a : A) → has (ks s) ts ≡ true → f s ts ≡ Ok (a, us) → many_by ks f after s ts ≡ through (λ vs. a ∷ vs) (many_by ks f after (after s a) us)
  unfolding many_by
  many_by_next s [] us a c h = cc
  many_by_next s (t ∷ ts) us a c h = rw c
      (ap (λ z. through {A = A × List A} (λ p. p.0 ∷ p.1) (z >>= λ x. many_by_at (length ts) ks f after (after s x.0) x.1 >>= λ y. Ok ((x.0, y.0), y.1))) h
      ∙ ap (λ z. through {A = A × List A} (λ p. p.0 ∷ p.1) (z >>= λ y. Ok ((a, y.0), y.1))) (let q = item_shorter s (t ∷ ts) us a c h in many_by_same (length ts) (length us) (after s a) us (omega arith) (omega arith))
      ∙ last (many_by_at (length us) ks f after (after s a) us))
    where
      last : (r : Answer (List A)) → through {A = A × List A} (λ p. p.0 ∷ p.1) (r >>= λ y. Ok ((a, y.0), y.1)) ≡ through (λ vs. a ∷ vs) r
      last (Ok y) = refl
      last (Err e) = refl

  pub many_by_wrong : (s : S) (ts us : List Token) (k : Cause) → has (ks s) ts ≡ true → f s ts ≡ Err (k, us) → many_by ks f after s ts ≡ Err (k, us)
  unfolding many_by
  many_by_wrong s [] us k c h = cc
  many_by_wrong s (t ∷ ts) us k c h = rw c (ap (λ z. through {A = A × List A} (λ p. p.0 ∷ p.1) (z >>= λ x. many_by_at (length ts) ks f after (after s x.0) x.1 >>= λ y. Ok ((x.0, y.0), y.1))) h)

pub many_by_done : {S A : Type 0} (ks : S → List Kind) (f : S → Reader A) (after : S → A → S) (s : S) (ts : List Token) → has (ks s) ts ≡ false → many_by ks f after s ts ≡ Ok ([], ts)
unfolding many_by
many_by_done ks f after s [] h = refl
many_by_done ks f after s (t ∷ ts) h = rw h refl
