-- The two laws of a reader of texts: it reads each text again, and what it reads is a text.
use Rattle.std.proofs.Common.{◌≡◌, ℕ, zero, suc, ◌+◌, ◌<◌, ◌≤◌, Bool, true, false, List, [], ◌∷◌, ◌++◌, length, drop, Option, Some, None, refl, sym, ap, ◌∙◌, subst, arith, append_assoc, append-nil, length-append, if◌then◌else◌}
use Rattle.std.specs.Prelude.{map, All}
use Rattle.std.specs.List.{concat}
use Rattle.std.proofs.lemmas.List.Elements.{All-nil, All-cons, All-head, All-tail}
use Rattle.jz_lex.specs.LexingWords.{begins}
use Rattle.jz_lex.proofs.LexingWords.{by_cases, if_true, if_false, begins_self, begins_split, drop_self}
use Rattle.jz_listing_lines.specs.InnerReaders.{Answer, Reader, ◌>>=◌, through, literal, behind, follow, pick, closed, many_at, many, more_of, one_of}

pub record Reads {A : Type 0} (read : Reader A) (text : A → List ℕ) (Fits : A → Type 0) (Stops : List ℕ → Type 0) : Type 0 where
  pub back : (a : A) (rest : List ℕ) → Fits a → Stops rest → read (text a ++ rest) ≡ Some (a, rest)
  pub only : (bs rest : List ℕ) (a : A) → read bs ≡ Some (a, rest) → (bs ≡ text a ++ rest) × Fits a

-- behind this everything may stand
abbrev pub Always : List ℕ → Type 0
Always rest = Unit {0}

-- ---- answers
abbrev some_or : {A : Type 0} → A → Option A → A
some_or d (Some x) = x
some_or d None = d

pub some_same : {A : Type 0} (x y : A) → ◌≡◌ {A = Option A} (Some x) (Some y) → x ≡ y
some_same x y e = ap (some_or x) e

pub none_some : {A : Type 0} (x : A) (P : Type 0) → ◌≡◌ {A = Option A} None (Some x) → P
none_some x P e = absurd (let no : ⊥ = cc in no)

pub bind_parts : {A B : Type 0} (o : Answer A) (k : A × List ℕ → Answer B) (y : B × List ℕ) → (o >>= k) ≡ Some y → (x : A × List ℕ) × (o ≡ Some x) × (k x ≡ Some y)
bind_parts None k y e = none_some y _ e
bind_parts (Some x) k y e = (x, refl, e)

pub through_parts : {A B : Type 0} (to : A → B) (o : Answer A) (y : B × List ℕ) → through to o ≡ Some y → (x : A × List ℕ) × (o ≡ Some x) × ((to x.0, x.1) ≡ y)
through_parts to None y e = none_some y _ e
through_parts to (Some x) y e = (x, refl, some_same (to x.0, x.1) y e)

-- ---- these bytes
pub literal_back : (w rest : List ℕ) → literal w (w ++ rest) ≡ Some (tt, rest)
unfolding literal
literal_back w rest = if_true (begins w (w ++ rest)) _ _ (begins_self w rest) ∙ ap (λ r. Some (tt, r)) (drop_self w rest)

pub literal_only : (w bs : List ℕ) (x : Unit {0} × List ℕ) → literal w bs ≡ Some x → bs ≡ w ++ x.1
unfolding literal
literal_only w bs x e = by_cases (bs ≡ w ++ x.1) (begins w bs)
    (λ h. begins_split w bs h ∙ ap (λ r. w ++ r) (ap (λ z. z.1) (some_same (tt, drop (length w) bs) x (sym (if_true (begins w bs) (Some (tt, drop (length w) bs)) None h) ∙ e))))
    (λ h. none_some x _ (sym (if_false (begins w bs) (Some (tt, drop (length w) bs)) None h) ∙ e))

pub behind_back : {A : Type 0} (w : List ℕ) (f : Reader A) (bs : List ℕ) → behind w f (w ++ bs) ≡ f bs
behind_back w f bs = ap (λ o. o >>= λ x. f x.1) (literal_back w bs)

pub behind_only : {A : Type 0} (w : List ℕ) (f : Reader A) (bs : List ℕ) (y : A × List ℕ) → behind w f bs ≡ Some y → (more : List ℕ) × (bs ≡ w ++ more) × (f more ≡ Some y)
behind_only w f bs y e =
    let p = bind_parts (literal w bs) (λ x. f x.1) y e in
    (p.0.1, literal_only w bs p.0 p.1, p.2)

pub behind_reads : {A : Type 0} {f : Reader A} {t : A → List ℕ} {F : A → Type 0} {S : List ℕ → Type 0} (w : List ℕ) → Reads f t F S → Reads (behind w f) (λ a. w ++ t a) F S
behind_reads {A} {f = f} {t = t} w r = record {
  back = λ a rest h s. ap (behind w f) (append_assoc w (t a) rest) ∙ behind_back w f (t a ++ rest) ∙ r.back a rest h s;
  only = λ bs rest a e.
      (let p = behind_only w f bs (a, rest) e in
      let q = r.only p.0 rest a p.2 in
      (p.1 ∙ ap (λ z. w ++ z) q.0 ∙ sym (append_assoc w (t a) rest), q.1));
}

-- ---- one after the other
pub follow_reads : {A B : Type 0} {f : Reader A} {g : Reader B} {t : A → List ℕ} {u : B → List ℕ} {F : A → Type 0} {G : B → Type 0} {S T : List ℕ → Type 0}
    → Reads f t F S → Reads g u G T → ((b : B) (rest : List ℕ) → G b → T rest → S (u b ++ rest))
    → Reads (follow f g) (λ p. t p.0 ++ u p.1) (λ p. F p.0 × G p.1) T
follow_reads {A} {B} {f = f} {g = g} {t = t} {u = u} {F = F} {G = G} r s join = record {
  back = λ p rest h k.
      ap (follow f g) (append_assoc (t p.0) (u p.1) rest)
      ∙ ap (λ o. o >>= λ x. g x.1 >>= λ y. Some ((x.0, y.0), y.1)) (r.back p.0 (u p.1 ++ rest) h.0 (join p.1 rest h.1 k))
      ∙ ap (λ o. o >>= λ y. Some ((p.0, y.0), y.1)) (s.back p.1 rest h.1 k);
  only = λ bs rest p e.
      (let x = bind_parts (f bs) (λ x. g x.1 >>= λ y. Some ((x.0, y.0), y.1)) (p, rest) e in
      let y = bind_parts (g x.0.1) (λ y. Some ((x.0.0, y.0), y.1)) (p, rest) x.2 in
      let a = r.only bs x.0.1 x.0.0 x.1 in
      let b = s.only x.0.1 y.0.1 y.0.0 y.1 in
      let made : (bs ≡ (t x.0.0 ++ u y.0.0) ++ y.0.1) × (F x.0.0 × G y.0.0) =
      (a.0 ∙ ap (λ z. t x.0.0 ++ z) b.0 ∙ sym (append_assoc (t x.0.0) (u y.0.0) y.0.1), (a.1, b.1)) in
      let Is : (A × B) × List ℕ → Type 0 = λ z. (bs ≡ (t z.0.0 ++ u z.0.1) ++ z.1) × (F z.0.0 × G z.0.1) in
      subst Is (some_same ((x.0.0, y.0.0), y.0.1) (p, rest) y.2) made);
}

-- seen by a function, and read again by its inverse
pub through_reads : {A B : Type 0} {f : Reader A} {t : A → List ℕ} {F : A → Type 0} {S : List ℕ → Type 0} (to : A → B) (from : B → A)
    → ((b : B) → to (from b) ≡ b) → ((a : A) → from (to a) ≡ a) → Reads f t F S → Reads (λ bs. through to (f bs)) (λ b. t (from b)) (λ b. F (from b)) S
through_reads {A} {B} {f = f} {t = t} {F = F} to from there again r = record {
  back = λ b rest h k. ap (through to) (r.back (from b) rest h k) ∙ ap (λ z. Some (z, rest)) (there b);
  only = λ bs rest b e.
      (let x = through_parts to (f bs) (b, rest) e in
      let a = r.only bs x.0.1 x.0.0 x.1 in
      let Is : B × List ℕ → Type 0 = λ z. (bs ≡ t (from z.0) ++ z.1) × F (from z.0) in
      let made : (bs ≡ t (from (to x.0.0)) ++ x.0.1) × F (from (to x.0.0)) = (a.0 ∙ ap (λ z. t z ++ x.0.1) (sym (again x.0.0)), subst F (sym (again x.0.0)) a.1) in
      subst Is x.2 made);
}

-- other words for the text, and for what fits
pub reads_as : {A : Type 0} {f : Reader A} {t : A → List ℕ} {F : A → Type 0} {S : List ℕ → Type 0} (u : A → List ℕ) (G : A → Type 0)
    → ((a : A) → t a ≡ u a) → ((a : A) → F a → G a) → ((a : A) → G a → F a) → Reads f t F S → Reads f u G S
reads_as {A} {f = f} u G same to from r = record {
  back = λ a rest h k. ap (λ z. f (z ++ rest)) (sym (same a)) ∙ r.back a rest (from a h) k;
  only = λ bs rest a e. (let x = r.only bs rest a e in (x.0 ∙ ap (λ z. z ++ rest) (same a), to a x.1));
}

pub closed_reads : {A : Type 0} {f : Reader A} {t : A → List ℕ} {F : A → Type 0} {S : List ℕ → Type 0} (w : List ℕ) → Reads f t F S
    → ((rest : List ℕ) → S (w ++ rest)) → Reads (closed f w) (λ a. t a ++ w) F Always
closed_reads {A} {f = f} {t = t} {F = F} w r join = record {
  back = λ a rest h k.
      ap (closed f w) (append_assoc (t a) w rest)
      ∙ ap (λ o. o >>= λ x. literal w x.1 >>= λ y. Some (x.0, y.1)) (r.back a (w ++ rest) h (join rest))
      ∙ ap (λ o. o >>= λ y. Some (a, y.1)) (literal_back w rest);
  only = λ bs rest a e.
      (let x = bind_parts (f bs) (λ x. literal w x.1 >>= λ y. Some (x.0, y.1)) (a, rest) e in
      let y = bind_parts (literal w x.0.1) (λ y. Some (x.0.0, y.1)) (a, rest) x.2 in
      let b = r.only bs x.0.1 x.0.0 x.1 in
      let made : (bs ≡ (t x.0.0 ++ w) ++ y.0.1) × F x.0.0 =
      (b.0 ∙ ap (λ z. t x.0.0 ++ z) (literal_only w x.0.1 y.0 y.1) ∙ sym (append_assoc (t x.0.0) w y.0.1), b.1) in
      let Is : A × List ℕ → Type 0 = λ z. (bs ≡ (t z.0 ++ w) ++ z.1) × F z.0 in
      subst Is (some_same (x.0.0, y.0.1) (a, rest) y.2) made);
}

-- ---- a choice by what stands there
pub pick_first : {A : Type 0} (w : List ℕ) (f g : Reader A) (bs : List ℕ) → begins w bs ≡ true → pick w f g bs ≡ f bs
pick_first w f g bs h = if_true (begins w bs) (f bs) (g bs) h

pub pick_second : {A : Type 0} (w : List ℕ) (f g : Reader A) (bs : List ℕ) → begins w bs ≡ false → pick w f g bs ≡ g bs
pick_second w f g bs h = if_false (begins w bs) (f bs) (g bs) h

-- what is read so is a text
abbrev pub Only : {A : Type 0} → Reader A → (A → List ℕ) → (A → Type 0) → Type 0
Only {A} f t F = (bs rest : List ℕ) (a : A) → f bs ≡ Some (a, rest) → (bs ≡ t a ++ rest) × F a

pub pick_only : {A : Type 0} (w : List ℕ) (f g : Reader A) (t : A → List ℕ) (F : A → Type 0) → Only f t F → Only g t F → Only (pick w f g) t F
pick_only w f g t F a b bs rest x e = by_cases ((bs ≡ t x ++ rest) × F x) (begins w bs)
    (λ h. a bs rest x (sym (pick_first w f g bs h) ∙ e))
    (λ h. b bs rest x (sym (pick_second w f g bs h) ∙ e))

-- a value of one kind, by how its text is made of another's
pub through_only : {A B : Type 0} (f : Reader A) (t : A → List ℕ) (F : A → Type 0) (to : A → B) (u : B → List ℕ) (G : B → Type 0)
    → ((a : A) → t a ≡ u (to a)) → ((a : A) → F a → G (to a)) → Only f t F → Only (λ bs. through to (f bs)) u G
through_only {A} {B} f t F to u G same fits r bs rest b e =
    let x = through_parts to (f bs) (b, rest) e in
    let a = r bs x.0.1 x.0.0 x.1 in
    let Is : B × List ℕ → Type 0 = λ z. (bs ≡ u z.0 ++ z.1) × G z.0 in
    let made : (bs ≡ u (to x.0.0) ++ x.0.1) × G (to x.0.0) = (a.0 ∙ ap (λ z. z ++ x.0.1) (same x.0.0), fits x.0.0 a.1) in
    subst Is x.2 made

-- behind these bytes a value of one kind
pub behind_through_only : {A B : Type 0} {f : Reader A} {t : A → List ℕ} {F : A → Type 0} {S : List ℕ → Type 0} (w : List ℕ) → Reads f t F S → (to : A → B) (u : B → List ℕ) (G : B → Type 0)
    → ((a : A) → w ++ t a ≡ u (to a)) → ((a : A) → F a → G (to a)) → Only (behind w (λ bs. through to (f bs))) u G
behind_through_only {A} {B} {f = f} {t = t} w r to u G same fits bs rest b e =
    let p = behind_only w (λ z. through to (f z)) bs (b, rest) e in
    let x = through_parts to (f p.0) (b, rest) p.2 in
    let a = r.only p.0 x.0.1 x.0.0 x.1 in
    let Is : B × List ℕ → Type 0 = λ z. (bs ≡ u z.0 ++ z.1) × G z.0 in
    let made : (bs ≡ u (to x.0.0) ++ x.0.1) × G (to x.0.0) =
    (p.1 ∙ ap (λ z. w ++ z) a.0 ∙ sym (append_assoc w (t x.0.0) x.0.1) ∙ ap (λ z. z ++ x.0.1) (same x.0.0), fits x.0.0 a.1) in
    subst Is x.2 made

pub literal_reads : (w : List ℕ) → Reads (literal w) (λ u. w) (λ u. Unit {0}) Always
literal_reads w = record {
  back = λ u rest h k. literal_back w rest;
  only = λ bs rest u e. (literal_only w bs (u, rest) e, tt);
}

-- ---- the first of a table
pub one_of_only : {A : Type 0} (t : A → List ℕ) (xs : List A) → Only (one_of t xs) t (λ a. Unit {0})
one_of_only t [] bs rest a e = none_some (a, rest) _ e
one_of_only {A} t (x ∷ xs) bs rest a e = by_cases ((bs ≡ t a ++ rest) × Unit {0}) (begins (t x) bs)
    (λ h.
    let Is : A × List ℕ → Type 0 = λ z. (bs ≡ t z.0 ++ z.1) × Unit {0} in
    let made : (bs ≡ t x ++ drop (length (t x)) bs) × Unit {0} = (begins_split (t x) bs h, tt) in
    subst Is (some_same (x, drop (length (t x)) bs) (a, rest) (sym (if_true (begins (t x) bs) (Some (x, drop (length (t x)) bs)) (one_of t xs bs) h) ∙ e)) made)
    (λ h. one_of_only t xs bs rest a (sym (if_false (begins (t x) bs) (Some (x, drop (length (t x)) bs)) (one_of t xs bs) h) ∙ e))

-- ---- as often as it goes
abbrev pub all_text : {A : Type 0} → List ℕ → (A → List ℕ) → List A → List ℕ
all_text w t as' = concat (map (λ a. w ++ t a) as')

many_step : {A : Type 0} (n : ℕ) (w : List ℕ) (f : Reader A) (bs : List ℕ) → begins w bs ≡ true
    → many_at (suc n) w f bs ≡ through (λ p. p.0 ∷ p.1) (follow (behind w f) (many_at n w f) bs)
many_step n w f bs h = if_true (begins w bs) (through (λ p. p.0 ∷ p.1) (follow (behind w f) (many_at n w f) bs)) (Some ([], bs)) h

many_stop : {A : Type 0} (n : ℕ) (w : List ℕ) (f : Reader A) (bs : List ℕ) → begins w bs ≡ false → many_at n w f bs ≡ Some ([], bs)
many_stop zero w f bs h = refl
many_stop (suc n) w f bs h = if_false (begins w bs) (through (λ p. p.0 ∷ p.1) (follow (behind w f) (many_at n w f) bs)) (Some ([], bs)) h

many_only_at : {A : Type 0} (n : ℕ) (w : List ℕ) (f : Reader A) (t : A → List ℕ) (F : A → Type 0) (S : List ℕ → Type 0) → Reads f t F S
    → Only (many_at n w f) (all_text w t) (λ as'. All F as')
many_only_at {A} zero w f t F S r bs rest as' e =
    let Is : List A × List ℕ → Type 0 = λ z. (bs ≡ all_text w t z.0 ++ z.1) × All F z.0 in
    let made : (bs ≡ bs) × All F [] = (refl, All-nil F) in
    subst Is (some_same ([], bs) (as', rest) e) made
many_only_at {A} (suc n) w f t F S r bs rest as' e = by_cases ((bs ≡ all_text w t as' ++ rest) × All F as') (begins w bs)
    (λ h.
    let went = through_parts (λ (p : A × List A). p.0 ∷ p.1) (follow (behind w f) (many_at n w f) bs) (as', rest) (sym (many_step n w f bs h) ∙ e) in
    let x = bind_parts (behind w f bs) (λ x. many_at n w f x.1 >>= λ y. Some ((x.0, y.0), y.1)) went.0 went.1 in
    let y = bind_parts (many_at n w f x.0.1) (λ y. Some ((x.0.0, y.0), y.1)) went.0 x.2 in
    let b = behind_only w f bs x.0 x.1 in
    let a = r.only b.0 x.0.1 x.0.0 b.2 in
    let i = many_only_at n w f t F S r x.0.1 y.0.1 y.0.0 y.1 in
    let Is : List A × List ℕ → Type 0 = λ z. (bs ≡ all_text w t z.0 ++ z.1) × All F z.0 in
    let made : (bs ≡ all_text w t (x.0.0 ∷ y.0.0) ++ y.0.1) × All F (x.0.0 ∷ y.0.0) = (
      b.1 ∙ ap (λ z. w ++ z) (a.0 ∙ ap (λ z. t x.0.0 ++ z) i.0) ∙ sym (append_assoc w (t x.0.0) (all_text w t y.0.0 ++ y.0.1))
          ∙ sym (append_assoc (w ++ t x.0.0) (all_text w t y.0.0) y.0.1),
      All-cons F x.0.0 y.0.0 a.1 i.1,
    ) in
    let same : (x.0.0 ∷ y.0.0, y.0.1) ≡ (as', rest) = ap (λ z. (z.0.0 ∷ z.0.1, z.1)) (some_same ((x.0.0, y.0.0), y.0.1) went.0 y.2) ∙ went.2 in
    subst Is same made)
    (λ h.
    let Is : List A × List ℕ → Type 0 = λ z. (bs ≡ all_text w t z.0 ++ z.1) × All F z.0 in
    let made : (bs ≡ bs) × All F [] = (refl, All-nil F) in
    subst Is (some_same ([], bs) (as', rest) (sym (many_stop (suc n) w f bs h) ∙ e)) made)

begins_text : (w a b rest : List ℕ) → begins w (((w ++ a) ++ b) ++ rest) ≡ true
begins_text w a b rest = ap (begins w) (append_assoc (w ++ a) b rest ∙ append_assoc w a (b ++ rest)) ∙ begins_self w (a ++ (b ++ rest))

many_back_at : {A : Type 0} (n : ℕ) (w : List ℕ) (f : Reader A) (t : A → List ℕ) (F : A → Type 0) (S : List ℕ → Type 0) → Reads f t F S → 0 < length w → ((x : List ℕ) → S (w ++ x))
    → (as' : List A) (rest : List ℕ) → All F as' → S rest → begins w rest ≡ false → length (all_text w t as' ++ rest) ≤ n
    → many_at n w f (all_text w t as' ++ rest) ≡ Some (as', rest)
many_back_at n w f t F S r some goes [] rest h s stop le = many_stop n w f rest stop
many_back_at zero w f t F S r some goes (a ∷ as') rest h s stop le =
    absurd (omega (arith, le, some, length-append ((w ++ t a) ++ all_text w t as') rest, length-append (w ++ t a) (all_text w t as'), length-append w (t a)))
many_back_at {A} (suc n) w f t F S r some goes (a ∷ as') rest h s stop le =
    let more = all_text w t as' ++ rest in
    let bs = ((w ++ t a) ++ all_text w t as') ++ rest in
    let shape : bs ≡ w ++ (t a ++ more) = append_assoc (w ++ t a) (all_text w t as') rest ∙ append_assoc w (t a) more in
    let shorter : length more ≤ n = omega (arith, le, some, ap length shape, length-append w (t a ++ more), length-append (t a) more) in
    let stops : S more = stop_at as' in
    let first : behind w f bs ≡ Some (a, more) = ap (behind w f) shape ∙ behind_back w f (t a ++ more) ∙ r.back a more (All-head F a as' h) stops in
    let others = many_back_at n w f t F S r some goes as' rest (All-tail F a as' h) s stop shorter in
    many_step n w f bs (begins_text w (t a) (all_text w t as') rest)
    ∙ ap (λ o. through (λ (p : A × List A). p.0 ∷ p.1) (o >>= λ x. many_at n w f x.1 >>= λ y. Some ((x.0, y.0), y.1))) first
    ∙ ap (λ o. through (λ (p : A × List A). p.0 ∷ p.1) (o >>= λ y. Some ((a, y.0), y.1))) others
  where
    stop_at : (ys : List A) → S (all_text w t ys ++ rest)
    stop_at [] = s
    stop_at (y ∷ ys) = subst S (sym (append_assoc (w ++ t y) (all_text w t ys) rest ∙ append_assoc w (t y) (all_text w t ys ++ rest))) (goes (t y ++ (all_text w t ys ++ rest)))

pub many_reads : {A : Type 0} {f : Reader A} {t : A → List ℕ} {F : A → Type 0} {S : List ℕ → Type 0} (w : List ℕ) → Reads f t F S → 0 < length w → ((x : List ℕ) → S (w ++ x))
    → Reads (many w f) (all_text w t) (λ as'. All F as') (λ rest. S rest × (begins w rest ≡ false))
unfolding many
many_reads {A} {f = f} {t = t} {F = F} {S = S} w r some goes = record {
  back = λ as' rest h k. many_back_at (length (all_text w t as' ++ rest)) w f t F S r some goes as' rest h k.0 k.1 (omega arith);
  only = λ bs rest as' e. many_only_at (length bs) w f t F S r bs rest as' e;
}

-- ---- the loop over a list
-- what is read is no longer than what there was
item_shorter : {A : Type 0} (w : List ℕ) (f : Reader A) (t : A → List ℕ) (F : A → Type 0) (S : List ℕ → Type 0) → Reads f t F S → 0 < length w
    → (bs : List ℕ) (x : A × List ℕ) → behind w f bs ≡ Some x → length x.1 < length bs
item_shorter w f t F S r some bs x e =
    let b = behind_only w f bs x e in
    let a = r.only b.0 x.1 x.0 b.2 in
    omega (arith, some, ap length b.1, length-append w b.0, ap length a.0, length-append (t x.0) x.1)

item_same : {A : Type 0} (n m : ℕ) (w : List ℕ) (f : Reader A) (o : Answer A) → ((x : A × List ℕ) → o ≡ Some x → many_at n w f x.1 ≡ many_at m w f x.1)
    → ◌≡◌ {A = Answer (A × List A)} (o >>= λ x. many_at n w f x.1 >>= λ y. Some ((x.0, y.0), y.1)) (o >>= λ x. many_at m w f x.1 >>= λ y. Some ((x.0, y.0), y.1))
item_same n m w f None h = refl
item_same {A} n m w f (Some x) h = ap (λ (z : Answer (List A)). z >>= λ y. Some ((x.0, y.0), y.1)) (h x refl)

nothing_begins : (w bs : List ℕ) (P : Type 0) → 0 < length w → length bs ≤ 0 → begins w bs ≡ true → P
nothing_begins w bs P some none h = absurd (omega (arith, some, none, ap length (begins_split w bs h), length-append w (drop (length w) bs)))

same_count : {A : Type 0} (n m : ℕ) (w : List ℕ) (f : Reader A) (t : A → List ℕ) (F : A → Type 0) (S : List ℕ → Type 0) → Reads f t F S → 0 < length w
    → (bs : List ℕ) → length bs ≤ n → length bs ≤ m → many_at n w f bs ≡ many_at m w f bs
same_count zero zero w f t F S r some bs h k = refl
same_count zero (suc m) w f t F S r some bs h k = by_cases _ (begins w bs)
    (λ b. nothing_begins w bs _ some h b)
    (λ b. sym (many_stop (suc m) w f bs b))
same_count (suc n) zero w f t F S r some bs h k = by_cases _ (begins w bs)
    (λ b. nothing_begins w bs _ some k b)
    (λ b. many_stop (suc n) w f bs b)
same_count {A} (suc n) (suc m) w f t F S r some bs h k = by_cases _ (begins w bs)
    (λ b. many_step n w f bs b
    ∙ ap (through (λ (p : A × List A). p.0 ∷ p.1)) (item_same n m w f (behind w f bs) (λ x e.
    (let short = item_shorter w f t F S r some bs x e in same_count n m w f t F S r some x.1 (omega (arith, short, h)) (omega (arith, short, k)))))
    ∙ sym (many_step m w f bs b))
    (λ b. many_stop (suc n) w f bs b ∙ sym (many_stop (suc m) w f bs b))

pub more_done : {A : Type 0} (w : List ℕ) (f : Reader A) (out : List A) (c : List ℕ) → begins w c ≡ false → more_of w f out c ≡ Some (out, c)
unfolding many
more_done {A} w f out c h =
    ap (through (λ (rest : List A). out ++ rest)) (many_stop (length c) w f c h) ∙ ap (λ z. Some (z, c)) (append-nil out)

joined : {A : Type 0} (out : List A) (a : A) (o : Answer (List A))
    → ◌≡◌ {A = Answer (List A)} (through (λ rest. out ++ rest) (through (λ (p : A × List A). p.0 ∷ p.1) (o >>= λ y. Some ((a, y.0), y.1)))) (through (λ rest. (out ++ a ∷ []) ++ rest) o)
joined out a None = refl
joined out a (Some y) = ap (λ z. Some (z, y.1)) (sym (append_assoc out (a ∷ []) y.0))

next_at : {A : Type 0} (n : ℕ) (w : List ℕ) (f : Reader A) (t : A → List ℕ) (F : A → Type 0) (S : List ℕ → Type 0) → Reads f t F S → 0 < length w
    → (out : List A) (c : List ℕ) (x : A × List ℕ) → begins w c ≡ true → behind w f c ≡ Some x → length c ≤ n
    → through (λ rest. out ++ rest) (many_at n w f c) ≡ through (λ rest. (out ++ x.0 ∷ []) ++ rest) (many_at (length x.1) w f x.1)
next_at zero w f t F S r some out c x b e h = nothing_begins w c _ some h b
next_at {A} (suc n) w f t F S r some out c x b e h =
    let short = item_shorter w f t F S r some c x e in
    ap (through (λ (rest : List A). out ++ rest)) (many_step n w f c b)
    ∙ ap (λ o. through (λ (rest : List A). out ++ rest) (through (λ (p : A × List A). p.0 ∷ p.1) (o >>= λ z. many_at n w f z.1 >>= λ y. Some ((z.0, y.0), y.1)))) e
    ∙ ap (λ (o : Answer (List A)). through (λ (rest : List A). out ++ rest) (through (λ (p : A × List A). p.0 ∷ p.1) (o >>= λ y. Some ((x.0, y.0), y.1))))
    (same_count n (length x.1) w f t F S r some x.1 (omega (arith, short, h)) (omega arith))
    ∙ joined out x.0 (many_at (length x.1) w f x.1)

pub more_next : {A : Type 0} (w : List ℕ) (f : Reader A) (t : A → List ℕ) (F : A → Type 0) (S : List ℕ → Type 0) → Reads f t F S → 0 < length w
    → (out : List A) (c new : List ℕ) (a : A) → begins w c ≡ true → behind w f c ≡ Some (a, new) → more_of w f out c ≡ more_of w f (out ++ a ∷ []) new
unfolding many
more_next w f t F S r some out c new a b e = next_at (length c) w f t F S r some out c (a, new) b e (omega arith)

wrong_at : {A : Type 0} (n : ℕ) (w : List ℕ) (f : Reader A) (out : List A) (c : List ℕ) → 0 < length w → begins w c ≡ true → behind w f c ≡ None → length c ≤ n
    → ◌≡◌ {A = Answer (List A)} (through (λ rest. out ++ rest) (many_at n w f c)) None
wrong_at zero w f out c some b e h = nothing_begins w c _ some h b
wrong_at {A} (suc n) w f out c some b e h =
    ap (through (λ (rest : List A). out ++ rest)) (many_step n w f c b)
    ∙ ap (λ (o : Answer A). through (λ (rest : List A). out ++ rest) (through (λ (p : A × List A). p.0 ∷ p.1) (o >>= λ z. many_at n w f z.1 >>= λ y. Some ((z.0, y.0), y.1)))) e

pub more_wrong : {A : Type 0} (w : List ℕ) (f : Reader A) (out : List A) (c : List ℕ) → 0 < length w → begins w c ≡ true → behind w f c ≡ None → more_of w f out c ≡ None
unfolding many
more_wrong w f out c some b e = wrong_at (length c) w f out c some b e (omega arith)

pub more_shorter : {A : Type 0} (w : List ℕ) (f : Reader A) (t : A → List ℕ) (F : A → Type 0) (S : List ℕ → Type 0) → Reads f t F S → 0 < length w
    → (c new : List ℕ) (a : A) → behind w f c ≡ Some (a, new) → length new < length c
more_shorter w f t F S r some c new a e = item_shorter w f t F S r some c (a, new) e
