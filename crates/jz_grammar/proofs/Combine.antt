-- The laws of compound readers, from those of their parts.
use Rattle.std.proofs.Common.{◌≡◌, inl, inr, ⊎_elim, if◌then◌else◌, ℕ, zero, suc, ◌+◌, ◌<◌, ◌≤◌, List, [], ◌∷◌, ◌++◌, length, true, false, Ok, Err, Some, None, refl, sym, ap, ap₂, ◌∙◌, subst, arith, append_assoc, append-nil, length-append, nat_lt}
use Rattle.jz_lex.proofs.LexingWords.{by_cases, if_false, if_true, true_false}
use Rattle.jz_lex.specs.declared.token.Token.{Token}
use Rattle.jz_lex.specs.Span.{Span}
use Rattle.jz_grammar.specs.Causes.{Cause, Unexpected, TooDeep}
use Rattle.jz_grammar.specs.Kinds.{Kind, same, disjoint, is_in, has}
use Rattle.jz_grammar.specs.Readers.{Answer, Reader, ◌>>=◌, through, one, follow, pick, many_at, many, leaf, opening, inside, optional}
use Rattle.jz_grammar.specs.Grammar.{Marked, Lang, plain, token, empty, ◌▸◌, ◌⊕◌, ◌⇒◌, nested_phrase, each, opens, maybe}
use Rattle.jz_grammar.proofs.Laws.{Shape, head_of, First, outcome, Next, Begun, Found, Stopped, IsReader, HasPhrase, one_shape, empty_shape, both, either, full, many_shape}
use Rattle.jz_grammar.specs.Deriving.{plus}
use Rattle.jz_grammar.proofs.Basics.{all_in, in_more, has_fewer, in_left, in_right, has_append, in_apart, has_same, head_append, plain_append, plain_rest, within_append, outcome_within, outcome_through, outcome_append, next_more, plus_le, has_join, disjoint_nil, cancel, plain_length, bind_ok, bind_err, ok_same, err_same, ok_err, err_ok, through_err}

-- ---- forms that readers and grammars come to
-- no token
abbrev pub nothing : {A : Type 0} → A → Reader A
nothing a ts = Ok (a, ts)

-- such a token, and what is nested in it; d is how much may still be nested
abbrev pub nest : {A : Type 0} → List Kind → (ℕ → Reader A) → ℕ → Reader (Token × A)
nest ks inner zero ts = one ks ts >>= λ x. Err (TooDeep, ts)
nest ks inner (suc d) ts = follow (one ks) (inner d) ts

-- at most so many, one after the other
abbrev pub at_most : {A : Type 0} → ℕ → Lang A → Lang (List A)
at_most zero l = empty []
at_most (suc n) l = ((l ▸ at_most n l) ⇒ (λ p. p.0 ∷ p.1)) ⊕ empty []

-- any number, one after the other, where what is left from the ones before decides what each may be
abbrev pub each_by : {S A : Type 0} → (S → Lang A) → (S → A → S) → S → Lang (List A)
each_by l after s xs [] = xs ≡ []
each_by l after s xs (a ∷ as') = (ys : List Marked) × (zs : List Marked) × l s ys a × each_by l after (after s a) zs as' × (xs ≡ ys ++ zs)

-- ---- one token
one_ok : (ks : List Kind) (ts : List Token) (x : Token × List Token) → one ks ts ≡ Ok x → (ts ≡ x.0 ∷ x.1) × (is_in ks x.0 ≡ true)
unfolding one
one_ok ks [] x h = err_ok x (Unexpected, []) _ h
one_ok ks (t ∷ ts) x h = by_cases _ (is_in ks t)
    (λ e. let s = ok_same (t, ts) x (sym (if_true (is_in ks t) (Ok (t, ts)) (Err (Unexpected, t ∷ ts)) e) ∙ h) in subst (λ (z : Token × List Token). (t ∷ ts ≡ z.0 ∷ z.1) × (is_in ks z.0 ≡ true)) s (refl, e))
    (λ e. err_ok x (Unexpected, t ∷ ts) _ (sym (if_false (is_in ks t) (Ok (t, ts)) (Err (Unexpected, t ∷ ts)) e) ∙ h))

one_err : (ks : List Kind) (ts rest : List Token) (k : Cause) → one ks ts ≡ Err (k, rest) → (rest ≡ ts) × (k ≡ Unexpected) × (has ks ts ≡ false)
unfolding one
one_err ks [] rest k h = let s = err_same {A = Token} (Unexpected, []) (k, rest) h in (sym (ap (λ p. p.1) s), sym (ap (λ p. p.0) s), refl)
one_err ks (t ∷ ts) rest k h = by_cases _ (is_in ks t)
    (λ e. ok_err (t, ts) (k, rest) _ (sym (if_true (is_in ks t) (Ok (t, ts)) (Err (Unexpected, t ∷ ts)) e) ∙ h))
    (λ e. let s = err_same {A = Token} (Unexpected, t ∷ ts) (k, rest) (sym (if_false (is_in ks t) (Ok (t, ts)) (Err (Unexpected, t ∷ ts)) e) ∙ h) in (sym (ap (λ p. p.1) s), sym (ap (λ p. p.0) s), e))

pub one_is : (ks : List Kind) (t : Token) (ts : List Token) → is_in ks t ≡ true → one ks (t ∷ ts) ≡ Ok (t, ts)
unfolding one
one_is ks t ts h = if_true (is_in ks t) _ _ h

pub one_not : (ks : List Kind) (ts : List Token) → has ks ts ≡ false → one ks ts ≡ Err (Unexpected, ts)
unfolding one
one_not ks [] h = refl
one_not ks (t ∷ ts) h = if_false (is_in ks t) _ _ h

pub one_reads : (ks : List Kind) (d : ℕ) (example : Token) → is_in ks example ≡ true → IsReader (one ks) (λ e. token ks (plus d e)) (one_shape ks)
one_reads ks d example passes = record { first = first; again = again; found = found; stop = stop }
  where
    first : (e : ℕ) (xs : List Marked) (a : Token) → token ks (plus d e) xs a → First (one_shape ks) xs
    first e xs a l = subst (λ z. First (one_shape ks) z) (sym l.0) l.1

    again : (e : ℕ) (xs : List Marked) (a : Token) (rest : List Token) → token ks (plus d e) xs a → has [] rest ≡ false → one ks (plain xs ++ rest) ≡ outcome e xs a rest
    again e xs a rest l f = subst (λ z. one ks (plain z ++ rest) ≡ outcome e z a rest) (sym l.0)
        (one_is ks a rest l.1 ∙ sym (outcome_within e ((a, plus d e) ∷ []) a rest (plus_le d e, tt)))

    found : (ts rest : List Token) (a : Token) → one ks ts ≡ Ok (a, rest) → Found (one ks) (λ e. token ks (plus d e)) ts a rest
    found ts rest a h = let x = one_ok ks ts (a, rest) h in record { pre = a ∷ []; splits = x.0; stays = λ other _. one_is ks a other x.1; whole = λ e. ((a, plus d e) ∷ [], (refl, x.1), (plus_le d e, tt), refl) }

    stop : (ts rest : List Token) (k : Cause) → one ks ts ≡ Err (k, rest) → Stopped (one ks) (λ e. token ks (plus d e)) ts k rest
    stop ts rest k h = let x = one_err ks ts rest k h in
        record {
          pre = [];
          splits = sym x.0;
          stays = λ other s. one_not ks other (sym (has_same ks rest other s) ∙ ap (λ z. has ks z) x.0 ∙ x.2) ∙ ap (λ z. Err (z, other)) (sym x.1);
          begins = λ e _. ([], (example, plus d e) ∷ [], example, (refl, passes), tt, refl, subst (λ z. Next z e ((example, plus d e) ∷ []) rest) (sym x.1) tt);
        }

pub has_nil : (ts : List Token) → has [] ts ≡ false
unfolding is_in
has_nil [] = refl
has_nil (t ∷ ts) = refl

pub no_kind : (t : Token) (P : Type 0) → is_in [] t ≡ true → P
unfolding is_in
no_kind t P h = cc

-- ---- nothing
pub nothing_reads : {A : Type 0} (a : A) → IsReader (nothing a) (λ e. empty a) empty_shape
nothing_reads {A} a = record { first = first; again = again; found = found; stop = λ ts rest k h. ok_err (a, ts) (k, rest) _ h }
  where
    first : (e : ℕ) (xs : List Marked) (b : A) → empty a xs b → First empty_shape xs
    first e xs b l = subst (λ z. First empty_shape z) (sym l.0) refl

    again : (e : ℕ) (xs : List Marked) (b : A) (rest : List Token) → empty a xs b → has [] rest ≡ false → nothing a (plain xs ++ rest) ≡ outcome e xs b rest
    again e xs b rest l f = subst (λ z. nothing a (plain z ++ rest) ≡ outcome e z b rest) (sym l.0) (ap (λ z. Ok (z, rest)) l.1)

    found : (ts rest : List Token) (b : A) → nothing a ts ≡ Ok (b, rest) → Found (nothing a) (λ e. empty a) ts b rest
    found ts rest b h = let s = ok_same (a, ts) (b, rest) h in let v : a ≡ b = ap (λ p. p.0) s in
        record { pre = []; splits = ap (λ p. p.1) s; stays = λ other _. ap (λ z. Ok (z, other)) v; whole = λ e. ([], (refl, v), tt, refl) }

-- ---- one after the other
pub follow_reads : {A B : Type 0} {f : Reader A} {g : Reader B} {l : ℕ → Lang A} {m : ℕ → Lang B} {s r : Shape} → IsReader f l s → IsReader g m r → HasPhrase m → disjoint r.starts s.goes ≡ true → IsReader (follow f g) (λ e. l e ▸ m e) (both s r)
follow_reads {A} {B} {f = f} {g = g} {l = l} {m = m} {s = s} {r = r} F G some apart = record { first = first; again = again; found = found; stop = stop }
  where
    first_both : (e : ℕ) (ys zs : List Marked) (a : A) (b : B) → First s ys → First r zs → First (both s r) (ys ++ zs)
    first_both e [] [] a b h k = rw h k
    first_both e [] (z ∷ zs) a b h k = rw h (in_right s.starts r.starts z.0 k)
    first_both e (y ∷ ys) zs a b h k = by_cases _ s.empties (λ c. rw c (in_left s.starts r.starts y.0 h)) (λ c. rw c h)

    first : (e : ℕ) (xs : List Marked) (p : A × B) → (l e ▸ m e) xs p → First (both s r) xs
    first e xs p h = subst (λ z. First (both s r) z) (sym h.4) (first_both e h.0 h.1 p.0 p.1 (F.first e h.0 p.0 h.2) (G.first e h.1 p.1 h.3))

    -- what comes after the first part does not go on with it
    ends : (zs : List Marked) (rest : List Token) → First r zs → has (both s r).goes rest ≡ false → (has s.goes (plain zs ++ rest) ≡ false) × (has r.goes rest ≡ false)
    ends [] rest c h = has_append s.goes r.goes rest (sym (rw c refl) ∙ h)
    ends (z ∷ zs) rest c h = (
      in_apart r.starts s.goes z.0 apart c,
      by_cases _ r.empties
          (λ t. (has_append s.goes r.goes rest (sym (rw t refl) ∙ h)).1)
          (λ t. sym (rw t refl) ∙ h),
    )

    again : (e : ℕ) (xs : List Marked) (p : A × B) (rest : List Token) → (l e ▸ m e) xs p → has (both s r).goes rest ≡ false → follow f g (plain xs ++ rest) ≡ outcome e xs p rest
    again e xs p rest h free =
        let n = ends h.1 rest (G.first e h.1 p.1 h.3) free in
        let one' = F.again e h.0 p.0 (plain h.1 ++ rest) h.2 n.0 in
        let two = G.again e h.1 p.1 rest h.3 n.1 in
        subst (λ z. follow f g (plain z ++ rest) ≡ outcome e z p rest) (sym h.4)
        (ap (λ z. follow f g z) (plain_rest h.0 h.1 rest)
        ∙ ap (λ z. z >>= λ x. g x.1 >>= λ y. Ok ((x.0, y.0), y.1)) one'
        ∙ second e h.0 p.0 (plain h.1 ++ rest) (outcome e h.1 p.1 rest) two
        ∙ sym (outcome_append e h.0 h.1 p.0 p.1 rest))
      where
        second : (e : ℕ) (ys : List Marked) (a : A) (us : List Token) (o : Answer B) → g us ≡ o → ◌≡◌ {A = Answer (A × B)} (outcome e ys a us >>= λ x. g x.1 >>= λ y. Ok ((x.0, y.0), y.1)) (outcome e ys a us >>= λ x. o >>= λ y. Ok ((x.0, y.0), y.1))
        second e [] a us o h = ap (λ z. z >>= λ y. Ok ((a, y.0), y.1)) h
        second e (y ∷ ys) a us o h = by_cases _ (nat_lt y.1 e) (λ c. rw c refl) (λ c. rw c (second e ys a us o h))

    found : (ts rest : List Token) (p : A × B) → follow f g ts ≡ Ok (p, rest) → Found (follow f g) (λ e. l e ▸ m e) ts p rest
    found ts rest p h =
        let x = bind_ok (f ts) (λ x. g x.1 >>= λ y. Ok ((x.0, y.0), y.1)) (p, rest) h in
        let y = bind_ok (g x.0.1) (λ y. Ok ((x.0.0, y.0), y.1)) (p, rest) x.2 in
        let same : ◌≡◌ {A = (A × B) × List Token} ((x.0.0, y.0.0), y.0.1) (p, rest) = ok_same _ _ y.2 in
        let fx = F.found ts x.0.1 x.0.0 x.1 in
        let gy = G.found x.0.1 y.0.1 y.0.0 y.1 in
        subst (λ (q : (A × B) × List Token). Found (follow f g) (λ e. l e ▸ m e) ts q.0 q.1) same
        (record {
          pre = fx.pre ++ gy.pre;
          splits = fx.splits ∙ ap (λ z. fx.pre ++ z) gy.splits ∙ sym (append_assoc fx.pre gy.pre y.0.1);
          stays = λ other c.
              ap (λ z. follow f g z) (append_assoc fx.pre gy.pre other)
              ∙ ap (λ z. z >>= λ x. g x.1 >>= λ y. Ok ((x.0, y.0), y.1)) (fx.stays (gy.pre ++ other) (ap head_of gy.splits ∙ head_append gy.pre y.0.1 other c))
              ∙ ap (λ z. z >>= λ w. Ok ((x.0.0, w.0), w.1)) (gy.stays other c);
          whole = λ e. let u = fx.whole e in let v = gy.whole e in
              (u.0 ++ v.0, (u.0, v.0, u.1, v.1, refl), within_append e u.0 v.0 u.2 v.2, plain_append u.0 v.0 ∙ ap₂ (λ a b. a ++ b) u.3 v.3);
        })

    stop : (ts rest : List Token) (k : Cause) → follow f g ts ≡ Err (k, rest) → Stopped (follow f g) (λ e. l e ▸ m e) ts k rest
    stop ts rest k h = ⊎_elim
        (λ c. let q = F.stop ts rest k c in record {
          pre = q.pre;
          splits = q.splits;
          stays = λ other n. ap (λ z. z >>= λ x. g x.1 >>= λ y. Ok ((x.0, y.0), y.1)) (q.stays other n);
          begins = λ e i. let b = q.begins e i in let w = some e (omega arith) in
              (b.0, b.1 ++ w.0, (b.2, w.1), (b.0 ++ b.1, w.0, b.3, w.2, sym (append_assoc b.0 b.1 w.0)), b.4, b.5, next_more k e b.1 w.0 rest b.6);
        })
        (λ x. ⊎_elim
        (λ c. let fx = F.found ts x.0.1 x.0.0 x.1 in let q = G.stop x.0.1 rest k c in record {
          pre = fx.pre ++ q.pre;
          splits = fx.splits ∙ ap (λ z. fx.pre ++ z) q.splits ∙ sym (append_assoc fx.pre q.pre rest);
          stays = λ other n.
              ap (λ z. follow f g z) (append_assoc fx.pre q.pre other)
              ∙ ap (λ z. z >>= λ x. g x.1 >>= λ y. Ok ((x.0, y.0), y.1)) (fx.stays (q.pre ++ other) (ap head_of q.splits ∙ head_append q.pre rest other n))
              ∙ ap (λ z. z >>= λ w. Ok ((x.0.0, w.0), w.1)) (q.stays other n);
          begins = λ e i. let u = fx.whole e in let b = q.begins e i in
              (u.0 ++ b.0, b.1, (x.0.0, b.2), (u.0, b.0 ++ b.1, u.1, b.3, append_assoc u.0 b.0 b.1), within_append e u.0 b.0 u.2 b.4, plain_append u.0 b.0 ∙ ap₂ (λ a b. a ++ b) u.3 b.5, b.6);
        })
        (λ y. ok_err _ (k, rest) _ y.2)
        (bind_err (g x.0.1) (λ y. Ok ((x.0.0, y.0), y.1)) (k, rest) x.2))
        (bind_err (f ts) (λ x. g x.1 >>= λ y. Ok ((x.0, y.0), y.1)) (k, rest) h)

-- ---- seen by a function
through_ok : {A B : Type 0} (to : A → B) (r : Answer A) (y : B × List Token) → through to r ≡ Ok y → (x : A × List Token) × (r ≡ Ok x) × (◌≡◌ {A = B × List Token} (to x.0, x.1) y)
through_ok to (Ok x) y h = (x, refl, ok_same _ _ h)
through_ok to (Err e) y h = err_ok y e _ h

pub map_reads : {A B : Type 0} {f : Reader A} {l : ℕ → Lang A} {s : Shape} (to : A → B) → IsReader f l s → IsReader (λ ts. through to (f ts)) (λ e. l e ⇒ to) s
map_reads {A} {B} {f = f} {l = l} {s = s} to F = record { first = λ e xs b h. F.first e xs h.0 h.1; again = again; found = found; stop = stop }
  where
    again : (e : ℕ) (xs : List Marked) (b : B) (rest : List Token) → (l e ⇒ to) xs b → has s.goes rest ≡ false → through to (f (plain xs ++ rest)) ≡ outcome e xs b rest
    again e xs b rest h free = ap (through to) (F.again e xs h.0 rest h.1 free) ∙ sym (outcome_through to e xs h.0 rest) ∙ ap (λ z. outcome e xs z rest) h.2

    found : (ts rest : List Token) (b : B) → through to (f ts) ≡ Ok (b, rest) → Found (λ ts. through to (f ts)) (λ e. l e ⇒ to) ts b rest
    found ts rest b h =
        let x = through_ok to (f ts) (b, rest) h in
        let q = F.found ts x.0.1 x.0.0 x.1 in
        subst (λ (z : B × List Token). Found (λ ts. through to (f ts)) (λ e. l e ⇒ to) ts z.0 z.1) x.2
        (record { pre = q.pre; splits = q.splits; stays = λ other c. ap (through to) (q.stays other c); whole = λ e. let w = q.whole e in (w.0, (x.0.0, w.1, refl), w.2, w.3) })

    stop : (ts rest : List Token) (k : Cause) → through to (f ts) ≡ Err (k, rest) → Stopped (λ ts. through to (f ts)) (λ e. l e ⇒ to) ts k rest
    stop ts rest k h =
        let q = F.stop ts rest k (through_err to (f ts) (k, rest) h) in
        record {
          pre = q.pre;
          splits = q.splits;
          stays = λ other c. ap (through to) (q.stays other c);
          begins = λ e i. let b = q.begins e i in (b.0, b.1, to b.2, (b.2, b.3, refl), b.4, b.5, b.6);
        }

-- ---- by the next token
pub pick_reads : {A : Type 0} {f g : Reader A} {l m : ℕ → Lang A} {s r : Shape} → IsReader f l s → IsReader g m r → s.empties ≡ false → disjoint r.starts s.starts ≡ true → IsReader (pick s.starts f g) (λ e. l e ⊕ m e) (either s r)
pick_reads {A} {f = f} {g = g} {l = l} {m = m} {s = s} {r = r} F G full apart = record { first = first; again = again; found = found; stop = stop }
  where
    left : (ts : List Token) → has s.starts ts ≡ true → pick s.starts f g ts ≡ f ts
    left ts h = if_true (has s.starts ts) (f ts) (g ts) h

    right : (ts : List Token) → has s.starts ts ≡ false → pick s.starts f g ts ≡ g ts
    right ts h = if_false (has s.starts ts) (f ts) (g ts) h

    first_left : (xs : List Marked) → First s xs → First (either s r) xs
    first_left [] h = true_false s.empties _ h full
    first_left (x ∷ xs) h = in_left s.starts r.starts x.0 h

    first_right : (xs : List Marked) → First r xs → First (either s r) xs
    first_right [] h = h
    first_right (x ∷ xs) h = in_right s.starts r.starts x.0 h

    first : (e : ℕ) (xs : List Marked) (a : A) → (l e ⊕ m e) xs a → First (either s r) xs
    first e xs a h = ⊎_elim (λ x. first_left xs (F.first e xs a x)) (λ x. first_right xs (G.first e xs a x)) h

    on_left : (xs : List Marked) (rest : List Token) → First s xs → has s.starts (plain xs ++ rest) ≡ true
    on_left [] rest h = true_false s.empties _ h full
    on_left (x ∷ xs) rest h = h

    on_right : (xs : List Marked) (rest : List Token) → First r xs → has (either s r).goes rest ≡ false → has s.starts (plain xs ++ rest) ≡ false
    on_right [] rest h free = let a = (has_append s.goes (r.goes ++ (if r.empties then s.starts else [])) rest free).1 in
        let b = (has_append r.goes (if r.empties then s.starts else []) rest a).1 in
        sym (ap (λ z. has (if z then s.starts else []) rest) h) ∙ b
    on_right (x ∷ xs) rest h free = in_apart r.starts s.starts x.0 apart h

    again : (e : ℕ) (xs : List Marked) (a : A) (rest : List Token) → (l e ⊕ m e) xs a → has (either s r).goes rest ≡ false → pick s.starts f g (plain xs ++ rest) ≡ outcome e xs a rest
    again e xs a rest h free =
        let x = has_append s.goes (r.goes ++ (if r.empties then s.starts else [])) rest free in
        let y = has_append r.goes (if r.empties then s.starts else []) rest x.1 in
        ⊎_elim
        (λ u. left _ (on_left xs rest (F.first e xs a u)) ∙ F.again e xs a rest u x.0)
        (λ u. right _ (on_right xs rest (G.first e xs a u) free) ∙ G.again e xs a rest u y.0)
        h

    heads : (pre ts rest other : List Token) → ts ≡ pre ++ rest → head_of rest ≡ head_of other → has s.starts (pre ++ other) ≡ has s.starts ts
    heads pre ts rest other c n = sym (has_same s.starts (pre ++ rest) (pre ++ other) (head_append pre rest other n)) ∙ ap (λ z. has s.starts z) (sym c)

    found : (ts rest : List Token) (a : A) → pick s.starts f g ts ≡ Ok (a, rest) → Found (pick s.starts f g) (λ e. l e ⊕ m e) ts a rest
    found ts rest a h = by_cases _ (has s.starts ts)
        (λ c. let q = F.found ts rest a (sym (left ts c) ∙ h) in
        record { pre = q.pre; splits = q.splits; stays = λ other n. left _ (heads q.pre ts rest other q.splits n ∙ c) ∙ q.stays other n; whole = λ e. let w = q.whole e in (w.0, inl w.1, w.2, w.3) })
        (λ c. let q = G.found ts rest a (sym (right ts c) ∙ h) in
        record { pre = q.pre; splits = q.splits; stays = λ other n. right _ (heads q.pre ts rest other q.splits n ∙ c) ∙ q.stays other n; whole = λ e. let w = q.whole e in (w.0, inr w.1, w.2, w.3) })

    stop : (ts rest : List Token) (k : Cause) → pick s.starts f g ts ≡ Err (k, rest) → Stopped (pick s.starts f g) (λ e. l e ⊕ m e) ts k rest
    stop ts rest k h = by_cases _ (has s.starts ts)
        (λ c. let q = F.stop ts rest k (sym (left ts c) ∙ h) in
        record { pre = q.pre; splits = q.splits; stays = λ other n. left _ (heads q.pre ts rest other q.splits n ∙ c) ∙ q.stays other n; begins = λ e i. let b = q.begins e i in (b.0, b.1, b.2, inl b.3, b.4, b.5, b.6) })
        (λ c. let q = G.stop ts rest k (sym (right ts c) ∙ h) in
        record { pre = q.pre; splits = q.splits; stays = λ other n. right _ (heads q.pre ts rest other q.splits n ∙ c) ∙ q.stays other n; begins = λ e i. let b = q.begins e i in (b.0, b.1, b.2, inr b.3, b.4, b.5, b.6) })

-- ---- nested
-- where nothing more may be nested, the opening token is refused
nest_zero_reads : {A : Type 0} (ks : List Kind) (example : Token) → is_in ks example ≡ true → (inner : ℕ → Reader A) (lang : ℕ → Lang A) → HasPhrase lang → (s : Shape) → IsReader (nest ks inner zero) (λ e. nested_phrase ks lang (plus zero e)) (both (one_shape ks) s)
nest_zero_reads {A} ks example passes inner lang some s = record { first = first; again = again; found = found; stop = stop }
  where
    taken : (t : Token) (ts : List Token) → is_in ks t ≡ true → nest ks inner zero (t ∷ ts) ≡ Err (TooDeep, t ∷ ts)
    taken t ts h = ap (λ z. ◌>>=◌ {B = Token × A} z (λ x. Err (TooDeep, t ∷ ts))) (one_is ks t ts h)

    refused : (ts : List Token) → has ks ts ≡ false → nest ks inner zero ts ≡ Err (Unexpected, ts)
    refused ts h = ap (λ z. ◌>>=◌ {B = Token × A} z (λ x. Err (TooDeep, ts))) (one_not ks ts h)

    first : (e : ℕ) (xs : List Marked) (p : Token × A) → nested_phrase ks lang e xs p → First (both (one_shape ks) s) xs
    first zero xs p h = absurd h
    first (suc e) xs p h = subst (λ z. First (both (one_shape ks) s) z) (sym h.4) (subst (λ z. First (both (one_shape ks) s) (z ++ h.1)) (sym h.2.0) h.2.1)

    again : (e : ℕ) (xs : List Marked) (p : Token × A) (rest : List Token) → nested_phrase ks lang e xs p → has (both (one_shape ks) s).goes rest ≡ false → nest ks inner zero (plain xs ++ rest) ≡ outcome e xs p rest
    again zero xs p rest h free = absurd h
    again (suc e) xs p rest h free =
        let here : nest ks inner zero (plain ((p.0, e) ∷ h.1) ++ rest) ≡ outcome (suc e) ((p.0, e) ∷ h.1) p rest =
        taken p.0 (plain h.1 ++ rest) h.2.1 ∙ sym (if_true (nat_lt e (suc e)) _ _ (lt e)) in
        subst (λ z. nest ks inner zero (plain z ++ rest) ≡ outcome (suc e) z p rest) (sym (h.4 ∙ ap (λ z. z ++ h.1) h.2.0)) here
      where
        lt : (e : ℕ) → nat_lt e (suc e) ≡ true
        lt e = grind arith

    found : (ts rest : List Token) (p : Token × A) → nest ks inner zero ts ≡ Ok (p, rest) → Found (nest ks inner zero) (λ e. nested_phrase ks lang e) ts p rest
    found ts rest p h = let x = bind_ok {B = Token × A} (one ks ts) (λ x. Err (TooDeep, ts)) (p, rest) h in err_ok (p, rest) (TooDeep, ts) _ x.2

    begins : (e : ℕ) (t : Token) (rest : List Token) → 1 < e → is_in ks t ≡ true → Begun (nested_phrase ks lang e) e [] TooDeep (t ∷ rest)
    begins zero t rest i h = absurd (omega (arith, i))
    begins (suc e) t rest i h = let w = some e (omega arith) in ([], (t, e) ∷ w.0, (t, w.1), ((t, e) ∷ [], w.0, (refl, h), w.2, refl), tt, refl, (refl, omega arith))

    begins' : (e : ℕ) (rest : List Token) → 1 < e → Begun (nested_phrase ks lang e) e [] Unexpected rest
    begins' zero rest i = absurd (omega (arith, i))
    begins' (suc e) rest i = let w = some e (omega arith) in ([], (example, e) ∷ w.0, (example, w.1), ((example, e) ∷ [], w.0, (refl, passes), w.2, refl), tt, refl, tt)

    deep : (ts : List Token) → has ks ts ≡ true → Stopped (nest ks inner zero) (λ e. nested_phrase ks lang e) ts TooDeep ts
    deep [] c = cc
    deep (t ∷ ts) c = record { pre = []; splits = refl; stays = stays; begins = λ e i. begins e t ts i c }
      where
        stays : (other : List Token) → head_of (t ∷ ts) ≡ head_of other → nest ks inner zero other ≡ Err (TooDeep, other)
        stays [] n = cc
        stays (u ∷ us) n = taken u us (sym (has_same ks (t ∷ ts) (u ∷ us) n) ∙ c)

    stop : (ts rest : List Token) (k : Cause) → nest ks inner zero ts ≡ Err (k, rest) → Stopped (nest ks inner zero) (λ e. nested_phrase ks lang e) ts k rest
    stop ts rest k h = by_cases _ (has ks ts)
        (λ c. let v = err_same {A = Token × A} (TooDeep, ts) (k, rest) (sym (is_deep ts c) ∙ h) in
        subst (λ (z : Cause × List Token). Stopped (nest ks inner zero) (λ e. nested_phrase ks lang e) ts z.0 z.1) v (deep ts c))
        (λ c. let v = err_same {A = Token × A} (Unexpected, ts) (k, rest) (sym (refused ts c) ∙ h) in
        subst (λ (z : Cause × List Token). Stopped (nest ks inner zero) (λ e. nested_phrase ks lang e) ts z.0 z.1) v
        (record { pre = []; splits = refl; stays = λ other n. refused other (sym (has_same ks ts other n) ∙ c); begins = λ e i. begins' e ts i }))
      where
        is_deep : (ts : List Token) → has ks ts ≡ true → nest ks inner zero ts ≡ Err (TooDeep, ts)
        is_deep [] c = cc
        is_deep (t ∷ ts) c = taken t ts c

some_more : {A : Type 0} (lang : ℕ → Lang A) (d : ℕ) → HasPhrase lang → HasPhrase (λ e. lang (plus d e))
some_more lang d some e h = let p = plus_le d e in some (plus d e) (omega arith)

-- how far down the parts are read
pub nest_reads : {A : Type 0} (ks : List Kind) (example : Token) → is_in ks example ≡ true → (inner : ℕ → Reader A) (lang : ℕ → Lang A) → HasPhrase lang → (s : Shape) (d : ℕ) → ((b : ℕ) → d ≡ suc b → IsReader (inner b) (λ e. lang (plus b e)) s) → IsReader (nest ks inner d) (λ e. nested_phrase ks lang (plus d e)) (both (one_shape ks) s)
nest_reads ks example passes inner lang some s zero below = nest_zero_reads ks example passes inner lang some s
nest_reads ks example passes inner lang some s (suc d) below = follow_reads (one_reads ks d example passes) (below d refl) (some_more lang d some) (disjoint_nil s.starts)

-- ---- another shape
pub reshape : {A : Type 0} {f : Reader A} {l : ℕ → Lang A} {s : Shape} (r : Shape) → IsReader f l s → ((xs : List Marked) → First s xs → First r xs) → ((ts : List Token) → has r.goes ts ≡ false → has s.goes ts ≡ false) → IsReader f l r
reshape r F starts goes = record { first = λ e xs a h. starts xs (F.first e xs a h); again = λ e xs a rest h free. F.again e xs a rest h (goes rest free); found = F.found; stop = F.stop }

-- another description of the same phrases
pub same_reads : {A : Type 0} {f : Reader A} {l : ℕ → Lang A} {s : Shape} (m : ℕ → Lang A) → IsReader f l s → ((e : ℕ) (xs : List Marked) (a : A) → l e xs a → m e xs a) → ((e : ℕ) (xs : List Marked) (a : A) → m e xs a → l e xs a) → IsReader f m s
same_reads {A} {f = f} {l = l} m F to from = record {
  first = λ e xs a h. F.first e xs a (from e xs a h);
  again = λ e xs a rest h free. F.again e xs a rest (from e xs a h) free;
  found = λ ts rest a h. let q = F.found ts rest a h in record { pre = q.pre; splits = q.splits; stays = q.stays; whole = λ e. let w = q.whole e in (w.0, to e w.0 a w.1, w.2, w.3) };
  stop = λ ts rest k h. let q = F.stop ts rest k h in record { pre = q.pre; splits = q.splits; stays = q.stays; begins = λ e i. let b = q.begins e i in (b.0, b.1, b.2, to e (b.0 ++ b.1) b.2 b.3, b.4, b.5, b.6) };
}

-- ---- as often as there is one
pub some_at_most : {A : Type 0} (n : ℕ) (l : ℕ → Lang A) → HasPhrase (λ e. at_most n (l e))
some_at_most zero l e h = ([], [], (refl, refl))
some_at_most (suc n) l e h = ([], [], inr (refl, refl))

pub at_most_reads : {A : Type 0} {f : Reader A} {l : ℕ → Lang A} (st go : List Kind) → IsReader f l (full st go) → disjoint st go ≡ true → (n : ℕ) → IsReader (many_at n st f) (λ e. at_most n (l e)) (many_shape st go)
at_most_reads {A} {f = f} {l = l} st go F apart zero = reshape (many_shape st go) (nothing_reads []) starts (λ ts h. has_nil ts)
  where
    starts : (xs : List Marked) → First empty_shape xs → First (many_shape st go) xs
    starts [] h = refl
    starts (x ∷ xs) h = no_kind x.0 _ h
at_most_reads {A} {f = f} {l = l} st go F apart (suc n) =
    reshape (many_shape st go)
    (pick_reads (map_reads (λ p. p.0 ∷ p.1) (follow_reads F (at_most_reads st go F apart n) (some_at_most n l) apart)) (nothing_reads []) refl refl)
    starts goes
  where
    starts : (xs : List Marked) → First (either (both (full st go) (many_shape st go)) empty_shape) xs → First (many_shape st go) xs
    starts [] h = refl
    starts (x ∷ xs) h = subst (λ z. is_in z x.0 ≡ true) (append-nil st) h

    goes : (ts : List Token) → has (many_shape st go).goes ts ≡ false → has (either (both (full st go) (many_shape st go)) empty_shape).goes ts ≡ false
    goes ts h = let p = has_append st go ts h in has_join (go ++ (st ++ go)) ([] ++ st) ts (has_join go (st ++ go) ts p.1 h) p.0

pub each_at_most : {A : Type 0} (l : Lang A) (n : ℕ) (xs : List Marked) (vs : List A) → length vs ≤ n → each l xs vs → at_most n l xs vs
each_at_most l zero xs [] h e = (e, refl)
each_at_most l zero xs (v ∷ vs) h e = absurd (omega (arith, h))
each_at_most l (suc n) xs [] h e = inr (e, refl)
each_at_most l (suc n) xs (v ∷ vs) h e = inl ((v, vs), (e.0, e.1, e.2, each_at_most l n e.1 vs (omega (arith, h)) e.3, e.4), refl)

pub at_most_each : {A : Type 0} (l : Lang A) (n : ℕ) (xs : List Marked) (vs : List A) → at_most n l xs vs → each l xs vs
at_most_each l zero xs vs h = subst (λ z. each l xs z) h.1 h.0
at_most_each l (suc n) xs vs h = ⊎_elim
    (λ i. subst (λ z. each l xs z) i.2 (i.1.0, i.1.1, i.1.2, at_most_each l n i.1.1 i.0.1 i.1.3, i.1.4))
    (λ i. subst (λ z. each l xs z) i.1 i.0)
    h

pub not_empty : (st go : List Kind) (xs : List Marked) → First (full st go) xs → 0 < length xs
not_empty st go [] h = true_false false _ h refl
not_empty st go (x ∷ xs) h = omega arith

each_length : {A : Type 0} (l : Lang A) (st go : List Kind) (xs : List Marked) (vs : List A) → ((ys : List Marked) (a : A) → l ys a → First (full st go) ys) → each l xs vs → length vs ≤ length xs
each_length l st go xs [] f h = omega arith
each_length l st go xs (v ∷ vs) f h =
    let i = each_length l st go h.1 vs f h.3 in
    let j = not_empty st go h.0 (f h.0 v h.2) in
    omega (arith, ap length h.4, length-append h.0 h.1, i, j)

-- it is no matter how often it may go on, once there are no more tokens than that
follow_same : {A B : Type 0} (f : Reader A) (g h : Reader B) (ts : List Token) → ((a : A) (rest : List Token) → f ts ≡ Ok (a, rest) → g rest ≡ h rest) → follow f g ts ≡ follow f h ts
follow_same {A} {B} f g h ts same = step (f ts) refl
  where
    step : (r : Answer A) → f ts ≡ r → ◌≡◌ {A = Answer (A × B)} (r >>= λ x. g x.1 >>= λ y. Ok ((x.0, y.0), y.1)) (r >>= λ x. h x.1 >>= λ y. Ok ((x.0, y.0), y.1))
    step (Ok x) e = ap (λ z. z >>= λ y. Ok ((x.0, y.0), y.1)) (same x.0 x.1 e)
    step (Err e) i = refl

pub shorter : {A : Type 0} {f : Reader A} {l : ℕ → Lang A} (st go : List Kind) → IsReader f l (full st go) → (ts rest : List Token) (a : A) → f ts ≡ Ok (a, rest) → length rest < length ts
shorter {l = l} st go F ts rest a h =
    let q = F.found ts rest a h in let w = q.whole 0 in
    let n = not_empty st go w.0 (F.first 0 w.0 a w.1) in
    omega (arith, n, ap length q.splits, length-append q.pre rest, ap length w.3, plain_length w.0)

pub many_same : {A : Type 0} {f : Reader A} {l : ℕ → Lang A} (st go : List Kind) → IsReader f l (full st go) → (n m : ℕ) (ts : List Token) → length ts ≤ n → length ts ≤ m → many_at n st f ts ≡ many_at m st f ts
many_same st go F zero zero ts h i = refl
many_same st go F zero (suc m) [] h i = refl
many_same st go F (suc n) zero [] h i = refl
many_same st go F zero (suc m) (t ∷ ts) h i = absurd (omega (arith, h))
many_same st go F (suc n) zero (t ∷ ts) h i = absurd (omega (arith, i))
many_same {f = f} st go F (suc n) (suc m) ts h i = by_cases _ (has st ts)
    (λ c. rw c (ap (through (λ p. p.0 ∷ p.1)) (follow_same f (many_at n st f) (many_at m st f) ts
    (λ a rest e. let s = shorter st go F ts rest a e in many_same st go F n m rest (omega arith) (omega arith)))))
    (λ c. rw c refl)

pub many_reads : {A : Type 0} {f : Reader A} {l : ℕ → Lang A} (st go : List Kind) → IsReader f l (full st go) → disjoint st go ≡ true → IsReader (many st f) (λ e. each (l e)) (many_shape st go)
unfolding many
many_reads {A} {f = f} {l = l} st go F apart = record { first = first; again = again; found = found; stop = stop }
  where
    R : (n : ℕ) → IsReader (many_at n st f) (λ e. at_most n (l e)) (many_shape st go)
    R n = at_most_reads st go F apart n

    first : (e : ℕ) (xs : List Marked) (vs : List A) → each (l e) xs vs → First (many_shape st go) xs
    first e xs vs h = (R (length vs)).first e xs vs (each_at_most (l e) (length vs) xs vs (omega arith) h)

    again : (e : ℕ) (xs : List Marked) (vs : List A) (rest : List Token) → each (l e) xs vs → has (many_shape st go).goes rest ≡ false → many st f (plain xs ++ rest) ≡ outcome e xs vs rest
    again e xs vs rest h free =
        let n = length (plain xs ++ rest) in
        let i = each_length (l e) st go xs vs (λ ys a k. F.first e ys a k) h in
        let j : length vs ≤ length (plain xs ++ rest) = omega (arith, i, plain_length xs, length-append (plain xs) rest) in
        (R (length (plain xs ++ rest))).again e xs vs rest (each_at_most (l e) (length (plain xs ++ rest)) xs vs j h) free

    -- with room for more
    more : (ts us : List Token) → many st f ts ≡ many_at (length ts + length us) st f ts
    more ts us = many_same st go F (length ts) (length ts + length us) ts (omega arith) (omega arith)

    less : (ts us : List Token) → many_at (length ts + length us) st f us ≡ many st f us
    less ts us = many_same st go F (length ts + length us) (length us) us (omega arith) (omega arith)

    found : (ts rest : List Token) (vs : List A) → many st f ts ≡ Ok (vs, rest) → Found (many st f) (λ e. each (l e)) ts vs rest
    found ts rest vs h =
        let q = (R (length ts)).found ts rest vs h in
        record {
          pre = q.pre;
          splits = q.splits;
          stays = λ other n.
              let p = (R (length ts + length (q.pre ++ other))).found ts rest vs (sym (more ts (q.pre ++ other)) ∙ h) in
              let same : p.pre ≡ q.pre = cancel p.pre q.pre rest (sym p.splits ∙ q.splits) in
              sym (less ts (q.pre ++ other)) ∙ subst (λ z. many_at (length ts + length (q.pre ++ other)) st f (z ++ other) ≡ Ok (vs, other)) same (p.stays other n);
          whole = λ e. let w = q.whole e in (w.0, at_most_each (l e) (length ts) w.0 vs w.1, w.2, w.3);
        }

    stop : (ts rest : List Token) (k : Cause) → many st f ts ≡ Err (k, rest) → Stopped (many st f) (λ e. each (l e)) ts k rest
    stop ts rest k h =
        let q = (R (length ts)).stop ts rest k h in
        record {
          pre = q.pre;
          splits = q.splits;
          stays = λ other n.
              let p = (R (length ts + length (q.pre ++ other))).stop ts rest k (sym (more ts (q.pre ++ other)) ∙ h) in
              let same : p.pre ≡ q.pre = cancel p.pre q.pre rest (sym p.splits ∙ q.splits) in
              sym (less ts (q.pre ++ other)) ∙ subst (λ z. many_at (length ts + length (q.pre ++ other)) st f (z ++ other) ≡ Err (k, other)) same (p.stays other n);
          begins = λ e i. let b = q.begins e i in (b.0, b.1, b.2, at_most_each (l e) (length ts) (b.0 ++ b.1) b.2 b.3, b.4, b.5, b.6);
        }

-- ---- the same reader, written in another way
pub reads_as : {A : Type 0} {f : Reader A} {l : ℕ → Lang A} {s : Shape} (g : Reader A) → IsReader f l s → ((ts : List Token) → f ts ≡ g ts) → IsReader g l s
reads_as {f = f} g F same = record {
  first = F.first;
  again = λ e xs a rest h free. sym (same (plain xs ++ rest)) ∙ F.again e xs a rest h free;
  found = λ ts rest a h. let q = F.found ts rest a (same ts ∙ h) in record { pre = q.pre; splits = q.splits; stays = λ other n. sym (same (q.pre ++ other)) ∙ q.stays other n; whole = q.whole };
  stop = λ ts rest k h. let q = F.stop ts rest k (same ts ∙ h) in record { pre = q.pre; splits = q.splits; stays = λ other n. sym (same (q.pre ++ other)) ∙ q.stays other n; begins = q.begins };
}

pub leaf_reads : {A : Type 0} (ks : List Kind) (to : Token → A) (d : ℕ) (example : Token) → is_in ks example ≡ true → IsReader (leaf ks to) (λ e. token ks (plus d e) ⇒ to) (one_shape ks)
leaf_reads ks to d example passes = map_reads to (one_reads ks d example passes)

inside_is : {A : Type 0} (ks : List Kind) (inner : ℕ → Reader A) (d : ℕ) (ts : List Token) → through (λ p. (p.0.span, p.1)) (nest ks inner d ts) ≡ inside ks inner d ts
unfolding opening
inside_is {A} ks inner zero ts = step (one ks ts)
  where
    step : (r : Answer Token) → through {A = Token × A} {B = Span × A} (λ p. (p.0.span, p.1)) (r >>= λ x. Err (TooDeep, ts)) ≡ ((◌>>=◌ {B = Span × ℕ} r (λ x. Err (TooDeep, ts))) >>= λ x. inner x.0.1 x.1 >>= λ y. Ok ((x.0.0, y.0), y.1))
    step (Ok x) = refl
    step (Err e) = refl
inside_is {A} ks inner (suc d) ts = step (one ks ts)
  where
    last : (t : Token) (r : Answer A) → through {A = Token × A} {B = Span × A} (λ p. (p.0.span, p.1)) (r >>= λ y. Ok ((t, y.0), y.1)) ≡ (r >>= λ y. Ok ((t.span, y.0), y.1))
    last t (Ok x) = refl
    last t (Err e) = refl

    step : (r : Answer Token) → through {A = Token × A} {B = Span × A} (λ p. (p.0.span, p.1)) (r >>= λ x. inner d x.1 >>= λ y. Ok ((x.0, y.0), y.1)) ≡ ((◌>>=◌ {B = Span × ℕ} r (λ x. Ok ((x.0.span, d), x.1))) >>= λ x. inner x.0.1 x.1 >>= λ y. Ok ((x.0.0, y.0), y.1))
    step (Ok x) = last x.0 (inner d x.1)
    step (Err e) = refl

pub inside_reads : {A : Type 0} (ks : List Kind) (example : Token) → is_in ks example ≡ true → (inner : ℕ → Reader A) (lang : ℕ → Lang A) → HasPhrase lang → (s : Shape) (d : ℕ) → ((b : ℕ) → d ≡ suc b → IsReader (inner b) (λ e. lang (plus b e)) s) → IsReader (inside ks inner d) (λ e. opens ks lang (plus d e)) (both (one_shape ks) s)
inside_reads ks example passes inner lang some s d below = reads_as (inside ks inner d) (map_reads (λ p. (p.0.span, p.1)) (nest_reads ks example passes inner lang some s d below)) (inside_is ks inner d)

pub optional_reads : {A : Type 0} {f : Reader A} {l : ℕ → Lang A} (st go : List Kind) → IsReader f l (full st go) → IsReader (optional st f) (λ e. maybe (l e)) (record { starts = st; goes = go ++ ([] ++ st); empties = true })
optional_reads st go F = reshape (record { starts = st; goes = go ++ ([] ++ st); empties = true }) (pick_reads (map_reads (λ a. Some a) F) (nothing_reads None) refl refl) starts (λ ts h. h)
  where
    starts : (xs : List Marked) → First (either (full st go) empty_shape) xs → First (record { starts = st; goes = go ++ ([] ++ st); empties = true }) xs
    starts [] h = refl
    starts (x ∷ xs) h = subst (λ z. is_in z x.0 ≡ true) (append-nil st) h

follow_is : {A : Type 0} (f : Reader A) (n : ℕ) (ks : List Kind) (ts : List Token) → ((a : A) (rest : List Token) → f ts ≡ Ok (a, rest) → many_at n ks f rest ≡ many ks f rest) → follow f (many_at n ks f) ts ≡ follow f (many ks f) ts
follow_is f n ks ts same = follow_same f (many_at n ks f) (many ks f) ts same

pub many_next : {A : Type 0} {f : Reader A} {l : ℕ → Lang A} (st go : List Kind) → IsReader f l (full st go) → (ts : List Token) → has st ts ≡ true → many st f ts ≡ through (λ p. p.0 ∷ p.1) (follow f (many st f) ts)
unfolding many
many_next st go F [] h = cc
many_next {f = f} st go F (t ∷ ts) h =
    if_true (has st (t ∷ ts)) (through (λ p. p.0 ∷ p.1) (follow f (many_at (length ts) st f) (t ∷ ts))) (Ok ([], t ∷ ts)) h
    ∙ ap (through (λ p. p.0 ∷ p.1)) (follow_is f (length ts) st (t ∷ ts)
    (λ a rest e. let s = shorter st go F (t ∷ ts) rest a e in many_same st go F (length ts) (length rest) rest (omega arith) (omega arith)))

pub many_done : {A : Type 0} (f : Reader A) (st : List Kind) (ts : List Token) → has st ts ≡ false → many st f ts ≡ Ok ([], ts)
unfolding many
many_done f st [] h = refl
many_done f st (t ∷ ts) h = if_false (has st (t ∷ ts)) (through (λ p. p.0 ∷ p.1) (follow f (many_at (length ts) st f) (t ∷ ts))) (Ok ([], t ∷ ts)) h

-- another shape, by its lists
pub shaped : {A : Type 0} {f : Reader A} {l : ℕ → Lang A} {s : Shape} (r : Shape) → IsReader f l s → all_in s.starts r.starts ≡ true → all_in s.goes r.goes ≡ true → s.empties ≡ r.empties → IsReader f l r
shaped {s = s} r F a b c = reshape r F starts (λ ts h. has_fewer s.goes r.goes ts b h)
  where
    starts : (xs : List Marked) → First s xs → First r xs
    starts [] h = sym c ∙ h
    starts (x ∷ xs) h = in_more s.starts r.starts x.0 a h
