-- One after the other, where the first decides what the second may be.
use Rattle.std.proofs.Common.{◌≡◌, ⊎_elim, ℕ, List, [], ◌∷◌, ◌++◌, true, false, Ok, Err, refl, sym, ap, ap₂, ◌∙◌, subst, arith, append_assoc, nat_lt}
use Rattle.jz_lex.proofs.LexingWords.{by_cases}
use Rattle.jz_lex.specs.declared.token.Token.{Token}
use Rattle.jz_grammar.specs.Causes.{Cause}
use Rattle.jz_grammar.specs.Kinds.{disjoint, has}
use Rattle.jz_grammar.specs.Readers.{Answer, Reader, ◌>>=◌, depend}
use Rattle.jz_grammar.specs.Grammar.{Marked, Lang, plain, then_by}
use Rattle.jz_grammar.proofs.Laws.{Shape, head_of, First, outcome, Found, Stopped, IsReader, HasPhrase, both}
use Rattle.jz_grammar.proofs.Basics.{in_left, in_right, has_append, in_apart, head_append, plain_append, plain_rest, within_append, outcome_append, next_more, bind_ok, bind_err, ok_same, ok_err}

pub depend_reads : {A B : Type 0} {f : Reader A} {g : A → Reader B} {l : ℕ → Lang A} {m : A → ℕ → Lang B} {s r : Shape} → IsReader f l s → ((a : A) → IsReader (g a) (m a) r) → ((a : A) → HasPhrase (m a)) → disjoint r.starts s.goes ≡ true → IsReader (depend f g) (λ e. then_by (l e) (λ a. m a e)) (both s r)
depend_reads {A} {B} {f = f} {g = g} {l = l} {m = m} {s = s} {r = r} F G some apart = record { first = first; again = again; found = found; stop = stop }
  where
    first_both : (e : ℕ) (ys zs : List Marked) (a : A) (b : B) → First s ys → First r zs → First (both s r) (ys ++ zs)
    first_both e [] [] a b h k = rw h k
    first_both e [] (z ∷ zs) a b h k = rw h (in_right s.starts r.starts z.0 k)
    first_both e (y ∷ ys) zs a b h k = by_cases _ s.empties (λ c. rw c (in_left s.starts r.starts y.0 h)) (λ c. rw c h)

    first : (e : ℕ) (xs : List Marked) (p : A × B) → (then_by (l e) (λ a. m a e)) xs p → First (both s r) xs
    first e xs p h = subst (λ z. First (both s r) z) (sym h.4) (first_both e h.0 h.1 p.0 p.1 (F.first e h.0 p.0 h.2) ((G p.0).first e h.1 p.1 h.3))

    -- what comes after the first part does not go on with it
    ends : (zs : List Marked) (rest : List Token) → First r zs → has (both s r).goes rest ≡ false → (has s.goes (plain zs ++ rest) ≡ false) × (has r.goes rest ≡ false)
    ends [] rest c h = has_append s.goes r.goes rest (sym (rw c refl) ∙ h)
    ends (z ∷ zs) rest c h = (
      in_apart r.starts s.goes z.0 apart c,
      by_cases _ r.empties
          (λ t. (has_append s.goes r.goes rest (sym (rw t refl) ∙ h)).1)
          (λ t. sym (rw t refl) ∙ h),
    )

    again : (e : ℕ) (xs : List Marked) (p : A × B) (rest : List Token) → (then_by (l e) (λ a. m a e)) xs p → has (both s r).goes rest ≡ false → depend f g (plain xs ++ rest) ≡ outcome e xs p rest
    again e xs p rest h free =
        let n = ends h.1 rest ((G p.0).first e h.1 p.1 h.3) free in
        let one' = F.again e h.0 p.0 (plain h.1 ++ rest) h.2 n.0 in
        let two = (G p.0).again e h.1 p.1 rest h.3 n.1 in
        subst (λ z. depend f g (plain z ++ rest) ≡ outcome e z p rest) (sym h.4)
        (ap (λ z. depend f g z) (plain_rest h.0 h.1 rest)
        ∙ ap (λ z. z >>= λ x. g x.0 x.1 >>= λ y. Ok ((x.0, y.0), y.1)) one'
        ∙ second e h.0 p.0 (plain h.1 ++ rest) (outcome e h.1 p.1 rest) two
        ∙ sym (outcome_append e h.0 h.1 p.0 p.1 rest))
      where
        second : (e : ℕ) (ys : List Marked) (a : A) (us : List Token) (o : Answer B) → g a us ≡ o → ◌≡◌ {A = Answer (A × B)} (outcome e ys a us >>= λ x. g x.0 x.1 >>= λ y. Ok ((x.0, y.0), y.1)) (outcome e ys a us >>= λ x. o >>= λ y. Ok ((x.0, y.0), y.1))
        second e [] a us o h = ap (λ z. z >>= λ y. Ok ((a, y.0), y.1)) h
        second e (y ∷ ys) a us o h = by_cases _ (nat_lt y.1 e) (λ c. rw c refl) (λ c. rw c (second e ys a us o h))

    found : (ts rest : List Token) (p : A × B) → depend f g ts ≡ Ok (p, rest) → Found (depend f g) (λ e. then_by (l e) (λ a. m a e)) ts p rest
    found ts rest p h =
        let x = bind_ok (f ts) (λ x. g x.0 x.1 >>= λ y. Ok ((x.0, y.0), y.1)) (p, rest) h in
        let y = bind_ok (g x.0.0 x.0.1) (λ y. Ok ((x.0.0, y.0), y.1)) (p, rest) x.2 in
        let same : ◌≡◌ {A = (A × B) × List Token} ((x.0.0, y.0.0), y.0.1) (p, rest) = ok_same _ _ y.2 in
        let fx = F.found ts x.0.1 x.0.0 x.1 in
        let gy = (G x.0.0).found x.0.1 y.0.1 y.0.0 y.1 in
        subst (λ (q : (A × B) × List Token). Found (depend f g) (λ e. then_by (l e) (λ a. m a e)) ts q.0 q.1) same
        (record {
          pre = fx.pre ++ gy.pre;
          splits = fx.splits ∙ ap (λ z. fx.pre ++ z) gy.splits ∙ sym (append_assoc fx.pre gy.pre y.0.1);
          stays = λ other c.
              ap (λ z. depend f g z) (append_assoc fx.pre gy.pre other)
              ∙ ap (λ z. z >>= λ x. g x.0 x.1 >>= λ y. Ok ((x.0, y.0), y.1)) (fx.stays (gy.pre ++ other) (ap head_of gy.splits ∙ head_append gy.pre y.0.1 other c))
              ∙ ap (λ z. z >>= λ w. Ok ((x.0.0, w.0), w.1)) (gy.stays other c);
          whole = λ e. let u = fx.whole e in let v = gy.whole e in
              (u.0 ++ v.0, (u.0, v.0, u.1, v.1, refl), within_append e u.0 v.0 u.2 v.2, plain_append u.0 v.0 ∙ ap₂ (λ a b. a ++ b) u.3 v.3);
        })

    stop : (ts rest : List Token) (k : Cause) → depend f g ts ≡ Err (k, rest) → Stopped (depend f g) (λ e. then_by (l e) (λ a. m a e)) ts k rest
    stop ts rest k h = ⊎_elim
        (λ c. let q = F.stop ts rest k c in record {
          pre = q.pre;
          splits = q.splits;
          stays = λ other n. ap (λ z. z >>= λ x. g x.0 x.1 >>= λ y. Ok ((x.0, y.0), y.1)) (q.stays other n);
          begins = λ e i. let b = q.begins e i in let w = some b.2 e (omega arith) in
              (b.0, b.1 ++ w.0, (b.2, w.1), (b.0 ++ b.1, w.0, b.3, w.2, sym (append_assoc b.0 b.1 w.0)), b.4, b.5, next_more k e b.1 w.0 rest b.6);
        })
        (λ x. ⊎_elim
        (λ c. let fx = F.found ts x.0.1 x.0.0 x.1 in let q = (G x.0.0).stop x.0.1 rest k c in record {
          pre = fx.pre ++ q.pre;
          splits = fx.splits ∙ ap (λ z. fx.pre ++ z) q.splits ∙ sym (append_assoc fx.pre q.pre rest);
          stays = λ other n.
              ap (λ z. depend f g z) (append_assoc fx.pre q.pre other)
              ∙ ap (λ z. z >>= λ x. g x.0 x.1 >>= λ y. Ok ((x.0, y.0), y.1)) (fx.stays (q.pre ++ other) (ap head_of q.splits ∙ head_append q.pre rest other n))
              ∙ ap (λ z. z >>= λ w. Ok ((x.0.0, w.0), w.1)) (q.stays other n);
          begins = λ e i. let u = fx.whole e in let b = q.begins e i in
              (u.0 ++ b.0, b.1, (x.0.0, b.2), (u.0, b.0 ++ b.1, u.1, b.3, append_assoc u.0 b.0 b.1), within_append e u.0 b.0 u.2 b.4, plain_append u.0 b.0 ∙ ap₂ (λ a b. a ++ b) u.3 b.5, b.6);
        })
        (λ y. ok_err _ (k, rest) _ y.2)
        (bind_err (g x.0.0 x.0.1) (λ y. Ok ((x.0.0, y.0), y.1)) (k, rest) x.2))
        (bind_err (f ts) (λ x. g x.0 x.1 >>= λ y. Ok ((x.0, y.0), y.1)) (k, rest) h)
