-- Programs and faults of lists of tokens, at any limit.
use Rattle.std.proofs.Common.{◌≡◌, ⊎_elim, ℕ, ◌-◌, ◌<◌, nat_lt, if◌then◌else◌, List, [], ◌∷◌, ◌++◌, length, slice_get, false, Some, Result, Ok, Err, refl, sym, ap, subst, ◌∙◌, arith, append-nil, length-append}
use Rattle.std.proofs.lemmas.Bool.{lt-ltb}
use Rattle.jz_grammar.proofs.LexingWords.{if_false, if_true}
use Rattle.jz_tree.specs.Span.{Span}
use Rattle.jz_grammar.specs.Token.{Token}
use Rattle.jz_grammar.specs.Causes.{Cause, cause_of}
use Rattle.jz_grammar.specs.Causes as cause
use Rattle.jz_grammar.specs.Readers.{Answer, final}
use Rattle.jz_grammar.specs.Grammar.{Marked}
use Rattle.jz_grammar.proofs.Laws.{Next}
use Rattle.jz_grammar.specs.Deriving.{Derives, BeginsWithin, IsRefused}
use Rattle.jz_grammar.proofs.Combine.{has_nil}
use Rattle.jz_grammar.proofs.Exact as x
use Rattle.jz_grammar.proofs.Exact.{compare}
use Rattle.jz_tree.specs.declared.program.Program.{Program}
use Rattle.jz_grammar.specs.declared.fault.SyntaxKind.{SyntaxKind}
use Rattle.jz_grammar.specs.declared.fault.SyntaxKind.TheVariants.{Unexpected, TooDeep}
use Rattle.jz_grammar.specs.declared.fault.SyntaxFault.{SyntaxFault}
use Rattle.jz_grammar.specs.InnerNumbered.{numbered_answer}
use Rattle.jz_grammar.specs.Places.{span_at, span_or_start, IsFaultAt}
use Rattle.jz_parse.specs.Deriving.{IsStoppedAt, IsFaultWithin}
use Rattle.jz_parse.specs.Grammar as g
use Rattle.jz_parse.specs.InnerReaders as r
use Rattle.jz_parse.proofs.FunctionLaws.{program_shape, program_law}

-- ---- what was read, and what is left
pub read_done : (limit n : ℕ) (ts now : List Token) (p : Program) → r.program limit ts ≡ Ok (p, now) → length now ≡ 0 → numbered_answer n (final (r.program limit ts)) ≡ Ok p
read_done limit n ts [] p h e = ap (λ z. numbered_answer n (final z)) h
read_done limit n ts (t ∷ now) p h e = absurd (omega (arith, e))

pub read_over : (limit n : ℕ) (ts now : List Token) (p : Program) → r.program limit ts ≡ Ok (p, now) → (length now ≡ 0 → ⊥) → numbered_answer n (final (r.program limit ts)) ≡ Err (cause.Unexpected, n - length now)
read_over limit n ts [] p h e = absurd (e refl)
read_over limit n ts (t ∷ now) p h e = ap (λ z. numbered_answer n (final z)) h

pub read_wrong : (limit n : ℕ) (ts now : List Token) (k : Cause) → r.program limit ts ≡ Err (k, now) → numbered_answer n (final (r.program limit ts)) ≡ Err (k, n - length now)
read_wrong limit n ts now k h = ap (λ z. numbered_answer n (final z)) h

-- ---- causes
same_cause : (k j : SyntaxKind) → cause_of k ≡ cause_of j → k ≡ j
same_cause Unexpected Unexpected h = refl
same_cause Unexpected TooDeep h = cc
same_cause TooDeep Unexpected h = cc
same_cause TooDeep TooDeep h = refl

same_pair : {A B : Type 0} (a c : A) (b d : B) → ◌≡◌ {A = Result Program (A × B)} (Err (a, b)) (Err (c, d)) → (a ≡ c) × (b ≡ d)
same_pair {A} {B} a c b d h = let p : ◌≡◌ {A = A × B} (a, b) (c, d) = cc in (ap (λ z. z.0) p, ap (λ z. z.1) p)

-- ---- the reader in words of tokens
pub derived : (limit n : ℕ) (ts : List Token) (p : Program) → numbered_answer n (final (r.program limit ts)) ≡ Ok p → Derives g.program limit ts p
derived limit n ts p h = cases (final (r.program limit ts)) refl h
  where
    cases : (w : Result Program (Cause × List Token)) → final (r.program limit ts) ≡ w → numbered_answer n w ≡ Ok p → Derives g.program limit ts p
    cases (Ok a) e i = let s : a ≡ p = cc in x.final_ok (r.program limit) g.program limit program_shape (program_law limit) has_nil ts p (e ∙ ap (λ z. Ok z) s)
    cases (Err a) e i = cc

pub one_program_law : (limit : ℕ) (ts : List Token) (p q : Program) → Derives g.program limit ts p → Derives g.program limit ts q → p ≡ q
one_program_law limit ts p q h i = x.parsed_one (r.program limit) g.program limit program_shape (program_law limit) has_nil ts p q h i

-- where the tokens run out nothing is too deep
next_none : (e : ℕ) (ys : List Marked) → Next cause.TooDeep e ys [] → ⊥
next_none e [] h = h
next_none e (y ∷ ys) h = h

short_cause : (limit : ℕ) (ts : List Token) (k : Cause) → final (r.program limit ts) ≡ Err (k, []) → k ≡ cause.Unexpected
short_cause limit ts cause.Unexpected h = refl
short_cause limit ts cause.TooDeep h = absurd (cases (r.program limit ts) refl)
  where
    cases : (w : Answer Program) → r.program limit ts ≡ w → ⊥
    cases (Ok (a, [])) e = let c : ◌≡◌ {A = Result Program (Cause × List Token)} (Ok a) (Err (cause.TooDeep, [])) = sym (ap final e) ∙ h in cc
    cases (Ok (a, t ∷ rest)) e =
        let c = same_pair cause.Unexpected cause.TooDeep (t ∷ rest) [] (sym (ap final e) ∙ h) in
        absurd (omega (arith, ap length c.1))
    cases (Err (k, rest)) e =
        let c = same_pair k cause.TooDeep rest [] (sym (ap final e) ∙ h) in
        let f : r.program limit ts ≡ Err (cause.TooDeep, []) = e ∙ ap (λ z. Err (z, rest)) c.0 ∙ ap (λ z. Err (cause.TooDeep, z)) c.1 in
        let b = ((program_law limit).stop ts [] cause.TooDeep f).begins 2 (omega arith) in
        next_none 2 b.1 b.6

-- ---- places
there : (front : List Token) (t : Token) (rest : List Token) → slice_get (front ++ t ∷ rest) (length front) ≡ Some t
there [] t rest = refl
there (u ∷ front) t rest = there front t rest

inside : (a b : ℕ) → a < b → (if nat_lt a b then a else b - 1) ≡ a
inside a b h = if_true (nat_lt a b) a (b - 1) (lt-ltb a b h)

outside : (a b : ℕ) → a ≡ b → (if nat_lt a b then a else b - 1) ≡ b - 1
outside a b h = if_false (nat_lt a b) a (b - 1) (not_less a b h)
  where
    not_less : (a b : ℕ) → a ≡ b → nat_lt a b ≡ false
    not_less a b h = grind arith

-- ---- the fault
pub fault_law : (limit : ℕ) (ts : List Token) (k : SyntaxKind) (at : ℕ) (f : SyntaxFault) → numbered_answer (length ts) (final (r.program limit ts)) ≡ Err (cause_of k, at) → IsFaultAt k ts at f → IsFaultWithin limit ts f
fault_law limit ts k at f h is = cases (final (r.program limit ts)) refl h
  where
    cases : (w : Result Program (Cause × List Token)) → final (r.program limit ts) ≡ w → numbered_answer (length ts) w ≡ Err (cause_of k, at) → IsFaultWithin limit ts f
    cases (Ok a) e i = cc
    cases (Err (c, [])) e i =
        let n = same_pair c (cause_of k) (length ts - 0) at i in
        let m : at ≡ length ts = omega (arith, n.1) in
        let u : f.kind ≡ Unexpected = is.0 ∙ same_cause k Unexpected (sym n.0 ∙ short_cause limit ts c e) in
        let b = x.short (r.program limit) g.program limit program_shape (program_law limit) has_nil ts c e in
        (ts, [], sym (append-nil ts), sym m ∙ sym is.1, (u, b, none, is.2 ∙ ap (span_at ts) (outside at (length ts) m)))
      where
        none : (p : Program) → Derives g.program limit ts p → ⊥
        none p d =
            let q : final (r.program limit ts) ≡ Ok p = ap final (x.parsed_to (r.program limit) g.program limit program_shape (program_law limit) has_nil ts p d) in
            let c : ◌≡◌ {A = Result Program (Cause × List Token)} (Ok p) (Err (c, [])) = sym q ∙ e in cc
    cases (Err (c, t ∷ rest)) e i =
        let n = same_pair c (cause_of k) (length ts - length (t ∷ rest)) at i in
        let q = x.refused_from (r.program limit) g.program limit program_shape (program_law limit) has_nil ts rest t c e in
        let m : at ≡ length q.0 = omega (arith, n.1, ap length q.1, length-append q.0 (t ∷ rest)) in
        let l : length q.0 < length (q.0 ++ t ∷ rest) = omega (arith, length-append q.0 (t ∷ rest)) in
        let sp : f.span ≡ t.span =
        subst (λ z. f.span ≡ span_at (q.0 ++ t ∷ rest) (if nat_lt z (length (q.0 ++ t ∷ rest)) then z else length (q.0 ++ t ∷ rest) - 1)) m
        (subst (λ z. f.span ≡ span_at z (if nat_lt at (length z) then at else length z - 1)) q.1 is.2)
        ∙ ap (span_at (q.0 ++ t ∷ rest)) (inside (length q.0) (length (q.0 ++ t ∷ rest)) l)
        ∙ ap span_or_start (there q.0 t rest) in
        (q.0, t ∷ rest, q.1, sym m ∙ sym is.1, (subst (λ z. IsRefused g.program limit z q.0 t) (n.0 ∙ sym (ap cause_of is.0)) q.2, sp))

-- ---- one fault
no_begin : (limit : ℕ) (k : Cause) (pre more : List Token) (t : Token) → IsRefused g.program limit k pre t → BeginsWithin g.program limit (pre ++ t ∷ more) → ⊥
no_begin limit k pre more t h b = x.no_begin (r.program limit) g.program limit program_shape (program_law limit) has_nil k pre more t h b

pub no_fault_law : (limit : ℕ) (ts : List Token) (p : Program) (f : SyntaxFault) → Derives g.program limit ts p → IsFaultWithin limit ts f → ⊥
no_fault_law limit ts p f d u = none u.0 u.1 u.2 u.4
  where
    none : (front rest : List Token) → ts ≡ front ++ rest → IsStoppedAt limit f.kind front rest f.span → ⊥
    none front [] s w = w.2 p (subst (λ z. Derives g.program limit z p) (s ∙ append-nil front) d)
    none front (t ∷ rest) s w = x.refused_none (r.program limit) g.program limit program_shape (program_law limit) has_nil (cause_of f.kind) front rest t p w.0 (subst (λ z. Derives g.program limit z p) s d)

fault_same : (f h : SyntaxFault) → f.kind ≡ h.kind → f.token ≡ h.token → f.span ≡ h.span → f ≡ h
fault_same f h k t s = ap (λ z. record f { kind = z }) k ∙ ap (λ z. record f { kind = h.kind; token = z }) t ∙ ap (λ z. record h { span = z }) s

-- where a fault is, its list only begins
fronts_begin : (limit : ℕ) (k : SyntaxKind) (front rest : List Token) (s : Span) → IsStoppedAt limit k front rest s → BeginsWithin g.program limit front
fronts_begin limit k front [] s w = w.1
fronts_begin limit Unexpected front (t ∷ rest) s w = w.0.0
fronts_begin limit TooDeep front (t ∷ rest) s w = w.0.0

same_stop : (limit : ℕ) (k j : SyntaxKind) (front rest : List Token) (a b : Span) → IsStoppedAt limit k front rest a → IsStoppedAt limit j front rest b → (k ≡ j) × (a ≡ b)
same_stop limit k j front [] a b u v = (u.0 ∙ sym v.0, u.3 ∙ sym v.3)
same_stop limit k j front (t ∷ rest) a b u v =
    let z = x.one_refusal (r.program limit) g.program limit program_shape (program_law limit) has_nil (cause_of k) (cause_of j) front front rest rest t t u.0 v.0 refl in
    (same_cause k j z.0, u.1 ∙ sym v.1)

-- the later of two faults is the earlier one
one_of_two : (limit : ℕ) (ts : List Token) (f h : SyntaxFault) (u : IsFaultWithin limit ts f) (v : IsFaultWithin limit ts h) (m : List Token) → v.0 ≡ u.0 ++ m → u.1 ≡ m ++ v.1 → f ≡ h
one_of_two limit ts f h u v [] a b =
    let fronts : v.0 ≡ u.0 = a ∙ append-nil u.0 in
    let w = same_stop limit f.kind h.kind v.0 v.1 f.span h.span (subst (λ z. IsStoppedAt limit f.kind z v.1 f.span) (sym fronts) (subst (λ z. IsStoppedAt limit f.kind u.0 z f.span) b u.4)) v.4 in
    fault_same f h w.0 (sym u.3 ∙ ap length (sym fronts) ∙ v.3) w.1
one_of_two limit ts f h u v (t ∷ m) a b =
    let w = subst (λ z. IsStoppedAt limit f.kind u.0 z f.span) b u.4 in
    absurd (no_begin limit (cause_of f.kind) u.0 m t w.0 (subst (λ z. BeginsWithin g.program limit z) a (fronts_begin limit h.kind v.0 v.1 h.span v.4)))

pub one_fault_law : (limit : ℕ) (ts : List Token) (f h : SyntaxFault) → IsFaultWithin limit ts f → IsFaultWithin limit ts h → f ≡ h
one_fault_law limit ts f h u v = ⊎_elim
    (λ i. one_of_two limit ts f h u v i.0 i.1 i.2)
    (λ i. sym (one_of_two limit ts h f v u i.0 i.1 i.2))
    (compare u.0 u.1 v.0 v.1 (sym u.2 ∙ v.2))
