-- A grammar in which nothing is nested: what its reader answers, in words of tokens alone.
use Rattle.std.proofs.Common.{◌≡◌, ℕ, ◌≤◌, List, [], ◌∷◌, ◌++◌, length, false, Result, Ok, Err, refl, sym, ap, ◌∙◌, subst, arith}
use Rattle.jz_lex.specs.declared.token.Token.{Token}
use Rattle.jz_grammar.specs.Causes.{Cause, Unexpected, TooDeep}
use Rattle.jz_grammar.specs.Kinds.{Kind, has}
use Rattle.jz_grammar.specs.Readers.{Reader, final}
use Rattle.jz_grammar.specs.Grammar.{Marked, Lang, plain, Within}
use Rattle.jz_grammar.proofs.Laws.{Shape, IsReader, Next}
use Rattle.jz_grammar.specs.Deriving.{Derives, Begins, BeginsWithin, IsRefused}
use Rattle.jz_grammar.proofs.Basics.{plain_append}
use Rattle.jz_grammar.proofs.Steady.{IsSteady, with_mark, within_marked, plain_marked}
use Rattle.jz_grammar.proofs.Exact as x

module _ {A : Type 0} (read : Reader A) (lang : ℕ → Lang A) (s : Shape) (R : IsReader read lang s) (closed : (ts : List Token) → has s.goes ts ≡ false) (over : List Kind) (steady : IsSteady over lang) where
  -- a phrase that begins with these tokens, at any mark
  at_zero : (e : ℕ) (xs : List Marked) (ts : List Token) (a : A) → lang e xs a → plain xs ≡ ts → Derives lang 0 ts a
  at_zero e xs ts a h p = (with_mark 0 xs, (steady e 0 xs a h).1, plain_marked 0 (plain xs) ∙ p)

  pub begins_to : (ts : List Token) → Begins lang 0 ts → (more : List Token) × (a : A) × Derives lang 0 (ts ++ more) a
  begins_to ts h = (plain h.2, h.3, at_zero h.0 (h.1 ++ h.2) (ts ++ plain h.2) h.3 h.4 (plain_append h.1 h.2 ∙ ap (λ z. z ++ plain h.2) h.5))

  pub begins_from : (ts more : List Token) (a : A) → Derives lang 0 (ts ++ more) a → BeginsWithin lang 0 ts
  begins_from ts more a h = x.begins_front read lang 0 s R closed ts more (x.derives_begins read lang 0 s R closed (ts ++ more) a h)

  pub derives_to : (ts : List Token) (a : A) → Derives lang 0 ts a → final (read ts) ≡ Ok a
  derives_to ts a h = ap final (x.parsed_to read lang 0 s R closed ts a h)

  pub derives_from : (ts : List Token) (a : A) → final (read ts) ≡ Ok a → Derives lang 0 ts a
  derives_from ts a h = x.final_ok read lang 0 s R closed ts a h

  pub derives_one : (ts : List Token) (a b : A) → Derives lang 0 ts a → Derives lang 0 ts b → a ≡ b
  derives_one ts a b h i = x.parsed_one read lang 0 s R closed ts a b h i

  -- nothing is too deep
  begins_within : (ts : List Token) → Begins lang 0 ts → BeginsWithin lang 0 ts
  begins_within ts h = let b = begins_to ts h in begins_from ts b.0 b.1 b.2

  pub unexpected : (ts rest : List Token) (t : Token) (k : Cause) → final (read ts) ≡ Err (k, t ∷ rest) → (pre : List Token) × (ts ≡ pre ++ t ∷ rest) × (k ≡ Unexpected) × BeginsWithin lang 0 pre × (Begins lang 0 (pre ++ t ∷ []) → ⊥)
  unexpected ts rest t k h = let q = x.refused_from read lang 0 s R closed ts rest t k h in (q.0, q.1, (by_kind k q.0 q.2).0, (by_kind k q.0 q.2).1, (by_kind k q.0 q.2).2)
    where
      by_kind : (k : Cause) (pre : List Token) → IsRefused lang 0 k pre t → (k ≡ Unexpected) × BeginsWithin lang 0 pre × (Begins lang 0 (pre ++ t ∷ []) → ⊥)
      by_kind Unexpected pre r = (refl, r.0, r.1)
      by_kind TooDeep pre r = absurd (r.2 (begins_within (pre ++ t ∷ []) r.1))

  -- where the tokens end too early
  pub short : (ts : List Token) (k : Cause) → final (read ts) ≡ Err (k, []) → BeginsWithin lang 0 ts × ((a : A) → Derives lang 0 ts a → ⊥)
  short ts k h = (x.short read lang 0 s R closed ts k h, λ a d. bad a (derives_to ts a d))
    where
      bad : (a : A) → final (read ts) ≡ Ok a → ⊥
      bad a e = let c : ◌≡◌ {A = Result A (Cause × List Token)} (Ok a) (Err (k, [])) = sym e ∙ h in cc

  -- also there the cause is that nothing goes on so
  pub no_deep : (ts rest : List Token) → read ts ≡ Err (TooDeep, rest) → ⊥
  no_deep ts rest h =
      let q = R.stop ts rest TooDeep h in
      let b = q.begins 2 (omega arith) in
      deep b.0 b.1 rest (subst (λ z. Within 2 z) (sym (steady 2 0 (b.0 ++ b.1) b.2 b.3).0) (within_marked 2 (plain (b.0 ++ b.1)))) b.6
    where
      deep : (xs ys : List Marked) (rest : List Token) → Within 2 (xs ++ ys) → Next TooDeep 2 ys rest → ⊥
      deep [] [] rest w n = n
      deep [] (y ∷ ys) [] w n = n
      deep [] (y ∷ ys) (t ∷ rest) w n = omega (arith, w.0, n.1)
      deep (u ∷ xs) ys rest w n = deep xs ys rest w.1 n

  pub counted : (ts rest : List Token) (k : Cause) → final (read ts) ≡ Err (k, rest) → length rest ≤ length ts
  counted ts rest k h = x.counted read lang 0 s R closed ts rest k h
