-- Where an end stands last, a fault is at a token.
use Rattle.std.proofs.Common.{◌≡◌, ℕ, ◌<◌, List, [], ◌∷◌, ◌++◌, length, true, false, Ok, refl, sym, ap, subst, ◌∙◌, arith, append-nil, length-append}
use Rattle.jz_grammar.proofs.LexingWords.{true_false}
use Rattle.jz_grammar.specs.Token.{Token}
use Rattle.jz_grammar.specs.TokenKind.TheVariants.{End}
use Rattle.jz_grammar.specs.Kinds.{token_kind, end, member, is_in}
use Rattle.jz_grammar.specs.Grammar.{Marked, plain, Within}
use Rattle.jz_grammar.specs.Deriving.{Derives, plus}
use Rattle.jz_grammar.proofs.Basics.{outcome_within}
use Rattle.jz_grammar.proofs.Combine.{has_nil}
use Rattle.jz_grammar.proofs.Exact as x
use Rattle.jz_tree.specs.declared.program.Program.{Program}
use Rattle.jz_grammar.specs.declared.fault.SyntaxFault.{SyntaxFault}
use Rattle.jz_parse.specs.Deriving.{IsStoppedAt, IsFaultWithin}
use Rattle.jz_parse.specs.Grammar as g
use Rattle.jz_parse.specs.InnerReaders as r
use Rattle.jz_parse.proofs.Endless.{NoEnd, parts}
use Rattle.jz_parse.proofs.FunctionLaws.{program_shape, program_law}

is_end : (t : Token) → t.kind ≡ End → is_in (end ∷ []) t ≡ true
unfolding is_in
is_end t h = ap (λ z. member (token_kind z) (end ∷ [])) h

no_more : (v : Marked) (xs ys : List Marked) (x : Marked) → x ∷ (xs ++ ys) ≡ v ∷ [] → ys ≡ []
no_more v [] [] x h = refl
no_more v [] (y ∷ ys) x h = absurd (omega (arith, ap length h))
no_more v (z ∷ xs) ys x h = absurd (omega (arith, ap length h, length-append xs ys))

-- an end among the tokens is the last
ends_there : (xs ys us : List Marked) (v : Marked) (front : List Token) (last : Token) → xs ++ ys ≡ us ++ v ∷ [] → NoEnd us → plain xs ≡ front ++ last ∷ [] → is_in (end ∷ []) last ≡ true → ys ≡ []
ends_there [] ys us v front last h n p i = absurd (omega (arith, ap length p, length-append front (last ∷ [])))
ends_there (x ∷ xs) ys [] v front last h n p i = no_more v xs ys x h
ends_there (x ∷ xs) ys (u ∷ us) v [] last h n p i =
    let a : x ≡ u = cc in
    let b : x.0 ≡ last = cc in
    true_false (is_in (end ∷ []) last) _ i (subst (λ z. is_in (end ∷ []) z ≡ false) (sym (ap (λ z. z.0) a) ∙ b) n.0)
ends_there (x ∷ xs) ys (u ∷ us) v (w ∷ front) last h n p i =
    let a : xs ++ ys ≡ us ++ v ∷ [] = cc in
    let b : plain xs ≡ front ++ last ∷ [] = cc in
    ends_there xs ys us v front last a n.1 b i

-- a program that begins with all of them is one of them
whole : (limit e : ℕ) (xs ys : List Marked) (p : Program) (front : List Token) (last : Token) → g.program (plus limit e) (xs ++ ys) p → plain xs ≡ front ++ last ∷ [] → Within e xs → is_in (end ∷ []) last ≡ true → Derives g.program limit (front ++ last ∷ []) p
whole limit e xs ys p front last l q w i =
    let k = l.1 in
    let t = k.3 in
    let none : ys ≡ [] = ends_there xs ys k.0 (t.0, plus limit e) front last (k.4 ∙ ap (λ z. k.0 ++ z) t.1.0) ((parts (plus limit e)).inner k.0 l.0.0 k.2) q i in
    let m : g.program (plus limit e) xs p = subst (λ z. g.program (plus limit e) z p) (append-nil xs) (subst (λ z. g.program (plus limit e) (xs ++ z) p) none l) in
    let read : r.program limit (front ++ last ∷ []) ≡ Ok (p, []) =
    ap (r.program limit) (sym (append-nil (plain xs) ∙ q)) ∙ (program_law limit).again e xs p [] m (has_nil []) ∙ outcome_within e xs p [] w in
    x.parsed_from (r.program limit) g.program limit program_shape (program_law limit) has_nil (front ++ last ∷ []) p read

pub at_a_token_law : (limit : ℕ) (front : List Token) (last : Token) (f : SyntaxFault) → last.kind ≡ End → IsFaultWithin limit (front ++ last ∷ []) f → f.token < length (front ++ last ∷ [])
at_a_token_law limit front last f h u = at u.0 u.1 u.2 u.3 u.4
  where
    at : (pre rest : List Token) → front ++ last ∷ [] ≡ pre ++ rest → length pre ≡ f.token → IsStoppedAt limit f.kind pre rest f.span → f.token < length (front ++ last ∷ [])
    at pre [] s n w =
        let same : pre ≡ front ++ last ∷ [] = sym (append-nil pre) ∙ sym s in
        let b = w.1 in
        absurd (w.2 b.3 (subst (λ z. Derives g.program limit z b.3) (sym same) (whole limit b.0 b.1 b.2 b.3 front last b.4 (b.5 ∙ same) b.6 (is_end last h))))
    at pre (t ∷ rest) s n w = omega (arith, n, ap length s, length-append pre (t ∷ rest))
