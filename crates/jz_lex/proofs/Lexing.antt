-- Parts of a text, one after the other.
use Rattle.std.proofs.Common.{◌≡◌, ℕ, ◌<◌, ◌≤◌, List, [], ◌∷◌, ◌++◌, length, true, false, refl, sym, ap, ap₂, ◌∙◌, subst, arith, length-append}
use Rattle.jz_lex.specs.LexingWords.{is_lexeme, kind_of_word}
use Rattle.jz_lex.specs.Lexing.{begins_comment, IsSkipped, Longest, is_no_number, Part, Skipped, Lexeme, first_place, after, UpTo, IsLexed, HasNoToken}
use Rattle.jz_lex.specs.InnerFront.{shape_of, IsFront}
use Rattle.jz_io.specs.declared.span.Span.{Span}
use Rattle.jz_lex.specs.declared.token.Token.{Token}
use Rattle.jz_lex.specs.declared.token.TokenKind.TheVariants as kind
use Rattle.jz_lex.specs.declared.token.LexKind.{LexKind}
use Rattle.jz_lex.specs.declared.front.Shape.{Shape}
use Rattle.jz_lex.specs.declared.front.Front.TheVariants as front
use Rattle.jz_lex.proofs.LexingWords.{cut, no_empty, true_false}
use Rattle.jz_lex.proofs.LexingFront.{lexeme_alone}
use Rattle.jz_lex.proofs.Comments.{some_skipped}

-- the text is lexed up to rest at e
abbrev pub Until : List ℕ → List Token → Span → List ℕ → Type 0
Until text tokens e rest = (parts : List Part) × UpTo first_place text parts tokens e rest

-- one more part that is skipped
skipped_more : (s : Span) (text : List ℕ) (ps : List Part) (ts : List Token) (e : Span) (rest w more : List ℕ) → UpTo s text ps ts e rest → rest ≡ w ++ more → IsSkipped w more → UpTo s text (ps ++ Skipped w ∷ []) ts (after e w) more
skipped_more s text [] ts e rest w more u f h = (more, u.0 ∙ f, h, (refl, ap (λ z. after z w) u.1, u.2))
skipped_more s text (Skipped v ∷ ps) ts e rest w more u f h = (u.0, u.1, u.2, skipped_more (after s v) u.0 ps ts e rest w more u.3 f h)
skipped_more s text (Lexeme v ∷ ps) ts e rest w more u f h = (u.0, u.1, u.2, u.3, u.4, u.5, u.6, skipped_more (after s v) u.0 ps u.1 e rest w more u.7 f h)

-- one more lexeme
lexeme_more : (s : Span) (text : List ℕ) (ps : List Part) (ts : List Token) (e : Span) (rest w more : List ℕ) → UpTo s text ps ts e rest → rest ≡ w ++ more → begins_comment rest ≡ false → Longest w more → is_no_number w more ≡ false → UpTo s text (ps ++ Lexeme w ∷ []) (ts ++ record { kind = kind_of_word w; span = e } ∷ []) (after e w) more
lexeme_more s text [] ts e rest w more u f c l n =
    (more, [], u.0 ∙ f, ap begins_comment u.0 ∙ c, l, n, ap₂ (λ x y. x ++ record { kind = kind_of_word w; span = y } ∷ []) u.2 (sym u.1), (refl, ap (λ z. after z w) u.1, refl))
lexeme_more s text (Skipped v ∷ ps) ts e rest w more u f c l n = (u.0, u.1, u.2, lexeme_more (after s v) u.0 ps ts e rest w more u.3 f c l n)
lexeme_more s text (Lexeme v ∷ ps) ts e rest w more u f c l n =
    (u.0, u.1 ++ record { kind = kind_of_word w; span = e } ∷ [], u.2, u.3, u.4, u.5, ap (λ z. z ++ record { kind = kind_of_word w; span = e } ∷ []) u.6, lexeme_more (after s v) u.0 ps u.1 e rest w more u.7 f c l n)

pub skipped_step : (text : List ℕ) (ts : List Token) (e : Span) (rest w more : List ℕ) (n : ℕ) → Until text ts e rest → IsFront rest (front.Skipped n) → rest ≡ w ++ more → length w ≡ n → Until text ts (after e w) more
skipped_step text ts e rest w more n u p f l =
    let c = cut p.0 w p.1 more (sym p.2 ∙ f) (p.3 ∙ sym l) in
    let k : IsSkipped w more = subst (λ z. IsSkipped w z) c.1 (subst (λ z. IsSkipped z p.1) c.0 p.4) in
    (u.0 ++ Skipped w ∷ [], skipped_more first_place text u.0 ts e rest w more u.1 f k)

-- what the lexeme's bytes are
pub lexeme_is : (rest w more : List ℕ) (s : Shape) (n : ℕ) → IsFront rest (front.Lexeme s n) → rest ≡ w ++ more → length w ≡ n → Longest w more × (is_no_number w more ≡ false) × (shape_of w ≡ s)
lexeme_is rest w more s n p f l =
    let c = cut p.0 w p.1 more (sym p.2 ∙ f) (p.3 ∙ sym l) in
    let k : Longest w more = subst (λ z. Longest w z) c.1 (subst (λ z. Longest z p.1) c.0 p.5) in
    let m : is_no_number w more ≡ false = sym (ap₂ is_no_number c.0 c.1) ∙ p.6 in
    (k, m, ap shape_of (sym c.0) ∙ p.7)

pub lexeme_here : (rest w more : List ℕ) (s : Shape) (n : ℕ) → IsFront rest (front.Lexeme s n) → rest ≡ w ++ more → length w ≡ n → (is_lexeme w [] ≡ true) × (shape_of w ≡ s)
lexeme_here rest w more s n p f l = let q = lexeme_is rest w more s n p f l in (lexeme_alone w more q.0.0, q.2)

pub lexeme_step : (text : List ℕ) (ts : List Token) (e : Span) (rest w more : List ℕ) (s : Shape) (n : ℕ) → Until text ts e rest → IsFront rest (front.Lexeme s n) → rest ≡ w ++ more → length w ≡ n → Until text (ts ++ record { kind = kind_of_word w; span = e } ∷ []) (after e w) more
lexeme_step text ts e rest w more s n u p f l =
    let q = lexeme_is rest w more s n p f l in
    (u.0 ++ Lexeme w ∷ [], lexeme_more first_place text u.0 ts e rest w more u.1 f p.4 q.0 q.1)

pub skipped_length : (rest : List ℕ) (n : ℕ) → IsFront rest (front.Skipped n) → (n ≤ length rest) × (0 < n)
skipped_length rest n p = (omega (arith, ap length p.2, length-append p.0 p.1, p.3), subst (λ z. 0 < z) p.3 (some_skipped p.0 p.1 p.4))

pub lexeme_length : (rest : List ℕ) (s : Shape) (n : ℕ) → IsFront rest (front.Lexeme s n) → (n ≤ length rest) × (0 < n)
lexeme_length rest s n p = (omega (arith, ap length p.2, length-append p.0 p.1, p.3), subst (λ z. 0 < z) p.3 (some p.0 p.1 p.5.0))
  where
    some : (w more : List ℕ) → is_lexeme w more ≡ true → 0 < length w
    some [] more h = true_false (is_lexeme [] more) _ h (no_empty more)
    some (b ∷ w) more h = omega arith

pub refused_here : (text : List ℕ) (ts : List Token) (e : Span) (rest : List ℕ) (k : LexKind) → Until text ts e rest → IsFront rest (front.NoToken k) → HasNoToken text (record { kind = k; span = e })
refused_here text ts e rest k u p = (u.0, ts, rest, u.1, p)

pub lexed_here : (text : List ℕ) (ts : List Token) (e : Span) (rest : List ℕ) → Until text ts e rest → length rest ≡ 0 → IsLexed text (ts ++ record { kind = kind.End; span = e } ∷ [])
lexed_here text ts e [] u n = (u.0, ts, e, u.1, refl)
lexed_here text ts e (b ∷ rest) u n = absurd (omega (arith, n))
