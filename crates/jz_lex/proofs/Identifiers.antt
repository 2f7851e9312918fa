-- The identifiers among the tokens of a text, and their bytes.
use Rattle.std.proofs.Common.{◌≡◌, ⊎_elim, ℕ, List, [], ◌∷◌, Bool, true, false, ◌&&◌, ◌||◌, ◌==◌, nat_le, refl, sym, subst}
use Rattle.std.specs.List.{All, list_all}
use Rattle.std.specs.Char.{is_ascii_alphabetic, is_ascii_digit}
use Rattle.std.proofs.lemmas.List.Elements.{All-nil, All-cons, All-append}
use Rattle.std.proofs.lemmas.Bool.{and_parts, or_left, or_right}
use Rattle.jz_lex.specs.LexingWords.{begins_word, in_word, kind_of_word}
use Rattle.jz_lex.specs.Lexing.{Part, Skipped, Lexeme, first_place, after, UpTo, IsLexed}
use Rattle.jz_lex.specs.Identifiers.{IsIdentifier, IsSpelled}
use Rattle.jz_io.specs.declared.span.Span.{Span}
use Rattle.jz_lex.specs.declared.token.Token.{Token}
use Rattle.jz_lex.specs.declared.token.TokenKind.TheVariants as kind
use Rattle.jz_lex.proofs.LexingWords.{or_true}
use Rattle.jz_lex.proofs.LexingFront.{kind_cases}

-- ---- tokens
word_is : (w s : List ℕ) → kind_of_word w ≡ kind.Ident s → IsIdentifier s
word_is w s e = kind_cases (λ k. k ≡ kind.Ident s → IsIdentifier s) w
    (λ f h. absurd (let no : ⊥ = cc in no))
    (λ f g h. let same : w ≡ s = cc in subst IsIdentifier same (f, g))
    (λ n h. absurd (let no : ⊥ = cc in no))
    (λ z g h. absurd (let no : ⊥ = cc in no))
    (λ bs h. absurd (let no : ⊥ = cc in no))
    (λ h. absurd (let no : ⊥ = cc in no))
    e

all_spelled : (s : Span) (text : List ℕ) (ps : List Part) (ts : List Token) (e : Span) (rest : List ℕ) → UpTo s text ps ts e rest → All IsSpelled ts
all_spelled s text [] ts e rest u = subst (All IsSpelled) (sym u.2) (All-nil IsSpelled)
all_spelled s text (Skipped w ∷ ps) ts e rest u = all_spelled (after s w) u.0 ps ts e rest u.3
all_spelled s text (Lexeme w ∷ ps) ts e rest u =
    subst (All IsSpelled) (sym u.6)
    (All-cons IsSpelled (record { kind = kind_of_word w; span = s }) u.1 (word_is w) (all_spelled (after s w) u.0 ps u.1 e rest u.7))

pub tokens_spelled : (text : List ℕ) (tokens : List Token) → IsLexed text tokens → All IsSpelled tokens
tokens_spelled text tokens x =
    let end : Token = record { kind = kind.End; span = x.2 } in
    let none : IsSpelled end = λ s h. absurd (let no : ⊥ = cc in no) in
    subst (All IsSpelled) (sym x.4)
    (All-append IsSpelled x.1 (end ∷ []) (all_spelled first_place text x.0 x.1 x.2 [] x.3) (All-cons IsSpelled end [] none (All-nil IsSpelled)))

-- ---- bytes
begins_in : (b : ℕ) → begins_word b ≡ true → in_word b ≡ true
unfolding begins_word in_word
begins_in b h = ⊎_elim
    (λ l. or_left (is_ascii_alphabetic b || is_ascii_digit b) (b == 95) (or_left (is_ascii_alphabetic b) (is_ascii_digit b) l))
    (λ r. or_right (is_ascii_alphabetic b || is_ascii_digit b) (b == 95) r)
    (or_true (is_ascii_alphabetic b) (b == 95) h)

all_bytes : (w : List ℕ) → list_all in_word w ≡ true → All (λ b. in_word b ≡ true) w
all_bytes [] h = All-nil (λ b. in_word b ≡ true)
all_bytes (b ∷ w) h = let p = and_parts (in_word b) (list_all in_word w) h in All-cons (λ c. in_word c ≡ true) b w p.0 (all_bytes w p.1)

pub identifier_bytes : (w : List ℕ) → IsIdentifier w → All (λ b. in_word b ≡ true) w
identifier_bytes [] h = All-nil (λ b. in_word b ≡ true)
identifier_bytes (b ∷ w) h =
    let p = and_parts (begins_word b) (list_all in_word w) h.0 in
    All-cons (λ c. in_word c ≡ true) b w (begins_in b p.0) (all_bytes w p.1)

reordered : (u l d e : Bool) → (((u || l) || d) || e) ≡ true → (d || (u || (e || l))) ≡ true
reordered u l true e h = refl
reordered true l false e h = refl
reordered false l false true h = refl
reordered false true false false h = refl
reordered false false false false h = h

-- the byte's code is that of a digit, of a letter or of an underscore
pub byte_code : (c : ℕ) → in_word c ≡ true → ((nat_le 48 c && nat_le c 57) || ((nat_le 65 c && nat_le c 90) || ((c == 95) || (nat_le 97 c && nat_le c 122)))) ≡ true
unfolding in_word
byte_code c h = reordered (nat_le 65 c && nat_le c 90) (nat_le 97 c && nat_le c 122) (nat_le 48 c && nat_le c 57) (c == 95) h
