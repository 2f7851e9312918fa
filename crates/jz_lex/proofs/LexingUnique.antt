-- A text is lexed in one way.
use Rattle.std.proofs.Common.{◌≡◌, ◌⊎◌, inl, inr, ⊎_elim, ℕ, ◌^◌, List, [], ◌∷◌, ◌++◌, length, true, false, not, ◌||◌, nat_lt, refl, sym, ap, ap₂, ◌∙◌, subst, arith, length-append}
use Rattle.std.specs.List.{All}
use Rattle.std.specs.Char.{is_ascii_alphabetic}
use Rattle.std.proofs.lemmas.List.Elements.{All-nil, All-cons}
use Rattle.std.proofs.lemmas.Bool.{and_parts}
use Rattle.jz_lex.specs.LexingWords.{heads, is_numeral, value_of_numeral, is_lexeme, kind_of_word}
use Rattle.jz_lex.specs.Lexing.{is_blank, begins_comment, IsSkipped, Longest, is_no_number, Part, Skipped, Lexeme, first_place, after, UpTo, IsLexed, HasNone, HasNoToken}
use Rattle.jz_io.specs.declared.span.Span.{Span}
use Rattle.jz_lex.specs.declared.token.Token.{Token}
use Rattle.jz_lex.specs.declared.token.TokenKind.TheVariants as kind
use Rattle.jz_lex.specs.declared.token.LexKind.{LexKind}
use Rattle.jz_lex.specs.declared.token.LexKind.TheVariants.{BadByte, BadNumber, OpenComment}
use Rattle.jz_lex.specs.declared.token.LexFault.{LexFault}
use Rattle.jz_lex.proofs.LexingWords.{cut, no_empty, true_false, numeral_head, lexeme_blank}
use Rattle.jz_lex.proofs.LexingFront.{digit_no_slash, kind_cases}
use Rattle.jz_lex.proofs.Comments.{some_skipped, skipped_begins, same_skipped, open_skipped}

-- at rest the text ends, or no token stands there
abbrev pub Stops : List ℕ → Type 0
Stops rest = (rest ≡ []) ⊎ ((k : LexKind) × HasNone k rest)

-- two lexemes that are the longest at one place
same_longest : (w v more rest : List ℕ) → Longest w more → Longest v rest → w ++ more ≡ v ++ rest → (w ≡ v) × (more ≡ rest)
same_longest w v more rest h i e =
    let a = h.1 v rest (sym e) i.0 in
    let b = i.1 w more e h.0 in
    cut w v more rest e (omega (arith, a, b))

nothing_left : (P : Type 0) (w more : List ℕ) → is_lexeme w more ≡ true → w ++ more ≡ [] → P
nothing_left P [] more h e = true_false (is_lexeme [] more) _ h (no_empty more)
nothing_left P (b ∷ w) more h e = cc

-- where no blank stands and no comment begins, nothing is skipped
no_skipped : (P : Type 0) (text w more : List ℕ) → text ≡ w ++ more → IsSkipped w more → heads is_blank text ≡ false → begins_comment text ≡ false → P
no_skipped P text w more e h b c = ⊎_elim
    (λ a. true_false (heads is_blank text) P (ap (heads is_blank) e ∙ heads_more w a) b)
    (λ a. true_false (begins_comment text) P (ap begins_comment e ∙ a) c)
    (skipped_begins w more h)
  where
    heads_more : (w : List ℕ) → heads is_blank w ≡ true → heads is_blank (w ++ more) ≡ true
    heads_more [] h = cc
    heads_more (b ∷ w) h = h

-- a lexeme begins with no blank
lexeme_no_blank : (text w more : List ℕ) → text ≡ w ++ more → is_lexeme w more ≡ true → heads is_blank text ≡ false
lexeme_no_blank text [] more e h = true_false (is_lexeme [] more) _ h (no_empty more)
lexeme_no_blank text (b ∷ w) more e h = ap (heads is_blank) e ∙ lexeme_blank b w more h

-- no comment begins with a number
number_no_comment : (text w more : List ℕ) → text ≡ w ++ more → is_no_number w more ≡ true → begins_comment text ≡ false
number_no_comment text [] more e h = cc
number_no_comment text (b ∷ w) more e h =
    ap begins_comment e ∙ digit_no_slash (b ∷ (w ++ more)) (numeral_head b w (and_parts (is_numeral (b ∷ w)) (heads is_ascii_alphabetic more || not (nat_lt (value_of_numeral (b ∷ w)) (2 ^ 127))) h).0)

-- where it stops nothing is skipped
stop_skipped : (P : Type 0) (rest w more : List ℕ) → Stops rest → rest ≡ w ++ more → IsSkipped w more → P
stop_skipped P rest w more s e h = ⊎_elim
    (λ a. let n = some_skipped w more h in let t : w ++ more ≡ [] = sym e ∙ a in absurd (omega (arith, n, ap length t, length-append w more)))
    (λ a. go a.0 a.1)
    s
  where
    go : (k : LexKind) → HasNone k rest → P
    go BadByte a = no_skipped P rest w more e h (ap (heads is_blank) a.2 ∙ a.3) a.4
    go BadNumber a = no_skipped P rest w more e h (lexeme_no_blank rest a.0 a.1 a.2 a.3.0) (number_no_comment rest a.0 a.1 a.2 a.4)
    go OpenComment a = open_skipped P rest w more a e h

-- an open comment begins a comment
open_begins : (text : List ℕ) → HasNone OpenComment text → begins_comment text ≡ true
open_begins text h = ap begins_comment h.1

-- and no lexeme that is a token
stop_lexeme : (P : Type 0) (rest w more : List ℕ) → Stops rest → rest ≡ w ++ more → begins_comment rest ≡ false → Longest w more → is_no_number w more ≡ false → P
stop_lexeme P rest w more s e c h n = ⊎_elim
    (λ a. nothing_left P w more h.0 (sym e ∙ a))
    (λ a. go a.0 a.1)
    s
  where
    go : (k : LexKind) → HasNone k rest → P
    go BadByte a = absurd (a.5 w more (sym e) h.0)
    go BadNumber a =
        let d = same_longest w a.0 more a.1 h a.3 (sym e ∙ a.2) in
        true_false (is_no_number w more) _ (ap₂ is_no_number d.0 d.1 ∙ a.4) n
    go OpenComment a = true_false (begins_comment rest) P (open_begins rest a) c

-- nor is a lexeme skipped
lexeme_skipped : (P : Type 0) (text w v more rest : List ℕ) → text ≡ w ++ more → IsSkipped w more → text ≡ v ++ rest → is_lexeme v rest ≡ true → begins_comment text ≡ false → P
lexeme_skipped P text w v more rest e h f i c = no_skipped P text w more e h (lexeme_no_blank text v rest f i) c

pub unique : (s : Span) (text : List ℕ) (ps qs : List Part) (ts us : List Token) (d e : Span) (rest other : List ℕ) → UpTo s text ps ts d rest → UpTo s text qs us e other → Stops rest → Stops other → (ts ≡ us) × (d ≡ e) × (rest ≡ other)
unique s text [] [] ts us d e rest other a b x y = (a.2 ∙ sym b.2, sym a.1 ∙ b.1, sym a.0 ∙ b.0)
unique s text [] (Skipped w ∷ qs) ts us d e rest other a b x y = stop_skipped _ rest w b.0 x (sym a.0 ∙ b.1) b.2
unique s text [] (Lexeme w ∷ qs) ts us d e rest other a b x y = stop_lexeme _ rest w b.0 x (sym a.0 ∙ b.2) (ap begins_comment (sym a.0) ∙ b.3) b.4 b.5
unique s text (Skipped w ∷ ps) [] ts us d e rest other a b x y = stop_skipped _ other w a.0 y (sym b.0 ∙ a.1) a.2
unique s text (Lexeme w ∷ ps) [] ts us d e rest other a b x y = stop_lexeme _ other w a.0 y (sym b.0 ∙ a.2) (ap begins_comment (sym b.0) ∙ a.3) a.4 a.5
unique s text (Skipped w ∷ ps) (Lexeme v ∷ qs) ts us d e rest other a b x y = lexeme_skipped _ text w v a.0 b.0 a.1 a.2 b.2 b.4.0 b.3
unique s text (Lexeme w ∷ ps) (Skipped v ∷ qs) ts us d e rest other a b x y = lexeme_skipped _ text v w b.0 a.0 b.1 b.2 a.2 a.4.0 a.3
unique s text (Skipped w ∷ ps) (Skipped v ∷ qs) ts us d e rest other a b x y =
    let c = same_skipped w v a.0 b.0 a.2 b.2 (sym a.1 ∙ b.1) in
    let k : UpTo (after s w) a.0 qs us e other = subst (λ z. UpTo (after s z) a.0 qs us e other) (sym c.0) (subst (λ z. UpTo (after s v) z qs us e other) (sym c.1) b.3) in
    unique (after s w) a.0 ps qs ts us d e rest other a.3 k x y
unique s text (Lexeme w ∷ ps) (Lexeme v ∷ qs) ts us d e rest other a b x y =
    let c = same_longest w v a.0 b.0 a.4 b.4 (sym a.2 ∙ b.2) in
    let k : UpTo (after s w) a.0 qs b.1 e other = subst (λ z. UpTo (after s z) a.0 qs b.1 e other) (sym c.0) (subst (λ z. UpTo (after s v) z qs b.1 e other) (sym c.1) b.7) in
    let i = unique (after s w) a.0 ps qs a.1 b.1 d e rest other a.7 k x y in
    (a.6 ∙ ap₂ (λ z zs. (record { kind = kind_of_word z; span = s }) ∷ zs) c.0 i.0 ∙ sym b.6, i.1, i.2)

pub one_lexing : (text : List ℕ) (a b : List Token) → IsLexed text a → IsLexed text b → a ≡ b
one_lexing text a b x y =
    let u = unique first_place text x.0 y.0 x.1 y.1 x.2 y.2 [] [] x.3 y.3 (inl refl) (inl refl) in
    x.4 ∙ ap₂ (λ ts e. ts ++ (record { kind = kind.End; span = e }) ∷ []) u.0 u.1 ∙ sym y.4

pub lexed_or_refused : (text : List ℕ) (a : List Token) (f : LexFault) → IsLexed text a → HasNoToken text f → ⊥
lexed_or_refused text a f x y =
    let u = unique first_place text x.0 y.0 x.1 y.1 x.2 f.span [] y.2 x.3 y.3 (inl refl) (inr (f.kind, y.4)) in
    go f.kind y.2 y.4 (sym u.2)
  where
    go : (k : LexKind) (rest : List ℕ) → HasNone k rest → rest ≡ [] → ⊥
    go BadByte rest h e = let n : h.0 ∷ h.1 ≡ [] = sym h.2 ∙ e in cc
    go BadNumber rest h e = nothing_left ⊥ h.0 h.1 h.3.0 (sym h.2 ∙ e)
    go OpenComment rest h e = let n : 47 ∷ 42 ∷ h.0 ≡ [] = sym h.1 ∙ e in cc

number_open : (rest : List ℕ) → HasNone BadNumber rest → HasNone OpenComment rest → ⊥
number_open rest h i = true_false (begins_comment rest) ⊥ (open_begins rest i) (number_no_comment rest h.0 h.1 h.2 h.4)

same_cause : (j k : LexKind) (rest : List ℕ) → HasNone j rest → HasNone k rest → j ≡ k
same_cause BadByte BadByte rest h i = refl
same_cause BadNumber BadNumber rest h i = refl
same_cause OpenComment OpenComment rest h i = refl
same_cause BadByte BadNumber rest h i = absurd (h.5 i.0 i.1 (sym i.2) i.3.0)
same_cause BadNumber BadByte rest h i = absurd (i.5 h.0 h.1 (sym h.2) h.3.0)
same_cause BadByte OpenComment rest h i = true_false (begins_comment rest) _ (open_begins rest i) h.4
same_cause OpenComment BadByte rest h i = true_false (begins_comment rest) _ (open_begins rest h) i.4
same_cause BadNumber OpenComment rest h i = absurd (number_open rest h i)
same_cause OpenComment BadNumber rest h i = absurd (number_open rest i h)

pub one_fault : (text : List ℕ) (f g : LexFault) → HasNoToken text f → HasNoToken text g → f ≡ g
one_fault text f g x y =
    let u = unique first_place text x.0 y.0 x.1 y.1 f.span g.span x.2 y.2 x.3 y.3 (inr (f.kind, x.4)) (inr (g.kind, y.4)) in
    let h : HasNone f.kind y.2 = subst (λ z. HasNone f.kind z) u.2 x.4 in
    let k = same_cause f.kind g.kind y.2 h y.4 in
    ap₂ (λ a b. let r : LexFault = record { kind = a; span = b } in r) k u.1

-- ---- the end stands last
no_end : (w : List ℕ) → kind_of_word w ≡ kind.End → ⊥
no_end w e = kind_cases (λ k. k ≡ kind.End → ⊥) w (λ x h. cc) (λ x y h. cc) (λ n h. cc) (λ s g h. cc) (λ bs h. cc) (λ h. cc) e

none_ends : (s : Span) (text : List ℕ) (ps : List Part) (ts : List Token) (e : Span) (rest : List ℕ) → UpTo s text ps ts e rest → All (λ t. t.kind ≡ kind.End → ⊥) ts
none_ends s text [] ts e rest u = subst (λ z. All (λ t. t.kind ≡ kind.End → ⊥) z) (sym u.2) (All-nil (λ t. t.kind ≡ kind.End → ⊥))
none_ends s text (Skipped w ∷ ps) ts e rest u = none_ends (after s w) u.0 ps ts e rest u.3
none_ends s text (Lexeme w ∷ ps) ts e rest u =
    subst (λ z. All (λ t. t.kind ≡ kind.End → ⊥) z) (sym u.6)
    (All-cons (λ t. t.kind ≡ kind.End → ⊥) (record { kind = kind_of_word w; span = s }) u.1 (no_end w) (none_ends (after s w) u.0 ps u.1 e rest u.7))

pub end_stands_last : (text : List ℕ) (tokens : List Token) → IsLexed text tokens → (before : List Token) × (e : Span) × (tokens ≡ before ++ record { kind = kind.End; span = e } ∷ []) × All (λ t. t.kind ≡ kind.End → ⊥) before
end_stands_last text tokens x = (x.1, x.2, x.4, none_ends first_place text x.0 x.1 x.2 [] x.3)
