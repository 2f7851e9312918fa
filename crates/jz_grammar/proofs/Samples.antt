-- A token of each kind, and that there are phrases.
use Rattle.std.proofs.Common.{◌≡◌, inl, inr, ℕ, zero, suc, ◌<◌, List, [], ◌∷◌, ◌++◌, true, false, None, pos, refl, arith}
use Rattle.jz_lex.specs.Span.{Span}
use Rattle.jz_lex.specs.declared.token.Token.{Token}
use Rattle.jz_lex.specs.declared.token.TokenKind.TheVariants as kind
use Rattle.jz_lex.specs.Size.TheVariants.{S64}
use Rattle.jz_grammar.specs.Kinds.{Kind, identifier, word, number, cast, string, sign, end, is_in}
use Rattle.jz_grammar.specs.Readers.{leaf}
use Rattle.jz_grammar.specs.Grammar.{Lang, token, ◌▸◌, ◌⊕◌, ◌⇒◌, each, maybe, then_by}
use Rattle.jz_grammar.proofs.Laws.{IsReader, HasPhrase, one_shape}
use Rattle.jz_grammar.specs.Deriving.{plus}
use Rattle.jz_grammar.proofs.Basics.{same_self}
use Rattle.jz_grammar.proofs.Combine.{each_by, leaf_reads}

abbrev at_start : Span
at_start = record { line = 1; col = 1 }

pub sign_token : List ℕ → Token
sign_token s = record { kind = kind.Sign s; span = at_start }

pub word_token : List ℕ → Token
word_token s = record { kind = kind.Keyword s; span = at_start }

pub number_token : Token
number_token = record { kind = kind.Num (pos 0); span = at_start }

pub cast_token : Token
cast_token = record { kind = kind.Cast S64 false; span = at_start }

pub string_token : Token
string_token = record { kind = kind.Str []; span = at_start }

pub identifier_token : Token
identifier_token = record { kind = kind.Ident []; span = at_start }

pub end_token : Token
end_token = record { kind = kind.End; span = at_start }

pub sign_in : (s : List ℕ) (ks : List Kind) → is_in (sign s ∷ ks) (sign_token s) ≡ true
unfolding is_in sign_token
sign_in s ks = rw (same_self (sign s)) refl

pub word_in : (s : List ℕ) (ks : List Kind) → is_in (word s ∷ ks) (word_token s) ≡ true
unfolding is_in word_token
word_in s ks = rw (same_self (word s)) refl

pub number_in : is_in (number ∷ []) number_token ≡ true
unfolding is_in number_token
number_in = refl

pub cast_in : is_in (cast ∷ []) cast_token ≡ true
unfolding is_in cast_token
cast_in = refl

pub string_in : is_in (string ∷ []) string_token ≡ true
unfolding is_in string_token
string_in = refl

pub identifier_in : is_in (identifier ∷ []) identifier_token ≡ true
unfolding is_in identifier_token
identifier_in = refl

pub end_in : is_in (end ∷ []) end_token ≡ true
unfolding is_in end_token
end_in = refl

-- ---- readers of one token
pub sign_reads : {A : Type 0} (s : List ℕ) (to : Token → A) (d : ℕ) → IsReader (leaf (sign s ∷ []) to) (λ e. token (sign s ∷ []) (plus d e) ⇒ to) (one_shape (sign s ∷ []))
sign_reads s to d = leaf_reads (sign s ∷ []) to d (sign_token s) (sign_in s [])

pub word_reads : {A : Type 0} (s : List ℕ) (to : Token → A) (d : ℕ) → IsReader (leaf (word s ∷ []) to) (λ e. token (word s ∷ []) (plus d e) ⇒ to) (one_shape (word s ∷ []))
word_reads s to d = leaf_reads (word s ∷ []) to d (word_token s) (word_in s [])

pub identifier_reads : {A : Type 0} (to : Token → A) (d : ℕ) → IsReader (leaf (identifier ∷ []) to) (λ e. token (identifier ∷ []) (plus d e) ⇒ to) (one_shape (identifier ∷ []))
identifier_reads to d = leaf_reads (identifier ∷ []) to d identifier_token identifier_in

pub number_reads : {A : Type 0} (to : Token → A) (d : ℕ) → IsReader (leaf (number ∷ []) to) (λ e. token (number ∷ []) (plus d e) ⇒ to) (one_shape (number ∷ []))
number_reads to d = leaf_reads (number ∷ []) to d number_token number_in

pub cast_reads : {A : Type 0} (to : Token → A) (d : ℕ) → IsReader (leaf (cast ∷ []) to) (λ e. token (cast ∷ []) (plus d e) ⇒ to) (one_shape (cast ∷ []))
cast_reads to d = leaf_reads (cast ∷ []) to d cast_token cast_in

pub string_reads : {A : Type 0} (to : Token → A) (d : ℕ) → IsReader (leaf (string ∷ []) to) (λ e. token (string ∷ []) (plus d e) ⇒ to) (one_shape (string ∷ []))
string_reads to d = leaf_reads (string ∷ []) to d string_token string_in

pub end_reads : {A : Type 0} (to : Token → A) (d : ℕ) → IsReader (leaf (end ∷ []) to) (λ e. token (end ∷ []) (plus d e) ⇒ to) (one_shape (end ∷ []))
end_reads to d = leaf_reads (end ∷ []) to d end_token end_in

-- ---- there are phrases
pub some_leaf : {A : Type 0} (ks : List Kind) (to : Token → A) (example : Token) → is_in ks example ≡ true → HasPhrase (λ d. token ks d ⇒ to)
some_leaf ks to example passes d h = ((example, d) ∷ [], to example, (example, (refl, passes), refl))

pub some_sign : {A : Type 0} (s : List ℕ) (to : Token → A) → HasPhrase (λ d. token (sign s ∷ []) d ⇒ to)
some_sign s to = some_leaf (sign s ∷ []) to (sign_token s) (sign_in s [])

pub some_word : {A : Type 0} (s : List ℕ) (to : Token → A) → HasPhrase (λ d. token (word s ∷ []) d ⇒ to)
some_word s to = some_leaf (word s ∷ []) to (word_token s) (word_in s [])

pub some_identifier : {A : Type 0} (to : Token → A) → HasPhrase (λ d. token (identifier ∷ []) d ⇒ to)
some_identifier to = some_leaf (identifier ∷ []) to identifier_token identifier_in

pub some_then : {A B : Type 0} (l : ℕ → Lang A) (m : ℕ → Lang B) → HasPhrase l → HasPhrase m → HasPhrase (λ d. l d ▸ m d)
some_then l m a b d h = let x = a d h in let y = b d h in (x.0 ++ y.0, (x.1, y.1), (x.0, y.0, x.2, y.2, refl))

pub some_then_by : {A B : Type 0} (l : ℕ → Lang A) (m : A → ℕ → Lang B) → HasPhrase l → ((a : A) → HasPhrase (m a)) → HasPhrase (λ d. then_by (l d) (λ a. m a d))
some_then_by l m a b d h = let x = a d h in let y = b x.1 d h in (x.0 ++ y.0, (x.1, y.1), (x.0, y.0, x.2, y.2, refl))

pub some_map : {A B : Type 0} (l : ℕ → Lang A) (to : A → B) → HasPhrase l → HasPhrase (λ d. l d ⇒ to)
some_map l to a d h = let x = a d h in (x.0, to x.1, (x.1, x.2, refl))

pub some_left : {A : Type 0} (l m : ℕ → Lang A) → HasPhrase l → HasPhrase (λ d. l d ⊕ m d)
some_left l m a d h = let x = a d h in (x.0, x.1, inl x.2)

pub some_right : {A : Type 0} (l m : ℕ → Lang A) → HasPhrase m → HasPhrase (λ d. l d ⊕ m d)
some_right l m a d h = let x = a d h in (x.0, x.1, inr x.2)

pub some_each : {A : Type 0} (l : ℕ → Lang A) → HasPhrase (λ d. each (l d))
some_each l d h = ([], [], refl)

pub some_each_by : {S A : Type 0} (l : S → ℕ → Lang A) (after : S → A → S) (s : S) → HasPhrase (λ d. each_by (λ s. l s d) after s)
some_each_by l after s d h = ([], [], refl)

pub some_maybe : {A : Type 0} (l : ℕ → Lang A) → HasPhrase (λ d. maybe (l d))
some_maybe l d h = ([], None, inr (refl, refl))

-- more may be nested than d
pub up : {A : Type 0} (l : ℕ → Lang A) (d : ℕ) → HasPhrase l → HasPhrase (λ e. l (plus d e))
up l d some e h = some (plus d e) (more d e h)
  where
    more : (d e : ℕ) → 0 < e → 0 < plus d e
    more zero e h = h
    more (suc d) e h = omega arith
