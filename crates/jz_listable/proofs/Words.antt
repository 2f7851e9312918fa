-- Words and identifiers have the bytes of names.
use Rattle.std.proofs.Common.{◌≡◌, ⊎_elim, ℕ, List, [], ◌∷◌, true, ◌||◌, ◌==◌}
use Rattle.std.specs.Prelude.{All}
use Rattle.std.specs.List.{list_all}
use Rattle.std.specs.Char.{is_ascii_alphabetic, is_ascii_digit}
use Rattle.std.proofs.lemmas.List.Elements.{All-nil, All-cons, All-weaker}
use Rattle.std.proofs.lemmas.Bool.{and_parts, or_left, or_right}
use Rattle.jz_lex.specs.LexingWords.{begins_word, in_word, is_word}
use Rattle.jz_lex.specs.Identifiers.{IsIdentifier}
use Rattle.jz_lex.proofs.LexingWords.{or_true}
use Rattle.jz_lex.proofs.Identifiers.{byte_code}
use Rattle.jz_listing.specs.Listable.{is_name_byte, IsName}

begins_in : (b : ℕ) → begins_word b ≡ true → in_word b ≡ true
unfolding begins_word in_word
begins_in b h = ⊎_elim
    (λ l. or_left (is_ascii_alphabetic b || is_ascii_digit b) (b == 95) (or_left (is_ascii_alphabetic b) (is_ascii_digit b) l))
    (λ r. or_right (is_ascii_alphabetic b || is_ascii_digit b) (b == 95) r)
    (or_true (is_ascii_alphabetic b) (b == 95) h)

all_bytes : (w : List ℕ) → list_all in_word w ≡ true → All (λ b. in_word b ≡ true) w
all_bytes [] h = All-nil (λ b. in_word b ≡ true)
all_bytes (b ∷ w) h = let p = and_parts (in_word b) (list_all in_word w) h in All-cons (λ c. in_word c ≡ true) b w p.0 (all_bytes w p.1)

word_bytes : (w : List ℕ) → is_word w ≡ true → All (λ b. in_word b ≡ true) w
word_bytes [] h = All-nil (λ b. in_word b ≡ true)
word_bytes (b ∷ w) h =
    let p = and_parts (begins_word b) (list_all in_word w) h in
    All-cons (λ c. in_word c ≡ true) b w (begins_in b p.0) (all_bytes w p.1)

pub word_named : (w : List ℕ) → is_word w ≡ true → IsName w
word_named w h = All-weaker (λ c. in_word c ≡ true) (λ c. is_name_byte c ≡ true) byte_code w (word_bytes w h)

pub identifier_named : (w : List ℕ) → IsIdentifier w → IsName w
identifier_named w h = word_named w h.0
