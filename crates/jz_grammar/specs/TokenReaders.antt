-- How single tokens are read, and what stands between commas.
use Rattle.std.specs.Prelude.{ℕ, List, [], ◌∷◌, codes}
use Rattle.jz_lex.specs.Span.{Span}
use Rattle.jz_grammar.specs.Kinds.{Kind, word, sign, identifier, span_of}
use Rattle.jz_grammar.specs.Tokens.{name_of}
use Rattle.jz_grammar.specs.Readers.{Reader, ◌>>=◌, through, follow, leaf}

-- a sign, a keyword, by where it stands
abbrev pub the : List ℕ → Reader Span
the s = leaf (sign s ∷ []) span_of

abbrev pub key : List ℕ → Reader Span
key s = leaf (word s ∷ []) span_of

-- an identifier, and where it stands
abbrev pub name : Reader (List ℕ × Span)
name = leaf (identifier ∷ []) name_of

-- the tokens that begin an identifier, and what comes behind a comma
abbrev pub ids : List Kind
ids = identifier ∷ []

abbrev pub commas : List Kind
commas = sign (codes ",") ∷ []

abbrev pub comma : {A : Type 0} → Reader A → Reader A
comma f ts = through (λ p. p.1) (follow (the (codes ",")) f ts)

-- one, and what follows it, behind it
abbrev pub one_and : {A : Type 0} → Reader A → (List A → Reader (List A)) → Reader (List A)
one_and first more ts = first ts >>= λ x. more (x.0 ∷ []) x.1
