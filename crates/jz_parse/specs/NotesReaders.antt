-- How annotations are read. d is how much may still be nested.
use Rattle.std.specs.Prelude.{ℕ, List, [], ◌∷◌, ◌++◌, codes}
use Rattle.jz_tree.specs.Span.{Span}
use Rattle.jz_grammar.specs.Kinds.{Kind, identifier, number, string, sign, span_of}
use Rattle.jz_grammar.specs.Readers.{Reader, ◌>>=◌, through, follow, depend, pick, many, leaf, inside, optional, more_of}
use Rattle.jz_tree.specs.declared.program.Note.{Note}
use Rattle.jz_tree.specs.declared.program.NoteValue.{NoteValue}
use Rattle.jz_tree.specs.declared.program.NoteValue.TheVariants as value
use Rattle.jz_grammar.specs.Tokens.{name_of, number_of_token, string_of}
use Rattle.jz_parse.specs.NotesTable.{note_of, all_notes}
pub use Rattle.jz_grammar.specs.TokenReaders.{ids}

abbrev pub numbers : List Kind
numbers = number ∷ []

abbrev pub equal_signs : List Kind
equal_signs = sign (codes "=") ∷ []

abbrev pub entry_commas : List Kind
entry_commas = sign (codes ",") ∷ []

abbrev pub hashes : List Kind
hashes = sign (codes "#") ∷ []

unfoldable pub note_value : Reader NoteValue
note_value = pick ids (λ ts. through (λ n. value.Name n.0) (leaf ids name_of ts))
    (pick numbers (λ ts. through (λ n. value.Num n.0) (leaf numbers number_of_token ts)) (λ ts. through value.Str (leaf (string ∷ []) string_of ts)))

unfoldable pub equal_value : Reader NoteValue
equal_value ts = through (λ p. p.1) (follow (leaf equal_signs span_of) note_value ts)

unfoldable pub entry : Span → Reader Note
entry s ts = through (λ p. note_of s p.0 p.1) (follow (leaf ids name_of) (optional equal_signs equal_value) ts)

unfoldable pub next_entry : Span → Reader Note
next_entry s ts = through (λ p. p.1) (follow (leaf entry_commas span_of) (entry s) ts)

unfoldable pub entries_more : Span → List Note → Reader (List Note)
entries_more s out ts = more_of entry_commas (next_entry s) out ts

unfoldable pub entry_list : Span → Reader (List Note)
entry_list s ts = entry s ts >>= λ x. entries_more s (x.0 ∷ []) x.1

unfoldable pub notes_bracketed : Span → ℕ → Reader (List Note)
notes_bracketed s d ts = through (λ p. p.1.0) (inside (sign (codes "[") ∷ []) (λ b. follow (entry_list s) (leaf (sign (codes "]") ∷ []) span_of)) d ts)

unfoldable pub entries : Span → ℕ → Reader (List Note)
entries s d = pick ids (λ ts. through (λ n. n ∷ []) (entry s ts)) (notes_bracketed s d)

unfoldable pub annotation : ℕ → Reader (List Note)
annotation d ts = through (λ p. p.1) (depend (leaf hashes span_of) (λ s. entries s d) ts)

unfoldable pub notes_more : ℕ → List Note → Reader (List Note)
notes_more d out ts = through (λ nss. out ++ all_notes nss) (many hashes (annotation d) ts)

unfoldable pub notes : ℕ → Reader (List Note)
notes d ts = notes_more d [] ts
