-- Annotations: the notes that a list of tokens stands for. d is how much may still be nested.
use Rattle.std.specs.Prelude.{ℕ, List, [], ◌∷◌, Option, Some, None, codes, flat_map}
use Rattle.jz_tree.specs.Span.{Span}
use Rattle.jz_grammar.specs.Kinds.{identifier, number, string, sign, span_of}
use Rattle.jz_grammar.specs.Grammar.{Lang, token, ◌▸◌, ◌⊕◌, ◌⇒◌, then_by, each, opens, maybe}
use Rattle.jz_tree.specs.declared.program.Note.{Note}
use Rattle.jz_tree.specs.declared.program.NoteValue.{NoteValue}
use Rattle.jz_tree.specs.declared.program.NoteValue.TheVariants as value
use Rattle.jz_grammar.specs.Tokens.{name_of, number_of_token, string_of}

-- the value of an entry, none where none is written
abbrev pub value_or_none : Option NoteValue → NoteValue
value_or_none None = value.None
value_or_none (Some v) = v

-- an entry of the annotation that stands there
abbrev pub note_of : Span → List ℕ × Span → Option NoteValue → Note
note_of span name v = record { name = name.0; value = value_or_none v; span = span }

-- the notes of all annotations
abbrev pub all_notes : List (List Note) → List Note
all_notes nss = flat_map (λ ns. ns) nss

-- ID | NUM | STR
abbrev pub note_value : ℕ → Lang NoteValue
note_value d =
    (token (identifier ∷ []) d ⇒ name_of ⇒ (λ n. value.Name n.0))
    ⊕ (token (number ∷ []) d ⇒ number_of_token ⇒ (λ n. value.Num n.0))
    ⊕ (token (string ∷ []) d ⇒ string_of ⇒ value.Str)

-- entry = ID [ "=" ( ID | NUM | STR ) ], of the annotation at this place
abbrev pub entry : Span → ℕ → Lang Note
entry s d =
    ((token (identifier ∷ []) d ⇒ name_of) ▸ maybe (((token (sign (codes "=") ∷ []) d ⇒ span_of) ▸ note_value d) ⇒ (λ p. p.1)))
    ⇒ (λ p. note_of s p.0 p.1)

-- entry { "," entry }
abbrev pub entry_list : Span → ℕ → Lang (List Note)
entry_list s d = (entry s d ▸ each (((token (sign (codes ",") ∷ []) d ⇒ span_of) ▸ entry s d) ⇒ (λ p. p.1))) ⇒ (λ p. p.0 ∷ p.1)

-- entry | "[" entry { "," entry } "]"
abbrev pub entries : Span → ℕ → Lang (List Note)
entries s d =
    (entry s d ⇒ (λ n. n ∷ []))
    ⊕ (opens (sign (codes "[") ∷ []) (λ b. entry_list s b ▸ (token (sign (codes "]") ∷ []) b ⇒ span_of)) d ⇒ (λ p. p.1.0))

-- annot = "#" entry | "#" "[" entry { "," entry } "]"
abbrev pub annotation : ℕ → Lang (List Note)
annotation d = then_by (token (sign (codes "#") ∷ []) d ⇒ span_of) (λ s. entries s d) ⇒ (λ p. p.1)

-- { annot }
abbrev pub notes : ℕ → Lang (List Note)
notes d = each (annotation d) ⇒ all_notes
