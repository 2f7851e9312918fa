-- The readers of annotations read their grammar.
use Rattle.std.proofs.Common.{◌≡◌, ℕ, ◌<◌, List, [], ◌∷◌, ◌++◌, length, true, false, Ok, Err, refl, sym, ap, ◌∙◌, append-nil, append_assoc, codes}
use Rattle.jz_tree.specs.Span.{Span}
use Rattle.jz_grammar.specs.Token.{Token}
use Rattle.jz_grammar.specs.Causes.{Cause}
use Rattle.jz_grammar.specs.Kinds.{Kind, identifier, number, string, sign, span_of, has}
use Rattle.jz_grammar.specs.Readers.{Answer, ◌>>=◌, through, many}
use Rattle.jz_grammar.specs.Grammar.{Lang, token, ◌▸◌, ◌⊕◌, ◌⇒◌, each, opens, maybe}
use Rattle.jz_grammar.proofs.Laws.{IsReader, HasPhrase, full}
use Rattle.jz_grammar.specs.Deriving.{plus}
use Rattle.jz_grammar.proofs.Combine.{follow_reads, map_reads, pick_reads, inside_reads, optional_reads, many_reads, many_next, many_done, shaped, shorter}
use Rattle.jz_grammar.proofs.Depend.{depend_reads}
use Rattle.jz_grammar.proofs.Samples.{sign_token, sign_in, sign_reads, identifier_reads, number_reads, string_reads, some_sign, some_identifier, some_then, some_map, some_left, some_each, some_maybe, up}
use Rattle.jz_grammar.proofs.Steps.{listed_reads, more_done, more_next, more_wrong}
use Rattle.jz_tree.specs.declared.program.Note.{Note}
use Rattle.jz_tree.specs.declared.program.NoteValue.{NoteValue}
use Rattle.jz_tree.specs.declared.program.NoteValue.TheVariants as value
use Rattle.jz_grammar.specs.Tokens.{name_of, number_of_token, string_of}
use Rattle.jz_parse.specs.NotesTable as g
use Rattle.jz_parse.specs.NotesTable.{note_of, all_notes}
use Rattle.jz_parse.specs.NotesReaders as r

-- ---- values and entries
abbrev value_starts : List Kind
value_starts = identifier ∷ number ∷ string ∷ []

value_law : (d : ℕ) → IsReader r.note_value (λ e. g.note_value (plus d e)) (full value_starts [])
unfolding r.note_value
value_law d = shaped (full value_starts [])
    (pick_reads (map_reads (λ n. value.Name n.0) (identifier_reads name_of d))
    (pick_reads (map_reads (λ n. value.Num n.0) (number_reads number_of_token d)) (map_reads value.Str (string_reads string_of d)) refl refl) refl refl) refl refl refl

some_value : HasPhrase g.note_value
some_value = some_left (λ d. token (identifier ∷ []) d ⇒ name_of ⇒ (λ n. value.Name n.0)) (λ d. (token (number ∷ []) d ⇒ number_of_token ⇒ (λ n. value.Num n.0)) ⊕ (token (string ∷ []) d ⇒ string_of ⇒ value.Str))
    (some_map (λ d. token (identifier ∷ []) d ⇒ name_of) (λ n. value.Name n.0) (some_identifier name_of))

abbrev equal_value : ℕ → Lang NoteValue
equal_value d = ((token (sign (codes "=") ∷ []) d ⇒ span_of) ▸ g.note_value d) ⇒ (λ p. p.1)

equal_law : (d : ℕ) → IsReader r.equal_value (λ e. equal_value (plus d e)) (full r.equal_signs [])
unfolding r.equal_value
equal_law d = map_reads (λ p. p.1) (follow_reads (sign_reads (codes "=") span_of d) (value_law d) (up g.note_value d some_value) refl)

entry_law : (s : Span) (d : ℕ) → IsReader (r.entry s) (λ e. g.entry s (plus d e)) (full r.ids r.equal_signs)
unfolding r.entry
entry_law s d = map_reads (λ p. note_of s p.0 p.1)
    (follow_reads (identifier_reads name_of d) (optional_reads r.equal_signs [] (equal_law d)) (up (λ d. maybe (equal_value d)) d (some_maybe equal_value)) refl)

some_entry : (s : Span) → HasPhrase (g.entry s)
some_entry s = some_map (λ d. (token (identifier ∷ []) d ⇒ name_of) ▸ maybe (equal_value d)) (λ p. note_of s p.0 p.1)
    (some_then (λ d. token (identifier ∷ []) d ⇒ name_of) (λ d. maybe (equal_value d)) (some_identifier name_of) (some_maybe equal_value))

-- ---- lists of entries
abbrev next_entry : Span → ℕ → Lang Note
next_entry s d = ((token (sign (codes ",") ∷ []) d ⇒ span_of) ▸ g.entry s d) ⇒ (λ p. p.1)

next_law : (s : Span) (d : ℕ) → IsReader (r.next_entry s) (λ e. next_entry s (plus d e)) (full r.entry_commas r.equal_signs)
unfolding r.next_entry
next_law s d = map_reads (λ p. p.1) (follow_reads (sign_reads (codes ",") span_of d) (entry_law s d) (up (g.entry s) d (some_entry s)) refl)

abbrev list_goes : List Kind
list_goes = sign (codes "=") ∷ sign (codes ",") ∷ []

list_law : (s : Span) (d : ℕ) → IsReader (r.entry_list s) (λ e. g.entry_list s (plus d e)) (full r.ids list_goes)
unfolding r.entry_list r.entries_more
list_law s d = shaped (full r.ids list_goes) (listed_reads r.ids r.equal_signs r.entry_commas r.equal_signs (entry_law s d) (next_law s d) refl refl) refl refl refl

abbrev bracket : Span → ℕ → Lang (List Note × Span)
bracket s b = g.entry_list s b ▸ (token (sign (codes "]") ∷ []) b ⇒ span_of)

some_bracket : (s : Span) → HasPhrase (bracket s)
some_bracket s = some_then (g.entry_list s) (λ d. token (sign (codes "]") ∷ []) d ⇒ span_of)
    (some_map (λ d. g.entry s d ▸ each (next_entry s d)) (λ p. p.0 ∷ p.1) (some_then (g.entry s) (λ d. each (next_entry s d)) (some_entry s) (some_each (next_entry s))))
    (some_sign (codes "]") span_of)

abbrev brackets : List Kind
brackets = sign (codes "[") ∷ []

bracketed_law : (s : Span) (d : ℕ) → IsReader (r.notes_bracketed s d) (λ e. opens brackets (bracket s) (plus d e) ⇒ (λ p. p.1.0)) (full brackets [])
unfolding r.notes_bracketed
bracketed_law s d = map_reads (λ p. p.1.0)
    (inside_reads brackets (sign_token (codes "[")) (sign_in (codes "[") []) _ (bracket s) (some_bracket s) (full r.ids []) d
    (λ b h. follow_reads (list_law s b) (sign_reads (codes "]") span_of b) (up (λ d. token (sign (codes "]") ∷ []) d ⇒ span_of) b (some_sign (codes "]") span_of)) refl))

-- ---- annotations
abbrev entries_starts : List Kind
entries_starts = identifier ∷ brackets

entries_law : (s : Span) (d : ℕ) → IsReader (r.entries s d) (λ e. g.entries s (plus d e)) (full entries_starts r.equal_signs)
unfolding r.entries
entries_law s d = shaped (full entries_starts r.equal_signs) (pick_reads (map_reads (λ n. n ∷ []) (entry_law s d)) (bracketed_law s d) refl refl) refl refl refl

some_entries : (s : Span) → HasPhrase (g.entries s)
some_entries s = some_left (λ d. g.entry s d ⇒ (λ n. n ∷ [])) (λ d. opens brackets (bracket s) d ⇒ (λ p. p.1.0)) (some_map (g.entry s) (λ n. n ∷ []) (some_entry s))

annotation_law : (d : ℕ) → IsReader (r.annotation d) (λ e. g.annotation (plus d e)) (full r.hashes r.equal_signs)
unfolding r.annotation
annotation_law d = map_reads (λ p. p.1) (depend_reads (sign_reads (codes "#") span_of d) (λ s. entries_law s d) (λ s. up (g.entries s) d (some_entries s)) refl)

pub notes_reads : (d : ℕ) → IsReader (r.notes d) (λ e. g.notes (plus d e)) (record { starts = sign (codes "#") ∷ []; goes = sign (codes "#") ∷ sign (codes "=") ∷ []; empties = true })
unfolding r.notes r.notes_more
notes_reads d = map_reads all_notes (many_reads r.hashes r.equal_signs (annotation_law d) refl)

pub some_notes : HasPhrase g.notes
some_notes = some_map (λ d. each (g.annotation d)) all_notes (some_each g.annotation)

-- ---- lists, item by item
pub entries_done : (s : Span) (out : List Note) (ts : List Token) → has r.entry_commas ts ≡ false → r.entries_more s out ts ≡ Ok (out, ts)
unfolding r.entries_more
entries_done s out ts h = more_done r.entry_commas r.equal_signs (next_law s 0) out ts h

pub entries_next : (s : Span) (out : List Note) (a : Note) (ts us : List Token) → has r.entry_commas ts ≡ true → r.next_entry s ts ≡ Ok (a, us) → r.entries_more s out ts ≡ r.entries_more s (out ++ a ∷ []) us
unfolding r.entries_more
entries_next s out a ts us h e = more_next r.entry_commas r.equal_signs (next_law s 0) out a ts us h e

pub entries_wrong : (s : Span) (out : List Note) (ts us : List Token) (k : Cause) → has r.entry_commas ts ≡ true → r.next_entry s ts ≡ Err (k, us) → r.entries_more s out ts ≡ Err (k, us)
unfolding r.entries_more
entries_wrong s out ts us k h e = more_wrong r.entry_commas r.equal_signs (next_law s 0) out ts us k h e

pub entries_shorter : (s : Span) (a : Note) (ts us : List Token) → r.next_entry s ts ≡ Ok (a, us) → length us < length ts
entries_shorter s a ts us e = shorter r.entry_commas r.equal_signs (next_law s 0) ts us a e

pub notes_done : (d : ℕ) (out : List Note) (ts : List Token) → has r.hashes ts ≡ false → r.notes_more d out ts ≡ Ok (out, ts)
unfolding r.notes_more
notes_done d out ts h = ap (through (λ nss. out ++ all_notes nss)) (many_done (r.annotation d) r.hashes ts h) ∙ ap (λ z. Ok (z, ts)) (append-nil out)

pub notes_next : (d : ℕ) (out ns : List Note) (ts us : List Token) → has r.hashes ts ≡ true → r.annotation d ts ≡ Ok (ns, us) → r.notes_more d out ts ≡ r.notes_more d (out ++ ns) us
unfolding r.notes_more
notes_next d out ns ts us h e =
    ap (through (λ nss. out ++ all_notes nss)) (many_next r.hashes r.equal_signs (annotation_law d) ts h)
    ∙ ap (λ z. through {A = List (List Note)} (λ nss. out ++ all_notes nss) (through {A = List Note × List (List Note)} (λ w. w.0 ∷ w.1) (z >>= λ x. many r.hashes (r.annotation d) x.1 >>= λ y. Ok ((x.0, y.0), y.1)))) e
    ∙ last (many r.hashes (r.annotation d) us)
  where
    last : (w : Answer (List (List Note))) → through {A = List (List Note)} (λ nss. out ++ all_notes nss) (through {A = List Note × List (List Note)} (λ w. w.0 ∷ w.1) (w >>= λ y. Ok ((ns, y.0), y.1))) ≡ through (λ nss. (out ++ ns) ++ all_notes nss) w
    last (Ok y) = ap (λ z. Ok (z, y.1)) (sym (append_assoc out ns (all_notes y.0)))
    last (Err e) = refl

pub notes_wrong : (d : ℕ) (out : List Note) (ts us : List Token) (k : Cause) → has r.hashes ts ≡ true → r.annotation d ts ≡ Err (k, us) → r.notes_more d out ts ≡ Err (k, us)
unfolding r.notes_more
notes_wrong d out ts us k h e =
    ap (through (λ nss. out ++ all_notes nss)) (many_next r.hashes r.equal_signs (annotation_law d) ts h)
    ∙ ap (λ z. through {A = List (List Note)} (λ nss. out ++ all_notes nss) (through {A = List Note × List (List Note)} (λ w. w.0 ∷ w.1) (z >>= λ x. many r.hashes (r.annotation d) x.1 >>= λ y. Ok ((x.0, y.0), y.1)))) e

pub notes_shorter : (d : ℕ) (ns : List Note) (ts us : List Token) → r.annotation d ts ≡ Ok (ns, us) → length us < length ts
notes_shorter d ns ts us e = shorter r.hashes r.equal_signs (annotation_law d) ts us ns e
