-- The readers of declarations, parameters and results read their grammar.
use Rattle.std.proofs.Common.{◌≡◌, ℕ, List, [], ◌∷◌, ◌++◌, Option, None, true, Ok, Err, inr, refl, codes}
use Rattle.jz_tree.specs.Span.{Span}
use Rattle.jz_grammar.specs.Token.{Token}
use Rattle.jz_grammar.specs.Kinds.{Kind, word, sign, span_of, is_in}
use Rattle.jz_grammar.specs.Readers.{Answer, Reader, ◌>>=◌, through, follow, many}
use Rattle.jz_grammar.specs.Grammar.{Lang, ◌▸◌, ◌⊕◌, ◌⇒◌, each, opens, maybe}
use Rattle.jz_grammar.proofs.Laws.{IsReader, HasPhrase, Shape, full}
use Rattle.jz_grammar.specs.Deriving.{plus}
use Rattle.jz_grammar.proofs.Basics.{disjoint_nil}
use Rattle.jz_grammar.proofs.Combine.{follow_reads, map_reads, pick_reads, inside_reads, optional_reads, many_reads, leaf_reads, reads_as, shaped}
use Rattle.jz_grammar.proofs.Opening.{HasPhraseAnyway, some_opens}
use Rattle.jz_grammar.proofs.Samples.{sign_token, sign_in, word_token, word_in, sign_reads, word_reads, identifier_reads, some_sign, some_word, some_identifier, some_then, some_map, some_left, some_each, some_maybe, up}
use Rattle.jz_grammar.proofs.Steps.{listed_reads}
use Rattle.jz_grammar.specs.Tokens.{name_of, word_types, size_of_token}
use Rattle.jz_tree.specs.declared.expr.Decl.{Decl}
use Rattle.jz_tree.specs.declared.expr.Storage.TheVariants as place
use Rattle.jz_tree.specs.declared.expr.Ty.TheVariants as ty
use Rattle.jz_tree.specs.declared.program.Param.{Param}
use Rattle.jz_parse_expr.specs.Table.{the, key, name, index}
use Rattle.jz_parse_expr.proofs.Laws.{index_reads}
use Rattle.jz_parse.specs.NotesTable.{notes}
use Rattle.jz_parse.proofs.NoteLemmas.{notes_reads, some_notes}
use Rattle.jz_parse.specs.Trees.{type_of, decl_of, params_all, declared_all, ret_of}
use Rattle.jz_grammar.specs.Parts.{joined_lists, or_empty}
use Rattle.jz_parse.specs.Grammar as g
use Rattle.jz_parse.specs.InnerReaders as r

-- ---- one token
pub some_the : (s : List ℕ) → HasPhrase (the s)
some_the s = some_sign s span_of

pub some_key : (s : List ℕ) → HasPhrase (key s)
some_key s = some_word s span_of

pub some_name : HasPhrase name
some_name = some_identifier name_of

pub any_the : (s : List ℕ) → HasPhraseAnyway (the s)
any_the s d = ((sign_token s, d) ∷ [], span_of (sign_token s), (sign_token s, (refl, sign_in s []), refl))

pub comma_law : {A : Type 0} {f : Reader A} (l : ℕ → Lang A) (st go : List Kind) (d : ℕ) → IsReader f (λ e. l (plus d e)) (full st go) → HasPhrase l → IsReader (r.comma f) (λ e. g.comma l (plus d e)) (full r.commas go)
comma_law l st go d F some = map_reads (λ p. p.1) (follow_reads (sign_reads (codes ",") span_of d) F (up l d some) (disjoint_nil st))

-- ---- declarations
storage_law : (d : ℕ) → IsReader r.storage (λ e. g.storage (plus d e)) (full r.storages [])
unfolding r.storage
storage_law d = shaped (full r.storages [])
    (pick_reads (map_reads (λ s. place.Reg) (word_reads (codes "reg") span_of d))
    (pick_reads (map_reads (λ s. place.Stack) (word_reads (codes "stack") span_of d)) (map_reads (λ s. place.Inline) (word_reads (codes "inline") span_of d)) refl refl) refl refl) refl refl refl

some_storage : HasPhrase g.storage
some_storage = some_left (λ d. key (codes "reg") d ⇒ (λ s. place.Reg)) (λ d. (key (codes "stack") d ⇒ (λ s. place.Stack)) ⊕ (key (codes "inline") d ⇒ (λ s. place.Inline)))
    (some_map (key (codes "reg")) (λ s. place.Reg) (some_key (codes "reg")))

abbrev pub brackets : List Kind
brackets = r.mark (codes "[")

word_type_in : is_in word_types (word_token (codes "u8")) ≡ true
word_type_in = word_in (codes "u8") (word (codes "u16") ∷ word (codes "u32") ∷ word (codes "u64") ∷ [])

word_or_array_law : (d : ℕ) → IsReader (r.word_or_array d) (λ e. g.word_or_array (plus d e)) (full word_types brackets)
unfolding r.word_or_array
word_or_array_law d = map_reads (λ p. type_of p.0 p.1)
    (follow_reads (leaf_reads word_types size_of_token d (word_token (codes "u8")) word_type_in) (optional_reads brackets [] (index_reads d)) (up (λ d. maybe (index d)) d (some_maybe index)) refl)

abbrev type_starts : List Kind
type_starts = word (codes "int") ∷ word (codes "bool") ∷ word_types

value_type_law : (d : ℕ) → IsReader (r.value_type d) (λ e. g.value_type (plus d e)) (full type_starts brackets)
unfolding r.value_type
value_type_law d = shaped (full type_starts brackets)
    (pick_reads (map_reads (λ s. ty.Int) (word_reads (codes "int") span_of d))
    (pick_reads (map_reads (λ s. ty.Bool) (word_reads (codes "bool") span_of d)) (word_or_array_law d) refl refl) refl refl) refl refl refl

some_value_type : HasPhrase g.value_type
some_value_type = some_left (λ d. key (codes "int") d ⇒ (λ s. ty.Int)) (λ d. (key (codes "bool") d ⇒ (λ s. ty.Bool)) ⊕ g.word_or_array d)
    (some_map (key (codes "int")) (λ s. ty.Int) (some_key (codes "int")))

pub declaration_law : (d : ℕ) → IsReader (r.declaration d) (λ e. g.declaration (plus d e)) (full r.storages brackets)
unfolding r.declaration
declaration_law d = map_reads (λ p. decl_of p.0 p.1) (follow_reads (storage_law d) (value_type_law d) (up g.value_type d some_value_type) refl)

some_declaration : HasPhrase g.declaration
some_declaration = some_map (λ d. g.storage d ▸ g.value_type d) (λ p. decl_of p.0 p.1) (some_then g.storage g.value_type some_storage some_value_type)

-- ---- parameters
name_list_law : (d : ℕ) → IsReader r.name_list (λ e. g.name_list (plus d e)) (full r.ids r.ids)
unfolding r.name_list r.names_more
name_list_law d = shaped (full r.ids r.ids) (listed_reads r.ids [] r.ids [] (identifier_reads name_of d) (identifier_reads name_of d) refl refl) refl refl refl

some_name_list : HasPhrase g.name_list
some_name_list = some_map (λ d. name d ▸ each (name d)) (λ p. p.0 ∷ p.1) (some_then name (λ d. each (name d)) some_name (some_each name))

abbrev declared_names : ℕ → Lang (Decl × List (List ℕ × Span))
declared_names d = g.declaration d ▸ g.name_list d

some_declared_names : HasPhrase declared_names
some_declared_names = some_then g.declaration g.name_list some_declaration some_name_list

pub group_law : (d : ℕ) → IsReader (r.group d) (λ e. g.group (plus d e)) (full r.group_starts r.ids)
unfolding r.group
group_law d = map_reads (λ p. params_all p.0 p.1.0 p.1.1)
    (follow_reads (notes_reads d) (follow_reads (declaration_law d) (name_list_law d) (up g.name_list d some_name_list) refl) (up declared_names d some_declared_names) refl)

some_group : HasPhrase g.group
some_group = some_map (λ d. notes d ▸ declared_names d) (λ p. params_all p.0 p.1.0 p.1.1) (some_then notes declared_names some_notes some_declared_names)

pub next_group_law : (d : ℕ) → IsReader (r.next_group d) (λ e. g.comma g.group (plus d e)) (full r.commas r.ids)
unfolding r.next_group
next_group_law d = comma_law g.group r.group_starts r.ids d (group_law d) some_group

groups_is : (d : ℕ) (ts : List Token) → through (λ p. p.0 ++ joined_lists p.1) (follow (r.group d) (many r.commas (r.next_group d)) ts) ≡ r.groups d ts
unfolding r.groups r.groups_more
groups_is d ts = step (r.group d ts)
  where
    last : (ps : List Param) (w : Answer (List (List Param))) → through {A = List Param × List (List Param)} (λ p. p.0 ++ joined_lists p.1) (w >>= λ y. Ok ((ps, y.0), y.1)) ≡ through (λ gs. ps ++ joined_lists gs) w
    last ps (Ok y) = refl
    last ps (Err e) = refl

    step : (w : Answer (List Param)) → through {A = List Param × List (List Param)} (λ p. p.0 ++ joined_lists p.1) (w >>= λ x. many r.commas (r.next_group d) x.1 >>= λ y. Ok ((x.0, y.0), y.1)) ≡ (w >>= λ x. through (λ gs. x.0 ++ joined_lists gs) (many r.commas (r.next_group d) x.1))
    step (Ok x) = last x.0 (many r.commas (r.next_group d) x.1)
    step (Err e) = refl

abbrev more_groups : ℕ → Lang (List (List Param))
more_groups d = each (g.comma g.group d)

groups_law : (d : ℕ) → IsReader (r.groups d) (λ e. g.groups (plus d e)) (full r.group_starts r.next_starts)
groups_law d = shaped (full r.group_starts r.next_starts)
    (reads_as (r.groups d) (map_reads (λ p. p.0 ++ joined_lists p.1) (follow_reads (group_law d) (many_reads r.commas r.ids (next_group_law d) refl) (up more_groups d (some_each (g.comma g.group))) refl)) (groups_is d)) refl refl refl

abbrev parenthesis : List Kind
parenthesis = r.mark (codes "(")

abbrev in_parentheses : ℕ → Lang (Option (List Param) × Span)
in_parentheses b = maybe (g.groups b) ▸ the (codes ")") b

any_in_parentheses : HasPhraseAnyway in_parentheses
any_in_parentheses d = let w = any_the (codes ")") d in (w.0, (None, w.1), ([], w.0, inr (refl, refl), w.2, refl))

pub params_law : (d : ℕ) → IsReader (r.params d) (λ e. g.params (plus d e)) (full parenthesis [])
unfolding r.params
params_law d = map_reads (λ p. or_empty p.1.0)
    (inside_reads parenthesis (sign_token (codes "(")) (sign_in (codes "(") []) _ in_parentheses
    (some_then (λ d. maybe (g.groups d)) (the (codes ")")) (some_maybe g.groups) (some_the (codes ")")))
    (full (sign (codes ")") ∷ r.group_starts) []) d
    (λ b h. shaped (full (sign (codes ")") ∷ r.group_starts) []) (follow_reads (optional_reads r.group_starts r.next_starts (groups_law b)) (sign_reads (codes ")") span_of b) (up (the (codes ")")) b (some_the (codes ")"))) refl) refl refl refl))

pub some_params : HasPhrase g.params
some_params = some_map (opens parenthesis in_parentheses) (λ p. or_empty p.1.0) (some_opens (sign (codes "(")) (sign_token (codes "(")) (sign_in (codes "(") []) in_parentheses any_in_parentheses)

-- ---- results
rtype_law : (d : ℕ) → IsReader (r.rtype d) (λ e. g.rtype (plus d e)) (full r.group_starts brackets)
unfolding r.rtype
rtype_law d = map_reads (λ p. ret_of p.0 p.1) (follow_reads (notes_reads d) (declaration_law d) (up g.declaration d some_declaration) refl)

some_rtype : HasPhrase g.rtype
some_rtype = some_map (λ d. notes d ▸ g.declaration d) (λ p. ret_of p.0 p.1) (some_then notes g.declaration some_notes some_declaration)

pub next_rtype_law : (d : ℕ) → IsReader (r.next_rtype d) (λ e. g.comma g.rtype (plus d e)) (full r.commas brackets)
unfolding r.next_rtype
next_rtype_law d = comma_law g.rtype r.group_starts brackets d (rtype_law d) some_rtype

some_rtypes : HasPhrase g.rtypes
some_rtypes = some_map (λ d. g.rtype d ▸ each (g.comma g.rtype d)) (λ p. p.0 ∷ p.1) (some_then g.rtype (λ d. each (g.comma g.rtype d)) some_rtype (some_each (g.comma g.rtype)))

abbrev arrow : List Kind
arrow = r.mark (codes "->")

abbrev types_goes : List Kind
types_goes = sign (codes "[") ∷ sign (codes ",") ∷ []

arrow_law : (d : ℕ) → IsReader (r.arrow_types d) (λ e. (the (codes "->") (plus d e) ▸ g.rtypes (plus d e)) ⇒ (λ p. p.1)) (full arrow types_goes)
unfolding r.arrow_types r.rtypes_more
arrow_law d = shaped (full arrow types_goes)
    (map_reads (λ p. p.1) (follow_reads (sign_reads (codes "->") span_of d) (listed_reads r.group_starts brackets r.commas brackets (rtype_law d) (next_rtype_law d) refl refl) (up g.rtypes d some_rtypes) refl)) refl refl refl

abbrev pub results_shape : Shape
results_shape = record { starts = arrow; goes = sign (codes "->") ∷ types_goes; empties = true }

pub results_law : (d : ℕ) → IsReader (r.results d) (λ e. g.results (plus d e)) results_shape
unfolding r.results
results_law d = shaped results_shape (map_reads or_empty (optional_reads arrow types_goes (arrow_law d))) refl refl refl

pub some_results : HasPhrase g.results
some_results e h = ([], [], (None, inr (refl, refl), refl))

-- ---- variables
pub next_name_law : (d : ℕ) → IsReader r.next_name (λ e. g.next_name (plus d e)) (full r.next_starts [])
unfolding r.next_name
next_name_law d = shaped (full r.next_starts [])
    (map_reads (λ p. p.1) (follow_reads (optional_reads r.commas [] (sign_reads (codes ",") span_of d)) (identifier_reads name_of d) (up name d some_name) refl)) refl refl refl

declared_names_law : (d : ℕ) → IsReader r.declared_names (λ e. g.declared_names (plus d e)) (full r.ids r.next_starts)
unfolding r.declared_names r.declared_more
declared_names_law d = shaped (full r.ids r.next_starts) (listed_reads r.ids [] r.next_starts [] (identifier_reads name_of d) (next_name_law d) refl refl) refl refl refl

some_names : HasPhrase g.declared_names
some_names = some_map (λ d. name d ▸ each (g.next_name d)) (λ p. p.0 ∷ p.1) (some_then name (λ d. each (g.next_name d)) some_name (some_each g.next_name))

abbrev names_and_end : ℕ → Lang (List (List ℕ × Span) × Span)
names_and_end d = g.declared_names d ▸ the (codes ";") d

pub decl_law : (d : ℕ) → IsReader (r.decl d) (λ e. g.decl (plus d e)) (full r.storages [])
unfolding r.decl
decl_law d = map_reads (λ p. declared_all p.0 p.1.0)
    (follow_reads (declaration_law d) (follow_reads (declared_names_law d) (sign_reads (codes ";") span_of d) (up (the (codes ";")) d (some_the (codes ";"))) refl)
    (up names_and_end d (some_then g.declared_names (the (codes ";")) some_names (some_the (codes ";")))) refl)
