-- The readers of functions and programs read their grammar.
use Rattle.std.proofs.Common.{ℕ, List, [], ◌∷◌, ◌++◌, Option, None, true, inr, refl, codes}
use Rattle.jz_tree.specs.Span.{Span}
use Rattle.jz_grammar.specs.Kinds.{Kind, word, sign, end, span_of}
use Rattle.jz_grammar.specs.Grammar.{Lang, token, ◌▸◌, ◌⇒◌, each, opens, maybe}
use Rattle.jz_grammar.proofs.Laws.{IsReader, HasPhrase, Shape, full}
use Rattle.jz_grammar.specs.Deriving.{plus}
use Rattle.jz_grammar.proofs.Combine.{follow_reads, map_reads, pick_reads, inside_reads, optional_reads, many_reads, shaped}
use Rattle.jz_grammar.proofs.Opening.{HasPhraseAnyway, some_opens}
use Rattle.jz_grammar.proofs.Samples.{sign_token, sign_in, end_token, end_in, sign_reads, word_reads, identifier_reads, end_reads, some_leaf, some_then, some_map, some_left, some_each, some_maybe, up}
use Rattle.jz_grammar.proofs.Steps.{listed_reads}
use Rattle.jz_grammar.specs.Tokens.{name_of}
use Rattle.jz_tree.specs.declared.expr.Expr.{Expr}
use Rattle.jz_tree.specs.declared.expr.Var.{Var}
use Rattle.jz_tree.specs.declared.program.FunKind.{FunKind}
use Rattle.jz_tree.specs.declared.program.FunKind.TheVariants as fun_kind
use Rattle.jz_tree.specs.declared.program.Param.{Param}
use Rattle.jz_tree.specs.declared.program.Ret.{Ret}
use Rattle.jz_tree.specs.declared.stmt.Stmt.{Stmt}
use Rattle.jz_parse.specs.declared.function.Body.{Body}
use Rattle.jz_parse_expr.specs.Table.{the, key, name, expr}
use Rattle.jz_parse_expr.specs.Trees.{used_of}
use Rattle.jz_parse_expr.proofs.Laws.{expr_reads, some_expr}
use Rattle.jz_parse.specs.StmtReaders.{stmt_goes}
use Rattle.jz_parse.proofs.NoteLemmas.{notes_reads}
use Rattle.jz_parse.proofs.StmtReads.{stmt_reads}
use Rattle.jz_parse.specs.declared.function.Item.TheVariants.{Declares, Does}
use Rattle.jz_parse.specs.declared.program.Part.TheVariants.{Constant, Function}
use Rattle.jz_parse.specs.Trees.{vars_in, stmts_in, body_of, fun_of, const_of, consts_in, funs_in, program_of}
use Rattle.jz_grammar.specs.Parts.{or_empty}
use Rattle.jz_parse.specs.Grammar as g
use Rattle.jz_parse.specs.InnerReaders as r
use Rattle.jz_parse.proofs.DeclareLaws.{some_the, some_key, some_name, any_the, comma_law, params_law, some_params, results_law, some_results, decl_law}

-- ---- declarations and statements
pub item_law : (d : ℕ) → IsReader (r.item d) (λ e. g.item (plus d e)) (full r.item_starts stmt_goes)
unfolding r.item
item_law d = shaped (full r.item_starts stmt_goes) (pick_reads (map_reads Declares (decl_law d)) (map_reads Does (stmt_reads d)) refl refl) refl refl refl

items_law : (d : ℕ) → IsReader (r.items_more d [] []) (λ e. g.items (plus d e)) (record { starts = r.item_starts; goes = r.item_starts ++ stmt_goes; empties = true })
unfolding r.items_more
items_law d = map_reads (λ is. (vars_in is, stmts_in is)) (many_reads r.item_starts stmt_goes (item_law d) refl)

-- ---- returned variables
used_law : (d : ℕ) → IsReader r.variable_used (λ e. g.variable_used (plus d e)) (full r.ids [])
unfolding r.variable_used
used_law d = map_reads used_of (identifier_reads name_of d)

some_used : HasPhrase g.variable_used
some_used = some_map name used_of some_name

pub next_used_law : (d : ℕ) → IsReader r.next_used (λ e. g.comma g.variable_used (plus d e)) (full r.commas [])
unfolding r.next_used
next_used_law d = comma_law g.variable_used r.ids [] d (used_law d) some_used

variables_law : (d : ℕ) → IsReader r.variables (λ e. g.variables (plus d e)) (full r.ids r.commas)
unfolding r.variables r.used_more
variables_law d = shaped (full r.ids r.commas) (listed_reads r.ids [] r.commas [] (used_law d) (next_used_law d) refl refl) refl refl refl

some_variables : HasPhrase g.variables
some_variables = some_map (λ d. g.variable_used d ▸ each (g.comma g.variable_used d)) (λ p. p.0 ∷ p.1) (some_then g.variable_used (λ d. each (g.comma g.variable_used d)) some_used (some_each (g.comma g.variable_used)))

abbrev parenthesis : List Kind
parenthesis = r.mark (codes "(")

abbrev closed_variables : ℕ → Lang (List Var × Span)
closed_variables b = g.variables b ▸ the (codes ")") b

enclosed_law : (d : ℕ) → IsReader (r.variables_enclosed d) (λ e. g.variables_enclosed (plus d e)) (full parenthesis [])
unfolding r.variables_enclosed
enclosed_law d = map_reads (λ p. p.1.0)
    (inside_reads parenthesis (sign_token (codes "(")) (sign_in (codes "(") []) _ closed_variables (some_then g.variables (the (codes ")")) some_variables (some_the (codes ")"))) (full r.ids []) d
    (λ b h. follow_reads (variables_law b) (sign_reads (codes ")") span_of b) (up (the (codes ")")) b (some_the (codes ")"))) refl))

names_law : (d : ℕ) → IsReader (r.names d) (λ e. g.names (plus d e)) (full r.names_starts r.commas)
unfolding r.names
names_law d = shaped (full r.names_starts r.commas) (pick_reads (variables_law d) (enclosed_law d) refl refl) refl refl refl

abbrev returns : List Kind
returns = r.keyword (codes "return")

abbrev names_and_end : ℕ → Lang (Option (List Var) × Span)
names_and_end d = maybe (g.names d) ▸ the (codes ";") d

returned_law : (d : ℕ) → IsReader (r.variables_returned d) (λ e. g.variables_returned (plus d e)) (full returns [])
unfolding r.variables_returned
returned_law d = map_reads (λ p. or_empty p.1.0)
    (follow_reads (word_reads (codes "return") span_of d)
    (follow_reads (optional_reads r.names_starts r.commas (names_law d)) (sign_reads (codes ";") span_of d) (up (the (codes ";")) d (some_the (codes ";"))) refl)
    (up names_and_end d (some_then (λ d. maybe (g.names d)) (the (codes ";")) (some_maybe g.names) (some_the (codes ";")))) refl)

abbrev ending_shape : Shape
ending_shape = record { starts = returns; goes = returns; empties = true }

ending_law : (d : ℕ) → IsReader (r.ending d) (λ e. g.ending (plus d e)) ending_shape
unfolding r.ending
ending_law d = shaped ending_shape (map_reads or_empty (optional_reads returns [] (returned_law d))) refl refl refl

-- ---- bodies
abbrev braces : List Kind
braces = r.mark (codes "{")

abbrev last_of_body : ℕ → Lang (List Var × Span)
last_of_body b = g.ending b ▸ the (codes "}") b

abbrev in_braces : ℕ → Lang ((List Var × List Stmt) × (List Var × Span))
in_braces b = g.items b ▸ last_of_body b

any_in_braces : HasPhraseAnyway in_braces
any_in_braces d = let w = any_the (codes "}") d in
    (w.0, (([], []), ([], w.1)), ([], w.0, ([], refl, refl), ([], w.0, (None, inr (refl, refl), refl), w.2, refl), refl))

some_in_braces : HasPhrase in_braces
some_in_braces d h = any_in_braces d

some_last : HasPhrase last_of_body
some_last d h = let w = any_the (codes "}") d in (w.0, ([], w.1), ([], w.0, (None, inr (refl, refl), refl), w.2, refl))

abbrev in_braces_starts : List Kind
in_braces_starts = sign (codes "}") ∷ word (codes "return") ∷ r.item_starts

body_law : (d : ℕ) → IsReader (r.body d) (λ e. g.body (plus d e)) (full braces [])
unfolding r.body
body_law d = map_reads (λ p. body_of p.1.0 p.1.1.0)
    (inside_reads braces (sign_token (codes "{")) (sign_in (codes "{") []) _ in_braces some_in_braces (full in_braces_starts []) d
    (λ b h. shaped (full in_braces_starts [])
    (follow_reads (items_law b) (follow_reads (ending_law b) (sign_reads (codes "}") span_of b) (up (the (codes "}")) b (some_the (codes "}"))) refl) (up last_of_body b some_last) refl) refl refl refl))

some_body : HasPhrase g.body
some_body = some_map (opens braces in_braces) (λ p. body_of p.1.0 p.1.1.0) (some_opens (sign (codes "{")) (sign_token (codes "{")) (sign_in (codes "{") []) in_braces any_in_braces)

-- ---- functions
abbrev kinds : List Kind
kinds = word (codes "inline") ∷ word (codes "export") ∷ []

kind_law : (d : ℕ) → IsReader r.kind (λ e. g.kind (plus d e)) (full kinds [])
unfolding r.kind
kind_law d = shaped (full kinds []) (pick_reads (map_reads (λ s. fun_kind.Inline) (word_reads (codes "inline") span_of d)) (map_reads (λ s. fun_kind.Export) (word_reads (codes "export") span_of d)) refl refl) refl refl refl

some_kind : HasPhrase g.kind
some_kind = some_left (λ d. key (codes "inline") d ⇒ (λ s. fun_kind.Inline)) (λ d. key (codes "export") d ⇒ (λ s. fun_kind.Export)) (some_map (key (codes "inline")) (λ s. fun_kind.Inline) (some_key (codes "inline")))

abbrev from_results : ℕ → Lang (List Ret × Body)
from_results d = g.results d ▸ g.body d

abbrev from_params : ℕ → Lang (List Param × (List Ret × Body))
from_params d = g.params d ▸ from_results d

abbrev from_name : ℕ → Lang ((List ℕ × Span) × (List Param × (List Ret × Body)))
from_name d = name d ▸ from_params d

abbrev from_fn : ℕ → Lang (Span × ((List ℕ × Span) × (List Param × (List Ret × Body))))
from_fn d = key (codes "fn") d ▸ from_name d

abbrev from_kind : ℕ → Lang (FunKind × (Span × ((List ℕ × Span) × (List Param × (List Ret × Body)))))
from_kind d = g.kind d ▸ from_fn d

some_from_results : HasPhrase from_results
some_from_results = some_then g.results g.body some_results some_body

some_from_params : HasPhrase from_params
some_from_params = some_then g.params from_results some_params some_from_results

some_from_name : HasPhrase from_name
some_from_name = some_then name from_params some_name some_from_params

some_from_fn : HasPhrase from_fn
some_from_fn = some_then (key (codes "fn")) from_name (some_key (codes "fn")) some_from_name

some_from_kind : HasPhrase from_kind
some_from_kind = some_then g.kind from_fn some_kind some_from_fn

abbrev function_starts : List Kind
function_starts = sign (codes "#") ∷ kinds

function_law : (d : ℕ) → IsReader (r.function d) (λ e. g.function (plus d e)) (full function_starts [])
unfolding r.function
function_law d = shaped (full function_starts [])
    (map_reads (λ p. fun_of p.0 p.1.0 p.1.1.1.0 p.1.1.1.1.0 p.1.1.1.1.1.0 p.1.1.1.1.1.1)
    (follow_reads (notes_reads d)
    (follow_reads (kind_law d)
    (follow_reads (word_reads (codes "fn") span_of d)
    (follow_reads (identifier_reads name_of d)
    (follow_reads (params_law d)
    (follow_reads (results_law d) (body_law d) (up g.body d some_body) refl)
    (up from_results d some_from_results) refl)
    (up from_params d some_from_params) refl)
    (up from_name d some_from_name) refl)
    (up from_fn d some_from_fn) refl)
    (up from_kind d some_from_kind) refl)) refl refl refl

-- ---- constants
abbrev from_value : ℕ → Lang (Expr × Span)
from_value d = expr d ▸ the (codes ";") d

abbrev from_equal : ℕ → Lang (Span × (Expr × Span))
from_equal d = the (codes "=") d ▸ from_value d

abbrev from_constant : ℕ → Lang ((List ℕ × Span) × (Span × (Expr × Span)))
from_constant d = name d ▸ from_equal d

abbrev from_int : ℕ → Lang (Span × ((List ℕ × Span) × (Span × (Expr × Span))))
from_int d = key (codes "int") d ▸ from_constant d

some_from_value : HasPhrase from_value
some_from_value = some_then expr (the (codes ";")) some_expr (some_the (codes ";"))

some_from_equal : HasPhrase from_equal
some_from_equal = some_then (the (codes "=")) from_value (some_the (codes "=")) some_from_value

some_from_constant : HasPhrase from_constant
some_from_constant = some_then name from_equal some_name some_from_equal

some_from_int : HasPhrase from_int
some_from_int = some_then (key (codes "int")) from_constant (some_key (codes "int")) some_from_constant

constant_law : (d : ℕ) → IsReader (r.constant d) (λ e. g.constant (plus d e)) (full (r.keyword (codes "param")) [])
unfolding r.constant
constant_law d = map_reads (λ p. const_of p.1.1.0 p.1.1.1.1.0)
    (follow_reads (word_reads (codes "param") span_of d)
    (follow_reads (word_reads (codes "int") span_of d)
    (follow_reads (identifier_reads name_of d)
    (follow_reads (sign_reads (codes "=") span_of d)
    (follow_reads (expr_reads d) (sign_reads (codes ";") span_of d) (up (the (codes ";")) d (some_the (codes ";"))) refl)
    (up from_value d some_from_value) refl)
    (up from_equal d some_from_equal) refl)
    (up from_constant d some_from_constant) refl)
    (up from_int d some_from_int) refl)

-- ---- programs
pub part_law : (d : ℕ) → IsReader (r.part d) (λ e. g.part (plus d e)) (full r.part_starts [])
unfolding r.part
part_law d = shaped (full r.part_starts []) (pick_reads (map_reads Constant (constant_law d)) (map_reads Function (function_law d)) refl refl) refl refl refl

parts_law : (d : ℕ) → IsReader (r.parts_more d [] []) (λ e. g.parts (plus d e)) (record { starts = r.part_starts; goes = r.part_starts; empties = true })
unfolding r.parts_more
parts_law d = shaped (record { starts = r.part_starts; goes = r.part_starts; empties = true })
    (map_reads (λ ps. (consts_in ps, funs_in ps)) (many_reads r.part_starts [] (part_law d) refl)) refl refl refl

some_end : HasPhrase (λ d. token (end ∷ []) d ⇒ span_of)
some_end = some_leaf (end ∷ []) span_of end_token end_in

abbrev pub program_shape : Shape
program_shape = full (r.part_starts ++ end ∷ []) []

pub program_law : (d : ℕ) → IsReader (r.program d) (λ e. g.program (plus d e)) program_shape
unfolding r.program
program_law d = map_reads (λ p. program_of p.0) (follow_reads (parts_law d) (end_reads span_of d) (up (λ d. token (end ∷ []) d ⇒ span_of) d some_end) refl)
