-- How phrases are read: each choice by the next token. d is how much may still be nested.
use Rattle.std.specs.Prelude.{ℕ, List, [], ◌∷◌, ◌++◌, codes}
use Rattle.jz_tree.specs.Span.{Span}
use Rattle.jz_grammar.specs.Kinds.{Kind, word, sign, identifier, end, span_of}
use Rattle.jz_grammar.specs.Readers.{Reader, ◌>>=◌, through, follow, pick, many, leaf, inside, optional, more_of}
use Rattle.jz_tree.specs.declared.expr.Decl.{Decl}
use Rattle.jz_tree.specs.declared.expr.Storage.{Storage}
use Rattle.jz_tree.specs.declared.expr.Storage.TheVariants as place
use Rattle.jz_tree.specs.declared.expr.Ty.{Ty}
use Rattle.jz_tree.specs.declared.expr.Ty.TheVariants as ty
use Rattle.jz_tree.specs.declared.expr.Var.{Var}
use Rattle.jz_tree.specs.declared.program.Const.{Const}
use Rattle.jz_tree.specs.declared.program.Fun.{Fun}
use Rattle.jz_tree.specs.declared.program.FunKind.{FunKind}
use Rattle.jz_tree.specs.declared.program.FunKind.TheVariants as fun_kind
use Rattle.jz_tree.specs.declared.program.Param.{Param}
use Rattle.jz_tree.specs.declared.program.Program.{Program}
use Rattle.jz_tree.specs.declared.program.Ret.{Ret}
use Rattle.jz_tree.specs.declared.stmt.Stmt.{Stmt}
use Rattle.jz_parse_expr.specs.Trees.{used_of}
use Rattle.jz_parse_expr.specs.Readers.{word_type, index, expr}
pub use Rattle.jz_grammar.specs.TokenReaders.{the, key, name}
use Rattle.jz_parse.specs.NotesReaders.{notes}
use Rattle.jz_parse.specs.StmtReaders.{stmt, stmt_starts}
use Rattle.jz_parse.specs.declared.function.Body.{Body}
use Rattle.jz_parse.specs.declared.function.Item.{Item}
use Rattle.jz_parse.specs.declared.function.Item.TheVariants.{Declares, Does}
use Rattle.jz_parse.specs.declared.program.Part.{Part}
use Rattle.jz_parse.specs.declared.program.Part.TheVariants.{Constant, Function}
use Rattle.jz_parse.specs.Trees.{type_of, decl_of, declared_all, params_all, ret_of, vars_in, stmts_in, body_of, fun_of, const_of, consts_in, funs_in, program_of}
use Rattle.jz_grammar.specs.Parts.{joined_lists, or_empty}
pub use Rattle.jz_grammar.specs.TokenReaders.{ids, commas, comma, one_and}

-- ---- the tokens that decide
abbrev pub keyword : List ℕ → List Kind
keyword s = word s ∷ []

abbrev pub mark : List ℕ → List Kind
mark s = sign s ∷ []

abbrev pub storages : List Kind
storages = word (codes "reg") ∷ word (codes "stack") ∷ word (codes "inline") ∷ []

-- ---- declarations
unfoldable pub storage : Reader Storage
storage = pick (keyword (codes "reg")) (λ ts. through (λ s. place.Reg) (key (codes "reg") ts))
    (pick (keyword (codes "stack")) (λ ts. through (λ s. place.Stack) (key (codes "stack") ts)) (λ ts. through (λ s. place.Inline) (key (codes "inline") ts)))

unfoldable pub word_or_array : ℕ → Reader Ty
word_or_array d ts = through (λ p. type_of p.0 p.1) (follow word_type (optional (mark (codes "[")) (index d)) ts)

unfoldable pub value_type : ℕ → Reader Ty
value_type d = pick (keyword (codes "int")) (λ ts. through (λ s. ty.Int) (key (codes "int") ts))
    (pick (keyword (codes "bool")) (λ ts. through (λ s. ty.Bool) (key (codes "bool") ts)) (word_or_array d))

unfoldable pub declaration : ℕ → Reader Decl
declaration d ts = through (λ p. decl_of p.0 p.1) (follow storage (value_type d) ts)

unfoldable pub names_more : List (List ℕ × Span) → Reader (List (List ℕ × Span))
names_more out ts = more_of ids name out ts

unfoldable pub name_list : Reader (List (List ℕ × Span))
name_list ts = one_and name names_more ts

-- ---- parameters
unfoldable pub group : ℕ → Reader (List Param)
group d ts = through (λ (ns, (t, xs)). params_all ns t xs) (follow (notes d) (follow (declaration d) name_list) ts)

unfoldable pub next_group : ℕ → Reader (List Param)
next_group d ts = comma (group d) ts

unfoldable pub groups_more : ℕ → List Param → Reader (List Param)
groups_more d out ts = through (λ gs. out ++ joined_lists gs) (many commas (next_group d) ts)

unfoldable pub groups : ℕ → Reader (List Param)
groups d ts = group d ts >>= λ x. groups_more d x.0 x.1

abbrev pub group_starts : List Kind
group_starts = sign (codes "#") ∷ storages

unfoldable pub params : ℕ → Reader (List Param)
params d ts = through (λ (_, (gs, _)). or_empty gs) (inside (mark (codes "(")) (λ b. follow (optional group_starts (groups b)) (the (codes ")"))) d ts)

-- ---- results
unfoldable pub rtype : ℕ → Reader Ret
rtype d ts = through (λ p. ret_of p.0 p.1) (follow (notes d) (declaration d) ts)

unfoldable pub next_rtype : ℕ → Reader Ret
next_rtype d ts = comma (rtype d) ts

unfoldable pub rtypes_more : ℕ → List Ret → Reader (List Ret)
rtypes_more d out ts = more_of commas (next_rtype d) out ts

unfoldable pub arrow_types : ℕ → Reader (List Ret)
arrow_types d ts = through (λ p. p.1) (follow (the (codes "->")) (one_and (rtype d) (rtypes_more d)) ts)

unfoldable pub results : ℕ → Reader (List Ret)
results d ts = through or_empty (optional (mark (codes "->")) (arrow_types d) ts)

-- ---- variables
unfoldable pub next_name : Reader (List ℕ × Span)
next_name ts = through (λ p. p.1) (follow (optional commas (the (codes ","))) name ts)

abbrev pub next_starts : List Kind
next_starts = sign (codes ",") ∷ identifier ∷ []

unfoldable pub declared_more : List (List ℕ × Span) → Reader (List (List ℕ × Span))
declared_more out ts = more_of next_starts next_name out ts

unfoldable pub declared_names : Reader (List (List ℕ × Span))
declared_names ts = one_and name declared_more ts

unfoldable pub decl : ℕ → Reader (List Var)
decl d ts = through (λ (t, (xs, _)). declared_all t xs) (follow (declaration d) (follow declared_names (the (codes ";"))) ts)

-- ---- declarations and statements
unfoldable pub item : ℕ → Reader Item
item d = pick storages (λ ts. through Declares (decl d ts)) (λ ts. through Does (stmt d ts))

abbrev pub item_starts : List Kind
item_starts = storages ++ stmt_starts

unfoldable pub items_more : ℕ → List Var → List Stmt → Reader (List Var × List Stmt)
items_more d vars stmts ts = through (λ is. (vars ++ vars_in is, stmts ++ stmts_in is)) (many item_starts (item d) ts)

-- ---- returned variables
unfoldable pub variable_used : Reader Var
variable_used ts = through used_of (name ts)

unfoldable pub next_used : Reader Var
next_used ts = comma variable_used ts

unfoldable pub used_more : List Var → Reader (List Var)
used_more out ts = more_of commas next_used out ts

unfoldable pub variables : Reader (List Var)
variables ts = one_and variable_used used_more ts

unfoldable pub variables_enclosed : ℕ → Reader (List Var)
variables_enclosed d ts = through (λ (_, (vars, _)). vars) (inside (mark (codes "(")) (λ b. follow variables (the (codes ")"))) d ts)

unfoldable pub names : ℕ → Reader (List Var)
names d = pick ids variables (variables_enclosed d)

abbrev pub names_starts : List Kind
names_starts = identifier ∷ sign (codes "(") ∷ []

unfoldable pub variables_returned : ℕ → Reader (List Var)
variables_returned d ts = through (λ (_, (vars, _)). or_empty vars) (follow (key (codes "return")) (follow (optional names_starts (names d)) (the (codes ";"))) ts)

unfoldable pub ending : ℕ → Reader (List Var)
ending d ts = through or_empty (optional (keyword (codes "return")) (variables_returned d) ts)

-- ---- functions
unfoldable pub body : ℕ → Reader Body
body d ts = through (λ (_, (items, (result, _))). body_of items result) (inside (mark (codes "{")) (λ b. follow (items_more b [] []) (follow (ending b) (the (codes "}")))) d ts)

unfoldable pub kind : Reader FunKind
kind = pick (keyword (codes "inline")) (λ ts. through (λ s. fun_kind.Inline) (key (codes "inline") ts)) (λ ts. through (λ s. fun_kind.Export) (key (codes "export") ts))

unfoldable pub function : ℕ → Reader Fun
function d ts = through (λ (ns, (sort, (_, (id, (ps, (rets, inner)))))). fun_of ns sort id ps rets inner)
    (follow (notes d) (follow kind (follow (key (codes "fn")) (follow name (follow (params d) (follow (results d) (body d)))))) ts)

-- ---- programs
unfoldable pub constant : ℕ → Reader Const
constant d ts = through (λ (_, (_, (id, (_, (value, _))))). const_of id value)
    (follow (key (codes "param")) (follow (key (codes "int")) (follow name (follow (the (codes "=")) (follow (expr d) (the (codes ";")))))) ts)

unfoldable pub part : ℕ → Reader Part
part d = pick (keyword (codes "param")) (λ ts. through Constant (constant d ts)) (λ ts. through Function (function d ts))

abbrev pub part_starts : List Kind
part_starts = word (codes "param") ∷ sign (codes "#") ∷ word (codes "inline") ∷ word (codes "export") ∷ []

unfoldable pub parts_more : ℕ → List Const → List Fun → Reader (List Const × List Fun)
parts_more d consts funs ts = through (λ ps. (consts ++ consts_in ps, funs ++ funs_in ps)) (many part_starts (part d) ts)

unfoldable pub program : ℕ → Reader Program
program d ts = through (λ p. program_of p.0) (follow (parts_more d [] []) (leaf (end ∷ []) span_of) ts)
