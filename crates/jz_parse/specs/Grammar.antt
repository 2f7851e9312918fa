-- The grammar of the language above statements, line by line. d is how much may still be nested.
use Rattle.std.specs.Prelude.{ℕ, List, [], ◌∷◌, ◌++◌, codes}
use Rattle.jz_tree.specs.Span.{Span}
use Rattle.jz_grammar.specs.Kinds.{sign, end, span_of}
use Rattle.jz_grammar.specs.Grammar.{Lang, token, ◌▸◌, ◌⊕◌, ◌⇒◌, each, opens, maybe}
use Rattle.jz_tree.specs.declared.expr.Decl.{Decl}
use Rattle.jz_tree.specs.declared.expr.Storage.{Storage}
use Rattle.jz_tree.specs.declared.expr.Storage.TheVariants as place
use Rattle.jz_tree.specs.declared.expr.Ty.{Ty}
use Rattle.jz_tree.specs.declared.expr.Ty.TheVariants as ty
use Rattle.jz_tree.specs.declared.expr.Var.{Var}
use Rattle.jz_tree.specs.declared.program.Const.{Const}
use Rattle.jz_tree.specs.declared.program.Fun.{Fun}
use Rattle.jz_tree.specs.declared.program.FunKind.{FunKind}
use Rattle.jz_tree.specs.declared.program.FunKind.TheVariants as fun_kind
use Rattle.jz_tree.specs.declared.program.Param.{Param}
use Rattle.jz_tree.specs.declared.program.Program.{Program}
use Rattle.jz_tree.specs.declared.program.Ret.{Ret}
use Rattle.jz_tree.specs.declared.stmt.Stmt.{Stmt}
use Rattle.jz_parse_expr.specs.Trees.{used_of}
use Rattle.jz_parse_expr.specs.Table.{the, key, name, word_type, index, expr}
use Rattle.jz_parse.specs.NotesTable.{notes}
use Rattle.jz_parse.specs.Table.{stmt}
use Rattle.jz_parse.specs.declared.function.Body.{Body}
use Rattle.jz_parse.specs.declared.function.Item.{Item}
use Rattle.jz_parse.specs.declared.function.Item.TheVariants.{Declares, Does}
use Rattle.jz_parse.specs.declared.program.Part.{Part}
use Rattle.jz_parse.specs.declared.program.Part.TheVariants.{Constant, Function}
use Rattle.jz_parse.specs.Trees.{type_of, decl_of, declared_all, params_all, ret_of, vars_in, stmts_in, body_of, fun_of, const_of, consts_in, funs_in, program_of}
use Rattle.jz_grammar.specs.Parts.{joined_lists, or_empty}
pub use Rattle.jz_parse.specs.Table.{comma}

-- storage = "reg" | "stack" | "inline"
abbrev pub storage : ℕ → Lang Storage
storage d = (key (codes "reg") d ⇒ (λ s. place.Reg)) ⊕ (key (codes "stack") d ⇒ (λ s. place.Stack)) ⊕ (key (codes "inline") d ⇒ (λ s. place.Inline))

-- type = "int" | "bool" | wtype [ "[" expr "]" ]
abbrev pub word_or_array : ℕ → Lang Ty
word_or_array d = (word_type d ▸ maybe (index d)) ⇒ (λ p. type_of p.0 p.1)

abbrev pub value_type : ℕ → Lang Ty
value_type d = (key (codes "int") d ⇒ (λ s. ty.Int)) ⊕ (key (codes "bool") d ⇒ (λ s. ty.Bool)) ⊕ word_or_array d

-- storage type
abbrev pub declaration : ℕ → Lang Decl
declaration d = (storage d ▸ value_type d) ⇒ (λ p. decl_of p.0 p.1)

-- ID { ID }
abbrev pub name_list : ℕ → Lang (List (List ℕ × Span))
name_list d = (name d ▸ each (name d)) ⇒ (λ p. p.0 ∷ p.1)

-- group = { annot } storage type ID { ID }
abbrev pub group : ℕ → Lang (List Param)
group d = (notes d ▸ declaration d ▸ name_list d) ⇒ (λ (ns, (t, xs)). params_all ns t xs)

-- group { "," group }
abbrev pub groups : ℕ → Lang (List Param)
groups d = (group d ▸ each (comma group d)) ⇒ (λ p. p.0 ++ joined_lists p.1)

-- "(" [ group { "," group } ] ")"
abbrev pub params : ℕ → Lang (List Param)
params d = opens (sign (codes "(") ∷ []) (λ b. maybe (groups b) ▸ the (codes ")") b) d ⇒ (λ (_, (gs, _)). or_empty gs)

-- rtype = { annot } storage type
abbrev pub rtype : ℕ → Lang Ret
rtype d = (notes d ▸ declaration d) ⇒ (λ p. ret_of p.0 p.1)

-- [ "->" rtype { "," rtype } ]
abbrev pub rtypes : ℕ → Lang (List Ret)
rtypes d = (rtype d ▸ each (comma rtype d)) ⇒ (λ p. p.0 ∷ p.1)

abbrev pub results : ℕ → Lang (List Ret)
results d = maybe ((the (codes "->") d ▸ rtypes d) ⇒ (λ p. p.1)) ⇒ or_empty

-- decl = storage type ID { [ "," ] ID } ";"
abbrev pub next_name : ℕ → Lang (List ℕ × Span)
next_name d = (maybe (the (codes ",") d) ▸ name d) ⇒ (λ p. p.1)

abbrev pub declared_names : ℕ → Lang (List (List ℕ × Span))
declared_names d = (name d ▸ each (next_name d)) ⇒ (λ p. p.0 ∷ p.1)

abbrev pub decl : ℕ → Lang (List Var)
decl d = (declaration d ▸ declared_names d ▸ the (codes ";") d) ⇒ (λ (t, (xs, _)). declared_all t xs)

-- { decl | stmt }
abbrev pub item : ℕ → Lang Item
item d = (decl d ⇒ Declares) ⊕ (stmt d ⇒ Does)

abbrev pub items : ℕ → Lang (List Var × List Stmt)
items d = each (item d) ⇒ (λ is. (vars_in is, stmts_in is))

-- names = ID { "," ID } | "(" ID { "," ID } ")"
abbrev pub variable_used : ℕ → Lang Var
variable_used d = name d ⇒ used_of

abbrev pub variables : ℕ → Lang (List Var)
variables d = (variable_used d ▸ each (comma variable_used d)) ⇒ (λ p. p.0 ∷ p.1)

abbrev pub variables_enclosed : ℕ → Lang (List Var)
variables_enclosed d = opens (sign (codes "(") ∷ []) (λ b. variables b ▸ the (codes ")") b) d ⇒ (λ (_, (vars, _)). vars)

abbrev pub names : ℕ → Lang (List Var)
names d = variables d ⊕ variables_enclosed d

-- [ "return" [ names ] ";" ]
abbrev pub variables_returned : ℕ → Lang (List Var)
variables_returned d = (key (codes "return") d ▸ maybe (names d) ▸ the (codes ";") d) ⇒ (λ (_, (vars, _)). or_empty vars)

abbrev pub ending : ℕ → Lang (List Var)
ending d = maybe (variables_returned d) ⇒ or_empty

-- "{" { decl | stmt } [ "return" [ names ] ";" ] "}"
abbrev pub body : ℕ → Lang Body
body d = opens (sign (codes "{") ∷ []) (λ b. items b ▸ ending b ▸ the (codes "}") b) d ⇒ (λ (_, (is, (result, _))). body_of is result)

-- "inline" | "export"
abbrev pub kind : ℕ → Lang FunKind
kind d = (key (codes "inline") d ⇒ (λ s. fun_kind.Inline)) ⊕ (key (codes "export") d ⇒ (λ s. fun_kind.Export))

-- fun = { annot } ( "inline" | "export" ) "fn" ID "(" [ group { "," group } ] ")" [ "->" rtype {
-- "," rtype } ]
--       "{" { decl | stmt } [ "return" [ names ] ";" ] "}"
abbrev pub function : ℕ → Lang Fun
function d = (notes d ▸ kind d ▸ key (codes "fn") d ▸ name d ▸ params d ▸ results d ▸ body d)
    ⇒ (λ (ns, (sort, (_, (id, (ps, (rets, inner)))))). fun_of ns sort id ps rets inner)

-- param = "param" "int" ID "=" expr ";"
abbrev pub constant : ℕ → Lang Const
constant d = (key (codes "param") d ▸ key (codes "int") d ▸ name d ▸ the (codes "=") d ▸ expr d ▸ the (codes ";") d) ⇒ (λ (_, (_, (id, (_, (value, _))))). const_of id value)

-- { param | fun }
abbrev pub part : ℕ → Lang Part
part d = (constant d ⇒ Constant) ⊕ (function d ⇒ Function)

abbrev pub parts : ℕ → Lang (List Const × List Fun)
parts d = each (part d) ⇒ (λ ps. (consts_in ps, funs_in ps))

-- program = { param | fun } END
abbrev pub program : ℕ → Lang Program
program d = (parts d ▸ (token (end ∷ []) d ⇒ span_of)) ⇒ (λ p. program_of p.0)
