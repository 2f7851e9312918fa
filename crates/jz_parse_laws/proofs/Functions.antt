-- The names in each function and each constant.
use Rattle.std.proofs.Common.{ℕ, List, [], ◌∷◌, Some, None, sym, subst, codes}
use Rattle.std.specs.Prelude.{All}
use Rattle.std.proofs.lemmas.List.Elements.{All-nil, All-cons, All-head, All-tail, All-append}
use Rattle.jz_tree.specs.Span.{Span}
use Rattle.jz_grammar.specs.Grammar.{Lang}
use Rattle.jz_grammar.specs.Parts.{or_empty, joined_lists}
use Rattle.jz_tree.specs.declared.expr.Expr.{Expr}
use Rattle.jz_tree.specs.declared.expr.Ty.{Ty}
use Rattle.jz_tree.specs.declared.expr.Access.{Access}
use Rattle.jz_tree.specs.declared.expr.Decl.{Decl}
use Rattle.jz_tree.specs.declared.expr.Var.{Var}
use Rattle.jz_tree.specs.declared.expr.Expr.TheOpen.{Var-F}
use Rattle.jz_tree.specs.declared.expr.Expr.TheViews.{out-roll-Var}
use Rattle.jz_tree.specs.declared.stmt.Stmt.{Stmt}
use Rattle.jz_tree.specs.declared.program.Const.{Const}
use Rattle.jz_tree.specs.declared.program.Fun.{Fun}
use Rattle.jz_tree.specs.declared.program.Note.{Note}
use Rattle.jz_tree.specs.declared.program.Param.{Param}
use Rattle.jz_tree.specs.declared.program.Program.{Program}
use Rattle.jz_parse.specs.declared.function.Body.{Body}
use Rattle.jz_parse.specs.declared.function.Item.{Item}
use Rattle.jz_parse.specs.declared.function.Item.TheVariants.{Declares, Does}
use Rattle.jz_parse.specs.declared.program.Part.{Part}
use Rattle.jz_parse.specs.declared.program.Part.TheVariants.{Constant, Function}
use Rattle.jz_parse_expr.specs.Trees.{used_of}
use Rattle.jz_parse_expr.specs.Table as e
use Rattle.jz_parse.specs.Trees.{declared_of, declared_all, params_all, vars_in, stmts_in, consts_in, funs_in, program_of}
use Rattle.jz_parse.specs.Grammar as g
use Rattle.jz_parse_laws.proofs.Phrases.{IfSome, AnyOf, or_all, joined_all, Gives, anything, two, seen, either, every, perhaps, within, OfName, name}
use Rattle.jz_parse_laws.proofs.Bodies.{OfVar, OfStmt, OfBody, of_body}
use Rattle.jz_parse_laws.proofs.Expressions.{used}
use Rattle.jz_parse_laws.proofs.Statements.{stmt}

abbrev VarLayer : Type 0
VarLayer = Var-F Expr Ty Access Decl Var

module _ (N : List ℕ → Type 0) where
  abbrev V : Var → Type 0
  V = OfVar N

  abbrev G : {A : Type 0} → Lang A → (A → Type 0) → Type 0
  G = Gives N

  abbrev M : List ℕ × Span → Type 0
  M = OfName N

  -- ---- declarations
  declared : (t : Decl) (n : List ℕ × Span) → M n → V (declared_of t n)
  declared t n h =
      subst (λ (y : VarLayer). N y.name) (sym (out-roll-Var (record { name = n.0; copy = 0; cell = None; decl = Some t; span = n.1 }))) h

  all_declared : (t : Decl) (ns : List (List ℕ × Span)) → All M ns → All V (declared_all t ns)
  all_declared t [] h = All-nil V
  all_declared t (n ∷ ns) h = All-cons V (declared_of t n) (declared_all t ns) (declared t n (All-head M n ns h)) (all_declared t ns (All-tail M n ns h))

  abbrev pub OfParam : Param → Type 0
  OfParam p = V p.var

  params_declared : (notes : List Note) (t : Decl) (ns : List (List ℕ × Span)) → All M ns → All OfParam (params_all notes t ns)
  params_declared notes t [] h = All-nil OfParam
  params_declared notes t (n ∷ ns) h =
      All-cons OfParam _ (params_all notes t ns) (declared t n (All-head M n ns h)) (params_declared notes t ns (All-tail M n ns h))

  name_list : (d : ℕ) → G (g.name_list d) (All M)
  name_list d = seen N (All M) _ (λ p h. All-cons M p.0 p.1 h.0 h.1) (two N (name N d) (every N M (name N d)))

  declared_names : (d : ℕ) → G (g.declared_names d) (All M)
  declared_names d =
      seen N (All M) _ (λ p h. All-cons M p.0 p.1 h.0 h.1)
      (two N (name N d) (every N M (seen N M _ (λ p h. h.1) (two N (anything N _) (name N d)))))

  group : (d : ℕ) → G (g.group d) (All OfParam)
  group d = seen N (All OfParam) _ (λ p h. params_declared p.0 p.1.0 p.1.1 h.1.1) (two N (anything N _) (two N (anything N (g.declaration d)) (name_list d)))

  groups : (d : ℕ) → G (g.groups d) (All OfParam)
  groups d =
      seen N (All OfParam) _ (λ p h. All-append OfParam p.0 (joined_lists p.1) h.0 (joined_all OfParam p.1 h.1))
      (two N (group d) (every N (All OfParam) (seen N (All OfParam) _ (λ p h. h.1) (two N (anything N (e.the (codes ",") d)) (group d)))))

  params : (d : ℕ) → G (g.params d) (All OfParam)
  params d =
      seen N (All OfParam) _ (λ p h. or_all OfParam p.1.0 h.0)
      (within N _ _ (λ q. IfSome (All OfParam) q.0 × AnyOf q.1) d (λ b. two N (perhaps N (All OfParam) (groups b)) (anything N (e.the (codes ")") b))))

  decl : (d : ℕ) → G (g.decl d) (All V)
  decl d =
      seen N (All V) _ (λ p h. all_declared p.0 p.1.0 h.1.0)
      (two N (anything N (g.declaration d)) (two N (declared_names d) (anything N (e.the (codes ";") d))))

  -- ---- bodies
  abbrev OfItem : Item → Type 0
  OfItem (Declares vs) = All V vs
  OfItem (Does x) = OfStmt N x

  item : (d : ℕ) → G (g.item d) OfItem
  item d = either N (seen N OfItem Declares (λ vs h. h) (decl d)) (seen N OfItem Does (λ x h. h) (stmt N d))

  items_declare : (is : List Item) → All OfItem is → All V (vars_in is)
  items_declare [] h = All-nil V
  items_declare (Declares vs ∷ is) h = All-append V vs (vars_in is) (All-head OfItem (Declares vs) is h) (items_declare is (All-tail OfItem (Declares vs) is h))
  items_declare (Does x ∷ is) h = items_declare is (All-tail OfItem (Does x) is h)

  items_do : (is : List Item) → All OfItem is → All (OfStmt N) (stmts_in is)
  items_do [] h = All-nil (OfStmt N)
  items_do (Declares vs ∷ is) h = items_do is (All-tail OfItem (Declares vs) is h)
  items_do (Does x ∷ is) h = All-cons (OfStmt N) x (stmts_in is) (All-head OfItem (Does x) is h) (items_do is (All-tail OfItem (Does x) is h))

  abbrev OfItems : List Var × List Stmt → Type 0
  OfItems p = All V p.0 × OfBody N p.1

  items : (d : ℕ) → G (g.items d) OfItems
  items d = seen N OfItems _ (λ is h. (items_declare is h, of_body N (stmts_in is) (items_do is h))) (every N OfItem (item d))

  variables : (d : ℕ) → G (g.variables d) (All V)
  variables d =
      seen N (All V) _ (λ p h. All-cons V p.0 p.1 h.0 h.1) (two N one (every N V (seen N V _ (λ p h. h.1) (two N (anything N (e.the (codes ",") d)) one))))
    where
      one : G (g.variable_used d) V
      one = seen N V used_of (λ n h. used N n h) (name N d)

  names : (d : ℕ) → G (g.names d) (All V)
  names d =
      either N (variables d)
      (seen N (All V) _ (λ p h. h.0) (within N _ _ (λ q. All V q.0 × AnyOf q.1) d (λ b. two N (variables b) (anything N (e.the (codes ")") b)))))

  ending : (d : ℕ) → G (g.ending d) (All V)
  ending d =
      seen N (All V) or_empty (or_all V)
      (perhaps N (All V)
      (seen N (All V) _ (λ p h. or_all V p.1.0 h.1.0)
      (two N (anything N (e.key (codes "return") d)) (two N (perhaps N (All V) (names d)) (anything N (e.the (codes ";") d))))))

  abbrev OfInner : Body → Type 0
  OfInner b = All V b.vars × (OfBody N b.stmts × All V b.result)

  inner : (d : ℕ) → G (g.body d) OfInner
  inner d =
      seen N OfInner _ (λ p h. (h.0.0, (h.0.1, h.1.0)))
      (within N _ _ (λ q. OfItems q.0 × (All V q.1.0 × AnyOf q.1.1)) d (λ b. two N (items b) (two N (ending b) (anything N (e.the (codes "}") b)))))

  -- ---- functions and constants
  pub record OfFun (f : Fun) : Type 0 where
    pub name : N f.name
    pub params : All OfParam f.params
    pub vars : All V f.vars
    pub body : OfBody N f.body
    pub result : All V f.result

  function : (d : ℕ) → G (g.function d) OfFun
  function d =
      seen N OfFun _
      (λ p h. record { name = h.1.1.1.0; params = h.1.1.1.1.0; vars = h.1.1.1.1.1.1.0; body = h.1.1.1.1.1.1.1.0; result = h.1.1.1.1.1.1.1.1 })
      (two N (anything N _) (two N (anything N (g.kind d)) (two N (anything N (e.key (codes "fn") d)) (two N (name N d) (two N (params d) (two N (anything N (g.results d)) (inner d)))))))

  abbrev pub OfConst : Const → Type 0
  OfConst c = N c.name

  constant : (d : ℕ) → G (g.constant d) OfConst
  constant d =
      seen N OfConst _ (λ p h. h.1.1.0)
      (two N (anything N (e.key (codes "param") d)) (two N (anything N (e.key (codes "int") d)) (two N (name N d) (anything N _))))

  abbrev OfPart : Part → Type 0
  OfPart (Constant c) = OfConst c
  OfPart (Function f) = OfFun f

  part : (d : ℕ) → G (g.part d) OfPart
  part d = either N (seen N OfPart Constant (λ c h. h) (constant d)) (seen N OfPart Function (λ f h. h) (function d))

  consts_named : (ps : List Part) → All OfPart ps → All OfConst (consts_in ps)
  consts_named [] h = All-nil OfConst
  consts_named (Constant c ∷ ps) h = All-cons OfConst c (consts_in ps) (All-head OfPart (Constant c) ps h) (consts_named ps (All-tail OfPart (Constant c) ps h))
  consts_named (Function f ∷ ps) h = consts_named ps (All-tail OfPart (Function f) ps h)

  funs_named : (ps : List Part) → All OfPart ps → All OfFun (funs_in ps)
  funs_named [] h = All-nil OfFun
  funs_named (Constant c ∷ ps) h = funs_named ps (All-tail OfPart (Constant c) ps h)
  funs_named (Function f ∷ ps) h = All-cons OfFun f (funs_in ps) (All-head OfPart (Function f) ps h) (funs_named ps (All-tail OfPart (Function f) ps h))

  abbrev pub OfProgram : Program → Type 0
  OfProgram p = All OfConst p.consts × All OfFun p.funs

  abbrev OfParts : List Const × List Fun → Type 0
  OfParts p = OfProgram (program_of p)

  parts : (d : ℕ) → G (g.parts d) OfParts
  parts d = seen N OfParts _ (λ ps h. (consts_named ps h, funs_named ps h)) (every N OfPart (part d))

  pub program : (d : ℕ) → G (g.program d) OfProgram
  program d = seen N OfProgram _ (λ p h. h.0) (two N (parts d) (anything N _))
