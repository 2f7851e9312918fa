-- Which variables the statements of a function name.
use Rattle.std.specs.Prelude.{◌≡◌, ℕ, suc, ◌+◌, List, [], ◌∷◌, ◌++◌, map, flat_map, All, Contains, option_to_list, ⊤}
use Rattle.jz_tree.specs.declared.expr.Expr.{Expr}
use Rattle.jz_tree.specs.declared.expr.Expr.TheOpen.{Expr-F}
use Rattle.jz_tree.specs.declared.expr.Expr.TheViews.{out-Access}
use Rattle.jz_tree.specs.declared.expr.Expr.TheFolds.{fold-Expr}
use Rattle.jz_tree.specs.declared.expr.Var.{Var}
use Rattle.jz_tree.specs.declared.stmt.Lval.{Lval}
use Rattle.jz_tree.specs.declared.stmt.Lval.TheVariants as lval
use Rattle.jz_runs.specs.Trees.{done, op, quiet, choose, loop, each, call}
use Rattle.jz_type_names.specs.Parts.{leaves_step}
use Rattle.jz_meaning.specs.Values.{ref_of}
use Rattle.jz_meaning.specs.Statements.{Operation, assign, instruction, Condition, Call, Block}
use Rattle.jz_change.specs.declared.change.Number.{Number}
use Rattle.jz_change.specs.declared.change.Number.TheVariants.{Fixed, Nth}
use Rattle.jz_change.specs.declared.change.Numbers.{Numbers}
use Rattle.jz_change.specs.declared.change.Numbers.TheVariants.{Same, These}
use Rattle.jz_pass.specs.Copying.{copies}
use Rattle.jz_inline.specs.Names.{Names}
use Rattle.jz_inline.specs.Calls.{names_of_callee}
use Rattle.jz_compiled.specs.Layout.{Name}
use Rattle.jz_compiled.specs.Showing.{expression_names, operation_names, call_names}
use Rattle.jz_case_names.specs.Items.{Items, no_item, op_item, if_item, while_item, for_item, call_item, Known}

-- ---- in a function without calls: by name, and by the number of the copy
abbrev pub key_name : Var → Name
key_name v = ((ref_of v).name, (ref_of v).copy)

abbrev pub keys_step : Expr-F (List Name) (Unit {0}) (List Name) (Unit {0}) Name → List Name
keys_step x = leaves_step x

-- the variables of an expression
abbrev pub keys_in : Expr → List Name
keys_in = fold-Expr _ _ _ _ _ keys_step (λ t. tt) (λ a. a.at) (λ d. tt) (λ v. (v.name, v.copy))

abbrev pub left_keys : Lval → List Name
left_keys (lval.Skip at) = []
left_keys (lval.Var v) = key_name v ∷ []
left_keys (lval.Cell v e) = key_name v ∷ keys_in e
left_keys (lval.Store a) = keys_in (out-Access a).at

-- those of a statement
abbrev pub operation_keys : Operation → List Name
operation_keys (assign to o e c at) =
    flat_map left_keys to ++ keys_in e ++ flat_map keys_in (option_to_list c)
operation_keys (instruction to n args at) = flat_map left_keys to ++ flat_map keys_in args
operation_keys other = []

-- no call is left there
abbrev pub plain : Known Operation Condition Call (List Name)
plain = record { of_op = operation_keys; of_test = λ t. keys_in t.cond; of_call = λ q. [] }

-- ---- in a function of a program: its calls have numbers from c on
abbrev pub named_items : Names → ℕ → Block → Items (List Name)
named_items named c done = no_item
named_items named c (op o r) =
    op_item (map named (operation_names o)) (named_items named c r)
named_items named c (quiet o r) = named_items named c r
named_items named c (choose t a b r) =
    if_item (map named (expression_names t.cond)) (named_items named c a)
    (named_items named (c + copies a) b) (named_items named (c + copies a + copies b) r)
named_items named c (loop q p t b r) =
    while_item (map named (expression_names t.cond)) (named_items named c p)
    (named_items named (c + copies p) b) (named_items named (c + copies p + copies b) r)
named_items named c (each f b r) =
    for_item (named_items named c b) (named_items named (c + copies b) r)
named_items named c (call q b r) =
    call_item (call_names named (names_of_callee named c q) q)
    (named_items (names_of_callee named c q) (suc c) b) (named_items named (suc c + copies b) r)

-- ---- what a change says
-- a leaked number of the item; 0 stands for one that it has not
abbrev pub IsLeaked : Number → Type 0
IsLeaked (Nth i) = ⊤
IsLeaked (Fixed n) = n ≡ 0

abbrev pub AreLeaked : Numbers → Type 0
AreLeaked Same = ⊤
AreLeaked (These xs) = All IsLeaked xs

-- an item that comes of another one names nothing else, and its numbers are leaked ones of that
pub record NamesOf (a : List Name) (i : Numbers) (b : List Name) : Type 0 where
  pub among : All (Contains a) b
  pub leaked : AreLeaked i
