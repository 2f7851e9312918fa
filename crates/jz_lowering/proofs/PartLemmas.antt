-- Parts of statements as the code has made them.
use Rattle.std.proofs.Common.{◌≡◌, ℕ, true, List, [], ◌∷◌, ◌++◌, map, Option, Some, None, refl, sym, ap, ◌∙◌, subst, append_assoc}
use Rattle.jz_tree.specs.Span.{Span}
use Rattle.jz_tree.specs.declared.expr.Expr.{Expr}
use Rattle.jz_tree.specs.declared.expr.Expr.TheVariants as expr
use Rattle.jz_tree.specs.declared.expr.BinOp.{BinOp}
use Rattle.jz_tree.specs.declared.stmt.Lval.{Lval}
use Rattle.jz_runs.specs.Trees.{op}
use Rattle.jz_meaning.specs.Statements.{Operation as Statement, assign, instruction}
use Rattle.jz_change.specs.declared.change.Number.{Number}
use Rattle.jz_change.specs.declared.change.Numbers.TheVariants.{These}
use Rattle.jz_place.specs.declared.tree.Node.TheVariants as node
use Rattle.jz_homes.specs.Homes.{Homes}
use Rattle.jz_row_operations.specs.Codes.{plain, lasting}
use Rattle.jz_row_operations.specs.Lowering.{tests, never_false, tests_each}
use Rattle.jz_flag_rows.specs.Results.{begins_at}
use Rattle.jz_flag_rows.specs.Conditions.{IsFlagCondition, asks_flag}
use Rattle.jz_flag_rows.specs.Rows.{LowersFlags}
use Rattle.jz_every_row.specs.Statements.{by_row, by_flags, by_comparison, by_flag, by_loop_test, by_loop_flag}
use Rattle.jz_rows.specs.declared.row.Act.{Act}
use Rattle.jz_rows.specs.declared.row.Row.{Row}
use Rattle.jz_rows.specs.declared.row.Shown.{Shown}
use Rattle.jz_rows.specs.declared.comparing.Comparison.{Comparison}
use Rattle.jz_rows.specs.Rows.{nth_of, item_of, actions_in, items_of, operations_at, Compares, IsRowOf}
use Rattle.jz_pinned_rows.specs.declared.row.Acts.{Acts}
use Rattle.jz_pinned_rows.specs.declared.row.PinnedRow.{PinnedRow}
use Rattle.jz_pinned_rows.specs.declared.choosing.FlagTest.{FlagTest}
use Rattle.jz_pinned_rows.specs.Rows.{three_in, last_item, items_of as pinned_items, operations_at as pinned_at, IsPinnedRow}
use Rattle.jz_instructions.specs.Rows.{IsInstructionRow}
use Rattle.jz_lowering.specs.declared.parts.Asking.{Asking}
use Rattle.jz_lowering.specs.Becoming.{Becomes}
use Rattle.jz_lowering.proofs.BecomingLemmas.{op_becomes}
use Rattle.jz_lowering.specs.InnerParts.{nodes_in, row_lowered, pinned_lowered, asking_of, flag_asking, always_asking, IsTest, IsLoopTest}

pub item_made : (s : Shown) (start mid end : List Number) → start ≡ [] → mid ≡ start ++ nth_of s.first → end ≡ mid ++ nth_of s.second → These end ≡ item_of s
item_made s start mid end e f g = ap These (g ∙ ap (λ l. l ++ nth_of s.second) (f ∙ ap (λ l. l ++ nth_of s.first) e))

-- three pieces, one behind another
pub three_made : {A : Type 0} (start mid end : List A) (xs ys zs : List A) → start ≡ [] → mid ≡ start ++ xs → end ≡ mid ++ ys → end ++ zs ≡ xs ++ (ys ++ zs)
three_made start mid end xs ys zs e f g = ap (λ l. l ++ zs) (g ∙ ap (λ l. l ++ ys) (f ∙ ap (λ l. l ++ xs) e)) ∙ append_assoc xs ys zs

pub last_made : (a : Acts) (start mid far end : List Number) → start ≡ [] → mid ≡ start ++ nth_of a.last.shown.first → far ≡ mid ++ nth_of a.last.shown.second → end ≡ far ++ three_in a.divided → These end ≡ last_item a
last_made a start mid far end e f g h = ap These (h ∙ ap (λ l. l ++ three_in a.divided) (g ∙ ap (λ l. l ++ nth_of a.last.shown.second) (f ∙ ap (λ l. l ++ nth_of a.last.shown.first) e)))

nodes_behind : (at : Span) (b : Option Act) (a : Act) → nodes_in at b ++ (node.Do (plain at a.action) ∷ []) ≡ map node.Do (operations_at at (record { before = b; last = a }))
nodes_behind at None a = refl
nodes_behind at (Some b) a = refl

pub nodes_are : (at : Span) (r : Row) → (row_lowered at r).nodes ≡ map node.Do (operations_at at r)
nodes_are at r = nodes_behind at r.before r.last

pub test_is : (home : Homes) (at : Span) (e : Expr) (c : Comparison) → Compares home e c → IsTest home at e (asking_of at c)
test_is home at e c h = by_comparison (tests (h at))

pub flag_test_is : (home : Homes) (at : Span) (e : Expr) (t : FlagTest) → IsFlagCondition home e t.variable t.denied → IsTest home at e (flag_asking t)
flag_test_is home at e t h = by_flag (asks_flag h)

pub always_is : (home : Homes) (at here : Span) (e : Expr) → e ≡ expr.Bool true here → IsLoopTest home at e always_asking
always_is home at here e is = by_loop_test (never_false here is)

pub loop_test_is : (home : Homes) (at : Span) (e : Expr) (a : Asking) → IsTest home at e a → IsLoopTest home at e a
loop_test_is home at e a (by_comparison h) = by_loop_test (tests_each h)
loop_test_is home at e a (by_flag h) = by_loop_flag h

pub row_becomes : (home : Homes) (to : List Lval) (o : Option BinOp) (e : Expr) (c : Option Expr) (at : Span) (r : Row) → IsRowOf home to o e c r → Becomes home (op (assign to o e c at)) (row_lowered at r).nodes (row_lowered at r).steps
row_becomes home to o e c at r h =
    subst (λ ns. Becomes home (op (assign to o e c at)) ns (row_lowered at r).steps) (sym (nodes_are at r)) (op_becomes home (assign to o e c at) (operations_at at r) (items_of r) (by_row (h at)))

-- ---- with flags that become variables
pinned_behind : (at : Span) (b c : Option Act) (r : PinnedRow)
    → nodes_in at b ++ (nodes_in at c ++ (node.Do (record { span = at; action = r.acts.last.action; flags = r.flags }) ∷ []))
    ≡ map node.Do (lasting at r.flags (actions_in b ++ (actions_in c ++ (r.acts.last.action ∷ []))))
pinned_behind at None None r = refl
pinned_behind at None (Some c) r = refl
pinned_behind at (Some b) None r = refl
pinned_behind at (Some b) (Some c) r = refl

pinned_nodes : (at : Span) (r : PinnedRow) → (pinned_lowered at r).nodes ≡ map node.Do (pinned_at at r)
pinned_nodes at r = pinned_behind at r.acts.before r.acts.between r

pinned_becomes : (home : Homes) (o : Statement) (at : Span) (r : PinnedRow) → LowersFlags home o (pinned_at at r) (pinned_items r.acts) → Becomes home (op o) (pinned_lowered at r).nodes (pinned_lowered at r).steps
pinned_becomes home o at r h =
    subst (λ ns. Becomes home (op o) ns (pinned_lowered at r).steps) (sym (pinned_nodes at r)) (op_becomes home o (pinned_at at r) (pinned_items r.acts) (by_flags h))

pub pinned_row_becomes : (home : Homes) (to : List Lval) (o : Option BinOp) (e : Expr) (c : Option Expr) (at : Span) (r : PinnedRow) → IsPinnedRow home to o e c r → Becomes home (op (assign to o e c at)) (pinned_lowered at r).nodes (pinned_lowered at r).steps
pinned_row_becomes home to o e c at r h = pinned_becomes home (assign to o e c at) at r (h at)

pub instruction_becomes : (home : Homes) (to : List Lval) (ns : List ℕ) (args : List Expr) (at : Span) (r : PinnedRow) → IsInstructionRow home to ns args r → Becomes home (op (instruction to ns args at)) (pinned_lowered (begins_at to at) r).nodes (pinned_lowered (begins_at to at) r).steps
instruction_becomes home to ns args at r h = pinned_becomes home (instruction to ns args at) (begins_at to at) r (h at)
