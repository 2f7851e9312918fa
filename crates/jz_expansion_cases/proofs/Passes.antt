-- The three passes of an expansion, and their composition.
use Rattle.std.proofs.Common.{ℕ, suc, true, false, List, [], ◌∷◌, sym, ap, ◌∙◌, subst}
use Rattle.std.specs.Prelude.{All, Contains}
use Rattle.std.proofs.lemmas.List.Elements.{All-nil, All-cons, All-contains_itself}
use Rattle.jz_tree.specs.declared.expr.Expr.TheVariants as expr
use Rattle.jz_tree.specs.declared.expr.Expr.TheOpen.{Expr-F}
use Rattle.jz_tree.specs.Spellings.{spelled}
use Rattle.jz_tree.specs.declared.program.Fun.{Fun}
use Rattle.jz_tree.specs.declared.program.Program.{Program}
use Rattle.jz_type_names.specs.Parts.{span_of}
use Rattle.jz_typed_runs.specs.TypedTexts.{IsTypedText}
use Rattle.jz_integers.specs.Integers.{KnownNumbers}
use Rattle.jz_runs.specs.Trees.{done}
use Rattle.jz_meaning.specs.Statements.{Operation, Condition, Counter, Block}
use Rattle.jz_meaning.specs.Runs.{body_of}
use Rattle.jz_run_laws.specs.Kinds.{Kinds, sorts_of}
use Rattle.jz_change.specs.declared.change.Number.TheVariants.{Nth}
use Rattle.jz_change.specs.declared.change.Numbers.{Numbers}
use Rattle.jz_change.specs.declared.change.Numbers.TheVariants.{Same}
use Rattle.jz_change.specs.Changes.{Change}
use Rattle.jz_pass.specs.Unrolling.{Unrolls}
use Rattle.jz_pass.specs.Rewriting.{knowing_of}
use Rattle.jz_inline.specs.Functions.{own_names, inlining_of}
use Rattle.jz_inline.proofs.Made.{inlined_is}
use Rattle.jz_inlining.specs.Inlined.{inlined_function}
use Rattle.jz_unroll.specs.Values.{InlineNames, with_values}
use Rattle.jz_unroll.specs.Unrolling.{UnrollsOp, stays, vanishes, UnrollsTest, tested, UnrollsLoopTest, loops, always, unrolling}
use Rattle.jz_arrays.specs.Cells.{Mask, sort_in, mask_of, assign_mask, instruction_mask}
use Rattle.jz_arrays.specs.Arrays.{places, ArraysOp, assigns, instructs, ArraysTest, tests, arrays}
use Rattle.jz_scalars.specs.Functions.{function_with_scalars, scalar_change}
use Rattle.jz_scalars.specs.Ready.{IsReady}
use Rattle.jz_scalars.proofs.Rewriting.{block_rewritten}
use Rattle.jz_function_runs.specs.FunctionRuns.{plain_body}
use Rattle.jz_ready.specs.CopiedKinds.{copied_kinds}
use Rattle.jz_ready.proofs.Whole.{ready_law}
use Rattle.jz_expansion.specs.Expansions.{IsExpansion}
use Rattle.jz_compiled.specs.Layout.{Name}
use Rattle.jz_case_names.specs.Items.{no_item, items_of, IsBetween, Come, none_come, one_comes}
use Rattle.jz_case_names.proofs.Unrolled.{Any, RuleComes, unrolled_items, any_parts}
use Rattle.jz_item_names.specs.Names.{keys_in, operation_keys, plain, named_items, IsLeaked, NamesOf}
use Rattle.jz_item_names.proofs.Keys.{keys_at}
use Rattle.jz_item_names.proofs.Numbers.{both_between}
use Rattle.jz_item_names.proofs.Inlined.{inlined_named}
use Rattle.jz_item_names.proofs.Valued.{expr_valued, operation_valued, expr_scalars, assign_scalars, instruction_scalars}

-- ---- unrolling
no_names : (a : List Name) → NamesOf a Same []
no_names a = record { among = All-nil (Contains a); leaked = tt }

module _ (names : InlineNames) where
  valued : (p : Condition) (e : KnownNumbers) → NamesOf (keys_in p.cond) Same (keys_in (with_values e p.cond))
  valued p e = record { among = expr_valued (Contains (keys_in p.cond)) e p.cond (All-contains_itself (keys_in p.cond)); leaked = tt }

  op_comes : (o : Operation) (e e1 : KnownNumbers) (os : List Operation) (is : List Numbers) → UnrollsOp names o e os is e1 → Come NamesOf operation_keys (operation_keys o) os is
  op_comes o e e1 os is (stays h) = one_comes (record { among = operation_valued (Contains (operation_keys o)) e o (All-contains_itself (operation_keys o)); leaked = tt }) none_come
  op_comes o e e1 os is (vanishes b i w v c) = none_come

  test_comes : (p : Condition) (e : KnownNumbers) (os : List Operation) (is : List Numbers) (p2 : Condition) (i : Numbers) → UnrollsTest names p e os is p2 i → Come NamesOf operation_keys (keys_in p.cond) os is × NamesOf (keys_in p.cond) i (keys_in p2.cond)
  test_comes p e os is p2 i (tested a b) = (none_come, valued p e)

  loop_comes : (p : Condition) (e : KnownNumbers) (os : List Operation) (is : List Numbers) (p2 : Condition) (i : Numbers) → UnrollsLoopTest names p e os is p2 i → Come NamesOf operation_keys (keys_in p.cond) os is × NamesOf (keys_in p.cond) i (keys_in p2.cond)
  loop_comes p e os is p2 i (loops a b) = (none_come, valued p e)
  loop_comes p e os is p2 i (always a b) =
      (none_come, subst (NamesOf (keys_in p.cond) Same) (sym (ap keys_in (sym (expr.rolls-Bool true (span_of p.cond))) ∙ keys_at (Expr-F.Expr::Bool true (span_of p.cond)))) (no_names (keys_in p.cond)))

  rule : RuleComes (unrolling names) Any Any NamesOf plain plain
  rule = record {
    ops = λ o e e1 os is any h. op_comes o e e1 os is h;
    tests = λ p e os is p2 i any h. test_comes p e os is p2 i h;
    loop_tests = λ p e os is p2 i any h. loop_comes p e os is p2 i h;
  }

  pub rounds_between : (t u : Block) (e e1 : KnownNumbers) (k : Change) → Unrolls (unrolling names) t e done u e1 k → IsBetween NamesOf (items_of plain t) (items_of plain u) k
  rounds_between t u e e1 k h = unrolled_items (unrolling names) Any Any NamesOf plain plain rule no_item (any_parts t) h

-- ---- cells
are_places : (i : ℕ) (m : Mask) → All IsLeaked (places i m)
are_places i [] = All-nil IsLeaked
are_places i (true ∷ m) = All-cons IsLeaked (Nth i) (places (suc i) m) tt (are_places (suc i) m)
are_places i (false ∷ m) = are_places (suc i) m

module _ (kinds : Kinds) where
  cell_comes : (o : Operation) (os : List Operation) (is : List Numbers) → ArraysOp kinds o os is → Come NamesOf operation_keys (operation_keys o) os is
  cell_comes o os is (assigns {to} {op = w} {e} {c} h) = one_comes (record { among = assign_scalars (Contains (operation_keys o)) to e c (All-contains_itself (operation_keys o)); leaked = are_places 0 (assign_mask (sort_in (sorts_of kinds)) to w e c) }) none_come
  cell_comes o os is (instructs {to} {n} {args} h) = one_comes (record { among = instruction_scalars (Contains (operation_keys o)) to args (All-contains_itself (operation_keys o)); leaked = are_places 0 (instruction_mask (sort_in (sorts_of kinds)) (spelled n) to args) }) none_come

  cell_test : (p : Condition) (os : List Operation) (is : List Numbers) (p2 : Condition) (i : Numbers) → ArraysTest kinds p os is p2 i → Come NamesOf operation_keys (keys_in p.cond) os is × NamesOf (keys_in p.cond) i (keys_in p2.cond)
  cell_test p os is p2 i (tests h) = (none_come, record { among = expr_scalars (Contains (keys_in p.cond)) p.cond (All-contains_itself (keys_in p.cond)); leaked = are_places 0 (mask_of (sort_in (sorts_of kinds)) p.cond) })

  cells_rule : RuleComes (knowing_of {F = Counter} (arrays kinds)) Any Any NamesOf plain plain
  cells_rule = record {
    ops = λ o e e1 os is any h. cell_comes o os is h;
    tests = λ p e os is p2 i any h. cell_test p os is p2 i h;
    loop_tests = λ p e os is p2 i any h. cell_test p os is p2 i h;
  }

  pub cells_between : (u : Fun) → IsReady kinds (plain_body u) → IsBetween NamesOf (items_of plain (plain_body u)) (items_of plain (plain_body (function_with_scalars u))) (scalar_change u)
  cells_between u h = unrolled_items (knowing_of (arrays kinds)) Any Any NamesOf plain plain cells_rule no_item (any_parts (plain_body u)) (block_rewritten kinds u.body h)

-- ---- all three
module _ (p : Program) (f : Fun) (h : IsTypedText p) (has : Contains p.funs f) where
  copies_between : IsBetween NamesOf (named_items own_names 1 (body_of p f)) (items_of plain (plain_body (inlined_function p f))) (inlining_of p f)
  copies_between =
      subst (λ b. IsBetween NamesOf (named_items own_names 1 (body_of p f)) (items_of plain b) (inlining_of p f)) (inlined_is p f)
      (inlined_named (body_of p f) own_names 1 done no_item)

  ready_of : (u : Fun) (k : Change) (names : InlineNames) (e e1 : KnownNumbers) → Unrolls (unrolling names) (plain_body (inlined_function p f)) e done (plain_body u) e1 k → IsReady (copied_kinds p f) (plain_body u)
  ready_of u k names e e1 x = ready_law p f names e e1 (plain_body u) k h has (subst (λ (t : Block). Unrolls (unrolling names) t e done (plain_body u) e1 k) (sym (inlined_is p f)) x)

  pub expansion_between : (g : Fun) (k : Change) (n : ℕ) → IsExpansion p f g k n → IsBetween NamesOf (named_items own_names 1 (body_of p f)) (items_of plain (plain_body g)) k
  expansion_between g k n e =
      subst (λ (x : Fun). IsBetween NamesOf (named_items own_names 1 (body_of p f)) (items_of plain (plain_body x)) k) (sym e.function)
      (subst (IsBetween NamesOf (named_items own_names 1 (body_of p f)) (items_of plain (plain_body (function_with_scalars e.unrolled)))) (sym e.change)
      (both_between (both_between copies_between (rounds_between _ (plain_body (inlined_function p f)) (plain_body e.unrolled) _ _ e.rounds e.body.body))
      (cells_between (copied_kinds p f) e.unrolled (ready_of e.unrolled e.rounds _ _ _ e.body.body))))
