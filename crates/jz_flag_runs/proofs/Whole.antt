-- Each statement of the table of flags, RAX, RDX and RCX goes through, and each of its tests.
use Rattle.std.proofs.Common.{◌≡◌, ℕ, Bool, true, false, List, [], ◌∷◌, ◌++◌, Option, Some, None, refl, sym, ap, ◌∙◌, subst}
use Rattle.std.specs.Prelude.{not, ◌&&◌, if◌then◌else◌}
use Rattle.std.specs.Option.{option_to_list}
use Rattle.std.proofs.lemmas.List.Elements.{All-nil}
use Rattle.jz_io.specs.declared.span.Span.{Span}
use Rattle.jz_words.specs.declared.size.Size.{Size}
use Rattle.jz_words.specs.declared.size.Size.TheVariants.{S64}
use Rattle.x64_insn.specs.declared.types.Place.{Place}
use Rattle.x64_insn.specs.declared.types.Wide.TheVariants as wide
use Rattle.x64_insn.specs.declared.types.One.TheVariants as one
use Rattle.jz_tree.specs.Spellings.{spelled}
use Rattle.jz_tree.specs.declared.intrinsic.Instance.{Instance}
use Rattle.jz_tree.specs.declared.intrinsic.Intrinsic.{Intrinsic}
use Rattle.jz_tree.specs.declared.intrinsic.Intrinsic.TheVariants as name
use Rattle.jz_tree.specs.declared.expr.Expr.{Expr}
use Rattle.jz_tree.specs.declared.stmt.Lval.{Lval}
use Rattle.jz_runs.specs.Rules.{went}
use Rattle.jz_meaning.specs.Attempts.{and_then}
use Rattle.jz_meaning.specs.States.{State}
use Rattle.jz_meaning.specs.Assignments.{left_span, assigned_whole, all_written}
use Rattle.jz_meaning.specs.Intrinsics.{before_value, of_one, intrinsic_size, intrinsic_results, sized_results, instruction_done}
use Rattle.jz_meaning.specs.Statements as statements
use Rattle.jz_operations.specs.declared.operation.Pinned.{Pinned}
use Rattle.jz_operations.specs.declared.operation.Arg.{Arg}
use Rattle.jz_operations.specs.declared.operation.Arg.TheVariants as arg
use Rattle.jz_operations.specs.declared.operation.Condition.{Condition}
use Rattle.jz_operations.specs.declared.operation.Condition.TheVariants as condition
use Rattle.jz_operations.specs.declared.operation.Action.{Action}
use Rattle.jz_operations.specs.declared.operation.Action.TheVariants as action
use Rattle.jz_operations.specs.declared.operation.Flags.{Flags}
use Rattle.jz_operations.specs.declared.operation.Operation.{Operation}
use Rattle.jz_operations.specs.Values as over
use Rattle.jz_operations.specs.Rows.{Frame, low_at, holds_in}
use Rattle.jz_operations.proofs.Somes.{same_some}
use Rattle.jz_placing.specs.Variables.{Asked, asks, tests as asked}
use Rattle.jz_change.specs.declared.change.Numbers.{Numbers}
use Rattle.jz_change.specs.declared.change.Numbers.TheVariants.{These}
use Rattle.jz_change.specs.Fitting.{HasNumber}
use Rattle.jz_pass.specs.Cases.{AsMany, none_each, one_each}
use Rattle.jz_homes.specs.Homes.{Homes, IsHoming, IsRelated}
use Rattle.jz_homes.specs.Operands.{Leaks, count_of}
use Rattle.jz_row_operations.specs.Codes.{no_flag, lasting}
use Rattle.jz_row_operations.specs.Table.{is_imm, nothing}
use Rattle.jz_row_operations.specs.Lowering.{numbers_from}
use Rattle.jz_row_operations.specs.Keeping.{DoesAs, AnswersAs}
use Rattle.jz_row_operations.proofs.Items.{AreItems}
use Rattle.jz_row_operations.proofs.Runs.{does_all}
use Rattle.jz_row_operations.proofs.Sums.{no_name}
use Rattle.jz_row_operations.proofs.Lowered.{Goes}
use Rattle.jz_row_operations.proofs.HasItems.{brought_many, row_many}
use Rattle.jz_flag_rows.specs.Wide.{is_pinned, is_apart, wide_code, wide_shown}
use Rattle.jz_flag_rows.specs.Conditions.{IsCondition, by_comparison, by_flag, condition_items, LowersFlagTest, asks_flag}
use Rattle.jz_flag_rows.specs.Instructions.{HasInstruction, two_operands, with_carry, minus, steps, complement, swap, address, compares, shifts, rotates, times, times_by, wide_product, division, by_number, by_variable}
use Rattle.jz_flag_rows.specs.Results.{begins_at}
use Rattle.jz_flag_rows.specs.Rows.{LowersFlags, carry_results, wide_products, quotients, choices, instructions, sets}
use Rattle.jz_flag_runs.specs.Laws.{AreNeedsMet}
use Rattle.jz_flag_runs.proofs.CarryResults.{carry_goes as carried_goes}
use Rattle.jz_flag_runs.proofs.Wides.{product_results, product_goes}
use Rattle.jz_flag_runs.proofs.Intrinsics.{five_before, two_parts, mul_intrinsic}
use Rattle.jz_flag_runs.proofs.DivisionRows.{quotient_goes, long_goes}
use Rattle.jz_flag_runs.proofs.InstructionRows.{two_goes, carry_goes, minus_goes, step_goes, complement_goes, swap_goes, address_goes, compare_goes, shift_goes, rotate_goes, times_goes, times_by_goes}
use Rattle.jz_flag_runs.proofs.FlagTests.{flag_says}
use Rattle.jz_flag_runs.proofs.Choices.{choice_goes, set_goes}

module _ (frame : Frame) (home : Homes) (homing : IsHoming frame home) (s : State) (σ : over.State) (related : IsRelated home s σ) where
  -- ---- intrinsics
  instruction_goes : (places : ℕ → Place) (i : Intrinsic) {to : List Lval} {args : List Expr} {z : Size} {fl : Flags} {acts : List Action} {items : List Numbers} (y : Option Size) (sp at : Span) (t : State) (ns : List ℕ) → AreNeedsMet places (lasting sp fl acts) → HasInstruction home z i to args fl acts items → intrinsic_size i y to args ≡ Some z
      → and_then (intrinsic_results i at z args s) (λ vs. all_written at (Some z) to vs s) ≡ went ns t → Goes frame home homing s σ related (lasting sp fl acts) items t ns
  instruction_goes places i y sp at t ns met (two_operands named lefts ia ic id e) size run = two_goes frame home homing s σ related i sp at t ns named lefts ia ic id e run
  instruction_goes places i y sp at t ns met (with_carry v carry named lefts ia ic id hv span e) size run = carry_goes frame home homing s σ related i v carry sp at t ns named lefts ia ic id hv e run
  instruction_goes places _ y sp at t ns met (minus lefts ia id e) size run = minus_goes frame home homing s σ related sp at t ns lefts ia id e run
  instruction_goes places i y sp at t ns met (steps named lefts ia id e) size run = step_goes frame home homing s σ related i sp at t ns named lefts ia id e run
  instruction_goes places _ y sp at t ns met (complement ia id e) size run = complement_goes frame home homing s σ related sp at t ns ia id e run
  instruction_goes places _ y sp at t ns met (swap long ia id e) size run = swap_goes frame home homing s σ related sp at t ns long ia id e run
  instruction_goes places _ {z = z} y sp at t ns met (address {d} {a} isum isa id) size run =
      address_goes frame home homing s σ related sp at t ns isum isa id
      (subst (λ w. and_then (of_one (λ n. before_value [] S64 n) at S64 (a ∷ []) s) (λ vs. all_written at (Some w) (d ∷ []) vs s) ≡ went ns t) (sym (same_some S64 z size)) run)
  instruction_goes places i y sp at t ns met (compares named lefts ia ic ni na) size run = compare_goes frame home homing s σ related i sp at t ns named lefts ia ic run
  instruction_goes places i y sp at t ns met (shifts named lefts ia ic id e) size run = shift_goes frame home homing s σ related i sp at t ns named lefts ia ic id e run
  instruction_goes places i y sp at t ns met (rotates named lefts ia ic id e) size run = rotate_goes frame home homing s σ related i sp at t ns named lefts ia ic id e run
  instruction_goes places _ y sp at t ns met (times wide' lefts ia ic id ni e) size run = times_goes frame home homing s σ related sp at t ns lefts ia ic id e run
  instruction_goes places _ y sp at t ns met (times_by wide' lefts ia ic id ni) size run = times_by_goes frame home homing s σ related sp at t ns lefts ia ic id run
  instruction_goes places _ {z = z} y sp at t ns met (wide_product {h = h} {l = l} {hk = hk} {lk = lk} {a = a} {c = c} {fl = fl} {acts = acts} long lefts ih il ia ic ni e) size run =
      let w = five_before lefts in
      let products = Rattle.jz_meaning.specs.Intrinsics.product_results z in
      let run' = subst (λ ls. and_then (Rattle.jz_meaning.specs.Intrinsics.of_two products at z (a ∷ c ∷ []) s) (λ vs. all_written at (Some z) ls vs s) ≡ went ns t) w.joined run in
      let k = two_parts frame home homing s σ related products at (w.ls ++ (h ∷ l ∷ [])) t ns ia ic run' in
      product_goes frame home homing s σ related places fl lk hk acts sp at t ns met e ih il (no_name ic) (mul_intrinsic frame home homing s σ related fl at t ns w.five k)
  instruction_goes places _ {z = z} y sp at t ns met (division {q = q} {r = r} {qk = qk} {rk = rk} {hi = hi} {lo = lo} {c = c} {fl = fl} long lefts iq ir ih il ic ni a1 a2 a3) size run =
      let w = five_before lefts in
      let run' = subst (λ ls. and_then (Rattle.jz_meaning.specs.Intrinsics.of_division at z (hi ∷ lo ∷ c ∷ []) s) (λ vs. all_written at (Some z) ls vs s) ≡ went ns t) w.joined run in
      long_goes frame home homing s σ related places fl qk rk sp at t ns met w.five iq ir ih il ic a1 a2 a3 run'

  -- what an instruction does, by its name and its size
  named_run : (ns : List ℕ) (i : Instance) (to : List Lval) (args : List Expr) (z : Size) (at : Span) (t : State) (ms : List ℕ) → spelled ns ≡ Some i → intrinsic_size i.name i.size to args ≡ Some z → statements.does (statements.instruction to ns args at) s ≡ went ms t
      → and_then (intrinsic_results i.name at z args s) (λ vs. all_written at (Some z) to vs s) ≡ went ms t
  named_run ns i to args z at t ms is size run =
      subst (λ y. and_then (sized_results i.name at y args s) (λ vs. all_written at y to vs s) ≡ went ms t) size (ap (λ x. instruction_done x to args at s) (sym is) ∙ run)

  set_run : (ns : List ℕ) (i : Instance) (d : Lval) (e : Expr) (at : Span) (t : State) (ms : List ℕ) → spelled ns ≡ Some i → i.name ≡ name.Setcc → statements.does (statements.instruction (d ∷ []) ns (e ∷ []) at) s ≡ went ms t
      → and_then (Rattle.jz_meaning.specs.Intrinsics.of_condition at (e ∷ []) s) (λ vs. all_written at (Some Rattle.jz_words.specs.declared.size.Size.TheVariants.S8) (d ∷ []) vs s) ≡ went ms t
  set_run ns i d e at t ms is named run =
      subst (λ j. and_then (sized_results j at (intrinsic_size j i.size (d ∷ []) (e ∷ [])) (e ∷ []) s) (λ vs. all_written at (intrinsic_size j i.size (d ∷ []) (e ∷ [])) (d ∷ []) vs s) ≡ went ms t) named (ap (λ x. instruction_done x (d ∷ []) (e ∷ []) at s) (sym is) ∙ run)

  -- ---- statements
  statement_goes : (places : ℕ → Place) {o' : statements.Operation} {os : List Operation} {items : List Numbers} (t : State) (ns : List ℕ) → AreNeedsMet places os → LowersFlags home o' os items → statements.does o' s ≡ went ns t → Goes frame home homing s σ related os items t ns
  statement_goes places t ns met (carry_results {f = f} {d = d} {at = at} whole layer size isf row can) run =
      carried_goes frame home homing s σ related at at t ns row layer isf size (ap (λ x. assigned_whole (f ∷ d ∷ []) x None at s) (sym whole) ∙ run)
  statement_goes places t ns met (wide_products {h = h} {l = l} {hk = hk} {lk = lk} {acts = acts} {at = at} there whole size long ih il ia ib ni e can) run =
      product_goes frame home homing s σ related places no_flag lk hk acts at at t ns met e ih il (no_name ib)
      (product_results frame home homing s σ related there at t ns size ia ib (ap (λ x. assigned_whole (h ∷ l ∷ []) x None at s) (sym whole) ∙ run))
  statement_goes places t ns met (quotients {r = r} {o = op} {at = at} there whole divides size long ir ia ib ni free can) run =
      quotient_goes frame home homing s σ related op there at at t ns divides size long ir ia ib ni free (ap (λ x. assigned_whole (r ∷ []) x None at s) (sym whole) ∙ run)
  statement_goes places t ns met (choices {v} {at = at} z wide' kind' h ie ni c can) run = choice_goes frame home homing s σ related v at z t ns kind' h ie c run
  statement_goes places t ns met (instructions {i = i} {to = to} {ns = ms} {args = args} {z = z} {at = at} is size row can) run = instruction_goes places i.name i.size (begins_at to at) at t ns met row size (named_run ms i to args z at t ns is size run)
  statement_goes places t ns met (sets {i = i} {d = d} {ns = ms} {e = e} {at = at} is named id c can) run = set_goes frame home homing s σ related (left_span d) at t ns id c (set_run ms i d e at t ns is named run)

pub flags_go : (places : ℕ → Place) (home : Homes) (o' : statements.Operation) (os : List Operation) (items : List Numbers) → AreNeedsMet places os → LowersFlags home o' os items → DoesAs home o' os items
flags_go places home o' os items met l frame s t σ ns homing related run =
    let g = statement_goes frame home homing s σ related places t ns met l run in
    (g.goes.ran.state, does_all frame ns os items σ g.goes.ran g.goes.goes (subst (AreItems ns items) (sym g.goes.shows) g.are), g.goes.agrees)

-- ---- tests
answered : (frame : Frame) (n : ℕ) (d k : Bool) (σ : over.State) → holds_in (condition.Flag n d) σ ≡ Some k → asked frame (asks None (condition.Flag n d)) σ ≡ went [] k
answered frame n d k σ e = rw e refl

pub flag_tests_go : (home : Homes) (t : statements.Condition) (a : Asked) (i : Numbers) → LowersFlagTest home t a i → AnswersAs home t a i
flag_tests_go home t a i (asks_flag {n} {d} c) frame s σ ns z homing related run =
    let f = flag_says frame home homing s σ related t.at ns z c run in
    record { has = All-nil (HasNumber ns); answers = answered frame n d z σ f.1; agrees = related }

-- ---- each operation has its item
wide_many : (s1 s2 s3 : Bool) (a b : Action) (c d : Action) (acts : List Action) (sp : Span) (fl : Flags) (i j k l : Numbers)
    → (if s1 then Some (a ∷ []) else if s2 then Some (b ∷ []) else if s3 then Some (c ∷ d ∷ []) else None) ≡ Some acts
    → AsMany (lasting sp fl acts) (if s1 then i ∷ [] else if s2 then j ∷ [] else k ∷ l ∷ [])
wide_many true s2 s3 a b c d acts sp fl i j k l e = subst (λ xs. AsMany (lasting sp fl xs) (i ∷ [])) (same_some _ acts e) (one_each none_each)
wide_many false true s3 a b c d acts sp fl i j k l e = subst (λ xs. AsMany (lasting sp fl xs) (j ∷ [])) (same_some _ acts e) (one_each none_each)
wide_many false false true a b c d acts sp fl i j k l e = subst (λ xs. AsMany (lasting sp fl xs) (k ∷ l ∷ [])) (same_some _ acts e) (one_each (one_each none_each))
wide_many false false false a b c d acts sp fl i j k l e = absurd cc

product_many : (z : Size) (h l : Option Pinned) (x y : Arg) (p q : Leaks) (acts : List Action) (sp : Span) (fl : Flags) → wide_code z h l x y ≡ Some acts → AsMany (lasting sp fl acts) (wide_shown l x y p q)
product_many z h l x y p q acts sp fl e =
    wide_many (is_pinned l x) (not (is_imm x) && is_pinned l y) (is_apart l y) (action.Wide wide.Mul z l h y) (action.Wide wide.Mul z l h x) (action.Mov z (low_at l) x) (action.Wide wide.Mul z l h y) acts sp fl
    (These (numbers_from q (count_of p))) (These (numbers_from p 0)) (These (numbers_from p 0)) (These (numbers_from q (count_of p))) e

instruction_many : {home : Homes} {z : Size} {i : Intrinsic} {to : List Lval} {args : List Expr} {fl : Flags} {acts : List Action} {items : List Numbers} (sp : Span) → HasInstruction home z i to args fl acts items → AsMany (lasting sp fl acts) items
instruction_many {z = z} sp (two_operands {k = k} {x = x} {y = y} {b = b} {p = p} {q = q} {fl = fl} {acts = acts} named lefts ia ic id e) = brought_many k.1 (λ u. action.Alu k.0 z b u None) z b x y acts sp fl (numbers_from p 0) (numbers_from q (count_of p)) e
instruction_many {z = z} sp (with_carry {k = k} {x = x} {y = y} {b = b} {p = p} {q = q} {fl = fl} {acts = acts} v carry named lefts ia ic id hv span e) = brought_many k.1 (λ u. action.Alu k.0 z b u (Some carry)) z b x y acts sp fl (numbers_from p 0) (numbers_from q (count_of p)) e
instruction_many {z = z} sp (minus {x = x} {b = b} {p = p} {fl = fl} {acts = acts} lefts ia id e) = brought_many false (λ u. action.One one.Neg z b) z b x nothing acts sp fl (numbers_from p 0) [] e
instruction_many {z = z} sp (steps {k = k} {x = x} {b = b} {p = p} {fl = fl} {acts = acts} named lefts ia id e) = brought_many false (λ u. action.One k z b) z b x nothing acts sp fl (numbers_from p 0) [] e
instruction_many {z = z} sp (complement {x = x} {b = b} {p = p} {acts = acts} ia id e) = brought_many false (λ u. action.One one.Not z b) z b x nothing acts sp no_flag (numbers_from p 0) [] e
instruction_many {z = z} sp (swap {x = x} {v = v} {p = p} {acts = acts} long ia id e) = brought_many false (λ u. action.Bswap z v) z (arg.Var v) x nothing acts sp no_flag (numbers_from p 0) [] e
instruction_many sp (address isum isa id) = one_each none_each
instruction_many sp (compares named lefts ia ic ni na) = one_each none_each
instruction_many {z = z} sp (shifts {k = k} {x = x} {b = b} {p = p} {fl = fl} {acts = acts} named lefts ia (by_number m there below) id e) = brought_many false (λ u. action.Shift k z b m) z b x nothing acts sp fl (numbers_from p 0) [] e
instruction_many {z = z} sp (shifts {k = k} {x = x} {b = b} {p = p} {fl = fl} {acts = acts} named lefts ia (by_variable v c there here hv span) id e) = brought_many false (λ u. action.ShiftBy k z b c) z b x (arg.Var c.variable) acts sp fl (numbers_from p 0) [] e
instruction_many {z = z} sp (rotates {k = k} {x = x} {b = b} {p = p} {fl = fl} {acts = acts} named lefts ia (by_number m there below) id e) = brought_many false (λ u. action.Shift k z b m) z b x nothing acts sp fl (numbers_from p 0) [] e
instruction_many {z = z} sp (rotates {k = k} {x = x} {b = b} {p = p} {fl = fl} {acts = acts} named lefts ia (by_variable v c there here hv span) id e) = brought_many false (λ u. action.ShiftBy k z b c) z b x (arg.Var c.variable) acts sp fl (numbers_from p 0) [] e
instruction_many {z = z} sp (times {x = x} {y = y} {v = v} {p = p} {q = q} {fl = fl} {acts = acts} wide' lefts ia ic id ni e) = brought_many (not (is_imm x)) (action.Imul z v) z (arg.Var v) x y acts sp fl (numbers_from p 0) (numbers_from q (count_of p)) e
instruction_many sp (times_by wide' lefts ia ic id ni) = one_each none_each
instruction_many {z = z} sp (wide_product {hk = hk} {lk = lk} {x = x} {y = y} {p = p} {q = q} {fl = fl} {acts = acts} long lefts ih il ia ic ni e) = product_many z hk lk x y p q acts sp fl e
instruction_many sp (division long lefts iq ir ih il ic ni a1 a2 a3) = one_each (one_each (one_each none_each))

set_many : {home : Homes} {sp : Span} {e : Expr} {compare : Option Operation} {c : Condition} {ps : List (Leaks × Leaks)} (last : Operation) (i : Numbers) → IsCondition home sp e compare c ps → AsMany (option_to_list compare ++ (last ∷ [])) (condition_items ps 0 ++ (i ∷ []))
set_many last i (by_comparison cmp) = one_each (one_each none_each)
set_many last i (by_flag fc) = one_each none_each

pub flags_many : (home : Homes) (o' : statements.Operation) (os : List Operation) (items : List Numbers) → LowersFlags home o' os items → AsMany os items
flags_many home o' os items (carry_results {k = k} {at = at} whole layer size isf row can) = row_many at (Rattle.jz_flag_rows.specs.Results.carry_alone k) row
flags_many home o' os items (wide_products {z = z} {hk = hk} {lk = lk} {x = x} {y = y} {p = p} {q = q} {acts = acts} {at = at} there whole size long ih il ia ib ni e can) = product_many z hk lk x y p q acts at no_flag e
flags_many home o' os items (quotients there whole divides size long ir ia ib ni free can) = one_each (one_each (one_each none_each))
flags_many home o' os items (choices z wide' kind' h ie ni c can) = one_each none_each
flags_many home o' os items (instructions {to = to} {at = at} is size row can) = instruction_many (begins_at to at) row
flags_many home o' os items (sets is named id c can) = set_many _ _ c
