-- The operations of a statement of flags, RAX, RDX and RCX show of the frame the places of stack variables that it names, and of its leaked numbers some.
use Rattle.std.proofs.Common.{◌≡◌, ℕ, ◌+◌, Bool, true, false, List, [], ◌∷◌, ◌++◌, Option, Some, None, refl, subst}
use Rattle.std.specs.Prelude.{All, Contains, ⊤, not, ◌&&◌, if◌then◌else◌, flat_map}
use Rattle.std.specs.Option.{option_to_list}
use Rattle.std.proofs.lemmas.List.Elements.{All-nil, All-cons, All-head, All-tail, All-contains_itself}
use Rattle.jz_words.specs.declared.size.Size.{Size}
use Rattle.jz_words.specs.declared.size.Size.TheVariants.{S8}
use Rattle.x64_insn.specs.declared.types.One.{One}
use Rattle.x64_insn.specs.declared.types.One.TheVariants as one
use Rattle.x64_insn.specs.declared.types.Shift.{Shift}
use Rattle.x64_insn.specs.declared.types.Wide.{Wide}
use Rattle.jz_io.specs.declared.span.Span.{Span}
use Rattle.jz_tree.specs.Spellings.{spelled}
use Rattle.jz_tree.specs.declared.intrinsic.Instance.{Instance}
use Rattle.jz_tree.specs.declared.intrinsic.Intrinsic.{Intrinsic}
use Rattle.jz_tree.specs.declared.expr.Expr.{Expr}
use Rattle.jz_tree.specs.declared.expr.BinOp.{BinOp}
use Rattle.jz_tree.specs.declared.expr.BinOp.TheVariants as op
use Rattle.jz_tree.specs.declared.stmt.Lval.{Lval}
use Rattle.jz_tree.specs.declared.stmt.Lval.TheVariants as lval
use Rattle.jz_tree.specs.declared.expr.Var.{Var}
use Rattle.jz_type_names.specs.Parts.{cells_in}
use Rattle.jz_meaning.specs.Assignments.{whole_of}
use Rattle.jz_meaning.specs.Statements as statements
use Rattle.jz_operations.specs.declared.operation.Arg.{Arg}
use Rattle.jz_operations.specs.declared.operation.Arg.TheVariants as arg
use Rattle.jz_operations.specs.declared.operation.Action.{Action}
use Rattle.jz_operations.specs.declared.operation.Action.TheVariants as action
use Rattle.jz_operations.specs.declared.operation.Condition.{Condition as Choice}
use Rattle.jz_operations.specs.declared.operation.Flags.{Flags}
use Rattle.jz_operations.specs.declared.operation.Operation.{Operation}
use Rattle.jz_operations.specs.declared.operation.Pinned.{Pinned}
use Rattle.jz_change.specs.declared.change.Number.{Number}
use Rattle.jz_change.specs.declared.change.Number.TheVariants.{Nth}
use Rattle.jz_change.specs.declared.change.Numbers.{Numbers}
use Rattle.jz_change.specs.declared.change.Numbers.TheVariants.{These}
use Rattle.jz_homes.specs.Homes.{Homes}
use Rattle.jz_homes.specs.Operands.{Leaks, count_of}
use Rattle.jz_row_operations.specs.Codes.{no_flag, plain}
use Rattle.jz_row_operations.specs.Table.{is_imm, nothing, one_code}
use Rattle.jz_row_operations.specs.Lowering.{numbers_from}
use Rattle.jz_flag_rows.specs.Results.{begins_at, carry_alone, AreFive, five, AreFour, four, AreTwo, two}
use Rattle.jz_flag_rows.specs.Wide.{is_pinned, is_quotient, wide_code, wide_shown, quotient_code, three_from, divide_shown, divide_two_shown}
use Rattle.jz_flag_rows.specs.Conditions.{IsCondition, by_comparison, by_flag, condition_items, leaked}
use Rattle.jz_flag_rows.specs.Instructions.{count_code, HasInstruction, two_operands, with_carry, minus, steps, complement, swap, address, compares, shifts, rotates, times, times_by, wide_product, division}
use Rattle.jz_flag_rows.specs.Rows.{LowersFlags, carry_results, wide_products, quotients, choices, instructions, sets}
use Rattle.jz_flag_rows.proofs.Codes.{one_all, brought_all, count_all, wide_all, divide_all, divide_two_all}
use Rattle.jz_compiled.specs.Layout.{Name, Place}
use Rattle.jz_item_names.specs.Names.{keys_in, left_keys, operation_keys, IsLeaked}
use Rattle.jz_item_names.proofs.Keys.{parts}
use Rattle.jz_lowering_cases.specs.Staying.{ArePlaced, IsInside, IsSmall, left_cells, assigned_cells, instructed_cells, OperationInside}
use Rattle.jz_lowering_cases.proofs.Parts.{IsOf, IsLeftOf, whole_is_of}
use Rattle.jz_lowering_cases.proofs.Rows.{AllLeaked, from_leaked, joined_leaked, two_leaked, one_leaked, row_leaked, condition_leaked, Arg', ActionStays, AllStay, OpsStay, arg_in, dest_in, bin_of, row_stays, compared_stays, lasting_stay, right_is}

-- ---- numbers
three_leaked : (i : ℕ) → All IsLeaked (three_from i)
three_leaked i =
    All-cons IsLeaked (Nth i) (Nth (i + 1) ∷ Nth (i + 2) ∷ []) tt (All-cons IsLeaked (Nth (i + 1)) (Nth (i + 2) ∷ []) tt (All-cons IsLeaked (Nth (i + 2)) [] tt (All-nil IsLeaked)))

wide_numbers : (s1 s2 : Bool) (xs ys : List Number) → All IsLeaked xs → All IsLeaked ys → AllLeaked (if s1 then These ys ∷ [] else if s2 then These xs ∷ [] else These xs ∷ These ys ∷ [])
wide_numbers true s2 xs ys h g = (g, tt)
wide_numbers false true xs ys h g = (h, tt)
wide_numbers false false xs ys h g = (h, (g, tt))

wide_leaked : (l : Option Pinned) (x y : Arg) (p q : Leaks) → AllLeaked (wide_shown l x y p q)
wide_leaked l x y p q = wide_numbers (is_pinned l x) (not (is_imm x) && is_pinned l y) (numbers_from p 0) (numbers_from q (count_of p)) (from_leaked p 0) (from_leaked q (count_of p))

divide_leaked : (p q : Leaks) → AllLeaked (divide_shown p q)
divide_leaked p q =
    (from_leaked p 0, (All-nil IsLeaked, (joined_leaked (numbers_from q (count_of p)) (three_from (count_of p + count_of q)) (from_leaked q (count_of p)) (three_leaked (count_of p + count_of q)), tt)))

divide_two_leaked : (p q r : Leaks) → AllLeaked (divide_two_shown p q r)
divide_two_leaked p q r =
    let before = count_of p + count_of q in
    (from_leaked q (count_of p), (from_leaked p 0, (joined_leaked (numbers_from r before) (three_from (before + count_of r)) (from_leaked r before) (three_leaked (before + count_of r)), tt)))

instruction_leaked : {home : Homes} {z : Size} {i : Intrinsic} {to : List Lval} {args : List Expr} {fl : Flags} {acts : List Action} {items : List Numbers} → HasInstruction home z i to args fl acts items → AllLeaked items
instruction_leaked (two_operands {k} {x} {y} {b} {p} {q} n flags ia ic id code) = two_leaked k.1 b x y p q
instruction_leaked (with_carry {k} {x} {y} {b} {p} {q} f c n flags ia ic id flag span code) = two_leaked k.1 b x y p q
instruction_leaked (minus {x} {b} {p} flags ia id code) = one_leaked b x p
instruction_leaked (steps {x} {b} {p} n flags ia id code) = one_leaked b x p
instruction_leaked (complement {x} {b} {p} ia id code) = one_leaked b x p
instruction_leaked (swap {x} {v} {p} long ia id code) = one_leaked (arg.Var v) x p
instruction_leaked (address sum lea id) = (All-nil IsLeaked, tt)
instruction_leaked (compares {p} {q} n flags ia ic ni na) = (joined_leaked (numbers_from p 0) (numbers_from q (count_of p)) (from_leaked p 0) (from_leaked q (count_of p)), tt)
instruction_leaked (shifts {x} {b} {p} name flags ia count id code) = one_leaked b x p
instruction_leaked (rotates {x} {b} {p} name flags ia count id code) = one_leaked b x p
instruction_leaked (times {x} {y} {v} {p} {q} wide flags ia ic id ni code) = two_leaked (not (is_imm x)) (arg.Var v) x y p q
instruction_leaked (times_by {p} wide flags ia ic id ni) = (from_leaked p 0, tt)
instruction_leaked (wide_product {lk} {x} {y} {p} {q} long flags hp lp ia ic ni code) = wide_leaked lk x y p q
instruction_leaked (division {p} {s} {u} long flags qp rp ihi ilo ic ni far_q far_w far_r) = divide_two_leaked p s u

set_leaked : {home : Homes} {at : Span} {e : Expr} {compare : Option Operation} {c : Choice} {ps : List (Leaks × Leaks)} (r : Leaks) → IsCondition home at e compare c ps → AllLeaked (condition_items ps 0 ++ (These (numbers_from r (leaked ps)) ∷ []))
set_leaked r (by_comparison {p} {q} h) = (condition_leaked p q 0, (from_leaked r (count_of p + count_of q), tt))
set_leaked r (by_flag h) = (from_leaked r 0, tt)

pub flags_leaked : (home : Homes) (o : statements.Operation) (os : List Operation) (items : List Numbers) → LowersFlags home o os items → AllLeaked items
flags_leaked home o os items (carry_results whole layer size flag row can) = row_leaked row
flags_leaked home o os items (wide_products {lk} {x} {y} {p} {q} here whole size long hp lp ia ib ni code can) = wide_leaked lk x y p q
flags_leaked home o os items (quotients {p} {q} here whole div size long pin ia ib ni apart can) = divide_leaked p q
flags_leaked home o os items (choices {p} z wide kz h ie ni flag can) = (from_leaked p 0, tt)
flags_leaked home o os items (instructions text size row can) = instruction_leaked row
flags_leaked home o os items (sets {r} text is_set id cond can) = set_leaked r cond

-- ---- lists of left sides and of operands
module _ (P : Name → Type 0) (Q : Var × Expr → Type 0) where
  abbrev AllLefts : List Lval → Type 0
  AllLefts [] = ⊤
  AllLefts (d ∷ ds) = IsLeftOf P Q d × AllLefts ds

  abbrev AllArgs : List Expr → Type 0
  AllArgs [] = ⊤
  AllArgs (e ∷ es) = IsOf P Q e × AllArgs es

  lefts_are : (to : List Lval) → All P (flat_map left_keys to) → All Q (flat_map left_cells to) → AllLefts to
  lefts_are [] h k = tt
  lefts_are (d ∷ ds) h k =
      let f = parts P (left_keys d) (flat_map left_keys ds) h in
      let g = parts Q (left_cells d) (flat_map left_cells ds) k in
      (record { keys = f.0; cells = g.0 }, lefts_are ds f.1 g.1)

  args_are : (es : List Expr) → All P (flat_map keys_in es) → All Q (flat_map cells_in es) → AllArgs es
  args_are [] h k = tt
  args_are (e ∷ es) h k =
      let f = parts P (keys_in e) (flat_map keys_in es) h in
      let g = parts Q (cells_in e) (flat_map cells_in es) k in
      (record { keys = f.0; cells = g.0 }, args_are es f.1 g.1)

  five_rest : {home : Homes} {to rest : List Lval} {fl : Flags} → AreFive home to fl rest → AllLefts to → AllLefts rest
  five_rest (five rest o c s p z) h = h.1.1.1.1.1

  four_rest : {home : Homes} {to rest : List Lval} {fl : Flags} → AreFour home to fl rest → AllLefts to → AllLefts rest
  four_rest (four rest o s p z) h = h.1.1.1.1

  two_rest : {home : Homes} {to rest : List Lval} {fl : Flags} → AreTwo home to fl rest → AllLefts to → AllLefts rest
  two_rest (two rest o c) h = h.1.1

-- ---- what actions show
module _ (home : Homes) (places : List Place) (slots : ℕ → ℕ) (size : ℕ) (placed : ArePlaced home places slots) (small : IsSmall places size) (called : List Name) where
  abbrev Stays : Action → Type 0
  Stays = ActionStays home places slots size placed small called

  abbrev One' : Size → Arg → Type 0
  One' = Arg' home places slots size placed small called

  abbrev Lefts : List Lval → Type 0
  Lefts = AllLefts (Contains called) (IsInside home)

  abbrev Args : List Expr → Type 0
  Args = AllArgs (Contains called) (IsInside home)

  from_all : (acts : List Action) → All Stays acts → AllStay home places slots size placed small called acts
  from_all [] h = tt
  from_all (a ∷ as') h = (All-head Stays a as' h, from_all as' (All-tail Stays a as' h))

  one_stays : (kind : One) (z : Size) (b x : Arg) (acts : List Action) → One' z b → One' z x → one_code kind z b x ≡ Some acts → All Stays acts
  one_stays kind z b x acts d h e = brought_all Stays false (λ u. action.One kind z b) z b x nothing acts (d, (h, tt)) (d, tt) (d, tt) e

  count_stays : (kind : Shift) (z : Size) (b x : Arg) (n : Option Pinned) (m : ℕ) (acts : List Action) → One' z b → One' z x → count_code kind z b x n m ≡ Some acts → All Stays acts
  count_stays kind z b x n m acts d h e = count_all Stays kind z b x n m acts (d, (h, tt)) (d, tt) (λ k f. (d, tt)) e

  wide_stays : (z : Size) (h l : Option Pinned) (x y : Arg) (acts : List Action) → One' z x → One' z y → wide_code z h l x y ≡ Some acts → All Stays acts
  wide_stays z h l x y acts a b e = wide_all Stays z h l x y acts (b, tt) (a, tt) (tt, (a, tt)) e

  quotient_stays : (o : BinOp) (w : Wide) (z : Size) (k : Pinned) (x y : Arg) → One' z x → One' z y → All Stays (quotient_code o w z k x y)
  quotient_stays o w z k x y a b = divide_all Stays w z (if is_quotient o then Some k else None) (if is_quotient o then None else Some k) x y (tt, (a, tt)) tt (tt, (tt, tt)) (b, tt)

  instruction_stays : {z : Size} {i : Intrinsic} {to : List Lval} {args : List Expr} {fl : Flags} {acts : List Action} {items : List Numbers} → Lefts to → Args args → HasInstruction home z i to args fl acts items → All Stays acts
  instruction_stays {z} l a (two_operands {k} {x} {y} {b} {acts} n flags ia ic id code) =
      let d = dest_in home places slots size placed small called (five_rest (Contains called) (IsInside home) flags l).0 id in
      let u = arg_in home places slots size placed small called a.0 ia in
      let v = arg_in home places slots size placed small called a.1.0 ic in
      brought_all Stays k.1 (λ w. action.Alu k.0 z b w None) z b x y acts (d, (u, tt)) (d, (u, tt)) (d, (v, tt)) code
  instruction_stays {z} l a (with_carry {k} {x} {y} {b} {acts} f c n flags ia ic id flag span code) =
      let d = dest_in home places slots size placed small called (five_rest (Contains called) (IsInside home) flags l).0 id in
      let u = arg_in home places slots size placed small called a.0 ia in
      let v = arg_in home places slots size placed small called a.1.0 ic in
      brought_all Stays k.1 (λ w. action.Alu k.0 z b w (Some c)) z b x y acts (d, (u, tt)) (d, (u, tt)) (d, (v, tt)) code
  instruction_stays {z} l a (minus {x} {b} {acts} flags ia id code) =
      one_stays one.Neg z b x acts (dest_in home places slots size placed small called (five_rest (Contains called) (IsInside home) flags l).0 id) (arg_in home places slots size placed small called a.0 ia) code
  instruction_stays {z} l a (steps {k} {x} {b} {acts} n flags ia id code) =
      one_stays k z b x acts (dest_in home places slots size placed small called (four_rest (Contains called) (IsInside home) flags l).0 id) (arg_in home places slots size placed small called a.0 ia) code
  instruction_stays {z} l a (complement {x} {b} {acts} ia id code) =
      one_stays one.Not z b x acts (dest_in home places slots size placed small called l.0 id) (arg_in home places slots size placed small called a.0 ia) code
  instruction_stays {z} l a (swap {x} {v} {acts} long ia id code) =
      brought_all Stays false (λ u. action.Bswap z v) z (arg.Var v) x nothing acts (tt, (arg_in home places slots size placed small called a.0 ia, tt)) tt tt code
  instruction_stays l a (address {m} {v} sum lea id) = one_all Stays (action.Lea v m) tt
  instruction_stays {z} l a (compares {k} {x} {y} n flags ia ic ni na) =
      one_all Stays (action.Alu k z x y None) (arg_in home places slots size placed small called a.0 ia, (arg_in home places slots size placed small called a.1.0 ic, tt))
  instruction_stays {z} l a (shifts {k} {x} {b} {n} {m} {acts} name flags ia count id code) =
      count_stays k z b x n m acts (dest_in home places slots size placed small called (five_rest (Contains called) (IsInside home) flags l).0 id) (arg_in home places slots size placed small called a.0 ia) code
  instruction_stays {z} l a (rotates {k} {x} {b} {n} {m} {acts} name flags ia count id code) =
      count_stays k z b x n m acts (dest_in home places slots size placed small called (two_rest (Contains called) (IsInside home) flags l).0 id) (arg_in home places slots size placed small called a.0 ia) code
  instruction_stays {z} l a (times {x} {y} {v} {acts} wide flags ia ic id ni code) =
      let u = arg_in home places slots size placed small called a.0 ia in
      let w = arg_in home places slots size placed small called a.1.0 ic in
      brought_all Stays (not (is_imm x)) (action.Imul z v) z (arg.Var v) x y acts (tt, (u, tt)) (u, tt) (w, tt) code
  instruction_stays {z} l a (times_by {x} {i = m} {v} wide flags ia ic id ni) = one_all Stays (action.ImulBy z v x m) (arg_in home places slots size placed small called a.0 ia, tt)
  instruction_stays {z} l a (wide_product {hk} {lk} {x} {y} {acts} long flags hp lp ia ic ni code) =
      wide_stays z hk lk x y acts (arg_in home places slots size placed small called a.0 ia) (arg_in home places slots size placed small called a.1.0 ic) code
  instruction_stays {z} l a (division {qk} {rk} {x} {y} {w} long flags qp rp ihi ilo ic ni far_q far_w far_r) =
      divide_two_all Stays z qk rk x y w (tt, (arg_in home places slots size placed small called a.1.0 ilo, tt)) (tt, (arg_in home places slots size placed small called a.0 ihi, tt)) (arg_in home places slots size placed small called a.1.1.0 ic, tt)

-- ---- statements
module _ (home : Homes) (places : List Place) (slots : ℕ → ℕ) (size : ℕ) (placed : ArePlaced home places slots) (small : IsSmall places size) where
  abbrev Nothing : Var × Expr → Type 0
  Nothing c = ⊤

  any_cells : (cs : List (Var × Expr)) → All Nothing cs
  any_cells cs k d lt = tt

  -- `f, d op= e` sets d to w
  module _ (f d : Lval) (o : Option BinOp) (e w : Expr) (at : Span) (whole : whole_of (Some d) o e ≡ Some w) (inside : OperationInside home (statements.assign (f ∷ d ∷ []) o e None at)) where
    abbrev a : List Name
    a = operation_keys (statements.assign (f ∷ d ∷ []) o e None at)

    keys : All (Contains a) (flat_map left_keys (f ∷ d ∷ [])) × All (Contains a) (keys_in e)
    keys = parts (Contains a) (flat_map left_keys (f ∷ d ∷ [])) (keys_in e) (parts (Contains a) (flat_map left_keys (f ∷ d ∷ []) ++ keys_in e) [] (All-contains_itself a)).0

    cells : All (IsInside home) (flat_map left_cells (f ∷ d ∷ [])) × All (IsInside home) (cells_in w)
    cells =
        parts (IsInside home) (flat_map left_cells (f ∷ d ∷ [])) (cells_in w)
        (parts (IsInside home) (flat_map left_cells (f ∷ d ∷ []) ++ cells_in w) [] (subst (λ x. All (IsInside home) (assigned_cells (f ∷ d ∷ []) x None)) whole inside)).0

    last_is : IsLeftOf (Contains a) (IsInside home) d
    last_is = (lefts_are (Contains a) (IsInside home) (f ∷ d ∷ []) keys.0 cells.0).1.0

    whole_is : IsOf (Contains a) (IsInside home) w
    whole_is =
        let r = whole_is_of (Contains a) Nothing d o e w (record { keys = last_is.keys; cells = any_cells (left_cells d) }) (record { keys = keys.1; cells = any_cells (cells_in e) }) whole in
        record { keys = r.keys; cells = cells.1 }

  -- an intrinsic
  module _ (i : Instance) (to : List Lval) (ns : List ℕ) (args : List Expr) (at : Span) (text : spelled ns ≡ Some i) (inside : OperationInside home (statements.instruction to ns args at)) where
    abbrev b : List Name
    b = operation_keys (statements.instruction to ns args at)

    named : All (Contains b) (flat_map left_keys to) × All (Contains b) (flat_map keys_in args)
    named = parts (Contains b) (flat_map left_keys to) (flat_map keys_in args) (All-contains_itself b)

    held : All (IsInside home) (flat_map left_cells to) × All (IsInside home) (flat_map cells_in args)
    held = parts (IsInside home) (flat_map left_cells to) (flat_map cells_in args) (subst (λ x. All (IsInside home) (instructed_cells x to args)) text inside)

    results_are : AllLefts (Contains b) (IsInside home) to
    results_are = lefts_are (Contains b) (IsInside home) to named.0 held.0

    operands_are : AllArgs (Contains b) (IsInside home) args
    operands_are = args_are (Contains b) (IsInside home) args named.1 held.1

  set_stays : (called : List Name) {at : Span} {e : Expr} {compare : Option Operation} {c : Choice} {ps : List (Leaks × Leaks)} (v : Arg) → IsOf (Contains called) (IsInside home) e → Arg' home places slots size placed small called S8 v → IsCondition home at e compare c ps
      → OpsStay home places slots size placed small called (option_to_list compare ++ (plain at (action.Set c v) ∷ []))
  set_stays called v h d (by_comparison k) = (compared_stays home places slots size placed small called h k, ((d, tt), tt))
  set_stays called v h d (by_flag k) = ((d, tt), tt)

  pub flags_stay : (o : statements.Operation) (os : List Operation) (items : List Numbers) → OperationInside home o → LowersFlags home o os items → OpsStay home places slots size placed small (operation_keys o) os
  flags_stay o os items inside (carry_results {f} {d} {u} {e} {w} {k} {acts} {at} whole layer s flag row can) =
      let n = operation_keys (statements.assign (f ∷ d ∷ []) u e None at) in
      lasting_stay home places slots size placed small n at (carry_alone k) acts (row_stays home places slots size placed small n (last_is f d u e w at whole inside) (whole_is f d u e w at whole inside) row)
  flags_stay o os items inside (wide_products {h} {l} {u} {e} {a = x1} {b = x2} {z} {hk} {lk} {x} {y} {acts} {at} here whole s long hp lp ia ib ni code can) =
      let n = operation_keys (statements.assign (h ∷ l ∷ []) u e None at) in
      let k = bin_of home places slots size placed small n op.Mul x1 x2 here (whole_is h l u e _ at whole inside) in
      lasting_stay home places slots size placed small n at no_flag acts
      (from_all home places slots size placed small n acts (wide_stays home places slots size placed small n z hk lk x y acts (arg_in home places slots size placed small n k.0 ia) (arg_in home places slots size placed small n k.1 ib) code))
  flags_stay o os items inside (quotients {r} {u} {e} {a = x1} {b = x2} {o = v} {w} {z} {k} {x} {y} {at} here whole div s long pin ia ib ni apart can) =
      let n = operation_keys (statements.assign (r ∷ []) u e None at) in
      let m = bin_of home places slots size placed small n v x1 x2 here (right_is home places slots size placed small r u e _ None at whole inside) in
      lasting_stay home places slots size placed small n at no_flag (quotient_code v w z k x y)
      (from_all home places slots size placed small n (quotient_code v w z k x y) (quotient_stays home places slots size placed small n v w z k x y (arg_in home places slots size placed small n m.0 ia) (arg_in home places slots size placed small n m.1 ib)))
  flags_stay o os items inside (choices {v} {e} {k} {at} z wide kz h ie ni flag can) =
      let n = operation_keys (statements.assign (lval.Var v ∷ []) None e (Some k) at) in
      ((arg_in home places slots size placed small n (right_is home places slots size placed small (lval.Var v) None e e (Some k) at refl inside) ie, tt), tt)
  flags_stay o os items inside (instructions {i} {to} {ns} {args} {fl} {acts} {at} text s row can) =
      let n = operation_keys (statements.instruction to ns args at) in
      lasting_stay home places slots size placed small n (begins_at to at) fl acts
      (from_all home places slots size placed small n acts (instruction_stays home places slots size placed small n (results_are i to ns args at text inside) (operands_are i to ns args at text inside) row))
  flags_stay o os items inside (sets {i} {d} {ns} {e} {b = v} {at} text is_set id cond can) =
      let n = operation_keys (statements.instruction (d ∷ []) ns (e ∷ []) at) in
      set_stays n v (operands_are i (d ∷ []) ns (e ∷ []) at text inside).0 (dest_in home places slots size placed small n (results_are i (d ∷ []) ns (e ∷ []) at text inside).0 id) cond
