-- The operations of a statement show of the frame the places of stack variables that it names, and of its leaked numbers some.
use Rattle.std.proofs.Common.{◌≡◌, ℕ, ◌+◌, Bool, true, false, List, [], ◌∷◌, ◌++◌, Option, Some, None, refl, subst}
use Rattle.std.specs.Prelude.{All, Contains, ⊤, not, ◌&&◌, if◌then◌else◌, option_to_list, flat_map}
use Rattle.std.specs.Option.{option_or}
use Rattle.std.proofs.lemmas.List.Elements.{All-nil, All-cons, All-append, All-contains_itself}
use Rattle.jz_words.specs.declared.size.Size.{Size}
use Rattle.x64_insn.specs.declared.types.Cond.{Cond}
use Rattle.x64_insn.specs.declared.types.One.{One}
use Rattle.jz_io.specs.declared.span.Span.{Span}
use Rattle.jz_leak.specs.declared.transformer.Form.{Form}
use Rattle.jz_leak.specs.declared.transformer.Form.TheVariants as form
use Rattle.jz_leak.specs.declared.transformer.Out.{Out}
use Rattle.jz_leak.specs.declared.transformer.Out.TheVariants as out
use Rattle.jz_tree.specs.declared.expr.Expr.{Expr}
use Rattle.jz_tree.specs.declared.expr.Expr.TheVariants as expr
use Rattle.jz_tree.specs.declared.expr.BinOp.{BinOp}
use Rattle.jz_tree.specs.declared.expr.BinOp.TheVariants as op
use Rattle.jz_tree.specs.declared.stmt.Lval.{Lval}
use Rattle.jz_type_names.specs.Parts.{Cells, cells_in}
use Rattle.jz_meaning.specs.Assignments.{whole_of}
use Rattle.jz_tree.specs.declared.stmt.Lval.TheVariants as lval
use Rattle.jz_tree.specs.declared.expr.Var.{Var}
use Rattle.jz_meaning.specs.Statements.{Condition}
use Rattle.jz_meaning.specs.Statements as statements
use Rattle.jz_operations.specs.declared.operation.Arg.{Arg}
use Rattle.jz_operations.specs.declared.operation.Arg.TheVariants as arg
use Rattle.jz_operations.specs.declared.operation.Action.{Action}
use Rattle.jz_operations.specs.declared.operation.Action.TheVariants as action
use Rattle.jz_operations.specs.declared.operation.Flags.{Flags}
use Rattle.jz_operations.specs.declared.operation.Operation.{Operation}
use Rattle.jz_operations.specs.Rows.{Output, accesses}
use Rattle.jz_operations.proofs.Somes.{same_some}
use Rattle.jz_placing.specs.Variables.{Asked}
use Rattle.jz_change.specs.declared.change.Number.{Number}
use Rattle.jz_change.specs.declared.change.Number.TheVariants.{Nth}
use Rattle.jz_change.specs.declared.change.Numbers.{Numbers}
use Rattle.jz_change.specs.declared.change.Numbers.TheVariants.{These}
use Rattle.jz_pass.specs.Cases.{AsMany, none_each, one_each}
use Rattle.jz_homes.specs.Homes.{Homes}
use Rattle.jz_homes.specs.Operands as operands
use Rattle.jz_homes.specs.Operands.{Leaks, silent, hidden, told, count_of}
use Rattle.jz_row_operations.specs.Codes.{no_flag, lasting}
use Rattle.jz_row_operations.specs.Rows.{commutes, alu_of, carry_alu, shift_of, IsSign, a_minus, a_not}
use Rattle.jz_row_operations.specs.Table.{same_arg, is_imm, is_free, brought, behind, nothing}
use Rattle.jz_row_operations.specs.Lowering.{numbers_from, both_shown, two_shown, one_shown, HasRow, moves, sums, carries, signs, times, times_by, shifts, shifts_by, extends, lowest, IsCompared, compares, denies, condition_shown, Lowers, sets, sets_if, LowersTest, tests, LowersLoopTest, tests_each, never_false}
use Rattle.jz_events.specs.Outs.{division_outs, access_outs, divides, arg_form, first_form, operation_outs, asked_outs}
use Rattle.jz_compiled.specs.Layout.{Name, Place}
use Rattle.jz_compiled.specs.Showing.{FormStaysIn, OutStaysIn, OutsStayIn}
use Rattle.jz_case_names.specs.Items.{Come, none_come, one_comes}
use Rattle.jz_item_names.specs.Names.{keys_in, left_keys, operation_keys, IsLeaked, AreLeaked}
use Rattle.jz_item_names.proofs.Keys.{parts}
use Rattle.jz_lowering_cases.specs.Staying.{Shows, ArePlaced, IsInside, IsSmall, left_cells, assigned_cells, OperationInside, TestInside}
use Rattle.jz_lowering_cases.proofs.Parts.{IsOf, of_neg, of_not, of_cast, of_bin, IsLeftOf, whole_is_of}
use Rattle.jz_lowering_cases.proofs.Operands.{ArgStays, arg_stays, dest_stays}

-- ---- numbers
abbrev pub AllLeaked : List Numbers → Type 0
AllLeaked [] = ⊤
AllLeaked (i ∷ is) = AreLeaked i × AllLeaked is

pub from_leaked : (p : Leaks) (i : ℕ) → All IsLeaked (numbers_from p i)
from_leaked silent i = All-nil IsLeaked
from_leaked hidden i = All-nil IsLeaked
from_leaked told i = All-cons IsLeaked (Nth i) [] tt (All-nil IsLeaked)

pub joined_leaked : (xs ys : List Number) → All IsLeaked xs → All IsLeaked ys → AreLeaked (These (xs ++ ys))
joined_leaked xs ys h g = All-append IsLeaked xs ys h g

both_leaked : (b c : Bool) (xs ys : List Number) → All IsLeaked xs → All IsLeaked ys → AllLeaked (both_shown b c xs ys)
both_leaked true c xs ys h g = (joined_leaked xs ys h g, tt)
both_leaked false true xs ys h g = (joined_leaked ys xs g h, tt)
both_leaked false false xs ys h g = (h, (g, tt))

pub two_leaked : (s : Bool) (d x y : Arg) (p q : Leaks) → AllLeaked (two_shown s d x y p q)
two_leaked s d x y p q = both_leaked (same_arg d x) (s && same_arg d y) (numbers_from p 0) (numbers_from q (count_of p)) (from_leaked p 0) (from_leaked q (count_of p))

pub one_leaked : (d x : Arg) (p : Leaks) → AllLeaked (one_shown d x p)
one_leaked d x p = both_leaked (same_arg d x) false (numbers_from p 0) [] (from_leaked p 0) (All-nil IsLeaked)

pub row_leaked : {home : Homes} {z : Size} {d : Lval} {e : Expr} {acts : List Action} {items : List Numbers} → HasRow home z d e acts items → AllLeaked items
row_leaked (moves {p = p} {r = r} ia id) = (joined_leaked (numbers_from r (count_of p)) (numbers_from p 0) (from_leaked r (count_of p)) (from_leaked p 0), tt)
row_leaked (sums {o} {x = x} {y = y} {b = b} {p = p} {q = q} at h ia ic id nn e) = two_leaked (commutes o) b x y p q
row_leaked (carries {o} {x = x} {y = y} {b = b} {p = p} {q = q} f k inner at h ia ic id nn isf span e) = two_leaked (commutes o) b x y p q
row_leaked (signs {x = x} {b = b} {p = p} sign ia id ni e) = one_leaked b x p
row_leaked (times {x = x} {y = y} {m = m} {p = p} {q = q} at wide ia ic id ni e) = two_leaked (not (is_imm x)) (arg.Var m) x y p q
row_leaked (times_by {p = p} at wide ia ic id ni) = (from_leaked p 0, tt)
row_leaked (shifts {x = x} {b = b} {p = p} n there at h below ia id ni e) = one_leaked b x p
row_leaked (shifts_by {x = x} {b = b} {p = p} v k there inner at h isv span ia id e) = one_leaked b x p
row_leaked (extends {p = p} sign at own smaller ia ni id) = (from_leaked p 0, tt)
row_leaked (lowest at own le ia id) = (All-nil IsLeaked, tt)

pub condition_leaked : (p q : Leaks) (i : ℕ) → AreLeaked (condition_shown p q i)
condition_leaked p q i = joined_leaked (numbers_from p i) (numbers_from q (i + count_of p)) (from_leaked p i) (from_leaked q (i + count_of p))

pub lowers_leaked : (home : Homes) (o : statements.Operation) (os : List Operation) (items : List Numbers) → Lowers home o os items → AllLeaked items
lowers_leaked home o os items (sets whole size row once) = row_leaked row
lowers_leaked home o os items (sets_if {p = p} {q = q} {r = r} z wide kind' h ie ni cmp can) = (condition_leaked q r (count_of p), (from_leaked p 0, tt))

-- ---- what actions show
module _ (home : Homes) (places : List Place) (slots : ℕ → ℕ) (size : ℕ) (placed : ArePlaced home places slots) (small : IsSmall places size) (called : List Name) where
  abbrev pub Arg' : Size → Arg → Type 0
  Arg' = ArgStays home places slots size placed small called

  abbrev pub Of : Expr → Type 0
  Of = IsOf (Contains called) (IsInside home)

  abbrev pub LeftOf : Lval → Type 0
  LeftOf = IsLeftOf (Contains called) (IsInside home)

  abbrev pub AccessesStay : List Output → Type 0
  AccessesStay [] = ⊤
  AccessesStay (o ∷ os) = Arg' o.0 o.1 × AccessesStay os

  abbrev pub ActionStays : Action → Type 0
  ActionStays a = AccessesStay (accesses a)

  abbrev FormMay : Option (Form × Bool) → Type 0
  FormMay None = ⊤
  FormMay (Some f) = FormStaysIn places size called f.0

  arg_may : (z : Size) (a : Arg) → Arg' z a → FormMay (arg_form slots size z a)
  arg_may z (arg.Var v) h = tt
  arg_may z (arg.Imm i) h = tt
  arg_may z (arg.Mem m) h = tt
  arg_may z (arg.Cell c) h = h
  arg_may z (arg.At r p) h = tt

  first_may : (f g : Option (Form × Bool)) → FormMay f → FormMay g → FormMay (option_or f g)
  first_may None g h k = k
  first_may (Some f) g h k = h

  accesses_may : (os : List Output) → AccessesStay os → FormMay (first_form slots size os)
  accesses_may [] h = tt
  accesses_may (o ∷ os) h = first_may (arg_form slots size o.0 o.1) (first_form slots size os) (arg_may o.0 o.1 h.0) (accesses_may os h.1)

  abbrev Stay : List Out → Type 0
  Stay = OutsStayIn places size called

  division_stays : (d leaks : Bool) → Stay (division_outs d leaks)
  division_stays false leaks = All-nil (OutStaysIn places size called)
  division_stays true false = All-cons (OutStaysIn places size called) (out.Div (form.Leaked 0) (form.Leaked 1) (form.Leaked 2)) [] (tt, tt, tt) (All-nil (OutStaysIn places size called))
  division_stays true true = All-cons (OutStaysIn places size called) (out.Div (form.Leaked 1) (form.Leaked 2) (form.Leaked 3)) [] (tt, tt, tt) (All-nil (OutStaysIn places size called))

  access_stays : (d : Bool) (f : Option (Form × Bool)) → FormMay f → Stay (access_outs d f)
  access_stays d None h = division_stays d false
  access_stays d (Some f) h = All-cons (OutStaysIn places size called) (out.Addr f.0) (division_outs d f.1) h (division_stays d f.1)

  outs_stay : (a : Action) → ActionStays a → Stay (operation_outs slots size a)
  outs_stay a h = access_stays (divides a) (first_form slots size (accesses a)) (accesses_may (accesses a) h)

  -- ---- the actions of rows
  abbrev pub AllStay : List Action → Type 0
  AllStay [] = ⊤
  AllStay (a ∷ as') = ActionStays a × AllStay as'

  way_stays : (s1 s2 s3 : Bool) (f : Arg → Action) (z : Size) (b x y : Arg) (acts : List Action) → ((u : Arg) → Arg' z u → ActionStays (f u)) → Arg' z b → Arg' z x → Arg' z y
      → behind f (if s1 then Some ([], y) else if s2 then Some ([], x) else if s3 then Some (action.Mov z b x ∷ [], y) else None) ≡ Some acts → AllStay acts
  way_stays true s2 s3 f z b x y acts w hb hx hy e = subst AllStay (same_some _ acts e) (w y hy, tt)
  way_stays false true s3 f z b x y acts w hb hx hy e = subst AllStay (same_some _ acts e) (w x hx, tt)
  way_stays false false true f z b x y acts w hb hx hy e = subst AllStay (same_some _ acts e) ((hb, (hx, tt)), (w y hy, tt))
  way_stays false false false f z b x y acts w hb hx hy e = absurd cc

  pub brought_stays : (swaps : Bool) (f : Arg → Action) (z : Size) (b x y : Arg) (acts : List Action) → ((u : Arg) → Arg' z u → ActionStays (f u)) → Arg' z b → Arg' z x → Arg' z y
      → behind f (brought swaps z b x y) ≡ Some acts → AllStay acts
  brought_stays swaps f z b x y acts w hb hx hy e = way_stays (same_arg b x) (swaps && same_arg b y) (is_free b y) f z b x y acts w hb hx hy e

  pub arg_in : {z : Size} {e : Expr} {a : Arg} {p : Leaks} → Of e → operands.IsArg home z e a p → Arg' z a
  arg_in h i = arg_stays home places slots size placed small called h i

  pub dest_in : {z : Size} {d : Lval} {b : Arg} {r : Leaks} → LeftOf d → operands.IsDest home z d b r → Arg' z b
  dest_in h i = dest_stays home places slots size placed small called h i

  signed_of : (o : One) (e a : Expr) → IsSign o e a → Of e → Of a
  signed_of o e a (a_minus b at) h = of_neg (Contains called) (IsInside home) a at h
  signed_of o e a (a_not b at) h = of_not (Contains called) (IsInside home) a at h

  pub bin_of : (o : BinOp) (a b : Expr) (at : Span) → Of (expr.Bin o a b at) → Of a × Of b
  bin_of o a b at h = of_bin (Contains called) (IsInside home) o a b at h

  pub row_stays : {z : Size} {d : Lval} {e : Expr} {acts : List Action} {items : List Numbers} → LeftOf d → Of e → HasRow home z d e acts items → AllStay acts
  row_stays l h (moves ia id) = ((dest_in l id, (arg_in h ia, tt)), tt)
  row_stays {z} l h (sums {o} {a} {c} {x = x} {y = y} {b = b} {acts = acts} at so ia ic id nn e) =
      let k = bin_of o a c at h in
      brought_stays (commutes o) (λ u. action.Alu (alu_of o) z b u None) z b x y acts (λ u w. (dest_in l id, (w, tt))) (dest_in l id) (arg_in k.0 ia) (arg_in k.1 ic) e
  row_stays {z} l h (carries {o} {a} {c} {x = x} {y = y} {b = b} {acts = acts} f p inner at so ia ic id nn isf span e) =
      let k = bin_of o (expr.Bin o a c inner) (expr.Var f) at h in
      let m = bin_of o a c inner k.0 in
      brought_stays (commutes o) (λ u. action.Alu (carry_alu o) z b u (Some p)) z b x y acts (λ u w. (dest_in l id, (w, tt))) (dest_in l id) (arg_in m.0 ia) (arg_in m.1 ic) e
  row_stays {z} l h (signs {o} {e} {a} {x = x} {b = b} {acts = acts} sign ia id ni q) =
      brought_stays false (λ u. action.One o z b) z b x nothing acts (λ u w. (dest_in l id, tt)) (dest_in l id) (arg_in (signed_of o e a sign h) ia) tt q
  row_stays {z} l h (times {a} {c} {x = x} {y = y} {m = m} {acts = acts} at wide ia ic id ni e) =
      let k = bin_of op.Mul a c at h in
      brought_stays (not (is_imm x)) (action.Imul z m) z (arg.Var m) x y acts (λ u w. (w, tt)) tt (arg_in k.0 ia) (arg_in k.1 ic) e
  row_stays l h (times_by {a} {c} at wide ia ic id ni) = ((arg_in (bin_of op.Mul a c at h).0 ia, tt), tt)
  row_stays {z} l h (shifts {o} {a} {x = x} {b = b} {acts = acts} n there at so below ia id ni e) =
      brought_stays false (λ u. action.Shift (shift_of o) z b n) z b x nothing acts (λ u w. (dest_in l id, tt)) (dest_in l id) (arg_in (bin_of o a _ at h).0 ia) tt e
  row_stays {z} l h (shifts_by {o} {a} {x = x} {b = b} {acts = acts} v k there inner at so isv span ia id e) =
      brought_stays false (λ u. action.ShiftBy (shift_of o) z b k) z b x (arg.Var k.variable) acts (λ u w. (dest_in l id, tt)) (dest_in l id) (arg_in (bin_of o a _ at h).0 ia) tt e
  row_stays {z} l h (extends {a} {y} sign at own smaller ia ni id) = ((arg_in (of_cast (Contains called) (IsInside home) z sign a at h) ia, tt), tt)
  row_stays l h (lowest at own le ia id) = ((tt, (tt, tt)), tt)

  pub compared_stays : {at : Span} {e : Expr} {o : Operation} {c : Cond} {p q : Leaks} → Of e → IsCompared home at e o c p q → ActionStays o.action
  compared_stays h (compares {o} {a = a} {b = b} here is s ia ib ni can) = let k = bin_of o a b here h in (arg_in k.0 ia, (arg_in k.1 ib, tt))
  compared_stays h (denies {e} here k) = compared_stays (of_not (Contains called) (IsInside home) e here h) k

  -- ---- the operations of a statement
  abbrev pub OpsStay : List Operation → Type 0
  OpsStay [] = ⊤
  OpsStay (o ∷ os) = ActionStays o.action × OpsStay os

  pub lasting_stay : (at : Span) (fl : Flags) (acts : List Action) → AllStay acts → OpsStay (lasting at fl acts)
  lasting_stay at fl [] h = tt
  lasting_stay at fl (a ∷ []) h = h
  lasting_stay at fl (a ∷ b ∷ more) h = (h.0, lasting_stay at fl (b ∷ more) h.1)

  pub come_of : {os : List Operation} {is : List Numbers} → AsMany os is → OpsStay os → AllLeaked is → Come (Shows places size) (λ (o : Operation). operation_outs slots size o.action) called os is
  come_of none_each h g = none_come
  come_of (one_each {o} m) h g = one_comes (record { stays = outs_stay o.action h.0; leaked = g.0 }) (come_of m h.1 g.1)

module _ (home : Homes) (places : List Place) (slots : ℕ → ℕ) (size : ℕ) (placed : ArePlaced home places slots) (small : IsSmall places size) where
  -- what holds of the left side and of what it is set to, and of the condition
  abbrev Keys : List Name → Expr → Type 0
  Keys a e = All (Contains a) (keys_in e)

  abbrev Nothing : Var × Expr → Type 0
  Nothing c = ⊤

  any_cells : (cs : Cells) → All Nothing cs
  any_cells cs k d lt = tt

  three : (P : Name → Type 0) (d : Lval) (e : Expr) (c : List Name) → All P ((left_keys d ++ []) ++ keys_in e ++ c) → All P (left_keys d) × (All P (keys_in e) × All P c)
  three P d e c h =
      let f = parts P ((left_keys d ++ []) ++ keys_in e) c h in
      let g = parts P (left_keys d ++ []) (keys_in e) f.0 in
      ((parts P (left_keys d) [] g.0).0, (g.1, f.1))

  three_cells : (d : Lval) (e : Expr) (c : Cells) → All (IsInside home) ((left_cells d ++ []) ++ cells_in e ++ c) → All (IsInside home) (left_cells d) × (All (IsInside home) (cells_in e) × All (IsInside home) c)
  three_cells d e c h =
      let f = parts (IsInside home) ((left_cells d ++ []) ++ cells_in e) c h in
      let g = parts (IsInside home) (left_cells d ++ []) (cells_in e) f.0 in
      ((parts (IsInside home) (left_cells d) [] g.0).0, (g.1, f.1))

  -- `d op= e` sets d to w
  module _ (d : Lval) (o : Option BinOp) (e w : Expr) (c : Option Expr) (at : Span) (whole : whole_of (Some d) o e ≡ Some w) (inside : OperationInside home (statements.assign (d ∷ []) o e c at)) where
    abbrev a : List Name
    a = operation_keys (statements.assign (d ∷ []) o e c at)

    keys : All (Contains a) (left_keys d) × (Keys a e × All (Contains a) (flat_map keys_in (option_to_list c)))
    keys = three (Contains a) d e (flat_map keys_in (option_to_list c)) (All-contains_itself a)

    cells : All (IsInside home) (left_cells d) × (All (IsInside home) (cells_in w) × All (IsInside home) (flat_map cells_in (option_to_list c)))
    cells = three_cells d w (flat_map cells_in (option_to_list c)) (subst (λ x. All (IsInside home) (assigned_cells (d ∷ []) x c)) whole inside)

    pub left_is : IsLeftOf (Contains a) (IsInside home) d
    left_is = record { keys = keys.0; cells = cells.0 }

    pub right_is : IsOf (Contains a) (IsInside home) w
    right_is =
        let r = whole_is_of (Contains a) Nothing d o e w (record { keys = keys.0; cells = any_cells (left_cells d) }) (record { keys = keys.1.0; cells = any_cells (cells_in e) }) whole in
        record { keys = r.keys; cells = cells.1.0 }

  pub condition_is : (d : Lval) (e k : Expr) (at : Span) → (inside : OperationInside home (statements.assign (d ∷ []) None e (Some k) at)) → IsOf (Contains (operation_keys (statements.assign (d ∷ []) None e (Some k) at))) (IsInside home) k
  condition_is d e k at inside = record {
    keys = (parts (Contains (operation_keys (statements.assign (d ∷ []) None e (Some k) at))) (keys_in k) [] (keys d None e e (Some k) at refl inside).1.1).0;
    cells = (parts (IsInside home) (cells_in k) [] (cells d None e e (Some k) at refl inside).1.1).0;
  }

  pub ops_stay : (o : statements.Operation) (os : List Operation) (items : List Numbers) → OperationInside home o → Lowers home o os items → OpsStay home places slots size placed small (operation_keys o) os
  ops_stay o os items inside (sets {d} {o = p} {e} {w} {z} {acts} {at = at} whole s row once) =
      let a = operation_keys (statements.assign (d ∷ []) p e None at) in
      lasting_stay home places slots size placed small a at no_flag acts (row_stays home places slots size placed small a (left_is d p e w None at whole inside) (right_is d p e w None at whole inside) row)
  ops_stay o os items inside (sets_if {x} {e} {k} {at = at} z wide kind' h ie ni cmp can) =
      let a = operation_keys (statements.assign (lval.Var x ∷ []) None e (Some k) at) in (
        compared_stays home places slots size placed small a (condition_is (lval.Var x) e k at inside) cmp,
        ((arg_in home places slots size placed small a (right_is (lval.Var x) None e e (Some k) at refl inside) ie, tt), tt),
      )

  pub test_shows : (t : Condition) (asked : Asked) (i : Numbers) → TestInside home t → LowersTest home t asked i → Shows places size (keys_in t.cond) i (asked_outs slots size asked)
  test_shows t asked i inside (tests {compare} {p = p} {q = q} cmp) =
      let a = keys_in t.cond in
      record {
        stays = outs_stay home places slots size placed small a compare.action (compared_stays home places slots size placed small a (record { keys = All-contains_itself a; cells = inside }) cmp);
        leaked = condition_leaked p q 0;
      }

  pub loop_test_shows : (t : Condition) (asked : Asked) (i : Numbers) → TestInside home t → LowersLoopTest home t asked i → Shows places size (keys_in t.cond) i (asked_outs slots size asked)
  loop_test_shows t asked i inside (tests_each h) = test_shows t asked i inside h
  loop_test_shows t asked i inside (never_false here e) = record { stays = All-nil (OutStaysIn places size (keys_in t.cond)); leaked = All-nil IsLeaked }
