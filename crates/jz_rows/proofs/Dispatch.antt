-- Which rows an outermost layer may have.
use Rattle.std.proofs.Common.{◌≡◌, Bool, true, false, List, refl, subst}
use Rattle.std.specs.Prelude.{⊤}
use Rattle.jz_words.specs.declared.size.Size.{Size}
use Rattle.jz_tree.specs.Span.{Span}
use Rattle.jz_tree.specs.Operators.{is_shift}
use Rattle.jz_tree.specs.declared.expr.BinOp.{BinOp}
use Rattle.jz_tree.specs.declared.expr.BinOp.TheVariants as op
use Rattle.jz_tree.specs.declared.expr.Expr.{Expr}
use Rattle.jz_tree.specs.declared.expr.Expr.TheVariants as expr
use Rattle.jz_tree.specs.declared.expr.Expr.TheOpen.{Expr-F}
use Rattle.jz_tree.specs.declared.expr.Expr.TheViews.{out-Expr}
use Rattle.jz_tree.specs.declared.stmt.Lval.{Lval}
use Rattle.jz_meaning.specs.Assignments.{Layer}
use Rattle.jz_operations.specs.declared.operation.Action.{Action}
use Rattle.jz_homes.specs.Homes.{Homes}
use Rattle.jz_row_operations.specs.Rows.{IsSumOp, IsCarryOp, IsShiftOp}
use Rattle.jz_one_row.proofs.Outs.{out_bin, out_bool, out_cast, out_neg, out_not}
use Rattle.jz_operands.specs.TableHomes.{homes_of}
use Rattle.jz_operands.proofs.OperandRefusals.{never_bin, never_neg, never_not, never_cast, never_bool}
use Rattle.jz_rows.specs.declared.targets.Target.{Target}
use Rattle.jz_rows.specs.Found.{Rule, Moves, Sums, Carries, Signs, Times, TimesBy, Shifts, ShiftsBy, Extends, Lowest, rule_of, NeverBy, NeverRow}
use Rattle.jz_rows.proofs.RowRules.{RowAt, r_moves, r_sums, r_carries, r_minus, r_not, r_times, r_times_by, r_shifts, r_shifts_by, r_extends, r_lowest, row_in, move_source}

-- ---- operators
shift_no_sum : (o : BinOp) → is_shift o ≡ true → IsSumOp o → ⊥
shift_no_sum op.OrElse e h = h
shift_no_sum op.AndThen e h = h
shift_no_sum op.Or e h = absurd cc
shift_no_sum op.Xor e h = absurd cc
shift_no_sum op.And e h = absurd cc
shift_no_sum op.Eq e h = h
shift_no_sum op.Ne e h = h
shift_no_sum op.Lt e h = h
shift_no_sum op.Le e h = h
shift_no_sum op.Gt e h = h
shift_no_sum op.Ge e h = h
shift_no_sum op.LtS e h = h
shift_no_sum op.LeS e h = h
shift_no_sum op.GtS e h = h
shift_no_sum op.GeS e h = h
shift_no_sum op.Shl e h = h
shift_no_sum op.Shr e h = h
shift_no_sum op.Sar e h = h
shift_no_sum op.Rol e h = h
shift_no_sum op.Ror e h = h
shift_no_sum op.Add e h = absurd cc
shift_no_sum op.Sub e h = absurd cc
shift_no_sum op.Mul e h = h
shift_no_sum op.Div e h = h
shift_no_sum op.Rem e h = h
shift_no_sum op.DivS e h = h
shift_no_sum op.RemS e h = h

carry_is_sum : (o : BinOp) → IsCarryOp o → IsSumOp o
carry_is_sum op.OrElse h = absurd h
carry_is_sum op.AndThen h = absurd h
carry_is_sum op.Or h = absurd h
carry_is_sum op.Xor h = absurd h
carry_is_sum op.And h = absurd h
carry_is_sum op.Eq h = absurd h
carry_is_sum op.Ne h = absurd h
carry_is_sum op.Lt h = absurd h
carry_is_sum op.Le h = absurd h
carry_is_sum op.Gt h = absurd h
carry_is_sum op.Ge h = absurd h
carry_is_sum op.LtS h = absurd h
carry_is_sum op.LeS h = absurd h
carry_is_sum op.GtS h = absurd h
carry_is_sum op.GeS h = absurd h
carry_is_sum op.Shl h = absurd h
carry_is_sum op.Shr h = absurd h
carry_is_sum op.Sar h = absurd h
carry_is_sum op.Rol h = absurd h
carry_is_sum op.Ror h = absurd h
carry_is_sum op.Add h = tt
carry_is_sum op.Sub h = tt
carry_is_sum op.Mul h = absurd h
carry_is_sum op.Div h = absurd h
carry_is_sum op.Rem h = absurd h
carry_is_sum op.DivS h = absurd h
carry_is_sum op.RemS h = absurd h

shift_is : (o : BinOp) → IsShiftOp o → is_shift o ≡ true
shift_is op.OrElse h = absurd h
shift_is op.AndThen h = absurd h
shift_is op.Or h = absurd h
shift_is op.Xor h = absurd h
shift_is op.And h = absurd h
shift_is op.Eq h = absurd h
shift_is op.Ne h = absurd h
shift_is op.Lt h = absurd h
shift_is op.Le h = absurd h
shift_is op.Gt h = absurd h
shift_is op.Ge h = absurd h
shift_is op.LtS h = absurd h
shift_is op.LeS h = absurd h
shift_is op.GtS h = absurd h
shift_is op.GeS h = absurd h
shift_is op.Shl h = refl
shift_is op.Shr h = refl
shift_is op.Sar h = refl
shift_is op.Rol h = refl
shift_is op.Ror h = refl
shift_is op.Add h = absurd h
shift_is op.Sub h = absurd h
shift_is op.Mul h = absurd h
shift_is op.Div h = absurd h
shift_is op.Rem h = absurd h
shift_is op.DivS h = absurd h
shift_is op.RemS h = absurd h

shift_no_product : (o : BinOp) → is_shift o ≡ true → o ≡ op.Mul → ⊥
shift_no_product o e h = let f : is_shift op.Mul ≡ true = subst (λ u. is_shift u ≡ true) h e in absurd cc

no_shift : (o : BinOp) → is_shift o ≡ false → IsShiftOp o → ⊥
no_shift o e h = let f : is_shift o ≡ true = shift_is o h in absurd cc

-- ---- layers
abbrev Fits : Rule → Layer → Type 0
Fits Moves l = ⊤
Fits Sums (Expr-F.Bin o a c at) = IsSumOp o
Fits Sums _ = ⊥
Fits Carries (Expr-F.Bin o a c at) = IsCarryOp o
Fits Carries _ = ⊥
Fits Signs (Expr-F.Neg a at) = ⊤
Fits Signs (Expr-F.Not a at) = ⊤
Fits Signs _ = ⊥
Fits Times (Expr-F.Bin o a c at) = o ≡ op.Mul
Fits Times _ = ⊥
Fits TimesBy (Expr-F.Bin o a c at) = o ≡ op.Mul
Fits TimesBy _ = ⊥
Fits Shifts (Expr-F.Bin o a c at) = IsShiftOp o
Fits Shifts _ = ⊥
Fits ShiftsBy (Expr-F.Bin o a c at) = IsShiftOp o
Fits ShiftsBy _ = ⊥
Fits Extends (Expr-F.Cast z s a at) = ⊤
Fits Extends _ = ⊥
Fits Lowest (Expr-F.Cast z s a at) = ⊤
Fits Lowest _ = ⊥

fits : (home : Homes) (z : Size) (d : Lval) (e : Expr) (r : Rule) (l : Layer) (acts : List Action) → RowAt home z d e r l acts → Fits r l
fits home z d e r l acts (r_moves l2 x b p q f g) = tt
fits home z d e r l acts (r_sums o a c x y b p q s codes at h f g i ni k) = h
fits home z d e r l acts (r_carries o i g a c x y b p q s codes f k inner at e1 e2 h u v w ni flag code) = h
fits home z d e r l acts (r_minus a x b p q codes at f g ni k) = tt
fits home z d e r l acts (r_not a x b p q codes at f g ni k) = tt
fits home z d e r l acts (r_times a c x y m p q codes at wide f g h ni k) = refl
fits home z d e r l acts (r_times_by a c x i m p at wide f g h ni) = refl
fits home z d e r l acts (r_shifts o a g x b p q codes n there at is h less f i ni k) = h
fits home z d e r l acts (r_shifts_by o a g u m x b p q codes v k there inner at is isv ism h register f i code) = h
fits home z d e r l acts (r_extends a y from m p sign at size less f ni g) = tt
fits home z d e r l acts (r_lowest a from m n at size more f g) = tt

module _ (t : Target) where
  never_row : (e : Expr) (l : Layer) → out-Expr e ≡ l → ((r : Rule) → Fits r l → NeverBy r t e) → NeverRow t e
  never_row e l s none acts items row can =
      let home = homes_of t.homes.now in
      let r = rule_of home t.size t.to.now e acts items row in
      none r (subst (Fits r) s (fits home t.size t.to.now e r (out-Expr e) acts (row_in home t.size t.to.now e acts items row))) acts items row refl can

  -- an operand alone
  abbrev IsOperand : Layer → Type 0
  IsOperand (Expr-F.Bin o a c at) = ⊥
  IsOperand (Expr-F.Neg a at) = ⊥
  IsOperand (Expr-F.Not a at) = ⊥
  IsOperand (Expr-F.Cast z s a at) = ⊥
  IsOperand _ = ⊤

  only_moves : (l : Layer) → IsOperand l → (r : Rule) → Fits r l → (r ≡ Moves → ⊥) → ⊥
  only_moves (Expr-F.Num i at) h Moves f other = other refl
  only_moves (Expr-F.Num i at) h Sums f other = f
  only_moves (Expr-F.Num i at) h Carries f other = f
  only_moves (Expr-F.Num i at) h Signs f other = f
  only_moves (Expr-F.Num i at) h Times f other = f
  only_moves (Expr-F.Num i at) h TimesBy f other = f
  only_moves (Expr-F.Num i at) h Shifts f other = f
  only_moves (Expr-F.Num i at) h ShiftsBy f other = f
  only_moves (Expr-F.Num i at) h Extends f other = f
  only_moves (Expr-F.Num i at) h Lowest f other = f
  only_moves (Expr-F.Expr::Bool b at) h Moves f other = other refl
  only_moves (Expr-F.Expr::Bool b at) h Sums f other = f
  only_moves (Expr-F.Expr::Bool b at) h Carries f other = f
  only_moves (Expr-F.Expr::Bool b at) h Signs f other = f
  only_moves (Expr-F.Expr::Bool b at) h Times f other = f
  only_moves (Expr-F.Expr::Bool b at) h TimesBy f other = f
  only_moves (Expr-F.Expr::Bool b at) h Shifts f other = f
  only_moves (Expr-F.Expr::Bool b at) h ShiftsBy f other = f
  only_moves (Expr-F.Expr::Bool b at) h Extends f other = f
  only_moves (Expr-F.Expr::Bool b at) h Lowest f other = f
  only_moves (Expr-F.Var v) h Moves f other = other refl
  only_moves (Expr-F.Var v) h Sums f other = f
  only_moves (Expr-F.Var v) h Carries f other = f
  only_moves (Expr-F.Var v) h Signs f other = f
  only_moves (Expr-F.Var v) h Times f other = f
  only_moves (Expr-F.Var v) h TimesBy f other = f
  only_moves (Expr-F.Var v) h Shifts f other = f
  only_moves (Expr-F.Var v) h ShiftsBy f other = f
  only_moves (Expr-F.Var v) h Extends f other = f
  only_moves (Expr-F.Var v) h Lowest f other = f
  only_moves (Expr-F.Cell v i) h Moves f other = other refl
  only_moves (Expr-F.Cell v i) h Sums f other = f
  only_moves (Expr-F.Cell v i) h Carries f other = f
  only_moves (Expr-F.Cell v i) h Signs f other = f
  only_moves (Expr-F.Cell v i) h Times f other = f
  only_moves (Expr-F.Cell v i) h TimesBy f other = f
  only_moves (Expr-F.Cell v i) h Shifts f other = f
  only_moves (Expr-F.Cell v i) h ShiftsBy f other = f
  only_moves (Expr-F.Cell v i) h Extends f other = f
  only_moves (Expr-F.Cell v i) h Lowest f other = f
  only_moves (Expr-F.Load a) h Moves f other = other refl
  only_moves (Expr-F.Load a) h Sums f other = f
  only_moves (Expr-F.Load a) h Carries f other = f
  only_moves (Expr-F.Load a) h Signs f other = f
  only_moves (Expr-F.Load a) h Times f other = f
  only_moves (Expr-F.Load a) h TimesBy f other = f
  only_moves (Expr-F.Load a) h Shifts f other = f
  only_moves (Expr-F.Load a) h ShiftsBy f other = f
  only_moves (Expr-F.Load a) h Extends f other = f
  only_moves (Expr-F.Load a) h Lowest f other = f
  only_moves (Expr-F.Neg a at) h r f other = absurd h
  only_moves (Expr-F.Not a at) h r f other = absurd h
  only_moves (Expr-F.Cast z s a at) h r f other = absurd h
  only_moves (Expr-F.Bin o a c at) h r f other = absurd h

  only_by : (r : Rule) (e : Expr) (l : Layer) → IsOperand l → Fits r l → NeverBy Moves t e → NeverBy r t e
  only_by Moves e l h f none = none
  only_by Sums e l h f none = absurd (only_moves l h Sums f (λ q. absurd cc))
  only_by Carries e l h f none = absurd (only_moves l h Carries f (λ q. absurd cc))
  only_by Signs e l h f none = absurd (only_moves l h Signs f (λ q. absurd cc))
  only_by Times e l h f none = absurd (only_moves l h Times f (λ q. absurd cc))
  only_by TimesBy e l h f none = absurd (only_moves l h TimesBy f (λ q. absurd cc))
  only_by Shifts e l h f none = absurd (only_moves l h Shifts f (λ q. absurd cc))
  only_by ShiftsBy e l h f none = absurd (only_moves l h ShiftsBy f (λ q. absurd cc))
  only_by Extends e l h f none = absurd (only_moves l h Extends f (λ q. absurd cc))
  only_by Lowest e l h f none = absurd (only_moves l h Lowest f (λ q. absurd cc))

  pub operand_never : (e : Expr) (l : Layer) → out-Expr e ≡ l → IsOperand l → NeverBy Moves t e → NeverRow t e
  operand_never e l s h none = never_row e l s (λ r f. only_by r e l h f none)

  pub truth_never : (b : Bool) (at : Span) → NeverRow t (expr.Bool b at)
  truth_never b at = operand_never (expr.Bool b at) (Expr-F.Expr::Bool b at) (out_bool b at) tt (move_source t (expr.Bool b at) (never_bool (homes_of t.homes.now) t.size b at))

  minus_rules : (a : Expr) (at : Span) → NeverBy Signs t (expr.Neg a at) → (r : Rule) → Fits r (Expr-F.Neg a at) → NeverBy r t (expr.Neg a at)
  minus_rules a at none Moves f = move_source t (expr.Neg a at) (never_neg (homes_of t.homes.now) t.size a at)
  minus_rules a at none Sums f = absurd f
  minus_rules a at none Carries f = absurd f
  minus_rules a at none Signs f = none
  minus_rules a at none Times f = absurd f
  minus_rules a at none TimesBy f = absurd f
  minus_rules a at none Shifts f = absurd f
  minus_rules a at none ShiftsBy f = absurd f
  minus_rules a at none Extends f = absurd f
  minus_rules a at none Lowest f = absurd f

  pub minus_never : (a : Expr) (at : Span) → NeverBy Signs t (expr.Neg a at) → NeverRow t (expr.Neg a at)
  minus_never a at none = never_row (expr.Neg a at) (Expr-F.Neg a at) (out_neg a at) (minus_rules a at none)

  denial_rules : (a : Expr) (at : Span) → NeverBy Signs t (expr.Not a at) → (r : Rule) → Fits r (Expr-F.Not a at) → NeverBy r t (expr.Not a at)
  denial_rules a at none Moves f = move_source t (expr.Not a at) (never_not (homes_of t.homes.now) t.size a at)
  denial_rules a at none Sums f = absurd f
  denial_rules a at none Carries f = absurd f
  denial_rules a at none Signs f = none
  denial_rules a at none Times f = absurd f
  denial_rules a at none TimesBy f = absurd f
  denial_rules a at none Shifts f = absurd f
  denial_rules a at none ShiftsBy f = absurd f
  denial_rules a at none Extends f = absurd f
  denial_rules a at none Lowest f = absurd f

  pub denial_never : (a : Expr) (at : Span) → NeverBy Signs t (expr.Not a at) → NeverRow t (expr.Not a at)
  denial_never a at none = never_row (expr.Not a at) (Expr-F.Not a at) (out_not a at) (denial_rules a at none)

  cast_rules : (z : Size) (s : Bool) (a : Expr) (at : Span) → NeverBy Extends t (expr.Cast z s a at) × NeverBy Lowest t (expr.Cast z s a at) → (r : Rule) → Fits r (Expr-F.Cast z s a at) → NeverBy r t (expr.Cast z s a at)
  cast_rules z s a at none Moves f = move_source t (expr.Cast z s a at) (never_cast (homes_of t.homes.now) t.size z s a at)
  cast_rules z s a at none Sums f = absurd f
  cast_rules z s a at none Carries f = absurd f
  cast_rules z s a at none Signs f = absurd f
  cast_rules z s a at none Times f = absurd f
  cast_rules z s a at none TimesBy f = absurd f
  cast_rules z s a at none Shifts f = absurd f
  cast_rules z s a at none ShiftsBy f = absurd f
  cast_rules z s a at none Extends f = none.0
  cast_rules z s a at none Lowest f = none.1

  pub cast_never : (z : Size) (s : Bool) (a : Expr) (at : Span) → NeverBy Extends t (expr.Cast z s a at) × NeverBy Lowest t (expr.Cast z s a at) → NeverRow t (expr.Cast z s a at)
  cast_never z s a at none = never_row (expr.Cast z s a at) (Expr-F.Cast z s a at) (out_cast z s a at) (cast_rules z s a at none)

  module _ (o : BinOp) (a c : Expr) (at : Span) where
    abbrev both : Expr
    both = expr.Bin o a c at

    moved : NeverBy Moves t both
    moved = move_source t both (never_bin (homes_of t.homes.now) t.size o a c at)

    shift_rules : is_shift o ≡ true → NeverBy Shifts t both × NeverBy ShiftsBy t both → (r : Rule) → Fits r (Expr-F.Bin o a c at) → NeverBy r t both
    shift_rules e none Moves f = moved
    shift_rules e none Sums f = absurd (shift_no_sum o e f)
    shift_rules e none Carries f = absurd (shift_no_sum o e (carry_is_sum o f))
    shift_rules e none Signs f = absurd f
    shift_rules e none Times f = absurd (shift_no_product o e f)
    shift_rules e none TimesBy f = absurd (shift_no_product o e f)
    shift_rules e none Shifts f = none.0
    shift_rules e none ShiftsBy f = none.1
    shift_rules e none Extends f = absurd f
    shift_rules e none Lowest f = absurd f

    pub shift_never : is_shift o ≡ true → NeverBy Shifts t both × NeverBy ShiftsBy t both → NeverRow t both
    shift_never e none = never_row both (Expr-F.Bin o a c at) (out_bin o a c at) (shift_rules e none)

    sum_rules : is_shift o ≡ false → (o ≡ op.Mul → ⊥) → NeverBy Sums t both × NeverBy Carries t both → (r : Rule) → Fits r (Expr-F.Bin o a c at) → NeverBy r t both
    sum_rules e n none Moves f = moved
    sum_rules e n none Sums f = none.0
    sum_rules e n none Carries f = none.1
    sum_rules e n none Signs f = absurd f
    sum_rules e n none Times f = absurd (n f)
    sum_rules e n none TimesBy f = absurd (n f)
    sum_rules e n none Shifts f = absurd (no_shift o e f)
    sum_rules e n none ShiftsBy f = absurd (no_shift o e f)
    sum_rules e n none Extends f = absurd f
    sum_rules e n none Lowest f = absurd f

    pub sum_never : is_shift o ≡ false → (o ≡ op.Mul → ⊥) → NeverBy Sums t both × NeverBy Carries t both → NeverRow t both
    sum_never e n none = never_row both (Expr-F.Bin o a c at) (out_bin o a c at) (sum_rules e n none)

  product_rules : (a c : Expr) (at : Span) → NeverBy Times t (expr.Bin op.Mul a c at) × NeverBy TimesBy t (expr.Bin op.Mul a c at) → (r : Rule) → Fits r (Expr-F.Bin op.Mul a c at) → NeverBy r t (expr.Bin op.Mul a c at)
  product_rules a c at none Moves f = move_source t (expr.Bin op.Mul a c at) (never_bin (homes_of t.homes.now) t.size op.Mul a c at)
  product_rules a c at none Sums f = absurd f
  product_rules a c at none Carries f = absurd f
  product_rules a c at none Signs f = absurd f
  product_rules a c at none Times f = none.0
  product_rules a c at none TimesBy f = none.1
  product_rules a c at none Shifts f = absurd f
  product_rules a c at none ShiftsBy f = absurd f
  product_rules a c at none Extends f = absurd f
  product_rules a c at none Lowest f = absurd f

  pub product_never : (a c : Expr) (at : Span) → NeverBy Times t (expr.Bin op.Mul a c at) × NeverBy TimesBy t (expr.Bin op.Mul a c at) → NeverRow t (expr.Bin op.Mul a c at)
  product_never a c at none = never_row (expr.Bin op.Mul a c at) (Expr-F.Bin op.Mul a c at) (out_bin op.Mul a c at) (product_rules a c at none)
