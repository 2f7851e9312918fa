-- Rows of one operand.
use Rattle.std.proofs.Common.{◌≡◌, ℕ, false, List, [], ◌∷◌, ◌++◌, Option, Some, None, sym, ap, ◌∙◌, subst}
use Rattle.std.specs.Prelude.{All}
use Rattle.jz_words.specs.declared.size.Size.{Size}
use Rattle.x64_insn.specs.declared.types.One.{One}
use Rattle.jz_tree.specs.declared.expr.Expr.{Expr}
use Rattle.jz_tree.specs.declared.stmt.Lval.{Lval}
use Rattle.jz_operations.specs.declared.operation.Arg.{Arg}
use Rattle.jz_operations.specs.declared.operation.Arg.TheVariants as arg
use Rattle.jz_operations.specs.declared.operation.Action.{Action}
use Rattle.jz_operations.specs.declared.operation.Action.TheVariants as action
use Rattle.jz_encodable.specs.Encodable.{CanEncode}
use Rattle.jz_change.specs.declared.change.Numbers.{Numbers}
use Rattle.jz_homes.specs.Homes.{Homes}
use Rattle.jz_homes.specs.Operands.{silent, IsArg, IsDest}
use Rattle.jz_row_operations.specs.Table.{nothing, brought, behind}
use Rattle.jz_one_row.proofs.Operands.{one_arg, one_dest}
use Rattle.jz_flag_rows.specs.Wide.{IsLong}
use Rattle.jz_one_flag_row.specs.Forms.{IsOne, IsSwap}
use Rattle.jz_operands.specs.declared.operands.Leaks.TheVariants.{Silent}
use Rattle.jz_operands.specs.declared.operands.Operand.{Operand}
use Rattle.jz_operands.specs.TableHomes.{leaks_of}
use Rattle.jz_operands.specs.Refusals.{NeverArg, NeverDest}
use Rattle.jz_rows.specs.Rows.{actions_in, items_in, item_of}
use Rattle.jz_rows.specs.Found.{IsBrought}
use Rattle.jz_rows.specs.declared.bringing.Brought.{Brought}
use Rattle.jz_rows.proofs.FieldLemmas.{one_fields, one_operand}
use Rattle.jz_pinned_rows.specs.declared.row.Acts.{Acts}
use Rattle.jz_pinned_rows.specs.Rows.{actions_of, items_of}

abbrev pub alone : Operand
alone = record { arg = nothing; leaks = Silent }

no_list : (acts : List Action) → ◌≡◌ {A = Option (List Action)} None (Some acts) → ⊥
no_list acts e = absurd cc

module _ (home : Homes) (z : Size) (k : One) (d : Lval) (a : Expr) where
  abbrev NeverOne : Type 0
  NeverOne = (acts : List Action) (items : List Numbers) → IsOne home z k d a acts items → All CanEncode acts → ⊥

  pub one_source : NeverArg home z a → NeverOne
  one_source none acts items h can = none h.x h.p h.operand (one_operand z h.to h.x nothing (action.One k z h.to) acts (one_fields k z h.to) h.code can).1

  pub one_target : NeverDest home z d → NeverOne
  one_target none acts items h can = none h.to h.r h.dest (one_operand z h.to h.x nothing (action.One k z h.to) acts (one_fields k z h.to) h.code can).0

  module _ (x y to : Operand) (is : y ≡ alone) (found : IsArg home z a x.arg (leaks_of x.leaks)) (dest : IsDest home z d to.arg (leaks_of to.leaks)) where
    pub one_brought : brought false z to.arg x.arg y.arg ≡ None → NeverOne
    one_brought none acts items h can =
        let m = one_arg home z a x.arg h.x (leaks_of x.leaks) h.p found h.operand in
        let e = one_dest home z d to.arg h.to (leaks_of to.leaks) h.r dest h.dest in
        no_list acts (ap (behind (λ u. action.One k z h.to)) (sym none ∙ (λ i. brought false z (e.0 i) (m.0 i) (is i).arg)) ∙ h.code)

    pub one_is : (w : Brought) (r : Acts) → IsBrought false z to.arg x y w → actions_of r ≡ actions_in w.before ++ (action.One k z to.arg ∷ []) → items_of r ≡ items_in w.before ++ (item_of w.shown ∷ []) → IsOne home z k d a (actions_of r) (items_of r)
    one_is w r b acts items =
        let h = subst (λ u. IsBrought false z to.arg x u w) is b in
        record {
          x = x.arg;
          to = to.arg;
          p = leaks_of x.leaks;
          r = leaks_of to.leaks;
          operand = found;
          dest = dest;
          code = ap (behind (λ u. action.One k z to.arg)) h.actions ∙ ap Some (sym acts);
          shown = items ∙ h.items;
        }

-- ---- BSWAP
of_var : (m n : ℕ) → ◌≡◌ {A = Arg} (arg.Var m) (arg.Var n) → m ≡ n
of_var m n e = cc

module _ (home : Homes) (z : Size) (d : Lval) (a : Expr) where
  abbrev NeverSwap : Type 0
  NeverSwap = (acts : List Action) (items : List Numbers) → IsSwap home z d a acts items → All CanEncode acts → ⊥

  pub swap_short : (IsLong z → ⊥) → NeverSwap
  swap_short none acts items h can = none h.long

  pub swap_source : NeverArg home z a → NeverSwap
  swap_source none acts items h can = none h.x h.p h.operand (one_operand z (arg.Var h.v) h.x nothing (action.Bswap z h.v) acts (λ c. tt) h.code can).1

  pub swap_target : ((n : ℕ) → IsDest home z d (arg.Var n) silent → ⊥) → NeverSwap
  swap_target none acts items h can = none h.v h.dest

  module _ (x y : Operand) (n : ℕ) (is : y ≡ alone) (found : IsArg home z a x.arg (leaks_of x.leaks)) (dest : IsDest home z d (arg.Var n) silent) where
    pub swap_brought : brought false z (arg.Var n) x.arg y.arg ≡ None → NeverSwap
    swap_brought none acts items h can =
        let m = one_arg home z a x.arg h.x (leaks_of x.leaks) h.p found h.operand in
        let e = of_var n h.v (one_dest home z d (arg.Var n) (arg.Var h.v) silent silent dest h.dest).0 in
        no_list acts (ap (behind (λ u. action.Bswap z h.v)) (sym none ∙ (λ i. brought false z (arg.Var (e i)) (m.0 i) (is i).arg)) ∙ h.code)

    pub swap_is : (w : Brought) (r : Acts) → IsLong z → IsBrought false z (arg.Var n) x y w → actions_of r ≡ actions_in w.before ++ (action.Bswap z n ∷ []) → items_of r ≡ items_in w.before ++ (item_of w.shown ∷ []) → IsSwap home z d a (actions_of r) (items_of r)
    swap_is w r long b acts items =
        let h = subst (λ u. IsBrought false z (arg.Var n) x u w) is b in
        record {
          x = x.arg;
          v = n;
          p = leaks_of x.leaks;
          long = long;
          operand = found;
          dest = dest;
          code = ap (behind (λ u. action.Bswap z n)) h.actions ∙ ap Some (sym acts);
          shown = items ∙ h.items;
        }
