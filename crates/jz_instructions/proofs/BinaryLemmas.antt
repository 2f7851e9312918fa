-- Rows of two operands.
use Rattle.std.proofs.Common.{◌≡◌, ℕ, Bool, true, List, [], ◌∷◌, ◌++◌, Option, Some, None, refl, sym, ap, ◌∙◌, subst, append-nil}
use Rattle.std.specs.Prelude.{All}
use Rattle.jz_words.specs.declared.size.Size.{Size}
use Rattle.x64_insn.specs.declared.types.Alu.{Alu}
use Rattle.jz_tree.specs.declared.expr.Expr.{Expr}
use Rattle.jz_tree.specs.declared.expr.Expr.TheVariants as expr
use Rattle.jz_tree.specs.declared.expr.Expr.TheViews.{out-Expr}
use Rattle.jz_tree.specs.declared.expr.Var.{Var}
use Rattle.jz_tree.specs.declared.stmt.Lval.{Lval}
use Rattle.jz_meaning.specs.Values.{key_of, ref_of}
use Rattle.jz_operations.specs.declared.operation.Pinned.{Pinned}
use Rattle.jz_operations.specs.declared.operation.Arg.TheVariants as arg
use Rattle.jz_operations.specs.declared.operation.Action.{Action}
use Rattle.jz_operations.specs.declared.operation.Action.TheVariants as action
use Rattle.jz_encodable.specs.Encodable.{CanEncode}
use Rattle.jz_change.specs.declared.change.Numbers.{Numbers}
use Rattle.jz_change.specs.declared.change.Numbers.TheVariants.{These}
use Rattle.jz_homes.specs.Homes.{Homes, in_flag}
use Rattle.jz_homes.specs.Operands.{count_of, IsDest}
use Rattle.jz_row_operations.specs.Rows.{NotImm}
use Rattle.jz_row_operations.specs.Table.{is_imm, brought, behind}
use Rattle.jz_row_operations.specs.Lowering.{numbers_from}
use Rattle.jz_one_row.proofs.Outs.{out_var}
use Rattle.jz_one_row.proofs.Operands.{one_arg, one_dest}
use Rattle.jz_one_row.proofs.Sums.{same_var}
use Rattle.jz_flag_rows.specs.Instructions.{NotAccess}
use Rattle.jz_one_flag_row.specs.Forms.{IsTwo, IsCarried, IsComparison}
use Rattle.jz_one_flag_row.proofs.OneParts.{flag_of, pinned_is}
use Rattle.jz_operands.specs.declared.operands.Operand.{Operand}
use Rattle.jz_operands.specs.TableHomes.{leaks_of}
use Rattle.jz_operands.specs.Refusals.{NeverDest}
use Rattle.jz_operands.proofs.SumLemmas.{for_found}
use Rattle.jz_rows.specs.Rows.{nth_of, actions_in, items_in, item_of}
use Rattle.jz_rows.specs.Found.{IsBrought}
use Rattle.jz_rows.specs.declared.bringing.Brought.{Brought}
use Rattle.jz_rows.proofs.FieldLemmas.{alu_fields, two_fields, only_can}
use Rattle.jz_pinned_rows.specs.declared.parts.Operands.{Operands}
use Rattle.jz_pinned_rows.specs.declared.row.Acts.{Acts}
use Rattle.jz_pinned_rows.specs.Rows.{actions_of, items_of, FindsActs, AreOperands, NeverOperands}
use Rattle.jz_pinned_rows.proofs.PartLemmas.{no_imm}

-- ---- what was brought
pub behind_items : (b : Brought) → items_in b.before ++ (These ((nth_of b.shown.first ++ nth_of b.shown.second) ++ []) ∷ []) ≡ items_in b.before ++ (item_of b.shown ∷ [])
behind_items b = ap (λ i. items_in b.before ++ (These i ∷ [])) (append-nil (nth_of b.shown.first ++ nth_of b.shown.second))

no_list : (acts : List Action) → ◌≡◌ {A = Option (List Action)} None (Some acts) → ⊥
no_list acts e = absurd cc

-- ---- two operands
module _ (home : Homes) (z : Size) (k : Alu) (s : Bool) (carry : Option Pinned) (d : Lval) (a b : Expr) where
  abbrev NeverTwo : Type 0
  NeverTwo = (acts : List Action) (items : List Numbers) → IsTwo home z k s carry d a b acts items → All CanEncode acts → ⊥

  pub two_operands : NeverOperands home z a b → NeverTwo
  two_operands none acts items h can =
      let f = two_fields s z h.to h.x h.y (λ u. action.Alu k z h.to u carry) acts (λ u. alu_fields k z h.to u carry) h.code can in
      none h.x h.y h.p h.q h.first h.second f.1 f.2

  pub two_dest : NeverDest home z d → NeverTwo
  two_dest none acts items h can =
      none h.to h.r h.dest (two_fields s z h.to h.x h.y (λ u. action.Alu k z h.to u carry) acts (λ u. alu_fields k z h.to u carry) h.code can).0

  module _ (t : Operands) (to : Operand) (both : AreOperands home z a b t) (dest : IsDest home z d to.arg (leaks_of to.leaks)) where
    pub two_brought : brought s z to.arg t.first.arg t.second.arg ≡ None → NeverTwo
    two_brought none acts items h can =
        let m = one_arg home z a t.first.arg h.x (leaks_of t.first.leaks) h.p both.first h.first in
        let n = one_arg home z b t.second.arg h.y (leaks_of t.second.leaks) h.q both.second h.second in
        let e = one_dest home z d to.arg h.to (leaks_of to.leaks) h.r dest h.dest in
        no_list acts (ap (behind (λ u. action.Alu k z h.to u carry)) (sym none ∙ (λ i. brought s z (e.0 i) (m.0 i) (n.0 i))) ∙ h.code)

    pub two_is : (w : Brought) (r : Acts) → IsBrought s z to.arg t.first t.second w → actions_of r ≡ actions_in w.before ++ (action.Alu k z to.arg w.second carry ∷ []) → items_of r ≡ items_in w.before ++ (item_of w.shown ∷ []) → IsTwo home z k s carry d a b (actions_of r) (items_of r)
    two_is w r h acts items = record {
      x = t.first.arg;
      y = t.second.arg;
      to = to.arg;
      p = leaks_of t.first.leaks;
      q = leaks_of t.second.leaks;
      r = leaks_of to.leaks;
      first = both.first;
      second = both.second;
      dest = dest;
      code = ap (behind (λ u. action.Alu k z to.arg u carry)) h.actions ∙ ap Some (sym acts);
      shown = items ∙ h.items;
    }

-- ---- a flag behind
var_one : (v w : Var) → expr.Var v ≡ expr.Var w → v ≡ w
var_one v w e = same_var v w (sym (out_var v) ∙ ap out-Expr e ∙ out_var w)

module _ (home : Homes) (z : Size) (k : Alu) (s : Bool) (d : Lval) (a b c : Expr) where
  abbrev NeverCarried : Type 0
  NeverCarried = (acts : List Action) (items : List Numbers) → IsCarried home z k s d a b c acts items → All CanEncode acts → ⊥

  pub no_last_variable : ((v : Var) → c ≡ expr.Var v → ⊥) → NeverCarried
  no_last_variable none acts items h can = none h.flag h.is_flag

  pub no_last_flag : (v : Var) → c ≡ expr.Var v → ((n : ℕ) → home (key_of (ref_of v)) ≡ Some (in_flag n) → ⊥) → NeverCarried
  no_last_flag v is none acts items h can =
      none h.carry.variable (subst (λ u. home (key_of (ref_of u)) ≡ Some (in_flag h.carry.variable)) (var_one h.flag v (sym h.is_flag ∙ is)) h.home_is)

  pub carried_finds : (v : Var) (p : Pinned) (o : Option Acts) → c ≡ expr.Var v → home (key_of (ref_of v)) ≡ Some (in_flag p.variable) → p.span ≡ (ref_of v).span → FindsActs (IsTwo home z k s (Some p) d a b) o → FindsActs (IsCarried home z k s d a b c) o
  carried_finds v p o is reg span f =
      for_found o (λ r row. record { flag = v; carry = p; is_flag = is; home_is = reg; span_is = span; row = row })
      (λ none acts items h can.
      let w = var_one h.flag v (sym h.is_flag ∙ is) in
      let n = flag_of h.carry.variable p.variable (sym h.home_is ∙ ap (λ u. home (key_of (ref_of u))) w ∙ reg) in
      let e = pinned_is h.carry p n (h.span_is ∙ ap (λ u. (ref_of u).span) w ∙ sym span) in
      none acts items (subst (λ q. IsTwo home z k s (Some q) d a b acts items) e h.row) can) f

-- ---- comparisons
module _ (home : Homes) (z : Size) (k : Alu) (a b : Expr) where
  abbrev NeverCompared : Type 0
  NeverCompared = (acts : List Action) (items : List Numbers) → IsComparison home z k a b acts items → All CanEncode acts → ⊥

  pub compare_operands : NeverOperands home z a b → NeverCompared
  compare_operands none acts items h can =
      let f = alu_fields k z h.x h.y None (only_can (action.Alu k z h.x h.y None) (subst (All CanEncode) h.code can)) in
      none h.x h.y h.p h.q h.first h.second f.0 f.1

  module _ (t : Operands) (both : AreOperands home z a b t) where
    pub compare_imm : is_imm t.first.arg ≡ true → NeverCompared
    compare_imm i acts items h can =
        no_imm t.first.arg i (subst NotImm (sym (one_arg home z a t.first.arg h.x (leaks_of t.first.leaks) h.p both.first h.first).0) h.no_number)

    pub compare_access : (NotAccess t.second.arg → ⊥) → NeverCompared
    compare_access none acts items h can = none (subst NotAccess (sym (one_arg home z b t.second.arg h.y (leaks_of t.second.leaks) h.q both.second h.second).0) h.no_access)

    pub compare_is : (i j : Option ℕ) (n : ℕ) → NotImm t.first.arg → NotAccess t.second.arg → nth_of i ≡ numbers_from (leaks_of t.first.leaks) 0 → n ≡ count_of (leaks_of t.first.leaks) → nth_of j ≡ numbers_from (leaks_of t.second.leaks) n
        → IsComparison home z k a b (action.Alu k z t.first.arg t.second.arg None ∷ []) (These ((nth_of i ++ nth_of j) ++ []) ∷ [])
    compare_is i j n ni na e is f = record {
      x = t.first.arg;
      y = t.second.arg;
      p = leaks_of t.first.leaks;
      q = leaks_of t.second.leaks;
      first = both.first;
      second = both.second;
      no_number = ni;
      no_access = na;
      code = refl;
      shown = ap (λ l. These l ∷ []) (append-nil (nth_of i ++ nth_of j)) ∙ ap (λ l. These (l ++ nth_of j) ∷ []) e ∙ ap (λ l. These (numbers_from (leaks_of t.first.leaks) 0 ++ l) ∷ []) (f ∙ ap (numbers_from (leaks_of t.second.leaks)) is);
    }
