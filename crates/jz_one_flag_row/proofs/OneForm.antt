-- An intrinsic of one form has one list of actions.
use Rattle.std.proofs.Common.{◌≡◌, ℕ, Bool, List, [], ◌∷◌, ◌++◌, Option, Some, None, refl, sym, ap, ◌∙◌, subst}
use Rattle.jz_words.specs.declared.size.Size.{Size}
use Rattle.jz_words.specs.declared.size.Size.TheVariants.{S64}
use Rattle.jz_tree.specs.declared.intrinsic.Intrinsic.{Intrinsic}
use Rattle.jz_tree.specs.declared.intrinsic.Intrinsic.TheVariants as name
use Rattle.x64_insn.specs.declared.types.Alu.{Alu}
use Rattle.x64_insn.specs.declared.types.One.{One}
use Rattle.x64_insn.specs.declared.types.Shift.{Shift}
use Rattle.jz_tree.specs.declared.expr.BinOp.TheVariants as op
use Rattle.jz_tree.specs.declared.expr.Expr.{Expr}
use Rattle.jz_tree.specs.declared.expr.Expr.TheVariants as expr
use Rattle.jz_tree.specs.declared.expr.Expr.TheViews.{out-Expr}
use Rattle.jz_tree.specs.declared.expr.Var.{Var}
use Rattle.jz_tree.specs.declared.stmt.Lval.{Lval}
use Rattle.jz_meaning.specs.Assignments.{left_span}
use Rattle.jz_meaning.specs.Values.{key_of, ref_of}
use Rattle.jz_operations.specs.declared.operation.Pinned.{Pinned}
use Rattle.jz_operations.specs.declared.operation.Arg.{Arg}
use Rattle.jz_operations.specs.declared.operation.Arg.TheVariants as arg
use Rattle.jz_operations.specs.declared.operation.Action.{Action}
use Rattle.jz_operations.specs.declared.operation.Action.TheVariants as action
use Rattle.jz_operations.specs.declared.operation.Flags.{Flags}
use Rattle.jz_operations.proofs.Somes.{same_some}
use Rattle.jz_change.specs.declared.change.Numbers.{Numbers}
use Rattle.jz_change.specs.declared.change.Numbers.TheVariants.{These}
use Rattle.jz_homes.specs.Homes.{Homes}
use Rattle.jz_homes.specs.Operands.{silent, count_of}
use Rattle.jz_row_operations.specs.Table.{two_code, one_code}
use Rattle.jz_row_operations.specs.Lowering.{numbers_from, two_shown, one_shown}
use Rattle.jz_one_row.proofs.Outs.{out_var}
use Rattle.jz_one_row.proofs.Operands.{one_arg, one_dest}
use Rattle.jz_one_row.proofs.Sums.{same_var, one_sum}
use Rattle.jz_one_row.proofs.Rows.{one_row}
use Rattle.jz_flag_rows.specs.Wide.{wide_code, wide_shown, divide_two_code, divide_two_shown}
use Rattle.jz_flag_rows.specs.Instructions.{swap_code, count_code, HasInstruction}
use Rattle.jz_one_flag_row.specs.Forms.{Form, f_two, f_carried, f_one, f_swap, f_address, f_compare, f_shift, f_times, f_wide, f_divide, f_byte, Lead, l_none, l_two, l_four, l_five, form_of, lead_of, AreLed, OneOne, OneTwo, OneThree, NoneTwo, TwoTwo, TwoThree, IsTwo, IsCarried, IsOne, IsSwap, IsLea, IsComparison, IsCounted, IsWideProduct, IsLongDivision, HasForm, IsFormed}
use Rattle.jz_one_flag_row.proofs.OneParts.{flag_of, pinned_is, one_pinned, one_five, one_four, one_two, one_count, one_lea}
use Rattle.jz_one_flag_row.proofs.ByForm.{by_form}

-- ---- numbers of results and operands
pub both_one_one : {P Q : Lval → Expr → Type 0} {R : Type 0} (to : List Lval) (es : List Expr) → ((d : Lval) (a : Expr) → P d a → Q d a → R) → OneOne P to es → OneOne Q to es → R
both_one_one [] es f h g = absurd h
both_one_one (d ∷ d2 ∷ ds) es f h g = absurd h
both_one_one (d ∷ []) [] f h g = absurd h
both_one_one (d ∷ []) (a ∷ b ∷ bs) f h g = absurd h
both_one_one (d ∷ []) (a ∷ []) f h g = f d a h g

pub both_one_two : {P Q : Lval → Expr → Expr → Type 0} {R : Type 0} (to : List Lval) (es : List Expr) → ((d : Lval) (a b : Expr) → P d a b → Q d a b → R) → OneTwo P to es → OneTwo Q to es → R
both_one_two [] es f h g = absurd h
both_one_two (d ∷ d2 ∷ ds) es f h g = absurd h
both_one_two (d ∷ []) [] f h g = absurd h
both_one_two (d ∷ []) (a ∷ []) f h g = absurd h
both_one_two (d ∷ []) (a ∷ b ∷ c ∷ cs) f h g = absurd h
both_one_two (d ∷ []) (a ∷ b ∷ []) f h g = f d a b h g

pub both_one_three : {P Q : Lval → Expr → Expr → Expr → Type 0} {R : Type 0} (to : List Lval) (es : List Expr) → ((d : Lval) (a b c : Expr) → P d a b c → Q d a b c → R) → OneThree P to es → OneThree Q to es → R
both_one_three [] es f h g = absurd h
both_one_three (d ∷ d2 ∷ ds) es f h g = absurd h
both_one_three (d ∷ []) [] f h g = absurd h
both_one_three (d ∷ []) (a ∷ []) f h g = absurd h
both_one_three (d ∷ []) (a ∷ b ∷ []) f h g = absurd h
both_one_three (d ∷ []) (a ∷ b ∷ c ∷ c2 ∷ cs) f h g = absurd h
both_one_three (d ∷ []) (a ∷ b ∷ c ∷ []) f h g = f d a b c h g

pub both_none_two : {P Q : Expr → Expr → Type 0} {R : Type 0} (to : List Lval) (es : List Expr) → ((a b : Expr) → P a b → Q a b → R) → NoneTwo P to es → NoneTwo Q to es → R
both_none_two (d ∷ ds) es f h g = absurd h
both_none_two [] [] f h g = absurd h
both_none_two [] (a ∷ []) f h g = absurd h
both_none_two [] (a ∷ b ∷ c ∷ cs) f h g = absurd h
both_none_two [] (a ∷ b ∷ []) f h g = f a b h g

pub both_two_two : {P Q : Lval → Lval → Expr → Expr → Type 0} {R : Type 0} (to : List Lval) (es : List Expr) → ((d e : Lval) (a b : Expr) → P d e a b → Q d e a b → R) → TwoTwo P to es → TwoTwo Q to es → R
both_two_two [] es f h g = absurd h
both_two_two (d ∷ []) es f h g = absurd h
both_two_two (d ∷ d2 ∷ d3 ∷ ds) es f h g = absurd h
both_two_two (d ∷ d2 ∷ []) [] f h g = absurd h
both_two_two (d ∷ d2 ∷ []) (a ∷ []) f h g = absurd h
both_two_two (d ∷ d2 ∷ []) (a ∷ b ∷ c ∷ cs) f h g = absurd h
both_two_two (d ∷ d2 ∷ []) (a ∷ b ∷ []) f h g = f d d2 a b h g

pub both_two_three : {P Q : Lval → Lval → Expr → Expr → Expr → Type 0} {R : Type 0} (to : List Lval) (es : List Expr) → ((d e : Lval) (a b c : Expr) → P d e a b c → Q d e a b c → R) → TwoThree P to es → TwoThree Q to es → R
both_two_three [] es f h g = absurd h
both_two_three (d ∷ []) es f h g = absurd h
both_two_three (d ∷ d2 ∷ d3 ∷ ds) es f h g = absurd h
both_two_three (d ∷ d2 ∷ []) [] f h g = absurd h
both_two_three (d ∷ d2 ∷ []) (a ∷ []) f h g = absurd h
both_two_three (d ∷ d2 ∷ []) (a ∷ b ∷ []) f h g = absurd h
both_two_three (d ∷ d2 ∷ []) (a ∷ b ∷ c ∷ c2 ∷ cs) f h g = absurd h
both_two_three (d ∷ d2 ∷ []) (a ∷ b ∷ c ∷ []) f h g = f d d2 a b c h g

-- ---- rows
var_one : (v w : Var) → expr.Var v ≡ expr.Var w → v ≡ w
var_one v w e = same_var v w (sym (out_var v) ∙ ap out-Expr e ∙ out_var w)

of_var : (m n : ℕ) → ◌≡◌ {A = Arg} (arg.Var m) (arg.Var n) → m ≡ n
of_var m n e = cc

module _ (home : Homes) (z : Size) (acts us : List Action) (items js : List Numbers) where
  abbrev pub Same : Type 0
  Same = (acts ≡ us) × (items ≡ js)

  same_two : (k : Alu) (s : Bool) (carry more : Option Pinned) (d : Lval) (a b : Expr) → carry ≡ more → IsTwo home z k s carry d a b acts items → IsTwo home z k s more d a b us js → Same
  same_two k s carry more d a b e h g =
      let e1 = one_arg home z a h.x g.x h.p g.p h.first g.first in
      let e2 = one_arg home z b h.y g.y h.q g.q h.second g.second in
      let e3 = one_dest home z d h.to g.to h.r g.r h.dest g.dest in (
        same_some acts us (sym h.code ∙ (λ i. two_code k s z (e3.0 i) (e1.0 i) (e2.0 i) (e i)) ∙ g.code),
        h.shown ∙ (λ i. two_shown s (e3.0 i) (e1.0 i) (e2.0 i) (e1.1 i) (e2.1 i)) ∙ sym g.shown,
      )

  same_carried : (k : Alu) (s : Bool) (d : Lval) (a b c : Expr) → IsCarried home z k s d a b c acts items → IsCarried home z k s d a b c us js → Same
  same_carried k s d a b c h g =
      let v = var_one h.flag g.flag (sym h.is_flag ∙ g.is_flag) in
      let n = flag_of h.carry.variable g.carry.variable (sym h.home_is ∙ ap (λ u. home (key_of (ref_of u))) v ∙ g.home_is) in
      let e = pinned_is h.carry g.carry n (h.span_is ∙ ap (λ u. (ref_of u).span) v ∙ sym g.span_is) in
      same_two k s (Some h.carry) (Some g.carry) d a b (ap Some e) h.row g.row

  same_one : (k : One) (d : Lval) (a : Expr) → IsOne home z k d a acts items → IsOne home z k d a us js → Same
  same_one k d a h g =
      let e1 = one_arg home z a h.x g.x h.p g.p h.operand g.operand in
      let e2 = one_dest home z d h.to g.to h.r g.r h.dest g.dest in (
        same_some acts us (sym h.code ∙ (λ i. one_code k z (e2.0 i) (e1.0 i)) ∙ g.code),
        h.shown ∙ (λ i. one_shown (e2.0 i) (e1.0 i) (e1.1 i)) ∙ sym g.shown,
      )

  same_swap : (d : Lval) (a : Expr) → IsSwap home z d a acts items → IsSwap home z d a us js → Same
  same_swap d a h g =
      let e1 = one_arg home z a h.x g.x h.p g.p h.operand g.operand in
      let n = of_var h.v g.v (one_dest home z d (arg.Var h.v) (arg.Var g.v) silent silent h.dest g.dest).0 in (
        same_some acts us (sym h.code ∙ (λ i. swap_code z (n i) (e1.0 i)) ∙ g.code),
        h.shown ∙ (λ i. one_shown (arg.Var (n i)) (e1.0 i) (e1.1 i)) ∙ sym g.shown,
      )

  same_lea : (d : Lval) (a : Expr) → IsLea home d a acts items → IsLea home d a us js → Same
  same_lea d a h g =
      let m = one_lea h.sum g.sum h.found g.found (one_sum home a h.sum g.sum h.is_sum g.is_sum) h.is_address g.is_address in
      let n = of_var h.v g.v (one_dest home S64 d (arg.Var h.v) (arg.Var g.v) silent silent h.dest g.dest).0 in
      (h.code ∙ (λ i. action.Lea (n i) (m i) ∷ []) ∙ sym g.code, h.shown ∙ sym g.shown)

  same_comparison : (k : Alu) (a b : Expr) → IsComparison home z k a b acts items → IsComparison home z k a b us js → Same
  same_comparison k a b h g =
      let e1 = one_arg home z a h.x g.x h.p g.p h.first g.first in
      let e2 = one_arg home z b h.y g.y h.q g.q h.second g.second in (
        h.code ∙ (λ i. action.Alu k z (e1.0 i) (e2.0 i) None ∷ []) ∙ sym g.code,
        h.shown ∙ (λ i. These (numbers_from (e1.1 i) 0 ++ numbers_from (e2.1 i) (count_of (e1.1 i))) ∷ []) ∙ sym g.shown,
      )

  same_counted : (k : Shift) (d : Lval) (a b : Expr) → IsCounted home z k d a b acts items → IsCounted home z k d a b us js → Same
  same_counted k d a b h g =
      let e1 = one_arg home z a h.x g.x h.p g.p h.operand g.operand in
      let e2 = one_dest home z d h.to g.to h.r g.r h.dest g.dest in
      let n = one_count home z b h.places g.places h.number g.number h.count g.count in (
        same_some acts us (sym h.code ∙ (λ i. count_code k z (e2.0 i) (e1.0 i) (n.0 i) (n.1 i)) ∙ g.code),
        h.shown ∙ (λ i. one_shown (e2.0 i) (e1.0 i) (e1.1 i)) ∙ sym g.shown,
      )

  pub same_wide : (hi lo : Lval) (a b : Expr) → IsWideProduct home z hi lo a b acts items → IsWideProduct home z hi lo a b us js → Same
  same_wide hi lo a b h g =
      let k = one_pinned home z hi h.upper g.upper h.high g.high in
      let l = one_pinned home z lo h.lower g.lower h.low g.low in
      let e1 = one_arg home z a h.x g.x h.p g.p h.first g.first in
      let e2 = one_arg home z b h.y g.y h.q g.q h.second g.second in (
        same_some acts us (sym h.code ∙ (λ i. wide_code z (k i) (l i) (e1.0 i) (e2.0 i)) ∙ g.code),
        h.shown ∙ (λ i. wide_shown (l i) (e1.0 i) (e2.0 i) (e1.1 i) (e2.1 i)) ∙ sym g.shown,
      )

  same_division : (q r : Lval) (hi lo c : Expr) → IsLongDivision home z q r hi lo c acts items → IsLongDivision home z q r hi lo c us js → Same
  same_division q r hi lo c h g =
      let k = one_pinned home z q h.quotient g.quotient h.first_to g.first_to in
      let l = one_pinned home z r h.remainder g.remainder h.second_to g.second_to in
      let e1 = one_arg home z hi h.x g.x h.p g.p h.high g.high in
      let e2 = one_arg home z lo h.y g.y h.s g.s h.low g.low in
      let e3 = one_arg home z c h.w g.w h.u g.u h.by g.by in (
        h.code ∙ (λ i. divide_two_code z (k i) (l i) (e1.0 i) (e2.0 i) (e3.0 i)) ∙ sym g.code,
        h.shown ∙ (λ i. divide_two_shown (e1.1 i) (e2.1 i) (e3.1 i)) ∙ sym g.shown,
      )

  pub one_form : (f : Form) (rest : List Lval) (es : List Expr) → HasForm home z f rest es acts items → HasForm home z f rest es us js → Same
  one_form (f_two k s) rest es h g = both_one_two rest es (λ d a b u v. same_two k s None None d a b refl u v) h g
  one_form (f_carried k s) rest es h g = both_one_three rest es (λ d a b c u v. same_carried k s d a b c u v) h g
  one_form (f_one k) rest es h g = both_one_one rest es (λ d a u v. same_one k d a u v) h g
  one_form f_swap rest es h g = both_one_one rest es (λ d a u v. same_swap d a u v) h g
  one_form f_address rest es h g = both_one_one rest es (λ d a u v. same_lea d a u v) h g
  one_form (f_compare k) rest es h g = both_none_two rest es (λ a b u v. same_comparison k a b u v) h g
  one_form (f_shift k) rest es h g = both_one_two rest es (λ d a b u v. same_counted k d a b u v) h g
  one_form f_times rest es h g = both_one_two rest es (λ d a b u v. one_row home z d (expr.Bin op.Mul a b (left_span d)) acts us items js u v) h g
  one_form f_wide rest es h g = both_two_two rest es (λ d e a b u v. same_wide d e a b u v) h g
  one_form f_divide rest es h g = both_two_three rest es (λ q r hi lo c u v. same_division q r hi lo c u v) h g
  one_form f_byte rest es h g = absurd h

pub one_lead : (home : Homes) (l : Lead) (to : List Lval) (fl fu : Flags) (rest more : List Lval) → AreLed home l to fl rest → AreLed home l to fu more → (fl ≡ fu) × (rest ≡ more)
one_lead home l_none to fl fu rest more h g = (h.0 ∙ sym g.0, h.1 ∙ sym g.1)
one_lead home l_two to fl fu rest more h g = one_two home to fl fu rest more h g
one_lead home l_four to fl fu rest more h g = one_four home to fl fu rest more h g
one_lead home l_five to fl fu rest more h g = one_five home to fl fu rest more h g

pub record SameInstruction (fl fu : Flags) (acts us : List Action) (items js : List Numbers) : Type 0 where
  pub flags : fl ≡ fu
  pub actions : acts ≡ us
  pub shown : items ≡ js

pub one_formed : (home : Homes) (z : Size) (i : Intrinsic) (to : List Lval) (es : List Expr) (fl fu : Flags) (acts us : List Action) (items js : List Numbers) → IsFormed home z i to es fl acts items → IsFormed home z i to es fu us js → SameInstruction fl fu acts us items js
one_formed home z i to es fl fu acts us items js h g =
    let l = one_lead home (lead_of i) to fl fu h.rest g.rest h.led g.led in
    let r = one_form home z acts us items js (form_of i) h.rest es h.row (subst (λ rest. HasForm home z (form_of i) rest es us js) (sym l.1) g.row) in
    record { flags = l.0; actions = r.0; shown = r.1 }

pub one_instruction : (home : Homes) (z : Size) (i : Intrinsic) (to : List Lval) (es : List Expr) (fl fu : Flags) (acts us : List Action) (items js : List Numbers) → HasInstruction home z i to es fl acts items → HasInstruction home z i to es fu us js → SameInstruction fl fu acts us items js
one_instruction home z i to es fl fu acts us items js h g = one_formed home z i to es fl fu acts us items js (by_form home z i to es fl acts items h) (by_form home z i to es fu us js g)

pub no_byte : (home : Homes) (z : Size) (i : Intrinsic) (to : List Lval) (es : List Expr) (fl : Flags) (acts : List Action) (items : List Numbers) → i ≡ name.Setcc → HasInstruction home z i to es fl acts items → ⊥
no_byte home z i to es fl acts items e h =
    let f = by_form home z i to es fl acts items h in
    subst (λ j. HasForm home z (form_of j) f.rest es acts items) e f.row
