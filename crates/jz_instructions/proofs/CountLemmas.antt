-- Shifts and rotations.
use Rattle.std.proofs.Common.{◌≡◌, ℕ, ◌<◌, false, List, [], ◌∷◌, ◌++◌, Option, Some, None, refl, sym, ap, ◌∙◌, subst, ℤ, pos}
use Rattle.std.specs.Prelude.{All}
use Rattle.jz_words.specs.declared.size.Size.{Size}
use Rattle.jz_words.specs.declared.size.Size.TheVariants.{S8}
use Rattle.jz_words.specs.Sizes.{bits_of}
use Rattle.x64_insn.specs.declared.types.Shift.{Shift}
use Rattle.jz_tree.specs.Span.{Span}
use Rattle.jz_tree.specs.declared.expr.BinOp.{BinOp}
use Rattle.jz_tree.specs.declared.expr.BinOp.TheVariants as op
use Rattle.jz_tree.specs.declared.expr.Expr.{Expr}
use Rattle.jz_tree.specs.declared.expr.Expr.TheVariants as expr
use Rattle.jz_tree.specs.declared.expr.Expr.TheOpen.{Expr-F}
use Rattle.jz_tree.specs.declared.expr.Expr.TheViews.{out-Expr}
use Rattle.jz_tree.specs.declared.expr.Var.{Var}
use Rattle.jz_tree.specs.declared.stmt.Lval.{Lval}
use Rattle.jz_meaning.specs.Assignments.{Layer}
use Rattle.jz_meaning.specs.Values.{key_of, ref_of}
use Rattle.jz_operations.specs.declared.operation.Pinned.{Pinned}
use Rattle.jz_operations.specs.declared.operation.Arg.{Arg}
use Rattle.jz_operations.specs.declared.operation.Arg.TheVariants as arg
use Rattle.jz_operations.specs.declared.operation.Action.{Action}
use Rattle.jz_operations.specs.declared.operation.Action.TheVariants as action
use Rattle.jz_encodable.specs.Encodable.{CanEncode}
use Rattle.jz_change.specs.declared.change.Numbers.{Numbers}
use Rattle.jz_homes.specs.Homes.{Homes, in_register}
use Rattle.jz_homes.specs.Operands.{IsArg, IsDest}
use Rattle.jz_row_operations.specs.Rows.{mask_of}
use Rattle.jz_row_operations.specs.Table.{nothing, brought, behind}
use Rattle.jz_row_operations.specs.Lowering.{two_shown, one_shown}
use Rattle.jz_one_row.proofs.Outs.{out_bin, out_num, out_var}
use Rattle.jz_one_row.proofs.Operands.{one_arg, one_dest}
use Rattle.jz_flag_rows.specs.Instructions.{IsCount, by_number, by_variable, count_code}
use Rattle.jz_one_flag_row.specs.Forms.{IsCounted}
use Rattle.jz_one_flag_row.proofs.OneParts.{one_count}
use Rattle.jz_operands.specs.declared.operands.Operand.{Operand}
use Rattle.jz_operands.specs.TableHomes.{leaks_of}
use Rattle.jz_operands.specs.Refusals.{FindsOr, HasFields, NeverArg, NeverDest}
use Rattle.jz_rows.specs.Rows.{actions_in, items_in, item_of}
use Rattle.jz_rows.specs.Found.{IsBrought}
use Rattle.jz_rows.specs.declared.bringing.Brought.{Brought}
use Rattle.jz_rows.proofs.FieldLemmas.{shift_fields, shift_by_fields, one_operand}
use Rattle.jz_pinned_rows.specs.declared.row.Acts.{Acts}
use Rattle.jz_pinned_rows.specs.Rows.{actions_of, items_of}
use Rattle.jz_instructions.specs.declared.counting.Count.{Count}
use Rattle.jz_instructions.specs.declared.counting.Count.TheVariants as count
use Rattle.jz_instructions.specs.InnerRows.{places_in, number_in, NeverCount, second_of, action_of}

-- ---- counts
module _ (home : Homes) (z : Size) where
  count_forms : (e : Expr) (k : Option Pinned) (n : ℕ) → IsCount home z e k n
      → ((m : ℕ) (at : Span) → m < bits_of z → e ≡ expr.Num (pos m) at → ⊥)
      → ((v : Var) (j : Pinned) (there here : Span) → home (key_of (ref_of v)) ≡ Some (in_register j.variable S8) → e ≡ expr.Bin op.And (expr.Var v) (expr.Num (pos (mask_of z)) there) here → ⊥) → ⊥
  count_forms e k n (by_number m at less) f g = f m at less refl
  count_forms e k n (by_variable v j there here h s) f g = g v j there here h refl

  num_layer : (i j : ℤ) (p q : Span) → expr.Num i p ≡ expr.Num j q → i ≡ j
  num_layer i j p q e = let s : ◌≡◌ {A = Layer} (Expr-F.Num i p) (Expr-F.Num j q) = sym (out_num i p) ∙ ap out-Expr e ∙ out_num j q in cc

  num_bin : (i : ℤ) (p : Span) (o : BinOp) (a b : Expr) (q : Span) → expr.Num i p ≡ expr.Bin o a b q → ⊥
  num_bin i p o a b q e = let s : ◌≡◌ {A = Layer} (Expr-F.Num i p) (Expr-F.Bin o a b q) = sym (out_num i p) ∙ ap out-Expr e ∙ out_bin o a b q in absurd cc

  bin_layer : (o p : BinOp) (a b c d : Expr) (r s : Span) → expr.Bin o a b r ≡ expr.Bin p c d s → ◌≡◌ {A = Layer} (Expr-F.Bin o a b r) (Expr-F.Bin p c d s)
  bin_layer o p a b c d r s e = sym (out_bin o a b r) ∙ ap out-Expr e ∙ out_bin p c d s

  bin_op : (o p : BinOp) (a b c d : Expr) (r s : Span) → expr.Bin o a b r ≡ expr.Bin p c d s → o ≡ p
  bin_op o p a b c d r s e = let f = bin_layer o p a b c d r s e in cc

  bin_left : (o p : BinOp) (a b c d : Expr) (r s : Span) → expr.Bin o a b r ≡ expr.Bin p c d s → a ≡ c
  bin_left o p a b c d r s e = let f = bin_layer o p a b c d r s e in cc

  bin_right : (o p : BinOp) (a b c d : Expr) (r s : Span) → expr.Bin o a b r ≡ expr.Bin p c d s → b ≡ d
  bin_right o p a b c d r s e = let f = bin_layer o p a b c d r s e in cc

  var_same : (v w : Var) → expr.Var v ≡ expr.Var w → v ≡ w
  var_same v w e = let s : ◌≡◌ {A = Layer} (Expr-F.Var v) (Expr-F.Var w) = sym (out_var v) ∙ ap out-Expr e ∙ out_var w in cc

  pub no_number_count : (i : ℤ) (at : Span) → ((n : ℕ) → i ≡ pos n → n < bits_of z → ⊥) → NeverCount home z (expr.Num i at)
  no_number_count i at none k n h =
      count_forms (expr.Num i at) k n h (λ m here less e. none m (num_layer i (pos m) at here e) less) (λ v j there here f e. num_bin i at op.And (expr.Var v) (expr.Num (pos (mask_of z)) there) here e)

  pub number_count : (i : ℤ) (n : ℕ) (at : Span) → i ≡ pos n → n < bits_of z → IsCount home z (expr.Num i at) None n
  number_count i n at e less = subst (λ j. IsCount home z (expr.Num j at) None n) (sym e) (by_number n at less)

  -- a variable with a mask
  pub no_masked : (u m : Expr) (here : Span) → ((v : Var) (j : Pinned) (there : Span) → home (key_of (ref_of v)) ≡ Some (in_register j.variable S8) → u ≡ expr.Var v → m ≡ expr.Num (pos (mask_of z)) there → ⊥) → NeverCount home z (expr.Bin op.And u m here)
  no_masked u m here none k n h =
      count_forms (expr.Bin op.And u m here) k n h (λ i at less e. num_bin (pos i) at op.And u m here (sym e))
      (λ v j there at f e.
      let mask = expr.Num (pos (mask_of z)) there in
      none v j there f (bin_left op.And op.And u m (expr.Var v) mask here at e) (bin_right op.And op.And u m (expr.Var v) mask here at e))

  pub no_variable_count : (v : Var) (there here : Span) → ((n : ℕ) → home (key_of (ref_of v)) ≡ Some (in_register n S8) → ⊥) → NeverCount home z (expr.Bin op.And (expr.Var v) (expr.Num (pos (mask_of z)) there) here)
  no_variable_count v there here none =
      no_masked (expr.Var v) (expr.Num (pos (mask_of z)) there) here
      (λ w j at f e g. none j.variable (subst (λ u. home (key_of (ref_of u)) ≡ Some (in_register j.variable S8)) (sym (var_same v w e)) f))

  pub no_mask : (u m : Expr) (i : ℤ) (there here : Span) → m ≡ expr.Num i there → (i ≡ pos (mask_of z) → ⊥) → NeverCount home z (expr.Bin op.And u m here)
  no_mask u m i there here is none = no_masked u m here (λ v j at f e g. none (num_layer i (pos (mask_of z)) there at (sym is ∙ g)))

  pub no_mask_number : (u m : Expr) (here : Span) → ((i : ℤ) (at : Span) → m ≡ expr.Num i at → ⊥) → NeverCount home z (expr.Bin op.And u m here)
  no_mask_number u m here none = no_masked u m here (λ v j at f e g. none (pos (mask_of z)) at g)

  pub no_masked_variable : (u m : Expr) (here : Span) → ((v : Var) → u ≡ expr.Var v → ⊥) → NeverCount home z (expr.Bin op.And u m here)
  no_masked_variable u m here none = no_masked u m here (λ v j at f e g. none v e)

  -- ---- by the count's form
  abbrev pub FindsCount : Expr → Option Count → Type 0
  FindsCount e o = FindsOr o (λ n. IsCount home z e (places_in n) (number_in n)) (NeverCount home z e)

  pub number_finds : (e : Expr) (i j : ℤ) (at : Span) (o : Option Count) → e ≡ expr.Num i at → j ≡ i → FindsCount (expr.Num j at) o → FindsCount e o
  number_finds e i j at o is same h = subst (λ u. FindsCount u o) (ap (λ k. expr.Num k at) same ∙ sym is) h

  pub masked_finds : (e : Expr) (b : BinOp) (u m u2 m2 : Expr) (here : Span) (o : Option Count) → e ≡ expr.Bin b u m here → b ≡ op.And → u2 ≡ u → m2 ≡ m → FindsCount (expr.Bin op.And u2 m2 here) o → FindsCount e o
  masked_finds e b u m u2 m2 here o is both first second h =
      subst (λ x. FindsCount x o) (ap (λ x. expr.Bin op.And x m2 here) first ∙ ap (λ x. expr.Bin op.And u x here) second ∙ ap (λ x. expr.Bin x u m here) (sym both) ∙ sym is) h

  pub variable_finds : (u m : Expr) (v : Var) (i : ℤ) (there here : Span) (o : Option Count) → u ≡ expr.Var v → m ≡ expr.Num i there → i ≡ pos (mask_of z) → FindsCount (expr.Bin op.And (expr.Var v) (expr.Num (pos (mask_of z)) there) here) o → FindsCount (expr.Bin op.And u m here) o
  variable_finds u m v i there here o first second same h =
      subst (λ x. FindsCount x o)
      (ap (λ x. expr.Bin op.And x (expr.Num (pos (mask_of z)) there) here) (sym first) ∙ ap (λ j. expr.Bin op.And u (expr.Num j there) here) (sym same) ∙ ap (λ x. expr.Bin op.And u x here) (sym second)) h

  pub no_other_op : (e : Expr) (b : BinOp) (u m : Expr) (here : Span) → e ≡ expr.Bin b u m here → (b ≡ op.And → ⊥) → NeverCount home z e
  no_other_op e b u m here is none k n h =
      count_forms e k n h (λ i at less f. num_bin (pos i) at b u m here (sym f ∙ is))
      (λ v j there at reg f. none (bin_op b op.And u m (expr.Var v) (expr.Num (pos (mask_of z)) there) here at (sym is ∙ f)))

  pub no_count : (e : Expr) → ((i : ℤ) (at : Span) → e ≡ expr.Num i at → ⊥) → ((b : BinOp) (u m : Expr) (here : Span) → e ≡ expr.Bin b u m here → ⊥) → NeverCount home z e
  no_count e f g k n h = count_forms e k n h (λ i at less is. f (pos i) at is) (λ v j there at reg is. g op.And (expr.Var v) (expr.Num (pos (mask_of z)) there) at is)

-- ---- the row
no_list : (acts : List Action) → ◌≡◌ {A = Option (List Action)} None (Some acts) → ⊥
no_list acts e = absurd cc

code_of : (k : Shift) (z : Size) (d a : Arg) (n : Count) → count_code k z d a (places_in n) (number_in n) ≡ behind (λ u. action_of k z d n) (brought false z d a (second_of n).arg)
code_of k z d a (count.Number n) = refl
code_of k z d a (count.Variable p) = refl

count_fields : (k : Shift) (z : Size) (d a : Arg) (p : Option Pinned) (n : ℕ) (acts : List Action) → count_code k z d a p n ≡ Some acts → All CanEncode acts → HasFields d × HasFields a
count_fields k z d a None n acts e can = one_operand z d a nothing (action.Shift k z d n) acts (shift_fields k z d n) e can
count_fields k z d a (Some p) n acts e can = one_operand z d a (arg.Var p.variable) (action.ShiftBy k z d p) acts (shift_by_fields k z d p) e can

module _ (home : Homes) (z : Size) (k : Shift) (d : Lval) (a b : Expr) where
  abbrev Never : Type 0
  Never = (acts : List Action) (items : List Numbers) → IsCounted home z k d a b acts items → All CanEncode acts → ⊥

  pub counted_count : NeverCount home z b → Never
  counted_count none acts items h can = none h.places h.number h.count

  pub counted_source : NeverArg home z a → Never
  counted_source none acts items h can = none h.x h.p h.operand (count_fields k z h.to h.x h.places h.number acts h.code can).1

  pub counted_target : NeverDest home z d → Never
  counted_target none acts items h can = none h.to h.r h.dest (count_fields k z h.to h.x h.places h.number acts h.code can).0

  module _ (n : Count) (x y to : Operand) (is : y ≡ second_of n) (places : IsCount home z b (places_in n) (number_in n)) (found : IsArg home z a x.arg (leaks_of x.leaks)) (dest : IsDest home z d to.arg (leaks_of to.leaks)) where
    pub counted_brought : brought false z to.arg x.arg y.arg ≡ None → Never
    counted_brought none acts items h can =
        let m = one_arg home z a x.arg h.x (leaks_of x.leaks) h.p found h.operand in
        let e = one_dest home z d to.arg h.to (leaks_of to.leaks) h.r dest h.dest in
        let c = one_count home z b (places_in n) h.places (number_in n) h.number places h.count in
        no_list acts
        (ap (behind (λ u. action_of k z to.arg n)) (sym none ∙ (λ i. brought false z to.arg x.arg (is i).arg)) ∙ sym (code_of k z to.arg x.arg n)
        ∙ (λ i. count_code k z (e.0 i) (m.0 i) (c.0 i) (c.1 i)) ∙ h.code)

    silent_second : (c : Count) → two_shown false to.arg x.arg (second_of c).arg (leaks_of x.leaks) (leaks_of (second_of c).leaks) ≡ one_shown to.arg x.arg (leaks_of x.leaks)
    silent_second (count.Number i) = refl
    silent_second (count.Variable p) = refl

    pub counted_is : (w : Brought) (g : Action) (r : Acts) → g ≡ action_of k z to.arg n → IsBrought false z to.arg x y w → actions_of r ≡ actions_in w.before ++ (g ∷ []) → items_of r ≡ items_in w.before ++ (item_of w.shown ∷ []) → IsCounted home z k d a b (actions_of r) (items_of r)
    counted_is w g r act o acts items =
        let h = subst (λ u. IsBrought false z to.arg x u w) is o in
        record {
          x = x.arg;
          to = to.arg;
          places = places_in n;
          number = number_in n;
          p = leaks_of x.leaks;
          r = leaks_of to.leaks;
          operand = found;
          count = places;
          dest = dest;
          code = code_of k z to.arg x.arg n ∙ ap (behind (λ u. action_of k z to.arg n)) h.actions ∙ ap (λ f. Some (actions_in w.before ++ (f ∷ []))) (sym act) ∙ ap Some (sym acts);
          shown = items ∙ h.items ∙ silent_second n;
        }
