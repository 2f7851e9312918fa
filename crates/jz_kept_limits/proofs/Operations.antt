-- An operation of which each part passes what the part in whose place it stands passes.
use Rattle.std.proofs.Common.{◌≡◌, Bool, true, false, List, [], Option, Some, None, refl, sym, ap, ◌∙◌, subst, if◌then◌else◌}
use Rattle.std.specs.Prelude.{◌&&◌, is_some, ℕ}
use Rattle.std.specs.Option.{option_or}
use Rattle.jz_tree.specs.Span.{Span}
use Rattle.jz_tree.specs.Spellings.{spelled}
use Rattle.jz_tree.specs.Operators.{carries}
use Rattle.jz_tree.specs.declared.expr.BinOp.{BinOp}
use Rattle.jz_tree.specs.declared.expr.Expr.{Expr}
use Rattle.jz_tree.specs.declared.expr.Expr.TheOpen.{Expr-F}
use Rattle.jz_tree.specs.declared.expr.Expr.TheViews.{out-Expr, out-Var}
use Rattle.jz_tree.specs.declared.expr.Var.{Var}
use Rattle.jz_tree.specs.declared.stmt.Lval.{Lval}
use Rattle.jz_integers.specs.Integers.{KnownNumbers, inline_value, number, joined}
use Rattle.jz_integers.specs.declared.constant.Constant.{Constant}
use Rattle.jz_meaning.specs.Assignments.{Layer, is_flag, left_sizes, last_left}
use Rattle.jz_meaning.specs.Statements.{assign, instruction}
use Rattle.jz_meaning.specs.Values.{own_size}
use Rattle.jz_limits.specs.declared.limit.Limit.{Limit}
use Rattle.jz_limits.specs.declared.limit.Limit.TheVariants.{InlineWidth}
use Rattle.jz_limits.specs.declared.operands.Role.TheVariants as role
use Rattle.jz_limits.specs.Values.{inline_target}
use Rattle.jz_limits.specs.Asked.{told, unless, in_kinds, beside, to_register, is_free, value_role, roles_of, size_by, asked_if, left_parts, operand_parts, value_as, value_parts, set_value, assigned_parts, asked}
use Rattle.jz_limits.specs.InnerSets.{updated_by, updated_value}
use Rattle.jz_limits.specs.InnerLooked.{first}
use Rattle.jz_limits.proofs.Sides.{first_both}
use Rattle.jz_limits.proofs.Setting.{updated_set}
use Rattle.jz_kept_limits.proofs.Passed.{neither, both}
use Rattle.jz_kept_limits.proofs.Firsts.{AreClean, clean_none, clean_from, clean_to, clean_parts, clean_both}
use Rattle.jz_kept_limits.proofs.Turned.{asking, Turned, role_clean, value_clean, free_kept, LeftTurned, InStep, operands_clean, lefts_clean, sizes_kept, last_kept, target_kept, target_unknown, size_by_kept}

-- no number comes of what is not known
updated_none : (e : KnownNumbers) (o : BinOp) (x : Expr) (y : Layer) → updated_by e o None x y ≡ None
updated_none e o x (Expr-F.Num n s) = refl
updated_none e o x (Expr-F.Expr::Bool b s) = refl
updated_none e o x (Expr-F.Var v) = refl
updated_none e o x (Expr-F.Cell v i) = refl
updated_none e o x (Expr-F.Load a) = refl
updated_none e o x (Expr-F.Neg a s) = refl
updated_none e o x (Expr-F.Not a s) = refl
updated_none e o x (Expr-F.Cast z g a s) = refl
updated_none e o x (Expr-F.Bin p a c s) = by_carry (carries o p && is_flag c)
  where
    by_carry : (b : Bool) → (if b then joined p (joined o None (inline_value e a)) (inline_value e c) else joined o None (inline_value e x)) ≡ None
    by_carry true = refl
    by_carry false = refl

wide_none : (o : Option Constant) (l : Limit) → o ≡ None → first (unless (is_some o) l) ≡ None → ⊥
wide_none None l q h = absurd cc
wide_none (Some c) l q h = absurd cc

-- e: the numbers with which the one is asked; f: those with which the other is
module _ (e f : KnownNumbers) where
  abbrev pub IfTurned : Option Expr → Option Expr → Type 0
  IfTurned None None = Unit {0}
  IfTurned (Some c) (Some d) = Turned e f c d
  IfTurned None (Some d) = ⊥
  IfTurned (Some c) None = ⊥

  condition_clean : (c d : Option Expr) → IfTurned c d → AreClean (asked_if e role.Test None c) → AreClean (asked_if f role.Test None d)
  condition_clean None None h p = clean_none
  condition_clean None (Some d) h p = absurd h
  condition_clean (Some c) None h p = absurd h
  condition_clean (Some c) (Some d) h p = role_clean e f role.Test None c d h p

  condition_bare : (c d : Option Expr) → IfTurned c d → first (asked_if e role.Test None c).widths ≡ None → first (asked_if e role.Test None c).ranges ≡ None
      → (first (asked_if f role.Test None d).widths ≡ None) × (first (asked_if f role.Test None d).ranges ≡ None)
  condition_bare None None h w r = (refl, refl)
  condition_bare None (Some d) h w r = absurd h
  condition_bare (Some c) None h w r = absurd h
  condition_bare (Some c) (Some d) h w r = let q = h.passes (asking None) in (q.width w, q.range r)

  module _ (to gs : List Lval) (step : InStep (LeftTurned e f) to gs) (x y : Expr) (t : Turned e f x y) (c d : Option Expr) (u : IfTurned c d) where
    right_clean : (o : Option BinOp) → AreClean (value_parts e (last_left to) (left_sizes to) o x) → AreClean (value_parts f (last_left gs) (left_sizes gs) o y)
    right_clean o p =
        let same : option_or (left_sizes gs) (own_size y) ≡ option_or (left_sizes to) (own_size x) = (λ j. option_or (sizes_kept e f to gs step j) (t.own j)) in
        subst (λ w. AreClean (value_as f (is_free (to_register (last_left gs)) o y) (value_role o) w y)) (sym same)
        (value_clean e f (is_free (to_register (last_left to)) o x) (is_free (to_register (last_left gs)) o y) (value_role o) (option_or (left_sizes to) (own_size x)) x y t
        (free_kept e f o (to_register (last_left to)) (to_register (last_left gs)) x y (last_kept e f to gs step) (t.passes (asking None)).inline) p)

    -- nothing that sets an inline variable is asked for fields
    set_without : (v : Var) (o : Option BinOp) → e (out-Var v).name (out-Var v).copy ≡ None → AreClean (assigned_parts e (Some v) to o x c) → AreClean (assigned_parts f (Some v) gs o y d)
    set_without v None w p =
        let q = t.passes (asking None) in
        let k = asked_if e role.Test None c in
        let j = asked_if f role.Test None d in
        let a = neither (first ((told e x).widths None)) (first k.widths) (sym (first_both ((told e x).widths None) k.widths) ∙ p.width) in
        let b = neither (first (told e x).ranges) (first k.ranges) (sym (first_both (told e x).ranges k.ranges) ∙ p.range) in
        let m = condition_bare c d u a.1 b.1 in
        record {
          width = first_both ((told f y).widths None) j.widths ∙ both (first ((told f y).widths None)) (first j.widths) (q.width a.0) m.0;
          range = first_both (told f y).ranges j.ranges ∙ both (first (told f y).ranges) (first j.ranges) (q.range b.0) m.1;
          field = refl;
        }
    set_without v (Some o) w p =
        let k = asked_if e role.Test None c in
        let s = unless (is_some (set_value e v (Some o) x)) (InlineWidth (out-Var v).span) in
        let a = neither (first s) (first k.widths) (sym (first_both s k.widths) ∙ p.width) in
        absurd
        (wide_none (set_value e v (Some o) x) (InlineWidth (out-Var v).span)
        (updated_set e v o x ∙ (ap (λ n. updated_value e o (number n) x) w ∙ updated_none e o x (out-Expr x))) a.0)

    assigned_clean : (target : Option Var) (o : Option BinOp) → inline_target to ≡ target → AreClean (assigned_parts e target to o x c) → AreClean (assigned_parts f target gs o y d)
    assigned_clean None o q p =
        let a = clean_parts (left_parts e to) (beside (value_parts e (last_left to) (left_sizes to) o x) (asked_if e role.Test None c)) p in
        let b = clean_parts (value_parts e (last_left to) (left_sizes to) o x) (asked_if e role.Test None c) a.1 in
        clean_both (left_parts f gs) (beside (value_parts f (last_left gs) (left_sizes gs) o y) (asked_if f role.Test None d)) (lefts_clean e f to gs step a.0)
        (clean_both (value_parts f (last_left gs) (left_sizes gs) o y) (asked_if f role.Test None d) (right_clean o b.0) (condition_clean c d u b.1))
    assigned_clean (Some v) o q p = set_without v o (target_unknown e f to gs step v q) p

    pub assignment_within : (o : Option BinOp) (at there : Span) → asked e (assign to o x c at) ≡ [] → asked f (assign gs o y d there) ≡ []
    assignment_within o at there p =
        subst (λ w. in_kinds (assigned_parts f w gs o y d) ≡ []) (sym (target_kept e f to gs step))
        (clean_to (assigned_parts f (inline_target to) gs o y d)
        (assigned_clean (inline_target to) o refl (clean_from (assigned_parts e (inline_target to) to o x c) p)))

  pub instruction_within : (to gs : List Lval) → InStep (LeftTurned e f) to gs → (xs ys : List Expr) → InStep (Turned e f) xs ys → (n : List ℕ) (at there : Span) → asked e (instruction to n xs at) ≡ [] → asked f (instruction gs n ys there) ≡ []
  instruction_within to gs step xs ys all n at there p =
      let r = roles_of (spelled n) in
      let q = clean_parts (left_parts e to) (operand_parts e r (size_by (spelled n) to xs) xs) (clean_from (beside (left_parts e to) (operand_parts e r (size_by (spelled n) to xs) xs)) p) in
      clean_to (beside (left_parts f gs) (operand_parts f r (size_by (spelled n) gs ys) ys))
      (clean_both (left_parts f gs) (operand_parts f r (size_by (spelled n) gs ys) ys) (lefts_clean e f to gs step q.0)
      (subst (λ z. AreClean (operand_parts f r z ys)) (sym (size_by_kept e f to gs xs ys step all (spelled n))) (operands_clean e f r (size_by (spelled n) to xs) xs ys all q.1)))
