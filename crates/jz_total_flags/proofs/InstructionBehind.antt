-- What is behind the flags of an intrinsic that matches has the actions of its form.
use Rattle.std.proofs.Common.{◌≡◌, Bool, true, false, ◌&&◌, ◌||◌, List, [], ◌∷◌, Option, Some, None, refl, sym, ap, ◌∙◌}
use Rattle.std.specs.Prelude.{All}
use Rattle.std.specs.Option.{option_or}
use Rattle.std.proofs.lemmas.Bool.{and_parts}
use Rattle.std.proofs.lemmas.List.Elements.{All-head, All-tail}
use Rattle.jz_words.specs.declared.size.Size.{Size}
use Rattle.x64_insn.specs.declared.types.Alu.{Alu}
use Rattle.x64_insn.specs.declared.types.One.{One}
use Rattle.x64_insn.specs.declared.types.Shift.{Shift}
use Rattle.x64_insn.specs.Chosen.{is_test}
use Rattle.jz_tree.specs.declared.intrinsic.Intrinsic.{Intrinsic}
use Rattle.jz_tree.specs.declared.intrinsic.Intrinsic.TheVariants as name
use Rattle.jz_tree.specs.declared.intrinsic.Instance.{Instance}
use Rattle.jz_tree.specs.declared.expr.Expr.{Expr}
use Rattle.jz_tree.specs.declared.stmt.Lval.{Lval}
use Rattle.jz_judgement.specs.Places as place
use Rattle.jz_judgement.specs.Lefts.{Holds}
use Rattle.jz_select.specs.declared.class.Class.{Class}
use Rattle.jz_select.specs.declared.class.Operand.{Operand}
use Rattle.jz_select.specs.Operands.{class_of, dest_of, operand_of}
use Rattle.jz_select.specs.Rows.{is_r, is_rmi, is_flag, is_long, class_size, changes, computes, shifts_inline, shifts_masked, one_fits, two_fits, three_fits}
use Rattle.jz_select.specs.Shapes.{whichever, one_shape, two_shape, three_shape}
use Rattle.jz_row_laws.proofs.Copied.{Matches, no_free}
use Rattle.jz_stuck_runs.proofs.RowSizes.{named_fits}
use Rattle.jz_limits.specs.Asked.{left_access}
use Rattle.jz_limits.specs.InnerLooked.{count_field}
use Rattle.jz_meaning.specs.Assignments.{left_span}
use Rattle.jz_operations.specs.Rows.{Frame}
use Rattle.jz_operations.specs.declared.operation.Action.{Action}
use Rattle.jz_change.specs.declared.change.Numbers.{Numbers}
use Rattle.jz_homes.specs.Homes.{Homes, IsHoming}
use Rattle.jz_one_flag_row.specs.Forms.{HasForm, f_two, f_carried, f_one, f_swap, f_shift, f_times}
use Rattle.jz_total_rows.specs.Expanded.{IsExpanded, IsExpandedLeft}
use Rattle.jz_total_rows.proofs.Classes.{flag_variable}
use Rattle.jz_total_rows.proofs.Summed.{seen}
use Rattle.jz_total_rows.proofs.Meets.{A}
use Rattle.jz_total_rows.proofs.Operands.{left_there, left_operand}
use Rattle.jz_total_rows.proofs.Assigned.{at_size}
use Rattle.jz_total_flags.proofs.Quotients.{long_of}
use Rattle.jz_total_flags.proofs.InstructionForms.{HasActs}
use Rattle.jz_total_flags.proofs.InstructionRows.{IsReadyOperand, changes_rmi, one_there, swap_there, two_there, carried_there}
use Rattle.jz_total_flags.proofs.InstructionCounts.{times_there, count_there}

-- a left side at that size, whose numbers have fields
pub record IsReadyLeft (home : Homes) (z : Size) (d : Lval) : Type 0 where
  pub expanded : IsExpandedLeft home d
  pub typed : Holds (place.word z) d
  pub kept : left_operand (left_access d) ≡ None

-- the sizes of a name and of a class
abbrev AllSized : Option Size → Size → Type 0
AllSized o z = (y : Size) → o ≡ Some y → y ≡ z

or_sized : (o k : Option Size) (z : Size) → AllSized o z → AllSized k z → AllSized (option_or o k) z
or_sized None k z f g y e = g y e
or_sized (Some w) k z f g y e = f y e

-- actions of a form behind the flags
pub record Behind (home : Homes) (P : List Lval → List Action → List Numbers → Type 0) (x : Option Lval) : Type 0 where
  pub left : Lval
  pub is : x ≡ Some left
  pub there : HasActs (P (left ∷ []))

module _ (frame : Frame) (home : Homes) (homing : IsHoming frame home) (i : Instance) (z : Size) where
  abbrev Left : Option Lval → Type 0
  Left x = (d : Lval) → x ≡ Some d → IsReadyLeft home z d

  abbrev Operands : List Expr → Type 0
  Operands es = All (IsReadyOperand home z) es

  -- ---- one operand
  pub one_behind : (k : One) (n : Intrinsic) → ((d : Class) (a : Operand) → one_fits n i.size d a ≡ true → changes d a ≡ true) → i.name ≡ n → (x : Option Lval) (args : List Expr) → Left x → Operands args
      → Matches (one_shape (whichever A) i x args) → Behind home (λ to acts items. HasForm home z (f_one k) to args acts items) x
  one_behind k n so e (Some d) (a ∷ []) f g h =
      let u = operand_of A d a in
      let r = f d refl in
      let w = named_fits i.name (one_fits i.name i.size (dest_of d) u) h in
      let t = so (dest_of d) u (sym (ap (λ m. one_fits m i.size (dest_of d) u) e) ∙ w) in
      record { left = d; is = refl; there = one_there frame home homing z d r.expanded r.typed r.kept a (All-head (IsReadyOperand home z) a [] g) t k }
  one_behind k n so e None args f g h = absurd (no_free h)
  one_behind k n so e (Some d) [] f g h = absurd (no_free h)
  one_behind k n so e (Some d) (a ∷ b ∷ args) f g h = absurd (no_free h)

  -- BSWAP
  pub swap_behind : AllSized i.size z → i.name ≡ name.Bswap → (x : Option Lval) (args : List Expr) → Left x → Operands args → Matches (one_shape (whichever A) i x args) → Behind home (λ to acts items. HasForm home z f_swap to args acts items) x
  swap_behind own e (Some d) (a ∷ []) f g h =
      let u = operand_of A d a in
      let r = f d refl in
      let w = sym (ap (λ m. one_fits m i.size (dest_of d) u) e) ∙ named_fits i.name (one_fits i.name i.size (dest_of d) u) h in
      let p = and_parts (is_r (dest_of d)) _ w in
      let q = and_parts (is_long (option_or i.size (class_size (dest_of d)))) (changes (dest_of d) u) p.1 in
      let D = left_there home z d r.expanded r.typed (changes_rmi (dest_of d) u q.1).0 in
      record {
        left = d;
        is = refl;
        there = swap_there frame home homing z d r.expanded r.typed r.kept a (All-head (IsReadyOperand home z) a [] g) q.1 p.0 (long_of (option_or i.size (class_size (dest_of d))) z (or_sized i.size (class_size (dest_of d)) z own D.sized) q.0);
      }
  swap_behind own e None args f g h = absurd (no_free h)
  swap_behind own e (Some d) [] f g h = absurd (no_free h)
  swap_behind own e (Some d) (a ∷ b ∷ args) f g h = absurd (no_free h)

  -- ---- two operands
  pub two_behind : (k : Alu) (s : Bool) (n : Intrinsic) → is_test k ≡ false → ((d : Class) (a o : Operand) → two_fits n i.size d a o ≡ true → (is_rmi o.class && computes s d a o) ≡ true) → i.name ≡ n → (x : Option Lval) (args : List Expr) → Left x → Operands args
      → Matches (two_shape (whichever A) i x args) → Behind home (λ to acts items. HasForm home z (f_two k s) to args acts items) x
  two_behind k s n plain so e (Some d) (a ∷ o ∷ []) f g h =
      let u = operand_of A d a in
      let v = operand_of A d o in
      let r = f d refl in
      let R : Expr → Type 0 = IsReadyOperand home z in
      let w = named_fits i.name (two_fits i.name i.size (dest_of d) u v) h in
      let t = so (dest_of d) u v (sym (ap (λ m. two_fits m i.size (dest_of d) u v) e) ∙ w) in
      let p = and_parts (is_rmi v.class) (computes s (dest_of d) u v) t in
      record { left = d; is = refl; there = two_there frame home homing z d r.expanded r.typed r.kept a o (All-head R a (o ∷ []) g) (All-head R o [] (All-tail R a (o ∷ []) g)) k plain s p.0 p.1 }
  two_behind k s n plain so e None args f g h = absurd (no_free h)
  two_behind k s n plain so e (Some d) [] f g h = absurd (no_free h)
  two_behind k s n plain so e (Some d) (a ∷ []) f g h = absurd (no_free h)
  two_behind k s n plain so e (Some d) (a ∷ b ∷ c ∷ args) f g h = absurd (no_free h)

  -- and a flag that is read
  pub carried_behind : (k : Alu) (s : Bool) (n : Intrinsic) → is_test k ≡ false → ((d : Class) (a o : Operand) (c : Class) → three_fits n d a o c ≡ true → (is_flag c && (is_rmi o.class && computes s d a o)) ≡ true) → i.name ≡ n → (x : Option Lval) (a o c : Expr) → Left x → Operands (a ∷ o ∷ [])
      → IsExpanded home c → Matches (three_shape (whichever A) i x (a ∷ o ∷ c ∷ [])) → Behind home (λ to acts items. HasForm home z (f_carried k s) to (a ∷ o ∷ c ∷ []) acts items) x
  carried_behind k s n plain so e (Some d) a o c f g ready h =
      let u = operand_of A d a in
      let v = operand_of A d o in
      let r = f d refl in
      let R : Expr → Type 0 = IsReadyOperand home z in
      let w = named_fits i.name (three_fits i.name (dest_of d) u v (class_of c)) h in
      let t = so (dest_of d) u v (class_of c) (sym (ap (λ m. three_fits m (dest_of d) u v (class_of c)) e) ∙ w) in
      let q = and_parts (is_flag (class_of c)) _ t in
      let p = and_parts (is_rmi v.class) (computes s (dest_of d) u v) q.1 in
      record { left = d; is = refl; there = carried_there frame home homing z d r.expanded r.typed r.kept a o (All-head R a (o ∷ []) g) (All-head R o [] (All-tail R a (o ∷ []) g)) k plain s p.0 p.1 c (flag_variable home c ready q.0) }
  carried_behind k s n plain so e None a o c f g ready h = absurd (no_free h)

  -- ---- signed products
  pub times_behind : i.name ≡ name.Imul → (x : Option Lval) (args : List Expr) → Left x → Operands args → Matches (two_shape (whichever A) i x args) → Behind home (λ to acts items. HasForm home z f_times to args acts items) x
  times_behind e (Some d) (a ∷ o ∷ []) f g h =
      let u = operand_of A d a in
      let v = operand_of A d o in
      let r = f d refl in
      let R : Expr → Type 0 = IsReadyOperand home z in
      let w = sym (ap (λ m. two_fits m i.size (dest_of d) u v) e) ∙ named_fits i.name (two_fits i.name i.size (dest_of d) u v) h in
      record { left = d; is = refl; there = times_there frame home homing z d r.expanded r.typed r.kept a o (All-head R a (o ∷ []) g) (All-head R o [] (All-tail R a (o ∷ []) g)) (left_span d) w }
  times_behind e None args f g h = absurd (no_free h)
  times_behind e (Some d) [] f g h = absurd (no_free h)
  times_behind e (Some d) (a ∷ []) f g h = absurd (no_free h)
  times_behind e (Some d) (a ∷ b ∷ c ∷ args) f g h = absurd (no_free h)

  -- ---- shifts and rotations
  pub count_behind : (k : Shift) (n : Intrinsic) → ((d : Class) (a o : Operand) → two_fits n i.size d a o ≡ true → (shifts_inline d a o || shifts_masked i.size d a o) ≡ true) → i.name ≡ n → (x : Option Lval) (a o : Expr) → Left x → IsReadyOperand home z a → IsExpanded home o
      → ((d : Lval) → x ≡ Some d → option_or i.size (option_or (class_size (dest_of d)) (class_size (operand_of A d a).class)) ≡ Some z) → count_field (Some z) (seen (at_size z) o) ≡ None → Matches (two_shape (whichever A) i x (a ∷ o ∷ []))
      → Behind home (λ to acts items. HasForm home z (f_shift k) to (a ∷ o ∷ []) acts items) x
  count_behind k n so e (Some d) a o f ready y size limit h =
      let u = operand_of A d a in
      let v = operand_of A d o in
      let r = f d refl in
      let w = named_fits i.name (two_fits i.name i.size (dest_of d) u v) h in
      let t = so (dest_of d) u v (sym (ap (λ m. two_fits m i.size (dest_of d) u v) e) ∙ w) in
      record { left = d; is = refl; there = count_there frame home homing z d r.expanded r.typed r.kept a o ready k y i.size (size d refl) limit t }
  count_behind k n so e None a o f ready y size limit h = absurd (no_free h)
