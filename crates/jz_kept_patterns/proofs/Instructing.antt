-- The shape of an intrinsic before and behind a pass.
use Rattle.std.proofs.Common.{◌≡◌, Bool, true, false, ◌&&◌, ℕ, List, [], ◌∷◌, map, Option, Some, None, refl, sym, ap, ◌∙◌, subst, if◌then◌else◌}
use Rattle.std.specs.Prelude.{All, ⊤}
use Rattle.std.proofs.lemmas.Bool.{and_parts, and_from}
use Rattle.std.proofs.lemmas.List.Elements.{All-head, All-tail}
use Rattle.jz_tree.specs.Spellings.{spelled}
use Rattle.jz_tree.specs.declared.expr.Expr.{Expr}
use Rattle.jz_tree.specs.declared.stmt.Lval.{Lval}
use Rattle.jz_tree.specs.declared.intrinsic.Intrinsic.{Intrinsic}
use Rattle.jz_tree.specs.declared.intrinsic.Intrinsic.TheVariants as name
use Rattle.jz_tree.specs.declared.intrinsic.Instance.{Instance}
use Rattle.jz_select.specs.declared.class.Sum.{Sum}
use Rattle.jz_select.specs.declared.shape.Shape as rowed
use Rattle.jz_select.specs.declared.shape.Shape.TheVariants as shapes
use Rattle.jz_select.specs.declared.shaping.Flags.{Flags}
use Rattle.jz_select.specs.declared.shaping.Flags.TheVariants as flags
use Rattle.jz_select.specs.Places.{Answers}
use Rattle.jz_select.specs.Sums.{sum_of, joined_sum, is_sum}
use Rattle.jz_select.specs.Look.{look_of, terms_of}
use Rattle.jz_select.specs.Operands.{class_of, dest_of, operand_of}
use Rattle.jz_select.specs.Rows.{is_r, is_flag_result, is_pinned, is_apart}
use Rattle.jz_select.specs.Shapes.{Asked, whichever, has_flags, leads, if_lead, two_lead, four_lead, five_lead, value_behind, address_shape, set_shape, compare_shape, one_shape, two_shape, three_shape, product_shape, stand_apart, division_shape, intrinsic_shape, named_shape}
use Rattle.jz_kept_classes.specs.Classes.{KeepsClass}
use Rattle.jz_kept_classes.proofs.Kept.{same_class, Turned, operand_kept}
use Rattle.jz_kept_rows.proofs.Values.{class_at}
use Rattle.jz_kept_rows.proofs.Operations.{flags_stay}
use Rattle.jz_kept_patterns.proofs.Operands.{KeptOperand, KeptBeside}
use Rattle.jz_kept_patterns.proofs.Selecting.{InstructionAlways}
use Rattle.jz_kept_patterns.proofs.InstructionMatching.{ShapeMeets, s_free, s_one, s_two, s_three, s_address, s_set, s_compare, s_product, s_division, shape_kept}

if_meets : (b c : Bool) (s t : rowed.Shape) → (b ≡ true → c ≡ true) → ShapeMeets s t → ShapeMeets (if b then s else shapes.Free) (if c then t else shapes.Free)
if_meets true c s t f m = subst (λ x. ShapeMeets s (if x then t else shapes.Free)) (sym (f refl)) m
if_meets false c s t f m = s_free (if c then t else shapes.Free)

module _ (T : Expr → Expr) (L : Lval → Lval) (K : Turned T) (F : (d : Lval) → KeepsClass (dest_of d) (dest_of (L d))) (Part : Expr → Type 0) (Left : Lval → Type 0) (A B : Answers)
    (M : (d : Lval) → Left d → (x : Expr) → Part x → KeptBeside d (operand_of A d x) (operand_of B (L d) (T x))) where
  abbrev asked : Asked
  asked = whichever A

  abbrev told : Asked
  told = whichever B

  abbrev C : (e : Expr) → KeepsClass (class_of e) (class_of (T e))
  C = class_at T K

  beside_kept : (d : Lval) → Left d → (x : Expr) → Part x → KeptOperand (is_r (dest_of d)) (operand_of A d x) (operand_of B (L d) (T x))
  beside_kept d h x p = (M d h x p).operand

  -- ---- the flags that lead
  lead_kept : (d : Lval) → leads d ≡ true → leads (L d) ≡ true
  lead_kept d h = ap is_flag_result (same_class is_flag_result refl (dest_of d) (dest_of (L d)) (F d) h) ∙ h

  two_leading : (a b : Lval) → two_lead a b ≡ true → two_lead (L a) (L b) ≡ true
  two_leading a b h = let p = and_parts (leads a) (leads b) h in and_from (leads (L a)) (leads (L b)) (lead_kept a p.0) (lead_kept b p.1)

  four_leading : (a b c g : Lval) → four_lead a b c g ≡ true → four_lead (L a) (L b) (L c) (L g) ≡ true
  four_leading a b c g h =
      let p = and_parts (leads a) (leads b && (leads c && leads g)) h in
      let q = and_parts (leads b) (leads c && leads g) p.1 in
      let r = and_parts (leads c) (leads g) q.1 in
      and_from (leads (L a)) (leads (L b) && (leads (L c) && leads (L g))) (lead_kept a p.0)
      (and_from (leads (L b)) (leads (L c) && leads (L g)) (lead_kept b q.0) (and_from (leads (L c)) (leads (L g)) (lead_kept c r.0) (lead_kept g r.1)))

  five_leading : (a b c g k : Lval) → five_lead a b c g k ≡ true → five_lead (L a) (L b) (L c) (L g) (L k) ≡ true
  five_leading a b c g k h =
      let p = and_parts (leads a) (four_lead b c g k) h in
      and_from (leads (L a)) (four_lead (L b) (L c) (L g) (L k)) (lead_kept a p.0) (four_leading b c g k p.1)

  -- ---- the value behind them
  abbrev Behind : Option Lval → Option Lval → Type 0
  Behind None w = ⊤
  Behind (Some d) w = (w ≡ Some (L d)) × Left d

  led : (b c : Bool) (d : Lval) → (b ≡ true → c ≡ true) → Left d → Behind (if_lead b d) (if_lead c (L d))
  led true c d f h = (ap (λ x. if_lead x (L d)) (f refl), h)
  led false c d f h = tt

  nth_left : (d : Lval) (ds : List Lval) → All Left (d ∷ ds) → Left d
  nth_left d ds h = All-head Left d ds h

  rest : (d : Lval) (ds : List Lval) → All Left (d ∷ ds) → All Left ds
  rest d ds h = All-tail Left d ds h

  behind_kept : (f : Flags) (to : List Lval) → All Left to → Behind (value_behind f to) (value_behind f (map L to))
  behind_kept flags.Zero (d ∷ []) h = (refl, nth_left d [] h)
  behind_kept flags.Zero [] h = tt
  behind_kept flags.Zero (a ∷ b ∷ ds) h = tt
  behind_kept flags.Two (a ∷ b ∷ d ∷ []) h = led (two_lead a b) (two_lead (L a) (L b)) d (two_leading a b) (nth_left d [] (rest b (d ∷ []) (rest a (b ∷ d ∷ []) h)))
  behind_kept flags.Two [] h = tt
  behind_kept flags.Two (a ∷ []) h = tt
  behind_kept flags.Two (a ∷ b ∷ []) h = tt
  behind_kept flags.Two (a ∷ b ∷ c ∷ g ∷ ds) h = tt
  behind_kept flags.Four (a ∷ b ∷ c ∷ g ∷ d ∷ []) h =
      led (four_lead a b c g) (four_lead (L a) (L b) (L c) (L g)) d (four_leading a b c g) (nth_left d [] (rest g (d ∷ []) (rest c (g ∷ d ∷ []) (rest b (c ∷ g ∷ d ∷ []) (rest a (b ∷ c ∷ g ∷ d ∷ []) h)))))
  behind_kept flags.Four [] h = tt
  behind_kept flags.Four (a ∷ []) h = tt
  behind_kept flags.Four (a ∷ b ∷ []) h = tt
  behind_kept flags.Four (a ∷ b ∷ c ∷ []) h = tt
  behind_kept flags.Four (a ∷ b ∷ c ∷ g ∷ []) h = tt
  behind_kept flags.Four (a ∷ b ∷ c ∷ g ∷ k ∷ d ∷ ds) h = tt
  behind_kept flags.Five (a ∷ b ∷ c ∷ g ∷ k ∷ d ∷ []) h =
      led (five_lead a b c g k) (five_lead (L a) (L b) (L c) (L g) (L k)) d (five_leading a b c g k)
      (nth_left d [] (rest k (d ∷ []) (rest g (k ∷ d ∷ []) (rest c (g ∷ k ∷ d ∷ []) (rest b (c ∷ g ∷ k ∷ d ∷ []) (rest a (b ∷ c ∷ g ∷ k ∷ d ∷ []) h))))))
  behind_kept flags.Five [] h = tt
  behind_kept flags.Five (a ∷ []) h = tt
  behind_kept flags.Five (a ∷ b ∷ []) h = tt
  behind_kept flags.Five (a ∷ b ∷ c ∷ []) h = tt
  behind_kept flags.Five (a ∷ b ∷ c ∷ g ∷ []) h = tt
  behind_kept flags.Five (a ∷ b ∷ c ∷ g ∷ k ∷ []) h = tt
  behind_kept flags.Five (a ∷ b ∷ c ∷ g ∷ k ∷ d ∷ e ∷ ds) h = tt

  -- ---- operands
  nth_part : (a : Expr) (es : List Expr) → All Part (a ∷ es) → Part a
  nth_part a es p = All-head Part a es p

  more : (a : Expr) (es : List Expr) → All Part (a ∷ es) → All Part es
  more a es p = All-tail Part a es p

  sum_at : (a : Expr) → is_sum (terms_of a) ≡ true → is_sum (terms_of (T a)) ≡ true
  sum_at a h = ap (λ (s : Sum). is_sum (joined_sum (sum_of 0 0 true) s)) ((operand_kept T K a).sum (and_parts (look_of a).sum.good _ h).0) ∙ h

  address_meets : (i : Instance) (v w : Option Lval) (args : List Expr) → Behind v w → All Part args → ShapeMeets (address_shape i v args) (address_shape i w (map T args))
  address_meets i None w args h p = s_free (address_shape i w (map T args))
  address_meets i (Some d) w (a ∷ []) h p = subst (λ y. ShapeMeets (address_shape i (Some d) (a ∷ [])) (address_shape i y (map T (a ∷ [])))) (sym h.0)
      (s_address i.size (dest_of d) (dest_of (L d)) (is_sum (terms_of a)) (is_sum (terms_of (T a))) (F d) (sum_at a))
  address_meets i (Some d) w [] h p = s_free (address_shape i w (map T []))
  address_meets i (Some d) w (a ∷ o ∷ es) h p = s_free (address_shape i w (map T (a ∷ o ∷ es)))

  set_meets : (i : Instance) (v w : Option Lval) (args : List Expr) → Behind v w → All Part args → ShapeMeets (set_shape i v args) (set_shape i w (map T args))
  set_meets i None w args h p = s_free (set_shape i w (map T args))
  set_meets i (Some d) w (a ∷ []) h p = subst (λ y. ShapeMeets (set_shape i (Some d) (a ∷ [])) (set_shape i y (map T (a ∷ [])))) (sym h.0)
      (s_set i.size (dest_of d) (dest_of (L d)) (has_flags a) (has_flags (T a)) (F d) (flags_stay T K a))
  set_meets i (Some d) w [] h p = s_free (set_shape i w (map T []))
  set_meets i (Some d) w (a ∷ o ∷ es) h p = s_free (set_shape i w (map T (a ∷ o ∷ es)))

  one_meets : (i : Instance) (v w : Option Lval) (args : List Expr) → Behind v w → All Part args → ShapeMeets (one_shape asked i v args) (one_shape told i w (map T args))
  one_meets i None w args h p = s_free (one_shape told i w (map T args))
  one_meets i (Some d) w (a ∷ []) h p = subst (λ y. ShapeMeets (one_shape asked i (Some d) (a ∷ [])) (one_shape told i y (map T (a ∷ [])))) (sym h.0)
      (s_one i.name i.size (dest_of d) (dest_of (L d)) (operand_of A d a) (operand_of B (L d) (T a)) (F d) (beside_kept d h.1 a (nth_part a [] p)))
  one_meets i (Some d) w [] h p = s_free (one_shape told i w (map T []))
  one_meets i (Some d) w (a ∷ o ∷ es) h p = s_free (one_shape told i w (map T (a ∷ o ∷ es)))

  two_meets : (i : Instance) (v w : Option Lval) (args : List Expr) → Behind v w → All Part args → ShapeMeets (two_shape asked i v args) (two_shape told i w (map T args))
  two_meets i None w args h p = s_free (two_shape told i w (map T args))
  two_meets i (Some d) w (a ∷ o ∷ []) h p = subst (λ y. ShapeMeets (two_shape asked i (Some d) (a ∷ o ∷ [])) (two_shape told i y (map T (a ∷ o ∷ [])))) (sym h.0)
      (s_two i.name i.size (dest_of d) (dest_of (L d)) (operand_of A d a) (operand_of B (L d) (T a)) (operand_of A d o) (operand_of B (L d) (T o)) (F d) (beside_kept d h.1 a (nth_part a (o ∷ []) p)) (beside_kept d h.1 o (nth_part o [] (more a (o ∷ []) p))))
  two_meets i (Some d) w [] h p = s_free (two_shape told i w (map T []))
  two_meets i (Some d) w (a ∷ []) h p = s_free (two_shape told i w (map T (a ∷ [])))
  two_meets i (Some d) w (a ∷ o ∷ c ∷ es) h p = s_free (two_shape told i w (map T (a ∷ o ∷ c ∷ es)))

  three_meets : (i : Instance) (v w : Option Lval) (args : List Expr) → Behind v w → All Part args → ShapeMeets (three_shape asked i v args) (three_shape told i w (map T args))
  three_meets i None w args h p = s_free (three_shape told i w (map T args))
  three_meets i (Some d) w (a ∷ o ∷ c ∷ []) h p = subst (λ y. ShapeMeets (three_shape asked i (Some d) (a ∷ o ∷ c ∷ [])) (three_shape told i y (map T (a ∷ o ∷ c ∷ [])))) (sym h.0)
      (s_three i.name (dest_of d) (dest_of (L d)) (operand_of A d a) (operand_of B (L d) (T a)) (operand_of A d o) (operand_of B (L d) (T o)) (class_of c) (class_of (T c)) (F d)
      (beside_kept d h.1 a (nth_part a (o ∷ c ∷ []) p)) (beside_kept d h.1 o (nth_part o (c ∷ []) (more a (o ∷ c ∷ []) p))) (C c))
  three_meets i (Some d) w [] h p = s_free (three_shape told i w (map T []))
  three_meets i (Some d) w (a ∷ []) h p = s_free (three_shape told i w (map T (a ∷ [])))
  three_meets i (Some d) w (a ∷ o ∷ []) h p = s_free (three_shape told i w (map T (a ∷ o ∷ [])))
  three_meets i (Some d) w (a ∷ o ∷ c ∷ g ∷ es) h p = s_free (three_shape told i w (map T (a ∷ o ∷ c ∷ g ∷ es)))

  -- ---- without a value, or with two
  compare_meets : (i : Instance) (to : List Lval) (args : List Expr) → ShapeMeets (compare_shape i to args) (compare_shape i (map L to) (map T args))
  compare_meets i (a ∷ b ∷ c ∷ g ∷ k ∷ []) (x ∷ y ∷ []) =
      if_meets (five_lead a b c g k) (five_lead (L a) (L b) (L c) (L g) (L k)) (shapes.Compare i.name (class_of x) (class_of y)) (shapes.Compare i.name (class_of (T x)) (class_of (T y))) (five_leading a b c g k)
      (s_compare i.name (class_of x) (class_of (T x)) (class_of y) (class_of (T y)) (C x) (C y))
  compare_meets i (a ∷ b ∷ c ∷ g ∷ k ∷ []) [] = s_free (compare_shape i (map L (a ∷ b ∷ c ∷ g ∷ k ∷ [])) (map T []))
  compare_meets i (a ∷ b ∷ c ∷ g ∷ k ∷ []) (x ∷ []) = s_free (compare_shape i (map L (a ∷ b ∷ c ∷ g ∷ k ∷ [])) (map T (x ∷ [])))
  compare_meets i (a ∷ b ∷ c ∷ g ∷ k ∷ []) (x ∷ y ∷ z ∷ es) = s_free (compare_shape i (map L (a ∷ b ∷ c ∷ g ∷ k ∷ [])) (map T (x ∷ y ∷ z ∷ es)))
  compare_meets i [] args = s_free (compare_shape i (map L []) (map T args))
  compare_meets i (a ∷ []) args = s_free (compare_shape i (map L (a ∷ [])) (map T args))
  compare_meets i (a ∷ b ∷ []) args = s_free (compare_shape i (map L (a ∷ b ∷ [])) (map T args))
  compare_meets i (a ∷ b ∷ c ∷ []) args = s_free (compare_shape i (map L (a ∷ b ∷ c ∷ [])) (map T args))
  compare_meets i (a ∷ b ∷ c ∷ g ∷ []) args = s_free (compare_shape i (map L (a ∷ b ∷ c ∷ g ∷ [])) (map T args))
  compare_meets i (a ∷ b ∷ c ∷ g ∷ k ∷ d ∷ ds) args = s_free (compare_shape i (map L (a ∷ b ∷ c ∷ g ∷ k ∷ d ∷ ds)) (map T args))

  -- the last two of seven
  last_two : (a b c g k q r : Lval) → All Left (a ∷ b ∷ c ∷ g ∷ k ∷ q ∷ r ∷ []) → Left q × Left r
  last_two a b c g k q r h =
      let t = rest k (q ∷ r ∷ []) (rest g (k ∷ q ∷ r ∷ []) (rest c (g ∷ k ∷ q ∷ r ∷ []) (rest b (c ∷ g ∷ k ∷ q ∷ r ∷ []) (rest a (b ∷ c ∷ g ∷ k ∷ q ∷ r ∷ []) h)))) in
      (nth_left q (r ∷ []) t, nth_left r [] (rest q (r ∷ []) t))

  product_meets : (i : Instance) (to : List Lval) (args : List Expr) → All Left to → All Part args → ShapeMeets (product_shape asked i to args) (product_shape told i (map L to) (map T args))
  product_meets i (a ∷ b ∷ c ∷ g ∷ k ∷ q ∷ r ∷ []) (x ∷ y ∷ []) h p =
      let l = (last_two a b c g k q r h).1 in
      if_meets (five_lead a b c g k) (five_lead (L a) (L b) (L c) (L g) (L k))
      (shapes.Product i.size (dest_of q) (dest_of r) (operand_of A r x) (operand_of A r y)) (shapes.Product i.size (dest_of (L q)) (dest_of (L r)) (operand_of B (L r) (T x)) (operand_of B (L r) (T y)))
      (five_leading a b c g k)
      (s_product i.size (dest_of q) (dest_of (L q)) (dest_of r) (dest_of (L r)) (operand_of A r x) (operand_of B (L r) (T x)) (operand_of A r y) (operand_of B (L r) (T y)) (F q) (F r)
      (beside_kept r l x (nth_part x (y ∷ []) p)) (beside_kept r l y (nth_part y [] (more x (y ∷ []) p))))
  product_meets i (a ∷ b ∷ c ∷ g ∷ k ∷ q ∷ r ∷ []) [] h p = s_free (product_shape told i (map L (a ∷ b ∷ c ∷ g ∷ k ∷ q ∷ r ∷ [])) (map T []))
  product_meets i (a ∷ b ∷ c ∷ g ∷ k ∷ q ∷ r ∷ []) (x ∷ []) h p = s_free (product_shape told i (map L (a ∷ b ∷ c ∷ g ∷ k ∷ q ∷ r ∷ [])) (map T (x ∷ [])))
  product_meets i (a ∷ b ∷ c ∷ g ∷ k ∷ q ∷ r ∷ []) (x ∷ y ∷ z ∷ es) h p = s_free (product_shape told i (map L (a ∷ b ∷ c ∷ g ∷ k ∷ q ∷ r ∷ [])) (map T (x ∷ y ∷ z ∷ es)))
  product_meets i [] args h p = s_free (product_shape told i (map L []) (map T args))
  product_meets i (a ∷ []) args h p = s_free (product_shape told i (map L (a ∷ [])) (map T args))
  product_meets i (a ∷ b ∷ []) args h p = s_free (product_shape told i (map L (a ∷ b ∷ [])) (map T args))
  product_meets i (a ∷ b ∷ c ∷ []) args h p = s_free (product_shape told i (map L (a ∷ b ∷ c ∷ [])) (map T args))
  product_meets i (a ∷ b ∷ c ∷ g ∷ []) args h p = s_free (product_shape told i (map L (a ∷ b ∷ c ∷ g ∷ [])) (map T args))
  product_meets i (a ∷ b ∷ c ∷ g ∷ k ∷ []) args h p = s_free (product_shape told i (map L (a ∷ b ∷ c ∷ g ∷ k ∷ [])) (map T args))
  product_meets i (a ∷ b ∷ c ∷ g ∷ k ∷ q ∷ []) args h p = s_free (product_shape told i (map L (a ∷ b ∷ c ∷ g ∷ k ∷ q ∷ [])) (map T args))
  product_meets i (a ∷ b ∷ c ∷ g ∷ k ∷ q ∷ r ∷ m ∷ ds) args h p = s_free (product_shape told i (map L (a ∷ b ∷ c ∷ g ∷ k ∷ q ∷ r ∷ m ∷ ds)) (map T args))

  apart_kept : (q r : Lval) (x z : Expr) → Left q → Left r → Part x → Part z → is_pinned (dest_of q) ≡ true → is_pinned (dest_of r) ≡ true → stand_apart asked q r x z ≡ true → stand_apart told (L q) (L r) (T x) (T z) ≡ true
  apart_kept q r x z lq lr px pz nq nr h =
      let s = and_parts (is_apart (operand_of A q x)) (is_apart (operand_of A q z) && is_apart (operand_of A r z)) h in
      let t = and_parts (is_apart (operand_of A q z)) (is_apart (operand_of A r z)) s.1 in
      and_from (is_apart (operand_of B (L q) (T x))) (is_apart (operand_of B (L q) (T z)) && is_apart (operand_of B (L r) (T z))) ((M q lq x px).apart nq s.0)
      (and_from (is_apart (operand_of B (L q) (T z))) (is_apart (operand_of B (L r) (T z))) ((M q lq z pz).apart nq t.0) ((M r lr z pz).apart nr t.1))

  division_meets : (i : Instance) (to : List Lval) (args : List Expr) → All Left to → All Part args → ShapeMeets (division_shape asked i to args) (division_shape told i (map L to) (map T args))
  division_meets i (a ∷ b ∷ c ∷ g ∷ k ∷ q ∷ r ∷ []) (x ∷ y ∷ z ∷ []) h p =
      let l = last_two a b c g k q r h in
      if_meets (five_lead a b c g k) (five_lead (L a) (L b) (L c) (L g) (L k))
      (shapes.Division i.size (dest_of q) (dest_of r) (class_of x) (class_of y) (class_of z) (stand_apart asked q r x z))
      (shapes.Division i.size (dest_of (L q)) (dest_of (L r)) (class_of (T x)) (class_of (T y)) (class_of (T z)) (stand_apart told (L q) (L r) (T x) (T z)))
      (five_leading a b c g k)
      (s_division i.size (dest_of q) (dest_of (L q)) (dest_of r) (dest_of (L r)) (class_of x) (class_of (T x)) (class_of y) (class_of (T y)) (class_of z) (class_of (T z))
      (stand_apart asked q r x z) (stand_apart told (L q) (L r) (T x) (T z)) (F q) (F r) (C x) (C y) (C z)
      (apart_kept q r x z l.0 l.1 (nth_part x (y ∷ z ∷ []) p) (nth_part z [] (more y (z ∷ []) (more x (y ∷ z ∷ []) p)))))
  division_meets i (a ∷ b ∷ c ∷ g ∷ k ∷ q ∷ r ∷ []) [] h p = s_free (division_shape told i (map L (a ∷ b ∷ c ∷ g ∷ k ∷ q ∷ r ∷ [])) (map T []))
  division_meets i (a ∷ b ∷ c ∷ g ∷ k ∷ q ∷ r ∷ []) (x ∷ []) h p = s_free (division_shape told i (map L (a ∷ b ∷ c ∷ g ∷ k ∷ q ∷ r ∷ [])) (map T (x ∷ [])))
  division_meets i (a ∷ b ∷ c ∷ g ∷ k ∷ q ∷ r ∷ []) (x ∷ y ∷ []) h p = s_free (division_shape told i (map L (a ∷ b ∷ c ∷ g ∷ k ∷ q ∷ r ∷ [])) (map T (x ∷ y ∷ [])))
  division_meets i (a ∷ b ∷ c ∷ g ∷ k ∷ q ∷ r ∷ []) (x ∷ y ∷ z ∷ w ∷ es) h p = s_free (division_shape told i (map L (a ∷ b ∷ c ∷ g ∷ k ∷ q ∷ r ∷ [])) (map T (x ∷ y ∷ z ∷ w ∷ es)))
  division_meets i [] args h p = s_free (division_shape told i (map L []) (map T args))
  division_meets i (a ∷ []) args h p = s_free (division_shape told i (map L (a ∷ [])) (map T args))
  division_meets i (a ∷ b ∷ []) args h p = s_free (division_shape told i (map L (a ∷ b ∷ [])) (map T args))
  division_meets i (a ∷ b ∷ c ∷ []) args h p = s_free (division_shape told i (map L (a ∷ b ∷ c ∷ [])) (map T args))
  division_meets i (a ∷ b ∷ c ∷ g ∷ []) args h p = s_free (division_shape told i (map L (a ∷ b ∷ c ∷ g ∷ [])) (map T args))
  division_meets i (a ∷ b ∷ c ∷ g ∷ k ∷ []) args h p = s_free (division_shape told i (map L (a ∷ b ∷ c ∷ g ∷ k ∷ [])) (map T args))
  division_meets i (a ∷ b ∷ c ∷ g ∷ k ∷ q ∷ []) args h p = s_free (division_shape told i (map L (a ∷ b ∷ c ∷ g ∷ k ∷ q ∷ [])) (map T args))
  division_meets i (a ∷ b ∷ c ∷ g ∷ k ∷ q ∷ r ∷ m ∷ ds) args h p = s_free (division_shape told i (map L (a ∷ b ∷ c ∷ g ∷ k ∷ q ∷ r ∷ m ∷ ds)) (map T args))

  -- ---- by its name
  named_by : (n : Intrinsic) (i : Instance) (to : List Lval) (args : List Expr) → All Left to → All Part args → ShapeMeets (intrinsic_shape asked n i to args) (intrinsic_shape told n i (map L to) (map T args))
  named_by name.Add i to args h p = two_meets i (value_behind flags.Five to) (value_behind flags.Five (map L to)) args (behind_kept flags.Five to h) p
  named_by name.Sub i to args h p = two_meets i (value_behind flags.Five to) (value_behind flags.Five (map L to)) args (behind_kept flags.Five to h) p
  named_by name.And i to args h p = two_meets i (value_behind flags.Five to) (value_behind flags.Five (map L to)) args (behind_kept flags.Five to h) p
  named_by name.Or i to args h p = two_meets i (value_behind flags.Five to) (value_behind flags.Five (map L to)) args (behind_kept flags.Five to h) p
  named_by name.Xor i to args h p = two_meets i (value_behind flags.Five to) (value_behind flags.Five (map L to)) args (behind_kept flags.Five to h) p
  named_by name.Adc i to args h p = three_meets i (value_behind flags.Five to) (value_behind flags.Five (map L to)) args (behind_kept flags.Five to h) p
  named_by name.Sbb i to args h p = three_meets i (value_behind flags.Five to) (value_behind flags.Five (map L to)) args (behind_kept flags.Five to h) p
  named_by name.Neg i to args h p = one_meets i (value_behind flags.Five to) (value_behind flags.Five (map L to)) args (behind_kept flags.Five to h) p
  named_by name.Inc i to args h p = one_meets i (value_behind flags.Four to) (value_behind flags.Four (map L to)) args (behind_kept flags.Four to h) p
  named_by name.Dec i to args h p = one_meets i (value_behind flags.Four to) (value_behind flags.Four (map L to)) args (behind_kept flags.Four to h) p
  named_by name.Not i to args h p = one_meets i (value_behind flags.Zero to) (value_behind flags.Zero (map L to)) args (behind_kept flags.Zero to h) p
  named_by name.Bswap i to args h p = one_meets i (value_behind flags.Zero to) (value_behind flags.Zero (map L to)) args (behind_kept flags.Zero to h) p
  named_by name.Lea i to args h p = address_meets i (value_behind flags.Zero to) (value_behind flags.Zero (map L to)) args (behind_kept flags.Zero to h) p
  named_by name.Cmp i to args h p = compare_meets i to args
  named_by name.Test i to args h p = compare_meets i to args
  named_by name.Shl i to args h p = two_meets i (value_behind flags.Five to) (value_behind flags.Five (map L to)) args (behind_kept flags.Five to h) p
  named_by name.Shr i to args h p = two_meets i (value_behind flags.Five to) (value_behind flags.Five (map L to)) args (behind_kept flags.Five to h) p
  named_by name.Sar i to args h p = two_meets i (value_behind flags.Five to) (value_behind flags.Five (map L to)) args (behind_kept flags.Five to h) p
  named_by name.Rol i to args h p = two_meets i (value_behind flags.Two to) (value_behind flags.Two (map L to)) args (behind_kept flags.Two to h) p
  named_by name.Ror i to args h p = two_meets i (value_behind flags.Two to) (value_behind flags.Two (map L to)) args (behind_kept flags.Two to h) p
  named_by name.Imul i to args h p = two_meets i (value_behind flags.Five to) (value_behind flags.Five (map L to)) args (behind_kept flags.Five to h) p
  named_by name.Mul i to args h p = product_meets i to args h p
  named_by name.Div i to args h p = division_meets i to args h p
  named_by name.Setcc i to args h p = set_meets i (value_behind flags.Zero to) (value_behind flags.Zero (map L to)) args (behind_kept flags.Zero to h) p

  pub named_meets : (x : Option Instance) (to : List Lval) (args : List Expr) → All Left to → All Part args → ShapeMeets (named_shape asked x to args) (named_shape told x (map L to) (map T args))
  named_meets None to args h p = s_free shapes.Free
  named_meets (Some i) to args h p = named_by i.name i to args h p

-- ---- the row
module _ (T : Expr → Expr) (L : Lval → Lval) (K : Turned T) (F : (d : Lval) → KeepsClass (dest_of d) (dest_of (L d))) (Part : Expr → Type 0) (Left : Lval → Type 0) (pull : Answers → Answers)
    (M : (d : Lval) → Left d → (B : Answers) (x : Expr) → Part x → KeptBeside d (operand_of (pull B) d x) (operand_of B (L d) (T x))) where
  pub instructions_kept : (to : List Lval) (n : List ℕ) (args : List Expr) → All Left to → All Part args → InstructionAlways to n args → InstructionAlways (map L to) n (map T args)
  instructions_kept to n args l p h B = shape_kept (named_meets T L K F Part Left (pull B) B (λ d k. M d k B) (spelled n) to args l p) (h (pull B))
