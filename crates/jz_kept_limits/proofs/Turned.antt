-- What stands in the place of operands and of left sides passes what they pass.
use Rattle.std.proofs.Common.{◌≡◌, Bool, true, false, ◌&&◌, List, [], ◌∷◌, Option, Some, None, refl, sym, ap, ◌∙◌, subst, if◌then◌else◌}
use Rattle.std.specs.Option.{option_or}
use Rattle.std.proofs.lemmas.Bool.{and_parts, and_from, false≢true}
use Rattle.jz_tree.specs.Size.{Size}
use Rattle.jz_tree.specs.declared.expr.BinOp.{BinOp}
use Rattle.jz_tree.specs.declared.expr.Expr.{Expr}
use Rattle.jz_tree.specs.declared.expr.Expr.TheViews.{out-Var}
use Rattle.jz_tree.specs.declared.expr.Var.{Var}
use Rattle.jz_tree.specs.declared.stmt.Lval.{Lval}
use Rattle.jz_tree.specs.declared.intrinsic.Instance.{Instance}
use Rattle.jz_tree.specs.declared.intrinsic.Intrinsic.{Intrinsic}
use Rattle.jz_tree.specs.declared.intrinsic.Intrinsic.TheVariants as name
use Rattle.jz_integers.specs.Integers.{KnownNumbers}
use Rattle.jz_type_names.specs.Kinds.{is_inline}
use Rattle.jz_meaning.specs.Assignments.{left_size, left_sizes, last_left}
use Rattle.jz_meaning.specs.Intrinsics.{first_size, intrinsic_size}
use Rattle.jz_meaning.specs.Values.{own_size}
use Rattle.jz_limits.specs.declared.limit.Limit.{Limit}
use Rattle.jz_limits.specs.declared.limit.Limit.TheVariants.{ImmRange}
use Rattle.jz_limits.specs.declared.looked.Asking.{Asking}
use Rattle.jz_limits.specs.declared.operands.Role.{Role}
use Rattle.jz_limits.specs.declared.operands.Role.TheVariants as role
use Rattle.jz_limits.specs.declared.operands.Roles.{Roles}
use Rattle.jz_limits.specs.Values.{only_int, inline_target}
use Rattle.jz_limits.specs.Asked.{has_displacement, all_in, size_compared, left_access, to_register, is_free, size_by, asked_as, asked_if, left_parts, operand_parts, value_as}
use Rattle.jz_limits.specs.InnerLooked.{Seen, look_of, if_not, field_of, firsts_found}
use Rattle.jz_limits.proofs.PartLemmas.{asked_found}
use Rattle.jz_kept_limits.specs.Passing.{Passes}
use Rattle.jz_kept_limits.proofs.Passed.{fine_too, count_passes}
use Rattle.jz_kept_limits.proofs.Firsts.{IsClean, AreClean, clean_none, clean_parts, clean_both, clean_without}

abbrev pub asking : Option Size → Asking
asking z = record { place = None; size = z }

-- two lists, item by item
abbrev pub InStep : {A : Type 0} → (A → A → Type 0) → List A → List A → Type 0
InStep R [] [] = Unit {0}
InStep R [] (y ∷ ys) = ⊥
InStep R (x ∷ xs) [] = ⊥
InStep R (x ∷ xs) (y ∷ ys) = R x y × InStep R xs ys

-- ---- an operand by its role
test_by : (b : Bool) (x y : Option Limit) → (x ≡ None → y ≡ None) → (if b then None else x) ≡ None → (if b then None else y) ≡ None
test_by true x y f h = refl
test_by false x y f h = f h

field_passes : (r : Role) (z : Option Size) (s t : Seen) → Passes s t → field_of r z s ≡ None → field_of r z t ≡ None
field_passes role.Operand z s t p h = p.operand h
field_passes role.Count z s t p h = count_passes z s t p h
field_passes role.Address z s t p h =
    (λ j. if_not (has_displacement (p.terms j) && p.scaled j) (ImmRange t.span)) ∙ fine_too (has_displacement s.terms && s.scaled) (ImmRange s.span) (ImmRange t.span) h
field_passes role.Test z s t p h = (λ j. if p.inline j then None else t.operand) ∙ test_by s.inline s.operand t.operand p.operand h

found_clean : (r : Role) (z : Option Size) (s t : Seen) → Passes s t → IsClean (firsts_found r z s) → IsClean (firsts_found r z t)
found_clean r z s t p c = record { width = p.width c.width; range = p.range c.range; field = field_passes r z s t p c.field }

-- e: the numbers with which x is asked; f: those with which y is
module _ (e f : KnownNumbers) where
  -- y stands in the place of x
  pub record Turned (x y : Expr) : Type 0 where
    pub passes : (q : Asking) → Passes (look_of e q x) (look_of f q y)
    pub own : own_size y ≡ own_size x
    pub compared : is_inline x ≡ false → size_compared y ≡ size_compared x

  pub operand_clean : (z : Option Size) (x y : Expr) → ((q : Asking) → Passes (look_of e q x) (look_of f q y)) → AreClean (asked_as e role.Operand z x) → AreClean (asked_as f role.Operand z y)
  operand_clean z x y p c =
      subst IsClean (asked_found f role.Operand z y)
      (found_clean role.Operand z (look_of e (asking z) x) (look_of f (asking z) y) (p (asking z)) (subst IsClean (sym (asked_found e role.Operand z x)) c))

  test_clean : (z : Option Size) (x y : Expr) → Turned x y → (b : Bool) → is_inline x ≡ b → IsClean (firsts_found role.Test z (look_of e (asking (size_compared x)) x))
      → IsClean (firsts_found role.Test z (look_of f (asking (size_compared y)) y))
  test_clean z x y h true n c =
      let p = h.passes (asking (size_compared y)) in
      record {
        width = p.width c.width;
        range = p.range c.range;
        field = ap (λ b. if b then None else (look_of f (asking (size_compared y)) y).operand) (p.inline ∙ n);
      }
  test_clean z x y h false n c =
      subst (λ w. IsClean (firsts_found role.Test z (look_of f (asking w) y))) (sym (h.compared n))
      (found_clean role.Test z (look_of e (asking (size_compared x)) x) (look_of f (asking (size_compared x)) y) (h.passes (asking (size_compared x))) c)

  pub role_clean : (r : Role) (z : Option Size) (x y : Expr) → Turned x y → AreClean (asked_as e r z x) → AreClean (asked_as f r z y)
  role_clean role.Operand z x y h c = operand_clean z x y h.passes c
  role_clean role.Count z x y h c =
      subst IsClean (asked_found f role.Count z y)
      (found_clean role.Count z (look_of e (asking z) x) (look_of f (asking z) y) (h.passes (asking z)) (subst IsClean (sym (asked_found e role.Count z x)) c))
  role_clean role.Address z x y h c =
      subst IsClean (asked_found f role.Address z y)
      (found_clean role.Address z (look_of e (asking z) x) (look_of f (asking z) y) (h.passes (asking z)) (subst IsClean (sym (asked_found e role.Address z x)) c))
  role_clean role.Test z x y h c =
      subst IsClean (asked_found f role.Test z y) (test_clean z x y h (is_inline x) refl (subst IsClean (sym (asked_found e role.Test z x)) c))

  -- ---- a value
  pub value_clean : (free other : Bool) (r : Role) (z : Option Size) (x y : Expr) → Turned x y → (free ≡ true → other ≡ true) → AreClean (value_as e free r z x) → AreClean (value_as f other r z y)
  value_clean true true r z x y h w c = let p = h.passes (asking z) in record { width = p.width c.width; range = p.range c.range; field = refl }
  value_clean true false r z x y h w c = absurd (false≢true (w refl))
  value_clean false true r z x y h w c = clean_without (asked_as f r z y) (role_clean r z x y h c)
  value_clean false false r z x y h w c = role_clean r z x y h c

  pub free_kept : (o : Option BinOp) (b c : Bool) (x y : Expr) → (b ≡ true → c ≡ true) → is_inline y ≡ is_inline x → is_free b o x ≡ true → is_free c o y ≡ true
  free_kept None b c x y w n h = let p = and_parts b (is_inline x) h in and_from c (is_inline y) (w p.0) (n ∙ p.1)
  free_kept (Some o) b c x y w n h = h

  -- ---- left sides
  pub record LeftTurned (d g : Lval) : Type 0 where
    pub parts : AreClean (asked_if e role.Operand None (left_access d)) → AreClean (asked_if f role.Operand None (left_access g))
    pub size : left_size g ≡ left_size d
    pub register : to_register (Some d) ≡ true → to_register (Some g) ≡ true
    pub int : only_int g ≡ only_int d
    pub unknown : (v : Var) → only_int d ≡ Some v → e (out-Var v).name (out-Var v).copy ≡ None

  -- ---- lists
  pub operands_clean : (r : Roles) (z : Option Size) (xs ys : List Expr) → InStep Turned xs ys → AreClean (operand_parts e r z xs) → AreClean (operand_parts f r z ys)
  operands_clean r z [] [] h c = clean_none
  operands_clean r z [] (y ∷ ys) h c = absurd h
  operands_clean r z (x ∷ xs) [] h c = absurd h
  operands_clean r z (x ∷ xs) (y ∷ ys) h c =
      let p = clean_parts (asked_as e r.first z x) (operand_parts e (all_in r.later) z xs) c in
      clean_both (asked_as f r.first z y) (operand_parts f (all_in r.later) z ys) (role_clean r.first z x y h.0 p.0) (operands_clean (all_in r.later) z xs ys h.1 p.1)

  pub lefts_clean : (ds gs : List Lval) → InStep LeftTurned ds gs → AreClean (left_parts e ds) → AreClean (left_parts f gs)
  lefts_clean [] [] h c = clean_none
  lefts_clean [] (g ∷ gs) h c = absurd h
  lefts_clean (d ∷ ds) [] h c = absurd h
  lefts_clean (d ∷ ds) (g ∷ gs) h c =
      let p = clean_parts (asked_if e role.Operand None (left_access d)) (left_parts e ds) c in
      clean_both (asked_if f role.Operand None (left_access g)) (left_parts f gs) (h.0.parts p.0) (lefts_clean ds gs h.1 p.1)

  pub sizes_kept : (ds gs : List Lval) → InStep LeftTurned ds gs → left_sizes gs ≡ left_sizes ds
  sizes_kept [] [] h = refl
  sizes_kept [] (g ∷ gs) h = absurd h
  sizes_kept (d ∷ ds) [] h = absurd h
  sizes_kept (d ∷ ds) (g ∷ gs) h = ap (λ z. option_or z (left_sizes gs)) h.0.size ∙ ap (option_or (left_size d)) (sizes_kept ds gs h.1)

  pub last_kept : (ds gs : List Lval) → InStep LeftTurned ds gs → to_register (last_left ds) ≡ true → to_register (last_left gs) ≡ true
  last_kept [] [] h t = t
  last_kept [] (g ∷ gs) h t = absurd h
  last_kept (d ∷ ds) [] h t = absurd h
  last_kept (d ∷ []) (g ∷ []) h t = h.0.register t
  last_kept (d ∷ []) (g ∷ g2 ∷ gs) h t = absurd h.1
  last_kept (d ∷ d2 ∷ ds) (g ∷ []) h t = absurd h.1
  last_kept (d ∷ d2 ∷ ds) (g ∷ g2 ∷ gs) h t = last_kept (d2 ∷ ds) (g2 ∷ gs) h.1 t

  pub target_kept : (ds gs : List Lval) → InStep LeftTurned ds gs → inline_target gs ≡ inline_target ds
  target_kept [] [] h = refl
  target_kept [] (g ∷ gs) h = absurd h
  target_kept (d ∷ ds) [] h = absurd h
  target_kept (d ∷ []) (g ∷ []) h = h.0.int
  target_kept (d ∷ []) (g ∷ g2 ∷ gs) h = absurd h.1
  target_kept (d ∷ d2 ∷ ds) (g ∷ []) h = absurd h.1
  target_kept (d ∷ d2 ∷ ds) (g ∷ g2 ∷ gs) h = refl

  pub target_unknown : (ds gs : List Lval) → InStep LeftTurned ds gs → (v : Var) → inline_target ds ≡ Some v → e (out-Var v).name (out-Var v).copy ≡ None
  target_unknown [] gs h v q = absurd cc
  target_unknown (d ∷ ds) [] h v q = absurd h
  target_unknown (d ∷ []) (g ∷ gs) h v q = h.0.unknown v q
  target_unknown (d ∷ d2 ∷ ds) (g ∷ gs) h v q = absurd cc

  firsts_kept : (xs ys : List Expr) → InStep Turned xs ys → first_size ys ≡ first_size xs
  firsts_kept [] [] h = refl
  firsts_kept [] (y ∷ ys) h = absurd h
  firsts_kept (x ∷ xs) [] h = absurd h
  firsts_kept (x ∷ xs) (y ∷ ys) h = ap (λ z. option_or z (first_size ys)) h.0.own ∙ ap (option_or (own_size x)) (firsts_kept xs ys h.1)

  -- ---- the size of an instruction
  module _ (ds gs : List Lval) (xs ys : List Expr) (h : InStep LeftTurned ds gs) (g : InStep Turned xs ys) where
    other_kept : (z : Option Size) → option_or z (option_or (left_sizes gs) (first_size ys)) ≡ option_or z (option_or (left_sizes ds) (first_size xs))
    other_kept z = ap (λ y. option_or z (option_or y (first_size ys))) (sizes_kept ds gs h) ∙ ap (λ y. option_or z (option_or (left_sizes ds) y)) (firsts_kept xs ys g)

    intrinsic_kept : (i : Intrinsic) (z : Option Size) → intrinsic_size i z gs ys ≡ intrinsic_size i z ds xs
    intrinsic_kept name.Setcc z = refl
    intrinsic_kept name.Lea z = refl
    intrinsic_kept name.Add z = other_kept z
    intrinsic_kept name.Sub z = other_kept z
    intrinsic_kept name.And z = other_kept z
    intrinsic_kept name.Or z = other_kept z
    intrinsic_kept name.Xor z = other_kept z
    intrinsic_kept name.Adc z = other_kept z
    intrinsic_kept name.Sbb z = other_kept z
    intrinsic_kept name.Neg z = other_kept z
    intrinsic_kept name.Inc z = other_kept z
    intrinsic_kept name.Dec z = other_kept z
    intrinsic_kept name.Not z = other_kept z
    intrinsic_kept name.Bswap z = other_kept z
    intrinsic_kept name.Cmp z = other_kept z
    intrinsic_kept name.Test z = other_kept z
    intrinsic_kept name.Shl z = other_kept z
    intrinsic_kept name.Shr z = other_kept z
    intrinsic_kept name.Sar z = other_kept z
    intrinsic_kept name.Rol z = other_kept z
    intrinsic_kept name.Ror z = other_kept z
    intrinsic_kept name.Imul z = other_kept z
    intrinsic_kept name.Mul z = other_kept z
    intrinsic_kept name.Div z = other_kept z

    pub size_by_kept : (i : Option Instance) → size_by i gs ys ≡ size_by i ds xs
    size_by_kept None = refl
    size_by_kept (Some i) = intrinsic_kept i.name i.size
