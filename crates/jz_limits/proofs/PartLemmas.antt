-- The first limits of statements, by those of their parts.
use Rattle.std.proofs.Common.{◌≡◌, ℕ, suc, ◌-◌, ◌+◌, ◌<◌, get_or, Bool, true, false, List, [], ◌∷◌, ◌++◌, length, drop, Option, Some, None, refl, sym, ap, ◌∙◌, arith, if◌then◌else◌}
use Rattle.std.specs.Prelude.{ℤ, slice_get}
use Rattle.std.proofs.lemmas.List.{drop_more}
use Rattle.jz_tree.specs.Size.{Size}
use Rattle.jz_tree.specs.declared.expr.Expr.{Expr}
use Rattle.jz_tree.specs.declared.stmt.Lval.{Lval}
use Rattle.jz_integers.specs.Integers.{KnownNumbers, inline_value, the_number}
use Rattle.jz_type_names.specs.Kinds.{is_inline}
use Rattle.jz_type_names.specs.Parts.{span_of}
use Rattle.jz_meaning.specs.Assignments.{last_left}
use Rattle.std.specs.Option.{option_or}
use Rattle.jz_limits.specs.Limits.{Limit}
use Rattle.jz_limits.specs.declared.limit.Limit.TheVariants.{ImmRange}
use Rattle.jz_limits.specs.declared.operands.Role.{Role}
use Rattle.jz_limits.specs.declared.operands.Role.TheVariants as role
use Rattle.jz_limits.specs.declared.operands.Roles.{Roles}
use Rattle.jz_limits.specs.declared.operands.Firsts.{Firsts}
use Rattle.jz_limits.specs.Asked.{Parts, no_parts, beside, without_fields, in_kinds, has_fields, is_count, told, size_compared, all_in, left_access, asked_as, asked_if, left_parts, operand_parts}
use Rattle.jz_limits.specs.InnerLooked.{first, sooner, if_not, look_of, size_in, firsts_of, firsts_beside, first_in_kinds, firsts_without_fields, firsts_if_free, firsts_found}
use Rattle.jz_limits.proofs.Sides.{first_both, first_unless, first_if}
use Rattle.jz_limits.proofs.Layers.{count_is}

pub last_is : (ds : List Lval) → slice_get ds (length ds - 1) ≡ last_left ds
last_is [] = refl
last_is (d ∷ []) = refl
last_is (d ∷ e ∷ ds) =
    let two : length (d ∷ e ∷ ds) - 1 ≡ suc (length ds) = omega arith in
    let one : length (e ∷ ds) - 1 ≡ length ds = omega arith in
    ap (slice_get (d ∷ e ∷ ds)) two ∙ ap (slice_get (e ∷ ds)) (sym one) ∙ last_is (e ∷ ds)

pub at_here : {A : Type 0} → (xs : List A) (i : ℕ) (x : A) → i < length xs → x ≡ get_or xs i x → drop i xs ≡ x ∷ drop (i + 1) xs
at_here xs i x lt is = drop_more xs i x lt ∙ ap (λ y. y ∷ drop (i + 1) xs) (sym is)

-- ---- firsts

abbrev three : Option Limit → Option Limit → Option Limit → Firsts
three w r f = record { width = w; range = r; field = f }

pub beside_firsts : (p q : Parts) → firsts_of (beside p q) ≡ firsts_beside (firsts_of p) (firsts_of q)
beside_firsts p q =
    ap (λ w. three w (first (p.ranges ++ q.ranges)) (first (p.fields ++ q.fields))) (first_both p.widths q.widths)
    ∙ (ap (λ r. three (sooner (first p.widths) (first q.widths)) r (first (p.fields ++ q.fields))) (first_both p.ranges q.ranges)
    ∙ ap (three (sooner (first p.widths) (first q.widths)) (sooner (first p.ranges) (first q.ranges))) (first_both p.fields q.fields))

sooner_three : (x y z : Option Limit) → sooner (sooner x y) z ≡ sooner x (sooner y z)
sooner_three None y z = refl
sooner_three (Some l) y z = refl

sooner_none : (x : Option Limit) → sooner x None ≡ x
sooner_none None = refl
sooner_none (Some l) = refl

pub beside_three : (p q r : Firsts) → firsts_beside (firsts_beside p q) r ≡ firsts_beside p (firsts_beside q r)
beside_three p q r =
    ap (λ w. three w (sooner (sooner p.range q.range) r.range) (sooner (sooner p.field q.field) r.field)) (sooner_three p.width q.width r.width)
    ∙ (ap (λ x. three (sooner p.width (sooner q.width r.width)) x (sooner (sooner p.field q.field) r.field)) (sooner_three p.range q.range r.range)
    ∙ ap (three (sooner p.width (sooner q.width r.width)) (sooner p.range (sooner q.range r.range))) (sooner_three p.field q.field r.field))

pub beside_none : (p : Firsts) → firsts_beside p (firsts_of no_parts) ≡ p
beside_none p =
    ap (λ w. three w (sooner p.range None) (sooner p.field None)) (sooner_none p.width)
    ∙ (ap (λ r. three p.width r (sooner p.field None)) (sooner_none p.range) ∙ ap (three p.width p.range) (sooner_none p.field))

pub first_kinds : (p : Parts) → first_in_kinds (firsts_of p) ≡ first (in_kinds p)
first_kinds p =
    ap (sooner (first p.widths)) (sym (first_both p.ranges p.fields)) ∙ sym (first_both p.widths (p.ranges ++ p.fields))

pub without_is : (p : Parts) → firsts_without_fields (firsts_of p) ≡ firsts_of (without_fields p)
without_is p = refl

pub free_is : (free : Bool) (p : Parts) → firsts_if_free free (firsts_of p) ≡ firsts_of (if free then without_fields p else p)
free_is true p = refl
free_is false p = refl

pub two_parts : (p q : Parts) → first_in_kinds (firsts_beside (firsts_of p) (firsts_of q)) ≡ first (in_kinds (beside p q))
two_parts p q = ap first_in_kinds (sym (beside_firsts p q)) ∙ first_kinds (beside p q)

pub set_kinds : (p q : Parts) → first_in_kinds (firsts_without_fields (firsts_beside (firsts_of p) (firsts_of q))) ≡ first (in_kinds (without_fields (beside p q)))
set_kinds p q = ap (λ x. first_in_kinds (firsts_without_fields x)) (sym (beside_firsts p q)) ∙ first_kinds (without_fields (beside p q))

pub three_parts : (p q r : Parts) → first_in_kinds (firsts_beside (firsts_of p) (firsts_beside (firsts_of q) (firsts_of r))) ≡ first (in_kinds (beside p (beside q r)))
three_parts p q r = ap (λ x. first_in_kinds (firsts_beside (firsts_of p) x)) (sym (beside_firsts q r)) ∙ two_parts p (beside q r)

pub size_alone : (z : Option Size) → option_or z None ≡ z
size_alone None = refl
size_alone (Some y) = refl

-- a result alone is copied
pub result_kinds : (p q : Parts) → first_in_kinds (firsts_beside (firsts_of p) (firsts_of q)) ≡ first (in_kinds (beside (beside p no_parts) (beside q no_parts)))
result_kinds p q =
    ap (λ x. first_in_kinds (firsts_beside x (firsts_of q))) (sym (beside_firsts p no_parts ∙ beside_none (firsts_of p)))
    ∙ (ap (λ x. first_in_kinds (firsts_beside (firsts_of (beside p no_parts)) x)) (sym (beside_firsts q no_parts ∙ beside_none (firsts_of q)))
    ∙ two_parts (beside p no_parts) (beside q no_parts))

-- ---- expressions by their roles

module _ (e : KnownNumbers) where
  pub asked_found : (r : Role) (z : Option Size) (x : Expr) → firsts_found r z (look_of e (record { place = None; size = size_in r z x }) x) ≡ firsts_of (asked_as e r z x)
  asked_found role.Operand z x = refl
  asked_found role.Count z x =
      ap (three (first ((told e x).widths None)) (first (told e x).ranges))
      (sym (count_is e (is_inline x) (is_count z (the_number (inline_value e x))) (ImmRange (span_of x)) ((told e x).operands z)))
  asked_found role.Address z x =
      ap (three (first ((told e x).widths None)) (first (told e x).ranges)) (sym (first_unless (has_fields (told e x)) (ImmRange (span_of x))))
  asked_found role.Test z x =
      ap (three (first ((told e x).widths None)) (first (told e x).ranges)) (sym (first_if (is_inline x) [] ((told e x).operands (size_compared x))))

  -- ---- lists, one part after another

  pub next_operand :
      (f : Firsts) (r : Roles) (z : Option Size) (x : Expr) (xs : List Expr)
      → firsts_beside (firsts_beside f (firsts_of (asked_as e r.first z x))) (firsts_of (operand_parts e (all_in r.later) z xs))
      ≡ firsts_beside f (firsts_of (operand_parts e r z (x ∷ xs)))
  next_operand f r z x xs =
      beside_three f (firsts_of (asked_as e r.first z x)) (firsts_of (operand_parts e (all_in r.later) z xs))
      ∙ ap (firsts_beside f) (sym (beside_firsts (asked_as e r.first z x) (operand_parts e (all_in r.later) z xs)))

  pub next_left :
      (f : Firsts) (d : Lval) (ds : List Lval)
      → firsts_beside (firsts_beside f (firsts_of (asked_if e role.Operand None (left_access d)))) (firsts_of (left_parts e ds))
      ≡ firsts_beside f (firsts_of (left_parts e (d ∷ ds)))
  next_left f d ds =
      beside_three f (firsts_of (asked_if e role.Operand None (left_access d))) (firsts_of (left_parts e ds))
      ∙ ap (firsts_beside f) (sym (beside_firsts (asked_if e role.Operand None (left_access d)) (left_parts e ds)))
