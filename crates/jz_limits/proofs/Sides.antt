-- Left sides of operations, and lists with their first limits.
use Rattle.std.proofs.Common.{◌≡◌, Bool, true, false, List, [], ◌∷◌, ◌++◌, Option, Some, None, refl, sym, ap, ◌∙◌, if◌then◌else◌}
use Rattle.std.specs.Prelude.{ℤ, not, ◌&&◌, ◌||◌, option_to_list}
use Rattle.std.specs.List.{list_any}
use Rattle.jz_limits.specs.Limits.{Limit}
use Rattle.jz_limits.specs.declared.looked.Asking.{Asking}
use Rattle.jz_limits.specs.declared.looking.Operand.{Operand}
use Rattle.jz_limits.specs.Asked.{unless, bad_scale, is_scale}
use Rattle.jz_limits.specs.InnerLooked.{first, sooner, if_not, are_scales, scale_value, Seen, seen_of, operation_seen, seen_left}

pub last_operand : (q : Asking) (xs : List Operand) (x : Operand) (s : Seen) → seen_left q (xs ++ x ∷ []) s ≡ seen_left q xs (operation_seen q x.op x.span s (seen_of x.right))
last_operand q [] x s = refl
last_operand q (y ∷ xs) x s = ap (λ z. operation_seen q y.op y.span z (seen_of y.right)) (last_operand q xs x s)

pub first_both : (xs ys : List Limit) → first (xs ++ ys) ≡ sooner (first xs) (first ys)
first_both [] ys = refl
first_both (x ∷ xs) ys = refl

pub first_unless : (fine : Bool) (l : Limit) → first (unless fine l) ≡ if_not fine l
first_unless true l = refl
first_unless false l = refl

pub first_if : (c : Bool) (xs ys : List Limit) → first (if c then xs else ys) ≡ (if c then first xs else first ys)
first_if true xs ys = refl
first_if false xs ys = refl

not_both : (a b : Bool) → not (a || b) ≡ (not a && not b)
not_both true b = refl
not_both false b = refl

or_three : (a b c d : Bool) → d ≡ (b || c) → (a || d) ≡ ((a || b) || c)
or_three true b c d h = refl
or_three false b c d h = h

any_both : (xs ys : List ℤ) → list_any bad_scale (xs ++ ys) ≡ (list_any bad_scale xs || list_any bad_scale ys)
any_both [] ys = refl
any_both (x ∷ xs) ys = or_three (bad_scale x) (list_any bad_scale xs) (list_any bad_scale ys) (list_any bad_scale (xs ++ ys)) (any_both xs ys)

pub scales_both : (xs ys : List ℤ) → are_scales (xs ++ ys) ≡ (are_scales xs && are_scales ys)
scales_both xs ys = ap not (any_both xs ys) ∙ not_both (list_any bad_scale xs) (list_any bad_scale ys)

one_scale : (b : Bool) → not (not b || false) ≡ b
one_scale true = refl
one_scale false = refl

pub scale_one : (n : Option ℤ) → are_scales (option_to_list n) ≡ scale_value n
scale_one None = refl
scale_one (Some n) = one_scale (is_scale n)
