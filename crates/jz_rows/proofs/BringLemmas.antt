-- The three ways in which the first operand comes to the destination.
use Rattle.std.proofs.Common.{◌≡◌, ℕ, Bool, true, false, List, [], ◌∷◌, ◌++◌, Option, Some, None, refl, ap, sym, ◌∙◌, append-nil}
use Rattle.std.specs.Prelude.{◌&&◌, if◌then◌else◌}
use Rattle.jz_words.specs.declared.size.Size.{Size}
use Rattle.jz_operations.specs.declared.operation.Arg.{Arg}
use Rattle.jz_operations.specs.declared.operation.Action.{Action}
use Rattle.jz_operations.specs.declared.operation.Action.TheVariants as action
use Rattle.jz_change.specs.declared.change.Number.{Number}
use Rattle.jz_change.specs.declared.change.Numbers.TheVariants.{These}
use Rattle.jz_homes.specs.Operands.{count_of}
use Rattle.jz_row_operations.specs.Table.{same_arg, is_free}
use Rattle.jz_row_operations.specs.Lowering.{numbers_from, both_shown}
use Rattle.jz_operands.specs.declared.operands.Operand.{Operand}
use Rattle.jz_operands.specs.TableHomes.{leaks_of}
use Rattle.jz_rows.specs.declared.row.Act.{Act}
use Rattle.jz_rows.specs.Rows.{nth_of, item_of}
use Rattle.jz_rows.specs.Found.{IsBrought}

abbrev Way : Type 0
Way = Option (List Action × Arg)

abbrev way_of : Bool → Bool → Bool → Size → Arg → Arg → Arg → Way
way_of b1 b2 b3 z d a o =
    if b1 then Some ([], o) else if b2 then Some ([], a) else if b3 then Some (action.Mov z d a ∷ [], o) else None

first_way : (b1 b2 b3 : Bool) (z : Size) (d a o : Arg) → b1 ≡ true → way_of b1 b2 b3 z d a o ≡ Some ([], o)
first_way true b2 b3 z d a o e = refl
first_way false b2 b3 z d a o e = absurd cc

second_way : (b1 b2 b3 : Bool) (z : Size) (d a o : Arg) → b1 ≡ false → b2 ≡ true → way_of b1 b2 b3 z d a o ≡ Some ([], a)
second_way true b2 b3 z d a o e f = absurd cc
second_way false true b3 z d a o e f = refl
second_way false false b3 z d a o e f = absurd cc

third_way : (b1 b2 b3 : Bool) (z : Size) (d a o : Arg) → b1 ≡ false → b2 ≡ false → b3 ≡ true → way_of b1 b2 b3 z d a o ≡ Some (action.Mov z d a ∷ [], o)
third_way true b2 b3 z d a o e f g = absurd cc
third_way false true b3 z d a o e f g = absurd cc
third_way false false true z d a o e f g = refl
third_way false false false z d a o e f g = absurd cc

first_shown : (b1 b2 : Bool) (xs ys : List Number) → b1 ≡ true → These (xs ++ ys) ∷ [] ≡ both_shown b1 b2 xs ys
first_shown true b2 xs ys e = refl
first_shown false b2 xs ys e = absurd cc

second_shown : (b1 b2 : Bool) (xs ys : List Number) → b1 ≡ false → b2 ≡ true → These (ys ++ xs) ∷ [] ≡ both_shown b1 b2 xs ys
second_shown true b2 xs ys e f = absurd cc
second_shown false true xs ys e f = refl
second_shown false false xs ys e f = absurd cc

third_shown : (b1 b2 : Bool) (xs ys : List Number) → b1 ≡ false → b2 ≡ false → These xs ∷ These ys ∷ [] ≡ both_shown b1 b2 xs ys
third_shown true b2 xs ys e f = absurd cc
third_shown false true xs ys e f = absurd cc
third_shown false false xs ys e f = refl

-- the numbers of two places, and of one
pub item_both : (s t : Option ℕ) (xs ys : List Number) → nth_of s ≡ xs → nth_of t ≡ ys → item_of (record { first = s; second = t }) ≡ These (xs ++ ys)
item_both s t xs ys e f = ap (λ l. These (l ++ nth_of t)) e ∙ ap (λ l. These (xs ++ l)) f

pub item_one : (s : Option ℕ) (xs : List Number) → nth_of s ≡ xs → item_of (record { first = s; second = None }) ≡ These xs
item_one s xs e = ap (λ l. These (l ++ [])) e ∙ ap These (append-nil xs)

module _ (swaps : Bool) (z : Size) (d : Arg) (x y : Operand) (s t : Option ℕ)
    (one : nth_of s ≡ numbers_from (leaks_of x.leaks) 0) (other : nth_of t ≡ numbers_from (leaks_of y.leaks) (count_of (leaks_of x.leaks))) where
  abbrev first : List Number
  first = numbers_from (leaks_of x.leaks) 0

  abbrev second : List Number
  second = numbers_from (leaks_of y.leaks) (count_of (leaks_of x.leaks))

  pub in_place : same_arg d x.arg ≡ true → IsBrought swaps z d x y (record { before = None; second = y.arg; shown = record { first = s; second = t } })
  in_place e = record {
    actions = first_way (same_arg d x.arg) (swaps && same_arg d y.arg) (is_free d y.arg) z d x.arg y.arg e;
    items = ap (λ i. i ∷ []) (item_both s t first second one other) ∙ first_shown (same_arg d x.arg) (swaps && same_arg d y.arg) first second e;
  }

  pub swapped : same_arg d x.arg ≡ false → (swaps && same_arg d y.arg) ≡ true → IsBrought swaps z d x y (record { before = None; second = x.arg; shown = record { first = t; second = s } })
  swapped e f = record {
    actions = second_way (same_arg d x.arg) (swaps && same_arg d y.arg) (is_free d y.arg) z d x.arg y.arg e f;
    items = ap (λ i. i ∷ []) (item_both t s second first other one) ∙ second_shown (same_arg d x.arg) (swaps && same_arg d y.arg) first second e f;
  }

module _ (swaps : Bool) (z : Size) (d : Arg) (x y : Operand) (copy : Act) (t : Option ℕ)
    (moved : copy.action ≡ action.Mov z d x.arg) (one : nth_of copy.shown.first ≡ numbers_from (leaks_of x.leaks) 0) (alone : copy.shown.second ≡ None)
    (other : nth_of t ≡ numbers_from (leaks_of y.leaks) (count_of (leaks_of x.leaks))) where
  abbrev firsts : List Number
  firsts = numbers_from (leaks_of x.leaks) 0

  abbrev seconds : List Number
  seconds = numbers_from (leaks_of y.leaks) (count_of (leaks_of x.leaks))

  copy_shows : item_of copy.shown ≡ These firsts
  copy_shows = ap (λ (l : Option ℕ). These (nth_of copy.shown.first ++ nth_of l)) alone ∙ item_one copy.shown.first firsts one

  pub copied : same_arg d x.arg ≡ false → (swaps && same_arg d y.arg) ≡ false → is_free d y.arg ≡ true
      → IsBrought swaps z d x y (record { before = Some copy; second = y.arg; shown = record { first = t; second = None } })
  copied e f g = record {
    actions =
        third_way (same_arg d x.arg) (swaps && same_arg d y.arg) (is_free d y.arg) z d x.arg y.arg e f g
        ∙ ap (λ (a : Action). Some (a ∷ [], y.arg)) (sym moved);
    items =
        ap (λ i. i ∷ item_of (record { first = t; second = None }) ∷ []) copy_shows
        ∙ ap (λ i. These firsts ∷ i ∷ []) (item_one t seconds other) ∙ third_shown (same_arg d x.arg) (swaps && same_arg d y.arg) firsts seconds e f;
  }
