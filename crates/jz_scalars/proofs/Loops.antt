-- Lists that loops make of lists, as far as they have come.
use Rattle.std.proofs.Common.{◌≡◌, ℕ, suc, ◌+◌, ◌<◌, ◌≤◌, List, [], ◌∷◌, ◌++◌, Bool, true, false, length, get_or, drop, sym, ap, ◌∙◌, arith, append_assoc, append-nil}
use Rattle.jz_tree.specs.declared.stmt.Stmt.{Stmt}
use Rattle.jz_change.specs.declared.change.Number.{Number}
use Rattle.jz_change.specs.declared.change.Number.TheVariants.{Nth}
use Rattle.jz_change.specs.declared.change.Step.{Step}
use Rattle.std.specs.Prelude.{slice_get, Some, None}
use Rattle.std.proofs.lemmas.List.{drop-drop}
use Rattle.jz_inline.proofs.Passed.{at_item, at_got, at_end, at_none}
use Rattle.jz_arrays.specs.Cells.{Mask}
use Rattle.jz_arrays.specs.Arrays.{places}
use Rattle.jz_scalars.specs.Scalars.{statement_made, block_made}

-- ---- what each item gives, one behind the other

module _ {A B : Type 0} (f : A → List B) (all : List A → List B) (more : (x : A) (xs : List A) → all (x ∷ xs) ≡ f x ++ all xs) (none : all [] ≡ []) where
  pub next : (xs : List A) (i : ℕ) (x : A) (start out out2 : List B) → i < length xs → x ≡ get_or xs i x → out ++ all (drop i xs) ≡ start → out2 ≡ out ++ f x → out2 ++ all (drop (i + 1) xs) ≡ start
  next xs i x start out out2 lt is left e =
      ap (λ l. l ++ all (drop (i + 1) xs)) e ∙ append_assoc out (f x) (all (drop (i + 1) xs))
      ∙ ap (λ l. out ++ l) (sym (more x (drop (i + 1) xs)))
      ∙ ap (λ l. out ++ all l) (sym (at_item xs i x lt is)) ∙ left

  pub last : (xs : List A) (i : ℕ) (start out : List B) → length xs ≤ i → out ++ all (drop i xs) ≡ start → out ≡ start
  last xs i start out past left =
      sym (append-nil out) ∙ ap (λ l. out ++ l) (sym none) ∙ ap (λ l. out ++ all l) (sym (at_end xs i past)) ∙ left

-- ---- places of numbers

one_place : (i : ℕ) (b : Bool) (m : Mask) → places i (b ∷ m) ≡ places i (b ∷ []) ++ places (i + 1) m
one_place i true m = let e : suc i ≡ i + 1 = omega arith in ap (λ j. Nth i ∷ places j m) e
one_place i false m = let e : suc i ≡ i + 1 = omega arith in ap (λ j. places j m) e

pub some_place : (m : Mask) (i : ℕ) (b : Bool) (out out2 : List Number) → slice_get m i ≡ Some b → out2 ≡ out ++ places i (b ∷ []) → out2 ++ places (i + 1) (drop (i + 1) m) ≡ out ++ places i (drop i m)
some_place m i b out out2 there e =
    ap (λ l. l ++ places (i + 1) (drop (i + 1) m)) e ∙ append_assoc out (places i (b ∷ [])) (places (i + 1) (drop (i + 1) m))
    ∙ ap (λ l. out ++ l) (sym (one_place i b (drop (i + 1) m)))
    ∙ ap (λ l. out ++ places i l) (sym (at_got m i b there))

pub no_place : (m : Mask) (i : ℕ) (out : List Number) → slice_get m i ≡ None → out ++ places (i + 1) (drop (i + 1) m) ≡ out ++ places i (drop i m)
no_place m i out none =
    ap (λ l. out ++ places (i + 1) l) (sym (drop-drop 1 i m) ∙ ap (drop 1) (at_none m i none)) ∙ ap (λ l. out ++ places i l) (sym (at_none m i none))

pub last_place : (m : Mask) (i : ℕ) (start out : List Number) → length m ≤ i → out ++ places i (drop i m) ≡ start → out ≡ start
last_place m i start out past left = sym (append-nil out) ∙ ap (λ l. out ++ places i l) (sym (at_end m i past)) ∙ left

-- ---- statements

-- what is made, with the rest behind it, is all
pub record IsLeft (ss : List Stmt) (i : ℕ) (stmts : List Stmt) (steps : List Step) : Type 0 where
  pub stmts_left : stmts ++ (block_made (drop i ss)).stmts ≡ (block_made ss).stmts
  pub steps_left : steps ++ (block_made (drop i ss)).steps ≡ (block_made ss).steps

pub begun : (ss stmts : List Stmt) (steps : List Step) → stmts ≡ [] → steps ≡ [] → IsLeft ss 0 stmts steps
begun ss stmts steps e f = record { stmts_left = ap (λ l. l ++ (block_made ss).stmts) e; steps_left = ap (λ l. l ++ (block_made ss).steps) f }

pub one_more : (ss : List Stmt) (i : ℕ) (s : Stmt) (stmts stmts2 : List Stmt) (steps steps2 : List Step) → i < length ss → s ≡ get_or ss i s → IsLeft ss i stmts steps
    → stmts2 ≡ stmts ++ (statement_made s).stmt ∷ [] → steps2 ≡ steps ++ (statement_made s).steps → IsLeft ss (i + 1) stmts2 steps2
one_more ss i s stmts stmts2 steps steps2 lt is left e f =
    let rest = block_made (drop (i + 1) ss) in
    record {
      stmts_left =
          ap (λ l. l ++ rest.stmts) e ∙ append_assoc stmts ((statement_made s).stmt ∷ []) rest.stmts
          ∙ ap (λ l. stmts ++ (block_made l).stmts) (sym (at_item ss i s lt is)) ∙ left.stmts_left;
      steps_left =
          ap (λ l. l ++ rest.steps) f ∙ append_assoc steps (statement_made s).steps rest.steps
          ∙ ap (λ l. steps ++ (block_made l).steps) (sym (at_item ss i s lt is)) ∙ left.steps_left;
    }

pub ended_stmts : (ss : List Stmt) (i : ℕ) (stmts : List Stmt) (steps : List Step) → length ss ≤ i → IsLeft ss i stmts steps → stmts ≡ (block_made ss).stmts
ended_stmts ss i stmts steps past left = sym (append-nil stmts) ∙ ap (λ l. stmts ++ (block_made l).stmts) (sym (at_end ss i past)) ∙ left.stmts_left

pub ended_steps : (ss : List Stmt) (i : ℕ) (stmts : List Stmt) (steps : List Step) → length ss ≤ i → IsLeft ss i stmts steps → steps ≡ (block_made ss).steps
ended_steps ss i stmts steps past left = sym (append-nil steps) ∙ ap (λ l. steps ++ (block_made l).steps) (sym (at_end ss i past)) ∙ left.steps_left
