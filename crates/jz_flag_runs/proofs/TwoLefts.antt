-- A statement of two results: its right side, and then both left sides.
use Rattle.std.proofs.Common.{◌≡◌, ℕ, Bool, true, false, List, [], ◌∷◌, ◌++◌, Some, None, refl, sym, ap, ◌∙◌, subst, append_assoc}
use Rattle.std.specs.Prelude.{if◌then◌else◌}
use Rattle.std.specs.Option.{option_or}
use Rattle.jz_io.specs.declared.span.Span.{Span}
use Rattle.jz_words.specs.declared.size.Size.{Size}
use Rattle.jz_tree.specs.declared.expr.BinOp.{BinOp}
use Rattle.jz_tree.specs.declared.expr.Expr.{Expr}
use Rattle.jz_tree.specs.declared.expr.Expr.TheVariants as expr
use Rattle.jz_tree.specs.declared.expr.Expr.TheViews.{out-Expr}
use Rattle.jz_tree.specs.declared.stmt.Lval.{Lval}
use Rattle.jz_runs.specs.Rules.{went}
use Rattle.jz_meaning.specs.declared.value.Why.TheVariants.{Init}
use Rattle.jz_meaning.specs.Attempts.{Evaluation, stuck_at, and_then}
use Rattle.jz_meaning.specs.States.{State}
use Rattle.jz_meaning.specs.Values.{own_size}
use Rattle.jz_meaning.specs.Assignments.{Layer, left_sizes, Results, is_flag, with_two, with_three, two_of, results_of, conditioned, all_written, assigned}
use Rattle.jz_operations.specs.declared.operation.Arg.{Arg}
use Rattle.jz_homes.specs.Homes.{Homes}
use Rattle.jz_homes.specs.Operands.{Leaks, IsArg}
use Rattle.jz_homes.proofs.Parts.{both_went, went_same}
use Rattle.jz_flag_rows.proofs.Outs.{out_bin}
use Rattle.jz_flag_rows.proofs.Operands.{ArgLayer, l_word, l_number, l_scalar, l_cell, l_load, arg_layer}

-- ---- which of the two the source does
pub chosen_then : {A : Type 0} (b : Bool) (x y : Evaluation A) (ns : List ℕ) (v : A) → (if b then x else y) ≡ went ns v → (y ≡ went ns v → ⊥) → x ≡ went ns v
chosen_then true x y ns v e h = e
chosen_then false x y ns v e h = absurd (h e)

chosen_else : {A : Type 0} (b : Bool) (x y : Evaluation A) (ns : List ℕ) (v : A) → (if b then x else y) ≡ went ns v → (x ≡ went ns v → ⊥) → y ≡ went ns v
chosen_else true x y ns v e h = absurd (h e)
chosen_else false x y ns v e h = e

stuck_layer : {home : Homes} {y : Size} {l : Layer} {x : Arg} {p : Leaks} (op : BinOp) (a c : Expr) (at : Span) (z : Size) (s : State) → ArgLayer home y l x p → with_three op l a c at z s ≡ stuck_at at Init
stuck_layer op a c at z s (l_word x n h) = refl
stuck_layer op a c at z s (l_number i here) = refl
stuck_layer op a c at z s (l_scalar x w h) = refl
stuck_layer op a c at z s (l_cell x e n w t b i cells is index) = refl
stuck_layer op a c at z s (l_load m t k is address) = refl

-- an operand is no sum
three_stuck : {home : Homes} {y : Size} {a : Expr} {x : Arg} {p : Leaks} (op : BinOp) (c : Expr) (at : Span) (z : Size) (s : State) (ns : List ℕ) (rs : Results) → IsArg home y a x p → with_three op (out-Expr a) a c at z s ≡ went ns rs → ⊥
three_stuck {home} {y} {a} {x} {p} op c at z s ns rs ia run =
    let g : ◌≡◌ {A = Evaluation Results} (stuck_at at Init) (went ns rs) = sym (stuck_layer op a c at z s (arg_layer home y a x p ia)) ∙ run in
    absurd cc

-- so two operands are two words
pub two_words : {home : Homes} {y : Size} {a : Expr} {x : Arg} {p : Leaks} (op : BinOp) (c : Expr) (at here : Span) (z : Size) (s : State) (ns : List ℕ) (rs : Results) → IsArg home y a x p → two_of (out-Expr (expr.Bin op a c at)) here (Some z) s ≡ went ns rs → with_two op a c at z s ≡ went ns rs
two_words {a = a} op c at here z s ns rs ia run =
    let opened : (if is_flag c then with_three op (out-Expr a) a c at z s else with_two op a c at z s) ≡ went ns rs = ap (λ w. two_of w here (Some z) s) (sym (out_bin op a c at)) ∙ run in
    chosen_else (is_flag c) (with_three op (out-Expr a) a c at z s) (with_two op a c at z s) ns rs opened (λ e. three_stuck op c at z s ns rs ia e)

-- ---- what the two left sides get, and the numbers of the right side before theirs
pub record TwoLefts (here : Span) (z : Size) (l d : Lval) (e : Expr) (s t : State) (ns : List ℕ) : Type 0 where
  pub first : List ℕ
  pub rs : Results
  pub third : List ℕ
  pub came : two_of (out-Expr e) here (Some z) s ≡ went first rs
  pub wrote : all_written here (Some z) (l ∷ d ∷ []) rs s ≡ went third t
  pub numbers : ns ≡ first ++ third

without : (a b c ns : List ℕ) → ns ≡ a ++ (b ++ c) → b ≡ [] → ns ≡ a ++ c
without a b c ns e f = e ∙ ap (λ y. a ++ (y ++ c)) f

pub two_lefts : {z : Size} {l d : Lval} (e : Expr) (here : Span) (s t : State) (ns : List ℕ) → option_or (left_sizes (l ∷ d ∷ [])) (own_size e) ≡ Some z → assigned (l ∷ d ∷ []) None e None here s ≡ went ns t → TwoLefts here z l d e s t ns
two_lefts {z} {l} {d} e here s t ns size run =
    let run' : and_then (two_of (out-Expr e) here (Some z) s) (λ vs. and_then (went [] vs) (λ ws. all_written here (Some z) (l ∷ d ∷ []) ws s)) ≡ went ns t =
    subst (λ w. and_then (results_of (l ∷ d ∷ []) e here w s) (λ vs. and_then (conditioned (l ∷ d ∷ []) None here vs s) (λ ws. all_written here w (l ∷ d ∷ []) ws s)) ≡ went ns t) size run in
    let g = both_went (two_of (out-Expr e) here (Some z) s) (λ vs. and_then (went [] vs) (λ ws. all_written here (Some z) (l ∷ d ∷ []) ws s)) ns t run' in
    let k = both_went (went [] g.value) (λ ws. all_written here (Some z) (l ∷ d ∷ []) ws s) g.second t g.went_on in
    let w = went_same [] k.first g.value k.value k.came in
    record {
      first = g.first;
      rs = g.value;
      third = k.second;
      came = g.came;
      wrote = subst (λ y. all_written here (Some z) (l ∷ d ∷ []) y s ≡ went k.second t) (sym w.1) k.went_on;
      numbers = without g.first k.first k.second ns (g.numbers ∙ ap (λ y. g.first ++ y) k.numbers) (sym w.0);
    }

pub joined : (a b c ns : List ℕ) → ns ≡ (a ++ b) ++ c → ns ≡ a ++ (b ++ c)
joined a b c ns e = e ∙ append_assoc a b c
