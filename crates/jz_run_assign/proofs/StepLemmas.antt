-- Two lists in step: one part for each pair, from left to right, as far as a loop has come.
use Rattle.std.proofs.Common.{◌≡◌, ℕ, ◌+◌, ◌<◌, ◌≤◌, List, [], ◌∷◌, length, drop, get_or, Some, None, refl, sym, ap, ◌∙◌, arith, length-drop}
use Rattle.std.proofs.lemmas.List.{drop_all}
use Rattle.std.specs.Prelude.{slice_get}
use Rattle.jz_tree.specs.Span.{Span}
use Rattle.jz_tree.specs.declared.expr.Expr.{Expr}
use Rattle.jz_tree.specs.declared.expr.Var.{Var}
use Rattle.jz_tree.specs.declared.stmt.Lval.{Lval}
use Rattle.jz_tree.specs.declared.program.Param.{Param}
use Rattle.jz_meaning.specs.Rules.{stuck, went}
use Rattle.jz_meaning.specs.declared.value.Stuck.{Stuck}
use Rattle.jz_meaning.specs.Attempts.{Evaluation, numbers_first, and_then}
use Rattle.jz_meaning.specs.States.{Store, State}
use Rattle.jz_meaning.specs.Values.{ref_of}
use Rattle.jz_meaning.specs.Statements.{array_of, array_back, arrays_back, passed, all_passed, given, all_given}
use Rattle.jz_meaning.proofs.AttemptLemmas.{stuck_then, gone_then}
use Rattle.jz_run_assign.proofs.RestLemmas.{rest_at, rest_some, rest_none}

module _ {X Y S : Type 0} (walk : List X → List Y → S → Evaluation S) (step : X → Y → S → Evaluation S)
    (more : (x : X) (y : Y) (xs : List X) (ys : List Y) (s : S) → walk (x ∷ xs) (y ∷ ys) s ≡ and_then (step x y s) (walk xs ys))
    (xs : List X) (ys : List Y) (i : ℕ) (out : List ℕ) (s : S) (whole : Evaluation S) (so : numbers_first out (walk (drop i xs) (drop i ys) s) ≡ whole) where
  next : (x : X) (y : Y) → i < length xs → x ≡ get_or xs i x → slice_get ys i ≡ Some y → numbers_first out (and_then (step x y s) (walk (drop (i + 1) xs) (drop (i + 1) ys))) ≡ whole
  next x y lt ix iy =
      ap (numbers_first out)
      (sym (more x y (drop (i + 1) xs) (drop (i + 1) ys) s) ∙ ap (λ l. walk (x ∷ drop (i + 1) xs) l s) (sym (rest_some ys i y iy)) ∙ ap (λ l. walk l (drop i ys) s) (sym (rest_at xs i x lt ix)))
      ∙ so

  pub pair_stuck : (x : X) (y : Y) (k : Stuck) → i < length xs → x ≡ get_or xs i x → slice_get ys i ≡ Some y → stuck k ≡ numbers_first out (step x y s) → stuck k ≡ whole
  pair_stuck x y k lt ix iy h = stuck_then out (step x y s) (walk (drop (i + 1) xs) (drop (i + 1) ys)) k h ∙ next x y lt ix iy

  pub pair_goes : (x : X) (y : Y) (ms : List ℕ) (t : S) → i < length xs → x ≡ get_or xs i x → slice_get ys i ≡ Some y → went ms t ≡ numbers_first out (step x y s)
      → numbers_first ms (walk (drop (i + 1) xs) (drop (i + 1) ys) t) ≡ whole
  pair_goes x y ms t lt ix iy h =
      gone_then out ms (step x y s) (walk (drop (i + 1) xs) (drop (i + 1) ys)) t (numbers_first ms (walk (drop (i + 1) xs) (drop (i + 1) ys) t)) h refl ∙ next x y lt ix iy

  -- the second list is shorter
  pub too_few : (x : X) (k z : Stuck) → k ≡ z → ((x : X) (xs : List X) → walk (x ∷ xs) [] s ≡ stuck z) → i < length xs → x ≡ get_or xs i x → slice_get ys i ≡ None → stuck k ≡ whole
  too_few x k z same short lt ix iy =
      ap (λ q. let w : Evaluation S = stuck q in w) same ∙ sym (ap (numbers_first out) (ap (λ l. walk l (drop i ys) s) (rest_at xs i x lt ix) ∙ ap (λ l. walk (x ∷ drop (i + 1) xs) l s) (rest_none ys i iy) ∙ short x (drop (i + 1) xs))) ∙ so

  -- the first list is shorter
  pub too_many : (k z : Stuck) → k ≡ z → ((y : Y) (ys : List Y) → walk [] (y ∷ ys) s ≡ stuck z) → length xs ≤ i → i < length ys → stuck k ≡ whole
  too_many k z same long le lt = by (drop i ys) refl
    where
      by : (l : List Y) → drop i ys ≡ l → stuck k ≡ whole
      by [] e = let none : length (drop i ys) ≡ 0 = ap length e in absurd (omega (arith, length-drop i ys, none, lt))
      by (y ∷ l) e = ap (λ q. let w : Evaluation S = stuck q in w) same ∙ sym (ap (numbers_first out) (ap (λ l. walk l (drop i ys) s) (drop_all i xs le) ∙ ap (λ l. walk [] l s) e ∙ long y l)) ∙ so

-- ---- the parameters and the results of a call

abbrev pub passing : Span → State → List Param → List Expr → Store → Evaluation Store
passing at s ps es inner = all_passed at ps es s inner

abbrev pub pass_one : Span → State → Param → Expr → Store → Evaluation Store
pass_one at s p e inner = passed at (ref_of p.var).kind (ref_of p.var) e s inner

abbrev pub giving : Span → Store → List Lval → List Var → State → Evaluation State
giving at inner ds xs s = all_given at ds xs inner s

abbrev pub give_one : Store → Lval → Var → State → Evaluation State
give_one inner d x s = given (ref_of x).kind (ref_of x) d inner s

-- ---- the arrays of a call, back

back_nil : (ps : List Param) (inner outer : Store) → arrays_back ps [] inner outer ≡ outer
back_nil [] inner outer = refl
back_nil (p ∷ ps) inner outer = refl

module _ (ps : List Param) (es : List Expr) (i : ℕ) (inner outer whole : Store) (so : arrays_back (drop i ps) (drop i es) inner outer ≡ whole) where
  pub back_more : (p : Param) (e : Expr) (next : Store) → i < length ps → p ≡ get_or ps i p → slice_get es i ≡ Some e → next ≡ array_back (ref_of p.var).kind (ref_of p.var) (array_of e) inner outer
      → arrays_back (drop (i + 1) ps) (drop (i + 1) es) inner next ≡ whole
  back_more p e next lt ip ie h =
      ap (arrays_back (drop (i + 1) ps) (drop (i + 1) es) inner) h ∙ ap (λ l. arrays_back (p ∷ drop (i + 1) ps) l inner outer) (sym (rest_some es i e ie))
      ∙ ap (λ l. arrays_back l (drop i es) inner outer) (sym (rest_at ps i p lt ip)) ∙ so

  pub back_short : slice_get es i ≡ None → outer ≡ whole
  back_short ie = sym (ap (λ l. arrays_back (drop i ps) l inner outer) (rest_none es i ie) ∙ back_nil (drop i ps) inner outer) ∙ so
