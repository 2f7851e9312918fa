-- Right sides in states that agree: the same where all that is read is public.
use Rattle.std.proofs.Common.{◌≡◌, ℕ, Bool, true, false, List, [], ◌∷◌, Option, Some, None, refl, sym, ap, subst, ◌∙◌, if◌then◌else◌}
use Rattle.jz_tree.specs.Span.{Span}
use Rattle.x64_insn.specs.Size.{Size}
use Rattle.jz_tree.specs.declared.expr.BinOp.{BinOp}
use Rattle.jz_tree.specs.declared.expr.BinOp.TheVariants as o
use Rattle.jz_tree.specs.declared.expr.Expr.{Expr}
use Rattle.jz_tree.specs.declared.expr.Expr.TheOpen.{Expr-F}
use Rattle.jz_tree.specs.declared.expr.Expr.TheViews.{out-Expr, roll-Expr, roll-out-Expr}
use Rattle.jz_tree.specs.declared.stmt.Lval.{Lval}
use Rattle.jz_meaning.specs.declared.value.Why.TheVariants.{Init}
use Rattle.jz_meaning.specs.Attempts.{Evaluation, stuck_at, and_then, defined}
use Rattle.jz_meaning.specs.States.{Value, Key, State}
use Rattle.jz_meaning.specs.Values.{evaluated}
use Rattle.jz_meaning.specs.Assignments.{Layer, Results, left_size, as_expr, is_flag, carries, last_left, word_in, bool_in, two_results, with_two, with_three, two_of, results_of, old_value, chosen, conditioned}
use Rattle.jz_terms.specs.Terms.{Term, bin, term_of}
use Rattle.jz_terms.proofs.Bridge.{term_is}
use Rattle.jz_labels.specs.Operations.{read_if, with_condition}
use Rattle.jz_labels.specs.Labels.{Publics}
use Rattle.jz_equal_leaks.specs.TwoRuns.{BothGive}
use Rattle.jz_equal_leaks.specs.Agreeing.{Agree}
use Rattle.jz_equal_leaks.proofs.Parts.{first_give, then_give, Silent}
use Rattle.jz_equal_leaks.proofs.Links.{Linked, two_linked, three_linked, linked_then, Given, AllGiven, left_given, right_given, links, word_links, bool_links}

pub term_of_two : (w : Expr) (op : BinOp) (x y : Expr) (at : Span) → out-Expr w ≡ Expr-F.Bin op x y at → term_of w ≡ bin op (term_of x) (term_of y) at
term_of_two w op x y at e = ap term_of (sym (roll-out-Expr w) ∙ ap roll-Expr e) ∙ term_is (Expr-F.Bin op x y at)

silent_two : (op : BinOp) (at : Span) (s : Size) (a b : ℕ) (c : Bool) → Silent (two_results op at s a b c)
silent_two o.OrElse at s a b c = tt
silent_two o.AndThen at s a b c = tt
silent_two o.Or at s a b c = tt
silent_two o.Xor at s a b c = tt
silent_two o.And at s a b c = tt
silent_two o.Eq at s a b c = tt
silent_two o.Ne at s a b c = tt
silent_two o.Lt at s a b c = tt
silent_two o.Le at s a b c = tt
silent_two o.Gt at s a b c = tt
silent_two o.Ge at s a b c = tt
silent_two o.LtS at s a b c = tt
silent_two o.LeS at s a b c = tt
silent_two o.GtS at s a b c = tt
silent_two o.GeS at s a b c = tt
silent_two o.Shl at s a b c = tt
silent_two o.Shr at s a b c = tt
silent_two o.Sar at s a b c = tt
silent_two o.Rol at s a b c = tt
silent_two o.Ror at s a b c = tt
silent_two o.Add at s a b c = refl
silent_two o.Sub at s a b c = refl
silent_two o.Mul at s a b c = refl
silent_two o.Div at s a b c = tt
silent_two o.Rem at s a b c = tt
silent_two o.DivS at s a b c = tt
silent_two o.RemS at s a b c = tt

module _ (in_frame : Key → Bool) (arrays s : Publics) (z : Bool) (a b : State) (g : Agree in_frame arrays s a b) where
  abbrev Both : {A : Type 0} → Evaluation A → Evaluation A → Type 0
  Both e d = BothGive (Linked z) e d

  abbrev IsGiven : Expr → Type 0
  IsGiven e = Given in_frame arrays s z (term_of e)

  -- ---- two results

  two_link : (op : BinOp) (x y : Expr) (at : Span) (k : Size) → IsGiven x → IsGiven y → Both (with_two op x y at k a) (with_two op x y at k b)
  two_link op x y at k h i =
      then_give (Linked {A = ℕ} z) (Linked {A = Results} z) (word_in at k x a) (word_in at k x b) _ _ (word_links in_frame arrays s z a b g at k x h)
      (λ n m r. then_give (Linked {A = ℕ} z) (Linked {A = Results} z) (word_in at k y a) (word_in at k y b) _ _ (word_links in_frame arrays s z a b g at k y i)
      (λ p q t. two_linked z (λ i j. two_results op at k i j false) n m p q (λ i j. silent_two op at k i j false) r t))

  three_link : (op : BinOp) (l : Layer) (x c : Expr) (at : Span) (k : Size) → out-Expr x ≡ l → IsGiven x → IsGiven c → Both (with_three op l x c at k a) (with_three op l x c at k b)
  three_link op (Expr-F.Bin p u v inner) x c at k e h i = by (carries op p)
    where
      parts : Given in_frame arrays s z (bin p (term_of u) (term_of v) inner)
      parts = subst (λ (t : Term). Given in_frame arrays s z t) (term_of_two x p u v inner e) h

      by : (q : Bool) → Both
          (if q then and_then (word_in at k u a) (λ n. and_then (word_in at k v a) (λ m. and_then (bool_in at c a) (two_results op at k n m))) else stuck_at at Init)
          (if q then and_then (word_in at k u b) (λ n. and_then (word_in at k v b) (λ m. and_then (bool_in at c b) (two_results op at k n m))) else stuck_at at Init)
      by true =
          then_give (Linked {A = ℕ} z) (Linked {A = Results} z) (word_in at k u a) (word_in at k u b) _ _ (word_links in_frame arrays s z a b g at k u (left_given in_frame arrays s z p (term_of u) (term_of v) inner parts))
          (λ n m r. then_give (Linked {A = ℕ} z) (Linked {A = Results} z) (word_in at k v a) (word_in at k v b) _ _ (word_links in_frame arrays s z a b g at k v (right_given in_frame arrays s z p (term_of u) (term_of v) inner parts))
          (λ n2 m2 r2. then_give (Linked {A = Bool} z) (Linked {A = Results} z) (bool_in at c a) (bool_in at c b) _ _ (bool_links in_frame arrays s z a b g at c i)
          (λ d f t. three_linked z (two_results op at k) n m n2 m2 d f (silent_two op at k) r r2 t)))
      by false = tt
  three_link op (Expr-F.Num n i) x c at k e h j = tt
  three_link op (Expr-F.Expr::Bool n i) x c at k e h j = tt
  three_link op (Expr-F.Var v) x c at k e h j = tt
  three_link op (Expr-F.Cell v i) x c at k e h j = tt
  three_link op (Expr-F.Load p) x c at k e h j = tt
  three_link op (Expr-F.Neg u i) x c at k e h j = tt
  three_link op (Expr-F.Not u i) x c at k e h j = tt
  three_link op (Expr-F.Cast y q u i) x c at k e h j = tt

  layer_link : (l : Layer) (e : Expr) (at : Span) (k : Option Size) → out-Expr e ≡ l → IsGiven e → Both (two_of l at k a) (two_of l at k b)
  layer_link (Expr-F.Bin op x y inner) e at (Some k) q h = by (is_flag y)
    where
      parts : Given in_frame arrays s z (bin op (term_of x) (term_of y) inner)
      parts = subst (λ (t : Term). Given in_frame arrays s z t) (term_of_two e op x y inner q) h

      left : IsGiven x
      left = left_given in_frame arrays s z op (term_of x) (term_of y) inner parts

      right : IsGiven y
      right = right_given in_frame arrays s z op (term_of x) (term_of y) inner parts

      by : (f : Bool) → Both (if f then with_three op (out-Expr x) x y inner k a else with_two op x y inner k a) (if f then with_three op (out-Expr x) x y inner k b else with_two op x y inner k b)
      by true = three_link op (out-Expr x) x y inner k refl left right
      by false = two_link op x y inner k left right
  layer_link (Expr-F.Bin op x y inner) e at None q h = tt
  layer_link (Expr-F.Num n i) e at k q h = tt
  layer_link (Expr-F.Expr::Bool n i) e at k q h = tt
  layer_link (Expr-F.Var v) e at k q h = tt
  layer_link (Expr-F.Cell v i) e at k q h = tt
  layer_link (Expr-F.Load p) e at k q h = tt
  layer_link (Expr-F.Neg u i) e at k q h = tt
  layer_link (Expr-F.Not u i) e at k q h = tt
  layer_link (Expr-F.Cast y r u i) e at k q h = tt

  -- ---- results, and what a condition makes of them

  pub results_link : (to : List Lval) (e : Expr) (at : Span) (k : Option Size) → IsGiven e → Both (results_of to e at k a) (results_of to e at k b)
  results_link [] e at k h = tt
  results_link (d ∷ []) e at k h = linked_then z (evaluated e k a) (evaluated e k b) _ (links in_frame arrays s z a b g e h k) (λ v. refl)
  results_link (f ∷ d ∷ []) e at k h = layer_link (out-Expr e) e at k refl h
  results_link (f ∷ d ∷ c ∷ ds) e at k h = tt

  old_by : (q : Option Expr) (at : Span) (k : Option Size) → AllGiven in_frame arrays s z (read_if q) → Both (and_then (defined at q) (λ e. evaluated e k a)) (and_then (defined at q) (λ e. evaluated e k b))
  old_by None at k h = tt
  old_by (Some e) at k h =
      first_give (Linked {A = Value} z) [] (evaluated e k a) (evaluated e k b) (links in_frame arrays s z a b g e h.0 k)

  old_link : (to : List Lval) (c : Expr) (at : Span) → AllGiven in_frame arrays s z (with_condition (Some c) (last_left to)) → Both (old_value to at a) (old_value to at b)
  old_link [] c at h = tt
  old_link (d ∷ []) c at h = old_by (as_expr d) at (left_size d) h.1
  old_link (d ∷ f ∷ ds) c at h = tt

  pub conditioned_link : (to : List Lval) (c : Option Expr) (at : Span) (vs ws : Results) → Linked z vs ws → AllGiven in_frame arrays s z (with_condition c (last_left to)) → Both (conditioned to c at vs a) (conditioned to c at ws b)
  conditioned_link to None at vs ws l h = (refl, l)
  conditioned_link to (Some c) at vs ws l h =
      then_give (Linked {A = Bool} z) (Linked {A = Results} z) (bool_in at c a) (bool_in at c b) _ _ (bool_links in_frame arrays s z a b g at c h.0)
      (λ x y r. then_give (Linked {A = Value} z) (Linked {A = Results} z) (old_value to at a) (old_value to at b) _ _ (old_link to c at h)
      (λ v w t. (refl, λ e. ap (λ (q : Bool). chosen q vs v) (r e) ∙ ap (λ (q : Results). chosen y q v) (l e) ∙ ap (λ (q : Value). chosen y ws q) (t e))))
