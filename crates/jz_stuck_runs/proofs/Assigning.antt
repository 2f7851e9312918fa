-- An assignment to one left side, and what all assignments have in common.
use Rattle.std.proofs.Common.{◌≡◌, ℕ, Bool, true, false, List, [], ◌∷◌, Option, Some, None, refl, sym, ap, ◌∙◌, subst, inl, inr}
use Rattle.std.specs.Prelude.{All, is_some}
use Rattle.std.specs.Option.{option_or}
use Rattle.std.proofs.lemmas.Bool.{false≢true}
use Rattle.std.proofs.lemmas.List.Elements.{All-nil, All-cons, All-head}
use Rattle.jz_tree.specs.Span.{Span}
use Rattle.jz_tree.specs.Size.{Size}
use Rattle.jz_tree.specs.declared.expr.BinOp.{BinOp}
use Rattle.jz_tree.specs.declared.expr.Expr.{Expr}
use Rattle.jz_tree.specs.declared.expr.Expr.TheVariants as expr
use Rattle.jz_tree.specs.declared.expr.Decl.{Decl}
use Rattle.jz_tree.specs.declared.expr.Var.{Var}
use Rattle.jz_tree.specs.declared.expr.Expr.TheOpen.{Expr-F}
use Rattle.jz_tree.specs.declared.stmt.Lval.{Lval}
use Rattle.jz_tree.specs.declared.stmt.Lval.TheVariants as lval
use Rattle.jz_type_names.specs.declared.kinds.Kind as known
use Rattle.jz_type_names.specs.declared.kinds.Kind.TheVariants as scope
use Rattle.jz_type_names.specs.Kinds.{Known, known_of, is_array}
use Rattle.jz_type_sizes.specs.Sides.{left_form}
use Rattle.jz_type_sizes.specs.Values.{value_typing}
use Rattle.jz_judgement.specs.Places.{Place, KindGoes, Goes, WordKind, IsWordOf}
use Rattle.jz_judgement.specs.Places as place
use Rattle.jz_judgement.specs.HasType as judged
use Rattle.jz_judgement.specs.HasType.{value, HasType, Says}
use Rattle.jz_judgement.specs.Lefts as lefts
use Rattle.jz_judgement.specs.Lefts.{BoolKind, IsBool, NumberKind, IsNumber, Wants, Leaves, Holds, Own, Takes, Values, value_term}
use Rattle.jz_judgement.proofs.Nothing.{none_not}
use Rattle.jz_judgement.proofs.Holding.{wants_size, leaves_size}
use Rattle.jz_judgement.proofs.LeftSides.{valued}
use Rattle.jz_meaning.specs.declared.value.Stuck as code
use Rattle.jz_meaning.specs.Rules.{stuck, went}
use Rattle.jz_meaning.specs.Attempts.{Evaluation, and_then, defined}
use Rattle.jz_meaning.specs.States.{Value, State}
use Rattle.jz_meaning.specs.Values.{own_size, evaluated}
use Rattle.jz_meaning.specs.Assignments.{left_size, left_sizes, as_expr, last_left, whole_of, Results, bool_in, results_of, old_value, chosen, conditioned, all_written, assigned_whole, assigned}
use Rattle.jz_meaning.specs.Statements.{assign}
use Rattle.jz_run_laws.specs.Kinds.{FitsSize, IsOfKinds}
use Rattle.jz_run_laws.specs.DeclaredKinds.{kinds_of, LeftDeclared}
use Rattle.jz_run_laws.specs.Kept.{IfWent}
use Rattle.jz_run_laws.specs.Lefts.{IsCountedLeft}
use Rattle.jz_run_laws.specs.Values.{IsAt, IsWanted}
use Rattle.jz_run_laws.proofs.Parts.{AnyOf, went_then, went_any}
use Rattle.jz_run_laws.proofs.Expressions.{value_fits}
use Rattle.jz_run_laws.proofs.Stores.{state_fits}
use Rattle.jz_run_laws.proofs.RightSides.{ResultsFit, one_fits}
use Rattle.jz_run_laws.proofs.LeftSizes.{left_law, holds_sound, flag_none, assignment_law}
use Rattle.jz_typed_runs.specs.Reached.{operation}
use Rattle.jz_typed_runs.proofs.OperatorCauses.{IfStuck}
use Rattle.jz_typed_runs.proofs.Causing.{stuck_first, stuck_then}
use Rattle.jz_stuck_runs.specs.Parts as part
use Rattle.jz_stuck_runs.specs.Lacking as lacking
use Rattle.jz_stuck_runs.specs.Lacking.{IsLacking, LacksValue}
use Rattle.jz_stuck_runs.proofs.Steps.{Lacks, weaker, stuck_any}
use Rattle.jz_stuck_runs.proofs.Expressions.{Kept, HasKept, counted_of, at_place, caused, bool_fine}
use Rattle.jz_stuck_runs.proofs.Statements.{InlineNumber}
use Rattle.jz_stuck_runs.proofs.LeftKinds.{number_unsized}
use Rattle.jz_stuck_runs.proofs.LeftSides.{IsLeft, whole_none, declared_number, counted_left, fine_holds, AreFine, LaterLacks, all_fine}
use Rattle.jz_stuck_runs.proofs.Updates.{typed_as, read_kept, whole_is}

-- ---- what is common
module _ (declared : List ℕ → Option Decl) (s : State) (h : IsOfKinds (kinds_of declared) s) (to : List Lval) (o : Option BinOp) (e : Expr) (cond : Option Expr) (at : Span) where
  abbrev D : code.Stuck → Type 0
  D = LacksValue (operation (assign to o e cond at)) s

  module _ (w : Expr) (is : whole_of (last_left to) o e ≡ Some w) where
    abbrev z : Option Size
    z = option_or (left_sizes to) (own_size w)

    written_fine : (ns ms : List ℕ) (vs ws : Results) → results_of to w at z s ≡ went ns vs → conditioned to cond at vs s ≡ went ms ws → AreFine declared z to ws → ResultsFit ws
        → All (LeftDeclared (kinds_of declared)) to → IfStuck (Lacks D) (all_written at z to ws s)
    written_fine ns ms vs ws a b f r d =
        weaker (Lacks (LaterLacks declared z to ws s)) (Lacks D) (all_written at z to ws s)
        (λ u c i. (let y = c i in lacking.evaluated (part.left_side (part.assigned is refl a b) y.reached y.lacks.of_left) y.lacks.lacks))
        (all_fine declared at z to ws s f d r h)

    pub finish : (Q R : Results → Type 0) → All (LeftDeclared (kinds_of declared)) to → IfStuck (Lacks (IsLacking w s)) (results_of to w at z s) → IfWent Q (results_of to w at z s)
        → ((vs : Results) → Q vs → IfStuck (Lacks D) (conditioned to cond at vs s)) → ((vs : Results) → Q vs → IfWent R (conditioned to cond at vs s))
        → ((ws : Results) → R ws → AreFine declared z to ws × ResultsFit ws) → IfStuck (Lacks D) (assigned to o e cond at s)
    finish Q R d a b k l m =
        subst (λ x. IfStuck (Lacks D) (assigned_whole to x cond at s)) (sym is)
        (stuck_then (Lacks D) Q (results_of to w at z s) (λ vs. and_then (conditioned to cond at vs s) (λ ws. all_written at z to ws s))
        (weaker (Lacks (IsLacking w s)) (Lacks D) (results_of to w at z s) (λ u c i. lacking.evaluated (part.right_side is) (c i)) a)
        b
        (λ ns vs x q. stuck_then (Lacks D) R (conditioned to cond at vs s) (λ ws. all_written at z to ws s) (k vs q) (l vs q)
        (λ ms ws y r. written_fine ns ms vs ws x y (m ws r).0 (m ws r).1 d)))

-- ---- sizes
pub sized_term : (o : Option BinOp) (d : Lval) (e : Expr) (z : Size) → HasType (value_term o d e) (place.word z) → Says (value_term o d e) z → (value_typing o d e).form.size ≡ Some z
sized_term o d e z t s = by_size (value_typing o d e).form.size refl ((valued o d e).agrees.said z s)
  where
    by_size : (x : Option Size) → (value_typing o d e).form.size ≡ x → is_some x ≡ true → (value_typing o d e).form.size ≡ Some z
    by_size None i n = absurd (false≢true n)
    by_size (Some y) i n = i ∙ ap (λ (x : Size). Some x) ((valued o d e).agrees.one y z ((valued o d e).agrees.right (place.word z) t) i)

pub free_term : (o : Option BinOp) (d : Lval) (e : Expr) → HasType (value_term o d e) place.unsized → (value_typing o d e).form.size ≡ None
free_term o d e t = (valued o d e).agrees.free ((valued o d e).agrees.right place.unsized t)

want_size : (d : Lval) (p : Place) (x : Option Size) → Wants d p → IsWanted p (option_or (option_or (left_form d).size None) x)
want_size d p x (lefts.number i) = tt
want_size d p x (lefts.bool b) = tt
want_size d p x (lefts.variable {v = v} {z = z} g) = ap (λ s. option_or (option_or s None) x) (wants_size (lval.Var v) z (lefts.variable g))
want_size d p x (lefts.cell {v = v} {i = i} {z = z} a t) = ap (λ s. option_or (option_or s None) x) (wants_size (lval.Cell v i) z (lefts.cell a t))
want_size d p x (lefts.access {a = a} {z = z} e t) = ap (λ s. option_or (option_or s None) x) (wants_size (lval.Store a) z (lefts.access e t))

own_size_is : (o : Option BinOp) (d : Lval) (e : Expr) (p : Place) → Leaves d p → Own (value_term o d e) p → HasType (value_term o d e) p
    → IsWanted p (option_or (option_or (left_form d).size None) (value_typing o d e).form.size)
own_size_is o d e p l lefts.bool t = tt
own_size_is o d e p l (lefts.sized {z = z} s) t = ap (λ y. option_or (option_or y None) (value_typing o d e).form.size) (leaves_size d (place.word z) l) ∙ sized_term o d e z t s
own_size_is o d e p l lefts.number t = ap (λ y. option_or (option_or y None) (value_typing o d e).form.size) (leaves_size d place.unsized l) ∙ free_term o d e t

-- ---- one left side
pub both_went : {A : Type 0} (P Q : A → Type 0) (g : Evaluation A) → IfWent P g → IfWent Q g → IfWent (λ x. P x × Q x) g
both_went P Q (stuck w) h k = tt
both_went P Q (went ns x) h k = (h, k)

-- a value of the place alone
abbrev OneAt : Place → Results → Type 0
OneAt p [] = ⊥
OneAt p (None ∷ vs) = ⊥
OneAt p (Some v ∷ []) = IsAt p v × FitsSize v
OneAt p (Some v ∷ u ∷ vs) = ⊥

-- what the left side has is read at its size, and is of the place
pub record ReadsBack (declared : List ℕ → Option Decl) (d : Lval) (p : Place) : Type 0 where
  pub read : Expr
  pub is : as_expr d ≡ Some read
  pub kept : HasKept declared read
  pub typed : HasType (value read) p
  pub wanted : IsWanted p (left_size d)

module _ (declared : List ℕ → Option Decl) (s : State) (h : IsOfKinds (kinds_of declared) s) (d : Lval) (o : Option BinOp) (e : Expr) (at : Span) (l : IsLeft declared d) (k : HasKept declared e) where
  abbrev HasIt : Place → Value → Type 0
  HasIt p v = IsAt p v × FitsSize v

  value_went : (w : Expr) (p : Place) (z : Option Size) → HasKept declared w → HasType (value w) p → IsWanted p z → IfWent (HasIt p) (evaluated w z s)
  value_went w p z c t i = both_went (IsAt p) FitsSize (evaluated w z s) (at_place declared s h w p z c t i) (value_fits w z s (state_fits (kinds_of declared) s h))

  results_went : (w : Expr) (p : Place) (z : Option Size) → HasKept declared w → HasType (value w) p → IsWanted p z → IfWent (OneAt p) (results_of (d ∷ []) w at z s)
  results_went w p z c t i = went_then (HasIt p) (OneAt p) (evaluated w z s) (λ v. went [] (Some v ∷ [])) (value_went w p z c t i) (λ v q. q)

  results_fine : (w : Expr) (p : Place) (z : Option Size) → HasKept declared w → HasType (value w) p → IsWanted p z → IfStuck (Lacks (IsLacking w s)) (results_of (d ∷ []) w at z s)
  results_fine w p z c t i = stuck_any (Lacks (IsLacking w s)) (evaluated w z s) (λ v. went [] (Some v ∷ [])) (caused declared s h w p z c t i) (λ v. tt)

  one_done : (p : Place) (z : Option Size) (ws : Results) → Holds p d → IsWanted p z → OneAt p ws → AreFine declared z (d ∷ []) ws × ResultsFit ws
  one_done p z [] g f q = absurd q
  one_done p z (None ∷ vs) g f q = absurd q
  one_done p z (Some v ∷ []) g f q = ((λ t i. fine_holds declared t i d p z v l g f q.0, tt), one_fits (Some v) q.1)
  one_done p z (Some v ∷ u ∷ vs) g f q = absurd q

  -- ---- with a condition
  chosen_one : (p : Place) (c : Bool) (vs : Results) (old : Value) → OneAt p vs → HasIt p old → OneAt p (chosen c vs old)
  chosen_one p true vs old q r = q
  chosen_one p false vs old q r = r

  old_went : (p : Place) → ReadsBack declared d p → IfWent (HasIt p) (old_value (d ∷ []) at s)
  old_went p b =
      subst (λ x. IfWent (HasIt p) (and_then (defined at x) (λ e. evaluated e (left_size d) s))) (sym b.is)
      (went_then (λ x. x ≡ b.read) (HasIt p) (defined at (Some b.read)) (λ e. evaluated e (left_size d) s) refl
      (λ x i. subst (λ y. IfWent (HasIt p) (evaluated y (left_size d) s)) (sym i) (value_went b.read p (left_size d) b.kept b.typed b.wanted)))

  old_fine : (p : Place) (c : Expr) → ReadsBack declared d p → IfStuck (Lacks (LacksValue (operation (assign (d ∷ []) o e (Some c) at)) s)) (old_value (d ∷ []) at s)
  old_fine p c b =
      let C : code.Stuck → Type 0 = Lacks (LacksValue (operation (assign (d ∷ []) o e (Some c) at)) s) in
      subst (λ x. IfStuck C (and_then (defined at x) (λ e. evaluated e (left_size d) s))) (sym b.is)
      (stuck_first C [] (evaluated b.read (left_size d) s)
      (weaker (Lacks (IsLacking b.read s)) C (evaluated b.read (left_size d) s) (λ u c i. lacking.evaluated (part.old_value b.is) (c i))
      (caused declared s h b.read p (left_size d) b.kept b.typed b.wanted)))

  conditioned_fine : (p : Place) (c : Expr) (vs : Results) → HasKept declared c → HasType (value c) place.truth → ReadsBack declared d p
      → IfStuck (Lacks (LacksValue (operation (assign (d ∷ []) o e (Some c) at)) s)) (conditioned (d ∷ []) (Some c) at vs s)
  conditioned_fine p c vs a t b =
      let D : code.Stuck → Type 0 = LacksValue (operation (assign (d ∷ []) o e (Some c) at)) s in
      stuck_any (Lacks D) (bool_in at c s) (λ x. and_then (old_value (d ∷ []) at s) (λ old. went [] (chosen x vs old)))
      (bool_fine declared s h D at c a t (λ u i. lacking.evaluated part.condition i))
      (λ x. stuck_any (Lacks D) (old_value (d ∷ []) at s) (λ old. went [] (chosen x vs old)) (old_fine p c b) (λ old. tt))

  conditioned_went : (p : Place) (c : Expr) (vs : Results) → ReadsBack declared d p → OneAt p vs → IfWent (OneAt p) (conditioned (d ∷ []) (Some c) at vs s)
  conditioned_went p c vs b q =
      went_then (AnyOf {A = Bool}) (OneAt p) (bool_in at c s) (λ x. and_then (old_value (d ∷ []) at s) (λ old. went [] (chosen x vs old))) (went_any (bool_in at c s))
      (λ x t. went_then (HasIt p) (OneAt p) (old_value (d ∷ []) at s) (λ old. went [] (chosen x vs old)) (old_went p b) (λ old r. chosen_one p x vs old q r))

  -- ---- the assignment
  pub record IsPlaced (w : Expr) (p : Place) : Type 0 where
    pub holds : Holds p d
    pub typed : HasType (value_term o d e) p
    pub wanted : IsWanted p (option_or (left_sizes (d ∷ [])) (own_size w))

  one_counted : All IsCountedLeft (d ∷ [])
  one_counted = All-cons IsCountedLeft d [] (counted_left declared d l) (All-nil IsCountedLeft)

  size_is : (w : Expr) → whole_of (Some d) o e ≡ Some w → Takes d (value_term o d e) → option_or (left_sizes (d ∷ [])) (own_size w) ≡ option_or (option_or (left_form d).size None) (value_typing o d e).form.size
  size_is w is t = assignment_law (d ∷ []) d o e w refl is one_counted (counted_of declared e k) (lefts.one t)

  pub placed : (w : Expr) → whole_of (Some d) o e ≡ Some w → Takes d (value_term o d e) → (p : Place) × IsPlaced w p
  placed w is (lefts.wanted p g t) =
      (p, record { holds = inl g; typed = t; wanted = subst (IsWanted p) (sym (size_is w is (lefts.wanted p g t))) (want_size d p (value_typing o d e).form.size g) })
  placed w is (lefts.left p g own t) =
      (p, record { holds = inr g; typed = t; wanted = subst (IsWanted p) (sym (size_is w is (lefts.left p g own t))) (own_size_is o d e p g own t) })

  pub one_assigned : (w : Expr) (p : Place) → whole_of (Some d) o e ≡ Some w → IsPlaced w p → All (LeftDeclared (kinds_of declared)) (d ∷ [])
      → IfStuck (Lacks (LacksValue (operation (assign (d ∷ []) o e None at)) s)) (assigned (d ∷ []) o e None at s)
  one_assigned w p is g f =
      let x = whole_is declared d o e w p l k is g.typed in
      let z = option_or (left_sizes (d ∷ [])) (own_size w) in
      finish declared s h (d ∷ []) o e None at w is (OneAt p) (OneAt p) f (results_fine w p z x.kept x.typed g.wanted) (results_went w p z x.kept x.typed g.wanted)
      (λ vs q. tt) (λ vs q. q) (λ ws q. one_done p z ws g.holds g.wanted q)

  pub one_chosen : (w : Expr) (p : Place) (c : Expr) → whole_of (Some d) o e ≡ Some w → IsPlaced w p → All (LeftDeclared (kinds_of declared)) (d ∷ []) → HasKept declared c → HasType (value c) place.truth → ReadsBack declared d p
      → IfStuck (Lacks (LacksValue (operation (assign (d ∷ []) o e (Some c) at)) s)) (assigned (d ∷ []) o e (Some c) at s)
  one_chosen w p c is g f a t b =
      let x = whole_is declared d o e w p l k is g.typed in
      let z = option_or (left_sizes (d ∷ [])) (own_size w) in
      finish declared s h (d ∷ []) o e (Some c) at w is (OneAt p) (OneAt p) f (results_fine w p z x.kept x.typed g.wanted) (results_went w p z x.kept x.typed g.wanted)
      (λ vs q. conditioned_fine p c vs a t b) (λ vs q. conditioned_went p c vs b q) (λ ws q. one_done p z ws g.holds g.wanted q)

-- ---- kinds
word_goes : (k : Known) (z : Size) → IsWordOf z k → Goes k (place.word z)
word_goes None z g = absurd g
word_goes (Some d) z g = by_kind d.kind g
  where
    by_kind : (k : known.Kind) → WordKind z k → KindGoes k (place.word z)
    by_kind scope.Int g = absurd g
    by_kind scope.Truth g = absurd g
    by_kind (scope.Word y) g = g
    by_kind (scope.Array y) g = absurd g

number_goes : (k : Known) → IsNumber k → Goes k place.integer
number_goes None n = absurd n
number_goes (Some d) n = by_kind d.kind n
  where
    by_kind : (k : known.Kind) → NumberKind k → KindGoes k place.integer
    by_kind scope.Int n = tt
    by_kind scope.Truth n = absurd n
    by_kind (scope.Word y) n = absurd n
    by_kind (scope.Array y) n = absurd n

number_bool : (k : Known) → IsNumber k → IsBool k → ⊥
number_bool None n b = n
number_bool (Some d) n b = by_kind d.kind n b
  where
    by_kind : (k : known.Kind) → NumberKind k → BoolKind k → ⊥
    by_kind scope.Int n b = b
    by_kind scope.Truth n b = n
    by_kind (scope.Word y) n b = n
    by_kind (scope.Array y) n b = n

number_word : (k : Known) (z : Size) → IsNumber k → IsWordOf z k → ⊥
number_word None z n g = n
number_word (Some d) z n g = by_kind d.kind n g
  where
    by_kind : (k : known.Kind) → NumberKind k → WordKind z k → ⊥
    by_kind scope.Int n g = g
    by_kind scope.Truth n g = n
    by_kind (scope.Word y) n g = n
    by_kind (scope.Array y) n g = n

-- ---- what a left side has, where it is a word
module _ (declared : List ℕ → Option Decl) where
  word_back : (d : Lval) (z : Size) → IsLeft declared d → Wants d (place.word z) → (left_size d) ≡ Some z
  word_back d z l g = left_law d (counted_left declared d l) (holds_sound (place.word z) d (inl g)) ∙ wants_size d z g

  pub reads_word : (d : Lval) (p : Place) (z : Size) → IsLeft declared d → Holds p d → (left_form d).size ≡ Some z → ReadsBack declared d p
  reads_word d p z l (inr g) e = absurd (none_not z (sym (leaves_size d p g) ∙ e))
  reads_word d p z l (inl (lefts.number {v = v} i)) e = absurd (none_not z (sym (number_unsized (known_of v) (declared_number declared v (All-head (Kept declared) v [] l.vars) i)) ∙ e))
  reads_word d p z l (inl (lefts.bool {v = v} b)) e = absurd (none_not z (sym (flag_none (lval.Var v) (lefts.variable b)) ∙ e))
  reads_word d p z l (inl (lefts.variable {v = v} {z = y} g)) e = record {
    read = expr.Var v;
    is = refl;
    kept = read_kept declared (lval.Var v) (expr.Var v) refl l;
    typed = typed_as (Expr-F.Var v) (expr.Var v) (place.word y) (expr.rolls-Var v) (judged.variable (word_goes (known_of v) y g));
    wanted = word_back (lval.Var v) y l (lefts.variable g);
  }
  reads_word d p z l (inl (lefts.cell {v = v} {i = i} {z = y} a t)) e = record {
    read = expr.Cell v i;
    is = refl;
    kept = read_kept declared (lval.Cell v i) (expr.Cell v i) refl l;
    typed = typed_as (Expr-F.Cell v i) (expr.Cell v i) (place.word y) (expr.rolls-Cell v i) (judged.cell y a refl t);
    wanted = word_back (lval.Cell v i) y l (lefts.cell a t);
  }
  reads_word d p z l (inl (lefts.access {a = a} {z = y} g t)) e = record {
    read = expr.Load a;
    is = refl;
    kept = read_kept declared (lval.Store a) (expr.Load a) refl l;
    typed = typed_as (Expr-F.Load a) (expr.Load a) (place.word y) (expr.rolls-Load a) (judged.load (judged.sized y g refl t));
    wanted = word_back (lval.Store a) y l (lefts.access g t);
  }

  -- an inline integer
  pub reads_number : (v : Var) (p : Place) → IsLeft declared (lval.Var v) → IsNumber (known_of v) → Holds p (lval.Var v) → ReadsBack declared (lval.Var v) p
  reads_number v p l n (inl (lefts.number i)) = record {
    read = expr.Var v;
    is = refl;
    kept = read_kept declared (lval.Var v) (expr.Var v) refl l;
    typed = typed_as (Expr-F.Var v) (expr.Var v) place.integer (expr.rolls-Var v) (judged.variable (number_goes (known_of v) n));
    wanted = tt;
  }
  reads_number v p l n (inl (lefts.bool b)) = absurd (number_bool (known_of v) n b)
  reads_number v p l n (inl (lefts.variable {z = z} g)) = absurd (number_word (known_of v) z n g)
  reads_number v p l n (inr (lefts.array a)) = absurd (false≢true (sym (whole_none v (is_array (known_of v)) l.part) ∙ a))
  reads_number v p l n (inr (lefts.number m i t)) = absurd (false≢true (sym i ∙ All-head InlineNumber v [] l.inline n))
