-- Each statement's operations go through, and show the numbers that are said.
use Rattle.std.proofs.Common.{◌≡◌, ℕ, Bool, false, List, [], ◌∷◌, ◌++◌, Option, Some, None, refl, sym, ap, ◌∙◌, subst, append_assoc}
use Rattle.std.specs.Prelude.{not, ◌&&◌}
use Rattle.std.specs.Option.{option_or}
use Rattle.jz_io.specs.declared.span.Span.{Span}
use Rattle.jz_words.specs.declared.size.Size.{Size}
use Rattle.x64_insn.specs.declared.types.Cond.{Cond}
use Rattle.jz_tree.specs.declared.expr.BinOp.{BinOp}
use Rattle.jz_tree.specs.declared.expr.Expr.{Expr}
use Rattle.jz_tree.specs.declared.expr.Var.{Var}
use Rattle.jz_tree.specs.declared.stmt.Lval.{Lval}
use Rattle.jz_tree.specs.declared.stmt.Lval.TheVariants as lval
use Rattle.jz_runs.specs.Rules.{went}
use Rattle.jz_meaning.specs.declared.access.Kind.TheVariants as kind
use Rattle.jz_meaning.specs.States.{Value, State}
use Rattle.jz_meaning.specs.Values.{key_of, ref_of, size_of, own_size}
use Rattle.jz_meaning.specs.Assignments.{left_sizes, whole_of, assigned_whole, assigned, bool_in}
use Rattle.jz_operations.specs.declared.operation.Arg.{Arg}
use Rattle.jz_operations.specs.declared.operation.Arg.TheVariants as arg
use Rattle.jz_operations.specs.declared.operation.Condition.TheVariants as condition
use Rattle.jz_operations.specs.declared.operation.Action.{Action}
use Rattle.jz_operations.specs.declared.operation.Action.TheVariants as action
use Rattle.jz_operations.specs.declared.operation.Operation.{Operation}
use Rattle.jz_operations.specs.Values as over
use Rattle.jz_operations.specs.Rows.{Frame, Done, step}
use Rattle.jz_operations.specs.Reading.{is_var, found_by}
use Rattle.jz_placing.specs.Variables.{numbers_of}
use Rattle.jz_change.specs.declared.change.Numbers.{Numbers}
use Rattle.jz_homes.specs.Homes.{Homes, IsHoming, in_register, IsRelated}
use Rattle.jz_homes.specs.Operands.{Leaks, silent, shown_of, count_of, IsCounted, IsArg}
use Rattle.jz_homes.proofs.Reading.{FormOf}
use Rattle.jz_row_operations.specs.Codes.{no_flag, plain, lasting}
use Rattle.jz_row_operations.specs.Rows.{NotImm, NotBothImm, commutes, alu_of, carry_alu, shift_of, opposite}
use Rattle.jz_row_operations.specs.Table.{same_arg, is_imm, nothing}
use Rattle.jz_row_operations.specs.Lowering.{numbers_from, HasRow, moves, sums, carries, signs, times, times_by as times_number, shifts, shifts_by, extends, lowest, IsCompared, compares, denies, condition_shown}
use Rattle.jz_row_operations.proofs.Items.{AreItems, item, more_items, one_item, nothing_placed, both_placed, first_placed, next_placed, third_placed, shown_in, row_items, at_numbers}
use Rattle.jz_row_operations.proofs.Runs.{runs}
use Rattle.jz_row_operations.proofs.Moves.{append_nil, StepsAs, move_steps}
use Rattle.jz_row_operations.proofs.Sums.{RunsAs, parts, no_name}
use Rattle.jz_row_operations.proofs.Chosen.{with_none, brought_goes, away_from_none, away_from_flag}
use Rattle.jz_row_operations.proofs.Alus.{sum_row, sum_row_swapped, carry_row, carry_row_swapped}
use Rattle.jz_row_operations.proofs.Carries.{carry_parts}
use Rattle.jz_row_operations.proofs.Ones.{one_parts, one_row}
use Rattle.jz_row_operations.proofs.Imuls.{times_parts, times_row, times_row_swapped, times_by}
use Rattle.jz_row_operations.proofs.Shifts.{shift_parts, shift_row, shift_by_parts, shift_by_row}
use Rattle.jz_row_operations.proofs.Casts.{cast_parts, extend_steps, lowest_steps}
use Rattle.jz_row_operations.proofs.Compares.{not_not, size_not, compared_size, denied_bool, Tests, compare_tests, denied_tests}
use Rattle.jz_row_operations.proofs.Conditionals.{conditional_parts, conditional_steps}

-- ---- operands that are no immediates
pub right_not_imm : (x y : Arg) → NotImm y → NotBothImm x y
right_not_imm (arg.Imm i) (arg.Imm j) n = n
right_not_imm (arg.Imm i) (arg.Var v) n = tt
right_not_imm (arg.Imm i) (arg.Mem m) n = tt
right_not_imm (arg.Imm i) (arg.Cell c) n = tt
right_not_imm (arg.Imm i) (arg.At r p) n = tt
right_not_imm (arg.Var v) y n = tt
right_not_imm (arg.Mem m) y n = tt
right_not_imm (arg.Cell c) y n = tt
right_not_imm (arg.At r p) y n = tt

pub left_not_imm : (x y : Arg) → NotImm x → NotBothImm x y
left_not_imm (arg.Imm i) y n = absurd n
left_not_imm (arg.Var v) y n = tt
left_not_imm (arg.Mem m) y n = tt
left_not_imm (arg.Cell c) y n = tt
left_not_imm (arg.At r p) y n = tt

pub word_form : (y : Arg) → NotImm y → (v : Value) → FormOf y v → FormOf (arg.Var 0) v
word_form (arg.Imm i) n v f = absurd n
word_form (arg.Var w) n v f = f
word_form (arg.Mem m) n v f = f
word_form (arg.Cell c) n v f = f
word_form (arg.At r p) n v f = f

pub one_run : (frame : Frame) (o : Operation) (d : Done) (σ : over.State) → step frame o σ ≡ Some d → runs frame (o ∷ []) σ ≡ Some (record { shown = numbers_of d ∷ []; state = d.state })
one_run frame o d σ e = rw e refl

pub two_runs : (frame : Frame) (o1 o2 : Operation) (d1 d2 : Done) (σ : over.State) → step frame o1 σ ≡ Some d1 → step frame o2 d1.state ≡ Some d2
    → runs frame (o1 ∷ o2 ∷ []) σ ≡ Some (record { shown = numbers_of d1 ∷ numbers_of d2 ∷ []; state = d2.state })
two_runs frame o1 o2 d1 d2 σ e f = rw e (rw f refl)

pub pair_shown : {a b c d : List ℕ} → a ≡ b → c ≡ d → ◌≡◌ {A = List (List ℕ)} (a ∷ c ∷ []) (b ∷ d ∷ [])
pair_shown {b = b} {c = c} e f = ap (λ x. x ∷ c ∷ []) e ∙ ap (λ y. b ∷ y ∷ []) f

module _ (frame : Frame) (home : Homes) (homing : IsHoming frame home) (s : State) (σ : over.State) (related : IsRelated home s σ) where
  -- the operations go through, and of these numbers they show those of their items
  pub record Goes (os : List Operation) (items : List Numbers) (t : State) (ns : List ℕ) : Type 0 where
    pub shown' : List (List ℕ)
    pub goes : RunsAs frame home homing s σ related os t shown'
    pub are : AreItems ns items shown'

  pub step_runs : {o : Operation} {t : State} {sh sh2 : List ℕ} → StepsAs frame home homing s σ related o t sh → sh ≡ sh2 → RunsAs frame home homing s σ related (o ∷ []) t (sh2 ∷ [])
  step_runs {o} k e = record {
    ran = record { shown = numbers_of k.done ∷ []; state = k.done.state };
    goes = one_run frame o k.done σ k.steps;
    agrees = k.agrees;
    shows = ap (λ x. x ∷ []) (k.shows ∙ e);
  }

  pub row_goes : {z : Size} {d : Lval} {e : Expr} {acts : List Action} {items : List Numbers} (at here : Span) (t : State) (ns : List ℕ) → HasRow home z d e acts items → option_or (left_sizes (d ∷ [])) (own_size e) ≡ Some z
      → assigned (d ∷ []) None e None here s ≡ went ns t → Goes (lasting at no_flag acts) items t ns
  row_goes at here t ns (moves {p = p} {r = r} ia id) size run =
      let k = move_steps frame home homing s σ related at here t ns size ia id run in
      record {
        shown' = (shown_of r k.1 ++ shown_of p k.0) ∷ [];
        goes = step_runs k.5 (ap (λ l. shown_of r k.1 ++ l) (append_nil (shown_of p k.0)));
        are = at_numbers (k.2 ∙ ap (λ l. k.0 ++ l) (sym (append_nil k.1))) (one_item (both_placed (next_placed p r k.0 k.1 [] k.3 k.4) (first_placed p k.0 (k.1 ++ []) k.3)));
      }
  row_goes {z} at here t ns (sums {o} {x = x} {y = y} {b = b} {p = p} {q = q} {r = r} {acts = acts} there h ia ic id nn e) size run =
      let k = parts frame home homing s σ related o there here t ns h size ia ic id nn run in
      record {
        shown' = shown_in (same_arg b x) (commutes o && same_arg b y) (shown_of p k.first) (shown_of q k.second);
        goes = brought_goes frame home homing s σ related (commutes o) (λ v. action.Alu (alu_of o) z b v None) no_flag [] at z x y b p q r k.first k.second k.third t acts e (away_from_none b)
            (sum_row frame home homing s σ related o at t ns h (no_name ic) k) (λ sw. sum_row_swapped frame home homing s σ related o at t ns h sw (no_name ia) k);
        are = at_numbers k.numbers (row_items (same_arg b x) (commutes o && same_arg b y) (first_placed p k.first (k.second ++ k.third) k.counted_left) (next_placed p q k.first k.second k.third k.counted_left k.counted_right));
      }
  row_goes {z} at here t ns (carries {o} {x = x} {y = y} {b = b} {p = p} {q = q} {r = r} {acts = acts} f c inner there h ia ic id nn isf span e) size run =
      let k = carry_parts frame home homing s σ related o f c.variable inner there here t ns h size ia ic isf id nn run in
      record {
        shown' = shown_in (same_arg b x) (commutes o && same_arg b y) (shown_of p k.first) (shown_of q k.second);
        goes = brought_goes frame home homing s σ related (commutes o) (λ v. action.Alu (carry_alu o) z b v (Some c)) no_flag (c.variable ∷ []) at z x y b p q r k.first k.second k.third t acts e (away_from_flag (key_of (ref_of f)) c.variable homing isf id)
            (carry_row frame home homing s σ related o c at t ns h (no_name ic) k) (λ sw. carry_row_swapped frame home homing s σ related o c at t ns h sw (no_name ia) k);
        are = at_numbers k.numbers (row_items (same_arg b x) (commutes o && same_arg b y) (first_placed p k.first (k.second ++ k.third) k.counted_left) (next_placed p q k.first k.second k.third k.counted_left k.counted_right));
      }
  row_goes {z} at here t ns (signs {o} {x = x} {b = b} {p = p} {r = r} {acts = acts} sign ia id ni e) size run =
      let k = one_parts frame home homing s σ related o here t ns sign ni size ia id run in
      record {
        shown' = shown_in (same_arg b x) false (shown_of p k.first) [];
        goes = brought_goes frame home homing s σ related false (λ v. action.One o z b) no_flag [] at z x nothing b p silent r k.first [] k.second t acts e (away_from_none b)
            (one_row frame home homing s σ related o at t ns k) (λ f. absurd cc);
        are = at_numbers k.numbers (row_items (same_arg b x) false (first_placed p k.first k.second k.counted) (nothing_placed (k.first ++ k.second)));
      }
  row_goes {z} at here t ns (times {x = x} {y = y} {m = m} {p = p} {q = q} {acts = acts} there wide ia ic id ni e) size run =
      let k = times_parts frame home homing s σ related there here t ns size ia ic id (right_not_imm x y ni) run in
      record {
        shown' = shown_in (same_arg (arg.Var m) x) (not (is_imm x) && same_arg (arg.Var m) y) (shown_of p k.first) (shown_of q k.second);
        goes = brought_goes frame home homing s σ related (not (is_imm x)) (action.Imul z m) no_flag [] at z x y (arg.Var m) p q silent k.first k.second k.third t acts e (away_from_none (arg.Var m))
            (with_none frame home homing s σ related (is_var y ++ found_by y) (times_row frame home homing s σ related m at t ns (no_name ic) k))
            (λ sw. with_none frame home homing s σ related (is_var x ++ found_by x) (times_row_swapped frame home homing s σ related m at t ns (no_name ia) k));
        are = at_numbers k.numbers (row_items (same_arg (arg.Var m) x) (not (is_imm x) && same_arg (arg.Var m) y) (first_placed p k.first (k.second ++ k.third) k.counted_left) (next_placed p q k.first k.second k.third k.counted_left k.counted_right));
      }
  row_goes at here t ns (times_number {x = x} {i = i} {m = m} {p = p} there wide ia ic id ni) size run =
      let k = times_parts frame home homing s σ related there here t ns size ia ic id (left_not_imm x (arg.Imm i) ni) run in
      record {
        shown' = shown_of p k.first ∷ [];
        goes = times_by frame home homing s σ related m at t ns k;
        are = at_numbers k.numbers (one_item (first_placed p k.first (k.second ++ k.third) k.counted_left));
      }
  row_goes {z} at here t ns (shifts {o} {x = x} {b = b} {p = p} {r = r} {acts = acts} n there where' h below ia id ni e) size run =
      let k = shift_parts frame home homing s σ related o n where' there here t ns h below ni size ia id run in
      record {
        shown' = shown_in (same_arg b x) false (shown_of p k.first) [];
        goes = brought_goes frame home homing s σ related false (λ v. action.Shift (shift_of o) z b n) no_flag [] at z x nothing b p silent r k.first [] k.second t acts e (away_from_none b)
            (shift_row frame home homing s σ related (shift_of o) n at t ns k) (λ f. absurd cc);
        are = at_numbers k.numbers (row_items (same_arg b x) false (first_placed p k.first k.second k.counted) (nothing_placed (k.first ++ k.second)));
      }
  row_goes {z} at here t ns (shifts_by {o} {x = x} {b = b} {p = p} {r = r} {acts = acts} v c where' inner there h isv span ia id e) size run =
      let w = shift_by_parts frame home homing s σ related o v c.variable there where' inner here t ns h isv size ia id run in
      let k = w.0 in
      record {
        shown' = shown_in (same_arg b x) false (shown_of p k.first) [];
        goes = brought_goes frame home homing s σ related false (λ u. action.ShiftBy (shift_of o) z b c) no_flag [] at z x (arg.Var c.variable) b p silent r k.first [] k.second t acts e (away_from_none b)
            (shift_by_row frame home homing s σ related (shift_of o) c at t ns w.1 k) (λ f. absurd cc);
        are = at_numbers k.numbers (row_items (same_arg b x) false (first_placed p k.first k.second k.counted) (nothing_placed (k.first ++ k.second)));
      }
  row_goes at here t ns (extends {y = y} {m = m} {p = p} sign there own smaller ia ni id) size run =
      let k = cast_parts frame home homing s σ related sign there here t ns own size ia (word_form y ni) id run in
      record {
        shown' = shown_of p k.first ∷ [];
        goes = step_runs (extend_steps frame home homing s σ related sign m at t ns k) refl;
        are = at_numbers k.numbers (one_item (first_placed p k.first k.second k.counted));
      }
  row_goes at here t ns (lowest {n = n} there own le ia id) size run =
      let k = cast_parts frame home homing s σ related false there here t ns own size ia (word_form (arg.Var n) tt) id run in
      record {
        shown' = [] ∷ [];
        goes = step_runs (lowest_steps frame home homing s σ related n at t ns le k) refl;
        are = one_item (nothing_placed ns);
      }

  -- ---- `d = e` and `d op= e`
  pub sets_goes : {d : Lval} (o : Option BinOp) (e : Expr) {w : Expr} {z : Size} {acts : List Action} {items : List Numbers} (at : Span) (t : State) (ns : List ℕ) → whole_of (Some d) o e ≡ Some w → option_or (left_sizes (d ∷ [])) (own_size w) ≡ Some z
      → HasRow home z d w acts items → assigned (d ∷ []) o e None at s ≡ went ns t → Goes (lasting at no_flag acts) items t ns
  sets_goes {d} o e at t ns whole size row run = row_goes at at t ns row size (ap (λ x. assigned_whole (d ∷ []) x None at s) (sym whole) ∙ run)

  -- ---- comparisons
  pub record Compared (o : Operation) (c : Cond) (p q : Leaks) (ns : List ℕ) (answer : Bool) : Type 0 where
    pub first : List ℕ
    pub second : List ℕ
    pub numbers : ns ≡ first ++ second
    pub counted_left : IsCounted p first
    pub counted_right : IsCounted q second
    pub tests : Tests frame home homing s σ related o (condition.Cc c) answer (shown_of p first ++ shown_of q second)

  compared_none : {at : Span} {e : Expr} {o : Operation} {c : Cond} {p q : Leaks} → IsCompared home at e o c p q → own_size e ≡ None
  compared_none (compares {o} {c} {a = a} {b = b} there is size ia ib ni once) = compared_size o c a b there is
  compared_none (denies {e} there h) = size_not e there ∙ compared_none h

  pub compared_goes : {at : Span} {e : Expr} {o : Operation} {c : Cond} {p q : Leaks} (here : Span) (ns : List ℕ) (answer : Bool) → IsCompared home at e o c p q → bool_in here e s ≡ went ns answer → Compared o c p q ns answer
  compared_goes {at} {c = c} here ns answer (compares {o} {x = x} {y = y} there is size ia ib ni once) run =
      let k = compare_tests frame home homing s σ related o c there here at ns answer is size ia ib (left_not_imm x y ni) run in
      record { first = k.0; second = k.1; numbers = k.2; counted_left = k.3; counted_right = k.4; tests = k.5 }
  compared_goes {o = o'} {p = p} {q = q} here ns answer (denies {e} {c = c} there h) run =
      let k = compared_goes here ns (not answer) h (denied_bool here there e s ns answer (compared_none h) run) in
      record {
        first = k.first;
        second = k.second;
        numbers = k.numbers;
        counted_left = k.counted_left;
        counted_right = k.counted_right;
        tests = subst (λ b. Tests frame home homing s σ related o' (condition.Cc (opposite c)) b (shown_of p k.first ++ shown_of q k.second)) (not_not answer) (denied_tests frame home homing s σ related k.tests);
      }

  -- ---- `r = o if c`
  pub sized : (x : Var) (e : Expr) (z : Size) → (ref_of x).kind ≡ kind.Word z → option_or (left_sizes (lval.Var x ∷ [])) (own_size e) ≡ Some z
  sized x e z is = ap (λ k. option_or (option_or (size_of k) None) (own_size e)) is

  all_four : (a b f g c ns : List ℕ) → ns ≡ a ++ (b ++ c) → b ≡ f ++ g → ns ≡ a ++ (f ++ (g ++ c))
  all_four a b f g c ns h k = h ∙ ap (λ l. a ++ (l ++ c)) k ∙ ap (λ l. a ++ l) (append_assoc f g c)

  pub sets_if_goes : (x : Var) {e k : Expr} {y : Arg} {compare : Operation} {c : Cond} {m : ℕ} {p q r : Leaks} (at : Span) (z : Size) (t : State) (ns : List ℕ) → (ref_of x).kind ≡ kind.Word z → home (key_of (ref_of x)) ≡ Some (in_register m z)
      → IsArg home z e y p → IsCompared home at k compare c q r → assigned (lval.Var x ∷ []) None e (Some k) at s ≡ went ns t
      → Goes (compare ∷ plain at (action.Cmov (condition.Cc c) z m y) ∷ []) (condition_shown q r (count_of p) ∷ Rattle.jz_change.specs.declared.change.Numbers.TheVariants.These (numbers_from p 0) ∷ []) t ns
  sets_if_goes x {e} {k} {y} {compare} {c} {m} {p} {q} {r} at z t ns kind' h ie cmp run =
      let w = conditional_parts frame home homing s σ related z x e k at t ns kind' (sized x e z kind') run in
      let u = compared_goes at w.second w.answer cmp w.asks in
      let v = conditional_steps frame home homing s σ related x m k (condition.Cc c) at at t ns kind' h ie w u.tests.done.state u.tests.vars u.tests.cells u.tests.memory u.tests.says'' in
      let all = all_four w.first w.second u.first u.second w.last ns w.numbers u.numbers in
      record {
        shown' = (shown_of q u.first ++ shown_of r u.second) ∷ shown_of p w.first ∷ [];
        goes = record {
          ran = record { shown = numbers_of u.tests.done ∷ numbers_of v.0 ∷ []; state = v.0.state };
          goes = two_runs frame compare (plain at (action.Cmov (condition.Cc c) z m y)) u.tests.done v.0 σ u.tests.steps v.1;
          agrees = v.2;
          shows = pair_shown u.tests.shows v.3;
        };
        are = at_numbers all
            (more_items (item (both_placed (next_placed p q w.first u.first (u.second ++ w.last) v.5 u.counted_left) (third_placed p q r w.first u.first u.second w.last v.5 u.counted_left u.counted_right)))
            (one_item (first_placed p w.first (u.first ++ (u.second ++ w.last)) v.5)));
      }
