-- `cf, d = a + b` and `cf, d = a - b`, also with a flag behind: the flag is CF of the operation.
use Rattle.std.proofs.Common.{◌≡◌, ℕ, ◌+◌, Bool, true, false, List, [], ◌∷◌, ◌++◌, Option, Some, None, refl, sym, ap, ◌∙◌, subst, pos}
use Rattle.std.specs.Prelude.{◌&&◌, if◌then◌else◌}
use Rattle.std.specs.Option.{option_or}
use Rattle.jz_io.specs.declared.span.Span.{Span}
use Rattle.jz_words.specs.declared.size.Size.{Size}
use Rattle.jz_words.specs.Words.{carry_of, borrow_of}
use Rattle.x64_insn.specs.declared.types.One.{One}
use Rattle.x64_insn.specs.Answers.{flag, result_flags, flags_of as answer_flags, alu_answer, sum_answer, difference_answer}
use Rattle.x64_insn.specs.Rows.{writes_operand}
use Rattle.jz_tree.specs.declared.expr.BinOp.{BinOp}
use Rattle.jz_tree.specs.declared.expr.BinOp.TheVariants as o
use Rattle.jz_tree.specs.declared.expr.Expr.{Expr}
use Rattle.jz_tree.specs.declared.expr.Expr.TheVariants as expr
use Rattle.jz_tree.specs.declared.expr.Expr.TheOpen.{Expr-F}
use Rattle.jz_tree.specs.declared.expr.Expr.TheViews.{out-Expr}
use Rattle.jz_tree.specs.declared.expr.Var.{Var}
use Rattle.jz_tree.specs.declared.stmt.Lval.{Lval}
use Rattle.jz_runs.specs.Rules.{went}
use Rattle.jz_meaning.specs.Attempts.{Evaluation, and_then}
use Rattle.jz_meaning.specs.States.{word, boolean, State}
use Rattle.jz_meaning.specs.Values.{key_of, ref_of, own_size}
use Rattle.jz_meaning.specs.Intrinsics.{flag_result}
use Rattle.jz_meaning.specs.Assignments.{Layer, left_sizes, Results, is_flag, word_in, bool_in, two_results, with_two, with_three, two_of, all_written, assigned}
use Rattle.jz_operations.specs.declared.operation.Pinned.{Pinned}
use Rattle.jz_operations.specs.declared.operation.Arg.{Arg}
use Rattle.jz_operations.specs.declared.operation.Action.{Action}
use Rattle.jz_operations.specs.declared.operation.Action.TheVariants as action
use Rattle.jz_operations.specs.Values as over
use Rattle.jz_operations.specs.Rows.{Frame, truth as flag_truth, carry_in, all_five, flags_of}
use Rattle.jz_operations.specs.Reading.{is_var, found_by}
use Rattle.jz_change.specs.declared.change.Numbers.{Numbers}
use Rattle.jz_homes.specs.Homes.{Homes, IsHoming, in_flag, IsRelated}
use Rattle.jz_homes.specs.Operands.{Leaks, IsArg, IsDest, shown_of}
use Rattle.jz_homes.proofs.Parts.{both_went}
use Rattle.jz_row_operations.specs.Codes.{lasting}
use Rattle.jz_row_operations.specs.Rows.{alu_of, commutes, IsCarryOp, carry_alu, IsShiftOp, mask_of, IsSign, a_minus, a_not}
use Rattle.jz_row_operations.specs.Table.{same_arg}
use Rattle.jz_row_operations.specs.Lowering.{HasRow, moves, sums, carries, signs, times, times_by, shifts, shifts_by, extends, lowest}
use Rattle.jz_row_operations.proofs.Items.{first_placed, next_placed, shown_in, row_items, at_numbers}
use Rattle.jz_row_operations.proofs.Sums.{NoName, no_name}
use Rattle.jz_row_operations.proofs.Brought.{Row}
use Rattle.jz_row_operations.proofs.Chosen.{brought_goes, away_from_none, away_from_flag}
use Rattle.jz_row_operations.proofs.Alus.{carry_asks}
use Rattle.jz_row_operations.proofs.Lowered.{Goes}
use Rattle.jz_flag_rows.proofs.Outs.{out_neg, out_not, out_cast, out_bin}
use Rattle.jz_flag_rows.proofs.Operands.{ArgLayer, l_word, l_number, l_scalar, l_cell, l_load, arg_layer}
use Rattle.jz_flag_rows.specs.Results.{IsFlag, carry_alone}
use Rattle.jz_flag_rows.specs.Rows.{IsSumLayer}
use Rattle.jz_flag_runs.proofs.FlagLefts.{AreFlags, no_more, taken, unlisted}
use Rattle.jz_flag_runs.proofs.Words.{WordRead, two_read, three_read, flag_no_word}
use Rattle.jz_flag_runs.proofs.TwoLefts.{chosen_then, two_words, two_lefts, joined}
use Rattle.jz_flag_runs.proofs.Results.{answer_commutes, adc_commutes, alu_flag_row}

-- ---- the flag
flag_of_bool : (c : Bool) → flag_result (flag c) ≡ Some (boolean c)
flag_of_bool true = refl
flag_of_bool false = refl

-- a carry or a borrow before its sum or difference
abbrev pub carry_result : BinOp → Size → ℕ → ℕ → Bool → Bool
carry_result o.Add z a b k = carry_of z a b k
carry_result _ z a b k = borrow_of a b k

carry_list : (home : Homes) (z : Size) (l : Lval) (p : Option Pinned) (v c : Bool) (r : ℕ) → IsFlag home l p → AreFlags home (l ∷ []) (flags_of (carry_alone p)) all_five (answer_flags z v c r) (Some (boolean c) ∷ [])
unfolding answer_flags
carry_list home z l p v c r h = subst (λ y. AreFlags home (l ∷ []) (flags_of (carry_alone p)) all_five (flag v ∷ flag c ∷ result_flags z r) (y ∷ [])) (flag_of_bool c)
    (unlisted true (flag v) (taken l p (flag c) h (unlisted true _ (unlisted true _ (unlisted true _ no_more)))))

carry_flags : (home : Homes) (op : BinOp) (z : Size) (l : Lval) (p : Option Pinned) (a b : ℕ) → IsCarryOp op → IsFlag home l p
    → AreFlags home (l ∷ []) (flags_of (carry_alone p)) all_five (alu_answer (alu_of op) z a b false).flags (Some (boolean (carry_result op z a b false)) ∷ [])
unfolding sum_answer difference_answer
carry_flags home o.Add z l p a b h f = carry_list home z l p _ (carry_of z a b false) _ f
carry_flags home o.Sub z l p a b h f = carry_list home z l p _ (borrow_of a b false) _ f
carry_flags home _ z l p a b h f = absurd h

three_flags : (home : Homes) (op : BinOp) (z : Size) (l : Lval) (p : Option Pinned) (a b : ℕ) (k : Bool) → IsCarryOp op → IsFlag home l p
    → AreFlags home (l ∷ []) (flags_of (carry_alone p)) all_five (alu_answer (carry_alu op) z a b k).flags (Some (boolean (carry_result op z a b k)) ∷ [])
unfolding sum_answer difference_answer
three_flags home o.Add z l p a b k h f = carry_list home z l p _ (carry_of z a b k) _ f
three_flags home o.Sub z l p a b k h f = carry_list home z l p _ (borrow_of a b k) _ f
three_flags home _ z l p a b k h f = absurd h

two_went : (op : BinOp) (at : Span) (z : Size) (a b : ℕ) → IsCarryOp op → two_results op at z a b false ≡ went [] (Some (boolean (carry_result op z a b false)) ∷ Some (word z (alu_answer (alu_of op) z a b false).value) ∷ [])
unfolding sum_answer difference_answer
two_went o.Add at z a b h = refl
two_went o.Sub at z a b h = refl
two_went _ at z a b h = absurd h

three_went : (op : BinOp) (at : Span) (z : Size) (a b : ℕ) (k : Bool) → IsCarryOp op → two_results op at z a b k ≡ went [] (Some (boolean (carry_result op z a b k)) ∷ Some (word z (alu_answer (carry_alu op) z a b k).value) ∷ [])
unfolding sum_answer difference_answer
three_went o.Add at z a b k h = refl
three_went o.Sub at z a b k h = refl
three_went _ at z a b k h = absurd h

-- ---- sums and differences among the rows
layer_no_sum : {home : Homes} {z : Size} {l : Layer} {x : Arg} {p : Leaks} → ArgLayer home z l x p → IsSumLayer l → ⊥
layer_no_sum (l_word x n h) l = l
layer_no_sum (l_number i at) l = l
layer_no_sum (l_scalar x w h) l = l
layer_no_sum (l_cell x e n w t b i cells is at) l = l
layer_no_sum (l_load b t m is at) l = l

no_sum : {home : Homes} {z : Size} {e : Expr} {x : Arg} {p : Leaks} → IsArg home z e x p → IsSumLayer (out-Expr e) → ⊥
no_sum {home} {z} {e} {x} {p} ia l = layer_no_sum (arg_layer home z e x p ia) l

no_sign : {k : One} {e a : Expr} → IsSign k e a → IsSumLayer (out-Expr e) → ⊥
no_sign (a_minus a at) l = subst IsSumLayer (out_neg a at) l
no_sign (a_not a at) l = subst IsSumLayer (out_not a at) l

no_shift : (op : BinOp) (a b : Expr) (at : Span) → IsShiftOp op → IsSumLayer (Expr-F.Bin op a b at) → ⊥
no_shift o.Add a b at h l = absurd h
no_shift o.Sub a b at h l = absurd h
no_shift _ a b at h l = absurd l

sum_is : (op : BinOp) (a b : Expr) (at : Span) → IsSumLayer (Expr-F.Bin op a b at) → IsCarryOp op
sum_is o.Add a b at l = tt
sum_is o.Sub a b at l = tt
sum_is _ a b at l = absurd l

module _ (frame : Frame) (home : Homes) (homing : IsHoming frame home) (s : State) (σ : over.State) (related : IsRelated home s σ) where
  -- ---- the source's operands
  pub record CarryResult (op : BinOp) (z : Size) (l d : Lval) (x y : Arg) (p q : Leaks) (here : Span) (t : State) (ns : List ℕ) : Type 0 where
    pub first : List ℕ
    pub second : List ℕ
    pub third : List ℕ
    pub left : ℕ
    pub right : ℕ
    pub numbers : ns ≡ first ++ (second ++ third)
    pub reads_left : WordRead frame home homing s σ related z x p first left
    pub reads_right : WordRead frame home homing s σ related z y q second right
    pub wrote : all_written here (Some z) (l ∷ d ∷ []) (Some (boolean (carry_result op z left right false)) ∷ Some (word z (alu_answer (alu_of op) z left right false).value) ∷ []) s ≡ went third t

  two_source : (op : BinOp) (z : Size) (a c : Expr) (at : Span) → IsCarryOp op → with_two op a c at z s
      ≡ and_then (word_in at z a s) (λ m. and_then (word_in at z c s) (λ n. went [] (Some (boolean (carry_result op z m n false)) ∷ Some (word z (alu_answer (alu_of op) z m n false).value) ∷ [])))
  two_source op z a c at h = ap (λ (g : ℕ → ℕ → Evaluation Results). and_then (word_in at z a s) (λ m. and_then (word_in at z c s) (g m))) (λ i m n. two_went op at z m n h i)

  carry_results : (op : BinOp) {z : Size} {l d : Lval} {a c : Expr} {x y : Arg} {p q : Leaks} (at here : Span) (t : State) (ns : List ℕ) → IsCarryOp op → option_or (left_sizes (l ∷ d ∷ [])) (own_size (expr.Bin op a c at)) ≡ Some z
      → IsArg home z a x p → IsArg home z c y q → assigned (l ∷ d ∷ []) None (expr.Bin op a c at) None here s ≡ went ns t → CarryResult op z l d x y p q here t ns
  carry_results op {z} {l} {d} {a} {c} {x} {y} {p} {q} at here t ns h size ia ic run =
      let g = two_lefts (expr.Bin op a c at) here s t ns size run in
      let came = two_words op c at here z s g.first g.rs ia g.came in
      let u = two_read frame home homing s σ related at (λ m n. Some (boolean (carry_result op z m n false)) ∷ Some (word z (alu_answer (alu_of op) z m n false).value) ∷ []) g.rs g.first ia ic (sym (two_source op z a c at h) ∙ came) in
      record {
        first = u.first;
        second = u.second;
        third = g.third;
        left = u.left;
        right = u.right;
        numbers = joined u.first u.second g.third ns (g.numbers ∙ ap (λ y'. y' ++ g.third) u.numbers);
        reads_left = u.reads_left;
        reads_right = u.reads_right;
        wrote = subst (λ y'. all_written here (Some z) (l ∷ d ∷ []) y' s ≡ went g.third t) u.results g.wrote;
      }

  pub record CarryThree (op : BinOp) (z : Size) (l d : Lval) (x y : Arg) (p q : Leaks) (n : ℕ) (here : Span) (t : State) (ns : List ℕ) : Type 0 where
    pub first : List ℕ
    pub second : List ℕ
    pub third : List ℕ
    pub left : ℕ
    pub right : ℕ
    pub carry : Bool
    pub numbers : ns ≡ first ++ (second ++ third)
    pub reads_left : WordRead frame home homing s σ related z x p first left
    pub reads_right : WordRead frame home homing s σ related z y q second right
    pub reads_carry : flag_truth (σ.vars n) ≡ Some carry
    pub wrote : all_written here (Some z) (l ∷ d ∷ []) (Some (boolean (carry_result op z left right carry)) ∷ Some (word z (alu_answer (carry_alu op) z left right carry).value) ∷ []) s ≡ went third t

  three_source : (op : BinOp) (z : Size) (a c l : Expr) (f : Var) (in' at : Span) → IsCarryOp op → with_three op (Expr-F.Bin op a c in') l (expr.Var f) at z s
      ≡ and_then (word_in at z a s) (λ i. and_then (word_in at z c s) (λ j. and_then (bool_in at (expr.Var f) s) (λ k. went [] (Some (boolean (carry_result op z i j k)) ∷ Some (word z (alu_answer (carry_alu op) z i j k).value) ∷ []))))
  three_source o.Add z a c l f in' at h = ap (λ (g : ℕ → ℕ → Bool → Evaluation Results). and_then (word_in at z a s) (λ i. and_then (word_in at z c s) (λ j. and_then (bool_in at (expr.Var f) s) (g i j)))) (λ e i j k. three_went o.Add at z i j k tt e)
  three_source o.Sub z a c l f in' at h = ap (λ (g : ℕ → ℕ → Bool → Evaluation Results). and_then (word_in at z a s) (λ i. and_then (word_in at z c s) (λ j. and_then (bool_in at (expr.Var f) s) (g i j)))) (λ e i j k. three_went o.Sub at z i j k tt e)
  three_source _ z a c l f in' at h = absurd h

  no_two : (op : BinOp) (z : Size) (a : Expr) (f : Var) (n : ℕ) (at : Span) (ns : List ℕ) (rs : Results) → home (key_of (ref_of f)) ≡ Some (in_flag n) → with_two op a (expr.Var f) at z s ≡ went ns rs → ⊥
  no_two op z a f n at ns rs h run =
      let g = both_went (word_in at z a s) (λ x. and_then (word_in at z (expr.Var f) s) (λ y. two_results op at z x y false)) ns rs run in
      let k = both_went (word_in at z (expr.Var f) s) (λ y. two_results op at z g.value y false) g.second rs g.went_on in
      flag_no_word frame home homing s σ related f n at z k.first k.value h k.came

  three_results : (op : BinOp) {z : Size} {l d : Lval} {a c : Expr} {x y : Arg} {p q : Leaks} (f : Var) (n : ℕ) (in' at here : Span) (t : State) (ns : List ℕ) → IsCarryOp op → home (key_of (ref_of f)) ≡ Some (in_flag n)
      → option_or (left_sizes (l ∷ d ∷ [])) (own_size (expr.Bin op (expr.Bin op a c in') (expr.Var f) at)) ≡ Some z
      → IsArg home z a x p → IsArg home z c y q → assigned (l ∷ d ∷ []) None (expr.Bin op (expr.Bin op a c in') (expr.Var f) at) None here s ≡ went ns t → CarryThree op z l d x y p q n here t ns
  three_results op {z} {l} {d} {a} {c} {x} {y} {p} {q} f n in' at here t ns h hf size ia ic run =
      let b = expr.Bin op a c in' in
      let g = two_lefts (expr.Bin op b (expr.Var f) at) here s t ns size run in
      let opened : (if is_flag (expr.Var f) then with_three op (out-Expr b) b (expr.Var f) at z s else with_two op b (expr.Var f) at z s) ≡ went g.first g.rs = ap (λ y'. two_of y' here (Some z) s) (sym (out_bin op b (expr.Var f) at)) ∙ g.came in
      let three = chosen_then (is_flag (expr.Var f)) (with_three op (out-Expr b) b (expr.Var f) at z s) (with_two op b (expr.Var f) at z s) g.first g.rs opened (λ e. no_two op z b f n at g.first g.rs hf e) in
      let came = sym (ap (λ y'. with_three op y' b (expr.Var f) at z s) (out_bin op a c in') ∙ three_source op z a c b f in' at h) ∙ three in
      let u = three_read frame home homing s σ related f n at at (λ i j k. Some (boolean (carry_result op z i j k)) ∷ Some (word z (alu_answer (carry_alu op) z i j k).value) ∷ []) g.rs g.first ia ic hf came in
      record {
        first = u.first;
        second = u.second;
        third = g.third;
        left = u.left;
        right = u.right;
        carry = u.carry;
        numbers = joined u.first u.second g.third ns (g.numbers ∙ ap (λ y'. y' ++ g.third) u.numbers);
        reads_left = u.reads_left;
        reads_right = u.reads_right;
        reads_carry = u.reads_carry;
        wrote = subst (λ y'. all_written here (Some z) (l ∷ d ∷ []) y' s ≡ went g.third t) u.results g.wrote;
      }

  -- ---- the rows
  carry_alu_facts : (op : BinOp) → IsCarryOp op → (writes_operand (alu_of op) ≡ true) × (carry_in (alu_of op) None σ ≡ Some false)
  carry_alu_facts o.Add h = (refl, refl)
  carry_alu_facts o.Sub h = (refl, refl)
  carry_alu_facts _ h = absurd h

  -- the first operand is in its place, or is copied first
  carry_result_row : (op : BinOp) {z : Size} {l d : Lval} {x y b : Arg} {p q r : Leaks} (f : Option Pinned) (at here : Span) (t : State) (ns : List ℕ) → IsCarryOp op → IsFlag home l f → NoName y → IsDest home z d b r → (k : CarryResult op z l d x y p q here t ns)
      → Row frame home homing s σ related (record { span = at; action = action.Alu (alu_of op) z b y None; flags = carry_alone f }) z x b p r ((is_var y ++ found_by y) ++ []) (shown_of q k.second) k.first k.third t
  carry_result_row op {z} {l} {d} {x} {y} {b} f at here t ns h isf nm id k =
      let g = carry_alu_facts op h in
      alu_flag_row frame home homing s σ related (alu_of op) None false (carry_alone f) at here k.left k.right k.first k.second k.third t g.0 g.1 nm k.reads_left k.reads_right (carry_flags home op z l f k.left k.right h isf) id k.wrote

  -- the second one is in its place, and they are swapped
  carry_result_row_swapped : (op : BinOp) {z : Size} {l d : Lval} {x y b : Arg} {p q r : Leaks} (f : Option Pinned) (at here : Span) (t : State) (ns : List ℕ) → IsCarryOp op → commutes op ≡ true → IsFlag home l f → NoName x → IsDest home z d b r → (k : CarryResult op z l d x y p q here t ns)
      → Row frame home homing s σ related (record { span = at; action = action.Alu (alu_of op) z b x None; flags = carry_alone f }) z y b q r ((is_var x ++ found_by x) ++ []) (shown_of p k.first) k.second k.third t
  carry_result_row_swapped op {z} {l} {d} {x} {y} {b} f at here t ns h cm isf nm id k =
      let g = carry_alu_facts op h in
      let same = answer_commutes op z k.left k.right cm in
      alu_flag_row frame home homing s σ related (alu_of op) None false (carry_alone f) at here k.right k.left k.second k.first k.third t g.0 g.1 nm k.reads_right k.reads_left
      (subst (λ y'. AreFlags home (l ∷ []) (flags_of (carry_alone f)) all_five y'.flags (Some (boolean (carry_result op z k.left k.right false)) ∷ [])) (sym same) (carry_flags home op z l f k.left k.right h isf)) id
      (subst (λ y'. all_written here (Some z) (l ∷ d ∷ []) (Some (boolean (carry_result op z k.left k.right false)) ∷ Some (word z y'.value) ∷ []) s ≡ went k.third t) (sym same) k.wrote)

  three_row : (op : BinOp) (c : Pinned) {z : Size} {l d : Lval} {x y b : Arg} {p q r : Leaks} (f : Option Pinned) (at here : Span) (t : State) (ns : List ℕ) → IsCarryOp op → IsFlag home l f → NoName y → IsDest home z d b r → (k : CarryThree op z l d x y p q c.variable here t ns)
      → Row frame home homing s σ related (record { span = at; action = action.Alu (carry_alu op) z b y (Some c); flags = carry_alone f }) z x b p r ((is_var y ++ found_by y) ++ (c.variable ∷ [])) (shown_of q k.second) k.first k.third t
  three_row op c {z} {l} {d} {x} {y} {b} f at here t ns h isf nm id k =
      let g = carry_asks op c k.carry σ h k.reads_carry in
      alu_flag_row frame home homing s σ related (carry_alu op) (Some c) k.carry (carry_alone f) at here k.left k.right k.first k.second k.third t g.1 g.0 nm k.reads_left k.reads_right (three_flags home op z l f k.left k.right k.carry h isf) id k.wrote

  three_commutes : (op : BinOp) (z : Size) (a b : ℕ) (k : Bool) → IsCarryOp op → commutes op ≡ true → alu_answer (carry_alu op) z b a k ≡ alu_answer (carry_alu op) z a b k
  three_commutes o.Add z a b k h e = adc_commutes z a b k
  three_commutes o.Sub z a b k h e = absurd cc
  three_commutes _ z a b k h e = absurd h

  three_row_swapped : (op : BinOp) (c : Pinned) {z : Size} {l d : Lval} {x y b : Arg} {p q r : Leaks} (f : Option Pinned) (at here : Span) (t : State) (ns : List ℕ) → IsCarryOp op → commutes op ≡ true → IsFlag home l f → NoName x → IsDest home z d b r → (k : CarryThree op z l d x y p q c.variable here t ns)
      → Row frame home homing s σ related (record { span = at; action = action.Alu (carry_alu op) z b x (Some c); flags = carry_alone f }) z y b q r ((is_var x ++ found_by x) ++ (c.variable ∷ [])) (shown_of p k.first) k.second k.third t
  three_row_swapped op c {z} {l} {d} {x} {y} {b} f at here t ns h cm isf nm id k =
      let g = carry_asks op c k.carry σ h k.reads_carry in
      let same = three_commutes op z k.left k.right k.carry h cm in
      alu_flag_row frame home homing s σ related (carry_alu op) (Some c) k.carry (carry_alone f) at here k.right k.left k.second k.first k.third t g.1 g.0 nm k.reads_right k.reads_left
      (subst (λ y'. AreFlags home (l ∷ []) (flags_of (carry_alone f)) all_five y'.flags (Some (boolean (carry_result op z k.left k.right k.carry)) ∷ [])) (sym same) (three_flags home op z l f k.left k.right k.carry h isf)) id
      (subst (λ y'. all_written here (Some z) (l ∷ d ∷ []) (Some (boolean (carry_result op z k.left k.right k.carry)) ∷ Some (word z y'.value) ∷ []) s ≡ went k.third t) (sym same) k.wrote)

  -- ---- whatever row of a sum or a difference it is
  pub carry_goes : {z : Size} {f d : Lval} {k : Option Pinned} {e : Expr} {acts : List Action} {items : List Numbers} (at here : Span) (t : State) (ns : List ℕ) → HasRow home z d e acts items → IsSumLayer (out-Expr e) → IsFlag home f k → option_or (left_sizes (f ∷ d ∷ [])) (own_size e) ≡ Some z
      → assigned (f ∷ d ∷ []) None e None here s ≡ went ns t → Goes frame home homing s σ related (lasting at (carry_alone k) acts) items t ns
  carry_goes at here t ns (moves ia id) layer isf size run = absurd (no_sum ia layer)
  carry_goes {z} {k = fl} at here t ns (sums {o = op} {a = a} {c = c} {x = x} {y = y} {b = b} {p = p} {q = q} {r = r} {acts = acts} there h ia ic id nn e) layer isf size run =
      let ok = sum_is op a c there (subst IsSumLayer (out_bin op a c there) layer) in
      let k = carry_results op there here t ns ok size ia ic run in
      record {
        shown' = shown_in (same_arg b x) (commutes op && same_arg b y) (shown_of p k.first) (shown_of q k.second);
        goes = brought_goes frame home homing s σ related (commutes op) (λ v. action.Alu (alu_of op) z b v None) (carry_alone fl) [] at z x y b p q r k.first k.second k.third t acts e (away_from_none b)
            (carry_result_row op fl at here t ns ok isf (no_name ic) id k) (λ sw. carry_result_row_swapped op fl at here t ns ok sw isf (no_name ia) id k);
        are = at_numbers k.numbers (row_items (same_arg b x) (commutes op && same_arg b y) (first_placed p k.first (k.second ++ k.third) k.reads_left.counted) (next_placed p q k.first k.second k.third k.reads_left.counted k.reads_right.counted));
      }
  carry_goes {z} {k = fl} at here t ns (carries {o = op} {x = x} {y = y} {b = b} {p = p} {q = q} {r = r} {acts = acts} f c inner there h ia ic id nn isv span e) layer isf size run =
      let k = three_results op f c.variable inner there here t ns h isv size ia ic run in
      record {
        shown' = shown_in (same_arg b x) (commutes op && same_arg b y) (shown_of p k.first) (shown_of q k.second);
        goes = brought_goes frame home homing s σ related (commutes op) (λ v. action.Alu (carry_alu op) z b v (Some c)) (carry_alone fl) (c.variable ∷ []) at z x y b p q r k.first k.second k.third t acts e (away_from_flag (key_of (ref_of f)) c.variable homing isv id)
            (three_row op c fl at here t ns h isf (no_name ic) id k) (λ sw. three_row_swapped op c fl at here t ns h sw isf (no_name ia) id k);
        are = at_numbers k.numbers (row_items (same_arg b x) (commutes op && same_arg b y) (first_placed p k.first (k.second ++ k.third) k.reads_left.counted) (next_placed p q k.first k.second k.third k.reads_left.counted k.reads_right.counted));
      }
  carry_goes at here t ns (signs sign ia id ni e) layer isf size run = absurd (no_sign sign layer)
  carry_goes at here t ns (times {a = a} {c = c} there wide ia ic id ni e) layer isf size run = absurd (subst IsSumLayer (out_bin o.Mul a c there) layer)
  carry_goes at here t ns (times_by {a = a} {c = c} there wide ia ic id ni) layer isf size run = absurd (subst IsSumLayer (out_bin o.Mul a c there) layer)
  carry_goes at here t ns (shifts {o = op} {a = a} n there where' h below ia id ni e) layer isf size run = absurd (no_shift op a (expr.Num (pos n) there) where' h (subst IsSumLayer (out_bin op a (expr.Num (pos n) there) where') layer))
  carry_goes {z} at here t ns (shifts_by {o = op} {a = a} v c there inner where' h isv span ia id e) layer isf size run =
      let count = expr.Bin o.And (expr.Var v) (expr.Num (pos (mask_of z)) there) inner in
      absurd (no_shift op a count where' h (subst IsSumLayer (out_bin op a count where') layer))
  carry_goes {z} at here t ns (extends {a = a} sign there own smaller ia ni id) layer isf size run = absurd (subst IsSumLayer (out_cast z sign a there) layer)
  carry_goes {z} at here t ns (lowest {a = a} there own le ia id) layer isf size run = absurd (subst IsSumLayer (out_cast z false a there) layer)
