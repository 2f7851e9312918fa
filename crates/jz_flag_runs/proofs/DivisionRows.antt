-- Quotients, remainders and DIV: their three operations, and what each of them shows.
use Rattle.std.proofs.Common.{◌≡◌, ℕ, ◌+◌, Bool, true, false, List, [], ◌∷◌, ◌++◌, length, Option, Some, None, refl, ◌∙◌, subst, arith, append_assoc, length-append}
use Rattle.std.specs.Option.{option_or}
use Rattle.jz_io.specs.declared.span.Span.{Span}
use Rattle.jz_words.specs.declared.size.Size.{Size}
use Rattle.x64_insn.specs.declared.types.Place.{Place}
use Rattle.x64_insn.specs.declared.types.Wide.{Wide}
use Rattle.x64_insn.specs.declared.types.Wide.TheVariants as wide
use Rattle.jz_tree.specs.declared.expr.BinOp.{BinOp}
use Rattle.jz_tree.specs.declared.expr.BinOp.TheVariants as o
use Rattle.jz_tree.specs.declared.expr.Expr.{Expr}
use Rattle.jz_tree.specs.declared.expr.Expr.TheVariants as expr
use Rattle.jz_tree.specs.declared.stmt.Lval.{Lval}
use Rattle.jz_runs.specs.Rules.{went}
use Rattle.jz_meaning.specs.Attempts.{and_then}
use Rattle.jz_meaning.specs.States.{State}
use Rattle.jz_meaning.specs.Values.{own_size}
use Rattle.jz_meaning.specs.Intrinsics.{of_division}
use Rattle.jz_meaning.specs.Assignments.{left_sizes, all_written, assigned}
use Rattle.jz_operations.specs.declared.operation.Pinned.{Pinned}
use Rattle.jz_operations.specs.declared.operation.Arg.{Arg}
use Rattle.jz_operations.specs.declared.operation.Arg.TheVariants as arg
use Rattle.jz_operations.specs.declared.operation.Flags.{Flags}
use Rattle.jz_operations.specs.Values as over
use Rattle.jz_operations.specs.Rows.{Frame}
use Rattle.jz_operations.proofs.Somes.{same_some}
use Rattle.jz_change.specs.declared.change.Number.TheVariants.{Nth}
use Rattle.jz_homes.specs.Homes.{Homes, IsHoming, IsRelated}
use Rattle.jz_homes.specs.Operands.{Leaks, silent, told, IsCounted, count_of, shown_of, IsArg, IsDest, to_word}
use Rattle.jz_row_operations.specs.Codes.{no_flag, lasting}
use Rattle.jz_row_operations.specs.Rows.{NotImm}
use Rattle.jz_row_operations.proofs.Items.{ArePlaced, AreItems, item, more_items, one_item, nothing_placed, both_placed, placed_behind, first_placed, next_placed, third_placed, counted_length, at_numbers}
use Rattle.jz_row_operations.proofs.Sums.{no_name}
use Rattle.jz_row_operations.proofs.Lowered.{right_not_imm, Goes}
use Rattle.jz_flag_rows.specs.Results.{IsPinned}
use Rattle.jz_flag_rows.specs.Results as results
use Rattle.jz_flag_rows.specs.Wide.{IsLong, is_apart, divider, quotient_code, three_from, divide_shown, divide_two_code, divide_two_shown}
use Rattle.jz_flag_runs.specs.Laws.{AreNeedsMet}
use Rattle.jz_flag_runs.proofs.FlagLefts.{free_of, wide_apart}
use Rattle.jz_flag_runs.proofs.Intrinsics.{FiveTo}
use Rattle.jz_flag_runs.proofs.Quotients.{DivisionRuns, division_runs, unsigned_divided}
use Rattle.jz_flag_runs.proofs.SignedQuotients.{signed_divided}
use Rattle.jz_flag_runs.proofs.LongDivisions.{long_division_runs}

-- ---- numbers
-- three behind others
three_placed : (pre : List ℕ) (k a b c : ℕ) (post : List ℕ) → k ≡ length pre → ArePlaced (pre ++ (a ∷ b ∷ c ∷ post)) (three_from k) (a ∷ b ∷ c ∷ [])
three_placed pre k a b c post e =
    let l1 = length-append pre (a ∷ []) in
    let l2 = length-append pre (a ∷ b ∷ []) in
    both_placed (placed_behind pre k e told (a ∷ []) (b ∷ c ∷ post) (a, refl))
    (both_placed
    (subst (λ l. ArePlaced l (Nth (k + 1) ∷ []) (b ∷ [])) (append_assoc pre (a ∷ []) (b ∷ c ∷ post)) (placed_behind (pre ++ (a ∷ [])) (k + 1) (omega (arith, e, l1)) told (b ∷ []) (c ∷ post) (b, refl)))
    (subst (λ l. ArePlaced l (Nth (k + 2) ∷ []) (c ∷ [])) (append_assoc pre (a ∷ b ∷ []) (c ∷ post)) (placed_behind (pre ++ (a ∷ b ∷ [])) (k + 2) (omega (arith, e, l2)) told (c ∷ []) post (c, refl))))

-- the high word, the low word and the divisor, behind the numbers of both operands
divided_items : (p q : Leaks) (first second third : List ℕ) (h a d : ℕ) → IsCounted p first → IsCounted q second
    → AreItems (first ++ (second ++ (h ∷ a ∷ d ∷ third))) (divide_shown p q) (shown_of p first ∷ [] ∷ (shown_of q second ++ (h ∷ a ∷ d ∷ [])) ∷ [])
divided_items p q first second third h a d cp cq =
    let all = first ++ (second ++ (h ∷ a ∷ d ∷ third)) in
    let l = length-append first second in
    let f = counted_length p first cp in
    let g = counted_length q second cq in
    more_items (item (first_placed p first (second ++ (h ∷ a ∷ d ∷ third)) cp))
    (more_items (item (nothing_placed all))
    (one_item (both_placed (next_placed p q first second (h ∷ a ∷ d ∷ third) cp cq)
    (subst (λ xs. ArePlaced xs (three_from (count_of p + count_of q)) (h ∷ a ∷ d ∷ [])) (append_assoc first second (h ∷ a ∷ d ∷ third)) (three_placed (first ++ second) (count_of p + count_of q) h a d third (omega (arith, l, f, g)))))))

-- of three operands: the low word is moved before the high one
long_items : (p q v : Leaks) (first second third : List ℕ) (h a d : ℕ) → IsCounted p first → IsCounted q second → IsCounted v third
    → AreItems (first ++ (second ++ (third ++ (h ∷ a ∷ d ∷ [])))) (divide_two_shown p q v) (shown_of q second ∷ shown_of p first ∷ (shown_of v third ++ (h ∷ a ∷ d ∷ [])) ∷ [])
long_items p q v first second third h a d cp cq cv =
    let rest = h ∷ a ∷ d ∷ [] in
    let l = length-append first second in
    let m = length-append (first ++ second) third in
    let f = counted_length p first cp in
    let g = counted_length q second cq in
    let i = counted_length v third cv in
    let same = append_assoc (first ++ second) third rest ∙ append_assoc first second (third ++ rest) in
    more_items (item (next_placed p q first second (third ++ rest) cp cq))
    (more_items (item (first_placed p first (second ++ (third ++ rest)) cp))
    (one_item (both_placed (third_placed p q v first second third rest cp cq cv)
    (subst (λ xs. ArePlaced xs (three_from (count_of p + count_of q + count_of v)) rest) same (three_placed ((first ++ second) ++ third) (count_of p + count_of q + count_of v) h a d [] (omega (arith, l, m, f, g, i)))))))

pinned_dest : {home : Homes} {z : Size} {l : Lval} {k : Pinned} → IsPinned home z l (Some k) → IsDest home z l (arg.Var k.variable) silent
pinned_dest (results.a_word x k kd h span) = to_word x k.variable kd h

module _ (frame : Frame) (home : Homes) (homing : IsHoming frame home) (s : State) (σ : over.State) (related : IsRelated home s σ) where
  -- ---- `r = a / b`, `r = a % b`
  runs_go : {sign quot : Bool} {z : Size} {k : Pinned} {x y : Arg} {p q : Leaks} {at : Span} {t : State} {ns : List ℕ} → DivisionRuns frame home homing s σ related sign quot z k x y p q at t ns
      → Goes frame home homing s σ related (lasting at no_flag (Rattle.jz_flag_runs.proofs.Quotients.picked_code quot sign z k x y)) (divide_shown p q) t ns
  runs_go {p = p} {q = q} k = record { shown' = _; goes = k.goes; are = at_numbers k.numbers (divided_items p q k.first k.second k.third _ k.a k.d k.counted_left k.counted_right) }

  pub quotient_goes : (op : BinOp) {w : Wide} {z : Size} {r : Lval} {k : Pinned} {a b : Expr} {x y : Arg} {p q : Leaks} (there here at : Span) (t : State) (ns : List ℕ) → divider op ≡ Some w → option_or (left_sizes (r ∷ [])) (own_size (expr.Bin op a b there)) ≡ Some z
      → IsLong z → IsPinned home z r (Some k) → IsArg home z a x p → IsArg home z b y q → NotImm y → is_apart (Some k) y ≡ true → assigned (r ∷ []) None (expr.Bin op a b there) None here s ≡ went ns t
      → Goes frame home homing s σ related (lasting at no_flag (quotient_code op w z k x y)) (divide_shown p q) t ns
  quotient_goes o.Div {z = z} {k = k} {x = x} {y = y} {p = p} {q = q} there here at t ns e size long ir ia ib ni free run =
      subst (λ v. Goes frame home homing s σ related (lasting at no_flag (quotient_code o.Div v z k x y)) (divide_shown p q) t ns) (same_some wide.Div _ e)
      (runs_go (division_runs frame home homing s σ related o.Div false true k there here at t ns tt long (λ i j ms v hi hj run'. unsigned_divided o.Div true there z i j ms v tt hi run') size ia ib (pinned_dest ir) (right_not_imm x y ni) (no_name ib) (free_of (Some k) y free) run))
  quotient_goes o.Rem {z = z} {k = k} {x = x} {y = y} {p = p} {q = q} there here at t ns e size long ir ia ib ni free run =
      subst (λ v. Goes frame home homing s σ related (lasting at no_flag (quotient_code o.Rem v z k x y)) (divide_shown p q) t ns) (same_some wide.Div _ e)
      (runs_go (division_runs frame home homing s σ related o.Rem false false k there here at t ns tt long (λ i j ms v hi hj run'. unsigned_divided o.Rem false there z i j ms v tt hi run') size ia ib (pinned_dest ir) (right_not_imm x y ni) (no_name ib) (free_of (Some k) y free) run))
  quotient_goes o.DivS {z = z} {k = k} {x = x} {y = y} {p = p} {q = q} there here at t ns e size long ir ia ib ni free run =
      subst (λ v. Goes frame home homing s σ related (lasting at no_flag (quotient_code o.DivS v z k x y)) (divide_shown p q) t ns) (same_some wide.Idiv _ e)
      (runs_go (division_runs frame home homing s σ related o.DivS true true k there here at t ns tt long (λ i j ms v hi hj run'. signed_divided o.DivS true there z i j ms v tt hi hj run') size ia ib (pinned_dest ir) (right_not_imm x y ni) (no_name ib) (free_of (Some k) y free) run))
  quotient_goes o.RemS {z = z} {k = k} {x = x} {y = y} {p = p} {q = q} there here at t ns e size long ir ia ib ni free run =
      subst (λ v. Goes frame home homing s σ related (lasting at no_flag (quotient_code o.RemS v z k x y)) (divide_shown p q) t ns) (same_some wide.Idiv _ e)
      (runs_go (division_runs frame home homing s σ related o.RemS true false k there here at t ns tt long (λ i j ms v hi hj run'. signed_divided o.RemS false there z i j ms v tt hi hj run') size ia ib (pinned_dest ir) (right_not_imm x y ni) (no_name ib) (free_of (Some k) y free) run))
  quotient_goes _ there here at t ns e size long ir ia ib ni free run = absurd cc

  -- ---- DIV
  pub long_goes : (places : ℕ → Place) (fl : Flags) {ls : List Lval} {z : Size} {dq dr : Lval} {a b c : Expr} {w x y : Arg} {p q v : Leaks} (l h : Option Pinned) (sp at : Span) (t : State) (ns : List ℕ) → AreNeedsMet places (lasting sp fl (divide_two_code z l h w x y)) → FiveTo home ls fl → IsPinned home z dq l → IsPinned home z dr h
      → IsArg home z a w p → IsArg home z b x q → IsArg home z c y v → is_apart l w ≡ true → is_apart l y ≡ true → is_apart h y ≡ true
      → and_then (of_division at z (a ∷ b ∷ c ∷ []) s) (λ vs. all_written at (Some z) (ls ++ (dq ∷ dr ∷ [])) vs s) ≡ went ns t
      → Goes frame home homing s σ related (lasting sp fl (divide_two_code z l h w x y)) (divide_two_shown p q v) t ns
  long_goes places fl {z = z} {w = w} {y = y} {p = p} {q = q} {v = v} l h sp at t ns met five wq wr ia ib ic lw ly hy run =
      let apart = wide_apart places sp fl wide.Div z l h y met.1.1.0 in
      let k = long_division_runs frame home homing s σ related fl l h sp at t ns five wq wr apart ia ib ic (no_name ia) (no_name ic) (free_of l w lw) (free_of l y ly) (free_of h y hy) run in
      record { shown' = _; goes = k.goes; are = at_numbers k.numbers (long_items p q v k.first k.second k.third k.hi k.lo k.d k.counted_high k.counted_low k.counted_by) }
