-- `d = a + o + c` and `d = a - o - c` with a flag variable c: what the source makes of its operands.
use Rattle.std.proofs.Common.{◌≡◌, ℕ, ◌+◌, ◌-◌, ◌%◌, ◌^◌, ◌<◌, Bool, true, false, List, [], ◌∷◌, ◌++◌, Option, Some, None, refl, sym, ap, ◌∙◌, subst, arith}
use Rattle.std.specs.Option.{option_or}
use Rattle.std.proofs.lemmas.Nat.{mod_below}
use Rattle.jz_io.specs.declared.span.Span.{Span}
use Rattle.jz_words.specs.declared.size.Size.{Size}
use Rattle.jz_words.specs.declared.size.Size.TheVariants.{S8, S16, S32, S64}
use Rattle.jz_words.specs.Sizes.{modulus}
use Rattle.jz_words.specs.Words.{carried, sum_of, difference_of}
use Rattle.jz_words.proofs.Residues.{some_words}
use Rattle.x64_insn.specs.declared.types.Alu.TheVariants as alu
use Rattle.x64_insn.specs.Answers.{alu_answer, sum_answer, difference_answer}
use Rattle.jz_tree.specs.declared.expr.BinOp.{BinOp}
use Rattle.jz_tree.specs.declared.expr.BinOp.TheVariants as o
use Rattle.jz_tree.specs.declared.expr.Expr.{Expr}
use Rattle.jz_tree.specs.declared.expr.Expr.TheVariants as expr
use Rattle.jz_tree.specs.declared.expr.Var.{Var}
use Rattle.jz_tree.specs.declared.stmt.Lval.{Lval}
use Rattle.jz_runs.specs.Rules.{went}
use Rattle.jz_meaning.specs.Attempts.{and_then}
use Rattle.jz_meaning.specs.States.{Value, word, boolean, State}
use Rattle.jz_meaning.specs.Operators.{word_of, combined}
use Rattle.jz_meaning.specs.Values.{key_of, ref_of, own_size}
use Rattle.jz_meaning.specs.Assignments.{left_sizes, results_of, conditioned, all_written, assigned}
use Rattle.jz_operations.specs.declared.operation.Arg.{Arg}
use Rattle.jz_operations.specs.Values as over
use Rattle.jz_operations.specs.Values.{set_var}
use Rattle.jz_operations.specs.Rows.{Frame, truth, value_of}
use Rattle.jz_homes.specs.Homes.{Homes, IsHoming, in_flag, IsRelated}
use Rattle.jz_homes.specs.Operands.{Leaks, IsCounted, IsArg, IsDest, shown_of}
use Rattle.jz_homes.proofs.Shown.{shown}
use Rattle.jz_row_operations.specs.Rows.{NotBothImm, IsSumOp, alu_of, commutes, IsCarryOp, carry_alu}
use Rattle.jz_homes.proofs.Parts.{went_same, defined_went, evaluated_var}
use Rattle.jz_homes.proofs.Reading.{operand_read, word_itself}
use Rattle.jz_homes.proofs.Writing.{WritesAs, dest_written}
use Rattle.jz_row_operations.proofs.Moves.{one_left, append_nil}
use Rattle.jz_row_operations.proofs.Sums.{two_operands, combined_is, of_size, not_numbers}

sum_op : (op : BinOp) → IsCarryOp op → IsSumOp op
sum_op o.Add h = tt
sum_op o.Sub h = tt
sum_op _ h = absurd h

-- the two steps of the source are the one of the instruction
sum_twice : (z : Size) (a b : ℕ) (c : Bool) → (alu_answer alu.Adc z a b c).value ≡ sum_of z (alu_answer alu.Add z a b false).value 0 c
unfolding sum_answer
sum_twice S8 a b c = omega arith
sum_twice S16 a b c = omega arith
sum_twice S32 a b c = omega arith
sum_twice S64 a b c = omega arith

less_twice : (z : Size) (a b : ℕ) (c : Bool) → a < modulus z → b < modulus z → (alu_answer alu.Sbb z a b c).value ≡ difference_of z (alu_answer alu.Sub z a b false).value 0 c
unfolding difference_answer
less_twice S8 a b true h k = omega (arith, h, k)
less_twice S16 a b true h k = omega (arith, h, k)
less_twice S32 a b true h k = omega (arith, h, k)
less_twice S64 a b true h k = omega (arith, h, k)
less_twice S8 a b false h k = omega (arith, h, k)
less_twice S16 a b false h k = omega (arith, h, k)
less_twice S32 a b false h k = omega (arith, h, k)
less_twice S64 a b false h k = omega (arith, h, k)

flag_is : (op : BinOp) (at : Span) (z : Size) (a b : ℕ) (c : Bool) (ns : List ℕ) (v : Value) → IsCarryOp op → a < modulus z → b < modulus z → combined op at (word z (alu_answer (alu_of op) z a b false).value) (boolean c) ≡ went ns v
    → (ns ≡ []) × (word z (alu_answer (carry_alu op) z a b c).value ≡ v)
unfolding combined
flag_is o.Add at z a b c ns v h l k e = let r = went_same [] ns _ v e in (sym r.0, ap (word z) (sum_twice z a b c) ∙ r.1)
flag_is o.Sub at z a b c ns v h l k e = let r = went_same [] ns _ v e in (sym r.0, ap (word z) (less_twice z a b c l k) ∙ r.1)
flag_is _ at z a b c ns v h l k e = absurd h

small_carry : (op : BinOp) (z : Size) (a b : ℕ) (c : Bool) → IsCarryOp op → (alu_answer (carry_alu op) z a b c).value < modulus z
unfolding sum_answer difference_answer
small_carry o.Add z a b c h = mod_below _ (modulus z) (some_words z)
small_carry o.Sub z a b c h = mod_below _ (modulus z) (some_words z)
small_carry _ z a b c h = absurd h

pub carry_swapped : (op : BinOp) (z : Size) (a b : ℕ) (c : Bool) → IsCarryOp op → commutes op ≡ true → (alu_answer (carry_alu op) z b a c).value ≡ (alu_answer (carry_alu op) z a b c).value
unfolding sum_answer
carry_swapped o.Add z a b c h e = ap (λ n. n % modulus z) (let k : b + a + carried c ≡ a + b + carried c = omega arith in k)
carry_swapped o.Sub z a b c h e = absurd cc
carry_swapped _ z a b c h e = absurd h

module _ (frame : Frame) (home : Homes) (homing : IsHoming frame home) (s : State) (σ : over.State) (related : IsRelated home s σ) where
  pub record CarryParts (op : BinOp) (z : Size) (x y : Arg) (p q : Leaks) (b : Arg) (r : Leaks) (n : ℕ) (t : State) (ns : List ℕ) : Type 0 where
    pub first : List ℕ
    pub second : List ℕ
    pub third : List ℕ
    pub numbers : ns ≡ first ++ (second ++ third)
    pub left : ℕ
    pub right : ℕ
    pub carry : Bool
    pub left_small : left < modulus z
    pub right_small : right < modulus z
    pub reads_left : value_of frame x z σ ≡ Some left
    pub reads_right : value_of frame y z σ ≡ Some right
    pub reads_carry : truth (σ.vars n) ≡ Some carry
    pub shows_left : shown x σ ≡ shown_of p first
    pub shows_right : shown y σ ≡ shown_of q second
    pub counted_left : IsCounted p first
    pub counted_right : IsCounted q second
    pub writes : WritesAs frame home homing s σ related z b r (alu_answer (carry_alu op) z left right carry).value third t

  numbers_by : (a b c d e f ns : List ℕ) → ns ≡ ((a ++ (b ++ c)) ++ (d ++ e)) ++ f → c ≡ [] → d ≡ [] → e ≡ [] → ns ≡ a ++ (b ++ f)
  numbers_by a b c d e f ns h i j k =
      h ∙ ap (λ y. ((a ++ (b ++ y)) ++ (d ++ e)) ++ f) i ∙ ap (λ y. ((a ++ (b ++ [])) ++ (y ++ e)) ++ f) j ∙ ap (λ y. ((a ++ (b ++ [])) ++ y) ++ f) k
      ∙ ap (λ y. y ++ f) (append_nil (a ++ (b ++ []))) ∙ ap (λ y. (a ++ y) ++ f) (append_nil b) ∙ Rattle.std.proofs.Common.append_assoc a b f

  pub carry_parts : (op : BinOp) {z : Size} {d : Lval} {a c : Expr} {x y b : Arg} {p q r : Leaks} (f : Var) (n : ℕ) (in' at here : Span) (t : State) (ns : List ℕ) → IsCarryOp op → option_or (left_sizes (d ∷ [])) (own_size (expr.Bin op (expr.Bin op a c in') (expr.Var f) at)) ≡ Some z
      → IsArg home z a x p → IsArg home z c y q → home (key_of (ref_of f)) ≡ Some (in_flag n) → IsDest home z d b r → NotBothImm x y → assigned (d ∷ []) None (expr.Bin op (expr.Bin op a c in') (expr.Var f) at) None here s ≡ went ns t
      → CarryParts op z x y p q b r n t ns
  carry_parts op {z} {d} {a} {c} {x} {y} {b} {p} {q} {r} f n in' at here t ns h size ia ic at-flag id nn run =
      let e = expr.Bin op (expr.Bin op a c in') (expr.Var f) at in
      let l = one_left (Some z) d e here s t ns (subst (λ w. and_then (results_of (d ∷ []) e here w s) (λ vs. and_then (conditioned (d ∷ []) None here vs s) (λ ws. all_written here w (d ∷ []) ws s)) ≡ went ns t) size run) in
      let v = two_operands op z (expr.Bin op a c in') (expr.Var f) at s l.first l.value (sum_op op h) l.evaluates in
      let u = two_operands op z a c in' s v.first v.left (sum_op op h) v.evaluates in
      let m = operand_read frame home homing s σ related ia u.first u.left u.evaluates in
      let k = operand_read frame home homing s σ related ic u.second u.right u.and_this in
      let w = combined_is op u.at z u.left u.right m.bits k.bits u.last v.left (sum_op op h) (of_size z u.left m.bits m.word) (of_size z u.right k.bits k.word) (not_numbers x y u.left u.right m.form k.form nn) u.gives in
      let g = defined_went (ref_of f).span (s.store (key_of (ref_of f))) v.second v.right (sym (evaluated_var f (Some z) s) ∙ v.and_this) in
      let fl = related.holds (key_of (ref_of f)) (in_flag n) v.right at-flag g.0 in
      let come = flag_is op v.at z m.bits k.bits fl.0 v.last l.value h m.small k.small (subst (λ y'. combined op v.at y' (boolean fl.0) ≡ went v.last l.value) (sym w.1) (subst (λ y'. combined op v.at v.left y' ≡ went v.last l.value) fl.1 v.gives)) in
      let w' : word_of z l.value ≡ Some (alu_answer (carry_alu op) z m.bits k.bits fl.0).value = ap (word_of z) (sym come.1) ∙ word_itself z _ in
      record {
        first = u.first;
        second = u.second;
        third = l.second;
        numbers = numbers_by u.first u.second u.last v.second v.last l.second ns (l.numbers ∙ ap (λ y'. y' ++ l.second) (v.numbers ∙ ap (λ y'. y' ++ (v.second ++ v.last)) u.numbers)) w.0 g.1 come.0;
        left = m.bits;
        right = k.bits;
        carry = fl.0;
        left_small = m.small;
        right_small = k.small;
        reads_left = m.value;
        reads_right = k.value;
        reads_carry = ap truth fl.2;
        shows_left = m.numbers;
        shows_right = k.numbers;
        counted_left = m.counted;
        counted_right = k.counted;
        writes = dest_written frame home homing s σ related id l.value _ l.second t w' (small_carry op z m.bits k.bits fl.0 h) l.writes;
      }
