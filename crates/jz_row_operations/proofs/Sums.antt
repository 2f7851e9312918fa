-- `d = a op o`, op one of `+ - & | ^`: what the source makes of its operands.
use Rattle.std.proofs.Common.{◌≡◌, ◌⊎◌, inl, inr, ℕ, ◌+◌, ◌-◌, ◌%◌, ◌^◌, ◌<◌, ◌≤◌, Bool, true, false, List, [], ◌∷◌, ◌++◌, Option, Some, None, refl, sym, ap, ◌∙◌, subst, arith, ℤ}
use Rattle.std.specs.Prelude.{nat_eq, IsFalse, if◌then◌else◌}
use Rattle.std.specs.Option.{option_or}
use Rattle.std.proofs.lemmas.Nat.{and_comm, or_comm, xor_comm, and_le_l, or_lt, xor_lt, mod_below}
use Rattle.std.proofs.lemmas.Bool.{or_parts, eq-eqb}
use Rattle.jz_io.specs.declared.span.Span.{Span}
use Rattle.jz_words.specs.declared.size.Size.{Size}
use Rattle.jz_words.specs.declared.size.Size.TheVariants.{S8, S16, S32, S64}
use Rattle.jz_words.specs.Sizes.{bits_of, modulus}
use Rattle.jz_words.specs.Words.{residue}
use Rattle.jz_words.proofs.Residues.{some_words}
use Rattle.x64_insn.specs.declared.types.FlagVal.{FlagVal}
use Rattle.x64_insn.specs.Answers.{alu_answer, sum_answer, difference_answer, and_answer, or_answer, xor_answer}
use Rattle.jz_tree.specs.declared.expr.BinOp.{BinOp}
use Rattle.jz_tree.specs.declared.expr.BinOp.TheVariants as o
use Rattle.jz_tree.specs.declared.expr.Expr.{Expr}
use Rattle.jz_tree.specs.declared.expr.Expr.TheVariants as expr
use Rattle.jz_tree.specs.declared.stmt.Lval.{Lval}
use Rattle.jz_runs.specs.Rules.{went}
use Rattle.jz_meaning.specs.Attempts.{Evaluation, and_then}
use Rattle.jz_meaning.specs.States.{Value, word, boolean, integer, State}
use Rattle.jz_meaning.specs.Operators.{word_of, same_size, is_shift, is_settled, combined, binary, plain as plain_value}
use Rattle.jz_meaning.specs.Values.{own_size, evaluated, left_wanted, right_wanted, with_right, run_binary}
use Rattle.jz_meaning.specs.Assignments.{left_sizes, results_of, conditioned, all_written, assigned}
use Rattle.jz_operations.specs.declared.operation.Pinned.{Pinned}
use Rattle.jz_operations.specs.declared.operation.Arg.{Arg}
use Rattle.jz_operations.specs.declared.operation.Arg.TheVariants as arg
use Rattle.jz_operations.specs.declared.operation.Operation.{Operation}
use Rattle.jz_operations.specs.Values as over
use Rattle.jz_operations.specs.Values.{set_var}
use Rattle.jz_operations.specs.Rows.{Frame, if_some, value_of, put, Done, step, with_flags, set_flags, all_five}
use Rattle.jz_operations.proofs.Somes.{same_some}
use Rattle.jz_operations.proofs.OwnVariables.{SameIn, LeftSame}
use Rattle.jz_homes.proofs.Shown.{shown}
use Rattle.jz_homes.specs.Homes.{Homes, IsHoming, IsRelated}
use Rattle.jz_homes.specs.Operands.{Leaks, IsArg, a_word, a_number, a_scalar, a_cell, a_load, IsDest, shown_of, IsCounted}
use Rattle.jz_row_operations.specs.Codes.{plain}
use Rattle.jz_row_operations.proofs.Runs.{Ran, runs}
use Rattle.jz_row_operations.specs.Rows.{NotBothImm, alu_of, IsSumOp, commutes}
use Rattle.jz_homes.proofs.Parts.{both_went, went_same, evaluated_bin}
use Rattle.jz_homes.proofs.Reading.{FormOf, ReadsAs, operand_read, narrowed_itself}
use Rattle.jz_homes.proofs.Writing.{WritesAs, dest_written, related_same, set_other}
use Rattle.jz_row_operations.proofs.Moves.{one_left, append_nil}

-- ---- words of a size
size_is : (z y : Size) → same_size z y ≡ true → z ≡ y
size_is S8 S8 e = refl
size_is S8 S16 e = absurd cc
size_is S8 S32 e = absurd cc
size_is S8 S64 e = absurd cc
size_is S16 S8 e = absurd cc
size_is S16 S16 e = refl
size_is S16 S32 e = absurd cc
size_is S16 S64 e = absurd cc
size_is S32 S8 e = absurd cc
size_is S32 S16 e = absurd cc
size_is S32 S32 e = refl
size_is S32 S64 e = absurd cc
size_is S64 S8 e = absurd cc
size_is S64 S16 e = absurd cc
size_is S64 S32 e = absurd cc
size_is S64 S64 e = refl

-- a word of the size, or a whole number that stands for one
pub data OfSize (z : Size) : Value → ℕ → Type 0 where
  sized : (a : ℕ) → OfSize z (word z a) a
  whole : (i : ℤ) → OfSize z (integer i) (residue z i)

sized_by : (b : Bool) (z y : Size) (a n : ℕ) → same_size z y ≡ b → (if b then Some a else None) ≡ Some n → OfSize z (word y a) n
sized_by true z y a n e h = subst (λ x. OfSize z (word x a) n) (size_is z y e) (subst (OfSize z (word z a)) (same_some a n h) (sized a))
sized_by false z y a n e h = absurd cc

pub of_size : (z : Size) (v : Value) (n : ℕ) → word_of z v ≡ Some n → OfSize z v n
of_size z (word y a) n e = sized_by (same_size z y) z y a n refl e
of_size z (integer i) n e = subst (OfSize z (integer i)) (same_some (residue z i) n e) (whole i)
of_size z (boolean c) n e = absurd cc

-- two whole numbers are not beside one another
abbrev pub NotNumbers : Value → Value → Type 0
NotNumbers (integer i) (integer j) = ⊥
NotNumbers _ _ = Unit {0}

-- ---- the operation's word
word_came : (z : Size) (n : ℕ) (ns : List ℕ) (v : Value) → ◌≡◌ {A = Evaluation Value} (went [] (word z n)) (went ns v) → (ns ≡ []) × (word z n ≡ v)
word_came z n ns v e = let k = went_same [] ns (word z n) v e in (sym k.0, k.1)

same_itself : (z : Size) → same_size z z ≡ true
same_itself z = eq-eqb (bits_of z) (bits_of z) refl

pub combined_words : (op : BinOp) (at : Span) (z : Size) (a b : ℕ) → combined op at (word z a) (word z b) ≡ Rattle.jz_meaning.specs.Operators.on_words op at z a b
unfolding combined
combined_words op at z a b = rw (same_itself z) refl

on_words_is : (op : BinOp) (at : Span) (z : Size) (a b : ℕ) → IsSumOp op → Rattle.jz_meaning.specs.Operators.on_words op at z a b ≡ went [] (word z (alu_answer (alu_of op) z a b false).value)
unfolding sum_answer difference_answer and_answer or_answer xor_answer
on_words_is o.Add at z a b h = refl
on_words_is o.Sub at z a b h = refl
on_words_is o.And at z a b h = refl
on_words_is o.Or at z a b h = refl
on_words_is o.Xor at z a b h = refl
on_words_is _ at z a b h = absurd h

pub combined_is : (op : BinOp) (at : Span) (z : Size) (x y : Value) (a b : ℕ) (ns : List ℕ) (v : Value) → IsSumOp op → OfSize z x a → OfSize z y b → NotNumbers x y → combined op at x y ≡ went ns v → (ns ≡ []) × (word z (alu_answer (alu_of op) z a b false).value ≡ v)
unfolding combined
combined_is op at z x y a b ns v h (sized c) (sized d) nn e = word_came z _ ns v (sym (on_words_is op at z a b h) ∙ sym (combined_words op at z a b) ∙ e)
combined_is op at z x y a b ns v h (sized c) (whole j) nn e = word_came z _ ns v (sym (on_words_is op at z a b h) ∙ e)
combined_is op at z x y a b ns v h (whole i) (sized d) nn e = word_came z _ ns v (sym (on_words_is op at z a b h) ∙ e)
combined_is op at z x y a b ns v h (whole i) (whole j) nn e = absurd nn

answer_small : (op : BinOp) (z : Size) (a b : ℕ) → IsSumOp op → a < modulus z → b < modulus z → (alu_answer (alu_of op) z a b false).value < modulus z
unfolding sum_answer difference_answer and_answer or_answer xor_answer
answer_small o.Add z a b h k l = mod_below _ (modulus z) (some_words z)
answer_small o.Sub z a b h k l = mod_below _ (modulus z) (some_words z)
answer_small o.And z a b h k l = let m = and_le_l a b in omega (arith, k, m)
answer_small o.Or z a b h k l = or_lt (bits_of z) a b k l
answer_small o.Xor z a b h k l = xor_lt (bits_of z) a b k l
answer_small _ z a b h k l = absurd h

pub answer_swapped : (op : BinOp) (z : Size) (a b : ℕ) → commutes op ≡ true → (alu_answer (alu_of op) z b a false).value ≡ (alu_answer (alu_of op) z a b false).value
unfolding sum_answer and_answer or_answer xor_answer
answer_swapped o.Add z a b e = ap (λ n. n % modulus z) (let k : b + a + 0 ≡ a + b + 0 = omega arith in k)
answer_swapped o.And z a b e = and_comm b a
answer_swapped o.Or z a b e = or_comm b a
answer_swapped o.Xor z a b e = xor_comm b a
answer_swapped _ z a b e = absurd cc

-- ---- the source's right side
pub record TwoOperands (op : BinOp) (z : Size) (a b : Expr) (s : State) (ns : List ℕ) (v : Value) : Type 0 where
  pub first : List ℕ
  pub left : Value
  pub second : List ℕ
  pub right : Value
  pub last : List ℕ
  pub at : Span
  pub evaluates : evaluated a (Some z) s ≡ went first left
  pub and_this : evaluated b (Some z) s ≡ went second right
  pub gives : combined op at left right ≡ went last v
  pub numbers : ns ≡ first ++ (second ++ last)

sum_right : (op : BinOp) (z : Size) → IsSumOp op → (x : Value) → (is_settled op x ≡ false) × (right_wanted op (Some z) ≡ Some z) × (is_shift op ≡ false)
sum_right o.Add z h x = (refl, refl, refl)
sum_right o.Sub z h x = (refl, refl, refl)
sum_right o.And z h x = (refl, refl, refl)
sum_right o.Or z h x = (refl, refl, refl)
sum_right o.Xor z h x = (refl, refl, refl)
sum_right _ z h x = absurd h

sum_left : (op : BinOp) (z : Size) (x y : Option Size) → IsSumOp op → left_wanted op (Some z) x y ≡ Some z
sum_left o.Add z x y h = refl
sum_left o.Sub z x y h = refl
sum_left o.And z x y h = refl
sum_left o.Or z x y h = refl
sum_left o.Xor z x y h = refl
sum_left _ z x y h = absurd h

right_is : (op : BinOp) (z : Size) (b : Expr) (at : Span) (s : State) (x : Value) → IsSumOp op → with_right op (evaluated b) at (Some z) s x ≡ and_then (evaluated b (Some z) s) (λ y. combined op at x y)
unfolding binary
right_is op z b at s x h = let k = sum_right op z h x in rw (k.0, k.1, k.2) refl

pub two_operands : (op : BinOp) (z : Size) (a b : Expr) (at : Span) (s : State) (ns : List ℕ) (v : Value) → IsSumOp op → evaluated (expr.Bin op a b at) (Some z) s ≡ went ns v → TwoOperands op z a b s ns v
two_operands op z a b at s ns v h run =
    let e = sym (evaluated_bin op a b at (Some z) s ∙ ap (λ w. run_binary op (evaluated a) (evaluated b) at w s) (sum_left op z (own_size a) (own_size b) h)) ∙ run in
    let t = both_went (evaluated a (Some z) s) (with_right op (evaluated b) at (Some z) s) ns v e in
    let u = both_went (evaluated b (Some z) s) (λ y. combined op at t.value y) t.second v (sym (right_is op z b at s t.value h) ∙ t.went_on) in
    record { first = t.first; left = t.value; second = u.first; right = u.value; last = u.second; at = at; evaluates = t.came; and_this = u.came; gives = u.went_on; numbers = t.numbers ∙ ap (λ y. t.first ++ y) u.numbers }

-- ---- flags that no variable takes
abbrev pub AllNone : List (Option Pinned) → Type 0
AllNone [] = Unit {0}
AllNone (None ∷ ps) = AllNone ps
AllNone (Some p ∷ ps) = ⊥

pub nones : (ps : List (Option Pinned)) → AllNone ps → (cs : List Bool) (fs : List FlagVal) (vars : ℕ → Option over.Value) → set_flags ps cs fs vars ≡ vars
nones [] h cs fs vars = refl
nones (Some p ∷ ps) h cs fs vars = absurd h
nones (None ∷ ps) h [] fs vars = refl
nones (None ∷ ps) h (c ∷ cs) [] vars = refl
nones (None ∷ ps) h (c ∷ cs) (f ∷ fs) vars = nones ps h cs fs vars

-- ---- one operation on two operands
pub alu_goes : (op : BinOp) → IsSumOp op → (Rattle.jz_operations.specs.Rows.carry_in (alu_of op) None) ≡ (λ σ. Some false)
alu_goes o.Add h = refl
alu_goes o.Sub h = refl
alu_goes o.And h = refl
alu_goes o.Or h = refl
alu_goes o.Xor h = refl
alu_goes _ h = absurd h

pub alu_writes : (op : BinOp) → IsSumOp op → Rattle.x64_insn.specs.Rows.writes_operand (alu_of op) ≡ true
alu_writes o.Add h = refl
alu_writes o.Sub h = refl
alu_writes o.And h = refl
alu_writes o.Or h = refl
alu_writes o.Xor h = refl
alu_writes _ h = absurd h

no_whole : (a b : Arg) (i j : ℤ) → FormOf a (integer i) → FormOf b (integer j) → NotBothImm a b → ⊥
no_whole (arg.Imm k) (arg.Imm l) i j f g n = n
no_whole (arg.Imm k) (arg.Var v) i j f g n = g
no_whole (arg.Imm k) (arg.Mem m) i j f g n = g
no_whole (arg.Imm k) (arg.Cell c) i j f g n = g
no_whole (arg.Imm k) (arg.At r p) i j f g n = g
no_whole (arg.Var v) b i j f g n = f
no_whole (arg.Mem m) b i j f g n = f
no_whole (arg.Cell c) b i j f g n = f
no_whole (arg.At r p) b i j f g n = f

pub not_numbers : (a b : Arg) (x y : Value) → FormOf a x → FormOf b y → NotBothImm a b → NotNumbers x y
not_numbers a b (word z n) y f g n' = tt
not_numbers a b (boolean c) y f g n' = tt
not_numbers a b (integer i) (word z n) f g n' = tt
not_numbers a b (integer i) (boolean c) f g n' = tt
not_numbers a b (integer i) (integer j) f g n' = no_whole a b i j f g n'

-- a variable that an operand does not have
pub away : (m : ℕ) (vs : List ℕ) (w : Option over.Value) (σ τ : over.State) → τ.vars ≡ set_var m w σ.vars → IsFalse (Rattle.jz_ir.specs.Paths.among vs m) → SameIn σ τ vs
away m [] w σ τ e h = tt
away m (v ∷ vs) w σ τ e h =
    let k = or_parts (nat_eq v m) (Rattle.jz_ir.specs.Paths.among vs m) h in
    let ne : m ≡ v → ⊥ = λ q. absurd (let t : true ≡ false = sym (eq-eqb v m (sym q)) ∙ k.0 in cc) in
    (ap (λ f. f v) e ∙ set_other m v w σ.vars ne, away m vs w σ τ e k.1)

pub set_twice : (m q : ℕ) (x y : Option over.Value) (vars : ℕ → Option over.Value) (b : Bool) → nat_eq m q ≡ b → set_var m x (set_var m y vars) q ≡ set_var m x vars q
set_twice m q x y vars true e = rw e refl
set_twice m q x y vars false e = rw e refl

-- no operand of a statement is a register by its name
abbrev pub NoName : Arg → Type 0
NoName (arg.At r p) = ⊥
NoName _ = Unit {0}

pub left_same : (σ τ : over.State) (a : Arg) → NoName a → LeftSame σ τ a
left_same σ τ (arg.Var v) h = tt
left_same σ τ (arg.Imm i) h = tt
left_same σ τ (arg.Mem m) h = tt
left_same σ τ (arg.Cell c) h = tt
left_same σ τ (arg.At r p) h = absurd h

pub no_name : {home : Homes} {z : Size} {e : Expr} {a : Arg} {x : Leaks} → IsArg home z e a x → NoName a
no_name (a_word x n h) = tt
no_name (a_number i at) = tt
no_name (a_scalar x w h) = tt
no_name (a_cell x i n w t b o cells is at) = tt
no_name (a_load a t m size is at) = tt

module _ (frame : Frame) (home : Homes) (homing : IsHoming frame home) (s : State) (σ : over.State) (related : IsRelated home s σ) where
  -- what a statement owes: its operations go through, the states are related behind it, and they show these numbers
  pub record RunsAs (os : List Operation) (t : State) (shown' : List (List ℕ)) : Type 0 where
    pub ran : Ran
    pub goes : runs frame os σ ≡ Some ran
    pub agrees : IsRelated home t ran.state
    pub shows : ran.shown ≡ shown'

  -- the parts of `d = a op o`
  pub record Parts (op : BinOp) (z : Size) (d : Lval) (a c : Expr) (x y : Arg) (p q : Leaks) (b : Arg) (r : Leaks) (t : State) (ns : List ℕ) : Type 0 where
    pub first : List ℕ
    pub second : List ℕ
    pub third : List ℕ
    pub numbers : ns ≡ first ++ (second ++ third)
    pub left : ℕ
    pub right : ℕ
    pub reads_left : value_of frame x z σ ≡ Some left
    pub reads_right : value_of frame y z σ ≡ Some right
    pub left_small : left < modulus z
    pub right_small : right < modulus z
    pub shows_left : shown x σ ≡ shown_of p first
    pub shows_right : shown y σ ≡ shown_of q second
    pub counted_left : IsCounted p first
    pub counted_right : IsCounted q second
    pub writes : WritesAs frame home homing s σ related z b r (alu_answer (alu_of op) z left right false).value third t

  three_lists : (a b c d ns : List ℕ) → ns ≡ (a ++ (b ++ c)) ++ d → c ≡ [] → ns ≡ a ++ (b ++ d)
  three_lists a b c d ns e f = e ∙ ap (λ y. (a ++ (b ++ y)) ++ d) f ∙ ap (λ y. (a ++ y) ++ d) (append_nil b) ∙ Rattle.std.proofs.Common.append_assoc a b d

  pub parts : (op : BinOp) {z : Size} {d : Lval} {a c : Expr} {x y b : Arg} {p q r : Leaks} (at here : Span) (t : State) (ns : List ℕ) → IsSumOp op → option_or (left_sizes (d ∷ [])) (own_size (expr.Bin op a c at)) ≡ Some z
      → IsArg home z a x p → IsArg home z c y q → IsDest home z d b r → NotBothImm x y → assigned (d ∷ []) None (expr.Bin op a c at) None here s ≡ went ns t → Parts op z d a c x y p q b r t ns
  parts op {z} {d} {a} {c} {x} {y} {b} {p} {q} {r} at here t ns h size ia ic id nn run =
      let e = expr.Bin op a c at in
      let l = one_left (Some z) d e here s t ns (subst (λ w. and_then (results_of (d ∷ []) e here w s) (λ vs. and_then (conditioned (d ∷ []) None here vs s) (λ ws. all_written here w (d ∷ []) ws s)) ≡ went ns t) size run) in
      let u = two_operands op z a c at s l.first l.value h l.evaluates in
      let m = operand_read frame home homing s σ related ia u.first u.left u.evaluates in
      let n = operand_read frame home homing s σ related ic u.second u.right u.and_this in
      let k = combined_is op u.at z u.left u.right m.bits n.bits u.last l.value h (of_size z u.left m.bits m.word) (of_size z u.right n.bits n.word) (not_numbers x y u.left u.right m.form n.form nn) u.gives in
      let small = answer_small op z m.bits n.bits h m.small n.small in
      let w' : word_of z l.value ≡ Some (alu_answer (alu_of op) z m.bits n.bits false).value = ap (word_of z) (sym k.1) ∙ Rattle.jz_homes.proofs.Reading.word_itself z _ in
      record {
        first = u.first;
        second = u.second;
        third = l.second;
        numbers = three_lists u.first u.second u.last l.second ns (l.numbers ∙ ap (λ v. v ++ l.second) u.numbers) k.0;
        left = m.bits;
        right = n.bits;
        reads_left = m.value;
        reads_right = n.value;
        left_small = m.small;
        right_small = n.small;
        shows_left = m.numbers;
        shows_right = n.numbers;
        counted_left = m.counted;
        counted_right = n.counted;
        writes = dest_written frame home homing s σ related id l.value _ l.second t w' small l.writes;
      }

  pub one_ran : (o' : Operation) (sh : List ℕ) (τ : over.State) → step frame o' σ ≡ Some (record { shown = sh; division = []; state = τ }) → runs frame (o' ∷ []) σ ≡ Some (record { shown = (sh ++ []) ∷ []; state = τ })
  one_ran o' sh τ e = rw e refl

  pub after_flags : (at : Span) (act : _) (fs : List FlagVal) (t : State) (τ : over.State) → IsRelated home t τ → IsRelated home t (with_flags (plain at act) fs τ)
  after_flags at act fs t τ h = related_same frame home homing t τ _ h (λ m. ap (λ v. v m) (nones (None ∷ None ∷ None ∷ None ∷ None ∷ []) tt _ fs τ.vars)) refl refl
