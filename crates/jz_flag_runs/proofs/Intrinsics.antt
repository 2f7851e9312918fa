-- Intrinsics against their rows: the flags that are listed, and then the value.
use Rattle.std.proofs.Common.{◌≡◌, ℕ, ◌<◌, Bool, true, false, List, [], ◌∷◌, ◌++◌, Option, Some, None, refl, sym, ap, ◌∙◌, subst, arith}
use Rattle.jz_io.specs.declared.span.Span.{Span}
use Rattle.jz_words.specs.declared.size.Size.{Size}
use Rattle.jz_words.specs.declared.size.Size.TheVariants.{S8}
use Rattle.jz_words.specs.Sizes.{modulus}
use Rattle.jz_words.specs.Words.{carried}
use Rattle.x64_insn.specs.declared.types.FlagVal.{FlagVal}
use Rattle.x64_insn.specs.declared.types.Alu.{Alu}
use Rattle.x64_insn.specs.declared.types.Alu.TheVariants as alu
use Rattle.x64_insn.specs.declared.types.One.{One}
use Rattle.x64_insn.specs.declared.types.One.TheVariants as one
use Rattle.x64_insn.specs.Answers.{flags_of as answer_flags, alu_answer, one_answer, sum_answer, difference_answer, and_answer, or_answer, xor_answer}
use Rattle.x64_insn.specs.Products.{no_flags, product_answer, low_product_answer}
use Rattle.x64_insn.specs.Rows.{writes_operand}
use Rattle.jz_tree.specs.declared.expr.Expr.{Expr}
use Rattle.jz_tree.specs.declared.stmt.Lval.{Lval}
use Rattle.jz_runs.specs.Rules.{went}
use Rattle.jz_meaning.specs.Attempts.{and_then}
use Rattle.jz_meaning.specs.States.{Value, word, State}
use Rattle.jz_meaning.specs.Intrinsics.{all_flags, of_one, of_two, alu_results, low_product_results, product_results}
use Rattle.jz_meaning.specs.Assignments.{Results, word_in, written, all_written}
use Rattle.jz_operations.specs.declared.operation.Arg.{Arg}
use Rattle.jz_operations.specs.declared.operation.Arg.TheVariants as arg
use Rattle.jz_operations.specs.declared.operation.Condition.{Condition}
use Rattle.jz_operations.specs.declared.operation.Action.TheVariants as action
use Rattle.jz_operations.specs.declared.operation.Flags.{Flags}
use Rattle.jz_operations.specs.Values as over
use Rattle.jz_operations.specs.Rows.{Frame, carry_in, holds_in, all_five, one_changes, put, step, with_flags, flags_of}
use Rattle.jz_operations.specs.Reading.{is_var, found_by}
use Rattle.jz_homes.specs.Homes.{Homes, IsHoming, IsRelated}
use Rattle.jz_homes.specs.Operands.{Leaks, IsCounted, IsArg, IsDest, shown_of}
use Rattle.jz_homes.proofs.Shown.{shown, put_shown}
use Rattle.jz_row_operations.specs.Codes.{plain}
use Rattle.jz_flag_rows.specs.Results.{IsFlag, AreFive, five}
use Rattle.jz_flag_runs.proofs.FlagLefts.{AreFlags, no_more, taken}
use Rattle.jz_homes.proofs.Parts.{both_went, went_same}
use Rattle.jz_homes.proofs.Reading.{word_itself}
use Rattle.jz_homes.proofs.Writing.{dest_written}
use Rattle.jz_row_operations.proofs.Moves.{append_nil}
use Rattle.jz_row_operations.proofs.Sums.{NoName, RunsAs, one_ran, after_flags}
use Rattle.jz_row_operations.proofs.Brought.{Row}
use Rattle.jz_row_operations.proofs.Ones.{one_ends}
use Rattle.jz_row_operations.proofs.Imuls.{imul_ends, product_small}
use Rattle.jz_flag_runs.proofs.FlagResults.{finishes_with}
use Rattle.jz_flag_runs.proofs.Words.{WordRead, word_read_in, two_read}
use Rattle.jz_flag_runs.proofs.Results.{alu_flag_row}
use Rattle.jz_flag_runs.proofs.Wides.{ProductResult}

-- ---- the five flags
abbrev pub FiveOf : List FlagVal → Type 0
FiveOf fs = (a : FlagVal) × (b : FlagVal) × (c : FlagVal) × (d : FlagVal) × (e : FlagVal) × (fs ≡ a ∷ b ∷ c ∷ d ∷ e ∷ [])

pub alu_five : (op : Alu) (z : Size) (a b : ℕ) (k : Bool) → FiveOf (alu_answer op z a b k).flags
unfolding sum_answer difference_answer and_answer or_answer xor_answer answer_flags
alu_five alu.Add z a b k = (_, _, _, _, _, refl)
alu_five alu.Adc z a b k = (_, _, _, _, _, refl)
alu_five alu.Sub z a b k = (_, _, _, _, _, refl)
alu_five alu.Sbb z a b k = (_, _, _, _, _, refl)
alu_five alu.Cmp z a b k = (_, _, _, _, _, refl)
alu_five alu.And z a b k = (_, _, _, _, _, refl)
alu_five alu.Test z a b k = (_, _, _, _, _, refl)
alu_five alu.Or z a b k = (_, _, _, _, _, refl)
alu_five alu.Xor z a b k = (_, _, _, _, _, refl)

pub low_five : (z : Size) (a b : ℕ) → FiveOf (low_product_answer z a b).flags
unfolding low_product_answer
low_five z a b = (_, _, _, _, _, refl)

pub product_five : (z : Size) (a b : ℕ) → FiveOf (product_answer z a b).flags
unfolding product_answer
product_five z a b = (_, _, _, _, _, refl)

pub neg_five : (z : Size) (a : ℕ) → FiveOf (one_answer one.Neg z a no_flags).flags
unfolding one_answer difference_answer answer_flags
neg_five z a = (_, _, _, _, _, refl)

-- the left sides of all five
pub record FiveTo (home : Homes) (ls : List Lval) (fl : Flags) : Type 0 where
  pub l1 : Lval
  pub l2 : Lval
  pub l3 : Lval
  pub l4 : Lval
  pub l5 : Lval
  pub are : ls ≡ l1 ∷ l2 ∷ l3 ∷ l4 ∷ l5 ∷ []
  pub to1 : IsFlag home l1 fl.of
  pub to2 : IsFlag home l2 fl.cf
  pub to3 : IsFlag home l3 fl.sf
  pub to4 : IsFlag home l4 fl.pf
  pub to5 : IsFlag home l5 fl.zf

-- the five left sides before others
pub record FiveBefore (home : Homes) (to : List Lval) (fl : Flags) (rest : List Lval) : Type 0 where
  pub ls : List Lval
  pub joined : to ≡ ls ++ rest
  pub five : FiveTo home ls fl

pub five_before : {home : Homes} {to : List Lval} {fl : Flags} {rest : List Lval} → AreFive home to fl rest → FiveBefore home to fl rest
five_before (five {o} {c} {s} {p} {z} rest ho hc hs hp hz) = record {
  ls = o ∷ c ∷ s ∷ p ∷ z ∷ [];
  joined = refl;
  five = record { l1 = o; l2 = c; l3 = s; l4 = p; l5 = z; are = refl; to1 = ho; to2 = hc; to3 = hs; to4 = hp; to5 = hz };
}

pub five_flags : (home : Homes) (ls : List Lval) (fl : Flags) (fs : List FlagVal) → FiveTo home ls fl → FiveOf fs → AreFlags home ls (flags_of fl) all_five fs (all_flags fs)
five_flags home ls fl fs k f =
    subst (λ gs. AreFlags home ls (flags_of fl) all_five gs (all_flags gs)) (sym f.5)
    (subst (λ ms. AreFlags home ms (flags_of fl) all_five (f.0 ∷ f.1 ∷ f.2 ∷ f.3 ∷ f.4 ∷ []) (all_flags (f.0 ∷ f.1 ∷ f.2 ∷ f.3 ∷ f.4 ∷ []))) (sym k.are)
    (taken k.l1 fl.of f.0 k.to1 (taken k.l2 fl.cf f.1 k.to2 (taken k.l3 fl.sf f.2 k.to3 (taken k.l4 fl.pf f.3 k.to4 (taken k.l5 fl.zf f.4 k.to5 no_more))))))

module _ (frame : Frame) (home : Homes) (homing : IsHoming frame home) (s : State) (σ : over.State) (related : IsRelated home s σ) where
  -- ---- two words: what is read, and what is written behind it
  pub record TwoParts (z : Size) (x y : Arg) (p q : Leaks) (f : ℕ → ℕ → Results) (at : Span) (to : List Lval) (t : State) (ns : List ℕ) : Type 0 where
    pub first : List ℕ
    pub second : List ℕ
    pub third : List ℕ
    pub left : ℕ
    pub right : ℕ
    pub numbers : ns ≡ (first ++ second) ++ third
    pub reads_left : WordRead frame home homing s σ related z x p first left
    pub reads_right : WordRead frame home homing s σ related z y q second right
    pub wrote : all_written at (Some z) to (f left right) s ≡ went third t

  pub two_parts : {z : Size} {a c : Expr} {x y : Arg} {p q : Leaks} (f : ℕ → ℕ → Results) (at : Span) (to : List Lval) (t : State) (ns : List ℕ) → IsArg home z a x p → IsArg home z c y q
      → and_then (of_two f at z (a ∷ c ∷ []) s) (λ vs. all_written at (Some z) to vs s) ≡ went ns t → TwoParts z x y p q f at to t ns
  two_parts {z} {a} {c} f at to t ns ia ic run =
      let g = both_went (of_two f at z (a ∷ c ∷ []) s) (λ vs. all_written at (Some z) to vs s) ns t run in
      let u = two_read frame home homing s σ related at f g.value g.first ia ic g.came in
      record {
        first = u.first;
        second = u.second;
        third = g.second;
        left = u.left;
        right = u.right;
        numbers = g.numbers ∙ ap (λ l. l ++ g.second) u.numbers;
        reads_left = u.reads_left;
        reads_right = u.reads_right;
        wrote = subst (λ vs. all_written at (Some z) to vs s ≡ went g.second t) u.results g.went_on;
      }

  -- ADD SUB AND OR XOR
  pub alu_intrinsic : (op : Alu) (fl : Flags) {ls : List Lval} {z : Size} {d : Lval} {x y b : Arg} {p q r : Leaks} (sp at : Span) (t : State) (ns : List ℕ) → writes_operand op ≡ true → carry_in op None σ ≡ Some false → NoName y → FiveTo home ls fl → IsDest home z d b r
      → (k : TwoParts z x y p q (λ a c. alu_results op z a c false) at (ls ++ (d ∷ [])) t ns)
      → Row frame home homing s σ related (record { span = sp; action = action.Alu op z b y None; flags = fl }) z x b p r ((is_var y ++ found_by y) ++ []) (shown_of q k.second) k.first k.third t
  alu_intrinsic op fl {ls} {z} sp at t ns w asks nm lefts id k =
      alu_flag_row frame home homing s σ related op None false fl sp at k.left k.right k.first k.second k.third t w asks nm k.reads_left k.reads_right (five_flags home ls fl _ lefts (alu_five op z k.left k.right false)) id k.wrote

  pub alu_intrinsic_swapped : (op : Alu) (fl : Flags) {ls : List Lval} {z : Size} {d : Lval} {x y b : Arg} {p q r : Leaks} (sp at : Span) (t : State) (ns : List ℕ) → writes_operand op ≡ true → carry_in op None σ ≡ Some false → ((m n : ℕ) → alu_answer op z n m false ≡ alu_answer op z m n false) → NoName x → FiveTo home ls fl → IsDest home z d b r
      → (k : TwoParts z x y p q (λ a c. alu_results op z a c false) at (ls ++ (d ∷ [])) t ns)
      → Row frame home homing s σ related (record { span = sp; action = action.Alu op z b x None; flags = fl }) z y b q r ((is_var x ++ found_by x) ++ []) (shown_of p k.first) k.second k.third t
  alu_intrinsic_swapped op fl {ls} {z} {d} sp at t ns w asks swap nm lefts id k =
      let same = swap k.left k.right in
      alu_flag_row frame home homing s σ related op None false fl sp at k.right k.left k.second k.first k.third t w asks nm k.reads_right k.reads_left
      (subst (λ r. AreFlags home ls (flags_of fl) all_five r.flags (all_flags (alu_answer op z k.left k.right false).flags)) (sym same) (five_flags home ls fl _ lefts (alu_five op z k.left k.right false))) id
      (subst (λ r. all_written at (Some z) (ls ++ (d ∷ [])) (all_flags (alu_answer op z k.left k.right false).flags ++ (Some (word z r.value) ∷ [])) s ≡ went k.third t) (sym same) k.wrote)

  -- IMUL
  pub imul_intrinsic : (m : ℕ) (fl : Flags) {ls : List Lval} {z : Size} {d : Lval} {x y : Arg} {p q r : Leaks} (sp at : Span) (t : State) (ns : List ℕ) → NoName y → FiveTo home ls fl → IsDest home z d (arg.Var m) r
      → (k : TwoParts z x y p q (low_product_results z) at (ls ++ (d ∷ [])) t ns)
      → Row frame home homing s σ related (record { span = sp; action = action.Imul z m y; flags = fl }) z x (arg.Var m) p r (is_var y ++ found_by y) (shown_of q k.second) k.first k.third t
  imul_intrinsic m fl {ls} {z} {y = y} sp at t ns nm lefts id k = record {
    left = k.left;
    reads = k.reads_left.reads;
    small = k.reads_left.small;
    shows = k.reads_left.shows;
    n = (low_product_answer z k.left k.right).value;
    fs = (low_product_answer z k.left k.right).flags;
    ends = imul_ends frame m y sp fl z σ k.left k.right _ nm k.reads_right.reads k.reads_right.shows;
    finish = finishes_with frame home homing (record { span = sp; action = action.Imul z m y; flags = fl }) at (low_product_answer z k.left k.right).flags (word z (low_product_answer z k.left k.right).value) _ k.third s σ t related
        (five_flags home ls fl _ lefts (low_five z k.left k.right)) id (word_itself z _) (product_small z k.left k.right) k.wrote;
  }

  -- MUL: the rest is Wides
  pub mul_intrinsic : (fl : Flags) {ls : List Lval} {z : Size} {dh dl : Lval} {x y : Arg} {p q : Leaks} (at : Span) (t : State) (ns : List ℕ) → FiveTo home ls fl
      → (k : TwoParts z x y p q (Rattle.jz_meaning.specs.Intrinsics.product_results z) at (ls ++ (dh ∷ dl ∷ [])) t ns) → ProductResult frame home homing s σ related fl z dh dl x y p q at t ns
  mul_intrinsic fl {ls} {z} at t ns lefts k = record {
    first = k.first;
    second = k.second;
    third = k.third;
    left = k.left;
    right = k.right;
    numbers = k.numbers ∙ Rattle.std.proofs.Common.append_assoc k.first k.second k.third;
    reads_left = k.reads_left;
    reads_right = k.reads_right;
    ls = ls;
    vs = all_flags (product_answer z k.left k.right).flags;
    flags = five_flags home ls fl _ lefts (product_five z k.left k.right);
    wrote = k.wrote;
  }

  -- ---- one word
  pub record OneParts (z : Size) (x : Arg) (p : Leaks) (f : ℕ → Results) (at : Span) (to : List Lval) (t : State) (ns : List ℕ) : Type 0 where
    pub first : List ℕ
    pub second : List ℕ
    pub left : ℕ
    pub numbers : ns ≡ first ++ second
    pub reads : WordRead frame home homing s σ related z x p first left
    pub wrote : all_written at (Some z) to (f left) s ≡ went second t

  pub one_intrinsic_parts : {z : Size} {a : Expr} {x : Arg} {p : Leaks} (f : ℕ → Results) (at : Span) (to : List Lval) (t : State) (ns : List ℕ) → IsArg home z a x p
      → and_then (of_one f at z (a ∷ []) s) (λ vs. all_written at (Some z) to vs s) ≡ went ns t → OneParts z x p f at to t ns
  one_intrinsic_parts {z} {a} f at to t ns ia run =
      let g = both_went (of_one f at z (a ∷ []) s) (λ vs. all_written at (Some z) to vs s) ns t run in
      let h = both_went (word_in at z a s) (λ x. went [] (f x)) g.first g.value g.came in
      let k = went_same [] h.second (f h.value) g.value h.went_on in
      record {
        first = h.first;
        second = g.second;
        left = h.value;
        numbers = g.numbers ∙ ap (λ l. l ++ g.second) (h.numbers ∙ ap (λ l. h.first ++ l) (sym k.0) ∙ append_nil h.first);
        reads = word_read_in frame home homing s σ related at h.first h.value ia h.came;
        wrote = subst (λ vs. all_written at (Some z) to vs s ≡ went g.second t) (sym k.1) g.went_on;
      }

  -- NEG, and any other whose flags are so many
  pub one_flag_row : (op : One) (fl : Flags) {ls : List Lval} {vs : List (Option Value)} {z : Size} {d : Lval} {x b : Arg} {p r : Leaks} (sp at : Span) (t : State) (left : ℕ) (first second : List ℕ) → WordRead frame home homing s σ related z x p first left
      → AreFlags home ls (flags_of fl) (one_changes op) (one_answer op z left no_flags).flags vs → (one_answer op z left no_flags).value < modulus z → IsDest home z d b r
      → all_written at (Some z) (ls ++ (d ∷ [])) (vs ++ (Some (word z (one_answer op z left no_flags).value) ∷ [])) s ≡ went second t
      → Row frame home homing s σ related (record { span = sp; action = action.One op z b; flags = fl }) z x b p r [] [] first second t
  one_flag_row op fl {z = z} {b = b} sp at t left first second rl flags small id run = record {
    left = left;
    reads = rl.reads;
    small = rl.small;
    shows = rl.shows;
    n = (one_answer op z left no_flags).value;
    fs = (one_answer op z left no_flags).flags;
    ends = one_ends frame op sp fl z b [] σ left;
    finish = finishes_with frame home homing (record { span = sp; action = action.One op z b; flags = fl }) at (one_answer op z left no_flags).flags (word z (one_answer op z left no_flags).value) _ second s σ t related flags id (word_itself z _) small run;
  }

  -- ---- SETcc, in the state behind its condition
  set_by : (sp : Span) (c : Condition) (b : Arg) (k : Bool) (τ : over.State) → holds_in c σ ≡ Some k → put frame b S8 (carried k) σ ≡ Some τ
      → step frame (plain sp (action.Set c b)) σ ≡ Some (record { shown = shown b σ ++ []; division = []; state = with_flags (plain sp (action.Set c b)) no_flags τ })
  set_by sp c b k τ e f = rw e (rw (put_shown frame b S8 (carried k) σ τ f) (rw f refl))

  carried_small : (k : Bool) → carried k < modulus S8
  carried_small true = omega arith
  carried_small false = omega arith

  pub record SetRuns (c : Condition) (b : Arg) (r : Leaks) (sp : Span) (t : State) (ns : List ℕ) : Type 0 where
    pub runs : RunsAs frame home homing s σ related (plain sp (action.Set c b) ∷ []) t (shown_of r ns ∷ [])
    pub counted : IsCounted r ns

  pub set_runs : {d : Lval} {b : Arg} {r : Leaks} (c : Condition) (k : Bool) (sp : Span) (t : State) (ns : List ℕ) → holds_in c σ ≡ Some k → IsDest home S8 d b r → written (Some S8) d (Some (word S8 (carried k))) s ≡ went ns t → SetRuns c b r sp t ns
  set_runs {d} {b} c k sp t ns says id run =
      let w = dest_written frame home homing s σ related id (word S8 (carried k)) (carried k) ns t refl (carried_small k) run in
      record {
        runs = record {
          ran = _;
          goes = one_ran frame home homing s σ related (plain sp (action.Set c b)) (shown b σ ++ []) _ (set_by sp c b k w.after says w.put');
          agrees = after_flags frame home homing s σ related sp (action.Set c b) no_flags t w.after w.agrees;
          shows = ap (λ v. v ∷ []) (append_nil (shown b σ ++ []) ∙ append_nil (shown b σ) ∙ w.numbers);
        };
        counted = w.counted;
      }
