-- An instruction gives its flags first, and behind them words, which are never missing.
use Rattle.std.proofs.Common.{◌≡◌, ℕ, zero, suc, List, [], ◌∷◌, ◌++◌, length, drop, take, Option, Some, None, Bool, true, false, refl, ap, sym, subst, arith, if◌then◌else◌}
use Rattle.std.specs.Prelude.{pos, negsuc, nat_lt, ◌==◌, ◌/◌, ◌%◌, All}
use Rattle.std.proofs.lemmas.List.Elements.{All-head, All-tail}
use Rattle.jz_tree.specs.Span.{Span}
use Rattle.jz_tree.specs.Size.{Size}
use Rattle.jz_tree.specs.Size.TheVariants.{S8, S64}
use Rattle.jz_tree.specs.Sizes.{modulus}
use Rattle.x64_insn.specs.declared.types.FlagVal.{FlagVal}
use Rattle.x64_insn.specs.declared.types.Alu.{Alu}
use Rattle.x64_insn.specs.declared.types.Alu.TheVariants as alu
use Rattle.x64_insn.specs.declared.types.One.{One}
use Rattle.x64_insn.specs.declared.types.One.TheVariants as one
use Rattle.x64_insn.specs.declared.types.Shift.{Shift}
use Rattle.x64_insn.specs.declared.types.Shift.TheVariants as shift
use Rattle.x64_insn.specs.declared.products.DoubleAnswer.{DoubleAnswer}
use Rattle.x64_insn.specs.Words.{carried}
use Rattle.x64_insn.specs.declared.answer.Answer.{Answer}
use Rattle.x64_insn.specs.Answers.{flags_of, sum_answer, difference_answer, and_answer, or_answer, xor_answer, alu_answer, one_answer}
use Rattle.x64_insn.specs.Shifts.{masked, shifted, shift_flags, shift_answer}
use Rattle.x64_insn.specs.Products.{no_flags, product_answer, low_product_answer, double_word, quotient_answer}
use Rattle.jz_tree.specs.declared.expr.Expr.{Expr}
use Rattle.jz_tree.specs.declared.stmt.Lval.{Lval}
use Rattle.jz_tree.specs.declared.stmt.Lval.TheVariants as lval
use Rattle.jz_tree.specs.declared.intrinsic.Intrinsic.{Intrinsic}
use Rattle.jz_tree.specs.declared.intrinsic.Intrinsic.TheVariants as name
use Rattle.jz_tree.specs.declared.intrinsic.Instance.{Instance}
use Rattle.jz_runs.specs.Rules.{went}
use Rattle.jz_meaning.specs.Attempts.{and_then}
use Rattle.jz_meaning.specs.States.{Value, word, boolean, integer, State}
use Rattle.jz_meaning.specs.Values.{evaluated}
use Rattle.jz_meaning.specs.Assignments.{Results, word_in, bool_in}
use Rattle.jz_meaning.specs.Intrinsics.{all_flags, first_two, all_but_carry, before_value, of_one, of_two, of_carry, of_count, shift_results, divided_by, division_results, of_division, of_condition, alu_results, one_results, no_results, low_product_results, product_results, intrinsic_results, intrinsic_size, sized_results}
use Rattle.jz_arrays.specs.Arrays.{flags_in_front, flags_before, IsNoCell}
use Rattle.jz_unroll.proofs.PartNumbers.{then_went}
use Rattle.jz_arrays.proofs.Assigning.{AllSome, IsGiven, AreGiven, some_given, results_given}

-- ---- five flags

five_of : (fs : List FlagVal) → length fs ≡ 5 → (a : FlagVal) × (b : FlagVal) × (c : FlagVal) × (d : FlagVal) × (e : FlagVal) × (fs ≡ a ∷ b ∷ c ∷ d ∷ e ∷ [])
five_of [] q = absurd (omega (arith, q))
five_of (a ∷ []) q = absurd (omega (arith, q))
five_of (a ∷ b ∷ []) q = absurd (omega (arith, q))
five_of (a ∷ b ∷ c ∷ []) q = absurd (omega (arith, q))
five_of (a ∷ b ∷ c ∷ d ∷ []) q = absurd (omega (arith, q))
five_of (a ∷ b ∷ c ∷ d ∷ e ∷ []) q = (a, b, c, d, e, refl)
five_of (a ∷ b ∷ c ∷ d ∷ e ∷ f ∷ fs) q = absurd (omega (arith, q))

behind_flags : (fs : List FlagVal) → length fs ≡ 5 → AllSome (drop 5 (all_flags fs))
behind_flags fs q = let x = five_of fs q in subst (λ l. AllSome (drop 5 (all_flags l))) (sym x.5) tt

behind_all : (fs : List FlagVal) (vs : Results) → length fs ≡ 5 → AllSome vs → AllSome (drop 5 (all_flags fs ++ vs))
behind_all fs vs q h = let x = five_of fs q in subst (λ l. AllSome (drop 5 (all_flags l ++ vs))) (sym x.5) h

behind_two : (fs : List FlagVal) (vs : Results) → length fs ≡ 5 → AllSome vs → AllSome (drop 2 (first_two fs ++ vs))
behind_two fs vs q h = let x = five_of fs q in subst (λ l. AllSome (drop 2 (first_two l ++ vs))) (sym x.5) h

behind_four : (fs : List FlagVal) (vs : Results) → length fs ≡ 5 → AllSome vs → AllSome (drop 4 (all_but_carry fs ++ vs))
behind_four fs vs q h = let x = five_of fs q in subst (λ l. AllSome (drop 4 (all_but_carry l ++ vs))) (sym x.5) h

alu_five : (op : Alu) (z : Size) (a b : ℕ) (c : Bool) → length (alu_answer op z a b c).flags ≡ 5
unfolding flags_of sum_answer difference_answer and_answer or_answer xor_answer
alu_five alu.Add z a b c = refl
alu_five alu.Or z a b c = refl
alu_five alu.Adc z a b c = refl
alu_five alu.Sbb z a b c = refl
alu_five alu.And z a b c = refl
alu_five alu.Sub z a b c = refl
alu_five alu.Xor z a b c = refl
alu_five alu.Cmp z a b c = refl
alu_five alu.Test z a b c = refl

one_five : (op : One) (z : Size) (a : ℕ) → length (one_answer op z a no_flags).flags ≡ 5
unfolding one_answer flags_of sum_answer difference_answer
one_five one.Not z a = refl
one_five one.Neg z a = refl
one_five one.Inc z a = refl
one_five one.Dec z a = refl

set_five : (k : Shift) (z : Size) (a n : ℕ) → length (shift_flags k z a n no_flags) ≡ 5
set_five shift.Rol z a n = refl
set_five shift.Ror z a n = refl
set_five shift.Shl z a n = refl
set_five shift.Shr z a n = refl
set_five shift.Sar z a n = refl

shift_five : (k : Shift) (z : Size) (a n : ℕ) → length (shift_answer k z a n no_flags).flags ≡ 5
unfolding shift_answer
shift_five k z a n = by_test (n == 0)
  where
    kept : Answer
    kept = record { value = a; flags = no_flags }

    set : Answer
    set = record { value = shifted k z a n; flags = shift_flags k z a n no_flags }

    by_test : (b : Bool) → length (if◌then◌else◌ {A = Answer} b kept set).flags ≡ 5
    by_test true = refl
    by_test false = set_five k z a n

low_five : (z : Size) (a b : ℕ) → length (low_product_answer z a b).flags ≡ 5
unfolding low_product_answer
low_five z a b = refl

product_five : (z : Size) (a b : ℕ) → length (product_answer z a b).flags ≡ 5
unfolding product_answer
product_five z a b = refl

quotient_five : (z : Size) (h l d : ℕ) (r : DoubleAnswer) → quotient_answer z h l d ≡ Some r → length r.flags ≡ 5
unfolding quotient_answer
quotient_five z h l d r e = by_tests (d == 0) (nat_lt (double_word z h l / d) (modulus z)) e
  where
    n : ℕ
    n = double_word z h l

    by_tests : (b c : Bool) → (if b then None else if c then Some (record { high = n % d; low = n / d; flags = no_flags }) else None) ≡ Some r → length r.flags ≡ 5
    by_tests true c q = absurd cc
    by_tests false true q = let w : record { high = n % d; low = n / d; flags = no_flags } ≡ r = cc in ap (λ (x : DoubleAnswer). length x.flags) (sym w)
    by_tests false false q = absurd cc

-- ---- what a form of instruction gives

module _ (P : Results → Type 0) (at : Span) (z : Size) (s : State) (ns : List ℕ) (vs : Results) where
  one_words : (f : ℕ → Results) (es : List Expr) → ((x : ℕ) → P (f x)) → of_one f at z es s ≡ went ns vs → P vs
  one_words f [] h q = absurd cc
  one_words f (a ∷ []) h q =
      let p = then_went (word_in at z a s) (λ x. went [] (f x)) ns vs q in
      let w : f p.1 ≡ vs = (let y = p.4 in cc) in subst P w (h p.1)
  one_words f (a ∷ b ∷ es) h q = absurd cc

  two_words : (f : ℕ → ℕ → Results) (es : List Expr) → ((x y : ℕ) → P (f x y)) → of_two f at z es s ≡ went ns vs → P vs
  two_words f [] h q = absurd cc
  two_words f (a ∷ []) h q = absurd cc
  two_words f (a ∷ b ∷ []) h q =
      let p = then_went (word_in at z a s) (λ x. and_then (word_in at z b s) (λ y. went [] (f x y))) ns vs q in
      let r = then_went (word_in at z b s) (λ y. went [] (f p.1 y)) p.2 vs p.4 in
      let w : f p.1 r.1 ≡ vs = (let y = r.4 in cc) in subst P w (h p.1 r.1)
  two_words f (a ∷ b ∷ c ∷ es) h q = absurd cc

  carry_words : (f : ℕ → ℕ → Bool → Results) (es : List Expr) → ((x y : ℕ) (c : Bool) → P (f x y c)) → of_carry f at z es s ≡ went ns vs → P vs
  carry_words f [] h q = absurd cc
  carry_words f (a ∷ []) h q = absurd cc
  carry_words f (a ∷ b ∷ []) h q = absurd cc
  carry_words f (a ∷ b ∷ c ∷ []) h q =
      let p = then_went (word_in at z a s) (λ x. and_then (word_in at z b s) (λ y. and_then (bool_in at c s) (λ k. went [] (f x y k)))) ns vs q in
      let r = then_went (word_in at z b s) (λ y. and_then (bool_in at c s) (λ k. went [] (f p.1 y k))) p.2 vs p.4 in
      let u = then_went (bool_in at c s) (λ k. went [] (f p.1 r.1 k)) r.2 vs r.4 in
      let w : f p.1 r.1 u.1 ≡ vs = (let y = u.4 in cc) in subst P w (h p.1 r.1 u.1)
  carry_words f (a ∷ b ∷ c ∷ d ∷ es) h q = absurd cc

  shift_words : (flags : List FlagVal → Results) (k : Shift) (a : ℕ) (v : Value) (ks : List ℕ) → ((fs : List FlagVal) (u : ℕ) → length fs ≡ 5 → P (before_value (flags fs) z u)) → shift_results flags k at z a v ≡ went ks vs → P vs
  shift_words flags k a (integer (pos n)) ks h q =
      let r = shift_answer k z a (masked z n) no_flags in
      let w : before_value (flags r.flags) z r.value ≡ vs = cc in subst P w (h r.flags r.value (shift_five k z a (masked z n)))
  shift_words flags k a (integer (negsuc n)) ks h q = absurd cc
  shift_words flags k a (word y n) ks h q = let w : before_value (flags no_flags) z (shifted k z a (masked z n)) ≡ vs = cc in subst P w (h no_flags (shifted k z a (masked z n)) refl)
  shift_words flags k a (boolean c) ks h q = absurd cc

  count_words : (flags : List FlagVal → Results) (k : Shift) (es : List Expr) → ((fs : List FlagVal) (u : ℕ) → length fs ≡ 5 → P (before_value (flags fs) z u)) → of_count flags k at z es s ≡ went ns vs → P vs
  count_words flags k [] h q = absurd cc
  count_words flags k (a ∷ []) h q = absurd cc
  count_words flags k (a ∷ n ∷ []) h q =
      let p = then_went (word_in at z a s) (λ x. and_then (evaluated n (Some S8) s) (λ v. shift_results flags k at z x v)) ns vs q in
      let r = then_went (evaluated n (Some S8) s) (λ v. shift_results flags k at z p.1 v) p.2 vs p.4 in
      shift_words flags k p.1 r.1 r.2 h r.4
  count_words flags k (a ∷ b ∷ c ∷ es) h q = absurd cc

  divided_words : (h l d : ℕ) (o : Option DoubleAnswer) (ks : List ℕ) → ((r : DoubleAnswer) → o ≡ Some r → length r.flags ≡ 5) → ((fs : List FlagVal) (u v : ℕ) → length fs ≡ 5 → P (all_flags fs ++ Some (word z u) ∷ Some (word z v) ∷ [])) → divided_by at z (h ∷ l ∷ d ∷ []) o ≡ went ks vs → P vs
  divided_words h l d None ks five p q = absurd cc
  divided_words h l d (Some r) ks five p q = let w : (all_flags r.flags ++ Some (word z r.low) ∷ Some (word z r.high) ∷ []) ≡ vs = cc in subst P w (p r.flags r.low r.high (five r refl))

  division_words : (es : List Expr) → ((fs : List FlagVal) (u v : ℕ) → length fs ≡ 5 → P (all_flags fs ++ Some (word z u) ∷ Some (word z v) ∷ [])) → of_division at z es s ≡ went ns vs → P vs
  division_words [] h q = absurd cc
  division_words (a ∷ []) h q = absurd cc
  division_words (a ∷ b ∷ []) h q = absurd cc
  division_words (a ∷ b ∷ d ∷ []) h q =
      let p = then_went (word_in at z a s) (λ x. and_then (word_in at z b s) (λ y. and_then (word_in at z d s) (division_results at z x y))) ns vs q in
      let r = then_went (word_in at z b s) (λ y. and_then (word_in at z d s) (division_results at z p.1 y)) p.2 vs p.4 in
      let u = then_went (word_in at z d s) (division_results at z p.1 r.1) r.2 vs r.4 in
      divided_words p.1 r.1 u.1 (quotient_answer z p.1 r.1 u.1) u.2 (λ k e. quotient_five z p.1 r.1 u.1 k e) h u.4
  division_words (a ∷ b ∷ c ∷ d ∷ es) h q = absurd cc

condition_words : (P : Results → Type 0) (at : Span) (s : State) (ns : List ℕ) (vs : Results) (es : List Expr) → ((u : Value) → P (Some u ∷ [])) → of_condition at es s ≡ went ns vs → P vs
condition_words P at s ns vs [] h q = absurd cc
condition_words P at s ns vs (c ∷ []) h q =
    let p = then_went (bool_in at c s) (λ k. went [] (Some (word S8 (carried k)) ∷ [])) ns vs q in
    let w : (Some (word S8 (carried p.1)) ∷ []) ≡ vs = (let y = p.4 in cc) in subst P w (h (word S8 (carried p.1)))
condition_words P at s ns vs (a ∷ b ∷ es) h q = absurd cc

-- ---- each instruction

abbrev Behind : ℕ → Results → Type 0
Behind n vs = AllSome (drop n vs)

intrinsic_words : (i : Intrinsic) (at : Span) (z : Size) (es : List Expr) (s : State) (ns : List ℕ) (vs : Results) → intrinsic_results i at z es s ≡ went ns vs → Behind (flags_in_front i) vs
intrinsic_words name.Add at z es s ns vs q = two_words (Behind 5) at z s ns vs (λ a b. alu_results alu.Add z a b false) es (λ a b. behind_all (alu_answer alu.Add z a b false).flags _ (alu_five alu.Add z a b false) tt) q
intrinsic_words name.Sub at z es s ns vs q = two_words (Behind 5) at z s ns vs (λ a b. alu_results alu.Sub z a b false) es (λ a b. behind_all (alu_answer alu.Sub z a b false).flags _ (alu_five alu.Sub z a b false) tt) q
intrinsic_words name.And at z es s ns vs q = two_words (Behind 5) at z s ns vs (λ a b. alu_results alu.And z a b false) es (λ a b. behind_all (alu_answer alu.And z a b false).flags _ (alu_five alu.And z a b false) tt) q
intrinsic_words name.Or at z es s ns vs q = two_words (Behind 5) at z s ns vs (λ a b. alu_results alu.Or z a b false) es (λ a b. behind_all (alu_answer alu.Or z a b false).flags _ (alu_five alu.Or z a b false) tt) q
intrinsic_words name.Xor at z es s ns vs q = two_words (Behind 5) at z s ns vs (λ a b. alu_results alu.Xor z a b false) es (λ a b. behind_all (alu_answer alu.Xor z a b false).flags _ (alu_five alu.Xor z a b false) tt) q
intrinsic_words name.Adc at z es s ns vs q = carry_words (Behind 5) at z s ns vs (alu_results alu.Adc z) es (λ a b c. behind_all (alu_answer alu.Adc z a b c).flags _ (alu_five alu.Adc z a b c) tt) q
intrinsic_words name.Sbb at z es s ns vs q = carry_words (Behind 5) at z s ns vs (alu_results alu.Sbb z) es (λ a b c. behind_all (alu_answer alu.Sbb z a b c).flags _ (alu_five alu.Sbb z a b c) tt) q
intrinsic_words name.Neg at z es s ns vs q = one_words (Behind 5) at z s ns vs (one_results all_flags one.Neg z) es (λ a. behind_all (one_answer one.Neg z a no_flags).flags _ (one_five one.Neg z a) tt) q
intrinsic_words name.Inc at z es s ns vs q = one_words (Behind 4) at z s ns vs (one_results all_but_carry one.Inc z) es (λ a. behind_four (one_answer one.Inc z a no_flags).flags _ (one_five one.Inc z a) tt) q
intrinsic_words name.Dec at z es s ns vs q = one_words (Behind 4) at z s ns vs (one_results all_but_carry one.Dec z) es (λ a. behind_four (one_answer one.Dec z a no_flags).flags _ (one_five one.Dec z a) tt) q
intrinsic_words name.Not at z es s ns vs q = one_words (Behind 0) at z s ns vs (one_results no_results one.Not z) es (λ a. tt) q
intrinsic_words name.Bswap at z es s ns vs q = one_words (Behind 0) at z s ns vs _ es (λ a. tt) q
intrinsic_words name.Lea at z es s ns vs q = one_words (Behind 0) at S64 s ns vs _ es (λ a. tt) q
intrinsic_words name.Cmp at z es s ns vs q = two_words (Behind 5) at z s ns vs (λ a b. all_flags (alu_answer alu.Cmp z a b false).flags) es (λ a b. behind_flags (alu_answer alu.Cmp z a b false).flags (alu_five alu.Cmp z a b false)) q
intrinsic_words name.Test at z es s ns vs q = two_words (Behind 5) at z s ns vs (λ a b. all_flags (alu_answer alu.Test z a b false).flags) es (λ a b. behind_flags (alu_answer alu.Test z a b false).flags (alu_five alu.Test z a b false)) q
intrinsic_words name.Shl at z es s ns vs q = count_words (Behind 5) at z s ns vs all_flags shift.Shl es (λ fs u e. behind_all fs _ e tt) q
intrinsic_words name.Shr at z es s ns vs q = count_words (Behind 5) at z s ns vs all_flags shift.Shr es (λ fs u e. behind_all fs _ e tt) q
intrinsic_words name.Sar at z es s ns vs q = count_words (Behind 5) at z s ns vs all_flags shift.Sar es (λ fs u e. behind_all fs _ e tt) q
intrinsic_words name.Rol at z es s ns vs q = count_words (Behind 2) at z s ns vs first_two shift.Rol es (λ fs u e. behind_two fs _ e tt) q
intrinsic_words name.Ror at z es s ns vs q = count_words (Behind 2) at z s ns vs first_two shift.Ror es (λ fs u e. behind_two fs _ e tt) q
intrinsic_words name.Imul at z es s ns vs q = two_words (Behind 5) at z s ns vs (low_product_results z) es (λ a b. behind_all (low_product_answer z a b).flags _ (low_five z a b) tt) q
intrinsic_words name.Mul at z es s ns vs q = two_words (Behind 5) at z s ns vs (product_results z) es (λ a b. behind_all (product_answer z a b).flags _ (product_five z a b) tt) q
intrinsic_words name.Div at z es s ns vs q = division_words (Behind 5) at z s ns vs es (λ fs u v e. behind_all fs _ e tt) q
intrinsic_words name.Setcc at z es s ns vs q = condition_words (Behind 0) at s ns vs es (λ u. tt) q

-- ---- left sides

-- the first left sides, which take flags, are no cells
given_behind : (n : ℕ) (ds : List Lval) (vs : Results) → All IsNoCell (take n ds) → AllSome (drop n vs) → AreGiven ds vs
given_behind zero ds vs h a = some_given ds vs a
given_behind (suc n) [] vs h a = tt
given_behind (suc n) (d ∷ ds) [] h a = tt
given_behind (suc n) (d ∷ ds) (v ∷ vs) h a = (one_given d v (All-head IsNoCell d (take n ds) h), given_behind n ds vs (All-tail IsNoCell d (take n ds) h) a)
  where
    one_given : (d : Lval) (v : Option Value) → IsNoCell d → IsGiven d v
    one_given (lval.Skip at) v k = tt
    one_given (lval.Var x) v k = tt
    one_given (lval.Store y) v k = tt
    one_given (lval.Cell x i) v k = absurd k

pub given_so : (i : Option Instance) (to : List Lval) (es : List Expr) (at : Span) (s : State) (ns : List ℕ) (vs : Results) → All IsNoCell (take (flags_before i) to) → results_given i to es at s ≡ went ns vs → AreGiven to vs
given_so None to es at s ns vs h q = absurd cc
given_so (Some i) to es at s ns vs h q = by_size (intrinsic_size i.name i.size to es) q
  where
    by_size : (z : Option Size) → sized_results i.name at z es s ≡ went ns vs → AreGiven to vs
    by_size None e = absurd cc
    by_size (Some z) e = given_behind (flags_in_front i.name) to vs h (intrinsic_words i.name at z es s ns vs e)
