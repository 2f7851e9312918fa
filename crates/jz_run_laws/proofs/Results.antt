-- What instructions compute fits its size.
use Rattle.std.proofs.Common.{◌≡◌, ◌<◌, ◌/◌, ◌%◌, ◌*◌, ◌==◌, ℕ, List, ◌∷◌, [], ◌++◌, Bool, true, false, Some, None, refl, arith, if◌then◌else◌, nat_lt, ltb-true, lt_trans}
use Rattle.std.specs.Prelude.{take, drop}
use Rattle.std.proofs.lemmas.List.Elements.{All-nil, All-cons, All-append, All-take, All-drop}
use Rattle.std.proofs.lemmas.Bool.Decides.{nat_tests}
use Rattle.std.proofs.lemmas.Nat.{mod_below}
use Rattle.jz_tree.specs.Size.{Size}
use Rattle.jz_tree.specs.Sizes.{modulus}
use Rattle.jz_tree.proofs.Residues.{residue_below}
use Rattle.x64_insn.specs.declared.types.FlagVal.{FlagVal}
use Rattle.x64_insn.specs.declared.types.FlagVal.TheVariants.{True, False, Undefined}
use Rattle.x64_insn.specs.declared.types.Alu.{Alu}
use Rattle.x64_insn.specs.declared.types.Alu.TheVariants as alu
use Rattle.x64_insn.specs.declared.types.One.{One}
use Rattle.x64_insn.specs.declared.types.One.TheVariants as one
use Rattle.x64_insn.specs.declared.types.Shift.{Shift}
use Rattle.x64_insn.specs.declared.types.Shift.TheVariants as shift
use Rattle.x64_insn.specs.declared.answer.Answer.{Answer}
use Rattle.x64_insn.specs.declared.products.DoubleAnswer.{DoubleAnswer}
use Rattle.x64_insn.specs.Answers.{sum_answer, difference_answer, and_answer, or_answer, xor_answer, alu_answer, one_answer}
use Rattle.x64_insn.specs.Shifts.{shifted, shift_flags, shift_answer}
use Rattle.x64_insn.specs.Products.{double_word, no_flags, product_answer, low_product_answer, quotient_answer}
use Rattle.jz_meaning.specs.States.{word}
use Rattle.jz_meaning.specs.Assignments.{Results}
use Rattle.jz_meaning.specs.Intrinsics.{flag_result, all_flags, first_two, all_but_carry, before_value, alu_results, one_results, low_product_results, product_results, no_results}
use Rattle.jz_run_laws.proofs.Parts.{IfThere}
use Rattle.jz_run_laws.proofs.Bounds.{cut_below, quotient_below, and_below, or_below, xor_below, turned_below, high_below}
use Rattle.jz_run_laws.proofs.Operators.{MayFit}
use Rattle.jz_run_laws.proofs.RightSides.{ResultsFit, one_fits, two_fit}

-- ---- flags

flag_fits : (f : FlagVal) → MayFit (flag_result f)
flag_fits True = tt
flag_fits False = tt
flag_fits Undefined = tt

pub flags_fit : (fs : List FlagVal) → ResultsFit (all_flags fs)
flags_fit [] = All-nil MayFit
flags_fit (f ∷ fs) = All-cons MayFit (flag_result f) (all_flags fs) (flag_fits f) (flags_fit fs)

pub first_fit : (fs : List FlagVal) → ResultsFit (first_two fs)
first_fit fs = All-take MayFit 2 (all_flags fs) (flags_fit fs)

pub but_carry_fit : (fs : List FlagVal) → ResultsFit (all_but_carry fs)
but_carry_fit fs = All-append MayFit (take 1 (all_flags fs)) (drop 2 (all_flags fs)) (All-take MayFit 1 (all_flags fs) (flags_fit fs)) (All-drop MayFit 2 (all_flags fs) (flags_fit fs))

pub none_fit : (fs : List FlagVal) → ResultsFit (no_results fs)
none_fit fs = All-nil MayFit

pub before_fits : (fs : Results) (z : Size) (v : ℕ) → ResultsFit fs → v < modulus z → ResultsFit (before_value fs z v)
before_fits fs z v h lt = All-append MayFit fs (Some (word z v) ∷ []) h (one_fits (Some (word z v)) lt)

-- ---- one value

alu_below : (op : Alu) (z : Size) (a b : ℕ) (c : Bool) → a < modulus z → b < modulus z → (alu_answer op z a b c).value < modulus z
unfolding sum_answer difference_answer and_answer or_answer xor_answer
alu_below alu.Add z a b c la lb = cut_below z _
alu_below alu.Or z a b c la lb = or_below z a b la lb
alu_below alu.Adc z a b c la lb = cut_below z _
alu_below alu.Sbb z a b c la lb = cut_below z _
alu_below alu.And z a b c la lb = and_below z a b la
alu_below alu.Sub z a b c la lb = cut_below z _
alu_below alu.Xor z a b c la lb = xor_below z a b la lb
alu_below alu.Cmp z a b c la lb = cut_below z _
alu_below alu.Test z a b c la lb = and_below z a b la

pub alu_fits : (op : Alu) (z : Size) (a b : ℕ) (c : Bool) → a < modulus z → b < modulus z → ResultsFit (alu_results op z a b c)
alu_fits op z a b c la lb =
    let r = alu_answer op z a b c in
    before_fits (all_flags r.flags) z r.value (flags_fit r.flags) (alu_below op z a b c la lb)

one_below : (op : One) (z : Size) (a : ℕ) (old : List FlagVal) → (one_answer op z a old).value < modulus z
unfolding one_answer sum_answer difference_answer
one_below one.Not z a old = turned_below z a
one_below one.Neg z a old = cut_below z _
one_below one.Inc z a old = cut_below z _
one_below one.Dec z a old = cut_below z _

pub one_fit : (flags : List FlagVal → Results) (op : One) (z : Size) (a : ℕ) → ((fs : List FlagVal) → ResultsFit (flags fs)) → ResultsFit (one_results flags op z a)
one_fit flags op z a h =
    let r = one_answer op z a no_flags in
    before_fits (flags r.flags) z r.value (h r.flags) (one_below op z a no_flags)

pub shifted_below : (kind : Shift) (z : Size) (a n : ℕ) → a < modulus z → shifted kind z a n < modulus z
shifted_below shift.Rol z a n lt = cut_below z _
shifted_below shift.Ror z a n lt = cut_below z _
shifted_below shift.Shl z a n lt = cut_below z _
shifted_below shift.Shr z a n lt = quotient_below z a _ lt
shifted_below shift.Sar z a n lt = residue_below z _

abbrev pub AnswerBelow : Size → Answer → Type 0
AnswerBelow z r = r.value < modulus z

shift_by : (c : Bool) (kind : Shift) (z : Size) (a n : ℕ) (old : List FlagVal) → a < modulus z
    → AnswerBelow z (if c then record { value = a; flags = old } else record { value = shifted kind z a n; flags = shift_flags kind z a n old })
shift_by true kind z a n old lt = lt
shift_by false kind z a n old lt = shifted_below kind z a n lt

pub shift_below : (kind : Shift) (z : Size) (a n : ℕ) (old : List FlagVal) → a < modulus z → AnswerBelow z (shift_answer kind z a n old)
unfolding shift_answer
shift_below kind z a n old lt = shift_by (n == 0) kind z a n old lt

-- ---- products and quotients

low_below : (z : Size) (a b : ℕ) → (low_product_answer z a b).value < modulus z
unfolding low_product_answer
low_below z a b = residue_below z _

pub low_product_fits : (z : Size) (a b : ℕ) → ResultsFit (low_product_results z a b)
low_product_fits z a b =
    let r = low_product_answer z a b in
    before_fits (all_flags r.flags) z r.value (flags_fit r.flags) (low_below z a b)

-- both words of an answer
abbrev pub BothBelow : Size → DoubleAnswer → Type 0
BothBelow z r = (r.high < modulus z) × (r.low < modulus z)

product_below : (z : Size) (a b : ℕ) → a < modulus z → b < modulus z → BothBelow z (product_answer z a b)
unfolding product_answer
product_below z a b la lb = (high_below z a b la lb, cut_below z (a * b))

pub both_fit : (fs : List FlagVal) (z : Size) (a b : ℕ) → a < modulus z → b < modulus z → ResultsFit (all_flags fs ++ Some (word z a) ∷ Some (word z b) ∷ [])
both_fit fs z a b la lb = All-append MayFit (all_flags fs) (Some (word z a) ∷ Some (word z b) ∷ []) (flags_fit fs) (two_fit (Some (word z a)) (Some (word z b)) la lb)

pub product_fits : (z : Size) (a b : ℕ) → a < modulus z → b < modulus z → ResultsFit (product_results z a b)
product_fits z a b la lb =
    let r = product_answer z a b in
    let k : BothBelow z (product_answer z a b) = product_below z a b la lb in
    both_fit r.flags z r.high r.low k.0 k.1

some_divisor : (d : ℕ) → (d == 0) ≡ false → 0 < d
some_divisor d e = grind (arith, nat_tests)

quotient_by : (c e : Bool) (z : Size) (n d : ℕ) → (d == 0) ≡ c → nat_lt (n / d) (modulus z) ≡ e → d < modulus z
    → IfThere (BothBelow z) (if c then None else if e then Some (record { high = n % d; low = n / d; flags = no_flags }) else None)
quotient_by true e z n d p q lt = tt
quotient_by false false z n d p q lt = tt
quotient_by false true z n d p q lt = (lt_trans (mod_below n d (some_divisor d p)) lt, ltb-true (n / d) (modulus z) q)

pub quotient_fits : (z : Size) (high low d : ℕ) → d < modulus z → IfThere (BothBelow z) (quotient_answer z high low d)
unfolding quotient_answer
quotient_fits z high low d lt =
    let n = double_word z high low in
    quotient_by (d == 0) (nat_lt (n / d) (modulus z)) z n d refl refl lt
