-- What quotients of words are, and three operations one after another.
use Rattle.std.proofs.Common.{◌≡◌, ℕ, ◌+◌, ◌*◌, ◌/◌, ◌%◌, ◌<◌, Bool, true, false, List, [], ◌∷◌, Some, refl, sym, ap, subst, arith, pos}
use Rattle.std.specs.Prelude.{nat_lt, ◌==◌, if◌then◌else◌}
use Rattle.std.proofs.lemmas.Bool.{lt-ltb}
use Rattle.std.proofs.Math.Nat.{div-le_self}
use Rattle.jz_io.specs.declared.span.Span.{Span}
use Rattle.jz_words.specs.declared.size.Size.{Size}
use Rattle.jz_words.specs.declared.size.Size.TheVariants.{S8, S16, S32, S64}
use Rattle.jz_words.specs.Sizes.{modulus}
use Rattle.jz_words.specs.Words.{residue}
use Rattle.x64_insn.specs.declared.products.DoubleAnswer.{DoubleAnswer}
use Rattle.x64_insn.specs.Products.{no_flags, quotient_answer}
use Rattle.jz_runs.specs.Rules.{went}
use Rattle.jz_meaning.specs.declared.value.Why.TheVariants.{Divide}
use Rattle.jz_meaning.specs.Attempts.{stuck_at}
use Rattle.jz_meaning.specs.States.{Value, word}
use Rattle.jz_operations.specs.declared.operation.Operation.{Operation}
use Rattle.jz_operations.specs.Values as over
use Rattle.jz_operations.specs.Rows.{Frame, Done, step}
use Rattle.jz_placing.specs.Variables.{numbers_of}
use Rattle.jz_homes.proofs.Parts.{went_same}
use Rattle.jz_row_operations.proofs.Runs.{runs}

pub zero_word : (z : Size) → residue z (pos 0) ≡ 0
zero_word S8 = refl
zero_word S16 = refl
zero_word S32 = refl
zero_word S64 = refl

pub some_zero : (z : Size) → 0 < modulus z
some_zero S8 = omega arith
some_zero S16 = omega arith
some_zero S32 = omega arith
some_zero S64 = omega arith

pub divided_by : (b : Bool) (d : ℕ) (at : Span) (z : Size) (h a q : ℕ) (ns : List ℕ) (v : Value) → (d == 0) ≡ b → (if b then stuck_at at Divide else went (h ∷ a ∷ d ∷ []) (word z q)) ≡ went ns v → ((d == 0) ≡ false) × (ns ≡ h ∷ a ∷ d ∷ []) × (word z q ≡ v)
divided_by true d at z h a q ns v e f = absurd cc
divided_by false d at z h a q ns v e f = let k = went_same (h ∷ a ∷ d ∷ []) ns (word z q) v f in (e, sym k.0, k.1)

quotient_below : (a d m : ℕ) → a < m → a / d < m
quotient_below a d m h = let l = div-le_self a d in omega (arith, h, l)

-- the quotient of a word by a word has a word
pub quotient_is : (z : Size) (a d : ℕ) → a < modulus z → (d == 0) ≡ false → (r : DoubleAnswer) × (quotient_answer z 0 a d ≡ Some r) × (r.low ≡ a / d) × (r.high ≡ a % d)
unfolding quotient_answer
quotient_is z a d h e =
    let n : 0 * modulus z + a ≡ a = omega arith in
    let l : nat_lt ((0 * modulus z + a) / d) (modulus z) ≡ true = lt-ltb _ _ (subst (λ x. x / d < modulus z) (sym n) (quotient_below a d (modulus z) h)) in
    let q : DoubleAnswer = record { high = (0 * modulus z + a) % d; low = (0 * modulus z + a) / d; flags = no_flags } in
    (q, rw (e, l) refl, ap (λ x. x / d) n, ap (λ x. x % d) n)

pub three_by : (frame : Frame) (o1 o2 o3 : Operation) (σ : over.State) (d1 d2 d3 : Done) → step frame o1 σ ≡ Some d1 → step frame o2 d1.state ≡ Some d2 → step frame o3 d2.state ≡ Some d3
    → runs frame (o1 ∷ o2 ∷ o3 ∷ []) σ ≡ Some (record { shown = numbers_of d1 ∷ numbers_of d2 ∷ numbers_of d3 ∷ []; state = d3.state })
three_by frame o1 o2 o3 σ d1 d2 d3 e f g = rw e (rw f (rw g refl))

pub three_same : {a b c d e f : List ℕ} → a ≡ b → c ≡ d → e ≡ f → ◌≡◌ {A = List (List ℕ)} (a ∷ c ∷ e ∷ []) (b ∷ d ∷ f ∷ [])
three_same g h i = rw (g, h, i) refl
