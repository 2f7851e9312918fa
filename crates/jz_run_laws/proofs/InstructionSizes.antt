-- The size of an intrinsic.
use Rattle.std.proofs.Common.{◌≡◌, Bool, true, false, ◌&&◌, List, [], ◌∷◌, Option, Some, None, refl, sym, ap, ◌∙◌, subst, inl, inr}
use Rattle.std.proofs.lemmas.Bool.{false≢true}
use Rattle.std.proofs.lemmas.List.Elements.{All-nil, All-cons, All-head, All-tail}
use Rattle.std.specs.Prelude.{All, is_some, if◌then◌else◌}
use Rattle.std.specs.Option.{option_or}
use Rattle.jz_tree.specs.Size.{Size}
use Rattle.jz_tree.specs.declared.expr.Expr.{Expr}
use Rattle.jz_tree.specs.declared.stmt.Lval.{Lval}
use Rattle.jz_tree.specs.declared.intrinsic.Intrinsic.{Intrinsic}
use Rattle.jz_tree.specs.declared.intrinsic.Intrinsic.TheVariants as name
use Rattle.jz_type_names.specs.Kinds.{array_of}
use Rattle.jz_type_sizes.specs.declared.signatures.Role.{Role}
use Rattle.jz_type_sizes.specs.declared.signatures.Role.TheVariants as role
use Rattle.jz_type_sizes.specs.Sides.{left_form}
use Rattle.jz_type_sizes.specs.Typings.{typing}
use Rattle.jz_type_sizes.specs.Worded.{is_worded}
use Rattle.jz_type_sizes.specs.Signatures.{Signature, operands_of, results_of, signature_of}
use Rattle.jz_type_sizes.specs.Intrinsics.{size_of_intrinsic, result_size, argument_size, is_value}
use Rattle.jz_judgement.specs.Places.{truth, word, unsized}
use Rattle.jz_judgement.specs.HasType.{value, HasType}
use Rattle.jz_judgement.specs.Lefts.{IsFlag, IsSound}
use Rattle.jz_judgement.specs.WellTyped as well
use Rattle.jz_judgement.specs.WellTyped.{InPairs, Operand, Output, Instructs, role_place}
use Rattle.jz_judgement.proofs.Expressions.{judged_of}
use Rattle.jz_judgement.proofs.Nothing.{none_not, same_some}
use Rattle.jz_meaning.specs.Values.{own_size}
use Rattle.jz_meaning.specs.Assignments.{left_sizes}
use Rattle.jz_meaning.specs.Intrinsics.{first_size, intrinsic_size}
use Rattle.jz_run_laws.specs.Counted.{Counted}
use Rattle.jz_run_laws.specs.Lefts.{IsCountedLeft, typed_lefts}
use Rattle.jz_run_laws.specs.OneSize.{takes_size, IsNoArray}
use Rattle.jz_run_laws.proofs.Sizes.{size_law}
use Rattle.jz_run_laws.proofs.LeftSizes.{lefts_law, flag_sound, holds_sound, leaves_sound, flag_none}
use Rattle.jz_run_laws.proofs.Unworded.{no_word_no_size}

-- ---- results: flags and values
abbrev are_results : List Role → Bool
are_results [] = true
are_results (role.Flag ∷ rs) = are_results rs
are_results (role.Value ∷ rs) = are_results rs
are_results (r ∷ rs) = false

flag_output : (z : Option Size) (d : Lval) → Output z role.Flag d → IsFlag d
flag_output None d h = h
flag_output (Some z) d h = h

value_output : (z : Option Size) (d : Lval) → Output z role.Value d → IsSound d
value_output None d h = leaves_sound d unsized h
value_output (Some z) d h = holds_sound (word z) d h

-- the size of the results, and that what stands in them is well typed
abbrev ResultsLaw : List Role → List Lval → Type 0
ResultsLaw rs ds = (result_size rs ds ≡ typed_lefts ds) × All IsSound ds

next_result : (z : Option Size) (r : Role) (rs : List Role) (d : Lval) (ds : List Lval) → are_results (r ∷ rs) ≡ true → Output z r d
    → (are_results rs ≡ true → ResultsLaw rs ds) → ResultsLaw (r ∷ rs) (d ∷ ds)
next_result z role.Flag rs d ds k o f = (
  (f k).0 ∙ sym (ap (λ s. option_or s (typed_lefts ds)) (flag_none d (flag_output z d o))),
  All-cons IsSound d ds (flag_sound d (flag_output z d o)) (f k).1,
)
next_result z role.Value rs d ds k o f = (
  ap (option_or (left_form d).size) (f k).0,
  All-cons IsSound d ds (value_output z d o) (f k).1,
)
next_result z role.Count rs d ds k o f = absurd (false≢true k)
next_result z role.Condition rs d ds k o f = absurd (false≢true k)
next_result z role.Address rs d ds k o f = absurd (false≢true k)
next_result z role.Byte rs d ds k o f = absurd (false≢true k)

results_law : (z : Option Size) (rs : List Role) (ds : List Lval) → are_results rs ≡ true → InPairs (Output z) rs ds → ResultsLaw rs ds
results_law z rs ds k well.none = (refl, All-nil IsSound)
results_law z rs ds k (well.next {a = r} {b = d} {as' = more} {bs = others} o p) =
    next_result z r more d others k o (λ k. results_law z more others k p)

-- ---- arguments: values and conditions, at the end perhaps a count
abbrev are_arguments : List Role → Bool
are_arguments [] = true
are_arguments (role.Value ∷ rs) = are_arguments rs
are_arguments (role.Condition ∷ rs) = are_arguments rs
are_arguments (role.Count ∷ []) = true
are_arguments (r ∷ rs) = false

no_array : (e : Expr) → array_of e ≡ None → is_some (array_of e) ≡ true → ⊥
no_array e n h = false≢true (sym (ap is_some n) ∙ h)

operand_type : (z : Option Size) (r : Role) (e : Expr) → IsNoArray e → Operand z r e → HasType (value e) (role_place z r)
operand_type z r e n o = elim o [ inl h ↦ absurd (no_array e n h) | inr t ↦ t ]

condition_place : (z : Option Size) → role_place z role.Condition ≡ truth
condition_place None = refl
condition_place (Some z) = refl

truth_none : (e : Expr) → HasType (value e) truth → (typing e).form.size ≡ None
truth_none e h = (judged_of e).apart.size ((judged_of e).apart.bool ((judged_of e).agrees.right truth h))

no_more : (es : List Expr) → argument_size [] es ≡ None
no_more [] = refl
no_more (e ∷ es) = refl

first_is : (a b : Option Size) (y : Size) → a ≡ Some y → option_or a b ≡ Some y
first_is None b y h = absurd (none_not y h)
first_is (Some x) b y h = h

second_is : (a b : Option Size) (y : Size) → a ≡ None → b ≡ Some y → option_or a b ≡ Some y
second_is a b y n h = ap (λ x. option_or x b) n ∙ h

value_argument : (b : Bool) (e : Expr) (rest others : Option Size) (y : Size) → is_worded e ≡ b → own_size e ≡ (typing e).form.size
    → (if b then (typing e).form.size else rest) ≡ Some y → (rest ≡ Some y → others ≡ Some y) → option_or (own_size e) others ≡ Some y
value_argument true e rest others y w s h f = first_is (own_size e) others y (s ∙ h)
value_argument false e rest others y w s h f = second_is (own_size e) others y (s ∙ no_word_no_size e w) (f h)

abbrev ArgumentsLaw : Size → List Role → List Expr → Type 0
ArgumentsLaw y rs es = argument_size rs es ≡ Some y → first_size es ≡ Some y

last_argument : (y : Size) (r : Role) (rs : List Role) (e : Expr) (es : List Expr) → argument_size rs es ≡ None
    → is_value r ≡ false → argument_size (r ∷ rs) (e ∷ es) ≡ Some y → ⊥
last_argument y r rs e es n v h =
    none_not y (sym n ∙ sym (ap (λ b. if b && is_worded e then (typing e).form.size else argument_size rs es) v) ∙ h)

next_argument : (z : Option Size) (y : Size) (r : Role) (rs : List Role) (e : Expr) (es : List Expr) → are_arguments (r ∷ rs) ≡ true
    → own_size e ≡ (typing e).form.size → HasType (value e) (role_place z r) → (are_arguments rs ≡ true → ArgumentsLaw y rs es) → ArgumentsLaw y (r ∷ rs) (e ∷ es)
next_argument z y role.Value rs e es k s t f = λ h.
    value_argument (is_worded e) e (argument_size rs es) (first_size es) y refl s h (f k)
next_argument z y role.Condition rs e es k s t f = λ h.
    second_is (own_size e) (first_size es) y (s ∙ truth_none e (subst (HasType (value e)) (condition_place z) t)) (f k h)
next_argument z y role.Count [] e es k s t f = λ h. absurd (last_argument y role.Count [] e es (no_more es) refl h)
next_argument z y role.Count (r ∷ rs) e es k s t f = absurd (false≢true k)
next_argument z y role.Flag rs e es k s t f = absurd (false≢true k)
next_argument z y role.Address rs e es k s t f = absurd (false≢true k)
next_argument z y role.Byte rs e es k s t f = absurd (false≢true k)

arguments_law : (z : Option Size) (y : Size) (rs : List Role) (es : List Expr) → are_arguments rs ≡ true → All Counted es → All IsNoArray es
    → InPairs (Operand z) rs es → ArgumentsLaw y rs es
arguments_law z y rs es k c n well.none = λ h. absurd (none_not y h)
arguments_law z y rs es k c n (well.next {a = r} {b = e} {as' = more} {bs = others} o p) =
    let t = operand_type z r e (All-head IsNoArray e others n) o in
    next_argument z y r more e others k (size_law e (role_place z r) (All-head Counted e others c) t) t
    (λ k. arguments_law z y more others k (All-tail Counted e others c) (All-tail IsNoArray e others n) p)

-- ---- the whole
results_fit : (i : Intrinsic) → takes_size i ≡ true → are_results (results_of i) ≡ true
results_fit name.Add h = refl
results_fit name.Sub h = refl
results_fit name.And h = refl
results_fit name.Or h = refl
results_fit name.Xor h = refl
results_fit name.Adc h = refl
results_fit name.Sbb h = refl
results_fit name.Neg h = refl
results_fit name.Inc h = refl
results_fit name.Dec h = refl
results_fit name.Not h = refl
results_fit name.Bswap h = refl
results_fit name.Lea h = absurd (false≢true h)
results_fit name.Cmp h = refl
results_fit name.Test h = refl
results_fit name.Shl h = refl
results_fit name.Shr h = refl
results_fit name.Sar h = refl
results_fit name.Rol h = refl
results_fit name.Ror h = refl
results_fit name.Imul h = refl
results_fit name.Mul h = refl
results_fit name.Div h = refl
results_fit name.Setcc h = absurd (false≢true h)

arguments_fit : (i : Intrinsic) → takes_size i ≡ true → are_arguments (operands_of i) ≡ true
arguments_fit name.Add h = refl
arguments_fit name.Sub h = refl
arguments_fit name.And h = refl
arguments_fit name.Or h = refl
arguments_fit name.Xor h = refl
arguments_fit name.Adc h = refl
arguments_fit name.Sbb h = refl
arguments_fit name.Neg h = refl
arguments_fit name.Inc h = refl
arguments_fit name.Dec h = refl
arguments_fit name.Not h = refl
arguments_fit name.Bswap h = refl
arguments_fit name.Lea h = absurd (false≢true h)
arguments_fit name.Cmp h = refl
arguments_fit name.Test h = refl
arguments_fit name.Shl h = refl
arguments_fit name.Shr h = refl
arguments_fit name.Sar h = refl
arguments_fit name.Rol h = refl
arguments_fit name.Ror h = refl
arguments_fit name.Imul h = refl
arguments_fit name.Mul h = refl
arguments_fit name.Div h = refl
arguments_fit name.Setcc h = absurd (false≢true h)

plain_size : (i : Intrinsic) (z : Option Size) (to : List Lval) (args : List Expr) → takes_size i ≡ true → intrinsic_size i z to args ≡ option_or z (option_or (left_sizes to) (first_size args))
plain_size name.Add z to args h = refl
plain_size name.Sub z to args h = refl
plain_size name.And z to args h = refl
plain_size name.Or z to args h = refl
plain_size name.Xor z to args h = refl
plain_size name.Adc z to args h = refl
plain_size name.Sbb z to args h = refl
plain_size name.Neg z to args h = refl
plain_size name.Inc z to args h = refl
plain_size name.Dec z to args h = refl
plain_size name.Not z to args h = refl
plain_size name.Bswap z to args h = refl
plain_size name.Lea z to args h = absurd (false≢true h)
plain_size name.Cmp z to args h = refl
plain_size name.Test z to args h = refl
plain_size name.Shl z to args h = refl
plain_size name.Shr z to args h = refl
plain_size name.Sar z to args h = refl
plain_size name.Rol z to args h = refl
plain_size name.Ror z to args h = refl
plain_size name.Imul z to args h = refl
plain_size name.Mul z to args h = refl
plain_size name.Div z to args h = refl
plain_size name.Setcc z to args h = absurd (false≢true h)

joined : (z r a f : Option Size) (y : Size) → option_or z (option_or r a) ≡ Some y → (a ≡ Some y → f ≡ Some y) → option_or z (option_or r f) ≡ Some y
joined None None a f y h k = k h
joined None (Some r) a f y h k = h
joined (Some z) r a f y h k = h

abbrev PairsOf : Signature → List Lval → List Expr → Type 0
PairsOf g to args = InPairs (Output (size_of_intrinsic g to args)) g.results to × InPairs (Operand (size_of_intrinsic g to args)) g.arguments args

pairs_of : (s : Option Signature) (g : Signature) (to : List Lval) (args : List Expr) → s ≡ Some g → Instructs s to args → PairsOf g to args
pairs_of s g to args e (well.unknown h) = absurd (none_not g e)
pairs_of s g to args e (well.instance_of {g = x} rs ps) = subst (λ g. PairsOf g to args) (same_some x g e) (rs, ps)

pub intrinsic_law : (i : Intrinsic) (z : Option Size) (to : List Lval) (args : List Expr) (y : Size)
    → takes_size i ≡ true → All IsCountedLeft to → All Counted args → All IsNoArray args
    → Instructs (Some (signature_of i z)) to args
    → size_of_intrinsic (signature_of i z) to args ≡ Some y → intrinsic_size i z to args ≡ Some y
intrinsic_law i z to args y k c d n t h =
    let g = signature_of i z in
    let pairs = pairs_of (Some g) g to args refl t in
    let results = results_law (size_of_intrinsic g to args) (results_of i) to (results_fit i k) pairs.0 in
    plain_size i z to args k
    ∙ ap (λ s. option_or z (option_or s (first_size args))) (lefts_law to c results.1 ∙ sym results.0)
    ∙ joined z (result_size (results_of i) to) (argument_size (operands_of i) args) (first_size args) y h
    (arguments_law (size_of_intrinsic g to args) y (operands_of i) args (arguments_fit i k) d n pairs.1)
