-- Instructions that statements name.
use Rattle.std.proofs.Common.{◌≡◌, ℕ, Bool, true, false, List, [], ◌∷◌, Option, Some, None, refl, sym, ap, ◌∙◌, subst, inl, inr, pos, negsuc}
use Rattle.std.specs.Prelude.{◌&&◌, All, Contains, is_some, option_map}
use Rattle.std.specs.Option.{option_or}
use Rattle.std.proofs.lemmas.Bool.{false≢true, and_parts}
use Rattle.std.proofs.lemmas.List.Elements.{All-head, All-tail}
use Rattle.jz_tree.specs.Span.{Span}
use Rattle.jz_tree.specs.Size.{Size}
use Rattle.jz_tree.specs.Size.TheVariants.{S8, S64}
use Rattle.jz_tree.specs.Spellings.{spelled}
use Rattle.jz_tree.specs.declared.expr.Expr.{Expr}
use Rattle.jz_tree.specs.declared.expr.Decl.{Decl}
use Rattle.jz_tree.specs.declared.stmt.Lval.{Lval}
use Rattle.jz_tree.specs.declared.intrinsic.Intrinsic.{Intrinsic}
use Rattle.jz_tree.specs.declared.intrinsic.Intrinsic.TheVariants as name
use Rattle.jz_tree.specs.declared.intrinsic.Instance.{Instance}
use Rattle.x64_insn.specs.declared.types.FlagVal.{FlagVal}
use Rattle.x64_insn.specs.declared.types.Alu.TheVariants as alu
use Rattle.x64_insn.specs.declared.types.One.TheVariants as one
use Rattle.x64_insn.specs.declared.types.Shift.{Shift}
use Rattle.x64_insn.specs.declared.types.Shift.TheVariants as shift
use Rattle.x64_insn.specs.declared.products.DoubleAnswer.{DoubleAnswer}
use Rattle.x64_insn.specs.Answers.{alu_answer}
use Rattle.x64_insn.specs.Products.{quotient_answer}
use Rattle.jz_tree.specs.Words.{carried, swapped_of}
use Rattle.jz_type_names.specs.Kinds.{array_of}
use Rattle.jz_type_sizes.specs.declared.signatures.Role.{Role}
use Rattle.jz_type_sizes.specs.declared.signatures.Role.TheVariants as role
use Rattle.jz_type_sizes.specs.Signatures.{operands_of, results_of, signature_of, instance_signature}
use Rattle.jz_type_sizes.specs.Intrinsics.{size_of_intrinsic, result_size, argument_size}
use Rattle.jz_type_sizes.specs.Sides.{left_form}
use Rattle.jz_select.specs.declared.shaping.Flags.TheVariants as flags
use Rattle.jz_select.specs.Sums.{is_sum}
use Rattle.jz_select.specs.Look.{terms_of}
use Rattle.jz_select.specs.Operands.{dest_of}
use Rattle.jz_select.specs.Rows.{is_r, is_longest, class_size}
use Rattle.jz_select.specs.Shapes.{Asked, value_behind, address_shape, intrinsic_shape, named_shape}
use Rattle.jz_judgement.specs.Places as place
use Rattle.jz_judgement.specs.HasType.{value, HasType}
use Rattle.jz_judgement.specs.Lefts.{Holds, IsFlag}
use Rattle.jz_judgement.specs.WellTyped as well
use Rattle.jz_judgement.specs.WellTyped.{InPairs, Output, Operand, role_place, Instructs}
use Rattle.jz_judgement.proofs.Nothing.{some_not, neither_size}
use Rattle.jz_meaning.specs.declared.value.Stuck as code
use Rattle.jz_meaning.specs.Rules.{went}
use Rattle.jz_meaning.specs.Attempts.{and_then}
use Rattle.jz_meaning.specs.States.{Value, word, boolean, integer, State}
use Rattle.jz_meaning.specs.Operators.{word_at}
use Rattle.jz_meaning.specs.Values.{evaluated}
use Rattle.jz_meaning.specs.Assignments.{Results, word_in, bool_in, all_written}
use Rattle.jz_meaning.specs.Intrinsics.{all_flags, first_two, all_but_carry, before_value, of_one, of_two, of_carry, shift_results, of_count, divided_by, division_results, of_division, of_condition, alu_results, one_results, low_product_results, product_results, no_results, intrinsic_results, intrinsic_size, sized_results, instruction_done}
use Rattle.jz_meaning.specs.Statements.{instruction}
use Rattle.jz_run_laws.specs.Kinds.{IsOfKinds}
use Rattle.jz_run_laws.specs.DeclaredKinds.{kinds_of, LeftDeclared}
use Rattle.jz_run_laws.specs.Counted.{Counted}
use Rattle.jz_run_laws.specs.Kept.{IfWent}
use Rattle.jz_run_laws.specs.Lefts.{IsCountedLeft}
use Rattle.jz_run_laws.specs.OneSize.{takes_size, IsNoArray}
use Rattle.jz_run_laws.specs.Values.{IsAt}
use Rattle.jz_run_laws.proofs.Classes.{result_law}
use Rattle.jz_run_laws.proofs.InstructionSizes.{intrinsic_law}
use Rattle.jz_run_laws.proofs.Stores.{state_fits}
use Rattle.jz_run_laws.proofs.RightSides.{ResultsFit}
use Rattle.jz_row_laws.proofs.Copied.{Matches, no_free}
use Rattle.jz_typed_runs.specs.Reached.{operation}
use Rattle.jz_typed_runs.proofs.OperatorCauses.{IfStuck}
use Rattle.jz_typed_runs.proofs.Causing.{stuck_then, divide_not}
use Rattle.jz_stuck_runs.specs.Parts as part
use Rattle.jz_stuck_runs.specs.Parts.{HasResults}
use Rattle.jz_stuck_runs.specs.Lacking as lacking
use Rattle.jz_stuck_runs.specs.Lacking.{IsLacking, LacksValue}
use Rattle.jz_stuck_runs.proofs.Steps.{Lacks, weaker, stuck_any, stated_there, first_in, later_in}
use Rattle.jz_stuck_runs.proofs.Expressions.{HasKept, counted_of, after, word_fine, bool_fine}
use Rattle.jz_stuck_runs.proofs.LeftSides.{IsLeft, counted_left, fine_holds, fine_flag, fine_unset, IsFine, AreFine, LaterLacks, all_fine}
use Rattle.jz_stuck_runs.proofs.Assigning.{both_went}
use Rattle.jz_stuck_runs.proofs.Results.{ResultOf, AreOf, value_size, given_of}
use Rattle.jz_run_laws.proofs.Instructions.{sized_fit}
use Rattle.jz_stuck_runs.proofs.RowSizes.{Typed, named_fits, sized}

-- ---- operands
no_array : (o : Bool) → o ≡ true → o ≡ false → ⊥
no_array o e n = false≢true (sym n ∙ e)

operand_typed : (z : Option Size) (r : Role) (e : Expr) → Operand z r e → IsNoArray e → Typed z r e
operand_typed z r e (inl a) n = absurd (no_array (is_some (array_of e)) a (ap is_some n))
operand_typed z r e (inr t) n = t

pub operands_typed : (z : Option Size) {rs : List Role} {es : List Expr} → InPairs (Operand z) rs es → All IsNoArray es → InPairs (Typed z) rs es
operands_typed z well.none n = well.none
operands_typed z (well.next {a = r} {b = e} {as' = rs} {bs = es} t ts) n =
    well.next (operand_typed z r e t (All-head IsNoArray e es n)) (operands_typed z ts (All-tail IsNoArray e es n))

-- ---- what is computed
module _ (declared : List ℕ → Option Decl) (s : State) (h : IsOfKinds (kinds_of declared) s) (to : List Lval) (n : List ℕ) (at : Span) where
  abbrev D : List Expr → code.Stuck → Type 0
  D args = LacksValue (operation (instruction to n args at)) s

  -- an operand's reason is one of the instruction
  reason : (args : List Expr) (e : Expr) → Contains args e → (u : code.Stuck) → IsLacking e s u → D args u
  reason args e c u l = lacking.evaluated (part.operand c) l

  abbrev K : List Expr → Type 0
  K args = All (HasKept declared) args

  one_stuck : (f : ℕ → Results) (z : Size) (args : List Expr) → K args → InPairs (Typed (Some z)) (role.Value ∷ []) args → IfStuck (Lacks (D args)) (of_one f at z args s)
  one_stuck f z args k (well.next {b = a} t well.none) =
      stuck_any (Lacks (D args)) (word_in at z a s) (λ x. went [] (f x)) (word_fine declared s h (D args) at z a (All-head (HasKept declared) a [] k) t (reason args a (first_in a []))) (λ x. tt)

  address_stuck : (f : ℕ → Results) (z : Option Size) (args : List Expr) → K args → InPairs (Typed z) (role.Address ∷ []) args → IfStuck (Lacks (D args)) (of_one f at S64 args s)
  address_stuck f z args k (well.next {b = a} t well.none) =
      stuck_any (Lacks (D args)) (word_in at S64 a s) (λ x. went [] (f x))
      (after declared s h (D args) a place.index (Some S64) (word_at at S64) (All-head (HasKept declared) a [] k) (address_type z a t) refl (reason args a (first_in a []))
      (λ ns x is q. stated_there (Lacks (D args)) at S64 x q)) (λ x. tt)
    where
      address_type : (z : Option Size) (a : Expr) → Typed z role.Address a → HasType (value a) place.index
      address_type None a t = t
      address_type (Some z) a t = t

  two_stuck : (f : ℕ → ℕ → Results) (z : Size) (args : List Expr) → K args → InPairs (Typed (Some z)) (role.Value ∷ role.Value ∷ []) args → IfStuck (Lacks (D args)) (of_two f at z args s)
  two_stuck f z args k (well.next {b = a} t (well.next {b = b} u well.none)) =
      let m = All-tail (HasKept declared) a (b ∷ []) k in
      stuck_any (Lacks (D args)) (word_in at z a s) (λ x. and_then (word_in at z b s) (λ y. went [] (f x y)))
      (word_fine declared s h (D args) at z a (All-head (HasKept declared) a (b ∷ []) k) t (reason args a (first_in a (b ∷ []))))
      (λ x. stuck_any (Lacks (D args)) (word_in at z b s) (λ y. went [] (f x y))
      (word_fine declared s h (D args) at z b (All-head (HasKept declared) b [] m) u (reason args b (later_in a (b ∷ []) b (first_in b [])))) (λ y. tt))

  carry_stuck : (f : ℕ → ℕ → Bool → Results) (z : Size) (args : List Expr) → K args → InPairs (Typed (Some z)) (role.Value ∷ role.Value ∷ role.Condition ∷ []) args → IfStuck (Lacks (D args)) (of_carry f at z args s)
  carry_stuck f z args k (well.next {b = a} t (well.next {b = b} u (well.next {b = c} v well.none))) =
      let m = All-tail (HasKept declared) a (b ∷ c ∷ []) k in
      stuck_any (Lacks (D args)) (word_in at z a s) (λ x. and_then (word_in at z b s) (λ y. and_then (bool_in at c s) (λ q. went [] (f x y q))))
      (word_fine declared s h (D args) at z a (All-head (HasKept declared) a (b ∷ c ∷ []) k) t (reason args a (first_in a (b ∷ c ∷ []))))
      (λ x. stuck_any (Lacks (D args)) (word_in at z b s) (λ y. and_then (bool_in at c s) (λ q. went [] (f x y q)))
      (word_fine declared s h (D args) at z b (All-head (HasKept declared) b (c ∷ []) m) u (reason args b (later_in a (b ∷ c ∷ []) b (first_in b (c ∷ [])))))
      (λ y. stuck_any (Lacks (D args)) (bool_in at c s) (λ q. went [] (f x y q))
      (bool_fine declared s h (D args) at c (All-head (HasKept declared) c [] (All-tail (HasKept declared) b (c ∷ []) m)) v
      (reason args c (later_in a (b ∷ c ∷ []) c (later_in b (c ∷ []) c (first_in c []))))) (λ q. tt)))

  -- a count that is below 0
  shift_stuck : (flags : List FlagVal → Results) (k : Shift) (z : Size) (a c : Expr) (x : ℕ) (ns : List ℕ) (v : Value) → evaluated c (Some S8) s ≡ went ns v → IsAt (place.word S8) v
      → IfStuck (Lacks (D (a ∷ c ∷ []))) (shift_results flags k at z x v)
  shift_stuck flags k z a c x ns (integer (pos m)) is q = tt
  shift_stuck flags k z a c x ns (integer (negsuc m)) is q = λ i. lacking.shifted (record { wanted = Some S8; leaked = ns; gives = is })
  shift_stuck flags k z a c x ns (word y m) is q = tt
  shift_stuck flags k z a c x ns (boolean g) is q = absurd q

  count_stuck : (flags : List FlagVal → Results) (k : Shift) (z : Size) (args : List Expr) → K args → InPairs (Typed (Some z)) (role.Value ∷ role.Count ∷ []) args → IfStuck (Lacks (D args)) (of_count flags k at z args s)
  count_stuck flags k z args m (well.next {b = a} t (well.next {b = c} u well.none)) =
      stuck_any (Lacks (D args)) (word_in at z a s) (λ x. and_then (evaluated c (Some S8) s) (λ v. shift_results flags k at z x v))
      (word_fine declared s h (D args) at z a (All-head (HasKept declared) a (c ∷ []) m) t (reason args a (first_in a (c ∷ []))))
      (λ x. after declared s h (D args) c (place.word S8) (Some S8) (λ v. shift_results flags k at z x v) (All-head (HasKept declared) c [] (All-tail (HasKept declared) a (c ∷ []) m)) u refl
      (reason args c (later_in a (c ∷ []) c (first_in c []))) (λ ns v is q. shift_stuck flags k z a c x ns v is q))

  divided_stuck : (C : code.Stuck → Type 0) (z : Size) (ns : List ℕ) (r : Option DoubleAnswer) → IfStuck (Lacks C) (divided_by at z ns r)
  divided_stuck C z ns None = λ j. absurd (divide_not j)
  divided_stuck C z ns (Some r) = tt

  division_stuck : (z : Size) (args : List Expr) → K args → InPairs (Typed (Some z)) (role.Value ∷ role.Value ∷ role.Value ∷ []) args → IfStuck (Lacks (D args)) (of_division at z args s)
  division_stuck z args k (well.next {b = a} t (well.next {b = b} u (well.next {b = d} v well.none))) =
      let m = All-tail (HasKept declared) a (b ∷ d ∷ []) k in
      stuck_any (Lacks (D args)) (word_in at z a s) (λ x. and_then (word_in at z b s) (λ y. and_then (word_in at z d s) (division_results at z x y)))
      (word_fine declared s h (D args) at z a (All-head (HasKept declared) a (b ∷ d ∷ []) k) t (reason args a (first_in a (b ∷ d ∷ []))))
      (λ x. stuck_any (Lacks (D args)) (word_in at z b s) (λ y. and_then (word_in at z d s) (division_results at z x y))
      (word_fine declared s h (D args) at z b (All-head (HasKept declared) b (d ∷ []) m) u (reason args b (later_in a (b ∷ d ∷ []) b (first_in b (d ∷ [])))))
      (λ y. stuck_any (Lacks (D args)) (word_in at z d s) (division_results at z x y)
      (word_fine declared s h (D args) at z d (All-head (HasKept declared) d [] (All-tail (HasKept declared) b (d ∷ []) m)) v
      (reason args d (later_in a (b ∷ d ∷ []) d (later_in b (d ∷ []) d (first_in d [])))))
      (λ w. divided_stuck (D args) z (x ∷ y ∷ w ∷ []) (quotient_answer z x y w))))

  condition_stuck : (z : Option Size) (args : List Expr) → K args → InPairs (Typed z) (role.Condition ∷ []) args → IfStuck (Lacks (D args)) (of_condition at args s)
  condition_stuck z args k (well.next {b = c} t well.none) =
      stuck_any (Lacks (D args)) (bool_in at c s) (λ k. went [] (Some (word S8 (carried k)) ∷ []))
      (bool_fine declared s h (D args) at c (All-head (HasKept declared) c [] k) (condition_type z c t) (reason args c (first_in c []))) (λ k. tt)
    where
      condition_type : (z : Option Size) (a : Expr) → Typed z role.Condition a → HasType (value a) place.truth
      condition_type None a t = t
      condition_type (Some z) a t = t

  computed : (i : Intrinsic) (z : Size) (args : List Expr) → takes_size i ≡ true → K args → InPairs (Typed (Some z)) (operands_of i) args → IfStuck (Lacks (D args)) (intrinsic_results i at z args s)
  computed name.Add z args e k t = two_stuck (λ a b. alu_results alu.Add z a b false) z args k t
  computed name.Sub z args e k t = two_stuck (λ a b. alu_results alu.Sub z a b false) z args k t
  computed name.And z args e k t = two_stuck (λ a b. alu_results alu.And z a b false) z args k t
  computed name.Or z args e k t = two_stuck (λ a b. alu_results alu.Or z a b false) z args k t
  computed name.Xor z args e k t = two_stuck (λ a b. alu_results alu.Xor z a b false) z args k t
  computed name.Adc z args e k t = carry_stuck (alu_results alu.Adc z) z args k t
  computed name.Sbb z args e k t = carry_stuck (alu_results alu.Sbb z) z args k t
  computed name.Neg z args e k t = one_stuck (one_results all_flags one.Neg z) z args k t
  computed name.Inc z args e k t = one_stuck (one_results all_but_carry one.Inc z) z args k t
  computed name.Dec z args e k t = one_stuck (one_results all_but_carry one.Dec z) z args k t
  computed name.Not z args e k t = one_stuck (one_results no_results one.Not z) z args k t
  computed name.Bswap z args e k t = one_stuck (λ a. before_value [] z (swapped_of z a)) z args k t
  computed name.Lea z args e k t = absurd (false≢true e)
  computed name.Cmp z args e k t = two_stuck (λ a b. all_flags (alu_answer alu.Cmp z a b false).flags) z args k t
  computed name.Test z args e k t = two_stuck (λ a b. all_flags (alu_answer alu.Test z a b false).flags) z args k t
  computed name.Shl z args e k t = count_stuck all_flags shift.Shl z args k t
  computed name.Shr z args e k t = count_stuck all_flags shift.Shr z args k t
  computed name.Sar z args e k t = count_stuck all_flags shift.Sar z args k t
  computed name.Rol z args e k t = count_stuck first_two shift.Rol z args k t
  computed name.Ror z args e k t = count_stuck first_two shift.Ror z args k t
  computed name.Imul z args e k t = two_stuck (low_product_results z) z args k t
  computed name.Mul z args e k t = two_stuck (product_results z) z args k t
  computed name.Div z args e k t = division_stuck z args k t
  computed name.Setcc z args e k t = absurd (false≢true e)

-- ---- what the left sides get
-- the size of the whole against the size of a result
abbrev SizeFor : Size → Role → Option Size → Type 0
SizeFor z role.Flag w = Unit {0}
SizeFor z role.Byte w = w ≡ Some S8
SizeFor z role.Value w = w ≡ Some z
SizeFor z r w = Unit {0}

abbrev SizesFor : Size → List Role → Option Size → Type 0
SizesFor z [] w = Unit {0}
SizesFor z (r ∷ rs) w = SizeFor z r w × SizesFor z rs w

module _ (declared : List ℕ → Option Decl) where
  flag_written : (w : Option Size) (d : Lval) (v : Option Value) (z : Size) → IsLeft declared d → IsFlag d → ResultOf z role.Flag v → IsFine declared w d v
  flag_written w d None z l f q = λ t i. fine_unset declared t i d w f
  flag_written w d (Some (boolean c)) z l f q = λ t i. fine_flag declared t i d w c l f
  flag_written w d (Some (word x a)) z l f q = absurd q
  flag_written w d (Some (integer m)) z l f q = absurd q

  word_written : (w : Option Size) (d : Lval) (v : Option Value) (z : Size) → IsLeft declared d → Holds (place.word z) d → w ≡ Some z → ResultOf z role.Value v → IsFine declared w d v
  word_written w d None z l f e q = absurd q
  word_written w d (Some (boolean c)) z l f e q = absurd q
  word_written w d (Some (integer m)) z l f e q = absurd q
  word_written w d (Some (word x a)) z l f e q = λ t i. fine_holds declared t i d (place.word z) w (word x a) l f e q

  result_written : (w : Option Size) (z : Size) (r : Role) (d : Lval) (v : Option Value) → IsLeft declared d → Output (Some z) r d → SizeFor z r w → ResultOf z r v → IsFine declared w d v
  result_written w z role.Flag d v l f e q = flag_written w d v z l f q
  result_written w z role.Value d v l f e q = word_written w d v z l f e q
  result_written w z role.Byte d v l f e q = word_written w d v S8 l f e q
  result_written w z role.Count d v l f e q = absurd q
  result_written w z role.Condition d v l f e q = absurd q
  result_written w z role.Address d v l f e q = absurd q

  pub results_written : (w : Option Size) (z : Size) {rs : List Role} {ds : List Lval} (vs : Results) → InPairs (Output (Some z)) rs ds → All (IsLeft declared) ds → SizesFor z rs w → AreOf z rs vs → AreFine declared w ds vs
  results_written w z [] well.none l e q = tt
  results_written w z (v ∷ vs) well.none l e q = absurd q
  results_written w z [] (well.next f fs) l e q = absurd q
  results_written w z (v ∷ vs) (well.next {a = r} {b = d} {as' = rs} {bs = ds} f fs) l e q =
      (result_written w z r d v (All-head (IsLeft declared) d ds l) f e.0 q.0, results_written w z vs fs (All-tail (IsLeft declared) d ds l) e.1 q.1)

sizes_for : (i : Intrinsic) (z : Size) (w : Option Size) → takes_size i ≡ true → w ≡ Some z → SizesFor z (results_of i) w
sizes_for name.Inc z w t e = (tt, (tt, (tt, (tt, (e, tt)))))
sizes_for name.Dec z w t e = (tt, (tt, (tt, (tt, (e, tt)))))
sizes_for name.Not z w t e = (e, tt)
sizes_for name.Bswap z w t e = (e, tt)
sizes_for name.Lea z w t e = absurd (false≢true t)
sizes_for name.Setcc z w t e = absurd (false≢true t)
sizes_for name.Cmp z w t e = (tt, (tt, (tt, (tt, (tt, tt)))))
sizes_for name.Test z w t e = (tt, (tt, (tt, (tt, (tt, tt)))))
sizes_for name.Rol z w t e = (tt, (tt, (e, tt)))
sizes_for name.Ror z w t e = (tt, (tt, (e, tt)))
sizes_for name.Mul z w t e = (tt, (tt, (tt, (tt, (tt, (e, (e, tt)))))))
sizes_for name.Div z w t e = (tt, (tt, (tt, (tt, (tt, (e, (e, tt)))))))
sizes_for name.Add z w t e = (tt, (tt, (tt, (tt, (tt, (e, tt))))))
sizes_for name.Sub z w t e = (tt, (tt, (tt, (tt, (tt, (e, tt))))))
sizes_for name.And z w t e = (tt, (tt, (tt, (tt, (tt, (e, tt))))))
sizes_for name.Or z w t e = (tt, (tt, (tt, (tt, (tt, (e, tt))))))
sizes_for name.Xor z w t e = (tt, (tt, (tt, (tt, (tt, (e, tt))))))
sizes_for name.Adc z w t e = (tt, (tt, (tt, (tt, (tt, (e, tt))))))
sizes_for name.Sbb z w t e = (tt, (tt, (tt, (tt, (tt, (e, tt))))))
sizes_for name.Neg z w t e = (tt, (tt, (tt, (tt, (tt, (e, tt))))))
sizes_for name.Shl z w t e = (tt, (tt, (tt, (tt, (tt, (e, tt))))))
sizes_for name.Shr z w t e = (tt, (tt, (tt, (tt, (tt, (e, tt))))))
sizes_for name.Sar z w t e = (tt, (tt, (tt, (tt, (tt, (e, tt))))))
sizes_for name.Imul z w t e = (tt, (tt, (tt, (tt, (tt, (e, tt))))))

-- ---- LEA gives a word of 64 bits
longest : (o : Option Size) → is_longest o ≡ true → o ≡ Some S64
longest (Some S64) e = refl
longest o e = absurd (false≢true e)

pub lea_size : (z : Option Size) (d : Lval) (rest : Option Size) → is_longest (option_or z (class_size (dest_of d))) ≡ true → option_or z (option_or (option_or (left_form d).size None) rest) ≡ Some S64
lea_size (Some y) d rest e = longest (Some y) e
lea_size None d rest e = ap (λ x. option_or (option_or x None) rest) (result_law d S64 (longest (class_size (dest_of d)) e))

byte_output : (z : Option Size) (d : Lval) → Output z role.Byte d → Holds (place.word S8) d
byte_output None d f = f
byte_output (Some z) d f = f

bytes : (z : Option Size) {ds : List Lval} → InPairs (Output z) (role.Byte ∷ []) ds → InPairs (Output (Some S8)) (role.Byte ∷ []) ds
bytes z (well.next {b = d} f well.none) = well.next (byte_output z d f) well.none

-- the one left side, and the one operand
record IsOne {A : Type 0} (xs : List A) : Type 0 where
  pub item : A
  pub is : xs ≡ item ∷ []

one_left : (z : Option Size) (r : Role) {ds : List Lval} → InPairs (Output z) (r ∷ []) ds → IsOne ds
one_left z r (well.next {b = d} f well.none) = record { item = d; is = refl }

one_operand : (z : Option Size) (r : Role) {es : List Expr} → InPairs (Typed z) (r ∷ []) es → IsOne es
one_operand z r (well.next {b = e} f well.none) = record { item = e; is = refl }

-- ---- one instruction
module _ (declared : List ℕ → Option Decl) (s : State) (h : IsOfKinds (kinds_of declared) s) (to : List Lval) (n : List ℕ) (args : List Expr) (at : Span)
    (left : All (IsLeft declared) to) (kept : All (HasKept declared) args) (plain : All IsNoArray args) (lefts : All (LeftDeclared (kinds_of declared)) to) where
  abbrev W : code.Stuck → Type 0
  W = LacksValue (operation (instruction to n args at)) s

  module _ (m : Intrinsic) (z : Option Size) (tell : (ns : List ℕ) (vs : Results) → sized_results m at (intrinsic_size m z to args) args s ≡ went ns vs → HasResults (instruction to n args at) s (intrinsic_size m z to args) vs) where
    abbrev Z : Option Size
    Z = intrinsic_size m z to args

    finish : (y : Size) (Q : Results → Type 0) → Z ≡ Some y → IfStuck (Lacks W) (intrinsic_results m at y args s) → IfWent Q (intrinsic_results m at y args s) → ((vs : Results) → Q vs → AreFine declared Z to vs)
        → IfStuck (Lacks W) (and_then (sized_results m at Z args s) (λ vs. all_written at Z to vs s))
    finish y Q e a b f =
        stuck_then (Lacks W) (λ vs. Q vs × ResultsFit vs) (sized_results m at Z args s) (λ vs. all_written at Z to vs s)
        (subst (λ o. IfStuck (Lacks W) (sized_results m at o args s)) (sym e) a)
        (both_went Q ResultsFit (sized_results m at Z args s) (subst (λ o. IfWent Q (sized_results m at o args s)) (sym e) b) (sized_fit m at Z args s (state_fits (kinds_of declared) s h)))
        (λ ns vs is q. weaker (Lacks (LaterLacks declared Z to vs s)) (Lacks W) (all_written at Z to vs s)
        (λ u c j. (let x = c j in lacking.evaluated (part.left_side (tell ns vs is) x.reached x.lacks.of_left) x.lacks.lacks))
        (all_fine declared at Z to vs s (f vs q.0) lefts q.1 h))

    counted : All IsCountedLeft to
    counted = λ i d lt. counted_left declared _ (left i d lt)

    counted_args : All Counted args
    counted_args = λ i d lt. counted_of declared _ (kept i d lt)

    value_last : (y : Size) → value_size m y ≡ y → IfWent (AreOf (value_size m y) (results_of m)) (intrinsic_results m at y args s) → IfWent (AreOf y (results_of m)) (intrinsic_results m at y args s)
    value_last y e h = subst (λ x. IfWent (AreOf x (results_of m)) (intrinsic_results m at y args s)) e h

    plain_fine : takes_size m ≡ true → ((y : Size) → value_size m y ≡ y) → Instructs (Some (signature_of m z)) to args → (o : Option Size) → size_of_intrinsic (signature_of m z) to args ≡ o
        → InPairs (Output o) (results_of m) to → InPairs (Typed o) (operands_of m) args → (o ≡ None → ⊥) → IfStuck (Lacks W) (and_then (sized_results m at Z args s) (λ vs. all_written at Z to vs s))
    plain_fine t v i None e outs ins none = absurd (none refl)
    plain_fine t v i (Some y) e outs ins none =
        let is = intrinsic_law m z to args y t counted counted_args plain i e in
        finish y (AreOf y (results_of m)) is (computed declared s h to n at m y args t kept ins) (value_last y (v y) (given_of m at y args s))
        (λ vs q. results_written declared Z y vs outs left (sizes_for m y Z t is) q)

  abbrev Tells : Intrinsic → Option Size → Type 0
  Tells m z = (ns : List ℕ) (vs : Results) → sized_results m at (intrinsic_size m z to args) args s ≡ went ns vs → HasResults (instruction to n args at) s (intrinsic_size m z to args) vs

  abbrev IsFineAt : Intrinsic → Option Size → Type 0
  IsFineAt m z = IfStuck (Lacks W) (and_then (sized_results m at (intrinsic_size m z to args) args s) (λ vs. all_written at (intrinsic_size m z to args) to vs s))

  lea_fine : (asked : Asked) (i : Instance) (o : Option Size) (d : Lval) (a : Expr) → to ≡ d ∷ [] → args ≡ a ∷ [] → Tells name.Lea i.size → size_of_intrinsic (signature_of name.Lea i.size) to args ≡ o → InPairs (Output o) (role.Value ∷ []) to
      → InPairs (Typed o) (role.Address ∷ []) args → Matches (address_shape i (value_behind flags.Zero to) args) → IsFineAt name.Lea i.size
  lea_fine asked i o d a one alone tell e outs ins m =
      let row : Matches (address_shape i (value_behind flags.Zero (d ∷ [])) (a ∷ [])) = subst (λ x. Matches (address_shape i (value_behind flags.Zero (d ∷ [])) x)) alone (subst (λ x. Matches (address_shape i (value_behind flags.Zero x) args)) one m) in
      let fits = named_fits name.Lea (is_r (dest_of d) && (is_longest (option_or i.size (class_size (dest_of d))) && is_sum (terms_of a))) row in
      let long = (and_parts (is_longest (option_or i.size (class_size (dest_of d)))) _ (and_parts (is_r (dest_of d)) _ fits).1).0 in
      let told : size_of_intrinsic (signature_of name.Lea i.size) (d ∷ []) args ≡ o = subst (λ x. size_of_intrinsic (signature_of name.Lea i.size) x args ≡ o) one e in
      let size : o ≡ Some S64 = sym told ∙ lea_size i.size d (argument_size (role.Address ∷ []) args) long in
      let out : InPairs (Output (Some S64)) (role.Value ∷ []) to = subst (λ x. InPairs (Output x) (role.Value ∷ []) to) size outs in
      finish name.Lea i.size tell S64 (AreOf S64 (role.Value ∷ [])) refl
      (address_stuck declared s h to n at (λ a. before_value [] S64 a) o args kept ins)
      (given_of name.Lea at S64 args s)
      (λ vs q. results_written declared (Some S64) S64 vs out left (refl, tt) q)

  set_fine : (z o : Option Size) → Tells name.Setcc z → InPairs (Output o) (role.Byte ∷ []) to → InPairs (Typed o) (role.Condition ∷ []) args → IsFineAt name.Setcc z
  set_fine z o tell outs ins =
      finish name.Setcc z tell S8 (AreOf S8 (role.Byte ∷ [])) refl (condition_stuck declared s h to n at o args kept ins) (given_of name.Setcc at S8 args s)
      (λ vs q. results_written declared (Some S8) S8 vs (bytes o outs) left (refl, tt) q)

  by_size : (asked : Asked) (m : Intrinsic) (i : Instance) (o : Option Size) → takes_size m ≡ true → size_of_intrinsic (signature_of m i.size) to args ≡ o → InPairs (Output o) (results_of m) to → InPairs (Typed o) (operands_of m) args
      → Matches (intrinsic_shape asked m i to args) → o ≡ None → ⊥
  by_size asked m i None t e outs ins r none =
      sized asked m i to args t (neither_size i.size (option_or (result_size (results_of m) to) (argument_size (operands_of m) args)) e).0 outs ins r
  by_size asked m i (Some y) t e outs ins r none = some_not y none

  by_name : (asked : Asked) (m : Intrinsic) (i : Instance) (o : Option Size) → Tells m i.size → Instructs (Some (signature_of m i.size)) to args → size_of_intrinsic (signature_of m i.size) to args ≡ o → InPairs (Output o) (results_of m) to
      → InPairs (Typed o) (operands_of m) args → Matches (intrinsic_shape asked m i to args) → IsFineAt m i.size
  by_name asked name.Lea i o tell g e outs ins r = lea_fine asked i o (one_left o role.Value outs).item (one_operand o role.Address ins).item (one_left o role.Value outs).is (one_operand o role.Address ins).is tell e outs ins r
  by_name asked name.Setcc i o tell g e outs ins r = set_fine i.size o tell outs ins
  by_name asked name.Add i o tell g e outs ins r = plain_fine name.Add i.size tell refl (λ y. refl) g o e outs ins (by_size asked name.Add i o refl e outs ins r)
  by_name asked name.Sub i o tell g e outs ins r = plain_fine name.Sub i.size tell refl (λ y. refl) g o e outs ins (by_size asked name.Sub i o refl e outs ins r)
  by_name asked name.And i o tell g e outs ins r = plain_fine name.And i.size tell refl (λ y. refl) g o e outs ins (by_size asked name.And i o refl e outs ins r)
  by_name asked name.Or i o tell g e outs ins r = plain_fine name.Or i.size tell refl (λ y. refl) g o e outs ins (by_size asked name.Or i o refl e outs ins r)
  by_name asked name.Xor i o tell g e outs ins r = plain_fine name.Xor i.size tell refl (λ y. refl) g o e outs ins (by_size asked name.Xor i o refl e outs ins r)
  by_name asked name.Adc i o tell g e outs ins r = plain_fine name.Adc i.size tell refl (λ y. refl) g o e outs ins (by_size asked name.Adc i o refl e outs ins r)
  by_name asked name.Sbb i o tell g e outs ins r = plain_fine name.Sbb i.size tell refl (λ y. refl) g o e outs ins (by_size asked name.Sbb i o refl e outs ins r)
  by_name asked name.Neg i o tell g e outs ins r = plain_fine name.Neg i.size tell refl (λ y. refl) g o e outs ins (by_size asked name.Neg i o refl e outs ins r)
  by_name asked name.Inc i o tell g e outs ins r = plain_fine name.Inc i.size tell refl (λ y. refl) g o e outs ins (by_size asked name.Inc i o refl e outs ins r)
  by_name asked name.Dec i o tell g e outs ins r = plain_fine name.Dec i.size tell refl (λ y. refl) g o e outs ins (by_size asked name.Dec i o refl e outs ins r)
  by_name asked name.Not i o tell g e outs ins r = plain_fine name.Not i.size tell refl (λ y. refl) g o e outs ins (by_size asked name.Not i o refl e outs ins r)
  by_name asked name.Bswap i o tell g e outs ins r = plain_fine name.Bswap i.size tell refl (λ y. refl) g o e outs ins (by_size asked name.Bswap i o refl e outs ins r)
  by_name asked name.Cmp i o tell g e outs ins r = plain_fine name.Cmp i.size tell refl (λ y. refl) g o e outs ins (by_size asked name.Cmp i o refl e outs ins r)
  by_name asked name.Test i o tell g e outs ins r = plain_fine name.Test i.size tell refl (λ y. refl) g o e outs ins (by_size asked name.Test i o refl e outs ins r)
  by_name asked name.Shl i o tell g e outs ins r = plain_fine name.Shl i.size tell refl (λ y. refl) g o e outs ins (by_size asked name.Shl i o refl e outs ins r)
  by_name asked name.Shr i o tell g e outs ins r = plain_fine name.Shr i.size tell refl (λ y. refl) g o e outs ins (by_size asked name.Shr i o refl e outs ins r)
  by_name asked name.Sar i o tell g e outs ins r = plain_fine name.Sar i.size tell refl (λ y. refl) g o e outs ins (by_size asked name.Sar i o refl e outs ins r)
  by_name asked name.Rol i o tell g e outs ins r = plain_fine name.Rol i.size tell refl (λ y. refl) g o e outs ins (by_size asked name.Rol i o refl e outs ins r)
  by_name asked name.Ror i o tell g e outs ins r = plain_fine name.Ror i.size tell refl (λ y. refl) g o e outs ins (by_size asked name.Ror i o refl e outs ins r)
  by_name asked name.Imul i o tell g e outs ins r = plain_fine name.Imul i.size tell refl (λ y. refl) g o e outs ins (by_size asked name.Imul i o refl e outs ins r)
  by_name asked name.Mul i o tell g e outs ins r = plain_fine name.Mul i.size tell refl (λ y. refl) g o e outs ins (by_size asked name.Mul i o refl e outs ins r)
  by_name asked name.Div i o tell g e outs ins r = plain_fine name.Div i.size tell refl (λ y. refl) g o e outs ins (by_size asked name.Div i o refl e outs ins r)

  pub instructed_fine : (asked : Asked) (x : Option Instance) → spelled n ≡ x → Instructs (option_map instance_signature x) to args → Matches (named_shape asked x to args) → IfStuck (Lacks W) (instruction_done x to args at s)
  instructed_fine asked None is g r = absurd (no_free r)
  instructed_fine asked (Some i) is (well.instance_of outs ins) r =
      by_name asked i.name i (size_of_intrinsic (instance_signature i) to args) (λ ns vs e. part.instructed is refl e) (well.instance_of outs ins) refl outs (operands_typed (size_of_intrinsic (instance_signature i) to args) ins plain) r
