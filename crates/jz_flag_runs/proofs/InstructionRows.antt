-- Each intrinsic with its flags and its value: its operations do what it says.
use Rattle.std.proofs.Common.{◌≡◌, ℕ, ◌*◌, ◌<◌, Bool, true, false, List, [], ◌∷◌, ◌++◌, Option, Some, None, refl, sym, ap, ◌∙◌, subst, arith, ℤ, pos, ◌+ℤ◌, ◌%◌, ◌+◌, ◌^◌}
use Rattle.std.specs.Prelude.{not, ◌&&◌}
use Rattle.std.proofs.Math.IntN.{*ℤ_comm}
use Rattle.jz_io.specs.declared.span.Span.{Span}
use Rattle.jz_words.specs.declared.size.Size.{Size}
use Rattle.jz_words.specs.declared.size.Size.TheVariants.{S8, S16, S32, S64}
use Rattle.jz_words.specs.Sizes.{modulus, signed}
use Rattle.jz_words.specs.Words.{residue, signed_product, swapped_of}
use Rattle.jz_words.specs.Readings.{reading_of}
use Rattle.jz_words.proofs.Residues.{residue_below}
use Rattle.x64_insn.specs.declared.types.FlagVal.{FlagVal}
use Rattle.x64_insn.specs.declared.types.Alu.{Alu}
use Rattle.x64_insn.specs.declared.types.One.{One}
use Rattle.x64_insn.specs.declared.types.One.TheVariants as one
use Rattle.x64_insn.specs.declared.types.Shift.{Shift}
use Rattle.x64_insn.specs.Answers.{alu_answer, overflows}
use Rattle.x64_insn.specs.Shifts.{shift_answer, masked}
use Rattle.x64_insn.specs.Products.{no_flags, product_flags, low_product_answer}
use Rattle.jz_tree.specs.declared.intrinsic.Intrinsic.{Intrinsic}
use Rattle.jz_tree.specs.declared.intrinsic.Intrinsic.TheVariants as name
use Rattle.jz_tree.specs.declared.expr.Expr.{Expr}
use Rattle.jz_tree.specs.declared.expr.Expr.TheVariants as expr
use Rattle.jz_tree.specs.declared.expr.Var.{Var}
use Rattle.jz_tree.specs.declared.stmt.Lval.{Lval}
use Rattle.jz_runs.specs.Rules.{went}
use Rattle.jz_meaning.specs.Attempts.{and_then}
use Rattle.jz_meaning.specs.States.{Value, word, State}
use Rattle.jz_meaning.specs.Operators.{word_of, word_at}
use Rattle.jz_meaning.specs.Values.{key_of, ref_of, evaluated}
use Rattle.jz_meaning.specs.Intrinsics.{all_flags, all_but_carry, before_value, no_results, alu_results, one_results, low_product_results, of_one, of_two, of_carry, of_count, intrinsic_results}
use Rattle.jz_meaning.specs.Assignments.{Results, word_in, written, all_written}
use Rattle.jz_operations.specs.declared.operation.Pinned.{Pinned}
use Rattle.jz_operations.specs.declared.operation.Address.{Address}
use Rattle.jz_operations.specs.declared.operation.Arg.{Arg}
use Rattle.jz_operations.specs.declared.operation.Arg.TheVariants as arg
use Rattle.jz_operations.specs.declared.operation.Action.{Action}
use Rattle.jz_operations.specs.declared.operation.Action.TheVariants as action
use Rattle.jz_operations.specs.declared.operation.Flags.{Flags}
use Rattle.jz_operations.specs.declared.operation.Operation.{Operation}
use Rattle.jz_operations.specs.Values as over
use Rattle.jz_operations.specs.Rows.{Frame, narrowed, address_in, none_of_five, all_five, put, step, with_flags, flags_of}
use Rattle.jz_operations.specs.Reading.{is_var, found_by}
use Rattle.jz_operations.proofs.Somes.{some_then, same_some}
use Rattle.jz_change.specs.declared.change.Numbers.TheVariants.{These}
use Rattle.jz_homes.specs.Homes.{Homes, IsHoming, in_flag, IsRelated}
use Rattle.jz_homes.specs.Sums.{Sum, total_in, IsSum, constant}
use Rattle.jz_homes.specs.Operands.{Leaks, silent, IsCounted, count_of, shown_of, IsArg, IsDest}
use Rattle.jz_homes.proofs.Shown.{shown}
use Rattle.jz_homes.proofs.Parts.{both_went, went_same, defined_went}
use Rattle.jz_homes.proofs.SumValues.{residue_add, sum_is}
use Rattle.jz_homes.proofs.Reading.{word_itself, signed_itself, address_found, index_found, word_64}
use Rattle.jz_homes.proofs.Writing.{dest_written}
use Rattle.jz_row_operations.specs.Codes.{no_flag, plain, lasting}
use Rattle.jz_row_operations.specs.Table.{same_arg, is_imm, nothing, brought, behind, two_code, one_code, times_code, times_by_code}
use Rattle.jz_row_operations.specs.Lowering.{numbers_from, two_shown, one_shown}
use Rattle.jz_row_operations.proofs.Items.{one_item, nothing_placed, both_placed, first_placed, next_placed, shown_in, row_items, at_numbers}
use Rattle.jz_row_operations.proofs.Moves.{append_nil}
use Rattle.jz_row_operations.proofs.Sums.{NoName, no_name, one_ran, after_flags}
use Rattle.jz_row_operations.proofs.Brought.{Ends, Row}
use Rattle.jz_row_operations.proofs.Chosen.{IsAway, with_none, brought_goes, away_from_none, away_from_flag}
use Rattle.jz_row_operations.proofs.Ones.{minus_small, not_small}
use Rattle.jz_row_operations.proofs.Imuls.{product_small, imul_ends, imul_by_step}
use Rattle.jz_row_operations.proofs.Lowered.{Goes}
use Rattle.jz_flag_rows.specs.Results.{AreFive, AreFour, AreTwo}
use Rattle.jz_flag_rows.specs.Wide.{IsLong}
use Rattle.jz_flag_rows.specs.Instructions.{two_of, carry_of, compare_of, step_of, shift_named, rotation_named, swap_code, IsLeaAddress, with_base, a_number, an_index, IsCount, by_number, by_variable, count_code}
use Rattle.jz_flag_runs.proofs.FlagLefts.{AreFlags, no_more, unlisted}
use Rattle.jz_flag_runs.proofs.FlagResults.{finishes_with}
use Rattle.jz_flag_runs.proofs.TwoLefts.{joined}
use Rattle.jz_flag_runs.proofs.Intrinsics.{FiveOf, low_five, neg_five, FiveTo, five_before, five_flags, TwoParts, two_parts, alu_intrinsic, alu_intrinsic_swapped, imul_intrinsic, one_intrinsic_parts, one_flag_row}
use Rattle.jz_flag_runs.proofs.MoreIntrinsics.{nil_end, flags_run}
use Rattle.jz_flag_runs.proofs.LastIntrinsics.{four_before, two_before, not_flags}
use Rattle.jz_flag_runs.proofs.CarryIntrinsics.{three_parts, carry_intrinsic, carry_intrinsic_swapped}
use Rattle.jz_flag_runs.proofs.Counts.{shift_five, rotation_flags, five_none, two_none, count_parts, count_row, masked_parts, masked_row}
use Rattle.jz_flag_runs.proofs.Named.{is_two, is_carry, is_comparing, is_step, IsShift, is_shift, is_rotation}

-- ---- the last left side
pub last_written : (at : Span) (z : Option Size) (d : Lval) (v : Option Value) (s t : State) (ns : List ℕ) → all_written at z (d ∷ []) (v ∷ []) s ≡ went ns t → written z d v s ≡ went ns t
last_written at z d v s t ns run =
    let h = both_went (written z d v s) (λ u. all_written at z [] [] u) ns t run in
    let l = went_same [] h.second h.value t h.went_on in
    h.came ∙ ap (went h.first) l.1 ∙ ap (λ y. went y t) (sym (h.numbers ∙ ap (λ y. h.first ++ y) (sym l.0) ∙ append_nil h.first))

-- ---- products commute
swapped_parts : (z : Size) (i j : ℤ) → i ≡ j → ◌≡◌ {A = Rattle.x64_insn.specs.declared.answer.Answer.Answer} (record { value = residue z i; flags = product_flags (overflows z i) }) (record { value = residue z j; flags = product_flags (overflows z j) })
swapped_parts z i j e = rw e refl

low_commutes : (z : Size) (a b : ℕ) → low_product_answer z b a ≡ low_product_answer z a b
unfolding low_product_answer
low_commutes z a b = swapped_parts z (signed_product z b a) (signed_product z a b) (*ℤ_comm (signed z b) (signed z a))

-- ---- bytes turned around
four_bytes : (a b c d : ℕ) → a < 256 → b < 256 → c < 256 → d < 256 → a * 16777216 + b * 65536 + c * 256 + d < 2 ^ 32
four_bytes a b c d p q r s = omega arith

eight_bytes : (a b c d e f g h : ℕ) → a < 256 → b < 256 → c < 256 → d < 256 → e < 256 → f < 256 → g < 256 → h < 256
    → a * 72057594037927936 + b * 281474976710656 + c * 1099511627776 + d * 4294967296 + e * 16777216 + f * 65536 + g * 256 + h < 2 ^ 64
eight_bytes a b c d e f g h p q r s t u v w = omega arith

byte : (a : ℕ) → a % 256 < 256
byte a = omega arith

swapped_small : (z : Size) (a : ℕ) → IsLong z → swapped_of z a < modulus z
swapped_small S8 a h = absurd h
swapped_small S16 a h = absurd h
swapped_small S32 a h = four_bytes _ _ _ _ (byte _) (byte _) (byte _) (byte _)
swapped_small S64 a h = eight_bytes _ _ _ _ _ _ _ _ (byte _) (byte _) (byte _) (byte _) (byte _) (byte _) (byte _) (byte _)

bswap_ends : (frame : Frame) (v : ℕ) (at : Span) (z : Size) (σ : over.State) (left : ℕ) → Ends frame (plain at (action.Bswap z v)) z (arg.Var v) [] σ left (swapped_of z left) no_flags []
bswap_ends frame v at z σ left = record {
  goes = λ τ τ' same cells memory e f. ([], rw e (ap (λ u. Some (record { shown = []; division = []; state = with_flags (plain at (action.Bswap z v)) no_flags u })) (same_some _ τ' f)), refl);
}

no_list : (home : Homes) → AreFlags home [] (None ∷ None ∷ None ∷ None ∷ None ∷ []) none_of_five no_flags []
no_list home = unlisted false _ (unlisted false _ (unlisted false _ (unlisted false _ (unlisted false _ no_more))))

-- ---- addresses without a base
read_back : (x y : ℕ) (i : ℤ) → x ≡ y → residue S64 (pos x +ℤ reading_of S64 i) ≡ residue S64 (pos y +ℤ i)
read_back x y i e =
    residue_add (pos x) (reading_of S64 i) ∙ ap (λ n. (residue S64 (pos x) + n) % 2 ^ 64) (signed_itself S64 (residue S64 i) (residue_below S64 i)) ∙ sym (residue_add (pos x) i)
    ∙ ap (λ n. residue S64 (pos n +ℤ i)) e

index_alone : (σ : over.State) (j k y : ℕ) (d : ℤ) → narrowed S64 (σ.vars j) ≡ Some y → address_in (record { base = None; index = Some (j, k); disp = d }) σ ≡ Some (residue S64 (pos (0 + k * y) +ℤ d))
index_alone σ j k y d e = rw e refl

lea_found : (σ : over.State) {t : Sum} {m : Address} → IsLeaAddress t m → (total : ℕ) → total_in t.terms σ ≡ Some total → address_in m σ ≡ Some (residue S64 (pos total +ℤ t.number))
lea_found σ (with_base at) total e = address_found σ at total e
lea_found σ (a_number i) total e = index_found σ 0 (constant i) total e
lea_found σ (an_index j k i ne) total e =
    let p = some_then (narrowed S64 (σ.vars j)) _ total e in
    let u : k * p.0 + 0 ≡ total = same_some _ total p.2 in
    index_alone σ j k p.0 (reading_of S64 i) p.1 ∙ ap (λ x. Some x) (read_back (0 + k * p.0) total i (omega (arith, u)))

lea_by : (frame : Frame) (at : Span) (v : ℕ) (m : Address) (n : ℕ) (σ τ : over.State) → address_in m σ ≡ Some n → put frame (arg.Var v) S64 n σ ≡ Some τ
    → step frame (plain at (action.Lea v m)) σ ≡ Some (record { shown = []; division = []; state = with_flags (plain at (action.Lea v m)) no_flags τ })
lea_by frame at v m n σ τ e f = rw e (ap (λ u. Some (record { shown = []; division = []; state = with_flags (plain at (action.Lea v m)) no_flags u })) (same_some _ τ f))

module _ (frame : Frame) (home : Homes) (homing : IsHoming frame home) (s : State) (σ : over.State) (related : IsRelated home s σ) where
  -- ---- whatever way the first operand comes
  one_way : (act : Action) (fl : Flags) (y : Arg) (sp : Span) {z : Size} {x b : Arg} {p r : Leaks} (first second : List ℕ) (t : State) (acts : List Action) (ns : List ℕ) → behind (λ v. act) (brought false z b x y) ≡ Some acts
      → Row frame home homing s σ related (record { span = sp; action = act; flags = fl }) z x b p r ((is_var y ++ found_by y) ++ []) [] first second t → IsCounted p first → ns ≡ first ++ second
      → Goes frame home homing s σ related (lasting sp fl acts) (one_shown b x p) t ns
  one_way act fl y sp {z} {x} {b} {p} {r} first second t acts ns e row counted numbers = record {
    shown' = shown_in (same_arg b x) false (shown_of p first) [];
    goes = brought_goes frame home homing s σ related false (λ v. act) fl [] sp z x y b p silent r first [] second t acts e (away_from_none b) row (λ f. absurd cc);
    are = at_numbers numbers (row_items (same_arg b x) false (first_placed p first second counted) (nothing_placed (first ++ second)));
  }

  two_way : (swaps : Bool) (act : Arg → Action) (fl : Flags) (ws : List ℕ) (sp : Span) {z : Size} {x y b : Arg} {p q r : Leaks} (first second third : List ℕ) (t : State) (acts : List Action) (ns : List ℕ) → behind act (brought swaps z b x y) ≡ Some acts → IsAway b ws
      → Row frame home homing s σ related (record { span = sp; action = act y; flags = fl }) z x b p r ((is_var y ++ found_by y) ++ ws) (shown_of q second) first third t
      → (swaps ≡ true → Row frame home homing s σ related (record { span = sp; action = act x; flags = fl }) z y b q r ((is_var x ++ found_by x) ++ ws) (shown_of p first) second third t)
      → IsCounted p first → IsCounted q second → ns ≡ (first ++ second) ++ third
      → Goes frame home homing s σ related (lasting sp fl acts) (two_shown swaps b x y p q) t ns
  two_way swaps act fl ws sp {z} {x} {y} {b} {p} {q} {r} first second third t acts ns e away row swapped cp cq numbers = record {
    shown' = shown_in (same_arg b x) (swaps && same_arg b y) (shown_of p first) (shown_of q second);
    goes = brought_goes frame home homing s σ related swaps act fl ws sp z x y b p q r first second third t acts e away row swapped;
    are = at_numbers (joined first second third ns numbers) (row_items (same_arg b x) (swaps && same_arg b y) (first_placed p first (second ++ third) cp) (next_placed p q first second third cp cq));
  }

  -- ---- ADD SUB AND OR XOR
  pub two_goes : (i : Intrinsic) {k : Alu × Bool} {to : List Lval} {z : Size} {d : Lval} {a c : Expr} {x y b : Arg} {p q r : Leaks} {fl : Flags} {acts : List Action} (sp at : Span) (t : State) (ns : List ℕ) → two_of i ≡ Some k → AreFive home to fl (d ∷ [])
      → IsArg home z a x p → IsArg home z c y q → IsDest home z d b r → two_code k.0 k.1 z b x y None ≡ Some acts
      → and_then (intrinsic_results i at z (a ∷ c ∷ []) s) (λ vs. all_written at (Some z) to vs s) ≡ went ns t → Goes frame home homing s σ related (lasting sp fl acts) (two_shown k.1 b x y p q) t ns
  two_goes i {k} {to} {z} {d} {a} {c} {x} {y} {b} {p} {q} {r} {fl} {acts} sp at t ns named lefts ia ic id e run =
      let f = is_two i k named in
      let w = five_before lefts in
      let run' = subst (λ l. and_then (of_two (λ m n. alu_results k.0 z m n false) at z (a ∷ c ∷ []) s) (λ vs. all_written at (Some z) l vs s) ≡ went ns t) w.joined
      (sym (ap (λ u. and_then u (λ vs. all_written at (Some z) to vs s)) (f.results at z (a ∷ c ∷ []) s)) ∙ run) in
      let h = two_parts frame home homing s σ related (λ m n. alu_results k.0 z m n false) at (w.ls ++ (d ∷ [])) t ns ia ic run' in
      two_way k.1 (λ v. action.Alu k.0 z b v None) fl [] sp h.first h.second h.third t acts ns e (away_from_none b)
      (alu_intrinsic frame home homing s σ related k.0 fl sp at t ns f.writes (f.asks σ) (no_name ic) w.five id h)
      (λ sw. alu_intrinsic_swapped frame home homing s σ related k.0 fl sp at t ns f.writes (f.asks σ) (λ m n. f.swaps sw z m n) (no_name ia) w.five id h)
      h.reads_left.counted h.reads_right.counted h.numbers

  -- ---- ADC and SBB
  pub carry_goes : (i : Intrinsic) {k : Alu × Bool} {to : List Lval} {z : Size} {d : Lval} {a c : Expr} {x y b : Arg} {p q r : Leaks} {fl : Flags} {acts : List Action} (f : Var) (carry : Pinned) (sp at : Span) (t : State) (ns : List ℕ) → carry_of i ≡ Some k → AreFive home to fl (d ∷ [])
      → IsArg home z a x p → IsArg home z c y q → IsDest home z d b r → home (key_of (ref_of f)) ≡ Some (in_flag carry.variable) → two_code k.0 k.1 z b x y (Some carry) ≡ Some acts
      → and_then (intrinsic_results i at z (a ∷ c ∷ expr.Var f ∷ []) s) (λ vs. all_written at (Some z) to vs s) ≡ went ns t → Goes frame home homing s σ related (lasting sp fl acts) (two_shown k.1 b x y p q) t ns
  carry_goes i {k} {to} {z} {d} {a} {c} {x} {y} {b} {p} {q} {r} {fl} {acts} v carry sp at t ns named lefts ia ic id hv e run =
      let f = is_carry i k named in
      let w = five_before lefts in
      let run' = subst (λ l. and_then (of_carry (alu_results k.0 z) at z (a ∷ c ∷ expr.Var v ∷ []) s) (λ vs. all_written at (Some z) l vs s) ≡ went ns t) w.joined
      (sym (ap (λ u. and_then u (λ vs. all_written at (Some z) to vs s)) (f.results at z (a ∷ c ∷ expr.Var v ∷ []) s)) ∙ run) in
      let h = three_parts frame home homing s σ related v carry.variable (alu_results k.0 z) at (w.ls ++ (d ∷ [])) t ns ia ic hv run' in
      two_way k.1 (λ u. action.Alu k.0 z b u (Some carry)) fl (carry.variable ∷ []) sp h.first h.second h.third t acts ns e (away_from_flag (key_of (ref_of v)) carry.variable homing hv id)
      (carry_intrinsic frame home homing s σ related k.0 carry fl sp at t ns f.writes (f.asks carry σ) (no_name ic) w.five id h)
      (λ sw. carry_intrinsic_swapped frame home homing s σ related k.0 carry fl sp at t ns f.writes (f.asks carry σ) (f.swaps sw z) (no_name ia) w.five id h)
      h.reads_left.counted h.reads_right.counted h.numbers

  -- ---- NEG, INC, DEC and NOT
  pub minus_goes : {to : List Lval} {z : Size} {d : Lval} {a : Expr} {x b : Arg} {p r : Leaks} {fl : Flags} {acts : List Action} (sp at : Span) (t : State) (ns : List ℕ) → AreFive home to fl (d ∷ []) → IsArg home z a x p → IsDest home z d b r → one_code one.Neg z b x ≡ Some acts
      → and_then (intrinsic_results name.Neg at z (a ∷ []) s) (λ vs. all_written at (Some z) to vs s) ≡ went ns t → Goes frame home homing s σ related (lasting sp fl acts) (one_shown b x p) t ns
  minus_goes {to} {z} {d} {a} {x} {b} {p} {r} {fl} {acts} sp at t ns lefts ia id e run =
      let w = five_before lefts in
      let run' = subst (λ l. and_then (of_one (one_results all_flags one.Neg z) at z (a ∷ []) s) (λ vs. all_written at (Some z) l vs s) ≡ went ns t) w.joined run in
      let h = one_intrinsic_parts frame home homing s σ related (one_results all_flags one.Neg z) at (w.ls ++ (d ∷ [])) t ns ia run' in
      one_way (action.One one.Neg z b) fl nothing sp h.first h.second t acts ns e
      (one_flag_row frame home homing s σ related one.Neg fl sp at t h.left h.first h.second h.reads (five_flags home w.ls fl _ w.five (neg_five z h.left)) (minus_small z h.left) id h.wrote) h.reads.counted h.numbers

  pub step_goes : (i : Intrinsic) {k : One} {to : List Lval} {z : Size} {d : Lval} {a : Expr} {x b : Arg} {p r : Leaks} {fl : Flags} {acts : List Action} (sp at : Span) (t : State) (ns : List ℕ) → step_of i ≡ Some k → AreFour home to fl (d ∷ []) → IsArg home z a x p → IsDest home z d b r
      → one_code k z b x ≡ Some acts → and_then (intrinsic_results i at z (a ∷ []) s) (λ vs. all_written at (Some z) to vs s) ≡ went ns t → Goes frame home homing s σ related (lasting sp fl acts) (one_shown b x p) t ns
  step_goes i {k} {to} {z} {d} {a} {x} {b} {p} {r} {fl} {acts} sp at t ns named lefts ia id e run =
      let f = is_step i k named in
      let w = four_before lefts in
      let run' = subst (λ l. and_then (of_one (one_results all_but_carry k z) at z (a ∷ []) s) (λ vs. all_written at (Some z) l vs s) ≡ went ns t) w.joined
      (sym (ap (λ u. and_then u (λ vs. all_written at (Some z) to vs s)) (f.results at z (a ∷ []) s)) ∙ run) in
      let h = one_intrinsic_parts frame home homing s σ related (one_results all_but_carry k z) at (w.ls ++ (d ∷ [])) t ns ia run' in
      one_way (action.One k z b) fl nothing sp h.first h.second t acts ns e
      (one_flag_row frame home homing s σ related k fl sp at t h.left h.first h.second h.reads (f.flags home w.ls fl z h.left w.four) (f.small z h.left) id h.wrote) h.reads.counted h.numbers

  pub complement_goes : {z : Size} {d : Lval} {a : Expr} {x b : Arg} {p r : Leaks} {acts : List Action} (sp at : Span) (t : State) (ns : List ℕ) → IsArg home z a x p → IsDest home z d b r → one_code one.Not z b x ≡ Some acts
      → and_then (intrinsic_results name.Not at z (a ∷ []) s) (λ vs. all_written at (Some z) (d ∷ []) vs s) ≡ went ns t → Goes frame home homing s σ related (lasting sp no_flag acts) (one_shown b x p) t ns
  complement_goes {z} {d} {a} {x} {b} {p} {r} {acts} sp at t ns ia id e run =
      let h = one_intrinsic_parts frame home homing s σ related (one_results no_results one.Not z) at (d ∷ []) t ns ia run in
      one_way (action.One one.Not z b) no_flag nothing sp h.first h.second t acts ns e
      (one_flag_row frame home homing s σ related one.Not no_flag {ls = []} {vs = []} sp at t h.left h.first h.second h.reads (not_flags home z h.left) (not_small z h.left h.reads.small) id h.wrote) h.reads.counted h.numbers

  -- ---- BSWAP
  pub swap_goes : {z : Size} {d : Lval} {a : Expr} {x : Arg} {v : ℕ} {p r : Leaks} {acts : List Action} (sp at : Span) (t : State) (ns : List ℕ) → IsLong z → IsArg home z a x p → IsDest home z d (arg.Var v) r → swap_code z v x ≡ Some acts
      → and_then (intrinsic_results name.Bswap at z (a ∷ []) s) (λ vs. all_written at (Some z) (d ∷ []) vs s) ≡ went ns t → Goes frame home homing s σ related (lasting sp no_flag acts) (one_shown (arg.Var v) x p) t ns
  swap_goes {z} {d} {a} {x} {v} {p} {r} {acts} sp at t ns long ia id e run =
      let h = one_intrinsic_parts frame home homing s σ related (λ n. before_value [] z (swapped_of z n)) at (d ∷ []) t ns ia run in
      one_way (action.Bswap z v) no_flag nothing sp h.first h.second t acts ns e
      (record {
        left = h.left;
        reads = h.reads.reads;
        small = h.reads.small;
        shows = h.reads.shows;
        n = swapped_of z h.left;
        fs = no_flags;
        ends = bswap_ends frame v sp z σ h.left;
        finish = finishes_with frame home homing {ls = []} {vs = []} (plain sp (action.Bswap z v)) at no_flags (word z (swapped_of z h.left)) (swapped_of z h.left) h.second s σ t related (no_list home) id (word_itself z _) (swapped_small z h.left long) h.wrote;
      }) h.reads.counted h.numbers

  -- ---- LEA
  pub address_goes : {d : Lval} {a : Expr} {u : Sum} {m : Address} {v : ℕ} {r : Leaks} (sp at : Span) (t : State) (ns : List ℕ) → IsSum home a u → IsLeaAddress u m → IsDest home S64 d (arg.Var v) r
      → and_then (of_one (λ n. before_value [] S64 n) at S64 (a ∷ []) s) (λ vs. all_written at (Some S64) (d ∷ []) vs s) ≡ went ns t → Goes frame home homing s σ related (lasting sp no_flag (action.Lea v m ∷ [])) (These [] ∷ []) t ns
  address_goes {d} {a} {u} {m} {v} sp at t ns isum isa id run =
      let g = both_went (of_one (λ n. before_value [] S64 n) at S64 (a ∷ []) s) (λ vs. all_written at (Some S64) (d ∷ []) vs s) ns t run in
      let h = both_went (word_in at S64 a s) (λ n. went [] (before_value [] S64 n)) g.first g.value g.came in
      let e = both_went (evaluated a (Some S64) s) (word_at at S64) h.first h.value h.came in
      let c = sum_is home s σ related isum e.first e.value e.came in
      let n = residue S64 (pos c.total +ℤ u.number) in
      let d' = defined_went at (word_of S64 e.value) e.second h.value e.went_on in
      let same : n ≡ h.value = same_some n h.value (sym (word_64 e.value n c.stands) ∙ d'.0) in
      let k = went_same [] h.second (before_value [] S64 h.value) g.value h.went_on in
      let wrote : written (Some S64) d (Some (word S64 n)) s ≡ went g.second t =
      last_written at (Some S64) d (Some (word S64 n)) s t g.second (subst (λ i. all_written at (Some S64) (d ∷ []) (Some (word S64 i) ∷ []) s ≡ went g.second t) (sym same) (subst (λ vs. all_written at (Some S64) (d ∷ []) vs s ≡ went g.second t) (sym k.1) g.went_on)) in
      let w = dest_written frame home homing s σ related id (word S64 n) n g.second t (word_itself S64 n) (residue_below S64 _) wrote in
      record {
        shown' = [] ∷ [];
        goes = record {
          ran = _;
          goes = one_ran frame home homing s σ related (plain sp (action.Lea v m)) [] (with_flags (plain sp (action.Lea v m)) no_flags w.after) (lea_by frame sp v m n σ w.after (lea_found σ isa c.total c.made) w.put');
          agrees = after_flags frame home homing s σ related sp (action.Lea v m) no_flags t w.after w.agrees;
          shows = refl;
        };
        are = one_item (nothing_placed ns);
      }

  -- ---- CMP and TEST
  pub compare_goes : (i : Intrinsic) {k : Alu} {to : List Lval} {z : Size} {a c : Expr} {x y : Arg} {p q : Leaks} {fl : Flags} (sp at : Span) (t : State) (ns : List ℕ) → compare_of i ≡ Some k → AreFive home to fl [] → IsArg home z a x p → IsArg home z c y q
      → and_then (intrinsic_results i at z (a ∷ c ∷ []) s) (λ vs. all_written at (Some z) to vs s) ≡ went ns t
      → Goes frame home homing s σ related (lasting sp fl (action.Alu k z x y None ∷ [])) (These (numbers_from p 0 ++ numbers_from q (count_of p)) ∷ []) t ns
  compare_goes i {k} {to} {z} {a} {c} {x} {y} {p} {q} {fl} sp at t ns named lefts ia ic run =
      let f = is_comparing i k named in
      let w = five_before lefts in
      let run' = subst (λ l. and_then (of_two (λ m n. all_flags (alu_answer k z m n false).flags) at z (a ∷ c ∷ []) s) (λ vs. all_written at (Some z) l vs s) ≡ went ns t) (w.joined ∙ nil_end w.ls)
      (sym (ap (λ u. and_then u (λ vs. all_written at (Some z) to vs s)) (f.results at z (a ∷ c ∷ []) s)) ∙ run) in
      let h = two_parts frame home homing s σ related (λ m n. all_flags (alu_answer k z m n false).flags) at w.ls t ns ia ic run' in
      let g = flags_run frame home homing s σ related k fl sp at t ns f.writes (f.asks σ) w.five h in
      record {
        shown' = (shown_of p h.first ++ shown_of q h.second) ∷ [];
        goes = g.0;
        are = at_numbers (joined h.first h.second h.third ns h.numbers) (one_item (both_placed (first_placed p h.first (h.second ++ h.third) h.reads_left.counted) (next_placed p q h.first h.second h.third h.reads_left.counted h.reads_right.counted)));
      }

  -- ---- shifts and rotations, given which flags are listed
  count_goes : {i : Intrinsic} {k : Shift} {pick : List FlagVal → Results} {cs : List Bool} {to ls : List Lval} {z : Size} {d : Lval} {a c : Expr} {x b : Arg} {n : Option Pinned} {m : ℕ} {p r : Leaks} {fl : Flags} {acts : List Action} (sp at : Span) (t : State) (ns : List ℕ)
      → IsShift i k pick cs → to ≡ ls ++ (d ∷ []) → ((fs : List FlagVal) → FiveOf fs → AreFlags home ls (flags_of fl) cs fs (pick fs)) → ((fs : List FlagVal) → FiveOf fs → AreFlags home ls (flags_of fl) cs fs (pick no_flags))
      → IsArg home z a x p → IsCount home z c n m → IsDest home z d b r → count_code k z b x n m ≡ Some acts
      → and_then (intrinsic_results i at z (a ∷ c ∷ []) s) (λ vs. all_written at (Some z) to vs s) ≡ went ns t → Goes frame home homing s σ related (lasting sp fl acts) (one_shown b x p) t ns
  count_goes {k = k} {pick = pick} {to = to} {ls = ls} {z = z} {d = d} {a = a} {b = b} {fl = fl} {acts = acts} sp at t ns f at-lefts flags unset ia (by_number m there below) id e run =
      let run' = subst (λ l. and_then (of_count pick k at z (a ∷ expr.Num (pos m) there ∷ []) s) (λ vs. all_written at (Some z) l vs s) ≡ went ns t) at-lefts
      (sym (ap (λ u. and_then u (λ vs. all_written at (Some z) to vs s)) (f.results at z (a ∷ expr.Num (pos m) there ∷ []) s)) ∙ run) in
      let h = count_parts frame home homing s σ related k m pick at there (ls ++ (d ∷ [])) t ns ia run' in
      let fs = (shift_answer k z h.left (masked z m) no_flags).flags in
      one_way (action.Shift k z b m) fl nothing sp h.first h.second t acts ns e
      (count_row frame home homing s σ related k m pick fl sp at t ns id h (subst (λ bs. AreFlags home ls (flags_of fl) bs fs (pick fs)) (sym f.changes) (flags fs (shift_five k z h.left (masked z m))))) h.reads.counted h.numbers
  count_goes {k = k} {pick = pick} {to = to} {ls = ls} {z = z} {d = d} {a = a} {b = b} {fl = fl} {acts = acts} sp at t ns f at-lefts flags unset ia (by_variable v c there here hv span) id e run =
      let count = Rattle.jz_row_operations.proofs.Shifts.count_expr v z there here in
      let run' = subst (λ l. and_then (of_count pick k at z (a ∷ count ∷ []) s) (λ vs. all_written at (Some z) l vs s) ≡ went ns t) at-lefts
      (sym (ap (λ u. and_then u (λ vs. all_written at (Some z) to vs s)) (f.results at z (a ∷ count ∷ []) s)) ∙ run) in
      let h = masked_parts frame home homing s σ related k v c.variable pick at there here (ls ++ (d ∷ [])) t ns hv ia run' in
      let fs = (shift_answer k z h.left (masked z h.count) no_flags).flags in
      one_way (action.ShiftBy k z b c) fl (arg.Var c.variable) sp h.first h.second t acts ns e
      (masked_row frame home homing s σ related k c pick fl sp at t ns id h (subst (λ bs. AreFlags home ls (flags_of fl) bs fs (pick no_flags)) (sym f.changes) (unset fs (shift_five k z h.left (masked z h.count))))) h.reads.counted h.numbers

  pub shift_goes : (i : Intrinsic) {k : Shift} {to : List Lval} {z : Size} {d : Lval} {a c : Expr} {x b : Arg} {n : Option Pinned} {m : ℕ} {p r : Leaks} {fl : Flags} {acts : List Action} (sp at : Span) (t : State) (ns : List ℕ) → shift_named i ≡ Some k → AreFive home to fl (d ∷ [])
      → IsArg home z a x p → IsCount home z c n m → IsDest home z d b r → count_code k z b x n m ≡ Some acts
      → and_then (intrinsic_results i at z (a ∷ c ∷ []) s) (λ vs. all_written at (Some z) to vs s) ≡ went ns t → Goes frame home homing s σ related (lasting sp fl acts) (one_shown b x p) t ns
  shift_goes i {k} {fl = fl} sp at t ns named lefts ia ic id e run =
      let w = five_before lefts in
      count_goes sp at t ns (is_shift i k named) w.joined (λ fs f. five_flags home w.ls fl fs w.five f) (λ fs f. five_none home w.ls fl fs w.five f) ia ic id e run

  pub rotate_goes : (i : Intrinsic) {k : Shift} {to : List Lval} {z : Size} {d : Lval} {a c : Expr} {x b : Arg} {n : Option Pinned} {m : ℕ} {p r : Leaks} {fl : Flags} {acts : List Action} (sp at : Span) (t : State) (ns : List ℕ) → rotation_named i ≡ Some k → AreTwo home to fl (d ∷ [])
      → IsArg home z a x p → IsCount home z c n m → IsDest home z d b r → count_code k z b x n m ≡ Some acts
      → and_then (intrinsic_results i at z (a ∷ c ∷ []) s) (λ vs. all_written at (Some z) to vs s) ≡ went ns t → Goes frame home homing s σ related (lasting sp fl acts) (one_shown b x p) t ns
  rotate_goes i {k} {fl = fl} sp at t ns named lefts ia ic id e run =
      let w = two_before lefts in
      count_goes sp at t ns (is_rotation i k named) w.joined (λ fs f. rotation_flags home w.ls fl fs w.two f) (λ fs f. two_none home w.ls fl fs w.two f) ia ic id e run

  -- ---- IMUL
  imul_swapped : (m : ℕ) (fl : Flags) {ls : List Lval} {z : Size} {d : Lval} {x y : Arg} {p q r : Leaks} (sp at : Span) (t : State) (ns : List ℕ) → NoName x → FiveTo home ls fl → IsDest home z d (arg.Var m) r
      → (k : TwoParts frame home homing s σ related z x y p q (low_product_results z) at (ls ++ (d ∷ [])) t ns)
      → Row frame home homing s σ related (record { span = sp; action = action.Imul z m x; flags = fl }) z y (arg.Var m) q r (is_var x ++ found_by x) (shown_of p k.first) k.second k.third t
  imul_swapped m fl {ls} {z} {d} {x} {y} sp at t ns nm lefts id k =
      let same = low_commutes z k.left k.right in
      let fs = (low_product_answer z k.left k.right).flags in
      record {
        left = k.right;
        reads = k.reads_right.reads;
        small = k.reads_right.small;
        shows = k.reads_right.shows;
        n = (low_product_answer z k.right k.left).value;
        fs = (low_product_answer z k.right k.left).flags;
        ends = imul_ends frame m x sp fl z σ k.right k.left _ nm k.reads_left.reads k.reads_left.shows;
        finish = finishes_with frame home homing (record { span = sp; action = action.Imul z m x; flags = fl }) at (low_product_answer z k.right k.left).flags (word z (low_product_answer z k.right k.left).value) (low_product_answer z k.right k.left).value k.third s σ t related
            (subst (λ r. AreFlags home ls (flags_of fl) all_five r.flags (all_flags fs)) (sym same) (five_flags home ls fl fs lefts (low_five z k.left k.right))) id (word_itself z _) (product_small z k.right k.left)
            (subst (λ r. all_written at (Some z) (ls ++ (d ∷ [])) (all_flags fs ++ (Some (word z r.value) ∷ [])) s ≡ went k.third t) (sym same) k.wrote);
      }

  pub times_goes : {to : List Lval} {z : Size} {d : Lval} {a c : Expr} {x y : Arg} {v : ℕ} {p q r : Leaks} {fl : Flags} {acts : List Action} (sp at : Span) (t : State) (ns : List ℕ) → AreFive home to fl (d ∷ []) → IsArg home z a x p → IsArg home z c y q → IsDest home z d (arg.Var v) r
      → times_code z v x y ≡ Some acts → and_then (intrinsic_results name.Imul at z (a ∷ c ∷ []) s) (λ vs. all_written at (Some z) to vs s) ≡ went ns t → Goes frame home homing s σ related (lasting sp fl acts) (two_shown (not (is_imm x)) (arg.Var v) x y p q) t ns
  times_goes {to} {z} {d} {a} {c} {x} {y} {v} {p} {q} {r} {fl} {acts} sp at t ns lefts ia ic id e run =
      let w = five_before lefts in
      let run' = subst (λ l. and_then (of_two (low_product_results z) at z (a ∷ c ∷ []) s) (λ vs. all_written at (Some z) l vs s) ≡ went ns t) w.joined run in
      let h = two_parts frame home homing s σ related (low_product_results z) at (w.ls ++ (d ∷ [])) t ns ia ic run' in
      two_way (not (is_imm x)) (action.Imul z v) fl [] sp h.first h.second h.third t acts ns e (away_from_none (arg.Var v))
      (with_none frame home homing s σ related (is_var y ++ found_by y) (imul_intrinsic frame home homing s σ related v fl sp at t ns (no_name ic) w.five id h))
      (λ sw. with_none frame home homing s σ related (is_var x ++ found_by x) (imul_swapped v fl sp at t ns (no_name ia) w.five id h))
      h.reads_left.counted h.reads_right.counted h.numbers

  -- the second operand is a number
  pub times_by_goes : {to : List Lval} {z : Size} {d : Lval} {a c : Expr} {x : Arg} {i : ℤ} {v : ℕ} {p q r : Leaks} {fl : Flags} (sp at : Span) (t : State) (ns : List ℕ) → AreFive home to fl (d ∷ []) → IsArg home z a x p → IsArg home z c (arg.Imm i) q → IsDest home z d (arg.Var v) r
      → and_then (intrinsic_results name.Imul at z (a ∷ c ∷ []) s) (λ vs. all_written at (Some z) to vs s) ≡ went ns t → Goes frame home homing s σ related (lasting sp fl (times_by_code z v x i)) (These (numbers_from p 0) ∷ []) t ns
  times_by_goes {to} {z} {d} {a} {c} {x} {i} {v} {p} {q} {r} {fl} sp at t ns lefts ia ic id run =
      let w = five_before lefts in
      let run' = subst (λ l. and_then (of_two (low_product_results z) at z (a ∷ c ∷ []) s) (λ vs. all_written at (Some z) l vs s) ≡ went ns t) w.joined run in
      let h = two_parts frame home homing s σ related (low_product_results z) at (w.ls ++ (d ∷ [])) t ns ia ic run' in
      let number : residue z i ≡ h.right = same_some (residue z i) h.right h.reads_right.reads in
      let same : low_product_answer z (residue z i) h.left ≡ low_product_answer z h.left h.right = ap (λ n. low_product_answer z n h.left) number ∙ low_commutes z h.left h.right in
      let made = low_product_answer z h.left h.right in
      let o' : Operation = record { span = sp; action = action.ImulBy z v x i; flags = fl } in
      let f = finishes_with frame home homing o' at made.flags (word z made.value) made.value h.third s σ t related (five_flags home w.ls fl _ w.five (low_five z h.left h.right)) id (word_itself z _) (product_small z h.left h.right) h.wrote in
      record {
        shown' = shown_of p h.first ∷ [];
        goes = record {
          ran = _;
          goes = one_ran frame home homing s σ related o' (shown x σ ++ []) _ (imul_by_step frame z v x i sp fl h.left σ f.after h.reads_left.reads (ap (λ u. put frame (arg.Var v) z u.value σ) same ∙ f.put'));
          agrees = subst (λ u. IsRelated home t (with_flags o' u.flags f.after)) (sym same) f.agrees;
          shows = ap (λ u. u ∷ []) (append_nil (shown x σ ++ []) ∙ append_nil (shown x σ) ∙ h.reads_left.shows);
        };
        are = at_numbers (joined h.first h.second h.third ns h.numbers) (one_item (first_placed p h.first (h.second ++ h.third) h.reads_left.counted));
      }
