-- The copies of arguments and results, and operations of a copied body, can be unrolled.
use Rattle.std.proofs.Common.{◌≡◌, ℕ, ◌<◌, List, [], ◌∷◌, map, Option, Some, None, Bool, true, false, refl, ap, sym, ◌∙◌, subst, arith, bytes_eq}
use Rattle.std.specs.Prelude.{ℤ, ◌==◌, ◌&&◌, not, is_some, if◌then◌else◌, option_map}
use Rattle.std.specs.List.{list_all}
use Rattle.std.proofs.lemmas.Bool.{and_parts}
use Rattle.jz_tree.specs.Span.{Span}
use Rattle.jz_tree.specs.declared.expr.BinOp.{BinOp}
use Rattle.jz_tree.specs.declared.expr.Expr.{Expr}
use Rattle.jz_tree.specs.declared.expr.Expr.TheVariants as expr
use Rattle.jz_tree.specs.declared.expr.Var.{Var}
use Rattle.jz_tree.specs.declared.expr.Expr.TheOpen.{Expr-F}
use Rattle.jz_tree.specs.declared.stmt.Lval.{Lval}
use Rattle.jz_tree.specs.declared.stmt.Lval.TheVariants as lval
use Rattle.jz_tree.specs.declared.program.Param.{Param}
use Rattle.jz_type_names.specs.Kinds.{is_inline}
use Rattle.jz_integers.specs.Integers.{KnownNumbers, the_number}
use Rattle.jz_integers.specs.declared.constant.Constant.TheVariants as constant
use Rattle.jz_meaning.specs.Assignments.{whole_of}
use Rattle.jz_meaning.specs.Statements.{Operation, assign, instruction, unset, meaningless, Block}
use Rattle.jz_meaning.specs.Values.{Ref, ref_of}
use Rattle.jz_runs.specs.Trees.{op}
use Rattle.jz_pass.specs.Operations.{in_turn}
use Rattle.jz_change.specs.declared.change.Numbers.{Numbers}
use Rattle.jz_unrolling_laws.specs.BodiesCalls.{is_array}
use Rattle.jz_unrolling_laws.specs.Names.{Names, var_in, expr_in, lval_in, op_in}
use Rattle.jz_unrolling_laws.specs.Calls.{set_one, argument_ops, result_op, result_ops}
use Rattle.jz_unrolling_laws.proofs.Reading.{ref_so}
use Rattle.jz_unrolling_laws.proofs.Renaming.{in_var}
use Rattle.jz_limits.specs.Values.{is_int, inline_target, truth_of, holds_in, chosen, set_to, first_left, known_after, number_in}
use Rattle.jz_limits.specs.Walks.{with_argument, with_arguments}
use Rattle.jz_unroll.specs.Values.{InlineNames, is_inline_var, has_values, left_has_values, operation_has_values}
use Rattle.jz_unroll.specs.Unrolling.{with_number, HasValue, ConditionIs, UnrollsOp, stays, vanishes}
use Rattle.jz_unroll.proofs.Parts.{layer_known}
use Rattle.jz_unrolling_values.specs.Parts.{IsInlineIf}
use Rattle.jz_unrolling.specs.Fits.{SetsInline, IsPlainOp, Fits, fits_op}
use Rattle.jz_unrolling_laws.specs.AskedLaws.{of_text, is_text}
use Rattle.jz_unrolling_laws.specs.CalledBodies.{Inlines, in_source, IsNamedVar, IsTextIf, IsNamedLeft, IsNamedOp, AreNamedArguments, IsPlainLeft, AreNamedResults, FitsOp, stays_so, sets_one, FitArguments, IsGiven, FitsResult, FitResults}
use Rattle.jz_unrolling_laws.proofs.CopiedValues.{copied_inline}
use Rattle.jz_copied_values.proofs.StillWalks.{still_op}
use Rattle.jz_copied_values.proofs.CopiedWholes.{whole_in, whole_text}
use Rattle.jz_copied_values.proofs.CopiedOperations.{var_named, values_copied, value_copied, left_copied, operation_copied}
use Rattle.jz_copied_values.proofs.CopiedNumbers.{copy_itself, text_copy, number_elsewhere, set_only, IsCopy, Agrees, own_place, not_behind, own_copy, copied_int, copied_number, set_agrees}
use Rattle.jz_copied_values.proofs.CalledNames.{by_so, by_not}
use Rattle.jz_copied_values.proofs.CalledNumbers.{array_no_int, param_int}

false_true : false ≡ true → ⊥
false_true q = absurd cc

not_true : (b : Bool) → not b ≡ true → b ≡ false
not_true true q = absurd cc
not_true false q = refl

module _ (names : InlineNames) where
  -- a tree fits where k is known, and behind it this is true of what is known
  abbrev pub FitsTo : (KnownNumbers → Type 0) → Block → KnownNumbers → Type 0
  FitsTo Post t k = (k2 : KnownNumbers) × Fits names t k k2 × Post k2

  -- behind a piece of a copy e1 is known, and of copies before it what was known
  pub record Ends (m : Names) (c0 : ℕ) (e1 k k1 : KnownNumbers) : Type 0 where
    pub agrees : Agrees names m e1 k1
    pub before : (n : List ℕ) (a : ℕ) → a < c0 → k1 n a ≡ k n a

  pub op_before : (Post : KnownNumbers → Type 0) (o : Operation) (t : Block) (k k1 : KnownNumbers) (os : List Operation) (is : List Numbers) → IsPlainOp names o → UnrollsOp names o k os is k1 → FitsTo Post t k1 → FitsTo Post (op o t) k
  op_before Post o t k k1 os is plain rule h = (h.0, fits_op plain rule h.1, h.2)

  -- ---- operations

  -- one that becomes this, where e is known in the body
  pub record OpFits (m : Names) (c0 : ℕ) (o : Operation) (e k : KnownNumbers) : Type 0 where
    pub plain : IsPlainOp names (op_in m o)
    pub behind : KnownNumbers
    pub made : List Operation
    pub numbers : List Numbers
    pub rule : UnrollsOp names (op_in m o) k made numbers behind
    pub ends : Ends m c0 (known_after e o) k behind

  stays_plain : (k : KnownNumbers) (to : List Lval) (x : Expr) (c : Option Expr) → list_all (left_has_values names k) to ≡ true → SetsInline names to x c
  stays_plain k [] x c h = tt
  stays_plain k (lval.Var v ∷ []) x c h =
      let q = and_parts (left_has_values names k (lval.Var v)) true h in
      let p = and_parts (not (is_inline_var names v)) _ q.0 in
      λ inline. absurd (false_true (sym (not_true (is_inline_var names v) p.0) ∙ inline))
  stays_plain k (lval.Var v ∷ d ∷ ds) x c h = tt
  stays_plain k (lval.Skip at ∷ ds) x c h = tt
  stays_plain k (lval.Cell v y ∷ ds) x c h = tt
  stays_plain k (lval.Store y ∷ ds) x c h = tt

  plain_so : (k : KnownNumbers) (i : Inlines) (m : Names) (o : Operation) → IsNamedOp i o → operation_has_values names k (op_in m o) ≡ true → IsPlainOp names (op_in m o)
  plain_so k i m (assign to o x c at) named h = stays_plain k (map (lval_in m) to) (expr_in m x) (option_map (expr_in m) c) (and_parts (list_all (left_has_values names k) (map (lval_in m) to)) _ h).0
  plain_so k i m (instruction to n args at) named h = tt
  plain_so k i m (unset vs) named h = absurd named
  plain_so k i m (meaningless at) named h = absurd named

  same_known : (i : Inlines) (e : KnownNumbers) (v : Var) (o : Option BinOp) (x y : Expr) (c : Option Expr) (z : ℤ) (b : Bool) → is_int (ref_of v).kind ≡ true → whole_of (Some (lval.Var v)) o x ≡ Some y → HasValue e y (constant.Int z) → ConditionIs e v c b
      → set_to e (inline_target (lval.Var v ∷ [])) (whole_of (first_left (inline_target (lval.Var v ∷ []))) o x) c ≡ (if b then with_number e v (Some z) else e)
  same_known i e v o x y c z b int whole value cond =
      ap (λ t. set_to e (if t then Some v else None) (whole_of (first_left (if t then Some v else None)) o x) c) int
      ∙ ap (λ w. chosen e v w (holds_in e c)) whole ∙ ap (chosen e v (Some y)) (holds c cond) ∙ by_answer b
    where
      holds : (c : Option Expr) → ConditionIs e v c b → holds_in e c ≡ Some b
      holds None h = ap Some (sym h)
      holds (Some d) h = ap truth_of h.0.1

      by_answer : (b : Bool) → chosen e v (Some y) (Some b) ≡ (if b then with_number e v (Some z) else e)
      by_answer true = ap (λ w. with_number e v (the_number w)) value.1
      by_answer false = refl

  module _ (i : Inlines) (m : Names) (c0 : ℕ) (copy : IsCopy names i m c0) (e k : KnownNumbers) (agree : Agrees names m e k) where
    stays_ends : Ends m c0 e k k
    stays_ends = record { agrees = agree; before = λ n a lt. refl }

    -- a variable of the copy is set
    pub set_ends : (v : Var) (z : Option ℤ) → of_text (ref_of v) ≡ true → i (ref_of v).name ≡ true → Ends m c0 (with_number e v z) k (with_number k (var_in m v) z)
    set_ends v z t inline = record {
      agrees = set_agrees names i m c0 copy v e k z t inline agree;
      before = λ n a lt. number_elsewhere (var_in m v) k z n a (λ same. (let own = own_copy names i m c0 copy v inline in omega (arith, own, same, lt)));
    }

    condition_in : (v : Var) (c : Option Expr) (b : Bool) → of_text (ref_of v) ≡ true → IsTextIf c → ConditionIs e v c b → ConditionIs k (var_in m v) (option_map (expr_in m) c) b
    condition_in v None b t text h = h
    condition_in v (Some d) b t text h =
        (value_copied names i m copy.named e k agree.numbers d (constant.Bool b) text h.0, ap is_some (copied_number names i m c0 copy v e k t agree) ∙ h.1)

    inline_if : (c : Option Expr) → IsInlineIf c → IsInlineIf (option_map (expr_in m) c)
    inline_if None h = h
    inline_if (Some d) h = copied_inline m d ∙ h

    pub op_fits : (o : Operation) → IsNamedOp i o → FitsOp i e o → OpFits m c0 o e k
    op_fits o named (stays_so still h) =
        let all : operation_has_values names k (op_in m o) ≡ true = operation_copied names i m copy.named e k agree.numbers o named ∙ h in
        record {
          plain = plain_so k i m o named all;
          behind = k;
          made = _;
          numbers = _;
          rule = stays all;
          ends = subst (λ w. Ends m c0 w k k) (sym (still_op o e still)) stays_ends;
        }
    op_fits _ named (sets_one {v} {o} {x} {y} {c} {at} {n = z} b int inline inline_c whole value cond) =
        let text = named.0.0.0 in
        let ends : Ends m c0 (if b then with_number e v (Some z) else e) k (if b then with_number k (var_in m v) (Some z) else k) = by_answer b in
        record {
          plain = λ h. (copied_inline m x ∙ inline, inline_if c inline_c);
          behind = if b then with_number k (var_in m v) (Some z) else k;
          made = [];
          numbers = [];
          rule = vanishes b (copied_int names i m c0 copy v int)
              (whole_in m (Some (lval.Var v)) o x ∙ ap (option_map (expr_in m)) whole)
              (value_copied names i m copy.named e k agree.numbers y (constant.Int z) (whole_text v o x y text named.1 whole) value)
              (condition_in v c b text named.2 cond);
          ends = subst (λ w. Ends m c0 w k (if b then with_number k (var_in m v) (Some z) else k)) (sym (same_known i e v o x y c z b int.int whole value cond)) ends;
        }
      where
        by_answer : (b : Bool) → Ends m c0 (if b then with_number e v (Some z) else e) k (if b then with_number k (var_in m v) (Some z) else k)
        by_answer true = set_ends v (Some z) named.0.0.0 int.named
        by_answer false = stays_ends

-- ---- calls

-- a call in a copy of i, whose callee has the inline variables j
module _ (names : InlineNames) (i j : Inlines) (m inner : Names) (c0 c : ℕ) (copy : IsCopy names i m c0) (below : IsCopy names j inner c) (up : c0 < c) (e : KnownNumbers) (at : Span) (Post : KnownNumbers → Type 0) where
  -- a variable of the callee's copy is set
  later_agrees : (v : Var) (k : KnownNumbers) (z : Option ℤ) → j (ref_of v).name ≡ true → Agrees names m e k → Agrees names m e (with_number k (var_in inner v) z)
  later_agrees v k z inline agree = record {
    numbers = λ n. number_elsewhere (var_in inner v) k z (m n).0 (m n).1
        (λ same. (let own = own_copy names j inner c below v inline in let lt = not_behind names i m c0 copy n c up in omega (arith, own, same, lt)))
        ∙ agree.numbers n;
    only = set_only (var_in inner v) k z names (var_named names j inner below.named v ∙ inline) agree.only;
  }

  -- ---- arguments

  abbrev argument : Param → Expr → Operation
  argument p x = set_one (lval.Var (var_in inner p.var)) (expr_in m x) at

  number_plain : (k : KnownNumbers) (p : Param) (x : Expr) → IsNamedVar j p.var → is_text x ≡ true → j (ref_of p.var).name ≡ false → Agrees names m e k → has_values (in_source i) e x ≡ true → operation_has_values names k (argument p x) ≡ true
  number_plain k p x named text out agree h =
      let inline : is_inline (expr.Var (var_in inner p.var)) ≡ false = ap is_inline (sym (in_var inner p.var)) ∙ copied_inline inner (expr.Var p.var) ∙ named.1 ∙ out in
      let plain : is_inline_var names (var_in inner p.var) ≡ false = var_named names j inner below.named p.var ∙ out in
      let value : has_values names k (expr_in m x) ≡ true = values_copied names i m copy.named e k agree.numbers x text ∙ h in
      ap (λ b. (not b && not (is_inline (expr.Var (var_in inner p.var)))) && true && (has_values names k (expr_in m x) && (true && true))) plain
      ∙ ap (λ b. (true && not b) && true && (has_values names k (expr_in m x) && (true && true))) inline
      ∙ ap (λ b. b && (true && true)) value

  number_set : (k g : KnownNumbers) (p : Param) (x : Expr) (z : ℤ) → of_text (ref_of p.var) ≡ true → j (ref_of p.var).name ≡ true → is_int (ref_of p.var).kind ≡ true → HasValue e x (constant.Int z)
      → ((n : List ℕ) → k n c ≡ g n 0) → (n : List ℕ) → with_number k (var_in inner p.var) (Some z) n c ≡ with_argument e p.var x g n 0
  number_set k g p x z text inline int value known n =
      let own = own_place names j inner c below (ref_of p.var).name inline in
      let name : (ref_of (var_in inner p.var)).name ≡ (ref_of p.var).name = ap (λ (r : Ref). r.name) (ref_so inner p.var) ∙ ap (λ q. q.0) own in
      ap (λ w. if bytes_eq w n && (ref_of (var_in inner p.var)).copy == c then Some z else k n c) name
      ∙ ap (λ w. if bytes_eq (ref_of p.var).name n && w then Some z else k n c) (ap (λ a. a == c) (own_copy names j inner c below p.var inline) ∙ copy_itself c ∙ sym (text_copy (ref_of p.var) text))
      ∙ ap (λ w. if bytes_eq (ref_of p.var).name n && (ref_of p.var).copy == 0 then w else k n c) (sym (ap the_number value.1))
      ∙ ap (λ w. if bytes_eq (ref_of p.var).name n && (ref_of p.var).copy == 0 then number_in e x else w) (known n)
      ∙ sym (ap (λ b. (if b then with_number g p.var (number_in e x) else g) n 0) int)

  -- g: what was known of the copy's own variables before it
  abbrev Given : List Param → List Expr → KnownNumbers → KnownNumbers → Block → Type 0
  Given ps xs g k rest =
      (k1 : KnownNumbers) → Agrees names m e k1 → ((n : List ℕ) → k1 n c ≡ with_arguments e ps xs g n 0)
      → ((n : List ℕ) (a : ℕ) → a < c → k1 n a ≡ k n a) → FitsTo names Post rest k1

  -- the arguments behind the first one
  abbrev After : Param → Expr → List Param → List Expr → KnownNumbers → Block → Type 0
  After p x ps xs g rest =
      (k1 : KnownNumbers) → Agrees names m e k1 → ((n : List ℕ) → k1 n c ≡ with_argument e p.var x g n 0) → Given ps xs (with_argument e p.var x g) k1 rest
      → FitsTo names Post (in_turn (argument_ops m inner at ps xs) rest) k1

  pub arguments_fit : (ps : List Param) (xs : List Expr) (g k : KnownNumbers) (rest : Block) → AreNamedArguments i j ps xs → FitArguments i e ps xs → Agrees names m e k → ((n : List ℕ) → k n c ≡ g n 0)
      → Given ps xs g k rest → FitsTo names Post (in_turn (argument_ops m inner at ps xs) rest) k
  arguments_fit [] [] g k rest named fits agree known next = next k agree known (λ n a lt. refl)
  arguments_fit [] (x ∷ xs) g k rest named fits agree known next = absurd named
  arguments_fit (p ∷ ps) [] g k rest named fits agree known next = absurd named
  arguments_fit (p ∷ ps) (x ∷ xs) g k rest named fits agree known next =
      by_array (is_array (ref_of p.var).kind) refl (λ k1 a1 s1 n1. arguments_fit ps xs (with_argument e p.var x g) k1 rest named.1 fits.1 a1 s1 n1)
    where
      later : Block
      later = in_turn (argument_ops m inner at ps xs) rest

      unset_so : is_int (ref_of p.var).kind ≡ false → (n : List ℕ) → k n c ≡ with_argument e p.var x g n 0
      unset_so q n = known n ∙ sym (ap (λ b. (if b then with_number g p.var (number_in e x) else g) n 0) q)

      by_int : (t : Bool) → j (ref_of p.var).name ≡ t → is_array (ref_of p.var).kind ≡ false → After p x ps xs g rest → FitsTo names Post (op (argument p x) later) k
      by_int true q plain rest1 =
          let own = by_not (is_array (ref_of p.var).kind) _ _ plain named.0 in
          let int = param_int i j p.var x named.0 ∙ q in
          let set = by_so (is_int (ref_of p.var).kind) _ _ int (by_not (is_array (ref_of p.var).kind) _ _ plain fits.0) in
          let k1 : KnownNumbers = with_number k (var_in inner p.var) (Some set.1.0) in
          op_before names Post (argument p x) later k k1 [] []
          (λ h. (copied_inline m x ∙ set.0, tt))
          (vanishes true (copied_int names j inner c below p.var (record { named = q; whole = own.1; int = int })) refl
          (value_copied names i m copy.named e k agree.numbers x (constant.Int set.1.0) own.2 set.1.1) refl)
          (rest1 k1 (later_agrees p.var k (Some set.1.0) q agree) (number_set k g p x set.1.0 own.0.0 q int set.1.1 known)
          (λ k2 a2 s2 b2. next k2 a2 s2
          (λ n a lt. b2 n a lt ∙ number_elsewhere (var_in inner p.var) k (Some set.1.0) n a (λ same. (let o = own_copy names j inner c below p.var q in omega (arith, o, same, lt))))))
      by_int false q plain rest1 =
          let own = by_not (is_array (ref_of p.var).kind) _ _ plain named.0 in
          let int = param_int i j p.var x named.0 ∙ q in
          let value = by_not (is_int (ref_of p.var).kind) _ _ int (by_not (is_array (ref_of p.var).kind) _ _ plain fits.0) in
          op_before names Post (argument p x) later k k _ _
          (λ h. absurd (false_true (sym (var_named names j inner below.named p.var ∙ q) ∙ h)))
          (stays (number_plain k p x own.0 own.2 q agree value))
          (rest1 k agree (unset_so int) next)

      by_array : (b : Bool) → is_array (ref_of p.var).kind ≡ b → After p x ps xs g rest
          → FitsTo names Post (in_turn (if b then argument_ops m inner at ps xs else (argument p x ∷ argument_ops m inner at ps xs)) rest) k
      by_array true q rest1 = rest1 k agree (unset_so (array_no_int (ref_of p.var).kind q)) next
      by_array false q rest1 = by_int (j (ref_of p.var).name) refl q rest1

  -- ---- results

  abbrev result : Lval → Var → Operation
  result d v = set_one (lval_in m d) (expr.Var (var_in inner v)) at

  result_read : (k : KnownNumbers) (v : Var) → IsNamedVar j v → j (ref_of v).name ≡ false → has_values names k (expr.Var (var_in inner v)) ≡ true
  result_read k v named out =
      let inline : is_inline (expr.Var (var_in inner v)) ≡ false = ap is_inline (sym (in_var inner v)) ∙ copied_inline inner (expr.Var v) ∙ named.1 ∙ out in
      let plain : is_inline_var names (var_in inner v) ≡ false = var_named names j inner below.named v ∙ out in
      ap (has_values names k) (sym (expr.rolls-Var (var_in inner v)))
      ∙ layer_known names k (Expr-F.Var (var_in inner v)) (ap is_inline (expr.rolls-Var (var_in inner v)) ∙ inline) (ap not plain)

  result_stays : (k : KnownNumbers) (d : Lval) (v : Var) → IsNamedLeft i d → IsNamedVar j v → j (ref_of v).name ≡ false → Agrees names m e k → left_has_values (in_source i) e d ≡ true → operation_has_values names k (result d v) ≡ true
  result_stays k d v left named out agree h =
      ap (λ b. (b && true) && (has_values names k (expr.Var (var_in inner v)) && (true && true))) (left_copied names i m copy.named e k agree.numbers d left ∙ h)
      ∙ ap (λ b. b && (true && true)) (result_read k v named out)

  plain_left : (d : Lval) (x : Expr) → IsPlainLeft i d → SetsInline names (lval_in m d ∷ []) x None
  plain_left (lval.Skip s) x h = tt
  plain_left (lval.Var v) x h = λ inline. absurd (false_true (sym (var_named names i m copy.named v ∙ h) ∙ inline))
  plain_left (lval.Cell v y) x h = tt
  plain_left (lval.Store a) x h = tt

  module _ (k : KnownNumbers) (agree : Agrees names m e k) where
    given_fits : (d : Lval) (v : Var) (os : List Operation) (rest : Block) (b : Bool) → is_array (ref_of v).kind ≡ b → IsNamedLeft i d → IsPlainLeft i d → IsNamedVar j v → j (ref_of v).name ≡ false → IsGiven i e d v
        → FitsTo names Post (in_turn os rest) k → FitsTo names Post (in_turn (if b then os else (result d v ∷ os)) rest) k
    given_fits d v os rest true q left plain named out fits next = next
    given_fits d v os rest false q left plain named out fits next =
        op_before names Post (result d v) (in_turn os rest) k k _ _ (plain_left d (expr.Var (var_in inner v)) plain)
        (stays (result_stays k d v left named out agree (by_not (is_array (ref_of v).kind) _ _ q fits))) next

    result_fits : (d : Lval) (v : Var) (os : List Operation) (rest : Block) → IsNamedLeft i d → IsPlainLeft i d → IsNamedVar j v → j (ref_of v).name ≡ false → FitsResult i e d v
        → FitsTo names Post (in_turn os rest) k → FitsTo names Post (in_turn (result_op m inner at d v os) rest) k
    result_fits (lval.Skip s) v os rest left plain named out fits next = next
    result_fits (lval.Var w) v os rest left plain named out fits next = given_fits (lval.Var w) v os rest (is_array (ref_of v).kind) refl left plain named out fits next
    result_fits (lval.Cell w y) v os rest left plain named out fits next = given_fits (lval.Cell w y) v os rest (is_array (ref_of v).kind) refl left plain named out fits next
    result_fits (lval.Store a) v os rest left plain named out fits next = given_fits (lval.Store a) v os rest (is_array (ref_of v).kind) refl left plain named out fits next

    pub results_fit : (ds : List Lval) (vs : List Var) (rest : Block) → AreNamedResults i j ds vs → FitResults i e ds vs → FitsTo names Post rest k → FitsTo names Post (in_turn (result_ops m inner at ds vs) rest) k
    results_fit [] [] rest named fits next = next
    results_fit [] (v ∷ vs) rest named fits next = absurd named
    results_fit (d ∷ ds) [] rest named fits next = absurd named
    results_fit (d ∷ ds) (v ∷ vs) rest named fits next =
        result_fits d v (result_ops m inner at ds vs) rest named.0.0 named.0.1 named.0.2 named.0.3 fits.0 (results_fit ds vs rest named.1 fits.1 next)
