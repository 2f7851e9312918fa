-- Assignments to two left sides: a flag and a value, or both words of a product.
use Rattle.std.proofs.Common.{◌≡◌, ◌<◌, ◌*◌, ℕ, Bool, true, false, ◌&&◌, List, [], ◌∷◌, Option, Some, refl, sym, ap, ◌∙◌, subst, inl, inr, if◌then◌else◌}
use Rattle.std.specs.Prelude.{◌⊎◌, All, Contains}
use Rattle.std.proofs.lemmas.Bool.{false≢true, and_parts}
use Rattle.std.proofs.lemmas.List.Elements.{All-contains, All-contains_itself}
use Rattle.jz_tree.specs.Operators.{carries}
use Rattle.jz_tree.specs.Span.{Span}
use Rattle.jz_tree.specs.Size.{Size}
use Rattle.jz_tree.specs.Sizes.{modulus}
use Rattle.jz_tree.specs.declared.expr.BinOp.{BinOp}
use Rattle.jz_tree.specs.declared.expr.BinOp.TheVariants as o
use Rattle.jz_tree.specs.declared.expr.Expr.{Expr}
use Rattle.jz_tree.specs.declared.expr.Expr.TheVariants as expr
use Rattle.jz_tree.specs.declared.expr.Decl.{Decl}
use Rattle.jz_tree.specs.declared.expr.Var.{Var}
use Rattle.jz_tree.specs.declared.expr.Expr.TheOpen.{Expr-F}
use Rattle.jz_tree.specs.declared.expr.Expr.TheViews.{out-Expr, roll-out-Expr}
use Rattle.jz_tree.specs.declared.stmt.Lval.{Lval}
use Rattle.jz_type_sizes.specs.declared.operators.Group.TheVariants as group
use Rattle.jz_type_sizes.specs.Operators.{group_of}
use Rattle.jz_select.specs.declared.class.Class.{Class}
use Rattle.jz_select.specs.Operands.{class_of}
use Rattle.jz_select.specs.Rows.{is_rmi, adds, multiplies}
use Rattle.jz_judgement.specs.Places.{IsTruth, truth, IsSum}
use Rattle.jz_judgement.specs.Places as place
use Rattle.jz_judgement.specs.HasType as judged
use Rattle.jz_judgement.specs.HasType.{Layer, value, HasType, Operates}
use Rattle.jz_judgement.specs.Lefts.{Holds, IsFlag}
use Rattle.jz_types.specs.Carried.{vars_in}
use Rattle.jz_meaning.specs.declared.value.Stuck as code
use Rattle.jz_meaning.specs.declared.value.Why.TheVariants.{Init}
use Rattle.jz_meaning.specs.Attempts.{Evaluation, stuck_at, and_then}
use Rattle.jz_meaning.specs.States.{word, boolean, State}
use Rattle.jz_meaning.specs.Assignments.{is_flag, updated_layer, Results, two_results, word_in, bool_in, with_two, with_three, two_of, results_of}
use Rattle.jz_run_laws.specs.Kinds.{IsOfKinds}
use Rattle.jz_run_laws.specs.DeclaredKinds.{kinds_of}
use Rattle.jz_run_laws.specs.Kept.{IfWent}
use Rattle.jz_run_laws.proofs.Bounds.{IsBelow, cut_below, high_below}
use Rattle.jz_run_laws.proofs.Parts.{AnyOf, went_then, went_any}
use Rattle.jz_run_laws.proofs.Expressions.{StateFits, word_in_below}
use Rattle.jz_run_laws.proofs.Stores.{state_fits}
use Rattle.jz_run_laws.proofs.RightSides.{ResultsFit, two_fit}
use Rattle.jz_row_laws.proofs.Copied.{rm_class}
use Rattle.jz_texts.proofs.Lists.{parted}
use Rattle.jz_texts.proofs.Variables.{layer_vars, vars_rolled}
use Rattle.jz_typed_runs.specs.Causes.{ReadsUnset, IsPart, StandsWithin, in_part, HasNoValue}
use Rattle.jz_typed_runs.specs.Causes as causes
use Rattle.jz_typed_runs.proofs.OperatorCauses.{IfStuck}
use Rattle.jz_stuck_runs.specs.Lacking.{IsLacking}
use Rattle.jz_stuck_runs.proofs.Steps.{Lacks, stuck_any}
use Rattle.jz_stuck_runs.proofs.Expressions.{HasKept, counted_of, word_fine, bool_fine}
use Rattle.jz_stuck_runs.proofs.LeftSides.{IsLeft, fine_holds, fine_flag, AreFine}
use Rattle.jz_stuck_runs.proofs.Updates.{out_bin, flag_truth, sums, carried_by, sum_typed, parts_of, both_kept}
use Rattle.jz_stuck_runs.proofs.Classes.{rmi_no_truth, class_flag}
use Rattle.jz_stuck_runs.proofs.RowPairs.{IsProductRow, PairRow, UpdateRow}
use Rattle.jz_stuck_runs.proofs.RowPairs as rows

-- ---- the operands of what is evaluated
abbrev pub IsTwo : BinOp → Type 0
IsTwo p = (adds p ≡ true) ⊎ (multiplies p ≡ true)

pub data PairOf (w : Expr) (z : Size) : Type 0 where
  two : (p : BinOp) (a b : Expr) (at : Span) → out-Expr w ≡ Expr-F.Bin p a b at → is_flag b ≡ false → IsTwo p → HasType (value a) (place.word z) → HasType (value b) (place.word z) → PairOf w z
  three : (p r : BinOp) (a x y c : Expr) (at inner : Span) → out-Expr w ≡ Expr-F.Bin p a c at → is_flag c ≡ true → out-Expr a ≡ Expr-F.Bin r x y inner → carries p r ≡ true
      → HasType (value x) (place.word z) → HasType (value y) (place.word z) → HasType (value c) truth → PairOf w z

pub arith_of : (p : BinOp) → IsTwo p → group_of p ≡ group.Arith
arith_of o.Add t = refl
arith_of o.Sub t = refl
arith_of o.Mul t = refl
arith_of p (inl t) = absurd (false≢true t)
arith_of p (inr t) = absurd (false≢true t)

pub shift_not : group.Shift ≡ group.Arith → ⊥
shift_not e = cc

-- both operands are words, where the second is no truth
words_of : (p : BinOp) (a b : Expr) (z : Size) → group_of p ≡ group.Arith → (HasType (value b) truth → ⊥) → Operates p (value a) (value b) (place.word z) → HasType (value a) (place.word z) × HasType (value b) (place.word z)
words_of p a b z g n (judged.arithmetic h k m x y) = (x, y)
words_of p a b z g n (judged.carry s k x y) = absurd (n y)
words_of p a b z g n (judged.shift h k m x y) = absurd (shift_not (sym h ∙ g))

no_flag : (b : Expr) (z : Size) (declared : List ℕ → Option Decl) → HasKept declared b → HasType (value b) (place.word z) → is_flag b ≡ false
no_flag b z declared k t = by_test (is_flag b) refl
  where
    by_test : (c : Bool) → is_flag b ≡ c → is_flag b ≡ false
    by_test true e = absurd (flag_truth b (place.word z) (counted_of declared b k) e t)
    by_test false e = e

turned : (p r : BinOp) → carries p r ≡ true → carries r p ≡ true
turned o.Add o.Add e = refl
turned o.Sub o.Sub e = refl
turned p r e = absurd (false≢true e)

sums_two : (p r : BinOp) → carries p r ≡ true → IsTwo p
sums_two o.Add o.Add e = inl refl
sums_two o.Sub o.Sub e = inl refl
sums_two p r e = absurd (false≢true e)

module _ (declared : List ℕ → Option Decl) where
  two_pair : (w : Expr) (p : BinOp) (a b : Expr) (at : Span) (z : Size) → out-Expr w ≡ Expr-F.Bin p a b at → IsTwo p → HasKept declared b → (HasType (value b) truth → ⊥) → Operates p (value a) (value b) (place.word z) → PairOf w z
  two_pair w p a b at z is t k n h = let x = words_of p a b z (arith_of p t) n h in two p a b at is (no_flag b z declared k x.1) t x.0 x.1

  -- `e` itself
  pub value_pair : (e : Expr) (x d : Class) (z : Size) → HasKept declared e → HasType (value e) (place.word z) → PairRow x d e → PairOf e z
  value_pair e x d z k t (rows.sum p a b at is g r m) =
      two_pair e p a b at z is (inl g) (both_kept declared e p a b at is k).1 (rmi_no_truth b m) (parts_of e p a b at (place.word z) is t)
  value_pair e x d z k t (rows.product p a b at u v is eu ev h) =
      two_pair e p a b at z is (inr h.multiplying) (both_kept declared e p a b at is k).1 (rmi_no_truth b (subst (λ c. is_rmi c ≡ true) ev (rm_class v.class h.second))) (parts_of e p a b at (place.word z) is t)
  value_pair e x d z k t (rows.carried p r a b y c at inner is ia g m f n) =
      let kc = (both_kept declared e p a c at is k).1 in
      let s = sums p r g in
      let flag = class_flag c (counted_of declared c kc) f in
      let h = carried_by p a c (place.word z) s.first (counted_of declared c kc) flag (parts_of e p a c at (place.word z) is t) in
      let v = words_of r b y z (arith_of r (sums_two r p (turned p r g))) (rmi_no_truth y n) (parts_of a r b y inner (place.word z) ia h.first) in
      three p r a b y c at inner is flag ia g v.0 v.1 h.second

  -- `r op e`
  update_two : (p : BinOp) (r e : Expr) (at : Span) (z : Size) → HasKept declared e → IsTwo p → (HasType (value e) truth → ⊥) → Operates p (value r) (value e) (place.word z) → PairOf (expr.Bin p r e at) z
  update_two p r e at z k t n h = two_pair (expr.Bin p r e at) p r e at z (out_bin p r e at) t k n h

  chosen_pair : (b : Bool) (p q : BinOp) (r e a c : Expr) (at inner : Span) (z : Size) → (carries p q && is_flag c) ≡ b → out-Expr e ≡ Expr-F.Bin q a c inner → HasKept declared e → IsTwo p → (HasType (value e) truth → ⊥)
      → Operates p (value r) (value e) (place.word z) → PairOf (if b then expr.Bin q (expr.Bin p r a at) c at else expr.Bin p r e at) z
  chosen_pair true p q r e a c at inner z g is k t n h =
      let f = and_parts (carries p q) (is_flag c) g in
      let s = sums p q f.0 in
      let x = words_of p r e z (arith_of p t) n h in
      let i = carried_by q a c (place.word z) s.second (counted_of declared c (both_kept declared e q a c inner is k).1) f.1 (parts_of e q a c inner (place.word z) is x.1) in
      three q p (expr.Bin p r a at) r a c at at (out_bin q (expr.Bin p r a at) c at) f.1 (out_bin p r a at) (turned p q f.0) x.0 i.first i.second
  chosen_pair false p q r e a c at inner z g is k t n h = update_two p r e at z k t n h

  updated_pair : (p : BinOp) (r e : Expr) (at : Span) (z : Size) (l : Layer) → out-Expr e ≡ l → HasKept declared e → IsTwo p → (HasType (value e) truth → ⊥) → Operates p (value r) (value e) (place.word z) → PairOf (updated_layer p r e at l) z
  updated_pair p r e at z (Expr-F.Bin q a c inner) is k t n h = chosen_pair (carries p q && is_flag c) p q r e a c at inner z refl is k t n h
  updated_pair p r e at z (Expr-F.Num m i) is k t n h = update_two p r e at z k t n h
  updated_pair p r e at z (Expr-F.Expr::Bool b i) is k t n h = update_two p r e at z k t n h
  updated_pair p r e at z (Expr-F.Var v) is k t n h = update_two p r e at z k t n h
  updated_pair p r e at z (Expr-F.Cell v i) is k t n h = update_two p r e at z k t n h
  updated_pair p r e at z (Expr-F.Load m) is k t n h = update_two p r e at z k t n h
  updated_pair p r e at z (Expr-F.Neg a i) is k t n h = update_two p r e at z k t n h
  updated_pair p r e at z (Expr-F.Not a i) is k t n h = update_two p r e at z k t n h
  updated_pair p r e at z (Expr-F.Cast y s a i) is k t n h = update_two p r e at z k t n h

  row_two : (x d : Class) (p : BinOp) (e : Expr) → UpdateRow x d p e → IsTwo p
  row_two x d p e (rows.update_sum g r m) = inl g
  row_two x d p e (rows.update_carried q a c at is g r) = sums_two p q g
  row_two x d p e (rows.update_product g r m) = inr g

  row_no_truth : (x d : Class) (p : BinOp) (e : Expr) → UpdateRow x d p e → HasType (value e) truth → ⊥
  row_no_truth x d p e (rows.update_sum g r m) t = rmi_no_truth e m t
  row_no_truth x d p e (rows.update_carried q a c at is g r) t = sum_typed q a c truth (sums p q g).second (parts_of e q a c at truth is t) tt
  row_no_truth x d p e (rows.update_product g r m) t = rmi_no_truth e (rm_class (class_of e) m) t

  pub update_pair : (p : BinOp) (r e : Expr) (at : Span) (z : Size) (x d : Class) → HasKept declared e → UpdateRow x d p e → Operates p (value r) (value e) (place.word z) → PairOf (updated_layer p r e at (out-Expr e)) z
  update_pair p r e at z x d k row h = updated_pair p r e at z (out-Expr e) refl k (row_two x d p e row) (row_no_truth x d p e row) h

-- ---- the reasons of operands
split_vars : (P : Var → Type 0) (e : Expr) (p : BinOp) (a b : Expr) (at : Span) → out-Expr e ≡ Expr-F.Bin p a b at → All P (vars_in e) → All P (vars_in a) × All P (vars_in b)
unfolding layer_vars
split_vars P e p a b at is k = parted P (vars_in a) (vars_in b) (subst (All P) (ap vars_in (sym (roll-out-Expr e)) ∙ vars_rolled (out-Expr e) ∙ ap layer_vars is) k)

lacking_in : (w a : Expr) (s : State) (u : code.Stuck) → IsPart (out-Expr w) a → All (Contains (vars_in w)) (vars_in a) → IsLacking a s u → IsLacking w s u
lacking_in w a s u p all (inl r) =
    inl (record { variable = r.variable; of_part = All-contains (Contains (vars_in w)) (vars_in a) r.variable all r.of_part; unset = r.unset; told = r.told })
lacking_in w a s u p all (inr b) =
    inr (record { operation = b.operation; within = in_part p b.within; operand = b.operand; at = b.at; computes = b.computes; number = b.number; holds = b.holds; told = b.told })

pub lacking_first : (w : Expr) (p : BinOp) (a b : Expr) (at : Span) (s : State) (u : code.Stuck) → out-Expr w ≡ Expr-F.Bin p a b at → IsLacking a s u → IsLacking w s u
lacking_first w p a b at s u is l =
    lacking_in w a s u (subst (λ x. IsPart x a) (sym is) causes.first) (split_vars (Contains (vars_in w)) w p a b at is (All-contains_itself (vars_in w))).0 l

pub lacking_second : (w : Expr) (p : BinOp) (a b : Expr) (at : Span) (s : State) (u : code.Stuck) → out-Expr w ≡ Expr-F.Bin p a b at → IsLacking b s u → IsLacking w s u
lacking_second w p a b at s u is l =
    lacking_in w b s u (subst (λ x. IsPart x b) (sym is) causes.second) (split_vars (Contains (vars_in w)) w p a b at is (All-contains_itself (vars_in w))).1 l

-- ---- two results
there : (C : code.Stuck → Type 0) (p : BinOp) (at : Span) (z : Size) (a b : ℕ) (c : Bool) → IsTwo p → IfStuck C (two_results p at z a b c)
there C o.Add at z a b c t = tt
there C o.Sub at z a b c t = tt
there C o.Mul at z a b c t = tt
there C p at z a b c (inl t) = absurd (false≢true t)
there C p at z a b c (inr t) = absurd (false≢true t)

-- a flag and a word, or two words
abbrev pub SumAt : Size → Results → Type 0
SumAt z (Some (boolean c) ∷ Some (word y a) ∷ []) = y ≡ z
SumAt z vs = ⊥

abbrev pub ProductAt : Size → Results → Type 0
ProductAt z (Some (word x a) ∷ Some (word y b) ∷ []) = (x ≡ z) × (y ≡ z)
ProductAt z vs = ⊥

abbrev pub ResultAt : Bool → Size → Results → Type 0
ResultAt true z vs = ProductAt z vs × ResultsFit vs
ResultAt false z vs = SumAt z vs × ResultsFit vs

result_went : (p : BinOp) (at : Span) (z : Size) (a b : ℕ) (c : Bool) → IsTwo p → a < modulus z → b < modulus z → IfWent (ResultAt (multiplies p) z) (two_results p at z a b c)
result_went o.Add at z a b c t la lb = (refl, two_fit _ _ tt (cut_below z _))
result_went o.Sub at z a b c t la lb = (refl, two_fit _ _ tt (cut_below z _))
result_went o.Mul at z a b c t la lb = ((refl, refl), two_fit _ _ (high_below z a b la lb) (cut_below z (a * b)))
result_went p at z a b c (inl t) la lb = absurd (false≢true t)
result_went p at z a b c (inr t) la lb = absurd (false≢true t)

module _ (declared : List ℕ → Option Decl) (s : State) (h : IsOfKinds (kinds_of declared) s) (w : Expr) (z : Size) (k : HasKept declared w) where
  abbrev D : code.Stuck → Type 0
  D = IsLacking w s

  abbrev f : StateFits s
  f = state_fits (kinds_of declared) s h

  two_fine : (p : BinOp) (a b : Expr) (at : Span) → out-Expr w ≡ Expr-F.Bin p a b at → IsTwo p → HasType (value a) (place.word z) → HasType (value b) (place.word z) → IfStuck (Lacks D) (with_two p a b at z s)
  two_fine p a b at is t x y =
      let kept = both_kept declared w p a b at is k in
      stuck_any (Lacks D) (word_in at z a s) (λ u. and_then (word_in at z b s) (λ v. two_results p at z u v false))
      (word_fine declared s h D at z a kept.0 x (λ r l. lacking_first w p a b at s r is l))
      (λ u. stuck_any (Lacks D) (word_in at z b s) (λ v. two_results p at z u v false)
      (word_fine declared s h D at z b kept.1 y (λ r l. lacking_second w p a b at s r is l)) (λ v. there (Lacks D) p at z u v false t))

  two_went : (p : BinOp) (a b : Expr) (at : Span) → IsTwo p → IfWent (ResultAt (multiplies p) z) (with_two p a b at z s)
  two_went p a b at t =
      went_then (IsBelow z) (ResultAt (multiplies p) z) (word_in at z a s) (λ u. and_then (word_in at z b s) (λ v. two_results p at z u v false)) (word_in_below at z a s f)
      (λ u lu. went_then (IsBelow z) (ResultAt (multiplies p) z) (word_in at z b s) (λ v. two_results p at z u v false) (word_in_below at z b s f)
      (λ v lv. result_went p at z u v false t lu lv))

  abbrev three_operands : BinOp → Expr → Expr → Expr → Span → Evaluation Results
  three_operands p x y c at = and_then (word_in at z x s) (λ u. and_then (word_in at z y s) (λ v. and_then (bool_in at c s) (two_results p at z u v)))

  three_fine : (p r : BinOp) (a x y c : Expr) (at inner : Span) → out-Expr w ≡ Expr-F.Bin p a c at → out-Expr a ≡ Expr-F.Bin r x y inner → IsTwo p → HasType (value x) (place.word z) → HasType (value y) (place.word z)
      → HasType (value c) truth → IfStuck (Lacks D) (three_operands p x y c at)
  three_fine p r a x y c at inner is ia t tx ty tc =
      let outer = both_kept declared w p a c at is k in
      let both = both_kept declared a r x y inner ia outer.0 in
      stuck_any (Lacks D) (word_in at z x s) (λ u. and_then (word_in at z y s) (λ v. and_then (bool_in at c s) (two_results p at z u v)))
      (word_fine declared s h D at z x both.0 tx (λ n l. lacking_first w p a c at s n is (lacking_first a r x y inner s n ia l)))
      (λ u. stuck_any (Lacks D) (word_in at z y s) (λ v. and_then (bool_in at c s) (two_results p at z u v))
      (word_fine declared s h D at z y both.1 ty (λ n l. lacking_first w p a c at s n is (lacking_second a r x y inner s n ia l)))
      (λ v. stuck_any (Lacks D) (bool_in at c s) (two_results p at z u v)
      (bool_fine declared s h D at c outer.1 tc (λ n l. lacking_second w p a c at s n is l)) (λ g. there (Lacks D) p at z u v g t)))

  three_went : (p : BinOp) (x y c : Expr) (at : Span) → IsTwo p → IfWent (ResultAt (multiplies p) z) (three_operands p x y c at)
  three_went p x y c at t =
      went_then (IsBelow z) (ResultAt (multiplies p) z) (word_in at z x s) (λ u. and_then (word_in at z y s) (λ v. and_then (bool_in at c s) (two_results p at z u v))) (word_in_below at z x s f)
      (λ u lu. went_then (IsBelow z) (ResultAt (multiplies p) z) (word_in at z y s) (λ v. and_then (bool_in at c s) (two_results p at z u v)) (word_in_below at z y s f)
      (λ v lv. went_then (AnyOf {A = Bool}) (ResultAt (multiplies p) z) (bool_in at c s) (two_results p at z u v) (went_any (bool_in at c s))
      (λ g n. result_went p at z u v g t lu lv)))

  -- ---- with the operator's own way
  abbrev by_flag : Bool → BinOp → Expr → Expr → Span → Evaluation Results
  by_flag c p a b at = if c then with_three p (out-Expr a) a b at z s else with_two p a b at z s

  three_by : (p r : BinOp) (a x y c : Expr) (at inner : Span) → out-Expr a ≡ Expr-F.Bin r x y inner → carries p r ≡ true → three_operands p x y c at ≡ with_three p (out-Expr a) a c at z s
  three_by p r a x y c at inner ia g =
      sym (ap (λ l. with_three p l a c at z s) ia ∙ ap (λ b. if b then three_operands p x y c at else stuck_at at Init) g)

  -- of what it is the product
  abbrev pub product_of : PairOf w z → Bool
  product_of (two p a b at is e t x y) = multiplies p
  product_of (three p r a x y c at inner is e ia g tx ty tc) = multiplies p

  pub pair_fine : (d c : Lval) (at : Span) → PairOf w z → IfStuck (Lacks D) (results_of (c ∷ d ∷ []) w at (Some z) s)
  pair_fine d c at (two p a b i is e t x y) =
      subst (λ l. IfStuck (Lacks D) (two_of l at (Some z) s)) (sym is)
      (subst (λ g. IfStuck (Lacks D) (by_flag g p a b i)) (sym e) (two_fine p a b i is t x y))
  pair_fine d c at (three p r a x y b i inner is e ia g tx ty tb) =
      subst (λ l. IfStuck (Lacks D) (two_of l at (Some z) s)) (sym is)
      (subst (λ q. IfStuck (Lacks D) (by_flag q p a b i)) (sym e)
      (subst (IfStuck (Lacks D)) (three_by p r a x y b i inner ia g) (three_fine p r a x y b i inner is ia (sums_two p r g) tx ty tb)))

  pub pair_went : (d c : Lval) (at : Span) (v : PairOf w z) → IfWent (ResultAt (product_of v) z) (results_of (c ∷ d ∷ []) w at (Some z) s)
  pair_went d c at (two p a b i is e t x y) =
      subst (λ l. IfWent (ResultAt (multiplies p) z) (two_of l at (Some z) s)) (sym is)
      (subst (λ g. IfWent (ResultAt (multiplies p) z) (by_flag g p a b i)) (sym e) (two_went p a b i t))
  pair_went d c at (three p r a x y b i inner is e ia g tx ty tb) =
      subst (λ l. IfWent (ResultAt (multiplies p) z) (two_of l at (Some z) s)) (sym is)
      (subst (λ q. IfWent (ResultAt (multiplies p) z) (by_flag q p a b i)) (sym e)
      (subst (IfWent (ResultAt (multiplies p) z)) (three_by p r a x y b i inner ia g) (three_went p x y b i (sums_two p r g))))

-- ---- what the left sides get
module _ (declared : List ℕ → Option Decl) (c d : Lval) (z : Size) (w : Option Size) (lc : IsLeft declared c) (ld : IsLeft declared d) (is : w ≡ Some z) where
  pub sum_done : (ws : Results) → IsFlag c → Holds (place.word z) d → SumAt z ws → AreFine declared w (c ∷ d ∷ []) ws
  sum_done (Some (boolean g) ∷ Some (word y a) ∷ []) n m q = (λ t i. fine_flag declared t i c w g lc n, (λ t i. fine_holds declared t i d (place.word z) w (word y a) ld m is q, tt))
  sum_done vs n m q = absurd q

  pub product_done : (ws : Results) → Holds (place.word z) c → Holds (place.word z) d → ProductAt z ws → AreFine declared w (c ∷ d ∷ []) ws
  product_done (Some (word x a) ∷ Some (word y b) ∷ []) n m q =
      (λ t i. fine_holds declared t i c (place.word z) w (word x a) lc n is q.0, (λ t i. fine_holds declared t i d (place.word z) w (word y b) ld m is q.1, tt))
  product_done vs n m q = absurd q
