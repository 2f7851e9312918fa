-- What is added behind statements that are there, form by form.
use Rattle.std.proofs.Common.{◌≡◌, ℕ, List, [], ◌∷◌, ◌++◌, map, length, take, get_or, ◌<◌, ◌+◌, Option, Some, None, Bool, true, false, refl, ap, sym, ◌∙◌, subst, append-nil, append_assoc}
use Rattle.std.specs.Prelude.{ℤ, ◌&&◌, ◌||◌, not, option_map, if◌then◌else◌}
use Rattle.std.specs.List.{list_all}
use Rattle.std.proofs.lemmas.Bool.{and_from}
use Rattle.jz_tree.specs.Span.{Span}
use Rattle.jz_tree.specs.Operators.{carries}
use Rattle.jz_tree.specs.declared.expr.BinOp.{BinOp}
use Rattle.jz_tree.specs.declared.expr.Expr.{Expr}
use Rattle.jz_tree.specs.declared.expr.Expr.TheVariants as expr
use Rattle.jz_tree.specs.declared.expr.Expr.TheOpen.{Expr-F}
use Rattle.jz_tree.specs.declared.expr.Expr.TheViews.{out-Expr, out-Var, out-roll-Expr}
use Rattle.jz_tree.specs.declared.expr.Var.{Var}
use Rattle.jz_tree.specs.declared.stmt.Lval.{Lval}
use Rattle.jz_tree.specs.declared.stmt.Lval.TheVariants as lval
use Rattle.jz_tree.specs.declared.stmt.Rhs.TheVariants as rhs
use Rattle.jz_tree.specs.declared.stmt.Stmt.{Stmt}
use Rattle.jz_tree.specs.declared.stmt.StmtKind.TheVariants as kind
use Rattle.jz_type_names.specs.Kinds.{is_inline}
use Rattle.jz_integers.specs.Integers.{KnownNumbers}
use Rattle.jz_meaning.specs.Trees.{done, op, quiet}
use Rattle.jz_meaning.specs.Assignments.{as_expr, last_left, left_span, whole_of, updated, updated_layer, is_flag, Layer}
use Rattle.jz_meaning.specs.Runs.{block, statement_tree}
use Rattle.jz_meaning.specs.Statements.{Operation, assign, instruction, unset, Block}
use Rattle.jz_meaning.specs.Values.{ref_of}
use Rattle.jz_interp.proofs.Pieces.{assign_is}
use Rattle.jz_change.specs.declared.change.Numbers.TheVariants.{Same}
use Rattle.jz_change.specs.declared.change.Step.{Step}
use Rattle.jz_change.specs.declared.change.Step.TheVariants as step
use Rattle.jz_unroll.specs.Values.{with_values, left_with_values, operation_with_values, InlineNames, has_values, left_has_values, if_has_values, splits, is_split, operation_has_values}
use Rattle.jz_unroll.specs.Unrolling.{with_number, all_unknown, ConditionIs, IsInlineInt, UnrollsOp, stays, vanishes, marked_vars, marked}
use Rattle.jz_unroll.proofs.InlineParts.{inline_bin}
use Rattle.jz_unroll.proofs.Parts.{and_first_false, left_read, IfReadLeft, last_known}
use Rattle.jz_unrolling_values.specs.declared.known.Known.{Known}
use Rattle.jz_unrolling_values.specs.Numbers.{numbers_in, with_number_at, Sets, SetsIf, Went}
use Rattle.jz_unrolling_values.specs.Parts.{HasWhole, StandsApart}
use Rattle.jz_unrolling.specs.Forgetting.{forgotten}
use Rattle.jz_unrolling.specs.Steps.{no_callees, one_item, Becomes, FitsOn, Spares, Adds, AddsStep}
use Rattle.jz_unrolling.proofs.Becoming.{block_append, nothing_becomes, both_become, op_becomes, gone_becomes, mark_becomes}
use Rattle.jz_unrolling.proofs.FitLemmas.{on_both, stays_on, gone_on, mark_on}
use Rattle.jz_unrolling.proofs.ForgetLemmas.{block_splits}
use Rattle.jz_unrolling.proofs.SpareLemmas.{spares_same, spares_both, spares_set, spares_mark}
use Rattle.jz_unrolling_values.proofs.NumberLemmas.{went_none, went_set, went_then}
use Rattle.jz_unrolling_values.proofs.PartLemmas.{ref_name, ref_copy}
use Rattle.std.proofs.lemmas.List.{take_more}

module _ (names : InlineNames) where
  -- ---- one after another

  pub adds_none : (k : Known) (out : List Stmt) → Adds names (block no_callees []) k k out out []
  adds_none k out = record { made = []; added = sym (append-nil out); becomes = nothing_becomes names (numbers_in k); only = λ t e2 h. h; spares = spares_same names (block no_callees []) (numbers_in k); went = went_none k }

  pub adds_both : (f g : Block → Block) (a b c : Known) (o1 o2 o3 : List Stmt) (xs ys : List Step) → ((t : Block) (e : KnownNumbers) → forgotten names (f t) e ≡ forgotten names t (forgotten names (f done) e)) → Adds names f a b o1 o2 xs → Adds names g b c o2 o3 ys → Adds names (λ t. f (g t)) a c o1 o3 (xs ++ ys)
  adds_both f g a b c o1 o2 o3 xs ys splits p q = record {
    made = p.made ++ q.made;
    added = q.added ∙ ap (λ l. l ++ q.made) p.added ∙ append_assoc o1 p.made q.made;
    becomes = both_become names f g (numbers_in a) (numbers_in b) (numbers_in c) p.made q.made xs ys p.becomes q.becomes;
    only = on_both names f g (numbers_in a) (numbers_in b) (numbers_in c) p.only q.only;
    spares = spares_both names f g (numbers_in a) (numbers_in b) (numbers_in c) splits p.spares q.spares;
    went = went_then a b c p.went q.went;
  }

  pub adds_next : (ss : List Stmt) (i : ℕ) (s : Stmt) (a b c : Known) (o1 o2 o3 : List Stmt) (xs ys : List Step) → i < length ss → s ≡ get_or ss i s → Adds names (block no_callees (take i ss)) a b o1 o2 xs → Adds names (statement_tree no_callees s) b c o2 o3 ys
      → Adds names (block no_callees (take (i + 1) ss)) a c o1 o3 (xs ++ ys)
  adds_next ss i s a b c o1 o2 o3 xs ys lt is p q =
      subst (λ f. Adds names f a c o1 o3 (xs ++ ys)) same (adds_both (block no_callees (take i ss)) (statement_tree no_callees s) a b c o1 o2 o3 xs ys (block_splits names (take i ss)) p q)
    where
      more : take (i + 1) ss ≡ take i ss ++ s ∷ []
      more = take_more ss i s lt ∙ ap (λ x. take i ss ++ x ∷ []) (sym is)

      same : (λ t. block no_callees (take i ss) (statement_tree no_callees s t)) ≡ block no_callees (take (i + 1) ss)
      same = (λ j t. sym (block_append (take i ss) (s ∷ []) t) j) ∙ ap (block no_callees) (sym more)

  -- no step behind a mark
  pub adds_no_step : (f : Block → Block) (a b : Known) (o1 o2 : List Stmt) (xs : List Step) → Adds names f a b o1 o2 (xs ++ []) → Adds names f a b o1 o2 xs
  adds_no_step f a b o1 o2 xs h = subst (λ l. Adds names f a b o1 o2 l) (append-nil xs) h

  pub adds_all : (ss : List Stmt) (i : ℕ) (a b : Known) (o1 o2 : List Stmt) (xs : List Step) → take i ss ≡ ss → Adds names (block no_callees (take i ss)) a b o1 o2 xs → Adds names (block no_callees ss) a b o1 o2 xs
  adds_all ss i a b o1 o2 xs e h = subst (λ l. Adds names (block no_callees l) a b o1 o2 xs) e h

  pub adds_as : (f g : Block → Block) (a b : Known) (o1 o2 : List Stmt) (xs : List Step) → f ≡ g → Adds names g a b o1 o2 xs → Adds names f a b o1 o2 xs
  adds_as f g a b o1 o2 xs e h = subst (λ k. Adds names k a b o1 o2 xs) (sym e) h

  -- ---- what stays

  stays_adds : (o o2 : Operation) (k : Known) (out out2 : List Stmt) (s : Stmt) → operation_has_values names (numbers_in k) o ≡ true → o2 ≡ operation_with_values (numbers_in k) o → statement_tree no_callees s ≡ op o2 → out2 ≡ out ++ s ∷ [] → AddsStep names (op o) k k out out2 one_item
  stays_adds o o2 k out out2 s ok q tree add = record {
    made = s ∷ [];
    added = add;
    becomes = op_becomes names o o2 (numbers_in k) s (subst (λ x. UnrollsOp names o (numbers_in k) (x ∷ []) (Same ∷ []) (numbers_in k)) (sym q) (stays ok)) tree;
    only = stays_on names o (numbers_in k) ok;
    spares = spares_same names (op o) (numbers_in k);
    went = went_none k;
  }

  or_true : (a : Bool) → (a || true) ≡ true
  or_true true = refl
  or_true false = refl

  split_none : (to : List Lval) → is_split to None ≡ true
  split_none [] = refl
  split_none (d ∷ []) = refl
  split_none (d ∷ f ∷ ds) = refl

  split_plain : (to : List Lval) (w : Expr) → is_inline w ≡ false → splits (out-Expr w) ≡ true → is_split to (Some w) ≡ true
  split_plain [] w p q = ap (λ b. not b && splits (out-Expr w)) p ∙ q
  split_plain (d ∷ []) w p q = refl
  split_plain (d ∷ f ∷ ds) w p q = ap (λ b. not b && splits (out-Expr w)) p ∙ q

  splits_bin : (o : BinOp) (a b : Expr) (at : Span) → is_inline a ≡ false → splits (out-Expr (expr.Bin o a b at)) ≡ true
  splits_bin o a b at p =
      ap (λ x. splits (out-Expr x)) (sym (expr.rolls-Bin o a b at)) ∙ ap splits (out-roll-Expr (Expr-F.Bin o a b at))
      ∙ ap (λ y. not (is_flag b) || not y) p ∙ or_true (not (is_flag b))

  plain_bin : (o : BinOp) (a b : Expr) (at : Span) → is_inline a ≡ false → is_inline (expr.Bin o a b at) ≡ false
  plain_bin o a b at p = inline_bin o a b at ∙ and_first_false (is_inline a) (is_inline b) p

  split_bin : (to : List Lval) (o : BinOp) (a b : Expr) (at : Span) → is_inline a ≡ false → is_split to (Some (expr.Bin o a b at)) ≡ true
  split_bin to o a b at p = split_plain to (expr.Bin o a b at) (plain_bin o a b at p) (splits_bin o a b at p)

  split_updated : (to : List Lval) (o : BinOp) (d x : Expr) (at : Span) (y : Layer) → is_inline d ≡ false → is_split to (Some (updated_layer o d x at y)) ≡ true
  split_updated to o d x at (Expr-F.Num n p) q = split_bin to o d x at q
  split_updated to o d x at (Expr-F.Expr::Bool b p) q = split_bin to o d x at q
  split_updated to o d x at (Expr-F.Var v) q = split_bin to o d x at q
  split_updated to o d x at (Expr-F.Cell v i) q = split_bin to o d x at q
  split_updated to o d x at (Expr-F.Load a) q = split_bin to o d x at q
  split_updated to o d x at (Expr-F.Neg a p) q = split_bin to o d x at q
  split_updated to o d x at (Expr-F.Not a p) q = split_bin to o d x at q
  split_updated to o d x at (Expr-F.Cast z s a p) q = split_bin to o d x at q
  split_updated to o d x at (Expr-F.Bin p a c inner) q = by_test (carries o p && is_flag c)
    where
      by_test : (t : Bool) → is_split to (Some (if t then expr.Bin p (expr.Bin o d a at) c at else expr.Bin o d x at)) ≡ true
      by_test true = split_bin to p (expr.Bin o d a at) c at (plain_bin o d a at q)
      by_test false = split_bin to o d x at q

  split_whole : (e : KnownNumbers) (to : List Lval) (d : Option Lval) (o : BinOp) (x : Expr) → ((f : Lval) → d ≡ Some f → left_has_values names e f ≡ true) → is_split to (whole_of d (Some o) x) ≡ true
  split_whole e to None o x h = split_none to
  split_whole e to (Some d) o x h = by_expr (as_expr d) (left_read names e d (h d refl))
    where
      by_expr : (a : Option Expr) → IfReadLeft names e a → is_split to (updated a o x (left_span d)) ≡ true
      by_expr None r = split_none to
      by_expr (Some a) r = split_updated to o a x (left_span d) (out-Expr x) r.plain

  split_so : (e : KnownNumbers) (to : List Lval) (o : Option BinOp) (x : Expr) → list_all (left_has_values names e) to ≡ true → StandsApart to o x → is_split to (whole_of (last_left to) o x) ≡ true
  split_so e to None x l h = h
  split_so e to (Some o) x l h = split_whole e to (last_left to) o x (last_known names e to l)

  pub plain_adds : (to to2 : List Lval) (o : Option BinOp) (x x2 : Expr) (c c2 : Option Expr) (at : Span) (k : Known) (out out2 : List Stmt) (s : Stmt) → s.kind ≡ kind.Assign to2 o (rhs.Value x2) c2 → s.span ≡ at
      → to2 ≡ map (left_with_values (numbers_in k)) to → x2 ≡ with_values (numbers_in k) x → c2 ≡ option_map (with_values (numbers_in k)) c
      → list_all (left_has_values names (numbers_in k)) to ≡ true → has_values names (numbers_in k) x ≡ true → if_has_values names (numbers_in k) c ≡ true → StandsApart to o x → out2 ≡ out ++ s ∷ []
      → AddsStep names (op (assign to o x c at)) k k out out2 one_item
  plain_adds to to2 o x x2 c c2 at k out out2 s is place p q r lefts value cond apart add =
      stays_adds (assign to o x c at) (assign to2 o x2 c2 at) k out out2 s
      (and_from (list_all (left_has_values names (numbers_in k)) to) _ lefts (and_from (has_values names (numbers_in k) x) _ value (and_from (if_has_values names (numbers_in k) c) _ cond (split_so (numbers_in k) to o x lefts apart))))
      (ap (λ y. assign y o x2 c2 at) p ∙ ap (λ y. assign (map (left_with_values (numbers_in k)) to) o y c2 at) q ∙ ap (λ y. assign (map (left_with_values (numbers_in k)) to) o (with_values (numbers_in k) x) y at) r)
      (assign_is no_callees s to2 o (rhs.Value x2) c2 is ∙ ap (λ y. op (assign to2 o x2 c2 y)) place) add

  pub instruction_adds : (to to2 : List Lval) (n : List ℕ) (es es2 : List Expr) (at : Span) (k : Known) (out out2 : List Stmt) (s : Stmt) → s.kind ≡ kind.Assign to2 None (rhs.Intrinsic n es2 at) None
      → to2 ≡ map (left_with_values (numbers_in k)) to → es2 ≡ map (with_values (numbers_in k)) es
      → list_all (left_has_values names (numbers_in k)) to ≡ true → list_all (has_values names (numbers_in k)) es ≡ true → out2 ≡ out ++ s ∷ []
      → AddsStep names (op (instruction to n es at)) k k out out2 one_item
  instruction_adds to to2 n es es2 at k out out2 s is p q lefts args add =
      stays_adds (instruction to n es at) (instruction to2 n es2 at) k out out2 s
      (and_from (list_all (left_has_values names (numbers_in k)) to) _ lefts args)
      (ap (λ y. instruction y n es2 at) p ∙ ap (λ y. instruction (map (left_with_values (numbers_in k)) to) n y at) q)
      (assign_is no_callees s to2 None (rhs.Intrinsic n es2 at) None is) add

  -- ---- what vanishes

  gone_adds : (o : Operation) (old new : Known) (out : List Stmt) → UnrollsOp names o (numbers_in old) [] [] (numbers_in new) → FitsOn names (op o) (numbers_in old) (numbers_in new) → Spares names (op o) (numbers_in old) (numbers_in new) → Went old new → AddsStep names (op o) old new out out (step.Ops [])
  gone_adds o old new out rule only spared w = record { made = []; added = sym (append-nil out); becomes = gone_becomes names o (numbers_in old) (numbers_in new) rule; only = only; spares = spared; went = w }

  pub set_adds : (v : Var) (o : Option BinOp) (x : Expr) (c : Option Expr) (at : Span) (n : ℤ) (old new : Known) (out : List Stmt) (m : List ℕ) (d : ℕ) → IsInlineInt names v → HasWhole (numbers_in old) v o x n → ConditionIs (numbers_in old) v c true → m ≡ (ref_of v).name → d ≡ (ref_of v).copy → Sets old new m d (Some n)
      → AddsStep names (op (assign (lval.Var v ∷ []) o x c at)) old new out out (step.Ops [])
  set_adds v o x c at n old new out m d inline whole cond p q sets =
      let e = numbers_in old in
      let is : numbers_in new ≡ with_number e v (Some n) = sets.numbers ∙ ap (λ y. with_number_at e y d (Some n)) p ∙ ap (λ y. with_number_at e (ref_of v).name y (Some n)) q in
      gone_adds (assign (lval.Var v ∷ []) o x c at) old new out
      (subst (λ k. UnrollsOp names (assign (lval.Var v ∷ []) o x c at) e [] [] k) (sym is) (vanishes true inline whole.1 whole.2 cond))
      (gone_on names v o x c at e (numbers_in new) n true inline.named whole cond (sym is))
      (subst (λ k. Spares names (op (assign (lval.Var v ∷ []) o x c at)) e k) (sym is) (spares_set names v o x c at e (Some n) inline.named))
      (went_set old new m d (Some n) sets)

  pub unset_adds : (v : Var) (o : Option BinOp) (x : Expr) (c : Option Expr) (at : Span) (n : ℤ) (old : Known) (out : List Stmt) → IsInlineInt names v → HasWhole (numbers_in old) v o x n → ConditionIs (numbers_in old) v c false
      → AddsStep names (op (assign (lval.Var v ∷ []) o x c at)) old old out out (step.Ops [])
  unset_adds v o x c at n old out inline whole cond =
      gone_adds (assign (lval.Var v ∷ []) o x c at) old old out (vanishes false inline whole.1 whole.2 cond)
      (gone_on names v o x c at (numbers_in old) (numbers_in old) n false inline.named whole cond refl) (spares_same names (op (assign (lval.Var v ∷ []) o x c at)) (numbers_in old)) (went_none old)

  pub number_adds : (v : Var) (o : Option BinOp) (x : Expr) (c : Option Expr) (at : Span) (n : ℤ) (old new : Known) (out : List Stmt) (b : Bool) → IsInlineInt names v → HasWhole (numbers_in old) v o x n → ConditionIs (numbers_in old) v c b → SetsIf b old new v n
      → AddsStep names (op (assign (lval.Var v ∷ []) o x c at)) old new out out (step.Ops [])
  number_adds v o x c at n old new out true inline whole cond sets =
      set_adds v o x c at n old new out (out-Var v).name (out-Var v).copy inline whole cond (sym (ref_name v)) (sym (ref_copy v)) sets
  number_adds v o x c at n old new out false inline whole cond same =
      subst (λ k. AddsStep names (op (assign (lval.Var v ∷ []) o x c at)) old k out out (step.Ops [])) (sym same) (unset_adds v o x c at n old out inline whole cond)

  -- ---- marks

  pub mark_adds : (vs ws : List Var) (old new : Known) (out out2 : List Stmt) (s : Stmt) → s.kind ≡ kind.Mark ws → ws ≡ marked_vars names vs → numbers_in new ≡ all_unknown (numbers_in old) vs → Went old new → out2 ≡ out ++ s ∷ []
      → Adds names (quiet (unset vs)) old new out out2 []
  mark_adds vs ws old new out out2 s is p q w add = record {
    made = s ∷ [];
    added = add;
    becomes =
        subst (λ e. Becomes names (quiet (unset vs)) (numbers_in old) (s ∷ []) e []) (sym q)
        (mark_becomes names vs (marked_vars names vs) (numbers_in old) (all_unknown (numbers_in old) vs) s marked (is ∙ ap kind.Mark p));
    only = subst (λ e. FitsOn names (quiet (unset vs)) (numbers_in old) e) (sym q) (mark_on names vs (numbers_in old));
    spares = subst (λ e. Spares names (quiet (unset vs)) (numbers_in old) e) (sym q) (spares_mark names vs (numbers_in old));
    went = w;
  }
