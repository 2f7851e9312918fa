-- The parts of statements one after another, with those that have operations and the first that has none.
use Rattle.std.proofs.Common.{◌≡◌, ℕ, ◌+◌, ◌<◌, ◌≤◌, Bool, true, false, List, [], ◌∷◌, ◌++◌, map, length, take, drop, get_or, Option, Some, None, refl, sym, ap, ◌∙◌, subst, append_assoc, append-nil}
use Rattle.std.specs.Prelude.{All}
use Rattle.std.proofs.lemmas.List.{take_more, take_all, take-append-drop, drop_more}
use Rattle.std.proofs.lemmas.List.Elements.{All-nil, All-cons, All-append}
use Rattle.jz_tree.specs.Span.{Span}
use Rattle.jz_tree.specs.declared.expr.BinOp.{BinOp}
use Rattle.jz_tree.specs.declared.expr.Expr.{Expr}
use Rattle.jz_tree.specs.declared.expr.Expr.TheVariants as expr
use Rattle.jz_tree.specs.declared.expr.Expr.TheOpen.{Expr-F}
use Rattle.jz_tree.specs.declared.expr.Expr.TheViews.{out-Expr}
use Rattle.jz_tree.specs.declared.stmt.Lval.{Lval}
use Rattle.jz_tree.specs.declared.stmt.Rhs.TheVariants as rhs
use Rattle.jz_tree.specs.declared.stmt.Stmt.{Stmt}
use Rattle.jz_tree.specs.declared.stmt.StmtKind.{StmtKind}
use Rattle.jz_tree.specs.declared.stmt.StmtKind.TheOpen.{StmtKind-F, Stmt-F}
use Rattle.jz_tree.specs.declared.stmt.StmtKind.TheViews.{roll-Stmt, roll-StmtKind}
use Rattle.jz_tree.specs.declared.stmt.StmtKind.TheFolds.{fold-roll-Stmt, fold-roll-StmtKind, ind-Stmt, map-Stmt, map-StmtKind}
use Rattle.jz_runs.specs.Trees.{done}
use Rattle.jz_meaning.specs.Statements.{Block, Condition, assign, instruction, meaningless}
use Rattle.jz_meaning.specs.Assignments.{Layer}
use Rattle.jz_meaning.specs.Runs.{in_order, instruction_tree, block, statement_tree, kind_tree}
use Rattle.jz_homes.specs.Homes.{Homes}
use Rattle.jz_operations.specs.declared.operation.Operation.{Operation}
use Rattle.jz_placing.specs.Variables.{Asked}
use Rattle.jz_change.specs.declared.change.Numbers.{Numbers}
use Rattle.jz_row_operations.specs.Lowering.{tests, tests_each, never_false}
use Rattle.jz_one_row.proofs.Outs.{out_bool}
use Rattle.jz_flag_rows.specs.Results.{begins_at}
use Rattle.jz_flag_rows.specs.Conditions.{asks_flag}
use Rattle.jz_flag_rows.proofs.Apart.{no_truth}
use Rattle.jz_every_row.specs.Statements.{Makes, by_row, by_flags, MakesTest, by_comparison, by_flag, MakesLoopTest, by_loop_test, by_loop_flag}
use Rattle.jz_total_flags.specs.Ready.{HasOperations, HasTest, HasLoopTest}
use Rattle.jz_rows.proofs.SettingRefusals.{truth_never}
use Rattle.jz_rows.specs.declared.row.Row.{Row}
use Rattle.jz_rows.specs.Rows.{items_of, operations_at, IsRowOf, NeverCompares, NeverLowers}
use Rattle.jz_pinned_rows.specs.declared.row.PinnedRow.{PinnedRow}
use Rattle.jz_pinned_rows.specs.Rows.{items_of as pinned_items, operations_at as pinned_at, IsPinnedRow, NeverPinned, NeverFlag}
use Rattle.jz_instructions.specs.Rows.{IsInstructionRow, NeverInstruction}
use Rattle.jz_lowering.specs.Becoming.{no_callees}
use Rattle.jz_lowering.specs.Parts.{Part, does, asks, asks_each, counts, parts_in, StandsAt, an_assignment, an_instruction, a_call, HasCode, IsFirstWithout}
use Rattle.jz_lowering.specs.InnerParts.{kind_piece}

-- ---- a piece before whatever follows
abbrev Before : (Block → Block) → Type 0
Before piece = (r : Block) → parts_in (piece r) ≡ parts_in (piece done) ++ parts_in r

abbrev StmtLaw : Stmt → Type 0
StmtLaw s = Before (statement_tree no_callees s)

abbrev KindLaw : StmtKind → Type 0
KindLaw k = (at : Span) → Before (kind_piece k at)

abbrev Kinds : Type 0
Kinds = StmtKind-F ((k : StmtKind) × KindLaw k) ((s : Stmt) × StmtLaw s)

abbrev bare : Kinds → StmtKind-F StmtKind Stmt
bare y = map-StmtKind _ _ _ _ (λ e. e.0) (λ e. e.0) y

abbrev firsts : List ((s : Stmt) × StmtLaw s) → List Stmt
firsts ss = map (λ e. e.0) ss

behind_two : {A : Type 0} (xs ys zs : List A) → xs ++ (ys ++ zs) ≡ (xs ++ (ys ++ [])) ++ zs
behind_two xs ys zs = sym (append_assoc xs ys zs) ∙ ap (λ l. (xs ++ l) ++ zs) (sym (append-nil ys))

behind_one : {A : Type 0} (xs zs : List A) → xs ++ zs ≡ (xs ++ []) ++ zs
behind_one xs zs = ap (λ l. l ++ zs) (sym (append-nil xs))

instruction_before : (to : List Lval) (o : Option BinOp) (n : List ℕ) (args : List Expr) (c : Option Expr) (at : Span) → Before (instruction_tree to o n args c at)
instruction_before to None n args None at r = refl
instruction_before to None n args (Some c) at r = refl
instruction_before to (Some o) n args c at r = refl

layer_law : (y : Kinds) (at : Span) → Before (kind_tree no_callees (map-StmtKind _ _ (Span → Block → Block) (Block → Block) kind_piece (statement_tree no_callees) (bare y)) at)
layer_law (StmtKind-F.Assign to o (rhs.Value e) c) at r = refl
layer_law (StmtKind-F.Assign to o (rhs.Call n args place) c) at r = refl
layer_law (StmtKind-F.Assign to o (rhs.Intrinsic n args place) c) at r = instruction_before to o n args c place r
layer_law (StmtKind-F.If c a b) at r = ap (λ l. asks (record { cond = c; at = at }) ∷ l) (behind_two _ _ (parts_in r))
layer_law (StmtKind-F.While p c None) at r = ap (λ l. asks_each (record { cond = c; at = at }) ∷ l) (behind_two (parts_in (in_order (map (statement_tree no_callees) (firsts p)) done)) [] (parts_in r))
layer_law (StmtKind-F.While p c (Some b)) at r = ap (λ l. asks_each (record { cond = c; at = at }) ∷ l) (behind_two _ _ (parts_in r))
layer_law (StmtKind-F.For i from down to b) at r = ap (λ l. counts (record { counter = i; from = from; down = down; to = to; at = at }) ∷ l) (behind_one _ (parts_in r))
layer_law (StmtKind-F.Mark vs) at r = refl

kind_case : (y : Kinds) → KindLaw (roll-StmtKind (bare y))
kind_case y at = subst Before (sym (ap (λ f. f at) (fold-roll-StmtKind _ _ (kind_tree no_callees) (λ s. s.kind s.span) (bare y)))) (layer_law y at)

stmt_case : (y : Stmt-F ((k : StmtKind) × KindLaw k) ((s : Stmt) × StmtLaw s)) → StmtLaw (roll-Stmt (map-Stmt _ _ StmtKind Stmt (λ e. e.0) (λ e. e.0) y))
stmt_case y =
    let x = map-Stmt _ _ StmtKind Stmt (λ e. e.0) (λ e. e.0) y in
    subst Before (sym (fold-roll-Stmt _ _ (kind_tree no_callees) (λ s. s.kind s.span) x)) (y.kind.1 y.span)

statement_before : (s : Stmt) → StmtLaw s
statement_before =
    ind-Stmt KindLaw StmtLaw
    (λ x y is. subst (λ z. KindLaw (roll-StmtKind z)) is (kind_case y))
    (λ x y is. subst (λ z. StmtLaw (roll-Stmt z)) is (stmt_case y))

abbrev pub parts_of : List Stmt → List Part
parts_of ss = parts_in (block no_callees ss done)

abbrev pub parts_at : Stmt → List Part
parts_at s = parts_in (statement_tree no_callees s done)

both_parts : (xs ys : List Stmt) → parts_of (xs ++ ys) ≡ parts_of xs ++ parts_of ys
both_parts [] ys = refl
both_parts (x ∷ xs) ys =
    statement_before x (block no_callees (xs ++ ys) done) ∙ ap (λ l. parts_at x ++ l) (both_parts xs ys) ∙ sym (append_assoc (parts_at x) (parts_of xs) (parts_of ys))
    ∙ ap (λ l. l ++ parts_of ys) (sym (statement_before x (block no_callees xs done)))

one_part : (s : Stmt) → parts_of (s ∷ []) ≡ parts_at s
one_part s = refl

module _ (home : Homes) where
  abbrev AllCode : List Part → Type 0
  AllCode ps = All (HasCode home) ps

  pub later : (xs ys zs : List Part) (at : Span) → AllCode xs → IsFirstWithout home ys at → IsFirstWithout home (xs ++ (ys ++ zs)) at
  later xs ys zs at all f = record {
    front = xs ++ f.front;
    part = f.part;
    back = f.back ++ zs;
    split =
        ap (λ l. xs ++ (l ++ zs)) f.split ∙ ap (λ l. xs ++ l) (append_assoc f.front (f.part ∷ f.back) zs)
        ∙ sym (append_assoc xs f.front (f.part ∷ (f.back ++ zs)));
    before = All-append (HasCode home) xs f.front all f.before;
    none = f.none;
    stands = f.stands;
  }

  pub first : (p : Part) (zs : List Part) (at : Span) → (HasCode home p → ⊥) → StandsAt p at → IsFirstWithout home (p ∷ zs) at
  first p zs at none stands = record { front = []; part = p; back = zs; split = refl; before = All-nil (HasCode home); none = none; stands = stands }

  pub parts_as : (ps qs : List Part) (at : Span) → qs ≡ ps → IsFirstWithout home ps at → IsFirstWithout home qs at
  parts_as ps qs at e h = subst (λ l. IsFirstWithout home l at) (sym e) h

  pub code_as : (ps qs : List Part) → qs ≡ ps → AllCode ps → AllCode qs
  code_as ps qs e h = subst AllCode (sym e) h

  -- ---- statements one after another
  pub no_statement : AllCode (parts_of [])
  no_statement = All-nil (HasCode home)

  pub next_statement : (ss : List Stmt) (i : ℕ) (s : Stmt) → i < length ss → s ≡ get_or ss i s → AllCode (parts_of (take i ss)) → AllCode (parts_at s) → AllCode (parts_of (take (i + 1) ss))
  next_statement ss i s lt is h k =
      let more : take (i + 1) ss ≡ take i ss ++ s ∷ [] = take_more ss i s lt ∙ ap (λ x. take i ss ++ x ∷ []) (sym is) in
      code_as (parts_of (take i ss) ++ parts_at s) (parts_of (take (i + 1) ss)) (ap parts_of more ∙ both_parts (take i ss) (s ∷ []))
      (All-append (HasCode home) (parts_of (take i ss)) (parts_at s) h k)

  pub refused_statement : (ss : List Stmt) (i : ℕ) (s : Stmt) (at : Span) → i < length ss → s ≡ get_or ss i s → AllCode (parts_of (take i ss)) → IsFirstWithout home (parts_at s) at → IsFirstWithout home (parts_of ss) at
  refused_statement ss i s at lt is h f =
      let whole : ss ≡ take i ss ++ (s ∷ drop (i + 1) ss) = sym (take-append-drop i ss) ∙ ap (λ l. take i ss ++ l) (drop_more ss i s lt ∙ ap (λ x. x ∷ drop (i + 1) ss) (sym is)) in
      parts_as (parts_of (take i ss) ++ (parts_at s ++ parts_of (drop (i + 1) ss))) (parts_of ss) at
      (ap parts_of whole ∙ both_parts (take i ss) (s ∷ drop (i + 1) ss) ∙ ap (λ l. parts_of (take i ss) ++ l) (both_parts (s ∷ []) (drop (i + 1) ss)))
      (later (parts_of (take i ss)) (parts_at s) (parts_of (drop (i + 1) ss)) at h f)

  pub all_statements : (ss : List Stmt) (i : ℕ) → length ss ≤ i → AllCode (parts_of (take i ss)) → AllCode (parts_of ss)
  all_statements ss i e h = subst (λ l. AllCode (parts_of l)) (take_all i ss e) h

  -- ---- a test before two bodies
  pub test_code : (p : Part) (xs ys : List Part) → HasCode home p → AllCode xs → AllCode ys → AllCode (p ∷ (xs ++ (ys ++ [])))
  test_code p xs ys h a b = All-cons (HasCode home) p (xs ++ (ys ++ [])) h (All-append (HasCode home) xs (ys ++ []) a (All-append (HasCode home) ys [] b (All-nil (HasCode home))))

  pub first_body : (p : Part) (xs ys : List Part) (at : Span) → HasCode home p → IsFirstWithout home xs at → IsFirstWithout home (p ∷ (xs ++ (ys ++ []))) at
  first_body p xs ys at h f = later (p ∷ []) xs (ys ++ []) at (All-cons (HasCode home) p [] h (All-nil (HasCode home))) f

  pub second_body : (p : Part) (xs ys : List Part) (at : Span) → HasCode home p → AllCode xs → IsFirstWithout home ys at → IsFirstWithout home (p ∷ (xs ++ (ys ++ []))) at
  second_body p xs ys at h a f = later (p ∷ xs) ys [] at (All-cons (HasCode home) p xs h a) f

  -- ---- what has no operations at all
  no_call : (at : Span) (os : List Operation) (is : List Numbers) → Makes home (meaningless at) os is → ⊥
  no_call at os is (by_row h) = elim h [ ]
  no_call at os is (by_flags h) = elim h [ ]

  pub call_refused : (at : Span) → IsFirstWithout home (does (meaningless at) ∷ []) at
  call_refused at = first (does (meaningless at)) [] at (λ h. no_call at h.0 h.1 h.2) (a_call at)

  no_instruction : (to : List Lval) (n : List ℕ) (args : List Expr) (at : Span) → NeverInstruction home to n args → HasOperations home (instruction to n args at) → ⊥
  no_instruction to n args at none h = by h.0 h.1 h.2
    where
      by : (os : List Operation) (is : List Numbers) → Makes home (instruction to n args at) os is → ⊥
      by os is (by_row k) = elim k [ ]
      by os is (by_flags k) = none at os is k

  pub instruction_refused : (to : List Lval) (n : List ℕ) (args : List Expr) (at : Span) → NeverInstruction home to n args → IsFirstWithout home (does (instruction to n args at) ∷ []) (begins_at to at)
  instruction_refused to n args at none = first (does (instruction to n args at)) [] (begins_at to at) (no_instruction to n args at none) (an_instruction to n args at)

  pub instruction_code : (to : List Lval) (n : List ℕ) (args : List Expr) (at : Span) (r : PinnedRow) → IsInstructionRow home to n args r → AllCode (does (instruction to n args at) ∷ [])
  instruction_code to n args at r h =
      All-cons (HasCode home) (does (instruction to n args at)) [] (pinned_at (begins_at to at) r, pinned_items r.acts, by_flags (h at)) (All-nil (HasCode home))

  -- an intrinsic with `op=` or a condition
  pub updated_refused : (to : List Lval) (p : BinOp) (n : List ℕ) (args : List Expr) (c : Option Expr) (at : Span) → IsFirstWithout home (parts_in (instruction_tree to (Some p) n args c at done)) at
  updated_refused to p n args c at = call_refused at

  pub chosen_refused : (to : List Lval) (n : List ℕ) (args : List Expr) (c : Expr) (at : Span) → IsFirstWithout home (parts_in (instruction_tree to None n args (Some c) at done)) at
  chosen_refused to n args c at = call_refused at

  no_assignment : (to : List Lval) (o : Option BinOp) (e : Expr) (c : Option Expr) (at : Span) → NeverLowers home to o e c → NeverPinned home to o e c → HasOperations home (assign to o e c at) → ⊥
  no_assignment to o e c at none other h = by h.0 h.1 h.2
    where
      by : (os : List Operation) (is : List Numbers) → Makes home (assign to o e c at) os is → ⊥
      by os is (by_row k) = none at os is k
      by os is (by_flags k) = other at os is k

  pub assignment_refused : (to : List Lval) (o : Option BinOp) (e : Expr) (c : Option Expr) (at : Span) → NeverLowers home to o e c → NeverPinned home to o e c → IsFirstWithout home (does (assign to o e c at) ∷ []) at
  assignment_refused to o e c at none other = first (does (assign to o e c at)) [] at (no_assignment to o e c at none other) (an_assignment to o e c at)

  pub assignment_code : (to : List Lval) (o : Option BinOp) (e : Expr) (c : Option Expr) (at : Span) (r : Row) → IsRowOf home to o e c r → AllCode (does (assign to o e c at) ∷ [])
  assignment_code to o e c at r h = All-cons (HasCode home) (does (assign to o e c at)) [] (operations_at at r, items_of r, by_row (h at)) (All-nil (HasCode home))

  pub pinned_code : (to : List Lval) (o : Option BinOp) (e : Expr) (c : Option Expr) (at : Span) (r : PinnedRow) → IsPinnedRow home to o e c r → AllCode (does (assign to o e c at) ∷ [])
  pinned_code to o e c at r h = All-cons (HasCode home) (does (assign to o e c at)) [] (pinned_at at r, pinned_items r.acts, by_flags (h at)) (All-nil (HasCode home))

  -- ---- tests
  pub no_test : (t : Condition) → NeverCompares home t.cond → NeverFlag home t.cond → HasTest home t → ⊥
  no_test t none other h = by h.0 h.1 h.2
    where
      by : (a : Asked) (i : Numbers) → MakesTest home t a i → ⊥
      by a i (by_comparison (tests {compare = o} {c} {p} {q} f)) = none t.at o c p q f
      by a i (by_flag (asks_flag {n} {d} f)) = other n d f

  pub no_loop_test : (t : Condition) → (HasTest home t → ⊥) → ((here : Span) → t.cond ≡ expr.Bool true here → ⊥) → HasLoopTest home t → ⊥
  no_loop_test t none truth h = by h.0 h.1 h.2
    where
      by : (a : Asked) (i : Numbers) → MakesLoopTest home t a i → ⊥
      by a i (by_loop_test (tests_each f)) = none (a, i, by_comparison f)
      by a i (by_loop_test (never_false here e)) = truth here e
      by a i (by_loop_flag f) = none (a, i, by_flag f)

  truths_differ : (e : Expr) (here there : Span) → e ≡ expr.Bool false here → e ≡ expr.Bool true there → ⊥
  truths_differ e here there f g = let s : ◌≡◌ {A = Layer} (Expr-F.Expr::Bool false here) (Expr-F.Expr::Bool true there) = sym (out_bool false here) ∙ ap out-Expr (sym f ∙ g) ∙ out_bool true there in absurd cc

  pub false_refused : (t : Condition) (here : Span) → t.cond ≡ expr.Bool false here → HasLoopTest home t → ⊥
  false_refused t here e =
      no_loop_test t (no_test t (subst (NeverCompares home) (sym e) (truth_never home false here)) (λ n d f. no_truth home t.cond false n d here e f)) (λ there f. truths_differ t.cond here there e f)
