-- In a typed program each statement that needs a row has one, and so have the copies of calls.
use Rattle.std.proofs.Common.{◌≡◌, Bool, true, false, not, ◌||◌, List, [], ◌∷◌, ◌++◌, Option, Some, None, flat_map, refl, sym, subst}
use Rattle.std.specs.Prelude.{All, is_some}
use Rattle.std.specs.List.{list_all, zip}
use Rattle.std.proofs.lemmas.Bool.{false≢true, true≢false, and_parts}
use Rattle.std.proofs.lemmas.List.Elements.{All-nil, All-cons}
use Rattle.jz_tree.specs.Span.{Span}
use Rattle.jz_tree.specs.declared.expr.Expr.{Expr}
use Rattle.jz_tree.specs.declared.stmt.Lval.{Lval}
use Rattle.jz_tree.specs.declared.stmt.Rhs.TheVariants as rhs
use Rattle.jz_tree.specs.declared.stmt.Stmt.{Stmt}
use Rattle.jz_tree.specs.declared.stmt.StmtKind.{StmtKind}
use Rattle.jz_tree.specs.declared.stmt.StmtKind.TheOpen.{StmtKind-F}
use Rattle.jz_tree.specs.declared.program.Fun.{Fun}
use Rattle.jz_tree.specs.declared.program.Program.{Program}
use Rattle.jz_type_rows.specs.Pattern.{Pattern}
use Rattle.jz_type_rows.specs.Selected.{IsSelected, IsCopied, pattern_selected, pattern_copied}
use Rattle.jz_type_rows.proofs.FirstRow.{is_selected, is_copied}
use Rattle.jz_type_names.specs.Order.{earliest}
use Rattle.jz_type_names.specs.Scopes.{constant_place, variable_place, or_values}
use Rattle.jz_type_names.specs.Parts.{Layer, layer_of, statements_of, is_skip}
use Rattle.jz_type_names.specs.Names.{unknown_where, repeated_by, unknown_in, repeated_in}
use Rattle.jz_resolve.specs.Numbering.{length_of}
use Rattle.jz_resolve.specs.Programs.{resolved_program}
use Rattle.jz_type_sizes.specs.Calls.{returned_wrong}
use Rattle.jz_type_sizes.specs.Mismatches.{among, stmt_wrong, body_wrong, mismatched_as_read, mismatched_declared}
use Rattle.jz_type_rows.specs.declared.callee.Callee.{Callee}
use Rattle.jz_type_rows.specs.Callees.{callee_by}
use Rattle.jz_type_rows.specs.Copies as copies
use Rattle.jz_type_rows.specs.Indexes.{indexed_by}
use Rattle.jz_type_rows.specs.Programs.{of_statement, in_body, in_statements}
use Rattle.jz_type_rows.specs.Matching.{needs_row, has_row, has_copy, is_word_left, is_word_value, enters, leaves, has_copies, has_rows, unmatched_places}
use Rattle.jz_types.specs.Rows.{others, unmatched_at, unmatched_in_fun, unmatched_in}
use Rattle.jz_types.specs.Rules.{IsTyped}
use Rattle.jz_types.specs.declared.fault.TypeRule.TheVariants.{Unknown, Duplicate, Mismatch, NoInstruction, ArrayCopy, RegIndex}
use Rattle.jz_types.specs.Guarantees.{Enters, Leaves, HasCopies, HasRows}
use Rattle.jz_type_names.proofs.Empty.{both, joined, passed, all_empty, no_member}
use Rattle.jz_types.proofs.ProgramsKept.{KnownIn, DifferentIn, all_known, all_different}

-- ---- what the tests say
some_of : {A : Type 0} (o : Option A) → is_some o ≡ true → (a : A) × (o ≡ Some a)
some_of None e = absurd (false≢true e)
some_of (Some a) e = (a, refl)

row_of : (k : StmtKind) → has_row k ≡ true → (p : Pattern) × IsSelected k (Some p)
unfolding pattern_selected
row_of k e = let some = some_of (pattern_selected k) e in (some.0, is_selected k (Some some.0) (sym some.1))

copy_of : (d : Lval) (e : Expr) → has_copy d e ≡ true → (p : Pattern) × IsCopied d e (Some p)
unfolding pattern_copied
copy_of d e h = let some = some_of (pattern_copied d e) h in (some.0, is_copied d e (Some some.0) (sym some.1))

second_of : (a b : Bool) → (not a || b) ≡ true → a ≡ true → b ≡ true
second_of true b h e = h
second_of false b h e = absurd (false≢true e)

other_of : (a b : Bool) → (a || b) ≡ true → a ≡ false → b ≡ true
other_of true b h e = absurd (true≢false e)
other_of false b h e = h

enters_so : (a : Lval × Expr) → enters a ≡ true → Enters a
enters_so a h = λ e. copy_of a.0 a.1 (second_of (is_word_left a.0) (has_copy a.0 a.1) h e)

leaves_so : (r : Expr × Lval) → leaves r ≡ true → Leaves r
leaves_so r h = λ e s. copy_of r.1 r.0 (other_of (is_skip r.1) (has_copy r.1 r.0) (second_of (is_word_value r.0) (is_skip r.1 || has_copy r.1 r.0) h e) s)

all_so : {A : Type 0} (test : A → Bool) (P : A → Type 0) → ((a : A) → test a ≡ true → P a) → (as' : List A) → list_all test as' ≡ true → All P as'
all_so test P so [] h = All-nil P
all_so test P so (a ∷ as') h = let parts = and_parts (test a) (list_all test as') h in All-cons P a as' (so a parts.0) (all_so test P so as' parts.1)

copies_so : (g : Option Callee) (k : Layer) → has_copies g k ≡ true → HasCopies g k
copies_so None (StmtKind-F.Assign to op (rhs.Value e) cond) h = tt
copies_so None (StmtKind-F.Assign to op (rhs.Call n args at) cond) h = tt
copies_so None (StmtKind-F.Assign to op (rhs.Intrinsic n args at) cond) h = tt
copies_so None (StmtKind-F.If c a b) h = tt
copies_so None (StmtKind-F.While p c b) h = tt
copies_so None (StmtKind-F.For i from down to b) h = tt
copies_so None (StmtKind-F.Mark vs) h = tt
copies_so (Some g) (StmtKind-F.Assign to op (rhs.Call n args at) cond) h =
    let parts = and_parts (list_all enters (zip g.entered args)) (list_all leaves (zip g.left to)) h in
    (all_so enters Enters enters_so (zip g.entered args) parts.0, all_so leaves Leaves leaves_so (zip g.left to) parts.1)
copies_so (Some g) (StmtKind-F.Assign to op (rhs.Value e) cond) h = tt
copies_so (Some g) (StmtKind-F.Assign to op (rhs.Intrinsic n args at) cond) h = tt
copies_so (Some g) (StmtKind-F.If c a b) h = tt
copies_so (Some g) (StmtKind-F.While p c b) h = tt
copies_so (Some g) (StmtKind-F.For i from down to b) h = tt
copies_so (Some g) (StmtKind-F.Mark vs) h = tt

rows_so : (fs : List Fun) (s : Stmt) → has_rows (callee_by fs (layer_of s)) s ≡ true → HasRows fs s
rows_so fs s h =
    let parts = and_parts (not (needs_row (layer_of s)) || has_row s.kind) (has_copies (callee_by fs (layer_of s)) (layer_of s)) h in
    (λ e. row_of s.kind (second_of (needs_row (layer_of s)) (has_row s.kind) parts.0 e), copies_so (callee_by fs (layer_of s)) (layer_of s) parts.1)

-- ---- a statement of which no other fault is told
asked : (callee : Option Callee) (xs : List Span) (s : Stmt) → xs ≡ [] → unmatched_places callee (is_some (earliest xs)) s ≡ [] → has_rows callee s ≡ true
asked callee xs s e h = passed (has_rows callee s) s.span (subst (λ ys. unmatched_places callee (is_some (earliest ys)) s ≡ []) e h)

module _ (p : Program) (typed : IsTyped p) where
  abbrev q : Program
  q = resolved_program p

  unknown : unknown_in p ≡ []
  unknown = no_member (unknown_in p) (λ at c. typed Unknown at c)

  different : repeated_in p ≡ []
  different = no_member (repeated_in p) (λ at c. typed Duplicate at c)

  matched : mismatched_declared q ≡ []
  matched = (both (mismatched_as_read (length_of p.consts) p) (mismatched_declared q) (no_member (mismatched_as_read (length_of p.consts) p ++ mismatched_declared q) (λ at c. typed Mismatch at c))).1

  given : in_statements (copies.copied_by q.funs) q ≡ []
  given = no_member (in_statements (copies.copied_by q.funs) q) (λ at c. typed ArrayCopy at c)

  indexed : in_statements indexed_by q ≡ []
  indexed = no_member (in_statements indexed_by q) (λ at c. typed RegIndex at c)

  found : unmatched_in q ≡ []
  found = no_member (unmatched_in q) (λ at c. typed NoInstruction at c)

  statement_so : (f : Fun) (s : Stmt) → KnownIn p f s → DifferentIn p s → stmt_wrong (among q.funs) s ≡ [] → copies.copied_by q.funs (layer_of s) ≡ [] → indexed_by (layer_of s) ≡ []
      → unmatched_at (constant_place q.consts) (variable_place f) (among q.funs) q.funs s ≡ [] → HasRows q.funs s
  unfolding unmatched_at
  statement_so f s known differs fits given at_index e =
      let callee = callee_by q.funs (layer_of s) in
      let u = unknown_where (or_values (constant_place q.consts) (variable_place f)) (variable_place f) (among q.funs) (layer_of s) in
      let none =
      joined u (repeated_by (layer_of s) ++ (stmt_wrong (among q.funs) s ++ (copies.copied_places callee (layer_of s) ++ indexed_by (layer_of s)))) known
      (joined (repeated_by (layer_of s)) (stmt_wrong (among q.funs) s ++ (copies.copied_places callee (layer_of s) ++ indexed_by (layer_of s))) differs
      (joined (stmt_wrong (among q.funs) s) (copies.copied_places callee (layer_of s) ++ indexed_by (layer_of s)) fits (joined (copies.copied_places callee (layer_of s)) (indexed_by (layer_of s)) given at_index)))
      in rows_so q.funs s (asked callee (others (constant_place q.consts) (variable_place f) (among q.funs) callee s) s none e)

  -- ---- of a function
  fun_so : (f : Fun) → All (KnownIn p f) (statements_of f.body) → All (DifferentIn p) (statements_of f.body) → body_wrong (among q.funs) f ≡ [] → in_body (copies.copied_by q.funs) f ≡ []
      → in_body indexed_by f ≡ [] → unmatched_in_fun (constant_place q.consts) (among q.funs) q.funs f ≡ [] → All (HasRows q.funs) (statements_of f.body)
  unfolding unmatched_in_fun
  fun_so f known differs fits given at_index e =
      let wrong = all_empty (stmt_wrong (among q.funs)) (statements_of f.body) (both (returned_wrong f) (flat_map (stmt_wrong (among q.funs)) (statements_of f.body)) fits).1 in
      let pattern_copied = all_empty (of_statement (copies.copied_by q.funs)) (statements_of f.body) given in
      let index = all_empty (of_statement indexed_by) (statements_of f.body) at_index in
      let rows = all_empty (unmatched_at (constant_place q.consts) (variable_place f) (among q.funs) q.funs) (statements_of f.body) e in
      λ i s l. statement_so f _ (known i s l) (differs i s l) (wrong i s l) (pattern_copied i s l) (index i s l) (rows i s l)

  pub rows_held : All (λ f. All (HasRows q.funs) (statements_of f.body)) q.funs
  rows_held =
      let known = all_known p unknown in
      let differs = all_different p different in
      let fits = all_empty (body_wrong (among q.funs)) q.funs matched in
      let pattern_copied = all_empty (in_body (copies.copied_by q.funs)) q.funs given in
      let index = all_empty (in_body indexed_by) q.funs indexed in
      let rows = all_empty (unmatched_in_fun (constant_place q.consts) (among q.funs) q.funs) q.funs found in
      λ i f l. fun_so _ (known i f l) (differs i f l) (fits i f l) (pattern_copied i f l) (index i f l) (rows i f l)
