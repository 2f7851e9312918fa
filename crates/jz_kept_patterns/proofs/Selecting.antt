-- A row is selected just where one matches with all answers.
use Rattle.std.proofs.Common.{◌≡◌, Bool, true, false, ◌||◌, ℕ, List, [], ◌∷◌, Option, Some, None, refl, sym, ap, ◌∙◌, subst}
use Rattle.std.specs.List.{list_any}
use Rattle.std.proofs.lemmas.Bool.{false≢true}
use Rattle.std.proofs.lemmas.List.Elements.{All-head, All-tail}
use Rattle.std.proofs.lemmas.List.Folds.{list_any-append}
use Rattle.jz_tree.specs.Span.{Span}
use Rattle.jz_tree.specs.Spellings.{spelled}
use Rattle.jz_tree.specs.declared.expr.BinOp.{BinOp}
use Rattle.jz_tree.specs.declared.expr.Expr.{Expr}
use Rattle.jz_tree.specs.declared.stmt.Lval.{Lval}
use Rattle.jz_tree.specs.declared.stmt.Rhs.TheVariants as rhs
use Rattle.jz_tree.specs.declared.stmt.StmtKind.{StmtKind}
use Rattle.jz_tree.specs.declared.stmt.StmtKind.TheVariants as stmt
use Rattle.jz_tree.specs.declared.stmt.StmtKind.TheOpen.{StmtKind-F}
use Rattle.jz_tree.specs.declared.stmt.StmtKind.TheViews.{out-StmtKind, out-roll-StmtKind}
use Rattle.jz_select.specs.declared.pattern.Pattern.{Pattern}
use Rattle.jz_select.specs.declared.shape.Shape as rowed
use Rattle.jz_select.specs.Places.{Answers}
use Rattle.jz_select.specs.Shapes.{whichever, assign_of, named_shape, kind_layer, shape_of}
use Rattle.jz_select.specs.Hardest.{hardest}
use Rattle.jz_select.specs.Selected.{Row, rows, NoneMatches, FirstMatches, Tells, IsSelected, IsCopied, pattern_chosen}
use Rattle.jz_select.proofs.FirstRow.{is_selected}
use Rattle.jz_row_laws.proofs.Booleans.{or_left, or_right}
use Rattle.jz_row_laws.proofs.Copied.{Matches}
use Rattle.jz_kept_patterns.specs.Matched.{IsMatched, IsPairMatched, IsInstructionMatched}

abbrev test : rowed.Shape → Row → Bool
test s q = q.1 s

-- ---- from a row to a match
first_any : (rs : List Row) (s : rowed.Shape) (r : Row) → FirstMatches rs s r → list_any (λ (q : Row). q.1 s) rs ≡ true
first_any rs s r (before, after, parts, holds, none) =
    ap (λ xs. list_any (λ (q : Row). q.1 s) xs) parts
    ∙ (list_any-append (λ (q : Row). q.1 s) before (r ∷ after)
    ∙ or_right (list_any (λ (q : Row). q.1 s) before) (list_any (λ (q : Row). q.1 s) (r ∷ after)) (or_left (r.1 s) (list_any (λ (q : Row). q.1 s) after) holds))

told : (s : rowed.Shape) (p : Pattern) → Tells rows s (Some p) → Matches s
told s p (r, is, first) = first_any rows s r first

pub selected_always : (k : StmtKind) (p : Pattern) → IsSelected k (Some p) → (answers : Answers) → Matches (shape_of (whichever answers) k)
unfolding IsSelected
selected_always k p h = λ a. told (shape_of (whichever a) k) p (h a)

pub copied_always : (to : Lval) (e : Expr) (p : Pattern) → IsCopied to e (Some p) → (answers : Answers) → Matches (assign_of (whichever answers) None to None e)
unfolding IsCopied
copied_always to e p h = λ a. told (assign_of (whichever a) None to None e) p (h a)

-- ---- from matches to a row
none_any : (rs : List Row) (s : rowed.Shape) → NoneMatches rs s → list_any (λ (q : Row). q.1 s) rs ≡ true → ⊥
none_any [] s n h = false≢true h
none_any (r ∷ rs) s n h =
    none_any rs s (All-tail (λ q. q.1 s ≡ false) r rs n) (sym (ap (λ b. b || list_any (λ (q : Row). q.1 s) rs) (All-head (λ q. q.1 s ≡ false) r rs n)) ∙ h)

by_answer : (k : StmtKind) (x : Option Pattern) → IsSelected k x → ((answers : Answers) → Matches (shape_of (whichever answers) k)) → (p : Pattern) × IsSelected k (Some p)
unfolding IsSelected
by_answer k None h m = absurd (none_any rows (shape_of (whichever h.0) k) h.1 (m h.0))
by_answer k (Some p) h m = (p, h)

pub always_selected : (k : StmtKind) → ((answers : Answers) → Matches (shape_of (whichever answers) k)) → (p : Pattern) × IsSelected k (Some p)
always_selected k m = by_answer k (pattern_chosen (shape_of hardest k)) (is_selected k (pattern_chosen (shape_of hardest k)) refl) m

-- ---- assignments of one value
abbrev pub AlwaysMatches : Lval → Option BinOp → Expr → Option Expr → Type 0
AlwaysMatches d o e c = (answers : Answers) → Matches (kind_layer (whichever answers) (StmtKind-F.Assign (d ∷ []) o (rhs.Value e) c))

out_assign : (d : Lval) (o : Option BinOp) (e : Expr) (c : Option Expr) → out-StmtKind (stmt.Assign (d ∷ []) o (rhs.Value e) c) ≡ StmtKind-F.Assign (d ∷ []) o (rhs.Value e) c
out_assign d o e c = ap out-StmtKind (sym (stmt.rolls-Assign (d ∷ []) o (rhs.Value e) c)) ∙ out-roll-StmtKind (StmtKind-F.Assign (d ∷ []) o (rhs.Value e) c)

pub matched_always : (d : Lval) (o : Option BinOp) (e : Expr) (c : Option Expr) → IsMatched d o e c → AlwaysMatches d o e c
matched_always d o e c m =
    let h = selected_always (stmt.Assign (d ∷ []) o (rhs.Value e) c) m.0 m.1 in
    λ a. subst (λ x. Matches (kind_layer (whichever a) x)) (out_assign d o e c) (h a)

pub always_matched : (d : Lval) (o : Option BinOp) (e : Expr) (c : Option Expr) → AlwaysMatches d o e c → IsMatched d o e c
always_matched d o e c h =
    always_selected (stmt.Assign (d ∷ []) o (rhs.Value e) c) (λ a. subst (λ x. Matches (kind_layer (whichever a) x)) (sym (out_assign d o e c)) (h a))

-- ---- of two left sides
abbrev pub PairAlways : Lval → Lval → Option BinOp → Expr → Type 0
PairAlways f d o e = (answers : Answers) → Matches (kind_layer (whichever answers) (StmtKind-F.Assign (f ∷ d ∷ []) o (rhs.Value e) None))

out_pair : (f d : Lval) (o : Option BinOp) (e : Expr) → out-StmtKind (stmt.Assign (f ∷ d ∷ []) o (rhs.Value e) None) ≡ StmtKind-F.Assign (f ∷ d ∷ []) o (rhs.Value e) None
out_pair f d o e = ap out-StmtKind (sym (stmt.rolls-Assign (f ∷ d ∷ []) o (rhs.Value e) None)) ∙ out-roll-StmtKind (StmtKind-F.Assign (f ∷ d ∷ []) o (rhs.Value e) None)

pub pair_always : (f d : Lval) (o : Option BinOp) (e : Expr) → IsPairMatched f d o e → PairAlways f d o e
pair_always f d o e m =
    let h = selected_always (stmt.Assign (f ∷ d ∷ []) o (rhs.Value e) None) m.0 m.1 in
    λ a. subst (λ x. Matches (kind_layer (whichever a) x)) (out_pair f d o e) (h a)

pub always_pair : (f d : Lval) (o : Option BinOp) (e : Expr) → PairAlways f d o e → IsPairMatched f d o e
always_pair f d o e h =
    always_selected (stmt.Assign (f ∷ d ∷ []) o (rhs.Value e) None) (λ a. subst (λ x. Matches (kind_layer (whichever a) x)) (sym (out_pair f d o e)) (h a))

-- ---- intrinsics
abbrev pub InstructionAlways : List Lval → List ℕ → List Expr → Type 0
InstructionAlways to n args = (answers : Answers) → Matches (named_shape (whichever answers) (spelled n) to args)

out_instruction : (to : List Lval) (n : List ℕ) (args : List Expr) (at : Span) → out-StmtKind (stmt.Assign to None (rhs.Intrinsic n args at) None) ≡ StmtKind-F.Assign to None (rhs.Intrinsic n args at) None
out_instruction to n args at =
    ap out-StmtKind (sym (stmt.rolls-Assign to None (rhs.Intrinsic n args at) None)) ∙ out-roll-StmtKind (StmtKind-F.Assign to None (rhs.Intrinsic n args at) None)

pub instruction_always : (to : List Lval) (n : List ℕ) (args : List Expr) (at : Span) → IsInstructionMatched to n args at → InstructionAlways to n args
instruction_always to n args at m =
    let h = selected_always (stmt.Assign to None (rhs.Intrinsic n args at) None) m.0 m.1 in
    λ a. subst (λ x. Matches (kind_layer (whichever a) x)) (out_instruction to n args at) (h a)

pub always_instruction : (to : List Lval) (n : List ℕ) (args : List Expr) (at : Span) → InstructionAlways to n args → IsInstructionMatched to n args at
always_instruction to n args at h =
    always_selected (stmt.Assign to None (rhs.Intrinsic n args at) None) (λ a. subst (λ x. Matches (kind_layer (whichever a) x)) (sym (out_instruction to n args at)) (h a))
