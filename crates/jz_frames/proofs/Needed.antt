-- A body makes as many copies as its calls do.
use Rattle.std.proofs.Common.{◌≡◌, ℕ, zero, suc, ◌+◌, List, [], ◌∷◌, ◌++◌, map, Option, Some, None, refl, sym, ap, ap₂, ◌∙◌, subst, arith}
use Rattle.std.specs.Prelude.{option_map, option_to_list}
use Rattle.jz_tree.specs.Span.{Span}
use Rattle.jz_tree.specs.declared.expr.BinOp.{BinOp}
use Rattle.jz_tree.specs.declared.expr.Expr.{Expr}
use Rattle.jz_tree.specs.declared.program.Fun.{Fun}
use Rattle.jz_tree.specs.declared.program.Note.{Note}
use Rattle.jz_tree.specs.declared.stmt.Lval.{Lval}
use Rattle.jz_tree.specs.declared.stmt.Rhs.{Rhs}
use Rattle.jz_tree.specs.declared.stmt.Rhs.TheVariants as rhs
use Rattle.jz_tree.specs.declared.stmt.Stmt.{Stmt}
use Rattle.jz_tree.specs.declared.stmt.StmtKind.{StmtKind}
use Rattle.jz_tree.specs.declared.stmt.StmtKind.TheOpen.{StmtKind-F, Stmt-F}
use Rattle.jz_tree.specs.declared.stmt.StmtKind.TheViews.{out-StmtKind, out-roll-StmtKind, roll-Stmt, roll-StmtKind}
use Rattle.jz_tree.specs.declared.stmt.StmtKind.TheFolds.{fold-StmtKind, fold-roll-Stmt, fold-roll-StmtKind, ind-Stmt, map-Stmt, map-StmtKind}
use Rattle.jz_type_names.specs.Scopes.{function_named}
use Rattle.jz_type_names.specs.Parts.{Layer, layer_of, nested_statements, nested_step, statements_in, statements_of}
use Rattle.jz_type_names.proofs.NestedLaws.{in_kind, pair, pairs, opened, in_stmt}
use Rattle.jz_inline.specs.Statements.{Piece, all_pieces, CopiedFun, CopiedFuns, call_piece, kind_made, statement_piece, body_piece, with_piece, copied_funs}
use Rattle.jz_frames.specs.Frames.{Called, right_called, layer_called, calls_in, copies_in}
use Rattle.jz_frames.specs.InnerFrames.{calls_from, needed}
use Rattle.jz_frames.proofs.Merging.{both_needed, none_needed}

-- ---- of single statements

call_copies : Option CopiedFun → Option BinOp → Option Expr → ℕ
call_copies (Some f) None None = suc f.body.copies
call_copies _ o c = 0

right_copies : CopiedFuns → Option BinOp → Rhs → Option Expr → ℕ
right_copies callees o (rhs.Call n args at) c = call_copies (callees n) o c
right_copies callees o _ c = 0

own_copies : CopiedFuns → Layer → ℕ
own_copies callees (StmtKind-F.Assign to o r c) = right_copies callees o r c
own_copies callees _ = 0

total : CopiedFuns → List Stmt → ℕ
total callees [] = 0
total callees (s ∷ ss) = own_copies callees (layer_of s) + total callees ss

module _ (callees : CopiedFuns) where
  total_both : (ss ts : List Stmt) → total callees (ss ++ ts) ≡ total callees ss + total callees ts
  unfolding total
  total_both [] ts = omega arith
  total_both (s ∷ ss) ts = omega (arith, total_both ss ts)

  kind_piece : StmtKind → List Note → Span → Piece
  kind_piece = fold-StmtKind _ _ (kind_made callees) (λ s. s.kind s.notes s.span)

  abbrev StmtLaw : Stmt → Type 0
  StmtLaw s = (statement_piece callees s).copies ≡ total callees (statements_in s)

  abbrev KindLaw : StmtKind → Type 0
  KindLaw k = (notes : List Note) (at : Span) → (kind_piece k notes at).copies ≡ own_copies callees (out-StmtKind k) + total callees (in_kind k)

  abbrev Kinds : Type 0
  Kinds = StmtKind-F ((k : StmtKind) × KindLaw k) ((s : Stmt) × StmtLaw s)

  abbrev bare : Kinds → StmtKind-F StmtKind Stmt
  bare y = map-StmtKind _ _ _ _ (λ e. e.0) (λ e. e.0) y

  abbrev firsts : List ((s : Stmt) × StmtLaw s) → List Stmt
  firsts ss = map (λ e. e.0) ss

  rows : (ss : List ((s : Stmt) × StmtLaw s)) → (all_pieces (map (statement_piece callees) (firsts ss))).copies ≡ total callees (nested_statements (map pair (firsts ss)))
  unfolding total
  rows [] = refl
  rows (s ∷ ss) =
      ap₂ (λ m n. m + n) s.1 (rows ss) ∙ sym (total_both (statements_in s.0) (nested_statements (map pair (firsts ss))))

  both : (as' bs : List ((s : Stmt) × StmtLaw s))
      → (all_pieces (map (statement_piece callees) (firsts as'))).copies + (all_pieces (map (statement_piece callees) (firsts bs))).copies
      ≡ total callees (nested_statements (map pair (firsts as')) ++ nested_statements (map pair (firsts bs)))
  both as' bs = ap₂ (λ m n. m + n) (rows as') (rows bs) ∙ sym (total_both (nested_statements (map pair (firsts as'))) (nested_statements (map pair (firsts bs))))

  call_law : (x : Option CopiedFun) (notes : List Note) (at : Span) (to : List Lval) (o : Option BinOp) (n : List ℕ) (args : List Expr) (c : Option Expr) (place : Span)
      → (call_piece x notes at to o n args c place).copies ≡ call_copies x o c + 0
  unfolding call_copies
  call_law (Some f) notes at to None n args None place = omega arith
  call_law (Some f) notes at to None n args (Some c) place = refl
  call_law (Some f) notes at to (Some o) n args c place = refl
  call_law None notes at to o n args c place = refl

  abbrev mapped : Kinds → StmtKind-F (List Note → Span → Piece) Piece
  mapped y = map-StmtKind _ _ (List Note → Span → Piece) Piece kind_piece (statement_piece callees) (bare y)

  added : (m n : ℕ) → m ≡ n → m ≡ 0 + n
  added m n e = omega (arith, e)

  layer_law : (y : Kinds) (notes : List Note) (at : Span)
      → (kind_made callees (mapped y) notes at).copies ≡ own_copies callees (bare y) + total callees (nested_step (pairs (bare y)))
  unfolding pairs own_copies right_copies total
  layer_law (StmtKind-F.Assign to o (rhs.Value e) c) notes at = refl
  layer_law (StmtKind-F.Assign to o (rhs.Call n args place) c) notes at = call_law (callees n) notes at to o n args c place
  layer_law (StmtKind-F.Assign to o (rhs.Intrinsic n args place) c) notes at = refl
  layer_law (StmtKind-F.If c a b) notes at = added _ _ (both a b)
  layer_law (StmtKind-F.While p c None) notes at = added _ _ (rows p)
  layer_law (StmtKind-F.While p c (Some b)) notes at = added _ _ (both p b)
  layer_law (StmtKind-F.For i from down to b) notes at = added _ _ (rows b)
  layer_law (StmtKind-F.Mark vs) notes at = refl

  kind_case : (y : Kinds) → KindLaw (roll-StmtKind (bare y))
  unfolding kind_piece
  kind_case y notes at =
      ap (λ f. (f notes at).copies) (fold-roll-StmtKind _ _ (kind_made callees) (λ s. s.kind s.notes s.span) (bare y))
      ∙ layer_law y notes at
      ∙ ap₂ (λ k ss. own_copies callees k + total callees ss) (sym (out-roll-StmtKind (bare y))) (sym (opened (bare y)))

  stmt_case : (y : Stmt-F ((k : StmtKind) × KindLaw k) ((s : Stmt) × StmtLaw s)) → StmtLaw (roll-Stmt (map-Stmt _ _ StmtKind Stmt (λ e. e.0) (λ e. e.0) y))
  unfolding kind_piece total
  stmt_case y =
      let x = map-Stmt _ _ StmtKind Stmt (λ e. e.0) (λ e. e.0) y in
      ap (λ (p : Piece). p.copies) (fold-roll-Stmt _ _ (kind_made callees) (λ s. s.kind s.notes s.span) x)
      ∙ y.kind.1 y.notes y.span ∙ ap (total callees) (sym (in_stmt x))

  stmt_copies : (s : Stmt) → (statement_piece callees s).copies ≡ total callees (statements_in s)
  stmt_copies =
      ind-Stmt KindLaw StmtLaw
      (λ x y is. subst (λ z. KindLaw (roll-StmtKind z)) is (kind_case y))
      (λ x y is. subst (λ z. StmtLaw (roll-Stmt z)) is (stmt_case y))

  body_copies : (ss : List Stmt) → (body_piece callees ss).copies ≡ total callees (statements_of ss)
  unfolding total
  body_copies [] = refl
  body_copies (s ∷ ss) = ap₂ (λ m n. m + n) (stmt_copies s) (body_copies ss) ∙ sym (total_both (statements_in s) (statements_of ss))

-- ---- of calls

call_list : List Expr → Span → Option Fun → List Called
call_list args at y = option_to_list (option_map (λ f. record { at = at; of = f; args = args }) y)

named_copies : (fs : List Fun) (depth : ℕ) (args : List Expr) (at : Span) (y : Option Fun)
    → call_copies (with_piece (body_piece (copied_funs fs depth)) y) None None ≡ needed fs (suc depth) (call_list args at y)
unfolding call_copies call_list
named_copies fs depth args at None = refl
named_copies fs depth args at (Some f) = omega arith

with_operation : (x : Option CopiedFun) (o : BinOp) (c : Option Expr) → call_copies x (Some o) c ≡ 0
unfolding call_copies
with_operation (Some f) o c = refl
with_operation None o c = refl

with_condition : (x : Option CopiedFun) (e : Expr) → call_copies x None (Some e) ≡ 0
unfolding call_copies
with_condition (Some f) e = refl
with_condition None e = refl

right_needed : (fs : List Fun) (left : ℕ) (o : Option BinOp) (r : Rhs) (c : Option Expr) → right_copies (copied_funs fs left) o r c ≡ needed fs left (right_called fs left o r c)
unfolding right_copies call_copies call_list
right_needed fs zero o (rhs.Value e) c = refl
right_needed fs zero o (rhs.Intrinsic n args at) c = refl
right_needed fs zero o (rhs.Call n args at) c = refl
right_needed fs (suc depth) o (rhs.Value e) c = refl
right_needed fs (suc depth) o (rhs.Intrinsic n args at) c = refl
right_needed fs (suc depth) (Some o) (rhs.Call n args at) c = with_operation (copied_funs fs (suc depth) n) o c
right_needed fs (suc depth) None (rhs.Call n args at) (Some e) = with_condition (copied_funs fs (suc depth) n) e
right_needed fs (suc depth) None (rhs.Call n args at) None = named_copies fs depth args at (function_named n fs)

layer_needed : (fs : List Fun) (left : ℕ) (k : Layer) → own_copies (copied_funs fs left) k ≡ needed fs left (layer_called fs left k)
unfolding own_copies
layer_needed fs left (StmtKind-F.Assign to o r c) = right_needed fs left o r c
layer_needed fs left (StmtKind-F.If c a b) = sym (none_needed fs left)
layer_needed fs left (StmtKind-F.While p c b) = sym (none_needed fs left)
layer_needed fs left (StmtKind-F.For i from down to b) = sym (none_needed fs left)
layer_needed fs left (StmtKind-F.Mark vs) = sym (none_needed fs left)

calls_total : (fs : List Fun) (left : ℕ) (ss : List Stmt) → total (copied_funs fs left) ss ≡ needed fs left (calls_from fs left ss)
unfolding total
calls_total fs left [] = sym (none_needed fs left)
calls_total fs left (s ∷ ss) =
    ap₂ (λ m n. m + n) (layer_needed fs left (layer_of s)) (calls_total fs left ss)
    ∙ sym (both_needed fs left (layer_called fs left (layer_of s)) (calls_from fs left ss))

-- the calls of a function make as many copies as stand in it
pub copies_needed : (fs : List Fun) (left : ℕ) (f : Fun) → needed fs left (calls_in fs left f.body) ≡ copies_in fs left f
copies_needed fs left f = sym (body_copies (copied_funs fs left) f.body ∙ calls_total fs left (statements_of f.body))
