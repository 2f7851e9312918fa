-- What statements one after another draw.
use Rattle.std.proofs.Common.{◌≡◌, ◌<◌, ◌≤◌, ℕ, ◌+◌, List, [], ◌∷◌, ◌++◌, length, take, get_or, Option, Some, None, sym, ap, ◌∙◌, subst}
use Rattle.std.proofs.Math.Path.{fun_ext}
use Rattle.std.proofs.lemmas.List.{take_more, take_all}
use Rattle.jz_tree.specs.declared.stmt.Stmt.{Stmt}
use Rattle.jz_meaning.specs.Runs.{block, statement_tree}
use Rattle.jz_meaning.specs.Statements.{Block}
use Rattle.jz_drawing.proofs.Pieces.{nothing_drawn, both_drawn}
use Rattle.jz_drawn_labels.specs.declared.drawing.Drawing.{Drawing}
use Rattle.jz_drawn_labels.specs.Kept.{view_of}
use Rattle.jz_drawn_labels.specs.Drew.{no_callees, IsDrawn, Drew}
use Rattle.jz_drawn_labels.proofs.Operated.{nothing_drew}
use Rattle.jz_drawn_heads.specs.Pieces.{kind_piece, turn_piece}
use Rattle.jz_drawn_heads.proofs.Forms.{statement_is, block_then}
use Rattle.jz_breaches.proofs.LaidOver.{risen_then}

pub drew_drawn : (f : Block → Block) (old new : Drawing) → IsDrawn old → Drew f old new → IsDrawn new
drew_drawn f old new b d = record { low = d.low; bounded = d.draws.bounded b.bounded }

pub drew_as : (f g : Block → Block) (old new : Drawing) → f ≡ g → Drew g old new → Drew f old new
drew_as f g old new e d = subst (λ (h : Block → Block). Drew h old new) (sym e) d

pub nothing_yet : (d : Drawing) → IsDrawn d → Drew (λ r. r) d d
nothing_yet d b = nothing_drew (λ r. r) d b (nothing_drawn (view_of d))

pub both_drew : (f g : Block → Block) (old middle new : Drawing) → Drew f old middle → Drew g middle new → Drew (λ r. f (g r)) old new
both_drew f g old middle new d e = record {
  low = e.low;
  below = e.below ∙ d.below;
  risen = risen_then old middle new.table.floor d.draws.longer d.risen e.risen;
  draws = both_drawn f g (view_of old) (view_of middle) (view_of new) d.draws e.draws;
}

pub block_begun : (ss : List Stmt) (d : Drawing) → IsDrawn d → Drew (block no_callees (take 0 ss)) d d
block_begun [] d b = nothing_yet d b
block_begun (s ∷ ss) d b = nothing_yet d b

pub block_next : (ss : List Stmt) (i : ℕ) (s : Stmt) (old middle new : Drawing) → i < length ss → s ≡ get_or ss i s → Drew (block no_callees (take i ss)) old middle → Drew (statement_tree no_callees s) middle new → Drew (block no_callees (take (i + 1) ss)) old new
block_next ss i s old middle new lt is d e =
    drew_as (block no_callees (take (i + 1) ss)) (λ r. block no_callees (take i ss) (statement_tree no_callees s r)) old new
    (ap (λ xs. block no_callees xs) (take_more ss i s lt ∙ ap (λ y. take i ss ++ y ∷ []) (sym is)) ∙ fun_ext (λ r. block_then (take i ss) s r))
    (both_drew (block no_callees (take i ss)) (statement_tree no_callees s) old middle new d e)

pub block_done : (ss : List Stmt) (i : ℕ) (old new : Drawing) → length ss ≤ i → Drew (block no_callees (take i ss)) old new → Drew (block no_callees ss) old new
block_done ss i old new l d = subst (λ (xs : List Stmt). Drew (block no_callees xs) old new) (take_all i ss l) d

pub statement_drew : (s : Stmt) (old new : Drawing) → Drew (kind_piece s.kind s.span) old new → Drew (statement_tree no_callees s) old new
statement_drew s old new d = drew_as (statement_tree no_callees s) (kind_piece s.kind s.span) old new (statement_is s) d

pub body_none : (t : Option (List Stmt)) (d : Drawing) → t ≡ None → IsDrawn d → Drew (turn_piece t) d d
body_none t d e b = subst (λ (u : Option (List Stmt)). Drew (turn_piece u) d d) (sym e) (nothing_yet d b)

pub body_some : (t : Option (List Stmt)) (ss : List Stmt) (old new : Drawing) → t ≡ Some ss → Drew (block no_callees ss) old new → Drew (turn_piece t) old new
body_some t ss old new e d = subst (λ (u : Option (List Stmt)). Drew (turn_piece u) old new) (sym e) d
