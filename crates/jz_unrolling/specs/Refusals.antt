-- When a piece of a tree is refused.
use Rattle.std.specs.Prelude.{ℤ, ◌≡◌, Bool, true, List}
use Rattle.jz_tree.specs.Span.{Span}
use Rattle.jz_tree.specs.declared.expr.Expr.{Expr}
use Rattle.jz_tree.specs.declared.expr.Var.{Var}
use Rattle.jz_tree.specs.declared.stmt.Stmt.{Stmt}
use Rattle.jz_type_names.specs.Kinds.{is_inline}
use Rattle.jz_integers.specs.Integers.{KnownNumbers}
use Rattle.jz_interp.specs.InnerParts.{body_piece}
use Rattle.jz_meaning.specs.Trees.{done}
use Rattle.jz_meaning.specs.Runs.{block}
use Rattle.jz_meaning.specs.Statements.{Operation, Condition, Block}
use Rattle.jz_change.specs.declared.change.Numbers.{Numbers}
use Rattle.jz_unroll.specs.Values.{InlineNames}
use Rattle.jz_unroll.specs.Unrolling.{HasValues, UnrollsLoopTest}
use Rattle.jz_unrolling_values.specs.declared.known.Known.{Known}
use Rattle.jz_unrolling_values.specs.Numbers.{numbers_in}
use Rattle.jz_unrolling.specs.declared.statements.Rounds.{Rounds}
use Rattle.jz_unrolling.specs.declared.statements.Turns.{Turns}
use Rattle.jz_unrolling.specs.Fits.{Fits}
use Rattle.jz_unrolling.specs.Steps.{no_callees, HasRounds, for_of}

module _ (names : InlineNames) where
  -- a piece of a tree, before whatever follows, does not fit
  abbrev pub NeverFits : (Block → Block) → KnownNumbers → Type 0
  NeverFits piece e = (t : Block) (e2 : KnownNumbers) → Fits names (piece t) e e2 → ⊥

  -- a prologue does not fit, or behind it the test or the body
  abbrev pub NeverTurns : Turns → KnownNumbers → Type 0
  NeverTurns t e =
      (eq eb : KnownNumbers) (at : Span) (p : Condition) (os : List Operation) (is : List Numbers)
      (i : Numbers)
      → Fits names (block no_callees t.prologue.now done) e eq
      → UnrollsLoopTest names (record { cond = t.cond.now; at = at }) eq os is p i
      → Fits names (body_piece no_callees t.body.now done) eq eb → ⊥

  -- bounds that are inline, of an inline counter, have no numbers
  abbrev pub NeverCounts : KnownNumbers → Var → Expr → Bool → Expr → Type 0
  NeverCounts e counter from down to =
      (at : Span) (is : List ℤ)
      → is_inline from ≡ true → is_inline to ≡ true
      → HasValues names (record { counter = counter; from = from; down = down; to = to; at = at }) e
      is
      → ⊥

  abbrev pub NeverRounds : Rounds → List Stmt → Known → Type 0
  NeverRounds r body old =
      (from to : Expr) (at : Span)
      → HasRounds names (numbers_in old) r r.counter.now from r.down to
      → NeverFits (for_of r from to at body) (numbers_in old)
