-- What is known where nothing is known any more of what a tree sets. A `for` gives its counter back.
use Rattle.std.specs.Prelude.{if◌then◌else◌, List, [], ◌∷◌, None}
use Rattle.jz_tree.specs.declared.stmt.Lval.{Lval}
use Rattle.jz_tree.specs.declared.stmt.Lval.TheVariants as lval
use Rattle.jz_integers.specs.Integers.{KnownNumbers}
use Rattle.jz_meaning.specs.Trees.{done, op, quiet, choose, loop, each, call}
use Rattle.jz_meaning.specs.Statements.{Operation, assign, instruction, unset, meaningless, Block}
use Rattle.jz_unroll.specs.Values.{InlineNames, is_inline_var}
use Rattle.jz_unroll.specs.Unrolling.{with_number, all_unknown}

module _ (names : InlineNames) where
  -- one variable that is inline
  abbrev pub forgotten_left : List Lval → KnownNumbers → KnownNumbers
  forgotten_left (lval.Var v ∷ []) e =
      if is_inline_var names v then with_number e v None else e
  forgotten_left to e = e

  abbrev pub forgotten_op : Operation → KnownNumbers → KnownNumbers
  forgotten_op (assign to o x c at) e = forgotten_left to e
  forgotten_op (instruction to n args at) e = e
  forgotten_op (unset vs) e = all_unknown e vs
  forgotten_op (meaningless at) e = e

  abbrev pub forgotten : Block → KnownNumbers → KnownNumbers
  forgotten done e = e
  forgotten (op o r) e = forgotten r (forgotten_op o e)
  forgotten (quiet o r) e = forgotten r (forgotten_op o e)
  forgotten (choose p a b r) e = forgotten r (forgotten b (forgotten a e))
  forgotten (loop h q p b r) e = forgotten r (forgotten b (forgotten q e))
  forgotten (each f b r) e = forgotten r (forgotten b e)
  forgotten (call q b r) e = forgotten r (forgotten b e)
