-- The bodies of expansions have assignments and instructions alone, and so the numbers of their one
-- tree.
use Rattle.std.proofs.Common.{◌≡◌, ℕ, sym, ap, ◌∙◌, subst}
use Rattle.std.specs.Prelude.{Contains}
use Rattle.jz_tree.specs.declared.program.Fun.{Fun}
use Rattle.jz_tree.specs.declared.program.Program.{Program}
use Rattle.jz_runs.specs.Trees.{done}
use Rattle.jz_meaning.specs.Statements.{Block}
use Rattle.jz_typed_runs.specs.TypedTexts.{IsTypedText}
use Rattle.jz_change.specs.Changes.{Change}
use Rattle.jz_pass.specs.Unrolling.{Unrolls}
use Rattle.jz_inline.proofs.Made.{inlined_is}
use Rattle.jz_inlining.specs.Inlined.{inlined_function}
use Rattle.jz_unroll.specs.Unrolling.{unrolling}
use Rattle.jz_unroll.specs.Values.{InlineNames}
use Rattle.jz_integers.specs.Integers.{KnownNumbers}
use Rattle.jz_one_expansion.specs.CopiedKinds.{copied_kinds}
use Rattle.jz_one_expansion.proofs.Whole.{ready_law}
use Rattle.jz_function_runs.specs.FunctionRuns.{plain_body}
use Rattle.jz_scalars.specs.Functions.{function_with_scalars}
use Rattle.jz_one_expansion.specs.Expansions.{IsExpansion}
use Rattle.jz_one_unrolling.proofs.One.{one_unrolling}
use Rattle.jz_one_expansion.proofs.ScalarTrees.{tree_made, block_is}
use Rattle.jz_one_expansion.proofs.Expansions.{expansions_same}
use Rattle.jz_expanded_numbers.specs.ExpandedNumbers.{OneNumbers}
use Rattle.jz_expanded_numbers.proofs.Spoken.{AreSpoken, ready_spoken, made_spoken}
use Rattle.jz_expanded_numbers.proofs.TreeNumbers.{of_tree, tree_numbers}

made_is : (u : Fun) → plain_body (function_with_scalars u) ≡ tree_made (plain_body u)
unfolding tree_made
made_is u = sym (block_is u.body done)

module _ (p : Program) (f : Fun) (h : IsTypedText p) (has : Contains p.funs f) where
  rounds_spoken : (u : Fun) (names : InlineNames) (e e1 : KnownNumbers) (k : Change)
      → Unrolls (unrolling names) (plain_body (inlined_function p f)) e done (plain_body u) e1 k → AreSpoken (plain_body u)
  rounds_spoken u names e e1 k x =
      ready_spoken (copied_kinds p f) (plain_body u)
      (ready_law p f names e e1 (plain_body u) k h has (subst (λ (t : Block). Unrolls (unrolling names) t e done (plain_body u) e1 k) (sym (inlined_is p f)) x))

  expansion_spoken : (g : Fun) (k : Change) (n : ℕ) → IsExpansion p f g k n → AreSpoken (plain_body g)
  expansion_spoken g k n a =
      subst AreSpoken (sym (ap plain_body a.function ∙ made_is a.unrolled))
      (made_spoken (plain_body a.unrolled) (rounds_spoken a.unrolled _ _ _ a.rounds a.body.body))

pub one_numbers : OneNumbers
one_numbers p f g h k l m n t has a b =
    tree_numbers g.body (expansion_spoken p f t has g k m a)
    ∙ ap of_tree (expansions_same one_unrolling p f g h k l m n a b).same.body
    ∙ sym (tree_numbers h.body (expansion_spoken p f t has h l n b))
