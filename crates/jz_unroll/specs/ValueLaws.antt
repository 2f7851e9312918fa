-- What stays where inline expressions are their values, and loops their rounds.
use Rattle.std.specs.Prelude.{◌≡◌, ℕ, ℤ, List, [], is_none, true, false, Option, Some}
use Rattle.jz_tree.specs.Size.{Size}
use Rattle.jz_tree.specs.declared.expr.Expr.{Expr}
use Rattle.jz_integers.specs.Integers.{KnownNumbers, inline_value}
use Rattle.jz_integers.specs.declared.constant.Constant.{Constant}
use Rattle.jz_runs.specs.Trees.{done}
use Rattle.jz_runs.specs.Rules.{went, Goes}
use Rattle.jz_meaning.specs.Operators.{of_constant}
use Rattle.jz_meaning.specs.States.{integer, Key, State}
use Rattle.jz_meaning.specs.Statements.{Block, source}
use Rattle.jz_meaning.specs.Values.{Ref, key_of, own_size, evaluated}
use Rattle.jz_change.specs.Changes.{Change}
use Rattle.jz_pass.specs.Cases.{IsBetween, cases_of}
use Rattle.jz_pass.specs.Laws.{Carries, between_trees}
use Rattle.jz_pass.specs.Unrolling.{Unrolls}
use Rattle.jz_unroll.specs.Values.{has_no_cell, with_values, InlineNames, has_values}
use Rattle.jz_unroll.specs.Unrolling.{unrolling}

-- each variable whose value is known has it
abbrev pub HoldsKnown : KnownNumbers → State → Type 0
HoldsKnown e s =
    (r : Ref) (i : ℤ)
    → is_none r.cell ≡ true → e r.name r.copy ≡ Some i → s.store (key_of r) ≡ Some (integer i)

-- inline variables aside nothing differs
pub record DiffersInline (names : InlineNames) (s t : State) : Type 0 where
  pub variables : (k : Key) → names k.name k.copy ≡ false → t.store k ≡ s.store k
  pub memory : t.memory ≡ s.memory

-- inline variables alone are known
abbrev pub KnowsInline : InlineNames → KnownNumbers → Type 0
KnowsInline names e = (n : List ℕ) (c : ℕ) (i : ℤ) → e n c ≡ Some i → names n c ≡ true

-- what is known is so in the one state, and the other one is the same but for inline variables
pub record StandsFor (names : InlineNames) (e : KnownNumbers) (s t : State) : Type 0 where
  pub known : HoldsKnown e s
  pub inline : KnowsInline names e
  pub differs : DiffersInline names s t

-- an inline expression that has a value is not stuck, leaks nothing, and has that value
abbrev pub InlineExact : Type 0
InlineExact =
    (e : KnownNumbers) (s : State) (x : Expr) (c : Constant) (w : Option Size)
    → HoldsKnown e s → has_no_cell x ≡ true → inline_value e x ≡ Some c
    → evaluated x w s ≡ went [] (of_constant c)

-- an expression whose inline parts are their values has its size, its value and its numbers
abbrev pub ValuesStay : Type 0
ValuesStay =
    (names : InlineNames) (e : KnownNumbers) (s t : State) (x : Expr)
    → HoldsKnown e s → DiffersInline names s t → has_values names e x ≡ true
    → (own_size (with_values e x) ≡ own_size x)
    × ((w : Option Size) → evaluated (with_values e x) w t ≡ evaluated x w s)

-- of a body and what it becomes, from what stands for each other
abbrev pub BodiesStay : Type 0
BodiesStay =
    (names : InlineNames) (e e1 : KnownNumbers) (b u : Block) (k : Change)
    → Unrolls (unrolling names) b e done u e1 k
    → Carries (between_trees (StandsFor names e) (StandsFor names e1))
    (λ s n. Goes source b n s) (λ t n. Goes source u n t) k

abbrev pub CasesStay : Type 0
CasesStay =
    (names : InlineNames) (e e1 : KnownNumbers) (b u : Block) (k : Change)
    → Unrolls (unrolling names) b e done u e1 k → IsBetween (cases_of b) (cases_of u) k
