-- Inline expressions in a state that has their numbers.
use Rattle.std.specs.Prelude.{◌≡◌, ℕ, ℤ, List, [], All, Option, Some, None}
use Rattle.jz_tree.specs.Size.{Size}
use Rattle.jz_tree.specs.declared.expr.Expr.{Expr}
use Rattle.jz_integers.specs.Integers.{KnownNumbers, inline_value}
use Rattle.jz_integers.specs.declared.constant.Constant.{Constant}
use Rattle.jz_types.specs.Carried.{vars_in}
use Rattle.jz_texts.specs.Texts.{IsPlain}
use Rattle.jz_meaning.specs.Rules.{went}
use Rattle.jz_meaning.specs.States.{integer, Store, State}
use Rattle.jz_meaning.specs.Operators.{of_constant}
use Rattle.jz_meaning.specs.Values.{evaluated}

-- each number that is known is what the variable of that name and copy holds
abbrev pub HoldsNumbers : KnownNumbers → Store → Type 0
HoldsNumbers known store =
    (name : List ℕ) (copy : ℕ) (i : ℤ) → known name copy ≡ Some i
    → store (record { name = name; copy = copy; cell = None }) ≡ Some (integer i)

-- an expression of a text that has a value then is not stuck, leaks nothing, and has that value,
-- whatever size is wanted
abbrev pub InlineLaw : Type 0
InlineLaw =
    (known : KnownNumbers) (e : Expr) (c : Constant) (w : Option Size) (s : State)
    → All IsPlain (vars_in e) → HoldsNumbers known s.store → inline_value known e ≡ Some c
    → evaluated e w s ≡ went [] (of_constant c)
