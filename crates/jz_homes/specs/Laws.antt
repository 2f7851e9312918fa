-- What is owed of an operand and of a destination: the operation reads and writes what the source
-- does, and shows of the numbers that the source leaks those that it says.
use Rattle.std.specs.Prelude.{◌≡◌, ◌<◌, ℕ, List, Some}
use Rattle.jz_words.specs.declared.size.Size.{Size}
use Rattle.jz_words.specs.Sizes.{modulus}
use Rattle.jz_tree.specs.declared.expr.Expr.{Expr}
use Rattle.jz_tree.specs.declared.stmt.Lval.{Lval}
use Rattle.jz_runs.specs.Rules.{went}
use Rattle.jz_meaning.specs.States as source
use Rattle.jz_meaning.specs.Operators.{word_of}
use Rattle.jz_meaning.specs.Values.{evaluated}
use Rattle.jz_meaning.specs.Assignments.{written}
use Rattle.jz_operations.specs.declared.operation.Arg.{Arg}
use Rattle.jz_operations.specs.Values.{State}
use Rattle.jz_operations.specs.Rows.{Frame, value_of, put, arg_numbers}
use Rattle.jz_homes.specs.Homes.{Homes, IsHoming, IsRelated}
use Rattle.jz_homes.specs.Operands.{Leaks, shown_of, IsCounted, IsArg, IsDest}

-- the word of an operand is that of the value, which leaked these numbers
pub record IsRead (frame : Frame) (z : Size) (a : Arg) (p : Leaks) (σ : State) (ns : List ℕ)
    (v : source.Value) : Type 0 where
  pub bits : ℕ
  pub word : word_of z v ≡ Some bits
  pub small : bits < modulus z
  pub value : value_of frame a z σ ≡ Some bits
  pub numbers : arg_numbers a σ ≡ Some (shown_of p ns)
  pub counted : IsCounted p ns

abbrev pub OperandsAreRead : Type 0
OperandsAreRead =
    (frame : Frame) (home : Homes) (s : source.State) (σ : State) (z : Size) (e : Expr) (a : Arg)
    (p : Leaks) (ns : List ℕ) (v : source.Value)
    → IsHoming frame home → IsRelated home s σ → IsArg home z e a p
    → evaluated e (Some z) s ≡ went ns v → IsRead frame z a p σ ns v

-- the word n is put, and then the states are related where the source is in t, having leaked these
-- numbers
pub record IsWritten (frame : Frame) (home : Homes) (z : Size) (b : Arg) (p : Leaks) (σ : State)
    (n : ℕ) (ns : List ℕ) (t : source.State) : Type 0 where
  pub after : State
  pub put' : put frame b z n σ ≡ Some after
  pub agrees : IsRelated home t after
  pub numbers : arg_numbers b σ ≡ Some (shown_of p ns)
  pub counted : IsCounted p ns

abbrev pub DestinationsAreWritten : Type 0
DestinationsAreWritten =
    (frame : Frame) (home : Homes) (s : source.State) (σ : State) (z : Size) (d : Lval) (b : Arg)
    (p : Leaks) (u : source.Value) (n : ℕ) (ns : List ℕ) (t : source.State)
    → IsHoming frame home → IsRelated home s σ → IsDest home z d b p
    → word_of z u ≡ Some n → n < modulus z → written (Some z) d (Some u) s ≡ went ns t
    → IsWritten frame home z b p σ n ns t
