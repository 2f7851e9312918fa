-- What an operand shows, where it is found.
use Rattle.std.proofs.Common.{◌≡◌, ℕ, List, [], ◌∷◌, Option, Some, None, refl, ap}
use Rattle.std.specs.Option.{option_to_list}
use Rattle.jz_words.specs.declared.size.Size.{Size}
use Rattle.jz_operations.specs.declared.operation.Arg.{Arg}
use Rattle.jz_operations.specs.declared.operation.Arg.TheVariants as arg
use Rattle.jz_operations.specs.Values.{State}
use Rattle.jz_operations.specs.Rows.{Frame, if_some, address_in, cell_in, value_of, put, cell_numbers, arg_numbers}
use Rattle.jz_operations.specs.Reading.{found_by}
use Rattle.jz_operations.proofs.OwnVariables.{SameIn, address_same, cell_same}

-- the address, or the index of a cell that is found by a variable; nothing where it is not found
abbrev pub shown_cell : Option ℕ → Option ℕ → List ℕ
shown_cell None i = []
shown_cell (Some v) i = option_to_list i

abbrev pub shown : Arg → State → List ℕ
shown (arg.Mem a) σ = option_to_list (address_in a σ)
shown (arg.Cell c) σ = shown_cell c.index (cell_in c σ)
shown _ σ = []

address_by : {B : Type 0} (o : Option ℕ) (f : ℕ → Option B) (x : B) → if_some o f ≡ Some x → if_some o (λ n. Some (n ∷ [])) ≡ Some (option_to_list o)
address_by None f x e = absurd cc
address_by (Some n) f x e = refl

cell_by : {B : Type 0} (b o : Option ℕ) (f : ℕ → Option B) (x : B) → if_some o f ≡ Some x → if_some o (λ i. Some (cell_numbers b i)) ≡ Some (shown_cell b o)
cell_by b None f x e = absurd cc
cell_by None (Some i) f x e = refl
cell_by (Some v) (Some i) f x e = refl

-- an operand that is read is found
pub read_shown : (frame : Frame) (a : Arg) (z : Size) (σ : State) (n : ℕ) → value_of frame a z σ ≡ Some n → arg_numbers a σ ≡ Some (shown a σ)
read_shown frame (arg.Var v) z σ n e = refl
read_shown frame (arg.Imm i) z σ n e = refl
read_shown frame (arg.Mem a) z σ n e = address_by (address_in a σ) _ n e
read_shown frame (arg.Cell c) z σ n e = cell_by c.index (cell_in c σ) _ n e
read_shown frame (arg.At r p) z σ n e = refl

-- so is one that is written
pub put_shown : (frame : Frame) (a : Arg) (z : Size) (n : ℕ) (σ τ : State) → put frame a z n σ ≡ Some τ → arg_numbers a σ ≡ Some (shown a σ)
put_shown frame (arg.Var v) z n σ τ e = refl
put_shown frame (arg.Imm i) z n σ τ e = refl
put_shown frame (arg.Mem a) z n σ τ e = address_by (address_in a σ) _ τ e
put_shown frame (arg.Cell c) z n σ τ e = cell_by c.index (cell_in c σ) _ τ e
put_shown frame (arg.At r p) z n σ τ e = refl

pub shown_same : (σ τ : State) (a : Arg) → SameIn σ τ (found_by a) → shown a τ ≡ shown a σ
shown_same σ τ (arg.Var v) h = refl
shown_same σ τ (arg.Imm i) h = refl
shown_same σ τ (arg.Mem a) h = ap option_to_list (address_same σ τ a h)
shown_same σ τ (arg.Cell x) h = ap (shown_cell x.index) (cell_same σ τ x h)
shown_same σ τ (arg.At r p) h = refl
