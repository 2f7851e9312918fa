-- The variables and the stack variables that the declarations of a function stand for, each in the
-- order of the text, and where each value is by that.
use Rattle.std.specs.Prelude.{◌≡◌, ◌<◌, ◌⊎◌, ℕ, List, [], ◌∷◌, map, Option, Some, None, slice_get, ⊤}
use Rattle.std.specs.List.{flat_map, range_with_len}
use Rattle.jz_words.specs.declared.size.Size.{Size}
use Rattle.jz_ir.specs.declared.code.Kind.{Kind as Holding}
use Rattle.jz_ir.specs.declared.code.Kind.TheVariants.{Word, Flag}
use Rattle.jz_tree.specs.declared.expr.Decl.{Decl}
use Rattle.jz_tree.specs.declared.expr.Storage.{Storage}
use Rattle.jz_tree.specs.declared.expr.Storage.TheVariants as storage
use Rattle.jz_tree.specs.declared.expr.Var.{Var}
use Rattle.jz_tree.specs.declared.expr.Expr.TheViews.{out-Var}
use Rattle.jz_tree.specs.declared.program.Fun.{Fun}
use Rattle.jz_type_names.specs.Scopes.{variables_of}
use Rattle.jz_meaning.specs.declared.access.Kind.{Kind}
use Rattle.jz_meaning.specs.declared.access.Kind.TheVariants as kind
use Rattle.jz_meaning.specs.States.{Key}
use Rattle.jz_meaning.specs.Values.{Ref, cell_key, ref_of}
use Rattle.jz_operations.specs.declared.operation.Stacked.{Stacked}
use Rattle.jz_homes.specs.Homes.{Home, Homes, in_register, in_flag, in_cell}

-- ---- variables whose names differ, or their copies
abbrev pub IsOther : Var → Var → Type 0
IsOther x y = (ref_of x).name ≡ (ref_of y).name → (ref_of x).copy ≡ (ref_of y).copy → ⊥

abbrev pub AreOther : Var → List Var → Type 0
AreOther x [] = ⊤
AreOther x (y ∷ ys) = IsOther x y × AreOther x ys

abbrev pub Differ : List Var → Type 0
Differ [] = ⊤
Differ (x ∷ xs) = AreOther x xs × Differ xs

-- ---- in registers and flags
pub data What : Type 0 where
  a_word : Size → What
  a_flag : What

-- a variable of operations, and the key of what it is for
pub record Held : Type 0 where
  pub key : Key
  pub what : What

abbrev pub own_key : Ref → Key
own_key x = record { name = x.name; copy = x.copy; cell = None }

abbrev pub word_at : Size → Key → Held
word_at z k = record { key = k; what = a_word z }

-- a word or a flag is one variable, and an array one for each of its cells
abbrev pub held_as : Storage → Kind → Ref → List Held
held_as storage.Reg (kind.Word z) x = word_at z (own_key x) ∷ []
held_as storage.Reg kind.Bool x = record { key = own_key x; what = a_flag } ∷ []
held_as storage.Reg (kind.Array z n) x = map (λ i. word_at z (cell_key x i)) (range_with_len 0 n)
held_as _ k x = []

abbrev pub held_by : Option Decl → Ref → List Held
held_by None x = []
held_by (Some d) x = held_as d.storage x.kind x

abbrev pub held_for : Var → List Held
held_for x = held_by (out-Var x).decl (ref_of x)

-- those of a function: the number of each is its place here
abbrev pub held_of : Fun → List Held
held_of f = flat_map held_for (variables_of f)

-- ---- in the frame
pub data Kept : Type 0 where
  a_scalar : Ref → Size → Kept
  an_array : Ref → Size → ℕ → Kept

abbrev pub cells_of : Kept → Stacked
cells_of (a_scalar x z) = record { size = z; count = 1 }
cells_of (an_array x z n) = record { size = z; count = n }

-- what has a cell of it
abbrev pub key_in : Kept → ℕ → Key
key_in (a_scalar x z) i = own_key x
key_in (an_array x z n) i = cell_key x i

abbrev pub kept_as : Storage → Kind → Ref → List Kept
kept_as storage.Stack (kind.Word z) x = a_scalar x z ∷ []
kept_as storage.Stack (kind.Array z n) x = an_array x z n ∷ []
kept_as _ k x = []

abbrev pub kept_by : Option Decl → Ref → List Kept
kept_by None x = []
kept_by (Some d) x = kept_as d.storage x.kind x

abbrev pub kept_for : Var → List Kept
kept_for x = kept_by (out-Var x).decl (ref_of x)

abbrev pub kept_of : Fun → List Kept
kept_of f = flat_map kept_for (variables_of f)

-- ---- where each value is
abbrev pub home_at : ℕ → What → Home
home_at n (a_word z) = in_register n z
home_at n a_flag = in_flag n

pub record IsHeld (hs : List Held) (k : Key) (x : Home) : Type 0 where
  pub number : ℕ
  pub held : Held
  pub there : slice_get hs number ≡ Some held
  pub key : k ≡ held.key
  pub home : x ≡ home_at number held.what

pub record IsKept (cs : List Kept) (k : Key) (x : Home) : Type 0 where
  pub number : ℕ
  pub kept : Kept
  pub cell : ℕ
  pub there : slice_get cs number ≡ Some kept
  pub within : cell < (cells_of kept).count
  pub key : k ≡ key_in kept cell
  pub home : x ≡ in_cell number cell (cells_of kept).size

-- each has the home that its declaration gives it, and nothing else has one
pub record AreDeclared (hs : List Held) (cs : List Kept) (home : Homes) : Type 0 where
  pub held : (n : ℕ) (h : Held) → slice_get hs n ≡ Some h
      → home h.key ≡ Some (home_at n h.what)
  pub kept : (w i : ℕ) (c : Kept) → slice_get cs w ≡ Some c → i < (cells_of c).count
      → home (key_in c i) ≡ Some (in_cell w i (cells_of c).size)
  pub others : (k : Key) (x : Home) → home k ≡ Some x → IsHeld hs k x ⊎ IsKept cs k x

-- ---- what each variable holds, and the cells of each stack variable
abbrev pub kind_at : What → Holding
kind_at (a_word z) = Word
kind_at a_flag = Flag

abbrev pub kinds_of : Fun → List Holding
kinds_of f = map (λ h. kind_at h.what) (held_of f)

abbrev pub stack_of : Fun → List Stacked
stack_of f = map cells_of (kept_of f)
