-- The frame of a function: its stack variables and those of what it calls, found by walking its
-- text, and their places.
use Rattle.std.specs.Prelude.{ℕ, ◌+◌, ◌*◌, Option, Some, None, List, [], ◌∷◌, flat_map}
use Rattle.jz_words.specs.declared.size.Size.{Size}
use Rattle.jz_words.specs.Sizes.{bytes_of}
use Rattle.jz_tree.specs.declared.expr.Storage.{Storage}
use Rattle.jz_tree.specs.declared.expr.Storage.TheVariants as storage
use Rattle.jz_tree.specs.declared.expr.Decl.{Decl}
use Rattle.jz_tree.specs.declared.expr.Var.{Var}
use Rattle.jz_tree.specs.declared.expr.Expr.TheViews.{out-Var}
use Rattle.jz_tree.specs.declared.program.Fun.{Fun}
use Rattle.jz_tree.specs.declared.program.Program.{Program}
use Rattle.jz_frames.specs.Frames.{frame_of}
use Rattle.jz_meaning.specs.declared.access.Kind.{Kind}
use Rattle.jz_meaning.specs.declared.access.Kind.TheVariants as kind
use Rattle.jz_meaning.specs.Values.{Ref, ref_of}
use Rattle.x64_insn.specs.declared.types.Insn.{Insn}
use Rattle.jz_correct.specs.Frames.{rounded_up, saved_of, frame_end, frame_size}

-- ---- stack variables

-- a variable by its name and the number of its call: 0 for the function itself, and 1, 2, .. for
-- the calls in the order of the text, those in bodies that are called behind the call itself
abbrev pub Name : Type 0
Name = List ℕ × ℕ

-- its name, the size of its cells, and how many it has
pub record StackVariable : Type 0 where
  pub name : Name
  pub cell : Size
  pub count : ℕ

-- what a word or an array keeps in the frame
abbrev pub cells_of : Kind → Name → List StackVariable
cells_of (kind.Word z) n = record { name = n; cell = z; count = 1 } ∷ []
cells_of (kind.Array z k) n = record { name = n; cell = z; count = k } ∷ []
cells_of other n = []

-- what a declaration of this storage keeps there
abbrev pub stacked_by : Storage → Ref → List StackVariable
stacked_by storage.Stack x = cells_of x.kind (x.name, x.copy)
stacked_by other x = []

abbrev pub stacked_if : Option Decl → Ref → List StackVariable
stacked_if None x = []
stacked_if (Some d) x = stacked_by d.storage x

-- what a variable keeps there by its declaration
abbrev pub stacked_of : Var → List StackVariable
stacked_of v = stacked_if (out-Var v).decl (ref_of v)

-- The stack variables of a function of a program: those that it declares, and at each call those of
-- the callee, its parameters first, in the order of the text. An array that is passed is the
-- caller's. The function's own parameters are words in registers.
abbrev pub stack_variables_of : Program → Fun → List StackVariable
stack_variables_of p f = flat_map stacked_of (frame_of p f)

-- ---- places

-- counted from the stack pointer behind the prologue upwards
pub record Place : Type 0 where
  pub of : StackVariable
  pub offset : ℕ

-- where cells begin behind an end, and where they end
abbrev pub begins_at : ℕ → StackVariable → ℕ
begins_at end s = rounded_up (bytes_of s.cell) end

abbrev pub ends_at : ℕ → StackVariable → ℕ
ends_at end s = begins_at end s + s.count * bytes_of s.cell

-- stack variables one above the other, each at the next multiple of its cells' size
abbrev pub places_from : ℕ → List StackVariable → List Place
places_from end [] = []
places_from end (s ∷ ss) =
    record { of = s; offset = begins_at end s } ∷ places_from (ends_at end s) ss

-- where the last of them ends
abbrev pub end_from : ℕ → List StackVariable → ℕ
end_from end [] = end
end_from end (s ∷ ss) = end_from (ends_at end s) ss

-- the places of a function's stack variables, from the stack pointer on
abbrev pub layout_of : Program → Fun → List Place
layout_of p f = places_from 0 (stack_variables_of p f)

-- where they end
abbrev pub layout_end : Program → Fun → ℕ
layout_end p f = end_from 0 (stack_variables_of p f)

-- how many bytes the frame of a function has whose code is these instructions
abbrev pub frame_bytes : Program → Fun → List Insn → ℕ
frame_bytes p f code = frame_size (frame_end (layout_end p f) (saved_of code))
