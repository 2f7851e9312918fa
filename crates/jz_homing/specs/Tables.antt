-- The homes of declared variables: each gets the next number, in the order of the declarations.
use Rattle.std.specs.Prelude.{ℕ, zero, suc, List, [], ◌∷◌, ◌++◌, length, slice_get, Option, Some, None}
use Rattle.jz_words.specs.declared.size.Size.{Size}
use Rattle.jz_tree.specs.declared.expr.Decl.{Decl}
use Rattle.jz_tree.specs.declared.expr.Storage.{Storage}
use Rattle.jz_tree.specs.declared.expr.Storage.TheVariants as storage
use Rattle.jz_tree.specs.declared.expr.Var.{Var}
use Rattle.jz_tree.specs.declared.expr.Expr.TheViews.{out-Decl, out-Var}
use Rattle.jz_ir.specs.declared.code.Kind.{Kind as Held}
use Rattle.jz_ir.specs.declared.code.Kind.TheVariants as held
use Rattle.jz_meaning.specs.declared.access.Kind.{Kind}
use Rattle.jz_meaning.specs.declared.access.Kind.TheVariants as kind
use Rattle.jz_meaning.specs.States.{Key}
use Rattle.jz_meaning.specs.Values.{ref_of}
use Rattle.jz_operations.specs.declared.operation.Stacked.{Stacked}
use Rattle.jz_operations.specs.Rows.{Frame}
use Rattle.jz_operands.specs.declared.homes.Home.{Home}
use Rattle.jz_operands.specs.declared.homes.Home.TheVariants.{Word, Flag, Slot, Cells}
use Rattle.jz_operands.specs.TableHomes.{entries_of, no_entries, with_entry}
use Rattle.jz_homing.specs.declared.homing.Homing.{Homing}

-- the homes, what each variable holds, and the cells of each stack variable
pub record Table : Type 0 where
  pub entries : Key → Option Home
  pub kinds : List Held
  pub stack : List Stacked

abbrev pub table_in : Homing → Table
table_in h = record { entries = entries_of h.homes; kinds = h.kinds; stack = h.stack }

abbrev pub no_homes : Table
no_homes = record { entries = no_entries; kinds = []; stack = [] }

-- the cells of stack variables
abbrev pub frame_of : List Stacked → Frame
frame_of ks v = slice_get ks v

-- a variable, or a cell of a register array
abbrev pub key_at : Var → Option ℕ → Key
key_at x c = record { name = (ref_of x).name; copy = (ref_of x).copy; cell = c }

-- ---- one home more
abbrev pub with_variable : Table → Key → Home → Held → Table
with_variable t k h v = record {
  entries = with_entry t.entries k (Some h);
  kinds = t.kinds ++ (v ∷ []);
  stack = t.stack;
}

abbrev pub with_stacked : Table → Key → Home → Stacked → Table
with_stacked t k h s = record {
  entries = with_entry t.entries k (Some h);
  kinds = t.kinds;
  stack = t.stack ++ (s ∷ []);
}

abbrev pub with_word : Table → Var → Option ℕ → Size → Table
with_word t x c z = with_variable t (key_at x c) (Word (length t.kinds) z) held.Word

abbrev pub with_flag : Table → Var → Table
with_flag t x = with_variable t (key_at x None) (Flag (length t.kinds)) held.Flag

abbrev pub with_slot : Table → Var → Size → Table
with_slot t x z =
    with_stacked t (key_at x None) (Slot (length t.stack) z) (record { size = z; count = 1 })

abbrev pub with_cells : Table → Var → Size → ℕ → Table
with_cells t x z n =
    with_stacked t (key_at x None) (Cells (length t.stack) z n) (record { size = z; count = n })

-- a variable for each of the first cells of a register array
abbrev pub with_each : Table → Var → Size → ℕ → Table
with_each t x z zero = t
with_each t x z (suc n) = with_word (with_each t x z n) x (Some n) z

-- ---- by the declaration
abbrev pub in_registers : Table → Var → Kind → Table
in_registers t x (kind.Word z) = with_word t x None z
in_registers t x kind.Bool = with_flag t x
in_registers t x (kind.Array z n) = with_each t x z n
in_registers t x _ = t

abbrev pub on_stack : Table → Var → Kind → Table
on_stack t x (kind.Word z) = with_slot t x z
on_stack t x (kind.Array z n) = with_cells t x z n
on_stack t x _ = t

-- an inline variable has no home
abbrev pub by_storage : Table → Var → Storage → Table
by_storage t x storage.Reg = in_registers t x (ref_of x).kind
by_storage t x storage.Stack = on_stack t x (ref_of x).kind
by_storage t x storage.Inline = t

abbrev pub by_declaration : Table → Var → Option Decl → Table
by_declaration t x None = t
by_declaration t x (Some d) = by_storage t x (out-Decl d).storage

abbrev pub with_var : Table → Var → Table
with_var t x = by_declaration t x (out-Var x).decl

abbrev pub with_vars : Table → List Var → Table
with_vars t [] = t
with_vars t (x ∷ xs) = with_vars (with_var t x) xs
