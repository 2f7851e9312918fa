-- Alarms where they stand in a text, and the conditions behind a left operand.
use Rattle.std.specs.Prelude.{ℕ, Bool, Option, option_map}
use Rattle.jz_tree.specs.Span.{Span}
use Rattle.x64_insn.specs.Size.{Size}
use Rattle.x64_insn.specs.Size.TheVariants.{S64}
use Rattle.x64_insn.specs.Words.{residue}
use Rattle.jz_tree.specs.declared.expr.BinOp.{BinOp}
use Rattle.jz_meaning.specs.declared.value.Why.TheVariants.{Divide, Init}
use Rattle.jz_meaning.specs.States.{Key}
use Rattle.jz_meaning.specs.Values.{Ref, key_of, ref_of, right_wanted}
use Rattle.jz_facts.specs.Facts.{Set, Cell, Facts, Given}
use Rattle.jz_facts.specs.Intervals.{size_or_64}
use Rattle.jz_terms.specs.Terms.{Term, num}
use Rattle.jz_alarms.specs.Conditions as conditions
use Rattle.jz_alarms.specs.Conditions.{or_else, unless, asks, asks_index, divides, all_cells, cell_set}
use Rattle.jz_asked.specs.declared.alarms.About.{About}
use Rattle.jz_asked.specs.declared.alarms.About.TheVariants as of
use Rattle.jz_asked.specs.declared.alarms.Asked.{Asked}

abbrev pub about : About → conditions.Target
about (of.Variable v) = conditions.named (ref_of v.now).name (ref_of v.now).cell
about of.Memory = conditions.memory
about of.Division = conditions.division

abbrev pub asked_of : Asked → conditions.Alarm
asked_of a = record { span = a.span; why = a.why; target = about a.about }

abbrev pub shown : Option Asked → Option conditions.Alarm
shown a = option_map asked_of a

-- a variable is set
abbrev pub asks_set : Facts → Ref → Option conditions.Alarm
asks_set s x = unless (s (Set (key_of x))) x.span Init (conditions.named x.name x.cell)

-- of a right operand and of the operation, where this is wanted of the left operand
abbrev pub asks_behind :
    Given → Facts → BinOp → Option Size → Term → Span → Option conditions.Alarm
asks_behind g s op v b at =
    or_else (asks g s (right_wanted op v) b)
    (unless (divides g s op (size_or_64 v) b) at Divide conditions.division)

-- so many cells of an array, at a written index one alone
abbrev pub cells_set : Given → Facts → Key → ℕ → Term → Bool
cells_set g s a n (num i at) = s (Cell a (residue S64 i))
cells_set g s a n i = all_cells g s a n

-- the index of an array, and then what is read there
abbrev pub asks_element : Given → Facts → Ref → Term → Option conditions.Alarm
asks_element g s x i =
    or_else (asks_index g s x i)
    (unless (cell_set g s x x.kind i) x.span Init (conditions.named x.name x.cell))
