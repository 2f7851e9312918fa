-- What an annotation's entry says, computed.
use Rattle.std.specs.Prelude.{ℕ, List, Option, None}
use Rattle.jz_tree.specs.declared.program.Note.{Note}
use Rattle.jz_tree.specs.declared.program.NoteValue.{NoteValue}
use Rattle.jz_tree.specs.declared.program.NoteValue.TheVariants.{Str}
use Rattle.jz_annotations.specs.declared.precondition.Pre.{Pre}
use Rattle.jz_annotations.specs.InnerReaders.{precondition, final}

abbrev pub said_by : List ℕ → NoteValue → Option Pre
said_by name (Str string) = final (precondition name string)
said_by name _ = None

-- the region, the range or the alignment that an entry says, where its string has such a shape
abbrev pub said : Note → Option Pre
said n = said_by n.name n.value
