-- The lines that tell why a text has no disassembly, without their line feeds.
use Rattle.std.specs.Prelude.{List, ℕ, ◌++◌, codes, decimal}
use Rattle.jz_disasm.specs.declared.disassembly.Gap.{Gap}
use Rattle.jz_disasm.specs.declared.disassembly.GapKind.{GapKind}
use Rattle.jz_disasm.specs.declared.disassembly.GapKind.TheVariants.{Unknown, Truncated}
use Rattle.jz_disasm_text.specs.declared.Fault.{Fault}
use Rattle.jz_disasm_text.specs.declared.Fault.TheVariants.{BadListing, BadHex, Undecodable}

unfoldable pub gap_name : GapKind → List ℕ
gap_name Unknown = codes "Unknown"
gap_name Truncated = codes "Truncated"

abbrev pub gap_text : Gap → List ℕ
gap_text gap = codes "undecodable " ++ decimal gap.offset ++ codes " " ++ gap_name gap.kind

abbrev pub fault_text : Fault → List ℕ
fault_text (BadListing line) = codes "syntax BadListing " ++ decimal line
fault_text (BadHex offset) = codes "syntax BadHex " ++ decimal offset
fault_text (Undecodable gap) = gap_text gap
