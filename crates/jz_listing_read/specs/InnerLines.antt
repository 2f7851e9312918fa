-- What private contracts say of the lines of a text.
use Rattle.std.specs.Prelude.{◌≡◌, ℕ, List, Some, None, Result, Ok, Err}
use Rattle.jz_data.specs.declared.failure.Failure.{Failure}
use Rattle.jz_data.specs.declared.failure.Failure.TheVariants.{Refused, OutOfMemory}
use Rattle.jz_listing_lines.specs.declared.line.Line.{Line}
use Rattle.jz_listing_lines.specs.Lines.{line_text, IsLine}
use Rattle.jz_listing_read.specs.declared.state.State.{State}
use Rattle.jz_listing_read.specs.InnerStates.{take}

-- no line that these bytes are may come next
abbrev pub NoNext : State → List ℕ → Type 0
NoNext s bytes = (l : Line) → IsLine l → line_text l ≡ bytes → take s l ≡ None

-- the line that these bytes are, and what is known behind it
abbrev pub IsNext : State → List ℕ → State → Type 0
IsNext s bytes t = (l : Line) × IsLine l × (line_text l ≡ bytes) × (take s l ≡ Some t)

-- what is known behind a line, or the number of a line that may not come
abbrev pub Follows : State → List ℕ → ℕ → Result State (Failure ℕ) → Type 0
Follows s bytes number (Ok t) = IsNext s bytes t
Follows s bytes number (Err (Refused n)) = (n ≡ number) × NoNext s bytes
Follows s bytes number (Err OutOfMemory) = Unit {0}
