-- The numbers in the bodies of two expansions of one function.
use Rattle.std.specs.Prelude.{ℕ, ◌≡◌, Contains}
use Rattle.jz_tree.specs.declared.program.Fun.{Fun}
use Rattle.jz_tree.specs.declared.program.Program.{Program}
use Rattle.jz_typed_runs.specs.TypedTexts.{IsTypedText}
use Rattle.jz_change.specs.Changes.{Change}
use Rattle.jz_one_expansion.specs.Expansions.{IsExpansion}
use Rattle.jz_body_numbers.specs.Numbers.{of_body}

abbrev pub OneNumbers : Type 0
OneNumbers =
    (p : Program) (f g h : Fun) (k l : Change) (m n : ℕ) → IsTypedText p → Contains p.funs f
    → IsExpansion p f g k m → IsExpansion p f h l n → of_body g.body ≡ of_body h.body
