-- What is made of a text can be listed.
use Rattle.std.specs.Prelude.{ℕ, List}
use Rattle.jz_tree.specs.declared.program.Program.{Program}
use Rattle.jz_listing.specs.declared.compiled.Compiled.{Compiled}
use Rattle.jz_listing.specs.Listable.{AreListable}
use Rattle.jasminc_source.specs.Texts.{TypesAs}
use Rattle.jasminc_compile.specs.Making.{AreMade}

-- of whatever text they are made
abbrev pub CanBeListed : List Compiled → Type 0
CanBeListed cs =
    (text : List ℕ) (p : Program) → TypesAs text p → AreMade p cs → AreListable cs
