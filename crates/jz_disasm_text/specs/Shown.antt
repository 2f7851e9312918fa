-- The disassembly of a text, and why there is none.
use Rattle.std.specs.Prelude.{◌≡◌, ◌<◌, ◌^◌, ◌⊎◌, ℕ, true, false, List, [], ◌∷◌, ◌++◌, length}
use Rattle.std.specs.Prelude.{codes, Result, Ok, Err}
use Rattle.jz_lex.specs.LexingWords.{begins}
use Rattle.jz_listing.specs.declared.compiled.Compiled.{Compiled}
use Rattle.jz_listing_read.specs.Reading.{IsListing, IsBadLine}
use Rattle.jz_disasm.specs.Disassembly.{IsDisassembly, IsGap}
use Rattle.jz_disasm.specs.Hexadecimal.{IsHexOf, IsHexFault}
use Rattle.jz_disasm.specs.declared.disassembly.Gap.{Gap}
use Rattle.jz_disasm_text.specs.declared.Fault.{Fault}
use Rattle.jz_disasm_text.specs.declared.Fault.TheVariants.{BadListing, BadHex, Undecodable}

-- a line with a function's name, and the lines of its code
abbrev pub shown_text : List ℕ → List ℕ → List ℕ
shown_text name lines = codes "fn " ++ name ++ codes "\n" ++ lines

-- the functions in order, each with its name and the lines of its code
abbrev pub AreShown : List Compiled → List ℕ → Type 0
AreShown [] out = out ≡ []
AreShown (c ∷ cs) out =
    (lines : List ℕ) × (rest : List ℕ) × IsDisassembly c.code lines × AreShown cs rest
    × (out ≡ shown_text c.name lines ++ rest)

-- The code of the first function that has no disassembly has none for this reason.
pub record HasFirstGap (cs : List Compiled) (gap : Gap) : Type 0 where
  pub front : List Compiled
  pub fun : Compiled
  pub rest : List Compiled
  pub splits : cs ≡ front ++ fun ∷ rest
  pub shown : (out : List ℕ) × AreShown front out
  pub has_gap : IsGap fun.code gap

-- whether a text is read as a listing
abbrev pub IsForListing : List ℕ → Type 0
IsForListing text = begins (codes "jasmin-listing") text ≡ true

abbrev pub IsForHex : List ℕ → Type 0
IsForHex text = begins (codes "jasmin-listing") text ≡ false

-- the disassembly of a listing, or of hexadecimal text
pub record ShowsListing (text out : List ℕ) : Type 0 where
  pub listing : IsForListing text
  pub funs : List Compiled
  pub is : IsListing text funs
  pub shown : AreShown funs out

pub record ShowsHex (text out : List ℕ) : Type 0 where
  pub hex : IsForHex text
  pub code : List ℕ
  pub is : IsHexOf text code
  pub shown : IsDisassembly code out

-- a listing with a function without a disassembly, or hexadecimal text without one
pub record ListingHasGap (text : List ℕ) (gap : Gap) : Type 0 where
  pub listing : IsForListing text
  pub funs : List Compiled
  pub is : IsListing text funs
  pub has_gap : HasFirstGap funs gap

pub record HexHasGap (text : List ℕ) (gap : Gap) : Type 0 where
  pub hex : IsForHex text
  pub code : List ℕ
  pub is : IsHexOf text code
  pub has_gap : IsGap code gap

-- why a text has no disassembly
abbrev pub FailsAs : List ℕ → Fault → Type 0
FailsAs text (BadListing n) = IsForListing text × IsBadLine text n
FailsAs text (BadHex n) = IsForHex text × IsHexFault text n
FailsAs text (Undecodable gap) = ListingHasGap text gap ⊎ HexHasGap text gap

-- the disassembly, or the first reason that there is none
abbrev pub Shows : List ℕ → Result (List ℕ) Fault → Type 0
Shows text (Ok out) = ShowsListing text out ⊎ ShowsHex text out
Shows text (Err fault) = FailsAs text fault

-- code of fewer than 2^32 bytes
abbrev pub IsShort : Compiled → Type 0
IsShort c = length c.code < 2 ^ 32
