-- The functions of a listing, and the first line that no listing has.
use Rattle.std.specs.Prelude.{◌≡◌, ◌<◌, ◌^◌, ◌⊎◌, ℕ, suc, Bool, true, not, ◌==◌, List, [], ◌∷◌}
use Rattle.std.specs.Prelude.{◌++◌, length, map, All, Result, Ok, Err}
use Rattle.std.specs.List.{AllPass, concat}
use Rattle.jz_lex.specs.Identifiers.{IsIdentifier}
use Rattle.jz_listing.specs.declared.compiled.Arg.{Arg}
use Rattle.jz_listing.specs.declared.compiled.Compiled.{Compiled}
use Rattle.jz_listing.specs.Listing.{listing_text}
use Rattle.jz_listing.specs.Listable.{transformer_fits}
use Rattle.jz_listing_lines.specs.Lines.{IsPreLine, IsCtLine}

abbrev pub IsNamed : Arg → Type 0
IsNamed a = IsIdentifier a.name

-- A function as a listing has them: its names are identifiers, and the variable of a breach may be
-- a cell too; its numbers have 64 bits, those of a place 32.
pub record IsListed (c : Compiled) : Type 0 where
  pub name : IsIdentifier c.name
  pub args : All IsNamed c.args
  pub rets : All IsNamed c.rets
  pub pre : All IsPreLine c.pre
  pub frame : c.frame < 2 ^ 64
  pub insns : c.insns < 2 ^ 64
  pub code : All (λ b. b < 256) c.code
  pub tr : transformer_fits c.tr ≡ true
  pub ct : IsCtLine c.ct

-- the text is the listing of these functions
abbrev pub IsListing : List ℕ → List Compiled → Type 0
IsListing text cs = All IsListed cs × (text ≡ listing_text cs)

-- some listing begins with these bytes
abbrev pub BeginsListing : List ℕ → Type 0
BeginsListing front = (cs : List Compiled) × (more : List ℕ) × IsListing (front ++ more) cs

-- no listing has this text
abbrev pub IsNoListing : List ℕ → Type 0
IsNoListing text = (cs : List Compiled) → ¬ IsListing text cs

-- a byte that does not end a line
abbrev pub is_in_line : ℕ → Bool
is_in_line b = not (b == 10)

-- a line without its end
abbrev pub IsOneLine : List ℕ → Type 0
IsOneLine line = AllPass is_in_line line

-- a line with its end
abbrev pub ended : List ℕ → List ℕ
ended line = line ++ 10 ∷ []

-- the text of whole lines
abbrev pub lines_text : List (List ℕ) → List ℕ
lines_text lines = concat (map ended lines)

-- No listing begins with the line of this number and those before it, but one does with those
-- before it alone. Where the text ends, no line goes on: a text that ends within a line has no
-- listing's line there, and neither has one that ends before its function does.
pub record IsBadLine (text : List ℕ) (number : ℕ) : Type 0 where
  pub before : List (List ℕ)
  pub line : List ℕ
  pub rest : List ℕ
  pub are_lines : All IsOneLine before
  pub is_line : IsOneLine line
  pub number_is : number ≡ suc (length before)
  pub good : BeginsListing (lines_text before)
  pub bad :
      ((text ≡ lines_text before ++ (ended line ++ rest))
      × ¬ BeginsListing (lines_text before ++ ended line))
      ⊎ ((text ≡ lines_text before ++ line) × IsNoListing text)

-- the functions of the listing, or the first line that no listing has
abbrev pub ReadsListing : List ℕ → Result (List Compiled) ℕ → Type 0
ReadsListing text (Ok cs) = IsListing text cs
ReadsListing text (Err number) = IsBadLine text number
