-- That numbers have the sizes of their types, which isn't seen in a value.
use Rattle.std.specs.Prelude.{◌≡◌, ◌<◌, ◌^◌, true, All, ⊤}
use Rattle.jz_io.specs.declared.verdict.Ct.{Ct}
use Rattle.jz_io.specs.declared.verdict.Ct.TheVariants as ct
use Rattle.jz_listing.specs.declared.compiled.Compiled.{Compiled}
use Rattle.jz_listing.specs.Listable.{transformer_fits}

-- the place of a breach has numbers of 32 bits
abbrev pub HasSmallPlace : Ct → Type 0
HasSmallPlace ct.Yes = ⊤
HasSmallPlace (ct.No span kind var) = (span.line < 2 ^ 32) × (span.col < 2 ^ 32)

-- a compiled function has numbers of 64 bits, its code has bytes
pub record HasSizes (c : Compiled) : Type 0 where
  pub frame : c.frame < 2 ^ 64
  pub insns : c.insns < 2 ^ 64
  pub code : All (λ b. b < 256) c.code
  pub tr : transformer_fits c.tr ≡ true
  pub place : HasSmallPlace c.ct
