-- Code without branches: the state is what is left of it.
use Rattle.std.specs.Prelude.{ℕ, ◌+◌, List, ◌∷◌, drop}
use Rattle.jz_ir.specs.declared.code.Op.{Op}
use Rattle.jz_ir.specs.Paths.{IsLive}

pub data Next : List Op → Op → List Op → Type 0 where
  next : {o : Op} {rest : List Op} → Next (o ∷ rest) o rest

-- v is live after the operation i
abbrev pub LiveIn : List Op → ℕ → ℕ → Type 0
LiveIn ops i v = IsLive Next v (drop (i + 1) ops)
