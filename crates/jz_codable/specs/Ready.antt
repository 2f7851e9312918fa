-- What a function over variables has to be to become bytes, whatever places its variables get.
use Rattle.std.specs.Prelude.{◌<◌, ◌^◌, ℕ, ◌+◌, Bool, true, false, Some, None, length, Contains, ⊤}
use Rattle.std.specs.List.{AllByRecursion}
use Rattle.jz_ir.specs.Places.{IsWithin}
use Rattle.jz_runs.specs.Trees.{Tree, done, op, quiet, choose, loop, each, call}
use Rattle.jz_encodable.specs.Encodable.{IsEncodable}
use Rattle.jz_place.specs.Variables.{Asked, always, asks, Body}
use Rattle.jz_place.specs.declared.tree.Ir.{Ir}
use Rattle.jz_place.specs.Bodies.{body_of, seen_code}
use Rattle.jz_place.specs.Sorts.{AreSorted}
use Rattle.jz_correct.specs.Frames.{preserved_registers}

abbrev pub TestEncodable : Asked → Type 0
TestEncodable always = ⊤
TestEncodable (asks None k) = ⊤
TestEncodable (asks (Some o) k) = IsEncodable o

-- a `while` that is written without a body has none
abbrev pub HasForm : {O T F C : Type 0} → Bool → Tree O T F C → Type 0
HasForm false b = ⊤
HasForm true done = ⊤
HasForm true b = ⊥

abbrev pub AreEncodable : Body → Type 0
AreEncodable done = ⊤
AreEncodable (op o r) = IsEncodable o × AreEncodable r
AreEncodable (quiet o r) = AreEncodable r
AreEncodable (choose c a b r) =
    TestEncodable c × AreEncodable a × AreEncodable b × AreEncodable r
AreEncodable (loop q p c b r) =
    AreEncodable p × TestEncodable c × HasForm q b × AreEncodable b × AreEncodable r
AreEncodable (each f b r) = absurd f
AreEncodable (call c b r) = absurd c

-- how many operations, branches and loops it has
abbrev pub parts_of : Body → ℕ
parts_of done = 0
parts_of (op o r) = 1 + parts_of r
parts_of (quiet o r) = parts_of r
parts_of (choose c a b r) = 1 + parts_of a + parts_of b + parts_of r
parts_of (loop q p c b r) = 1 + parts_of p + parts_of b + parts_of r
parts_of (each f b r) = absurd f
parts_of (call c b r) = absurd c

-- fewer variables and parts than have numbers and displacements of 32 bits
pub record IsShort (f : Ir) : Type 0 where
  pub count : length f.kinds < 2 ^ 32
  pub short : parts_of (body_of f.body) < 2 ^ 26

pub record IsReady (f : Ir) : Type 0 where
  -- each variable has a kind
  pub within : IsWithin (seen_code f)
  pub count : length f.kinds < 2 ^ 32
  -- the operations are those of its kinds, and can be encoded
  pub sorted : AreSorted f.kinds (body_of f.body)
  pub encodable : AreEncodable (body_of f.body)
  pub short : parts_of (body_of f.body) < 2 ^ 26
  -- no result is in a register of the caller
  pub results : AllByRecursion (λ p. Contains preserved_registers p.reg → ⊥) f.results
