-- What holds of functions over variables.
use Rattle.std.specs.Prelude.{◌≡◌, ◌<◌, ℕ, List, Some, ⊤}
use Rattle.std.specs.List.{AllZip}
use Rattle.std.specs.FinMap.{get}
use Rattle.jz_words.specs.declared.size.Size.{Size}
use Rattle.jz_words.specs.Sizes.{modulus}
use Rattle.jz_words.specs.Memory.{Memory}
use Rattle.jz_tree.specs.declared.expr.Var.{Var}
use Rattle.jz_tree.specs.declared.program.Fun.{Fun}
use Rattle.jz_tree.specs.declared.program.Param.{Param}
use Rattle.jz_ir.specs.declared.code.Kind.{Kind}
use Rattle.jz_runs.specs.Trees.{done, op, quiet, choose, loop, each, call}
use Rattle.jz_runs.specs.Rules.{went}
use Rattle.jz_meaning.specs.States as source
use Rattle.jz_meaning.specs.Values.{key_of, ref_of}
use Rattle.jz_meaning.specs.Statements.{Block}
use Rattle.jz_meaning.specs.Runs.{entry_state, result_word}
use Rattle.jz_operations.specs.Values.{State, word}
use Rattle.jz_operations.specs.Rows.{Frame}
use Rattle.jz_placing.specs.Variables.{Body}
use Rattle.jz_change.specs.Changes.{Change}
use Rattle.jz_place.specs.declared.tree.Ir.{Ir}
use Rattle.jz_place.specs.Sorts.{AreSorted}
use Rattle.jz_correct.specs.Registers.{argument_registers, result_registers}
use Rattle.jz_codable.specs.Ready.{HasForm, IsShort, IsReady}
use Rattle.jz_homes.specs.Homes.{Homes, IsHoming, IsRelated, in_register}
use Rattle.jz_every_row.specs.Bodies.{IsLowered}
use Rattle.jz_lowered.specs.Functions.{AreKinds, entry_of, IsLoweredFun}

-- a parameter is a variable of this word's size
abbrev pub IsWordFor : Homes → Param → source.Value → Type 0
IsWordFor home p v =
    (n : ℕ) × (z : Size) × (a : ℕ) × (home (key_of (ref_of p.var)) ≡ Some (in_register n z))
    × (v ≡ source.word z a) × (a < modulus z)

-- where the parameters have their words the states are related
abbrev pub EntriesAreRelated : Type 0
EntriesAreRelated =
    (frame : Frame) (home : Homes) (f : Fun) (words : List source.Value) (memory : Memory)
    → IsHoming frame home → AllZip (IsWordFor home) f.params words
    → ((a b : ℕ) → get memory a ≡ Some b → b < 256)
    → IsRelated home (entry_state f words memory) (entry_of home f.params words memory)

-- a result that is read is there
abbrev pub ResultsAreThere : Type 0
ResultsAreThere =
    (home : Homes) (s : source.State) (σ : State) (x : Var) (n : ℕ) (z : Size) (ns : List ℕ)
    (v : source.Value)
    → IsRelated home s σ → home (key_of (ref_of x)) ≡ Some (in_register n z)
    → result_word x s.store ≡ went ns v
    → (a : ℕ) × (v ≡ source.word z a) × (a < modulus z) × (σ.vars n ≡ Some (word z a))

-- each operation and each test is what the placing of variables asks
abbrev pub BodiesAreSorted : Type 0
BodiesAreSorted =
    (home : Homes) (kinds : List Kind) (b : Block) (u : Body) (k : Change)
    → AreKinds home kinds → IsLowered home b u k → AreSorted kinds u

-- ---- what machine code asks
-- each `while` that is written without a body has none
abbrev pub AreFormed : Block → Type 0
AreFormed done = ⊤
AreFormed (op o r) = AreFormed r
AreFormed (quiet o r) = AreFormed r
AreFormed (choose c a b r) = AreFormed a × AreFormed b × AreFormed r
AreFormed (loop q p c b r) = AreFormed p × HasForm q b × AreFormed b × AreFormed r
AreFormed (each f b r) = AreFormed b × AreFormed r
AreFormed (call c b r) = AreFormed b × AreFormed r

-- by the registers of the calling convention
abbrev pub FunctionsAreReady : Type 0
FunctionsAreReady =
    (home : Homes) (f : Fun) (b : Block) (ir : Ir) (k : Change)
    → IsLoweredFun home argument_registers result_registers f b ir k → AreFormed b → IsShort ir
    → IsReady ir
