-- A body of a function: its statements read and set what the function has, and its calls are calls.
use Rattle.std.specs.Prelude.{◌≡◌, true, List, [], ◌∷◌}
use Rattle.jz_tree.specs.declared.expr.Var.{Var}
use Rattle.jz_tree.specs.declared.program.Fun.{Fun}
use Rattle.jz_meaning.specs.Trees.{done, op, quiet, choose, loop, each, call}
use Rattle.jz_meaning.specs.Values.{ref_of}
use Rattle.jz_meaning.specs.Shapes.{integers}
use Rattle.jz_meaning.specs.Statements.{Operation, assign, instruction, unset, meaningless, Condition, Counter, Block}
use Rattle.jz_bodies.specs.Scopes.{Scope, Reads, ReadsIf, AllRead, AllWritten}
use Rattle.jz_bodies.specs.Calls.{IsCall}

-- an assignment or an instruction, and nothing that typing excludes
abbrev pub IsOperation : Scope → Operation → Type 0
IsOperation x (assign to o e c at) = AllWritten x to × Reads x e × ReadsIf x c
IsOperation x (instruction to n args at) = AllWritten x to × AllRead x args
IsOperation x (unset vs) = ⊥
IsOperation x (meaningless at) = ⊥

abbrev pub IsTest : Scope → Condition → Type 0
IsTest x p = Reads x p.cond

-- the counter of a `for` holds integers
abbrev pub IsCounter : Scope → Counter → Type 0
IsCounter x f =
    Reads x f.from
    × Reads x f.to
    × (x.sets_scalar (ref_of f.counter) ≡ true)
    × (x.sorts (ref_of f.counter).name (ref_of f.counter).copy ≡ integers)

-- scopes: what is known of the variables of each function
module _ (scopes : Fun → Scope) where
  -- each part of a body, and of the bodies that it calls, is one of its function; none is the head
  -- of a copied body
  abbrev pub IsBody : Scope → Block → Type 0
  IsBody x done = Unit {0}
  IsBody x (op o r) = IsOperation x o × IsBody x r
  IsBody x (quiet o r) = ⊥
  IsBody x (choose t a b r) = IsTest x t × IsBody x a × IsBody x b × IsBody x r
  IsBody x (loop q p t b r) = IsTest x t × IsBody x p × IsBody x b × IsBody x r
  IsBody x (each f b r) = IsCounter x f × IsBody x b × IsBody x r
  IsBody x (call q b r) =
      IsCall x (scopes q.callee) q × IsBody (scopes q.callee) b × IsBody x r

-- the variables that are returned are variables of the function
abbrev pub AreReturned : Scope → List Var → Type 0
AreReturned x [] = Unit {0}
AreReturned x (v ∷ vs) = (x.has_scalar (ref_of v) ≡ true) × AreReturned x vs
