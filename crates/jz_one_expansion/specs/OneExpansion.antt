-- A function has one expansion, as far as runs, facts and labels see it; there is neither a `for` nor
-- a call in it.
use Rattle.std.specs.Prelude.{ℕ, ◌≡◌}
use Rattle.jz_tree.specs.declared.program.Fun.{Fun}
use Rattle.jz_tree.specs.declared.program.Program.{Program}
use Rattle.jz_change.specs.Changes.{Change}
use Rattle.jz_flow.specs.Soundness.{AllAre}
use Rattle.jz_expansion.specs.FunctionRuns.{plain_body}
use Rattle.jz_expansion.specs.Expansions.{IsExpansion}

-- one body, as a tree; all else of them is the same
pub record IsSame (g h : Fun) : Type 0 where
  pub body : plain_body g ≡ plain_body h
  pub notes : g.notes ≡ h.notes
  pub kind : g.kind ≡ h.kind
  pub name : g.name ≡ h.name
  pub span : g.span ≡ h.span
  pub params : g.params ≡ h.params
  pub rets : g.rets ≡ h.rets
  pub result : g.result ≡ h.result
  pub vars : g.vars ≡ h.vars

pub record IsOne (g h : Fun) (m n : ℕ) : Type 0 where
  pub same : IsSame g h
  pub count : m ≡ n

abbrev pub OneExpansion : Type 0
OneExpansion =
    (p : Program) (f g h : Fun) (k l : Change) (m n : ℕ)
    → IsExpansion p f g k m → IsExpansion p f h l n → IsOne g h m n

abbrev pub NoForLeft : Type 0
NoForLeft =
    (p : Program) (f g : Fun) (k : Change) (n : ℕ)
    → IsExpansion p f g k n → AllAre (λ o. Unit {0}) (λ c. Unit {0}) (plain_body g)
