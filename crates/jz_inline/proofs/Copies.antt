-- How the variables of one copied body stand among those of all copies.
use Rattle.std.specs.Prelude.{ℕ, ◌<◌, ◌≡◌}
use Rattle.jz_tree.specs.declared.program.Fun.{Fun}
use Rattle.jz_meaning.specs.States.{Key, State, same_key}
use Rattle.jz_meaning.specs.Values.{Ref}
use Rattle.jz_meaning.specs.Shapes.{HoldsSorts}
use Rattle.jz_meaning.specs.Statements.{Operation, Condition, Counter, Call}
use Rattle.jz_pass.specs.Copying.{Copying, along}
use Rattle.jz_bodies.specs.Scopes.{Scope, Has, Sets, IsScope}
use Rattle.jz_inline.specs.Names.{Names}
use Rattle.jz_inline.specs.Calls.{names_of_callee, inline_calls}

-- what is known of a function's variables, and where they are in a copy
pub record ScopeCopy : Type 0 where
  pub names : Names
  pub scope : Scope

-- where a variable of the function is in the copy
abbrev pub key_in : Names → Key → Key
key_in names k = record { name = (names k.name).0; copy = (names k.name).1; cell = k.cell }

abbrev pub ref_in : Names → Ref → Ref
ref_in names x =
    record {
      name = (names x.name).0;
      copy = (names x.name).1;
      cell = x.cell;
      kind = x.kind;
      span = x.span;
    }

-- what the function has is in the copy as it is in s
pub record Agrees (x : ScopeCopy) (s t : State) : Type 0 where
  pub store : (k : Key) → Has x.scope k → t.store (key_in x.names k) ≡ s.store k
  pub memory : t.memory ≡ s.memory

-- in the copy what it sets is apart from whatever else it has, and nothing of it is of a copy from c on
pub record IsBelow (x : ScopeCopy) (c : ℕ) : Type 0 where
  pub scope : IsScope x.scope
  pub below : (k : Key) → Has x.scope k → (key_in x.names k).copy < c
  pub apart : (k q : Key) → Sets x.scope k → Has x.scope q → same_key (key_in x.names k) (key_in x.names q) ≡ same_key k q

-- where the body stands in s, all copies stand in t
pub record Stands (x : ScopeCopy) (s t : State) : Type 0 where
  pub agrees : Agrees x s t
  pub sorted : HoldsSorts x.scope.sorts s.store

-- of the copies below c nothing changed but what x may set
abbrev pub Within : ScopeCopy → ℕ → State → State → Type 0
Within x c t t1 = (k : Key) → k.copy < c → ((q : Key) → Sets x.scope q → key_in x.names q ≡ k → ⊥) → t1.store k ≡ t.store k

module _ (scopes : Fun → Scope) where
  abbrev pub callee_copy : ScopeCopy → ℕ → Call → ScopeCopy
  callee_copy x j q = record { names = names_of_callee x.names j q; scope = scopes q.callee }

  -- the same copying, with what is known of each function that is called
  abbrev pub inline : Copying Operation Condition Counter Call ScopeCopy
  inline = along inline_calls (λ x. x.names) callee_copy
