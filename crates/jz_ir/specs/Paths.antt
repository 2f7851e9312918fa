-- Liveness by paths, in any code that runs operation by operation.
use Rattle.std.specs.Prelude.{ℕ, Bool, List, nat_eq, IsTrue, IsFalse}
use Rattle.std.specs.List.{list_any}
use Rattle.jz_ir.specs.declared.code.Op.{Op}

abbrev pub among : List ℕ → ℕ → Bool
among xs v = list_any (λ x. nat_eq x v) xs

-- some path from s reads v and doesn't write it before
pub data IsLive {S : Type 0} (Step : S → Op → S → Type 0) (v : ℕ) : S → Type 0 where
  read_here : {s t : S} {o : Op} → Step s o t → IsTrue (among o.reads v) → IsLive Step v s
  read_later :
      {s t : S} {o : Op} → Step s o t → IsFalse (among o.writes v) → IsLive Step v t
      → IsLive Step v s

-- v is live after the operation at s
abbrev pub IsLiveAfter : {S : Type 0} → (S → Op → S → Type 0) → ℕ → S → Type 0
IsLiveAfter {S} Step v s = (o : Op) × (t : S) × Step s o t × IsLive Step v t
