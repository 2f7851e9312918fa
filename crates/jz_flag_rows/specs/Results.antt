-- Left sides that an instruction writes at a place of its own: flags, and words in RAX and RDX.
use Rattle.std.specs.Prelude.{◌≡◌, List, [], ◌∷◌, Option, Some, None}
use Rattle.jz_words.specs.declared.size.Size.{Size}
use Rattle.jz_io.specs.declared.span.Span.{Span}
use Rattle.jz_tree.specs.declared.expr.Var.{Var}
use Rattle.jz_tree.specs.declared.stmt.Lval.{Lval}
use Rattle.jz_tree.specs.declared.stmt.Lval.TheVariants as lval
use Rattle.jz_meaning.specs.declared.access.Kind.TheVariants as kind
use Rattle.jz_meaning.specs.Values.{key_of, ref_of}
use Rattle.jz_meaning.specs.Assignments.{left_span}
use Rattle.jz_operations.specs.declared.operation.Pinned.{Pinned}
use Rattle.jz_operations.specs.declared.operation.Flags.{Flags}
use Rattle.jz_homes.specs.Homes.{Homes, in_register, in_flag}

-- a statement of several results, or of an intrinsic, begins where its first left side does
abbrev pub begins_at : List Lval → Span → Span
begins_at [] at = at
begins_at (d ∷ ds) at = left_span d

-- a flag is a bool variable, where the text names it, or `_`
pub data IsFlag (home : Homes) : Lval → Option Pinned → Type 0 where
  no_variable : (at : Span) → IsFlag home (lval.Skip at) None
  a_variable :
      (x : Var) (k : Pinned) → (ref_of x).kind ≡ kind.Bool
      → home (key_of (ref_of x)) ≡ Some (in_flag k.variable) → k.span ≡ (ref_of x).span
      → IsFlag home (lval.Var x) (Some k)

-- a word of that size in RAX or RDX is a variable, where the text names it, or `_`
pub data IsPinned (home : Homes) (z : Size) : Lval → Option Pinned → Type 0 where
  no_word : (at : Span) → IsPinned home z (lval.Skip at) None
  a_word :
      (x : Var) (k : Pinned) → (ref_of x).kind ≡ kind.Word z
      → home (key_of (ref_of x)) ≡ Some (in_register k.variable z) → k.span ≡ (ref_of x).span
      → IsPinned home z (lval.Var x) (Some k)

-- ---- the flags among the results, in their order
-- CF alone, before a sum or a difference
abbrev pub carry_alone : Option Pinned → Flags
carry_alone c = record { of = None; cf = c; sf = None; pf = None; zf = None }

-- OF, CF, SF, PF, ZF
pub data AreFive (home : Homes) : List Lval → Flags → List Lval → Type 0 where
  five :
      {o c s p z : Lval} {ko kc ks kp kz : Option Pinned} (rest : List Lval)
      → IsFlag home o ko → IsFlag home c kc → IsFlag home s ks → IsFlag home p kp
      → IsFlag home z kz
      → AreFive home (o ∷ c ∷ s ∷ p ∷ z ∷ rest)
      (record { of = ko; cf = kc; sf = ks; pf = kp; zf = kz }) rest

-- OF, SF, PF, ZF: what keeps CF has none
pub data AreFour (home : Homes) : List Lval → Flags → List Lval → Type 0 where
  four :
      {o s p z : Lval} {ko ks kp kz : Option Pinned} (rest : List Lval)
      → IsFlag home o ko → IsFlag home s ks → IsFlag home p kp → IsFlag home z kz
      → AreFour home (o ∷ s ∷ p ∷ z ∷ rest)
      (record { of = ko; cf = None; sf = ks; pf = kp; zf = kz }) rest

-- OF, CF: rotations keep the others
pub data AreTwo (home : Homes) : List Lval → Flags → List Lval → Type 0 where
  two :
      {o c : Lval} {ko kc : Option Pinned} (rest : List Lval)
      → IsFlag home o ko → IsFlag home c kc
      → AreTwo home (o ∷ c ∷ rest)
      (record { of = ko; cf = kc; sf = None; pf = None; zf = None }) rest
