-- The two forms of a count.
use Rattle.std.proofs.Common.{◌≡◌, ℕ, Bool, ℤ, pos, negsuc}
use Rattle.jz_tree.specs.Span.{Span}
use Rattle.x64_insn.specs.Size.TheVariants.{S8}
use Rattle.jz_tree.specs.declared.expr.BinOp.TheVariants as o
use Rattle.jz_meaning.specs.declared.access.Kind.TheVariants as kind
use Rattle.jz_meaning.specs.States.{Key}
use Rattle.jz_meaning.specs.Values.{Ref}
use Rattle.jz_run_laws.specs.Kinds.{Kinds}
use Rattle.jz_terms.specs.Terms.{Term, num, truth, var, cell, load, neg, inv, cast, bin}
use Rattle.jz_standing.specs.Typing.{IsScalar, IsCount}

module _ (kinds : Kinds) (in_frame : Key → Bool) (P : Term → Type 0)
    (by_number : (n : ℕ) (at : Span) → P (num (pos n) at))
    (by_mask : (x : Ref) (n : ℤ) (t at : Span) → x.kind ≡ kind.Word S8 → IsScalar kinds in_frame x → P (bin o.And (var x) (num n t) at)) where
  pub counted : (t : Term) → IsCount kinds in_frame t → P t
  counted (num (pos n) at) i = by_number n at
  counted (num (negsuc n) at) i = absurd i
  counted (truth b at) i = absurd i
  counted (var x) i = absurd i
  counted (cell x j) i = absurd i
  counted (load p a) i = absurd i
  counted (neg a at) i = absurd i
  counted (inv a at) i = absurd i
  counted (cast y sign a at) i = absurd i
  counted (bin o.And (var x) (num n t) at) i = by_mask x n t at i.0 i.1
  counted (bin o.And (var x) (truth e0 e1) at) i = absurd i
  counted (bin o.And (var x) (cell e0 e1) at) i = absurd i
  counted (bin o.And (var x) (load e0 e1) at) i = absurd i
  counted (bin o.And (var x) (neg e0 e1) at) i = absurd i
  counted (bin o.And (var x) (inv e0 e1) at) i = absurd i
  counted (bin o.And (var x) (cast e0 e1 e2 e3) at) i = absurd i
  counted (bin o.And (var x) (bin e0 e1 e2 e3) at) i = absurd i
  counted (bin o.And (var x) (var e0) at) i = absurd i
  counted (bin o.And (num d0 d1) b at) i = absurd i
  counted (bin o.And (truth d0 d1) b at) i = absurd i
  counted (bin o.And (cell d0 d1) b at) i = absurd i
  counted (bin o.And (load d0 d1) b at) i = absurd i
  counted (bin o.And (neg d0 d1) b at) i = absurd i
  counted (bin o.And (inv d0 d1) b at) i = absurd i
  counted (bin o.And (cast d0 d1 d2 d3) b at) i = absurd i
  counted (bin o.And (bin d0 d1 d2 d3) b at) i = absurd i
  counted (bin o.OrElse a b at) i = absurd i
  counted (bin o.AndThen a b at) i = absurd i
  counted (bin o.Or a b at) i = absurd i
  counted (bin o.Xor a b at) i = absurd i
  counted (bin o.Eq a b at) i = absurd i
  counted (bin o.Ne a b at) i = absurd i
  counted (bin o.Lt a b at) i = absurd i
  counted (bin o.Le a b at) i = absurd i
  counted (bin o.Gt a b at) i = absurd i
  counted (bin o.Ge a b at) i = absurd i
  counted (bin o.LtS a b at) i = absurd i
  counted (bin o.LeS a b at) i = absurd i
  counted (bin o.GtS a b at) i = absurd i
  counted (bin o.GeS a b at) i = absurd i
  counted (bin o.Shl a b at) i = absurd i
  counted (bin o.Shr a b at) i = absurd i
  counted (bin o.Sar a b at) i = absurd i
  counted (bin o.Rol a b at) i = absurd i
  counted (bin o.Ror a b at) i = absurd i
  counted (bin o.Add a b at) i = absurd i
  counted (bin o.Sub a b at) i = absurd i
  counted (bin o.Mul a b at) i = absurd i
  counted (bin o.Div a b at) i = absurd i
  counted (bin o.Rem a b at) i = absurd i
  counted (bin o.DivS a b at) i = absurd i
  counted (bin o.RemS a b at) i = absurd i
