-- Actions of RAX and RDX have a spelling.
use Rattle.std.proofs.Common.{◌≡◌, ℕ, Bool, ◌&&◌, true, Option, refl, false}
use Rattle.std.proofs.lemmas.Bool.{false≢true}
use Rattle.jz_words.specs.declared.size.Size.{Size}
use Rattle.jz_words.specs.declared.size.Size.TheVariants.{S8, S16, S32, S64}
use Rattle.x64_insn.specs.declared.types.Reg.{Reg}
use Rattle.x64_insn.specs.declared.types.Wide.{Wide}
use Rattle.x64_insn.specs.Chosen.{is_no_byte, is_spelled}
use Rattle.jz_operations.specs.declared.operation.Pinned.{Pinned}
use Rattle.jz_operations.specs.declared.operation.Arg.{Arg}
use Rattle.jz_operations.specs.declared.operation.Arg.TheVariants as arg
use Rattle.jz_operations.specs.declared.operation.Action.TheVariants as action
use Rattle.jz_encodable.specs.Encodable.{is_spelled_at}
use Rattle.jz_flag_rows.specs.Wide.{IsLong}
use Rattle.jz_total_rows.proofs.Fits.{fit_at, is_place, longer}

-- to a register by itself
pub to_register_spelled : (d : ℕ) (z : Size) (r : Reg) (p : Option Pinned) (x : Arg) → fit_at d z x ≡ true → is_spelled_at d (action.Mov z (arg.At r p) x) ≡ true
unfolding is_spelled
to_register_spelled d z r p (arg.Var w) g = refl
to_register_spelled d z r p (arg.Imm i) g = longer z i r g
to_register_spelled d z r p (arg.Mem m) g = g
to_register_spelled d z r p (arg.Cell k) g = g
to_register_spelled d z r p (arg.At s q) g = refl

long_spelled : (z : Size) (b : Bool) → IsLong z → b ≡ true → (is_no_byte z && b) ≡ true
long_spelled S8 b w e = absurd w
long_spelled S16 b w e = absurd w
long_spelled S32 b w e = e
long_spelled S64 b w e = e

pub wide_spelled : (d : ℕ) (op : Wide) (z : Size) (l h : Option Pinned) (y : Arg) → IsLong z → is_place y ≡ true → fit_at d z y ≡ true → is_spelled_at d (action.Wide op z l h y) ≡ true
unfolding is_spelled
wide_spelled d op z l h (arg.Var v) w p f = long_spelled z true w refl
wide_spelled d op z l h (arg.Mem m) w p f = long_spelled z _ w f
wide_spelled d op z l h (arg.Cell m) w p f = long_spelled z _ w f
wide_spelled d op z l h (arg.Imm i) w p f = absurd (false≢true p)
wide_spelled d op z l h (arg.At r q) w p f = absurd (false≢true p)

pub sign_spelled : (d : ℕ) (z : Size) (l h : Option Pinned) → IsLong z → is_spelled_at d (action.Sign z l h) ≡ true
unfolding is_spelled
sign_spelled d S8 l h w = absurd w
sign_spelled d S16 l h w = absurd w
sign_spelled d S32 l h w = refl
sign_spelled d S64 l h w = refl
