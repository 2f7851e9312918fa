-- The loops over lists of registers and of events.
use Rattle.std.proofs.Common.{◌≡◌, ℕ, ◌<◌, List, [], ◌∷◌, ◌++◌, length, true, false, Some, None, arith}
use Rattle.std.specs.Prelude.{codes}
use Rattle.x64_insn.specs.declared.types.Reg.{Reg}
use Rattle.jz_leak.specs.declared.transformer.Out.{Out}
use Rattle.jz_text.specs.Texts.{reg_text}
use Rattle.jz_listing.specs.Transformers.{out_text}
use Rattle.jz_listing.specs.Listable.{out_fits}
use Rattle.jz_lex.specs.LexingWords.{begins}
use Rattle.jz_listing_lines.specs.InnerReaders.{behind, more_of}
use Rattle.jz_listing_lines.specs.InnerPieces.{a_reg, an_out}
use Rattle.jz_listing_lines.proofs.ReaderLaws.{Always, more_done, more_next, more_wrong, more_shorter}
use Rattle.jz_listing_lines.proofs.Pieces.{NoForm, reg_reads, out_reads}

pub regs_done : (out : List Reg) (c : List ℕ) → begins (codes " ") c ≡ false → more_of (codes " ") a_reg out c ≡ Some (out, c)
regs_done out c h = more_done (codes " ") a_reg out c h

pub regs_next : (out : List Reg) (c new : List ℕ) (a : Reg) → begins (codes " ") c ≡ true → behind (codes " ") a_reg c ≡ Some (a, new) → more_of (codes " ") a_reg out c ≡ more_of (codes " ") a_reg (out ++ a ∷ []) new
regs_next out c new a b e = more_next (codes " ") a_reg reg_text (λ r. Unit {0}) Always reg_reads (omega arith) out c new a b e

pub regs_wrong : (out : List Reg) (c : List ℕ) → begins (codes " ") c ≡ true → behind (codes " ") a_reg c ≡ None → more_of (codes " ") a_reg out c ≡ None
regs_wrong out c b e = more_wrong (codes " ") a_reg out c (omega arith) b e

pub regs_shorter : (c new : List ℕ) (a : Reg) → behind (codes " ") a_reg c ≡ Some (a, new) → length new < length c
regs_shorter c new a e = more_shorter (codes " ") a_reg reg_text (λ r. Unit {0}) Always reg_reads (omega arith) c new a e

pub outs_done : (out : List Out) (c : List ℕ) → begins (codes " ") c ≡ false → more_of (codes " ") an_out out c ≡ Some (out, c)
outs_done out c h = more_done (codes " ") an_out out c h

pub outs_next : (out : List Out) (c new : List ℕ) (a : Out) → begins (codes " ") c ≡ true → behind (codes " ") an_out c ≡ Some (a, new) → more_of (codes " ") an_out out c ≡ more_of (codes " ") an_out (out ++ a ∷ []) new
outs_next out c new a b e = more_next (codes " ") an_out out_text (λ o. out_fits o ≡ true) NoForm out_reads (omega arith) out c new a b e

pub outs_wrong : (out : List Out) (c : List ℕ) → begins (codes " ") c ≡ true → behind (codes " ") an_out c ≡ None → more_of (codes " ") an_out out c ≡ None
outs_wrong out c b e = more_wrong (codes " ") an_out out c (omega arith) b e

pub outs_shorter : (c new : List ℕ) (a : Out) → behind (codes " ") an_out c ≡ Some (a, new) → length new < length c
outs_shorter c new a e = more_shorter (codes " ") an_out out_text (λ o. out_fits o ≡ true) NoForm out_reads (omega arith) c new a e
