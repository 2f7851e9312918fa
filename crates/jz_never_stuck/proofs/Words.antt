-- The words of an input as values of their parameters.
use Rattle.std.proofs.Common.{◌≡◌, ℕ, ◌<◌, List, [], ◌∷◌, refl, subst, sym}
use Rattle.std.specs.List.{AllZip}
use Rattle.x64_insn.specs.Size.{Size}
use Rattle.x64_insn.specs.Sizes.{modulus}
use Rattle.jz_tree.specs.declared.program.Param.{Param}
use Rattle.jz_meaning.specs.declared.access.Kind.TheVariants as kind
use Rattle.jz_meaning.specs.States.{Value, word}
use Rattle.jz_meaning.specs.Values.{ref_of}
use Rattle.jz_meaning.specs.Runs.{FitsKind}
use Rattle.jz_fact_entry.specs.Entry.{AreWords}

one_fits : (p : Param) (w : ℕ) (v : Value) (z : Size) → w < modulus z → (ref_of p.var).kind ≡ kind.Word z → v ≡ word z w → FitsKind (ref_of p.var).kind v
one_fits p w v z s k e = subst (λ d. FitsKind d v) (sym k) (subst (FitsKind (kind.Word z)) (sym e) (refl, s))

pub all_fit : (ps : List Param) (words : List ℕ) (values : List Value) → AreWords ps words values → AllZip (λ (q : Param) v. FitsKind (ref_of q.var).kind v) ps values
all_fit [] [] [] h = tt
all_fit [] [] (v ∷ values) h = absurd h
all_fit [] (w ∷ words) values h = absurd h
all_fit (p ∷ ps) [] values h = absurd h
all_fit (p ∷ ps) (w ∷ words) [] h = absurd h
all_fit (p ∷ ps) (w ∷ words) (v ∷ values) h = (one_fits p w v h.0.0 h.0.3 h.0.1 h.0.2, all_fit ps words values h.1)
