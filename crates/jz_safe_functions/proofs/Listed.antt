-- The words of an input as values, by the lines of a listing.
use Rattle.std.proofs.Common.{ℕ, ◌<◌, List, [], ◌∷◌, refl, subst}
use Rattle.std.specs.List.{AllZip}
use Rattle.x64_insn.specs.declared.types.Reg.{Reg}
use Rattle.jz_tree.specs.declared.program.Param.{Param}
use Rattle.jz_preconditions.specs.Meeting.{IsArgument}
use Rattle.jz_listing.specs.declared.compiled.Arg.{Arg}
use Rattle.jz_compiled.specs.Lines.{AreArgumentLines}
use Rattle.jz_compiled.specs.Matching.{values_of}
use Rattle.jz_compiled.proofs.KindLemmas.{word_values}
use Rattle.jz_fact_entry.specs.Entry.{AreWords}

pub listed_words : (rs : List Reg) (ps : List Param) (args : List Arg) (words : List ℕ) → AreArgumentLines rs ps args → AllZip IsArgument ps words → AreWords ps words (values_of args words)
listed_words rs [] [] [] h s = tt
listed_words rs [] [] (w ∷ words) h s = absurd s
listed_words [] [] (a ∷ args) words h s = absurd h
listed_words (r ∷ rs) [] (a ∷ args) words h s = absurd h
listed_words [] (p ∷ ps) args words h s = absurd h
listed_words (r ∷ rs) (p ∷ ps) [] words h s = absurd h
listed_words (r ∷ rs) (p ∷ ps) (a ∷ args) [] h s = absurd s
listed_words (r ∷ rs) (p ∷ ps) (a ∷ args) (w ∷ words) h s = ((a.size, h.0.1, refl, subst (λ m. w < m) (word_values p.var a.size h.0.1) s.0), listed_words rs ps args words h.1 s.1)
