-- Items as arguments of a compiled function.
use Rattle.std.proofs.Common.{◌≡◌, ℕ, List, [], ◌∷◌, length, map, ap, ap₂, refl, arith, sym, ◌∙◌}
use Rattle.std.proofs.lemmas.List.{length-map}
use Rattle.x64_insn.specs.declared.types.Reg.{Reg}
use Rattle.jz_tree.specs.declared.program.Fun.{Fun}
use Rattle.jz_tree.specs.declared.program.Param.{Param}
use Rattle.jz_items.specs.declared.item.Item.{Item}
use Rattle.jz_items.specs.Items.{word_of, words_of}
use Rattle.jz_listing.specs.declared.compiled.Arg.{Arg}
use Rattle.jz_listing.specs.declared.compiled.Compiled.{Compiled}
use Rattle.jz_correct.specs.Registers.{argument_registers}
use Rattle.jz_meaning.specs.declared.access.Kind.{Kind}
use Rattle.jz_meaning.specs.declared.access.Kind.TheVariants as kind
use Rattle.jz_meaning.specs.States.{Value, word}
use Rattle.jz_meaning.specs.Values.{ref_of}
use Rattle.jz_compiled.specs.Lines.{AreArgumentLines}
use Rattle.jz_compiled.specs.Matching.{values_of}
use Rattle.jasminc_calls.specs.Calls.{argument, argument_values, argument_words, bits_of}
use Rattle.jasminc_starts.specs.Starting.{AreLowBits}

-- the argument words are the low bits of the items' words, by the lines of the listing
pub low_bits : (rs : List Reg) (ps : List Param) (args : List Arg) → AreArgumentLines rs ps args → (ns : List ℕ) → length ns ≡ length ps → AreLowBits args ns (map bits_of (argument_values ps ns))
low_bits rs [] [] lines [] e = tt
low_bits rs [] [] lines (n ∷ ns) e = absurd (omega (arith, e))
low_bits rs [] (a ∷ args) lines ns e = absurd lines
low_bits [] (p ∷ ps) args lines ns e = absurd lines
low_bits (r ∷ rs) (p ∷ ps) [] lines ns e = absurd lines
low_bits (r ∷ rs) (p ∷ ps) (a ∷ args) lines [] e = absurd (omega (arith, e))
low_bits (r ∷ rs) (p ∷ ps) (a ∷ args) lines (n ∷ ns) e =
    (ap (λ (k : Kind). bits_of (argument k n)) lines.0.1, low_bits rs ps args lines.1 ns (omega (arith, e)))

-- and the arguments are these words as values
pub same_values : (rs : List Reg) (ps : List Param) (args : List Arg) → AreArgumentLines rs ps args → (ns : List ℕ) → length ns ≡ length ps
    → values_of args (map bits_of (argument_values ps ns)) ≡ argument_values ps ns
same_values rs [] [] lines [] e = refl
same_values rs [] [] lines (n ∷ ns) e = absurd (omega (arith, e))
same_values rs [] (a ∷ args) lines ns e = absurd lines
same_values [] (p ∷ ps) args lines ns e = absurd lines
same_values (r ∷ rs) (p ∷ ps) [] lines ns e = absurd lines
same_values (r ∷ rs) (p ∷ ps) (a ∷ args) lines [] e = absurd (omega (arith, e))
same_values (r ∷ rs) (p ∷ ps) (a ∷ args) lines (n ∷ ns) e =
    ap₂ (λ (v : Value) (vs : List Value). v ∷ vs) (one (ref_of p.var).kind a lines.0.1 n) (same_values rs ps args lines.1 ns (omega (arith, e)))
  where
    one : (k : Kind) (a : Arg) → k ≡ kind.Word a.size → (n : ℕ) → word a.size (bits_of (argument k n)) ≡ argument k n
    one k a e n = ap (λ (m : Kind). word a.size (bits_of (argument m n))) e ∙ sym (ap (λ (m : Kind). argument m n) e)

-- both, of the items of a function
pub low_bits_of : (f : Fun) (c : Compiled) (items : List Item) → AreArgumentLines argument_registers f.params c.args → length items ≡ length f.params
    → AreLowBits c.args (words_of items) (argument_words f items) × (values_of c.args (argument_words f items) ≡ argument_values f.params (words_of items))
low_bits_of f c items lines many =
    let long = length-map items word_of ∙ many in (
      low_bits argument_registers f.params c.args lines (words_of items) long,
      same_values argument_registers f.params c.args lines (words_of items) long,
    )
