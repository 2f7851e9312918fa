-- Functions shown one after another.
use Rattle.std.proofs.Common.{◌≡◌, ℕ, ◌+◌, ◌<◌, List, [], ◌∷◌, ◌++◌, length, take, drop, get_or, refl, sym, ap, ◌∙◌, subst, append_assoc, append-nil, arith}
use Rattle.std.proofs.lemmas.List.{take_more, take-append-drop, drop_more, take_all}
use Rattle.jz_listing.specs.declared.compiled.Compiled.{Compiled}
use Rattle.jz_disasm.specs.Disassembly.{IsDisassembly, IsGap}
use Rattle.jz_disasm.specs.declared.disassembly.Gap.{Gap}
use Rattle.jz_disasm_text.specs.Shown.{shown_text, AreShown, HasFirstGap}

pub shown_push : (cs : List Compiled) (c : Compiled) (out lines : List ℕ) → AreShown cs out → IsDisassembly c.code lines → AreShown (cs ++ c ∷ []) (out ++ shown_text c.name lines)
shown_push [] c out lines h d = (lines, [], d, refl, ap (λ z. z ++ shown_text c.name lines) h ∙ sym (append-nil (shown_text c.name lines)))
shown_push (b ∷ bs) c out lines h d = (
  h.0,
  h.1 ++ shown_text c.name lines,
  h.2,
  shown_push bs c h.1 lines h.3 d,
  ap (λ z. z ++ shown_text c.name lines) h.4 ∙ append_assoc (shown_text b.name h.0) h.1 (shown_text c.name lines),
)

pub none_shown : (funs : List Compiled) (out : List ℕ) → out ≡ [] → AreShown (take 0 funs) out
none_shown funs out e = e

pub one_shown : (funs : List Compiled) (i : ℕ) (c : Compiled) (out new lines : List ℕ) → i < length funs → c ≡ get_or funs i c → AreShown (take i funs) out → IsDisassembly c.code lines
    → new ≡ out ++ shown_text c.name lines → AreShown (take (i + 1) funs) new
one_shown funs i c out new lines l e h d n =
    let shape : take i funs ++ c ∷ [] ≡ take (i + 1) funs = ap (λ z. take i funs ++ z ∷ []) e ∙ sym (take_more funs i c l) in
    subst (λ z. AreShown (take (i + 1) funs) z) (sym n) (subst (λ z. AreShown z (out ++ shown_text c.name lines)) shape (shown_push (take i funs) c out lines h d))

pub all_shown : (funs : List Compiled) (out : List ℕ) → AreShown (take (length funs) funs) out → AreShown funs out
all_shown funs out h = subst (λ z. AreShown z out) (take_all (length funs) funs (omega arith)) h

pub gap_there : (funs : List Compiled) (i : ℕ) (c : Compiled) (out : List ℕ) (gap : Gap) → i < length funs → c ≡ get_or funs i c → AreShown (take i funs) out → IsGap c.code gap → HasFirstGap funs gap
gap_there funs i c out gap l e h g = record {
  front = take i funs;
  fun = c;
  rest = drop (i + 1) funs;
  splits = sym (take-append-drop i funs) ∙ ap (λ z. take i funs ++ z) (drop_more funs i c l) ∙ ap (λ z. take i funs ++ z ∷ drop (i + 1) funs) (sym e);
  shown = (out, h);
  has_gap = g;
}
