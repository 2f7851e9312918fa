-- A text has one answer.
use Rattle.std.proofs.Common.{◌≡◌, ℕ, true, false, List, [], ◌∷◌, ◌++◌, inl, inr, sym, ap, ap₂, ◌∙◌, subst}
use Rattle.std.specs.Prelude.{◌⊎◌, Result, Ok, Err}
use Rattle.jz_listing.specs.declared.compiled.Compiled.{Compiled}
use Rattle.jz_listing_read.specs.Reading.{IsBadLine}
use Rattle.jz_listing_read.proofs.Listings.{one_listing, one_bad_line, good_or_bad}
use Rattle.jz_disasm.specs.Disassembly.{IsDisassembly, IsGap}
use Rattle.jz_disasm.specs.Hexadecimal.{IsHexOf, IsHexFault}
use Rattle.jz_disasm.specs.declared.disassembly.Gap.{Gap}
use Rattle.jz_disasm.proofs.Joining.{one_disassembly, one_gap, gap_or_lines}
use Rattle.jz_disasm.proofs.Digits.{one_hex_fault, hex_or_fault}
use Rattle.jz_disasm_text.specs.declared.Fault.{Fault}
use Rattle.jz_disasm_text.specs.declared.Fault.TheVariants.{BadListing, BadHex, Undecodable}
use Rattle.jz_disasm_text.specs.Shown.{shown_text, AreShown, HasFirstGap, IsForListing, IsForHex, ShowsListing, ShowsHex, ListingHasGap, HexHasGap, FailsAs, Shows}

-- ---- functions
one_shown : (cs : List Compiled) (s t : List ℕ) → AreShown cs s → AreShown cs t → s ≡ t
one_shown [] s t a b = a ∙ sym b
one_shown (c ∷ cs) s t a b =
    a.4 ∙ ap₂ (λ x y. shown_text c.name x ++ y) (one_disassembly c.code a.0 b.0 a.2 b.2) (one_shown cs a.1 b.1 a.3 b.3) ∙ sym b.4

shown_or_gap : (front : List Compiled) (c : Compiled) (rest : List Compiled) (out : List ℕ) (gap : Gap) → AreShown (front ++ c ∷ rest) out → IsGap c.code gap → ⊥
shown_or_gap [] c rest out gap a h = gap_or_lines c.code a.0 gap a.2 h
shown_or_gap (f ∷ fs) c rest out gap a h = shown_or_gap fs c rest a.1 gap a.3 h

first_or_shown : (cs : List Compiled) (out : List ℕ) (gap : Gap) → AreShown cs out → HasFirstGap cs gap → ⊥
first_or_shown cs out gap a h = shown_or_gap h.front h.fun h.rest out gap (subst (λ z. AreShown z out) h.splits a) h.has_gap

same_head : (a b : Compiled) (xs ys : List Compiled) → a ∷ xs ≡ b ∷ ys → a ≡ b
same_head a b xs ys e = cc

same_tail : (a b : Compiled) (xs ys : List Compiled) → a ∷ xs ≡ b ∷ ys → xs ≡ ys
same_tail a b xs ys e = cc

abbrev AllShown : List Compiled → Type 0
AllShown cs = (out : List ℕ) × AreShown cs out

one_place : (fs gs : List Compiled) (f g : Compiled) (rs ts : List Compiled) (x y : Gap) → fs ++ f ∷ rs ≡ gs ++ g ∷ ts → AllShown fs → AllShown gs → IsGap f.code x → IsGap g.code y → x ≡ y
one_place [] [] f g rs ts x y e a b h k = one_gap f.code x y h (subst (λ (z : Compiled). IsGap z.code y) (sym (same_head f g rs ts e)) k)
one_place [] (d ∷ gs) f g rs ts x y e a b h k =
    let same = same_head f d rs (gs ++ g ∷ ts) e in
    absurd (gap_or_lines d.code b.1.0 x b.1.2 (subst (λ (z : Compiled). IsGap z.code x) same h))
one_place (d ∷ fs) [] f g rs ts x y e a b h k =
    let same = same_head d g (fs ++ f ∷ rs) ts e in
    absurd (gap_or_lines d.code a.1.0 y a.1.2 (subst (λ (z : Compiled). IsGap z.code y) (sym same) k))
one_place (c ∷ fs) (d ∷ gs) f g rs ts x y e a b h k =
    one_place fs gs f g rs ts x y (same_tail c d (fs ++ f ∷ rs) (gs ++ g ∷ ts) e) (a.1.1, a.1.3) (b.1.1, b.1.3) h k

one_first_gap : (cs : List Compiled) (x y : Gap) → HasFirstGap cs x → HasFirstGap cs y → x ≡ y
one_first_gap cs x y a b = one_place a.front b.front a.fun b.fun a.rest b.rest x y (sym a.splits ∙ b.splits) a.shown b.shown a.has_gap b.has_gap

-- ---- hexadecimal text
ok_same : {E : Type 0} (a b : List ℕ) → ◌≡◌ {A = Result (List ℕ) E} (Ok a) (Ok b) → a ≡ b
ok_same a b e = cc

one_code : (text a b : List ℕ) → IsHexOf text a → IsHexOf text b → a ≡ b
one_code text a b x y = ok_same a b (sym x.digits ∙ y.digits)

-- ---- texts
-- no text is read in both ways
one_way : (text : List ℕ) → IsForListing text → IsForHex text → ⊥
one_way text a b = let e : true ≡ false = sym a ∙ b in cc

one_text : (text s t : List ℕ) → ShowsListing text s ⊎ ShowsHex text s → ShowsListing text t ⊎ ShowsHex text t → s ≡ t
one_text text s t (inl a) (inl b) = one_shown a.funs s t a.shown (subst (λ cs. AreShown cs t) (one_listing text b.funs a.funs b.is a.is) b.shown)
one_text text s t (inl a) (inr b) = absurd (one_way text a.listing b.hex)
one_text text s t (inr a) (inl b) = absurd (one_way text b.listing a.hex)
one_text text s t (inr a) (inr b) = one_disassembly a.code s t a.shown (subst (λ c. IsDisassembly c t) (one_code text b.code a.code b.is a.is) b.shown)

shown_or_fault : (text s : List ℕ) (f : Fault) → ShowsListing text s ⊎ ShowsHex text s → FailsAs text f → ⊥
shown_or_fault text s (BadListing n) (inl a) b = good_or_bad text a.funs n a.is b.1
shown_or_fault text s (BadListing n) (inr a) b = one_way text b.0 a.hex
shown_or_fault text s (BadHex n) (inl a) b = one_way text a.listing b.0
shown_or_fault text s (BadHex n) (inr a) b = hex_or_fault text a.code n a.is b.1
shown_or_fault text s (Undecodable g) (inl a) (inl b) = first_or_shown a.funs s g a.shown (subst (λ cs. HasFirstGap cs g) (one_listing text b.funs a.funs b.is a.is) b.has_gap)
shown_or_fault text s (Undecodable g) (inl a) (inr b) = one_way text a.listing b.hex
shown_or_fault text s (Undecodable g) (inr a) (inl b) = one_way text b.listing a.hex
shown_or_fault text s (Undecodable g) (inr a) (inr b) = gap_or_lines a.code s g a.shown (subst (λ c. IsGap c g) (one_code text b.code a.code b.is a.is) b.has_gap)

line_or_gap : (text : List ℕ) (n : ℕ) (g : Gap) → IsForListing text → IsBadLine text n → ListingHasGap text g ⊎ HexHasGap text g → ⊥
line_or_gap text n g l a (inl b) = good_or_bad text b.funs n b.is a
line_or_gap text n g l a (inr b) = one_way text l b.hex

hex_fault_or_gap : (text : List ℕ) (n : ℕ) (g : Gap) → IsForHex text → IsHexFault text n → ListingHasGap text g ⊎ HexHasGap text g → ⊥
hex_fault_or_gap text n g l a (inl b) = one_way text b.listing l
hex_fault_or_gap text n g l a (inr b) = hex_or_fault text b.code n b.is a

one_gap_of : (text : List ℕ) (g h : Gap) → ListingHasGap text g ⊎ HexHasGap text g → ListingHasGap text h ⊎ HexHasGap text h → g ≡ h
one_gap_of text g h (inl a) (inl b) = one_first_gap a.funs g h a.has_gap (subst (λ cs. HasFirstGap cs h) (one_listing text b.funs a.funs b.is a.is) b.has_gap)
one_gap_of text g h (inl a) (inr b) = absurd (one_way text a.listing b.hex)
one_gap_of text g h (inr a) (inl b) = absurd (one_way text b.listing a.hex)
one_gap_of text g h (inr a) (inr b) = one_gap a.code g h a.has_gap (subst (λ c. IsGap c h) (one_code text b.code a.code b.is a.is) b.has_gap)

one_fault : (text : List ℕ) (e f : Fault) → FailsAs text e → FailsAs text f → e ≡ f
one_fault text (BadListing m) (BadListing n) a b = ap BadListing (one_bad_line text m n a.1 b.1)
one_fault text (BadListing m) (BadHex n) a b = absurd (one_way text a.0 b.0)
one_fault text (BadListing m) (Undecodable g) a b = absurd (line_or_gap text m g a.0 a.1 b)
one_fault text (BadHex m) (BadListing n) a b = absurd (one_way text b.0 a.0)
one_fault text (BadHex m) (BadHex n) a b = ap BadHex (one_hex_fault text m n a.1 b.1)
one_fault text (BadHex m) (Undecodable g) a b = absurd (hex_fault_or_gap text m g a.0 a.1 b)
one_fault text (Undecodable g) (BadListing n) a b = absurd (line_or_gap text n g b.0 b.1 a)
one_fault text (Undecodable g) (BadHex n) a b = absurd (hex_fault_or_gap text n g b.0 b.1 a)
one_fault text (Undecodable g) (Undecodable h) a b = ap Undecodable (one_gap_of text g h a b)

pub one_answer : (text : List ℕ) (a b : Result (List ℕ) Fault) → Shows text a → Shows text b → a ≡ b
one_answer text (Ok s) (Ok t) a b = ap Ok (one_text text s t a b)
one_answer text (Ok s) (Err f) a b = absurd (shown_or_fault text s f a b)
one_answer text (Err f) (Ok s) a b = absurd (shown_or_fault text s f b a)
one_answer text (Err e) (Err f) a b = ap Err (one_fault text e f a b)
