-- Decoding answers exactly.
use Rattle.std.proofs.Common.{◌≡◌, ℕ, ◌<◌, ◌≤◌, List, [], ◌++◌, length, take, drop, Result, Ok, Err, refl, sym, ap, ◌∙◌, arith, append-nil, length-append}
use Rattle.std.proofs.lemmas.List.{take-append-drop, length-take-le}
use Rattle.std.proofs.Math.Seq.{take-append_seam}
use Rattle.x64_insn.specs.declared.types.Insn.{Insn}
use Rattle.x64_insn.specs.Encoding.{Fields, AreFields, spelling_of, insn_of, Spells, Decodes, IsBeginning}
use Rattle.x64_decode.specs.declared.Decoded.{Decoded}
use Rattle.x64_decode.specs.declared.Decoded.TheVariants as decoded
use Rattle.x64_decode.specs.declared.reading.Stop.{Stop}
use Rattle.x64_decode.specs.declared.reading.Stop.TheVariants.{Short, Bad}
use Rattle.x64_decode.specs.Decoding.{Parts, parts, fields_of, answer_of, decoded_of}
use Rattle.x64_decode.proofs.ByteReaders.{ok_more, ok_same, apart'}
use Rattle.x64_decode.proofs.PartsRead.{spelled, parts_reads}
use Rattle.x64_decode.proofs.FieldParts.{parts_of, to_parts, to_fields}

insn_same : (i j : Insn) (m n : ℕ) → ◌≡◌ {A = Decoded} (decoded.Insn i m) (decoded.Insn j n) → (i ≡ j) × (m ≡ n)
insn_same i j m n h = let a : i ≡ j = cc in let b : m ≡ n = cc in (a, b)

-- fields are read, whatever follows them
read_fields : (f : Fields) (rest : List ℕ) → AreFields f → parts (spelling_of f ++ rest) ≡ Ok (parts_of f, rest)
unfolding spelled
read_fields f rest ok = parts_reads.again (parts_of f) rest (to_parts f ok)

-- what is read are fields
found_fields : (bs rest : List ℕ) (a : Parts) → parts bs ≡ Ok (a, rest) → (bs ≡ spelling_of (fields_of a) ++ rest) × AreFields (fields_of a)
unfolding spelled
found_fields bs rest a h = let f = parts_reads.found bs rest a h in (f.0, to_fields a f.1)

pub insn_from : (bs : List ℕ) (i : Insn) (len : ℕ) → Decodes bs i len → decoded_of bs ≡ decoded.Insn i len
unfolding decoded_of
insn_from bs i len h =
    let f = h.1.0 in
    let whole : bs ≡ spelling_of f ++ drop len bs = sym (take-append-drop len bs) ∙ ap (λ xs. xs ++ drop len bs) (sym h.1.2) in
    let read = ap parts whole ∙ read_fields f (drop len bs) h.1.1 in
    let size : length (spelling_of f) ≡ len = ap length h.1.2 ∙ length-take-le len bs h.0 in
    ap answer_of read ∙ ap (λ n. decoded.Insn (insn_of f) n) size ∙ ap (λ j. decoded.Insn j len) h.1.3

insn_back : (bs : List ℕ) (i : Insn) (len : ℕ) (r : Result (Parts × List ℕ) Stop) → parts bs ≡ r → answer_of r ≡ decoded.Insn i len → Decodes bs i len
insn_back bs i len (Ok x) e h =
    let f = found_fields bs x.1 x.0 e in
    let s = spelling_of (fields_of x.0) in
    let same = insn_same (insn_of (fields_of x.0)) i (length s) len h in
    let front : take len bs ≡ s = ap (λ n. take n bs) (sym same.1) ∙ ap (take (length s)) f.0 ∙ take-append_seam s x.1 in
    let short : len ≤ length bs = omega (arith, ap length f.0, length-append s x.1, same.1) in
    (short, (fields_of x.0, f.1, sym front, same.0))
insn_back bs i len (Err Short) e h = cc
insn_back bs i len (Err Bad) e h = cc

pub insn_to : (bs : List ℕ) (i : Insn) (len : ℕ) → decoded_of bs ≡ decoded.Insn i len → Decodes bs i len
unfolding decoded_of
insn_to bs i len h = insn_back bs i len (parts bs) refl h

beginning_by : (bs more : List ℕ) (f : Fields) (r : Result (Parts × List ℕ) Stop) → parts bs ≡ r → 0 < length more → AreFields f → spelling_of f ≡ bs ++ more → answer_of r ≡ decoded.Truncated
beginning_by bs more f (Ok x) e lt ok sp =
    let one = ok_more parts_reads bs x.1 more x.0 e in
    let two : parts (bs ++ more) ≡ Ok (parts_of f, []) = ap parts (sym sp ∙ sym (append-nil (spelling_of f))) ∙ read_fields f [] ok in
    let same = ok_same (x.0, x.1 ++ more) (parts_of f, []) (sym one ∙ two) in
    absurd (omega (arith, ap (λ p. length p.1) same, length-append x.1 more))
beginning_by bs more f (Err Short) e lt ok sp = refl
beginning_by bs more f (Err Bad) e lt ok sp =
    let one = parts_reads.bad bs more e in
    let two : parts (bs ++ more) ≡ Ok (parts_of f, []) = ap parts (sym sp ∙ sym (append-nil (spelling_of f))) ∙ read_fields f [] ok in
    apart' (parts_of f, []) Bad _ (sym one ∙ two)

pub beginning_from : (bs : List ℕ) → IsBeginning bs → decoded_of bs ≡ decoded.Truncated
unfolding decoded_of
beginning_from bs h = beginning_by bs h.0 h.3.0 (parts bs) refl h.2 h.3.1 h.3.2

beginning_back : (bs : List ℕ) (r : Result (Parts × List ℕ) Stop) → parts bs ≡ r → answer_of r ≡ decoded.Truncated → IsBeginning bs
unfolding spelled
beginning_back bs (Ok x) e h = cc
beginning_back bs (Err Short) e h = let s = parts_reads.short bs e in (s.0, insn_of (fields_of s.1), s.3, (fields_of s.1, to_fields s.1 s.2, sym s.4, refl))
beginning_back bs (Err Bad) e h = cc

pub beginning_to : (bs : List ℕ) → decoded_of bs ≡ decoded.Truncated → IsBeginning bs
unfolding decoded_of
beginning_to bs h = beginning_back bs (parts bs) refl h

-- the third answer is the one that is left
pub unknown_from : (bs : List ℕ) (d : Decoded) → decoded_of bs ≡ d → (IsBeginning bs → ⊥) → ((i : Insn) (len : ℕ) → Decodes bs i len → ⊥) → d ≡ decoded.Unknown
unknown_from bs (decoded.Insn i len) e h k = absurd (k i len (insn_to bs i len e))
unknown_from bs decoded.Unknown e h k = refl
unknown_from bs decoded.Truncated e h k = absurd (h (beginning_to bs e))

pub unknown_to : (bs : List ℕ) → decoded_of bs ≡ decoded.Unknown → (IsBeginning bs → ⊥) × ((i : Insn) (len : ℕ) → Decodes bs i len → ⊥)
unknown_to bs e = (λ h. let x = beginning_from bs h in cc, λ i len h. let x = insn_from bs i len h in cc)

-- what is spelled is read, whatever follows it
pub read_again : (bs rest : List ℕ) (i : Insn) → Spells bs i → decoded_of (bs ++ rest) ≡ decoded.Insn i (length bs)
unfolding decoded_of
read_again bs rest i h =
    ap (λ xs. answer_of (parts (xs ++ rest))) (sym h.2) ∙ ap answer_of (read_fields h.0 rest h.1) ∙ ap (λ n. decoded.Insn (insn_of h.0) n) (ap length h.2) ∙ ap (λ j. decoded.Insn j (length bs)) h.3

-- no spelling begins another
pub one_form : (a b x y : List ℕ) (i j : Insn) → Spells a i → Spells b j → a ++ x ≡ b ++ y → (a ≡ b) × (i ≡ j)
one_form a b x y i j h k e =
    let same = insn_same i j (length a) (length b) (sym (read_again a x i h) ∙ ap decoded_of e ∙ read_again b y j k) in
    let front : take (length a) (a ++ x) ≡ take (length b) (b ++ y) = ap (λ xs. take (length a) xs) e ∙ ap (λ n. take n (b ++ y)) same.1 in
    (sym (take-append_seam a x) ∙ front ∙ take-append_seam b y, same.0)
