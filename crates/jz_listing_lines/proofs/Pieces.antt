-- The laws of the pieces of a line.
use Rattle.std.proofs.Common.{◌≡◌, ℕ, zero, suc, ◌+◌, ◌<◌, ◌≤◌, ◌^◌, Bool, true, false, ◌&&◌, ◌||◌, ◌==◌, List, [], ◌∷◌, ◌++◌, length, take, drop, Option, Some, None, Result, Ok, Err, refl, sym, ap, ◌∙◌, subst, arith, append_assoc, append-nil, if◌then◌else◌, ⊎_elim, inl, inr, ◌⊎◌}
use Rattle.std.specs.Prelude.{ℤ, codes, decimal, map, All, slice_index, bytes_eq}
use Rattle.std.specs.Fmt.{signed_decimal}
use Rattle.std.specs.Char.{is_ascii_digit}
use Rattle.std.specs.List.{concat, list_all}
use Rattle.std.proofs.lemmas.Bool.{and_parts, and_from}
use Rattle.std.proofs.lemmas.List.Elements.{All-nil, All-cons, All-head, All-tail}
use Rattle.hex.specs.Hex.{encode_lower, decode_of}
use Rattle.hex.specs.declared.error.FromHexError.{FromHexError}
use Rattle.hex.proofs.HexLemmas.{decode_of-encode_lower, decode_of-ok}
use Rattle.jz_words.specs.declared.size.Size.{Size}
use Rattle.jz_words.specs.declared.size.Size.TheVariants.{S8, S16, S32, S64}
use Rattle.x64_insn.specs.declared.types.Reg.{Reg}
use Rattle.x64_insn.specs.declared.types.Reg.TheVariants as reg
use Rattle.x64_insn.specs.Table.{registers}
use Rattle.jz_io.specs.declared.span.Span.{Span}
use Rattle.jz_io.specs.declared.verdict.Ct.{Ct}
use Rattle.jz_io.specs.declared.verdict.Ct.TheVariants as ct
use Rattle.jz_io.specs.declared.verdict.CtKind.{CtKind}
use Rattle.jz_io.specs.declared.verdict.CtKind.TheVariants as kind
use Rattle.jz_leak.specs.declared.transformer.Form.{Form}
use Rattle.jz_leak.specs.declared.transformer.Form.TheVariants as form
use Rattle.jz_leak.specs.declared.transformer.Out.{Out}
use Rattle.jz_leak.specs.declared.transformer.Out.TheVariants as out
use Rattle.jz_text.specs.Texts.{reg_text, span_text}
use Rattle.jz_lex.specs.LexingWords.{begins, heads, in_word}
use Rattle.jz_lex.specs.Identifiers.{IsIdentifier}
use Rattle.jz_lex.proofs.LexingWords.{by_cases, if_true, if_false, same_is, same_self}
use Rattle.jz_listing.specs.declared.compiled.Arg.{Arg}
use Rattle.jz_listing.specs.declared.compiled.Pre.{Pre}
use Rattle.jz_listing.specs.declared.compiled.Pre.TheVariants as pre
use Rattle.jz_listing.specs.Listing.{size_text, extent_text, pre_text, saved_reg_text, saved_text, kind_text, ct_text}
use Rattle.jz_listing.specs.Listable.{form_fits, out_fits, outs_fit}
use Rattle.jz_listing.specs.Transformers.{spaced_pieces, form_text, out_text, outs_text}
use Rattle.jz_listing_lines.specs.Lines.{held_text, cell_text, IsPreLine, IsSecret, IsCtLine}
use Rattle.jz_listing_lines.specs.InnerReaders.{Answer, Reader, ◌>>=◌, through, literal, behind, follow, pick, closed, many, one_of, name, number, small_number, signed_number}
use Rattle.jz_listing_lines.specs.InnerPieces as piece
use Rattle.std.specs.Prelude.{nat_lt}
use Rattle.std.proofs.lemmas.Fmt.{decimal_is_IsNumeral}
use Rattle.std.proofs.lemmas.Bool.{ltb-true, lt-ltb, eqb-true}
use Rattle.jz_listing_lines.proofs.ReaderLaws.{Reads, Always, Only, behind_through_only, some_same, none_some, bind_parts, through_parts, literal_back, literal_only, literal_reads, behind_back, behind_only, behind_reads, follow_reads, through_reads, through_only, reads_as, closed_reads, pick_first, pick_second, pick_only, one_of_only, many_reads, all_text}
use Rattle.jz_listing_lines.proofs.Leaves.{NoWord, NoDigit, IsShort, name_reads, number_reads, small_number_reads, signed_reads, decimal_digits}

-- ---- where names and numbers end
no_space : in_word 32 ≡ false
unfolding in_word
no_space = refl

no_plus : in_word 43 ≡ false
unfolding in_word
no_plus = refl

no_bracket : in_word 91 ≡ false
unfolding in_word
no_bracket = refl

pub no_word_end : NoWord []
no_word_end = refl

-- ---- words of tables
size_back : (s : Size) (rest : List ℕ) → one_of size_text piece.sizes (size_text s ++ rest) ≡ Some (s, rest)
size_back S8 rest = refl
size_back S16 rest = refl
size_back S32 rest = refl
size_back S64 rest = refl

size_reads : Reads piece.size size_text (λ s. Unit {0}) Always
unfolding piece.size
size_reads = record { back = λ s rest h k. size_back s rest; only = λ bs rest s e. one_of_only size_text piece.sizes bs rest s e }

reg_back : (r : Reg) (rest : List ℕ) → one_of reg_text registers (reg_text r ++ rest) ≡ Some (r, rest)
reg_back reg.Rax rest = refl
reg_back reg.Rcx rest = refl
reg_back reg.Rdx rest = refl
reg_back reg.Rbx rest = refl
reg_back reg.Rsp rest = refl
reg_back reg.Rbp rest = refl
reg_back reg.Rsi rest = refl
reg_back reg.Rdi rest = refl
reg_back reg.R8 rest = refl
reg_back reg.R9 rest = refl
reg_back reg.R10 rest = refl
reg_back reg.R11 rest = refl
reg_back reg.R12 rest = refl
reg_back reg.R13 rest = refl
reg_back reg.R14 rest = refl
reg_back reg.R15 rest = refl

pub reg_reads : Reads piece.a_reg reg_text (λ r. Unit {0}) Always
unfolding piece.a_reg
reg_reads = record { back = λ r rest h k. reg_back r rest; only = λ bs rest r e. one_of_only reg_text registers bs rest r e }

kind_back : (k : CtKind) (rest : List ℕ) → one_of kind_text piece.kinds (kind_text k ++ rest) ≡ Some (k, rest)
kind_back kind.Branch rest = refl
kind_back kind.Address rest = refl
kind_back kind.Divide rest = refl

kind_reads : Reads piece.breach_kind kind_text (λ k. Unit {0}) Always
unfolding piece.breach_kind
kind_reads = record { back = λ k rest h s. kind_back k rest; only = λ bs rest k e. one_of_only kind_text piece.kinds bs rest k e }

-- ---- parameters and results
pub held_reads : Reads piece.held held_text (λ a. IsIdentifier a.name) Always
unfolding piece.held
held_reads =
    reads_as held_text (λ a. IsIdentifier a.name) (λ a. refl) (λ a h. h.0) (λ a h. (h, (tt, tt)))
    (through_reads piece.arg_of (λ a. (a.name, (a.size, a.reg))) (λ a. refl) (λ p. refl)
    (follow_reads name_reads (behind_reads (codes " ") (follow_reads size_reads (behind_reads (codes " ") reg_reads) (λ b rest h k. tt))) (λ p rest h k. no_space)))

-- ---- preconditions
-- a factor without a variable is none
abbrev IsExtent : piece.Extent → Type 0
IsExtent (factor, (None, constant)) = (factor ≡ 0) × (constant < 2 ^ 64)
IsExtent (factor, (Some variable, constant)) = (factor < 2 ^ 64) × IsIdentifier variable × (constant < 2 ^ 64)

abbrev text_of_extent : piece.Extent → List ℕ
text_of_extent (factor, (v, constant)) = extent_text factor v constant

-- no factor follows
abbrev pub NoMore : List ℕ → Type 0
NoMore rest = NoDigit rest × (begins (codes "*") rest ≡ false)

factor_reads : Reads (behind (codes "*") (follow name (behind (codes "+") number))) (λ p. codes "*" ++ (p.0 ++ (codes "+" ++ decimal p.1))) (λ p. IsIdentifier p.0 × IsShort p.1) NoDigit
factor_reads = behind_reads (codes "*") (follow_reads name_reads (behind_reads (codes "+") number_reads) (λ p rest h k. no_plus))

extent_back : (x : piece.Extent) (rest : List ℕ) → IsExtent x → NoMore rest → piece.extent (text_of_extent x ++ rest) ≡ Some (x, rest)
unfolding piece.extent piece.extent_rest
extent_back (factor, (None, constant)) rest h s =
    ap (λ o. o >>= λ x. piece.extent_rest x.0 x.1) (number_reads.back constant rest h.1 s.0)
    ∙ if_false (begins (codes "*") rest) _ _ s.1 ∙ ap (λ z. Some ((z, (None, constant)), rest)) (sym h.0)
extent_back (factor, (Some variable, constant)) rest h s =
    let more = codes "*" ++ (variable ++ (codes "+" ++ decimal constant)) in
    let shape : text_of_extent (factor, (Some variable, constant)) ++ rest ≡ decimal factor ++ (more ++ rest) =
    joined (decimal factor) (codes "*") variable (codes "+") (decimal constant) rest in
    ap (λ z. number z >>= λ x. piece.extent_rest x.0 x.1) shape
    ∙ ap (λ o. o >>= λ x. piece.extent_rest x.0 x.1) (number_reads.back factor (more ++ rest) h.0 refl)
    ∙ ap (through (λ (p : List ℕ × ℕ). (factor, (Some p.0, p.1)))) (factor_reads.back (variable, constant) rest (h.1, h.2) s.0)
  where
    joined : (f s v p c rest : List ℕ) → (f ++ s ++ v ++ p ++ c) ++ rest ≡ f ++ ((s ++ (v ++ (p ++ c))) ++ rest)
    joined f s v p c rest = simp append_assoc refl

extent_only : Only piece.extent text_of_extent IsExtent
unfolding piece.extent piece.extent_rest
extent_only bs rest x e =
    let n = bind_parts (number bs) (λ x. piece.extent_rest x.0 x.1) (x, rest) e in
    let a = number_reads.only bs n.0.1 n.0.0 n.1 in
    by_cases ((bs ≡ text_of_extent x ++ rest) × IsExtent x) (begins (codes "*") n.0.1)
    (λ h.
    let went = through_parts (λ (p : List ℕ × ℕ). (n.0.0, (Some p.0, p.1))) (behind (codes "*") (follow name (behind (codes "+") number)) n.0.1) (x, rest)
    (sym (if_true (begins (codes "*") n.0.1) _ _ h) ∙ n.2) in
    let f = factor_reads.only n.0.1 went.0.1 went.0.0 went.1 in
    let Is : piece.Extent × List ℕ → Type 0 = λ z. (bs ≡ text_of_extent z.0 ++ z.1) × IsExtent z.0 in
    let made : (bs ≡ extent_text n.0.0 (Some went.0.0.0) went.0.0.1 ++ went.0.1) × ((n.0.0 < 2 ^ 64) × IsIdentifier went.0.0.0 × (went.0.0.1 < 2 ^ 64)) =
    (a.0 ∙ ap (λ z. decimal n.0.0 ++ z) f.0 ∙ parted (decimal n.0.0) (codes "*") went.0.0.0 (codes "+") (decimal went.0.0.1) went.0.1, (a.1, f.1.0, f.1.1)) in
    subst Is went.2 made)
    (λ h.
    let Is : piece.Extent × List ℕ → Type 0 = λ z. (bs ≡ text_of_extent z.0 ++ z.1) × IsExtent z.0 in
    let made : (bs ≡ decimal n.0.0 ++ n.0.1) × ((0 ≡ 0) × (n.0.0 < 2 ^ 64)) = (a.0, (refl, a.1)) in
    subst Is (some_same ((0, (None, n.0.0)), n.0.1) (x, rest) (sym (if_false (begins (codes "*") n.0.1) _ _ h) ∙ n.2)) made)
  where
    parted : (f s v p c rest : List ℕ) → f ++ ((s ++ (v ++ (p ++ c))) ++ rest) ≡ (f ++ s ++ v ++ p ++ c) ++ rest
    parted f s v p c rest = sym (simp append_assoc refl)

extent_reads : Reads piece.extent text_of_extent IsExtent NoMore
extent_reads = record { back = extent_back; only = extent_only }

region_law : Reads (follow name (behind (codes " ") piece.extent)) (λ p. p.0 ++ (codes " " ++ text_of_extent p.1)) (λ p. IsIdentifier p.0 × IsExtent p.1) NoMore
region_law = follow_reads name_reads (behind_reads (codes " ") extent_reads) (λ p rest h k. no_space)

range_law : Reads (follow name (behind (codes " ") (follow number (behind (codes "..") number)))) (λ p. p.0 ++ (codes " " ++ (decimal p.1.0 ++ (codes ".." ++ decimal p.1.1))))
    (λ p. IsIdentifier p.0 × (IsShort p.1.0 × IsShort p.1.1)) NoDigit
range_law = follow_reads name_reads (behind_reads (codes " ") (follow_reads number_reads (behind_reads (codes "..") number_reads) (λ p rest h k. refl))) (λ p rest h k. no_space)

align_law : Reads (follow name (behind (codes " ") number)) (λ p. p.0 ++ (codes " " ++ decimal p.1)) (λ p. IsIdentifier p.0 × IsShort p.1) NoDigit
align_law = follow_reads name_reads (behind_reads (codes " ") number_reads) (λ p rest h k. no_space)

region_made : (p : List ℕ) (x : piece.Extent) → IsIdentifier p → IsExtent x → IsPreLine (pre.Region p x.0 x.1.0 x.1.1)
region_made p (factor, (None, constant)) h k = (h, k.0, k.1)
region_made p (factor, (Some variable, constant)) h k = (h, k.0, k.1, k.2)

region_parts : (p : List ℕ) (factor : ℕ) (v : Option (List ℕ)) (constant : ℕ) → IsPreLine (pre.Region p factor v constant) → IsIdentifier p × IsExtent (factor, (v, constant))
region_parts p factor None constant h = (h.0, (h.1, h.2))
region_parts p factor (Some v) constant h = (h.0, (h.1, h.2, h.3))

three : (a b c d : List ℕ) → a ++ (b ++ (c ++ d)) ≡ a ++ b ++ c ++ d
three a b c d = sym (simp append_assoc refl)

five : (a b c d e f : List ℕ) → a ++ (b ++ (c ++ (d ++ (e ++ f)))) ≡ a ++ b ++ c ++ d ++ e ++ f
five a b c d e f = sym (simp append_assoc refl)

pre_back : (p : Pre) (rest : List ℕ) → IsPreLine p → NoMore rest → piece.precondition (pre_text p ++ rest) ≡ Some (p, rest)
unfolding piece.precondition piece.region piece.range piece.align
pre_back (pre.Region p factor v constant) rest h s =
    let k = region_parts p factor v constant h in
    let w = p ++ (codes " " ++ extent_text factor v constant) in
    ap (λ z. piece.precondition (z ++ rest)) (sym (three (codes "region ") p (codes " ") (extent_text factor v constant)))
    ∙ ap piece.precondition (append_assoc (codes "region ") w rest)
    ∙ behind_back (codes "region ") piece.region (w ++ rest)
    ∙ ap (through (λ (z : List ℕ × piece.Extent). pre.Region z.0 z.1.0 z.1.1.0 z.1.1.1)) (region_law.back (p, (factor, (v, constant))) rest k s)
pre_back (pre.Range n low high) rest h s =
    let w = n ++ (codes " " ++ (decimal low ++ (codes ".." ++ decimal high))) in
    ap (λ z. piece.precondition (z ++ rest)) (sym (five (codes "range ") n (codes " ") (decimal low) (codes "..") (decimal high)))
    ∙ ap piece.precondition (append_assoc (codes "range ") w rest)
    ∙ behind_back (codes "range ") piece.range (w ++ rest)
    ∙ ap (through (λ (z : List ℕ × (ℕ × ℕ)). pre.Range z.0 z.1.0 z.1.1)) (range_law.back (n, (low, high)) rest (h.0, (h.1, h.2)) s.0)
pre_back (pre.Align p multiple) rest h s =
    let w = p ++ (codes " " ++ decimal multiple) in
    ap (λ z. piece.precondition (z ++ rest)) (sym (three (codes "align ") p (codes " ") (decimal multiple)))
    ∙ ap piece.precondition (append_assoc (codes "align ") w rest)
    ∙ behind_back (codes "align ") piece.align (w ++ rest)
    ∙ ap (through (λ (z : List ℕ × ℕ). pre.Align z.0 z.1)) (align_law.back (p, multiple) rest (h.0, h.1) s.0)

region_only : Only (behind (codes "region ") piece.region) pre_text IsPreLine
unfolding piece.region
region_only = behind_through_only (codes "region ") region_law (λ z. pre.Region z.0 z.1.0 z.1.1.0 z.1.1.1) pre_text IsPreLine
    (λ z. three (codes "region ") z.0 (codes " ") (text_of_extent z.1)) (λ z h. region_made z.0 z.1 h.0 h.1)

range_only : Only (behind (codes "range ") piece.range) pre_text IsPreLine
unfolding piece.range
range_only = behind_through_only (codes "range ") range_law (λ z. pre.Range z.0 z.1.0 z.1.1) pre_text IsPreLine
    (λ z. five (codes "range ") z.0 (codes " ") (decimal z.1.0) (codes "..") (decimal z.1.1)) (λ z h. (h.0, h.1.0, h.1.1))

align_only : Only (behind (codes "align ") piece.align) pre_text IsPreLine
unfolding piece.align
align_only = behind_through_only (codes "align ") align_law (λ z. pre.Align z.0 z.1) pre_text IsPreLine
    (λ z. three (codes "align ") z.0 (codes " ") (decimal z.1)) (λ z h. (h.0, h.1))

pub pre_reads : Reads piece.precondition pre_text IsPreLine NoMore
unfolding piece.precondition
pre_reads = record {
  back = pre_back;
  only = pick_only (codes "region ") _ _ pre_text IsPreLine region_only (pick_only (codes "range ") _ _ pre_text IsPreLine range_only align_only);
}

-- ---- constant time
span_reads : Reads piece.span span_text (λ s. (s.line < 2 ^ 32) × (s.col < 2 ^ 32)) NoDigit
unfolding piece.span span_text
span_reads =
    reads_as span_text (λ s. (s.line < 2 ^ 32) × (s.col < 2 ^ 32)) (λ s. sym (append_assoc (decimal s.line) (codes ":") (decimal s.col))) (λ s h. h) (λ s h. h)
    (through_reads (λ (p : ℕ × ℕ). (let s : Span = record { line = p.0; col = p.1 } in s)) (λ s. (s.line, s.col)) (λ s. refl) (λ p. refl)
    (follow_reads small_number_reads (behind_reads (codes ":") small_number_reads) (λ b rest h k. refl)))

cell_reads : Reads (behind (codes "[") (closed number (codes "]"))) (λ n. codes "[" ++ (decimal n ++ codes "]")) IsShort Always
cell_reads = behind_reads (codes "[") (closed_reads (codes "]") number_reads (λ rest. refl))

-- no name and no cell goes on
abbrev pub NoCell : List ℕ → Type 0
NoCell rest = NoWord rest × (begins (codes "[") rest ≡ false)

secret_back : (v : List ℕ) (rest : List ℕ) → IsSecret v → NoCell rest → piece.secret (v ++ rest) ≡ Some (v, rest)
unfolding piece.secret piece.secret_rest
secret_back v rest (inl h) s =
    ap (λ o. o >>= λ x. piece.secret_rest x.0 x.1) (name_reads.back v rest h s.0) ∙ if_false (begins (codes "[") rest) _ _ s.1
secret_back v rest (inr h) s =
    let cell = codes "[" ++ (decimal h.1 ++ codes "]") in
    let shape : v ++ rest ≡ h.0 ++ (cell ++ rest) = ap (λ z. z ++ rest) h.4 ∙ append_assoc h.0 cell rest in
    ap (λ z. name z >>= λ x. piece.secret_rest x.0 x.1) shape
    ∙ ap (λ o. o >>= λ x. piece.secret_rest x.0 x.1) (name_reads.back h.0 (cell ++ rest) h.2 no_bracket)
    ∙ ap (through (λ n. cell_text h.0 n)) (cell_reads.back h.1 rest h.3 tt)
    ∙ ap (λ z. Some (z, rest)) (sym h.4)

secret_only : Only piece.secret (λ v. v) IsSecret
unfolding piece.secret piece.secret_rest
secret_only bs rest v e =
    let n = bind_parts (name bs) (λ x. piece.secret_rest x.0 x.1) (v, rest) e in
    let a = name_reads.only bs n.0.1 n.0.0 n.1 in
    by_cases ((bs ≡ v ++ rest) × IsSecret v) (begins (codes "[") n.0.1)
    (λ h.
    let went = through_parts (λ k. cell_text n.0.0 k) (behind (codes "[") (closed number (codes "]")) n.0.1) (v, rest) (sym (if_true (begins (codes "[") n.0.1) _ _ h) ∙ n.2) in
    let c = cell_reads.only n.0.1 went.0.1 went.0.0 went.1 in
    let Is : List ℕ × List ℕ → Type 0 = λ z. (bs ≡ z.0 ++ z.1) × IsSecret z.0 in
    let made : (bs ≡ cell_text n.0.0 went.0.0 ++ went.0.1) × IsSecret (cell_text n.0.0 went.0.0) =
    (a.0 ∙ ap (λ z. n.0.0 ++ z) c.0 ∙ sym (append_assoc n.0.0 (codes "[" ++ (decimal went.0.0 ++ codes "]")) went.0.1), inr (n.0.0, went.0.0, a.1, c.1, refl)) in
    subst Is went.2 made)
    (λ h.
    let Is : List ℕ × List ℕ → Type 0 = λ z. (bs ≡ z.0 ++ z.1) × IsSecret z.0 in
    let made : (bs ≡ n.0.0 ++ n.0.1) × IsSecret n.0.0 = (a.0, inl a.1) in
    subst Is (some_same n.0 (v, rest) (sym (if_false (begins (codes "[") n.0.1) _ _ h) ∙ n.2)) made)

secret_reads : Reads piece.secret (λ v. v) IsSecret NoCell
secret_reads = record { back = secret_back; only = secret_only }

breach_law : Reads (follow piece.span (behind (codes " ") (follow piece.breach_kind (behind (codes " ") piece.secret))))
    (λ p. span_text p.0 ++ (codes " " ++ (kind_text p.1.0 ++ (codes " " ++ p.1.1))))
    (λ p. ((p.0.line < 2 ^ 32) × (p.0.col < 2 ^ 32)) × (Unit {0} × IsSecret p.1.1)) NoCell
breach_law = follow_reads span_reads (behind_reads (codes " ") (follow_reads kind_reads (behind_reads (codes " ") secret_reads) (λ p rest h k. tt))) (λ p rest h k. refl)

ct_back : (c : Ct) (rest : List ℕ) → IsCtLine c → NoCell rest → piece.verdict (ct_text c ++ rest) ≡ Some (c, rest)
unfolding piece.verdict piece.breach
ct_back ct.Yes rest h s = ap (through (λ u. ct.Yes)) (literal_back (codes "yes") rest)
ct_back (ct.No span k var) rest h s =
    let w = span_text span ++ (codes " " ++ (kind_text k ++ (codes " " ++ var))) in
    ap (λ z. piece.verdict (z ++ rest)) (sym (five (codes "no ") (span_text span) (codes " ") (kind_text k) (codes " ") var))
    ∙ ap piece.verdict (append_assoc (codes "no ") w rest)
    ∙ behind_back (codes "no ") piece.breach (w ++ rest)
    ∙ ap (through (λ (p : Span × (CtKind × List ℕ)). ct.No p.0 p.1.0 p.1.1)) (breach_law.back (span, (k, var)) rest ((h.0, h.1), (tt, h.2)) s)

pub ct_reads : Reads piece.verdict ct_text IsCtLine NoCell
unfolding piece.verdict piece.breach
ct_reads = record {
  back = ct_back;
  only =
      pick_only (codes "yes") _ _ ct_text IsCtLine
      (through_only (literal (codes "yes")) (λ u. codes "yes") (λ u. Unit {0}) (λ u. ct.Yes) ct_text IsCtLine (λ u. refl) (λ u h. tt) (literal_reads (codes "yes")).only)
      (behind_through_only (codes "no ") breach_law (λ p. ct.No p.0 p.1.0 p.1.1) ct_text IsCtLine
      (λ p. five (codes "no ") (span_text p.0) (codes " ") (kind_text p.1.0) (codes " ") p.1.1) (λ p h. (h.0.0, h.0.1, h.1.1)));
}

-- ---- saved registers
saved_is : (rs : List Reg) → all_text (codes " ") reg_text rs ≡ concat (map saved_reg_text rs)
saved_is rs = refl

some_saved_law : Reads (follow (behind (codes " ") piece.a_reg) (many (codes " ") piece.a_reg)) (λ p. (codes " " ++ reg_text p.0) ++ all_text (codes " ") reg_text p.1)
    (λ p. Unit {0} × All (λ r. Unit {0}) p.1) (λ rest. Always rest × (begins (codes " ") rest ≡ false))
some_saved_law = follow_reads (behind_reads (codes " ") reg_reads) (many_reads (codes " ") reg_reads (omega arith) (λ x. tt)) (λ b rest h k. tt)

all_there : (rs : List Reg) → All (λ r. Unit {0}) rs
all_there [] = All-nil (λ r. Unit {0})
all_there (r ∷ rs) = All-cons (λ r. Unit {0}) r rs tt (all_there rs)

no_dash : (r : Reg) (x : List ℕ) → begins (codes " -") ((codes " " ++ reg_text r) ++ x) ≡ false
no_dash reg.Rax x = refl
no_dash _ x = refl

saved_back : (rs : List Reg) (rest : List ℕ) → begins (codes " ") rest ≡ false → piece.saved (saved_text rs ++ rest) ≡ Some (rs, rest)
unfolding piece.saved piece.some_saved
saved_back [] rest s = ap (through (λ u. [])) (literal_back (codes " -") rest)
saved_back (r ∷ rs) rest s =
    let w = (codes " " ++ reg_text r) ++ concat (map saved_reg_text rs) in
    if_false (begins (codes " -") (w ++ rest)) _ _ (ap (begins (codes " -")) (append_assoc (codes " " ++ reg_text r) (concat (map saved_reg_text rs)) rest) ∙ no_dash r (concat (map saved_reg_text rs) ++ rest))
    ∙ ap (through (λ (p : Reg × List Reg). p.0 ∷ p.1)) (some_saved_law.back (r, rs) rest (tt, all_there rs) (tt, s))

pub saved_reads : Reads piece.saved saved_text (λ rs. Unit {0}) (λ rest. begins (codes " ") rest ≡ false)
unfolding piece.saved piece.some_saved
saved_reads = record {
  back = λ rs rest h s. saved_back rs rest s;
  only =
      pick_only (codes " -") _ _ saved_text (λ rs. Unit {0})
      (through_only (literal (codes " -")) (λ u. codes " -") (λ u. Unit {0}) (λ u. []) saved_text (λ rs. Unit {0}) (λ u. refl) (λ u h. tt) (literal_reads (codes " -")).only)
      (through_only (follow (behind (codes " ") piece.a_reg) (many (codes " ") piece.a_reg)) (λ p. (codes " " ++ reg_text p.0) ++ all_text (codes " ") reg_text p.1) (λ p. Unit {0} × All (λ r. Unit {0}) p.1)
      (λ p. p.0 ∷ p.1) saved_text (λ rs. Unit {0}) (λ p. refl) (λ p h. tt) some_saved_law.only);
}

-- ---- code
bytes_below : (bs : List ℕ) → All (λ b. b < 256) bs → (i : ℕ) → slice_index bs i < 256
bytes_below [] h i = omega arith
bytes_below (b ∷ bs) h zero = All-head (λ b. b < 256) b bs h
bytes_below (b ∷ bs) h (suc i) = bytes_below bs (All-tail (λ b. b < 256) b bs h) i

below_bytes : (bs : List ℕ) → ((i : ℕ) → slice_index bs i < 256) → All (λ b. b < 256) bs
below_bytes [] h = All-nil (λ b. b < 256)
below_bytes (b ∷ bs) h = All-cons (λ b. b < 256) b bs (h 0) (below_bytes bs (λ i. h (suc i)))

pub code_back : (bytes : List ℕ) → All (λ b. b < 256) bytes → piece.code (encode_lower bytes) ≡ Some (bytes, [])
unfolding piece.code
code_back bytes h =
    ap (λ r. piece.alone (piece.bytes_by (encode_lower bytes) r)) (decode_of-encode_lower bytes (bytes_below bytes h))
    ∙ ap piece.alone (if_true (bytes_eq (encode_lower bytes) (encode_lower bytes)) (Some bytes) None (same_self (encode_lower bytes)))

code_by : (bs rest bytes : List ℕ) (r : Result (List ℕ) FromHexError) → decode_of bs ≡ r → piece.alone (piece.bytes_by bs r) ≡ Some (bytes, rest)
    → (bs ≡ encode_lower bytes ++ rest) × All (λ b. b < 256) bytes
code_by bs rest bytes (Err x) d e = none_some (bytes, rest) _ e
code_by bs rest bytes (Ok made) d e = by_cases _ (bytes_eq (encode_lower made) bs)
    (λ h.
    let same = some_same (made, []) (bytes, rest) (ap piece.alone (sym (if_true (bytes_eq (encode_lower made) bs) (Some made) None h)) ∙ e) in
    let Is : List ℕ × List ℕ → Type 0 = λ z. (bs ≡ encode_lower z.0 ++ z.1) × All (λ b. b < 256) z.0 in
    let is : (bs ≡ encode_lower made ++ []) × All (λ b. b < 256) made =
    (sym (same_is (encode_lower made) bs h) ∙ sym (append-nil (encode_lower made)), below_bytes made (decode_of-ok bs made d).3) in
    subst Is same is)
    (λ h. none_some (bytes, rest) _ (ap piece.alone (sym (if_false (bytes_eq (encode_lower made) bs) (Some made) None h)) ∙ e))

pub code_only : Only piece.code encode_lower (λ bytes. All (λ b. b < 256) bytes)
unfolding piece.code
code_only bs rest bytes e = code_by bs rest bytes (decode_of bs) refl e

-- ---- events
abbrev FormFits : Form → Type 0
FormFits f = form_fits f ≡ true

-- no form goes on
abbrev pub NoForm : List ℕ → Type 0
NoForm rest = NoDigit rest × (begins (codes "+") rest ≡ false)

indexed_law : Reads (behind (codes "+") (follow number (behind (codes "*$") number))) (λ p. codes "+" ++ (decimal p.0 ++ (codes "*$" ++ decimal p.1))) (λ p. IsShort p.0 × IsShort p.1) NoDigit
indexed_law = behind_reads (codes "+") (follow_reads number_reads (behind_reads (codes "*$") number_reads) (λ b rest h k. refl))

frame_back : (o : ℤ) (rest : List ℕ) → FormFits (form.Frame o) → NoForm rest → piece.frame_form (signed_decimal o ++ rest) ≡ Some (form.Frame o, rest)
unfolding piece.frame_form piece.frame_rest
frame_back o rest h s =
    ap (λ z. z >>= λ x. piece.frame_rest x.0 x.1) (signed_reads.back o rest h s.0) ∙ if_false (begins (codes "+") rest) _ _ s.1

short_from : (n : ℕ) → n < 2 ^ 64 → nat_lt n (2 ^ 64) ≡ true
short_from n h = lt-ltb n (2 ^ 64) h

short_to : (n : ℕ) → nat_lt n (2 ^ 64) ≡ true → n < 2 ^ 64
short_to n h = ltb-true n (2 ^ 64) h

indexed_back : (o : ℤ) (f i : ℕ) (rest : List ℕ) → FormFits (form.Indexed o f i) → NoForm rest
    → piece.frame_form (signed_decimal o ++ ((codes "+" ++ (decimal f ++ (codes "*$" ++ decimal i))) ++ rest)) ≡ Some (form.Indexed o f i, rest)
unfolding piece.frame_form piece.frame_rest
indexed_back o f i rest h s =
    let h1 = and_parts _ _ h in
    let h2 = and_parts _ _ h1.1 in
    ap (λ z. z >>= λ x. piece.frame_rest x.0 x.1) (signed_reads.back o ((codes "+" ++ (decimal f ++ (codes "*$" ++ decimal i))) ++ rest) h1.0 refl)
    ∙ ap (through (λ (p : ℕ × ℕ). form.Indexed o p.0 p.1)) (indexed_law.back (f, i) rest (short_to f h2.0, short_to i h2.1) s.0)

four : (a b c d e : List ℕ) → a ++ (b ++ (c ++ (d ++ e))) ≡ a ++ b ++ c ++ d ++ e
four a b c d e = sym (simp append_assoc refl)

frame_only : Only (behind (codes "@") piece.frame_form) form_text FormFits
unfolding piece.frame_form piece.frame_rest
frame_only bs rest x e =
    let b = behind_only (codes "@") piece.frame_form bs (x, rest) e in
    let n = bind_parts (signed_number b.0) (λ z. piece.frame_rest z.0 z.1) (x, rest) b.2 in
    let a = signed_reads.only b.0 n.0.1 n.0.0 n.1 in
    let o = n.0.0 in
    by_cases ((bs ≡ form_text x ++ rest) × FormFits x) (begins (codes "+") n.0.1)
    (λ h.
    let went = through_parts (λ (p : ℕ × ℕ). form.Indexed o p.0 p.1) (behind (codes "+") (follow number (behind (codes "*$") number)) n.0.1) (x, rest) (sym (if_true (begins (codes "+") n.0.1) _ _ h) ∙ n.2) in
    let f = indexed_law.only n.0.1 went.0.1 went.0.0 went.1 in
    let Is : Form × List ℕ → Type 0 = λ z. (bs ≡ form_text z.0 ++ z.1) × FormFits z.0 in
    let made : (bs ≡ form_text (form.Indexed o went.0.0.0 went.0.0.1) ++ went.0.1) × FormFits (form.Indexed o went.0.0.0 went.0.0.1) = (
      b.1 ∙ ap (λ z. codes "@" ++ z) (a.0 ∙ ap (λ z. signed_decimal o ++ z) f.0)
          ∙ parted (codes "@") (signed_decimal o) (codes "+") (decimal went.0.0.0) (codes "*$") (decimal went.0.0.1) went.0.1,
      and_from _ _ a.1 (and_from _ _ (short_from went.0.0.0 f.1.0) (short_from went.0.0.1 f.1.1)),
    ) in
    subst Is went.2 made)
    (λ h.
    let Is : Form × List ℕ → Type 0 = λ z. (bs ≡ form_text z.0 ++ z.1) × FormFits z.0 in
    let made : (bs ≡ form_text (form.Frame o) ++ n.0.1) × FormFits (form.Frame o) =
    (b.1 ∙ ap (λ z. codes "@" ++ z) a.0 ∙ sym (append_assoc (codes "@") (signed_decimal o) n.0.1), a.1) in
    subst Is (some_same (form.Frame o, n.0.1) (x, rest) (sym (if_false (begins (codes "+") n.0.1) _ _ h) ∙ n.2)) made)
  where
    parted : (a o p f m i rest : List ℕ) → a ++ (o ++ ((p ++ (f ++ (m ++ i))) ++ rest)) ≡ (a ++ o ++ p ++ f ++ m ++ i) ++ rest
    parted a o p f m i rest = sym (simp append_assoc refl)

no_sign_at : (c n : ℕ) (rest : List ℕ) → is_ascii_digit c ≡ false → n < 2 ^ 64 → begins (c ∷ []) (decimal n ++ rest) ≡ false
no_sign_at c n rest h k = other c (decimal n) rest h (decimal_digits n k) (decimal_is_IsNumeral n k).0.0
  where
    other : (c : ℕ) (ds rest : List ℕ) → is_ascii_digit c ≡ false → list_all is_ascii_digit ds ≡ true → 0 < length ds → begins (c ∷ []) (ds ++ rest) ≡ false
    other c [] rest h k l = absurd (omega (arith, l))
    other c (d ∷ ds) rest h k l = by_cases _ (c == d)
        (λ e. absurd (let same : c ≡ d = eqb-true c d e in let digit : is_ascii_digit c ≡ true = ap is_ascii_digit same ∙ (and_parts (is_ascii_digit d) (list_all is_ascii_digit ds) k).0 in let no : ⊥ = cc in no))
        (λ e. ap (λ z. z && true) e)

form_back : (x : Form) (rest : List ℕ) → FormFits x → NoForm rest → piece.a_form (form_text x ++ rest) ≡ Some (x, rest)
unfolding piece.a_form
form_back (form.Num n) rest h s =
    if_false (begins (codes "$") (decimal n ++ rest)) _ _ (no_sign_at 36 n rest refl (short_to n h))
    ∙ if_false (begins (codes "@") (decimal n ++ rest)) _ _ (no_sign_at 64 n rest refl (short_to n h))
    ∙ ap (through form.Num) (number_reads.back n rest (short_to n h) s.0)
form_back (form.Leaked i) rest h s = ap (through form.Leaked) (behind_back (codes "$") number (decimal i ++ rest) ∙ number_reads.back i rest (short_to i h) s.0)
form_back (form.Frame o) rest h s = behind_back (codes "@") piece.frame_form (signed_decimal o ++ rest) ∙ frame_back o rest h s
form_back (form.Indexed o f i) rest h s =
    let w = (codes "+" ++ (decimal f ++ (codes "*$" ++ decimal i))) ++ rest in
    ap piece.a_form (parted (codes "@") (signed_decimal o) (codes "+") (decimal f) (codes "*$") (decimal i) rest)
    ∙ behind_back (codes "@") piece.frame_form (signed_decimal o ++ w) ∙ indexed_back o f i rest h s
  where
    parted : (a o p f m i rest : List ℕ) → (a ++ o ++ p ++ f ++ m ++ i) ++ rest ≡ a ++ (o ++ ((p ++ (f ++ (m ++ i))) ++ rest))
    parted a o p f m i rest = simp append_assoc refl

form_reads : Reads piece.a_form form_text FormFits NoForm
unfolding piece.a_form
form_reads = record {
  back = form_back;
  only =
      pick_only (codes "$") _ _ form_text FormFits
      (through_only (behind (codes "$") number) (λ n. codes "$" ++ decimal n) IsShort form.Leaked form_text FormFits (λ n. refl) (λ n h. short_from n h) (behind_reads (codes "$") number_reads).only)
      (pick_only (codes "@") _ _ form_text FormFits frame_only
      (through_only number decimal IsShort form.Num form_text FormFits (λ n. refl) (λ n h. short_from n h) number_reads.only));
}

division_law : Reads (follow piece.a_form (behind (codes ":") (follow piece.a_form (behind (codes ":") piece.a_form)))) (λ p. form_text p.0 ++ (codes ":" ++ (form_text p.1.0 ++ (codes ":" ++ form_text p.1.1))))
    (λ p. FormFits p.0 × (FormFits p.1.0 × FormFits p.1.1)) NoForm
division_law = follow_reads form_reads (behind_reads (codes ":") (follow_reads form_reads (behind_reads (codes ":") form_reads) (λ b rest h k. (refl, refl)))) (λ b rest h k. (refl, refl))

abbrev OutFits : Out → Type 0
OutFits o = out_fits o ≡ true

out_back : (o : Out) (rest : List ℕ) → OutFits o → NoForm rest → piece.an_out (out_text o ++ rest) ≡ Some (o, rest)
unfolding piece.an_out piece.division
out_back (out.Branch false) rest h s = ap (through (λ u. out.Branch false)) (literal_back (codes "b0") rest)
out_back (out.Branch true) rest h s = ap (through (λ u. out.Branch true)) (literal_back (codes "b1") rest)
out_back (out.Addr a) rest h s =
    ap piece.an_out (append_assoc (codes "a:") (form_text a) rest)
    ∙ ap (through out.Addr) (behind_back (codes "a:") piece.a_form (form_text a ++ rest) ∙ form_reads.back a rest h s)
out_back (out.Div a b c) rest h s =
    let h1 = and_parts _ _ h in
    let h2 = and_parts _ _ h1.1 in
    let w = form_text a ++ (codes ":" ++ (form_text b ++ (codes ":" ++ form_text c))) in
    ap (λ z. piece.an_out (z ++ rest)) (sym (five (codes "d:") (form_text a) (codes ":") (form_text b) (codes ":") (form_text c)))
    ∙ ap piece.an_out (append_assoc (codes "d:") w rest)
    ∙ behind_back (codes "d:") piece.division (w ++ rest)
    ∙ ap (through (λ (p : Form × (Form × Form)). out.Div p.0 p.1.0 p.1.1)) (division_law.back (a, (b, c)) rest (h1.0, (h2.0, h2.1)) s)

pub out_reads : Reads piece.an_out out_text OutFits NoForm
unfolding piece.an_out piece.division
out_reads = record {
  back = out_back;
  only =
      pick_only (codes "b0") _ _ out_text OutFits
      (through_only (literal (codes "b0")) (λ u. codes "b0") (λ u. Unit {0}) (λ u. out.Branch false) out_text OutFits (λ u. refl) (λ u h. refl) (literal_reads (codes "b0")).only)
      (pick_only (codes "b1") _ _ out_text OutFits
      (through_only (literal (codes "b1")) (λ u. codes "b1") (λ u. Unit {0}) (λ u. out.Branch true) out_text OutFits (λ u. refl) (λ u h. refl) (literal_reads (codes "b1")).only)
      (pick_only (codes "a:") _ _ out_text OutFits
      (through_only (behind (codes "a:") piece.a_form) (λ a. codes "a:" ++ form_text a) FormFits out.Addr out_text OutFits (λ a. refl) (λ a h. h) (behind_reads (codes "a:") form_reads).only)
      (behind_through_only (codes "d:") division_law (λ p. out.Div p.0 p.1.0 p.1.1) out_text OutFits
      (λ p. five (codes "d:") (form_text p.0) (codes ":") (form_text p.1.0) (codes ":") (form_text p.1.1)) (λ p h. and_from _ _ h.0 (and_from _ _ h.1.0 h.1.1)))));
}

-- ---- lists of events
fits_all : (os : List Out) → outs_fit os ≡ true → All OutFits os
fits_all [] h = All-nil OutFits
fits_all (o ∷ os) h = let p = and_parts (out_fits o) (outs_fit os) h in All-cons OutFits o os p.0 (fits_all os p.1)

all_fit : (os : List Out) → All OutFits os → outs_fit os ≡ true
all_fit [] h = refl
all_fit (o ∷ os) h = and_from (out_fits o) (outs_fit os) (All-head OutFits o os h) (all_fit os (All-tail OutFits o os h))

-- pieces with a space between, as one and then others behind spaces
pub spaced_is : {A : Type 0} (t : A → List ℕ) (a : A) (as' : List A) → t a ++ all_text (codes " ") t as' ≡ spaced_pieces (map t (a ∷ as'))
spaced_is t a [] = append-nil (t a)
spaced_is t a (b ∷ bs) = ap (λ z. t a ++ (32 ∷ z)) (spaced_is t b bs)

some_outs_law : Reads (follow piece.an_out (many (codes " ") piece.an_out)) (λ p. out_text p.0 ++ all_text (codes " ") out_text p.1) (λ p. OutFits p.0 × All OutFits p.1) (λ rest. NoForm rest × (begins (codes " ") rest ≡ false))
some_outs_law = follow_reads out_reads (many_reads (codes " ") out_reads (omega arith) (λ x. (refl, refl))) (λ b rest h k. stops b rest k)
  where
    stops : (b : List Out) (rest : List ℕ) → NoForm rest × (begins (codes " ") rest ≡ false) → NoForm (all_text (codes " ") out_text b ++ rest)
    stops [] rest k = k.0
    stops (b ∷ bs) rest k = (refl, refl)

some_closed : Reads (closed piece.some_outs (codes "]")) (λ os. spaced_pieces (map out_text os) ++ codes "]") (λ os. (0 < length os) × (outs_fit os ≡ true)) Always
unfolding piece.some_outs
some_closed = closed_reads (codes "]")
    (record {
      back = λ os rest h k. some_back os rest h.0 h.1 k;
      only = λ bs rest os e. (some_only bs rest os e);
    })
    (λ rest. ((refl, refl), refl))
  where
    some_back : (os : List Out) (rest : List ℕ) → 0 < length os → outs_fit os ≡ true → NoForm rest × (begins (codes " ") rest ≡ false)
        → through (λ (p : Out × List Out). p.0 ∷ p.1) (follow piece.an_out (many (codes " ") piece.an_out) (spaced_pieces (map out_text os) ++ rest)) ≡ Some (os, rest)
    some_back [] rest l h k = absurd (omega (arith, l))
    some_back (o ∷ os) rest l h k =
        let f = fits_all (o ∷ os) h in
        ap (λ z. through (λ (p : Out × List Out). p.0 ∷ p.1) (follow piece.an_out (many (codes " ") piece.an_out) (z ++ rest))) (sym (spaced_is out_text o os))
        ∙ ap (through (λ (p : Out × List Out). p.0 ∷ p.1)) (some_outs_law.back (o, os) rest (All-head OutFits o os f, All-tail OutFits o os f) k)

    some_only : (bs rest : List ℕ) (os : List Out) → through (λ (p : Out × List Out). p.0 ∷ p.1) (follow piece.an_out (many (codes " ") piece.an_out) bs) ≡ Some (os, rest)
        → (bs ≡ spaced_pieces (map out_text os) ++ rest) × ((0 < length os) × (outs_fit os ≡ true))
    some_only bs rest os e =
        let x = through_parts (λ (p : Out × List Out). p.0 ∷ p.1) (follow piece.an_out (many (codes " ") piece.an_out) bs) (os, rest) e in
        let a = some_outs_law.only bs x.0.1 x.0.0 x.1 in
        let Is : List Out × List ℕ → Type 0 = λ z. (bs ≡ spaced_pieces (map out_text z.0) ++ z.1) × ((0 < length z.0) × (outs_fit z.0 ≡ true)) in
        let made : (bs ≡ spaced_pieces (map out_text (x.0.0.0 ∷ x.0.0.1)) ++ x.0.1) × ((0 < length (x.0.0.0 ∷ x.0.0.1)) × (outs_fit (x.0.0.0 ∷ x.0.0.1) ≡ true)) =
        (a.0 ∙ ap (λ z. z ++ x.0.1) (spaced_is out_text x.0.0.0 x.0.0.1), (omega arith, and_from _ _ a.1.0 (all_fit x.0.0.1 a.1.1))) in
        subst Is x.2 made

outs_rest_back : (os : List Out) (rest : List ℕ) → outs_fit os ≡ true → piece.outs_rest ((spaced_pieces (map out_text os) ++ codes "]") ++ rest) ≡ Some (os, rest)
unfolding piece.outs_rest
outs_rest_back [] rest h = ap (through (λ u. [])) (literal_back (codes "]") rest)
outs_rest_back (o ∷ os) rest h =
    if_false (begins (codes "]") ((spaced_pieces (map out_text (o ∷ os)) ++ codes "]") ++ rest)) _ _ (no_close o os rest)
    ∙ some_closed.back (o ∷ os) rest (omega arith, h) tt
  where
    out_no_close : (o : Out) (x : List ℕ) → begins (codes "]") (out_text o ++ x) ≡ false
    out_no_close (out.Branch true) x = refl
    out_no_close (out.Branch false) x = refl
    out_no_close (out.Addr a) x = refl
    out_no_close (out.Div a b c) x = refl

    no_close : (o : Out) (os : List Out) (rest : List ℕ) → begins (codes "]") ((spaced_pieces (map out_text (o ∷ os)) ++ codes "]") ++ rest) ≡ false
    no_close o os rest =
        ap (λ z. begins (codes "]") ((z ++ codes "]") ++ rest)) (sym (spaced_is out_text o os))
        ∙ ap (begins (codes "]")) (append_assoc (out_text o ++ all_text (codes " ") out_text os) (codes "]") rest ∙ append_assoc (out_text o) (all_text (codes " ") out_text os) (codes "]" ++ rest))
        ∙ out_no_close o (all_text (codes " ") out_text os ++ (codes "]" ++ rest))

abbrev OutsFit : List Out → Type 0
OutsFit os = outs_fit os ≡ true

outs_rest_reads : Reads piece.outs_rest (λ os. spaced_pieces (map out_text os) ++ codes "]") OutsFit Always
unfolding piece.outs_rest
outs_rest_reads = record {
  back = λ os rest h k. outs_rest_back os rest h;
  only =
      pick_only (codes "]") _ _ (λ os. spaced_pieces (map out_text os) ++ codes "]") OutsFit
      (through_only (literal (codes "]")) (λ u. codes "]") (λ u. Unit {0}) (λ u. []) (λ os. spaced_pieces (map out_text os) ++ codes "]") OutsFit (λ u. refl) (λ u h. refl) (literal_reads (codes "]")).only)
      (λ bs rest os e. (let x = some_closed.only bs rest os e in (x.0, x.1.1)));
}

pub outs_reads : Reads piece.outs outs_text (λ os. outs_fit os ≡ true) Always
unfolding piece.outs outs_text
outs_reads = reads_as outs_text (λ os. outs_fit os ≡ true) (λ os. sym (append_assoc (codes "[") (spaced_pieces (map out_text os)) (codes "]"))) (λ os h. h) (λ os h. h) (behind_reads (codes "[") outs_rest_reads)
