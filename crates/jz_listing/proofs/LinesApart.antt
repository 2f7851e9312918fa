-- Listings are told apart.
use Rattle.std.proofs.Common.{◌≡◌, ℕ, zero, suc, ◌+◌, ◌*◌, ◌/◌, ◌%◌, ◌<◌, ◌^◌, Bool, true, false, List, [], ◌∷◌, ◌++◌, refl, sym, ap, ◌∙◌, append_assoc, append-nil, arith, lit<, Some, None}
use Rattle.std.specs.Prelude.{map, codes, decimal, ◌==◌, if◌then◌else◌, not, slice_index, All}
use Rattle.std.specs.List.{concat, list_all}
use Rattle.std.proofs.lemmas.Bool.{and_parts, and_from}
use Rattle.std.proofs.lemmas.List.Elements.{All-head, All-tail}
use Rattle.std.proofs.lemmas.List.Sums.{list_all-from_AllPass}
use Rattle.jz_text.specs.Texts.{reg_text, span_text}
use Rattle.hex.specs.Hex.{encode_lower, encode_with, lower_digits, decode_of}
use Rattle.hex.proofs.HexLemmas.{decode_of-encode_lower}
use Rattle.x64_insn.specs.Size.{Size}
use Rattle.x64_insn.specs.Size.TheVariants.{S8, S16, S32, S64}
use Rattle.jz_io.specs.declared.verdict.Ct.{Ct}
use Rattle.jz_io.specs.declared.verdict.Ct.TheVariants as ct
use Rattle.jz_io.specs.declared.verdict.CtKind.{CtKind}
use Rattle.jz_io.specs.declared.verdict.CtKind.TheVariants as kind
use Rattle.jz_io.specs.declared.span.Span.{Span}
use Rattle.x64_insn.specs.declared.types.Reg.{Reg}
use Rattle.x64_insn.specs.declared.types.Reg.TheVariants as reg
use Rattle.jz_listing.specs.declared.compiled.Arg.{Arg}
use Rattle.jz_listing.specs.declared.compiled.Pre.{Pre}
use Rattle.jz_listing.specs.declared.compiled.Pre.TheVariants as pre
use Rattle.jz_listing.specs.declared.compiled.Compiled.{Compiled}
use Rattle.jz_listing.specs.Transformers.{transformer_text}
use Rattle.jz_listing.specs.Listing.{size_text, arg_text, arg_line, ret_line, extent_text, pre_line, saved_reg_text, saved_text, kind_text, ct_text, interface_text, frame_text, code_text, leakage_text, compiled_text, listing_text}
use Rattle.jz_listing.specs.Listable.{is_name_byte, is_variable_byte, IsName, IsListableArg, IsListablePre, IsListableCt, IsListable, AreListable}
use Rattle.jz_listing.proofs.Apart.{first, rest, without_front, spans, decimal_apart, lines_apart}
use Rattle.jz_listing.proofs.TransformersApart.{transformer_apart}

-- ---- words of finite tables
-- the register of a name, by its second and third byte
abbrev reg_at : ℕ → Reg
reg_at k =
    if k == 97 * 256 + 120 then reg.Rax else (if k == 99 * 256 + 120 then reg.Rcx else (if k == 100 * 256 + 120 then reg.Rdx else (if k == 98 * 256 + 120 then reg.Rbx else (
    if k == 115 * 256 + 112 then reg.Rsp else (if k == 98 * 256 + 112 then reg.Rbp else (if k == 115 * 256 + 105 then reg.Rsi else (if k == 100 * 256 + 105 then reg.Rdi else (
    if k == 56 * 256 then reg.R8 else (if k == 57 * 256 then reg.R9 else (if k == 49 * 256 + 48 then reg.R10 else (if k == 49 * 256 + 49 then reg.R11 else (
    if k == 49 * 256 + 50 then reg.R12 else (if k == 49 * 256 + 51 then reg.R13 else (if k == 49 * 256 + 52 then reg.R14 else reg.R15))))))))))))))

abbrev reg_of : List ℕ → Reg
reg_of t = reg_at (first (rest t) * 256 + first (rest (rest t)))

reg_read : (r : Reg) → reg_of (reg_text r) ≡ r
reg_read reg.Rax = refl
reg_read reg.Rcx = refl
reg_read reg.Rdx = refl
reg_read reg.Rbx = refl
reg_read reg.Rsp = refl
reg_read reg.Rbp = refl
reg_read reg.Rsi = refl
reg_read reg.Rdi = refl
reg_read reg.R8 = refl
reg_read reg.R9 = refl
reg_read reg.R10 = refl
reg_read reg.R11 = refl
reg_read reg.R12 = refl
reg_read reg.R13 = refl
reg_read reg.R14 = refl
reg_read reg.R15 = refl

reg_named : (r : Reg) → list_all is_name_byte (reg_text r) ≡ true
reg_named reg.Rax = refl
reg_named _ = refl

reg_first : (r : Reg) (x : List ℕ) → first (reg_text r ++ x) ≡ 114
reg_first reg.Rax x = refl
reg_first _ x = refl

reg_apart : (r s : Reg) (x y : List ℕ) → is_name_byte (first x) ≡ false → is_name_byte (first y) ≡ false → reg_text r ++ x ≡ reg_text s ++ y → (r ≡ s) × (x ≡ y)
reg_apart r s x y p q e =
    let b = spans is_name_byte (reg_text r) (reg_text s) x y (reg_named r) (reg_named s) p q e in (sym (reg_read r) ∙ ap reg_of b.0 ∙ reg_read s, b.1)

abbrev size_of : List ℕ → Size
size_of t = let k = first (rest t) in if k == 56 then S8 else (if k == 49 then S16 else (if k == 51 then S32 else S64))

size_read : (s : Size) → size_of (size_text s) ≡ s
size_read S8 = refl
size_read S16 = refl
size_read S32 = refl
size_read S64 = refl

size_named : (s : Size) → list_all is_name_byte (size_text s) ≡ true
size_named S8 = refl
size_named _ = refl

size_apart : (r s : Size) (x y : List ℕ) → is_name_byte (first x) ≡ false → is_name_byte (first y) ≡ false → size_text r ++ x ≡ size_text s ++ y → (r ≡ s) × (x ≡ y)
size_apart r s x y p q e =
    let b = spans is_name_byte (size_text r) (size_text s) x y (size_named r) (size_named s) p q e in (sym (size_read r) ∙ ap size_of b.0 ∙ size_read s, b.1)

abbrev kind_of : List ℕ → CtKind
kind_of t = let k = first t in if k == 66 then kind.Branch else (if k == 65 then kind.Address else kind.Divide)

kind_read : (s : CtKind) → kind_of (kind_text s) ≡ s
kind_read kind.Branch = refl
kind_read kind.Address = refl
kind_read kind.Divide = refl

kind_named : (s : CtKind) → list_all is_name_byte (kind_text s) ≡ true
kind_named kind.Branch = refl
kind_named _ = refl

kind_apart : (r s : CtKind) (x y : List ℕ) → is_name_byte (first x) ≡ false → is_name_byte (first y) ≡ false → kind_text r ++ x ≡ kind_text s ++ y → (r ≡ s) × (x ≡ y)
kind_apart r s x y p q e =
    let b = spans is_name_byte (kind_text r) (kind_text s) x y (kind_named r) (kind_named s) p q e in (sym (kind_read r) ∙ ap kind_of b.0 ∙ kind_read s, b.1)

name_apart : (m n x y : List ℕ) → IsName m → IsName n → is_name_byte (first x) ≡ false → is_name_byte (first y) ≡ false → m ++ x ≡ n ++ y → (m ≡ n) × (x ≡ y)
name_apart m n x y h k p q e = spans is_name_byte m n x y (list_all-from_AllPass is_name_byte m h) (list_all-from_AllPass is_name_byte n k) p q e

-- ---- lines of parameters and results
joined_six : (n k s l r m x : List ℕ) → (n ++ k ++ s ++ l ++ r ++ m) ++ x ≡ n ++ (k ++ (s ++ (l ++ (r ++ (m ++ x)))))
joined_six n k s l r m x = simp append_assoc refl

arg_shape : (a : Arg) (x : List ℕ) → arg_text a ++ x ≡ a.name ++ (32 ∷ (size_text a.size ++ (32 ∷ (reg_text a.reg ++ (10 ∷ x)))))
arg_shape a x = joined_six a.name (32 ∷ []) (size_text a.size) (32 ∷ []) (reg_text a.reg) (10 ∷ []) x

arg_apart : (a b : Arg) (x y : List ℕ) → IsListableArg a → IsListableArg b → arg_text a ++ x ≡ arg_text b ++ y → (a ≡ b) × (x ≡ y)
arg_apart a b x y h k e =
    let s = sym (arg_shape a x) ∙ e ∙ arg_shape b y in
    let r1 = name_apart a.name b.name _ _ h k refl refl s in
    let r2 = size_apart a.size b.size _ _ refl refl (ap rest r1.1) in
    let r3 = reg_apart a.reg b.reg _ _ refl refl (ap rest r2.1) in
    (λ i. record { name = r1.0 i; size = r2.0 i; reg = r3.0 i }, ap rest r3.1)

-- ---- preconditions
joined_five : (k s v l c x : List ℕ) → (k ++ s ++ v ++ l ++ c) ++ x ≡ k ++ (s ++ (v ++ (l ++ (c ++ x))))
joined_five k s v l c x = simp append_assoc refl

region_shape : (p b x : List ℕ) → ((112 ∷ 114 ∷ 101 ∷ 32 ∷ []) ++ (codes "region " ++ p ++ (32 ∷ []) ++ b) ++ (10 ∷ [])) ++ x
    ≡ (112 ∷ 114 ∷ 101 ∷ 32 ∷ codes "region ") ++ (p ++ (32 ∷ (b ++ (10 ∷ x))))
region_shape p b x = joined_five (112 ∷ 114 ∷ 101 ∷ 32 ∷ codes "region ") p (32 ∷ []) b (10 ∷ []) x

align_shape : (p b x : List ℕ) → ((112 ∷ 114 ∷ 101 ∷ 32 ∷ []) ++ (codes "align " ++ p ++ (32 ∷ []) ++ b) ++ (10 ∷ [])) ++ x
    ≡ (112 ∷ 114 ∷ 101 ∷ 32 ∷ codes "align ") ++ (p ++ (32 ∷ (b ++ (10 ∷ x))))
align_shape p b x = joined_five (112 ∷ 114 ∷ 101 ∷ 32 ∷ codes "align ") p (32 ∷ []) b (10 ∷ []) x

joined_range : (o p s b d c m x : List ℕ) → (o ++ p ++ s ++ b ++ d ++ c ++ m) ++ x ≡ o ++ (p ++ (s ++ (b ++ (d ++ (c ++ (m ++ x))))))
joined_range o p s b d c m x = simp append_assoc refl

range_shape : (p b c x : List ℕ) → ((112 ∷ 114 ∷ 101 ∷ 32 ∷ []) ++ (codes "range " ++ p ++ (32 ∷ []) ++ b ++ (46 ∷ 46 ∷ []) ++ c) ++ (10 ∷ [])) ++ x
    ≡ (112 ∷ 114 ∷ 101 ∷ 32 ∷ codes "range ") ++ (p ++ (32 ∷ (b ++ (46 ∷ (46 ∷ (c ++ (10 ∷ x)))))))
range_shape p b c x = joined_range (112 ∷ 114 ∷ 101 ∷ 32 ∷ codes "range ") p (32 ∷ []) b (46 ∷ 46 ∷ []) c (10 ∷ []) x

-- the second byte behind `pre `
abbrev pre_kind : Pre → ℕ
pre_kind (pre.Region pointer factor variable constant) = 101
pre_kind (pre.Range name low high) = 97
pre_kind (pre.Align pointer multiple) = 108

abbrev sixth : List ℕ → ℕ
sixth t = first (rest (rest (rest (rest (rest t)))))

pre_begins : (p : Pre) (x : List ℕ) → sixth (pre_line p ++ x) ≡ pre_kind p
pre_begins (pre.Region pointer factor variable constant) x = refl
pre_begins (pre.Range name low high) x = refl
pre_begins (pre.Align pointer multiple) x = refl

same_pre_kind : (p q : Pre) (x y : List ℕ) → pre_line p ++ x ≡ pre_line q ++ y → pre_kind p ≡ pre_kind q
same_pre_kind p q x y e = sym (pre_begins p x) ∙ ap sixth e ∙ pre_begins q y

abbrev past_region : List ℕ → List ℕ
past_region t = rest (rest (rest (rest (rest (rest (rest (rest (rest (rest (rest t))))))))))

abbrev past_align : List ℕ → List ℕ
past_align t = rest (rest (rest (rest (rest (rest (rest (rest (rest (rest t)))))))))

pre_apart : (p q : Pre) (x y : List ℕ) → IsListablePre p → IsListablePre q → pre_line p ++ x ≡ pre_line q ++ y → (p ≡ q) × (x ≡ y)
pre_apart (pre.Region p f None c) (pre.Region q g None d) x y h k e =
    let s = sym (region_shape p (decimal c) x) ∙ e ∙ region_shape q (decimal d) y in
    let r1 = name_apart p q _ _ h.0 k.0 refl refl (ap past_region s) in
    let r2 = decimal_apart c d _ _ h.2 k.2 refl refl (ap rest r1.1) in
    (λ i. pre.Region (r1.0 i) ((h.1 ∙ sym k.1) i) None (r2.0 i), ap rest r2.1)
pre_apart (pre.Region p f None c) (pre.Region q g (Some w) d) x y h k e =
    let s = sym (region_shape p (decimal c) x) ∙ e ∙ region_shape q (extent_text g (Some w) d) y in
    let r1 = name_apart p q _ _ h.0 k.0 refl refl (ap past_region s) in
    let r2 = decimal_apart c g (10 ∷ x) _ h.2 k.1 refl refl (ap rest r1.1 ∙ joined_five (decimal g) (42 ∷ []) w (43 ∷ []) (decimal d) (10 ∷ y)) in
    (let z : 10 ≡ 42 = ap first r2.1 in absurd (omega (arith, z)))
pre_apart (pre.Region p f (Some v) c) (pre.Region q g None d) x y h k e =
    let s = sym (region_shape p (extent_text f (Some v) c) x) ∙ e ∙ region_shape q (decimal d) y in
    let r1 = name_apart p q _ _ h.0 k.0 refl refl (ap past_region s) in
    let r2 = decimal_apart f d _ (10 ∷ y) h.1 k.2 refl refl (sym (joined_five (decimal f) (42 ∷ []) v (43 ∷ []) (decimal c) (10 ∷ x)) ∙ ap rest r1.1) in
    (let z : 42 ≡ 10 = ap first r2.1 in absurd (omega (arith, z)))
pre_apart (pre.Region p f (Some v) c) (pre.Region q g (Some w) d) x y h k e =
    let s = sym (region_shape p (extent_text f (Some v) c) x) ∙ e ∙ region_shape q (extent_text g (Some w) d) y in
    let r1 = name_apart p q _ _ h.0 k.0 refl refl (ap past_region s) in
    let r2 = decimal_apart f g _ _ h.1 k.1 refl refl (sym (joined_five (decimal f) (42 ∷ []) v (43 ∷ []) (decimal c) (10 ∷ x)) ∙ ap rest r1.1 ∙ joined_five (decimal g) (42 ∷ []) w (43 ∷ []) (decimal d) (10 ∷ y)) in
    let r3 = name_apart v w _ _ h.2 k.2 refl refl (ap rest r2.1) in
    let r4 = decimal_apart c d _ _ h.3 k.3 refl refl (ap rest r3.1) in
    (λ i. pre.Region (r1.0 i) (r2.0 i) (Some (r3.0 i)) (r4.0 i), ap rest r4.1)
pre_apart (pre.Range p a b) (pre.Range q c d) x y h k e =
    let s = sym (range_shape p (decimal a) (decimal b) x) ∙ e ∙ range_shape q (decimal c) (decimal d) y in
    let r1 = name_apart p q _ _ h.0 k.0 refl refl (ap past_align s) in
    let r2 = decimal_apart a c _ _ h.1 k.1 refl refl (ap rest r1.1) in
    let r3 = decimal_apart b d _ _ h.2 k.2 refl refl (ap rest (ap rest r2.1)) in
    (λ i. pre.Range (r1.0 i) (r2.0 i) (r3.0 i), ap rest r3.1)
pre_apart (pre.Align p a) (pre.Align q c) x y h k e =
    let s = sym (align_shape p (decimal a) x) ∙ e ∙ align_shape q (decimal c) y in
    let r1 = name_apart p q _ _ h.0 k.0 refl refl (ap past_align s) in
    let r2 = decimal_apart a c _ _ h.1 k.1 refl refl (ap rest r1.1) in
    (λ i. pre.Align (r1.0 i) (r2.0 i), ap rest r2.1)
pre_apart p q x y h k e = absurd (omega (arith, same_pre_kind p q x y e))

-- ---- saved registers
-- no letter, digit or underscore goes on
abbrev Stops : ℕ → Type 0
Stops c = is_name_byte c ≡ false

saved_one : (r s : Reg) (x y : List ℕ) → Unit {0} → Unit {0} → Stops (first x) → Stops (first y) → saved_reg_text r ++ x ≡ saved_reg_text s ++ y → (r ≡ s) × (x ≡ y)
saved_one r s x y h k p q e = reg_apart r s x y p q (ap rest e)

-- a dash is no register
dash : (r : Reg) (x y : List ℕ) → 45 ∷ y ≡ reg_text r ++ x → ⊥
dash r x y e = (let z : 45 ≡ 114 = ap first e ∙ reg_first r x in absurd (omega (arith, z)))

saved_apart : (rs ss : List Reg) (x y : List ℕ) → saved_text rs ++ (10 ∷ x) ≡ saved_text ss ++ (10 ∷ y) → (rs ≡ ss) × (x ≡ y)
saved_apart [] [] x y e = (refl, ap rest (ap rest (ap rest e)))
saved_apart [] (s ∷ ss) x y e =
    absurd (dash s (concat (map saved_reg_text ss) ++ (10 ∷ y)) (10 ∷ x) (ap rest (e ∙ append_assoc (saved_reg_text s) (concat (map saved_reg_text ss)) (10 ∷ y))))
saved_apart (r ∷ rs) [] x y e =
    absurd (dash r (concat (map saved_reg_text rs) ++ (10 ∷ x)) (10 ∷ y) (ap rest (sym e ∙ append_assoc (saved_reg_text r) (concat (map saved_reg_text rs)) (10 ∷ x))))
saved_apart (r ∷ rs) (s ∷ ss) x y e =
    let b = lines_apart (λ (t : Reg). Unit {0}) saved_reg_text 32 Stops (λ t v. refl) refl saved_one (r ∷ rs) (s ∷ ss) (10 ∷ x) (10 ∷ y) (λ i d lt. tt) (λ i d lt. tt) refl refl
    (λ z. omega (arith, z)) (λ z. omega (arith, z)) e in
    (b.0, ap rest b.1)

-- ---- spans and the line `ct`
joined_span : (l k c x : List ℕ) → (l ++ k ++ c) ++ x ≡ l ++ (k ++ (c ++ x))
joined_span l k c x = simp append_assoc refl

span_apart : (s t : Span) (x y : List ℕ) → s.line < 2 ^ 32 → s.col < 2 ^ 32 → t.line < 2 ^ 32 → t.col < 2 ^ 32
    → span_text s ++ (32 ∷ x) ≡ span_text t ++ (32 ∷ y) → (s ≡ t) × (x ≡ y)
unfolding span_text
span_apart s t x y a b c d e =
    let m = sym (joined_span (decimal s.line) (58 ∷ []) (decimal s.col) (32 ∷ x)) ∙ e ∙ joined_span (decimal t.line) (58 ∷ []) (decimal t.col) (32 ∷ y) in
    let r1 = decimal_apart s.line t.line _ _ (omega (arith, a)) (omega (arith, c)) refl refl m in
    let r2 = decimal_apart s.col t.col _ _ (omega (arith, b)) (omega (arith, d)) refl refl (ap rest r1.1) in
    (λ i. record { line = r1.0 i; col = r2.0 i }, ap rest r2.1)

ct_apart : (c d : Ct) (x y : List ℕ) → IsListableCt c → IsListableCt d → ct_text c ++ (10 ∷ x) ≡ ct_text d ++ (10 ∷ y) → (c ≡ d) × (x ≡ y)
ct_apart ct.Yes ct.Yes x y h k e = (refl, ap rest (ap rest (ap rest (ap rest e))))
ct_apart ct.Yes (ct.No span kind var) x y h k e = (let z : 121 ≡ 110 = ap first e in absurd (omega (arith, z)))
ct_apart (ct.No span kind var) ct.Yes x y h k e = (let z : 110 ≡ 121 = ap first e in absurd (omega (arith, z)))
ct_apart (ct.No s a v) (ct.No t b w) x y h k e =
    let m = sym (joined_six (110 ∷ 111 ∷ 32 ∷ []) (span_text s) (32 ∷ []) (kind_text a) (32 ∷ []) v (10 ∷ x)) ∙ e
    ∙ joined_six (110 ∷ 111 ∷ 32 ∷ []) (span_text t) (32 ∷ []) (kind_text b) (32 ∷ []) w (10 ∷ y) in
    let r1 = span_apart s t _ _ h.0 h.1 k.0 k.1 (ap rest (ap rest (ap rest m))) in
    let r2 = kind_apart a b _ _ refl refl r1.1 in
    let r3 = spans is_variable_byte v w _ _ (list_all-from_AllPass is_variable_byte v h.2) (list_all-from_AllPass is_variable_byte w k.2) refl refl (ap rest r2.1) in
    (λ i. ct.No (r1.0 i) (r2.0 i) (r3.0 i), ap rest r3.1)

-- ---- the bytes of the code
abbrev no_line_end : ℕ → Bool
no_line_end c = not (c == 10)

one_of : (P : ℕ → Bool) (xs : List ℕ) (k : ℕ) → list_all P xs ≡ true → P 0 ≡ true → P (slice_index xs k) ≡ true
one_of P [] k h z = z
one_of P (x ∷ xs) zero h z = (and_parts _ _ h).0
one_of P (x ∷ xs) (suc k) h z = one_of P xs k (and_parts _ _ h).1 z

a_digit : (k : ℕ) → no_line_end (slice_index lower_digits k) ≡ true
a_digit k = one_of no_line_end lower_digits k refl refl

hex_digits : (bytes : List ℕ) → list_all no_line_end (encode_lower bytes) ≡ true
unfolding encode_with
hex_digits [] = refl
hex_digits (b ∷ bytes) = and_from _ _ (a_digit (b / 16)) (and_from _ _ (a_digit (b % 16)) (hex_digits bytes))

byte_at : (bytes : List ℕ) → All (λ b. b < 256) bytes → (i : ℕ) → slice_index bytes i < 256
byte_at [] h i = lit< tt
byte_at (b ∷ bytes) h zero = All-head (λ c. c < 256) b bytes h
byte_at (b ∷ bytes) h (suc i) = byte_at bytes (All-tail (λ c. c < 256) b bytes h) i

hex_same : (u v : List ℕ) → All (λ b. b < 256) u → All (λ b. b < 256) v → encode_lower u ≡ encode_lower v → u ≡ v
hex_same u v h k e = let o = sym (decode_of-encode_lower u (byte_at u h)) ∙ ap decode_of e ∙ decode_of-encode_lower v (byte_at v k) in cc

hex_apart : (u v : List ℕ) (x y : List ℕ) → All (λ b. b < 256) u → All (λ b. b < 256) v
    → encode_lower u ++ (10 ∷ x) ≡ encode_lower v ++ (10 ∷ y) → (u ≡ v) × (x ≡ y)
hex_apart u v x y h k e =
    let b = spans no_line_end (encode_lower u) (encode_lower v) (10 ∷ x) (10 ∷ y) (hex_digits u) (hex_digits v) refl refl e in (hex_same u v h k b.0, ap rest b.1)

-- ---- the parts of a function

arg_line_apart : (a b : Arg) (x y : List ℕ) → IsListableArg a → IsListableArg b → Unit {0} → Unit {0} → arg_line a ++ x ≡ arg_line b ++ y → (a ≡ b) × (x ≡ y)
arg_line_apart a b x y h k p q e = arg_apart a b x y h k (ap rest (ap rest (ap rest (ap rest e))))

ret_line_apart : (a b : Arg) (x y : List ℕ) → IsListableArg a → IsListableArg b → Unit {0} → Unit {0} → ret_line a ++ x ≡ ret_line b ++ y → (a ≡ b) × (x ≡ y)
ret_line_apart a b x y h k p q e = arg_apart a b x y h k (ap rest (ap rest (ap rest (ap rest e))))

pre_line_apart : (a b : Pre) (x y : List ℕ) → IsListablePre a → IsListablePre b → Unit {0} → Unit {0} → pre_line a ++ x ≡ pre_line b ++ y → (a ≡ b) × (x ≡ y)
pre_line_apart a b x y h k p q e = pre_apart a b x y h k e

-- what lines of this byte are followed by
behind_lines : {A : Type 0} (t : A → List ℕ) (tag other : ℕ) → ((a : A) (x : List ℕ) → first (t a ++ x) ≡ tag) → (us : List A) (x : List ℕ)
    → (tag ≡ other → ⊥) → (first x ≡ other → ⊥) → first (concat (map t us) ++ x) ≡ other → ⊥
behind_lines t tag other begins [] x h k e = k e
behind_lines t tag other begins (u ∷ us) x h k e =
    h (sym (ap first (append_assoc (t u) (concat (map t us)) x) ∙ begins u (concat (map t us) ++ x)) ∙ e)

-- `frame` begins otherwise than the lines before it
not_tag : (x : List ℕ) (tag : ℕ) → first x ≡ 102 → (102 ≡ tag → ⊥) → first x ≡ tag → ⊥
not_tag x tag h k e = k (sym h ∙ e)

interface_apart : (c d : Compiled) (x y : List ℕ) → IsListable c → IsListable d → first x ≡ 102 → first y ≡ 102 → interface_text c ++ x ≡ interface_text d ++ y
    → (c.name ≡ d.name) × (c.args ≡ d.args) × (c.rets ≡ d.rets) × (c.pre ≡ d.pre) × (x ≡ y)
interface_apart c d x y h k p q e =
    let m = sym (joined_six (102 ∷ 110 ∷ 32 ∷ []) c.name (10 ∷ []) (concat (map arg_line c.args)) (concat (map ret_line c.rets)) (concat (map pre_line c.pre)) x) ∙ e
    ∙ joined_six (102 ∷ 110 ∷ 32 ∷ []) d.name (10 ∷ []) (concat (map arg_line d.args)) (concat (map ret_line d.rets)) (concat (map pre_line d.pre)) y in
    let r1 = name_apart c.name d.name _ _ h.name k.name refl refl (ap rest (ap rest (ap rest m))) in
    let r2 = lines_apart IsListableArg arg_line 97 (λ n. Unit {0}) (λ a v. refl) tt arg_line_apart c.args d.args _ _ h.args k.args tt tt
    (behind_lines ret_line 114 97 (λ a v. refl) c.rets _ (λ z. omega (arith, z)) (behind_lines pre_line 112 97 (λ a v. refl) c.pre x (λ z. omega (arith, z)) (not_tag x 97 p (λ z. omega (arith, z)))))
    (behind_lines ret_line 114 97 (λ a v. refl) d.rets _ (λ z. omega (arith, z)) (behind_lines pre_line 112 97 (λ a v. refl) d.pre y (λ z. omega (arith, z)) (not_tag y 97 q (λ z. omega (arith, z)))))
    (ap rest r1.1) in
    let r3 = lines_apart IsListableArg ret_line 114 (λ n. Unit {0}) (λ a v. refl) tt ret_line_apart c.rets d.rets _ _ h.rets k.rets tt tt
    (behind_lines pre_line 112 114 (λ a v. refl) c.pre x (λ z. omega (arith, z)) (not_tag x 114 p (λ z. omega (arith, z))))
    (behind_lines pre_line 112 114 (λ a v. refl) d.pre y (λ z. omega (arith, z)) (not_tag y 114 q (λ z. omega (arith, z)))) r2.1 in
    let r4 = lines_apart IsListablePre pre_line 112 (λ n. Unit {0}) (λ a v. refl) tt pre_line_apart c.pre d.pre x y h.pre k.pre tt tt
    (not_tag x 112 p (λ z. omega (arith, z))) (not_tag y 112 q (λ z. omega (arith, z))) r3.1 in
    (r1.0, r2.0, r3.0, r4.0, r4.1)

frame_apart : (c d : Compiled) (x y : List ℕ) → IsListable c → IsListable d → frame_text c ++ x ≡ frame_text d ++ y → (c.frame ≡ d.frame) × (c.saved ≡ d.saved) × (x ≡ y)
frame_apart c d x y h k e =
    let m = sym (joined_five (codes "frame ") (decimal c.frame) (codes "\nsaved") (saved_text c.saved) (10 ∷ []) x) ∙ e
    ∙ joined_five (codes "frame ") (decimal d.frame) (codes "\nsaved") (saved_text d.saved) (10 ∷ []) y in
    let r1 = decimal_apart c.frame d.frame _ _ h.frame k.frame refl refl (ap rest (ap rest (ap rest (ap rest (ap rest (ap rest m)))))) in
    let r2 = saved_apart c.saved d.saved x y (ap rest (ap rest (ap rest (ap rest (ap rest (ap rest r1.1)))))) in
    (r1.0, r2.0, r2.1)

code_apart : (c d : Compiled) (x y : List ℕ) → IsListable c → IsListable d → code_text c ++ x ≡ code_text d ++ y → (c.insns ≡ d.insns) × (c.code ≡ d.code) × (x ≡ y)
code_apart c d x y h k e =
    let m = sym (joined_five (codes "insns ") (decimal c.insns) (codes "\ncode ") (encode_lower c.code) (10 ∷ []) x) ∙ e
    ∙ joined_five (codes "insns ") (decimal d.insns) (codes "\ncode ") (encode_lower d.code) (10 ∷ []) y in
    let r1 = decimal_apart c.insns d.insns _ _ h.insns k.insns refl refl (ap rest (ap rest (ap rest (ap rest (ap rest (ap rest m)))))) in
    let r2 = hex_apart c.code d.code x y h.code k.code (ap rest (ap rest (ap rest (ap rest (ap rest (ap rest r1.1)))))) in
    (r1.0, r2.0, r2.1)

leakage_apart : (c d : Compiled) (x y : List ℕ) → IsListable c → IsListable d → leakage_text c ++ x ≡ leakage_text d ++ y → (c.tr ≡ d.tr) × (c.ct ≡ d.ct) × (x ≡ y)
leakage_apart c d x y h k e =
    let m = sym (joined_five (codes "tr ") (transformer_text c.tr) (codes "\nct ") (ct_text c.ct) (codes "\nend\n") x) ∙ e
    ∙ joined_five (codes "tr ") (transformer_text d.tr) (codes "\nct ") (ct_text d.ct) (codes "\nend\n") y in
    let r1 = transformer_apart c.tr d.tr _ _ h.tr k.tr (ap rest (ap rest (ap rest m))) in
    let r2 = ct_apart c.ct d.ct _ _ h.ct k.ct (ap rest (ap rest (ap rest (ap rest r1.1)))) in
    (r1.0, r2.0, ap rest (ap rest (ap rest (ap rest r2.1))))

joined_parts : (a b c d x : List ℕ) → (a ++ b ++ c ++ d) ++ x ≡ a ++ (b ++ (c ++ (d ++ x)))
joined_parts a b c d x = simp append_assoc refl

compiled_apart : (c d : Compiled) (x y : List ℕ) → IsListable c → IsListable d → Unit {0} → Unit {0} → compiled_text c ++ x ≡ compiled_text d ++ y → (c ≡ d) × (x ≡ y)
compiled_apart c d x y h k p q e =
    let m = sym (joined_parts (interface_text c) (frame_text c) (code_text c) (leakage_text c) x) ∙ e ∙ joined_parts (interface_text d) (frame_text d) (code_text d) (leakage_text d) y in
    let r1 = interface_apart c d _ _ h k refl refl m in
    let r2 = frame_apart c d _ _ h k r1.4 in
    let r3 = code_apart c d _ _ h k r2.2 in
    let r4 = leakage_apart c d x y h k r3.2 in (
      λ i. record {
        name = r1.0 i;
        args = r1.1 i;
        rets = r1.2 i;
        pre = r1.3 i;
        frame = r2.0 i;
        saved = r2.1 i;
        insns = r3.0 i;
        code = r3.1 i;
        tr = r4.0 i;
        ct = r4.1 i;
      },
      r4.2,
    )

-- ---- listings
pub listings_apart : (cs ds : List Compiled) → AreListable cs → AreListable ds → listing_text cs ≡ listing_text ds → cs ≡ ds
listings_apart cs ds h k e =
    let m = without_front (codes "jasmin-listing 1\n") (concat (map compiled_text cs)) (concat (map compiled_text ds)) e in
    (lines_apart IsListable compiled_text 102 (λ n. Unit {0}) (λ c v. refl) tt compiled_apart cs ds [] [] h k tt tt (λ z. omega (arith, z)) (λ z. omega (arith, z))
    (append-nil (concat (map compiled_text cs)) ∙ m ∙ sym (append-nil (concat (map compiled_text ds))))).0
