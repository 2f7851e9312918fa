-- No line of a listing has a line feed in it.
use Rattle.std.proofs.Common.{◌≡◌, ℕ, zero, suc, ◌/◌, ◌%◌, ◌<◌, ◌^◌, Bool, true, false, not, ◌==◌, List, [], ◌∷◌, ◌++◌, refl, sym, ap, ◌∙◌, subst, Some, None, inl, inr, arith}
use Rattle.std.specs.Prelude.{ℤ, pos, negsuc, codes, decimal, map, slice_index, nat_lt}
use Rattle.std.specs.Fmt.{signed_decimal}
use Rattle.std.specs.Char.{is_ascii_digit}
use Rattle.std.specs.List.{concat, list_all}
use Rattle.std.proofs.lemmas.Bool.{and_parts, and_from, ltb-true, eqb-true}
use Rattle.std.proofs.lemmas.List.Folds.{list_all-map}
use Rattle.hex.specs.Hex.{encode_lower, encode_with, lower_digits}
use Rattle.jz_io.specs.declared.verdict.Ct.{Ct}
use Rattle.jz_io.specs.declared.verdict.Ct.TheVariants as ct
use Rattle.jz_io.specs.declared.verdict.CtKind.{CtKind}
use Rattle.jz_io.specs.declared.verdict.CtKind.TheVariants as kind
use Rattle.x64_insn.specs.Size.{Size}
use Rattle.x64_insn.specs.Size.TheVariants.{S8}
use Rattle.x64_insn.specs.declared.types.Reg.{Reg}
use Rattle.x64_insn.specs.declared.types.Reg.TheVariants as reg
use Rattle.jz_leak.specs.declared.transformer.Form.{Form}
use Rattle.jz_leak.specs.declared.transformer.Form.TheVariants as form
use Rattle.jz_leak.specs.declared.transformer.Out.{Out}
use Rattle.jz_leak.specs.declared.transformer.Out.TheVariants as out
use Rattle.jz_leak.specs.declared.transformer.Tr.{Tr}
use Rattle.jz_leak.specs.declared.transformer.Case.{Case}
use Rattle.jz_leak.specs.declared.transformer.Case.TheOpen.{Case-F}
use Rattle.jz_leak.specs.declared.transformer.Case.TheViews.{roll-Case, roll-Tr}
use Rattle.jz_leak.specs.declared.transformer.Case.TheFolds.{map-Case, fold-roll-Case, ind-Tr}
use Rattle.jz_leak.specs.declared.transformer.Transformer.{Transformer}
use Rattle.jz_listing.specs.declared.compiled.Arg.{Arg}
use Rattle.jz_lex.specs.LexingWords.{in_word}
use Rattle.jz_lex.specs.Identifiers.{IsIdentifier}
use Rattle.jz_text.specs.Texts.{reg_text, span_text}
use Rattle.jz_listing.specs.declared.compiled.Pre.{Pre}
use Rattle.jz_listing.specs.declared.compiled.Pre.TheVariants as pre
use Rattle.jz_listing.specs.Listing.{size_text, pre_text, saved_reg_text, saved_text, kind_text, ct_text}
use Rattle.jz_listing.specs.Listable.{offset_fits, form_fits, out_fits, outs_fit, case_layer_fits, tr_layer_fits, case_fits, tr_fits, transformer_fits}
use Rattle.jz_listing.specs.Transformers.{spaced_pieces, form_text, out_text, outs_text, case_layer_text, tr_layer_text, case_text, tr_text, transformer_text}
use Rattle.jz_listing_lines.specs.declared.line.Line.{Line}
use Rattle.jz_listing_lines.specs.declared.line.Line.TheVariants as line
use Rattle.jz_listing_lines.specs.Lines.{held_text, line_text, IsLine, IsPreLine, IsSecret, IsCtLine}
use Rattle.jz_listing_lines.proofs.ReaderLaws.{all_text}
use Rattle.jz_listing_lines.proofs.Leaves.{word_bytes, decimal_digits}
use Rattle.jz_listing_lines.proofs.Pieces.{spaced_is}
use Rattle.jz_listing_lines.proofs.TreeReads.{tr_text_is, tr_fits_is}
use Rattle.jz_listing_read.specs.Reading.{is_in_line}

abbrev pub Clean : List ℕ → Type 0
Clean bs = list_all is_in_line bs ≡ true

pub both : (a b : List ℕ) → Clean a → Clean b → Clean (a ++ b)
both [] b h k = k
both (c ∷ cs) b h k = let p = and_parts (is_in_line c) (list_all is_in_line cs) h in and_from (is_in_line c) (list_all is_in_line (cs ++ b)) p.0 (both cs b p.1 k)

-- bytes of an alphabet without a line feed
within : (test : ℕ → Bool) → test 10 ≡ false → (bs : List ℕ) → list_all test bs ≡ true → Clean bs
within test f [] h = refl
within test f (b ∷ bs) h =
    let p = and_parts (test b) (list_all test bs) h in
    and_from (is_in_line b) (list_all is_in_line bs) (apart (b == 10) refl p.0) (within test f bs p.1)
  where
    apart : (t : Bool) → (b == 10) ≡ t → test b ≡ true → not t ≡ true
    apart false e k = refl
    apart true e k = absurd (let same : b ≡ 10 = eqb-true b 10 e in let no : true ≡ false = sym k ∙ ap test same ∙ f in let gone : ⊥ = cc in gone)

no_feed_in_words : in_word 10 ≡ false
unfolding in_word
no_feed_in_words = refl

name_clean : (w : List ℕ) → IsIdentifier w → Clean w
name_clean w h = within in_word no_feed_in_words w (word_bytes w h.0)

number_clean : (n : ℕ) → n < 2 ^ 64 → Clean (decimal n)
number_clean n h = within is_ascii_digit refl (decimal n) (decimal_digits n h)

reg_clean : (r : Reg) → Clean (reg_text r)
reg_clean reg.Rax = refl
reg_clean _ = refl

size_clean : (s : Size) → Clean (size_text s)
size_clean S8 = refl
size_clean _ = refl

kind_clean : (k : CtKind) → Clean (kind_text k)
kind_clean kind.Branch = refl
kind_clean _ = refl

at_clean : (ds : List ℕ) (k : ℕ) → Clean ds → is_in_line (slice_index ds k) ≡ true
at_clean [] k h = refl
at_clean (d ∷ ds) zero h = (and_parts (is_in_line d) (list_all is_in_line ds) h).0
at_clean (d ∷ ds) (suc k) h = at_clean ds k (and_parts (is_in_line d) (list_all is_in_line ds) h).1

hex_clean : (bytes : List ℕ) → Clean (encode_lower bytes)
unfolding encode_with
hex_clean [] = refl
hex_clean (b ∷ bs) =
    and_from _ _ (at_clean lower_digits (b / 16) refl) (and_from _ _ (at_clean lower_digits (b % 16) refl) (hex_clean bs))

-- ---- events
short : (n : ℕ) → nat_lt n (2 ^ 64) ≡ true → n < 2 ^ 64
short n h = ltb-true n (2 ^ 64) h

signed_clean : (z : ℤ) → offset_fits z ≡ true → Clean (signed_decimal z)
signed_clean (pos n) h = let small : n < 2 ^ 63 = ltb-true n (2 ^ 63) h in number_clean n (omega (arith, small))
signed_clean (negsuc n) h = let small : n < 2 ^ 63 = ltb-true n (2 ^ 63) h in both (45 ∷ []) (decimal (suc n)) refl (number_clean (suc n) (omega (arith, small)))

form_clean : (f : Form) → form_fits f ≡ true → Clean (form_text f)
form_clean (form.Num n) h = number_clean n (short n h)
form_clean (form.Leaked i) h = both (codes "$") (decimal i) refl (number_clean i (short i h))
form_clean (form.Frame o) h = both (codes "@") (signed_decimal o) refl (signed_clean o h)
form_clean (form.Indexed o s i) h =
    let p = and_parts _ _ h in
    let q = and_parts _ _ p.1 in
    both (codes "@" ++ signed_decimal o ++ codes "+" ++ decimal s ++ codes "*$") (decimal i)
    (both (codes "@" ++ signed_decimal o ++ codes "+" ++ decimal s) (codes "*$")
    (both (codes "@" ++ signed_decimal o ++ codes "+") (decimal s)
    (both (codes "@" ++ signed_decimal o) (codes "+") (both (codes "@") (signed_decimal o) refl (signed_clean o p.0)) refl) (number_clean s (short s q.0))) refl) (number_clean i (short i q.1))

out_clean : (o : Out) → out_fits o ≡ true → Clean (out_text o)
out_clean (out.Branch true) h = refl
out_clean (out.Branch false) h = refl
out_clean (out.Addr a) h = both (codes "a:") (form_text a) refl (form_clean a h)
out_clean (out.Div a b c) h =
    let p = and_parts _ _ h in
    let q = and_parts _ _ p.1 in
    both (codes "d:" ++ form_text a ++ codes ":" ++ form_text b ++ codes ":") (form_text c)
    (both (codes "d:" ++ form_text a ++ codes ":" ++ form_text b) (codes ":")
    (both (codes "d:" ++ form_text a ++ codes ":") (form_text b)
    (both (codes "d:" ++ form_text a) (codes ":") (both (codes "d:") (form_text a) refl (form_clean a p.0)) refl) (form_clean b q.0)) refl) (form_clean c q.1)

-- pieces with a space between them
behind_clean : {A : Type 0} (t : A → List ℕ) (fits : A → Bool) → ((a : A) → fits a ≡ true → Clean (t a)) → (as' : List A) → list_all fits as' ≡ true → Clean (all_text (codes " ") t as')
behind_clean t fits one [] h = refl
behind_clean t fits one (a ∷ as') h =
    let p = and_parts (fits a) (list_all fits as') h in
    both (codes " " ++ t a) (all_text (codes " ") t as') (both (codes " ") (t a) refl (one a p.0)) (behind_clean t fits one as' p.1)

spaced_clean : {A : Type 0} (t : A → List ℕ) (fits : A → Bool) → ((a : A) → fits a ≡ true → Clean (t a)) → (as' : List A) → list_all fits as' ≡ true → Clean (spaced_pieces (map t as'))
spaced_clean t fits one [] h = refl
spaced_clean t fits one (a ∷ as') h =
    let p = and_parts (fits a) (list_all fits as') h in
    subst Clean (spaced_is t a as') (both (t a) (all_text (codes " ") t as') (one a p.0) (behind_clean t fits one as' p.1))

outs_clean : (os : List Out) → outs_fit os ≡ true → Clean (outs_text os)
unfolding outs_text
outs_clean os h = both (codes "[" ++ spaced_pieces (map out_text os)) (codes "]") (both (codes "[") (spaced_pieces (map out_text os)) refl (spaced_clean out_text out_fits out_clean os h)) refl

-- ---- trees
abbrev CaseClean : Case → Type 0
CaseClean c = case_fits c ≡ true → Clean (case_text c)

abbrev TrClean : Tr → Type 0
TrClean t = tr_fits t ≡ true → Clean (tr_text t)

abbrev CleanTree : Type 0
CleanTree = (t : Tr) × TrClean t

abbrev Known : Type 0
Known = Case-F ((c : Case) × CaseClean c) CleanTree

abbrev layer_of : Known → Case-F Case Tr
layer_of v = map-Case _ _ _ _ (λ e. e.0) (λ e. e.0) v

arm_clean : (os : List Out) (t : List ℕ) → outs_fit os ≡ true → Clean t → Clean (codes " " ++ outs_text os ++ codes " " ++ t)
arm_clean os t h k =
    both (codes " " ++ outs_text os ++ codes " ") t (both (codes " " ++ outs_text os) (codes " ") (both (codes " ") (outs_text os) refl (outs_clean os h)) refl) k

trees_fit : (ts : List CleanTree) → list_all tr_fits (map (λ (p : CleanTree). p.0) ts) ≡ true → Clean (spaced_pieces (map tr_text (map (λ (p : CleanTree). p.0) ts)))
trees_fit [] h = refl
trees_fit (t ∷ ts) h =
    let p = and_parts _ _ h in
    subst Clean (spaced_is tr_text t.0 (map (λ (p : CleanTree). p.0) ts))
    (both (tr_text t.0) (all_text (codes " ") tr_text (map (λ (p : CleanTree). p.0) ts)) (t.1 p.0) (others ts p.1))
  where
    others : (us : List CleanTree) → list_all tr_fits (map (λ (p : CleanTree). p.0) us) ≡ true → Clean (all_text (codes " ") tr_text (map (λ (p : CleanTree). p.0) us))
    others [] h = refl
    others (u ∷ us) h =
        let p = and_parts _ _ h in
        both (codes " " ++ tr_text u.0) (all_text (codes " ") tr_text (map (λ (p : CleanTree). p.0) us)) (both (codes " ") (tr_text u.0) refl (u.1 p.0)) (others us p.1)

layer_clean : (v : Known) → CaseClean (roll-Case (layer_of v))
layer_clean (Case-F.Op os) h = subst Clean (sym (fold-roll-Case _ _ case_layer_text tr_layer_text (Case-F.Op os))) (both (codes "op") (outs_text os) refl (outs_clean os (sym (fold-roll-Case _ _ case_layer_fits tr_layer_fits (Case-F.Op os)) ∙ h)))
layer_clean (Case-F.If t a b c d) h =
    let h1 = and_parts _ _ (sym (fold-roll-Case _ _ case_layer_fits tr_layer_fits (Case-F.If t a b.0 c d.0)) ∙ h) in
    let h2 = and_parts _ _ h1.1 in
    let h3 = and_parts _ _ h2.1 in
    let h4 = and_parts _ _ h3.1 in
    let arm1 = codes " " ++ outs_text a ++ codes " " ++ tr_text b.0 in
    let arm2 = codes " " ++ outs_text c ++ codes " " ++ tr_text d.0 in
    subst Clean (sym (fold-roll-Case _ _ case_layer_text tr_layer_text (Case-F.If t a b.0 c d.0)))
    (both (codes "if(" ++ outs_text t ++ arm1 ++ arm2) (codes ")")
    (both (codes "if(" ++ outs_text t ++ arm1) arm2 (both (codes "if(" ++ outs_text t) arm1 (both (codes "if(") (outs_text t) refl (outs_clean t h1.0)) (arm_clean a (tr_text b.0) h2.0 (b.1 h3.0))) (arm_clean c (tr_text d.0) h4.0 (d.1 h4.1))) refl)
layer_clean (Case-F.While p t a b c) h =
    let h1 = and_parts _ _ (sym (fold-roll-Case _ _ case_layer_fits tr_layer_fits (Case-F.While p.0 t a b.0 c)) ∙ h) in
    let h2 = and_parts _ _ h1.1 in
    let h3 = and_parts _ _ h2.1 in
    let h4 = and_parts _ _ h3.1 in
    let arm = codes " " ++ outs_text a ++ codes " " ++ tr_text b.0 in
    subst Clean (sym (fold-roll-Case _ _ case_layer_text tr_layer_text (Case-F.While p.0 t a b.0 c)))
    (both (codes "while(" ++ tr_text p.0 ++ (codes " " ++ outs_text t) ++ arm ++ (codes " " ++ outs_text c)) (codes ")")
    (both (codes "while(" ++ tr_text p.0 ++ (codes " " ++ outs_text t) ++ arm) (codes " " ++ outs_text c)
    (both (codes "while(" ++ tr_text p.0 ++ (codes " " ++ outs_text t)) arm
    (both (codes "while(" ++ tr_text p.0) (codes " " ++ outs_text t) (both (codes "while(") (tr_text p.0) refl (p.1 h1.0)) (both (codes " ") (outs_text t) refl (outs_clean t h2.0)))
    (arm_clean a (tr_text b.0) h3.0 (b.1 h4.0))) (both (codes " ") (outs_text c) refl (outs_clean c h4.1))) refl)
layer_clean (Case-F.For ts) h =
    let us = map (λ (p : CleanTree). p.0) ts in
    let f = sym (list_all-map (λ z. z) tr_fits us) ∙ sym (fold-roll-Case _ _ case_layer_fits tr_layer_fits (Case-F.For us)) ∙ h in
    subst Clean (sym (fold-roll-Case _ _ case_layer_text tr_layer_text (Case-F.For us)))
    (both (codes "for(" ++ spaced_pieces (map tr_text us)) (codes ")") (both (codes "for(") (spaced_pieces (map tr_text us)) refl (trees_fit ts f)) refl)
layer_clean (Case-F.Call a b c) h =
    let h1 = and_parts _ _ (sym (fold-roll-Case _ _ case_layer_fits tr_layer_fits (Case-F.Call a b.0 c)) ∙ h) in
    let h2 = and_parts _ _ h1.1 in
    subst Clean (sym (fold-roll-Case _ _ case_layer_text tr_layer_text (Case-F.Call a b.0 c)))
    (both (codes "call(" ++ outs_text a ++ codes " " ++ tr_text b.0 ++ (codes " " ++ outs_text c)) (codes ")")
    (both (codes "call(" ++ outs_text a ++ codes " " ++ tr_text b.0) (codes " " ++ outs_text c)
    (both (codes "call(" ++ outs_text a ++ codes " ") (tr_text b.0) (both (codes "call(" ++ outs_text a) (codes " ") (both (codes "call(") (outs_text a) refl (outs_clean a h1.0)) refl) (b.1 h2.0))
    (both (codes " ") (outs_text c) refl (outs_clean c h2.1))) refl)

cases_clean : (cs : List ((c : Case) × CaseClean c)) → list_all case_fits (map (λ (p : (c : Case) × CaseClean c). p.0) cs) ≡ true → Clean (spaced_pieces (map case_text (map (λ (p : (c : Case) × CaseClean c). p.0) cs)))
cases_clean [] h = refl
cases_clean (c ∷ cs) h =
    let p = and_parts _ _ h in
    let ds = map (λ (p : (c : Case) × CaseClean c). p.0) cs in
    subst Clean (spaced_is case_text c.0 ds) (both (case_text c.0) (all_text (codes " ") case_text ds) (c.1 p.0) (others cs p.1))
  where
    others : (es : List ((c : Case) × CaseClean c)) → list_all case_fits (map (λ (p : (c : Case) × CaseClean c). p.0) es) ≡ true → Clean (all_text (codes " ") case_text (map (λ (p : (c : Case) × CaseClean c). p.0) es))
    others [] h = refl
    others (e ∷ es) h =
        let p = and_parts _ _ h in
        both (codes " " ++ case_text e.0) (all_text (codes " ") case_text (map (λ (p : (c : Case) × CaseClean c). p.0) es)) (both (codes " ") (case_text e.0) refl (e.1 p.0)) (others es p.1)

tree_clean : (cs : List ((c : Case) × CaseClean c)) → TrClean (roll-Tr (record { cases = map (λ (p : (c : Case) × CaseClean c). p.0) cs }))
tree_clean cs h =
    let ds = map (λ (p : (c : Case) × CaseClean c). p.0) cs in
    let t : Tr = record { cases = ds } in
    subst Clean (sym (tr_text_is t)) (both (codes "{") (spaced_pieces (map case_text ds) ++ codes "}") refl (both (spaced_pieces (map case_text ds)) (codes "}") (cases_clean cs (sym (tr_fits_is t) ∙ h)) refl))

tr_clean : (t : Tr) → TrClean t
tr_clean = ind-Tr CaseClean TrClean (λ x v is. subst (λ z. CaseClean (roll-Case z)) is (layer_clean v)) (λ x v is. subst (λ z. TrClean (roll-Tr z)) is (tree_clean v.cases))

transformer_clean : (t : Transformer) → transformer_fits t ≡ true → Clean (transformer_text t)
transformer_clean t h =
    let p = and_parts _ _ h in
    let q = and_parts _ _ p.1 in
    both (outs_text t.before ++ codes " " ++ tr_text t.body ++ codes " ") (outs_text t.after)
    (both (outs_text t.before ++ codes " " ++ tr_text t.body) (codes " ")
    (both (outs_text t.before ++ codes " ") (tr_text t.body) (both (outs_text t.before) (codes " ") (outs_clean t.before p.0) refl) (tr_clean t.body q.0)) refl) (outs_clean t.after q.1)

-- ---- lines
saved_clean : (rs : List Reg) → Clean (saved_text rs)
saved_clean [] = refl
saved_clean (r ∷ rs) = all_saved (r ∷ rs)
  where
    all_saved : (rs : List Reg) → Clean (concat (map saved_reg_text rs))
    all_saved [] = refl
    all_saved (r ∷ rs) = both (codes " " ++ reg_text r) (concat (map saved_reg_text rs)) (both (codes " ") (reg_text r) refl (reg_clean r)) (all_saved rs)

pre_clean : (p : Pre) → IsPreLine p → Clean (pre_text p)
pre_clean (pre.Region p factor None constant) h =
    both (codes "region " ++ p ++ codes " ") (decimal constant) (both (codes "region " ++ p) (codes " ") (both (codes "region ") p refl (name_clean p h.0)) refl) (number_clean constant h.2)
pre_clean (pre.Region p factor (Some v) constant) h =
    both (codes "region " ++ p ++ codes " ") (decimal factor ++ codes "*" ++ v ++ codes "+" ++ decimal constant)
    (both (codes "region " ++ p) (codes " ") (both (codes "region ") p refl (name_clean p h.0)) refl)
    (both (decimal factor ++ codes "*" ++ v ++ codes "+") (decimal constant)
    (both (decimal factor ++ codes "*" ++ v) (codes "+")
    (both (decimal factor ++ codes "*") v (both (decimal factor) (codes "*") (number_clean factor h.1) refl) (name_clean v h.2)) refl) (number_clean constant h.3))
pre_clean (pre.Range n low high) h =
    both (codes "range " ++ n ++ codes " " ++ decimal low ++ codes "..") (decimal high)
    (both (codes "range " ++ n ++ codes " " ++ decimal low) (codes "..")
    (both (codes "range " ++ n ++ codes " ") (decimal low) (both (codes "range " ++ n) (codes " ") (both (codes "range ") n refl (name_clean n h.0)) refl) (number_clean low h.1)) refl) (number_clean high h.2)
pre_clean (pre.Align p multiple) h =
    both (codes "align " ++ p ++ codes " ") (decimal multiple) (both (codes "align " ++ p) (codes " ") (both (codes "align ") p refl (name_clean p h.0)) refl) (number_clean multiple h.1)

secret_clean : (v : List ℕ) → IsSecret v → Clean v
secret_clean v (inl h) = name_clean v h
secret_clean v (inr h) =
    subst Clean (sym h.4) (both h.0 (codes "[" ++ (decimal h.1 ++ codes "]")) (name_clean h.0 h.2) (both (codes "[") (decimal h.1 ++ codes "]") refl (both (decimal h.1) (codes "]") (number_clean h.1 h.3) refl)))

ct_clean : (c : Ct) → IsCtLine c → Clean (ct_text c)
unfolding span_text
ct_clean ct.Yes h = refl
ct_clean (ct.No s k v) h =
    both (codes "no " ++ (decimal s.line ++ codes ":" ++ decimal s.col) ++ codes " " ++ kind_text k ++ codes " ") v
    (both (codes "no " ++ (decimal s.line ++ codes ":" ++ decimal s.col) ++ codes " " ++ kind_text k) (codes " ")
    (both (codes "no " ++ (decimal s.line ++ codes ":" ++ decimal s.col) ++ codes " ") (kind_text k)
    (both (codes "no " ++ (decimal s.line ++ codes ":" ++ decimal s.col)) (codes " ")
    (both (codes "no ") (decimal s.line ++ codes ":" ++ decimal s.col) refl
    (both (decimal s.line ++ codes ":") (decimal s.col) (both (decimal s.line) (codes ":") (number_clean s.line (omega (arith, h.0))) refl) (number_clean s.col (omega (arith, h.1))))) refl) (kind_clean k)) refl) (secret_clean v h.2)

held_clean : (a : Arg) → IsIdentifier a.name → Clean (held_text a)
held_clean a h =
    both a.name (codes " " ++ (size_text a.size ++ (codes " " ++ reg_text a.reg))) (name_clean a.name h)
    (both (codes " ") (size_text a.size ++ (codes " " ++ reg_text a.reg)) refl
    (both (size_text a.size) (codes " " ++ reg_text a.reg) (size_clean a.size) (both (codes " ") (reg_text a.reg) refl (reg_clean a.reg))))

pub line_clean : (l : Line) → IsLine l → Clean (line_text l)
line_clean line.First h = refl
line_clean (line.Fn n) h = both (codes "fn ") n refl (name_clean n h)
line_clean (line.Arg a) h =
    both (codes "arg ") (held_text a) refl (held_clean a h)
line_clean (line.Ret a) h =
    both (codes "ret ") (held_text a) refl (held_clean a h)
line_clean (line.Pre p) h = both (codes "pre ") (pre_text p) refl (pre_clean p h)
line_clean (line.Frame n) h = both (codes "frame ") (decimal n) refl (number_clean n h)
line_clean (line.Saved rs) h = both (codes "saved") (saved_text rs) refl (saved_clean rs)
line_clean (line.Insns n) h = both (codes "insns ") (decimal n) refl (number_clean n h)
line_clean (line.Code b) h = both (codes "code ") (encode_lower b) refl (hex_clean b)
line_clean (line.Leakage t) h = both (codes "tr ") (transformer_text t) refl (transformer_clean t h)
line_clean (line.Ct c) h = both (codes "ct ") (ct_text c) refl (ct_clean c h)
line_clean line.End h = refl
