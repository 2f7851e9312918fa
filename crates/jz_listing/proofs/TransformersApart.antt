-- Texts of transformers are told apart.
use Rattle.std.proofs.Common.{◌≡◌, ℕ, ◌^◌, Bool, true, false, List, [], ◌∷◌, ◌++◌, refl, sym, ap, ◌∙◌, append_assoc, arith, subst}
use Rattle.std.specs.Prelude.{map, decimal, ◌||◌, ◌==◌, if◌then◌else◌}
use Rattle.std.specs.Fmt.{signed_decimal}
use Rattle.std.specs.List.{list_all}
use Rattle.std.proofs.lemmas.Bool.{and_parts, or_parts, ltb-true}
use Rattle.std.proofs.lemmas.List.Folds.{list_all-map}
use Rattle.jz_leak.specs.declared.transformer.Form.{Form}
use Rattle.jz_leak.specs.declared.transformer.Form.TheVariants.{Num, Leaked, Frame, Indexed}
use Rattle.jz_leak.specs.declared.transformer.Out.{Out}
use Rattle.jz_leak.specs.declared.transformer.Out.TheVariants as out
use Rattle.jz_leak.specs.declared.transformer.Tr.{Tr}
use Rattle.jz_leak.specs.declared.transformer.Case.{Case}
use Rattle.jz_leak.specs.declared.transformer.Case.TheOpen.{Case-F}
use Rattle.jz_leak.specs.declared.transformer.Case.TheViews.{roll-Case, out-Case, roll-out-Case, roll-Tr}
use Rattle.jz_leak.specs.declared.transformer.Case.TheFolds.{fold-roll-Case, fold-roll-Tr, ind-Tr, map-Case}
use Rattle.jz_leak.specs.declared.transformer.Transformer.{Transformer}
use Rattle.jz_listing.specs.Transformers.{spaced_pieces, form_text, out_text, outs_text, case_layer_text, tr_layer_text, case_text, tr_text, transformer_text}
use Rattle.jz_listing.specs.Listable.{form_fits, out_fits, parts_fit, outs_fit, case_layer_fits, tr_layer_fits, case_fits, tr_fits, transformer_fits}
use Rattle.jz_listing.proofs.Apart.{first, rest, is_digit, decimal_apart, signed_apart, spaced_apart, digit_first}

-- ---- forms
-- what a form's text may go on with
abbrev goes_on : ℕ → Bool
goes_on c = is_digit c || (c == 43)

abbrev Stops : ℕ → Type 0
Stops c = goes_on c ≡ false

-- which form a text begins
abbrev form_kind : Form → ℕ
form_kind (Num n) = 0
form_kind (Leaked i) = 36
form_kind (Frame o) = 64
form_kind (Indexed o s i) = 64

abbrev kind_of_byte : ℕ → ℕ
kind_of_byte c = if is_digit c then 0 else c

form_begins : (f : Form) (x : List ℕ) → form_fits f ≡ true → kind_of_byte (first (form_text f ++ x)) ≡ form_kind f
form_begins (Num n) x h = rw (digit_first n x (ltb-true n (2 ^ 64) h)) refl
form_begins (Leaked i) x h = refl
form_begins (Frame o) x h = refl
form_begins (Indexed o s i) x h = refl

same_kind : (f g : Form) (x y : List ℕ) → form_fits f ≡ true → form_fits g ≡ true → form_text f ++ x ≡ form_text g ++ y → form_kind f ≡ form_kind g
same_kind f g x y h k e = sym (form_begins f x h) ∙ ap (λ t. kind_of_byte (first t)) e ∙ form_begins g y k

plus_goes_on : (c : ℕ) → c ≡ 43 → goes_on c ≡ false → ⊥
plus_goes_on c e h = (let z : goes_on 43 ≡ false = ap goes_on (sym e) ∙ h in cc)

indexed_shape : (o s i x : List ℕ) → ((64 ∷ []) ++ o ++ (43 ∷ []) ++ s ++ (42 ∷ 36 ∷ []) ++ i) ++ x ≡ 64 ∷ (o ++ (43 ∷ (s ++ (42 ∷ (36 ∷ (i ++ x))))))
indexed_shape o s i x = simp append_assoc refl

form_apart : (f g : Form) (x y : List ℕ) → form_fits f ≡ true → form_fits g ≡ true → Stops (first x) → Stops (first y) → form_text f ++ x ≡ form_text g ++ y → (f ≡ g) × (x ≡ y)
form_apart (Num m) (Num n) x y h k p q e =
    let b = decimal_apart m n x y (ltb-true m (2 ^ 64) h) (ltb-true n (2 ^ 64) k) (or_parts _ _ p).0 (or_parts _ _ q).0 e in (ap Num b.0, b.1)
form_apart (Leaked m) (Leaked n) x y h k p q e =
    let b = decimal_apart m n x y (ltb-true m (2 ^ 64) h) (ltb-true n (2 ^ 64) k) (or_parts _ _ p).0 (or_parts _ _ q).0 (ap rest e) in (ap Leaked b.0, b.1)
form_apart (Frame o) (Frame u) x y h k p q e =
    let b = signed_apart o u x y h k (or_parts _ _ p).0 (or_parts _ _ q).0 (ap rest e) in (ap Frame b.0, b.1)
form_apart (Frame o) (Indexed u s i) x y h k p q e =
    let b = signed_apart o u x _ h (and_parts _ _ k).0 (or_parts _ _ p).0 refl (ap rest (e ∙ indexed_shape (signed_decimal u) (decimal s) (decimal i) y)) in
    let plus : first x ≡ 43 = ap first b.1 in absurd (plus_goes_on _ plus p)
form_apart (Indexed u s i) (Frame o) x y h k p q e =
    let b = signed_apart u o _ y (and_parts _ _ h).0 k refl (or_parts _ _ q).0 (ap rest (sym (indexed_shape (signed_decimal u) (decimal s) (decimal i) x) ∙ e)) in
    let plus : first y ≡ 43 = sym (ap first b.1) in absurd (plus_goes_on _ plus q)
form_apart (Indexed o s i) (Indexed u r j) x y h k p q e =
    let a = and_parts _ _ h in
    let b = and_parts _ _ k in
    let c = and_parts _ _ a.1 in
    let d = and_parts _ _ b.1 in
    let r1 = signed_apart o u _ _ a.0 b.0 refl refl (ap rest (sym (indexed_shape (signed_decimal o) (decimal s) (decimal i) x) ∙ e ∙ indexed_shape (signed_decimal u) (decimal r) (decimal j) y)) in
    let r2 = decimal_apart s r _ _ (ltb-true s (2 ^ 64) c.0) (ltb-true r (2 ^ 64) d.0) refl refl (ap rest r1.1) in
    let r3 = decimal_apart i j x y (ltb-true i (2 ^ 64) c.1) (ltb-true j (2 ^ 64) d.1) (or_parts _ _ p).0 (or_parts _ _ q).0 (ap rest (ap rest r2.1)) in
    (λ z. Indexed (r1.0 z) (r2.0 z) (r3.0 z), r3.1)
form_apart f g x y h k p q e = absurd (omega (arith, same_kind f g x y h k e))

-- ---- events
abbrev out_kind : Out → ℕ
out_kind (out.Branch taken) = 98
out_kind (out.Addr a) = 97
out_kind (out.Div a b c) = 100

out_begins : (o : Out) (x : List ℕ) → first (out_text o ++ x) ≡ out_kind o
out_begins (out.Branch true) x = refl
out_begins (out.Branch false) x = refl
out_begins (out.Addr a) x = refl
out_begins (out.Div a b c) x = refl

same_out_kind : (o u : Out) (x y : List ℕ) → out_text o ++ x ≡ out_text u ++ y → out_kind o ≡ out_kind u
same_out_kind o u x y e = sym (out_begins o x) ∙ ap first e ∙ out_begins u y

div_shape : (a b c x : List ℕ) → ((100 ∷ 58 ∷ []) ++ a ++ (58 ∷ []) ++ b ++ (58 ∷ []) ++ c) ++ x ≡ 100 ∷ (58 ∷ (a ++ (58 ∷ (b ++ (58 ∷ (c ++ x))))))
div_shape a b c x = simp append_assoc refl

out_apart : (o u : Out) (x y : List ℕ) → out_fits o ≡ true → out_fits u ≡ true → Stops (first x) → Stops (first y) → out_text o ++ x ≡ out_text u ++ y → (o ≡ u) × (x ≡ y)
out_apart (out.Branch true) (out.Branch true) x y h k p q e = (refl, ap rest (ap rest e))
out_apart (out.Branch false) (out.Branch false) x y h k p q e = (refl, ap rest (ap rest e))
out_apart (out.Branch true) (out.Branch false) x y h k p q e = (let z : 49 ≡ 48 = ap first (ap rest e) in absurd (omega (arith, z)))
out_apart (out.Branch false) (out.Branch true) x y h k p q e = (let z : 48 ≡ 49 = ap first (ap rest e) in absurd (omega (arith, z)))
out_apart (out.Addr a) (out.Addr b) x y h k p q e =
    let r = form_apart a b x y h k p q (ap rest (ap rest e)) in (ap out.Addr r.0, r.1)
out_apart (out.Div a b c) (out.Div d f g) x y h k p q e =
    let h1 = and_parts _ _ h in
    let k1 = and_parts _ _ k in
    let h2 = and_parts _ _ h1.1 in
    let k2 = and_parts _ _ k1.1 in
    let r1 = form_apart a d _ _ h1.0 k1.0 refl refl (ap rest (ap rest (sym (div_shape (form_text a) (form_text b) (form_text c) x) ∙ e ∙ div_shape (form_text d) (form_text f) (form_text g) y))) in
    let r2 = form_apart b f _ _ h2.0 k2.0 refl refl (ap rest r1.1) in
    let r3 = form_apart c g x y h2.1 k2.1 p q (ap rest r2.1) in
    (λ z. out.Div (r1.0 z) (r2.0 z) (r3.0 z), r3.1)
out_apart o u x y h k p q e = absurd (omega (arith, same_out_kind o u x y e))

no_bracket : (o : Out) (x : List ℕ) → first (out_text o ++ x) ≡ 93 → ⊥
no_bracket (out.Branch true) x e = absurd (omega (arith, e))
no_bracket (out.Branch false) x e = absurd (omega (arith, e))
no_bracket (out.Addr a) x e = absurd (omega (arith, e))
no_bracket (out.Div a b c) x e = absurd (omega (arith, e))

map_same : {A : Type 0} (xs : List A) → map (λ a. a) xs ≡ xs
map_same [] = refl
map_same (a ∷ xs) = ap (λ ys. a ∷ ys) (map_same xs)

bracketed : (t x : List ℕ) → ((91 ∷ []) ++ t ++ (93 ∷ [])) ++ x ≡ 91 ∷ (t ++ (93 ∷ x))
bracketed t x = simp append_assoc refl

pub outs_apart : (os us : List Out) (x y : List ℕ) → outs_fit os ≡ true → outs_fit us ≡ true → outs_text os ++ x ≡ outs_text us ++ y → (os ≡ us) × (x ≡ y)
unfolding outs_text
outs_apart os us x y h k e =
    let inner = sym (bracketed (spaced_pieces (map out_text os)) x) ∙ e ∙ bracketed (spaced_pieces (map out_text us)) y in
    let r = spaced_apart (λ o. o) out_text out_fits Stops 93 refl refl (λ z. omega (arith, z)) (λ o u v w. out_apart o u v w) (λ o v f. no_bracket o v) os us x y
    (ap (λ l. list_all out_fits l) (map_same os) ∙ h) k (ap (λ l. spaced_pieces (map out_text l) ++ (93 ∷ x)) (map_same os) ∙ ap rest inner) in
    (sym (map_same os) ∙ r.0, r.1)

-- ---- cases and trees
abbrev case_kind : {A B : Type 0} → Case-F A B → ℕ
case_kind (Case-F.Op outs) = 111
case_kind (Case-F.If test then_outs then_tr else_outs else_tr) = 105
case_kind (Case-F.While prologue test more_outs body leave_outs) = 119
case_kind (Case-F.For trs) = 102
case_kind (Case-F.Call arguments body results) = 99

case_begins : (c : Case-F (List ℕ) (List ℕ)) (x : List ℕ) → first (case_layer_text c ++ x) ≡ case_kind c
case_begins (Case-F.Op outs) x = refl
case_begins (Case-F.If test then_outs then_tr else_outs else_tr) x = refl
case_begins (Case-F.While prologue test more_outs body leave_outs) x = refl
case_begins (Case-F.For trs) x = refl
case_begins (Case-F.Call arguments body results) x = refl

-- pieces one after another, in other brackets
joined_if : (o t s1 a s2 b s3 c s4 d k x : List ℕ) → (o ++ t ++ ((s1 ++ a) ++ s2 ++ b) ++ ((s3 ++ c) ++ s4 ++ d) ++ k) ++ x
    ≡ o ++ (t ++ (s1 ++ (a ++ (s2 ++ (b ++ (s3 ++ (c ++ (s4 ++ (d ++ (k ++ x))))))))))
joined_if o t s1 a s2 b s3 c s4 d k x = simp append_assoc refl

joined_while : (o p s1 t s2 a s3 b s4 c k x : List ℕ) → (o ++ p ++ (s1 ++ t) ++ ((s2 ++ a) ++ s3 ++ b) ++ (s4 ++ c) ++ k) ++ x
    ≡ o ++ (p ++ (s1 ++ (t ++ (s2 ++ (a ++ (s3 ++ (b ++ (s4 ++ (c ++ (k ++ x))))))))))
joined_while o p s1 t s2 a s3 b s4 c k x = simp append_assoc refl

joined_call : (o a s1 b s2 c k x : List ℕ) → (o ++ a ++ s1 ++ b ++ (s2 ++ c) ++ k) ++ x ≡ o ++ (a ++ (s1 ++ (b ++ (s2 ++ (c ++ (k ++ x))))))
joined_call o a s1 b s2 c k x = simp append_assoc refl

if_shape : (t a b c d x : List ℕ) → ((105 ∷ 102 ∷ 40 ∷ []) ++ t ++ (((32 ∷ []) ++ a) ++ (32 ∷ []) ++ b) ++ (((32 ∷ []) ++ c) ++ (32 ∷ []) ++ d) ++ (41 ∷ [])) ++ x
    ≡ 105 ∷ (102 ∷ (40 ∷ (t ++ (32 ∷ (a ++ (32 ∷ (b ++ (32 ∷ (c ++ (32 ∷ (d ++ (41 ∷ x))))))))))))
if_shape t a b c d x = joined_if (105 ∷ 102 ∷ 40 ∷ []) t (32 ∷ []) a (32 ∷ []) b (32 ∷ []) c (32 ∷ []) d (41 ∷ []) x

while_shape : (p t a b c x : List ℕ) → ((119 ∷ 104 ∷ 105 ∷ 108 ∷ 101 ∷ 40 ∷ []) ++ p ++ ((32 ∷ []) ++ t) ++ (((32 ∷ []) ++ a) ++ (32 ∷ []) ++ b) ++ ((32 ∷ []) ++ c) ++ (41 ∷ [])) ++ x
    ≡ 119 ∷ (104 ∷ (105 ∷ (108 ∷ (101 ∷ (40 ∷ (p ++ (32 ∷ (t ++ (32 ∷ (a ++ (32 ∷ (b ++ (32 ∷ (c ++ (41 ∷ x)))))))))))))))
while_shape p t a b c x = joined_while (119 ∷ 104 ∷ 105 ∷ 108 ∷ 101 ∷ 40 ∷ []) p (32 ∷ []) t (32 ∷ []) a (32 ∷ []) b (32 ∷ []) c (41 ∷ []) x

for_shape : (t x : List ℕ) → ((102 ∷ 111 ∷ 114 ∷ 40 ∷ []) ++ t ++ (41 ∷ [])) ++ x ≡ 102 ∷ (111 ∷ (114 ∷ (40 ∷ (t ++ (41 ∷ x)))))
for_shape t x = simp append_assoc refl

call_shape : (a b c x : List ℕ) → ((99 ∷ 97 ∷ 108 ∷ 108 ∷ 40 ∷ []) ++ a ++ (32 ∷ []) ++ b ++ ((32 ∷ []) ++ c) ++ (41 ∷ [])) ++ x
    ≡ 99 ∷ (97 ∷ (108 ∷ (108 ∷ (40 ∷ (a ++ (32 ∷ (b ++ (32 ∷ (c ++ (41 ∷ x))))))))))
call_shape a b c x = joined_call (99 ∷ 97 ∷ 108 ∷ 108 ∷ 40 ∷ []) a (32 ∷ []) b (32 ∷ []) c (41 ∷ []) x

braced : (t x : List ℕ) → ((123 ∷ []) ++ t ++ (125 ∷ [])) ++ x ≡ 123 ∷ (t ++ (125 ∷ x))
braced t x = simp append_assoc refl

abbrev CaseLaw : Case → Type 0
CaseLaw c = (d : Case) (x y : List ℕ) → case_fits c ≡ true → case_fits d ≡ true → case_text c ++ x ≡ case_text d ++ y → (c ≡ d) × (x ≡ y)

abbrev TrLaw : Tr → Type 0
TrLaw t = (s : Tr) (x y : List ℕ) → tr_fits t ≡ true → tr_fits s ≡ true → tr_text t ++ x ≡ tr_text s ++ y → (t ≡ s) × (x ≡ y)

-- a layer over parts of which the law is known
abbrev Known : Type 0
Known = Case-F ((c : Case) × CaseLaw c) ((t : Tr) × TrLaw t)

abbrev layer_of : Known → Case-F Case Tr
layer_of v = map-Case _ _ _ _ (λ e. e.0) (λ e. e.0) v

abbrev text_of : Case-F Case Tr → List ℕ
text_of v = case_layer_text (map-Case _ _ _ _ case_text tr_text v)

abbrev fits_of : Case-F Case Tr → Bool
fits_of v = case_layer_fits (map-Case _ _ _ _ case_fits tr_fits v)

text_is : (v : Case-F Case Tr) → case_text (roll-Case v) ≡ text_of v
text_is v = fold-roll-Case _ _ case_layer_text tr_layer_text v

fits_is : (v : Case-F Case Tr) → case_fits (roll-Case v) ≡ fits_of v
fits_is v = fold-roll-Case _ _ case_layer_fits tr_layer_fits v

kind_kept : (v : Case-F Case Tr) → case_kind (map-Case _ _ _ _ case_text tr_text v) ≡ case_kind v
kind_kept (Case-F.Op outs) = refl
kind_kept (Case-F.If test then_outs then_tr else_outs else_tr) = refl
kind_kept (Case-F.While prologue test more_outs body leave_outs) = refl
kind_kept (Case-F.For trs) = refl
kind_kept (Case-F.Call arguments body results) = refl

known_kept : (v : Known) → case_kind (layer_of v) ≡ case_kind v
known_kept (Case-F.Op outs) = refl
known_kept (Case-F.If test then_outs then_tr else_outs else_tr) = refl
known_kept (Case-F.While prologue test more_outs body leave_outs) = refl
known_kept (Case-F.For trs) = refl
known_kept (Case-F.Call arguments body results) = refl

same_case_kind : (v : Known) (w : Case-F Case Tr) (x y : List ℕ) → text_of (layer_of v) ++ x ≡ text_of w ++ y → case_kind v ≡ case_kind w
same_case_kind v w x y e =
    sym (known_kept v) ∙ sym (kind_kept (layer_of v)) ∙ sym (case_begins (map-Case _ _ _ _ case_text tr_text (layer_of v)) x) ∙ ap first e
    ∙ case_begins (map-Case _ _ _ _ case_text tr_text w) y ∙ kind_kept w

each_fits : {A : Type 0} (fits : A → Bool) (xs : List A) → parts_fit (map fits xs) ≡ true → list_all fits xs ≡ true
each_fits fits xs h = sym (list_all-map (λ z. z) fits xs) ∙ h

-- no tree begins with a bracket that closes
tr_begins : (t : Tr) (x : List ℕ) → first (tr_text t ++ x) ≡ 123
tr_begins t x = ap (λ u. first (u ++ x)) (fold-roll-Tr _ _ case_layer_text tr_layer_text (record { cases = t.cases }))

trs_apart : (ts : List ((t : Tr) × TrLaw t)) (us : List Tr) (x y : List ℕ) → parts_fit (map tr_fits (map (λ e. e.0) ts)) ≡ true → parts_fit (map tr_fits us) ≡ true
    → spaced_pieces (map tr_text (map (λ e. e.0) ts)) ++ (41 ∷ x) ≡ spaced_pieces (map tr_text us) ++ (41 ∷ y) → (map (λ e. e.0) ts ≡ us) × (x ≡ y)
trs_apart ts us x y h k e =
    spaced_apart (λ (p : (t : Tr) × TrLaw t). p.0) tr_text tr_fits (λ c. Unit {0}) 41 tt tt (λ z. omega (arith, z)) (λ p b v w f g m n q. p.1 b v w f g q)
    (λ t v f z. (let s : 123 ≡ 41 = sym (tr_begins t v) ∙ z in omega (arith, s))) ts us x y (each_fits tr_fits (map (λ p. p.0) ts) h) (each_fits tr_fits us k) e

layer_apart : (v : Known) (w : Case-F Case Tr) (x y : List ℕ) → fits_of (layer_of v) ≡ true → fits_of w ≡ true → text_of (layer_of v) ++ x ≡ text_of w ++ y → (layer_of v ≡ w) × (x ≡ y)
layer_apart (Case-F.Op outs) (Case-F.Op outs2) x y h k e =
    let r = outs_apart outs outs2 x y h k (ap rest (ap rest e)) in (ap Case-F.Op r.0, r.1)
layer_apart (Case-F.If t a b c d) (Case-F.If t2 a2 b2 c2 d2) x y h k e =
    let h1 = and_parts _ _ h in
    let k1 = and_parts _ _ k in
    let h2 = and_parts _ _ h1.1 in
    let k2 = and_parts _ _ k1.1 in
    let h3 = and_parts _ _ h2.1 in
    let k3 = and_parts _ _ k2.1 in
    let h4 = and_parts _ _ h3.1 in
    let k4 = and_parts _ _ k3.1 in
    let s = sym (if_shape (outs_text t) (outs_text a) (tr_text b.0) (outs_text c) (tr_text d.0) x) ∙ e ∙ if_shape (outs_text t2) (outs_text a2) (tr_text b2) (outs_text c2) (tr_text d2) y in
    let r1 = outs_apart t t2 _ _ h1.0 k1.0 (ap rest (ap rest (ap rest s))) in
    let r2 = outs_apart a a2 _ _ h2.0 k2.0 (ap rest r1.1) in
    let r3 = b.1 b2 _ _ h3.0 k3.0 (ap rest r2.1) in
    let r4 = outs_apart c c2 _ _ h4.0 k4.0 (ap rest r3.1) in
    let r5 = d.1 d2 _ _ h4.1 k4.1 (ap rest r4.1) in
    (λ i. Case-F.If (r1.0 i) (r2.0 i) (r3.0 i) (r4.0 i) (r5.0 i), ap rest r5.1)
layer_apart (Case-F.While p t a b c) (Case-F.While p2 t2 a2 b2 c2) x y h k e =
    let h1 = and_parts _ _ h in
    let k1 = and_parts _ _ k in
    let h2 = and_parts _ _ h1.1 in
    let k2 = and_parts _ _ k1.1 in
    let h3 = and_parts _ _ h2.1 in
    let k3 = and_parts _ _ k2.1 in
    let h4 = and_parts _ _ h3.1 in
    let k4 = and_parts _ _ k3.1 in
    let s = sym (while_shape (tr_text p.0) (outs_text t) (outs_text a) (tr_text b.0) (outs_text c) x) ∙ e ∙ while_shape (tr_text p2) (outs_text t2) (outs_text a2) (tr_text b2) (outs_text c2) y in
    let r1 = p.1 p2 _ _ h1.0 k1.0 (ap rest (ap rest (ap rest (ap rest (ap rest (ap rest s)))))) in
    let r2 = outs_apart t t2 _ _ h2.0 k2.0 (ap rest r1.1) in
    let r3 = outs_apart a a2 _ _ h3.0 k3.0 (ap rest r2.1) in
    let r4 = b.1 b2 _ _ h4.0 k4.0 (ap rest r3.1) in
    let r5 = outs_apart c c2 _ _ h4.1 k4.1 (ap rest r4.1) in
    (λ i. Case-F.While (r1.0 i) (r2.0 i) (r3.0 i) (r4.0 i) (r5.0 i), ap rest r5.1)
layer_apart (Case-F.For ts) (Case-F.For us) x y h k e =
    let s = sym (for_shape (spaced_pieces (map tr_text (map (λ p. p.0) ts))) x) ∙ e ∙ for_shape (spaced_pieces (map tr_text us)) y in
    let r = trs_apart ts us x y h k (ap rest (ap rest (ap rest (ap rest s)))) in
    (ap Case-F.For r.0, r.1)
layer_apart (Case-F.Call a b c) (Case-F.Call a2 b2 c2) x y h k e =
    let h1 = and_parts _ _ h in
    let k1 = and_parts _ _ k in
    let h2 = and_parts _ _ h1.1 in
    let k2 = and_parts _ _ k1.1 in
    let s = sym (call_shape (outs_text a) (tr_text b.0) (outs_text c) x) ∙ e ∙ call_shape (outs_text a2) (tr_text b2) (outs_text c2) y in
    let r1 = outs_apart a a2 _ _ h1.0 k1.0 (ap rest (ap rest (ap rest (ap rest (ap rest s))))) in
    let r2 = b.1 b2 _ _ h2.0 k2.0 (ap rest r1.1) in
    let r3 = outs_apart c c2 _ _ h2.1 k2.1 (ap rest r2.1) in
    (λ i. Case-F.Call (r1.0 i) (r2.0 i) (r3.0 i), ap rest r3.1)
layer_apart v w x y h k e = absurd (omega (arith, same_case_kind v w x y e))

case_law : (v : Known) → CaseLaw (roll-Case (layer_of v))
case_law v d x y h k e =
    let d_is : roll-Case (out-Case d) ≡ d = roll-out-Case d in
    let w = out-Case d in
    let r = layer_apart v w x y (sym (fits_is (layer_of v)) ∙ h) (sym (fits_is w) ∙ ap case_fits d_is ∙ k)
    (ap (λ t. t ++ x) (sym (text_is (layer_of v))) ∙ e ∙ ap (λ c. case_text c ++ y) (sym d_is) ∙ ap (λ t. t ++ y) (text_is w)) in
    (ap roll-Case r.0 ∙ d_is, r.1)

tr_text_is : (t : Tr) → tr_text t ≡ (123 ∷ []) ++ spaced_pieces (map case_text t.cases) ++ (125 ∷ [])
tr_text_is t = fold-roll-Tr _ _ case_layer_text tr_layer_text (record { cases = t.cases })

tr_fits_is : (t : Tr) → tr_fits t ≡ parts_fit (map case_fits t.cases)
tr_fits_is t = fold-roll-Tr _ _ case_layer_fits tr_layer_fits (record { cases = t.cases })

no_brace_layer : (v : Case-F Case Tr) (x : List ℕ) → first (text_of v ++ x) ≡ 125 → ⊥
no_brace_layer (Case-F.Op outs) x e = absurd (omega (arith, e))
no_brace_layer (Case-F.If test then_outs then_tr else_outs else_tr) x e = absurd (omega (arith, e))
no_brace_layer (Case-F.While prologue test more_outs body leave_outs) x e = absurd (omega (arith, e))
no_brace_layer (Case-F.For trs) x e = absurd (omega (arith, e))
no_brace_layer (Case-F.Call arguments body results) x e = absurd (omega (arith, e))

no_brace : (c : Case) (x : List ℕ) → first (case_text c ++ x) ≡ 125 → ⊥
no_brace c x e = no_brace_layer (out-Case c) x (ap (λ t. first (t ++ x)) (sym (text_is (out-Case c)) ∙ ap case_text (roll-out-Case c)) ∙ e)

cases_law : (cs : List ((c : Case) × CaseLaw c)) → TrLaw (roll-Tr (record { cases = map (λ e. e.0) cs }))
cases_law cs s x y h k e =
    let t : Tr = record { cases = map (λ (p : (c : Case) × CaseLaw c). p.0) cs } in
    let m = sym (braced (spaced_pieces (map case_text (map (λ p. p.0) cs))) x) ∙ ap (λ u. u ++ x) (sym (tr_text_is t)) ∙ e ∙ ap (λ u. u ++ y) (tr_text_is s) ∙ braced (spaced_pieces (map case_text s.cases)) y in
    let r = spaced_apart (λ (p : (c : Case) × CaseLaw c). p.0) case_text case_fits (λ c. Unit {0}) 125 tt tt (λ z. omega (arith, z)) (λ p b v w f g i j q. p.1 b v w f g q)
    (λ c v f z. no_brace c v z) cs s.cases x y (each_fits case_fits t.cases (sym (tr_fits_is t) ∙ h)) (each_fits case_fits s.cases (sym (tr_fits_is s) ∙ k)) (ap rest m) in
    (ap (λ (zs : List Case). record { cases = zs }) r.0, r.1)

pub tr_apart : (t : Tr) → TrLaw t
tr_apart = ind-Tr CaseLaw TrLaw (λ x v is. subst (λ z. CaseLaw (roll-Case z)) is (case_law v)) (λ x v is. subst (λ z. TrLaw (roll-Tr z)) is (cases_law v.cases))

-- ---- transformers
joined : (a s b k c x : List ℕ) → (a ++ s ++ b ++ k ++ c) ++ x ≡ a ++ (s ++ (b ++ (k ++ (c ++ x))))
joined a s b k c x = simp append_assoc refl

pub transformer_apart : (t u : Transformer) (x y : List ℕ) → transformer_fits t ≡ true → transformer_fits u ≡ true → transformer_text t ++ x ≡ transformer_text u ++ y → (t ≡ u) × (x ≡ y)
transformer_apart t u x y h k e =
    let h1 = and_parts _ _ h in
    let k1 = and_parts _ _ k in
    let h2 = and_parts _ _ h1.1 in
    let k2 = and_parts _ _ k1.1 in
    let s = sym (joined (outs_text t.before) (32 ∷ []) (tr_text t.body) (32 ∷ []) (outs_text t.after) x) ∙ e ∙ joined (outs_text u.before) (32 ∷ []) (tr_text u.body) (32 ∷ []) (outs_text u.after) y in
    let r1 = outs_apart t.before u.before _ _ h1.0 k1.0 s in
    let r2 = tr_apart t.body u.body _ _ h2.0 k2.0 (ap rest r1.1) in
    let r3 = outs_apart t.after u.after x y h2.1 k2.1 (ap rest r2.1) in
    (λ i. record { before = r1.0 i; body = r2.0 i; after = r3.0 i }, r3.1)
