-- Lines are read again, and what is read is a line.
use Rattle.std.proofs.Common.{◌≡◌, ℕ, ◌<◌, ◌^◌, Bool, true, false, List, [], ◌∷◌, ◌++◌, drop, Option, Some, None, refl, sym, ap, ◌∙◌, subst, append_assoc, append-nil, if◌then◌else◌, arith}
use Rattle.std.specs.Prelude.{codes, decimal, All, Err}
use Rattle.jz_data.specs.declared.failure.Failure.TheVariants.{Refused, OutOfMemory}
use Rattle.hex.specs.Hex.{encode_lower}
use Rattle.jz_leak.specs.declared.transformer.Transformer.{Transformer}
use Rattle.jz_lex.specs.LexingWords.{begins}
use Rattle.jz_lex.specs.Identifiers.{IsIdentifier}
use Rattle.jz_lex.proofs.LexingWords.{if_true, if_false, begins_split, begins_self}
use Rattle.jz_listing.specs.Listing.{pre_text, saved_text, ct_text}
use Rattle.jz_listing.specs.Listable.{transformer_fits}
use Rattle.jz_listing.specs.Transformers.{transformer_text}
use Rattle.jz_listing.proofs.TransformersApart.{transformer_apart}
use Rattle.jz_listing_lines.specs.declared.line.Line.{Line}
use Rattle.jz_listing_lines.specs.declared.line.Line.TheVariants as line
use Rattle.jz_listing_lines.specs.Lines.{held_text, line_text, IsLine, IsPreLine, IsCtLine, IsRead}
use Rattle.jz_listing_lines.specs.InnerReaders.{Gave, Reader, through, literal, behind, pick, is_end, name, number}
use Rattle.jz_listing_lines.specs.InnerPieces as piece
use Rattle.jz_listing_lines.specs.InnerTrees.{GaveTransformer}
use Rattle.jz_listing_lines.specs.InnerLines.{GaveLine, last_lines, number_lines, more_lines, first_lines}
use Rattle.jz_listing_lines.proofs.ReaderLaws.{Reads, Only, some_same, none_some, literal_back, literal_only, literal_reads, behind_back, behind_only, behind_reads, through_only, pick_only}
use Rattle.jz_listing_lines.proofs.Trees.{Cause, Nothing}
use Rattle.jz_listing_lines.proofs.Leaves.{name_reads, number_reads}
use Rattle.jz_listing_lines.proofs.Pieces.{held_reads, pre_reads, ct_reads, saved_reads, code_back, code_only, no_word_end}

abbrev IsLeakage : Line → Bool
IsLeakage (line.Leakage t) = true
IsLeakage other = false

-- ---- read again
-- a piece behind its word
again : {A : Type 0} {f : Reader A} {t : A → List ℕ} {F : A → Type 0} {S : List ℕ → Type 0} (w : List ℕ) → Reads f t F S → (to : A → Line) (a : A) → F a → S []
    → through to (behind w f (w ++ t a)) ≡ Some (to a, [])
again {f = f} {t = t} w r to a h s =
    ap (through to) (ap (behind w f) (ap (λ z. w ++ z) (sym (append-nil (t a)))) ∙ behind_back w f (t a ++ []) ∙ r.back a [] h s)

line_back : (l : Line) → IsLine l → IsLeakage l ≡ false → first_lines (line_text l) ≡ Some (l, [])
unfolding first_lines more_lines number_lines last_lines
line_back line.First h k = ap (through (λ u. line.First)) (literal_back (codes "jasmin-listing 1") [])
line_back (line.Fn n) h k = again (codes "fn ") name_reads line.Fn n h no_word_end
line_back (line.Arg a) h k = again (codes "arg ") held_reads line.Arg a h tt
line_back (line.Ret a) h k = again (codes "ret ") held_reads line.Ret a h tt
line_back (line.Pre p) h k = again (codes "pre ") pre_reads line.Pre p h (refl, refl)
line_back (line.Frame n) h k = again (codes "frame ") number_reads line.Frame n h refl
line_back (line.Saved rs) h k = again (codes "saved") saved_reads line.Saved rs tt refl
line_back (line.Insns n) h k = again (codes "insns ") number_reads line.Insns n h refl
line_back (line.Code bytes) h k =
    ap (through line.Code) (behind_back (codes "code ") piece.code (encode_lower bytes) ∙ code_back bytes h)
line_back (line.Leakage t) h k = absurd (let no : ⊥ = cc in no)
line_back (line.Ct c) h k = again (codes "ct ") ct_reads line.Ct c h (no_word_end, refl)
line_back line.End h k = ap (through (λ u. line.End)) (literal_back (codes "end") [])

-- ---- what is read
behind_code : Only (behind (codes "code ") piece.code) (λ b. codes "code " ++ encode_lower b) (λ b. All (λ x. x < 256) b)
behind_code bs rest b e =
    let p = behind_only (codes "code ") piece.code bs (b, rest) e in
    let c = code_only p.0 rest b p.2 in
    (p.1 ∙ ap (λ z. codes "code " ++ z) c.0 ∙ sym (append_assoc (codes "code ") (encode_lower b) rest), c.1)

last_only : Only last_lines line_text IsLine
unfolding last_lines
last_only =
    pick_only (codes "end") _ _ line_text IsLine
    (through_only (literal (codes "end")) (λ u. codes "end") (λ u. Unit {0}) (λ u. line.End) line_text IsLine (λ u. refl) (λ u h. tt) (literal_reads (codes "end")).only)
    (through_only (literal (codes "jasmin-listing 1")) (λ u. codes "jasmin-listing 1") (λ u. Unit {0}) (λ u. line.First) line_text IsLine (λ u. refl) (λ u h. tt) (literal_reads (codes "jasmin-listing 1")).only)

number_only : Only number_lines line_text IsLine
unfolding number_lines
number_only =
    pick_only (codes "frame ") _ _ line_text IsLine
    (through_only (behind (codes "frame ") number) (λ n. codes "frame " ++ decimal n) (λ n. n < 2 ^ 64) line.Frame line_text IsLine (λ n. refl) (λ n h. h) (behind_reads (codes "frame ") number_reads).only)
    (pick_only (codes "insns ") _ _ line_text IsLine
    (through_only (behind (codes "insns ") number) (λ n. codes "insns " ++ decimal n) (λ n. n < 2 ^ 64) line.Insns line_text IsLine (λ n. refl) (λ n h. h) (behind_reads (codes "insns ") number_reads).only)
    (pick_only (codes "code ") _ _ line_text IsLine
    (through_only (behind (codes "code ") piece.code) (λ b. codes "code " ++ encode_lower b) (λ b. All (λ x. x < 256) b) line.Code line_text IsLine (λ b. refl) (λ b h. h) behind_code)
    last_only))

more_only : Only more_lines line_text IsLine
unfolding more_lines
more_only =
    pick_only (codes "pre ") _ _ line_text IsLine
    (through_only (behind (codes "pre ") piece.precondition) (λ p. codes "pre " ++ pre_text p) IsPreLine line.Pre line_text IsLine (λ p. refl) (λ p h. h) (behind_reads (codes "pre ") pre_reads).only)
    (pick_only (codes "saved") _ _ line_text IsLine
    (through_only (behind (codes "saved") piece.saved) (λ rs. codes "saved" ++ saved_text rs) (λ rs. Unit {0}) line.Saved line_text IsLine (λ rs. refl) (λ rs h. tt) (behind_reads (codes "saved") saved_reads).only)
    (pick_only (codes "ct ") _ _ line_text IsLine
    (through_only (behind (codes "ct ") piece.verdict) (λ c. codes "ct " ++ ct_text c) IsCtLine line.Ct line_text IsLine (λ c. refl) (λ c h. h) (behind_reads (codes "ct ") ct_reads).only)
    number_only))

first_only : Only first_lines line_text IsLine
unfolding first_lines
first_only =
    pick_only (codes "fn ") _ _ line_text IsLine
    (through_only (behind (codes "fn ") name) (λ n. codes "fn " ++ n) IsIdentifier line.Fn line_text IsLine (λ n. refl) (λ n h. h) (behind_reads (codes "fn ") name_reads).only)
    (pick_only (codes "arg ") _ _ line_text IsLine
    (through_only (behind (codes "arg ") piece.held) (λ a. codes "arg " ++ held_text a) (λ a. IsIdentifier a.name) line.Arg line_text IsLine (λ a. refl) (λ a h. h) (behind_reads (codes "arg ") held_reads).only)
    (pick_only (codes "ret ") _ _ line_text IsLine
    (through_only (behind (codes "ret ") piece.held) (λ a. codes "ret " ++ held_text a) (λ a. IsIdentifier a.name) line.Ret line_text IsLine (λ a. refl) (λ a h. h) (behind_reads (codes "ret ") held_reads).only)
    more_only))

-- ---- the answers
no_more : (rest : List ℕ) → is_end rest ≡ true → rest ≡ []
no_more [] h = refl
no_more (b ∷ bs) h = absurd (let no : ⊥ = cc in no)

pub line_read : (bytes rest : List ℕ) (l : Line) → first_lines bytes ≡ Some (l, rest) → is_end rest ≡ true → IsRead bytes (Some l)
line_read bytes rest l e h =
    let a = first_only bytes rest l e in
    (a.1, sym (append-nil (line_text l)) ∙ ap (λ z. line_text l ++ z) (sym (no_more rest h)) ∙ sym a.0)

leakage_begins : (l : Line) → IsLeakage l ≡ true → begins (codes "tr ") (line_text l) ≡ true
leakage_begins (line.Leakage t) h = begins_self (codes "tr ") (transformer_text t)
leakage_begins line.First h = absurd (let no : ⊥ = cc in no)
leakage_begins (line.Fn n) h = absurd (let no : ⊥ = cc in no)
leakage_begins (line.Arg a) h = absurd (let no : ⊥ = cc in no)
leakage_begins (line.Ret a) h = absurd (let no : ⊥ = cc in no)
leakage_begins (line.Pre p) h = absurd (let no : ⊥ = cc in no)
leakage_begins (line.Frame n) h = absurd (let no : ⊥ = cc in no)
leakage_begins (line.Saved rs) h = absurd (let no : ⊥ = cc in no)
leakage_begins (line.Insns n) h = absurd (let no : ⊥ = cc in no)
leakage_begins (line.Code b) h = absurd (let no : ⊥ = cc in no)
leakage_begins (line.Ct c) h = absurd (let no : ⊥ = cc in no)
leakage_begins line.End h = absurd (let no : ⊥ = cc in no)

cases : (b : Bool) (P : Type 0) → (b ≡ true → P) → (b ≡ false → P) → P
cases true P f g = f refl
cases false P f g = g refl

differ : (b : Bool) (P : Type 0) → b ≡ true → b ≡ false → P
differ b P h k = absurd (let no : ⊥ = cc in no)

-- a line of these bytes is read as itself
only_line : (bytes : List ℕ) (l : Line) → begins (codes "tr ") bytes ≡ false → IsLine l → line_text l ≡ bytes → first_lines bytes ≡ Some (l, [])
only_line bytes l t h e = cases (IsLeakage l) (first_lines bytes ≡ Some (l, []))
    (λ k. differ (begins (codes "tr ") bytes) _ (ap (begins (codes "tr ")) (sym e) ∙ leakage_begins l k) t)
    (λ k. ap first_lines (sym e) ∙ line_back l h k)

pub no_line : (bytes : List ℕ) → begins (codes "tr ") bytes ≡ false → first_lines bytes ≡ None → IsRead bytes None
no_line bytes t e l h k = none_some (l, []) ⊥ (sym e ∙ only_line bytes l t h k)

pub line_and_more : (bytes rest : List ℕ) (m : Line) → begins (codes "tr ") bytes ≡ false → first_lines bytes ≡ Some (m, rest) → is_end rest ≡ false → IsRead bytes None
line_and_more bytes rest m t e f l h k =
    let same = some_same (m, rest) (l, []) (sym e ∙ only_line bytes l t h k) in
    differ (is_end rest) ⊥ (ap (λ p. is_end p.1) same) f

-- ---- the line of a transformer
pub leakage_read : (bytes more rest : List ℕ) (t : Transformer) → bytes ≡ codes "tr " ++ more → more ≡ transformer_text t ++ rest → transformer_fits t ≡ true → is_end rest ≡ true
    → IsRead bytes (Some (line.Leakage t))
leakage_read bytes more rest t e f h k =
    (h, ap (λ z. codes "tr " ++ z) (sym (append-nil (transformer_text t)) ∙ ap (λ z. transformer_text t ++ z) (sym (no_more rest k)) ∙ sym f) ∙ sym e)

abbrev front_byte : List ℕ → ℕ
front_byte [] = 0
front_byte (c ∷ cs) = c

-- a line that begins so is a transformer's
only_leakage : (l : Line) (more : List ℕ) (P : Type 0) → line_text l ≡ codes "tr " ++ more → ((t : Transformer) → l ≡ line.Leakage t → transformer_text t ≡ more → P) → P
only_leakage (line.Leakage t) more P e f = f t refl (ap (drop 3) e)
only_leakage line.First more P e f = absurd (let no : ◌≡◌ {A = ℕ} 106 116 = ap front_byte e in omega (arith, no))
only_leakage (line.Fn n) more P e f = absurd (let no : ◌≡◌ {A = ℕ} 102 116 = ap front_byte e in omega (arith, no))
only_leakage (line.Arg a) more P e f = absurd (let no : ◌≡◌ {A = ℕ} 97 116 = ap front_byte e in omega (arith, no))
only_leakage (line.Ret a) more P e f = absurd (let no : ◌≡◌ {A = ℕ} 114 116 = ap front_byte e in omega (arith, no))
only_leakage (line.Pre p) more P e f = absurd (let no : ◌≡◌ {A = ℕ} 112 116 = ap front_byte e in omega (arith, no))
only_leakage (line.Frame n) more P e f = absurd (let no : ◌≡◌ {A = ℕ} 102 116 = ap front_byte e in omega (arith, no))
only_leakage (line.Saved rs) more P e f = absurd (let no : ◌≡◌ {A = ℕ} 115 116 = ap front_byte e in omega (arith, no))
only_leakage (line.Insns n) more P e f = absurd (let no : ◌≡◌ {A = ℕ} 105 116 = ap front_byte e in omega (arith, no))
only_leakage (line.Code b) more P e f = absurd (let no : ◌≡◌ {A = ℕ} 99 116 = ap front_byte e in omega (arith, no))
only_leakage (line.Ct c) more P e f = absurd (let no : ◌≡◌ {A = ℕ} 99 116 = ap front_byte e in omega (arith, no))
only_leakage line.End more P e f = absurd (let no : ◌≡◌ {A = ℕ} 101 116 = ap front_byte e in omega (arith, no))

pub no_leakage : (bytes more : List ℕ) → bytes ≡ codes "tr " ++ more → ((t : Transformer) → transformer_fits t ≡ true → transformer_text t ≡ more → ⊥) → IsRead bytes None
no_leakage bytes more e none l h k =
    only_leakage l more ⊥ (k ∙ e) (λ t is f. none t (subst IsLine is h) f)

-- the answers, by what is left behind the first word
pub leakage_there : (bytes more rest : List ℕ) (t : Transformer) → literal (codes "tr ") bytes ≡ Some (tt, more) → (more ≡ transformer_text t ++ rest) × (transformer_fits t ≡ true) → is_end rest ≡ true
    → IsRead bytes (Some (line.Leakage t))
leakage_there bytes more rest t e h k = leakage_read bytes more rest t (literal_only (codes "tr ") bytes (tt, more) e) h.0 h.1 k

pub leakage_fails : (bytes more : List ℕ) → literal (codes "tr ") bytes ≡ Some (tt, more) → ((t : Transformer) (rest : List ℕ) → transformer_fits t ≡ true → more ≡ transformer_text t ++ rest → ⊥) → IsRead bytes None
leakage_fails bytes more e none =
    no_leakage bytes more (literal_only (codes "tr ") bytes (tt, more) e) (λ t h f. none t [] h (sym f ∙ sym (append-nil (transformer_text t))))

pub leakage_and_more : (bytes more rest : List ℕ) (t : Transformer) → literal (codes "tr ") bytes ≡ Some (tt, more) → (more ≡ transformer_text t ++ rest) × (transformer_fits t ≡ true) → is_end rest ≡ false
    → IsRead bytes None
leakage_and_more bytes more rest t e h k =
    no_leakage bytes more (literal_only (codes "tr ") bytes (tt, more) e) (λ u f g.
    (let same = transformer_apart t u rest [] h.1 f (sym h.0 ∙ sym g ∙ sym (append-nil (transformer_text u))) in
    differ (is_end rest) ⊥ (ap is_end same.1) k))

-- ---- the same by what the code answers
pub word_err : (e : Cause) (bytes cur new : List ℕ) → cur ≡ bytes → begins (codes "tr ") bytes ≡ true → Gave {A = Nothing} (Err e) new (literal (codes "tr ") cur) → GaveLine (Err e) bytes
word_err (Refused u) bytes cur new same b g =
    none_some (tt, drop 3 bytes) (IsRead bytes None) (sym g ∙ ap (literal (codes "tr ")) (same ∙ begins_split (codes "tr ") bytes b) ∙ literal_back (codes "tr ") (drop 3 bytes))
word_err OutOfMemory bytes cur new same b g = tt

pub leakage_err : (e : Cause) (bytes cur more new : List ℕ) → cur ≡ bytes → literal (codes "tr ") cur ≡ Some (tt, more) → GaveTransformer (Err e) more new → GaveLine (Err e) bytes
leakage_err (Refused u) bytes cur more new same f g = leakage_fails bytes more (ap (literal (codes "tr ")) (sym same) ∙ f) g
leakage_err OutOfMemory bytes cur more new same f g = tt

pub line_err : (e : Cause) (bytes cur new : List ℕ) → cur ≡ bytes → begins (codes "tr ") bytes ≡ false → Gave {A = Line} (Err e) new (first_lines cur) → GaveLine (Err e) bytes
line_err (Refused u) bytes cur new same b g = no_line bytes b (ap first_lines (sym same) ∙ g)
line_err OutOfMemory bytes cur new same b g = tt

-- ---- lines of one text
pub one_line : (l m : Line) → IsLine l → IsLine m → line_text l ≡ line_text m → l ≡ m
one_line l m h k e = cases (begins (codes "tr ") (line_text l)) (l ≡ m)
    (λ b.
    let front = begins_split (codes "tr ") (line_text l) b in
    only_leakage l (drop 3 (line_text l)) (l ≡ m) front (λ t is f.
    only_leakage m (drop 3 (line_text l)) (l ≡ m) (sym e ∙ front) (λ u also g.
    let same = (transformer_apart t u [] [] (subst IsLine is h) (subst IsLine also k)
    (append-nil (transformer_text t) ∙ f ∙ sym g ∙ sym (append-nil (transformer_text u)))).0 in
    is ∙ ap line.Leakage same ∙ sym also)))
    (λ b. ap (λ p. p.0) (some_same (l, []) (m, []) (sym (only_line (line_text l) l b h refl) ∙ only_line (line_text l) m b k (sym e))))
