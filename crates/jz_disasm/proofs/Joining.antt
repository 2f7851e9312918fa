-- Instructions one after another: one more of them, and that bytes are those of one list alone.
use Rattle.std.proofs.Common.{◌≡◌, ℕ, ◌+◌, ◌<◌, ◌≤◌, List, [], ◌∷◌, ◌++◌, length, take, drop, refl, sym, ap, ◌∙◌, arith, subst, append_assoc, append-nil, length-append, add-zero, zero-add}
use Rattle.std.specs.Prelude.{All}
use Rattle.std.specs.Option.{option_to_list}
use Rattle.std.proofs.lemmas.List.{append_cancel_left, take-append-drop, length-take-le, length-drop, drop-drop, drop_all}
use Rattle.std.proofs.lemmas.List.Elements.{All-nil, All-head, All-tail, All-push}
use Rattle.x64_insn.specs.declared.types.Insn.{Insn}
use Rattle.x64_insn.specs.Encoding.{Fields, spelling_of, Spells, Decodes, IsBeginning}
use Rattle.x64_decode.proofs.DecodeExact.{one_form}
use Rattle.jz_disasm.specs.Instructions.{line_text}
use Rattle.jz_disasm.specs.Disassembly.{Spelled, IsSpelled, bytes_of, lines_text, IsDisassembly, HasNoInsn, IsGap}
use Rattle.jz_disasm.specs.declared.disassembly.Gap.{Gap}
use Rattle.jz_disasm.specs.declared.disassembly.GapKind.{GapKind}
use Rattle.jz_disasm.specs.declared.disassembly.GapKind.TheVariants.{Unknown, Truncated}

-- ---- a spelling has bytes
some_bytes : (a b c d : List ℕ) (o : ℕ) → 0 < length (a ++ (b ++ (c ++ ((o ∷ []) ++ d))))
some_bytes a b c d o =
    omega (arith, length-append a (b ++ (c ++ ((o ∷ []) ++ d))), length-append b (c ++ ((o ∷ []) ++ d)), length-append c ((o ∷ []) ++ d), length-append (o ∷ []) d)

fields_have_bytes : (f : Fields) → 0 < length (spelling_of f)
unfolding spelling_of
fields_have_bytes f =
    some_bytes (option_to_list f.operand_size) (option_to_list f.rex) (option_to_list f.escape)
    (option_to_list f.modrm ++ (option_to_list f.sib ++ (f.displacement ++ f.immediate))) f.opcode

pub spelled_some : (bs : List ℕ) (i : Insn) → Spells bs i → 0 < length bs
spelled_some bs i h = subst (λ xs. 0 < length xs) h.2 (fields_have_bytes h.0)

pub decoded_some : (bs : List ℕ) (i : Insn) (len : ℕ) → Decodes bs i len → 0 < len
decoded_some bs i len h = omega (arith, spelled_some (take len bs) i h.1, length-take-le len bs h.0)

-- ---- one more instruction
bytes_more : (ps : List Spelled) (p : Spelled) → bytes_of (ps ++ p ∷ []) ≡ bytes_of ps ++ p.0
unfolding bytes_of
bytes_more [] p = append-nil p.0
bytes_more (q ∷ qs) p = ap (λ bs. q.0 ++ bs) (bytes_more qs p) ∙ sym (append_assoc q.0 (bytes_of qs) p.0)

lines_more : (n : ℕ) (ps : List Spelled) (p : Spelled)
    → lines_text n (ps ++ p ∷ []) ≡ lines_text n ps ++ line_text (n + length (bytes_of ps)) p.0 p.1
unfolding lines_text bytes_of
lines_more n [] p = append-nil (line_text n p.0 p.1) ∙ ap (λ m. line_text m p.0 p.1) (sym (add-zero n))
lines_more n (q ∷ qs) p =
    let sums : (n + length q.0) + length (bytes_of qs) ≡ n + length (q.0 ++ bytes_of qs) = omega (arith, length-append q.0 (bytes_of qs)) in
    ap (λ ls. line_text n q.0 q.1 ++ ls) (lines_more (n + length q.0) qs p ∙ ap (λ m. lines_text (n + length q.0) qs ++ line_text m p.0 p.1) sums)
    ∙ sym (append_assoc (line_text n q.0 q.1) (lines_text (n + length q.0) qs) (line_text (n + length (q.0 ++ bytes_of qs)) p.0 p.1))

-- The text has the lines of the instructions up to an offset.
pub record Until (code : List ℕ) (offset : ℕ) (text : List ℕ) : Type 0 where
  pub insns : List Spelled
  pub spelled : All IsSpelled insns
  pub splits : code ≡ bytes_of insns ++ drop offset code
  pub offset_is : offset ≡ length (bytes_of insns)
  pub lines : text ≡ lines_text 0 insns

pub begun : (code : List ℕ) → Until code 0 []
unfolding bytes_of lines_text
begun code = record { insns = []; spelled = All-nil IsSpelled; splits = refl; offset_is = refl; lines = refl }

pub one_more : (code text new : List ℕ) (offset len : ℕ) (i : Insn) → Until code offset text → Decodes (drop offset code) i len
    → new ≡ text ++ line_text offset (take len (drop offset code)) i → Until code (offset + len) new
one_more code text new offset len i u d e =
    let p : Spelled = (take len (drop offset code), i) in
    let rest = drop offset code in
    let front = bytes_of u.insns in
    let size : length (take len rest) ≡ len = length-take-le len rest d.0 in
    let later : drop len rest ≡ drop (offset + len) code = drop-drop len offset code in
    record {
      insns = u.insns ++ p ∷ [];
      spelled = All-push IsSpelled u.insns p u.spelled d.1;
      splits =
          u.splits ∙ ap (λ r. front ++ r) (sym (take-append-drop len rest) ∙ ap (λ r. take len rest ++ r) later)
          ∙ sym (append_assoc front (take len rest) (drop (offset + len) code)) ∙ ap (λ bs. bs ++ drop (offset + len) code) (sym (bytes_more u.insns p));
      offset_is = omega (arith, u.offset_is, ap length (bytes_more u.insns p), length-append front (take len rest), size);
      lines =
          e ∙ ap (λ t. t ++ line_text offset (take len rest) i) u.lines
          ∙ ap (λ m. lines_text 0 u.insns ++ line_text m (take len rest) i) (u.offset_is ∙ sym (zero-add (length front)))
          ∙ sym (lines_more 0 u.insns p);
    }

pub at_end : (code text : List ℕ) (offset : ℕ) → Until code offset text → length code ≤ offset → IsDisassembly code text
at_end code text offset u h =
    record {
      insns = u.insns;
      spelled = u.spelled;
      whole = sym (append-nil (bytes_of u.insns)) ∙ ap (λ r. bytes_of u.insns ++ r) (sym (drop_all offset code h)) ∙ sym u.splits;
      lines = u.lines;
    }

pub gap_here : (code text : List ℕ) (offset : ℕ) (gap : Gap) → Until code offset text → offset < length code
    → (gap.offset ≡ offset) × HasNoInsn (drop offset code) gap.kind → IsGap code gap
gap_here code text offset gap u h g =
    record {
      insns = u.insns;
      spelled = u.spelled;
      rest = drop offset code;
      splits = u.splits;
      offset = g.0 ∙ u.offset_is;
      some = omega (arith, length-drop offset code, h);
      none = g.1;
    }

-- ---- one list alone
-- no instruction begins these bytes
abbrev Ends : List ℕ → Type 0
Ends x = (a : List ℕ) (i : Insn) (more : List ℕ) → Spells a i → x ≡ a ++ more → ⊥

nothing_ends : Ends []
nothing_ends a i more h e = absurd (omega (arith, spelled_some a i h, ap length e, length-append a more))

gap_ends : (x : List ℕ) (kind : GapKind) → HasNoInsn x kind → Ends x
gap_ends x Truncated h a i more s e =
    let longer = h.0 in
    let joined : a ++ (more ++ longer) ≡ (x ++ longer) ++ [] =
    sym (append_assoc a more longer) ∙ ap (λ z. z ++ longer) (sym e) ∙ sym (append-nil (x ++ longer)) in
    let same = one_form a (x ++ longer) (more ++ longer) [] i h.1 s h.3 joined in
    absurd (omega (arith, ap length same.0, length-append x longer, h.2, ap length e, length-append a more))
gap_ends x Unknown h a i more s e =
    let short : length a ≤ length x = omega (arith, ap length e, length-append a more) in
    let front : take (length a) x ≡ a = ap (λ z. take (length a) z) e ∙ front_of a more in
    h.1 i (length a) (short, subst (λ z. Spells z i) (sym front) s)
  where
    front_of : (a more : List ℕ) → take (length a) (a ++ more) ≡ a
    front_of [] more = refl
    front_of (c ∷ cs) more = ap (λ z. c ∷ z) (front_of cs more)

same_insns : (ps qs : List Spelled) (x y : List ℕ) → All IsSpelled ps → All IsSpelled qs → Ends x → Ends y
    → bytes_of ps ++ x ≡ bytes_of qs ++ y → (ps ≡ qs) × (x ≡ y)
unfolding bytes_of
same_insns [] [] x y h k f g e = (refl, e)
same_insns [] (q ∷ qs) x y h k f g e =
    absurd (f q.0 q.1 (bytes_of qs ++ y) (All-head IsSpelled q qs k) (e ∙ append_assoc q.0 (bytes_of qs) y))
same_insns (p ∷ ps) [] x y h k f g e =
    absurd (g p.0 p.1 (bytes_of ps ++ x) (All-head IsSpelled p ps h) (sym e ∙ append_assoc p.0 (bytes_of ps) x))
same_insns (p ∷ ps) (q ∷ qs) x y h k f g e =
    let joined : p.0 ++ (bytes_of ps ++ x) ≡ q.0 ++ (bytes_of qs ++ y) = sym (append_assoc p.0 (bytes_of ps) x) ∙ e ∙ append_assoc q.0 (bytes_of qs) y in
    let one = one_form p.0 q.0 (bytes_of ps ++ x) (bytes_of qs ++ y) p.1 q.1 (All-head IsSpelled p ps h) (All-head IsSpelled q qs k) joined in
    let rest = append_cancel_left p.0 (bytes_of ps ++ x) (bytes_of qs ++ y) (joined ∙ ap (λ a. a ++ (bytes_of qs ++ y)) (sym one.0)) in
    let more = same_insns ps qs x y (All-tail IsSpelled p ps h) (All-tail IsSpelled q qs k) f g rest in
    let first : p ≡ q = λ i. (one.0 i, one.1 i) in
    (ap (λ r. r ∷ ps) first ∙ ap (λ rs. q ∷ rs) more.0, more.1)

pub one_disassembly : (code t u : List ℕ) → IsDisassembly code t → IsDisassembly code u → t ≡ u
one_disassembly code t u h k =
    let whole : bytes_of h.insns ++ [] ≡ bytes_of k.insns ++ [] = ap (λ z. z ++ []) (h.whole ∙ sym k.whole) in
    let same = same_insns h.insns k.insns [] [] h.spelled k.spelled nothing_ends nothing_ends whole in
    h.lines ∙ ap (λ ps. lines_text 0 ps) same.0 ∙ sym k.lines

one_kind : (x y : List ℕ) (a b : GapKind) → x ≡ y → HasNoInsn x a → HasNoInsn y b → a ≡ b
one_kind x y Unknown Unknown e h k = refl
one_kind x y Truncated Truncated e h k = refl
one_kind x y Unknown Truncated e h k = absurd (h.0 (subst IsBeginning (sym e) k))
one_kind x y Truncated Unknown e h k = absurd (k.0 (subst IsBeginning e h))

pub one_gap : (code : List ℕ) (g h : Gap) → IsGap code g → IsGap code h → g ≡ h
one_gap code g h a b =
    let same = same_insns a.insns b.insns a.rest b.rest a.spelled b.spelled (gap_ends a.rest g.kind a.none) (gap_ends b.rest h.kind b.none) (sym a.splits ∙ b.splits) in
    let offsets : g.offset ≡ h.offset = a.offset ∙ ap (λ ps. length (bytes_of ps)) same.0 ∙ sym b.offset in
    let kinds : g.kind ≡ h.kind = one_kind a.rest b.rest g.kind h.kind same.1 a.none b.none in
    λ i. record { offset = offsets i; kind = kinds i }

pub gap_or_lines : (code t : List ℕ) (g : Gap) → IsDisassembly code t → IsGap code g → ⊥
gap_or_lines code t g h a =
    let same = same_insns h.insns a.insns [] a.rest h.spelled a.spelled nothing_ends (gap_ends a.rest g.kind a.none) (append-nil (bytes_of h.insns) ∙ h.whole ∙ a.splits) in
    omega (arith, ap length same.1, a.some)
