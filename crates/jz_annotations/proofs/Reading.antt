-- The strings of annotations, read and written.
use Rattle.std.proofs.Common.{◌≡◌, ℕ, ◌^◌, true, false, List, [], ◌∷◌, ◌++◌, Some, None, refl, sym, ap, ◌∙◌, subst, if◌then◌else◌, append-nil}
use Rattle.std.specs.Prelude.{codes}
use Rattle.jz_lex.specs.LexingWords.{heads, begins_word, in_word, is_digit, is_word}
use Rattle.jz_lex.proofs.LexingWords.{if_true}
use Rattle.jz_annotations.specs.declared.precondition.Pre.{Pre}
use Rattle.jz_annotations.specs.declared.precondition.Pre.TheVariants.{Range, Align}
use Rattle.jz_annotations.specs.Shapes.{is_space, IsMadeOf, Numbers, is_alignment, Writes, range, align}
use Rattle.jz_annotations.specs.InnerReaders.{Answer, Reader, ◌>>=◌, front_of, rest_of, is_end, name, number, sign, Extent, alone, extent, extent_rest, named}
use Rattle.jz_annotations.specs.InnerReaders as reader
use Rattle.jz_annotations.proofs.Words.{some_same, bind_parts, if_some, name_only, name_back, number_only, number_back, number_end, sign_only, sign_back, about, AreSpaces, gap_ends, part_begins, word_bytes, word_begins, numeral_bytes, numeral_begins}

-- ---- parts and signs
-- a part, and a sign between gaps, before a string of parts
pub made_more : (w sgn v : List ℕ) (ws : List (List ℕ)) (g h r s : List ℕ) → AreSpaces g → AreSpaces h → s ≡ w ++ about g sgn h r → IsMadeOf (v ∷ ws) r → IsMadeOf (w ∷ sgn ∷ v ∷ ws) s
made_more w sgn v ws g h r s a b e m = (g, sgn ++ (h ++ r), a, e, (h, r, b, refl, m))

pub record IsSplit (w sgn v : List ℕ) (ws : List (List ℕ)) (s : List ℕ) : Type 0 where
  pub before : List ℕ
  pub after : List ℕ
  pub rest : List ℕ
  pub spaces_before : AreSpaces before
  pub spaces_after : AreSpaces after
  pub is : s ≡ w ++ about before sgn after rest
  pub goes_on : IsMadeOf (v ∷ ws) rest

pub made_split : (w sgn v : List ℕ) (ws : List (List ℕ)) (s : List ℕ) → IsMadeOf (w ∷ sgn ∷ v ∷ ws) s → IsSplit w sgn v ws s
made_split w sgn v ws s (g, r, a, e, (h, q, b, f, m)) = record {
  before = g;
  after = h;
  rest = q;
  spaces_before = a;
  spaces_after = b;
  is = e ∙ ap (λ z. w ++ (g ++ z)) f;
  goes_on = m;
}

-- what is made of parts begins with the first
pub made_begins : (v : List ℕ) (ws : List (List ℕ)) (r : List ℕ) → IsMadeOf (v ∷ ws) r → (more : List ℕ) × (r ≡ v ++ more)
made_begins v [] r e = ([], e ∙ sym (append-nil v))
made_begins v (u ∷ ws) r (g, q, a, e, m) = (g ++ q, e)

-- a word, or a numeral: what begins with one begins with no space
pub word_first : (v : List ℕ) (ws : List (List ℕ)) (r : List ℕ) → is_word v ≡ true → IsMadeOf (v ∷ ws) r → heads is_space r ≡ false
word_first v ws r h m = let p = made_begins v ws r m in ap (heads is_space) p.1 ∙ part_begins v p.0 begins_word (word_begins v h) (word_bytes v h)

pub number_first : (limit n : ℕ) (v : List ℕ) (ws : List (List ℕ)) (r : List ℕ) → Numbers limit v n → IsMadeOf (v ∷ ws) r → heads is_space r ≡ false
number_first limit n v ws r h m = let p = made_begins v ws r m in ap (heads is_space) p.1 ∙ part_begins v p.0 is_digit (numeral_begins v h.numeral) (numeral_bytes v h.numeral)

-- ---- signs are no part of a word and no space
colon : (more : List ℕ) → (heads in_word (codes ":" ++ more) ≡ false) × (heads is_space (codes ":" ++ more) ≡ false)
unfolding in_word is_space
colon more = (refl, refl)

pub times : (more : List ℕ) → (heads in_word (codes "*" ++ more) ≡ false) × (heads is_space (codes "*" ++ more) ≡ false)
unfolding in_word is_space
times more = (refl, refl)

pub plus : (more : List ℕ) → (heads in_word (codes "+" ++ more) ≡ false) × (heads is_space (codes "+" ++ more) ≡ false)
unfolding in_word is_space
plus more = (refl, refl)

dots : (more : List ℕ) → (heads in_word (codes ".." ++ more) ≡ false) × (heads is_space (codes ".." ++ more) ≡ false)
unfolding in_word is_space
dots more = (refl, refl)

-- ---- a name and a colon
pub named_only : (bs : List ℕ) (x : List ℕ × List ℕ) → named bs ≡ Some x → (g : List ℕ) × (h : List ℕ) × AreSpaces g × AreSpaces h × (is_word x.0 ≡ true) × (bs ≡ x.0 ++ about g (codes ":") h x.1)
unfolding named
named_only bs x e =
    let p = bind_parts (name bs) (λ z. sign (codes ":") z.1 >>= λ y. Some (z.0, y.1)) x e in
    let q = bind_parts (sign (codes ":") p.0.1) (λ y. Some (p.0.0, y.1)) x p.2 in
    let n = name_only bs p.0 p.1 in
    let s = sign_only (codes ":") p.0.1 q.0 q.1 in
    let same = some_same (p.0.0, q.0.1) x q.2 in
    let Is : List ℕ × List ℕ → Type 0 = λ z. (is_word z.0 ≡ true) × (bs ≡ z.0 ++ about s.0 (codes ":") s.1 z.1) in
    let made : Is x = subst Is same (n.0, n.1 ∙ ap (λ z. p.0.0 ++ z) s.4) in
    (s.0, s.1, s.2, s.3, made.0, made.1)

pub named_back : (w : List ℕ) (g h r : List ℕ) → is_word w ≡ true → AreSpaces g → AreSpaces h → heads is_space r ≡ false → named (w ++ about g (codes ":") h r) ≡ Some (w, r)
unfolding named
named_back w g h r n a b s =
    let ends = gap_ends g (codes ":" ++ (h ++ r)) a (colon (h ++ r)).0 in
    ap (λ o. o >>= λ z. sign (codes ":") z.1 >>= λ y. Some (z.0, y.1)) (name_back w (about g (codes ":") h r) n ends)
    ∙ ap (λ o. o >>= λ y. Some (w, y.1)) (sign_back g (codes ":") h r a b (colon (h ++ r)).1 s)

-- ---- ranges
pub range_only : (bs : List ℕ) (p : Pre) → reader.range bs ≡ Some (p, []) → Writes (codes "range") bs p
unfolding reader.range
range_only bs p e =
    let w1 = bind_parts (named bs) (λ x. number (2 ^ 64) x.1 >>= λ y. sign (codes "..") y.1 >>= λ z. number (2 ^ 64) z.1 >>= λ w. Some (Range x.0 y.0 w.0, w.1)) (p, []) e in
    let x = w1.0 in
    let w2 = bind_parts (number (2 ^ 64) x.1) (λ y. sign (codes "..") y.1 >>= λ z. number (2 ^ 64) z.1 >>= λ w. Some (Range x.0 y.0 w.0, w.1)) (p, []) w1.2 in
    let y = w2.0 in
    let w3 = bind_parts (sign (codes "..") y.1) (λ z. number (2 ^ 64) z.1 >>= λ w. Some (Range x.0 y.0 w.0, w.1)) (p, []) w2.2 in
    let z = w3.0 in
    let w4 = bind_parts (number (2 ^ 64) z.1) (λ w. Some (Range x.0 y.0 w.0, w.1)) (p, []) w3.2 in
    let w = w4.0 in
    let same = some_same (Range x.0 y.0 w.0, w.1) (p, []) w4.2 in
    let n = named_only bs x w1.1 in
    let a = number_only (2 ^ 64) x.1 y w2.1 in
    let s = sign_only (codes "..") y.1 z w3.1 in
    let b = number_only (2 ^ 64) z.1 w w4.1 in
    let last : z.1 ≡ b.0 = b.2 ∙ ap (λ q. b.0 ++ q) (ap (λ q. q.1) same) ∙ append-nil b.0 in
    let inner = made_more a.0 (codes "..") b.0 [] s.0 s.1 z.1 x.1 s.2 s.3 (a.2 ∙ ap (λ q. a.0 ++ q) s.4) last in
    let whole = made_more x.0 (codes ":") a.0 (codes ".." ∷ b.0 ∷ []) n.0 n.1 x.1 bs n.2 n.3 n.5 inner in
    subst (λ q. Writes (codes "range") bs q) (ap (λ q. q.0) same) (range whole n.4 a.1 b.1)

pub range_back : (s x a b : List ℕ) (m n : ℕ) → IsMadeOf (x ∷ codes ":" ∷ a ∷ codes ".." ∷ b ∷ []) s → is_word x ≡ true → Numbers (2 ^ 64) a m → Numbers (2 ^ 64) b n → reader.range s ≡ Some (Range x m n, [])
unfolding reader.range
range_back s x a b m n h w k l =
    let p = made_split x (codes ":") a (codes ".." ∷ b ∷ []) s h in
    let q = made_split a (codes "..") b [] p.rest p.goes_on in
    ap reader.range p.is
    ∙ ap (λ o. o >>= λ x. number (2 ^ 64) x.1 >>= λ y. sign (codes "..") y.1 >>= λ z. number (2 ^ 64) z.1 >>= λ w. Some (Range x.0 y.0 w.0, w.1))
    (named_back x p.before p.after p.rest w p.spaces_before p.spaces_after (number_first (2 ^ 64) m a (codes ".." ∷ b ∷ []) p.rest k p.goes_on))
    ∙ ap (λ r. number (2 ^ 64) r >>= λ y. sign (codes "..") y.1 >>= λ z. number (2 ^ 64) z.1 >>= λ w. Some (Range x y.0 w.0, w.1)) q.is
    ∙ ap (λ o. o >>= λ y. sign (codes "..") y.1 >>= λ z. number (2 ^ 64) z.1 >>= λ w. Some (Range x y.0 w.0, w.1))
    (number_back (2 ^ 64) a (about q.before (codes "..") q.after q.rest) m k (gap_ends q.before (codes ".." ++ (q.after ++ q.rest)) q.spaces_before (dots (q.after ++ q.rest)).0))
    ∙ ap (λ o. o >>= λ z. number (2 ^ 64) z.1 >>= λ w. Some (Range x m w.0, w.1))
    (sign_back q.before (codes "..") q.after q.rest q.spaces_before q.spaces_after (dots (q.after ++ q.rest)).1 (number_first (2 ^ 64) n b [] q.rest l q.goes_on))
    ∙ ap (λ r. number (2 ^ 64) r >>= λ w. Some (Range x m w.0, w.1)) q.goes_on
    ∙ ap (λ o. o >>= λ w. Some (Range x m w.0, w.1)) (number_end (2 ^ 64) b n l)

-- ---- alignments
pub align_only : (bs : List ℕ) (p : Pre) → reader.align bs ≡ Some (p, []) → Writes (codes "align") bs p
unfolding reader.align
align_only bs p e =
    let w1 = bind_parts (named bs) (λ x. number (2 ^ 64) x.1 >>= λ y. if is_alignment y.0 then Some (Align x.0 y.0, y.1) else None) (p, []) e in
    let x = w1.0 in
    let w2 = bind_parts (number (2 ^ 64) x.1) (λ y. if is_alignment y.0 then Some (Align x.0 y.0, y.1) else None) (p, []) w1.2 in
    let y = w2.0 in
    let t = if_some (is_alignment y.0) (Some (Align x.0 y.0, y.1)) (p, []) w2.2 in
    let same = some_same (Align x.0 y.0, y.1) (p, []) t.1 in
    let n = named_only bs x w1.1 in
    let a = number_only (2 ^ 64) x.1 y w2.1 in
    let last : x.1 ≡ a.0 = a.2 ∙ ap (λ q. a.0 ++ q) (ap (λ q. q.1) same) ∙ append-nil a.0 in
    let whole = made_more x.0 (codes ":") a.0 [] n.0 n.1 x.1 bs n.2 n.3 n.5 last in
    subst (λ q. Writes (codes "align") bs q) (ap (λ q. q.0) same) (align whole n.4 a.1 t.0)

pub align_back : (s p a : List ℕ) (m : ℕ) → IsMadeOf (p ∷ codes ":" ∷ a ∷ []) s → is_word p ≡ true → Numbers (2 ^ 64) a m → is_alignment m ≡ true → reader.align s ≡ Some (Align p m, [])
unfolding reader.align
align_back s x a m h w k l =
    let p = made_split x (codes ":") a [] s h in
    ap reader.align p.is
    ∙ ap (λ o. o >>= λ x. number (2 ^ 64) x.1 >>= λ y. if is_alignment y.0 then Some (Align x.0 y.0, y.1) else None)
    (named_back x p.before p.after p.rest w p.spaces_before p.spaces_after (number_first (2 ^ 64) m a [] p.rest k p.goes_on))
    ∙ ap (λ r. number (2 ^ 64) r >>= λ y. if is_alignment y.0 then Some (Align x y.0, y.1) else None) p.goes_on
    ∙ ap (λ o. o >>= λ y. if is_alignment y.0 then Some (Align x y.0, y.1) else None) (number_end (2 ^ 64) a m k)
    ∙ if_true (is_alignment m) (Some (Align x m, [])) None l
