-- Comments: where one ends, and that it ends in one place.
use Rattle.std.proofs.Common.{◌≡◌, ◌⊎◌, inl, inr, ⊎_elim, ℕ, ◌+◌, ◌<◌, ◌≤◌, List, [], ◌∷◌, ◌++◌, length, take, drop, get_or, ◌-◌, true, false, ◌==◌, nat_le, Option, Some, None, option_map, codes, refl, sym, ap, ap₂, ◌∙◌, subst, arith, length-append, append_assoc, drop-cons, length-drop, add-one}
use Rattle.std.proofs.lemmas.List.{take_all}
use Rattle.std.proofs.Math.Seq.{drop-length}
use Rattle.std.specs.List.{take_while}
use Rattle.std.proofs.lemmas.Bool.{and_parts, or_left, or_right}
use Rattle.jz_lex.specs.LexingWords.{begins, heads}
use Rattle.jz_lex.specs.Lexing.{is_blank, in_line, IsLineComment, IsBlockComment, IsSkipped, begins_comment, HasNone}
use Rattle.jz_lex.specs.InnerFront.{before_end, IsFront}
use Rattle.jz_lex.specs.declared.token.LexKind.TheVariants.{OpenComment}
use Rattle.jz_lex.specs.declared.front.Front.TheVariants as front
use Rattle.jz_lex.proofs.LexingWords.{by_cases, true_false, if_true, if_false, begins_split, begins_self, behind, behind_ends, run, while_true, same_run, beginning, cut, eq_is, le_is}

-- ---- the first end
end_stands : (text : List ℕ) → begins (codes "*/") text ≡ true → before_end text ≡ Some 0
unfolding before_end
end_stands [] h = cc
end_stands (b ∷ bs) h = if_true (begins (codes "*/") (b ∷ bs)) (Some 0) (option_map (λ n. 1 + n) (before_end bs)) h

end_later : (b : ℕ) (bs : List ℕ) → begins (codes "*/") (b ∷ bs) ≡ false → before_end (b ∷ bs) ≡ option_map (λ n. 1 + n) (before_end bs)
unfolding before_end
end_later b bs h = if_false (begins (codes "*/") (b ∷ bs)) (Some 0) (option_map (λ n. 1 + n) (before_end bs)) h

end_nowhere : before_end [] ≡ None
unfolding before_end
end_nowhere = refl

-- what is left to look at has the end of the whole
abbrev pub EndBehind : ℕ → List ℕ → Type 0
EndBehind i text = option_map (λ n. i + n) (before_end (drop i text)) ≡ before_end text

pub all_left : (i : ℕ) (text : List ℕ) → take (length text - i) (drop i text) ≡ drop i text
all_left i text = take_all (length text - i) (drop i text) (omega (arith, length-drop i text))

pub end_here : (i : ℕ) (text : List ℕ) → begins (codes "*/") (drop i text) ≡ true → EndBehind i text → Some i ≡ before_end text
end_here i text h e = let z : i + 0 ≡ i = omega arith in sym (ap Some z) ∙ sym (ap (option_map (λ n. i + n)) (end_stands (drop i text) h)) ∙ e

pub end_next : (i : ℕ) (text : List ℕ) → i < length text → begins (codes "*/") (drop i text) ≡ false → EndBehind i text → EndBehind (i + 1) text
end_next i text l h e =
    let c : drop i text ≡ get_or text i 0 ∷ drop (i + 1) text = rw add-one (drop-cons text i 0 l) in
    let f = end_later (get_or text i 0) (drop (i + 1) text) (subst (λ z. begins (codes "*/") z ≡ false) c h) in
    go (before_end (drop (i + 1) text)) ∙ sym (ap (option_map (λ n. i + n)) (ap before_end c ∙ f)) ∙ e
  where
    go : (o : Option ℕ) → option_map (λ n. i + 1 + n) o ≡ option_map (λ n. i + n) (option_map (λ n. 1 + n) o)
    go None = refl
    go (Some n) = let z : i + 1 + n ≡ i + (1 + n) = omega arith in ap Some z

pub end_none : (i : ℕ) (text : List ℕ) → i ≡ length text → EndBehind i text → None ≡ before_end text
end_none i text l e = sym (ap (option_map (λ n. i + n)) (ap before_end (ap (λ z. drop z text) l ∙ drop-length text) ∙ end_nowhere)) ∙ e

-- ---- what it means
some_none : (n : ℕ) → ◌≡◌ {A = Option ℕ} (Some n) None → ⊥
some_none n e = cc

same_some : (m n : ℕ) → ◌≡◌ {A = Option ℕ} (Some m) (Some n) → m ≡ n
same_some m n e = cc

pub end_missing : (text : List ℕ) → before_end text ≡ None → (u v : List ℕ) → text ≡ u ++ (codes "*/" ++ v) → ⊥
end_missing text h [] v e = some_none 0 (sym (end_stands text (ap (begins (codes "*/")) e ∙ begins_self (codes "*/") v)) ∙ h)
end_missing [] h (c ∷ u) v e = cc
end_missing (b ∷ bs) h (c ∷ u) v e = by_cases _ (begins (codes "*/") (b ∷ bs))
    (λ y. some_none 0 (sym (end_stands (b ∷ bs) y) ∙ h))
    (λ n. let t : bs ≡ u ++ (codes "*/" ++ v) = cc in
    end_missing bs (go (before_end bs) (sym (end_later b bs n) ∙ h)) u v t)
  where
    go : (o : Option ℕ) → option_map (λ n. 1 + n) o ≡ None → o ≡ None
    go None f = refl
    go (Some n) f = cc

-- the end that is found stands there, and none stands before it
abbrev EndsAt : List ℕ → ℕ → Type 0
EndsAt text n = (u v : List ℕ) × (text ≡ u ++ (codes "*/" ++ v)) × (length u ≡ n) × ((x y : List ℕ) → text ≡ x ++ (codes "*/" ++ y) → n ≤ length x)

pub end_found : (text : List ℕ) (n : ℕ) → before_end text ≡ Some n → EndsAt text n
end_found [] n h = absurd (some_none n (sym h ∙ end_nowhere))
end_found (b ∷ bs) n h = by_cases _ (begins (codes "*/") (b ∷ bs))
    (λ y. let z : 0 ≡ n = same_some 0 n (sym (end_stands (b ∷ bs) y) ∙ h) in
    ([], drop 2 (b ∷ bs), begins_split (codes "*/") (b ∷ bs) y, z, λ x w e. omega (arith, z)))
    (λ y. later y (λ m f. end_found bs m f) (before_end bs) refl (sym (end_later b bs y) ∙ h))
  where
    first : begins (codes "*/") (b ∷ bs) ≡ false → (m : ℕ) → 1 + m ≡ n → ((x w : List ℕ) → bs ≡ x ++ (codes "*/" ++ w) → m ≤ length x) → (x w : List ℕ) → b ∷ bs ≡ x ++ (codes "*/" ++ w) → n ≤ length x
    first y m z f [] w e = true_false (begins (codes "*/") (b ∷ bs)) _ (ap (begins (codes "*/")) e ∙ begins_self (codes "*/") w) y
    first y m z f (c ∷ x) w e = let t : bs ≡ x ++ (codes "*/" ++ w) = cc in let i = f x w t in omega (arith, i, z)

    later : begins (codes "*/") (b ∷ bs) ≡ false → ((m : ℕ) → before_end bs ≡ Some m → EndsAt bs m) → (o : Option ℕ) → before_end bs ≡ o → option_map (λ m. 1 + m) o ≡ Some n → EndsAt (b ∷ bs) n
    later y k None f g = cc
    later y k (Some m) f g =
        let z : 1 + m ≡ n = same_some (1 + m) n g in
        let q = k m f in
        (b ∷ q.0, q.1, ap (λ zs. b ∷ zs) q.2, omega (arith, z, q.3), λ x w e. first y m z q.4 x w e)

-- ---- comments at the front
pub line_part : (text : List ℕ) (n : ℕ) → begins (codes "//") text ≡ true → n ≡ length (take_while in_line text) → IsFront text (front.Skipped n)
line_part text n h e = let r = run in_line text in
    (take_while in_line text, behind in_line text, r.0, sym e, inr (inl (two text h, r.1, behind_ends in_line text)))
  where
    two : (bs : List ℕ) → begins (codes "//") bs ≡ true → begins (codes "//") (take_while in_line bs) ≡ true
    two [] h = cc
    two (a ∷ []) h = let p = and_parts (47 == a) false h in cc
    two (a ∷ b ∷ bs) h =
        let p = and_parts (47 == a) (begins (codes "/") (b ∷ bs)) h in
        let q = and_parts (47 == b) true p.1 in
        let x : 47 ≡ a = eq_is 47 a p.0 in
        let y : 47 ≡ b = eq_is 47 b q.0 in
        let t : take_while in_line (47 ∷ 47 ∷ bs) ≡ 47 ∷ 47 ∷ take_while in_line bs = while_true in_line 47 (47 ∷ bs) refl ∙ ap (λ z. 47 ∷ z) (while_true in_line 47 bs refl) in
        let u : take_while in_line (a ∷ b ∷ bs) ≡ 47 ∷ 47 ∷ take_while in_line bs = ap₂ (λ k l. take_while in_line (k ∷ l ∷ bs)) (sym x) (sym y) ∙ t in
        ap (begins (codes "//")) u

-- `/*` and what stands behind it
opened : (text : List ℕ) → begins (codes "/*") text ≡ true → text ≡ codes "/*" ++ drop 2 text
opened text h = begins_split (codes "/*") text h

pub block_part : (text : List ℕ) (n : ℕ) → begins (codes "/*") text ≡ true → before_end (drop 2 text) ≡ Some n → IsFront text (front.Skipped (2 + n + 2))
block_part text n h e =
    let q = end_found (drop 2 text) n e in
    let u = q.0 in
    let v = q.1 in
    let w = codes "/*" ++ (u ++ codes "*/") in
    let s : drop 2 text ≡ (u ++ codes "*/") ++ v = q.2 ∙ sym (append_assoc u (codes "*/") v) in
    let first : (x y : List ℕ) → u ++ codes "*/" ≡ x ++ (codes "*/" ++ y) → y ≡ [] = λ x y f.
    let i = q.4 x (y ++ v) (s ∙ ap (λ z. z ++ v) f ∙ append_assoc x (codes "*/" ++ y) v) in
    nothing y (omega (arith, i, q.3, ap length f, length-append u (codes "*/"), length-append x (codes "*/" ++ y), length-append (codes "*/") y)) in
    (w, v, opened text h ∙ ap (λ z. codes "/*" ++ z) s, omega (arith, q.3, length-append u (codes "*/")), inr (inr (u, refl, first)))
  where
    nothing : (y : List ℕ) → length y ≡ 0 → y ≡ []
    nothing [] e = refl
    nothing (b ∷ y) e = absurd (omega (arith, e))

pub open_part : (text : List ℕ) → begins (codes "/*") text ≡ true → before_end (drop 2 text) ≡ None → HasNone OpenComment text
open_part text h e = (drop 2 text, opened text h, end_missing (drop 2 text) e)

pub no_comment : (text : List ℕ) → begins (codes "//") text ≡ false → begins (codes "/*") text ≡ false → begins_comment text ≡ false
no_comment text h i = rw (h, i) refl

-- ---- what is skipped
pub some_skipped : (w more : List ℕ) → IsSkipped w more → 0 < length w
some_skipped w more h = ⊎_elim
    (λ a. omega (arith, ap length a.1))
    (λ a. ⊎_elim (λ b. line w b.0) (λ b. omega (arith, ap length b.1)) a)
    h
  where
    line : (w : List ℕ) → begins (codes "//") w ≡ true → 0 < length w
    line [] h = cc
    line (b ∷ w) h = omega arith

begins_more : (a w more : List ℕ) → begins a w ≡ true → begins a (w ++ more) ≡ true
begins_more [] w more h = refl
begins_more (x ∷ a) [] more h = cc
begins_more (x ∷ a) (b ∷ w) more h = let p = and_parts (x == b) (begins a w) h in rw p.0 (begins_more a w more p.1)

blank_slash : is_blank 47 ≡ false
unfolding is_blank
blank_slash = refl

-- a text that begins with a comment begins with a slash
line_slash : (text : List ℕ) → begins (codes "//") text ≡ true → (bs : List ℕ) × (text ≡ 47 ∷ 47 ∷ bs)
line_slash text h = (drop 2 text, begins_split (codes "//") text h)

-- what is skipped is a blank, or begins a comment
pub skipped_begins : (w more : List ℕ) → IsSkipped w more → (heads is_blank w ≡ true) ⊎ (begins_comment (w ++ more) ≡ true)
skipped_begins w more h = ⊎_elim
    (λ a. inl (ap (heads is_blank) a.1 ∙ a.2))
    (λ a. inr (⊎_elim
    (λ b. or_left _ _ (begins_more (codes "//") w more b.0))
    (λ b. or_right (begins (codes "//") (w ++ more)) (begins (codes "/*") (w ++ more)) (begins_more (codes "/*") w more (ap (begins (codes "/*")) b.1 ∙ begins_self (codes "/*") (b.0 ++ codes "*/"))))
    a))
    h

-- two that are skipped at one place are the same
line_block : (w v more rest : List ℕ) (P : Type 0) → IsLineComment w more → IsBlockComment v → w ++ more ≡ v ++ rest → P
line_block w v more rest P a b e =
    let f : begins (codes "//") (v ++ rest) ≡ true = ap (begins (codes "//")) (sym e) ∙ begins_more (codes "//") w more a.0 in
    let g : begins (codes "//") (v ++ rest) ≡ false = ap (λ z. begins (codes "//") (z ++ rest)) b.1 in
    true_false (begins (codes "//") (v ++ rest)) P f g

blank_comment : (w v more rest : List ℕ) (P : Type 0) (b : ℕ) → w ≡ b ∷ [] → is_blank b ≡ true → (IsLineComment v rest) ⊎ (IsBlockComment v) → w ++ more ≡ v ++ rest → P
blank_comment w v more rest P b x h k e = ⊎_elim
    (λ a. let q = line_slash v a.0 in
    let f : b ∷ more ≡ 47 ∷ 47 ∷ (q.0 ++ rest) = ap (λ z. z ++ more) (sym x) ∙ e ∙ ap (λ z. z ++ rest) q.1 in
    slash b more (47 ∷ (q.0 ++ rest)) f h)
    (λ a. let f : b ∷ more ≡ 47 ∷ 42 ∷ ((a.0 ++ codes "*/") ++ rest) = ap (λ z. z ++ more) (sym x) ∙ e ∙ ap (λ z. z ++ rest) a.1 in
    slash b more (42 ∷ ((a.0 ++ codes "*/") ++ rest)) f h)
    k
  where
    slash : (b : ℕ) (more bs : List ℕ) → b ∷ more ≡ 47 ∷ bs → is_blank b ≡ true → P
    slash b more bs f h = let y : b ≡ 47 = cc in true_false (is_blank b) P h (ap is_blank y ∙ blank_slash)

-- of two comments between signs neither is longer
block_most : (w v more rest : List ℕ) → IsBlockComment w → IsBlockComment v → w ++ more ≡ v ++ rest → length v ≤ length w
block_most w v more rest a b e = by_cases _ (nat_le (length (a.0 ++ codes "*/")) (length (b.0 ++ codes "*/")))
    (λ c.
    let f : (a.0 ++ codes "*/") ++ more ≡ (b.0 ++ codes "*/") ++ rest = within (ap (λ z. z ++ more) (sym a.1) ∙ e ∙ ap (λ z. z ++ rest) b.1) in
    let q = beginning (a.0 ++ codes "*/") (b.0 ++ codes "*/") more rest f (le_is _ _ c) in
    let z : q.0 ≡ [] = b.2 a.0 q.0 (q.1 ∙ append_assoc a.0 (codes "*/") q.0) in
    omega (arith, ap length a.1, ap length b.1, ap length q.1, length-append (a.0 ++ codes "*/") q.0, ap length z))
    (λ c. let l : length (b.0 ++ codes "*/") ≤ length (a.0 ++ codes "*/") = grind arith in omega (arith, ap length a.1, ap length b.1, l))
  where
    within : {x y : List ℕ} → 47 ∷ 42 ∷ x ≡ 47 ∷ 42 ∷ y → x ≡ y
    within f = cc

pub same_skipped : (w v more rest : List ℕ) → IsSkipped w more → IsSkipped v rest → w ++ more ≡ v ++ rest → (w ≡ v) × (more ≡ rest)
same_skipped w v more rest h k e = ⊎_elim
    (λ a. ⊎_elim
    (λ b. cut w v more rest e (ap length a.1 ∙ sym (ap length b.1)))
    (λ b. blank_comment w v more rest _ a.0 a.1 a.2 b e)
    k)
    (λ a. ⊎_elim
    (λ b. blank_comment v w rest more _ b.0 b.1 b.2 a (sym e))
    (λ b. ⊎_elim
    (λ c. ⊎_elim (λ d. cut w v more rest e (ap length (same_run in_line w v more rest c.1 d.1 c.2 d.2 e))) (λ d. line_block w v more rest _ c d e) b)
    (λ c. ⊎_elim (λ d. line_block v w rest more _ d c (sym e)) (λ d. cut w v more rest e (let i = block_most w v more rest c d e in let j = block_most v w rest more d c (sym e) in omega (arith, i, j))) b)
    a)
    k)
    h

-- where a comment is open, nothing is skipped
pub open_skipped : (P : Type 0) (text w rest : List ℕ) → HasNone OpenComment text → text ≡ w ++ rest → IsSkipped w rest → P
open_skipped P text w rest h e k = ⊎_elim
    (λ a. let f : 47 ∷ 42 ∷ h.0 ≡ a.0 ∷ rest = sym h.1 ∙ e ∙ ap (λ z. z ++ rest) a.1 in
    let y : a.0 ≡ 47 = cc in
    true_false (is_blank a.0) P a.2 (ap is_blank y ∙ blank_slash))
    (λ a. ⊎_elim
    (λ b. true_false (begins (codes "//") text) P (ap (begins (codes "//")) e ∙ begins_more (codes "//") w rest b.0) (ap (begins (codes "//")) h.1))
    (λ b. let f : 47 ∷ 42 ∷ h.0 ≡ 47 ∷ 42 ∷ ((b.0 ++ codes "*/") ++ rest) = sym h.1 ∙ e ∙ ap (λ z. z ++ rest) b.1 in
    let g : h.0 ≡ (b.0 ++ codes "*/") ++ rest = cc in
    absurd (h.2 b.0 rest (g ∙ append_assoc b.0 (codes "*/") rest)))
    a)
    k
