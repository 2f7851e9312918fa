-- A text is cut into lines in one way.
use Rattle.std.proofs.Common.{◌≡◌, ℕ, Bool, true, false, List, [], ◌∷◌, ◌++◌, refl, sym, ap, ◌∙◌, append_assoc, ◌⊎◌, inl, inr}
use Rattle.std.specs.Prelude.{All}
use Rattle.std.specs.List.{list_all}
use Rattle.std.proofs.lemmas.Bool.{and_parts}
use Rattle.std.proofs.lemmas.List.Elements.{All-head, All-tail}
use Rattle.std.proofs.lemmas.List.Sums.{list_all-from_AllPass}
use Rattle.jz_listing_read.specs.Reading.{is_in_line, IsOneLine, ended, lines_text}

abbrev first : List ℕ → ℕ
first [] = 0
first (c ∷ cs) = c

abbrev others : List ℕ → List ℕ
others [] = []
others (c ∷ cs) = cs

feed_clash : (c : ℕ) (P : Type 0) → is_in_line c ≡ true → c ≡ 10 → P
feed_clash c P h e = absurd (let no : ◌≡◌ {A = Bool} false true = ap is_in_line (sym e) ∙ h in let gone : ⊥ = cc in gone)

-- the first line of a text
one_cut : (u v x y : List ℕ) → list_all is_in_line u ≡ true → list_all is_in_line v ≡ true → u ++ 10 ∷ x ≡ v ++ 10 ∷ y → (u ≡ v) × (x ≡ y)
one_cut [] [] x y h k e = (refl, ap others e)
one_cut [] (c ∷ v) x y h k e = feed_clash c _ (and_parts (is_in_line c) (list_all is_in_line v) k).0 (sym (ap first e))
one_cut (c ∷ u) [] x y h k e = feed_clash c _ (and_parts (is_in_line c) (list_all is_in_line u) h).0 (ap first e)
one_cut (c ∷ u) (d ∷ v) x y h k e =
    let more = one_cut u v x y (and_parts (is_in_line c) (list_all is_in_line u) h).1 (and_parts (is_in_line d) (list_all is_in_line v) k).1 (ap others e) in
    (ap (λ z. z ∷ u) (ap first e) ∙ ap (λ z. d ∷ z) more.0, more.1)

-- no end of a line in what has none
no_end : (u v x : List ℕ) (P : Type 0) → list_all is_in_line u ≡ true → u ≡ v ++ 10 ∷ x → P
no_end [] [] x P h e = absurd (let no : ⊥ = cc in no)
no_end [] (c ∷ v) x P h e = absurd (let no : ⊥ = cc in no)
no_end (c ∷ u) [] x P h e = feed_clash c P (and_parts (is_in_line c) (list_all is_in_line u) h).0 (ap first e)
no_end (c ∷ u) (d ∷ v) x P h e = no_end u v x P (and_parts (is_in_line c) (list_all is_in_line u) h).1 (ap others e)

pub is_line : (u : List ℕ) → IsOneLine u → list_all is_in_line u ≡ true
is_line u h = list_all-from_AllPass is_in_line u h

line_first : (u : List ℕ) (us : List (List ℕ)) (x : List ℕ) → lines_text (u ∷ us) ++ x ≡ u ++ 10 ∷ (lines_text us ++ x)
line_first u us x = append_assoc (u ++ 10 ∷ []) (lines_text us) x ∙ append_assoc u (10 ∷ []) (lines_text us ++ x)

nothing_is : (u x : List ℕ) (P : Type 0) → [] ≡ u ++ 10 ∷ x → P
nothing_is [] x P e = absurd (let no : ⊥ = cc in no)
nothing_is (c ∷ u) x P e = absurd (let no : ⊥ = cc in no)

-- lines and one line more, with anything behind it, at the front of lines
pub goes_on : (us vs : List (List ℕ)) (line more : List ℕ) → All IsOneLine us → All IsOneLine vs → IsOneLine line → lines_text vs ≡ lines_text us ++ (line ++ 10 ∷ more)
    → (ws : List (List ℕ)) × (vs ≡ us ++ line ∷ ws)
goes_on [] [] line more h k l e = nothing_is line more _ e
goes_on [] (v ∷ vs) line more h k l e =
    let c = one_cut v line (lines_text vs) more (is_line v (All-head IsOneLine v vs k)) (is_line line l) (sym (append_assoc v (10 ∷ []) (lines_text vs)) ∙ e) in
    (vs, ap (λ z. z ∷ vs) c.0)
goes_on (u ∷ us) [] line more h k l e = nothing_is u (lines_text us ++ (line ++ 10 ∷ more)) _ (e ∙ line_first u us (line ++ 10 ∷ more))
goes_on (u ∷ us) (v ∷ vs) line more h k l e =
    let c = one_cut v u (lines_text vs) (lines_text us ++ (line ++ 10 ∷ more)) (is_line v (All-head IsOneLine v vs k)) (is_line u (All-head IsOneLine u us h))
    (sym (append_assoc v (10 ∷ []) (lines_text vs)) ∙ e ∙ line_first u us (line ++ 10 ∷ more)) in
    let r = goes_on us vs line more (All-tail IsOneLine u us h) (All-tail IsOneLine v vs k) l c.1 in
    (r.0, ap (λ z. z ∷ vs) c.0 ∙ ap (λ z. u ∷ z) r.1)

-- lines and what has no end, as lines alone
pub ends_so : (us vs : List (List ℕ)) (last : List ℕ) → All IsOneLine us → All IsOneLine vs → IsOneLine last → lines_text vs ≡ lines_text us ++ last → (vs ≡ us) × (last ≡ [])
ends_so [] [] last h k l e = (refl, sym e)
ends_so [] (v ∷ vs) last h k l e = no_end last v (lines_text vs) _ (is_line last l) (sym e ∙ append_assoc v (10 ∷ []) (lines_text vs))
ends_so (u ∷ us) [] last h k l e = nothing_is u (lines_text us ++ last) _ (e ∙ line_first u us last)
ends_so (u ∷ us) (v ∷ vs) last h k l e =
    let c = one_cut v u (lines_text vs) (lines_text us ++ last) (is_line v (All-head IsOneLine v vs k)) (is_line u (All-head IsOneLine u us h))
    (sym (append_assoc v (10 ∷ []) (lines_text vs)) ∙ e ∙ line_first u us last) in
    let r = ends_so us vs last (All-tail IsOneLine u us h) (All-tail IsOneLine v vs k) l c.1 in
    (ap (λ z. z ∷ vs) c.0 ∙ ap (λ z. u ∷ z) r.0, r.1)

pub text_push : (us : List (List ℕ)) (u : List ℕ) → lines_text (us ++ u ∷ []) ≡ lines_text us ++ ended u
text_push [] u = append_nil' (ended u)
  where
    append_nil' : (x : List ℕ) → x ++ [] ≡ x
    append_nil' [] = refl
    append_nil' (c ∷ cs) = ap (λ z. c ∷ z) (append_nil' cs)
text_push (v ∷ vs) u = ap (λ z. ended v ++ z) (text_push vs u) ∙ sym (append_assoc (ended v) (lines_text vs) (ended u))

-- of two beginnings of a text in whole lines, one goes on with the other
pub one_further : (us vs : List (List ℕ)) (x y : List ℕ) → All IsOneLine us → All IsOneLine vs → lines_text us ++ x ≡ lines_text vs ++ y
    → ((ws : List (List ℕ)) × (us ≡ vs ++ ws)) ⊎ ((ws : List (List ℕ)) × (vs ≡ us ++ ws))
one_further [] vs x y h k e = inr (vs, refl)
one_further (u ∷ us) [] x y h k e = inl (u ∷ us, refl)
one_further (u ∷ us) (v ∷ vs) x y h k e =
    let c = one_cut u v (lines_text us ++ x) (lines_text vs ++ y) (is_line u (All-head IsOneLine u us h)) (is_line v (All-head IsOneLine v vs k)) (sym (line_first u us x) ∙ e ∙ line_first v vs y) in
    joined c.0 (one_further us vs x y (All-tail IsOneLine u us h) (All-tail IsOneLine v vs k) c.1)
  where
    joined : u ≡ v → ((ws : List (List ℕ)) × (us ≡ vs ++ ws)) ⊎ ((ws : List (List ℕ)) × (vs ≡ us ++ ws))
        → ((ws : List (List ℕ)) × ((u ∷ us) ≡ (v ∷ vs) ++ ws)) ⊎ ((ws : List (List ℕ)) × ((v ∷ vs) ≡ (u ∷ us) ++ ws))
    joined e (inl p) = inl (p.0, ap (λ z. z ∷ us) e ∙ ap (λ z. v ∷ z) p.1)
    joined e (inr p) = inr (p.0, ap (λ z. z ∷ vs) (sym e) ∙ ap (λ z. u ∷ z) p.1)

pub same_cut : (u v x y : List ℕ) → IsOneLine u → IsOneLine v → u ++ 10 ∷ x ≡ v ++ 10 ∷ y → u ≡ v
same_cut u v x y h k e = (one_cut u v x y (is_line u h) (is_line v k) e).0

pub no_end_in : (u v x : List ℕ) (P : Type 0) → IsOneLine u → u ≡ v ++ 10 ∷ x → P
no_end_in u v x P h e = no_end u v x P (is_line u h) e

pub text_more : (us vs : List (List ℕ)) → lines_text (us ++ vs) ≡ lines_text us ++ lines_text vs
text_more [] vs = refl
text_more (u ∷ us) vs = ap (λ z. ended u ++ z) (text_more us vs) ∙ sym (append_assoc (ended u) (lines_text us) (lines_text vs))
