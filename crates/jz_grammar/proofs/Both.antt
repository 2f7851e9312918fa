-- Two forms that begin with one kind of token, told apart by the token after it.
use Rattle.std.proofs.Common.{◌≡◌, inl, inr, ⊎_elim, ℕ, List, [], ◌∷◌, ◌++◌, length, true, false, ◌&&◌, Ok, Err, Option, Some, refl, sym, ap, ◌∙◌, subst, arith, length-append, nat_lt}
use Rattle.std.proofs.lemmas.Bool.{and_parts}
use Rattle.jz_lex.proofs.LexingWords.{by_cases, if_false, if_true, true_false}
use Rattle.jz_lex.specs.declared.token.Token.{Token}
use Rattle.jz_grammar.specs.Causes.{Cause, TooDeep}
use Rattle.jz_grammar.specs.Kinds.{Kind, disjoint, is_in, has}
use Rattle.jz_grammar.specs.Readers.{Answer, Reader, ◌>>=◌, through, one, follow, has_both, pick_both}
use Rattle.jz_grammar.specs.Grammar.{Marked, Lang, plain, token, ◌▸◌, ◌⊕◌, ◌⇒◌}
use Rattle.jz_grammar.proofs.Laws.{Shape, head_of, First, outcome, Found, Stopped, IsReader, HasPhrase, full, Second}
use Rattle.jz_grammar.specs.Deriving.{plus}
use Rattle.jz_grammar.proofs.Basics.{in_left, in_right, has_append, in_apart, has_same, head_append, outcome_within, disjoint_nil, cancel, plain_length, bind_err, ok_same, ok_err, err_ok, through_err}
use Rattle.jz_grammar.proofs.Combine.{one_is, one_reads, follow_reads, map_reads, not_empty, shorter}

-- a word of two tokens and more is read as far as the word of its first, if the next does not go on
-- with that
pub outcome_rest : {A : Type 0} (e : ℕ) (xs : List Marked) (a b : A) (rest us : List Token) → outcome e xs a rest ≡ Ok (b, us) → us ≡ rest
outcome_rest e [] a b rest us h = let s = ok_same (a, rest) (b, us) h in sym (ap (λ p. p.1) s)
outcome_rest e (x ∷ xs) a b rest us h = by_cases _ (nat_lt x.1 e)
    (λ c. err_ok (b, us) (TooDeep, x.0 ∷ plain xs ++ rest) _ (sym (if_true (nat_lt x.1 e) _ _ c) ∙ h))
    (λ c. outcome_rest e xs a b rest us (sym (if_false (nat_lt x.1 e) _ _ c) ∙ h))

abbrev pub Alone : {A : Type 0} → List Kind → (ℕ → Lang A) → Type 0
Alone {A} ks lang = (t : Token) → is_in ks t ≡ true → (h : ℕ) × (a : A) × lang 0 ((t, h) ∷ []) a

pub alone_second : {A : Type 0} {f : Reader A} {l : ℕ → Lang A} {s : Shape} (ks ls : List Kind) → IsReader f l s → disjoint ls s.goes ≡ true → Alone ks l → Second ks ls f l
alone_second {A} {f = f} {l = l} {s = s} ks ls F apart alone = record { next = next; takes = takes }
  where
    alone' : (t : Token) (rest : List Token) → is_in ks t ≡ true → has s.goes rest ≡ false → (a : A) × (f (t ∷ rest) ≡ Ok (a, rest))
    alone' t rest h free = let w = alone t h in (w.1, F.again 0 ((t, w.0) ∷ []) w.1 rest w.2 free ∙ outcome_within 0 ((t, w.0) ∷ []) w.1 rest (omega arith, tt))

    next : (e : ℕ) (x y : Marked) (xs : List Marked) (a : A) → l e (x ∷ y ∷ xs) a → is_in ks x.0 ≡ true → is_in ls y.0 ≡ false
    next e x y xs a h k = by_cases _ (is_in ls y.0)
        (λ c.
        let w = alone' x.0 (y.0 ∷ (plain xs ++ [])) k (in_apart ls s.goes y.0 apart c) in
        let r = F.again e (x ∷ y ∷ xs) a [] h refl in
        let q = outcome_rest e (x ∷ y ∷ xs) a w.0 [] (y.0 ∷ (plain xs ++ [])) (sym r ∙ w.1) in
        absurd (omega (arith, ap length q)))
        (λ c. c)

    takes : (t : Token) (ts : List Token) (k : Cause) → is_in ks t ≡ true → f (t ∷ ts) ≡ Err (k, t ∷ ts) → ⊥
    takes t ts k h c =
        let q = F.stop (t ∷ ts) (t ∷ ts) k c in
        let e : q.pre ≡ [] = cancel q.pre [] (t ∷ ts) (sym q.splits) in
        let w = alone' t [] h refl in
        let bad : f (t ∷ []) ≡ Err (k, t ∷ []) = subst (λ z. f (z ++ t ∷ []) ≡ Err (k, t ∷ [])) e (q.stays (t ∷ []) refl) in
        ok_err (w.0, []) (k, t ∷ []) _ (sym w.1 ∙ bad)

pub follow_second : {A B : Type 0} {f : Reader A} {g : Reader B} {l : ℕ → Lang A} {m : ℕ → Lang B} (ks ls st go st' go' : List Kind) → IsReader f l (full st go) → IsReader g m (full st' go') → disjoint st' ls ≡ true → Second ks ls f l → Second ks ls (follow f g) (λ e. l e ▸ m e)
follow_second {A} {B} {f = f} {g = g} {l = l} {m = m} ks ls st go st' go' F G apart second = record { next = next; takes = takes }
  where
    same_two : (x y : Marked) (xs : List Marked) (p q : Marked) (us : List Marked) → x ∷ y ∷ xs ≡ p ∷ q ∷ us → (p ≡ x) × (q ≡ y)
    same_two x y xs p q us h = (cc, cc)

    split : (e : ℕ) (x y : Marked) (xs ys zs : List Marked) (a : A) (b : B) → l e ys a → m e zs b → x ∷ y ∷ xs ≡ ys ++ zs → is_in ks x.0 ≡ true → is_in ls y.0 ≡ false
    split e x y xs [] zs a b h k s i = true_false false _ (F.first e [] a h) refl
    split e x y xs (p ∷ []) [] a b h k s i = true_false false _ (G.first e [] b k) refl
    split e x y xs (p ∷ []) (q ∷ zs) a b h k s i = let t = same_two x y xs p q zs s in subst (λ z. is_in ls z.0 ≡ false) t.1 (in_apart st' ls q.0 apart (G.first e (q ∷ zs) b k))
    split e x y xs (p ∷ q ∷ ys) zs a b h k s i = let t = same_two x y xs p q (ys ++ zs) s in
        subst (λ z. is_in ls z.0 ≡ false) t.1 (second.next e p q ys a h (subst (λ z. is_in ks z.0 ≡ true) (sym t.0) i))

    next : (e : ℕ) (x y : Marked) (xs : List Marked) (p : A × B) → (l e ▸ m e) (x ∷ y ∷ xs) p → is_in ks x.0 ≡ true → is_in ls y.0 ≡ false
    next e x y xs p h i = split e x y xs h.0 h.1 p.0 p.1 h.2 h.3 h.4 i

    takes : (t : Token) (ts : List Token) (k : Cause) → is_in ks t ≡ true → follow f g (t ∷ ts) ≡ Err (k, t ∷ ts) → ⊥
    takes t ts k h c = ⊎_elim
        (λ i. second.takes t ts k h i)
        (λ x. ⊎_elim
        (λ i. let q = shorter st go F (t ∷ ts) x.0.1 x.0.0 x.1 in let r = G.stop x.0.1 (t ∷ ts) k i in absurd (omega (arith, q, ap length r.splits, length-append r.pre (t ∷ ts))))
        (λ y. ok_err _ (k, t ∷ ts) _ y.2)
        (bind_err (g x.0.1) (λ y. Ok ((x.0.0, y.0), y.1)) (k, t ∷ ts) x.2))
        (bind_err (f (t ∷ ts)) (λ x. g x.1 >>= λ y. Ok ((x.0, y.0), y.1)) (k, t ∷ ts) c)

pub map_second : {A B : Type 0} {f : Reader A} {l : ℕ → Lang A} (ks ls : List Kind) (to : A → B) → Second ks ls f l → Second ks ls (λ ts. through to (f ts)) (λ e. l e ⇒ to)
map_second {f = f} ks ls to second = record { next = λ e x y xs b h i. second.next e x y xs h.0 h.1 i; takes = λ t ts k h c. second.takes t ts k h (through_err to (f (t ∷ ts)) (k, t ∷ ts) c) }

-- a token of ks and a phrase that begins with one of ls, or a phrase that does not begin so
pub pick_both_reads : {A B : Type 0} {f : Reader A} {g : Reader B} {l : ℕ → Lang A} {m : ℕ → Lang B} (ks ls go st' go' end : List Kind) (d : ℕ) (example : Token) → is_in ks example ≡ true → (to : Token × A → B) → IsReader f l (full ls go) → HasPhrase l → IsReader g m (full st' go') → Second ks ls g m → ((e : ℕ) (x : Marked) (a : B) (rest : List Token) → m e (x ∷ []) a → is_in ks x.0 ≡ true → has end rest ≡ false → has ls rest ≡ false) → IsReader (pick_both ks ls (λ ts. through to (follow (one ks) f ts)) g) (λ e. ((token ks (plus d e) ▸ l e) ⇒ to) ⊕ m e) (full (ks ++ st') (go ++ (go' ++ end)))
pick_both_reads {A} {B} {f = f} {g = g} {l = l} {m = m} ks ls go st' go' end d example passes to F some G second single = record { first = first; again = again; found = found; stop = stop }
  where
    h' : Reader B
    h' ts = through to (follow (one ks) f ts)

    H : IsReader (λ ts. through to (follow (one ks) f ts)) (λ e. (token ks (plus d e) ▸ l e) ⇒ to) (full ks go)
    H = map_reads to (follow_reads (one_reads ks d example passes) F some (disjoint_nil ls))

    P : Reader B
    P = pick_both ks ls (λ ts. through to (follow (one ks) f ts)) g

    left : (ts : List Token) → has_both ks ls ts ≡ true → pick_both ks ls (λ ts. through to (follow (one ks) f ts)) g ts ≡ through to (follow (one ks) f ts)
    left ts h = if_true (has_both ks ls ts) _ _ h

    right : (ts : List Token) → has_both ks ls ts ≡ false → pick_both ks ls (λ ts. through to (follow (one ks) f ts)) g ts ≡ g ts
    right ts h = if_false (has_both ks ls ts) _ _ h

    first : (e : ℕ) (xs : List Marked) (a : B) → (((token ks (plus d e) ▸ l e) ⇒ to) ⊕ m e) xs a → First (full (ks ++ st') (go ++ (go' ++ end))) xs
    first e xs a h = ⊎_elim (λ x. one' xs (H.first e xs a x)) (λ x. two xs (G.first e xs a x)) h
      where
        one' : (xs : List Marked) → First (full ks go) xs → First (full (ks ++ st') (go ++ (go' ++ end))) xs
        one' [] h = h
        one' (x ∷ xs) h = in_left ks st' x.0 h

        two : (xs : List Marked) → First (full st' go') xs → First (full (ks ++ st') (go ++ (go' ++ end))) xs
        two [] h = h
        two (x ∷ xs) h = in_right ks st' x.0 h

    on_left : (e : ℕ) (xs : List Marked) (a : B) (rest : List Token) → ((token ks (plus d e) ▸ l e) ⇒ to) xs a → has_both ks ls (plain xs ++ rest) ≡ true
    on_left e xs a rest h = subst (λ z. has_both ks ls (plain z ++ rest) ≡ true) (sym (h.1.4 ∙ ap (λ z. z ++ h.1.1) h.1.2.0))
        (rw h.1.2.1 (begins h.1.1 (F.first e h.1.1 h.0.1 h.1.3)))
      where
        begins : (zs : List Marked) → First (full ls go) zs → has ls (plain zs ++ rest) ≡ true
        begins [] k = true_false false _ k refl
        begins (z ∷ zs) k = k

    on_right : (e : ℕ) (xs : List Marked) (a : B) (rest : List Token) → m e xs a → has end rest ≡ false → has_both ks ls (plain xs ++ rest) ≡ false
    on_right e [] a rest h free = true_false false _ (G.first e [] a h) refl
    on_right e (x ∷ []) a rest h free = by_cases _ (is_in ks x.0) (λ c. rw c (single e x a rest h c free)) (λ c. rw c refl)
    on_right e (x ∷ y ∷ xs) a rest h free = by_cases _ (is_in ks x.0) (λ c. rw c (second.next e x y xs a h c)) (λ c. rw c refl)

    again : (e : ℕ) (xs : List Marked) (a : B) (rest : List Token) → (((token ks (plus d e) ▸ l e) ⇒ to) ⊕ m e) xs a → has (go ++ (go' ++ end)) rest ≡ false → pick_both ks ls (λ ts. through to (follow (one ks) f ts)) g (plain xs ++ rest) ≡ outcome e xs a rest
    again e xs a rest h free =
        let x = has_append go (go' ++ end) rest free in
        let y = has_append go' end rest x.1 in
        ⊎_elim
        (λ u. left _ (on_left e xs a rest u) ∙ H.again e xs a rest u x.0)
        (λ u. right _ (on_right e xs a rest u y.1) ∙ G.again e xs a rest u y.0)
        h

    both_same : (t : Token) (pre rest other : List Token) → head_of rest ≡ head_of other → has_both ks ls (t ∷ (pre ++ other)) ≡ has_both ks ls (t ∷ (pre ++ rest))
    both_same t pre rest other n = ap (λ z. is_in ks t && z) (sym (has_same ls (pre ++ rest) (pre ++ other) (head_append pre rest other n)))

    -- what the first gives is past its first token
    found_left : (t : Token) (ts rest : List Token) (a : B) → is_in ks t ≡ true → (q : Found (λ ts. through to (follow (one ks) f ts)) (λ e. (token ks (plus d e) ▸ l e) ⇒ to) (t ∷ ts) a rest) → has_both ks ls (t ∷ ts) ≡ true → (pre : List Token) → q.pre ≡ pre → t ∷ ts ≡ pre ++ rest → Found (pick_both ks ls (λ ts. through to (follow (one ks) f ts)) g) (λ e. ((token ks (plus d e) ▸ l e) ⇒ to) ⊕ m e) (t ∷ ts) a rest
    found_left t ts rest a i q b [] e s = let w = q.whole 0 in let n = not_empty ks go w.0 (H.first 0 w.0 a w.1) in absurd (omega (arith, n, ap length w.3, ap length e, plain_length w.0))
    found_left t ts rest a i q b (u ∷ pre) e s = record {
      pre = u ∷ pre;
      splits = s;
      stays = λ other n. left _ (both_same u pre rest other n ∙ ap (λ z. has_both ks ls z) (sym s) ∙ b) ∙ ap (λ z. through to (follow (one ks) f (z ++ other))) (sym e) ∙ q.stays other n;
      whole = λ x. let w = q.whole x in (w.0, inl w.1, w.2, w.3 ∙ e);
    }

    found_right : (ts rest : List Token) (a : B) → (q : Found g m ts a rest) → has_both ks ls ts ≡ false → (pre : List Token) → q.pre ≡ pre → ts ≡ pre ++ rest → Found (pick_both ks ls (λ ts. through to (follow (one ks) f ts)) g) (λ e. ((token ks (plus d e) ▸ l e) ⇒ to) ⊕ m e) ts a rest
    found_right ts rest a q b [] e s = let w = q.whole 0 in let n = not_empty st' go' w.0 (G.first 0 w.0 a w.1) in absurd (omega (arith, n, ap length w.3, ap length e, plain_length w.0))
    found_right ts rest a q b (u ∷ pre) e s = record {
      pre = u ∷ pre;
      splits = s;
      stays = λ other n. right _ (both_same u pre rest other n ∙ ap (λ z. has_both ks ls z) (sym s) ∙ b) ∙ ap (λ z. g (z ++ other)) (sym e) ∙ q.stays other n;
      whole = λ x. let w = q.whole x in (w.0, inr w.1, w.2, w.3 ∙ e);
    }

    found : (ts rest : List Token) (a : B) → pick_both ks ls (λ ts. through to (follow (one ks) f ts)) g ts ≡ Ok (a, rest) → Found (pick_both ks ls (λ ts. through to (follow (one ks) f ts)) g) (λ e. ((token ks (plus d e) ▸ l e) ⇒ to) ⊕ m e) ts a rest
    found [] rest a h = let q = G.found [] rest a h in found_right [] rest a q refl q.pre refl q.splits
    found (t ∷ ts) rest a h = by_cases _ (has_both ks ls (t ∷ ts))
        (λ c. let q = H.found (t ∷ ts) rest a (sym (left _ c) ∙ h) in found_left t ts rest a (and_parts _ _ c).0 q c q.pre refl q.splits)
        (λ c. let q = G.found (t ∷ ts) rest a (sym (right _ c) ∙ h) in found_right (t ∷ ts) rest a q c q.pre refl q.splits)

    -- the first takes its first token
    takes : (t : Token) (ts : List Token) (k : Cause) → is_in ks t ≡ true → through to (follow (one ks) f (t ∷ ts)) ≡ Err (k, t ∷ ts) → ⊥
    takes t ts k i h =
        let a = through_err to (follow (one ks) f (t ∷ ts)) (k, t ∷ ts) h in
        let b : ◌≡◌ {A = Answer (Token × A)} (f ts >>= λ y. Ok ((t, y.0), y.1)) (Err (k, t ∷ ts)) = sym (ap (λ z. z >>= λ x. f x.1 >>= λ y. Ok ((x.0, y.0), y.1)) (one_is ks t ts i)) ∙ a in
        ⊎_elim
        (λ c. let q = F.stop ts (t ∷ ts) k c in absurd (omega (arith, ap length q.splits, length-append q.pre (t ∷ ts))))
        (λ y. ok_err _ (k, t ∷ ts) _ y.2)
        (bind_err (f ts) (λ y. Ok ((t, y.0), y.1)) (k, t ∷ ts) b)

    stop_left : (t : Token) (ts rest : List Token) (k : Cause) → is_in ks t ≡ true → through to (follow (one ks) f (t ∷ ts)) ≡ Err (k, rest) → (q : Stopped (λ ts. through to (follow (one ks) f ts)) (λ e. (token ks (plus d e) ▸ l e) ⇒ to) (t ∷ ts) k rest) → has_both ks ls (t ∷ ts) ≡ true → (pre : List Token) → q.pre ≡ pre → t ∷ ts ≡ pre ++ rest → Stopped (pick_both ks ls (λ ts. through to (follow (one ks) f ts)) g) (λ e. ((token ks (plus d e) ▸ l e) ⇒ to) ⊕ m e) (t ∷ ts) k rest
    stop_left t ts rest k i h q b [] e s = absurd (takes t ts k i (h ∙ ap (λ z. Err (k, z)) (sym s)))
    stop_left t ts rest k i h q b (u ∷ pre) e s = record {
      pre = u ∷ pre;
      splits = s;
      stays = λ other n. left _ (both_same u pre rest other n ∙ ap (λ z. has_both ks ls z) (sym s) ∙ b) ∙ ap (λ z. through to (follow (one ks) f (z ++ other))) (sym e) ∙ q.stays other n;
      begins = λ x j. let w = q.begins x j in (w.0, w.1, w.2, inl w.3, w.4, w.5 ∙ e, w.6);
    }

    stop_right : (ts rest : List Token) (k : Cause) → g ts ≡ Err (k, rest) → (q : Stopped g m ts k rest) → has_both ks ls ts ≡ false → (pre : List Token) → q.pre ≡ pre → ts ≡ pre ++ rest → Stopped (pick_both ks ls (λ ts. through to (follow (one ks) f ts)) g) (λ e. ((token ks (plus d e) ▸ l e) ⇒ to) ⊕ m e) ts k rest
    stop_right ts rest k h q b (u ∷ pre) e s = record {
      pre = u ∷ pre;
      splits = s;
      stays = λ other n. right _ (both_same u pre rest other n ∙ ap (λ z. has_both ks ls z) (sym s) ∙ b) ∙ ap (λ z. g (z ++ other)) (sym e) ∙ q.stays other n;
      begins = λ x j. let w = q.begins x j in (w.0, w.1, w.2, inr w.3, w.4, w.5 ∙ e, w.6);
    }
    stop_right ts rest k h q b [] e s = record {
      pre = [];
      splits = s;
      stays = λ other n. right _ (away rest other (ap g (sym s) ∙ h) n) ∙ ap (λ z. g (z ++ other)) (sym e) ∙ q.stays other n;
      begins = λ x j. let w = q.begins x j in (w.0, w.1, w.2, inr w.3, w.4, w.5 ∙ e, w.6);
    }
      where
        head_is : (t u : Token) → ◌≡◌ {A = Option Token} (Some t) (Some u) → t ≡ u
        head_is t u h = cc

        away : (rest other : List Token) → g rest ≡ Err (k, rest) → head_of rest ≡ head_of other → has_both ks ls other ≡ false
        away rest [] s n = refl
        away [] (u ∷ us) s n = cc
        away (t ∷ rest') (u ∷ us) s n = by_cases _ (is_in ks u)
            (λ c. absurd (second.takes t rest' k (ap (λ z. is_in ks z) (head_is t u n) ∙ c) s))
            (λ c. rw c refl)

    stop : (ts rest : List Token) (k : Cause) → pick_both ks ls (λ ts. through to (follow (one ks) f ts)) g ts ≡ Err (k, rest) → Stopped (pick_both ks ls (λ ts. through to (follow (one ks) f ts)) g) (λ e. ((token ks (plus d e) ▸ l e) ⇒ to) ⊕ m e) ts k rest
    stop [] rest k h = let q = G.stop [] rest k h in stop_right [] rest k h q refl q.pre refl q.splits
    stop (t ∷ ts) rest k h = by_cases _ (has_both ks ls (t ∷ ts))
        (λ c. let j = sym (left _ c) ∙ h in let q = H.stop (t ∷ ts) rest k j in stop_left t ts rest k (and_parts _ _ c).0 j q c q.pre refl q.splits)
        (λ c. let j = sym (right _ c) ∙ h in let q = G.stop (t ∷ ts) rest k j in stop_right (t ∷ ts) rest k j q c q.pre refl q.splits)

-- where a phrase has two parts it is no single token
pub follow_single : {A B : Type 0} {f : Reader A} {g : Reader B} {l : ℕ → Lang A} {m : ℕ → Lang B} (st go st' go' : List Kind) → IsReader f l (full st go) → IsReader g m (full st' go') → (P : Type 0) (e : ℕ) (x : Marked) (p : A × B) → (l e ▸ m e) (x ∷ []) p → P
follow_single st go st' go' F G P e x p h =
    let a = not_empty st go h.0 (F.first e h.0 p.0 h.2) in
    let b = not_empty st' go' h.1 (G.first e h.1 p.1 h.3) in
    absurd (omega (arith, a, b, ap length h.4, length-append h.0 h.1))
