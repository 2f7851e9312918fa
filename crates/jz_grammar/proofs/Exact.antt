-- Each answer of a reader, exactly.
use Rattle.std.proofs.Common.{◌≡◌, ◌⊎◌, inl, inr, ⊎_elim, ℕ, zero, suc, ◌+◌, ◌≤◌, List, [], ◌∷◌, ◌++◌, length, false, Result, Ok, Err, refl, sym, ap, ap₂, ◌∙◌, subst, arith, append_assoc, append-nil, length-append, nat_lt}
use Rattle.std.proofs.lemmas.Bool.{le-ltb}
use Rattle.jz_lex.proofs.LexingWords.{by_cases, if_false, if_true}
use Rattle.jz_lex.specs.declared.token.Token.{Token}
use Rattle.jz_grammar.specs.Causes.{Cause, Unexpected, TooDeep}
use Rattle.jz_grammar.specs.Kinds.{has}
use Rattle.jz_grammar.specs.Readers.{Answer, Reader, final}
use Rattle.jz_grammar.specs.Grammar.{Marked, Lang, plain, Within}
use Rattle.jz_grammar.proofs.Laws.{Shape, outcome, Next, Begun, IsReader}
use Rattle.jz_grammar.specs.Deriving.{plus, Derives, Begins, BeginsWithin, IsRefused}
use Rattle.jz_grammar.proofs.Basics.{plain_append, plain_rest, outcome_within, plain_length, ok_same, err_same, ok_err}
use Rattle.jz_grammar.proofs.Both.{outcome_rest}

within_zero : (xs : List Marked) → Within 0 xs
within_zero [] = tt
within_zero (x ∷ xs) = (omega arith, within_zero xs)

plus_zero : (n : ℕ) → plus n 0 ≡ n
plus_zero zero = refl
plus_zero (suc n) = ap (λ z. suc z) (plus_zero n)

plain_split : (xs : List Marked) (as' bs : List Token) → plain xs ≡ as' ++ bs → (ys : List Marked) × (zs : List Marked) × (xs ≡ ys ++ zs) × (plain ys ≡ as')
plain_split xs [] bs h = ([], xs, refl, refl)
plain_split [] (a ∷ as') bs h = cc
plain_split (x ∷ xs) (a ∷ as') bs h =
    let t : plain xs ≡ as' ++ bs = cc in
    let i = plain_split xs as' bs t in
    let u : x.0 ≡ a = cc in
    (x ∷ i.0, i.1, ap (λ z. x ∷ z) i.2, ap₂ (λ y ys. y ∷ ys) u i.3)

pub compare : (as' bs cs ds : List Token) → as' ++ bs ≡ cs ++ ds → ((m : List Token) × (cs ≡ as' ++ m) × (bs ≡ m ++ ds)) ⊎ ((m : List Token) × (as' ≡ cs ++ m) × (ds ≡ m ++ bs))
compare [] bs cs ds h = inl (cs, refl, h)
compare (a ∷ as') bs [] ds h = inr (a ∷ as', refl, sym h)
compare (a ∷ as') bs (c ∷ cs) ds h =
    let t : as' ++ bs ≡ cs ++ ds = cc in
    let u : a ≡ c = cc in
    ⊎_elim
    (λ i. inl (i.0, ap₂ (λ x xs. x ∷ xs) (sym u) i.1, i.2))
    (λ i. inr (i.0, ap₂ (λ x xs. x ∷ xs) u i.1, i.2))
    (compare as' bs cs ds t)

outcome_kind : {A : Type 0} (e : ℕ) (xs : List Marked) (a : A) (rest us : List Token) → outcome e xs a rest ≡ Err (Unexpected, us) → ⊥
outcome_kind e [] a rest us h = ok_err (a, rest) (Unexpected, us) _ h
outcome_kind {A} e (x ∷ xs) a rest us h = by_cases _ (nat_lt x.1 e)
    (λ c. let v = err_same {A = A} (TooDeep, x.0 ∷ plain xs ++ rest) (Unexpected, us) (sym (if_true (nat_lt x.1 e) _ _ c) ∙ h) in let w : TooDeep ≡ Unexpected = ap (λ p. p.0) v in cc)
    (λ c. outcome_kind e xs a rest us (sym (if_false (nat_lt x.1 e) _ _ c) ∙ h))

outcome_short : {A : Type 0} (e : ℕ) (xs : List Marked) (a : A) (rest us : List Token) (k : Cause) → outcome e xs a rest ≡ Err (k, us) → length us ≤ length xs + length rest
outcome_short e [] a rest us k h = ok_err (a, rest) (k, us) _ h
outcome_short {A} e (x ∷ xs) a rest us k h = by_cases _ (nat_lt x.1 e)
    (λ c. let v = err_same {A = A} (TooDeep, x.0 ∷ plain xs ++ rest) (k, us) (sym (if_true (nat_lt x.1 e) _ _ c) ∙ h) in let w = ap length (ap (λ p. p.1) v) in omega (arith, w, length-append (plain xs) rest, plain_length xs))
    (λ c. let i = outcome_short e xs a rest us k (sym (if_false (nat_lt x.1 e) _ _ c) ∙ h) in omega (arith, i))

outcome_skip : {A : Type 0} (e : ℕ) (xs ys : List Marked) (a : A) (rest : List Token) → Within e xs → outcome e (xs ++ ys) a rest ≡ outcome e ys a rest
outcome_skip e [] ys a rest w = refl
outcome_skip e (x ∷ xs) ys a rest w = if_false (nat_lt x.1 e) _ _ (le-ltb x.1 e w.0) ∙ outcome_skip e xs ys a rest w.1

module _ {A : Type 0} (read : Reader A) (lang : ℕ → Lang A) (limit : ℕ) (s : Shape) (R : IsReader read (λ e. lang (plus limit e)) s) (closed : (ts : List Token) → has s.goes ts ≡ false) where
  pub parsed_to : (ts : List Token) (a : A) → Derives lang limit ts a → read ts ≡ Ok (a, [])
  parsed_to ts a h =
      let l : lang (plus limit 0) h.0 a = subst (λ z. lang z h.0 a) (sym (plus_zero limit)) h.1 in
      ap read (sym h.2 ∙ sym (append-nil (plain h.0))) ∙ R.again 0 h.0 a [] l (closed []) ∙ outcome_within 0 h.0 a [] (within_zero h.0)

  pub parsed_from : (ts : List Token) (a : A) → read ts ≡ Ok (a, []) → Derives lang limit ts a
  parsed_from ts a h =
      let q = R.found ts [] a h in let w = q.whole 0 in
      (w.0, subst (λ z. lang z w.0 a) (plus_zero limit) w.1, w.3 ∙ sym (q.splits ∙ append-nil q.pre))

  pub within_begins : (ts : List Token) → BeginsWithin lang limit ts → Begins lang limit ts
  within_begins ts h = (h.0, h.1, h.2, h.3, h.4, h.5)

  within_split : (e : ℕ) (xs ys : List Marked) → Within e (xs ++ ys) → Within e xs
  within_split e [] ys w = tt
  within_split e (x ∷ xs) ys w = (w.0, within_split e xs ys w.1)

  pub begins_front : (as' bs : List Token) → BeginsWithin lang limit (as' ++ bs) → BeginsWithin lang limit as'
  begins_front as' bs h =
      let p = plain_split h.1 as' bs h.5 in
      (h.0, p.0, p.1 ++ h.2, h.3, subst (λ z. lang (plus limit h.0) z h.3) (ap (λ z. z ++ h.2) p.2 ∙ append_assoc p.0 p.1 h.2) h.4, p.3, within_split h.0 p.0 p.1 (subst (λ z. Within h.0 z) p.2 h.6))

  pub derives_begins : (ts : List Token) (a : A) → Derives lang limit ts a → BeginsWithin lang limit ts
  derives_begins ts a h = (0, h.0, [], a, subst (λ z. lang z (h.0 ++ []) a) (sym (plus_zero limit)) (subst (λ z. lang limit z a) (sym (append-nil h.0)) h.1), h.2, within_zero h.0)

  -- what is read of tokens that begin a text
  reading : (e : ℕ) (xs ys : List Marked) (a : A) (ts : List Token) → lang (plus limit e) (xs ++ ys) a → plain xs ≡ ts → read (ts ++ (plain ys ++ [])) ≡ outcome e (xs ++ ys) a []
  reading e xs ys a ts l p = ap read (ap (λ z. z ++ (plain ys ++ [])) (sym p) ∙ sym (plain_rest xs ys [])) ∙ R.again e (xs ++ ys) a [] l (closed [])

  one_more : (pre us : List Token) (t : Token) → (pre ++ t ∷ []) ++ us ≡ pre ++ t ∷ us
  one_more pre us t = append_assoc pre (t ∷ []) us

  unexpected_by : (pre : List Token) (t : Token) → ((us : List Token) → read (pre ++ t ∷ us) ≡ Err (Unexpected, t ∷ us)) → Begins lang limit (pre ++ t ∷ []) → ⊥
  unexpected_by pre t stays h =
      let r = reading h.0 h.1 h.2 h.3 (pre ++ t ∷ []) h.4 h.5 in
      outcome_kind h.0 (h.1 ++ h.2) h.3 [] (t ∷ (plain h.2 ++ [])) (sym r ∙ ap read (one_more pre (plain h.2 ++ []) t) ∙ stays (plain h.2 ++ []))

  left_over_by : (pre : List Token) (t : Token) (a : A) → ((us : List Token) → read (pre ++ t ∷ us) ≡ Ok (a, t ∷ us)) → Begins lang limit (pre ++ t ∷ []) → ⊥
  left_over_by pre t a stays h =
      let r = reading h.0 h.1 h.2 h.3 (pre ++ t ∷ []) h.4 h.5 in
      let q = outcome_rest h.0 (h.1 ++ h.2) h.3 a [] (t ∷ (plain h.2 ++ [])) (sym r ∙ ap read (one_more pre (plain h.2 ++ []) t) ∙ stays (plain h.2 ++ [])) in
      absurd (omega (arith, ap length q))

  deep_by : (pre : List Token) (t : Token) → ((us : List Token) → read (pre ++ t ∷ us) ≡ Err (TooDeep, t ∷ us)) → BeginsWithin lang limit (pre ++ t ∷ []) → ⊥
  deep_by pre t stays h =
      let r = reading h.0 h.1 h.2 h.3 (pre ++ t ∷ []) h.4 h.5 in
      let q = outcome_short h.0 h.2 h.3 [] (t ∷ (plain h.2 ++ [])) TooDeep (sym (outcome_skip h.0 h.1 h.2 h.3 [] h.6) ∙ sym r ∙ ap read (one_more pre (plain h.2 ++ []) t) ∙ stays (plain h.2 ++ [])) in
      absurd (omega (arith, q, length-append (plain h.2) [], plain_length h.2))

  begun_within : (k : Cause) (pre rest : List Token) → Begun (lang (plus limit 2)) 2 pre k rest → BeginsWithin lang limit pre
  begun_within k pre rest h = (2, h.0, h.1, h.2, h.3, h.5, h.4)

  begun_deep : (pre rest : List Token) (t : Token) → Begun (lang (plus limit 2)) 2 pre TooDeep (t ∷ rest) → Begins lang limit (pre ++ t ∷ [])
  begun_deep pre rest t h = more h.0 h.1 h.2 h.3 h.5 h.6
    where
      more : (xs ys : List Marked) (a : A) → lang (plus limit 2) (xs ++ ys) a → plain xs ≡ pre → Next TooDeep 2 ys (t ∷ rest) → Begins lang limit (pre ++ t ∷ [])
      more xs [] a l p n = absurd n
      more xs (y ∷ ys) a l p n = (2, xs ++ y ∷ [], ys, a, subst (λ z. lang (plus limit 2) z a) (sym (append_assoc xs (y ∷ []) ys)) l, plain_append xs (y ∷ []) ∙ ap₂ (λ u v. u ++ v ∷ []) p n.0)

  -- each refusal is told where it is
  refused_err : (ts rest : List Token) (t : Token) (k : Cause) → read ts ≡ Err (k, t ∷ rest) → (pre : List Token) × (ts ≡ pre ++ t ∷ rest) × IsRefused lang limit k pre t
  refused_err ts rest t Unexpected h = let q = R.stop ts (t ∷ rest) Unexpected h in
      (q.pre, q.splits, (begun_within Unexpected q.pre (t ∷ rest) (q.begins 2 (omega arith)), unexpected_by q.pre t (λ us. q.stays (t ∷ us) refl)))
  refused_err ts rest t TooDeep h = let q = R.stop ts (t ∷ rest) TooDeep h in
      let b = q.begins 2 (omega arith) in
      (q.pre, q.splits, (begun_within TooDeep q.pre (t ∷ rest) b, begun_deep q.pre rest t b, deep_by q.pre t (λ us. q.stays (t ∷ us) refl)))

  refused_over : (ts rest : List Token) (t : Token) (a : A) → read ts ≡ Ok (a, t ∷ rest) → (pre : List Token) × (ts ≡ pre ++ t ∷ rest) × IsRefused lang limit Unexpected pre t
  refused_over ts rest t a h = let q = R.found ts (t ∷ rest) a h in let w = q.whole 0 in
      (q.pre, q.splits, ((0, w.0, [], a, subst (λ z. lang (plus limit 0) z a) (sym (append-nil w.0)) w.1, w.3, w.2), left_over_by q.pre t a (λ us. q.stays (t ∷ us) refl)))

  answer_cases : (P : Type 0) (ts : List Token) → ((a : A) → read ts ≡ Ok (a, []) → P) → ((a : A) (t : Token) (rest : List Token) → read ts ≡ Ok (a, t ∷ rest) → P) → ((k : Cause) → read ts ≡ Err (k, []) → P) → ((k : Cause) (t : Token) (rest : List Token) → read ts ≡ Err (k, t ∷ rest) → P) → P
  answer_cases P ts f g h i = cases (read ts) refl
    where
      cases : (r : Answer A) → read ts ≡ r → P
      cases (Ok (a, [])) e = f a e
      cases (Ok (a, t ∷ rest)) e = g a t rest e
      cases (Err (k, [])) e = h k e
      cases (Err (k, t ∷ rest)) e = i k t rest e

  same_err : (k k' : Cause) (r r' : List Token) → ◌≡◌ {A = Result A (Cause × List Token)} (Err (k, r)) (Err (k', r')) → (k ≡ k') × (r ≡ r')
  same_err k k' r r' h = let p : ◌≡◌ {A = Cause × List Token} (k, r) (k', r') = cc in (ap (λ z. z.0) p, ap (λ z. z.1) p)

  pub refused_from : (ts rest : List Token) (t : Token) (k : Cause) → final (read ts) ≡ Err (k, t ∷ rest) → (pre : List Token) × (ts ≡ pre ++ t ∷ rest) × IsRefused lang limit k pre t
  refused_from ts rest t k h = answer_cases _ ts
      (λ a e. let c : ◌≡◌ {A = Result A (Cause × List Token)} (Ok a) (Err (k, t ∷ rest)) = sym (ap final e) ∙ h in cc)
      (λ a u us e. let c = same_err Unexpected k (u ∷ us) (t ∷ rest) (sym (ap final e) ∙ h) in
      let v : u ≡ t = cons_head u t us rest c.1 in let vs : us ≡ rest = cons_tail u t us rest c.1 in
      subst (λ z. (pre : List Token) × (ts ≡ pre ++ t ∷ rest) × IsRefused lang limit z pre t) c.0
      (refused_over ts rest t a (e ∙ ap₂ (λ x y. Ok (a, x ∷ y)) v vs)))
      (λ k' e. let c = same_err k' k [] (t ∷ rest) (sym (ap final e) ∙ h) in absurd (omega (arith, ap length c.1)))
      (λ k' u us e. refused_err ts rest t k (e ∙ ap (λ z. Err z) (pair_same k' k (u ∷ us) (t ∷ rest) (sym (ap final e) ∙ h))))
    where
      cons_head : (u t : Token) (us rest : List Token) → u ∷ us ≡ t ∷ rest → u ≡ t
      cons_head u t us rest h = cc

      cons_tail : (u t : Token) (us rest : List Token) → u ∷ us ≡ t ∷ rest → us ≡ rest
      cons_tail u t us rest h = cc

      pair_same : (k k' : Cause) (r r' : List Token) → ◌≡◌ {A = Result A (Cause × List Token)} (Err (k, r)) (Err (k', r')) → ◌≡◌ {A = Cause × List Token} (k, r) (k', r')
      pair_same k k' r r' h = cc

  -- a refusal leaves no longer beginning
  pub no_begin : (k : Cause) (pre more : List Token) (t : Token) → IsRefused lang limit k pre t → BeginsWithin lang limit (pre ++ t ∷ more) → ⊥
  no_begin Unexpected pre more t r b = r.1 (within_begins (pre ++ t ∷ []) (begins_front (pre ++ t ∷ []) more (subst (λ z. BeginsWithin lang limit z) (sym (one_more pre more t)) b)))
  no_begin TooDeep pre more t r b = r.2 (begins_front (pre ++ t ∷ []) more (subst (λ z. BeginsWithin lang limit z) (sym (one_more pre more t)) b))

  front : (k : Cause) (pre : List Token) (t : Token) → IsRefused lang limit k pre t → BeginsWithin lang limit pre
  front Unexpected pre t r = r.0
  front TooDeep pre t r = r.0

  same_kind : (k k' : Cause) (pre : List Token) (t : Token) → IsRefused lang limit k pre t → IsRefused lang limit k' pre t → k ≡ k'
  same_kind Unexpected Unexpected pre t r q = refl
  same_kind TooDeep TooDeep pre t r q = refl
  same_kind Unexpected TooDeep pre t r q = absurd (r.1 q.1)
  same_kind TooDeep Unexpected pre t r q = absurd (q.1 r.1)

  -- there is one place of refusal
  pub one_refusal : (k k' : Cause) (pre pre' rest rest' : List Token) (t t' : Token) → IsRefused lang limit k pre t → IsRefused lang limit k' pre' t' → pre ++ t ∷ rest ≡ pre' ++ t' ∷ rest' → (k ≡ k') × (t ∷ rest ≡ t' ∷ rest')
  one_refusal k k' pre pre' rest rest' t t' r q h = ⊎_elim (λ i. later k k' pre pre' rest rest' t t' r q i.0 i.1 i.2) (λ i. let z = later k' k pre' pre rest' rest t' t q r i.0 i.1 i.2 in (sym z.0, sym z.1)) (compare pre (t ∷ rest) pre' (t' ∷ rest') h)
    where
      later : (k k' : Cause) (pre pre' rest rest' : List Token) (t t' : Token) → IsRefused lang limit k pre t → IsRefused lang limit k' pre' t' → (m : List Token) → pre' ≡ pre ++ m → t ∷ rest ≡ m ++ t' ∷ rest' → (k ≡ k') × (t ∷ rest ≡ t' ∷ rest')
      later k k' pre pre' rest rest' t t' r q [] p i =
          let same : pre' ≡ pre = p ∙ append-nil pre in
          let u : t ≡ t' = cc in
          (same_kind k k' pre t r (subst (λ z. IsRefused lang limit k' pre z) (sym u) (subst (λ z. IsRefused lang limit k' z t') same q)), i)
      later k k' pre pre' rest rest' t t' r q (x ∷ m) p i =
          let u : t ≡ x = cc in
          absurd (no_begin k pre m t r (subst (λ z. BeginsWithin lang limit z) (p ∙ ap (λ z. pre ++ z ∷ m) (sym u)) (front k' pre' t' q)))

  pub refused_to : (ts pre rest : List Token) (t : Token) (k : Cause) → ts ≡ pre ++ t ∷ rest → IsRefused lang limit k pre t → final (read ts) ≡ Err (k, t ∷ rest)
  refused_to ts pre rest t k s r = answer_cases _ ts
      (λ a e. absurd (no_begin k pre rest t r (subst (λ z. BeginsWithin lang limit z) s (derives_begins ts a (parsed_from ts a e)))))
      (λ a u us e. let q = refused_over ts us u a e in let z = one_refusal Unexpected k q.0 pre us rest u t q.2 r (sym q.1 ∙ s) in ap final e ∙ ap₂ (λ x y. Err (x, y)) z.0 z.1)
      (λ k' e. let q = R.stop ts [] k' e in
      let b = begun_within k' q.pre [] (q.begins 2 (omega arith)) in
      absurd (no_begin k pre rest t r (subst (λ z. BeginsWithin lang limit z) (sym (q.splits ∙ append-nil q.pre) ∙ s) b)))
      (λ k' u us e. let q = refused_err ts us u k' e in let z = one_refusal k' k q.0 pre us rest u t q.2 r (sym q.1 ∙ s) in ap final e ∙ ap₂ (λ x y. Err (x, y)) z.0 z.1)

  pub parsed_one : (ts : List Token) (a b : A) → Derives lang limit ts a → Derives lang limit ts b → a ≡ b
  parsed_one ts a b h i = let c = sym (parsed_to ts a h) ∙ parsed_to ts b i in ap (λ p. p.0) (ok_same (a, []) (b, []) c)

  -- where the tokens end too early
  pub short : (ts : List Token) (k : Cause) → final (read ts) ≡ Err (k, []) → BeginsWithin lang limit ts
  short ts k h = answer_cases _ ts
      (λ a e. let c : ◌≡◌ {A = Result A (Cause × List Token)} (Ok a) (Err (k, [])) = sym (ap final e) ∙ h in cc)
      (λ a u us e. let c = same_err Unexpected k (u ∷ us) [] (sym (ap final e) ∙ h) in absurd (omega (arith, ap length c.1)))
      (λ k' e. let q = R.stop ts [] k' e in
      let b = begun_within k' q.pre [] (q.begins 2 (omega arith)) in
      subst (λ z. BeginsWithin lang limit z) (sym (q.splits ∙ append-nil q.pre)) b)
      (λ k' u us e. let c = same_err k' k (u ∷ us) [] (sym (ap final e) ∙ h) in absurd (omega (arith, ap length c.1)))

  pub final_ok : (ts : List Token) (a : A) → final (read ts) ≡ Ok a → Derives lang limit ts a
  final_ok ts a h = answer_cases _ ts
      (λ b e. let c : ◌≡◌ {A = Result A (Cause × List Token)} (Ok b) (Ok a) = sym (ap final e) ∙ h in let d : b ≡ a = cc in subst (λ z. Derives lang limit ts z) d (parsed_from ts b e))
      (λ b u us e. let c : ◌≡◌ {A = Result A (Cause × List Token)} (Err (Unexpected, u ∷ us)) (Ok a) = sym (ap final e) ∙ h in cc)
      (λ k e. let c : ◌≡◌ {A = Result A (Cause × List Token)} (Err (k, [])) (Ok a) = sym (ap final e) ∙ h in cc)
      (λ k u us e. let c : ◌≡◌ {A = Result A (Cause × List Token)} (Err (k, u ∷ us)) (Ok a) = sym (ap final e) ∙ h in cc)

  pub refused_none : (k : Cause) (pre rest : List Token) (t : Token) (a : A) → IsRefused lang limit k pre t → Derives lang limit (pre ++ t ∷ rest) a → ⊥
  refused_none k pre rest t a r h = no_begin k pre rest t r (derives_begins (pre ++ t ∷ rest) a h)

  -- how many tokens are left is how many are before
  pub counted : (ts rest : List Token) (k : Cause) → final (read ts) ≡ Err (k, rest) → length rest ≤ length ts
  counted ts [] k h = omega arith
  counted ts (t ∷ rest) k h = let q = refused_from ts rest t k h in omega (arith, ap length q.1, length-append q.0 (t ∷ rest))
