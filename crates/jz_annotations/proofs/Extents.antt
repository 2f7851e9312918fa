-- How many bytes a region has, read and written.
use Rattle.std.proofs.Common.{◌≡◌, ℕ, ◌^◌, true, false, List, [], ◌∷◌, ◌++◌, Some, None, refl, sym, ap, ◌∙◌, subst, append-nil}
use Rattle.std.specs.Prelude.{codes}
use Rattle.std.specs.List.{list_all}
use Rattle.jz_lex.specs.LexingWords.{heads, in_word, is_digit, is_word}
use Rattle.jz_lex.proofs.LexingWords.{by_cases, if_true, if_false, apart, word_head}
use Rattle.jz_annotations.specs.declared.precondition.Pre.{Pre}
use Rattle.jz_annotations.specs.declared.precondition.Pre.TheVariants.{Region}
use Rattle.jz_annotations.specs.Shapes.{is_space, IsMadeOf, Numbers, Writes, sum, product, variable, constant}
use Rattle.jz_annotations.specs.InnerReaders.{Answer, ◌>>=◌, rest_of, is_end, name, number, sign, Extent, alone, extent, extent_rest, named}
use Rattle.jz_annotations.specs.InnerReaders as reader
use Rattle.jz_annotations.proofs.Words.{some_same, bind_parts, name_only, name_back, name_end, number_only, number_back, number_end, sign_only, sign_back, about, AreSpaces, gap_ends, word_bytes, numeral_bytes, numeral_begins, run_of}
use Rattle.jz_annotations.proofs.Reading.{made_more, made_split, word_first, number_first, times, plus, named_only, named_back}

-- ---- what is left behind a word
is_nothing : (bs : List ℕ) → is_end bs ≡ true → bs ≡ []
is_nothing [] h = refl
is_nothing (b ∷ bs) h = absurd (let no : ⊥ = cc in no)

goes_on : (g more : List ℕ) (b : ℕ) → is_end (g ++ (b ∷ more)) ≡ false
goes_on [] more b = refl
goes_on (c ∷ g) more b = refl

one_word : (w : List ℕ) → list_all in_word w ≡ true → is_end (rest_of in_word w) ≡ true
one_word w h = ap is_end (ap (rest_of in_word) (sym (append-nil w)) ∙ (run_of in_word w [] h refl).1)

no_digit : (v : List ℕ) → is_word v ≡ true → heads is_digit v ≡ false
no_digit [] h = absurd (let no : ⊥ = cc in no)
no_digit (b ∷ bs) h = by_cases (is_digit b ≡ false) (is_digit b) (λ d. apart b (is_digit b ≡ false) (word_head b bs h).0 d) (λ d. d)

-- ---- read
abbrev region_by : List ℕ → Extent → Pre
region_by p x = Region p x.0 x.1.0 x.1.1

abbrev rest_by : ℕ → List ℕ → List ℕ → Answer Extent
rest_by m v r = sign (codes "+") r >>= λ x. number (2 ^ 32) x.1 >>= λ y. Some ((m, (Some v, y.0)), y.1)

abbrev by_factor : List ℕ → Answer Extent
by_factor r = number (2 ^ 32) r >>= λ x. sign (codes "*") x.1 >>= λ y. name y.1 >>= λ z. extent_rest x.0 z.0 z.1

abbrev by_number : List ℕ → Answer Extent
by_number r = number (2 ^ 32) r >>= λ x. Some ((0, (None, x.0)), x.1)

abbrev by_name : List ℕ → Answer Extent
by_name r = name r >>= λ x. Some ((1, (Some x.0, 0)), x.1)

module _ (s p g h r : List ℕ) (a : AreSpaces g) (b : AreSpaces h) (w : is_word p ≡ true) (is : s ≡ p ++ about g (codes ":") h r) where
  abbrev Said : Extent → Type 0
  Said x = Writes (codes "region") s (region_by p x)

  number_said : (y : Extent × List ℕ) → by_number r ≡ Some y → y.1 ≡ [] → Said y.0
  number_said y e n =
      let q = bind_parts (number (2 ^ 32) r) (λ x. Some ((0, (None, x.0)), x.1)) y e in
      let same = some_same ((0, (None, q.0.0)), q.0.1) y q.2 in
      let c = number_only (2 ^ 32) r q.0 q.1 in
      let last : r ≡ c.0 = c.2 ∙ ap (λ z. c.0 ++ z) (ap (λ z. z.1) same ∙ n) ∙ append-nil c.0 in
      subst (λ z. Said z.0) same (constant (made_more p (codes ":") c.0 [] g h r s a b is last) w c.1)

  name_said : (y : Extent × List ℕ) → by_name r ≡ Some y → y.1 ≡ [] → Said y.0
  name_said y e n =
      let q = bind_parts (name r) (λ x. Some ((1, (Some x.0, 0)), x.1)) y e in
      let same = some_same ((1, (Some q.0.0, 0)), q.0.1) y q.2 in
      let c = name_only r q.0 q.1 in
      let last : r ≡ q.0.0 = c.1 ∙ ap (λ z. q.0.0 ++ z) (ap (λ z. z.1) same ∙ n) ∙ append-nil q.0.0 in
      subst (λ z. Said z.0) same (variable (made_more p (codes ":") q.0.0 [] g h r s a b is last) w c.0)

  alone_said : (y : Extent × List ℕ) → alone r ≡ Some y → y.1 ≡ [] → Said y.0
  unfolding alone
  alone_said y e n = by_cases (Said y.0) (heads is_digit r)
      (λ t. number_said y (sym (if_true (heads is_digit r) (by_number r) (by_name r) t) ∙ e) n)
      (λ t. name_said y (sym (if_false (heads is_digit r) (by_number r) (by_name r) t) ∙ e) n)

  -- a factor k, and a variable v behind its sign
  module _ (k v : List ℕ) (m : ℕ) (g1 h1 q r1 : List ℕ) (a1 : AreSpaces g1) (b1 : AreSpaces h1) (n : Numbers (2 ^ 32) k m) (u : is_word v ≡ true) (at : r ≡ k ++ about g1 (codes "*") h1 q) (on : q ≡ v ++ r1) where
    product_said : r1 ≡ [] → Said (m, (Some v, 0))
    product_said e =
        let last : q ≡ v = on ∙ ap (λ z. v ++ z) e ∙ append-nil v in
        product (made_more p (codes ":") k (codes "*" ∷ v ∷ []) g h r s a b is (made_more k (codes "*") v [] g1 h1 q r a1 b1 at last)) w n u

    sum_said : (y : Extent × List ℕ) → rest_by m v r1 ≡ Some y → y.1 ≡ [] → Said y.0
    sum_said y e t =
        let x1 = bind_parts (sign (codes "+") r1) (λ x. number (2 ^ 32) x.1 >>= λ y. Some ((m, (Some v, y.0)), y.1)) y e in
        let x2 = bind_parts (number (2 ^ 32) x1.0.1) (λ y. Some ((m, (Some v, y.0)), y.1)) y x1.2 in
        let same = some_same ((m, (Some v, x2.0.0)), x2.0.1) y x2.2 in
        let z = sign_only (codes "+") r1 x1.0 x1.1 in
        let c = number_only (2 ^ 32) x1.0.1 x2.0 x2.1 in
        let last : x1.0.1 ≡ c.0 = c.2 ∙ ap (λ z. c.0 ++ z) (ap (λ z. z.1) same ∙ t) ∙ append-nil c.0 in
        let inner = made_more v (codes "+") c.0 [] z.0 z.1 x1.0.1 q z.2 z.3 (on ∙ ap (λ l. v ++ l) z.4) last in
        let next = made_more k (codes "*") v (codes "+" ∷ c.0 ∷ []) g1 h1 q r a1 b1 at inner in
        let whole = made_more p (codes ":") k (codes "*" ∷ v ∷ codes "+" ∷ c.0 ∷ []) g h r s a b is next in
        subst (λ z. Said z.0) same (sum whole w n u c.1)

    rest_said : (y : Extent × List ℕ) → extent_rest m v r1 ≡ Some y → y.1 ≡ [] → Said y.0
    unfolding extent_rest
    rest_said y e t = by_cases (Said y.0) (is_end r1)
        (λ d. subst (λ z. Said z.0) (some_same ((m, (Some v, 0)), r1) y (sym (if_true (is_end r1) (Some ((m, (Some v, 0)), r1)) (rest_by m v r1) d) ∙ e)) (product_said (is_nothing r1 d)))
        (λ d. sum_said y (sym (if_false (is_end r1) (Some ((m, (Some v, 0)), r1)) (rest_by m v r1) d) ∙ e) t)

  factor_said : (y : Extent × List ℕ) → by_factor r ≡ Some y → y.1 ≡ [] → Said y.0
  factor_said y e t =
      let x1 = bind_parts (number (2 ^ 32) r) (λ x. sign (codes "*") x.1 >>= λ y. name y.1 >>= λ z. extent_rest x.0 z.0 z.1) y e in
      let x2 = bind_parts (sign (codes "*") x1.0.1) (λ y. name y.1 >>= λ z. extent_rest x1.0.0 z.0 z.1) y x1.2 in
      let x3 = bind_parts (name x2.0.1) (λ z. extent_rest x1.0.0 z.0 z.1) y x2.2 in
      let k = number_only (2 ^ 32) r x1.0 x1.1 in
      let z = sign_only (codes "*") x1.0.1 x2.0 x2.1 in
      let v = name_only x2.0.1 x3.0 x3.1 in
      rest_said k.0 x3.0.0 x1.0.0 z.0 z.1 x2.0.1 x3.0.1 z.2 z.3 k.1 v.0 (k.2 ∙ ap (λ l. k.0 ++ l) z.4) v.1 y x3.2 t

  extent_said : (y : Extent × List ℕ) → extent r ≡ Some y → y.1 ≡ [] → Said y.0
  unfolding extent
  extent_said y e t = by_cases (Said y.0) (is_end (rest_of in_word r))
      (λ d. alone_said y (sym (if_true (is_end (rest_of in_word r)) (alone r) (by_factor r) d) ∙ e) t)
      (λ d. factor_said y (sym (if_false (is_end (rest_of in_word r)) (alone r) (by_factor r) d) ∙ e) t)

pub region_only : (bs : List ℕ) (p : Pre) → reader.region bs ≡ Some (p, []) → Writes (codes "region") bs p
unfolding reader.region
region_only bs p e =
    let w1 = bind_parts (named bs) (λ x. extent x.1 >>= λ y. Some (Region x.0 y.0.0 y.0.1.0 y.0.1.1, y.1)) (p, []) e in
    let w2 = bind_parts (extent w1.0.1) (λ y. Some (Region w1.0.0 y.0.0 y.0.1.0 y.0.1.1, y.1)) (p, []) w1.2 in
    let same = some_same (Region w1.0.0 w2.0.0.0 w2.0.0.1.0 w2.0.0.1.1, w2.0.1) (p, []) w2.2 in
    let n = named_only bs w1.0 w1.1 in
    subst (λ q. Writes (codes "region") bs q) (ap (λ q. q.0) same)
    (extent_said bs w1.0.0 n.0 n.1 w1.0.1 n.2 n.3 n.4 n.5 w2.0 w2.1 (ap (λ q. q.1) same))

-- ---- written
constant_back : (c : List ℕ) (n : ℕ) → Numbers (2 ^ 32) c n → extent c ≡ Some ((0, (None, n)), [])
unfolding extent alone
constant_back c n k =
    if_true (is_end (rest_of in_word c)) (alone c) (by_factor c) (one_word c (numeral_bytes c k.numeral))
    ∙ if_true (heads is_digit c) (by_number c) (by_name c) (numeral_begins c k.numeral)
    ∙ ap (λ o. o >>= λ x. Some ((0, (None, x.0)), x.1)) (number_end (2 ^ 32) c n k)

variable_back : (v : List ℕ) → is_word v ≡ true → extent v ≡ Some ((1, (Some v, 0)), [])
unfolding extent alone
variable_back v h =
    if_true (is_end (rest_of in_word v)) (alone v) (by_factor v) (one_word v (word_bytes v h))
    ∙ if_false (heads is_digit v) (by_number v) (by_name v) (no_digit v h)
    ∙ ap (λ o. o >>= λ x. Some ((1, (Some x.0, 0)), x.1)) (name_end v h)

-- a factor and its sign, before a variable
factor_back : (k : List ℕ) (m : ℕ) (g h q : List ℕ) → Numbers (2 ^ 32) k m → AreSpaces g → AreSpaces h → (v : List ℕ) (ws : List (List ℕ)) → is_word v ≡ true → IsMadeOf (v ∷ ws) q
    → extent (k ++ about g (codes "*") h q) ≡ (name q >>= λ z. extent_rest m z.0 z.1)
unfolding extent
factor_back k m g h q n a b v ws u made =
    let r = k ++ about g (codes "*") h q in
    let ends = gap_ends g (codes "*" ++ (h ++ q)) a (times (h ++ q)).0 in
    let not_one : is_end (rest_of in_word r) ≡ false = ap is_end (run_of in_word k (about g (codes "*") h q) (numeral_bytes k n.numeral) ends).1 ∙ goes_on g (h ++ q) 42 in
    if_false (is_end (rest_of in_word r)) (alone r) (by_factor r) not_one
    ∙ ap (λ o. o >>= λ x. sign (codes "*") x.1 >>= λ y. name y.1 >>= λ z. extent_rest x.0 z.0 z.1) (number_back (2 ^ 32) k (about g (codes "*") h q) m n ends)
    ∙ ap (λ o. o >>= λ y. name y.1 >>= λ z. extent_rest m z.0 z.1) (sign_back g (codes "*") h q a b (times (h ++ q)).1 (word_first v ws q u made))

product_back : (r k v : List ℕ) (m : ℕ) → IsMadeOf (k ∷ codes "*" ∷ v ∷ []) r → Numbers (2 ^ 32) k m → is_word v ≡ true → extent r ≡ Some ((m, (Some v, 0)), [])
unfolding extent_rest
product_back r k v m made n u =
    let p = made_split k (codes "*") v [] r made in
    ap extent p.is ∙ factor_back k m p.before p.after p.rest n p.spaces_before p.spaces_after v [] u p.goes_on
    ∙ ap (λ q. name q >>= λ z. extent_rest m z.0 z.1) p.goes_on
    ∙ ap (λ o. o >>= λ z. extent_rest m z.0 z.1) (name_end v u)

sum_back : (r k v c : List ℕ) (m n : ℕ) → IsMadeOf (k ∷ codes "*" ∷ v ∷ codes "+" ∷ c ∷ []) r → Numbers (2 ^ 32) k m → is_word v ≡ true → Numbers (2 ^ 32) c n → extent r ≡ Some ((m, (Some v, n)), [])
unfolding extent_rest
sum_back r k v c m n made f u l =
    let p = made_split k (codes "*") v (codes "+" ∷ c ∷ []) r made in
    let q = made_split v (codes "+") c [] p.rest p.goes_on in
    let tail = about q.before (codes "+") q.after q.rest in
    let ends = gap_ends q.before (codes "+" ++ (q.after ++ q.rest)) q.spaces_before (plus (q.after ++ q.rest)).0 in
    ap extent p.is ∙ factor_back k m p.before p.after p.rest f p.spaces_before p.spaces_after v (codes "+" ∷ c ∷ []) u p.goes_on
    ∙ ap (λ z. name z >>= λ z. extent_rest m z.0 z.1) q.is
    ∙ ap (λ o. o >>= λ z. extent_rest m z.0 z.1) (name_back v tail u ends)
    ∙ if_false (is_end tail) (Some ((m, (Some v, 0)), tail)) (rest_by m v tail) (goes_on q.before (q.after ++ q.rest) 43)
    ∙ ap (λ o. o >>= λ x. number (2 ^ 32) x.1 >>= λ y. Some ((m, (Some v, y.0)), y.1))
    (sign_back q.before (codes "+") q.after q.rest q.spaces_before q.spaces_after (plus (q.after ++ q.rest)).1 (number_first (2 ^ 32) n c [] q.rest l q.goes_on))
    ∙ ap (λ z. number (2 ^ 32) z >>= λ y. Some ((m, (Some v, y.0)), y.1)) q.goes_on
    ∙ ap (λ o. o >>= λ y. Some ((m, (Some v, y.0)), y.1)) (number_end (2 ^ 32) c n l)

region_back : (s p g h r : List ℕ) (x : Extent) → is_word p ≡ true → AreSpaces g → AreSpaces h → heads is_space r ≡ false → s ≡ p ++ about g (codes ":") h r → extent r ≡ Some (x, []) → reader.region s ≡ Some (region_by p x, [])
unfolding reader.region
region_back s p g h r x w a b f is e =
    ap reader.region is
    ∙ ap (λ o. o >>= λ x. extent x.1 >>= λ y. Some (Region x.0 y.0.0 y.0.1.0 y.0.1.1, y.1)) (named_back p g h r w a b f)
    ∙ ap (λ o. o >>= λ y. Some (Region p y.0.0 y.0.1.0 y.0.1.1, y.1)) e

-- a region's string, by how many bytes it has
pub sum_is : (s p k v c : List ℕ) (m n : ℕ) → IsMadeOf (p ∷ codes ":" ∷ k ∷ codes "*" ∷ v ∷ codes "+" ∷ c ∷ []) s → is_word p ≡ true → Numbers (2 ^ 32) k m → is_word v ≡ true → Numbers (2 ^ 32) c n
    → reader.region s ≡ Some (Region p m (Some v) n, [])
sum_is s p k v c m n made w f u l =
    let q = made_split p (codes ":") k (codes "*" ∷ v ∷ codes "+" ∷ c ∷ []) s made in
    region_back s p q.before q.after q.rest (m, (Some v, n)) w q.spaces_before q.spaces_after (number_first (2 ^ 32) m k (codes "*" ∷ v ∷ codes "+" ∷ c ∷ []) q.rest f q.goes_on) q.is (sum_back q.rest k v c m n q.goes_on f u l)

pub product_is : (s p k v : List ℕ) (m : ℕ) → IsMadeOf (p ∷ codes ":" ∷ k ∷ codes "*" ∷ v ∷ []) s → is_word p ≡ true → Numbers (2 ^ 32) k m → is_word v ≡ true
    → reader.region s ≡ Some (Region p m (Some v) 0, [])
product_is s p k v m made w f u =
    let q = made_split p (codes ":") k (codes "*" ∷ v ∷ []) s made in
    region_back s p q.before q.after q.rest (m, (Some v, 0)) w q.spaces_before q.spaces_after (number_first (2 ^ 32) m k (codes "*" ∷ v ∷ []) q.rest f q.goes_on) q.is (product_back q.rest k v m q.goes_on f u)

pub variable_is : (s p v : List ℕ) → IsMadeOf (p ∷ codes ":" ∷ v ∷ []) s → is_word p ≡ true → is_word v ≡ true → reader.region s ≡ Some (Region p 1 (Some v) 0, [])
variable_is s p v made w u =
    let q = made_split p (codes ":") v [] s made in
    region_back s p q.before q.after q.rest (1, (Some v, 0)) w q.spaces_before q.spaces_after (word_first v [] q.rest u q.goes_on) q.is (ap extent q.goes_on ∙ variable_back v u)

pub constant_is : (s p c : List ℕ) (n : ℕ) → IsMadeOf (p ∷ codes ":" ∷ c ∷ []) s → is_word p ≡ true → Numbers (2 ^ 32) c n → reader.region s ≡ Some (Region p 0 None n, [])
constant_is s p c n made w l =
    let q = made_split p (codes ":") c [] s made in
    region_back s p q.before q.after q.rest (0, (None, n)) w q.spaces_before q.spaces_after (number_first (2 ^ 32) n c [] q.rest l q.goes_on) q.is (ap extent q.goes_on ∙ constant_back c n l)
