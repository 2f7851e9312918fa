-- Readers, and what they read back.
use Rattle.std.proofs.Common.{◌≡◌, ◌⊎◌, inl, inr, ⊎_elim, if◌then◌else◌, ℕ, zero, suc, ◌<◌, List, [], ◌∷◌, ◌++◌, length, Bool, true, false, Result, Ok, Err, Option, Some, None, refl, sym, ap, ◌∙◌, subst, arith, append_assoc, length-append}
use Rattle.std.specs.List.{list_all}
use Rattle.std.specs.Option.{option_to_list}
use Rattle.std.proofs.lemmas.Bool.{and_parts, and_from, cond-true, cond-false}
use Rattle.x64_insn.specs.Encoding.{is_byte, StandsIf, AreBytes}
use Rattle.x64_decode.specs.declared.reading.Stop.{Stop}
use Rattle.x64_decode.specs.declared.reading.Stop.TheVariants.{Short, Bad}
use Rattle.x64_decode.specs.ByteReading.{Reader, ◌>>=◌, byte_where, byte_if, prefix, some_bytes, follow, through}

-- What reads back what is spelled, and nothing else; and tells a beginning of what is spelled from what isn't one.
pub record ReadsBack {A : Type 0} (read : Reader A) (spell : A → List ℕ) (Valid : A → Type 0) : Type 0 where
  pub some : (a : A) × Valid a
  pub again : (a : A) (rest : List ℕ) → Valid a → read (spell a ++ rest) ≡ Ok (a, rest)
  pub found : (bs rest : List ℕ) (a : A) → read bs ≡ Ok (a, rest) → (bs ≡ spell a ++ rest) × Valid a
  pub short : (bs : List ℕ) → read bs ≡ Err Short → (more : List ℕ) × (a : A) × Valid a × (0 < length more) × (bs ++ more ≡ spell a)
  pub bad : (bs more : List ℕ) → read bs ≡ Err Bad → read (bs ++ more) ≡ Err Bad

-- none, or a byte that passes a test
abbrev pub PrefixPasses : (ℕ → Bool) → Option ℕ → Type 0
PrefixPasses test None = Unit {0}
PrefixPasses test (Some b) = test b ≡ true

bind_ok : {A B : Type 0} (r : Result A Stop) (f : A → Result B Stop) (y : B) → (r >>= f) ≡ Ok y → (x : A) × (r ≡ Ok x) × (f x ≡ Ok y)
bind_ok (Ok x) f y h = (x, refl, h)
bind_ok (Err e) f y h = cc

bind_err : {A B : Type 0} (r : Result A Stop) (f : A → Result B Stop) (e : Stop) → (r >>= f) ≡ Err e → (r ≡ Err e) ⊎ ((x : A) × (r ≡ Ok x) × (f x ≡ Err e))
bind_err (Ok x) f e h = inr (x, refl, h)
bind_err (Err d) f e h = inl cc

-- what is read stays read, whatever follows
pub ok_more : {A : Type 0} {read : Reader A} {spell : A → List ℕ} {Valid : A → Type 0} → ReadsBack read spell Valid → (bs rest more : List ℕ) (a : A) → read bs ≡ Ok (a, rest) → read (bs ++ more) ≡ Ok (a, rest ++ more)
ok_more {read = read} {spell = spell} l bs rest more a h =
    let f = l.found bs rest a h in
    ap (λ xs. read (xs ++ more)) f.0 ∙ ap read (append_assoc (spell a) rest more) ∙ l.again a (rest ++ more) f.1

abbrev pub spell_byte : ℕ → List ℕ
spell_byte b = b ∷ []

abbrev pub Passes : (ℕ → Bool) → ℕ → Type 0
Passes test b = test b ≡ true

pub ok_same : {A : Type 0} (p q : A) → ◌≡◌ {A = Result A Stop} (Ok p) (Ok q) → p ≡ q
ok_same p q h = cc

err_same : {A B : Type 0} (d e : Stop) → ◌≡◌ {A = Result A Stop} (Err d) (Err e) → ◌≡◌ {A = Result B Stop} (Err d) (Err e)
err_same d e h = let s : d ≡ e = cc in ap (λ x. Err x) s

apart : {A : Type 0} (p : A) (e : Stop) (P : Type 0) → ◌≡◌ {A = Result A Stop} (Ok p) (Err e) → P
apart p e P h = cc

pub apart' : {A : Type 0} (p : A) (e : Stop) (P : Type 0) → ◌≡◌ {A = Result A Stop} (Err e) (Ok p) → P
apart' p e P h = cc

bad_short : {A : Type 0} (P : Type 0) → ◌≡◌ {A = Result A Stop} (Err Bad) (Err Short) → P
bad_short P h = cc

short_bad : {A : Type 0} (P : Type 0) → ◌≡◌ {A = Result A Stop} (Err Short) (Err Bad) → P
short_bad P h = cc

-- ---- one byte
choice : {A : Type 0} (b : Bool) (x y z : A) → (if b then x else y) ≡ z → ((b ≡ true) × (x ≡ z)) ⊎ ((b ≡ false) × (y ≡ z))
choice true x y z h = inl (refl, h)
choice false x y z h = inr (refl, h)

pub byte_where_reads : (test : ℕ → Bool) (example : ℕ) → test example ≡ true → ReadsBack (byte_where test) spell_byte (Passes test)
unfolding byte_where
byte_where_reads test example passes = record { some = (example, passes); again = again; found = found; short = short; bad = bad }
  where
    again : (a : ℕ) (rest : List ℕ) → Passes test a → byte_where test (spell_byte a ++ rest) ≡ Ok (a, rest)
    again a rest ok = cond-true (test a) _ _ ok

    found : (bs rest : List ℕ) (a : ℕ) → byte_where test bs ≡ Ok (a, rest) → (bs ≡ spell_byte a ++ rest) × Passes test a
    found [] rest a h = apart' (a, rest) Short _ h
    found (b ∷ bs) rest a h = ⊎_elim
        (λ c. let e = ok_same (b, bs) (a, rest) c.1 in let x = ap (λ p. p.0) e in let xs = ap (λ p. p.1) e in
        ((ap (λ n. n ∷ bs) x ∙ ap (λ l. a ∷ l) xs), sym (ap test x) ∙ c.0))
        (λ c. apart' (a, rest) Bad _ c.1)
        (choice (test b) (Ok (b, bs)) (Err Bad) (Ok (a, rest)) h)

    short : (bs : List ℕ) → byte_where test bs ≡ Err Short → (more : List ℕ) × (a : ℕ) × Passes test a × (0 < length more) × (bs ++ more ≡ spell_byte a)
    short [] h = (example ∷ [], example, passes, omega arith, refl)
    short (b ∷ bs) h = ⊎_elim (λ c. apart (b, bs) Short _ c.1) (λ c. bad_short {A = ℕ × List ℕ} _ c.1) (choice (test b) (Ok (b, bs)) (Err Bad) (Err Short) h)

    bad : (bs more : List ℕ) → byte_where test bs ≡ Err Bad → byte_where test (bs ++ more) ≡ Err Bad
    bad [] more h = short_bad {A = ℕ × List ℕ} _ h
    bad (b ∷ bs) more h = ⊎_elim (λ c. apart (b, bs) Bad _ c.1) (λ c. cond-false (test b) _ _ c.0) (choice (test b) (Ok (b, bs)) (Err Bad) (Err Bad) h)

-- ---- one after the other
abbrev pub spell_both : {A B : Type 0} → (A → List ℕ) → (A → B → List ℕ) → A × B → List ℕ
spell_both sf sg p = sf p.0 ++ sg p.0 p.1

abbrev pub BothValid : {A B : Type 0} → (A → Type 0) → (A → B → Type 0) → A × B → Type 0
BothValid vf vg p = vf p.0 × vg p.0 p.1

longer : {A : Type 0} (xs ys : List A) → 0 < length xs → 0 < length (xs ++ ys)
longer xs ys h = omega (arith, length-append xs ys)

pub follow_reads : {A B : Type 0} (f : Reader A) (g : A → Reader B) (sf : A → List ℕ) (sg : A → B → List ℕ) (vf : A → Type 0) (vg : A → B → Type 0) → ReadsBack f sf vf → ((a : A) → vf a → ReadsBack (g a) (sg a) (vg a)) → ReadsBack (follow f g) (spell_both sf sg) (BothValid vf vg)
unfolding follow
follow_reads {A} {B} f g sf sg vf vg l m = record { some = some; again = again; found = found; short = short; bad = bad }
  where
    some : (p : A × B) × BothValid vf vg p
    some = let a = l.some in let b = (m a.0 a.1).some in ((a.0, b.0), (a.1, b.1))

    again : (p : A × B) (rest : List ℕ) → BothValid vf vg p → follow f g (spell_both sf sg p ++ rest) ≡ Ok (p, rest)
    again p rest ok =
        ap (λ xs. follow f g xs) (append_assoc (sf p.0) (sg p.0 p.1) rest)
        ∙ ap (λ r. r >>= λ x. g x.0 x.1 >>= λ y. Ok ((x.0, y.0), y.1)) (l.again p.0 (sg p.0 p.1 ++ rest) ok.0)
        ∙ ap (λ r. r >>= λ y. Ok ((p.0, y.0), y.1)) ((m p.0 ok.0).again p.1 rest ok.1)

    found : (bs rest : List ℕ) (p : A × B) → follow f g bs ≡ Ok (p, rest) → (bs ≡ spell_both sf sg p ++ rest) × BothValid vf vg p
    found bs rest p h =
        let x = bind_ok (f bs) _ (p, rest) h in
        let y = bind_ok (g x.0.0 x.0.1) _ (p, rest) x.2 in
        let fx = l.found bs x.0.1 x.0.0 x.1 in
        let gy = (m x.0.0 fx.1).found x.0.1 y.0.1 y.0.0 y.1 in
        let same : ◌≡◌ {A = (A × B) × List ℕ} ((x.0.0, y.0.0), y.0.1) (p, rest) = ok_same _ _ y.2 in
        let here : (bs ≡ spell_both sf sg (x.0.0, y.0.0) ++ y.0.1) × BothValid vf vg (x.0.0, y.0.0) =
        (fx.0 ∙ ap (λ xs. sf x.0.0 ++ xs) gy.0 ∙ sym (append_assoc (sf x.0.0) (sg x.0.0 y.0.0) y.0.1), (fx.1, gy.1)) in
        subst (λ (q : (A × B) × List ℕ). (bs ≡ spell_both sf sg q.0 ++ q.1) × BothValid vf vg q.0) same here

    short : (bs : List ℕ) → follow f g bs ≡ Err Short → (more : List ℕ) × (p : A × B) × BothValid vf vg p × (0 < length more) × (bs ++ more ≡ spell_both sf sg p)
    short bs h = ⊎_elim
        (λ e. let s = l.short bs e in let b = (m s.1 s.2).some in
        (s.0 ++ sg s.1 b.0, (s.1, b.0), (s.2, b.1), longer s.0 _ s.3, sym (append_assoc bs s.0 _) ∙ ap (λ xs. xs ++ sg s.1 b.0) s.4))
        (λ x. ⊎_elim
        (λ e. let fx = l.found bs x.0.1 x.0.0 x.1 in
        let s = (m x.0.0 fx.1).short x.0.1 e in
        (s.0, (x.0.0, s.1), (fx.1, s.2), s.3, ap (λ xs. xs ++ s.0) fx.0 ∙ append_assoc (sf x.0.0) x.0.1 s.0 ∙ ap (λ xs. sf x.0.0 ++ xs) s.4))
        (λ y. apart _ Short _ y.2)
        (bind_err (g x.0.0 x.0.1) _ Short x.2))
        (bind_err (f bs) _ Short h)

    bad : (bs more : List ℕ) → follow f g bs ≡ Err Bad → follow f g (bs ++ more) ≡ Err Bad
    bad bs more h = ⊎_elim
        (λ e. ap (λ r. r >>= λ x. g x.0 x.1 >>= λ y. Ok ((x.0, y.0), y.1)) (l.bad bs more e))
        (λ x. ⊎_elim
        (λ e. let fx = l.found bs x.0.1 x.0.0 x.1 in
        ap (λ r. r >>= λ x. g x.0 x.1 >>= λ y. Ok ((x.0, y.0), y.1)) (ok_more l bs x.0.1 more x.0.0 x.1)
        ∙ ap (λ r. r >>= λ y. Ok ((x.0.0, y.0), y.1)) ((m x.0.0 fx.1).bad x.0.1 more e))
        (λ y. apart _ Bad _ y.2)
        (bind_err (g x.0.0 x.0.1) _ Bad x.2))
        (bind_err (f bs) _ Bad h)

-- ---- seen by a function
through_ok : {A B : Type 0} (to : A → B) (r : Result (A × List ℕ) Stop) (y : B × List ℕ) → through to r ≡ Ok y → (x : A × List ℕ) × (r ≡ Ok x) × (◌≡◌ {A = Result (B × List ℕ) Stop} (Ok (to x.0, x.1)) (Ok y))
through_ok to (Ok x) y h = (x, refl, h)
through_ok to (Err e) y h = apart' y e _ h

through_err : {A B : Type 0} (to : A → B) (r : Result (A × List ℕ) Stop) (e : Stop) → through to r ≡ Err e → (r ≡ Err e) ⊎ ((x : A × List ℕ) × (r ≡ Ok x) × (◌≡◌ {A = Result (B × List ℕ) Stop} (Ok (to x.0, x.1)) (Err e)))
through_err to (Ok x) e h = inr (x, refl, h)
through_err {A} to (Err d) e h = inl (err_same d e h)

pub map_reads : {A B : Type 0} (f : Reader A) (sf : A → List ℕ) (vf : A → Type 0) (to : A → B) (sg : B → List ℕ) (vg : B → Type 0) → ReadsBack f sf vf → ((a : A) → sg (to a) ≡ sf a) → ((a : A) → vf a → vg (to a)) → ((b : B) → vg b → (a : A) × vf a × (to a ≡ b)) → ReadsBack (λ bs. through to (f bs)) sg vg
map_reads {A} {B} f sf vf to sg vg l spells valid back = record { some = (to l.some.0, valid l.some.0 l.some.1); again = again; found = found; short = short; bad = bad }
  where
    again : (b : B) (rest : List ℕ) → vg b → through to (f (sg b ++ rest)) ≡ Ok (b, rest)
    again b rest ok =
        let a = back b ok in
        ap (λ c. through to (f (sg c ++ rest))) (sym a.2)
        ∙ ap (λ s. through to (f (s ++ rest))) (spells a.0)
        ∙ ap (through to) (l.again a.0 rest a.1)
        ∙ ap (λ c. Ok (c, rest)) a.2

    found : (bs rest : List ℕ) (b : B) → through to (f bs) ≡ Ok (b, rest) → (bs ≡ sg b ++ rest) × vg b
    found bs rest b h =
        let x = through_ok to (f bs) (b, rest) h in
        let fx = l.found bs x.0.1 x.0.0 x.1 in
        let same : ◌≡◌ {A = B × List ℕ} (to x.0.0, x.0.1) (b, rest) = ok_same _ _ x.2 in
        let here : (bs ≡ sg (to x.0.0) ++ x.0.1) × vg (to x.0.0) = (fx.0 ∙ ap (λ s. s ++ x.0.1) (sym (spells x.0.0)), valid x.0.0 fx.1) in
        subst (λ (q : B × List ℕ). (bs ≡ sg q.0 ++ q.1) × vg q.0) same here

    short : (bs : List ℕ) → through to (f bs) ≡ Err Short → (more : List ℕ) × (b : B) × vg b × (0 < length more) × (bs ++ more ≡ sg b)
    short bs h = ⊎_elim
        (λ e. let s = l.short bs e in (s.0, to s.1, valid s.1 s.2, s.3, s.4 ∙ sym (spells s.1)))
        (λ x. apart _ Short _ x.2)
        (through_err to (f bs) Short h)

    bad : (bs more : List ℕ) → through to (f bs) ≡ Err Bad → through to (f (bs ++ more)) ≡ Err Bad
    bad bs more h = ⊎_elim
        (λ e. ap (through to) (l.bad bs more e))
        (λ x. apart _ Bad _ x.2)
        (through_err to (f bs) Bad h)

-- ---- nothing
pub nothing_reads : {A : Type 0} (a : A) → ReadsBack (λ bs. Ok (a, bs)) (λ _. []) (λ b. a ≡ b)
nothing_reads {A} a = record { some = (a, refl); again = λ b rest e. ap (λ c. Ok (c, rest)) e; found = found; short = λ bs h. apart (a, bs) Short _ h; bad = λ bs more h. apart (a, bs) Bad _ h }
  where
    found : (bs rest : List ℕ) (b : A) → ◌≡◌ {A = Result (A × List ℕ) Stop} (Ok (a, bs)) (Ok (b, rest)) → (bs ≡ rest) × (a ≡ b)
    found bs rest b h = let e = ok_same (a, bs) (b, rest) h in (ap (λ p. p.1) e, ap (λ p. p.0) e)

-- ---- so many bytes
uncons : (n : ℕ) (bs : List ℕ) → AreBytes (suc n) bs → (p : ℕ × List ℕ) × BothValid (Passes is_byte) (λ _. AreBytes n) p × (p.0 ∷ p.1 ≡ bs)
uncons n [] h = absurd (omega (arith, h.0))
uncons n (b ∷ bs) h = let both = and_parts (is_byte b) (list_all is_byte bs) h.1 in ((b, bs), (both.0, (omega (arith, h.0), both.1)), refl)

pub some_bytes_reads : (n : ℕ) → ReadsBack (some_bytes n) (λ bs. bs) (AreBytes n)
unfolding some_bytes
some_bytes_reads zero = record { some = ([], (refl, refl)); again = again; found = found; short = λ bs h. apart ([], bs) Short _ h; bad = λ bs more h. apart ([], bs) Bad _ h }
  where
    again : (a rest : List ℕ) → AreBytes 0 a → ◌≡◌ {A = Result (List ℕ × List ℕ) Stop} (Ok ([], a ++ rest)) (Ok (a, rest))
    again [] rest h = refl
    again (b ∷ bs) rest h = absurd (omega (arith, h.0))

    found : (bs rest a : List ℕ) → ◌≡◌ {A = Result (List ℕ × List ℕ) Stop} (Ok ([], bs)) (Ok (a, rest)) → (bs ≡ a ++ rest) × AreBytes 0 a
    found bs rest a h =
        let e = ok_same ([], bs) (a, rest) h in
        let x = ap (λ p. p.0) e in let xs = ap (λ p. p.1) e in
        (xs ∙ ap (λ l. l ++ rest) x, subst (λ l. AreBytes 0 l) x (refl, refl))
some_bytes_reads (suc n) =
    map_reads (follow (byte_where is_byte) (λ _. some_bytes n)) (spell_both spell_byte (λ _ bs. bs)) (BothValid (Passes is_byte) (λ _. AreBytes n)) (λ p. p.0 ∷ p.1) (λ bs. bs) (AreBytes (suc n))
    (follow_reads (byte_where is_byte) (λ _. some_bytes n) spell_byte (λ _ bs. bs) (Passes is_byte) (λ _. AreBytes n) (byte_where_reads is_byte 0 refl) (λ _ _. some_bytes_reads n))
    (λ p. refl)
    (λ p h. (omega (arith, h.1.0), and_from (is_byte p.0) (list_all is_byte p.1) h.0 h.1.1))
    (uncons n)

-- ---- a byte or none
some_back : (test : ℕ → Bool) (o : Option ℕ) → StandsIf true test o → (b : ℕ) × (test b ≡ true) × (◌≡◌ {A = Option ℕ} (Some b) o)
some_back test None h = absurd h
some_back test (Some b) h = (b, h, refl)

none_again : (test : ℕ → Bool) (o : Option ℕ) (rest : List ℕ) → StandsIf false test o → byte_if false test (option_to_list o ++ rest) ≡ Ok (o, rest)
unfolding byte_if
none_again test None rest h = refl
none_again test (Some b) rest h = absurd h

pub byte_if_reads : (needed : Bool) (test : ℕ → Bool) (example : ℕ) → (needed ≡ true → test example ≡ true) → ReadsBack (byte_if needed test) option_to_list (StandsIf needed test)
unfolding byte_if
byte_if_reads false test example passes = record { some = (None, tt); again = none_again test; found = found; short = λ bs h. apart (None, bs) Short _ h; bad = λ bs more h. apart (None, bs) Bad _ h }
  where
    found : (bs rest : List ℕ) (a : Option ℕ) → byte_if false test bs ≡ Ok (a, rest) → (bs ≡ option_to_list a ++ rest) × StandsIf false test a
    found bs rest a h =
        let e = ok_same (None, bs) (a, rest) h in
        let here : (bs ≡ option_to_list None ++ bs) × StandsIf false test None = (refl, tt) in
        subst (λ (p : Option ℕ × List ℕ). (bs ≡ option_to_list p.0 ++ p.1) × StandsIf false test p.0) e here
byte_if_reads true test example passes =
    map_reads (byte_where test) spell_byte (Passes test) (λ b. Some b) option_to_list (StandsIf true test) (byte_where_reads test example (passes refl)) (λ b. refl) (λ b h. h) (some_back test)

-- ---- a byte that the next byte tells of
-- what is spelled begins with a byte that fails the test
pub record Begins {B : Type 0} (test : ℕ → Bool) (spell : B → List ℕ) (Valid : B → Type 0) : Type 0 where
  pub by : (y : B) → Valid y → (c : ℕ) × (rest : List ℕ) × (spell y ≡ c ∷ rest) × (test c ≡ false)

true_false : (b : Bool) (P : Type 0) → b ≡ true → b ≡ false → P
true_false b P h k = cc

pub ahead_reads : {B : Type 0} (test : ℕ → Bool) (g : Option ℕ → Reader B) (sg : Option ℕ → B → List ℕ) (vg : Option ℕ → B → Type 0) → ReadsBack (g None) (sg None) (vg None) → ((b : ℕ) → test b ≡ true → ReadsBack (g (Some b)) (sg (Some b)) (vg (Some b))) → Begins test (sg None) (vg None) → ReadsBack (follow (prefix test) g) (spell_both option_to_list sg) (BothValid (PrefixPasses test) vg)
unfolding follow prefix
ahead_reads {B} test g sg vg none some begins = record { some = ((None, none.some.0), (tt, none.some.1)); again = again; found = found; short = short; bad = bad }
  where
    pack : Option ℕ → Result (B × List ℕ) Stop → Result ((Option ℕ × B) × List ℕ) Stop
    pack o r = through (λ y. (o, y)) r

    packed : (o : Option ℕ) (r : Result (B × List ℕ) Stop) → (r >>= λ y. Ok ((o, y.0), y.1)) ≡ pack o r
    packed o (Ok y) = refl
    packed o (Err e) = refl

    -- by the first byte
    with_it : (b : ℕ) (bs : List ℕ) → test b ≡ true → follow (prefix test) g (b ∷ bs) ≡ pack (Some b) (g (Some b) bs)
    with_it b bs h = rw h (packed (Some b) (g (Some b) bs))

    without : (b : ℕ) (bs : List ℕ) → test b ≡ false → follow (prefix test) g (b ∷ bs) ≡ pack None (g None (b ∷ bs))
    without b bs h = rw h (packed None (g None (b ∷ bs)))

    again : (p : Option ℕ × B) (rest : List ℕ) → BothValid (PrefixPasses test) vg p → follow (prefix test) g (spell_both option_to_list sg p ++ rest) ≡ Ok (p, rest)
    again (None, y) rest ok =
        let s = begins.by y ok.1 in
        ap (λ xs. follow (prefix test) g (xs ++ rest)) s.2 ∙ without s.0 (s.1 ++ rest) s.3 ∙ ap (λ xs. pack None (g None (xs ++ rest))) (sym s.2) ∙ ap (pack None) (none.again y rest ok.1)
    again (Some b, y) rest ok = with_it b (sg (Some b) y ++ rest) ok.0 ∙ ap (pack (Some b)) ((some b ok.0).again y rest ok.1)

    found : (bs rest : List ℕ) (p : Option ℕ × B) → follow (prefix test) g bs ≡ Ok (p, rest) → (bs ≡ spell_both option_to_list sg p ++ rest) × BothValid (PrefixPasses test) vg p
    found [] rest p h = apart' (p, rest) Short _ h
    found (b ∷ bs) rest p h = elim (test b) as (λ v. test b ≡ v → (b ∷ bs ≡ spell_both option_to_list sg p ++ rest) × BothValid (PrefixPasses test) vg p) [
      | true ↦ λ e.
          let x = through_ok (λ y. (Some b, y)) (g (Some b) bs) (p, rest) (sym (with_it b bs e) ∙ h) in
          let fx = (some b e).found bs x.0.1 x.0.0 x.1 in
          let here : (b ∷ bs ≡ spell_both option_to_list sg (Some b, x.0.0) ++ x.0.1) × BothValid (PrefixPasses test) vg (Some b, x.0.0) = (ap (λ xs. b ∷ xs) fx.0, (e, fx.1)) in
          subst (λ (q : (Option ℕ × B) × List ℕ). (b ∷ bs ≡ spell_both option_to_list sg q.0 ++ q.1) × BothValid (PrefixPasses test) vg q.0) (ok_same _ _ x.2) here
      | false ↦ λ e.
          let x = through_ok (λ y. (None, y)) (g None (b ∷ bs)) (p, rest) (sym (without b bs e) ∙ h) in
          let fx = none.found (b ∷ bs) x.0.1 x.0.0 x.1 in
          let here : (b ∷ bs ≡ spell_both option_to_list sg (None, x.0.0) ++ x.0.1) × BothValid (PrefixPasses test) vg (None, x.0.0) = (fx.0, (tt, fx.1)) in
          subst (λ (q : (Option ℕ × B) × List ℕ). (b ∷ bs ≡ spell_both option_to_list sg q.0 ++ q.1) × BothValid (PrefixPasses test) vg q.0) (ok_same _ _ x.2) here
    ] refl

    short : (bs : List ℕ) → follow (prefix test) g bs ≡ Err Short → (more : List ℕ) × (p : Option ℕ × B) × BothValid (PrefixPasses test) vg p × (0 < length more) × (bs ++ more ≡ spell_both option_to_list sg p)
    short [] h =
        let y = none.some in let s = begins.by y.0 y.1 in
        (sg None y.0, (None, y.0), (tt, y.1), omega (arith, ap length s.2), refl)
    short (b ∷ bs) h = elim (test b) as (λ v. test b ≡ v → (more : List ℕ) × (p : Option ℕ × B) × BothValid (PrefixPasses test) vg p × (0 < length more) × (b ∷ bs ++ more ≡ spell_both option_to_list sg p)) [
      | true ↦ λ e. ⊎_elim
          (λ k. let s = (some b e).short bs k in (s.0, (Some b, s.1), (e, s.2), s.3, ap (λ xs. b ∷ xs) s.4))
          (λ x. apart _ Short _ x.2)
          (through_err (λ y. (Some b, y)) (g (Some b) bs) Short (sym (with_it b bs e) ∙ h))
      | false ↦ λ e. ⊎_elim
          (λ k. let s = none.short (b ∷ bs) k in (s.0, (None, s.1), (tt, s.2), s.3, s.4))
          (λ x. apart _ Short _ x.2)
          (through_err (λ y. (None, y)) (g None (b ∷ bs)) Short (sym (without b bs e) ∙ h))
    ] refl

    bad : (bs more : List ℕ) → follow (prefix test) g bs ≡ Err Bad → follow (prefix test) g (bs ++ more) ≡ Err Bad
    bad [] more h = short_bad {A = (Option ℕ × B) × List ℕ} _ h
    bad (b ∷ bs) more h = elim (test b) as (λ v. test b ≡ v → follow (prefix test) g (b ∷ (bs ++ more)) ≡ Err Bad) [
      | true ↦ λ e. ⊎_elim
          (λ k. with_it b (bs ++ more) e ∙ ap (pack (Some b)) ((some b e).bad bs more k))
          (λ x. apart _ Bad _ x.2)
          (through_err (λ y. (Some b, y)) (g (Some b) bs) Bad (sym (with_it b bs e) ∙ h))
      | false ↦ λ e. ⊎_elim
          (λ k. without b (bs ++ more) e ∙ ap (pack None) (none.bad (b ∷ bs) more k))
          (λ x. apart _ Bad _ x.2)
          (through_err (λ y. (None, y)) (g None (b ∷ bs)) Bad (sym (without b bs e) ∙ h))
    ] refl
