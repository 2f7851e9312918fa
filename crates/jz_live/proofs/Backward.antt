-- What is live in straight code, from the back.
use Rattle.std.proofs.Common.{◌≡◌, ℕ, suc, ◌+◌, ◌-◌, ◌<◌, ◌≤◌, ◌⊎◌, inl, inr, ◌↔◌, List, [], ◌∷◌, Bool, true, false, IsTrue, IsFalse, length, get_or, drop, refl, sym, ap, ◌∙◌, subst, arith, ◌/◌, ◌++◌, reverse, drop-cons, length-append, add-zero}
use Rattle.std.proofs.lemmas.List.{drop_all, get_or_append_left, get_or-append-add, get_or-reverse}
use Rattle.std.proofs.lemmas.Bool.{cases_lt}
use Rattle.std.proofs.lemmas.List.Elements.{All-weaker}
use Rattle.jz_bits.specs.Has.{has}
use Rattle.jz_ir.specs.Places.{Below}
use Rattle.jz_live.specs.InnerLives.{transfer}
use Rattle.jz_ir.specs.declared.code.Op.{Op}
use Rattle.jz_ir.specs.Paths.{among, IsLive, read_here, read_later}
use Rattle.jz_ir.specs.Straight.{Next, next, LiveIn}

pub before_cases : (r w a : Bool) → IsTrue (transfer r w a) → IsTrue r ⊎ (IsFalse w × IsTrue a)
before_cases true w a h = inl refl
before_cases false true a h = cc
before_cases false false a h = inr (refl, h)

pub before_read : (r w a : Bool) → IsTrue r → IsTrue (transfer r w a)
before_read r w a h = rw h refl

pub before_later : (r w a : Bool) → IsFalse w → IsTrue a → IsTrue (transfer r w a)
before_later true w a h k = refl
before_later false w a h k = rw (h, k) refl

abbrev pub lives : List Op → ℕ → Bool
lives [] v = false
lives (o ∷ os) v = transfer (among o.reads v) (among o.writes v) (lives os v)

-- by a path, where it is computed
pub sound : (ops : List Op) (v : ℕ) → IsTrue (lives ops v) → IsLive Next v ops
sound [] v h = cc
sound (o ∷ os) v h = elim (before_cases (among o.reads v) (among o.writes v) (lives os v) h) [
  | inl r ↦ read_here next r
  | inr p ↦ read_later next p.0 (sound os v p.1)
]

-- computed, where it is by a path
pub complete : (ops : List Op) (v : ℕ) → IsLive Next v ops → IsTrue (lives ops v)
complete [] v (read_here s r) = elim s [ ]
complete [] v (read_later s w r) = elim s [ ]
complete (o ∷ os) v (read_here next r) = before_read (among o.reads v) (among o.writes v) (lives os v) r
complete (o ∷ os) v (read_later next w r) = before_later (among o.reads v) (among o.writes v) (lives os v) w (complete os v r)

pub record Backwards (ops : List Op) (vars : ℕ) (rows : List (List ℕ)) (live : List ℕ) (i : ℕ) : Type 0 where
  pub wide : length live ≡ vars / 64 + 1
  pub now : (w : ℕ) → has live w ≡ lives (drop i ops) w
  pub count : length rows + i ≡ length ops
  pub rows_wide : (k : ℕ) → k < length rows → length (get_or rows k []) ≡ vars / 64 + 1
  pub rows_are : (k : ℕ) → k < length rows → (w : ℕ) → has (get_or rows k []) w ≡ lives (drop (length ops - k) ops) w

last_at : (xs : List (List ℕ)) (x d : List ℕ) → get_or (xs ++ x ∷ []) (length xs) d ≡ x
last_at xs x d = subst (λ k. get_or (xs ++ x ∷ []) k d ≡ x) (add-zero (length xs)) (get_or-append-add xs (x ∷ []) 0 d)

-- one operation further to the front
pub one_back : (ops : List Op) (vars : ℕ) (rows : List (List ℕ)) (live new : List ℕ) (i j : ℕ) (o : Op) → Backwards ops vars rows live i → i ≡ suc j → i ≤ length ops → o ≡ get_or ops j o → length new ≡ length live → ((w : ℕ) → has new w ≡ transfer (among o.reads w) (among o.writes w) (has live w)) → Backwards ops vars (rows ++ live ∷ []) new j
one_back ops vars rows live new i j o h e le is wide set = record {
  wide = wide ∙ h.wide;
  now = λ w. rw (drop-cons ops j o (omega arith), ← is) (set w ∙ ap (transfer (among o.reads w) (among o.writes w)) (h.now w ∙ ap (λ x. lives (drop x ops) w) e));
  count = rw length-append (omega (arith, h.count));
  rows_wide = λ k l. elim (cases_lt k (length rows)) [
    | inl lt ↦ rw (get_or_append_left rows (live ∷ []) [] k lt) (h.rows_wide k lt)
    | inr ge ↦ (let q : k ≡ length rows = omega (arith, l, length-append rows (live ∷ [])) in rw (q, last_at rows live []) h.wide)
  ];
  rows_are = λ k l w. elim (cases_lt k (length rows)) [
    | inl lt ↦ rw (get_or_append_left rows (live ∷ []) [] k lt) (h.rows_are k lt w)
    | inr ge ↦ (let q : k ≡ length rows = omega (arith, l, length-append rows (live ∷ [])) in let r : length ops - length rows ≡ i = omega (arith, h.count) in rw (q, last_at rows live [], r) (h.now w))
  ];
}

pub below_wide : (n m : ℕ) (o : Op) → n ≤ m → Below n o → Below m o
below_wide n m o le b = record {
  reads = All-weaker (λ v. v < n) (λ v. v < m) (λ x h. omega arith) o.reads b.reads;
  writes = All-weaker (λ v. v < n) (λ v. v < m) (λ x h. omega arith) o.writes b.writes;
  needs = All-weaker (λ k. k.variable < n) (λ k. k.variable < m) (λ x h. omega arith) o.needs b.needs;
}

-- the rows in the order of the code
module _ (ops : List Op) (vars : ℕ) (rows : List (List ℕ)) (live : List ℕ) (h : Backwards ops vars rows live 0) (i : ℕ) (lt : i < length ops) where
  same_row : get_or (reverse rows) i [] ≡ get_or rows (length rows - 1 - i) []
  same_row = let k : i < length rows = omega (arith, h.count) in get_or-reverse rows i [] k

  row_is : (v : ℕ) → has (get_or (reverse rows) i []) v ≡ lives (drop (i + 1) ops) v
  row_is v = let k : length rows - 1 - i < length rows = omega (arith, h.count) in let q : length ops - (length rows - 1 - i) ≡ i + 1 = omega (arith, h.count) in rw (same_row, h.rows_are (length rows - 1 - i) k v, q) refl

  pub exact_rows : (v : ℕ) → IsTrue (has (get_or (reverse rows) i []) v) ↔ LiveIn ops i v
  exact_rows v = (λ t. sound (drop (i + 1) ops) v (sym (row_is v) ∙ t), λ p. row_is v ∙ complete (drop (i + 1) ops) v p)
