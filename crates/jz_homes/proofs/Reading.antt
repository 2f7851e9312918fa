-- Operands of a statement and of an operation: what the source evaluates to is what the operation reads, and the numbers are those that it shows.
use Rattle.std.proofs.Common.{◌≡◌, ℕ, zero, suc, ◌+◌, ◌*◌, ◌%◌, ◌^◌, ◌<◌, Bool, true, false, List, [], ◌∷◌, ◌++◌, Option, Some, None, refl, sym, ap, ◌∙◌, subst, arith, ℤ, pos, negsuc, ◌+ℤ◌, ◌-ℤ◌}
use Rattle.std.specs.Prelude.{nat_lt, nat_le, ◌||◌, if◌then◌else◌}
use Rattle.std.specs.Option.{option_or, option_to_list, option_and_then}
use Rattle.std.specs.FinMap.{get}
use Rattle.std.proofs.lemmas.Bool.{eq-eqb, ltb-true, le-leb}
use Rattle.std.proofs.lemmas.Int.{ints}
use Rattle.std.proofs.Math.Nat.{mod-eq_of_lt}
use Rattle.jz_io.specs.declared.span.Span.{Span}
use Rattle.jz_words.specs.declared.size.Size.{Size}
use Rattle.jz_words.specs.declared.size.Size.TheVariants.{S8, S16, S32, S64}
use Rattle.jz_words.specs.Sizes.{bits_of, bytes_of, half, modulus, signed}
use Rattle.jz_words.specs.Words.{residue}
use Rattle.jz_words.specs.Readings.{reading_of}
use Rattle.jz_words.specs.Memory.{Memory, loaded}
use Rattle.jz_words.proofs.Residues.{residue_below}
use Rattle.jz_tree.specs.declared.expr.Expr.{Expr}
use Rattle.jz_tree.specs.declared.expr.Access.{Access}
use Rattle.jz_tree.specs.declared.expr.Var.{Var}
use Rattle.jz_runs.specs.Rules.{went}
use Rattle.jz_meaning.specs.declared.access.Kind.TheVariants as kind
use Rattle.jz_meaning.specs.declared.value.Why.TheVariants.{Bounds, Align}
use Rattle.jz_meaning.specs.Attempts.{Evaluation, stuck_at, and_then, defined}
use Rattle.jz_meaning.specs.States.{Value, word, integer, State}
use Rattle.jz_meaning.specs.Operators.{word_of, word_at, same_size}
use Rattle.jz_meaning.specs.Values.{Ref, key_of, cell_key, ref_of, access_of, variable_value, in_cells, index_at, cell_value, MemoryAccess, is_aligned, accessed, load_word, load_at, evaluated}
use Rattle.jz_operations.specs.declared.operation.Address.{Address}
use Rattle.jz_operations.specs.declared.operation.Arg.{Arg}
use Rattle.jz_operations.specs.declared.operation.Arg.TheVariants as arg
use Rattle.jz_operations.specs.Values as over
use Rattle.jz_operations.specs.Rows.{Frame, if_some, narrowed, address_in, cell_in, has_cell, cell_word, value_of}
use Rattle.jz_operations.proofs.Somes.{some_then, same_some}
use Rattle.jz_homes.proofs.Shown.{shown, shown_cell, read_shown}
use Rattle.jz_homes.specs.Homes.{Homes, IsHoming, in_register, in_cell, IsRelated}
use Rattle.jz_homes.specs.Sums.{Sum, IsSum, total_in, IsAddress, of_base, of_both, of_swapped, IsIndex, constant, variable}
use Rattle.jz_homes.specs.Operands.{AreCells, Leaks, silent, told, shown_of, cell_leaks, IsCounted, IsArg, a_word, a_number, a_scalar, a_cell, a_load}
use Rattle.jz_homes.specs.Laws.{IsRead}
use Rattle.jz_homes.proofs.Parts.{access_size, both_went, went_same, defined_went, evaluated_num, evaluated_var, evaluated_cell, evaluated_load}
use Rattle.jz_homes.proofs.SumValues.{residue_add, StandsFor, stands_word, stands_number, sum_is}

-- ---- words of a size
pub same_itself : (z : Size) → same_size z z ≡ true
same_itself z = eq-eqb (bits_of z) (bits_of z) refl

pub word_itself : (z : Size) (a : ℕ) → word_of z (word z a) ≡ Some a
word_itself z a = rw (same_itself z) refl

pub small_mod : (z : Size) (a : ℕ) → a < modulus z → a % modulus z ≡ a
small_mod z a h = mod-eq_of_lt h

pub narrowed_itself : (z : Size) (a : ℕ) → a < modulus z → narrowed z (Some (over.word z a)) ≡ Some a
narrowed_itself z a h = let e : nat_le (bits_of z) (bits_of z) ≡ true = le-leb (bits_of z) (bits_of z) (omega arith) in rw e (ap (λ x. Some x) (small_mod z a h))

below_residue : (a h : ℕ) (z : ℤ) → pos a -ℤ pos h ≡ z → a < h → Rattle.jz_words.specs.Words.modulo z h ≡ a
below_residue a h (pos n) e l = absurd (omega (arith, ints, e, l))
below_residue a h (negsuc n) e l = let k : a + n + 1 ≡ h = omega (arith, ints, e) in let m : n % h ≡ n = mod-eq_of_lt (omega (arith, k)) in omega (arith, k, m)

signed_case : (b : Bool) (a m : ℕ) → a < m → Rattle.jz_words.specs.Words.modulo (if b then pos a else pos a -ℤ pos m) m ≡ a
signed_case true a m l = mod-eq_of_lt l
signed_case false a m l = below_residue a m (pos a -ℤ pos m) refl l

-- the signed reading of a word stands for it
pub signed_itself : (z : Size) (a : ℕ) → a < modulus z → residue z (signed z a) ≡ a
unfolding signed
signed_itself z a l = signed_case (nat_lt a (half z)) a (modulus z) l

-- ---- bytes make words
byte_and_more : (b high n : ℕ) → b < 256 → high < 256 ^ n → b + 256 * high < 256 ^ suc n
byte_and_more b high n h k = let e : 256 ^ suc n ≡ 256 * 256 ^ n = grind arith in omega (arith, e, h, k)

loaded_by : (m : Memory) (a n v : ℕ) (o : Option ℕ) (p : Option ℕ) → ((q b : ℕ) → get m q ≡ Some b → b < 256) → get m a ≡ o → ((w : ℕ) → p ≡ Some w → w < 256 ^ n)
    → option_and_then (λ b. option_and_then (λ high. Some (b + 256 * high)) p) o ≡ Some v → v < 256 ^ suc n
loaded_by m a n v None p bytes e high h = absurd cc
loaded_by m a n v (Some b) None bytes e high h = absurd cc
loaded_by m a n v (Some b) (Some w) bytes e high h = subst (λ x. x < 256 ^ suc n) (same_some (b + 256 * w) v h) (byte_and_more b w n (bytes a b e) (high w refl))

loaded_below : (m : Memory) (a n v : ℕ) → ((q b : ℕ) → get m q ≡ Some b → b < 256) → loaded m a n ≡ Some v → v < 256 ^ n
unfolding loaded
loaded_below m a zero v bytes e = let k : 0 ≡ v = same_some 0 v e in omega (arith, k)
loaded_below m a (suc n) v bytes e = loaded_by m a n v (get m a) (loaded m ((a + 1) % 2 ^ 64) n) bytes refl (λ w h. loaded_below m ((a + 1) % 2 ^ 64) n w bytes h) e

pub loaded_small : (m : Memory) (a : ℕ) (z : Size) (v : ℕ) → ((q b : ℕ) → get m q ≡ Some b → b < 256) → loaded m a (bytes_of z) ≡ Some v → v < modulus z
loaded_small m a S8 v bytes e = let k = loaded_below m a 1 v bytes e in k
loaded_small m a S16 v bytes e = let k = loaded_below m a 2 v bytes e in k
loaded_small m a S32 v bytes e = let k = loaded_below m a 4 v bytes e in k
loaded_small m a S64 v bytes e = let k = loaded_below m a 8 v bytes e in k

-- ---- addresses and indexes
number_read_back : (i : ℤ) → residue S64 (reading_of S64 i) ≡ residue S64 i
number_read_back i = signed_itself S64 (residue S64 i) (residue_below S64 i)

same_number : (x y : ℕ) (i : ℤ) → x ≡ y → residue S64 (pos x +ℤ reading_of S64 i) ≡ residue S64 (pos y +ℤ i)
same_number x y i e = residue_add (pos x) (reading_of S64 i) ∙ ap (λ n. (residue S64 (pos x) + n) % 2 ^ 64) (number_read_back i) ∙ sym (residue_add (pos x) i) ∙ ap (λ n. residue S64 (pos n +ℤ i)) e

both_found : (σ : over.State) (b j k x y : ℕ) (d : ℤ) → narrowed S64 (σ.vars b) ≡ Some x → narrowed S64 (σ.vars j) ≡ Some y → address_in (record { base = Some b; index = Some (j, k); disp = d }) σ ≡ Some (residue S64 (pos (x + k * y) +ℤ d))
both_found σ b j k x y d e f = rw (e, f) refl

base_found : (σ : over.State) (b x : ℕ) (d : ℤ) → narrowed S64 (σ.vars b) ≡ Some x → address_in (record { base = Some b; index = None; disp = d }) σ ≡ Some (residue S64 (pos (x + 0) +ℤ d))
base_found σ b x d e = rw e refl

pub three_middle : (a b c : List ℕ) (x : ℕ) → a ≡ [] → b ≡ x ∷ [] → c ≡ [] → a ++ (b ++ c) ≡ x ∷ []
three_middle a b c x e f g = rw (e, f, g) refl

pub three_last : (a b c : List ℕ) (x : ℕ) → a ≡ [] → b ≡ [] → c ≡ x ∷ [] → a ++ (b ++ c) ≡ x ∷ []
three_last a b c x e f g = rw (e, f, g) refl

pub address_found : (σ : over.State) {t : Sum} {m : Address} → IsAddress t m → (total : ℕ) → total_in t.terms σ ≡ Some total → address_in m σ ≡ Some (residue S64 (pos total +ℤ t.number))
address_found σ (of_base b i) total e =
    let r = some_then (narrowed S64 (σ.vars b)) _ total e in
    let k : 1 * r.0 + 0 ≡ total = same_some _ total r.2 in
    base_found σ b r.0 (reading_of S64 i) r.1 ∙ ap (λ x. Some x) (same_number (r.0 + 0) total i (omega (arith, k)))
address_found σ (of_both b j k i) total e =
    let r = some_then (narrowed S64 (σ.vars b)) _ total e in
    let q = some_then (total_in ((j, k) ∷ []) σ) _ total r.2 in
    let p = some_then (narrowed S64 (σ.vars j)) _ q.0 q.1 in
    let u : k * p.0 + 0 ≡ q.0 = same_some _ q.0 p.2 in
    let w : 1 * r.0 + q.0 ≡ total = same_some _ total q.2 in
    both_found σ b j k r.0 p.0 (reading_of S64 i) r.1 p.1 ∙ ap (λ x. Some x) (same_number (r.0 + k * p.0) total i (omega (arith, u, w)))
address_found σ (of_swapped b j k i ne) total e =
    let p = some_then (narrowed S64 (σ.vars j)) _ total e in
    let q = some_then (total_in ((b, 1) ∷ []) σ) _ total p.2 in
    let r = some_then (narrowed S64 (σ.vars b)) _ q.0 q.1 in
    let u : 1 * r.0 + 0 ≡ q.0 = same_some _ q.0 r.2 in
    let w : k * p.0 + q.0 ≡ total = same_some _ total q.2 in
    both_found σ b j k r.0 p.0 (reading_of S64 i) r.1 p.1 ∙ ap (λ x. Some x) (same_number (r.0 + k * p.0) total i (omega (arith, u, w)))

pub index_found : (σ : over.State) (w : ℕ) {t : Sum} {b : Option ℕ} {i : ℤ} → IsIndex t b i → (total : ℕ) → total_in t.terms σ ≡ Some total → cell_in (record { of = w; index = b; offset = i }) σ ≡ Some (residue S64 (pos total +ℤ t.number))
index_found σ w (constant i) total e = ap (λ x. Some x) (same_number 0 total i (same_some 0 total e))
index_found σ w (variable b i) total e =
    let r = some_then (narrowed S64 (σ.vars b)) _ total e in
    let k : 1 * r.0 + 0 ≡ total = same_some _ total r.2 in
    rw r.1 (ap (λ x. Some x) (same_number r.0 total i (omega (arith, k))))

-- a value that stands for a word of 64 bits
pub word_64 : (v : Value) (n : ℕ) → StandsFor v n → word_of S64 v ≡ Some n
word_64 v n (stands_word a) = refl
word_64 v n (stands_number i) = refl

-- ---- accesses of the source
lt_by : (b : Bool) (at : Span) (i : ℕ) (ns : List ℕ) (j : ℕ) → (if b then went (i ∷ []) i else stuck_at at Bounds) ≡ went ns j → (b ≡ true) × (ns ≡ i ∷ []) × (i ≡ j)
lt_by true at i ns j e = let k = went_same (i ∷ []) ns i j e in (refl, sym k.0, k.1)
lt_by false at i ns j e = absurd cc

-- the index of a cell
pub record Indexed (n : ℕ) (i : ℕ) (ns : List ℕ) (j : ℕ) : Type 0 where
  pub within : i < n
  pub numbers : ns ≡ i ∷ []
  pub same : i ≡ j

pub indexed : (x : Ref) (z : Size) (n : ℕ) (v : Value) (i : ℕ) (ns : List ℕ) (j : ℕ) → x.kind ≡ kind.Array z n → StandsFor v i → index_at x v ≡ went ns j → Indexed n i ns j
indexed x z n v i ns j is h e =
    let k = both_went (word_at x.span S64 v) (in_cells x.span x.kind) ns j e in
    let d = defined_went x.span (word_of S64 v) k.first k.value k.came in
    let same : i ≡ k.value = same_some i k.value (sym (word_64 v i h) ∙ d.0) in
    let w : in_cells x.span (kind.Array z n) k.value ≡ went k.second j = subst (λ y. in_cells x.span y k.value ≡ went k.second j) is k.went_on in
    let b = lt_by (nat_lt k.value n) x.span k.value k.second j w in
    record {
      within = subst (λ y. y < n) (sym same) (ltb-true k.value n b.0);
      numbers = k.numbers ∙ ap (λ y. y ++ k.second) d.1 ∙ b.1 ∙ ap (λ y. y ∷ []) (sym same);
      same = same ∙ b.2;
    }

aligned_by : {A : Type 0} (b : Bool) (at : Span) (x : ℕ) (y : A) (ns : List ℕ) (u : A) → (if b then went (x ∷ []) y else stuck_at at Align) ≡ went ns u → (ns ≡ x ∷ []) × (y ≡ u)
aligned_by true at x y ns u e = let k = went_same (x ∷ []) ns y u e in (sym k.0, k.1)
aligned_by false at x y ns u e = absurd cc

pub accessed_by : {A : Type 0} (at : Span) (un : Bool) (z : Size) (x : ℕ) (o : Option A) (ns : List ℕ) (u : A) → accessed at un z x o ≡ went ns u → (o ≡ Some u) × (ns ≡ x ∷ [])
accessed_by at un z x None ns u e = absurd cc
accessed_by at un z x (Some y) ns u e = let k = aligned_by (un || is_aligned z x) at x y ns u e in (ap (λ w. Some w) k.1, k.0)

loaded_word : (p : MemoryAccess) (z : Size) (x : ℕ) (m : Memory) (ns : List ℕ) (v : Value) → load_word p.span p.unaligned (Some z) x m ≡ went ns v → (b : ℕ) × (loaded m x (bytes_of z) ≡ Some b) × (v ≡ word z b) × (ns ≡ x ∷ [])
loaded_word p z x m ns v e =
    let k = both_went (accessed p.span p.unaligned z x (loaded m x (bytes_of z))) (λ b. went [] (word z b)) ns v e in
    let a = accessed_by p.span p.unaligned z x (loaded m x (bytes_of z)) k.first k.value k.came in
    let w = went_same [] k.second (word z k.value) v k.went_on in
    (k.value, a.0, sym w.1, k.numbers ∙ rw (a.1, sym w.0) refl)

-- an operand that is no immediate has a word
abbrev pub IsWordValue : Value → Type 0
IsWordValue (word z n) = Unit {0}
IsWordValue _ = ⊥

abbrev pub FormOf : Arg → Value → Type 0
FormOf (arg.Imm i) v = Unit {0}
FormOf _ v = IsWordValue v

module _ (frame : Frame) (home : Homes) (homing : IsHoming frame home) (s : State) (σ : over.State) (related : IsRelated home s σ) where
  -- the value of an operand
  pub record ReadsAs (z : Size) (a : Arg) (shows : Leaks) (ns : List ℕ) (v : Value) : Type 0 where
    pub bits : ℕ
    pub word : word_of z v ≡ Some bits
    pub small : bits < modulus z
    pub value : value_of frame a z σ ≡ Some bits
    pub numbers : shown a σ ≡ shown_of shows ns
    pub counted : IsCounted shows ns
    pub form : FormOf a v

  cell_read : (w i : ℕ) (z : Size) (a : ℕ) → has_cell (frame w) z i ≡ true → σ.cells w i ≡ Some a → a < modulus z → cell_word frame w z σ i ≡ Some a
  cell_read w i z a h e l = rw (h, e) (ap (λ x. Some x) (small_mod z a l))

  word_read : (x : Var) (z : Size) (n : ℕ) → home (key_of (ref_of x)) ≡ Some (in_register n z) → (ns : List ℕ) (v : Value) → variable_value (ref_of x) s.store ≡ went ns v → ReadsAs z (arg.Var n) silent ns v
  word_read x z n h ns v e =
      let d = defined_went (ref_of x).span (s.store (key_of (ref_of x))) ns v e in
      let k = related.holds (key_of (ref_of x)) (in_register n z) v h d.0 in
      record { bits = k.0; word = ap (word_of z) k.1 ∙ word_itself z k.0; small = k.2; value = ap (narrowed z) k.3 ∙ narrowed_itself z k.0 k.2; numbers = refl; counted = d.1; form = subst IsWordValue (sym k.1) tt }

  scalar_read : (x : Var) (z : Size) (w : ℕ) → home (key_of (ref_of x)) ≡ Some (in_cell w 0 z) → (ns : List ℕ) (v : Value) → variable_value (ref_of x) s.store ≡ went ns v
      → ReadsAs z (arg.Cell (record { of = w; index = None; offset = pos 0 })) silent ns v
  scalar_read x z w h ns v e =
      let d = defined_went (ref_of x).span (s.store (key_of (ref_of x))) ns v e in
      let k = related.holds (key_of (ref_of x)) (in_cell w 0 z) v h d.0 in
      record { bits = k.0; word = ap (word_of z) k.1 ∙ word_itself z k.0; small = k.2; value = cell_read w 0 z k.0 (homing.framed (key_of (ref_of x)) w 0 z h) k.3 k.2; numbers = refl; counted = d.1; form = subst IsWordValue (sym k.1) tt }

  number_read : (i : ℤ) (z : Size) (ns : List ℕ) (v : Value) → ◌≡◌ {A = Evaluation Value} (went [] (integer i)) (went ns v) → ReadsAs z (arg.Imm (reading_of z i)) silent ns v
  number_read i z ns v e =
      let k = went_same [] ns (integer i) v e in
      record { bits = residue z i; word = ap (word_of z) (sym k.1); small = residue_below z i; value = ap (λ x. Some x) (signed_itself z (residue z i) (residue_below z i)); numbers = refl; counted = sym k.0; form = tt }

  shown_index : (b : Option ℕ) (o : Option ℕ) (i : ℕ) (ns : List ℕ) → o ≡ Some i → ns ≡ i ∷ [] → shown_cell b o ≡ shown_of (cell_leaks b) ns
  shown_index None o i ns e f = refl
  shown_index (Some b) o i ns e f = ap option_to_list e ∙ sym f

  index_counted : (b : Option ℕ) (i : ℕ) (ns : List ℕ) → ns ≡ i ∷ [] → IsCounted (cell_leaks b) ns
  index_counted None i ns e = (i, e)
  index_counted (Some b) i ns e = (i, e)

  cell_found : (x : Var) (e : Expr) (z : Size) (n w : ℕ) (t : Sum) (b : Option ℕ) (i : ℤ) → AreCells home x z n w → IsSum home e t → IsIndex t b i → (ns : List ℕ) (v : Value)
      → and_then (evaluated e (Some S64) s) (λ u. cell_value (ref_of x) u s.store) ≡ went ns v → ReadsAs z (arg.Cell (record { of = w; index = b; offset = i })) (cell_leaks b) ns v
  cell_found x e z n w t b i cells is at ns v run =
      let k = both_went (evaluated e (Some S64) s) (λ u. cell_value (ref_of x) u s.store) ns v run in
      let u = sum_is home s σ related is k.first k.value k.came in
      let q = both_went (index_at (ref_of x) k.value) (λ j. defined (ref_of x).span (s.store (cell_key (ref_of x) j))) k.second v k.went_on in
      let j = residue S64 (pos u.total +ℤ t.number) in
      let r = indexed (ref_of x) z n k.value j q.first q.value cells.0 u.stands q.came in
      let d = defined_went (ref_of x).span (s.store (cell_key (ref_of x) q.value)) q.second v q.went_on in
      let there : s.store (cell_key (ref_of x) j) ≡ Some v = ap (λ y. s.store (cell_key (ref_of x) y)) r.same ∙ d.0 in
      let h = related.holds (cell_key (ref_of x) j) (in_cell w j z) v (cells.2 j r.within) there in
      let at' = index_found σ w at u.total u.made in
      let nums : ns ≡ j ∷ [] = k.numbers ∙ ap (λ y. k.first ++ y) q.numbers ∙ three_middle k.first q.first q.second j u.none r.numbers d.1 in
      record {
        bits = h.0;
        word = ap (word_of z) h.1 ∙ word_itself z h.0;
        small = h.2;
        value = ap (λ y. if_some y (cell_word frame w z σ)) at' ∙ cell_read w j z h.0 (homing.framed (cell_key (ref_of x) j) w j z (cells.2 j r.within)) h.3 h.2;
        numbers = shown_index b _ j ns at' nums;
        counted = index_counted b j ns nums;
        form = subst IsWordValue (sym h.1) tt;
      }

  load_found : (a : Access) (z : Size) (t : Sum) (m : Address) → option_or a.size (Some z) ≡ Some z → IsSum home a.at t → IsAddress t m → (ns : List ℕ) (v : Value)
      → and_then (evaluated a.at (Some S64) s) (λ u. load_at (access_of a) (Some z) u s.memory) ≡ went ns v → ReadsAs z (arg.Mem m) told ns v
  load_found a z t m size is at ns v run =
      let k = both_went (evaluated a.at (Some S64) s) (λ u. load_at (access_of a) (Some z) u s.memory) ns v run in
      let u = sum_is home s σ related is k.first k.value k.came in
      let j = residue S64 (pos u.total +ℤ t.number) in
      let p = access_of a in
      let q = both_went (word_at p.span S64 k.value) (λ x. load_word p.span p.unaligned (option_or p.size (Some z)) x s.memory) k.second v k.went_on in
      let d = defined_went p.span (word_of S64 k.value) q.first q.value q.came in
      let same : j ≡ q.value = same_some j q.value (sym (word_64 k.value j u.stands) ∙ d.0) in
      let z' : option_or p.size (Some z) ≡ Some z = ap (λ y. option_or y (Some z)) (access_size a) ∙ size in
      let w = loaded_word p z q.value s.memory q.second v (subst (λ y. load_word p.span p.unaligned y q.value s.memory ≡ went q.second v) z' q.went_on) in
      let there : loaded s.memory j (bytes_of z) ≡ Some w.0 = ap (λ y. loaded s.memory y (bytes_of z)) same ∙ w.1 in
      let at' = address_found σ at u.total u.made in
      let nums : ns ≡ j ∷ [] = k.numbers ∙ ap (λ y. k.first ++ y) q.numbers ∙ three_last k.first q.first q.second q.value u.none d.1 w.3 ∙ ap (λ y. y ∷ []) (sym same) in
      record {
        bits = w.0;
        word = ap (word_of z) w.2 ∙ word_itself z w.0;
        small = loaded_small s.memory j z w.0 related.bytes there;
        value = ap (λ y. if_some y (λ x. loaded σ.memory x (bytes_of z))) at' ∙ ap (λ y. loaded y j (bytes_of z)) related.memory ∙ there;
        numbers = ap option_to_list at' ∙ sym nums;
        counted = (j, nums);
        form = subst IsWordValue (sym w.2) tt;
      }

  pub operand_read : {z : Size} {e : Expr} {a : Arg} {shows : Leaks} → IsArg home z e a shows → (ns : List ℕ) (v : Value) → evaluated e (Some z) s ≡ went ns v → ReadsAs z a shows ns v
  operand_read {z} (a_word x n h) ns v e = word_read x z n h ns v (sym (evaluated_var x (Some z) s) ∙ e)
  operand_read {z} (a_number i at) ns v e = number_read i z ns v (sym (evaluated_num i at (Some z) s) ∙ e)
  operand_read {z} (a_scalar x w h) ns v e = scalar_read x z w h ns v (sym (evaluated_var x (Some z) s) ∙ e)
  operand_read {z} (a_cell x i n w t b o cells is at) ns v e = cell_found x i z n w t b o cells is at ns v (sym (evaluated_cell x i (Some z) s) ∙ e)
  operand_read {z} (a_load a t m size is at) ns v e = load_found a z t m size is at ns v (sym (evaluated_load a (Some z) s) ∙ e)

  -- the same in the words of the law
  pub operand_is_read : {z : Size} {e : Expr} {a : Arg} {shows : Leaks} → IsArg home z e a shows → (ns : List ℕ) (v : Value) → evaluated e (Some z) s ≡ went ns v → IsRead frame z a shows σ ns v
  operand_is_read {z} {e} {a} {shows} is ns v run =
      let r = operand_read is ns v run in
      record { bits = r.bits; word = r.word; small = r.small; value = r.value; numbers = read_shown frame a z σ r.bits r.value ∙ ap (λ l. Some l) r.numbers; counted = r.counted }
