-- Destinations of a statement and of an operation: what the source writes is what the operation puts.
use Rattle.std.proofs.Common.{◌≡◌, ◌⊎◌, inl, inr, ℕ, zero, suc, ◌+◌, ◌/◌, ◌%◌, ◌^◌, ◌<◌, Bool, true, false, cond, List, [], ◌∷◌, ◌++◌, Option, Some, None, refl, sym, ap, ◌∙◌, subst, arith, ℤ, pos, ◌+ℤ◌}
use Rattle.std.specs.Prelude.{nat_eq, if◌then◌else◌}
use Rattle.std.specs.Option.{option_or, option_to_list}
use Rattle.std.specs.FinMap.{get, insert, get-insert}
use Rattle.std.specs.Ordering.{nat_cmp, eq_by_cmp}
use Rattle.std.specs.Cmp.{nat_cmp_total}
use Rattle.std.proofs.lemmas.Bool.{eq-eqb, eqb-true, ne_eqb}
use Rattle.jz_io.specs.declared.span.Span.{Span}
use Rattle.jz_words.specs.declared.size.Size.{Size}
use Rattle.jz_words.specs.declared.size.Size.TheVariants.{S64}
use Rattle.jz_words.specs.Sizes.{bytes_of, modulus}
use Rattle.jz_words.specs.Words.{residue}
use Rattle.jz_words.specs.Memory.{Memory, all_valid, stored}
use Rattle.jz_tree.specs.declared.expr.Expr.{Expr}
use Rattle.jz_tree.specs.declared.expr.Access.{Access}
use Rattle.jz_tree.specs.declared.expr.Var.{Var}
use Rattle.jz_tree.specs.declared.stmt.Lval.{Lval}
use Rattle.jz_tree.specs.declared.stmt.Lval.TheVariants as lval
use Rattle.jz_runs.specs.Rules.{went}
use Rattle.jz_meaning.specs.declared.access.Kind.{Kind}
use Rattle.jz_meaning.specs.declared.access.Kind.TheVariants as kind
use Rattle.jz_meaning.specs.Attempts.{and_then}
use Rattle.jz_meaning.specs.States.{Value, word, boolean, Key, same_key, State, put as put_key}
use Rattle.jz_meaning.specs.Operators.{word_of, word_at}
use Rattle.jz_meaning.specs.Values.{Ref, key_of, cell_key, ref_of, access_of, index_at, accessed, after_store, store_word, store_at, evaluated, size_of}
use Rattle.jz_meaning.specs.Assignments.{left_size, held_or_unset, word_value, with_value, in_cell as write_cell, written}
use Rattle.jz_operations.specs.declared.operation.Address.{Address}
use Rattle.jz_operations.specs.declared.operation.Arg.{Arg}
use Rattle.jz_operations.specs.declared.operation.Arg.TheVariants as arg
use Rattle.jz_operations.specs.Values as over
use Rattle.jz_operations.specs.Values.{set_var, set_cell}
use Rattle.jz_operations.specs.Rows.{Frame, if_some, has_cell, with_cell, with_memory, put}
use Rattle.jz_operations.proofs.Somes.{same_some}
use Rattle.jz_homes.proofs.Shown.{shown, shown_cell, put_shown}
use Rattle.jz_homes.specs.Homes.{Home, Homes, IsHoming, in_register, in_flag, in_cell, AreApart, Holds, IsRelated}
use Rattle.jz_homes.specs.Sums.{Sum, IsSum, IsAddress, IsIndex}
use Rattle.jz_homes.specs.Operands.{AreCells, Leaks, silent, told, shown_of, cell_leaks, IsCounted, IsDest, to_word, to_scalar, to_cell, to_memory}
use Rattle.jz_homes.specs.Laws.{IsWritten}
use Rattle.jz_homes.proofs.Parts.{both_went, went_same, defined_went, access_at, access_size}
use Rattle.jz_homes.proofs.SumValues.{sum_is}
use Rattle.jz_homes.proofs.Reading.{indexed, index_found, address_found, accessed_by, word_64, three_middle}

five_parts : (a b c d e : List ℕ) (x : ℕ) → a ≡ [] → b ≡ [] → c ≡ [] → d ≡ x ∷ [] → e ≡ [] → a ++ ((b ++ (c ++ d)) ++ e) ≡ x ∷ []
five_parts a b c d e x f g h i j = rw (f, g, h) (rw (i, j) refl)

-- ---- one value written
pub set_same : (n : ℕ) (w : Option over.Value) (vars : ℕ → Option over.Value) → set_var n w vars n ≡ w
set_same n w vars = let e : nat_eq n n ≡ true = eq-eqb n n refl in rw e refl

pub set_other : (n m : ℕ) (w : Option over.Value) (vars : ℕ → Option over.Value) → (n ≡ m → ⊥) → set_var n w vars m ≡ vars m
set_other n m w vars ne = let e : nat_eq n m ≡ false = ne_eqb n m ne in rw e refl

cell_same : (w i n : ℕ) (cells : ℕ → ℕ → Option ℕ) → set_cell w i n cells w i ≡ Some n
cell_same w i n cells = let e : nat_eq w w ≡ true = eq-eqb w w refl in let f : nat_eq i i ≡ true = eq-eqb i i refl in rw (e, f) refl

cell_other : (b : Bool) (w v i j n : ℕ) (cells : ℕ → ℕ → Option ℕ) → nat_eq w v ≡ b → ((w ≡ v → ⊥) ⊎ (i ≡ j → ⊥)) → set_cell w i n cells v j ≡ cells v j
cell_other false w v i j n cells e ne = rw e refl
cell_other true w v i j n cells e (inl ne) = absurd (ne (eqb-true w v e))
cell_other true w v i j n cells e (inr ne) = let f : nat_eq i j ≡ false = ne_eqb i j ne in rw (e, f) refl

-- what is in other variables stays
pub kept_by_var : (n : ℕ) (w : Option over.Value) (x0 : Home) (σ τ : over.State) → ((m : ℕ) → (n ≡ m → ⊥) → τ.vars m ≡ σ.vars m) → τ.cells ≡ σ.cells → ((m : ℕ) (z : Size) → AreApart x0 (in_register m z) → n ≡ m → ⊥) → ((m : ℕ) → AreApart x0 (in_flag m) → n ≡ m → ⊥)
    → (x : Home) (v : Value) → AreApart x0 x → Holds σ x v → Holds τ x v
kept_by_var n w x0 σ τ vars cells words flags (in_register m z) v ne h = (h.0, h.1, h.2, vars m (words m z ne) ∙ h.3)
kept_by_var n w x0 σ τ vars cells words flags (in_flag m) v ne h = (h.0, h.1, vars m (flags m ne) ∙ h.2)
kept_by_var n w x0 σ τ vars cells words flags (in_cell y i z) v ne h = (h.0, h.1, h.2, ap (λ c. c y i) cells ∙ h.3)

kept_by_cell : (w i n : ℕ) (z : Size) (σ τ : over.State) → τ.vars ≡ σ.vars → τ.cells ≡ set_cell w i n σ.cells → (x : Home) (v : Value) → AreApart (in_cell w i z) x → Holds σ x v → Holds τ x v
kept_by_cell w i n z σ τ vars cells (in_register m y) v ne h = (h.0, h.1, h.2, ap (λ f. f m) vars ∙ h.3)
kept_by_cell w i n z σ τ vars cells (in_flag m) v ne h = (h.0, h.1, ap (λ f. f m) vars ∙ h.2)
kept_by_cell w i n z σ τ vars cells (in_cell y j k) v ne h = (h.0, h.1, h.2, ap (λ c. c y j) cells ∙ cell_other (nat_eq w y) w y i j n σ.cells refl ne ∙ h.3)

same_holds : (σ τ : over.State) → ((m : ℕ) → τ.vars m ≡ σ.vars m) → τ.cells ≡ σ.cells → (x : Home) (v : Value) → Holds σ x v → Holds τ x v
same_holds σ τ vars cells (in_register m z) v h = (h.0, h.1, h.2, vars m ∙ h.3)
same_holds σ τ vars cells (in_flag m) v h = (h.0, h.1, vars m ∙ h.2)
same_holds σ τ vars cells (in_cell y i z) v h = (h.0, h.1, h.2, ap (λ c. c y i) cells ∙ h.3)

-- bytes stay bytes
byte_by : (b : Bool) (x y n : ℕ) (o : Option ℕ) → y < 256 → ((c : ℕ) → o ≡ Some c → c < 256) → cond b (Some y) o ≡ Some x → x < 256
byte_by true x y n o l h e = subst (λ k. k < 256) (same_some y x e) l
byte_by false x y n o l h e = h x e

stored_bytes : (m : Memory) (a n v : ℕ) → ((q b : ℕ) → get m q ≡ Some b → b < 256) → (q b : ℕ) → get (stored m a n v) q ≡ Some b → b < 256
unfolding stored
stored_bytes m a zero v h q b e = h q b e
stored_bytes m a (suc n) v h q b e =
    stored_bytes (insert m a (v % 256)) ((a + 1) % 2 ^ 64) n (v / 256)
    (λ p c k. byte_by (eq_by_cmp nat_cmp p a) c (v % 256) 0 (get m p) (omega arith) (λ d f. h p d f) (sym (get-insert nat_cmp_total m a (v % 256) p) ∙ k)) q b e

module _ (frame : Frame) (home : Homes) (homing : IsHoming frame home) where
  put_by : (b : Bool) (key k : Key) (u : Value) (s : State) (v : Value) → same_key key k ≡ b → put_key s.store key (Some u) k ≡ Some v → ((b ≡ true) × (u ≡ v)) ⊎ ((b ≡ false) × (s.store k ≡ Some v))
  put_by true key k u s v e h = inl (refl, same_some u v (rw e at h))
  put_by false key k u s v e h = inr (refl, rw e at h)

  pub related_put : (key : Key) (x0 : Home) (u : Value) (s : State) (σ τ : over.State) → IsRelated home s σ → home key ≡ Some x0 → Holds τ x0 u → ((x : Home) (v : Value) → AreApart x0 x → Holds σ x v → Holds τ x v) → τ.memory ≡ σ.memory
      → IsRelated home (with_value s key (Some u)) τ
  related_put key x0 u s σ τ related at here kept memory = record {
    holds = λ k x v h e. elim (put_by (same_key key k) key k u s v refl e) [
      | inl (t, is) ↦ let same : x0 ≡ x = same_some x0 x (sym at ∙ homing.same key k t ∙ h) in subst (λ y. Holds τ y v) same (subst (Holds τ x0) is here)
      | inr (f, is) ↦ kept x v (homing.apart key k x0 x f at h) (related.holds k x v h is)
    ];
    memory = memory ∙ related.memory;
    bytes = related.bytes;
  }

  -- a register's word
  pub related_word : (key : Key) (n : ℕ) (z : Size) (a : ℕ) (s : State) (σ τ : over.State) → IsRelated home s σ → home key ≡ Some (in_register n z) → a < modulus z
      → τ.vars n ≡ Some (over.word z a) → ((m : ℕ) → (n ≡ m → ⊥) → τ.vars m ≡ σ.vars m) → τ.cells ≡ σ.cells → τ.memory ≡ σ.memory → IsRelated home (with_value s key (Some (word z a))) τ
  related_word key n z a s σ τ related at small is others cells memory =
      related_put key (in_register n z) (word z a) s σ τ related at (a, refl, small, is) (kept_by_var n None (in_register n z) σ τ others cells (λ m y ne. ne) (λ m ne. ne)) memory

  pub related_flag : (key : Key) (n : ℕ) (b : Bool) (s : State) (σ τ : over.State) → IsRelated home s σ → home key ≡ Some (in_flag n)
      → τ.vars n ≡ Some (over.boolean b) → ((m : ℕ) → (n ≡ m → ⊥) → τ.vars m ≡ σ.vars m) → τ.cells ≡ σ.cells → τ.memory ≡ σ.memory → IsRelated home (with_value s key (Some (boolean b))) τ
  related_flag key n b s σ τ related at is others cells memory =
      related_put key (in_flag n) (boolean b) s σ τ related at (b, refl, is) (kept_by_var n None (in_flag n) σ τ others cells (λ m y ne. ne) (λ m ne. ne)) memory

  -- what the source's state has to do with only variables, cells and memory
  pub related_same : (s : State) (σ τ : over.State) → IsRelated home s σ → ((m : ℕ) → τ.vars m ≡ σ.vars m) → τ.cells ≡ σ.cells → τ.memory ≡ σ.memory → IsRelated home s τ
  related_same s σ τ related vars cells memory = record {
    holds = λ k x v h e. same_holds σ τ vars cells x v (related.holds k x v h e);
    memory = memory ∙ related.memory;
    bytes = related.bytes;
  }

  module _ (s : State) (σ : over.State) (related : IsRelated home s σ) where
    pub record WritesAs (z : Size) (b : Arg) (shows : Leaks) (n : ℕ) (ns : List ℕ) (t : State) : Type 0 where
      pub after : over.State
      pub put' : put frame b z n σ ≡ Some after
      pub agrees : IsRelated home t after
      pub numbers : shown b σ ≡ shown_of shows ns
      pub counted : IsCounted shows ns

    held_word : (k : Kind) (z : Size) (at : Span) (u : Value) (n : ℕ) (ns : List ℕ) (h : Option Value) → k ≡ kind.Word z → word_of z u ≡ Some n → held_or_unset at k (Some u) ≡ went ns h → (ns ≡ []) × (h ≡ Some (word z n))
    held_word k z at u n ns h is w e =
        let f : held_or_unset at (kind.Word z) (Some u) ≡ went ns h = subst (λ y. held_or_unset at y (Some u) ≡ went ns h) is e in
        let g = both_went (word_value at z u) (λ c. went [] (Some c)) ns h f in
        let d = both_went (word_at at z u) (λ a. went [] (word z a)) g.first g.value g.came in
        let q = defined_went at (word_of z u) d.first d.value d.came in
        let same : n ≡ d.value = same_some n d.value (sym w ∙ q.0) in
        let v1 = went_same [] d.second (word z d.value) g.value d.went_on in
        let v2 = went_same [] g.second (Some g.value) h g.went_on in
        (g.numbers ∙ ap (λ y. y ++ g.second) (d.numbers ∙ ap (λ y. y ++ d.second) q.1 ∙ sym v1.0) ∙ sym v2.0, sym v2.1 ∙ ap (λ y. Some y) (sym v1.1) ∙ ap (λ y. Some (word z y)) (sym same))

    word_written : (x : Var) (m : ℕ) (z : Size) (u : Value) (n : ℕ) (ns : List ℕ) (t : State) → (ref_of x).kind ≡ kind.Word z → home (key_of (ref_of x)) ≡ Some (in_register m z) → word_of z u ≡ Some n → n < modulus z
        → and_then (held_or_unset (ref_of x).span (ref_of x).kind (Some u)) (λ h. went [] (with_value s (key_of (ref_of x)) h)) ≡ went ns t → WritesAs z (arg.Var m) silent n ns t
    word_written x m z u n ns t kind' h w small e =
        let g = both_went (held_or_unset (ref_of x).span (ref_of x).kind (Some u)) (λ h. went [] (with_value s (key_of (ref_of x)) h)) ns t e in
        let k = held_word (ref_of x).kind z (ref_of x).span u n g.first g.value kind' w g.came in
        let q = went_same [] g.second (with_value s (key_of (ref_of x)) g.value) t g.went_on in
        let is : with_value s (key_of (ref_of x)) (Some (word z n)) ≡ t = ap (with_value s (key_of (ref_of x))) (sym k.1) ∙ q.1 in
        let τ = record σ { vars = set_var m (Some (over.word z n)) σ.vars; left = λ r. None } in
        record {
          after = τ;
          put' = refl;
          agrees = subst (λ y. IsRelated home y τ) is (related_word (key_of (ref_of x)) m z n s σ τ related h small (set_same m (Some (over.word z n)) σ.vars) (λ j ne. set_other m j (Some (over.word z n)) σ.vars ne) refl refl);
          numbers = refl;
          counted = g.numbers ∙ ap (λ y. y ++ g.second) k.0 ∙ sym q.0;
        }

    cell_put : (w i : ℕ) (z : Size) (n : ℕ) → has_cell (frame w) z i ≡ true → with_cell frame w z n σ i ≡ Some (record σ { cells = set_cell w i n σ.cells })
    cell_put w i z n e = rw e refl

    related_cell : (key : Key) (w i : ℕ) (z : Size) (n : ℕ) → home key ≡ Some (in_cell w i z) → n < modulus z → IsRelated home (with_value s key (Some (word z n))) (record σ { cells = set_cell w i n σ.cells })
    related_cell key w i z n at small =
        let τ : over.State = record σ { cells = set_cell w i n σ.cells } in
        related_put key (in_cell w i z) (word z n) s σ τ related at (n, refl, small, cell_same w i n σ.cells) (kept_by_cell w i n z σ τ refl refl) refl

    scalar_written : (x : Var) (w : ℕ) (z : Size) (u : Value) (n : ℕ) (ns : List ℕ) (t : State) → (ref_of x).kind ≡ kind.Word z → home (key_of (ref_of x)) ≡ Some (in_cell w 0 z) → word_of z u ≡ Some n → n < modulus z
        → and_then (held_or_unset (ref_of x).span (ref_of x).kind (Some u)) (λ h. went [] (with_value s (key_of (ref_of x)) h)) ≡ went ns t → WritesAs z (arg.Cell (record { of = w; index = None; offset = pos 0 })) silent n ns t
    scalar_written x w z u n ns t kind' h wo small e =
        let g = both_went (held_or_unset (ref_of x).span (ref_of x).kind (Some u)) (λ h. went [] (with_value s (key_of (ref_of x)) h)) ns t e in
        let k = held_word (ref_of x).kind z (ref_of x).span u n g.first g.value kind' wo g.came in
        let q = went_same [] g.second (with_value s (key_of (ref_of x)) g.value) t g.went_on in
        let is : with_value s (key_of (ref_of x)) (Some (word z n)) ≡ t = ap (with_value s (key_of (ref_of x))) (sym k.1) ∙ q.1 in
        record {
          after = record σ { cells = set_cell w 0 n σ.cells };
          put' = cell_put w 0 z n (homing.framed (key_of (ref_of x)) w 0 z h);
          agrees = subst (λ y. IsRelated home y (record σ { cells = set_cell w 0 n σ.cells })) is (related_cell (key_of (ref_of x)) w 0 z n h small);
          numbers = refl;
          counted = g.numbers ∙ ap (λ y. y ++ g.second) k.0 ∙ sym q.0;
        }

    index_shown : (b : Option ℕ) (o : Option ℕ) (i : ℕ) (ns : List ℕ) → o ≡ Some i → ns ≡ i ∷ [] → shown_cell b o ≡ shown_of (cell_leaks b) ns
    index_shown None o i ns e f = refl
    index_shown (Some b) o i ns e f = ap option_to_list e ∙ sym f

    index_counted : (b : Option ℕ) (i : ℕ) (ns : List ℕ) → ns ≡ i ∷ [] → IsCounted (cell_leaks b) ns
    index_counted None i ns e = (i, e)
    index_counted (Some b) i ns e = (i, e)

    cell_by : (x : Ref) (z : Size) (i : ℕ) (u : Value) (n : ℕ) (ns : List ℕ) (t : State) (y : Option Size) → y ≡ Some z → word_of z u ≡ Some n → write_cell x i y (Some u) s ≡ went ns t → (ns ≡ []) × (with_value s (cell_key x i) (Some (word z n)) ≡ t)
    cell_by x z i u n ns t y is w e =
        let f : write_cell x i (Some z) (Some u) s ≡ went ns t = subst (λ o. write_cell x i o (Some u) s ≡ went ns t) is e in
        let g = both_went (word_value x.span z u) (λ c. went [] (with_value s (cell_key x i) (Some c))) ns t f in
        let d = both_went (word_at x.span z u) (λ a. went [] (word z a)) g.first g.value g.came in
        let q = defined_went x.span (word_of z u) d.first d.value d.came in
        let same : n ≡ d.value = same_some n d.value (sym w ∙ q.0) in
        let v1 = went_same [] d.second (word z d.value) g.value d.went_on in
        let v2 = went_same [] g.second (with_value s (cell_key x i) (Some g.value)) t g.went_on in (
          g.numbers ∙ ap (λ y. y ++ g.second) (d.numbers ∙ ap (λ y. y ++ d.second) q.1 ∙ sym v1.0) ∙ sym v2.0,
          ap (λ y. with_value s (cell_key x i) (Some (word z y))) same ∙ ap (λ y. with_value s (cell_key x i) (Some y)) v1.1 ∙ v2.1,
        )

    cell_written : (x : Var) (e : Expr) (z : Size) (n w : ℕ) (t' : Sum) (b : Option ℕ) (i : ℤ) → AreCells home x z n w → IsSum home e t' → IsIndex t' b i → (u : Value) (a : ℕ) (ns : List ℕ) (t : State) → word_of z u ≡ Some a → a < modulus z
        → and_then (evaluated e (Some S64) s) (λ j. and_then (index_at (ref_of x) j) (λ m. write_cell (ref_of x) m (left_size (lval.Cell x e)) (Some u) s)) ≡ went ns t
        → WritesAs z (arg.Cell (record { of = w; index = b; offset = i })) (cell_leaks b) a ns t
    cell_written x e z n w t' b i cells is at u a ns t wo small run =
        let k = both_went (evaluated e (Some S64) s) (λ j. and_then (index_at (ref_of x) j) (λ m. write_cell (ref_of x) m (left_size (lval.Cell x e)) (Some u) s)) ns t run in
        let v = sum_is home s σ related is k.first k.value k.came in
        let q = both_went (index_at (ref_of x) k.value) (λ m. write_cell (ref_of x) m (left_size (lval.Cell x e)) (Some u) s) k.second t k.went_on in
        let j = residue S64 (pos v.total +ℤ t'.number) in
        let r = indexed (ref_of x) z n k.value j q.first q.value cells.0 v.stands q.came in
        let c = cell_by (ref_of x) z q.value u a q.second t (left_size (lval.Cell x e)) (ap size_of cells.0) wo q.went_on in
        let at' = index_found σ w at v.total v.made in
        let h = cells.2 j r.within in
        let is' : with_value s (cell_key (ref_of x) j) (Some (word z a)) ≡ t = ap (λ y. with_value s (cell_key (ref_of x) y) (Some (word z a))) r.same ∙ c.1 in
        let nums : ns ≡ j ∷ [] = k.numbers ∙ ap (λ y. k.first ++ y) q.numbers ∙ three_middle k.first q.first q.second j v.none r.numbers c.0 in
        record {
          after = record σ { cells = set_cell w j a σ.cells };
          put' = ap (λ y. if_some y (with_cell frame w z a σ)) at' ∙ cell_put w j z a (homing.framed (cell_key (ref_of x) j) w j z h);
          agrees = subst (λ y. IsRelated home y (record σ { cells = set_cell w j a σ.cells })) is' (related_cell (cell_key (ref_of x) j) w j z a h small);
          numbers = index_shown b _ j ns at' nums;
          counted = index_counted b j ns nums;
        }

    stored_by : (b : Bool) (m m' : Memory) → (if b then Some m else None) ≡ Some m' → (b ≡ true) × (m ≡ m')
    stored_by true m m' e = (refl, same_some m m' e)
    stored_by false m m' e = absurd cc

    memory_put : (x : ℕ) (z : Size) (n : ℕ) → all_valid s.memory x (bytes_of z) ≡ true → with_memory frame z n σ x ≡ Some (record σ { memory = stored σ.memory x (bytes_of z) n })
    memory_put x z n e = let f : all_valid σ.memory x (bytes_of z) ≡ true = ap (λ y. all_valid y x (bytes_of z)) related.memory ∙ e in rw f refl

    related_memory : (x : ℕ) (z : Size) (n : ℕ) → IsRelated home (record s { memory = stored s.memory x (bytes_of z) n }) (record σ { memory = stored σ.memory x (bytes_of z) n })
    related_memory x z n = record {
      holds = λ k y v h e. same_holds σ (record σ { memory = stored σ.memory x (bytes_of z) n }) (λ m. refl) refl y v (related.holds k y v h e);
      memory = ap (λ y. stored y x (bytes_of z) n) related.memory;
      bytes = stored_bytes s.memory x (bytes_of z) n related.bytes;
    }

    memory_written : (a : Access) (z : Size) (t' : Sum) (m : Address) → option_or a.size (Some z) ≡ Some z → IsSum home a.at t' → IsAddress t' m → (u : Value) (n : ℕ) (ns : List ℕ) (t : State) → word_of z u ≡ Some n → n < modulus z
        → and_then (evaluated a.at (Some S64) s) (λ j. and_then (store_at (access_of a) (Some z) j (Some u) s.memory) (λ y. went [] (record s { memory = y }))) ≡ went ns t → WritesAs z (arg.Mem m) told n ns t
    memory_written a z t' m size is at u n ns t wo small run =
        let p = access_of a in
        let k = both_went (evaluated a.at (Some S64) s) (λ j. and_then (store_at p (Some z) j (Some u) s.memory) (λ y. went [] (record s { memory = y }))) ns t run in
        let v = sum_is home s σ related is k.first k.value k.came in
        let j = residue S64 (pos v.total +ℤ t'.number) in
        let q = both_went (store_at p (Some z) k.value (Some u) s.memory) (λ y. went [] (record s { memory = y })) k.second t k.went_on in
        let r = both_went (word_at p.span S64 k.value) (λ x. store_word p.span p.unaligned (option_or p.size (Some z)) x (Some u) s.memory) q.first q.value q.came in
        let d = defined_went p.span (word_of S64 k.value) r.first r.value r.came in
        let same : j ≡ r.value = same_some j r.value (sym (word_64 k.value j v.stands) ∙ d.0) in
        let z' : option_or p.size (Some z) ≡ Some z = ap (λ y. option_or y (Some z)) (access_size a) ∙ size in
        let f = both_went (word_at p.span z u) (λ b. accessed p.span p.unaligned z r.value (after_store s.memory r.value z b)) r.second q.value (subst (λ y. store_word p.span p.unaligned y r.value (Some u) s.memory ≡ went r.second q.value) z' r.went_on) in
        let g = defined_went p.span (word_of z u) f.first f.value f.came in
        let word' : n ≡ f.value = same_some n f.value (sym wo ∙ g.0) in
        let h = accessed_by p.span p.unaligned z r.value (after_store s.memory r.value z f.value) f.second q.value f.went_on in
        let b = stored_by (all_valid s.memory r.value (bytes_of z)) (stored s.memory r.value (bytes_of z) f.value) q.value h.0 in
        let e = went_same [] q.second (record s { memory = q.value }) t q.went_on in
        let at' = address_found σ at v.total v.made in
        let valid : all_valid s.memory j (bytes_of z) ≡ true = ap (λ y. all_valid s.memory y (bytes_of z)) same ∙ b.0 in
        let is' : record s { memory = stored s.memory j (bytes_of z) n } ≡ t = ap (λ y. record s { memory = stored s.memory y (bytes_of z) n }) same ∙ ap (λ y. record s { memory = stored s.memory r.value (bytes_of z) y }) word' ∙ ap (λ y. record s { memory = y }) b.1 ∙ e.1 in
        let nums : ns ≡ j ∷ [] = k.numbers ∙ ap (λ y. k.first ++ y) (q.numbers ∙ ap (λ y. y ++ q.second) (r.numbers ∙ ap (λ y. r.first ++ y) f.numbers)) ∙ five_parts k.first r.first f.first f.second q.second r.value v.none d.1 g.1 h.1 (sym e.0) ∙ ap (λ y. y ∷ []) (sym same) in
        record {
          after = record σ { memory = stored σ.memory j (bytes_of z) n };
          put' = ap (λ y. if_some y (with_memory frame z n σ)) at' ∙ memory_put j z n valid;
          agrees = subst (λ y. IsRelated home y (record σ { memory = stored σ.memory j (bytes_of z) n })) is' (related_memory j z n);
          numbers = ap option_to_list at' ∙ sym nums;
          counted = (j, nums);
        }

    pub dest_written : {z : Size} {d : Lval} {b : Arg} {shows : Leaks} → IsDest home z d b shows → (u : Value) (n : ℕ) (ns : List ℕ) (t : State) → word_of z u ≡ Some n → n < modulus z → written (Some z) d (Some u) s ≡ went ns t → WritesAs z b shows n ns t
    dest_written {z} (to_word x m k h) u n ns t w small e = word_written x m z u n ns t k h w small e
    dest_written {z} (to_scalar x w' k h) u n ns t w small e = scalar_written x w' z u n ns t k h w small e
    dest_written {z} (to_cell x e' k w' t' b i cells is at) u n ns t w small e = cell_written x e' z k w' t' b i cells is at u n ns t w small e
    dest_written {z} (to_memory a t' m size is at) u n ns t w small e =
        memory_written a z t' m size is at u n ns t w small (ap (λ g. and_then g (λ j. and_then (store_at (access_of a) (Some z) j (Some u) s.memory) (λ y. went [] (record s { memory = y })))) (sym (access_at a s)) ∙ e)

    -- the same in the words of the law
    pub dest_is_written : {z : Size} {d : Lval} {b : Arg} {shows : Leaks} → IsDest home z d b shows → (u : Value) (n : ℕ) (ns : List ℕ) (t : State) → word_of z u ≡ Some n → n < modulus z → written (Some z) d (Some u) s ≡ went ns t → IsWritten frame home z b shows σ n ns t
    dest_is_written {z} {d} {b} {shows} is u n ns t w small run =
        let r = dest_written is u n ns t w small run in
        record { after = r.after; put' = r.put'; agrees = r.agrees; numbers = put_shown frame b z n σ r.after r.put' ∙ ap (λ l. Some l) r.numbers; counted = r.counted }
