-- What operands are where a statement reads them as words and as flags.
use Rattle.std.proofs.Common.{◌≡◌, ℕ, ◌<◌, Bool, List, [], ◌++◌, Option, Some, None, sym, ap, ◌∙◌, subst}
use Rattle.jz_io.specs.declared.span.Span.{Span}
use Rattle.jz_words.specs.declared.size.Size.{Size}
use Rattle.jz_words.specs.Sizes.{modulus}
use Rattle.jz_tree.specs.declared.expr.Expr.{Expr}
use Rattle.jz_tree.specs.declared.expr.Expr.TheVariants as expr
use Rattle.jz_tree.specs.declared.expr.Var.{Var}
use Rattle.jz_runs.specs.Rules.{went}
use Rattle.jz_meaning.specs.Attempts.{and_then}
use Rattle.jz_meaning.specs.States.{Value, boolean, State}
use Rattle.jz_meaning.specs.Operators.{word_of, word_at}
use Rattle.jz_meaning.specs.Values.{key_of, ref_of, evaluated}
use Rattle.jz_meaning.specs.Assignments.{word_in, truth, bool_in}
use Rattle.jz_operations.specs.declared.operation.Arg.{Arg}
use Rattle.jz_operations.specs.Values as over
use Rattle.jz_operations.specs.Rows.{Frame, truth as flag_truth, value_of}
use Rattle.jz_operations.proofs.Somes.{same_some}
use Rattle.jz_homes.specs.Homes.{Homes, IsHoming, in_flag, IsRelated}
use Rattle.jz_homes.specs.Operands.{Leaks, IsCounted, IsArg, shown_of}
use Rattle.jz_homes.proofs.Shown.{shown}
use Rattle.jz_homes.proofs.Parts.{both_went, went_same, defined_went, evaluated_var}
use Rattle.jz_homes.proofs.Reading.{operand_read}
use Rattle.jz_row_operations.proofs.Moves.{append_nil}

-- a truth is no word
truth_no_word : (at : Span) (z : Size) (b : Bool) (ns : List ℕ) (n : ℕ) → word_at at z (boolean b) ≡ went ns n → ⊥
truth_no_word at z b ns n e = absurd cc

module _ (frame : Frame) (home : Homes) (homing : IsHoming frame home) (s : State) (σ : over.State) (related : IsRelated home s σ) where
  -- ---- words of operands
  pub record WordRead (z : Size) (x : Arg) (p : Leaks) (ns : List ℕ) (n : ℕ) : Type 0 where
    pub reads : value_of frame x z σ ≡ Some n
    pub small : n < modulus z
    pub shows : shown x σ ≡ shown_of p ns
    pub counted : IsCounted p ns

  pub word_read_in : {z : Size} {e : Expr} {x : Arg} {p : Leaks} (at : Span) (ns : List ℕ) (n : ℕ) → IsArg home z e x p → word_in at z e s ≡ went ns n → WordRead z x p ns n
  word_read_in {z} {e} {x} {p} at ns n ia run =
      let g = both_went (evaluated e (Some z) s) (word_at at z) ns n run in
      let m = operand_read frame home homing s σ related ia g.first g.value g.came in
      let d = defined_went at (word_of z g.value) g.second n g.went_on in
      let same : m.bits ≡ n = same_some m.bits n (sym m.word ∙ d.0) in
      let nums : ns ≡ g.first = g.numbers ∙ ap (λ y. g.first ++ y) d.1 ∙ append_nil g.first in
      record { reads = m.value ∙ ap (λ y. Some y) same; small = subst (λ y. y < modulus z) same m.small; shows = m.numbers ∙ ap (λ y. shown_of p y) (sym nums); counted = subst (IsCounted p) (sym nums) m.counted }

  pub record TwoRead {A : Type 0} (z : Size) (x y : Arg) (p q : Leaks) (f : ℕ → ℕ → A) (rs : A) (ns : List ℕ) : Type 0 where
    pub first : List ℕ
    pub second : List ℕ
    pub left : ℕ
    pub right : ℕ
    pub numbers : ns ≡ first ++ second
    pub reads_left : WordRead z x p first left
    pub reads_right : WordRead z y q second right
    pub results : rs ≡ f left right

  pub two_read : {A : Type 0} {z : Size} {a c : Expr} {x y : Arg} {p q : Leaks} (at : Span) (f : ℕ → ℕ → A) (rs : A) (ns : List ℕ) → IsArg home z a x p → IsArg home z c y q
      → and_then (word_in at z a s) (λ m. and_then (word_in at z c s) (λ n. went [] (f m n))) ≡ went ns rs → TwoRead z x y p q f rs ns
  two_read {A} {z} {a} {c} at f rs ns ia ic run =
      let g = both_went (word_in at z a s) (λ m. and_then (word_in at z c s) (λ n. went [] (f m n))) ns rs run in
      let h = both_went (word_in at z c s) (λ n. went [] (f g.value n)) g.second rs g.went_on in
      let k = went_same [] h.second (f g.value h.value) rs h.went_on in
      record {
        first = g.first;
        second = h.first;
        left = g.value;
        right = h.value;
        numbers = g.numbers ∙ ap (λ y. g.first ++ y) (h.numbers ∙ ap (λ y. h.first ++ y) (sym k.0) ∙ append_nil h.first);
        reads_left = word_read_in at g.first g.value ia g.came;
        reads_right = word_read_in at h.first h.value ic h.came;
        results = sym k.1;
      }

  -- ---- flags
  flag_there : (x : Var) (n : ℕ) (w : Option Size) (ns : List ℕ) (v : Value) → home (key_of (ref_of x)) ≡ Some (in_flag n) → evaluated (expr.Var x) w s ≡ went ns v → (ns ≡ []) × (b : Bool) × (v ≡ boolean b) × (σ.vars n ≡ Some (over.boolean b))
  flag_there x n w ns v h e =
      let d = defined_went (ref_of x).span (s.store (key_of (ref_of x))) ns v (sym (evaluated_var x w s) ∙ e) in
      let f = related.holds (key_of (ref_of x)) (in_flag n) v h d.0 in
      (d.1, f.0, f.1, f.2)

  -- a flag's variable has its truth, and is no word
  pub flag_asked : (x : Var) (n : ℕ) (at : Span) (ns : List ℕ) (k : Bool) → home (key_of (ref_of x)) ≡ Some (in_flag n) → bool_in at (expr.Var x) s ≡ went ns k → (ns ≡ []) × (flag_truth (σ.vars n) ≡ Some k)
  flag_asked x n at ns k h run =
      let g = both_went (evaluated (expr.Var x) None s) (truth at) ns k run in
      let f = flag_there x n None g.first g.value h g.came in
      let w : truth at (boolean f.1) ≡ went g.second k = subst (λ v. truth at v ≡ went g.second k) f.2 g.went_on in
      let q = went_same [] g.second f.1 k w in
      (g.numbers ∙ ap (λ y. y ++ g.second) f.0 ∙ sym q.0, ap flag_truth f.3 ∙ ap (λ b. Some b) q.1)

  pub flag_no_word : (x : Var) (n : ℕ) (at : Span) (z : Size) (ns : List ℕ) (k : ℕ) → home (key_of (ref_of x)) ≡ Some (in_flag n) → word_in at z (expr.Var x) s ≡ went ns k → ⊥
  flag_no_word x n at z ns k h run =
      let g = both_went (evaluated (expr.Var x) (Some z) s) (word_at at z) ns k run in
      let f = flag_there x n (Some z) g.first g.value h g.came in
      truth_no_word at z f.1 g.second k (subst (λ v. word_at at z v ≡ went g.second k) f.2 g.went_on)

  -- two words and a flag
  pub record ThreeRead {A : Type 0} (z : Size) (x y : Arg) (p q : Leaks) (n : ℕ) (f : ℕ → ℕ → Bool → A) (rs : A) (ns : List ℕ) : Type 0 where
    pub first : List ℕ
    pub second : List ℕ
    pub left : ℕ
    pub right : ℕ
    pub carry : Bool
    pub numbers : ns ≡ first ++ second
    pub reads_left : WordRead z x p first left
    pub reads_right : WordRead z y q second right
    pub reads_carry : flag_truth (σ.vars n) ≡ Some carry
    pub results : rs ≡ f left right carry

  three_nil : (a b c d ns : List ℕ) → ns ≡ a ++ (b ++ (c ++ d)) → c ≡ [] → d ≡ [] → ns ≡ a ++ b
  three_nil a b c d ns e f g = e ∙ ap (λ y. a ++ (b ++ (y ++ d))) f ∙ ap (λ y. a ++ (b ++ y)) g ∙ ap (λ y. a ++ y) (append_nil b)

  pub three_read : {A : Type 0} {z : Size} {a b : Expr} {x y : Arg} {p q : Leaks} (c : Var) (n : ℕ) (at here : Span) (f : ℕ → ℕ → Bool → A) (rs : A) (ns : List ℕ) → IsArg home z a x p → IsArg home z b y q → home (key_of (ref_of c)) ≡ Some (in_flag n)
      → and_then (word_in at z a s) (λ i. and_then (word_in at z b s) (λ j. and_then (bool_in here (expr.Var c) s) (λ k. went [] (f i j k)))) ≡ went ns rs → ThreeRead z x y p q n f rs ns
  three_read {A} {z} {a} {b} c n at here f rs ns ia ib hc run =
      let k1 = both_went (word_in at z a s) (λ i. and_then (word_in at z b s) (λ j. and_then (bool_in here (expr.Var c) s) (λ k. went [] (f i j k)))) ns rs run in
      let k2 = both_went (word_in at z b s) (λ j. and_then (bool_in here (expr.Var c) s) (λ k. went [] (f k1.value j k))) k1.second rs k1.went_on in
      let k3 = both_went (bool_in here (expr.Var c) s) (λ k. went [] (f k1.value k2.value k)) k2.second rs k2.went_on in
      let fl = flag_asked c n here k3.first k3.value hc k3.came in
      let w = went_same [] k3.second (f k1.value k2.value k3.value) rs k3.went_on in
      record {
        first = k1.first;
        second = k2.first;
        left = k1.value;
        right = k2.value;
        carry = k3.value;
        numbers = three_nil k1.first k2.first k3.first k3.second ns (k1.numbers ∙ ap (λ l. k1.first ++ l) (k2.numbers ∙ ap (λ l. k2.first ++ l) k3.numbers)) fl.0 (sym w.0);
        reads_left = word_read_in at k1.first k1.value ia k1.came;
        reads_right = word_read_in at k2.first k2.value ib k2.came;
        reads_carry = fl.1;
        results = sym w.1;
      }
