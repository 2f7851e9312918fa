-- What is public of an expression is the same in states that agree; and where what it asks is public
-- it leaks the same.
use Rattle.std.proofs.Common.{◌≡◌, ℕ, Bool, true, false, List, [], ◌∷◌, Option, Some, None, refl, sym, ap, subst, ◌∙◌, if◌then◌else◌}
use Rattle.std.specs.Prelude.{◌||◌}
use Rattle.std.specs.Option.{option_or}
use Rattle.jz_tree.specs.Span.{Span}
use Rattle.x64_insn.specs.Size.{Size}
use Rattle.x64_insn.specs.Size.TheVariants.{S64}
use Rattle.x64_insn.specs.Sizes.{bytes_of}
use Rattle.x64_insn.specs.Memory.{Memory, loaded}
use Rattle.jz_tree.specs.Operators.{joins, divides}
use Rattle.jz_tree.specs.declared.expr.BinOp.{BinOp}
use Rattle.jz_runs.specs.Rules.{stuck, went}
use Rattle.jz_meaning.specs.declared.value.Why.TheVariants.{Align}
use Rattle.jz_meaning.specs.Attempts.{Evaluation, stuck_at, and_then, defined}
use Rattle.jz_meaning.specs.States.{Value, word, Key, Store, State}
use Rattle.jz_meaning.specs.Operators.{is_settled, binary, negated, inverted, cast as cast_of}
use Rattle.jz_meaning.specs.Values.{Ref, key_of, cell_key, index_at, cell_value, MemoryAccess, is_aligned, accessed, load_word, address_at, load_at, left_wanted, right_wanted, with_right}
use Rattle.jz_terms.specs.Terms.{Spot, Term, num, truth, var, cell, load, neg, inv, cast, bin, means, size_in}
use Rattle.jz_labels.specs.Labels.{Publics, Secret, first, unless_public, secret_in}
use Rattle.jz_labels.specs.Required.{Breach, Reason, Address, Divide, breach_at, breach_in_place, breach_of, breach_in}
use Rattle.jz_equal_leaks.specs.TwoRuns.{BothGive}
use Rattle.jz_equal_leaks.specs.Fixed.{whole, IsSilent, IsArray, IsFixed}
use Rattle.jz_equal_leaks.specs.Agreeing.{Agree}
use Rattle.jz_equal_leaks.proofs.Parts.{Any, less_give, itself, equal_give, then_give, both_same, Silent, silent_give, silent_defined, silent_then, silent_binary, not_settled}

-- ---- nothing is secret, no breach

pub first_none : {A : Type 0} (x y : Option A) → first x y ≡ None → (x ≡ None) × (y ≡ None)
first_none None y e = (refl, e)
first_none (Some v) y e = absurd (cc e)

pub public_so : (c : Bool) (x : Ref) → unless_public c x ≡ None → c ≡ true
public_so true x e = refl
public_so false x e = absurd (cc e)

pub no_secret : (at : Span) (why : Reason) (x : Option Secret) → breach_at at why x ≡ None → x ≡ None
no_secret at why None e = refl
no_secret at why (Some v) e = absurd (cc e)

no_operand : (d : Bool) (at : Span) (x : Option Secret) → (if d then breach_at at Divide x else None) ≡ None → d ≡ true → x ≡ None
no_operand true at x e h = no_secret at Divide x e
no_operand false at x e h = absurd (cc h)

-- ---- accesses to memory leak their address

access_if : (c : Bool) (at : Span) (n : ℕ) (x y : ℕ) → BothGive (Any {A = ℕ}) (if c then went (n ∷ []) x else stuck_at at Align) (if c then went (n ∷ []) y else stuck_at at Align)
access_if true at n x y = (refl, tt)
access_if false at n x y = tt

access_give : (at : Span) (u : Bool) (z : Size) (n : ℕ) (x y : Option ℕ) → BothGive (Any {A = ℕ}) (accessed at u z n x) (accessed at u z n y)
access_give at u z n None None = tt
access_give at u z n None (Some y) = one (u || is_aligned z n)
  where
    one : (c : Bool) → BothGive (Any {A = ℕ}) (accessed at u z n None) (if c then went (n ∷ []) y else stuck_at at Align)
    one true = tt
    one false = tt
access_give at u z n (Some x) None = one (u || is_aligned z n)
  where
    one : (c : Bool) → BothGive (Any {A = ℕ}) (if c then went (n ∷ []) x else stuck_at at Align) (accessed at u z n None)
    one true = tt
    one false = tt
access_give at u z n (Some x) (Some y) = access_if (u || is_aligned z n) at n x y

word_give : (at : Span) (u : Bool) (o : Option Size) (n : ℕ) (m k : Memory) → BothGive (Any {A = Value}) (load_word at u o n m) (load_word at u o n k)
word_give at u None n m k = tt
word_give at u (Some z) n m k =
    then_give (Any {A = ℕ}) (Any {A = Value}) (accessed at u z n (loaded m n (bytes_of z))) (accessed at u z n (loaded k n (bytes_of z))) (λ b. went [] (word z b)) (λ b. went [] (word z b))
    (access_give at u z n (loaded m n (bytes_of z)) (loaded k n (bytes_of z))) (λ x y h. (refl, tt))

load_give : (p : MemoryAccess) (w : Option Size) (v : Value) (m k : Memory) → BothGive (Any {A = Value}) (load_at p w v m) (load_at p w v k)
load_give p w v m k =
    then_give (λ x y. x ≡ y) (Any {A = Value}) (address_at p v) (address_at p v) _ _ (itself (λ x y. x ≡ y) (address_at p v) (λ x. refl))
    (λ x y h. subst (λ (q : ℕ). BothGive (Any {A = Value}) (load_word p.span p.unaligned (option_or p.size w) x m) (load_word p.span p.unaligned (option_or p.size w) q k)) h (word_give p.span p.unaligned (option_or p.size w) x m k))

cells_give : (x : Ref) (v : Value) (a b : Store) → BothGive (Any {A = Value}) (cell_value x v a) (cell_value x v b)
cells_give x v a b =
    then_give (λ i j. i ≡ j) (Any {A = Value}) (index_at x v) (index_at x v) _ _ (itself (λ i j. i ≡ j) (index_at x v) (λ i. refl))
    (λ i j h. silent_give (defined x.span (a (cell_key x i))) (defined x.span (b (cell_key x j))) (silent_defined x.span (a (cell_key x i))) (silent_defined x.span (b (cell_key x j))))

-- ---- what has neither an access nor a division

silent_right : (c : Bool) (x : Value) (e : Evaluation Value) → Silent e → Silent (if c then went [] x else e)
silent_right true x e h = refl
silent_right false x e h = h

pub silent_term : (t : Term) → IsSilent t → (w : Option Size) (st : State) → Silent ((means t).run w st)
silent_term (num i at) h w st = refl
silent_term (truth b at) h w st = refl
silent_term (var x) h w st = silent_defined x.span (st.store (key_of x))
silent_term (cell x i) h w st = absurd h
silent_term (load p a) h w st = absurd h
silent_term (neg a at) h w st = silent_then ((means a).run (option_or w (size_in a)) st) (λ v. defined at (negated v)) (silent_term a h (option_or w (size_in a)) st) (λ v. silent_defined at (negated v))
silent_term (inv a at) h w st = silent_then ((means a).run (option_or w (size_in a)) st) (λ v. went [] (inverted v)) (silent_term a h (option_or w (size_in a)) st) (λ v. refl)
silent_term (cast z sign a at) h w st = silent_then ((means a).run (size_in a) st) (λ v. defined at (cast_of z sign v)) (silent_term a h (size_in a) st) (λ v. silent_defined at (cast_of z sign v))
silent_term (bin op a b at) h w st =
    let v = left_wanted op w (size_in a) (size_in b) in
    silent_then ((means a).run v st) (with_right op (means b).run at v st) (silent_term a h.1 v st)
    (λ x. silent_right (is_settled op x) x (and_then ((means b).run (right_wanted op v) st) (λ y. binary op at v x y)) (silent_then ((means b).run (right_wanted op v) st) (λ y. binary op at v x y) (silent_term b h.2 (right_wanted op v) st) (λ y. silent_binary op at v x y h.0)))

module _ (in_frame : Key → Bool) (arrays s : Publics) (a b : State) (g : Agree in_frame arrays s a b) where
  -- the cells of a public array
  array_cells : (x : Ref) → IsArray in_frame x → arrays (key_of x) ≡ true → (n : ℕ) → a.store (cell_key x n) ≡ b.store (cell_key x n)
  array_cells x h e n =
      let k : key_of x ≡ whole (key_of x) = ap (λ (c : Option ℕ). record { name = x.name; copy = x.copy; cell = c }) h.1 in
      g.cells (cell_key x n) h.0 (ap arrays (sym k) ∙ e)

  right_same : (c : Bool) (x : Value) (e f : Evaluation Value) → e ≡ f → (if c then went [] x else e) ≡ (if c then went [] x else f)
  right_same true x e f h = refl
  right_same false x e f h = h

  -- what is public is the same
  pub term_same : (t : Term) → IsFixed in_frame t → secret_in arrays s t ≡ None → (w : Option Size) → (means t).run w a ≡ (means t).run w b
  term_same (num i at) f e w = refl
  term_same (truth c at) f e w = refl
  term_same (var x) f e w = ap (defined x.span) (g.scalars (key_of x) f (public_so (s (key_of x)) x e))
  term_same (cell x i) f e w =
      let p = first_none (unless_public (arrays (key_of x)) x) (secret_in arrays s i) e in
      both_same ((means i).run (Some S64) a) ((means i).run (Some S64) b) (λ v. cell_value x v a.store) (λ v. cell_value x v b.store) (term_same i f.1 p.1 (Some S64))
      (λ v. both_same (index_at x v) (index_at x v) (λ n. defined x.span (a.store (cell_key x n))) (λ n. defined x.span (b.store (cell_key x n))) refl (λ n. ap (defined x.span) (array_cells x f.0 (public_so (arrays (key_of x)) x p.0) n)))
  term_same (load p i) f e w = absurd (cc e)
  term_same (neg t at) f e w = ap (λ (d : Evaluation Value). and_then d (λ v. defined at (negated v))) (term_same t f e (option_or w (size_in t)))
  term_same (inv t at) f e w = ap (λ (d : Evaluation Value). and_then d (λ v. went [] (inverted v))) (term_same t f e (option_or w (size_in t)))
  term_same (cast z sign t at) f e w = ap (λ (d : Evaluation Value). and_then d (λ v. defined at (cast_of z sign v))) (term_same t f e (size_in t))
  term_same (bin op t u at) f e w =
      let p = first_none (secret_in arrays s t) (secret_in arrays s u) e in
      let v = left_wanted op w (size_in t) (size_in u) in
      both_same ((means t).run v a) ((means t).run v b) (with_right op (means u).run at v a) (with_right op (means u).run at v b) (term_same t f.0 p.0 v)
      (λ x. right_same (is_settled op x) x (and_then ((means u).run (right_wanted op v) a) (λ y. binary op at v x y)) (and_then ((means u).run (right_wanted op v) b) (λ y. binary op at v x y))
      (ap (λ (d : Evaluation Value). and_then d (λ y. binary op at v x y)) (term_same u f.1 p.1 (right_wanted op v))))

  -- an index or an address that is public
  at_place : (t : Term) → IsFixed in_frame t → secret_in arrays s t ≡ None → (f h : Value → Evaluation Value) → ((v : Value) → BothGive (Any {A = Value}) (f v) (h v)) → BothGive (Any {A = Value}) (and_then ((means t).run (Some S64) a) f) (and_then ((means t).run (Some S64) b) h)
  at_place t i e f h go =
      then_give (λ (x y : Value). x ≡ y) (Any {A = Value}) ((means t).run (Some S64) a) ((means t).run (Some S64) b) f h
      (equal_give (λ (x y : Value). x ≡ y) ((means t).run (Some S64) a) ((means t).run (Some S64) b) (term_same t i e (Some S64)) (λ x. refl))
      (λ x y r. subst (λ (q : Value). BothGive (Any {A = Value}) (f x) (h q)) r (go x))

  -- one operand
  over : (t : Term) (w : Option Size) (f : Value → Evaluation Value) → ((v : Value) → Silent (f v)) → BothGive (Any {A = Value}) ((means t).run w a) ((means t).run w b) → BothGive (Any {A = Value}) (and_then ((means t).run w a) f) (and_then ((means t).run w b) f)
  over t w f h go = then_give (Any {A = Value}) (Any {A = Value}) ((means t).run w a) ((means t).run w b) f f go (λ x y r. silent_give (f x) (f y) (h x) (h y))

  module _ (op : BinOp) (t u : Term) (at : Span) (f : IsFixed in_frame (bin op t u at)) where
    -- behind the left operand
    right_give : (j : Bool) → joins op ≡ j → divides op ≡ false → (w : Option Size) (x y : Value) → BothGive (Any {A = Value}) ((means u).run (right_wanted op w) a) ((means u).run (right_wanted op w) b) → BothGive (Any {A = Value}) (with_right op (means u).run at w a x) (with_right op (means u).run at w b y)
    right_give true e d w x y go = silent_give (with_right op (means u).run at w a x) (with_right op (means u).run at w b y) (quiet a x) (quiet b y)
      where
        quiet : (st : State) (v : Value) → Silent (with_right op (means u).run at w st v)
        quiet st v =
            silent_right (is_settled op v) v (and_then ((means u).run (right_wanted op w) st) (λ q. binary op at w v q))
            (silent_then ((means u).run (right_wanted op w) st) (λ q. binary op at w v q) (silent_term u (f.2 e) (right_wanted op w) st) (λ q. silent_binary op at w v q d))
    right_give false e d w x y go =
        subst (λ (c : Bool). BothGive (Any {A = Value}) (if c then went [] x else and_then ((means u).run (right_wanted op w) a) (binary op at w x)) (with_right op (means u).run at w b y)) (sym (not_settled op x e))
        (subst (λ (c : Bool). BothGive (Any {A = Value}) (and_then ((means u).run (right_wanted op w) a) (binary op at w x)) (if c then went [] y else and_then ((means u).run (right_wanted op w) b) (binary op at w y))) (sym (not_settled op y e))
        (then_give (Any {A = Value}) (Any {A = Value}) ((means u).run (right_wanted op w) a) ((means u).run (right_wanted op w) b) (binary op at w x) (binary op at w y) go
        (λ p q r. silent_give (binary op at w x p) (binary op at w y q) (silent_binary op at w x p d) (silent_binary op at w y q d))))

    two_give : (d : Bool) → divides op ≡ d → breach_of arrays s op t u at ≡ None → (w : Option Size)
        → ((v : Option Size) → BothGive (Any {A = Value}) ((means t).run v a) ((means t).run v b)) → ((v : Option Size) → BothGive (Any {A = Value}) ((means u).run v a) ((means u).run v b))
        → BothGive (Any {A = Value}) ((means (bin op t u at)).run w a) ((means (bin op t u at)).run w b)
    two_give true d e w left right =
        equal_give (Any {A = Value}) ((means (bin op t u at)).run w a) ((means (bin op t u at)).run w b) (term_same (bin op t u at) f (no_operand (divides op) at (first (secret_in arrays s t) (secret_in arrays s u)) e d) w) (λ x. tt)
    two_give false d e w left right =
        let v = left_wanted op w (size_in t) (size_in u) in
        then_give (Any {A = Value}) (Any {A = Value}) ((means t).run v a) ((means t).run v b) (with_right op (means u).run at v a) (with_right op (means u).run at v b) (left v) (λ x y r. right_give (joins op) refl d v x y (right (right_wanted op v)))

  -- it leaks the same
  pub term_gives : (t : Term) → IsFixed in_frame t → breach_in arrays s t ≡ None → (w : Option Size) → BothGive (Any {A = Value}) ((means t).run w a) ((means t).run w b)
  term_gives (num i at) f e w = (refl, tt)
  term_gives (truth c at) f e w = (refl, tt)
  term_gives (var x) f e w = silent_give (defined x.span (a.store (key_of x))) (defined x.span (b.store (key_of x))) (silent_defined x.span (a.store (key_of x))) (silent_defined x.span (b.store (key_of x)))
  term_gives (cell x i) f e w =
      let p = first_none (breach_in arrays s i) (breach_in_place arrays s x.span i) e in
      at_place i f.1 (no_secret x.span Address (secret_in arrays s i) p.1) (λ v. cell_value x v a.store) (λ v. cell_value x v b.store) (λ v. cells_give x v a.store b.store)
  term_gives (load p i) f e w =
      let q = first_none (breach_in arrays s i) (breach_in_place arrays s p.span i) e in
      let m : MemoryAccess = record { size = p.size; at = (means i).run (Some S64); unaligned = p.unaligned; span = p.span } in
      at_place i f (no_secret p.span Address (secret_in arrays s i) q.1) (λ v. load_at m w v a.memory) (λ v. load_at m w v b.memory) (λ v. load_give m w v a.memory b.memory)
  term_gives (neg t at) f e w = over t (option_or w (size_in t)) (λ v. defined at (negated v)) (λ v. silent_defined at (negated v)) (term_gives t f e (option_or w (size_in t)))
  term_gives (inv t at) f e w = over t (option_or w (size_in t)) (λ v. went [] (inverted v)) (λ v. refl) (term_gives t f e (option_or w (size_in t)))
  term_gives (cast z sign t at) f e w = over t (size_in t) (λ v. defined at (cast_of z sign v)) (λ v. silent_defined at (cast_of z sign v)) (term_gives t f e (size_in t))
  term_gives (bin op t u at) f e w =
      let p = first_none (breach_in arrays s t) (first (breach_in arrays s u) (breach_of arrays s op t u at)) e in
      let q = first_none (breach_in arrays s u) (breach_of arrays s op t u at) p.1 in
      two_give op t u at f (divides op) refl q.1 w (λ v. term_gives t f.0 p.0 v) (λ v. term_gives u f.1 q.0 v)
