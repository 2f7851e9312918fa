-- What typed terms give: words of their size, and answers.
use Rattle.std.proofs.Common.{◌≡◌, ◌⊎◌, inl, inr, ℕ, [], Option, Some, None, Bool, true, false, refl, ap, sym, ◌∙◌, subst, if◌then◌else◌, ℤ}
use Rattle.std.specs.Prelude.{◌&&◌, ◌||◌}
use Rattle.std.specs.Option.{option_or}
use Rattle.jz_tree.specs.Span.{Span}
use Rattle.x64_insn.specs.Size.{Size}
use Rattle.x64_insn.specs.Size.TheVariants.{S8, S64}
use Rattle.x64_insn.specs.Sizes.{bytes_of}
use Rattle.x64_insn.specs.Memory.{loaded}
use Rattle.jz_tree.specs.declared.expr.BinOp.{BinOp}
use Rattle.jz_tree.specs.declared.expr.BinOp.TheVariants as o
use Rattle.jz_runs.specs.Rules.{stuck, went}
use Rattle.jz_meaning.specs.declared.access.Kind.TheVariants as kind
use Rattle.jz_meaning.specs.Attempts.{Evaluation, and_then, defined}
use Rattle.jz_meaning.specs.States.{Value, word, boolean, integer, Key, State}
use Rattle.jz_meaning.specs.Operators.{binary, is_shift, is_settled, negated, inverted, cast as cast_value}
use Rattle.jz_meaning.specs.Values.{Ref, key_of, cell_key, left_wanted, right_wanted, with_right, index_at, cell_value, load_at, load_word, address_at, accessed}
use Rattle.jz_run_laws.specs.Kinds.{Kinds, IsOfKind}
use Rattle.jz_terms.specs.Terms.{Term, num, truth, var, cell, load, neg, inv, cast, bin, means, size_in}
use Rattle.jz_fact_laws.specs.Facts.{Facts, Given}
use Rattle.jz_fact_laws.specs.Saying.{Yields, is_number}
use Rattle.jz_fact_laws.proofs.Fitting.{yields_then, yields_defined, yields_if, yields_all}
use Rattle.jz_standing.specs.Typing.{IsRead, is_computed, is_compared, is_carried, IsScalar, IsFlag, IsCount, IsWord, IsAnswer}
use Rattle.jz_standing.specs.Standing.{Stands}
use Rattle.jz_standing.proofs.Held.{scalar_holds, cell_holds}
use Rattle.jz_standing.proofs.Counts.{counted}
use Rattle.jz_standing.proofs.Making.{Made, OfSize, IsTruth, OfCount, settles_not, binary_word, binary_flag, binary_answer, binary_shift, negated_made, inverted_made, inverted_truth, cast_made, carried_computed, computed_no_shift, compared_no_shift}

pub made_yields : {A : Type 0} (Q : A → Type 0) (e : Evaluation A) → Made Q e → Yields Q e
made_yields Q (stuck k) h = tt
made_yields Q (went ns x) h = h

pub any_yields : {A : Type 0} (e : Evaluation A) → Yields (λ v. Unit {0}) e
any_yields (stuck w) = tt
any_yields (went ns v) = tt

word_kind : (z : Size) (k : Bool) (v : Value) → IsOfKind (kind.Word z) v → OfSize z k v
word_kind z k (word y n) h = h.0
word_kind z k (integer j) h = absurd h
word_kind z k (boolean c) h = absurd h

bool_kind : (v : Value) → IsOfKind kind.Bool v → IsTruth v
bool_kind (boolean c) h = tt
bool_kind (word y n) h = absurd h
bool_kind (integer j) h = absurd h

pub no_number : (z : Size) (k : Bool) (v : Value) → k ≡ false → OfSize z k v → OfSize z false v
no_number z k (word y n) e h = h
no_number z k (integer j) e h = absurd (cc (sym h ∙ e))
no_number z k (boolean c) e h = h

-- of what is no number, whatever k says
pub as_word : (z : Size) (k : Bool) (v : Value) → OfSize z false v → OfSize z k v
as_word z k (word y n) h = h
as_word z k (integer j) h = absurd (cc h)
as_word z k (boolean c) h = h

either_false : (k l : Bool) → (k && l) ≡ false → (k && l) ≡ false
either_false k l e = e

-- a load has the size that is known of it
loaded_size : (at : Span) (u : Bool) (y : Option Size) (z : Size) (a : ℕ) (st : State) → y ≡ Some z → Yields (OfSize z false) (load_word at u y a st.memory)
loaded_size at u None z a st e = absurd (cc e)
loaded_size at u (Some y) z a st e =
    yields_then (λ b. Unit {0}) (OfSize z false) (accessed at u y a (loaded st.memory a (bytes_of y))) (λ b. went [] (word y b)) (any_yields _) (λ b t. same e)
  where
    same : Some y ≡ Some z → y ≡ z
    same e = cc e

-- of a comparison the same is wanted of its operands whatever is wanted of it
pub compared_wanted : (op : BinOp) (w : Option Size) (a b : Option Size) → is_compared op ≡ true → left_wanted op None a b ≡ left_wanted op w a b
compared_wanted o.OrElse w a b h = absurd (cc h)
compared_wanted o.AndThen w a b h = absurd (cc h)
compared_wanted o.Or w a b h = absurd (cc h)
compared_wanted o.Xor w a b h = absurd (cc h)
compared_wanted o.And w a b h = absurd (cc h)
compared_wanted o.Eq w a b h = refl
compared_wanted o.Ne w a b h = refl
compared_wanted o.Lt w a b h = refl
compared_wanted o.Le w a b h = refl
compared_wanted o.Gt w a b h = refl
compared_wanted o.Ge w a b h = refl
compared_wanted o.LtS w a b h = refl
compared_wanted o.LeS w a b h = refl
compared_wanted o.GtS w a b h = refl
compared_wanted o.GeS w a b h = refl
compared_wanted o.Shl w a b h = absurd (cc h)
compared_wanted o.Shr w a b h = absurd (cc h)
compared_wanted o.Sar w a b h = absurd (cc h)
compared_wanted o.Rol w a b h = absurd (cc h)
compared_wanted o.Ror w a b h = absurd (cc h)
compared_wanted o.Add w a b h = absurd (cc h)
compared_wanted o.Sub w a b h = absurd (cc h)
compared_wanted o.Mul w a b h = absurd (cc h)
compared_wanted o.Div w a b h = absurd (cc h)
compared_wanted o.Rem w a b h = absurd (cc h)
compared_wanted o.DivS w a b h = absurd (cc h)
compared_wanted o.RemS w a b h = absurd (cc h)

module _ (g : Given) (kinds : Kinds) (in_frame : Key → Bool) (entry : Key → ℕ) (s : Facts) (st : State) (H : Stands g kinds in_frame entry s st) where
  abbrev pub Here : Option Size → Term → Evaluation Value
  Here w t = (means t).run w st

  -- the right operand, unless the left one settles
  pub right_then : (op : BinOp) (Q P : Value → Type 0) (b : Term) (at : Span) (v : Option Size) (x : Value)
      → (is_computed op || (is_compared op || is_shift op)) ≡ true
      → Yields P (Here (right_wanted op v) b)
      → ((y : Value) → P y → Yields Q (binary op at v x y))
      → Yields Q (with_right op (means b).run at v st x)
  right_then op Q P b at v x c hr h = yields_if Q (is_settled op x) (went [] x) _ (λ e. absurd (settles_not op x e c)) (λ e. yields_then P Q (Here (right_wanted op v) b) (λ y. binary op at v x y) hr h)

  pub or_first : (a b : Bool) → a ≡ true → (a || b) ≡ true
  or_first true b e = refl
  or_first false b e = absurd (cc e)

  pub or_second : (a b c : Bool) → b ≡ true → (a || (b || c)) ≡ true
  or_second true b c e = refl
  or_second false true c e = refl
  or_second false false c e = absurd (cc e)

  pub or_third : (a b c : Bool) → c ≡ true → (a || (b || c)) ≡ true
  or_third true b c e = refl
  or_third false true c e = refl
  or_third false false c e = e

  pub flag_typed : (t : Term) (w : Option Size) → IsFlag kinds in_frame t → Yields IsTruth (Here w t)
  flag_typed (var x) w i = yields_defined IsTruth x.span (st.store (key_of x)) (λ v e. bool_kind v (subst (λ k. IsOfKind k v) i.0 (scalar_holds g kinds in_frame entry s st H x i.1 v e)))
  flag_typed (num n at) w i = absurd i
  flag_typed (truth b at) w i = absurd i
  flag_typed (cell x j) w i = absurd i
  flag_typed (load p a) w i = absurd i
  flag_typed (neg a at) w i = absurd i
  flag_typed (inv a at) w i = absurd i
  flag_typed (cast y sign a at) w i = absurd i
  flag_typed (bin op a b at) w i = absurd i

  pub var_typed : (x : Ref) (z : Size) (k : Bool) → x.kind ≡ kind.Word z → IsScalar kinds in_frame x → Yields (OfSize z k) (defined x.span (st.store (key_of x)))
  var_typed x z k e i = yields_defined (OfSize z k) x.span (st.store (key_of x)) (λ v q. word_kind z k v (subst (λ d. IsOfKind d v) e (scalar_holds g kinds in_frame entry s st H x i v q)))

  masked_byte : (x : Ref) (n : ℤ) (t at : Span) → x.kind ≡ kind.Word S8 → IsScalar kinds in_frame x → Yields (OfCount false) (Here (Some S8) (bin o.And (var x) (num n t) at))
  masked_byte x n t at e i =
      yields_then (OfSize S8 false) (OfCount false) (defined x.span (st.store (key_of x))) (with_right o.And (means (num n t)).run at (Some S8) st) (var_typed x S8 false e i) (λ v h.
      right_then o.And (OfCount false) (λ y. y ≡ integer n) (num n t) at (Some S8) v refl refl (λ y q.
      subst (λ y. Yields (OfCount false) (binary o.And at (Some S8) v y)) (sym q)
      (yields_all (OfSize S8 false) (OfCount false) (binary o.And at (Some S8) v (integer n)) (λ y q. counts y q) (made_yields (OfSize S8 false) (binary o.And at (Some S8) v (integer n)) (binary_word o.And refl at (Some S8) S8 false true v (integer n) refl h refl)))))
    where
      counts : (y : Value) → OfSize S8 false y → OfCount false y
      counts (word u n) q = tt
      counts (integer j) q = absurd (cc q)
      counts (boolean c) q = absurd q

  pub count_typed : (t : Term) → IsCount kinds in_frame t → Yields (OfCount (is_number t)) (Here (Some S8) t)
  count_typed = counted kinds in_frame (λ t. Yields (OfCount (is_number t)) (Here (Some S8) t)) (λ n at. refl) masked_byte

  -- a word of its size, or a number
  pub typed : (t : Term) (w : Option Size) (z : Size) → IsWord kinds in_frame w z t → Yields (OfSize z (is_number t)) (Here w t)
  typed (num n at) w z i = refl
  typed (truth b at) w z i = absurd i
  typed (var x) w z i = var_typed x z false i.0 i.1
  typed (cell x j) w z i =
      yields_then (λ v. Unit {0}) (OfSize z false) (Here (Some S64) j) (λ v. cell_value x v st.store) (any_yields _) (λ v t.
      yields_then (λ v. Unit {0}) (OfSize z false) (index_at x v) (λ n. defined x.span (st.store (cell_key x n))) (any_yields _) (λ n u.
      yields_defined (OfSize z false) x.span (st.store (cell_key x n)) (λ v e. word_kind z false v (cell_holds g kinds in_frame entry s st H x z i.0 i.1 n v e))))
  typed (load p a) w z i =
      yields_then (λ v. Unit {0}) (OfSize z false) (Here (Some S64) a) (λ v. load_at (record { size = p.size; at = (means a).run (Some S64); unaligned = p.unaligned; span = p.span }) w v st.memory) (any_yields _) (λ v t.
      yields_then (λ v. Unit {0}) (OfSize z false) (address_at (record { size = p.size; at = (means a).run (Some S64); unaligned = p.unaligned; span = p.span }) v) (λ n. load_word p.span p.unaligned (option_or p.size w) n st.memory) (any_yields _) (λ n u.
      loaded_size p.span p.unaligned (option_or p.size w) z n st i.0))
  typed (neg a at) w z i =
      yields_then (OfSize z (is_number a)) (OfSize z (is_number a)) (Here (option_or w (size_in a)) a) (λ v. defined at (negated v)) (typed a (option_or w (size_in a)) z i.1) (λ v h.
      yields_all (OfSize z false) (OfSize z (is_number a)) (defined at (negated v)) (λ y q. as_word z (is_number a) y q) (made_yields (OfSize z false) (defined at (negated v)) (negated_made at z v (no_number z (is_number a) v i.0 h))))
  typed (inv a at) w z i =
      yields_then (OfSize z (is_number a)) (OfSize z (is_number a)) (Here (option_or w (size_in a)) a) (λ v. went [] (inverted v)) (typed a (option_or w (size_in a)) z i.1) (λ v h.
      as_word z (is_number a) (inverted v) (inverted_made z v (no_number z (is_number a) v i.0 h)))
  typed (cast y sign a at) w z i =
      yields_then (OfSize i.1 (is_number a)) (OfSize z false) (Here (size_in a) a) (λ v. defined at (cast_value y sign v)) (typed a (size_in a) i.1 i.3) (λ v h.
      made_yields (OfSize z false) (defined at (cast_value y sign v)) (subst (λ q. Made (OfSize q false) (defined at (cast_value y sign v))) i.0 (cast_made at i.1 y sign v (no_number i.1 (is_number a) v (read_no_number i.1 a i.2) h))))
    where
      read_no_number : (u : Size) (a : Term) → IsRead u a → is_number a ≡ false
      read_no_number u (var x) r = refl
      read_no_number u (cell x j) r = refl
      read_no_number u (load p b) r = refl
      read_no_number u (num n at) r = absurd r
      read_no_number u (truth b at) r = absurd r
      read_no_number u (neg b at) r = absurd r
      read_no_number u (inv b at) r = absurd r
      read_no_number u (cast y sign b at) r = absurd r
      read_no_number u (bin op b c at) r = absurd r
  typed (bin op a b at) w z i =
      let v = left_wanted op w (size_in a) (size_in b) in
      yields_then (OfSize z (is_number a)) (OfSize z (is_number a && is_number b)) (Here v a) (with_right op (means b).run at v st) (typed a v z i.2) (λ x h.
      yields_all (OfSize z false) (OfSize z (is_number a && is_number b)) (with_right op (means b).run at v st x) (λ y q. as_word z (is_number a && is_number b) y q) (on_right v (λ k. typed b v z k) i.0 x h i.3))
    where
      on_right : (v : Option Size) → (IsWord kinds in_frame v z b → Yields (OfSize z (is_number b)) (Here v b)) → v ≡ Some z → (x : Value) → OfSize z (is_number a) x
          → (((is_shift op ≡ true) × IsCount kinds in_frame b) ⊎ (((is_computed op ≡ true) × IsWord kinds in_frame v z b) ⊎ ((is_carried op ≡ true) × (is_number a ≡ false) × IsFlag kinds in_frame b)))
          → Yields (OfSize z false) (with_right op (means b).run at v st x)
      on_right v f e x h (inl c) =
          right_then op (OfSize z false) (OfCount (is_number b)) b at v x (or_third (is_computed op) (is_compared op) (is_shift op) c.0)
          (subst (λ u. Yields (OfCount (is_number b)) (Here u b)) (sym (ap (λ d. if d then Some S8 else v) c.0)) (count_typed b c.1))
          (λ y q. made_yields (OfSize z false) (binary op at v x y) (binary_shift op c.0 at v z (is_number a) (is_number b) x y e i.1 h q))
      on_right v f e x h (inr (inl c)) =
          right_then op (OfSize z false) (OfSize z (is_number b)) b at v x (or_first (is_computed op) (is_compared op || is_shift op) c.0)
          (subst (λ u. Yields (OfSize z (is_number b)) (Here u b)) (sym (ap (λ d. if d then Some S8 else v) (computed_no_shift op c.0))) (f c.1))
          (λ y q. made_yields (OfSize z false) (binary op at v x y) (binary_word op c.0 at v z (is_number a) (is_number b) x y i.1 h q))
      on_right v f e x h (inr (inr c)) =
          right_then op (OfSize z false) IsTruth b at v x (or_first (is_computed op) (is_compared op || is_shift op) (carried_computed op c.0))
          (flag_typed b (right_wanted op v) c.2)
          (λ y q. made_yields (OfSize z false) (binary op at v x y) (binary_flag op c.0 at v z x y (no_number z (is_number a) x c.1 h) q))

  -- an answer
  pub answered : (t : Term) (w : Option Size) → IsAnswer kinds in_frame t → Yields IsTruth (Here w t)
  answered (truth b at) w i = tt
  answered (var x) w i = flag_typed (var x) w i
  answered (inv a at) w i = yields_then IsTruth IsTruth (Here (option_or w (size_in a)) a) (λ v. went [] (inverted v)) (answered a (option_or w (size_in a)) i) (λ v h. inverted_truth v h)
  answered (bin op a b at) w i = subst (λ v. Yields IsTruth (and_then (Here v a) (with_right op (means b).run at v st))) (compared_wanted op w (size_in a) (size_in b) i.0) (
      let v = left_wanted op None (size_in a) (size_in b) in
      yields_then (OfSize i.1 (is_number a)) IsTruth (Here v a) (with_right op (means b).run at v st) (typed a v i.1 i.4) (λ x h.
      right_then op IsTruth (OfSize i.1 (is_number b)) b at v x (or_second (is_computed op) (is_compared op) (is_shift op) i.0)
      (subst (λ u. Yields (OfSize i.1 (is_number b)) (Here u b)) (sym (ap (λ d. if d then Some S8 else v) (compared_no_shift op i.0))) (typed b v i.1 i.5))
      (λ y q. made_yields IsTruth (binary op at v x y) (binary_answer op i.0 at v i.1 (is_number a) (is_number b) x y i.3 h q))))
  answered (num n at) w i = absurd i
  answered (cell x j) w i = absurd i
  answered (load p a) w i = absurd i
  answered (neg a at) w i = absurd i
  answered (cast y sign a at) w i = absurd i
