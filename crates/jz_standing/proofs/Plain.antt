-- What the laws of facts ask of terms, of typed ones.
use Rattle.std.proofs.Common.{◌≡◌, ◌⊎◌, inl, inr, ℕ, Option, Some, None, Bool, true, false, refl, ap, sym, ◌∙◌, subst, if◌then◌else◌}
use Rattle.std.specs.Prelude.{nat_lt}
use Rattle.std.specs.Option.{option_or}
use Rattle.x64_insn.specs.Size.{Size}
use Rattle.x64_insn.specs.Size.TheVariants.{S8, S64}
use Rattle.jz_tree.specs.declared.expr.BinOp.{BinOp}
use Rattle.jz_meaning.specs.declared.access.Kind.{Kind}
use Rattle.jz_meaning.specs.declared.access.Kind.TheVariants as kind
use Rattle.jz_meaning.specs.States.{Value, word, boolean, integer, Key, State}
use Rattle.jz_meaning.specs.Operators.{is_shift}
use Rattle.jz_meaning.specs.Values.{Ref, key_of, size_of, left_wanted, right_wanted}
use Rattle.jz_run_laws.specs.Kinds.{Kinds, part_of}
use Rattle.jz_terms.specs.Terms.{Term, num, truth, var, cell, load, neg, inv, cast, bin, means, size_in}
use Rattle.jz_fact_laws.specs.Facts.{Facts, Given}
use Rattle.jz_fact_laws.specs.Intervals.{size_or_64}
use Rattle.jz_fact_laws.specs.Saying.{Yields, HasSize, is_number, IsPlain, IsSized, AreSized}
use Rattle.jz_fact_laws.proofs.Fitting.{yields_all}
use Rattle.jz_standing.specs.Typing.{IsRead, sizes_of, is_computed, is_carried, IsScalar, IsArray, IsFlag, IsCount, IsWord, IsAnswer}
use Rattle.jz_standing.specs.Standing.{Stands}
use Rattle.jz_standing.proofs.Counts.{counted}
use Rattle.jz_standing.proofs.SumForms.{sum_word}
use Rattle.jz_standing.proofs.Making.{OfSize, IsTruth, computed_no_shift, compared_no_shift}
use Rattle.jz_standing.proofs.Typed.{typed, flag_typed, compared_wanted}

size_of_word : (k : Kind) (c : Option ℕ) (z : Size) → part_of k c ≡ kind.Word z → size_of k ≡ Some z
size_of_word k None z e = ap size_of e
size_of_word (kind.Array y m) (Some i) z e = by (nat_lt i m) e
  where
    by : (b : Bool) → (if b then kind.Word y else kind.Undeclared) ≡ kind.Word z → Some y ≡ Some z
    by true e = ap size_of e
    by false e = absurd cc
size_of_word (kind.Word y) (Some i) z e = absurd cc
size_of_word kind.Int (Some i) z e = absurd cc
size_of_word kind.Undeclared (Some i) z e = absurd cc
size_of_word kind.Bool (Some i) z e = absurd cc

module _ (kinds : Kinds) (in_frame : Key → Bool) where
  pub scalar_size : (x : Ref) (z : Size) → x.kind ≡ kind.Word z → IsScalar kinds in_frame x → sizes_of kinds (key_of x) ≡ Some z
  scalar_size x z e i = size_of_word (kinds x.name x.copy) x.cell z (i.declared ∙ e)

  array_size : (x : Ref) (z : Size) (n : ℕ) → IsArray kinds in_frame x z n → kinds x.name x.copy ≡ kind.Array z n
  array_size x z n i = sym (ap (part_of (kinds x.name x.copy)) i.entire) ∙ i.declared ∙ i.is

  plain_count : (t : Term) → IsCount kinds in_frame t → IsPlain (sizes_of kinds) t
  plain_count = counted kinds in_frame (λ t. IsPlain (sizes_of kinds) t) (λ n at. tt) (λ x n t at e i. (refl, tt, tt))

  pub plain_flag : (t : Term) → IsFlag kinds in_frame t → IsPlain (sizes_of kinds) t
  plain_flag (var x) i = tt
  plain_flag (num n at) i = absurd i
  plain_flag (truth b at) i = absurd i
  plain_flag (cell x j) i = absurd i
  plain_flag (load p a) i = absurd i
  plain_flag (neg a at) i = absurd i
  plain_flag (inv a at) i = absurd i
  plain_flag (cast y sign a at) i = absurd i
  plain_flag (bin op a b at) i = absurd i

  pub plain_word : (t : Term) (w : Option Size) (z : Size) → IsWord kinds in_frame w z t → IsPlain (sizes_of kinds) t
  plain_word (num n at) w z i = tt
  plain_word (truth b at) w z i = absurd i
  plain_word (var x) w z i = tt
  plain_word (cell x j) w z i = plain_word j (Some S64) S64 (sum_word kinds in_frame j i.2)
  plain_word (load p a) w z i = plain_word a (Some S64) S64 (sum_word kinds in_frame a i.1)
  plain_word (neg a at) w z i = plain_word a (option_or w (size_in a)) z i.1
  plain_word (inv a at) w z i = plain_word a (option_or w (size_in a)) z i.1
  plain_word (cast y sign a at) w z i = (plain_word a (size_in a) i.1 i.3, is_read a i.2 i.3)
    where
      is_read : (a : Term) → IsRead i.1 a → IsWord kinds in_frame (size_in a) i.1 a → IsSized (sizes_of kinds) a
      is_read (var x) r h = (i.1, ap size_of h.0, scalar_size x i.1 h.0 h.1)
      is_read (cell x j) r h = (i.1, ap size_of h.1.is, λ n. ap size_of (array_size x i.1 h.0 h.1))
      is_read (load p b) r h = (i.1, r)
      is_read (num n at) r h = absurd r
      is_read (truth b at) r h = absurd r
      is_read (neg b at) r h = absurd r
      is_read (inv b at) r h = absurd r
      is_read (cast y sign b at) r h = absurd r
      is_read (bin op b c at) r h = absurd r
  plain_word (bin op a b at) w z i = (i.1, plain_word a (left_wanted op w (size_in a) (size_in b)) z i.2, by (λ h. plain_word b (left_wanted op w (size_in a) (size_in b)) z h) i.3)
    where
      by : (IsWord kinds in_frame (left_wanted op w (size_in a) (size_in b)) z b → IsPlain (sizes_of kinds) b) → (((is_shift op ≡ true) × IsCount kinds in_frame b) ⊎ (((is_computed op ≡ true) × IsWord kinds in_frame (left_wanted op w (size_in a) (size_in b)) z b) ⊎ ((is_carried op ≡ true) × (is_number a ≡ false) × IsFlag kinds in_frame b))) → IsPlain (sizes_of kinds) b
      by f (inl c) = plain_count b c.1
      by f (inr (inl c)) = f c.1
      by f (inr (inr c)) = plain_flag b c.2

  pub plain_answer : (t : Term) → IsAnswer kinds in_frame t → IsPlain (sizes_of kinds) t
  plain_answer (truth b at) i = tt
  plain_answer (var x) i = tt
  plain_answer (inv a at) i = plain_answer a i
  plain_answer (bin op a b at) i = let v = left_wanted op None (size_in a) (size_in b) in (i.3, plain_word a v i.1 i.4, plain_word b v i.1 i.5)
  plain_answer (num n at) i = absurd i
  plain_answer (cell x j) i = absurd i
  plain_answer (load p a) i = absurd i
  plain_answer (neg a at) i = absurd i
  plain_answer (cast y sign a at) i = absurd i

has_size : (z : Size) (k : Bool) (v : Value) → OfSize z k v → HasSize z v
has_size z k (word y n) h y0 n0 e = sym (same e) ∙ h
  where
    same : {y y0 : Size} {n n0 : ℕ} → word y n ≡ word y0 n0 → y ≡ y0
    same e = cc e
has_size z k (integer j) h y0 n0 e = absurd cc
has_size z k (boolean c) h y0 n0 e = absurd cc

truth_size : (z : Size) (v : Value) → IsTruth v → HasSize z v
truth_size z (boolean c) h y0 n0 e = absurd cc
truth_size z (word y n) h y0 n0 e = absurd h
truth_size z (integer j) h y0 n0 e = absurd h

module _ (g : Given) (kinds : Kinds) (in_frame : Key → Bool) (entry : Key → ℕ) (s : Facts) (st : State) (H : Stands g kinds in_frame entry s st) where
  sized_as : (v w : Option Size) (z : Size) (t : Term) → v ≡ Some z → w ≡ v → IsWord kinds in_frame v z t → Yields (HasSize (size_or_64 v)) ((means t).run w st)
  sized_as v w z t e q i =
      subst (λ u. Yields (HasSize (size_or_64 v)) ((means t).run u st)) (sym q)
      (subst (λ u. Yields (HasSize u) ((means t).run v st)) (sym (ap size_or_64 e))
      (yields_all (OfSize z (is_number t)) (HasSize z) ((means t).run v st) (has_size z (is_number t)) (typed g kinds in_frame entry s st H t v z i)))

  right_same : (op : BinOp) (v : Option Size) → is_shift op ≡ false → right_wanted op v ≡ v
  right_same op v e = ap (λ c. if c then Some S8 else v) e

  true_false : {A : Type 0} (c : Bool) → c ≡ true → c ≡ false → A
  true_false c e f = absurd (cc (sym e ∙ f))

  sized_count : (t : Term) → IsCount kinds in_frame t → AreSized st (Some S8) t
  sized_count = counted kinds in_frame (λ t. AreSized st (Some S8) t) (λ n at. tt) (λ x n t at e i.
      (tt, tt, (λ q. sized_as (Some S8) (Some S8) S8 (var x) refl refl (e, i)), (λ q. sized_as (Some S8) (Some S8) S8 (num n t) refl refl tt)))

  sized_flag : (t : Term) (w : Option Size) → IsFlag kinds in_frame t → AreSized st w t
  sized_flag (var x) w i = tt
  sized_flag (num n at) w i = absurd i
  sized_flag (truth b at) w i = absurd i
  sized_flag (cell x j) w i = absurd i
  sized_flag (load p a) w i = absurd i
  sized_flag (neg a at) w i = absurd i
  sized_flag (inv a at) w i = absurd i
  sized_flag (cast y sign a at) w i = absurd i
  sized_flag (bin op a b at) w i = absurd i

  pub sized_word : (t : Term) (w : Option Size) (z : Size) → IsWord kinds in_frame w z t → AreSized st w t
  sized_word (num n at) w z i = tt
  sized_word (truth b at) w z i = absurd i
  sized_word (var x) w z i = tt
  sized_word (cell x j) w z i = sized_word j (Some S64) S64 (sum_word kinds in_frame j i.2)
  sized_word (load p a) w z i = sized_word a (Some S64) S64 (sum_word kinds in_frame a i.1)
  sized_word (neg a at) w z i = sized_word a (option_or w (size_in a)) z i.1
  sized_word (inv a at) w z i = sized_word a (option_or w (size_in a)) z i.1
  sized_word (cast y sign a at) w z i = sized_word a (size_in a) i.1 i.3
  sized_word (bin op a b at) w z i =
      let v = left_wanted op w (size_in a) (size_in b) in
      (sized_word a v z i.2, right (λ h. sized_word b v z h) i.3, (λ q. sized_as v v z a i.0 refl i.2), (λ q. right_size i.3 q))
    where
      right : (IsWord kinds in_frame (left_wanted op w (size_in a) (size_in b)) z b → AreSized st (left_wanted op w (size_in a) (size_in b)) b) → (((is_shift op ≡ true) × IsCount kinds in_frame b) ⊎ (((is_computed op ≡ true) × IsWord kinds in_frame (left_wanted op w (size_in a) (size_in b)) z b) ⊎ ((is_carried op ≡ true) × (is_number a ≡ false) × IsFlag kinds in_frame b))) → AreSized st (right_wanted op (left_wanted op w (size_in a) (size_in b))) b
      right f (inl c) = subst (λ u. AreSized st u b) (sym (ap (λ d. if d then Some S8 else left_wanted op w (size_in a) (size_in b)) c.0)) (sized_count b c.1)
      right f (inr (inl c)) = subst (λ u. AreSized st u b) (sym (right_same op (left_wanted op w (size_in a) (size_in b)) (computed_no_shift op c.0))) (f c.1)
      right f (inr (inr c)) = sized_flag b (right_wanted op (left_wanted op w (size_in a) (size_in b))) c.2

      right_size : (((is_shift op ≡ true) × IsCount kinds in_frame b) ⊎ (((is_computed op ≡ true) × IsWord kinds in_frame (left_wanted op w (size_in a) (size_in b)) z b) ⊎ ((is_carried op ≡ true) × (is_number a ≡ false) × IsFlag kinds in_frame b))) → is_shift op ≡ false → Yields (HasSize (size_or_64 (left_wanted op w (size_in a) (size_in b)))) ((means b).run (right_wanted op (left_wanted op w (size_in a) (size_in b))) st)
      right_size (inl c) q = true_false (is_shift op) c.0 q
      right_size (inr (inl c)) q = let v = left_wanted op w (size_in a) (size_in b) in sized_as v (right_wanted op v) z b i.0 (right_same op v q) c.1
      right_size (inr (inr c)) q = let v = left_wanted op w (size_in a) (size_in b) in yields_all IsTruth (HasSize (size_or_64 v)) ((means b).run (right_wanted op v) st) (truth_size (size_or_64 v)) (flag_typed g kinds in_frame entry s st H b (right_wanted op v) c.2)

  pub sized_answer : (t : Term) (w : Option Size) → IsAnswer kinds in_frame t → AreSized st w t
  sized_answer (truth b at) w i = tt
  sized_answer (var x) w i = tt
  sized_answer (inv a at) w i = sized_answer a (option_or w (size_in a)) i
  sized_answer (bin op a b at) w i = subst (λ (v : Option Size). AreSized st v a × AreSized st (right_wanted op v) b × (is_shift op ≡ false → Yields (HasSize (size_or_64 v)) ((means a).run v st)) × (is_shift op ≡ false → Yields (HasSize (size_or_64 v)) ((means b).run (right_wanted op v) st))) (compared_wanted op w (size_in a) (size_in b) i.0) (
      let v = left_wanted op None (size_in a) (size_in b) in
      let q = right_same op v (compared_no_shift op i.0) in
      (sized_word a v i.1 i.4, subst (λ u. AreSized st u b) (sym q) (sized_word b v i.1 i.5), (λ e. sized_as v v i.1 a i.2 refl i.4), (λ e. sized_as v (right_wanted op v) i.1 b i.2 q i.5)))
  sized_answer (num n at) w i = absurd i
  sized_answer (cell x j) w i = absurd i
  sized_answer (load p a) w i = absurd i
  sized_answer (neg a at) w i = absurd i
  sized_answer (cast y sign a at) w i = absurd i
