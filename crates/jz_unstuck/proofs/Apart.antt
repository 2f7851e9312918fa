-- What a test adds is of scalars; so where a run stands before a test it stands behind it.
use Rattle.std.proofs.Common.{◌≡◌, ◌⊎◌, inl, inr, ℕ, ◌+◌, ◌-◌, Option, None, Bool, true, false, refl, ap, ◌∙◌, if◌then◌else◌}
use Rattle.std.specs.Prelude.{◌==◌, not, ◌||◌}
use Rattle.std.specs.Option.{option_or}
use Rattle.std.proofs.lemmas.Bool.{and_parts}
use Rattle.x64_insn.specs.Size.{Size}
use Rattle.x64_insn.specs.Words.{residue}
use Rattle.jz_tree.specs.declared.expr.BinOp.{BinOp}
use Rattle.jz_tree.specs.declared.expr.BinOp.TheVariants as o
use Rattle.jz_meaning.specs.States.{Key, State}
use Rattle.jz_meaning.specs.Values.{key_of, left_wanted}
use Rattle.jz_meaning.specs.Statements as source
use Rattle.jz_meaning.specs.Statements.{Condition}
use Rattle.jz_run_laws.specs.Kinds.{Kinds}
use Rattle.jz_terms.specs.Terms.{Term, num, truth, var, cell, load, neg, inv, cast, bin, term_of, size_in}
use Rattle.jz_facts.specs.Facts.{Fact, Set, Cell, AtLeast, AtMost, Under, Is, Multiple, Facts, Given, subject}
use Rattle.jz_facts.specs.Intervals.{size_or_64, interval}
use Rattle.jz_facts.specs.Tests.{is_var, at_most, at_least, under, under_what_is, is_the_same, less, less_or_same, same, not_zero, by_true, opposite, adds, tested}
use Rattle.jz_fact_laws.specs.Saying.{Holds, Yields}
use Rattle.jz_fact_laws.proofs.Fitting.{yields_all}
use Rattle.jz_fact_laws.proofs.Setting.{same_key-true}
use Rattle.jz_fact_laws.proofs.Testing.{either}
use Rattle.jz_fact_laws.proofs.Holding.{tests_hold}
use Rattle.jz_standing.specs.Typing.{whole, sizes_of, NoNumbers, IsWord, IsAnswer}
use Rattle.jz_standing.specs.Standing.{is_of_cell, Stands}
use Rattle.jz_standing.proofs.Held.{holds}
use Rattle.jz_standing.proofs.Plain.{plain_answer, sized_answer}

module _ (g : Given) (kinds : Kinds) (in_frame : Key → Bool) (s : Facts) where
  abbrev IsApart : Fact → Type 0
  IsApart f = in_frame (whole (subject f)) ≡ is_of_cell f

  var_apart : (a : Term) (w : Option Size) (z : Size) → IsWord kinds in_frame w z a → (v : Key) → is_var a v ≡ true → in_frame (whole v) ≡ false
  var_apart (var x) w z i v e = ap (λ k. in_frame (whole k)) (same_key-true v (key_of x) e) ∙ i.1.apart
  var_apart (num n at) w z i v e = absurd (cc e)
  var_apart (truth b at) w z i v e = absurd (cc e)
  var_apart (cell x j) w z i v e = absurd (cc e)
  var_apart (load p a) w z i v e = absurd (cc e)
  var_apart (neg a at) w z i v e = absurd (cc e)
  var_apart (inv a at) w z i v e = absurd (cc e)
  var_apart (cast y sign a at) w z i v e = absurd (cc e)
  var_apart (bin op a b at) w z i v e = absurd (cc e)

  module _ (a b : Term) (u w : Option Size) (z : Size) (p : IsWord kinds in_frame u z a) (q : IsWord kinds in_frame w z b) where
    most_apart : (n : ℕ) (f : Fact) → at_most g a n f ≡ true → IsApart f
    most_apart n (AtMost v c) e = var_apart a u z p v (and_parts (is_var a v) _ e).0
    most_apart n (Set v) e = absurd (cc e)
    most_apart n (Cell v k) e = absurd (cc e)
    most_apart n (AtLeast v c) e = absurd (cc e)
    most_apart n (Under v x) e = absurd (cc e)
    most_apart n (Is v x) e = absurd (cc e)
    most_apart n (Multiple v m) e = absurd (cc e)

    least_apart : (n : ℕ) (f : Fact) → at_least g b n f ≡ true → IsApart f
    least_apart n (AtLeast v c) e = var_apart b w z q v (and_parts (is_var b v) _ e).0
    least_apart n (Set v) e = absurd (cc e)
    least_apart n (Cell v k) e = absurd (cc e)
    least_apart n (AtMost v c) e = absurd (cc e)
    least_apart n (Under v x) e = absurd (cc e)
    least_apart n (Is v x) e = absurd (cc e)
    least_apart n (Multiple v m) e = absurd (cc e)

    under_apart : (f : Fact) → under g s a b f ≡ true → IsApart f
    under_apart (Under v x) e = var_apart a u z p v (and_parts (is_var a v) _ e).0
    under_apart (Set v) e = absurd (cc e)
    under_apart (Cell v k) e = absurd (cc e)
    under_apart (AtLeast v c) e = absurd (cc e)
    under_apart (AtMost v c) e = absurd (cc e)
    under_apart (Is v x) e = absurd (cc e)
    under_apart (Multiple v m) e = absurd (cc e)

    what_is_apart : (f : Fact) → under_what_is g s a b f ≡ true → IsApart f
    what_is_apart (Under v x) e = var_apart a u z p v (and_parts (is_var a v) _ e).0
    what_is_apart (Set v) e = absurd (cc e)
    what_is_apart (Cell v k) e = absurd (cc e)
    what_is_apart (AtLeast v c) e = absurd (cc e)
    what_is_apart (AtMost v c) e = absurd (cc e)
    what_is_apart (Is v x) e = absurd (cc e)
    what_is_apart (Multiple v m) e = absurd (cc e)

    same_apart : (f : Fact) → is_the_same g s a b f ≡ true → IsApart f
    same_apart (Is v x) e = var_apart a u z p v (and_parts (is_var a v) _ e).0
    same_apart (Multiple v m) e = var_apart a u z p v (and_parts (is_var a v) _ e).0
    same_apart (Set v) e = absurd (cc e)
    same_apart (Cell v k) e = absurd (cc e)
    same_apart (AtLeast v c) e = absurd (cc e)
    same_apart (AtMost v c) e = absurd (cc e)
    same_apart (Under v x) e = absurd (cc e)

    two : (c d : Bool) (P : Type 0) → (c || d) ≡ true → (c ≡ true → P) → (d ≡ true → P) → P
    two true d P e h k = h refl
    two false d P e h k = k e

    less_apart : (y : Size) (f : Fact) → less g s y a b f ≡ true → IsApart f
    less_apart y f e =
        let j = interval g s y b in let i = interval g s y a in
        two (at_most g a (j.hi - 1) f) _ (IsApart f) e (most_apart (j.hi - 1) f) (λ e.
        two (at_least g b (i.lo + 1) f) _ (IsApart f) e (least_apart (i.lo + 1) f) (λ e.
        two (under g s a b f) (under_what_is g s a b f) (IsApart f) e (under_apart f) (what_is_apart f)))

    less_or_same_apart : (y : Size) (f : Fact) → less_or_same g s y a b f ≡ true → IsApart f
    less_or_same_apart y f e =
        let j = interval g s y b in let i = interval g s y a in
        two (at_most g a j.hi f) _ (IsApart f) e (most_apart j.hi f) (λ e.
        two (at_least g b i.lo f) (under g s a b f) (IsApart f) e (least_apart i.lo f) (under_apart f))

    one_apart : (f : Fact) → at_least g a 1 f ≡ true → IsApart f
    one_apart (AtLeast v c) e = var_apart a u z p v (and_parts (is_var a v) _ e).0
    one_apart (Set v) e = absurd (cc e)
    one_apart (Cell v k) e = absurd (cc e)
    one_apart (AtMost v c) e = absurd (cc e)
    one_apart (Under v x) e = absurd (cc e)
    one_apart (Is v x) e = absurd (cc e)
    one_apart (Multiple v m) e = absurd (cc e)

  module _ (a b : Term) (u w : Option Size) (z : Size) (p : IsWord kinds in_frame u z a) (q : IsWord kinds in_frame w z b) where
    equal_apart : (y : Size) (f : Fact) → same g s y a b f ≡ true → IsApart f
    equal_apart y f e =
        two a b u w z p q (less_or_same g s y a b f || less_or_same g s y b a f) (is_the_same g s a b f || is_the_same g s b a f) (IsApart f) e
        (λ e. two a b u w z p q (less_or_same g s y a b f) (less_or_same g s y b a f) (IsApart f) e (less_or_same_apart a b u w z p q y f) (less_or_same_apart b a w u z q p y f))
        (λ e. two a b u w z p q (is_the_same g s a b f) (is_the_same g s b a f) (IsApart f) e (same_apart a b u w z p q f) (same_apart b a w u z q p f))

    zero_apart : (y : Size) (f : Fact) (b : Term) → not_zero g y a b f ≡ true → IsApart f
    zero_apart y f (num i at) e = by (residue y i == 0) e
      where
        by : (c : Bool) → (if c then at_least g a 1 else (λ f. false)) f ≡ true → IsApart f
        by true e = one_apart a (num i at) u w z p tt f e
        by false e = absurd (cc e)
    zero_apart y f (truth c at) e = absurd (cc e)
    zero_apart y f (var x) e = absurd (cc e)
    zero_apart y f (cell x j) e = absurd (cc e)
    zero_apart y f (load r c) e = absurd (cc e)
    zero_apart y f (neg c at) e = absurd (cc e)
    zero_apart y f (inv c at) e = absurd (cc e)
    zero_apart y f (cast x sign c at) e = absurd (cc e)
    zero_apart y f (bin op c d at) e = absurd (cc e)

    true_apart : (op : BinOp) (y : Size) (f : Fact) → by_true g op s y a b f ≡ true → IsApart f
    true_apart o.Lt y f e = less_apart a b u w z p q y f e
    true_apart o.Le y f e = less_or_same_apart a b u w z p q y f e
    true_apart o.Gt y f e = less_apart b a w u z q p y f e
    true_apart o.Ge y f e = less_or_same_apart b a w u z q p y f e
    true_apart o.Eq y f e = equal_apart y f e
    true_apart o.Ne y f e = zero_apart y f b e
    true_apart o.OrElse y f e = absurd (cc e)
    true_apart o.AndThen y f e = absurd (cc e)
    true_apart o.Or y f e = absurd (cc e)
    true_apart o.Xor y f e = absurd (cc e)
    true_apart o.And y f e = absurd (cc e)
    true_apart o.LtS y f e = absurd (cc e)
    true_apart o.LeS y f e = absurd (cc e)
    true_apart o.GtS y f e = absurd (cc e)
    true_apart o.GeS y f e = absurd (cc e)
    true_apart o.Shl y f e = absurd (cc e)
    true_apart o.Shr y f e = absurd (cc e)
    true_apart o.Sar y f e = absurd (cc e)
    true_apart o.Rol y f e = absurd (cc e)
    true_apart o.Ror y f e = absurd (cc e)
    true_apart o.Add y f e = absurd (cc e)
    true_apart o.Sub y f e = absurd (cc e)
    true_apart o.Mul y f e = absurd (cc e)
    true_apart o.Div y f e = absurd (cc e)
    true_apart o.Rem y f e = absurd (cc e)
    true_apart o.DivS y f e = absurd (cc e)
    true_apart o.RemS y f e = absurd (cc e)

  adds_apart : (t : Term) → IsAnswer kinds in_frame t → (z : Bool) (f : Fact) → adds g s t z f ≡ true → IsApart f
  adds_apart (inv a at) i z f e = adds_apart a i (not z) f e
  adds_apart (bin op a b at) i z f e =
      let v = left_wanted op None (size_in a) (size_in b) in
      true_apart a b v v i.1 i.4 i.5 (if z then op else opposite g op) (size_or_64 (option_or (size_in a) (size_in b))) f e
  adds_apart (truth b at) i z f e = absurd (cc e)
  adds_apart (var x) i z f e = absurd (cc e)
  adds_apart (num n at) i z f e = absurd i
  adds_apart (cell x j) i z f e = absurd i
  adds_apart (load p a) i z f e = absurd i
  adds_apart (neg a at) i z f e = absurd i
  adds_apart (cast y sign a at) i z f e = absurd i

module _ (g : Given) (kinds : Kinds) (in_frame : Key → Bool) (entry : Key → ℕ) (s : Facts) (st : State) (H : Stands g kinds in_frame entry s st) (nn : NoNumbers kinds) where
  -- behind a test with its answer
  pub tested_stands : (c : Condition) → IsAnswer kinds in_frame (term_of c.cond) → Yields (λ z. Stands g kinds in_frame entry (tested g c z s) st) (source.tests c st)
  tested_stands c i =
      yields_all (λ z. Holds g (sizes_of kinds) entry (tested g c z s) st) (λ z. Stands g kinds in_frame entry (tested g c z s) st) (source.tests c st)
      (λ z h. record {
        says = h.says;
        apart = λ f e. by z f (either (s f) (adds g s (term_of c.cond) z f) e);
        kept = H.kept;
        ranges = H.ranges;
        least = H.least;
        regions = H.regions;
      })
      (tests_hold g (sizes_of kinds) entry s st (holds g kinds in_frame entry s st nn H) c (plain_answer kinds in_frame (term_of c.cond) i) (sized_answer g kinds in_frame entry s st H (term_of c.cond) None i))
    where
      by : (z : Bool) (f : Fact) → (s f ≡ true) ⊎ (adds g s (term_of c.cond) z f ≡ true) → in_frame (whole (subject f)) ≡ is_of_cell f
      by z f (inl e) = H.apart f e
      by z f (inr e) = adds_apart g kinds in_frame s (term_of c.cond) i z f e
