-- Two inputs that are equal at the public parameters agree at the entry, and so they leak the same.
use Rattle.std.proofs.Common.{◌≡◌, ℕ, Bool, true, false, ◌&&◌, List, [], ◌∷◌, Option, Some, None, refl, sym, ap, subst, ◌∙◌, if◌then◌else◌}
use Rattle.std.specs.Prelude.{not}
use Rattle.std.proofs.lemmas.Bool.{true≢false, and_parts}
use Rattle.jz_words.specs.Memory.{Memory}
use Rattle.jz_tree.specs.declared.expr.Var.{Var}
use Rattle.jz_tree.specs.declared.program.Fun.{Fun}
use Rattle.jz_tree.specs.declared.program.Param.{Param}
use Rattle.jz_leak.specs.RunLeaks.{Leak}
use Rattle.jz_runs.specs.Rules.{stuck, went, Outcome, End, Cut, Stuck, Goes}
use Rattle.jz_meaning.specs.declared.value.Stuck as code
use Rattle.jz_meaning.specs.Attempts.{Evaluation}
use Rattle.jz_meaning.specs.States.{Value, Key, same_key, Store, put, empty_store, State}
use Rattle.jz_meaning.specs.Values.{key_of, ref_of}
use Rattle.jz_meaning.specs.Statements.{Block, source}
use Rattle.jz_meaning.specs.Runs.{with_arguments, entry_state, result_words, Returned, outcome_of_words, outcome_of_body}
use Rattle.jz_labels.specs.Operations.{plain_of, tested_by}
use Rattle.jz_labels.specs.Labels.{Publics, label_steps}
use Rattle.jz_labels.specs.Required.{label_asks}
use Rattle.jz_labels.specs.ConstantTime.{is_labelled_public, secret_parameters, all_but, at_entry, IsConstantTime}
use Rattle.jz_labels.proofs.Keys.{keys_same}
use Rattle.jz_equal_leaks.specs.TwoRuns.{Same}
use Rattle.jz_equal_leaks.specs.Fixed.{whole, IsScalar, AreScalars, IsFixedOperation, IsFixedTest}
use Rattle.jz_equal_leaks.specs.Agreeing.{Agree}
use Rattle.jz_equal_leaks.specs.Laws.{AreEqualAtPublic, IsFixedFunction, LeakTheSame}
use Rattle.jz_equal_leaks.proofs.Bodies.{runs_same}
use Rattle.jz_equal_leaks.proofs.LeftSides.{key_itself}
use Rattle.jz_equal_leaks.proofs.Operations.{keeps_agreeing}

-- a secret parameter is among those that are not public
public_word : (p : Param) (ps : List Param) (v w : Value) (k : Key) → (is_labelled_public p.notes ≡ true → v ≡ w) → at_entry (p ∷ ps) k ≡ true → same_key (key_of (ref_of p.var)) k ≡ true → v ≡ w
public_word p ps v w k h e s = by (is_labelled_public p.notes) refl e
  where
    by : (c : Bool) → is_labelled_public p.notes ≡ c → all_but (if c then secret_parameters ps else key_of (ref_of p.var) ∷ secret_parameters ps) k ≡ true → v ≡ w
    by true r t = h r
    by false r t =
        let q = keys_same (key_of (ref_of p.var)) k s in
        let a : same_key k (key_of (ref_of p.var)) ≡ true = ap (λ (y : Key). same_key y (key_of (ref_of p.var))) (sym q) ∙ key_itself (key_of (ref_of p.var)) in
        let b : not (same_key k (key_of (ref_of p.var))) ≡ true = (and_parts (not (same_key k (key_of (ref_of p.var)))) (all_but (secret_parameters ps) k) t).0 in
        absurd (true≢false (sym b ∙ ap not a))

-- what is public of more parameters is public of fewer
fewer : (p : Param) (ps : List Param) (k : Key) → at_entry (p ∷ ps) k ≡ true → at_entry ps k ≡ true
fewer p ps k e = by (is_labelled_public p.notes) e
  where
    by : (c : Bool) → all_but (if c then secret_parameters ps else key_of (ref_of p.var) ∷ secret_parameters ps) k ≡ true → all_but (secret_parameters ps) k ≡ true
    by true t = t
    by false t = (and_parts (not (same_key k (key_of (ref_of p.var)))) (all_but (secret_parameters ps) k) t).1

-- a parameter more
one_put : (k : Key) (c : Bool) (v w : Value) (x y : Option Value) → (c ≡ true → v ≡ w) → x ≡ y → (if c then Some v else x) ≡ (if c then Some w else y)
one_put k true v w x y h e = ap Some (h refl)
one_put k false v w x y h e = e

public_same : (ps : List Param) (vs ws : List Value) (a b : Store) (k : Key) → AreEqualAtPublic ps vs ws → at_entry ps k ≡ true → a k ≡ b k → with_arguments ps vs a k ≡ with_arguments ps ws b k
public_same [] [] [] a b k h e s = s
public_same [] [] (w ∷ ws) a b k h e s = absurd h
public_same [] (v ∷ vs) ws a b k h e s = absurd h
public_same (p ∷ ps) [] ws a b k h e s = absurd h
public_same (p ∷ ps) (v ∷ vs) [] a b k h e s = absurd h
public_same (p ∷ ps) (v ∷ vs) (w ∷ ws) a b k h e s =
    public_same ps vs ws (put a (key_of (ref_of p.var)) (Some v)) (put b (key_of (ref_of p.var)) (Some w)) k h.1 (fewer p ps k e)
    (one_put k (same_key (key_of (ref_of p.var)) k) v w (a k) (b k) (public_word p ps v w k h.0 e) s)

-- no parameter is an array of the frame
no_cell : (in_frame : Key → Bool) (ps : List Param) (vs : List Value) (a : Store) (k : Key) → AreScalars in_frame ps → in_frame (whole k) ≡ true → with_arguments ps vs a k ≡ a k
no_cell in_frame [] vs a k f e = refl
no_cell in_frame (p ∷ ps) [] a k f e = refl
no_cell in_frame (p ∷ ps) (v ∷ vs) a k f e = no_cell in_frame ps vs (put a (key_of (ref_of p.var)) (Some v)) k f.1 e ∙ elsewhere (same_key (key_of (ref_of p.var)) k) refl
  where
    elsewhere : (c : Bool) → same_key (key_of (ref_of p.var)) k ≡ c → (if c then Some v else a k) ≡ a k
    elsewhere true s = absurd (true≢false (sym e ∙ ap (λ (y : Key). in_frame (whole y)) (sym (keys_same (key_of (ref_of p.var)) k s)) ∙ f.0))
    elsewhere false s = refl

entries_agree : (in_frame : Key → Bool) (arrays : Publics) (f : Fun) (vs ws : List Value) (m k : Memory) → AreScalars in_frame f.params → AreEqualAtPublic f.params vs ws → Agree in_frame arrays (at_entry f.params) (entry_state f vs m) (entry_state f ws k)
entries_agree in_frame arrays f vs ws m k s h = record {
  scalars = λ q i e. public_same f.params vs ws empty_store empty_store q h e refl;
  cells = λ q i e. no_cell in_frame f.params vs empty_store q s i ∙ sym (no_cell in_frame f.params ws empty_store q s i);
}

-- ---- what is given back

words_same : (m k : Memory) (i j : ℕ) (l r : Leak) (v w : Evaluation (List Value)) → i ≡ j → l ≡ r → LeakTheSame {V = Returned} (outcome_of_words m i l v) (outcome_of_words k j r w)
words_same m k i j l r (went ns vs) (went ms ws) e h = (e, h, tt)
words_same m k i j l r (went ns vs) (stuck w) e h = tt
words_same m k i j l r (stuck v) (went ms ws) e h = tt
words_same m k i j l r (stuck v) (stuck w) e h = tt

stuck_words : (m : Memory) (i : ℕ) (l : Leak) (v : Evaluation (List Value)) (w : code.Stuck) → LeakTheSame {V = Returned} (outcome_of_words m i l v) (Stuck w)
stuck_words m i l (went ns vs) w = tt
stuck_words m i l (stuck v) w = tt

words_stuck : (m : Memory) (i : ℕ) (l : Leak) (v : Evaluation (List Value)) (w : code.Stuck) → LeakTheSame {V = Returned} (Stuck w) (outcome_of_words m i l v)
words_stuck m i l (went ns vs) w = tt
words_stuck m i l (stuck v) w = tt

given_same : (Q : State → State → Type 0) (xs : List Var) (o q : Outcome State code.Stuck Leak) → Same Q o q → LeakTheSame {V = Returned} (outcome_of_body xs o) (outcome_of_body xs q)
given_same Q xs (End s n l) (End t m k) h = words_same s.memory t.memory n m l k (result_words xs s.store) (result_words xs t.store) h.0 h.1
given_same Q xs (End s n l) (Cut k) h = absurd h
given_same Q xs (End s n l) (Stuck w) h = stuck_words s.memory n l (result_words xs s.store) w
given_same Q xs (Cut l) (End t m k) h = absurd h
given_same Q xs (Cut l) (Cut k) h = h
given_same Q xs (Cut l) (Stuck w) h = tt
given_same Q xs (Stuck v) (End t m k) h = words_stuck t.memory m k (result_words xs t.store) v
given_same Q xs (Stuck v) (Cut k) h = tt
given_same Q xs (Stuck v) (Stuck w) h = tt

pub leaks_same : (f : Fun) (body : Block) → IsFixedFunction f body → IsConstantTime f.params body → (vs ws : List Value) → AreEqualAtPublic f.params vs ws → (m k : Memory) (n : ℕ) (o q : Outcome State code.Stuck Leak)
    → Goes source body n (entry_state f vs m) o → Goes source body n (entry_state f ws k) q → LeakTheSame {V = Returned} (outcome_of_body f.result o) (outcome_of_body f.result q)
leaks_same f body x c vs ws h m k n o q g d =
    given_same (Agree x.in_frame c.0 c.1) f.result o q
    (runs_same (IsFixedOperation x.in_frame) (IsFixedTest x.in_frame) (label_steps plain_of tested_by c.0) (label_asks plain_of tested_by c.0) source (Agree x.in_frame c.0) (keeps_agreeing x.in_frame c.0)
    body (at_entry f.params) c.1 x.nodes c.2 n (entry_state f vs m) (entry_state f ws k) (entries_agree x.in_frame c.0 f vs ws m k x.params h) o q g d)
