-- Inputs of a function, as words of its listing, and as values of the variables of its parameters.
use Rattle.std.proofs.Common.{◌≡◌, ℕ, ◌<◌, ◌⊎◌, inl, inr, Bool, true, false, List, [], ◌∷◌, map, Option, Some, None, refl, sym, ap, ◌∙◌, subst, if◌then◌else◌}
use Rattle.std.specs.Prelude.{nat_eq, slice_get}
use Rattle.std.specs.List.{AllZip}
use Rattle.std.proofs.lemmas.Bool.{eqb-true}
use Rattle.jz_words.specs.declared.size.Size.{Size}
use Rattle.jz_words.specs.Memory.{Memory}
use Rattle.jz_words.specs.Sizes.{modulus}
use Rattle.x64_insn.specs.declared.types.Reg.{Reg}
use Rattle.x64_insn.specs.declared.types.Flag.{Flag}
use Rattle.x64_insn.specs.declared.types.Flag.TheVariants as flag
use Rattle.x64_insn.specs.Rows.{place_of, known}
use Rattle.jz_tree.specs.declared.expr.Var.{Var}
use Rattle.jz_tree.specs.declared.program.Param.{Param}
use Rattle.jz_meaning.specs.declared.access.Kind.{Kind}
use Rattle.jz_meaning.specs.declared.access.Kind.TheVariants as kind
use Rattle.jz_meaning.specs.States as source
use Rattle.jz_meaning.specs.Values.{key_of, ref_of}
use Rattle.jz_meaning.specs.Runs.{FitsKind}
use Rattle.jz_operations.specs.Values.{Value, word, set_var}
use Rattle.jz_place.specs.declared.tree.Passed.{Passed}
use Rattle.jz_place.specs.declared.tree.Ir.{Ir}
use Rattle.jz_homes.specs.Homes.{Homes, in_register}
use Rattle.jz_lowered.specs.Functions.{ArePassed, one_passed, with_parameter, with_parameters, no_flags, entry_of}
use Rattle.jz_lowered.specs.Laws.{IsWordFor}
use Rattle.jz_listing.specs.declared.compiled.Arg.{Arg}
use Rattle.jz_correct.specs.Starts.{AreOfSizes}
use Rattle.jz_called.specs.Called.{IsArgument, Begins}
use Rattle.jz_compiled.specs.Lines.{AreArgumentLines}
use Rattle.jz_compiled.specs.Matching.{values_of}
use Rattle.jz_joined.specs.Making.{HaveSizes}

abbrev variables_in : List Param → List Var
variables_in ps = map (λ p. p.var) ps

-- ---- the source's input
fits_kind : (k : Kind) (z : Size) (w : ℕ) → k ≡ kind.Word z → w < modulus z → FitsKind k (source.word z w)
fits_kind k z w e lt = subst (λ m. FitsKind m (source.word z w)) (sym e) (refl, lt)

pub all_fit : (rs : List Reg) (ps : List Param) (args : List Arg) (words : List ℕ) → AreArgumentLines rs ps args → AreOfSizes args words → AllZip (λ q v. FitsKind (ref_of q.var).kind v) ps (values_of args words)
all_fit rs [] [] words h s = tt
all_fit [] [] (a ∷ args) words h s = absurd h
all_fit (r ∷ rs) [] (a ∷ args) words h s = absurd h
all_fit [] (p ∷ ps) args words h s = absurd h
all_fit (r ∷ rs) (p ∷ ps) [] words h s = absurd h
all_fit (r ∷ rs) (p ∷ ps) (a ∷ args) [] h s = absurd s
all_fit (r ∷ rs) (p ∷ ps) (a ∷ args) (w ∷ words) h s = (fits_kind (ref_of p.var).kind a.size w h.0.1 s.0, all_fit rs ps args words h.1 s.1)

-- ---- the words in their variables
word_for : (home : Homes) (p : Param) (n : ℕ) (z y : Size) (w : ℕ) → home (key_of (ref_of p.var)) ≡ Some (in_register n z) → z ≡ y → w < modulus y → IsWordFor home p (source.word y w)
word_for home p n z y w e same lt = (n, y, w, e ∙ ap (λ x. Some (in_register n x)) same, refl, lt)

pub words_for : (home : Homes) (rs : List Reg) (ps : List Param) (qs : List Passed) (args : List Arg) (words : List ℕ) → ArePassed home rs (variables_in ps) qs → HaveSizes home (variables_in ps) args → AreOfSizes args words
    → AllZip (IsWordFor home) ps (values_of args words)
words_for home rs [] qs [] words passed sized s = tt
words_for home rs [] qs (a ∷ args) words passed sized s = absurd sized
words_for home rs (p ∷ ps) qs [] words passed sized s = absurd sized
words_for home rs (p ∷ ps) qs (a ∷ args) [] passed sized s = absurd s
words_for home rs (p ∷ ps) qs (a ∷ args) (w ∷ words) (one_passed {rs = rs2} {p = q} {ps = qs2} z e span reg more) sized s =
    (word_for home p q.variable.variable z a.size w e (sized.0 q.variable.variable z e) s.0, words_for home rs2 ps qs2 args words more sized.1 s.1)

-- ---- the variables where the body begins
set_cases : (n v : ℕ) (x : Option Value) (vars : ℕ → Option Value) (b : Bool) → nat_eq n v ≡ b → (y : Value) → set_var n x vars v ≡ Some y → ((n ≡ v) × (x ≡ Some y)) ⊎ (vars v ≡ Some y)
set_cases n v x vars true t y e = inl (eqb-true n v t, sym (ap (λ b. if b then x else vars v) t) ∙ e)
set_cases n v x vars false t y e = inr (sym (ap (λ b. if b then x else vars v) t) ∙ e)

same_value : (z : Size) (w : ℕ) (y : Value) → Some (word z w) ≡ Some y → y ≡ word z w
same_value z w y e = cc

one_entry : (home : Homes) (p : Param) (q : Passed) (a : Arg) (w : ℕ) (args : List Arg) (words : List ℕ) (qs : List Passed) (vars : ℕ → Option Value) (z : Size) → home (key_of (ref_of p.var)) ≡ Some (in_register q.variable.variable z) → a.reg ≡ q.reg
    → (v : ℕ) (x : Value) (o : Option Value) → o ≡ Some x → (o ≡ Some x → IsArgument args words qs v x ⊎ (set_var q.variable.variable (Some (word a.size w)) vars v ≡ Some x))
    → IsArgument (a ∷ args) (w ∷ words) (q ∷ qs) v x ⊎ (vars v ≡ Some x)
one_entry home p q a w args words qs vars z h reg v x o e rest = next (rest e)
  where
    old : ((q.variable.variable ≡ v) × (Some (word a.size w) ≡ Some x)) ⊎ (vars v ≡ Some x) → IsArgument (a ∷ args) (w ∷ words) (q ∷ qs) v x ⊎ (vars v ≡ Some x)
    old (inl k) = inl (inl (k.0, reg, same_value a.size w x k.1))
    old (inr k) = inr k

    next : IsArgument args words qs v x ⊎ (set_var q.variable.variable (Some (word a.size w)) vars v ≡ Some x) → IsArgument (a ∷ args) (w ∷ words) (q ∷ qs) v x ⊎ (vars v ≡ Some x)
    next (inl k) = inl (inr k)
    next (inr k) = old (set_cases q.variable.variable v (Some (word a.size w)) vars (nat_eq q.variable.variable v) refl x k)

entry_cases : (home : Homes) (rs : List Reg) (ps : List Param) (qs : List Passed) (args : List Arg) (words : List ℕ) (vars : ℕ → Option Value) → ArePassed home rs (variables_in ps) qs → AreArgumentLines rs ps args
    → (v : ℕ) (x : Value) → with_parameters home ps (values_of args words) vars v ≡ Some x → IsArgument args words qs v x ⊎ (vars v ≡ Some x)
entry_cases home rs [] qs args words vars passed lines v x e = inr e
entry_cases home rs (p ∷ ps) qs [] words vars passed lines v x e = inr e
entry_cases home rs (p ∷ ps) qs (a ∷ args) [] vars passed lines v x e = inr e
entry_cases home rs (p ∷ ps) qs (a ∷ args) (w ∷ words) vars (one_passed {r = r} {rs = rs2} {p = q} {ps = qs2} z h span reg more) lines v x e =
    one_entry home p q a w args words qs2 vars z h (lines.0.2 ∙ sym reg) v x
    (with_parameters home ps (values_of args words) (set_var q.variable.variable (Some (word a.size w)) vars) v)
    (sym (ap (λ o. with_parameters home ps (values_of args words) (with_parameter o (source.word a.size w) vars) v) h) ∙ e)
    (entry_cases home rs2 ps qs2 args words (set_var q.variable.variable (Some (word a.size w)) vars) more lines.1 v x)

no_flag : (g : Flag) → known (slice_get no_flags (place_of g)) ≡ None
no_flag flag.Of = refl
no_flag flag.Cf = refl
no_flag flag.Sf = refl
no_flag flag.Pf = refl
no_flag flag.Zf = refl

pub begins : (home : Homes) (rs : List Reg) (ps : List Param) (f : Ir) (args : List Arg) (words : List ℕ) (memory : Memory) → ArePassed home rs (variables_in ps) f.entry → AreArgumentLines rs ps args
    → Begins f args words memory (entry_of home ps (values_of args words) memory)
begins home rs ps f args words memory passed lines = record {
  vars = λ v x e. only v x (entry_cases home rs ps f.entry args words (λ n. None) passed lines v x e);
  left = λ r. refl;
  flags = no_flag;
  cells = λ v i. refl;
  bytes = refl;
}
  where
    only : (v : ℕ) (x : Value) → IsArgument args words f.entry v x ⊎ (◌≡◌ {A = Option Value} None (Some x)) → IsArgument args words f.entry v x
    only v x (inl k) = k
    only v x (inr k) = cc
