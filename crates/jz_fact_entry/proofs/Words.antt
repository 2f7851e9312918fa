-- The words of parameters, by their names and where they are kept.
use Rattle.std.proofs.Common.{◌≡◌, ℕ, List, [], ◌∷◌, map, cond, Some, None, Bool, true, false, refl, sym, ap, ◌∙◌, subst, if◌then◌else◌}
use Rattle.std.specs.Str.{bytes_eq}
use Rattle.x64_insn.specs.Size.{Size}
use Rattle.jz_tree.specs.declared.expr.Var.{Var}
use Rattle.jz_tree.specs.declared.expr.Expr.TheViews.{out-Var, roll-out-Var}
use Rattle.jz_tree.specs.declared.expr.Expr.TheFolds.{fold-roll-Var}
use Rattle.jz_tree.specs.declared.program.Param.{Param}
use Rattle.jz_lex.proofs.LexingWords.{if_true, if_false, same_is, same_self}
use Rattle.jz_type_names.specs.Scopes.{text_of_param, variable_named}
use Rattle.jz_preconditions.specs.Meeting.{word_named}
use Rattle.jz_meaning.specs.declared.access.Kind.TheVariants as kind
use Rattle.jz_meaning.specs.States.{Value, word, Key, same_key, Store, put}
use Rattle.jz_meaning.specs.Values.{Ref, key_of, ref_of, expr_step, ty_step, access_step, decl_step, var_step}
use Rattle.jz_meaning.specs.Runs.{with_arguments}
use Rattle.jz_fact_laws.proofs.Setting.{same_key-true, same_key-refl}
use Rattle.jz_given.specs.Giving.{variables}
use Rattle.jz_fact_entry.specs.Entry.{AreWords, IsOther, DifferByName}

-- ---- the name of a variable
ref_name : (v : Var) → (ref_of v).name ≡ (out-Var v).name
ref_name v =
    ap (λ w. (ref_of w).name) (sym (roll-out-Var v))
    ∙ ap (λ (r : Ref). r.name) (fold-roll-Var _ _ _ _ _ expr_step ty_step access_step decl_step var_step (out-Var v))

abbrev pub key_at : Param → Key
key_at p = key_of (ref_of p.var)

-- ---- keys
same_text : (p q : Param) → key_at q ≡ key_at p → text_of_param p ≡ text_of_param q
same_text p q e = sym (ref_name p.var) ∙ ap (λ (k : Key). k.name) (sym e) ∙ ref_name q.var

key_apart : (p q : Param) → (text_of_param p ≡ text_of_param q → ⊥) → same_key (key_at q) (key_at p) ≡ false
key_apart p q n = by (same_key (key_at q) (key_at p)) refl
  where
    by : (b : Bool) → same_key (key_at q) (key_at p) ≡ b → b ≡ false
    by true e = absurd (n (same_text p q (same_key-true (key_at q) (key_at p) e)))
    by false e = refl

name_apart : (n m : List ℕ) → (n ≡ m → ⊥) → bytes_eq n m ≡ false
name_apart n m h = by (bytes_eq n m) refl
  where
    by : (b : Bool) → bytes_eq n m ≡ b → b ≡ false
    by true e = absurd (h (same_is n m e))
    by false e = refl

-- ---- what a parameter holds, and what its name says
pub record Fits (s : Store) (names : List (List ℕ)) (words : List ℕ) (p : Param) : Type 0 where
  pub size : Size
  pub bits : ℕ
  pub is : (ref_of p.var).kind ≡ kind.Word size
  pub held : s (key_at p) ≡ Some (word size bits)
  pub named : word_named names words (text_of_param p) ≡ Some bits

abbrev pub AllFit : Store → List (List ℕ) → List ℕ → List Param → Type 0
AllFit s names words [] = Unit {0}
AllFit s names words (p ∷ ps) = Fits s names words p × AllFit s names words ps

later : (s : Store) (names : List (List ℕ)) (words : List ℕ) (m : List ℕ) (w : ℕ) (p : Param) → (m ≡ text_of_param p → ⊥) → Fits s names words p → Fits s (m ∷ names) (w ∷ words) p
later s names words m w p n f =
    let other : bytes_eq (text_of_param p) m ≡ false = name_apart (text_of_param p) m (λ e. n (sym e)) in
    record { size = f.size; bits = f.bits; is = f.is; held = f.held; named = if_false (bytes_eq (text_of_param p) m) (Some w) (word_named names words (text_of_param p)) other ∙ f.named }

all_later : (s : Store) (names : List (List ℕ)) (words : List ℕ) (q : Param) (w : ℕ) (ps : List Param) → IsOther q ps → AllFit s names words ps → AllFit s (text_of_param q ∷ names) (w ∷ words) ps
all_later s names words q w [] o h = tt
all_later s names words q w (p ∷ ps) o h = (later s names words (text_of_param q) w p o.0 h.0, all_later s names words q w ps o.1 h.1)

untouched : (p : Param) (qs : List Param) (vs : List Value) (s : Store) → IsOther p qs → with_arguments qs vs s (key_at p) ≡ s (key_at p)
untouched p [] vs s o = refl
untouched p (q ∷ qs) [] s o = refl
untouched p (q ∷ qs) (v ∷ vs) s o =
    untouched p qs vs (put s (key_at q) (Some v)) o.1
    ∙ if_false (same_key (key_at q) (key_at p)) (Some v) (s (key_at p)) (key_apart p q o.0)

first_fits : (p : Param) (ps : List Param) (w : ℕ) (ws : List ℕ) (v : Value) (vs : List Value) (s : Store) (z : Size) → IsOther p ps → (ref_of p.var).kind ≡ kind.Word z → v ≡ word z w
    → Fits (with_arguments (p ∷ ps) (v ∷ vs) s) (map text_of_param (p ∷ ps)) (w ∷ ws) p
first_fits p ps w ws v vs s z o k e =
    let n : List ℕ = text_of_param p in
    record {
      size = z;
      bits = w;
      is = k;
      held = untouched p ps vs (put s (key_at p) (Some v)) o ∙ (if_true (same_key (key_at p) (key_at p)) (Some v) (s (key_at p)) (same_key-refl (key_at p)) ∙ ap Some e);
      named = if_true (bytes_eq n n) (Some w) (word_named (map text_of_param ps) ws n) (same_self n);
    }

pub all_fit : (ps : List Param) (ws : List ℕ) (vs : List Value) (s : Store) → DifferByName ps → AreWords ps ws vs → AllFit (with_arguments ps vs s) (map text_of_param ps) ws ps
all_fit [] [] [] s d h = tt
all_fit [] [] (v ∷ vs) s d h = absurd h
all_fit [] (w ∷ ws) vs s d h = absurd h
all_fit (p ∷ ps) [] vs s d h = absurd h
all_fit (p ∷ ps) (w ∷ ws) [] s d h = absurd h
all_fit (p ∷ ps) (w ∷ ws) (v ∷ vs) s d h = (
  first_fits p ps w ws v vs s h.0.0 d.0 h.0.1 h.0.2,
  all_later (with_arguments ps vs (put s (key_at p) (Some v))) (map text_of_param ps) ws p w ps d.0 (all_fit ps ws vs (put s (key_at p) (Some v)) d.1 h.1),
)

-- ---- the parameter of a name
pub record Found (s : Store) (names : List (List ℕ)) (words : List ℕ) (n : List ℕ) (x : Var) : Type 0 where
  pub param : Param
  pub is : x ≡ param.var
  pub fits : Fits s names words param
  pub word_is : word_named names words n ≡ Some fits.bits

same_found : {A : Type 0} (a b : A) → Some a ≡ Some b → a ≡ b
same_found a b e = cc

module _ (s : Store) (names : List (List ℕ)) (words : List ℕ) (n : List ℕ) where
  pub found : (ps : List Param) → AllFit s names words ps → (x : Var) → variable_named n (variables ps) ≡ Some x → Found s names words n x
  found [] h x e = absurd cc
  found (p ∷ ps) h x e = by (bytes_eq n (text_of_param p)) refl e (found ps h.1 x)
    where
      by : (b : Bool) → bytes_eq n (text_of_param p) ≡ b → cond b (Some p.var) (variable_named n (variables ps)) ≡ Some x → (variable_named n (variables ps) ≡ Some x → Found s names words n x) → Found s names words n x
      by true same e rest = record {
        param = p;
        is = sym (same_found p.var x e);
        fits = h.0;
        word_is = subst (λ m. word_named names words m ≡ Some h.0.bits) (sym (same_is n (text_of_param p) same)) h.0.named;
      }
      by false same e rest = rest e

pub not_found : (n : List ℕ) (ps : List Param) (words : List ℕ) → variable_named n (variables ps) ≡ None → word_named (map text_of_param ps) words n ≡ None
not_found n [] words e = refl
not_found n (p ∷ ps) [] e = refl
not_found n (p ∷ ps) (w ∷ words) e = by (bytes_eq n (text_of_param p)) e (not_found n ps words)
  where
    by : (b : Bool) → cond b (Some p.var) (variable_named n (variables ps)) ≡ None → (variable_named n (variables ps) ≡ None → word_named (map text_of_param ps) words n ≡ None) → (if b then Some w else word_named (map text_of_param ps) words n) ≡ None
    by true e rest = absurd cc
    by false e rest = rest e
