-- Marks, variable by variable.
use Rattle.std.proofs.Common.{◌≡◌, ℕ, ◌+◌, ◌<◌, ◌≤◌, List, ◌∷◌, drop, length, get_or, None, Bool, true, false, refl, ap, sym, ◌∙◌, if◌then◌else◌}
use Rattle.std.specs.Prelude.{◌==◌, not, ◌&&◌, ◌||◌}
use Rattle.std.specs.Str.{bytes_eq}
use Rattle.std.proofs.Math.Path.{fun_ext}
use Rattle.std.proofs.lemmas.List.{at_drop_more}
use Rattle.std.proofs.Math.ListN.{drop_of_length-le}
use Rattle.jz_tree.specs.declared.expr.Var.{Var}
use Rattle.jz_meaning.specs.declared.access.Kind.{Kind}
use Rattle.jz_meaning.specs.declared.access.Kind.TheVariants as kind
use Rattle.jz_meaning.specs.States.{Key, same_key}
use Rattle.jz_meaning.specs.Statements.{unset}
use Rattle.jz_meaning.specs.Values.{Ref, ref_of, key_of}
use Rattle.jz_layers.specs.Spots.{variable_key}
use Rattle.jz_facts.specs.Facts.{Fact, Facts, subject}
use Rattle.jz_facts.specs.Holding.{renewed, is_of, marks, is_marked, quieted}
use Rattle.jz_fact_sets.specs.declared.given.Given.{Given}
use Rattle.jz_fact_sets.specs.Knowing.{nothing}
use Rattle.jz_fact_sets.specs.Renewing.{own}
use Rattle.jz_fact_sets.proofs.KeyLemmas.{same_key-back}
use Rattle.jz_fact_writes.specs.Marking.{is_array, unmarked}
use Rattle.jz_fact_writes.proofs.Gaining.{own_nothing}

-- ---- one variable

plain_mark : (r : Ref) (v : Key) → (k : Kind) → r.kind ≡ k → is_array k ≡ false → is_of r v ≡ same_key v (key_of r)
plain_mark r v kind.Undeclared e h = mark_by e
  where
    mark_by : r.kind ≡ kind.Undeclared → is_of r v ≡ same_key v (key_of r)
    mark_by e = ap (λ k. is_of (record r { kind = k }) v) e
plain_mark r v kind.Int e h = ap (λ k. is_of (record r { kind = k }) v) e
plain_mark r v kind.Bool e h = ap (λ k. is_of (record r { kind = k }) v) e
plain_mark r v (kind.Word y) e h = ap (λ k. is_of (record r { kind = k }) v) e
plain_mark r v (kind.Array y n) e h = absurd (cc h)

whole : Key → Key
whole k = record { name = k.name; copy = k.copy; cell = None }

array_mark : (r : Ref) (v : Key) → (k : Kind) → r.kind ≡ k → is_array k ≡ true → is_of r v ≡ same_key (record { name = v.name; copy = v.copy; cell = None }) (record { name = r.name; copy = r.copy; cell = None })
array_mark r v (kind.Array y n) e h = ap (λ k. is_of (record r { kind = k }) v) e
array_mark r v kind.Undeclared e h = absurd (cc h)
array_mark r v kind.Int e h = absurd (cc h)
array_mark r v kind.Bool e h = absurd (cc h)
array_mark r v (kind.Word y) e h = absurd (cc h)

pub plain_unmarked : (g : Given) (x : Var) (s : Facts) → is_array (ref_of x).kind ≡ false → renewed (variable_key x) (own g nothing) s ≡ unmarked x s
plain_unmarked g x s h = fun_ext (λ f. by f (same_key (subject f) (variable_key x)) ∙ sym (ap (λ b. s f && not b) (plain_mark (ref_of x) (subject f) (ref_of x).kind refl h)))
  where
    by : (f : Fact) → (b : Bool) → (if b then own g nothing f else s f) ≡ (s f && not b)
    by f true = ap (λ n. n f) (own_nothing g) ∙ none (s f)
      where
        none : (a : Bool) → false ≡ (a && false)
        none true = refl
        none false = refl
    by f false = all (s f)
      where
        all : (a : Bool) → a ≡ (a && true)
        all true = refl
        all false = refl

pub array_unmarked : (x : Var) (s : Facts) → is_array (ref_of x).kind ≡ true
    → (λ (f : Fact). s f && not (bytes_eq (variable_key x).name (subject f).name && ((variable_key x).copy == (subject f).copy))) ≡ unmarked x s
array_unmarked x s h = fun_ext (λ f. ap (λ b. s f && not b) (here (subject f)))
  where
    full : (a b : Bool) → (a && b) ≡ (a && (b && true))
    full true true = refl
    full true false = refl
    full false b = refl

    here : (v : Key) → (bytes_eq (variable_key x).name v.name && ((variable_key x).copy == v.copy)) ≡ marks x v
    here v =
        full (bytes_eq (variable_key x).name v.name) ((variable_key x).copy == v.copy)
        ∙ sym (same_key-back (record { name = (ref_of x).name; copy = (ref_of x).copy; cell = None }) (record { name = v.name; copy = v.copy; cell = None }) _ refl)
        ∙ sym (array_mark (ref_of x) v (ref_of x).kind refl h)

-- ---- all of them

pub unmark_more : (xs : List Var) (i : ℕ) (x : Var) (old new all : Facts) → i < length xs → x ≡ get_or xs i x → new ≡ unmarked x old
    → quieted (unset (drop i xs)) old ≡ all → quieted (unset (drop (i + 1) xs)) new ≡ all
unmark_more xs i x old new all l e made before =
    let here : drop i xs ≡ x ∷ drop (i + 1) xs = at_drop_more (λ ys. ys) xs i x l ∙ ap (λ (y : Var). y ∷ drop (i + 1) xs) (sym e) in
    ap (λ (s : Facts). quieted (unset (drop (i + 1) xs)) s) made
    ∙ fun_ext (λ f. by (old f) (marks x (subject f)) (is_marked (drop (i + 1) xs) (subject f)))
    ∙ sym (ap (λ (ys : List Var). quieted (unset ys) old) here)
    ∙ before
  where
    by : (a b c : Bool) → ((a && not b) && not c) ≡ (a && not (b || c))
    by true true c = refl
    by true false c = refl
    by false b c = refl

pub unmark_end : (xs : List Var) (i : ℕ) (new all : Facts) → length xs ≤ i → quieted (unset (drop i xs)) new ≡ all → new ≡ all
unmark_end xs i new all l e = fun_ext (λ f. by (new f)) ∙ sym (ap (λ (ys : List Var). quieted (unset ys) new) (drop_of_length-le xs l)) ∙ e
  where
    by : (a : Bool) → a ≡ (a && true)
    by true = refl
    by false = refl
