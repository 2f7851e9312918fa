-- The arguments and the mark make the callee's variables in its copy.
use Rattle.std.proofs.Common.{◌≡◌, ℕ, zero, suc, ◌+◌, ◌≤◌, List, [], ◌∷◌, ◌++◌, map, length, Option, Some, None, Bool, true, false, refl, ap, sym, ◌∙◌, subst, arith, inl, inr, append-nil, append_assoc, length-append}
use Rattle.std.specs.Prelude.{if◌then◌else◌, ◌⊎◌, slice_index, All}
use Rattle.std.specs.Option.{option_or}
use Rattle.std.proofs.lemmas.List.Elements.{All-nil, All-cons}
use Rattle.jz_tree.specs.Span.{Span}
use Rattle.jz_tree.specs.Size.{Size}
use Rattle.jz_tree.specs.declared.expr.Expr.{Expr}
use Rattle.jz_tree.specs.declared.expr.Ty.{Ty}
use Rattle.jz_tree.specs.declared.expr.Access.{Access}
use Rattle.jz_tree.specs.declared.expr.Decl.{Decl}
use Rattle.jz_tree.specs.declared.expr.Var.{Var}
use Rattle.jz_tree.specs.declared.expr.BinOp.{BinOp}
use Rattle.jz_tree.specs.declared.expr.Expr.TheOpen.{Expr-F}
use Rattle.jz_tree.specs.declared.expr.Expr.TheViews.{roll-Expr, out-Expr, roll-out-Expr}
use Rattle.jz_tree.specs.declared.stmt.Lval.{Lval}
use Rattle.jz_tree.specs.declared.stmt.Lval.TheVariants as lval
use Rattle.jz_runs.specs.Rules.{stuck, went}
use Rattle.jz_meaning.specs.declared.access.Kind.{Kind}
use Rattle.jz_meaning.specs.declared.value.Stuck.{Stuck}
use Rattle.jz_meaning.specs.Attempts.{Evaluation, numbers_first, and_then, defined}
use Rattle.jz_meaning.proofs.AttemptLemmas.{first_then}
use Rattle.jz_meaning.proofs.ShapeLemmas.{counted}
use Rattle.jz_meaning.specs.States.{Value, word, boolean, integer, Store, State, put}
use Rattle.jz_meaning.specs.Values.{size_of, Ref, key_of, address_at, load_word, run_binary, Meaning, left_wanted, size_of_operation, gives_word, ref_of, access_of, own_size, evaluated}
use Rattle.jz_meaning.specs.Operators.{is_shift, word_of, negated, inverted}
use Rattle.jz_meaning.specs.Assignments.{left_sizes, held, with_value, written, Results, all_written, assigned}
use Rattle.jz_meaning.specs.Shapes.{Sort, sort_of, Sorts, HoldsSorts, shape_of}
use Rattle.jz_meaning.specs.Statements.{does, passed}
use Rattle.jz_meaning.specs.declared.access.Kind.TheVariants as kind
use Rattle.jz_change.specs.Changes.{number_in}
use Rattle.jz_change.specs.declared.change.Number.TheVariants.{Nth}
use Rattle.jz_change.specs.Fitting.{HasNumber}
use Rattle.jz_bodies.specs.Scopes.{SortIs}
use Rattle.jz_bodies.specs.Calls.{is_array}
use Rattle.jz_inline.specs.Calls.{set_one, from}
use Rattle.jz_inline.proofs.Reading.{meaning_layer, meaning_is}
use Rattle.jz_inline.proofs.Writing.{held_sort}

-- ---- attempts

pub none_first : {A : Type 0} (g : Evaluation A) → numbers_first [] g ≡ g
none_first (stuck w) = refl
none_first (went ns a) = refl

pub then_none : {A : Type 0} (g : Evaluation A) → and_then g (λ x. went [] x) ≡ g
then_none (stuck w) = refl
then_none (went ns a) = ap (λ l. went l a) (append-nil ns)

pub then_then : {A B D : Type 0} (g : Evaluation A) (f : A → Evaluation B) (h : B → Evaluation D) → and_then (and_then g f) h ≡ and_then g (λ x. and_then (f x) h)
then_then (stuck w) f h = refl
then_then (went ns a) f h = sym (first_then ns (f a) h)

-- what has gone, part by part
pub then_went : {A B : Type 0} (g : Evaluation A) (f : A → Evaluation B) (ns : List ℕ) (b : B) → and_then g f ≡ went ns b → (ms : List ℕ) × (a : A) × (ks : List ℕ) × (g ≡ went ms a) × (f a ≡ went ks b) × (ns ≡ ms ++ ks)
then_went (stuck w) f ns b e = absurd cc
then_went {A} {B} (went ms a) f ns b e = let r = by_rest (f a) refl e in (ms, a, r.0, refl, r.1, r.2)
  where
    by_rest : (r : Evaluation B) → f a ≡ r → numbers_first ms r ≡ went ns b → (ks : List ℕ) × (f a ≡ went ks b) × (ns ≡ ms ++ ks)
    by_rest (stuck w) q e2 = absurd cc
    by_rest (went ks b2) q e2 = let p : b2 ≡ b = cc in let n : ns ≡ ms ++ ks = cc in (ks, q ∙ ap (went ks) p, n)

-- what is stuck, in this part or in that
pub then_stuck : {A B : Type 0} (g : Evaluation A) (f : A → Evaluation B) (w : Stuck) → and_then g f ≡ stuck w → (g ≡ stuck w) ⊎ ((ms : List ℕ) × (a : A) × (g ≡ went ms a) × (f a ≡ stuck w))
then_stuck (stuck v) f w e = let p : v ≡ w = cc in inl (ap stuck p)
then_stuck {A} {B} (went ms a) f w e = inr (ms, a, refl, by_rest (f a) refl e)
  where
    by_rest : (r : Evaluation B) → f a ≡ r → numbers_first ms r ≡ stuck w → f a ≡ stuck w
    by_rest (stuck v) q e2 = let p : v ≡ w = cc in q ∙ ap stuck p
    by_rest (went ks b2) q e2 = absurd cc

pub first_stuck : {A : Type 0} (ns : List ℕ) (g : Evaluation A) (w : Stuck) → numbers_first ns g ≡ stuck w → g ≡ stuck w
first_stuck ns (stuck v) w e = let p : v ≡ w = cc in ap stuck p
first_stuck ns (went ms a) w e = absurd cc

-- ---- the size that is wanted

or_same : (a : Option Size) → option_or a a ≡ a
or_same None = refl
or_same (Some z) = refl

or_none : (a b : Option Size) → option_or a a ≡ option_or a None
or_none None b = refl
or_none (Some z) b = refl

own_wanted : (op : BinOp) (a b : Option Size) → left_wanted op (size_of_operation op a b) a b ≡ left_wanted op None a b
own_wanted op a b = by_test (gives_word op) (is_shift op)
  where
    by_test : (v h : Bool) → (if v then option_or (if v then (if h then a else option_or a b) else None) (if v then (if h then a else option_or a b) else None) else option_or a b) ≡ (if v then option_or None (if v then (if h then a else option_or a b) else None) else option_or a b)
    by_test true true = or_same a
    by_test true false = or_same (option_or a b)
    by_test false h = refl

abbrev Layer : Type 0
Layer = Expr-F Expr Ty Access Decl Var

own_layer : (y : Layer) (s : State) → (meaning_layer y).run (meaning_layer y).size s ≡ (meaning_layer y).run None s
own_layer (Expr-F.Num n at) s = refl
own_layer (Expr-F.Expr::Bool c at) s = refl
own_layer (Expr-F.Var v) s = refl
own_layer (Expr-F.Cell v i) s = refl
own_layer (Expr-F.Load a) s =
    let p = access_of a in ap (λ z. and_then (p.at s) (λ v. and_then (address_at p v) (λ b. load_word p.span p.unaligned z b s.memory))) (or_none p.size None)
own_layer (Expr-F.Neg e at) s = ap (λ z. and_then (evaluated e z s) (λ v. defined at (negated v))) (or_same (own_size e))
own_layer (Expr-F.Not e at) s = ap (λ z. and_then (evaluated e z s) (λ v. went [] (inverted v))) (or_same (own_size e))
own_layer (Expr-F.Cast z sign e at) s = refl
own_layer (Expr-F.Bin op a b at) s = ap (λ z. run_binary op (evaluated a) (evaluated b) at z s) (own_wanted op (own_size a) (own_size b))

own_of : (e : Expr) (s : State) (y : Layer) → roll-Expr y ≡ e → evaluated e (own_size e) s ≡ evaluated e None s
own_of e s y q = subst (λ k. evaluated k (own_size k) s ≡ evaluated k None s) q (ap (λ (m : Meaning). m.run m.size s) (meaning_is y) ∙ own_layer y s ∙ ap (λ (m : Meaning). m.run None s) (sym (meaning_is y)))

-- with its own size an expression is as it is by itself
pub own_size_so : (e : Expr) (s : State) → evaluated e (own_size e) s ≡ evaluated e None s
own_size_so e s = own_of e s (out-Expr e) (roll-out-Expr e)

-- ---- one variable or place is set

pub set_so : (d : Lval) (e : Expr) (at : Span) (t : State) → assigned (d ∷ []) None e None at t ≡ and_then (evaluated e (option_or (left_sizes (d ∷ [])) (own_size e)) t) (λ u. written (option_or (left_sizes (d ∷ [])) (own_size e)) d (Some u) t)
set_so d e at t =
    let z = option_or (left_sizes (d ∷ [])) (own_size e) in
    let G = λ (ws : Results). all_written at z (d ∷ []) ws t in
    let F = λ (vs : Results). and_then (went [] vs) G in
    let one : (u : Value) → F (Some u ∷ []) ≡ written z d (Some u) t = (λ u. none_first (G (Some u ∷ [])) ∙ then_none (written z d (Some u) t)) in
    then_then (evaluated e z t) (λ u. went [] (Some u ∷ [])) F ∙ ap (and_then (evaluated e z t)) (λ i u. (none_first (F (Some u ∷ [])) ∙ one u) i)

value_size : (k : Kind) → is_array k ≡ false → (e : Expr) (t : State) → evaluated e (option_or (option_or (size_of k) None) (own_size e)) t ≡ evaluated e (size_of k) t
value_size (kind.Word z) f e t = refl
value_size kind.Int f e t = own_size_so e t
value_size kind.Bool f e t = own_size_so e t
value_size kind.Undeclared f e t = own_size_so e t
value_size (kind.Array z n) f e t = absurd cc

-- what is set: the value, as the variable holds it
abbrev pub value_for : Ref → Expr → State → Evaluation Value
value_for r e s = and_then (evaluated e (size_of r.kind) s) (held r.span r.kind)

pub set_var : (v : Var) (e : Expr) (at : Span) (t : State) → is_array (ref_of v).kind ≡ false → does (set_one (lval.Var v) e at) t ≡ and_then (value_for (ref_of v) e t) (λ h. went [] (with_value t (key_of (ref_of v)) (Some h)))
set_var v e at t f =
    let r = ref_of v in
    let K = λ (h : Option Value). and_then (went [] h) (λ (o : Option Value). went [] (with_value t (key_of r) o)) in
    let one : (u : Value) → and_then (and_then (held r.span r.kind u) (λ h. went [] (Some h))) (λ o. went [] (with_value t (key_of r) o)) ≡ and_then (held r.span r.kind u) (λ h. went [] (with_value t (key_of r) (Some h)))
    = (λ u. then_then (held r.span r.kind u) (λ h. went [] (Some h)) (λ o. went [] (with_value t (key_of r) o))) in
    set_so (lval.Var v) e at t
    ∙ ap (λ y. and_then y (λ u. written None (lval.Var v) (Some u) t)) (value_size r.kind f e t)
    ∙ ap (and_then (evaluated e (size_of r.kind) t)) (λ i u. one u i)
    ∙ sym (then_then (evaluated e (size_of r.kind) t) (held r.span r.kind) (λ h. went [] (with_value t (key_of r) (Some h))))

pub passed_value : (at : Span) (r : Ref) (e : Expr) (s : State) (store : Store) → is_array r.kind ≡ false → passed at r.kind r e s store ≡ and_then (value_for r e s) (λ h. went [] (put store (key_of r) (Some h)))
passed_value at r e s store f = by_kind r.kind f ∙ sym (then_then (evaluated e (size_of r.kind) s) (held r.span r.kind) (λ h. went [] (put store (key_of r) (Some h))))
  where
    by_kind : (k : Kind) → is_array k ≡ false → passed at k r e s store ≡ and_then (evaluated e (size_of k) s) (λ v. and_then (held r.span k v) (λ h. went [] (put store (key_of r) (Some h))))
    by_kind (kind.Word z) f = refl
    by_kind kind.Int f = refl
    by_kind kind.Bool f = refl
    by_kind kind.Undeclared f = refl
    by_kind (kind.Array z n) f = absurd cc

-- ---- numbers of an argument

pub held_none : (at : Span) (k : Kind) (v : Value) (ns : List ℕ) (h : Value) → held at k v ≡ went ns h → length ns ≡ 0
held_none at (kind.Word z) v ns h e = of_word (word_of z v) e
  where
    of_word : (o : Option ℕ) → and_then (defined at o) (λ a. went [] (word z a)) ≡ went ns h → length ns ≡ 0
    of_word None e = absurd cc
    of_word (Some a) e = let q : ns ≡ [] = cc in ap length q
held_none at kind.Int (integer n) ns h e = let q : ns ≡ [] = cc in ap length q
held_none at kind.Int (word s a) ns h e = absurd cc
held_none at kind.Int (boolean c) ns h e = absurd cc
held_none at kind.Bool (boolean c) ns h e = let q : ns ≡ [] = cc in ap length q
held_none at kind.Bool (word s a) ns h e = absurd cc
held_none at kind.Bool (integer n) ns h e = absurd cc
held_none at (kind.Array s n) v ns h e = absurd cc
held_none at kind.Undeclared v ns h e = absurd cc

pub value_width : (sorts : Sorts) (r : Ref) (e : Expr) (s : State) (ns : List ℕ) (h : Value) → HoldsSorts sorts s.store → (shape_of sorts e).fixed ≡ true → value_for r e s ≡ went ns h → length ns ≡ (shape_of sorts e).count
value_width sorts r e s ns h holds fixed q =
    let p = then_went (evaluated e (size_of r.kind) s) (held r.span r.kind) ns h q in
    let a = counted sorts e (size_of r.kind) s p.0 p.1 holds fixed p.3 in
    let b = held_none r.span r.kind p.1 p.2 h p.4 in
    omega (arith, a, b, length-append p.0 p.2, ap length p.5)

pub value_sort : (r : Ref) (e : Expr) (s : State) (ns : List ℕ) (h : Value) (z : Sort) → SortIs r.kind z → value_for r e s ≡ went ns h → sort_of h ≡ z
value_sort r e s ns h z k q = let p = then_went (evaluated e (size_of r.kind) s) (held r.span r.kind) ns h q in held_sort r.span r.kind p.1 p.2 h z k p.4

-- the numbers from i on
at_seam : (pre : List ℕ) (n : ℕ) (post : List ℕ) → slice_index (pre ++ n ∷ post) (length pre) ≡ n
at_seam [] n post = refl
at_seam (y ∷ pre) n post = at_seam pre n post

pub from_so : (i : ℕ) (all pre ns post : List ℕ) → i ≡ length pre → all ≡ pre ++ (ns ++ post) → map (number_in all) (from i (length ns)) ≡ ns
from_so i all pre [] post e q = refl
from_so i all pre (n ∷ ns) post e q =
    let seam : slice_index all i ≡ n = ap (λ l. slice_index l i) q ∙ ap (slice_index (pre ++ n ∷ (ns ++ post))) e ∙ at_seam pre n (ns ++ post) in
    let len = length-append pre (n ∷ []) in
    let more = from_so (suc i) all (pre ++ n ∷ []) ns post (omega (arith, e, len)) (q ∙ sym (append_assoc pre (n ∷ []) (ns ++ post))) in
    ap (λ y. y ∷ map (number_in all) (from (suc i) (length ns))) seam ∙ ap (λ l. n ∷ l) more

-- and they are there
pub from_within : (all : List ℕ) (i n : ℕ) → i + n ≤ length all → All (HasNumber all) (from i n)
from_within all i zero le = All-nil (HasNumber all)
from_within all i (suc n) le =
    All-cons (HasNumber all) (Nth i) (from (suc i) n) (omega (arith, le)) (from_within all (suc i) n (omega (arith, le)))
