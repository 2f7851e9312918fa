-- The variables that a function declares stand in the order of the text.
use Rattle.std.proofs.Common.{◌≡◌, inl, inr, ℕ, zero, suc, List, [], ◌∷◌, ◌++◌, Option, Some, None, map, flat_map, refl, sym, ap, ap₂, ◌∙◌, subst, codes}
use Rattle.std.specs.Prelude.{AllPairs}
use Rattle.std.proofs.lemmas.List.{map-append}
use Rattle.jz_tree.specs.Span.{Span}
use Rattle.jz_grammar.specs.Kinds.{Kind}
use Rattle.jz_grammar.specs.Grammar.{Marked, Lang, ◌▸◌, ◌⊕◌, ◌⇒◌, opens, each, maybe}
use Rattle.jz_grammar.specs.Parts.{or_empty, joined_lists}
use Rattle.jz_grammar.specs.Tokens.{name_of}
use Rattle.jz_tree.specs.declared.expr.Expr.{Expr}
use Rattle.jz_tree.specs.declared.expr.Ty.{Ty}
use Rattle.jz_tree.specs.declared.expr.Access.{Access}
use Rattle.jz_tree.specs.declared.expr.Decl.{Decl}
use Rattle.jz_tree.specs.declared.expr.Var.{Var}
use Rattle.jz_tree.specs.declared.expr.Expr.TheOpen.{Var-F}
use Rattle.jz_tree.specs.declared.expr.Expr.TheViews.{out-Var, out-roll-Var}
use Rattle.jz_tree.specs.declared.program.Fun.{Fun}
use Rattle.jz_tree.specs.declared.program.Note.{Note}
use Rattle.jz_tree.specs.declared.program.Param.{Param}
use Rattle.jz_tree.specs.declared.stmt.Stmt.{Stmt}
use Rattle.jz_parse.specs.declared.function.Body.{Body}
use Rattle.jz_parse.specs.declared.function.Item.{Item}
use Rattle.jz_parse.specs.declared.function.Item.TheVariants.{Declares, Does}
use Rattle.jz_parse.specs.Trees.{declared_of, declared_all, params_all, vars_in}
use Rattle.jz_parse.specs.ParseExprTable as e
use Rattle.jz_parse.specs.NotesTable as n
use Rattle.jz_parse.specs.Table.{stmt}
use Rattle.jz_parse.specs.Grammar as g
use Rattle.jz_type_names.specs.Order.{Before}
use Rattle.jz_type_names.specs.Scopes.{variables_of}
use Rattle.jz_texts.specs.Texts.{StandsBefore}
use Rattle.jz_texts.proofs.Lists.{IsPart, nothing, kept, part_append, part_pairs, pairs_unmap}

abbrev places : List Marked → List Span
places xs = map (λ (x : Marked). x.0.span) xs

-- the places that a phrase stands for are among those of its tokens, in their order
abbrev Stands : {A : Type 0} → Lang A → (A → List Span) → Type 0
Stands {A} l at = (xs : List Marked) (a : A) → l xs a → IsPart (at a) (places xs)

abbrev nowhere : {A : Type 0} → A → List Span
nowhere a = []

joined : (ys zs xs : List Marked) (us vs : List Span) → xs ≡ ys ++ zs → IsPart us (places ys) → IsPart vs (places zs) → IsPart (us ++ vs) (places xs)
joined ys zs xs us vs e h k =
    subst (λ w. IsPart (us ++ vs) (places w)) (sym e)
    (subst (IsPart (us ++ vs)) (sym (map-append (λ (x : Marked). x.0.span) ys zs)) (part_append h k))

any : {A : Type 0} (l : Lang A) → Stands l nowhere
any l xs a h = nothing

two : {A B : Type 0} {l : Lang A} {m : Lang B} {f : A → List Span} {k : B → List Span} → Stands l f → Stands m k → Stands (l ▸ m) (λ p. f p.0 ++ k p.1)
two {f = f} {k = k} L M xs p h = joined h.0 h.1 xs (f p.0) (k p.1) h.4 (L h.0 p.0 h.2) (M h.1 p.1 h.3)

seen : {A B : Type 0} {l : Lang A} {f : A → List Span} (k : B → List Span) (to : A → B) → ((a : A) → k (to a) ≡ f a) → Stands l f → Stands (l ⇒ to) k
seen k to same L xs b h = subst (λ z. IsPart (k z) (places xs)) h.2 (subst (λ z. IsPart z (places xs)) (sym (same h.0)) (L xs h.0 h.1))

either : {A : Type 0} {l m : Lang A} {f : A → List Span} → Stands l f → Stands m f → Stands (l ⊕ m) f
either L M xs a (inl h) = L xs a h
either L M xs a (inr h) = M xs a h

every : {A : Type 0} {l : Lang A} (f : A → List Span) → Stands l f → Stands (each l) (flat_map f)
every f L xs [] h = nothing
every f L xs (a ∷ as') h = joined h.0 h.1 xs (f a) (flat_map f as') h.4 (L h.0 a h.2) (every f L h.1 as' h.3)

abbrev if_some : {A : Type 0} → (A → List Span) → Option A → List Span
if_some f None = []
if_some f (Some a) = f a

perhaps : {A : Type 0} {l : Lang A} (f : A → List Span) → Stands l f → Stands (maybe l) (if_some f)
perhaps f L xs o (inl h) = subst (λ z. IsPart (if_some f z) (places xs)) h.2 (L xs h.0 h.1)
perhaps f L xs o (inr h) = subst (λ z. IsPart (if_some f z) (places xs)) h.1 nothing

within : {A : Type 0} (ks : List Kind) (inner : ℕ → Lang A) (f : A → List Span) (d : ℕ) → ((b : ℕ) → Stands (inner b) f) → Stands (opens ks inner d) (λ p. f p.1)
within ks inner f zero L xs p h = absurd h.1
within ks inner f (suc d) L xs p h =
    subst (λ z. IsPart (f z.1) (places xs)) h.2
    (joined h.1.0 h.1.1 xs [] (f h.0.1) h.1.4 nothing (L d h.1.1 h.0.1 h.1.3))

-- ---- names
abbrev at_name : List ℕ × Span → List Span
at_name n = n.1 ∷ []

name : (d : ℕ) → Stands (e.name d) at_name
unfolding name_of
name d xs m h =
    subst (λ z. IsPart (at_name z) (places xs)) h.2
    (subst (λ w. IsPart (h.0.span ∷ []) (places w)) (sym h.1.0) (kept nothing))

-- ---- variables
abbrev VarLayer : Type 0
VarLayer = Var-F Expr Ty Access Decl Var

abbrev at_var : Var → List Span
at_var v = (out-Var v).span ∷ []

declared_at : (t : Decl) (m : List ℕ × Span) → at_var (declared_of t m) ≡ at_name m
declared_at t m = ap (λ (y : VarLayer). y.span ∷ []) (out-roll-Var _)

names_at : (t : Decl) (ms : List (List ℕ × Span)) → flat_map at_var (declared_all t ms) ≡ flat_map at_name ms
names_at t [] = refl
names_at t (m ∷ ms) = ap₂ (λ x y. x ++ y) (declared_at t m) (names_at t ms)

abbrev at_param : Param → List Span
at_param p = at_var p.var

params_at : (ns : List Note) (t : Decl) (ms : List (List ℕ × Span)) → flat_map at_param (params_all ns t ms) ≡ flat_map at_name ms
params_at ns t [] = refl
params_at ns t (m ∷ ms) = ap₂ (λ x y. x ++ y) (declared_at t m) (params_at ns t ms)

flat_append : {A : Type 0} (f : A → List Span) (xs ys : List A) → flat_map f (xs ++ ys) ≡ flat_map f xs ++ flat_map f ys
flat_append f [] ys = refl
flat_append f (x ∷ xs) ys = ap (λ l. f x ++ l) (flat_append f xs ys) ∙ assoc (f x) (flat_map f xs) (flat_map f ys)
  where
    assoc : (us vs ws : List Span) → us ++ (vs ++ ws) ≡ (us ++ vs) ++ ws
    assoc [] vs ws = refl
    assoc (u ∷ us) vs ws = ap (λ l. u ∷ l) (assoc us vs ws)

flat_joined : {A : Type 0} (f : A → List Span) (xss : List (List A)) → flat_map f (joined_lists xss) ≡ flat_map (flat_map f) xss
flat_joined f [] = refl
flat_joined f (xs ∷ xss) = flat_append f xs (joined_lists xss) ∙ ap (λ l. flat_map f xs ++ l) (flat_joined f xss)

or_empty_at : {A : Type 0} (f : A → List Span) (o : Option (List A)) → flat_map f (or_empty o) ≡ if_some (flat_map f) o
or_empty_at f None = refl
or_empty_at f (Some xs) = refl

comma : {A : Type 0} (l : ℕ → Lang A) (f : A → List Span) (d : ℕ) → Stands (l d) f → Stands (g.comma l d) f
comma l f d L = seen f (λ p. p.1) (λ p. refl) (two (any (e.the (codes ",") d)) L)

-- ---- parameters
group : (d : ℕ) → Stands (g.group d) (flat_map at_param)
group d =
    seen (flat_map at_param) (λ (ns, (t, xs)). params_all ns t xs) (λ p. params_at p.0 p.1.0 p.1.1)
    (two (any (n.notes d)) (two (any (g.declaration d)) name_list))
  where
    name_list : Stands (g.name_list d) (flat_map at_name)
    name_list = seen (flat_map at_name) (λ p. p.0 ∷ p.1) (λ p. refl) (two (name d) (every at_name (name d)))

groups : (d : ℕ) → Stands (g.groups d) (flat_map at_param)
groups d =
    seen (flat_map at_param) (λ p. p.0 ++ joined_lists p.1) (λ p. flat_append at_param p.0 (joined_lists p.1) ∙ ap (λ l. flat_map at_param p.0 ++ l) (flat_joined at_param p.1))
    (two (group d) (every (flat_map at_param) (comma g.group (flat_map at_param) d (group d))))

no_more : (xs : List Span) → xs ≡ xs ++ []
no_more [] = refl
no_more (x ∷ xs) = ap (λ l. x ∷ l) (no_more xs)

params : (d : ℕ) → Stands (g.params d) (flat_map at_param)
params d =
    seen (flat_map at_param) (λ (_, (gs, _)). or_empty gs) (λ p. or_empty_at at_param p.1.0 ∙ no_more (if_some (flat_map at_param) p.1.0))
    (within _ (λ b. maybe (g.groups b) ▸ e.the (codes ")") b) (λ q. if_some (flat_map at_param) q.0 ++ []) d
    (λ b. two (perhaps (flat_map at_param) (groups b)) (any (e.the (codes ")") b))))

-- ---- variables of the body
decl : (d : ℕ) → Stands (g.decl d) (flat_map at_var)
decl d =
    seen (flat_map at_var) (λ (t, (xs, _)). declared_all t xs) (λ p. names_at p.0 p.1.0 ∙ no_more (flat_map at_name p.1.0))
    (two (any (g.declaration d)) (two all (any (e.the (codes ";") d))))
  where
    one : Stands (g.next_name d) at_name
    one = seen at_name (λ p. p.1) (λ p. refl) (two (any (maybe (e.the (codes ",") d))) (name d))

    all : Stands (g.declared_names d) (flat_map at_name)
    all = seen (flat_map at_name) (λ p. p.0 ∷ p.1) (λ p. refl) (two (name d) (every at_name one))

abbrev at_item : Item → List Span
at_item (Declares vs) = flat_map at_var vs
at_item (Does s) = []

items_at : (is : List Item) → flat_map at_var (vars_in is) ≡ flat_map at_item is
items_at [] = refl
items_at (Declares vs ∷ is) = flat_append at_var vs (vars_in is) ∙ ap (λ l. flat_map at_var vs ++ l) (items_at is)
items_at (Does s ∷ is) = items_at is

item : (d : ℕ) → Stands (g.item d) at_item
item d = either (seen at_item Declares (λ vs. refl) (decl d)) (seen at_item Does (λ s. refl) (any (stmt d)))

items : (d : ℕ) → Stands (g.items d) (λ p. flat_map at_var p.0)
items d = seen (λ (p : List Var × List Stmt). flat_map at_var p.0) _ items_at (every at_item (item d))

body : (d : ℕ) → Stands (g.body d) (λ b. flat_map at_var b.vars)
body d =
    seen (λ (b : Body). flat_map at_var b.vars) _ (λ p. no_more (flat_map at_var p.1.0.0))
    (within _ (λ b. g.items b ▸ g.ending b ▸ e.the (codes "}") b) (λ q. flat_map at_var q.0.0 ++ []) d
    (λ b. two (items b) (any (g.ending b ▸ e.the (codes "}") b))))

-- ---- functions
abbrev at_fun : Fun → List Span
at_fun f = flat_map at_param f.params ++ flat_map at_var f.vars

function : (d : ℕ) → Stands (g.function d) at_fun
function d =
    seen at_fun _ (λ p. refl)
    (two (any (n.notes d)) (two (any (g.kind d)) (two (any (e.key (codes "fn") d)) (two (any (e.name d)) (two (params d) (two (any (g.results d)) (body d)))))))

params_vars : (ps : List Param) → flat_map at_param ps ≡ flat_map at_var (map (λ p. p.var) ps)
params_vars [] = refl
params_vars (p ∷ ps) = ap (λ l. (out-Var p.var).span ∷ l) (params_vars ps)

vars_map : (vs : List Var) → flat_map at_var vs ≡ map (λ v. (out-Var v).span) vs
vars_map [] = refl
vars_map (v ∷ vs) = ap (λ l. (out-Var v).span ∷ l) (vars_map vs)

fun_vars : (f : Fun) → at_fun f ≡ map (λ v. (out-Var v).span) (variables_of f)
fun_vars f =
    ap (λ l. l ++ flat_map at_var f.vars) (params_vars f.params)
    ∙ sym (flat_append at_var (map (λ p. p.var) f.params) f.vars)
    ∙ vars_map (variables_of f)

pub function_ascends : (d : ℕ) (xs : List Marked) (f : Fun) → g.function d xs f → AllPairs Before (places xs) → AllPairs StandsBefore (variables_of f)
function_ascends d xs f h a =
    pairs_unmap Before (λ v. (out-Var v).span) (variables_of f)
    (subst (AllPairs Before) (fun_vars f) (part_pairs Before (function d xs f h) a))
