-- The variables of a function are among those of its frame.
use Rattle.std.proofs.Common.{◌≡◌, ℕ, zero, suc, ◌<◌, Bool, true, false, List, [], ◌∷◌, ◌++◌, map, length, get_or, Contains, refl, subst, arith, if◌then◌else◌}
use Rattle.jz_tree.specs.Span.{Span}
use Rattle.jz_tree.specs.declared.expr.Var.{Var}
use Rattle.jz_tree.specs.declared.expr.Expr.TheViews.{out-Var}
use Rattle.jz_tree.specs.declared.program.Fun.{Fun}
use Rattle.jz_type_names.specs.Order.{is_before}
use Rattle.jz_inline.specs.Names.{Names, var_in}
use Rattle.jz_frames.specs.Frames.{Group, behind, merged, frame_in, groups, copies_in, calls_in}
use Rattle.jz_compiling.proofs.StackLemmas.{in_second}

pub later : {A : Type 0} (x : A) (xs : List A) (y : A) → Contains xs y → Contains (x ∷ xs) y
later x xs y h = (suc h.0, omega (arith, h.1), h.2)

here : {A : Type 0} (x : A) (xs : List A) → Contains (x ∷ xs) x
here x xs = (0, omega arith, refl)

first_or : (b : Bool) (g : Group) (v w : Var) (rest : List Group → List Var) (more : List Var) (gs : List Group) → Contains more w → Contains (v ∷ rest (g ∷ gs)) w → Contains (if b then g.vars ++ more else (v ∷ rest (g ∷ gs))) w
first_or true g v w rest more gs a b = in_second g.vars more w a
first_or false g v w rest more gs a b = b

here_behind : (v : Var) (at : Span) (rest : List Group → List Var) (gs : List Group) → Contains (behind v at rest gs) v
here_behind v at rest [] = here v (rest [])
here_behind v at rest (g ∷ gs) = first_or (is_before g.at at) g v v rest (behind v at rest gs) gs (here_behind v at rest gs) (here v (rest (g ∷ gs)))

later_behind : (v w : Var) (at : Span) (rest : List Group → List Var) → ((gs : List Group) → Contains (rest gs) w) → (gs : List Group) → Contains (behind v at rest gs) w
later_behind v w at rest h [] = later v (rest []) w (h [])
later_behind v w at rest h (g ∷ gs) = first_or (is_before g.at at) g v w rest (behind v at rest gs) gs (later_behind v w at rest h gs) (later v (rest (g ∷ gs)) w (h (g ∷ gs)))

in_merged : (names : Names) (vs : List Var) (k : ℕ) (v : Var) → k < length vs → get_or vs k v ≡ v → (gs : List Group) → Contains (merged names vs gs) (var_in names v)
in_merged names [] k v lt e gs = absurd (omega (arith, lt))
in_merged names (x ∷ vs) zero v lt e gs = subst (λ y. Contains (merged names (x ∷ vs) gs) (var_in names y)) e (here_behind (var_in names x) (out-Var x).span (merged names vs) gs)
in_merged names (x ∷ vs) (suc k) v lt e gs = later_behind (var_in names x) (var_in names v) (out-Var x).span (merged names vs) (λ hs. in_merged names vs k v (omega (arith, lt)) e hs) gs

in_map : {A B : Type 0} (f : A → B) (xs : List A) (k : ℕ) (x : A) → k < length xs → get_or xs k x ≡ x → Contains (map f xs) (f x)
in_map f [] k x lt e = absurd (omega (arith, lt))
in_map f (y ∷ xs) zero x lt e = subst (λ z. Contains (map f (y ∷ xs)) (f z)) e (here (f y) (map f xs))
in_map f (y ∷ xs) (suc k) x lt e = later (f y) (map f xs) (f x) (in_map f xs k x (omega (arith, lt)) e)

pub in_frame : (fs : List Fun) (depth : ℕ) (names : Names) (j : ℕ) (f : Fun) (v : Var) → Contains f.vars v → Contains (frame_in fs depth names j f) (var_in names v)
in_frame fs zero names j f v h = in_map (var_in names) f.vars h.0 v h.1 h.2
in_frame fs (suc depth) names j f v h = in_merged names f.vars h.0 v h.1 h.2 (groups (frame_in fs depth) (copies_in fs depth) names j (calls_in fs (suc depth) f.body))
