-- Lists of variables that differ.
use Rattle.std.proofs.Common.{ℕ, ◌<◌, ◌≤◌, Bool, true, false, List, [], ◌∷◌, ◌++◌, map, sym, arith}
use Rattle.std.specs.Prelude.{⊤, if◌then◌else◌}
use Rattle.std.specs.List.{filter}
use Rattle.jz_tree.specs.Span.{Span}
use Rattle.jz_tree.specs.declared.expr.Var.{Var}
use Rattle.jz_tree.specs.declared.expr.Expr.TheViews.{out-Var}
use Rattle.jz_type_names.specs.Order.{is_before}
use Rattle.jz_meaning.specs.Values.{ref_of}
use Rattle.jz_inline.specs.Names.{Names, var_in}
use Rattle.jz_frames.specs.Frames.{Group, all_in, behind, merged}
use Rattle.jz_declared.specs.Declared.{IsOther, AreOther, Differ}

-- each of the one list is other than each of the other
abbrev pub EachOther : List Var → List Var → Type 0
EachOther [] ys = ⊤
EachOther (x ∷ xs) ys = AreOther x ys × EachOther xs ys

pub turned : (x y : Var) → IsOther x y → IsOther y x
turned x y h = λ e f. h (sym e) (sym f)

pub other_both : (x : Var) (ys zs : List Var) → AreOther x ys → AreOther x zs → AreOther x (ys ++ zs)
other_both x [] zs h k = k
other_both x (y ∷ ys) zs h k = (h.0, other_both x ys zs h.1 k)

pub other_first : (x : Var) (ys zs : List Var) → AreOther x (ys ++ zs) → AreOther x ys
other_first x [] zs h = tt
other_first x (y ∷ ys) zs h = (h.0, other_first x ys zs h.1)

pub other_second : (x : Var) (ys zs : List Var) → AreOther x (ys ++ zs) → AreOther x zs
other_second x [] zs h = h
other_second x (y ∷ ys) zs h = other_second x ys zs h.1

pub each_nil : (xs : List Var) → EachOther xs []
each_nil [] = tt
each_nil (x ∷ xs) = (tt, each_nil xs)

pub each_more : (xs : List Var) (y : Var) (ys : List Var) → AreOther y xs → EachOther xs ys → EachOther xs (y ∷ ys)
each_more [] y ys h k = tt
each_more (x ∷ xs) y ys h k = ((turned y x h.0, k.0), each_more xs y ys h.1 k.1)

pub each_turned : (xs ys : List Var) → EachOther xs ys → EachOther ys xs
each_turned [] ys h = each_nil ys
each_turned (x ∷ xs) ys h = each_more ys x xs h.0 (each_turned xs ys h.1)

pub each_both : (xs ys zs : List Var) → EachOther xs ys → EachOther xs zs → EachOther xs (ys ++ zs)
each_both [] ys zs h k = tt
each_both (x ∷ xs) ys zs h k = (other_both x ys zs h.0 k.0, each_both xs ys zs h.1 k.1)

pub each_first : (xs ys zs : List Var) → EachOther xs (ys ++ zs) → EachOther xs ys
each_first [] ys zs h = tt
each_first (x ∷ xs) ys zs h = (other_first x ys zs h.0, each_first xs ys zs h.1)

pub each_second : (xs ys zs : List Var) → EachOther xs (ys ++ zs) → EachOther xs zs
each_second [] ys zs h = tt
each_second (x ∷ xs) ys zs h = (other_second x ys zs h.0, each_second xs ys zs h.1)

pub differ_both : (xs ys : List Var) → Differ xs → Differ ys → EachOther xs ys → Differ (xs ++ ys)
differ_both [] ys h k e = k
differ_both (x ∷ xs) ys h k e = (other_both x xs ys h.0 e.0, differ_both xs ys h.1 k e.1)

pub differ_first : (xs ys : List Var) → Differ (xs ++ ys) → Differ xs
differ_first [] ys h = tt
differ_first (x ∷ xs) ys h = (other_first x xs ys h.0, differ_first xs ys h.1)

pub differ_second : (xs ys : List Var) → Differ (xs ++ ys) → Differ ys
differ_second [] ys h = h
differ_second (x ∷ xs) ys h = differ_second xs ys h.1

pub differ_apart : (xs ys : List Var) → Differ (xs ++ ys) → EachOther xs ys
differ_apart [] ys h = tt
differ_apart (x ∷ xs) ys h = (other_second x xs ys h.0, differ_apart xs ys h.1)

-- ---- parts
other_filter : (x : Var) (keep : Var → Bool) (ys : List Var) → AreOther x ys → AreOther x (filter keep ys)
other_filter x keep [] h = tt
other_filter x keep (y ∷ ys) h = by_test (keep y) (other_filter x keep ys h.1)
  where
    by_test : (b : Bool) → AreOther x (filter keep ys) → AreOther x (if b then y ∷ filter keep ys else filter keep ys)
    by_test true k = (h.0, k)
    by_test false k = k

differ_filter : (keep : Var → Bool) (xs : List Var) → Differ xs → Differ (filter keep xs)
differ_filter keep [] h = tt
differ_filter keep (x ∷ xs) h = by_test (keep x) (differ_filter keep xs h.1)
  where
    by_test : (b : Bool) → Differ (filter keep xs) → Differ (if b then x ∷ filter keep xs else filter keep xs)
    by_test true k = (other_filter x keep xs h.0, k)
    by_test false k = k

each_filter : (xs : List Var) (keep : Var → Bool) (ys : List Var) → EachOther xs ys → EachOther xs (filter keep ys)
each_filter [] keep ys h = tt
each_filter (x ∷ xs) keep ys h = (other_filter x keep ys h.0, each_filter xs keep ys h.1)

pub differ_part : (keep : Var → Bool) (xs ys : List Var) → Differ (xs ++ ys) → Differ (xs ++ filter keep ys)
differ_part keep xs ys h =
    differ_both xs (filter keep ys) (differ_first xs ys h) (differ_filter keep ys (differ_second xs ys h)) (each_filter xs keep ys (differ_apart xs ys h))

-- ---- variables with groups between them
other_behind : (u v : Var) (at : Span) (rest : List Group → List Var) (gs : List Group) → IsOther u v → ((hs : List Group) → AreOther u (all_in hs) → AreOther u (rest hs)) → AreOther u (all_in gs) → AreOther u (behind v at rest gs)
other_behind u v at rest [] h k g = (h, k [] tt)
other_behind u v at rest (x ∷ gs) h k g = by_test (is_before x.at at) (other_behind u v at rest gs h k (other_second u x.vars (all_in gs) g))
  where
    by_test : (b : Bool) → AreOther u (behind v at rest gs) → AreOther u (if b then x.vars ++ behind v at rest gs else (v ∷ rest (x ∷ gs)))
    by_test true l = other_both u x.vars (behind v at rest gs) (other_first u x.vars (all_in gs) g) l
    by_test false l = (h, k (x ∷ gs) g)

pub other_merged : (u : Var) (names : Names) (vs : List Var) (gs : List Group) → AreOther u (map (var_in names) vs) → AreOther u (all_in gs) → AreOther u (merged names vs gs)
other_merged u names [] gs h g = g
other_merged u names (v ∷ vs) gs h g = other_behind u (var_in names v) (out-Var v).span (merged names vs) gs h.0 (λ hs k. other_merged u names vs hs h.1 k) g

each_behind : (xs : List Var) (v : Var) (at : Span) (names : Names) (vs : List Var) (gs : List Group) → EachOther xs (v ∷ map (var_in names) vs) → EachOther xs (all_in gs) → EachOther xs (behind v at (merged names vs) gs)
each_behind [] v at names vs gs h g = tt
each_behind (x ∷ xs) v at names vs gs h g = (other_behind x v at (merged names vs) gs h.0.0 (λ hs k. other_merged x names vs hs h.0.1 k) g.0, each_behind xs v at names vs gs h.1 g.1)

differ_behind : (v : Var) (at : Span) (names : Names) (vs : List Var) (gs : List Group) → ((hs : List Group) → Differ (all_in hs) → EachOther (map (var_in names) vs) (all_in hs) → Differ (merged names vs hs)) → AreOther v (map (var_in names) vs)
    → Differ (all_in gs) → EachOther (all_in gs) (v ∷ map (var_in names) vs) → Differ (behind v at (merged names vs) gs)
differ_behind v at names vs [] rest other g e = (other_merged v names vs [] other tt, rest [] tt (each_nil (map (var_in names) vs)))
differ_behind v at names vs (x ∷ gs) rest other g e = by_test (is_before x.at at) (differ_behind v at names vs gs rest other (differ_second x.vars (all_in gs) g) later)
  where
    turned_all : EachOther (v ∷ map (var_in names) vs) (x.vars ++ all_in gs)
    turned_all = each_turned (x.vars ++ all_in gs) (v ∷ map (var_in names) vs) e

    first : EachOther x.vars (v ∷ map (var_in names) vs)
    first = each_turned (v ∷ map (var_in names) vs) x.vars (each_first (v ∷ map (var_in names) vs) x.vars (all_in gs) turned_all)

    later : EachOther (all_in gs) (v ∷ map (var_in names) vs)
    later = each_turned (v ∷ map (var_in names) vs) (all_in gs) (each_second (v ∷ map (var_in names) vs) x.vars (all_in gs) turned_all)

    by_test : (b : Bool) → Differ (behind v at (merged names vs) gs) → Differ (if b then x.vars ++ behind v at (merged names vs) gs else (v ∷ merged names vs (x ∷ gs)))
    by_test true l = differ_both x.vars (behind v at (merged names vs) gs) (differ_first x.vars (all_in gs) g) l (each_behind x.vars v at names vs gs first (differ_apart x.vars (all_in gs) g))
    by_test false l = (other_merged v names vs (x ∷ gs) other turned_all.0, rest (x ∷ gs) g turned_all.1)

pub differ_merged : (names : Names) (vs : List Var) (gs : List Group) → Differ (map (var_in names) vs) → Differ (all_in gs) → EachOther (map (var_in names) vs) (all_in gs) → Differ (merged names vs gs)
differ_merged names [] gs h g e = g
differ_merged names (v ∷ vs) gs h g e =
    differ_behind (var_in names v) (out-Var v).span names vs gs (λ hs k l. differ_merged names vs hs h.1 k l) h.0 g (each_turned (var_in names v ∷ map (var_in names) vs) (all_in gs) e)

-- ---- by copies
abbrev pub CopiesIn : ℕ → ℕ → List Var → Type 0
CopiesIn lo hi [] = ⊤
CopiesIn lo hi (x ∷ xs) = (lo ≤ (ref_of x).copy) × ((ref_of x).copy < hi) × CopiesIn lo hi xs

pub copies_both : (lo hi : ℕ) (xs ys : List Var) → CopiesIn lo hi xs → CopiesIn lo hi ys → CopiesIn lo hi (xs ++ ys)
copies_both lo hi [] ys h k = k
copies_both lo hi (x ∷ xs) ys h k = (h.0, h.1, copies_both lo hi xs ys h.2 k)

pub copies_wider : (lo hi lo2 hi2 : ℕ) (xs : List Var) → lo2 ≤ lo → hi ≤ hi2 → CopiesIn lo hi xs → CopiesIn lo2 hi2 xs
copies_wider lo hi lo2 hi2 [] l m h = tt
copies_wider lo hi lo2 hi2 (x ∷ xs) l m h = (omega (arith, l, h.0), omega (arith, m, h.1), copies_wider lo hi lo2 hi2 xs l m h.2)

other_copies : (x : Var) (lo hi : ℕ) (ys : List Var) → (ref_of x).copy < lo → CopiesIn lo hi ys → AreOther x ys
other_copies x lo hi [] l h = tt
other_copies x lo hi (y ∷ ys) l h = ((λ e f. omega (arith, l, h.0, f)), other_copies x lo hi ys l h.2)

pub each_by_copies : (a b c d : ℕ) (xs ys : List Var) → b ≤ c → CopiesIn a b xs → CopiesIn c d ys → EachOther xs ys
each_by_copies a b c d [] ys l h k = tt
each_by_copies a b c d (x ∷ xs) ys l h k = (other_copies x c d ys (omega (arith, l, h.1)) k, each_by_copies a b c d xs ys l h.2 k)

pub copies_behind : (lo hi : ℕ) (v : Var) (at : Span) (rest : List Group → List Var) (gs : List Group) → lo ≤ (ref_of v).copy → (ref_of v).copy < hi → ((hs : List Group) → CopiesIn lo hi (all_in hs) → CopiesIn lo hi (rest hs)) → CopiesIn lo hi (all_in gs) → CopiesIn lo hi (behind v at rest gs)
copies_behind lo hi v at rest [] l m k g = (l, m, k [] tt)
copies_behind lo hi v at rest (x ∷ gs) l m k g = by_test (is_before x.at at) (copies_behind lo hi v at rest gs l m k (second x.vars g))
  where
    first : (xs : List Var) → CopiesIn lo hi (xs ++ all_in gs) → CopiesIn lo hi xs
    first [] h = tt
    first (y ∷ ys) h = (h.0, h.1, first ys h.2)

    second : (xs : List Var) → CopiesIn lo hi (xs ++ all_in gs) → CopiesIn lo hi (all_in gs)
    second [] h = h
    second (y ∷ ys) h = second ys h.2

    by_test : (b : Bool) → CopiesIn lo hi (behind v at rest gs) → CopiesIn lo hi (if b then x.vars ++ behind v at rest gs else (v ∷ rest (x ∷ gs)))
    by_test true h = copies_both lo hi x.vars (behind v at rest gs) (first x.vars g) h
    by_test false h = (l, m, k (x ∷ gs) g)

pub copies_merged : (lo hi : ℕ) (names : Names) (vs : List Var) (gs : List Group) → CopiesIn lo hi (map (var_in names) vs) → CopiesIn lo hi (all_in gs) → CopiesIn lo hi (merged names vs gs)
copies_merged lo hi names [] gs h g = g
copies_merged lo hi names (v ∷ vs) gs h g = copies_behind lo hi (var_in names v) (out-Var v).span (merged names vs) gs h.0 h.1 (λ hs k. copies_merged lo hi names vs hs h.2 k) g
