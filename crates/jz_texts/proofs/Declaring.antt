-- The names of a typed program of a text.
use Rattle.std.proofs.Common.{◌≡◌, ℕ, ℤ, List, [], ◌∷◌, ◌++◌, Bool, true, false, not, ◌&&◌, ◌||◌, Option, Some, None, map, flat_map, refl, sym, ap, ap₂, ◌∙◌, subst, cond, find, arith}
use Rattle.std.specs.Prelude.{All, AllPairs, is_some, option_map, option_and_then}
use Rattle.std.specs.Str.{bytes_eq}
use Rattle.std.proofs.Math.Path.{fun_ext}
use Rattle.std.proofs.lemmas.Bool.{false≢true}
use Rattle.std.proofs.lemmas.Bool.Decides.{nat_tests}
use Rattle.std.proofs.lemmas.Slice.Eq.{bytes_eq-Decides}
use Rattle.std.proofs.lemmas.List.Elements.{All-nil, All-cons, All-map, All-weaker}
use Rattle.std.specs.Option.{option_or}
use Rattle.jz_tree.specs.Span.{Span}
use Rattle.jz_tree.proofs.Texts.{bytes_eq-true}
use Rattle.jz_tree.specs.declared.expr.Expr.{Expr}
use Rattle.jz_tree.specs.declared.expr.Ty.{Ty}
use Rattle.jz_tree.specs.declared.expr.Access.{Access}
use Rattle.jz_tree.specs.declared.expr.Decl.{Decl}
use Rattle.jz_tree.specs.declared.expr.Var.{Var}
use Rattle.jz_tree.specs.declared.expr.Expr.TheOpen.{Var-F}
use Rattle.jz_tree.specs.declared.expr.Expr.TheViews.{out-Var}
use Rattle.jz_tree.specs.declared.program.Const.{Const}
use Rattle.jz_tree.specs.declared.program.Fun.{Fun}
use Rattle.jz_tree.specs.declared.program.Program.{Program}
use Rattle.jz_tree.specs.declared.stmt.Stmt.{Stmt}
use Rattle.jz_type_names.specs.Order.{is_before, Before, earlier}
use Rattle.jz_type_names.specs.Scopes.{Name, name_of, PlacesByName, variables_of, variable_named, place_among, variable_place, constant_place, value_place, function_named, or_values}
use Rattle.jz_type_names.specs.Parts.{layer_of, statements_of, read_by, arrays_read_by, set_by, called_by}
use Rattle.jz_type_names.specs.Names.{stands_above, one_unknown, no_function, unknown_where, variables_wanted, arrays_passed, length_names, variables_outside, length_arrays, outside_where, unknown_in_constant, unknown_in_fun, unknown_in, named_before, decls_of, one_repeated, repeated_places, repeated_by, repeated_in_fun, top_names, repeated_in}
use Rattle.jz_type_names.proofs.Empty.{both, passed, all_empty, no_member}
use Rattle.jz_types.specs.Resolving.{resolved_var, resolved_stmt}
use Rattle.jz_types.specs.Numbering.{Values, values_of, constant_decl, declaration_in, number_in, length_of}
use Rattle.jz_types.specs.ResolvePrograms.{counted_var, counted_fun, resolved_const, resolved_program}
use Rattle.jz_judgement.specs.Mismatches.{mismatched_as_read, mismatched_declared}
use Rattle.jz_judgement.specs.WellTyped.{IsWellTyped}
use Rattle.jz_judgement.proofs.Calling.{program_holds}
use Rattle.jz_types.specs.Carried.{used_by, EachUsed, Carries, declared_in}
use Rattle.jz_types.specs.Rules.{IsTyped}
use Rattle.jz_types.specs.declared.fault.TypeRule.TheVariants.{Unknown, Duplicate, Mismatch}
use Rattle.jz_types.proofs.ProgramsKept.{find_kept, var_name, var_out, variables_counted, KnownIn, all_known}
use Rattle.jz_types.proofs.NamesKept.{var_kept}
use Rattle.jz_types.proofs.Carrying.{carrying}
use Rattle.jz_texts.specs.Texts.{HasDecl, StandsBefore, IsTextFun, IsText}
use Rattle.jz_texts.specs.Declared.{AreApart, IsNamedIn, IsCountedDecl, IsFunction, HasDeclarations, DeclarationsLaw, WellTypedLaw}
use Rattle.jz_texts.proofs.Lists.{parted, unmapped, pairs_head, pairs_tail}
use Rattle.jz_texts.proofs.Resolved.{H, variables_are, in_statements}
use Rattle.jz_texts.proofs.Naming.{statement_named, returns_named, variable_above}
use Rattle.jz_texts.proofs.Lengths.{lengths_so}

abbrev VarLayer : Type 0
VarLayer = Var-F Expr Ty Access Decl Var

-- ---- names that are repeated nowhere differ
abbrev IsNone : Name → Name → Type 0
IsNone n m = (bytes_eq n.0 m.0 && is_before m.1 n.1) ≡ false

or_none : (a b : Bool) → (a || b) ≡ false → (a ≡ false) × (b ≡ false)
or_none true b h = absurd (false≢true (sym h))
or_none false b h = (refl, h)

before_none : (ns : List Name) (n : Name) → named_before ns n ≡ false → All (IsNone n) ns
before_none [] n h = All-nil (IsNone n)
before_none (m ∷ ns) n h =
    let t = or_none (bytes_eq n.0 m.0 && is_before m.1 n.1) (named_before ns n) h in
    All-cons (IsNone n) m ns t.0 (before_none ns n t.1)

not_false : (b : Bool) → not b ≡ true → b ≡ false
not_false true h = absurd (false≢true h)
not_false false h = refl

one_none : (ns : List Name) (n : Name) → one_repeated ns n ≡ [] → All (IsNone n) ns
unfolding one_repeated
one_none ns n e = before_none ns n (not_false (named_before ns n) (passed (not (named_before ns n)) n.1 e))

none_repeated : (ns : List Name) → repeated_places ns ≡ [] → All (λ n. All (IsNone n) ns) ns
none_repeated ns e = All-weaker (λ n. one_repeated ns n ≡ []) (λ n. All (IsNone n) ns) (one_none ns) ns (all_empty (one_repeated ns) ns e)

is_before_so : (a b : Span) → Before a b → is_before a b ≡ true
is_before_so a b h = grind (arith, nat_tests)

and_left : (a b : Bool) → (a && b) ≡ false → b ≡ true → a ≡ false
and_left true b h e = absurd (false≢true (sym h ∙ e))
and_left false b h e = refl

turned : (a b : List ℕ) (c : Bool) → bytes_eq b a ≡ c → bytes_eq a b ≡ false → c ≡ false
turned a b true e h = absurd (false≢true (sym h ∙ (bytes_eq-Decides a b).1 (sym (bytes_eq-true b a e))))
turned a b false e h = refl

apart : (v w : Var) → StandsBefore v w → IsNone (name_of w) (name_of v) → AreApart v w
apart v w b h =
    let other = and_left (bytes_eq (out-Var w).name (out-Var v).name) (is_before (out-Var v).span (out-Var w).span) h (is_before_so (out-Var v).span (out-Var w).span b) in
    record { one = turned (out-Var w).name (out-Var v).name (bytes_eq (out-Var v).name (out-Var w).name) refl other; other = other }

pub all_apart : (vs : List Var) → AllPairs StandsBefore vs → repeated_places (map name_of vs) ≡ [] → AllPairs AreApart vs
all_apart vs a e =
    let none : All (λ v. All (λ w. IsNone (name_of v) (name_of w)) vs) vs =
    All-weaker (λ v. All (IsNone (name_of v)) (map name_of vs)) (λ v. All (λ w. IsNone (name_of v) (name_of w)) vs)
    (λ v h. unmapped (IsNone (name_of v)) name_of vs h) vs
    (unmapped (λ n. All (IsNone n) (map name_of vs)) name_of vs (none_repeated (map name_of vs) e)) in
    λ i j d lt within. apart _ _ (a i j d lt within) (none j d within i d (omega (arith, lt, within)))

-- ---- each variable is found by its name
same_name : (s : List ℕ) → bytes_eq s s ≡ true
same_name s = (bytes_eq-Decides s s).1 refl

found_first : (v : Var) (vs : List Var) → variable_named (out-Var v).name (v ∷ vs) ≡ Some v
found_first v vs = ap (λ b. cond b (Some v) (variable_named (out-Var v).name vs)) (same_name (out-Var v).name)

found_next : (v : Var) (vs : List Var) (w : Var) → AreApart v w → variable_named (out-Var w).name vs ≡ Some w → variable_named (out-Var w).name (v ∷ vs) ≡ Some w
found_next v vs w h k = ap (λ b. cond b (Some v) (variable_named (out-Var w).name vs)) h.other ∙ k

pub found_own : (vs : List Var) → AllPairs AreApart vs → All (λ v. variable_named (out-Var v).name vs ≡ Some v) vs
found_own [] h = All-nil (λ v. variable_named (out-Var v).name [] ≡ Some v)
found_own (v ∷ vs) h =
    let rest = found_own vs (pairs_tail AreApart v vs h) in
    let head = pairs_head AreApart v vs h in
    All-cons (λ w. variable_named (out-Var w).name (v ∷ vs) ≡ Some w) v vs (found_first v vs)
    (λ k d lt. found_next v vs _ (head k d lt) (rest k d lt))

or_some : (o : Option Decl) (x : Option Decl) → is_some o ≡ true → o ≡ option_or o x
or_some None x h = absurd (false≢true h)
or_some (Some d) x h = refl

one_carried : (constants : PlacesByName) (vs : List Var) (v : Var) → variable_named (out-Var v).name vs ≡ Some v → HasDecl v → Carries (declaration_in constants vs) v
one_carried constants vs v h k =
    let other = option_map (λ at. constant_decl) (constants (out-Var v).name) in
    or_some (out-Var v).decl other k ∙ ap (λ o. option_or (option_and_then (λ u. (out-Var u).decl) o) other) (sym h)

pub own_carried : (constants : PlacesByName) (vs : List Var) → AllPairs AreApart vs → All HasDecl vs → All (Carries (declaration_in constants vs)) vs
own_carried constants vs h k = λ i d lt. one_carried constants vs _ (found_own vs h i d lt) (k i d lt)

-- ---- what stands above
above_found : (vs : List Var) (n : List ℕ) (at : Span) (o : Option Var) → variable_named n vs ≡ o → stands_above (option_map (λ v. (out-Var v).span) o) at ≡ true → (w : Var) × (variable_named n vs ≡ Some w)
above_found vs n at None e h = absurd (false≢true h)
above_found vs n at (Some w) e h = (w, e)

known_above : (declared : PlacesByName) (n : Name) → one_unknown declared n ≡ [] → stands_above (declared n.0) n.1 ≡ true
unfolding one_unknown
known_above declared n e = passed (stands_above (declared n.0) n.1) n.1 e

called_so : (functions : List ℕ → Option Fun) (n : Name) → no_function functions n ≡ [] → is_some (functions n.0) ≡ true
unfolding no_function
called_so functions n e = passed (is_some (functions n.0)) n.1 e

all_above : (declared : PlacesByName) (ns : List Name) → flat_map (one_unknown declared) ns ≡ [] → All (λ n. stands_above (declared n.0) n.1 ≡ true) ns
all_above declared ns e = All-weaker (λ n. one_unknown declared n ≡ []) (λ n. stands_above (declared n.0) n.1 ≡ true) (known_above declared) ns (all_empty (one_unknown declared) ns e)

-- ---- the whole program
module _ (p : Program) (typed : IsTyped p) where
  abbrev q : Program
  q = resolved_program p

  abbrev places : PlacesByName
  places = constant_place p.consts

  abbrev values : Values
  values = values_of p.consts

  abbrev D : Fun → List ℕ → Option Decl
  D f = declaration_in places (variables_of (counted_fun values f))

  abbrev N : Fun → Name → Option (Option ℤ)
  N f = number_in places values (variables_of (counted_fun values f))

  placed : (o : Option Const) → option_map (λ c. c.span) (option_map (resolved_const places values) o) ≡ option_map (λ c. c.span) o
  placed None = refl
  placed (Some c) = refl

  constants_kept : constant_place q.consts ≡ places
  constants_kept =
      fun_ext
      (λ m. ap (option_map (λ c. c.span)) (find_kept (λ (c : Const). c.name) (resolved_const places values) (λ c. refl) m p.consts)
      ∙ placed (find (λ c. bytes_eq m c.name) p.consts))

  unknown : unknown_in p ≡ []
  unknown = no_member (unknown_in p) (λ at c. typed Unknown at c)

  different : repeated_in p ≡ []
  different = no_member (repeated_in p) (λ at c. typed Duplicate at c)

  as_read : mismatched_as_read (length_of p.consts) p ≡ []
  as_read = (both (mismatched_as_read (length_of p.consts) p) (mismatched_declared q) (no_member (mismatched_as_read (length_of p.consts) p ++ mismatched_declared q) (λ at c. typed Mismatch at c))).0

  matched : mismatched_declared q ≡ []
  matched = (both (mismatched_as_read (length_of p.consts) p) (mismatched_declared q) (no_member (mismatched_as_read (length_of p.consts) p ++ mismatched_declared q) (λ at c. typed Mismatch at c))).1

  pub well : IsWellTyped q
  well = program_holds q matched

  -- ---- names of variables
  names_counted : (vs : List Var) → map name_of (map (counted_var values) vs) ≡ map name_of vs
  names_counted [] = refl
  names_counted (v ∷ vs) = ap₂ (λ m ms. m ∷ ms) (ap (λ (y : VarLayer). (y.name, y.span)) (var_out values v)) (names_counted vs)

  fun_repeated : (f : Fun) → repeated_in_fun f ≡ [] → repeated_places (map name_of (variables_of (H p f))) ≡ []
  fun_repeated f e =
      ap repeated_places (ap (map name_of) (variables_are p f) ∙ names_counted (variables_of f))
      ∙ (both (repeated_places (map name_of (variables_of f))) (flat_map (λ s. repeated_by (layer_of s)) (statements_of f.body)) e).0

  found_counted : (f : Fun) (n : List ℕ) (at : Span) → stands_above (variable_place f n) at ≡ true → (w : Var) × (variable_named n (variables_of (H p f)) ≡ Some w)
  found_counted f n at h =
      let t = above_found (variables_of f) n at (variable_named n (variables_of f)) refl h in (
        counted_var values t.0,
        ap (variable_named n) (variables_are p f)
            ∙ find_kept (λ v. (out-Var v).name) (counted_var values) (var_name values) n (variables_of f)
            ∙ ap (option_map (counted_var values)) t.1,
      )

  -- ---- the variables that are used
  abbrev K : Fun → Name → Type 0
  K f n = stands_above (value_place p.consts f n.0) n.1 ≡ true

  abbrev V : Fun → Name → Type 0
  V f n = stands_above (variable_place f n.0) n.1 ≡ true

  resolved_name : (f : Fun) (v : Var) → (out-Var (resolved_var (D f) (N f) v)).name ≡ (out-Var v).name
  resolved_name f v = ap (λ (n : Name). n.0) (var_kept (D f) (N f) v)

  array_named : (f : Fun) (v : Var) → V f (name_of v) → IsNamedIn (H p f) (resolved_var (D f) (N f) v)
  array_named f v h =
      let t = found_counted f (out-Var v).name (out-Var v).span h in
      (t.0, ap (λ n. variable_named n (variables_of (H p f))) (resolved_name f v) ∙ t.1)

  place_counted : (f : Fun) (n : List ℕ) → place_among (variables_of (counted_fun values f)) n ≡ variable_place f n
  place_counted f n =
      ap (λ vs. place_among vs n) (variables_counted values f)
      ∙ ap (option_map (λ v. (out-Var v).span)) (find_kept (λ v. (out-Var v).name) (counted_var values) (var_name values) n (variables_of f))
      ∙ spanned (variable_named n (variables_of f))
    where
      spanned : (o : Option Var) → option_map (λ v. (out-Var v).span) (option_map (counted_var values) o) ≡ option_map (λ v. (out-Var v).span) o
      spanned None = refl
      spanned (Some v) = ap (λ (y : VarLayer). Some y.span) (var_out values v)

  plain_named : (f : Fun) (v : Var) → K f (name_of v) → N f (name_of v) ≡ None → IsNamedIn (H p f) (resolved_var (D f) (N f) v)
  plain_named f v h e =
      let w = place_among (variables_of (counted_fun values f)) in
      let same : w ≡ variable_place f = fun_ext (place_counted f) in
      array_named f v
      (subst (λ z. stands_above (z (out-Var v).name) (out-Var v).span ≡ true) same
      (variable_above places w (values (out-Var v).name) (name_of v) (subst (λ z. stands_above (earlier (z (out-Var v).name) (places (out-Var v).name)) (out-Var v).span ≡ true) (sym same) h) e))

  statement_uses : (f : Fun) (s : Stmt) → unknown_where (value_place p.consts f) (variable_place f) (λ m. function_named m p.funs) (layer_of s) ≡ []
      → All (IsNamedIn (H p f)) (used_by (layer_of (resolved_stmt (D f) (N f) s)))
  statement_uses f s e =
      let values = value_place p.consts f in
      let variables = variable_place f in
      let functions = λ (m : List ℕ). function_named m p.funs in
      let k = layer_of s in
      let a = both (flat_map (one_unknown values) (read_by k) ++ flat_map (one_unknown variables) (variables_wanted functions k)) (flat_map (no_function functions) (called_by k)) e in
      let b = both (flat_map (one_unknown values) (read_by k)) (flat_map (one_unknown variables) (variables_wanted functions k)) a.0 in
      let want = all_above variables (variables_wanted functions k) b.1 in
      let w = parted (V f) (map name_of (set_by k)) (arrays_read_by k ++ arrays_passed functions k) want in
      let x = parted (V f) (arrays_read_by k) (arrays_passed functions k) w.1 in
      statement_named (D f) (N f) (K f) (V f) (IsNamedIn (H p f)) (plain_named f) (array_named f) s (all_above values (read_by k) b.0) x.0 w.0

  results_named : (f : Fun) → outside_where (value_place p.consts f) (variable_place f) f ≡ [] → All (IsNamedIn (H p f)) (H p f).result
  results_named f e =
      let a = both (flat_map (one_unknown (value_place p.consts f)) (length_names f)) (flat_map (one_unknown (variable_place f)) (variables_outside f)) e in
      let w = parted (V f) (length_arrays f) (map name_of f.result) (all_above (variable_place f) (variables_outside f) a.1) in
      returns_named (D f) (N f) (K f) (V f) (IsNamedIn (H p f)) (plain_named f) (array_named f) f.result w.1

  fun_uses : (f : Fun) → unknown_in_fun p f ≡ [] → EachUsed (IsNamedIn (H p f)) (H p f)
  fun_uses f e =
      let body = both (outside_where (value_place p.consts f) (variable_place f) f) (flat_map (λ s. unknown_where (value_place p.consts f) (variable_place f) (λ m. function_named m p.funs) (layer_of s)) (statements_of f.body)) e in (
        in_statements p f (λ s. All (IsNamedIn (H p f)) (used_by (layer_of s)))
            (All-weaker (λ s. unknown_where (value_place p.consts f) (variable_place f) (λ m. function_named m p.funs) (layer_of s) ≡ []) (λ s. All (IsNamedIn (H p f)) (used_by (layer_of (resolved_stmt (D f) (N f) s))))
            (statement_uses f) (statements_of f.body)
            (all_empty (λ s. unknown_where (value_place p.consts f) (variable_place f) (λ m. function_named m p.funs) (layer_of s)) (statements_of f.body) body.1)),
        results_named f body.0,
      )

  called_of : (f : Fun) (s : Stmt) → KnownIn p f s → All (IsFunction q) (called_by (layer_of s))
  called_of f s e =
      let values = or_values (constant_place q.consts) (variable_place f) in
      let functions = λ (m : List ℕ). function_named m q.funs in
      let k = layer_of s in
      let a = both (flat_map (one_unknown values) (read_by k) ++ flat_map (one_unknown (variable_place f)) (variables_wanted functions k)) (flat_map (no_function functions) (called_by k)) e in
      All-weaker (λ n. no_function functions n ≡ []) (IsFunction q) (called_so functions) (called_by k) (all_empty (no_function functions) (called_by k) a.1)

  carried_of : (f : Fun) → EachUsed (Carries (declaration_in places (variables_of (H p f)))) (H p f) → EachUsed (Carries (declared_in q (H p f))) (H p f)
  carried_of f h = subst (λ c. EachUsed (Carries (declaration_in c (variables_of (H p f)))) (H p f)) (sym constants_kept) h

  fun_so : (f : Fun) → IsTextFun (H p f) → repeated_in_fun f ≡ [] → unknown_in_fun p f ≡ [] → All (KnownIn p (H p f)) (statements_of (H p f).body)
      → EachUsed (Carries (declaration_in places (variables_of (H p f)))) (H p f) → All IsCountedDecl (decls_of (H p f)) → HasDeclarations q (H p f)
  fun_so f t r u k c l =
      let differ = all_apart (variables_of (H p f)) t.ascending (fun_repeated f r) in
      record {
        differ = differ;
        own = own_carried (constant_place q.consts) (variables_of (H p f)) differ t.declarations;
        carried = carried_of f c;
        named = fun_uses f u;
        lengths = l;
        called = All-weaker (KnownIn p (H p f)) (λ s. All (IsFunction q) (called_by (layer_of s))) (called_of (H p f)) (statements_of (H p f).body) k;
      }

  pub declared_so : IsText q → All (HasDeclarations q) q.funs
  declared_so t =
      let funs = both (flat_map (unknown_in_constant places) p.consts) (flat_map (unknown_in_fun p) p.funs) unknown in
      let known = all_empty (unknown_in_fun p) p.funs funs.1 in
      let apart = all_empty repeated_in_fun p.funs (both (repeated_places (top_names p)) (flat_map repeated_in_fun p.funs) different).1 in
      let texts = unmapped IsTextFun (H p) p.funs t in
      let names = unmapped (λ f. All (KnownIn p f) (statements_of f.body)) (H p) p.funs (all_known p unknown) in
      let lengths = lengths_so p as_read in
      All-map (HasDeclarations q) (H p) p.funs
      (λ i f lt. fun_so _ (texts i f lt) (apart i f lt) (known i f lt) (names i f lt) (carrying p i f lt) (lengths i f lt))

pub declarations_law : DeclarationsLaw
declarations_law q h t =
    subst (λ z. All (HasDeclarations z) z.funs) (sym h.same) (declared_so h.source h.typed (subst IsText h.same t))

pub well_typed_law : WellTypedLaw
well_typed_law q h = subst IsWellTyped (sym h.same) (well h.source h.typed)
