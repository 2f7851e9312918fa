-- Calls that become copies: the numbers of a call are those of its arguments and results.
use Rattle.std.proofs.Common.{◌≡◌, ℕ, suc, ◌+◌, List, [], ◌∷◌, ◌++◌, map, length, Option, Some, None, Bool, true, false, refl, ap, sym, ◌∙◌, subst, arith, inl, inr, append-nil, append_assoc, length-append}
use Rattle.std.specs.Prelude.{if◌then◌else◌}
use Rattle.jz_tree.specs.Span.{Span}
use Rattle.jz_tree.specs.Size.{Size}
use Rattle.jz_tree.specs.declared.expr.Expr.{Expr}
use Rattle.jz_tree.specs.declared.expr.Var.{Var}
use Rattle.jz_tree.specs.declared.program.Fun.{Fun}
use Rattle.jz_tree.specs.declared.program.Param.{Param}
use Rattle.jz_tree.specs.declared.stmt.Lval.{Lval}
use Rattle.jz_tree.specs.declared.stmt.Lval.TheVariants as lval
use Rattle.jz_runs.specs.Rules.{went}
use Rattle.jz_meaning.specs.declared.access.Kind.{Kind}
use Rattle.jz_meaning.specs.declared.access.Kind.TheVariants as kind
use Rattle.jz_meaning.specs.Attempts.{Evaluation, and_then, defined}
use Rattle.jz_meaning.specs.States.{Value, Store, State, put, empty_store}
use Rattle.jz_meaning.specs.Values.{size_of, Ref, key_of, ref_of, variable_value}
use Rattle.jz_meaning.specs.Assignments.{written}
use Rattle.jz_meaning.specs.Shapes.{HoldsSorts}
use Rattle.jz_meaning.specs.Statements.{Call, copied, array_passed, passed, all_passed, enters, arrays_back, given, all_given, leaves, source}
use Rattle.jz_change.specs.declared.change.Numbers.{Numbers}
use Rattle.jz_change.specs.declared.change.Numbers.TheVariants.{These}
use Rattle.jz_change.specs.Changes.{number_in, numbers_in}
use Rattle.jz_pass.specs.Keeping.{Alike, both_stuck, both_went}
use Rattle.jz_bodies.specs.Scopes.{Scope}
use Rattle.jz_bodies.specs.Calls.{is_array, IsArgument, of_array, of_value, AreArguments, IsResult, AreResults, IsCall}
use Rattle.jz_inline.specs.Calls.{from, argument_items, result_item, result_items}
use Rattle.jz_inline.specs.Names.{lval_in}
use Rattle.jz_inline.specs.Widths.{width, left_width}
use Rattle.jz_inline.proofs.Copies.{ScopeCopy, IsBelow, Stands, Within, callee_copy, inline}
use Rattle.jz_inline.proofs.Entering.{none_first, then_went, passed_value, value_for, value_width, from_so}
use Rattle.jz_inline.proofs.Leaving.{left_numbers, left}
use Rattle.jz_inline.proofs.Widths.{same_width}
use Rattle.jz_inline.proofs.Writing.{Ends, written_so}
use Rattle.jz_two_runs.specs.Telling.{HaveSame, AreCallsTold}
use Rattle.jz_inline.proofs.Keeping.{kept}

-- the numbers of an item, where they stand
item_so : (i w : ℕ) (all pre ns rest : List ℕ) → i ≡ length pre → length ns ≡ w → all ≡ pre ++ (ns ++ rest) → numbers_in (These (from i w)) all ≡ ns
item_so i w all pre ns rest e l q = subst (λ (n : ℕ). map (number_in all) (from i n) ≡ ns) l (from_so i all pre ns rest e q)

none_behind : (ns ms ks : List ℕ) → ns ≡ ms ++ ks → ms ≡ [] → ns ≡ ks
none_behind ns ms ks e p = e ∙ ap (λ l. l ++ ks) p

further : (pre ns rest all : List ℕ) → all ≡ pre ++ (ns ++ rest) → all ≡ (pre ++ ns) ++ rest
further pre ns rest all q = q ∙ sym (append_assoc pre ns rest)

-- ---- arguments

module _ (x : ScopeCopy) (g : Scope) (at : Span) (c : ℕ) (below : IsBelow x c) (s r : State) (hs : HoldsSorts x.scope.sorts s.store) (hr : HoldsSorts x.scope.sorts r.store) where
  -- what one argument shows, in a state
  record Value1 (t : State) (store end : Store) (p : Param) (e : Expr) (ps : List Param) (es : List Expr) (ns : List ℕ) : Type 0 where
    shown : List ℕ
    next : Store
    rest : List ℕ
    width_is : length shown ≡ width e
    more : all_passed at ps es t next ≡ went rest end
    split : ns ≡ shown ++ rest

  value_parts : (t : State) (store end : Store) (p : Param) (e : Expr) (ps : List Param) (es : List Expr) (ns : List ℕ) → HoldsSorts x.scope.sorts t.store → is_array (ref_of p.var).kind ≡ false → IsArgument x.scope g (ref_of p.var) e → all_passed at (p ∷ ps) (e ∷ es) t store ≡ went ns end → Value1 t store end p e ps es ns
  value_parts t store end p e ps es ns h na (of_array kd ao yk ha s1 s2 hr) q = absurd (let b : is_array (ref_of p.var).kind ≡ true = ap is_array kd in cc)
  value_parts t store end p e ps es ns h na (of_value n1 nc rd fixed sets sort) q =
      let k = ref_of p.var in
      let cut = then_went (passed at k.kind k e t store) (all_passed at ps es t) ns end q in
      let v = then_went (value_for k e t) (λ u. went [] (put store (key_of k) (Some u))) cut.0 cut.1 (sym (passed_value at k e t store na) ∙ cut.3) in
      let none : v.2 ≡ [] = (let z = v.4 in cc) in
      record {
        shown = v.0;
        next = cut.1;
        rest = cut.2;
        width_is = value_width x.scope.sorts k e t v.0 v.1 h fixed v.3 ∙ sym (same_width x.scope below.scope e rd);
        more = cut.4;
        split = cut.5 ∙ ap (λ l. l ++ cut.2) (v.5 ∙ ap (λ l. v.0 ++ l) none ∙ append-nil v.0);
      }

  record Array1 (t : State) (end : Store) (ps : List Param) (es : List Expr) (ns : List ℕ) : Type 0 where
    next : Store
    more : all_passed at ps es t next ≡ went ns end

  array_parts : (t : State) (store end : Store) (p : Param) (e : Expr) (ps : List Param) (es : List Expr) (ns : List ℕ) → is_array (ref_of p.var).kind ≡ true → IsArgument x.scope g (ref_of p.var) e → all_passed at (p ∷ ps) (e ∷ es) t store ≡ went ns end → Array1 t end ps es ns
  array_parts t store end p e ps es ns ia (of_value n1 nc rd fixed sets sort) q = absurd (let b : is_array (ref_of p.var).kind ≡ false = n1 in cc)
  array_parts t store end p e ps es ns ia (of_array {y} {z} {n} kd ao yk ha s1 s2 hr) q =
      let k = ref_of p.var in
      let one : passed at k.kind k e t store ≡ went [] (copied n k y t.store store) = ap (λ v. passed at v k e t store) kd ∙ ap (λ o. array_passed at n k o t.store store) ao in
      record { next = copied n k y t.store store; more = sym (none_first (all_passed at ps es t (copied n k y t.store store))) ∙ ap (λ v. and_then v (all_passed at ps es t)) (sym one) ∙ q }

  arguments_told : (ps : List Param) (es : List Expr) → AreArguments x.scope g ps es → (store end other last : Store) (ns ms pre front all both : List ℕ) (i : ℕ) → all_passed at ps es s store ≡ went ns end → all_passed at ps es r other ≡ went ms last
      → all ≡ pre ++ ns → both ≡ front ++ ms → i ≡ length pre → i ≡ length front → HaveSame (argument_items i ps es) all both → ns ≡ ms
  arguments_told [] [] a store end other last ns ms pre front all both i e f qa qb la lb h =
      let p : ns ≡ [] = cc in let q : ms ≡ [] = cc in p ∙ sym q
  arguments_told [] (e1 ∷ es) a store end other last ns ms pre front all both i e f qa qb la lb h = absurd a
  arguments_told (p ∷ ps) [] a store end other last ns ms pre front all both i e f qa qb la lb h = absurd a
  arguments_told (p ∷ ps) (e1 ∷ es) a store end other last ns ms pre front all both i e f qa qb la lb h =
      by_kind (λ st1 ot1 us vs pre1 front1 j e2 f2 qa2 qb2 la2 lb2 h2. arguments_told ps es a.1 st1 end ot1 last us vs pre1 front1 all both j e2 f2 qa2 qb2 la2 lb2 h2) (is_array (ref_of p.var).kind) refl
    where
      by_kind : ((st1 ot1 : Store) (us vs pre1 front1 : List ℕ) (j : ℕ) → all_passed at ps es s st1 ≡ went us end → all_passed at ps es r ot1 ≡ went vs last → all ≡ pre1 ++ us → both ≡ front1 ++ vs → j ≡ length pre1 → j ≡ length front1 → HaveSame (argument_items j ps es) all both → us ≡ vs)
          → (b : Bool) → is_array (ref_of p.var).kind ≡ b → ns ≡ ms
      by_kind next true q =
          let u = array_parts s store end p e1 ps es ns q a.0 e in let v = array_parts r other last p e1 ps es ms q a.0 f in
          next u.next v.next ns ms pre front i u.more v.more qa qb la lb (subst (λ b. HaveSame (if b then argument_items i ps es else (These (from i (width e1)) ∷ argument_items (i + width e1) ps es)) all both) q h)
      by_kind next false q =
          let u = value_parts s store end p e1 ps es ns hs q a.0 e in let v = value_parts r other last p e1 ps es ms hr q a.0 f in
          let k : HaveSame (These (from i (width e1)) ∷ argument_items (i + width e1) ps es) all both = subst (λ b. HaveSame (if b then argument_items i ps es else (These (from i (width e1)) ∷ argument_items (i + width e1) ps es)) all both) q h in
          let qa1 : all ≡ pre ++ (u.shown ++ u.rest) = qa ∙ ap (λ l. pre ++ l) u.split in let qb1 : both ≡ front ++ (v.shown ++ v.rest) = qb ∙ ap (λ l. front ++ l) v.split in
          let first : u.shown ≡ v.shown = sym (item_so i (width e1) all pre u.shown u.rest la u.width_is qa1) ∙ k.0 ∙ item_so i (width e1) both front v.shown v.rest lb v.width_is qb1 in
          let behind : u.rest ≡ v.rest = next u.next v.next u.rest v.rest (pre ++ u.shown) (front ++ v.shown) (i + width e1) u.more v.more (further pre u.shown u.rest all qa1) (further front v.shown v.rest both qb1)
          (omega (arith, la, u.width_is, length-append pre u.shown)) (omega (arith, lb, v.width_is, length-append front v.shown)) k.1 in
          u.split ∙ ap (λ l. l ++ u.rest) first ∙ ap (λ l. v.shown ++ l) behind ∙ sym v.split

-- ---- results

-- a result that is an array, or is dropped, shows nothing and changes nothing
none_given : (v : Var) (d : Lval) (inner : Store) (s : State) → is_array (ref_of v).kind ≡ true → given (ref_of v).kind (ref_of v) d inner s ≡ went [] s
none_given v d inner s f = by_kind (ref_of v).kind f d
  where
    by_kind : (k : Kind) → is_array k ≡ true → (d : Lval) → given k (ref_of v) d inner s ≡ went [] s
    by_kind kind.Undeclared f d = absurd cc
    by_kind kind.Int f d = absurd cc
    by_kind kind.Bool f d = absurd cc
    by_kind (kind.Word z) f d = absurd cc
    by_kind (kind.Array z n) f (lval.Skip at) = refl
    by_kind (kind.Array z n) f (lval.Var a) = refl
    by_kind (kind.Array z n) f (lval.Cell a i) = refl
    by_kind (kind.Array z n) f (lval.Store a) = refl

skip_given : (k : Kind) (r : Ref) (at : Span) (inner : Store) (s : State) → given k r (lval.Skip at) inner s ≡ went [] s
skip_given kind.Undeclared r at inner s = refl
skip_given kind.Int r at inner s = refl
skip_given kind.Bool r at inner s = refl
skip_given (kind.Word z) r at inner s = refl
skip_given (kind.Array z n) r at inner s = refl

-- how a result is written, and its item
data Writing (d : Lval) (v : Var) : Type 0 where
  nothing : ((inner : Store) (s : State) → given (ref_of v).kind (ref_of v) d inner s ≡ went [] s) → ((i : ℕ) (rest : ℕ → List Numbers) → result_item i d v rest ≡ rest i) → Writing d v
  a_value : ((inner : Store) (s : State) → given (ref_of v).kind (ref_of v) d inner s ≡ and_then (variable_value (ref_of v) inner) (λ u. written (size_of (ref_of v).kind) d (Some u) s))
      → ((i : ℕ) (rest : ℕ → List Numbers) → result_item i d v rest ≡ These (from i (left_width d)) ∷ rest (i + left_width d)) → Writing d v

value_given : (r : Ref) (k : Kind) (d : Lval) → is_array k ≡ false → ((at : Span) → d ≡ lval.Skip at → ⊥) → (inner : Store) (s : State) → given k r d inner s ≡ and_then (variable_value r inner) (λ u. written (size_of k) d (Some u) s)
value_given r (kind.Array z n) d f n1 inner s = absurd cc
value_given r k (lval.Skip at) f n1 inner s = absurd (n1 at refl)
value_given r kind.Undeclared (lval.Var a) f n1 inner s = refl
value_given r kind.Int (lval.Var a) f n1 inner s = refl
value_given r kind.Bool (lval.Var a) f n1 inner s = refl
value_given r (kind.Word z) (lval.Var a) f n1 inner s = refl
value_given r kind.Undeclared (lval.Cell a i) f n1 inner s = refl
value_given r kind.Int (lval.Cell a i) f n1 inner s = refl
value_given r kind.Bool (lval.Cell a i) f n1 inner s = refl
value_given r (kind.Word z) (lval.Cell a i) f n1 inner s = refl
value_given r kind.Undeclared (lval.Store a) f n1 inner s = refl
value_given r kind.Int (lval.Store a) f n1 inner s = refl
value_given r kind.Bool (lval.Store a) f n1 inner s = refl
value_given r (kind.Word z) (lval.Store a) f n1 inner s = refl

writing : (d : Lval) (v : Var) → Writing d v
writing d v = by_kind (is_array (ref_of v).kind) refl d
  where
    k : Kind
    k = (ref_of v).kind

    by_kind : (b : Bool) → is_array k ≡ b → (d : Lval) → Writing d v
    by_kind b q (lval.Skip at) = nothing (λ inner s. skip_given k (ref_of v) at inner s) (λ i rest. refl)
    by_kind true q (lval.Var a) = nothing (λ inner s. none_given v (lval.Var a) inner s q) (λ i rest. ap (λ b. if b then rest i else (These (from i 0) ∷ rest (i + 0))) q)
    by_kind true q (lval.Cell a j) = nothing (λ inner s. none_given v (lval.Cell a j) inner s q) (λ i rest. ap (λ b. if b then rest i else (These (from i (left_width (lval.Cell a j))) ∷ rest (i + left_width (lval.Cell a j)))) q)
    by_kind true q (lval.Store a) = nothing (λ inner s. none_given v (lval.Store a) inner s q) (λ i rest. ap (λ b. if b then rest i else (These (from i (left_width (lval.Store a))) ∷ rest (i + left_width (lval.Store a)))) q)
    by_kind false q (lval.Var a) = a_value (λ inner s. value_given (ref_of v) k (lval.Var a) q (λ at e. absurd cc) inner s) (λ i rest. ap (λ b. if b then rest i else (These (from i 0) ∷ rest (i + 0))) q)
    by_kind false q (lval.Cell a j) = a_value (λ inner s. value_given (ref_of v) k (lval.Cell a j) q (λ at e. absurd cc) inner s) (λ i rest. ap (λ b. if b then rest i else (These (from i (left_width (lval.Cell a j))) ∷ rest (i + left_width (lval.Cell a j)))) q)
    by_kind false q (lval.Store a) = a_value (λ inner s. value_given (ref_of v) k (lval.Store a) q (λ at e. absurd cc) inner s) (λ i rest. ap (λ b. if b then rest i else (These (from i (left_width (lval.Store a))) ∷ rest (i + left_width (lval.Store a)))) q)

variable_none : (r : Ref) (store : Store) (ns : List ℕ) (u : Value) → variable_value r store ≡ went ns u → ns ≡ []
variable_none r store ns u e = by_value (store (key_of r)) e
  where
    by_value : (o : Option Value) → defined r.span o ≡ went ns u → ns ≡ []
    by_value None e = absurd cc
    by_value (Some v) e = cc

module _ (x : ScopeCopy) (g : Scope) (at : Span) (c : ℕ) (below : IsBelow x c) where
  -- what one result shows
  record Given1 (inner : Store) (s s3 : State) (d : Lval) (ds : List Lval) (vs : List Var) (ns : List ℕ) : Type 0 where
    shown : List ℕ
    next : State
    copy : State
    rest : List ℕ
    stands : Stands x next copy
    width_is : length shown ≡ left_width d
    more : all_given at ds vs inner next ≡ went rest s3
    split : ns ≡ shown ++ rest

  -- what is written keeps the sorts
  after_write : (s t s1 : State) (z : Option Size) (d : Lval) (u : Value) (ns : List ℕ) → Stands x s t → Alike (Ends x c below t) (written z d (Some u) s) (written z (lval_in x.names d) (Some u) t) → written z d (Some u) s ≡ went ns s1 → (t1 : State) × Stands x s1 t1
  after_write s t s1 z d u ns st a q = by_alike (written z d (Some u) s) (written z (lval_in x.names d) (Some u) t) a q
    where
      by_alike : (m k : Evaluation State) → Alike (Ends x c below t) m k → m ≡ went ns s1 → (t1 : State) × Stands x s1 t1
      by_alike m k both_stuck e = absurd cc
      by_alike m k (both_went {ns = ms} {a} {b} p) e = let w : went ms a ≡ went ns s1 = e in let same : a ≡ s1 = cc in (b, subst (λ v. Stands x v b) same p.0)

  given_parts : (inner : Store) (s t s3 : State) (d : Lval) (v : Var) (ds : List Lval) (vs : List Var) (ns : List ℕ) → Stands x s t → (is_array (ref_of v).kind ≡ true → ⊥) → IsResult x.scope g d v → given (ref_of v).kind (ref_of v) d inner s ≡ and_then (variable_value (ref_of v) inner) (λ u. written (size_of (ref_of v).kind) d (Some u) s)
      → all_given at (d ∷ ds) (v ∷ vs) inner s ≡ went ns s3 → Given1 inner s s3 d ds vs ns
  given_parts inner s t s3 d v ds vs ns st na (inl ar) is q = absurd (na ar)
  given_parts inner s t s3 d v ds vs ns st na (inr b) is q =
      let k = ref_of v in
      let cut = then_went (given k.kind k d inner s) (all_given at ds vs inner) ns s3 q in
      let val = then_went (variable_value k inner) (λ u. written (size_of k.kind) d (Some u) s) cut.0 cut.1 (sym is ∙ cut.3) in
      let w = after_write s t cut.1 (size_of k.kind) d val.1 val.2 st (written_so x c below s t (size_of k.kind) d (Some val.1) st b.3) val.4 in
      record {
        shown = val.2;
        next = cut.1;
        copy = w.0;
        rest = cut.2;
        stands = w.1;
        width_is = left_numbers x.scope g (size_of k.kind) d val.1 s val.2 cut.1 below.scope st.sorted b.3 b.4 val.4;
        more = cut.4;
        split = cut.5 ∙ ap (λ l. l ++ cut.2) (none_behind cut.0 val.0 val.2 val.5 (variable_none k inner val.0 val.1 val.3));
      }

  results_told : (ds : List Lval) (vs : List Var) → AreResults x.scope g ds vs → (inner deep : Store) (s t s3 r u r3 : State) (ns ms pre front all both : List ℕ) (i : ℕ) → Stands x s t → Stands x r u → all_given at ds vs inner s ≡ went ns s3 → all_given at ds vs deep r ≡ went ms r3
      → all ≡ pre ++ ns → both ≡ front ++ ms → i ≡ length pre → i ≡ length front → HaveSame (result_items i ds vs) all both → ns ≡ ms
  results_told [] [] a inner deep s t s3 r u r3 ns ms pre front all both i st su e f qa qb la lb h =
      let p : ns ≡ [] = cc in let q : ms ≡ [] = cc in p ∙ sym q
  results_told [] (v ∷ vs) a inner deep s t s3 r u r3 ns ms pre front all both i st su e f qa qb la lb h = absurd a
  results_told (d ∷ ds) [] a inner deep s t s3 r u r3 ns ms pre front all both i st su e f qa qb la lb h = absurd a
  results_told (d ∷ ds) (v ∷ vs) a inner deep s t s3 r u r3 ns ms pre front all both i st su e f qa qb la lb h =
      by_writing (λ s1 t1 r1 u1 us ws pre1 front1 j st1 su1 e2 f2 qa2 qb2 la2 lb2 h2. results_told ds vs a.1 inner deep s1 t1 s3 r1 u1 r3 us ws pre1 front1 all both j st1 su1 e2 f2 qa2 qb2 la2 lb2 h2) (writing d v)
    where
      by_writing : ((s1 t1 r1 u1 : State) (us ws pre1 front1 : List ℕ) (j : ℕ) → Stands x s1 t1 → Stands x r1 u1 → all_given at ds vs inner s1 ≡ went us s3 → all_given at ds vs deep r1 ≡ went ws r3 → all ≡ pre1 ++ us → both ≡ front1 ++ ws → j ≡ length pre1 → j ≡ length front1 → HaveSame (result_items j ds vs) all both → us ≡ ws)
          → Writing d v → ns ≡ ms
      by_writing next (nothing go item) =
          next s t r u ns ms pre front i st su
          (sym (none_first (all_given at ds vs inner s)) ∙ ap (λ y. and_then y (all_given at ds vs inner)) (sym (go inner s)) ∙ e) (sym (none_first (all_given at ds vs deep r)) ∙ ap (λ y. and_then y (all_given at ds vs deep)) (sym (go deep r)) ∙ f)
          qa qb la lb (subst (λ l. HaveSame l all both) (item i (λ j. result_items j ds vs)) h)
      by_writing next (a_value go item) =
          by_array (is_array (ref_of v).kind) refl
        where
          k : HaveSame (These (from i (left_width d)) ∷ result_items (i + left_width d) ds vs) all both
          k = subst (λ l. HaveSame l all both) (item i (λ j. result_items j ds vs)) h

          -- an array shows nothing
          by_array : (b : Bool) → is_array (ref_of v).kind ≡ b → ns ≡ ms
          by_array true q = absurd (array_item d q (item 0 (λ j. [])))
            where
              array_item : (d : Lval) → is_array (ref_of v).kind ≡ true → result_item 0 d v (λ j. []) ≡ These (from 0 (left_width d)) ∷ [] → ⊥
              array_item (lval.Skip a) q e = absurd cc
              array_item (lval.Var a) q e = let f : [] ≡ These (from 0 0) ∷ [] = sym (ap (λ b. if b then [] else (These (from 0 0) ∷ [])) q) ∙ e in absurd cc
              array_item (lval.Cell a j) q e = let f : [] ≡ These (from 0 (left_width (lval.Cell a j))) ∷ [] = sym (ap (λ b. if b then [] else (These (from 0 (left_width (lval.Cell a j))) ∷ [])) q) ∙ e in absurd cc
              array_item (lval.Store a) q e = let f : [] ≡ These (from 0 (left_width (lval.Store a))) ∷ [] = sym (ap (λ b. if b then [] else (These (from 0 (left_width (lval.Store a))) ∷ [])) q) ∙ e in absurd cc
          by_array false q =
              let na : is_array (ref_of v).kind ≡ true → ⊥ = (λ w. absurd cc) in
              let y = given_parts inner s t s3 d v ds vs ns st na a.0 (go inner s) e in let z = given_parts deep r u r3 d v ds vs ms su na a.0 (go deep r) f in
              let qa1 : all ≡ pre ++ (y.shown ++ y.rest) = qa ∙ ap (λ l. pre ++ l) y.split in let qb1 : both ≡ front ++ (z.shown ++ z.rest) = qb ∙ ap (λ l. front ++ l) z.split in
              let first : y.shown ≡ z.shown = sym (item_so i (left_width d) all pre y.shown y.rest la y.width_is qa1) ∙ k.0 ∙ item_so i (left_width d) both front z.shown z.rest lb z.width_is qb1 in
              let behind : y.rest ≡ z.rest = next y.next y.copy z.next z.copy y.rest z.rest (pre ++ y.shown) (front ++ z.shown) (i + left_width d) y.stands z.stands y.more z.more (further pre y.shown y.rest all qa1) (further front z.shown z.rest both qb1)
              (omega (arith, la, y.width_is, length-append pre y.shown)) (omega (arith, lb, z.width_is, length-append front z.shown)) k.1 in
              y.split ∙ ap (λ l. l ++ y.rest) first ∙ ap (λ l. z.shown ++ l) behind ∙ sym z.split

-- ---- calls

module _ (scopes : Fun → Scope) where
  entered_told : (x : ScopeCopy) (c : ℕ) (q : Call) (s r s1 r1 t u : State) (ns ms : List ℕ) → IsCall x.scope (scopes q.callee) q → IsBelow x c → Stands x s t → Stands x r u → enters q s ≡ went ns s1 → enters q r ≡ went ms r1 → HaveSame (argument_items 0 q.callee.params q.args) ns ms → ns ≡ ms
  entered_told x c q s r s1 r1 t u ns ms is below st su e f h =
      let p = then_went {A = Store} {B = State} (all_passed q.at q.callee.params q.args s empty_store) (λ store. went [] (record { store = store; memory = s.memory })) ns s1 e in
      let w = then_went {A = Store} {B = State} (all_passed q.at q.callee.params q.args r empty_store) (λ store. went [] (record { store = store; memory = r.memory })) ms r1 f in
      let m : p.2 ≡ [] = (let k = p.4 in cc) in let n : w.2 ≡ [] = (let k = w.4 in cc) in
      let a : ns ≡ p.0 = p.5 ∙ ap (λ l. p.0 ++ l) m ∙ append-nil p.0 in let b : ms ≡ w.0 = w.5 ∙ ap (λ l. w.0 ++ l) n ∙ append-nil w.0 in
      a ∙ arguments_told x (scopes q.callee) q.at c below s r st.sorted su.sorted q.callee.params q.args is.arguments empty_store p.1 empty_store w.1 p.0 w.0 [] [] ns ms 0 p.3 w.3 a b refl refl h ∙ sym b

  -- the call without its results
  abbrev bare : Call → Call
  bare q = record q { to = []; callee = record (q.callee) { result = [] } }

  -- the caller's variables before the results are read stand in a copy
  stands_back : (x : ScopeCopy) (c : ℕ) (q : Call) (s t s2 t2 : State) → IsCall x.scope (scopes q.callee) q → IsBelow x c → Stands x s t → Within (callee_copy scopes x c q) (suc c) t t2 → Stands (callee_copy scopes x c q) s2 t2
      → (t3 : State) × Stands x (record { store = arrays_back q.callee.params q.args s2.store s.store; memory = s2.memory }) t3
  stands_back x c q s t s2 t2 is below st w stg =
      let p = left (λ h. scopes q.callee) x c (bare q) below is_bare s t s2 t2 st w stg (record { store = arrays_back q.callee.params q.args s2.store s.store; memory = s2.memory }) [] refl in
      (p.0, p.2)
    where
      is_bare : IsCall x.scope (scopes q.callee) (bare q)
      is_bare = record { scope = is.scope; zero = is.zero; owned = is.owned; apart = is.apart; own = is.own; arguments = is.arguments; results = tt; sets = is.sets; once = is.once }

  left_told : (x : ScopeCopy) (c : ℕ) (q : Call) (s r t u s2 r2 t2 u2 s3 r3 : State) (ns ms : List ℕ) → IsCall x.scope (scopes q.callee) q → IsBelow x c → Stands x s t → Stands x r u → Within (callee_copy scopes x c q) (suc c) t t2 → Within (callee_copy scopes x c q) (suc c) u u2
      → Stands (callee_copy scopes x c q) s2 t2 → Stands (callee_copy scopes x c q) r2 u2 → leaves q s s2 ≡ went ns s3 → leaves q r r2 ≡ went ms r3 → HaveSame (result_items 0 q.to q.callee.result) ns ms → ns ≡ ms
  left_told x c q s r t u s2 r2 t2 u2 s3 r3 ns ms is below st su w v stg sug e f h =
      let p = stands_back x c q s t s2 t2 is below st w stg in let o = stands_back x c q r u r2 u2 is below su v sug in
      results_told x (scopes q.callee) q.at c below q.to q.callee.result is.results s2.store r2.store (record { store = arrays_back q.callee.params q.args s2.store s.store; memory = s2.memory }) p.0 s3
      (record { store = arrays_back q.callee.params q.args r2.store r.store; memory = r2.memory }) o.0 r3 ns ms [] [] ns ms 0 p.1 o.1 e f refl refl refl refl h

  pub calls_told : AreCallsTold {M = source} {K = inline scopes} (kept scopes)
  calls_told = record {
    entered_told = λ x c q s r s1 r1 t u ns ms is below st su e f h. entered_told x c q s r s1 r1 t u ns ms is below st su e f h;
    left_told = λ x c q s r t u s2 r2 t2 u2 s3 r3 ns ms is below st su w v stg sug e f h. left_told x c q s r t u s2 r2 t2 u2 s3 r3 ns ms is below st su w v stg sug e f h;
  }
