-- A call with one array, which the callee may set and gives back, is a call.
use Rattle.std.proofs.Common.{◌≡◌, ℕ, ◌<◌, ◌==◌, List, [], ◌∷◌, Some, None, Bool, true, false, refl, ap, sym, ◌∙◌, subst, arith, inl}
use Rattle.std.specs.Prelude.{◌&&◌}
use Rattle.std.specs.Str.{bytes_eq}
use Rattle.std.proofs.lemmas.Bool.{and_parts}
use Rattle.std.proofs.lemmas.Bool.Decides.{nat_tests}
use Rattle.jz_data.proofs.Texts.{bytes_eq-true}
use Rattle.jz_tree.specs.Span.{Span}
use Rattle.jz_tree.specs.Size.{Size}
use Rattle.jz_tree.specs.Size.TheVariants.{S8, S16, S32, S64}
use Rattle.jz_tree.specs.declared.expr.Expr.{Expr}
use Rattle.jz_tree.specs.declared.expr.Var.{Var}
use Rattle.jz_tree.specs.declared.stmt.Stmt.{Stmt}
use Rattle.jz_tree.specs.declared.program.Fun.{Fun}
use Rattle.jz_tree.specs.declared.program.Param.{Param}
use Rattle.jz_tree.specs.declared.stmt.Lval.TheVariants as lval
use Rattle.jz_tree.specs.declared.program.FunKind.TheVariants as fun_kind
use Rattle.jz_meaning.specs.declared.access.Kind.{Kind}
use Rattle.jz_meaning.specs.States.{Key, same_cell, same_key}
use Rattle.jz_meaning.specs.Values.{Ref, cell_key, ref_of}
use Rattle.jz_meaning.specs.Shapes.{words}
use Rattle.jz_meaning.specs.Statements.{Call, array_of}
use Rattle.jz_meaning.specs.declared.access.Kind.TheVariants as kind
use Rattle.jz_bodies.specs.Kinds.{sort_of_kind}
use Rattle.jz_bodies.specs.Scopes.{Scope, a_scalar, a_cell, Has, Sets}
use Rattle.jz_bodies.specs.Calls.{is_array, IsLent, lent_here, lent_later, its_cell, of_array, IsCall}
use Rattle.jz_inline.proofs.Naming.{same_key-refl}

-- two words of 64 bits
abbrev is_two : Kind → Bool
is_two (kind.Array S64 n) = n == 2
is_two _ = false

two_is : (k : Kind) (z : Size) (n : ℕ) → is_two k ≡ true → k ≡ kind.Array z n → n ≡ 2
two_is (kind.Array S64 m) z n t e = let a : m ≡ n = cc in let b : m ≡ 2 = grind (arith, nat_tests, t) in sym a ∙ b
two_is (kind.Array S8 m) z n t e = absurd cc
two_is (kind.Array S16 m) z n t e = absurd cc
two_is (kind.Array S32 m) z n t e = absurd cc
two_is kind.Undeclared z n t e = absurd cc
two_is kind.Int z n t e = absurd cc
two_is kind.Bool z n t e = absurd cc
two_is (kind.Word s) z n t e = absurd cc

two_sort : (k : Kind) → is_two k ≡ true → words ≡ sort_of_kind k
two_sort (kind.Array S64 m) t = refl
two_sort (kind.Array S8 m) t = absurd cc
two_sort (kind.Array S16 m) t = absurd cc
two_sort (kind.Array S32 m) t = absurd cc
two_sort kind.Undeclared t = absurd cc
two_sort kind.Int t = absurd cc
two_sort kind.Bool t = absurd cc
two_sort (kind.Word s) t = absurd cc

-- an array of that name
abbrev is_named : List ℕ → Ref → Bool
is_named name r = bytes_eq r.name name && (r.copy == 0 && is_two r.kind)

abbrev one_scope : List ℕ → Scope
one_scope name = record { sorts = λ n c. words; has_scalar = λ r. false; has_array = is_named name; sets_scalar = λ r. false; sets_array = is_named name }

module _ (a b : List ℕ) (at : Span) (body : List Stmt) (p : Param) (e : Expr) (v w : Var) (s1 s2 s3 : Span)
    (is_p : ref_of p.var ≡ record { name = a; copy = 0; cell = None; kind = kind.Array S64 2; span = s1 }) (is_v : ref_of v ≡ record { name = a; copy = 0; cell = None; kind = kind.Array S64 2; span = s2 })
    (is_e : array_of e ≡ Some (record { name = b; copy = 0; cell = None; kind = kind.Array S64 2; span = s3 })) where
  abbrev callee : Fun
  callee = record { notes = []; kind = fun_kind.Inline; name = []; span = at; params = p ∷ []; rets = []; vars = []; body = body; result = v ∷ [] }

  abbrev the_call : Call
  the_call = record { to = lval.Var w ∷ []; callee = callee; args = e ∷ []; at = at }

  abbrev B : Ref
  B = record { name = b; copy = 0; cell = None; kind = kind.Array S64 2; span = s3 }

  bytes_same : (n : List ℕ) → bytes_eq n n ≡ true
  bytes_same n = (and_parts (bytes_eq n n) _ (same_key-refl (record { name = n; copy = 0; cell = None }))).0

  named : (n : List ℕ) (s : Span) → is_named n (record { name = n; copy = 0; cell = None; kind = kind.Array S64 2; span = s }) ≡ true
  named n s = ap (λ t. t && true) (bytes_same n)

  -- what a place of the scope is
  place_is : (n : List ℕ) (k : Key) → Has (one_scope n) k → (i : ℕ) × (i < 2) × (k ≡ record { name = n; copy = 0; cell = Some i })
  place_is n _ (a_scalar r h) = absurd cc
  place_is n _ (a_cell r z m i h k lt) =
      let x = and_parts (bytes_eq r.name n) _ h in
      let y = and_parts (r.copy == 0) _ x.1 in
      let c : r.copy ≡ 0 = grind (arith, nat_tests, y.0) in
      let two = two_is r.kind z m y.1 k in
      let nm = bytes_eq-true r.name n x.0 in
      (i, omega (arith, lt, two), λ j. record { name = nm j; copy = c j; cell = Some i })

  lent_is : (r y : Ref) → IsLent (p ∷ []) (e ∷ []) r y → (r ≡ ref_of p.var) × (y ≡ B)
  lent_is _ y (lent_here f q) = let d : y ≡ B = cc in (refl, d)
  lent_is r y (lent_later l) = elim l [ ]

  some_same : (i j : ℕ) → Some i ≡ Some j → i ≡ j
  some_same i j q = cc

  is_call : IsCall (one_scope b) (one_scope a) the_call
  is_call = record {
    scope = record { scalars = λ r h. h; arrays = λ r h. h; sorted = λ r h. absurd cc; worded = λ r h. two_sort r.kind (and_parts (r.copy == 0) _ (and_parts (bytes_eq r.name a) _ h).1).1 };
    zero = λ k h. (let x = place_is a k h in ap (λ (y : Key). y.copy) x.2);
    owned = λ k h. (let x = place_is a k h in inl (inl (its_cell S64 2 x.0 (ap (λ (r : Ref). r.kind) is_p) x.1 (x.2 ∙ ap (λ (r : Ref). cell_key r x.0) (sym is_p)))));
    apart = (tt, tt);
    own = λ k o. absurd o;
    arguments = (of_array (ap (λ (r : Ref). r.kind) is_p) is_e refl (named b s3) refl refl (ap (is_named a) is_p ∙ named a s1), tt);
    results = (inl (ap (λ (r : Ref). is_array r.kind) is_v), tt);
    sets = set;
    once = one;
  }
    where
      set : (r y : Ref) (i : ℕ) → IsLent (p ∷ []) (e ∷ []) r y → Sets (one_scope a) (cell_key r i) → Sets (one_scope b) (cell_key y i)
      set r y i l h =
          let x = place_is a (cell_key r i) h in
          let same : i ≡ x.0 = some_same i x.0 (ap (λ (k : Key). k.cell) x.2) in
          subst (λ (u : Ref). Sets (one_scope b) (cell_key u i)) (sym (lent_is r y l).1) (a_cell B S64 2 i (named b s3) refl (omega (arith, same, x.1)))

      one : (r y r' y' : Ref) (i j : ℕ) → IsLent (p ∷ []) (e ∷ []) r y → IsLent (p ∷ []) (e ∷ []) r' y' → Sets (one_scope a) (cell_key r i) → same_key (cell_key y i) (cell_key y' j) ≡ same_key (cell_key r i) (cell_key r' j)
      one r y r' y' i j l l' h =
          let u = lent_is r y l in let u' = lent_is r' y' l' in
          let P = ref_of p.var in
          let left : same_key (cell_key y i) (cell_key y' j) ≡ same_key (cell_key B i) (cell_key B j) = ap (λ (k : Ref). same_key (cell_key k i) (cell_key y' j)) u.1 ∙ ap (λ (k : Ref). same_key (cell_key B i) (cell_key k j)) u'.1 in
          let right : same_key (cell_key r i) (cell_key r' j) ≡ same_key (cell_key P i) (cell_key P j) = ap (λ (k : Ref). same_key (cell_key k i) (cell_key r' j)) u.0 ∙ ap (λ (k : Ref). same_key (cell_key P i) (cell_key k j)) u'.0 in
          let q = ap (λ (k : Ref). same_key (cell_key k i) (cell_key k j)) is_p in
          let t = bytes_same b in let t2 = bytes_same a in
          left ∙ ap (λ z. z && (true && same_cell (Some i) (Some j))) (t ∙ sym t2) ∙ sym q ∙ sym right
