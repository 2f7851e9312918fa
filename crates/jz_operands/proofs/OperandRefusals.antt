-- Expressions that are no operand, and left sides that are no destination.
use Rattle.std.proofs.Common.{◌≡◌, ℕ, ◌+◌, ◌<◌, ◌≤◌, Bool, true, false, Option, Some, None, refl, sym, ap, ◌∙◌, subst, inl, inr}
use Rattle.std.specs.Prelude.{◌⊎◌}
use Rattle.jz_words.specs.declared.size.Size.{Size}
use Rattle.jz_words.specs.declared.size.Size.TheVariants.{S8, S16, S32, S64}
use Rattle.jz_words.specs.Readings.{fits_bytes}
use Rattle.jz_tree.specs.Span.{Span}
use Rattle.jz_tree.specs.declared.expr.BinOp.{BinOp}
use Rattle.jz_tree.specs.declared.expr.Expr.{Expr}
use Rattle.jz_tree.specs.declared.expr.Expr.TheVariants as expr
use Rattle.jz_tree.specs.declared.expr.Expr.TheOpen.{Expr-F}
use Rattle.jz_tree.specs.declared.expr.Expr.TheFolds.{fold-roll-Var}
use Rattle.jz_tree.specs.declared.expr.Expr.TheViews.{out-Expr, out-Var, roll-out-Var}
use Rattle.jz_tree.specs.declared.expr.Access.{Access}
use Rattle.jz_tree.specs.declared.expr.Var.{Var}
use Rattle.jz_tree.specs.declared.stmt.Lval.{Lval}
use Rattle.jz_tree.specs.declared.stmt.Lval.TheVariants as lval
use Rattle.jz_type_names.specs.Kinds.{same_size}
use Rattle.jz_meaning.specs.Assignments.{Layer}
use Rattle.jz_meaning.specs.declared.access.Kind.{Kind}
use Rattle.jz_meaning.specs.declared.access.Kind.TheVariants as kind
use Rattle.jz_meaning.specs.Values.{Ref, key_of, cell_key, ref_of, expr_step, ty_step, access_step, decl_step, var_step}
use Rattle.jz_operations.specs.declared.operation.Address.{Address}
use Rattle.jz_operations.specs.declared.operation.Arg.{Arg}
use Rattle.jz_operations.specs.declared.operation.Arg.TheVariants as arg
use Rattle.jz_homes.specs.Homes as homes
use Rattle.jz_homes.specs.Homes.{Homes, in_register, in_flag, in_cell}
use Rattle.jz_homes.specs.Sums.{Sum, IsSum, IsAddress}
use Rattle.jz_homes.specs.Operands.{Leaks, AreCells, IsArg, a_word, a_number, a_scalar, a_cell, a_load, IsDest, to_word, to_scalar, to_cell, to_memory}
use Rattle.jz_one_row.proofs.Outs.{out_bin, out_bool, out_cast, out_cell, out_load, out_neg, out_not, out_num, out_var}
use Rattle.jz_one_row.proofs.Operands.{ArgLayer, l_word, l_number, l_scalar, l_cell, l_load, arg_layer}
use Rattle.jz_operands.specs.declared.homes.Home.{Home}
use Rattle.jz_operands.specs.declared.homes.Home.TheVariants.{Word, Flag, Slot, Cells}
use Rattle.jz_operands.specs.declared.homes.Homes as code
use Rattle.jz_operands.specs.TableHomes.{entry_at, scalar_home, first_cell, home_within, homes_of, one_cell, have_cells, IsStackOf, HasNoCell, IsArrayAt, HasSize}
use Rattle.jz_operands.specs.Refusals.{FindsOr, HasFields, IsNoScalar, NeverAddress, NeverIndex, NeverArg, NeverDest}
use Rattle.jz_operands.proofs.OperandLemmas.{size_one, ref_name, ref_copy}

-- ---- words
size_same : (z : Size) → same_size z z ≡ true
size_same S8 = refl
size_same S16 = refl
size_same S32 = refl
size_same S64 = refl

differs : (y z : Size) → same_size y z ≡ false → y ≡ z → ⊥
differs y z e f = let t : same_size y z ≡ true = subst (λ s. same_size y s ≡ true) f (size_same y) in absurd cc

-- a word in a variable, or in the first cell of a stack variable
abbrev pub IsWordAt : Size → Option homes.Home → Type 0
IsWordAt z h = ((n : ℕ) × (h ≡ Some (in_register n z))) ⊎ ((w : ℕ) × (h ≡ Some (in_cell w 0 z)))

abbrev pub NoWord : Size → Option homes.Home → Type 0
NoWord z h = IsWordAt z h → ⊥

module _ (z : Size) (h : Option homes.Home) where
  pub no_scalar : IsNoScalar h → NoWord z h
  no_scalar none (inl s) = subst IsNoScalar s.1 none
  no_scalar none (inr s) = subst IsNoScalar s.1 none refl

  pub other_word : (n : ℕ) (y : Size) → h ≡ scalar_home (Some (Word n y)) → same_size y z ≡ false → NoWord z h
  other_word n y e f (inl s) = differs y z f (register_size n s.0 y (sym e ∙ s.1))
    where
      register_size : (m k : ℕ) (y : Size) → ◌≡◌ {A = Option homes.Home} (Some (in_register m y)) (Some (in_register k z)) → y ≡ z
      register_size m k y e = cc
  other_word n y e f (inr s) = absurd (no_cell n s.0 y (sym e ∙ s.1))
    where
      no_cell : (m k : ℕ) (y : Size) → ◌≡◌ {A = Option homes.Home} (Some (in_register m y)) (Some (in_cell k 0 z)) → ⊥
      no_cell m k y e = absurd cc

  pub other_slot : (w : ℕ) (y : Size) → h ≡ scalar_home (Some (Slot w y)) → same_size y z ≡ false → NoWord z h
  other_slot w y e f (inl s) = absurd (no_register w s.0 y (sym e ∙ s.1))
    where
      no_register : (m k : ℕ) (y : Size) → ◌≡◌ {A = Option homes.Home} (Some (in_cell m 0 y)) (Some (in_register k z)) → ⊥
      no_register m k y e = absurd cc
  other_slot w y e f (inr s) = differs y z f (cell_size w s.0 y (sym e ∙ s.1))
    where
      cell_size : (m k : ℕ) (y : Size) → ◌≡◌ {A = Option homes.Home} (Some (in_cell m 0 y)) (Some (in_cell k 0 z)) → y ≡ z
      cell_size m k y e = cc

  pub no_flag : (n : ℕ) → h ≡ scalar_home (Some (Flag n)) → NoWord z h
  no_flag n e (inl s) = let f : ◌≡◌ {A = Option homes.Home} (Some (in_flag n)) (Some (in_register s.0 z)) = sym e ∙ s.1 in absurd cc
  no_flag n e (inr s) = let f : ◌≡◌ {A = Option homes.Home} (Some (in_flag n)) (Some (in_cell s.0 0 z)) = sym e ∙ s.1 in absurd cc

  pub no_array : (w : ℕ) (y : Size) (n : ℕ) → h ≡ scalar_home (Some (Cells w y n)) → NoWord z h
  no_array w y n e (inl s) = let f : ◌≡◌ {A = Option homes.Home} None (Some (in_register s.0 z)) = sym e ∙ s.1 in absurd cc
  no_array w y n e (inr s) = let f : ◌≡◌ {A = Option homes.Home} None (Some (in_cell s.0 0 z)) = sym e ∙ s.1 in absurd cc

module _ (home : Homes) (z : Size) where
  word_at : (x : Var) (a : Arg) (p : Leaks) → ArgLayer home z (Expr-F.Var x) a p → IsWordAt z (home (key_of (ref_of x)))
  word_at x a p (l_word y n h) = inl (n, h)
  word_at x a p (l_scalar y w h) = inr (w, h)

  at_layer : (e : Expr) (l : Layer) (a : Arg) (p : Leaks) → out-Expr e ≡ l → IsArg home z e a p → ArgLayer home z l a p
  at_layer e l a p s h = subst (λ k. ArgLayer home z k a p) s (arg_layer home z e a p h)

  pub never_word : (x : Var) → NoWord z (home (key_of (ref_of x))) → NeverArg home z (expr.Var x)
  never_word x none a p h fits = none (word_at x a p (at_layer (expr.Var x) (Expr-F.Var x) a p (out_var x) h))

  dest_word : (x : Var) (d : Lval) (a : Arg) (p : Leaks) → d ≡ lval.Var x → IsDest home z d a p → IsWordAt z (home (key_of (ref_of x))) × ((ref_of x).kind ≡ kind.Word z)
  dest_word x d a p e (to_word y n k h) = let s : y ≡ x = cc in (inl (n, subst (λ v. home (key_of (ref_of v)) ≡ Some (in_register n z)) s h), subst (λ v. (ref_of v).kind ≡ kind.Word z) s k)
  dest_word x d a p e (to_scalar y w k h) = let s : y ≡ x = cc in (inr (w, subst (λ v. home (key_of (ref_of v)) ≡ Some (in_cell w 0 z)) s h), subst (λ v. (ref_of v).kind ≡ kind.Word z) s k)
  dest_word x d a p e (to_cell y i m w t b j c s k) = absurd cc
  dest_word x d a p e (to_memory f t m size s k) = absurd cc

  pub never_word_dest : (x : Var) → NoWord z (home (key_of (ref_of x))) → NeverDest home z (lval.Var x)
  never_word_dest x none a p h fits = none (dest_word x (lval.Var x) a p refl h).0

  pub never_kind : (x : Var) (k : Kind) → (ref_of x).kind ≡ k → (k ≡ kind.Word z → ⊥) → NeverDest home z (lval.Var x)
  never_kind x k e none a p h fits = none (sym e ∙ (dest_word x (lval.Var x) a p refl h).1)

  -- ---- cells
  record IsCell (x : Var) (e : Expr) (a : Arg) : Type 0 where
    pub array : (w : ℕ) × IsArrayAt home x z w
    pub index : NeverIndex home e → HasFields a → ⊥

  cell_at : (x : Var) (e : Expr) (a : Arg) (p : Leaks) → ArgLayer home z (Expr-F.Cell x e) a p → IsCell x e a
  cell_at x e a p (l_cell y f n w t b i cells s k) = record { array = (w, (n, cells.0, cells.1, cells.2)); index = λ none fits. none t b i s k fits }

  dest_cell : (x : Var) (e : Expr) (d : Lval) (a : Arg) (p : Leaks) → d ≡ lval.Cell x e → IsDest home z d a p → IsCell x e a
  dest_cell x e d a p s (to_word y n k h) = absurd cc
  dest_cell x e d a p s (to_scalar y w k h) = absurd cc
  dest_cell x e d a p s (to_memory f t m size u k) = absurd cc
  dest_cell x e d a p s (to_cell y f n w t b i cells u k) =
      let v : y ≡ x = cc in
      let g : f ≡ e = cc in
      let c : AreCells home x z n w = subst (λ q. AreCells home q z n w) v cells in
      record { array = (w, (n, c.0, c.1, c.2)); index = λ none fits. subst (NeverIndex home) (sym g) none t b i u k fits }

  is_cell : (x : Var) (e : Expr) (a : Arg) (p : Leaks) → IsArg home z (expr.Cell x e) a p → IsCell x e a
  is_cell x e a p h = cell_at x e a p (at_layer (expr.Cell x e) (Expr-F.Cell x e) a p (out_cell x e) h)

  pub never_array : (x : Var) (e : Expr) → ((w : ℕ) → IsArrayAt home x z w → ⊥) → NeverArg home z (expr.Cell x e)
  never_array x e none a p h fits = let c = is_cell x e a p h in none c.array.0 c.array.1

  pub never_index : (x : Var) (e : Expr) → NeverIndex home e → NeverArg home z (expr.Cell x e)
  never_index x e none a p h fits = (is_cell x e a p h).index none fits

  pub never_array_dest : (x : Var) (e : Expr) → ((w : ℕ) → IsArrayAt home x z w → ⊥) → NeverDest home z (lval.Cell x e)
  never_array_dest x e none a p h fits = let c = dest_cell x e (lval.Cell x e) a p refl h in none c.array.0 c.array.1

  pub never_index_dest : (x : Var) (e : Expr) → NeverIndex home e → NeverDest home z (lval.Cell x e)
  never_index_dest x e none a p h fits = (dest_cell x e (lval.Cell x e) a p refl h).index none fits

  -- ---- memory
  record IsAccess (f : Access) (a : Arg) : Type 0 where
    pub size : HasSize f z
    pub address : NeverAddress home f.at → HasFields a → ⊥

  same_load : (f g : Access) → ◌≡◌ {A = Layer} (Expr-F.Load f) (Expr-F.Load g) → f ≡ g
  same_load f g e = cc

  arg_access : (f : Access) (e : Expr) (a : Arg) (p : Leaks) → out-Expr e ≡ Expr-F.Load f → IsArg home z e a p → IsAccess f a
  arg_access f e a p s (a_word x n h) = let q : ◌≡◌ {A = Layer} (Expr-F.Var x) (Expr-F.Load f) = sym (out_var x) ∙ s in absurd cc
  arg_access f e a p s (a_number i at) = let q : ◌≡◌ {A = Layer} (Expr-F.Num i at) (Expr-F.Load f) = sym (out_num i at) ∙ s in absurd cc
  arg_access f e a p s (a_scalar x w h) = let q : ◌≡◌ {A = Layer} (Expr-F.Var x) (Expr-F.Load f) = sym (out_var x) ∙ s in absurd cc
  arg_access f e a p s (a_cell x g n w t b i c u k) = let q : ◌≡◌ {A = Layer} (Expr-F.Cell x g) (Expr-F.Load f) = sym (out_cell x g) ∙ s in absurd cc
  arg_access f e a p s (a_load g t m size u k) = load_access f g t m (same_load g f (sym (out_load g) ∙ s)) size u k
    where
      load_access : (f g : Access) (t : Sum) (m : Address) → g ≡ f → HasSize g z → IsSum home g.at t → IsAddress t m → IsAccess f (arg.Mem m)
      load_access f g t m e size u k = record { size = subst (λ x. HasSize x z) e size; address = λ none fits. none t m (subst (λ (x : Access). IsSum home x.at t) e u) k fits.0 fits.1 }

  dest_access : (f : Access) (d : Lval) (a : Arg) (p : Leaks) → d ≡ lval.Store f → IsDest home z d a p → IsAccess f a
  dest_access f d a p s (to_word y n k h) = absurd cc
  dest_access f d a p s (to_scalar y w k h) = absurd cc
  dest_access f d a p s (to_cell y g n w t b i cells u k) = absurd cc
  dest_access f d a p s (to_memory g t m size u k) =
      let e : g ≡ f = cc in
      record { size = subst (λ x. HasSize x z) e size; address = λ none fits. none t m (subst (λ (x : Access). IsSum home x.at t) e u) k fits.0 fits.1 }

  pub never_size : (f : Access) → (HasSize f z → ⊥) → NeverArg home z (expr.Load f)
  never_size f none a p h fits = none (arg_access f (expr.Load f) a p (out_load f) h).size

  pub never_address : (f : Access) → NeverAddress home f.at → NeverArg home z (expr.Load f)
  never_address f none a p h fits = (arg_access f (expr.Load f) a p (out_load f) h).address none fits

  pub never_size_dest : (f : Access) → (HasSize f z → ⊥) → NeverDest home z (lval.Store f)
  never_size_dest f none a p h fits = none (dest_access f (lval.Store f) a p refl h).size

  pub never_address_dest : (f : Access) → NeverAddress home f.at → NeverDest home z (lval.Store f)
  never_address_dest f none a p h fits = (dest_access f (lval.Store f) a p refl h).address none fits

  -- ---- other forms
  other : (e : Expr) (l : Layer) → out-Expr e ≡ l → ((a : Arg) (p : Leaks) → ArgLayer home z l a p → ⊥) → NeverArg home z e
  other e l s none a p h fits = none a p (at_layer e l a p s h)

  no_bool : (b : Bool) (at : Span) (a : Arg) (p : Leaks) → ArgLayer home z (Expr-F.Expr::Bool b at) a p → ⊥
  no_bool b at a p h = elim h [ ]

  no_neg : (e : Expr) (at : Span) (a : Arg) (p : Leaks) → ArgLayer home z (Expr-F.Neg e at) a p → ⊥
  no_neg e at a p h = elim h [ ]

  no_not : (e : Expr) (at : Span) (a : Arg) (p : Leaks) → ArgLayer home z (Expr-F.Not e at) a p → ⊥
  no_not e at a p h = elim h [ ]

  no_cast : (y : Size) (s : Bool) (e : Expr) (at : Span) (a : Arg) (p : Leaks) → ArgLayer home z (Expr-F.Cast y s e at) a p → ⊥
  no_cast y s e at a p h = elim h [ ]

  no_bin : (o : BinOp) (e f : Expr) (at : Span) (a : Arg) (p : Leaks) → ArgLayer home z (Expr-F.Bin o e f at) a p → ⊥
  no_bin o e f at a p h = elim h [ ]

  pub never_bool : (b : Bool) (at : Span) → NeverArg home z (expr.Bool b at)
  never_bool b at = other (expr.Bool b at) (Expr-F.Expr::Bool b at) (out_bool b at) (no_bool b at)

  pub never_neg : (e : Expr) (at : Span) → NeverArg home z (expr.Neg e at)
  never_neg e at = other (expr.Neg e at) (Expr-F.Neg e at) (out_neg e at) (no_neg e at)

  pub never_not : (e : Expr) (at : Span) → NeverArg home z (expr.Not e at)
  never_not e at = other (expr.Not e at) (Expr-F.Not e at) (out_not e at) (no_not e at)

  pub never_cast : (y : Size) (s : Bool) (e : Expr) (at : Span) → NeverArg home z (expr.Cast y s e at)
  never_cast y s e at = other (expr.Cast y s e at) (Expr-F.Cast y s e at) (out_cast y s e at) (no_cast y s e at)

  pub never_bin : (o : BinOp) (e f : Expr) (at : Span) → NeverArg home z (expr.Bin o e f at)
  never_bin o e f at = other (expr.Bin o e f at) (Expr-F.Bin o e f at) (out_bin o e f at) (no_bin o e f at)

  skipped : (d : Lval) (at : Span) (a : Arg) (p : Leaks) → d ≡ lval.Skip at → IsDest home z d a p → ⊥
  skipped d at a p e (to_word y n k h) = absurd cc
  skipped d at a p e (to_scalar y w k h) = absurd cc
  skipped d at a p e (to_cell y g n w t b i cells u k) = absurd cc
  skipped d at a p e (to_memory g t m size u k) = absurd cc

  pub never_skip : (at : Span) → NeverDest home z (lval.Skip at)
  never_skip at a p h fits = skipped (lval.Skip at) at a p refl h
