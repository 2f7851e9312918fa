-- Of what an expression leaks in two states, the indices of cells that become scalars are the same.
use Rattle.std.proofs.Common.{◌≡◌, ℕ, List, [], ◌∷◌, ◌++◌, Option, Some, None, Bool, true, false, refl, ap, sym, ◌∙◌, subst, arith, length-append}
use Rattle.std.specs.Prelude.{if◌then◌else◌, pos}
use Rattle.std.specs.Option.{option_or}
use Rattle.std.proofs.lemmas.Bool.{and_parts}
use Rattle.jz_tree.specs.Size.{Size}
use Rattle.jz_tree.specs.Size.TheVariants.{S64}
use Rattle.jz_tree.specs.declared.expr.Expr.{Expr}
use Rattle.jz_tree.specs.declared.expr.Ty.{Ty}
use Rattle.jz_tree.specs.declared.expr.Access.{Access}
use Rattle.jz_tree.specs.declared.expr.Decl.{Decl}
use Rattle.jz_tree.specs.declared.expr.Var.{Var}
use Rattle.jz_tree.specs.declared.expr.Expr.TheOpen.{Expr-F, Access-F}
use Rattle.jz_tree.specs.declared.expr.Expr.TheViews.{roll-Expr, roll-Access, out-Expr, out-Access, roll-out-Expr, roll-out-Access}
use Rattle.jz_tree.specs.declared.expr.Expr.TheFolds.{fold-roll-Access, ind-Expr, map-Expr, map-Access}
use Rattle.jz_runs.specs.Rules.{went}
use Rattle.jz_meaning.specs.Attempts.{Evaluation, numbers_first, and_then, defined}
use Rattle.jz_meaning.specs.States.{Value, integer, Store, State}
use Rattle.jz_meaning.specs.Operators.{is_settled, binary, negated, inverted, cast}
use Rattle.jz_meaning.specs.Values.{Ref, cell_key, index_at, cell_value, MemoryAccess, load_at, variable_value, Meaning, right_wanted, left_wanted, ref_of, access_of, own_size, evaluated}
use Rattle.jz_meaning.specs.Shapes.{Sorts, HoldsSorts, Shape, shape_step, shape_of, own_count}
use Rattle.jz_unroll.proofs.PartNumbers.{none_first}
use Rattle.jz_unroll.proofs.Layers.{Layer, meaning_layer, meaning_is, access_is}
use Rattle.jz_arrays.specs.Cells.{sort_in, cell_in, is_scalar, size_at, with_scalars, Mask, all_kept, mask_of, access_mask}
use Rattle.jz_arrays.proofs.Reading.{of_defined, mask_layer, mask_is, access_mask_is, shape_access, shape_layer, shape_is, scalars_so, cell_is, constant_index}
use Rattle.jz_told_numbers.specs.Dropped.{SameDropped, HasLength}
use Rattle.jz_told_numbers.proofs.Masks.{no_mask_left, length_of, length_went, drop_then, drop_kept, drop_first, drop_one}

-- two operands, of which the right one may be left out
module _ (ma mb k : Mask) (own : ℕ) (is : k ≡ all_kept own) (ga ga2 gb gb2 : Evaluation Value) (bin bin2 : Value → Value → Evaluation Value) (settled : Value → Bool) where
  abbrev right_of : Evaluation Value → (Value → Value → Evaluation Value) → Value → Evaluation Value
  right_of g f x = if settled x then went [] x else and_then g (f x)

  bin_drop : HasLength ma ga → HasLength ma ga2 → SameDropped ma ga ga2 → HasLength mb gb → HasLength mb gb2 → SameDropped mb gb gb2
      → HasLength (ma ++ (mb ++ k)) (and_then ga (right_of gb bin)) → HasLength (ma ++ (mb ++ k)) (and_then ga2 (right_of gb2 bin2)) → SameDropped (ma ++ (mb ++ k)) (and_then ga (right_of gb bin)) (and_then ga2 (right_of gb2 bin2))
  bin_drop la la2 da lb lb2 db whole whole2 = drop_then ma (mb ++ k) ga ga2 (right_of gb bin) (right_of gb2 bin2) la la2 da rest
    where
      -- nothing is left to drop where the right operand is left out
      empty : (g : Evaluation Value) (f : Value → Evaluation Value) (ns : List ℕ) (x : Value) → HasLength (ma ++ (mb ++ k)) (and_then g f) → HasLength ma g → g ≡ went ns x → f x ≡ went [] x → mb ++ k ≡ []
      empty g f ns x w l q r =
          let e : and_then g f ≡ went (ns ++ []) x = ap (λ y. and_then y f) q ∙ ap (numbers_first ns) r in
          let n = length_went (ma ++ (mb ++ k)) (and_then g f) (ns ++ []) x w e in
          let m = length_went ma g ns x l q in
          no_mask_left (mb ++ k) (omega (arith, n, m, length-append ns [], length-append ma (mb ++ k)))

      rest : (ns ms : List ℕ) (x y : Value) → ga ≡ went ns x → ga2 ≡ went ms y → SameDropped (mb ++ k) (right_of gb bin x) (right_of gb2 bin2 y)
      rest ns ms x y p q = by_tests (settled x) (settled y) refl refl
        where
          by_tests : (a b : Bool) → settled x ≡ a → settled y ≡ b → SameDropped (mb ++ k) (right_of gb bin x) (right_of gb2 bin2 y)
          by_tests true b u v =
              let e = empty ga (right_of gb bin) ns x whole la p (ap (λ t. if t then went [] x else and_then gb (bin x)) u) in
              subst (λ m. SameDropped m (right_of gb bin x) (right_of gb2 bin2 y)) (sym e) (drop_kept 0 (right_of gb bin x) (right_of gb2 bin2 y))
          by_tests false true u v =
              let e = empty ga2 (right_of gb2 bin2) ms y whole2 la2 q (ap (λ t. if t then went [] y else and_then gb2 (bin2 y)) v) in
              subst (λ m. SameDropped m (right_of gb bin x) (right_of gb2 bin2 y)) (sym e) (drop_kept 0 (right_of gb bin x) (right_of gb2 bin2 y))
          by_tests false false u v =
              subst (λ t. SameDropped (mb ++ k) (if t then went [] x else and_then gb (bin x)) (right_of gb2 bin2 y)) (sym u)
              (subst (λ t. SameDropped (mb ++ k) (and_then gb (bin x)) (if t then went [] y else and_then gb2 (bin2 y))) (sym v)
              (drop_then mb k gb gb2 (bin x) (bin2 y) lb lb2 db (λ us vs c d g h. subst (λ m. SameDropped m (bin x c) (bin2 y d)) (sym is) (drop_kept own (bin x c) (bin2 y d)))))

-- no number behind the index of a cell
cell_none : (r : Ref) (store : Store) (j : ℕ) (ns : List ℕ) (u : Value) → defined r.span (store (cell_key r j)) ≡ went ns u → ns ≡ []
cell_none r store j ns u e = of_defined r.span (store (cell_key r j)) ns u e

module _ (sorts : Sorts) (s r : State) (hs : HoldsSorts sorts s.store) (hr : HoldsSorts sorts r.store) where
  abbrev M : Expr → Mask
  M = mask_of (sort_in sorts)

  pub one_length : (e : Expr) (w : Option Size) → (shape_of sorts e).fixed ≡ true → HasLength (M e) (evaluated e w s)
  one_length e w f = length_of (M e) (evaluated e w s) (evaluated (with_scalars e) w s) (scalars_so sorts s hs e w f)

  pub other_length : (e : Expr) (w : Option Size) → (shape_of sorts e).fixed ≡ true → HasLength (M e) (evaluated e w r)
  other_length e w f = length_of (M e) (evaluated e w r) (evaluated (with_scalars e) w r) (scalars_so sorts r hr e w f)

  abbrev Any : {A : Type 0} → A → Type 0
  Any y = Unit {0}

  abbrev ExprLaw : Expr → Type 0
  ExprLaw e = (shape_of sorts e).fixed ≡ true → (w v : Option Size) → SameDropped (M e) (evaluated e w s) (evaluated e v r)

  -- with how many numbers there are
  abbrev AccessLaw : Access → Type 0
  AccessLaw a =
      (shape_access sorts a).fixed ≡ true
      → HasLength (access_mask (sort_in sorts) a) ((access_of a).at s) × HasLength (access_mask (sort_in sorts) a) ((access_of a).at r)
      × SameDropped (access_mask (sort_in sorts) a) ((access_of a).at s) ((access_of a).at r)

  abbrev Known : Type 0
  Known = Expr-F ((e : Expr) × ExprLaw e) ((t : Ty) × Any t) ((a : Access) × AccessLaw a) ((d : Decl) × Any d) ((v : Var) × Any v)

  abbrev bare : Known → Layer
  bare y = map-Expr _ _ _ _ _ _ _ _ _ _ (λ e. e.0) (λ e. e.0) (λ e. e.0) (λ e. e.0) (λ e. e.0) y

  -- how many numbers a layer has
  layer_length : (x : Layer) (w : Option Size) (t : State) → HoldsSorts sorts t.store → (shape_layer sorts x).fixed ≡ true → HasLength (mask_layer (sort_in sorts) x) ((meaning_layer x).run w t)
  layer_length x w t h f =
      let e = roll-Expr x in
      subst (λ m. HasLength m ((meaning_layer x).run w t)) (mask_is (sort_in sorts) x)
      (subst (HasLength (M e)) (ap (λ (p : Meaning). p.run w t) (meaning_is x)) (length_of (M e) (evaluated e w t) (evaluated (with_scalars e) w t) (scalars_so sorts t h e w (ap (λ (p : Shape). p.fixed) (shape_is sorts x) ∙ f))))

  layer_law : (y : Known) → (shape_layer sorts (bare y)).fixed ≡ true → (w v : Option Size) → SameDropped (mask_layer (sort_in sorts) (bare y)) ((meaning_layer (bare y)).run w s) ((meaning_layer (bare y)).run v r)
  layer_law (Expr-F.Num i at) f w v = refl
  layer_law (Expr-F.Expr::Bool c at) f w v = refl
  layer_law (Expr-F.Var x) f w v = drop_kept 0 (variable_value (ref_of x.0) s.store) (variable_value (ref_of x.0) r.store)
  layer_law (Expr-F.Cell x i) f w v = by_scalar (size_at x.0) (cell_in x.0 i.0) refl
    where
      p : Ref
      p = ref_of x.0

      Value1 : Value → Evaluation Value
      Value1 u = cell_value p u s.store

      Value2 : Value → Evaluation Value
      Value2 u = cell_value p u r.store

      stays : SameDropped (M i.0 ++ true ∷ []) (and_then (evaluated i.0 (Some S64) s) Value1) (and_then (evaluated i.0 (Some S64) r) Value2)
      stays = drop_then (M i.0) (true ∷ []) (evaluated i.0 (Some S64) s) (evaluated i.0 (Some S64) r) Value1 Value2 (one_length i.0 (Some S64) f) (other_length i.0 (Some S64) f) (i.1 f (Some S64) (Some S64)) (λ ns ms a b g h. drop_kept 1 (Value1 a) (Value2 b))

      by_scalar : (z : Option Size) (n : Option ℕ) → cell_in x.0 i.0 ≡ n → SameDropped (if is_scalar z n then false ∷ [] else M i.0 ++ true ∷ []) (and_then (evaluated i.0 (Some S64) s) Value1) (and_then (evaluated i.0 (Some S64) r) Value2)
      by_scalar None n q = stays
      by_scalar (Some z) None q = stays
      by_scalar (Some z) (Some n) q =
          let at : (t : State) → evaluated i.0 (Some S64) t ≡ went [] (integer (pos n)) = (λ t. constant_index i.0 n (out-Expr i.0) (roll-out-Expr i.0) (cell_is x.0 i.0 n q).0 (Some S64) t) in
          subst (λ g. SameDropped (false ∷ []) (and_then g Value1) (and_then (evaluated i.0 (Some S64) r) Value2)) (sym (at s))
          (subst (λ g. SameDropped (false ∷ []) (numbers_first [] (Value1 (integer (pos n)))) (and_then g Value2)) (sym (at r))
          (subst (λ g. SameDropped (false ∷ []) g (numbers_first [] (Value2 (integer (pos n))))) (sym (none_first (Value1 (integer (pos n)))))
          (subst (SameDropped (false ∷ []) (Value1 (integer (pos n)))) (sym (none_first (Value2 (integer (pos n)))))
          (drop_one (false ∷ []) (index_at p (integer (pos n))) (λ j. defined p.span (s.store (cell_key p j))) (λ j. defined p.span (r.store (cell_key p j))) (λ j ns u e. cell_none p s.store j ns u e) (λ j ns u e. cell_none p r.store j ns u e)))))
  layer_law (Expr-F.Load a) f w v =
      let p = access_of a.0 in let l = a.1 f in
      drop_then (access_mask (sort_in sorts) a.0) (true ∷ []) (p.at s) (p.at r) (λ u. load_at p w u s.memory) (λ u. load_at p v u r.memory) l.0 l.1 l.2 (λ ns ms x y g h. drop_kept 1 (load_at p w x s.memory) (load_at p v y r.memory))
  layer_law (Expr-F.Neg e at) f w v =
      let z = option_or w (own_size e.0) in let y = option_or v (own_size e.0) in
      drop_first (M e.0) (evaluated e.0 z s) (evaluated e.0 y r) (λ u. defined at (negated u)) (λ u. defined at (negated u)) (one_length e.0 z f) (other_length e.0 y f) (e.1 f z y)
  layer_law (Expr-F.Not e at) f w v =
      let z = option_or w (own_size e.0) in let y = option_or v (own_size e.0) in
      drop_first (M e.0) (evaluated e.0 z s) (evaluated e.0 y r) (λ u. went [] (inverted u)) (λ u. went [] (inverted u)) (one_length e.0 z f) (other_length e.0 y f) (e.1 f z y)
  layer_law (Expr-F.Cast t sign e at) f w v =
      let z = own_size e.0 in
      drop_first (M e.0) (evaluated e.0 z s) (evaluated e.0 z r) (λ u. defined at (cast t sign u)) (λ u. defined at (cast t sign u)) (one_length e.0 z f) (other_length e.0 z f) (e.1 f z z)
  layer_law (Expr-F.Bin op a b at) f w v =
      let z = left_wanted op w (own_size a.0) (own_size b.0) in let y = left_wanted op v (own_size a.0) (own_size b.0) in
      let own = own_count op (shape_of sorts a.0).sort (shape_of sorts b.0).sort in
      let fa = and_parts (shape_of sorts a.0).fixed _ f in let fb = and_parts (shape_of sorts b.0).fixed _ fa.1 in
      bin_drop (M a.0) (M b.0) (all_kept own) own refl (evaluated a.0 z s) (evaluated a.0 y r) (evaluated b.0 (right_wanted op z) s) (evaluated b.0 (right_wanted op y) r) (binary op at z) (binary op at y) (is_settled op)
      (one_length a.0 z fa.0) (other_length a.0 y fa.0) (a.1 fa.0 z y) (one_length b.0 (right_wanted op z) fb.0) (other_length b.0 (right_wanted op y) fb.0) (b.1 fb.0 (right_wanted op z) (right_wanted op y))
      (layer_length (Expr-F.Bin op a.0 b.0 at) w s hs f) (layer_length (Expr-F.Bin op a.0 b.0 at) v r hr f)

  expr_case : (y : Known) → ExprLaw (roll-Expr (bare y))
  expr_case y f w v =
      let x = bare y in
      subst (λ m. SameDropped m (evaluated (roll-Expr x) w s) (evaluated (roll-Expr x) v r)) (sym (mask_is (sort_in sorts) x))
      (subst (λ g. SameDropped (mask_layer (sort_in sorts) x) g (evaluated (roll-Expr x) v r)) (sym (ap (λ (p : Meaning). p.run w s) (meaning_is x)))
      (subst (SameDropped (mask_layer (sort_in sorts) x) ((meaning_layer x).run w s)) (sym (ap (λ (p : Meaning). p.run v r) (meaning_is x))) (layer_law y (sym (ap (λ (h : Shape). h.fixed) (shape_is sorts x)) ∙ f) w v)))

  access_case : (y : Access-F ((e : Expr) × ExprLaw e) ((t : Ty) × Any t) ((a : Access) × AccessLaw a) ((d : Decl) × Any d) ((v : Var) × Any v)) → AccessLaw (roll-Access (map-Access _ _ _ _ _ _ _ _ _ _ (λ e. e.0) (λ e. e.0) (λ e. e.0) (λ e. e.0) (λ e. e.0) y))
  access_case y f =
      let x = map-Access _ _ _ _ _ Expr Ty Access Decl Var (λ e. e.0) (λ e. e.0) (λ e. e.0) (λ e. e.0) (λ e. e.0) y in
      let sh = fold-roll-Access _ _ _ _ _ shape_step (λ t. tt) (λ a. a.at) (λ d. tt) (λ v. sorts v.name v.copy) x in
      let g : (shape_of sorts y.at.0).fixed ≡ true = sym (ap (λ (h : Shape). h.fixed) sh) ∙ f in
      let m = access_mask_is (sort_in sorts) x in
      let n : (t : State) → (access_of (roll-Access x)).at t ≡ evaluated y.at.0 (Some S64) t = (λ t. ap (λ (p : MemoryAccess). p.at t) (access_is x)) in (
        subst (λ k. HasLength k ((access_of (roll-Access x)).at s)) (sym m) (subst (HasLength (M y.at.0)) (sym (n s)) (one_length y.at.0 (Some S64) g)),
        subst (λ k. HasLength k ((access_of (roll-Access x)).at r)) (sym m) (subst (HasLength (M y.at.0)) (sym (n r)) (other_length y.at.0 (Some S64) g)),
        subst (λ k. SameDropped k ((access_of (roll-Access x)).at s) ((access_of (roll-Access x)).at r)) (sym m)
            (subst (λ u. SameDropped (M y.at.0) u ((access_of (roll-Access x)).at r)) (sym (n s)) (subst (SameDropped (M y.at.0) (evaluated y.at.0 (Some S64) s)) (sym (n r)) (y.at.1 g (Some S64) (Some S64)))),
      )

  pub expression_drops : (e : Expr) → ExprLaw e
  expression_drops =
      ind-Expr ExprLaw Any AccessLaw Any Any
      (λ z y is. subst (λ k. ExprLaw (roll-Expr k)) is (expr_case y))
      (λ z y is. tt)
      (λ z y is. subst (λ k. AccessLaw (roll-Access k)) is (access_case y))
      (λ z y is. tt)
      (λ z y is. tt)

  pub access_drops : (a : Access) → AccessLaw a
  access_drops a =
      let x = out-Access a in
      subst AccessLaw (roll-out-Access a) (access_case (record { size = x.size; at = (x.at, expression_drops x.at); unaligned = x.unaligned; span = x.span }))
