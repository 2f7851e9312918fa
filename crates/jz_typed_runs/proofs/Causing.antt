-- Why an expression in its place is stuck.
use Rattle.std.proofs.Common.{◌≡◌, ℕ, ℤ, Bool, true, false, List, [], ◌∷◌, Option, Some, None, refl, sym, ap, ◌∙◌, subst, inl, inr, if◌then◌else◌, ltb-true}
use Rattle.std.specs.Prelude.{nat_lt, ◌||◌, Contains}
use Rattle.std.specs.Option.{option_or}
use Rattle.jz_tree.specs.Span.{Span}
use Rattle.jz_tree.specs.Size.{Size}
use Rattle.jz_tree.specs.Size.TheVariants.{S64}
use Rattle.jz_tree.specs.Sizes.{bytes_of}
use Rattle.jz_tree.specs.Memory.{Memory, loaded}
use Rattle.jz_tree.specs.declared.expr.BinOp.{BinOp}
use Rattle.jz_tree.specs.declared.expr.Expr.{Expr}
use Rattle.jz_tree.specs.declared.expr.Ty.{Ty}
use Rattle.jz_tree.specs.declared.expr.Access.{Access}
use Rattle.jz_tree.specs.declared.expr.Decl.{Decl}
use Rattle.jz_tree.specs.declared.expr.Var.{Var}
use Rattle.jz_tree.specs.declared.expr.Expr.TheOpen.{Expr-F, Access-F}
use Rattle.jz_tree.specs.declared.expr.Expr.TheViews.{out-Expr, out-roll-Expr, roll-Expr, out-Access, out-roll-Access, roll-Access, roll-out-Access}
use Rattle.jz_tree.specs.declared.expr.Expr.TheFolds.{fold-roll-Expr, fold-roll-Access, ind-Expr, map-Expr, map-Access}
use Rattle.jz_type_names.specs.Kinds.{known_of}
use Rattle.jz_type_names.specs.declared.kinds.Kind as known
use Rattle.jz_type_names.specs.Kinds.{Known}
use Rattle.jz_type_sizes.specs.declared.operators.Group.TheVariants as group
use Rattle.jz_judgement.specs.Places.{Place, index, IsArrayOf, ArrayKind, count_place}
use Rattle.jz_judgement.specs.Places as place
use Rattle.jz_judgement.specs.HasType as judged
use Rattle.jz_judgement.specs.HasType.{Layer, value, HasType, Types, Accesses, Operates, Says}
use Rattle.jz_judgement.proofs.Nothing.{none_not}
use Rattle.jz_meaning.specs.declared.access.Kind as meant
use Rattle.jz_meaning.specs.declared.access.Kind.TheVariants as kind
use Rattle.jz_meaning.specs.declared.value.Stuck as code
use Rattle.jz_meaning.specs.declared.value.Why.TheVariants.{Bounds, Address, Align, Init, Divide}
use Rattle.jz_meaning.specs.Rules.{stuck, went}
use Rattle.jz_meaning.specs.Attempts.{Evaluation, numbers_first, stuck_at, and_then, defined}
use Rattle.jz_meaning.specs.States.{Value, word, boolean, integer, State}
use Rattle.jz_meaning.specs.Operators.{is_settled, same_size, binary, negated, inverted, cast}
use Rattle.jz_meaning.specs.Operators as operators
use Rattle.jz_meaning.specs.Values.{Ref, Meaning, key_of, cell_key, in_cells, index_at, cell_value, MemoryAccess, is_aligned, accessed, load_word, address_at, load_at, left_wanted, right_wanted, with_right, run_binary, expr_step, ty_step, access_step, decl_step, var_step, ref_of, access_of, own_size, evaluated}
use Rattle.jz_run_laws.specs.Kinds.{Kinds, IsOfKinds}
use Rattle.jz_run_laws.specs.DeclaredKinds.{IsDeclared}
use Rattle.jz_run_laws.specs.Kept.{IfWent}
use Rattle.jz_run_laws.proofs.Parts.{AnyOf, went_any}
use Rattle.jz_run_laws.specs.Counted as counted
use Rattle.jz_run_laws.specs.Counted.{Counted, Each, EachLayer}
use Rattle.jz_run_laws.specs.Values.{IsAt, IsWanted}
use Rattle.jz_run_laws.proofs.SameKinds as same
use Rattle.jz_run_laws.proofs.SameKinds.{SameKind, SameKnown}
use Rattle.jz_run_laws.proofs.Sizes.{CountedLayer, meant_layer, says_law, variable_law, access_law, types_of, each_of}
use Rattle.jz_run_laws.proofs.Placed.{sum_group}
use Rattle.jz_run_laws.proofs.OperatorsInPlaces.{is_arith, is_compare, is_moved}
use Rattle.jz_run_laws.proofs.InPlaces.{in_place}
use Rattle.jz_typed_runs.specs.Causes.{IsCell, ReadsUnset, IsPart, StandsWithin, itself, in_part, Computes, HasNumber, HasNoValue, IsCaused, CauseLaw}
use Rattle.jz_typed_runs.specs.Causes as causes
use Rattle.jz_typed_runs.proofs.OperatorCauses.{IfStuck, size_fits, arith_fine, carry_fine, shift_fine, integers_fine, words_compare, logic_fine, plain_fine, moved_fine, negated_fine, cast_fine}
use Rattle.jz_run_laws.proofs.InPlaces.{facts_of, is_logic, still_wanted, own_unsized, own_truth, plain_right, shift_right, left_of_word, no_size, moved_size, either_says, left_of_words}

-- ---- one after another
pub stuck_first : {A : Type 0} (C : code.Stuck → Type 0) (ns : List ℕ) (g : Evaluation A) → IfStuck C g → IfStuck C (numbers_first ns g)
stuck_first C ns (stuck w) h = h
stuck_first C ns (went ms x) h = tt

pub stuck_then : {A B : Type 0} (C : code.Stuck → Type 0) (P : A → Type 0) (g : Evaluation A) (f : A → Evaluation B) → IfStuck C g → IfWent P g
    → ((ns : List ℕ) (x : A) → g ≡ went ns x → P x → IfStuck C (f x)) → IfStuck C (and_then g f)
stuck_then C P (stuck w) f h p k = h
stuck_then C P (went ns x) f h p k = stuck_first C ns (f x) (k ns x refl p)

pub is_stuck : {A : Type 0} (C : code.Stuck → Type 0) (g : Evaluation A) (w : code.Stuck) → g ≡ stuck w → IfStuck C g → C w
is_stuck C g w e h = subst (IfStuck C) e h

pub bounds_not : Bounds ≡ Init → ⊥
bounds_not e = cc

pub address_not : Address ≡ Init → ⊥
address_not e = cc

pub align_not : Align ≡ Init → ⊥
align_not e = cc

pub divide_not : Divide ≡ Init → ⊥
divide_not e = cc

-- ---- the kind of an array
pub array_kind : (k : known.Kind) (m : meant.Kind) (z : Size) → SameKind k m → ArrayKind z k → (n : ℕ) × (m ≡ kind.Array z n)
array_kind k m z same.int g = absurd g
array_kind k m z same.bool g = absurd g
array_kind k m z (same.word y) g = absurd g
array_kind k m z (same.array y n) g = (n, ap (λ x. kind.Array x n) g)

pub array_known : (k : Known) (m : meant.Kind) (z : Size) → SameKnown k m → IsArrayOf z k → (n : ℕ) × (m ≡ kind.Array z n)
array_known None m z e g = absurd g
array_known (Some d) m z e g = array_kind d.kind m z e g

-- ---- where an access is
pub access_run : (a : Access) → (access_of a).at ≡ evaluated (out-Access a).at (Some S64)
access_run a =
    ap (λ x. (access_of x).at) (sym (roll-out-Access a))
    ∙ ap (λ x. x.at) (fold-roll-Access Meaning meant.Kind MemoryAccess meant.Kind Ref expr_step ty_step access_step decl_step var_step (out-Access a))

module _ (kinds : Kinds) (s : State) (h : IsOfKinds kinds s) (vs : List Var) where
  abbrev C : Layer → code.Stuck → Type 0
  C l w = IsCaused vs l s w

  -- ---- a part and the whole
  grown : {l : Layer} {c : Expr} (w : code.Stuck) → IsPart l c → C (out-Expr c) w → C l w
  grown w p k i =
      elim (k i) [
        | inl a ↦ inl a
        | inr b ↦ inr (record { operation = b.operation; within = in_part p b.within; operand = b.operand; at = b.at; computes = b.computes; number = b.number; holds = b.holds; told = b.told })
      ]

  whole : {A : Type 0} {l : Layer} {c : Expr} (g : Evaluation A) → IsPart l c → IfStuck (C (out-Expr c)) g → IfStuck (C l) g
  whole (stuck w) p k = grown w p k
  whole (went ns x) p k = tt

  -- ---- operands
  number_of : (l : Layer) (e : Expr) (at : Span) (w : Option Size) (ns : List ℕ) (x : Value) → Computes l e at → evaluated e w s ≡ went ns x
      → (i : ℤ) → x ≡ integer i → C l (record { span = at; why = Init })
  number_of l e at w ns x c g i is = λ j.
      inr (record { operation = l; within = itself; operand = e; at = at; computes = c; number = i; holds = record { wanted = w; leaked = ns; gives = g ∙ ap (λ (y : Value). went ns y) is }; told = refl })

  division : (l : Layer) (at : Span) → C l (record { span = at; why = Divide })
  division l at j = absurd (divide_not j)

  -- ---- variables
  unset_by : (l : Layer) (v : Var) (o : Option Value) → Contains vs v → s.store (key_of (ref_of v)) ≡ o → IfStuck (C l) (defined (ref_of v).span o)
  unset_by l v None c e = λ j. inl (record { variable = v; of_part = c; unset = inl e; told = refl })
  unset_by l v (Some x) c e = tt

  cell_by : (l : Layer) (v : Var) (i : ℕ) (o : Option Value) → Contains vs v → IsCell (ref_of v).kind i → s.store (cell_key (ref_of v) i) ≡ o → IfStuck (C l) (defined (ref_of v).span o)
  cell_by l v i None c lt e = λ j. inl (record { variable = v; of_part = c; unset = inr (i, lt, e); told = refl })
  cell_by l v i (Some x) c lt e = tt

  word_there : (l : Layer) (at : Span) (z : Size) (u : Value) → IsAt (place.stated z) u → IfStuck (C l) (operators.word_at at z u)
  word_there l at z (word y a) k = subst (λ b. IfStuck (C l) (defined at (if b then Some a else None))) (sym (size_fits z y k)) tt
  word_there l at z (integer i) k = tt
  word_there l at z (boolean c) k = absurd k

  index_if : (l : Layer) (c : Bool) (at : Span) (i : ℕ) → IfStuck (C l) (if c then went (i ∷ []) i else stuck_at at Bounds)
  index_if l true at i = tt
  index_if l false at i = λ j. absurd (bounds_not j)

  cells_fine : (l : Layer) (at : Span) (k : meant.Kind) (z : Size) (n i : ℕ) → k ≡ kind.Array z n → IfStuck (C l) (in_cells at k i)
  cells_fine l at k z n i e = subst (λ k. IfStuck (C l) (in_cells at k i)) (sym e) (index_if l (nat_lt i n) at i)

  index_went : (c : Bool) (at : Span) (z : Size) (n i : ℕ) → nat_lt i n ≡ c → IfWent (IsCell (kind.Array z n)) (if c then went (i ∷ []) i else stuck_at at Bounds)
  index_went true at z n i e = ltb-true i n e
  index_went false at z n i e = tt

  cells_went : (at : Span) (k : meant.Kind) (z : Size) (n i : ℕ) → k ≡ kind.Array z n → IfWent (IsCell k) (in_cells at k i)
  cells_went at k z n i e = subst (λ k. IfWent (IsCell k) (in_cells at k i)) (sym e) (index_went (nat_lt i n) at z n i refl)

  then_went : {A B : Type 0} (Q : B → Type 0) (g : Evaluation A) (f : A → Evaluation B) → ((x : A) → IfWent Q (f x)) → IfWent Q (and_then g f)
  then_went Q (stuck w) f k = tt
  then_went Q (went ns x) f k = first Q ns (f x) (k x)
    where
      first : {B : Type 0} (Q : B → Type 0) (ns : List ℕ) (g : Evaluation B) → IfWent Q g → IfWent Q (numbers_first ns g)
      first Q ns (stuck w) k = tt
      first Q ns (went ms x) k = k

  cell_fine : (l : Layer) (v : Var) (z : Size) (n : ℕ) (u : Value) → Contains vs v → (ref_of v).kind ≡ kind.Array z n → IsAt index u → IfStuck (C l) (cell_value (ref_of v) u s.store)
  cell_fine l v z n u c e k =
      let x = ref_of v in
      stuck_then (C l) (IsCell x.kind) (index_at x u) (λ i. defined x.span (s.store (cell_key x i)))
      (stuck_then (C l) (AnyOf {A = ℕ}) (operators.word_at x.span S64 u) (in_cells x.span x.kind) (word_there l x.span S64 u k) (went_any (operators.word_at x.span S64 u)) (λ ns i g t. cells_fine l x.span x.kind z n i e))
      (then_went (IsCell x.kind) (operators.word_at x.span S64 u) (in_cells x.span x.kind) (λ i. cells_went x.span x.kind z n i e))
      (λ ns i g lt. cell_by l v i (s.store (cell_key x i)) c lt refl)

  -- ---- memory
  aligned_fine : (l : Layer) (c : Bool) (at : Span) (a b : ℕ) (z : Size) → IfStuck (C l) (and_then (if c then went (a ∷ []) b else stuck_at at Align) (λ b. went [] (word z b)))
  aligned_fine l true at a b z = tt
  aligned_fine l false at a b z = λ j. absurd (align_not j)

  loaded_fine : (l : Layer) (at : Span) (u : Bool) (z : Size) (a : ℕ) (b : Option ℕ) → IfStuck (C l) (and_then (accessed at u z a b) (λ b. went [] (word z b)))
  loaded_fine l at u z a None = λ j. absurd (address_not j)
  loaded_fine l at u z a (Some b) = aligned_fine l (u || is_aligned z a) at a b z

  load_word_fine : (l : Layer) (at : Span) (u : Bool) (o : Option Size) (z : Size) (a : ℕ) (m : Memory) → o ≡ Some z → IfStuck (C l) (load_word at u o a m)
  load_word_fine l at u None z a m e = absurd (none_not z e)
  load_word_fine l at u (Some y) z a m e = loaded_fine l at u y a (loaded m a (bytes_of y))

  load_fine : (l : Layer) (x : MemoryAccess) (w : Option Size) (z : Size) (u : Value) (m : Memory) → option_or x.size w ≡ Some z → IsAt index u → IfStuck (C l) (load_at x w u m)
  load_fine l x w z u m e k =
      stuck_then (C l) (AnyOf {A = ℕ}) (address_at x u) (λ a. load_word x.span x.unaligned (option_or x.size w) a m)
      (word_there l x.span S64 u k) (went_any (address_at x u)) (λ ns a g t. load_word_fine l x.span x.unaligned (option_or x.size w) z a m e)

  access_fine : (l : Layer) (a : Access) (p : Place) (w : Option Size) (u : Value) (m : Memory) → Accesses (out-Access a) p → IsWanted p w → IsAt index u → IfStuck (C l) (load_at (access_of a) w u m)
  access_fine l a p w u m (judged.sized z e t x) f k =
      load_fine l (access_of a) w z u m (ap (λ s. option_or s w) ((access_law a).0 ∙ (access_law a).1 ∙ e)) k
  access_fine l a p w u m (judged.bare {z = z} e x) f k =
      load_fine l (access_of a) w z u m (ap (λ s. option_or s w) ((access_law a).0 ∙ (access_law a).1 ∙ e) ∙ f) k

  address_typed : (a : Access) (p : Place) → Accesses (out-Access a) p → HasType (value (out-Access a).at) index
  address_typed a p (judged.sized z e t x) = x
  address_typed a p (judged.bare e x) = x

  -- ---- what is proved of each expression
  abbrev Declares : Var → Type 0
  Declares v = IsDeclared kinds (ref_of v)

  abbrev ExprLaw : Expr → Type 0
  ExprLaw e = Counted e → Each Declares e → Each (Contains vs) e → (p : Place) (w : Option Size) → HasType (value e) p → IsWanted p w → IfStuck (C (out-Expr e)) (evaluated e w s)

  -- ---- operations
  settled_fine : (l : Layer) (c : Bool) (x : Value) (g : Evaluation Value) → IfStuck (C l) g → IfStuck (C l) (if c then went [] x else g)
  settled_fine l true x g k = tt
  settled_fine l false x g k = k

  both_fine : (op : BinOp) (a b : Expr) (at : Span) (w : Option Size) (r q : Place) → ExprLaw a → ExprLaw b → Counted a → Counted b → Each Declares a → Each Declares b → Each (Contains vs) a → Each (Contains vs) b
      → HasType (value a) r → HasType (value b) q → IsWanted r w → IsWanted q (right_wanted op w)
      → ((x y : Value) → IsAt r x → IsAt q y → ((i : ℤ) → x ≡ integer i → C (Expr-F.Bin op a b at) (record { span = at; why = Init }))
      → ((i : ℤ) → y ≡ integer i → C (Expr-F.Bin op a b at) (record { span = at; why = Init })) → IfStuck (C (Expr-F.Bin op a b at)) (binary op at w x y))
      → IfStuck (C (Expr-F.Bin op a b at)) (run_binary op (evaluated a) (evaluated b) at w s)
  both_fine op a b at w r q la lb ca cb da db ka kb ta tb wa wb f =
      let l = Expr-F.Bin op a b at in
      stuck_then (C l) (IsAt r) (evaluated a w s) (with_right op (evaluated b) at w s) (whole (evaluated a w s) causes.first (la ca da ka r w ta wa)) (in_place kinds s a r w h ca da ta wa)
      (λ ns x g hx. settled_fine l (is_settled op x) x (and_then (evaluated b (right_wanted op w) s) (λ y. binary op at w x y))
      (stuck_then (C l) (IsAt q) (evaluated b (right_wanted op w) s) (λ y. binary op at w x y) (whole (evaluated b (right_wanted op w) s) causes.second (lb cb db kb q (right_wanted op w) tb wb))
      (in_place kinds s b q (right_wanted op w) h cb db tb wb)
      (λ ms y g2 hy. f x y hx hy (number_of l a at w ns x causes.of_first g) (number_of l b at (right_wanted op w) ms y causes.of_second g2))))

  operation_fine : (op : BinOp) (a b : Expr) (at : Span) (p : Place) (w : Option Size) → ExprLaw a → ExprLaw b → Counted a → Counted b → Each Declares a → Each Declares b → Each (Contains vs) a → Each (Contains vs) b
      → Operates op (value a) (value b) p → IsWanted p w → IfStuck (C (Expr-F.Bin op a b at)) (run_binary op (evaluated a) (evaluated b) at (left_wanted op w (own_size a) (own_size b)) s)
  operation_fine op a b at p w la lb c d da db ka kb (judged.arithmetic g k m x y) f =
      let l = Expr-F.Bin op a b at in
      let z = left_wanted op w (own_size a) (own_size b) in
      let q = facts_of group.Arith op g in
      let i = left_of_word op p w (own_size a) (own_size b) q.0 f (λ is. no_size op (own_size a) (own_size b) (own_unsized a p c x is) (own_unsized b p d y is)) in
      both_fine op a b at z p p la lb c d da db ka kb x y i (plain_right op p z q.1 i)
      (λ u v hu hv n r. plain_fine (C l) at (division l at) op z u v q.1 (arith_fine (C l) at (division l at) op p u v (ap is_arith g) k hu hv n))
  operation_fine op a b at p w la lb c d da db ka kb (judged.carry g k x y) f =
      let l = Expr-F.Bin op a b at in
      let z = left_wanted op w (own_size a) (own_size b) in
      let e = sum_group op g in
      let q = facts_of group.Arith op e in
      let i = left_of_word op p w (own_size a) (own_size b) q.0 f (λ is. no_size op (own_size a) (own_size b) (own_unsized a p c x is) (own_truth b d y)) in
      both_fine op a b at z p place.truth la lb c d da db ka kb x y i tt
      (λ u v hu hv n r. plain_fine (C l) at (division l at) op z u v q.1 (carry_fine (C l) at (division l at) op p u v g k hu hv n))
  operation_fine op a b at p w la lb c d da db ka kb (judged.shift g k m x y) f =
      let l = Expr-F.Bin op a b at in
      let z = left_wanted op w (own_size a) (own_size b) in
      let q = facts_of group.Shift op g in
      let i = left_of_word op p w (own_size a) (own_size b) q.0 f (λ is. moved_size op (own_size a) (own_size b) q.1 (own_unsized a p c x is)) in
      both_fine op a b at z p (count_place p) la lb c d da db ka kb x y i (shift_right op p z q.1)
      (λ u v hu hv n r. moved_fine (C l) at (division l at) op z u v q.1 (shift_fine (C l) at (division l at) op p z u v (ap is_moved g) k hu hv n r))
  operation_fine op a b at p w la lb c d da db ka kb (judged.integers g m x y) f =
      let l = Expr-F.Bin op a b at in
      let z = left_wanted op w (own_size a) (own_size b) in
      let q = facts_of group.Compare op g in
      both_fine op a b at z place.integer place.integer la lb c d da db ka kb x y tt tt
      (λ u v hu hv n r. plain_fine (C l) at (division l at) op z u v q.1 (integers_fine (C l) at (division l at) op u v hu hv n))
  operation_fine op a b at p w la lb c d da db ka kb (judged.words n g m x y) f =
      let l = Expr-F.Bin op a b at in
      let z = left_wanted op w (own_size a) (own_size b) in
      let q = facts_of group.Compare op g in
      let i = left_of_words op w (own_size a) (own_size b) n q.0 (either_says a b n c d x y m) in
      both_fine op a b at z (place.word n) (place.word n) la lb c d da db ka kb x y i (plain_right op (place.word n) z q.1 i)
      (λ u v hu hv t r. plain_fine (C l) at (division l at) op z u v q.1 (words_compare (C l) at (division l at) op n u v (ap is_compare g) hu hv t))
  operation_fine op a b at p w la lb c d da db ka kb (judged.logic g x y) f =
      let l = Expr-F.Bin op a b at in
      let z = left_wanted op w (own_size a) (own_size b) in
      let q = facts_of group.Logic op g in
      both_fine op a b at z place.truth place.truth la lb c d da db ka kb x y tt tt
      (λ u v hu hv n r. plain_fine (C l) at (division l at) op z u v q.1 (logic_fine (C l) at (division l at) op u v (ap is_logic g) hu hv))

  -- ---- expressions
  abbrev AccessLaw : Access → Type 0
  AccessLaw a = ExprLaw (out-Access a).at

  abbrev Proved : Type 0
  Proved = Expr-F ((e : Expr) × ExprLaw e) ((t : Ty) × AnyOf t) ((a : Access) × AccessLaw a) ((d : Decl) × AnyOf d) ((v : Var) × AnyOf v)

  abbrev bare : Proved → Layer
  bare y = map-Expr _ _ _ _ _ _ _ _ _ _ (λ e. e.0) (λ e. e.0) (λ e. e.0) (λ e. e.0) (λ e. e.0) y

  layer_fine : (y : Proved) (p : Place) (w : Option Size) → CountedLayer (bare y) → EachLayer Declares (bare y) → EachLayer (Contains vs) (bare y) → Types (bare y) p → IsWanted p w
      → IfStuck (C (bare y)) ((meant_layer (bare y)).run w s)
  layer_fine (Expr-F.Num n at) p w c d k t f = tt
  layer_fine (Expr-F.Expr::Bool b at) p w c d k t f = tt
  layer_fine (Expr-F.Var v) p w c d (counted.variable k) t f = unset_by (Expr-F.Var v.0) v.0 (s.store (key_of (ref_of v.0))) k refl
  layer_fine (Expr-F.Cell v e) p w (counted.cell c j) (counted.cell d i) (counted.cell k m) (judged.cell z g t x) f =
      let n = array_known (known_of v.0) (ref_of v.0).kind z ((variable_law v.0).1 c) g in
      stuck_then (C (Expr-F.Cell v.0 e.0)) (IsAt index) (evaluated e.0 (Some S64) s) (λ u. cell_value (ref_of v.0) u s.store)
      (whole (evaluated e.0 (Some S64) s) causes.index (e.1 j i m index (Some S64) x refl)) (in_place kinds s e.0 index (Some S64) h j i x refl)
      (λ ns u q hu. cell_fine (Expr-F.Cell v.0 e.0) v.0 z n.0 u k n.1 hu)
  layer_fine (Expr-F.Load a) p w (counted.load c) (counted.load d) (counted.load k) (judged.load x) f =
      let t = address_typed a.0 p x in
      let e = (out-Access a.0).at in
      subst (λ r. IfStuck (C (Expr-F.Load a.0)) (and_then (r s) (λ u. load_at (access_of a.0) w u s.memory))) (sym (access_run a.0))
      (stuck_then (C (Expr-F.Load a.0)) (IsAt index) (evaluated e (Some S64) s) (λ u. load_at (access_of a.0) w u s.memory)
      (whole (evaluated e (Some S64) s) causes.address (a.1 c d k index (Some S64) t refl)) (in_place kinds s e index (Some S64) h c d t refl)
      (λ ns u q hu. access_fine (Expr-F.Load a.0) a.0 p w u s.memory x f hu))
  layer_fine (Expr-F.Neg a at) p w (counted.negated c) (counted.negated d) (counted.negated k) (judged.negated m x) f =
      let l = Expr-F.Neg a.0 at in
      let z = option_or w (own_size a.0) in
      let i = still_wanted p w (own_size a.0) f (own_unsized a.0 p c x) in
      stuck_then (C l) (IsAt p) (evaluated a.0 z s) (λ u. defined at (negated u)) (whole (evaluated a.0 z s) causes.negated (a.1 c d k p z x i)) (in_place kinds s a.0 p z h c d x i)
      (λ ns u q hu. negated_fine (C l) at (division l at) p u m hu (number_of l a.0 at z ns u causes.negation q))
  layer_fine (Expr-F.Not a at) p w (counted.inverted c) (counted.inverted d) (counted.inverted k) (judged.inverted x) f =
      let l = Expr-F.Not a.0 at in
      let z = option_or w (own_size a.0) in
      let i = still_wanted p w (own_size a.0) f (own_unsized a.0 p c x) in
      stuck_then (C l) (IsAt p) (evaluated a.0 z s) (λ u. went [] (inverted u)) (whole (evaluated a.0 z s) causes.inverted (a.1 c d k p z x i)) (in_place kinds s a.0 p z h c d x i)
      (λ ns u q hu. tt)
  layer_fine (Expr-F.Cast z sign a at) p w (counted.cast c) (counted.cast d) (counted.cast k) (judged.cast y t says x) f =
      let l = Expr-F.Cast z sign a.0 at in
      let i = (says_law a.0 (place.stated y) c x y).1 says in
      stuck_then (C l) (IsAt (place.stated y)) (evaluated a.0 (own_size a.0) s) (λ u. defined at (cast z sign u))
      (whole (evaluated a.0 (own_size a.0) s) causes.changed (a.1 c d k (place.stated y) (own_size a.0) x i)) (in_place kinds s a.0 (place.stated y) (own_size a.0) h c d x i)
      (λ ns u q hu. cast_fine (C l) at (division l at) z y sign u hu (number_of l a.0 at (own_size a.0) ns u causes.change q))
  layer_fine (Expr-F.Bin op a b at) p w (counted.operation c d) (counted.operation i j) (counted.operation k m) (judged.operation x) f =
      operation_fine op a.0 b.0 at p w a.1 b.1 c d i j k m x f

  expr_case : (y : Proved) → ExprLaw (roll-Expr (bare y))
  expr_case y = λ c d k p w t f.
      subst (λ m. IfStuck (C (out-Expr (roll-Expr (bare y)))) (m.run w s)) (sym (fold-roll-Expr _ _ _ _ _ expr_step ty_step access_step decl_step var_step (bare y)))
      (subst (λ l. IfStuck (C l) ((meant_layer (bare y)).run w s)) (sym (out-roll-Expr (bare y)))
      (layer_fine y p w (subst CountedLayer (out-roll-Expr (bare y)) (each_of (roll-Expr (bare y)) c))
      (subst (EachLayer Declares) (out-roll-Expr (bare y)) (each_of (roll-Expr (bare y)) d))
      (subst (EachLayer (Contains vs)) (out-roll-Expr (bare y)) (each_of (roll-Expr (bare y)) k))
      (subst (λ x. Types x p) (out-roll-Expr (bare y)) (types_of (roll-Expr (bare y)) p t)) f))

  abbrev ProvedAccess : Type 0
  ProvedAccess = Access-F ((e : Expr) × ExprLaw e) ((t : Ty) × AnyOf t) ((a : Access) × AccessLaw a) ((d : Decl) × AnyOf d) ((v : Var) × AnyOf v)

  abbrev bare_access : ProvedAccess → Access-F Expr Ty Access Decl Var
  bare_access y = map-Access _ _ _ _ _ Expr Ty Access Decl Var (λ e. e.0) (λ e. e.0) (λ e. e.0) (λ e. e.0) (λ e. e.0) y

  access_case : (y : ProvedAccess) → AccessLaw (roll-Access (bare_access y))
  access_case y = subst (λ (x : Access-F Expr Ty Access Decl Var). ExprLaw x.at) (sym (out-roll-Access (bare_access y))) y.at.1

  cause_of : (e : Expr) → ExprLaw e
  cause_of =
      ind-Expr ExprLaw (λ t. AnyOf t) AccessLaw (λ d. AnyOf d) (λ x. AnyOf x)
      (λ x y is. subst (λ z. ExprLaw (roll-Expr z)) is (expr_case y))
      (λ x y is. tt)
      (λ x y is. subst (λ z. AccessLaw (roll-Access z)) is (access_case y))
      (λ x y is. tt)
      (λ x y is. tt)

pub cause_law : CauseLaw
cause_law kinds s vs e p z w h c d k t f g = is_stuck (IsCaused vs (out-Expr e) s) (evaluated e z s) w g (cause_of kinds s h vs e c d k p z t f)
