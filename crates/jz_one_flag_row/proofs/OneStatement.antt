-- A statement of flags, RAX, RDX and RCX has one list of operations, and a test of a flag one
-- condition.
use Rattle.std.proofs.Common.{◌≡◌, List, [], ◌∷◌, ◌++◌, Option, Some, None, refl, sym, ap, ◌∙◌, subst}
use Rattle.std.specs.Option.{option_or, option_to_list}
use Rattle.jz_words.specs.declared.size.Size.{Size}
use Rattle.jz_words.specs.declared.size.Size.TheVariants.{S8}
use Rattle.jz_io.specs.declared.span.Span.{Span}
use Rattle.jz_tree.specs.declared.intrinsic.Instance.{Instance}
use Rattle.jz_tree.specs.declared.expr.BinOp.{BinOp}
use Rattle.jz_tree.specs.declared.expr.BinOp.TheVariants as op
use Rattle.jz_tree.specs.declared.expr.Expr.{Expr}
use Rattle.jz_tree.specs.declared.expr.Expr.TheVariants as expr
use Rattle.jz_tree.specs.declared.expr.Expr.TheOpen.{Expr-F}
use Rattle.jz_tree.specs.declared.expr.Expr.TheViews.{out-Expr}
use Rattle.jz_meaning.specs.Assignments.{Layer, left_span, left_sizes, whole_of}
use Rattle.jz_meaning.specs.Intrinsics.{intrinsic_size}
use Rattle.jz_meaning.specs.Values.{own_size}
use Rattle.jz_operations.specs.declared.operation.Pinned.{Pinned}
use Rattle.jz_operations.specs.declared.operation.Condition.{Condition}
use Rattle.jz_operations.specs.declared.operation.Condition.TheVariants as condition
use Rattle.jz_operations.specs.declared.operation.Action.TheVariants as action
use Rattle.jz_operations.specs.declared.operation.Operation.{Operation}
use Rattle.jz_operations.proofs.Somes.{same_some}
use Rattle.jz_placing.specs.Variables.{asks}
use Rattle.jz_change.specs.declared.change.Numbers.TheVariants.{These}
use Rattle.jz_homes.specs.Homes.{Homes}
use Rattle.jz_homes.specs.Operands.{Leaks, IsArg}
use Rattle.jz_row_operations.specs.Codes.{no_flag, plain, lasting}
use Rattle.jz_row_operations.specs.Lowering.{numbers_from, HasRow}
use Rattle.jz_one_row.proofs.Outs.{out_bin}
use Rattle.jz_one_row.proofs.Operands.{register_of, size_of_register, one_arg, one_dest}
use Rattle.jz_one_row.proofs.Rows.{one_row}
use Rattle.jz_one_row.proofs.Statements.{one_compared}
use Rattle.jz_flag_rows.specs.Results.{begins_at, carry_alone, IsPinned}
use Rattle.jz_flag_rows.specs.Wide.{divider, quotient_code, divide_shown}
use Rattle.jz_flag_rows.specs.Conditions.{IsCondition, by_comparison, by_flag, condition_items, leaked, asks_flag}
use Rattle.jz_flag_rows.specs.Instructions.{HasInstruction}
use Rattle.jz_flag_rows.specs.Rows.{IsSumLayer, carry_results, wide_products, quotients, choices, instructions, sets}
use Rattle.jz_flag_rows.proofs.Apart.{flag_never}
use Rattle.jz_one_flag_row.specs.Forms.{IsWideProduct}
use Rattle.jz_one_flag_row.specs.Laws.{OneFlagLowering, OneFlagTest}
use Rattle.jz_one_flag_row.proofs.OneParts.{one_flag, one_pinned, one_condition}
use Rattle.jz_one_flag_row.proofs.OneForm.{same_wide, one_instruction, no_byte}

-- ---- right sides
whole_one : (x : Option Expr) (w v : Expr) → x ≡ Some w → x ≡ Some v → w ≡ v
whole_one x w v e f = same_some w v (sym e ∙ f)

size_one : (left : Option Size) (w v : Expr) (y z : Size) → w ≡ v → option_or left (own_size w) ≡ Some y → option_or left (own_size v) ≡ Some z → y ≡ z
size_one left w v y z e f g = same_some y z (sym f ∙ ap (λ u. option_or left (own_size u)) e ∙ g)

op_same : (o p : BinOp) (a b c d : Expr) (r s : Span) → expr.Bin o a b r ≡ expr.Bin p c d s → o ≡ p
op_same o p a b c d r s e = let f : ◌≡◌ {A = Layer} (Expr-F.Bin o a b r) (Expr-F.Bin p c d s) = sym (out_bin o a b r) ∙ ap out-Expr e ∙ out_bin p c d s in cc

left_same : (o p : BinOp) (a b c d : Expr) (r s : Span) → expr.Bin o a b r ≡ expr.Bin p c d s → a ≡ c
left_same o p a b c d r s e = let f : ◌≡◌ {A = Layer} (Expr-F.Bin o a b r) (Expr-F.Bin p c d s) = sym (out_bin o a b r) ∙ ap out-Expr e ∙ out_bin p c d s in cc

right_same : (o p : BinOp) (a b c d : Expr) (r s : Span) → expr.Bin o a b r ≡ expr.Bin p c d s → b ≡ d
right_same o p a b c d r s e = let f : ◌≡◌ {A = Layer} (Expr-F.Bin o a b r) (Expr-F.Bin p c d s) = sym (out_bin o a b r) ∙ ap out-Expr e ∙ out_bin p c d s in cc

pub no_product : (w a b : Expr) (here : Span) → w ≡ expr.Bin op.Mul a b here → IsSumLayer (out-Expr w) → ⊥
no_product w a b here e h = subst IsSumLayer (ap out-Expr e ∙ out_bin op.Mul a b here) h

of_some : (k j : Pinned) → ◌≡◌ {A = Option Pinned} (Some k) (Some j) → k ≡ j
of_some k j e = same_some k j e

-- ---- conditions
pub record SameCondition (o u : Option Operation) (c d : Condition) (ps qs : List (Leaks × Leaks)) : Type 0 where
  pub operation : o ≡ u
  pub cond : c ≡ d
  pub leaks : ps ≡ qs

pub one_tested : (home : Homes) (at : Span) (e : Expr) (o u : Option Operation) (c d : Condition) (ps qs : List (Leaks × Leaks)) → IsCondition home at e o c ps → IsCondition home at e u d qs → SameCondition o u c d ps qs
one_tested home at e o u c d ps qs (by_comparison {o = a} {c = k} {p} {q} f) (by_comparison {o = b} {c = l} {p = r} {q = s} g) =
    let t = one_compared home at e a b k l p q r s f g in
    record { operation = ap Some t.operation; cond = ap condition.Cc t.cond; leaks = λ i. (t.first i, t.second i) ∷ [] }
one_tested home at e o u c d ps qs (by_comparison {o = a} {c = k} {p} {q} f) (by_flag {n} {d = b} g) = absurd (flag_never home at e n b g a k p q f)
one_tested home at e o u c d ps qs (by_flag {n} {d = b} g) (by_comparison {o = a} {c = k} {p} {q} f) = absurd (flag_never home at e n b g a k p q f)
one_tested home at e o u c d ps qs (by_flag {n} {d = b} f) (by_flag {n = m} {d = a} g) =
    let t = one_condition home e n m b a f g in
    record { operation = refl; cond = λ i. condition.Flag (t.0 i) (t.1 i); leaks = refl }

-- ---- statements
pub one_flag_lowers : OneFlagLowering
one_flag_lowers home o os us is js (carry_results {f} {d} {u} {e} {w} {z} {k} {acts} {items} {at} whole layer size flag row can) (carry_results {w = v} {z = y} {k = j} {acts = acts2} {items = items2} whole2 layer2 size2 flag2 row2 can2) =
    let w_is = whole_one (whole_of (Some d) u e) w v whole whole2 in
    let z_is = size_one (left_sizes (f ∷ d ∷ [])) w v z y w_is size size2 in
    let again = subst (λ t. HasRow home t d w acts2 items2) (sym z_is) (subst (λ t. HasRow home y d t acts2 items2) (sym w_is) row2) in
    let r = one_row home z d w acts acts2 items items2 row again in
    let c = one_flag home f k j flag flag2 in
    ((λ i. lasting at (carry_alone (c i)) (r.0 i)), r.1)
one_flag_lowers home o os us is js (carry_results {f} {d} {u} {e} {w} whole layer size flag row can) (wide_products {a} {b} here whole2 size2 long kh kl ia ib ni code can2) =
    absurd (no_product w a b here (whole_one (whole_of (Some d) u e) w (expr.Bin op.Mul a b here) whole whole2) layer)
one_flag_lowers home o os us is js (wide_products {l} {u} {e} {a} {b} here whole2 size2 long kh kl ia ib ni code can2) (carry_results {w} whole layer size flag row can) =
    absurd (no_product w a b here (whole_one (whole_of (Some l) u e) w (expr.Bin op.Mul a b here) whole whole2) layer)
one_flag_lowers home o os us is js (wide_products {h} {l} {u} {e} {a} {b} {z} {hk} {lk} {x} {y} {p} {q} {acts} {at} here whole size long kh kl ia ib ni code can)
    (wide_products {a = a2} {b = b2} {z = z2} {hk = hk2} {lk = lk2} {x = x2} {y = y2} {p = p2} {q = q2} {acts = acts2} here2 whole2 size2 long2 kh2 kl2 ia2 ib2 ni2 code2 can2) =
    let w_is = whole_one (whole_of (Some l) u e) (expr.Bin op.Mul a b here) (expr.Bin op.Mul a2 b2 here2) whole whole2 in
    let z_is = size_one (left_sizes (h ∷ l ∷ [])) (expr.Bin op.Mul a b here) (expr.Bin op.Mul a2 b2 here2) z z2 w_is size size2 in
    let a_is = left_same op.Mul op.Mul a b a2 b2 here here2 w_is in
    let b_is = right_same op.Mul op.Mul a b a2 b2 here here2 w_is in
    let one : IsWideProduct home z h l a b acts _ = record { upper = hk; lower = lk; x = x; y = y; p = p; q = q; long = long; high = kh; low = kl; first = ia; second = ib; no_number = ni; code = code; shown = refl } in
    let other : IsWideProduct home z2 h l a2 b2 acts2 js =
    record { upper = hk2; lower = lk2; x = x2; y = y2; p = p2; q = q2; long = long2; high = kh2; low = kl2; first = ia2; second = ib2; no_number = ni2; code = code2; shown = refl } in
    let again = subst (λ t. IsWideProduct home t h l a b acts2 js) (sym z_is) (subst (λ t. IsWideProduct home z2 h l t b acts2 js) (sym a_is) (subst (λ t. IsWideProduct home z2 h l a2 t acts2 js) (sym b_is) other)) in
    let r = same_wide home z acts acts2 is js h l a b one again in
    (ap (lasting at no_flag) r.0, r.1)
one_flag_lowers home o os us is js (quotients {r} {u} {e} {a} {b} {o = k} {w} {z} {k = v} {x} {y} {p} {q} {at} here whole div size long pin ia ib ni apart can)
    (quotients {a = a2} {b = b2} {o = k2} {w = w2} {z = z2} {k = v2} {x = x2} {y = y2} {p = p2} {q = q2} here2 whole2 div2 size2 long2 pin2 ia2 ib2 ni2 apart2 can2) =
    let e_is = whole_one (whole_of (Some r) u e) (expr.Bin k a b here) (expr.Bin k2 a2 b2 here2) whole whole2 in
    let z_is = size_one (left_sizes (r ∷ [])) (expr.Bin k a b here) (expr.Bin k2 a2 b2 here2) z z2 e_is size size2 in
    let k_is = op_same k k2 a b a2 b2 here here2 e_is in
    let a_is = left_same k k2 a b a2 b2 here here2 e_is in
    let b_is = right_same k k2 a b a2 b2 here here2 e_is in
    let w_is = same_some w w2 (sym div ∙ ap divider k_is ∙ div2) in
    let v_is = of_some v v2 (one_pinned home z r (Some v) (Some v2) pin (subst (λ t. IsPinned home t r (Some v2)) (sym z_is) pin2)) in
    let m = one_arg home z a x x2 p p2 ia (subst (λ t. IsArg home t a x2 p2) (sym z_is) (subst (λ t. IsArg home z2 t x2 p2) (sym a_is) ia2)) in
    let n = one_arg home z b y y2 q q2 ib (subst (λ t. IsArg home t b y2 q2) (sym z_is) (subst (λ t. IsArg home z2 t y2 q2) (sym b_is) ib2)) in
    ((λ i. lasting at no_flag (quotient_code (k_is i) (w_is i) (z_is i) (v_is i) (m.0 i) (n.0 i))), λ i. divide_shown (m.1 i) (n.1 i))
one_flag_lowers home o os us is js (choices {v} {e} {k} {y} {n} {m} {d} {p} {at} z wide own h ia ni flag can) (choices {y = y2} {n = n2} {m = m2} {d = d2} {p = p2} z2 wide2 own2 h2 ia2 ni2 flag2 can2) =
    let m_is = register_of m m2 z z2 (sym h ∙ h2) in
    let z_is = size_of_register m m2 z z2 (sym h ∙ h2) in
    let r = one_arg home z e y y2 p p2 ia (subst (λ t. IsArg home t e y2 p2) (sym z_is) ia2) in
    let t = one_condition home k n n2 d d2 flag flag2 in
    ((λ i. plain at (action.Cmov (condition.Flag (t.0 i) (t.1 i)) (z_is i) (m_is i) (r.0 i)) ∷ []), λ i. These (numbers_from (r.1 i) 0) ∷ [])
one_flag_lowers home o os us is js (instructions {i} {to} {ns} {args} {z} {fl} {acts} {items} {at} named size row can) (instructions {i = j} {z = z2} {fl = fu} {acts = acts2} {items = items2} named2 size2 row2 can2) =
    let i_is = same_some i j (sym named ∙ named2) in
    let z_is = same_some z z2 (sym size ∙ ap (λ (t : Instance). intrinsic_size t.name t.size to args) i_is ∙ size2) in
    let again = subst (λ t. HasInstruction home t i.name to args fu acts2 items2) (sym z_is) (subst (λ (t : Instance). HasInstruction home z2 t.name to args fu acts2 items2) (sym i_is) row2) in
    let r = one_instruction home z i.name to args fl fu acts acts2 items items2 row again in
    ((λ k. lasting (begins_at to at) (r.flags k) (r.actions k)), r.shown)
one_flag_lowers home o os us is js (instructions {i} {to} {args} {z} {fl} {acts} {items} named size row can) (sets {i = j} named2 byte dest cond can2) =
    absurd (no_byte home z i.name to args fl acts items (ap (λ (t : Instance). t.name) (same_some i j (sym named ∙ named2)) ∙ byte) row)
one_flag_lowers home o os us is js (sets {i = j} named2 byte dest cond can2) (instructions {i} {to} {args} {z} {fl} {acts} {items} named size row can) =
    absurd (no_byte home z i.name to args fl acts items (ap (λ (t : Instance). t.name) (same_some i j (sym named ∙ named2)) ∙ byte) row)
one_flag_lowers home o os us is js (sets {d} {e} {b} {r} {compare} {c} {ps} named byte dest cond can) (sets {b = b2} {r = r2} {compare = compare2} {c = c2} {ps = ps2} named2 byte2 dest2 cond2 can2) =
    let t = one_tested home (left_span d) e compare compare2 c c2 ps ps2 cond cond2 in
    let b_is = one_dest home S8 d b b2 r r2 dest dest2 in (
      (λ i. option_to_list (t.operation i) ++ (plain (left_span d) (action.Set (t.cond i) (b_is.0 i)) ∷ [])),
      λ i. condition_items (t.leaks i) 0 ++ (These (numbers_from (b_is.1 i) (leaked (t.leaks i))) ∷ []),
    )

pub one_flag_test : OneFlagTest
one_flag_test home t a b i j (asks_flag {n} {d} f) (asks_flag {n = m} {d = c} g) =
    let r = one_condition home t.cond n m d c f g in
    ((λ k. asks None (condition.Flag (r.0 k) (r.1 k))), refl)
