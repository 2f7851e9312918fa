-- Assignments without a condition.
use Rattle.std.proofs.Common.{◌≡◌, List, [], ◌∷◌, Option, Some, None, refl, sym, ap, ◌∙◌, subst}
use Rattle.std.specs.Prelude.{All}
use Rattle.std.specs.Option.{option_or}
use Rattle.jz_words.specs.declared.size.Size.{Size}
use Rattle.jz_tree.specs.Span.{Span}
use Rattle.jz_tree.specs.declared.expr.BinOp.{BinOp}
use Rattle.jz_tree.specs.declared.expr.BinOp.TheVariants as op
use Rattle.jz_tree.specs.declared.expr.Expr.{Expr}
use Rattle.jz_tree.specs.declared.expr.Expr.TheVariants as expr
use Rattle.jz_tree.specs.declared.stmt.Lval.{Lval}
use Rattle.jz_meaning.specs.Assignments.{left_sizes, last_left, whole_of}
use Rattle.jz_meaning.specs.Values.{own_size}
use Rattle.jz_meaning.specs.Statements.{assign}
use Rattle.jz_operations.specs.declared.operation.Action.{Action}
use Rattle.jz_operations.specs.declared.operation.Flags.{Flags}
use Rattle.jz_operations.specs.declared.operation.Operation.{Operation}
use Rattle.jz_operations.proofs.Somes.{same_some}
use Rattle.jz_encodable.specs.Encodable.{CanEncode}
use Rattle.jz_change.specs.declared.change.Numbers.{Numbers}
use Rattle.jz_homes.specs.Homes.{Homes}
use Rattle.jz_row_operations.specs.Codes.{no_flag, lasting}
use Rattle.jz_flag_rows.specs.Results.{carry_alone}
use Rattle.jz_flag_rows.specs.Wide.{quotient_code}
use Rattle.jz_flag_rows.specs.Rows.{LowersFlags, carry_results, wide_products, quotients}
use Rattle.jz_pinned_rows.specs.declared.row.PinnedRow.{PinnedRow}
use Rattle.jz_pinned_rows.specs.Rows.{actions_of, items_of, IsPinnedRow, NeverPinned}
use Rattle.jz_pinned_rows.specs.InnerRows.{IsQuotientOf, HasPair, a_carry, a_product, HasPinned, IsPinnedSet, NeverPinnedSet}
use Rattle.jz_pinned_rows.proofs.DivideLemmas.{same_quotient}
use Rattle.jz_pinned_rows.proofs.PairLemmas.{same_pair}

module _ (home : Homes) where
  -- ---- at one size
  pub no_lefts : (z : Size) (to : List Lval) (w : Expr) → ((d : Lval) → to ≡ d ∷ [] → ⊥) → ((d e : Lval) → to ≡ d ∷ e ∷ [] → ⊥) → (fl : Flags) (acts : List Action) (items : List Numbers) → HasPinned home z to w fl acts items → All CanEncode acts → ⊥
  no_lefts z [] w f g fl acts items h can = h
  no_lefts z (d ∷ []) w f g fl acts items h can = f d refl
  no_lefts z (d ∷ e ∷ []) w f g fl acts items h can = g d e refl
  no_lefts z (d ∷ e ∷ c ∷ cs) w f g fl acts items h can = h

  pub one_list : (z : Size) (to : List Lval) (w : Expr) (fl fu : Flags) (acts us : List Action) (items js : List Numbers) → HasPinned home z to w fl acts items → HasPinned home z to w fu us js → acts ≡ us
  one_list z [] w fl fu acts us items js h g = absurd h
  one_list z (d ∷ []) w fl fu acts us items js h g = same_quotient home z d w acts us items js h.1 g.1
  one_list z (d ∷ e ∷ []) w fl fu acts us items js h g = same_pair home z d e w fl fu acts us items js h g
  one_list z (d ∷ e ∷ c ∷ cs) w fl fu acts us items js h g = absurd h

  -- ---- whose actions can be encoded
  no_some : (z : Size) → ◌≡◌ {A = Option Size} None (Some z) → ⊥
  no_some z e = absurd cc

  pub no_set_size : (left : Option Size) (to : List Lval) (w : Expr) → option_or left (own_size w) ≡ None → NeverPinnedSet home left to w
  no_set_size left to w none z fl acts items is row can = no_some z (sym none ∙ is)

  pub no_set_row : (left : Option Size) (to : List Lval) (w : Expr) (z : Size) → option_or left (own_size w) ≡ Some z → ((fl : Flags) (acts : List Action) (items : List Numbers) → HasPinned home z to w fl acts items → All CanEncode acts → ⊥) → NeverPinnedSet home left to w
  no_set_row left to w z is none y fl acts items own row can = none fl acts items (subst (λ s. HasPinned home s to w fl acts items) (same_some y z (sym own ∙ is)) row) can

  pub no_set_code : (left : Option Size) (to : List Lval) (w : Expr) (z : Size) (r : PinnedRow) → option_or left (own_size w) ≡ Some z → HasPinned home z to w r.flags (actions_of r.acts) (items_of r.acts) → (All CanEncode (actions_of r.acts) → ⊥) → NeverPinnedSet home left to w
  no_set_code left to w z r is found none = no_set_row left to w z is (λ fl acts items row can. none (subst (All CanEncode) (one_list z to w fl r.flags acts (actions_of r.acts) items (items_of r.acts) row found) can))

  -- ---- the statement
  record IsSetBy (to : List Lval) (u : Option BinOp) (e : Expr) (is : List Numbers) : Type 0 where
    pub w : Expr
    pub z : Size
    pub fl : Flags
    pub acts : List Action
    pub whole : whole_of (last_left to) u e ≡ Some w
    pub size : option_or (left_sizes to) (own_size w) ≡ Some z
    pub row : HasPinned home z to w fl acts is
    pub can : All CanEncode acts

  set_by : (to : List Lval) (u : Option BinOp) (e : Expr) (at : Span) (os : List Operation) (is : List Numbers) → LowersFlags home (assign to u e None at) os is → IsSetBy to u e is
  set_by to u e at os is (carry_results {w = w} {z = z} {k = k} {acts = acts} whole layer size flag row can) =
      record { w = w; z = z; fl = carry_alone k; acts = acts; whole = whole; size = size; row = a_carry layer (record { carry = k; flag = flag; flags = refl; row = row }); can = can }
  set_by to u e at os is (wide_products {a = a} {b = b} {z = z} {hk = hk} {lk = lk} {x = x} {y = y} {p = p} {q = q} {acts = acts} here whole size long kh kl ia ib ni code can) =
      record {
        w = expr.Bin op.Mul a b here;
        z = z;
        fl = no_flag;
        acts = acts;
        whole = whole;
        size = size;
        row = a_product (record {
          a = a;
          b = b;
          here = here;
          whole = refl;
          flags = refl;
          row = record { upper = hk; lower = lk; x = x; y = y; p = p; q = q; long = long; high = kh; low = kl; first = ia; second = ib; no_number = ni; code = code; shown = refl };
        });
        can = can;
      }
  set_by to u e at os is (quotients {a = a} {b = b} {o = o} {w = w} {z = z} {k = k} {x = x} {y = y} {p = p} {q = q} here whole div size long pin ia ib ni apart can) =
      record {
        w = expr.Bin o a b here;
        z = z;
        fl = no_flag;
        acts = quotient_code o w z k x y;
        whole = whole;
        size = size;
        row = (
          refl,
          record {
            operator = o;
            a = a;
            b = b;
            here = here;
            whole = refl;
            row = record { kind = w; variable = k; x = x; y = y; p = p; q = q; divides = div; long = long; result = pin; first = ia; second = ib; no_number = ni; apart = apart; code = refl; shown = refl };
          },
        );
        can = can;
      }

  pub set_never : (to : List Lval) (u : Option BinOp) (e : Expr) (left : Option Size) → left ≡ left_sizes to → ((w : Expr) → whole_of (last_left to) u e ≡ Some w → NeverPinnedSet home left to w) → NeverPinned home to u e None
  set_never to u e left same none at os is h =
      let s = set_by to u e at os is h in
      none s.w s.whole s.z s.fl s.acts is (ap (λ l. option_or l (own_size s.w)) same ∙ s.size) s.row s.can

  pub one_whole : (to : List Lval) (u : Option BinOp) (e w : Expr) (left : Option Size) → whole_of (last_left to) u e ≡ Some w → NeverPinnedSet home left to w → (v : Expr) → whole_of (last_left to) u e ≡ Some v → NeverPinnedSet home left to v
  one_whole to u e w left is none v e2 = subst (NeverPinnedSet home left to) (same_some w v (sym is ∙ e2)) none

  no_expr : (w : Expr) → ◌≡◌ {A = Option Expr} None (Some w) → ⊥
  no_expr w e = absurd cc

  pub no_whole : (to : List Lval) (u : Option BinOp) (e : Expr) (left : Option Size) → whole_of (last_left to) u e ≡ None → (v : Expr) → whole_of (last_left to) u e ≡ Some v → NeverPinnedSet home left to v
  no_whole to u e left none v is = absurd (no_expr v (sym none ∙ is))

  -- ---- a row that was found
  module _ (u : Option BinOp) (e w : Expr) (z : Size) (acts : List Action) (items : List Numbers) (at : Span) (can : All CanEncode acts) where
    quotient_lowers : (r : Lval) → whole_of (Some r) u e ≡ Some w → option_or (left_sizes (r ∷ [])) (own_size w) ≡ Some z → IsQuotientOf home z r w acts items → LowersFlags home (assign (r ∷ []) u e None at) (lasting at no_flag acts) items
    quotient_lowers r whole size h =
        let q = h.row in
        subst (λ a. LowersFlags home (assign (r ∷ []) u e None at) (lasting at no_flag a) items) (sym q.code)
        (subst (λ i. LowersFlags home (assign (r ∷ []) u e None at) (lasting at no_flag (quotient_code h.operator q.kind z q.variable q.x q.y)) i) (sym q.shown)
        (quotients h.here (whole ∙ ap Some h.whole) q.divides (ap (λ v. option_or (left_sizes (r ∷ [])) (own_size v)) (sym h.whole) ∙ size) q.long q.result q.first q.second q.no_number q.apart (subst (All CanEncode) q.code can)))

    pair_lowers : (f d : Lval) (fl : Flags) → whole_of (Some d) u e ≡ Some w → option_or (left_sizes (f ∷ d ∷ [])) (own_size w) ≡ Some z → HasPair home z f d w fl acts items → LowersFlags home (assign (f ∷ d ∷ []) u e None at) (lasting at fl acts) items
    pair_lowers f d fl whole size (a_carry layer h) =
        subst (λ k. LowersFlags home (assign (f ∷ d ∷ []) u e None at) (lasting at k acts) items) (sym h.flags) (carry_results whole layer size h.flag h.row can)
    pair_lowers f d fl whole size (a_product h) =
        let p = h.row in
        subst (λ k. LowersFlags home (assign (f ∷ d ∷ []) u e None at) (lasting at k acts) items) (sym h.flags)
        (subst (λ i. LowersFlags home (assign (f ∷ d ∷ []) u e None at) (lasting at no_flag acts) i) (sym p.shown)
        (wide_products h.here (whole ∙ ap Some h.whole) (ap (λ v. option_or (left_sizes (f ∷ d ∷ [])) (own_size v)) (sym h.whole) ∙ size) p.long p.high p.low p.first p.second p.no_number p.code can))

    lowers : (to : List Lval) (fl : Flags) → whole_of (last_left to) u e ≡ Some w → option_or (left_sizes to) (own_size w) ≡ Some z → HasPinned home z to w fl acts items → LowersFlags home (assign to u e None at) (lasting at fl acts) items
    lowers [] fl whole size h = absurd h
    lowers (r ∷ []) fl whole size h = subst (λ k. LowersFlags home (assign (r ∷ []) u e None at) (lasting at k acts) items) (sym h.0) (quotient_lowers r whole size h.1)
    lowers (f ∷ d ∷ []) fl whole size h = pair_lowers f d fl whole size h
    lowers (f ∷ d ∷ c ∷ cs) fl whole size h = absurd h

  pub set_is : (to : List Lval) (u : Option BinOp) (e w : Expr) (left : Option Size) (r : PinnedRow) → whole_of (last_left to) u e ≡ Some w → left ≡ left_sizes to → IsPinnedSet home left to w r → IsPinnedRow home to u e None r
  set_is to u e w left r whole same h at =
      lowers u e w h.size (actions_of r.acts) (items_of r.acts) at h.can to r.flags whole (ap (λ l. option_or l (own_size w)) (sym same) ∙ h.is_size) h.row
