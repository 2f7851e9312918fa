-- Where the classes of a row fit, the first operand comes to the destination.
use Rattle.std.proofs.Common.{◌≡◌, ℕ, ◌≤◌, Bool, true, false, not, ◌&&◌, ◌||◌, List, [], ◌∷◌, Some, None, refl, sym, ap, ◌∙◌, arith, inl, inr, if◌then◌else◌}
use Rattle.std.specs.Prelude.{◌⊎◌, All}
use Rattle.std.proofs.lemmas.Bool.{false≢true, true≢false, and_parts}
use Rattle.std.proofs.lemmas.List.Elements.{All-nil, All-cons}
use Rattle.jz_words.specs.declared.size.Size.{Size}
use Rattle.jz_select.specs.declared.class.Class.{Class}
use Rattle.jz_select.specs.declared.class.Operand.{Operand}
use Rattle.jz_select.specs.Rows.{is_r, is_m, is_rm, is_rmi, is_same_place, is_apart_from, is_same, is_apart, computes, changes}
use Rattle.jz_row_laws.proofs.Booleans.{or_parts}
use Rattle.jz_operations.specs.declared.operation.Arg.{Arg}
use Rattle.jz_operations.specs.declared.operation.Arg.TheVariants as arg
use Rattle.jz_operations.specs.declared.operation.Action.{Action}
use Rattle.jz_operations.specs.declared.operation.Action.TheVariants as action
use Rattle.jz_encodable.specs.Encodable.{is_spelled_at, CanEncode}
use Rattle.jz_row_operations.specs.Table.{same_arg, is_free, brought, nothing}
use Rattle.jz_total_rows.proofs.Fits.{is_place, is_kept, Fits, mov_spelled}
use Rattle.jz_total_rows.proofs.Stands.{Stands, stands_place, variable_of, kept_both}

-- ---- what can be encoded
both_true : (a b : Bool) → a ≡ true → b ≡ true → (a && b) ≡ true
both_true true b e f = f
both_true false b e f = e

pub encode : (a : Action) → ((d : ℕ) → d ≤ 65536 → is_spelled_at d a ≡ true) → CanEncode a
encode a f = both_true (is_spelled_at 0 a) (is_spelled_at 65536 a) (f 0 (omega (arith))) (f 65536 (omega (arith)))

-- ---- an operand beside a destination
pub record Beside (z : Size) (b x : Arg) (o : Operand) : Type 0 where
  pub stands : Stands o.class x
  pub same : is_same_place o.meeting ≡ true → same_arg b x ≡ true
  pub apart : (n : ℕ) → b ≡ arg.Var n → is_apart_from o.meeting ≡ true → is_free b x ≡ true
  pub fits : Fits z x

pub record Brought (swaps : Bool) (z : Size) (b x y : Arg) : Type 0 where
  pub before : List Action
  pub second : Arg
  pub is : brought swaps z b x y ≡ Some (before, second)
  pub encoded : All CanEncode before
  pub one : (is_kept b && is_kept second) ≡ false
  pub from : (second ≡ y) ⊎ ((swaps ≡ true) × (second ≡ x))

kept_same : (b x : Arg) → same_arg b x ≡ true → is_kept b ≡ is_kept x
kept_same (arg.Var v) (arg.Var w) h = refl
kept_same (arg.Mem m) (arg.Mem n) h = refl
kept_same (arg.Cell m) (arg.Cell n) h = refl
kept_same b x h = absurd (false≢true h)

no_left : (a b : Bool) → a ≡ false → (a && b) ≡ false
no_left true b e = absurd (true≢false e)
no_left false b e = refl

no_right : (a b : Bool) → b ≡ false → (a && b) ≡ false
no_right true b e = e
no_right false b e = refl

module _ (swaps : Bool) (z : Size) (b x y : Arg) where
  by_tests : (s t u : Bool) → same_arg b x ≡ s → (swaps && same_arg b y) ≡ t → is_free b y ≡ u → is_place b ≡ true → Fits z b → Fits z x
      → (s ≡ true → (is_kept b && is_kept y) ≡ false)
      → (s ≡ false → t ≡ true → (is_kept b && is_kept x) ≡ false)
      → (s ≡ false → t ≡ false → (u ≡ true) × (is_kept b ≡ false))
      → Brought swaps z b x y
  by_tests true t u e f g r p q i j k =
      record {
        before = [];
        second = y;
        is = ap (λ s. if s then Some ([], y) else if swaps && same_arg b y then Some ([], x) else if is_free b y then Some (action.Mov z b x ∷ [], y) else None) e;
        encoded = All-nil CanEncode;
        one = i refl;
        from = inl refl;
      }
  by_tests false true u e f g r p q i j k =
      record {
        before = [];
        second = x;
        is =
            ap (λ s. if s then Some ([], y) else if swaps && same_arg b y then Some ([], x) else if is_free b y then Some (action.Mov z b x ∷ [], y) else None) e
            ∙ ap (λ t. if t then Some ([], x) else if is_free b y then Some (action.Mov z b x ∷ [], y) else None) f;
        encoded = All-nil CanEncode;
        one = j refl refl;
        from = inr ((and_parts swaps (same_arg b y) f).0, refl);
      }
  by_tests false false u e f g r p q i j k =
      let c = k refl refl in
      record {
        before = action.Mov z b x ∷ [];
        second = y;
        is =
            ap (λ s. if s then Some ([], y) else if swaps && same_arg b y then Some ([], x) else if is_free b y then Some (action.Mov z b x ∷ [], y) else None) e
            ∙ (ap (λ t. if t then Some ([], x) else if is_free b y then Some (action.Mov z b x ∷ [], y) else None) f
            ∙ ap (λ u. if u then Some (action.Mov z b x ∷ [], y) else None) (g ∙ c.0));
        encoded =
            All-cons CanEncode (action.Mov z b x) []
            (encode (action.Mov z b x) (λ d l. mov_spelled d z b x r (no_left (is_kept b) (is_kept x) c.1) (p d l) (q d l))) (All-nil CanEncode);
        one = no_left (is_kept b) (is_kept y) c.1;
        from = inl refl;
      }

  module _ (d : Class) (a o : Operand) (s : Stands d b) (f : Fits z b) (m : Beside z b x a) (n : Beside z b y o) where
    register_kept : is_r d ≡ true → is_kept b ≡ false
    register_kept h = let v = variable_of s h in ap is_kept v.1

    in_place : is_rm d ≡ true → is_same a ≡ true → not (is_m d && is_m o.class) ≡ true → Brought swaps z b x y
    in_place r h k =
        by_tests (same_arg b x) (swaps && same_arg b y) (is_free b y) refl refl refl (stands_place s r) f m.fits
        (λ e. kept_both s n.stands k) (λ e. absurd (false≢true (sym e ∙ m.same h))) (λ e. absurd (false≢true (sym e ∙ m.same h)))

    in_second : is_rm d ≡ true → swaps ≡ true → is_same o ≡ true → not (is_m d && is_m a.class) ≡ true → Brought swaps z b x y
    in_second r w h k =
        let c = kept_both s m.stands k in
        by_tests (same_arg b x) (swaps && same_arg b y) (is_free b y) refl refl refl (stands_place s r) f m.fits
        (λ e. no_left (is_kept b) (is_kept y) (itself (is_kept b) (is_kept x) (kept_same b x e) c))
        (λ e g. c)
        (λ e g. absurd (false≢true (sym g ∙ both_true swaps (same_arg b y) w (n.same h))))
      where
        itself : (p q : Bool) → p ≡ q → (p && q) ≡ false → p ≡ false
        itself true q e g = absurd (true≢false (e ∙ g))
        itself false q e g = refl

    in_copy : is_r d ≡ true → is_rm d ≡ true → is_apart o ≡ true → Brought swaps z b x y
    in_copy h r k =
        let v = variable_of s h in
        let c = register_kept h in
        by_tests (same_arg b x) (swaps && same_arg b y) (is_free b y) refl refl refl (stands_place s r) f m.fits
        (λ e. no_left (is_kept b) (is_kept y) c) (λ e g. no_left (is_kept b) (is_kept x) c) (λ e g. (n.apart v.0 v.1 k, c))

    -- a row that computes
    pub brings : computes swaps d a o ≡ true → Brought swaps z b x y
    brings h =
        let p = and_parts (is_rm d) _ h in
        let q = and_parts (is_rmi a.class) _ p.1 in
        by_first p.0 (or_parts (is_same a && not (is_m d && is_m o.class)) _ q.1)
      where
        by_rest : is_rm d ≡ true → ((swaps && (is_same o && not (is_m d && is_m a.class))) ≡ true) ⊎ ((is_r d && is_apart o) ≡ true) → Brought swaps z b x y
        by_rest r (inl e) =
            let w = and_parts swaps _ e in
            let k = and_parts (is_same o) (not (is_m d && is_m a.class)) w.1 in
            in_second r w.0 k.0 k.1
        by_rest r (inr e) = let k = and_parts (is_r d) (is_apart o) e in in_copy k.0 r k.1

        by_first : is_rm d ≡ true → ((is_same a && not (is_m d && is_m o.class)) ≡ true) ⊎ (((swaps && (is_same o && not (is_m d && is_m a.class))) || (is_r d && is_apart o)) ≡ true) → Brought swaps z b x y
        by_first r (inl e) = let k = and_parts (is_same a) (not (is_m d && is_m o.class)) e in in_place r k.0 k.1
        by_first r (inr e) = by_rest r (or_parts (swaps && (is_same o && not (is_m d && is_m a.class))) (is_r d && is_apart o) e)

-- one that has no second operand
pub changes_brings : (z : Size) (b x : Arg) (d : Class) (a : Operand) → Stands d b → Fits z b → Beside z b x a → changes d a ≡ true → Brought false z b x nothing
changes_brings z b x d a s f m h =
    let p = and_parts (is_rm d) _ h in
    let q = and_parts (is_rmi a.class) (is_same a || is_r d) p.1 in
    by_part p.0 (or_parts (is_same a) (is_r d) q.1)
  where
    by_part : is_rm d ≡ true → (is_same a ≡ true) ⊎ (is_r d ≡ true) → Brought false z b x nothing
    by_part r (inl e) =
        by_tests false z b x nothing (same_arg b x) false (is_free b nothing) refl refl refl (stands_place s r) f m.fits
        (λ k. no_right (is_kept b) false refl) (λ k g. absurd (false≢true g)) (λ k. absurd (false≢true (sym k ∙ m.same e)))
    by_part r (inr e) =
        let v = variable_of s e in
        let c : is_kept b ≡ false = ap is_kept v.1 in
        by_tests false z b x nothing (same_arg b x) false (is_free b nothing) refl refl refl (stands_place s r) f m.fits
        (λ k. no_right (is_kept b) false refl) (λ k g. absurd (false≢true g)) (λ k g. (ap (λ w. is_free w nothing) v.1, c))
