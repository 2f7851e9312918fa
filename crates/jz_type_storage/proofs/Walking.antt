-- Walks over the parts of a flow are a walk over the flow.
use mathlib.Core.Path.{fun_ext}
use Rattle.std.proofs.Common.{◌≡◌, ℕ, ◌+◌, ◌<◌, ◌≤◌, Bool, true, false, ◌||◌, List, [], ◌∷◌, ◌++◌, length, map, take, drop, get_or, Option, Some, None, refl, sym, ap, ◌∙◌, subst, arith, cond, length-append}
use Rattle.std.specs.List.{list_any}
use Rattle.std.specs.Borrow.{Bor}
use Rattle.std.specs.Str.{bytes_eq}
use Rattle.std.proofs.lemmas.List.{drop_more, drop_all, take-append-drop}
use Rattle.std.proofs.Math.Seq.{take-append_seam, take-length}
use Rattle.jz_tree.proofs.Texts.{bytes_eq-true}
use Rattle.jz_tree.specs.Span.{Span}
use Rattle.jz_tree.specs.declared.expr.Expr.{Expr}
use Rattle.jz_tree.specs.declared.expr.Var.{Var}
use Rattle.jz_tree.specs.declared.expr.BinOp.{BinOp}
use Rattle.jz_tree.specs.declared.stmt.Lval.{Lval}
use Rattle.jz_tree.specs.declared.stmt.Lval.TheVariants as lval
use Rattle.jz_tree.specs.declared.stmt.Rhs.{Rhs}
use Rattle.jz_tree.specs.declared.stmt.Rhs.TheVariants as rhs
use Rattle.jz_type_names.specs.Scopes.{name_of}
use Rattle.jz_type_names.specs.Lent.{these}
use Rattle.jz_type_names.specs.Order.{earlier}
use Rattle.jz_type_names.specs.Parts.{names_in}
use Rattle.jz_type_names.proofs.Earliest.{earlier-assoc, earlier-none}
use Rattle.jz_type_storage.specs.Paths.{Flow, Skip, Then, Either, Repeat, in_turn, reads, reading, reading_expr, reading_all, reading_left, reading_lefts, reading_right, reading_condition, reading_old}
use Rattle.jz_type_storage.specs.InnerSurely.{Names, having, both, after, first}
use Rattle.jz_type_storage.specs.InnerWalks.{members, Grows, Walks, Joins}
use Rattle.jz_type_storage.proofs.Earlier.{earlier-same, earlier-swap}

-- ---- lists that grow
pub grows_self : (xs : List (List ℕ)) → Grows xs xs
grows_self xs = record { within = omega arith; keeps = take-length xs }

pub grows_by : (xs ys : List (List ℕ)) → Grows xs (xs ++ ys)
grows_by xs ys = record { within = omega (arith, length-append xs ys); keeps = take-append_seam xs ys }

-- it is the first list, and what is behind
pub behind : (xs ys : List (List ℕ)) → Grows xs ys → xs ++ drop (length xs) ys ≡ ys
behind xs ys g = ap (λ z. z ++ drop (length xs) ys) (sym g.keeps) ∙ take-append-drop (length xs) ys

append-three : (a b c : List (List ℕ)) → a ++ (b ++ c) ≡ (a ++ b) ++ c
append-three [] b c = refl
append-three (x ∷ a) b c = ap (λ z. x ∷ z) (append-three a b c)

pub grows_on : (xs ys zs : List (List ℕ)) → Grows xs ys → Grows ys zs → Grows xs zs
grows_on xs ys zs g h =
    let a = drop (length xs) ys in
    let b = drop (length ys) zs in
    let e : xs ++ (a ++ b) ≡ zs = append-three xs a b ∙ (ap (λ z. z ++ b) (behind xs ys g) ∙ behind ys zs h) in
    subst (Grows xs) e (grows_by xs (a ++ b))

-- ---- members
or-assoc : (x y z : Bool) → ((x || y) || z) ≡ (x || (y || z))
or-assoc true y z = refl
or-assoc false y z = refl

or-none : (x : Bool) → (x || false) ≡ x
or-none true = refl
or-none false = refl

any-append : (n : List ℕ) (xs ys : List (List ℕ)) → list_any (bytes_eq n) (xs ++ ys) ≡ (list_any (bytes_eq n) xs || list_any (bytes_eq n) ys)
any-append n [] ys = refl
any-append n (x ∷ xs) ys = ap (λ b. bytes_eq n x || b) (any-append n xs ys) ∙ sym (or-assoc (bytes_eq n x) (list_any (bytes_eq n) xs) (list_any (bytes_eq n) ys))

pub members-append : (n : List ℕ) (xs ys : List (List ℕ)) → members (xs ++ ys) n ≡ (members xs n || members ys n)
unfolding members
members-append n xs ys = any-append n xs ys

one_member : (n m : List ℕ) → members (m ∷ []) n ≡ bytes_eq n m
unfolding members
one_member n m = or-none (bytes_eq n m)

pub members-push : (xs : List (List ℕ)) (m : List ℕ) → members (xs ++ m ∷ []) ≡ having m (members xs)
members-push xs m = fun_ext (λ n. members-append n xs (m ∷ []) ∙ ap (λ b. members xs n || b) (one_member n m))

-- a name that is there already
there-again : (n m : List ℕ) (xs : List (List ℕ)) (b : Bool) → members xs m ≡ true → bytes_eq n m ≡ b → members xs n ≡ (members xs n || b)
there-again n m xs true t e = let f : members xs n ≡ true = ap (members xs) (bytes_eq-true n m e) ∙ t in f ∙ sym (ap (λ b. b || true) f)
there-again n m xs false t e = sym (or-none (members xs n))

pub members-there : (xs : List (List ℕ)) (m : List ℕ) → members xs m ≡ true → members xs ≡ having m (members xs)
members-there xs m t = fun_ext (λ n. there-again n m xs (bytes_eq n m) t refl)

-- ---- what only reads sets nothing
pub names_turn : (vs : List (Bor Var)) → in_turn (map (λ v. reads (name_of v.now)) vs) ≡ reading (map name_of (these vs))
names_turn [] = refl
names_turn (v ∷ vs) = ap (Then (reads (name_of v.now))) (names_turn vs)

module _ (asked : Names) where
  abbrev pub Idle : Flow → Type 0
  Idle g = (s : Names) → after asked g s ≡ s

  pub idle_turn : {A : Type 0} (f : A → Flow) → ((a : A) → Idle (f a)) → (as' : List A) → Idle (in_turn (map f as'))
  idle_turn f h [] s = refl
  idle_turn f h (a ∷ as') s = ap (after asked (in_turn (map f as'))) (h a s) ∙ idle_turn f h as' s

  pub idle_expr : (e : Expr) → Idle (reading_expr e)
  unfolding reading_expr
  idle_expr e = idle_turn reads (λ n s. refl) (names_in e)

  pub idle_all : (es : List Expr) → Idle (reading_all es)
  unfolding reading_all
  idle_all es = idle_turn reading_expr idle_expr es

  pub idle_left : (l : Lval) → Idle (reading_left l)
  idle_left (lval.Skip at) s = refl
  idle_left (lval.Var v) s = refl
  idle_left (lval.Cell v at) s = refl
  idle_left (lval.Store a) s = refl

  pub idle_lefts : (to : List Lval) → Idle (reading_lefts to)
  unfolding reading_lefts
  idle_lefts to = idle_turn reading_left idle_left to

  pub idle_right : (r : Rhs) → Idle (reading_right r)
  idle_right (rhs.Value e) = idle_expr e
  idle_right (rhs.Call n args at) = idle_all args
  idle_right (rhs.Intrinsic n args at) = idle_all args

  pub idle_condition : (c : Option Expr) → Idle (reading_condition c)
  idle_condition None s = refl
  idle_condition (Some e) s = idle_expr e s

  pub idle_old : (op : Option BinOp) (c : Option Expr) (to : List Lval) → Idle (reading_old op c to)
  idle_old None None to s = refl
  idle_old None (Some e) to s = idle_lefts to s
  idle_old (Some o) c to s = idle_lefts to s

  -- one item more in a loop over what only reads
  pub turn_more : {A : Type 0} (f : A → Flow) → ((a : A) → Idle (f a)) → (s : Names) (xs : List A) (i : ℕ) (x : A) (best next r all : Option Span)
      → i < length xs → x ≡ get_or xs i x → r ≡ first asked (f x) s → next ≡ earlier best r
      → earlier best (first asked (in_turn (map f (drop i xs))) s) ≡ all → earlier next (first asked (in_turn (map f (drop (i + 1) xs))) s) ≡ all
  turn_more {A} f h s xs i x best next r all lt is found joined held =
      let flow : List A → Flow = λ ys. in_turn (map f ys) in
      let rest = flow (drop (i + 1) xs) in
      let cons : flow (drop i xs) ≡ Then (f x) rest = ap flow (drop_more xs i x lt ∙ ap (λ y. y ∷ drop (i + 1) xs) (sym is)) in
      ap (λ y. earlier y (first asked rest s)) (joined ∙ ap (earlier best) found)
      ∙ (earlier-assoc best (first asked (f x) s) (first asked rest s)
      ∙ (ap (earlier best) (sym (ap (λ g. first asked g s) cons ∙ ap (λ t. earlier (first asked (f x) s) (first asked rest t)) (h x s))) ∙ held))

  pub turn_ends : {A : Type 0} (f : A → Flow) (s : Names) (xs : List A) (i : ℕ) (best all : Option Span)
      → length xs ≤ i → earlier best (first asked (in_turn (map f (drop i xs))) s) ≡ all → best ≡ all
  turn_ends f s xs i best all le held =
      sym (earlier-none best) ∙ (ap (λ l. earlier best (first asked (in_turn (map f l)) s)) (sym (drop_all i xs le)) ∙ held)

-- ---- walks
module _ (asked : Names) where
  pub walks_skip : (xs : List (List ℕ)) → Walks asked Skip xs None xs
  walks_skip xs = record { first = refl; after = refl; grows = grows_self xs }

  pub walks_reads : (g : Flow) (xs : List (List ℕ)) (r : Option Span) → Idle asked g → r ≡ first asked g (members xs) → Walks asked g xs r xs
  walks_reads g xs r h f = record { first = f; after = sym (h (members xs)); grows = grows_self xs }

  pub walks_then : (a b : Flow) (xs ys zs : List (List ℕ)) (r t u : Option Span) → Walks asked a xs r ys → Walks asked b ys t zs → u ≡ earlier r t
      → Walks asked (Then a b) xs u zs
  walks_then a b xs ys zs r t u v w e = record {
    first = e ∙ (ap (λ x. earlier x t) v.first ∙ ap (earlier (first asked a (members xs))) (w.first ∙ ap (first asked b) v.after));
    after = w.after ∙ ap (after asked b) v.after;
    grows = grows_on xs ys zs v.grows w.grows;
  }

  -- of both ways what both set is set
  pub walks_either : (a b : Flow) (xs ys zs end : List (List ℕ)) (r t u : Option Span) → Walks asked a xs r ys → Walks asked b xs t zs → u ≡ earlier r t
      → members end ≡ both (members ys) (members zs) → Grows xs end → Walks asked (Either a b) xs u end
  walks_either a b xs ys zs end r t u v w e m g = record {
    first = e ∙ (ap (λ x. earlier x t) v.first ∙ ap (earlier (first asked a (members xs))) w.first);
    after = m ∙ (ap (λ s. both s (members zs)) v.after ∙ ap (both (after asked a (members xs))) w.after);
    grows = g;
  }

  pub walks_repeat : (a : Flow) (xs ys : List (List ℕ)) (r : Option Span) → Walks asked a xs r ys → Walks asked (Repeat a) xs r xs
  walks_repeat a xs ys r v = record { first = v.first; after = refl; grows = grows_self xs }

  pub walks_while : (p c b : Flow) (xs ys zs : List (List ℕ)) (r t u all : Option Span) → Walks asked p xs r ys → Walks asked c ys t ys → Walks asked b ys u zs
      → all ≡ earlier r (earlier t u) → Walks asked (Then (Repeat (Then p (Then c b))) (Then p c)) xs all ys
  walks_while p c b xs ys zs r t u all v w x e =
      walks_then _ _ xs xs ys (earlier r (earlier t u)) (earlier r t) all
      (walks_repeat _ xs zs _ (walks_then p (Then c b) xs ys zs r (earlier t u) _ v (walks_then c b ys ys zs t u _ w x refl) refl))
      (walks_then p c xs ys ys r t _ v w refl)
      (e ∙ sym (earlier-again r t u))
    where
      earlier-again : (x y z : Option Span) → earlier (earlier x (earlier y z)) (earlier x y) ≡ earlier x (earlier y z)
      earlier-again x y z =
          let xy = earlier x y in
          ap (λ q. earlier q xy) (sym (earlier-assoc x y z)) ∙ (earlier-assoc xy z xy ∙ (ap (earlier xy) (earlier-swap z xy)
          ∙ (sym (earlier-assoc xy xy z) ∙ (ap (λ q. earlier q z) (earlier-same xy) ∙ earlier-assoc x y z))))

  pub walks_bare : (p c : Flow) (xs ys : List (List ℕ)) (r t all : Option Span) → Walks asked p xs r ys → Walks asked c ys t ys
      → all ≡ earlier r t → Walks asked (Then (Repeat (Then p c)) (Then p c)) xs all ys
  walks_bare p c xs ys r t all v w e =
      let once = walks_then p c xs ys ys r t (earlier r t) v w refl in
      walks_then _ _ xs xs ys (earlier r t) (earlier r t) all (walks_repeat _ xs ys _ once) once (e ∙ sym (earlier-same (earlier r t)))

  -- what is walked so far, and what is left
  abbrev pub Walking : {A : Type 0} → (A → Flow) → List A → List (List ℕ) → Option Span → List A → List (List ℕ) → Type 0
  Walking f all old best left now =
      (r : Option Span) (end : List (List ℕ)) → Walks asked (in_turn (map f left)) now r end → Walks asked (in_turn (map f all)) old (earlier best r) end

  pub walking_begins : {A : Type 0} (f : A → Flow) (all : List A) (old : List (List ℕ)) → Walking f all old None all old
  walking_begins f all old r end w = w

  pub walking_on : {A : Type 0} (f : A → Flow) (all xs : List A) (i : ℕ) (x : A) (old now then' : List (List ℕ)) (best next r : Option Span)
      → i < length xs → x ≡ get_or xs i x → Walking f all old best (drop i xs) now → Walks asked (f x) now r then' → next ≡ earlier best r
      → Walking f all old next (drop (i + 1) xs) then'
  walking_on {A} f all xs i x old now then' best next r lt is held w joined t end v =
      let flow : List A → Flow = λ ys. in_turn (map f ys) in
      let cons : flow (drop i xs) ≡ Then (f x) (flow (drop (i + 1) xs)) = ap flow (drop_more xs i x lt ∙ ap (λ y. y ∷ drop (i + 1) xs) (sym is)) in
      let both' = subst (λ g. Walks asked g now (earlier r t) end) (sym cons) (walks_then (f x) (flow (drop (i + 1) xs)) now then' end r t (earlier r t) w v refl) in
      subst (λ z. Walks asked (flow all) old z end) (sym (ap (λ z. earlier z t) joined ∙ earlier-assoc best r t)) (held (earlier r t) end both')

  pub walking_ends : {A : Type 0} (f : A → Flow) (all left : List A) (old now : List (List ℕ)) (best : Option Span)
      → left ≡ [] → Walking f all old best left now → Walks asked (in_turn (map f all)) old best now
  walking_ends f all left old now best e held =
      subst (λ z. Walks asked (in_turn (map f all)) old z now) (earlier-none best)
      (held None now (subst (λ l. Walks asked (in_turn (map f l)) now None now) (sym e) (walks_skip now)))

  -- ---- what the code does
  pub walks_ways : (a b : Flow) (old names now zs end : List (List ℕ)) (start : ℕ) (r t u : Option Span)
      → start ≡ length old → Walks asked a old r (old ++ names) → now ≡ old → Walks asked b now t zs → Joins (take start zs) names zs end → u ≡ earlier r t
      → Walks asked (Either a b) old u end
  walks_ways a b old names now zs end start r t u s v e w j f =
      let x = subst (λ n. Walks asked b n t zs) e w in
      let cut : take start zs ≡ old = ap (λ n. take n zs) s ∙ x.grows.keeps in
      let k = subst (λ n. Joins n names zs end) cut j in
      walks_either a b old (old ++ names) zs end r t u v x f (k.has x.grows) k.grows

  pub walks_if : (c : Expr) (a b : Flow) (old names now zs end : List (List ℕ)) (start : ℕ) (r t u v w : Option Span)
      → r ≡ first asked (reading_expr c) (members old) → start ≡ length old → Walks asked a old t (old ++ names) → now ≡ old → Walks asked b now u zs
      → Joins (take start zs) names zs end → v ≡ earlier t u → w ≡ earlier r v → Walks asked (Then (reading_expr c) (Either a b)) old w end
  walks_if c a b old names now zs end start r t u v w e s x n y j f h =
      walks_then (reading_expr c) (Either a b) old old end r v w (walks_reads (reading_expr c) old r (idle_expr asked c) e)
      (walks_ways a b old names now zs end start t u v s x n y j f) h

  pub walks_test : (c : Expr) (g : Flow) (old end : List (List ℕ)) (r t u : Option Span)
      → r ≡ first asked (reading_expr c) (members old) → Walks asked g old t end → u ≡ earlier r t → Walks asked (Then (reading_expr c) g) old u end
  walks_test c g old end r t u e w f = walks_then (reading_expr c) g old old end r t u (walks_reads (reading_expr c) old r (idle_expr asked c) e) w f

  pub walks_no_body : (p : Flow) (c : Expr) (old mid : List (List ℕ)) (r t u : Option Span)
      → Walks asked p old r mid → t ≡ first asked (reading_expr c) (members mid) → u ≡ earlier r t
      → Walks asked (Then (Repeat (Then p (reading_expr c))) (Then p (reading_expr c))) old u mid
  walks_no_body p c old mid r t u v e f = walks_bare p (reading_expr c) old mid r t u v (walks_reads (reading_expr c) mid t (idle_expr asked c) e) f

  pub walks_body : (p : Flow) (c : Expr) (b : Flow) (old mid names end : List (List ℕ)) (r t u all : Option Span)
      → Walks asked p old r mid → t ≡ first asked (reading_expr c) (members mid) → Walks asked b mid u (mid ++ names) → end ≡ mid → all ≡ earlier r (earlier t u)
      → Walks asked (Then (Repeat (Then p (Then (reading_expr c) b))) (Then p (reading_expr c))) old all end
  walks_body p c b old mid names end r t u all v e w k f =
      subst (Walks asked (Then (Repeat (Then p (Then (reading_expr c) b))) (Then p (reading_expr c))) old all) (sym k)
      (walks_while p (reading_expr c) b old mid (mid ++ names) r t u all v (walks_reads (reading_expr c) mid t (idle_expr asked c) e) w f)

  pub walks_assign : (from : Rhs) (cond : Option Expr) (op : Option BinOp) (to : List Lval) (g : Flow) (old end : List (List ℕ)) (r t o l x y all : Option Span)
      → r ≡ first asked (reading_right from) (members old) → t ≡ first asked (reading_condition cond) (members old) → o ≡ first asked (reading_old op cond to) (members old)
      → Walks asked g old l end → x ≡ earlier o l → y ≡ earlier t x → all ≡ earlier r y
      → Walks asked (Then (reading_right from) (Then (reading_condition cond) (Then (reading_old op cond to) g))) old all end
  walks_assign from cond op to g old end r t o l x y all e f h w p q s =
      walks_then (reading_right from) _ old old end r y all (walks_reads _ old r (idle_right asked from) e)
      (walks_then (reading_condition cond) _ old old end t x y (walks_reads _ old t (idle_condition asked cond) f)
      (walks_then (reading_old op cond to) g old old end o l x (walks_reads _ old o (idle_old asked op cond to) h) w p) q) s
