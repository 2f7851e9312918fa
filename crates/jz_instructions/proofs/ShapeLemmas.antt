-- Forms by the number of results and operands.
use Rattle.std.proofs.Common.{◌≡◌, List, [], ◌∷◌, Option, refl, sym, subst}
use Rattle.std.specs.Prelude.{All}
use Rattle.jz_tree.specs.declared.expr.Expr.{Expr}
use Rattle.jz_tree.specs.declared.stmt.Lval.{Lval}
use Rattle.jz_operations.specs.declared.operation.Action.{Action}
use Rattle.jz_encodable.specs.Encodable.{CanEncode}
use Rattle.jz_change.specs.declared.change.Numbers.{Numbers}
use Rattle.jz_one_flag_row.specs.Forms.{OneOne, OneTwo, OneThree, NoneTwo, TwoTwo, TwoThree}
use Rattle.jz_pinned_rows.specs.declared.row.Acts.{Acts}
use Rattle.jz_pinned_rows.specs.Rows.{FindsActs}
use Rattle.jz_instructions.specs.InnerRows.{NotOneOne, NotOneTwo, NotOneThree, NotNoneTwo, NotTwoTwo, NotTwoThree}

-- ---- OneOne
pub one_one_never : (P : Lval → Expr → List Action → List Numbers → Type 0) (to : List Lval) (es : List Expr) → NotOneOne to es → (acts : List Action) (items : List Numbers) → OneOne (λ d a. P d a acts items) to es → All CanEncode acts → ⊥
one_one_never P [] es none acts items h can = h
one_one_never P (d ∷ d2 ∷ ds) es none acts items h can = h
one_one_never P (d ∷ []) [] none acts items h can = h
one_one_never P (d ∷ []) (a ∷ a2 ∷ as2) none acts items h can = h
one_one_never P (d ∷ []) (a ∷ []) none acts items h can = none d a refl refl

pub one_one_finds : (P : Lval → Expr → List Action → List Numbers → Type 0) (to : List Lval) (es : List Expr) (d : Lval) (a : Expr) (o : Option Acts) → to ≡ d ∷ [] → es ≡ a ∷ [] → FindsActs (P d a) o → FindsActs (λ acts items. OneOne (λ d a. P d a acts items) to es) o
one_one_finds P to es d a o is_to is_es h =
    subst (λ t. FindsActs (λ acts items. OneOne (λ d a. P d a acts items) t es) o) (sym is_to) (subst (λ u. FindsActs (λ acts items. OneOne (λ d a. P d a acts items) (d ∷ []) u) o) (sym is_es) h)

-- ---- OneTwo
pub one_two_never : (P : Lval → Expr → Expr → List Action → List Numbers → Type 0) (to : List Lval) (es : List Expr) → NotOneTwo to es → (acts : List Action) (items : List Numbers) → OneTwo (λ d a b. P d a b acts items) to es → All CanEncode acts → ⊥
one_two_never P [] es none acts items h can = h
one_two_never P (d ∷ d2 ∷ ds) es none acts items h can = h
one_two_never P (d ∷ []) [] none acts items h can = h
one_two_never P (d ∷ []) (a ∷ []) none acts items h can = h
one_two_never P (d ∷ []) (a ∷ a2 ∷ a3 ∷ as2) none acts items h can = h
one_two_never P (d ∷ []) (a ∷ a2 ∷ []) none acts items h can = none d a a2 refl refl

pub one_two_finds : (P : Lval → Expr → Expr → List Action → List Numbers → Type 0) (to : List Lval) (es : List Expr) (d : Lval) (a b : Expr) (o : Option Acts) → to ≡ d ∷ [] → es ≡ a ∷ b ∷ [] → FindsActs (P d a b) o → FindsActs (λ acts items. OneTwo (λ d a b. P d a b acts items) to es) o
one_two_finds P to es d a b o is_to is_es h =
    subst (λ t. FindsActs (λ acts items. OneTwo (λ d a b. P d a b acts items) t es) o) (sym is_to) (subst (λ u. FindsActs (λ acts items. OneTwo (λ d a b. P d a b acts items) (d ∷ []) u) o) (sym is_es) h)

-- ---- OneThree
pub one_three_never : (P : Lval → Expr → Expr → Expr → List Action → List Numbers → Type 0) (to : List Lval) (es : List Expr) → NotOneThree to es → (acts : List Action) (items : List Numbers) → OneThree (λ d a b c. P d a b c acts items) to es → All CanEncode acts → ⊥
one_three_never P [] es none acts items h can = h
one_three_never P (d ∷ d2 ∷ ds) es none acts items h can = h
one_three_never P (d ∷ []) [] none acts items h can = h
one_three_never P (d ∷ []) (a ∷ []) none acts items h can = h
one_three_never P (d ∷ []) (a ∷ a2 ∷ []) none acts items h can = h
one_three_never P (d ∷ []) (a ∷ a2 ∷ a3 ∷ a4 ∷ as2) none acts items h can = h
one_three_never P (d ∷ []) (a ∷ a2 ∷ a3 ∷ []) none acts items h can = none d a a2 a3 refl refl

pub one_three_finds : (P : Lval → Expr → Expr → Expr → List Action → List Numbers → Type 0) (to : List Lval) (es : List Expr) (d : Lval) (a b c : Expr) (o : Option Acts) → to ≡ d ∷ [] → es ≡ a ∷ b ∷ c ∷ [] → FindsActs (P d a b c) o → FindsActs (λ acts items. OneThree (λ d a b c. P d a b c acts items) to es) o
one_three_finds P to es d a b c o is_to is_es h =
    subst (λ t. FindsActs (λ acts items. OneThree (λ d a b c. P d a b c acts items) t es) o) (sym is_to) (subst (λ u. FindsActs (λ acts items. OneThree (λ d a b c. P d a b c acts items) (d ∷ []) u) o) (sym is_es) h)

-- ---- NoneTwo
pub none_two_never : (P : Expr → Expr → List Action → List Numbers → Type 0) (to : List Lval) (es : List Expr) → NotNoneTwo to es → (acts : List Action) (items : List Numbers) → NoneTwo (λ a b. P a b acts items) to es → All CanEncode acts → ⊥
none_two_never P (d ∷ ds) es none acts items h can = h
none_two_never P [] [] none acts items h can = h
none_two_never P [] (a ∷ []) none acts items h can = h
none_two_never P [] (a ∷ a2 ∷ a3 ∷ as2) none acts items h can = h
none_two_never P [] (a ∷ a2 ∷ []) none acts items h can = none a a2 refl refl

pub none_two_finds : (P : Expr → Expr → List Action → List Numbers → Type 0) (to : List Lval) (es : List Expr) (a b : Expr) (o : Option Acts) → to ≡ [] → es ≡ a ∷ b ∷ [] → FindsActs (P a b) o → FindsActs (λ acts items. NoneTwo (λ a b. P a b acts items) to es) o
none_two_finds P to es a b o is_to is_es h =
    subst (λ t. FindsActs (λ acts items. NoneTwo (λ a b. P a b acts items) t es) o) (sym is_to) (subst (λ u. FindsActs (λ acts items. NoneTwo (λ a b. P a b acts items) [] u) o) (sym is_es) h)

-- ---- TwoTwo
pub two_two_never : (P : Lval → Lval → Expr → Expr → List Action → List Numbers → Type 0) (to : List Lval) (es : List Expr) → NotTwoTwo to es → (acts : List Action) (items : List Numbers) → TwoTwo (λ d e a b. P d e a b acts items) to es → All CanEncode acts → ⊥
two_two_never P [] es none acts items h can = h
two_two_never P (d ∷ []) es none acts items h can = h
two_two_never P (d ∷ d2 ∷ d3 ∷ ds) es none acts items h can = h
two_two_never P (d ∷ d2 ∷ []) [] none acts items h can = h
two_two_never P (d ∷ d2 ∷ []) (a ∷ []) none acts items h can = h
two_two_never P (d ∷ d2 ∷ []) (a ∷ a2 ∷ a3 ∷ as2) none acts items h can = h
two_two_never P (d ∷ d2 ∷ []) (a ∷ a2 ∷ []) none acts items h can = none d d2 a a2 refl refl

pub two_two_finds : (P : Lval → Lval → Expr → Expr → List Action → List Numbers → Type 0) (to : List Lval) (es : List Expr) (d e : Lval) (a b : Expr) (o : Option Acts) → to ≡ d ∷ e ∷ [] → es ≡ a ∷ b ∷ [] → FindsActs (P d e a b) o → FindsActs (λ acts items. TwoTwo (λ d e a b. P d e a b acts items) to es) o
two_two_finds P to es d e a b o is_to is_es h =
    subst (λ t. FindsActs (λ acts items. TwoTwo (λ d e a b. P d e a b acts items) t es) o) (sym is_to) (subst (λ u. FindsActs (λ acts items. TwoTwo (λ d e a b. P d e a b acts items) (d ∷ e ∷ []) u) o) (sym is_es) h)

-- ---- TwoThree
pub two_three_never : (P : Lval → Lval → Expr → Expr → Expr → List Action → List Numbers → Type 0) (to : List Lval) (es : List Expr) → NotTwoThree to es → (acts : List Action) (items : List Numbers) → TwoThree (λ d e a b c. P d e a b c acts items) to es → All CanEncode acts → ⊥
two_three_never P [] es none acts items h can = h
two_three_never P (d ∷ []) es none acts items h can = h
two_three_never P (d ∷ d2 ∷ d3 ∷ ds) es none acts items h can = h
two_three_never P (d ∷ d2 ∷ []) [] none acts items h can = h
two_three_never P (d ∷ d2 ∷ []) (a ∷ []) none acts items h can = h
two_three_never P (d ∷ d2 ∷ []) (a ∷ a2 ∷ []) none acts items h can = h
two_three_never P (d ∷ d2 ∷ []) (a ∷ a2 ∷ a3 ∷ a4 ∷ as2) none acts items h can = h
two_three_never P (d ∷ d2 ∷ []) (a ∷ a2 ∷ a3 ∷ []) none acts items h can = none d d2 a a2 a3 refl refl

pub two_three_finds : (P : Lval → Lval → Expr → Expr → Expr → List Action → List Numbers → Type 0) (to : List Lval) (es : List Expr) (d e : Lval) (a b c : Expr) (o : Option Acts) → to ≡ d ∷ e ∷ [] → es ≡ a ∷ b ∷ c ∷ [] → FindsActs (P d e a b c) o → FindsActs (λ acts items. TwoThree (λ d e a b c. P d e a b c acts items) to es) o
two_three_finds P to es d e a b c o is_to is_es h =
    subst (λ t. FindsActs (λ acts items. TwoThree (λ d e a b c. P d e a b c acts items) t es) o) (sym is_to) (subst (λ u. FindsActs (λ acts items. TwoThree (λ d e a b c. P d e a b c acts items) (d ∷ e ∷ []) u) o) (sym is_es) h)
