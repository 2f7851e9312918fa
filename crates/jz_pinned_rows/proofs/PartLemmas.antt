-- Two operands, and actions that can be encoded.
use Rattle.std.proofs.Common.{◌≡◌, Bool, true, false, List, [], ◌∷◌, ◌++◌, refl, sym, ◌∙◌, subst}
use Rattle.std.specs.Prelude.{All, IsTrue, ◌↔◌, ◌&&◌}
use Rattle.std.proofs.lemmas.Bool.{and_parts}
use Rattle.std.proofs.lemmas.List.Elements.{All-nil, All-cons, All-head, All-tail, All-append}
use Rattle.jz_words.specs.declared.size.Size.{Size}
use Rattle.jz_tree.specs.declared.expr.Expr.{Expr}
use Rattle.jz_operations.specs.declared.operation.Arg.{Arg}
use Rattle.jz_operations.specs.declared.operation.Arg.TheVariants as arg
use Rattle.jz_operations.specs.declared.operation.Action.{Action}
use Rattle.jz_encodable.specs.Encodable.{can_encode, CanEncode}
use Rattle.jz_homes.specs.Homes.{Homes}
use Rattle.jz_row_operations.specs.Rows.{NotImm}
use Rattle.jz_row_operations.specs.Table.{is_imm}
use Rattle.jz_one_row.proofs.Operands.{one_arg}
use Rattle.jz_operands.specs.TableHomes.{leaks_of}
use Rattle.jz_operands.specs.Refusals.{NeverArg}
use Rattle.jz_rows.proofs.RowLemmas.{not_imm}
use Rattle.jz_pinned_rows.specs.declared.parts.Operands.{Operands}
use Rattle.jz_pinned_rows.specs.Rows.{AreOperands, NeverOperands, AreWords, NeverWords}

-- ---- numbers
pub no_imm : (x : Arg) → is_imm x ≡ true → NotImm x → ⊥
no_imm (arg.Imm i) e h = h
no_imm (arg.Var v) e h = absurd cc
no_imm (arg.Mem m) e h = absurd cc
no_imm (arg.Cell c) e h = absurd cc
no_imm (arg.At r p) e h = absurd cc

pub clash : (b : Bool) → b ≡ false → b ≡ true → ⊥
clash b e f = absurd cc

-- ---- operands
module _ (home : Homes) (z : Size) (a b : Expr) where
  pub no_first : NeverArg home z a → NeverOperands home z a b
  no_first none x y p q f g hx hy = none x p f hx

  pub no_second : NeverArg home z b → NeverOperands home z a b
  no_second none x y p q f g hx hy = none y q g hy

  pub no_words : NeverOperands home z a b → NeverWords home z a b
  no_words none x y p q f g ni hx hy = none x y p q f g hx hy

  pub imm_words : (t : Operands) → AreOperands home z a b t → is_imm t.second.arg ≡ true → NeverWords home z a b
  imm_words t h i x y p q f g ni hx hy =
      let e = (one_arg home z b t.second.arg y (leaks_of t.second.leaks) q h.second g).0 in
      no_imm t.second.arg i (subst NotImm (sym e) ni)

  pub words_are : (t : Operands) → AreOperands home z a b t → is_imm t.second.arg ≡ false → AreWords home z a b t
  words_are t h i = record { both = h; no_number = not_imm t.second.arg i }

-- ---- actions
pub none_encode : IsTrue true ↔ All CanEncode []
none_encode = (λ t. All-nil CanEncode, λ all. refl)

pub one_encodes : (a : Action) (b : Bool) → b ≡ can_encode a → IsTrue b ↔ All CanEncode (a ∷ [])
one_encodes a b is = (λ t. All-cons CanEncode a [] (sym is ∙ t) (All-nil CanEncode), λ all. is ∙ All-head CanEncode a [] all)

pub all_parts : (xs ys : List Action) → All CanEncode (xs ++ ys) → All CanEncode xs × All CanEncode ys
all_parts [] ys h = (All-nil CanEncode, h)
all_parts (x ∷ xs) ys h =
    let r = all_parts xs ys (All-tail CanEncode x (xs ++ ys) h) in
    (All-cons CanEncode x xs (All-head CanEncode x (xs ++ ys) h) r.0, r.1)

both_true : (a b : Bool) → IsTrue a → IsTrue b → IsTrue (a && b)
both_true true b e f = f
both_true false b e f = absurd cc

pub three_encode : (xs ys : List Action) (a : Action) (b1 b2 b3 : Bool) → (IsTrue b1 ↔ All CanEncode xs) → (IsTrue b2 ↔ All CanEncode ys) → b3 ≡ can_encode a → IsTrue ((b1 && b2) && b3) ↔ All CanEncode (xs ++ (ys ++ (a ∷ [])))
three_encode xs ys a b1 b2 b3 f g is = (forth, back)
  where
    forth : IsTrue ((b1 && b2) && b3) → All CanEncode (xs ++ (ys ++ (a ∷ [])))
    forth t =
        let k = and_parts (b1 && b2) b3 t in
        let l = and_parts b1 b2 k.0 in
        All-append CanEncode xs (ys ++ (a ∷ [])) (f.0 l.0) (All-append CanEncode ys (a ∷ []) (g.0 l.1) ((one_encodes a b3 is).0 k.1))

    back : All CanEncode (xs ++ (ys ++ (a ∷ []))) → IsTrue ((b1 && b2) && b3)
    back all =
        let k = all_parts xs (ys ++ (a ∷ [])) all in
        let l = all_parts ys (a ∷ []) k.1 in
        both_true (b1 && b2) b3 (both_true b1 b2 (f.1 k.0) (g.1 l.0)) ((one_encodes a b3 is).1 l.1)
