-- The values that an expression has in its place.
use Rattle.std.specs.Prelude.{◌≡◌, Option, Some, None}
use Rattle.jz_tree.specs.Size.{Size}
use Rattle.jz_tree.specs.declared.expr.Expr.{Expr}
use Rattle.jz_judgement.specs.Places.{Place}
use Rattle.jz_judgement.specs.Places as place
use Rattle.jz_judgement.specs.HasType.{HasType, value}
use Rattle.jz_meaning.specs.States.{Value, word, boolean, integer, State}
use Rattle.jz_meaning.specs.Values.{evaluated, ref_of}
use Rattle.jz_run_laws.specs.Kinds.{Kinds, IsOfKinds}
use Rattle.jz_run_laws.specs.DeclaredKinds.{IsDeclared}
use Rattle.jz_run_laws.specs.Kept.{IfWent}
use Rattle.jz_run_laws.specs.Counted.{Counted, Each}

-- a whole number is as good as a word: it is taken modulo 2 to the size
abbrev pub IsAt : Place → Value → Type 0
IsAt place.integer (integer i) = Unit {0}
IsAt place.truth (boolean c) = Unit {0}
IsAt (place.word z) (word y a) = y ≡ z
IsAt (place.word z) (integer i) = Unit {0}
IsAt (place.stated z) (word y a) = y ≡ z
IsAt (place.stated z) (integer i) = Unit {0}
IsAt place.unsized (integer i) = Unit {0}
IsAt _ _ = ⊥

-- the size that is wanted where a value is evaluated
abbrev pub IsWanted : Place → Option Size → Type 0
IsWanted (place.word z) w = w ≡ Some z
IsWanted (place.stated z) w = w ≡ Some z
IsWanted place.unsized w = w ≡ None
IsWanted _ w = Unit {0}

abbrev pub ValuesInPlaces : Type 0
ValuesInPlaces =
    (kinds : Kinds) (s : State) (e : Expr) (p : Place) (w : Option Size)
    → IsOfKinds kinds s → Counted e → Each (λ v. IsDeclared kinds (ref_of v)) e
    → HasType (value e) p → IsWanted p w → IfWent (IsAt p) (evaluated e w s)
