-- The cases of a program's leaks, whatever run has them: an item for each statement that leaks.
use Rattle.std.specs.Prelude.{ℕ, Bool, if◌then◌else◌, List, [], ◌∷◌}
use Rattle.jz_runs.specs.Trees.{Tree, done, op, quiet, choose, loop, each, call}
use Rattle.jz_change.specs.declared.change.Numbers.{Numbers}
use Rattle.jz_change.specs.Changes.{Change, ends, ops, stays_if, arm, stays_while, once, stays_for, unrolled, opened, Changes, none, more}
use Rattle.jz_pass.specs.Copying.{Copying}
use Rattle.jz_pass.specs.Unrolling.{Knowing}

pub data Cases : Type 0 where
  no_case : Cases
  op_case : Cases → Cases
  -- the arms, and what follows
  if_case : Cases → Cases → Cases → Cases
  -- the prologue, the body, and what follows
  while_case : Cases → Cases → Cases → Cases
  for_case : Cases → Cases → Cases
  call_case : Cases → Cases → Cases

-- those of a tree, before these
abbrev pub cases_before : {O T F C : Type 0} → Tree O T F C → Cases → Cases
cases_before done rest = rest
cases_before (op o r) rest = op_case (cases_before r rest)
cases_before (quiet o r) rest = cases_before r rest
cases_before (choose p a b r) rest =
    if_case (cases_before a no_case) (cases_before b no_case) (cases_before r rest)
cases_before (loop h q p b r) rest =
    while_case (cases_before q no_case) (cases_before b no_case) (cases_before r rest)
cases_before (each f b r) rest = for_case (cases_before b no_case) (cases_before r rest)
cases_before (call c b r) rest = call_case (cases_before b no_case) (cases_before r rest)

abbrev pub cases_of : {O T F C : Type 0} → Tree O T F C → Cases
cases_of t = cases_before t no_case

-- ---- what a change makes of cases

-- so many operations are the first cases, and these are left
pub data AreFirst : List Numbers → Cases → Cases → Type 0 where
  no_items : {Y : Cases} → AreFirst [] Y Y
  one_item :
      {i : Numbers} {is : List Numbers} {Y Y2 : Cases} → AreFirst is Y Y2
      → AreFirst (i ∷ is) (op_case Y) Y2

mutual
  -- the change is one of the cases X; what it gives are the first cases of Y, and Y2 is left
  pub data Gives : Change → Cases → Cases → Cases → Type 0 where
    gives_none : {Y : Cases} → Gives ends no_case Y Y
    gives_ops :
        {is : List Numbers} {r : Change} {X Y Y1 Y2 : Cases}
        → AreFirst is Y Y1 → Gives r X Y1 Y2 → Gives (ops is r) (op_case X) Y Y2
    gives_if :
        {pre : List Numbers} {i : Numbers} {ta tb r : Change} {XA XB X A B Y Y1 Y2 : Cases}
        → AreFirst pre Y (if_case A B Y1) → Gives ta XA A no_case → Gives tb XB B no_case
        → Gives r X Y1 Y2 → Gives (stays_if pre i ta tb r) (if_case XA XB X) Y Y2
    gives_arm :
        {z : Bool} {pre : List Numbers} {ta r : Change} {XA XB X Y Y1 Y3 Y2 : Cases}
        → AreFirst pre Y Y1 → Gives ta (if z then XA else XB) Y1 Y3 → Gives r X Y3 Y2
        → Gives (arm z pre ta r) (if_case XA XB X) Y Y2
    gives_while :
        {pre : List Numbers} {i : Numbers} {tp tb r : Change} {XP XB X P P1 B Y Y2 : Cases}
        → Gives tp XP P P1 → AreFirst pre P1 no_case → Gives tb XB B no_case → Gives r X Y Y2
        → Gives (stays_while tp pre i tb r) (while_case XP XB X) (while_case P B Y) Y2
    gives_once :
        {pre : List Numbers} {tp r : Change} {XP XB X Y Y1 Y3 Y2 : Cases}
        → Gives tp XP Y Y1 → AreFirst pre Y1 Y3 → Gives r X Y3 Y2
        → Gives (once tp pre r) (while_case XP XB X) Y Y2
    gives_for :
        {tb r : Change} {XB X B Y Y2 : Cases}
        → Gives tb XB B no_case → Gives r X Y Y2
        → Gives (stays_for tb r) (for_case XB X) (for_case B Y) Y2
    gives_unrolled :
        {ts : Changes} {r : Change} {XB X Y Y1 Y2 : Cases}
        → GiveEach ts XB Y Y1 → Gives r X Y1 Y2 → Gives (unrolled ts r) (for_case XB X) Y Y2
    gives_opened :
        {xs ys : List Numbers} {tb r : Change} {XB X Y Y1 Y3 Y4 Y2 : Cases}
        → AreFirst xs Y Y1 → Gives tb XB Y1 Y3 → AreFirst ys Y3 Y4 → Gives r X Y4 Y2
        → Gives (opened xs tb ys r) (call_case XB X) Y Y2

  -- each of these, of the cases of one body
  pub data GiveEach : Changes → Cases → Cases → Cases → Type 0 where
    give_none : {XB Y : Cases} → GiveEach none XB Y Y
    give_more :
        {t : Change} {ts : Changes} {XB Y Y1 Y2 : Cases}
        → Gives t XB Y Y1 → GiveEach ts XB Y1 Y2 → GiveEach (more t ts) XB Y Y2

-- the change is one of the cases X, and what it gives has the cases Y
abbrev pub IsBetween : Cases → Cases → Change → Type 0
IsBetween X Y k = Gives k X Y no_case

-- ---- rules that have an item for each operation

-- as many items as operations
pub data AsMany {O : Type 0} : List O → List Numbers → Type 0 where
  none_each : AsMany [] []
  one_each :
      {o : O} {os : List O} {i : Numbers} {is : List Numbers}
      → AsMany os is → AsMany (o ∷ os) (i ∷ is)

pub record HasItems {O T F E O2 T2 : Type 0} (K : Knowing O T F E O2 T2) : Type 0 where
  pub ops :
      (o : O) (e e1 : E) (os : List O2) (is : List Numbers) → K.Op o e os is e1 → AsMany os is
  pub tests :
      (p : T) (e : E) (os : List O2) (is : List Numbers) (p2 : T2) (i : Numbers)
      → K.Test p e os is p2 i → AsMany os is
  pub loop_tests :
      (p : T) (e : E) (os : List O2) (is : List Numbers) (p2 : T2) (i : Numbers)
      → K.LoopTest p e os is p2 i → AsMany os is

pub record CallsHaveItems {O T F C X : Type 0} (K : Copying O T F C X) : Type 0 where
  pub arguments : (x : X) (c : ℕ) (q : C) → AsMany (K.arguments x c q) (K.argument_items x q)
  pub results : (x : X) (c : ℕ) (q : C) → AsMany (K.results x c q) (K.result_items x q)
