-- The items of a program's leaks, whatever run has them, with what is known of the statement of
-- each; and which items of another program a change makes of them.
use Rattle.std.specs.Prelude.{Bool, if◌then◌else◌, List, [], ◌∷◌, ⊤}
use Rattle.jz_runs.specs.Trees.{Tree, done, op, quiet, choose, loop, each, call}
use Rattle.jz_change.specs.declared.change.Numbers.{Numbers}
use Rattle.jz_change.specs.Changes.{Change, ends, ops, stays_if, arm, stays_while, once, stays_for, unrolled, opened, Changes, none, more}

-- an item for each statement that leaks, with what is known of it
pub data Items (A : Type 0) : Type 0 where
  no_item : Items A
  op_item : A → Items A → Items A
  -- the arms, and what follows
  if_item : A → Items A → Items A → Items A → Items A
  -- the prologue, the body, and what follows
  while_item : A → Items A → Items A → Items A → Items A
  for_item : Items A → Items A → Items A
  call_item : A → Items A → Items A → Items A

-- what is known of operations, tests and calls
pub record Known (O T C A : Type 0) : Type 0 where
  pub of_op : O → A
  pub of_test : T → A
  pub of_call : C → A

module _ {O T F C A : Type 0} (K : Known O T C A) where
  -- the items of a tree, before these
  abbrev pub items_before : Tree O T F C → Items A → Items A
  items_before done rest = rest
  items_before (op o r) rest = op_item (K.of_op o) (items_before r rest)
  items_before (quiet o r) rest = items_before r rest
  items_before (choose t a b r) rest =
      if_item (K.of_test t) (items_before a no_item) (items_before b no_item) (items_before r rest)
  items_before (loop h q t b r) rest =
      while_item (K.of_test t) (items_before q no_item) (items_before b no_item)
      (items_before r rest)
  items_before (each f b r) rest = for_item (items_before b no_item) (items_before r rest)
  items_before (call c b r) rest =
      call_item (K.of_call c) (items_before b no_item) (items_before r rest)

  abbrev pub items_of : Tree O T F C → Items A
  items_of t = items_before t no_item

-- of each operation and of each test of a tree
abbrev pub AllParts :
    {O T F C : Type 0} → (O → Type 0) → (T → Type 0) → Tree O T F C → Type 0
AllParts OfOp OfTest done = ⊤
AllParts OfOp OfTest (op o r) = OfOp o × AllParts OfOp OfTest r
AllParts OfOp OfTest (quiet o r) = AllParts OfOp OfTest r
AllParts OfOp OfTest (choose t a b r) =
    OfTest t × AllParts OfOp OfTest a × AllParts OfOp OfTest b × AllParts OfOp OfTest r
AllParts OfOp OfTest (loop h q t b r) =
    AllParts OfOp OfTest q × OfTest t × AllParts OfOp OfTest b × AllParts OfOp OfTest r
AllParts OfOp OfTest (each f b r) = AllParts OfOp OfTest b × AllParts OfOp OfTest r
AllParts OfOp OfTest (call c b r) = AllParts OfOp OfTest b × AllParts OfOp OfTest r

-- R: with which numbers an item comes of another one
module _ {A B : Type 0} (R : A → Numbers → B → Type 0) where
  -- so many operations, each of the item a by its numbers, are the first items; the rest is left
  pub data AreFirst (a : A) : List Numbers → Items B → Items B → Type 0 where
    no_ops : {Y : Items B} → AreFirst a [] Y Y
    one_op :
        {i : Numbers} {is : List Numbers} {b : B} {Y Y2 : Items B}
        → R a i b → AreFirst a is Y Y2 → AreFirst a (i ∷ is) (op_item b Y) Y2

  mutual
    -- the change is one of the items X; what it gives are the first items of Y, each of the one that
    -- it comes from, and Y2 is left
    pub data Gives : Change → Items A → Items B → Items B → Type 0 where
      gives_none : {Y : Items B} → Gives ends no_item Y Y
      gives_ops :
          {is : List Numbers} {r : Change} {a : A} {X : Items A} {Y Y1 Y2 : Items B}
          → AreFirst a is Y Y1 → Gives r X Y1 Y2 → Gives (ops is r) (op_item a X) Y Y2
      gives_if :
          {pre : List Numbers} {i : Numbers} {ta tb r : Change} {a : A} {b : B}
          {XA XB X : Items A} {YA YB Y Y1 Y2 : Items B}
          → AreFirst a pre Y (if_item b YA YB Y1) → R a i b
          → Gives ta XA YA no_item → Gives tb XB YB no_item
          → Gives r X Y1 Y2 → Gives (stays_if pre i ta tb r) (if_item a XA XB X) Y Y2
      gives_arm :
          {z : Bool} {pre : List Numbers} {ta r : Change} {a : A} {XA XB X : Items A}
          {Y Y1 Y3 Y2 : Items B}
          → AreFirst a pre Y Y1 → Gives ta (if z then XA else XB) Y1 Y3 → Gives r X Y3 Y2
          → Gives (arm z pre ta r) (if_item a XA XB X) Y Y2
      gives_while :
          {pre : List Numbers} {i : Numbers} {tp tb r : Change} {a : A} {b : B}
          {XP XB X : Items A} {P P1 YB Y Y2 : Items B}
          → Gives tp XP P P1 → AreFirst a pre P1 no_item → R a i b
          → Gives tb XB YB no_item → Gives r X Y Y2
          → Gives (stays_while tp pre i tb r) (while_item a XP XB X) (while_item b P YB Y) Y2
      gives_once :
          {pre : List Numbers} {tp r : Change} {a : A} {XP XB X : Items A} {Y Y1 Y3 Y2 : Items B}
          → Gives tp XP Y Y1 → AreFirst a pre Y1 Y3 → Gives r X Y3 Y2
          → Gives (once tp pre r) (while_item a XP XB X) Y Y2
      gives_for :
          {tb r : Change} {XB X : Items A} {YB Y Y2 : Items B}
          → Gives tb XB YB no_item → Gives r X Y Y2
          → Gives (stays_for tb r) (for_item XB X) (for_item YB Y) Y2
      gives_unrolled :
          {ts : Changes} {r : Change} {XB X : Items A} {Y Y1 Y2 : Items B}
          → GiveEach ts XB Y Y1 → Gives r X Y1 Y2 → Gives (unrolled ts r) (for_item XB X) Y Y2
      gives_opened :
          {xs ys : List Numbers} {tb r : Change} {a : A} {XB X : Items A}
          {Y Y1 Y3 Y4 Y2 : Items B}
          → AreFirst a xs Y Y1 → Gives tb XB Y1 Y3 → AreFirst a ys Y3 Y4 → Gives r X Y4 Y2
          → Gives (opened xs tb ys r) (call_item a XB X) Y Y2

    -- each of these, of the items of one body
    pub data GiveEach : Changes → Items A → Items B → Items B → Type 0 where
      give_none : {XB : Items A} {Y : Items B} → GiveEach none XB Y Y
      give_more :
          {t : Change} {ts : Changes} {XB : Items A} {Y Y1 Y2 : Items B}
          → Gives t XB Y Y1 → GiveEach ts XB Y1 Y2 → GiveEach (more t ts) XB Y Y2

  -- the change is one of the items X, and what it gives are the items Y
  abbrev pub IsBetween : Items A → Items B → Change → Type 0
  IsBetween X Y k = Gives k X Y no_item

  -- ---- rules
  -- these operations come of the item a, each by its numbers
  pub data Come {O : Type 0} (of_op : O → B) (a : A) : List O → List Numbers → Type 0 where
    none_come : Come of_op a [] []
    one_comes :
        {o : O} {os : List O} {i : Numbers} {is : List Numbers}
        → R a i (of_op o) → Come of_op a os is → Come of_op a (o ∷ os) (i ∷ is)
