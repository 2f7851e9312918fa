-- The functions of the copies stand at their numbers.
use Rattle.std.proofs.Common.{◌≡◌, ℕ, suc, ◌+◌, List, [], ◌∷◌, ◌++◌, length, Some, refl, ap, sym, ◌∙◌, subst, arith, append_assoc, length-append}
use Rattle.std.specs.Prelude.{slice_get}
use Rattle.jz_tree.specs.declared.program.Fun.{Fun}
use Rattle.jz_runs.specs.Trees.{done, op, quiet, choose, loop, each, call}
use Rattle.jz_meaning.specs.Statements.{Block}
use Rattle.jz_pass.specs.Copying.{copies}
use Rattle.jz_ready.specs.CopiedKinds.{callees_of}

-- of a tree whose copies have the numbers from c on
abbrev pub Numbered : List Fun → ℕ → Block → Type 0
Numbered fs c done = Unit {0}
Numbered fs c (op o r) = Numbered fs c r
Numbered fs c (quiet o r) = Numbered fs c r
Numbered fs c (choose p a b r) = Numbered fs c a × Numbered fs (c + copies a) b × Numbered fs (c + copies a + copies b) r
Numbered fs c (loop h q p b r) = Numbered fs c q × Numbered fs (c + copies q) b × Numbered fs (c + copies q + copies b) r
Numbered fs c (each i b r) = Numbered fs c b × Numbered fs (c + copies b) r
Numbered fs c (call q b r) = (slice_get fs c ≡ Some q.callee) × Numbered fs (suc c) b × Numbered fs (suc c + copies b) r

pub copies_are : (t : Block) → length (callees_of t) ≡ copies t
copies_are done = refl
copies_are (op o r) = copies_are r
copies_are (quiet o r) = copies_are r
copies_are (choose p a b r) = three (callees_of a) (callees_of b) (callees_of r) (copies a) (copies b) (copies r) (copies_are a) (copies_are b) (copies_are r)
  where
    three : (x y z : List Fun) (i j k : ℕ) → length x ≡ i → length y ≡ j → length z ≡ k → length (x ++ (y ++ z)) ≡ i + j + k
    three x y z i j k e f g = omega (arith, length-append x (y ++ z), length-append y z, e, f, g)
copies_are (loop h q p b r) = three (callees_of q) (callees_of b) (callees_of r) (copies q) (copies b) (copies r) (copies_are q) (copies_are b) (copies_are r)
  where
    three : (x y z : List Fun) (i j k : ℕ) → length x ≡ i → length y ≡ j → length z ≡ k → length (x ++ (y ++ z)) ≡ i + j + k
    three x y z i j k e f g = omega (arith, length-append x (y ++ z), length-append y z, e, f, g)
copies_are (each i b r) = both (callees_of b) (callees_of r) (copies b) (copies r) (copies_are b) (copies_are r)
  where
    both : (x y : List Fun) (i j : ℕ) → length x ≡ i → length y ≡ j → length (x ++ y) ≡ i + j
    both x y i j e f = omega (arith, length-append x y, e, f)
copies_are (call q b r) = both (callees_of b) (callees_of r) (copies b) (copies r) (copies_are b) (copies_are r)
  where
    both : (x y : List Fun) (i j : ℕ) → length x ≡ i → length y ≡ j → suc (length (x ++ y)) ≡ suc i + j
    both x y i j e f = omega (arith, length-append x y, e, f)

at_seam : (pre : List Fun) (x : Fun) (post : List Fun) → slice_get (pre ++ (x ∷ post)) (length pre) ≡ Some x
at_seam [] x post = refl
at_seam (p ∷ pre) x post = at_seam pre x post

-- ---- brackets

first_of_three : (pre x y z post : List Fun) → pre ++ (x ++ ((y ++ z) ++ post)) ≡ pre ++ ((x ++ (y ++ z)) ++ post)
first_of_three pre x y z post = ap (λ l. pre ++ l) (sym (append_assoc x (y ++ z) post))

second_of_three : (pre x y z post : List Fun) → (pre ++ x) ++ (y ++ (z ++ post)) ≡ pre ++ ((x ++ (y ++ z)) ++ post)
second_of_three pre x y z post =
    append_assoc pre x (y ++ (z ++ post)) ∙ ap (λ l. pre ++ (x ++ l)) (sym (append_assoc y z post)) ∙ first_of_three pre x y z post

third_of_three : (pre x y z post : List Fun) → ((pre ++ x) ++ y) ++ (z ++ post) ≡ pre ++ ((x ++ (y ++ z)) ++ post)
third_of_three pre x y z post = append_assoc (pre ++ x) y (z ++ post) ∙ second_of_three pre x y z post

longer : (pre x : List Fun) (c n : ℕ) → length pre ≡ c → length x ≡ n → length (pre ++ x) ≡ c + n
longer pre x c n e f = omega (arith, length-append pre x, e, f)

one_longer : (pre : List Fun) (x : Fun) (c : ℕ) → length pre ≡ c → length (pre ++ (x ∷ [])) ≡ suc c
one_longer pre x c e = omega (arith, length-append pre (x ∷ []), e)

-- ---- whatever stands before and behind

pub numbered : (t : Block) (pre post : List Fun) (c : ℕ) → length pre ≡ c → Numbered (pre ++ (callees_of t ++ post)) c t
numbered done pre post c e = tt
numbered (op o r) pre post c e = numbered r pre post c e
numbered (quiet o r) pre post c e = numbered r pre post c e
numbered (choose p a b r) pre post c e =
    let x : List Fun = callees_of a in
    let y : List Fun = callees_of b in
    let z : List Fun = callees_of r in
    let e1 : length (pre ++ x) ≡ c + copies a = longer pre x c (copies a) e (copies_are a) in
    let e2 : length ((pre ++ x) ++ y) ≡ c + copies a + copies b = longer (pre ++ x) y (c + copies a) (copies b) e1 (copies_are b) in (
      subst (λ l. Numbered l c a) (first_of_three pre x y z post) (numbered a pre ((y ++ z) ++ post) c e),
      subst (λ l. Numbered l (c + copies a) b) (second_of_three pre x y z post) (numbered b (pre ++ x) (z ++ post) (c + copies a) e1),
      subst (λ l. Numbered l (c + copies a + copies b) r) (third_of_three pre x y z post) (numbered r ((pre ++ x) ++ y) post (c + copies a + copies b) e2),
    )
numbered (loop h q p b r) pre post c e =
    let x : List Fun = callees_of q in
    let y : List Fun = callees_of b in
    let z : List Fun = callees_of r in
    let e1 : length (pre ++ x) ≡ c + copies q = longer pre x c (copies q) e (copies_are q) in
    let e2 : length ((pre ++ x) ++ y) ≡ c + copies q + copies b = longer (pre ++ x) y (c + copies q) (copies b) e1 (copies_are b) in (
      subst (λ l. Numbered l c q) (first_of_three pre x y z post) (numbered q pre ((y ++ z) ++ post) c e),
      subst (λ l. Numbered l (c + copies q) b) (second_of_three pre x y z post) (numbered b (pre ++ x) (z ++ post) (c + copies q) e1),
      subst (λ l. Numbered l (c + copies q + copies b) r) (third_of_three pre x y z post) (numbered r ((pre ++ x) ++ y) post (c + copies q + copies b) e2),
    )
numbered (each i b r) pre post c e =
    let y : List Fun = callees_of b in
    let z : List Fun = callees_of r in (
      subst (λ l. Numbered l c b) (ap (λ l. pre ++ l) (sym (append_assoc y z post))) (numbered b pre (z ++ post) c e),
      subst (λ l. Numbered l (c + copies b) r) (append_assoc pre y (z ++ post) ∙ ap (λ l. pre ++ l) (sym (append_assoc y z post)))
          (numbered r (pre ++ y) post (c + copies b) (longer pre y c (copies b) e (copies_are b))),
    )
numbered (call q b r) pre post c e =
    let f : List Fun = q.callee ∷ [] in
    let y : List Fun = callees_of b in
    let z : List Fun = callees_of r in
    let e1 : length (pre ++ f) ≡ suc c = one_longer pre q.callee c e in (
      subst (λ n. slice_get (pre ++ (q.callee ∷ ((y ++ z) ++ post))) n ≡ Some q.callee) e (at_seam pre q.callee ((y ++ z) ++ post)),
      subst (λ l. Numbered l (suc c) b) (second_of_three pre f y z post) (numbered b (pre ++ f) (z ++ post) (suc c) e1),
      subst (λ l. Numbered l (suc c + copies b) r) (third_of_three pre f y z post) (numbered r ((pre ++ f) ++ y) post (suc c + copies b) (longer (pre ++ f) y (suc c) (copies b) e1 (copies_are b))),
    )
