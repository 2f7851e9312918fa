-- The lines of a body, part by part.
use Rattle.std.proofs.Common.{◌≡◌, ◌≢◌, ℕ, zero, suc, ◌+◌, ◌^◌, ◌<◌, ◌≤◌, Bool, true, false, List, [], ◌∷◌, ◌++◌, length, get_or, drop, refl, sym, ap, ◌∙◌, subst, arith, append_assoc, append-nil}
use Rattle.std.proofs.lemmas.List.{drop_more}
use Rattle.x64_insn.specs.declared.types.Insn.{Insn}
use Rattle.x64_insn.specs.declared.types.Cond.{Cond}
use Rattle.jz_runs.specs.Trees.{done, op, choose, loop}
use Rattle.jz_placing.specs.Instructions.{Test, always, if_holds, Code}
use Rattle.jz_place.specs.declared.placed.PlacedTest.{PlacedTest}
use Rattle.jz_place.specs.declared.placed.PlacedNode.{PlacedNode}
use Rattle.jz_place.specs.declared.placed.PlacedNode.TheOpen.{PlacedNode-F}
use Rattle.jz_place.specs.declared.placed.PlacedNode.TheVariants.{Do, If, While, rolls-Do, rolls-If, rolls-While}
use Rattle.jz_place.specs.declared.placed.PlacedNode.TheFolds.{fold-roll-PlacedNode, map-PlacedNode}
use Rattle.jz_place.specs.declared.placed.PlacedNode.TheViews.{out-PlacedNode, roll-out-PlacedNode}
use Rattle.jz_place.specs.Codes.{test_in, in_order, node_step, then_code, code_in}
use Rattle.jz_linear.specs.declared.line.Line.{Line}
use Rattle.jz_linear.specs.declared.line.Line.TheVariants as line
use Rattle.jz_linear.specs.Lines.{negated, labels_in, parts_in, is_empty, test_lines, else_lines, choice_lines, jump_lines, turn_lines, loop_lines, lines_of}
use Rattle.jz_linear.specs.InnerLines.{Adds, head_lines}

-- ---- one behind another
two_more : (l0 l1 l2 x y : List Line) → l1 ≡ l0 ++ x → l2 ≡ l1 ++ y → l2 ≡ l0 ++ (x ++ y)
two_more l0 l1 l2 x y a b = b ∙ ap (λ l. l ++ y) a ∙ append_assoc l0 x y

three_more : (l0 l1 l2 l3 x y z : List Line) → l1 ≡ l0 ++ x → l2 ≡ l1 ++ y → l3 ≡ l2 ++ z → l3 ≡ l0 ++ (x ++ (y ++ z))
three_more l0 l1 l2 l3 x y z a b c = two_more l0 l1 l3 x (y ++ z) a (two_more l1 l2 l3 y z b c)

four_more : (l0 l1 l2 l3 l4 w x y z : List Line) → l1 ≡ l0 ++ w → l2 ≡ l1 ++ x → l3 ≡ l2 ++ y → l4 ≡ l3 ++ z → l4 ≡ l0 ++ (w ++ (x ++ (y ++ z)))
four_more l0 l1 l2 l3 l4 w x y z a b c d = two_more l0 l1 l4 w (x ++ (y ++ z)) a (three_more l1 l2 l3 l4 x y z b c d)

-- ---- nodes
layer_lines : (x : PlacedNode-F (Code → Code)) (r : Code) (n : ℕ) → lines_of (node_step x r) n ≡ lines_of (node_step x done) n ++ lines_of r (n + labels_in (node_step x done))
layer_lines (PlacedNode-F.Do i) r n = let e : n ≡ n + 0 = omega arith in ap (λ m. line.Insn i ∷ lines_of r m) e
layer_lines (PlacedNode-F.If t a b) r n =
    let ca = in_order a in
    let cb = in_order b in
    let here = choice_lines (test_in t) n (is_empty cb) (lines_of ca (n + 2)) (lines_of cb (n + 2 + labels_in ca)) in
    let e : n + 2 + labels_in ca + labels_in cb ≡ n + (2 + labels_in ca + labels_in cb + 0) = omega arith in
    ap (λ m. here ++ lines_of r m) e ∙ ap (λ x. x ++ lines_of r (n + (2 + labels_in ca + labels_in cb + 0))) (sym (append-nil here))
layer_lines (PlacedNode-F.While q p t b) r n =
    let cp = in_order p in
    let cb = in_order b in
    let here = loop_lines q (test_in t) n (lines_of cp (n + 2)) (lines_of cb (n + 2 + labels_in cp)) in
    let e : n + 2 + labels_in cp + labels_in cb ≡ n + (2 + labels_in cp + labels_in cb + 0) = omega arith in
    ap (λ m. here ++ lines_of r m) e ∙ ap (λ x. x ++ lines_of r (n + (2 + labels_in cp + labels_in cb + 0))) (sym (append-nil here))

layer_labels : (x : PlacedNode-F (Code → Code)) (r : Code) → labels_in (node_step x r) ≡ labels_in (node_step x done) + labels_in r
layer_labels (PlacedNode-F.Do i) r = omega arith
layer_labels (PlacedNode-F.If t a b) r = omega arith
layer_labels (PlacedNode-F.While q p t b) r = omega arith

layer_some : (x : PlacedNode-F (Code → Code)) (r : Code) → is_empty (node_step x r) ≡ false
layer_some (PlacedNode-F.Do i) r = refl
layer_some (PlacedNode-F.If t a b) r = refl
layer_some (PlacedNode-F.While q p t b) r = refl

pub then_is : (n : PlacedNode) (r : Code) → then_code n r ≡ node_step (map-PlacedNode _ _ then_code (out-PlacedNode n)) r
then_is n r = ap (λ z. then_code z r) (sym (roll-out-PlacedNode n)) ∙ ap (λ f. f r) (fold-roll-PlacedNode _ node_step (out-PlacedNode n))

node_lines : (n : PlacedNode) (r : Code) (m : ℕ) → lines_of (then_code n r) m ≡ lines_of (then_code n done) m ++ lines_of r (m + labels_in (then_code n done))
node_lines n r m =
    ap (λ t. lines_of t m) (then_is n r) ∙ layer_lines (map-PlacedNode _ _ then_code (out-PlacedNode n)) r m
    ∙ ap (λ t. lines_of t m ++ lines_of r (m + labels_in t)) (sym (then_is n done))

node_labels : (n : PlacedNode) (r : Code) → labels_in (then_code n r) ≡ labels_in (then_code n done) + labels_in r
node_labels n r =
    ap labels_in (then_is n r) ∙ layer_labels (map-PlacedNode _ _ then_code (out-PlacedNode n)) r
    ∙ ap (λ t. labels_in t + labels_in r) (sym (then_is n done))

some_empty : (ns : List PlacedNode) → ns ≢ [] → is_empty (code_in ns) ≡ false
some_empty [] h = absurd (h refl)
some_empty (n ∷ ns) h = ap is_empty (then_is n (code_in ns)) ∙ layer_some (map-PlacedNode _ _ then_code (out-PlacedNode n)) (code_in ns)

pub do_is : (i : Insn) → then_code (Do i) done ≡ op i done
do_is i = ap (λ z. then_code z done) (sym (rolls-Do i)) ∙ ap (λ f. f done) (fold-roll-PlacedNode _ node_step (PlacedNode-F.Do i))

pub if_is : (t : PlacedTest) (a b : List PlacedNode) → then_code (If t a b) done ≡ choose (test_in t) (code_in a) (code_in b) done
if_is t a b = ap (λ z. then_code z done) (sym (rolls-If t a b)) ∙ ap (λ f. f done) (fold-roll-PlacedNode _ node_step (PlacedNode-F.If t a b))

pub while_is : (q : Bool) (p : List PlacedNode) (t : PlacedTest) (b : List PlacedNode) → then_code (While q p t b) done ≡ loop q (code_in p) (test_in t) (code_in b) done
while_is q p t b = ap (λ z. then_code z done) (sym (rolls-While q p t b)) ∙ ap (λ f. f done) (fold-roll-PlacedNode _ node_step (PlacedNode-F.While q p t b))

-- ---- how many parts
layer_parts : (x : PlacedNode-F (Code → Code)) (r : Code) → parts_in (node_step x r) ≡ parts_in (node_step x done) + parts_in r
layer_parts (PlacedNode-F.Do i) r = omega arith
layer_parts (PlacedNode-F.If t a b) r = omega arith
layer_parts (PlacedNode-F.While q p t b) r = omega arith

node_parts : (n : PlacedNode) (r : Code) → parts_in (then_code n r) ≡ parts_in (then_code n done) + parts_in r
node_parts n r =
    ap parts_in (then_is n r) ∙ layer_parts (map-PlacedNode _ _ then_code (out-PlacedNode n)) r
    ∙ ap (λ t. parts_in t + parts_in r) (sym (then_is n done))

pub parts_at : (ns : List PlacedNode) (k : ℕ) (n : PlacedNode) → k < length ns → n ≡ get_or ns k n → parts_in (then_code n done) ≤ parts_in (code_in ns)
parts_at [] k n lt is = absurd (omega (arith, lt))
parts_at (x ∷ ns) zero n lt is =
    let e = node_parts x (code_in ns) in
    let same : parts_in (then_code n done) ≡ parts_in (then_code x done) = ap (λ y. parts_in (then_code y done)) is in
    omega (arith, e, same)
parts_at (x ∷ ns) (suc k) n lt is =
    let e = node_parts x (code_in ns) in
    let h = parts_at ns k n (omega (arith, lt)) is in
    omega (arith, e, h)

pub if_parts : (t : PlacedTest) (a b : List PlacedNode) (n : PlacedNode) → n ≡ If t a b → parts_in (then_code n done) ≡ 1 + parts_in (code_in a) + parts_in (code_in b)
if_parts t a b n is = ap (λ z. parts_in (then_code z done)) is ∙ ap parts_in (if_is t a b) ∙ omega arith

pub while_parts : (q : Bool) (p : List PlacedNode) (t : PlacedTest) (b : List PlacedNode) (n : PlacedNode) → n ≡ While q p t b → parts_in (then_code n done) ≡ 1 + parts_in (code_in p) + parts_in (code_in b)
while_parts q p t b n is = ap (λ z. parts_in (then_code z done)) is ∙ ap parts_in (while_is q p t b) ∙ omega arith

-- ---- one node on
-- what is left behind one more node
left_lines : (ns : List PlacedNode) (k m : ℕ) (n : PlacedNode) → k < length ns → n ≡ get_or ns k n
    → lines_of (code_in (drop k ns)) m ≡ lines_of (then_code n done) m ++ lines_of (code_in (drop (k + 1) ns)) (m + labels_in (then_code n done))
left_lines ns k m n lt is =
    ap (λ l. lines_of (code_in l) m) (drop_more ns k n lt ∙ ap (λ x. x ∷ drop (k + 1) ns) (sym is)) ∙ node_lines n (code_in (drop (k + 1) ns)) m

left_labels : (ns : List PlacedNode) (k : ℕ) (n : PlacedNode) → k < length ns → n ≡ get_or ns k n
    → labels_in (code_in (drop k ns)) ≡ labels_in (then_code n done) + labels_in (code_in (drop (k + 1) ns))
left_labels ns k n lt is =
    ap (λ l. labels_in (code_in l)) (drop_more ns k n lt ∙ ap (λ x. x ∷ drop (k + 1) ns) (sym is)) ∙ node_labels n (code_in (drop (k + 1) ns))

-- so far: what was there with what is left are all, and so are the labels
abbrev pub IsLeft : (ns : List PlacedNode) (k next : ℕ) (now all : List Line) (end : ℕ) → Type 0
IsLeft ns k next now all end =
    (now ++ lines_of (code_in (drop k ns)) next ≡ all) × (next + labels_in (code_in (drop k ns)) ≡ end)

pub node_few : (ns : List PlacedNode) (k next end : ℕ) (n : PlacedNode) (now all : List Line) → k < length ns → n ≡ get_or ns k n → IsLeft ns k next now all end → end < 2 ^ 32 → next + labels_in (then_code n done) < 2 ^ 32
node_few ns k next end n now all lt is h few = let e = left_labels ns k n lt is in omega (arith, e, h.1, few)

pub node_on : (ns : List PlacedNode) (k next after end : ℕ) (n : PlacedNode) (old new all : List Line) → k < length ns → n ≡ get_or ns k n → IsLeft ns k next old all end
    → Adds old new (lines_of (then_code n done) next) (next + labels_in (then_code n done)) after → IsLeft ns (k + 1) after new all end
node_on ns k next after end n old new all lt is h a =
    let e = left_labels ns k n lt is in
    let piece = lines_of (then_code n done) next in
    let rest : List PlacedNode = drop (k + 1) ns in (
      ap (λ l. l ++ lines_of (code_in rest) after) a.0 ∙ append_assoc old piece (lines_of (code_in rest) after)
          ∙ ap (λ m. old ++ (piece ++ lines_of (code_in rest) m)) a.1 ∙ ap (λ l. old ++ l) (sym (left_lines ns k next n lt is)) ∙ h.0,
      omega (arith, a.1, e, h.1),
    )

-- ---- the parts of a node
pub do_adds : (i : Insn) (n : PlacedNode) (first : ℕ) (old new : List Line) → n ≡ Do i → new ≡ old ++ line.Insn i ∷ [] → Adds old new (lines_of (then_code n done) first) (first + labels_in (then_code n done)) first
do_adds i n first old new is e =
    let zero_on : first ≡ first + 0 = omega arith in
    let code : then_code n done ≡ op i done = ap (λ z. then_code z done) is ∙ do_is i in
    subst (λ t. Adds old new (lines_of t first) (first + labels_in t) first) (sym code) (e, zero_on)

pub if_few : (t : PlacedTest) (a b : List PlacedNode) (n : PlacedNode) (first : ℕ) → n ≡ If t a b → first + labels_in (then_code n done) < 2 ^ 32 → first + 2 + labels_in (code_in a) + labels_in (code_in b) < 2 ^ 32
if_few t a b n first is few =
    let code : labels_in (then_code n done) ≡ 2 + labels_in (code_in a) + labels_in (code_in b) + 0 = ap (λ z. labels_in (then_code z done)) is ∙ ap labels_in (if_is t a b) in
    omega (arith, code, few)

pub if_adds : (t : PlacedTest) (a b : List PlacedNode) (n : PlacedNode) (first next : ℕ) (old new : List Line) → n ≡ If t a b
    → Adds old new (choice_lines (test_in t) first (is_empty (code_in b)) (lines_of (code_in a) (first + 2)) (lines_of (code_in b) (first + 2 + labels_in (code_in a)))) (first + 2 + labels_in (code_in a) + labels_in (code_in b)) next
    → Adds old new (lines_of (then_code n done) first) (first + labels_in (then_code n done)) next
if_adds t a b n first next old new is h =
    let ca = code_in a in
    let cb = code_in b in
    let here = choice_lines (test_in t) first (is_empty cb) (lines_of ca (first + 2)) (lines_of cb (first + 2 + labels_in ca)) in
    let code : then_code n done ≡ choose (test_in t) ca cb done = ap (λ z. then_code z done) is ∙ if_is t a b in
    let e : next ≡ first + (2 + labels_in ca + labels_in cb + 0) = omega (arith, h.1) in
    subst (λ c. Adds old new (lines_of c first) (first + labels_in c) next) (sym code) (h.0 ∙ ap (λ l. old ++ l) (sym (append-nil here)), e)

pub while_few : (q : Bool) (p : List PlacedNode) (t : PlacedTest) (b : List PlacedNode) (n : PlacedNode) (first : ℕ) → n ≡ While q p t b → first + labels_in (then_code n done) < 2 ^ 32
    → first + 2 + labels_in (code_in p) + labels_in (code_in b) < 2 ^ 32
while_few q p t b n first is few =
    let code : labels_in (then_code n done) ≡ 2 + labels_in (code_in p) + labels_in (code_in b) + 0 = ap (λ z. labels_in (then_code z done)) is ∙ ap labels_in (while_is q p t b) in
    omega (arith, code, few)

pub while_adds : (q : Bool) (p : List PlacedNode) (t : PlacedTest) (b : List PlacedNode) (n : PlacedNode) (first next : ℕ) (old new : List Line) → n ≡ While q p t b
    → Adds old new (loop_lines q (test_in t) first (lines_of (code_in p) (first + 2)) (lines_of (code_in b) (first + 2 + labels_in (code_in p)))) (first + 2 + labels_in (code_in p) + labels_in (code_in b)) next
    → Adds old new (lines_of (then_code n done) first) (first + labels_in (then_code n done)) next
while_adds q p t b n first next old new is h =
    let cp = code_in p in
    let cb = code_in b in
    let here = loop_lines q (test_in t) first (lines_of cp (first + 2)) (lines_of cb (first + 2 + labels_in cp)) in
    let code : then_code n done ≡ loop q cp (test_in t) cb done = ap (λ z. then_code z done) is ∙ while_is q p t b in
    let e : next ≡ first + (2 + labels_in cp + labels_in cb + 0) = omega (arith, h.1) in
    subst (λ c. Adds old new (lines_of c first) (first + labels_in c) next) (sym code) (h.0 ∙ ap (λ l. old ++ l) (sym (append-nil here)), e)

-- ---- an `if`
choice_is : (t : Test) (n : ℕ) (e : Bool) (a b : List Line) → head_lines t n ++ (a ++ else_lines n e b) ≡ choice_lines t n e a b
choice_is always n e a b = refl
choice_is (if_holds i c) n e a b = append_assoc (test_lines i) (line.Jcc (negated c) n ∷ []) (a ++ else_lines n e b)

pub choice_adds : (t : Test) (n middle next : ℕ) (a b : Code) (l0 l1 l2 l3 : List Line) → l1 ≡ l0 ++ head_lines t n → Adds l1 l2 (lines_of a (n + 2)) (n + 2 + labels_in a) middle
    → Adds l2 l3 (else_lines n (is_empty b) (lines_of b middle)) (middle + labels_in b) next
    → Adds l0 l3 (choice_lines t n (is_empty b) (lines_of a (n + 2)) (lines_of b (n + 2 + labels_in a))) (n + 2 + labels_in a + labels_in b) next
choice_adds t n middle next a b l0 l1 l2 l3 h x y = (
  three_more l0 l1 l2 l3 (head_lines t n) (lines_of a (n + 2)) (else_lines n (is_empty b) (lines_of b middle)) h x.0 y.0
      ∙ ap (λ m. l0 ++ (head_lines t n ++ (lines_of a (n + 2) ++ else_lines n (is_empty b) (lines_of b m)))) x.1
      ∙ ap (λ l. l0 ++ l) (choice_is t n (is_empty b) (lines_of a (n + 2)) (lines_of b (n + 2 + labels_in a))),
  omega (arith, x.1, y.1),
)

pub no_else : (ns : List PlacedNode) (label first : ℕ) (l0 l1 : List Line) → ns ≡ [] → l1 ≡ l0 ++ line.Label label ∷ []
    → Adds l0 l1 (else_lines label (is_empty (code_in ns)) (lines_of (code_in ns) first)) (first + labels_in (code_in ns)) first
no_else ns label first l0 l1 is e =
    let zero_on : first ≡ first + 0 = omega arith in
    subst (λ (x : List PlacedNode). Adds l0 l1 (else_lines label (is_empty (code_in x)) (lines_of (code_in x) first)) (first + labels_in (code_in x)) first) (sym is) (e, zero_on)

pub some_if_not : (ns : List PlacedNode) (b : Bool) → (ns ≡ [] → b ≡ true) → b ≡ false → ns ≢ []
some_if_not ns b h f e = clash (h e) f
  where
    clash : b ≡ true → b ≡ false → ⊥
    clash t f = cc

pub else_adds : (ns : List PlacedNode) (label first next : ℕ) (l0 l1 l2 l3 l4 : List Line) → ns ≢ [] → l1 ≡ l0 ++ line.Jmp (label + 1) ∷ [] → l2 ≡ l1 ++ line.Label label ∷ []
    → Adds l2 l3 (lines_of (code_in ns) first) (first + labels_in (code_in ns)) next → l4 ≡ l3 ++ line.Label (label + 1) ∷ []
    → Adds l0 l4 (else_lines label (is_empty (code_in ns)) (lines_of (code_in ns) first)) (first + labels_in (code_in ns)) next
else_adds ns label first next l0 l1 l2 l3 l4 some a b x d = (
  four_more l0 l1 l2 l3 l4 (line.Jmp (label + 1) ∷ []) (line.Label label ∷ []) (lines_of (code_in ns) first) (line.Label (label + 1) ∷ []) a b x.0 d
      ∙ ap (λ e. l0 ++ else_lines label e (lines_of (code_in ns) first)) (sym (some_empty ns some)),
  x.1,
)

-- ---- a `while`
pub loop_adds : (q : Bool) (t : Test) (n middle next : ℕ) (p b : Code) (l0 l1 l2 l3 : List Line) → l1 ≡ l0 ++ line.Label n ∷ [] → Adds l1 l2 (lines_of p (n + 2)) (n + 2 + labels_in p) middle
    → Adds l2 l3 (turn_lines q t n (lines_of b middle)) (middle + labels_in b) next
    → Adds l0 l3 (loop_lines q t n (lines_of p (n + 2)) (lines_of b (n + 2 + labels_in p))) (n + 2 + labels_in p + labels_in b) next
loop_adds q t n middle next p b l0 l1 l2 l3 h x y = (
  three_more l0 l1 l2 l3 (line.Label n ∷ []) (lines_of p (n + 2)) (turn_lines q t n (lines_of b middle)) h x.0 y.0
      ∙ ap (λ m. l0 ++ loop_lines q t n (lines_of p (n + 2)) (lines_of b m)) x.1,
  omega (arith, x.1, y.1),
)

pub round_adds : (q : Bool) (n first next : ℕ) (b : Code) (l0 l1 l2 : List Line) → Adds l0 l1 (lines_of b first) (first + labels_in b) next → l2 ≡ l1 ++ line.Jmp n ∷ []
    → Adds l0 l2 (turn_lines q always n (lines_of b first)) (first + labels_in b) next
round_adds q n first next b l0 l1 l2 x e = (two_more l0 l1 l2 (lines_of b first) (line.Jmp n ∷ []) x.0 e, x.1)

pub back_adds : (c : Cond) (n first next : ℕ) (b : Code) (l0 l1 l2 : List Line) → l1 ≡ l0 ++ line.Jcc c n ∷ [] → Adds l1 l2 (lines_of b first) (first + labels_in b) next
    → Adds l0 l2 (jump_lines true c n (lines_of b first)) (first + labels_in b) next
back_adds c n first next b l0 l1 l2 e x = (two_more l0 l1 l2 (line.Jcc c n ∷ []) (lines_of b first) e x.0, x.1)

pub left_adds : (c : Cond) (n first next : ℕ) (b : Code) (l0 l1 l2 l3 l4 : List Line) → l1 ≡ l0 ++ line.Jcc (negated c) (n + 1) ∷ [] → Adds l1 l2 (lines_of b first) (first + labels_in b) next
    → l3 ≡ l2 ++ line.Jmp n ∷ [] → l4 ≡ l3 ++ line.Label (n + 1) ∷ []
    → Adds l0 l4 (jump_lines false c n (lines_of b first)) (first + labels_in b) next
left_adds c n first next b l0 l1 l2 l3 l4 e x f g = (four_more l0 l1 l2 l3 l4 (line.Jcc (negated c) (n + 1) ∷ []) (lines_of b first) (line.Jmp n ∷ []) (line.Label (n + 1) ∷ []) e x.0 f g, x.1)

pub compare_adds : (q : Bool) (i : _) (c : Cond) (n first next : ℕ) (b : Code) (l0 l1 l2 : List Line) → l1 ≡ l0 ++ test_lines i → Adds l1 l2 (jump_lines q c n (lines_of b first)) (first + labels_in b) next
    → Adds l0 l2 (turn_lines q (if_holds i c) n (lines_of b first)) (first + labels_in b) next
compare_adds q i c n first next b l0 l1 l2 e x = (two_more l0 l1 l2 (test_lines i) (jump_lines q c n (lines_of b first)) e x.0, x.1)
