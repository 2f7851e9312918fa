-- The parts of a frame as they are built.
use Rattle.std.proofs.Common.{◌≡◌, ℕ, ◌+◌, ◌*◌, ◌^◌, ◌<◌, ◌≤◌, Bool, true, false, ◌||◌, List, [], ◌∷◌, ◌++◌, length, get_or, drop, refl, sym, ap, ◌∙◌, arith, append_assoc, append-nil, cond, ◌≢◌, ◌==◌, if◌then◌else◌}
use Rattle.std.specs.List.{list_any, filter}
use Rattle.std.proofs.lemmas.Bool.Decides.{nat_tests}
use Rattle.std.proofs.lemmas.List.{drop_more}
use Rattle.std.proofs.lemmas.List.Folds.{list_any-append}
use Rattle.jz_words.specs.Sizes.{bytes_of}
use Rattle.x64_insn.specs.declared.types.Reg.{Reg}
use Rattle.x64_insn.specs.declared.types.Insn.{Insn}
use Rattle.jz_runs.specs.Trees.{done, op, quiet, choose, loop, each, call}
use Rattle.jz_operations.specs.declared.operation.Stacked.{Stacked}
use Rattle.jz_placing.specs.Instructions.{Code}
use Rattle.jz_place.specs.declared.placed.PlacedTest.{PlacedTest}
use Rattle.jz_place.specs.declared.placed.PlacedNode.{PlacedNode}
use Rattle.jz_place.specs.declared.placed.PlacedNode.TheOpen.{PlacedNode-F}
use Rattle.jz_place.specs.declared.placed.PlacedNode.TheVariants.{Do, If, While, rolls-Do}
use Rattle.jz_place.specs.declared.placed.PlacedNode.TheFolds.{fold-roll-PlacedNode, map-PlacedNode}
use Rattle.jz_place.specs.declared.placed.PlacedNode.TheViews.{out-PlacedNode}
use Rattle.jz_place.specs.Codes.{test_in, in_order, node_step, then_code, code_in}
use Rattle.jz_linear.proofs.NodeLines.{then_is, do_is, if_is, while_is}
use Rattle.jz_correct.specs.Frames.{names}
use Rattle.jz_stack.specs.Laying.{begins_at, ends_at, offsets_from, end_from}
use Rattle.jz_stack.specs.Framed.{then_tree, test_insns, insns_in, saves, loads, save, load, down, up, framed}
use Rattle.jz_stack.specs.InnerFrames.{save_nodes, load_nodes}
use Rattle.jz_stack.proofs.Laid.{end_above}

-- ---- stack variables, one more of them
-- what was found with what is left are all
abbrev pub IsLaidOut : (ss : List Stacked) (k end : ℕ) (offsets : List ℕ) → Type 0
IsLaidOut ss k end offsets =
    (offsets ++ offsets_from end (drop k ss) ≡ offsets_from 0 ss) × (end_from end (drop k ss) ≡ end_from 0 ss) × (end ≤ 65536)

module _ (ss : List Stacked) (k : ℕ) (s : Stacked) (lt : k < length ss) (is : s ≡ get_or ss k s) where
  one_off : drop k ss ≡ s ∷ drop (k + 1) ss
  one_off = drop_more ss k s lt ∙ ap (λ x. x ∷ drop (k + 1) ss) (sym is)

  pub laid_on : (end next at : ℕ) (offsets new : List ℕ) → IsLaidOut ss k end offsets → at ≡ begins_at end s → next ≡ ends_at end s → next ≤ 65536 → new ≡ offsets ++ at ∷ [] → IsLaidOut ss (k + 1) next new
  laid_on end next at offsets new h a n le e = (
    ap (λ o. o ++ offsets_from next (drop (k + 1) ss)) e ∙ append_assoc offsets (at ∷ []) (offsets_from next (drop (k + 1) ss))
        ∙ ap (λ x. offsets ++ x ∷ offsets_from next (drop (k + 1) ss)) a ∙ ap (λ x. offsets ++ begins_at end s ∷ offsets_from x (drop (k + 1) ss)) n
        ∙ ap (λ l. offsets ++ offsets_from end l) (sym one_off) ∙ h.0,
    ap (λ x. end_from x (drop (k + 1) ss)) n ∙ ap (end_from end) (sym one_off) ∙ h.1,
    le,
  )

  pub past_limit : (end at more : ℕ) (offsets : List ℕ) → IsLaidOut ss k end offsets → at ≡ begins_at end s → more ≡ s.count * bytes_of s.size → 65536 < at + more → 65536 < end_from 0 ss
  past_limit end at more offsets h a m lt =
      let last : end_from (ends_at end s) (drop (k + 1) ss) ≡ end_from 0 ss = ap (end_from end) (sym one_off) ∙ h.1 in
      let above = end_above (drop (k + 1) ss) (ends_at end s) in
      omega (arith, a, m, lt, last, above)

-- ---- which registers are named
layer_insns : (x : PlacedNode-F (Code → Code)) (r : Code) → insns_in (node_step x r) ≡ insns_in (node_step x done) ++ insns_in r
layer_insns (PlacedNode-F.Do i) r = refl
layer_insns (PlacedNode-F.If t a b) r =
    let ts = test_insns (test_in t) in
    let ia = insns_in (in_order a) in
    let ib = insns_in (in_order b) in
    let ir = insns_in r in
    ap (λ x. ts ++ (ia ++ (x ++ ir))) (sym (append-nil ib)) ∙ ap (λ x. ts ++ x) (sym (append_assoc ia (ib ++ []) ir)) ∙ sym (append_assoc ts (ia ++ (ib ++ [])) ir)
layer_insns (PlacedNode-F.While q p t b) r =
    let ip = insns_in (in_order p) in
    let ts = test_insns (test_in t) in
    let ib = insns_in (in_order b) in
    let ir = insns_in r in
    ap (λ x. ip ++ (ts ++ (x ++ ir))) (sym (append-nil ib)) ∙ ap (λ x. ip ++ x) (sym (append_assoc ts (ib ++ []) ir)) ∙ sym (append_assoc ip (ts ++ (ib ++ [])) ir)

node_insns : (n : PlacedNode) (r : Code) → insns_in (then_code n r) ≡ insns_in (then_code n done) ++ insns_in r
node_insns n r =
    ap insns_in (then_is n r) ∙ layer_insns (map-PlacedNode _ _ then_code (out-PlacedNode n)) r
    ∙ ap (λ t. insns_in t ++ insns_in r) (sym (then_is n done))

abbrev pub any_names : Reg → Code → Bool
any_names r t = list_any (λ i. names i r) (insns_in t)

-- a body names what one more of its nodes names, or what is left
names_more : (r : Reg) (ns : List PlacedNode) (k : ℕ) (n : PlacedNode) → k < length ns → n ≡ get_or ns k n → any_names r (code_in (drop k ns)) ≡ (any_names r (then_code n done) || any_names r (code_in (drop (k + 1) ns)))
names_more r ns k n lt is =
    ap (λ l. any_names r (code_in l)) (drop_more ns k n lt ∙ ap (λ x. x ∷ drop (k + 1) ns) (sym is))
    ∙ ap (list_any (λ i. names i r)) (node_insns n (code_in (drop (k + 1) ns))) ∙ list_any-append (λ i. names i r) (insns_in (then_code n done)) (insns_in (code_in (drop (k + 1) ns)))

pub names_on : (r : Reg) (ns : List PlacedNode) (k : ℕ) (n : PlacedNode) (all : Bool) → k < length ns → n ≡ get_or ns k n → any_names r (code_in (drop k ns)) ≡ all → any_names r (then_code n done) ≡ false → any_names r (code_in (drop (k + 1) ns)) ≡ all
names_on r ns k n all lt is h f = ap (λ b. b || any_names r (code_in (drop (k + 1) ns))) (sym f) ∙ sym (names_more r ns k n lt is) ∙ h

pub names_here : (r : Reg) (ns : List PlacedNode) (k : ℕ) (n : PlacedNode) (all : Bool) → k < length ns → n ≡ get_or ns k n → any_names r (code_in (drop k ns)) ≡ all → any_names r (then_code n done) ≡ true → true ≡ all
names_here r ns k n all lt is h t = ap (λ b. b || any_names r (code_in (drop (k + 1) ns))) (sym t) ∙ sym (names_more r ns k n lt is) ∙ h

or_false : (b : Bool) → (b || false) ≡ b
or_false true = refl
or_false false = refl

pub do_names : (r : Reg) (i : Insn) (n : PlacedNode) → n ≡ Do i → any_names r (then_code n done) ≡ names i r
do_names r i n is = ap (λ z. any_names r (then_code z done)) is ∙ ap (any_names r) (do_is i) ∙ or_false (names i r)

pub if_names : (r : Reg) (t : PlacedTest) (a b : List PlacedNode) (n : PlacedNode) → n ≡ If t a b
    → any_names r (then_code n done) ≡ (list_any (λ i. names i r) (test_insns (test_in t)) || (any_names r (code_in a) || any_names r (code_in b)))
if_names r t a b n is =
    let p : Insn → Bool = λ i. names i r in
    let ts = test_insns (test_in t) in
    let ia = insns_in (code_in a) in
    let ib = insns_in (code_in b) in
    ap (λ z. any_names r (then_code z done)) is ∙ ap (any_names r) (if_is t a b) ∙ list_any-append p ts (ia ++ (ib ++ []))
    ∙ ap (λ x. list_any p ts || x) (list_any-append p ia (ib ++ []) ∙ ap (λ l. list_any p ia || list_any p l) (append-nil ib))

pub while_names : (r : Reg) (q : Bool) (p : List PlacedNode) (t : PlacedTest) (b : List PlacedNode) (n : PlacedNode) → n ≡ While q p t b
    → any_names r (then_code n done) ≡ (any_names r (code_in p) || (list_any (λ i. names i r) (test_insns (test_in t)) || any_names r (code_in b)))
while_names r q p t b n is =
    let f : Insn → Bool = λ i. names i r in
    let ip = insns_in (code_in p) in
    let ts = test_insns (test_in t) in
    let ib = insns_in (code_in b) in
    ap (λ z. any_names r (then_code z done)) is ∙ ap (any_names r) (while_is q p t b) ∙ list_any-append f ip (ts ++ (ib ++ []))
    ∙ ap (λ x. list_any f ip || x) (list_any-append f ts (ib ++ []) ∙ ap (λ l. list_any f ts || list_any f l) (append-nil ib))

-- ---- the registers that pass a test
filter_is : (p : Reg → Bool) (r : Reg) (rs : List Reg) → filter p (r ∷ rs) ≡ cond (p r) (r ∷ filter p rs) (filter p rs)
filter_is p r rs = refl

abbrev pub IsFound : (p : Reg → Bool) (rs : List Reg) (k : ℕ) (found : List Reg) → Type 0
IsFound p rs k found = found ++ filter p (drop k rs) ≡ filter p rs

module _ (p : Reg → Bool) (rs : List Reg) (k : ℕ) (r : Reg) (lt : k < length rs) (is : r ≡ get_or rs k r) where
  filter_off : filter p (drop k rs) ≡ cond (p r) (r ∷ filter p (drop (k + 1) rs)) (filter p (drop (k + 1) rs))
  filter_off = ap (filter p) (drop_more rs k r lt ∙ ap (λ x. x ∷ drop (k + 1) rs) (sym is)) ∙ filter_is p r (drop (k + 1) rs)

  pub found_one : (old new : List Reg) → IsFound p rs k old → p r ≡ true → new ≡ old ++ r ∷ [] → IsFound p rs (k + 1) new
  found_one old new h t e =
      ap (λ l. l ++ filter p (drop (k + 1) rs)) e ∙ append_assoc old (r ∷ []) (filter p (drop (k + 1) rs))
      ∙ ap (λ b. old ++ cond b (r ∷ filter p (drop (k + 1) rs)) (filter p (drop (k + 1) rs))) (sym t) ∙ ap (λ l. old ++ l) (sym filter_off) ∙ h

  pub found_none : (old : List Reg) → IsFound p rs k old → p r ≡ false → IsFound p rs (k + 1) old
  found_none old h f = ap (λ b. old ++ cond b (r ∷ filter p (drop (k + 1) rs)) (filter p (drop (k + 1) rs))) (sym f) ∙ ap (λ l. old ++ l) (sym filter_off) ∙ h

pub filter_short : (p : Reg → Bool) (rs : List Reg) → length (filter p rs) ≤ length rs
filter_short p [] = omega arith
filter_short p (r ∷ rs) = by_test (p r) (filter_short p rs)
  where
    by_test : (b : Bool) → length (filter p rs) ≤ length rs → length (cond b (r ∷ filter p rs) (filter p rs)) ≤ length (r ∷ rs)
    by_test true h = omega (arith, h)
    by_test false h = omega (arith, h)

-- ---- slots, one more of them
abbrev pub AreSlots : (nodes_from : ℕ → List Reg → List PlacedNode) (rs : List Reg) (first k offset : ℕ) (start now : List PlacedNode) → Type 0
AreSlots nodes_from rs first k offset start now =
    (now ++ nodes_from offset (drop k rs) ≡ start ++ nodes_from first rs) × (offset + 8 * length (drop k rs) ≡ first + 8 * length rs)

module _ (rs : List Reg) (first k offset : ℕ) (r : Reg) (lt : k < length rs) (is : r ≡ get_or rs k r) where
  slot_off : drop k rs ≡ r ∷ drop (k + 1) rs
  slot_off = drop_more rs k r lt ∙ ap (λ x. x ∷ drop (k + 1) rs) (sym is)

  pub slot_small : (nodes_from : ℕ → List Reg → List PlacedNode) (start now : List PlacedNode) → AreSlots nodes_from rs first k offset start now → first + 8 * length rs < 2 ^ 31 → offset + 8 < 2 ^ 31
  slot_small nodes_from start now h few = let e = ap length slot_off in omega (arith, h.1, e, few)

  pub saves_on : (start now new : List PlacedNode) → AreSlots save_nodes rs first k offset start now → new ≡ now ++ Do (save r offset) ∷ [] → AreSlots save_nodes rs first (k + 1) (offset + 8) start new
  saves_on start now new h e = let n = ap length slot_off in (
    ap (λ l. l ++ save_nodes (offset + 8) (drop (k + 1) rs)) e ∙ append_assoc now (Do (save r offset) ∷ []) (save_nodes (offset + 8) (drop (k + 1) rs))
        ∙ ap (λ l. now ++ save_nodes offset l) (sym slot_off) ∙ h.0,
    omega (arith, h.1, n),
  )

  pub loads_on : (start now new : List PlacedNode) → AreSlots load_nodes rs first k offset start now → new ≡ now ++ Do (load r offset) ∷ [] → AreSlots load_nodes rs first (k + 1) (offset + 8) start new
  loads_on start now new h e = let n = ap length slot_off in (
    ap (λ l. l ++ load_nodes (offset + 8) (drop (k + 1) rs)) e ∙ append_assoc now (Do (load r offset) ∷ []) (load_nodes (offset + 8) (drop (k + 1) rs))
        ∙ ap (λ l. now ++ load_nodes offset l) (sym slot_off) ∙ h.0,
    omega (arith, h.1, n),
  )

-- ---- the code of a body in its frame
do_front : (i : Insn) (r : Code) → then_code (Do i) r ≡ op i r
do_front i r = ap (λ z. then_code z r) (sym (rolls-Do i)) ∙ ap (λ f. f r) (fold-roll-PlacedNode _ node_step (PlacedNode-F.Do i))

tree_assoc : (s t r : Code) → then_tree (then_tree s t) r ≡ then_tree s (then_tree t r)
tree_assoc done t r = refl
tree_assoc (op o s) t r = ap (op o) (tree_assoc s t r)
tree_assoc (quiet o s) t r = ap (quiet o) (tree_assoc s t r)
tree_assoc (choose c a b s) t r = ap (choose c a b) (tree_assoc s t r)
tree_assoc (loop q p c b s) t r = ap (loop q p c b) (tree_assoc s t r)
tree_assoc (each f b s) t r = absurd f
tree_assoc (call c b s) t r = absurd c

layer_tree : (x : PlacedNode-F (Code → Code)) (r : Code) → node_step x r ≡ then_tree (node_step x done) r
layer_tree (PlacedNode-F.Do i) r = refl
layer_tree (PlacedNode-F.If t a b) r = refl
layer_tree (PlacedNode-F.While q p t b) r = refl

node_tree : (n : PlacedNode) (r : Code) → then_code n r ≡ then_tree (then_code n done) r
node_tree n r = then_is n r ∙ layer_tree (map-PlacedNode _ _ then_code (out-PlacedNode n)) r ∙ ap (λ t. then_tree t r) (sym (then_is n done))

block_tree : (ns ms : List PlacedNode) → code_in (ns ++ ms) ≡ then_tree (code_in ns) (code_in ms)
block_tree [] ms = refl
block_tree (n ∷ ns) ms =
    node_tree n (code_in (ns ++ ms)) ∙ ap (then_tree (then_code n done)) (block_tree ns ms)
    ∙ sym (tree_assoc (then_code n done) (code_in ns) (code_in ms)) ∙ ap (λ t. then_tree t (code_in ms)) (sym (node_tree n (code_in ns)))

saves_code : (rs : List Reg) (at : ℕ) (ms : List PlacedNode) → code_in (save_nodes at rs ++ ms) ≡ saves at rs (code_in ms)
saves_code [] at ms = refl
saves_code (r ∷ rs) at ms = do_front (save r at) (code_in (save_nodes (at + 8) rs ++ ms)) ∙ ap (op (save r at)) (saves_code rs (at + 8) ms)

loads_code : (rs : List Reg) (at : ℕ) (ms : List PlacedNode) → code_in (load_nodes at rs ++ ms) ≡ loads at rs (code_in ms)
loads_code [] at ms = refl
loads_code (r ∷ rs) at ms = do_front (load r at) (code_in (load_nodes (at + 8) rs ++ ms)) ∙ ap (op (load r at)) (loads_code rs (at + 8) ms)

framed_some : (size at : ℕ) (rs : List Reg) (body : Code) → size ≢ 0 → framed size at rs body ≡ op (down size) (saves at rs (then_tree body (loads at rs (op (up size) done))))
framed_some size at rs body ne =
    let e : (size == 0) ≡ false = grind (arith, nat_tests, ne) in
    ap (λ b. if b then body else op (down size) (saves at rs (then_tree body (loads at rs (op (up size) done))))) e

around_insns : (first last : Insn) (at : ℕ) (rs : List Reg) (body n1 n2 n3 n4 n5 : List PlacedNode) → n1 ≡ [] ++ Do first ∷ [] → n2 ≡ n1 ++ save_nodes at rs → n3 ≡ n2 ++ body → n4 ≡ n3 ++ load_nodes at rs → n5 ≡ n4 ++ Do last ∷ []
    → code_in n5 ≡ op first (saves at rs (then_tree (code_in body) (loads at rs (op last done))))
around_insns first last at rs body n1 n2 n3 n4 n5 a b c d e =
    let tail = load_nodes at rs ++ Do last ∷ [] in
    let all : n5 ≡ Do first ∷ (save_nodes at rs ++ (body ++ tail)) =
    e ∙ ap (λ x. x ++ Do last ∷ []) d ∙ append_assoc n3 (load_nodes at rs) (Do last ∷ []) ∙ ap (λ x. x ++ tail) c ∙ append_assoc n2 body tail ∙ ap (λ x. x ++ (body ++ tail)) b
    ∙ append_assoc n1 (save_nodes at rs) (body ++ tail) ∙ ap (λ x. x ++ (save_nodes at rs ++ (body ++ tail))) a in
    ap code_in all ∙ do_front first (code_in (save_nodes at rs ++ (body ++ tail))) ∙ ap (op first) (saves_code rs at (body ++ tail))
    ∙ ap (λ x. op first (saves at rs x)) (block_tree body tail)
    ∙ ap (λ x. op first (saves at rs (then_tree (code_in body) x))) (loads_code rs at (Do last ∷ []) ∙ ap (loads at rs) (do_front last done))

pub around_code : (size at : ℕ) (rs : List Reg) (first last : Insn) (body n0 n1 n2 n3 n4 n5 : List PlacedNode) → size ≢ 0 → first ≡ down size → last ≡ up size → n0 ≡ [] → n1 ≡ n0 ++ Do first ∷ [] → n2 ≡ n1 ++ save_nodes at rs → n3 ≡ n2 ++ body
    → n4 ≡ n3 ++ load_nodes at rs → n5 ≡ n4 ++ Do last ∷ [] → code_in n5 ≡ framed size at rs (code_in body)
around_code size at rs first last body n0 n1 n2 n3 n4 n5 ne f l z a b c d e =
    around_insns first last at rs body n1 n2 n3 n4 n5 (a ∙ ap (λ x. x ++ Do first ∷ []) z) b c d e
    ∙ ap (λ x. op x (saves at rs (then_tree (code_in body) (loads at rs (op last done))))) f
    ∙ ap (λ x. op (down size) (saves at rs (then_tree (code_in body) (loads at rs (op x done))))) l
    ∙ sym (framed_some size at rs (code_in body) ne)
