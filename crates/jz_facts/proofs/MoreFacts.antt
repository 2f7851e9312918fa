-- Of more facts before an operation, a mark or a test there are more behind it.
use Rattle.std.proofs.Common.{◌≡◌, ℕ, ◌+◌, ◌-◌, ◌≤◌, [], List, ◌∷◌, Option, Some, None, Bool, true, false, arith, if◌then◌else◌}
use Rattle.std.specs.Prelude.{nat_le, not, ◌&&◌}
use Rattle.std.specs.Option.{option_or}
use Rattle.x64_insn.specs.Size.{Size}
use Rattle.x64_insn.specs.Size.TheVariants.{S64}
use Rattle.x64_insn.specs.Words.{residue}
use Rattle.jz_tree.specs.declared.expr.BinOp.{BinOp}
use Rattle.jz_tree.specs.declared.expr.BinOp.TheVariants as o
use Rattle.jz_tree.specs.declared.expr.Expr.{Expr}
use Rattle.jz_tree.specs.declared.stmt.Lval.{Lval}
use Rattle.jz_tree.specs.declared.stmt.Lval.TheVariants as lval
use Rattle.jz_tree.specs.declared.intrinsic.Instance.{Instance}
use Rattle.jz_tree.specs.Spellings.{spelled}
use Rattle.jz_meaning.specs.declared.access.Kind.{Kind}
use Rattle.jz_meaning.specs.declared.access.Kind.TheVariants as kind
use Rattle.jz_meaning.specs.States.{Key, same_key}
use Rattle.jz_meaning.specs.Values.{Ref, key_of, ref_of, own_size}
use Rattle.jz_meaning.specs.Assignments.{left_sizes, last_left, whole_of}
use Rattle.jz_meaning.specs.Statements.{Operation, assign, instruction, unset, meaningless, Condition}
use Rattle.jz_flow.specs.Sets.{Below}
use Rattle.jz_flow.specs.Soundness.{Monotone}
use Rattle.jz_terms.specs.Terms.{Term, num, truth, var, cell, load, neg, inv, cast, bin, term_of, size_in}
use Rattle.jz_facts.specs.Facts.{Fact, Set, Cell, AtLeast, AtMost, Under, Is, Multiple, Facts, subject, Given, is_among, multiples}
use Rattle.jz_facts.specs.Intervals.{size_or_64, interval, multiple}
use Rattle.jz_facts.specs.Holding.{renewed, is_read, copied, of_word, Gets, none, some_value, the_word, gained, same_cell, in_cell, written, all_written, results, if_so, assigned, counted, instruction_gets, instructed, is_marked, quieted, does}
use Rattle.jz_facts.specs.Tests.{is_var, ◌and◌, at_most, at_least, under, under_what_is, is_the_same, less, less_or_same, same, by_true, opposite, adds, tested, leaving, leaves}
use Rattle.jz_facts.specs.Along.{fact_steps}
use Rattle.jz_facts.proofs.Narrowing.{and_more, or_more, le_more, le_less, narrow, multiple_more}

module _ (g : Given) (s t : Facts) (h : Below s t) where
  -- ---- assignments

  copied_more : (e : Term) (F : Key → Fact) → copied s e F ≡ true → copied t e F ≡ true
  copied_more (var x) F q = h (F (key_of x)) q
  copied_more (num i at) F q = q
  copied_more (truth b at) F q = q
  copied_more (cell x i) F q = q
  copied_more (load p a) F q = q
  copied_more (neg a at) F q = q
  copied_more (inv a at) F q = q
  copied_more (cast z sign a at) F q = q
  copied_more (bin op a b at) F q = q

  of_word_more : (z : Size) (e : Term) → Below (of_word g s z e) (of_word g t z e)
  of_word_more z e (Set v) q = q
  of_word_more z e (Cell a k) q = q
  of_word_more z e (AtLeast v c) q =
      let n = narrow g s t h z e in
      and_more (not (is_read e)) (is_among c g.consts && nat_le c (interval g s z e).lo) (not (is_read e)) (is_among c g.consts && nat_le c (interval g t z e).lo) (λ i. i)
      (and_more (is_among c g.consts) (nat_le c (interval g s z e).lo) (is_among c g.consts) (nat_le c (interval g t z e).lo) (λ i. i) (le_more c (interval g s z e).lo (interval g t z e).lo n.0)) q
  of_word_more z e (AtMost v c) q =
      let n = narrow g s t h z e in
      and_more (not (is_read e)) (is_among c g.consts && nat_le (interval g s z e).hi c) (not (is_read e)) (is_among c g.consts && nat_le (interval g t z e).hi c) (λ i. i)
      (and_more (is_among c g.consts) (nat_le (interval g s z e).hi c) (is_among c g.consts) (nat_le (interval g t z e).hi c) (λ i. i) (le_less (interval g s z e).hi (interval g t z e).hi c n.1)) q
  of_word_more z e (Under v x) q = copied_more e (λ y. Under y x) q
  of_word_more z e (Is v x) q = copied_more e (λ y. Is y x) q
  of_word_more z e (Multiple v m) q = and_more (is_among m multiples) (multiple g s e m) (is_among m multiples) (multiple g t e m) (λ i. i) (multiple_more g s t h e m) q

  gained_more : (k : Kind) (v : Gets) → Below (gained g s k v) (gained g t k v)
  gained_more k none f q = q
  gained_more (kind.Word y) (the_word z e) f q = of_word_more z e f q
  gained_more (kind.Word y) some_value f q = q
  gained_more kind.Undeclared (the_word z e) f q = q
  gained_more kind.Undeclared some_value f q = q
  gained_more kind.Int (the_word z e) f q = q
  gained_more kind.Int some_value f q = q
  gained_more kind.Bool (the_word z e) f q = q
  gained_more kind.Bool some_value f q = q
  gained_more (kind.Array y n) (the_word z e) f q = q
  gained_more (kind.Array y n) some_value f q = q

  renewed_more : (v : Key) (new more : Facts) (a b : Facts) → Below new more → Below a b → Below (renewed v new a) (renewed v more b)
  renewed_more v new more a b j k f q = by (same_key (subject f) v) q
    where
      by : (c : Bool) → (if c then new f else a f) ≡ true → (if c then more f else b f) ≡ true
      by true q = j f q
      by false q = k f q

  in_cell_more : (x : Ref) (i : Term) (a b : Facts) → Below a b → Below (in_cell x i a) (in_cell x i b)
  in_cell_more x (num n at) a b k f q = or_more (a f) (same_cell (key_of x) (residue S64 n) f) (b f) (same_cell (key_of x) (residue S64 n) f) (k f) (λ i. i) q
  in_cell_more x (truth c at) a b k f q = k f q
  in_cell_more x (var y) a b k f q = k f q
  in_cell_more x (cell y i) a b k f q = k f q
  in_cell_more x (load p i) a b k f q = k f q
  in_cell_more x (neg i at) a b k f q = k f q
  in_cell_more x (inv i at) a b k f q = k f q
  in_cell_more x (cast z sign i at) a b k f q = k f q
  in_cell_more x (bin op i j at) a b k f q = k f q

  written_more : (d : Lval) (v : Gets) (a b : Facts) → Below a b → Below (written g s d v a) (written g t d v b)
  written_more (lval.Skip at) v a b k = k
  written_more (lval.Var x) v a b k = renewed_more (key_of (ref_of x)) (gained g s (ref_of x).kind v) (gained g t (ref_of x).kind v) a b (gained_more (ref_of x).kind v) k
  written_more (lval.Cell x i) v a b k = in_cell_more (ref_of x) (term_of i) a b k
  written_more (lval.Store p) v a b k = k

  all_written_more : (ds : List Lval) (vs : List Gets) (a b : Facts) → Below a b → Below (all_written g s ds vs a) (all_written g t ds vs b)
  all_written_more [] [] a b k = k
  all_written_more [] (v ∷ vs) a b k = k
  all_written_more (d ∷ ds) [] a b k = k
  all_written_more (d ∷ ds) (v ∷ vs) a b k = all_written_more ds vs (written g s d v a) (written g t d v b) (written_more d v a b k)

  if_so_more : (c : Option Expr) (a b : Facts) → Below a b → Below (if_so c s a) (if_so c t b)
  if_so_more None a b k = k
  if_so_more (Some c) a b k = λ f q. and_more (a f) (s f) (b f) (t f) (k f) (h f) q

  assigned_more : (to : List Lval) (e c : Option Expr) → Below (assigned g to e c s) (assigned g to e c t)
  assigned_more to None c = h
  assigned_more to (Some e) c =
      let z = size_or_64 (option_or (left_sizes to) (own_size e)) in
      if_so_more c (all_written g s to (results z (term_of e) to) s) (all_written g t to (results z (term_of e) to) t) (all_written_more to (results z (term_of e) to) s t h)

  instructed_more : (i : Option Instance) (to : List Lval) (args : List Expr) → Below (instructed g i to args s) (instructed g i to args t)
  instructed_more None to args = h
  instructed_more (Some i) to args = all_written_more to (instruction_gets i.name (counted args)) s t h

  does_more : (o : Operation) → Below (does g o s) (does g o t)
  does_more (assign to op e c at) = assigned_more to (whole_of (last_left to) op e) c
  does_more (instruction to n args at) = instructed_more (spelled n) to args
  does_more (unset xs) = h
  does_more (meaningless at) = h

  quieted_more : (o : Operation) → Below (quieted o s) (quieted o t)
  quieted_more (unset xs) f q = and_more (s f) (not (is_marked xs (subject f))) (t f) (not (is_marked xs (subject f))) (h f) (λ i. i) q
  quieted_more (assign to op e c at) f q = h f q
  quieted_more (instruction to n args at) f q = h f q
  quieted_more (meaningless at) f q = h f q

  -- ---- tests

  both_more : (a b c d : Facts) → Below a c → Below b d → Below (a and b) (c and d)
  both_more a b c d j k f q = or_more (a f) (b f) (c f) (d f) (j f) (k f) q

  at_most_more : (e : Term) (m n : ℕ) → n ≤ m → Below (at_most g e m) (at_most g e n)
  at_most_more e m n l (AtMost v c) q = and_more (is_var e v) (is_among c g.consts && nat_le m c) (is_var e v) (is_among c g.consts && nat_le n c) (λ i. i) (and_more (is_among c g.consts) (nat_le m c) (is_among c g.consts) (nat_le n c) (λ i. i) (le_less m n c l)) q
  at_most_more e m n l (Set v) q = q
  at_most_more e m n l (Cell v k) q = q
  at_most_more e m n l (AtLeast v k) q = q
  at_most_more e m n l (Under v k) q = q
  at_most_more e m n l (Is v k) q = q
  at_most_more e m n l (Multiple v k) q = q

  at_least_more : (e : Term) (m n : ℕ) → m ≤ n → Below (at_least g e m) (at_least g e n)
  at_least_more e m n l (AtLeast v c) q = and_more (is_var e v) (is_among c g.consts && nat_le c m) (is_var e v) (is_among c g.consts && nat_le c n) (λ i. i) (and_more (is_among c g.consts) (nat_le c m) (is_among c g.consts) (nat_le c n) (λ i. i) (le_more c m n l)) q
  at_least_more e m n l (Set v) q = q
  at_least_more e m n l (Cell v k) q = q
  at_least_more e m n l (AtMost v k) q = q
  at_least_more e m n l (Under v k) q = q
  at_least_more e m n l (Is v k) q = q
  at_least_more e m n l (Multiple v k) q = q

  under_more : (a b : Term) → Below (under g s a b) (under g t a b)
  under_more a b (Under v x) q = and_more (is_var a v) (copied s b (λ y. Under y x)) (is_var a v) (copied t b (λ y. Under y x)) (λ i. i) (copied_more b (λ y. Under y x)) q
  under_more a b (Set v) q = q
  under_more a b (Cell v k) q = q
  under_more a b (AtLeast v k) q = q
  under_more a b (AtMost v k) q = q
  under_more a b (Is v k) q = q
  under_more a b (Multiple v k) q = q

  under_what_is_more : (a b : Term) → Below (under_what_is g s a b) (under_what_is g t a b)
  under_what_is_more a b (Under v x) q = and_more (is_var a v) (copied s b (λ y. Is y x)) (is_var a v) (copied t b (λ y. Is y x)) (λ i. i) (copied_more b (λ y. Is y x)) q
  under_what_is_more a b (Set v) q = q
  under_what_is_more a b (Cell v k) q = q
  under_what_is_more a b (AtLeast v k) q = q
  under_what_is_more a b (AtMost v k) q = q
  under_what_is_more a b (Is v k) q = q
  under_what_is_more a b (Multiple v k) q = q

  is_the_same_more : (a b : Term) → Below (is_the_same g s a b) (is_the_same g t a b)
  is_the_same_more a b (Is v x) q = and_more (is_var a v) (copied s b (λ y. Is y x)) (is_var a v) (copied t b (λ y. Is y x)) (λ i. i) (copied_more b (λ y. Is y x)) q
  is_the_same_more a b (Multiple v m) q = and_more (is_var a v) (is_among m multiples && multiple g s b m) (is_var a v) (is_among m multiples && multiple g t b m) (λ i. i) (and_more (is_among m multiples) (multiple g s b m) (is_among m multiples) (multiple g t b m) (λ i. i) (multiple_more g s t h b m)) q
  is_the_same_more a b (Set v) q = q
  is_the_same_more a b (Cell v k) q = q
  is_the_same_more a b (AtLeast v k) q = q
  is_the_same_more a b (AtMost v k) q = q
  is_the_same_more a b (Under v k) q = q

  less_more : (z : Size) (a b : Term) → Below (less g s z a b) (less g t z a b)
  less_more z a b =
      let n = narrow g s t h z a in let m = narrow g s t h z b in
      let i = interval g s z a in let j = interval g s z b in
      let k = interval g t z a in let l = interval g t z b in
      both_more (at_most g a (j.hi - 1)) (at_least g b (i.lo + 1) and (under g s a b and under_what_is g s a b)) (at_most g a (l.hi - 1)) (at_least g b (k.lo + 1) and (under g t a b and under_what_is g t a b))
      (at_most_more a (j.hi - 1) (l.hi - 1) (omega (arith, m.1)))
      (both_more (at_least g b (i.lo + 1)) (under g s a b and under_what_is g s a b) (at_least g b (k.lo + 1)) (under g t a b and under_what_is g t a b)
      (at_least_more b (i.lo + 1) (k.lo + 1) (omega (arith, n.0)))
      (both_more (under g s a b) (under_what_is g s a b) (under g t a b) (under_what_is g t a b) (under_more a b) (under_what_is_more a b)))

  less_or_same_more : (z : Size) (a b : Term) → Below (less_or_same g s z a b) (less_or_same g t z a b)
  less_or_same_more z a b =
      let n = narrow g s t h z a in let m = narrow g s t h z b in
      let i = interval g s z a in let j = interval g s z b in
      let k = interval g t z a in let l = interval g t z b in
      both_more (at_most g a j.hi) (at_least g b i.lo and under g s a b) (at_most g a l.hi) (at_least g b k.lo and under g t a b)
      (at_most_more a j.hi l.hi m.1)
      (both_more (at_least g b i.lo) (under g s a b) (at_least g b k.lo) (under g t a b) (at_least_more b i.lo k.lo n.0) (under_more a b))

  same_more : (z : Size) (a b : Term) → Below (same g s z a b) (same g t z a b)
  same_more z a b =
      both_more (less_or_same g s z a b and less_or_same g s z b a) (is_the_same g s a b and is_the_same g s b a) (less_or_same g t z a b and less_or_same g t z b a) (is_the_same g t a b and is_the_same g t b a)
      (both_more (less_or_same g s z a b) (less_or_same g s z b a) (less_or_same g t z a b) (less_or_same g t z b a) (less_or_same_more z a b) (less_or_same_more z b a))
      (both_more (is_the_same g s a b) (is_the_same g s b a) (is_the_same g t a b) (is_the_same g t b a) (is_the_same_more a b) (is_the_same_more b a))

  by_true_more : (op : BinOp) (z : Size) (a b : Term) → Below (by_true g op s z a b) (by_true g op t z a b)
  by_true_more o.Lt z a b = less_more z a b
  by_true_more o.Le z a b = less_or_same_more z a b
  by_true_more o.Gt z a b = less_more z b a
  by_true_more o.Ge z a b = less_or_same_more z b a
  by_true_more o.Eq z a b = same_more z a b
  by_true_more o.Ne z a b = λ f q. q
  by_true_more o.OrElse z a b = λ f q. q
  by_true_more o.AndThen z a b = λ f q. q
  by_true_more o.Or z a b = λ f q. q
  by_true_more o.Xor z a b = λ f q. q
  by_true_more o.And z a b = λ f q. q
  by_true_more o.LtS z a b = λ f q. q
  by_true_more o.LeS z a b = λ f q. q
  by_true_more o.GtS z a b = λ f q. q
  by_true_more o.GeS z a b = λ f q. q
  by_true_more o.Shl z a b = λ f q. q
  by_true_more o.Shr z a b = λ f q. q
  by_true_more o.Sar z a b = λ f q. q
  by_true_more o.Rol z a b = λ f q. q
  by_true_more o.Ror z a b = λ f q. q
  by_true_more o.Add z a b = λ f q. q
  by_true_more o.Sub z a b = λ f q. q
  by_true_more o.Mul z a b = λ f q. q
  by_true_more o.Div z a b = λ f q. q
  by_true_more o.Rem z a b = λ f q. q
  by_true_more o.DivS z a b = λ f q. q
  by_true_more o.RemS z a b = λ f q. q

  adds_more : (e : Term) (z : Bool) → Below (adds g s e z) (adds g t e z)
  adds_more (inv a at) z = adds_more a (not z)
  adds_more (bin op a b at) z = by_true_more (if z then op else opposite g op) (size_or_64 (option_or (size_in a) (size_in b))) a b
  adds_more (num i at) z = λ f q. q
  adds_more (truth b at) z = λ f q. q
  adds_more (var x) z = λ f q. q
  adds_more (cell x i) z = λ f q. q
  adds_more (load p a) z = λ f q. q
  adds_more (neg a at) z = λ f q. q
  adds_more (cast y sign a at) z = λ f q. q

  tested_more : (c : Condition) (z : Bool) → Below (tested g c z s) (tested g c z t)
  tested_more c z = both_more s (adds g s (term_of c.cond) z) t (adds g t (term_of c.cond) z) h (adds_more (term_of c.cond) z)

module _ (g : Given) where
  leaves_more : (c : Condition) (a b s t : Facts) → Below a b → Below s t → Below (leaves g c a s) (leaves g c b t)
  leaves_more c a b s t k h = by (term_of c.cond)
    where
      by : (e : Term) → Below (leaving g c e a s) (leaving g c e b t)
      by (truth true at) = k
      by (truth false at) = tested_more g s t h c false
      by (num i at) = tested_more g s t h c false
      by (var x) = tested_more g s t h c false
      by (cell x i) = tested_more g s t h c false
      by (load p i) = tested_more g s t h c false
      by (neg i at) = tested_more g s t h c false
      by (inv i at) = tested_more g s t h c false
      by (cast z sign i at) = tested_more g s t h c false
      by (bin op i j at) = tested_more g s t h c false

  pub monotone : Monotone (fact_steps g)
  monotone = record {
    does = λ o s t h. does_more g s t h o;
    quiets = λ o s t h. quieted_more g s t h o;
    tests = λ c z s t h. tested_more g s t h c z;
    leaves = λ c h k s t a b. leaves_more c h k s t a b;
  }
