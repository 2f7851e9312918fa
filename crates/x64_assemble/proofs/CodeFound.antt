-- What the code finds are the bytes of the lines.
use Rattle.std.proofs.Common.{◌≡◌, ◌≢◌, ℕ, zero, suc, ◌+◌, ◌-◌, ◌^◌, ◌<◌, ◌≤◌, ⊎_elim, true, false, List, [], ◌∷◌, ◌++◌, length, replicate, refl, sym, ap, ◌∙◌, subst, arith, ℤ, pos, ◌-ℤ◌, if◌then◌else◌, ◌==◌, length-append, get_or, drop, append_assoc}
use Rattle.std.specs.Prelude.{slice_index}
use Rattle.std.proofs.lemmas.Bool.Decides.{nat_tests}
use Rattle.std.proofs.lemmas.List.{drop_more, get_or-set_other, get_or-set_same, length-set}
use Rattle.x64_insn.specs.declared.types.Cond.{Cond}
use Rattle.x64_insn.specs.declared.types.Insn.TheVariants as insn
use Rattle.x64_insn.specs.declared.types.Width.TheVariants.{Rel32}
use Rattle.x64_insn.specs.Chosen.{chosen_bytes, is_spelled}
use Rattle.jz_linear.specs.declared.line.Line.{Line}
use Rattle.jz_linear.specs.declared.line.Line.TheVariants as line
use Rattle.jz_linear.specs.LineRuns.{Lacks, Once, place_of}
use Rattle.x64_assemble.specs.Assembling.{Wide, offset_of, insns_from, all_wide, assembled, bytes_of_lines, AllSpelled, Stands, Named, total}
use Rattle.x64_assemble.specs.InnerTables.{bytes_in, grown, marked, marked_by, table_from, IsSpelled, line_code, code_from, IsReady, AreReady}
use Rattle.x64_assemble.proofs.LineSteps.{jcc_long, jmp_long, call_long}
use Rattle.x64_assemble.proofs.Spellable.{near, offset_below}

-- ---- one instruction
pub jcc_spelled : (c : Cond) (t n : ℕ) → t < 2 ^ 31 → n < 2 ^ 31 → is_spelled (insn.Jcc c Rel32 (pos t -ℤ pos n)) ≡ true
unfolding is_spelled
jcc_spelled c t n h k = near t n h k

pub jmp_spelled : (t n : ℕ) → t < 2 ^ 31 → n < 2 ^ 31 → is_spelled (insn.Jmp Rel32 (pos t -ℤ pos n)) ≡ true
unfolding is_spelled
jmp_spelled t n h k = near t n h k

pub call_spelled : (t n : ℕ) → t < 2 ^ 31 → n < 2 ^ 31 → is_spelled (insn.Call (pos t -ℤ pos n)) ≡ true
unfolding is_spelled
call_spelled t n h k = near t n h k

-- ---- the table
zeros_long : (n : ℕ) → length {A = ℕ} (replicate n 0) ≡ n
zeros_long zero = refl
zeros_long (suc n) = ap suc (zeros_long n)

grown_long : (t : List ℕ) (l : ℕ) → l < length (grown t l)
unfolding grown
grown_long t l = let a = length-append t (replicate (suc l - length t) 0) in let b = zeros_long (suc l - length t) in omega (arith, a, b)

grown_longer : (t : List ℕ) (l : ℕ) → length t ≤ length (grown t l)
unfolding grown
grown_longer t l = let a = length-append t (replicate (suc l - length t) 0) in omega (arith, a)

front : (t u : List ℕ) (k : ℕ) → k < length t → slice_index (t ++ u) k ≡ slice_index t k
front [] u k lt = absurd (omega (arith, lt))
front (x ∷ t) u zero lt = refl
front (x ∷ t) u (suc k) lt = front t u k (omega (arith, lt))

grown_same : (t : List ℕ) (l k : ℕ) → k < length t → slice_index (grown t l) k ≡ slice_index t k
unfolding grown
grown_same t l k lt = front t (replicate (suc l - length t) 0) k lt

marked_longer : (t : List ℕ) (l at k : ℕ) → k < length t → k < length (marked t l at)
marked_longer t l at k lt = let a = grown_longer t l in let b = length-set (grown t l) l at in omega (arith, a, b, lt)

other_stays : (ls : List Line) (l at : ℕ) (t : List ℕ) → Lacks ls l → l < length t → slice_index (table_from ls at t) l ≡ slice_index t l
other_stays [] l at t h lt = refl
other_stays (line.Label k ∷ ls) l at t h lt =
    other_stays ls l (at + bytes_in (line.Label k)) (marked t k at) h.1 (marked_longer t k at l lt) ∙ get_or-set_other (grown t k) k l at 0 (λ e. h.0 (sym e)) ∙ grown_same t k l lt
other_stays (line.Insn i ∷ ls) l at t h lt = other_stays ls l (at + bytes_in (line.Insn i)) t h lt
other_stays (line.Jcc c k ∷ ls) l at t h lt = other_stays ls l (at + bytes_in (line.Jcc c k)) t h lt
other_stays (line.Jmp k ∷ ls) l at t h lt = other_stays ls l (at + bytes_in (line.Jmp k)) t h lt
other_stays (line.Call k ∷ ls) l at t h lt = other_stays ls l (at + bytes_in (line.Call k)) t h lt

lacked : (ls : List Line) (k l : ℕ) → Lacks ls k → Stands ls l → k ≢ l
lacked [] k l h s e = s
lacked (line.Label m ∷ ls) k l h s e = ⊎_elim (λ q. h.0 (q ∙ sym e)) (λ r. lacked ls k l h.1 r e) s
lacked (line.Insn i ∷ ls) k l h s e = lacked ls k l h s e
lacked (line.Jcc c m ∷ ls) k l h s e = lacked ls k l h s e
lacked (line.Jmp m ∷ ls) k l h s e = lacked ls k l h s e
lacked (line.Call m ∷ ls) k l h s e = lacked ls k l h s e

abbrev offset : List Line → ℕ → ℕ
offset ls l = offset_of (all_wide ls) (place_of ls l)

no_offset : (ws : List Wide) → offset_of ws 0 ≡ 0
no_offset [] = refl
no_offset (w ∷ ws) = refl

one_on : (w : Wide) (ws : List Wide) (p : ℕ) → offset_of (w ∷ ws) (1 + p) ≡ offset_of (w ∷ ws) (suc p)
one_on w ws p = let e : 1 + p ≡ suc p = omega arith in ap (offset_of (w ∷ ws)) e

offset_there : (ls : List Line) (k l : ℕ) → k ≡ l → offset (line.Label k ∷ ls) l ≡ 0
offset_there ls k l e = let b : (k == l) ≡ true = grind (arith, nat_tests, e) in ap (λ z. offset_of (all_wide ls) (if z then 0 else place_of ls l)) b ∙ no_offset (all_wide ls)

offset_past : (ls : List Line) (k l : ℕ) → k ≢ l → offset (line.Label k ∷ ls) l ≡ offset ls l
offset_past ls k l ne = let b : (k == l) ≡ false = grind (arith, nat_tests, ne) in ap (λ z. offset_of (all_wide ls) (if z then 0 else place_of ls l)) b

-- the table has the offset of each label that stands once
pub found : (ls : List Line) (l at : ℕ) (t : List ℕ) → Once ls → Stands ls l → slice_index (table_from ls at t) l ≡ at + offset ls l
found [] l at t o s = absurd s
found (line.Label k ∷ ls) l at t o s =
    ⊎_elim
    (λ e.
    let long : l < length (marked t k at) = let g = grown_long t k in let b = length-set (grown t k) k at in omega (arith, g, b, e) in
    let lacks : Lacks ls l = subst (Lacks ls) e o.0 in
    let same : slice_index (marked t k at) l ≡ at = subst (λ j. slice_index (marked t k at) j ≡ at) e (get_or-set_same (grown t k) k at 0 (grown_long t k)) in
    let zero_there = offset_there ls k l e in
    other_stays ls l (at + bytes_in (line.Label k)) (marked t k at) lacks long ∙ same ∙ omega (arith, zero_there))
    (λ r. let past = offset_past ls k l (lacked ls k l o.0 r) in found ls l (at + bytes_in (line.Label k)) (marked t k at) o.1 r ∙ omega (arith, past)) s
found (line.Insn i ∷ ls) l at t o s =
    let next = one_on (record { line = line.Insn i; width = Rel32 }) (all_wide ls) (place_of ls l) in
    found ls l (at + bytes_in (line.Insn i)) t o s ∙ omega (arith, next)
found (line.Jcc c k ∷ ls) l at t o s =
    let next = one_on (record { line = line.Jcc c k; width = Rel32 }) (all_wide ls) (place_of ls l) in
    found ls l (at + bytes_in (line.Jcc c k)) t o s ∙ omega (arith, next)
found (line.Jmp k ∷ ls) l at t o s =
    let next = one_on (record { line = line.Jmp k; width = Rel32 }) (all_wide ls) (place_of ls l) in
    found ls l (at + bytes_in (line.Jmp k)) t o s ∙ omega (arith, next)
found (line.Call k ∷ ls) l at t o s =
    let next = one_on (record { line = line.Call k; width = Rel32 }) (all_wide ls) (place_of ls l) in
    found ls l (at + bytes_in (line.Call k)) t o s ∙ omega (arith, next)

-- ---- the bytes
module _ (t : List ℕ) (target : ℕ → ℕ) (all : List Line) (is : (l : ℕ) → Stands all l → slice_index t l ≡ target l) where
  abbrev here : ℕ → List Line → List ℕ
  here at ls = assembled (insns_from target at (all_wide ls))

  lines_bytes : (ls : List Line) (at : ℕ) → Named all ls → code_from t at ls ≡ here at ls
  lines_bytes [] at n = refl
  lines_bytes (line.Label l ∷ ls) at n = let e : at + bytes_in (line.Label l) ≡ at = omega arith in ap (λ x. code_from t x ls) e ∙ lines_bytes ls at n
  lines_bytes (line.Insn i ∷ ls) at n = ap (λ bs. chosen_bytes i ++ bs) (lines_bytes ls (at + bytes_in (line.Insn i)) n)
  lines_bytes (line.Jcc c l ∷ ls) at n =
      ap (λ x. chosen_bytes (insn.Jcc c Rel32 (pos x -ℤ pos (at + 6))) ++ code_from t (at + 6) ls) (is l n.0)
      ∙ ap (λ bs. chosen_bytes (insn.Jcc c Rel32 (pos (target l) -ℤ pos (at + 6))) ++ bs) (lines_bytes ls (at + 6) n.1)
  lines_bytes (line.Jmp l ∷ ls) at n =
      ap (λ x. chosen_bytes (insn.Jmp Rel32 (pos x -ℤ pos (at + 5))) ++ code_from t (at + 5) ls) (is l n.0)
      ∙ ap (λ bs. chosen_bytes (insn.Jmp Rel32 (pos (target l) -ℤ pos (at + 5))) ++ bs) (lines_bytes ls (at + 5) n.1)
  lines_bytes (line.Call l ∷ ls) at n =
      ap (λ x. chosen_bytes (insn.Call (pos x -ℤ pos (at + 5))) ++ code_from t (at + 5) ls) (is l n.0)
      ∙ ap (λ bs. chosen_bytes (insn.Call (pos (target l) -ℤ pos (at + 5))) ++ bs) (lines_bytes ls (at + 5) n.1)

found_first : (ls : List Line) (l : ℕ) → Once ls → Stands ls l → slice_index (table_from ls 0 []) l ≡ offset ls l
found_first ls l o s = found ls l 0 [] o s ∙ omega arith

pub code_is : (ls : List Line) → Once ls → Named ls ls → code_from (table_from ls 0 []) 0 ls ≡ bytes_of_lines ls
code_is ls o n = lines_bytes (table_from ls 0 []) (offset ls) ls (λ l s. found_first ls l o s) ls 0 n

-- ---- spellings at their offsets
lines_ready : (t : List ℕ) (all : List Line) → ((l : ℕ) → Stands all l → slice_index t l < 2 ^ 31) → (ls : List Line) (at : ℕ) → Named all ls → AllSpelled ls → at + total ls < 2 ^ 31 → AreReady t at ls
lines_ready t all below [] at n a lt = tt
lines_ready t all below (line.Label l ∷ ls) at n a lt = (tt, lines_ready t all below ls (at + bytes_in (line.Label l)) n a (omega (arith, lt)))
lines_ready t all below (line.Insn i ∷ ls) at n a lt = (a.0, lines_ready t all below ls (at + bytes_in (line.Insn i)) n a.1 (omega (arith, lt)))
lines_ready t all below (line.Jcc c l ∷ ls) at n a lt = ((below l n.0, omega (arith, lt)), lines_ready t all below ls (at + 6) n.1 a (omega (arith, lt)))
lines_ready t all below (line.Jmp l ∷ ls) at n a lt = ((below l n.0, omega (arith, lt)), lines_ready t all below ls (at + 5) n.1 a (omega (arith, lt)))
lines_ready t all below (line.Call l ∷ ls) at n a lt = ((below l n.0, omega (arith, lt)), lines_ready t all below ls (at + 5) n.1 a (omega (arith, lt)))

pub are_ready : (ls : List Line) → Once ls → Named ls ls → AllSpelled ls → total ls < 2 ^ 31 → AreReady (table_from ls 0 []) 0 ls
are_ready ls o n a lt =
    lines_ready (table_from ls 0 []) ls (λ l s. let e = found_first ls l o s in let h = offset_below (all_wide ls) (place_of ls l) in omega (arith, e, h, lt)) ls 0 n a (omega (arith, lt))

-- ---- one line on
pub total_more : (x : Line) (ls : List Line) → total (x ∷ ls) ≡ bytes_in x + total ls
total_more (line.Label l) ls = omega arith
total_more (line.Insn i) ls = omega arith
total_more (line.Jcc c l) ls = omega arith
total_more (line.Jmp l) ls = omega arith
total_more (line.Call l) ls = omega arith

spelled_here : (x : Line) (ls : List Line) → AllSpelled (x ∷ ls) → IsSpelled x × AllSpelled ls
spelled_here (line.Label l) ls h = (tt, h)
spelled_here (line.Insn i) ls h = h
spelled_here (line.Jcc c l) ls h = (tt, h)
spelled_here (line.Jmp l) ls h = (tt, h)
spelled_here (line.Call l) ls h = (tt, h)

line_long : (t : List ℕ) (x : Line) (next : ℕ) → length (line_code t x next) ≡ bytes_in x
line_long t (line.Insn i) next = refl
line_long t (line.Label l) next = refl
line_long t (line.Jcc c l) next = jcc_long c Rel32 (pos (slice_index t l) -ℤ pos next) l
line_long t (line.Jmp l) next = jmp_long Rel32 (pos (slice_index t l) -ℤ pos next) l
line_long t (line.Call l) next = call_long Rel32 (pos (slice_index t l) -ℤ pos next) l

-- what is left of the lines makes the whole table
abbrev pub IsTabled : (ls : List Line) (k at : ℕ) (table : List ℕ) → Type 0
IsTabled ls k at table =
    (table_from (drop k ls) at table ≡ table_from ls 0 []) × AllSpelled (drop k ls) × (at + total (drop k ls) < 2 ^ 31) × (at + total (drop k ls) ≡ total ls)

-- and all bytes
abbrev pub ArePut : (table : List ℕ) (ls : List Line) (k : ℕ) (bytes : List ℕ) → Type 0
ArePut table ls k bytes = (bytes ++ code_from table (length bytes) (drop k ls) ≡ code_from table 0 ls) × AreReady table (length bytes) (drop k ls)

module _ (ls : List Line) (k : ℕ) (x : Line) (lt : k < length ls) (is : x ≡ get_or ls k x) where
  one_off : drop k ls ≡ x ∷ drop (k + 1) ls
  one_off = drop_more ls k x lt ∙ ap (λ y. y ∷ drop (k + 1) ls) (sym is)

  pub tabled_here : (at : ℕ) (table : List ℕ) → IsTabled ls k at table → IsSpelled x × (at + bytes_in x < 2 ^ 31)
  tabled_here at table h =
      let e = ap total one_off ∙ total_more x (drop (k + 1) ls) in
      ((spelled_here x (drop (k + 1) ls) (subst AllSpelled one_off h.1)).0, omega (arith, e, h.2))

  pub tabled_on : (at : ℕ) (old new : List ℕ) → IsTabled ls k at old → new ≡ marked_by x at old → IsTabled ls (k + 1) (at + bytes_in x) new
  tabled_on at old new h e =
      let t = ap total one_off ∙ total_more x (drop (k + 1) ls) in (
        ap (λ y. table_from (drop (k + 1) ls) (at + bytes_in x) y) e ∙ ap (λ y. table_from y at old) (sym one_off) ∙ h.0,
        (spelled_here x (drop (k + 1) ls) (subst AllSpelled one_off h.1)).1,
        omega (arith, t, h.2),
        omega (arith, t, h.3),
      )

  pub put_here : (table bytes : List ℕ) → ArePut table ls k bytes → IsReady table (length bytes) x
  put_here table bytes h = (subst (AreReady table (length bytes)) one_off h.1).0

  pub put_on : (table old new : List ℕ) → ArePut table ls k old → new ≡ old ++ line_code table x (length old + bytes_in x) → ArePut table ls (k + 1) new
  put_on table old new h e =
      let code = line_code table x (length old + bytes_in x) in
      let long : length new ≡ length old + bytes_in x = ap length e ∙ length-append old code ∙ ap (λ n. length old + n) (line_long table x (length old + bytes_in x)) in (
        ap (λ y. new ++ code_from table y (drop (k + 1) ls)) long ∙ ap (λ y. y ++ code_from table (length old + bytes_in x) (drop (k + 1) ls)) e
            ∙ append_assoc old code (code_from table (length old + bytes_in x) (drop (k + 1) ls)) ∙ ap (λ y. old ++ code_from table (length old) y) (sym one_off) ∙ h.0,
        subst (λ n. AreReady table n (drop (k + 1) ls)) (sym long) (subst (AreReady table (length old)) one_off h.1).1,
      )

-- ---- jumps
pub jcc_ready : (t : List ℕ) (at : ℕ) (x : Line) (c : Cond) (l target next : ℕ) (d : ℤ) → x ≡ line.Jcc c l → IsReady t at x → target ≡ slice_index t l → next ≡ at + 6 → d ≡ pos target -ℤ pos next → is_spelled (insn.Jcc c Rel32 d) ≡ true
jcc_ready t at x c l target next d is ready a b e =
    let r = subst (IsReady t at) is ready in
    ap (λ y. is_spelled (insn.Jcc c Rel32 y)) e ∙ jcc_spelled c target next (omega (arith, a, r.0)) (omega (arith, b, r.1))

pub jmp_ready : (t : List ℕ) (at : ℕ) (x : Line) (l target next : ℕ) (d : ℤ) → x ≡ line.Jmp l → IsReady t at x → target ≡ slice_index t l → next ≡ at + 5 → d ≡ pos target -ℤ pos next → is_spelled (insn.Jmp Rel32 d) ≡ true
jmp_ready t at x l target next d is ready a b e =
    let r = subst (IsReady t at) is ready in
    ap (λ y. is_spelled (insn.Jmp Rel32 y)) e ∙ jmp_spelled target next (omega (arith, a, r.0)) (omega (arith, b, r.1))

pub call_ready : (t : List ℕ) (at : ℕ) (x : Line) (l target next : ℕ) (d : ℤ) → x ≡ line.Call l → IsReady t at x → target ≡ slice_index t l → next ≡ at + 5 → d ≡ pos target -ℤ pos next → is_spelled (insn.Call d) ≡ true
call_ready t at x l target next d is ready a b e =
    let r = subst (IsReady t at) is ready in
    ap (λ y. is_spelled (insn.Call y)) e ∙ call_spelled target next (omega (arith, a, r.0)) (omega (arith, b, r.1))

-- ---- the whole
module _ (ls ms : List Line) (t u : List ℕ) (o : Once ls) (n : Named ls ls) (e : ms ≡ ls) (f : u ≡ table_from ms 0 []) (g : t ≡ u) where
  same_table : t ≡ table_from ls 0 []
  same_table = g ∙ f ∙ ap (λ x. table_from x 0 []) e

  pub ready_as : AllSpelled ls → total ls < 2 ^ 31 → AreReady t 0 ms
  ready_as a lt = subst (λ x. AreReady t 0 x) (sym e) (subst (λ x. AreReady x 0 ls) (sym same_table) (are_ready ls o n a lt))

  pub bytes_as : (b r : List ℕ) → b ≡ code_from t 0 ms → r ≡ b → r ≡ bytes_of_lines ls
  bytes_as b r h k = k ∙ h ∙ ap (λ x. code_from t 0 x) e ∙ ap (λ x. code_from x 0 ls) same_table ∙ code_is ls o n
