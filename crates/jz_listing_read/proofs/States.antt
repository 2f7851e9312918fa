-- Lines one after another: what is known behind them is what they say.
use Rattle.std.proofs.Common.{◌≡◌, ℕ, ◌<◌, ◌^◌, Bool, true, ◌&&◌, List, [], ◌∷◌, ◌++◌, Option, Some, None, refl, sym, ap, ◌∙◌, subst, append_assoc, append-nil, if◌then◌else◌, arith}
use Rattle.std.specs.Prelude.{map, codes, decimal, All}
use Rattle.std.specs.List.{concat}
use Rattle.std.proofs.lemmas.Bool.{and_parts}
use Rattle.std.proofs.lemmas.List.Elements.{All-nil, All-cons, All-head, All-tail, All-push, All-append}
use Rattle.hex.specs.Hex.{encode_lower}
use Rattle.jz_lex.specs.Identifiers.{IsIdentifier}
use Rattle.jz_lex.proofs.LexingWords.{by_cases, if_true, if_false}
use Rattle.jz_text.specs.Texts.{reg_text}
use Rattle.jz_listing.specs.declared.compiled.Arg.{Arg}
use Rattle.jz_listing.specs.declared.compiled.Pre.{Pre}
use Rattle.jz_listing.specs.declared.compiled.Compiled.{Compiled}
use Rattle.jz_listing.specs.Listing.{size_text, arg_line, ret_line, pre_text, pre_line, saved_text, ct_text, interface_text, frame_text, code_text, leakage_text, compiled_text, listing_text}
use Rattle.jz_leak.specs.declared.transformer.Case.TheFolds.{fold-roll-Tr}
use Rattle.jz_listing.specs.Listable.{case_layer_fits, tr_layer_fits}
use Rattle.jz_listing.specs.Transformers.{transformer_text}
use Rattle.jz_listing_lines.specs.declared.line.Line.{Line}
use Rattle.jz_listing_lines.specs.declared.line.Line.TheVariants as line
use Rattle.jz_listing_lines.specs.Lines.{held_text, line_text, IsLine, IsPreLine}
use Rattle.jz_listing_read.specs.Reading.{IsNamed, IsListed, ended, lines_text}
use Rattle.jz_listing_read.specs.declared.state.Stage.{Stage}
use Rattle.jz_listing_read.specs.declared.state.Stage.TheVariants as stage
use Rattle.jz_listing_read.specs.declared.state.State.{State}
use Rattle.jz_listing_read.specs.InnerStates.{blank, at, start, is_none, outside_at, with_arg, with_ret, interface, machine, whole, verdict_at, take_at, take}

-- ---- the lines of a listing
abbrev pub last_lines : Compiled → List Line
last_lines c =
    line.Frame c.frame ∷ line.Saved c.saved ∷ line.Insns c.insns ∷ line.Code c.code ∷ line.Leakage c.tr ∷ line.Ct c.ct ∷ line.End ∷ []

abbrev pub head_lines : Compiled → List Line
head_lines c = line.Fn c.name ∷ (map line.Arg c.args ++ (map line.Ret c.rets ++ map line.Pre c.pre))

abbrev pub fun_lines : Compiled → List Line
fun_lines c = head_lines c ++ last_lines c

abbrev pub all_lines : List Compiled → List Line
all_lines [] = []
all_lines (c ∷ cs) = fun_lines c ++ all_lines cs

abbrev pub listing_lines : List Compiled → List Line
listing_lines cs = line.First ∷ all_lines cs

abbrev pub texts_of : List Line → List (List ℕ)
texts_of ls = map line_text ls

abbrev pub text_of : List Line → List ℕ
text_of ls = lines_text (texts_of ls)

pub text_both : (ls ms : List Line) → text_of (ls ++ ms) ≡ text_of ls ++ text_of ms
text_both [] ms = refl
text_both (l ∷ ls) ms = ap (λ z. ended (line_text l) ++ z) (text_both ls ms) ∙ sym (append_assoc (ended (line_text l)) (text_of ls) (text_of ms))

arg_is : (a : Arg) → ended (codes "arg " ++ held_text a) ≡ arg_line a
arg_is a = shape (codes "arg ") a.name (codes " ") (size_text a.size) (reg_text a.reg) (codes "\n")
  where
    shape : (w n s z r e : List ℕ) → (w ++ (n ++ (s ++ (z ++ (s ++ r))))) ++ e ≡ w ++ (n ++ s ++ z ++ s ++ r ++ e)
    shape w n s z r e = simp append_assoc refl

ret_is : (a : Arg) → ended (codes "ret " ++ held_text a) ≡ ret_line a
ret_is a = shape (codes "ret ") a.name (codes " ") (size_text a.size) (reg_text a.reg) (codes "\n")
  where
    shape : (w n s z r e : List ℕ) → (w ++ (n ++ (s ++ (z ++ (s ++ r))))) ++ e ≡ w ++ (n ++ s ++ z ++ s ++ r ++ e)
    shape w n s z r e = simp append_assoc refl

args_are : (xs : List Arg) → text_of (map line.Arg xs) ≡ concat (map arg_line xs)
args_are [] = refl
args_are (a ∷ xs) = (λ i. arg_is a i ++ args_are xs i)

rets_are : (xs : List Arg) → text_of (map line.Ret xs) ≡ concat (map ret_line xs)
rets_are [] = refl
rets_are (a ∷ xs) = (λ i. ret_is a i ++ rets_are xs i)

pres_are : (xs : List Pre) → text_of (map line.Pre xs) ≡ concat (map pre_line xs)
pres_are [] = refl
pres_are (p ∷ xs) = (λ i. append_assoc (codes "pre ") (pre_text p) (codes "\n") i ++ pres_are xs i)

head_is : (c : Compiled) → text_of (head_lines c) ≡ interface_text c
head_is c =
    ap (λ z. ended (codes "fn " ++ c.name) ++ z) (text_both (map line.Arg c.args) (map line.Ret c.rets ++ map line.Pre c.pre) ∙ ap (λ z. text_of (map line.Arg c.args) ++ z) (text_both (map line.Ret c.rets) (map line.Pre c.pre)))
    ∙ (λ i. ended (codes "fn " ++ c.name) ++ (args_are c.args i ++ (rets_are c.rets i ++ pres_are c.pre i)))
    ∙ shape (codes "fn ") c.name (codes "\n") (concat (map arg_line c.args)) (concat (map ret_line c.rets)) (concat (map pre_line c.pre))
  where
    shape : (f n e a r p : List ℕ) → ((f ++ n) ++ e) ++ (a ++ (r ++ p)) ≡ f ++ n ++ e ++ a ++ r ++ p
    shape f n e a r p = sym (simp append_assoc refl)

last_is : (c : Compiled) → text_of (last_lines c) ≡ frame_text c ++ (code_text c ++ leakage_text c)
last_is c =
    shape (codes "frame ") (decimal c.frame) (codes "\n") (codes "saved") (saved_text c.saved) (codes "insns ") (decimal c.insns) (codes "code ") (encode_lower c.code) (codes "tr ") (transformer_text c.tr) (codes "ct ") (ct_text c.ct) (codes "end")
  where
    shape : (a b n s c i d k e t f v g z : List ℕ)
        → ((a ++ b) ++ n) ++ (((s ++ c) ++ n) ++ (((i ++ d) ++ n) ++ (((k ++ e) ++ n) ++ (((t ++ f) ++ n) ++ (((v ++ g) ++ n) ++ ((z ++ n) ++ []))))))
        ≡ (a ++ b ++ (n ++ s) ++ c ++ n) ++ ((i ++ d ++ (n ++ k) ++ e ++ n) ++ (t ++ f ++ (n ++ v) ++ g ++ (n ++ (z ++ n))))
    shape a b n s c i d k e t f v g z = ap (λ y. ((a ++ b) ++ n) ++ (((s ++ c) ++ n) ++ (((i ++ d) ++ n) ++ (((k ++ e) ++ n) ++ (((t ++ f) ++ n) ++ (((v ++ g) ++ n) ++ y)))))) (append-nil (z ++ n)) ∙ joined a b n s c i d k e t f v g z
      where
        joined : (a b n s c i d k e t f v g z : List ℕ)
            → ((a ++ b) ++ n) ++ (((s ++ c) ++ n) ++ (((i ++ d) ++ n) ++ (((k ++ e) ++ n) ++ (((t ++ f) ++ n) ++ (((v ++ g) ++ n) ++ (z ++ n))))))
            ≡ (a ++ b ++ (n ++ s) ++ c ++ n) ++ ((i ++ d ++ (n ++ k) ++ e ++ n) ++ (t ++ f ++ (n ++ v) ++ g ++ (n ++ (z ++ n))))
        joined a b n s c i d k e t f v g z = simp append_assoc refl

fun_is : (c : Compiled) → text_of (fun_lines c) ≡ compiled_text c
fun_is c =
    text_both (head_lines c) (last_lines c) ∙ (λ i. head_is c i ++ last_is c i) ∙ shape (interface_text c) (frame_text c) (code_text c) (leakage_text c)
  where
    shape : (a b c d : List ℕ) → a ++ (b ++ (c ++ d)) ≡ a ++ b ++ c ++ d
    shape a b c d = sym (simp append_assoc refl)

funs_are : (cs : List Compiled) → text_of (all_lines cs) ≡ concat (map compiled_text cs)
funs_are [] = refl
funs_are (c ∷ cs) = text_both (fun_lines c) (all_lines cs) ∙ (λ i. fun_is c i ++ funs_are cs i)

pub listing_is : (cs : List Compiled) → text_of (listing_lines cs) ≡ listing_text cs
listing_is cs = ap (λ z. codes "jasmin-listing 1\n" ++ z) (funs_are cs)

-- ---- lines that are read
abbrev pub and_then : Option State → (State → Option State) → Option State
and_then None f = None
and_then (Some s) f = f s

abbrev pub run : State → List Line → Option State
run s [] = Some s
run s (l ∷ ls) = and_then (take s l) (λ t. run t ls)

run_step : (o : Option State) (ls ms : List Line) → ((t : State) → run t (ls ++ ms) ≡ and_then (run t ls) (λ u. run u ms))
    → and_then o (λ t. run t (ls ++ ms)) ≡ and_then (and_then o (λ t. run t ls)) (λ t. run t ms)
run_step None ls ms h = refl
run_step (Some t) ls ms h = h t

pub run_both : (s : State) (ls ms : List Line) → run s (ls ++ ms) ≡ and_then (run s ls) (λ t. run t ms)
run_both s [] ms = refl
run_both s (l ∷ ls) ms = run_step (take s l) ls ms (λ t. run_both t ls ms)

-- ---- each listing is read
run_args : (xs : List Arg) (done : List Compiled) (c : Compiled) (ls : List Line) → c.rets ≡ [] → c.pre ≡ []
    → run (at stage.Interface done c) (map line.Arg xs ++ ls) ≡ run (at stage.Interface done (record c { args = c.args ++ xs })) ls
unfolding take interface with_arg
run_args [] done c ls h k = ap (λ z. run (at stage.Interface done (record c { args = z })) ls) (sym (append-nil c.args))
run_args (a ∷ xs) done c ls h k =
    ap (λ o. and_then o (λ t. run t (map line.Arg xs ++ ls)))
    (ap (λ (b : Bool). if b then Some (at stage.Interface done (record c { args = c.args ++ a ∷ [] })) else None) (λ i. is_none (h i) && is_none (k i)))
    ∙ run_args xs done (record c { args = c.args ++ a ∷ [] }) ls h k
    ∙ ap (λ z. run (at stage.Interface done (record c { args = z })) ls) (append_assoc c.args (a ∷ []) xs)

run_rets : (xs : List Arg) (done : List Compiled) (c : Compiled) (ls : List Line) → c.pre ≡ []
    → run (at stage.Interface done c) (map line.Ret xs ++ ls) ≡ run (at stage.Interface done (record c { rets = c.rets ++ xs })) ls
unfolding take interface with_ret
run_rets [] done c ls k = ap (λ z. run (at stage.Interface done (record c { rets = z })) ls) (sym (append-nil c.rets))
run_rets (a ∷ xs) done c ls k =
    ap (λ o. and_then o (λ t. run t (map line.Ret xs ++ ls)))
    (ap (λ (b : Bool). if b then Some (at stage.Interface done (record c { rets = c.rets ++ a ∷ [] })) else None) (ap is_none k))
    ∙ run_rets xs done (record c { rets = c.rets ++ a ∷ [] }) ls k
    ∙ ap (λ z. run (at stage.Interface done (record c { rets = z })) ls) (append_assoc c.rets (a ∷ []) xs)

run_pres : (xs : List Pre) (done : List Compiled) (c : Compiled) (ls : List Line)
    → run (at stage.Interface done c) (map line.Pre xs ++ ls) ≡ run (at stage.Interface done (record c { pre = c.pre ++ xs })) ls
unfolding take interface
run_pres [] done c ls = ap (λ z. run (at stage.Interface done (record c { pre = z })) ls) (sym (append-nil c.pre))
run_pres (p ∷ xs) done c ls =
    run_pres xs done (record c { pre = c.pre ++ p ∷ [] }) ls ∙ ap (λ z. run (at stage.Interface done (record c { pre = z })) ls) (append_assoc c.pre (p ∷ []) xs)

run_last : (done : List Compiled) (f c : Compiled) → f.name ≡ c.name → f.args ≡ c.args → f.rets ≡ c.rets → f.pre ≡ c.pre → run (at stage.Interface done f) (last_lines c) ≡ Some (at stage.Outside (done ++ c ∷ []) (blank []))
unfolding take interface machine verdict_at
run_last done f c n a r p =
    λ i. Some (at stage.Outside (done ++ record { name = n i; args = a i; rets = r i; pre = p i; frame = c.frame; saved = c.saved; insns = c.insns; code = c.code; tr = c.tr; ct = c.ct } ∷ []) (blank []))

run_fun : (done : List Compiled) (old c : Compiled) → run (at stage.Outside done old) (fun_lines c) ≡ Some (at stage.Outside (done ++ c ∷ []) (blank []))
unfolding take outside_at
run_fun done old c =
    let rets = map line.Ret c.rets in
    let pres = map line.Pre c.pre in
    let named = blank c.name in
    let shape : (map line.Arg c.args ++ (rets ++ pres)) ++ last_lines c ≡ map line.Arg c.args ++ (rets ++ (pres ++ last_lines c)) =
    append_assoc (map line.Arg c.args) (rets ++ pres) (last_lines c) ∙ ap (λ z. map line.Arg c.args ++ z) (append_assoc rets pres (last_lines c)) in
    ap (run (at stage.Interface done named)) shape
    ∙ run_args c.args done named (rets ++ (pres ++ last_lines c)) refl refl
    ∙ run_rets c.rets done (record named { args = c.args }) (pres ++ last_lines c) refl
    ∙ run_pres c.pre done (record named { args = c.args; rets = c.rets }) (last_lines c)
    ∙ run_last done (record named { args = c.args; rets = c.rets; pre = c.pre }) c refl refl refl refl

run_funs : (done : List Compiled) (old : Compiled) (cs : List Compiled) → (f : Compiled) × (run (at stage.Outside done old) (all_lines cs) ≡ Some (at stage.Outside (done ++ cs) f))
run_funs done old [] = (old, ap (λ z. Some (at stage.Outside z old)) (sym (append-nil done)))
run_funs done old (c ∷ cs) =
    let i = run_funs (done ++ c ∷ []) (blank []) cs in (
      i.0,
      run_both (at stage.Outside done old) (fun_lines c) (all_lines cs)
          ∙ ap (λ o. and_then o (λ t. run t (all_lines cs))) (run_fun done old c) ∙ i.1
          ∙ ap (λ z. Some (at stage.Outside z i.0)) (append_assoc done (c ∷ []) cs),
    )

pub run_listing : (cs : List Compiled) → (f : Compiled) × (run start (listing_lines cs) ≡ Some (at stage.Outside cs f))
unfolding take outside_at
run_listing cs = run_funs [] (blank []) cs

-- ---- what is known is what the lines say
-- the lines behind those that were read, if what is not known is none, 0 or yes
abbrev pub lines_left : Stage → Compiled → List Line
lines_left stage.First c = line.First ∷ []
lines_left stage.Outside c = []
lines_left stage.Interface c = last_lines c
lines_left stage.Saved c = line.Saved c.saved ∷ line.Insns c.insns ∷ line.Code c.code ∷ line.Leakage c.tr ∷ line.Ct c.ct ∷ line.End ∷ []
lines_left stage.Insns c = line.Insns c.insns ∷ line.Code c.code ∷ line.Leakage c.tr ∷ line.Ct c.ct ∷ line.End ∷ []
lines_left stage.Code c = line.Code c.code ∷ line.Leakage c.tr ∷ line.Ct c.ct ∷ line.End ∷ []
lines_left stage.Leakage c = line.Leakage c.tr ∷ line.Ct c.ct ∷ line.End ∷ []
lines_left stage.Ct c = line.Ct c.ct ∷ line.End ∷ []
lines_left stage.End c = line.End ∷ []

-- the lines that were read
abbrev pub lines_read : Stage → List Compiled → Compiled → List Line
lines_read stage.First done c = []
lines_read stage.Outside done c = listing_lines done
lines_read stage.Interface done c = listing_lines done ++ head_lines c
lines_read stage.Saved done c = listing_lines done ++ (head_lines c ++ line.Frame c.frame ∷ [])
lines_read stage.Insns done c = listing_lines done ++ (head_lines c ++ line.Frame c.frame ∷ line.Saved c.saved ∷ [])
lines_read stage.Code done c = listing_lines done ++ (head_lines c ++ line.Frame c.frame ∷ line.Saved c.saved ∷ line.Insns c.insns ∷ [])
lines_read stage.Leakage done c = listing_lines done ++ (head_lines c ++ line.Frame c.frame ∷ line.Saved c.saved ∷ line.Insns c.insns ∷ line.Code c.code ∷ [])
lines_read stage.Ct done c = listing_lines done ++ (head_lines c ++ line.Frame c.frame ∷ line.Saved c.saved ∷ line.Insns c.insns ∷ line.Code c.code ∷ line.Leakage c.tr ∷ [])
lines_read stage.End done c =
    listing_lines done ++ (head_lines c ++ line.Frame c.frame ∷ line.Saved c.saved ∷ line.Insns c.insns ∷ line.Code c.code ∷ line.Leakage c.tr ∷ line.Ct c.ct ∷ [])

-- the functions that the listing has, then
abbrev pub all_of : Stage → List Compiled → Compiled → List Compiled
all_of stage.First done c = done
all_of stage.Outside done c = done
all_of other done c = done ++ c ∷ []

-- that what is known is listed
abbrev pub Fits : Stage → List Compiled → Compiled → Type 0
Fits stage.First done c = done ≡ []
Fits stage.Outside done c = All IsListed done
Fits other done c = All IsListed done × IsListed c

-- ---- one line more
abbrev pub Kept : Stage → List Compiled → Compiled → Line → State → Type 0
Kept s done c l t = (lines_read t.stage t.done t.fun ≡ lines_read s done c ++ l ∷ []) × Fits t.stage t.done t.fun

pub some_same : (s t : State) → ◌≡◌ {A = Option State} (Some s) (Some t) → s ≡ t
some_same s t e = ap (λ (o : Option State). got o) e
  where
    got : Option State → State
    got None = s
    got (Some x) = x

pub none_some : (t : State) (P : Type 0) → ◌≡◌ {A = Option State} None (Some t) → P
none_some t P e = absurd (let no : ⊥ = cc in no)

keeps : (s : Stage) (done : List Compiled) (c : Compiled) (l : Line) (m t : State) → ◌≡◌ {A = Option State} (Some m) (Some t) → Kept s done c l m → Kept s done c l t
keeps s done c l m t e k = let Is : State → Type 0 = λ z. Kept s done c l z in subst Is (some_same m t e) k

none_is : {A : Type 0} (xs : List A) → is_none xs ≡ true → xs ≡ []
none_is [] h = refl
none_is (x ∷ xs) h = absurd (let no : ⊥ = cc in no)

one_behind : (ls ms : List Line) (l : Line) → (ls ++ ms) ++ l ∷ [] ≡ ls ++ (ms ++ l ∷ [])
one_behind ls ms l = append_assoc ls ms (l ∷ [])

map_push : {A : Type 0} (f : A → Line) (xs : List A) (x : A) → map f (xs ++ x ∷ []) ≡ map f xs ++ f x ∷ []
map_push f [] x = refl
map_push f (y ∷ ys) x = ap (λ z. f y ∷ z) (map_push f ys x)

lines_push : (xs : List Compiled) (x : Compiled) → all_lines (xs ++ x ∷ []) ≡ all_lines xs ++ fun_lines x
lines_push [] x = append-nil (fun_lines x)
lines_push (y ∷ ys) x = ap (λ z. fun_lines y ++ z) (lines_push ys x) ∙ sym (append_assoc (fun_lines y) (all_lines ys) (fun_lines x))

listing_push : (done : List Compiled) (c : Compiled) → listing_lines (done ++ c ∷ []) ≡ listing_lines done ++ fun_lines c
listing_push done c = ap (λ z. line.First ∷ z) (lines_push done c)

blank_listed : (n : List ℕ) → IsIdentifier n → IsListed (blank n)
blank_listed n h = record {
  name = h;
  args = All-nil IsNamed;
  rets = All-nil IsNamed;
  pre = All-nil IsPreLine;
  frame = omega arith;
  insns = omega arith;
  code = All-nil (λ b. b < 256);
  tr = ap (λ (b : Bool). b && true) (fold-roll-Tr _ _ case_layer_fits tr_layer_fits (record { cases = [] }));
  ct = tt;
}

first_kept : (done : List Compiled) (c : Compiled) (l : Line) (t : State) → done ≡ [] → IsLine l → outside_at stage.First done c l ≡ Some t → Kept stage.First done c l t
unfolding outside_at
first_kept done c line.First t f h e =
    keeps stage.First done c line.First (at stage.Outside done c) t e (ap listing_lines f, subst (All IsListed) (sym f) (All-nil IsListed))
first_kept done c l t f h e = none_some t _ e

outside_kept : (done : List Compiled) (c : Compiled) (l : Line) (t : State) → All IsListed done → IsLine l → outside_at stage.Outside done c l ≡ Some t → Kept stage.Outside done c l t
unfolding outside_at
outside_kept done c (line.Fn n) t f h e =
    keeps stage.Outside done c (line.Fn n) (at stage.Interface done (blank n)) t e (refl, (f, blank_listed n h))
outside_kept done c l t f h e = none_some t _ e

with_args : (c : Compiled) (a : Arg) → c.rets ≡ [] → c.pre ≡ [] → head_lines (record c { args = c.args ++ a ∷ [] }) ≡ head_lines c ++ line.Arg a ∷ []
with_args c a h k =
    (λ i. line.Fn c.name ∷ (map_push line.Arg c.args a i ++ (map line.Ret (h i) ++ map line.Pre (k i))))
    ∙ ap (λ z. line.Fn c.name ∷ z) (append-nil (map line.Arg c.args ++ line.Arg a ∷ []))
    ∙ ap (λ z. line.Fn c.name ∷ (z ++ line.Arg a ∷ [])) (sym (append-nil (map line.Arg c.args)))
    ∙ (λ i. line.Fn c.name ∷ ((map line.Arg c.args ++ (map line.Ret (sym h i) ++ map line.Pre (sym k i))) ++ line.Arg a ∷ []))

with_rets : (c : Compiled) (a : Arg) → c.pre ≡ [] → head_lines (record c { rets = c.rets ++ a ∷ [] }) ≡ head_lines c ++ line.Ret a ∷ []
with_rets c a k =
    (λ i. line.Fn c.name ∷ (map line.Arg c.args ++ (map_push line.Ret c.rets a i ++ map line.Pre (k i))))
    ∙ ap (λ z. line.Fn c.name ∷ (map line.Arg c.args ++ z)) (append-nil (map line.Ret c.rets ++ line.Ret a ∷ []))
    ∙ ap (λ z. line.Fn c.name ∷ z) (sym (append_assoc (map line.Arg c.args) (map line.Ret c.rets) (line.Ret a ∷ [])))
    ∙ ap (λ z. line.Fn c.name ∷ ((map line.Arg c.args ++ z) ++ line.Ret a ∷ [])) (sym (append-nil (map line.Ret c.rets)))
    ∙ (λ i. line.Fn c.name ∷ ((map line.Arg c.args ++ (map line.Ret c.rets ++ map line.Pre (sym k i))) ++ line.Ret a ∷ []))

with_pres : (c : Compiled) (p : Pre) → head_lines (record c { pre = c.pre ++ p ∷ [] }) ≡ head_lines c ++ line.Pre p ∷ []
with_pres c p =
    (λ i. line.Fn c.name ∷ (map line.Arg c.args ++ (map line.Ret c.rets ++ map_push line.Pre c.pre p i)))
    ∙ ap (λ z. line.Fn c.name ∷ (map line.Arg c.args ++ z)) (sym (append_assoc (map line.Ret c.rets) (map line.Pre c.pre) (line.Pre p ∷ [])))
    ∙ ap (λ z. line.Fn c.name ∷ z) (sym (append_assoc (map line.Arg c.args) (map line.Ret c.rets ++ map line.Pre c.pre) (line.Pre p ∷ [])))

listed_arg : (c : Compiled) (a : Arg) → IsListed c → IsIdentifier a.name → IsListed (record c { args = c.args ++ a ∷ [] })
listed_arg c a f h = record { name = f.name; args = All-push IsNamed c.args a f.args h; rets = f.rets; pre = f.pre; frame = f.frame; insns = f.insns; code = f.code; tr = f.tr; ct = f.ct }

listed_ret : (c : Compiled) (a : Arg) → IsListed c → IsIdentifier a.name → IsListed (record c { rets = c.rets ++ a ∷ [] })
listed_ret c a f h = record { name = f.name; args = f.args; rets = All-push IsNamed c.rets a f.rets h; pre = f.pre; frame = f.frame; insns = f.insns; code = f.code; tr = f.tr; ct = f.ct }

listed_pre : (c : Compiled) (p : Pre) → IsListed c → IsPreLine p → IsListed (record c { pre = c.pre ++ p ∷ [] })
listed_pre c p f h = record { name = f.name; args = f.args; rets = f.rets; pre = All-push IsPreLine c.pre p f.pre h; frame = f.frame; insns = f.insns; code = f.code; tr = f.tr; ct = f.ct }

listed_frame : (c : Compiled) (n : ℕ) → IsListed c → n < 2 ^ 64 → IsListed (record c { frame = n })
listed_frame c n f h = record { name = f.name; args = f.args; rets = f.rets; pre = f.pre; frame = h; insns = f.insns; code = f.code; tr = f.tr; ct = f.ct }

arg_kept : (done : List Compiled) (c : Compiled) (a : Arg) (t : State) → All IsListed done × IsListed c → IsIdentifier a.name → with_arg done c a ≡ Some t → Kept stage.Interface done c (line.Arg a) t
unfolding with_arg
arg_kept done c a t f h e = by_cases (Kept stage.Interface done c (line.Arg a) t) (is_none c.rets && is_none c.pre)
    (λ b.
    let p = and_parts (is_none c.rets) (is_none c.pre) b in
    let m = at stage.Interface done (record c { args = c.args ++ a ∷ [] }) in
    keeps stage.Interface done c (line.Arg a) m t (sym (if_true (is_none c.rets && is_none c.pre) (Some m) None b) ∙ e)
    (ap (λ z. listing_lines done ++ z) (with_args c a (none_is c.rets p.0) (none_is c.pre p.1)) ∙ sym (one_behind (listing_lines done) (head_lines c) (line.Arg a)), (f.0, listed_arg c a f.1 h)))
    (λ b. none_some t _ (sym (if_false (is_none c.rets && is_none c.pre) (Some (at stage.Interface done (record c { args = c.args ++ a ∷ [] }))) None b) ∙ e))

ret_kept : (done : List Compiled) (c : Compiled) (a : Arg) (t : State) → All IsListed done × IsListed c → IsIdentifier a.name → with_ret done c a ≡ Some t → Kept stage.Interface done c (line.Ret a) t
unfolding with_ret
ret_kept done c a t f h e = by_cases (Kept stage.Interface done c (line.Ret a) t) (is_none c.pre)
    (λ b.
    let m = at stage.Interface done (record c { rets = c.rets ++ a ∷ [] }) in
    keeps stage.Interface done c (line.Ret a) m t (sym (if_true (is_none c.pre) (Some m) None b) ∙ e)
    (ap (λ z. listing_lines done ++ z) (with_rets c a (none_is c.pre b)) ∙ sym (one_behind (listing_lines done) (head_lines c) (line.Ret a)), (f.0, listed_ret c a f.1 h)))
    (λ b. none_some t _ (sym (if_false (is_none c.pre) (Some (at stage.Interface done (record c { rets = c.rets ++ a ∷ [] }))) None b) ∙ e))

interface_kept : (done : List Compiled) (c : Compiled) (l : Line) (t : State) → All IsListed done × IsListed c → IsLine l → interface done c l ≡ Some t → Kept stage.Interface done c l t
unfolding interface
interface_kept done c (line.Arg a) t f h e = arg_kept done c a t f h e
interface_kept done c (line.Ret a) t f h e = ret_kept done c a t f h e
interface_kept done c (line.Pre p) t f h e =
    keeps stage.Interface done c (line.Pre p) (at stage.Interface done (record c { pre = c.pre ++ p ∷ [] })) t e
    (ap (λ z. listing_lines done ++ z) (with_pres c p) ∙ sym (one_behind (listing_lines done) (head_lines c) (line.Pre p)), (f.0, listed_pre c p f.1 h))
interface_kept done c (line.Frame n) t f h e =
    keeps stage.Interface done c (line.Frame n) (at stage.Saved done (record c { frame = n })) t e
    (sym (one_behind (listing_lines done) (head_lines c) (line.Frame n)), (f.0, listed_frame c n f.1 h))
interface_kept done c l t f h e = none_some t _ e

-- behind the head of a function
three_behind : (ls hs ms : List Line) (l : Line) → ls ++ (hs ++ (ms ++ l ∷ [])) ≡ (ls ++ (hs ++ ms)) ++ l ∷ []
three_behind ls hs ms l = sym (append_assoc ls (hs ++ ms) (l ∷ []) ∙ ap (λ z. ls ++ z) (append_assoc hs ms (l ∷ [])))

saved_kept : (done : List Compiled) (c : Compiled) (l : Line) (t : State) → All IsListed done × IsListed c → IsLine l → machine stage.Saved done c l ≡ Some t → Kept stage.Saved done c l t
unfolding machine
saved_kept done c (line.Saved rs) t f h e =
    keeps stage.Saved done c (line.Saved rs) (at stage.Insns done (record c { saved = rs })) t e (
      three_behind (listing_lines done) (head_lines c) (line.Frame c.frame ∷ []) (line.Saved rs),
      (f.0, record { name = f.1.name; args = f.1.args; rets = f.1.rets; pre = f.1.pre; frame = f.1.frame; insns = f.1.insns; code = f.1.code; tr = f.1.tr; ct = f.1.ct }),
    )
saved_kept done c l t f h e = none_some t _ e

insns_kept : (done : List Compiled) (c : Compiled) (l : Line) (t : State) → All IsListed done × IsListed c → IsLine l → machine stage.Insns done c l ≡ Some t → Kept stage.Insns done c l t
unfolding machine
insns_kept done c (line.Insns n) t f h e =
    keeps stage.Insns done c (line.Insns n) (at stage.Code done (record c { insns = n })) t e (
      three_behind (listing_lines done) (head_lines c) (line.Frame c.frame ∷ line.Saved c.saved ∷ []) (line.Insns n),
      (f.0, record { name = f.1.name; args = f.1.args; rets = f.1.rets; pre = f.1.pre; frame = f.1.frame; insns = h; code = f.1.code; tr = f.1.tr; ct = f.1.ct }),
    )
insns_kept done c l t f h e = none_some t _ e

code_kept : (done : List Compiled) (c : Compiled) (l : Line) (t : State) → All IsListed done × IsListed c → IsLine l → machine stage.Code done c l ≡ Some t → Kept stage.Code done c l t
unfolding machine
code_kept done c (line.Code b) t f h e =
    keeps stage.Code done c (line.Code b) (at stage.Leakage done (record c { code = b })) t e (
      three_behind (listing_lines done) (head_lines c) (line.Frame c.frame ∷ line.Saved c.saved ∷ line.Insns c.insns ∷ []) (line.Code b),
      (f.0, record { name = f.1.name; args = f.1.args; rets = f.1.rets; pre = f.1.pre; frame = f.1.frame; insns = f.1.insns; code = h; tr = f.1.tr; ct = f.1.ct }),
    )
code_kept done c l t f h e = none_some t _ e

leakage_kept : (done : List Compiled) (c : Compiled) (l : Line) (t : State) → All IsListed done × IsListed c → IsLine l → verdict_at stage.Leakage done c l ≡ Some t → Kept stage.Leakage done c l t
unfolding verdict_at
leakage_kept done c (line.Leakage u) t f h e =
    keeps stage.Leakage done c (line.Leakage u) (at stage.Ct done (record c { tr = u })) t e (
      three_behind (listing_lines done) (head_lines c) (line.Frame c.frame ∷ line.Saved c.saved ∷ line.Insns c.insns ∷ line.Code c.code ∷ []) (line.Leakage u),
      (f.0, record { name = f.1.name; args = f.1.args; rets = f.1.rets; pre = f.1.pre; frame = f.1.frame; insns = f.1.insns; code = f.1.code; tr = h; ct = f.1.ct }),
    )
leakage_kept done c l t f h e = none_some t _ e

ct_kept : (done : List Compiled) (c : Compiled) (l : Line) (t : State) → All IsListed done × IsListed c → IsLine l → verdict_at stage.Ct done c l ≡ Some t → Kept stage.Ct done c l t
unfolding verdict_at
ct_kept done c (line.Ct v) t f h e =
    keeps stage.Ct done c (line.Ct v) (at stage.End done (record c { ct = v })) t e (
      three_behind (listing_lines done) (head_lines c) (line.Frame c.frame ∷ line.Saved c.saved ∷ line.Insns c.insns ∷ line.Code c.code ∷ line.Leakage c.tr ∷ []) (line.Ct v),
      (f.0, record { name = f.1.name; args = f.1.args; rets = f.1.rets; pre = f.1.pre; frame = f.1.frame; insns = f.1.insns; code = f.1.code; tr = f.1.tr; ct = h }),
    )
ct_kept done c l t f h e = none_some t _ e

end_kept : (done : List Compiled) (c : Compiled) (l : Line) (t : State) → All IsListed done × IsListed c → IsLine l → verdict_at stage.End done c l ≡ Some t → Kept stage.End done c l t
unfolding verdict_at
end_kept done c line.End t f h e =
    keeps stage.End done c line.End (whole done c) t e (
      listing_push done c ∙ three_behind (listing_lines done) (head_lines c) (line.Frame c.frame ∷ line.Saved c.saved ∷ line.Insns c.insns ∷ line.Code c.code ∷ line.Leakage c.tr ∷ line.Ct c.ct ∷ []) line.End,
      All-push IsListed done c f.0 f.1,
    )
end_kept done c l t f h e = none_some t _ e

take_kept : (s : Stage) (done : List Compiled) (c : Compiled) (l : Line) (t : State) → Fits s done c → IsLine l → take_at s (at s done c) l ≡ Some t → Kept s done c l t
take_kept stage.First done c l t f h e = first_kept done c l t f h e
take_kept stage.Outside done c l t f h e = outside_kept done c l t f h e
take_kept stage.Interface done c l t f h e = interface_kept done c l t f h e
take_kept stage.Saved done c l t f h e = saved_kept done c l t f h e
take_kept stage.Insns done c l t f h e = insns_kept done c l t f h e
take_kept stage.Code done c l t f h e = code_kept done c l t f h e
take_kept stage.Leakage done c l t f h e = leakage_kept done c l t f h e
take_kept stage.Ct done c l t f h e = ct_kept done c l t f h e
take_kept stage.End done c l t f h e = end_kept done c l t f h e

pub line_more : (s t : State) (l : Line) → Fits s.stage s.done s.fun → IsLine l → take s l ≡ Some t → Kept s.stage s.done s.fun l t
unfolding take
line_more s t l f h e = take_kept s.stage s.done s.fun l t f h e

-- ---- what is known goes on
all_listed : (s : Stage) (done : List Compiled) (c : Compiled) → Fits s done c → All IsListed (all_of s done c)
all_listed stage.First done c f = subst (All IsListed) (sym f) (All-nil IsListed)
all_listed stage.Outside done c f = f
all_listed stage.Interface done c f = All-push IsListed done c f.0 f.1
all_listed stage.Saved done c f = All-push IsListed done c f.0 f.1
all_listed stage.Insns done c f = All-push IsListed done c f.0 f.1
all_listed stage.Code done c f = All-push IsListed done c f.0 f.1
all_listed stage.Leakage done c f = All-push IsListed done c f.0 f.1
all_listed stage.Ct done c f = All-push IsListed done c f.0 f.1
all_listed stage.End done c f = All-push IsListed done c f.0 f.1

-- the head of a function and so many lines behind it, and the others
parted : (ls hs ms rest : List Line) → (ls ++ (hs ++ ms)) ++ rest ≡ ls ++ (hs ++ (ms ++ rest))
parted ls hs ms rest = append_assoc ls (hs ++ ms) rest ∙ ap (λ z. ls ++ z) (append_assoc hs ms rest)

goes_to : (s : Stage) (done : List Compiled) (c : Compiled) → Fits s done c → lines_read s done c ++ lines_left s c ≡ listing_lines (all_of s done c)
goes_to stage.First done c f = ap listing_lines (sym f)
goes_to stage.Outside done c f = append-nil (listing_lines done)
goes_to stage.Interface done c f = append_assoc (listing_lines done) (head_lines c) (last_lines c) ∙ sym (listing_push done c)
goes_to stage.Saved done c f = parted (listing_lines done) (head_lines c) (line.Frame c.frame ∷ []) (lines_left stage.Saved c) ∙ sym (listing_push done c)
goes_to stage.Insns done c f = parted (listing_lines done) (head_lines c) (line.Frame c.frame ∷ line.Saved c.saved ∷ []) (lines_left stage.Insns c) ∙ sym (listing_push done c)
goes_to stage.Code done c f = parted (listing_lines done) (head_lines c) (line.Frame c.frame ∷ line.Saved c.saved ∷ line.Insns c.insns ∷ []) (lines_left stage.Code c) ∙ sym (listing_push done c)
goes_to stage.Leakage done c f =
    parted (listing_lines done) (head_lines c) (line.Frame c.frame ∷ line.Saved c.saved ∷ line.Insns c.insns ∷ line.Code c.code ∷ []) (lines_left stage.Leakage c) ∙ sym (listing_push done c)
goes_to stage.Ct done c f =
    parted (listing_lines done) (head_lines c) (line.Frame c.frame ∷ line.Saved c.saved ∷ line.Insns c.insns ∷ line.Code c.code ∷ line.Leakage c.tr ∷ []) (lines_left stage.Ct c) ∙ sym (listing_push done c)
goes_to stage.End done c f =
    parted (listing_lines done) (head_lines c) (line.Frame c.frame ∷ line.Saved c.saved ∷ line.Insns c.insns ∷ line.Code c.code ∷ line.Leakage c.tr ∷ line.Ct c.ct ∷ []) (lines_left stage.End c) ∙ sym (listing_push done c)

-- some listing begins with the lines that were read
pub some_goes_on : (s : State) → Fits s.stage s.done s.fun → (cs : List Compiled) × (more : List Line) × All IsListed cs × (lines_read s.stage s.done s.fun ++ more ≡ listing_lines cs)
some_goes_on s f = (all_of s.stage s.done s.fun, lines_left s.stage s.fun, all_listed s.stage s.done s.fun f, goes_to s.stage s.done s.fun f)

-- ---- the lines of listed functions are lines
args_lines : (xs : List Arg) → All IsNamed xs → All IsLine (map line.Arg xs)
args_lines [] h = All-nil IsLine
args_lines (a ∷ xs) h = All-cons IsLine (line.Arg a) (map line.Arg xs) (All-head IsNamed a xs h) (args_lines xs (All-tail IsNamed a xs h))

rets_lines : (xs : List Arg) → All IsNamed xs → All IsLine (map line.Ret xs)
rets_lines [] h = All-nil IsLine
rets_lines (a ∷ xs) h = All-cons IsLine (line.Ret a) (map line.Ret xs) (All-head IsNamed a xs h) (rets_lines xs (All-tail IsNamed a xs h))

pres_lines : (xs : List Pre) → All IsPreLine xs → All IsLine (map line.Pre xs)
pres_lines [] h = All-nil IsLine
pres_lines (p ∷ xs) h = All-cons IsLine (line.Pre p) (map line.Pre xs) (All-head IsPreLine p xs h) (pres_lines xs (All-tail IsPreLine p xs h))

fun_are_lines : (c : Compiled) → IsListed c → All IsLine (fun_lines c)
fun_are_lines c h =
    All-append IsLine (head_lines c) (last_lines c)
    (All-cons IsLine (line.Fn c.name) (map line.Arg c.args ++ (map line.Ret c.rets ++ map line.Pre c.pre)) h.name
    (All-append IsLine (map line.Arg c.args) (map line.Ret c.rets ++ map line.Pre c.pre) (args_lines c.args h.args)
    (All-append IsLine (map line.Ret c.rets) (map line.Pre c.pre) (rets_lines c.rets h.rets) (pres_lines c.pre h.pre))))
    (All-cons IsLine (line.Frame c.frame) (lines_left stage.Saved c) h.frame
    (All-cons IsLine (line.Saved c.saved) (lines_left stage.Insns c) tt
    (All-cons IsLine (line.Insns c.insns) (lines_left stage.Code c) h.insns
    (All-cons IsLine (line.Code c.code) (lines_left stage.Leakage c) h.code
    (All-cons IsLine (line.Leakage c.tr) (lines_left stage.Ct c) h.tr
    (All-cons IsLine (line.Ct c.ct) (lines_left stage.End c) h.ct (All-cons IsLine line.End [] tt (All-nil IsLine))))))))

funs_lines : (cs : List Compiled) → All IsListed cs → All IsLine (all_lines cs)
funs_lines [] h = All-nil IsLine
funs_lines (c ∷ cs) h =
    All-append IsLine (fun_lines c) (all_lines cs) (fun_are_lines c (All-head IsListed c cs h)) (funs_lines cs (All-tail IsListed c cs h))

pub listing_are_lines : (cs : List Compiled) → All IsListed cs → All IsLine (listing_lines cs)
listing_are_lines cs h = All-cons IsLine line.First (all_lines cs) tt (funs_lines cs h)
