-- Listings are read, and a line that is refused stands in none.
use Rattle.std.proofs.Common.{◌≡◌, ℕ, suc, ◌+◌, ◌≤◌, true, List, [], ◌∷◌, ◌++◌, length, Some, None, refl, sym, ap, ◌∙◌, subst, append_assoc, append-nil, length-append, arith, ◌⊎◌, inl, inr}
use Rattle.std.specs.Prelude.{All, Err}
use Rattle.std.proofs.lemmas.List.{append_cancel_left}
use Rattle.std.proofs.lemmas.List.Elements.{All-nil, All-cons, All-head, All-tail, All-push}
use Rattle.std.proofs.lemmas.List.Sums.{AllPass-from_list_all}
use Rattle.jz_listing.specs.declared.compiled.Compiled.{Compiled}
use Rattle.jz_listing.specs.Listing.{listing_text}
use Rattle.jz_listing_lines.specs.declared.line.Line.{Line}
use Rattle.jz_listing_lines.specs.Lines.{line_text, IsLine}
use Rattle.jz_listing_lines.proofs.LineLaws.{one_line}
use Rattle.jz_listing_read.specs.Reading.{IsListed, IsListing, BeginsListing, IsNoListing, is_in_line, IsOneLine, ended, lines_text, IsBadLine, ReadsListing}
use Rattle.jz_listing_read.specs.declared.state.Stage.{Stage}
use Rattle.jz_listing_read.specs.declared.state.Stage.TheVariants as stage
use Rattle.jz_listing_read.specs.declared.state.State.{State}
use Rattle.jz_listing_read.specs.InnerStates.{at, start}
use Rattle.jz_data.specs.declared.failure.Failure.{Failure}
use Rattle.jz_data.specs.declared.failure.Failure.TheVariants as failure
use Rattle.jz_data.specs.Failures.{IfAnswered}
use Rattle.jz_listing_read.specs.InnerLines.{NoNext, IsNext, Follows}
use Rattle.jz_listing_read.proofs.Clean.{line_clean}
use Rattle.jz_listing_read.proofs.Splits.{goes_on, ends_so, one_further, same_cut, no_end_in, text_more}
use Rattle.jz_listing_read.proofs.States.{listing_lines, texts_of, text_of, text_both, listing_is, and_then, run, run_both, run_listing, lines_read, Fits, line_more, some_goes_on, listing_are_lines, none_some, some_same}

-- The lines that were read, what is known behind them, and what is left of the text.
pub record SoFar (text rest : List ℕ) (number : ℕ) (s : State) : Type 0 where
  pub lines : List Line
  pub are : All IsLine lines
  pub runs : run start lines ≡ Some s
  pub fits : Fits s.stage s.done s.fun
  pub says : lines_read s.stage s.done s.fun ≡ lines
  pub splits : text ≡ text_of lines ++ rest
  pub number_is : number ≡ suc (length lines)
  pub small : number + length rest ≤ suc (length text)

pub begun : (text : List ℕ) → SoFar text text 1 start
begun text = record { lines = []; are = All-nil IsLine; runs = refl; fits = refl; says = refl; splits = refl; number_is = refl; small = omega arith }

pub one_more : (text rest line more : List ℕ) (number : ℕ) (s t : State) → SoFar text rest number s → rest ≡ ended line ++ more → IsNext s line t → SoFar text more (number + 1) t
one_more text rest line more number s t f e n =
    let l = n.0 in
    let k = line_more s t l f.fits n.1 n.3 in
    let shape : text_of (f.lines ++ l ∷ []) ++ more ≡ text_of f.lines ++ rest =
    ap (λ z. z ++ more) (text_both f.lines (l ∷ []) ∙ ap (λ z. text_of f.lines ++ z) (append-nil (ended (line_text l))))
    ∙ append_assoc (text_of f.lines) (ended (line_text l)) more ∙ ap (λ z. text_of f.lines ++ (ended z ++ more)) n.2 ∙ ap (λ z. text_of f.lines ++ z) (sym e) in
    record {
      lines = f.lines ++ l ∷ [];
      are = All-push IsLine f.lines l f.are n.1;
      runs = run_both start f.lines (l ∷ []) ∙ ap (λ o. and_then o (λ z. run z (l ∷ []))) f.runs ∙ ap (λ o. and_then o (λ z. run z [])) n.3;
      fits = k.1;
      says = k.0 ∙ ap (λ z. z ++ l ∷ []) f.says;
      splits = f.splits ∙ sym shape;
      number_is = omega (arith, f.number_is, length-append f.lines (l ∷ []));
      small = omega (arith, f.small, ap length e, length-append (ended line) more, length-append line (10 ∷ []));
    }

pub number_small : (text rest : List ℕ) (number : ℕ) (s : State) → SoFar text rest number s → number + length rest ≤ suc (length text)
number_small text rest number s f = f.small

-- ---- lines by their texts
clean_lines : (ls : List Line) → All IsLine ls → All IsOneLine (texts_of ls)
clean_lines [] h = All-nil IsOneLine
clean_lines (l ∷ ls) h =
    All-cons IsOneLine (line_text l) (texts_of ls) (AllPass-from_list_all is_in_line (line_text l) (line_clean l (All-head IsLine l ls h))) (clean_lines ls (All-tail IsLine l ls h))

abbrev first : List (List ℕ) → List ℕ
first [] = []
first (u ∷ us) = u

abbrev others : List (List ℕ) → List (List ℕ)
others [] = []
others (u ∷ us) = us

no_lines : (u : List ℕ) (us : List (List ℕ)) (P : Type 0) → ◌≡◌ {A = List (List ℕ)} [] (u ∷ us) → P
no_lines u us P e = absurd (let no : ⊥ = cc in no)

same_lines : (vs us : List Line) → All IsLine vs → All IsLine us → texts_of vs ≡ texts_of us → vs ≡ us
same_lines [] [] h k e = refl
same_lines [] (u ∷ us) h k e = no_lines (line_text u) (texts_of us) _ e
same_lines (v ∷ vs) [] h k e = no_lines (line_text v) (texts_of vs) _ (sym e)
same_lines (v ∷ vs) (u ∷ us) h k e =
    ap (λ z. z ∷ vs) (one_line v u (All-head IsLine v vs h) (All-head IsLine u us k) (ap first e))
    ∙ ap (λ z. u ∷ z) (same_lines vs us (All-tail IsLine v vs h) (All-tail IsLine u us k) (ap others e))

line_at : (vs us : List Line) (line : List ℕ) (ws : List (List ℕ)) → All IsLine vs → All IsLine us → texts_of vs ≡ texts_of us ++ line ∷ ws
    → (l : Line) × (ms : List Line) × IsLine l × (line_text l ≡ line) × (vs ≡ us ++ l ∷ ms)
line_at [] [] line ws h k e = no_lines line ws _ e
line_at [] (u ∷ us) line ws h k e = no_lines (line_text u) (texts_of us ++ line ∷ ws) _ e
line_at (v ∷ vs) [] line ws h k e = (v, vs, All-head IsLine v vs h, ap first e, refl)
line_at (v ∷ vs) (u ∷ us) line ws h k e =
    let r = line_at vs us line ws (All-tail IsLine v vs h) (All-tail IsLine u us k) (ap others e) in
    let same = one_line v u (All-head IsLine v vs h) (All-head IsLine u us k) (ap first e) in
    (r.0, r.1, r.2, r.3, ap (λ z. z ∷ vs) same ∙ ap (λ z. u ∷ z) r.4)

-- ---- the answers
good_so_far : (text rest : List ℕ) (number : ℕ) (s : State) (f : SoFar text rest number s) → BeginsListing (text_of f.lines)
good_so_far text rest number s f =
    let g = some_goes_on s f.fits in
    (g.0, text_of g.1, (g.2, sym (text_both f.lines g.1) ∙ ap (λ z. text_of (z ++ g.1)) (sym f.says) ∙ ap text_of g.3 ∙ listing_is g.0))

-- a listing does not go on with a line that may not come
never : (text rest : List ℕ) (number : ℕ) (s : State) (line more : List ℕ) (cs : List Compiled) → SoFar text rest number s → IsOneLine line → NoNext s line → All IsListed cs
    → listing_text cs ≡ lines_text (texts_of (listing_lines cs)) → (lines : List Line) → All IsLine lines → run start lines ≡ Some s → lines_text (texts_of (listing_lines cs)) ≡ lines_text (texts_of lines) ++ (line ++ 10 ∷ more) → ⊥
never text rest number s line more cs f l n h same lines are runs e =
    let all = listing_are_lines cs h in
    let g = goes_on (texts_of lines) (texts_of (listing_lines cs)) line more (clean_lines lines are) (clean_lines (listing_lines cs) all) l e in
    let a = line_at (listing_lines cs) lines line g.0 all are g.1 in
    let r = run_listing cs in
    let stuck : run start (lines ++ a.0 ∷ a.1) ≡ None =
    run_both start lines (a.0 ∷ a.1) ∙ ap (λ o. and_then o (λ z. run z (a.0 ∷ a.1))) runs ∙ ap (λ o. and_then o (λ z. run z a.1)) (n a.0 a.2 a.3) in
    none_some (at stage.Outside cs r.0) ⊥ (sym stuck ∙ ap (run start) (sym a.4) ∙ r.1)

pub refused : (text rest line more : List ℕ) (number : ℕ) (s : State) → SoFar text rest number s → rest ≡ ended line ++ more → IsOneLine line → NoNext s line → IsBadLine text number
refused text rest line more number s f e l n = record {
  before = texts_of f.lines;
  line = line;
  rest = more;
  are_lines = clean_lines f.lines f.are;
  is_line = l;
  number_is = f.number_is ∙ ap suc (sym (same_length f.lines));
  good = good_so_far text rest number s f;
  bad = inl (f.splits ∙ ap (λ z. text_of f.lines ++ z) e, no_listing);
}
  where
    same_length : (ls : List Line) → length (texts_of ls) ≡ length ls
    same_length [] = refl
    same_length (l ∷ ls) = ap suc (same_length ls)

    no_listing : BeginsListing (text_of f.lines ++ ended line) → ⊥
    no_listing b =
        let shape : lines_text (texts_of (listing_lines b.0)) ≡ text_of f.lines ++ (line ++ 10 ∷ b.1) =
        listing_is b.0 ∙ sym b.2.1 ∙ append_assoc (text_of f.lines) (ended line) b.1 ∙ ap (λ z. text_of f.lines ++ z) (append_assoc line (10 ∷ []) b.1) in
        never text rest number s line b.1 b.0 f l n b.2.0 (sym (listing_is b.0)) f.lines f.are f.runs shape

-- where the line may not come, or there was no memory
pub err_stops : (text rest line more : List ℕ) (number : ℕ) (s : State) (d : Failure ℕ) → SoFar text rest number s → rest ≡ ended line ++ more → IsOneLine line → Follows s line number (Err d)
    → IfAnswered {A = List Compiled} (Err d) (ReadsListing text)
err_stops text rest line more number s (failure.Refused n) f e l h = subst (IsBadLine text) (sym h.0) (refused text rest line more number s f e l h.1)
err_stops text rest line more number s failure.OutOfMemory f e l h = tt

-- lines and no more are a listing where no function is begun
at_end : (text rest : List ℕ) (number : ℕ) (s : State) (cs : List Compiled) → SoFar text rest number s → IsOneLine rest → IsListing text cs → (rest ≡ []) × (s.stage ≡ stage.Outside)
at_end text rest number s cs f l h =
    let all = listing_are_lines cs h.0 in
    let e = ends_so (texts_of f.lines) (texts_of (listing_lines cs)) rest (clean_lines f.lines f.are) (clean_lines (listing_lines cs) all) l (listing_is cs ∙ sym h.1 ∙ f.splits) in
    let same = same_lines (listing_lines cs) f.lines all f.are e.0 in
    let r = run_listing cs in
    let is : s ≡ at stage.Outside cs r.0 = some_same s (at stage.Outside cs r.0) (sym f.runs ∙ ap (run start) (sym same) ∙ r.1) in
    (e.1, ap (λ (z : State). z.stage) is)

pub ended_early : (text rest : List ℕ) (number : ℕ) (s : State) → SoFar text rest number s → IsOneLine rest → (rest ≡ [] → s.stage ≡ stage.Outside → ⊥) → IsBadLine text number
ended_early text rest number s f l n = record {
  before = texts_of f.lines;
  line = rest;
  rest = [];
  are_lines = clean_lines f.lines f.are;
  is_line = l;
  number_is = f.number_is ∙ ap suc (sym (same_length f.lines));
  good = good_so_far text rest number s f;
  bad = inr (f.splits, λ cs h. (let e = at_end text rest number s cs f l h in n e.0 e.1));
}
  where
    same_length : (ls : List Line) → length (texts_of ls) ≡ length ls
    same_length [] = refl
    same_length (l ∷ ls) = ap suc (same_length ls)

whole_at : (s : Stage) (done : List Compiled) (fun : Compiled) → s ≡ stage.Outside → Fits s done fun → (lines_read s done fun ≡ listing_lines done) × All IsListed done
whole_at s done fun e f =
    let Is : Stage → Type 0 = λ z. (lines_read z done fun ≡ listing_lines done) × All IsListed done in
    let fits : All IsListed done = subst (λ z. Fits z done fun) e f in
    subst Is (sym e) (refl, fits)

pub whole : (text rest : List ℕ) (number : ℕ) (s : State) → SoFar text rest number s → rest ≡ [] → s.stage ≡ stage.Outside → IsListing text s.done
whole text rest number s f e k =
    let w = whole_at s.stage s.done s.fun k f.fits in
    (w.1, f.splits ∙ ap (λ z. text_of f.lines ++ z) e ∙ append-nil (text_of f.lines) ∙ ap text_of (sym f.says ∙ w.0) ∙ listing_is s.done)

-- ---- one answer
pub one_listing : (text : List ℕ) (cs ds : List Compiled) → IsListing text cs → IsListing text ds → cs ≡ ds
one_listing text cs ds h k =
    let a = listing_are_lines cs h.0 in
    let b = listing_are_lines ds k.0 in
    let e = ends_so (texts_of (listing_lines ds)) (texts_of (listing_lines cs)) [] (clean_lines (listing_lines ds) b) (clean_lines (listing_lines cs) a) (All-nil (λ c. is_in_line c ≡ true))
    (listing_is cs ∙ sym h.1 ∙ k.1 ∙ sym (listing_is ds) ∙ sym (append-nil (text_of (listing_lines ds)))) in
    let same = same_lines (listing_lines cs) (listing_lines ds) a b e.0 in
    let r = run_listing cs in
    let q = run_listing ds in
    ap (λ (z : State). z.done) (some_same (at stage.Outside cs r.0) (at stage.Outside ds q.0) (sym r.1 ∙ ap (run start) same ∙ q.1))

pub good_or_bad : (text : List ℕ) (cs : List Compiled) (n : ℕ) → IsListing text cs → IsBadLine text n → ⊥
good_or_bad text cs n h b = by_bad b.bad
  where
    by_bad : ((text ≡ lines_text b.before ++ (ended b.line ++ b.rest)) × (BeginsListing (lines_text b.before ++ ended b.line) → ⊥)) ⊎ ((text ≡ lines_text b.before ++ b.line) × IsNoListing text) → ⊥
    by_bad (inl p) = p.1 (cs, b.rest, (h.0, append_assoc (lines_text b.before) (ended b.line) b.rest ∙ sym p.0 ∙ h.1))
    by_bad (inr p) = p.1 cs h

-- what a text goes on with behind the lines before a bad one
abbrev behind_good : (text : List ℕ) (n : ℕ) → IsBadLine text n → List ℕ → Type 0
behind_good text n b x = text ≡ lines_text b.before ++ x

tail_of : (text : List ℕ) (n : ℕ) (b : IsBadLine text n) → (x : List ℕ) × behind_good text n b x
tail_of text n b = by_bad b.bad
  where
    by_bad : ((text ≡ lines_text b.before ++ (ended b.line ++ b.rest)) × (BeginsListing (lines_text b.before ++ ended b.line) → ⊥)) ⊎ ((text ≡ lines_text b.before ++ b.line) × IsNoListing text)
        → (x : List ℕ) × behind_good text n b x
    by_bad (inl p) = (ended b.line ++ b.rest, p.0)
    by_bad (inr p) = (b.line, p.0)

regrouped : (a b c d : List ℕ) → (a ++ b) ++ (c ++ d) ≡ (a ++ (b ++ c)) ++ d
regrouped a b c d = simp append_assoc refl

-- no further line is good
no_further : (text : List ℕ) (m n : ℕ) (a : IsBadLine text m) (b : IsBadLine text n) (w : List ℕ) (ws : List (List ℕ)) → IsOneLine w → b.before ≡ a.before ++ w ∷ ws → ⊥
no_further text m n a b w ws h e =
    let t = tail_of text n b in
    let text_is : text ≡ lines_text a.before ++ (w ++ 10 ∷ (lines_text ws ++ t.0)) =
    t.1 ∙ ap (λ z. lines_text z ++ t.0) e ∙ ap (λ z. z ++ t.0) (text_more a.before (w ∷ ws)) ∙ append_assoc (lines_text a.before) (lines_text (w ∷ ws)) t.0
    ∙ ap (λ z. lines_text a.before ++ z) (append_assoc (ended w) (lines_text ws) t.0 ∙ append_assoc w (10 ∷ []) (lines_text ws ++ t.0)) in
    by_bad text_is a.bad
  where
    by_bad : text ≡ lines_text a.before ++ (w ++ 10 ∷ (lines_text ws ++ (tail_of text n b).0))
        → ((text ≡ lines_text a.before ++ (ended a.line ++ a.rest)) × (BeginsListing (lines_text a.before ++ ended a.line) → ⊥)) ⊎ ((text ≡ lines_text a.before ++ a.line) × IsNoListing text) → ⊥
    by_bad is (inl p) =
        let same = same_cut a.line w a.rest (lines_text ws ++ (tail_of text n b).0) a.is_line h
        (sym (append_assoc a.line (10 ∷ []) a.rest) ∙ append_cancel_left (lines_text a.before) (ended a.line ++ a.rest) (w ++ 10 ∷ (lines_text ws ++ (tail_of text n b).0)) (sym p.0 ∙ is)) in
        let g = b.good in
        p.1 (
          g.0,
          lines_text ws ++ g.1,
          (
            g.2.0,
            ap (λ z. (lines_text a.before ++ ended z) ++ (lines_text ws ++ g.1)) same
                ∙ regrouped (lines_text a.before) (ended w) (lines_text ws) g.1 ∙ ap (λ z. z ++ g.1) (sym (text_more a.before (w ∷ ws)) ∙ ap lines_text (sym e)) ∙ g.2.1,
          ),
        )
    by_bad is (inr p) =
        no_end_in a.line w (lines_text ws ++ (tail_of text n b).0) ⊥ a.is_line
        (append_cancel_left (lines_text a.before) a.line (w ++ 10 ∷ (lines_text ws ++ (tail_of text n b).0)) (sym p.0 ∙ is))

pub one_bad_line : (text : List ℕ) (m n : ℕ) → IsBadLine text m → IsBadLine text n → m ≡ n
one_bad_line text m n a b =
    let s = tail_of text m a in
    let t = tail_of text n b in
    a.number_is ∙ ap suc (by (one_further a.before b.before s.0 t.0 a.are_lines b.are_lines (sym s.1 ∙ t.1))) ∙ sym b.number_is
  where
    first_of : (us vs : List (List ℕ)) (w : List ℕ) (ws : List (List ℕ)) → All IsOneLine us → us ≡ vs ++ w ∷ ws → IsOneLine w
    first_of us vs w ws h e = at_place vs (subst (All IsOneLine) e h)
      where
        at_place : (vs : List (List ℕ)) → All IsOneLine (vs ++ w ∷ ws) → IsOneLine w
        at_place [] h = All-head IsOneLine w ws h
        at_place (v ∷ vs) h = at_place vs (All-tail IsOneLine v (vs ++ w ∷ ws) h)

    left : (ws : List (List ℕ)) → a.before ≡ b.before ++ ws → length a.before ≡ length b.before
    left [] e = ap length (e ∙ append-nil b.before)
    left (w ∷ ws) e = absurd (no_further text n m b a w ws (first_of a.before b.before w ws a.are_lines e) e)

    right : (ws : List (List ℕ)) → b.before ≡ a.before ++ ws → length a.before ≡ length b.before
    right [] e = ap length (sym (e ∙ append-nil a.before))
    right (w ∷ ws) e = absurd (no_further text m n a b w ws (first_of b.before a.before w ws b.are_lines e) e)

    by : ((ws : List (List ℕ)) × (a.before ≡ b.before ++ ws)) ⊎ ((ws : List (List ℕ)) × (b.before ≡ a.before ++ ws)) → length a.before ≡ length b.before
    by (inl p) = left p.0 p.1
    by (inr p) = right p.0 p.1
