-- A memory beside the memory and the cells of a run keeps the four laws of accesses.
use Rattle.std.proofs.Common.{◌≡◌, ℕ, true, refl, sym, ap, ◌∙◌}
use Rattle.std.specs.Prelude.{Option, Some, None, is_some}
use Rattle.std.specs.FinMap.{get}
use Rattle.jz_words.specs.Sizes.{bytes_of}
use Rattle.jz_words.specs.Memory.{Memory, all_valid, stored}
use Rattle.jz_operations.specs.Rows.{Frame}
use Rattle.jz_operations.specs.Standing.{Holding}
use Rattle.jz_operations.specs.Frames.{IsLaid}
use Rattle.jz_operations.proofs.Bytes.{stored_elsewhere, valid_stored}
use Rattle.jz_operations.proofs.FrameLaws as cells
use Rattle.jz_placing.specs.Placing.{HoldsAt}

still_there : (r r0 : Memory) (x n v q : ℕ) → is_some (get r q) ≡ is_some (get r0 q) → all_valid r x n ≡ true → (o : Option ℕ) → get r q ≡ o → is_some (get (stored r x n v) q) ≡ is_some (get r0 q)
still_there r r0 x n v q same valid None e = ap is_some (stored_elsewhere r r x n v q valid e) ∙ same
still_there r r0 x n v q same valid (Some b) e = valid_stored r x n v q (ap is_some e) ∙ sym (ap is_some e) ∙ same

module _ (frame : Frame) (slots : ℕ → ℕ) (end low : ℕ) (laid : IsLaid frame slots end) (r0 m0 : Memory) where
  pub holding_laws : Holding frame slots (HoldsAt frame slots end low r0 m0)
  holding_laws = record {
    load = λ cs r rsp m x n v h e. cells.load frame slots end laid m0 cs r rsp m x n v h.holds e;
    load_cell = λ cs r rsp m v s i n h has e. cells.load_cell frame slots end laid m0 cs r rsp m v s i n h.holds has e;
    store = λ cs r rsp m x s v h valid.
        let k = cells.store frame slots end laid m0 cs r rsp m x s v h.holds valid in
        (k.0, record { stack = h.stack; same = λ q. still_there r r0 x (bytes_of s) v q (h.same q) valid (get r q) refl; holds = k.1 });
    store_cell = λ cs r rsp m v s i n h has.
        let k = cells.store_cell frame slots end laid m0 cs r rsp m v s i n h.holds has in
        (k.0, record { stack = h.stack; same = h.same; holds = k.1 });
  }
