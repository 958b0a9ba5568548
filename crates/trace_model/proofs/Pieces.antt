-- Played in the program's pieces, a trace gives the text that the whole program is defined by.
use Rattle.laws.specs.Prelude.{Bool, List, [], ◌%◌, ◌&&◌, ◌*◌, ◌++◌, ◌+◌, ◌/◌, ◌<◌, ◌∙◌, ◌∷◌, ◌≡◌, ◌≤◌, add-one, add-zero, ap, ap₂, arith, cond, drop, element, eqb, false, get_or, le-leb, leb, leb-false, leb-true, length, length-append, length-drop, lt-ltb, ltb, ltb-false, ltb-true, not, refl, suc, sym, take, true, zero, zero-add, ℕ}
use native.Mathlib.Nat.{add_assoc, le_of_lt}
use mathlib.Core.List.{append_assoc, append-nil}
use lib.ListN.{get_or-append, take-append-drop}
use lib.Seq.{get_or-append-add, get_or-take, length-take-le, take_all}
use Rattle.trace_model.proofs.Runs.{after-after, after-stands, closing-ended, played-append, played-ended, played-version, stands_after}
use Rattle.trace_model.proofs.Sizes.{lot, lots-room, lots-whole, more-records, records-step, size-least, whole-records}
use Rattle.trace_model.specs.Format.{cut_record, entry_at, entry_of, headed, header_bytes, header_of, length_at, longest_line, sign_ok, number_at, record_bytes, records_from, records_of, trace_shape}
use Rattle.trace_model.specs.Play.{after, begun, closing, ending, in_pieces, opening, out_bytes, piece_bytes, piece_of, piece_run, pieces_text, played, program_lots, run, Run, shut, stands, Step, turn, while_live}
use Rattle.trace_model.specs.Program.{empty_store, end_of, text_from, text_of, trace_text}
use Rattle.std.specs.Prelude.{None, Option, Some}
use Rattle.trace_model.specs.declared.Header.{Header}
use Rattle.laws.specs.Prelude.{Request}
use Rattle.trace_model.specs.declared.Playing.{Playing}
use Rattle.trace_model.specs.declared.Version.{Version}
use Rattle.trace_model.specs.declared.Version.TheVariants.{One, Two}

-- ---- a record by its bytes
number-ext : (bs cs : List ℕ) (i j : ℕ) → ((d : ℕ) → d < 4 → get_or bs (i + d) 0 ≡ get_or cs (j + d) 0) → number_at bs i ≡ number_at cs j
number-ext bs cs i j h =
    let e : get_or bs i 0 ≡ get_or cs j 0 = rw (add-zero i, add-zero j) at (h 0 (omega arith)) in
    omega (arith, h 1 (omega arith), h 2 (omega arith), h 3 (omega arith))

shift : (bs cs : List ℕ) (i j e d : ℕ) → get_or bs (i + (e + d)) 0 ≡ get_or cs (j + (e + d)) 0 → get_or bs (i + e + d) 0 ≡ get_or cs (j + e + d) 0
shift bs cs i j e d p = ap (λ (k : ℕ). get_or bs k 0) (add_assoc i e d) ∙ p ∙ sym (ap (λ (k : ℕ). get_or cs k 0) (add_assoc j e d))

length-ext : (v : Version) (bs cs : List ℕ) (i j : ℕ) → ((d : ℕ) → d < record_bytes v → get_or bs (i + d) 0 ≡ get_or cs (j + d) 0) → length_at v bs i ≡ length_at v cs j
unfolding length_at
length-ext One bs cs i j h = refl
length-ext Two bs cs i j h = number-ext bs cs (i + 9) (j + 9) (λ d l. shift bs cs i j 9 d (h (9 + d) (omega arith)))

entry-ext : (v : Version) (bs cs : List ℕ) (i j : ℕ) → ((d : ℕ) → d < record_bytes v → get_or bs (i + d) 0 ≡ get_or cs (j + d) 0) → entry_at v bs i ≡ entry_at v cs j
unfolding entry_at
entry-ext v bs cs i j h =
    let nine : 9 ≤ record_bytes v = size-least v in
    let c : get_or bs i 0 ≡ get_or cs j 0 = rw (add-zero i, add-zero j) at (h 0 (omega arith)) in
    let r : number_at bs (i + 1) ≡ number_at cs (j + 1) = number-ext bs cs (i + 1) (j + 1) (λ d l. shift bs cs i j 1 d (h (1 + d) (omega arith))) in
    let t : number_at bs (i + 5) ≡ number_at cs (j + 5) = number-ext bs cs (i + 5) (j + 5) (λ d l. shift bs cs i j 5 d (h (5 + d) (omega arith))) in
    let l : length_at v bs i ≡ length_at v cs j = length-ext v bs cs i j h in
    λ k. entry_of (c k) (element (r k) (t k) (l k))

module _ (v : Version) (a b : List ℕ) where
  entry_first : (i : ℕ) → i + record_bytes v ≤ length a → entry_at v (a ++ b) i ≡ entry_at v a i
  entry_first i h = entry-ext v (a ++ b) a i i (λ d l. get_or-append a b 0 (i + d) (omega arith))

  entry-second : (i : ℕ) → entry_at v (a ++ b) (length a + i) ≡ entry_at v b i
  entry-second i = entry-ext v (a ++ b) b (length a + i) i (λ d l. ap (λ (k : ℕ). get_or (a ++ b) k 0) (add_assoc (length a) i d) ∙ get_or-append-add a b (i + d) 0)

  records-first : (k i : ℕ) → i + record_bytes v * k ≤ length a → records_from v k i (a ++ b) ≡ records_from v k i a
  unfolding records_from
  records-first zero i h = refl
  records-first (suc k) i h =
      let step : i + record_bytes v + record_bytes v * k ≤ length a = rw (records-step v i k, add-one) h in
      ap₂ (λ (e : Option Request) (es : List (Option Request)). e ∷ es) (entry_first i (omega arith)) (records-first k (i + record_bytes v) step)

  records-second : (k i : ℕ) → records_from v k (length a + i) (a ++ b) ≡ records_from v k i b
  unfolding records_from
  records-second zero i = refl
  records-second (suc k) i =
      ap₂ (λ (e : Option Request) (es : List (Option Request)). e ∷ es) (entry-second i)
      (ap (λ (j : ℕ). records_from v k j (a ++ b)) (add_assoc (length a) i (record_bytes v)) ∙ records-second k (i + record_bytes v))

records-more : (v : Version) (k j i : ℕ) (bs : List ℕ) → records_from v (k + j) i bs ≡ records_from v k i bs ++ records_from v j (i + record_bytes v * k) bs
unfolding records_from
records-more v zero j i bs =
    let e : i + record_bytes v * 0 ≡ i = omega arith in
    ap (λ (k : ℕ). records_from v k i bs) (zero-add j) ∙ ap (λ (i : ℕ). records_from v j i bs) (sym e)
records-more v (suc k) j i bs =
    let s : suc k + j ≡ suc (k + j) = omega arith in
    let e : i + record_bytes v + record_bytes v * k ≡ i + record_bytes v * suc k = rw (← add-one k) (records-step v i k) in
    ap (λ (n : ℕ). records_from v n i bs) s
    ∙ ap (λ (es : List (Option Request)). entry_at v bs i ∷ es) (records-more v k j (i + record_bytes v) bs ∙ ap (λ (n : ℕ). records_from v k (i + record_bytes v) bs ++ records_from v j n bs) e)

-- the records of whole records and what comes behind them
module _ (v : Version) (a b : List ℕ) (k : ℕ) (whole : length a ≡ record_bytes v * k) where
  pub records-whole : records_of v a ≡ records_from v k 0 a
  unfolding records_of cut_record
  records-whole = let w = whole-records v (length a) k whole in rw (w.0, w.1) (append-nil (records_from v k 0 a))

  pub records-append : records_of v (a ++ b) ≡ records_of v a ++ records_of v b
  unfolding records_of
  records-append =
      let long : length (a ++ b) ≡ record_bytes v * k + length b = length-append a b ∙ ap (λ (n : ℕ). n + length b) whole in
      let w = more-records v (length (a ++ b)) k (length b) long in
      let from : 0 + record_bytes v * k ≡ length a + 0 = omega arith in
      let n : ℕ = length b / record_bytes v in
      let c : List (Option Request) = cut_record (not (eqb (length b % record_bytes v) 0)) in
      ap₂ (λ (n m : ℕ). records_from v n 0 (a ++ b) ++ cut_record (not (eqb m 0))) w.0 w.1
      ∙ ap (λ (es : List (Option Request)). es ++ c)
      (records-more v k n 0 (a ++ b)
      ∙ ap₂ (λ (es fs : List (Option Request)). es ++ fs) (records-first v a b k 0 (omega arith)) (ap (λ (i : ℕ). records_from v n i (a ++ b)) from ∙ records-second v a b n 0))
      ∙ append_assoc (records_from v k 0 a) (records_from v n 0 b) c
      ∙ ap (λ (es : List (Option Request)). es ++ records_of v b) (sym records-whole)

-- ---- steps
after_same : (u : Run) (f g : Step) → f u.play u.words ≡ g u.play u.words → after u f ≡ after u g
unfolding after
after_same u f g e = ap (λ (v : Run). run v.words v.play (u.text ++ v.text)) e

ended-after : (u : Run) (f : Step) → u.play.live ≡ false → after u (while_live f) ≡ u
unfolding while_live
ended-after u f e =
    after_same u (while_live f) stands (ap (λ (b : Bool). cond b (f u.play u.words) (stands u.play u.words)) e) ∙ after-stands u

live_same : (f g : Step) (p : Playing) (ws : List ℕ) → f p ws ≡ g p ws → while_live f p ws ≡ while_live g p ws
unfolding while_live
live_same f g p ws e = ap (λ (u : Run). cond p.live u (stands p ws)) e

-- a piece that is the last ends the play
last-ends : (bs : List ℕ) (p : Playing) (ws : List ℕ) → (piece_run bs true p ws).play.live ≡ false
unfolding piece_run after closing while_live ending
last-ends bs p ws = let u : Run = played (records_of p.version bs) p ws in closing-ends u.play u.words
  where
    closing-ends : (p : Playing) (ws : List ℕ) → (closing true p ws).play.live ≡ false
    closing-ends p ws = go p.live refl
      where
        go : (b : Bool) → p.live ≡ b → (cond b (ending p ws) (stands p ws)).play.live ≡ false
        go true e = refl
        go false e = e

-- an ended play is not gone on with
piece-ended : (bs : List ℕ) (last : Bool) (p : Playing) (ws : List ℕ) → p.live ≡ false → piece_run bs last p ws ≡ stands p ws
unfolding piece_run
piece-ended bs last p ws e =
    ap (λ (u : Run). after u (closing last)) (played-ended (records_of p.version bs) p ws e) ∙ stands_after p ws (closing last) ∙ closing-ended last p ws e

live-piece : (bs : List ℕ) (last : Bool) (p : Playing) (ws : List ℕ) → while_live (piece_run bs last) p ws ≡ piece_run bs last p ws
unfolding while_live
live-piece bs last p ws = go p.live refl
  where
    go : (b : Bool) → p.live ≡ b → cond b (piece_run bs last p ws) (stands p ws) ≡ piece_run bs last p ws
    go true e = refl
    go false e = sym (piece-ended bs last p ws e)

-- TWO PIECES: whole records, and what comes behind them
pub two-pieces : (a b : List ℕ) (k : ℕ) (p : Playing) → length a ≡ record_bytes p.version * k → (last : Bool) (ws : List ℕ)
    → piece_run (a ++ b) last p ws ≡ after (piece_run a false p ws) (piece_run b last)
unfolding piece_run closing
two-pieces a b k p whole last ws =
    let v : Version = p.version in
    let u : Run = played (records_of v a) p ws in
    ap (λ (es : List (Option Request)). after (played es p ws) (closing last)) (records-append v a b k whole)
    ∙ ap (λ (u : Run). after u (closing last)) (played-append (records_of v a) (records_of v b) p ws)
    ∙ after-after u (played (records_of v b)) (closing last)
    ∙ after_same u (λ q vs. after (played (records_of v b) q vs) (closing last)) (piece_run b last)
    (ap (λ (v : Version). after (played (records_of v b) u.play u.words) (closing last)) (sym (played-version (records_of v a) p ws)))
    ∙ ap (λ (u : Run). after u (piece_run b last)) (sym (after-stands u))

-- ---- in pieces of r lots
module _ (r : ℕ) (some : 0 < r) where
  -- ROOM: the buffer has room for every piece
  pub room-enough : (bs : List ℕ) (last : Bool) (p : Playing) (ws : List ℕ) → length bs ≤ piece_bytes r → piece_of bs last (out_bytes r) p ws ≡ piece_run bs last p ws
  unfolding piece_of
  room-enough bs last p ws h =
      ap (λ (b : Bool). cond b (piece_run bs last p ws) (stands p ws))
      (lt-ltb (length bs / record_bytes p.version) (out_bytes r / longest_line) (lots-room p.version r (length bs) h))

  pieces-run : (k : ℕ) (bs : List ℕ) (p : Playing) (ws : List ℕ) → length bs < k → in_pieces r k bs p ws ≡ piece_run bs true p ws
  unfolding in_pieces
  pieces-run zero bs p ws h = absurd (omega arith)
  pieces-run (suc k) bs p ws h = go (ltb (length bs) (piece_bytes r)) refl (pieces-run k (drop (piece_bytes r) bs))
    where
      a : List ℕ
      a = take (piece_bytes r) bs

      b : List ℕ
      b = drop (piece_bytes r) bs

      go : (t : Bool) → ltb (length bs) (piece_bytes r) ≡ t → ((q : Playing) (vs : List ℕ) → length b < k → in_pieces r k b q vs ≡ piece_run b true q vs)
          → after (piece_of a t (out_bytes r) p ws) (while_live (in_pieces r k b)) ≡ piece_run bs true p ws
      go true e ih =
          let short : length bs < piece_bytes r = ltb-true (length bs) (piece_bytes r) e in
          let all : a ≡ bs = take_all (piece_bytes r) bs (omega arith) in
          ap (λ (a : List ℕ). after (piece_of a true (out_bytes r) p ws) (while_live (in_pieces r k b))) all
          ∙ ap (λ (u : Run). after u (while_live (in_pieces r k b))) (room-enough bs true p ws (omega arith))
          ∙ ended-after (piece_run bs true p ws) (in_pieces r k b) (last-ends bs p ws)
      go false e ih =
          let full : piece_bytes r ≤ length bs = ltb-false (length bs) (piece_bytes r) e in
          let whole : length a ≡ piece_bytes r = length-take-le (piece_bytes r) bs full in
          let u : Run = piece_run a false p ws in
          ap (λ (u : Run). after u (while_live (in_pieces r k b))) (room-enough a false p ws (omega arith))
          ∙ after_same u (while_live (in_pieces r k b)) (piece_run b true)
          (live_same (in_pieces r k b) (piece_run b true) u.play u.words (ih u.play u.words (omega (arith, length-drop (piece_bytes r) bs)))
          ∙ live-piece b true u.play u.words)
          ∙ sym (two-pieces a b (r * lot p.version) p (lots-whole p.version r (length a) whole) true ws)
          ∙ ap (λ (bs : List ℕ). piece_run bs true p ws) (take-append-drop (piece_bytes r) bs)

-- ---- the whole text
after_text : (u : Run) (f : Step) → (after u f).text ≡ u.text ++ (f u.play u.words).text
unfolding after
after_text u f = refl

closing-text : (p : Playing) (ws : List ℕ) → p.live ≡ true → (closing true p ws).text ≡ end_of p.order p.levels p.state ws
unfolding closing while_live ending
closing-text p ws e = ap (λ (b : Bool). (cond b (ending p ws) (stands p ws)).text) e

text-next : (x : Option Request) (es : List (Option Request)) (p : Playing) (ws : List ℕ) → p.live ≡ true
    → (after (played (x ∷ es) p ws) (closing true)).text ≡ (turn x p ws).text ++ (after (played es (turn x p ws).play (turn x p ws).words) (closing true)).text
unfolding played while_live
text-next x es p ws e =
    ap (λ (b : Bool). (after (after (cond b (turn x p ws) (stands p ws)) (played es)) (closing true)).text) e
    ∙ ap (λ (u : Run). u.text) (after-after (turn x p ws) (played es) (closing true))
    ∙ after_text (turn x p ws) (λ q vs. after (played es q vs) (closing true))

text-from : (es : List (Option Request)) (p : Playing) (ws : List ℕ) → p.live ≡ true
    → (after (played es p ws) (closing true)).text ≡ text_from p.order p.levels p.version p.number p.state ws es
unfolding played text_from turn
text-from [] p ws e = ap (λ (u : Run). u.text) (stands_after p ws (closing true)) ∙ closing-text p ws e
text-from (None ∷ es) p ws e =
    text-next None es p ws e
    ∙ ap (λ (u : Run). (turn None p ws).text ++ (after u (closing true)).text) (played-ended es (turn None p ws).play ws refl)
    ∙ ap (λ (u : Run). (turn None p ws).text ++ u.text) (stands_after (turn None p ws).play ws (closing true) ∙ closing-ended true (turn None p ws).play ws refl)
    ∙ append-nil (turn None p ws).text
text-from (Some r ∷ es) p ws e =
    text-next (Some r) es p ws e
    ∙ ap (λ (t : List ℕ). (turn (Some r) p ws).text ++ t) (text-from es (turn (Some r) p ws).play (turn (Some r) p ws).words refl)

header-long : (bs : List ℕ) → header_bytes ≤ length bs → header_of (take header_bytes bs) ≡ header_of bs
unfolding header_of sign_ok
header-long bs h =
    let same : (i : ℕ) → i < header_bytes → get_or (take header_bytes bs) i 0 ≡ get_or bs i 0 = λ i l. get_or-take header_bytes bs i 0 l in
    let long : leb header_bytes (length (take header_bytes bs)) ≡ leb header_bytes (length bs) =
    ap (leb header_bytes) (length-take-le header_bytes bs h) ∙ sym (le-leb header_bytes (length bs) h) in
    let b0 = same 0 (omega arith) in
    let b1 = same 1 (omega arith) in
    let b2 = same 2 (omega arith) in
    let b3 = same 3 (omega arith) in
    let b4 = same 4 (omega arith) in
    let b5 = same 5 (omega arith) in
    let b6 = same 6 (omega arith) in
    λ k. cond (long k && ((eqb (b0 k) 80 && (eqb (b1 k) 70 && eqb (b2 k) 84)) && trace_shape (b5 k) (b6 k))) (headed (b3 k + 256 * b4 k) (b5 k) (b6 k)) None

-- the header's bytes are enough for the header
header-first : (bs : List ℕ) → header_of (take header_bytes bs) ≡ header_of bs
header-first bs = go (leb header_bytes (length bs)) refl
  where
    go : (b : Bool) → leb header_bytes (length bs) ≡ b → header_of (take header_bytes bs) ≡ header_of bs
    go true e = header-long bs (leb-true header_bytes (length bs) e)
    go false e = ap header_of (take_all header_bytes bs (le_of_lt (leb-false header_bytes (length bs) e)))

whole-text : (bs : List ℕ) (p : Playing) (ws : List ℕ) → p.live ≡ true → (piece_run bs true p ws).text ≡ text_from p.order p.levels p.version p.number p.state ws (records_of p.version bs)
unfolding piece_run
whole-text bs p ws e = text-from (records_of p.version bs) p ws e

by-header : (r : ℕ) → 0 < r → (h : Option Header) (rest : List ℕ)
    → (after (opening h empty_store) (while_live (in_pieces r (suc (length rest)) rest))).text ≡ text_of h rest
unfolding opening text_of
by-header r some None rest = ap (λ (u : Run). u.text) (ended-after (opening None empty_store) (in_pieces r (suc (length rest)) rest) refl)
by-header r some (Some h) rest =
    let u : Run = opening (Some h) empty_store in
    ap (λ (v : Run). v.text) (after_same u (while_live (in_pieces r (suc (length rest)) rest)) (piece_run rest true)
    (live_same (in_pieces r (suc (length rest)) rest) (piece_run rest true) u.play u.words (pieces-run r some (suc (length rest)) rest u.play u.words (omega arith))
    ∙ live-piece rest true u.play u.words))
    ∙ after_text u (piece_run rest true)
    ∙ whole-text rest u.play u.words refl

-- THE PROGRAM: read in pieces of any number of lots, in either version, it writes the text that the whole is defined by
pub pieces : (r : ℕ) → 0 < r → (bs : List ℕ) → pieces_text r bs ≡ trace_text bs
unfolding pieces_text trace_text begun
pieces r some bs =
    let rest : List ℕ = drop header_bytes bs in
    let ws : List ℕ = empty_store in
    let room : longest_line ≤ out_bytes r = omega arith in
    ap (λ (b : Bool). (after (cond b (opening (header_of (take header_bytes bs)) ws) (run ws shut [])) (while_live (in_pieces r (suc (length rest)) rest))).text) (le-leb longest_line (out_bytes r) room)
    ∙ ap (λ (h : Option Header). (after (opening h ws) (while_live (in_pieces r (suc (length rest)) rest))).text) (header-first bs)
    ∙ by-header r some (header_of bs) rest

-- .. and so with the program's own pieces
pub program : (bs : List ℕ) → pieces_text program_lots bs ≡ trace_text bs
program bs = pieces program_lots (omega arith) bs

-- ---- piece by piece
-- what is left, played as one last piece, is written by the next piece and what is left then
pub next_piece : (r : ℕ) → (bs : List ℕ) (p : Playing) (ws : List ℕ)
    → let u = piece_run (take (piece_bytes r) bs) (ltb (length bs) (piece_bytes r)) p ws in
    u.text ++ (piece_run (drop (piece_bytes r) bs) true u.play u.words).text ≡ (piece_run bs true p ws).text
next_piece r bs p ws = go (ltb (length bs) (piece_bytes r)) refl
  where
    a : List ℕ
    a = take (piece_bytes r) bs

    b : List ℕ
    b = drop (piece_bytes r) bs

    go : (t : Bool) → ltb (length bs) (piece_bytes r) ≡ t
        → (piece_run a t p ws).text ++ (piece_run b true (piece_run a t p ws).play (piece_run a t p ws).words).text ≡ (piece_run bs true p ws).text
    go true e =
        let short : length bs < piece_bytes r = ltb-true (length bs) (piece_bytes r) e in
        let u : Run = piece_run a true p ws in
        ap (λ (v : Run). u.text ++ v.text) (piece-ended b true u.play u.words (last-ends a p ws))
        ∙ append-nil u.text
        ∙ ap (λ (a : List ℕ). (piece_run a true p ws).text) (take_all (piece_bytes r) bs (omega arith))
    go false e =
        let full : piece_bytes r ≤ length bs = ltb-false (length bs) (piece_bytes r) e in
        let whole : length a ≡ piece_bytes r = length-take-le (piece_bytes r) bs full in
        let u : Run = piece_run a false p ws in
        sym (after_text u (piece_run b true))
        ∙ ap (λ (u : Run). u.text) (sym (two-pieces a b (r * lot p.version) p (lots-whole p.version r (length a) whole) true ws) ∙ ap (λ (bs : List ℕ). piece_run bs true p ws) (take-append-drop (piece_bytes r) bs))

-- a piece that leaves the play live was full
pub live_full : (r : ℕ) → (bs : List ℕ) (p : Playing) (ws : List ℕ)
    → (piece_run (take (piece_bytes r) bs) (ltb (length bs) (piece_bytes r)) p ws).play.live ≡ true → piece_bytes r ≤ length bs
live_full r bs p ws = go (ltb (length bs) (piece_bytes r)) refl
  where
    go : (t : Bool) → ltb (length bs) (piece_bytes r) ≡ t → (piece_run (take (piece_bytes r) bs) t p ws).play.live ≡ true → piece_bytes r ≤ length bs
    go true e live = absurd (cc (last-ends (take (piece_bytes r) bs) p ws))
    go false e live = ltb-false (length bs) (piece_bytes r) e

-- an ended play writes no more
pub ended_text : (bs : List ℕ) (p : Playing) (ws : List ℕ) → p.live ≡ false → (piece_run bs true p ws).text ≡ []
ended_text bs p ws e = ap (λ (u : Run). u.text) (piece-ended bs true p ws e)

-- the header, and the rest as one last piece, are the whole
pub first_piece : (r : ℕ) → 0 < r → (bs : List ℕ)
    → let u = begun (take header_bytes bs) (out_bytes r) empty_store in
    u.text ++ (piece_run (drop header_bytes bs) true u.play u.words).text ≡ trace_text bs
unfolding pieces_text
first_piece r some bs =
    let rest : List ℕ = drop header_bytes bs in
    let u : Run = begun (take header_bytes bs) (out_bytes r) empty_store in
    sym (after_text u (piece_run rest true))
    ∙ ap (λ (v : Run). v.text) (sym (after_same u (while_live (in_pieces r (suc (length rest)) rest)) (piece_run rest true)
    (live_same (in_pieces r (suc (length rest)) rest) (piece_run rest true) u.play u.words (pieces-run r some (suc (length rest)) rest u.play u.words (omega arith))
    ∙ live-piece rest true u.play u.words)))
    ∙ pieces r some bs
