-- A play step by step, by what the code has done.
use Rattle.laws.specs.Prelude.{Answer, Bool, List, Request, [], ◌%◌, ◌++◌, ◌+◌, ◌-◌, ◌/◌, ◌<◌, ◌∙◌, ◌∷◌, ◌≡◌, ◌≤◌, ap, ap₂, arith, cond, count_of, eqb, false, le-leb, le-ltb, length, length-append, lt-leb, lt-ltb, not, not-false, not-true, refl, subst, suc, sym, true, zero, ℕ, Result, Refusal}
use mathlib.Core.List.{append_assoc, append-nil}
use Rattle.tree_clock_model.specs.Prelude.{CycleOutcome, DrainOutcome, cleared_machine, cycle_outcome, cycled, drain_outcome, drains, fresh}
use Rattle.tree_clock_model.specs.declared.State.{State}
use Rattle.text.proofs.Laws.{overlay-append, overlay-length}
use Rattle.text.specs.Text.{Laid, overlay}
use Rattle.trace_model.proofs.Lines.{bad-short, end_short, line-short}
use Rattle.trace_model.specs.Format.{bad_line, bad_trace, cut_record, end_line, entry_at, header_of, line_of, longest_line, record_bytes, records_from, records_of}
use Rattle.trace_model.specs.Play.{after, begun, carry, closing, ending, Makes, opening, piece_of, piece_run, played, run, Run, shut, stands, Step, turn, while_live}
use Rattle.trace_model.specs.Program.{end_of, next_number}
use Rattle.std.specs.Prelude.{None, Option, Some}
use Rattle.trace_model.specs.declared.Header.{Header}
use Rattle.trace_model.specs.declared.Piece.{Piece}
use Rattle.trace_model.specs.declared.Playing.{Playing}
use Rattle.trace_model.specs.declared.Version.{Version}
use Rattle.trace_model.specs.declared.Version.TheVariants.{One}
use Rattle.tree_model.specs.Prelude.{held_count}

-- ---- a step after a run
pub after-stands : (u : Run) → after u stands ≡ u
unfolding after
after-stands u = λ i. record { words = u.words; play = u.play; text = append-nil u.text i }

pub stands_after : (p : Playing) (ws : List ℕ) (f : Step) → after (stands p ws) f ≡ f p ws
unfolding after
stands_after p ws f = refl

pub after-after : (u : Run) (f g : Step) → after (after u f) g ≡ after u (λ p ws. after (f p ws) g)
unfolding after
after-after u f g =
    let v = f u.play u.words in
    let w = g v.play v.words in
    λ i. record { words = w.words; play = w.play; text = append_assoc u.text v.text w.text i }

-- ---- a run made
module _ (u : Run) (i : ℕ) (out : List ℕ) (r : Piece) (ws o : List ℕ) where
  pub makes-laid : r.play ≡ u.play → ws ≡ u.words → Laid out i u.text o r.written → i + length u.text ≤ length out → Makes u i out r ws o
  makes-laid p w l h = record { play = p; words = w; written = l.0; text = l.1; within = omega (arith, l.0) }

  pub makes-same : (v : Run) → u ≡ v → Makes u i out r ws o → Makes v i out r ws o
  makes-same v e m = subst (λ (u : Run). Makes u i out r ws o) e m

  pub makes-after : Makes u i out r ws o → (f : Step) (r' : Piece) (ws' o' : List ℕ) → Makes (f r.play ws) r.written o r' ws' o' → Makes (after u f) i out r' ws' o'
  unfolding after
  makes-after m f r' ws' o' n =
      let v : Run = f u.play u.words in
      let e : f r.play ws ≡ v = ap₂ f m.play m.words in
      let long : length (f r.play ws).text ≡ length v.text = ap (λ (v : Run). length v.text) e in
      record {
        play = n.play ∙ ap (λ (v : Run). v.play) e;
        words = n.words ∙ ap (λ (v : Run). v.words) e;
        written = rw length-append (omega (arith, m.written, n.written));
        text = n.text ∙ ap (λ (v : Run). overlay o r.written v.text) e
            ∙ ap₂ (λ (o : List ℕ) (i : ℕ). overlay o i v.text) m.text m.written
            ∙ sym (overlay-append out i u.text v.text);
        within = omega (arith, n.within, ap length m.text, overlay-length out i u.text);
      }

-- nothing done
pub makes_none : (p : Playing) (ws : List ℕ) (i : ℕ) (out : List ℕ) (r : Piece) → r.play ≡ p → r.written ≡ i → i ≤ length out → Makes (run ws p []) i out r ws out
unfolding overlay
makes_none p ws i out r e w h = record { play = e; words = refl; written = omega arith; text = refl; within = omega arith }

-- ---- while it lives
module _ (f : Step) (p : Playing) (ws : List ℕ) where
  live-off : not p.live ≡ true → while_live f p ws ≡ stands p ws
  unfolding while_live
  live-off e = ap (λ (b : Bool). cond b (f p ws) (stands p ws)) (not-true p.live e)

  live_on : not p.live ≡ false → while_live f p ws ≡ f p ws
  unfolding while_live
  live_on e = ap (λ (b : Bool). cond b (f p ws) (stands p ws)) (not-false p.live e)

-- ---- one record
module _ (p : Playing) (ws : List ℕ) (i : ℕ) (out : List ℕ) (room : i + longest_line ≤ length out) (q : Piece) where
  pub good-made : (r : Request) (a : Answer) (vs : List ℕ) (s : State) (n w : ℕ) (o : List ℕ)
      → cycle_outcome a vs s ≡ cycled p.order p.levels r p.state ws → n ≡ next_number p.number → Laid out i (line_of p.version n r a) o w
      → (q.play ≡ carry p s n true) × (q.written ≡ w) → Makes (turn (Some r) p ws) i out q vs o
  unfolding turn
  good-made r a vs s n w o e en l c =
      let done : run vs (carry p s n true) (line_of p.version n r a) ≡ turn (Some r) p ws =
      ap (λ (n : ℕ). run vs (carry p s n true) (line_of p.version n r a)) en
      ∙ ap (λ (o : CycleOutcome). run o.words (carry p o.state (next_number p.number) true) (line_of p.version (next_number p.number) r o.answer)) e in
      makes-same _ i out q vs o _ done
      (makes-laid (run vs (carry p s n true) (line_of p.version n r a)) i out q vs o c.0 refl (c.1 ∙ l.0, l.1) (omega (arith, line-short p.version n r a)))

  pub bad-made : (o : List ℕ) → (q.play ≡ carry p p.state p.number false) × Laid out i (bad_line (next_number p.number)) o q.written → Makes (turn None p ws) i out q ws o
  unfolding turn
  bad-made o c = makes-laid _ i out q ws o c.0 refl c.1 (omega (arith, bad-short (next_number p.number)))

module _ (q : Piece) (ws out : List ℕ) (room : q.written + longest_line ≤ length out) where
  pub record-ended : (f : Step) → not q.play.live ≡ true → Makes (while_live f q.play ws) q.written out q ws out
  record-ended f e = makes-same _ q.written out q ws out _ (sym (live-off f q.play ws e)) (makes_none q.play ws q.written out q refl refl (omega arith))

  module _ (bs : List ℕ) (at : ℕ) (lives : not q.play.live ≡ false) (x : Option Request) (found : x ≡ entry_at q.play.version bs at) (r : Piece) where
    pub record-bad : (o : List ℕ) → x ≡ None
        → (r.play ≡ carry q.play q.play.state q.play.number false) × Laid out q.written (bad_line (next_number q.play.number)) o r.written
        → Makes (while_live (turn (entry_at q.play.version bs at)) q.play ws) q.written out r ws o
    record-bad o e c =
        makes-same _ q.written out r ws o _ (ap (λ (x : Option Request). turn x q.play ws) (sym e ∙ found) ∙ sym (live_on (turn (entry_at q.play.version bs at)) q.play ws lives))
        (bad-made q.play ws q.written out room r o c)

    pub record-good : (request : Request) (vs o : List ℕ) → x ≡ Some request → Makes (turn (Some request) q.play ws) q.written out r vs o
        → Makes (while_live (turn (entry_at q.play.version bs at)) q.play ws) q.written out r vs o
    record-good request vs o e c =
        makes-same _ q.written out r vs o _ (ap (λ (x : Option Request). turn x q.play ws) (sym e ∙ found) ∙ sym (live_on (turn (entry_at q.play.version bs at)) q.play ws lives)) c

-- ---- so many records
turn-short : (e : Option Request) (p : Playing) (ws : List ℕ) → length (while_live (turn e) p ws).text ≤ longest_line
unfolding while_live turn
turn-short e p ws = go p.live e
  where
    go : (b : Bool) (e : Option Request) → length (cond b (turn e p ws) (stands p ws)).text ≤ longest_line
    go false e = omega arith
    go true None = bad-short (next_number p.number)
    go true (Some r) = line-short p.version (next_number p.number) r (cycled p.order p.levels r p.state ws).answer

pub written_next : (e : Option Request) (q : Piece) (ws o : List ℕ) (r : Piece) (ws' o' : List ℕ)
    → Makes (while_live (turn e) q.play ws) q.written o r ws' o' → r.written ≤ q.written + longest_line
written_next e q ws o r ws' o' m = omega (arith, m.written, turn-short e q.play ws)

-- no step changes the version
turn-version : (e : Option Request) (p : Playing) (ws : List ℕ) → (while_live (turn e) p ws).play.version ≡ p.version
unfolding while_live turn
turn-version e p ws = go p.live e
  where
    go : (b : Bool) (e : Option Request) → (cond b (turn e p ws) (stands p ws)).play.version ≡ p.version
    go false e = refl
    go true None = refl
    go true (Some r) = refl

pub played-version : (es : List (Option Request)) (p : Playing) (ws : List ℕ) → (played es p ws).play.version ≡ p.version
unfolding played after
played-version [] p ws = refl
played-version (e ∷ es) p ws = let u : Run = while_live (turn e) p ws in played-version es u.play u.words ∙ turn-version e p ws

records-next : (v : Version) (left at : ℕ) (bs : List ℕ) → 0 < left → records_from v left at bs ≡ entry_at v bs at ∷ records_from v (left - 1) (at + record_bytes v) bs
unfolding records_from
records-next v zero at bs h = absurd (omega arith)
records-next v (suc k) at bs h = let e : k ≡ suc k - 1 = omega arith in ap (λ (k : ℕ). entry_at v bs at ∷ records_from v k (at + record_bytes v) bs) e

module _ (bs : List ℕ) (p₀ : Playing) (ws₀ out₀ : List ℕ) where
  abbrev v : Version
  v = p₀.version

  abbrev all : Run
  all = played (records_from v (length bs / record_bytes v) 0 bs) p₀ ws₀

  -- where the loop stands with so many records left, the next of them at this place
  pub record At (left at : ℕ) (q : Piece) (ws o : List ℕ) : Type 0 where
    pub done : Run
    pub made : Makes done 0 out₀ q ws o
    pub same : q.play.version ≡ v
    pub rest : after done (played (records_from v left at bs)) ≡ all

  -- by the size that the code has read
  module _ (size : ℕ) (read : size ≡ record_bytes v) where
    pub at-start : (q : Piece) → q.play ≡ p₀ → q.written ≡ 0 → At (length bs / size) 0 q ws₀ out₀
    at-start q e w =
        record {
          done = stands p₀ ws₀;
          made = makes_none p₀ ws₀ 0 out₀ q e w (omega arith);
          same = ap (λ (p : Playing). p.version) e;
          rest = stands_after p₀ ws₀ _ ∙ ap (λ (n : ℕ). played (records_from v (length bs / n) 0 bs) p₀ ws₀) read;
        }

    pub at_next : (left at : ℕ) (q : Piece) (ws o : List ℕ) → At left at q ws o → 0 < left → (r : Piece) (ws' o' : List ℕ)
        → Makes (while_live (turn (entry_at q.play.version bs at)) q.play ws) q.written o r ws' o' → At (left - 1) (at + size) r ws' o'
    unfolding played
    at_next left at q ws o a h r ws' o' m =
        let x : Option Request = entry_at v bs at in
        let m' : Makes (while_live (turn x) q.play ws) q.written o r ws' o' =
        subst (λ (w : Version). Makes (while_live (turn (entry_at w bs at)) q.play ws) q.written o r ws' o') a.same m in
        record {
          done = after a.done (while_live (turn x));
          made = makes-after a.done 0 out₀ q ws o a.made (while_live (turn x)) r ws' o' m';
          same = ap (λ (p : Playing). p.version) m'.play ∙ turn-version x q.play ws ∙ a.same;
          rest = after-after a.done (while_live (turn x)) (played (records_from v (left - 1) (at + size) bs))
              ∙ ap (λ (n : ℕ). after a.done (played (x ∷ records_from v (left - 1) (at + n) bs))) read
              ∙ ap (λ (es : List (Option Request)). after a.done (played es)) (sym (records-next v left at bs h)) ∙ a.rest;
        }

  pub at-end : (left at : ℕ) (q : Piece) (ws o : List ℕ) → At left at q ws o → left ≡ 0 → Makes all 0 out₀ q ws o
  unfolding played records_from
  at-end left at q ws o a e =
      makes-same _ 0 out₀ q ws o _ (sym (after-stands a.done) ∙ subst (λ (k : ℕ). after a.done (played (records_from v k at bs)) ≡ all) e a.rest) a.made

-- ---- behind the whole records
pub played-ended : (es : List (Option Request)) (p : Playing) (ws : List ℕ) → p.live ≡ false → played es p ws ≡ stands p ws
unfolding played while_live
played-ended [] p ws e = refl
played-ended (x ∷ es) p ws e = ap (λ (b : Bool). after (cond b (turn x p ws) (stands p ws)) (played es)) e ∙ stands_after p ws (played es) ∙ played-ended es p ws e

pub closing-ended : (last : Bool) (p : Playing) (ws : List ℕ) → p.live ≡ false → closing last p ws ≡ stands p ws
unfolding closing while_live
closing-ended true p ws e = ap (λ (b : Bool). cond b (ending p ws) (stands p ws)) e
closing-ended false p ws e = refl

abbrev pub rest_of : Bool → Bool → Step
rest_of cut last p ws = after (played (cut_record cut) p ws) (closing last)

-- a run that ends the play is not gone on with
after-ended : (u : Run) → u.play.live ≡ false → (last : Bool) → after u (closing last) ≡ u
unfolding after
after-ended u e last = ap (λ (v : Run). after₁ v) (closing-ended last u.play u.words e) ∙ after-stands u
  where
    after₁ : Run → Run
    after₁ v = run v.words v.play (u.text ++ v.text)

module _ (p : Playing) (ws : List ℕ) where
  rest-off : (cut last : Bool) → p.live ≡ false → rest_of cut last p ws ≡ stands p ws
  rest-off cut last e =
      ap (λ (u : Run). after u (closing last)) (played-ended (cut_record cut) p ws e) ∙ stands_after p ws (closing last) ∙ closing-ended last p ws e

  bad-first : not p.live ≡ false → played (cut_record true) p ws ≡ turn None p ws
  unfolding played cut_record
  bad-first e = ap (λ (u : Run). after u stands) (live_on (turn None) p ws e) ∙ after-stands (turn None p ws)

  rest-bad : (last : Bool) → not p.live ≡ false → rest_of true last p ws ≡ turn None p ws
  unfolding turn
  rest-bad last e = ap (λ (u : Run). after u (closing last)) (bad-first e) ∙ after-ended (turn None p ws) refl last

  rest-none : (last : Bool) → rest_of false last p ws ≡ closing last p ws
  unfolding played cut_record
  rest-none last = stands_after p ws (closing last)

module _ (q : Piece) (ws out : List ℕ) (room : q.written + longest_line ≤ length out) (cut last : Bool) where
  pub rest_ended : not q.play.live ≡ true → Makes (rest_of cut last q.play ws) q.written out q ws out
  rest_ended e =
      makes-same _ q.written out q ws out _ (sym (rest-off q.play ws cut last (not-true q.play.live e)))
      (makes_none q.play ws q.written out q refl refl (omega arith))

  module _ (lives : not q.play.live ≡ false) where
    pub rest-cut : cut ≡ true → (r : Piece) (o : List ℕ)
        → (r.play ≡ carry q.play q.play.state q.play.number false) × Laid out q.written (bad_line (next_number q.play.number)) o r.written
        → Makes (rest_of cut last q.play ws) q.written out r ws o
    rest-cut e r o c =
        makes-same _ q.written out r ws o _ (sym (ap (λ (cut : Bool). rest_of cut last q.play ws) e ∙ rest-bad q.play ws last lives))
        (bad-made q.play ws q.written out room r o c)

    module _ (whole : cut ≡ false) where
      none : rest_of cut last q.play ws ≡ closing last q.play ws
      none = ap (λ (cut : Bool). rest_of cut last q.play ws) whole ∙ rest-none q.play ws last

      pub rest-last : last ≡ true → (r : Piece) (vs o : List ℕ) → Makes (ending q.play ws) q.written out r vs o → Makes (rest_of cut last q.play ws) q.written out r vs o
      unfolding closing
      rest-last e r vs o m =
          makes-same _ q.written out r vs o _
          (sym (none ∙ ap (λ (last : Bool). closing last q.play ws) e ∙ live_on ending q.play ws lives)) m

      pub rest_more : last ≡ false → Makes (rest_of cut last q.play ws) q.written out q ws out
      unfolding closing
      rest_more e =
          makes-same _ q.written out q ws out _ (sym (none ∙ ap (λ (last : Bool). closing last q.play ws) e))
          (makes_none q.play ws q.written out q refl refl (omega arith))

-- ---- the drain
pub end-made : (p : Playing) (ws : List ℕ) (i : ℕ) (out : List ℕ) → i + longest_line ≤ length out
    → (a : Answer) (n : ℕ) (left : Bool) (vs : List ℕ) (s : State) (c : Result ℕ Refusal) (h w : ℕ) (o : List ℕ) (q : Piece)
    → drain_outcome a n left vs s ≡ drains p.order p.levels p.levels p.state ws → c ≡ held_count p.order p.levels vs → h ≡ count_of c
    → Laid out i (end_line h n) o w → (q.play ≡ carry p s p.number false) × (q.written ≡ w) → Makes (ending p ws) i out q vs o
unfolding ending end_of
end-made p ws i out room a n left vs s c h w o q e ec eh l k =
    let done : run vs (carry p s p.number false) (end_line h n) ≡ ending p ws =
    ap (λ (h : ℕ). run vs (carry p s p.number false) (end_line h n)) (eh ∙ ap count_of ec)
    ∙ ap (λ (d : DrainOutcome). run d.words (carry p d.state p.number false) (end_line (count_of (held_count p.order p.levels d.words)) d.cycles)) e in
    makes-same _ i out q vs o _ done
    (makes-laid (run vs (carry p s p.number false) (end_line h n)) i out q vs o k.0 refl (k.1 ∙ l.0, l.1) (omega (arith, end_short h n)))

-- ---- the two calls
pub opened-made : (h : Header) (ws : List ℕ) (a : Answer) (vs : List ℕ) (s : State) → cycle_outcome a vs s ≡ cleared_machine h.order h.levels ws
    → (◌≡◌ {A = Playing} (record { version = h.version; order = h.order; levels = h.levels; state = s; number = 0; live = true }) (opening (Some h) ws).play) × (vs ≡ (opening (Some h) ws).words)
unfolding opening
opened-made h ws a vs s e = (
  ap (λ (o : CycleOutcome). record { version = h.version; order = h.order; levels = h.levels; state = o.state; number = 0; live = true }) e,
  ap (λ (o : CycleOutcome). o.words) e,
)

pub closed-made : (s : State) → s ≡ fresh → ◌≡◌ {A = Playing} (record { version = One; order = 0; levels = 0; state = s; number = 0; live = false }) shut
closed-made s e = ap (λ (s : State). record { version = One; order = 0; levels = 0; state = s; number = 0; live = false }) e

module _ (head ws out : List ℕ) (q : Piece) where
  pub begun-none : length out < longest_line → (q.play ≡ shut) × (q.written ≡ 0) → Makes (begun head (length out) ws) 0 out q ws out
  unfolding begun
  begun-none h c = rw (lt-leb longest_line (length out) h) (makes_none shut ws 0 out q c.0 c.1 (omega arith))

  module _ (room : longest_line ≤ length out) (h : Option Header) (told : h ≡ header_of head) where
    begun-as : (x : Option Header) → h ≡ x → opening x ws ≡ begun head (length out) ws
    unfolding begun
    begun-as x e = rw (le-leb longest_line (length out) room) (ap (λ (x : Option Header). opening x ws) (sym e ∙ told))

    pub begun-wrong : (w : ℕ) (o : List ℕ) → h ≡ None → Laid out 0 bad_trace o w → (q.play ≡ shut) × (q.written ≡ w) → Makes (begun head (length out) ws) 0 out q ws o
    unfolding opening
    begun-wrong w o e l c = makes-same _ 0 out q ws o _ (begun-as None e) (makes-laid _ 0 out q ws o c.0 refl (c.1 ∙ l.0, l.1) (omega arith))

    pub begun-shape : (s : Header) (vs : List ℕ) → h ≡ Some s → (q.play ≡ (opening (Some s) ws).play) × (vs ≡ (opening (Some s) ws).words) × (q.written ≡ 0)
        → Makes (begun head (length out) ws) 0 out q vs out
    unfolding opening overlay
    begun-shape s vs e c =
        makes-same _ 0 out q vs out _ (begun-as (Some s) e)
        (record { play = c.0; words = c.1; written = c.2; text = refl; within = omega (arith, c.2) })

pub played-append : (es fs : List (Option Request)) (p : Playing) (ws : List ℕ) → played (es ++ fs) p ws ≡ after (played es p ws) (played fs)
unfolding played after
played-append [] fs p ws = sym (stands_after p ws (played fs))
played-append (x ∷ es) fs p ws =
    let u : Run = while_live (turn x) p ws in
    ap (after₁ u) (played-append es fs u.play u.words) ∙ sym (after-after u (played es) (played fs))
  where
    after₁ : Run → Run → Run
    after₁ u v = run v.words v.play (u.text ++ v.text)

module _ (bs : List ℕ) (last : Bool) (p : Playing) (ws out : List ℕ) where
  abbrev size : ℕ
  size = record_bytes p.version

  abbrev whole : List (Option Request)
  whole = records_from p.version (length bs / size) 0 bs

  abbrev cut_by : ℕ → Bool
  cut_by n = not (eqb (length bs % n) 0)

  abbrev cut : Bool
  cut = cut_by size

  piece-parts : piece_run bs last p ws ≡ after (played whole p ws) (rest_of cut last)
  unfolding piece_run records_of
  piece-parts =
      ap (λ (u : Run). after u (closing last)) (played-append whole (cut_record cut) p ws)
      ∙ after-after (played whole p ws) (played (cut_record cut)) (closing last)

  -- by the size that the code has read
  module _ (n : ℕ) (read : n ≡ size) where
    pub piece-none : length out / longest_line ≤ length bs / n → (q : Piece) → q.play ≡ p → q.written ≡ 0 → Makes (piece_of bs last (length out) p ws) 0 out q ws out
    unfolding piece_of
    piece-none h q e w =
        let h' : length out / longest_line ≤ length bs / size = subst (λ (n : ℕ). length out / longest_line ≤ length bs / n) read h in
        rw (le-ltb (length bs / size) (length out / longest_line) h') (makes_none p ws 0 out q e w (omega arith))

    pub piece-made : length bs / n < length out / longest_line → (r : Piece) (vs o : List ℕ) → Makes (played whole p ws) 0 out r vs o
        → (q : Piece) (us o' : List ℕ) → Makes (rest_of (cut_by n) last r.play vs) r.written o q us o' → Makes (piece_of bs last (length out) p ws) 0 out q us o'
    unfolding piece_of
    piece-made h r vs o m q us o' k =
        let h' : length bs / size < length out / longest_line = subst (λ (n : ℕ). length bs / n < length out / longest_line) read h in
        let k' : Makes (rest_of cut last r.play vs) r.written o q us o' =
        subst (λ (n : ℕ). Makes (rest_of (cut_by n) last r.play vs) r.written o q us o') read k in
        rw (lt-ltb (length bs / size) (length out / longest_line) h')
        (makes-same _ 0 out q us o' _ (sym piece-parts) (makes-after (played whole p ws) 0 out r vs o m (rest_of cut last) q us o' k'))
