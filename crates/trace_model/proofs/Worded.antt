-- Every line of a played trace has a word: from a cleared machine no cycle is refused 1, 2, 4, 8 or 12. The last line says how many are stored.
use Rattle.laws.specs.Prelude.{BadPort, BadRank, BadShape, Bool, Damaged, Empty, Full, List, NoHeap, NoTag, Refusal, Request, TooSoon, [], ◌&&◌, ◌++◌, ◌∙◌, ◌∷◌, ◌≡◌, ◌≤◌, ◌⊎◌, ap, ap₂, arith, cond_both, count_of, drop, false, length, length-replicate, number_of, pred, refl, refusal_number, subst, suc, sym, zero, ℕ, ⊎_elim, Err}
use Rattle.tree_clock_model.proofs.Laws.{cycled-fine, drain-left, drain-state, drained-fine, drained-left, held-says, no-damage-sound, numbers, shape-kept, undamaged}
use Rattle.tree_clock_model.specs.Prelude.{CycleOutcome, DrainOutcome, cleared_machine, cycle_run, cycled, drains, pending, pops_or_replaces, ran, rule_marked, runs}
use Rattle.tree_clock_model.specs.declared.State.{State}
use Rattle.promise.specs.Prelude.{always, leaves}
use Rattle.trace_model.proofs.Bytes.{header-only, taken-shape, trace-shape}
use Rattle.trace_model.specs.Format.{done_word, end_line, header_bytes, header_of, out_word, records_of, refusal_word, word_of}
use Rattle.trace_model.specs.Program.{empty_store, end_of, store_words}
use Rattle.trace_model.specs.Promise.{Silent, TraceWorded, Worded, WordedBy}
use Rattle.std.specs.Prelude.{None, Option, Some}
use Rattle.trace_model.specs.declared.Header.{Header}
use Rattle.trace_model.specs.Format.{header}
use Rattle.trace_model.specs.declared.Version.{Version}
use Rattle.tree_model.proofs.Laws.{comes, is-shape}
use Rattle.tree_model.specs.Prelude.{Comes, Ruling, Shape, empty, full, held_count, idles, lacks, no-tag, puts, room, rule, ruling, stored_count, swaps, takes}
use Rattle.tree_model.specs.declared.Op.TheVariants.{Nothing}
use Rattle.tree_model.specs.declared.Slot.{Slot}

-- ---- what a request comes to has a word
comes-word : (v : Version) (c : ℕ) (nd : List Slot) (r : Request) (g : Ruling) → Comes c nd r g → word_of v r g.answer ≡ [] → ⊥
unfolding word_of done_word refusal_word out_word
comes-word v c nd r g idles e = omega (arith, ap length e)
comes-word v c nd r g (no-tag r' u) e = omega (arith, ap length e)
comes-word v c nd r g (puts x u h) e = omega (arith, ap length e)
comes-word v c nd r g (full x u h) e = omega (arith, ap length e)
comes-word v c nd r g (takes h) e = omega (arith, ap length e)
comes-word v c nd r g (empty h) e = omega (arith, ap length e)
comes-word v c nd r g (swaps x u h) e = omega (arith, ap length e)
comes-word v c nd r g (lacks x u h) e = omega (arith, ap length e)

rule_marked-word : (v : Version) (mark : Bool) (r : Request) (c : ℕ) (nd : List Slot) → word_of v r (rule_marked mark r (rule c r nd)).answer ≡ [] → ⊥
unfolding rule_marked word_of refusal_word
rule_marked-word v mark r c nd =
    cond_both (λ (g : Ruling). word_of v r g.answer ≡ [] → ⊥) (mark && pops_or_replaces r) (ruling (Err TooSoon) Nothing) (rule c r nd) (λ t e. omega (arith, ap length e))
    (λ t. comes-word v c nd r (rule c r nd) (comes c r nd))

pred-le : (n : ℕ) → pred n ≤ n
pred-le zero = omega arith
pred-le (suc n) = omega arith

-- ---- one request more
module _ (m levels : ℕ) where
  run-next : (rs : List Request) (r : Request) (s : State) (ws : List ℕ)
      → ((runs m levels (rs ++ (r ∷ [])) s ws).state ≡ (cycled m levels r (runs m levels rs s ws).state (runs m levels rs s ws).words).state)
      × ((runs m levels (rs ++ (r ∷ [])) s ws).words ≡ (cycled m levels r (runs m levels rs s ws).state (runs m levels rs s ws).words).words)
  unfolding leaves
  run-next [] r s ws = (refl, refl)
  run-next (x ∷ rs) r s ws = run-next rs r (cycled m levels x s ws).state (cycled m levels x s ws).words

-- ---- from a cleared machine, whatever the words before, with a shape
module _ (m levels : ℕ) (ws : List ℕ) (sh : Shape m levels (length ws)) where
  abbrev state_at : List Request → State
  state_at rs = (ran m levels rs ws).state

  abbrev words_at : List Request → List ℕ
  words_at rs = (ran m levels rs ws).words

  -- NONE SILENT: after any list of cycles no cycle is refused 1, 2, 4, 8 or 12
  pub none-silent : (rs : List Request) (r : Request) (n : Refusal) → Silent n → (cycled m levels r (state_at rs) (words_at rs)).answer ≡ Err n → ⊥
  none-silent rs r n q e = go n q (sym (ap number_of e)) (numbers m ws rs levels sh r)
    where
      other : (a k : ℕ) → k ≡ a → (k ≡ 0 → ⊥) → (k ≡ 3 → ⊥) → (k ≡ 5 → ⊥) → (k ≡ 6 → ⊥) → (k ≡ 7 → ⊥) → (a ≡ 0) ⊎ (a ≡ 3) ⊎ (a ≡ 5) ⊎ (a ≡ 6) ⊎ (a ≡ 7) → ⊥
      other a k h no0 no3 no5 no6 no7 = ⊎_elim (λ d. no0 (h ∙ d)) (⊎_elim (λ d. no3 (h ∙ d)) (⊎_elim (λ d. no5 (h ∙ d)) (⊎_elim (λ d. no6 (h ∙ d)) (λ d. no7 (h ∙ d)))))

      go : (n : Refusal) → Silent n → refusal_number n ≡ number_of (cycled m levels r (state_at rs) (words_at rs)).answer → (number_of (cycled m levels r (state_at rs) (words_at rs)).answer ≡ 0) ⊎ (number_of (cycled m levels r (state_at rs) (words_at rs)).answer ≡ 3) ⊎ (number_of (cycled m levels r (state_at rs) (words_at rs)).answer ≡ 5) ⊎ (number_of (cycled m levels r (state_at rs) (words_at rs)).answer ≡ 6) ⊎ (number_of (cycled m levels r (state_at rs) (words_at rs)).answer ≡ 7) → ⊥
      go BadShape q h = other _ 1 h (λ d. omega arith) (λ d. omega arith) (λ d. omega arith) (λ d. omega arith) (λ d. omega arith)
      go Damaged q h = other _ 2 h (λ d. omega arith) (λ d. omega arith) (λ d. omega arith) (λ d. omega arith) (λ d. omega arith)
      go TooSoon q h = absurd q
      go BadRank q h = other _ 4 h (λ d. omega arith) (λ d. omega arith) (λ d. omega arith) (λ d. omega arith) (λ d. omega arith)
      go Full q h = absurd q
      go Empty q h = absurd q
      go NoTag q h = absurd q
      go BadPort q h = other _ 8 h (λ d. omega arith) (λ d. omega arith) (λ d. omega arith) (λ d. omega arith) (λ d. omega arith)
      go NoHeap q h = other _ 12 h (λ d. omega arith) (λ d. omega arith) (λ d. omega arith) (λ d. omega arith) (λ d. omega arith)

  word_some : (v : Version) (rs : List Request) (r : Request) → word_of v r (cycled m levels r (state_at rs) (words_at rs)).answer ≡ [] → ⊥
  unfolding cycle_run
  word_some v rs r e =
      rule_marked-word v (state_at rs).mark r (room m levels) _
      (sym (ap (λ (o : CycleOutcome). word_of v r o.answer) (cycled-fine m levels r (state_at rs) (words_at rs)
      (is-shape m levels (length (words_at rs)) (shape-kept m ws rs levels sh))
      (no-damage-sound m levels r (state_at rs) (words_at rs) (undamaged m ws rs levels sh r)))) ∙ e)

  worded-from : (v : Version) (es : List (Option Request)) (rs : List Request) → Worded v m levels (state_at rs) (words_at rs) es
  worded-from v [] rs = tt
  worded-from v (None ∷ es) rs = tt
  worded-from v (Some r ∷ es) rs =
      let n = run-next m levels rs r (cleared_machine m levels ws).state (cleared_machine m levels ws).words in
      (word_some v rs r, subst (λ (x : State × List ℕ). Worded v m levels x.0 x.1 es) (ap₂ (λ (s : State) (w : List ℕ). (s, w)) n.0 n.1) (worded-from v es (rs ++ (r ∷ []))))

  -- THE LAST LINE: after any list of cycles the drain is not refused and leaves no work, and the line says how many are stored
  abbrev drained : List Request → DrainOutcome
  drained rs = drains m levels levels (state_at rs) (words_at rs)

  pub end-done : (rs : List Request) → (number_of (drained rs).answer ≡ 0) × ((drained rs).left ≡ false)
  end-done rs = (drained-fine m ws rs levels sh levels (pred-le levels), drained-left m ws rs levels sh levels (pred-le levels))

  pub end-says : (rs : List Request) → end_of m levels (state_at rs) (words_at rs) ≡ end_line (stored_count (room m levels) (drained rs).words always) (drained rs).cycles
  unfolding end_of
  end-says rs = ap (λ (n : ℕ). end_line n (drained rs).cycles) held-now
    where
      held-now : count_of (held_count m levels (drained rs).words) ≡ stored_count (room m levels) (drained rs).words always
      held-now =
          let d = drain-state m levels levels (state_at rs) (words_at rs) in
          subst (λ (v : List ℕ). count_of (held_count m levels v) ≡ stored_count (room m levels) v always) (sym d.0)
          (held-says m ws rs levels sh (drained rs).cycles
          (ap (pending m levels) (sym d.1) ∙ sym (drain-left m levels levels (state_at rs) (words_at rs) (shape-kept m ws rs levels sh)) ∙ (end-done rs).1)).1

-- ---- the program's shapes
pub header-shaped : (bs : List ℕ) (v : Version) (m levels : ℕ) → header_of bs ≡ Some (header v m levels) → Shape m levels store_words
header-shaped bs v m levels e = trace-shape m levels (taken-shape m levels (header-only bs v m levels e).0)

store_length : length empty_store ≡ store_words
unfolding empty_store
store_length = length-replicate {A = ℕ} store_words 0

at_first : (v : Version) (m levels : ℕ) (ws : List ℕ) → Shape m levels (length ws) → (es : List (Option Request)) → Worded v m levels (cleared_machine m levels ws).state (cleared_machine m levels ws).words es
unfolding leaves
at_first v m levels ws sh es = worded-from m levels ws sh v es []

-- WORDED: every line of every trace has a word
pub worded : (bs : List ℕ) → TraceWorded bs
worded bs = go (header_of bs) refl
  where
    go : (h : Option Header) → header_of bs ≡ h → WordedBy h (drop header_bytes bs)
    go None e = tt
    go (Some h) e = at_first h.version h.order h.levels empty_store (subst (Shape h.order h.levels) (sym store_length) (header-shaped bs h.version h.order h.levels e)) (records_of h.version (drop header_bytes bs))
