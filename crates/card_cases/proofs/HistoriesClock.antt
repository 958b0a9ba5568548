-- A list of cycles through C from any memory, cleared first: the clocked tree and the clocked cluster heap. What is heard is what the machine answers that the memory holds, and so in the middle of any work it holds what
-- went in and has not come out, and gives the lowest rank.
use Rattle.laws.specs.Prelude.{Answer, Exactly, Idle, List, Pop, Push, Refusal, Replace, Request, [], ◌-◌, ◌∙◌, ◌∷◌, ◌≡◌, ◌≤◌, ap, arith, blank, get_or, le-leb, leb, length, not-suc-le-zero, number_of, refl, refusal_number, subst, suc, sym, true, zero, ℕ}
use Rattle.card_tree_clock.proofs.History as tree
use Rattle.card_cluster.specs.ClockedCluster as stages
use Rattle.card_cluster.specs.ClockedCluster.{clocked_cluster_clear, clocked_cluster_cycle, clocked_cluster_drain}
use Rattle.card_tree_clock.specs.History as kept
use Rattle.card_tree_clock.specs.History.{asks, brought_by, call_c, call_m, clear_c, code_of, Kept}
use Rattle.card_cases.proofs.Through.{beside}
use Rattle.card_cases.specs.Through.{HeardBeside, stages_c, stages_drain_c}
use Rattle.card_words.proofs.Heard.{heard-told}
use Rattle.card_tree_clock.specs.Clocked.{clocked_cycle}
use Rattle.card_words.specs.Asked.{asked, marked, mark_in, mark_out, request_of}
use Rattle.card_words.specs.Heard.{heard}
use Rattle.card_words.specs.Out.{answer_out, answer_words, count_after, CountAfter, drain_out, drain_words, zeros}
use Rattle.tree_clock_model.proofs.Laws.{start-in-step}
use Rattle.tree_clock_model.proofs.Exactly as cycles
use Rattle.tree_clock_model.proofs.Lost as lost
use Rattle.tree_clock_model.specs.Prelude.{Machine, clocked_queue, remaining}
use Rattle.tree_clock_model.specs.Promise.{cleared_machine}
use Rattle.cluster_clock_model.proofs.Exactly as turns
use Rattle.cluster_clock_model.proofs.Promises as heap
use Rattle.cluster_clock_model.specs.Prelude.{drains}
use Rattle.cluster_clock_model.specs.Promise as machine
use Rattle.cluster_records.proofs.History as lent
use Rattle.cluster_records.specs.History.{Holds, memory, Memory}
use Rattle.cluster_records.proofs.Exactly as table
use Rattle.cluster_records.specs.Lent.{ClusterRecord, lent_drains, LentOutcome, lent_cycled}
use Rattle.cluster_records.specs.Refusals.{lent_left, lent_refusals}
use Rattle.cluster_model.specs.Promise as cluster
use Rattle.tree_records.proofs.Exactly as tree_table
use Rattle.tree_records.specs.Lent.{lent_cycled as tree_cycled, LentOutcome as TreeOutcome}
use Rattle.tree_records.specs.Refusals as trees
use Rattle.promise.proofs.InFlight as clocks
use Rattle.promise.proofs.Handed.{exactly-as}
use Rattle.promise.specs.Prelude.{Step, answers, leaves, step}
use Rattle.tree_model.specs.Prelude.{Shape}

-- ---- a request handed over
request-handed : (r : Request) → request_of (code_of r) (brought_by r).rank.0 (brought_by r).tag.0 (brought_by r).length.0 ≡ r
unfolding request_of code_of brought_by
request-handed Idle = refl
request-handed (Push x) = refl
request-handed Pop = refl
request-handed (Replace x) = refl

code-low : (r : Request) → leb (code_of r) 3 ≡ true
unfolding code_of
code-low Idle = refl
code-low (Push x) = refl
code-low Pop = refl
code-low (Replace x) = refl

-- ---- the clocked tree
module _ (m levels : ℕ) (out : List ℕ) (room : answer_words ≤ length out) where
  abbrev pub clocked_c : Request → Kept → Step CountAfter Kept
  clocked_c r x = call_c m levels out (asks r) x

  -- one cycle, by a list of one
  answer-goes : (r : Request) (x : Kept) (y : Machine) → kept.Holds m levels x y → (clocked_c r x).said ≡ (call_m m levels out (asks r) y).said
  unfolding answers
  answer-goes r x y h = ap (λ (l : List CountAfter). get_or l 0 (count_after 0 [])) (tree.history m levels out room (asks r ∷ []) x y h)

  same : (r : Request) (x : Kept) (y : Machine) → kept.Holds m levels x y → heard r (clocked_c r x).said ≡ (clocked_queue m levels r y).said
  unfolding call_m
  same r x y h = ap (heard r) (answer-goes r x y h) ∙ heard-told r (clocked_queue m levels r y).said out room (cycles.kind m levels r y.state y.words)

  keep : (r : Request) (x : Kept) (y : Machine) → kept.Holds m levels x y → kept.Holds m levels (clocked_c r x).next (clocked_queue m levels r y).next
  unfolding leaves call_m
  keep r x y h = tree.history-holds m levels out room (asks r ∷ []) x y h

  -- a cycle of a memory whose mark is one
  go-is : (r : Request) (x : Kept) → marked x.mark ≡ true
      → clocked_c r x ≡ (let o = tree_cycled m levels (mark_in x.mark) x.records x.store r in step (count_after (number_of o.answer) (answer_out o.answer out)) (kept.kept o.words o.records (mark_out o.mark x.mark)))
  unfolding call_c clocked_cycle asked
  go-is r x e = rw (le-leb answer_words (length out) room, code-low r, e, request-handed r)

  -- EXACTLY: the table of the lent cycle. Refused 1 and 2 it leaves everything, and zeros in `out`
  abbrev pub clocked_refused : Kept → Refusal → Step CountAfter Kept
  clocked_refused x n =
      let o = trees.lent_left m levels (mark_in x.mark) x.records x.store n in
      step (count_after (refusal_number n) (zeros answer_words out)) (kept.kept o.words o.records (mark_out o.mark x.mark))

  pub clocked-exactly : (r : Request) (x : Kept) → marked x.mark ≡ true → Exactly (λ (o : Step CountAfter Kept). o.said.number) (clocked_refused x) (clocked_c r x) (trees.lent_refusals m levels (mark_in x.mark) x.records x.store r)
  unfolding blank
  clocked-exactly r x e =
      subst (λ (o : Step CountAfter Kept). Exactly (λ (o : Step CountAfter Kept). o.said.number) (clocked_refused x) o (trees.lent_refusals m levels (mark_in x.mark) x.records x.store r)) (sym (go-is r x e))
      (exactly-as (λ (o : TreeOutcome). number_of o.answer) (trees.lent_left m levels (mark_in x.mark) x.records x.store) (λ (o : TreeOutcome). step (count_after (number_of o.answer) (answer_out o.answer out)) (kept.kept o.words o.records (mark_out o.mark x.mark)))
      (λ (o : Step CountAfter Kept). o.said.number) (λ o. refl) (tree_cycled m levels (mark_in x.mark) x.records x.store r) (trees.lent_refusals m levels (mark_in x.mark) x.records x.store r)
      (tree_table.exactly-cycle m levels (mark_in x.mark) x.records x.store r))

-- HEARD, in the middle of any work
pub clocked-heard : (m levels : ℕ) (out : List ℕ) (room : answer_words ≤ length out) (x : Kept) → Shape m levels (length x.store) → levels - 1 ≤ length x.records → 1 ≤ length x.mark → (rs : List Request)
    → HeardBeside (clocked_c m levels out room) (clocked_queue m levels) (remaining m levels) rs (clear_c m levels x) (cleared_machine m levels x.store)
clocked-heard m zero out room x sh long some rs = absurd (not-suc-le-zero sh.some)
clocked-heard m (suc k) out room x sh long some rs =
    beside (clocked_c m (suc k) out room) (clocked_queue m (suc k)) (kept.Holds m (suc k)) (same m (suc k) out room) (keep m (suc k) out room) (remaining m (suc k)) rs (clear_c m (suc k) x) (cleared_machine m (suc k) x.store)
    (tree.clear-holds m (suc k) x sh long some)
    (clocks.all_held (lost.is-clock m k) (lost.bag m k) (cleared_machine m (suc k) x.store) going (lost.start-remains m k x.store sh) rs)
    (λ r. clocks.cycle-least (lost.is-clock m k) (lost.lowest m k) r (leaves (clocked_queue m (suc k)) rs (cleared_machine m (suc k) x.store))
    (clocks.ran-kept (lost.is-clock m k) (cleared_machine m (suc k) x.store) going rs))
  where
    going : lost.Going m k (cleared_machine m (suc k) x.store)
    going = (_, start-in-step m k x.store sh)

-- ---- the clocked cluster heap
module _ (K levels : ℕ) (out : List ℕ) (room : answer_words ≤ length out) where
  cycle-is : (r : Request) (x : Memory) → clocked_cluster_cycle K levels x.words x.records (code_of r) (brought_by r).rank.0 (brought_by r).tag.0 (brought_by r).length.0 out ≡ stages.cycle_of (lent_cycled K levels x.records x.words r) out
  unfolding clocked_cluster_cycle
  cycle-is r x = rw (le-leb answer_words (length out) room, code-low r, request-handed r)

  turn_is : (r : Request) (x : Memory) → stages_c K levels out r x ≡ (let o = lent_cycled K levels x.records x.words r in step (count_after (number_of o.answer) (answer_out o.answer out)) (memory o.records o.words))
  turn_is r x = ap (λ (b : stages.ClockedClusterAfterOut). step (count_after b.number b.out) (memory b.records b.store)) (cycle-is r x)

  turn-same : (r : Request) (x : Memory) (y : machine.Machine) → Holds K levels x y → heard r (stages_c K levels out r x).said ≡ (machine.cycle_queue K levels r y).said
  turn-same r x y h =
      ap (λ (o : Step CountAfter Memory). heard r o.said) (turn_is r x) ∙ ap (λ (a : Answer). heard r (count_after (number_of a) (answer_out a out))) (lent.history-cycle K levels r x y h).0
      ∙ heard-told r (machine.cycle_queue K levels r y).said out room (turns.kind K levels r y.records y.words)

  turn-keep : (r : Request) (x : Memory) (y : machine.Machine) → Holds K levels x y → Holds K levels (stages_c K levels out r x).next (machine.cycle_queue K levels r y).next
  turn-keep r x y h = subst (λ (o : Step CountAfter Memory). Holds K levels o.next (machine.cycle_queue K levels r y).next) (sym (turn_is r x)) (lent.history-cycle K levels r x y h).1

  module _ (rs : List ClusterRecord) (ws : List ℕ) (sh : cluster.Shape K levels (length ws)) (long : levels - 1 ≤ length rs) where
    -- what C's clear leaves
    abbrev clear : Memory
    clear = memory (clocked_cluster_clear K levels ws rs).records (clocked_cluster_clear K levels ws rs).store

    pub stages-cleared : (clocked_cluster_clear K levels ws rs).number ≡ 0
    stages-cleared = ap number_of (lent.clear-answer K levels rs ws sh long)

    -- HEARD, in the middle of any work
    pub stages-heard : (qs : List Request)
        → HeardBeside (stages_c K levels out) (machine.cycle_queue K levels) (machine.remaining K levels) qs (memory (clocked_cluster_clear K levels ws rs).records (clocked_cluster_clear K levels ws rs).store) (machine.cleared_machine K levels ws)
    stages-heard qs =
        beside (stages_c K levels out) (machine.cycle_queue K levels) (Holds K levels) turn-same turn-keep (machine.remaining K levels) qs clear (machine.cleared_machine K levels ws) (lent.clear-holds K levels rs ws sh long)
        (heap.holds K ws qs levels sh) (heap.least K ws qs levels sh)

  -- a drain reports the machine's cycles and whether work is left, and the memory holds what it leaves
  drain-is : (budget : ℕ) (x : Memory) → clocked_cluster_drain K levels x.words x.records budget out ≡ stages.drain_of (lent_drains K levels x.records x.words budget) out
  unfolding clocked_cluster_drain
  drain-is budget x = rw (le-leb drain_words (length out) (omega (arith, room)))

  pub stages-drained : (budget : ℕ) (x : Memory) (y : machine.Machine) → Holds K levels x y
      → (let e = drains K levels budget y.records y.words in
      ((stages_drain_c K levels out budget x).said ≡ count_after (number_of e.answer) (drain_out e.cycles e.left out)) × Holds K levels (stages_drain_c K levels out budget x).next (machine.machine e.records e.words))
  stages-drained budget x y h =
      let g = lent.history-drain K levels x y h budget in
      rw (drain-is budget x) (λ i. count_after (number_of (g.0 i)) (drain_out (g.1 i) (g.2 i) out), g.3)

  -- EXACTLY: the table of the lent cycle. Refused 1 and 2 it leaves everything, and zeros in `out`
  abbrev pub stages_refused : Memory → Refusal → Step CountAfter Memory
  stages_refused x n =
      let o = lent_left K levels x.records x.words n in
      step (count_after (refusal_number n) (zeros answer_words out)) (memory o.records o.words)

  pub stages-exactly : (r : Request) (x : Memory) → Exactly (λ (o : Step CountAfter Memory). o.said.number) (stages_refused x) (stages_c K levels out r x) (lent_refusals K levels x.records x.words r)
  unfolding blank
  stages-exactly r x =
      subst (λ (o : Step CountAfter Memory). Exactly (λ (o : Step CountAfter Memory). o.said.number) (stages_refused x) o (lent_refusals K levels x.records x.words r)) (sym (turn_is r x))
      (exactly-as table.said (lent_left K levels x.records x.words) (λ (o : LentOutcome). step (count_after (number_of o.answer) (answer_out o.answer out)) (memory o.records o.words)) (λ (o : Step CountAfter Memory). o.said.number) (λ o. refl)
      (lent_cycled K levels x.records x.words r) (lent_refusals K levels x.records x.words r) (table.exactly-cycle K levels x.records x.words r))
