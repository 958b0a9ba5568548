-- A list of calls through C from any memory, cleared first: what is heard is what the lines answer, and so are their promises.
use Rattle.laws.specs.Prelude.{Bool, Element, Idle, List, Pop, Push, Replace, Request, ◌∙◌, ◌≡◌, ◌≤◌, ap, le-leb, leb, length, map, number_of, refl, subst, sym, true, ℕ}
use Rattle.card_lines.specs.Clocked.{ClockAfterOut, cycle_of, lines_clock_cycle}
use Rattle.card_lines.specs.Lines.{lines_clear, rows}
use Rattle.card_words.specs.Store.{store_answered}
use Rattle.card_lines.specs.Through.{brought_by, code_of, lines_c, lines_clock_c}
use Rattle.card_words.proofs.Heard.{answers-seen, heard-promised, heard-push, heard-told, leaves-seen}
use Rattle.card_words.specs.Asked.{request_of}
use Rattle.card_words.specs.Heard.{Ask, Heard, heard, pop, push, replace, wanted}
use Rattle.card_words.specs.Out.{answer_words, count_after}
use Rattle.lines_model.proofs.Acts.{shape-ok}
use Rattle.lines_model.proofs.Clocked.{in_flight, lines-running, ticks}
use Rattle.lines_model.proofs.Promises.{lines-answer, lines-promise}
use Rattle.lines_model.specs.Calls.{called, cleared, lines}
use Rattle.lines_model.specs.Causes.{Shaped}
use Rattle.lines_model.specs.Clock.{fresh, Machine, machine, ticking}
use Rattle.lines_model.specs.Promise.{stored_by}
use Rattle.lines_model.specs.declared.Due.TheVariants.{Rest}
use Rattle.lines_model.specs.declared.Rows.{Rows}
use Rattle.lines_records.proofs.History.{lent-cleared, one-next, one-said}
use Rattle.lines_records.specs.History.{cleared_memory, Holds, Memory, memory}
use Rattle.lines_records.specs.Lent.{first_of, lent_cycled, LineRecord, pending_of}
use Rattle.promise.proofs.Calls.{grants-kind}
use Rattle.promise.proofs.Clock as clocks
use Rattle.promise.specs.Prelude.{Kind, cycle}

module _ (kind count places : ℕ) (out : List ℕ) (room : answer_words ≤ length out) where
  abbrev k : Rows
  k = rows kind count places

  -- ---- one operation at a time
  kinds : (q : Request) (ws : List ℕ) → number_of (called k q ws).answer ≡ 0 → Kind q (called k q ws).answer
  unfolding called
  kinds q ws = (lines-answer k).kind q ws

  said : (c : Ask) (ws : List ℕ) → heard (wanted c) (lines_c kind count places out c ws).said ≡ (lines k (wanted c) ws).said
  unfolding store_answered
  said (push x) ws = heard-push x (called k (Push x) ws).answer out (kinds (Push x) ws)
  said pop ws = rw (le-leb answer_words (length out) room) (heard-told Pop (called k Pop ws).answer out room (kinds Pop ws))
  said (replace x) ws = rw (le-leb answer_words (length out) room) (heard-told (Replace x) (called k (Replace x) ws).answer out room (kinds (Replace x) ws))

  next : (c : Ask) (ws : List ℕ) → (lines_c kind count places out c ws).next ≡ (lines k (wanted c) ws).next
  unfolding store_answered
  next (push x) ws = refl
  next pop ws = rw (le-leb answer_words (length out) room) refl
  next (replace x) ws = rw (le-leb answer_words (length out) room) refl

  -- HEARD: from any words of the shape, cleared, over any list of calls
  pub lines-heard : (ws : List ℕ) → Shaped k (length ws) → (cs : List Ask) → Heard wanted (lines_c kind count places out) (stored_by k) cs (lines_clear kind count places ws).store
  unfolding called cleared
  lines-heard ws sh cs =
      let start = (cleared k ws).words in
      let all = lines-promise k (map wanted cs) ws sh in
      heard-promised wanted (lines_c kind count places out) (λ c. lines k (wanted c)) (λ (x s : List ℕ). x ≡ s)
      (λ c x s e. said c x ∙ ap (λ (w : List ℕ). (lines k (wanted c) w).said) e) (λ c x s e. next c x ∙ ap (λ (w : List ℕ). (lines k (wanted c) w).next) e)
      (stored_by k) (stored_by k) (λ x s e f. ap (λ (w : List ℕ). stored_by k w f) e) cs start start refl
      (rw (answers-seen wanted (lines k) cs start, leaves-seen wanted (lines k) cs start) all.holds)
      (λ c. rw (leaves-seen wanted (lines k) cs start) (all.least (wanted c)))

  -- ---- by clock cycles
  asks-for : (q : Request) → let e = brought_by q in request_of (code_of q) e.rank.0 e.tag.0 e.length.0 ≡ q
  unfolding request_of
  asks-for Idle = refl
  asks-for (Push x) = refl
  asks-for Pop = refl
  asks-for (Replace x) = refl

  asked : (q : Request) → leb (code_of q) 3 ≡ true
  asked Idle = refl
  asked (Push x) = refl
  asked Pop = refl
  asked (Replace x) = refl

  cycle-through : (q : Request) (x : Memory) → let e = brought_by q in
      lines_clock_cycle kind count places x.words x.records (code_of q) e.rank.0 e.tag.0 e.length.0 out ≡ cycle_of (lent_cycled k x.records x.words q) out
  unfolding lines_clock_cycle
  cycle-through q x = rw (le-leb answer_words (length out) room, asked q, asks-for q) refl

  clock-kinds : (q : Request) (m : Machine) → number_of (ticking k q m).said ≡ 0 → Kind q (ticking k q m).said
  clock-kinds q m = clocks.kind (ticks k) (λ q z. grants-kind q _) q m

  cycle-said : (q : Request) (x : Memory) (m : Machine) → Holds x m → heard q (lines_clock_c kind count places out q x).said ≡ (ticking k q m).said
  cycle-said q x m h =
      let a = (lent_cycled k x.records x.words q).answer in
      let e : a ≡ (ticking k q m).said = one-said k x.records x.words m h (cycle q) in
      ap (λ (b : ClockAfterOut). heard q (count_after b.number b.out)) (cycle-through q x)
      ∙ heard-told q a out room (λ z. subst (Kind q) (sym e) (clock-kinds q m (ap number_of (sym e) ∙ z))) ∙ e

  cycle-next : (q : Request) (x : Memory) (m : Machine) → Holds x m → Holds (lines_clock_c kind count places out q x).next (ticking k q m).next
  cycle-next q x m h =
      subst (λ (b : ClockAfterOut). Holds (memory b.records b.store) (ticking k q m).next) (sym (cycle-through q x)) (one-next k x.records x.words m h (cycle q))

  -- what the memory holds, in flight too
  abbrev pub held_in : Memory → (Element → Bool) → ℕ
  held_in x = in_flight k (machine x.words (pending_of (first_of x.records)))

  -- HEARD: from any words of the shape and any record, cleared, over any list of cycles
  pub lines-clock-heard : (ws : List ℕ) (rs : List LineRecord) → Shaped k (length ws) → 1 ≤ length rs → (qs : List Request)
      → Heard (λ q. q) (lines_clock_c kind count places out) held_in qs (cleared_memory k (memory rs ws))
  lines-clock-heard ws rs sh lent qs =
      let all = lines-running k (machine ws Rest) sh qs in
      heard-promised (λ q. q) (lines_clock_c kind count places out) (ticking k) Holds cycle-said cycle-next held_in (in_flight k)
      (λ x m h f. ap (λ (z : Machine). in_flight k z f) (λ i. machine (h.words i) (h.due i))) qs (cleared_memory k (memory rs ws)) (fresh k (machine ws Rest))
      (lent-cleared k rs ws lent (shape-ok k (length ws) sh)) all.holds (λ q. all.least q)
