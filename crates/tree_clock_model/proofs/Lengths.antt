-- The length decides nothing on the clock either: two lists of cycles alike but for lengths are answered alike but for lengths.
use Rattle.laws.specs.Prelude.{Answer, Bool, Idle, List, Pop, Push, Replace, Request, TooSoon, [], ◌&&◌, ◌∙◌, ◌∷◌, ◌≡◌, ap, ap₂, cond, false, length, map, not-suc-le-zero, refl, suc, sym, true, zero, ℕ, Ok, None, Some, Err}
use Rattle.tree_clock_model.proofs.Demand.{demand-answers}
use Rattle.tree_clock_model.specs.Prelude.{asks, cycle_answers, is_refused, marks, one_by_one, one_by_one_answers, pops_or_replaces}
use Rattle.promise.specs.Prelude.{answers, short_answer, short_request}
use Rattle.tree_model.proofs.Laws.{Apart, apart-answer, apart_next, apart-start}
use Rattle.tree_model.specs.Prelude.{Outcome, Shape, called, outcome}

-- ---- the mark goes by the kind of request and by whether it is refused
soon-short : (r : Request) → pops_or_replaces (short_request r) ≡ pops_or_replaces r
unfolding pops_or_replaces
soon-short Idle = refl
soon-short (Push x) = refl
soon-short Pop = refl
soon-short (Replace x) = refl

asks-short : (r : Request) → asks (short_request r) ≡ asks r
unfolding asks
asks-short Idle = refl
asks-short (Push x) = refl
asks-short Pop = refl
asks-short (Replace x) = refl

refused-short : (a : Answer) → is_refused (short_answer a) ≡ is_refused a
unfolding is_refused
refused-short (Ok None) = refl
refused-short (Ok (Some e)) = refl
refused-short (Err n) = refl

marks-short : (r : Request) (a : Answer) → marks (short_request r) (short_answer a) ≡ marks r a
unfolding marks
marks-short r a = rw (asks-short r, refused-short a)

module _ (m k : ℕ) where
  -- one request of the tree beside the clock
  pub record Met (o p : Outcome) : Type 0 where
    pub answer : p.answer ≡ short_answer o.answer
    pub words : Apart m k o.words p.words

  one-short : (mark : Bool) (r : Request) (ws vs : List ℕ) → Apart m k ws vs → Met (one_by_one m (suc k) mark r ws) (one_by_one m (suc k) mark (short_request r) vs)
  unfolding one_by_one
  one-short mark r ws vs p = rw (soon-short r) (go (mark && pops_or_replaces r))
    where
      go : (b : Bool) → Met (cond b (outcome (Err TooSoon) ws) (called m (suc k) r ws)) (cond b (outcome (Err TooSoon) vs) (called m (suc k) (short_request r) vs))
      go true = record { answer = refl; words = p }
      go false = record { answer = apart-answer m k r ws vs p; words = apart_next m k r ws vs p }

  runs-short : (rs : List Request) (mark : Bool) (ws vs : List ℕ) → Apart m k ws vs → one_by_one_answers m (suc k) (map short_request rs) mark vs ≡ map short_answer (one_by_one_answers m (suc k) rs mark ws)
  unfolding answers
  runs-short [] mark ws vs p = refl
  runs-short (r ∷ rs) mark ws vs p =
      let o : Outcome = one_by_one m (suc k) mark r ws in
      let q : Outcome = one_by_one m (suc k) mark (short_request r) vs in
      let n : Met o q = one-short mark r ws vs p in
      let same : marks (short_request r) q.answer ≡ marks r o.answer = ap (marks (short_request r)) n.answer ∙ marks-short r o.answer in
      ap₂ (λ (a : Answer) (l : List Answer). a ∷ l) n.answer
      (ap (λ (b : Bool). one_by_one_answers m (suc k) (map short_request rs) b q.words) same ∙ runs-short rs (marks r o.answer) o.words q.words n.words)

module _ (m : ℕ) (ws : List ℕ) where
  -- LENGTHS: without its lengths a list of cycles is answered the same, but for lengths
  pub lengths : (rs : List Request) (levels : ℕ) → Shape m levels (length ws) → cycle_answers m levels (map short_request rs) ws ≡ map short_answer (cycle_answers m levels rs ws)
  lengths rs zero sh = absurd (not-suc-le-zero sh.some)
  lengths rs (suc k) sh =
      demand-answers m ws (map short_request rs) (suc k) sh ∙ runs-short m k rs false _ _ (apart-start m k ws sh) ∙ ap (map short_answer) (sym (demand-answers m ws rs (suc k) sh))

  -- .. so two lists of cycles alike but for lengths are answered alike but for lengths: number, rank and tag
  pub lengths-apart : (rs qs : List Request) → map short_request rs ≡ map short_request qs → (levels : ℕ) → Shape m levels (length ws)
      → map short_answer (cycle_answers m levels rs ws) ≡ map short_answer (cycle_answers m levels qs ws)
  lengths-apart rs qs e levels sh = sym (lengths rs levels sh) ∙ ap (λ (q : List Request). cycle_answers m levels q ws) e ∙ lengths qs levels sh
