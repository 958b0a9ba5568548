-- What the code has read of the records makes the work and the record that the definitions say.
use Rattle.laws.specs.Prelude.{Bool, List, ◌&&◌, ◌*◌, ◌+◌, ◌-◌, ◌<◌, ◌∙◌, ◌≡◌, ◌≤◌, add-one, and_assoc, and_left, and_right, and-unit, ap, ap₂, arith, get_or, refl, set, set-get_or, suc, sym, true, zero, ℕ}
use Rattle.tree_clock_model.specs.Prelude.{cycle_ok, cycle_words, landed, quiet, record_at, records_after, works_of}
use Rattle.tree_model.proofs.Laws.{is_none, op-work, work_none}
use Rattle.tree_model.specs.Prelude.{Level, Levels, idle, is_nothing, step_words, step_work, top, work, work_ok}
use Rattle.tree_model.specs.declared.Op.{Op}
use Rattle.tree_model.specs.declared.Op.TheVariants.{Nothing, Put, Swap, Take}
use Rattle.tree_model.specs.declared.Work.{Work}

-- ---- a record's numbers that its kind does not use are not read
module _ (m k : ℕ) where
  pub fine-plain : (o : Op) (n : ℕ) (l below : Level) → work_ok m k (work o n) l below ≡ work_ok m k (record { op = o; node = n }) l below
  unfolding work_ok work is_nothing
  fine-plain Nothing n l below = refl
  fine-plain (Put x) n l below = refl
  fine-plain Take n l below = refl
  fine-plain (Swap x) n l below = refl

  pub rest_plain : (o : Op) (n : ℕ) (l below : Level) → step_work m (work o n) l below ≡ step_work m (record { op = o; node = n }) l below
  unfolding work
  rest_plain Nothing n l below = work_none m idle l below refl ∙ sym (work_none m (record { op = Nothing; node = n }) l below refl)
  rest_plain (Put x) n l below = refl
  rest_plain Take n l below = refl
  rest_plain (Swap x) n l below = refl

  pub words-plain : (o : Op) (n b c : ℕ) (ws : List ℕ) → step_words m k (work o n) b c ws ≡ step_words m k (record { op = o; node = n }) b c ws
  unfolding step_words work is_nothing
  words-plain Nothing n b c ws = refl
  words-plain (Put x) n b c ws = refl
  words-plain Take n b c ws = refl
  words-plain (Swap x) n b c ws = refl

-- ---- is nothing pending?
module _ (rs : List Work) where
  quiet-split : (k i : ℕ) → quiet (suc k) (works_of (suc k) rs i) ≡ (is_nothing (get_or rs i idle).op && quiet k (works_of k rs (suc i)))
  unfolding quiet works_of record_at
  quiet-split k i = ap (λ (o : Op). is_nothing o && quiet k (works_of k rs (suc i))) (op-work (get_or rs i idle).op (get_or rs i idle).node)

  -- what the first i records say, with what the rest of them will
  abbrev pub Asking : ℕ → ℕ → Bool → Type 0
  Asking n i t = (t && quiet (n - i) (works_of (n - i) rs i)) ≡ quiet n (works_of n rs 0)

  pub quiet_next : (n i : ℕ) (t u : Bool) → i < n → Asking n i t → u ≡ is_nothing (get_or rs i idle).op → Asking n (i + 1) (t && u)
  quiet_next n i t u h p read =
      let e : n - i ≡ suc (n - (i + 1)) = omega arith in
      ap (λ (j : ℕ). (t && u) && quiet (n - (i + 1)) (works_of (n - (i + 1)) rs j)) (add-one i)
      ∙ and_assoc t u _
      ∙ ap (λ (u : Bool). t && (u && quiet (n - (i + 1)) (works_of (n - (i + 1)) rs (suc i)))) read
      ∙ ap (λ (b : Bool). t && b) (sym (ap (λ (k : ℕ). quiet k (works_of k rs i)) e ∙ quiet-split (n - (i + 1)) i))
      ∙ p

  pub quiet-end : (n i : ℕ) (t : Bool) → n ≤ i → Asking n i t → t ≡ quiet n (works_of n rs 0)
  unfolding quiet
  quiet-end n i t h p =
      let e : n - i ≡ 0 = omega arith in
      sym (and-unit t) ∙ ap (λ (b : Bool). t && b) (sym (ap (λ (k : ℕ). quiet k (works_of k rs i)) e)) ∙ p

-- ---- with nothing pending a cycle tests nothing, and changes no record and no word
module _ (m : ℕ) where
  still-step : (k : ℕ) (rs : List Work) (i : ℕ) → quiet (suc k) (works_of (suc k) rs i) ≡ true → ((get_or rs i idle).op ≡ Nothing) × (quiet k (works_of k rs (suc i)) ≡ true)
  still-step k rs i e =
      let p = sym (quiet-split rs k i) ∙ e in
      (is_none (get_or rs i idle).op (and_left (is_nothing (get_or rs i idle).op) _ p), and_right (is_nothing (get_or rs i idle).op) _ p)

  record_at-idle : (rs : List Work) (i : ℕ) → (get_or rs i idle).op ≡ Nothing → record_at rs i ≡ idle
  unfolding record_at work
  record_at-idle rs i e = ap (λ (o : Op). work o (get_or rs i idle).node) e

  pub still-ok : (k : ℕ) (rs : List Work) (i : ℕ) (ls : Levels k) → quiet k (works_of k rs i) ≡ true → cycle_ok m k (works_of k rs i) ls ≡ true
  unfolding cycle_ok works_of work_ok is_nothing
  still-ok zero rs i ls e = refl
  still-ok (suc k) rs i ls e =
      let p = still-step k rs i e in
      ap (λ (w : Work). work_ok m k w ls.0 (top k ls.1) && cycle_ok m k (works_of k rs (suc i)) ls.1) (record_at-idle rs i p.0) ∙ still-ok k rs (suc i) ls.1 p.1

  pub still-words : (k : ℕ) (rs : List Work) (i b c : ℕ) (ws : List ℕ) → quiet k (works_of k rs i) ≡ true → cycle_words m k (works_of k rs i) b c ws ≡ ws
  unfolding cycle_words works_of step_words is_nothing
  still-words zero rs i b c ws e = refl
  still-words (suc k) rs i b c ws e =
      let p = still-step k rs i e in
      ap (λ (w : Work). cycle_words m k (works_of k rs (suc i)) (b + c * m) (c * m) (step_words m k w b c ws)) (record_at-idle rs i p.0) ∙ still-words k rs (suc i) (b + c * m) (c * m) ws p.1

  landed-idle : (rs : List Work) (i : ℕ) → (get_or rs i idle).op ≡ Nothing → set rs i (landed idle (get_or rs i idle)) ≡ rs
  unfolding landed is_nothing
  landed-idle rs i e = rw e (set-get_or rs i idle)

  pub still-records : (k : ℕ) (rs : List Work) (i : ℕ) (ls : Levels k) → quiet k (works_of k rs i) ≡ true → records_after m k idle i rs ls ≡ rs
  unfolding records_after
  still-records zero rs i ls e = refl
  still-records (suc k) rs i ls e =
      let p = still-step k rs i e in
      ap₂ (λ (w : Work) (vs : List Work). records_after m k w (suc i) vs ls.1)
      (ap (λ (w : Work). step_work m w ls.0 (top k ls.1)) (record_at-idle rs i p.0) ∙ work_none m idle ls.0 (top k ls.1) refl) (landed-idle rs i p.0)
      ∙ still-records k rs (suc i) ls.1 p.1
