-- A cycle on words and records is the cycle on levels and works.
use Rattle.laws.specs.Prelude.{Bool, List, ◌*◌, ◌+◌, ◌<◌, ◌∙◌, ◌≡◌, ◌≤◌, and_left, and_right, ap, ap₂, arith, false, get_or, get_or-set_other, get_or-set_same, length, length-set, refl, set, suc, sym, true, zero, ℕ}
use Rattle.tree_clock_model.specs.Prelude.{Recorded, Works, cycle_levels, cycle_ok, cycle_words, cycle_works, landed, record_at, records_after, works_of}
use Rattle.tree_model.proofs.Laws.{is_none, level-ext, nothing-fails, step-before, step-length, step_past, step_words_lem}
use Rattle.tree_model.specs.Prelude.{Level, Levels, idle, is_nothing, level_of, levels_of, size, slot_of, slot_words, step_level, step_words, step_work, top, under, work, work_ok}
use Rattle.tree_model.specs.declared.Op.{Op}
use Rattle.tree_model.specs.declared.Op.TheVariants.{Nothing, Put, Swap, Take}
use Rattle.tree_model.specs.declared.Work.{Work}

-- ---- words
module _ (m : ℕ) where
  pub cycle-before : (k : ℕ) (p : Works k) (b c : ℕ) (ws : List ℕ) (i : ℕ) → i < b → slot_of (cycle_words m k p b c ws) i ≡ slot_of ws i
  unfolding cycle_words
  cycle-before zero p b c ws i h = refl
  cycle-before (suc k) p b c ws i h = cycle-before k p.1 (b + c * m) (c * m) _ i (omega arith) ∙ step-before m k p.0 b c ws i h

  pub cycle-length : (k : ℕ) (p : Works k) (b c : ℕ) (ws : List ℕ) → length (cycle_words m k p b c ws) ≡ length ws
  unfolding cycle_words
  cycle-length zero p b c ws = refl
  cycle-length (suc k) p b c ws = cycle-length k p.1 (b + c * m) (c * m) _ ∙ step-length m k p.0 b c ws

  -- where no step meets damage, the cycle on the words is the cycle on the levels, and every word past the capacity stands
  pub words-cycle : 0 < m → (k : ℕ) (p : Works k) (b c : ℕ) (ws : List ℕ) → slot_words * (b + size m k c) ≤ length ws → cycle_ok m k p (levels_of m k ws b c) ≡ true
      → (levels_of m k (cycle_words m k p b c ws) b c ≡ cycle_levels m k p (levels_of m k ws b c))
      × ((a : ℕ) → slot_words * (b + size m k c) ≤ a → get_or (cycle_words m k p b c ws) a 0 ≡ get_or ws a 0)
  unfolding cycle_words cycle_ok levels_of cycle_levels size
  words-cycle some zero p b c ws fits ok = (refl, λ a h. refl)
  words-cycle some (suc k) p b c ws fits ok =
      let l : Level = level_of m ws b c in
      let u : Levels k = under m k ws b c in
      let ws₁ : List ℕ = step_words m k p.0 b c ws in
      let f : work_ok m k p.0 l (top k u) ≡ true = and_left (work_ok m k p.0 l (top k u)) (cycle_ok m k p.1 u) ok in
      let fits₁ : slot_words * (b + c * m) ≤ length ws = omega arith in
      let s : levels_of m (suc k) ws₁ b c ≡ (step_level m p.0 l (top k u), u) = step_words_lem m some k p.0 b c ws fits₁ f in
      let deeper : levels_of m k ws₁ (b + c * m) (c * m) ≡ u = ap (λ (r : Levels (suc k)). r.1) s in
      let i = words-cycle some k p.1 (b + c * m) (c * m) ws₁ (omega (arith, step-length m k p.0 b c ws))
      (ap (cycle_ok m k p.1) deeper ∙ and_right (work_ok m k p.0 l (top k u)) (cycle_ok m k p.1 u) ok) in (
        ap₂ (λ (x : Level) (r : Levels k). (x, r))
            (level-ext m (cycle_words m k p.1 (b + c * m) (c * m) ws₁) ws₁ b c (λ i lt. cycle-before k p.1 (b + c * m) (c * m) ws₁ i lt)
            ∙ ap (λ (r : Levels (suc k)). r.0) s)
            (i.0 ∙ ap (cycle_levels m k p.1) deeper),
        λ a h. i.1 a (omega arith) ∙ step_past m some k p.0 b c ws fits₁ f a (omega arith),
      )

-- ---- records
-- work whose unused numbers are 0
abbrev pub Plain : Work → Type 0
Plain q = work q.op q.node ≡ q

pub plain-work : (o : Op) (n : ℕ) → Plain (work o n)
unfolding work
plain-work Nothing n = refl
plain-work (Put x) n = refl
plain-work Take n = refl
plain-work (Swap x) n = refl

pub plain-rest : (m : ℕ) (w : Work) (l below : Level) → Plain (step_work m w l below)
unfolding step_work
plain-rest m w l below = plain-work _ _

pub none-idle : (w : Work) → w.op ≡ Nothing → work w.op w.node ≡ idle
unfolding work
none-idle w e = ap (λ (o : Op). work o w.node) e

-- what a record becomes
pub landed-recorded : (q w : Work) → Recorded q w (landed q w)
unfolding landed is_nothing
landed-recorded q w =
    record {
      loaded = λ s. rw ((nothing-fails q.op).shown s);
      finished = λ e s. simp (ap is_nothing e, (nothing-fails w.op).shown s);
      stands = λ e f. simp (ap is_nothing e, ap is_nothing f);
    }

-- a record read as work is what was left for it
pub recorded-work : (q w v : Work) → Plain q → Recorded q w v → work v.op v.node ≡ q
recorded-work q w v pl rec = go (is_nothing q.op) refl (is_nothing w.op) refl
  where
    none : is_nothing q.op ≡ true → q ≡ idle
    none e = sym pl ∙ none-idle q (is_none q.op e)

    go : (a : Bool) → is_nothing q.op ≡ a → (b : Bool) → is_nothing w.op ≡ b → work v.op v.node ≡ q
    go false e b f = ap (λ (u : Work). work u.op u.node) (rec.loaded ((nothing-fails q.op).found e)) ∙ pl
    go true e true f = ap (λ (u : Work). work u.op u.node) (rec.stands (is_none q.op e) (is_none w.op f)) ∙ none-idle w (is_none w.op f) ∙ sym (none e)
    go true e false f = ap (λ (u : Work). work u.op u.node) (rec.finished (is_none q.op e) ((nothing-fails w.op).found f)) ∙ none-idle idle refl ∙ sym (none e)

pub after-length : (m k : ℕ) (q : Work) (i : ℕ) (rs : List Work) (ls : Levels k) → length (records_after m k q i rs ls) ≡ length rs
unfolding records_after
after-length m zero q i rs ls = refl
after-length m (suc k) q i rs ls = after-length m k _ (suc i) _ ls.1 ∙ length-set rs i _

-- a record before the first stands
pub after-before : (m k : ℕ) (q : Work) (i : ℕ) (rs : List Work) (ls : Levels k) (j : ℕ) → j < i → get_or (records_after m k q i rs ls) j idle ≡ get_or rs j idle
unfolding records_after
after-before m zero q i rs ls j h = refl
after-before m (suc k) q i rs ls j h = after-before m k _ (suc i) _ ls.1 j (omega arith) ∙ get_or-set_other rs i j _ idle (λ e. omega arith)

-- "records past the last level are left alone"
pub after-past : (m k : ℕ) (q : Work) (i : ℕ) (rs : List Work) (ls : Levels k) (j : ℕ) → i + k ≤ j → get_or (records_after m k q i rs ls) j idle ≡ get_or rs j idle
unfolding records_after
after-past m zero q i rs ls j h = refl
after-past m (suc k) q i rs ls j h = after-past m k _ (suc i) _ ls.1 j (omega arith) ∙ get_or-set_other rs i j _ idle (λ e. omega arith)

pub works-set : (k : ℕ) (rs : List Work) (i j : ℕ) (w : Work) → j < i → works_of k (set rs j w) i ≡ works_of k rs i
unfolding works_of record_at
works-set zero rs i j w h = refl
works-set (suc k) rs i j w h =
    ap₂ (λ (a : Work) (r : Works k). (a, r)) (ap (λ (v : Work). work v.op v.node) (get_or-set_other rs j i w idle (λ e. omega arith))) (works-set k rs (suc i) j w (omega arith))

-- the records after a cycle are its works
pub works-after : (m k : ℕ) (q : Work) (i : ℕ) (rs : List Work) (ls : Levels k) → Plain q → i + k ≤ length rs
    → works_of k (records_after m k q i rs ls) i ≡ cycle_works m k q (works_of k rs i) ls
unfolding works_of records_after cycle_works record_at
works-after m zero q i rs ls pl h = refl
works-after m (suc k) q i rs ls pl h =
    let w : Work = get_or rs i idle in
    let rs₁ : List Work = set rs i (landed q w) in
    let q₁ : Work = step_work m (work w.op w.node) ls.0 (top k ls.1) in
    let n : length rs₁ ≡ length rs = length-set rs i (landed q w) in
    ap₂ (λ (a : Work) (r : Works k). (a, r))
    (ap (λ (v : Work). work v.op v.node) (after-before m k q₁ (suc i) rs₁ ls.1 i (omega arith) ∙ get_or-set_same rs i (landed q w) idle (omega arith)) ∙ recorded-work q w _ pl (landed-recorded q w))
    (works-after m k q₁ (suc i) rs₁ ls.1 (plain-rest m (work w.op w.node) ls.0 (top k ls.1)) (omega arith)
    ∙ ap (λ (r : Works k). cycle_works m k q₁ r ls.1) (works-set k rs (suc i) i (landed q w) (omega arith)))
