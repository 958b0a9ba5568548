-- The scans of a full node find what the scan place by place finds.
use Rattle.laws.specs.Prelude.{Bool, List, ◌&&◌, ◌*◌, ◌+◌, ◌/◌, ◌<◌, ◌||◌, ◌∙◌, ◌≡◌, ◌≤◌, add-one, ap, ap₂, arith, cond, element_in, element_words, eq-eqb, eqb, eqb-false, eqb-true, false, false≢true, is_blank, le-leb, leb, leb-true, ltb, ltb-false, ltb-true, ne_eqb, not, not-suc-le-zero, refl, suc, sym, true, zero, ℕ}
use Rattle.cluster_model.specs.Prelude.{Place, neat_place, place_at, place_by, place_of, place_words, row_of, word}
use Rattle.cluster_node.specs.declared.Seen.{Seen}
use Rattle.cluster_node.specs.declared.Lead.{Lead}
use Rattle.cluster_node.specs.declared.Found.{Found}
use Rattle.cluster_node.specs.Scan.{lower_than, high_as, scan}
use Rattle.cluster_node.specs.Seeing.{is_flagged, see_one, look_to, low_only}
use Rattle.cluster_node.specs.Full.{full_to, turn_at, best_to, turns, ranks, is_high, low_to, high_to, low_lead, high_lead}
use Rattle.cluster_node.specs.Leaf.{bare_at, ok_by, counts_ok, peek_here, peek_at}
use Rattle.cluster_node.proofs.ScanCode.{precedes-turn, row-place, high-both}
use Rattle.cluster_node.proofs.Bridge.{look-low, look-high}
use Rattle.cluster_node.proofs.Looks.{within}

-- ---- the loop
pub full-next : (ws : List ℕ) (o j : ℕ) (full : Bool) → full ≡ full_to ws o j → (full && eqb (word ws (o + j * place_words + element_words)) 1) ≡ full_to ws o (j + 1)
unfolding full_to
full-next ws o j full e = rw (add-one j, ← e) refl

best-step : (better : ℕ → ℕ → Bool) (f : ℕ → ℕ) (j : ℕ) (b : Bool) → better (f j) (f (best_to better f j)) ≡ b → best_to better f (suc j) ≡ cond b j (best_to better f j)
unfolding best_to
best-step better f j b e = ap (λ (t : Bool). cond t j (best_to better f j)) e

module _ (better : ℕ → ℕ → Bool) (f : ℕ → ℕ) (j place best t : ℕ) (ep : place ≡ best_to better f j) (eb : best ≡ f (best_to better f j)) (et : t ≡ f j) where
  tested : (b : Bool) → better t best ≡ b → better (f j) (f (best_to better f j)) ≡ b
  tested b e = ap₂ better (sym et) (sym eb) ∙ e

  pub best-taken : better t best ≡ true → (p n : ℕ) → p ≡ j → n ≡ t → (p ≡ best_to better f (j + 1)) × (n ≡ f (best_to better f (j + 1)))
  best-taken e p n pe ne =
      let q : best_to better f (suc j) ≡ j = best-step better f j true (tested true e) in
      rw add-one (pe ∙ sym q, ne ∙ et ∙ ap f (sym q))

  pub best-stays : better t best ≡ false → (p n : ℕ) → p ≡ place → n ≡ best → (p ≡ best_to better f (j + 1)) × (n ≡ f (best_to better f (j + 1)))
  best-stays e p n pe ne =
      let q : best_to better f (suc j) ≡ best_to better f j = best-step better f j false (tested false e) in
      rw add-one (pe ∙ ep ∙ sym q, ne ∙ eb ∙ ap f (sym q))

pub best-first : (better : ℕ → ℕ → Bool) (f : ℕ → ℕ) (n : ℕ) → n ≡ f 0 → (0 ≡ best_to better f 0) × (n ≡ f (best_to better f 0))
unfolding best_to
best-first better f n e = (refl, e)

pub full-first : (ws : List ℕ) (o : ℕ) → true ≡ full_to ws o 0
unfolding full_to
full-first ws o = refl

-- ---- the same place as the scan of the places
best-within : (better : ℕ → ℕ → Bool) (f : ℕ → ℕ) (j : ℕ) → best_to better f j ≤ j
unfolding best_to
best-within better f zero = omega arith
best-within better f (suc j) = go (better (f j) (f (best_to better f j))) (best-within better f j)
  where
    go : (b : Bool) → best_to better f j ≤ j → cond b j (best_to better f j) ≤ suc j
    go true h = omega arith
    go false h = omega arith

pub best-lt : (better : ℕ → ℕ → Bool) (f : ℕ → ℕ) (n : ℕ) → 0 < n → best_to better f n < n
unfolding best_to
best-lt better f zero h = absurd (not-suc-le-zero h)
best-lt better f (suc j) h = go (better (f j) (f (best_to better f j))) (best-within better f j)
  where
    go : (b : Bool) → best_to better f j ≤ j → cond b j (best_to better f j) < suc j
    go true h = omega arith
    go false h = omega arith

best-scan : (B : Place → Place → Bool) (ps : List Place) (better : ℕ → ℕ → Bool) (f : ℕ → ℕ) (n : ℕ)
    → ((i k : ℕ) → i < n → k < n → B (place_at ps i) (place_at ps k) ≡ better (f i) (f k)) → (j : ℕ) → j ≤ n → scan B ps j ≡ best_to better f j
unfolding best_to scan
best-scan B ps better f n h zero l = refl
best-scan B ps better f n h (suc j) l =
    let b : ℕ = best_to better f j in
    let e : scan B ps j ≡ b = best-scan B ps better f n h j (omega arith) in
    let t : B (place_at ps j) (place_at ps b) ≡ better (f j) (f b) = h j b l (omega (arith, best-within better f j)) in
    rw (e, t) refl

-- ---- a full node
pub and_l : (a b : Bool) → (a && b) ≡ true → a ≡ true
and_l true b e = refl
and_l false b e = e

pub and_r : (a b : Bool) → (a && b) ≡ true → b ≡ true
and_r true b e = e
and_r false true e = refl
and_r false false e = e

module _ (ws : List ℕ) (o : ℕ) where
  pub full_at : (n : ℕ) → full_to ws o n ≡ true → (i : ℕ) → i < n → word ws (o + i * place_words + element_words) ≡ 1
  unfolding full_to
  full_at zero e i h = absurd (not-suc-le-zero h)
  full_at (suc n) e i h = go (eqb i n) refl (full_at n (and_l (full_to ws o n) (eqb (word ws (o + n * place_words + element_words)) 1) e) i)
    where
      last : word ws (o + n * place_words + element_words) ≡ 1
      last = eqb-true (word ws (o + n * place_words + element_words)) 1 (and_r (full_to ws o n) (eqb (word ws (o + n * place_words + element_words)) 1) e)

      go : (b : Bool) → eqb i n ≡ b → (i < n → word ws (o + i * place_words + element_words) ≡ 1) → word ws (o + i * place_words + element_words) ≡ 1
      go true p ih = ap (λ (k : ℕ). word ws (o + k * place_words + element_words)) (eqb-true i n p) ∙ last
      go false p ih = let ne : i ≡ n → ⊥ = eqb-false i n p in ih (omega arith)

  neat-flagged : (i : ℕ) → word ws (i + element_words) ≡ 1 → neat_place ws i ≡ true
  unfolding neat_place
  neat-flagged i e = rw (ne_eqb (word ws (i + element_words)) 0 (λ z. omega (arith, e)), eq-eqb (word ws (i + element_words)) 1 e) refl

  is-flagged : (i : ℕ) → word ws (i + element_words) ≡ 1 → is_flagged ws i ≡ true
  unfolding is_flagged
  is-flagged i e = rw (ne_eqb (word ws (i + element_words)) 0 (λ z. omega (arith, e))) refl

  -- neat, and every place flagged
  pub full-look : (n : ℕ) → full_to ws o n ≡ true → ((look_to ws o n).neat ≡ true) × ((look_to ws o n).count ≡ n) × ((look_to ws o n).free ≡ n)
  unfolding look_to see_one full_to
  full-look zero e = (refl, refl, refl)
  full-look (suc n) e =
      let m : word ws (o + n * place_words + element_words) ≡ 1 = eqb-true (word ws (o + n * place_words + element_words)) 1 (and_r (full_to ws o n) (eqb (word ws (o + n * place_words + element_words)) 1) e) in
      let ih = full-look n (and_l (full_to ws o n) (eqb (word ws (o + n * place_words + element_words)) 1) e) in
      rw (is-flagged (o + n * place_words) m, neat-flagged (o + n * place_words) m, ih.0, ih.1, ih.2, eq-eqb n n refl, add-one) (refl, refl, refl)

  module _ (small : (i : ℕ) → word ws i < 4294967296) (n : ℕ) (full : full_to ws o n ≡ true) where
    flagged : (i : ℕ) → i < n → word ws (o + i * place_words + element_words) ≡ 0 → ⊥
    flagged i h z = let e : word ws (o + i * place_words + element_words) ≡ 1 = full_at n full i h in not-suc-le-zero {n = 0} (omega (arith, e))

    lower-turn : (i k : ℕ) → i < n → k < n → lower_than (place_at (row_of place_of place_words n ws o) i) (place_at (row_of place_of place_words n ws o) k) ≡ ltb (turns ws o i) (turns ws o k)
    unfolding lower_than place_of place_by turn_at
    lower-turn i k h l =
        rw (row-place n ws o i h, row-place n ws o k l, ne_eqb (word ws (o + i * place_words + element_words)) 0 (flagged i h), ne_eqb (word ws (o + k * place_words + element_words)) 0 (flagged k l))
        (precedes-turn (element_in ws (o + i * place_words)) (element_in ws (o + k * place_words)) (small (o + i * place_words + 1)) (small (o + k * place_words + 1)))

    high-rank : (i k : ℕ) → i < n → k < n → high_as (place_at (row_of place_of place_words n ws o) i) (place_at (row_of place_of place_words n ws o) k) ≡ is_high (ranks ws o i) (ranks ws o k)
    high-rank i k h l = rw (row-place n ws o i h, row-place n ws o k l) (sym (high-both ws (o + i * place_words) (o + k * place_words) (flagged i h) (flagged k l)))

    pub full-low : (look_to ws o n).low ≡ low_to ws o n
    full-low = look-low ws o n n (omega arith) ∙ best-scan lower_than (row_of place_of place_words n ws o) ltb (turns ws o) n lower-turn n (omega arith)

    pub full-high : (look_to ws o n).high ≡ high_to ws o n
    full-high = look-high ws o n n (omega arith) ∙ best-scan high_as (row_of place_of place_words n ws o) is_high (ranks ws o) n high-rank n (omega arith)

    pub look-full : (a : Lead) → a ≡ low_lead ws o n → ◌≡◌ {A = Seen} (record { neat = true; count = n; free = 0; low = a.place; high = 0 }) (low_only (look_to ws o n))
    look-full a ea =
        let v = full-look n full in
        let l : a.place ≡ (look_to ws o n).low = ap (λ (u : Lead). u.place) ea ∙ sym full-low in
        λ i. record { neat = sym v.0 i; count = sym v.1 i; free = 0; low = l i; high = 0 }

-- ---- a neat node that is not full has room
neat-one : (a b c : Bool) → not a ≡ true → ((a && b) || c) ≡ true → c ≡ true
neat-one true b c t e = absurd (false≢true t)
neat-one false b c t e = e

pub counts-in : (limit : ℕ) (ws : List ℕ) (o : ℕ) → counts_ok limit ws o ≡ true → (word ws o ≤ limit) × (word ws (o + 1) ≤ limit)
unfolding counts_ok
counts-in limit ws o e =
    let a : Bool = leb (word ws o) limit in
    let b : Bool = leb (word ws (o + 1)) limit in
    (leb-true (word ws o) limit (and_l a b e), leb-true (word ws (o + 1)) limit (and_r a b e))

module _ (ws : List ℕ) (o : ℕ) where
  one_of : (i : ℕ) → is_flagged ws i ≡ true → neat_place ws i ≡ true → eqb (word ws (i + element_words)) 1 ≡ true
  unfolding is_flagged neat_place
  one_of i t e = neat-one (eqb (word ws (i + element_words)) 0) (is_blank (element_in ws i)) (eqb (word ws (i + element_words)) 1) t e

  neat-full : (n : ℕ) → (look_to ws o n).neat ≡ true → n ≤ (look_to ws o n).free → full_to ws o n ≡ true
  unfolding look_to see_one full_to
  neat-full zero e h = refl
  neat-full (suc n) e h =
      go (is_flagged ws (o + n * place_words)) refl (eqb (look_to ws o n).free n) refl h (neat-full n (and_l (look_to ws o n).neat (neat_place ws (o + n * place_words)) e)) (within ws o n).free
    where
      go : (a : Bool) → is_flagged ws (o + n * place_words) ≡ a → (b : Bool) → eqb (look_to ws o n).free n ≡ b → suc n ≤ cond (a && b) (n + 1) (look_to ws o n).free
          → (n ≤ (look_to ws o n).free → full_to ws o n ≡ true) → (look_to ws o n).free ≤ n → (full_to ws o n && eqb (word ws (o + n * place_words + element_words)) 1) ≡ true
      go true p true q h ih le =
          let f : full_to ws o n ≡ true = ih (omega (arith, eqb-true (look_to ws o n).free n q)) in
          rw (f, one_of (o + n * place_words) p (and_r (look_to ws o n).neat (neat_place ws (o + n * place_words)) e)) refl
      go true p false q h ih le = absurd (not-suc-le-zero {n = 0} (omega arith))
      go false p b q h ih le = absurd (not-suc-le-zero {n = 0} (omega arith))

  pub neat-room : (n : ℕ) → (look_to ws o n).neat ≡ true → full_to ws o n ≡ false → (look_to ws o n).free < n
  neat-room n e nf = go (ltb (look_to ws o n).free n) refl
    where
      go : (b : Bool) → ltb (look_to ws o n).free n ≡ b → (look_to ws o n).free < n
      go true t = ltb-true (look_to ws o n).free n t
      go false t = absurd (false≢true (sym nf ∙ neat-full n e (ltb-false (look_to ws o n).free n t)))

-- ---- the rank of a turn
pub turn-rank : (r t : ℕ) → t < 4294967296 → (r * 4294967296 + t) / 4294967296 ≡ r
turn-rank r t h = omega arith

-- a full node is in order if its counts are
pub ok-full : (K limit : ℕ) (ws : List ℕ) (o : ℕ) (v : Seen) → v.neat ≡ true → v.count ≡ K → ok_by K limit ws o v ≡ counts_ok limit ws o
unfolding ok_by counts_ok
ok-full K limit ws o v n c = rw (n, c, le-leb K K (omega arith)) (go (leb (word ws o) limit) (leb (word ws (o + 1)) limit) (bare_at ws o))
  where
    go : (a b d : Bool) → (a && (b && (d || true))) ≡ (a && b)
    go true true true = refl
    go true true false = refl
    go true false d = refl
    go false b d = refl

peek-ok : (K limit : ℕ) (ws : List ℕ) (o : ℕ) (v : Seen) → 1 < K → v.neat ≡ true → v.count ≡ K → (ok_by K limit ws o v && not (eqb v.count 0)) ≡ counts_ok limit ws o
peek-ok K limit ws o v h n c = rw (ok-full K limit ws o v n c, c, ne_eqb K 0 (λ z. omega arith)) (go (counts_ok limit ws o))
  where
    go : (a : Bool) → (a && true) ≡ a
    go true = refl
    go false = refl

pub peek-full : (K limit : ℕ) (ws : List ℕ) (o count : ℕ) → ((i : ℕ) → word ws i < 4294967296) → 1 < K → (count ≡ 0 → ⊥) → (a : Lead) → a ≡ low_lead ws (o + 2) K → a.full ≡ true
    → (fine : Bool) → fine ≡ counts_ok limit ws o → ◌≡◌ {A = Found} (record { ok = fine; place = a.place; rank = a.best / 4294967296 }) (peek_at K limit ws o count)
unfolding peek_at peek_here turn_at
peek-full K limit ws o count small h ne a ea ef fine e =
    let full : full_to ws (o + 2) K ≡ true = sym (ap (λ (u : Lead). u.full) ea) ∙ ef in
    let v = full-look ws (o + 2) K full in
    let l : (look_to ws (o + 2) K).low ≡ low_to ws (o + 2) K = full-low ws (o + 2) small K full in
    let p : a.place ≡ (look_to ws (o + 2) K).low = ap (λ (u : Lead). u.place) ea ∙ sym l in
    let i : ℕ = o + 2 + low_to ws (o + 2) K * place_words in
    let r : a.best / 4294967296 ≡ word ws (o + 2 + (look_to ws (o + 2) K).low * place_words) = ap (λ (u : Lead). u.best / 4294967296) ea ∙ turn-rank (word ws i) (word ws (i + 1)) (small (i + 1)) ∙ ap (λ (j : ℕ). word ws (o + 2 + j * place_words)) (sym l) in
    let k : fine ≡ (ok_by K limit ws o (look_to ws (o + 2) K) && not (eqb (look_to ws (o + 2) K).count 0)) = e ∙ sym (peek-ok K limit ws o (look_to ws (o + 2) K) h v.0 v.1) in
    rw (ne_eqb count 0 ne) (λ t. record { ok = k t; place = p t; rank = r t })

-- ---- where a scan begins and ends
pub low_first : (ws : List ℕ) (o n : ℕ) → n ≡ turn_at ws o → (0 ≡ low_to ws o 0) × (n ≡ turns ws o (low_to ws o 0))
low_first ws o n e = let z : o ≡ o + 0 * place_words = omega arith in best-first ltb (turns ws o) n (e ∙ ap (turn_at ws) z)

pub high-first : (ws : List ℕ) (o n : ℕ) → n ≡ word ws o → (0 ≡ high_to ws o 0) × (n ≡ ranks ws o (high_to ws o 0))
high-first ws o n e = let z : o ≡ o + 0 * place_words = omega arith in best-first is_high (ranks ws o) n (e ∙ ap (word ws) z)

module _ (ws : List ℕ) (o n j : ℕ) (full : Bool) (place best : ℕ) (end : j ≡ n) (f : full ≡ full_to ws o j) where
  pub low_end : place ≡ low_to ws o j → best ≡ turns ws o (low_to ws o j) → ◌≡◌ {A = Lead} (record { full = full; place = place; best = best }) (low_lead ws o n)
  low_end p b = rw (← end) (λ i. record { full = f i; place = p i; best = b i })

  pub high_end : place ≡ high_to ws o j → best ≡ ranks ws o (high_to ws o j) → ◌≡◌ {A = Lead} (record { full = full; place = place; best = best }) (high_lead ws o n)
  high_end p b = rw (← end) (λ i. record { full = f i; place = p i; best = b i })
